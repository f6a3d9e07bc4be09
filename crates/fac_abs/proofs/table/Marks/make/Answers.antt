-- As for `bind`. The goals of each function are a module of its own, so answers of one shape are written for each.
use Rattle.std.proofs.Common.{IfOk, ◌≡◌, length, subst, sym}
use Rattle.std.specs.Map.{keys_of}
use Rattle.fac_abs.specs.Marks.{mark_depth}
use Rattle.fac_abs.specs.MarkTrees.{Naming, tree, trees}
use Rattle.fac_abs.specs.inner.Interning.{HasPartsBelow}
use Rattle.fac_abs.specs.SeenMarks.{MarksSeen, Grows}
use Rattle.fac_abs.specs.MarkPromises.{IsMarkOf}
use Rattle.fac_abs.proofs.MarkTableLemmas.{interned_by, keys_stay, ordered_by, told_by}
use Rattle.fac_abs.proofs.SeenLemmas.{seen, grows_by, made_by}
use Rattle.fac_abs.proofs.table.Marks.make.Goals as goal

pub returns-clause-grows : goal.returns-clause-grows
returns-clause-grows c =
    let ns = keys_of c.self.inside.nodes in
    let ss = c.self.inside.stack_nodes in
    let q = c.self.inside.templates in
    let fs = c.self.inside.frames in
    let more = keys_of c.intern.new.self in
    let kept = interned_by c.self.inside.nodes c.intern.new.self c.args.node c.args.depth c.intern.result c.intern.ensures.made in
    subst (λ (M : MarksSeen). Grows M (seen q fs more ss)) c.self.view_is (grows_by q fs ns more ss c.args.node c.intern.result kept (keys_stay c.self.inside.nodes c.intern.new.self c.intern.result c.intern.ensures.err))

pub returns-clause-made : goal.returns-clause-made
returns-clause-made c =
    let ns = keys_of c.self.inside.nodes in
    let ss = c.self.inside.stack_nodes in
    let q = c.self.inside.templates in
    let fs = c.self.inside.frames in
    let more = keys_of c.intern.new.self in
    let kept = interned_by c.self.inside.nodes c.intern.new.self c.args.node c.args.depth c.intern.result c.intern.ensures.made in
    let parts = subst (λ (M : MarksSeen). HasPartsBelow M.templates M.frames (length M.nodes) c.args.node) (sym c.self.view_is) c.requires.parts in
    let ordered = ordered_by c.self.inside.nodes c.intern.new.self c.args.node c.args.depth q fs c.self.invariant.0 parts c.intern.result c.intern.ensures.made c.intern.ensures.err in
    subst (λ (M : MarksSeen). IfOk c.intern.result (λ r. IsMarkOf (seen q fs more ss) r (λ N. tree N M.frames (trees N M.frames M.nodes) c.args.node))) c.self.view_is (made_by q fs ns more ss c.args.node parts ordered c.intern.result kept)

pub invariant_of-self : goal.invariant_of-self
invariant_of-self c =
    let q = c.self.inside.templates in
    let fs = c.self.inside.frames in
    let parts = subst (λ (M : MarksSeen). HasPartsBelow M.templates M.frames (length M.nodes) c.args.node) (sym c.self.view_is) c.requires.parts in
    let deep = subst (λ (M : MarksSeen). (N : Naming) → c.args.depth ≡ mark_depth (tree N M.frames (trees N M.frames M.nodes) c.args.node)) (sym c.self.view_is) c.requires.depth in
    (ordered_by c.self.inside.nodes c.intern.new.self c.args.node c.args.depth q fs c.self.invariant.0 parts c.intern.result c.intern.ensures.made c.intern.ensures.err, told_by c.self.inside.nodes c.intern.new.self c.args.node c.args.depth q fs c.self.invariant.1 deep c.intern.result c.intern.ensures.made c.intern.ensures.err)
