-- As for `curried`. The goals of each function are a module of its own, so answers of one shape are written for each.
use Rattle.std.proofs.Common.{◌≡◌, ◌<◌, true, sym, ap, ◌∙◌, arith}
use Rattle.fac_base.specs.declared.limits.TheConstants.{MOST_MARK_DEPTH}
use Rattle.fac_abs.specs.declared.mark_node.MarkNode.TheVariants.{Com}
use Rattle.fac_abs.specs.Marks.{mark_depth, is_callable, composed_mark}
use Rattle.fac_abs.specs.MarkTrees.{Naming, tree, trees}
use Rattle.fac_abs.specs.SeenMarks.{mark_of}
use Rattle.fac_abs.proofs.LimitLemmas.{composed_kept, com_reads, renamed}
use Rattle.fac_abs.proofs.SeenLemmas.{mark_within}
use Rattle.fac_abs.proofs.table.Marks.composed.Goals as goal

pub make-requires-clause-parts : goal.make-requires-clause-parts
make-requires-clause-parts c =
    let one = mark_within c.args.self.now c.args.first c.requires.first in
    let other = mark_within c.args.self.now c.args.second c.requires.second in
    (omega arith, omega arith)

pub returns-clause-made : goal.returns-clause-made
returns-clause-made c =
    let M = c.args.self.now in
    let made : (N : Naming) → tree N M.frames (trees N M.frames M.nodes) (Com c.args.first c.args.second) ≡ composed_mark (mark_of N M c.args.first) (mark_of N M c.args.second) =
    λ N.
    let first : is_callable (mark_of N M c.args.first) ≡ true = sym (c.is_callable.ensures N) ∙ c.if-not-is_callable.false in
    let second : is_callable (mark_of N M c.args.second) ≡ true = sym (c.is_callable-2.ensures N) ∙ c.if-not-is_callable-2.false in
    let deep : mark_depth (mark_of N M c.args.first) < MOST_MARK_DEPTH = omega (arith, c.depth-deep.ensures N) in
    let other : mark_depth (mark_of N M c.args.second) < MOST_MARK_DEPTH = omega (arith, c.depth-other.ensures N) in
    com_reads N M c.args.first c.args.second ∙ sym (composed_kept (mark_of N M c.args.first) (mark_of N M c.args.second) first second deep other) in
    renamed c.make.new.self _ _ made c.make.result c.make.ensures.made

pub make-requires-clause-depth : goal.make-requires-clause-depth
make-requires-clause-depth c = λ N.
    let M = c.args.self.now in
    omega (arith, ap mark_depth (com_reads N M c.args.first c.args.second), c.depth-deep.ensures N, c.depth-other.ensures N)
