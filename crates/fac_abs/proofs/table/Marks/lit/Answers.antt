use Rattle.std.proofs.Common.{◌≡◌, ◌<◌, ℕ, [], get_or, subst, sym, ap, ◌∙◌}
use Rattle.std.specs.Map.{keys_of, values_of}
use Rattle.fac_lang.specs.Phrases.{Mark, lit_mark}
use Rattle.fac_abs.specs.declared.mark_node.MarkNode.TheVariants.{Lit}
use Rattle.fac_abs.specs.Marks.{mark_depth, limited}
use Rattle.fac_abs.specs.MarkTrees.{Naming, tree, trees}
use Rattle.fac_abs.specs.inner.Interning.{deepest_of}
use Rattle.fac_abs.specs.SeenMarks.{MarksSeen, frame_of}
use Rattle.fac_abs.proofs.LimitLemmas.{lit_reads, literal_kept, literal_lost, renamed}
use Rattle.fac_abs.proofs.SeenLemmas.{frame_in, frame_within, frame_below, cells_low, literal_depth}
use Rattle.fac_abs.proofs.table.Marks.lit.Goals as goal

pub frame_depth-requires-clause-frame : goal.frame_depth-requires-clause-frame
frame_depth-requires-clause-frame c = frame_in c.self.inside.templates c.self.inside.frames (keys_of c.self.inside.nodes) c.self.inside.stack_nodes c.args.self.now c.self.view_is c.args.frame c.requires.frame

pub frame_depth-requires-clause-marks : goal.frame_depth-requires-clause-marks
frame_depth-requires-clause-marks c = cells_low c.self.inside.templates c.self.inside.frames (keys_of c.self.inside.nodes) c.self.inside.stack_nodes c.args.self.now c.self.view_is c.args.frame c.requires.frame

pub make-requires-clause-parts : goal.make-requires-clause-parts
make-requires-clause-parts c = (c.requires.template, frame_within c.args.self.now c.args.frame c.requires.frame, frame_below c.args.self.now c.args.frame c.requires.frame)

pub make-requires-clause-depth : goal.make-requires-clause-depth
make-requires-clause-depth c =
    subst (λ (M : MarksSeen). (N : Naming) → c.in-Some.depth ≡ mark_depth (tree N M.frames (trees N M.frames M.nodes) (Lit c.args.template c.args.frame))) c.self.view_is (λ N. c.in-Some.ensures.1 ∙ literal_depth c.self.inside.templates c.self.inside.frames N (keys_of c.self.inside.nodes) (values_of c.self.inside.nodes) c.args.template c.args.frame c.self.invariant.1)

pub returns-in-Some-clause-made : goal.returns-in-Some-clause-made
returns-in-Some-clause-made c =
    let M = c.args.self.now in
    let q = c.args.template in
    let f = c.args.frame in
    let deep = subst (λ (M : MarksSeen). (N : Naming) → c.in-Some.depth ≡ mark_depth (tree N M.frames (trees N M.frames M.nodes) (Lit q f))) c.self.view_is (λ N. c.in-Some.ensures.1 ∙ literal_depth c.self.inside.templates c.self.inside.frames N (keys_of c.self.inside.nodes) (values_of c.self.inside.nodes) q f c.self.invariant.1) in
    let made : (N : Naming) → tree N M.frames (trees N M.frames M.nodes) (Lit q f) ≡ limited (lit_mark (N.literal q) (N.phrase q (frame_of N M f))) =
    λ N.
    lit_reads N M q f ∙ sym (literal_kept (lit_mark (N.literal q) (N.phrase q (frame_of N M f))) c.in-Some.depth (deep N ∙ ap mark_depth (lit_reads N M q f)) c.in-Some.ensures.0) in
    renamed c.make.new.self _ _ made c.make.result c.make.ensures.made

pub returns-in-None-clause-made : goal.returns-in-None-clause-made
returns-in-None-clause-made c =
    let M = c.args.self.now in
    let q = c.args.template in
    let f = c.args.frame in
    let d : ℕ = deepest_of (values_of c.self.inside.nodes) (get_or c.self.inside.frames f []) in
    let deep = subst (λ (M : MarksSeen). (N : Naming) → d ≡ mark_depth (tree N M.frames (trees N M.frames M.nodes) (Lit q f))) c.self.view_is (λ N. literal_depth c.self.inside.templates c.self.inside.frames N (keys_of c.self.inside.nodes) (values_of c.self.inside.nodes) q f c.self.invariant.1) in
    record {
      valid = c.unknown.ensures.any.valid;
      is = λ N. c.unknown.ensures.any.is N ∙ sym (literal_lost (lit_mark (N.literal q) (N.phrase q (frame_of N M f))) d (deep N ∙ ap mark_depth (lit_reads N M q f)) c.in-None.ensures);
    }
