-- As for `composed`. The goals of each function are a module of its own, so answers of one shape are written for each.
use Rattle.std.proofs.Common.{◌≡◌, ◌<◌, true, sym, ap, ◌∙◌, arith}
use Rattle.fac_base.specs.declared.limits.TheConstants.{MOST_MARK_DEPTH}
use Rattle.fac_abs.specs.declared.mark_node.MarkNode.TheVariants.{Cur}
use Rattle.fac_abs.specs.Marks.{mark_depth, is_callable, curried_mark}
use Rattle.fac_abs.specs.MarkTrees.{Naming, tree, trees}
use Rattle.fac_abs.specs.SeenMarks.{mark_of}
use Rattle.fac_abs.proofs.LimitLemmas.{curried_kept, cur_reads, renamed}
use Rattle.fac_abs.proofs.SeenLemmas.{mark_within}
use Rattle.fac_abs.proofs.table.Marks.curried.Goals as goal

pub make-requires-clause-parts : goal.make-requires-clause-parts
make-requires-clause-parts c =
    let one = mark_within c.args.self.now c.args.mark c.requires.mark in
    let other = mark_within c.args.self.now c.args.callable c.requires.callable in
    (omega arith, omega arith)

pub returns-clause-made : goal.returns-clause-made
returns-clause-made c =
    let M = c.args.self.now in
    let made : (N : Naming) → tree N M.frames (trees N M.frames M.nodes) (Cur c.args.mark c.args.callable) ≡ curried_mark (mark_of N M c.args.mark) (mark_of N M c.args.callable) =
    λ N.
    let callable : is_callable (mark_of N M c.args.callable) ≡ true = sym (c.is_callable.ensures N) ∙ c.if-not-is_callable.false in
    let first : mark_depth (mark_of N M c.args.mark) < MOST_MARK_DEPTH = omega (arith, c.depth-first.ensures N) in
    let second : mark_depth (mark_of N M c.args.callable) < MOST_MARK_DEPTH = omega (arith, c.depth-second.ensures N) in
    cur_reads N M c.args.mark c.args.callable ∙ sym (curried_kept (mark_of N M c.args.mark) (mark_of N M c.args.callable) callable first second) in
    renamed c.make.new.self _ _ made c.make.result c.make.ensures.made

pub make-requires-clause-depth : goal.make-requires-clause-depth
make-requires-clause-depth c = λ N.
    let M = c.args.self.now in
    omega (arith, ap mark_depth (cur_reads N M c.args.mark c.args.callable), c.depth-first.ensures N, c.depth-second.ensures N)
