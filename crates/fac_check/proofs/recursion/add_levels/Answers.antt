use Rattle.std.proofs.Common.{◌<◌, ◌+◌, ◌++◌, length, refl, arith}
use Rattle.fac_check.specs.inner.UndeclaredRecursion.{template_words}
use Rattle.fac_check.proofs.TakenPrograms.{level_within, level_makes_below, level_makes_from, all_from}
use Rattle.fac_check.proofs.NamedWords.{level_step}
use Rattle.fac_check.proofs.recursion.add_levels.Goals as goal

pub levels-init : goal.levels-init
levels-init c = record { below = c.requires.made; least = all_from c.args.made; names = λ P h v. refl }

pub overflow_add-depth : goal.overflow_add-depth
overflow_add-depth c =
    let some : 0 < length c.levels.level = omega (arith, c.levels-test.true, c.len.ensures) in
    let lt = level_within (length c.args.closed.now.templates) c.levels.depth c.levels.level some c.levels.invariant.below c.levels.invariant.least in
    omega (arith, lt, c.len-count.ensures, c.len-count.type_inv)

pub levels-smaller : goal.levels-smaller
levels-smaller c =
    let some : 0 < length c.levels.level = omega (arith, c.levels-test.true, c.len.ensures) in
    let lt = level_within (length c.args.closed.now.templates) c.levels.depth c.levels.level some c.levels.invariant.below c.levels.invariant.least in
    omega (arith, lt)

pub levels-preserved : goal.levels-preserved
levels-preserved c =
    let C = c.args.closed.now in
    let at = c.levels in
    let next = c.in_ok-level in
    record {
      below = level_makes_below C.program C.templates c.requires.program (at.depth + 1) at.level next.level next.ensures.made;
      least = level_makes_from C.templates (at.depth + 1) at.level next.level next.ensures.made;
      names = level_step C.program C.templates at.depth (at.depth + 1) at.level next.level at.named c.next_level.new.named (λ P. c.args.named.now ++ template_words P c.args.made) refl at.invariant.below at.invariant.least next.ensures.named next.ensures.made at.invariant.names;
    }
