use Rattle.std.proofs.Common.{ℕ, ◌+◌, ◌≤◌, length, ap, arith, subst, sym}
use Rattle.fac_emit.specs.ProgramTables.{word_numbers}
use Rattle.fac_emit.proofs.CountLemmas.{generics_step, numbers_step, few_generics}
use Rattle.fac_emit.proofs.numbers.numbers_of.Goals as goal

pub number_of_sort-requires-clause-generics : goal.number_of_sort-requires-clause-generics
number_of_sort-requires-clause-generics c = c.loop-word.invariant.generics_are

pub behind-generics-requires : goal.behind-generics-requires
behind-generics-requires c =
    let lt = c.loop-word-test.true in
    let inv = c.loop-word.invariant in
    let few = inv.few in
    let count = inv.count in
    let same = ap length c.as_slice-word-items.ensures in
    omega (arith, lt, few, count, same)

pub loop-word-preserved : goal.loop-word-preserved
loop-word-preserved c =
    let C = c.args.closed.now in
    let at = c.loop-word in
    let inv = at.invariant in
    let items = c.as_slice-word-items in
    let lt = c.loop-word-test.true in
    let i = at.word-index in
    let count = inv.count in
    let generics = generics_step C i c.word-item.result items.result.now items.ensures lt c.word-item.is at.number at.generics c.behind-generics.result count inv.generics_are c.behind-generics.ensures in
    record {
      count = omega (arith, count);
      generics_are = generics;
      few = subst (λ (g : ℕ). g ≤ at.number + 1) (sym generics) (few_generics C.program (at.number + 1));
      numbers_are = numbers_step C i c.word-item.result items.result.now items.ensures lt c.word-item.is at.number c.number_of_sort.result (word_numbers C) at.numbers _ count inv.numbers_are c.number_of_sort.ensures c.in_ok-push.ensures.ok;
    }
