use Rattle.std.proofs.Common.{◌+◌, ◌∷◌, List, ℕ, drop, sym, ap, ◌∙◌}
use Rattle.std.proofs.lemmas.List.{drop_more}
use Rattle.fac_lang.specs.declared.program.Lit.{Lit}
use Rattle.fac_locals.specs.inner.Numbering.{elements_count}
use Rattle.fac_locals.proofs.ArraySteps.{counts_step}
use Rattle.fac_locals.proofs.counting.count_arrays.Goals as goal

pub loop-elements-preserved : goal.loop-elements-preserved
loop-elements-preserved c =
    let at = c.loop-elements in
    let lss = c.args.arrays.now in
    let k = at.elements-index in
    let ls = c.elements-item.result in
    counts_step _ at.counts.items c.push.new.self.items (drop k lss) (drop (k + 1) lss) ls c.in_ok-count.count at.invariant (drop_more lss k ls c.loop-elements-test.true ∙ ap (λ (x : List Lit). x ∷ drop (k + 1) lss) (sym c.elements-item.is)) (c.in_ok-count.ensures ∙ ap (λ (cs : List ℕ). elements_count cs c.as_slice.result.now) c.as_slice-in-loop-elements.ensures.value ∙ ap (elements_count at.counts.items) c.as_slice.ensures) c.in_ok-push.ensures.items
