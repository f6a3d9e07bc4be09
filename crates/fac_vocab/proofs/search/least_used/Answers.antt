use Rattle.std.proofs.Common.{◌∙◌, sym, ap, List, ℕ}
use Rattle.fac_vocab.specs.inner.Rows.{entries_at, kept_numbers, least_with}
use Rattle.fac_vocab.proofs.UsedLemmas.{least_last}
use Rattle.fac_vocab.proofs.search.least_used.Goals as goal

pub loop-number-preserved : goal.loop-number-preserved
loop-number-preserved c =
    c.loop-number.invariant
    ∙ ap (λ (ns : List ℕ). least_with c.args.used.now c.args.entries.now ns (entries_at c.args.entries.now (kept_numbers c.loop-number.least))) c.in-Some.ensures.cases.0
    ∙ least_last c.args.used.now c.args.entries.now c.in-Some.earlier.now c.in-Some.number.now (entries_at c.args.entries.now (kept_numbers c.loop-number.least))
    ∙ ap (least_with c.args.used.now c.args.entries.now c.in-Some.earlier.now) (sym c.with_number-least.ensures)
