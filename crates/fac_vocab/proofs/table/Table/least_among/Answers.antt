use Rattle.std.proofs.Common.{◌∙◌, sym, ap, subst, List, ℕ, Bool, []}
use Rattle.fac_vocab.specs.declared.few.TheConstants.{FEW}
use Rattle.fac_vocab.specs.declared.least.Least.{Least}
use Rattle.fac_vocab.specs.Scopes.{Entry}
use Rattle.fac_vocab.specs.inner.Rows.{entries_at, kept_numbers, least_with}
use Rattle.fac_vocab.specs.inner.Leasts.{IsLeast, AreLeast, LeastWhere}
use Rattle.std.specs.Prelude.{take}
use Rattle.fac_vocab.proofs.UsedLemmas.{least_named}
use Rattle.fac_vocab.proofs.LeastLemmas.{least_late}
use Rattle.fac_vocab.proofs.table.Table.least_among.Goals as goal

pub returns-then-not-is_kept : goal.returns-then-not-is_kept
returns-then-not-is_kept c =
    let table = c.args.self.now in
    let used = c.args.used.now in
    least_named table c.args.name.now used c.least_used.result c.entries.ensures.once c.differ.ensures
    (ap (λ (t : List Entry). entries_at t (kept_numbers c.least_used.result)) (sym c.entries.ensures.all)
    ∙ c.least_used.ensures
    ∙ ap (λ (t : List Entry). least_with used t c.args.numbers.now []) c.entries.ensures.all
    ∙ ap (λ (ns : List ℕ). least_with used table ns []) c.requires.numbers)

pub returns : goal.returns
returns c =
    let table = c.args.self.now in
    let used = c.args.used.now in
    let name = c.args.name.now in
    let least = c.least_of.result in
    let are : AreLeast c.args.kept.now table used = subst (λ (b : Bool). LeastWhere b c.args.kept.now table used) c.if-not-is_kept.false c.requires.kept in
    least_late table used name least c.least_used-2.result c.entries-2.ensures.once c.differ.ensures (subst (λ (l : Least). IsLeast table used name l) (sym c.least_of.ensures) (are name))
    (ap (λ (t : List Entry). entries_at t (kept_numbers c.least_used-2.result)) (sym c.entries-2.ensures.all)
    ∙ c.least_used-2.ensures
    ∙ ap (λ (t : List Entry). least_with used t c.first_few.result.now (entries_at t (kept_numbers least))) c.entries-2.ensures.all
    ∙ ap (λ (ns : List ℕ). least_with used table ns (entries_at table (kept_numbers least))) (c.first_few.ensures ∙ ap (take FEW) c.requires.numbers))
