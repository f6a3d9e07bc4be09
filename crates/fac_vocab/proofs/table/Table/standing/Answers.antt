use Rattle.std.proofs.Common.{◌∙◌, ap, List, ℕ}
use Rattle.fac_vocab.specs.Scopes.{Entry}
use Rattle.fac_vocab.specs.ScopeCalls.{standing_of}
use Rattle.fac_vocab.specs.inner.Index.{numbers_in}
use Rattle.fac_vocab.specs.inner.Rows.{numbers_named, in_table, entries_at}
use Rattle.fac_vocab.proofs.RowLemmas.{stands_named}
use Rattle.fac_vocab.proofs.table.Table.standing.Goals as goal

pub returns : goal.returns
returns c =
    let table = c.args.self.now in
    let vocab = c.as_str-2.result.now in
    let name = c.args.name.now.name in
    stands_named table c.args.name.now.vocab name c.standing_in.result
    (c.standing_in.ensures
    ∙ ap (λ (t : List Entry). standing_of (in_table vocab (entries_at t c.numbers_of.result.now))) (c.as_slice.ensures.value ∙ c.self.view_is)
    ∙ ap (λ (ns : List ℕ). standing_of (in_table vocab (entries_at table ns))) (c.numbers_of.ensures ∙ ap (numbers_in c.self.inside.index) c.as_str.ensures ∙ c.self.invariant.0.numbers name ∙ ap (numbers_named 0 name) c.self.view_is)
    ∙ ap (λ (v : List ℕ). standing_of (in_table v (entries_at table (numbers_named 0 name table)))) c.as_str-2.ensures)
