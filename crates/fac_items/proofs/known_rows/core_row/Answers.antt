use Rattle.std.proofs.Common.{Option, sym, ap, ◌∙◌}
use Rattle.std.specs.Option.{option_map}
use Rattle.fac_lang.specs.CoreWords.{TableCore}
use Rattle.fac_items.specs.inner.KnownRows.{option_row}
use Rattle.fac_items.proofs.KnownRowLemmas.{core_at, found_at}
use Rattle.fac_items.proofs.known_rows.core_row.Goals as goal

pub returns-in-Some : goal.returns-in-Some
returns-in-Some c =
    let rows = c.core_words.result.now in
    ap (λ (o : Option TableCore). option_row (option_map (λ (r : TableCore). r.word) o)) (sym (found_at rows c.args.place c.in-Some.row.now _ c.in-Some.ensures.lookup.0 c.in-Some.ensures.lookup.1)) ∙ core_at rows c.args.place c.core_words.ensures
