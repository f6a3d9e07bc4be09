use Rattle.std.proofs.Common.{◌≡◌, List, [], ◌++◌, drop, refl, sym, ap, ◌∙◌, arith}
use Rattle.std.proofs.lemmas.Grind.{common_steps}
use Rattle.fac_lang.specs.PrimitiveWords.{PrimitiveWord}
use Rattle.fac_items.proofs.KnownRowLemmas.{primitive_row_word, rows_written}
use Rattle.fac_names.specs.KnownWords.{primitives_from}
use Rattle.fac_names.proofs.KnownWordLemmas.{all_added, row_fits}
use Rattle.fac_names.proofs.known_words.add_primitives.Goals as goal

pub overflow_cast-number : goal.overflow_cast-number
overflow_cast-number c = row_fits c.primitives-rows.result.now c.loop-number.number c.primitives-rows.ensures c.loop-number-test.true

pub returns : goal.returns
returns c =
    let rows = c.primitives-rows.result.now in
    let none : drop c.loop-number.number rows ≡ [] = grind (arith, common_steps) in
    sym (all_added primitive_row_word primitives_from c.loop-number.words rows c.loop-number.number refl none)
    ∙ c.loop-number.invariant
    ∙ ap (λ (ws : List PrimitiveWord). c.args.words.now ++ primitives_from 0 ws) (rows_written rows c.primitives-rows.ensures)
