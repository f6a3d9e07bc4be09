-- Items with two more behind them, as they stand at the end of a quotation.
use Rattle.std.specs.Prelude.{ℕ}
use Rattle.fac_base.specs.declared.place.Place.{Place}
use Rattle.fac_lang.specs.Phrases.{Phrase, append, end, then, Item, word}
use Rattle.fac_lang.specs.PhraseView.{what_item}
use Rattle.fac_lang.specs.declared.phrase.Item.{Item as PlacedItem}

abbrev pub with_both : PlacedItem → PlacedItem → Phrase → Phrase
with_both i j t = append t (then (what_item i.what) i.place (then (what_item j.what) j.place end))

-- an item and the word that chooses, at one place
abbrev pub with_choice : Item → ℕ → Place → Phrase → Phrase
with_choice i w p t = append t (then i p (then (word w) p end))
