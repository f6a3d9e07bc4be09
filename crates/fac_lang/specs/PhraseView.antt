-- The tree that a phrase stands for.
use Rattle.std.specs.Prelude.{ℕ, List, [], ◌∷◌, reverse}
use Rattle.fac_lang.specs.declared.phrase.Choices.{Choices as ChoicesRead}
use Rattle.fac_base.specs.declared.place.Place.{Place}
use Rattle.fac_lang.specs.declared.phrase.Item.{Item as PlacedItem}
use Rattle.fac_lang.specs.declared.phrase.What.{What}
use Rattle.fac_lang.specs.declared.phrase.What.TheVariants.{Int, True, False, Str, Arr, Wref, Quot, Choices, Word, Bind, Local, Fry, Hole, CallEffect, ExecuteEffect, NextMethod, NextAfter, Made}
use Rattle.fac_lang.specs.Phrases.{int, yes, no, str, wrd, Phrase, end, then, append, Item, lit, lit_arr, quot, word, bind, local, fry, hole, call_effect, execute_effect, next_method, made, next_after}

-- What stands behind a phrase where these are the choices inside it, an outer one first: a quotation of the next one with what stands behind that, and the word that chooses.
abbrev pub choices_behind : ℕ → Place → List Phrase → Phrase
choices_behind w p [] = end
choices_behind w p (t ∷ ts) = then (quot (append t (choices_behind w p ts))) p (then (word w) p end)

-- the outermost phrase with those inside it
abbrev pub choices_from : ℕ → Place → List Phrase → Phrase
choices_from w p [] = end
choices_from w p (t ∷ ts) = append t (choices_behind w p ts)

abbrev pub choices_phrase : ChoicesRead → Phrase
choices_phrase c = choices_from c.word c.place (reverse c.phrases.items)

abbrev pub what_item : What → Item
what_item (Int z) = lit (int z)
what_item True = lit yes
what_item False = lit no
what_item (Str s) = lit (str s)
what_item (Arr n) = lit_arr n
what_item (Wref n) = lit (wrd n)
what_item (Quot p) = quot p
what_item (Choices c) = quot (choices_phrase c.value)
what_item (Word n) = word n
what_item (Bind n) = bind n
what_item (Local n) = local n
what_item (Fry p n) = fry p n
what_item (Hole n) = hole n
what_item (CallEffect h) = call_effect h
what_item (ExecuteEffect h) = execute_effect h
what_item NextMethod = next_method
what_item (NextAfter n) = next_after n
what_item (Made n) = made n

-- the phrase of a list of items
abbrev pub items_phrase : List PlacedItem → Phrase
items_phrase [] = end
items_phrase (i ∷ is) = then (what_item i.what) i.place (items_phrase is)
