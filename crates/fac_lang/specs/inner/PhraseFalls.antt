-- Each phrase inside a phrase is less deep.
use Rattle.std.specs.Prelude.{◌≡◌, ◌≤◌, ◌+◌, ℕ, suc, max, List, [], ◌∷◌, ◌++◌, reverse}
use Rattle.std.proofs.Common.{refl, ap, arith}
use Rattle.std.proofs.lemmas.List.{reverse-append}
use denote.Param.Weighed.{most, most-append}
use Rattle.fac_lang.specs.declared.phrase.Item.{Item as PlacedItem}
use Rattle.fac_base.specs.declared.place.Place.{Place}
use Rattle.fac_lang.specs.declared.phrase.What.{What}
use Rattle.fac_lang.specs.declared.phrase.What.TheVariants.{Quot, Fry, Choices}
use Rattle.fac_lang.specs.declared.phrase.Phrase.TheDeep.{deep-What, deep-Item}
use Rattle.fac_lang.specs.Phrases.{Phrase, end, then, append, phrase_depth, item_depth}
use Rattle.fac_lang.specs.PhraseView.{choices_behind, choices_from, items_phrase, what_item}

-- two phrases are at most as deep as both together
pub first_falls : (t u : Phrase) → phrase_depth t ≤ phrase_depth (append t u)
first_falls end u = omega arith
first_falls (then i p t) u = omega (arith, first_falls t u)

pub second_falls : (t u : Phrase) → phrase_depth u ≤ phrase_depth (append t u)
second_falls end u = omega arith
second_falls (then i p t) u = omega (arith, second_falls t u)

-- the deepest of some phrases, in either order
abbrev pub deepest : List Phrase → ℕ
deepest ts = most (λ (t : Phrase). phrase_depth t + 1) ts

pub deepest_reversed : (ts : List Phrase) → deepest (reverse ts) ≡ deepest ts
deepest_reversed [] = refl
deepest_reversed (t ∷ ts) =
    let last : deepest (reverse (t ∷ ts)) ≡ deepest (reverse ts ++ t ∷ []) = ap deepest (reverse-append (t ∷ []) ts) in
    omega (arith, last, most-append (λ (u : Phrase). phrase_depth u + 1) (reverse ts) (t ∷ []), deepest_reversed ts)

-- each of the choices
pub behind_falls : (w : ℕ) (p : Place) (ts : List Phrase) → deepest ts ≤ phrase_depth (choices_behind w p ts)
behind_falls w p [] = omega arith
behind_falls w p (t ∷ ts) = omega (arith, behind_falls w p ts, first_falls t (choices_behind w p ts), second_falls t (choices_behind w p ts))

from_falls : (w : ℕ) (p : Place) (ts : List Phrase) → deepest ts ≤ suc (phrase_depth (choices_from w p ts))
from_falls w p [] = omega arith
from_falls w p (t ∷ ts) = omega (arith, behind_falls w p ts, first_falls t (choices_behind w p ts), second_falls t (choices_behind w p ts))

pub choices_fall : (w : ℕ) (p : Place) (ts : List Phrase) → deepest ts ≤ suc (phrase_depth (choices_from w p (reverse ts)))
choices_fall w p ts = omega (arith, deepest_reversed ts, from_falls w p (reverse ts))

what_falls : (w : What) → deep-What w ≤ item_depth (what_item w)
what_falls (Quot t) = omega arith
what_falls (Fry t n) = omega arith
what_falls (Choices c) = omega (arith, choices_fall c.value.word c.value.place c.value.phrases.items)
what_falls _ = omega arith

pub deep_falls : (is : List PlacedItem) → max (most deep-Item is) 0 ≤ phrase_depth (items_phrase is)
deep_falls [] = omega arith
deep_falls (i ∷ is) = omega (arith, deep_falls is, what_falls i.what)
