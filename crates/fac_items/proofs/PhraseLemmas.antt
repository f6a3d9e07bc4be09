-- Phrases one behind another.
use Rattle.std.proofs.Common.{◌≡◌, ◌<◌, ℕ, Result, Ok, Err, IfOk, List, [], ◌∷◌, ◌++◌, length, reverse, refl, ap, ◌∙◌, sym, arith}
use Rattle.std.proofs.lemmas.List.{reverse-append, length-reverse}
use Rattle.fac_lang.specs.PhraseView.{choices_behind, choices_from, items_phrase, what_item}
use Rattle.fac_lang.specs.Phrases.{Phrase, end, then, quot, word}
use Rattle.fac_lang.specs.RunningLaws.{append}
use Rattle.fac_lang.specs.declared.phrase.Item.{Item as PlacedItem}
use Rattle.fac_base.specs.declared.place.Place.{Place}
use Rattle.fac_lang.specs.declared.phrase.What.{What}

pub append_end : (t : Phrase) → append t end ≡ t
append_end end = refl
append_end (then i p t) = ap (then i p) (append_end t)

pub append_three : (t u v : Phrase) → append (append t u) v ≡ append t (append u v)
append_three end u v = refl
append_three (then i p t) u v = ap (then i p) (append_three t u v)

pub items_phrase_append : (is js : List PlacedItem) → items_phrase (is ++ js) ≡ append (items_phrase is) (items_phrase js)
items_phrase_append [] js = refl
items_phrase_append (i ∷ is) js = ap (then (what_item i.what) i.place) (items_phrase_append is js)

pub items_push : (is : List PlacedItem) (what : What) (place : Place) → items_phrase (is ++ (record { what = what; place = place }) ∷ []) ≡ append (items_phrase is) (then (what_item what) place end)
items_push is what place = items_phrase_append is ((record { what = what; place = place }) ∷ [])

-- two items behind others
pub two_behind :
    (is js ks : List PlacedItem) (a b : PlacedItem) → js ≡ is ++ a ∷ [] → ks ≡ js ++ b ∷ [] → items_phrase ks ≡ append (items_phrase is) (then (what_item a.what) a.place (then (what_item b.what) b.place end))
two_behind is js ks a b e f =
    let one = ap items_phrase e ∙ items_phrase_append is (a ∷ []) in
    ap items_phrase f ∙ items_phrase_append js (b ∷ []) ∙ ap (λ (t : Phrase). append t (then (what_item b.what) b.place end)) one ∙ append_three (items_phrase is) (then (what_item a.what) a.place end) (then (what_item b.what) b.place end)

-- choices of two phrases, the inner one first
pub two_choices : (w : ℕ) (p : Place) (t u : Phrase) → choices_from w p (reverse (t ∷ u ∷ [])) ≡ append u (then (quot t) p (then (word w) p end))
two_choices w p t u = ap (λ (v : Phrase). append u (then (quot v) p (then (word w) p end))) (append_end t)

-- choices inside a phrase
choices_inside : (w : ℕ) (p : Place) (ts : List Phrase) → 0 < length ts → choices_behind w p ts ≡ then (quot (choices_from w p ts)) p (then (word w) p end)
choices_inside w p [] lt = absurd (omega (arith, lt))
choices_inside w p (t ∷ ts) lt = refl

-- a phrase around choices
pub more_choices : (w : ℕ) (p : Place) (ts : List Phrase) (t : Phrase) → 0 < length ts → choices_from w p (reverse (ts ++ t ∷ [])) ≡ append t (then (quot (choices_from w p (reverse ts))) p (then (word w) p end))
more_choices w p ts t lt =
    ap (choices_from w p) (reverse-append ts (t ∷ [])) ∙ ap (append t) (choices_inside w p (reverse ts) (omega (arith, lt, length-reverse ts)))

-- what follows of an answer where there is one
pub so_if_ok : {A E : Type 0} (P Q : A → Type 0) (r : Result A E) → ((x : A) → P x → Q x) → IfOk r P → IfOk r Q
so_if_ok P Q (Ok x) so h = so x h
so_if_ok P Q (Err e) so h = tt
