-- What a phrase asks for, item by item from its end, and what choices inside one another ask for, from the innermost on.
use Rattle.std.proofs.Common.{◌≡◌, ◌≤◌, ◌<◌, ◌+◌, ℕ, suc, List, [], ◌∷◌, ◌++◌, length, get_or, take, reverse, false, refl, sym, ap, ◌∙◌, subst, append_assoc, append-nil, arith}
use Rattle.std.proofs.Math.Seq.{take-suc}
use Rattle.fac_lang.specs.inner.PhraseFalls.{first_falls, second_falls, deepest, deepest_reversed, behind_falls}
use Rattle.std.proofs.lemmas.List.{reverse-append}
use Rattle.fac_lang.specs.declared.phrase.Choices.{Choices}
use Rattle.fac_base.specs.declared.place.Place.{Place}
use Rattle.fac_lang.specs.declared.phrase.Item.{Item as PlacedItem}
use Rattle.fac_lang.specs.Phrases.{Phrase, end, then, Item, quot, word, append, phrase_depth, item_depth}
use Rattle.fac_lang.specs.PhraseView.{what_item, items_phrase, choices_behind, choices_from, choices_phrase}
use Rattle.fac_locals.specs.declared.cell.Cell.{Cell}
use Rattle.fac_locals.specs.declared.asking.Asked.{Asked}
use Rattle.fac_locals.specs.Asked.{has_cell, AsksFor, AreAskedBy, quotations_in, quotations_at}

-- What was done of a phrase from its end: these items are left, and this is what those behind them ask for, with what asks for the first of these behind the phrase.
pub record Behind (t : Phrase) (left : List PlacedItem) (first a : Asked) (start all : List Asked) : Type 0 where
  pub behind : List PlacedItem
  pub whole : t ≡ items_phrase (left ++ behind)
  pub cells : (u : Phrase) → AsksFor u first → AsksFor (append (items_phrase behind) u) a
  pub inside : (is : List Item) → AreAskedBy is start → AreAskedBy (quotations_in (items_phrase behind) ++ is) all

-- before any item
pub none_behind : (t : Phrase) (left : List PlacedItem) (a : Asked) (all : List Asked) → t ≡ items_phrase left → Behind t left a a all all
none_behind t left a all e =
    record {
      behind = [];
      whole = e ∙ ap items_phrase (sym (append-nil left));
      cells = λ u h. h;
      inside = λ is h. h;
    }

-- one item more
pub one_behind :
    (t : Phrase) (left earlier : List PlacedItem) (i : PlacedItem) (first a b : Asked) (start all now : List Asked) → left ≡ earlier ++ i ∷ [] →
    ((p : Place) (u : Phrase) → AsksFor u a → AsksFor (then (what_item i.what) p u) b) → ((is : List Item) → AreAskedBy is all → AreAskedBy (quotations_at (what_item i.what) ++ is) now) → Behind t left first a start all → Behind t earlier first b start now
one_behind t left earlier i first a b start all now e cells inside h =
    record {
      behind = i ∷ h.behind;
      whole = h.whole ∙ ap items_phrase (ap (λ (l : List PlacedItem). l ++ h.behind) e ∙ append_assoc earlier (i ∷ []) h.behind);
      cells = λ u asks. cells i.place (append (items_phrase h.behind) u) (h.cells u asks);
      inside = λ is g. subst (λ (l : List Item). AreAskedBy l now) (sym (append_assoc (quotations_at (what_item i.what)) (quotations_in (items_phrase h.behind)) is)) (inside (quotations_in (items_phrase h.behind) ++ is) (h.inside is g));
    }

-- all items
pub all_behind_asks : (t : Phrase) (first a : Asked) (start all : List Asked) → Behind t [] first a start all → (u : Phrase) → AsksFor u first → AsksFor (append t u) a
all_behind_asks t first a start all h u asks = subst (λ (v : Phrase). AsksFor (append v u) a) (sym h.whole) (h.cells u asks)

pub all_behind_inside : (t : Phrase) (first a : Asked) (start all : List Asked) → Behind t [] first a start all → (is : List Item) → AreAskedBy is start → AreAskedBy (quotations_in t ++ is) all
all_behind_inside t first a start all h is g = subst (λ (u : Phrase). AreAskedBy (quotations_in u ++ is) all) (sym h.whole) (h.inside is g)

-- nothing stands behind a phrase
append_end : (t : Phrase) → append t end ≡ t
append_end end = refl
append_end (then i p t) = ap (λ (u : Phrase). then i p u) (append_end t)

pub asks_alone : (t : Phrase) (first a : Asked) → ((c : Cell) → has_cell first c ≡ false) → ((u : Phrase) → AsksFor u first → AsksFor (append t u) a) → AsksFor t a
asks_alone t first a none asks = subst (λ (u : Phrase). AsksFor u a) (append_end t) (asks end none)

-- the quotations of one phrase behind another
quotations_both : (t u : Phrase) → quotations_in (append t u) ≡ quotations_in t ++ quotations_in u
quotations_both end u = refl
quotations_both (then i p t) u = ap (λ (is : List Item). quotations_at i ++ is) (quotations_both t u) ∙ sym (append_assoc (quotations_at i) (quotations_in t) (quotations_in u))

-- those of a quotation with a word behind it
quotation_alone : (t : Phrase) (is : List Item) → (quot t ∷ (quotations_in t ++ [])) ++ is ≡ quot t ∷ (quotations_in t ++ is)
quotation_alone t is = ap (λ (js : List Item). quot t ∷ (js ++ is)) (append-nil (quotations_in t))

-- a phrase before what stands behind it
pub asked_inside :
    (t u : Phrase) (start all now : List Asked) → ((is : List Item) → AreAskedBy is start → AreAskedBy (quotations_in u ++ is) all) → ((is : List Item) → AreAskedBy is all → AreAskedBy (quotations_in t ++ is) now) →
    (is : List Item) → AreAskedBy is start → AreAskedBy (quotations_in (append t u) ++ is) now
asked_inside t u start all now so_far inside is g =
    let whole : quotations_in (append t u) ++ is ≡ quotations_in t ++ (quotations_in u ++ is) = ap (λ (js : List Item). js ++ is) (quotations_both t u) ∙ append_assoc (quotations_in t) (quotations_in u) is in
    subst (λ (js : List Item). AreAskedBy js now) (sym whole) (inside (quotations_in u ++ is) (so_far is g))

-- What these choices ask for, an outer one first, with the quotation around each, and what was noted of them.
pub record ChoicesBehind (ts : List Phrase) (a : Asked) (start all : List Asked) : Type 0 where
  pub cells : (w : ℕ) (p : Place) → AsksFor (choices_behind w p ts) a
  pub inside : (w : ℕ) (p : Place) (is : List Item) → AreAskedBy is start → AreAskedBy (quotations_in (choices_behind w p ts) ++ is) all

-- before any choice
pub none_chosen : (a : Asked) (all : List Asked) → ((c : Cell) → has_cell a c ≡ false) → ChoicesBehind [] a all all
none_chosen a all none = record { cells = λ w p. none; inside = λ w p is h. h }

-- one choice more
pub one_chosen :
    (ts us : List Phrase) (t : Phrase) (a inner b : Asked) (start all mid now : List Asked) → us ≡ t ∷ ts →
    ((u : Phrase) → AsksFor u a → AsksFor (append t u) inner) → ((is : List Item) → AreAskedBy is all → AreAskedBy (quotations_in t ++ is) mid) →
    ((w : ℕ) (p : Place) (u : Phrase) → AsksFor u inner → AsksFor (then (quot u) p (then (word w) p end)) b) → now ≡ inner ∷ mid → ChoicesBehind ts a start all → ChoicesBehind us b start now
one_chosen ts us t a inner b start all mid now e cells inside chosen noted h =
    subst
    (λ (vs : List Phrase). ChoicesBehind vs b start now)
    (sym e)
    (record {
      cells = λ w p. chosen w p (append t (choices_behind w p ts)) (cells (choices_behind w p ts) (h.cells w p));
      inside = λ w p is g.
          let rest = choices_behind w p ts in
          subst (λ (js : List Item). AreAskedBy js now) (sym (quotation_alone (append t rest) is)) (inner, mid, noted, cells rest (h.cells w p), asked_inside t rest start all mid (h.inside w p) inside is g);
    })

-- the choices with one more, the innermost first
one_more : (ts us : List Phrase) (t : Phrase) → us ≡ ts ++ t ∷ [] → reverse us ≡ t ∷ reverse ts
one_more ts us t e = ap (λ (vs : List Phrase). reverse vs) e ∙ reverse-append ts (t ∷ [])

pub next_chosen : (ts : List Phrase) (i : ℕ) (t : Phrase) → i < length ts → t ≡ get_or ts i t → reverse (take (i + 1) ts) ≡ t ∷ reverse (take i ts)
next_chosen ts i t lt is =
    let next : i + 1 ≡ suc i = omega arith in
    one_more (take i ts) (take (i + 1) ts) t (ap (λ (k : ℕ). take k ts) next ∙ take-suc ts i t lt ∙ ap (λ (u : Phrase). take i ts ++ u ∷ []) (sym is))

-- all choices
pub all_chosen_asks :
    (c : Choices) (inner : List Phrase) (t : Phrase) (a b : Asked) → c.phrases.items ≡ inner ++ t ∷ [] → ((w : ℕ) (p : Place) → AsksFor (choices_behind w p (reverse inner)) a) → ((u : Phrase) → AsksFor u a → AsksFor (append t u) b) → AsksFor (choices_phrase c) b
all_chosen_asks c inner t a b e cells asks = subst (λ (ts : List Phrase). AsksFor (choices_from c.word c.place ts) b) (sym (one_more inner c.phrases.items t e)) (asks (choices_behind c.word c.place (reverse inner)) (cells c.word c.place))

pub all_chosen_inside :
    (c : Choices) (inner : List Phrase) (t : Phrase) (start all now : List Asked) → c.phrases.items ≡ inner ++ t ∷ [] →
    ((w : ℕ) (p : Place) (is : List Item) → AreAskedBy is start → AreAskedBy (quotations_in (choices_behind w p (reverse inner)) ++ is) all) → ((is : List Item) → AreAskedBy is all → AreAskedBy (quotations_in t ++ is) now) →
    (is : List Item) → AreAskedBy is start → AreAskedBy (quotations_in (choices_phrase c) ++ is) now
all_chosen_inside c inner t start all now e so_far inside =
    subst
    (λ (ts : List Phrase). (is : List Item) → AreAskedBy is start → AreAskedBy (quotations_in (choices_from c.word c.place ts) ++ is) now)
    (sym (one_more inner c.phrases.items t e))
    (asked_inside t (choices_behind c.word c.place (reverse inner)) start all now (so_far c.word c.place) inside)

-- an item is at most as deep as its phrase
in_depth : (earlier : List PlacedItem) (i : PlacedItem) (behind : List PlacedItem) → item_depth (what_item i.what) ≤ phrase_depth (items_phrase (earlier ++ i ∷ behind))
in_depth [] i behind = omega arith
in_depth (j ∷ js) i behind = omega (arith, in_depth js i behind)

pub last_in_depth : (t : Phrase) (left earlier : List PlacedItem) (i : PlacedItem) (first a : Asked) (start all : List Asked) → left ≡ earlier ++ i ∷ [] → Behind t left first a start all → item_depth (what_item i.what) ≤ phrase_depth t
last_in_depth t left earlier i first a start all e h =
    let whole : t ≡ items_phrase (earlier ++ i ∷ h.behind) = h.whole ∙ ap items_phrase (ap (λ (l : List PlacedItem). l ++ h.behind) e ∙ append_assoc earlier (i ∷ []) h.behind) in
    omega (arith, in_depth earlier i h.behind, ap phrase_depth whole)

-- those inside the outermost choice are at most as deep as all
pub inner_depth : (c : Choices) (inner : List Phrase) (t : Phrase) → c.phrases.items ≡ inner ++ t ∷ [] → deepest inner ≤ phrase_depth (choices_phrase c)
inner_depth c inner t e =
    let rest = reverse inner in
    omega (arith, deepest_reversed inner, behind_falls c.word c.place rest, second_falls t (choices_behind c.word c.place rest), ap (λ (ts : List Phrase). phrase_depth (choices_from c.word c.place ts)) (one_more inner c.phrases.items t e))

-- so is the outermost one
pub outermost_depth : (c : Choices) (inner : List Phrase) (t : Phrase) → c.phrases.items ≡ inner ++ t ∷ [] → phrase_depth t ≤ phrase_depth (choices_phrase c)
outermost_depth c inner t e = omega (arith, first_falls t (choices_behind c.word c.place (reverse inner)), ap (λ (ts : List Phrase). phrase_depth (choices_from c.word c.place ts)) (one_more inner c.phrases.items t e))
