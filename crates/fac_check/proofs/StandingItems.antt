-- Where items of phrases stand for the walk, in their words or by themselves.
use Rattle.std.proofs.Common.{◌≡◌, ◌<◌, ◌≤◌, ◌+◌, ◌-◌, ℕ, suc, List, [], Bool, true, false, Option, Some, refl, sym, ap, subst, ◌∙◌, length, arith}
use Rattle.std.specs.Prelude.{nat_eq, slice_get}
use Rattle.fac_graph.proofs.NumberLists.{same_number}
use Rattle.fac_base.proofs.SameBytes.{same_bytes}
use Rattle.fac_lang.specs.Phrases.{Literal, Item}
use Rattle.fac_lang.specs.declared.phrase.Template.{Template}
use Rattle.fac_lang.specs.declared.program.Program.{Program}
use Rattle.fac_locals.specs.Literals.{items_inside, behind, first_of_literal, literal_numbered}
use Rattle.fac_locals.proofs.Places.{not_before, same_place, none_at, literal_behind}
use Rattle.fac_abs.proofs.EqualMarks.{and_first, and_second}
use Rattle.fac_check.specs.CallableEffects.{no_word}
use Rattle.fac_check.specs.inner.Alone.{literal_number, TellsLiteral, in_one_phrase, placed_by, placed_alone, StandsAt}
use Rattle.fac_check.specs.inner.Walking.{Opened, NamesTemplate}
use Rattle.fac_check.proofs.NamedWords.{number_below}

-- a place so many items further
abbrev later : ℕ → Literal → Literal
later j l = record { word = l.word; around = l.around; index = suc (l.index + j) }

placed_later : (b : Bool) (none j : ℕ) (first at : Literal) → (b ≡ true → first.index ≤ at.index) → later j (placed_by b none first at) ≡ placed_by b none first (later j at)
placed_later true none j first at low =
    let l = low refl in
    let same : suc ((at.index - first.index) + j) ≡ suc (at.index + j) - first.index = omega (arith, l) in
    ap (λ (n : ℕ). let x : Literal = record { word = none; around = []; index = n } in x) same
placed_later false none j first at low = refl

placed_next : (b : Bool) (none : ℕ) (first at : Literal) → (b ≡ true → first.index ≤ at.index) → first_of_literal (placed_by b none first at) ≡ placed_by b none first (first_of_literal at)
placed_next true none first at low =
    let l = low refl in
    let same : suc (at.index - first.index) ≡ suc at.index - first.index = omega (arith, l) in
    ap (λ (n : ℕ). let x : Literal = record { word = none; around = []; index = n } in x) same
placed_next false none first at low = refl

pub same_words : (l m : Literal) → in_one_phrase l m ≡ true → l.word ≡ m.word
same_words l m h = same_number l.word m.word (and_first (nat_eq l.word m.word) _ h)

pub same_arrays : (l m : Literal) → in_one_phrase l m ≡ true → l.around ≡ m.around
same_arrays l m h = same_bytes l.around m.around (and_second (nat_eq l.word m.word) _ h)

-- the template of a literal is there
pub told_below : (count inner n k : ℕ) (alone : Bool) → TellsLiteral count inner n (Some (k, alone)) → k < count
told_below count inner n k false h = h.1
told_below count inner n k true h = h.2

module _ {C : Program} {templates : List Template} {own : Option ℕ} {inner : ℕ} (O : Opened C templates own inner) where
  -- the next item
  pub stands_behind : (alone : Bool) (at here : Literal) (i : Item) → StandsAt O.program inner O.first alone at here → StandsAt O.program inner O.first alone (behind at i) (behind here i)
  stands_behind false at here i h = ap (λ (l : Literal). behind l i) h
  stands_behind true at here i h = (
    λ k e. h.0 k (not_before at (behind at i) (literal_numbered O.program k).at (none_at at i) e),
    ap (λ (l : Literal). behind l i) h.1 ∙ placed_later (in_one_phrase O.first at) no_word (items_inside i) O.first at (λ one. O.first_is at h.0 (same_words O.first at one) (same_arrays O.first at one)),
  )

  module _ (k : ℕ) (t : Template) (there : slice_get templates k ≡ Some t) where
    -- what the number of a literal made here names
    pub made_literal : (alone : Bool) (at here : Literal) → StandsAt O.program inner O.first alone at here → (literal_numbered O.program k).at ≡ at → O.naming.literal (literal_number (length templates) alone k) ≡ here
    made_literal false at here h e = O.literal_is k (number_below templates k t there) ∙ e ∙ sym h
    made_literal true at here h e =
        O.apart_is k (h.0 k (same_place at (literal_numbered O.program k).at (sym e))) (number_below templates k t there) ∙ ap (placed_alone O.first) e ∙ sym h.1

    pub made_template : (alone : Bool) (at here : Literal) → StandsAt O.program inner O.first alone at here → (literal_numbered O.program k).at ≡ at → NamesTemplate O.program O.naming (literal_number (length templates) alone k) k t
    made_template false at here h e = O.template_is k t there
    made_template true at here h e = O.template_apart_is k t (h.0 k (same_place at (literal_numbered O.program k).at (sym e))) there

    -- the phrase of the literal with a number, and where it begins
    pub told_template : (alone : Bool) (n : ℕ) → TellsLiteral (length templates) inner n (Some (k, alone)) → NamesTemplate O.program O.naming n k t
    told_template false n h = subst (λ (j : ℕ). NamesTemplate O.program O.naming j k t) (sym h.0) (O.template_is k t there)
    told_template true n h = subst (λ (j : ℕ). NamesTemplate O.program O.naming j k t) (sym h.0) (O.template_apart_is k t h.1 there)

    pub told_stands : (alone : Bool) (n : ℕ) → TellsLiteral (length templates) inner n (Some (k, alone)) → StandsAt O.program inner O.first alone (first_of_literal (literal_numbered O.program k).at) (first_of_literal (O.naming.literal n))
    told_stands false n h = ap (λ (j : ℕ). first_of_literal (O.naming.literal j)) h.0 ∙ ap first_of_literal (O.literal_is k h.1)
    told_stands true n h =
        let at : Literal = (literal_numbered O.program k).at in (
          λ j e. let more = literal_behind O.program j k e in omega (arith, more, h.1),
          ap (λ (j : ℕ). first_of_literal (O.naming.literal j)) h.0 ∙ ap first_of_literal (O.apart_is k h.1 h.2) ∙ placed_next (in_one_phrase O.first at) no_word O.first at (λ one. O.literals_behind k h.1 h.2 (same_words O.first at one) (same_arrays O.first at one)),
        )
