-- A use of a row word by its effect with numbered rows is one by the effect itself.
use Rattle.std.proofs.Common.{◌≡◌, ◌≤◌, ℕ, suc, List, [], ◌∷◌, length, true, Option, Some, None, refl, sym, ap, subst, ◌∙◌}
use Rattle.std.specs.Prelude.{slice_get}
use Rattle.fac_base.specs.declared.limits.TheConstants.{MOST_EFFECT_NAMES}
use Rattle.fac_base.specs.declared.place.Place.{Place}
use Rattle.fac_base.specs.Signatures.{Signature, signature, Inputs, no_inputs, value, quoted}
use Rattle.fac_base.specs.Effects.{inputs_count, effect_height}
use Rattle.fac_lang.specs.declared.phrase.Template.{Template}
use Rattle.fac_lang.specs.declared.program.Program.{Program}
use Rattle.fac_lang.specs.declared.program.WordDef.{WordDef}
use Rattle.fac_lang.specs.Phrases.{Mark}
use Rattle.fac_abs.specs.RowVariables.{effect_inputs, outer_in}
use Rattle.fac_abs.specs.Marks.{AbstractStack, on}
use Rattle.fac_rows.specs.RowBinding.{Binding, Tied, tied, untied, tie, start_row, row_binding, row_result}
use Rattle.fac_rows.specs.RowNumbers.{leaving_name, inputs_sides}
use Rattle.fac_rows.specs.NumberedRows.{numbered_side, numbered_leaving, numbered_inputs, numbered}
use Rattle.fac_rows.proofs.NumberingLemmas.{AreWithin, first_among, others_within, inputs_are_within, inputs_within, count_within}
use Rattle.fac_rows.proofs.UsedRows.{numbered_binding, numbered_tied, AreAmong, TiedAmong, start_same, tie_same, tie_among, start_bound, start_among, result_same}
use Rattle.fac_check.specs.Flow.{Walked, found, refused, and_then, started, tied_on, Walk, walk_from, walk_inputs, start_rule, use_rule}
use Rattle.fac_check.specs.inner.UsedEffects.{IsUsedAs}
use Rattle.fac_check.specs.inner.Walkable.{takes_all}
use Rattle.fac_check.specs.inner.Walking.{is_defined, effect_of}
use Rattle.fac_check.proofs.TakenPrograms.{word_taken, inputs_below}

-- What follows the rows as they are bound with numbers is what follows them as they are bound by names.
module _ (e : Signature) (named others : Binding → ℕ → Walked AbstractStack) where
  abbrev Alike : (Binding → ℕ → Walked Binding) → (Binding → ℕ → Walked Binding) → Type 0
  Alike f g = (bs : Binding) (n : ℕ) → AreAmong e bs → and_then (g (numbered_binding e bs) n) others ≡ and_then (f bs n) named

  tied_alike : (T : Tied) (p : Place) (n : ℕ) (f g : Binding → ℕ → Walked Binding) → Alike f g → TiedAmong e T → and_then (tied_on (numbered_tied e T) p n g) others ≡ and_then (tied_on T p n f) named
  tied_alike (tied bs) p n f g h among = h bs n among
  tied_alike (untied r) p n f g h among = refl

  walked_alike : (W : Walked AbstractStack) (f g : AbstractStack → ℕ → Walked Binding) → ((A : AbstractStack) (n : ℕ) → and_then (g A n) others ≡ and_then (f A n) named) → and_then (and_then W g) others ≡ and_then (and_then W f) named
  walked_alike (found A n) f g h = h A n
  walked_alike (refused r p) f g h = refl

  started_alike : (o : Option AbstractStack) (k : ℕ) (p : Place) (f g : AbstractStack → Walked Binding) → ((A : AbstractStack) → and_then (g A) others ≡ and_then (f A) named) → and_then (started o k p g) others ≡ and_then (started o k p f) named
  started_alike None k p f g h = refl
  started_alike (Some A) k p f g h = h A

  module _ (own : Option Signature) (go : Walk) (more : (bs : Binding) (n : ℕ) → AreAmong e bs → others (numbered_binding e bs) n ≡ named bs n) where
    inputs_alike : (k : ℕ) (is : Inputs) (ms : List Mark) (p : Place) (d : ℕ) (bs : Binding) (n : ℕ) → AreWithin e (inputs_sides is) → AreAmong e bs →
        and_then (walk_inputs own go k (numbered_inputs e is) ms p d (numbered_binding e bs) n) others ≡ and_then (walk_inputs own go k is ms p d bs n) named
    inputs_alike k no_inputs ms p d bs n within among = more bs n among
    inputs_alike k (value x is) [] p d bs n within among = refl
    inputs_alike k (value x is) (m ∷ ms) p d bs n within among = inputs_alike (suc k) is ms p d bs n within among
    inputs_alike k (quoted x q is) [] p d bs n within among = refl
    inputs_alike k (quoted x (signature r js l) is) (m ∷ ms) p d bs n within among =
        let row = first_among e r (leaving_name l ∷ inputs_sides is) within in
        let rest = others_within e r (leaving_name l ∷ inputs_sides is) within in
        let left = first_among e (leaving_name l) (inputs_sides is) rest in
        let onward : AreWithin e (inputs_sides is) = others_within e (leaving_name l) (inputs_sides is) rest in
        let ons : Binding → ℕ → Walked Binding = λ cs j. walk_inputs own go (suc k) is ms p d cs j in
        let nums : Binding → ℕ → Walked Binding = λ cs j. walk_inputs own go (suc k) (numbered_inputs e is) ms p d cs j in
        let bound = numbered_binding e bs in
        let after : AbstractStack → ℕ → Walked Binding = λ B j. tied_on (tie k r l B bs) p j ons in
        let behind : AbstractStack → ℕ → Walked Binding = λ B j. tied_on (tie k (numbered_side e r) (numbered_leaving e l) B bound) p j nums in
        ap (λ c. and_then (started (start_row (numbered_side e r) bound) k p (λ A. and_then (walk_from own go m p d A c n) behind)) others) (count_within e js)
        ∙ ap (λ o. and_then (started o k p (λ A. and_then (walk_from own go m p d A (inputs_count js) n) behind)) others) (start_same e r bs row among)
        ∙ started_alike (start_row r bs) k p (λ A. and_then (walk_from own go m p d A (inputs_count js) n) after) (λ A. and_then (walk_from own go m p d A (inputs_count js) n) behind)
        (λ A. walked_alike (walk_from own go m p d A (inputs_count js) n) after behind
        (λ B j. ap (λ T. and_then (tied_on T p j nums) others) (tie_same e k r l B bs left among)
        ∙ tied_alike (tie k r l B bs) p j ons nums (λ cs i there. inputs_alike (suc k) is ms p d cs i onward there) (tie_among e k r l B bs left among)))

-- the rule that a use breaks
rules_alike_on : (own : Option Signature) (e : Signature) (is : Inputs) (ms : List Mark) (d : ℕ) (bs : Binding) → AreWithin e (inputs_sides is) → AreAmong e bs → use_rule own (numbered_binding e bs) (numbered_inputs e is) ms d ≡ use_rule own bs is ms d
rules_alike_on own e no_inputs ms d bs within among = refl
rules_alike_on own e (value x is) [] d bs within among = refl
rules_alike_on own e (value x is) (m ∷ ms) d bs within among = rules_alike_on own e is ms d bs within among
rules_alike_on own e (quoted x q is) [] d bs within among = refl
rules_alike_on own e (quoted x (signature r js l) is) (m ∷ ms) d bs within among =
    ap (λ c. start_rule own (start_row (numbered_side e r) (numbered_binding e bs)) m c d) (count_within e js)
    ∙ ap (λ o. start_rule own o m (inputs_count js) d) (start_same e r bs (first_among e r (leaving_name l ∷ inputs_sides is) within) among)

height_within : (e : Signature) → (effect_height (numbered e)).ins ≡ (effect_height e).ins
height_within (signature r is l) = count_within (signature r is l) is

pub numbered_is_used : (e : Signature) → IsUsedAs (numbered e) e
numbered_is_used e = record {
  inputs_alike = height_within e;
  rules_alike = λ own is nested b ms.
      let A : AbstractStack = on b ms in
      ap (λ bs. use_rule own bs (effect_inputs (numbered e)) is nested) (start_bound e A)
      ∙ ap (λ js. use_rule own (numbered_binding e (row_binding (outer_in e) A)) js is nested) (inputs_within e e)
      ∙ rules_alike_on own e (effect_inputs e) is nested (row_binding (outer_in e) A) (inputs_are_within e) (start_among e A);
  walks_alike = λ own go is p nested b ms n.
      let A : AbstractStack = on b ms in
      let ends : Binding → ℕ → Walked AbstractStack = λ bs j. found (row_result e bs) j in
      let ended : Binding → ℕ → Walked AbstractStack = λ bs j. found (row_result (numbered e) bs) j in
      ap (λ bs. and_then (walk_inputs own go 1 (effect_inputs (numbered e)) is p nested bs n) ended) (start_bound e A)
      ∙ ap (λ js. and_then (walk_inputs own go 1 js is p nested (numbered_binding e (row_binding (outer_in e) A)) n) ended) (inputs_within e e)
      ∙ inputs_alike e ends ended own go (λ bs j among. ap (λ B. found B j) (result_same e bs among)) 1 (effect_inputs e) is p nested (row_binding (outer_in e) A) n (inputs_are_within e) (start_among e A);
}

pub itself_is_used : (e : Signature) → IsUsedAs e e
itself_is_used e = record { inputs_alike = refl; rules_alike = λ own is nested b ms. refl; walks_alike = λ own go is p nested b ms n. refl }

-- an effect by which a use is walked has few inputs
pub few_used : (C : Program) (templates : List Template) → takes_all C templates ≡ true → (w : ℕ) (d : Signature) → is_defined (slice_get C.words w) ≡ true → IsUsedAs d (effect_of (slice_get C.words w)) → (effect_height d).ins ≤ MOST_EFFECT_NAMES
few_used C templates taken w d defined used = subst (λ n. n ≤ MOST_EFFECT_NAMES) (sym used.inputs_alike) (by_word (slice_get C.words w) refl defined)
  where
    by_word : (o : Option WordDef) → slice_get C.words w ≡ o → is_defined o ≡ true → (effect_height (effect_of o)).ins ≤ MOST_EFFECT_NAMES
    by_word None there is = absurd (cc)
    by_word (Some c) there is = inputs_below C.top (length templates) c (word_taken C templates taken w c there)
