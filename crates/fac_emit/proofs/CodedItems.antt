-- What a closed program has that stands for a built one: words with few inputs, and literal arrays that can be coded.
use Rattle.std.proofs.Common.{◌≡◌, ◌<◌, ◌≤◌, ℕ, zero, suc, ◌+◌, List, [], ◌∷◌, length, drop, get_or, Bool, true, false, Option, Some, refl, sym, subst, arith}
use Rattle.std.proofs.lemmas.Bool.{leb-true, le-leb}
use Rattle.std.specs.Prelude.{◌&&◌, nat_le, slice_get}
use Rattle.std.specs.List.{list_all}
use Rattle.fac_lang.specs.declared.program.Lit.{Lit}
use Rattle.fac_lang.specs.declared.program.Lit.TheVariants.{Int as l_int, True as l_yes, False as l_no, Str as l_str, Arr as l_arr, Wref as l_word, Quot as l_quot, Made as l_made}
use Rattle.fac_lang.specs.declared.program.Program.{Program}
use Rattle.fac_lang.specs.declared.program.WordDef.{WordDef}
use Rattle.fac_lang.specs.Phrases.{Literal}
use Rattle.fac_base.specs.Signatures.{Signature, signature, Inputs, no_inputs, value, quoted}
use Rattle.fac_base.specs.Effects.{inputs_count, effect_height}
use Rattle.fac_lang.specs.Whole.{IsWhole, name_count, inputs_name_count}
use Rattle.fac_lang.specs.Meaning.{array_method}
use Rattle.fac_locals.specs.Literals.{behind, first_in_array, element_item}
use Rattle.fac_locals.specs.Closed.{Closes, ClosesElement, CloseElements, CloseArrays}
use Rattle.fac_locals.specs.declared.closing.Closed.{Closed}
use Rattle.fac_locals.proofs.Lookups.{word_open}
use Rattle.fac_emit.specs.inner.Coded.{has_few_inputs, element_is_coded, array_is_coded}
use Rattle.fac_emit.proofs.BuiltCode.{and_true}
use Rattle.fac_emit.proofs.EmitLemmas.{next_element}
use Rattle.fac_emit.proofs.NextMethods.{all_at}

-- no more inputs than names
inputs_named : (is : Inputs) → inputs_count is ≤ inputs_name_count is
inputs_named no_inputs = omega arith
inputs_named (value x is) = let l = inputs_named is in omega (arith, l)
inputs_named (quoted x e is) = let l = inputs_named is in omega (arith, l)

few_inputs : (e : Signature) → nat_le (name_count e) 65 ≡ true → nat_le (effect_height e).ins 65 ≡ true
few_inputs (signature r is l) h = let most = leb-true _ _ h in let least = inputs_named is in le-leb _ _ (omega (arith, most, least))

pub and_first : (a b : Bool) → (a && b) ≡ true → a ≡ true
and_first true b e = refl
and_first false b e = e

pub and_second : (a b : Bool) → (a && b) ≡ true → b ≡ true
and_second true b e = e
and_second false b e = absurd (cc)

pub all_dropped : {A : Type 0} (test : A → Bool) (n : ℕ) (xs : List A) → list_all test xs ≡ true → list_all test (drop n xs) ≡ true
all_dropped test zero xs h = h
all_dropped test (suc n) [] h = refl
all_dropped test (suc n) (x ∷ xs) h = all_dropped test n xs (and_second (test x) (list_all test xs) h)

each_passes : {A : Type 0} (test : A → Bool) (xs : List A) → ((k : ℕ) (x : A) → slice_get xs k ≡ Some x → test x ≡ true) → list_all test xs ≡ true
each_passes test [] h = refl
each_passes test (x ∷ xs) h = and_true (test x) (list_all test xs) (h 0 x refl) (each_passes test xs (λ k y e. h (suc k) y e))

-- the element that a loop is at passes where all do
pub item_passes : {A : Type 0} (test : A → Bool) (xs : List A) (i : ℕ) (x : A) (items : List A) → items ≡ xs → i < length items → x ≡ get_or items i x → list_all test xs ≡ true → test x ≡ true
item_passes test xs i x items are lt is h =
    let next = subst (λ (us : List _). drop i us ≡ x ∷ drop (i + 1) us) are (next_element items i x lt is) in
    and_first (test x) (list_all test (drop (i + 1) xs)) (subst (λ (us : List _). list_all test us ≡ true) next (all_dropped test i xs h))

module _ (P : Program) (C : Closed) (whole : IsWhole P) (closes : Closes P C.program C.templates) where
  -- the effect of each word has few inputs
  word_few : (w : ℕ) (c : WordDef) → slice_get C.program.words w ≡ Some c → has_few_inputs c ≡ true
  word_few w c at =
      let found = word_open P C.program C.templates closes w c at in
      subst (λ (e : Signature). nat_le (effect_height e).ins 65 ≡ true) (sym found.closes.effect) (few_inputs found.def.effect (all_at (λ (d : WordDef). nat_le (name_count d.effect) 65) P.words w found.def whole.few_names found.at))

  pub words_few : list_all has_few_inputs C.program.words ≡ true
  words_few = each_passes has_few_inputs C.program.words word_few

-- each element of a closed program's literal arrays has an element of an image
element_coded : (P : Program) (m : Option ℕ) (at : Literal) (l c : Lit) → ClosesElement P m at l c → element_is_coded c ≡ true
element_coded P m at (l_quot t) c h = rw h.1 refl
element_coded P m at (l_made k) c h = absurd h
element_coded P m at (l_int z) c h = rw h refl
element_coded P m at l_yes c h = rw h refl
element_coded P m at l_no c h = rw h refl
element_coded P m at (l_str bs) c h = rw h refl
element_coded P m at (l_arr a) c h = rw h refl
element_coded P m at (l_word w) c h = rw h refl

elements_coded : (P : Program) (m : Option ℕ) (at : Literal) (ls cs : List Lit) → CloseElements P m at ls cs → array_is_coded cs ≡ true
elements_coded P m at [] cs h = rw h refl
elements_coded P m at (l ∷ ls) cs h = rw h.2 (and_true (element_is_coded h.0) (list_all element_is_coded h.1) (element_coded P m at l h.0 h.3) (elements_coded P m (behind at (element_item m l)) ls h.1 h.4))

all_coded : (P : Program) (a : ℕ) (lss css : List (List Lit)) → CloseArrays P a lss css → list_all array_is_coded css ≡ true
all_coded P a [] css h = rw h refl
all_coded P a (ls ∷ lss) css h = rw h.3 (and_true (array_is_coded h.1) (list_all array_is_coded h.2) (elements_coded P (array_method P (length P.arrays) a) (first_in_array h.0) ls h.1 h.4) (all_coded P (suc a) lss h.2 h.5))

pub arrays_coded : (P : Program) (C : Closed) → Closes P C.program C.templates → list_all array_is_coded C.program.arrays ≡ true
arrays_coded P C closes = all_coded P 0 P.arrays C.program.arrays closes.arrays
