-- The primitives of words, by their numbers: no two words are the same one.
use Rattle.std.proofs.Common.{◌≡◌, ℕ, zero, suc, List, [], ◌∷◌, ◌++◌, map, Bool, true, false, refl, ap, ◌∙◌}
use Rattle.std.specs.Prelude.{◌&&◌, ◌||◌, not, nat_eq}
use Rattle.fac_lang.specs.Phrases.{Phrase}
use Rattle.fac_base.specs.declared.place.Place.{Place}
use Rattle.fac_lang.specs.declared.program.Sort.{Sort}
use Rattle.fac_lang.specs.declared.program.Sort.TheVariants.{Prim as prim, Body as body}
use Rattle.fac_lang.specs.declared.program.WordDef.{WordDef}
use Rattle.fac_items.specs.Written.{Tok}
use Rattle.fac_endings.specs.declared.draft.Draft.{Draft}
use Rattle.fac_endings.proofs.Apart.{and_true}
use Rattle.fac_names.specs.Forms.{at_place, changed, draft_of}

-- whether a number is in a list
abbrev pub is_member : ℕ → List ℕ → Bool
is_member k [] = false
is_member k (x ∷ xs) = nat_eq k x || is_member k xs

abbrev pub has_no_repeats : List ℕ → Bool
has_no_repeats [] = true
has_no_repeats (k ∷ ks) = not (is_member k ks) && has_no_repeats ks

-- the primitives of words, by their numbers
abbrev pub numbers_before : Sort → List ℕ → List ℕ
numbers_before (prim k) ks = k ∷ ks
numbers_before _ ks = ks

abbrev pub primitive_numbers : List WordDef → List ℕ
primitive_numbers [] = []
primitive_numbers (d ∷ ds) = numbers_before d.sort (primitive_numbers ds)

-- the word of a top-level phrase is none
pub numbers_alone : (ds : List WordDef) (d : WordDef) (t : Phrase) → d.sort ≡ body t → primitive_numbers (ds ++ d ∷ []) ≡ primitive_numbers ds
numbers_alone [] d t e = rw e refl
numbers_alone (x ∷ ds) d t e = ap (numbers_before x.sort) (numbers_alone ds d t e)

abbrev pub words_in : List Draft → List WordDef
words_in ds = map (λ (d : Draft). d.word) ds

abbrev pub numbers_in : List Draft → List ℕ
numbers_in ds = primitive_numbers (words_in ds)

pub numbers_with : (ds : List Draft) (vocab : List ℕ) (t : Tok) → numbers_in (ds ++ draft_of vocab t ∷ []) ≡ numbers_in ds
numbers_with [] vocab t = refl
numbers_with (d ∷ ds) vocab t = ap (numbers_before d.word.sort) (numbers_with ds vocab t)

pub numbers_placed : (p : Place) (n : ℕ) (ds : List Draft) → numbers_in (changed (at_place p) n ds) ≡ numbers_in ds
numbers_placed p n [] = refl
numbers_placed p zero (d ∷ ds) = refl
numbers_placed p (suc n) (d ∷ ds) = ap (numbers_before d.word.sort) (numbers_placed p n ds)

-- Numbers of primitives stay distinct where a word is told that is none.

abbrev IsNoPrimitive : Sort → Type 0
IsNoPrimitive s = (ks : List ℕ) → numbers_before s ks ≡ ks

behind_or : (b c : Bool) → (b || c) ≡ false → c ≡ false
behind_or true c h = cc
behind_or false c h = h

first_or : (b c : Bool) → (b || c) ≡ false → b ≡ false
first_or true c h = h
first_or false c h = refl

or_false : (b c : Bool) → b ≡ false → c ≡ false → (b || c) ≡ false
or_false b c h k = rw (h, k) refl

first_and : (b c : Bool) → (b && c) ≡ true → b ≡ true
first_and true c h = refl
first_and false c h = h

second_and : (b c : Bool) → (b && c) ≡ true → c ≡ true
second_and true c h = h
second_and false c h = cc

not_true : (b : Bool) → not b ≡ true → b ≡ false
not_true true h = cc
not_true false h = refl

fewer_member : (j : ℕ) (s : Sort) (ks : List ℕ) → is_member j (numbers_before s ks) ≡ false → is_member j ks ≡ false
fewer_member j (prim k) ks h = behind_or (nat_eq j k) (is_member j ks) h
fewer_member j s ks h = h

member_before : (j : ℕ) (s : Sort) (ks ls : List ℕ) → (is_member j ks ≡ false → is_member j ls ≡ false) → is_member j (numbers_before s ks) ≡ false → is_member j (numbers_before s ls) ≡ false
member_before j (prim k) ks ls later h = or_false (nat_eq j k) (is_member j ls) (first_or (nat_eq j k) (is_member j ks) h) (later (behind_or (nat_eq j k) (is_member j ks) h))
member_before j s ks ls later h = later h

told_member : (j : ℕ) (f : Draft → Draft) (n : ℕ) (ds : List Draft) → ((d : Draft) → IsNoPrimitive (f d).word.sort) → is_member j (numbers_in ds) ≡ false → is_member j (numbers_in (changed f n ds)) ≡ false
told_member j f n [] none h = h
told_member j f zero (d ∷ ds) none h = ap (is_member j) (none d (numbers_in ds)) ∙ fewer_member j d.word.sort (numbers_in ds) h
told_member j f (suc n) (d ∷ ds) none h = member_before j d.word.sort (numbers_in ds) (numbers_in (changed f n ds)) (told_member j f n ds none) h

fewer_distinct : (s : Sort) (ks : List ℕ) → has_no_repeats (numbers_before s ks) ≡ true → has_no_repeats ks ≡ true
fewer_distinct (prim k) ks h = second_and (not (is_member k ks)) (has_no_repeats ks) h
fewer_distinct s ks h = h

distinct_before : (s : Sort) (ks ls : List ℕ) → ((j : ℕ) → is_member j ks ≡ false → is_member j ls ≡ false) → (has_no_repeats ks ≡ true → has_no_repeats ls ≡ true) → has_no_repeats (numbers_before s ks) ≡ true → has_no_repeats (numbers_before s ls) ≡ true
distinct_before (prim k) ks ls members later h =
    and_true (not (is_member k ls)) (has_no_repeats ls) (ap not (members k (not_true (is_member k ks) (first_and (not (is_member k ks)) (has_no_repeats ks) h)))) (later (second_and (not (is_member k ks)) (has_no_repeats ks) h))
distinct_before s ks ls members later h = later h

pub told_distinct : (f : Draft → Draft) (n : ℕ) (ds : List Draft) → ((d : Draft) → IsNoPrimitive (f d).word.sort) → has_no_repeats (numbers_in ds) ≡ true → has_no_repeats (numbers_in (changed f n ds)) ≡ true
told_distinct f n [] none h = h
told_distinct f zero (d ∷ ds) none h = ap has_no_repeats (none d (numbers_in ds)) ∙ fewer_distinct d.word.sort (numbers_in ds) h
told_distinct f (suc n) (d ∷ ds) none h = distinct_before d.word.sort (numbers_in ds) (numbers_in (changed f n ds)) (λ j. told_member j f n ds none) (told_distinct f n ds none) h
