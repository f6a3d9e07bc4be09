-- The texts of a program: each that its code and tables name is there, at its number.
use Rattle.std.proofs.Common.{◌≡◌, ◌<◌, ℕ, zero, suc, ◌+◌, List, [], ◌∷◌, ◌++◌, length, Bool, true, false, Option, Some, None, refl, ap, sym, subst, ◌∙◌, arith, true≢false}
use Rattle.std.proofs.lemmas.Bool.{lt-ltb}
use Rattle.std.proofs.lemmas.Slice.Eq.{bytes_eq-Decides}
use Rattle.std.specs.Prelude.{◌||◌, nat_lt, slice_get, if◌then◌else◌}
use Rattle.std.specs.List.{list_any, position_or_len}
use Rattle.std.specs.Str.{bytes_eq}
use Rattle.fac_base.specs.declared.limits.TheConstants.{MOST_LEVELS}
use Rattle.fac_lang.specs.declared.phrase.Template.{Template}
use Rattle.fac_lang.specs.declared.program.ClassDef.{ClassDef}
use Rattle.fac_lang.specs.declared.program.Lit.{Lit}
use Rattle.fac_lang.specs.declared.program.Shape.{Shape}
use Rattle.fac_lang.specs.declared.program.Shape.TheVariants.{Kind as built_in, Tuple as tuple_class, Union as union, Single as single}
use Rattle.fac_lang.specs.declared.program.WordDef.{WordDef}
use Rattle.fac_lang.specs.Phrases.{str, Phrase, end, then as and_then, Item, lit}
use Rattle.fac_lang.specs.Classes.{shape_at, slots_within}
use Rattle.fac_locals.specs.declared.closing.Closed.{Closed}
use Rattle.fac_emit.specs.ProgramTexts.{with_text, with_texts, element_texts, item_texts, phrase_texts, template_texts, array_texts, text_levels, body_texts, no_texts, own_texts, own_elements_texts, own_slots, class_texts, classes_texts, word_texts, words_texts, templates_texts, arrays_texts, text_sequence, program_texts, text_number}

never_true : {A : Type 0} → false ≡ true → A
never_true h = absurd (true≢false (sym h))

-- the first that passes a test
pub record FirstOf {A : Type 0} (test : A → Bool) (xs : List A) : Type 0 where
  pub found : A
  pub there : slice_get xs (position_or_len test xs) ≡ Some found
  pub passes : test found ≡ true

first_by : {A : Type 0} (test : A → Bool) (x : A) (xs : List A) (b : Bool) → test x ≡ b → (list_any test xs ≡ true → FirstOf test xs) → (b || list_any test xs) ≡ true → FirstOf test (x ∷ xs)
first_by test x xs true e more h = record { found = x; there = rw e refl; passes = e }
first_by test x xs false e more h =
    let later = more h in
    let n : 1 + position_or_len test xs ≡ suc (position_or_len test xs) = omega arith in
    record { found = later.found; there = rw (e, n) later.there; passes = later.passes }

pub first_of : {A : Type 0} (test : A → Bool) (xs : List A) → list_any test xs ≡ true → FirstOf test xs
first_of test [] h = never_true h
first_of test (x ∷ xs) h = first_by test x xs (test x) refl (first_of test xs) h

-- a text among texts
abbrev pub IsAmong : List (List ℕ) → List ℕ → Type 0
IsAmong texts s = list_any (bytes_eq s) texts ≡ true

bytes_self : (xs : List ℕ) → bytes_eq xs xs ≡ true
bytes_self xs = (bytes_eq-Decides xs xs).1 refl

pub or_left : (a b : Bool) → a ≡ true → (a || b) ≡ true
or_left true b h = refl
or_left false b h = never_true h

pub or_right : (a b : Bool) → b ≡ true → (a || b) ≡ true
or_right true b h = refl
or_right false b h = h

among_by : (b : Bool) (s : List ℕ) (xs ys : List (List ℕ)) → (IsAmong xs s → IsAmong (xs ++ ys) s) → (b || list_any (bytes_eq s) xs) ≡ true → (b || list_any (bytes_eq s) (xs ++ ys)) ≡ true
among_by true s xs ys more h = refl
among_by false s xs ys more h = more h

among_front : (xs ys : List (List ℕ)) (s : List ℕ) → IsAmong xs s → IsAmong (xs ++ ys) s
among_front [] ys s h = never_true h
among_front (x ∷ xs) ys s h = among_by (bytes_eq s x) s xs ys (among_front xs ys s) h

among_last : (xs : List (List ℕ)) (s : List ℕ) → IsAmong (xs ++ s ∷ []) s
among_last [] s = or_left (bytes_eq s s) false (bytes_self s)
among_last (x ∷ xs) s = or_right (bytes_eq s x) (list_any (bytes_eq s) (xs ++ s ∷ [])) (among_last xs s)

-- texts among others
abbrev pub AreAmong : List (List ℕ) → List (List ℕ) → Type 0
AreAmong texts [] = Unit {0}
AreAmong texts (s ∷ ss) = IsAmong texts s × AreAmong texts ss

pub both_among : (texts xs ys : List (List ℕ)) → AreAmong texts (xs ++ ys) → AreAmong texts xs × AreAmong texts ys
both_among texts [] ys h = (tt, h)
both_among texts (x ∷ xs) ys h = let rest = both_among texts xs ys h.1 in ((h.0, rest.0), rest.1)

among_both : (texts xs ys : List (List ℕ)) → AreAmong texts xs → AreAmong texts ys → AreAmong texts (xs ++ ys)
among_both texts [] ys h k = k
among_both texts (x ∷ xs) ys h k = (h.0, among_both texts xs ys h.1 k)

-- texts with more
text_more : (texts : List (List ℕ)) (t s : List ℕ) → IsAmong texts s → IsAmong (with_text texts t) s
text_more texts t s h = by (list_any (bytes_eq t) texts)
  where
    by : (b : Bool) → IsAmong (if b then texts else texts ++ t ∷ []) s
    by true = h
    by false = among_front texts (t ∷ []) s h

texts_more : (texts ts : List (List ℕ)) (s : List ℕ) → IsAmong texts s → IsAmong (with_texts texts ts) s
texts_more texts [] s h = h
texts_more texts (t ∷ ts) s h = texts_more (with_text texts t) ts s (text_more texts t s h)

text_among : (texts : List (List ℕ)) (s : List ℕ) → IsAmong (with_text texts s) s
text_among texts s = by (list_any (bytes_eq s) texts) refl
  where
    by : (b : Bool) → list_any (bytes_eq s) texts ≡ b → IsAmong (if b then texts else texts ++ s ∷ []) s
    by true e = e
    by false e = among_last texts s

texts_among : (texts ss : List (List ℕ)) → AreAmong (with_texts texts ss) ss
texts_among texts [] = tt
texts_among texts (s ∷ ss) = let next = with_text texts s in (texts_more next ss s (text_among texts s), texts_among next ss)

with_both : (texts xs ys : List (List ℕ)) → with_texts texts (xs ++ ys) ≡ with_texts (with_texts texts xs) ys
with_both texts [] ys = refl
with_both texts (x ∷ xs) ys = with_both (with_text texts x) xs ys

-- one more part of a sequence
pub texts_step : (whole texts next ss here more : List (List ℕ)) → whole ≡ with_texts texts ss → ss ≡ here ++ more → next ≡ with_texts texts here → whole ≡ with_texts next more
texts_step whole texts next ss here more all split is = rw is (all ∙ ap (with_texts texts) split ∙ with_both texts here more)

number_below : (xs : List (List ℕ)) (k : ℕ) (x : List ℕ) → slice_get xs k ≡ Some x → k < length xs
number_below [] k x e = absurd (cc)
number_below (y ∷ xs) zero x e = omega arith
number_below (y ∷ xs) (suc k) x e = let later = number_below xs k x e in omega (arith, later)

pub levels_are : suc MOST_LEVELS ≡ text_levels
unfolding text_levels
levels_are = refl

-- for a closed program
module _ (C : Closed) where
  abbrev texts : List (List ℕ)
  texts = program_texts C

  -- the text of a number
  pub text_there : (s : List ℕ) → IsAmong texts s → slice_get texts (text_number C s) ≡ Some s
  text_there s h = let first = first_of (bytes_eq s) texts h in first.there ∙ ap Some (sym ((bytes_eq-Decides s first.found).0 first.passes))

  pub text_below : (s : List ℕ) → IsAmong texts s → nat_lt (text_number C s) (length texts) ≡ true
  text_below s h = lt-ltb (text_number C s) (length texts) (number_below texts (text_number C s) s (text_there s h))

  sequence_among : AreAmong texts (text_sequence C)
  unfolding program_texts
  sequence_among = texts_among [] (text_sequence C)

  abbrev behind_templates : List (List ℕ)
  behind_templates = arrays_texts C.program.arrays ++ classes_texts C.program.classes

  abbrev behind_words : List (List ℕ)
  behind_words = templates_texts C.templates ++ behind_templates

  by_words : AreAmong texts (words_texts C C.program.words) × AreAmong texts behind_words
  by_words = both_among texts (words_texts C C.program.words) behind_words sequence_among

  by_templates : AreAmong texts (templates_texts C.templates) × AreAmong texts behind_templates
  by_templates = both_among texts (templates_texts C.templates) behind_templates by_words.1

  by_arrays : AreAmong texts (arrays_texts C.program.arrays) × AreAmong texts (classes_texts C.program.classes)
  by_arrays = both_among texts (arrays_texts C.program.arrays) (classes_texts C.program.classes) by_templates.1

  -- Where they stand in the sequence.
  word_in : (ds : List WordDef) (w : ℕ) (d : WordDef) → AreAmong texts (words_texts C ds) → slice_get ds w ≡ Some d → AreAmong texts (word_texts C d)
  word_in [] w d h e = absurd (cc)
  word_in (x ∷ ds) zero d h e = let same : x ≡ d = cc in subst (λ (y : WordDef). AreAmong texts (word_texts C y)) same (both_among texts (word_texts C x) (words_texts C ds) h).0
  word_in (x ∷ ds) (suc w) d h e = word_in ds w d (both_among texts (word_texts C x) (words_texts C ds) h).1 e

  template_in : (ts : List Template) (q : ℕ) (t : Template) → AreAmong texts (templates_texts ts) → slice_get ts q ≡ Some t → AreAmong texts (own_texts t.body)
  template_in [] q t h e = absurd (cc)
  template_in (x ∷ ts) zero t h e = let same : x ≡ t = cc in subst (λ (y : Template). AreAmong texts (own_texts y.body)) same (both_among texts (own_texts x.body) (templates_texts ts) h).0
  template_in (x ∷ ts) (suc q) t h e = template_in ts q t (both_among texts (own_texts x.body) (templates_texts ts) h).1 e

  class_in : (ds : List ClassDef) (c : ℕ) (d : ClassDef) → AreAmong texts (classes_texts ds) → slice_get ds c ≡ Some d → AreAmong texts (class_texts d)
  class_in [] c d h e = absurd (cc)
  class_in (x ∷ ds) zero d h e = let same : x ≡ d = cc in subst (λ (y : ClassDef). AreAmong texts (class_texts y)) same (both_among texts (class_texts x) (classes_texts ds) h).0
  class_in (x ∷ ds) (suc c) d h e = class_in ds c d (both_among texts (class_texts x) (classes_texts ds) h).1 e

  -- the texts of a word, those in a template and in all arrays, and those of a class
  pub word_named : (w : ℕ) (d : WordDef) → slice_get C.program.words w ≡ Some d → AreAmong texts (word_texts C d)
  word_named w d e = word_in C.program.words w d by_words.0 e

  pub template_named : (q : ℕ) (t : Template) → slice_get C.templates q ≡ Some t → AreAmong texts (own_texts t.body)
  template_named q t e = template_in C.templates q t by_templates.0 e

  pub all_arrays_named : AreAmong texts (arrays_texts C.program.arrays)
  all_arrays_named = by_arrays.0

  pub class_named : (c : ℕ) (d : ClassDef) → slice_get C.program.classes c ≡ Some d → AreAmong texts (class_texts d)
  class_named c d e = class_in C.program.classes c d by_arrays.1 e

  -- all slots of a class, with those of its parents
  slots_by : (o : Option Shape) → ((s : Shape) → o ≡ Some s → AreAmong texts (own_slots s)) → (n : ℕ) → ((c : ℕ) → AreAmong texts (slots_within n C.program.classes c)) → AreAmong texts (elim o [ None ↦ [] | Some s ↦ elim s [ tuple_class p ss ↦ elim p [ None ↦ ss | Some q ↦ slots_within n C.program.classes q ++ ss ] | _ ↦ [] ] ])
  slots_by None h n more = tt
  slots_by (Some (tuple_class None ss)) h n more = h (tuple_class None ss) refl
  slots_by (Some (tuple_class (Some q) ss)) h n more = among_both texts (slots_within n C.program.classes q) ss (more q) (h (tuple_class (Some q) ss) refl)
  slots_by (Some (built_in j)) h n more = tt
  slots_by (Some (union ms)) h n more = tt
  slots_by (Some single) h n more = tt

  shape_named : (c : ℕ) (s : Shape) → shape_at C.program.classes c ≡ Some s → AreAmong texts (own_slots s)
  shape_named c s e = by (slice_get C.program.classes c) refl e
    where
      by : (o : Option ClassDef) → slice_get C.program.classes c ≡ o → (let x : Option Shape = elim o [ Some d ↦ Some d.shape | None ↦ None ] in x ≡ Some s) → AreAmong texts (own_slots s)
      by None is h = absurd (cc)
      by (Some d) is h = let same : d.shape ≡ s = cc in subst (λ (s : Shape). AreAmong texts (own_slots s)) same (class_named c d is).1.1

  pub slots_named : (n c : ℕ) → AreAmong texts (slots_within n C.program.classes c)
  slots_named zero c = tt
  slots_named (suc n) c = slots_by (shape_at C.program.classes c) (shape_named c) n (slots_named n)

  -- the strings that stand in a phrase itself
  own_among : (template array : ℕ → List (List ℕ)) (t : Phrase) → AreAmong texts (phrase_texts template array t) → AreAmong texts (own_texts t)
  own_among template array end h = tt
  own_among template array (and_then i p t) h =
      let parts = both_among texts (item_texts template array i) (phrase_texts template array t) h in among_both texts (item_texts no_texts no_texts i) (own_texts t) (own_item i parts.0) (own_among template array t parts.1)
    where
      own_item : (i : Item) → AreAmong texts (item_texts template array i) → AreAmong texts (item_texts no_texts no_texts i)
      own_item (lit (str cs)) h = h
      own_item _ h = tt

  -- those of a word's phrase
  pub body_among : (t : Phrase) → AreAmong texts (body_texts C t) → AreAmong texts (own_texts t)
  body_among t h = own_among (template_texts C text_levels) (array_texts C text_levels) t h

  -- those of an array's first element, and of the others
  pub first_element : (l : Lit) (ls : List Lit) → AreAmong texts (own_elements_texts (l ∷ ls)) → AreAmong texts (own_elements_texts (l ∷ [])) × AreAmong texts (own_elements_texts ls)
  first_element l ls h =
      let parts = both_among texts (element_texts no_texts no_texts l) (own_elements_texts ls) h in (among_both texts (element_texts no_texts no_texts l) [] parts.0 tt, parts.1)

  -- The whole sequence, part by part.
  pub sequence_whole :
      (first second third fourth : List (List ℕ)) → first ≡ with_texts [] (words_texts C C.program.words) → second ≡ with_texts first (templates_texts C.templates) → third ≡ with_texts second (arrays_texts C.program.arrays) → fourth ≡ with_texts third (classes_texts C.program.classes) → fourth ≡ texts
  unfolding program_texts
  sequence_whole first second third fourth e f g h =
      let by_first = with_both [] (words_texts C C.program.words) behind_words in
      let by_second = with_both (with_texts [] (words_texts C C.program.words)) (templates_texts C.templates) behind_templates in
      let by_third = with_both (with_texts (with_texts [] (words_texts C C.program.words)) (templates_texts C.templates)) (arrays_texts C.program.arrays) (classes_texts C.program.classes) in
      h
      ∙ ap (λ (ts : List (List ℕ)). with_texts ts (classes_texts C.program.classes)) (g ∙ ap (λ (ts : List (List ℕ)). with_texts ts (arrays_texts C.program.arrays)) (f ∙ ap (λ (ts : List (List ℕ)). with_texts ts (templates_texts C.templates)) e))
      ∙ sym (by_first ∙ by_second ∙ by_third)
