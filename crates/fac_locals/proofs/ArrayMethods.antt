-- In which method a literal array of a whole program stands: in the one whose phrase names it, and in that of the array that names it.
use Rattle.std.proofs.Common.{◌≡◌, ◌<◌, ◌≤◌, ◌⊎◌, inl, inr, ℕ, zero, suc, ◌+◌, List, [], ◌∷◌, length, Bool, true, false, Option, Some, None, refl, sym, ap, ◌∙◌, subst, arith}
use Rattle.std.specs.Prelude.{map, slice_get, nat_eq, ◌||◌}
use Rattle.std.proofs.lemmas.Bool.{and_parts, cases_lt}
use Rattle.fac_lang.specs.Phrases.{Phrase, end, then, Item, lit_arr, quot, fry}
use Rattle.fac_lang.specs.Meaning.{phrase_names, item_names, literals_name, method_naming, array_naming, array_method}
use Rattle.fac_lang.specs.declared.program.Lit.{Lit}
use Rattle.fac_lang.specs.declared.program.Lit.TheVariants.{Arr as l_arr, Quot as l_quot}
use Rattle.fac_lang.specs.declared.program.Program.{Program}
use Rattle.fac_lang.specs.declared.program.WordDef.{WordDef}
use Rattle.fac_lang.specs.declared.program.Sort.{Sort}
use Rattle.fac_lang.specs.declared.program.Sort.TheVariants.{Body as body, Past as past, Method as method}
use Rattle.fac_lang.specs.Whole.{times_in, each_numbered, names_earlier, arrays_named, arrays_named_by, arrays_in, joined, word_phrases}
use Rattle.fac_locals.specs.inner.Numbering.{phrase_of, method_of}
use Rattle.fac_locals.proofs.Puts.{counted, times_both}
use Rattle.fac_locals.proofs.ArrayNames.{with_phrase, absent}

-- this is whether there are some
abbrev pub Tells : Bool → ℕ → Type 0
Tells true n = 0 < n
Tells false n = n ≡ 0

either_tells : (b c : Bool) (n k : ℕ) → Tells b n → Tells c k → Tells (b || c) (n + k)
either_tells true c n k h g = omega (arith, h)
either_tells false true n k h g = omega (arith, h, g)
either_tells false false n k h g = omega (arith, h, g)

one_tells : (b : Bool) → Tells b (counted b 0)
one_tells true = omega arith
one_tells false = refl

told_none : (b : Bool) (n : ℕ) → Tells b n → n ≡ 0 → b ≡ false
told_none true n h e = absurd (omega (arith, h, e))
told_none false n h e = refl

told_some : (b : Bool) (n : ℕ) → Tells b n → 0 < n → b ≡ true
told_some true n h lt = refl
told_some false n h lt = absurd (omega (arith, h, lt))

told_by : (b : Bool) (n : ℕ) → Tells b n → b ≡ true → 0 < n
told_by true n h e = h
told_by false n h e = absurd cc

-- whether a phrase names an array
mutual
  phrase_tells : (a : ℕ) (t : Phrase) → Tells (phrase_names a t) (times_in a (arrays_named t))
  phrase_tells a end = refl
  phrase_tells a (then i p t) =
      subst (λ (n : ℕ). Tells (item_names a i || phrase_names a t) n) (sym (times_both a (arrays_named_by i) (arrays_named t))) (either_tells (item_names a i) (phrase_names a t) (times_in a (arrays_named_by i)) (times_in a (arrays_named t)) (item_tells a i) (phrase_tells a t))

  item_tells : (a : ℕ) (i : Item) → Tells (item_names a i) (times_in a (arrays_named_by i))
  item_tells a (lit_arr b) = one_tells (nat_eq a b)
  item_tells a (quot t) = phrase_tells a t
  item_tells a (fry t n) = phrase_tells a t
  item_tells a _ = refl

-- whether the elements of an array do
elements_tell : (a : ℕ) (ls : List Lit) → Tells (literals_name a ls) (times_in a (arrays_in ls))
elements_tell a [] = refl
elements_tell a (l_arr b ∷ ls) =
    subst (λ (n : ℕ). Tells (nat_eq a b || literals_name a ls) n) (sym (times_both a (b ∷ []) (arrays_in ls))) (either_tells (nat_eq a b) (literals_name a ls) (times_in a (b ∷ [])) (times_in a (arrays_in ls)) (one_tells (nat_eq a b)) (elements_tell a ls))
elements_tell a (l_quot t ∷ ls) =
    subst (λ (n : ℕ). Tells (phrase_names a t || literals_name a ls) n) (sym (times_both a (arrays_named t) (arrays_in ls))) (either_tells (phrase_names a t) (literals_name a ls) (times_in a (arrays_named t)) (times_in a (arrays_in ls)) (phrase_tells a t) (elements_tell a ls))
elements_tell a (_ ∷ ls) = elements_tell a ls

-- How often words name an array, and arrays.
abbrev pub by_words : ℕ → List WordDef → ℕ
by_words a ds = times_in a (joined (map arrays_named (word_phrases ds)))

abbrev pub by_arrays : ℕ → List (List Lit) → ℕ
by_arrays a lss = times_in a (joined (map arrays_in lss))

sort_split : (a : ℕ) (s : Sort) (ts : List Phrase) → times_in a (joined (map arrays_named (with_phrase s ts))) ≡ times_in a (arrays_named (phrase_of s)) + times_in a (joined (map arrays_named ts))
sort_split a (body t) ts = times_both a (arrays_named t) (joined (map arrays_named ts))
sort_split a (past t) ts = times_both a (arrays_named t) (joined (map arrays_named ts))
sort_split a (method c g t) ts = times_both a (arrays_named t) (joined (map arrays_named ts))
sort_split a _ ts = omega arith

pub words_split : (a : ℕ) (d : WordDef) (ds : List WordDef) → by_words a (d ∷ ds) ≡ times_in a (arrays_named (phrase_of d.sort)) + by_words a ds
words_split a d ds = sort_split a d.sort (word_phrases ds)

module _ (P : Program) where
  abbrev naming_sort : ℕ → ℕ → Sort → Option ℕ → Option ℕ
  naming_sort a k s o = elim s [ method c g t ↦ elim (phrase_names a t) [ true ↦ Some k | false ↦ o ] | _ ↦ o ]

  passed_sort : (a k : ℕ) (s : Sort) (o : Option ℕ) → times_in a (arrays_named (phrase_of s)) ≡ 0 → naming_sort a k s o ≡ o
  passed_sort a k (method c g t) o e = ap (λ (b : Bool). elim b [ true ↦ Some k | false ↦ o ]) (told_none (phrase_names a t) (times_in a (arrays_named t)) (phrase_tells a t) e)
  passed_sort a k _ o e = refl

  found_sort : (a k : ℕ) (s : Sort) (o : Option ℕ) → 0 < times_in a (arrays_named (phrase_of s)) → o ≡ None → naming_sort a k s o ≡ method_of k s
  found_sort a k (method c g t) o lt e = ap (λ (b : Bool). elim b [ true ↦ Some k | false ↦ o ]) (told_some (phrase_names a t) (times_in a (arrays_named t)) (phrase_tells a t) lt)
  found_sort a k _ o lt e = e

  -- what no word names is in no method
  pub no_naming : (a k : ℕ) (ds : List WordDef) → by_words a ds ≡ 0 → method_naming P a k ds ≡ None
  no_naming a k [] e = refl
  no_naming a k (d ∷ ds) e =
      let split = words_split a d ds in
      passed_sort a k d.sort (method_naming P a (suc k) ds) (omega (arith, e, split)) ∙ no_naming a (suc k) ds (omega (arith, e, split))

  word_least : (a k : ℕ) (ds : List WordDef) (d : WordDef) → slice_get ds k ≡ Some d → times_in a (arrays_named (phrase_of d.sort)) ≤ by_words a ds
  word_least a k [] d e = absurd cc
  word_least a zero (x ∷ ds) d e =
      let same : x ≡ d = cc in
      let split = words_split a x ds in
      let here = ap (λ (y : WordDef). times_in a (arrays_named (phrase_of y.sort))) same in
      omega (arith, split, here)
  word_least a (suc k) (x ∷ ds) d e =
      let split = words_split a x ds in
      let more = word_least a k ds d e in
      omega (arith, split, more)

  -- what one word names
  one_naming : (a k j w : ℕ) (ds : List WordDef) (d : WordDef) → w ≡ k + j → slice_get ds j ≡ Some d → 0 < times_in a (arrays_named (phrase_of d.sort)) → by_words a ds ≤ 1 → method_naming P a k ds ≡ method_of w d.sort
  one_naming a k j w [] d is e lt once = absurd cc
  one_naming a k zero w (x ∷ ds) d is e lt once =
      let same : x ≡ d = cc in
      let here : k ≡ w = omega (arith, is) in
      let split = words_split a x ds in
      let some = ap (λ (y : WordDef). times_in a (arrays_named (phrase_of y.sort))) same in
      found_sort a k x.sort (method_naming P a (suc k) ds) (omega (arith, lt, some)) (no_naming a (suc k) ds (omega (arith, split, some, lt, once))) ∙ ap (λ (y : WordDef). method_of k y.sort) same ∙ ap (λ (v : ℕ). method_of v d.sort) here
  one_naming a k (suc j) w (x ∷ ds) d is e lt once =
      let split = words_split a x ds in
      let least = word_least a j ds d e in
      passed_sort a k x.sort (method_naming P a (suc k) ds) (omega (arith, split, least, lt, once)) ∙ one_naming a (suc k) j w ds d (omega (arith, is)) e lt (omega (arith, split, once))

  abbrev naming_array : ℕ → Bool → Option ℕ → Option ℕ
  naming_array k b o = elim b [ true ↦ Some k | false ↦ o ]

  pub arrays_split : (a : ℕ) (ls : List Lit) (lss : List (List Lit)) → by_arrays a (ls ∷ lss) ≡ times_in a (arrays_in ls) + by_arrays a lss
  arrays_split a ls lss = times_both a (arrays_in ls) (joined (map arrays_in lss))

  pub no_array_naming : (a k : ℕ) (lss : List (List Lit)) → by_arrays a lss ≡ 0 → array_naming P a k lss ≡ None
  no_array_naming a k [] e = refl
  no_array_naming a k (ls ∷ lss) e =
      let split = arrays_split a ls lss in
      ap (λ (b : Bool). naming_array k b (array_naming P a (suc k) lss)) (told_none (literals_name a ls) (times_in a (arrays_in ls)) (elements_tell a ls) (omega (arith, e, split))) ∙ no_array_naming a (suc k) lss (omega (arith, e, split))

  array_least : (a k : ℕ) (lss : List (List Lit)) (ls : List Lit) → slice_get lss k ≡ Some ls → times_in a (arrays_in ls) ≤ by_arrays a lss
  array_least a k [] ls e = absurd cc
  array_least a zero (xs ∷ lss) ls e =
      let same : xs ≡ ls = cc in
      let split = arrays_split a xs lss in
      let here = ap (λ (ys : List Lit). times_in a (arrays_in ys)) same in
      omega (arith, split, here)
  array_least a (suc k) (xs ∷ lss) ls e =
      let split = arrays_split a xs lss in
      let more = array_least a k lss ls e in
      omega (arith, split, more)

  -- what one array names
  one_array_naming : (a k j c : ℕ) (lss : List (List Lit)) (ls : List Lit) → c ≡ k + j → slice_get lss j ≡ Some ls → 0 < times_in a (arrays_in ls) → by_arrays a lss ≤ 1 → array_naming P a k lss ≡ Some c
  one_array_naming a k j c [] ls is e lt once = absurd cc
  one_array_naming a k zero c (xs ∷ lss) ls is e lt once =
      let same : xs ≡ ls = cc in
      let here : k ≡ c = omega (arith, is) in
      let some = ap (λ (ys : List Lit). times_in a (arrays_in ys)) same in
      ap (λ (b : Bool). naming_array k b (array_naming P a (suc k) lss)) (told_some (literals_name a xs) (times_in a (arrays_in xs)) (elements_tell a xs) (omega (arith, lt, some))) ∙ ap Some here
  one_array_naming a k (suc j) c (xs ∷ lss) ls is e lt once =
      let split = arrays_split a xs lss in
      let least = array_least a j lss ls e in
      ap (λ (b : Bool). naming_array k b (array_naming P a (suc k) lss)) (told_none (literals_name a xs) (times_in a (arrays_in xs)) (elements_tell a xs) (omega (arith, split, least, lt, once))) ∙ one_array_naming a (suc k) j c lss ls (omega (arith, is)) e lt (omega (arith, split, once))

  -- an array that names another one comes behind it
  not_below : (a k : ℕ) (ls : List Lit) → names_earlier k ls ≡ true → 0 < times_in a (arrays_in ls) → (a < k) ⊎ (k ≤ a) → a < k
  not_below a k ls h lt (inl less) = less
  not_below a k ls h lt (inr le) = absurd (let none = absent a k (arrays_in ls) h le in omega (arith, none, lt))

  pub naming_later : (a k c : ℕ) (lss : List (List Lit)) → each_numbered names_earlier k lss ≡ true → array_naming P a k lss ≡ Some c → (a < c) × (c < k + length lss)
  naming_later a k c [] h e = absurd cc
  naming_later a k c (ls ∷ lss) h e = go (literals_name a ls) refl (λ f g. naming_later a (suc k) c lss f g)
    where
      go : (b : Bool) → literals_name a ls ≡ b → (each_numbered names_earlier (suc k) lss ≡ true → array_naming P a (suc k) lss ≡ Some c → (a < c) × (c < suc k + length lss)) → (a < c) × (c < k + suc (length lss))
      go true is later =
          let both = and_parts (names_earlier k ls) (each_numbered names_earlier (suc k) lss) h in
          let one : Some k ≡ Some c = sym (ap (λ (b : Bool). naming_array k b (array_naming P a (suc k) lss)) is) ∙ e in
          let same : k ≡ c = cc in
          let less = not_below a k ls both.0 (told_by (literals_name a ls) (times_in a (arrays_in ls)) (elements_tell a ls) is) (cases_lt a k) in
          (omega (arith, less, same), omega (arith, same))
      go false is later =
          let both = and_parts (names_earlier k ls) (each_numbered names_earlier (suc k) lss) h in
          let more = later both.1 (sym (ap (λ (b : Bool). naming_array k b (array_naming P a (suc k) lss)) is) ∙ e) in
          (more.0, omega (arith, more.1))

  abbrev around_by : ℕ → Option ℕ → Option ℕ → Option ℕ
  around_by n o r = elim o [ Some m ↦ Some m | None ↦ elim r [ None ↦ None | Some b ↦ array_method P n b ] ]

  around_none : (n : ℕ) (o : Option ℕ) → around_by n o None ≡ o
  around_none n None = refl
  around_none n (Some m) = refl

  module _ (once : (b : ℕ) → b < length P.arrays → by_words b P.words + by_arrays b P.arrays ≡ 1) (earlier : each_numbered names_earlier 0 P.arrays ≡ true) where
    -- the method of a phrase is that of the arrays that it names
    pub word_array : (w b : ℕ) (d : WordDef) → b < length P.arrays → slice_get P.words w ≡ Some d → 0 < times_in b (arrays_named (phrase_of d.sort)) → method_of w d.sort ≡ array_method P (length P.arrays) b
    word_array w b d inside at named = by_count (length P.arrays) inside
      where
        by_count : (n : ℕ) → b < n → method_of w d.sort ≡ array_method P n b
        by_count zero lt = absurd (omega (arith, lt))
        by_count (suc n) lt =
            let one = once b inside in
            let least = word_least b w P.words d at in
            sym (ap (λ (r : Option ℕ). around_by n (method_naming P b 0 P.words) r) (no_array_naming b 0 P.arrays (omega (arith, one, least, named))) ∙ around_none n (method_naming P b 0 P.words) ∙ one_naming b 0 w w P.words d (omega arith) at named (omega (arith, one)))

    more_around : (k : ℕ) (o r : Option ℕ) → ((c : ℕ) → r ≡ Some c → array_method P k c ≡ array_method P (suc k) c) → around_by k o r ≡ around_by (suc k) o r
    more_around k (Some m) r h = refl
    more_around k None None h = refl
    more_around k None (Some c) h = h c refl

    nothing_around : (o r : Option ℕ) → ((c : ℕ) → r ≡ Some c → ⊥) → o ≡ around_by 0 o r
    nothing_around (Some m) r h = refl
    nothing_around None None h = refl
    nothing_around None (Some c) h = absurd (h c refl)

    -- as many arrays around one as there are behind it are enough
    pub enough : (k a : ℕ) → length P.arrays ≤ suc (a + k) → array_method P k a ≡ array_method P (suc k) a
    enough zero a le = nothing_around (method_naming P a 0 P.words) (array_naming P a 0 P.arrays) (λ c e. let later = naming_later a 0 c P.arrays earlier e in omega (arith, later.0, later.1, le))
    enough (suc k) a le = more_around k (method_naming P a 0 P.words) (array_naming P a 0 P.arrays) (λ c e. let later = naming_later a 0 c P.arrays earlier e in enough k c (omega (arith, later.0, le)))

    -- the method of an array is that of the arrays that it names
    pub array_array : (a b : ℕ) (ls : List Lit) → b < length P.arrays → slice_get P.arrays a ≡ Some ls → 0 < times_in b (arrays_in ls) → array_method P (length P.arrays) a ≡ array_method P (length P.arrays) b
    array_array a b ls inside at named = by_count (length P.arrays) refl inside
      where
        by_count : (n : ℕ) → length P.arrays ≡ n → b < n → array_method P n a ≡ array_method P n b
        by_count zero is lt = absurd (omega (arith, lt))
        by_count (suc n) is lt =
            let one = once b inside in
            let least = array_least b a P.arrays ls at in
            let words = no_naming b 0 P.words (omega (arith, one, least, named)) in
            let arrays = one_array_naming b 0 a a P.arrays ls (omega arith) at named (omega (arith, one)) in
            sym (enough n a (omega (arith, is))) ∙ sym (ap (λ (o : Option ℕ). around_by n o (array_naming P b 0 P.arrays)) words ∙ ap (around_by n None) arrays)
