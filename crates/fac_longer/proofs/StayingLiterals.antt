-- The literals of a program are the first ones of a longer program.
use Rattle.std.proofs.Common.{◌≡◌, ◌<◌, ℕ, zero, suc, ◌+◌, List, [], ◌∷◌, ◌++◌, length, true, false, Option, Some, None, refl, sym, ap, ◌∙◌, append_assoc, length-append, arith}
use Rattle.std.specs.Prelude.{map, slice_get}
use Rattle.std.proofs.lemmas.List.{map-append}
use Rattle.fac_base.specs.declared.place.Place.{Place}
use Rattle.fac_lang.specs.declared.program.Lit.{Lit}
use Rattle.fac_lang.specs.declared.program.Program.{Program}
use Rattle.fac_lang.specs.declared.program.Sort.{Sort}
use Rattle.fac_lang.specs.declared.program.Sort.TheVariants.{Body as body, Method as method}
use Rattle.fac_lang.specs.declared.program.WordDef.{WordDef}
use Rattle.fac_lang.specs.Phrases.{Phrase, Literal}
use Rattle.fac_lang.specs.Meaning.{phrase_names, literals_name, method_naming, array_naming, array_method}
use Rattle.fac_lang.specs.Whole.{IsWhole, word_phrases, arrays_named, times_in, joined}
use Rattle.fac_lang.proofs.SourcePrograms.{IsSessionProgram, session_of_whole}
use Rattle.fac_locals.specs.Cells.{inner_cells, inner_phrase}
use Rattle.fac_locals.specs.Frames.{filled}
use Rattle.fac_locals.specs.Literals.{Quoted, first_of_word, first_in_array, elements_phrase, array_or_none, array_phrase, literals, literal_or, literal_numbered}
use Rattle.fac_locals.specs.inner.Numbering.{phrase_of, method_of, plain_phrase}
use Rattle.fac_locals.proofs.ArrayMethods.{by_words, by_arrays, words_split, arrays_split, no_naming, no_array_naming, naming_later, enough}
use Rattle.fac_locals.proofs.ArrayNames.{with_phrase}
use Rattle.fac_locals.proofs.ClosedPrograms.{named_once}
use Rattle.fac_locals.proofs.LiteralArrays.{AreClosable, program_closable, array_closable, array_phrase_is, body_of}
use Rattle.fac_locals.proofs.PlacedLiterals.{Placed, quoted_of, place_at, placed_in, array_placed, placed_words, program_placed, placed_literals, placed_places, phrase_same, arrays_same, found}
use Rattle.fac_lang.specs.LongerPrograms.{as_earlier, with_earlier, IsLonger}
use Rattle.fac_longer.specs.Laws.{LiteralsStay, PlacesStay, TemplatesStay}

-- what an earlier phrase is named for is what it was named for
earlier_phrases : (n : ℕ) (ds : List WordDef) → word_phrases (with_earlier n ds) ≡ word_phrases ds
earlier_phrases n [] = refl
earlier_phrases zero (d ∷ ds) = by d.sort
  where
    by : (s : Sort) → with_phrase (as_earlier s) (word_phrases ds) ≡ with_phrase s (word_phrases ds)
    by (body t) = refl
    by _ = refl
earlier_phrases (suc n) (d ∷ ds) = ap (with_phrase d.sort) (earlier_phrases n ds)

-- the literals of words, of which one is an earlier phrase
earlier_placed : (X : ℕ → Literal → Place → List Placed) (n w : ℕ) (ds : List WordDef) → placed_words X w (with_earlier n ds) ≡ placed_words X w ds
earlier_placed X n w [] = refl
earlier_placed X zero w (d ∷ ds) = ap (λ (t : Phrase). placed_in X [] (first_of_word w) t ++ placed_words X (suc w) ds) (by d.sort)
  where
    by : (s : Sort) → body_of w (as_earlier s) ≡ body_of w s
    by (body t) = refl
    by _ = refl
earlier_placed X (suc n) w (d ∷ ds) = ap (λ (ls : List Placed). placed_in X [] (first_of_word w) (body_of w d.sort) ++ ls) (earlier_placed X n (suc w) ds)

-- the literals of words and of others behind them
placed_both : (X : ℕ → Literal → Place → List Placed) (w : ℕ) (ds es : List WordDef) → (more : List Placed) × (placed_words X w (ds ++ es) ≡ placed_words X w ds ++ more)
placed_both X w [] es = (placed_words X w es, refl)
placed_both X w (d ∷ ds) es =
    let here = placed_in X [] (first_of_word w) (body_of w d.sort) in
    let rest = placed_both X (suc w) ds es in
    (rest.0, ap (λ (ls : List Placed). here ++ ls) rest.1 ∙ sym (append_assoc here (placed_words X (suc w) ds) rest.0))

-- how often words name an array
by_both_words : (a : ℕ) (ds es : List WordDef) → by_words a (ds ++ es) ≡ by_words a ds + by_words a es
by_both_words a [] es = omega arith
by_both_words a (d ∷ ds) es =
    let all = words_split a d (ds ++ es) in
    let own = words_split a d ds in
    let rest = by_both_words a ds es in
    omega (arith, all, own, rest)

by_both_arrays : (P : Program) (a : ℕ) (lss mss : List (List Lit)) → by_arrays a (lss ++ mss) ≡ by_arrays a lss + by_arrays a mss
by_both_arrays P a [] mss = omega arith
by_both_arrays P a (ls ∷ lss) mss =
    let all = arrays_split P a ls (lss ++ mss) in
    let own = arrays_split P a ls lss in
    let rest = by_both_arrays P a lss mss in
    omega (arith, all, own, rest)

front_there : {A : Type 0} (xs ys : List A) (k : ℕ) → k < length xs → slice_get (xs ++ ys) k ≡ slice_get xs k
front_there [] ys k lt = absurd (omega (arith, lt))
front_there (x ∷ xs) ys zero lt = refl
front_there (x ∷ xs) ys (suc k) lt = front_there xs ys k (omega (arith, lt))

-- The method that words name an array in hangs on no program but these words.
module _ (P Q : Program) where
  abbrev naming_sort : ℕ → ℕ → Sort → Option ℕ → Option ℕ
  naming_sort a k s o = elim s [ method c g t ↦ elim (phrase_names a t) [ true ↦ Some k | false ↦ o ] | _ ↦ o ]

  naming_front : (a k : ℕ) (ds more : List WordDef) → by_words a more ≡ 0 → method_naming Q a k (ds ++ more) ≡ method_naming P a k ds
  naming_front a k [] more none = no_naming Q a k more none
  naming_front a k (d ∷ ds) more none = ap (naming_sort a k d.sort) (naming_front a (suc k) ds more none)

  naming_earlier : (a k n : ℕ) (ds : List WordDef) → method_naming P a k (with_earlier n ds) ≡ method_naming P a k ds
  naming_earlier a k n [] = refl
  naming_earlier a k zero (d ∷ ds) = by d.sort
    where
      by : (s : Sort) → naming_sort a k (as_earlier s) (method_naming P a (suc k) ds) ≡ naming_sort a k s (method_naming P a (suc k) ds)
      by (body t) = refl
      by _ = refl
  naming_earlier a k (suc n) (d ∷ ds) = ap (naming_sort a k d.sort) (naming_earlier a (suc k) n ds)

  array_naming_front : (a k : ℕ) (lss more : List (List Lit)) → by_arrays a more ≡ 0 → array_naming Q a k (lss ++ more) ≡ array_naming P a k lss
  array_naming_front a k [] more none = no_array_naming Q a k more none
  array_naming_front a k (ls ∷ lss) more none = ap (λ (o : Option ℕ). elim (literals_name a ls) [ true ↦ Some k | false ↦ o ]) (array_naming_front a (suc k) lss more none)

module _ (P Q : Program) (p : IsWhole P) (q : IsWhole Q) (F : IsLonger P Q) where
  bp : IsSessionProgram P
  bp = session_of_whole P p

  bq : IsSessionProgram Q
  bq = session_of_whole Q q

  more_arrays : length Q.arrays ≡ length P.arrays + length F.more_arrays
  more_arrays = ap length F.arrays_are ∙ length-append P.arrays F.more_arrays

  -- an array of the first is named there once, and so by nothing behind
  words_count : (a : ℕ) → by_words a Q.words ≡ by_words a P.words + by_words a F.more_words
  words_count a =
      ap (by_words a) F.words_are ∙ by_both_words a (with_earlier P.top P.words) F.more_words
      ∙ ap (λ (ts : List Phrase). times_in a (joined (map arrays_named ts)) + by_words a F.more_words) (earlier_phrases P.top P.words)

  arrays_count : (a : ℕ) → by_arrays a Q.arrays ≡ by_arrays a P.arrays + by_arrays a F.more_arrays
  arrays_count a = ap (by_arrays a) F.arrays_are ∙ by_both_arrays P a P.arrays F.more_arrays

  no_more : (a : ℕ) → a < length P.arrays → (by_words a F.more_words ≡ 0) × (by_arrays a F.more_arrays ≡ 0)
  no_more a lt =
      let many = more_arrays in
      let own = named_once P bp p a lt in
      let all = named_once Q bq q a (omega (arith, lt, many)) in
      let words = words_count a in
      let arrays = arrays_count a in
      (omega (arith, own, all, words, arrays), omega (arith, own, all, words, arrays))

  words_same : (a : ℕ) → a < length P.arrays → method_naming Q a 0 Q.words ≡ method_naming P a 0 P.words
  words_same a lt = ap (method_naming Q a 0) F.words_are ∙ naming_front P Q a 0 (with_earlier P.top P.words) F.more_words (no_more a lt).0 ∙ naming_earlier P Q a 0 P.top P.words

  around_same : (a : ℕ) → a < length P.arrays → array_naming Q a 0 Q.arrays ≡ array_naming P a 0 P.arrays
  around_same a lt = ap (array_naming Q a 0) F.arrays_are ∙ array_naming_front P Q a 0 P.arrays F.more_arrays (no_more a lt).1

  -- the method in which an array of the first stands, where so many nest
  abbrev around_by : Program → ℕ → Option ℕ → Option ℕ → Option ℕ
  around_by R n o r = elim o [ Some m ↦ Some m | None ↦ elim r [ None ↦ None | Some b ↦ array_method R n b ] ]

  both_around : (n : ℕ) (o r : Option ℕ) → ((b : ℕ) → r ≡ Some b → array_method Q n b ≡ array_method P n b) → around_by Q n o r ≡ around_by P n o r
  both_around n (Some m) r h = refl
  both_around n None None h = refl
  both_around n None (Some b) h = h b refl

  method_stays : (n a : ℕ) → a < length P.arrays → array_method Q n a ≡ array_method P n a
  method_stays zero a lt = words_same a lt
  method_stays (suc n) a lt =
      let words = words_same a lt in
      let arrays = around_same a lt in
      ap (λ (o : Option ℕ). around_by Q n o (array_naming Q a 0 Q.arrays)) words ∙ ap (around_by Q n (method_naming P a 0 P.words)) arrays
      ∙ both_around n (method_naming P a 0 P.words) (array_naming P a 0 P.arrays) (λ b e. method_stays n b (let later = naming_later P a 0 b P.arrays p.arrays_earlier e in omega (arith, later.1)))

  -- more nestings than arrays change nothing
  more_nestings : (j a : ℕ) → array_method P (length P.arrays + j) a ≡ array_method P (length P.arrays) a
  more_nestings zero a = let n : length P.arrays + 0 ≡ length P.arrays = omega arith in ap (λ (k : ℕ). array_method P k a) n
  more_nestings (suc j) a =
      let n : length P.arrays + suc j ≡ suc (length P.arrays + j) = omega arith in
      ap (λ (k : ℕ). array_method P k a) n ∙ sym (enough P (named_once P bp p) p.arrays_earlier (length P.arrays + j) a (omega arith)) ∙ more_nestings j a

  around_stays : (a : ℕ) → a < length P.arrays → array_method Q (length Q.arrays) a ≡ array_method P (length P.arrays) a
  around_stays a lt = method_stays (length Q.arrays) a lt ∙ ap (λ (k : ℕ). array_method P k a) more_arrays ∙ more_nestings (length F.more_arrays) a

  elements_stay : (a : ℕ) → a < length P.arrays → slice_get Q.arrays a ≡ slice_get P.arrays a
  elements_stay a lt = ap (λ (lss : List (List Lit)). slice_get lss a) F.arrays_are ∙ front_there P.arrays F.more_arrays a lt

  array_stays : (a : ℕ) (at : Place) → a < length P.arrays → array_phrase Q a at ≡ array_phrase P a at
  array_stays a at lt =
      ap (λ (m : Option ℕ). elements_phrase m at (array_or_none (slice_get Q.arrays a))) (around_stays a lt)
      ∙ ap (λ (o : Option (List Lit)). elements_phrase (array_method P (length P.arrays) a) at (array_or_none o)) (elements_stay a lt)

  -- the literals of an array of the first
  literals_stay : (n a : ℕ) (at : Literal) (place : Place) → a < length P.arrays → array_placed Q n a at place ≡ array_placed P n a at place
  literals_stay zero a at place lt = refl
  literals_stay (suc n) a at place lt =
      let here = found P.arrays a lt in
      let around = array_method P (length P.arrays) a in
      let is = array_phrase_is P bp p a place here.0 here.1 in
      ap (placed_in (array_placed Q n) [] (first_in_array at)) (array_stays a place lt ∙ is)
      ∙ phrase_same (array_placed Q n) (array_placed P n) a (λ (b : ℕ) (at : Literal) (place : Place) (less : b < a). literals_stay n b at place (omega (arith, lt, less))) around [] (first_in_array at) (plain_phrase place here.0) (array_closable P bp p a place here.0 here.1)
      ∙ sym (ap (placed_in (array_placed P n) [] (first_in_array at)) is)

  placed_stay : (a : ℕ) (at : Literal) (place : Place) → a < length P.arrays → array_placed Q (length Q.arrays) a at place ≡ array_placed P (length P.arrays) a at place
  placed_stay a at place lt = let many = more_arrays in literals_stay (length Q.arrays) a at place lt ∙ arrays_same P bp p (length Q.arrays) (length P.arrays) a at place (omega (arith, lt, many)) lt lt

  abbrev X : ℕ → Literal → Place → List Placed
  X = array_placed P (length P.arrays)

  abbrev Y : ℕ → Literal → Place → List Placed
  Y = array_placed Q (length Q.arrays)

  words_stay : (w : ℕ) (ds : List WordDef) → AreClosable (length P.arrays) ds → placed_words Y w ds ≡ placed_words X w ds
  words_stay w [] h = refl
  words_stay w (d ∷ ds) h =
      ap (λ (ls : List Placed). ls ++ placed_words Y (suc w) ds) (phrase_same Y X (length P.arrays) placed_stay (method_of w d.sort) [] (first_of_word w) (phrase_of d.sort) h.0)
      ∙ ap (λ (ls : List Placed). placed_in X [] (first_of_word w) (body_of w d.sort) ++ ls) (words_stay (suc w) ds h.1)

  pub more_placed : (more : List Placed) × (program_placed Q ≡ program_placed P ++ more)
  more_placed =
      let both = placed_both Y 0 (with_earlier P.top P.words) F.more_words in
      (both.0, ap (placed_words Y 0) F.words_are ∙ both.1 ∙ ap (λ (ls : List Placed). ls ++ both.0) (earlier_placed Y P.top 0 P.words ∙ words_stay 0 P.words (program_closable P bp p)))

pub literals_are : LiteralsStay
literals_are P Q p q F =
    let more = more_placed P Q p q F in
    (map quoted_of more.0, sym (placed_literals Q (session_of_whole Q q) q) ∙ ap (map quoted_of) more.1 ∙ map-append quoted_of (program_placed P) more.0 ∙ ap (λ (ls : List Quoted). ls ++ map quoted_of more.0) (placed_literals P (session_of_whole P p) p))

pub places_are : PlacesStay
places_are P Q p q F =
    let more = more_placed P Q p q F in
    (map place_at more.0, sym (placed_places Q (session_of_whole Q q) q) ∙ ap (map place_at) more.1 ∙ map-append place_at (program_placed P) more.0 ∙ ap (λ (ls : List Place). ls ++ map place_at more.0) (placed_places P (session_of_whole P p) p))

-- a literal of a number that is there hangs on no more of the program
same_literal : (P Q : Program) (o : Option Quoted) (k : ℕ) (l : Quoted) → o ≡ Some l → literal_or Q k o ≡ literal_or P k o
same_literal P Q o k l e = ap (literal_or Q k) e ∙ sym (ap (literal_or P k) e)

pub numbered_are : (P Q : Program) → IsWhole P → IsWhole Q → IsLonger P Q → (k : ℕ) → k < length (literals P) → literal_numbered Q k ≡ literal_numbered P k
numbered_are P Q p q F k lt =
    let more = literals_are P Q p q F in
    let there = found (literals P) k lt in
    ap (λ (ls : List Quoted). literal_or Q k (slice_get ls k)) more.1 ∙ ap (literal_or Q k) (front_there (literals P) more.0 k lt) ∙ same_literal P Q (slice_get (literals P) k) k there.0 there.1

pub templates_are : TemplatesStay
templates_are P Q p q F k lt is = ap (λ (l : Quoted). filled (inner_cells l.cells l.item) is (inner_phrase l.item)) (numbered_are P Q p q F k lt)
