-- The literal arrays of a whole program: each names only earlier ones, and so many quotations are counted in each.
use Rattle.std.proofs.Common.{◌≡◌, ◌<◌, ◌≤◌, ℕ, zero, suc, ◌+◌, List, [], ◌∷◌, ◌++◌, length, get_or, Option, Some, None, Bool, true, refl, sym, ap, ◌∙◌, subst, length-append, arith}
use Rattle.std.specs.Prelude.{map, slice_get, nat_lt, ◌&&◌}
use Rattle.std.specs.List.{list_all}
use Rattle.std.proofs.lemmas.List.{get_or_append_left, get_or_at}
use Rattle.std.proofs.lemmas.List.Folds.{list_all-append}
use Rattle.std.proofs.lemmas.Bool.{ltb-true, and_parts}
use Rattle.fac_lang.specs.Phrases.{int, yes, no, str, wrd, Phrase, end, then, Item, lit, lit_arr, quot, word, bind, local, fry, hole, call_effect, execute_effect, next_method}
use Rattle.fac_lang.specs.Substitution.{of_method, of_method_item}
use Rattle.fac_lang.specs.Meaning.{nowhere, of_method_if, array_method}
use Rattle.fac_base.specs.declared.place.Place.{Place}
use Rattle.fac_lang.specs.declared.program.Lit.{Lit}
use Rattle.fac_lang.specs.declared.program.Lit.TheVariants.{Int as l_int, True as l_yes, False as l_no, Str as l_str, Arr as l_arr, Wref as l_word, Quot as l_quot, Made as l_made}
use Rattle.fac_lang.specs.declared.program.Program.{Program}
use Rattle.fac_lang.specs.declared.program.WordDef.{WordDef}
use Rattle.fac_lang.specs.declared.program.Sort.{Sort}
use Rattle.fac_lang.specs.declared.program.Sort.TheVariants.{Body as body, Past as past, Method as method}
use Rattle.fac_lang.proofs.SourcePrograms.{IsSessionProgram, IsPhraseOf, IsItemOf, IsSortOf, AreWordsOf, AreElementsOf, AreArraysOf, may_name}
use Rattle.fac_lang.specs.Whole.{IsWhole, each_item, each_inner, item_fits, word_phrases, quotations, joined, arrays_named, arrays_named_by, arrays_in, each_numbered, names_earlier}
use Rattle.fac_locals.specs.Literals.{array_phrase, array_or_none, elements_phrase}
use Rattle.fac_locals.specs.inner.Numbering.{phrase_behind, item_behind, plain_phrase, phrase_of, method_of, next_in, elements_count, counts_from}

-- the phrase of a word, where it has one, has the items that a source can have
abbrev pub HasBuiltPhrase : (ℕ → Bool) → Sort → Type 0
HasBuiltPhrase named (body t) = IsPhraseOf named t
HasBuiltPhrase named (past t) = IsPhraseOf named t
HasBuiltPhrase named (method c g t) = IsPhraseOf named t
HasBuiltPhrase named _ = Unit {0}

-- likewise the phrases of words
abbrev pub HaveBuiltPhrases : (ℕ → Bool) → List WordDef → Type 0
HaveBuiltPhrases named [] = Unit {0}
HaveBuiltPhrases named (d ∷ ds) = HasBuiltPhrase named d.sort × HaveBuiltPhrases named ds

sort_built : (named : ℕ → Bool) (d : WordDef) (s : Sort) → IsSortOf named d s → HasBuiltPhrase named s
sort_built named d (body t) h = h
sort_built named d (past t) h = h.1
sort_built named d (method c g t) h = h.1
sort_built named d _ h = tt

phrases_built : (named : ℕ → Bool) (ds : List WordDef) (d : WordDef) → AreWordsOf named ds → HasBuiltPhrase named d.sort → HaveBuiltPhrases named (ds ++ d ∷ [])
phrases_built named [] d hs h = (h, tt)
phrases_built named (x ∷ ds) d hs h = (sort_built named x x.sort hs.0, phrases_built named ds d hs.1 h)

-- each phrase of a whole program has such items
pub built_phrases : (P : Program) → IsSessionProgram P → HaveBuiltPhrases (may_name P) P.words
built_phrases P b = subst (HaveBuiltPhrases (may_name P)) (sym b.words_are) (phrases_built (may_name P) b.words b.last_word b.words_from_source (subst (HasBuiltPhrase (may_name P)) (sym b.last_word_is.sort_is) b.last_word_is.from_source))

-- a phrase with such items that names only literal arrays before this one
abbrev mutual
  pub IsClosable : ℕ → Phrase → Type 0
  IsClosable a end = Unit {0}
  IsClosable a (then i p t) = IsClosableItem a i × IsClosable a t

  pub IsClosableItem : ℕ → Item → Type 0
  IsClosableItem a (lit q) = Unit {0}
  IsClosableItem a (lit_arr b) = b < a
  IsClosableItem a (word w) = Unit {0}
  IsClosableItem a (quot t) = IsClosable a t
  IsClosableItem a (bind x) = Unit {0}
  IsClosableItem a (local x) = Unit {0}
  IsClosableItem a (fry t n) = IsClosable a t
  IsClosableItem a (hole k) = Unit {0}
  IsClosableItem a next_method = Unit {0}
  IsClosableItem a (call_effect g) = Unit {0}
  IsClosableItem a (execute_effect g) = Unit {0}
  IsClosableItem a _ = ⊥

-- the same phrase in a method, or in none
abbrev mutual
  pub in_method : Option ℕ → Phrase → Phrase
  in_method m end = end
  in_method m (then i p t) = then (item_in m i) p (in_method m t)

  pub item_in : Option ℕ → Item → Item
  item_in m (quot t) = quot (in_method m t)
  item_in m (fry t n) = fry (in_method m t) n
  item_in m next_method = next_in m
  item_in m i = i

both_items : (i j : Item) (p : Place) (t u : Phrase) → i ≡ j → t ≡ u → then i p t ≡ then j p u
both_items i j p t u e f = rw (e, f) refl

mutual
  in_none : (a : ℕ) (t : Phrase) → IsClosable a t → in_method None t ≡ t
  in_none a end h = refl
  in_none a (then i p t) h = both_items (item_in None i) i p (in_method None t) t (item_in_none a i h.0) (in_none a t h.1)

  item_in_none : (a : ℕ) (i : Item) → IsClosableItem a i → item_in None i ≡ i
  item_in_none a (lit q) h = refl
  item_in_none a (lit_arr b) h = refl
  item_in_none a (word w) h = refl
  item_in_none a (quot t) h = ap quot (in_none a t h)
  item_in_none a (bind x) h = refl
  item_in_none a (local x) h = refl
  item_in_none a (fry t n) h = ap (λ (u : Phrase). fry u n) (in_none a t h)
  item_in_none a (hole k) h = refl
  item_in_none a next_method h = refl
  item_in_none a (call_effect g) h = refl
  item_in_none a (execute_effect g) h = refl
  item_in_none a _ h = absurd h

mutual
  in_some : (a m : ℕ) (t : Phrase) → IsClosable a t → in_method (Some m) t ≡ of_method m t
  in_some a m end h = refl
  in_some a m (then i p t) h = both_items (item_in (Some m) i) (of_method_item m i) p (in_method (Some m) t) (of_method m t) (item_in_some a m i h.0) (in_some a m t h.1)

  item_in_some : (a m : ℕ) (i : Item) → IsClosableItem a i → item_in (Some m) i ≡ of_method_item m i
  item_in_some a m (lit q) h = refl
  item_in_some a m (lit_arr b) h = refl
  item_in_some a m (word w) h = refl
  item_in_some a m (quot t) h = ap quot (in_some a m t h)
  item_in_some a m (bind x) h = refl
  item_in_some a m (local x) h = refl
  item_in_some a m (fry t n) h = ap (λ (u : Phrase). fry u n) (in_some a m t h)
  item_in_some a m (hole k) h = refl
  item_in_some a m next_method h = refl
  item_in_some a m (call_effect g) h = refl
  item_in_some a m (execute_effect g) h = refl
  item_in_some a m _ h = absurd h

-- the phrase of word w as it stands in this word
abbrev pub body_of : ℕ → Sort → Phrase
body_of w s = in_method (method_of w s) (phrase_of s)

-- that is its form in the method
pub in_method_is : (a : ℕ) (m : Option ℕ) (t : Phrase) → IsClosable a t → in_method m t ≡ of_method_if m t
in_method_is a None t h = in_none a t h
in_method_is a (Some m) t h = in_some a m t h

-- likewise the bodies of words
abbrev pub AreClosable : ℕ → List WordDef → Type 0
AreClosable a [] = Unit {0}
AreClosable a (d ∷ ds) = IsClosable a (phrase_of d.sort) × AreClosable a ds

mutual
  pub closable_more : (a n : ℕ) (t : Phrase) → a ≤ n → IsClosable a t → IsClosable n t
  closable_more a n end le h = tt
  closable_more a n (then i p t) le h = (closable_item_more a n i le h.0, closable_more a n t le h.1)

  closable_item_more : (a n : ℕ) (i : Item) → a ≤ n → IsClosableItem a i → IsClosableItem n i
  closable_item_more a n (lit q) le h = tt
  closable_item_more a n (lit_arr b) le h = omega (arith, le, h)
  closable_item_more a n (word w) le h = tt
  closable_item_more a n (quot t) le h = closable_more a n t le h
  closable_item_more a n (bind x) le h = tt
  closable_item_more a n (local x) le h = tt
  closable_item_more a n (fry t k) le h = closable_more a n t le h
  closable_item_more a n (hole k) le h = tt
  closable_item_more a n next_method le h = tt
  closable_item_more a n (call_effect g) le h = tt
  closable_item_more a n (execute_effect g) le h = tt
  closable_item_more a n _ le h = absurd h

-- a phrase whose items fit
mutual
  fitting_closable : (P : Program) (named : ℕ → Bool) (t : Phrase) → IsPhraseOf named t → each_item (item_fits P) t ≡ true → IsClosable (length P.arrays) t
  fitting_closable P named end h e = tt
  fitting_closable P named (then i p t) h e =
      let later = and_parts _ (each_item (item_fits P) t) e in
      (fitting_item P named i h.0 later.0, fitting_closable P named t h.1 later.1)

  fitting_item : (P : Program) (named : ℕ → Bool) (i : Item) → IsItemOf named i → (item_fits P i && each_inner (item_fits P) i) ≡ true → IsClosableItem (length P.arrays) i
  fitting_item P named (lit q) h e = tt
  fitting_item P named (lit_arr b) h e = ltb-true b (length P.arrays) (and_parts (nat_lt b (length P.arrays)) true e).0
  fitting_item P named (word w) h e = tt
  fitting_item P named (quot t) h e = fitting_closable P named t h (and_parts true (each_item (item_fits P) t) e).1
  fitting_item P named (bind x) h e = tt
  fitting_item P named (local x) h e = tt
  fitting_item P named (fry t n) h e = fitting_closable P named t h (and_parts true (each_item (item_fits P) t) e).1
  fitting_item P named (hole k) h e = tt
  fitting_item P named next_method h e = tt
  fitting_item P named (call_effect g) h e = tt
  fitting_item P named (execute_effect g) h e = tt
  fitting_item P named _ h e = absurd h

words_closable : (P : Program) (named : ℕ → Bool) (ds : List WordDef) → HaveBuiltPhrases named ds → list_all (each_item (item_fits P)) (word_phrases ds) ≡ true → AreClosable (length P.arrays) ds
words_closable P named [] h e = tt
words_closable P named (d ∷ ds) h e = let both = go d.sort h.0 e in (both.0, words_closable P named ds h.1 both.1) where
  go : (s : Sort) → HasBuiltPhrase named s → list_all (each_item (item_fits P)) (elim s [ body t ↦ t ∷ word_phrases ds | past t ↦ t ∷ word_phrases ds | method c g t ↦ t ∷ word_phrases ds | _ ↦ word_phrases ds ]) ≡ true → IsClosable (length P.arrays) (phrase_of s) × (list_all (each_item (item_fits P)) (word_phrases ds) ≡ true)
  go (body t) h e = let both = and_parts (each_item (item_fits P) t) _ e in (fitting_closable P named t h both.0, both.1)
  go (past t) h e = let both = and_parts (each_item (item_fits P) t) _ e in (fitting_closable P named t h both.0, both.1)
  go (method c g t) h e = let both = and_parts (each_item (item_fits P) t) _ e in (fitting_closable P named t h both.0, both.1)
  go _ h e = (tt, e)

-- the phrases of a built and whole program name only arrays that are there
pub program_closable : (P : Program) → IsSessionProgram P → IsWhole P → AreClosable (length P.arrays) P.words
program_closable P b w =
    words_closable P (may_name P) P.words (built_phrases P b) (and_parts _ _ (sym (list_all-append (each_item (item_fits P)) (word_phrases P.words) (joined (map quotations P.arrays))) ∙ w.items_fit)).0

-- a phrase whose arrays are all before this one, by the same cases as for `fitting_closable`; the tests have nothing else in common
mutual
  naming_closable : (named : ℕ → Bool) (a : ℕ) (t : Phrase) → IsPhraseOf named t → list_all (λ (b : ℕ). nat_lt b a) (arrays_named t) ≡ true → IsClosable a t
  naming_closable named a end h e = tt
  naming_closable named a (then i p t) h e =
      let both = and_parts _ _ (sym (list_all-append (λ (b : ℕ). nat_lt b a) (arrays_named_by i) (arrays_named t)) ∙ e) in
      (naming_item named a i h.0 both.0, naming_closable named a t h.1 both.1)

  naming_item : (named : ℕ → Bool) (a : ℕ) (i : Item) → IsItemOf named i → list_all (λ (b : ℕ). nat_lt b a) (arrays_named_by i) ≡ true → IsClosableItem a i
  naming_item named a (lit q) h e = tt
  naming_item named a (lit_arr b) h e = ltb-true b a (and_parts (nat_lt b a) true e).0
  naming_item named a (word w) h e = tt
  naming_item named a (quot t) h e = naming_closable named a t h e
  naming_item named a (bind x) h e = tt
  naming_item named a (local x) h e = tt
  naming_item named a (fry t n) h e = naming_closable named a t h e
  naming_item named a (hole k) h e = tt
  naming_item named a next_method h e = tt
  naming_item named a (call_effect g) h e = tt
  naming_item named a (execute_effect g) h e = tt
  naming_item named a _ h e = absurd h

elements_closable : (named : ℕ → Bool) (a : ℕ) (p : Place) (ls : List Lit) → AreElementsOf named ls → list_all (λ (b : ℕ). nat_lt b a) (arrays_in ls) ≡ true → IsClosable a (plain_phrase p ls)
elements_closable named a p [] h e = tt
elements_closable named a p (l_int z ∷ ls) h e = (tt, elements_closable named a p ls h.1 e)
elements_closable named a p (l_yes ∷ ls) h e = (tt, elements_closable named a p ls h.1 e)
elements_closable named a p (l_no ∷ ls) h e = (tt, elements_closable named a p ls h.1 e)
elements_closable named a p (l_str s ∷ ls) h e = (tt, elements_closable named a p ls h.1 e)
elements_closable named a p (l_arr b ∷ ls) h e = let both = and_parts (nat_lt b a) _ e in (ltb-true b a both.0, elements_closable named a p ls h.1 both.1)
elements_closable named a p (l_word w ∷ ls) h e = (tt, elements_closable named a p ls h.1 e)
elements_closable named a p (l_quot t ∷ ls) h e =
    let both = and_parts _ _ (sym (list_all-append (λ (b : ℕ). nat_lt b a) (arrays_named t) (arrays_in ls)) ∙ e) in
    (naming_closable named a t h.0 both.0, elements_closable named a p ls h.1 both.1)
elements_closable named a p (l_made k ∷ ls) h e = absurd h.0

arrays_closable : (named : ℕ → Bool) (k a j : ℕ) (p : Place) (lss : List (List Lit)) (ls : List Lit) → AreArraysOf named lss → each_numbered names_earlier k lss ≡ true → a ≡ k + j → slice_get lss j ≡ Some ls → IsClosable a (plain_phrase p ls)
arrays_closable named k a j p [] ls h e is at = absurd cc
arrays_closable named k a zero p (xs ∷ lss) ls h e is at =
    let same : xs ≡ ls = cc in
    let here : k ≡ a = omega (arith, is) in
    let both = and_parts (names_earlier k xs) _ e in
    subst (λ (ys : List Lit). IsClosable a (plain_phrase p ys)) same (subst (λ (n : ℕ). IsClosable n (plain_phrase p xs)) here (elements_closable named k p xs h.0 both.0))
arrays_closable named k a (suc j) p (xs ∷ lss) ls h e is at = arrays_closable named (suc k) a j p lss ls h.1 (and_parts (names_earlier k xs) _ e).1 (omega (arith, is)) at

-- the elements of a literal array name only earlier ones
pub array_closable : (P : Program) → IsSessionProgram P → IsWhole P → (a : ℕ) (p : Place) (ls : List Lit) → slice_get P.arrays a ≡ Some ls → IsClosable a (plain_phrase p ls)
array_closable P b w a p ls at = arrays_closable (may_name P) 0 a a p P.arrays ls b.arrays_from_source w.arrays_earlier (omega arith) at

-- the items of a literal array that stands in a method, or in none
pub elements_in : (a : ℕ) (m : Option ℕ) (p : Place) (ls : List Lit) → IsClosable a (plain_phrase p ls) → in_method m (plain_phrase p ls) ≡ elements_phrase m p ls
elements_in a m p [] h = refl
elements_in a m p (l_int z ∷ ls) h = ap (then (lit (int z)) p) (elements_in a m p ls h.1)
elements_in a m p (l_yes ∷ ls) h = ap (then (lit yes) p) (elements_in a m p ls h.1)
elements_in a m p (l_no ∷ ls) h = ap (then (lit no) p) (elements_in a m p ls h.1)
elements_in a m p (l_str s ∷ ls) h = ap (then (lit (str s)) p) (elements_in a m p ls h.1)
elements_in a m p (l_arr b ∷ ls) h = ap (then (lit_arr b) p) (elements_in a m p ls h.1)
elements_in a m p (l_word w ∷ ls) h = ap (then (lit (wrd w)) p) (elements_in a m p ls h.1)
elements_in a m p (l_quot t ∷ ls) h = both_items (quot (in_method m t)) (quot (of_method_if m t)) p (in_method m (plain_phrase p ls)) (elements_phrase m p ls) (ap quot (in_method_is a m t h.0)) (elements_in a m p ls h.1)
elements_in a m p (l_made k ∷ ls) h = absurd h.0

pub array_phrase_is : (P : Program) → IsSessionProgram P → IsWhole P → (a : ℕ) (p : Place) (ls : List Lit) → slice_get P.arrays a ≡ Some ls → array_phrase P a p ≡ in_method (array_method P (length P.arrays) a) (plain_phrase p ls)
array_phrase_is P b w a p ls at = ap (λ (o : Option (List Lit)). elements_phrase (array_method P (length P.arrays) a) p (array_or_none o)) at ∙ sym (elements_in a (array_method P (length P.arrays) a) p ls (array_closable P b w a p ls at))

-- Counts.

-- a count of arrays before another is enough for what names only those
mutual
  behind_same : (cs ds : List ℕ) (a : ℕ) → ((b : ℕ) → b < a → get_or cs b 0 ≡ get_or ds b 0) → (n : ℕ) (t : Phrase) → IsClosable a t → phrase_behind cs n t ≡ phrase_behind ds n t
  behind_same cs ds a e n end h = refl
  behind_same cs ds a e n (then i p t) h = ap (λ (m : ℕ). phrase_behind cs m t) (item_behind_same cs ds a e n i h.0) ∙ behind_same cs ds a e (item_behind ds n i) t h.1

  item_behind_same : (cs ds : List ℕ) (a : ℕ) → ((b : ℕ) → b < a → get_or cs b 0 ≡ get_or ds b 0) → (n : ℕ) (i : Item) → IsClosableItem a i → item_behind cs n i ≡ item_behind ds n i
  item_behind_same cs ds a e n (lit q) h = refl
  item_behind_same cs ds a e n (lit_arr b) h = ap (λ (m : ℕ). n + m) (e b h)
  item_behind_same cs ds a e n (word w) h = refl
  item_behind_same cs ds a e n (quot t) h = behind_same cs ds a e (suc n) t h
  item_behind_same cs ds a e n (bind x) h = refl
  item_behind_same cs ds a e n (local x) h = refl
  item_behind_same cs ds a e n (fry t k) h = behind_same cs ds a e (suc n) t h
  item_behind_same cs ds a e n (hole k) h = refl
  item_behind_same cs ds a e n next_method h = refl
  item_behind_same cs ds a e n (call_effect g) h = refl
  item_behind_same cs ds a e n (execute_effect g) h = refl
  item_behind_same cs ds a e n _ h = absurd h

one_longer : {A : Type 0} (xs : List A) (x : A) (n : ℕ) → length xs ≡ n → length (xs ++ x ∷ []) ≡ suc n
one_longer xs x n e = rw (length-append xs (x ∷ [])) (omega (arith, e))

counts_stay : (cs : List ℕ) (lss : List (List Lit)) (b : ℕ) → b < length cs → get_or (counts_from cs lss) b 0 ≡ get_or cs b 0
counts_stay cs [] b lt = refl
counts_stay cs (ls ∷ lss) b lt =
    let long = one_longer cs (elements_count cs ls) (length cs) refl in
    counts_stay (cs ++ elements_count cs ls ∷ []) lss b (omega (arith, lt, long)) ∙ get_or_append_left cs (elements_count cs ls ∷ []) 0 b lt

counts_at : (P : Program) (k a j : ℕ) (cs : List ℕ) (lss : List (List Lit)) (ls : List Lit) → length cs ≡ k → a ≡ k + j → slice_get lss j ≡ Some ls → IsClosable a (plain_phrase nowhere ls) → get_or (counts_from cs lss) a 0 ≡ elements_count (counts_from cs lss) ls
counts_at P k a j cs [] ls long is at h = absurd cc
counts_at P k a zero cs (xs ∷ lss) ls long is at h =
    let same : xs ≡ ls = cc in
    let here : a ≡ length cs = omega (arith, is, long) in
    let c = elements_count cs xs in
    let longer = one_longer cs c (length cs) refl in
    let all = counts_from (cs ++ c ∷ []) lss in
    counts_stay (cs ++ c ∷ []) lss a (omega (arith, here, longer))
    ∙ get_or_at cs c [] 0 a (sym here)
    ∙ ap (elements_count cs) same
    ∙ behind_same cs all a (λ (b : ℕ) (lt : b < a). sym (counts_stay (cs ++ c ∷ []) lss b (omega (arith, here, longer, lt)) ∙ get_or_append_left cs (c ∷ []) 0 b (omega (arith, here, lt)))) 0 (plain_phrase nowhere ls) h
counts_at P k a (suc j) cs (xs ∷ lss) ls long is at h = counts_at P (suc k) a j (cs ++ elements_count cs xs ∷ []) lss ls (one_longer cs (elements_count cs xs) k long) (omega (arith, is)) at h

-- so many quotations are counted in a literal array as its elements have
pub counted_elements : (P : Program) → IsSessionProgram P → IsWhole P → (a : ℕ) (ls : List Lit) → slice_get P.arrays a ≡ Some ls → get_or (counts_from [] P.arrays) a 0 ≡ elements_count (counts_from [] P.arrays) ls
counted_elements P b w a ls at = counts_at P 0 a a [] P.arrays ls refl (omega arith) at (array_closable P b w a nowhere ls at)
