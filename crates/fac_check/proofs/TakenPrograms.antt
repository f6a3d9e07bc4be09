-- The walk takes each closed program that stands for a whole one.
use Rattle.std.proofs.Common.{◌≡◌, ◌<◌, ◌≤◌, ℕ, zero, suc, List, [], ◌∷◌, ◌++◌, drop, length, Bool, true, false, Option, Some, None, refl, sym, ap, ◌∙◌, subst, arith}
use Rattle.std.specs.Prelude.{◌&&◌, nat_lt, nat_le, slice_get}
use Rattle.std.specs.List.{list_all}
use Rattle.std.proofs.lemmas.Bool.{leb-true, le-leb}
use Rattle.std.proofs.lemmas.List.Folds.{list_all-append}
use Rattle.fac_lang.specs.declared.phrase.Item.{Item as PlacedItem}
use Rattle.fac_lang.specs.declared.phrase.Template.{Template}
use Rattle.fac_lang.specs.declared.program.Program.{Program}
use Rattle.fac_lang.specs.declared.program.WordDef.{WordDef}
use Rattle.fac_lang.specs.declared.program.Sort.{Sort}
use Rattle.fac_lang.specs.declared.program.Sort.TheVariants.{Prim as prim, Body as body, Past as past, Method as method}
use Rattle.fac_lang.specs.Phrases.{int, yes, no, str, iota, wrd, arr, tup, Literal, Phrase, end, then, Item, lit, lit_arr, quot, word, bind, local, fry, hole, call_effect, execute_effect, next_method, made, next_after, held, known}
use Rattle.fac_lang.specs.PhraseView.{what_item, items_phrase}
use Rattle.fac_base.specs.Signatures.{Signature, signature, Inputs, no_inputs, value, quoted}
use Rattle.fac_base.specs.Effects.{effect_height, inputs_count}
use Rattle.fac_lang.specs.Primitives.{built_count}
use Rattle.fac_lang.specs.Substitution.{of_method}
use Rattle.fac_lang.proofs.SourcePrograms.{IsSessionProgram, session_of_whole}
use Rattle.fac_lang.proofs.SessionWords.{may_name_below}
use Rattle.fac_lang.specs.Whole.{IsWhole, name_count, inputs_name_count}
use Rattle.fac_locals.specs.declared.cell.Cell.{Cell}
use Rattle.fac_locals.specs.Cells.{cells_behind, inner_cells}
use Rattle.fac_locals.specs.Closed.{Closes, ClosesPhrase, ClosesItem, ClosesSort, IsMadeBy}
use Rattle.fac_locals.proofs.Lookups.{word_open, words_closed_count, template_closed}
use Rattle.fac_locals.proofs.RunningPhrases.{IsRun, IsRunItem, RunsAs, word_runs, literal_runs}
use Rattle.fac_locals.specs.Literals.{Quoted, quoted_phrase, literal_numbered, first_of_literal, first_of_word, behind}
use Rattle.fac_abs.proofs.EqualMarks.{and_first, and_second}
use Rattle.fac_abs.proofs.SeenLemmas.{both, is_below, below_is}
use Rattle.fac_check.specs.inner.UndeclaredRecursion.{named_word, made_template, one_if, number_from, are_below, are_from, item_makes, phrase_makes, template_makes, level_makes}
use Rattle.fac_check.specs.inner.Walkable.{takes_item, takes_phrase, takes_template, takes_sort, takes_word, takes_all}
use Rattle.fac_check.proofs.BuiltWords.{HasBuiltNumber, built_number}
use Rattle.fac_check.proofs.LiteralNumbers.{template_of_words, made_there}
use Rattle.fac_check.proofs.NamedWords.{number_below}

module _ {A : Type 0} (test : A → Bool) where
  -- a test of all of a list, by its numbers
  pub all_there : (xs : List A) → ((k : ℕ) (x : A) → slice_get xs k ≡ Some x → test x ≡ true) → list_all test xs ≡ true
  all_there [] h = refl
  all_there (x ∷ xs) h = both (test x) (list_all test xs) (h 0 x refl) (all_there xs (λ k y e. h (suc k) y e))

  pub one_there : (xs : List A) (k : ℕ) (x : A) → list_all test xs ≡ true → slice_get xs k ≡ Some x → test x ≡ true
  one_there [] k x h e = absurd cc
  one_there (y ∷ ys) zero x h e = (let same : y ≡ x = cc in subst (λ z. test z ≡ true) same (and_first _ _ h))
  one_there (y ∷ ys) (suc k) x h e = one_there ys k x (and_second _ _ h) e

-- the first of those that are left
pub first_dropped : {A : Type 0} (xs : List A) (k : ℕ) (x : A) (rest : List A) → drop k xs ≡ x ∷ rest → slice_get xs k ≡ Some x
first_dropped [] zero x rest e = absurd cc
first_dropped [] (suc k) x rest e = absurd cc
first_dropped (y ∷ ys) zero x rest e = let same : y ≡ x = cc in ap Some same
first_dropped (y ∷ ys) (suc k) x rest e = first_dropped ys k x rest e

module _ (P : Program) (count : ℕ) (numbered : (cells : List Cell) (at : Literal) (i : Item) (k : ℕ) → at.word < length P.words → IsMadeBy P cells at i k → nat_lt k count ≡ true) where
  taken_item : (cells : List Cell) (at : Literal) (i j : Item) → at.word < length P.words → ClosesItem P cells at i j → IsRunItem P i → takes_item P.top count j ≡ true
  taken_item cells at (lit (int z)) j l c h = rw c refl
  taken_item cells at (lit yes) j l c h = rw c refl
  taken_item cells at (lit no) j l c h = rw c refl
  taken_item cells at (lit (str cs)) j l c h = rw c refl
  taken_item cells at (lit (wrd w)) j l c h = rw c (may_name_below P w h)
  taken_item cells at (quot t) j l c h = rw c.1 (numbered cells at (quot t) c.0 l c.2)
  taken_item cells at (fry t n) j l c h = rw c.1 (numbered cells at (fry t n) c.0 l c.2)
  taken_item cells at (bind x) j l c h = rw c refl
  taken_item cells at (local x) j l c h = rw c.1 refl
  taken_item cells at (hole k) j l c h = rw c.1 refl
  taken_item cells at (word w) j l c h = rw c (may_name_below P w h)
  taken_item cells at (lit_arr a) j l c h = rw c refl
  taken_item cells at (call_effect f) j l c h = rw c refl
  taken_item cells at (execute_effect f) j l c h = rw c refl
  taken_item cells at next_method j l c h = rw c refl
  taken_item cells at (next_after m) j l c h = rw c refl
  taken_item cells at _ j l c h = absurd h

  -- a closed phrase of one that runs
  pub taken_phrase : (cells : List Cell) (at : Literal) (t c : Phrase) → at.word < length P.words → ClosesPhrase P cells at t c → IsRun P t → takes_phrase P.top count c ≡ true
  taken_phrase cells at end c l e h = rw e refl
  taken_phrase cells at (then i p t) c l e h = rw e.2 (both (takes_item P.top count e.0) (takes_phrase P.top count e.1) (taken_item cells at i e.0 l e.3 h.0) (taken_phrase (cells_behind cells i) (behind at i) t e.1 l e.4 h.1))

  taken_sort : (w : ℕ) (s o : Sort) → w < length P.words → ClosesSort P w s o → RunsAs P w s → HasBuiltNumber s → takes_sort P.top count o ≡ true
  taken_sort w (prim k) o l c h b = rw c b
  taken_sort w (body t) o l c h b = rw c.1 (taken_phrase [] (first_of_word w) t c.0 l c.2 h)
  taken_sort w (method k g t) o l c h b = rw c.1 (taken_phrase [] (first_of_word w) (of_method w t) c.0 l c.2 h)
  taken_sort w (past t) o l c h b = rw c.1 (taken_phrase [] (first_of_word w) t c.0 l c.2 h)
  taken_sort w _ o l c h b = rw c refl

-- no more inputs than names
inputs_named : (is : Inputs) → inputs_count is ≤ inputs_name_count is
inputs_named no_inputs = omega arith
inputs_named (value x is) = (let l = inputs_named is in omega (arith, l))
inputs_named (quoted x e is) = (let l = inputs_named is in omega (arith, l))

few_inputs : (e : Signature) → nat_le (name_count e) 65 ≡ true → nat_le (effect_height e).ins 65 ≡ true
few_inputs (signature r is l) h = (let most = leb-true _ _ h in let least = inputs_named is in le-leb _ _ (omega (arith, most, least)))

one_longer : (ws : List WordDef) (d : WordDef) → length (ws ++ d ∷ []) ≡ suc (length ws)
one_longer [] d = refl
one_longer (w ∷ ws) d = ap suc (one_longer ws d)

longer : (ws : List WordDef) (d : WordDef) → nat_lt (length ws) (length (ws ++ d ∷ [])) ≡ true
longer ws d = (let e = one_longer ws d in below_is (length ws) (length (ws ++ d ∷ [])) (omega (arith, e)))

module _ (P C : Program) (templates : List Template) (closes : Closes P C templates) (built : IsSessionProgram P) (whole : IsWhole P) where
  numbered : (cells : List Cell) (at : Literal) (i : Item) (k : ℕ) → at.word < length P.words → IsMadeBy P cells at i k → nat_lt k (length templates) ≡ true
  numbered = made_there P C templates closes

  taken_word : (w : ℕ) (c : WordDef) → slice_get C.words w ≡ Some c → takes_word P.top (length templates) c ≡ true
  taken_word w c e =
      let there = word_open P C templates closes w c e in
      let d = there.def in
      both (takes_sort P.top (length templates) c.sort) (nat_le (effect_height c.effect).ins 65) (taken_sort P (length templates) numbered w d.sort c.sort (number_below P.words w d there.at) there.closes.sort (word_runs P built w d there.at) (built_number P whole w d there.at)) (subst (λ x. nat_le (effect_height x).ins 65 ≡ true) (sym there.closes.effect) (few_inputs d.effect (one_there (λ x. nat_le (name_count x.effect) 65) P.words w d whole.few_names there.at)))

  taken_template : (k : ℕ) (t : Template) → slice_get templates k ≡ Some t → takes_template P.top (length templates) t ≡ true
  taken_template k t e = let l : Quoted = literal_numbered P k in taken_phrase P (length templates) numbered (inner_cells l.cells l.item) (first_of_literal l.at) (quoted_phrase l) t.body (template_of_words P C templates closes k t e) (template_closed P C templates closes k t e).body (literal_runs P built k)

  top_there : nat_lt C.top (length C.words) ≡ true
  top_there = rw (closes.top, built.top_is, words_closed_count P C templates closes, built.words_are) (longer built.words built.last_word)

  all_taken : takes_all C templates ≡ true
  all_taken =
      both _ _ top_there
      (subst (λ top. (list_all (takes_word top (length templates)) C.words && list_all (takes_template top (length templates)) templates) ≡ true) (sym closes.top)
      (both _ _ (all_there (takes_word P.top (length templates)) C.words taken_word) (all_there (takes_template P.top (length templates)) templates taken_template)))

pub taken_program : (P C : Program) (templates : List Template) → Closes P C templates → IsWhole P → takes_all C templates ≡ true
taken_program P C templates closes whole = all_taken P C templates closes (session_of_whole P whole) whole

-- what the test of a whole program says of its parts
module _ (C : Program) (templates : List Template) (taken : takes_all C templates ≡ true) where
  pub word_taken : (w : ℕ) (c : WordDef) → slice_get C.words w ≡ Some c → takes_word C.top (length templates) c ≡ true
  word_taken w c e = one_there (takes_word C.top (length templates)) C.words w c (and_first _ _ (and_second (nat_lt C.top (length C.words)) _ taken)) e

  pub template_taken : (k : ℕ) (t : Template) → slice_get templates k ≡ Some t → takes_phrase C.top (length templates) t.body ≡ true
  template_taken k t e = one_there (takes_template C.top (length templates)) templates k t (and_second (list_all (takes_word C.top (length templates)) C.words) _ (and_second (nat_lt C.top (length C.words)) _ taken)) e

  pub method_taken : (w : ℕ) (c : WordDef) (k g : ℕ) (t : Phrase) → slice_get C.words w ≡ Some c → c.sort ≡ method k g t → takes_phrase C.top (length templates) t ≡ true
  method_taken w c k g t e s = subst (λ x. takes_sort C.top (length templates) x ≡ true) s (and_first _ _ (word_taken w c e))

  pub phrase_taken : (w : ℕ) (c : WordDef) (t : Phrase) → slice_get C.words w ≡ Some c → c.sort ≡ body t → takes_phrase C.top (length templates) t ≡ true
  phrase_taken w c t e s = subst (λ x. takes_sort C.top (length templates) x ≡ true) s (and_first _ _ (word_taken w c e))

  -- no word or template below the ends is missing
  pub word_there : (w : ℕ) → nat_lt w C.top ≡ true → slice_get C.words w ≡ None → ⊥
  word_there w l e =
      let low = is_below w C.top l in
      let high = is_below C.top (length C.words) (and_first _ _ taken) in
      some_there C.words w (omega (arith, low, high)) e
    where
      some_there : (xs : List WordDef) (k : ℕ) → k < length xs → slice_get xs k ≡ None → ⊥
      some_there [] k l e = omega (arith, l)
      some_there (x ∷ xs) zero l e = cc
      some_there (x ∷ xs) (suc k) l e = some_there xs k (omega (arith, l)) e

  pub top_below : C.top < length C.words
  top_below = is_below C.top (length C.words) (and_first _ _ taken)

  -- a word or a template that an item names is there
  pub named_below : (i : Item) (w : ℕ) → takes_item C.top (length templates) i ≡ true → named_word i ≡ Some w → w < length C.words
  named_below (word v) w h e =
      let same : v ≡ w = cc in
      let low = is_below v C.top h in
      omega (arith, same, low, top_below)
  named_below (lit (wrd v)) w h e =
      let same : v ≡ w = cc in
      let low = is_below v C.top h in
      omega (arith, same, low, top_below)
  named_below (lit (int z)) w h e = absurd cc
  named_below (lit yes) w h e = absurd cc
  named_below (lit no) w h e = absurd cc
  named_below (lit (str bs)) w h e = absurd cc
  named_below (lit (iota n)) w h e = absurd cc
  named_below (lit (arr a)) w h e = absurd cc
  named_below (lit (tup a)) w h e = absurd cc
  named_below (quot t) w h e = absurd cc
  named_below (lit_arr a) w h e = absurd cc
  named_below (bind x) w h e = absurd cc
  named_below (local x) w h e = absurd cc
  named_below (fry t n) w h e = absurd cc
  named_below (hole k) w h e = absurd cc
  named_below (call_effect g) w h e = absurd cc
  named_below (execute_effect g) w h e = absurd cc
  named_below next_method w h e = absurd cc
  named_below (made k) w h e = absurd cc
  named_below (next_after m) w h e = absurd cc
  named_below (held v) w h e = absurd cc
  named_below (known m) w h e = absurd cc

  pub made_below : (i : Item) (k : ℕ) → takes_item C.top (length templates) i ≡ true → made_template i ≡ Some k → k < length templates
  made_below (made j) k h e =
      let same : j ≡ k = cc in
      let low = is_below j (length templates) h in
      omega (arith, same, low)
  made_below (word v) k h e = absurd cc
  made_below (lit p) k h e = absurd cc
  made_below (quot t) k h e = absurd cc
  made_below (lit_arr a) k h e = absurd cc
  made_below (bind x) k h e = absurd cc
  made_below (local x) k h e = absurd cc
  made_below (fry t n) k h e = absurd cc
  made_below (hole n) k h e = absurd cc
  made_below (call_effect g) k h e = absurd cc
  made_below (execute_effect g) k h e = absurd cc
  made_below next_method k h e = absurd cc
  made_below (next_after m) k h e = absurd cc
  made_below (held v) k h e = absurd cc
  made_below (known m) k h e = absurd cc

pub primitive_below : (top count k : ℕ) (d : WordDef) → takes_word top count d ≡ true → d.sort ≡ prim k → k < built_count
primitive_below top count k d h e = is_below k built_count (subst (λ x. takes_sort top count x ≡ true) e (and_first _ _ h))

pub inputs_below : (top count : ℕ) (d : WordDef) → takes_word top count d ≡ true → (effect_height d.effect).ins ≤ 65
inputs_below top count d h = leb-true _ _ (and_second (takes_sort top count d.sort) _ h)

pub first_taken : (top count : ℕ) (i : PlacedItem) (is : List PlacedItem) → takes_phrase top count (items_phrase (i ∷ is)) ≡ true → takes_item top count (what_item i.what) ≡ true
first_taken top count i is h = and_first _ _ h

pub others_taken : (top count : ℕ) (i : PlacedItem) (is : List PlacedItem) → takes_phrase top count (items_phrase (i ∷ is)) ≡ true → takes_phrase top count (items_phrase is) ≡ true
others_taken top count i is h = and_second (takes_item top count (what_item i.what)) _ h

-- the templates that a phrase makes have numbers in the range
makes_below : (top count from : ℕ) (t : Phrase) → takes_phrase top count t ≡ true → are_below count (phrase_makes from t) ≡ true
makes_below top count from end h = refl
makes_below top count from (then i p t) h =
    list_all-append (λ k. nat_lt k count) (item_makes from i) (phrase_makes from t) ∙ both _ _ (item_below i (and_first _ _ h)) (makes_below top count from t (and_second (takes_item top count i) _ h))
  where
    one_below : (b : Bool) (k : ℕ) → nat_lt k count ≡ true → are_below count (one_if b k) ≡ true
    one_below true k l = both _ _ l refl
    one_below false k l = refl

    item_below : (i : Item) → takes_item top count i ≡ true → are_below count (item_makes from i) ≡ true
    item_below (made k) l = one_below (nat_le from k) k l
    item_below (word w) l = refl
    item_below (lit p) l = refl
    item_below (quot t) l = refl
    item_below (lit_arr a) l = refl
    item_below (bind x) l = refl
    item_below (local x) l = refl
    item_below (fry t n) l = refl
    item_below (hole n) l = refl
    item_below (call_effect g) l = refl
    item_below (execute_effect g) l = refl
    item_below next_method l = refl
    item_below (next_after m) l = refl
    item_below (held v) l = refl
    item_below (known m) l = refl

pub phrase_makes_below : (top count : ℕ) (phrase : Phrase) (deeper : List ℕ) → takes_phrase top count phrase ≡ true → deeper ≡ phrase_makes 0 phrase → are_below count deeper ≡ true
phrase_makes_below top count phrase deeper h is = rw is (makes_below top count 0 phrase h)

pub level_makes_below : (C : Program) (templates : List Template) → takes_all C templates ≡ true → (from : ℕ) (level deeper : List ℕ) → deeper ≡ level_makes from templates level → are_below (length templates) deeper ≡ true
level_makes_below C templates taken from level deeper is = rw is (below level)
  where
    of_template : (k : ℕ) (o : Option Template) → slice_get templates k ≡ o → are_below (length templates) (template_makes from o) ≡ true
    of_template k None e = refl
    of_template k (Some t) e = makes_below C.top (length templates) from t.body (template_taken C templates taken k t e)

    below : (ks : List ℕ) → are_below (length templates) (level_makes from templates ks) ≡ true
    below [] = refl
    below (k ∷ ks) = list_all-append (λ j. nat_lt j (length templates)) (template_makes from (slice_get templates k)) (level_makes from templates ks) ∙ both _ _ (of_template k (slice_get templates k) refl) (below ks)

-- and none that was left out
pub level_makes_from : (templates : List Template) (from : ℕ) (level deeper : List ℕ) → deeper ≡ level_makes from templates level → are_from from deeper ≡ true
level_makes_from templates from level deeper is = rw is (of_level level)
  where
    one_from : (b : Bool) (k : ℕ) → nat_le from k ≡ b → are_from from (one_if b k) ≡ true
    one_from true k l = both _ _ l refl
    one_from false k l = refl

    of_number : (o : Option ℕ) → are_from from (number_from from o) ≡ true
    of_number None = refl
    of_number (Some k) = one_from (nat_le from k) k refl

    of_phrase : (t : Phrase) → are_from from (phrase_makes from t) ≡ true
    of_phrase end = refl
    of_phrase (then i p t) = list_all-append (λ j. nat_le from j) (item_makes from i) (phrase_makes from t) ∙ both _ _ (of_number (made_template i)) (of_phrase t)

    of_template : (o : Option Template) → are_from from (template_makes from o) ≡ true
    of_template None = refl
    of_template (Some t) = of_phrase t.body

    of_level : (ks : List ℕ) → are_from from (level_makes from templates ks) ≡ true
    of_level [] = refl
    of_level (k ∷ ks) = list_all-append (λ j. nat_le from j) (template_makes from (slice_get templates k)) (level_makes from templates ks) ∙ both _ _ (of_template (slice_get templates k)) (of_level ks)

-- a level has fewer templates around it than there are
pub level_within : (count depth : ℕ) (level : List ℕ) → 0 < length level → are_below count level ≡ true → are_from depth level ≡ true → depth < count
level_within count depth [] l below least = absurd (omega (arith, l))
level_within count depth (k ∷ ks) l below least =
    let low = leb-true depth k (and_first _ _ least) in
    let high = is_below k count (and_first _ _ below) in
    omega (arith, low, high)

pub all_from : (ks : List ℕ) → are_from 0 ks ≡ true
all_from [] = refl
all_from (k ∷ ks) = both _ _ (le-leb 0 k (omega arith)) (all_from ks)

pub first_below : (count k : ℕ) (ks : List ℕ) → are_below count (k ∷ ks) ≡ true → k < count
first_below count k ks h = is_below k count (and_first _ _ h)

pub others_below : (count k : ℕ) (ks : List ℕ) → are_below count (k ∷ ks) ≡ true → are_below count ks ≡ true
others_below count k ks h = and_second (nat_lt k count) _ h
