-- The phrases of a whole program as they run: which items stand in those of its words and of its literals.
use Rattle.std.proofs.Common.{◌≡◌, ℕ, zero, suc, ◌+◌, List, [], ◌∷◌, ◌++◌, length, Bool, true, false, Option, Some, None, refl, ap, sym, subst, ◌∙◌, arith}
use Rattle.std.specs.Prelude.{slice_get}
use Rattle.fac_base.specs.declared.place.Place.{Place}
use Rattle.fac_lang.specs.declared.program.Program.{Program}
use Rattle.fac_lang.specs.declared.program.WordDef.{WordDef}
use Rattle.fac_lang.specs.declared.program.Lit.{Lit}
use Rattle.fac_lang.specs.declared.program.Lit.TheVariants.{Int as l_int, True as l_yes, False as l_no, Str as l_str, Arr as l_arr, Wref as l_word, Quot as l_quot, Made as l_made}
use Rattle.fac_lang.specs.declared.program.Sort.{Sort}
use Rattle.fac_lang.specs.declared.program.Sort.TheVariants.{Body as body, Past as past, Method as method}
use Rattle.fac_lang.specs.Phrases.{int, yes, no, str, wrd, Literal, Phrase, end, then, Item, lit, lit_arr, quot, word, bind, local, fry, hole, call_effect, execute_effect, next_method, next_after}
use Rattle.fac_lang.specs.Substitution.{of_method, of_method_item}
use Rattle.fac_lang.proofs.SourcePrograms.{IsSessionProgram, IsPhraseOf, IsItemOf, IsSortOf, AreWordsOf, AreElementsOf, AreArraysOf, may_name}
use Rattle.fac_lang.specs.Meaning.{sort_of, of_method_if, method_naming, array_naming, array_method, phrase_names, nowhere}
use Rattle.fac_lang.proofs.FormsLemmas.{sort_at}
use Rattle.fac_locals.specs.declared.cell.Cell.{Cell}
use Rattle.fac_locals.specs.Cells.{cells_behind, inner_cells}
use Rattle.fac_locals.specs.Literals.{Quoted, quoted_phrase, behind, first_of_word, first_of_literal, first_in_array, elements_phrase, array_or_none, array_phrase, literals_in, literals_at, array_literals, sort_literals, word_literals, literals, literal_or, literal_numbered}

-- a method's sort
abbrev pub IsMethod : Option Sort → Type 0
IsMethod (Some (method c g t)) = Unit {0}
IsMethod _ = ⊥

module _ (P : Program) where
  -- In the phrase of a method `call-next-method` is next after that method.
  abbrev mutual
    pub IsRun : Phrase → Type 0
    IsRun end = Unit {0}
    IsRun (then i p t) = IsRunItem i × IsRun t

    pub IsRunItem : Item → Type 0
    IsRunItem (lit (int z)) = Unit {0}
    IsRunItem (lit yes) = Unit {0}
    IsRunItem (lit no) = Unit {0}
    IsRunItem (lit (str cs)) = Unit {0}
    IsRunItem (lit (wrd w)) = may_name P w ≡ true
    IsRunItem (lit_arr a) = Unit {0}
    IsRunItem (quot t) = IsRun t
    IsRunItem (bind x) = Unit {0}
    IsRunItem (local x) = Unit {0}
    IsRunItem (fry t n) = IsRun t
    IsRunItem (hole k) = Unit {0}
    IsRunItem (word w) = may_name P w ≡ true
    IsRunItem next_method = Unit {0}
    IsRunItem (next_after m) = IsMethod (sort_of P m)
    IsRunItem (call_effect g) = Unit {0}
    IsRunItem (execute_effect g) = Unit {0}
    IsRunItem _ = ⊥

  -- a phrase with the items that a source can have
  mutual
    pub built_runs : (t : Phrase) → IsPhraseOf (may_name P) t → IsRun t
    built_runs end h = tt
    built_runs (then i p t) h = (built_item_runs i h.0, built_runs t h.1)

    built_item_runs : (i : Item) → IsItemOf (may_name P) i → IsRunItem i
    built_item_runs (lit (int z)) h = tt
    built_item_runs (lit yes) h = tt
    built_item_runs (lit no) h = tt
    built_item_runs (lit (str cs)) h = tt
    built_item_runs (lit (wrd w)) h = h
    built_item_runs (lit_arr a) h = tt
    built_item_runs (quot t) h = built_runs t h
    built_item_runs (bind x) h = tt
    built_item_runs (local x) h = tt
    built_item_runs (fry t n) h = built_runs t h
    built_item_runs (hole k) h = tt
    built_item_runs (word w) h = h
    built_item_runs next_method h = tt
    built_item_runs (call_effect g) h = tt
    built_item_runs (execute_effect g) h = tt
    built_item_runs _ h = absurd h

  -- in a method
  module _ (m : ℕ) (is : IsMethod (sort_of P m)) where
    mutual
      pub method_runs : (t : Phrase) → IsPhraseOf (may_name P) t → IsRun (of_method m t)
      method_runs end h = tt
      method_runs (then i p t) h = (method_item_runs i h.0, method_runs t h.1)

      method_item_runs : (i : Item) → IsItemOf (may_name P) i → IsRunItem (of_method_item m i)
      method_item_runs (lit (int z)) h = tt
      method_item_runs (lit yes) h = tt
      method_item_runs (lit no) h = tt
      method_item_runs (lit (str cs)) h = tt
      method_item_runs (lit (wrd w)) h = h
      method_item_runs (lit_arr a) h = tt
      method_item_runs (quot t) h = method_runs t h
      method_item_runs (bind x) h = tt
      method_item_runs (local x) h = tt
      method_item_runs (fry t n) h = method_runs t h
      method_item_runs (hole k) h = tt
      method_item_runs (word w) h = h
      method_item_runs next_method h = is
      method_item_runs (call_effect g) h = tt
      method_item_runs (execute_effect g) h = tt
      method_item_runs _ h = absurd h

  -- what word w runs, where it is of this sort
  abbrev pub RunsAs : ℕ → Sort → Type 0
  RunsAs w (body t) = IsRun t
  RunsAs w (past t) = IsRun t
  RunsAs w (method c g t) = IsRun (of_method w t)
  RunsAs w _ = Unit {0}

  -- a sort with such a phrase, where it has one
  abbrev HasBuilt : Sort → Type 0
  HasBuilt (body t) = IsPhraseOf (may_name P) t
  HasBuilt (past t) = IsPhraseOf (may_name P) t
  HasBuilt (method c g t) = IsPhraseOf (may_name P) t
  HasBuilt _ = Unit {0}

  sort_built : (d : WordDef) (s : Sort) → IsSortOf (may_name P) d s → HasBuilt s
  sort_built d (body t) h = h
  sort_built d (past t) h = h.1
  sort_built d (method c g t) h = h.1
  sort_built d _ h = tt

  among : (ds : List WordDef) (d : WordDef) (w : ℕ) (x : WordDef) → AreWordsOf (may_name P) ds → HasBuilt d.sort → slice_get (ds ++ d ∷ []) w ≡ Some x → HasBuilt x.sort
  among [] d zero x h f e = let same : d ≡ x = cc in subst (λ (y : WordDef). HasBuilt y.sort) same f
  among [] d (suc w) x h f e = absurd (cc)
  among (y ∷ ds) d zero x h f e = let same : y ≡ x = cc in subst (λ (z : WordDef). HasBuilt z.sort) same (sort_built y y.sort h.0)
  among (y ∷ ds) d (suc w) x h f e = among ds d w x h.1 f e

  runs_as : (w : ℕ) (s : Sort) → sort_of P w ≡ Some s → HasBuilt s → RunsAs w s
  runs_as w (body t) e h = built_runs t h
  runs_as w (past t) e h = built_runs t h
  runs_as w (method c g t) e h = method_runs w (rw e tt) t h
  runs_as w _ e h = tt

  module _ (b : IsSessionProgram P) where
    pub word_runs : (w : ℕ) (d : WordDef) → slice_get P.words w ≡ Some d → RunsAs w d.sort
    word_runs w d e =
        let last : HasBuilt b.last_word.sort = rw b.last_word_is.sort_is b.last_word_is.from_source in
        runs_as w d.sort (sort_at P w d e) (among b.words b.last_word w d b.words_from_source last (subst (λ (ds : List WordDef). slice_get ds w ≡ Some d) b.words_are e))

    -- Literal arrays. One may stand in a method.
    abbrev pub IsMethodIf : Option ℕ → Type 0
    IsMethodIf None = Unit {0}
    IsMethodIf (Some m) = IsMethod (sort_of P m)

    named_method : (b : Bool) (k : ℕ) (o : Option ℕ) → IsMethod (sort_of P k) → IsMethodIf o → IsMethodIf (elim b [ true ↦ Some k | false ↦ o ])
    named_method true k o h g = h
    named_method false k o h g = g

    sort_names : (a k : ℕ) (s : Sort) (o : Option ℕ) → sort_of P k ≡ Some s → IsMethodIf o → IsMethodIf (elim s [ method c g t ↦ elim (phrase_names a t) [ true ↦ Some k | false ↦ o ] | _ ↦ o ])
    sort_names a k (method c g t) o e h = named_method (phrase_names a t) k o (rw e tt) h
    sort_names a k _ o e h = h

    naming_is : (a k : ℕ) (ds : List WordDef) → ((j : ℕ) (d : WordDef) → slice_get ds j ≡ Some d → slice_get P.words (k + j) ≡ Some d) → IsMethodIf (method_naming P a k ds)
    naming_is a k [] h = tt
    naming_is a k (d ∷ ds) h =
        let here : k + 0 ≡ k = omega arith in
        let first = sort_at P k d (ap (slice_get P.words) (sym here) ∙ h 0 d refl) in
        sort_names a k d.sort (method_naming P a (suc k) ds) first (naming_is a (suc k) ds (λ j e at. let n : suc k + j ≡ k + suc j = omega arith in ap (slice_get P.words) n ∙ h (suc j) e at))

    around_is : (n : ℕ) (o r : Option ℕ) → IsMethodIf o → ((a : ℕ) → IsMethodIf (array_method P n a)) → IsMethodIf (elim o [ Some m ↦ Some m | None ↦ elim r [ None ↦ None | Some b ↦ array_method P n b ] ])
    around_is n (Some m) r h k = h
    around_is n None (Some b) h k = k b
    around_is n None None h k = tt

    pub array_method_is : (n a : ℕ) → IsMethodIf (array_method P n a)
    array_method_is zero a = naming_is a 0 P.words (λ j d e. let n : 0 + j ≡ j = omega arith in ap (slice_get P.words) n ∙ e)
    array_method_is (suc n) a = around_is n (method_naming P a 0 P.words) (array_naming P a 0 P.arrays) (naming_is a 0 P.words (λ j d e. let n : 0 + j ≡ j = omega arith in ap (slice_get P.words) n ∙ e)) (array_method_is n)

    pub quoted_runs : (m : Option ℕ) → IsMethodIf m → (t : Phrase) → IsPhraseOf (may_name P) t → IsRun (of_method_if m t)
    quoted_runs None is t h = built_runs t h
    quoted_runs (Some m) is t h = method_runs m is t h

    elements_run : (m : Option ℕ) → IsMethodIf m → (p : Place) (ls : List Lit) → AreElementsOf (may_name P) ls → IsRun (elements_phrase m p ls)
    elements_run m is p [] h = tt
    elements_run m is p (l_int z ∷ ls) h = (tt, elements_run m is p ls h.1)
    elements_run m is p (l_yes ∷ ls) h = (tt, elements_run m is p ls h.1)
    elements_run m is p (l_no ∷ ls) h = (tt, elements_run m is p ls h.1)
    elements_run m is p (l_str bs ∷ ls) h = (tt, elements_run m is p ls h.1)
    elements_run m is p (l_arr a ∷ ls) h = (tt, elements_run m is p ls h.1)
    elements_run m is p (l_word w ∷ ls) h = (h.0, elements_run m is p ls h.1)
    elements_run m is p (l_quot t ∷ ls) h = (quoted_runs m is t h.0, elements_run m is p ls h.1)
    elements_run m is p (l_made k ∷ ls) h = absurd h.0

    array_built : (a : ℕ) (lss : List (List Lit)) → AreArraysOf (may_name P) lss → AreElementsOf (may_name P) (array_or_none (slice_get lss a))
    array_built a [] h = tt
    array_built zero (ls ∷ lss) h = h.0
    array_built (suc a) (ls ∷ lss) h = array_built a lss h.1

    array_runs : (a : ℕ) (p : Place) → IsRun (array_phrase P a p)
    array_runs a p = elements_run (array_method P (length P.arrays) a) (array_method_is (length P.arrays) a) p (array_or_none (slice_get P.arrays a)) (array_built a P.arrays b.arrays_from_source)

  -- Literals, by the cases that NamedArrays of fac_emit has for another property of phrases.
  abbrev AllRun : List Quoted → Type 0
  AllRun [] = Unit {0}
  AllRun (l ∷ ls) = IsRun (quoted_phrase l) × AllRun ls

  both_run : (ls ms : List Quoted) → AllRun ls → AllRun ms → AllRun (ls ++ ms)
  both_run [] ms h k = k
  both_run (l ∷ ls) ms h k = (h.0, both_run ls ms h.1 k)

  module _ (arrays : ℕ → Literal → List Quoted) (arrays_run : (a : ℕ) (at : Literal) → AllRun (arrays a at)) where
    mutual
      phrase_literals : (cells : List Cell) (at : Literal) (t : Phrase) → IsRun t → AllRun (literals_in arrays cells at t)
      phrase_literals cells at end h = tt
      phrase_literals cells at (then i p t) h = both_run (literals_at arrays cells at i) (literals_in arrays (cells_behind cells i) (behind at i) t) (item_literals cells at i h.0) (phrase_literals (cells_behind cells i) (behind at i) t h.1)

      item_literals : (cells : List Cell) (at : Literal) (i : Item) → IsRunItem i → AllRun (literals_at arrays cells at i)
      item_literals cells at (quot t) h = (h, phrase_literals (inner_cells cells (quot t)) (first_of_literal at) t h)
      item_literals cells at (fry t n) h = (h, phrase_literals (inner_cells cells (fry t n)) (first_of_literal at) t h)
      item_literals cells at (lit_arr a) h = arrays_run a at
      item_literals cells at _ h = tt

  module _ (b : IsSessionProgram P) where
    array_literals_run : (n a : ℕ) (at : Literal) → AllRun (array_literals P n a at)
    array_literals_run zero a at = tt
    array_literals_run (suc n) a at = phrase_literals (array_literals P n) (array_literals_run n) [] (first_in_array at) (array_phrase P a nowhere) (array_runs b a nowhere)

    sort_literals_run : (w : ℕ) (s : Sort) → RunsAs w s → AllRun (sort_literals P w s)
    sort_literals_run w (body t) h = phrase_literals (array_literals P (length P.arrays)) (array_literals_run (length P.arrays)) [] (first_of_word w) t h
    sort_literals_run w (past t) h = phrase_literals (array_literals P (length P.arrays)) (array_literals_run (length P.arrays)) [] (first_of_word w) t h
    sort_literals_run w (method c g t) h = phrase_literals (array_literals P (length P.arrays)) (array_literals_run (length P.arrays)) [] (first_of_word w) (of_method w t) h
    sort_literals_run w _ h = tt

    word_literals_run : (w : ℕ) (ds : List WordDef) → ((k : ℕ) (d : WordDef) → slice_get ds k ≡ Some d → RunsAs (w + k) d.sort) → AllRun (word_literals P w ds)
    word_literals_run w [] h = tt
    word_literals_run w (d ∷ ds) h =
        let here : w + 0 ≡ w = omega arith in
        both_run (sort_literals P w d.sort) (word_literals P (suc w) ds) (sort_literals_run w d.sort (subst (λ (v : ℕ). RunsAs v d.sort) here (h 0 d refl)))
        (word_literals_run (suc w) ds (λ k e at. let n : w + suc k ≡ suc w + k = omega arith in subst (λ (v : ℕ). RunsAs v e.sort) n (h (suc k) e at)))

    literal_runs_of : (n k : ℕ) (ls : List Quoted) → AllRun ls → IsRun (quoted_phrase (literal_or P n (slice_get ls k)))
    literal_runs_of n k [] h = tt
    literal_runs_of n zero (l ∷ ls) h = h.0
    literal_runs_of n (suc k) (l ∷ ls) h = literal_runs_of n k ls h.1

    -- the phrase of each literal
    pub literal_runs : (k : ℕ) → IsRun (quoted_phrase (literal_numbered P k))
    literal_runs k =
        literal_runs_of k k (literals P) (word_literals_run 0 P.words (λ w d e. let n : w ≡ 0 + w = omega arith in subst (λ (v : ℕ). RunsAs v d.sort) n (word_runs b w d e)))
