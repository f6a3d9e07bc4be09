-- Phrases that stand for each other go on doing so where items that stand for each other are put in both.
use Rattle.std.proofs.Common.{◌≡◌, ℕ, zero, suc, List, [], ◌∷◌, Bool, true, false, refl, sym}
use Rattle.std.specs.Prelude.{slice_get, nat_eq}
use Rattle.fac_lang.specs.Phrases.{Phrase, end, then, Item, lit, lit_arr, quot, word, bind, local, fry, hole, call_effect, execute_effect, next_method, made, next_after, held, known, Value, fun, Callable, of_phrase, cur, both, Mark, any, lit_mark, cur_mark, com_mark, wrd_mark, par_mark}
use Rattle.fac_lang.specs.Substitution.{binds_local, put_local, put_local_item, put_holes, put_holes_item, item_or_hole}
use Rattle.fac_check.specs.CallableEffects.{forgotten, forgotten_item}
use Rattle.fac_check.proofs.ValuesOfMarks.{Stands, StandsPhrase, StandsItem, Unmeant}
use Rattle.fac_abs.specs.Marks.{is_callable}
use Rattle.fac_abs.proofs.EqualMarks.{never_true}

-- what stands for a mark of callables alone is a callable
pub callable_is : (inputs : ℕ → Callable → Type 0) (q : Mark) (v : Value) → Stands inputs q v → is_callable q ≡ true → (c : Callable) × (v ≡ fun c)
callable_is inputs any v h e = absurd (never_true e)
callable_is inputs (lit_mark p t) v h e = (of_phrase h.0, h.1)
callable_is inputs (cur_mark m c) v h e = (cur h.0 h.1, h.2)
callable_is inputs (com_mark c d) v h e = (both h.0 h.1, h.2)
callable_is inputs (wrd_mark w) v h e = absurd (never_true e)
callable_is inputs (par_mark k) v h e = (h.0, h.1)

-- an item that no running phrase has
unmeant_binds : (x : ℕ) (j : Item) → Unmeant j → false ≡ binds_local x j
unmeant_binds x (made k) h = refl
unmeant_binds x (known m) h = refl
unmeant_binds x (lit p) h = absurd h
unmeant_binds x (lit_arr a) h = absurd h
unmeant_binds x (quot t) h = absurd h
unmeant_binds x (word w) h = absurd h
unmeant_binds x (bind y) h = absurd h
unmeant_binds x (local y) h = absurd h
unmeant_binds x (fry t n) h = absurd h
unmeant_binds x (hole k) h = absurd h
unmeant_binds x (call_effect e) h = absurd h
unmeant_binds x (execute_effect e) h = absurd h
unmeant_binds x next_method h = absurd h
unmeant_binds x (next_after m) h = absurd h
unmeant_binds x (held v) h = absurd h

unmeant_put : (x : ℕ) (i j : Item) → Unmeant j → Unmeant (put_local_item x i j)
unmeant_put x i (made k) h = tt
unmeant_put x i (known m) h = tt
unmeant_put x i (lit p) h = absurd h
unmeant_put x i (lit_arr a) h = absurd h
unmeant_put x i (quot t) h = absurd h
unmeant_put x i (word w) h = absurd h
unmeant_put x i (bind y) h = absurd h
unmeant_put x i (local y) h = absurd h
unmeant_put x i (fry t n) h = absurd h
unmeant_put x i (hole k) h = absurd h
unmeant_put x i (call_effect e) h = absurd h
unmeant_put x i (execute_effect e) h = absurd h
unmeant_put x i next_method h = absurd h
unmeant_put x i (next_after m) h = absurd h
unmeant_put x i (held v) h = absurd h

unmeant_holes : (is : List Item) (j : Item) → Unmeant j → Unmeant (put_holes_item is j)
unmeant_holes is (made k) h = tt
unmeant_holes is (known m) h = tt
unmeant_holes is (lit p) h = absurd h
unmeant_holes is (lit_arr a) h = absurd h
unmeant_holes is (quot t) h = absurd h
unmeant_holes is (word w) h = absurd h
unmeant_holes is (bind y) h = absurd h
unmeant_holes is (local y) h = absurd h
unmeant_holes is (fry t n) h = absurd h
unmeant_holes is (hole k) h = absurd h
unmeant_holes is (call_effect e) h = absurd h
unmeant_holes is (execute_effect e) h = absurd h
unmeant_holes is next_method h = absurd h
unmeant_holes is (next_after m) h = absurd h
unmeant_holes is (held v) h = absurd h

-- a phrase in which no mark stands
abbrev mutual
  pub Unmarked : Phrase → Type 0
  Unmarked end = Unit {0}
  Unmarked (then i p t) = UnmarkedItem i × Unmarked t

  pub UnmarkedItem : Item → Type 0
  UnmarkedItem (quot t) = Unmarked t
  UnmarkedItem (fry t n) = Unmarked t
  UnmarkedItem (known m) = ⊥
  UnmarkedItem _ = Unit {0}

module _ (inputs : ℕ → Callable → Type 0) where
  abbrev pub StandsFor : Item → Item → Type 0
  StandsFor = StandsItem inputs

  abbrev pub T : Phrase → Phrase → Type 0
  T = StandsPhrase inputs

  -- items that stand for each other bind the same local
  binds_same : (x : ℕ) (i j : Item) → StandsFor i j → binds_local x i ≡ binds_local x j
  binds_same x (lit p) j e = rw e refl
  binds_same x (lit_arr a) j e = rw e refl
  binds_same x (quot t) j e = rw e.1 refl
  binds_same x (word w) j e = rw e refl
  binds_same x (bind y) j e = rw e refl
  binds_same x (local y) j e = rw e refl
  binds_same x (fry t n) j e = rw e.1 refl
  binds_same x (hole k) j e = rw e refl
  binds_same x (call_effect h) j e = rw e refl
  binds_same x (execute_effect h) j e = rw e refl
  binds_same x next_method j e = rw e refl
  binds_same x (made k) j e = unmeant_binds x j e
  binds_same x (next_after m) j e = rw e refl
  binds_same x (held v) j e = rw e refl
  binds_same x (known m) j e = rw e.1 refl

  put_rest : (b c : Bool) → b ≡ c → (t u t' u' : Phrase) → T t u → T t' u' → T (elim b [ true ↦ t | false ↦ t' ]) (elim c [ true ↦ u | false ↦ u' ])
  put_rest true c e t u t' u' h k = rw (sym e) h
  put_rest false c e t u t' u' h k = rw (sym e) k

  put_one : (b : Bool) (i j : Item) (y : ℕ) → StandsFor i j → StandsFor (elim b [ true ↦ i | false ↦ local y ]) (elim b [ true ↦ j | false ↦ local y ])
  put_one true i j y h = h
  put_one false i j y h = refl

  mutual
    pub put_phrase : (x : ℕ) (i j : Item) → StandsFor i j → (t u : Phrase) → T t u → T (put_local x i t) (put_local x j u)
    put_phrase x i j h end u e = rw e refl
    put_phrase x i j h (then k p t) u s =
        rw s.3 (put_local_item x j s.0, s.1, elim (binds_local x s.0) [ true ↦ s.2 | false ↦ put_local x j s.2 ], refl, put_item x i j h k s.0 s.4, put_rest (binds_local x k) (binds_local x s.0) (binds_same x k s.0 s.4) t s.2 (put_local x i t) (put_local x j s.2) s.5 (put_phrase x i j h t s.2 s.5))

    pub put_item : (x : ℕ) (i j : Item) → StandsFor i j → (k l : Item) → StandsFor k l → StandsFor (put_local_item x i k) (put_local_item x j l)
    put_item x i j h (lit p) l e = rw e refl
    put_item x i j h (lit_arr a) l e = rw e refl
    put_item x i j h (quot t) l e = rw e.1 (put_local x j e.0, refl, put_phrase x i j h t e.0 e.2)
    put_item x i j h (word w) l e = rw e refl
    put_item x i j h (bind y) l e = rw e refl
    put_item x i j h (local y) l e = rw e (put_one (nat_eq x y) i j y h)
    put_item x i j h (fry t n) l e = rw e.1 (put_local x j e.0, refl, put_phrase x i j h t e.0 e.2)
    put_item x i j h (hole k) l e = rw e refl
    put_item x i j h (call_effect k) l e = rw e refl
    put_item x i j h (execute_effect k) l e = rw e refl
    put_item x i j h next_method l e = rw e refl
    put_item x i j h (made k) l e = unmeant_put x j l e
    put_item x i j h (next_after m) l e = rw e refl
    put_item x i j h (held v) l e = rw e refl
    put_item x i j h (known m) l e = rw e.1 (e.0, refl, e.2)

  -- items of two lists stand for each other
  abbrev pub Each : List Item → List Item → Type 0
  Each [] js = js ≡ []
  Each (i ∷ is) js = (j : Item) × (ks : List Item) × (js ≡ j ∷ ks) × StandsFor i j × Each is ks

  hole_filled : (is js : List Item) → Each is js → (k o : ℕ) → StandsFor (item_or_hole k (slice_get is o)) (item_or_hole k (slice_get js o))
  hole_filled [] js e k o = rw e refl
  hole_filled (i ∷ is) js e k zero = rw e.2 e.3
  hole_filled (i ∷ is) js e k (suc o) = rw e.2 (hole_filled is e.1 e.4 k o)

  mutual
    pub holes_phrase : (is js : List Item) → Each is js → (t u : Phrase) → T t u → T (put_holes is t) (put_holes js u)
    holes_phrase is js h end u e = rw e refl
    holes_phrase is js h (then k p t) u s = rw s.3 (put_holes_item js s.0, s.1, put_holes js s.2, refl, holes_item is js h k s.0 s.4, holes_phrase is js h t s.2 s.5)

    holes_item : (is js : List Item) → Each is js → (k l : Item) → StandsFor k l → StandsFor (put_holes_item is k) (put_holes_item js l)
    holes_item is js h (lit p) l e = rw e refl
    holes_item is js h (lit_arr a) l e = rw e refl
    holes_item is js h (quot t) l e = rw e.1 (put_holes js e.0, refl, holes_phrase is js h t e.0 e.2)
    holes_item is js h (word w) l e = rw e refl
    holes_item is js h (bind y) l e = rw e refl
    holes_item is js h (local y) l e = rw e refl
    holes_item is js h (fry t n) l e = rw e.1 (e.0, refl, e.2)
    holes_item is js h (hole k) l e = rw e (hole_filled is js h k k)
    holes_item is js h (call_effect k) l e = rw e refl
    holes_item is js h (execute_effect k) l e = rw e refl
    holes_item is js h next_method l e = rw e refl
    holes_item is js h (made k) l e = unmeant_holes js l e
    holes_item is js h (next_after m) l e = rw e refl
    holes_item is js h (held v) l e = rw e refl
    holes_item is js h (known m) l e = rw e.1 (e.0, refl, e.2)

  -- a phrase without marks stands for itself
  mutual
    pub self_phrase : (t : Phrase) → Unmarked t → T t t
    self_phrase end u = refl
    self_phrase (then i p t) u = (i, p, t, refl, self_item i u.0, self_phrase t u.1)

    self_item : (i : Item) → UnmarkedItem i → StandsFor i i
    self_item (lit p) u = refl
    self_item (lit_arr a) u = refl
    self_item (quot t) u = (t, refl, self_phrase t u)
    self_item (word w) u = refl
    self_item (bind y) u = refl
    self_item (local y) u = refl
    self_item (fry t n) u = (t, refl, self_phrase t u)
    self_item (hole k) u = refl
    self_item (call_effect h) u = refl
    self_item (execute_effect h) u = refl
    self_item next_method u = refl
    self_item (made k) u = tt
    self_item (next_after m) u = refl
    self_item (held v) u = refl
    self_item (known m) u = absurd u

  -- every running phrase stands for the phrase in which its values are forgotten
  mutual
    pub forgotten_stands : (t : Phrase) → T (forgotten t) t
    forgotten_stands end = refl
    forgotten_stands (then i p t) = (i, p, t, refl, forgotten_item_stands i, forgotten_stands t)

    forgotten_item_stands : (i : Item) → StandsFor (forgotten_item i) i
    forgotten_item_stands (lit p) = refl
    forgotten_item_stands (lit_arr a) = refl
    forgotten_item_stands (quot t) = (t, refl, forgotten_stands t)
    forgotten_item_stands (word w) = refl
    forgotten_item_stands (bind y) = refl
    forgotten_item_stands (local y) = refl
    forgotten_item_stands (fry t n) = (t, refl, forgotten_stands t)
    forgotten_item_stands (hole k) = refl
    forgotten_item_stands (call_effect h) = refl
    forgotten_item_stands (execute_effect h) = refl
    forgotten_item_stands next_method = refl
    forgotten_item_stands (made k) = tt
    forgotten_item_stands (next_after m) = refl
    forgotten_item_stands (held v) = (v, refl, tt)
    forgotten_item_stands (known m) = tt
