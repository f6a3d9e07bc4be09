-- A whole program that is accepted is as `SoundPrograms` takes a program to be, so its words and its top-level phrase are sound.
use Rattle.std.proofs.Common.{◌≡◌, ◌+◌, ℕ, zero, suc, List, [], ◌∷◌, ◌++◌, length, map, Bool, true, false, refl, sym, ap, ◌∙◌, Option, Some, None, arith, subst}
use Rattle.std.specs.Prelude.{nat_eq, nat_lt, not, ◌&&◌, ◌||◌, slice_get, is_some, codes}
use Rattle.std.specs.List.{list_all}
use Rattle.std.proofs.lemmas.Bool.{eqb-true, eq-eqb, leb-true, le-leb}
use Rattle.fac_lang.specs.Phrases.{Phrase, end, then, Item, lit, lit_arr, quot, word, bind, local, fry, hole, call_effect, execute_effect, next_method, made, next_after, held, known, Value, Callable}
use Rattle.fac_lang.specs.World.{World, State, array}
use Rattle.fac_lang.specs.declared.program.Lit.{Lit}
use Rattle.fac_base.specs.Signatures.{Signature, signature}
use Rattle.fac_base.specs.declared.height.Height.{Height}
use Rattle.fac_base.specs.Effects.{effect_height, inputs_count}
use Rattle.fac_lang.specs.WordHeights.{word_height}
use Rattle.fac_lang.specs.Substitution.{of_method, of_method_item}
use Rattle.fac_lang.specs.Primitives.{Primitive, prim_numbered, primitive_word, prim_fn}
use Rattle.fac_lang.specs.PrimitiveWords.{PrimitiveWord, written_effect}
use Rattle.fac_lang.specs.Objects.{get_slot, set_slot, put_slot}
use Rattle.fac_lang.specs.Classes.{methods_from, earlier, first_method, word_in, pick, next, next_from, has_kind, class_before}
use Rattle.fac_lang.specs.declared.program.Program.{Program}
use Rattle.fac_lang.specs.declared.program.ClassDef.{ClassDef}
use Rattle.fac_lang.specs.declared.program.WordDef.{WordDef}
use Rattle.fac_lang.specs.declared.program.Sort.{Sort}
use Rattle.fac_lang.specs.declared.program.Sort.TheVariants.{Prim as prim, Body as body, Past as past, Itself as itself, Class as class, Isa as isa, Getter as getter, Setter as setter, Putter as putter, Generic as generic, Method as method}
use Rattle.fac_lang.specs.Eval.{run_callable, eval}
use Rattle.fac_lang.specs.Meaning.{meaning_values, names, sort_of, word_phrase, with_arrays, literal_value, array_method, start, run, act, is_top_phrase, one_item, word_fits, callable_fits}
use Rattle.fac_lang.specs.Whole.{IsWhole, each_item, each_inner, item_fits, word_phrases, joined, quotations, has_written_effect, effect_written, is_effect, plain_effect, has_generic_effect, effect_of, sort_fits, is_generic, is_class, is_body, each_numbered, marks_fit}
use Rattle.fac_lang.proofs.WholeLemmas.{same_effect}
use Rattle.fac_abs.specs.RowVariables.{has_rows, bindable, is_row, outer_in, outer_out, effect_inputs, effect_leaving}
use Rattle.fac_rows.specs.RowBinding.{leaving_on, inputs_marks}
use Rattle.fac_abs.specs.declared.rule.Rule.{Rule}
use Rattle.fac_check.specs.declared.refusal.Broken.{Broken}
use Rattle.fac_check.specs.Verdicts.{any_quoted, is_inline_body, inline_verdict, row_verdict, broken_at, head_rules, bad_rows, bad_generic, no_generic_effect, ordinary_verdict, body_verdict, top_verdict, phrase_verdict, sort_verdict, ruled_verdict, word_verdict, verdict_from, verdict}
use Rattle.fac_abs.proofs.EqualMarks.{never_true, and_first, and_second}
use Rattle.fac_check.proofs.StandingLaws.{Unmarked, UnmarkedItem}
use Rattle.fac_check.proofs.VerdictLemmas.{NoneBroken}
use Rattle.fac_base.specs.HeightArithmetic.{fits}
use Rattle.fac_check.specs.CallableEffects.{callable_height}
use Rattle.fac_check.specs.Promises.{Valid}
use Rattle.fac_check.proofs.ValuesOfMarks.{EndsSo}
use Rattle.fac_check.proofs.WalksFit.{Context, OnState, StackState}
use Rattle.fac_check.proofs.ItemsFit.{Over, Leaves}
use Rattle.fac_check.proofs.PrimitivesKeep.{RegularFn, prim_regular, getter_regular, setter_regular, putter_regular, word_numbers, written_height, prim_found}
use Rattle.fac_check.proofs.SoundPrograms.{Accepted, AcceptedMethod, height_of, Good, item_sound, executed_sound, callable_sound, row_word_sound, top_sound}

-- One of a list, of which all pass a test, passes it.
one_passes : {X : Type 0} (test : X → Bool) (xs : List X) → list_all test xs ≡ true → (k : ℕ) (x : X) → slice_get xs k ≡ Some x → test x ≡ true
one_passes test [] h k x e = absurd (cc)
one_passes test (y ∷ xs) h zero x e = (let same : y ≡ x = cc in subst (λ z. test z ≡ true) same (and_first (test y) (list_all test xs) h))
one_passes test (y ∷ xs) h (suc k) x e = one_passes test xs (and_second (test y) (list_all test xs) h) k x e

front_passes : {X : Type 0} (test : X → Bool) (xs ys : List X) → list_all test (xs ++ ys) ≡ true → list_all test xs ≡ true
front_passes test [] ys h = refl
front_passes test (x ∷ xs) ys h = both (test x) (and_first (test x) (list_all test (xs ++ ys)) h) (front_passes test xs ys (and_second (test x) (list_all test (xs ++ ys)) h))
  where
    both : (b : Bool) → b ≡ true → list_all test xs ≡ true → (b && list_all test xs) ≡ true
    both true e k = k
    both false e k = e

module _ (P : Program) where
  -- No mark stands in a phrase whose items are those of a source.
  mutual
    unmarked_phrase : (t : Phrase) → each_item (item_fits P) t ≡ true → Unmarked t
    unmarked_phrase end h = tt
    unmarked_phrase (then i p t) h =
        (let q = and_first (item_fits P i && each_inner (item_fits P) i) (each_item (item_fits P) t) h in (unmarked_item i (and_first (item_fits P i) (each_inner (item_fits P) i) q) (and_second (item_fits P i) (each_inner (item_fits P) i) q), unmarked_phrase t (and_second (item_fits P i && each_inner (item_fits P) i) (each_item (item_fits P) t) h)))

    unmarked_item : (i : Item) → item_fits P i ≡ true → each_inner (item_fits P) i ≡ true → UnmarkedItem i
    unmarked_item (quot t) h k = unmarked_phrase t k
    unmarked_item (fry t n) h k = unmarked_phrase t k
    unmarked_item (known m) h k = absurd (never_true h)
    unmarked_item (lit p) h k = tt
    unmarked_item (lit_arr a) h k = tt
    unmarked_item (word w) h k = tt
    unmarked_item (bind y) h k = tt
    unmarked_item (local y) h k = tt
    unmarked_item (hole n) h k = tt
    unmarked_item (call_effect e) h k = tt
    unmarked_item (execute_effect e) h k = tt
    unmarked_item next_method h k = tt
    unmarked_item (made n) h k = tt
    unmarked_item (next_after m) h k = tt
    unmarked_item (held v) h k = tt

  mutual
    unmarked_method : (m : ℕ) (t : Phrase) → Unmarked t → Unmarked (of_method m t)
    unmarked_method m end h = tt
    unmarked_method m (then i p t) h = (unmarked_method_item m i h.0, unmarked_method m t h.1)

    unmarked_method_item : (m : ℕ) (i : Item) → UnmarkedItem i → UnmarkedItem (of_method_item m i)
    unmarked_method_item m (quot t) h = unmarked_method m t h
    unmarked_method_item m (fry t n) h = unmarked_method m t h
    unmarked_method_item m (known k) h = absurd h
    unmarked_method_item m (lit p) h = tt
    unmarked_method_item m (lit_arr a) h = tt
    unmarked_method_item m (word w) h = tt
    unmarked_method_item m (bind y) h = tt
    unmarked_method_item m (local y) h = tt
    unmarked_method_item m (hole n) h = tt
    unmarked_method_item m (call_effect e) h = tt
    unmarked_method_item m (execute_effect e) h = tt
    unmarked_method_item m next_method h = tt
    unmarked_method_item m (made n) h = tt
    unmarked_method_item m (next_after n) h = tt
    unmarked_method_item m (held v) h = tt

  -- the phrase that a sort has
  abbrev HasPhrase : Sort → Phrase → Type 0
  HasPhrase (body t) u = t ≡ u
  HasPhrase (method c g t) u = t ≡ u
  HasPhrase _ u = ⊥

  abbrev phrases_with : Sort → List Phrase → List Phrase
  phrases_with s ts = elim s [ body t ↦ t ∷ ts | past t ↦ t ∷ ts | method c g t ↦ t ∷ ts | _ ↦ ts ]

  head_passes : (test : Phrase → Bool) (s : Sort) (ts : List Phrase) (u : Phrase) → HasPhrase s u → list_all test (phrases_with s ts) ≡ true → test u ≡ true
  head_passes test (body t) ts u e h = subst (λ x. test x ≡ true) e (and_first (test t) (list_all test ts) h)
  head_passes test (method c g t) ts u e h = subst (λ x. test x ≡ true) e (and_first (test t) (list_all test ts) h)
  head_passes test s ts u e h = absurd e

  rest_passes : (test : Phrase → Bool) (s : Sort) (ts : List Phrase) → list_all test (phrases_with s ts) ≡ true → list_all test ts ≡ true
  rest_passes test (body t) ts h = and_second (test t) (list_all test ts) h
  rest_passes test (method c g t) ts h = and_second (test t) (list_all test ts) h
  rest_passes test (past t) ts h = and_second (test t) (list_all test ts) h
  rest_passes test s ts h = h

  phrase_passes : (test : Phrase → Bool) (ds : List WordDef) → list_all test (word_phrases ds) ≡ true → (k : ℕ) (d : WordDef) (u : Phrase) → slice_get ds k ≡ Some d → HasPhrase d.sort u → test u ≡ true
  phrase_passes test [] h k d u e q = absurd (cc)
  phrase_passes test (c ∷ ds) h zero d u e q = (let same : d ≡ c = cc in head_passes test c.sort (word_phrases ds) u (subst (λ x. HasPhrase x.sort u) same q) h)
  phrase_passes test (c ∷ ds) h (suc k) d u e q = phrase_passes test ds (rest_passes test c.sort (word_phrases ds) h) k d u e q

  unmarked_word : IsWhole P → (w : ℕ) (d : WordDef) (u : Phrase) → slice_get P.words w ≡ Some d → HasPhrase d.sort u → Unmarked u
  unmarked_word whole w d u e q = unmarked_phrase u (phrase_passes (each_item (item_fits P)) P.words (front_passes (each_item (item_fits P)) (word_phrases P.words) (joined (map quotations P.arrays)) whole.items_fit) w d u e q)

  -- An accepted program has no refused word.
  abbrev first_refusal : Option Broken → ℕ → Option (ℕ × Broken) → Option (ℕ × Broken)
  first_refusal o w next = elim o [ Some r ↦ Some (w, r) | None ↦ next ]

  some_refusal : {X : Type 0} (r : X) → (let o : Option X = Some r in o ≡ None) → ⊥
  some_refusal r e = never_true (ap (λ o. elim o [ Some x ↦ false | None ↦ true ]) e)

  none_first : (o : Option Broken) (w : ℕ) (next : Option (ℕ × Broken)) → first_refusal o w next ≡ None → (o ≡ None) × (next ≡ None)
  none_first None w next e = (refl, e)
  none_first (Some r) w next e = absurd (some_refusal (w, r) e)

  accepted_at : (start w : ℕ) (ds : List WordDef) → verdict_from P start w ds ≡ None → (k v : ℕ) (d : WordDef) → v ≡ w + k → slice_get ds k ≡ Some d → word_verdict P start v d ≡ None
  accepted_at start w [] h k v d e q = absurd (cc)
  accepted_at start w (c ∷ ds) h zero v d e q =
      (let same : c ≡ d = cc in let at : w ≡ v = omega (arith, e) in subst (λ x. word_verdict P start x d ≡ None) at (subst (λ x. word_verdict P start w x ≡ None) same (none_first (word_verdict P start w c) w (verdict_from P start (suc w) ds) h).0))
  accepted_at start w (c ∷ ds) h (suc k) v d e q = accepted_at start (suc w) ds (none_first (word_verdict P start w c) w (verdict_from P start (suc w) ds) h).1 k v d (omega (arith, e)) q

  accepted_word : (start : ℕ) → verdict P start ≡ None → (w : ℕ) (d : WordDef) → slice_get P.words w ≡ Some d → word_verdict P start w d ≡ None
  accepted_word start h w d q = accepted_at start 0 P.words h w w d (omega arith) q

  -- an accepted word breaks none of the rules that need no walk
  by_rules : (rs : List (Bool × Rule)) (start w : ℕ) (d : WordDef) → ruled_verdict P rs start w d ≡ None → NoneBroken rs × (sort_verdict P start w d d.sort ≡ None)
  by_rules [] start w d h = (tt, h)
  by_rules (r ∷ rs) start w d h = by_first r.0 refl (by_rules rs start w d) h
    where
      by_first : (b : Bool) → r.0 ≡ b → (ruled_verdict P rs start w d ≡ None → NoneBroken rs × (sort_verdict P start w d d.sort ≡ None)) → (let o : Option Broken = elim b [ true ↦ broken_at r.1 d.place | false ↦ ruled_verdict P rs start w d ] in o ≡ None) → NoneBroken (r ∷ rs) × (sort_verdict P start w d d.sort ≡ None)
      by_first true e others k = absurd (some_refusal _ k)
      by_first false e others k = ((e, (others k).0), (others k).1)

  of_word : (start : ℕ) → verdict P start ≡ None → (w : ℕ) (d : WordDef) → slice_get P.words w ≡ Some d → (bad_rows P w d ≡ false) × (bad_generic d.sort d.effect ≡ false) × (sort_verdict P start w d d.sort ≡ None)
  of_word start h w d q = let ruled = by_rules (head_rules P w d) start w d (accepted_word start h w d q) in (ruled.0.1.0, ruled.0.1.1.0, ruled.1)

  -- an ordinary word
  by_phrase : (b : Bool) (start w : ℕ) (t : Phrase) (d : WordDef) → not b ≡ true → phrase_verdict P b start w t d ≡ None → body_verdict P d.inline w t d ≡ None
  by_phrase true start w t d z h = absurd (never_true z)
  by_phrase false start w t d z h = h

  ordinary_accepted : (start : ℕ) → verdict P start ≡ None → (w : ℕ) (d : WordDef) (t : Phrase) → slice_get P.words w ≡ Some d → d.sort ≡ body t → not (nat_eq w P.top) ≡ true → d.inline ≡ false → ordinary_verdict P w t d ≡ None
  ordinary_accepted start h w d t q s z i = subst (λ b. body_verdict P b w t d ≡ None) i (by_phrase (nat_eq w P.top) start w t d z (subst (λ x. sort_verdict P start w d x ≡ None) s (of_word start h w d q).2))

  -- a row word
  row_accepted : (start : ℕ) → verdict P start ≡ None → (w : ℕ) (d : WordDef) (t : Phrase) → slice_get P.words w ≡ Some d → d.sort ≡ body t → not (nat_eq w P.top) ≡ true → d.inline ≡ true → is_row d.recursive d.effect ≡ true → row_verdict P w t d ≡ None
  row_accepted start h w d t q s z i x =
      subst (λ b. inline_verdict P b w t d ≡ None) x (subst (λ b. body_verdict P b w t d ≡ None) i (by_phrase (nat_eq w P.top) start w t d z (subst (λ y. sort_verdict P start w d y ≡ None) s (of_word start h w d q).2)))

  -- whether a word of this sort breaks `row-declaration`
  abbrev bad_rows_of : ℕ → WordDef → Sort → Bool
  bad_rows_of w d s = elim s [ past t ↦ false | _ ↦ not (nat_eq w P.top) && (has_rows d.effect && not (is_inline_body P d && bindable d.effect)) ]

  can_bind : (e : Signature) (a b : Bool) → a ≡ true → (a && (has_rows e && not (b && bindable e))) ≡ false → bindable e ≡ true
  can_bind (signature r is l) a b z h = by_case (has_rows (signature r is l)) refl (subst (λ q. (q && (has_rows (signature r is l) && not (b && bindable (signature r is l)))) ≡ false) z h)
    where
      bound : (c q : Bool) → not (c && q) ≡ false → q ≡ true
      bound true true y = refl
      bound true false y = absurd (never_true (sym y))
      bound false q y = absurd (never_true (sym y))

      by_case : (q : Bool) → has_rows (signature r is l) ≡ q → (q && not (b && bindable (signature r is l))) ≡ false → bindable (signature r is l) ≡ true
      by_case true u y = bound b (bindable (signature r is l)) y
      by_case false u y = rw u refl

  rows_bindable : (start : ℕ) → verdict P start ≡ None → (w : ℕ) (d : WordDef) (t : Phrase) → slice_get P.words w ≡ Some d → d.sort ≡ body t → not (nat_eq w P.top) ≡ true → bindable d.effect ≡ true
  rows_bindable start h w d t q s z = can_bind d.effect (not (nat_eq w P.top)) (is_inline_body P d) z (subst (λ y. bad_rows_of w d y ≡ false) s (of_word start h w d q).0)

  -- a method
  method_accepted : (start : ℕ) → verdict P start ≡ None → (w : ℕ) (d : WordDef) (c g : ℕ) (t : Phrase) → slice_get P.words w ≡ Some d → d.sort ≡ method c g t → ordinary_verdict P w (of_method w t) d ≡ None
  method_accepted start h w d c g t q s = subst (λ x. sort_verdict P start w d x ≡ None) s (of_word start h w d q).2

  -- the top-level phrase
  by_top : (b : Bool) (start w : ℕ) (t : Phrase) (d : WordDef) → b ≡ true → phrase_verdict P b start w t d ≡ None → top_verdict P start w t ≡ None
  by_top true start w t d z h = h
  by_top false start w t d z h = absurd (never_true z)

  pub top_accepted : (start : ℕ) → verdict P start ≡ None → (w : ℕ) (d : WordDef) (t : Phrase) → slice_get P.words w ≡ Some d → d.sort ≡ body t → nat_eq w P.top ≡ true → top_verdict P start w t ≡ None
  top_accepted start h w d t q s z = by_top (nat_eq w P.top) start w t d z (subst (λ x. sort_verdict P start w d x ≡ None) s (of_word start h w d q).2)

  -- Methods.

  -- word m is a method of generic g
  abbrev pub IsMethod : ℕ → ℕ → Type 0
  IsMethod g m = (d : WordDef) × (c : ℕ) × (t : Phrase) × (slice_get P.words m ≡ Some d) × (d.sort ≡ method c g t)

  abbrev AllMethods : ℕ → List (ℕ × ℕ) → Type 0
  AllMethods g [] = Unit {0}
  AllMethods g (m ∷ ms) = IsMethod g m.0 × AllMethods g ms

  abbrev MaybeMethod : ℕ → Option (ℕ × ℕ) → Type 0
  MaybeMethod g None = Unit {0}
  MaybeMethod g (Some m) = IsMethod g m.0

  -- the words of the list have the numbers from k on
  abbrev Numbered : ℕ → List WordDef → Type 0
  Numbered k ds = (j v : ℕ) (d : WordDef) → v ≡ k + j → slice_get ds j ≡ Some d → slice_get P.words v ≡ Some d

  abbrev method_or : ℕ → ℕ → Sort → List (ℕ × ℕ) → List (ℕ × ℕ)
  method_or g k s rest = elim s [ method c h t ↦ elim (nat_eq g h) [ true ↦ (k, c) ∷ rest | false ↦ rest ] | _ ↦ rest ]

  with_method : (g k : ℕ) (s : Sort) (rest : List (ℕ × ℕ)) → ((c h : ℕ) (t : Phrase) → s ≡ method c h t → g ≡ h → IsMethod g k) → AllMethods g rest → AllMethods g (method_or g k s rest)
  with_method g k (method c h t) rest x y = chosen (nat_eq g h) refl
    where
      chosen : (q : Bool) → nat_eq g h ≡ q → AllMethods g (elim q [ true ↦ (k, c) ∷ rest | false ↦ rest ])
      chosen true e = (x c h t refl (eqb-true g h e), y)
      chosen false e = y
  with_method g k s rest x y = y

  methods_are : (g k : ℕ) (ds : List WordDef) → Numbered k ds → AllMethods g (methods_from g k ds)
  methods_are g k [] n = tt
  methods_are g k (d ∷ ds) n =
      with_method g k d.sort (methods_from g (suc k) ds) (λ c h t e same. (d, c, t, n 0 k d (omega arith) refl, subst (λ x. d.sort ≡ method c x t) (sym same) e)) (methods_are g (suc k) ds (λ j v c e q. n (suc j) v c (omega (arith, e)) q))

  earlier_is : (cs : List ClassDef) (g : ℕ) (m : ℕ × ℕ) (o : Option (ℕ × ℕ)) → IsMethod g m.0 → MaybeMethod g o → MaybeMethod g (earlier cs m o)
  earlier_is cs g m None x y = x
  earlier_is cs g m (Some n) x y = chosen (class_before cs n.1 m.1)
    where
      chosen : (q : Bool) → MaybeMethod g (elim q [ true ↦ Some n | false ↦ Some m ])
      chosen true = y
      chosen false = x

  first_is : (cs : List ClassDef) (k g : ℕ) (test : ℕ → Bool) (ms : List (ℕ × ℕ)) → AllMethods g ms → MaybeMethod g (first_method cs k test ms)
  first_is cs k g test [] x = tt
  first_is cs k g test (m ∷ ms) x = chosen (has_kind cs m.1 k && test m.1) (first_is cs k g test ms x.1)
    where
      chosen : (q : Bool) → MaybeMethod g (first_method cs k test ms) → MaybeMethod g (elim q [ true ↦ earlier cs m (first_method cs k test ms) | false ↦ first_method cs k test ms ])
      chosen true y = earlier_is cs g m (first_method cs k test ms) x.0 y
      chosen false y = y

  in_is : (g m : ℕ) (o : Option (ℕ × ℕ)) → MaybeMethod g o → word_in o ≡ Some m → IsMethod g m
  in_is g m None x e = absurd (no_some e)
    where
      no_some : (let o : Option ℕ = None in o ≡ Some m) → ⊥
      no_some z = never_true (sym (ap (λ o. elim o [ Some y ↦ false | None ↦ true ]) z))
  in_is g m (Some n) x e = (let same : n.0 ≡ m = cc in subst (λ y. IsMethod g y) same x)

  all_methods : (g : ℕ) → AllMethods g (methods_from g 0 P.words)
  all_methods g = methods_are g 0 P.words (λ j v d e q. (let same : j ≡ v = omega (arith, e) in subst (λ y. slice_get P.words y ≡ Some d) same q))

  -- a generic picks its methods
  picked_is : (g k m : ℕ) → pick P g k ≡ Some m → IsMethod g m
  picked_is g k m e = in_is g m (first_method P.classes k (λ c. true) (methods_from g 0 P.words)) (first_is P.classes k g (λ c. true) (methods_from g 0 P.words) (all_methods g)) e

  abbrev next_by : ℕ → Sort → Option ℕ
  next_by k s = elim s [ method c g t ↦ elim (has_kind P.classes c k) [ true ↦ word_in (first_method P.classes k (λ d. class_before P.classes c d) (methods_from g 0 P.words)) | false ↦ None ] | _ ↦ None ]

  next_is : (k n c g : ℕ) (t : Phrase) → next_by k (method c g t) ≡ Some n → IsMethod g n
  next_is k n c g t e = chosen (has_kind P.classes c k) e
    where
      chosen : (q : Bool) → (let o : Option ℕ = elim q [ true ↦ word_in (first_method P.classes k (λ d. class_before P.classes c d) (methods_from g 0 P.words)) | false ↦ None ] in o ≡ Some n) → IsMethod g n
      chosen true z = in_is g n (first_method P.classes k (λ d. class_before P.classes c d) (methods_from g 0 P.words)) (first_is P.classes k g (λ d. class_before P.classes c d) (methods_from g 0 P.words) (all_methods g)) z
      chosen false z = absurd (cc)

  -- the word with a number, by its sort
  abbrev sort_in : Option WordDef → Option Sort
  sort_in o = elim o [ Some d ↦ Some d.sort | None ↦ None ]

  found_word : (o : Option WordDef) (s : Sort) → sort_in o ≡ Some s → (d : WordDef) × (o ≡ Some d) × (d.sort ≡ s)
  found_word None s e = absurd (cc)
  found_word (Some d) s e = (d, refl, cc)

  next_method_is : (m k n c g : ℕ) (t : Phrase) → sort_of P m ≡ Some (method c g t) → next P m k ≡ Some n → IsMethod g n
  next_method_is m k n c g t e q =
      (let z = found_word (slice_get P.words m) (method c g t) e in next_is k n c g t (subst (λ s. next_by k s ≡ Some n) z.2 (subst (λ o. next_from P k o ≡ Some n) z.1 q)))

  same_sort : (w : ℕ) (d : WordDef) → slice_get P.words w ≡ Some d → sort_of P w ≡ Some d.sort
  same_sort w d e = ap sort_in e

  module _ (whole : IsWhole P) where
    -- the effect that a word without a phrase is written to have
    written : (w : ℕ) (d : WordDef) → slice_get P.words w ≡ Some d → has_written_effect d ≡ true
    written w d e = one_passes has_written_effect P.words whole.written_effects w d e

    abbrev has_written : Sort → Signature → Bool
    has_written s e = has_written_effect (record { name = record { vocab = []; name = [] }; sort = s; effect = e; inline = false; recursive = false; place = record { file = 0; token = 0 } })

    by_sort : (d : WordDef) (s : Sort) → d.sort ≡ s → has_written_effect d ≡ true → has_written s d.effect ≡ true
    by_sort d s e h = subst (λ x. has_written x d.effect ≡ true) e h

    prim_effect : (o : Option PrimitiveWord) (e : Signature) → is_effect (effect_written o) e ≡ true → (r : PrimitiveWord) × (o ≡ Some r) × (written_effect r ≡ e)
    prim_effect None e h = absurd (never_true h)
    prim_effect (Some r) e h = (r, refl, same_effect (written_effect r) e h)

    prim_height : (w : ℕ) (d : WordDef) (k : ℕ) (p : Primitive) → slice_get P.words w ≡ Some d → d.sort ≡ prim k → prim_numbered k ≡ Some p → word_numbers p.word ≡ height_of d
    prim_height w d k p e s q =
        (let z = prim_effect (primitive_word k) d.effect (by_sort d (prim k) s (written w d e)) in let found = prim_found k z.0 z.1 in let twice : Some p ≡ Some found.0 = sym q ∙ found.1 in let same : p ≡ found.0 = cc in sym (written_height p.word) ∙ ap (λ (x : Primitive). effect_height (written_effect x.word)) same ∙ ap (λ (r : PrimitiveWord). effect_height (written_effect r)) found.2 ∙ ap effect_height z.2)

    -- a method has its generic's effect and is accepted
    effect_found : (o : Option WordDef) (g : WordDef) (e : Signature) → o ≡ Some g → is_effect (elim o [ Some d ↦ Some d.effect | None ↦ None ]) e ≡ true → g.effect ≡ e
    effect_found None g e q h = absurd (never_true h)
    effect_found (Some d) g e q h = (let same : d ≡ g = cc in subst (λ x. x.effect ≡ e) same (same_effect d.effect e h))

    abbrev has_generic : Sort → Signature → Bool
    has_generic s e = elim s [ method c g t ↦ is_effect (effect_of P g) e | _ ↦ true ]

    method_of : (start : ℕ) → verdict P start ≡ None → (g : ℕ) (d : WordDef) → slice_get P.words g ≡ Some d → (m : ℕ) → IsMethod g m → AcceptedMethod P (height_of d) m
    method_of start h g d e m x =
        (let body_is : word_phrase P m ≡ of_method m x.2 = ap (λ o. elim o [ Some s ↦ elim s [ body t ↦ t | past t ↦ t | method c i t ↦ of_method m t | _ ↦ end ] | None ↦ end ]) (same_sort m x.0 x.3 ∙ ap (λ s. Some s) x.4) in (x.0, subst (λ u. ordinary_verdict P m u x.0 ≡ None) (sym body_is) (method_accepted start h m x.0 x.1 g x.2 x.3 x.4), sym (ap effect_height (effect_found (slice_get P.words g) d x.0.effect e (subst (λ s. has_generic s x.0.effect ≡ true) x.4 (one_passes (has_generic_effect P) P.words whole.method_effects m x.0 x.3)))), subst Unmarked (sym body_is) (unmarked_method m x.2 (unmarked_word whole m x.0 x.2 x.3 (subst (λ s. HasPhrase s x.2) (sym x.4) refl)))))

    -- an inline word has a phrase and isn't the top-level word
    numbered_passes : (test : ℕ → WordDef → Bool) (j : ℕ) (ds : List WordDef) → each_numbered test j ds ≡ true → (n v : ℕ) (d : WordDef) → v ≡ j + n → slice_get ds n ≡ Some d → test v d ≡ true
    numbered_passes test j [] h n v d e q = absurd (cc)
    numbered_passes test j (c ∷ ds) h zero v d e q =
        (let same : c ≡ d = cc in let at : j ≡ v = omega (arith, e) in subst (λ x. test x d ≡ true) at (subst (λ x. test j x ≡ true) same (and_first (test j c) (each_numbered test (suc j) ds) h)))
    numbered_passes test j (c ∷ ds) h (suc n) v d e q = numbered_passes test (suc j) ds (and_second (test j c) (each_numbered test (suc j) ds) h) n v d (omega (arith, e)) q

    marked_passes : (i r x : Bool) → i ≡ true → (not (i || r) || x) ≡ true → x ≡ true
    marked_passes true r x e h = h
    marked_passes false r x e h = absurd (never_true e)

    has_body : (s : Sort) → is_body (Some s) ≡ true → (t : Phrase) × (s ≡ body t)
    has_body (body t) h = (t, refl)
    has_body s h = absurd (never_true h)

    pub inline_phrase : (w : ℕ) (d : WordDef) → slice_get P.words w ≡ Some d → d.inline ≡ true → (t : Phrase) × (d.sort ≡ body t) × (not (nat_eq w P.top) ≡ true)
    inline_phrase w d e i =
        (let z = marked_passes d.inline d.recursive (is_body (Some d.sort) && not (nat_eq w P.top)) i (numbered_passes (marks_fit P) 0 P.words whole.marks_of_bodies w w d (omega arith) e) in let b = has_body d.sort (and_first (is_body (Some d.sort)) (not (nat_eq w P.top)) z) in (b.0, b.1, and_second (is_body (Some d.sort)) (not (nat_eq w P.top)) z))

    has_prim : (o : Option PrimitiveWord) → is_some o ≡ true → (r : PrimitiveWord) × (o ≡ Some r)
    has_prim None h = absurd (never_true h)
    has_prim (Some r) h = (r, refl)

    prim_there : (w : ℕ) (d : WordDef) (k : ℕ) → slice_get P.words w ≡ Some d → d.sort ≡ prim k → (p : Primitive) × (prim_numbered k ≡ Some p)
    prim_there w d k e s = (let z = has_prim (primitive_word k) (subst (λ x. sort_fits P x ≡ true) s (one_passes (λ x. sort_fits P x.sort) P.words whole.sorts_fit w d e)) in let found = prim_found k z.0 z.1 in (found.0, found.1))

    -- an accepted generic takes a value
    some_input : (e : Signature) → no_generic_effect e ≡ false → (i : ℕ) × ((effect_height e).ins ≡ suc i)
    some_input (signature r is l) h = counted (inputs_count is) (has_rows (signature r is l) || any_quoted is) h
      where
        counted : (n : ℕ) (b : Bool) → (nat_eq n 0 || b) ≡ false → (i : ℕ) × (n ≡ suc i)
        counted zero b z = absurd (never_true (sym z))
        counted (suc i) b z = (i, refl)

    generic_input : (start : ℕ) → verdict P start ≡ None → (w : ℕ) (d : WordDef) → slice_get P.words w ≡ Some d → d.sort ≡ generic → (i : ℕ) × ((height_of d).ins ≡ suc i)
    generic_input start h w d e s = some_input d.effect (subst (λ x. bad_generic x d.effect ≡ false) s (of_word start h w d e).1)

    -- the generic of a method
    generic_sort : (m c g : ℕ) (t : Phrase) (d : WordDef) → sort_of P m ≡ Some (method c g t) → slice_get P.words g ≡ Some d → d.sort ≡ generic
    generic_sort m c g t d e q =
        (let z = found_word (slice_get P.words m) (method c g t) e in let fits : (is_class P c && is_generic (sort_of P g)) ≡ true = subst (λ s. sort_fits P s ≡ true) z.2 (one_passes (λ x. sort_fits P x.sort) P.words whole.sorts_fit m z.0 z.1) in only_generic d.sort (subst (λ o. is_generic o ≡ true) (same_sort g d q) (and_second (is_class P c) (is_generic (sort_of P g)) fits)))
      where
        only_generic : (s : Sort) → is_generic (Some s) ≡ true → s ≡ generic
        only_generic generic h = refl
        only_generic s h = absurd (never_true h)

    -- A whole program that is accepted is such a program.
    pub accepted_program : (start : ℕ) → verdict P start ≡ None → Accepted P
    accepted_program start h =
        record {
          accepted = ordinary_accepted start h;
          unmarked = λ w d t e s. unmarked_word whole w d t e (subst (λ x. HasPhrase x t) (sym s) refl);
          row_accepted = row_accepted start h;
          rows_bindable = rows_bindable start h;
          prims = λ w d k p e s q. subst (λ x. RegularFn x.ins x.outs (prim_fn meaning_values (names P) p)) (prim_height w d k p e s q) (prim_regular (names P) k p q);
          getters = λ w d n e s. subst (λ x. RegularFn (effect_height x).ins (effect_height x).outs (get_slot meaning_values (names P) n)) (same_effect (plain_effect (codes "object" ∷ []) (codes "value" ∷ [])) d.effect (by_sort d (getter n) s (written w d e))) (getter_regular (names P) n);
          setters = λ w d n e s. subst (λ x. RegularFn (effect_height x).ins (effect_height x).outs (set_slot meaning_values (names P) n)) (same_effect (plain_effect (codes "object" ∷ codes "value" ∷ []) (codes "object" ∷ [])) d.effect (by_sort d (setter n) s (written w d e))) (setter_regular (names P) n);
          putters = λ w d n e s. subst (λ x. RegularFn (effect_height x).ins (effect_height x).outs (put_slot meaning_values (names P) n)) (same_effect (plain_effect (codes "value" ∷ codes "object" ∷ []) []) d.effect (by_sort d (putter n) s (written w d e))) (putter_regular (names P) n);
          tests = λ w d c e s. subst (λ x. ((effect_height x).ins ≡ 1) × ((effect_height x).outs ≡ Some 1)) (same_effect (plain_effect (codes "object" ∷ []) (codes "?" ∷ [])) d.effect (by_sort d (isa c) s (written w d e))) (refl, refl);
          numbered = prim_there;
          selves = λ w d e s. subst (λ x. ((effect_height x).ins ≡ 0) × ((effect_height x).outs ≡ Some 1)) (same_effect (plain_effect [] (codes "value" ∷ [])) d.effect (by_sort d itself s (written w d e))) (refl, refl);
          classes = λ w d c e s. subst (λ x. ((effect_height x).ins ≡ 0) × ((effect_height x).outs ≡ Some 1)) (same_effect (plain_effect [] (codes "value" ∷ [])) d.effect (by_sort d (class c) s (written w d e))) (refl, refl);
          methods = λ w d c g t e s. (method_accepted start h w d c g t e s, unmarked_method w t (unmarked_word whole w d t e (subst (λ x. HasPhrase x t) (sym s) refl)));
          generics = λ w d e s. (let z = generic_input start h w d e s in (z.0, z.1, λ k m y. method_of start h w d e m (picked_is w k m y)));
          nexts = λ m c g t d e q. (let z = generic_input start h g d q (generic_sort m c g t d e q) in (z.0, z.1, λ k n y. method_of start h g d q n (next_method_is m k n c g t e y)));
        }

-- In the state before the first item each literal array has its address.
one_longer : (xs : List ℕ) (y : ℕ) → length (xs ++ y ∷ []) ≡ suc (length xs)
one_longer [] y = refl
one_longer (x ∷ xs) y = ap suc (one_longer xs y)

there_is : (xs : List ℕ) (a n : ℕ) → length xs ≡ n → nat_lt a n ≡ true → (k : ℕ) × (slice_get xs a ≡ Some k)
there_is [] a zero e h = absurd (no_below a h)
  where
    no_below : (b : ℕ) → nat_lt b 0 ≡ true → ⊥
    no_below b z = (let lt = leb-true (suc b) 0 z in omega (arith, lt))
there_is [] a (suc n) e h = absurd (omega (arith, e))
there_is (x ∷ xs) zero n e h = (x, refl)
there_is (x ∷ xs) (suc a) zero e h = absurd (omega (arith, e))
there_is (x ∷ xs) (suc a) (suc n) e h = there_is xs a n (omega (arith, e)) (let lt = leb-true (suc (suc a)) (suc n) h in le-leb (suc a) n (omega (arith, lt)))

module _ (P : Program) where
  arrays_made : (k : ℕ) (lss : List (List Lit)) (w : World Value) → length (with_arrays P k lss w).literals ≡ length w.literals + length lss
  arrays_made k [] w = omega arith
  arrays_made k (ls ∷ lss) w =
      made (record { objects = w.objects ++ array (map (literal_value P w.literals (array_method P (length P.arrays) k)) ls) ∷ []; literals = w.literals ++ length w.objects ∷ []; input = w.input; asked = w.asked; output = w.output }) (one_longer w.literals (length w.objects)) (λ w'. arrays_made (suc k) lss w')
    where
      made : (w' : World Value) → length w'.literals ≡ suc (length w.literals) → ((v : World Value) → length (with_arrays P (suc k) lss v).literals ≡ length v.literals + length lss) → length (with_arrays P (suc k) lss w').literals ≡ length w.literals + length (ls ∷ lss)
      made w' y go = (let z = go w' in omega (arith, z, y))

  pub start_valid : (input : List ℕ) → Valid P (start P input).world
  start_valid input a h = there_is (start P input).world.literals a (length P.arrays) (let z = arrays_made 0 P.arrays (record { objects = []; literals = []; input = input; asked = 0; output = [] }) in z ∙ omega arith) h

  phrase_there : (w : ℕ) (t : Phrase) → sort_of P w ≡ Some (body t) → word_phrase P w ≡ t
  phrase_there w t e = ap (λ o. elim o [ Some x ↦ elim x [ body u ↦ u | past u ↦ u | method k g u ↦ of_method w u | _ ↦ end ] | None ↦ end ]) e

  module _ (k : ℕ) (whole : IsWhole P) (accepted : verdict P k ≡ None) where
    -- Of a whole program that is accepted, with k values on the list before its top-level phrase: the item of a word that has an effect by itself, from every state with its declared inputs on any values, at every budget, isn't stuck, and where it is done exactly its declared outputs stand on those values.
    pub word_sound : (w : ℕ) (d : WordDef) (h : Height) → slice_get P.words w ≡ Some d → word_height d ≡ Some h → is_top_phrase P w ≡ false → (below : List Value) (st : State Value) (n : ℕ) → Over h.ins below st.stack → Valid P st.world → EndsSo (Leaves P h.outs below) (run P fits (callable_height P) n (one_item (word w)) st)
    word_sound w d h e q z below st n o v = item_sound P (accepted_program P whole k accepted) w d h e q z below st n o v

    -- Likewise the item of a word that fits what a call declares, and a callable that does, wherever it came from.
    pub fitting_word_sound : (h : Height) (w : ℕ) → word_fits P fits h w ≡ true → (below : List Value) (st : State Value) (n : ℕ) → Over h.ins below st.stack → Valid P st.world → EndsSo (Leaves P h.outs below) (run P fits (callable_height P) n (one_item (word w)) st)
    fitting_word_sound h w e below st n o v = executed_sound P (accepted_program P whole k accepted) h w e below st n o v

    pub fitting_callable_sound : (h : Height) (c : Callable) → callable_fits P fits (callable_height P) h c ≡ true → (below : List Value) (st : State Value) (n : ℕ) → Over h.ins below st.stack → Valid P st.world → EndsSo (Leaves P h.outs below) (run_callable (eval (act P fits (callable_height P)) n) c st n)
    fitting_callable_sound h c e below st n o v = callable_sound P (accepted_program P whole k accepted) h c e below st n o v

    -- Likewise a row word, in every context in which what may be handed in for its inputs does what its effect says.
    pub row_sound : (w : ℕ) (d : WordDef) → slice_get P.words w ≡ Some d → d.inline ≡ true → is_row d.recursive d.effect ≡ true → (C : Context) → C.own ≡ Some d.effect → C.word ≡ Some w → (n : ℕ) → Good P n C → (st : State Value) → OnState P C (outer_in d.effect) (inputs_marks 1 (effect_inputs d.effect) []) st → EndsSo (StackState P C (leaving_on (effect_leaving d.effect) (outer_out d.effect) [])) (run P fits (callable_height P) n (one_item (word w)) st)
    row_sound w d e i x C own is_word n good st o = (let b = inline_phrase P whole w d e i in row_word_sound P (accepted_program P whole k accepted) w d b.0 e b.1 b.2 i x C own is_word n good st o)

    found_body : (o : Option Sort) → is_body o ≡ true → (t : Phrase) × (o ≡ Some (body t))
    found_body (Some (body t)) h = (t, refl)
    found_body o h = absurd (never_true h)

    -- The top-level phrase, from every state with those k values, at every budget, isn't stuck.
    pub phrase_sound : (st : State Value) (n : ℕ) → Over k [] st.stack → Valid P st.world → EndsSo (λ st'. Unit {0}) (run P fits (callable_height P) n (word_phrase P P.top) st)
    phrase_sound st n o v =
        (let z = found_body (sort_of P P.top) whole.top_phrase in let y = found_word P (slice_get P.words P.top) (body z.0) z.1 in let body_is : word_phrase P P.top ≡ z.0 = phrase_there P.top z.0 z.1 in subst (λ t. EndsSo (λ st'. Unit {0}) (run P fits (callable_height P) n t st)) (sym body_is) (top_sound P (accepted_program P whole k accepted) P.top z.0 k (unmarked_word P whole P.top y.0 z.0 y.1 (subst (λ s. HasPhrase P s z.0) (sym y.2) refl)) (top_accepted P k accepted P.top y.0 z.0 y.1 y.2 (eq-eqb P.top P.top refl)) st n o v))
