-- The primitives do the same with the machine's values as with what they stand for.
use Rattle.std.proofs.Common.{◌≡◌, ℕ, zero, suc, List, [], ◌∷◌, ◌++◌, Bool, true, false, Option, Some, None, refl, ap, sym, subst, ◌∙◌}
use Rattle.std.specs.Prelude.{map, length, nat_eq, set, slice_get}
use Rattle.std.proofs.lemmas.List.{length-map}
use Rattle.std.proofs.lemmas.Option.{slice_get-map}
use Rattle.std.specs.Option.{option_map}
use Rattle.fac_lang.specs.Phrases.{Plain, int, yes, no, str, iota, wrd, arr, tup, Value, plain}
use Rattle.fac_lang.specs.World.{Object, array, tuple, World}
use Rattle.fac_base.specs.declared.limits.TheConstants.{MOST_PAIRS, MOST_PRINTED_LEVELS}
use Rattle.fac_lang.specs.Equality.{plain_eq, Compared, differ, two_callables, further, Equal, equal, not_comparable, pairs_of, compare_lists, compare_objects, compare, equal_pairs}
use Rattle.fac_lang.specs.Printed.{Names, shown_object, shown, printed}
use Rattle.fac_lang.specs.Procedures.{Procedure, leaves, answers, answers_array, answers_tuple, curries, composes, fails, looks, adds, opens, puts, compares, prints, asks, writes, reads, Gives, gives, bad, Fn, fn0, fn1, fn2, fn3, line_in, behind_line, places_from, or_else, picked, repeated, value_at, value_if, array_in, opened, opened_places, with_element, made_or, followed, by_inputs}
use Rattle.fac_lang.specs.Primitives.{Primitive, prim_fn}
use Rattle.fac_lang.specs.Meaning.{meaning_values, seen, curry_of, compose_of}
use Rattle.fac_store.specs.MachineValues.{MValue, m_plain, m_fun, m_seen, m_curry, m_compose, machine_values}
use Rattle.fac_lang.proofs.PickedValues.{map_or, map_picked}
use Rattle.fac_carry.specs.MachineView.{Templates, value_view, values_view, object_view, world_view, option_view, gives_view}

module _ {A B : Type 0} (f : A → B) where
  pub map_more : (xs ys : List A) → map f (xs ++ ys) ≡ map f xs ++ map f ys
  map_more [] ys = refl
  map_more (x ∷ xs) ys = ap (λ (l : List B). f x ∷ l) (map_more xs ys)

  pub map_set : (xs : List A) (k : ℕ) (y : A) → map f (set xs k y) ≡ set (map f xs) k (f y)
  map_set [] k y = refl
  map_set (x ∷ xs) zero y = refl
  map_set (x ∷ xs) (suc k) y = ap (λ (l : List B). f x ∷ l) (map_set xs k y)

  map_repeated : (n : ℕ) (x : A) → map f (repeated n x) ≡ repeated n (f x)
  map_repeated zero x = refl
  map_repeated (suc n) x = ap (λ (l : List B). f x ∷ l) (map_repeated n x)

module _ (T : Templates) where
  abbrev V : MValue → Value
  V = value_view T

  -- two functions that do the same, by the number of values that they take
  abbrev pub Same : Fn MValue → Fn Value → Type 0
  Same (fn0 f) (fn0 g) = (w : World MValue) → g (world_view T w) ≡ gives_view T (f w)
  Same (fn1 f) (fn1 g) = (x : MValue) (w : World MValue) → g (V x) (world_view T w) ≡ gives_view T (f x w)
  Same (fn2 f) (fn2 g) = (x y : MValue) (w : World MValue) → g (V x) (V y) (world_view T w) ≡ gives_view T (f x y w)
  Same (fn3 f) (fn3 g) = (x y z : MValue) (w : World MValue) → g (V x) (V y) (V z) (world_view T w) ≡ gives_view T (f x y z w)
  Same _ _ = ⊥

  pub seen_same : (x : MValue) → seen (V x) ≡ m_seen x
  seen_same (m_plain p) = refl
  seen_same (m_fun c) = refl

  -- printed forms
  map_same : {A B : Type 0} (g : A → B) (f : B → List ℕ) (h : A → List ℕ) → ((x : A) → f (g x) ≡ h x) → (xs : List A) → map f (map g xs) ≡ map h xs
  map_same g f h same [] = refl
  map_same g f h same (x ∷ xs) = rw (same x, map_same g f h same xs) refl

  module _ (N : Names) where
    object_same : (f : Value → List ℕ) (h : MValue → List ℕ) → ((x : MValue) → f (V x) ≡ h x) → (o : Option (Object MValue)) → shown_object meaning_values N f (option_map (object_view T) o) ≡ shown_object machine_values N h o
    object_same f h same None = refl
    object_same f h same (Some (array vs)) = rw (map_same V f h same vs) refl
    object_same f h same (Some (tuple k vs)) = rw (map_same V f h same vs) refl

    -- A value and what it stands for have one printed form.
    pub shown_same : (l : ℕ) (w : World MValue) (x : MValue) → shown meaning_values N l (world_view T w) (V x) ≡ shown machine_values N l w x
    shown_same zero w (m_fun c) = refl
    shown_same zero w (m_plain (int z)) = refl
    shown_same zero w (m_plain yes) = refl
    shown_same zero w (m_plain no) = refl
    shown_same zero w (m_plain (str cs)) = refl
    shown_same zero w (m_plain (iota n)) = refl
    shown_same zero w (m_plain (wrd a)) = refl
    shown_same zero w (m_plain (arr a)) = refl
    shown_same zero w (m_plain (tup a)) = refl
    shown_same (suc l) w (m_fun c) = refl
    shown_same (suc l) w (m_plain (int z)) = refl
    shown_same (suc l) w (m_plain yes) = refl
    shown_same (suc l) w (m_plain no) = refl
    shown_same (suc l) w (m_plain (str cs)) = refl
    shown_same (suc l) w (m_plain (iota n)) = refl
    shown_same (suc l) w (m_plain (wrd a)) = refl
    shown_same (suc l) w (m_plain (arr a)) =
        ap (shown_object meaning_values N (shown meaning_values N l (world_view T w))) (slice_get-map (object_view T) w.objects a) ∙ object_same (shown meaning_values N l (world_view T w)) (shown machine_values N l w) (shown_same l w) (slice_get w.objects a)
    shown_same (suc l) w (m_plain (tup a)) =
        ap (shown_object meaning_values N (shown meaning_values N l (world_view T w))) (slice_get-map (object_view T) w.objects a) ∙ object_same (shown meaning_values N l (world_view T w)) (shown machine_values N l w) (shown_same l w) (slice_get w.objects a)

    -- so the values of a stack have the printed forms of what they stand for
    pub stack_printed : (w : World MValue) (vs : List MValue) → map (printed meaning_values N (world_view T w)) (values_view T vs) ≡ map (printed machine_values N w) vs
    stack_printed w vs = map_same V (printed meaning_values N (world_view T w)) (printed machine_values N w) (shown_same MOST_PRINTED_LEVELS w) vs

  -- values at places
  at_same : (vs : List MValue) (k : ℕ) → value_at meaning_values (map V vs) k ≡ V (value_at machine_values vs k)
  at_same vs k = ap (or_else (plain no)) (slice_get-map V vs k) ∙ sym (map_or V (m_plain no) (slice_get vs k))

  if_same : (vs : List MValue) (o : Option ℕ) → value_if meaning_values (map V vs) o ≡ option_view T (value_if machine_values vs o)
  if_same vs None = refl
  if_same vs (Some k) = ap Some (at_same vs k)

  picked_same : (vs : List MValue) (ks : List ℕ) → picked (plain no) (map V vs) ks ≡ map V (picked (m_plain no) vs ks)
  picked_same vs ks = sym (map_picked V (m_plain no) vs ks)

  plains_same : (ps : List Plain) → map plain ps ≡ map V (map m_plain ps)
  plains_same [] = refl
  plains_same (p ∷ ps) = ap (λ (l : List Value). plain p ∷ l) (plains_same ps)

  added : (vs : List MValue) (ps : List Plain) → map V vs ++ map plain ps ≡ map V (vs ++ map m_plain ps)
  added vs ps = ap (λ (l : List Value). map V vs ++ l) (plains_same ps) ∙ sym (map_more V vs (map m_plain ps))

  -- what `curry` and `compose` make
  curry_same : (x q : MValue) → curry_of (V x) (V q) ≡ option_view T (m_curry x q)
  curry_same x (m_plain p) = refl
  curry_same x (m_fun c) = refl

  compose_same : (p q : MValue) → compose_of (V p) (V q) ≡ option_view T (m_compose p q)
  compose_same (m_plain p) q = refl
  compose_same (m_fun c) (m_plain q) = refl
  compose_same (m_fun c) (m_fun d) = refl

  made_same : (o : Option MValue) (o' : Option Value) (w : World MValue) (g : Gives Value) (f : Gives MValue) → o' ≡ option_view T o → g ≡ gives_view T f → made_or meaning_values o' (world_view T w) g ≡ gives_view T (made_or machine_values o w f)
  made_same None o' w g f e h = rw e h
  made_same (Some c) o' w g f e h = rw e refl

  -- arrays
  array_same : (o : Option (Object MValue)) → array_in meaning_values (option_map (object_view T) o) ≡ option_map (map V) (array_in machine_values o)
  array_same None = refl
  array_same (Some (array vs)) = refl
  array_same (Some (tuple k vs)) = refl

  array_at : (w : World MValue) (a : ℕ) → array_in meaning_values (slice_get (map (object_view T) w.objects) a) ≡ option_map (map V) (array_in machine_values (slice_get w.objects a))
  array_at w a = ap (array_in meaning_values) (slice_get-map (object_view T) w.objects a) ∙ array_same (slice_get w.objects a)

  opened_same : (vs : List MValue) (o : Option (List MValue)) → opened meaning_values (map V vs) (option_map (map V) o) ≡ map V (opened machine_values vs o)
  opened_same vs None = refl
  opened_same vs (Some es) = sym (map_more V vs es)

  places_same : (vs : List MValue) (o : Option (List MValue)) → opened_places meaning_values (length (map V vs)) (option_map (map V) o) ≡ opened_places machine_values (length vs) o
  places_same vs None = refl
  places_same vs (Some es) = rw (length-map vs V, length-map es V) refl

  element_same : (objects : List (Object MValue)) (a i : ℕ) (v : MValue) (o : Option (List MValue)) → with_element meaning_values (map (object_view T) objects) a i (V v) (option_map (map V) o) ≡ map (object_view T) (with_element machine_values objects a i v o)
  element_same objects a i v None = refl
  element_same objects a i v (Some es) = ap (λ (vs : List Value). set (map (object_view T) objects) a (array vs)) (sym (map_set V es i v)) ∙ sym (map_set (object_view T) objects a (array (set es i v)))

  -- comparisons
  abbrev both : MValue × MValue → Value × Value
  both p = (V p.0, V p.1)

  abbrev compared : Compared MValue → Compared Value
  compared differ = differ
  compared two_callables = two_callables
  compared (further ps) = further (map both ps)

  pairs_same : (xs ys : List MValue) → pairs_of meaning_values (map V xs) (map V ys) ≡ map both (pairs_of machine_values xs ys)
  pairs_same [] ys = refl
  pairs_same (x ∷ xs) [] = refl
  pairs_same (x ∷ xs) (y ∷ ys) = ap (λ (l : List (Value × Value)). (V x, V y) ∷ l) (pairs_same xs ys)

  further_if : (b : Bool) (xs ys : List MValue) → ◌≡◌ {A = Compared Value} (elim b [ true ↦ further (pairs_of meaning_values (map V xs) (map V ys)) | false ↦ differ ]) (compared (elim b [ true ↦ further (pairs_of machine_values xs ys) | false ↦ differ ]))
  further_if true xs ys = ap further (pairs_same xs ys)
  further_if false xs ys = refl

  lists_same : (xs ys : List MValue) → compare_lists meaning_values (map V xs) (map V ys) ≡ compared (compare_lists machine_values xs ys)
  lists_same xs ys =
      subst (λ (n : ℕ). ◌≡◌ {A = Compared Value} (elim (nat_eq n (length (map V ys))) [ true ↦ further (pairs_of meaning_values (map V xs) (map V ys)) | false ↦ differ ]) (compared (compare_lists machine_values xs ys))) (sym (length-map xs V)) (subst (λ (m : ℕ). ◌≡◌ {A = Compared Value} (elim (nat_eq (length xs) m) [ true ↦ further (pairs_of meaning_values (map V xs) (map V ys)) | false ↦ differ ]) (compared (compare_lists machine_values xs ys))) (sym (length-map ys V)) (further_if (nat_eq (length xs) (length ys)) xs ys))

  tuples_if : (b : Bool) (xs ys : List MValue) → ◌≡◌ {A = Compared Value} (elim b [ true ↦ compare_lists meaning_values (map V xs) (map V ys) | false ↦ differ ]) (compared (elim b [ true ↦ compare_lists machine_values xs ys | false ↦ differ ]))
  tuples_if true xs ys = lists_same xs ys
  tuples_if false xs ys = refl

  objects_same : (o p : Option (Object MValue)) → compare_objects meaning_values (option_map (object_view T) o) (option_map (object_view T) p) ≡ compared (compare_objects machine_values o p)
  objects_same (Some (array xs)) (Some (array ys)) = lists_same xs ys
  objects_same (Some (tuple j xs)) (Some (tuple k ys)) = tuples_if (nat_eq j k) xs ys
  objects_same (Some (array xs)) (Some (tuple k ys)) = refl
  objects_same (Some (tuple j xs)) (Some (array ys)) = refl
  objects_same (Some (array xs)) None = refl
  objects_same (Some (tuple j xs)) None = refl
  objects_same None p = refl

  addresses_same : (w : World MValue) (a b : ℕ) → compare_objects meaning_values (slice_get (map (object_view T) w.objects) a) (slice_get (map (object_view T) w.objects) b) ≡ compared (compare_objects machine_values (slice_get w.objects a) (slice_get w.objects b))
  addresses_same w a b = rw (slice_get-map (object_view T) w.objects a, slice_get-map (object_view T) w.objects b) (objects_same (slice_get w.objects a) (slice_get w.objects b))

  plain_if : (w : World MValue) (b : Bool) (p q : Plain)
      → ◌≡◌ {A = Compared Value} (elim b [ true ↦ further [] | false ↦ elim p [ arr a ↦ elim q [ arr c ↦ compare_objects meaning_values (slice_get (map (object_view T) w.objects) a) (slice_get (map (object_view T) w.objects) c) | _ ↦ differ ] | tup a ↦ elim q [ tup c ↦ compare_objects meaning_values (slice_get (map (object_view T) w.objects) a) (slice_get (map (object_view T) w.objects) c) | _ ↦ differ ] | _ ↦ differ ] ])
      (compared (elim b [ true ↦ further [] | false ↦ elim p [ arr a ↦ elim q [ arr c ↦ compare_objects machine_values (slice_get w.objects a) (slice_get w.objects c) | _ ↦ differ ] | tup a ↦ elim q [ tup c ↦ compare_objects machine_values (slice_get w.objects a) (slice_get w.objects c) | _ ↦ differ ] | _ ↦ differ ] ]))
  plain_if w true p q = refl
  plain_if w false (arr a) (arr c) = addresses_same w a c
  plain_if w false (tup a) (tup c) = addresses_same w a c
  plain_if w false _ _ = refl

  compare_same : (w : World MValue) (p q : Option Plain) → compare meaning_values (world_view T w) p q ≡ compared (compare machine_values w p q)
  compare_same w None None = refl
  compare_same w None (Some q) = refl
  compare_same w (Some p) None = refl
  compare_same w (Some p) (Some q) = plain_if w (plain_eq p q) p q

  pairs_if : (n : ℕ) (w : World MValue) (c : Compared MValue) (ps : List (MValue × MValue)) → ((qs : List (MValue × MValue)) → equal_pairs meaning_values n (world_view T w) (map both qs) ≡ equal_pairs machine_values n w qs)
      → ◌≡◌ {A = Equal} (elim (compared c) [ differ ↦ equal false | two_callables ↦ not_comparable | further qs ↦ equal_pairs meaning_values n (world_view T w) (qs ++ map both ps) ]) (elim c [ differ ↦ equal false | two_callables ↦ not_comparable | further qs ↦ equal_pairs machine_values n w (qs ++ ps) ])
  pairs_if n w differ ps h = refl
  pairs_if n w two_callables ps h = refl
  pairs_if n w (further qs) ps h = ap (equal_pairs meaning_values n (world_view T w)) (sym (map_more both qs ps)) ∙ h (qs ++ ps)

  equal_same : (n : ℕ) (w : World MValue) (ps : List (MValue × MValue)) → equal_pairs meaning_values n (world_view T w) (map both ps) ≡ equal_pairs machine_values n w ps
  equal_same n w [] = refl
  equal_same zero w (p ∷ ps) = refl
  equal_same (suc n) w (p ∷ ps) =
      let same : compare meaning_values (world_view T w) (seen (V p.0)) (seen (V p.1)) ≡ compared (compare machine_values w (m_seen p.0) (m_seen p.1)) = ap (λ (x : Option Plain). compare meaning_values (world_view T w) x (seen (V p.1))) (seen_same p.0) ∙ ap (λ (y : Option Plain). compare meaning_values (world_view T w) (m_seen p.0) y) (seen_same p.1) ∙ compare_same w (m_seen p.0) (m_seen p.1) in
      subst (λ (c : Compared Value). ◌≡◌ {A = Equal} (elim c [ differ ↦ equal false | two_callables ↦ not_comparable | further qs ↦ equal_pairs meaning_values n (world_view T w) (qs ++ map both ps) ]) (equal_pairs machine_values (suc n) w (p ∷ ps))) (sym same) (pairs_if n w (compare machine_values w (m_seen p.0) (m_seen p.1)) ps (equal_same n w))

  module _ (N : Names) where
    -- A procedure that is followed from values, and from what they stand for.
    followed_same : {o : Option ℕ} (p : Procedure o) (vs : List MValue) (w : World MValue) → followed meaning_values N p (map V vs) (world_view T w) ≡ gives_view T (followed machine_values N p vs w)
    followed_same (leaves ks) vs w = ap (λ (l : List Value). gives l (world_view T w)) (picked_same vs ks)
    followed_same (answers p) vs w = refl
    followed_same (answers_array ks) vs w = rw (length-map w.objects (object_view T), picked_same vs ks, map_more (object_view T) w.objects (array (picked (m_plain no) vs ks) ∷ [])) refl
    followed_same (answers_tuple c n) vs w = rw (length-map w.objects (object_view T), map_more (object_view T) w.objects (tuple c (repeated n (m_plain no)) ∷ []), map_repeated V n (m_plain no)) refl
    followed_same (curries j k p) vs w =
        made_same (m_curry (value_at machine_values vs j) (value_at machine_values vs k)) (curry_of (value_at meaning_values (map V vs) j) (value_at meaning_values (map V vs) k)) w (followed meaning_values N p (map V vs) (world_view T w)) (followed machine_values N p vs w) (rw (at_same vs j, at_same vs k) (curry_same (value_at machine_values vs j) (value_at machine_values vs k))) (followed_same p vs w)
    followed_same (composes j k p) vs w =
        made_same (m_compose (value_at machine_values vs j) (value_at machine_values vs k)) (compose_of (value_at meaning_values (map V vs) j) (value_at meaning_values (map V vs) k)) w (followed meaning_values N p (map V vs) (world_view T w)) (followed machine_values N p vs w) (rw (at_same vs j, at_same vs k) (compose_same (value_at machine_values vs j) (value_at machine_values vs k))) (followed_same p vs w)
    followed_same (fails e k) vs w = ap (λ (o : Option Value). bad e o (world_view T w)) (if_same vs k)
    followed_same (looks k go) vs w = ap (λ (v : Option Plain). followed meaning_values N (go v) (map V vs) (world_view T w)) (ap seen (at_same vs k) ∙ seen_same (value_at machine_values vs k)) ∙ followed_same (go (m_seen (value_at machine_values vs k))) vs w
    followed_same (adds ps go) vs w =
        ap (λ (n : ℕ). followed meaning_values N (go (places_from n (length ps))) (map V vs ++ map plain ps) (world_view T w)) (length-map vs V) ∙ ap (λ (l : List Value). followed meaning_values N (go (places_from (length vs) (length ps))) l (world_view T w)) (added vs ps) ∙ followed_same (go (places_from (length vs) (length ps))) (vs ++ map m_plain ps) w
    followed_same (opens a go) vs w =
        let o = array_in machine_values (slice_get w.objects a) in
        ap (λ (x : Option (List Value)). followed meaning_values N (go (opened_places meaning_values (length (map V vs)) x)) (opened meaning_values (map V vs) x) (world_view T w)) (array_at w a) ∙ ap (λ (x : Option (List ℕ)). followed meaning_values N (go x) (opened meaning_values (map V vs) (option_map (map V) o)) (world_view T w)) (places_same vs o) ∙ ap (λ (l : List Value). followed meaning_values N (go (opened_places machine_values (length vs) o)) l (world_view T w)) (opened_same vs o) ∙ followed_same (go (opened_places machine_values (length vs) o)) (opened machine_values vs o) w
    followed_same (puts a i k p) vs w =
        let o = array_in machine_values (slice_get w.objects a) in
        let v = value_at machine_values vs k in
        ap (λ (objects : List (Object Value)). followed meaning_values N p (map V vs) (record (world_view T w) { objects = objects })) (ap (with_element meaning_values (map (object_view T) w.objects) a i (value_at meaning_values (map V vs) k)) (array_at w a) ∙ ap (λ (x : Value). with_element meaning_values (map (object_view T) w.objects) a i x (option_map (map V) o)) (at_same vs k) ∙ element_same w.objects a i v o) ∙ followed_same p vs (record w { objects = with_element machine_values w.objects a i v o })
    followed_same (compares j k go) vs w =
        let x = value_at machine_values vs j in
        let y = value_at machine_values vs k in
        ap (λ (ps : List (Value × Value)). followed meaning_values N (go (equal_pairs meaning_values MOST_PAIRS (world_view T w) ps)) (map V vs) (world_view T w)) (ap (λ (v : Value). (v, value_at meaning_values (map V vs) k) ∷ []) (at_same vs j) ∙ ap (λ (v : Value). (V x, v) ∷ []) (at_same vs k)) ∙ ap (λ (e : Equal). followed meaning_values N (go e) (map V vs) (world_view T w)) (equal_same MOST_PAIRS w ((x, y) ∷ [])) ∙ followed_same (go (equal_pairs machine_values MOST_PAIRS w ((x, y) ∷ []))) vs w
    followed_same (prints k go) vs w =
        ap (λ (v : Value). followed meaning_values N (go (printed meaning_values N (world_view T w) v)) (map V vs) (world_view T w)) (at_same vs k) ∙ ap (λ (l : List ℕ). followed meaning_values N (go l) (map V vs) (world_view T w)) (shown_same N MOST_PRINTED_LEVELS w (value_at machine_values vs k)) ∙ followed_same (go (printed machine_values N w (value_at machine_values vs k))) vs w
    followed_same (asks a go) vs w = followed_same (go (N.tuple_class a)) vs w
    followed_same (writes bs p) vs w = followed_same p vs (record w { output = w.output ++ bs })
    followed_same (reads go) vs w = followed_same (go (line_in w.input)) vs (record w { input = behind_line w.input; asked = suc w.asked })

    inputs_same : {o : Option ℕ} (n : ℕ) (p : Procedure o) → Same (by_inputs machine_values N n p) (by_inputs meaning_values N n p)
    inputs_same zero p = λ w. followed_same p [] w
    inputs_same (suc zero) p = λ x w. followed_same p (x ∷ []) w
    inputs_same (suc (suc zero)) p = λ x y w. followed_same p (x ∷ y ∷ []) w
    inputs_same (suc (suc (suc n))) p = λ x y z w. followed_same p (x ∷ y ∷ z ∷ []) w

    -- Each primitive does the same.
    pub prim_same : (q : Primitive) → Same (prim_fn machine_values N q) (prim_fn meaning_values N q)
    unfolding prim_fn
    prim_same q = inputs_same (length q.word.ins) q.does
