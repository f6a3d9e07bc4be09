-- The walk through all classes.
use Rattle.std.proofs.Common.{◌≡◌, ◌<◌, ◌≤◌, ◌⊎◌, inl, inr, ℕ, zero, suc, ◌+◌, List, [], ◌∷◌, ◌++◌, map, length, take, get_or, set, Bool, true, false, refl, sym, ap, ◌∙◌, subst, arith}
use Rattle.std.specs.Prelude.{nat_eq, Some, slice_get}
use Rattle.std.specs.List.{range_with_len}
use Rattle.std.proofs.lemmas.List.{append-nil, take_at, take-append-le, get_or-set_other, length-replicate}
use Rattle.std.proofs.Common.{replicate}
use Rattle.std.proofs.lemmas.Bool.{cases_Bool}
use Rattle.fac_lang.specs.declared.program.ClassDef.{ClassDef}
use Rattle.fac_classes.specs.declared.visits.Visit.{Visit}
use Rattle.fac_classes.specs.declared.visits.Visit.TheVariants.{Enter as enter, Leave as leave}
use Rattle.fac_classes.specs.inner.Members.{IsIn, members, ends, AreSound}
use Rattle.fac_classes.specs.inner.Visits.{visited, IsThere, visits_of, Waits, ComesBehind, IsOrder, Walks, total, weight, left_weight, StepsTo}
use Rattle.fac_classes.proofs.ListLemmas.{same_number, itself, not_true, true_of_all}

-- Lists that are put together.
pub in_left : (m : ℕ) (xs ys : List ℕ) → IsIn m xs → IsIn m (xs ++ ys)
in_left m [] ys q = absurd q
in_left m (x ∷ xs) ys (inl e) = inl e
in_left m (x ∷ xs) ys (inr q) = inr (in_left m xs ys q)

pub in_right : (m : ℕ) (xs ys : List ℕ) → IsIn m ys → IsIn m (xs ++ ys)
in_right m [] ys q = q
in_right m (x ∷ xs) ys q = inr (in_right m xs ys q)

pub in_either : (m : ℕ) (xs ys : List ℕ) → IsIn m (xs ++ ys) → IsIn m xs ⊎ IsIn m ys
in_either m [] ys q = inr q
in_either m (x ∷ xs) ys (inl e) = inl (inl e)
in_either m (x ∷ xs) ys (inr q) = elim (in_either m xs ys q) [ inl p ↦ inl (inr p) | inr p ↦ inr p ]

pub in_at : (m : ℕ) (xs : List ℕ) (i : ℕ) → slice_get xs i ≡ Some m → IsIn m xs
in_at m [] i e = absurd cc
in_at m (x ∷ xs) zero e = let same : m ≡ x = cc in inl same
in_at m (x ∷ xs) (suc i) e = inr (in_at m xs i e)

pub in_range : (a n m : ℕ) → a ≤ m → m < a + n → IsIn m (range_with_len a n)
in_range a zero m le lt = absurd (omega (arith, le, lt))
in_range a (suc n) m le lt =
    elim (cases_Bool (nat_eq m a)) [
      | inl e ↦ inl (same_number m a e)
      | inr e ↦ inr (in_range (a + 1) n m (above m a le e) (omega (arith, lt)))
    ]
  where
    above : (m a : ℕ) → a ≤ m → nat_eq m a ≡ false → a + 1 ≤ m
    above m a le e = grind arith

pub range_low : (a n m : ℕ) → IsIn m (range_with_len a n) → m < a + n
range_low a zero m q = absurd q
range_low a (suc n) m (inl e) = omega (arith, e)
range_low a (suc n) m (inr q) = let lt = range_low (a + 1) n m q in omega (arith, lt)

there_left : (m : ℕ) (xs ys : List Visit) → IsThere m xs → IsThere m (xs ++ ys)
there_left m [] ys q = absurd q
there_left m (x ∷ xs) ys (inl e) = inl e
there_left m (x ∷ xs) ys (inr q) = inr (there_left m xs ys q)

there_right : (m : ℕ) (xs ys : List Visit) → IsThere m ys → IsThere m (xs ++ ys)
there_right m [] ys q = q
there_right m (x ∷ xs) ys q = inr (there_right m xs ys q)

there_either : (m : ℕ) (xs ys : List Visit) → IsThere m (xs ++ ys) → IsThere m xs ⊎ IsThere m ys
there_either m [] ys q = inr q
there_either m (x ∷ xs) ys (inl e) = inl (inl e)
there_either m (x ∷ xs) ys (inr q) = elim (there_either m xs ys q) [ inl p ↦ inl (inr p) | inr p ↦ inr p ]

entered : (m : ℕ) (ms : List ℕ) → IsIn m ms → IsThere m (map enter ms)
entered m [] q = absurd q
entered m (x ∷ ms) (inl e) = inl e
entered m (x ∷ ms) (inr q) = inr (entered m ms q)

of_entered : (m : ℕ) (ms : List ℕ) → IsThere m (map enter ms) → IsIn m ms
of_entered m [] q = absurd q
of_entered m (x ∷ ms) (inl e) = inl e
of_entered m (x ∷ ms) (inr q) = inr (of_entered m ms q)

-- The last visits are replaced by others, and classes may be left.
moves : (order next : List ℕ) (vs xs ys : List Visit) (m : ℕ) → ((m : ℕ) → IsIn m order → IsIn m next) → ((m : ℕ) → IsThere m xs → IsIn m next ⊎ IsThere m ys) → IsIn m order ⊎ IsThere m (vs ++ xs) → IsIn m next ⊎ IsThere m (vs ++ ys)
moves order next vs xs ys m more moved (inl p) = inl (more m p)
moves order next vs xs ys m more moved (inr p) =
    elim (there_either m vs xs p) [ inl q ↦ inr (there_left m vs ys q) | inr q ↦ elim (moved m q) [ inl r ↦ inl r | inr r ↦ inr (there_right m vs ys r) ] ]

waits_on : (cs : List ClassDef) (order next : List ℕ) (xs ys : List Visit) → ((m : ℕ) → IsIn m order → IsIn m next) → ((m : ℕ) → IsThere m xs → IsIn m next ⊎ IsThere m ys) → Waits cs next ys → (vs : List Visit) → Waits cs order (vs ++ xs) → Waits cs next (vs ++ ys)
waits_on cs order next xs ys more moved last [] w = last
waits_on cs order next xs ys more moved last (enter c ∷ vs) w = (tt, waits_on cs order next xs ys more moved last vs w.1)
waits_on cs order next xs ys more moved last (leave c ∷ vs) w = ((λ m q. moves order next vs xs ys m more moved (w.0 m q)), waits_on cs order next xs ys more moved last vs w.1)

waits_entered : (cs : List ClassDef) (order ms : List ℕ) → Waits cs order (map enter ms)
waits_entered cs order [] = tt
waits_entered cs order (m ∷ ms) = (tt, waits_entered cs order ms)

waits_last : (cs : List ClassDef) (order : List ℕ) (vs : List Visit) (c m : ℕ) → Waits cs order (vs ++ leave c ∷ []) → IsIn m (members cs c) → IsIn m order
waits_last cs order [] c m w q = elim (w.0 m q) [ inl p ↦ p | inr p ↦ absurd p ]
waits_last cs order (v ∷ vs) c m w q = waits_last cs order vs c m w.1 q

-- What is before a walk gets less.
weights_append : (cs : List ClassDef) (vs xs : List Visit) → left_weight cs (vs ++ xs) ≡ left_weight cs vs + left_weight cs xs
weights_append cs [] xs = omega arith
weights_append cs (v ∷ vs) xs = let e = weights_append cs vs xs in omega (arith, e)

weights_entered : (cs : List ClassDef) (ms : List ℕ) → left_weight cs (map enter ms) ≡ total (λ m. weight (length cs) cs m) ms
weights_entered cs [] = refl
weights_entered cs (m ∷ ms) = ap (λ (n : ℕ). weight (length cs) cs m + n) (weights_entered cs ms)

total_same : (f g : ℕ → ℕ) (ms : List ℕ) → ((m : ℕ) → IsIn m ms → f m ≡ g m) → total f ms ≡ total g ms
total_same f g [] h = refl
total_same f g (m ∷ ms) h = let e = h m (inl refl) in let r = total_same f g ms (λ x q. h x (inr q)) in omega (arith, e, r)

weight_stays : (f g : ℕ) (cs : List ClassDef) (c : ℕ) → f ≤ g → ends f cs c ≡ true → weight f cs c ≡ weight g cs c
weight_stays zero g cs c le h = not_true h
weight_stays (suc f) zero cs c le h = absurd (omega (arith, le))
weight_stays (suc f) (suc g) cs c le h = ap (λ (n : ℕ). 2 + n) (total_same (λ m. weight f cs m) (λ m. weight g cs m) (members cs c) (λ m q. weight_stays f g cs m (omega (arith, le)) (true_of_all (λ x. ends f cs x) (members cs c) m h q)))

enter_weight : (cs : List ClassDef) → AreSound cs → (c : ℕ) → c < length cs → weight (length cs) cs c ≡ 2 + total (λ m. weight (length cs) cs m) (members cs c)
enter_weight [] s c lt = absurd (omega (arith, lt))
enter_weight (d ∷ ds) s c lt =
    ap (λ (n : ℕ). 2 + n) (total_same (λ m. weight (length ds) (d ∷ ds) m) (λ m. weight (suc (length ds)) (d ∷ ds) m) (members (d ∷ ds) c) (λ m q. weight_stays (length ds) (suc (length ds)) (d ∷ ds) m (omega arith) (true_of_all (λ x. ends (length ds) (d ∷ ds) x) (members (d ∷ ds) c) m (s.ending c lt) q)))

last_visit : (c : ℕ) (vs : List Visit) (v : Visit) → c ≡ visited v → IsThere c (vs ++ v ∷ [])
last_visit c vs v e = there_right c vs (v ∷ []) (inl e)

pub visit_low : (cs : List ClassDef) (done : List Bool) (order : List ℕ) (vs : List Visit) (v : Visit) → Walks cs done order (vs ++ v ∷ []) → visited v < length done
visit_low cs done order vs v w = let lt = w.low_visits (visited v) (last_visit (visited v) vs v refl) in omega (arith, lt, w.flags)

-- A class is entered that was left.
pub entered_again : (cs : List ClassDef) → AreSound cs → (done : List Bool) (order : List ℕ) (vs : List Visit) (c : ℕ) → Walks cs done order (vs ++ enter c ∷ []) → get_or done c false ≡ true → StepsTo cs (vs ++ enter c ∷ []) done order vs
entered_again cs sound done order vs c w h = record { walks = walks; less = less }
  where
    gone : (m : ℕ) → IsThere m (enter c ∷ []) → IsIn m order ⊎ IsThere m []
    gone m (inl e) = inl (subst (λ (x : ℕ). IsIn x order) (sym e) (w.known c h))
    gone m (inr q) = absurd q

    walks : Walks cs done order vs
    walks = record {
      flags = w.flags;
      known = w.known;
      low = w.low;
      behind = w.behind;
      low_visits = λ m q. w.low_visits m (there_left m vs (enter c ∷ []) q);
      waits = subst (λ (xs : List Visit). Waits cs order xs) (append-nil vs) (waits_on cs order order (enter c ∷ []) [] (λ m q. q) gone tt vs w.waits);
      left = λ m lt. subst (λ (xs : List Visit). IsIn m order ⊎ IsThere m xs) (append-nil vs) (moves order order vs (enter c ∷ []) [] m (λ x q. q) gone (w.left m lt));
    }

    less : left_weight cs vs < left_weight cs (vs ++ enter c ∷ [])
    less =
        let sum = weights_append cs vs (enter c ∷ []) in
        let one = enter_weight cs sound c (w.low_visits c (last_visit c vs (enter c) refl)) in
        omega (arith, sum, one)

-- A class is entered for the first time.
pub entered_first : (cs : List ClassDef) → AreSound cs → (done : List Bool) (order : List ℕ) (vs now : List Visit) (c : ℕ) → Walks cs done order (vs ++ enter c ∷ []) → now ≡ vs ++ visits_of cs c → StepsTo cs (vs ++ enter c ∷ []) done order now
entered_first cs sound done order vs now c w e = subst (λ (xs : List Visit). StepsTo cs (vs ++ enter c ∷ []) done order xs) (sym e) (record { walks = walks; less = less })
  where
    moved : (m : ℕ) → IsThere m (enter c ∷ []) → IsIn m order ⊎ IsThere m (visits_of cs c)
    moved m (inl e) = inr (inl e)
    moved m (inr q) = absurd q

    low : (m : ℕ) → IsThere m vs ⊎ IsThere m (visits_of cs c) → m < length cs
    low m (inl q) = w.low_visits m (there_left m vs (enter c ∷ []) q)
    low m (inr (inl e)) = w.low_visits m (last_visit m vs (enter c) e)
    low m (inr (inr q)) = sound.member_classes c m (of_entered m (members cs c) q)

    walks : Walks cs done order (vs ++ visits_of cs c)
    walks = record {
      flags = w.flags;
      known = w.known;
      low = w.low;
      behind = w.behind;
      low_visits = λ m q. low m (there_either m vs (visits_of cs c) q);
      waits = waits_on cs order order (enter c ∷ []) (visits_of cs c) (λ m q. q) moved ((λ m q. inr (entered m (members cs c) q)), waits_entered cs order (members cs c)) vs w.waits;
      left = λ m lt. moves order order vs (enter c ∷ []) (visits_of cs c) m (λ x q. q) moved (w.left m lt);
    }

    less : left_weight cs (vs ++ visits_of cs c) < left_weight cs (vs ++ enter c ∷ [])
    less =
        let sum = weights_append cs vs (enter c ∷ []) in
        let new = weights_append cs vs (visits_of cs c) in
        let one = enter_weight cs sound c (w.low_visits c (last_visit c vs (enter c) refl)) in
        let all = weights_entered cs (members cs c) in
        omega (arith, sum, new, one, all)

-- A class is left.
data Where (order : List ℕ) (c i d : ℕ) : Type 0 where
  earlier : i < length order → slice_get order i ≡ Some d → Where order c i d
  last : i ≡ length order → d ≡ c → Where order c i d

split : (order : List ℕ) (c i d : ℕ) → slice_get (order ++ c ∷ []) i ≡ Some d → Where order c i d
split [] c zero d e = let same : d ≡ c = cc in last refl same
split [] c (suc i) d e = absurd cc
split (x ∷ xs) c zero d e = earlier (omega arith) e
split (x ∷ xs) c (suc i) d e = elim (split xs c i d e) [ earlier lt p ↦ earlier (omega (arith, lt)) p | last n s ↦ last (ap suc n) s ]

behind_more : (cs : List ClassDef) (order : List ℕ) (c : ℕ) → ComesBehind cs order → ((m : ℕ) → IsIn m (members cs c) → IsIn m order) → ComesBehind cs (order ++ c ∷ [])
behind_more cs order c behind new i d m e q = by (split order c i d e)
  where
    by : Where order c i d → IsIn m (take i (order ++ c ∷ []))
    by (earlier lt p) = subst (λ (xs : List ℕ). IsIn m xs) (sym (take-append-le i order (c ∷ []) (omega (arith, lt)))) (behind i d m p q)
    by (last n s) = subst (λ (xs : List ℕ). IsIn m xs) (sym (take_at order (c ∷ []) i (sym n))) (new m (subst (λ (x : ℕ). IsIn m (members cs x)) s q))

flag_set : (done : List Bool) (order : List ℕ) (c d : ℕ) → ((m : ℕ) → get_or done m false ≡ true → IsIn m order) → get_or (set done c true) d false ≡ true → IsIn d (order ++ c ∷ [])
flag_set done order c d known h =
    elim (cases_Bool (nat_eq d c)) [
      | inl e ↦ in_right d order (c ∷ []) (inl (same_number d c e))
      | inr e ↦ in_left d order (c ∷ []) (known d (sym (get_or-set_other done c d true false (λ same. not_true (sym e ∙ ap (λ (x : ℕ). nat_eq x c) same ∙ itself c))) ∙ h))
    ]

pub left_now : (cs : List ClassDef) → AreSound cs → (done flags : List Bool) (order now : List ℕ) (vs : List Visit) (c : ℕ) → Walks cs done order (vs ++ leave c ∷ []) → flags ≡ set done c true → length flags ≡ length done → now ≡ order ++ c ∷ [] → StepsTo cs (vs ++ leave c ∷ []) flags now vs
left_now cs sound done flags order now vs c w f n e =
    subst (λ (bs : List Bool). StepsTo cs (vs ++ leave c ∷ []) bs now vs) (sym f) (subst (λ (xs : List ℕ). StepsTo cs (vs ++ leave c ∷ []) (set done c true) xs vs) (sym e) (record { walks = walks; less = less }))
  where
    gone : (m : ℕ) → IsThere m (leave c ∷ []) → IsIn m (order ++ c ∷ []) ⊎ IsThere m []
    gone m (inl e) = inl (in_right m order (c ∷ []) (inl e))
    gone m (inr q) = absurd q

    more : (m : ℕ) → IsIn m order → IsIn m (order ++ c ∷ [])
    more m q = in_left m order (c ∷ []) q

    low : (m : ℕ) → IsIn m order ⊎ IsIn m (c ∷ []) → m < length cs
    low m (inl q) = w.low m q
    low m (inr (inl e)) = w.low_visits m (last_visit m vs (leave c) e)
    low m (inr (inr q)) = absurd q

    walks : Walks cs (set done c true) (order ++ c ∷ []) vs
    walks = record {
      flags = ap length (sym f) ∙ n ∙ w.flags;
      known = λ m h. flag_set done order c m w.known h;
      low = λ m q. low m (in_either m order (c ∷ []) q);
      behind = behind_more cs order c w.behind (λ m q. waits_last cs order vs c m w.waits q);
      low_visits = λ m q. w.low_visits m (there_left m vs (leave c ∷ []) q);
      waits = subst (λ (xs : List Visit). Waits cs (order ++ c ∷ []) xs) (append-nil vs) (waits_on cs order (order ++ c ∷ []) (leave c ∷ []) [] more gone tt vs w.waits);
      left = λ m lt. subst (λ (xs : List Visit). IsIn m (order ++ c ∷ []) ⊎ IsThere m xs) (append-nil vs) (moves order (order ++ c ∷ []) vs (leave c ∷ []) [] m more gone (w.left m lt));
    }

    less : left_weight cs vs < left_weight cs (vs ++ leave c ∷ [])
    less = let sum = weights_append cs vs (leave c ∷ []) in omega (arith, sum)

-- The walk begins with all classes, and ends where nothing is before it.
no_flags : (n c : ℕ) → get_or (replicate n false) c false ≡ true → ⊥
no_flags zero c h = not_true h
no_flags (suc n) zero h = not_true h
no_flags (suc n) (suc c) h = no_flags n c h

waits_begun : (cs : List ClassDef) (xs : List ℕ) → Waits cs [] (map enter xs)
waits_begun cs [] = tt
waits_begun cs (x ∷ xs) = (tt, waits_begun cs xs)

pub walk_begun : (cs : List ClassDef) (done : List Bool) (order : List ℕ) (stack : List Visit) → done ≡ replicate (length cs) false → order ≡ [] → stack ≡ [] ++ map enter (range_with_len 0 (length cs)) → Walks cs done order stack
walk_begun cs done order stack f o e =
    subst (λ (bs : List Bool). Walks cs bs order stack) (sym f) (subst (λ (xs : List ℕ). Walks cs (replicate (length cs) false) xs stack) (sym o) (subst (λ (vs : List Visit). Walks cs (replicate (length cs) false) [] vs) (sym e)
    (record {
      flags = length-replicate (length cs) false;
      known = λ c h. absurd (no_flags (length cs) c h);
      low = λ c q. absurd q;
      behind = λ i c m e q. absurd (let clash : slice_get {X = ℕ} [] i ≡ Some c = e in nothing i c clash);
      low_visits = λ c q. (let lt = range_low 0 (length cs) c (of_entered c (range_with_len 0 (length cs)) q) in omega (arith, lt));
      waits = waits_begun cs (range_with_len 0 (length cs));
      left = λ c lt. inr (entered c (range_with_len 0 (length cs)) (in_range 0 (length cs) c (omega arith) (omega (arith, lt))));
    })))
  where
    nothing : (i c : ℕ) → slice_get {X = ℕ} [] i ≡ Some c → ⊥
    nothing i c e = cc

pub walk_over : (cs : List ClassDef) (done : List Bool) (order : List ℕ) (stack : List Visit) → stack ≡ [] → Walks cs done order stack → IsOrder cs order
walk_over cs done order stack e w =
    record {
      low = w.low;
      behind = w.behind;
      all = λ c lt. elim (subst (λ (vs : List Visit). IsIn c order ⊎ IsThere c vs) e (w.left c lt)) [ inl q ↦ q | inr q ↦ absurd q ];
    }
