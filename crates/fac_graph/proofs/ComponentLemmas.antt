-- Each step of a search along a path keeps what it knows.
use Rattle.std.proofs.Common.{◌≡◌, ◌<◌, ◌≤◌, ◌⊎◌, inl, inr, ℕ, zero, suc, ◌+◌, ◌-◌, List, [], ◌∷◌, ◌++◌, length, get_or, set, take, drop, Bool, true, false, Option, Some, None, refl, sym, ap, ◌∙◌, append_assoc, length-append, length-set, subst, arith}
use Rattle.std.specs.Prelude.{slice_get, nat_eq, nat_lt, ◌||◌}
use Rattle.std.specs.Option.{option_to_list}
use Rattle.std.proofs.lemmas.Bool.{or_right, or_cases}
use Rattle.std.proofs.lemmas.List.{append-nil, length-take-le}
use Rattle.fac_graph.specs.Paths.{one_of, IsOneOf, successors, LeadsTo, by_edge, and_edge}
use Rattle.fac_graph.specs.inner.Components.{IsClosed, Reaches, Decides, is_seen, is_done, standing_or_done, done_at, IsSettled, NoneBetween, Source, Explores, last_of, behind_place, Joins, own_edge, comes_back, all_done, KeepsSeen}
use Rattle.fac_graph.specs.declared.components.VisitState.{VisitState}
use Rattle.fac_graph.specs.declared.components.VisitState.TheVariants.{Unseen, Open, Done}
use Rattle.fac_graph.specs.declared.components.Component.{Component}
use Rattle.fac_graph.proofs.NumberLists.{same_number, in_one, only_one, at_either, some_same, yes_or_no, under, in_front, at_last, at_end, at_part, last_there, set_here, set_other, set_same, set_keeps, set_back, drop_left, drop_right, drop_either, none_left, in_drop, Found, drop_at, take_at, at_take, at_get, there, at_or_behind}
use Rattle.fac_graph.proofs.PathLemmas.{reaches_itself, reaches_on, reaches_both, pair_leads_back}

-- standings
not_unseen : (q : ℕ) → Open q ≡ Unseen → ⊥
not_unseen q e = cc

done_not_unseen : (b : Bool) → Done b ≡ Unseen → ⊥
done_not_unseen b e = cc

done_not_open : (b : Bool) (q : ℕ) → Done b ≡ Open q → ⊥
done_not_open b q e = cc

same_flag : (a b : Bool) → Done a ≡ Done b → a ≡ b
same_flag a b e = cc

same_place : (p q : ℕ) → Open p ≡ Open q → p ≡ q
same_place p q e = cc

not_done : (s : VisitState) → s ≡ Unseen → is_done (Some s) ≡ true → ⊥
not_done s is e = absurd (let clash : false ≡ true = sym (ap (λ (t : VisitState). is_done (Some t)) is) ∙ e in cc)

-- what a node's standing, or that it isn't there, says
pub is_unseen : (o : Option VisitState) (s : VisitState) → s ≡ standing_or_done o → s ≡ Unseen → o ≡ Some Unseen
is_unseen None s e is = absurd (done_not_unseen false (sym e ∙ is))
is_unseen (Some t) s e is = ap Some (sym e ∙ is)

pub is_open : (o : Option VisitState) (s : VisitState) (q : ℕ) → s ≡ standing_or_done o → s ≡ Open q → o ≡ Some (Open q)
is_open None s q e is = absurd (done_not_open false q (sym e ∙ is))
is_open (Some t) s q e is = ap Some (sym e ∙ is)

pub is_over : (o : Option VisitState) (s : VisitState) (b : Bool) → s ≡ standing_or_done o → s ≡ Done b → is_done o ≡ true
is_over None s b e is = refl
is_over (Some t) s b e is = ap (λ (r : VisitState). is_done (Some r)) (sym e ∙ is)

-- two numbers are the same, or not
pub same_or_other : (v w : ℕ) → (v ≡ w) ⊎ (v ≡ w → ⊥)
same_or_other zero zero = inl refl
same_or_other zero (suc w) = inr (λ e. absurd (omega (arith, e)))
same_or_other (suc v) zero = inr (λ e. absurd (omega (arith, e)))
same_or_other (suc v) (suc w) = elim (same_or_other v w) [ inl p ↦ inl (ap suc p) | inr p ↦ inr (λ e. p (omega (arith, e))) ]

pub no_elements : (xs : List Component) → length xs ≤ 0 → xs ≡ []
no_elements [] e = refl
no_elements (x ∷ xs) e = absurd (omega (arith, e))

not_behind : (p q : ℕ) → nat_lt p q ≡ false → q ≤ p
not_behind p q e = grind arith

-- components in their order
in_order_by : (edges : List (List ℕ)) (S : List VisitState) (path : List ℕ) (components : List Component) (pending : List ℕ) → Explores edges S path components pending → (i j : ℕ) (c d : Component) → (i < j) ⊎ (j ≤ i) → i ≤ j → slice_get components i ≡ Some c → slice_get components j ≡ Some d → (c.first ≤ d.first) × (c.pending ≤ d.pending)
in_order_by edges S path components pending h i j c d (inl lt) le ci dj =
    let o = h.ordered i j c d lt ci dj in
    (omega (arith, o.0), o.1)
in_order_by edges S path components pending h i j c d (inr ge) le ci dj =
    let here : i ≡ j = omega (arith, le, ge) in
    let same : c ≡ d = some_same c d (sym ci ∙ ap (slice_get components) here ∙ dj) in
    (subst (λ (x : Component). c.first ≤ x.first) same (omega arith), subst (λ (x : Component). c.pending ≤ x.pending) same (omega arith))

pub in_order : (edges : List (List ℕ)) (S : List VisitState) (path : List ℕ) (components : List Component) (pending : List ℕ) → Explores edges S path components pending → (i j : ℕ) (c d : Component) → i ≤ j → slice_get components i ≡ Some c → slice_get components j ≡ Some d → (c.first ≤ d.first) × (c.pending ≤ d.pending)
in_order edges S path components pending h i j c d le ci dj = in_order_by edges S path components pending h i j c d (at_or_behind j i) le ci dj

-- A node is opened.
module _ (edges : List (List ℕ)) (S : List VisitState) (path : List ℕ) (components : List Component) (pending ws : List ℕ) (w : ℕ) (h : Explores edges S path components (pending ++ ws)) (unseen : slice_get S w ≡ Some Unseen) (only : (v : ℕ) → IsOneOf v ws → v ≡ w) (to_w : (p u : ℕ) → slice_get path p ≡ Some u → Reaches edges u w) (low : (i : ℕ) (c : Component) → slice_get components i ≡ Some c → c.pending ≤ length pending) where
  abbrev n : ℕ
  n = length path

  abbrev new : Component
  new = record { first = length path; pending = length pending }

  abbrev after : List VisitState
  after = set S w (Open n)

  keeps : (v : ℕ) (s : VisitState) → slice_get S v ≡ Some s → (s ≡ Unseen → ⊥) → slice_get after v ≡ Some s
  keeps v s e other = set_keeps S w v Unseen (Open n) s unseen e other

  -- a node that is done is another one
  not_w : (v : ℕ) → done_at S v ≡ true → v ≡ w → ⊥
  not_w v e same = not_done Unseen refl (sym (ap is_done (ap (slice_get S) same ∙ unseen)) ∙ e)

  keeps_done : (v : ℕ) → done_at S v ≡ true → done_at after v ≡ true
  keeps_done v e = ap is_done (set_other S w v (Open n) (not_w v e)) ∙ e

  was_done : (v : ℕ) (b : Bool) → slice_get after v ≡ Some (Done b) → slice_get S v ≡ Some (Done b)
  was_done v b e = elim (set_back S w v (Open n) (Done b) e) [ inl p ↦ absurd (done_not_open b n p.1) | inr p ↦ p ]

  opened_open : (v q : ℕ) → slice_get after v ≡ Some (Open q) → slice_get (path ++ w ∷ []) q ≡ Some v
  opened_open v q e = elim (set_back S w v (Open n) (Open q) e) [
    | inl p ↦ ap (slice_get (path ++ w ∷ [])) (same_place q n p.1) ∙ at_last path w ∙ ap Some (sym p.0)
    | inr p ↦ in_front path (w ∷ []) q v (h.open_is v q p)
  ]

  opened_path : (q v : ℕ) → slice_get (path ++ w ∷ []) q ≡ Some v → slice_get after v ≡ Some (Open q)
  opened_path q v e = elim (at_end path w q v e) [
    | inl p ↦ keeps v (Open q) (h.path_is q v p) (not_unseen q)
    | inr p ↦ ap (slice_get after) p.1 ∙ set_here S w Unseen (Open n) unseen ∙ ap (λ (k : ℕ). Some (Open k)) (sym p.0)
  ]

  back_done : (v : ℕ) → (v ≡ w) ⊎ (v ≡ w → ⊥) → done_at after v ≡ true → done_at S v ≡ true
  back_done v (inl same) e = absurd (let clash : false ≡ true = sym (ap is_done (ap (slice_get after) same ∙ set_here S w Unseen (Open n) unseen)) ∙ e in cc)
  back_done v (inr other) e = sym (ap is_done (set_other S w v (Open n) other)) ∙ e

  opened_finished : IsClosed edges (done_at after)
  opened_finished u v d e = keeps_done v (h.finished u v (back_done u (same_or_other u w) d) e)

  pends_w : (t v : ℕ) → IsOneOf v (drop t (pending ++ ws)) → IsOneOf v (drop t (pending ++ successors edges w)) ⊎ (v ≡ w)
  pends_w t v e = elim (drop_either t v pending ws e) [ inl p ↦ inl (drop_left t v pending (successors edges w) p) | inr p ↦ inr (only v p) ]

  here_open : slice_get after w ≡ Some (Open n)
  here_open = set_here S w Unseen (Open n) unseen

  widen : (first t v : ℕ) → first ≤ n → IsSettled S (pending ++ ws) first t v → IsSettled after (pending ++ successors edges w) first t v
  widen first t v le (inl p) = inl (keeps_done v p)
  widen first t v le (inr (inl p)) = inr (inl (p.0, keeps v (Open p.0) p.1 (not_unseen p.0), p.2))
  widen first t v le (inr (inr p)) = elim (pends_w t v p) [ inl q ↦ inr (inr q) | inr q ↦ inr (inl (n, ap (slice_get after) q ∙ here_open, le)) ]

  opened_settled : (i p u v : ℕ) (c : Component) → (slice_get components i ≡ Some c) ⊎ ((i ≡ length components) × (c ≡ new)) → (slice_get path p ≡ Some u) ⊎ ((p ≡ n) × (u ≡ w)) → c.first ≤ p → IsOneOf v (successors edges u) → IsSettled after (pending ++ successors edges w) c.first c.pending v
  opened_settled i p u v c (inl ci) (inl pu) le e = widen c.first c.pending v (omega (arith, (h.inside i c ci).0)) (h.settled i p u v c ci pu le e)
  opened_settled i p u v c (inr ci) (inl pu) le e =
      let first : c.first ≡ n = ap (λ (d : Component). d.first) ci.1 in
      absurd (omega (arith, first, le, under path p u pu))
  opened_settled i p u v c (inl ci) (inr pu) le e = inr (inr (drop_right c.pending v pending (successors edges w) (low i c ci) (subst (λ (x : ℕ). IsOneOf v (successors edges x)) pu.1 e)))
  opened_settled i p u v c (inr ci) (inr pu) le e =
      let number : c.pending ≡ length pending = ap (λ (d : Component). d.pending) ci.1 in
      inr (inr (drop_right c.pending v pending (successors edges w) (omega (arith, number)) (subst (λ (x : ℕ). IsOneOf v (successors edges x)) pu.1 e)))

  opened_leads : (p q u v : ℕ) → (slice_get path p ≡ Some u) ⊎ ((p ≡ n) × (u ≡ w)) → (slice_get path q ≡ Some v) ⊎ ((q ≡ n) × (v ≡ w)) → NoneBetween (components ++ new ∷ []) q p → Reaches edges u v
  opened_leads p q u v (inl pu) (inl qv) none = h.reaches p q u v pu qv (λ i c ci le. none i c (in_front components (new ∷ []) i c ci) le)
  opened_leads p q u v (inl pu) (inr qv) none = subst (λ (x : ℕ). Reaches edges u x) (sym qv.1) (to_w p u pu)
  opened_leads p q u v (inr pu) (inl qv) none =
      let le : n ≤ q = none (length components) new (at_last components new) (omega (arith, pu.0)) in
      absurd (omega (arith, le, under path q v qv))
  opened_leads p q u v (inr pu) (inr qv) none = subst (λ (x : ℕ). Reaches edges u x) (pu.1 ∙ sym qv.1) (reaches_itself edges u)

  old_source : (k v : ℕ) → k < length pending → Source edges path components k v → Source edges (path ++ w ∷ []) (components ++ new ∷ []) k v
  old_source k v lt s = record {
    at = s.at;
    node = s.node;
    is = in_front path (w ∷ []) s.at s.node s.is;
    edge = s.edge;
    behind = λ i c ci le. elim (at_end components new i c ci) [ inl p ↦ s.behind i c p le | inr p ↦ absurd (let number : c.pending ≡ length pending = ap (λ (d : Component). d.pending) p.1 in omega (arith, number, le, lt)) ];
    before = λ i c ci below. elim (at_end components new i c ci) [ inl p ↦ s.before i c p below | inr p ↦ let first : c.first ≡ n = ap (λ (d : Component). d.first) p.1 in omega (arith, first, under path s.at s.node s.is) ];
  }

  new_source : (k v : ℕ) → length pending ≤ k → IsOneOf v (successors edges w) → Source edges (path ++ w ∷ []) (components ++ new ∷ []) k v
  new_source k v ge e = record {
    at = n;
    node = w;
    is = at_last path w;
    edge = e;
    behind = λ i c ci le. elim (at_end components new i c ci) [ inl p ↦ omega (arith, (h.inside i c p).0) | inr p ↦ let first : c.first ≡ n = ap (λ (d : Component). d.first) p.1 in omega (arith, first) ];
    before = λ i c ci below. elim (at_end components new i c ci) [ inl p ↦ absurd (omega (arith, low i c p, below, ge)) | inr p ↦ absurd (let number : c.pending ≡ length pending = ap (λ (d : Component). d.pending) p.1 in omega (arith, number, below, ge)) ];
  }

  opened_sources : (k v : ℕ) → slice_get (pending ++ successors edges w) k ≡ Some v → Source edges (path ++ w ∷ []) (components ++ new ∷ []) k v
  opened_sources k v e = elim (at_either pending (successors edges w) k v e) [ inl p ↦ old_source k v (under pending k v p) (h.sources k v (in_front pending ws k v p)) | inr p ↦ new_source k v p.0 p.1 ]

  opened_ordered : (i j : ℕ) (c d : Component) → i < j → (slice_get components i ≡ Some c) ⊎ ((i ≡ length components) × (c ≡ new)) → (slice_get components j ≡ Some d) ⊎ ((j ≡ length components) × (d ≡ new)) → (c.first < d.first) × (c.pending ≤ d.pending)
  opened_ordered i j c d lt (inl ci) (inl dj) = h.ordered i j c d lt ci dj
  opened_ordered i j c d lt (inl ci) (inr dj) =
      let first : d.first ≡ n = ap (λ (x : Component). x.first) dj.1 in
      let number : d.pending ≡ length pending = ap (λ (x : Component). x.pending) dj.1 in
      (omega (arith, first, (h.inside i c ci).0), omega (arith, number, low i c ci))
  opened_ordered i j c d lt (inr ci) (inl dj) = absurd (omega (arith, ci.0, lt, under components j d dj))
  opened_ordered i j c d lt (inr ci) (inr dj) = absurd (omega (arith, ci.0, lt, dj.0))

  opened_inside : (i : ℕ) (c : Component) → (slice_get components i ≡ Some c) ⊎ ((i ≡ length components) × (c ≡ new)) → (c.first < length (path ++ w ∷ [])) × (c.pending ≤ length (pending ++ successors edges w))
  opened_inside i c (inl ci) = (omega (arith, (h.inside i c ci).0, length-append path (w ∷ [])), omega (arith, low i c ci, length-append pending (successors edges w)))
  opened_inside i c (inr ci) =
      let first : c.first ≡ n = ap (λ (x : Component). x.first) ci.1 in
      let number : c.pending ≡ length pending = ap (λ (x : Component). x.pending) ci.1 in
      (omega (arith, first, length-append path (w ∷ [])), omega (arith, number, length-append pending (successors edges w)))

  opened_begins : (c : Component) → (slice_get components 0 ≡ Some c) ⊎ ((0 ≡ length components) × (c ≡ new)) → c.first ≡ 0
  opened_begins c (inl ci) = h.begins c ci
  opened_begins c (inr ci) = ap (λ (x : Component). x.first) ci.1 ∙ ap length (h.ends (no_elements components (omega (arith, ci.0))))

  pub opened : Explores edges after (path ++ w ∷ []) (components ++ new ∷ []) (pending ++ successors edges w)
  opened = record {
    counted = length-set S w (Open n) ∙ h.counted;
    open_is = opened_open;
    path_is = opened_path;
    finished = opened_finished;
    decided = λ v b e. h.decided v b (was_done v b e);
    settled = λ i p u v c ci pu le e. opened_settled i p u v c (at_end components new i c ci) (at_end path w p u pu) le e;
    reaches = λ p q u v pu qv none. opened_leads p q u v (at_end path w p u pu) (at_end path w q v qv) none;
    sources = opened_sources;
    ordered = λ i j c d lt ci dj. opened_ordered i j c d lt (at_end components new i c ci) (at_end components new j d dj);
    inside = λ i c ci. opened_inside i c (at_end components new i c ci);
    begins = λ c ci. opened_begins c (at_end components new 0 c ci);
    ends = λ e. absurd (omega (arith, ap length e, length-append components (new ∷ [])));
  }

  pub opened_seen : KeepsSeen S after
  opened_seen v e = seen_by (same_or_other v w)
    where
      seen_by : (v ≡ w) ⊎ (v ≡ w → ⊥) → is_seen (slice_get after v) ≡ true
      seen_by (inl same) = ap is_seen (ap (slice_get after) same ∙ here_open)
      seen_by (inr other) = ap is_seen (set_other S w v (Open n) other) ∙ e

-- A node that was pending is followed: from the end of what is pending.
module _ (edges : List (List ℕ)) (S : List VisitState) (path : List ℕ) (all : List Component) (pending : List ℕ) (w : ℕ) (h : Explores edges S path all (pending ++ w ∷ [])) (low : (i : ℕ) (c : Component) → slice_get all i ≡ Some c → c.pending ≤ length pending) where
  -- all nodes of the path lead to it
  pub leads_to : (p u : ℕ) → slice_get path p ≡ Some u → Reaches edges u w
  leads_to p u pu =
      let s = h.sources (length pending) w (at_last pending w) in
      reaches_on edges u s.node w (h.reaches p s.at u s.node pu s.is (λ i c ci le. s.behind i c ci (low i c ci))) s.edge

  less_settled : (first t v : ℕ) → IsSettled S pending first t w → IsSettled S (pending ++ w ∷ []) first t v → IsSettled S pending first t v
  less_settled first t v w_is (inl p) = inl p
  less_settled first t v w_is (inr (inl p)) = inr (inl p)
  less_settled first t v w_is (inr (inr p)) = elim (drop_either t v pending (w ∷ []) p) [ inl q ↦ inr (inr q) | inr q ↦ subst (λ (x : ℕ). IsSettled S pending first t x) (sym (only_one v w q)) w_is ]

  -- with fewer components
  module _ (kept joined : List Component) (whole : all ≡ kept ++ joined) where
    sub : (i : ℕ) (c : Component) → slice_get kept i ≡ Some c → slice_get all i ≡ Some c
    sub i c ci = ap (λ (xs : List Component). slice_get xs i) whole ∙ in_front kept joined i c ci

    followed : ((i : ℕ) (c : Component) → slice_get kept i ≡ Some c → IsSettled S pending c.first c.pending w) → ((p q u v : ℕ) → slice_get path p ≡ Some u → slice_get path q ≡ Some v → NoneBetween kept q p → Reaches edges u v) → (kept ≡ [] → path ≡ []) → Explores edges S path kept pending
    followed w_settled leads ends = record {
      counted = h.counted;
      open_is = h.open_is;
      path_is = h.path_is;
      finished = h.finished;
      decided = h.decided;
      settled = λ i p u v c ci pu le n. less_settled c.first c.pending v (w_settled i c ci) (h.settled i p u v c (sub i c ci) pu le n);
      reaches = leads;
      sources = λ k v at. (let s : Source edges path all k v = h.sources k v (in_front pending (w ∷ []) k v at) in record { at = s.at; node = s.node; is = s.is; edge = s.edge; behind = λ i c ci. s.behind i c (sub i c ci); before = λ i c ci. s.before i c (sub i c ci) });
      ordered = λ i j c d lt ci dj. h.ordered i j c d lt (sub i c ci) (sub j d dj);
      inside = λ i c ci. ((h.inside i c (sub i c ci)).0, low i c (sub i c ci));
      begins = λ c ci. h.begins c (sub 0 c ci);
      ends = ends;
    }

  -- one that is done
  pub followed_done : done_at S w ≡ true → Explores edges S path all pending
  followed_done e = followed all [] (sym (append-nil all)) (λ i c ci. inl e) h.reaches h.ends

  -- one that is at this place of the path
  module _ (place : ℕ) (is_open_at : slice_get S w ≡ Some (Open place)) (kept : List Component) (j : Joins place all kept) where
    part : (i : ℕ) (c : Component) → slice_get all i ≡ Some c → (slice_get kept i ≡ Some c) ⊎ (place < c.first)
    part i c ci = elim (at_part kept j.joined i c (sym (ap (λ (xs : List Component). slice_get xs i) j.whole) ∙ ci)) [ inl p ↦ inl p | inr p ↦ inr (j.behind p.0 c p.2) ]

    kept_low : (i : ℕ) (c : Component) → slice_get kept i ≡ Some c → c.first ≤ place
    kept_low i c ci =
        let lt = under kept i c ci in
        let last = there kept (length kept - 1) (omega (arith, lt)) in
        let same : behind_place place (last_of kept) ≡ nat_lt place (last.0).first = ap (behind_place place) last.1 in
        let le = not_behind place (last.0).first (sym same ∙ j.kept) in
        omega (arith, le, (in_order edges S path all (pending ++ w ∷ []) h i (length kept - 1) c last.0 (omega (arith, lt)) (sub kept j.joined j.whole i c ci) (sub kept j.joined j.whole (length kept - 1) last.0 last.1)).0)

    joined_leads : (p q u v : ℕ) → slice_get path p ≡ Some u → slice_get path q ≡ Some v → NoneBetween kept q p → (place < p) ⊎ (p ≤ place) → Reaches edges u v
    joined_leads p q u v pu qv none (inr le) = h.reaches p q u v pu qv (λ i c ci lf. elim (part i c ci) [ inl k ↦ none i c k lf | inr k ↦ absurd (omega (arith, k, lf, le)) ])
    joined_leads p q u v pu qv none (inl lt) = reaches_both edges u w v (leads_to p u pu) (h.reaches place q w v (h.open_is w place is_open_at) qv (λ i c ci lf. elim (part i c ci) [ inl k ↦ none i c k (omega (arith, lf, lt)) | inr k ↦ absurd (omega (arith, k, lf)) ]))

    joined_ends : kept ≡ [] → (0 < length all) ⊎ (length all ≤ 0) → path ≡ []
    joined_ends none (inr le) = h.ends (no_elements all le)
    joined_ends none (inl lt) =
        let first = there all 0 lt in
        let start : (first.0).first ≡ 0 = h.begins first.0 first.1 in
        elim (part 0 first.0 first.1) [ inl k ↦ absurd (let lost : slice_get [] 0 ≡ Some first.0 = sym (ap (λ (xs : List Component). slice_get xs 0) none) ∙ k in cc) | inr k ↦ absurd (omega (arith, start, k)) ]

    pub followed_open : Explores edges S path kept pending
    followed_open = followed kept j.joined j.whole (λ i c ci. inr (inl (place, is_open_at, kept_low i c ci))) (λ p q u v pu qv none. joined_leads p q u v pu qv none (at_or_behind p place)) (λ none. joined_ends none (at_or_behind (length all) 0))

-- nodes that are done
done_length : (b : Bool) (ws : List ℕ) (S : List VisitState) → length (all_done b ws S) ≡ length S
done_length b [] S = refl
done_length b (w ∷ ws) S = done_length b ws (set S w (Done b)) ∙ length-set S w (Done b)

done_stays : (b : Bool) (ws : List ℕ) (S : List VisitState) (v : ℕ) → slice_get S v ≡ Some (Done b) → slice_get (all_done b ws S) v ≡ Some (Done b)
done_stays b [] S v e = e
done_stays b (w ∷ ws) S v e = done_stays b ws (set S w (Done b)) v (set_same S w v (Done b) e)

done_here : (b : Bool) (ws : List ℕ) (S : List VisitState) (v : ℕ) → v < length S → IsOneOf v ws → slice_get (all_done b ws S) v ≡ Some (Done b)
done_here b [] S v lt h = absurd cc
done_here b (w ∷ ws) S v lt h = elim (or_cases (nat_eq v w) (one_of v ws) h) [
  | inl p ↦ let found = there S v lt in let here = set_here S v found.0 (Done b) found.1 in done_stays b ws (set S w (Done b)) v (ap (λ (k : ℕ). slice_get (set S k (Done b)) v) (sym (same_number v w p)) ∙ here)
  | inr p ↦ done_here b ws (set S w (Done b)) v (omega (arith, lt, length-set S w (Done b))) p
]

done_other : (b : Bool) (ws : List ℕ) (S : List VisitState) (v : ℕ) → (IsOneOf v ws → ⊥) → slice_get (all_done b ws S) v ≡ slice_get S v
done_other b [] S v other = refl
done_other b (w ∷ ws) S v other =
    done_other b ws (set S w (Done b)) v (λ h. other (or_right (nat_eq v w) (one_of v ws) h)) ∙ set_other S w v (Done b) (λ same. other (subst (λ (x : ℕ). IsOneOf v (x ∷ ws)) same (in_one v ws)))

-- The last component is closed.
module _ (edges : List (List ℕ)) (S : List VisitState) (path : List ℕ) (components : List Component) (top : Component) (pending : List ℕ) (h : Explores edges S path (components ++ top ∷ []) pending) (few : length pending ≤ top.pending) where
  abbrev start : ℕ
  start = top.first

  abbrev closing : List ℕ
  closing = drop start path

  top_at : slice_get (components ++ top ∷ []) (length components) ≡ Some top
  top_at = at_last components top

  start_low : start < length path
  start_low = (h.inside (length components) top top_at).0

  before_start : (i : ℕ) (c : Component) → slice_get (components ++ top ∷ []) i ≡ Some c → c.first ≤ start
  before_start i c ci = (in_order edges S path (components ++ top ∷ []) pending h i (length components) c top (let lt = under (components ++ top ∷ []) i c ci in omega (arith, lt, length-append components (top ∷ []))) ci top_at).0

  none_between : (p q : ℕ) → start ≤ q → NoneBetween (components ++ top ∷ []) q p
  none_between p q le i c ci lf =
      let low = before_start i c ci in
      omega (arith, low, le)

  settled_target : (v : ℕ) → IsSettled S pending start top.pending v → (done_at S v ≡ true) ⊎ Found start v path
  settled_target v (inl p) = inl p
  settled_target v (inr (inl p)) = inr (record { place = p.0; from = p.2; is = h.open_is v p.0 p.1 })
  settled_target v (inr (inr p)) = absurd (none_left top.pending v pending few p)

  -- its words lead to themselves and to nodes that are done
  target : (p u v : ℕ) → slice_get path p ≡ Some u → start ≤ p → IsOneOf v (successors edges u) → (done_at S v ≡ true) ⊎ Found start v path
  target p u v pu le e = settled_target v (h.settled (length components) p u v top top_at pu le e)

  one_place : (p q u v : ℕ) → slice_get path p ≡ Some u → slice_get path q ≡ Some v → v ≡ u → p ≡ q
  one_place p q u v pu qv same = same_place p q (some_same (Open p) (Open q) (sym (h.path_is p u pu) ∙ ap (slice_get S) (sym same) ∙ h.path_is q v qv))

  other_leads : (p q u : ℕ) → slice_get path p ≡ Some u → start ≤ p → start ≤ q → q < length path → (p ≡ q → ⊥) → LeadsTo edges u u
  other_leads p q u pu le ge lt other =
      let found = there path q lt in
      pair_leads_back edges u found.0 (λ same. other (one_place p q u found.0 pu found.1 same)) (h.reaches p q u found.0 pu found.1 (none_between p q ge)) (h.reaches q p found.0 u found.1 pu (none_between q p le))

  several : (p u : ℕ) → slice_get path p ≡ Some u → start ≤ p → start + 1 < length path → (start < p) ⊎ (p ≤ start) → LeadsTo edges u u
  several p u pu le more (inl lt) = other_leads p start u pu le (omega arith) start_low (λ same. absurd (omega (arith, same, lt)))
  several p u pu le more (inr ge) = other_leads p (start + 1) u pu le (omega arith) more (λ same. absurd (omega (arith, same, ge)))

  -- alone and without an edge to itself, it leads to nodes that are done
  alone_edge : (u v : ℕ) → slice_get path start ≡ Some u → length path ≤ start + 1 → one_of u (successors edges u) ≡ false → IsOneOf v (successors edges u) → done_at S v ≡ true
  alone_edge u v at few_nodes none e = elim (target start u v at (omega arith) e) [
    | inl p ↦ p
    | inr p ↦ absurd (let low = under path p.place v p.is in let here : start ≡ p.place = omega (arith, low, few_nodes, p.from) in let same : v ≡ u = some_same v u (sym p.is ∙ ap (slice_get path) (sym here) ∙ at) in let own : one_of u (successors edges u) ≡ true = subst (λ (x : ℕ). IsOneOf x (successors edges u)) same e in let clash : true ≡ false = sym own ∙ none in cc)
  ]

  alone_leads : (u v : ℕ) → slice_get path start ≡ Some u → length path ≤ start + 1 → one_of u (successors edges u) ≡ false → LeadsTo edges u v → done_at S v ≡ true
  alone_leads u v at few_nodes none (by_edge e) = alone_edge u v at few_nodes none e
  alone_leads u w at few_nodes none (and_edge v p e) = h.finished v w (alone_leads u v at few_nodes none p) e

  alone : (u : ℕ) (b : Bool) → slice_get path start ≡ Some u → length path ≤ start + 1 → one_of u (successors edges u) ≡ b → Decides edges u b
  alone u true at few_nodes own = (λ e. by_edge own, λ p. refl)
  alone u false at few_nodes own = (λ e. absurd (let clash : false ≡ true = e in cc), λ p. absurd (let clash : false ≡ true = sym (ap is_done (h.path_is start u at)) ∙ alone_leads u u at few_nodes own p in cc))

  many_or_one : (n : ℕ) (b : Bool) (m : Bool) (o : Bool) → nat_lt 1 (n - start) ≡ m → (m || o) ≡ b → start < n → ((b ≡ true) × (start + 1 < n)) ⊎ ((o ≡ b) × (n ≤ start + 1))
  many_or_one n b true o me e lt = inl (sym e, many start n me)
    where
      many : (s n : ℕ) → nat_lt 1 (n - s) ≡ true → s + 1 < n
      many s n e = grind arith
  many_or_one n b false o me e lt = inr (e, few_of start n me)
    where
      few_of : (s n : ℕ) → nat_lt 1 (n - s) ≡ false → n ≤ s + 1
      few_of s n e = grind arith

  decides_by : (p u : ℕ) (b : Bool) → slice_get path p ≡ Some u → start ≤ p → ((b ≡ true) × (start + 1 < length path)) ⊎ ((own_edge edges (slice_get path start) ≡ b) × (length path ≤ start + 1)) → Decides edges u b
  decides_by p u b pu le (inl more) = (λ e. several p u pu le more.1 (at_or_behind p start), λ q. more.0)
  decides_by p u b pu le (inr one) =
      let low = under path p u pu in
      let here : p ≡ start = omega (arith, low, one.1, le) in
      let at : slice_get path start ≡ Some u = ap (slice_get path) (sym here) ∙ pu in
      alone u b at one.1 (sym (ap (own_edge edges) at) ∙ one.0)

  closing_decides : (p u : ℕ) → slice_get path p ≡ Some u → start ≤ p → Decides edges u (comes_back edges path start)
  closing_decides p u pu le = decides_by p u (comes_back edges path start) pu le (many_or_one (length path) (comes_back edges path start) (nat_lt 1 (length path - start)) (own_edge edges (slice_get path start)) refl refl start_low)

  abbrev closed_standings : List VisitState
  closed_standings = all_done (comes_back edges path start) closing S

  in_closing : (p u : ℕ) → slice_get path p ≡ Some u → start ≤ p → IsOneOf u closing
  in_closing p u pu le = in_drop start p u path pu le

  not_closing : (p u : ℕ) → slice_get path p ≡ Some u → p < start → IsOneOf u closing → ⊥
  not_closing p u pu lt e =
      let f = drop_at start u path e in
      let same : p ≡ f.place = one_place p f.place u u pu f.is refl in
      absurd (omega (arith, same, lt, f.from))

  closes_one : (v : ℕ) → IsOneOf v closing → slice_get closed_standings v ≡ Some (Done (comes_back edges path start))
  closes_one v e =
      let f = drop_at start v path e in
      done_here (comes_back edges path start) closing S v (under S v (Open f.place) (h.path_is f.place v f.is)) e

  keeps_other : (v : ℕ) → (IsOneOf v closing → ⊥) → slice_get closed_standings v ≡ slice_get S v
  keeps_other v other = done_other (comes_back edges path start) closing S v other

  closed_done : (v : ℕ) → (IsOneOf v closing) ⊎ (IsOneOf v closing → ⊥) → done_at S v ≡ true → done_at closed_standings v ≡ true
  closed_done v (inl e) d = ap is_done (closes_one v e)
  closed_done v (inr other) d = ap is_done (keeps_other v other) ∙ d

  one_or_other : (v : ℕ) → (IsOneOf v closing) ⊎ (IsOneOf v closing → ⊥)
  one_or_other v = yes_or_no (one_of v closing)

  closed_open : (v q : ℕ) → (IsOneOf v closing) ⊎ (IsOneOf v closing → ⊥) → slice_get closed_standings v ≡ Some (Open q) → (slice_get S v ≡ Some (Open q)) × (slice_get (take start path) q ≡ Some v)
  closed_open v q (inl e) at = absurd (done_not_open (comes_back edges path start) q (some_same _ _ (sym (closes_one v e) ∙ at)))
  closed_open v q (inr other) at =
      let before : slice_get S v ≡ Some (Open q) = sym (keeps_other v other) ∙ at in
      let place_is = h.open_is v q before in
      (before, at_take start q v path place_is (elim (at_or_behind start q) [ inl lt ↦ lt | inr le ↦ absurd (other (in_closing q v place_is le)) ]))

  closed_path : (q v : ℕ) → (q < start) × (slice_get path q ≡ Some v) → slice_get closed_standings v ≡ Some (Open q)
  closed_path q v found = keeps_other v (not_closing q v found.1 found.0) ∙ h.path_is q v found.1

  closed_target : (v : ℕ) → (done_at S v ≡ true) ⊎ Found start v path → done_at closed_standings v ≡ true
  closed_target v (inl d) = closed_done v (one_or_other v) d
  closed_target v (inr f) = ap is_done (closes_one v (in_closing f.place v f.is f.from))

  closed_finished : (u v : ℕ) → (IsOneOf u closing) ⊎ (IsOneOf u closing → ⊥) → done_at closed_standings u ≡ true → IsOneOf v (successors edges u) → done_at closed_standings v ≡ true
  closed_finished u v (inl c) d e =
      let f = drop_at start u path c in
      closed_target v (target f.place u v f.is f.from e)
  closed_finished u v (inr other) d e = closed_done v (one_or_other v) (h.finished u v (sym (ap is_done (keeps_other u other)) ∙ d) e)

  closed_decided : (v : ℕ) (b : Bool) → (IsOneOf v closing) ⊎ (IsOneOf v closing → ⊥) → slice_get closed_standings v ≡ Some (Done b) → Decides edges v b
  closed_decided v b (inl c) at =
      let f = drop_at start v path c in
      subst (λ (x : Bool). Decides edges v x) (same_flag _ _ (some_same _ _ (sym (closes_one v c) ∙ at))) (closing_decides f.place v f.is f.from)
  closed_decided v b (inr other) at = h.decided v b (sym (keeps_other v other) ∙ at)

  closed_settled : (first t v : ℕ) → first ≤ start → IsSettled S pending first t v → IsSettled closed_standings pending first t v
  closed_settled first t v le (inl d) = inl (closed_done v (one_or_other v) d)
  closed_settled first t v le (inr (inl p)) = elim (at_or_behind start p.0) [
    | inl lt ↦ inr (inl (p.0, closed_path p.0 v (lt, h.open_is v p.0 p.1), p.2))
    | inr ge ↦ inl (ap is_done (closes_one v (in_closing p.0 v (h.open_is v p.0 p.1) ge)))
  ]
  closed_settled first t v le (inr (inr p)) = inr (inr p)

  lower : (i : ℕ) (c : Component) → slice_get components i ≡ Some c → slice_get (components ++ top ∷ []) i ≡ Some c
  lower i c ci = in_front components (top ∷ []) i c ci

  lower_leads : (p q u v : ℕ) → (p < start) × (slice_get path p ≡ Some u) → (q < start) × (slice_get path q ≡ Some v) → NoneBetween components q p → Reaches edges u v
  lower_leads p q u v pu qv none = h.reaches p q u v pu.1 qv.1 (λ i c ci le. elim (at_end components top i c ci) [
    | inl k ↦ none i c k le
    | inr k ↦ absurd (let first : c.first ≡ start = ap (λ (x : Component). x.first) k.1 in omega (arith, first, le, pu.0))
  ])

  lower_source : (k v : ℕ) → slice_get pending k ≡ Some v → Source edges (take start path) components k v
  lower_source k v e =
      let s : Source edges path (components ++ top ∷ []) k v = h.sources k v e in
      let lt = under pending k v e in
      record { at = s.at; node = s.node; is = at_take start s.at s.node path s.is (s.before (length components) top top_at (omega (arith, lt, few))); edge = s.edge; behind = λ i c ci. s.behind i c (lower i c ci); before = λ i c ci. s.before i c (lower i c ci) }

  pub closed : Explores edges closed_standings (take start path) components pending
  closed = record {
    counted = done_length (comes_back edges path start) closing S ∙ h.counted;
    open_is = λ v q e. (closed_open v q (one_or_other v) e).1;
    path_is = λ q v e. closed_path q v (take_at start q v path e);
    finished = λ u v d e. closed_finished u v (one_or_other u) d e;
    decided = λ v b e. closed_decided v b (one_or_other v) e;
    settled = λ i p u v c ci pu le e. closed_settled c.first c.pending v (before_start i c (lower i c ci)) (h.settled i p u v c (lower i c ci) (take_at start p u path pu).1 le e);
    reaches = λ p q u v pu qv none. lower_leads p q u v (take_at start p u path pu) (take_at start q v path qv) none;
    sources = lower_source;
    ordered = λ i j c d lt ci dj. h.ordered i j c d lt (lower i c ci) (lower j d dj);
    inside = λ i c ci. (let lt = (h.ordered i (length components) c top (under components i c ci) (lower i c ci) top_at).0 in omega (arith, lt, length-take-le start path (omega (arith, start_low))), (h.inside i c (lower i c ci)).1);
    begins = λ c ci. h.begins c (lower 0 c ci);
    ends = λ none. ends_by none;
  }
    where
      ends_by : components ≡ [] → take start path ≡ []
      ends_by none =
          let first : slice_get (components ++ top ∷ []) 0 ≡ Some top = ap (λ (xs : List Component). slice_get (xs ++ top ∷ []) 0) none in
          ap (λ (k : ℕ). take k path) (h.begins top first)

  pub closed_seen : KeepsSeen S closed_standings
  closed_seen v e = seen_by (one_or_other v)
    where
      seen_by : (IsOneOf v closing) ⊎ (IsOneOf v closing → ⊥) → is_seen (slice_get closed_standings v) ≡ true
      seen_by (inl c) = ap is_seen (closes_one v c)
      seen_by (inr other) = ap is_seen (keeps_other v other) ∙ e

-- Components are joined one by one.
pub record JoinsPart (place : ℕ) (before after : List Component) : Type 0 where
  pub joined : List Component
  pub whole : before ≡ after ++ joined
  pub behind : (i : ℕ) (c : Component) → slice_get joined i ≡ Some c → place < c.first

pub joins_begin : (place : ℕ) (components : List Component) → JoinsPart place components components
joins_begin place components = record { joined = []; whole = sym (append-nil components); behind = λ i c e. absurd cc }

behind_more : (place : ℕ) (c : Component) (joined : List Component) → place < c.first → ((i : ℕ) (d : Component) → slice_get joined i ≡ Some d → place < d.first) → (i : ℕ) (d : Component) → slice_get (c ∷ joined) i ≡ Some d → place < d.first
behind_more place c joined lt all zero d e = subst (λ (x : Component). place < x.first) (some_same c d e) lt
behind_more place c joined lt all (suc i) d e = all i d e

is_behind : (p q : ℕ) → nat_lt p q ≡ true → p < q
is_behind p q e = grind arith

-- the last is joined
pub joins_more : (place : ℕ) (before old new : List Component) (o : Option Component) → JoinsPart place before old → old ≡ new ++ option_to_list o → behind_place place (last_of old) ≡ true → JoinsPart place before new
joins_more place before old new None j e behind = record { joined = j.joined; whole = j.whole ∙ ap (λ (xs : List Component). xs ++ j.joined) (e ∙ append-nil new); behind = j.behind }
joins_more place before old new (Some c) j e behind =
    let last : last_of old ≡ Some c = ap last_of e ∙ last_there new c in
    record {
      joined = c ∷ j.joined;
      whole = j.whole ∙ ap (λ (xs : List Component). xs ++ j.joined) e ∙ append_assoc new (c ∷ []) j.joined;
      behind = behind_more place c j.joined (is_behind place c.first (sym (ap (behind_place place) last) ∙ behind)) j.behind;
    }

-- none is left that begins behind
pub joins_end : (place : ℕ) (before after : List Component) → JoinsPart place before after → behind_place place (last_of after) ≡ false → Joins place before after
joins_end place before kept j e = record { joined = j.joined; whole = j.whole; behind = j.behind; kept = e }

pub none_behind : (place : ℕ) (components : List Component) → length components ≡ 0 → behind_place place (last_of components) ≡ true → ⊥
none_behind place [] e b = cc
none_behind place (c ∷ components) e b = absurd (omega (arith, e))

-- whether one node leads back to itself
pub one_comes_back : (edges : List (List ℕ)) (path : List ℕ) (first : ℕ) → first < length path → length path - first ≤ 1 → comes_back edges path first ≡ one_of (get_or path first 0) (successors edges (get_or path first 0))
one_comes_back edges path first lt le = one_by (nat_lt 1 (length path - first)) refl
  where
    one_by : (b : Bool) → nat_lt 1 (length path - first) ≡ b → (nat_lt 1 (length path - first) || own_edge edges (slice_get path first)) ≡ one_of (get_or path first 0) (successors edges (get_or path first 0))
    one_by true e = absurd (let more = is_behind 1 (length path - first) e in omega (arith, more, le))
    one_by false e = ap (λ (b : Bool). b || own_edge edges (slice_get path first)) e ∙ ap (own_edge edges) (at_get path first lt)
