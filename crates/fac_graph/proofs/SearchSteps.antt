-- The steps of a search along a path, and how many are left.
use Rattle.std.proofs.Common.{◌≡◌, ◌<◌, ◌≤◌, inl, inr, ℕ, zero, suc, ◌+◌, ◌-◌, List, [], ◌∷◌, ◌++◌, length, set, drop, replicate, map, Bool, true, false, Some, None, refl, sym, ap, ◌∙◌, length-append, subst, arith}
use Rattle.std.specs.Prelude.{slice_get, Result, Ok, Err, IfOk, OnOk}
use Rattle.std.proofs.lemmas.Bool.{and_from}
use Rattle.std.proofs.lemmas.List.{append-nil, length-replicate}
use Rattle.fac_graph.specs.Paths.{IsOneOf, list_or_none, successors, AreLeadingBack}
use Rattle.fac_graph.specs.inner.Components.{are_below, Reaches, is_seen, is_done, Explores, IsExplored, last_of, Joins, Opens, Closes, comes_back, all_done, to_open, all_to_open, KeepsSeen, Steps, MayFollow, Follows, IsIdle, all_finished, IsOver, Visits}
use Rattle.fac_graph.specs.declared.components.VisitState.{VisitState}
use Rattle.fac_graph.specs.declared.components.VisitState.TheVariants.{Unseen, Open, Done}
use Rattle.fac_graph.specs.declared.components.Component.{Component}
use Rattle.fac_graph.specs.declared.components.Search.{Search}
use Rattle.fac_graph.proofs.NumberLists.{only_one, some_same, under, last_there, set_here, there, each_below, last_or_before, none_there}
use Rattle.fac_graph.proofs.ComponentLemmas.{in_order, opened, opened_seen, leads_to, followed_done, followed_open, closed, closed_seen}

-- how many steps are left
left_opened : (S : List VisitState) (edges : List (List ℕ)) (w q : ℕ) → slice_get S w ≡ Some Unseen → length S ≡ length edges → all_to_open (set S w (Open q)) edges + suc (length (successors edges w)) ≡ all_to_open S edges
left_opened [] edges w q e same = absurd cc
left_opened (s ∷ S) [] w q e same = absurd (omega (arith, same))
left_opened (s ∷ S) (vs ∷ edges) zero q e same =
    let here : to_open s vs ≡ suc (length vs) = ap (λ (t : VisitState). to_open t vs) (some_same s Unseen e) in
    omega (arith, here)
left_opened (s ∷ S) (vs ∷ edges) (suc w) q e same =
    let rest = left_opened S edges w q e (omega (arith, same)) in
    omega (arith, rest)

left_set : (S : List VisitState) (edges : List (List ℕ)) (w : ℕ) (b : Bool) → all_to_open (set S w (Done b)) edges ≤ all_to_open S edges
left_set [] edges w b = omega arith
left_set (s ∷ S) [] zero b = omega arith
left_set (s ∷ S) [] (suc w) b = omega arith
left_set (s ∷ S) (vs ∷ edges) zero b = omega arith
left_set (s ∷ S) (vs ∷ edges) (suc w) b =
    let rest = left_set S edges w b in
    omega (arith, rest)

left_done : (S : List VisitState) (edges : List (List ℕ)) (ws : List ℕ) (b : Bool) → all_to_open (all_done b ws S) edges ≤ all_to_open S edges
left_done S edges [] b = omega arith
left_done S edges (w ∷ ws) b =
    let rest = left_done (set S w (Done b)) edges ws b in
    let one = left_set S edges w b in
    omega (arith, rest, one)

explores_same : (edges : List (List ℕ)) (S S' : List VisitState) (path path' : List ℕ) (components components' : List Component) (pending pending' : List ℕ) → S' ≡ S → path' ≡ path → components' ≡ components → pending' ≡ pending → Explores edges S path components pending → Explores edges S' path' components' pending'
explores_same edges S S' path path' components components' pending pending' a b c d h = rw (a, b, c, d) h

seen_same : (S T T' : List VisitState) → T' ≡ T → KeepsSeen S T → KeepsSeen S T'
seen_same S T T' e h = rw e h

-- a node that wasn't met is opened
pub opens_explored : (edges : List (List ℕ)) (before after : Search) (ws : List ℕ) (w : ℕ) → Explores edges before.standings.items before.path.items before.components.items (before.pending.items ++ ws) → slice_get before.standings.items w ≡ Some Unseen → ((v : ℕ) → IsOneOf v ws → v ≡ w) → ((p u : ℕ) → slice_get before.path.items p ≡ Some u → Reaches edges u w) → ((i : ℕ) (c : Component) → slice_get before.components.items i ≡ Some c → c.pending ≤ length before.pending.items) → Opens edges w before after → Follows edges before after
opens_explored edges before after ws w h unseen only to_w low o = record {
  explored = explores_same edges _ after.standings.items _ after.path.items _ after.components.items _ after.pending.items o.standings_are o.path_is o.components_are o.pending_is (opened edges before.standings.items before.path.items before.components.items before.pending.items ws w h unseen only to_w low);
  fewer = omega (
    arith,
    ap (λ (S : List VisitState). all_to_open S edges) o.standings_are,
    left_opened before.standings.items edges w (length before.path.items) unseen h.counted,
    ap length o.components_are,
    length-append before.components.items (record { first = length before.path.items; pending = length before.pending.items } ∷ []),
    ap length o.pending_is,
    length-append before.pending.items (successors edges w),
  );
  kept = seen_same before.standings.items _ after.standings.items o.standings_are (opened_seen edges before.standings.items before.path.items before.components.items before.pending.items ws w h unseen only to_w low);
}

-- a pending node is followed
pub follows_unseen : (edges : List (List ℕ)) (before after : Search) (w : ℕ) → MayFollow edges before w → slice_get before.standings.items w ≡ Some Unseen → Opens edges w before after → Follows edges before after
follows_unseen edges before after w m unseen o =
    opens_explored edges before after (w ∷ []) w m.explored unseen (λ v e. only_one v w e) (leads_to edges before.standings.items before.path.items before.components.items before.pending.items w m.explored m.low) m.low o

pub follows_open : (edges : List (List ℕ)) (before after : Search) (w place : ℕ) → MayFollow edges before w → slice_get before.standings.items w ≡ Some (Open place) → after.standings.items ≡ before.standings.items → after.path.items ≡ before.path.items → after.pending.items ≡ before.pending.items → Joins place before.components.items after.components.items → Follows edges before after
follows_open edges before after w place m is_open a b d j = record {
  explored = explores_same edges before.standings.items after.standings.items before.path.items after.path.items after.components.items after.components.items before.pending.items after.pending.items a b refl d (followed_open edges before.standings.items before.path.items before.components.items before.pending.items w m.explored m.low place is_open after.components.items j);
  fewer = omega (arith, ap (λ (S : List VisitState). all_to_open S edges) a, ap length d, ap length j.whole, length-append after.components.items j.joined);
  kept = seen_same before.standings.items before.standings.items after.standings.items a (λ v e. e);
}

pub follows_done : (edges : List (List ℕ)) (before after : Search) (w : ℕ) → MayFollow edges before w → is_done (slice_get before.standings.items w) ≡ true → after.standings.items ≡ before.standings.items → after.path.items ≡ before.path.items → after.components.items ≡ before.components.items → after.pending.items ≡ before.pending.items → Follows edges before after
follows_done edges before after w m is_done_at a p k d = record {
  explored = explores_same edges before.standings.items after.standings.items before.path.items after.path.items before.components.items after.components.items before.pending.items after.pending.items a p k d (followed_done edges before.standings.items before.path.items before.components.items before.pending.items w m.explored m.low is_done_at);
  fewer = omega (arith, ap (λ (S : List VisitState). all_to_open S edges) a, ap length d, ap length k);
  kept = seen_same before.standings.items before.standings.items after.standings.items a (λ v e. e);
}

-- components are bounded by the last
last_is : (components : List Component) (top : Component) → last_of components ≡ Some top → (i : ℕ) (c : Component) → slice_get components i ≡ Some c → i ≤ length components - 1
last_is components top e i c ci =
    let lt = under components i c ci in
    omega (arith, lt)

pub pends_below : (edges : List (List ℕ)) (s : Search) (top : Component) → IsExplored edges s → last_of s.components.items ≡ Some top → (i : ℕ) (c : Component) → slice_get s.components.items i ≡ Some c → c.pending ≤ top.pending
pends_below edges s top h e i c ci = (in_order edges s.standings.items s.path.items s.components.items s.pending.items h i (length s.components.items - 1) c top (last_is s.components.items top e i c ci) ci e).1

-- the last component is closed
closes_at : (edges : List (List ℕ)) (before after : Search) (top : Component) → Explores edges before.standings.items before.path.items (after.components.items ++ top ∷ []) before.pending.items → length before.pending.items ≤ top.pending → (c : Closes edges top.first before after) → c.top ≡ top → Steps edges before after
closes_at edges before after top h few c same = record {
  explored = explores_same edges _ after.standings.items _ after.path.items after.components.items after.components.items before.pending.items after.pending.items c.standings_are c.path_is refl c.pending_is (closed edges before.standings.items before.path.items after.components.items top before.pending.items h few);
  fewer = omega (
    arith,
    ap (λ (S : List VisitState). all_to_open S edges) c.standings_are,
    left_done before.standings.items edges (drop top.first before.path.items) (comes_back edges before.path.items top.first),
    ap length c.pending_is,
    ap length c.top_is,
    length-append after.components.items (c.top ∷ []),
  );
  kept = seen_same before.standings.items _ after.standings.items c.standings_are (closed_seen edges before.standings.items before.path.items after.components.items top before.pending.items h few);
}

pub steps_back : (edges : List (List ℕ)) (before after : Search) (top : Component) → IsExplored edges before → last_of before.components.items ≡ Some top → length before.pending.items ≤ top.pending → Closes edges top.first before after → Steps edges before after
steps_back edges before after top h e few c =
    let same : c.top ≡ top = some_same c.top top (sym (ap last_of c.top_is ∙ last_there after.components.items c.top) ∙ e) in
    closes_at edges before after top (explores_same edges before.standings.items before.standings.items before.path.items before.path.items before.components.items (after.components.items ++ top ∷ []) before.pending.items before.pending.items refl refl (sym (c.top_is ∙ ap (λ (x : Component). after.components.items ++ x ∷ []) same)) refl h) few c same

-- what is on the path are nodes
pub path_there : (edges : List (List ℕ)) (s : Search) → IsExplored edges s → are_below (length s.standings.items) s.path.items ≡ true
path_there edges s h = each_below (length s.standings.items) s.path.items (λ q v e. under s.standings.items v (Open q) (h.path_is q v e))

pub top_starts : (edges : List (List ℕ)) (s : Search) (top : Component) → IsExplored edges s → last_of s.components.items ≡ Some top → top.first < length s.path.items
top_starts edges s top h e = (h.inside (length s.components.items - 1) top e).0

pub some_component : (components : List Component) (top : Component) → last_of components ≡ Some top → 0 < length components
some_component [] top e = absurd cc
some_component (c ∷ components) top e = omega arith

-- a search that has no component
pub no_last : (components : List Component) → last_of components ≡ None → components ≡ []
no_last [] e = refl
no_last (c ∷ components) e =
    let found = there (c ∷ components) (length (c ∷ components) - 1) (omega arith) in
    let clash : Some found.0 ≡ None = sym found.1 ∙ e in
    absurd cc

-- a search from one node
pub record Visiting (edges : List (List ℕ)) (node : ℕ) (before now : Search) : Type 0 where
  pub explored : IsExplored edges now
  pub kept : KeepsSeen before.standings.items now.standings.items
  pub seen : is_seen (slice_get now.standings.items node) ≡ true

no_node : (path : List ℕ) → path ≡ [] → (p u : ℕ) → slice_get path p ≡ Some u → ⊥
no_node path e p u at = absurd (let lost : slice_get [] p ≡ Some u = sym (ap (λ (xs : List ℕ). slice_get xs p) e) ∙ at in cc)

no_component_at : (components : List Component) → components ≡ [] → (i : ℕ) (c : Component) → slice_get components i ≡ Some c → ⊥
no_component_at components e i c at = absurd (let lost : slice_get [] i ≡ Some c = sym (ap (λ (xs : List Component). slice_get xs i) e) ∙ at in cc)

pub visiting_begins : (edges : List (List ℕ)) (before now : Search) (w : ℕ) → IsIdle edges before → slice_get before.standings.items w ≡ Some Unseen → Opens edges w before now → Visiting edges w before now
visiting_begins edges before now w idle unseen o =
    let h : IsExplored edges before = idle.explored in
    let f = opens_explored edges before now [] w (explores_same edges before.standings.items before.standings.items before.path.items before.path.items before.components.items before.components.items before.pending.items (before.pending.items ++ []) refl refl refl (append-nil before.pending.items) h) unseen (λ v e. absurd cc) (λ p u pu. absurd (no_node before.path.items (h.ends idle.no_component) p u pu)) (λ i c ci. absurd (no_component_at before.components.items idle.no_component i c ci)) o in
    record {
      explored = f.explored;
      kept = f.kept;
      seen = ap (λ (S : List VisitState). is_seen (slice_get S w)) o.standings_are ∙ ap is_seen (set_here before.standings.items w Unseen (Open (length before.path.items)) unseen);
    }

pub visiting_step : (edges : List (List ℕ)) (before now after : Search) (w : ℕ) → Visiting edges w before now → Steps edges now after → Visiting edges w before after
visiting_step edges before now after w h s = record { explored = s.explored; kept = λ v e. s.kept v (h.kept v e); seen = s.kept w h.seen }

pub visiting_ends : (edges : List (List ℕ)) (before now : Search) (w : ℕ) → Visiting edges w before now → last_of now.components.items ≡ None → Visits edges w before now
visiting_ends edges before now w h e = record { idle = record { explored = h.explored; no_component = no_last now.components.items e }; kept = h.kept; seen = h.seen }

-- a node that was met
pub visits_none : (edges : List (List ℕ)) (s : Search) (w : ℕ) → IsIdle edges s → is_seen (slice_get s.standings.items w) ≡ true → Visits edges w s s
visits_none edges s w idle met = record { idle = idle; kept = λ v e. e; seen = met }

-- all nodes were met up to this one
abbrev pub SeenBelow : ℕ → List VisitState → Type 0
SeenBelow n standings = (v : ℕ) → v < n → is_seen (slice_get standings v) ≡ true

-- nodes are visited one by one
pub seen_none : (S : List VisitState) → SeenBelow 0 S
seen_none S v lt = absurd (omega (arith, lt))

pub seen_more : (edges : List (List ℕ)) (before after : Search) (w : ℕ) → SeenBelow w before.standings.items → Visits edges w before after → SeenBelow (w + 1) after.standings.items
seen_more edges before after w below visits v lt = elim (last_or_before v w lt) [
  | inl p ↦ visits.kept v (below v p)
  | inr p ↦ subst (λ (x : ℕ). is_seen (slice_get after.standings.items x) ≡ true) (sym p) visits.seen
]

finished_each : (S : List VisitState) → ((v : ℕ) (s : VisitState) → slice_get S v ≡ Some s → is_done (Some s) ≡ true) → all_finished S ≡ true
finished_each [] all = refl
finished_each (s ∷ S) all = and_from (is_done (Some s)) (all_finished S) (all 0 s refl) (finished_each S (λ v t e. all (suc v) t e))

done_by : (s : VisitState) → is_seen (Some s) ≡ true → ((q : ℕ) → s ≡ Open q → ⊥) → is_done (Some s) ≡ true
done_by Unseen e none = absurd cc
done_by (Open q) e none = absurd (none q refl)
done_by (Done b) e none = refl

pub all_visited : (edges : List (List ℕ)) (s : Search) (n : ℕ) → IsIdle edges s → SeenBelow n s.standings.items → length edges ≤ n → IsOver edges s
all_visited edges s n idle below le =
    let h : IsExplored edges s = idle.explored in
    record {
      explored = h;
      finished = finished_each s.standings.items (λ v t e. done_by t (ap is_seen (sym e) ∙ below v (omega (arith, le, under s.standings.items v t e, h.counted))) (λ q is. no_node s.path.items (h.ends idle.no_component) q v (h.open_is v q (e ∙ ap Some is))));
    }

-- a search that has not begun
unseen_at : (n v : ℕ) (s : VisitState) → slice_get (replicate n Unseen) v ≡ Some s → s ≡ Unseen
unseen_at zero v s e = absurd cc
unseen_at (suc n) zero s e = some_same s Unseen (sym e)
unseen_at (suc n) (suc v) s e = unseen_at n v s e

-- what is done from the beginning is no node, and leads nowhere
behind_all : (n u : ℕ) → is_done (slice_get (replicate n Unseen) u) ≡ true → n ≤ u
behind_all zero u e = omega arith
behind_all (suc n) zero e = absurd (let clash : false ≡ true = e in cc)
behind_all (suc n) (suc u) e =
    let le = behind_all n u e in
    omega (arith, le)

leads_nowhere : (edges : List (List ℕ)) (u v : ℕ) → length edges ≤ u → IsOneOf v (successors edges u) → ⊥
leads_nowhere edges u v le e = absurd (let none : IsOneOf v [] = subst (λ (vs : List ℕ). IsOneOf v vs) (ap list_or_none (none_there edges u le)) e in cc)

fresh : (edges : List (List ℕ)) → Explores edges (replicate (length edges) Unseen) [] [] []
fresh edges = record {
  counted = length-replicate (length edges) Unseen;
  open_is = λ v q e. absurd (let same = unseen_at (length edges) v (Open q) e in cc);
  path_is = λ q v e. absurd cc;
  finished = λ u v d e. absurd (leads_nowhere edges u v (behind_all (length edges) u d) e);
  decided = λ v b e. absurd (let same = unseen_at (length edges) v (Done b) e in cc);
  settled = λ i p u v c ci. absurd cc;
  reaches = λ p q u v pu. absurd cc;
  sources = λ k v e. absurd cc;
  ordered = λ i j c d lt ci. absurd cc;
  inside = λ i c ci. absurd cc;
  begins = λ c ci. absurd cc;
  ends = λ e. refl;
}

pub begins_idle : (edges : List (List ℕ)) (s : Search) → s.standings.items ≡ replicate (length edges) Unseen → s.path.items ≡ [] → s.components.items ≡ [] → s.pending.items ≡ [] → IsIdle edges s
begins_idle edges s a b d e = record { explored = explores_same edges (replicate (length edges) Unseen) s.standings.items [] s.path.items [] s.components.items [] s.pending.items a b d e (fresh edges); no_component = d }

-- what a search that is over says of all nodes
flag_there : (flags : List Bool) (w : ℕ) (b : Bool) → slice_get flags w ≡ Some b → slice_get (map Done flags) w ≡ Some (Done b)
flag_there [] w b e = absurd cc
flag_there (c ∷ flags) zero b e = ap Some (ap Done (some_same c b e))
flag_there (c ∷ flags) (suc w) b e = flag_there flags w b e

flags_length : (flags : List Bool) → length (map Done flags) ≡ length flags
flags_length [] = refl
flags_length (c ∷ flags) = ap suc (flags_length flags)

pub over_decides : (edges : List (List ℕ)) (s : Search) (flags : List Bool) → IsOver edges s → s.standings.items ≡ map Done flags → AreLeadingBack edges flags
over_decides edges s flags over are = record {
  same_length = sym (ap length are ∙ flags_length flags) ∙ over.explored.counted;
  each = λ w b e. over.explored.decided w b (ap (λ (S : List VisitState). slice_get S w) are ∙ flag_there flags w b e);
}

-- what follows from a call's fact
pub if_ok : {T E : Type 0} (A B : T → Type 0) (r : Result T E) → ((x : T) → A x → B x) → IfOk r A → IfOk r B
if_ok A B (Ok x) f h = f x h
if_ok A B (Err x) f h = tt

pub on_ok : {T E A B : Type 0} (r : Result T E) → (A → B) → OnOk r A → OnOk r B
on_ok (Ok x) f h = f h
on_ok (Err x) f h = tt
