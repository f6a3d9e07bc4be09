-- Paths, and that short ones suffice.
use Rattle.std.proofs.Common.{◌≡◌, ◌<◌, ◌≤◌, ◌⊎◌, inl, inr, ℕ, zero, suc, List, [], ◌∷◌, length, Bool, true, false, Some, refl, sym, ap, ◌∙◌, subst, arith}
use Rattle.std.specs.Prelude.{◌↔◌, slice_get, nat_eq, ◌||◌}
use Rattle.std.specs.List.{list_any}
use Rattle.std.proofs.lemmas.Bool.{or_left, or_right, or_cases}
use Rattle.fac_lang.specs.declared.program.ClassDef.{ClassDef}
use Rattle.fac_lang.specs.Classes.{shape_at}
use Rattle.fac_lang.specs.Whole.{parts_of, reaches}
use Rattle.fac_graph.specs.Paths.{one_of, IsOneOf, list_or_none, successors, LeadsTo, by_edge, and_edge, AreLeadingBack, leads_within}
use Rattle.fac_graph.specs.Laws.{ShortPathsSuffice, class_edges, CyclesOfClasses}
use Rattle.fac_graph.specs.inner.Components.{Reaches}
use Rattle.fac_graph.proofs.Settling.{settled}
use Rattle.fac_graph.proofs.NumberLists.{same_number, in_one, at_or_behind, none_there}

-- an edge, and a path behind it
pub edge_first : (edges : List (List ℕ)) (u v w : ℕ) → IsOneOf v (successors edges u) → LeadsTo edges v w → LeadsTo edges u w
edge_first edges u v w e (by_edge f) = and_edge v (by_edge e) f
edge_first edges u v w e (and_edge x p f) = and_edge x (edge_first edges u v x e p) f

-- two paths
pub leads_both : (edges : List (List ℕ)) (u v w : ℕ) → LeadsTo edges u v → LeadsTo edges v w → LeadsTo edges u w
leads_both edges u v w p (by_edge e) = and_edge v p e
leads_both edges u v w p (and_edge x q e) = and_edge x (leads_both edges u v x p q) e

pub reaches_itself : (edges : List (List ℕ)) (u : ℕ) → Reaches edges u u
reaches_itself edges u = inl refl

pub reaches_on : (edges : List (List ℕ)) (u v w : ℕ) → Reaches edges u v → IsOneOf w (successors edges v) → Reaches edges u w
reaches_on edges u v w (inl same) e = inr (by_edge (subst (λ (x : ℕ). IsOneOf w (successors edges x)) same e))
reaches_on edges u v w (inr p) e = inr (and_edge v p e)

pub reaches_both : (edges : List (List ℕ)) (u v w : ℕ) → Reaches edges u v → Reaches edges v w → Reaches edges u w
reaches_both edges u v w (inl same) q = subst (λ (x : ℕ). Reaches edges x w) same q
reaches_both edges u v w (inr p) (inl same) = inr (subst (λ (x : ℕ). LeadsTo edges u x) (sym same) p)
reaches_both edges u v w (inr p) (inr q) = inr (leads_both edges u v w p q)

-- a node that reaches another one, which reaches it, leads back to itself
pub pair_leads_back : (edges : List (List ℕ)) (u v : ℕ) → (v ≡ u → ⊥) → Reaches edges u v → Reaches edges v u → LeadsTo edges u u
pair_leads_back edges u v other (inl same) back = absurd (other same)
pair_leads_back edges u v other (inr p) (inl same) = absurd (other (sym same))
pair_leads_back edges u v other (inr p) (inr q) = leads_both edges u v u p q

-- tests of some element
any_at : (f : ℕ → Bool) (v : ℕ) (xs : List ℕ) → IsOneOf v xs → f v ≡ true → list_any f xs ≡ true
any_at f v [] e h = absurd cc
any_at f v (x ∷ xs) e h = elim (or_cases (nat_eq v x) (one_of v xs) e) [ inl p ↦ or_left (f x) (list_any f xs) (subst (λ (y : ℕ). f y ≡ true) (same_number v x p) h) | inr p ↦ or_right (f x) (list_any f xs) (any_at f v xs p h) ]

pub any_is : (f : ℕ → Bool) (xs : List ℕ) → list_any f xs ≡ true → (v : ℕ) × IsOneOf v xs × (f v ≡ true)
any_is f [] e = absurd cc
any_is f (x ∷ xs) e = elim (or_cases (f x) (list_any f xs) e) [
  | inl p ↦ (x, in_one x xs, p)
  | inr p ↦ let found = any_is f xs p in (found.0, or_right (nat_eq found.0 x) (one_of found.0 xs) found.1, found.2)
]

any_same : (f g : ℕ → Bool) (xs ys : List ℕ) → ((v : ℕ) → f v ≡ g v) → xs ≡ ys → list_any f xs ≡ list_any g ys
any_same f g xs ys same is = all xs ∙ ap (list_any g) is
  where
    all : (xs : List ℕ) → list_any f xs ≡ list_any g xs
    all [] = refl
    all (x ∷ xs) = ap (λ (b : Bool). b || list_any f xs) (same x) ∙ ap (λ (b : Bool). g x || b) (all xs)

module _ (edges : List (List ℕ)) where
  -- a path of few edges is one
  pub within_leads : (n u v : ℕ) → leads_within n edges u v ≡ true → LeadsTo edges u v
  within_leads zero u v e = absurd cc
  within_leads (suc n) u v e =
      let found = any_is (λ w. nat_eq v w || leads_within n edges w v) (successors edges u) e in
      elim (or_cases (nat_eq v found.0) (leads_within n edges found.0 v) found.2) [
        | inl p ↦ by_edge (subst (λ (x : ℕ). IsOneOf x (successors edges u)) (sym (same_number v found.0 p)) found.1)
        | inr p ↦ edge_first edges u found.0 v found.1 (within_leads n found.0 v p)
      ]

  -- the successors of a node that isn't there
  none_behind : (u : ℕ) → length edges ≤ u → successors edges u ≡ []
  none_behind u le = ap list_or_none (none_there edges u le)

  module _ (v : ℕ) where
    -- whether a node leads to v in at most so many edges
    abbrev pub within : ℕ → ℕ → Bool
    within n u = leads_within n edges u v

    at_most : (n u : ℕ) → within n u ≡ true → within (suc n) u ≡ true
    at_most zero u e = absurd (let clash : false ≡ true = e in cc)
    at_most (suc n) u e =
        let found = any_is (λ w. nat_eq v w || leads_within n edges w v) (successors edges u) e in
        any_at (λ w. nat_eq v w || leads_within (suc n) edges w v) found.0 (successors edges u) found.1 (elim (or_cases (nat_eq v found.0) (leads_within n edges found.0 v) found.2) [
          | inl p ↦ or_left (nat_eq v found.0) (leads_within (suc n) edges found.0 v) p
          | inr p ↦ or_right (nat_eq v found.0) (leads_within (suc n) edges found.0 v) (at_most n found.0 p)
        ])

    goes_on : (n : ℕ) → ((u : ℕ) → within (suc n) u ≡ true → within n u ≡ true) → (u : ℕ) → within (suc (suc n)) u ≡ true → within (suc n) u ≡ true
    goes_on n stable u e =
        let found = any_is (λ w. nat_eq v w || leads_within (suc n) edges w v) (successors edges u) e in
        any_at (λ w. nat_eq v w || leads_within n edges w v) found.0 (successors edges u) found.1 (elim (or_cases (nat_eq v found.0) (leads_within (suc n) edges found.0 v) found.2) [
          | inl p ↦ or_left (nat_eq v found.0) (leads_within n edges found.0 v) p
          | inr p ↦ or_right (nat_eq v found.0) (leads_within n edges found.0 v) (stable found.0 p)
        ])

    below_end : (u : ℕ) → (u < length edges) ⊎ (length edges ≤ u) → (n : ℕ) → within n u ≡ true → u < length edges
    below_end u (inl lt) n e = lt
    below_end u (inr le) zero e = absurd (let clash : false ≡ true = e in cc)
    below_end u (inr le) (suc n) e = absurd (let none : false ≡ true = sym (ap (list_any (λ w. nat_eq v w || leads_within n edges w v)) (none_behind u le)) ∙ e in cc)

    -- a path of any length is one of no more edges than there are nodes
    soon : (n u : ℕ) → within n u ≡ true → within (length edges) u ≡ true
    soon n u e = settled (length edges) within (λ k w h. below_end w (at_or_behind (length edges) w) k h) at_most goes_on n u e

    one_edge : (u : ℕ) → IsOneOf v (successors edges u) → within 1 u ≡ true
    one_edge u e = any_at (λ w. nat_eq v w || leads_within 0 edges w v) v (successors edges u) e (or_left (nat_eq v v) (leads_within 0 edges v v) (grind arith))

    edge_before : (n u w : ℕ) → IsOneOf w (successors edges u) → within n w ≡ true → within (suc n) u ≡ true
    edge_before n u w e h = any_at (λ x. nat_eq v x || leads_within n edges x v) w (successors edges u) e (or_right (nat_eq v w) (leads_within n edges w v) h)

    before : (u w : ℕ) → LeadsTo edges u w → (n : ℕ) → within n w ≡ true → (k : ℕ) × (within k u ≡ true)
    before u w (by_edge e) n h = (suc n, edge_before n u w e h)
    before u w (and_edge x p e) n h = before u x p (suc n) (edge_before n x w e h)

    pub leads_soon : (u : ℕ) → LeadsTo edges u v → within (length edges) u ≡ true
    leads_soon u (by_edge e) = soon 1 u (one_edge u e)
    leads_soon u (and_edge w p e) =
        let path = before u w p 1 (one_edge w e) in
        soon path.0 u path.1

pub short_paths : ShortPathsSuffice
short_paths = λ edges u v. (within_leads edges (length edges) u v, leads_soon edges v u)

-- classes
pub edges_of_classes : (cs : List ClassDef) (c : ℕ) → successors (class_edges cs) c ≡ parts_of (shape_at cs c)
edges_of_classes [] c = refl
edges_of_classes (d ∷ cs) zero = refl
edges_of_classes (d ∷ cs) (suc c) = edges_of_classes cs c

pub class_reaches : (cs : List ClassDef) (n c d : ℕ) → leads_within n (class_edges cs) d c ≡ reaches n cs c d
class_reaches cs zero c d = refl
class_reaches cs (suc n) c d = any_same (λ e. nat_eq c e || leads_within n (class_edges cs) e c) (λ e. nat_eq c e || reaches n cs c e) (successors (class_edges cs) d) (parts_of (shape_at cs d)) (λ e. ap (λ (b : Bool). nat_eq c e || b) (class_reaches cs n c e)) (edges_of_classes cs d)

pub edges_counted : (cs : List ClassDef) → length (class_edges cs) ≡ length cs
edges_counted [] = refl
edges_counted (d ∷ cs) = ap suc (edges_counted cs)

pub same_truth : (a b : Bool) → (a ≡ true → b ≡ true) → (b ≡ true → a ≡ true) → a ≡ b
same_truth true b f g = sym (f refl)
same_truth false true f g = g refl
same_truth false false f g = refl

-- flags tell what short paths do
pub flag_is : (edges : List (List ℕ)) (flags : List Bool) → AreLeadingBack edges flags → (u : ℕ) (b : Bool) → slice_get flags u ≡ Some b → b ≡ leads_within (length edges) edges u u
flag_is edges flags are u b at =
    let tells : (b ≡ true) ↔ LeadsTo edges u u = are.each u b at in
    same_truth b (leads_within (length edges) edges u u) (λ e. leads_soon edges u u (tells.0 e)) (λ e. tells.1 (within_leads edges (length edges) u u e))

pub cycles : CyclesOfClasses
cycles = λ cs flags are c b at. flag_is (class_edges cs) flags are c b at ∙ class_reaches cs (length (class_edges cs)) c c ∙ ap (λ (n : ℕ). reaches n cs c c) (edges_counted cs)

-- a class with a path to itself reaches itself
pub class_cycle : (cs : List ClassDef) (c : ℕ) → LeadsTo (class_edges cs) c c → reaches (length cs) cs c c ≡ true
class_cycle cs c path = sym (class_reaches cs (length (class_edges cs)) c c ∙ ap (λ (n : ℕ). reaches n cs c c) (edges_counted cs)) ∙ leads_soon (class_edges cs) c c path
