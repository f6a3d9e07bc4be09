-- Chains of parents.
use Rattle.std.proofs.Common.{◌≡◌, ◌<◌, ◌≤◌, ◌+◌, ℕ, zero, suc, nat_eq, List, [], ◌∷◌, ◌++◌, length, set, replicate, slice_get, Option, Some, None, Bool, true, false, refl, ap, sym, ◌∙◌, subst, arith, append-nil, append_assoc, length-append}
use Rattle.std.specs.Prelude.{◌||◌, nat_lt, if◌then◌else◌}
use Rattle.std.specs.List.{list_any}
use Rattle.std.proofs.lemmas.Bool.{eqb-true}
use Rattle.std.proofs.lemmas.Bool.Decides.{Decides-ltb}
use Rattle.std.proofs.lemmas.Option.{slice_get_past}
use Rattle.fac_lang.specs.Classes.{shape_at, parent_in}
use Rattle.fac_lang.specs.declared.program.ClassDef.{ClassDef}
use Rattle.fac_lang.specs.declared.program.Shape.{Shape}
use Rattle.fac_graph.proofs.NumberLists.{set_here, set_other}
use Rattle.fac_endings.specs.declared.parents.Chain.{Chain}
use Rattle.fac_endings.specs.ClassTable.{inherited, parents, parents_from, slots_at, slots_in}
use Rattle.fac_endings.specs.LastRefusals.{most_slots}
use Rattle.fac_endings.specs.inner.Chains.{Climbs, Meets, and_others, if_unmet, is_unmet, slots_of, unmet_in, walk}
use Rattle.fac_endings.proofs.ListLemmas.{none_past}

-- Which classes were met, by a flag for each.
pub record AreMet (n : ℕ) (met : List Bool) (ms : List ℕ) : Type 0 where
  pub counted : length met ≡ n
  pub each : (i : ℕ) (b : Bool) → slice_get met i ≡ Some b → b ≡ list_any (nat_eq i) ms

length_set : (met : List Bool) (p : ℕ) (b : Bool) → length (set met p b) ≡ length met
length_set [] p b = refl
length_set (x ∷ met) zero b = refl
length_set (x ∷ met) (suc p) b = ap suc (length_set met p b)

unmet_is : (o : Option Bool) → is_unmet o ≡ true → o ≡ Some false
unmet_is None h = cc
unmet_is (Some true) h = cc
unmet_is (Some false) h = refl

same_flag : (a b c : Bool) → Some a ≡ Some b → b ≡ c → a ≡ c
same_flag a b c h e = let same : a ≡ b = cc in same ∙ e

-- one class more
met_more : (n : ℕ) (met : List Bool) (ms : List ℕ) (p : ℕ) → AreMet n met ms → is_unmet (slice_get met p) ≡ true → AreMet n (set met p true) (p ∷ ms)
met_more n met ms p h out =
    record {
      counted = length_set met p true ∙ h.counted;
      each = λ i b is. one i b (nat_eq i p) refl is;
    }
  where
    not_same : (i : ℕ) → nat_eq i p ≡ false → i ≡ p → ⊥
    not_same i e same = grind arith

    one : (i : ℕ) (b : Bool) (same : Bool) → nat_eq i p ≡ same → slice_get (set met p true) i ≡ Some b → b ≡ (same || list_any (nat_eq i) ms)
    one i b true e is =
        let there : i ≡ p = eqb-true i p e in
        let put = set_here met p false true (unmet_is (slice_get met p) out) in
        same_flag b true true (sym is ∙ ap (slice_get (set met p true)) there ∙ put) refl
    one i b false e is = h.each i b (sym (set_other met p i true (not_same i e)) ∙ is)

all_unmet : (n i : ℕ) (b : Bool) → slice_get (replicate n false) i ≡ Some b → b ≡ false
all_unmet zero i b h = cc
all_unmet (suc n) zero b h = cc
all_unmet (suc n) (suc i) b h = all_unmet n i b h

length_unmet : (n : ℕ) → length (replicate n false) ≡ n
length_unmet zero = refl
length_unmet (suc n) = ap suc (length_unmet n)

no_flag : (o : Option Bool) → is_unmet o ≡ false → o ≡ Some false → ⊥
no_flag None h k = cc
no_flag (Some true) h k = cc
no_flag (Some false) h k = cc

-- a class that isn't there is met by no flag
met_out : (n c : ℕ) → is_unmet (slice_get (replicate n false) c) ≡ false → (i : ℕ) (b same : Bool) → nat_eq i c ≡ same → b ≡ false → slice_get (replicate n false) i ≡ Some b → b ≡ (same || false)
met_out n c h i b false e out is = out
met_out n c h i b true e out is =
    let there : i ≡ c = eqb-true i c e in
    absurd (no_flag (slice_get (replicate n false) c) h (sym (ap (slice_get (replicate n false)) there) ∙ is ∙ ap (λ (x : Bool). Some x) out))

-- before a chain begins, its class is met alone
pub first_met : (n c : ℕ) (met : List Bool) (b : Bool) → Meets c (replicate n false) met b → AreMet n met (c ∷ [])
first_met n c met true h =
    subst (λ (fs : List Bool). AreMet n fs (c ∷ [])) (sym h.1) (met_more n (replicate n false) [] c (record { counted = length_unmet n; each = λ i b is. all_unmet n i b is }) h.0)
first_met n c met false h =
    subst (λ (fs : List Bool). AreMet n fs (c ∷ [])) (sym h.1) (record { counted = length_unmet n; each = λ i b is. met_out n c h.0 i b (nat_eq i c) refl (all_unmet n i b is) is })

-- one class more whose slots a chain has
pub one_bearer : (cs : List ClassDef) (bs : List ℕ) (b : ℕ) → slots_of cs (bs ++ b ∷ []) ≡ slots_of cs bs ++ slots_at cs b
one_bearer cs [] b = append-nil (slots_at cs b)
one_bearer cs (x ∷ bs) b = ap (λ (xs : List (List ℕ)). slots_at cs x ++ xs) (one_bearer cs bs b) ∙ sym (append_assoc (slots_at cs x) (slots_of cs bs) (slots_at cs b))

-- a class that isn't there has no slots and no parent
no_shape : (cs : List ClassDef) (p : ℕ) → length cs ≤ p → shape_at cs p ≡ None
no_shape cs p few = ap (λ (o : Option ClassDef). elim o [ Some d ↦ Some d.shape | None ↦ None ]) (slice_get_past cs p few)

no_parents : (n : ℕ) (cs : List ClassDef) (ms : List ℕ) (p : ℕ) → shape_at cs p ≡ None → parents n cs ms p ≡ []
no_parents zero cs ms p h = refl
no_parents (suc n) cs ms p h = ap (λ (s : Option Shape). parents_from ms (λ q. parents n cs (q ∷ ms) q) (parent_in s)) h

none_there : (b : Bool) (cs : List ClassDef) (p : ℕ) (ps : List ℕ) → slots_at cs p ≡ [] → ps ≡ [] → slots_of cs (if b then [] else p ∷ ps) ≡ []
none_there true cs p ps h k = refl
none_there false cs p ps h k = ap (λ (xs : List (List ℕ)). xs ++ slots_of cs ps) h ∙ ap (slots_of cs) k

-- the slots of the parents of a class are those that a walk comes to

walk_to : (cs : List ClassDef) (met : List Bool) (ms : List ℕ) (p : ℕ) (ps qs : ℕ → List ℕ) (f : Option Bool) → AreMet (length cs) met ms → slice_get met p ≡ f →
    (is_unmet (slice_get met p) ≡ true → slots_of cs (ps p) ≡ slots_of cs (qs p)) → (shape_at cs p ≡ None → ps p ≡ []) → slots_of cs (parents_from ms ps (Some p)) ≡ slots_of cs (and_others qs (if_unmet (is_unmet f) p))
walk_to cs met ms p ps qs (Some false) h is later out =
    ap (λ (b : Bool). slots_of cs (if b then [] else p ∷ ps p)) (sym (h.each p false is))
    ∙ ap (λ (xs : List (List ℕ)). slots_at cs p ++ xs) (later (ap is_unmet is))
walk_to cs met ms p ps qs (Some true) h is later out = ap (λ (b : Bool). slots_of cs (if b then [] else p ∷ ps p)) (sym (h.each p true is))
walk_to cs met ms p ps qs None h is later out =
    let past = none_past met p is in
    let counted = h.counted in
    let gone = no_shape cs p (omega (arith, past, counted)) in
    none_there (list_any (nat_eq p) ms) cs p (ps p) (ap slots_in gone) (out gone)

walk_from : (cs : List ClassDef) (met : List Bool) (ms : List ℕ) (ps qs : ℕ → List ℕ) (o : Option ℕ) → AreMet (length cs) met ms → ((p : ℕ) → is_unmet (slice_get met p) ≡ true → slots_of cs (ps p) ≡ slots_of cs (qs p)) → ((p : ℕ) → shape_at cs p ≡ None → ps p ≡ []) →
    slots_of cs (parents_from ms ps o) ≡ slots_of cs (and_others qs (unmet_in met o))
walk_from cs met ms ps qs None h later out = refl
walk_from cs met ms ps qs (Some p) h later out = walk_to cs met ms p ps qs (slice_get met p) h refl (later p) (out p)

pub walk_is : (n : ℕ) (cs : List ClassDef) (met : List Bool) (ms : List ℕ) (c : ℕ) → AreMet (length cs) met ms → slots_of cs (parents n cs ms c) ≡ slots_of cs (walk n cs met c)
walk_is zero cs met ms c h = refl
walk_is (suc n) cs met ms c h =
    walk_from cs met ms (λ p. parents n cs (p ∷ ms) p) (λ p. walk n cs (set met p true) p) (parent_in (shape_at cs c)) h
    (λ p fresh. walk_is n cs (set met p true) (p ∷ ms) p (met_more (length cs) met ms p h fresh))
    (λ p gone. no_parents n cs (p ∷ ms) p gone)

-- What a chain comes to.

pub chain_slots : (cs : List ClassDef) (c : ℕ) (met : List Bool) (before after : Chain) → AreMet (length cs) met (c ∷ []) → before.at ≡ c → before.bearers.items ≡ [] → (k : Climbs cs met before after) → inherited cs c ≡ slots_of cs after.bearers.items ++ k.rest
chain_slots cs c met before after h at none k =
    walk_is (length cs) cs met (c ∷ []) c h
    ∙ ap (λ (x : ℕ). slots_of cs (walk (length cs) cs met x)) (sym at)
    ∙ ap (λ (bs : List ℕ). slots_of cs bs ++ slots_of cs (walk (length cs) cs met before.at)) (sym none)
    ∙ k.slots

pub bears_none : (cs : List ClassDef) (c own : ℕ) (met : List Bool) (before after : Chain) → AreMet (length cs) met (c ∷ []) → before.at ≡ c → before.bearers.items ≡ [] → before.count ≡ own → Climbs cs met before after → most_slots < after.count →
    nat_lt most_slots (own + length (inherited cs c)) ≡ true
bears_none cs c own met before after h at none start k over =
    let many = over in
    let count = k.count in
    let start_none = ap (λ (bs : List ℕ). length (slots_of cs bs)) none in
    let all = ap length (chain_slots cs c met before after h at none k) ∙ length-append (slots_of cs after.bearers.items) k.rest in
    (Decides-ltb most_slots (own + length (inherited cs c))).1 (omega (arith, many, count, start_none, start, all))

pub bears_some : (cs : List ClassDef) (c own : ℕ) (met : List Bool) (before after : Chain) → AreMet (length cs) met (c ∷ []) → before.at ≡ c → before.bearers.items ≡ [] → before.count ≡ own → Climbs cs met before after → after.count ≤ most_slots →
    (nat_lt most_slots (own + length (inherited cs c)) ≡ false) × (slots_of cs after.bearers.items ≡ inherited cs c)
bears_some cs c own met before after h at none start k within =
    let same : inherited cs c ≡ slots_of cs after.bearers.items = chain_slots cs c met before after h at none k ∙ ap (λ (xs : List (List ℕ)). slots_of cs after.bearers.items ++ xs) (k.all (grind (arith, within))) ∙ append-nil (slots_of cs after.bearers.items) in
    let count = k.count in
    let start_none = ap (λ (bs : List ℕ). length (slots_of cs bs)) none in
    let all = ap length same in
    let total : after.count ≡ own + length (inherited cs c) = omega (arith, count, start_none, start, all) in
    (grind (arith, total, within), sym same)
