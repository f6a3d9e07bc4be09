-- Rows that are bound, as marks grow, and how they are found and tied.
use Rattle.std.proofs.Common.{◌≡◌, ◌≤◌, ℕ, ◌+◌, ◌-◌, List, [], ◌∷◌, length, drop, Bool, true, false, refl, sym, ap, ◌∙◌, Option, Some, None, Result, Ok, Err, IfOk, OnOk, arith, length-drop, subst}
use Rattle.std.specs.Prelude.{nat_eq, nat_lt, ◌&&◌, not}
use Rattle.std.proofs.lemmas.Bool.{eqb-true, eq-eqb, ltb-true, lt-ltb}
use Rattle.fac_lang.specs.Phrases.{Mark}
use Rattle.fac_base.specs.Signatures.{Signature, signature, Inputs, Leaving, never}
use Rattle.fac_abs.specs.RowVariables.{Row, hidden, named_row, row_eq, row_of, leaving_row, row_name, effect_leaving, has_rows, outer_in, outer_out}
use Rattle.fac_abs.specs.InTurn.{under}
use Rattle.fac_abs.specs.Marks.{AbstractStack, dead, on, base_eq, cover_marks, covered}
use Rattle.fac_abs.specs.MarkTrees.{Naming}
use Rattle.fac_abs.specs.SeenMarks.{MarksSeen, stack_of, base_seen, reached_seen, IsReached, Grows}
use Rattle.fac_abs.specs.MarkPromises.{IsReachedWhere, IsStackWhere}
use Rattle.fac_abs.specs.declared.reached.Reached.{Reached}
use Rattle.fac_abs.specs.declared.reached.Reached.TheVariants.{Dead, On}
use Rattle.fac_abs.specs.declared.rule.Rule.{Rule}
use Rattle.fac_abs.specs.declared.rule.Rule.TheVariants.{Rows}
use Rattle.fac_abs.proofs.CallerLemmas.{under_short, under_long, under_drop}
use Rattle.fac_rows.specs.RowBinding.{Binding, bound_to, row_bound, row_result, stack_or_dead, leaving_on, tied, untied, tied_if, tie, tie_row, row_binding}
use Rattle.fac_rows.specs.SeenBindings.{binding_seen, IsBinding, IsTie}
use Rattle.fac_rows.specs.inner.Ties.{covers_rest, IsTieBy, IsTieOfRow}

-- what is bound stays bound to the same
later : (M L : MarksSeen) (A : Reached) → Grows M L → IsReached M A → IsReached L A
later M L Dead g h = tt
later M L (On b s) g h = g.stacks s h

same_later : (N : Naming) (M L : MarksSeen) (A : Reached) → Grows M L → IsReached M A → reached_seen N L A ≡ reached_seen N M A
same_later N M L Dead g h = refl
same_later N M L (On b s) g h = ap (on (base_seen N b)) (g.same_stack N s h)

pub binding_later : (M L : MarksSeen) (bs : List (Row × Reached)) → Grows M L → IsBinding M bs → IsBinding L bs
binding_later M L [] g h = tt
binding_later M L (b ∷ bs) g h = (later M L b.1 g h.0, binding_later M L bs g h.1)

pub binding_same : (N : Naming) (M L : MarksSeen) (bs : List (Row × Reached)) → Grows M L → IsBinding M bs → binding_seen N L bs ≡ binding_seen N M bs
binding_same N M L [] g h = refl
binding_same N M L (b ∷ bs) g h = ap (λ (A : AbstractStack). (b.0, A) ∷ binding_seen N L bs) (same_later N M L b.1 g h.0) ∙ ap (λ (cs : Binding). (b.0, reached_seen N M b.1) ∷ cs) (binding_same N M L bs g h.1)

-- what is found
module _ (M : MarksSeen) (r : Row) where
  -- where the first of those that are bound is tested
  abbrev at_test : Bool → Reached → Option Reached → Option Reached
  at_test q A o = elim q [ true ↦ Some A | false ↦ o ]

  abbrev seen_test : Bool → AbstractStack → Option AbstractStack → Option AbstractStack
  seen_test q A o = elim q [ true ↦ Some A | false ↦ o ]

  found : (o : Option Reached) (bs : List (Row × Reached)) → o ≡ bound_to r bs → IsBinding M bs → IsReachedWhere M o (λ N. bound_to r (binding_seen N M bs))
  found None [] e h = λ N. refl
  found (Some A) [] e h = absurd (cc)
  found o (b ∷ bs) e h = by_test (row_eq r b.0) o e (λ p f. found p bs f h.1)
    where
      by_test : (q : Bool) (p : Option Reached) → p ≡ at_test q b.1 (bound_to r bs) → ((t : Option Reached) → t ≡ bound_to r bs → IsReachedWhere M t (λ N. bound_to r (binding_seen N M bs))) → IsReachedWhere M p (λ N. seen_test q (reached_seen N M b.1) (bound_to r (binding_seen N M bs)))
      by_test true None f go = absurd (cc)
      by_test true (Some A) f go = let same : A ≡ b.1 = cc in subst (λ (B : Reached). IsReached M B × ((N : Naming) → Some (reached_seen N M b.1) ≡ Some (reached_seen N M B))) (sym same) (h.0, λ N. refl)
      by_test false p f go = go p f

pub found_where : (M : MarksSeen) (r : Row) (bs : List (Row × Reached)) (o : Option Reached) → o ≡ bound_to r bs → IsBinding M bs → IsReachedWhere M o (λ N. bound_to r (binding_seen N M bs))
found_where M r bs o e h = found M r o bs e h

-- an outer row
pub first_there : (M : MarksSeen) (r : Option Row) (A : Reached) (bs : List (Row × Reached)) → bs ≡ row_binding r A → IsReached M A → IsBinding M bs
first_there M None A bs e h = rw e tt
first_there M (Some r) A bs e h = rw e (h, tt)

pub first_is : (N : Naming) (M : MarksSeen) (r : Option Row) (A : Reached) (bs : List (Row × Reached)) → bs ≡ row_binding r A → binding_seen N M bs ≡ row_binding r (reached_seen N M A)
first_is N M None A bs e = rw e refl
first_is N M (Some r) A bs e = rw e refl

-- tests of numbers
pub not_equal : (a b : ℕ) → (a ≡ b → ⊥) → nat_eq a b ≡ false
not_equal a b h = by_test (nat_eq a b) refl
  where
    by_test : (q : Bool) → nat_eq a b ≡ q → q ≡ false
    by_test true e = absurd (h (eqb-true a b e))
    by_test false e = refl

same_tests : (a b c d : ℕ) → (a ≡ b → c ≡ d) → (c ≡ d → a ≡ b) → nat_eq a b ≡ nat_eq c d
same_tests a b c d f g = by_test (nat_eq a b) refl
  where
    by_test : (q : Bool) → nat_eq a b ≡ q → q ≡ nat_eq c d
    by_test true e = sym (eq-eqb c d (f (eqb-true a b e)))
    by_test false e = sym (not_equal c d (λ h. absurd (not_true (sym e ∙ eq-eqb a b (g h)))))
      where
        not_true : false ≡ true → ⊥
        not_true k = cc

-- what is bound against what stands below the outputs
no_cover : (p q r : Bool) → q ≡ false → false ≡ (p && (q && r))
no_cover true q r e = ap (λ t. t && r) (sym e)
no_cover false q r e = refl

pub short_covers : (A : AbstractStack) (outs : ℕ) (b : Option Row) (ms : List Mark) → under outs ms ≡ None → false ≡ covers_rest A outs b ms
short_covers dead outs b ms e = refl
short_covers (on c rs) outs b ms e =
    let short = under_short outs ms e in
    no_cover (base_eq c b) (nat_eq (length ms) (length rs + outs)) (cover_marks rs (drop outs ms)) (not_equal (length ms) (length rs + outs) (λ f. omega (arith, f, short)))

pub rest_covers : (t : Bool) (A : AbstractStack) (outs : ℕ) (b : Option Row) (ms xs : List Mark) → under outs ms ≡ Some xs → t ≡ covered A (on b xs) → t ≡ covers_rest A outs b ms
rest_covers t dead outs b ms xs e f = f
rest_covers t (on c rs) outs b ms xs e f =
    let rest : xs ≡ drop outs ms = under_drop outs ms xs e in
    let long : outs ≤ length ms = under_long outs ms xs e in
    let left : length xs ≡ length ms - outs = ap length rest ∙ length-drop outs ms in
    let tests : nat_eq (length rs) (length xs) ≡ nat_eq (length ms) (length rs + outs) = same_tests (length rs) (length xs) (length ms) (length rs + outs) (λ h. omega (arith, h, left, long)) (λ h. omega (arith, h, left, long)) in
    f ∙ ap (λ (q : Bool). base_eq c b && (q && cover_marks rs xs)) tests ∙ ap (λ (ys : List Mark). base_eq c b && (nat_eq (length ms) (length rs + outs) && cover_marks rs ys)) rest

-- a row that nothing is bound to
module _ (M : MarksSeen) (k outs : ℕ) (r : Row) (A : Reached) (bs : List (Row × Reached)) (free : (N : Naming) → bound_to r (binding_seen N M bs) ≡ None) where
  pub free_dead : (cs : List (Row × Reached)) → A ≡ Dead → cs ≡ (r, Dead) ∷ bs → IsBinding M bs → IsTieOfRow M k outs r A bs cs None
  free_dead cs e f h = rw (e, f) ((tt, h), λ N. ap (λ (o : Option AbstractStack). tie_row k outs r o dead (binding_seen N M bs)) (free N))

  few : (N : Naming) (b : Option Row) (ms : List Mark) → under outs ms ≡ None → tie_row k outs r None (on b ms) (binding_seen N M bs) ≡ untied (Rows k outs (length ms))
  few N b ms e = ap (λ (q : Bool). tied_if (not q) ((r, on b (drop outs ms)) ∷ binding_seen N M bs) (Rows k outs (length ms))) (lt-ltb (length ms) outs (under_short outs ms e))

  enough : (N : Naming) (b : Option Row) (ms xs : List Mark) → under outs ms ≡ Some xs → tie_row k outs r None (on b ms) (binding_seen N M bs) ≡ tied ((r, on b xs) ∷ binding_seen N M bs)
  enough N b ms xs e =
      ap (λ (q : Bool). tied_if (not q) ((r, on b (drop outs ms)) ∷ binding_seen N M bs) (Rows k outs (length ms))) (by_test (nat_lt (length ms) outs) refl) ∙ ap (λ (ys : List Mark). tied ((r, on b ys) ∷ binding_seen N M bs)) (sym (under_drop outs ms xs e))
    where
      by_test : (q : Bool) → nat_lt (length ms) outs ≡ q → q ≡ false
      by_test true f = absurd (omega (arith, ltb-true (length ms) outs f, under_long outs ms xs e))
      by_test false f = refl

  pub free_few : (b : Option ℕ) (s : ℕ) (rule : Rule) → A ≡ On b s → ((N : Naming) → under outs (stack_of N M s) ≡ None) → ((N : Naming) → rule ≡ Rows k outs (length (stack_of N M s))) → IsTieOfRow M k outs r A bs bs (Some rule)
  free_few b s rule e short is = rw e (refl, λ N. ap (λ (o : Option AbstractStack). tie_row k outs r o (on (base_seen N b) (stack_of N M s)) (binding_seen N M bs)) (free N) ∙ few N (base_seen N b) (stack_of N M s) (short N) ∙ ap untied (sym (is N)))

  pub free_rest : (b : Option ℕ) (s t : ℕ) (cs : List (Row × Reached)) → A ≡ On b s → IsStackWhere M (Some t) (λ N. under outs (stack_of N M s)) → cs ≡ (r, On b t) ∷ bs → IsBinding M bs → IsTieOfRow M k outs r A bs cs None
  free_rest b s t cs e below f h =
      rw (e, f) ((below.0, h), λ N. ap (λ (o : Option AbstractStack). tie_row k outs r o (on (base_seen N b) (stack_of N M s)) (binding_seen N M bs)) (free N) ∙ enough N (base_seen N b) (stack_of N M s) (stack_of N M t) (below.1 N))

-- what a call did holds, where something follows from it
pub on_ok : {E A P Q : Type 0} (r : Result A E) → (P → Q) → OnOk r P → OnOk r Q
on_ok (Ok x) f h = f h
on_ok (Err e) f h = tt

-- the outer input row, by the side where it is written
pub named_outer : (r : Option (List ℕ)) (is : Inputs) (l : Leaving) (x : List ℕ) → r ≡ Some x → outer_in (signature r is l) ≡ Some (named_row x)
named_outer None is l x e = absurd (cc)
named_outer (Some y) is l x e = ap row_of e

pub hidden_outer : (e : Signature) → false ≡ has_rows e → outer_in e ≡ Some hidden
hidden_outer (signature r is l) e = ap (λ (t : Bool). let o : Option Row = elim t [ true ↦ row_of r | false ↦ Some hidden ] in o) (sym e)

pub first_bound : (r : Option Row) (s : Row) (A : Reached) (old new : List (Row × Reached)) → r ≡ Some s → old ≡ [] → new ≡ (s, A) ∷ old → new ≡ row_binding r A
first_bound r s A old new e f g = g ∙ ap (λ (bs : List (Row × Reached)). (s, A) ∷ bs) f ∙ ap (λ (t : Option Row). row_binding t A) (sym e)

pub hidden_out : (e : Signature) → false ≡ has_rows e → outer_out e ≡ Some hidden
hidden_out (signature r is l) e = ap (λ (t : Bool). let o : Option Row = elim t [ true ↦ leaving_row l | false ↦ Some hidden ] in o) (sym e)

-- what an input left that is declared never to return
pub never_tied : (M : MarksSeen) (k : ℕ) (e : Signature) (A : Reached) (bs : List (Row × Reached)) (o : Option Rule) → effect_leaving e ≡ never → IsTieBy M A o (λ N. tie k (row_name e) never) → IsBinding M bs → IsTie M k e A bs bs o
never_tied M k e A bs None f h there = (there, λ N. ap (λ (l : Leaving). tie k (row_name e) l (reached_seen N M A) (binding_seen N M bs)) f ∙ h N (binding_seen N M bs))
never_tied M k e A bs (Some rule) f h there = (refl, λ N. ap (λ (l : Leaving). tie k (row_name e) l (reached_seen N M A) (binding_seen N M bs)) f ∙ h N (binding_seen N M bs))

-- what an input left, against what its row is bound to
one_tied : (M : MarksSeen) (k outs : ℕ) (r : Row) (A B : Reached) (bs : List (Row × Reached)) (o : Option Rule) → IsTieBy M B o (λ N. tie_row k outs r (Some (reached_seen N M A))) → IsBinding M bs → ((N : Naming) → bound_to r (binding_seen N M bs) ≡ Some (reached_seen N M A)) → IsTieOfRow M k outs r B bs bs o
one_tied M k outs r A B bs None h there bound = (there, λ N. ap (λ (t : Option AbstractStack). tie_row k outs r t (reached_seen N M B) (binding_seen N M bs)) (bound N) ∙ h N (binding_seen N M bs))
one_tied M k outs r A B bs (Some rule) h there bound = (refl, λ N. ap (λ (t : Option AbstractStack). tie_row k outs r t (reached_seen N M B) (binding_seen N M bs)) (bound N) ∙ h N (binding_seen N M bs))

pub bound_tied : {E : Type 0} (M : MarksSeen) (k outs : ℕ) (r : Row) (A B : Reached) (bs : List (Row × Reached)) (res : Result (Option Rule) E) → IfOk res (λ o. (s : Row) → IsTieBy M B o (λ N. tie_row k outs s (Some (reached_seen N M A)))) → IsBinding M bs → ((N : Naming) → bound_to r (binding_seen N M bs) ≡ Some (reached_seen N M A)) → IfOk res (λ o. IsTieOfRow M k outs r B bs bs o)
bound_tied M k outs r A B bs (Ok o) h there bound = one_tied M k outs r A B bs o (h r) there bound
bound_tied M k outs r A B bs (Err e) h there bound = tt

-- what a use leaves
pub result_dead : (e : Signature) (bs : Binding) → row_bound (outer_out e) bs ≡ Some dead → dead ≡ row_result e bs
result_dead e bs f = ap (λ (o : Option AbstractStack). let A : AbstractStack = elim (stack_or_dead o) [ dead ↦ dead | on b ms ↦ leaving_on (effect_leaving e) b ms ] in A) (sym f)

pub result_on : (e : Signature) (l : Leaving) (bs : Binding) (b : Option Row) (ms : List Mark) → l ≡ effect_leaving e → row_bound (outer_out e) bs ≡ Some (on b ms) → leaving_on l b ms ≡ row_result e bs
result_on e l bs b ms f g = ap (λ (t : Leaving). leaving_on t b ms) f ∙ ap (λ (o : Option AbstractStack). let A : AbstractStack = elim (stack_or_dead o) [ dead ↦ dead | on c ns ↦ leaving_on (effect_leaving e) c ns ] in A) (sym g)

pub if_ok : {E A : Type 0} (P Q : A → Type 0) (r : Result A E) → ((x : A) → P x → Q x) → IfOk r P → IfOk r Q
if_ok P Q (Ok x) f h = f x h
if_ok P Q (Err e) f h = tt
