-- Marks that are taken one by one, and which input a mark is.
use Rattle.std.proofs.Common.{◌≡◌, ◌<◌, ℕ, zero, suc, ◌-◌, List, [], ◌∷◌, Bool, true, false, refl, sym, ap, ◌∙◌, None, arith}
use Rattle.std.specs.Prelude.{nat_eq}
use Rattle.std.proofs.lemmas.Bool.{eqb-true}
use Rattle.fac_lang.specs.Phrases.{Mark, any, lit_mark, cur_mark, com_mark, wrd_mark, par_mark}
use Rattle.fac_abs.specs.Marks.{mark_eq, popped}
use Rattle.fac_abs.specs.MarkTrees.{Naming}
use Rattle.fac_abs.specs.SeenMarks.{MarksSeen, mark_of, stack_of, Grows}
use Rattle.fac_abs.specs.MarkPromises.{HasTop, IsStackOf}
use Rattle.fac_abs.proofs.EqualMarks.{mark_same}
use Rattle.fac_abs.proofs.MoveLemmas.{mark_itself}

pub popped_empty : (n : ℕ) (ts xs : List Mark) → 0 < n → xs ≡ [] → popped n ts xs ≡ None
popped_empty zero ts xs h e = absurd (omega (arith, h))
popped_empty (suc n) ts xs h e = rw e refl

pub popped_next : (n : ℕ) (ts xs ys : List Mark) (x : Mark) → 0 < n → xs ≡ x ∷ ys → popped n ts xs ≡ popped (n - 1) (x ∷ ts) ys
popped_next zero ts xs ys x h e = absurd (omega (arith, h))
popped_next (suc n) ts xs ys x h e = let less : n ≡ suc n - 1 = omega arith in rw e (ap (λ (k : ℕ). popped k (x ∷ ts) ys) less)

-- one mark more is taken
pub take_step : (N : Naming) (M L : MarksSeen) (n inputs rest mark below more : ℕ) → 0 < n → HasTop M rest mark below → Grows M L → IsStackOf L more (λ N. mark_of N M mark ∷ stack_of N M inputs) → popped n (stack_of N M inputs) (stack_of N M rest) ≡ popped (n - 1) (stack_of N L more) (stack_of N L below)
take_step N M L n inputs rest mark below more h top grows made =
    popped_next n (stack_of N M inputs) (stack_of N M rest) (stack_of N M below) (mark_of N M mark) h (top.is N) ∙ ap (λ (ts : List Mark). popped (n - 1) ts (stack_of N M below)) (sym (made.is N)) ∙ ap (λ (xs : List Mark). popped (n - 1) (stack_of N L more) xs) (sym (grows.same_stack N below top.rest))

-- which input a mark is
same_input : (j k : ℕ) → par_mark j ≡ par_mark k → j ≡ k
same_input j k e = cc

pub par_is : (m : Mark) (j k : ℕ) → m ≡ par_mark j → nat_eq j k ≡ mark_eq m (par_mark k)
par_is m j k e = rw e (by_tests (nat_eq j k) (mark_eq (par_mark j) (par_mark k)) refl refl)
  where
    by_tests : (p q : Bool) → nat_eq j k ≡ p → mark_eq (par_mark j) (par_mark k) ≡ q → p ≡ q
    by_tests true true f g = refl
    by_tests false false f g = refl
    by_tests true false f g = sym (mark_itself (par_mark j)) ∙ ap (λ (i : ℕ). mark_eq (par_mark j) (par_mark i)) (eqb-true j k f) ∙ g
    by_tests false true f g = sym f ∙ ap (λ (i : ℕ). nat_eq j i) (sym (same_input j k (mark_same (par_mark j) (par_mark k) g))) ∙ itself j
      where
        itself : (i : ℕ) → nat_eq i i ≡ true
        itself i = grind arith

pub no_par : (m : Mark) (k : ℕ) → (m ≡ par_mark k → ⊥) → false ≡ mark_eq m (par_mark k)
no_par m k h = by_test (mark_eq m (par_mark k)) refl
  where
    by_test : (q : Bool) → mark_eq m (par_mark k) ≡ q → false ≡ q
    by_test true e = absurd (h (mark_same m (par_mark k) e))
    by_test false e = refl

pub any_is : (m : Mark) (k : ℕ) → m ≡ any → false ≡ mark_eq m (par_mark k)
any_is m k e = no_par m k (λ f. absurd (never (sym e ∙ f)))
  where
    never : any ≡ par_mark k → ⊥
    never f = cc

pub lit_is : (m : Mark) (k : ℕ) (q : _) (t : _) → m ≡ lit_mark q t → false ≡ mark_eq m (par_mark k)
lit_is m k q t e = no_par m k (λ f. absurd (never (sym e ∙ f)))
  where
    never : lit_mark q t ≡ par_mark k → ⊥
    never f = cc

pub cur_is : (m a b : Mark) (k : ℕ) → m ≡ cur_mark a b → false ≡ mark_eq m (par_mark k)
cur_is m a b k e = no_par m k (λ f. absurd (never (sym e ∙ f)))
  where
    never : cur_mark a b ≡ par_mark k → ⊥
    never f = cc

pub com_is : (m a b : Mark) (k : ℕ) → m ≡ com_mark a b → false ≡ mark_eq m (par_mark k)
com_is m a b k e = no_par m k (λ f. absurd (never (sym e ∙ f)))
  where
    never : com_mark a b ≡ par_mark k → ⊥
    never f = cc

pub wrd_is : (m : Mark) (k w : ℕ) → m ≡ wrd_mark w → false ≡ mark_eq m (par_mark k)
wrd_is m k w e = no_par m k (λ f. absurd (never (sym e ∙ f)))
  where
    never : wrd_mark w ≡ par_mark k → ⊥
    never f = cc
