-- Joins and covers of stacks on their bases.
use Rattle.std.proofs.Common.{◌≡◌, ℕ, List, length, Bool, true, false, Option, Some, None, refl, sym, ap, ◌∙◌}
use Rattle.std.specs.Prelude.{nat_eq, ◌&&◌}
use Rattle.std.proofs.lemmas.Bool.{eq-eqb}
use Rattle.fac_lang.specs.Phrases.{Mark}
use Rattle.fac_abs.specs.RowVariables.{Row, hidden, named_row, row_eq}
use Rattle.fac_abs.specs.Marks.{AbstractStack, on, base_eq, join_marks, cover_marks, joined, covered}
use Rattle.fac_abs.specs.MarkTrees.{Naming}
use Rattle.fac_abs.specs.SeenMarks.{MarksSeen, stack_of, base_seen}
use Rattle.fac_abs.specs.MarkPromises.{IsJoined, IsReachedWhere}
use Rattle.fac_abs.specs.declared.reached.Reached.TheVariants.{On}
use Rattle.fac_abs.proofs.EqualMarks.{length_same, row_same}
use Rattle.fac_abs.proofs.MoveLemmas.{bytes_alike}

row_itself : (r : Row) → row_eq r r ≡ true
row_itself hidden = refl
row_itself (named_row x) = bytes_alike x

-- two numbers are equal where their rows are
pub same_rows : (N : Naming) (x y : ℕ) → nat_eq x y ≡ row_eq (N.row x) (N.row y)
same_rows N x y = by_tests (nat_eq x y) (row_eq (N.row x) (N.row y)) refl refl
  where
    by_tests : (p q : Bool) → nat_eq x y ≡ p → row_eq (N.row x) (N.row y) ≡ q → p ≡ q
    by_tests true true e f = refl
    by_tests false false e f = refl
    by_tests true false e f = sym (row_itself (N.row x)) ∙ ap (λ k. row_eq (N.row x) (N.row k)) (length_same x y e) ∙ f
    by_tests false true e f = sym e ∙ eq-eqb x y (N.rows_apart x y (row_same (N.row x) (N.row y) f))

-- a stack where a test holds
abbrev some_if : Bool → AbstractStack → Option AbstractStack
some_if q A = elim q [ true ↦ Some A | false ↦ None ]

none_first : (q r : Bool) (A : AbstractStack) → false ≡ q → some_if (q && r) A ≡ None
none_first true r A e = absurd cc
none_first false r A e = refl

none_second : (q r : Bool) (A : AbstractStack) → r ≡ false → some_if (q && r) A ≡ None
none_second true r A e = ap (λ t. some_if t A) e
none_second false r A e = refl

some_both : (q r : Bool) (A : AbstractStack) → true ≡ q → r ≡ true → some_if (q && r) A ≡ Some A
some_both true r A e f = ap (λ t. some_if t A) f
some_both false r A e f = absurd cc

both_tests : (q r t : Bool) → true ≡ q → t ≡ r → t ≡ (q && r)
both_tests true r t e f = f
both_tests false r t e f = absurd cc

no_test : (q r : Bool) → false ≡ q → false ≡ (q && r)
no_test true r e = absurd cc
no_test false r e = refl

module _ (b c : Option Row) (ms ns : List Mark) where
  pub apart_bases : false ≡ base_eq b c → joined (on b ms) (on c ns) ≡ None
  apart_bases e = none_first (base_eq b c) (nat_eq (length ms) (length ns)) (on b (join_marks ms ns)) e

  pub apart_heights : nat_eq (length ms) (length ns) ≡ false → joined (on b ms) (on c ns) ≡ None
  apart_heights e = none_second (base_eq b c) (nat_eq (length ms) (length ns)) (on b (join_marks ms ns)) e

  pub joined_both : true ≡ base_eq b c → nat_eq (length ms) (length ns) ≡ true → joined (on b ms) (on c ns) ≡ Some (on b (join_marks ms ns))
  joined_both e f = some_both (base_eq b c) (nat_eq (length ms) (length ns)) (on b (join_marks ms ns)) e f

  pub covers_bases : (t : Bool) → true ≡ base_eq b c → t ≡ (nat_eq (length ms) (length ns) && cover_marks ms ns) → t ≡ covered (on b ms) (on c ns)
  covers_bases t e f = both_tests (base_eq b c) (nat_eq (length ms) (length ns) && cover_marks ms ns) t e f

  pub covers_none : false ≡ base_eq b c → false ≡ covered (on b ms) (on c ns)
  covers_none e = no_test (base_eq b c) (nat_eq (length ms) (length ns) && cover_marks ms ns) e

-- the join of two stacks on one base
pub joined_on : (M L : MarksSeen) (a b : Option ℕ) (s t u : ℕ) → ((N : Naming) → true ≡ base_eq (base_seen N a) (base_seen N b)) → IsJoined M L s t u → IsReachedWhere L (Some (On a u)) (λ N. joined (on (base_seen N a) (stack_of N M s)) (on (base_seen N b) (stack_of N M t)))
joined_on M L a b s t u base h = (h.valid, λ N. joined_both (base_seen N a) (base_seen N b) (stack_of N M s) (stack_of N M t) (base N) (h.heights N) ∙ ap (λ ms. Some (on (base_seen N a) ms)) (sym (h.is N)))
