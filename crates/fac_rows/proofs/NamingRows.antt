-- For each effect there is a naming that gives its rows their numbers.
use Rattle.std.proofs.Common.{◌≡◌, ◌+◌, ◌≤◌, ℕ, zero, suc, List, [], ◌∷◌, length, Bool, true, false, ◌||◌, Option, Some, None, refl, sym, ap, ◌∙◌, arith, max}
use Rattle.std.specs.Prelude.{nat_eq}
use Rattle.std.proofs.lemmas.Bool.{eqb-true, eq-eqb}
use Rattle.std.proofs.lemmas.Slice.Eq.{bytes_eq-Decides}
use Rattle.fac_base.specs.Signatures.{Signature}
use Rattle.fac_abs.specs.RowVariables.{Row, hidden, named_row}
use Rattle.fac_abs.specs.MarkTrees.{Naming}
use Rattle.fac_rows.specs.RowNumbers.{sides, is_named, is_among, side_number, NamesOwn}

abbrev pub Side : Type 0
Side = Option (List ℕ)

-- the row variable of the side with this number
abbrev pub name_at : List Side → ℕ → Side
name_at [] k = None
name_at (s ∷ ss) zero = s
name_at (s ∷ ss) (suc k) = name_at ss k

-- a length that no row variable of these sides has
abbrev longest : List Side → ℕ
longest [] = 0
longest (None ∷ ss) = longest ss
longest (Some x ∷ ss) = max (length x) (longest ss)

-- a name of this length
abbrev name_long : ℕ → List ℕ
name_long zero = []
name_long (suc n) = 0 ∷ name_long n

long_is : (n : ℕ) → length (name_long n) ≡ n
long_is zero = refl
long_is (suc n) = ap suc (long_is n)

-- a name for a number that no row of the effect has
abbrev fresh : List Side → ℕ → List ℕ
fresh ss k = name_long (suc (longest ss + k))

-- the row of a number: the row variable of its side, where that is the first side that has it
abbrev first_or_fresh : List Side → ℕ → List ℕ → Bool → Row
first_or_fresh ss k x true = named_row x
first_or_fresh ss k x false = named_row (fresh ss k)

abbrev row_at : List Side → ℕ → Side → Row
row_at ss k None = named_row (fresh ss k)
row_at ss k (Some x) = first_or_fresh ss k x (nat_eq (side_number 1 x ss) (suc k))

abbrev numbered : List Side → ℕ → Row
numbered ss zero = hidden
numbered ss (suc k) = row_at ss k (name_at ss k)

-- How a number comes to its row.
data Comes (ss : List Side) (k : ℕ) (r : Row) : Type 0 where
  is_first : (x : List ℕ) → name_at ss k ≡ Some x → side_number 1 x ss ≡ suc k → r ≡ named_row x → Comes ss k r
  is_fresh : r ≡ named_row (fresh ss k) → Comes ss k r

comes_if : (ss : List Side) (k : ℕ) (x : List ℕ) (b : Bool) → name_at ss k ≡ Some x → nat_eq (side_number 1 x ss) (suc k) ≡ b → Comes ss k (first_or_fresh ss k x b)
comes_if ss k x true e f = is_first x e (eqb-true (side_number 1 x ss) (suc k) f) refl
comes_if ss k x false e f = is_fresh refl

comes_by : (ss : List Side) (k : ℕ) (s : Side) → name_at ss k ≡ s → Comes ss k (row_at ss k s)
comes_by ss k None e = is_fresh refl
comes_by ss k (Some x) e = comes_if ss k x (nat_eq (side_number 1 x ss) (suc k)) e refl

comes : (ss : List Side) (k : ℕ) → Comes ss k (numbered ss (suc k))
comes ss k = comes_by ss k (name_at ss k) refl

name_short : (ss : List Side) (k : ℕ) (x : List ℕ) → name_at ss k ≡ Some x → length x ≤ longest ss
name_short [] k x e = absurd (cc)
name_short (None ∷ ss) zero x e = absurd (cc)
name_short (Some y ∷ ss) zero x e = (let same : y ≡ x = cc in let l : length y ≡ length x = ap length same in omega (arith, l))
name_short (None ∷ ss) (suc k) x e = name_short ss k x e
name_short (Some y ∷ ss) (suc k) x e = (let l = name_short ss k x e in omega (arith, l))

-- a name of the effect is no fresh one
not_fresh : (ss : List Side) (j k : ℕ) (x : List ℕ) → name_at ss j ≡ Some x → x ≡ fresh ss k → ⊥
not_fresh ss j k x e f =
    let short = name_short ss j x e in
    let long : length x ≡ suc (longest ss + k) = ap length f ∙ long_is (suc (longest ss + k)) in
    omega (arith, short, long)

apart_by : (ss : List Side) (j k : ℕ) (r s : Row) → Comes ss j r → Comes ss k s → r ≡ s → suc j ≡ suc k
apart_by ss j k r s (is_first x e f g) (is_first y h i l) same = (let names : x ≡ y = (let q : named_row x ≡ named_row y = sym g ∙ same ∙ l in cc) in sym f ∙ ap (λ z. side_number 1 z ss) names ∙ i)
apart_by ss j k r s (is_first x e f g) (is_fresh h) same = absurd (not_fresh ss j k x e (let q : named_row x ≡ named_row (fresh ss k) = sym g ∙ same ∙ h in cc))
apart_by ss j k r s (is_fresh g) (is_first y h i l) same = absurd (not_fresh ss k j y h (let q : named_row y ≡ named_row (fresh ss j) = sym l ∙ sym same ∙ g in cc))
apart_by ss j k r s (is_fresh g) (is_fresh h) same =
    let names : fresh ss j ≡ fresh ss k = (let q : named_row (fresh ss j) ≡ named_row (fresh ss k) = sym g ∙ same ∙ h in cc) in
    let long : suc (longest ss + j) ≡ suc (longest ss + k) = sym (long_is (suc (longest ss + j))) ∙ ap length names ∙ long_is (suc (longest ss + k)) in
    omega (arith, long)

not_hidden : (ss : List Side) (k : ℕ) (r : Row) → Comes ss k r → hidden ≡ r → ⊥
not_hidden ss k r (is_first x e f g) same = (let q : hidden ≡ named_row x = same ∙ g in absurd (cc))
not_hidden ss k r (is_fresh g) same = (let q : hidden ≡ named_row (fresh ss k) = same ∙ g in absurd (cc))

numbers_apart : (ss : List Side) (j k : ℕ) → numbered ss j ≡ numbered ss k → j ≡ k
numbers_apart ss zero zero e = refl
numbers_apart ss zero (suc k) e = absurd (not_hidden ss k (numbered ss (suc k)) (comes ss k) e)
numbers_apart ss (suc j) zero e = absurd (not_hidden ss j (numbered ss (suc j)) (comes ss j) (sym e))
numbers_apart ss (suc j) (suc k) e = apart_by ss j k (numbered ss (suc j)) (numbered ss (suc k)) (comes ss j) (comes ss k) e

-- the first side that has a row variable
pub record HasFirst (ss : List Side) (n : ℕ) (x : List ℕ) : Type 0 where
  pub index : ℕ
  pub number_is : side_number n x ss ≡ n + index
  pub name_is : name_at ss index ≡ Some x

first_here : (n : ℕ) (x : List ℕ) (s : Side) (ss : List Side) (b : Bool) → is_named x s ≡ b → (b || is_among x ss) ≡ true → (is_among x ss ≡ true → HasFirst ss (suc n) x) → HasFirst (s ∷ ss) n x
first_here n x None ss true e h more = absurd (cc)
first_here n x (Some y) ss true e h more =
    (let same : x ≡ y = grind (arith, bytes_eq-Decides x y, e) in record { index = 0; number_is = rw (e, side_number) (omega arith); name_is = ap Some (sym same) })
first_here n x s ss false e h more =
    (let found = more h in record { index = suc found.index; number_is = rw (e, side_number) (found.number_is ∙ (omega arith)); name_is = found.name_is })

pub has_first : (n : ℕ) (x : List ℕ) (ss : List Side) → is_among x ss ≡ true → HasFirst ss n x
has_first n x [] h = absurd (cc)
has_first n x (s ∷ ss) h = first_here n x s ss (is_named x s) refl h (λ g. has_first (suc n) x ss g)

named_there : (x : List ℕ) (ss : List Side) → is_among x ss ≡ true → numbered ss (side_number 1 x ss) ≡ named_row x
named_there x ss h =
    let first = has_first 1 x ss h in
    let number : side_number 1 x ss ≡ suc first.index = first.number_is ∙ (omega arith) in
    let same = eq-eqb (side_number 1 x ss) (suc first.index) number in
    ap (numbered ss) number ∙ ap (row_at ss first.index) first.name_is ∙ ap (first_or_fresh ss first.index x) same

-- the rows of numbers where a row word of this effect is checked, and where none is
abbrev own_row : Naming → Option Signature → ℕ → Row
own_row N None k = N.row k
own_row N (Some e) k = numbered (sides e) k

pub own_apart : (N : Naming) (o : Option Signature) (j k : ℕ) → own_row N o j ≡ own_row N o k → j ≡ k
own_apart N None j k e = N.rows_apart j k e
own_apart N (Some e) j k q = numbers_apart (sides e) j k q

-- with the literals of a naming
abbrev pub naming_for : Naming → Option Signature → Naming
naming_for N o = record { literal = N.literal; apart = N.apart; phrase = N.phrase; cells_apart = N.cells_apart; marked = N.marked; row = own_row N o; rows_apart = own_apart N o }

pub naming_for_names : (N : Naming) (o : Option Signature) → NamesOwn (naming_for N o) o
naming_for_names N None = tt
naming_for_names N (Some e) = record { hidden_row = refl; named_rows = λ x h. named_there x (sides e) h }
