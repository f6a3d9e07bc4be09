-- Rows that are named by their numbers are told apart as they were.
use Rattle.std.proofs.Common.{◌≡◌, ◌<◌, ◌≤◌, ◌+◌, ◌*◌, ◌/◌, ◌%◌, ℕ, zero, suc, List, [], ◌∷◌, ◌++◌, length, get_or, map, Bool, true, false, refl, sym, ap, ◌∙◌, Option, Some, None, arith}
use Rattle.std.specs.Prelude.{◌||◌}
use Rattle.std.specs.Str.{bytes_eq}
use Rattle.std.proofs.lemmas.Nat.{div-add-mod'}
use Rattle.fac_base.proofs.SameBytes.{same_bytes}
use Rattle.fac_base.specs.declared.effect.Input.{Input}
use Rattle.fac_base.specs.EffectView.{inputs_tree}
use Rattle.fac_base.specs.Signatures.{Signature, signature, Inputs, no_inputs, value, quoted, Leaving, never, leaves, signature_depth, inputs_depth}
use Rattle.fac_base.specs.Effects.{inputs_count}
use Rattle.fac_abs.specs.RowVariables.{row_name, row_of, some_row, leaving_row, has_rows, inputs_rows, effect_inputs, effect_leaving, input_effect}
use Rattle.fac_abs.proofs.MoveLemmas.{bytes_alike}
use Rattle.fac_rows.specs.RowNumbers.{leaving_name, inputs_sides, sides, is_named, is_among, side_number}
use Rattle.fac_rows.specs.NumberedRows.{number_name, numbered_side, numbered_leaving, numbered_within, numbered_inputs, numbered}
use Rattle.fac_rows.proofs.NamingRows.{Side, name_at, has_first}

-- numbers whose names are the same
same_number : (m n : ℕ) → (m / 128 ∷ m % 128 ∷ []) ≡ (n / 128 ∷ n % 128 ∷ []) → m ≡ n
same_number m n e =
    let high : m / 128 ≡ n / 128 = cc in
    let low : m % 128 ≡ n % 128 = cc in
    sym (div-add-mod' m 128) ∙ ap (λ k. k * 128 + m % 128) high ∙ ap (λ k. n / 128 * 128 + k) low ∙ div-add-mod' n 128

-- inputs behind others
abbrev joined : Inputs → Inputs → Inputs
joined no_inputs js = js
joined (value x is) js = value x (joined is js)
joined (quoted x e is) js = quoted x e (joined is js)

one_joined : (n : List ℕ) (q : _) (is js : List Input) → inputs_tree (is ++ js) ≡ joined (inputs_tree is) (inputs_tree js) → inputs_tree ((record { name = n; quot = q } ∷ is) ++ js) ≡ joined (inputs_tree (record { name = n; quot = q } ∷ is)) (inputs_tree js)
one_joined n None is js h = ap (value n) h
one_joined n (Some e) is js h = ap (quoted n e.value) h

tree_joined : (is js : List Input) → inputs_tree (is ++ js) ≡ joined (inputs_tree is) (inputs_tree js)
tree_joined [] js = refl
tree_joined (i ∷ is) js = one_joined i.name i.quot is js (tree_joined is js)

joined_numbered : (e : Signature) (is js : Inputs) → joined (numbered_inputs e is) (numbered_inputs e js) ≡ numbered_inputs e (joined is js)
joined_numbered e no_inputs js = refl
joined_numbered e (value x is) js = ap (value x) (joined_numbered e is js)
joined_numbered e (quoted x q is) js = ap (quoted x (numbered_within e q)) (joined_numbered e is js)

-- one input more is numbered
pub more_numbered :
    (e : Signature) (done is : List Input) (made i : Input) → inputs_tree done ≡ numbered_inputs e (inputs_tree is) → inputs_tree (made ∷ []) ≡ numbered_inputs e (inputs_tree (i ∷ [])) →
    inputs_tree (done ++ made ∷ []) ≡ numbered_inputs e (inputs_tree (is ++ i ∷ []))
more_numbered e done is made i same same_one =
    tree_joined done (made ∷ [])
    ∙ ap (λ t. joined t (inputs_tree (made ∷ []))) same
    ∙ ap (joined (numbered_inputs e (inputs_tree is))) same_one
    ∙ joined_numbered e (inputs_tree is) (inputs_tree (i ∷ []))
    ∙ ap (numbered_inputs e) (sym (tree_joined is (i ∷ [])))

-- how deep the effects of an input nest
one_depth : (n : List ℕ) (q : _) (is : List Input) → inputs_depth (inputs_tree (record { name = n; quot = q } ∷ [])) ≤ inputs_depth (inputs_tree (record { name = n; quot = q } ∷ is))
one_depth n None is = omega arith
one_depth n (Some e) is = omega arith

more_depth : (n : List ℕ) (q : _) (is : List Input) → inputs_depth (inputs_tree is) ≤ inputs_depth (inputs_tree (record { name = n; quot = q } ∷ is))
more_depth n None is = omega arith
more_depth n (Some e) is = omega arith

depth_at : (is : List Input) (k : ℕ) (d : Input) → k < length is → inputs_depth (inputs_tree (get_or is k d ∷ [])) ≤ inputs_depth (inputs_tree is)
depth_at [] k d h = absurd (omega (arith, h))
depth_at (i ∷ is) zero d h = one_depth i.name i.quot is
depth_at (i ∷ is) (suc k) d h = (let deep = depth_at is k d (omega (arith, h)) in let more = more_depth i.name i.quot is in omega (arith, deep, more))

pub input_depth : (is : List Input) (k : ℕ) (i d : Input) → k < length is → i ≡ get_or is k d → inputs_depth (inputs_tree (i ∷ [])) ≤ inputs_depth (inputs_tree is)
input_depth is k i d h same = (let at : inputs_depth (inputs_tree (i ∷ [])) ≡ inputs_depth (inputs_tree (get_or is k d ∷ [])) = ap (λ (j : Input). inputs_depth (inputs_tree (j ∷ []))) same in omega (arith, at, depth_at is k d h))

quot_depth_of : (n : List ℕ) (q : _) (e : _) → q ≡ Some e → suc (signature_depth e.value) ≤ inputs_depth (inputs_tree (record { name = n; quot = q } ∷ []))
quot_depth_of n None e same = absurd (cc)
quot_depth_of n (Some p) e same = (let at : p ≡ e = cc in let deep = ap (λ (x : _). signature_depth x.value) at in omega (arith, deep))

pub quot_depth : (i : Input) (e : _) → i.quot ≡ Some e → suc (signature_depth e.value) ≤ inputs_depth (inputs_tree (i ∷ []))
quot_depth i e same = quot_depth_of i.name i.quot e same

-- what the parts of an effect become
pub inputs_within : (e q : Signature) → effect_inputs (numbered_within e q) ≡ numbered_inputs e (effect_inputs q)
inputs_within e (signature r is l) = refl

pub leaving_within : (e q : Signature) → effect_leaving (numbered_within e q) ≡ numbered_leaving e (effect_leaving q)
leaving_within e (signature r is l) = refl

pub row_within : (e q : Signature) → row_name (numbered_within e q) ≡ numbered_side e (row_name q)
row_within e (signature r is l) = refl

pub side_within : (e : Signature) (l : Leaving) → leaving_name (numbered_leaving e l) ≡ numbered_side e (leaving_name l)
side_within e never = refl
side_within e (leaves r names) = refl

pub count_within : (e : Signature) (is : Inputs) → inputs_count (numbered_inputs e is) ≡ inputs_count is
count_within e no_inputs = refl
count_within e (value x is) = ap suc (count_within e is)
count_within e (quoted x q is) = ap suc (count_within e is)

some_side : (e : Signature) (s : Side) → some_row (row_of (numbered_side e s)) ≡ some_row (row_of s)
some_side e None = refl
some_side e (Some x) = refl

some_leaving : (e : Signature) (l : Leaving) → some_row (leaving_row (numbered_leaving e l)) ≡ some_row (leaving_row l)
some_leaving e never = refl
some_leaving e (leaves r names) = some_side e r

mutual
  pub rows_within : (e q : Signature) → has_rows (numbered_within e q) ≡ has_rows q
  rows_within e (signature r is l) =
      ap (λ t. t || (some_row (leaving_row (numbered_leaving e l)) || inputs_rows (numbered_inputs e is))) (some_side e r)
      ∙ ap (λ t. some_row (row_of r) || (t || inputs_rows (numbered_inputs e is))) (some_leaving e l)
      ∙ ap (λ t. some_row (row_of r) || (some_row (leaving_row l) || t)) (inputs_rows_within e is)

  inputs_rows_within : (e : Signature) (is : Inputs) → inputs_rows (numbered_inputs e is) ≡ inputs_rows is
  inputs_rows_within e no_inputs = refl
  inputs_rows_within e (value x is) = inputs_rows_within e is
  inputs_rows_within e (quoted x q is) = ap (λ t. t || inputs_rows (numbered_inputs e is)) (rows_within e q) ∙ ap (λ t. has_rows q || t) (inputs_rows_within e is)

-- the effect of an input
abbrev pub within_option : Signature → Option Signature → Option Signature
within_option e None = None
within_option e (Some q) = Some (numbered_within e q)

pub input_within : (e : Signature) (k : ℕ) (is : Inputs) → input_effect k (numbered_inputs e is) ≡ within_option e (input_effect k is)
input_within e k no_inputs = refl
input_within e zero (value x is) = refl
input_within e zero (quoted x q is) = refl
input_within e (suc zero) (value x is) = refl
input_within e (suc zero) (quoted x q is) = refl
input_within e (suc (suc k)) (value x is) = input_within e (suc k) is
input_within e (suc (suc k)) (quoted x q is) = input_within e (suc k) is

-- the sides of an effect
one_side : (e q : Signature) (ss : List Side) → (row_name (numbered_within e q) ∷ leaving_name (effect_leaving (numbered_within e q)) ∷ map (numbered_side e) ss) ≡ map (numbered_side e) (row_name q ∷ leaving_name (effect_leaving q) ∷ ss)
one_side e (signature r is l) ss = ap (λ s. numbered_side e r ∷ s ∷ map (numbered_side e) ss) (side_within e l)

inputs_sides_within : (e : Signature) (is : Inputs) → inputs_sides (numbered_inputs e is) ≡ map (numbered_side e) (inputs_sides is)
inputs_sides_within e no_inputs = refl
inputs_sides_within e (value x is) = inputs_sides_within e is
inputs_sides_within e (quoted x q is) =
    ap (λ ss. row_name (numbered_within e q) ∷ leaving_name (effect_leaving (numbered_within e q)) ∷ ss) (inputs_sides_within e is) ∙ one_side e q (inputs_sides is)

sides_within : (e q : Signature) → sides (numbered_within e q) ≡ map (numbered_side e) (sides q)
sides_within e (signature r is l) =
    ap (λ s. numbered_side e r ∷ s ∷ inputs_sides (numbered_inputs e is)) (side_within e l) ∙ ap (λ ss. numbered_side e r ∷ numbered_side e (leaving_name l) ∷ ss) (inputs_sides_within e is)

-- sides whose rows are among those of an effect
abbrev pub SideAmong : Signature → Side → Type 0
SideAmong e None = Unit {0}
SideAmong e (Some x) = is_among x (sides e) ≡ true

abbrev pub AreWithin : Signature → List Side → Type 0
AreWithin e ss = (x : List ℕ) → is_among x ss ≡ true → is_among x (sides e) ≡ true

or_first : (p q : Bool) → p ≡ true → (p || q) ≡ true
or_first true q e = refl
or_first false q e = absurd (cc)

or_second : (p q : Bool) → q ≡ true → (p || q) ≡ true
or_second true q e = refl
or_second false q e = e

pub first_among : (e : Signature) (s : Side) (ss : List Side) → AreWithin e (s ∷ ss) → SideAmong e s
first_among e None ss h = tt
first_among e (Some x) ss h = h x (or_first (bytes_eq x x) (is_among x ss) (bytes_alike x))

pub others_within : (e : Signature) (s : Side) (ss : List Side) → AreWithin e (s ∷ ss) → AreWithin e ss
others_within e s ss h = λ x among. h x (or_second (is_named x s) (is_among x ss) among)

pub own_within : (e : Signature) → AreWithin e (sides e)
own_within e = λ x among. among

pub inputs_are_within : (e : Signature) → AreWithin e (inputs_sides (effect_inputs e))
inputs_are_within (signature r is l) = λ x among. or_second (is_named x r) _ (or_second (is_named x (leaving_name l)) _ among)

pub row_among : (e : Signature) → SideAmong e (row_name e)
row_among (signature r is l) = first_among (signature r is l) r (leaving_name l ∷ inputs_sides is) (own_within (signature r is l))

pub leaving_among : (e : Signature) → SideAmong e (leaving_name (effect_leaving e))
leaving_among (signature r is l) =
    first_among (signature r is l) (leaving_name l) (inputs_sides is) (others_within (signature r is l) r (leaving_name l ∷ inputs_sides is) (own_within (signature r is l)))

-- the rows of an effect
module _ (e : Signature) where
  abbrev pub row_number_name : List ℕ → List ℕ
  row_number_name x = number_name (side_number 1 x (sides e))

  same_name : (x y : List ℕ) → is_among x (sides e) ≡ true → is_among y (sides e) ≡ true → row_number_name x ≡ row_number_name y → x ≡ y
  same_name x y h k same =
      let a = has_first 1 x (sides e) h in
      let b = has_first 1 y (sides e) k in
      let numbers : side_number 1 x (sides e) ≡ side_number 1 y (sides e) = same_number (side_number 1 x (sides e)) (side_number 1 y (sides e)) same in
      let places : a.index ≡ b.index = omega (arith, a.number_is, b.number_is, numbers) in
      let names : Some x ≡ Some y = sym a.name_is ∙ ap (name_at (sides e)) places ∙ b.name_is in
      cc

  pub names_apart : (x y : List ℕ) → is_among x (sides e) ≡ true → is_among y (sides e) ≡ true → bytes_eq (row_number_name x) (row_number_name y) ≡ bytes_eq x y
  names_apart x y h k = by_test (bytes_eq x y) refl (bytes_eq (row_number_name x) (row_number_name y)) refl
    where
      by_test : (p : Bool) → bytes_eq x y ≡ p → (q : Bool) → bytes_eq (row_number_name x) (row_number_name y) ≡ q → q ≡ p
      by_test true f true g = refl
      by_test false f false g = refl
      by_test true f false g = sym g ∙ ap (λ z. bytes_eq (row_number_name x) (row_number_name z)) (sym (same_bytes x y f)) ∙ bytes_alike (row_number_name x)
      by_test false f true g = sym (sym f ∙ ap (bytes_eq x) (sym (same_name x y h k (same_bytes (row_number_name x) (row_number_name y) g))) ∙ bytes_alike x)

  same_test : (x : List ℕ) (s : Side) → is_among x (sides e) ≡ true → SideAmong e s → is_named (row_number_name x) (numbered_side e s) ≡ is_named x s
  same_test x None h k = refl
  same_test x (Some y) h k = names_apart x y h k

  -- a row has the number that it had
  number_within : (n : ℕ) (x : List ℕ) (ss : List Side) → is_among x (sides e) ≡ true → AreWithin e ss → side_number n (row_number_name x) (map (numbered_side e) ss) ≡ side_number n x ss
  number_within n x [] h k = refl
  number_within n x (s ∷ ss) h k =
      ap (λ (t : Bool). let m : ℕ = elim t [ true ↦ n | false ↦ side_number (suc n) (row_number_name x) (map (numbered_side e) ss) ] in m) (same_test x s h (first_among e s ss k))
      ∙ ap (λ (j : ℕ). let m : ℕ = elim (is_named x s) [ true ↦ n | false ↦ j ] in m) (number_within (suc n) x ss h (others_within e s ss k))

  number_stays : (x : List ℕ) → is_among x (sides e) ≡ true → side_number 1 (row_number_name x) (sides (numbered e)) ≡ side_number 1 x (sides e)
  number_stays x h = ap (side_number 1 (row_number_name x)) (sides_within e e) ∙ number_within 1 x (sides e) h (own_within e)

  -- The number of a row variable of a side, found in the effect with numbered rows.
  pub number_of_side : (d : Signature) (s t : Side) (n : ℕ) (x y : List ℕ) → d ≡ numbered e → SideAmong e s → s ≡ Some x → t ≡ numbered_side e s → t ≡ Some y → n ≡ side_number 1 y (sides d) → n ≡ side_number 1 x (sides e)
  number_of_side d None t n x y same h f g k number = absurd (cc)
  number_of_side d (Some z) t n x y same h f g k number =
      let zx : z ≡ x = cc in
      let named : Some (row_number_name z) ≡ Some y = sym g ∙ k in
      let yz : y ≡ row_number_name z = cc in
      number ∙ ap (λ q. side_number 1 y (sides q)) same ∙ ap (λ q. side_number 1 q (sides (numbered e))) yz ∙ number_stays z h ∙ ap (λ q. side_number 1 q (sides e)) zx

  pub no_side : {A : Type 0} (s t : Side) (x : List ℕ) → s ≡ Some x → t ≡ numbered_side e s → t ≡ None → A
  no_side None t x f g k = absurd (cc)
  no_side (Some z) t x f g k = (let no : Some (row_number_name z) ≡ None = sym g ∙ k in absurd (cc))
