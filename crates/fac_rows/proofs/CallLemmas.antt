-- Calls of the quotation inputs of a row word, and the numbers of its rows.
use Rattle.std.proofs.Common.{◌≡◌, ◌⊎◌, inl, inr, ◌<◌, ◌≤◌, ℕ, zero, suc, ◌-◌, List, [], ◌∷◌, length, drop, get_or, Bool, true, false, refl, sym, ap, ◌∙◌, Option, Some, None, arith, length-drop, subst}
use Rattle.std.specs.Prelude.{nat_eq, nat_lt, ◌&&◌, ◌||◌, not}
use Rattle.std.specs.Str.{bytes_eq}
use Rattle.std.proofs.lemmas.Bool.{eq-eqb, ltb-true, lt-ltb}
use Rattle.fac_base.specs.declared.effect.Input.{Input}
use Rattle.fac_base.specs.EffectView.{inputs_tree}
use Rattle.fac_lang.specs.Phrases.{Mark}
use Rattle.fac_base.specs.Signatures.{Signature, signature, Inputs, no_inputs, value, quoted, Leaving, never, leaves}
use Rattle.fac_base.specs.Effects.{inputs_count}
use Rattle.fac_abs.specs.RowVariables.{Row, named_row, row_name, row_of, leaving_row, effect_inputs, effect_leaving, outer_in, outer_out, input_effect}
use Rattle.fac_abs.specs.InTurn.{under}
use Rattle.fac_abs.specs.Marks.{base_eq}
use Rattle.fac_abs.specs.MarkTrees.{Naming}
use Rattle.fac_abs.specs.declared.rule.Rule.TheVariants.{Rows}
use Rattle.fac_abs.proofs.MoveLemmas.{bytes_alike}
use Rattle.fac_abs.proofs.CallerLemmas.{under_short, under_long, under_drop}
use Rattle.fac_rows.specs.RowBinding.{call_breaks, call_leaves, called_if, calls_input, leaving_on}
use Rattle.fac_rows.specs.RowNumbers.{NamesRows, leaving_name, inputs_sides, sides, is_named, is_among, side_number}
use Rattle.fac_rows.specs.NumberedRows.{numbered_side, numbered_within, numbered}
use Rattle.fac_rows.specs.inner.InputCalls.{base_behind}
use Rattle.fac_rows.proofs.BindingLemmas.{not_equal}
use Rattle.fac_rows.proofs.NumberingLemmas.{SideAmong, inputs_within, leaving_within, row_within, side_within, within_option, input_within, leaving_among, number_of_side, no_side}

-- which effect an input has
abbrev pub quot_seen : Input → Option Signature
quot_seen i = elim i.quot [ None ↦ None | Some e ↦ Some e.value ]

one_first : (n : List ℕ) (q : _) (is : List Input) → input_effect (suc zero) (inputs_tree (record { name = n; quot = q } ∷ is)) ≡ quot_seen (record { name = n; quot = q })
one_first n None is = refl
one_first n (Some e) is = refl

one_later : (k : ℕ) (n : List ℕ) (q : _) (is : List Input) → input_effect (suc (suc k)) (inputs_tree (record { name = n; quot = q } ∷ is)) ≡ input_effect (suc k) (inputs_tree is)
one_later k n None is = refl
one_later k n (Some e) is = refl

input_read : (k : ℕ) (is : List Input) (d : Input) → k < length is → input_effect (suc k) (inputs_tree is) ≡ quot_seen (get_or is k d)
input_read k [] d h = absurd (omega (arith, h))
input_read zero (i ∷ is) d h = one_first i.name i.quot is
input_read (suc k) (i ∷ is) d h = one_later k i.name i.quot is ∙ input_read k is d (omega (arith, h))

input_missing : (k : ℕ) (is : List Input) → length is ≤ k → input_effect (suc k) (inputs_tree is) ≡ None
input_missing k [] h = refl
input_missing zero (i ∷ is) h = absurd (omega (arith, h))
input_missing (suc k) (i ∷ is) h = one_later k i.name i.quot is ∙ input_missing k is (omega (arith, h))

pub no_input : (k : ℕ) (is : Inputs) → k ≡ 0 → None ≡ input_effect k is
no_input k no_inputs e = refl
no_input zero (value x is) e = refl
no_input zero (quoted x q is) e = refl
no_input (suc k) (value x is) e = absurd (omega (arith, e))
no_input (suc k) (quoted x q is) e = absurd (omega (arith, e))

at_number : (k : ℕ) → (k ≡ 0 → ⊥) → k ≡ suc (k - 1)
at_number zero h = absurd (h refl)
at_number (suc k) h = omega arith

pub missing_at : (k : ℕ) (is : List Input) → (k ≡ 0 → ⊥) → false ≡ nat_lt (k - 1) (length is) → None ≡ input_effect k (inputs_tree is)
missing_at k is h e = sym (input_missing (k - 1) is (by_test (nat_lt (k - 1) (length is)) refl e)) ∙ ap (λ (n : ℕ). input_effect n (inputs_tree is)) (sym (at_number k h))
  where
    by_test : (q : Bool) → nat_lt (k - 1) (length is) ≡ q → false ≡ q → length is ≤ k - 1
    by_test true f g = absurd (cc)
    by_test false f g = not_less (k - 1) (length is) f
      where
        not_less : (a b : ℕ) → nat_lt a b ≡ false → b ≤ a
        not_less a b g = grind arith

pub input_at : (k : ℕ) (xs is : List Input) (i d : Input) → (k ≡ 0 → ⊥) → xs ≡ is → true ≡ nat_lt (k - 1) (length xs) → i ≡ get_or xs (k - 1) d → quot_seen i ≡ input_effect k (inputs_tree is)
input_at k xs is i d h same l e =
    let long : true ≡ nat_lt (k - 1) (length is) = l ∙ ap (λ (ys : List Input). nat_lt (k - 1) (length ys)) same in
    ap quot_seen (e ∙ ap (λ (ys : List Input). get_or ys (k - 1) d) same) ∙ sym (input_read (k - 1) is d (ltb-true (k - 1) (length is) (sym long))) ∙ ap (λ (n : ℕ). input_effect n (inputs_tree is)) (sym (at_number k h))

pub some_quot : (i : Input) (e : _) → i.quot ≡ Some e → Some e.value ≡ quot_seen i
some_quot i e f = ap (λ (q : _). let o : Option Signature = elim q [ None ↦ None | Some x ↦ Some x.value ] in o) (sym f)

pub no_quot : (i : Input) → i.quot ≡ None → None ≡ quot_seen i
no_quot i e = ap (λ (q : _). let o : Option Signature = elim q [ None ↦ None | Some x ↦ Some x.value ] in o) (sym e)

-- calls
no_call : (p q : Bool) → q ≡ false → (p && q) ≡ false
no_call true q e = e
no_call false q e = refl

both_call : (p q : Bool) → p ≡ true → q ≡ true → (p && q) ≡ true
both_call true q e f = f
both_call false q e f = absurd (cc)

pub call_few : (k : ℕ) (q : Signature) (b : Option Row) (ms : List Mark) → under (inputs_count (effect_inputs q)) ms ≡ None → calls_input k q b ms ≡ call_breaks (Rows k (inputs_count (effect_inputs q)) (length ms))
call_few k (signature (Some x) is l) b ms e =
    let short = under_short (inputs_count is) ms e in
    ap (λ (t : Bool). called_if t (leaving_on l (leaving_row l) []) (Rows k (inputs_count is) (length ms))) (no_call (base_eq b (Some (named_row x))) (nat_eq (length ms) (inputs_count is)) (not_equal (length ms) (inputs_count is) (λ f. omega (arith, f, short))))
call_few k (signature None is l) b ms e =
    ap (λ (t : Bool). called_if (not t) (leaving_on l b (drop (inputs_count is) ms)) (Rows k (inputs_count is) (length ms))) (lt-ltb (length ms) (inputs_count is) (under_short (inputs_count is) ms e))

module _ (k : ℕ) (b : Option Row) (ms rest : List Mark) where
  pub call_free : (q : Signature) → row_name q ≡ None → under (inputs_count (effect_inputs q)) ms ≡ Some rest → calls_input k q b ms ≡ call_leaves (leaving_on (effect_leaving q) (base_behind q b) rest)
  call_free (signature (Some x) is l) f e = absurd (cc)
  call_free (signature None is l) f e =
      ap (λ (t : Bool). called_if (not t) (leaving_on l b (drop (inputs_count is) ms)) (Rows k (inputs_count is) (length ms))) (by_test (nat_lt (length ms) (inputs_count is)) refl) ∙ ap (λ (ys : List Mark). call_leaves (leaving_on l b ys)) (sym (under_drop (inputs_count is) ms rest e))
    where
      by_test : (t : Bool) → nat_lt (length ms) (inputs_count is) ≡ t → t ≡ false
      by_test true g = absurd (omega (arith, ltb-true (length ms) (inputs_count is) g, under_long (inputs_count is) ms rest e))
      by_test false g = refl

  some_same : (x y : List ℕ) → Some x ≡ Some y → x ≡ y
  some_same x y e = cc

  empty : (ys : List Mark) → length ys ≡ 0 → ys ≡ []
  empty [] e = refl
  empty (y ∷ ys) e = absurd (omega (arith, e))

  pub call_on_row : (q : Signature) (x : List ℕ) → row_name q ≡ Some x → under (inputs_count (effect_inputs q)) ms ≡ Some rest → true ≡ base_eq b (Some (named_row x)) → length rest ≡ 0 → calls_input k q b ms ≡ call_leaves (leaving_on (effect_leaving q) (base_behind q b) rest)
  call_on_row (signature None is l) x f e g h = absurd (cc)
  call_on_row (signature (Some y) is l) x f e g h =
      let count : length rest ≡ length ms - inputs_count is = ap length (under_drop (inputs_count is) ms rest e) ∙ length-drop (inputs_count is) ms in
      let same : length ms ≡ inputs_count is = omega (arith, count, h, under_long (inputs_count is) ms rest e) in
      let based : base_eq b (Some (named_row y)) ≡ true = ap (λ (z : List ℕ). base_eq b (Some (named_row z))) (some_same y x f) ∙ sym g in
      ap (λ (t : Bool). called_if t (leaving_on l (leaving_row l) []) (Rows k (inputs_count is) (length ms))) (both_call (base_eq b (Some (named_row y))) (nat_eq (length ms) (inputs_count is)) based (eq-eqb (length ms) (inputs_count is) same)) ∙ ap (λ (ys : List Mark). call_leaves (leaving_on l (leaving_row l) ys)) (sym (empty rest h))

  pub call_other_base : (q : Signature) (x : List ℕ) → row_name q ≡ Some x → false ≡ base_eq b (Some (named_row x)) → calls_input k q b ms ≡ call_breaks (Rows k (inputs_count (effect_inputs q)) (length ms))
  call_other_base (signature None is l) x f g = absurd (cc)
  call_other_base (signature (Some y) is l) x f g =
      let based : base_eq b (Some (named_row y)) ≡ false = ap (λ (z : List ℕ). base_eq b (Some (named_row z))) (some_same y x f) ∙ sym g in
      ap (λ (t : Bool). called_if (t && nat_eq (length ms) (inputs_count is)) (leaving_on l (leaving_row l) []) (Rows k (inputs_count is) (length ms))) based

  pub call_more : (q : Signature) (x : List ℕ) → row_name q ≡ Some x → under (inputs_count (effect_inputs q)) ms ≡ Some rest → (length rest ≡ 0 → ⊥) → calls_input k q b ms ≡ call_breaks (Rows k (inputs_count (effect_inputs q)) (length ms))
  call_more (signature None is l) x f e h = absurd (cc)
  call_more (signature (Some y) is l) x f e h =
      let count : length rest ≡ length ms - inputs_count is = ap length (under_drop (inputs_count is) ms rest e) ∙ length-drop (inputs_count is) ms in
      ap (λ (t : Bool). called_if t (leaving_on l (leaving_row l) []) (Rows k (inputs_count is) (length ms))) (no_call (base_eq b (Some (named_row y))) (nat_eq (length ms) (inputs_count is)) (not_equal (length ms) (inputs_count is) (λ g. h (omega (arith, g, count)))))

-- the rows of an effect
or_first : (p q : Bool) → p ≡ true → (p || q) ≡ true
or_first true q e = refl
or_first false q e = absurd (cc)

or_second : (p q : Bool) → q ≡ true → (p || q) ≡ true
or_second true q e = refl
or_second false q e = e

named_itself : (x : List ℕ) (s : Option (List ℕ)) → s ≡ Some x → is_named x s ≡ true
named_itself x s e = rw e (bytes_alike x)

inputs_have : (k : ℕ) (is : Inputs) (q : Signature) (x : List ℕ) → Some q ≡ input_effect k is → is_named x (row_name q) ≡ true ⊎ is_named x (leaving_name (effect_leaving q)) ≡ true → is_among x (inputs_sides is) ≡ true
inputs_have k no_inputs q x e h = absurd (cc)
inputs_have zero (value y is) q x e h = absurd (cc)
inputs_have zero (quoted y p is) q x e h = absurd (cc)
inputs_have (suc zero) (value y is) q x e h = absurd (cc)
inputs_have (suc zero) (quoted y p is) q x e h = let same : q ≡ p = cc in by_side h (ap (λ (t : Signature). is_named x (row_name t)) same) (ap (λ (t : Signature). is_named x (leaving_name (effect_leaving t))) same)
  where
    by_side : is_named x (row_name q) ≡ true ⊎ is_named x (leaving_name (effect_leaving q)) ≡ true → is_named x (row_name q) ≡ is_named x (row_name p) → is_named x (leaving_name (effect_leaving q)) ≡ is_named x (leaving_name (effect_leaving p)) → (is_named x (row_name p) || (is_named x (leaving_name (effect_leaving p)) || is_among x (inputs_sides is))) ≡ true
    by_side (inl g) f f' = or_first (is_named x (row_name p)) _ (sym f ∙ g)
    by_side (inr g) f f' = or_second (is_named x (row_name p)) _ (or_first (is_named x (leaving_name (effect_leaving p))) _ (sym f' ∙ g))
inputs_have (suc (suc k)) (value y is) q x e h = inputs_have (suc k) is q x e h
inputs_have (suc (suc k)) (quoted y p is) q x e h = or_second (is_named x (row_name p)) _ (or_second (is_named x (leaving_name (effect_leaving p))) _ (inputs_have (suc k) is q x e h))

has_side : (k : ℕ) (e q : Signature) (x : List ℕ) → Some q ≡ input_effect k (effect_inputs e) → is_named x (row_name q) ≡ true ⊎ is_named x (leaving_name (effect_leaving q)) ≡ true → is_among x (sides e) ≡ true
has_side k (signature r is l) q x f h = or_second (is_named x r) _ (or_second (is_named x (leaving_name l)) _ (inputs_have k is q x f h))

module _ (N : Naming) (e : Signature) (names : NamesRows N e) where
  row_at : (n : ℕ) (x : List ℕ) → n ≡ side_number 1 x (sides e) → is_among x (sides e) ≡ true → N.row n ≡ named_row x
  row_at n x f h = ap N.row f ∙ names.named_rows x h

  -- the input row of a quotation input, and its output row
  pub input_row : (k n : ℕ) (q : Signature) (x : List ℕ) → Some q ≡ input_effect k (effect_inputs e) → row_name q ≡ Some x → n ≡ side_number 1 x (sides e) → N.row n ≡ named_row x
  input_row k n q x f g h = row_at n x h (has_side k e q x f (inl (named_itself x (row_name q) g)))

  pub output_row : (k n : ℕ) (q : Signature) (x : List ℕ) → Some q ≡ input_effect k (effect_inputs e) → leaving_name (effect_leaving q) ≡ Some x → n ≡ side_number 1 x (sides e) → N.row n ≡ named_row x
  output_row k n q x f g h = row_at n x h (has_side k e q x f (inr (named_itself x (leaving_name (effect_leaving q)) g)))

-- numbers that are found in the effect with numbered rows
module _ (e d : Signature) (same : d ≡ numbered e) (k : ℕ) (q : Signature) (there : Some q ≡ input_effect k (effect_inputs e)) where
  input_of_numbered : input_effect k (effect_inputs d) ≡ Some (numbered_within e q)
  input_of_numbered =
      ap (λ (z : Signature). input_effect k (effect_inputs z)) same ∙ ap (λ (is : Inputs). input_effect k is) (inputs_within e e) ∙ input_within e k (effect_inputs e) ∙ ap (within_option e) (sym there)

  pub numbered_there : {A : Type 0} → None ≡ input_effect k (effect_inputs d) → A
  numbered_there h = (let no : None ≡ Some (numbered_within e q) = h ∙ input_of_numbered in absurd (cc))

  module _ (x : List ℕ) (p : Signature) (at : Some p ≡ input_effect k (effect_inputs d)) where
    is_numbered : p ≡ numbered_within e q
    is_numbered = (let one : Some p ≡ Some (numbered_within e q) = at ∙ input_of_numbered in cc)

    in_is : row_name p ≡ numbered_side e (row_name q)
    in_is = ap row_name is_numbered ∙ row_within e q

    out_is : leaving_name (effect_leaving p) ≡ numbered_side e (leaving_name (effect_leaving q))
    out_is = ap (λ (z : Signature). leaving_name (effect_leaving z)) is_numbered ∙ ap leaving_name (leaving_within e q) ∙ side_within e (effect_leaving q)

    pub input_number : (n : ℕ) (y : List ℕ) → row_name q ≡ Some x → row_name p ≡ Some y → n ≡ side_number 1 y (sides d) → n ≡ side_number 1 x (sides e)
    input_number n y f g number =
        number_of_side e d (row_name q) (row_name p) n x y same (subst (SideAmong e) (sym f) (has_side k e q x there (inl (named_itself x (row_name q) f)))) f in_is g number

    pub input_named : {A : Type 0} → row_name q ≡ Some x → row_name p ≡ None → A
    input_named f g = no_side e (row_name q) (row_name p) x f in_is g

    pub output_number : (n : ℕ) (y : List ℕ) → leaving_name (effect_leaving q) ≡ Some x → leaving_name (effect_leaving p) ≡ Some y → n ≡ side_number 1 y (sides d) → n ≡ side_number 1 x (sides e)
    output_number n y f g number =
        number_of_side e d (leaving_name (effect_leaving q)) (leaving_name (effect_leaving p)) n x y same (subst (SideAmong e) (sym f) (has_side k e q x there (inr (named_itself x (leaving_name (effect_leaving q)) f)))) f out_is g number

    pub output_named : {A : Type 0} → leaving_name (effect_leaving q) ≡ Some x → leaving_name (effect_leaving p) ≡ None → A
    output_named f g = no_side e (leaving_name (effect_leaving q)) (leaving_name (effect_leaving p)) x f out_is g

module _ (e d : Signature) (same : d ≡ numbered e) (x : List ℕ) (f : leaving_name (effect_leaving e) ≡ Some x) where
  own_out_is : leaving_name (effect_leaving d) ≡ numbered_side e (leaving_name (effect_leaving e))
  own_out_is = ap (λ (z : Signature). leaving_name (effect_leaving z)) same ∙ ap leaving_name (leaving_within e e) ∙ side_within e (effect_leaving e)

  pub own_output_number : (n : ℕ) (y : List ℕ) → leaving_name (effect_leaving d) ≡ Some y → n ≡ side_number 1 y (sides d) → n ≡ side_number 1 x (sides e)
  own_output_number n y g number = number_of_side e d (leaving_name (effect_leaving e)) (leaving_name (effect_leaving d)) n x y same (leaving_among e) f own_out_is g number

  pub own_output_named : {A : Type 0} → leaving_name (effect_leaving d) ≡ None → A
  own_output_named g = no_side e (leaving_name (effect_leaving e)) (leaving_name (effect_leaving d)) x f own_out_is g

leaving_of : (l : Leaving) (x : List ℕ) → leaving_name l ≡ Some x → leaving_row l ≡ Some (named_row x)
leaving_of never x e = absurd (cc)
leaving_of (leaves r names) x e = ap row_of e

pub behind_is : (q : Signature) (b : Option Row) (x y : List ℕ) (s : Row) → row_name q ≡ Some y → leaving_name (effect_leaving q) ≡ Some x → s ≡ named_row x → Some s ≡ base_behind q b
behind_is (signature None is l) b x y s e f g = absurd (cc)
behind_is (signature (Some z) is l) b x y s e f g = ap Some g ∙ sym (leaving_of l x f)

-- outer rows
outer_first : (N : Naming) (x : List ℕ) (is : Inputs) (l : Leaving) → NamesRows N (signature (Some x) is l) → Some (N.row 1) ≡ outer_in (signature (Some x) is l)
outer_first N x is l names = ap Some (ap N.row (ap (λ (t : Bool). let n : ℕ = elim t [ true ↦ 1 | false ↦ side_number 2 x (leaving_name l ∷ inputs_sides is) ] in n) (sym (bytes_alike x))) ∙ names.named_rows x (or_first (bytes_eq x x) _ (bytes_alike x)))

pub outer_in_first : (N : Naming) (r : Option (List ℕ)) (is : Inputs) (l : Leaving) (x : List ℕ) → r ≡ Some x → NamesRows N (signature r is l) → Some (N.row 1) ≡ outer_in (signature r is l)
outer_in_first N None is l x e names = absurd (cc)
outer_in_first N (Some y) is l x e names = outer_first N y is l names

pub out_row : (r : Option (List ℕ)) (is : Inputs) (l : Leaving) (x : List ℕ) → leaving_name l ≡ Some x → outer_out (signature r is l) ≡ Some (named_row x)
out_row r is never x e = absurd (cc)
out_row None is (leaves None names) x e = absurd (cc)
out_row (Some y) is (leaves None names) x e = absurd (cc)
out_row None is (leaves (Some z) names) x e = ap row_of e
out_row (Some y) is (leaves (Some z) names) x e = ap row_of e

module _ (N : Naming) (r : Option (List ℕ)) (is : Inputs) (l : Leaving) (x : List ℕ) (e : leaving_name l ≡ Some x) (names : NamesRows N (signature r is l)) where
  among : is_among x (sides (signature r is l)) ≡ true
  among = or_second (is_named x r) _ (or_first (is_named x (leaving_name l)) _ (named_itself x (leaving_name l) e))

  abbrev first_side : Bool → Bool → ℕ
  first_side p q = elim p [ true ↦ 1 | false ↦ elim q [ true ↦ 2 | false ↦ side_number 3 x (inputs_sides is) ] ]

  pub outer_out_first : true ≡ is_named x r → Some (N.row 1) ≡ outer_out (signature r is l)
  outer_out_first f = ap Some (ap N.row (ap (λ (p : Bool). first_side p (is_named x (leaving_name l))) f) ∙ names.named_rows x among) ∙ sym (out_row r is l x e)

  pub outer_out_second : false ≡ is_named x r → Some (N.row 2) ≡ outer_out (signature r is l)
  outer_out_second f =
      ap Some (ap N.row (ap (λ (q : Bool). first_side false q) (sym (named_itself x (leaving_name l) e)) ∙ ap (λ (p : Bool). first_side p (is_named x (leaving_name l))) f) ∙ names.named_rows x among) ∙ sym (out_row r is l x e)

  pub outer_out_numbered : (n : ℕ) → n ≡ side_number 1 x (sides (signature r is l)) → Some (N.row n) ≡ outer_out (signature r is l)
  outer_out_numbered n f = ap Some (ap N.row f ∙ names.named_rows x among) ∙ sym (out_row r is l x e)
