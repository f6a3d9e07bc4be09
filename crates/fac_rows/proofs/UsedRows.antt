-- A use of an effect with numbered rows binds them as one of the effect itself.
use Rattle.std.proofs.Common.{◌≡◌, ℕ, [], ◌∷◌, length, drop, Bool, true, false, refl, ap, ◌∙◌, Option, Some, None}
use Rattle.std.specs.Prelude.{nat_eq, nat_lt, ◌+◌, ◌&&◌, not}
use Rattle.fac_base.specs.Signatures.{Signature, signature, Leaving, never, leaves}
use Rattle.fac_abs.specs.RowVariables.{Row, hidden, named_row, row_eq, row_of, leaving_row, has_rows, effect_leaving, outer_in, outer_out}
use Rattle.fac_abs.specs.Marks.{AbstractStack, dead, on, base_eq, cover_marks}
use Rattle.fac_abs.specs.declared.rule.Rule.{Rule}
use Rattle.fac_abs.specs.declared.rule.Rule.TheVariants.{Rows}
use Rattle.fac_rows.specs.RowBinding.{Binding, bound_to, row_binding, Tied, tied, untied, tied_if, tie_row, tie, stack_or_dead, start_row, leaving_on, row_bound, row_result}
use Rattle.fac_rows.specs.RowNumbers.{leaving_name, sides, is_among}
use Rattle.fac_rows.specs.NumberedRows.{numbered_side, numbered_leaving, numbered_within, numbered}
use Rattle.fac_rows.proofs.NamingRows.{Side}
use Rattle.fac_rows.proofs.NumberingLemmas.{SideAmong, row_number_name, names_apart, rows_within, leaving_within, row_among, leaving_among}

-- a stack that a test chooses
abbrev chosen : Bool → AbstractStack → Option AbstractStack → Option AbstractStack
chosen q A o = elim q [ true ↦ Some A | false ↦ o ]

-- an outer row, where the effect has rows, or the hidden one
abbrev outer_where : Bool → Option Row → Option Row
outer_where q r = elim q [ true ↦ r | false ↦ Some hidden ]

-- what an effect leaves on a stack
abbrev left_on : AbstractStack → Leaving → AbstractStack
left_on A l = elim A [ dead ↦ dead | on b ms ↦ leaving_on l b ms ]

module _ (e : Signature) where
  -- the row variables of rows, named by their numbers
  abbrev pub numbered_row : Row → Row
  numbered_row hidden = hidden
  numbered_row (named_row x) = named_row (row_number_name e x)

  abbrev pub numbered_option : Option Row → Option Row
  numbered_option None = None
  numbered_option (Some r) = Some (numbered_row r)

  abbrev pub numbered_binding : Binding → Binding
  numbered_binding [] = []
  numbered_binding (b ∷ bs) = (numbered_row b.0, b.1) ∷ numbered_binding bs

  abbrev pub numbered_tied : Tied → Tied
  numbered_tied (tied bs) = tied (numbered_binding bs)
  numbered_tied (untied r) = untied r

  -- rows that are rows of the effect
  abbrev pub RowAmong : Row → Type 0
  RowAmong hidden = Unit {0}
  RowAmong (named_row x) = is_among x (sides e) ≡ true

  abbrev pub OptionAmong : Option Row → Type 0
  OptionAmong None = Unit {0}
  OptionAmong (Some r) = RowAmong r

  abbrev pub AreAmong : Binding → Type 0
  AreAmong [] = Unit {0}
  AreAmong (b ∷ bs) = RowAmong b.0 × AreAmong bs

  abbrev pub TiedAmong : Tied → Type 0
  TiedAmong (tied bs) = AreAmong bs
  TiedAmong (untied r) = Unit {0}

  row_option : (s : Side) → row_of (numbered_side e s) ≡ numbered_option (row_of s)
  row_option None = refl
  row_option (Some x) = refl

  leaving_option : (l : Leaving) → leaving_row (numbered_leaving e l) ≡ numbered_option (leaving_row l)
  leaving_option never = refl
  leaving_option (leaves r names) = row_option r

  row_option_among : (s : Side) → SideAmong e s → OptionAmong (row_of s)
  row_option_among None h = tt
  row_option_among (Some x) h = h

  leaving_option_among : (l : Leaving) → SideAmong e (leaving_name l) → OptionAmong (leaving_row l)
  leaving_option_among never h = tt
  leaving_option_among (leaves r names) h = row_option_among r h

  -- what a row is bound to
  same_rows : (r s : Row) → RowAmong r → RowAmong s → row_eq (numbered_row r) (numbered_row s) ≡ row_eq r s
  same_rows hidden hidden h k = refl
  same_rows hidden (named_row y) h k = refl
  same_rows (named_row x) hidden h k = refl
  same_rows (named_row x) (named_row y) h k = names_apart e x y h k

  bound_same : (r : Row) (bs : Binding) → RowAmong r → AreAmong bs → bound_to (numbered_row r) (numbered_binding bs) ≡ bound_to r bs
  bound_same r [] h k = refl
  bound_same r (b ∷ bs) h k =
      ap (λ (q : Bool). chosen q b.1 (bound_to (numbered_row r) (numbered_binding bs))) (same_rows r b.0 h k.0) ∙ ap (λ (o : Option AbstractStack). chosen (row_eq r b.0) b.1 o) (bound_same r bs h k.1)

  pub start_same : (s : Side) (bs : Binding) → SideAmong e s → AreAmong bs → start_row (numbered_side e s) (numbered_binding bs) ≡ start_row s bs
  start_same None bs h k = refl
  start_same (Some x) bs h k = bound_same (named_row x) bs h k

  row_bound_same : (o : Option Row) (bs : Binding) → OptionAmong o → AreAmong bs → row_bound (numbered_option o) (numbered_binding bs) ≡ row_bound o bs
  row_bound_same None bs h k = refl
  row_bound_same (Some r) bs h k = bound_same r bs h k

  -- how what an input left is tied
  if_same : (q : Bool) (bs : Binding) (r : Rule) → tied_if q (numbered_binding bs) r ≡ numbered_tied (tied_if q bs r)
  if_same true bs r = refl
  if_same false bs r = refl

  if_among : (q : Bool) (bs : Binding) (r : Rule) → AreAmong bs → TiedAmong (tied_if q bs r)
  if_among true bs r h = h
  if_among false bs r h = tt

  tie_row_same : (k n : ℕ) (r : Row) (o : Option AbstractStack) (A : AbstractStack) (bs : Binding) → tie_row k n (numbered_row r) o A (numbered_binding bs) ≡ numbered_tied (tie_row k n r o A bs)
  tie_row_same k n r None dead bs = refl
  tie_row_same k n r None (on b ms) bs = if_same (not (nat_lt (length ms) n)) ((r, on b (drop n ms)) ∷ bs) (Rows k n (length ms))
  tie_row_same k n r (Some B) dead bs = refl
  tie_row_same k n r (Some dead) (on b ms) bs = refl
  tie_row_same k n r (Some (on c rs)) (on b ms) bs = if_same (base_eq c b && (nat_eq (length ms) (length rs + n) && cover_marks rs (drop n ms))) bs (Rows k (length rs + n) (length ms))

  tie_row_among : (k n : ℕ) (r : Row) (o : Option AbstractStack) (A : AbstractStack) (bs : Binding) → RowAmong r → AreAmong bs → TiedAmong (tie_row k n r o A bs)
  tie_row_among k n r None dead bs h j = (h, j)
  tie_row_among k n r None (on b ms) bs h j = if_among (not (nat_lt (length ms) n)) ((r, on b (drop n ms)) ∷ bs) (Rows k n (length ms)) (h, j)
  tie_row_among k n r (Some B) dead bs h j = j
  tie_row_among k n r (Some dead) (on b ms) bs h j = tt
  tie_row_among k n r (Some (on c rs)) (on b ms) bs h j = if_among (base_eq c b && (nat_eq (length ms) (length rs + n) && cover_marks rs (drop n ms))) bs (Rows k (length rs + n) (length ms)) j

  pub tie_same : (k : ℕ) (s : Side) (l : Leaving) (A : AbstractStack) (bs : Binding) → SideAmong e (leaving_name l) → AreAmong bs → tie k (numbered_side e s) (numbered_leaving e l) A (numbered_binding bs) ≡ numbered_tied (tie k s l A bs)
  tie_same k s never dead bs h j = refl
  tie_same k s never (on b ms) bs h j = refl
  tie_same k None (leaves None names) dead bs h j = refl
  tie_same k None (leaves None names) (on b ms) bs h j = if_same (base_eq b None && nat_eq (length ms) (length names)) bs (Rows k (length names) (length ms))
  tie_same k None (leaves (Some x) names) A bs h j = refl
  tie_same k (Some y) (leaves None names) A bs h j = refl
  tie_same k (Some y) (leaves (Some x) names) A bs h j =
      ap (λ (o : Option AbstractStack). tie_row k (length names) (named_row (row_number_name e x)) o A (numbered_binding bs)) (bound_same (named_row x) bs h j) ∙ tie_row_same k (length names) (named_row x) (bound_to (named_row x) bs) A bs

  pub tie_among : (k : ℕ) (s : Side) (l : Leaving) (A : AbstractStack) (bs : Binding) → SideAmong e (leaving_name l) → AreAmong bs → TiedAmong (tie k s l A bs)
  tie_among k s never dead bs h j = j
  tie_among k s never (on b ms) bs h j = tt
  tie_among k None (leaves None names) dead bs h j = j
  tie_among k None (leaves None names) (on b ms) bs h j = if_among (base_eq b None && nat_eq (length ms) (length names)) bs (Rows k (length names) (length ms)) j
  tie_among k None (leaves (Some x) names) A bs h j = tt
  tie_among k (Some y) (leaves None names) A bs h j = tt
  tie_among k (Some y) (leaves (Some x) names) A bs h j = tie_row_among k (length names) (named_row x) (bound_to (named_row x) bs) A bs h j

  -- the outer rows
  outer_option : (q : Bool) (o p : Option Row) → p ≡ numbered_option o → outer_where q p ≡ numbered_option (outer_where q o)
  outer_option true o p h = h
  outer_option false o p h = refl

  in_option : (d : Signature) → outer_in (numbered_within e d) ≡ numbered_option (outer_in d)
  in_option (signature r is l) =
      ap (λ (q : Bool). outer_where q (row_of (numbered_side e r))) (rows_within e (signature r is l)) ∙ outer_option (has_rows (signature r is l)) (row_of r) (row_of (numbered_side e r)) (row_option r)

  out_option : (d : Signature) → outer_out (numbered_within e d) ≡ numbered_option (outer_out d)
  out_option (signature r is l) =
      ap (λ (q : Bool). outer_where q (leaving_row (numbered_leaving e l))) (rows_within e (signature r is l)) ∙ outer_option (has_rows (signature r is l)) (leaving_row l) (leaving_row (numbered_leaving e l)) (leaving_option l)

  outer_among : (q : Bool) (o : Option Row) → OptionAmong o → OptionAmong (outer_where q o)
  outer_among true o h = h
  outer_among false o h = tt

  first_binding : (o : Option Row) (A : AbstractStack) → row_binding (numbered_option o) A ≡ numbered_binding (row_binding o A)
  first_binding None A = refl
  first_binding (Some r) A = refl

  first_among : (o : Option Row) (A : AbstractStack) → OptionAmong o → AreAmong (row_binding o A)
  first_among None A h = tt
  first_among (Some r) A h = (h, tt)

  leaves_same : (l : Leaving) (A : AbstractStack) → left_on A (numbered_leaving e l) ≡ left_on A l
  leaves_same never dead = refl
  leaves_same never (on b ms) = refl
  leaves_same (leaves r names) dead = refl
  leaves_same (leaves r names) (on b ms) = refl

in_among : (e : Signature) → OptionAmong e (outer_in e)
in_among (signature r is l) = outer_among (signature r is l) (has_rows (signature r is l)) (row_of r) (row_option_among (signature r is l) r (row_among (signature r is l)))

out_among : (e : Signature) → OptionAmong e (outer_out e)
out_among (signature r is l) = outer_among (signature r is l) (has_rows (signature r is l)) (leaving_row l) (leaving_option_among (signature r is l) l (leaving_among (signature r is l)))

-- the rows at the start of a use, and what it leaves
pub start_bound : (e : Signature) (A : AbstractStack) → row_binding (outer_in (numbered e)) A ≡ numbered_binding e (row_binding (outer_in e) A)
start_bound e A = ap (λ (o : Option Row). row_binding o A) (in_option e e) ∙ first_binding e (outer_in e) A

pub start_among : (e : Signature) (A : AbstractStack) → AreAmong e (row_binding (outer_in e) A)
start_among e A = first_among e (outer_in e) A (in_among e)

pub result_same : (e : Signature) (bs : Binding) → AreAmong e bs → row_result (numbered e) (numbered_binding e bs) ≡ row_result e bs
result_same e bs h =
    ap (λ (o : Option Row). left_on (stack_or_dead (row_bound o (numbered_binding e bs))) (effect_leaving (numbered e))) (out_option e e)
    ∙ ap (λ (o : Option AbstractStack). left_on (stack_or_dead o) (effect_leaving (numbered e))) (row_bound_same e (outer_out e) bs (out_among e) h)
    ∙ ap (λ (l : Leaving). left_on (stack_or_dead (row_bound (outer_out e) bs)) l) (leaving_within e e)
    ∙ leaves_same e (effect_leaving e) (stack_or_dead (row_bound (outer_out e) bs))
