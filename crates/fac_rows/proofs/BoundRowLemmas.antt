-- The rows that inputs bind, one after another.
use Rattle.std.proofs.Common.{◌≡◌, ℕ, List, [], ◌∷◌, ◌++◌, Bool, true, false, ◌&&◌, ◌||◌, Option, Some, None, refl, ap, sym, ◌∙◌}
use Rattle.fac_base.specs.declared.effect.Input.{Input}
use Rattle.fac_base.specs.Signatures.{Signature, signature, Inputs, no_inputs, value, quoted, never, leaves}
use Rattle.fac_base.specs.EffectView.{inputs_tree}
use Rattle.fac_abs.specs.RowVariables.{Row, named_row, row_eq, row_of, row_name, effect_inputs, effect_leaving, leaving_row, bound_rows, bound_all, all_bound, inputs_bound, in_rows, more_rows}
use Rattle.fac_rows.specs.inner.BoundRows.{is_row_there, effect_binds, inputs_bind, could_bind, rows_after, starts_from, are_sides_among}

-- the rows after one quotation input
abbrev after_one : Signature → List Row → List Row
after_one e rs = elim (row_name e) [ None ↦ rs | Some r ↦ more_rows (leaving_row (effect_leaving e)) rs ]

or_true : (a : Bool) → (a || true) ≡ true
or_true false = refl
or_true true = refl

or_false : (a : Bool) → (a || false) ≡ a
or_false false = refl
or_false true = refl

or_swap : (a b : Bool) → (a || b) ≡ (b || a)
or_swap false b = sym (or_false b)
or_swap true b = sym (or_true b)

or_moved : (a b c : Bool) → (a || (b || c)) ≡ ((b || a) || c)
or_moved false false c = refl
or_moved false true c = refl
or_moved true false c = refl
or_moved true true c = refl

in_one : (x : List ℕ) (e : Signature) (rs : List Row) → in_rows (Some (named_row x)) (after_one e rs) ≡ (effect_binds x e || in_rows (Some (named_row x)) rs)
in_one x (signature None is l) rs = refl
in_one x (signature (Some r) is never) rs = refl
in_one x (signature (Some r) is (leaves None names)) rs = refl
in_one x (signature (Some r) is (leaves (Some y) names)) rs = refl

in_after : (x : List ℕ) (is : Inputs) (rs : List Row) → in_rows (Some (named_row x)) (rows_after is rs) ≡ (inputs_bind x is || in_rows (Some (named_row x)) rs)
in_after x no_inputs rs = refl
in_after x (value y is) rs = in_after x is rs
in_after x (quoted y e is) rs = in_after x is (after_one e rs) ∙ ap (λ b. inputs_bind x is || b) (in_one x e rs) ∙ or_moved (inputs_bind x is) (effect_binds x e) (in_rows (Some (named_row x)) rs)

in_side : (x : List ℕ) (outer : Option (List ℕ)) → in_rows (Some (named_row x)) (more_rows (row_of outer) []) ≡ is_row_there x (row_of outer)
in_side x None = refl
in_side x (Some y) = or_false (row_eq (named_row x) (named_row y))

-- a row among those that are bound from an outer row
pub in_rows_after : (x : List ℕ) (outer : Option (List ℕ)) (is : Inputs) → in_rows (Some (named_row x)) (rows_after is (more_rows (row_of outer) [])) ≡ (is_row_there x (row_of outer) || inputs_bind x is)
in_rows_after x outer is =
    in_after x is (more_rows (row_of outer) []) ∙ ap (λ b. inputs_bind x is || b) (in_side x outer) ∙ or_swap (inputs_bind x is) (is_row_there x (row_of outer))

after_more_one : (n : List ℕ) (q : _) (js : List Input) (i : Input) (rs : List Row) → ((rs : List Row) → rows_after (inputs_tree (js ++ i ∷ [])) rs ≡ rows_after (inputs_tree (i ∷ [])) (rows_after (inputs_tree js) rs)) → rows_after (inputs_tree ((record { name = n; quot = q } ∷ js) ++ i ∷ [])) rs ≡ rows_after (inputs_tree (i ∷ [])) (rows_after (inputs_tree (record { name = n; quot = q } ∷ js)) rs)
after_more_one n None js i rs h = h rs
after_more_one n (Some e) js i rs h = h (after_one e.value rs)

after_more : (js : List Input) (i : Input) (rs : List Row) → rows_after (inputs_tree (js ++ i ∷ [])) rs ≡ rows_after (inputs_tree (i ∷ [])) (rows_after (inputs_tree js) rs)
after_more [] i rs = refl
after_more (j ∷ js) i rs = after_more_one j.name j.quot js i rs (after_more js i)

going_on : (x : List ℕ) (e : Signature) (js : Inputs) (rs : List Row) → in_rows (row_of (row_name e)) rs ≡ true → bound_rows (quoted x e js) rs ≡ bound_rows js (after_one e rs)
going_on x (signature None is l) js rs h = refl
going_on x (signature (Some r) is l) js rs h = ap (λ b. elim b [ true ↦ bound_rows js (more_rows (leaving_row l) rs) | false ↦ None ]) h

stopping : (x : List ℕ) (e : Signature) (js : Inputs) (rs : List Row) → in_rows (row_of (row_name e)) rs ≡ false → bound_rows (quoted x e js) rs ≡ None
stopping x (signature None is l) js rs h = absurd (cc)
stopping x (signature (Some r) is l) js rs h = ap (λ b. elim b [ true ↦ bound_rows js (more_rows (leaving_row l) rs) | false ↦ None ]) h

one_goes_on : (n : List ℕ) (q : _) (js : List Input) (rs : List Row) → starts_from rs (record { name = n; quot = q }) ≡ true →
    bound_rows (inputs_tree (record { name = n; quot = q } ∷ js)) rs ≡ bound_rows (inputs_tree js) (rows_after (inputs_tree (record { name = n; quot = q } ∷ [])) rs)
one_goes_on n None js rs h = refl
one_goes_on n (Some e) js rs h = going_on n e.value (inputs_tree js) rs h

-- an input that starts from a bound row
pub bound_goes_on : (i : Input) (js before : List Input) (rs : List Row) → starts_from (rows_after (inputs_tree before) rs) i ≡ true →
    bound_rows (inputs_tree (i ∷ js)) (rows_after (inputs_tree before) rs) ≡ bound_rows (inputs_tree js) (rows_after (inputs_tree (before ++ i ∷ [])) rs)
bound_goes_on i js before rs h = one_goes_on i.name i.quot js (rows_after (inputs_tree before) rs) h ∙ ap (bound_rows (inputs_tree js)) (sym (after_more before i rs))

one_stops : (n : List ℕ) (q : _) (js : List Input) (rs : List Row) → starts_from rs (record { name = n; quot = q }) ≡ false → bound_rows (inputs_tree (record { name = n; quot = q } ∷ js)) rs ≡ None
one_stops n None js rs h = absurd (cc)
one_stops n (Some e) js rs h = stopping n e.value (inputs_tree js) rs h

-- one that doesn't
pub free_stops : (i : Input) (js : List Input) (rs : List Row) → starts_from rs i ≡ false → bound_rows (inputs_tree (i ∷ js)) rs ≡ None
free_stops i js rs h = one_stops i.name i.quot js rs h

if_bound : (b : Bool) (e : Signature) (is : Inputs) (rs : List Row) → bound_all e (bound_rows is rs) ≡ (could_bind (bound_rows is rs) && all_bound e (rows_after is rs)) →
    bound_all e (elim b [ true ↦ bound_rows is rs | false ↦ None ]) ≡ (could_bind (elim b [ true ↦ bound_rows is rs | false ↦ None ]) && all_bound e (rows_after is rs))
if_bound true e is rs h = h
if_bound false e is rs h = refl

-- whether all rows could be bound, by the rows that inputs leave
pub all_is_bound : (e : Signature) (is : Inputs) (rs : List Row) → bound_all e (bound_rows is rs) ≡ (could_bind (bound_rows is rs) && all_bound e (rows_after is rs))
all_is_bound e no_inputs rs = refl
all_is_bound e (value x is) rs = all_is_bound e is rs
all_is_bound e (quoted x (signature None ns l) is) rs = all_is_bound e is rs
all_is_bound e (quoted x (signature (Some r) ns l) is) rs =
    if_bound (in_rows (Some (named_row r)) rs) e is (more_rows (leaving_row l) rs) (all_is_bound e is (more_rows (leaving_row l) rs))

and_true : (a b : Bool) → a ≡ true → b ≡ (a && b)
and_true a b h = sym (ap (λ c. c && b) h)

pub binds_where_started : (e tree : Signature) (a b : Bool) → e ≡ tree → a ≡ could_bind (bound_rows (effect_inputs tree) (more_rows (row_of (row_name tree)) [])) → a ≡ true → b ≡ all_bound e (rows_after (effect_inputs tree) (more_rows (row_of (row_name tree)) [])) →
    b ≡ bound_all e (bound_rows (effect_inputs e) (more_rows (row_of (row_name e)) []))
binds_where_started e tree a b same started holds bound =
    let rs = more_rows (row_of (row_name tree)) [] in
    bound ∙ and_true (could_bind (bound_rows (effect_inputs tree) rs)) (all_bound e (rows_after (effect_inputs tree) rs)) (sym started ∙ holds) ∙ sym (all_is_bound e (effect_inputs tree) rs) ∙ ap (λ t. bound_all e (bound_rows (effect_inputs t) (more_rows (row_of (row_name t)) []))) (sym same)

by_parts : (a b c : Bool) → (a && (b && c)) ≡ ((a && b) && c)
by_parts true b c = refl
by_parts false b c = refl

all_by_parts : (e : Signature) (rs : List Row) → all_bound e rs ≡ (are_sides_among e rs && inputs_bound (effect_inputs e) rs)
all_by_parts (signature r is l) rs = by_parts (in_rows (row_of r) rs) (in_rows (leaving_row l) rs) (inputs_bound is rs)

pub all_where_sides : (e tree : Signature) (rs : List Row) (a b : Bool) → e ≡ tree → a ≡ are_sides_among e rs → a ≡ true → b ≡ inputs_bound (effect_inputs tree) rs → b ≡ all_bound e rs
all_where_sides e tree rs a b same sides holds parts =
    parts ∙ ap (λ t. inputs_bound (effect_inputs t) rs) (sym same) ∙ and_true (are_sides_among e rs) (inputs_bound (effect_inputs e) rs) (sym sides ∙ holds) ∙ sym (all_by_parts e rs)

pub not_where_sides : (e : Signature) (rs : List Row) (a : Bool) → a ≡ are_sides_among e rs → a ≡ false → a ≡ all_bound e rs
not_where_sides e rs a sides fails = fails ∙ sym (all_by_parts e rs ∙ ap (λ c. c && inputs_bound (effect_inputs e) rs) (sym sides ∙ fails))
