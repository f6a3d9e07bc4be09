-- Calls of the quotation inputs of a row word, where they are right.
use Rattle.std.specs.Prelude.{ℕ, length, Option, Some, None, ◌≡◌}
use Rattle.fac_base.specs.Signatures.{Signature, signature}
use Rattle.fac_base.specs.Effects.{inputs_count}
use Rattle.fac_abs.specs.RowVariables.{Row, effect_inputs, effect_leaving, leaving_row}
use Rattle.fac_abs.specs.declared.rule.Rule.TheVariants.{Rows}
use Rattle.fac_abs.specs.MarkTrees.{Naming}
use Rattle.fac_abs.specs.SeenMarks.{MarksSeen, stack_of, base_seen, IsStack}
use Rattle.fac_rows.specs.RowBinding.{call_breaks, call_leaves, calls_input, leaving_on}
use Rattle.fac_rows.specs.RowNumbers.{NamesRows}

-- the base on which a quotation input with this effect leaves its outputs
abbrev pub base_behind : Signature → Option Row → Option Row
base_behind (signature (Some x) is l) b = leaving_row l
base_behind (signature None is l) b = b

-- Whether input k, of effect q, may be called here; then what lies below its inputs.
abbrev pub IsFit : MarksSeen → Signature → Signature → ℕ → Option ℕ → ℕ → Option ℕ → Type 0
IsFit M e q k b s None = (N : Naming) → NamesRows N e → calls_input k q (base_seen N b) (stack_of N M s) ≡ call_breaks (Rows k (inputs_count (effect_inputs q)) (length (stack_of N M s)))
IsFit M e q k b s (Some r) =
    IsStack M r × ((N : Naming) → NamesRows N e → calls_input k q (base_seen N b) (stack_of N M s) ≡ call_leaves (leaving_on (effect_leaving q) (base_behind q (base_seen N b)) (stack_of N M r)))
