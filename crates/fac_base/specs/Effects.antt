-- How many values an effect takes and leaves.
use Rattle.std.specs.Prelude.{ℕ, suc, length, Option, Some, None}
use Rattle.fac_base.specs.declared.height.Height.{Height}
use Rattle.fac_base.specs.Signatures.{Signature, signature, Inputs, no_inputs, value, quoted, Leaving, never, leaves}

-- the number of outputs; None where the word never returns
abbrev pub leaving_outs : Leaving → Option ℕ
leaving_outs never = None
leaving_outs (leaves row names) = Some (length names)

-- the number of inputs
abbrev pub inputs_count : Inputs → ℕ
inputs_count no_inputs = 0
inputs_count (value x is) = suc (inputs_count is)
inputs_count (quoted x e is) = suc (inputs_count is)

-- the numbers of an effect
abbrev pub effect_height : Signature → Height
effect_height (signature row is l) = record { ins = inputs_count is; outs = leaving_outs l }
