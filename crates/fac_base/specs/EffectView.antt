-- The tree that an effect stands for.
use Rattle.std.specs.Prelude.{List, [], ◌∷◌, Some, None}
use Rattle.fac_base.specs.declared.effect.Input.{Input}
use Rattle.fac_base.specs.declared.effect.Outs.{Outs}
use Rattle.fac_base.specs.declared.effect.Outs.TheVariants.{Never, Left}
use Rattle.fac_base.specs.declared.effect.Effect.TheInside.{Inside}
use Rattle.fac_base.specs.Signatures.{Signature, signature, Inputs, no_inputs, value, quoted, Leaving, never, leaves}

abbrev pub outs_leaving : Outs → Leaving
outs_leaving Never = never
outs_leaving (Left row names) = leaves row names

abbrev pub inputs_tree : List Input → Inputs
inputs_tree [] = no_inputs
inputs_tree (i ∷ is) = elim i.quot [ None ↦ value i.name (inputs_tree is) | Some e ↦ quoted i.name e.value (inputs_tree is) ]

abbrev pub effect_tree : Inside → Signature
effect_tree e = signature e.row_in (inputs_tree e.ins.items) (outs_leaving e.outs)
