-- What parts of an image keep so that they have a spelling, beside that their numbers have the sizes of their types.
use Rattle.std.specs.Prelude.{Bool, true, ◌&&◌}
use Rattle.fac_lang.specs.Primitives.{is_built_primitive}
use Rattle.fac_code.specs.declared.image.Action.{Action}
use Rattle.fac_code.specs.declared.image.Action.TheVariants as action
use Rattle.fac_code.specs.declared.image.WordRow.{WordRow}
use Rattle.fac_code.specs.declared.image.Instr.{Instr}
use Rattle.fac_code.specs.declared.instr_row.Operand.{Operand}
use Rattle.fac_code.specs.declared.instr_row.Operand.TheVariants as o
use Rattle.fac_code.specs.declared.instr_row.Referent.TheVariants as of
use Rattle.fac_code.specs.Code.{is_core_action}
use Rattle.fac_code.specs.InstrRows.{row_of}
use Rattle.fac_bytes.specs.Spellable.{operand_leaves_few}

-- a primitive and a core word are ones that the machine has
abbrev pub action_keeps : Action → Bool
action_keeps (action.Prim p) = is_built_primitive p
action_keeps (action.Core c) = is_core_action c
action_keeps _ = true

abbrev pub word_keeps : WordRow → Bool
word_keeps w = action_keeps w.action

-- so is the primitive of an instruction
abbrev pub is_built_operand : Operand → Bool
is_built_operand (o.Number of.Primitive p) = is_built_primitive p
is_built_operand _ = true

-- and what it tests leaves few values
abbrev pub operand_keeps : Operand → Bool
operand_keeps op = is_built_operand op && operand_leaves_few op

abbrev pub instr_keeps : Instr → Bool
instr_keeps i = operand_keeps (row_of i).operand
