-- What is told of each trap.
use Rattle.std.specs.Prelude.{ℕ, List, codes}
use Rattle.fac_code.specs.declared.names.TrapWhy.{TrapWhy}
use Rattle.fac_code.specs.declared.names.TrapWhy.TheVariants as trap

abbrev pub trap_text : TrapWhy → List ℕ
trap_text trap.Stack = codes "stack"
trap_text trap.Kind = codes "kind"
trap_text trap.Retain = codes "retain"
trap_text trap.Frame = codes "frame"
trap_text trap.Return = codes "return"
trap_text trap.End = codes "end"
