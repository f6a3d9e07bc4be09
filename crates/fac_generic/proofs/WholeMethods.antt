-- A whole program has methods of which tables can be made.
use Rattle.fac_lang.specs.declared.program.Program.{Program}
use Rattle.fac_lang.specs.Whole.{IsWhole}
use Rattle.fac_generic.specs.Methods.{HasMethods}

pub whole_has : (P : Program) → IsWhole P → HasMethods P
whole_has P w = record { sorts_fit = w.sorts_fit; methods_differ = w.methods_differ }
