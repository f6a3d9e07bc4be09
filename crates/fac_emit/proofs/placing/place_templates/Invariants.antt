use Rattle.std.proofs.Common.{◌≡◌, ◌++◌, drop, length}
use Rattle.fac_emit.specs.ProgramCode.{templates_code, template_rows}
use Rattle.fac_emit.proofs.placing.place_templates.Given as goal

abbrev pub invariant-loop-template : goal.invariant-loop-template
invariant-loop-template l =
    let C = l.emission in record {
      count : l.number ≡ l.template-index;
      code_is : l.initial.code ++ templates_code C C.templates ≡ l.code ++ templates_code C (drop l.template-index C.templates);
      rows_are : l.initial.rows ++ template_rows C l.heights (length l.initial.code) 0 C.templates ≡ l.rows ++ template_rows C l.heights (length l.code) l.number (drop l.template-index C.templates);
    }
