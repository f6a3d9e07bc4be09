use Rattle.std.proofs.Common.{◌≡◌, drop}
use Rattle.fac_emit.specs.ProgramTexts.{with_texts, classes_texts}
use Rattle.fac_emit.proofs.sequence.add_classes.Given as goal

abbrev pub invariant-loop-class : goal.invariant-loop-class
invariant-loop-class l = with_texts l.initial.texts (classes_texts l.classes) ≡ with_texts l.texts (classes_texts (drop l.class-index l.classes))
