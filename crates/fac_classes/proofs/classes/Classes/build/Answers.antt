use Rattle.std.proofs.Common.{List, sym, subst}
use Rattle.fac_lang.specs.declared.program.ClassDef.{ClassDef}
use Rattle.fac_classes.specs.inner.Members.{AreSound}
use Rattle.fac_classes.proofs.EndLemmas.{built_sound}
use Rattle.fac_classes.proofs.classes.Classes.build.Goals as goal

pub assemble-requires-clause-sound : goal.assemble-requires-clause-sound
assemble-requires-clause-sound c = subst (λ (cs : List ClassDef). AreSound cs) (sym c.in_ok-defs.ensures) (built_sound c.args.program.now c.requires)
