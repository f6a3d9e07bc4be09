use Rattle.std.proofs.Common.{◌≡◌, true}
use Rattle.std.specs.Prelude.{◌||◌, not}
use Rattle.fac_lang.specs.Classes.{has_kind}
use Rattle.fac_lang.specs.Whole.{each_below}
use Rattle.fac_classes.proofs.classes.Classes.le.Given as goal

abbrev pub invariant-loop-kind : goal.invariant-loop-kind
invariant-loop-kind l = each_below (λ k. not (has_kind l.self l.a k) || has_kind l.self l.b k) l.kind ≡ true
