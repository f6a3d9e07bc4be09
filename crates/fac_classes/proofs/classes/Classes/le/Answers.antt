use Rattle.std.proofs.Common.{◌≡◌, ap, sym, ◌∙◌, arith}
use Rattle.fac_classes.specs.ClassKinds.{kind_total}
use Rattle.fac_classes.proofs.BuiltLemmas.{not_within}
use Rattle.fac_classes.proofs.classes.Classes.le.Goals as goal

pub returns-then-not-has : goal.returns-then-not-has
returns-then-not-has c =
    let total : c.self.inside.width ≡ kind_total c.args.self.now = c.self.invariant.table.width ∙ ap kind_total c.self.view_is in
    not_within c.args.self.now c.args.a c.args.b c.loop-kind.kind (omega (arith, total, c.loop-kind-test.true)) (sym c.has.ensures ∙ c.if-has.true) (sym c.has-then-has.ensures ∙ c.if-not-has.true)
