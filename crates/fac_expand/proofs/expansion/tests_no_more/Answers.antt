use Rattle.std.proofs.Common.{ap, ◌∙◌, sym}
use Rattle.std.specs.List.{list_any}
use Rattle.fac_expand.specs.inner.Pieces.{is_test}
use Rattle.fac_expand.proofs.Expansions.{no_test, some_test}
use Rattle.fac_expand.proofs.expansion.tests_no_more.Goals as goal

pub returns-then-not-tests : goal.returns-then-not-tests
returns-then-not-tests c = λ e there. absurd (no_test c.args.image.now (ap (list_any is_test) (sym c.as_slice.ensures) ∙ sym c.tests.ensures ∙ c.if-not-tests.true) there)

pub returns : goal.returns
returns c = λ e there. some_test c.args.plain.now (ap (list_any is_test) (sym c.as_slice-2.ensures) ∙ sym c.tests-2.ensures ∙ e)
