use Rattle.std.proofs.Common.{length, sym, ap, ◌∙◌, arith}
use Rattle.fac_check.specs.inner.Alone.{literal_number}
use Rattle.fac_check.proofs.WordItems.{ok_maps}
use Rattle.fac_check.proofs.doing.number_of.Goals as goal

pub returns-then-alone-clause-number : goal.returns-then-alone-clause-number
returns-then-alone-clause-number c = ok_maps c.number_apart.result (λ r is. is ∙ ap (λ b. literal_number (length c.args.closed.now.templates) b c.args.template) (sym c.if-alone.true)) c.number_apart.ensures

pub returns-then-alone-clause-below : goal.returns-then-alone-clause-below
returns-then-alone-clause-below c = ok_maps c.number_apart.result (λ r is. omega (arith, is, c.requires)) c.number_apart.ensures

pub returns-clause-number : goal.returns-clause-number
returns-clause-number c = ap (λ b. literal_number (length c.args.closed.now.templates) b c.args.template) (sym c.if-alone.false)
