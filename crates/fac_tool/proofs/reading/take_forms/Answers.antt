use Rattle.std.proofs.Common.{ℕ, Ok, subst}
use Rattle.std.specs.declared.option.Option.{Option}
use Rattle.fac_tool.specs.inner.FormsTaken.{TakesNext}
use Rattle.fac_tool.proofs.ReadingLemmas.{file_goes_on}
use Rattle.fac_tool.proofs.reading.take_forms.Goals as goal

pub forms-preserved : goal.forms-preserved
forms-preserved c =
    let tokens = c.args.tokens in
    let so_far = c.forms.invariant in
    let now = c.take_next.new.resolver in
    let more = subst (λ (given : Option ℕ). TakesNext c.args.file tokens so_far.forms c.forms.sum c.take_next.new.parser c.forms.resolver now (Ok given)) c.in-Some.is (c.in_ok-more.ensures.takes tokens so_far.forms so_far.handed) in
    file_goes_on tokens c.args.count c.forms.sum c.in-Some.more c.forms.parser c.take_next.new.parser c.args.resolver.now c.forms.resolver now so_far more
