use Rattle.std.proofs.Common.{[]}
use Rattle.fac_parse.specs.Handed.{calls_left}
use Rattle.fac_tool.specs.inner.FormsTaken.{TakesSome}
use Rattle.fac_tool.proofs.reading.take_forms.Given as goal

abbrev pub invariant-forms : goal.invariant-forms
invariant-forms l = TakesSome l.fn.tokens [] l.fn.count l.parser l.initial.resolver l.resolver l.sum

abbrev pub decreases-forms : goal.decreases-forms
decreases-forms l = calls_left l.parser
