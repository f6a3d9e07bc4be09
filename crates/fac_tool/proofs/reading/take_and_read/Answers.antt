use Rattle.std.proofs.Common.{ℕ, Result, subst}
use Rattle.fac_tool.specs.declared.ended.Ended.{Ended}
use Rattle.fac_tool.specs.inner.FormsTaken.{TakesPart}
use Rattle.fac_tool.proofs.ReadingLemmas.{wanted_between}
use Rattle.fac_tool.proofs.reading.take_and_read.Goals as goal

pub returns-in-Err : goal.returns-in-Err
returns-in-Err g c = λ part are.
    subst (λ (taken : Result ℕ Ended). TakesPart c.args.before part c.args.count c.args.resolver.now c.take_beside-read.new.resolver taken) c.in-Err.is (c.take_beside-read.ensures.takes part are)

pub returns-in-Err-read : goal.returns-in-Err-read
returns-in-Err-read g c = λ part are. wanted_between c.every_text_is_a_source.ensures part c.args.before c.args.count c.args.resolver.now c.take_beside-read.new.resolver _ c.bare.ensures
