use Rattle.std.proofs.Common.{ℕ, List, Option, Ok, subst}
use Rattle.fac_lines.specs.Channels.{TakesLine}
use Rattle.fac_listen.proofs.HearLemmas.{next_fault, next_line, next_none}
use Rattle.fac_listen.proofs.hearing.Hearing.next.Goals as goal

pub returns-in-Ok-Some : goal.returns-in-Ok-Some
returns-in-Ok-Some g c =
    let took = subst (λ (o : Option (List ℕ)). TakesLine c.args.channels.now c.line.new.self (Ok o)) c.in-Ok-Some.field-0-is c.in-Ok-Some.ensures in
    next_line c.args.self.now c.take.new.self _ _ c.args.channels.now c.line.new.self c.take.new.channels c.in-Ok-Some.line c.take.result took c.take.ensures

pub returns-in-Ok-None : goal.returns-in-Ok-None
returns-in-Ok-None g c =
    let took = subst (λ (o : Option (List ℕ)). TakesLine c.args.channels.now c.line.new.self (Ok o)) c.in-Ok-None.field-0-is c.in-Ok-None.ensures in
    next_none c.args.self.now _ _ _ c.args.channels.now c.line.new.self c.end.result took c.end.ensures

pub returns-in-Err : goal.returns-in-Err
returns-in-Err g c = next_fault c.args.self.now _ _ _ c.args.channels.now c.line.new.self c.in-Err.fault c.end_by.result c.in-Err.ensures c.end_by.ensures
