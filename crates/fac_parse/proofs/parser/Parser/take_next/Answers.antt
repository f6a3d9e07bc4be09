use Rattle.std.proofs.Common.{◌+◌, refl}
use Rattle.fac_parse.specs.declared.parser.Parser.{Parser}
use Rattle.fac_parse.specs.inner.Reader.{state_of}
use Rattle.fac_parse.proofs.ParseLemmas.{stops, takes_one, taking_read}
use Rattle.fac_parse.proofs.parser.Parser.take_next.Goals as goal

pub take-requires-in-Some : goal.take-requires-in-Some
take-requires-in-Some c = taking_read c.requires.0 c.requires.1 c.args.self.now c.requires.2

pub returns-then-not-branch-clause-takes : goal.returns-then-not-branch-clause-takes
returns-then-not-branch-clause-takes c = λ tokens before h.
    stops tokens before c.args.self.now c.take.new.self (state_of c.take-in-Some.new.self) c.in-Some.token c.in_ok-take-in-Some.field-0 c.syntax.result c.in-Some.ensures c.in_ok-take-in-Some.ensures c.if-not-branch.true c.syntax.ensures h

pub returns-else-not-branch-clause-takes : goal.returns-else-not-branch-clause-takes
returns-else-not-branch-clause-takes c = λ tokens before h.
    let p = c.args.self.now in
    let now : Parser = record { reader = c.take-in-Some.new.self; rest = c.take.new.self; taken = p.taken + 1; is_whole = p.is_whole } in
    takes_one tokens before p now c.in-Some.token c.in_ok-take-in-Some.field-0 c.in-Some.ensures refl c.in_ok-take-in-Some.ensures c.if-not-branch.false h
