use Rattle.fac_parse.proofs.parser.Parser.go_on.Goals as goal

pub returns-clause-hands : goal.returns-clause-hands
returns-clause-hands c = λ tokens before h. c.hand_out.ensures.hands tokens before (c.in_ok-take_more.ensures.takes tokens before h)
