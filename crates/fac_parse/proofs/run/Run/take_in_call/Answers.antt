use Rattle.fac_parse.proofs.EffectTaken.{call_ends}
use Rattle.fac_parse.proofs.run.Run.take_in_call.Goals as goal

pub end_call-requires : goal.end_call-requires
end_call-requires c =
    let r = c.args.self.now in
    call_ends r.names c.push-in-Whole.new.self r.effect c.take.new.self c.args.spelling c.args.token c.in_ok-take.field-0 c.requires.read c.requires.spelled c.in_ok-take.ensures c.in-Whole.is c.in_ok-push-in-Whole.ensures.ok
