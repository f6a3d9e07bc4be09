use Rattle.fac_parse.proofs.EffectTaken.{effect_ends}
use Rattle.fac_parse.proofs.reader.Reader.take_effect.Goals as goal

pub end_effect-requires : goal.end_effect-requires
end_effect-requires c =
    let r = c.args.self.now in
    effect_ends r.names c.push-in-Whole.new.self r.effect c.take.new.self c.args.spelling c.args.token c.in_ok-take.field-0 c.requires.read c.requires.spelled c.in_ok-take.ensures c.in-Whole.is c.in_ok-push-in-Whole.ensures.ok
