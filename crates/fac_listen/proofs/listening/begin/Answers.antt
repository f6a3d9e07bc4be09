use Rattle.std.proofs.Common.{subst, sym}
use Rattle.fac_listen.proofs.HearLemmas.{IsThere, begins_there, listens_from, not_begun}
use Rattle.fac_listen.proofs.listening.begin.Goals as goal

pub hear-requires-clause-behind : goal.hear-requires-clause-behind
hear-requires-clause-behind g c κs within = subst IsThere (sym c.new-hearing.ensures) (begins_there c.in-Ok.session c.args.names c.every_text_is_a_source.ensures c.in-Ok.ensures c.requires)

pub returns-in-Ok : goal.returns-in-Ok
returns-in-Ok g c = listens_from c.new-hearing.result c.in-Ok.session c.args.names c.args.channels.now c.hear.new.channels _ _ c.hear.result c.every_text_is_a_source.ensures c.in-Ok.ensures c.requires c.new-hearing.ensures c.hear.ensures

pub returns-in-Err : goal.returns-in-Err
returns-in-Err g c = not_begun c.args.channels.now _ _ c.end_unbegun.result c.args.names c.in-Err.fault c.every_text_is_a_source.ensures c.in-Err.ensures c.requires c.end_unbegun.ensures
