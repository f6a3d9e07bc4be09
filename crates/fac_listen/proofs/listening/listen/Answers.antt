use Rattle.fac_listen.proofs.HearLemmas.{no_session}
use Rattle.fac_listen.proofs.listening.listen.Goals as goal

pub returns-in-Err : goal.returns-in-Err
returns-in-Err g c = no_session c.args.channels.now _ _ c.tell_no_memory.result c.every_text_is_a_source.ensures c.tell_no_memory.ensures
