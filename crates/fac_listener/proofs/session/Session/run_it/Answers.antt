use Rattle.fac_lines.proofs.InputLemmas.{reads_so}
use Rattle.fac_listener.proofs.SessionLemmas.{line_answers}
use Rattle.fac_listener.proofs.StepLemmas.{kept_ends}
use Rattle.fac_listener.proofs.session.Session.run_it.Goals as goal

pub run_phrase-reply-requires : goal.run_phrase-reply-requires
run_phrase-reply-requires g c = c.requires

pub returns-clause-answers : goal.returns-clause-answers
returns-clause-answers g c =
    reads_so _ _ _ _ c.run_phrase-reply.ensures.answers
    (λ input left h s known ready runs. line_answers s _ _ c.run_phrase-reply.new.machine _ c.run_phrase-reply.result input left known c.new.ensures c.kept.ensures.stands runs (h s ready))

pub returns-clause-ended : goal.returns-clause-ended
returns-clause-ended g c = kept_ends c.kept.result c.run_phrase-reply.new.machine c.run_phrase-reply.result c.kept.ensures.stands c.kept.ensures.none

pub returns-clause-faults : goal.returns-clause-faults
returns-clause-faults g c = c.run_phrase-reply.ensures.faults
