use Rattle.std.proofs.Common.{◌≡◌, false}
use Rattle.fac_lines.specs.Channels.{OnChannels}
use Rattle.fac_listener.specs.StandingSessions.{has_ended}
use Rattle.fac_listen.specs.SessionNotes.{notes_told}
use Rattle.fac_listen.proofs.HearLemmas.{InsideOn}
use Rattle.fac_listen.proofs.listening.hear.Given as goal

abbrev pub invariant-loop : goal.invariant-loop
invariant-loop g l = record {
  opened : has_ended l.hearing.session ≡ false;
  inside : OnChannels l.initial.channels l.channels (λ before after. InsideOn l.initial.hearing l.initial.channels l.channels (notes_told g.N.Sink.taken g.N.Sink.pieces g.N.Sink.faults l.initial.notes) (notes_told g.N.Sink.taken g.N.Sink.pieces g.N.Sink.faults l.notes) l.hearing);
}
