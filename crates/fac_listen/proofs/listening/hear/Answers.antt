use Rattle.fac_listen.specs.SessionNotes.{notes_told}
use Rattle.fac_listen.proofs.HearLemmas.{ends_then, inside_first, inside_then, memory_then, open_there, stands_there}
use Rattle.fac_listen.proofs.listening.hear.Goals as goal

pub loop-init : goal.loop-init
loop-init g c = record { opened = c.requires.is_open; inside = inside_first c.args.channels.now _ c.args.hearing.now c.requires.is_open }

pub next-requires-clause-behind : goal.next-requires-clause-behind
next-requires-clause-behind g c κs within =
    let notes = notes_told g.N.Sink.taken g.N.Sink.pieces g.N.Sink.faults in
    stands_there c.args.hearing.now c.loop.hearing c.args.channels.now c.loop.channels (notes c.args.notes.now) (notes c.loop.notes) c.loop.invariant.inside c.requires.behind

pub returns-in-Some : goal.returns-in-Some
returns-in-Some g c =
    let notes = notes_told g.N.Sink.taken g.N.Sink.pieces g.N.Sink.faults in
    ends_then c.args.hearing.now c.loop.hearing c.next.new.self c.args.channels.now c.loop.channels c.next.new.channels (notes c.args.notes.now) (notes c.loop.notes) (notes c.next.new.notes) c.loop.invariant.inside c.in-Some.heard c.in-Some.ensures

pub loop-preserved : goal.loop-preserved
loop-preserved g c =
    let notes = notes_told g.N.Sink.taken g.N.Sink.pieces g.N.Sink.faults in
    let inside =
    inside_then c.args.hearing.now c.loop.hearing c.next.new.self c.args.channels.now c.loop.channels c.next.new.channels (notes c.args.notes.now) (notes c.loop.notes) (notes c.next.new.notes) c.loop.invariant.inside c.in_default.ensures
    in
    record { opened = open_there c.args.hearing.now c.next.new.self c.args.channels.now c.next.new.channels (notes c.args.notes.now) (notes c.next.new.notes) inside c.requires.behind; inside = inside }

pub returns : goal.returns
returns g c =
    let notes = notes_told g.N.Sink.taken g.N.Sink.pieces g.N.Sink.faults in
    memory_then c.args.hearing.now c.loop.hearing c.args.channels.now c.loop.channels (notes c.args.notes.now) (notes c.loop.notes) _ c.end_for_memory.result c.loop.invariant.inside c.end_for_memory.ensures
