use Rattle.std.proofs.Common.{map}
use Rattle.fac_items.specs.FromElements.{nested, tok}
use Rattle.fac_items.specs.Readings.{with_inputs}
use Rattle.fac_items.specs.inner.Behind.{name_tok}
use Rattle.fac_names.proofs.ReadingLemmas.{define_taken, on_ok}
use Rattle.fac_names.proofs.bodies.define.Goals as goal

pub returns : goal.returns
returns c =
    on_ok c.tell.result
    (λ told. define_taken c.args.so_far.now c.own.new.so_far c.read_phrase.new.so_far (tok c.args.name.now) c.in_ok-number.number c.args.effect (with_inputs (map name_tok c.args.inputs.now) (nested c.args.elements.now)) c.args.marks.0 c.args.marks.1 c.in_ok-body.body c.tell.new.self c.in_ok-number.ensures c.in_ok-body.ensures told)
    c.tell.ensures
