use Rattle.std.proofs.Common.{◌≡◌, true, refl}
use Rattle.fac_lines.proofs.channels.Channels.line.Goals as goal

pub returns : goal.returns
returns g c =
    let from = c.line.ensures.given in
    rw (← c.self.view_is) (record {
      reads = record { given = from.given; consumed = from.consumed; none = from.none; stays = λ (e : c.self.inside.input.ended ≡ true). (c.line.ensures.ended e).0; comes = from.answers };
      wanted = from.wanted;
      counts = c.line.ensures.counts;
      unwritten = record { output = refl; faults = refl };
    })
