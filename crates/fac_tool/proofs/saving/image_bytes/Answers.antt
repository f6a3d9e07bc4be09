use Rattle.fac_tool.proofs.StopLemmas.{carried_end}
use Rattle.fac_tool.proofs.saving.image_bytes.Goals as goal

pub returns : goal.returns
returns g c =
    let linked = c.in_ok-linked.ensures in
    λ P stands.
    let whole = linked.1 P stands in
    record {
      carries = record { image = c.in_ok-linked.linked.image; spelled = linked.0.spelled; carries = whole.carried.carries; ends = λ input n. carried_end P c.in_ok-linked.linked.image input n whole.carried; effects = whole.effects; short = linked.0.short };
      direct = whole.direct;
    }
