use Rattle.std.proofs.Common.{refl}
use Rattle.fac_tool.proofs.EffectRows.{whole_carried}
use Rattle.fac_tool.proofs.linking.whole_image.Goals as goal

pub returns-clause-carried : goal.returns-clause-carried
returns-clause-carried g c =
    let made = c.image_with.ensures in
    whole_carried c.args.checked.closed c.in_ok-heights.heights c.as_slice.result.now c.image_with.result c.as_slice.ensures c.in_ok-heights.ensures made.carried made.rows (made.direct refl)
