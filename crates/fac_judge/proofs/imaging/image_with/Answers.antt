use Rattle.fac_judge.proofs.ImageLemmas.{if_image}
use Rattle.fac_judge.proofs.imaging.image_with.Goals as goal

pub returns : goal.returns
returns g c = if_image c.args.closed.now c.args.heights.now c.compile.result c.requires.effects c.compile.ensures.agrees c.compile.ensures.stands c.compile.ensures.plain
