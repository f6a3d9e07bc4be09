use Rattle.fac_effect.proofs.PartLemmas.{stem_found}
use Rattle.fac_names.proofs.inputs.described_name.Goals as goal

pub returns : goal.returns
returns c = stem_found c.args.name.now c.strip_suffix.result c.strip_suffix.ensures.cases
