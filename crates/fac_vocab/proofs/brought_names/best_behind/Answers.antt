use Rattle.std.proofs.Common.{ap, ◌∙◌, None}
use Rattle.std.specs.Option.{option_map_or}
use Rattle.indexmap.specs.IndexMap.{get_by_text}
use Rattle.fac_vocab.proofs.LatestLemmas.{no_pairs}
use Rattle.fac_vocab.proofs.brought_names.best_behind.Goals as goal

pub returns-in-None : goal.returns-in-None
returns-in-None c = no_pairs c.args.table.now c.args.forms.now c.args.name.now c.args.prefix.now c.args.best (λ v. ap (λ o. option_map_or (λ m. get_by_text m v) o None) c.in-None.ensures.value ∙ c.requires.kept c.args.prefix.now v)
