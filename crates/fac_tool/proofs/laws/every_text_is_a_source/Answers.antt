use Rattle.fac_tool.proofs.SourceLemmas.{every_source}
use Rattle.fac_tool.proofs.laws.every_text_is_a_source.Goals as goal

pub returns : goal.returns
returns c = every_source c.every_file_has_an_answer.ensures c.some_place.ensures c.tree_or_none.ensures
