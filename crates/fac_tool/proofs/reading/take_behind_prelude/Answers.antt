use Rattle.fac_trees.specs.TextTrees.{texts_in}
use Rattle.fac_tool.proofs.ReadingLemmas.{parts_taken, wanted_between}
use Rattle.fac_tool.proofs.reading.take_behind_prelude.Goals as goal

pub returns-in-Err : goal.returns-in-Err
returns-in-Err g c = wanted_between c.every_text_is_a_source.ensures c.args.texts 0 0 c.args.resolver.now c.args.resolver.now _ c.bare.ensures

pub returns-in-Ok : goal.returns-in-Ok
returns-in-Ok g c = parts_taken c.args.texts (texts_in c.in-Ok.parts) c.args.resolver.now c.take_parts.new.resolver c.take_parts.result c.in-Ok.ensures c.take_parts.ensures
