use Rattle.fac_tool.proofs.ReadingLemmas.{wanted_for_text, adds_file}
use Rattle.fac_tool.proofs.reading.take_file.Goals as goal

pub returns-in-Err : goal.returns-in-Err
returns-in-Err c = λ text are. wanted_for_text c.every_text_is_a_source.ensures c.args.file text _ c.bare.ensures

pub returns-in-Ok : goal.returns-in-Ok
returns-in-Ok c =
    λ text are. adds_file c.args.file text c.args.count c.args.resolver.now c.begin_file.new.self c.take_forms.new.resolver c.take_forms.result c.in-Ok.ensures (c.take_forms.ensures text are)
