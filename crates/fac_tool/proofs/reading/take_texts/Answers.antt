use Rattle.std.proofs.Common.{refl}
use Rattle.fac_tool.proofs.ReadingLemmas.{begins, begun_texts, ends_prelude}
use Rattle.fac_tool.proofs.reading.take_texts.Goals as goal

pub returns-in-Err : goal.returns-in-Err
returns-in-Err g c = ends_prelude c.every_text_is_a_source.ensures c.args.texts c.in-Err.ended c.in-Err.ensures

pub returns-in-Ok : goal.returns-in-Ok
returns-in-Ok g c =
    let begun = begins c.args.texts c.args.texts c.args.resolver.now c.take_prelude.new.resolver c.in-Ok.field-0 refl c.requires c.in-Ok.ensures in
    begun_texts c.args.texts c.take_prelude.new.resolver c.take_behind_prelude.new.resolver c.take_behind_prelude.result begun c.take_behind_prelude.ensures
