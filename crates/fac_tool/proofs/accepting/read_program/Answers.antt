use Rattle.fac_tool.proofs.ReadingLemmas.{wanted_for_texts}
use Rattle.fac_tool.proofs.accepting.read_program.Goals as goal

pub returns-in-Err : goal.returns-in-Err
returns-in-Err g c = wanted_for_texts c.every_text_is_a_source.ensures c.args.texts _ c.bare.ensures
