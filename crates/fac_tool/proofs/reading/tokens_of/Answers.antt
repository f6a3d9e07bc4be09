use Rattle.fac_tool.proofs.ReadingLemmas.{has_no_tokens}
use Rattle.fac_tool.proofs.reading.tokens_of.Goals as goal

pub returns-in-Err : goal.returns-in-Err
returns-in-Err c = has_no_tokens c.every_text_is_a_source.ensures c.args.file c.args.text.now c.in-Err.fault _ c.in-Err.ensures c.no_tokens.ensures
