use Rattle.std.proofs.Common.{◌∙◌, ap, map, string_bytes}
use Rattle.fac_vocab.proofs.MapLemmas.{with_vocab_map}
use Rattle.fac_vocab.proofs.text_set.insert.Goals as goal

pub returns-clause-ok : goal.returns-clause-ok
returns-clause-ok c = ap (map string_bytes) c.in_ok-insert.ensures.keys ∙ with_vocab_map c.args.texts.now.keys c.args.text
