use Rattle.std.proofs.Common.{ap, map, string_bytes, sym, ◌∙◌}
use Rattle.std.proofs.lemmas.List.{take-map}
use Rattle.fac_vocab.proofs.text_set.leave.Goals as goal

pub returns : goal.returns
returns c = ap (map string_bytes) c.truncate.ensures.keys ∙ sym (take-map string_bytes c.args.count c.args.texts.now.keys)
