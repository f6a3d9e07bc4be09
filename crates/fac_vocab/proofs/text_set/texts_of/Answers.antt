use Rattle.std.proofs.Common.{ap, map, string_bytes}
use Rattle.fac_vocab.proofs.text_set.texts_of.Goals as goal

pub returns : goal.returns
returns c = ap (map string_bytes) c.as_slice.ensures.keys
