use Rattle.std.proofs.Common.{◌∙◌, ap, map, string_bytes}
use Rattle.std.specs.Str.{bytes_eq}
use Rattle.fac_lang.specs.Whole.{no_two}
use Rattle.fac_vocab.proofs.UsedLemmas.{differ_taken}
use Rattle.fac_vocab.proofs.text_set.TextSet.truncate.Goals as goal

pub invariant_of-self : goal.invariant_of-self
invariant_of-self c = ap (no_two bytes_eq) c.leave.ensures ∙ differ_taken c.args.count (map string_bytes c.self.inside.texts.keys) c.self.invariant
