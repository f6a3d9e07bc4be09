use Rattle.std.proofs.Common.{map, string_bytes}
use Rattle.fac_vocab.proofs.UsedLemmas.{differ_kept}
use Rattle.fac_vocab.proofs.text_set.TextSet.add.Goals as goal

pub invariant_of-self-2 : goal.invariant_of-self-2
invariant_of-self-2 c = differ_kept c.insert.result (map string_bytes c.self.inside.texts.keys) (map string_bytes c.insert.new.texts.keys) (string_bytes c.in_ok-from_str.field-0) c.self.invariant c.insert.ensures.ok c.insert.ensures.err
