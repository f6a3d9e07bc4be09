use Rattle.std.proofs.Common.{◌∙◌, ap, map, string_bytes}
use Rattle.fac_emit.proofs.KeyLemmas.{with_text_map}
use Rattle.fac_emit.proofs.texts.insert.Goals as goal

pub returns-clause-ok : goal.returns-clause-ok
returns-clause-ok c = ap (map string_bytes) c.in_ok-insert.ensures.keys ∙ with_text_map c.args.kept.now.keys c.args.text
