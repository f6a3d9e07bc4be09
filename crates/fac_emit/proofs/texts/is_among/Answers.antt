use Rattle.std.proofs.Common.{sym, ◌∙◌, string_bytes}
use Rattle.std.specs.Str.{bytes_eq}
use Rattle.fac_emit.proofs.KeyLemmas.{list_any_map}
use Rattle.fac_emit.proofs.texts.is_among.Goals as goal

pub returns : goal.returns
returns c = c.contains.ensures ∙ sym (list_any_map string_bytes (bytes_eq c.args.text.now) c.args.kept.now.keys)
