use Rattle.std.proofs.Common.{string_bytes, sym, ◌∙◌}
use Rattle.std.proofs.lemmas.List.{length-map}
use Rattle.fac_vocab.proofs.text_set.count_of.Goals as goal

pub returns : goal.returns
returns c = c.len.ensures.len ∙ sym (length-map c.args.texts.now.keys string_bytes)
