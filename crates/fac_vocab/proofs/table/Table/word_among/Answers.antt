use Rattle.std.proofs.Common.{◌∙◌, ap, List}
use Rattle.fac_vocab.specs.Scopes.{Entry}
use Rattle.fac_vocab.specs.inner.Rows.{word_among}
use Rattle.fac_vocab.proofs.RowLemmas.{word_of_name}
use Rattle.fac_vocab.proofs.table.Table.word_among.Goals as goal

pub returns : goal.returns
returns c =
    c.word_of.ensures
    ∙ ap (λ (t : List Entry). word_among t c.args.vocab.now c.args.numbers.now) (c.as_slice.ensures.value ∙ c.self.view_is)
    ∙ ap (word_among c.args.self.now c.args.vocab.now) c.requires
    ∙ word_of_name c.args.self.now c.args.vocab.now c.args.name.now
