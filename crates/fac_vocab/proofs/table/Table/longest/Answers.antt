use Rattle.std.proofs.Common.{◌∙◌, ap, sym, List}
use Rattle.fac_vocab.specs.Scopes.{Entry, word_held}
use Rattle.fac_vocab.proofs.TableLemmas.{none_longer}
use Rattle.fac_vocab.proofs.table.Table.longest.Goals as goal

pub returns : goal.returns
returns c = λ v q l. sym (ap (λ (t : List Entry). word_held t v q) c.self.view_is) ∙ none_longer c.self.inside.longest c.self.inside.entries.items v q c.self.invariant.2 l
