use Rattle.std.proofs.Common.{◌++◌, ◌+◌, ◌∙◌, ap, sym, length, drop, List, true}
use Rattle.fac_vocab.specs.Scopes.{Entry, entries_from}
use Rattle.fac_vocab.specs.ScopeCalls.{names_differ}
use Rattle.fac_vocab.proofs.TableLemmas.{not_before, entries_step}
use Rattle.fac_vocab.proofs.scope.table_of.Goals as goal

pub add-requires : goal.add-requires
add-requires c =
    let d = c.word-item.result in
    let n = length c.loop-word.table in
    let step = entries_step n c.loop-word.word-index c.args.words.now d c.loop-word-test.true c.word-item.is in
    not_before c.loop-word.table (entries_from (n + 1) (drop (c.loop-word.word-index + 1) c.args.words.now)) (record { vocab = d.name.vocab; name = d.name.name; word = n; is_defined = true }) (ap names_differ (sym (c.loop-word.invariant ∙ ap (λ (es : List Entry). c.loop-word.table ++ es) step)) ∙ c.requires)
