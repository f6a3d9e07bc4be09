use Rattle.std.proofs.Common.{ℕ, ◌++◌, Option, sym, ap, ◌∙◌}
use Rattle.fac_check.specs.inner.UndeclaredRecursion.{inline_if}
use Rattle.fac_check.proofs.TakenPrograms.{named_below}
use Rattle.fac_check.proofs.NamedWords.{on_ok}
use Rattle.fac_check.proofs.recursion.add_named.Goals as goal

pub add_word-requires : goal.add_word-requires
add_word-requires c =
    let C = c.args.closed.now in
    named_below C.program C.templates c.requires.program _ c.in-Some.number c.requires.item (sym c.named_in.ensures ∙ c.in-Some.is)

pub returns-in-Some : goal.returns-in-Some
returns-in-Some c = on_ok c.add_word.result (λ e. e ∙ ap (λ (o : Option ℕ). c.args.named.now ++ inline_if c.args.closed.now.program o) (sym c.in-Some.is ∙ c.named_in.ensures)) c.add_word.ensures
