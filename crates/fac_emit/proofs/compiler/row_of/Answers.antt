use Rattle.std.proofs.Common.{ℕ, ap, ◌∙◌, refl}
use Rattle.std.specs.Prelude.{nat_eq}
use Rattle.fac_lang.specs.declared.program.Program.{Program}
use Rattle.fac_emit.specs.inner.NumberedWords.{numbered_action}
use Rattle.fac_emit.specs.inner.Promised.{height_where}
use Rattle.fac_emit.proofs.NumberLemmas.{action_is}
use Rattle.fac_emit.proofs.PromisedLemmas.{tested_is}
use Rattle.fac_emit.proofs.compiler.row_of.Goals as goal

pub returns : goal.returns
returns c =
    let closed = c.args.emission.now in
    let word = c.args.word.now in
    let action = c.action_of.ensures ∙ ap (λ (n : ℕ). numbered_action n c.args.place word.sort) c.word_number.ensures ∙ action_is closed c.args.number c.args.place word.sort c.requires.sort in
    let height = c.height_of.ensures ∙ ap (λ (P : Program). height_where (nat_eq c.args.number P.top) word) c.program.ensures ∙ tested_is closed.program c.args.number word in
    rw (c.text_number.ensures, c.text_number-2.ensures, action, height) refl
