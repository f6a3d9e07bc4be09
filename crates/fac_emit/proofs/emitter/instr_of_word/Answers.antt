use Rattle.std.proofs.Common.{ap, sym, ◌∙◌}
use Rattle.std.specs.Prelude.{ℕ, slice_get}
use Rattle.fac_lang.specs.declared.program.Program.{Program}
use Rattle.fac_emit.specs.ProgramCode.{word_instr}
use Rattle.fac_emit.specs.inner.NumberedWords.{numbered_instr}
use Rattle.fac_emit.proofs.NumberLemmas.{number_of_word, instr_numbered}
use Rattle.fac_emit.proofs.emitter.instr_of_word.Goals as goal

pub returns-in-Some : goal.returns-in-Some
returns-in-Some c =
    let closed = c.args.emission.now in
    let d = c.in-Some.def.now in
    let found = ap (λ (P : Program). slice_get P.words c.args.word) (sym c.program.ensures) ∙ sym c.in-Some.ensures in
    let number = c.word_number.ensures ∙ number_of_word closed c.args.word d found in
    c.instr_of_sort.ensures ∙ ap (λ (n : ℕ). numbered_instr n c.args.word d.sort) number ∙ instr_numbered closed c.args.word d.sort ∙ ap (word_instr closed c.args.word) (sym found)
