use Rattle.std.proofs.Common.{ap, sym, ◌∙◌, List, ℕ, subst, Bool, drop}
use Rattle.std.specs.Str.{bytes_eq}
use Rattle.fac_vocab.specs.declared.few.TheConstants.{FEW}
use Rattle.fac_vocab.specs.inner.Rows.{word_among}
use Rattle.fac_vocab.specs.inner.Late.{number_by, AreLate, LateWhere}
use Rattle.fac_vocab.proofs.LateLemmas.{word_first, word_late}
use Rattle.fac_vocab.proofs.late.word_of.Goals as goal

pub returns-in-Some : goal.returns-in-Some
returns-in-Some c = word_first c.args.entries.now c.args.vocab.now c.args.numbers.now c.in-Some.word (c.in-Some.ensures ∙ ap (word_among c.args.entries.now c.args.vocab.now) c.first_few.ensures)

pub returns-in-None : goal.returns-in-None
returns-in-None c =
    let es = c.args.entries.now in
    let v = c.args.vocab.now in
    let ns = c.args.numbers.now in
    let own = c.args.late.now.own in
    let companions = c.args.late.now.companions in
    let late : AreLate own companions es = subst (λ (b : Bool). LateWhere b own companions es) c.if-not-late.false c.requires.late in
    word_late es v ns c.numbered.result c.number_of.result (c.in-None.ensures ∙ ap (word_among es v) c.first_few.ensures) (c.number_of.ensures ∙ late.owned v c.args.name.now ∙ ap (λ (ms : List ℕ). number_by (bytes_eq v) es (drop FEW ms)) (sym c.requires.numbers)) c.numbered.ensures
