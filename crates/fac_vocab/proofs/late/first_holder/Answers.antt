use Rattle.std.proofs.Common.{ap, sym, ◌∙◌, ℕ, Option, subst, Bool, take}
use Rattle.fac_vocab.specs.declared.few.TheConstants.{FEW}
use Rattle.fac_vocab.specs.inner.Rows.{first_among}
use Rattle.fac_vocab.specs.inner.Late.{earlier, AreLate, LateWhere}
use Rattle.fac_vocab.proofs.LateLemmas.{holder_first, holder_late}
use Rattle.fac_vocab.proofs.late.first_holder.Goals as goal

pub returns-in-Some : goal.returns-in-Some
returns-in-Some c = holder_first c.args.entries.now c.args.vocab.now c.args.numbers.now c.in-Some.number (c.in-Some.ensures ∙ ap (first_among c.args.entries.now c.args.vocab.now) c.first_few.ensures)

pub returns-in-None : goal.returns-in-None
returns-in-None c =
    let es = c.args.entries.now in
    let v = c.args.vocab.now in
    let ns = c.args.numbers.now in
    let own = c.args.late.now.own in
    let companions = c.args.late.now.companions in
    let late : AreLate own companions es = subst (λ (b : Bool). LateWhere b own companions es) c.if-not-late.false c.requires.late in
    let q = c.args.name.now in
    holder_late es v q c.earlier_of.result c.number_of-own.result c.stem_number-stem.result c.number_of-private.result (c.in-None.ensures ∙ ap (first_among es v) (c.first_few.ensures ∙ ap (take FEW) c.requires.numbers))
    (c.number_of-own.ensures ∙ late.owned v q) (c.stem_number-stem.ensures es late.owned) (c.number_of-private.ensures ∙ late.companions v q) (c.earlier_of.ensures ∙ ap (λ (o : Option ℕ). earlier o c.number_of-private.result) c.earlier_of-earliest.ensures)
    ∙ ap (first_among es v) (sym c.requires.numbers)
