use Rattle.std.proofs.Common.{ap, sym, ◌∙◌, subst, Bool, take}
use Rattle.fac_vocab.specs.declared.few.TheConstants.{FEW}
use Rattle.fac_vocab.specs.inner.Rows.{defined_among}
use Rattle.fac_vocab.specs.inner.Late.{AreLate, LateWhere}
use Rattle.fac_vocab.proofs.LateLemmas.{is_defined_first, is_defined_late}
use Rattle.fac_vocab.proofs.late.is_defined.Goals as goal

pub returns-then-is_defined_in : goal.returns-then-is_defined_in
returns-then-is_defined_in c = is_defined_first c.args.entries.now c.args.vocab.now c.args.numbers.now (sym (c.if-is_defined_in.ensures ∙ ap (defined_among c.args.entries.now c.args.vocab.now) c.first_few.ensures))

pub returns : goal.returns
returns c =
    let es = c.args.entries.now in
    let v = c.args.vocab.now in
    let ns = c.args.numbers.now in
    let own = c.args.late.now.own in
    let companions = c.args.late.now.companions in
    let late : AreLate own companions es = subst (λ (b : Bool). LateWhere b own companions es) c.if-not-late.false c.requires.late in
    let q = c.args.name.now in
    is_defined_late es v q c.is_any_defined.result c.number_of-own.result c.stem_number-stem.result c.number_of-private.result c.requires.once (sym (c.if-is_defined_in.ensures ∙ ap (defined_among es v) (c.first_few.ensures ∙ ap (take FEW) c.requires.numbers)))
    (c.number_of-own.ensures ∙ late.owned v q) (c.stem_number-stem.ensures es late.owned) (c.number_of-private.ensures ∙ late.companions v q) c.is_any_defined.ensures
    ∙ ap (defined_among es v) (sym c.requires.numbers)
