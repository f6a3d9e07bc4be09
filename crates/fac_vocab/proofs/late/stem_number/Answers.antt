use Rattle.std.proofs.Common.{ap, sym, ◌∙◌, ◌++◌, List, ℕ}
use Rattle.std.specs.Prelude.{codes}
use Rattle.fac_vocab.specs.inner.Late.{late_numbers}
use Rattle.fac_vocab.proofs.LateLemmas.{stem_number, no_stem}
use Rattle.fac_vocab.proofs.late.stem_number.Goals as goal

pub returns-in-Some : goal.returns-in-Some
returns-in-Some c = λ es kept.
    let name = c.args.name.now in
    c.number_of.ensures
    ∙ kept c.in-Some.stem.now name
    ∙ stem_number c.args.vocab.now c.in-Some.stem.now (c.in-Some.ensures.cases.1.1 ∙ ap (λ (xs : List ℕ). xs ++ codes ".private") (sym c.in-Some.ensures.cases.2)) es (late_numbers name es)

pub returns-in-None : goal.returns-in-None
returns-in-None c = λ es kept. no_stem c.args.vocab.now c.in-None.ensures.cases es (late_numbers c.args.name.now es)
