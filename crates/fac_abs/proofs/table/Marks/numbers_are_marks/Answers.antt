use Rattle.std.proofs.Common.{◌≡◌, refl, sym, ap, ◌∙◌}
use Rattle.std.specs.Map.{keys_of}
use Rattle.std.specs.Prelude.{nat_eq}
use Rattle.std.proofs.lemmas.Bool.{eqb-true, eq-eqb}
use Rattle.fac_abs.specs.Marks.{mark_eq}
use Rattle.fac_abs.specs.SeenMarks.{MarksSeen, mark_of}
use Rattle.fac_abs.proofs.SeenLemmas.{mark_in}
use Rattle.fac_abs.proofs.MoveLemmas.{same_numbers}
use Rattle.fac_abs.proofs.table.Marks.numbers_are_marks.Goals as goal

pub returns : goal.returns
returns c = λ N m n first second e.
    let ns = keys_of c.self.inside.nodes in
    let ss = c.self.inside.stack_nodes in
    let M = c.args.self.now in
    let low = mark_in c.self.inside.templates c.self.inside.frames ns ss M c.self.view_is m first in
    let lower = mark_in c.self.inside.templates c.self.inside.frames ns ss M c.self.view_is n second in
    let table = c.first-first.ensures.table in
    let ordered = c.self.invariant.0 in
    let apart = c.empty-apart.ensures.distinct in
    let told : nat_eq m n ≡ mark_eq (mark_of N M m) (mark_of N M n) = same_numbers c.self.inside.templates c.self.inside.frames N ns ss table ordered apart m n low lower ∙ ap (λ (L : MarksSeen). mark_eq (mark_of N L m) (mark_of N L n)) c.self.view_is in
    let own : nat_eq n n ≡ mark_eq (mark_of N M n) (mark_of N M n) = same_numbers c.self.inside.templates c.self.inside.frames N ns ss table ordered apart n n lower lower ∙ ap (λ (L : MarksSeen). mark_eq (mark_of N L n) (mark_of N L n)) c.self.view_is in
    eqb-true m n (told ∙ ap (λ x. mark_eq x (mark_of N M n)) e ∙ sym own ∙ eq-eqb n n refl)
