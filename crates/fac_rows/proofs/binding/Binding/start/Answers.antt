use Rattle.std.proofs.Common.{◌≡◌, ℕ, List, Option, Some, sym, ap, ◌∙◌, subst}
use Rattle.fac_abs.specs.RowVariables.{row_name}
use Rattle.fac_abs.specs.Marks.{unknowns}
use Rattle.fac_abs.specs.SeenMarks.{IsReached, stack_of, reached_seen}
use Rattle.fac_abs.specs.declared.reached.Reached.{Reached}
use Rattle.fac_rows.specs.RowBinding.{start_row}
use Rattle.fac_rows.specs.SeenBindings.{binding_seen}
use Rattle.fac_rows.proofs.binding.Binding.start.Goals as goal

pub unknowns-requires-in-On : goal.unknowns-requires-in-On
unknowns-requires-in-On c = subst (λ (A : Reached). IsReached c.args.marks.now A) c.in-On.is (c.in-Some-find.ensures c.args.marks.now c.requires).0

pub returns-in-Dead-clause-starts : goal.returns-in-Dead-clause-starts
returns-in-Dead-clause-starts c = λ N.
    let M = c.args.marks.now in
    let row : row_name c.args.effect.now ≡ Some c.in-Some.name = ap row_name (sym c.effect.view_is) ∙ c.in-Some.is in
    ap (λ (r : Option (List ℕ)). start_row r (binding_seen N M c.args.self.now)) row ∙ (c.in-Some-find.ensures M c.requires).1 N ∙ ap (λ (A : Reached). Some (reached_seen N M A)) c.in-Dead.is

pub returns-in_ok-stack-in-On-clause-starts : goal.returns-in_ok-stack-in-On-clause-starts
returns-in_ok-stack-in-On-clause-starts c =
    let M = c.args.marks.now in
    let row : row_name c.args.effect.now ≡ Some c.in-Some.name = ap row_name (sym c.effect.view_is) ∙ c.in-Some.is in
    let made = c.in_ok-stack-in-On.ensures.made in (
      made.valid,
      λ N. (
        stack_of N M c.in-On.stack,
        ap (λ (r : Option (List ℕ)). start_row r (binding_seen N M c.args.self.now)) row ∙ (c.in-Some-find.ensures M c.requires).1 N ∙ ap (λ (A : Reached). Some (reached_seen N M A)) c.in-On.is,
        made.is N ∙ ap (λ (n : ℕ). unknowns n (stack_of N M c.in-On.stack)) c.count_inputs-count.ensures,
      ),
    )
