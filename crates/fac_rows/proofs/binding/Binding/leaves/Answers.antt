use Rattle.std.proofs.Common.{◌≡◌, Some, ap, ◌∙◌, subst}
use Rattle.fac_base.specs.EffectView.{outs_leaving}
use Rattle.fac_base.specs.Signatures.{Leaving}
use Rattle.fac_abs.specs.RowVariables.{effect_leaving}
use Rattle.fac_abs.specs.MarkTrees.{Naming}
use Rattle.fac_abs.specs.SeenMarks.{IsReached, base_seen, stack_of, reached_seen}
use Rattle.fac_abs.specs.declared.reached.Reached.{Reached}
use Rattle.fac_rows.specs.RowBinding.{row_result, leaving_on}
use Rattle.fac_rows.specs.SeenBindings.{binding_seen}
use Rattle.fac_rows.proofs.BindingLemmas.{result_dead, result_on, if_ok}
use Rattle.fac_rows.proofs.binding.Binding.leaves.Goals as goal

pub leave-requires : goal.leave-requires
leave-requires c = subst (λ (A : Reached). IsReached c.args.marks.now A) c.in-On.is (c.in-Some.ensures c.args.marks.now c.requires).0

pub returns-in-Dead-clause-leaves : goal.returns-in-Dead-clause-leaves
returns-in-Dead-clause-leaves c = λ N.
    result_dead c.args.effect.now (binding_seen N c.args.marks.now c.args.self.now) ((c.in-Some.ensures c.args.marks.now c.requires).1 N ∙ ap (λ (A : Reached). Some (reached_seen N c.args.marks.now A)) c.in-Dead.is)

pub returns-in-On-clause-leaves : goal.returns-in-On-clause-leaves
returns-in-On-clause-leaves c =
    let M = c.args.marks.now in
    let l : Leaving = outs_leaving c.effect.inside.outs in
    let left : l ≡ effect_leaving c.args.effect.now = ap effect_leaving c.effect.view_is in
    if_ok (λ A. (N : Naming) → reached_seen N c.leave.new.marks A ≡ leaving_on l (base_seen N c.in-On.base) (stack_of N M c.in-On.stack)) (λ A. (N : Naming) → reached_seen N c.leave.new.marks A ≡ row_result c.args.effect.now (binding_seen N M c.args.self.now)) c.leave.result (λ A h N. h N ∙ result_on c.args.effect.now l (binding_seen N M c.args.self.now) (base_seen N c.in-On.base) (stack_of N M c.in-On.stack) left ((c.in-Some.ensures M c.requires).1 N ∙ ap (λ (B : Reached). Some (reached_seen N M B)) c.in-On.is)) c.leave.ensures.leaves
