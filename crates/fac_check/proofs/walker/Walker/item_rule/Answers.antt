use Rattle.std.proofs.Common.{sym, ap, subst, ◌∙◌}
use Rattle.std.specs.Prelude.{slice_get}
use Rattle.fac_abs.specs.SeenMarks.{base_seen}
use Rattle.fac_check.specs.inner.ItemWalk.{item_rule}
use Rattle.fac_check.specs.inner.Walking.{doing_seen, IsActOf}
use Rattle.fac_check.proofs.UseWalks.{used_rule}
use Rattle.fac_check.proofs.WordItems.{ok_maps}
use Rattle.fac_check.proofs.walker.Walker.item_rule.Goals as goal

pub returns-in-Uses-clause-rule : goal.returns-in-Uses-clause-rule
returns-in-Uses-clause-rule c =
    let M = c.args.self.now.marks in
    let s = c.args.step in
    let there = subst (IsActOf (slice_get c.args.self.now.subject.closed.now.program.words) M) c.in-Uses.is c.requires in
    ok_maps c.use_rule.result
    (λ r rule O.
    used_rule O c.in-Uses.word there.0 M s c.in-Uses.rest c.in-Uses.inputs _ (rule O)
    ∙ ap (λ D. item_rule O.effect (doing_seen O.naming M (slice_get O.program.words) (base_seen O.naming s.base) D) s.nested) (sym c.in-Uses.is))
    c.use_rule.ensures.rule

pub unreachable-requires : goal.unreachable-requires
unreachable-requires c = subst (IsActOf (slice_get c.args.self.now.subject.closed.now.program.words) c.args.self.now.marks) c.in-Again.is c.requires
