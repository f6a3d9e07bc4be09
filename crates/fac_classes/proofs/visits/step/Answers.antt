use Rattle.std.proofs.Common.{◌++◌, ◌∷◌, [], ◌∙◌, false, ap, sym, subst, arith}
use Rattle.std.specs.Prelude.{OnOk}
use Rattle.std.proofs.lemmas.List.{get_or_read}
use Rattle.std.proofs.lemmas.Result.{on_ok_weaker}
use Rattle.fac_classes.specs.declared.visits.Visit.{Visit}
use Rattle.fac_classes.specs.declared.visits.Visit.TheVariants.{Enter}
use Rattle.fac_classes.specs.inner.Visits.{visited, Walks, StepsTo}
use Rattle.fac_classes.proofs.VisitLemmas.{visit_low, entered_again, entered_first}
use Rattle.fac_classes.proofs.visits.step.Goals as goal

pub index-requires : goal.index-requires
index-requires c =
    let is = ap visited c.in-Enter.is in
    let low = visit_low c.args.classes.now c.args.walk.now.done.items c.args.walk.now.order.items c.args.walk.now.stack.items c.args.visit c.requires.walk in
    omega (arith, low, is)

pub returns-then-index : goal.returns-then-index
returns-then-index c =
    let low = visit_low c.args.classes.now c.args.walk.now.done.items c.args.walk.now.order.items c.args.walk.now.stack.items (Enter c.in-Enter.class) (subst (λ (v : Visit). Walks c.args.classes.now c.args.walk.now.done.items c.args.walk.now.order.items (c.args.walk.now.stack.items ++ v ∷ [])) c.in-Enter.is c.requires.walk) in
    subst (λ (v : Visit). StepsTo c.args.classes.now (c.args.walk.now.stack.items ++ v ∷ []) c.args.walk.now.done.items c.args.walk.now.order.items c.args.walk.now.stack.items) (sym c.in-Enter.is)
    (entered_again c.args.classes.now c.requires.sound c.args.walk.now.done.items c.args.walk.now.order.items c.args.walk.now.stack.items c.in-Enter.class
    (subst (λ (v : Visit). Walks c.args.classes.now c.args.walk.now.done.items c.args.walk.now.order.items (c.args.walk.now.stack.items ++ v ∷ [])) c.in-Enter.is c.requires.walk)
    (sym (get_or_read c.args.walk.now.done.items c.in-Enter.class c.index.result.now low c.index.ensures false) ∙ c.if-index.true))

pub returns-else-index : goal.returns-else-index
returns-else-index c =
    subst (λ (v : Visit). OnOk c.enter.result (StepsTo c.args.classes.now (c.args.walk.now.stack.items ++ v ∷ []) c.args.walk.now.done.items c.args.walk.now.order.items c.enter.new.stack.items)) (sym c.in-Enter.is)
    (on_ok_weaker c.enter.result (λ e. entered_first c.args.classes.now c.requires.sound c.args.walk.now.done.items c.args.walk.now.order.items c.args.walk.now.stack.items c.enter.new.stack.items c.in-Enter.class
    (subst (λ (v : Visit). Walks c.args.classes.now c.args.walk.now.done.items c.args.walk.now.order.items (c.args.walk.now.stack.items ++ v ∷ [])) c.in-Enter.is c.requires.walk) e) c.enter.ensures)
