use Rattle.std.proofs.Common.{length, sym}
use Rattle.std.proofs.lemmas.List.{length_push}
use Rattle.std.proofs.lemmas.Iterator.{YieldsList-from_chars}
use Rattle.std.proofs.lemmas.Iterator.Consumers.{YieldsList-turn, YieldsList-end}
use Rattle.fac_notes.proofs.VisibleLemmas.{begins, goes_on, ends}
use Rattle.fac_notes.proofs.visible.push_visible.Goals as goal

pub loop-c-init : goal.loop-c-init
loop-c-init c = begins c.args.name.now c.args.line.now c.utf8.name

pub loop-c-preserved : goal.loop-c-preserved
loop-c-preserved c =
    let t = YieldsList-turn (YieldsList-from_chars c.args.name.now c.utf8.name cc) c.loop-c.yielded _ c.loop-c.yielded_by _ _ c.in-Some.c c.in-Some.is c.next.ensures.steps in
    goes_on c.args.name.now c.loop-c.line _ _ (length c.loop-c.yielded) _ c.in-Some.c t (length_push c.loop-c.yielded c.in-Some.c) c.loop-c.invariant c.in_ok-push_told.ensures

pub returns : goal.returns
returns c =
    let t = YieldsList-end (YieldsList-from_chars c.args.name.now c.utf8.name cc) c.loop-c.yielded _ c.loop-c.yielded_by _ _ c.in-None.is c.next.ensures.steps in
    ends c.args.name.now c.loop-c.line _ (length c.loop-c.yielded) (sym t.1) c.loop-c.invariant
