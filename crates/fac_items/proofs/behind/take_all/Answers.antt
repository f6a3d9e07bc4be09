use Rattle.fac_items.specs.Items.{is_cond}
use Rattle.fac_items.proofs.CodeLemmas.{scan_more}
use Rattle.fac_items.proofs.behind.take_all.Goals as goal

pub loop-element-preserved : goal.loop-element-preserved
loop-element-preserved c =
    let at = c.loop-element in
    scan_more (is_cond c.args.scope.now) c.args.elements.now at.rest.now c.in-Some.earlier.now c.in-Some.element.now c.args.scan.now at.scan c.take.new.scan at.invariant c.in-Some.ensures.cases.0 c.in_ok-take.ensures
