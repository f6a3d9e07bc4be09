use Rattle.std.proofs.Common.{◌∙◌, arith}
use Rattle.fac_lines.proofs.CutLemmas.{rest_none, rest_some}
use Rattle.fac_lines.proofs.cutting.cut_rest.Goals as goal

pub returns-then-len-eq0-clause-cuts : goal.returns-then-len-eq0-clause-cuts
returns-then-len-eq0-clause-cuts c = rest_none c.args.front.now (omega (arith, c.len.ensures, c.if-len-eq0.true))

pub returns-clause-cuts : goal.returns-clause-cuts
returns-clause-cuts c = rest_some c.args.front.now _ _ c.requires (omega (arith, c.len.ensures, c.if-len-eq0.false)) c.replace.ensures.value (c.replace.ensures.after ∙ c.new.ensures)
