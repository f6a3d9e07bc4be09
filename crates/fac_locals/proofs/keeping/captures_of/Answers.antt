use Rattle.std.proofs.Common.{◌∙◌}
use Rattle.fac_locals.specs.Asked.{has_cell}
use Rattle.fac_locals.proofs.CellLemmas.{kept_are_captured}
use Rattle.fac_locals.proofs.keeping.captures_of.Goals as goal

pub returns : goal.returns
returns c = λ i h. c.in_ok-captures.ensures.ok ∙ c.reverse.ensures.items ∙ c.in_ok-numbers.ensures ∙ kept_are_captured 0 c.args.cells.now i (has_cell c.args.asked) h
