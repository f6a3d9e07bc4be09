use Rattle.std.proofs.Common.{◌∙◌}
use Rattle.fac_trees.proofs.PieceLemmas.{all_parts, on_ok}
use Rattle.fac_trees.proofs.parts.parts_of.Goals as goal

pub returns : goal.returns
returns c = on_ok c.from_vec.result c.from_vec.ensures.ok (λ parts e. all_parts c.args.texts c.texts.parts.items parts c.texts.last c.texts.left c.texts.invariant c.in_default.ensures.0 (e ∙ c.in_ok-push.ensures.items))
