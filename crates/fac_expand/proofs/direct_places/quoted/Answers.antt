use Rattle.std.proofs.Common.{sym, ◌∙◌}
use Rattle.fac_expand.proofs.DirectGroups.{quoted_alone}
use Rattle.fac_expand.proofs.direct_places.quoted.Goals as goal

pub returns-in-Nothing : goal.returns-in-Nothing
returns-in-Nothing c = λ d. quoted_alone c.args.plain.now c.args.uses.now c.args.depth c.args.place c.args.quotation c.requires (sym c.standing_at.ensures ∙ c.in-Nothing.is) d
