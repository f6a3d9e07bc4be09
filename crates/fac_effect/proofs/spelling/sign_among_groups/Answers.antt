use Rattle.std.proofs.Common.{◌≡◌, ◌∙◌, sym, ap}
use Rattle.std.specs.Prelude.{map}
use Rattle.std.specs.Option.{option_map}
use Rattle.fac_effect.proofs.ReservedLemmas.{group_of_length, in_group}
use Rattle.fac_effect.proofs.spelling.sign_among_groups.Goals as goal

pub returns-in-Some : goal.returns-in-Some
returns-in-Some c = c.sign_in.ensures ∙ sym (group_of_length (λ group. map (λ row. (row.0.now, row.1)) group.now) c.args.groups.now c.args.text.now _ c.requires (sym c.in-Some.is ∙ c.group_at.ensures))

pub returns-in-None : goal.returns-in-None
returns-in-None c = sym (group_of_length (λ group. map (λ row. (row.0.now, row.1)) group.now) c.args.groups.now c.args.text.now _ c.requires (sym c.in-None.is ∙ c.group_at.ensures))
