use Rattle.std.proofs.Common.{sym, ap, ◌∙◌}
use Rattle.std.specs.Option.{option_copied}
use Rattle.fac_check.proofs.TakenPrograms.{template_taken}
use Rattle.fac_check.proofs.NamedWords.{some_below}
use Rattle.fac_check.proofs.recursion.add_inner.Goals as goal

pub add_names-requires-clause-phrase : goal.add_names-requires-clause-phrase
add_names-requires-clause-phrase c =
    let C = c.args.closed.now in
    template_taken C.program C.templates c.requires.program c.args.number c.in-Some.template.now (sym c.in-Some.ensures)

pub unreachable-requires : goal.unreachable-requires
unreachable-requires c = some_below c.args.closed.now.templates c.args.number c.requires.number (sym c.get.ensures ∙ ap option_copied c.in-None.is)
