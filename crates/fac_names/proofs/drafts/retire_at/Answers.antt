use Rattle.std.proofs.Common.{ap, ◌∙◌}
use Rattle.fac_lang.specs.declared.program.Sort.{Sort}
use Rattle.fac_endings.specs.declared.draft.Late.TheVariants.{Settled}
use Rattle.fac_lang.specs.LongerPrograms.{as_earlier as past_sort}
use Rattle.fac_names.specs.Resolved.{as_earlier}
use Rattle.fac_names.proofs.DraftLemmas.{changed_at, unchanged}
use Rattle.fac_names.proofs.drafts.retire_at.Goals as goal

pub returns-in-Some : goal.returns-in-Some
returns-in-Some c =
    let d = c.in-Some.draft.now in
    changed_at as_earlier c.args.list.now.items c.args.number d (record { word = record d.word { sort = c.retired.result }; late = Settled }) c.in-Some.ensures.item.3.0 c.in-Some.ensures.item.3.1 (ap (λ (s : Sort). record { word = record d.word { sort = s }; late = Settled }) (c.retired.ensures ∙ ap past_sort c.replace-sort.ensures.value))

pub returns-in_default : goal.returns-in_default
returns-in_default c = unchanged as_earlier c.args.list.now.items c.args.number c.in_default.ensures.item.3
