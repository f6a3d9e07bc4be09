use Rattle.std.proofs.lemmas.Result.{IfOk-weaker}
use Rattle.fac_bytes.specs.Spellable.{IsSpellable}
use Rattle.fac_expand.specs.Expands.{Expands}
use Rattle.fac_tool.proofs.ClosedLemmas.{if_carried}
use Rattle.fac_tool.proofs.DirectUses.{if_direct}
use Rattle.fac_tool.proofs.EffectRows.{if_rows_have}
use Rattle.fac_tool.proofs.linking.image_with.Goals as goal

pub returns-clause-carried : goal.returns-clause-carried
returns-clause-carried g c =
    let made = c.in_ok-plain.ensures in
    if_carried c.safe_programs_are_not_stuck.ensures c.args.checked.closed c.args.heights.now c.in_ok-plain.plain.image c.expand.result c.requires.effects made.agrees made.stands c.expand.ensures.expands

pub returns-clause-rows : goal.returns-clause-rows
returns-clause-rows g c = if_rows_have c.args.checked.closed c.args.heights.now c.in_ok-plain.plain.image c.expand.result c.in_ok-plain.ensures.plain c.expand.ensures.expands

pub returns-clause-direct : goal.returns-clause-direct
returns-clause-direct g c =
    let made = c.in_ok-plain.ensures in
    if_direct c.args.checked.closed c.in_ok-plain.plain.image c.in_ok-plain.plain.uses c.as_slice.result.now c.args.extent c.expand.result c.as_slice.ensures made.stands made.uses c.expand.ensures.direct

pub returns-clause-spellable : goal.returns-clause-spellable
returns-clause-spellable g c = IfOk-weaker c.expand.result (Expands c.args.checked.closed.program.top c.in_ok-plain.plain.image) IsSpellable (λ image expands. expands.spellable c.in_ok-plain.ensures.spellable) c.expand.ensures.expands
