use Rattle.std.proofs.Common.{map, string_bytes}
use Rattle.fac_tool.specs.Plans.{on_sources, saving}
use Rattle.fac_tool.specs.SeenObjects.{files_seen}
use Rattle.fac_tool.proofs.Composing.{told_behind, reaches_no_texts, reaches_early, reaches_saved}
use Rattle.fac_tool.proofs.work.build_steps.Goals as goal

pub returns-in_err-texts-clause-ending : goal.returns-in_err-texts-clause-ending
returns-in_err-texts-clause-ending g c =
    λ still. reaches_no_texts (on_sources (map string_bytes c.args.names.now) (saving c.args.image.now)) _ still c.from_residual.result _ c.from_residual.ensures.1 c.in_err-texts.ensures.loads

pub returns-in_err-accepted-clause-ending : goal.returns-in_err-accepted-clause-ending
returns-in_err-accepted-clause-ending g c =
    let safe = c.accepted_programs_are_safe.ensures in
    let whole = c.resolved_programs_are_whole.ensures in
    let passed = c.from_residual-in_err-accepted.ensures.1 in
    λ still. reaches_early safe whole _ (saving c.args.image.now) _ c.in_ok-texts.texts still c.from_residual-in_err-accepted.result _ passed c.in_ok-texts.ensures.loads c.in_err-accepted.ensures

pub returns-clause-ending : goal.returns-clause-ending
returns-clause-ending g c =
    let safe = c.accepted_programs_are_safe.ensures in
    let whole = c.resolved_programs_are_whole.ensures in
    let loaded = told_behind (files_seen g.F.Files.held g.F.Files.asked g.F.Files.faults c.args.files.now c.load_all.new.files) in
    λ still. reaches_saved safe whole _ c.args.image.now _ loaded c.in_ok-texts.texts still c.in_ok-accepted.accepted c.save_image.result c.in_ok-texts.ensures.loads c.in_ok-accepted.ensures c.save_image.ensures.saves
