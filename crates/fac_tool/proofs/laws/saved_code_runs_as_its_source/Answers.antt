use Rattle.fac_tool.proofs.SavedRunLemmas.{saved_runs}
use Rattle.fac_tool.proofs.laws.saved_code_runs_as_its_source.Goals as goal

pub returns : goal.returns
returns c =
    saved_runs c.runs_have_one_end.ensures c.printed_forms_are_equal.ensures c.safe_programs_are_not_stuck.ensures c.one_image.ensures c.images_are_exact.ensures c.encoded_is_decoded.ensures.image
