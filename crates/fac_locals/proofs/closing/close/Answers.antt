use Rattle.std.proofs.Common.{refl}
use Rattle.fac_lang.proofs.SourcePrograms.{session_of_whole}
use Rattle.fac_locals.proofs.ArraySteps.{same_parts}
use Rattle.fac_locals.proofs.ClosedPrograms.{closes_program}
use Rattle.fac_locals.proofs.closing.close.Goals as goal

pub slot_counts-requires : goal.slot_counts-requires
slot_counts-requires c = c.requires.classes_end

pub returns : goal.returns
returns c =
    let P = c.args.program in
    let parts = c.in_ok-words in
    let made = same_parts c.into_vec.result.items P.words parts.words c.into_vec-arrays.result.items P.arrays c.close_parts.new.arrays.items c.in_ok-from_vec.field-0 parts.templates c.into_vec.ensures c.into_vec-arrays.ensures c.in_ok-from_vec.ensures.ok parts.ensures in
    (closes_program P (session_of_whole P c.requires) c.requires parts.words c.in_ok-from_vec.field-0 parts.templates made, refl)
