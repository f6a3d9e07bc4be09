use Rattle.fac_notes.proofs.LineLemmas.{some_bytes}
use Rattle.fac_notes.proofs.laws.notes_are_not_empty.Goals as goal

pub returns : goal.returns
returns c = some_bytes
