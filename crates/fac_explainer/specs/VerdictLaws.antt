-- The law that what is explained is what `check` says.
use Rattle.std.specs.Prelude.{◌≡◌, ◌⊎◌, ℕ, List, ◌∷◌, Some, codes}
use Rattle.fac_io.specs.Names.{Held}
use Rattle.fac_notes.specs.declared.status.TheConstants.{SUCCESS, SYNTAX_REFUSED, NAME_REFUSED, CHECK_REFUSED}
use Rattle.fac_tool.specs.declared.ended.Ended.{Ended}
use Rattle.fac_tool.specs.Answers.{Answers}
use Rattle.fac_tool.specs.SeenObjects.{SinkSeen, FilesSeen, InputSeen}
use Rattle.fac_explainer.specs.Explains.{Explains}

-- a call that was not cut short: files are accepted or refused
abbrev pub IsVerdict : Ended → Type 0
IsVerdict ended = (ended.status ≡ SUCCESS) ⊎ ((ended.status ≡ SYNTAX_REFUSED) ⊎ ((ended.status ≡ NAME_REFUSED) ⊎ (ended.status ≡ CHECK_REFUSED)))

-- Of files that hold the same, an explanation has the status and the refusal that `check` answers.
abbrev pub ExplainsAsChecked : Type 0
ExplainsAsChecked =
    (names : List (List ℕ)) (held : Held) (files others : FilesSeen) (seen : InputSeen) (out notes written told : SinkSeen) (ended checked : Ended) → files.held_before ≡ Some held → others.held_before ≡ Some held →
    IsVerdict ended → IsVerdict checked → Explains names files out notes ended → Answers (codes "check" ∷ names) others seen written told checked → (ended.status ≡ checked.status) × (ended.refusal ≡ checked.refusal)
