-- Inner contracts: the names of the prelude and of texts.
use Rattle.std.specs.Prelude.{ℕ, List, [], ◌∷◌, map, false, Result, Ok, Err}
use Rattle.fac_source.specs.declared.tree.Form.{Form}
use Rattle.fac_source.specs.declared.refusal.ResolveFault.{ResolveFault}
use Rattle.fac_names.specs.FromFlat.{form_of}
use Rattle.fac_names.specs.Resolution.{first_reading}
use Rattle.fac_names.specs.Resolved.{going_on, read_files}
use Rattle.fac_names.specs.TakenTexts.{Knows}
use Rattle.fac_names.specs.declared.known.Known.{Known}
use Rattle.fac_notes.specs.Sources.{tree}
use Rattle.fac_session.specs.Sessions.{first_known, refuses, waits}
use Rattle.fac_judge.specs.KnownTexts.{GoesOn, GoesOnWith, IsFirst, IsPreludeRefusal}
use Rattle.fac_judge.specs.MeantTexts.{ComesTo, Means}
use Rattle.fac_judge.specs.declared.known_texts.SessionFault.{SessionFault}
use Rattle.fac_judge.specs.declared.known_texts.SessionFault.TheVariants as fault
use Rattle.fac_judge.specs.declared.known_texts.NoNext.{NoNext}
use Rattle.fac_judge.specs.declared.known_texts.NoNext.TheVariants as none

-- what the prelude with these forms comes to, what a session begins with then, and what a text of these forms comes to behind what is known
unfoldable pub KnowsPrelude : List Form → Result Known ResolveFault → Type 0
KnowsPrelude forms r = Knows (read_files first_reading (map form_of forms ∷ []) false) r

unfoldable pub KnowsBeginning : List Form → Result Known ResolveFault → Type 0
KnowsBeginning forms r = Knows (first_known forms) r

unfoldable pub KnowsNext : Known → List Form → Result Known ResolveFault → Type 0
KnowsNext k forms r = Knows (going_on k forms) r

-- what is known before the first text, or why there is no session
abbrev pub KnowsFirst : Result Known SessionFault → Type 0
KnowsFirst (Ok k) = IsFirst k
KnowsFirst (Err (fault.Prelude why)) = IsPreludeRefusal why
KnowsFirst (Err fault.Memory) = Unit {0}

-- what a text of these forms goes on with behind what is known, or why with nothing
abbrev pub NamesForms : Known → List Form → Result Known NoNext → Type 0
NamesForms k forms (Ok q) = GoesOnWith k forms q
NamesForms k forms (Err (none.Waits at)) = ⊥
NamesForms k forms (Err (none.Refused why)) = (count : ℕ) → Means k count (tree forms) (refuses why)
NamesForms k forms (Err none.Memory) = Unit {0}

-- so for the bytes of a text
abbrev pub NamesText : Known → List ℕ → Result Known NoNext → Type 0
NamesText k text (Ok q) = GoesOn k text q
NamesText k text (Err (none.Waits at)) = (count : ℕ) → ComesTo k count text (waits at)
NamesText k text (Err (none.Refused why)) = (count : ℕ) → ComesTo k count text (refuses why)
NamesText k text (Err none.Memory) = Unit {0}
