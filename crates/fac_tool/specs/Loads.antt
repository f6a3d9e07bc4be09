-- The loads of a command's files.
use Rattle.std.specs.Prelude.{◌≡◌, ◌≤◌, ◌<◌, ◌⊎◌, ◌+◌, ℕ, List, [], ◌∷◌, ◌++◌, length, map, None, Some, Result, Ok, Err, IfSome, IsSomeAnd}
use Rattle.std.specs.List.{concat}
use Rattle.fac_io.specs.declared.files.Asked.TheVariants.{Load}
use Rattle.fac_io.specs.Faults.{Rose}
use Rattle.fac_io.specs.Told.{Stays, Grows, GrowsByPrefix}
use Rattle.fac_notes.specs.declared.status.TheConstants.{FILE_FAULT, TOO_LONG, NO_MEMORY}
use Rattle.fac_notes.specs.declared.report.Report.TheVariants as report
use Rattle.fac_tool.specs.declared.ended.Ended.{Ended}
use Rattle.fac_tool.specs.SeenObjects.{FilesSeen}
use Rattle.fac_tool.specs.Answer.{limit}
use Rattle.fac_tool.specs.Ends.{IsBare}

-- the loads of these names, in this order, gave these texts, which have at most so many bytes together
pub record LoadsGive (names : List (List ℕ)) (limit : ℕ) (files : FilesSeen) (texts : List (List ℕ)) : Type 0 where
  pub within : length (concat texts) ≤ limit
  pub told : IfSome files.held_before (λ held. map held names ≡ map Some texts)
  pub held : Stays files.held_before files.held_now
  pub asked : Grows files.asked_before files.asked_now (map Load names)
  pub faults : files.faults_now ≡ files.faults_before

-- memory was wanted before all files were loaded: of the loads, in their order, a prefix was asked
pub record NotLoaded (names : List (List ℕ)) (files : FilesSeen) (ended : Ended) : Type 0 where
  pub status : ended.status ≡ NO_MEMORY
  pub ticks : ended.ticks ≡ 0
  pub bare : IsBare ended
  pub held : Stays files.held_before files.held_now
  pub asked : GrowsByPrefix files.asked_before files.asked_now (map Load names)
  pub faults : files.faults_now ≡ files.faults_before

-- the loads came to this name, which was the last that was asked: those of the names before it gave these texts
pub record LoadsComeTo (names : List (List ℕ)) (limit : ℕ) (name : List ℕ) (files : FilesSeen) (texts : List (List ℕ)) : Type 0 where
  pub before : List (List ℕ)
  pub after : List (List ℕ)
  pub place : names ≡ before ++ (name ∷ after)
  pub within : length (concat texts) ≤ limit
  pub told : IfSome files.held_before (λ held. map held before ≡ map Some texts)
  pub held : Stays files.held_before files.held_now
  pub asked : Grows files.asked_before files.asked_now (map Load before ++ Load name ∷ [])

-- a load failed
pub record LoadFails (names : List (List ℕ)) (limit : ℕ) (files : FilesSeen) (ended : Ended) : Type 0 where
  pub name : List ℕ
  pub texts : List (List ℕ)
  pub comes : LoadsComeTo names limit name files texts
  pub status : ended.status ≡ FILE_FAULT
  pub ticks : ended.ticks ≡ 0
  pub stack : ended.stack ≡ None
  pub refusal : ended.refusal ≡ Some (report.File name)
  pub rose : Rose files.faults_before files.faults_now

-- with a file the bytes are more than are read, which is no fault
pub record LoadTooLong (names : List (List ℕ)) (limit : ℕ) (files : FilesSeen) (ended : Ended) : Type 0 where
  pub name : List ℕ
  pub texts : List (List ℕ)
  pub comes : LoadsComeTo names limit name files texts
  pub status : ended.status ≡ TOO_LONG
  pub ticks : ended.ticks ≡ 0
  pub stack : ended.stack ≡ None
  pub refusal : ended.refusal ≡ Some (report.TooLong name limit)
  pub longer : IfSome files.held_before (λ held. IsSomeAnd (held name) (λ text. limit < length (concat texts) + length text))
  pub faults : files.faults_now ≡ files.faults_before

-- how the loads end the call
abbrev pub LoadsEnd : List (List ℕ) → ℕ → FilesSeen → Ended → Type 0
LoadsEnd names limit files ended = NotLoaded names files ended ⊎ (LoadFails names limit files ended ⊎ LoadTooLong names limit files ended)

-- the loads of all files of a command: their texts, or how they end the call
abbrev pub LoadsAll : List (List ℕ) → FilesSeen → Result (List (List ℕ)) Ended → Type 0
LoadsAll names files (Ok texts) = LoadsGive names limit files texts
LoadsAll names files (Err ended) = LoadsEnd names limit files ended
