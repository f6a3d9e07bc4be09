-- What the program does with what the system gives it.
use Rattle.std.specs.Prelude.{◌≡◌, ◌⊎◌, ℕ, List, [], drop, map, string_bytes, Result, Ok, Err}
use Rattle.std.specs.Process.{exit_status}
use Rattle.std.specs.Vec.Iter.{into_iter_items}
use Rattle.std.specs.declared.process.ExitCode.{ExitCode}
use Rattle.std.specs.declared.vec.IntoIter.{IntoIter}
use Rattle.std.specs.declared.string.String.{String}
use Rattle.fac_tool.specs.declared.ended.Ended.{Ended}
use Rattle.fac_tool.specs.SeenObjects.{SinkSeen, FilesSeen}
use Rattle.fac_tool.specs.Answers.{TellsNoWords}
use Rattle.fac_explainer.specs.Explains.{Explains, IsIdle}

-- the words of a command line behind the program's name; no words, where one of them isn't text
abbrev pub words_given : {Z E : Type 0} → Result (IntoIter (String Z) Z) E → List (List ℕ)
words_given (Ok words) = drop 1 (map string_bytes (into_iter_items words))
words_given (Err error) = []

-- the top call was made on these words, and the program ends with its status
pub record Calls (words : List (List ℕ)) (files : FilesSeen) (out notes : SinkSeen) (code : ExitCode) : Type 0 where
  pub ended : Ended
  pub explains : Explains words files out notes ended
  pub status : exit_status code ≡ ended.status

-- that there was no memory for the words was told, and the program ends with the status of that
pub record TellsCode (notes : SinkSeen) (code : ExitCode) : Type 0 where
  pub ended : Ended
  pub tells : TellsNoWords notes ended
  pub status : exit_status code ≡ ended.status

-- what the program does on the words that it is given; without memory for them it does nothing else than tell that
abbrev pub ProgramRuns : List (List ℕ) → FilesSeen → SinkSeen → SinkSeen → ExitCode → Type 0
ProgramRuns words files out notes code = Calls words files out notes code ⊎ (IsIdle files out × TellsCode notes code)
