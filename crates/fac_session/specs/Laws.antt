-- Laws of sessions.
use Rattle.std.specs.Prelude.{◌≡◌, ◌⊎◌, ℕ, List, [], Ok}
use Rattle.fac_base.specs.declared.limits.TheConstants.{TICKS}
use Rattle.fac_lang.specs.LongerPrograms.{IsLonger}
use Rattle.fac_source.specs.declared.tree.Form.{Form}
use Rattle.fac_parse.specs.Trees.{IsWellFormed}
use Rattle.fac_known.specs.KnownPrograms.{IsKnown}
use Rattle.fac_notes.specs.Sources.{Source, tree}
use Rattle.fac_session.specs.Sessions.{Session, session_of}
use Rattle.fac_session.specs.SessionLines.{Said, more, defined, ran, refused, failed, spent, Behind, behind_waiting, with_waiting, line}

-- a line of which nothing runs: the session behind it is this one, nothing was written, and nothing was taken of the input
pub record RunsNothing (s : Session) (input : List ℕ) (b : Behind) : Type 0 where
  pub session : b.session ≡ s
  pub output : b.output ≡ []
  pub left : b.left ≡ input

-- the stack is as it was before, and nothing waits
pub record HasStack (s : Session) (b : Behind) : Type 0 where
  pub stack : b.session.stack ≡ s.stack
  pub waiting : b.session.waiting ≡ []

-- what stands behind a line with this text, by what is said of it
abbrev pub StandsBehind : Session → List ℕ → List ℕ → Behind → Said → Type 0
StandsBehind s text input b (more r) = RunsNothing (with_waiting s text) input b
StandsBehind s text input b (refused r) = RunsNothing (with_waiting s []) input b
StandsBehind s text input b defined = HasStack s b
StandsBehind s text input b (ran n) = b.session.waiting ≡ []
StandsBehind s text input b (failed r n) = HasStack s b
StandsBehind s text input b (spent n) = HasStack s b × (n ≡ TICKS)

-- A text that waits or is refused changes nothing else, and a phrase that fails or spends its budget leaves the stack as it was.
abbrev pub LinesKeepWhatStands : Type 0
LinesKeepWhatStands = (source : List ℕ → Source) (s : Session) (bytes input : List ℕ) → StandsBehind s (behind_waiting s.waiting bytes) input (line source s bytes input) (line source s bytes input).said

-- a text that has a well-formed tree, where it has one
abbrev pub HasWellFormedTree : Source → Type 0
HasWellFormedTree s = (forms : List Form) → s ≡ tree forms → IsWellFormed forms

-- What is known before the first line belongs together.
abbrev pub SessionsAreKnown : Type 0
SessionsAreKnown = (prelude : Source) (s : Session) → HasWellFormedTree prelude → session_of prelude ≡ Ok s → IsKnown s.known

-- Where what is known before a line belongs together, so does what is known behind it, whatever the line is.
abbrev pub LinesStayKnown : Type 0
LinesStayKnown = (source : List ℕ → Source) (s : Session) (bytes input : List ℕ) → ((text : List ℕ) → HasWellFormedTree (source text)) → IsKnown s.known → IsKnown (line source s bytes input).session.known

-- Behind a line the program is that of before, or one that goes on with it.
abbrev pub LinesGoOn : Type 0
LinesGoOn = (source : List ℕ → Source) (s : Session) (bytes input : List ℕ) → IsKnown s.known → ((line source s bytes input).session.known ≡ s.known) ⊎ IsLonger s.known.program (line source s bytes input).session.known.program
