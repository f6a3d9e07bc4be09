-- What contracts above say of an input: the bytes that are left of it, as far as its source gave them, and whatever may come behind.
use Rattle.std.specs.Prelude.{◌≡◌, ℕ, List, [], ◌++◌, Bool, true}
use Rattle.std.specs.declared.option.Option.{Option}
use Rattle.std.specs.Io.KnownBytes.{Consumes}
use Rattle.fac_lines.specs.SeenLines.{LinesSeen}
use Rattle.fac_lines.specs.LineAnswers.{MayCome}

-- an input: the bytes that are kept, whether the source answered that nothing is left, and what is left of the source, where it tells that
pub record InputTold : Type 0 where
  pub kept : List ℕ
  pub ended : Bool
  pub left : Option (List ℕ)

-- the lines of a source as an input
abbrev pub input_tells : {S : Type 0} → (S → Option (List ℕ)) → LinesSeen S → InputTold
input_tells left l = record { kept = l.kept; ended = l.ended; left = left l.source }

-- Something is so of the bytes that were left before and of those that are left now. The bytes that the source gave stand behind those that were kept, and all others that may come stand behind them.
pub record ReadsInput (before now : InputTold) (P : List ℕ → List ℕ → Type 0) : Type 0 where
  pub given : List ℕ
  pub consumed : Consumes before.left now.left given
  pub none : before.ended ≡ true → given ≡ []
  pub stays : before.ended ≡ true → now.ended ≡ true
  pub comes : (more : List ℕ) → MayCome now.ended more → P ((before.kept ++ given) ++ more) (now.kept ++ more)
