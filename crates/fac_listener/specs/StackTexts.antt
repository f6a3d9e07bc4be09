-- The stack as it is written behind a phrase.
use Rattle.std.specs.Prelude.{◌≡◌, ◌<◌, ◌≤◌, ℕ, List, [], ◌∷◌, ◌++◌, codes, length, Result, Ok, Err}
use Rattle.fac_io.specs.Faults.{Rose}
use Rattle.fac_io.specs.Told.{TookFront, TookWhole}
use Rattle.fac_lines.specs.Channels.{ChannelsTold, CountsStand, IsUnread}
use Rattle.fac_notes.specs.Told.{stack_lines}
use Rattle.fac_listener.specs.declared.stack_lines.Unwritten.{Unwritten}
use Rattle.fac_listener.specs.declared.stack_lines.Unwritten.TheVariants as unwritten

-- the texts of a stack as lines behind a header, or nothing where it is empty
abbrev pub lines_with_header : List (List ℕ) → List ℕ
lines_with_header [] = []
lines_with_header (t ∷ ts) = codes "--- Data stack:\n" ++ stack_lines (t ∷ ts)

-- these lines were written
pub record WroteLines (lines : List ℕ) (before now : ChannelsTold) : Type 0 where
  pub took : TookWhole before.output now.output lines
  pub counts : CountsStand before now
  pub unread : IsUnread before now

-- a front of them was written, and the output failed; there were some
pub record WroteFront (lines : List ℕ) (before now : ChannelsTold) : Type 0 where
  pub some : 0 < length lines
  pub took : TookFront before.output now.output lines
  pub later : before.output_faults ≤ now.output_faults
  pub rose : Rose before.output_faults now.output_faults
  pub unread : IsUnread before now

-- lines were written in one write, or not, since the output failed or memory was wanted
abbrev pub WritesStack : {A : Type 0} → List ℕ → ChannelsTold → ChannelsTold → Result A Unwritten → Type 0
WritesStack lines before now (Ok done) = WroteLines lines before now
WritesStack lines before now (Err unwritten.Failed) = WroteFront lines before now
WritesStack lines before now (Err unwritten.Memory) = now ≡ before
