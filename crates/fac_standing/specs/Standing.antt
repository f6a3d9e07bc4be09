-- What a machine holds between two runs, whatever longer programs follow.
use Rattle.std.specs.Prelude.{◌≡◌, ℕ, List, Bool, true, false, nat_lt, ◌&&◌, Option}
use Rattle.fac_base.specs.declared.height.Height.{Height}
use Rattle.fac_lang.specs.declared.program.Program.{Program}
use Rattle.fac_lang.specs.World.{Object}
use Rattle.fac_lang.specs.Meaning.{is_top_phrase}
use Rattle.fac_lang.specs.Whole.{IsWhole, is_nameable}
use Rattle.fac_locals.specs.Closed.{Closes}
use Rattle.fac_locals.specs.declared.closing.Closed.{Closed}
use Rattle.fac_code.specs.declared.image.Image.{Image}
use Rattle.fac_store.specs.MachineValues.{MValue}
use Rattle.fac_machine.specs.Machine.{Machine, End, done, failed, spent, trap}
use Rattle.fac_carry.specs.WholeValues.{AllWhole, WholeObjects}
use Rattle.fac_emit.specs.ProgramCode.{IsPlain}

-- An image is the plain code of a whole program.
pub record IsImageOf (P : Program) (M : Image) : Type 0 where
  pub whole : IsWhole P
  pub closed : Closed
  pub heights : List (Option Height)
  pub closes : Closes P closed.program closed.templates
  pub plain : IsPlain closed heights M

-- whether the phrases of a program may name a word: it stands before the top-level phrase and is no earlier one
abbrev pub may_be_named : Program → ℕ → Bool
may_be_named P w = nat_lt w P.top && is_nameable P w

-- Each word that the first may name is no top-level phrase of the second. So it is in the program itself, and in each longer one.
abbrev pub Spares : Program → Program → Type 0
Spares P Q = (w : ℕ) → may_be_named P w ≡ true → is_top_phrase Q w ≡ false

module _ (P : Program) (M : Image) where
  -- values that are whole in the program, and in each that spares its words
  abbrev pub ValuesStand : List MValue → Type 0
  ValuesStand vs = (Q : Program) → Spares P Q → AllWhole Q M vs

  abbrev pub ObjectsStand : List (Object MValue) → Type 0
  ObjectsStand os = (Q : Program) → Spares P Q → WholeObjects Q M os

-- the machine at an end
abbrev pub end_machine : End → Machine
end_machine (done s n) = s
end_machine (failed e s n) = s
end_machine (spent s) = s
end_machine (trap y s n) = s
