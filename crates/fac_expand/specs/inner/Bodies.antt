-- Flags for the places where bodies begin, and where these end.
use Rattle.std.specs.Prelude.{◌≡◌, ◌<◌, ◌≤◌, ℕ, List, Bool, true, false, ◌&&◌, nat_le, nat_lt, Some, slice_get}
use Rattle.fac_code.specs.declared.image.Action.{Action}
use Rattle.fac_code.specs.declared.image.Action.TheVariants as action
use Rattle.fac_code.specs.declared.image.Instr.{Instr}
use Rattle.fac_code.specs.declared.image.Instr.TheVariants.{Quot, Fry, Callw, Callp, Call, Dip, If, Jump, Branch}
use Rattle.fac_code.specs.declared.image.WordRow.{WordRow}
use Rattle.fac_code.specs.declared.image.GenericRow.{GenericRow}
use Rattle.fac_code.specs.declared.image.MethodRow.{MethodRow}
use Rattle.fac_code.specs.declared.image.Image.{Image}
use Rattle.fac_lang.specs.declared.program.Program.{Program}
use Rattle.fac_carry.specs.Direct.{Begins, HasDirectCode}
use Rattle.fac_expand.specs.declared.plan.Use.{Use}
use Rattle.fac_expand.specs.DirectInPlace.{UsesAre}
use Rattle.fac_expand.specs.inner.DirectPlaces.{is_called}

-- the body at a place has direct code, for each program with whose words these uses agree
abbrev pub IsDirectBody : List Use → Image → ℕ → Type 0
IsDirectBody uses M a = (P : Program) → UsesAre P uses → HasDirectCode P M a

-- no place has a flag
abbrev pub HasNoFlag : List Bool → Type 0
HasNoFlag flags = (b : ℕ) → slice_get flags b ≡ Some true → ⊥

-- a place had a flag, or it is this one
pub data FlagIs (old : List Bool) (place b : ℕ) : Type 0 where
  was : slice_get old b ≡ Some true → FlagIs old place b
  own : b ≡ place → FlagIs old place b

abbrev pub IsFlagged : List Bool → ℕ → List Bool → Type 0
IsFlagged old place new = (b : ℕ) → slice_get new b ≡ Some true → FlagIs old place b

-- a place had a flag, or the code of an action begins there
pub data ActionFlagIs (old : List Bool) (x : Action) (b : ℕ) : Type 0 where
  action_was : slice_get old b ≡ Some true → ActionFlagIs old x b
  action_own : x ≡ action.Code b → ActionFlagIs old x b

abbrev pub IsActionFlagged : List Bool → Action → List Bool → Type 0
IsActionFlagged old x new = (b : ℕ) → slice_get new b ≡ Some true → ActionFlagIs old x b

-- a place had a flag, or the code of a method begins there
pub data MethodFlagIs (old : List Bool) (ms : List MethodRow) (b : ℕ) : Type 0 where
  method_was : slice_get old b ≡ Some true → MethodFlagIs old ms b
  method_own : (j : ℕ) (m : MethodRow) → slice_get ms j ≡ Some m → b ≡ m.entry → MethodFlagIs old ms b

abbrev pub AreMethodsFlagged : List Bool → List MethodRow → List Bool → Type 0
AreMethodsFlagged old ms new = (b : ℕ) → slice_get new b ≡ Some true → MethodFlagIs old ms b

-- the code of an action has its flag
abbrev pub HasActionFlag : List Bool → Action → Type 0
HasActionFlag flags (action.Code a) = slice_get flags a ≡ Some true
HasActionFlag flags x = Unit {0}

-- each method has its flag
abbrev pub HaveMethodFlags : List Bool → List MethodRow → Type 0
HaveMethodFlags flags ms = (j : ℕ) (m : MethodRow) → slice_get ms j ≡ Some m → slice_get flags m.entry ≡ Some true

-- so do the code of each word and each method of a generic
abbrev pub HaveWordFlags : List Bool → List WordRow → Type 0
HaveWordFlags flags ws = (w : ℕ) (r : WordRow) → slice_get ws w ≡ Some r → HasActionFlag flags r.action

abbrev pub HaveGenericFlags : List Bool → List GenericRow → Type 0
HaveGenericFlags flags gs = (n : ℕ) (r : GenericRow) → slice_get gs n ≡ Some r → HaveMethodFlags flags r.methods

module _ (M : Image) where
  -- only where a body begins is there a flag
  abbrev pub OnlyBegin : List Bool → Type 0
  OnlyBegin flags = (b : ℕ) → slice_get flags b ≡ Some true → Begins M b

  -- there is one exactly there
  pub record AreBegins (flags : List Bool) : Type 0 where
    pub only : OnlyBegin flags
    pub all : (b : ℕ) → Begins M b → slice_get flags b ≡ Some true

-- The body that begins at a place ends at another one, in code of so many instructions.
pub record EndsAt (flags : List Bool) (a size e : ℕ) : Type 0 where
  pub within : e ≤ size
  pub ahead : e < size → a < e
  pub next : e < size → slice_get flags e ≡ Some true
  pub none : (b : ℕ) → a < b → b < e → slice_get flags b ≡ Some true → ⊥

-- an instruction that makes no quotation, applies no callable and calls no inline word, and that leads to places from the first one on and before the second one alone
abbrev pub is_direct_between : List Use → ℕ → ℕ → Instr → Bool
is_direct_between uses a e (Quot q) = false
is_direct_between uses a e (Fry q) = false
is_direct_between uses a e (Call t) = false
is_direct_between uses a e Dip = false
is_direct_between uses a e (If t) = false
is_direct_between uses a e (Jump b) = nat_le a b && nat_lt b e
is_direct_between uses a e (Branch b) = nat_le a b && nat_lt b e
is_direct_between uses a e (Callp b t) = nat_le a b && nat_lt b e
is_direct_between uses a e (Callw w t) = is_called (slice_get uses w)
is_direct_between uses a e i = true
