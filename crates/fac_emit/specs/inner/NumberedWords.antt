-- Numbers of words, and what they name in instructions and actions.
use Rattle.std.specs.Prelude.{ℕ, List, Some, None, slice_get, false}
use Rattle.fac_lang.specs.declared.program.Sort.{Sort}
use Rattle.fac_lang.specs.declared.program.Sort.TheVariants.{Prim as prim_sort, Core as core_sort, Body as body, Past as past, Itself as itself, Class as class, Isa as isa, Getter as getter, Setter as setter, Putter as putter, Generic as generic, Method as method}
use Rattle.fac_code.specs.declared.image.Instr.{Instr}
use Rattle.fac_code.specs.declared.image.Instr.TheVariants.{Word, Prim, Callw, Get, Set, Put, Isa, Generic}
use Rattle.fac_code.specs.declared.image.Action.{Action}
use Rattle.fac_code.specs.declared.image.Action.TheVariants as action
use Rattle.fac_emit.specs.ProgramCode.{core_instr, core_action, stuck_instr}

-- the number of word w, where it is there
abbrev pub number_at : List ℕ → ℕ → ℕ
number_at ns w = elim (slice_get ns w) [ Some n ↦ n | None ↦ 0 ]

-- the instruction of word w, whose own number is n
abbrev pub numbered_instr : ℕ → ℕ → Sort → Instr
numbered_instr n w (prim_sort k) = Prim k
numbered_instr n w (core_sort k) = core_instr k
numbered_instr n w (body t) = Callw w false
numbered_instr n w (method c g t) = Callw w false
numbered_instr n w itself = Word w
numbered_instr n w (class c) = Word w
numbered_instr n w (isa c) = Isa c
numbered_instr n w (getter s) = Get n
numbered_instr n w (setter s) = Set n
numbered_instr n w (putter s) = Put n
numbered_instr n w generic = Generic n false
numbered_instr n w _ = stuck_instr

-- what it does, where its code, if it has code, stands at a place
abbrev pub numbered_action : ℕ → ℕ → Sort → Action
numbered_action n at (prim_sort k) = action.Prim k
numbered_action n at (core_sort k) = core_action k
numbered_action n at (past t) = action.Itself
numbered_action n at itself = action.Itself
numbered_action n at (class c) = action.Itself
numbered_action n at (isa c) = action.Isa c
numbered_action n at (getter s) = action.Get n
numbered_action n at (setter s) = action.Set n
numbered_action n at (putter s) = action.Put n
numbered_action n at generic = action.Generic n
numbered_action n at _ = action.Code at
