-- Two machines with the same arrays under other addresses, and a run of both.
use Rattle.std.proofs.Common.{◌≡◌, ℕ, zero, suc, ◌+◌, List, [], ◌∷◌, Bool, true, false, Option, Some, None, refl, arith}
use Rattle.std.specs.Prelude.{pos, codes, slice_get}
use Rattle.std.specs.Option.{option_map}
use Rattle.fac_lang.specs.Phrases.{yes, no, arr}
use Rattle.fac_lang.specs.World.{Object, array}
use Rattle.fac_lang.specs.Primitives.{built_count, prim_numbered, prim_fn}
use Rattle.fac_code.specs.Code.{has_built_code}
use Rattle.fac_code.specs.declared.image.Image.{Image}
use Rattle.fac_code.specs.declared.image.Instr.{Instr}
use Rattle.fac_code.specs.declared.image.Instr.TheVariants.{Halt, Int, False, Array, Bind, Local, Prim as prim}
use Rattle.fac_store.specs.MachineValues.{MValue, m_plain}
use Rattle.fac_machine.specs.Machine.{Machine, End, done, steps}
use Rattle.fac_machine.specs.Renaming.{Renaming, renamed_object, IsDistinct, Renames, RenamesRun}
use Rattle.fac_machine.specs.Collected.{address_before, NamesLive, collected}
use Rattle.fac_machine.proofs.CollectedLemmas.{collected_same}
use Rattle.fac_machine.proofs.RenamingRuns.{steps_same}

-- With an array on the stack: makes an array of it, tells whether this is equal to the literal array and whether it is the same one, puts `f` into
-- the first array, prints the new one and pushes it.
abbrev code : List Instr
code =
    Bind ∷ Local 0 ∷ prim 52 ∷ Bind ∷ Local 1 ∷ Array 0 ∷ prim 23 ∷ Local 1 ∷ Array 0 ∷ prim 24 ∷ False ∷ Int (pos 0) ∷ Local 0 ∷ prim 44 ∷ Local 1 ∷ prim 59 ∷ Local 1 ∷ Halt ∷ []

code_built : has_built_code code ≡ true
unfolding built_count
code_built = refl

abbrev image : Image
image = record { arrays = [] ∷ []; kinds = []; sets = []; generics = []; pairs = []; templates = []; words = []; texts = []; code = code; start = 0; built = code_built; refers = refl }

abbrev a : ℕ → MValue
a k = m_plain (arr k)

-- a machine with these objects, the first array on the stack, and the literal array at an address
abbrev standing : List (Object MValue) → ℕ → ℕ → Machine
standing objects first literal =
    record { pc = 0; job = None; stack = a first ∷ []; retain = []; returns = []; frame = []; world = record { objects = objects; literals = literal ∷ []; input = []; asked = 0; output = [] } }

-- the second has { t } at 0 and { { t } } at 1; the first has an array before them that nothing names, and them the other way round
abbrev second : Machine
second = standing (array (m_plain yes ∷ []) ∷ array (a 0 ∷ []) ∷ []) 0 1

abbrev first : Machine
first = standing (array (a 1 ∷ m_plain yes ∷ []) ∷ array (a 2 ∷ []) ∷ array (m_plain yes ∷ []) ∷ []) 2 1

abbrev swapped : Renaming
swapped zero = 2
swapped (suc zero) = 1
swapped (suc (suc n)) = suc (suc (suc n))

swapped_distinct : IsDistinct swapped
swapped_distinct zero zero e = refl
swapped_distinct zero (suc zero) e = absurd (cc)
swapped_distinct zero (suc (suc b)) e = absurd (cc)
swapped_distinct (suc zero) zero e = absurd (cc)
swapped_distinct (suc zero) (suc zero) e = refl
swapped_distinct (suc zero) (suc (suc b)) e = absurd (cc)
swapped_distinct (suc (suc a)) zero e = absurd (cc)
swapped_distinct (suc (suc a)) (suc zero) e = absurd (cc)
swapped_distinct (suc (suc a)) (suc (suc b)) e = cc

objects_swapped : (b : ℕ) → slice_get first.world.objects (swapped b) ≡ option_map (renamed_object swapped) (slice_get second.world.objects b)
objects_swapped zero = refl
objects_swapped (suc zero) = refl
objects_swapped (suc (suc b)) = refl

next_swapped : (i : ℕ) → swapped (2 + i) ≡ 3 + i
next_swapped i = let e : 2 + i ≡ suc (suc i) = omega arith in let f : 3 + i ≡ suc (suc (suc i)) = omega arith in rw (e, f) refl

are_renamed : Renames swapped first second
are_renamed =
    record {
      pc = refl;
      job = refl;
      stack = refl;
      retain = refl;
      returns = refl;
      frame = refl;
      world = record { objects = objects_swapped; distinct = swapped_distinct; next = next_swapped; literals = refl; input = refl; asked = refl; output = refl };
    }

-- their ends, with the stack, the objects, the ticks left and the output
data Seen : Type 0 where
  is_done : List MValue → List (Object MValue) → ℕ → List ℕ → Seen
  other : Seen

abbrev seen : Option End → Seen
seen (Some (done s n)) = is_done s.stack s.world.objects n s.world.output
seen _ = other

end_of_second : seen (steps image 40 second 20) ≡ is_done (a 2 ∷ m_plain no ∷ m_plain yes ∷ []) (array (m_plain no ∷ []) ∷ array (a 0 ∷ []) ∷ array (a 0 ∷ []) ∷ []) 3 (codes "{ { f } }\n")
unfolding prim_numbered prim_fn
end_of_second = refl

end_of_first : seen (steps image 40 first 20) ≡ is_done (a 3 ∷ m_plain no ∷ m_plain yes ∷ []) (array (a 1 ∷ m_plain yes ∷ []) ∷ array (a 2 ∷ []) ∷ array (m_plain no ∷ []) ∷ array (a 2 ∷ []) ∷ []) 3 (codes "{ { f } }\n")
unfolding prim_numbered prim_fn
end_of_first = refl

-- as the law says, whatever the ticks are
same_runs : (k n : ℕ) → RenamesRun swapped (steps image k first n) (steps image k second n)
same_runs k n = steps_same swapped image k first second n are_renamed

-- The first machine without the array that nothing names, which comes to the same.
abbrev flags : List Bool
flags = false ∷ true ∷ true ∷ []

abbrev without : Machine
without = standing (array (a 1 ∷ []) ∷ array (m_plain yes ∷ []) ∷ []) 1 0

live_alone : collected flags first ≡ without
live_alone = refl

names_live : NamesLive flags first
names_live = record { flagged = refl; stack = refl; retain = refl; returns = refl; frame = refl; literals = refl; objects = refl }

-- what the literal array is can't go
literal_is_live : NamesLive (false ∷ false ∷ true ∷ []) first → ⊥
literal_is_live h = let e = h.literals in absurd (cc)

collected_runs : (k n : ℕ) → RenamesRun (address_before flags) (steps image k first n) (steps image k without n)
collected_runs k n = steps_same (address_before flags) image k first without n (collected_same flags first names_live)

end_without : seen (steps image 40 without 20) ≡ is_done (a 2 ∷ m_plain no ∷ m_plain yes ∷ []) (array (a 1 ∷ []) ∷ array (m_plain no ∷ []) ∷ array (a 1 ∷ []) ∷ []) 3 (codes "{ { f } }\n")
unfolding prim_numbered prim_fn
end_without = refl
