-- The frame law of the walk: marks below a stack stay below what the walk finds.
use Rattle.std.specs.Prelude.{◌≡◌, ℕ, List, ◌++◌, Option, None}
use Rattle.fac_lang.specs.declared.program.Program.{Program}
use Rattle.fac_lang.specs.Phrases.{Literal, Phrase, Mark}
use Rattle.fac_abs.specs.RowVariables.{Row}
use Rattle.fac_abs.specs.Marks.{AbstractStack, dead, on}
use Rattle.fac_check.specs.Flow.{found, walk, doing}

-- a stack with marks put below it; nothing lies below a dead one
abbrev pub with_below : List Mark → AbstractStack → AbstractStack
with_below below dead = dead
with_below below (on b ms) = on b (ms ++ below)

-- Where no word is being checked, what a walk finds from some marks it finds from them with others below, with these others below it, and as many items may be walked then.
abbrev pub MarksBelowStay : Type 0
MarksBelowStay =
    (P : Program) (steps nested left rest : ℕ) (at : Literal) (t : Phrase) (b : Option Row) (ms below : List Mark) (A : AbstractStack) →
    walk None (doing P None) steps at nested t b ms left ≡ found A rest → walk None (doing P None) steps at nested t b (ms ++ below) left ≡ found (with_below below A) rest
