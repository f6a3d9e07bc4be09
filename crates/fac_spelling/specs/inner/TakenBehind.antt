-- Taken numbers: those that go on behind a first byte, and how many there are in a range.
use Rattle.std.specs.Prelude.{◌≡◌, ℕ, ◌+◌, ◌-◌, ◌/◌, ◌%◌, List, [], ◌∷◌, true, nat_eq, nat_lt, nat_le, ◌&&◌, if◌then◌else◌}
use Rattle.fac_spelling.specs.TestedNumbers.{is_free}

-- of the taken numbers those that go on behind a first byte from 128 on, as what follows it
abbrev pub taken_behind : ℕ → List ℕ → List ℕ
taken_behind b [] = []
taken_behind b (t ∷ ts) = if nat_eq (t % 128) (b - 128) then t / 128 ∷ taken_behind b ts else taken_behind b ts

-- no two numbers are the same
abbrev pub Differ : List ℕ → Type 0
Differ [] = Unit {0}
Differ (t ∷ ts) = (is_free ts t ≡ true) × Differ ts

-- whether a number lies from `low` on and before `end`, as a number
abbrev pub one_if_in : ℕ → ℕ → ℕ → ℕ
one_if_in low end n = if nat_le low n && nat_lt n end then 1 else 0

-- how many numbers lie there
abbrev pub count_in : ℕ → ℕ → List ℕ → ℕ
count_in low end [] = 0
count_in low end (t ∷ ts) = one_if_in low end t + count_in low end ts
