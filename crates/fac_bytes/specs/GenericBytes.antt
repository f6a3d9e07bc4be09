-- The bytes of generics. The numbers of methods differ over the image.
use Rattle.std.specs.Prelude.{ℕ, ◌-◌, ◌^◌, min, List, [], ◌∷◌, ◌++◌, length, map}
use Rattle.fac_code.specs.declared.image.MethodRow.{MethodRow}
use Rattle.fac_code.specs.declared.image.GenericRow.{GenericRow}
use Rattle.fac_spelling.specs.Formats.{Format, follow, seen, run}
use Rattle.fac_spelling.specs.Numbers.{number, number32, greatest32}
use Rattle.fac_spelling.specs.TestedNumbers.{fresh}
use Rattle.fac_spelling.specs.Lists.{behind_length}

-- a method's parts behind its number
abbrev pub method_in : Format ℕ → Format MethodRow
method_in numbers = seen (λ m. (m.number, (m.set, m.entry))) (λ p. record { number = p.0; set = p.1.0; entry = p.1.1 }) (follow numbers (λ _. follow number32 (λ _. number32)))

-- a method whose number isn't taken
abbrev pub method : List ℕ → Format MethodRow
method taken = method_in (fresh taken)

abbrev pub and_number : List ℕ → MethodRow → List ℕ
and_number taken m = taken ++ m.number ∷ []

abbrev pub methods : ℕ → List ℕ → Format (List MethodRow)
methods n taken = run (λ _ t. method t) and_number n taken

-- how many methods there can be where these numbers are taken
abbrev pub method_room : List ℕ → ℕ
method_room taken = min greatest32 (2 ^ 32 - length taken)

abbrev pub generic_in : ℕ → (ℕ → Format (List MethodRow)) → Format GenericRow
generic_in room rows = seen (λ g. (g.word, (length g.methods, g.methods))) (λ p. record { word = p.0; methods = p.1.1 }) (follow number32 (λ _. follow (number 0 room) rows))

abbrev pub generic : List ℕ → Format GenericRow
generic taken = generic_in (method_room taken) (λ n. methods n taken)

abbrev pub numbers_of : List MethodRow → List ℕ
numbers_of ms = map (λ m. m.number) ms

abbrev pub and_numbers : List ℕ → GenericRow → List ℕ
and_numbers taken g = taken ++ numbers_of g.methods

abbrev pub generics_from : ℕ → List ℕ → Format (List GenericRow)
generics_from n taken = run (λ _ t. generic t) and_numbers n taken

abbrev pub generics : Format (List GenericRow)
generics = behind_length (λ n. generics_from n [])
