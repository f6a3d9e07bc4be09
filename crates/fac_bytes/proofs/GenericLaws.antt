-- The laws of generics.
use Rattle.std.proofs.Common.{◌≡◌, ℕ, ◌+◌, ◌^◌, ◌≤◌, List, [], ◌∷◌, length, refl, ap, arith}
use Rattle.std.proofs.lemmas.List.{length-append, length-map}
use Rattle.fac_code.specs.declared.image.MethodRow.{MethodRow}
use Rattle.fac_code.specs.declared.image.GenericRow.{GenericRow}
use Rattle.fac_spelling.specs.Formats.{Format, Exact, follow}
use Rattle.fac_spelling.specs.Numbers.{number, number32}
use Rattle.fac_spelling.specs.TestedNumbers.{fresh}
use Rattle.fac_spelling.proofs.FormatLaws.{follow_exact, seen_exact, run_exact}
use Rattle.fac_spelling.proofs.NumberLaws.{number_exact, number32_exact}
use Rattle.fac_spelling.proofs.FreeLaws.{fresh_exact}
use Rattle.fac_spelling.proofs.ListLaws.{fit_length, behind_length_exact}
use Rattle.fac_bytes.specs.GenericBytes.{method_in, method, and_number, methods, method_room, generic, numbers_of, and_numbers, generics_from, generics}

pub method_in_exact : (numbers : Format ℕ) → Exact numbers → Exact (method_in numbers)
method_in_exact numbers e = seen_exact (λ (m : MethodRow). (m.number, (m.set, m.entry))) (λ p. record { number = p.0; set = p.1.0; entry = p.1.1 }) (follow numbers (λ _. follow number32 (λ _. number32)))
    (follow_exact numbers (λ _. follow number32 (λ _. number32)) e (λ _ _. follow_exact number32 (λ _. number32) number32_exact (λ _ _. number32_exact)))
    (λ _ _. refl) (λ _ _. refl)

-- so many more methods have room
abbrev HasRoom : ℕ → List ℕ → Type 0
HasRoom n taken = n + length taken ≤ 2 ^ 32

methods_exact : (n : ℕ) (taken : List ℕ) → HasRoom n taken → Exact (methods n taken)
methods_exact n taken room = run_exact {S = List ℕ} (λ _ t. method t) and_number HasRoom
    (λ after t h. method_in_exact (fresh t) (fresh_exact t (omega arith)))
    (λ after t m h w. omega (arith, length-append t (m.number ∷ [])))
    n taken room

methods_length : (n : ℕ) (taken : List ℕ) (ms : List MethodRow) → (methods n taken).Fits ms → length ms ≡ n
methods_length n taken ms h = fit_length {S = List ℕ} (λ _ t. method t) and_number n taken ms h

pub generic_exact : (taken : List ℕ) → length taken ≤ 2 ^ 32 → Exact (generic taken)
generic_exact taken le = seen_exact (λ (g : GenericRow). (g.word, (length g.methods, g.methods))) (λ p. record { word = p.0; methods = p.1.1 }) (follow number32 (λ _. follow (number 0 (method_room taken)) (λ n. methods n taken)))
    (follow_exact number32 (λ _. follow (number 0 (method_room taken)) (λ n. methods n taken)) number32_exact (λ _ _.
    follow_exact (number 0 (method_room taken)) (λ n. methods n taken) (number_exact 0 (method_room taken) (omega arith) (omega arith)) (λ n w. methods_exact n taken (omega (arith, w.below)))))
    (λ _ _. refl)
    (λ x h. ap (λ (n : ℕ). (x.0, (n, x.1.1))) (methods_length x.1.0 taken x.1.1 h.1.1))

pub generics_exact : Exact generics
generics_exact = behind_length_exact (λ n. generics_from n [])
    (λ n _. run_exact {S = List ℕ} (λ _ t. generic t) and_numbers (λ _ t. length t ≤ 2 ^ 32) (λ _ t h. generic_exact t h)
    (λ _ t g h w. omega (arith, length-append t (numbers_of g.methods), length-map g.methods (λ m. m.number), w.1.0.below)) n [] (omega arith))
    (λ n gs h. fit_length {S = List ℕ} (λ _ t. generic t) and_numbers n [] gs h)
