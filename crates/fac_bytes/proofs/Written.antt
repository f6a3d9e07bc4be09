-- What one write or several have added.
use Rattle.std.proofs.Common.{◌≡◌, ℕ, List, [], ◌++◌, sym, ap, ◌∙◌, append_assoc}
use Rattle.std.proofs.lemmas.List.{append-nil}

pub written_one : (a b c : List ℕ) → b ≡ a ++ c → b ≡ a ++ (c ++ [])
written_one a b c p = p ∙ ap (λ (z : List ℕ). a ++ z) (sym (append-nil c))

-- parts of a row, with nothing behind the last
pub row_three : (a b c d e f : List ℕ) → b ≡ a ++ c → d ≡ b ++ e → d ++ f ≡ a ++ (c ++ (e ++ f))
row_three a b c d e f p q = ap (λ (z : List ℕ). z ++ f) q ∙ append_assoc b e f ∙ ap (λ (z : List ℕ). z ++ (e ++ f)) p ∙ append_assoc a c (e ++ f)

pub row_four : (a b c d e f g h : List ℕ) → b ≡ a ++ c → d ≡ b ++ e → f ≡ d ++ g → f ++ h ≡ a ++ (c ++ (e ++ (g ++ h)))
row_four a b c d e f g h p q r = row_three b d e f g h q r ∙ ap (λ (z : List ℕ). z ++ (e ++ (g ++ h))) p ∙ append_assoc a c (e ++ (g ++ h))

-- nothing was written
pub written_nothing : (a : List ℕ) → a ≡ a ++ []
written_nothing a = sym (append-nil a)

-- two parts
pub written_two : (a b c d e : List ℕ) → b ≡ a ++ c → e ≡ b ++ d → e ≡ a ++ (c ++ d)
written_two a b c d e p q = q ∙ ap (λ (z : List ℕ). z ++ d) p ∙ append_assoc a c d
