-- What calls promise of frames of numbers.
use Rattle.std.specs.Prelude.{ℕ, List, [], ◌∷◌, ◌++◌, Some, slice_get, length, ◌≡◌, ◌<◌}

-- no two of these are alike
abbrev pub AreDistinct : {A : Type 0} → List A → Type 0
AreDistinct {A} xs = (i j : ℕ) (x : A) → slice_get xs i ≡ Some x → slice_get xs j ≡ Some x → i ≡ j

-- Something has this number in a list to which it was added, or which stayed.
pub data IsNumbered {A : Type 0} (before after : List A) (x : A) (number : ℕ) : Type 0 where
  there : slice_get before number ≡ Some x → after ≡ before → IsNumbered before after x number
  added : ((k : ℕ) → slice_get before k ≡ Some x → ⊥) → number ≡ length before → after ≡ before ++ x ∷ [] → IsNumbered before after x number
