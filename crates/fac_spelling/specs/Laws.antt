-- What the laws of formats say.
use Rattle.std.specs.Prelude.{◌≡◌, ◌⊎◌, ℕ, List, ◌∷◌, ◌++◌, ◌≤◌, ◌<◌, ◌^◌, length}
use Rattle.std.specs.Str.{IsUtf8}
use Rattle.fac_spelling.specs.Formats.{Format, Exact}
use Rattle.fac_spelling.specs.Numbers.{number}
use Rattle.fac_spelling.specs.TestedNumbers.{fresh}
use Rattle.fac_spelling.specs.Bytes.{fixed}
use Rattle.fac_spelling.specs.Texts.{text}
use Rattle.fac_spelling.specs.Whole.{Spells, IsBroken}

-- ---- of each exact format

-- no two values have the same bytes
abbrev pub OneValue : {A : Type 0} → Format A → Type 0
OneValue {A = A} f = (bytes : List ℕ) (x y : A) → Spells f bytes x → Spells f bytes y → x ≡ y

-- bytes are broken at one place only
abbrev pub OnePlace : {A : Type 0} → Format A → Type 0
OnePlace f = (bytes : List ℕ) (m n : ℕ) → IsBroken f bytes m → IsBroken f bytes n → m ≡ n

-- bytes are a value's, or broken
abbrev pub SpelledOrBroken : {A : Type 0} → Format A → Type 0
SpelledOrBroken {A = A} f = (bytes : List ℕ) → ((x : A) × Spells f bytes x) ⊎ ((at : ℕ) × IsBroken f bytes at)

-- a proper front of a value's bytes is broken at its own length
abbrev pub FrontsAreBroken : {A : Type 0} → Format A → Type 0
FrontsAreBroken {A = A} f = (x : A) (front : List ℕ) (b : ℕ) (bs : List ℕ) → Spells f (front ++ b ∷ bs) x → IsBroken f front (length front)

-- ---- which formats are exact

abbrev pub NumbersAreExact : Type 0
NumbersAreExact = (low high : ℕ) → low ≤ high → high < 2 ^ 128 → Exact (number low high)

abbrev pub FreshNumbersAreExact : Type 0
FreshNumbersAreExact = (taken : List ℕ) → length taken < 2 ^ 32 → Exact (fresh taken)

abbrev pub FixedBytesAreExact : Type 0
FixedBytesAreExact = (bytes : List ℕ) → Exact (fixed bytes)

-- ---- texts

-- the texts of the format are those of UTF-8 that are shorter than 2 ^ 32 bytes
abbrev pub TextsAreUtf8 : Type 0
TextsAreUtf8 = (bytes : List ℕ) → text.Fits bytes → IsUtf8 bytes

abbrev pub Utf8IsText : Type 0
Utf8IsText = (bytes : List ℕ) → IsUtf8 bytes → length bytes < 2 ^ 32 → text.Fits bytes
