-- What `spelled_length` and `decode` answer.
use Rattle.std.specs.Prelude.{◌≡◌, ℕ, List, length, Result, Ok, Err}
use Rattle.fac_code.specs.declared.image.Image.{Image}
use Rattle.fac_spelling.specs.Whole.{Spells}
use Rattle.fac_bytes.specs.declared.parts.ImageParts.{ImageParts}
use Rattle.fac_bytes.specs.declared.decoding.DecodeFault.{DecodeFault}
use Rattle.fac_bytes.specs.declared.decoding.DecodeFault.TheVariants as decoding
use Rattle.fac_bytes.specs.ImageBytes.{image, parts_of}

-- the image's bytes are so many
pub record IsLength (M : Image) (count : ℕ) : Type 0 where
  pub bytes : List ℕ
  pub spelled : Spells image bytes (parts_of M)
  pub same : count ≡ length bytes

-- the image is such a one
abbrev pub IsFound : Result Image DecodeFault → (Image → Type 0) → Type 0
IsFound (Ok M) P = P M
IsFound (Err e) P = Unit {0}

-- unless memory ran out, it is an image of these parts
abbrev pub IsOnly : Result Image DecodeFault → ImageParts → Type 0
IsOnly (Ok M) P = parts_of M ≡ P
IsOnly (Err decoding.Memory) P = Unit {0}
IsOnly (Err (decoding.BadImage at)) P = ⊥

-- the place is such a one
abbrev pub IsPlace : Result Image DecodeFault → (ℕ → Type 0) → Type 0
IsPlace (Ok M) P = Unit {0}
IsPlace (Err decoding.Memory) P = Unit {0}
IsPlace (Err (decoding.BadImage at)) P = P at
