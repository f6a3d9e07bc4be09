-- What the laws of images as bytes say.
use Rattle.std.specs.Prelude.{◌≡◌, ℕ, List}
use Rattle.fac_code.specs.declared.image.Image.{Image}
use Rattle.fac_bytes.specs.Spellable.{IsSpellable}
use Rattle.fac_spelling.specs.Whole.{Spells, SpellsBy}
use Rattle.fac_bytes.specs.declared.parts.ImageParts.{ImageParts}
use Rattle.fac_bytes.specs.ImageBytes.{image, are_image, parts_of}

-- no two images have the same bytes
abbrev pub OneImage : Type 0
OneImage = (bytes : List ℕ) (M N : Image) → Spells image bytes (parts_of M) → Spells image bytes (parts_of N) → M ≡ N

-- an image's bytes are those of parts that are an image
abbrev pub EncodedIsDecoded : Type 0
EncodedIsDecoded = (bytes : List ℕ) (M : Image) → Spells image bytes (parts_of M) → SpellsBy image are_image bytes (parts_of M)

-- and of these alone
abbrev pub DecodedIsEncoded : Type 0
DecodedIsEncoded = (bytes : List ℕ) (M : Image) (P : ImageParts) → Spells image bytes (parts_of M) → SpellsBy image are_image bytes P → P ≡ parts_of M

-- an image with bytes keeps what `encode` asks of it
abbrev pub SpelledAreSpellable : Type 0
SpelledAreSpellable = (bytes : List ℕ) (M : Image) → Spells image bytes (parts_of M) → IsSpellable M
