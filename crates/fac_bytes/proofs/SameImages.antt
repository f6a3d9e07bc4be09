-- Images of the same tables and code are the same, since what an image keeps beside them are facts.
use Rattle.std.proofs.Common.{◌≡◌, true, subst}
use Rattle.std.proofs.Math.Bool.{Bool-set}
use Rattle.fac_code.specs.Code.{has_built_code}
use Rattle.fac_code.specs.References.{refers as all_refer}
use Rattle.fac_code.specs.declared.image.Image.{Image}
use Rattle.fac_bytes.specs.declared.parts.ImageParts.{ImageParts}
use Rattle.fac_bytes.specs.ImageBytes.{parts_of}

abbrev IsBuilt : ImageParts → Type 0
IsBuilt P = has_built_code P.code ≡ true

abbrev Refers : ImageParts → Type 0
Refers P = all_refer P.tables P.code P.start ≡ true

-- the image of parts that keep both facts
abbrev image_of : (P : ImageParts) → IsBuilt P → Refers P → Image
image_of P is_built is_referring = record {
  texts = P.tables.texts;
  arrays = P.tables.arrays;
  kinds = P.tables.kinds;
  sets = P.tables.sets;
  templates = P.tables.templates;
  words = P.tables.words;
  generics = P.tables.generics;
  pairs = P.tables.pairs;
  code = P.code;
  start = P.start;
  built = is_built;
  refers = is_referring;
}

pub same_image : (M N : Image) → parts_of M ≡ parts_of N → M ≡ N
same_image M N e =
    subst (λ (P : ImageParts). (b : IsBuilt P) (r : Refers P) → M ≡ image_of P b r) e (λ b r i. image_of (parts_of M) (Bool-set _ _ M.built b i) (Bool-set _ _ M.refers r i)) N.built N.refers
