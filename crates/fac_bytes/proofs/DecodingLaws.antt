-- From what reading all of the bytes answers to what `decode` ensures.
use Rattle.std.proofs.Common.{◌≡◌, inr, ℕ, List, length, true, false, refl, sym, ap, subst, ◌∙◌}
use Rattle.std.proofs.lemmas.Bool.{both_ways, and_from}
use Rattle.fac_code.specs.declared.image.Instr.{Instr}
use Rattle.fac_code.specs.declared.image.Tables.{Tables}
use Rattle.fac_code.specs.declared.image.Image.{Image}
use Rattle.fac_code.specs.Images.{IsImageOf}
use Rattle.fac_spelling.specs.Whole.{Spells, SpellsBy, IsRefused}
use Rattle.fac_bytes.specs.declared.parts.ImageParts.{ImageParts}
use Rattle.fac_bytes.specs.ImageBytes.{image, are_image, parts_of}

same_parts : (T : Tables) (code : List Instr) (start : ℕ) (M : Image) → IsImageOf T code start M → parts_of M ≡ record { tables = T; code = code; start = start }
same_parts T code start M h =
    ap (λ (t : Tables). let P : ImageParts = record { tables = t; code = M.code; start = M.start } in P) h.same_tables
    ∙ ap (λ (c : List Instr). let P : ImageParts = record { tables = T; code = c; start = M.start } in P) h.same_code
    ∙ ap (λ (s : ℕ). let P : ImageParts = record { tables = T; code = code; start = s } in P) h.same_start

pub is_made : (P : ImageParts) (M : Image) → IsImageOf P.tables P.code P.start M → parts_of M ≡ P
is_made P M h = same_parts P.tables P.code P.start M h

pub found_made : (bytes : List ℕ) (P : ImageParts) (M : Image) → IsImageOf P.tables P.code P.start M → Spells image bytes P → Spells image bytes (parts_of M)
found_made bytes P M h s = subst (λ (Q : ImageParts). Spells image bytes Q) (sym (is_made P M h)) s

pub not_made : (bytes : List ℕ) (P Q : ImageParts) → are_image P ≡ false → P ≡ Q → SpellsBy image are_image bytes Q → ⊥
not_made bytes P Q other same s = both_ways (are_image P) other (ap are_image same ∙ s.kept)

pub no_place : (bytes : List ℕ) (P : ImageParts) → are_image P ≡ false → Spells image bytes P → IsRefused image are_image bytes (length bytes)
no_place bytes P other s = inr (record { value = P; fits = s.fits; is = s.is; broken = other; size = refl })

pub without_rule : (bytes : List ℕ) (P : ImageParts) → SpellsBy image are_image bytes P → Spells image bytes P
without_rule bytes P s = record { fits = s.fits; is = s.is }

-- an image keeps the rule
pub keeps : (M : Image) → are_image (parts_of M) ≡ true
keeps M = and_from _ _ M.built M.refers
