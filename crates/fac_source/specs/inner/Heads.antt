-- Texts that begin no form by their first byte alone: a small letter, or what stands behind those in ASCII.
use Rattle.std.specs.Prelude.{ℕ, Bool, true, false, List, [], ◌∷◌, nat_le, not, ◌&&◌}
use Rattle.fac_source.specs.declared.tree.FormKind.{FormKind}

abbrev pub is_late : List ℕ → Bool
is_late [] = false
is_late (byte ∷ bytes) = nat_le 97 byte

-- none of these first tokens is late
abbrev pub are_early : List (List ℕ × FormKind) → Bool
are_early [] = true
are_early (r ∷ rs) = not (is_late r.0) && are_early rs
