-- A token that begins late begins no form.
use Rattle.std.proofs.Common.{◌≡◌, ◌∙◌, ℕ, Bool, true, false, cond, List, [], ◌∷◌, Option, Some, None, refl, ap, sym}
use Rattle.std.specs.Prelude.{not, ◌&&◌}
use Rattle.std.specs.Str.{bytes_eq}
use Rattle.std.proofs.lemmas.Slice.Eq.{bytes_eq-Decides}
use Rattle.fac_source.specs.declared.tree.FormKind.{FormKind}
use Rattle.fac_source.specs.FormRows.{kind_among}
use Rattle.fac_source.specs.inner.Heads.{is_late, are_early}

other_head : (text head : List ℕ) (b : Bool) → bytes_eq text head ≡ b → is_late text ≡ true → is_late head ≡ false → b ≡ false
other_head text head true is late early = absurd (no_both (sym late ∙ ap is_late ((bytes_eq-Decides text head).0 is) ∙ early)) where
  no_both : true ≡ false → ⊥
  no_both e = cc
other_head text head false is late early = refl

none_of : (b : Bool) (kind : FormKind) (rest : Option FormKind) → b ≡ false → rest ≡ None → cond b (Some kind) rest ≡ None
none_of true kind rest is none = cc
none_of false kind rest is none = none

early_first : (a b : Bool) → (not a && b) ≡ true → (a ≡ false) × (b ≡ true)
early_first true b h = cc
early_first false b h = (refl, h)

pub late_begins_none : (rows : List (List ℕ × FormKind)) (text : List ℕ) → are_early rows ≡ true → is_late text ≡ true → kind_among rows text ≡ None
late_begins_none [] text early late = refl
late_begins_none (r ∷ rs) text early late =
    let both = early_first (is_late r.0) (are_early rs) early in
    none_of (bytes_eq text r.0) r.1 (kind_among rs text) (other_head text r.0 (bytes_eq text r.0) refl late both.0) (late_begins_none rs text both.1 late)
