-- Kinds and class sets, class by class.
use Rattle.std.proofs.Common.{◌≡◌, ◌<◌, ◌≤◌, Bool, true, false, Option, None, ℕ, zero, suc, ◌+◌, List, [], ◌∷◌, ◌++◌, length, drop, refl, ap, sym, ◌∙◌, arith, append_assoc, add-one}
use Rattle.fac_lang.specs.declared.program.ClassDef.{ClassDef}
use Rattle.fac_lang.specs.Classes.{has_own, own_kind}
use Rattle.fac_classes.specs.ClassKinds.{kinds_of}
use Rattle.fac_emit.specs.ProgramTables.{sets_from}

-- one more set
pub sets_step : (cs : List ClassDef) (c : ℕ) (whole sets pushed : List (List ℕ)) → c < length cs → whole ≡ sets ++ sets_from cs c (drop c cs) → pushed ≡ sets ++ kinds_of cs c ∷ [] → whole ≡ pushed ++ sets_from cs (c + 1) (drop (c + 1) cs)
sets_step cs c whole sets pushed lt all is_pushed = by (dropped cs c lt)
  where
    dropped : (ds : List ClassDef) (k : ℕ) → k < length ds → (d : ClassDef) × (drop k ds ≡ d ∷ drop (suc k) ds)
    dropped [] k lt = absurd (omega (arith, lt))
    dropped (d ∷ ds) zero lt = (d, refl)
    dropped (d ∷ ds) (suc k) lt = dropped ds k (omega (arith, lt))

    by : ((d : ClassDef) × (drop c cs ≡ d ∷ drop (suc c) cs)) → whole ≡ pushed ++ sets_from cs (c + 1) (drop (c + 1) cs)
    by h = rw (is_pushed, add-one c) (all ∙ ap (λ (ds : List ClassDef). sets ++ sets_from cs c ds) h.1 ∙ sym (append_assoc sets (kinds_of cs c ∷ []) (sets_from cs (suc c) (drop (suc c) cs))))

kind_by : (b : Bool) (x y : Option ℕ) → None ≡ x → None ≡ y → ◌≡◌ {A = Option ℕ} None (elim b [ true ↦ x | false ↦ y ])
kind_by true x y e f = e
kind_by false x y e f = f

-- a number that no class has
pub no_kind : (k : ℕ) (cs : List ClassDef) (c : ℕ) → length cs ≤ c → None ≡ own_kind k cs c
no_kind k [] c h = refl
no_kind k (d ∷ ds) zero h = absurd (omega (arith, h))
no_kind k (d ∷ ds) (suc c) h = kind_by (has_own d.shape) (own_kind (suc k) ds c) (own_kind k ds c) (no_kind (suc k) ds c (omega (arith, h))) (no_kind k ds c (omega (arith, h)))
