-- Whole values of the machine.
use Rattle.std.proofs.Common.{◌≡◌, ℕ, zero, suc, ◌+◌, List, [], ◌∷◌, ◌++◌, length, Bool, true, false, Option, Some, None, refl, ap, subst, ◌∙◌}
use Rattle.std.specs.Prelude.{slice_get}
use Rattle.fac_lang.specs.declared.program.Program.{Program}
use Rattle.fac_lang.specs.Phrases.{fun, of_phrase}
use Rattle.fac_lang.specs.World.{pile}
use Rattle.fac_code.specs.declared.image.Image.{Image}
use Rattle.fac_code.specs.declared.image.TemplateRow.{TemplateRow}
use Rattle.fac_store.specs.MachineValues.{MValue, m_fun, MCallable, m_lit, Kept, none_kept, kept, kept_list, keep_list, cells_at, with_first}
use Rattle.fac_machine.specs.Machine.{branch}
use Rattle.fac_carry.specs.MachineView.{Templates, value_view, values_view, kept_view}
use Rattle.fac_carry.specs.WholeValues as whole

-- the value of a literal callable
abbrev pub made : ℕ → List MValue → MValue
made q vs = m_fun (m_lit q (keep_list vs))

-- what it stands for
kept_views : (T : Templates) (vs : List MValue) → kept_view T (keep_list vs) ≡ values_view T vs
kept_views T [] = refl
kept_views T (v ∷ vs) = ap (λ xs. value_view T v ∷ xs) (kept_views T vs)

pub made_view : (T : Templates) (q : ℕ) (vs : List MValue) → value_view T (made q vs) ≡ fun (of_phrase (T q (values_view T vs)))
made_view T q vs = ap (λ xs. fun (of_phrase (T q xs))) (kept_views T vs)

module _ (P : Program) (M : Image) where
  abbrev Whole : MValue → Type 0
  Whole = whole.Whole P M

  abbrev WholeCallable : MCallable → Type 0
  WholeCallable = whole.WholeCallable P M

  abbrev WholeKept : Kept → Type 0
  WholeKept = whole.WholeKept P M

  abbrev AllWhole : List MValue → Type 0
  AllWhole = whole.AllWhole P M

  pub get_whole : (F : List MValue) (k : ℕ) (v : MValue) → AllWhole F → slice_get F k ≡ Some v → Whole v
  get_whole [] k v h e = absurd (cc)
  get_whole (x ∷ F) zero v h e = let d : x ≡ v = cc in subst Whole d h.0
  get_whole (x ∷ F) (suc k) v h e = get_whole F k v h.1 e

  pub pile_whole : (vs s : List MValue) → AllWhole vs → AllWhole s → AllWhole (pile vs s)
  pile_whole [] s h k = k
  pile_whole (v ∷ vs) s h k = pile_whole vs (v ∷ s) h.1 (h.0, k)

  pub more_whole : (vs us : List MValue) → AllWhole vs → AllWhole us → AllWhole (vs ++ us)
  more_whole [] us h k = k
  more_whole (v ∷ vs) us h k = (h.0, more_whole vs us h.1 k)

  -- the first of them, and those behind them
  pub parts_whole : (vs us : List MValue) → AllWhole (vs ++ us) → AllWhole vs × AllWhole us
  parts_whole [] us h = (tt, h)
  parts_whole (v ∷ vs) us h = let r = parts_whole vs us h.1 in ((h.0, r.0), r.1)

  keep_whole : (vs : List MValue) → AllWhole vs → WholeKept (keep_list vs)
  keep_whole [] h = tt
  keep_whole (v ∷ vs) h = (h.0, keep_whole vs h.1)

  pub kept_whole : (k : Kept) → WholeKept k → AllWhole (kept_list k)
  kept_whole none_kept h = tt
  kept_whole (kept v k) h = (h.0, kept_whole k h.1)

  pub kept_same : (vs : List MValue) → kept_list (keep_list vs) ≡ vs
  kept_same [] = refl
  kept_same (v ∷ vs) = ap (λ xs. v ∷ xs) (kept_same vs)

  -- what cells of a frame hold
  abbrev Cells : List ℕ → List MValue → Type 0
  Cells ks vs = AllWhole vs × (length vs ≡ length ks)

  cells_step : (k : ℕ) (ks : List ℕ) (vs : List MValue) (o : Option MValue) (r : Option (List MValue)) → ((v : MValue) → o ≡ Some v → Whole v) → ((ws : List MValue) → r ≡ Some ws → Cells ks ws) → with_first o r ≡ Some vs → Cells (k ∷ ks) vs
  cells_step k ks vs None r ho hr e = absurd (cc)
  cells_step k ks vs (Some v) None ho hr e = absurd (cc)
  cells_step k ks vs (Some v) (Some ws) ho hr e =
      let d : v ∷ ws ≡ vs = cc in
      let c = hr ws refl in
      let all : Cells (k ∷ ks) (v ∷ ws) = ((ho v refl, c.0), ap suc c.1) in
      subst (Cells (k ∷ ks)) d all

  pub cells_whole : (ks : List ℕ) (F vs : List MValue) → AllWhole F → cells_at ks F ≡ Some vs → Cells ks vs
  cells_whole [] F vs h e = let d : [] ≡ vs = cc in let none : Cells [] [] = (tt, refl) in subst (Cells []) d none
  cells_whole (k ∷ ks) F vs h e = cells_step k ks vs (slice_get F k) (cells_at ks F) (λ v e'. get_whole F k v h e') (λ ws e'. cells_whole ks F ws h e') e

  pub made_whole : (q : ℕ) (r : TemplateRow) (vs : List MValue) → slice_get M.templates q ≡ Some r → length vs ≡ length r.cells + r.holes → AllWhole vs → Whole (made q vs)
  made_whole q r vs e l h = (r, e, ap length (kept_same vs) ∙ l, keep_whole vs h)

  -- one of two callables
  pub branch_whole : (b : Bool) (c d : MCallable) → WholeCallable c → WholeCallable d → WholeCallable (branch b c d)
  branch_whole true c d hc hd = hd
  branch_whole false c d hc hd = hc
