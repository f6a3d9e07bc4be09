-- Values are whole of an image where they are of another one with the same templates.
use Rattle.std.proofs.Common.{◌≡◌, ℕ, ◌+◌, List, [], ◌∷◌, length, Some, sym, ◌∙◌}
use Rattle.std.specs.Prelude.{slice_get}
use Rattle.fac_lang.specs.declared.program.Program.{Program}
use Rattle.fac_lang.specs.World.{Object, array, tuple}
use Rattle.fac_code.specs.declared.image.TemplateRow.{TemplateRow}
use Rattle.fac_code.specs.declared.image.Image.{Image}
use Rattle.fac_store.specs.MachineValues.{MValue, m_plain, m_fun, MCallable, m_lit, m_cur, m_com, Kept, none_kept, kept}
use Rattle.fac_carry.specs.WholeValues.{Whole, WholeCallable, WholeKept, AllWhole, WholeObject, WholeObjects}

-- each template is there, with as many cells and holes
abbrev pub HasTemplates : Image → Image → Type 0
HasTemplates A B = (q : ℕ) (r : TemplateRow) → slice_get A.templates q ≡ Some r → (s : TemplateRow) × (slice_get B.templates q ≡ Some s) × (length s.cells + s.holes ≡ length r.cells + r.holes)

module _ (P : Program) (A B : Image) (has : HasTemplates A B) where
  mutual
    pub whole_too : (m : MValue) → Whole P A m → Whole P B m
    whole_too (m_plain p) h = h
    whole_too (m_fun c) h = callable_too c h

    callable_too : (c : MCallable) → WholeCallable P A c → WholeCallable P B c
    callable_too (m_lit q k) h = let s = has q h.0 h.1 in (s.0, s.1, h.2 ∙ sym (s.2), kept_too k h.3)
    callable_too (m_cur v c) h = (whole_too v h.0, callable_too c h.1)
    callable_too (m_com c d) h = (callable_too c h.0, callable_too d h.1)

    pub kept_too : (k : Kept) → WholeKept P A k → WholeKept P B k
    kept_too none_kept h = tt
    kept_too (kept v k) h = (whole_too v h.0, kept_too k h.1)

  pub all_too : (vs : List MValue) → AllWhole P A vs → AllWhole P B vs
  all_too [] h = tt
  all_too (v ∷ vs) h = (whole_too v h.0, all_too vs h.1)

  object_too : (o : Object MValue) → WholeObject P A o → WholeObject P B o
  object_too (array vs) h = all_too vs h
  object_too (tuple k vs) h = all_too vs h

  pub objects_too : (os : List (Object MValue)) → WholeObjects P A os → WholeObjects P B os
  objects_too [] h = tt
  objects_too (o ∷ os) h = (object_too o h.0, objects_too os h.1)
