-- The words of a closed program have the names of those of the program for which it stands.
use Rattle.std.proofs.Common.{◌≡◌, ℕ, zero, suc, List, [], ◌∷◌, refl, ap, ◌∙◌}
use Rattle.std.specs.Prelude.{slice_get}
use Rattle.fac_base.specs.declared.name.Name.{Name}
use Rattle.fac_lang.specs.declared.phrase.Template.{Template}
use Rattle.fac_lang.specs.declared.program.Program.{Program}
use Rattle.fac_lang.specs.declared.program.Sort.{Sort}
use Rattle.fac_lang.specs.declared.program.Sort.TheVariants as sort
use Rattle.fac_lang.specs.declared.program.WordDef.{WordDef}
use Rattle.fac_locals.specs.Closed.{Closes, CloseWords, ClosesSort}
use Rattle.fac_notes.specs.WordNames.{bare_word, method_name, name_as, name_or}
use Rattle.fac_judge.specs.inner.ClosedNames.{SameNames}

-- each word of a closed program is defined under the name of the word for which it stands
bare_at : (P : Program) (n w : ℕ) (ds cs : List WordDef) → CloseWords P n ds cs → bare_word (slice_get cs w) ≡ bare_word (slice_get ds w)
bare_at P n w [] cs c = ap (λ (xs : List WordDef). bare_word (slice_get xs w)) c
bare_at P n zero (d ∷ ds) cs c = ap (λ (xs : List WordDef). bare_word (slice_get xs 0)) c.2 ∙ ap (λ (x : Name). x.name) c.3.name
bare_at P n (suc w) (d ∷ ds) cs c = ap (λ (xs : List WordDef). bare_word (slice_get xs (suc w))) c.2 ∙ bare_at P (suc n) w ds c.1 c.4

-- a name without a vocabulary
abbrev without_vocabulary : List ℕ → Name
without_vocabulary name = record { vocab = []; name = name }

-- so a method is named by the same class and generic
method_same : (P C : Program) (templates : List Template) (c g : ℕ) → Closes P C templates → method_name C c g ≡ method_name P c g
method_same P C templates c g closes = rw (closes.classes, bare_at P 0 g P.words C.words closes.words) refl

module _ (P C : Program) (same : (c g : ℕ) → method_name C c g ≡ method_name P c g) where
  -- what a word is decides its name, also for the closed one
  sort_same : (w : ℕ) (full : Name) (s r : Sort) → ClosesSort P w s r → name_as C full r ≡ name_as P full s
  sort_same w full (sort.Prim k) r h = ap (name_as C full) h
  sort_same w full (sort.Core k) r h = ap (name_as C full) h
  sort_same w full (sort.Body t) r h = ap (name_as C full) h.1
  sort_same w full (sort.Past t) r h = ap (name_as C full) h.1
  sort_same w full sort.Itself r h = ap (name_as C full) h
  sort_same w full (sort.Class c) r h = ap (name_as C full) h
  sort_same w full (sort.Isa c) r h = ap (name_as C full) h
  sort_same w full (sort.Getter s) r h = ap (name_as C full) h
  sort_same w full (sort.Setter s) r h = ap (name_as C full) h
  sort_same w full (sort.Putter s) r h = ap (name_as C full) h
  sort_same w full sort.Generic r h = ap (name_as C full) h
  sort_same w full (sort.Method c g t) r h = ap (name_as C full) h.1 ∙ ap without_vocabulary (same c g)

  named_at : (n w k : ℕ) (ds cs : List WordDef) → CloseWords P n ds cs → name_or C k (slice_get cs w) ≡ name_or P k (slice_get ds w)
  named_at n w k [] cs c = ap (λ (xs : List WordDef). name_or C k (slice_get xs w)) c
  named_at n zero k (d ∷ ds) cs c =
      ap (λ (xs : List WordDef). name_or C k (slice_get xs 0)) c.2 ∙ ap (λ (full : Name). name_as C full c.0.sort) c.3.name ∙ sort_same n d.name d.sort c.0.sort c.3.sort
  named_at n (suc w) k (d ∷ ds) cs c = ap (λ (xs : List WordDef). name_or C k (slice_get xs (suc w))) c.2 ∙ named_at (suc n) w k ds c.1 c.4

pub same_names : (P C : Program) (templates : List Template) → Closes P C templates → SameNames P C
same_names P C templates closes w = named_at P C (λ c g. method_same P C templates c g closes) 0 w w P.words C.words closes.words
