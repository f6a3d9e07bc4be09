-- What was known comes first in what files come to behind it.
use Rattle.std.proofs.Common.{◌≡◌, ◌∙◌, ap, subst, refl, ℕ, suc, List, [], ◌∷◌, ◌++◌, map, fold, slice_get, Option, Some, None, Result, Ok, Err, Bool}
use Rattle.fac_lang.specs.LongerPrograms.{IsLonger, with_earlier}
use Rattle.fac_lang.specs.declared.program.ClassDef.{ClassDef}
use Rattle.fac_lang.specs.declared.program.WordDef.{WordDef}
use Rattle.fac_lang.specs.declared.program.Program.{Program}
use Rattle.fac_source.specs.declared.refusal.NameFault.{NameFault}
use Rattle.fac_vocab.specs.Scopes.{begun}
use Rattle.fac_items.specs.Written.{Form}
use Rattle.fac_items.specs.Readings.{read_forms}
use Rattle.fac_endings.specs.ClassTable.{class_of}
use Rattle.fac_endings.specs.declared.draft.Draft.{Draft}
use Rattle.fac_names.specs.Forms.{Reading, take, take_file}
use Rattle.fac_known.specs.KnownPrograms.{IsKnown}
use Rattle.fac_known.specs.Laws.{Grows, KnownStays, Longer}
use Rattle.fac_names.specs.Resolution.{settled_draft}
use Rattle.fac_names.specs.declared.known.Known.{Known}
use Rattle.fac_names.specs.Resolved.{answer, beginning, first_fault, program_of}
use Rattle.fac_known.proofs.GoingOn.{earlier_drafts, settled_at}
use Rattle.fac_known.proofs.Growing.{forms_grow, grows_fold, grows_if, grows_same, grows_then, scoped_grows}
use Rattle.fac_known.proofs.Staying.{At, defined_spare, files_at, finished_at}

-- a list whose elements all stand in another one, at their numbers, comes first in it
comes_first : (xs ys : List WordDef) → ((i : ℕ) (x : WordDef) → slice_get xs i ≡ Some x → slice_get ys i ≡ Some x) → Longer xs ys
comes_first [] ys h = record { rest = ys; is = refl }
comes_first (x ∷ xs) [] h = absurd (let none : None ≡ Some x = h 0 x refl in cc)
comes_first (x ∷ xs) (y ∷ ys) h =
    let rest = comes_first xs ys (λ i z at. h (suc i) z at) in
    let same : y ≡ x = (let e : Some y ≡ Some x = h 0 x refl in cc) in
    record { rest = rest.rest; is = ap (λ (z : WordDef). z ∷ ys) same ∙ ap (λ (zs : List WordDef). x ∷ zs) rest.is }

word_then : (k : Known) (files : List (List Form)) (keep : Bool) → IsKnown k → (w : ℕ) (d : WordDef) → slice_get (with_earlier k.program.top k.program.words) w ≡ Some d → slice_get (program_of keep (fold (take_file keep) (beginning k) files)).words w ≡ Some d
word_then k files keep known w d at =
    let P = k.program in
    let start : At w (settled_draft d) (beginning k) = record {
      is = ap (λ (ds : List Draft). slice_get ds w) (earlier_drafts P.top P.words) ∙ settled_at (with_earlier P.top P.words) w d at;
      spared = defined_spare w k.scope.table known.all_defined;
    } in
    finished_at keep (fold (take_file keep) (beginning k) files) w d (files_at keep files (beginning k) start)

file_grows : (keep : Bool) (r : Reading) (forms : List Form) → Grows r (take_file keep r forms)
file_grows keep r forms = grows_then (grows_if keep (grows_same r) (scoped_grows begun r)) (grows_fold (λ q form. take form q) (λ q form. forms_grow form q) (read_forms forms) _)

is_longer : (k : Known) (files : List (List Form)) (keep : Bool) → IsKnown k → IsLonger k.program (program_of keep (fold (take_file keep) (beginning k) files))
is_longer k files keep known =
    let r = fold (take_file keep) (beginning k) files in
    let grows = grows_fold (take_file keep) (file_grows keep) files (beginning k) in
    let words = comes_first (with_earlier k.program.top k.program.words) (program_of keep r).words (word_then k files keep known) in
    record {
      more_words = words.rest;
      words_are = words.is;
      more_arrays = grows.arrays.rest;
      arrays_are = grows.arrays.is;
      more_classes = map (class_of r.words) r.classes;
      classes_are = ap (λ (cs : List ClassDef). cs ++ map (class_of r.words) r.classes) grows.old;
    }

answered : (keep : Bool) (P : Program) (r : Reading) (o : Option NameFault) (q : Known) → IsLonger P (program_of keep r) → answer keep r o ≡ Ok q → IsLonger P q.program
answered keep P r (Some f) q g h = absurd (no_answer f q h)
  where
    no_answer : (f : NameFault) (q : Known) → Err f ≡ Ok q → ⊥
    no_answer f q e = cc
answered keep P r None q g h = subst (λ (k : Known). IsLonger P k.program) (ap (λ (x : Result Known NameFault). elim x [ Ok k ↦ k | Err f ↦ q ]) h) g

pub known_stays : KnownStays
known_stays k q files keep known h =
    let r = fold (take_file keep) (beginning k) files in
    answered keep k.program r (first_fault r) q (is_longer k files keep known) h
