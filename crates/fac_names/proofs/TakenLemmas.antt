-- Forms that are taken one behind the other.
use Rattle.std.proofs.Common.{◌≡◌, List, [], ◌∷◌, ◌++◌, fold, Result, ap, sym, ◌∙◌}
use Rattle.std.proofs.lemmas.List.Sums.{fold-append}
use Rattle.std.specs.Prelude.{IfOk}
use Rattle.fac_lang.specs.Whole.{IsWhole}
use Rattle.fac_lang.specs.declared.program.Program.{Program}
use Rattle.fac_source.specs.declared.tree.Form.{Form as Flat}
use Rattle.fac_parse.specs.Trees.{AreWellFormed}
use Rattle.fac_source.specs.declared.refusal.ResolveFault.{ResolveFault}
use Rattle.fac_vocab.specs.Scopes.{begun}
use Rattle.fac_names.specs.Forms.{Reading, scoped}
use Rattle.fac_names.specs.Resolution.{Resolves, first_reading}
use Rattle.fac_names.specs.TakenForms.{HasTaken, take_flat, take_front, taken}
use Rattle.fac_names.specs.declared.resolver.Resolver.{Resolver}
use Rattle.fac_names.specs.inner.Ended.{EndsReading}
use Rattle.fac_names.specs.inner.State.{reading_of}
use Rattle.fac_names.proofs.BuiltPrograms.{resolved_whole}
use Rattle.fac_names.proofs.EndingLemmas.{resolves}
use Rattle.fac_names.proofs.FileLemmas.{files_taken}

-- before the first file
pub none_taken : (now : Resolver) → reading_of now.so_far ≡ first_reading → HasTaken [] now
unfolding HasTaken taken
none_taken now h = h

-- a file begins
pub file_begun : (old new : Resolver) → reading_of new.so_far ≡ scoped begun (reading_of old.so_far) → (files : List (List Flat)) → HasTaken files old → HasTaken (files ++ [] ∷ []) new
unfolding HasTaken taken
file_begun old new is files h =
    is
    ∙ ap (scoped begun) h
    ∙ sym (fold-append take_front first_reading files ([] ∷ []))

-- forms more
pub more_taken : (old new : Resolver) (forms : List Flat) → reading_of new.so_far ≡ fold take_flat (reading_of old.so_far) forms → (files : List (List Flat)) (before : List Flat) → HasTaken (files ++ before ∷ []) old → HasTaken (files ++ (before ++ forms) ∷ []) new
unfolding HasTaken taken
more_taken old new forms is files before h =
    is
    ∙ ap (λ (r : Reading). fold take_flat r forms) (h ∙ fold-append take_front first_reading files (before ∷ []))
    ∙ sym (fold-append take_flat (scoped begun (fold take_front first_reading files)) before forms)
    ∙ sym (fold-append take_front first_reading files ((before ++ forms) ∷ []))

-- all forms of files
pub all_taken : (old new : Resolver) (files : List (List Flat)) → reading_of new.so_far ≡ fold take_front (reading_of old.so_far) files → HasTaken [] old → HasTaken files new
unfolding HasTaken taken
all_taken old new files is h = is ∙ ap (λ (r : Reading). fold take_front r files) h

-- The end.

pub taken_resolves : (now : Resolver) (e : Result Program ResolveFault) → EndsReading (reading_of now.so_far) e → (files : List (List Flat)) → AreWellFormed files → HasTaken files now → Resolves files e
unfolding HasTaken taken
taken_resolves now e ends files fits h = resolves files (reading_of now.so_far) e (h ∙ files_taken files first_reading fits) ends

pub taken_whole : (now : Resolver) (e : Result Program ResolveFault) → EndsReading (reading_of now.so_far) e → (files : List (List Flat)) → AreWellFormed files → HasTaken files now → IfOk e (λ P. IsWhole P)
taken_whole now e ends files fits h = resolved_whole files e fits (taken_resolves now e ends files fits h)
