-- The end of the files.
use Rattle.std.proofs.Common.{◌≡◌, List, map, fold, Option, Option, None, Result, Ok, Err, false, true, ap, sym, ◌∙◌}
use Rattle.fac_lang.specs.PhraseView.{items_phrase}
use Rattle.fac_lang.specs.RunningLaws.{append}
use Rattle.fac_lang.specs.declared.program.ClassDef.{ClassDef}
use Rattle.fac_lang.specs.declared.program.Lit.{Lit}
use Rattle.fac_lang.specs.declared.program.Program.{Program}
use Rattle.fac_source.specs.declared.tree.Form.{Form as Flat}
use Rattle.fac_source.specs.declared.refusal.NameFault.{NameFault}
use Rattle.fac_source.specs.declared.refusal.ResolveFault.{ResolveFault}
use Rattle.fac_source.specs.declared.refusal.ResolveFault.TheVariants.{Name, Memory}
use Rattle.fac_endings.specs.declared.draft.Draft.{Draft}
use Rattle.fac_endings.specs.declared.draft.NewClass.{NewClass}
use Rattle.fac_endings.specs.declared.gathered.Gathered.{Gathered}
use Rattle.fac_endings.specs.Endings.{Ends, first_fault as first_of, program_of as program_in}
use Rattle.fac_names.specs.Forms.{Reading, take_file}
use Rattle.fac_names.specs.FromFlat.{form_of}
use Rattle.fac_names.specs.Resolved.{Known, answer, first_fault, program_of}
use Rattle.fac_names.specs.Resolution.{Resolves, first_reading, program_alone, resolved}
use Rattle.fac_names.specs.inner.Ended.{EndsReading, EndsText}

first_same : (r : Reading) (g : Gathered) → g.drafts.items ≡ r.words → g.old_classes ≡ r.old_classes → g.classes ≡ r.classes → g.first ≡ r.first → first_fault r ≡ first_of g.drafts.items g.old_classes g.classes g.first
first_same r g words old new first =
    sym
    (ap (λ (ds : List Draft). first_of ds g.old_classes g.classes g.first) words
    ∙ ap (λ (cs : List ClassDef). first_of r.words cs g.classes g.first) old
    ∙ ap (λ (cs : List NewClass). first_of r.words r.old_classes cs g.first) new
    ∙ ap (first_of r.words r.old_classes r.classes) first)

-- what is gathered of a reading ends as the reading does
pub ends_reading : (r : Reading) (g : Gathered) (e : Result Program ResolveFault) → g.drafts.items ≡ r.words → g.old_classes ≡ r.old_classes → g.classes ≡ r.classes → g.arrays ≡ r.arrays → g.first ≡ r.first → items_phrase g.items.items ≡ append r.top r.main →
    Ends g e → EndsReading r e
ends_reading r g (Ok program) words old new arrays first items h = (
  first_same r g words old new first ∙ h.0,
  h.1
      ∙ ap (λ (ds : List Draft). program_in ds g.old_classes g.classes g.arrays (items_phrase g.items.items)) words
      ∙ ap (λ (cs : List ClassDef). program_in r.words cs g.classes g.arrays (items_phrase g.items.items)) old
      ∙ ap (λ (cs : List NewClass). program_in r.words r.old_classes cs g.arrays (items_phrase g.items.items)) new
      ∙ ap (λ (lss : List (List Lit)). program_in r.words r.old_classes r.classes lss (items_phrase g.items.items)) arrays
      ∙ ap (program_in r.words r.old_classes r.classes r.arrays) items,
)
ends_reading r g (Err (Name fault)) words old new arrays first items h = first_same r g words old new first ∙ h
ends_reading r g (Err Memory) words old new arrays first items h = tt

-- and so does a text, whose `MAIN:` is left out
module _ (r : Reading) (g : Gathered) (words : g.drafts.items ≡ r.words) (old : g.old_classes ≡ r.old_classes) (new : g.classes ≡ r.classes) (arrays : g.arrays ≡ r.arrays) (first : g.first ≡ r.first) where
  pub text_known : (k : Known) → items_phrase g.items.items ≡ r.top → k.scope ≡ r.scope → Ends g (Ok k.program) → EndsText r (Ok k)
  text_known k items scope h = (
    first_same r g words old new first ∙ h.0,
    scope,
    h.1
        ∙ ap (λ (ds : List Draft). program_in ds g.old_classes g.classes g.arrays (items_phrase g.items.items)) words
        ∙ ap (λ (cs : List ClassDef). program_in r.words cs g.classes g.arrays (items_phrase g.items.items)) old
        ∙ ap (λ (cs : List NewClass). program_in r.words r.old_classes cs g.arrays (items_phrase g.items.items)) new
        ∙ ap (λ (lss : List (List Lit)). program_in r.words r.old_classes r.classes lss (items_phrase g.items.items)) arrays
        ∙ ap (program_in r.words r.old_classes r.classes r.arrays) items,
  )

  pub text_refused : (why : ResolveFault) → Ends g (Err why) → EndsText r (Err why)
  text_refused (Name fault) h = first_same r g words old new first ∙ h
  text_refused Memory h = tt

abbrev files_of : List (List Flat) → Reading
files_of files = fold (take_file false) first_reading (map (map form_of) files)

-- what the end of all files answers
pub resolves : (files : List (List Flat)) (r : Reading) (e : Result Program ResolveFault) → r ≡ files_of files → EndsReading r e → Resolves files e
unfolding resolved
resolves files r (Ok program) is h =
    sym (ap (λ (q : Reading). program_alone (answer false q (first_fault q))) is)
    ∙ ap (λ (o : Option NameFault). program_alone (answer false r o)) h.0
    ∙ ap (λ (p : Program). Ok p) (sym h.1)
resolves files r (Err (Name fault)) is h =
    sym (ap (λ (q : Reading). program_alone (answer false q (first_fault q))) is)
    ∙ ap (λ (o : Option NameFault). program_alone (answer false r o)) h
resolves files r (Err Memory) is h = tt
