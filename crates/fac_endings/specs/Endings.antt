-- What the forms of all files come to: the program, or its first refusal.
use Rattle.std.specs.Prelude.{◌≡◌, List, [], ◌∷◌, ◌++◌, map, length, fold, Option, Some, None, Result, Ok, Err}
use Rattle.fac_lang.specs.PhraseView.{items_phrase}
use Rattle.fac_lang.specs.Phrases.{Phrase}
use Rattle.fac_lang.specs.declared.program.ClassDef.{ClassDef}
use Rattle.fac_lang.specs.declared.program.Lit.{Lit}
use Rattle.fac_lang.specs.declared.program.Program.{Program}
use Rattle.fac_source.specs.declared.refusal.NameFault.{NameFault}
use Rattle.fac_source.specs.declared.refusal.ResolveFault.{ResolveFault}
use Rattle.fac_source.specs.declared.refusal.ResolveFault.TheVariants.{Name, Memory}
use Rattle.fac_source.specs.Refusals.{sooner}
use Rattle.fac_endings.specs.declared.draft.Draft.{Draft}
use Rattle.fac_endings.specs.declared.draft.NewClass.{NewClass}
use Rattle.fac_endings.specs.declared.gathered.Gathered.{Gathered}
use Rattle.fac_endings.specs.Words.{top_word}
use Rattle.fac_endings.specs.ClassTable.{classes_of}
use Rattle.fac_endings.specs.FinishedWords.{finished}
use Rattle.fac_endings.specs.LastRefusals.{last_faults}

-- the first refusal of words and classes, where forms were refused already or not
abbrev pub first_fault : List Draft → List ClassDef → List NewClass → Option NameFault → Option NameFault
first_fault ds old new first = fold sooner first (last_faults ds old new)

-- the program, with the word of its top-level phrase as the last one
abbrev pub program_of : List Draft → List ClassDef → List NewClass → List (List Lit) → Phrase → Program
program_of ds old new arrays phrase =
    let cs = classes_of ds old new in
    record { words = map (finished ds cs) ds ++ top_word phrase ∷ []; arrays = arrays; classes = cs; top = length ds }

-- what the end of the files answers
abbrev pub Ends : Gathered → Result Program ResolveFault → Type 0
Ends g (Ok program) = (first_fault g.drafts.items g.old_classes g.classes g.first ≡ None) × (program ≡ program_of g.drafts.items g.old_classes g.classes g.arrays (items_phrase g.items.items))
Ends g (Err (Name fault)) = first_fault g.drafts.items g.old_classes g.classes g.first ≡ Some fault
Ends g (Err Memory) = Unit {0}
