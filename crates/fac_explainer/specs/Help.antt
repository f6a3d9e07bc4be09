-- What helps with a name that isn't found, behind its sentence: which vocabularies of the language hold a word of it, or else which name was meant.
use Rattle.std.specs.Prelude.{◌≡◌, ℕ, List, [], ◌∷◌, ◌++◌}
use Rattle.std.specs.declared.option.Option.{Option}
use Rattle.fac_source.specs.declared.refusal.NameKind.{NameKind}
use Rattle.fac_source.specs.declared.refusal.NameKind.TheVariants as kind
use Rattle.fac_notes.specs.declared.report.Report.{Report}
use Rattle.fac_notes.specs.declared.report.Report.TheVariants as report
use Rattle.fac_prelude.specs.PreludeText.{prelude_text}
use Rattle.fac_explain.specs.Names.{AreDefined, language_names}
use Rattle.fac_explain.specs.Nearness.{closest}
use Rattle.fac_explain.specs.Sentences.{hint, meant}
use Rattle.fac_explainer.specs.Homes.{HasHomes}

-- the names that there are: those of the language, and those that the prelude and these texts define
abbrev pub AreNames : List (List ℕ) → List (List ℕ) → Type 0
AreNames texts names = (defined : List (List ℕ)) × AreDefined (prelude_text ∷ texts) defined × (names ≡ language_names ++ defined)

-- which of them was meant
abbrev pub Means : List (List ℕ) → List ℕ → List ℕ → Type 0
Means texts name out = (names : List (List ℕ)) × AreNames texts names × (out ≡ meant name (closest name names))

-- where these vocabularies hold a word of the name
abbrev pub HelpsBy : List (List ℕ) → List ℕ → List (List ℕ) → List ℕ → Type 0
HelpsBy texts name [] out = Means texts name out
HelpsBy texts name (vocab ∷ vocabs) out = out ≡ hint (vocab ∷ vocabs)

-- of a name that isn't found
abbrev pub HelpsFind : List (List ℕ) → List ℕ → List ℕ → Type 0
HelpsFind texts name out = (homes : List (List ℕ)) × HasHomes name homes × HelpsBy texts name homes out

abbrev pub HelpsName : List (List ℕ) → NameKind → List ℕ → List ℕ → Type 0
HelpsName texts kind.Unknown name out = HelpsFind texts name out
HelpsName texts _ name out = out ≡ []

-- of a refusal of these texts
abbrev pub IsHelp : List (List ℕ) → Report → List ℕ → Type 0
IsHelp texts (report.Name fault) out = HelpsName texts fault.kind fault.name out
IsHelp texts _ out = out ≡ []
