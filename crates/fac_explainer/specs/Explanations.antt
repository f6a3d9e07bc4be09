-- The explanation of a refusal: its note behind the place, the line with its marks, a sentence, and what helps.
use Rattle.std.specs.Prelude.{◌≡◌, ℕ, List, ◌++◌, None, Some, codes}
use Rattle.std.specs.declared.option.Option.{Option}
use Rattle.fac_token.specs.declared.spotting.Spot.{Spot}
use Rattle.fac_notes.specs.Notes.{file_name, line_of}
use Rattle.fac_notes.specs.declared.report.Report.{Report}
use Rattle.fac_tool.specs.Answers.{numbered_names}
use Rattle.fac_explain.specs.Pictures.{place_text, token_text}
use Rattle.fac_explain.specs.Beginnings.{beginning}
use Rattle.fac_explainer.specs.Help.{IsHelp}
use Rattle.fac_explainer.specs.Reports.{text_in, file_of, IsPlace, picture, sentence}

-- the explanation of a refusal at a place of a text, where the files have these names by their numbers, with what helps behind its sentence
abbrev pub explanation : List (List ℕ) → List ℕ → Report → Option Spot → List ℕ → List ℕ
explanation names text why place help =
    (place_text (file_name names (file_of why)) place ++ line_of names why) ++
    (picture why text place ++ (sentence why (token_text text place) ++ (help ++ beginning text)) ++ codes "\n")

-- the explanation of a refusal, by the names and the texts of the files that were checked
abbrev pub IsExplanation : List (List ℕ) → List (List ℕ) → Report → List ℕ → Type 0
IsExplanation names texts why out =
    (place : Option Spot) × IsPlace (text_in texts (file_of why)) why place × ((help : List ℕ) × IsHelp texts why help × (out ≡ explanation (numbered_names names) (text_in texts (file_of why)) why place help))

abbrev pub nothing : List ℕ
nothing = codes "nothing to explain\n"

-- what is written where files have this refusal, or none
abbrev pub IsTold : List (List ℕ) → List (List ℕ) → Option Report → List ℕ → Type 0
IsTold names texts None out = out ≡ nothing
IsTold names texts (Some why) out = IsExplanation names texts why out

-- nothing else explains a refusal, so an explanation is a function of it and of the files' names and bytes
abbrev pub OneExplanation : Type 0
OneExplanation = (names texts : List (List ℕ)) (refusal : Option Report) (out other : List ℕ) → IsTold names texts refusal out → IsTold names texts refusal other → out ≡ other
