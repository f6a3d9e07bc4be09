-- Where a name would be found that isn't found: the vocabularies of the language that hold a word of this name.
use Rattle.std.specs.Prelude.{◌≡◌, ℕ, List, [], ◌∷◌, ◌++◌, length, map, Bool, true, false, nat_le, None, Some, codes}
use Rattle.fac_notes.specs.declared.report.Report.{Report}
use Rattle.fac_explainer.specs.declared.homes.TheConstants.{MOST_NAME, VOCABULARIES}
use Rattle.fac_explainer.specs.CheckAnswers.{IsCheckedAs}

-- the vocabularies of the language, in the order of their names
abbrev pub vocabularies : List (List ℕ)
vocabularies = map (λ text. text.now) VOCABULARIES

-- a source that brings one word of a vocabulary, which `check` accepts where the vocabulary holds that word
abbrev pub bringing : List ℕ → List ℕ → List ℕ
bringing vocab name = (codes "FROM: " ++ vocab ++ codes " => ") ++ (name ++ codes " ;\n")

-- of vocabularies those that hold a word of this name
pub data AreHomes (name : List ℕ) : List (List ℕ) → List (List ℕ) → Type 0 where
  none : AreHomes name [] []
  holds : (vocab : List ℕ) (vocabs homes : List (List ℕ)) → IsCheckedAs (bringing vocab name ∷ []) None → AreHomes name vocabs homes → AreHomes name (vocab ∷ vocabs) (vocab ∷ homes)
  lacks : (vocab : List ℕ) (vocabs homes : List (List ℕ)) (why : Report) → IsCheckedAs (bringing vocab name ∷ []) (Some why) → AreHomes name vocabs homes → AreHomes name (vocab ∷ vocabs) homes

-- those of the language, where a name isn't too long for one of its words
abbrev pub HomesWhere : Bool → List ℕ → List (List ℕ) → Type 0
HomesWhere true name homes = AreHomes name vocabularies homes
HomesWhere false name homes = homes ≡ []

abbrev pub HasHomes : List ℕ → List (List ℕ) → Type 0
HasHomes name homes = HomesWhere (nat_le (length name) MOST_NAME) name homes
