-- What the end of the program settles of words.
use Rattle.std.specs.Prelude.{◌≡◌, ℕ, zero, suc, List, [], ◌∷◌, ◌++◌, length, slice_get, Option, Some, None}
use Rattle.fac_lang.specs.Classes.{shape_at, parent_in, slots_within}
use Rattle.fac_lang.specs.declared.program.ClassDef.{ClassDef}
use Rattle.fac_lang.specs.declared.program.WordDef.{WordDef}
use Rattle.fac_endings.specs.declared.draft.Draft.{Draft}
use Rattle.fac_endings.specs.declared.finishing.Finish.{Finish}
use Rattle.fac_endings.specs.declared.finishing.Finish.TheVariants.{Nothing, Effect, Method}
use Rattle.fac_endings.specs.ClassTable.{slots_at}
use Rattle.fac_endings.specs.FinishedWords.{as_method, finished}

-- a class and its parents, from it on; at most n
abbrev pub line : ℕ → List ClassDef → Option ℕ → List ℕ
line n cs None = []
line zero cs (Some c) = []
line (suc n) cs (Some c) = c ∷ line n cs (parent_in (shape_at cs c))

-- the slots of these classes, those of the last first
abbrev pub slots_last : List ClassDef → List ℕ → List (List ℕ)
slots_last cs [] = []
slots_last cs (b ∷ bs) = slots_last cs bs ++ slots_at cs b

-- for each class all of its slots
pub record AreSlots (cs : List ClassDef) (table : List (List (List ℕ))) : Type 0 where
  pub same_length : length table ≡ length cs
  pub each : (c : ℕ) (slots : List (List ℕ)) → slice_get table c ≡ Some slots → slots ≡ slots_within (length cs) cs c

-- the same for the first classes
pub record AreSlotsSoFar (cs : List ClassDef) (n : ℕ) (table : List (List (List ℕ))) : Type 0 where
  pub counted : length table ≡ n
  pub each : (c : ℕ) (slots : List (List ℕ)) → slice_get table c ≡ Some slots → slots ≡ slots_within (length cs) cs c

abbrev pub or_none : Option (List (List ℕ)) → List (List ℕ)
or_none None = []
or_none (Some slots) = slots

abbrev pub slots_listed : List (List (List ℕ)) → ℕ → List (List ℕ)
slots_listed table c = or_none (slice_get table c)

abbrev pub slots_above : List (List (List ℕ)) → Option ℕ → List (List ℕ)
slots_above table None = []
slots_above table (Some p) = slots_listed table p

abbrev pub with_finish : Finish → WordDef → WordDef
with_finish Nothing w = w
with_finish (Effect e) w = record w { effect = e }
with_finish (Method c g e) w = as_method (Some c) g e w.sort w

-- this is done to each word
abbrev pub FinishesBy : Finish → (WordDef → WordDef) → Type 0
FinishesBy finish f = (w : WordDef) → with_finish finish w ≡ f w

-- what is settled of each of these words
abbrev pub AreFinishes : List Draft → List ClassDef → List Draft → List Finish → Type 0
AreFinishes ds cs [] [] = Unit {0}
AreFinishes ds cs (d ∷ xs) (f ∷ fs) = (with_finish f d.word ≡ finished ds cs d) × AreFinishes ds cs xs fs
AreFinishes ds cs _ _ = ⊥

abbrev pub finished_with : List Draft → List Finish → List WordDef
finished_with (d ∷ ds) (f ∷ fs) = with_finish f d.word ∷ finished_with ds fs
finished_with _ _ = []
