-- What a longer program keeps.
use Rattle.std.specs.Prelude.{◌≡◌, ◌<◌, ℕ, List, ◌++◌, length, None, Some, slice_get}
use Rattle.fac_base.specs.declared.place.Place.{Place}
use Rattle.fac_lang.specs.LongerPrograms.{IsLonger}
use Rattle.fac_lang.specs.Phrases.{Item}
use Rattle.fac_lang.specs.Whole.{IsWhole}
use Rattle.fac_lang.specs.declared.program.Program.{Program}
use Rattle.fac_lang.specs.declared.program.WordDef.{WordDef}
use Rattle.fac_locals.specs.Literals.{Quoted, literals, literal_places}
use Rattle.fac_locals.specs.Frames.{template_phrase}
use Rattle.fac_check.specs.Verdicts.{word_verdict}
use Rattle.fac_longer.specs.Longer.{GoesOn}

-- A longer program goes on with the first, as far as a walk asks.
abbrev pub LongerGoesOn : Type 0
LongerGoesOn = (P Q : Program) → IsWhole P → IsWhole Q → IsLonger P Q → GoesOn P Q

-- Its literals are those of the first, and others behind them.
abbrev pub LiteralsStay : Type 0
LiteralsStay = (P Q : Program) → IsWhole P → IsWhole Q → IsLonger P Q → (more : List Quoted) × (literals Q ≡ literals P ++ more)

-- So are their places,
abbrev pub PlacesStay : Type 0
PlacesStay = (P Q : Program) → IsWhole P → IsWhole Q → IsLonger P Q → (more : List Place) × (literal_places Q ≡ literal_places P ++ more)

-- and a template of the first has the phrase that it had.
abbrev pub TemplatesStay : Type 0
TemplatesStay = (P Q : Program) → IsWhole P → IsWhole Q → IsLonger P Q → (k : ℕ) → k < length (literals P) → (is : List Item) → template_phrase Q k is ≡ template_phrase P k is

-- Each word of the first that is accepted there is accepted in the second, where the phrase of the first is an earlier one, whatever numbers of values the two phrases start on.
abbrev pub VerdictsStay : Type 0
VerdictsStay =
    (P Q : Program) → IsWhole P → IsWhole Q → IsLonger P Q → (m n w : ℕ) (d c : WordDef) → slice_get P.words w ≡ Some d → slice_get Q.words w ≡ Some c → word_verdict P m w d ≡ None → word_verdict Q n w c ≡ None
