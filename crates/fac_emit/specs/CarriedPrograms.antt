-- The programs for which a closed one stands, and what an image has of them.
use Rattle.std.specs.Prelude.{List, Option}
use Rattle.fac_base.specs.declared.height.Height.{Height}
use Rattle.fac_lang.specs.declared.program.Program.{Program}
use Rattle.fac_lang.specs.Phrases.{Callable}
use Rattle.fac_lang.specs.Whole.{IsWhole}
use Rattle.fac_locals.specs.Closed.{Closes}
use Rattle.fac_locals.specs.declared.closing.Closed.{Closed}
use Rattle.fac_code.specs.declared.image.Image.{Image}
use Rattle.fac_carry.specs.Agrees.{Agrees}
use Rattle.fac_carry.specs.Stands.{PlainCode}
use Rattle.fac_emit.specs.Heights.{HasHeights}

-- a closed program stands for this whole one
abbrev pub ClosesWhole : Program → Closed → Type 0
ClosesWhole P closed = Closes P closed.program closed.templates × IsWhole P

-- The image's code stands for the phrases of each whole program for which a closed one stands.
abbrev pub StandsForEach : Closed → Image → Type 0
StandsForEach closed M = (P : Program) → Closes P closed.program closed.templates → IsWhole P → PlainCode P M

-- The image's tables agree with each whole program for which a closed one stands, where these are the effects of its templates or it asks for none.
abbrev pub AgreesEach : Closed → List (Option Height) → Image → Type 0
AgreesEach closed heights M =
    (P : Program) (callable_height : Callable → Option Height) → Closes P closed.program closed.templates → IsWhole P → HasHeights P closed heights callable_height → Agrees P callable_height M
