-- The tables of an image of plain code agree with its program.
use Rattle.std.proofs.Common.{ℕ, List, Option}
use Rattle.fac_base.specs.declared.height.Height.{Height}
use Rattle.fac_lang.specs.declared.program.Program.{Program}
use Rattle.fac_lang.specs.Phrases.{Callable}
use Rattle.fac_lang.proofs.SourcePrograms.{session_of_whole}
use Rattle.fac_lang.specs.Whole.{IsWhole}
use Rattle.fac_locals.specs.Closed.{Closes}
use Rattle.fac_locals.specs.declared.closing.Closed.{Closed}
use Rattle.fac_code.specs.declared.image.Image.{Image}
use Rattle.fac_carry.specs.Agrees.{Agrees}
use Rattle.fac_emit.specs.Heights.{HasHeights}
use Rattle.fac_emit.specs.ProgramCode.{IsPlain}
use Rattle.fac_emit.proofs.NamedImages.{word_fully_named, image_named}
use Rattle.fac_emit.proofs.TestedHeights.{words_tested, literals_tested}
use Rattle.fac_emit.proofs.MadeArrays.{arrays_made}

pub agrees :
    (P : Program) (C : Closed) (heights : List (Option Height)) (M : Image) (callable_height : Callable → Option Height) →
    IsWhole P → Closes P C.program C.templates → IsPlain C heights M → HasHeights P C heights callable_height → Agrees P callable_height M
agrees P C heights M callable_height whole closes is_plain effects =
    let b = session_of_whole P whole in
    let made = arrays_made P C heights M b closes is_plain in
    record {
      named = image_named P C heights M b closes is_plain;
      same_full_names = word_fully_named P C heights M b closes is_plain;
      words = words_tested P C heights M b closes is_plain;
      literals = literals_tested P C heights M b closes is_plain callable_height effects;
      curried = effects.curried;
      composed = effects.composed;
      same_first = λ input. (made input).same;
      first_whole = λ input. (made input).whole;
    }
