-- The image of an accepted program.
use Rattle.std.proofs.Common.{◌≡◌, ◌+◌, ◌<◌, ℕ, List, length, map, Result, Ok, Err, IfOk, refl, ap, sym, subst, ◌∙◌}
use Rattle.std.proofs.lemmas.Option.{slice_get_within, slice_get-get_or}
use Rattle.std.specs.Prelude.{None, Some, slice_get}
use Rattle.std.specs.declared.option.Option.{Option}
use Rattle.fac_base.specs.declared.height.Height.{Height}
use Rattle.fac_base.specs.declared.memory.Memory.{Memory}
use Rattle.fac_lang.specs.declared.phrase.Template.{Template}
use Rattle.fac_lang.specs.declared.program.Program.{Program}
use Rattle.fac_lang.specs.Phrases.{held, Value, of_phrase}
use Rattle.fac_locals.specs.Frames.{template_phrase}
use Rattle.fac_locals.specs.declared.closing.Closed.{Closed}
use Rattle.fac_check.specs.CallableEffects.{callable_height}
use Rattle.fac_check.specs.TemplateEffects.{AreEffects}
use Rattle.fac_store.specs.CallableHeights.{height_there}
use Rattle.fac_code.specs.declared.image.Image.{Image}
use Rattle.fac_carry.specs.Agrees.{Agrees}
use Rattle.fac_carry.proofs.CarriedCode.{carries_by}
use Rattle.fac_carry.proofs.PlainIsCode.{plain_code_is_code}
use Rattle.fac_emit.specs.CarriedPrograms.{AgreesEach, StandsForEach}
use Rattle.fac_emit.specs.Heights.{HasHeights}
use Rattle.fac_emit.specs.ProgramCode.{IsPlain}
use Rattle.fac_judge.specs.TextImages.{AreEffectsIfAsked, IsMadeOf}
use Rattle.fac_judge.specs.JudgedPrograms.{StandsFor}

-- the effects of a closed program's templates are those of its callables
effects_there :
    (closed : Closed) (heights : List (Option Height)) (P : Program) (count : ℕ) → AreEffects closed heights → StandsFor closed P count → (q : ℕ) (t : Template) (vs : List Value) → slice_get closed.templates q ≡ Some t → length vs ≡ length t.captures + t.holes →
    callable_height P (of_phrase (template_phrase P q (map held vs))) ≡ height_there (slice_get heights q)
effects_there closed heights P count effects stands q t vs found many =
    let there = slice_get-get_or heights q None (subst (λ n. q < n) (sym effects.count) (slice_get_within closed.templates q t found)) in
    sym (effects.each q _ there P stands.closes stands.whole t vs found many) ∙ sym (ap height_there there)

has_heights : (closed : Closed) (heights : List (Option Height)) (P : Program) (count : ℕ) → AreEffectsIfAsked closed heights → StandsFor closed P count → HasHeights P closed heights (callable_height P)
has_heights closed heights P count effects stands = record {
  literal = λ asked. effects_there closed heights P count (effects asked) stands;
  curried = λ v c. refl;
  composed = λ c d. refl;
}

is_image :
    (closed : Closed) (heights : List (Option Height)) (M : Image) → AreEffectsIfAsked closed heights → AgreesEach closed heights M → StandsForEach closed M → IsPlain closed heights M → IsMadeOf closed M
is_image closed heights M effects agree stand plain =
    let agrees : (P : Program) (count : ℕ) → StandsFor closed P count → Agrees P (callable_height P) M =
    λ P count stands. agree P (callable_height P) stands.closes stands.whole (has_heights closed heights P count effects stands) in
    record {
      heights = heights;
      plain = plain;
      agrees = agrees;
      carries = λ P count stands. carries_by P (callable_height P) count M (agrees P count stands) (plain_code_is_code P M (stand P stands.closes stands.whole));
    }

pub if_image :
    (closed : Closed) (heights : List (Option Height)) (r : Result Image Memory) → AreEffectsIfAsked closed heights → IfOk r (AgreesEach closed heights) → IfOk r (StandsForEach closed) → IfOk r (IsPlain closed heights) → IfOk r (IsMadeOf closed)
if_image closed heights (Ok M) effects agree stand plain = is_image closed heights M effects agree stand plain
if_image closed heights (Err e) effects agree stand plain = tt
