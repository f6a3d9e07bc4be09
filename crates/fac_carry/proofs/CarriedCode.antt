-- An image whose tables agree with a program, and whose code stands for it, carries it.
use Rattle.std.proofs.Common.{ℕ, Option}
use Rattle.fac_base.specs.declared.height.Height.{Height}
use Rattle.fac_lang.specs.declared.program.Program.{Program}
use Rattle.fac_lang.specs.Phrases.{Callable}
use Rattle.fac_lang.specs.Meaning.{word_phrase}
use Rattle.fac_code.specs.declared.image.Image.{Image}
use Rattle.fac_carry.specs.MachineView.{template_phrases}
use Rattle.fac_carry.specs.Carries.{Carries}
use Rattle.fac_carry.specs.Agrees.{Agrees}
use Rattle.fac_carry.specs.Setting.{Setting}
use Rattle.fac_carry.specs.Expanded.{ExpandedCode}
use Rattle.fac_carry.proofs.CodeRuns.{code_runs}

-- whatever number of values it starts on
pub carries_by : (P : Program) (callable_height : Callable → Option Height) (count : ℕ) (M : Image) → Agrees P callable_height M → ExpandedCode P M → Carries P callable_height count M
carries_by P callable_height count M agrees code = record {
  same_end = λ stack w many values objects never n.
      let setting : Setting = record {
        program = P;
        callable_height = callable_height;
        image = M;
        texts = template_phrases P;
        named = agrees.named;
        words = agrees.words;
        literals = agrees.literals;
        curried = agrees.curried;
        composed = agrees.composed;
      } in
      code_runs setting code.called (word_phrase P P.top) M.start code.phrase stack w values objects never n;
  same_first = agrees.same_first;
  first_whole = agrees.first_whole;
  same_names = agrees.named;
  same_full_names = agrees.same_full_names;
}
