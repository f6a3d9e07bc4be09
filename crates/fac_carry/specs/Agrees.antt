-- What an image's tables say of its program, wherever its code stands.
use Rattle.std.specs.Prelude.{◌≡◌, ◌+◌, ℕ, List, length, Option, Some, slice_get}
use Rattle.fac_base.specs.declared.height.Height.{Height}
use Rattle.fac_base.specs.HeightArithmetic.{curried_height, composed_height, fits}
use Rattle.fac_lang.specs.declared.program.Program.{Program}
use Rattle.fac_lang.specs.Phrases.{Value, Callable, of_phrase, cur, both}
use Rattle.fac_lang.specs.Meaning.{names, start, word_fits}
use Rattle.fac_code.specs.declared.image.Image.{Image}
use Rattle.fac_code.specs.declared.image.TemplateRow.{TemplateRow}
use Rattle.fac_code.specs.ImageNames.{image_names}
use Rattle.fac_machine.specs.Machine.{first_world, fits_in, row_height}
use Rattle.fac_carry.specs.MachineView.{template_phrases, world_view}
use Rattle.fac_carry.specs.TestedCalls.{TestsCallables}
use Rattle.fac_carry.specs.WholeValues.{WholeObjects}
use Rattle.fac_carry.specs.Carries.{image_full_name, full_name_of}

-- An image and a program, where callables have these effects.
pub record Agrees (P : Program) (callable_height : Callable → Option Height) (M : Image) : Type 0 where
  -- The image has the program's words, each with its vocabulary and its name, and says of words and kinds what the program says.
  pub named : image_names M ≡ names P
  pub same_full_names : (w : ℕ) → image_full_name M w ≡ full_name_of P w
  -- It tests words as the program does, where its code tests callables it has the effects of literals, and those of other callables go by arithmetic.
  pub words : (w : ℕ) (h : Height) → fits_in h (row_height (slice_get M.words w)) ≡ word_fits P fits h w
  pub literals :
      TestsCallables M → (q : ℕ) (r : TemplateRow) (vs : List Value) → slice_get M.templates q ≡ Some r → length vs ≡ length r.cells + r.holes → callable_height (of_phrase (template_phrases P q vs)) ≡ r.height
  pub curried : (v : Value) (c : Callable) → callable_height (cur v c) ≡ curried_height (callable_height c)
  pub composed : (c d : Callable) → callable_height (both c d) ≡ composed_height (callable_height c) (callable_height d)
  -- Its literal arrays, as they are made, stand for those of the program before its first item, and their callables are of the image's templates.
  pub same_first : (input : List ℕ) → world_view (template_phrases P) (first_world M input) ≡ (start P input).world
  pub first_whole : (input : List ℕ) → WholeObjects P M (first_world M input).objects
