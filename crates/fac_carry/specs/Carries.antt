-- When an image carries a program: its machine ends as the program does.
use Rattle.std.specs.Prelude.{◌≡◌, ℕ, List, length, Option, Some, None, slice_get}
use Rattle.fac_base.specs.declared.height.Height.{Height}
use Rattle.fac_lang.specs.declared.program.Program.{Program}
use Rattle.fac_lang.specs.Phrases.{Value, Callable}
use Rattle.fac_lang.specs.World.{World}
use Rattle.fac_base.specs.HeightArithmetic.{fits}
use Rattle.fac_lang.specs.Eval.{Result, Done, Failed, Spent}
use Rattle.fac_lang.specs.Meaning.{run, start, word_phrase, names}
use Rattle.fac_lang.specs.RunningLaws.{IsNotStuck}
use Rattle.fac_code.specs.declared.image.Image.{Image}
use Rattle.fac_code.specs.Images.{tables_of}
use Rattle.fac_code.specs.ImageNames.{text_of, image_names}
use Rattle.fac_store.specs.MachineValues.{MValue}
use Rattle.fac_machine.specs.Machine.{End, done, failed, spent, Ends, starting, first_world}
use Rattle.fac_carry.specs.MachineView.{Templates, template_phrases, values_view, state_view, world_view, error_view}
use Rattle.fac_carry.specs.WholeValues.{AllWhole, WholeObjects}

-- The same end, where T has the phrases of the templates. A stuck run and a trap are the same as nothing.
abbrev pub SameEnd : Templates → Result → End → Type 0
SameEnd T (Done st m) (done s left) = (state_view T s.stack s.world ≡ st) × (left ≡ m)
SameEnd T (Failed e st m) (failed x s left) = (error_view T x ≡ e) × (world_view T s.world ≡ st.world) × (left ≡ m)
SameEnd T (Spent st i) (spent s) = world_view T s.world ≡ st.world
SameEnd T _ _ = ⊥

-- what the top-level phrase comes to with n ticks, from these values in this world, where callables have these effects
abbrev pub top_run : Program → (Callable → Option Height) → List Value → World Value → ℕ → Result
top_run P callable_height values w n = run P fits callable_height n (word_phrase P P.top) (record { stack = values; world = w })

-- a run that is stuck at no budget
abbrev pub IsNeverStuck : (ℕ → Result) → Type 0
IsNeverStuck go = (m : ℕ) → IsNotStuck (go m)

-- the vocabulary and the name of a word, as an image and as a program has them
abbrev pub image_full_name : Image → ℕ → Option (List ℕ × List ℕ)
image_full_name M w = elim (slice_get M.words w) [ Some r ↦ Some (text_of (tables_of M) r.vocab, text_of (tables_of M) r.name) | None ↦ None ]

abbrev pub full_name_of : Program → ℕ → Option (List ℕ × List ℕ)
full_name_of P w = elim (slice_get P.words w) [ Some d ↦ Some (d.name.vocab, d.name.name) | None ↦ None ]

pub record Carries (P : Program) (callable_height : Callable → Option Height) (count : ℕ) (M : Image) : Type 0 where
  -- From every list of so many values and in every world, whose callables are of the image's templates and whose words are no top-level phrases, and at every
  -- budget, where the top-level phrase is stuck at no budget from the values and in the world for which these stand: the machine ends as that phrase does. Done:
  -- with the same stack and ticks. Failed: with the same error and ticks. Spent too: with the same objects, output and input left.
  pub same_end :
      (stack : List MValue) (w : World MValue) → length stack ≡ count → AllWhole P M stack → WholeObjects P M w.objects → IsNeverStuck (top_run P callable_height (values_view (template_phrases P) stack) (world_view (template_phrases P) w)) →
      (n : ℕ) → (e : End) × Ends M (starting M stack w) n e × SameEnd (template_phrases P) (top_run P callable_height (values_view (template_phrases P) stack) (world_view (template_phrases P) w) n) e
  -- The image's literal arrays, as they are made, stand for those of the program before its first item, and their callables are of the image's templates.
  pub same_first : (input : List ℕ) → world_view (template_phrases P) (first_world M input) ≡ (start P input).world
  pub first_whole : (input : List ℕ) → WholeObjects P M (first_world M input).objects
  -- What the image says of words and kinds is what the program says, so that printed forms are alike.
  pub same_names : image_names M ≡ names P
  -- The image has the program's words, each with its vocabulary and its name.
  pub same_full_names : (w : ℕ) → image_full_name M w ≡ full_name_of P w
