-- That code runs as the phrase for which it stands.
use Rattle.std.specs.Prelude.{ℕ, zero, List, [], ◌∷◌, Some, None}
use Rattle.fac_base.specs.HeightArithmetic.{fits}
use Rattle.fac_lang.specs.Phrases.{Phrase}
use Rattle.fac_lang.specs.World.{World}
use Rattle.fac_lang.specs.Meaning.{run}
use Rattle.fac_code.specs.declared.image.Instr.TheVariants.{Halt}
use Rattle.fac_store.specs.MachineValues.{MValue}
use Rattle.fac_machine.specs.Machine.{Machine, End, Ends}
use Rattle.fac_carry.specs.MachineView.{state_view}
use Rattle.fac_carry.specs.WholeValues.{AllWhole, WholeObjects}
use Rattle.fac_carry.specs.Symbols.{do_phrase}
use Rattle.fac_carry.specs.Expanded.{Code, EachCalled}
use Rattle.fac_carry.specs.Setting.{Setting}
use Rattle.fac_carry.specs.Carries.{SameEnd, IsNeverStuck}

-- a machine that begins at a place, with no frame, and nothing held or called
abbrev pub beginning : ℕ → List MValue → World MValue → Machine
beginning place stack w = record { pc = place; job = None; stack = stack; retain = []; returns = []; frame = []; world = w }

-- Where each word, method and template that is called has the code of its phrase, and at a place stands code of a phrase that ends in `halt`: from there, on whole values and at
-- every budget, the machine ends as that phrase does, tick for tick, where the phrase is stuck at no budget.
abbrev pub CodeRunsAsItsPhrase : Type 0
CodeRunsAsItsPhrase =
    (Y : Setting) → EachCalled Y.program Y.image Y.texts → (t : Phrase) (place : ℕ) → Code Y.program Y.image Y.texts [] (Some Halt) [] zero [] (do_phrase t ∷ []) place →
    (stack : List MValue) (w : World MValue) → AllWhole Y.program Y.image stack → WholeObjects Y.program Y.image w.objects → IsNeverStuck (λ m. run Y.program fits Y.callable_height m t (state_view Y.texts stack w)) →
    (n : ℕ) → (e : End) × Ends Y.image (beginning place stack w) n e × SameEnd Y.texts (run Y.program fits Y.callable_height n t (state_view Y.texts stack w)) e
