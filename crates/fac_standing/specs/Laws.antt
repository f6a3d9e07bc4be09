-- Laws of what a machine holds, behind its runs and in longer programs.
use Rattle.std.specs.Prelude.{◌≡◌, ◌≤◌, ℕ, List, length, drop, Option, Some, slice_get}
use Rattle.fac_base.specs.declared.height.Height.{Height}
use Rattle.fac_lang.specs.LongerPrograms.{IsLonger}
use Rattle.fac_lang.specs.Meaning.{with_arrays}
use Rattle.fac_lang.specs.Whole.{IsWhole}
use Rattle.fac_lang.specs.World.{Object, World}
use Rattle.fac_lang.specs.Phrases.{Value, Callable}
use Rattle.fac_lang.specs.declared.program.Program.{Program}
use Rattle.fac_check.specs.CallableEffects.{callable_height}
use Rattle.fac_check.specs.Promises.{Valid}
use Rattle.fac_code.specs.declared.image.Image.{Image}
use Rattle.fac_code.specs.declared.image.TemplateRow.{TemplateRow}
use Rattle.fac_store.specs.MachineValues.{MValue, MCallable}
use Rattle.fac_machine.specs.Machine.{End, Ends, starting, first_world, with_arrays as made_arrays}
use Rattle.fac_carry.specs.Carries.{Carries, IsNeverStuck, SameEnd, top_run}
use Rattle.fac_carry.specs.MachineView.{template_phrases, values_view, callable_view, world_view}
use Rattle.fac_carry.specs.WholeValues.{AllWhole, WholeObjects}
use Rattle.fac_standing.specs.Standing.{IsImageOf, ValuesStand, ObjectsStand, end_machine}

-- What stands is whole.
abbrev pub StandingValuesAreWhole : Type 0
StandingValuesAreWhole = (P : Program) (M : Image) (vs : List MValue) → ValuesStand P M vs → AllWhole P M vs

abbrev pub StandingObjectsAreWhole : Type 0
StandingObjectsAreWhole = (P : Program) (M : Image) (os : List (Object MValue)) → ObjectsStand P M os → WholeObjects P M os

-- A run from what stands comes to what stands, whatever its end.
pub record StandsAt (P : Program) (M : Image) (e : End) : Type 0 where
  pub values : ValuesStand P M (end_machine e).stack
  pub objects : ObjectsStand P M (end_machine e).world.objects

abbrev pub RunsKeepStanding : Type 0
RunsKeepStanding =
    (P : Program) (M : Image) → IsImageOf P M → (stack : List MValue) (w : World MValue) → ValuesStand P M stack → ObjectsStand P M w.objects → (n : ℕ) (e : End) → Ends M (starting M stack w) n e → StandsAt P M e

-- The literal arrays of an image stand before the first run.
abbrev pub FirstArraysStand : Type 0
FirstArraysStand = (P : Program) (M : Image) → IsImageOf P M → (input : List ℕ) → ObjectsStand P M (first_world M input).objects

-- A longer program, with the image of each.
pub record AreLonger (P Q : Program) (M N : Image) : Type 0 where
  pub longer : IsLonger P Q
  pub of_first : IsImageOf P M
  pub of_second : IsImageOf Q N

-- Whole values stand for the same in the longer program,
abbrev pub ValuesStayTheSame : Type 0
ValuesStayTheSame = (P Q : Program) (M N : Image) → AreLonger P Q M N → (vs : List MValue) → AllWhole P M vs → values_view (template_phrases Q) vs ≡ values_view (template_phrases P) vs

-- and so do worlds with whole objects.
abbrev pub WorldsStayTheSame : Type 0
WorldsStayTheSame = (P Q : Program) (M N : Image) → AreLonger P Q M N → (w : World MValue) → WholeObjects P M w.objects → world_view (template_phrases Q) w ≡ world_view (template_phrases P) w

-- What stands in the program stands in the longer one.
abbrev pub ValuesStandLonger : Type 0
ValuesStandLonger = (P Q : Program) (M N : Image) → AreLonger P Q M N → (vs : List MValue) → ValuesStand P M vs → ValuesStand Q N vs

abbrev pub ObjectsStandLonger : Type 0
ObjectsStandLonger = (P Q : Program) (M N : Image) → AreLonger P Q M N → (os : List (Object MValue)) → ObjectsStand P M os → ObjectsStand Q N os

-- The literal arrays that the longer program has beside those of the first, made behind all that is there, are those of its image, and stand there.
abbrev pub NewArraysAreTheSame : Type 0
NewArraysAreTheSame =
    (P Q : Program) (M N : Image) → AreLonger P Q M N → (w : World MValue) → WholeObjects P M w.objects →
    world_view (template_phrases Q) (made_arrays N (drop (length M.arrays) N.arrays) w) ≡ with_arrays Q (length P.arrays) (drop (length P.arrays) Q.arrays) (world_view (template_phrases P) w)

abbrev pub NewArraysStand : Type 0
NewArraysStand = (P Q : Program) (M N : Image) → AreLonger P Q M N → (w : World MValue) → ObjectsStand P M w.objects → ObjectsStand Q N (made_arrays N (drop (length M.arrays) N.arrays) w).objects

-- The world behind a valid one is valid in the longer program.
abbrev pub ValidStays : Type 0
ValidStays = (P Q : Program) → IsLonger P Q → (w : World Value) → Valid P w → Valid Q (with_arrays Q (length P.arrays) (drop (length P.arrays) Q.arrays) w)

-- So where the longer image carries the longer program, a run from what stood in the first, with the new arrays made behind it, ends as the meaning of the longer
-- program does from what that stood for in the first; and what is held behind it stands.
abbrev pub LongerRunsAreTheSame : Type 0
LongerRunsAreTheSame =
    (P Q : Program) (M N : Image) → AreLonger P Q M N → (effects : Callable → Option Height) (count : ℕ) → Carries Q effects count N → (stack : List MValue) (w : World MValue) → length stack ≡ count → ValuesStand P M stack → ObjectsStand P M w.objects →
    IsNeverStuck (top_run Q effects (values_view (template_phrases P) stack) (with_arrays Q (length P.arrays) (drop (length P.arrays) Q.arrays) (world_view (template_phrases P) w))) → (n : ℕ) → (e : End) × Ends N (starting N stack (made_arrays N (drop (length M.arrays) N.arrays) w)) n e
    × SameEnd (template_phrases Q) (top_run Q effects (values_view (template_phrases P) stack) (with_arrays Q (length P.arrays) (drop (length P.arrays) Q.arrays) (world_view (template_phrases P) w)) n) e × StandsAt Q N e

-- The image of the longer program has the templates of the first one's, each with as many cells and holes, and its literal arrays, and perhaps others behind them.
pub record RowStays (N : Image) (q : ℕ) (r : TemplateRow) : Type 0 where
  pub row : TemplateRow
  pub there : slice_get N.templates q ≡ Some row
  pub cells : row.cells ≡ r.cells
  pub holes : row.holes ≡ r.holes

pub record ImageGoesOn (M N : Image) : Type 0 where
  pub templates : (q : ℕ) (r : TemplateRow) → slice_get M.templates q ≡ Some r → RowStays N q r
  pub more_templates : length M.templates ≤ length N.templates
  pub more_arrays : length M.arrays ≤ length N.arrays

abbrev pub ImagesGoOn : Type 0
ImagesGoOn = (P Q : Program) (M N : Image) → AreLonger P Q M N → ImageGoesOn M N

-- Each callable of the machine has the effect that it had, or none as before.
abbrev pub CallableEffectsStay : Type 0
CallableEffectsStay = (P Q : Program) → IsWhole P → IsWhole Q → IsLonger P Q → (c : MCallable) → callable_height Q (callable_view (template_phrases P) c) ≡ callable_height P (callable_view (template_phrases P) c)
