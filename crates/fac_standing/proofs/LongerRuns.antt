-- A run of a longer image, from what stood in the program of a shorter one.
use Rattle.std.proofs.Common.{◌≡◌, ℕ, List, length, Option, sym, ap, subst, ◌∙◌}
use Rattle.std.specs.Prelude.{drop}
use Rattle.fac_base.specs.declared.height.Height.{Height}
use Rattle.fac_lang.specs.Eval.{Result}
use Rattle.fac_lang.specs.Meaning.{with_arrays}
use Rattle.fac_lang.specs.Phrases.{Value, Callable}
use Rattle.fac_lang.specs.RunningLaws.{IsNotStuck}
use Rattle.fac_lang.specs.World.{World}
use Rattle.fac_lang.specs.declared.program.Program.{Program}
use Rattle.fac_code.specs.declared.image.Image.{Image}
use Rattle.fac_store.specs.MachineValues.{MValue}
use Rattle.fac_machine.specs.Machine.{with_arrays as made_arrays}
use Rattle.fac_carry.specs.Carries.{Carries, IsNeverStuck, SameEnd, top_run}
use Rattle.fac_carry.specs.MachineView.{template_phrases, values_view, world_view}
use Rattle.fac_standing.specs.Standing.{ValuesStand, ObjectsStand}
use Rattle.fac_standing.specs.Laws.{AreLonger, LongerRunsAreTheSame}
use Rattle.fac_standing.proofs.StandingArrays.{new_same, new_stand}
use Rattle.fac_standing.proofs.StandingRuns.{runs_keep}
use Rattle.fac_standing.proofs.StandingViews.{values_whole, objects_whole, values_same, values_stand}

module _ (P Q : Program) (M N : Image) (L : AreLonger P Q M N) (effects : Callable → Option Height) (stack : List MValue) (w : World MValue) (values : ValuesStand P M stack) (objects : ObjectsStand P M w.objects) where
  abbrev made : World MValue
  made = made_arrays N (drop (length M.arrays) N.arrays) w

  abbrev meant : World Value
  meant = with_arrays Q (length P.arrays) (drop (length P.arrays) Q.arrays) (world_view (template_phrases P) w)

  abbrev first : ℕ → Result
  first n = top_run Q effects (values_view (template_phrases P) stack) meant n

  abbrev second : ℕ → Result
  second n = top_run Q effects (values_view (template_phrases Q) stack) (world_view (template_phrases Q) made) n

  run_same : (n : ℕ) → second n ≡ first n
  run_same n =
      ap (λ (vs : List Value). top_run Q effects vs (world_view (template_phrases Q) made) n) (values_same P Q M N L stack (values_whole P M stack values))
      ∙ ap (λ (x : World Value). top_run Q effects (values_view (template_phrases P) stack) x n) (new_same P Q M N L w (objects_whole P M w.objects objects))

  never_stuck : IsNeverStuck first → IsNeverStuck second
  never_stuck h = λ m. subst (λ (r : Result). IsNotStuck r) (sym (run_same m)) (h m)

pub longer_runs : LongerRunsAreTheSame
longer_runs P Q M N L effects count carries stack w many values objects never n =
    let stands = values_stand P Q M N L stack values in
    let there = new_stand P Q M N L w objects in
    let made = made_arrays N (drop (length M.arrays) N.arrays) w in
    let run = carries.same_end stack made many (values_whole Q N stack stands) (objects_whole Q N made.objects there) (never_stuck P Q M N L effects stack w values objects never) n in
    (run.0, run.1, subst (λ (r : Result). SameEnd (template_phrases Q) r run.0) (run_same P Q M N L effects stack w values objects n) run.2, runs_keep Q N L.of_second stack made stands there n run.0 run.1)
