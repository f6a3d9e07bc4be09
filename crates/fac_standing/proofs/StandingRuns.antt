-- Runs keep what stands.
use Rattle.std.proofs.Common.{◌≡◌, ℕ, List}
use Rattle.fac_lang.specs.declared.program.Program.{Program}
use Rattle.fac_lang.specs.World.{World}
use Rattle.fac_code.specs.declared.image.Image.{Image}
use Rattle.fac_store.specs.MachineValues.{MValue}
use Rattle.fac_machine.specs.Machine.{End, Ends, starting}
use Rattle.fac_standing.specs.Standing.{IsImageOf, Spares, ValuesStand, ObjectsStand, end_machine}
use Rattle.fac_standing.specs.Laws.{RunsKeepStanding}
use Rattle.fac_standing.proofs.SparedCode.{pushed_named}
use Rattle.fac_standing.proofs.StandingSteps.{Fine, ends_fine}

module _ (P : Program) (M : Image) (is : IsImageOf P M) (stack : List MValue) (w : World MValue) (values : ValuesStand P M stack) (objects : ObjectsStand P M w.objects) (n : ℕ) (e : End) (ends : Ends M (starting M stack w) n e) where
  fine_at_end : (R : Program) → Spares P R → Fine R M (end_machine e)
  fine_at_end R spares = ends_fine R M (λ k a there. spares a (pushed_named P M is k a there)) (starting M stack w) n e (values R spares, tt, tt, tt, objects R spares) tt ends

pub runs_keep : RunsKeepStanding
runs_keep P M is stack w values objects n e ends = record {
  values = λ R spares. (fine_at_end P M is stack w values objects n e ends R spares).0;
  objects = λ R spares. (fine_at_end P M is stack w values objects n e ends R spares).4;
}
