-- Code runs as the phrase for which it stands.
use Rattle.std.proofs.Common.{◌≢◌}
use Rattle.fac_base.specs.HeightArithmetic.{fits}
use Rattle.fac_lang.specs.Eval.{Result, Done, Failed, Spent, Stuck}
use Rattle.fac_lang.specs.Meaning.{run}
use Rattle.fac_lang.specs.RunningLaws.{IsNotStuck}
use Rattle.fac_carry.specs.MachineView.{state_view}
use Rattle.fac_carry.specs.CodeLaws.{CodeRunsAsItsPhrase}
use Rattle.fac_carry.proofs.Simulation.{carried}

not_stuck : (r : Result) → IsNotStuck r → r ≢ Stuck
not_stuck (Done st m) h e = cc
not_stuck (Failed x st m) h e = cc
not_stuck (Spent st i) h e = cc
not_stuck Stuck h e = absurd h

pub code_runs : CodeRunsAsItsPhrase
code_runs Y each t place code stack w values objects never n =
    carried Y each place t code stack w (record { cells = tt; held = tt; values = values; objects = objects }) (λ m. not_stuck (run Y.program fits Y.callable_height m t (state_view Y.texts stack w)) (never m)) n
