use Rattle.std.proofs.Common.{◌≡◌, ◌<◌, ◌^◌, drop}
use Rattle.fac_command.specs.Command.{number_behind}
use Rattle.fac_command.proofs.command.number.Given as goal

-- what is left decides
abbrev pub invariant-loop-digit : goal.invariant-loop-digit
invariant-loop-digit l = record { same : number_behind 0 l.digits ≡ number_behind l.number (drop l.digit-index l.digits); small : l.number < 10 ^ l.digit-index }
