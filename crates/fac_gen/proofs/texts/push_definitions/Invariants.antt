use Rattle.std.proofs.Common.{◌≡◌, ◌<◌, ◌++◌}
use Rattle.fac_gen.specs.Generated.{definitions, state_of}
use Rattle.fac_gen.proofs.texts.push_definitions.Given as goal

-- the definitions so far, and the state behind them
abbrev pub invariant-loop-k : goal.invariant-loop-k
invariant-loop-k l = record { same : l.text ≡ l.initial.text ++ definitions l.fn.seed l.k; state : l.state ≡ state_of l.fn.seed l.k; within : l.state < 4294967296 }
