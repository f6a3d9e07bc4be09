use Rattle.std.proofs.Common.{◌≡◌, ◌+◌, drop, length, [], string_bytes}
use Rattle.std.specs.Str.{chars}
use Rattle.fac_token.specs.declared.scanner.Mode.TheVariants.{Between}
use Rattle.fac_token.specs.inner.TokenSteps.{held, hold_from}
use Rattle.fac_token.proofs.StepLemmas.{size}
use Rattle.fac_token.proofs.scanner.read.Given as goal

abbrev pub invariant-loop-c : goal.invariant-loop-c
invariant-loop-c l = record {
  so_far : hold_from l.file l.at (held l.tokens (string_bytes l.text) l.mode) (drop (length l.yielded) (chars l.source)) ≡ hold_from l.file 0 (held [] [] Between) (chars l.source);
  offset : l.at + size (drop (length l.yielded) (chars l.source)) ≡ length l.source;
}
