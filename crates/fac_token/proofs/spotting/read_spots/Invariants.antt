use Rattle.std.proofs.Common.{◌≡◌, drop, take, length, string_bytes}
use Rattle.std.specs.Str.{chars}
use Rattle.fac_token.specs.inner.TokenSteps.{held, hold_from}
use Rattle.fac_token.specs.inner.SpotSteps.{here_behind}
use Rattle.fac_token.proofs.StepLemmas.{whole}
use Rattle.fac_token.proofs.SpotLemmas.{Followed}
use Rattle.fac_token.proofs.spotting.read_spots.Given as goal

abbrev pub invariant-loop-c : goal.invariant-loop-c
invariant-loop-c l = record {
  followed : Followed (take (length l.yielded) (chars l.source)) l.tokens (string_bytes l.text) l.mode l.spots l.start;
  here : l.here ≡ here_behind (take (length l.yielded) (chars l.source));
  so_far : hold_from 0 l.here.at (held l.tokens (string_bytes l.text) l.mode) (drop (length l.yielded) (chars l.source)) ≡ whole 0 l.source;
}
