use Rattle.std.proofs.Common.{◌≡◌, drop, map}
use Rattle.fac_explain.specs.Names.{is_token}
use Rattle.fac_explain.proofs.names.is_token.Given as goal

abbrev pub invariant-loop-word : goal.invariant-loop-word
invariant-loop-word l = is_token l.token (map (λ word. word.now) l.words) ≡ is_token l.token (map (λ word. word.now) (drop l.word-index l.words))
