use Rattle.std.proofs.Common.{◌≡◌, length}
use Rattle.std.specs.List.{list_any}
use Rattle.fac_vocab.specs.Scopes.{is_companion_of}
use Rattle.fac_vocab.proofs.text_set.TextSet.has_stem_of.Given as goal
use denote.Shadow.{shadow}
use denote.Text.{Utf8}

abbrev pub invariant-loop-rest : goal.invariant-loop-rest
invariant-loop-rest l = (list_any (λ stem. is_companion_of stem l.text) l.self ≡ list_any (λ stem. is_companion_of stem l.rest) l.self) × shadow (Utf8 l.rest)

abbrev pub decreases-loop-rest : goal.decreases-loop-rest
decreases-loop-rest l = length l.rest
