use Rattle.std.proofs.Common.{◌≡◌, map}
use Rattle.fac_names.specs.Resolution.{settled_draft}
use Rattle.fac_names.proofs.resolver.known_drafts.Given as goal

abbrev pub invariant-loop-word : goal.invariant-loop-word
invariant-loop-word l = l.drafts ≡ map settled_draft l.yielded
