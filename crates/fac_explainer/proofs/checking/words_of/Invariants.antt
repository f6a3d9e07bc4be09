use Rattle.std.proofs.Common.{◌≡◌, ◌∷◌, map, take}
use Rattle.std.specs.Prelude.{codes, string_bytes}
use Rattle.fac_explainer.proofs.checking.words_of.Given as goal

abbrev pub invariant-loop-text : goal.invariant-loop-text
invariant-loop-text l = map string_bytes l.words.items ≡ codes "check" ∷ map (λ pair. pair.0) (take l.text-index l.given)
