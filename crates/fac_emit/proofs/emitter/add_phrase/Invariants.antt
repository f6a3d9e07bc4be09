use Rattle.std.proofs.Common.{◌≡◌, ◌++◌, length}
use Rattle.fac_lang.specs.PhraseView.{items_phrase}
use Rattle.fac_emit.specs.ProgramCode.{phrase_code}
use Rattle.fac_emit.proofs.emitter.add_phrase.Given as goal

abbrev pub invariant-items : goal.invariant-items
invariant-items l = l.initial.code ++ phrase_code l.emission l.last l.phrase ≡ l.code ++ phrase_code l.emission l.last (items_phrase l.rest)

abbrev pub decreases-items : goal.decreases-items
decreases-items l = length l.rest
