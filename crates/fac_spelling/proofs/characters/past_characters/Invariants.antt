use Rattle.fac_spelling.proofs.TextLaws.{Left}
use Rattle.fac_spelling.proofs.characters.past_characters.Given as goal
use Rattle.fac_spelling.specs.Texts.{characters}
use Rattle.fac_spelling.specs.inner.CharacterSteps.{rest_of}

abbrev pub invariant-loop-room : goal.invariant-loop-room
invariant-loop-room l = Left l.room l.rest (rest_of ((characters l.size l.size).read l.bytes))

abbrev pub decreases-loop-room : goal.decreases-loop-room
decreases-loop-room l = l.room
