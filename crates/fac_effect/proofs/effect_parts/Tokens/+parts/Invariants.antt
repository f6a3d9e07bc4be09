use Rattle.std.proofs.Common.{◌≡◌, ◌≤◌, ◌*◌, ◌+◌, ◌∷◌, ◌++◌, List, length}
use Rattle.fac_base.specs.declared.place.Place.{Place}
use Rattle.fac_source.specs.declared.token.Token.{Token}
use Rattle.fac_effect.specs.declared.spelling.Spelling.TheVariants.{Name}
use Rattle.fac_effect.specs.Spellings.{plain_token, spelling_of}
use Rattle.fac_effect.specs.WrittenEffects.{Entries, entries_tokens}
use Rattle.fac_effect.specs.inner.EffectParts.{AreNamed}
use Rattle.fac_effect.proofs.PartLemmas.{Left}
use Rattle.fac_effect.proofs.effect_parts.Tokens.+parts.Given as goal

-- Entries go on behind their first token; an entry, the effect behind its name and the parts of that one begin where it does.
abbrev pub decreases-described : goal.decreases-described
decreases-described l = length l.self.now.tokens.now * 6 + 4

abbrev pub decreases-effect : goal.decreases-effect
decreases-effect l = length l.self.now.tokens.now * 6 + 3

abbrev pub decreases-entries : goal.decreases-entries
decreases-entries l = length l.self.now.tokens.now * 6

abbrev pub decreases-entry : goal.decreases-entry
decreases-entry l = length l.self.now.tokens.now * 6 + 5

abbrev pub decreases-opened : goal.decreases-opened
decreases-opened l = length l.self.now.tokens.now * 6 + 2

abbrev pub decreases-outs : goal.decreases-outs
decreases-outs l = length l.self.now.tokens.now * 6 + 1

abbrev pub invariant-entries-loop-token : goal.invariant-entries-loop-token
invariant-entries-loop-token l =
    (length l.self.tokens.now ≤ length l.initial.self.tokens.now)
    × ((es : Entries) (place : Place) (rest : List Token) → (spelling_of l.end ≡ Name → ⊥) → AreNamed es → l.initial.self.tokens.now ≡ entries_tokens es ++ plain_token place l.end ∷ rest → Left l.end es place rest l.inputs.items l.self.tokens.now)

abbrev pub decreases-entries-loop-token : goal.decreases-entries-loop-token
decreases-entries-loop-token l = length l.self.tokens.now
