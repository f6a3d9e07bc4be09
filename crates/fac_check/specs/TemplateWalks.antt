-- What the phrase of a template comes to by itself.
use Rattle.std.specs.Prelude.{◌≡◌, ◌+◌, ℕ, List, [], map, length, Option, Some, None, slice_get}
use Rattle.fac_base.specs.declared.height.Height.{Height}
use Rattle.fac_lang.specs.declared.phrase.Template.{Template}
use Rattle.fac_lang.specs.declared.program.Program.{Program}
use Rattle.fac_lang.specs.Phrases.{Phrase, held, Value}
use Rattle.fac_locals.specs.Frames.{template_phrase}
use Rattle.fac_locals.specs.declared.closing.Closed.{Closed}
use Rattle.fac_abs.specs.Marks.{AbstractStack, dead, on, unknowns}
use Rattle.fac_check.specs.Flow.{Walked, found, refused, walked}
use Rattle.fac_check.specs.CallableEffects.{forgotten, no_word}
use Rattle.fac_check.specs.Judged.{OfEach}

-- the walk of a phrase of no word from so many unknown values over no base
abbrev pub walked_alone : Program → ℕ → Phrase → Walked AbstractStack
walked_alone P i t = walked P None None no_word t None (unknowns i [])

-- so many values that it takes, and how many it leaves; none where it broke a rule
abbrev pub found_height : ℕ → Walked AbstractStack → Option Height
found_height i (found dead n) = Some (record { ins = i; outs = None })
found_height i (found (on b ms) n) = Some (record { ins = i; outs = Some (length ms) })
found_height i (refused r p) = None

-- That of the template with this number in each whole program for which the closed one stands, whatever values it holds in its cells.
abbrev pub IsFoundHeight : Closed → ℕ → ℕ → Option Height → Type 0
IsFoundHeight closed k i height =
    OfEach closed (λ P. (t : Template) (vs : List Value) → slice_get closed.templates k ≡ Some t → length vs ≡ length t.captures + t.holes → height ≡ found_height i (walked_alone P i (forgotten (template_phrase P k (map held vs)))))
