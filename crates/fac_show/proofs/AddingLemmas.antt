-- Pieces that are added one behind the other.
use Rattle.std.proofs.Common.{◌≡◌, ◌<◌, ◌≤◌, ℕ, ◌+◌, List, [], ◌++◌, Ok, Err, length, ◌∙◌, arith, append_assoc, length-append}
use Rattle.std.specs.Prelude.{Result}
use Rattle.fac_show.specs.declared.show_fault.ShowFault.{ShowFault}
use Rattle.fac_show.specs.declared.show_fault.ShowFault.TheVariants.{TooLong, Memory}
use Rattle.fac_show.specs.Shown.{IsShown}
use Rattle.fac_show.specs.inner.Adding.{Adds}

-- the second piece after the first
pub adds_then : (limit : ℕ) (a p b q c : List ℕ) (u : Unit {0}) (r : Result (Unit {0}) ShowFault) → Adds limit a p b (Ok u) → Adds limit b q c r → Adds limit a (p ++ q) c r
adds_then limit a p b q c u (Ok v) h g = (rw (g.0, h.0) (append_assoc a p q), λ le. g.1 (h.1 le))
adds_then limit a p b q c u (Err TooLong) h g = rw (h.0, append_assoc a p q) at g
adds_then limit a p b q c u (Err Memory) h g = tt

-- no second piece
pub adds_stop : (limit : ℕ) (a p b c q : List ℕ) (e : ShowFault) → Adds limit a p b (Err e) → Adds limit a (p ++ q) c (Err e)
adds_stop limit a p b c q TooLong h = let first : limit < length a + length p = rw length-append at h in rw (length-append, length-append) (omega (arith, first))
adds_stop limit a p b c q Memory h = tt

-- what goes on within a longer piece
pub adds_within : (limit : ℕ) (a whole b p c d rest : List ℕ) (e : ShowFault) → Adds limit b p c (Err e) → (b ++ p) ++ rest ≡ a ++ whole → Adds limit a whole d (Err e)
adds_within limit a whole b p c d rest TooLong h same = let first : limit < length (b ++ p) = h in rw (← same) (rw length-append (omega (arith, first)))
adds_within limit a whole b p c d rest Memory h same = tt

-- a line that was empty
pub shown_of : (limit : ℕ) (form other new : List ℕ) (u : Unit {0}) → Adds limit [] form new (Ok u) → form ≡ other → IsShown limit other (Ok new)
shown_of limit form other new u h same = let le : length new ≤ limit = h.1 (omega arith) in (h.0 ∙ same, rw (← same) (rw h.0 at le))

pub not_shown : (limit : ℕ) (form other new : List ℕ) (e : ShowFault) → Adds limit [] form new (Err e) → form ≡ other → IsShown limit other (Err e)
not_shown limit form other new TooLong h same = rw same at h
not_shown limit form other new Memory h same = tt
