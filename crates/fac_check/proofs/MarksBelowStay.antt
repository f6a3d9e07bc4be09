-- Marks below a stack stay below what a walk finds, by the walk of the raised stack.
use Rattle.std.proofs.Common.{◌≡◌, ℕ, List, [], ◌∷◌, ◌++◌, refl, ap, ◌∙◌}
use Rattle.fac_lang.specs.Phrases.{Mark}
use Rattle.fac_abs.specs.Marks.{AbstractStack, on}
use Rattle.fac_check.specs.Flow.{Walked, found}
use Rattle.fac_check.specs.MarksBelow.{with_below, MarksBelowStay}
use Rattle.fac_check.proofs.RaisedWalks.{Raised, r_below, r_mark, RaisedStack, t_dead, t_on, Follows, w_found, w_refused, walk_follows}

-- marks on others are raised by them, and by nothing else
on_below : (ms below : List Mark) → Raised below ms (ms ++ below)
on_below [] below = r_below
on_below (m ∷ ms) below = r_mark (on_below ms below)

raised_is : {below ms ns : List Mark} → Raised below ms ns → ns ≡ ms ++ below
raised_is r_below = refl
raised_is (r_mark {m} h) = ap (λ (t : List Mark). m ∷ t) (raised_is h)

stack_is : {below : List Mark} {A B : AbstractStack} → RaisedStack below A B → B ≡ with_below below A
stack_is t_dead = refl
stack_is (t_on {b} h) = ap (on b) (raised_is h)

-- what the second walk finds
found_below : {below : List Mark} {V W : Walked AbstractStack} {A : AbstractStack} {n : ℕ} → Follows (RaisedStack below) V W → V ≡ found A n → W ≡ found (with_below below A) n
found_below {below} {V} {W} {A} {n} (w_found {a = a} {b = b} {n = k} h) e =
    let stack : a ≡ A = cc in
    let left : k ≡ n = cc in
    ap (λ (C : AbstractStack). found C k) (stack_is h ∙ ap (with_below below) stack) ∙ ap (found (with_below below A)) left
found_below w_refused e = absurd cc

pub marks_below_stay : MarksBelowStay
marks_below_stay = λ P steps nested left rest at t b ms below A e. found_below (walk_follows P steps below at nested t b ms (ms ++ below) left (on_below ms below)) e
