-- The answer of `check`.
use Rattle.std.proofs.Common.{◌≡◌, ◌<◌, ℕ, List, length, refl, sym, subst, arith}
use Rattle.fac_io.specs.Faults.{Rose}
use Rattle.fac_io.specs.Told.{TookWhole, TookFront}
use Rattle.fac_tool.specs.declared.ended.Ended.{Ended}
use Rattle.fac_tool.specs.Answer.{checked_line, checked_answer}
use Rattle.fac_tool.specs.SeenObjects.{SinkSeen, InputSeen}
use Rattle.fac_tool.specs.Ends.{EndsAs, idle}
use Rattle.fac_tool.specs.inner.StepEnds.{bare}

some_line : (count : ℕ) → 0 < length (checked_line count)
some_line count = omega arith

pub checked : (count : ℕ) (line : List ℕ) (out : SinkSeen) (ended : Ended) → line ≡ checked_line count → ended ≡ bare 0 0 → TookWhole out.before out.now line → (input : List ℕ) (seen : InputSeen) → EndsAs (checked_answer count input) idle out seen input ended
checked count line out ended is e took input seen =
    let whole : TookWhole out.before out.now (checked_line count) = subst (λ (xs : List ℕ). TookWhole out.before out.now xs) is took in
    subst (λ (x : Ended). EndsAs (checked_answer count input) idle out seen input x) (sym e) (record { status = refl; ticks = refl; stack = refl; refusal = refl; output = whole.taken; rest = refl }, whole.pieces)

pub checked_in_part :
    (count : ℕ) (line : List ℕ) (out : SinkSeen) (ended : Ended) → line ≡ checked_line count → ended ≡ bare 10 0 → Rose out.faults_before out.faults_now → TookFront out.before out.now line → (input : List ℕ) (seen : InputSeen) →
    EndsAs (checked_answer count input) idle out seen input ended
checked_in_part count line out ended is e rose took input seen =
    let part : TookFront out.before out.now (checked_line count) = subst (λ (xs : List ℕ). TookFront out.before out.now xs) is took in
    subst (λ (x : Ended). EndsAs (checked_answer count input) idle out seen input x) (sym e) (rose, record { stack = refl; refusal = refl }, (refl, some_line count, part))
