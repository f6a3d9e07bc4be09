-- The listing of an image is written.
use Rattle.std.proofs.Common.{◌≡◌, ◌<◌, ℕ, List, [], None, Some, length, refl, sym, subst, arith, length-append}
use Rattle.fac_io.specs.Faults.{Rose}
use Rattle.std.specs.declared.option.Option.{Option}
use Rattle.fac_io.specs.Told.{Stays, TookWhole, TookFront}
use Rattle.fac_code.specs.declared.image.Image.{Image}
use Rattle.fac_spelling.specs.Whole.{Spells}
use Rattle.fac_bytes.specs.ImageBytes.{image as image_format, parts_of}
use Rattle.fac_bytes.specs.Listings.{listing}
use Rattle.fac_tool.specs.declared.ended.Ended.{Ended}
use Rattle.fac_tool.specs.SeenObjects.{SinkSeen, InputSeen, OnInput, IsUnread}
use Rattle.fac_tool.specs.Ends.{EndsAs, idle}
use Rattle.fac_tool.specs.Executed.{DoesOnBytes, decoded, listed, listed_answer}
use Rattle.fac_tool.specs.inner.StepEnds.{bare}

some_line : (M : Image) → 0 < length (listing M)
some_line M = rw length-append (omega arith)

pub listed_whole : (M : Image) (text : List ℕ) (out : SinkSeen) (ended : Ended) → text ≡ listing M → ended ≡ bare 0 0 → TookWhole out.before out.now text → (input : List ℕ) (seen : InputSeen) → EndsAs (listed_answer M input) idle out seen input ended
listed_whole M text out ended is e took input seen =
    let whole : TookWhole out.before out.now (listing M) = subst (λ (xs : List ℕ). TookWhole out.before out.now xs) is took in
    subst (λ (x : Ended). EndsAs (listed_answer M input) idle out seen input x) (sym e) (record { status = refl; ticks = refl; stack = refl; refusal = refl; output = whole.taken; rest = refl }, whole.pieces)

pub listed_in_part :
    (M : Image) (text : List ℕ) (out : SinkSeen) (ended : Ended) → text ≡ listing M → ended ≡ bare 10 0 → Rose out.faults_before out.faults_now → TookFront out.before out.now text → (input : List ℕ) (seen : InputSeen) → EndsAs (listed_answer M input) idle out seen input ended
listed_in_part M text out ended is e rose took input seen =
    let part : TookFront out.before out.now (listing M) = subst (λ (xs : List ℕ). TookFront out.before out.now xs) is took in
    subst (λ (x : Ended). EndsAs (listed_answer M input) idle out seen input x) (sym e) (rose, record { stack = refl; refusal = refl }, (refl, some_line M, part))

-- of an input of which nothing was taken all is left
unread_on : (before now : Option (List ℕ)) (m n : ℕ) {Holds : List ℕ → List ℕ → Type 0} → Stays before now → ((input : List ℕ) → Holds input input) → OnInput (record { before = before; now = now; faults_before = m; faults_now = n }) Holds
unread_on None now m n still h = record { input = []; left = []; is_input = tt; holds = h [] }
unread_on (Some xs) None m n still h = absurd still
unread_on (Some xs) (Some ys) m n still h = record { input = xs; left = xs; is_input = (refl, still); holds = h xs }

-- so the listing is that of the bytes, with all of the input left
pub lists_unread :
    (bytes : List ℕ) (M : Image) (out : SinkSeen) (ended : Ended) (seen : InputSeen) → IsUnread seen → Spells image_format bytes (parts_of M) → ((input : List ℕ) → EndsAs (listed_answer M input) idle out seen input ended) → DoesOnBytes listed bytes seen out ended
lists_unread bytes M out ended seen unread spelled ends =
    decoded M spelled (unread_on seen.before seen.now seen.faults_before seen.faults_now unread.left (λ input. record { ends = ends input; unread = unread }))
