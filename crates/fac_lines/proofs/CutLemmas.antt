-- Lines that are cut out of a front and a piece.
use Rattle.std.proofs.Common.{◌≡◌, ℕ, ◌+◌, ◌-◌, ◌<◌, ◌≤◌, List, [], ◌∷◌, ◌++◌, length, take, drop, refl, ap, sym, ◌∙◌, subst, arith, Some, None, Ok, Err, length-append, length-drop}
use Rattle.std.proofs.Math.Seq.{take-append-add, drop-append-add, take-length}
use Rattle.std.proofs.lemmas.List.{take-append-le, drop-append-le, length-take-le}
use Rattle.fac_lines.specs.declared.line_fault.LineFault.TheVariants as fault
use Rattle.fac_base.specs.declared.limits.TheConstants.{MOST_LINE_BYTES}
use Rattle.fac_lines.specs.LineReads.{line_length, Line, LineTooLong, line_within, line_of, IsFront}
use Rattle.fac_lines.specs.inner.Cutting.{Cuts, CutsRest}
use Rattle.fac_lines.proofs.LineLemmas.{length_most, length_joined, length_cut, length_before, no_line, short_line, long_line, more_behind, drop_past}

-- the front with what stands before the first newline of a piece
pub front_joined : (front piece joined : List ℕ) (count : ℕ) → IsFront front → count ≡ line_length piece → length front + count ≤ MOST_LINE_BYTES → joined ≡ front ++ take count piece → IsFront joined
front_joined front piece joined count f e l j =
    let size : length (take (line_length piece) piece) ≡ line_length piece = length-take-le (line_length piece) piece (length_most piece) in
    let part : line_length (take (line_length piece) piece) ≡ length (take (line_length piece) piece) = length_before piece ∙ sym size in
    let all : length (front ++ take (line_length piece) piece) ≡ length front + line_length piece = length-append front (take (line_length piece) piece) ∙ ap (λ n. length front + n) size in
    rw (j, e) (record {
      no_newline = length_joined front (take (line_length piece) piece) f.no_newline ∙ ap (λ n. length front + n) part ∙ sym (length-append front (take (line_length piece) piece));
      most = rw all (rw (← e) l);
    })

-- a newline of the piece ends the line
line_found : (most : ℕ) (front piece behind : List ℕ) → line_length front ≡ length front → line_length piece < length piece → length front + line_length piece ≤ most → line_within most ((front ++ piece) ++ behind) ≡ Line (front ++ take (line_length piece) piece) (drop (line_length piece + 1) piece ++ behind)
line_found most front piece behind f h l =
    let both : length (front ++ piece) ≡ length front + length piece = length-append front piece in
    let joined : line_length (front ++ piece) ≡ length front + line_length piece = length_joined front piece f in
    let n : line_length ((front ++ piece) ++ behind) ≡ length front + line_length piece = length_cut (front ++ piece) behind (omega arith) ∙ joined in
    let taken : take (length front + line_length piece) ((front ++ piece) ++ behind) ≡ front ++ take (line_length piece) piece = take-append-le (length front + line_length piece) (front ++ piece) behind (omega arith) ∙ take-append-add front piece (line_length piece) in
    let sum : length front + line_length piece + 1 ≡ length front + (line_length piece + 1) = omega arith in
    let left : drop (length front + line_length piece + 1) ((front ++ piece) ++ behind) ≡ drop (line_length piece + 1) piece ++ behind = drop-append-le (length front + line_length piece + 1) (front ++ piece) behind (omega arith) ∙ ap (λ (t : List ℕ). t ++ behind) (ap (λ k. drop k (front ++ piece)) sum ∙ drop-append-add front piece (line_length piece + 1)) in
    let some : 0 < length ((front ++ piece) ++ behind) = omega (arith, length-append (front ++ piece) behind) in
    let read : line_within most ((front ++ piece) ++ behind) ≡ Line (take (length front + line_length piece) ((front ++ piece) ++ behind)) (drop (length front + line_length piece + 1) ((front ++ piece) ++ behind)) = subst (λ k. line_within most ((front ++ piece) ++ behind) ≡ Line (take k ((front ++ piece) ++ behind)) (drop (k + 1) ((front ++ piece) ++ behind))) n (short_line most ((front ++ piece) ++ behind) some (rw n l)) in
    rw (read, taken, left) refl

-- more bytes than a line may have stand before a newline
line_over : (most : ℕ) (front piece behind : List ℕ) → line_length front ≡ length front → length front ≤ most → most < length front + line_length piece → line_within most ((front ++ piece) ++ behind) ≡ LineTooLong (drop (most - length front + 1) piece ++ behind)
line_over most front piece behind f s h =
    let both : length (front ++ piece) ≡ length front + length piece = length-append front piece in
    let within : line_length piece ≤ length piece = length_most piece in
    let long : most < line_length ((front ++ piece) ++ behind) = more_behind most (front ++ piece) behind (rw (length_joined front piece f) h) in
    let sum : most + 1 ≡ length front + (most - length front + 1) = omega arith in
    let left : drop (most + 1) ((front ++ piece) ++ behind) ≡ drop (most - length front + 1) piece ++ behind = drop-append-le (most + 1) (front ++ piece) behind (omega arith) ∙ ap (λ (t : List ℕ). t ++ behind) (ap (λ k. drop k (front ++ piece)) sum ∙ drop-append-add front piece (most - length front + 1)) in
    let some : 0 < length ((front ++ piece) ++ behind) = omega (arith, length-append (front ++ piece) behind) in
    long_line most ((front ++ piece) ++ behind) some long ∙ ap LineTooLong left

pub cut_found : (front piece line front' piece' : List ℕ) (count : ℕ) → IsFront front → count ≡ line_length piece → count < length piece → length front + count ≤ MOST_LINE_BYTES → line ≡ front ++ take count piece → front' ≡ [] → piece' ≡ drop (count + 1) piece → Cuts front piece (Ok (Some line)) front' piece'
cut_found front piece line front' piece' count f e h l line_is none left =
    rw (line_is, none, left, e) (
      (λ (behind : List ℕ). line_found MOST_LINE_BYTES front piece behind f.no_newline (rw (← e) h) (rw (← e) l)),
      omega (arith, length-append front piece, length-drop (line_length piece + 1) piece, e, h),
    )

pub cut_long : (front piece front' piece' : List ℕ) (count : ℕ) → IsFront front → count ≡ line_length piece → MOST_LINE_BYTES < length front + count → front' ≡ [] → piece' ≡ drop (MOST_LINE_BYTES - length front + 1) piece → Cuts front piece (Err fault.TooLong) front' piece'
cut_long front piece front' piece' count f e h none left =
    rw (none, left) (
      (λ (behind : List ℕ). line_over MOST_LINE_BYTES front piece behind f.no_newline f.most (rw (← e) h)),
      omega (arith, length-append front piece, length-drop (MOST_LINE_BYTES - length front + 1) piece, e, h, length_most piece, f.most),
    )

pub rest_none : (front : List ℕ) → length front ≡ 0 → CutsRest front None front
rest_none [] h = (no_line MOST_LINE_BYTES, refl, omega arith)
rest_none (b ∷ bs) h = absurd (omega arith)

pub rest_some : (front line front' : List ℕ) → IsFront front → 0 < length front → line ≡ front → front' ≡ [] → CutsRest front (Some line) front'
rest_some front line front' f h line_is none =
    let read : line_of front ≡ Line (take (line_length front) front) (drop (line_length front + 1) front) = short_line MOST_LINE_BYTES front h (rw f.no_newline f.most) in
    let whole : take (line_length front) front ≡ front = rw f.no_newline (take-length front) in
    let nothing : drop (line_length front + 1) front ≡ [] = rw f.no_newline (drop_past front) in
    rw (line_is, none) (rw (read, whole, nothing) refl, refl, h)
