-- The first line of bytes that are put together.
use Rattle.std.proofs.Common.{◌≡◌, ℕ, ◌+◌, ◌-◌, ◌<◌, ◌≤◌, Bool, true, false, cond, List, [], ◌∷◌, ◌++◌, length, take, drop, refl, ap, sym, ◌∙◌, arith, Some, None, not, suc}
use Rattle.std.specs.List.{position}
use Rattle.std.proofs.lemmas.List.{drop-take, drop-drop}
use Rattle.std.proofs.lemmas.List.Folds.{prefix_len-append}
use Rattle.std.proofs.lemmas.List.Sums.{prefix_len-le-length}
use Rattle.std.proofs.lemmas.Grind.{common_steps}
use Rattle.std.proofs.lemmas.Bool.Decides.{nat_tests}
use Rattle.fac_lines.specs.LineReads.{is_newline, line_length, NoLine, Line, LineTooLong, line_within}

pub length_most : (bytes : List ℕ) → line_length bytes ≤ length bytes
length_most bytes = prefix_len-le-length _ bytes

pub newline_there : (bytes : List ℕ) (place : ℕ) → Some place ≡ position is_newline bytes → place ≡ line_length bytes
newline_there bytes place e = grind (arith, nat_tests)

pub newline_nowhere : (bytes : List ℕ) → None ≡ position is_newline bytes → length bytes ≡ line_length bytes
newline_nowhere bytes e = grind (arith, nat_tests, length_most bytes)

-- behind bytes with no newline
pub length_joined : (front rest : List ℕ) → line_length front ≡ length front → line_length (front ++ rest) ≡ length front + line_length rest
length_joined front rest e = grind (arith, nat_tests, prefix_len-append)

-- before bytes behind a newline
pub length_cut : (bytes behind : List ℕ) → line_length bytes < length bytes → line_length (bytes ++ behind) ≡ line_length bytes
length_cut bytes behind h = grind (arith, nat_tests, prefix_len-append)

before_step : (b : ℕ) (bs : List ℕ) (n : ℕ) (t : Bool) → not (is_newline b) ≡ t → line_length (take n bs) ≡ n → line_length (take (cond t (1 + n) 0) (b ∷ bs)) ≡ cond t (1 + n) 0
before_step b bs n true e h = let s : 1 + n ≡ suc n = omega arith in rw (s, e, h) s
before_step b bs n false e h = refl

-- no newline is among the bytes before the first one
pub length_before : (bytes : List ℕ) → line_length (take (line_length bytes) bytes) ≡ line_length bytes
length_before [] = refl
length_before (b ∷ bs) = before_step b bs (line_length bs) (not (is_newline b)) refl (length_before bs)

pub no_line : (most : ℕ) → line_within most [] ≡ NoLine
unfolding line_within
no_line most = refl

pub short_line : (most : ℕ) (bytes : List ℕ) → 0 < length bytes → line_length bytes ≤ most → line_within most bytes ≡ Line (take (line_length bytes) bytes) (drop (line_length bytes + 1) bytes)
unfolding line_within
short_line most [] h l = absurd (omega arith)
short_line most (b ∷ bs) h l = grind (arith, nat_tests)

pub long_line : (most : ℕ) (bytes : List ℕ) → 0 < length bytes → most < line_length bytes → line_within most bytes ≡ LineTooLong (drop (most + 1) bytes)
unfolding line_within
long_line most [] h l = absurd (omega arith)
long_line most (b ∷ bs) h l = grind (arith, nat_tests)

-- the bytes of a piece behind some of them
pub skipped : (at end count : ℕ) (room now : List ℕ) → at + count ≤ end → end ≤ length room → take (end - at) (drop at room) ≡ now → take (end - (at + count)) (drop (at + count) room) ≡ drop count now
skipped at end count room now h l e =
    let apart : end - at ≡ count + (end - (at + count)) = omega arith in
    let moved : drop count (take (end - at) (drop at room)) ≡ take (end - (at + count)) (drop count (drop at room)) = rw apart (drop-take count (end - (at + count)) (drop at room)) in
    ap (take (end - (at + count))) (sym (drop-drop count at room)) ∙ sym moved ∙ ap (drop count) e

-- more bytes behind leave no fewer before the first newline
pub more_behind : (most : ℕ) (bytes behind : List ℕ) → most < line_length bytes → most < line_length (bytes ++ behind)
more_behind most bytes behind h = grind (arith, nat_tests, prefix_len-append, length_most bytes)

pub drop_past : (bytes : List ℕ) → drop (length bytes + 1) bytes ≡ []
drop_past [] = refl
drop_past (b ∷ bs) = grind (arith, common_steps, drop_past bs)
