-- Lines of small lists of bytes. 10 is the newline, and 97 and 98 are the bytes of `a` and `b`.
use Rattle.std.proofs.Common.{◌≡◌, ◌∷◌, [], refl}
use Rattle.fac_lines.specs.LineReads.{NoLine, Line, LineTooLong, line_of, line_within}

no_byte : line_of [] ≡ NoLine
unfolding line_within
no_byte = refl

last_line : line_of (97 ∷ []) ≡ Line (97 ∷ []) []
unfolding line_within
last_line = refl

line_at_the_end : line_of (97 ∷ 10 ∷ []) ≡ Line (97 ∷ []) []
unfolding line_within
line_at_the_end = refl

line_before_others : line_of (97 ∷ 10 ∷ 98 ∷ 10 ∷ []) ≡ Line (97 ∷ []) (98 ∷ 10 ∷ [])
unfolding line_within
line_before_others = refl

empty_line : line_of (10 ∷ 10 ∷ []) ≡ Line [] (10 ∷ [])
unfolding line_within
empty_line = refl

-- where a line has at most two bytes
line_of_the_limit : line_within 2 (97 ∷ 98 ∷ 10 ∷ 97 ∷ []) ≡ Line (97 ∷ 98 ∷ []) (97 ∷ [])
unfolding line_within
line_of_the_limit = refl

line_past_the_limit : line_within 2 (97 ∷ 98 ∷ 97 ∷ 10 ∷ 98 ∷ []) ≡ LineTooLong (10 ∷ 98 ∷ [])
unfolding line_within
line_past_the_limit = refl

no_newline_past_the_limit : line_within 2 (97 ∷ 98 ∷ 97 ∷ []) ≡ LineTooLong []
unfolding line_within
no_newline_past_the_limit = refl
