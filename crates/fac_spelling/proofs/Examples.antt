-- Computed examples: what all of some bytes answer. The places were counted by hand.
use Rattle.std.proofs.Common.{◌≡◌, ℕ, true, List, [], ◌∷◌, Result, Ok, Err, refl}
use Rattle.std.specs.Prelude.{Option, Some, None, pos, negsuc}
use Rattle.fac_spelling.specs.Formats.{Format, all_at}
use Rattle.fac_spelling.specs.Numbers.{number, number32, shortest}
use Rattle.fac_spelling.specs.Integers.{integer}
use Rattle.fac_spelling.specs.Lists.{counted, ascending, ascending_by, optional}
use Rattle.fac_spelling.specs.Choices.{choice, plain, with_number}
use Rattle.fac_spelling.specs.TestedNumbers.{some_in, fresh}
use Rattle.fac_spelling.specs.Bytes.{fixed}
use Rattle.fac_spelling.specs.Texts.{characters, text}
use Rattle.fac_spelling.specs.inner.WholeReading.{all_of}

abbrev answer : {A : Type 0} → Format A → List ℕ → Result A ℕ
answer f bytes = all_of f (λ _. true) bytes

-- ---- numbers

short_form : shortest 127 ≡ 127 ∷ []
unfolding shortest
short_form = refl

two_digits : shortest 300 ≡ 172 ∷ 2 ∷ []
unfolding shortest
two_digits = refl

of_two_digits : answer number32 (172 ∷ 2 ∷ []) ≡ Ok 300
of_two_digits = refl

after_the_end : answer number32 (7 ∷ 0 ∷ []) ≡ Err 1
after_the_end = refl

longer_form : answer number32 (135 ∷ 0 ∷ []) ≡ Err 1
longer_form = refl

ends_early : answer number32 (135 ∷ []) ≡ Err 1
ends_early = refl

greatest : answer number32 (255 ∷ 255 ∷ 255 ∷ 255 ∷ 15 ∷ []) ≡ Ok 4294967295
greatest = refl

past_32_bits : answer number32 (255 ∷ 255 ∷ 255 ∷ 255 ∷ 16 ∷ []) ≡ Err 4
past_32_bits = refl

-- 44 + 128 is below the range, and 44 + 2 * 128 is in it
below_the_range : answer (number 200 300) (172 ∷ 1 ∷ []) ≡ Err 1
below_the_range = refl

-- 72 + 128 is in the range, and 72 + 2 * 128 is past it
past_the_range : answer (number 200 300) (200 ∷ 2 ∷ []) ≡ Err 1
past_the_range = refl

-- 71 + 128 is below the range, and 71 + 2 * 128 is past it
never_in_range : answer (number 200 300) (199 ∷ 1 ∷ []) ≡ Err 0
never_in_range = refl

-- ---- integers

minus_one : answer integer (1 ∷ []) ≡ Ok (negsuc 0)
minus_one = refl

two : answer integer (4 ∷ []) ≡ Ok (pos 2)
two = refl

past_128_bits : answer integer (255 ∷ 255 ∷ 255 ∷ 255 ∷ 255 ∷ 255 ∷ 255 ∷ 255 ∷ 255 ∷ 255 ∷ 255 ∷ 255 ∷ 255 ∷ 255 ∷ 255 ∷ 255 ∷ 255 ∷ 255 ∷ 4 ∷ []) ≡ Err 18
past_128_bits = refl

-- ---- bytes, lists and options

other_first_bytes : answer (fixed (70 ∷ 67 ∷ 73 ∷ 49 ∷ [])) (70 ∷ 67 ∷ 74 ∷ 49 ∷ []) ≡ Err 2
unfolding all_at
other_first_bytes = refl

three_numbers : answer (counted number32) (3 ∷ 5 ∷ 135 ∷ 1 ∷ 0 ∷ []) ≡ Ok (5 ∷ 135 ∷ 0 ∷ [])
unfolding all_at
three_numbers = refl

one_is_missing : answer (counted number32) (2 ∷ 5 ∷ []) ≡ Err 2
unfolding all_at
one_is_missing = refl

none : answer (optional number32) (0 ∷ []) ≡ Ok None
unfolding all_at
none = refl

some : answer (optional number32) (1 ∷ 9 ∷ []) ≡ Ok (Some 9)
unfolding all_at
some = refl

no_option : answer (optional number32) (2 ∷ 9 ∷ []) ≡ Err 0
unfolding all_at
no_option = refl

-- ---- lists that ascend

descends : answer ascending (2 ∷ 5 ∷ 3 ∷ []) ≡ Err 2
unfolding all_at
descends = refl

twice : answer ascending (2 ∷ 5 ∷ 5 ∷ []) ≡ Err 2
unfolding all_at
twice = refl

no_room : answer ascending (2 ∷ 255 ∷ 255 ∷ 255 ∷ 255 ∷ 15 ∷ 1 ∷ []) ≡ Err 5
unfolding all_at
no_room = refl

room_for_one : answer ascending (2 ∷ 254 ∷ 255 ∷ 255 ∷ 255 ∷ 15 ∷ 255 ∷ 255 ∷ 255 ∷ 255 ∷ 15 ∷ []) ≡ Ok (4294967294 ∷ 4294967295 ∷ [])
unfolding all_at
room_for_one = refl

key_again : answer (ascending_by number32) (2 ∷ 3 ∷ 9 ∷ 3 ∷ 9 ∷ []) ≡ Err 3
unfolding all_at
key_again = refl

-- ---- fresh numbers

taken : answer (fresh (7 ∷ 135 ∷ [])) (7 ∷ []) ≡ Err 0
unfolding some_in
taken = refl

-- 135 is spelled 135, 1: a number of two bytes whose first is 135 may still follow, and its second byte isn't 1
long_taken : answer (fresh (7 ∷ 135 ∷ [])) (135 ∷ 1 ∷ []) ≡ Err 1
unfolding some_in
long_taken = refl

free : answer (fresh (7 ∷ 135 ∷ [])) (135 ∷ 2 ∷ []) ≡ Ok 263
unfolding some_in
free = refl

-- ---- texts

two_characters : answer text (3 ∷ 97 ∷ 195 ∷ 164 ∷ []) ≡ Ok (97 ∷ 195 ∷ 164 ∷ [])
unfolding all_at characters
two_characters = refl

cut_by_the_length : answer text (2 ∷ 97 ∷ 195 ∷ 164 ∷ []) ≡ Err 2
unfolding all_at characters
cut_by_the_length = refl

overlong : answer text (3 ∷ 224 ∷ 159 ∷ 191 ∷ []) ≡ Err 2
unfolding all_at characters
overlong = refl

surrogate : answer text (3 ∷ 237 ∷ 160 ∷ 128 ∷ []) ≡ Err 2
unfolding all_at characters
surrogate = refl

-- ---- rows behind a tag

abbrev parts : Option ℕ → ℕ × List ℕ
parts None = (0, [])
parts (Some n) = (1, n ∷ [])

abbrev small : Format (Option ℕ)
small = choice (plain None) (with_number 9 (λ n. Some n) ∷ []) parts

a_row : answer small (1 ∷ 9 ∷ []) ≡ Ok (Some 9)
unfolding all_at
a_row = refl

no_row : answer small (2 ∷ 9 ∷ []) ≡ Err 0
unfolding all_at
no_row = refl

past_the_row : answer small (1 ∷ 10 ∷ []) ≡ Err 1
unfolding all_at
past_the_row = refl
