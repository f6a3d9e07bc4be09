-- Draws that compute.
use Rattle.std.specs.Prelude.{◌≡◌, refl, true, false}
use Rattle.fac_gen.specs.Generated.{sort_at, number_at, earlier_at, calls_earlier}

-- from the seed 1 the first word is `5 [ 58 + ] times`
first_sort : sort_at 1 ≡ 2
first_sort = refl

first_number : number_at 1 ≡ 58
first_number = refl

-- a first word of sort 3 calls none, a second one calls the first
no_word_before : calls_earlier 0 3 ≡ false
no_word_before = refl

one_word_before : calls_earlier 1 3 ≡ true
one_word_before = refl

the_word_before : earlier_at 1 7 ≡ 0
the_word_before = refl
