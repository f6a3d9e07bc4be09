-- The texts that the generator writes.
use Rattle.std.specs.Prelude.{ℕ, zero, suc, ◌+◌, ◌*◌, ◌/◌, ◌%◌, ◌==◌, Bool, not, ◌&&◌, List, [], ◌++◌, codes, decimal, if◌then◌else◌}

-- the state behind one, with each draw
abbrev pub next_state : ℕ → ℕ
next_state state = (state * 1103515245 + 12345) % 2147483648

-- which of so many numbers, counted from 0, is drawn at a state
abbrev pub drawn_of : ℕ → ℕ → ℕ
drawn_of count state = (state / 65536) % count

-- a number between two texts
abbrev pub between : List ℕ → ℕ → List ℕ → List ℕ
between before number after = before ++ decimal number ++ after

-- the body of a word of this sort, with the number c in it
abbrev pub body : ℕ → ℕ → List ℕ
body sort c = (if sort == 1 then between (codes "dup even? [ ") c (codes " + ] [ 3 * ] if") else if sort == 2 then between (codes "5 [ ") c (codes " + ] times") else between [] c (codes " +"))

-- the body of a word that calls the one with the number j
abbrev pub calling_body : ℕ → ℕ → List ℕ
calling_body j c = between (codes "w") j (codes " ") ++ between [] c (codes " -")

-- how the definition of the word with the number k begins, and how each ends
unfoldable pub opening : ℕ → List ℕ
opening k = between (codes ": w") k (codes " ( x -- y ) ")

unfoldable pub closing : List ℕ
closing = codes " 1000 mod ;\n"

-- the line that defines the word with the number k by this body
abbrev pub definition : ℕ → List ℕ → List ℕ
definition k body = opening k ++ body ++ closing

-- whether the word with the number k, whose sort is this one, calls an earlier word; the first word has none before it
abbrev pub calls_earlier : ℕ → ℕ → Bool
calls_earlier k sort = sort == 3 && not (k == 0)

-- The first draw from a state is the sort of a word, the second its number c, and where the word calls an earlier one the third says which.
abbrev pub sort_at : ℕ → ℕ
sort_at state = drawn_of 4 (next_state state)

abbrev pub number_at : ℕ → ℕ
number_at state = drawn_of 100 (next_state (next_state state))

abbrev pub earlier_at : ℕ → ℕ → ℕ
earlier_at k state = drawn_of k (next_state (next_state (next_state state)))

-- the body of the word with the number k, which is drawn from this state
unfoldable pub body_at : ℕ → ℕ → List ℕ
body_at k state = (if calls_earlier k (sort_at state) then calling_body (earlier_at k state) (number_at state) else body (sort_at state) (number_at state))

-- the state behind its draws
unfoldable pub behind_word : ℕ → ℕ → ℕ
behind_word k state = (if calls_earlier k (sort_at state) then next_state (next_state (next_state state)) else next_state (next_state state))

-- the state from which the word with this number is drawn
unfoldable pub state_of : ℕ → ℕ → ℕ
state_of seed zero = seed
state_of seed (suc k) = behind_word k (state_of seed k)

-- the definitions of the first words of a seed
unfoldable pub definitions : ℕ → ℕ → List ℕ
definitions seed zero = []
definitions seed (suc k) = definitions seed k ++ definition k (body_at k (state_of seed k))

-- a line with the name of each of the first words
unfoldable pub calls : ℕ → List ℕ
calls zero = []
calls (suc k) = calls k ++ between (codes "w") k (codes "\n")

-- The text of so many words that are drawn from a seed: each is called once, in the order of their numbers, and what they make of 0 is written.
unfoldable pub generated : ℕ → ℕ → List ℕ
generated seed count = codes "USING: kernel math prettyprint ;\nIN: gen\n" ++ definitions seed count ++ codes "0\n" ++ calls count ++ codes ".\n"
