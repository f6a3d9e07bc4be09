-- Names that are near, and the one that was meant, as they were written by hand.
use Rattle.std.specs.Prelude.{◌≡◌, refl, List, [], ◌∷◌, ℕ, true, false, None, Some, codes}
use Rattle.fac_explain.specs.Nearness.{one_edit, is_near, closest}
use Rattle.fac_explain.specs.Beginnings.{beginning}

-- two neighbours exchanged, one byte less, one more, another one
exchanged_bytes : one_edit (codes "eahc") (codes "each") ≡ true
exchanged_bytes = refl

less : one_edit (codes "swp") (codes "swap") ≡ true
less = refl

last_less : one_edit (codes "time") (codes "times") ≡ true
last_less = refl

more : one_edit (codes "timess") (codes "times") ≡ true
more = refl

first_more : one_edit (codes "xdup") (codes "dup") ≡ true
first_more = refl

other : one_edit (codes "dog") (codes "dig") ≡ true
other = refl

-- and no edit, two, and two bytes that aren't neighbours
same : one_edit (codes "dup") (codes "dup") ≡ false
same = refl

two : one_edit (codes "dupx") (codes "udup") ≡ false
two = refl

apart : one_edit (codes "abc") (codes "cba") ≡ false
apart = refl

short : is_near (codes "ro") (codes "rot") ≡ false
short = refl

-- the one that is near, though it is there twice; none of two; and the name itself before any other
abbrev names : List (List ℕ)
names = codes "dup" ∷ codes "each" ∷ codes "dupd" ∷ codes "each" ∷ []

one_near : closest (codes "eahc") names ≡ Some (codes "each")
one_near = refl

two_near : closest (codes "dupp") names ≡ None
two_near = refl

itself : closest (codes "dup") names ≡ Some (codes "dup")
itself = refl

-- a file without a mark
plain_file : beginning (codes "USING: math ;") ≡ []
plain_file = refl
