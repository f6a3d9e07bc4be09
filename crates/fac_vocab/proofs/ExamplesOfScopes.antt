-- Examples of what names find, of vocabularies and of definitions.
use Rattle.std.proofs.Common.{◌≡◌, ℕ, true, false, List, [], ◌∷◌, Some, None, refl}
use Rattle.std.specs.Prelude.{codes}
use Rattle.fac_vocab.specs.declared.answers.NameState.TheVariants.{New, Deferred, Defined}
use Rattle.fac_vocab.specs.Scopes.{Entry, named, prefixed, Scope, word_held, the, unknown, ambiguous, found, exists, begun, entered, with_private, using_vocab, using_all, bringing, home, holders, now_defined, first_scope}
use Rattle.fac_vocab.specs.ScopeCalls.{names_differ, standing_of, scope_defining, scope_deferring, bringing_word}

abbrev entry : List ℕ → List ℕ → ℕ → Entry
entry vocab name word = record { vocab = vocab; name = name; word = word; is_defined = true }

abbrev deferred : List ℕ → List ℕ → ℕ → Entry
deferred vocab name word = record { vocab = vocab; name = name; word = word; is_defined = false }

-- a file begins where the tables have these names
abbrev holding : List Entry → Scope
holding table = record (first_scope []) { table = table }

-- `dup`, `+`, a word `x` of each of two vocabularies, and names that are private to one of these
abbrev table : List Entry
table =
    entry (codes "kernel") (codes "dup") 0 ∷ entry (codes "math") (codes "+") 1 ∷ entry (codes "a") (codes "x") 2 ∷ entry (codes "a.b") (codes "x") 3 ∷
    entry (codes "a.private") (codes "y") 4 ∷ entry (codes "a") (codes "b:z") 5 ∷ []

abbrev scope : Scope
scope = entered (codes "scratchpad") (entered (codes "a.b") (entered (codes "a") (holding table)))

table_differs : names_differ table ≡ true
table_differs = refl

-- Used vocabularies.

not_used : found scope (codes "dup") ≡ unknown
unfolding found
not_used = refl

used : found (using_vocab (codes "kernel") scope) (codes "dup") ≡ the 0
unfolding found
used = refl

used_twice : found (using_vocab (codes "a") (using_vocab (codes "a") scope)) (codes "x") ≡ the 2
unfolding found
used_twice = refl

-- a used vocabulary gives the names that it gets later
used_later : found (record (using_vocab (codes "a") (holding [])) { table = entry (codes "a") (codes "x") 0 ∷ [] }) (codes "x") ≡ the 0
unfolding found
used_later = refl

-- `a.b:x` comes before `a:x`, since `.` comes before `:`
two_used : found (using_vocab (codes "a.b") (using_vocab (codes "a") scope)) (codes "x") ≡ ambiguous (entry (codes "a.b") (codes "x") 3) (entry (codes "a") (codes "x") 2)
unfolding found
two_used = refl

-- the current vocabulary comes before used ones
current_first : found (entered (codes "a") (using_vocab (codes "a.b") scope)) (codes "x") ≡ the 2
unfolding found
current_first = refl

-- Private names.

private_inside : found (entered (codes "a") scope) (codes "y") ≡ the 4
unfolding found
private_inside = refl

private_outside : found (using_vocab (codes "a") scope) (codes "y") ≡ unknown
unfolding found
private_outside = refl

private_not_brought : bringing_word scope (codes "y") (word_held scope.table (codes "a") (codes "y")) ≡ None
private_not_brought = refl

-- a companion that is used by its name gives its names
companion_used : found (using_vocab (codes "a.private") scope) (codes "y") ≡ the 4
unfolding found
companion_used = refl

-- What forms bring.

-- a name that `FROM:` brought comes before those of used vocabularies, and before those that were brought earlier
brought_before_used : found (bringing (named (codes "x") 3) (using_vocab (codes "a") scope)) (codes "x") ≡ the 3
unfolding found
brought_before_used = refl

latest_brought : found (bringing (named (codes "x") 3) (bringing (named (codes "x") 2) scope)) (codes "x") ≡ the 3
unfolding found
latest_brought = refl

current_before_brought : found (bringing (named (codes "x") 3) (entered (codes "a") scope)) (codes "x") ≡ the 2
unfolding found
current_before_brought = refl

brought_with_prefix : found (bringing (prefixed (codes "kernel") (codes "k")) scope) (codes "k:dup") ≡ the 0
unfolding found
brought_with_prefix = refl

prefix_alone : found (bringing (prefixed (codes "kernel") (codes "k")) scope) (codes "dup") ≡ unknown
unfolding found
prefix_alone = refl

-- a colon may stand in the name too
name_with_colon : found (bringing (prefixed (codes "a") (codes "p")) scope) (codes "p:b:z") ≡ the 5
unfolding found
name_with_colon = refl

-- of two vocabularies with one prefix the latest that has the name gives its word
latest_prefix : found (bringing (prefixed (codes "a.b") (codes "p")) (bringing (prefixed (codes "a") (codes "p")) scope)) (codes "p:x") ≡ the 3
unfolding found
latest_prefix = refl

earlier_prefix : found (bringing (prefixed (codes "kernel") (codes "p")) (bringing (prefixed (codes "a") (codes "p")) scope)) (codes "p:x") ≡ the 2
unfolding found
earlier_prefix = refl

-- a file begins with nothing brought, `syntax` alone used, and what vocabularies hold as before
file_begins : found (begun (bringing (named (codes "x") 3) (using_vocab (codes "kernel") scope))) (codes "x") ≡ unknown
unfolding found
file_begins = refl

tables_stay : word_held (begun scope).table (codes "kernel") (codes "dup") ≡ Some 0
tables_stay = refl

-- Vocabularies.

from_start : exists (holding []) (codes "math.parser") ≡ true
from_start = refl

companion_of_one : exists (holding []) (codes "kernel.private") ≡ true
companion_of_one = refl

companion_of_companion : exists (holding []) (codes "kernel.private.private") ≡ true
companion_of_companion = refl

no_vocabulary : exists (holding []) (codes "a") ≡ false
no_vocabulary = refl

entered_exists : exists scope (codes "a.b.private") ≡ true
entered_exists = refl

-- one that is entered by the name of a companion is no vocabulary without it
companion_alone : exists (entered (codes "m.private") (holding [])) (codes "m") ≡ false
companion_alone = refl

home_private : home (with_private true (entered (codes "a") scope)) ≡ codes "a.private"
home_private = refl

entering_ends_private : home (entered (codes "a") (with_private true scope)) ≡ codes "a"
entering_ends_private = refl

all_but_private : (using_all (entered (codes "m.private") (holding []))).used ≡
    codes "syntax" ∷ codes "kernel" ∷ codes "math" ∷ codes "math.parser" ∷ codes "sequences" ∷ codes "arrays" ∷ codes "io" ∷ codes "prettyprint" ∷ codes "combinators" ∷
    codes "strings" ∷ codes "words" ∷ codes "accessors" ∷ codes "scratchpad" ∷ codes "locals" ∷ codes "fry" ∷ []
all_but_private = refl

-- Definitions.

new_name : standing_of (holders table (codes "a") (codes "w")) ≡ New
new_name = refl

defined_name : standing_of (holders table (codes "a") (codes "x")) ≡ Defined
defined_name = refl

-- a vocabulary and its companion are one table
defined_privately : standing_of (holders table (codes "a") (codes "y")) ≡ Defined
defined_privately = refl

defined_publicly : standing_of (holders table (codes "a.private") (codes "x")) ≡ Defined
defined_publicly = refl

-- and so are a companion and its own companion
defined_further : standing_of (holders table (codes "a.private.private") (codes "y")) ≡ Defined
defined_further = refl

not_further : standing_of (holders table (codes "a.private.private") (codes "x")) ≡ New
not_further = refl

-- what is deferred privately may be defined publicly, and keeps its word and its full name
deferred_name : standing_of (holders (deferred (codes "a.private") (codes "w") 6 ∷ []) (codes "a") (codes "w")) ≡ Deferred 6
deferred_name = refl

defined_then : now_defined (codes "a.private") (codes "w") (deferred (codes "a.private") (codes "w") 6 ∷ []) ≡ entry (codes "a.private") (codes "w") 6 ∷ []
defined_then = refl

-- of two that are deferred the first is defined
first_deferred : standing_of (holders (deferred (codes "a.private") (codes "w") 6 ∷ deferred (codes "a.private.private") (codes "w") 7 ∷ []) (codes "a.private") (codes "w")) ≡ Deferred 6
first_deferred = refl

-- a name that is deferred isn't deferred again, and one that is defined isn't defined again
deferred_once : scope_deferring scope (record { vocab = codes "a"; name = codes "w" }) 8 (holders (deferred (codes "a") (codes "w") 6 ∷ []) (codes "a") (codes "w")) ≡ None
deferred_once = refl

defined_once : scope_defining scope (record { vocab = codes "a"; name = codes "x" }) 8 (holders table (codes "a") (codes "x")) ≡ None
defined_once = refl

-- a deferred name is found
deferred_found : found (entered (codes "a") (holding (deferred (codes "a") (codes "w") 6 ∷ []))) (codes "w") ≡ the 6
unfolding found
deferred_found = refl
