-- Where the values on a stack come from, the top first, behind each thing that an item does.
use Rattle.std.specs.Prelude.{ℕ, zero, suc, nat_eq, ◌&&◌, List, [], ◌∷◌, ◌++◌, length, drop, take, reverse, Bool, true, false, Option, Some, None}
use Rattle.fac_base.specs.declared.place.Place.{Place}
use Rattle.fac_base.specs.declared.height.Height.{Height}
use Rattle.fac_base.specs.Signatures.{Leaving, never, leaves}
use Rattle.fac_lang.specs.Procedures.{picked}
use Rattle.fac_abs.specs.Marks.{AbstractStack, dead, on, piled}
use Rattle.fac_abs.specs.RowVariables.{Row, named_row, some_row}
use Rattle.fac_rows.specs.RowBinding.{bound_to}
use Rattle.fac_trace.specs.declared.origin.Origin.{Origin}
use Rattle.fac_trace.specs.declared.origin.Origin.TheVariants as origin

-- the inputs of the word that is checked up to this number
abbrev pub inputs_upto : ℕ → List Origin
inputs_upto zero = []
inputs_upto (suc k) = origin.Input (suc k) ∷ inputs_upto k

-- likewise those that a row word at a place gives the callable for its input of this number, put on others
abbrev pub given_upto : ℕ → ℕ → Place → List Origin → List Origin
given_upto input zero p os = os
given_upto input (suc k) p os = origin.Given input (suc k) p ∷ given_upto input k p os

-- of so many values that an item at a place leaves, those up to this number
abbrev pub left_upto : ℕ → ℕ → Place → List Origin → List Origin
left_upto zero count p os = os
left_upto (suc k) count p os = origin.Left (suc k) count p ∷ left_upto k count p os

-- one value that an item leaves
abbrev pub one_left : Place → Origin
one_left p = origin.Left 1 1 p

-- the values that an item leaves, put on others; none where it never returns
abbrev pub left_on : Option ℕ → Place → List Origin → List Origin
left_on None p os = os
left_on (Some n) p os = left_upto n n p os

-- an item that takes and leaves so many values
abbrev pub left_by : Height → Place → List Origin → List Origin
left_by h p os = left_on h.outs p (drop h.ins os)

-- of so many values that an item takes, the deepest first, those at these places, put on the rest
abbrev pub moved : ℕ → List ℕ → Place → List Origin → List Origin
moved taken places p os = piled (picked (one_left p) (reverse (take taken os)) places) (drop taken os)

-- Equality of origins.
abbrev pub place_eq : Place → Place → Bool
place_eq p q = nat_eq p.file q.file && nat_eq p.token q.token

abbrev pub origin_eq : Origin → Origin → Bool
origin_eq (origin.Input k) (origin.Input j) = nat_eq k j
origin_eq (origin.Item p) (origin.Item q) = place_eq p q
origin_eq (origin.Named p) (origin.Named q) = place_eq p q
origin_eq (origin.Left k n p) (origin.Left j m q) = nat_eq k j && (nat_eq n m && place_eq p q)
origin_eq (origin.Given i k p) (origin.Given j l q) = nat_eq i j && (nat_eq k l && place_eq p q)
origin_eq _ _ = false

-- Two ways of an item leave a value: where it comes from the same place in both it still does, and else the item left it.
abbrev pub joined_origin : Place → Origin → Origin → Origin
joined_origin p o q = elim (origin_eq o q) [ true ↦ o | false ↦ one_left p ]

abbrev pub joined_origins : Place → List Origin → List Origin → List Origin
joined_origins p [] qs = []
joined_origins p (o ∷ os) [] = []
joined_origins p (o ∷ os) (q ∷ qs) = joined_origin p o q ∷ joined_origins p os qs

-- a way that never returns leaves what the other one leaves
abbrev pub of_ways : Place → AbstractStack → List Origin → AbstractStack → List Origin → List Origin
of_ways p dead os B qs = qs
of_ways p (on b ms) os dead qs = os
of_ways p (on b ms) os (on c ns) qs = joined_origins p os qs

-- What lies on the rows of a use, beside the stacks that they are bound to. The first of a row counts.
abbrev pub Rests : Type 0
Rests = List (Row × List Origin)

-- what lies on a row
abbrev pub rest_or_none : Option (List Origin) → List Origin
rest_or_none None = []
rest_or_none (Some os) = os

abbrev pub rest_of : Option Row → Rests → List Origin
rest_of None rests = []
rest_of (Some r) rests = rest_or_none (bound_to r rests)

-- what a callable leaves below its outputs lies on the row that it leaves, unless that is bound
abbrev pub more_rests : Leaving → List Origin → Rests → Rests
more_rests never os rests = rests
more_rests (leaves None names) os rests = rests
more_rests (leaves (Some x) names) os rests = rests ++ (named_row x, drop (length names) os) ∷ []

-- A stack as it is told: whether a row lies below, and where its values come from.
pub record Listed : Type 0 where
  pub row : Bool
  pub values : List Origin

abbrev pub listed_on : Option Row → List Origin → Listed
listed_on b os = record { row = some_row b; values = os }

abbrev pub listed : AbstractStack → List Origin → Listed
listed dead os = listed_on None []
listed (on b ms) os = listed_on b os
