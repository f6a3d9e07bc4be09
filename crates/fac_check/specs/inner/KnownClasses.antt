-- What the walker finds of classes and generics in a closed program.
use Rattle.std.specs.Prelude.{◌≡◌, ℕ, suc, List, [], ◌∷◌, length, Bool, true, false, Option, Some, None, slice_get}
use Rattle.fac_lang.specs.declared.program.ClassDef.{ClassDef}
use Rattle.fac_lang.specs.declared.program.Program.{Program}
use Rattle.fac_lang.specs.declared.program.WordDef.{WordDef}
use Rattle.fac_lang.specs.declared.program.Sort.{Sort}
use Rattle.fac_lang.specs.declared.program.Sort.TheVariants.{Method as method}
use Rattle.fac_lang.specs.Classes.{shape_at, is_tuple}
use Rattle.fac_lang.specs.Meaning.{names}
use Rattle.fac_lang.specs.Phrases.{Mark, any, wrd_mark}
use Rattle.fac_abs.specs.RowVariables.{Row}
use Rattle.fac_abs.specs.Marks.{on, popped}
use Rattle.fac_abs.specs.declared.rule.Rule.TheVariants.{Underflow, NotAClass}
use Rattle.fac_locals.specs.Closed.{Closes}
use Rattle.fac_locals.specs.declared.closing.Closed.{Closed}
use Rattle.fac_graph.specs.Slots.{slot_count}
use Rattle.fac_check.specs.Flow.{Doing, breaks, gives}

-- the word that a mark stands for
abbrev pub word_in : Mark → Option ℕ
word_in (wrd_mark w) = Some w
word_in _ = None

-- how many slots a class has, where it is a tuple class
abbrev pub if_tuple : Bool → ℕ → Option ℕ
if_tuple true n = Some n
if_tuple false n = None

abbrev pub tuple_slots : List ClassDef → ℕ → Option ℕ
tuple_slots cs c = if_tuple (is_tuple (shape_at cs c)) (slot_count cs c)

-- a tuple class with its kind has so many slots, where it is one
abbrev pub TellsTuple : Option (ℕ × ℕ) → Option ℕ → Type 0
TellsTuple c None = c ≡ None
TellsTuple c (Some n) = (k : ℕ) × (c ≡ Some (k, n))

-- that of a word, in each program for which the closed one stands
abbrev pub IsTupleWord : Closed → ℕ → Option ℕ → Type 0
IsTupleWord closed w slots = (P : Program) → Closes P closed.program closed.templates → TellsTuple ((names P).tuple_class w) slots

-- `boa` with a tuple class of so many slots, or with no tuple class
abbrev pub makes_counted : Option ℕ → Option Row → List Mark → Doing
makes_counted None b ms = breaks NotAClass
makes_counted (Some n) b ms = elim (popped n [] ms) [ Some r ↦ gives (on b (any ∷ r.1)) | None ↦ breaks (Underflow (suc n) (suc (length ms))) ]

-- the generic of a word of this sort
abbrev pub generic_word : Program → Option Sort → Option WordDef
generic_word C (Some (method c g t)) = slice_get C.words g
generic_word C _ = None
