-- What elements stand in, and what counts there. The innermost context comes first, and the last one is that of the items as a whole.
use Rattle.std.specs.Prelude.{ℕ, ◌+◌, nat_lt, nat_le, ◌&&◌, Option, Some, None, List, [], ◌∷◌, length, if◌then◌else◌}
use Rattle.fac_base.specs.declared.limits.TheConstants.{MOST_LEVELS, MOST_ELEMENTS, MOST_LOCALS, MOST_HOLES}
use Rattle.fac_source.specs.declared.tree.Term.{Term}
use Rattle.fac_source.specs.declared.tree.Term.TheVariants as term
use Rattle.fac_source.specs.declared.tree.Element.{Element}
use Rattle.fac_source.specs.declared.tree.Element.TheVariants as element
use Rattle.fac_source.specs.declared.tree.Bracket.{Bracket}
use Rattle.fac_source.specs.declared.tree.Bracket.TheVariants as bracket
use Rattle.fac_parse.specs.declared.context.Around.{Around}
use Rattle.fac_parse.specs.declared.context.Around.TheVariants.{Items, Fry, Array}
use Rattle.fac_parse.specs.declared.context.Context.{Context}

-- Brackets nest at most so deep.
abbrev pub most_levels : ℕ
most_levels = MOST_LEVELS

-- A literal array has at most so many elements.
abbrev pub most_elements : ℕ
most_elements = MOST_ELEMENTS

-- At most so many locals are in scope, and a fry has at most so many holes.
abbrev pub most_locals : ℕ
most_locals = MOST_LOCALS

abbrev pub most_holes : ℕ
most_holes = MOST_HOLES

-- Items as a whole: so many locals are in scope before the first one, or none may be bound.
abbrev pub items_in : Option ℕ → Context
items_in locals = record { around = Items; locals = locals; holes = None }

-- One more element. An array counts it.
abbrev pub counted_in : Around → Context → List Context → Option (List Context)
counted_in (Array n) c cs = (if nat_lt n most_elements then Some (record c { around = Array (n + 1) } ∷ cs) else None)
counted_in _ c cs = Some (c ∷ cs)

abbrev pub counted : List Context → Option (List Context)
counted [] = None
counted (c ∷ cs) = counted_in c.around c cs

-- An item that is no element stands nowhere directly in an array.
abbrev pub uncounted_in : Around → Context → List Context → Option (List Context)
uncounted_in (Array n) c cs = None
uncounted_in _ c cs = Some (c ∷ cs)

abbrev pub uncounted : List Context → Option (List Context)
uncounted [] = None
uncounted (c ∷ cs) = uncounted_in c.around c cs

-- one more local
abbrev pub bound_in : Option ℕ → Context → List Context → Option (List Context)
bound_in None c cs = None
bound_in (Some n) c cs = (if nat_lt n most_locals then Some (record c { locals = Some (n + 1) } ∷ cs) else None)

abbrev pub bound : Option (List Context) → Option (List Context)
bound (Some (c ∷ cs)) = bound_in c.locals c cs
bound _ = None

-- one more hole
abbrev pub holed_in : Option ℕ → Context → List Context → Option (List Context)
holed_in None c cs = None
holed_in (Some n) c cs = (if nat_lt n most_holes then Some (record c { holes = Some (n + 1) } ∷ cs) else None)

abbrev pub holed : List Context → Option (List Context)
holed [] = None
holed (c ∷ cs) = holed_in c.holes c cs

-- what is open behind an item
abbrev pub item_behind : List Context → Term → Option (List Context)
item_behind contexts (term.NextMethod place) = uncounted contexts
item_behind contexts (term.EffectCall callee sign tokens height) = uncounted contexts
item_behind contexts (term.Bind sign name) = bound (uncounted contexts)
item_behind contexts (term.Hole place) = holed contexts
item_behind contexts (term.CalledHole place) = holed contexts
item_behind contexts item = counted contexts

-- Inside a bracket, before its first element. A fry has holes of its own, and an array none.
abbrev pub inside : Bracket → Context → Context
inside bracket.Quotation c = record c { around = Items }
inside bracket.Array c = record c { around = Array 0; holes = None }
inside bracket.Fry c = record c { around = Fry; holes = Some 0 }

-- what is open behind a bracket that opens
abbrev pub opened : Bracket → Option (List Context) → Option (List Context)
opened bracket (Some (c ∷ cs)) = (if nat_lt (length cs) most_levels then Some (inside bracket c ∷ c ∷ cs) else None)
opened bracket _ = None

-- where a bracket may open: a quotation and an array are elements, and a fry is none
abbrev pub opens_in : Bracket → List Context → Option (List Context)
opens_in bracket.Fry contexts = uncounted contexts
opens_in _ contexts = counted contexts

-- the locals in scope
abbrev pub locals_in : Option ℕ → ℕ
locals_in None = 0
locals_in (Some n) = n

-- what is open behind the names of so many inputs of a quotation, which are locals
abbrev pub opened_locals : ℕ → Option (List Context) → Option (List Context)
opened_locals k (Some (c ∷ cs)) =
    (if nat_lt (length cs) most_levels && nat_le (locals_in c.locals + k) most_locals then Some (record c { around = Items; locals = Some (locals_in c.locals + k) } ∷ c ∷ cs) else None)
opened_locals k _ = None

-- What is open behind a bracket that closes the innermost pair. The holes of a quotation are those of what is around it, and those of a fry are its own.
abbrev pub closed_in : Around → Bracket → Context → Context → List Context → Option (List Context)
closed_in Items bracket.Quotation inner c cs = Some (record c { holes = inner.holes } ∷ cs)
closed_in Fry bracket.Quotation inner c cs = Some (c ∷ cs)
closed_in (Array n) bracket.Array inner c cs = Some (c ∷ cs)
closed_in _ _ inner c cs = None

abbrev pub closed : List Context → Bracket → Option (List Context)
closed (inner ∷ c ∷ cs) bracket = closed_in inner.around bracket inner c cs
closed _ bracket = None

-- What is open behind an element, where this is open before it. None where the element may not stand.
abbrev pub behind : List Context → Element → Option (List Context)
behind contexts (element.Item item) = item_behind contexts item
behind contexts (element.Opens bracket place) = opened bracket (opens_in bracket contexts)
behind contexts (element.OpensLocals opens names bar) = opened_locals (length names) (uncounted contexts)
behind contexts (element.Closes bracket place) = closed contexts bracket
