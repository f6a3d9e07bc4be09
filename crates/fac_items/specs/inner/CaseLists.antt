-- Whether the elements of an array are those that `cond` reads, one element before another.
use Rattle.std.specs.Prelude.{Bool, true, false}
use Rattle.fac_items.specs.declared.cases.Cases.{Cases}
use Rattle.fac_items.specs.declared.cases.Cases.TheVariants.{Nothing, OneQuotation, TwoQuotations, Pairs, Other}
use Rattle.fac_items.specs.declared.cases.Child.{Child}
use Rattle.fac_items.specs.declared.cases.Child.TheVariants as child

abbrev pub with_child : Child → Cases → Cases
with_child child.Quotation Nothing = OneQuotation
with_child child.Quotation OneQuotation = TwoQuotations
with_child child.Quotation _ = Other
with_child child.Pair Nothing = Pairs
with_child child.Pair OneQuotation = Pairs
with_child child.Pair Pairs = Pairs
with_child child.Pair _ = Other
with_child child.Other _ = Other

abbrev pub are_cases : Cases → Bool
are_cases Nothing = true
are_cases OneQuotation = true
are_cases TwoQuotations = false
are_cases Pairs = true
are_cases Other = false

-- what an array of these is as an element
abbrev pub array_child : Cases → Child
array_child TwoQuotations = child.Pair
array_child cs = child.Other
