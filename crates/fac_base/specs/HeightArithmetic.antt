-- The arithmetic of heights: what `curry` and `compose` make of callables that take and leave so many values, and which callables fit a declared effect.
use Rattle.std.specs.Prelude.{ℕ, zero, suc, ◌+◌, ◌-◌, Bool, true, false, ◌&&◌, nat_eq, nat_le, Option, Some, None}
use Rattle.fac_base.specs.declared.limits.TheConstants.{MOST_CALLABLE_VALUES}
use Rattle.fac_base.specs.declared.height.Height.{Height}

-- the greatest number in the height of a callable
abbrev pub most_values : ℕ
most_values = MOST_CALLABLE_VALUES

-- a height, where the test of its numbers holds
abbrev pub limited_if : Bool → ℕ → Option ℕ → Option Height
limited_if true i o = Some (record { ins = i; outs = o })
limited_if false i o = None

-- a height, where its numbers are within the limit
abbrev pub limited_height : ℕ → Option ℕ → Option Height
limited_height i None = limited_if (nat_le i most_values) i None
limited_height i (Some o) = limited_if (nat_le i most_values && nat_le o most_values) i (Some o)

-- with one value given: one input less, or where there is none one output more
abbrev pub curried_numbers : ℕ → Option ℕ → Option Height
curried_numbers zero None = limited_height 0 None
curried_numbers zero (Some o) = limited_height 0 (Some (suc o))
curried_numbers (suc i) o = limited_height i o

-- what `curry` makes of a callable with this height
abbrev pub curried_height : Option Height → Option Height
curried_height None = None
curried_height (Some h) = curried_numbers h.ins h.outs

-- one callable and then another that takes j values: whether the first leaves as many, what it takes and leaves, and j and what the second leaves
abbrev pub composed_over : Bool → ℕ → ℕ → ℕ → Option ℕ → Option Height
composed_over true i o j None = limited_height i None
composed_over true i o j (Some p) = limited_height i (Some (o - j + p))
composed_over false i o j p = limited_height (i + j - o) p

-- likewise where the first may never return: then both never do
abbrev pub composed_numbers : ℕ → Option ℕ → ℕ → Option ℕ → Option Height
composed_numbers i None j p = limited_height i None
composed_numbers i (Some o) j p = composed_over (nat_le j o) i o j p

-- what `compose` makes of callables with these heights
abbrev pub composed_height : Option Height → Option Height → Option Height
composed_height None k = None
composed_height (Some h) None = None
composed_height (Some h) (Some k) = composed_numbers h.ins h.outs k.ins k.outs

-- whether the change of the number of values by i inputs and these outputs is that of j inputs and those outputs; what never returns makes every change
abbrev pub fits_outs : ℕ → Option ℕ → ℕ → Option ℕ → Bool
fits_outs i None j q = true
fits_outs i (Some o) j None = false
fits_outs i (Some o) j (Some q) = nat_eq (q + i) (o + j)

-- Whether a callable of the first height fits the second, which is declared: it takes no more, and never returns or changes the number of values as declared. Where it is declared never to return, it must never return.
abbrev pub fits : Height → Height → Bool
fits h k = nat_le h.ins k.ins && fits_outs h.ins h.outs k.ins k.outs
