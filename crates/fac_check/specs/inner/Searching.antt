-- How the least number of inputs is found.
use Rattle.std.specs.Prelude.{◌≡◌, ◌<◌, ◌≤◌, ℕ, Some, None}
use Rattle.std.specs.declared.option.Option.{Option}
use Rattle.fac_base.specs.declared.limits.TheConstants.{MOST_TRIED_INPUTS}
use Rattle.fac_base.specs.declared.height.Height.{Height}
use Rattle.fac_locals.specs.declared.closing.Closed.{Closed}
use Rattle.fac_check.specs.TemplateWalks.{IsFoundHeight}

-- fewer inputs than these break a rule
abbrev pub BreaksBelow : Closed → ℕ → ℕ → Type 0
BreaksBelow closed k low = (i : ℕ) → i < low → IsFoundHeight closed k i None

-- what was found with so many inputs; where nothing was yet, it is one more than are tried
abbrev pub FoundAt : Closed → ℕ → ℕ → Option Height → Type 0
FoundAt closed k high None = high ≡ 1025
FoundAt closed k high (Some h) = (h.ins ≡ high) × (high ≤ MOST_TRIED_INPUTS) × IsFoundHeight closed k high (Some h)

-- the height with the least number of inputs that break no rule, where there is one up to 1,024
abbrev pub IsLeast : Closed → ℕ → Option Height → Type 0
IsLeast closed k None = BreaksBelow closed k 1025
IsLeast closed k (Some h) = BreaksBelow closed k h.ins × (h.ins ≤ MOST_TRIED_INPUTS) × IsFoundHeight closed k h.ins (Some h)
