-- Which refusal is kept.
use Rattle.std.specs.Prelude.{Option, Some, None, Bool, true}
use Rattle.fac_source.specs.declared.refusal.NameFault.{NameFault}
use Rattle.fac_source.specs.Refusals.{comes_before}

-- whether a refusal comes before the first one so far
abbrev pub is_sooner : Option NameFault → NameFault → Bool
is_sooner None fault = true
is_sooner (Some first) fault = comes_before fault first
