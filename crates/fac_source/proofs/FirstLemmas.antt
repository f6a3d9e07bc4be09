-- Which refusal is kept.
use Rattle.std.proofs.Common.{◌≡◌, Bool, true, false, Option, Some, None, refl, ap}
use Rattle.std.specs.Prelude.{if◌then◌else◌}
use Rattle.fac_source.specs.declared.refusal.NameFault.{NameFault}
use Rattle.fac_source.specs.Refusals.{sooner}
use Rattle.fac_source.specs.inner.First.{is_sooner}

pub kept : (first : Option NameFault) (fault : NameFault) → true ≡ is_sooner first fault → Some fault ≡ sooner first fault
kept None fault h = refl
kept (Some g) fault h = ap (λ (b : Bool). Some (if b then fault else g)) h

pub stays : (first : Option NameFault) (fault : NameFault) → false ≡ is_sooner first fault → first ≡ sooner first fault
stays None fault h = cc
stays (Some g) fault h = ap (λ (b : Bool). Some (if b then fault else g)) h
