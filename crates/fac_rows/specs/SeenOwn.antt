-- The effect of the row word that is checked, as contracts see it.
use Rattle.std.specs.Prelude.{Option, Some, None}
use Rattle.fac_base.specs.Signatures.{Signature}
use Rattle.fac_rows.specs.declared.own_effect.OwnEffect.{OwnEffect}

abbrev pub own_seen : Option OwnEffect → Option Signature
own_seen None = None
own_seen (Some o) = Some o.effect.now
