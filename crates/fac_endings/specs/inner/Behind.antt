-- What stands behind the first refusal.
use Rattle.std.specs.Prelude.{List, [], ◌∷◌, nat_eq, nat_lt, Option, Some, None, Bool, true, false, ◌&&◌, ◌||◌}
use Rattle.fac_base.specs.declared.place.Place.{Place}
use Rattle.fac_source.specs.declared.refusal.NameFault.{NameFault}
use Rattle.fac_source.specs.declared.tok.Tok.{Tok}

abbrev pub place_before : Place → Place → Bool
place_before p q = nat_lt p.file q.file || (nat_eq p.file q.file && nat_lt p.token q.token)

abbrev pub is_behind : Option NameFault → Place → Bool
is_behind None p = false
is_behind (Some f) p = place_before f.place p

abbrev pub are_behind : Option NameFault → List Tok → Bool
are_behind first [] = true
are_behind first (t ∷ ts) = is_behind first t.place && are_behind first ts
