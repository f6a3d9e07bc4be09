-- The names that a text defines, put behind others.
use Rattle.std.proofs.Common.{◌≡◌, ℕ, List, ◌++◌, false, Result, Ok, Err, OnOk}
use Rattle.fac_token.specs.declared.spotting.Spot.{Spot}
use Rattle.fac_explain.specs.Places.{AreSpots}
use Rattle.fac_explain.specs.Names.{AddsDefined, names_behind}

pub adds_defined : {A E : Type 0} (r : Result A E) (text : List ℕ) (spots : List Spot) (names now : List (List ℕ)) → AreSpots text spots → OnOk r (now ≡ names ++ names_behind text false spots) → OnOk r (AddsDefined text names now)
adds_defined (Ok x) text spots names now are is = record { spots = spots; are = are; is = is }
adds_defined (Err x) text spots names now are is = tt
