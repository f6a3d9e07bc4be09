-- Looking names up in one list of files and then in another.
use Rattle.std.proofs.Common.{◌≡◌, ℕ, List, [], ◌∷◌, ◌++◌, arith, refl}
use Rattle.std.specs.Option.{option_or}
use Rattle.fac_io.specs.Names.{bytes_of}

pub bytes_of_append : (xs ys : List (List ℕ × List ℕ)) (name : List ℕ) → bytes_of (xs ++ ys) name ≡ option_or (bytes_of xs name) (bytes_of ys name)
bytes_of_append [] ys name = refl
bytes_of_append (x ∷ xs) ys name = let ih = bytes_of_append xs ys name in grind (arith, ih)
