-- Lists that are made from left to right.
use Rattle.std.specs.Prelude.{ℕ, zero, suc, List, [], ◌∷◌, ◌++◌, Option, Some, None}
use Rattle.std.specs.Option.{option_map}
use Rattle.fac_lang.specs.Procedures.{picked}
use Rattle.fac_abs.specs.Marks.{piled}

-- Each element of a list makes one value from the values before it.
module _ {A B : Type 0} (step : List B → A → B) where
  abbrev pub in_turn : List A → List B → List B
  in_turn [] made = made
  in_turn (a ∷ more) made = in_turn more (made ++ step made a ∷ [])

-- Each element passes a test with its place, where the first has place k.
module _ {A : Type 0} (ok : ℕ → A → Type 0) where
  abbrev pub FitsInTurn : ℕ → List A → Type 0
  FitsInTurn k [] = Unit {0}
  FitsInTurn k (a ∷ more) = ok k a × FitsInTurn (suc k) more

module _ {A : Type 0} where
  -- what lies under the first n values
  abbrev pub under : ℕ → List A → Option (List A)
  under zero xs = Some xs
  under (suc n) [] = None
  under (suc n) (x ∷ xs) = under n xs

  -- the first n values, the last of them first, on those that were taken before
  abbrev pub taken : ℕ → List A → List A → List A
  taken zero before xs = before
  taken (suc n) before [] = before
  taken (suc n) before (x ∷ xs) = taken n (x ∷ before) xs

  -- The first n values are taken, and those of them at these places put back, the last on top; the deepest that was taken is at place 0. None where there are fewer values.
  abbrev pub moved : A → ℕ → List ℕ → List A → Option (List A)
  moved d n places xs = option_map (piled (picked d (taken n [] xs) places)) (under n xs)
