-- Chains of parents, as they are gone through with a note of each class that was met.
use Rattle.std.specs.Prelude.{◌≡◌, ℕ, zero, suc, ◌+◌, nat_lt, List, [], ◌∷◌, ◌++◌, length, map, set, slice_get, Option, Some, None, Bool, true, false}
use Rattle.std.specs.Global.{Vec}
use Rattle.fac_lang.specs.Classes.{shape_at, parent_in}
use Rattle.fac_lang.specs.Whole.{joined}
use Rattle.fac_lang.specs.declared.program.ClassDef.{ClassDef}
use Rattle.fac_endings.specs.declared.parents.Chain.{Chain}
use Rattle.fac_endings.specs.ClassTable.{inherited, slots_at}
use Rattle.fac_endings.specs.LastRefusals.{most_slots}

-- the slots of these classes
abbrev pub slots_of : List ClassDef → List ℕ → List (List ℕ)
slots_of cs bs = joined (map (slots_at cs) bs)

abbrev pub is_unmet : Option Bool → Bool
is_unmet (Some false) = true
is_unmet _ = false

-- whether a class wasn't met, which is noted
abbrev pub Meets : ℕ → List Bool → List Bool → Bool → Type 0
Meets c before after true = (is_unmet (slice_get before c) ≡ true) × (after ≡ set before c true)
Meets c before after false = (is_unmet (slice_get before c) ≡ false) × (after ≡ before)

abbrev pub if_unmet : Bool → ℕ → Option ℕ
if_unmet true p = Some p
if_unmet false p = None

abbrev pub unmet_in : List Bool → Option ℕ → Option ℕ
unmet_in met None = None
unmet_in met (Some p) = if_unmet (is_unmet (slice_get met p)) p

-- the parent of a class, where it is there and wasn't met
abbrev pub next_in : List ClassDef → List Bool → ℕ → Option ℕ
next_in cs met c = unmet_in met (parent_in (shape_at cs c))

abbrev pub met_with : Option ℕ → List Bool → List Bool
met_with None met = met
met_with (Some p) met = set met p true

abbrev pub and_others : (ℕ → List ℕ) → Option ℕ → List ℕ
and_others others None = []
and_others others (Some p) = p ∷ others p

-- the parents that are met in at most so many steps
abbrev pub walk : ℕ → List ClassDef → List Bool → ℕ → List ℕ
walk zero cs met c = []
walk (suc n) cs met c = and_others (λ p. walk n cs (set met p true) p) (next_in cs met c)

-- A chain goes on, as far as its slots aren't too many. `rest` are the slots that it leaves out.
pub record Climbs (cs : List ClassDef) (met : List Bool) (before after : Chain) : Type 0 where
  pub rest : List (List ℕ)
  pub slots : slots_of cs before.bearers.items ++ slots_of cs (walk (length cs) cs met before.at) ≡ slots_of cs after.bearers.items ++ rest
  pub count : after.count + length (slots_of cs before.bearers.items) ≡ before.count + length (slots_of cs after.bearers.items)
  pub all : nat_lt most_slots after.count ≡ false → rest ≡ []

-- the classes that give a class slots; none where these are too many with its own, which are so many
abbrev pub Bears : List ClassDef → ℕ → ℕ → Option (Vec ℕ) → Type 0
Bears cs c own None = nat_lt most_slots (own + length (inherited cs c)) ≡ true
Bears cs c own (Some bearers) = (nat_lt most_slots (own + length (inherited cs c)) ≡ false) × (slots_of cs bearers.items ≡ inherited cs c)
