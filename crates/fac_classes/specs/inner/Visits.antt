-- A walk through all classes, which leaves a class behind all of its members.
use Rattle.std.specs.Prelude.{◌≡◌, ◌⊎◌, ◌<◌, ℕ, zero, suc, ◌+◌, List, [], ◌∷◌, map, length, take, get_or, Bool, true, false, Some, slice_get}
use Rattle.fac_lang.specs.declared.program.ClassDef.{ClassDef}
use Rattle.fac_classes.specs.declared.visits.Visit.{Visit}
use Rattle.fac_classes.specs.declared.visits.Visit.TheVariants.{Enter as enter, Leave as leave}
use Rattle.fac_classes.specs.inner.Members.{IsIn, members}

-- the class of a visit
abbrev pub visited : Visit → ℕ
visited (enter c) = c
visited (leave c) = c

-- a class is one of those that are to be visited
abbrev pub IsThere : ℕ → List Visit → Type 0
IsThere m [] = ⊥
IsThere m (v ∷ vs) = (m ≡ visited v) ⊎ IsThere m vs

-- what entering a class comes to: it is left after its members were entered
abbrev pub visits_of : List ClassDef → ℕ → List Visit
visits_of cs c = leave c ∷ map enter (members cs c)

-- each member of a class that is to be left was left, or is to be visited before
abbrev pub MembersWait : List ClassDef → List ℕ → Visit → List Visit → Type 0
MembersWait cs order (enter c) vs = Unit {0}
MembersWait cs order (leave c) vs = (m : ℕ) → IsIn m (members cs c) → IsIn m order ⊎ IsThere m vs

abbrev pub Waits : List ClassDef → List ℕ → List Visit → Type 0
Waits cs order [] = Unit {0}
Waits cs order (v ∷ vs) = MembersWait cs order v vs × Waits cs order vs

-- each class of a list comes behind its members
abbrev pub ComesBehind : List ClassDef → List ℕ → Type 0
ComesBehind cs order = (i c m : ℕ) → slice_get order i ≡ Some c → IsIn m (members cs c) → IsIn m (take i order)

-- all classes, each behind its members
pub record IsOrder (cs : List ClassDef) (order : List ℕ) : Type 0 where
  pub low : (c : ℕ) → IsIn c order → c < length cs
  pub behind : ComesBehind cs order
  pub all : (c : ℕ) → c < length cs → IsIn c order

-- a walk that has left the classes of a list and has these visits before it, the last first; flags tell which classes were left
pub record Walks (cs : List ClassDef) (done : List Bool) (order : List ℕ) (stack : List Visit) : Type 0 where
  pub flags : length done ≡ length cs
  pub known : (c : ℕ) → get_or done c false ≡ true → IsIn c order
  pub low : (c : ℕ) → IsIn c order → c < length cs
  pub behind : ComesBehind cs order
  pub low_visits : (c : ℕ) → IsThere c stack → c < length cs
  pub waits : Waits cs order stack
  pub left : (c : ℕ) → c < length cs → IsIn c order ⊎ IsThere c stack

-- How much is before a walk.
abbrev pub total : (ℕ → ℕ) → List ℕ → ℕ
total f [] = 0
total f (x ∷ xs) = f x + total f xs

abbrev pub weight : ℕ → List ClassDef → ℕ → ℕ
weight zero cs c = 0
weight (suc n) cs c = 2 + total (λ m. weight n cs m) (members cs c)

abbrev pub visit_weight : List ClassDef → Visit → ℕ
visit_weight cs (enter c) = weight (length cs) cs c
visit_weight cs (leave c) = 1

abbrev pub left_weight : List ClassDef → List Visit → ℕ
left_weight cs [] = 0
left_weight cs (v ∷ vs) = visit_weight cs v + left_weight cs vs

-- a step of a walk goes on with less before it
pub record StepsTo (cs : List ClassDef) (before : List Visit) (done : List Bool) (order : List ℕ) (stack : List Visit) : Type 0 where
  pub walks : Walks cs done order stack
  pub less : left_weight cs stack < left_weight cs before
