-- Items as they nest: pairs of brackets with what stands in them. What is said of levels, elements, locals and holes, said of what nests.
use Rattle.std.specs.Prelude.{◌≡◌, ◌≤◌, ◌<◌, ◌+◌, ℕ, suc, nat_lt, Option, Some, None, List, [], ◌∷◌, ◌++◌, length, if◌then◌else◌}
use Rattle.fac_base.specs.declared.place.Place.{Place}
use Rattle.fac_source.specs.declared.token.Token.{Token}
use Rattle.fac_source.specs.declared.tree.Term.{Term}
use Rattle.fac_source.specs.declared.tree.Term.TheVariants as term
use Rattle.fac_source.specs.declared.tree.Element.{Element}
use Rattle.fac_source.specs.declared.tree.Element.TheVariants as element
use Rattle.fac_source.specs.declared.tree.Bracket.{Bracket}
use Rattle.fac_source.specs.declared.tree.Bracket.TheVariants.{Quotation, Array, Fry}
use Rattle.fac_parse.specs.Contexts.{most_levels, most_elements, most_locals, most_holes, locals_in}
use Rattle.fac_parse.specs.Trees.{AreItems, AreLocalNames, IsLiteral, IsTerm}

mutual
  -- an item without a bracket, or a pair of brackets with what stands in it
  pub data Node : Type 0 where
    single : Term → Node
    enclosed : Bracket → Place → Nodes → Place → Node
    -- a quotation with locals: the place of its `[|`, the names of its inputs, the place of its `|`, its items, and the place of its `]`
    with_inputs : Place → List Token → Place → Nodes → Place → Node

  pub data Nodes : Type 0 where
    nothing : Nodes
    more : Node → Nodes → Nodes

-- As they are written.

-- the bracket that closes one
abbrev pub closing : Bracket → Bracket
closing Quotation = Quotation
closing Array = Array
closing Fry = Quotation

abbrev mutual
  pub nodes_elements : Nodes → List Element
  nodes_elements nothing = []
  nodes_elements (more x xs) = node_elements x ++ nodes_elements xs

  pub node_elements : Node → List Element
  node_elements (single t) = element.Item t ∷ []
  node_elements (enclosed bracket opens xs closes) = element.Opens bracket opens ∷ nodes_elements xs ++ element.Closes (closing bracket) closes ∷ []
  node_elements (with_inputs opens names bar xs closes) = element.OpensLocals opens names bar ∷ nodes_elements xs ++ element.Closes Quotation closes ∷ []

-- Names and literals are what they are to be, and the inputs of a quotation are names of locals.
abbrev mutual
  pub AreSpelled : Nodes → Type 0
  AreSpelled nothing = Unit {0}
  AreSpelled (more x xs) = IsSpelled x × AreSpelled xs

  pub IsSpelled : Node → Type 0
  IsSpelled (single t) = IsTerm t
  IsSpelled (enclosed bracket opens xs closes) = AreSpelled xs
  IsSpelled (with_inputs opens names bar xs closes) = AreLocalNames names × AreSpelled xs

-- Levels.

abbrev pub larger : ℕ → ℕ → ℕ
larger m n = (if nat_lt m n then n else m)

-- How deep brackets nest: quotations, fries and arrays are counted together.
abbrev mutual
  pub levels : Nodes → ℕ
  levels nothing = 0
  levels (more x xs) = larger (levels_of x) (levels xs)

  pub levels_of : Node → ℕ
  levels_of (single t) = 0
  levels_of (enclosed bracket opens xs closes) = suc (levels xs)
  levels_of (with_inputs opens names bar xs closes) = suc (levels xs)

-- Elements.

-- An element of an array: a name, `\ n`, a literal, a quotation without locals, or an array.
abbrev pub IsElementOfArray : Node → Type 0
IsElementOfArray (single (term.Name token)) = Unit {0}
IsElementOfArray (single (term.Wrapped sign name)) = Unit {0}
IsElementOfArray (single (term.Literal token l)) = Unit {0}
IsElementOfArray (enclosed Quotation opens xs closes) = Unit {0}
IsElementOfArray (enclosed Array opens xs closes) = Unit {0}
IsElementOfArray _ = ⊥

abbrev pub AreElementsOfArray : Nodes → Type 0
AreElementsOfArray nothing = Unit {0}
AreElementsOfArray (more x xs) = IsElementOfArray x × AreElementsOfArray xs

-- how many stand directly beside one another
abbrev pub count : Nodes → ℕ
count nothing = 0
count (more x xs) = suc (count xs)

-- what stands in a pair of brackets: in an array at most so many elements
abbrev pub IsFilled : Bracket → Nodes → Type 0
IsFilled Array xs = AreElementsOfArray xs × (count xs ≤ most_elements)
IsFilled _ xs = Unit {0}

abbrev mutual
  pub ArraysAreFilled : Nodes → Type 0
  ArraysAreFilled nothing = Unit {0}
  ArraysAreFilled (more x xs) = ArraysInAreFilled x × ArraysAreFilled xs

  pub ArraysInAreFilled : Node → Type 0
  ArraysInAreFilled (single t) = Unit {0}
  ArraysInAreFilled (enclosed bracket opens xs closes) = IsFilled bracket xs × ArraysAreFilled xs
  ArraysInAreFilled (with_inputs opens names bar xs closes) = ArraysAreFilled xs

-- Locals. So many are in scope, or none may be bound.

abbrev pub one_more : Option ℕ → Option ℕ
one_more None = None
one_more (Some n) = Some (n + 1)

-- behind a node
abbrev pub scope_behind : Option ℕ → Node → Option ℕ
scope_behind scope (single (term.Bind sign name)) = one_more scope
scope_behind scope _ = scope

abbrev pub MayBind : Option ℕ → Type 0
MayBind None = ⊥
MayBind (Some n) = n < most_locals

-- A local is in scope behind its binding, to the end of what it stands in, and in all that stands between. Where so many are in scope no further one is bound.
abbrev mutual
  pub LocalsFit : Option ℕ → Nodes → Type 0
  LocalsFit scope nothing = Unit {0}
  LocalsFit scope (more x xs) = LocalsInFit scope x × LocalsFit (scope_behind scope x) xs

  pub LocalsInFit : Option ℕ → Node → Type 0
  LocalsInFit scope (single (term.Bind sign name)) = MayBind scope
  LocalsInFit scope (single t) = Unit {0}
  LocalsInFit scope (enclosed bracket opens xs closes) = LocalsFit scope xs
  LocalsInFit scope (with_inputs opens names bar xs closes) = (locals_in scope + length names ≤ most_locals) × LocalsFit (Some (locals_in scope + length names)) xs

-- Holes.

-- How many holes the fry around has of these. Those in quotations are its own, and those in a fry or in an array aren't.
abbrev mutual
  pub holes : Nodes → ℕ
  holes nothing = 0
  holes (more x xs) = holes_of x + holes xs

  pub holes_of : Node → ℕ
  holes_of (single (term.Hole place)) = 1
  holes_of (single (term.CalledHole place)) = 1
  holes_of (single t) = 0
  holes_of (enclosed Quotation opens xs closes) = holes xs
  holes_of (enclosed bracket opens xs closes) = 0
  holes_of (with_inputs opens names bar xs closes) = holes xs

-- how many a pair of brackets may have: a fry so many, and an array none
abbrev pub MayHave : Bracket → ℕ → Type 0
MayHave Quotation n = Unit {0}
MayHave Fry n = n ≤ most_holes
MayHave Array n = n ≡ 0

abbrev mutual
  pub HolesFit : Nodes → Type 0
  HolesFit nothing = Unit {0}
  HolesFit (more x xs) = HolesInFit x × HolesFit xs

  pub HolesInFit : Node → Type 0
  HolesInFit (single t) = Unit {0}
  HolesInFit (enclosed bracket opens xs closes) = MayHave bracket (holes xs) × HolesFit xs
  HolesInFit (with_inputs opens names bar xs closes) = HolesFit xs

-- Items, where so many locals are in scope before the first one, or none may be bound.
pub record AreWell (scope : Option ℕ) (xs : Nodes) : Type 0 where
  pub spelled : AreSpelled xs
  pub few_levels : levels xs ≤ most_levels
  pub arrays : ArraysAreFilled xs
  pub locals : LocalsFit scope xs
  pub holes_in_fries : HolesFit xs
  pub no_hole_outside : holes xs ≡ 0

-- Elements are items exactly where they are such nodes as they are written.
pub record Nest (scope : Option ℕ) (elements : List Element) : Type 0 where
  pub nodes : Nodes
  pub written : elements ≡ nodes_elements nodes
  pub well : AreWell scope nodes

-- The items of a form are those that nest well, and no others.
abbrev pub ItemsNest : Type 0
ItemsNest = (scope : Option ℕ) (elements : List Element) → (AreItems scope elements → Nest scope elements) × (Nest scope elements → AreItems scope elements)

-- Elements are written of no two lists of nodes.
abbrev pub OneNesting : Type 0
OneNesting = (xs ys : Nodes) → nodes_elements xs ≡ nodes_elements ys → xs ≡ ys

-- a literal
abbrev pub IsLiteralNode : Node → Type 0
IsLiteralNode (single (term.Wrapped sign name)) = Unit {0}
IsLiteralNode (single (term.Literal token l)) = Unit {0}
IsLiteralNode (enclosed Quotation opens xs closes) = Unit {0}
IsLiteralNode (enclosed Array opens xs closes) = Unit {0}
IsLiteralNode _ = ⊥

-- one item that is a literal
pub record NestsAsLiteral (elements : List Element) : Type 0 where
  pub node : Node
  pub written : elements ≡ node_elements node
  pub literal : IsLiteralNode node
  pub well : AreWell None (more node nothing)

-- likewise the literal of a constant
abbrev pub LiteralsNest : Type 0
LiteralsNest = (elements : List Element) → (IsLiteral elements → NestsAsLiteral elements) × (NestsAsLiteral elements → IsLiteral elements)
