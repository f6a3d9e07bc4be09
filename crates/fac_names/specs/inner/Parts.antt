-- The parts of rows.
use Rattle.std.specs.Prelude.{◌≡◌, List, [], ◌∷◌, Option, None, Some}
use Rattle.fac_base.specs.declared.place.Place.{Place}
use Rattle.fac_source.specs.declared.token.Token.{Token}
use Rattle.fac_source.specs.declared.tree.Element.{Element}
use Rattle.fac_source.specs.declared.tree.Key.{Key}
use Rattle.fac_source.specs.declared.tree.DefinitionMark.{DefinitionMark}
use Rattle.fac_source.specs.declared.tree.Parent.{Parent}
use Rattle.fac_source.specs.declared.tree.Part.{Part}
use Rattle.fac_source.specs.declared.tree.Part.TheVariants as part
use Rattle.fac_source.specs.declared.tree.WrittenEffect.{WrittenEffect}
use Rattle.fac_parse.specs.Trees.{AreItems, IsLiteral, inputs_of}
use Rattle.fac_effect.specs.WrittenEffects.{IsEffect}

-- these names are the one part
pub record IsNamesPart (parts : List Part) (names : List Token) : Type 0 where
  pub ends : Place
  pub are : parts ≡ part.Names names ends ∷ []

-- the vocabulary and the names of a `FROM:`
pub record AreBrought (parts : List Part) (vocab : Token) (names : List Token) : Type 0 where
  pub key : Key
  pub place : Place
  pub ends : Place
  pub are : parts ≡ part.Name vocab ∷ part.Fixed key place ∷ part.Names names ends ∷ []

-- the name and the literal of a `CONSTANT:`
pub record IsConstant (parts : List Part) (name : Token) (elements : List Element) : Type 0 where
  pub are : parts ≡ part.Name name ∷ part.Literal elements ∷ []
  pub literal : IsLiteral elements

-- the parts of a definition
pub record IsDefinition (parts : List Part) (name : Token) (written : WrittenEffect) (elements : List Element) (marks : List DefinitionMark) : Type 0 where
  pub ends : Place
  pub are : parts ≡ part.Name name ∷ part.Effect written ∷ part.Items elements ends ∷ part.Marks marks ∷ []
  pub items : AreItems None elements

-- and of one whose inputs are locals
pub record IsLocals (parts : List Part) (name : Token) (written : WrittenEffect) (elements : List Element) (marks : List DefinitionMark) : Type 0 where
  pub ends : Place
  pub are : parts ≡ part.Name name ∷ part.Effect written ∷ part.Items elements ends ∷ part.Marks marks ∷ []
  pub effect : IsEffect written.tokens written.effect
  pub items : AreItems (Some (inputs_of (part.Effect written))) elements

-- the name, the parent and the slots of a tuple class
pub record IsTuple (parts : List Part) (name : Token) (parent : Option Parent) (slots : List Token) : Type 0 where
  pub ends : Place
  pub are : parts ≡ part.Name name ∷ part.Slots parent slots ends ∷ []

-- the name and the members of a union
pub record IsUnion (parts : List Part) (name : Token) (members : List Token) : Type 0 where
  pub ends : Place
  pub are : parts ≡ part.Name name ∷ part.Names members ends ∷ []

-- the class, the generic and the items of a method
pub record IsMethod (parts : List Part) (class : Token) (generic : Token) (elements : List Element) : Type 0 where
  pub ends : Place
  pub marks : List DefinitionMark
  pub are : parts ≡ part.Name class ∷ part.Name generic ∷ part.Items elements ends ∷ part.Marks marks ∷ []
  pub items : AreItems None elements
