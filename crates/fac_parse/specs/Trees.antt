-- Trees, their tokens, and which trees are well-formed.
use Rattle.std.specs.Prelude.{◌≡◌, ◌≤◌, ◌<◌, ◌+◌, ◌⊎◌, ℕ, Bool, true, false, Option, Some, None, List, [], ◌∷◌, ◌++◌, length, take, codes, Result, Ok, Err}
use Rattle.std.specs.Str.{bytes_eq}
use Rattle.fac_base.specs.declared.limits.TheConstants.{MOST_SLOTS}
use Rattle.fac_base.specs.declared.place.Place.{Place}
use Rattle.fac_base.specs.declared.height.Height.{Height}
use Rattle.fac_source.specs.declared.token.Token.{Token}
use Rattle.fac_source.specs.declared.tree.Tree.{Tree}
use Rattle.fac_source.specs.declared.tree.Term.{Term}
use Rattle.fac_source.specs.declared.tree.Term.TheVariants as term
use Rattle.fac_source.specs.declared.tree.Literal.TheVariants.{True, False}
use Rattle.fac_source.specs.declared.tree.Element.{Element}
use Rattle.fac_source.specs.declared.tree.Element.TheVariants as element
use Rattle.fac_source.specs.declared.tree.Bracket.{Bracket}
use Rattle.fac_source.specs.declared.tree.Bracket.TheVariants.{Fry}
use Rattle.fac_source.specs.declared.tree.DefinitionMark.{DefinitionMark}
use Rattle.fac_source.specs.declared.tree.DefinitionMark.TheVariants.{Inline, Recursive}
use Rattle.fac_source.specs.declared.tree.Form.{Form}
use Rattle.fac_source.specs.declared.tree.Form.TheVariants.{Row, Items}
use Rattle.fac_source.specs.declared.tree.Part.{Part}
use Rattle.fac_source.specs.declared.tree.Part.TheVariants as part
use Rattle.fac_source.specs.declared.tree.Parent.{Parent}
use Rattle.fac_effect.specs.declared.spelling.Spelling.{Spelling}
use Rattle.fac_effect.specs.declared.spelling.Spelling.TheVariants as spelled
use Rattle.fac_parse.specs.declared.reader.ParseFault.{ParseFault}
use Rattle.fac_parse.specs.declared.reader.ParseFault.TheVariants.{Syntax, Memory}
use Rattle.fac_parse.specs.declared.reader.Why.{Why}
use Rattle.fac_parse.specs.declared.reader.Why.TheVariants.{End, Other}
use Rattle.fac_parse.specs.declared.context.Context.{Context}
use Rattle.fac_source.specs.declared.form_table.Slot.{Slot}
use Rattle.fac_source.specs.declared.form_table.Slot.TheVariants as slot
use Rattle.fac_parse.specs.declared.form_parts.Naming.{Naming}
use Rattle.fac_parse.specs.declared.form_parts.Naming.TheVariants as naming
use Rattle.fac_parse.specs.declared.form_parts.Marked.{Marked}
use Rattle.fac_parse.specs.declared.form_parts.Marked.TheVariants as marked
use Rattle.fac_base.specs.Signatures.{Signature}
use Rattle.fac_base.specs.Effects.{effect_height}
use Rattle.fac_effect.specs.Spellings.{key_text, wrap_text, call_text, opening_text, closing_text, plain_token, token_text, token_spelling}
use Rattle.fac_effect.specs.WrittenEffects.{IsEffect}
use Rattle.fac_effect.specs.LocalNames.{is_local_name, takes_locals}
use Rattle.fac_effect.specs.RowlessEffects.{IsRowless}
use Rattle.fac_source.specs.FormRows.{head_of, slots_of}
use Rattle.fac_parse.specs.Contexts.{items_in, inside, behind}

abbrev pub term_tokens : Term → List Token
term_tokens (term.Name token) = token ∷ []
term_tokens (term.Wrapped sign name) = plain_token sign wrap_text ∷ name ∷ []
term_tokens (term.EffectCall callee sign tokens height) = plain_token sign (call_text callee) ∷ tokens
term_tokens (term.Literal token l) = token ∷ []
term_tokens (term.NextMethod place) = plain_token place (codes "call-next-method") ∷ []
term_tokens (term.Bind sign name) = plain_token sign (codes ":>") ∷ name ∷ []
term_tokens (term.Hole place) = plain_token place (codes "_") ∷ []
term_tokens (term.CalledHole place) = plain_token place (codes "@") ∷ []

abbrev pub element_tokens : Element → List Token
element_tokens (element.Item item) = term_tokens item
element_tokens (element.Opens bracket place) = plain_token place (opening_text bracket) ∷ []
element_tokens (element.OpensLocals opens names bar) = plain_token opens (codes "[|") ∷ names ++ plain_token bar (codes "|") ∷ []
element_tokens (element.Closes bracket place) = plain_token place (closing_text bracket) ∷ []

-- the tokens of items, in order
abbrev pub items_tokens : List Element → List Token
items_tokens [] = []
items_tokens (element ∷ elements) = element_tokens element ++ items_tokens elements

abbrev pub mark_token : DefinitionMark → Token
mark_token (Inline place) = plain_token place (codes "inline")
mark_token (Recursive place) = plain_token place (codes "recursive")

-- the tokens of marks, in order
abbrev pub marks_tokens : List DefinitionMark → List Token
marks_tokens [] = []
marks_tokens (mark ∷ marks) = mark_token mark ∷ marks_tokens marks

-- the parent of a tuple class, behind its sign
abbrev pub parent_tokens : Option Parent → List Token
parent_tokens None = []
parent_tokens (Some parent) = plain_token parent.sign (codes "<") ∷ parent.class ∷ []

abbrev pub part_tokens : Part → List Token
part_tokens (part.Name name) = name ∷ []
part_tokens (part.Names names ends) = names ++ plain_token ends (codes ";") ∷ []
part_tokens (part.Fixed key place) = plain_token place (key_text key) ∷ []
part_tokens (part.Effect effect) = effect.tokens
part_tokens (part.Items elements ends) = items_tokens elements ++ plain_token ends (codes ";") ∷ []
part_tokens (part.Literal elements) = items_tokens elements
part_tokens (part.Slots parent names ends) = parent_tokens parent ++ names ++ plain_token ends (codes ";") ∷ []
part_tokens (part.Marks marks) = marks_tokens marks

-- the tokens of parts, in order
abbrev pub parts_tokens : List Part → List Token
parts_tokens [] = []
parts_tokens (p ∷ ps) = part_tokens p ++ parts_tokens ps

abbrev pub form_tokens : Form → List Token
form_tokens (Row kind opens parts) = plain_token opens (head_of kind) ∷ parts_tokens parts
form_tokens (Items elements) = items_tokens elements

-- the tokens of the forms, in order
abbrev pub flatten : List Form → List Token
flatten [] = []
flatten (form ∷ forms) = form_tokens form ++ flatten forms

-- what a token is where a name stands: `t` and `f` are names of classes
abbrev pub named : Naming → Spelling → Spelling
named naming.Class (spelled.Literal True) = spelled.Name
named naming.Class (spelled.Literal False) = spelled.Name
named _ s = s

abbrev pub IsName : Naming → Token → Type 0
IsName kind token = named kind (token_spelling token.kind) ≡ spelled.Name

abbrev pub AreNames : Naming → List Token → Type 0
AreNames kind [] = Unit {0}
AreNames kind (token ∷ tokens) = IsName kind token × AreNames kind tokens

-- Slots of a tuple class: at most so many names, of which none is the sign that stands before a parent.
abbrev pub most_slots : ℕ
most_slots = MOST_SLOTS

abbrev pub is_parent_sign : Token → Bool
is_parent_sign token = bytes_eq (token_text token.kind) (codes "<")

abbrev pub AreSlots : List Token → Type 0
AreSlots [] = Unit {0}
AreSlots (token ∷ tokens) = IsName naming.Any token × (is_parent_sign token ≡ false) × AreSlots tokens

abbrev pub IsParent : Option Parent → Type 0
IsParent None = Unit {0}
IsParent (Some parent) = IsName naming.Any parent.class

-- the name of a local
abbrev pub IsLocalName : Token → Type 0
IsLocalName token = IsName naming.Any token × (is_local_name (token_text token.kind) ≡ true)

abbrev pub AreLocalNames : List Token → Type 0
AreLocalNames [] = Unit {0}
AreLocalNames (token ∷ tokens) = IsLocalName token × AreLocalNames tokens

-- The tokens behind a `(` of an effect without row variables, and how many values it declares to be taken and left.
abbrev pub IsDeclared : Place → List Token → Height → Type 0
IsDeclared opens tokens height = (effect : Signature) × IsRowless opens tokens effect × (height ≡ effect_height effect)

abbrev pub IsTerm : Term → Type 0
IsTerm (term.Name token) = token_spelling token.kind ≡ spelled.Name
IsTerm (term.Wrapped sign name) = token_spelling name.kind ≡ spelled.Name
IsTerm (term.EffectCall callee sign tokens height) = IsDeclared sign tokens height
IsTerm (term.Literal token l) = token_spelling token.kind ≡ spelled.Literal l
IsTerm (term.NextMethod place) = Unit {0}
IsTerm (term.Bind sign name) = IsLocalName name
IsTerm (term.Hole place) = Unit {0}
IsTerm (term.CalledHole place) = Unit {0}

-- The bracket that closes a fry is that of a quotation.
abbrev pub IsElement : Element → Type 0
IsElement (element.Item item) = IsTerm item
IsElement (element.OpensLocals opens names bar) = AreLocalNames names
IsElement (element.Closes Fry place) = ⊥
IsElement _ = Unit {0}

-- each of these elements may stand where it does, from where this is open to where that is
abbrev pub Lead : List Context → List Element → List Context → Type 0
Lead from [] to = from ≡ to
Lead from (element ∷ elements) to = IsElement element × (next : List Context) × (behind from element ≡ Some next) × Lead next elements to

-- items whose brackets match, with so many locals in scope before them, or where no local may be bound
abbrev pub AreItems : Option ℕ → List Element → Type 0
AreItems locals elements = (to : Context) × Lead (items_in locals ∷ []) elements (to ∷ [])

abbrev pub IsLiteralTerm : Term → Type 0
IsLiteralTerm (term.Name token) = ⊥
IsLiteralTerm (term.EffectCall callee sign tokens height) = ⊥
IsLiteralTerm (term.NextMethod place) = ⊥
IsLiteralTerm (term.Bind sign name) = ⊥
IsLiteralTerm (term.Hole place) = ⊥
IsLiteralTerm (term.CalledHole place) = ⊥
IsLiteralTerm item = IsTerm item

-- Elements up to the one that closes the outermost bracket. A bracket is open before each of them.
abbrev pub Encloses : List Context → List Element → Type 0
Encloses (c ∷ []) [] = Unit {0}
Encloses (c ∷ d ∷ contexts) (element ∷ elements) = IsElement element × (next : List Context) × (behind (c ∷ d ∷ contexts) element ≡ Some next) × Encloses next elements
Encloses _ _ = ⊥

-- a fry is no literal
abbrev pub IsLiteralBracket : Bracket → Type 0
IsLiteralBracket Fry = ⊥
IsLiteralBracket _ = Unit {0}

-- one item that is a literal
abbrev pub IsLiteral : List Element → Type 0
IsLiteral (element.Item item ∷ []) = IsLiteralTerm item
IsLiteral (element.Opens bracket place ∷ elements) = IsLiteralBracket bracket × Encloses (inside bracket (items_in None) ∷ items_in None ∷ []) elements
IsLiteral _ = ⊥

-- marks of one definition: of a word each of the two at most once, in any order, and of a method at most one `inline`
abbrev pub AreMarks : Marked → List DefinitionMark → Type 0
AreMarks marked.Word [] = Unit {0}
AreMarks marked.Word (mark ∷ []) = Unit {0}
AreMarks marked.Word (Inline place ∷ Recursive other ∷ []) = Unit {0}
AreMarks marked.Word (Recursive place ∷ Inline other ∷ []) = Unit {0}
AreMarks marked.Method [] = Unit {0}
AreMarks marked.Method (Inline place ∷ []) = Unit {0}
AreMarks _ _ = ⊥

-- the inputs of an effect, and of no other part
abbrev pub inputs_of : Part → ℕ
inputs_of (part.Effect effect) = (effect_height effect.effect).ins
inputs_of _ = 0

-- Whether a part fills a slot. The part before it has so many inputs.
abbrev pub Fills : ℕ → Slot → Part → Type 0
Fills n slot.Name (part.Name name) = IsName naming.Any name
Fills n slot.Class (part.Name name) = IsName naming.Class name
Fills n slot.Names (part.Names names ends) = AreNames naming.Any names
Fills n slot.Classes (part.Names names ends) = AreNames naming.Class names
Fills n slot.Slots (part.Slots parent names ends) = IsParent parent × AreSlots names × (length names ≤ most_slots)
Fills n (slot.Fixed key) (part.Fixed other place) = key ≡ other
Fills n slot.Effect (part.Effect effect) = IsEffect effect.tokens effect.effect
Fills n slot.LocalsEffect (part.Effect effect) = IsEffect effect.tokens effect.effect × (takes_locals effect.effect ≡ true)
Fills n slot.Items (part.Items elements ends) = AreItems None elements
Fills n slot.LocalsItems (part.Items elements ends) = AreItems (Some n) elements
Fills n slot.Literal (part.Literal elements) = IsLiteral elements
Fills n slot.Marks (part.Marks marks) = AreMarks marked.Word marks
Fills n slot.MethodMark (part.Marks marks) = AreMarks marked.Method marks
Fills n _ _ = ⊥

-- these parts fill these slots, one each
abbrev pub FillFrom : ℕ → List Slot → List Part → Type 0
FillFrom n [] [] = Unit {0}
FillFrom n (s ∷ ss) (p ∷ ps) = Fills n s p × FillFrom (inputs_of p) ss ps
FillFrom n _ _ = ⊥

abbrev pub FillAll : List Slot → List Part → Type 0
FillAll slots parts = FillFrom 0 slots parts

-- a run of items has at least one
abbrev pub AreSome : List Element → Type 0
AreSome [] = ⊥
AreSome (element ∷ elements) = Unit {0}

abbrev pub IsForm : Form → Type 0
IsForm (Row kind opens parts) = FillAll (slots_of kind) parts
IsForm (Items elements) = AreSome elements × AreItems None elements

-- each of these is a form
abbrev pub AreForms : List Form → Type 0
AreForms [] = Unit {0}
AreForms (form ∷ forms) = IsForm form × AreForms forms

-- no two runs of items stand beside one another
abbrev pub MayStandBefore : Form → List Form → Type 0
MayStandBefore (Items elements) (Items others ∷ forms) = ⊥
MayStandBefore _ _ = Unit {0}

abbrev pub IsWellFormed : List Form → Type 0
IsWellFormed [] = Unit {0}
IsWellFormed (form ∷ forms) = IsForm form × MayStandBefore form forms × IsWellFormed forms

-- the forms of each of these trees
abbrev pub forms_of : List Tree → List (List Form)
forms_of [] = []
forms_of (tree ∷ trees) = tree.forms ∷ forms_of trees

-- the forms of several files
abbrev pub AreWellFormed : List (List Form) → Type 0
AreWellFormed [] = Unit {0}
AreWellFormed (forms ∷ files) = IsWellFormed forms × AreWellFormed files

-- these are the tokens of this tree
pub record Reads (tokens : List Token) (forms : List Form) : Type 0 where
  pub fits : IsWellFormed forms
  pub spelled : flatten forms ≡ tokens

-- some tree begins with these tokens
pub record Begins (tokens : List Token) : Type 0 where
  pub forms : List Form
  pub rest : List Token
  pub reads : Reads (tokens ++ rest) forms

-- no tree has these tokens, and the first n are the most of them that begin one
pub record Refused (tokens : List Token) (n : ℕ) : Type 0 where
  pub no_tree : (forms : List Form) → Reads tokens forms → ⊥
  pub within : n ≤ length tokens
  pub begins : Begins (take n tokens)
  pub longest : (m : ℕ) → n < m → m ≤ length tokens → Begins (take m tokens) → ⊥

-- the tokens end too early where all of them begin a tree
abbrev pub RefusedFor : List Token → ℕ → Why → Type 0
RefusedFor tokens n End = Refused tokens n × (n ≡ length tokens)
RefusedFor tokens n Other = Refused tokens n × (n < length tokens)

-- no tree has these tokens, which is told with the number of the token behind those that begin a tree
abbrev pub Misses : List Token → ℕ → Why → Type 0
Misses tokens at why = (n : ℕ) × (at ≡ n + 1) × RefusedFor tokens n why

-- the file of the first token
abbrev pub file_of : List Token → ℕ
file_of [] = 0
file_of (token ∷ tokens) = token.place.file

-- the tree of these tokens, or that no tree has them
abbrev pub Parses : List Token → Result Tree ParseFault → Type 0
Parses tokens (Ok tree) = Reads tokens tree.forms × (tree.file ≡ file_of tokens)
Parses tokens (Err (Syntax at why)) = Misses tokens at why
Parses tokens (Err Memory) = Unit {0}

-- no two trees have the same tokens
abbrev pub OneTree : Type 0
OneTree = (forms others : List Form) → IsWellFormed forms → IsWellFormed others → flatten forms ≡ flatten others → forms ≡ others

-- tokens are those of a tree, or of none
abbrev pub TreeOrNone : Type 0
TreeOrNone = (tokens : List Token) → ((forms : List Form) × Reads tokens forms) ⊎ ((forms : List Form) → Reads tokens forms → ⊥)

-- the place that is told, and what is wrong there, are the tokens' alone
abbrev pub OnePlace : Type 0
OnePlace = (tokens : List Token) (at other : ℕ) (why reason : Why) → Misses tokens at why → Misses tokens other reason → (at ≡ other) × (why ≡ reason)

-- tokens of no tree are refused at some place
abbrev pub SomePlace : Type 0
SomePlace = (tokens : List Token) → ((forms : List Form) → Reads tokens forms → ⊥) → (at : ℕ) × (why : Why) × Misses tokens at why
