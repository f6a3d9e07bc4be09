-- What texts come to.
use Rattle.std.specs.Prelude.{◌≡◌, ℕ, ◌+◌, List, [], ◌∷◌, ◌++◌, Result, Ok, Err}
use Rattle.fac_source.specs.declared.token.Token.{Token}
use Rattle.fac_source.specs.declared.tree.Form.{Form}
use Rattle.fac_token.specs.declared.fault.TokenFault.TheVariants as token
use Rattle.fac_token.specs.Tokens.{Tokenizes}
use Rattle.fac_parse.specs.declared.reader.ParseFault.{ParseFault}
use Rattle.fac_parse.specs.declared.reader.ParseFault.TheVariants as parse
use Rattle.fac_parse.specs.Trees.{Parses, Reads}
use Rattle.fac_trees.specs.declared.text_tree.TextTree.{TextTree}
use Rattle.fac_trees.specs.declared.text_tree.TextTree.TheVariants.{Forms, NoTokens, NoTree}
use Rattle.fac_trees.specs.declared.pieces.TextPiece.{TextPiece}

-- the forms of tokens, or why they have none
abbrev pub HasForms : List Token → Result (List Form) ParseFault → Type 0
HasForms tokens (Ok forms) = Reads tokens forms
HasForms tokens (Err fault) = Parses tokens (Err fault)

-- What the text of the file with this number comes to: the forms whose tokens are those of the text, or the first fault of its tokens, or of the tree of these.
abbrev pub IsTreeOf : ℕ → List ℕ → TextTree → Type 0
IsTreeOf file text (Forms forms) = (tokens : List Token) × Tokenizes file text (Ok tokens) × Reads tokens forms
IsTreeOf file text (NoTokens fault) = Tokenizes file text (Err fault) × (fault ≡ token.Memory → ⊥)
IsTreeOf file text (NoTree fault) = (tokens : List Token) × Tokenizes file text (Ok tokens) × Parses tokens (Err fault) × (fault ≡ parse.Memory → ⊥)

-- what texts come to, each by itself, whose files are numbered from this one on
abbrev pub AreTreesOf : ℕ → List (List ℕ) → List TextTree → Type 0
AreTreesOf file [] [] = Unit {0}
AreTreesOf file [] (tree ∷ trees) = ⊥
AreTreesOf file (text ∷ texts) [] = ⊥
AreTreesOf file (text ∷ texts) (tree ∷ trees) = IsTreeOf file text tree × AreTreesOf (file + 1) texts trees

-- a piece for each of these texts
abbrev pub ArePieces : ℕ → List (List ℕ) → List TextPiece → Type 0
ArePieces file [] [] = Unit {0}
ArePieces file [] (piece ∷ pieces) = ⊥
ArePieces file (text ∷ texts) [] = ⊥
ArePieces file (text ∷ texts) (piece ∷ pieces) = (piece.file ≡ file) × (piece.text.now ≡ text) × ArePieces (file + 1) texts pieces

-- the texts of parts, one part behind the other
abbrev pub texts_in : List (List (List ℕ)) → List (List ℕ)
texts_in [] = []
texts_in (part ∷ parts) = part ++ texts_in parts
