-- Inner contracts: how the forms of files go to the names, one file behind the other.
use Rattle.std.specs.Prelude.{◌≡◌, ◌+◌, ℕ, List, [], ◌∷◌, ◌++◌, length, None, Some, Result, Ok, Err}
use Rattle.std.specs.List.{count_by}
use Rattle.std.specs.declared.option.Option.{Option}
use Rattle.fac_source.specs.declared.token.Token.{Token}
use Rattle.fac_source.specs.declared.tree.Form.{Form}
use Rattle.fac_lang.specs.Whole.{IsWhole}
use Rattle.fac_token.specs.Tokens.{Tokenizes}
use Rattle.fac_parse.specs.declared.parser.Parser.{Parser}
use Rattle.fac_parse.specs.Handed.{HasHandedOut}
use Rattle.fac_parse.specs.Trees.{Reads}
use Rattle.fac_trees.specs.declared.text_tree.TextTree.{TextTree}
use Rattle.fac_trees.specs.TextTrees.{AreTreesOf}
use Rattle.fac_names.specs.declared.resolver.Resolver.{Resolver}
use Rattle.fac_names.specs.TakenForms.{HasTaken}
use Rattle.fac_names.specs.Resolution.{resolved}
use Rattle.fac_tool.specs.declared.ended.Ended.{Ended}
use Rattle.fac_tool.specs.declared.accepting.NamedProgram.{NamedProgram}
use Rattle.fac_notes.specs.Sources.{Source, tree}
use Rattle.fac_tool.specs.Answer.{definitions_in, is_definition, own_definitions}
use Rattle.fac_tool.specs.Sources.{AreReadAs, IsReadAs}
use Rattle.fac_tool.specs.inner.StepEnds.{EndsFile, EndsRead, ReadSoFar, AreTrees}

-- the tokens of a text, or it ends the work
abbrev pub HasTokens : ℕ → List ℕ → Result (List Token) Ended → Type 0
HasTokens file text (Ok tokens) = Tokenizes file text (Ok tokens)
HasTokens file text (Err ended) = EndsFile file text ended

-- the last file that names were taken of had the first forms, and now it has the others
abbrev pub LastGrows : List Form → List Form → Resolver → Resolver → Type 0
LastGrows old new before now = (files : List (List Form)) → HasTaken (files ++ old ∷ []) before → HasTaken (files ++ new ∷ []) now

-- a file of these forms was taken behind others
abbrev pub FileAdds : List Form → Resolver → Resolver → Type 0
FileAdds forms before now = (files : List (List Form)) → HasTaken files before → HasTaken (files ++ forms ∷ []) now

-- forms went to the names behind those of their file, and their definitions were added to a number
abbrev pub HandsOn : {E : Type 0} → List Form → ℕ → Resolver → Resolver → Result ℕ E → Type 0
HandsOn forms count before now (Ok sum) = (sum ≡ count + count_by is_definition forms) × ((so_far : List Form) → LastGrows so_far (so_far ++ forms) before now)
HandsOn forms count before now (Err fault) = Unit {0}

-- some forms that the parser handed out behind those so far went to the names, and their definitions were added to a number
pub record TakesSome (tokens : List Token) (so_far : List Form) (count : ℕ) (parser : Parser) (before now : Resolver) (sum : ℕ) : Type 0 where
  pub forms : List Form
  pub handed : HasHandedOut tokens (so_far ++ forms) parser
  pub grows : LastGrows so_far (so_far ++ forms) before now
  pub counts : sum ≡ count + count_by is_definition forms

-- what the next call of the parser brings: forms, the end of the file, or an ending, whatever text has these tokens
abbrev pub TakesNext : ℕ → List Token → List Form → ℕ → Parser → Resolver → Resolver → Result (Option ℕ) Ended → Type 0
TakesNext file tokens so_far count parser before now (Ok (Some sum)) = TakesSome tokens so_far count parser before now sum
TakesNext file tokens so_far count parser before now (Ok None) = Reads tokens so_far × LastGrows so_far so_far before now
TakesNext file tokens so_far count parser before now (Err ended) = (text : List ℕ) → Tokenizes file text (Ok tokens) → EndsFile file text ended

-- a text comes to the tree of some forms, which the names were given so, and whose definitions were added to a number
pub record FileTaken (file : ℕ) (text : List ℕ) (count : ℕ) (AreGiven : List Form → Type 0) (sum : ℕ) : Type 0 where
  pub forms : List Form
  pub is_read : IsReadAs file text (tree forms)
  pub given : AreGiven forms
  pub counts : sum ≡ count + count_by is_definition forms

abbrev pub TakesFile : ℕ → List ℕ → ℕ → (List Form → Type 0) → Result ℕ Ended → Type 0
TakesFile file text count AreGiven (Ok sum) = FileTaken file text count AreGiven sum
TakesFile file text count AreGiven (Err ended) = EndsFile file text ended

-- a whole file of these forms was taken behind others, and its definitions were added to a number
abbrev pub AddsFile : {E : Type 0} → List Form → ℕ → Resolver → Resolver → Result ℕ E → Type 0
AddsFile forms count before now (Ok sum) = (sum ≡ count + count_by is_definition forms) × FileAdds forms before now
AddsFile forms count before now (Err fault) = Unit {0}

-- what those from this number on come to decides
abbrev pub Onward : List (List ℕ) → List (List ℕ) → ℕ → List (List Form) → Type 0
Onward texts left file before = (sources : List Source) → AreReadAs file left sources → ReadSoFar texts file before sources

-- files were taken up to those of the texts that are left: the prelude and some behind it
pub record TakenUpTo (texts left : List (List ℕ)) (file count : ℕ) (resolver : Resolver) : Type 0 where
  pub prelude : List Form
  pub files : List (List Form)
  pub taken : HasTaken (prelude ∷ files) resolver
  pub onward : Onward texts left file (prelude ∷ files)
  pub counts : count ≡ definitions_in files

-- Of texts that are left these come next, where the last file before them has this number: their files were taken, and their definitions added to a number; or one of
-- them ends the work.
abbrev pub TakesPart : ℕ → List (List ℕ) → ℕ → Resolver → Resolver → Result ℕ Ended → Type 0
TakesPart file part count before now (Ok sum) = (texts rest : List (List ℕ)) → TakenUpTo texts (part ++ rest) (file + 1) count before → TakenUpTo texts rest (file + length part + 1) sum now
TakesPart file part count before now (Err ended) = (texts rest : List (List ℕ)) → TakenUpTo texts (part ++ rest) (file + 1) count before → EndsRead texts ended

-- These texts come next, and are taken so; and it was read what others come to, where the last file before these has a number.
abbrev pub TakesAndReads : ℕ → List (List ℕ) → ℕ → List (List ℕ) → ℕ → Resolver → Resolver → Result (ℕ × List TextTree) Ended → Type 0
TakesAndReads file part behind next count before now (Ok both) = TakesPart file part count before now (Ok both.0) × AreTreesOf (behind + 1) next both.1
TakesAndReads file part behind next count before now (Err ended) = TakesPart file part count before now (Err ended)

-- the trees of texts were taken, and the texts have so many definitions
pub record TextsTaken (texts : List (List ℕ)) (resolver : Resolver) (count : ℕ) : Type 0 where
  pub files : List (List Form)
  pub are_trees : AreTrees texts files
  pub taken : HasTaken files resolver
  pub counts : count ≡ own_definitions files

abbrev pub TakesTexts : List (List ℕ) → Resolver → Result ℕ Ended → Type 0
TakesTexts texts resolver (Ok count) = TextsTaken texts resolver count
TakesTexts texts resolver (Err ended) = EndsRead texts ended

-- texts come to trees that resolve to this program, and have so many definitions
pub record AreNamed (texts : List (List ℕ)) (named : NamedProgram) : Type 0 where
  pub files : List (List Form)
  pub are_trees : AreTrees texts files
  pub resolves : resolved files ≡ Ok named.program
  pub whole : IsWhole named.program
  pub counts : named.definitions ≡ own_definitions files

-- the steps from texts to their program
abbrev pub ReadsProgram : List (List ℕ) → Result NamedProgram Ended → Type 0
ReadsProgram texts (Ok named) = AreNamed texts named
ReadsProgram texts (Err ended) = EndsRead texts ended
