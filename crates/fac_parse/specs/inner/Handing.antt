-- How forms are handed out.
use Rattle.std.specs.Prelude.{◌≡◌, ◌≤◌, ◌<◌, ℕ, Bool, true, false, List, [], ◌++◌, Result, Ok, Err}
use Rattle.fac_source.specs.declared.token.Token.{Token}
use Rattle.fac_source.specs.declared.tree.Form.{Form}
use Rattle.fac_parse.specs.declared.parser.Parser.{Parser}
use Rattle.fac_parse.specs.declared.reader.ParseFault.{ParseFault}
use Rattle.fac_parse.specs.Handed.{IsTaking}
use Rattle.fac_parse.specs.Trees.{AreForms, Parses, Reads}

-- what taking the next token answers, and the parser behind it
abbrev pub TakesNext : List Token → List Form → Parser → Result Bool ParseFault → Type 0
TakesNext tokens before now (Ok true) = IsTaking tokens before now
TakesNext tokens before now (Ok false) = IsTaking tokens before now × (now.rest ≡ [])
TakesNext tokens before now (Err fault) = Parses tokens (Err fault)

-- what taking some tokens answers
abbrev pub TakesMore : List Token → List Form → Parser → Result Unit ParseFault → Type 0
TakesMore tokens before now (Ok done) = IsTaking tokens before now
TakesMore tokens before now (Err fault) = Parses tokens (Err fault)

-- how many tokens are left
abbrev pub FallsIf : ℕ → ℕ → Result Bool ParseFault → Type 0
FallsIf old new (Ok true) = new < old
FallsIf old new (Ok false) = new ≤ old
FallsIf old new (Err fault) = Unit {0}

-- what going on answers: forms that are handed out
abbrev pub GoesOn : List Token → List Form → Parser → Result (List Form) ParseFault → Type 0
GoesOn tokens before now (Ok forms) = AreForms forms × IsTaking tokens (before ++ forms) now
GoesOn tokens before now (Err fault) = Parses tokens (Err fault)

-- what ending where no token is left answers
abbrev pub Ends : List Token → List Form → Parser → Result (List Form) ParseFault → Type 0
Ends tokens before now (Ok forms) = AreForms forms × Reads tokens (before ++ forms) × (now.is_whole ≡ true)
Ends tokens before now (Err fault) = Parses tokens (Err fault)
