-- A tree that is handed out form by form.
use Rattle.std.specs.Prelude.{◌≡◌, ◌≤◌, ◌<◌, ◌^◌, ℕ, suc, Bool, true, false, List, ◌++◌, length, take, drop, Option, Some, None, Result, Ok, Err}
use Rattle.fac_source.specs.declared.token.Token.{Token}
use Rattle.fac_source.specs.declared.tree.Form.{Form}
use Rattle.fac_parse.specs.declared.reader.ParseFault.{ParseFault}
use Rattle.fac_parse.specs.declared.parser.Parser.{Parser}
use Rattle.fac_parse.specs.Trees.{AreForms, Parses, Reads}
use Rattle.fac_parse.specs.inner.Reader.{State, in_state, start, state_of, steps}

-- a state behind forms that were handed out
abbrev pub behind_forms : List Form → State → State
behind_forms given s = in_state (given ++ s.forms) s.open_part

-- so many of the tokens are taken, and of their forms these were handed out
pub record IsTaking (tokens : List Token) (given : List Form) (p : Parser) : Type 0 where
  pub so_far : steps (Some start) (take p.taken tokens) ≡ Some (behind_forms given (state_of p.reader))
  pub left : p.rest ≡ drop p.taken tokens
  pub within : p.taken ≤ length tokens
  pub few : length tokens < 2 ^ 32

abbrev pub HandedBy : Bool → List Token → List Form → Parser → Type 0
HandedBy true tokens given p = Reads tokens given
HandedBy false tokens given p = IsTaking tokens given p

-- of the forms of these tokens these were handed out
abbrev pub HasHandedOut : List Token → List Form → Parser → Type 0
HasHandedOut tokens given p = HandedBy p.is_whole tokens given p

-- what the next call answers, and the parser behind it, where these forms were handed out before: forms that come next, or that there are no more
abbrev pub HandsOut : List Token → List Form → Parser → Result (Option (List Form)) ParseFault → Type 0
HandsOut tokens before now (Ok (Some forms)) = AreForms forms × HasHandedOut tokens (before ++ forms) now
HandsOut tokens before now (Ok None) = Reads tokens before
HandsOut tokens before now (Err fault) = Parses tokens (Err fault)

-- a bound on the calls that hand out forms
abbrev pub calls_by : Bool → ℕ → ℕ
calls_by true n = 0
calls_by false n = suc n

abbrev pub calls_left : Parser → ℕ
calls_left p = calls_by p.is_whole (length p.rest)
