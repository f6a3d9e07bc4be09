-- Several names, searched one after another.
use Rattle.std.specs.Prelude.{List, map, Option, Some, None}
use Rattle.fac_source.specs.declared.token.Token.{Token}
use Rattle.fac_items.specs.FromElements.{tok}
use Rattle.fac_items.specs.Written.{Tok}

abbrev pub toks : List Token → List Tok
toks ts = map tok ts

abbrev pub option_tok : Option Token → Option Tok
option_tok None = None
option_tok (Some t) = Some (tok t)
