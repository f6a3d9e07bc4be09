-- The inputs of an effect, each where its token stands.
use Rattle.std.specs.Prelude.{List, [], ◌∷◌, Some}
use Rattle.fac_source.specs.declared.token.Token.{Token}
use Rattle.fac_effect.specs.SaidEffects.{Ending, outside, read_back}
use Rattle.fac_effect.specs.WrittenEffects.{written, Entries, no_entries, plain, described, detailed, colon_name, plain_name, values_in}
use Rattle.fac_items.specs.Written.{Tok}

-- entries, each by its name without the colon in which it may end
abbrev pub entry_toks : Entries → List Tok
entry_toks no_entries = []
entry_toks (plain name es) = record { text = plain_name name; place = name.place } ∷ entry_toks es
entry_toks (described name class es) = record { text = colon_name name; place = name.place } ∷ entry_toks es
entry_toks (detailed name w es) = record { text = colon_name name; place = name.place } ∷ entry_toks es

abbrev pub inputs_of : Ending → List Tok
inputs_of (outside (Some (written opens ins dashes outs closes))) = entry_toks (values_in ins)
inputs_of _ = []

-- the inputs of the effect of these tokens, without its row variable
abbrev pub written_inputs : List Token → List Tok
written_inputs tokens = inputs_of (read_back tokens)
