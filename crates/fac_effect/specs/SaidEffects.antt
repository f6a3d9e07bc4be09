-- What the tokens of an effect say, as a function of the tokens. They are read from the last to the first.
use Rattle.std.specs.Prelude.{List, [], ◌∷◌, Bool, true, false, Option, Some, None}
use Rattle.fac_base.specs.declared.place.Place.{Place}
use Rattle.fac_source.specs.declared.token.Token.{Token}
use Rattle.fac_base.specs.Signatures.{Signature, signature, no_inputs, never}
use Rattle.fac_effect.specs.declared.spelling.Spelling.{Spelling}
use Rattle.fac_effect.specs.declared.spelling.Spelling.TheVariants as spelled
use Rattle.fac_effect.specs.Spellings.{token_spelling}
use Rattle.fac_effect.specs.WrittenEffects.{Written, written, Entries, no_entries, plain, described, detailed, is_colon, said}

-- The end of a side: its last entries, and the effect that stands before them, whose name isn't read.
pub record Half : Type 0 where
  pub entries : Entries
  pub effect : Option Written

-- The end of an effect: its outputs behind its `--`, and what is open before them.
pub data Ending : Type 0 where
  outside : Option Written → Ending
  outputs : Place → Half → Ending → Ending
  inputs : Place → Entries → Place → Half → Ending → Ending

abbrev pub half : Entries → Option Written → Half
half es effect = record { entries = es; effect = effect }

-- the end of a side with one more name before it: a name that ends in a colon takes what describes it
abbrev pub describe : Token → Entries → Entries
describe name (plain class es) = described name class es
describe name es = es

abbrev pub add_colon : Token → Entries → Option Written → Half
add_colon t es (Some w) = half (detailed t w es) None
add_colon t es None = half (describe t es) None

abbrev pub add_name : Token → Bool → Half → Half
add_name t true h = add_colon t h.entries h.effect
add_name t false h = half (plain t h.entries) None

abbrev pub name_before : Token → Ending → Ending
name_before t (outside w) = outside w
name_before t (outputs closes h e) = outputs closes (add_name t (is_colon t) h) e
name_before t (inputs closes outs dashes h e) = inputs closes outs dashes (add_name t (is_colon t) h) e

abbrev pub dashes_before : Place → Ending → Ending
dashes_before dashes (outputs closes h e) = inputs closes h.entries dashes (half no_entries None) e
dashes_before dashes e = e

-- an effect that is whole stands before what is behind it
abbrev pub effect_before : Written → Ending → Ending
effect_before w (outside other) = outside (Some w)
effect_before w (outputs closes h e) = outputs closes (half h.entries (Some w)) e
effect_before w (inputs closes outs dashes h e) = inputs closes outs dashes (half h.entries (Some w)) e

abbrev pub opens_before : Place → Ending → Ending
opens_before opens (inputs closes outs dashes h e) = effect_before (written opens h.entries dashes outs closes) e
opens_before opens e = e

abbrev pub token_before : Spelling → Token → Ending → Ending
token_before spelled.Name t e = name_before t e
token_before spelled.Closes t e = outputs t.place (half no_entries None) e
token_before spelled.Dashes t e = dashes_before t.place e
token_before spelled.Opens t e = opens_before t.place e
token_before _ t e = e

abbrev pub read_back : List Token → Ending
read_back [] = outside None
read_back (t ∷ ts) = token_before (token_spelling t.kind) t (read_back ts)

abbrev pub said_by : Ending → Signature
said_by (outside (Some w)) = said w
said_by _ = signature None no_inputs never

-- what the tokens of an effect say; for other tokens it says nothing of use
abbrev pub effect_of : List Token → Signature
effect_of tokens = said_by (read_back tokens)
