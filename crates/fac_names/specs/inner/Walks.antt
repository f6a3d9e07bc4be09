-- The inputs among the tokens of an effect, which are read one after another.
use Rattle.std.specs.Prelude.{ℕ, zero, suc, ◌-◌, List, [], ◌∷◌, ◌++◌, map, Bool, true, false, ◌&&◌, codes, if◌then◌else◌}
use Rattle.std.specs.Str.{bytes_eq}
use Rattle.fac_source.specs.declared.token.Token.{Token}
use Rattle.fac_effect.specs.Spellings.{token_text}
use Rattle.fac_effect.specs.WrittenEffects.{colon_name, is_colon, is_row, plain_name}
use Rattle.fac_items.specs.Written.{Tok}
use Rattle.fac_items.specs.inner.Behind.{name_tok}
use Rattle.fac_names.specs.declared.inputs.Sign.{Sign}
use Rattle.fac_names.specs.declared.inputs.Sign.TheVariants.{Opens, Closes, Dashes, Name}
use Rattle.fac_names.specs.declared.inputs.Walk.{Walk}

abbrev pub sign_of : Token → Sign
sign_of t = (if bytes_eq (token_text t.kind) (codes "(") then Opens else if bytes_eq (token_text t.kind) (codes ")") then Closes else if bytes_eq (token_text t.kind) (codes "--") then Dashes else Name)

-- So many effects are open, and one stands behind a name that is to be described, or at the first entry.
pub record Walked : Type 0 where
  pub depth : ℕ
  pub described : Bool
  pub first : Bool
  pub done : Bool
  pub names : List Tok

abbrev pub walk_seen : Walk → Walked
walk_seen w = record { depth = w.depth; described = w.described; first = w.first; done = w.done; names = map name_tok w.names.items }

abbrev pub entry_tok : Token → Tok
entry_tok t = record { text = (if is_colon t then colon_name t else plain_name t); place = t.place }

abbrev pub entry_taken : Bool → Token → Walked → Walked
entry_taken true t w = record w { described = is_colon t; first = false }
entry_taken false t w = record w { described = is_colon t; first = false; names = w.names ++ entry_tok t ∷ [] }

abbrev pub name_taken : Bool → Token → Walked → Walked
name_taken true t w = record w { described = false }
name_taken false t w = entry_taken (w.first && is_row t) t w

-- only the names of the outermost effect are inputs
abbrev pub name_at_depth : ℕ → Token → Walked → Walked
name_at_depth (suc zero) t w = name_taken w.described t w
name_at_depth _ t w = w

abbrev pub dashes_at_depth : ℕ → Walked → Walked
dashes_at_depth (suc zero) w = record w { done = true }
dashes_at_depth _ w = w

abbrev pub sign_taken : Sign → Token → Walked → Walked
sign_taken Opens t w = record w { depth = suc w.depth; described = false }
sign_taken Closes t w = record w { depth = w.depth - 1 }
sign_taken Dashes t w = dashes_at_depth w.depth w
sign_taken Name t w = name_at_depth w.depth t w

-- behind the inputs nothing is taken
abbrev pub token_if : Bool → Token → Walked → Walked
token_if true t w = w
token_if false t w = sign_taken (sign_of t) t w

abbrev pub token_taken : Walked → Token → Walked
token_taken w t = token_if w.done t w

abbrev pub begun : Walked
begun = record { depth = 0; described = false; first = true; done = false; names = [] }
