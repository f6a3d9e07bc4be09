-- Names of locals, and the effects whose inputs are locals.
use Rattle.std.specs.Prelude.{ℕ, List, [], Bool, true, false, not, ◌&&◌, ◌||◌, drop, length, ◌-◌, codes, if◌then◌else◌}
use Rattle.std.specs.Str.{bytes_eq}
use Rattle.fac_source.specs.declared.token.Token.{Token}
use Rattle.fac_base.specs.Signatures.{Signature, signature, Inputs, no_inputs, value, quoted}
use Rattle.fac_effect.specs.declared.spelling.Spelling.{Spelling}
use Rattle.fac_effect.specs.declared.spelling.Spelling.TheVariants as spelled
use Rattle.fac_effect.specs.declared.effect_reader.Side.{Side}
use Rattle.fac_effect.specs.declared.effect_reader.Side.TheVariants as side
use Rattle.fac_effect.specs.declared.effect_reader.EffectReader.{EffectReader}
use Rattle.fac_effect.specs.WrittenEffects.{is_row, is_colon, plain_name, colon_name}
use Rattle.fac_effect.specs.EffectReading.{Progress, reads, start, may_end, all_pass}

-- the name of a local doesn't end in `!`
abbrev pub is_local_name : List ℕ → Bool
is_local_name text = not (bytes_eq (drop (length text - 1) text) (codes "!"))

-- each input may be a local
abbrev pub are_local_names : Inputs → Bool
are_local_names no_inputs = true
are_local_names (value x is) = is_local_name x && are_local_names is
are_local_names (quoted x e is) = is_local_name x && are_local_names is

abbrev pub takes_locals : Signature → Bool
takes_locals (signature row is l) = are_local_names is

-- How such an effect is read.

-- whether the name of an input of the whole effect, or its row variable, may be next
abbrev pub input_at : List Side → Side → Bool → Bool
input_at [] side.Inputs true = true
input_at _ _ _ = false

-- the name of the entry that a token names
abbrev pub entry_name : Token → List ℕ
entry_name t = (if is_colon t then colon_name t else plain_name t)

abbrev pub may_name : Bool → Token → Bool
may_name true t = is_row t || is_local_name (entry_name t)
may_name false t = true

-- whether the inputs may still be locals behind this token
abbrev pub may_stand : EffectReader → Spelling → Token → Bool
may_stand r spelled.Name t = may_name (input_at r.outer r.side (may_end r.spot)) t
may_stand r _ t = true

abbrev pub all_may_stand : Progress → List Token → Bool
all_may_stand p tokens = all_pass may_stand p tokens

-- whether the inputs among these tokens, which begin an effect, may be locals
abbrev pub name_locals : List Token → Bool
name_locals tokens = all_may_stand (reads start) tokens
