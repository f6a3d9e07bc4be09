-- How the parts of an effect are made of its tokens, which are known to be an effect's.
use Rattle.std.specs.Prelude.{◌≡◌, ℕ, Bool, false, ◌&&◌, Option, Some, None, List, [], ◌∷◌, ◌++◌, Result, Ok, Err, codes, if◌then◌else◌}
use Rattle.std.specs.Str.{bytes_eq}
use Rattle.std.specs.Global.{Vec}
use Rattle.fac_base.specs.declared.memory.Memory.{Memory}
use Rattle.fac_base.specs.declared.place.Place.{Place}
use Rattle.fac_source.specs.declared.token.Token.{Token}
use Rattle.fac_base.specs.declared.effect.Input.{Input}
use Rattle.fac_base.specs.declared.effect.Outs.{Outs}
use Rattle.fac_base.specs.Signatures.{Signature, Inputs, no_inputs, value, quoted, Leaving, leaves}
use Rattle.fac_base.specs.EffectView.{inputs_tree, outs_leaving}
use Rattle.fac_effect.specs.declared.spelling.Spelling.TheVariants.{Name}
use Rattle.fac_effect.specs.Spellings.{token_text, plain_token, spelling_of, is_row_name}
use Rattle.fac_effect.specs.WrittenEffects.{Written, Entries, no_entries, plain, described, detailed, written_tokens, entries_tokens, IsPlainName, IsColonName, IsWritten, IsSide, row_if, plain_name, colon_name, inputs_of, leaving_in, said}

-- the row variable that an entry is, where all entries of a side are taken as inputs, and the other entries
abbrev pub first_row : Inputs → Option (List ℕ)
first_row no_inputs = None
first_row (value x is) = row_if (is_row_name x) x
first_row (quoted x e is) = row_if (is_row_name x) x

abbrev pub without_row : Inputs → Inputs
without_row no_inputs = no_inputs
without_row (value x is) = (if is_row_name x then is else value x is)
without_row (quoted x e is) = (if is_row_name x then is else quoted x e is)

abbrev pub names_of : Inputs → List (List ℕ)
names_of no_inputs = []
names_of (value x is) = x ∷ names_of is
names_of (quoted x e is) = x ∷ names_of is

abbrev pub leaving_of : Inputs → Leaving
leaving_of is = leaves (first_row is) (names_of (without_row is))

-- the tokens behind the first, and the first unless it is of this text
abbrev pub behind_first : List Token → List Token
behind_first [] = []
behind_first (t ∷ ts) = ts

abbrev pub is_text : Token → List ℕ → Bool
is_text t text = bytes_eq (token_text t.kind) text

abbrev pub first_unless : List ℕ → List Token → Option Token
first_unless end [] = None
first_unless end (t ∷ ts) = (if is_text t end then None else Some t)

-- whether a token of this text comes first
abbrev pub begins_with : List ℕ → List Token → Bool
begins_with text [] = false
begins_with text (t ∷ ts) = is_text t text

-- whether a lone `*` comes first, up to the end of its side
abbrev pub begins_never : List Token → Bool
begins_never ts = begins_with (codes "*") ts && begins_with (codes ")") (behind_first ts)

-- entries, the first of which may be a row variable
abbrev pub AreNamed : Entries → Type 0
AreNamed no_entries = Unit {0}
AreNamed (plain name es) = IsPlainName name × AreNamed es
AreNamed (described name class es) = IsColonName name × IsPlainName class × AreNamed es
AreNamed (detailed name w es) = IsColonName name × IsWritten w × AreNamed es

-- what an entry of this name comes to, with what describes it at the front of these tokens
abbrev pub Describes : List ℕ → List Token → List Token → Inputs → Type 0
Describes name before now entry =
    ((class : Token) (rest : List Token) → IsPlainName class → before ≡ class ∷ rest → (entry ≡ value name no_inputs) × (now ≡ rest))
    × ((w : Written) (rest : List Token) → IsWritten w → before ≡ written_tokens w ++ rest → (entry ≡ quoted name (said w) no_inputs) × (now ≡ rest))

abbrev pub GivesDescribed : List ℕ → List Token → List Token → Result Input Memory → Type 0
GivesDescribed name before now (Ok input) = Describes name before now (inputs_tree (input ∷ []))
GivesDescribed name before now (Err memory) = Unit {0}

-- An input that is made of an entry, whose first token is this one.
abbrev pub GivesEntry : Token → List Token → List Token → Result Input Memory → Type 0
GivesEntry t before now (Ok input) =
    (IsPlainName t → (inputs_tree (input ∷ []) ≡ value (plain_name t) no_inputs) × (now ≡ before))
    × (IsColonName t → Describes (colon_name t) before now (inputs_tree (input ∷ [])))
GivesEntry t before now (Err memory) = Unit {0}

-- Inputs that are made of all entries up to a token that is no name.
abbrev pub GivesEntries : List ℕ → List Token → List Token → Result (Vec Input) Memory → Type 0
GivesEntries end before now (Ok inputs) =
    (es : Entries) (place : Place) (rest : List Token) → (spelling_of end ≡ Name → ⊥) → AreNamed es → before ≡ entries_tokens es ++ plain_token place end ∷ rest → (inputs_tree inputs.items ≡ inputs_of es) × (now ≡ rest)
GivesEntries end before now (Err memory) = Unit {0}

abbrev pub GivesOuts : List Token → List Token → Result Outs Memory → Type 0
GivesOuts before now (Ok outs) =
    (es : Entries) (place : Place) (rest : List Token) → IsSide es → before ≡ entries_tokens es ++ plain_token place (codes ")") ∷ rest → (outs_leaving outs ≡ leaving_in es) × (now ≡ rest)
GivesOuts before now (Err memory) = Unit {0}

abbrev pub GivesEffect : List Token → List Token → Result Signature Memory → Type 0
GivesEffect before now (Ok effect) = (w : Written) (rest : List Token) → IsWritten w → before ≡ written_tokens w ++ rest → (effect ≡ said w) × (now ≡ rest)
GivesEffect before now (Err memory) = Unit {0}

-- likewise where the first of its tokens was passed
abbrev pub GivesOpened : List Token → List Token → Result Signature Memory → Type 0
GivesOpened left now answer = (before : List Token) → left ≡ behind_first before → GivesEffect before now answer
