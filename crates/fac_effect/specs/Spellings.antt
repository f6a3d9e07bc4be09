-- What a token is to the grammar, by how it is spelled.
use Rattle.std.specs.Prelude.{◌≡◌, ℕ, ℤ, Bool, List, [], ◌∷◌, ◌++◌, Option, Some, None, is_some, nat_le, map, codes, take, drop, length, ◌-◌, if◌then◌else◌}
use Rattle.std.specs.Str.{bytes_eq, chars}
use Rattle.fac_base.specs.declared.limits.TheConstants.{MOST_ELEMENTS}
use Rattle.fac_base.specs.Numbers.{signed_in, integer_in}
use Rattle.fac_source.specs.declared.token.TokKind.{TokKind}
use Rattle.fac_source.specs.declared.token.TokKind.TheVariants.{Plain, Str}
use Rattle.fac_base.specs.declared.place.Place.{Place}
use Rattle.fac_source.specs.declared.token.Token.{Token}
use Rattle.fac_source.specs.declared.tree.FormKind.{FormKind}
use Rattle.fac_source.specs.declared.tree.Bracket.{Bracket}
use Rattle.fac_source.specs.declared.tree.Bracket.TheVariants.{Quotation, Array, Fry}
use Rattle.fac_source.specs.declared.tree.Callee.{Callee}
use Rattle.fac_source.specs.declared.tree.Callee.TheVariants.{Callable, Word}
use Rattle.fac_source.specs.declared.tree.Key.{Key}
use Rattle.fac_source.specs.declared.tree.Key.TheVariants.{Arrow}
use Rattle.fac_source.specs.declared.tree.Literal.TheVariants.{Integer, Text, True, False}
use Rattle.fac_source.specs.FormRows.{head_of, kind_begun}
use Rattle.fac_effect.specs.declared.reserved.TheConstants.{RESERVED}
use Rattle.fac_effect.specs.declared.spelling.Spelling.{Spelling}
use Rattle.fac_effect.specs.declared.spelling.Spelling.TheVariants.{Begins, Fixed, Semi, Opens, Closes, OpensBracket, ClosesBracket, OpensLocals, Bar, Binds, Hole, CalledHole, Inline, Recursive, NextMethod, Wraps, EffectCall, Literal, Name, Other, Dashes}

-- a plain token at a place
abbrev pub plain_token : Place → List ℕ → Token
plain_token place text = record { place = place; kind = Plain text }

-- a token's spelling, or a string's content
abbrev pub token_text : TokKind → List ℕ
token_text (Plain text) = text
token_text (Str text) = text

-- a token at a fixed place of a row
abbrev pub key_text : Key → List ℕ
key_text Arrow = codes "=>"

-- the tokens in which a quotation, an array or a fry stands
abbrev pub opening_text : Bracket → List ℕ
opening_text Quotation = codes "["
opening_text Array = codes "{"
opening_text Fry = codes "'["

abbrev pub closing_text : Bracket → List ℕ
closing_text Quotation = codes "]"
closing_text Array = codes "}"
closing_text Fry = codes "]"

-- the token in front of the name of a word that is a value
abbrev pub wrap_text : List ℕ
wrap_text = 92 ∷ []

-- the token in front of the rest of the effect of a call
abbrev pub call_text : Callee → List ℕ
call_text Callable = codes "call("
call_text Word = codes "execute("

-- a text in one of the integer forms, in range or not
unfoldable pub has_integer_form : List ℕ → Bool
has_integer_form text = is_some (signed_in text)

-- a token that is of this text alone
abbrev pub sign_text : Spelling → List ℕ
sign_text (Begins kind) = head_of kind
sign_text (Fixed key) = key_text key
sign_text Semi = codes ";"
sign_text Opens = codes "("
sign_text Closes = codes ")"
sign_text Dashes = codes "--"
sign_text (OpensBracket bracket) = opening_text bracket
sign_text (ClosesBracket bracket) = closing_text bracket
sign_text OpensLocals = codes "[|"
sign_text Bar = codes "|"
sign_text Binds = codes ":>"
sign_text Hole = codes "_"
sign_text CalledHole = codes "@"
sign_text (Literal True) = codes "t"
sign_text (Literal False) = codes "f"
sign_text Inline = codes "inline"
sign_text Recursive = codes "recursive"
sign_text NextMethod = codes "call-next-method"
sign_text Wraps = wrap_text
sign_text (EffectCall callee) = call_text callee
sign_text _ = []

-- the first of these tokens that is of this text
abbrev pub sign_among : List (List ℕ × Spelling) → List ℕ → Option Spelling
sign_among [] text = None
sign_among (s ∷ ss) text = (if bytes_eq text s.0 then Some s.1 else sign_among ss text)

-- the tokens of these groups
abbrev pub in_groups : List (List (List ℕ × Spelling)) → List (List ℕ × Spelling)
in_groups [] = []
in_groups (g ∷ gs) = g ++ in_groups gs

abbrev pub row_seen : record { now : List ℕ } × Spelling → List ℕ × Spelling
row_seen row = (row.0.now, row.1)

abbrev pub group_seen : record { now : List (record { now : List ℕ } × Spelling) } → List (List ℕ × Spelling)
group_seen group = map row_seen group.now

-- a reserved token that begins no form
unfoldable pub reserved_spelling : List ℕ → Option Spelling
reserved_spelling text = sign_among (in_groups (map group_seen RESERVED)) text

-- what begins a form is spelled so, and nothing else
abbrev pub begun_or : Option FormKind → Option Spelling → Option Spelling
begun_or (Some kind) other = Some (Begins kind)
begun_or None other = other

-- a reserved token
unfoldable pub sign_spelling : List ℕ → Option Spelling
sign_spelling text = begun_or (kind_begun text) (reserved_spelling text)

-- a token in no integer form
unfoldable pub word_spelling : List ℕ → Spelling
word_spelling text = elim (sign_spelling text) [ Some s ↦ s | None ↦ Name ]

-- a token in one of the integer forms, which stands nowhere where it is out of range
abbrev pub integer_spelling : Option ℤ → Spelling
integer_spelling (Some z) = Literal (Integer z)
integer_spelling None = Other

unfoldable pub spelling_of : List ℕ → Spelling
spelling_of text = (if has_integer_form text then integer_spelling (integer_in text) else word_spelling text)

-- a plain token is an integer exactly where the primitives on texts of numbers read it as that integer
abbrev pub LiteralsAreIntegers : Type 0
LiteralsAreIntegers = (text : List ℕ) (z : ℤ) → (spelling_of text ≡ Literal (Integer z) → integer_in text ≡ Some z) × (integer_in text ≡ Some z → spelling_of text ≡ Literal (Integer z))

-- a string with this content, which stands nowhere where it is too long
unfoldable pub string_spelling : List ℕ → Spelling
string_spelling content = (if nat_le (length (chars content)) MOST_ELEMENTS then Literal Text else Other)

abbrev pub token_spelling : TokKind → Spelling
token_spelling (Plain text) = spelling_of text
token_spelling (Str content) = string_spelling content

-- Names in effects. One that begins with two dots is a row variable, and one that ends in a colon is followed by a class or an effect.
abbrev pub is_row_name : List ℕ → Bool
is_row_name text = bytes_eq (take 2 text) (codes "..")

abbrev pub is_described_name : List ℕ → Bool
is_described_name text = bytes_eq (drop (length text - 1) text) (codes ":")
