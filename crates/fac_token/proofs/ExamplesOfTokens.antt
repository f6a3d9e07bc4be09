-- Examples of readings, of first faults and of tokens.
use Rattle.std.proofs.Common.{◌≡◌, ℕ, List, [], ◌∷◌, Result, Ok, Err, refl}
use Rattle.std.specs.Prelude.{codes}
use Rattle.std.specs.Char.{encode_utf8}
use Rattle.fac_source.specs.declared.token.TokKind.TheVariants.{Plain, Str}
use Rattle.fac_token.specs.Lexemes.{StringPart, itself, escape, Lexeme, white, comment, plain, string, Reading, Fault, open_string, bad_escape, stuck_quote, inside_token, FirstFault}
use Rattle.fac_token.specs.inner.Scan.{lexemes}
use Rattle.fac_token.specs.Tokens.{content, kinds, numbered, token_at}

abbrev read : List Lexeme → Result (List Lexeme) Fault
read ps = Ok ps

abbrev faulty : Fault → Result (List Lexeme) Fault
faulty f = Err f

abbrev blank : Lexeme
blank = white 32

-- characters that stand for themselves
abbrev letters : List ℕ → List StringPart
letters [] = []
letters (c ∷ cs) = itself c ∷ letters cs

pub empty_file : lexemes [] ≡ read []
empty_file = refl

pub a_comment : lexemes (codes "a ! b\n c") ≡ read (plain (codes "a") ∷ blank ∷ comment (codes " b") ∷ white 10 ∷ blank ∷ plain (codes "c") ∷ [])
a_comment = refl

pub the_comments_reading : Reading (codes "a ! b") (plain (codes "a") ∷ blank ∷ comment (codes " b") ∷ [])
the_comments_reading = record { fits = refl; spells = refl }

pub a_comment_with_nothing : lexemes (codes "!\n!") ≡ read (comment [] ∷ white 10 ∷ comment [] ∷ [])
a_comment_with_nothing = refl

pub more_than_a_bang : lexemes (codes "!x a! !!") ≡ read (plain (codes "!x") ∷ blank ∷ plain (codes "a!") ∷ blank ∷ plain (codes "!!") ∷ [])
more_than_a_bang = refl

pub a_quote_in_a_comment : lexemes (codes "! a\"b") ≡ read (comment (codes " a\"b") ∷ [])
a_quote_in_a_comment = refl

-- the byte 11 is white space, and the character 160 isn't
pub white_space : lexemes (97 ∷ 11 ∷ 160 ∷ []) ≡ read (plain (97 ∷ []) ∷ white 11 ∷ plain (160 ∷ []) ∷ [])
white_space = refl

pub a_string : lexemes (codes "\"a ! b\"") ≡ read (string (letters (codes "a ! b")) ∷ [])
a_string = refl

pub escapes : lexemes (codes "\"\\n\\t\\r\\\\\\\"\"") ≡ read (string (escape 110 ∷ escape 116 ∷ escape 114 ∷ escape 92 ∷ escape 34 ∷ []) ∷ [])
escapes = refl

pub what_escapes_say : content (escape 110 ∷ escape 116 ∷ escape 114 ∷ escape 92 ∷ escape 34 ∷ itself 122 ∷ []) ≡ 10 ∷ 9 ∷ 13 ∷ 92 ∷ 34 ∷ 122 ∷ []
what_escapes_say = refl

pub behind_a_string : lexemes (codes "\"a\"b") ≡ faulty (stuck_quote (codes "\"a\""))
behind_a_string = refl

pub two_strings : lexemes (codes "\"a\"\"b\"") ≡ faulty (stuck_quote (codes "\"a\""))
two_strings = refl

pub inside_a_token : lexemes (codes "c a\"b") ≡ faulty (stuck_quote (codes "c a"))
inside_a_token = refl

pub its_first_fault : FirstFault (codes "c a\"b") (stuck_quote (codes "c a"))
its_first_fault = record {
  ps = plain (codes "c") ∷ blank ∷ [];
  rest = codes "a\"b";
  fits = refl;
  spells = refl;
  wrong = inside_token (codes "a") (codes "b") refl refl;
}

pub behind_a_bang : lexemes (codes "!\"") ≡ faulty (stuck_quote (codes "!"))
behind_a_bang = refl

pub cut_by_a_line_break : lexemes (codes "a \"b\nc\"") ≡ faulty (open_string (codes "a "))
cut_by_a_line_break = refl

pub cut_by_the_end : lexemes (codes "a \"b") ≡ faulty (open_string (codes "a "))
cut_by_the_end = refl

pub cut_behind_a_backslash : lexemes (codes "a \"b\\\n") ≡ faulty (open_string (codes "a "))
cut_behind_a_backslash = refl

pub no_such_escape : lexemes (codes "\"a\\x") ≡ faulty (bad_escape (codes "\"a"))
no_such_escape = refl

pub no_escape_of_13 : lexemes (codes "\"a\\\r\n") ≡ faulty (bad_escape (codes "\"a"))
no_escape_of_13 = refl

-- 233 takes two bytes
pub numbers : numbered 7 1 (kinds (plain (97 ∷ 233 ∷ []) ∷ blank ∷ comment (codes " b") ∷ white 10 ∷ string (itself 99 ∷ escape 110 ∷ []) ∷ [])) ≡ token_at 7 1 (Plain (97 ∷ 195 ∷ 169 ∷ [])) ∷ token_at 7 2 (Str (99 ∷ 10 ∷ [])) ∷ []
unfolding encode_utf8
numbers = refl
