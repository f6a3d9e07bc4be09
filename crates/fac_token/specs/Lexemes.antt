-- A text as lexemes: white space, comments, plain tokens and strings, one after the other. A text is the list of its characters.
use Rattle.std.specs.Prelude.{ℕ, ◌≡◌, ◌==◌, nat_le, List, [], ◌∷◌, ◌++◌, Bool, true, false, not, ◌&&◌, ◌||◌, Option, Some, None, if◌then◌else◌}
use Rattle.std.specs.List.{list_all}

-- 9 to 13, and the space
abbrev pub is_white : ℕ → Bool
is_white c = nat_le 9 c && nat_le c 13 || c == 32

-- what an escape stands for, by the character after the backslash
abbrev pub escaped : ℕ → Option ℕ
escaped c = (if c == 110 then Some 10 else if c == 116 then Some 9 else if c == 114 then Some 13 else if c == 92 then Some 92 else if c == 34 then Some 34 else None)

-- a part of a string: a character that stands for itself, or a backslash and a character
pub data StringPart : Type 0 where
  itself : ℕ → StringPart
  escape : ℕ → StringPart

-- A white character; a comment, by the characters behind its `!`; a plain token, by its characters; a string, by the parts between
-- its quotes
pub data Lexeme : Type 0 where
  white : ℕ → Lexeme
  comment : List ℕ → Lexeme
  plain : List ℕ → Lexeme
  string : List StringPart → Lexeme

abbrev pub part_chars : StringPart → List ℕ
part_chars (itself c) = c ∷ []
part_chars (escape c) = 92 ∷ c ∷ []

abbrev pub parts_chars : List StringPart → List ℕ
parts_chars [] = []
parts_chars (p ∷ ps) = part_chars p ++ parts_chars ps

-- how a lexeme is spelled
abbrev pub lexeme_chars : Lexeme → List ℕ
lexeme_chars (white c) = c ∷ []
lexeme_chars (comment cs) = 33 ∷ cs
lexeme_chars (plain cs) = cs
lexeme_chars (string ps) = 34 ∷ parts_chars ps ++ 34 ∷ []

abbrev pub spelled : List Lexeme → List ℕ
spelled [] = []
spelled (p ∷ ps) = lexeme_chars p ++ spelled ps

-- a character of a plain token
abbrev pub is_inner : ℕ → Bool
is_inner c = not (is_white c) && not (c == 34)

abbrev pub is_bang : List ℕ → Bool
is_bang (c ∷ []) = c == 33
is_bang _ = false

abbrev pub has_any : List ℕ → Bool
has_any [] = false
has_any (c ∷ cs) = true

abbrev pub no_break : ℕ → Bool
no_break c = not (c == 10)

-- white space or the end comes next
abbrev pub white_next : List ℕ → Bool
white_next [] = true
white_next (c ∷ cs) = is_white c

-- a line break or the end comes next
abbrev pub break_next : List ℕ → Bool
break_next [] = true
break_next (c ∷ cs) = c == 10

-- a character that stands for itself in a string
abbrev pub is_itself : ℕ → Bool
is_itself c = not (c == 34) && not (c == 92) && not (c == 10)

abbrev pub is_some : {A : Type 0} → Option A → Bool
is_some (Some x) = true
is_some None = false

abbrev pub part_fits : StringPart → Bool
part_fits (itself c) = is_itself c
part_fits (escape c) = is_some (escaped c)

-- which lexemes there are, with what may come next; a plain token is as long as it can be, and so is a comment
abbrev pub lexeme_fits : Lexeme → List ℕ → Bool
lexeme_fits (white c) next = is_white c
lexeme_fits (comment cs) next = white_next cs && list_all no_break cs && break_next next
lexeme_fits (plain cs) next = has_any cs && list_all is_inner cs && not (is_bang cs) && white_next next
lexeme_fits (string ps) next = list_all part_fits ps && white_next next

-- each lexeme is one, with these characters behind the last
abbrev pub all_fit : List Lexeme → List ℕ → Bool
all_fit [] next = true
all_fit (p ∷ ps) next = lexeme_fits p (spelled ps ++ next) && all_fit ps next

-- A text's reading. Each character belongs to exactly one lexeme.
pub record Reading (chars : List ℕ) (ps : List Lexeme) : Type 0 where
  pub fits : all_fit ps [] ≡ true
  pub spells : spelled ps ≡ chars

-- what is wrong with a text, with the characters before the one that is named
pub data Fault : Type 0 where
  open_string : List ℕ → Fault
  bad_escape : List ℕ → Fault
  stuck_quote : List ℕ → Fault

-- What goes wrong at the front of these characters, with others before them: a string that a line break or the end cuts off, also
-- behind a backslash; an escape that there isn't; a quote inside a token; a character behind a closing quote
pub data GoesWrong (before : List ℕ) : List ℕ → Fault → Type 0 where
  cut : (ps : List StringPart) (rest : List ℕ) → list_all part_fits ps ≡ true → break_next rest ≡ true → GoesWrong before (34 ∷ parts_chars ps ++ rest) (open_string before)
  cut_escape : (ps : List StringPart) (rest : List ℕ) → list_all part_fits ps ≡ true → break_next rest ≡ true → GoesWrong before (34 ∷ parts_chars ps ++ 92 ∷ rest) (open_string before)
  no_escape : (ps : List StringPart) (c : ℕ) (rest : List ℕ) → list_all part_fits ps ≡ true → is_some (escaped c) ≡ false → no_break c ≡ true → GoesWrong before (34 ∷ parts_chars ps ++ 92 ∷ c ∷ rest) (bad_escape (before ++ 34 ∷ parts_chars ps))
  inside_token : (cs rest : List ℕ) → has_any cs ≡ true → list_all is_inner cs ≡ true → GoesWrong before (cs ++ 34 ∷ rest) (stuck_quote (before ++ cs))
  after_string : (ps : List StringPart) (c : ℕ) (rest : List ℕ) → list_all part_fits ps ≡ true → is_white c ≡ false → GoesWrong before (34 ∷ parts_chars ps ++ 34 ∷ c ∷ rest) (stuck_quote (before ++ (34 ∷ parts_chars ps ++ 34 ∷ [])))

-- the first fault: lexemes that are read, and behind them what goes wrong
pub record FirstFault (chars : List ℕ) (f : Fault) : Type 0 where
  pub ps : List Lexeme
  pub rest : List ℕ
  pub fits : all_fit ps rest ≡ true
  pub spells : spelled ps ++ rest ≡ chars
  pub wrong : GoesWrong (spelled ps) rest f
