-- Reading characters one by one, to lexemes. No contract speaks of these steps; the proofs go by them.
use Rattle.std.specs.Prelude.{ℕ, ◌==◌, List, [], ◌∷◌, ◌++◌, not, ◌&&◌, Result, Ok, Err, if◌then◌else◌}
use Rattle.fac_token.specs.Lexemes.{is_white, escaped, is_some, StringPart, itself, escape, Lexeme, white, comment, plain, string, parts_chars, spelled, is_bang, Fault, open_string, bad_escape, stuck_quote}

-- what stands behind the finished lexemes; a string that is closed waits for white space or the end
pub data Pending : Type 0 where
  between : Pending
  in_plain : ℕ → List ℕ → Pending
  in_comment : List ℕ → Pending
  in_string : List StringPart → Pending
  in_escape : List StringPart → Pending
  closed : List StringPart → Pending

pub record Scan : Type 0 where
  pub done : List Lexeme
  pub pending : Pending

abbrev pub scan : List Lexeme → Pending → Result Scan Fault
scan ps m = Ok (record { done = ps; pending = m })

-- a plain token that ends, or a comment with nothing in it
abbrev pub ended : ℕ → List ℕ → Lexeme
ended c cs = (if is_bang (c ∷ cs) then comment [] else plain (c ∷ cs))

abbrev pub take_white : List Lexeme → Pending → ℕ → Result Scan Fault
take_white ps between c = scan (ps ++ white c ∷ []) between
take_white ps (in_plain d cs) c = (if is_bang (d ∷ cs) && not (c == 10) then scan ps (in_comment (c ∷ [])) else scan (ps ++ ended d cs ∷ white c ∷ []) between)
take_white ps (in_comment cs) c = (if c == 10 then scan (ps ++ comment cs ∷ white c ∷ []) between else scan ps (in_comment (cs ++ c ∷ [])))
take_white ps (in_string parts) c = (if c == 10 then Err (open_string (spelled ps)) else scan ps (in_string (parts ++ itself c ∷ [])))
take_white ps (in_escape parts) c = (if c == 10 then Err (open_string (spelled ps)) else Err (bad_escape (spelled ps ++ 34 ∷ parts_chars parts)))
take_white ps (closed parts) c = scan (ps ++ string parts ∷ white c ∷ []) between

abbrev pub take_quote : List Lexeme → Pending → Result Scan Fault
take_quote ps between = scan ps (in_string [])
take_quote ps (in_plain d cs) = Err (stuck_quote (spelled ps ++ d ∷ cs))
take_quote ps (in_comment cs) = scan ps (in_comment (cs ++ 34 ∷ []))
take_quote ps (in_string parts) = scan ps (closed parts)
take_quote ps (in_escape parts) = scan ps (in_string (parts ++ escape 34 ∷ []))
take_quote ps (closed parts) = Err (stuck_quote (spelled ps ++ (34 ∷ parts_chars parts ++ 34 ∷ [])))

abbrev pub take_inner : List Lexeme → Pending → ℕ → Result Scan Fault
take_inner ps between c = scan ps (in_plain c [])
take_inner ps (in_plain d cs) c = scan ps (in_plain d (cs ++ c ∷ []))
take_inner ps (in_comment cs) c = scan ps (in_comment (cs ++ c ∷ []))
take_inner ps (in_string parts) c = (if c == 92 then scan ps (in_escape parts) else scan ps (in_string (parts ++ itself c ∷ [])))
take_inner ps (in_escape parts) c = (if is_some (escaped c) then scan ps (in_string (parts ++ escape c ∷ [])) else Err (bad_escape (spelled ps ++ 34 ∷ parts_chars parts)))
take_inner ps (closed parts) c = Err (stuck_quote (spelled ps ++ (34 ∷ parts_chars parts ++ 34 ∷ [])))

abbrev pub take_char : Scan → ℕ → Result Scan Fault
take_char s c = (if is_white c then take_white s.done s.pending c else if c == 34 then take_quote s.done s.pending else take_inner s.done s.pending c)

abbrev pub at_end : List Lexeme → Pending → Result (List Lexeme) Fault
at_end ps between = Ok ps
at_end ps (in_plain d cs) = Ok (ps ++ ended d cs ∷ [])
at_end ps (in_comment cs) = Ok (ps ++ comment cs ∷ [])
at_end ps (in_string parts) = Err (open_string (spelled ps))
at_end ps (in_escape parts) = Err (open_string (spelled ps))
at_end ps (closed parts) = Ok (ps ++ string parts ∷ [])

abbrev pub scan_from : Result Scan Fault → List ℕ → Result (List Lexeme) Fault
scan_from (Err f) cs = Err f
scan_from (Ok s) [] = at_end s.done s.pending
scan_from (Ok s) (c ∷ cs) = scan_from (take_char s c) cs

abbrev pub lexemes : List ℕ → Result (List Lexeme) Fault
lexemes cs = scan_from (scan [] between) cs
