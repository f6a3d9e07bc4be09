-- What the code holds is what the lexemes and the open one are, by a view.
use Rattle.std.proofs.Common.{◌≡◌, ℕ, ◌+◌, ◌==◌, List, [], ◌∷◌, ◌++◌, ◌<◌, ◌≤◌, length, drop, get_or, length-append, Bool, true, false, Option, Some, None, Result, Ok, Err, refl, sym, ◌∙◌, ap, subst, append_assoc, arith, cond}
use Rattle.std.specs.Str.{encode_utf8_all, bytes_eq, chars, IsUtf8}
use Rattle.std.specs.Char.{encode_utf8, len_utf8}
use Rattle.std.proofs.lemmas.List.{append-nil, at_drop_more, at_drop_all}
use Rattle.std.proofs.lemmas.Str.{encodes-append, encodes_same, encode_ascii, length-encode, encodes-chars, scalars-chars}
use Rattle.std.proofs.lemmas.Grind.{common_steps}
use Rattle.fac_base.proofs.SameBytes.{same_bytes}
use Rattle.fac_source.specs.declared.token.Token.{Token}
use Rattle.fac_source.specs.declared.token.TokKind.{TokKind}
use Rattle.fac_source.specs.declared.token.TokKind.TheVariants.{Plain, Str}
use Rattle.fac_token.specs.declared.fault.TokenFault.{TokenFault}
use Rattle.fac_token.specs.declared.fault.TokenFault.TheVariants.{NotUtf8, OpenString, BadEscape, StuckQuote, Memory}
use Rattle.fac_token.specs.declared.scanner.Mode.{Mode}
use Rattle.fac_token.specs.declared.scanner.Mode.TheVariants.{Between, InPlain, InComment, InString, InEscape, Closed}
use Rattle.fac_token.specs.Lexemes.{is_white, escaped, is_some, StringPart, itself, escape, Lexeme, white, comment, plain, string, parts_chars, spelled, is_bang, Fault, open_string, bad_escape, stuck_quote}
use Rattle.fac_token.specs.inner.Scan.{Pending, between, in_plain, in_comment, in_string, in_escape, closed, Scan, scan, take_white, take_quote, take_inner, take_char, at_end, scan_from, lexemes}
use Rattle.fac_token.specs.Tokens.{part_content, content, kinds, numbered, token_at, escape_content, Spells, Tokenizes}
use Rattle.fac_token.specs.inner.TokenSteps.{Held, held, with_token, hold_plain_end, hold_white, hold_quote, hold_escape, hold_inner, hold_char, hold_end, hold_from, Holds, Ends}
use Rattle.fac_token.proofs.ScanLemmas.{pending_chars, scan_chars, Known, take_known, Answers, lexemes_known, bang_is}

-- a step of the code by the two tests of the character
pub char_holds : (x y : Bool) (file n : ℕ) (h : Held) (c : ℕ) (ts : List Token) (text : List ℕ) (r : Result Mode TokenFault) → is_white c ≡ x → (c == 34) ≡ y → Holds (cond x (hold_white file h.tokens h.text h.mode c) (cond y (hold_quote n h.tokens h.text h.mode) (hold_inner n h.tokens h.text h.mode c))) ts text r → Holds (hold_char file n h c) ts text r
char_holds x y file n h c ts text r e d k = rw (e, d) k

-- the number of bytes
abbrev pub size : List ℕ → ℕ
size cs = length (encode_utf8_all cs)

abbrev pub pending_text : Pending → List ℕ
pending_text between = []
pending_text (in_plain d cs) = encode_utf8_all (d ∷ cs)
pending_text (in_comment cs) = []
pending_text (in_string us) = encode_utf8_all (content us)
pending_text (in_escape us) = encode_utf8_all (content us)
pending_text (closed us) = encode_utf8_all (content us)

abbrev pub pending_mode : List ℕ → Pending → Mode
pending_mode before between = Between
pending_mode before (in_plain d cs) = InPlain
pending_mode before (in_comment cs) = InComment
pending_mode before (in_string us) = InString (size before)
pending_mode before (in_escape us) = InEscape (size before) (size (before ++ 34 ∷ parts_chars us))
pending_mode before (closed us) = Closed

abbrev pub tokens_of : ℕ → List Lexeme → List Token
tokens_of file ps = numbered file 1 (kinds ps)

abbrev pub view : ℕ → List Lexeme → Pending → Result Held TokenFault
view file ps m = held (tokens_of file ps) (pending_text m) (pending_mode (spelled ps) m)

abbrev pub view_fault : Fault → TokenFault
view_fault (open_string before) = OpenString (size before)
view_fault (bad_escape before) = BadEscape (size before)
view_fault (stuck_quote before) = StuckQuote (size before)

abbrev pub view_scan : ℕ → Result Scan Fault → Result Held TokenFault
view_scan file (Ok s) = view file s.done s.pending
view_scan file (Err f) = Err (view_fault f)

abbrev pub listed : List Token → Result (List Token) TokenFault
listed ts = Ok ts

abbrev pub view_end : ℕ → Result (List Lexeme) Fault → Result (List Token) TokenFault
view_end file (Ok ps) = Ok (tokens_of file ps)
view_end file (Err f) = Err (view_fault f)

kinds-append : (ps qs : List Lexeme) → kinds (ps ++ qs) ≡ kinds ps ++ kinds qs
kinds-append [] qs = refl
kinds-append (white c ∷ ps) qs = kinds-append ps qs
kinds-append (comment cs ∷ ps) qs = kinds-append ps qs
kinds-append (plain cs ∷ ps) qs = ap (λ (ks : List TokKind). Plain (encode_utf8_all cs) ∷ ks) (kinds-append ps qs)
kinds-append (string us ∷ ps) qs = ap (λ (ks : List TokKind). Str (encode_utf8_all (content us)) ∷ ks) (kinds-append ps qs)

content-more : (us : List StringPart) (u : StringPart) → content (us ++ u ∷ []) ≡ content us ++ part_content u
content-more [] u = grind (arith, common_steps)
content-more (v ∷ us) u = rw (content-more us u) (sym (append_assoc (part_content v) (content us) (part_content u)))

length-numbered : (file n : ℕ) (ks : List TokKind) → length (numbered file n ks) ≡ length ks
length-numbered file n [] = refl
length-numbered file n (k ∷ ks) = let ih = length-numbered file (n + 1) ks in omega arith

numbered-more : (file n m : ℕ) (ks : List TokKind) (k : TokKind) → m ≡ n + length ks → numbered file n (ks ++ k ∷ []) ≡ numbered file n ks ++ token_at file m k ∷ []
numbered-more file n m [] k e = let same : m ≡ n = omega arith in ap (λ (i : ℕ). token_at file i k ∷ []) (sym same)
numbered-more file n m (j ∷ ks) k e = ap (λ (ts : List Token). token_at file n j ∷ ts) (numbered-more file (n + 1) m ks k (omega arith))

-- lexemes with no token
none_more : (file : ℕ) (ps qs : List Lexeme) → kinds qs ≡ [] → tokens_of file (ps ++ qs) ≡ tokens_of file ps
none_more file ps qs e = ap (λ (ks : List TokKind). numbered file 1 ks) (kinds-append ps qs ∙ (ap (λ (ks : List TokKind). kinds ps ++ ks) e ∙ append-nil (kinds ps)))

-- lexemes with one token
one_more : (file : ℕ) (ps qs : List Lexeme) (k : TokKind) → kinds qs ≡ k ∷ [] → tokens_of file (ps ++ qs) ≡ with_token file (tokens_of file ps) k
one_more file ps qs k e =
    let many : length (tokens_of file ps) + 1 ≡ 1 + length (kinds ps) = omega (arith, length-numbered file 1 (kinds ps)) in
    ap (λ (ks : List TokKind). numbered file 1 ks) (kinds-append ps qs ∙ ap (λ (ks : List TokKind). kinds ps ++ ks) e) ∙ numbered-more file 1 (length (tokens_of file ps) + 1) (kinds ps) k many

encode_one : (c : ℕ) → encode_utf8_all (c ∷ []) ≡ encode_utf8 c
encode_one c = append-nil (encode_utf8 c)

encode_more : (cs : List ℕ) (c : ℕ) → encode_utf8_all (cs ++ c ∷ []) ≡ encode_utf8_all cs ++ encode_utf8 c
encode_more cs c = encodes-append cs (c ∷ []) ∙ ap (λ (x : List ℕ). encode_utf8_all cs ++ x) (encode_one c)

content_encoded : (us : List StringPart) (u : StringPart) (c : ℕ) → part_content u ≡ c ∷ [] → encode_utf8_all (content (us ++ u ∷ [])) ≡ encode_utf8_all (content us) ++ encode_utf8 c
content_encoded us u c e = ap encode_utf8_all (content-more us u ∙ ap (λ (x : List ℕ). content us ++ x) e) ∙ encode_more (content us) c

bang_bytes : encode_utf8_all (33 ∷ []) ≡ 33 ∷ []
bang_bytes = encode_one 33 ∙ encode_ascii 33 (omega arith)

-- a text is a single `!` where its bytes are
bang_test_by : (x y : Bool) (cs : List ℕ) → is_bang cs ≡ x → bytes_eq (encode_utf8_all cs) (33 ∷ []) ≡ y → y ≡ x
bang_test_by true y cs h k = sym k ∙ (ap (λ (x : List ℕ). bytes_eq (encode_utf8_all x) (33 ∷ [])) (bang_is cs h) ∙ ap (λ (x : List ℕ). bytes_eq x (33 ∷ [])) bang_bytes)
bang_test_by false true cs h k =
    let e : encode_utf8_all cs ≡ encode_utf8_all (33 ∷ []) = same_bytes (encode_utf8_all cs) (33 ∷ []) k ∙ sym bang_bytes in
    sym (ap is_bang (encodes_same cs (33 ∷ []) e)) ∙ h
bang_test_by false false cs h k = refl

bang_test : (cs : List ℕ) → bytes_eq (encode_utf8_all cs) (33 ∷ []) ≡ is_bang cs
bang_test cs = bang_test_by (is_bang cs) (bytes_eq (encode_utf8_all cs) (33 ∷ [])) cs refl refl

step_plain : (x y : Bool) (file : ℕ) (ps : List Lexeme) (d : ℕ) (cs : List ℕ) (c : ℕ) → is_bang (d ∷ cs) ≡ x → (c == 10) ≡ y → hold_plain_end file (tokens_of file ps) (encode_utf8_all (d ∷ cs)) c ≡ view_scan file (take_white ps (in_plain d cs) c)
step_plain true true file ps d cs c e n = rw (bang_test (d ∷ cs), e, n) (ap (λ (ts : List Token). held ts [] Between) (sym (none_more file ps (comment [] ∷ white c ∷ []) refl)))
step_plain true false file ps d cs c e n = rw (bang_test (d ∷ cs), e, n) refl
step_plain false y file ps d cs c e n = rw (bang_test (d ∷ cs), e) (ap (λ (ts : List Token). held ts [] Between) (sym (one_more file ps (plain (d ∷ cs) ∷ white c ∷ []) (Plain (encode_utf8_all (d ∷ cs))) refl)))

step_comment : (x : Bool) (file : ℕ) (ps : List Lexeme) (cs : List ℕ) (c : ℕ) → (c == 10) ≡ x → hold_white file (tokens_of file ps) [] InComment c ≡ view_scan file (take_white ps (in_comment cs) c)
step_comment true file ps cs c e = rw e (ap (λ (ts : List Token). held ts [] Between) (sym (none_more file ps (comment cs ∷ white c ∷ []) refl)))
step_comment false file ps cs c e = rw e refl

step_string : (x : Bool) (file : ℕ) (ps : List Lexeme) (us : List StringPart) (c : ℕ) → (c == 10) ≡ x → hold_white file (tokens_of file ps) (encode_utf8_all (content us)) (InString (size (spelled ps))) c ≡ view_scan file (take_white ps (in_string us) c)
step_string true file ps us c e = rw e refl
step_string false file ps us c e = rw e (ap (λ (text : List ℕ). held (tokens_of file ps) text (InString (size (spelled ps)))) (sym (content_encoded us (itself c) c refl)))

step_escape : (x : Bool) (file : ℕ) (ps : List Lexeme) (us : List StringPart) (c : ℕ) → (c == 10) ≡ x → hold_white file (tokens_of file ps) (encode_utf8_all (content us)) (InEscape (size (spelled ps)) (size (spelled ps ++ 34 ∷ parts_chars us))) c ≡ view_scan file (take_white ps (in_escape us) c)
step_escape true file ps us c e = rw e refl
step_escape false file ps us c e = rw e refl

-- what the code holds behind white space
step_white : (file : ℕ) (ps : List Lexeme) (m : Pending) (c : ℕ) → hold_white file (tokens_of file ps) (pending_text m) (pending_mode (spelled ps) m) c ≡ view_scan file (take_white ps m c)
step_white file ps between c = ap (λ (ts : List Token). held ts [] Between) (sym (none_more file ps (white c ∷ []) refl))
step_white file ps (in_plain d cs) c = step_plain (is_bang (d ∷ cs)) (c == 10) file ps d cs c refl refl
step_white file ps (in_comment cs) c = step_comment (c == 10) file ps cs c refl
step_white file ps (in_string us) c = step_string (c == 10) file ps us c refl
step_white file ps (in_escape us) c = step_escape (c == 10) file ps us c refl
step_white file ps (closed us) c = ap (λ (ts : List Token). held ts [] Between) (sym (one_more file ps (string us ∷ white c ∷ []) (Str (encode_utf8_all (content us))) refl))

-- behind a quote
step_quote : (file n : ℕ) (ps : List Lexeme) (m : Pending) → n ≡ size (spelled ps ++ pending_chars m) → hold_quote n (tokens_of file ps) (pending_text m) (pending_mode (spelled ps) m) ≡ view_scan file (take_quote ps m)
step_quote file n ps between e = ap (λ (k : ℕ). held (tokens_of file ps) [] (InString k)) (e ∙ ap size (append-nil (spelled ps)))
step_quote file n ps (in_plain d cs) e = rw e refl
step_quote file n ps (in_comment cs) e = refl
step_quote file n ps (in_string us) e = refl
step_quote file n ps (in_escape us) e = ap (λ (text : List ℕ). held (tokens_of file ps) text (InString (size (spelled ps)))) (sym (content_encoded us (escape 34) 34 refl))
step_quote file n ps (closed us) e = rw e refl

step_read_escape : (o : Option ℕ) (file : ℕ) (ps : List Lexeme) (us : List StringPart) (c : ℕ) → escaped c ≡ o → hold_escape (tokens_of file ps) (encode_utf8_all (content us)) (size (spelled ps)) (size (spelled ps ++ 34 ∷ parts_chars us)) o ≡ view_scan file (cond (is_some o) (scan ps (in_string (us ++ escape c ∷ []))) (Err (bad_escape (spelled ps ++ 34 ∷ parts_chars us))))
step_read_escape (Some d) file ps us c e = ap (λ (text : List ℕ). held (tokens_of file ps) text (InString (size (spelled ps)))) (sym (content_encoded us (escape c) d (ap escape_content e)))
step_read_escape None file ps us c e = refl

step_backslash : (x : Bool) (file n : ℕ) (ps : List Lexeme) (us : List StringPart) (c : ℕ) → (c == 92) ≡ x → n ≡ size (spelled ps ++ 34 ∷ parts_chars us) → hold_inner n (tokens_of file ps) (encode_utf8_all (content us)) (InString (size (spelled ps))) c ≡ view_scan file (take_inner ps (in_string us) c)
step_backslash true file n ps us c e h = rw (e, h) refl
step_backslash false file n ps us c e h = rw e (ap (λ (text : List ℕ). held (tokens_of file ps) text (InString (size (spelled ps)))) (sym (content_encoded us (itself c) c refl)))

-- behind another character
step_inner : (file n : ℕ) (ps : List Lexeme) (m : Pending) (c : ℕ) → n ≡ size (spelled ps ++ pending_chars m) → hold_inner n (tokens_of file ps) (pending_text m) (pending_mode (spelled ps) m) c ≡ view_scan file (take_inner ps m c)
step_inner file n ps between c e = ap (λ (text : List ℕ). held (tokens_of file ps) text InPlain) (sym (encode_one c))
step_inner file n ps (in_plain d cs) c e = ap (λ (text : List ℕ). held (tokens_of file ps) text InPlain) (sym (encode_more (d ∷ cs) c))
step_inner file n ps (in_comment cs) c e = refl
step_inner file n ps (in_string us) c e = step_backslash (c == 92) file n ps us c refl e
step_inner file n ps (in_escape us) c e = step_read_escape (escaped c) file ps us c refl
step_inner file n ps (closed us) c e = rw e refl

pub step_by : (x y : Bool) (file n : ℕ) (ps : List Lexeme) (m : Pending) (c : ℕ) → n ≡ size (spelled ps ++ pending_chars m) → cond x (hold_white file (tokens_of file ps) (pending_text m) (pending_mode (spelled ps) m) c) (cond y (hold_quote n (tokens_of file ps) (pending_text m) (pending_mode (spelled ps) m)) (hold_inner n (tokens_of file ps) (pending_text m) (pending_mode (spelled ps) m) c)) ≡ view_scan file (cond x (take_white ps m c) (cond y (take_quote ps m) (take_inner ps m c)))
step_by true y file n ps m c e = step_white file ps m c
step_by false true file n ps m c e = step_quote file n ps m e
step_by false false file n ps m c e = step_inner file n ps m c e

last_plain : (x : Bool) (file : ℕ) (ps : List Lexeme) (d : ℕ) (cs : List ℕ) → is_bang (d ∷ cs) ≡ x → hold_end file (tokens_of file ps) (encode_utf8_all (d ∷ cs)) InPlain ≡ view_end file (at_end ps (in_plain d cs))
last_plain true file ps d cs e = rw (bang_test (d ∷ cs), e) (ap listed (sym (none_more file ps (comment [] ∷ []) refl)))
last_plain false file ps d cs e = rw (bang_test (d ∷ cs), e) (ap listed (sym (one_more file ps (plain (d ∷ cs) ∷ []) (Plain (encode_utf8_all (d ∷ cs))) refl)))

-- at the end
pub last_step : (file : ℕ) (ps : List Lexeme) (m : Pending) → hold_end file (tokens_of file ps) (pending_text m) (pending_mode (spelled ps) m) ≡ view_end file (at_end ps m)
last_step file ps between = refl
last_step file ps (in_plain d cs) = last_plain (is_bang (d ∷ cs)) file ps d cs refl
last_step file ps (in_comment cs) = ap listed (sym (none_more file ps (comment cs ∷ []) refl))
last_step file ps (in_string us) = refl
last_step file ps (in_escape us) = refl
last_step file ps (closed us) = ap listed (sym (one_more file ps (string us ∷ []) (Str (encode_utf8_all (content us))) refl))

pub size-more : (n c : ℕ) (cs : List ℕ) → n ≡ size cs → n + len_utf8 c ≡ size (cs ++ c ∷ [])
size-more n c cs e =
    let one = length-encode c in
    let more = ap (λ (x : List ℕ). length x) (encode_more cs c) in
    grind (arith, common_steps)

-- all the steps
steps_seen : (file n : ℕ) (r : Result Scan Fault) (done cs : List ℕ) → Known done r → n ≡ size done → hold_from file n (view_scan file r) cs ≡ view_end file (scan_from r cs)
steps_seen file n (Err f) done cs k e = refl
steps_seen file n (Ok s) done [] k e = last_step file s.done s.pending
steps_seen file n (Ok s) done (c ∷ cs) k e =
    let known : Known ((spelled s.done ++ pending_chars s.pending) ++ c ∷ []) (take_char s c) = take_known (is_white c) (c == 34) s.done s.pending c refl refl k.0.lexemes_fit k.0.pending_fits in
    let here : n ≡ size (scan_chars s) = e ∙ ap size (sym k.1) in
    ap (λ (r : Result Held TokenFault). hold_from file (n + len_utf8 c) r cs) (step_by (is_white c) (c == 34) file n s.done s.pending c here) ∙ steps_seen file (n + len_utf8 c) (take_char s c) (scan_chars s ++ c ∷ []) cs known (size-more n c (scan_chars s) here)

pub seen_whole : (file : ℕ) (cs : List ℕ) → hold_from file 0 (held [] [] Between) cs ≡ view_end file (lexemes cs)
seen_whole file cs = steps_seen file 0 (scan [] between) [] cs (record { lexemes_fit = λ next. refl; pending_fits = tt }, refl) refl

tokenizes_by : (file : ℕ) (bytes chars : List ℕ) (r : Result (List Lexeme) Fault) (t : Result (List Token) TokenFault) → Spells chars bytes → Answers chars r → Ends (view_end file r) t → Tokenizes file bytes t
tokenizes_by file bytes chars (Ok ps) (Ok ts) s a e = record { chars = chars; ps = ps; spells = s; reading = a; are = cc }
tokenizes_by file bytes chars (Ok ps) (Err (NotUtf8 at)) s a e = cc
tokenizes_by file bytes chars (Ok ps) (Err (OpenString at)) s a e = cc
tokenizes_by file bytes chars (Ok ps) (Err (BadEscape at)) s a e = cc
tokenizes_by file bytes chars (Ok ps) (Err (StuckQuote at)) s a e = cc
tokenizes_by file bytes chars r (Err Memory) s a e = tt
tokenizes_by file bytes chars (Err f) (Ok ts) s a e = cc
tokenizes_by file bytes chars (Err (open_string b)) (Err (NotUtf8 at)) s a e = cc
tokenizes_by file bytes chars (Err (bad_escape b)) (Err (NotUtf8 at)) s a e = cc
tokenizes_by file bytes chars (Err (stuck_quote b)) (Err (NotUtf8 at)) s a e = cc
tokenizes_by file bytes chars (Err (open_string b)) (Err (OpenString at)) s a e = record { chars = chars; before = b; spells = s; first = a; offset = cc }
tokenizes_by file bytes chars (Err (open_string b)) (Err (BadEscape at)) s a e = cc
tokenizes_by file bytes chars (Err (open_string b)) (Err (StuckQuote at)) s a e = cc
tokenizes_by file bytes chars (Err (bad_escape b)) (Err (OpenString at)) s a e = cc
tokenizes_by file bytes chars (Err (bad_escape b)) (Err (BadEscape at)) s a e = record { chars = chars; before = b; spells = s; first = a; offset = cc }
tokenizes_by file bytes chars (Err (bad_escape b)) (Err (StuckQuote at)) s a e = cc
tokenizes_by file bytes chars (Err (stuck_quote b)) (Err (OpenString at)) s a e = cc
tokenizes_by file bytes chars (Err (stuck_quote b)) (Err (BadEscape at)) s a e = cc
tokenizes_by file bytes chars (Err (stuck_quote b)) (Err (StuckQuote at)) s a e = record { chars = chars; before = b; spells = s; first = a; offset = cc }

-- the steps' answer is the file's
pub tokenizes : (file : ℕ) (bytes chars : List ℕ) (t : Result (List Token) TokenFault) → Spells chars bytes → Ends (hold_from file 0 (held [] [] Between) chars) t → Tokenizes file bytes t
tokenizes file bytes chars t s e = tokenizes_by file bytes chars (lexemes chars) t s (lexemes_known chars) (subst (λ (r : Result (List Token) TokenFault). Ends r t) (seen_whole file chars) e)

pub spells_chars : (bs : List ℕ) → IsUtf8 bs → Spells (chars bs) bs
spells_chars bs u = record { scalars = scalars-chars bs u; encoded = encodes-chars bs u }

-- the character of number k
abbrev pub IsAt : List ℕ → ℕ → ℕ → Type 0
IsAt cs k c = (k < length cs) × (c ≡ get_or cs k c)

step_at : (file n k c : ℕ) (h : Held) (cs : List ℕ) → IsAt cs k c → hold_from file n (Ok h) (drop k cs) ≡ hold_from file (n + len_utf8 c) (hold_char file n h c) (drop (k + 1) cs)
step_at file n k c h cs t = at_drop_more (hold_from file n (Ok h)) cs k c t.0 ∙ ap (λ (x : ℕ). hold_from file (n + len_utf8 x) (hold_char file n h x) (drop (k + 1) cs)) (sym t.1)

size_at : (k c : ℕ) (cs : List ℕ) → IsAt cs k c → size (drop k cs) ≡ len_utf8 c + size (drop (k + 1) cs)
size_at k c cs t =
    let here = at_drop_more size cs k c t.0 ∙ ap (λ (x : ℕ). size (x ∷ drop (k + 1) cs)) (sym t.1) in
    let one = length-encode c in
    let parts = length-append (encode_utf8 c) (encode_utf8_all (drop (k + 1) cs)) in
    omega (arith, here, one, parts)

fault_ends : (f : TokenFault) (file n : ℕ) (whole : Result (List Token) TokenFault) (r : Result Held TokenFault) (rest : List ℕ) (ts : List Token) (text : List ℕ) → hold_from file n r rest ≡ whole → Holds r ts text (Err f) → Ends whole (Err f)
fault_ends Memory file n whole r rest ts text w h = tt
fault_ends (NotUtf8 at) file n whole r rest ts text w h = sym w ∙ ap (λ (x : Result Held TokenFault). hold_from file n x rest) h
fault_ends (OpenString at) file n whole r rest ts text w h = sym w ∙ ap (λ (x : Result Held TokenFault). hold_from file n x rest) h
fault_ends (BadEscape at) file n whole r rest ts text w h = sym w ∙ ap (λ (x : Result Held TokenFault). hold_from file n x rest) h
fault_ends (StuckQuote at) file n whole r rest ts text w h = sym w ∙ ap (λ (x : Result Held TokenFault). hold_from file n x rest) h

-- the loop's answers, over the characters of the text
abbrev pub whole : ℕ → List ℕ → Result (List Token) TokenFault
whole file bs = hold_from file 0 (held [] [] Between) (chars bs)

pub begins : (file : ℕ) (bs text : List ℕ) (ts : List Token) → ts ≡ [] → text ≡ [] → hold_from file 0 (held ts text Between) (chars bs) ≡ whole file bs
begins file bs text ts e d = rw (e, d) refl

pub all_bytes : (bs : List ℕ) → IsUtf8 bs → 0 + size (chars bs) ≡ length bs
all_bytes bs u = let e = ap (λ (x : List ℕ). length x) (encodes-chars bs u) in omega (arith, e)

pub faulty : (file n k c : ℕ) (bs : List ℕ) (h : Held) (ts : List Token) (text : List ℕ) (f : TokenFault) → IsUtf8 bs → IsAt (chars bs) k c → hold_from file n (Ok h) (drop k (chars bs)) ≡ whole file bs → Holds (hold_char file n h c) ts text (Err f) → Tokenizes file bs (Err f)
faulty file n k c bs h ts text f u t w e = tokenizes file bs (chars bs) (Err f) (spells_chars bs u) (fault_ends f file (n + len_utf8 c) (whole file bs) (hold_char file n h c) (drop (k + 1) (chars bs)) ts text (sym (step_at file n k c h (chars bs) t) ∙ w) e)

pub goes_on : (file n k j c m : ℕ) (bs : List ℕ) (h : Held) (ts : List Token) (text : List ℕ) (mode : Mode) → IsAt (chars bs) k c → m ≡ len_utf8 c → j ≡ k + 1 → hold_from file n (Ok h) (drop k (chars bs)) ≡ whole file bs → hold_char file n h c ≡ held ts text mode → hold_from file (n + m) (held ts text mode) (drop j (chars bs)) ≡ whole file bs
goes_on file n k j c m bs h ts text mode t e d w s = rw (e, d) (ap (λ (r : Result Held TokenFault). hold_from file (n + len_utf8 c) r (drop (k + 1) (chars bs))) (sym s) ∙ (sym (step_at file n k c h (chars bs) t) ∙ w))

pub counts_on : (n k j c m : ℕ) (bs : List ℕ) → IsAt (chars bs) k c → m ≡ len_utf8 c → j ≡ k + 1 → n + size (drop k (chars bs)) ≡ length bs → (n + m) + size (drop j (chars bs)) ≡ length bs
counts_on n k j c m bs t e d w = rw (e, d) (let s = size_at k c (chars bs) t in omega (arith, s, w))

pub ends : (file n k : ℕ) (bs : List ℕ) (h : Held) (r : Result (List Token) TokenFault) → IsUtf8 bs → length (chars bs) ≤ k → hold_from file n (Ok h) (drop k (chars bs)) ≡ whole file bs → Ends (hold_end file h.tokens h.text h.mode) r → Tokenizes file bs r
ends file n k bs h r u t w e = tokenizes file bs (chars bs) r (spells_chars bs u) (subst (λ (x : Result (List Token) TokenFault). Ends x r) (sym (at_drop_all (hold_from file n (Ok h)) (chars bs) k t) ∙ w) e)
