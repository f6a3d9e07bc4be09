-- A file has at most one reading.
use Rattle.std.proofs.Common.{◌≡◌, ℕ, ◌==◌, List, [], ◌∷◌, ◌++◌, Bool, true, false, not, ◌&&◌, Result, Ok, Err, refl, sym, ◌∙◌, ap, append_assoc, arith, cond}
use Rattle.std.specs.List.{list_all}
use Rattle.std.proofs.lemmas.Grind.{common_steps}
use Rattle.fac_token.specs.Lexemes.{is_white, escaped, is_some, StringPart, itself, escape, Lexeme, white, comment, plain, string, part_chars, parts_chars, lexeme_chars, spelled, is_inner, is_bang, has_any, no_break, white_next, break_next, part_fits, lexeme_fits, all_fit, Reading, Fault, open_string, bad_escape, stuck_quote, GoesWrong, cut, cut_escape, no_escape, inside_token, after_string, FirstFault}
use Rattle.fac_token.specs.inner.Scan.{Pending, between, in_plain, in_comment, in_string, in_escape, closed, Scan, scan, take_white, take_quote, take_inner, take_char, at_end, scan_from, lexemes}
use Rattle.fac_token.proofs.ScanLemmas.{split_and, same_number, white_no_escape}

abbrev pub state : List Lexeme → Pending → Scan
state ps m = record { done = ps; pending = m }

abbrev pub run : Result Scan Fault → List ℕ → Result Scan Fault
run r [] = r
run (Err f) (c ∷ cs) = Err f
run (Ok s) (c ∷ cs) = run (take_char s c) cs

scan-append : (r : Result Scan Fault) (xs ys : List ℕ) → scan_from r (xs ++ ys) ≡ scan_from (run r xs) ys
scan-append r [] ys = refl
scan-append (Err f) (x ∷ xs) ys = refl
scan-append (Ok s) (x ∷ xs) ys = scan-append (take_char s x) xs ys

run-append : (r : Result Scan Fault) (xs ys : List ℕ) → run r (xs ++ ys) ≡ run (run r xs) ys
run-append r [] ys = refl
run-append (Err f) (x ∷ xs) [] = refl
run-append (Err f) (x ∷ xs) (y ∷ ys) = refl
run-append (Ok s) (x ∷ xs) ys = run-append (take_char s x) xs ys

not_true : (b : Bool) → not b ≡ true → b ≡ false
not_true true h = cc
not_true false h = refl

white_char : (s : Scan) (c : ℕ) → is_white c ≡ true → take_char s c ≡ take_white s.done s.pending c
white_char s c h = rw h refl

inner_char : (s : Scan) (c : ℕ) → is_white c ≡ false → (c == 34) ≡ false → take_char s c ≡ take_inner s.done s.pending c
inner_char s c h k = rw (h, k) refl

inner_is : (c : ℕ) → is_inner c ≡ true → (is_white c ≡ false) × ((c == 34) ≡ false)
inner_is c h = let e = split_and (not (is_white c)) (not (c == 34)) h in (not_true (is_white c) e.0, not_true (c == 34) e.1)

plain_run : (ps : List Lexeme) (d : ℕ) (ds cs : List ℕ) → list_all is_inner cs ≡ true → run (scan ps (in_plain d ds)) cs ≡ scan ps (in_plain d (ds ++ cs))
plain_run ps d ds [] h = grind (arith, common_steps)
plain_run ps d ds (c ∷ cs) h =
    let e = split_and (is_inner c) (list_all is_inner cs) h in
    let i = inner_is c e.0 in
    ap (λ (r : Result Scan Fault). run r cs) (inner_char (state ps (in_plain d ds)) c i.0 i.1) ∙ (plain_run ps d (ds ++ c ∷ []) cs e.1 ∙ ap (λ (x : List ℕ). scan ps (in_plain d x)) (append_assoc ds (c ∷ []) cs))

comment_char : (x y : Bool) (ps : List Lexeme) (ds : List ℕ) (c : ℕ) → is_white c ≡ x → (c == 34) ≡ y → no_break c ≡ true → cond x (take_white ps (in_comment ds) c) (cond y (take_quote ps (in_comment ds)) (take_inner ps (in_comment ds) c)) ≡ scan ps (in_comment (ds ++ c ∷ []))
comment_char true y ps ds c w q n = rw (not_true (c == 10) n) refl
comment_char false true ps ds c w q n = ap (λ (x : ℕ). scan ps (in_comment (ds ++ x ∷ []))) (sym (same_number c 34 q))
comment_char false false ps ds c w q n = refl

comment_run : (ps : List Lexeme) (ds cs : List ℕ) → list_all no_break cs ≡ true → run (scan ps (in_comment ds)) cs ≡ scan ps (in_comment (ds ++ cs))
comment_run ps ds [] h = grind (arith, common_steps)
comment_run ps ds (c ∷ cs) h =
    let e = split_and (no_break c) (list_all no_break cs) h in
    ap (λ (r : Result Scan Fault). run r cs) (comment_char (is_white c) (c == 34) ps ds c refl refl e.0) ∙ (comment_run ps (ds ++ c ∷ []) cs e.1 ∙ ap (λ (x : List ℕ). scan ps (in_comment x)) (append_assoc ds (c ∷ []) cs))

itself_char : (x : Bool) (ps : List Lexeme) (us : List StringPart) (c : ℕ) → is_white c ≡ x → (c == 34) ≡ false → (c == 92) ≡ false → (c == 10) ≡ false → cond x (take_white ps (in_string us) c) (cond (c == 34) (take_quote ps (in_string us)) (take_inner ps (in_string us) c)) ≡ scan ps (in_string (us ++ itself c ∷ []))
itself_char true ps us c w q b n = rw n refl
itself_char false ps us c w q b n = rw (q, b) refl

escape_char : (x y : Bool) (ps : List Lexeme) (us : List StringPart) (c : ℕ) → is_white c ≡ x → (c == 34) ≡ y → is_some (escaped c) ≡ true → cond x (take_white ps (in_escape us) c) (cond y (take_quote ps (in_escape us)) (take_inner ps (in_escape us) c)) ≡ scan ps (in_string (us ++ escape c ∷ []))
escape_char true y ps us c w q e = let d = white_no_escape c w in cc
escape_char false true ps us c w q e = ap (λ (x : ℕ). scan ps (in_string (us ++ escape x ∷ []))) (sym (same_number c 34 q))
escape_char false false ps us c w q e = rw e refl

part_run : (ps : List Lexeme) (us : List StringPart) (u : StringPart) → part_fits u ≡ true → run (scan ps (in_string us)) (part_chars u) ≡ scan ps (in_string (us ++ u ∷ []))
part_run ps us (itself c) h =
    let e = split_and (not (c == 34) && not (c == 92)) (not (c == 10)) h in
    let d = split_and (not (c == 34)) (not (c == 92)) e.0 in
    itself_char (is_white c) ps us c refl (not_true (c == 34) d.0) (not_true (c == 92) d.1) (not_true (c == 10) e.1)
part_run ps us (escape c) h = escape_char (is_white c) (c == 34) ps us c refl refl h

string_run : (ps : List Lexeme) (us vs : List StringPart) → list_all part_fits vs ≡ true → run (scan ps (in_string us)) (parts_chars vs) ≡ scan ps (in_string (us ++ vs))
string_run ps us [] h = grind (arith, common_steps)
string_run ps us (v ∷ vs) h =
    let e = split_and (part_fits v) (list_all part_fits vs) h in
    run-append (scan ps (in_string us)) (part_chars v) (parts_chars vs) ∙ (ap (λ (r : Result Scan Fault). run r (parts_chars vs)) (part_run ps us v e.0) ∙ (string_run ps (us ++ v ∷ []) vs e.1 ∙ ap (λ (x : List StringPart). scan ps (in_string x)) (append_assoc us (v ∷ []) vs)))

-- the pending behind a lexeme's last character
abbrev pub pending_of : Lexeme → Pending
pending_of (white c) = between
pending_of (comment []) = in_plain 33 []
pending_of (comment (c ∷ cs)) = in_comment (c ∷ cs)
pending_of (plain []) = between
pending_of (plain (c ∷ cs)) = in_plain c cs
pending_of (string us) = closed us

abbrev pub not_white : Lexeme → Bool
not_white (white c) = false
not_white _ = true

lexeme_run : (ps : List Lexeme) (p : Lexeme) (next : List ℕ) → not_white p ≡ true → lexeme_fits p next ≡ true → run (scan ps between) (lexeme_chars p) ≡ scan ps (pending_of p)
lexeme_run ps (white c) next n h = cc
lexeme_run ps (comment []) next n h = refl
lexeme_run ps (comment (c ∷ cs)) next n h =
    let e = split_and (is_white c && list_all no_break (c ∷ cs)) (break_next next) h in
    let d = split_and (is_white c) (list_all no_break (c ∷ cs)) e.0 in
    let b = split_and (no_break c) (list_all no_break cs) d.1 in
    ap (λ (r : Result Scan Fault). run r cs) (white_char (state ps (in_plain 33 [])) c d.0 ∙ rw b.0 refl) ∙ comment_run ps (c ∷ []) cs b.1
lexeme_run ps (plain []) next n h = cc
lexeme_run ps (plain (c ∷ cs)) next n h =
    let e = split_and (list_all is_inner (c ∷ cs) && not (is_bang (c ∷ cs))) (white_next next) h in
    let d = split_and (list_all is_inner (c ∷ cs)) (not (is_bang (c ∷ cs))) e.0 in
    let b = split_and (is_inner c) (list_all is_inner cs) d.0 in
    let i = inner_is c b.0 in
    ap (λ (r : Result Scan Fault). run r cs) (inner_char (state ps between) c i.0 i.1) ∙ plain_run ps c [] cs b.1
lexeme_run ps (string us) next n h =
    let e = split_and (list_all part_fits us) (white_next next) h in
    run-append (scan ps (in_string [])) (parts_chars us) (34 ∷ []) ∙ ap (λ (r : Result Scan Fault). run r (34 ∷ [])) (string_run ps [] us e.0)

lexeme_end : (ps : List Lexeme) (p : Lexeme) → not_white p ≡ true → lexeme_fits p [] ≡ true → at_end ps (pending_of p) ≡ Ok (ps ++ p ∷ [])
lexeme_end ps (white c) n h = cc
lexeme_end ps (comment []) n h = refl
lexeme_end ps (comment (c ∷ cs)) n h = refl
lexeme_end ps (plain []) n h = cc
lexeme_end ps (plain (c ∷ cs)) n h =
    let e = split_and (list_all is_inner (c ∷ cs) && not (is_bang (c ∷ cs))) true h in
    let d = split_and (list_all is_inner (c ∷ cs)) (not (is_bang (c ∷ cs))) e.0 in
    rw (not_true (is_bang (c ∷ cs)) d.1) refl
lexeme_end ps (string us) n h = refl

lexeme_white : (ps : List Lexeme) (p : Lexeme) (c : ℕ) (next : List ℕ) → not_white p ≡ true → lexeme_fits p (c ∷ next) ≡ true → take_white ps (pending_of p) c ≡ scan (ps ++ p ∷ white c ∷ []) between
lexeme_white ps (white d) c next n h = cc
lexeme_white ps (comment []) c next n h = rw h refl
lexeme_white ps (comment (d ∷ cs)) c next n h = let e = split_and (is_white d && list_all no_break (d ∷ cs)) (c == 10) h in rw e.1 refl
lexeme_white ps (plain []) c next n h = cc
lexeme_white ps (plain (d ∷ cs)) c next n h =
    let e = split_and (list_all is_inner (d ∷ cs) && not (is_bang (d ∷ cs))) (is_white c) h in
    let b = split_and (list_all is_inner (d ∷ cs)) (not (is_bang (d ∷ cs))) e.0 in
    rw (not_true (is_bang (d ∷ cs)) b.1) refl
lexeme_white ps (string us) c next n h = refl

break_white : (next : List ℕ) → break_next next ≡ true → white_next next ≡ true
break_white [] h = refl
break_white (c ∷ cs) h = rw (same_number c 10 h) refl

follows_white : (p : Lexeme) (next : List ℕ) → not_white p ≡ true → lexeme_fits p next ≡ true → white_next next ≡ true
follows_white (white c) next n h = cc
follows_white (comment cs) next n h = let e = split_and (white_next cs && list_all no_break cs) (break_next next) h in break_white next e.1
follows_white (plain cs) next n h = let e = split_and (has_any cs && list_all is_inner cs && not (is_bang cs)) (white_next next) h in e.1
follows_white (string us) next n h = let e = split_and (list_all part_fits us) (white_next next) h in e.1

begins_inner : (q : Lexeme) (next rest : List ℕ) → not_white q ≡ true → lexeme_fits q next ≡ true → white_next (lexeme_chars q ++ rest) ≡ false
begins_inner (white c) next rest n h = cc
begins_inner (comment cs) next rest n h = refl
begins_inner (plain []) next rest n h = cc
begins_inner (plain (c ∷ cs)) next rest n h =
    let e = split_and (list_all is_inner (c ∷ cs) && not (is_bang (c ∷ cs))) (white_next next) h in
    let d = split_and (list_all is_inner (c ∷ cs)) (not (is_bang (c ∷ cs))) e.0 in
    let b = split_and (is_inner c) (list_all is_inner cs) d.0 in
    (inner_is c b.0).0
begins_inner (string us) next rest n h = refl

-- two lexemes that aren't white can't stand side by side
clash : {A : Type 0} (p q : Lexeme) (qs : List Lexeme) (rest : List ℕ) → not_white p ≡ true → not_white q ≡ true → all_fit (p ∷ q ∷ qs) rest ≡ true → A
clash p q qs rest n m h =
    let e = split_and (lexeme_fits p (spelled (q ∷ qs) ++ rest)) (all_fit (q ∷ qs) rest) h in
    let d = split_and (lexeme_fits q (spelled qs ++ rest)) (all_fit qs rest) e.1 in
    let a = follows_white p ((lexeme_chars q ++ spelled qs) ++ rest) n e.0 in
    let b = begins_inner q (spelled qs ++ rest) (spelled qs ++ rest) m d.0 in
    let c : (lexeme_chars q ++ spelled qs) ++ rest ≡ lexeme_chars q ++ (spelled qs ++ rest) = append_assoc (lexeme_chars q) (spelled qs) rest in
    let f : true ≡ false = sym a ∙ (ap white_next c ∙ b) in
    absurd (let g : ⊥ = cc in g)

white_on : (c : ℕ) (ps qs : List Lexeme) (rest : List ℕ) → all_fit (white c ∷ qs) rest ≡ true → run (scan ps between) (spelled (white c ∷ qs)) ≡ run (scan (ps ++ white c ∷ []) between) (spelled qs)
white_on c ps qs rest h = let e = split_and (is_white c) (all_fit qs rest) h in ap (λ (r : Result Scan Fault). run r (spelled qs)) (white_char (state ps between) c e.0)

two_on : (p : Lexeme) (c : ℕ) (ps qs : List Lexeme) (rest : List ℕ) → not_white p ≡ true → all_fit (p ∷ white c ∷ qs) rest ≡ true → run (scan ps between) (spelled (p ∷ white c ∷ qs)) ≡ run (scan (ps ++ p ∷ white c ∷ []) between) (spelled qs)
two_on p c ps qs rest n h =
    let e = split_and (lexeme_fits p ((c ∷ spelled qs) ++ rest)) (is_white c && all_fit qs rest) h in
    let w = split_and (is_white c) (all_fit qs rest) e.1 in
    run-append (scan ps between) (lexeme_chars p) (c ∷ spelled qs) ∙ (ap (λ (r : Result Scan Fault). run r (c ∷ spelled qs)) (lexeme_run ps p ((c ∷ spelled qs) ++ rest) n e.0) ∙ ap (λ (r : Result Scan Fault). run r (spelled qs)) (white_char (state ps (pending_of p)) c w.0 ∙ lexeme_white ps p c (spelled qs ++ rest) n e.0))

fits_behind : (p : Lexeme) (c : ℕ) (qs : List Lexeme) (rest : List ℕ) → all_fit (p ∷ white c ∷ qs) rest ≡ true → all_fit qs rest ≡ true
fits_behind p c qs rest h =
    let e = split_and (lexeme_fits p ((c ∷ spelled qs) ++ rest)) (is_white c && all_fit qs rest) h in
    (split_and (is_white c) (all_fit qs rest) e.1).1

-- what the lexemes lead to: what is behind the last one is still open
abbrev pub leads : List Lexeme → List Lexeme → Result Scan Fault
leads ps [] = scan ps between
leads ps (white c ∷ qs) = leads (ps ++ white c ∷ []) qs
leads ps (p ∷ []) = scan ps (pending_of p)
leads ps (p ∷ white c ∷ qs) = leads (ps ++ p ∷ white c ∷ []) qs
leads ps (p ∷ q ∷ qs) = scan ps between

one_on : (p : Lexeme) (ps : List Lexeme) (rest : List ℕ) → not_white p ≡ true → all_fit (p ∷ []) rest ≡ true → run (scan ps between) (spelled (p ∷ [])) ≡ scan ps (pending_of p)
one_on p ps rest n h =
    let e = split_and (lexeme_fits p ([] ++ rest)) true h in
    run-append (scan ps between) (lexeme_chars p) [] ∙ lexeme_run ps p ([] ++ rest) n e.0

pub lexemes_lead : (qs ps : List Lexeme) (rest : List ℕ) → all_fit qs rest ≡ true → run (scan ps between) (spelled qs) ≡ leads ps qs
lexemes_lead [] ps rest h = refl
lexemes_lead (white c ∷ qs) ps rest h = white_on c ps qs rest h ∙ lexemes_lead qs (ps ++ white c ∷ []) rest (split_and (is_white c) (all_fit qs rest) h).1
lexemes_lead (comment cs ∷ []) ps rest h = one_on (comment cs) ps rest refl h
lexemes_lead (comment cs ∷ white c ∷ qs) ps rest h = two_on (comment cs) c ps qs rest refl h ∙ lexemes_lead qs (ps ++ comment cs ∷ white c ∷ []) rest (fits_behind (comment cs) c qs rest h)
lexemes_lead (comment cs ∷ q ∷ qs) ps rest h = clash (comment cs) q qs rest refl refl h
lexemes_lead (plain cs ∷ []) ps rest h = one_on (plain cs) ps rest refl h
lexemes_lead (plain cs ∷ white c ∷ qs) ps rest h = two_on (plain cs) c ps qs rest refl h ∙ lexemes_lead qs (ps ++ plain cs ∷ white c ∷ []) rest (fits_behind (plain cs) c qs rest h)
lexemes_lead (plain cs ∷ q ∷ qs) ps rest h = clash (plain cs) q qs rest refl refl h
lexemes_lead (string us ∷ []) ps rest h = one_on (string us) ps rest refl h
lexemes_lead (string us ∷ white c ∷ qs) ps rest h = two_on (string us) c ps qs rest refl h ∙ lexemes_lead qs (ps ++ string us ∷ white c ∷ []) rest (fits_behind (string us) c qs rest h)
lexemes_lead (string us ∷ q ∷ qs) ps rest h = clash (string us) q qs rest refl refl h

last_end : (p : Lexeme) (ps : List Lexeme) → not_white p ≡ true → all_fit (p ∷ []) [] ≡ true → at_end ps (pending_of p) ≡ Ok (ps ++ p ∷ [])
last_end p ps n h = lexeme_end ps p n (split_and (lexeme_fits p []) true h).0

-- a list of lexemes that was read
abbrev pub read : List Lexeme → Result (List Lexeme) Fault
read ps = Ok ps

joined : (ps qs : List Lexeme) (p : Lexeme) → read ((ps ++ p ∷ []) ++ qs) ≡ read (ps ++ p ∷ qs)
joined ps qs p = ap read (append_assoc ps (p ∷ []) qs)

joined_two : (ps qs : List Lexeme) (p q : Lexeme) → (ps ++ p ∷ q ∷ []) ++ qs ≡ ps ++ p ∷ q ∷ qs
joined_two ps qs p q = append_assoc ps (p ∷ q ∷ []) qs

leads_end : (qs ps : List Lexeme) → all_fit qs [] ≡ true → scan_from (leads ps qs) [] ≡ Ok (ps ++ qs)
leads_end [] ps h = grind (arith, common_steps)
leads_end (white c ∷ qs) ps h = leads_end qs (ps ++ white c ∷ []) (split_and (is_white c) (all_fit qs []) h).1 ∙ joined ps qs (white c)
leads_end (comment cs ∷ []) ps h = last_end (comment cs) ps refl h
leads_end (comment cs ∷ white c ∷ qs) ps h = leads_end qs (ps ++ comment cs ∷ white c ∷ []) (fits_behind (comment cs) c qs [] h) ∙ ap read (joined_two ps qs (comment cs) (white c))
leads_end (comment cs ∷ q ∷ qs) ps h = clash (comment cs) q qs [] refl refl h
leads_end (plain cs ∷ []) ps h = last_end (plain cs) ps refl h
leads_end (plain cs ∷ white c ∷ qs) ps h = leads_end qs (ps ++ plain cs ∷ white c ∷ []) (fits_behind (plain cs) c qs [] h) ∙ ap read (joined_two ps qs (plain cs) (white c))
leads_end (plain cs ∷ q ∷ qs) ps h = clash (plain cs) q qs [] refl refl h
leads_end (string us ∷ []) ps h = last_end (string us) ps refl h
leads_end (string us ∷ white c ∷ qs) ps h = leads_end qs (ps ++ string us ∷ white c ∷ []) (fits_behind (string us) c qs [] h) ∙ ap read (joined_two ps qs (string us) (white c))
leads_end (string us ∷ q ∷ qs) ps h = clash (string us) q qs [] refl refl h

-- a reading is what is read
pub reading_read : (cs : List ℕ) (ps : List Lexeme) → Reading cs ps → lexemes cs ≡ Ok ps
reading_read cs ps r =
    let e : lexemes (spelled ps ++ []) ≡ Ok ps = scan-append (scan [] between) (spelled ps) [] ∙ (ap (λ (x : Result Scan Fault). scan_from x []) (lexemes_lead ps [] [] r.fits) ∙ leads_end ps [] r.fits) in
    let d : spelled ps ++ [] ≡ cs = (let a : spelled ps ++ [] ≡ spelled ps = grind (arith, common_steps) in a) ∙ r.spells in
    ap lexemes (sym d) ∙ e

-- there is one reading at most
pub one_reading : (cs : List ℕ) (ps qs : List Lexeme) → Reading cs ps → Reading cs qs → ps ≡ qs
one_reading cs ps qs r q = let e : read ps ≡ read qs = sym (reading_read cs ps r) ∙ reading_read cs qs q in cc

last_clash : {A : Type 0} (p : Lexeme) (rest : List ℕ) → not_white p ≡ true → all_fit (p ∷ []) rest ≡ true → white_next rest ≡ false → A
last_clash p rest n h w =
    let a = follows_white p rest n (split_and (lexeme_fits p ([] ++ rest)) true h).0 in
    let f : true ≡ false = sym a ∙ w in
    absurd (let g : ⊥ = cc in g)

leads_between : (qs ps : List Lexeme) (rest : List ℕ) → all_fit qs rest ≡ true → white_next rest ≡ false → leads ps qs ≡ scan (ps ++ qs) between
leads_between [] ps rest h w = grind (arith, common_steps)
leads_between (white c ∷ qs) ps rest h w = leads_between qs (ps ++ white c ∷ []) rest (split_and (is_white c) (all_fit qs rest) h).1 w ∙ ap (λ (x : List Lexeme). scan x between) (append_assoc ps (white c ∷ []) qs)
leads_between (comment cs ∷ []) ps rest h w = last_clash (comment cs) rest refl h w
leads_between (comment cs ∷ white c ∷ qs) ps rest h w = leads_between qs (ps ++ comment cs ∷ white c ∷ []) rest (fits_behind (comment cs) c qs rest h) w ∙ ap (λ (x : List Lexeme). scan x between) (joined_two ps qs (comment cs) (white c))
leads_between (comment cs ∷ q ∷ qs) ps rest h w = clash (comment cs) q qs rest refl refl h
leads_between (plain cs ∷ []) ps rest h w = last_clash (plain cs) rest refl h w
leads_between (plain cs ∷ white c ∷ qs) ps rest h w = leads_between qs (ps ++ plain cs ∷ white c ∷ []) rest (fits_behind (plain cs) c qs rest h) w ∙ ap (λ (x : List Lexeme). scan x between) (joined_two ps qs (plain cs) (white c))
leads_between (plain cs ∷ q ∷ qs) ps rest h w = clash (plain cs) q qs rest refl refl h
leads_between (string us ∷ []) ps rest h w = last_clash (string us) rest refl h w
leads_between (string us ∷ white c ∷ qs) ps rest h w = leads_between qs (ps ++ string us ∷ white c ∷ []) rest (fits_behind (string us) c qs rest h) w ∙ ap (λ (x : List Lexeme). scan x between) (joined_two ps qs (string us) (white c))
leads_between (string us ∷ q ∷ qs) ps rest h w = clash (string us) q qs rest refl refl h

cut_run : (ps : List Lexeme) (us : List StringPart) (rest : List ℕ) → list_all part_fits us ≡ true → scan_from (scan ps between) (34 ∷ parts_chars us ++ rest) ≡ scan_from (scan ps (in_string us)) rest
cut_run ps us rest h = scan-append (scan ps (in_string [])) (parts_chars us) rest ∙ ap (λ (r : Result Scan Fault). scan_from r rest) (string_run ps [] us h)

break_fault : (ps : List Lexeme) (us : List StringPart) (rest : List ℕ) → break_next rest ≡ true → scan_from (scan ps (in_string us)) rest ≡ Err (open_string (spelled ps))
break_fault ps us [] h = refl
break_fault ps us (c ∷ cs) h = rw (same_number c 10 h) refl

break_fault_escape : (ps : List Lexeme) (us : List StringPart) (rest : List ℕ) → break_next rest ≡ true → scan_from (scan ps (in_escape us)) rest ≡ Err (open_string (spelled ps))
break_fault_escape ps us [] h = refl
break_fault_escape ps us (c ∷ cs) h = rw (same_number c 10 h) refl

escape_fault : (x y : Bool) (ps : List Lexeme) (us : List StringPart) (c : ℕ) (rest : List ℕ) → is_white c ≡ x → (c == 34) ≡ y → is_some (escaped c) ≡ false → no_break c ≡ true → scan_from (cond x (take_white ps (in_escape us) c) (cond y (take_quote ps (in_escape us)) (take_inner ps (in_escape us) c))) rest ≡ Err (bad_escape (spelled ps ++ 34 ∷ parts_chars us))
escape_fault true y ps us c rest w q e n = rw (not_true (c == 10) n) refl
escape_fault false true ps us c rest w q e n = let d = ap (λ (x : ℕ). is_some (escaped x)) (same_number c 34 q) in cc
escape_fault false false ps us c rest w q e n = rw e refl

stuck_fault : (y : Bool) (ps : List Lexeme) (us : List StringPart) (c : ℕ) (rest : List ℕ) → is_white c ≡ false → (c == 34) ≡ y → scan_from (cond (is_white c) (take_white ps (closed us) c) (cond y (take_quote ps (closed us)) (take_inner ps (closed us) c))) rest ≡ Err (stuck_quote (spelled ps ++ (34 ∷ parts_chars us ++ 34 ∷ [])))
stuck_fault true ps us c rest w q = rw w refl
stuck_fault false ps us c rest w q = rw w refl

inside_run : (ps : List Lexeme) (cs rest : List ℕ) → has_any cs ≡ true → list_all is_inner cs ≡ true → scan_from (scan ps between) (cs ++ 34 ∷ rest) ≡ Err (stuck_quote (spelled ps ++ cs))
inside_run ps [] rest a h = cc
inside_run ps (c ∷ cs) rest a h =
    let b = split_and (is_inner c) (list_all is_inner cs) h in
    let i = inner_is c b.0 in
    ap (λ (r : Result Scan Fault). scan_from r (cs ++ 34 ∷ rest)) (inner_char (state ps between) c i.0 i.1) ∙ (scan-append (scan ps (in_plain c [])) cs (34 ∷ rest) ∙ ap (λ (r : Result Scan Fault). scan_from r (34 ∷ rest)) (plain_run ps c [] cs b.1))

goes_wrong_run : (ps : List Lexeme) (n : List ℕ) (rest : List ℕ) (f : Fault) → n ≡ spelled ps → GoesWrong n rest f → scan_from (scan ps between) rest ≡ Err f
goes_wrong_run ps n _ _ e (cut us rest h b) = rw e (cut_run ps us rest h ∙ break_fault ps us rest b)
goes_wrong_run ps n _ _ e (cut_escape us rest h b) = rw e (cut_run ps us (92 ∷ rest) h ∙ break_fault_escape ps us rest b)
goes_wrong_run ps n _ _ e (no_escape us c rest h s b) = rw e (cut_run ps us (92 ∷ c ∷ rest) h ∙ escape_fault (is_white c) (c == 34) ps us c rest refl refl s b)
goes_wrong_run ps n _ _ e (inside_token cs rest a h) = rw e (inside_run ps cs rest a h)
goes_wrong_run ps n _ _ e (after_string us c rest h w) = rw e (cut_run ps us (34 ∷ c ∷ rest) h ∙ stuck_fault (c == 34) ps us c rest w refl)

inside_begins : (cs rest : List ℕ) → has_any cs ≡ true → list_all is_inner cs ≡ true → white_next (cs ++ 34 ∷ rest) ≡ false
inside_begins [] rest a h = cc
inside_begins (c ∷ cs) rest a h = (inner_is c (split_and (is_inner c) (list_all is_inner cs) h).0).0

wrong_begins : (n rest : List ℕ) (f : Fault) → GoesWrong n rest f → white_next rest ≡ false
wrong_begins n _ _ (cut us rest h b) = refl
wrong_begins n _ _ (cut_escape us rest h b) = refl
wrong_begins n _ _ (no_escape us c rest h s b) = refl
wrong_begins n _ _ (inside_token cs rest a h) = inside_begins cs rest a h
wrong_begins n _ _ (after_string us c rest h w) = refl

-- a first fault is the one that is answered
pub fault_read : (cs : List ℕ) (f : Fault) → FirstFault cs f → lexemes cs ≡ Err f
fault_read cs f r =
    let w = wrong_begins (spelled r.ps) r.rest f r.wrong in
    let e : lexemes (spelled r.ps ++ r.rest) ≡ Err f = scan-append (scan [] between) (spelled r.ps) r.rest ∙ (ap (λ (x : Result Scan Fault). scan_from x r.rest) (lexemes_lead r.ps [] r.rest r.fits ∙ leads_between r.ps [] r.rest r.fits w) ∙ goes_wrong_run r.ps (spelled r.ps) r.rest f refl r.wrong) in
    ap lexemes (sym r.spells) ∙ e

abbrev pub failed : Fault → Result (List Lexeme) Fault
failed f = Err f

-- there is one first fault at most
pub one_fault : (cs : List ℕ) (f g : Fault) → FirstFault cs f → FirstFault cs g → f ≡ g
one_fault cs f g r q = let e : failed f ≡ failed g = sym (fault_read cs f r) ∙ fault_read cs g q in cc

-- and none where there is a reading
pub not_both : (cs : List ℕ) (ps : List Lexeme) (f : Fault) → Reading cs ps → FirstFault cs f → ⊥
not_both cs ps f r q = let e : read ps ≡ failed f = sym (reading_read cs ps r) ∙ fault_read cs f q in cc
