-- What is read is a reading.
use Rattle.std.proofs.Common.{◌≡◌, ℕ, ◌==◌, List, [], ◌∷◌, ◌++◌, Bool, true, false, not, ◌&&◌, Result, Ok, Err, refl, sym, ◌∙◌, ap, subst, append_assoc, arith, cond, ◌⊎◌, inl, inr}
use Rattle.std.specs.List.{list_all}
use Rattle.std.proofs.lemmas.Grind.{common_steps}
use Rattle.fac_token.specs.Lexemes.{is_white, escaped, is_some, StringPart, itself, escape, Lexeme, white, comment, plain, string, part_chars, parts_chars, lexeme_chars, spelled, is_inner, is_bang, no_break, break_next, is_itself, part_fits, lexeme_fits, all_fit, Reading, Fault, open_string, bad_escape, cut, cut_escape, no_escape, inside_token, after_string, FirstFault}
use Rattle.fac_token.specs.inner.Scan.{Pending, between, in_plain, in_comment, in_string, in_escape, closed, Scan, scan, ended, take_white, take_quote, take_inner, take_char, at_end, scan_from, lexemes}

pub spelled-append : (ps qs : List Lexeme) → spelled (ps ++ qs) ≡ spelled ps ++ spelled qs
spelled-append [] qs = refl
spelled-append (p ∷ ps) qs = rw (spelled-append ps qs) (sym (append_assoc (lexeme_chars p) (spelled ps) (spelled qs)))

pub parts-append : (us : List StringPart) (u : StringPart) → parts_chars (us ++ u ∷ []) ≡ parts_chars us ++ part_chars u
parts-append [] u = grind (arith, common_steps)
parts-append (v ∷ us) u = rw (parts-append us u) (sym (append_assoc (part_chars v) (parts_chars us) (part_chars u)))

-- the characters behind the finished lexemes
abbrev pub pending_chars : Pending → List ℕ
pending_chars between = []
pending_chars (in_plain c cs) = c ∷ cs
pending_chars (in_comment cs) = 33 ∷ cs
pending_chars (in_string us) = 34 ∷ parts_chars us
pending_chars (in_escape us) = 34 ∷ parts_chars us ++ 92 ∷ []
pending_chars (closed us) = 34 ∷ parts_chars us ++ 34 ∷ []

abbrev pub scan_chars : Scan → List ℕ
scan_chars s = spelled s.done ++ pending_chars s.pending

ended-chars : (b : Bool) (c : ℕ) (cs : List ℕ) → is_bang (c ∷ cs) ≡ b → lexeme_chars (cond b (comment []) (plain (c ∷ cs))) ≡ c ∷ cs
ended-chars false c cs h = refl
ended-chars true c [] h = grind (arith, common_steps)
ended-chars true c (d ∷ cs) h = cc

and-true-right : (a : Bool) → (a && true) ≡ a
and-true-right true = refl
and-true-right false = refl

pub both : (a b : Bool) → a ≡ true → b ≡ true → (a && b) ≡ true
both a b h k = rw (h, k) refl

pub split_and : (a b : Bool) → (a && b) ≡ true → (a ≡ true) × (b ≡ true)
split_and true b h = (refl, h)
split_and false b h = cc

pub all_fit-append : (ps qs : List Lexeme) (next : List ℕ) → all_fit ps (spelled qs ++ next) ≡ true → all_fit qs next ≡ true → all_fit (ps ++ qs) next ≡ true
all_fit-append [] qs next h k = k
all_fit-append (p ∷ ps) qs next h k =
    let d = split_and (lexeme_fits p (spelled ps ++ (spelled qs ++ next))) (all_fit ps (spelled qs ++ next)) h in
    let e : spelled (ps ++ qs) ++ next ≡ spelled ps ++ (spelled qs ++ next) = rw (spelled-append ps qs) (append_assoc (spelled ps) (spelled qs) next) in
    both (lexeme_fits p (spelled (ps ++ qs) ++ next)) (all_fit (ps ++ qs) next) (subst (λ (x : List ℕ). lexeme_fits p x ≡ true) (sym e) d.0) (all_fit-append ps qs next d.1 k)

-- fits whatever follows
abbrev pub Always : List Lexeme → Type 0
Always ps = (next : List ℕ) → all_fit ps next ≡ true

pub always-more : (ps qs : List Lexeme) → Always ps → Always qs → Always (ps ++ qs)
always-more ps qs h k next = all_fit-append ps qs next (h (spelled qs ++ next)) (k next)

abbrev pub starts_white : List ℕ → Bool
starts_white [] = false
starts_white (c ∷ cs) = is_white c

abbrev pub PendingFits : Pending → Type 0
PendingFits between = Unit {0}
PendingFits (in_plain c cs) = list_all is_inner (c ∷ cs) ≡ true
PendingFits (in_comment cs) = (starts_white cs ≡ true) × (list_all no_break cs ≡ true)
PendingFits (in_string us) = list_all part_fits us ≡ true
PendingFits (in_escape us) = list_all part_fits us ≡ true
PendingFits (closed us) = list_all part_fits us ≡ true

pub record Good (s : Scan) : Type 0 where
  pub lexemes_fit : Always s.done
  pub pending_fits : PendingFits s.pending

-- what is known after some characters
abbrev pub Known : List ℕ → Result Scan Fault → Type 0
Known cs (Ok s) = Good s × (scan_chars s ≡ cs)
Known cs (Err f) = (rest : List ℕ) → FirstFault (cs ++ rest) f

all-more : (p : ℕ → Bool) (cs : List ℕ) (c : ℕ) → list_all p cs ≡ true → p c ≡ true → list_all p (cs ++ c ∷ []) ≡ true
all-more p [] c h k = rw k refl
all-more p (d ∷ cs) c h k = let e = split_and (p d) (list_all p cs) h in both (p d) (list_all p (cs ++ c ∷ [])) e.0 (all-more p cs c e.1 k)

parts-more : (us : List StringPart) (u : StringPart) → list_all part_fits us ≡ true → part_fits u ≡ true → list_all part_fits (us ++ u ∷ []) ≡ true
parts-more [] u h k = rw k refl
parts-more (v ∷ us) u h k = let e = split_and (part_fits v) (list_all part_fits us) h in both (part_fits v) (list_all part_fits (us ++ u ∷ [])) e.0 (parts-more us u e.1 k)

-- lexemes that end, with a white character behind them
white_always : (c : ℕ) → is_white c ≡ true → Always (white c ∷ [])
white_always c h next = rw h refl

two_always : (p : Lexeme) (c : ℕ) → is_white c ≡ true → ((next : List ℕ) → lexeme_fits p (c ∷ next) ≡ true) → Always (p ∷ white c ∷ [])
two_always p c h k next = both (lexeme_fits p (c ∷ next)) (is_white c && true) (k next) (rw h refl)

not_false : (b : Bool) → not b ≡ false → b ≡ true
not_false true h = refl
not_false false h = cc

ended_fits : (x : Bool) (d : ℕ) (cs : List ℕ) (c : ℕ) (next : List ℕ) → is_bang (d ∷ cs) ≡ x → list_all is_inner (d ∷ cs) ≡ true → is_white c ≡ true → (x && not (c == 10)) ≡ false → lexeme_fits (cond x (comment []) (plain (d ∷ cs))) (c ∷ next) ≡ true
ended_fits true d cs c next e h w b = rw (not_false (c == 10) b) refl
ended_fits false d cs c next e h w b = both (true && list_all is_inner (d ∷ cs) && not (is_bang (d ∷ cs))) (is_white c) (both (true && list_all is_inner (d ∷ cs)) (not (is_bang (d ∷ cs))) h (rw e refl)) w

starts-more : (cs : List ℕ) (c : ℕ) → starts_white cs ≡ true → starts_white (cs ++ c ∷ []) ≡ true
starts-more [] c h = cc
starts-more (d ∷ cs) c h = h

comment_fits : (cs next : List ℕ) → starts_white cs ≡ true → list_all no_break cs ≡ true → break_next next ≡ true → lexeme_fits (comment cs) next ≡ true
comment_fits [] next s h b = cc
comment_fits (c ∷ cs) next s h b = both (is_white c && list_all no_break (c ∷ cs)) (break_next next) (both (is_white c) (list_all no_break (c ∷ cs)) s h) b

plain_fits : (d : ℕ) (cs : List ℕ) (c : ℕ) (next : List ℕ) → list_all is_inner (d ∷ cs) ≡ true → is_white c ≡ true → (is_bang (d ∷ cs) && not (c == 10)) ≡ false → lexeme_fits (ended d cs) (c ∷ next) ≡ true
plain_fits d cs c next h w b = ended_fits (is_bang (d ∷ cs)) d cs c next refl h w b

-- the finished lexemes and one more step
scan_known : (ps : List Lexeme) (m : Pending) (cs : List ℕ) → Always ps → PendingFits m → spelled ps ++ pending_chars m ≡ cs → Known cs (scan ps m)
scan_known ps m cs a f e = (record { lexemes_fit = a; pending_fits = f }, e)

quote_known : (ps : List Lexeme) (m : Pending) → Always ps → PendingFits m → Known ((spelled ps ++ pending_chars m) ++ 34 ∷ []) (take_quote ps m)
quote_known ps between a f = scan_known ps (in_string []) _ a refl (grind (arith, common_steps))
quote_known ps (in_plain d cs) a f = λ rest. record {
  ps = ps;
  rest = (d ∷ cs) ++ 34 ∷ rest;
  fits = a ((d ∷ cs) ++ 34 ∷ rest);
  spells = grind (arith, common_steps);
  wrong = inside_token (d ∷ cs) rest refl f;
}
quote_known ps (in_comment cs) a f = scan_known ps (in_comment (cs ++ 34 ∷ [])) _ a (starts-more cs 34 f.0, all-more no_break cs 34 f.1 refl) (grind (arith, common_steps))
quote_known ps (in_string us) a f = scan_known ps (closed us) _ a f (grind (arith, common_steps))
quote_known ps (in_escape us) a f = scan_known ps (in_string (us ++ escape 34 ∷ [])) _ a (parts-more us (escape 34) f refl) (rw (parts-append us (escape 34)) (grind (arith, common_steps)))
quote_known ps (closed us) a f = λ rest. record {
  ps = ps;
  rest = 34 ∷ parts_chars us ++ 34 ∷ 34 ∷ rest;
  fits = a (34 ∷ parts_chars us ++ 34 ∷ 34 ∷ rest);
  spells = grind (arith, common_steps);
  wrong = after_string us 34 rest f refl;
}

pub same_number : (c k : ℕ) → (c == k) ≡ true → c ≡ k
same_number c k h = grind (arith, common_steps)

differs_by : (x y : Bool) (c k : ℕ) → (c == k) ≡ y → is_white c ≡ x → is_white k ≡ not x → (c == k) ≡ false
differs_by x false c k e h g = e
differs_by true true c k e h g = let d = ap is_white (same_number c k e) in cc
differs_by false true c k e h g = let d = ap is_white (same_number c k e) in cc

pub differs : (x : Bool) (c k : ℕ) → is_white c ≡ x → is_white k ≡ not x → (c == k) ≡ false
differs x c k h g = differs_by x (c == k) c k refl h g

pub bang_is : (cs : List ℕ) → is_bang cs ≡ true → cs ≡ 33 ∷ []
bang_is [] h = cc
bang_is (c ∷ []) h = ap (λ (x : ℕ). x ∷ []) (same_number c 33 h)
bang_is (c ∷ d ∷ cs) h = cc

white_itself : (c : ℕ) → is_white c ≡ true → (c == 10) ≡ false → is_itself c ≡ true
white_itself c w e = rw (differs true c 34 w refl, differs true c 92 w refl, e) refl

pub white_no_escape : (c : ℕ) → is_white c ≡ true → is_some (escaped c) ≡ false
white_no_escape c w = rw (differs true c 110 w refl, differs true c 116 w refl, differs true c 114 w refl, differs true c 92 w refl, differs true c 34 w refl) refl

white_comment : (x : Bool) (ps : List Lexeme) (cs : List ℕ) (c : ℕ) → (c == 10) ≡ x → Always ps → (starts_white cs ≡ true) × (list_all no_break cs ≡ true) → is_white c ≡ true → Known ((spelled ps ++ 33 ∷ cs) ++ c ∷ []) (cond x (scan (ps ++ comment cs ∷ white c ∷ []) between) (scan ps (in_comment (cs ++ c ∷ []))))
white_comment true ps cs c e a f w = scan_known (ps ++ comment cs ∷ white c ∷ []) between _ (always-more ps (comment cs ∷ white c ∷ []) a (two_always (comment cs) c w (λ next. comment_fits cs (c ∷ next) f.0 f.1 e))) tt (rw (spelled-append ps (comment cs ∷ white c ∷ [])) (grind (arith, common_steps)))
white_comment false ps cs c e a f w = scan_known ps (in_comment (cs ++ c ∷ [])) _ a (starts-more cs c f.0, all-more no_break cs c f.1 (rw e refl)) (grind (arith, common_steps))

white_string : (x : Bool) (ps : List Lexeme) (us : List StringPart) (c : ℕ) → (c == 10) ≡ x → Always ps → list_all part_fits us ≡ true → is_white c ≡ true → Known ((spelled ps ++ 34 ∷ parts_chars us) ++ c ∷ []) (cond x (Err (open_string (spelled ps))) (scan ps (in_string (us ++ itself c ∷ []))))
white_string true ps us c e a f w = λ rest. record { ps = ps; rest = 34 ∷ parts_chars us ++ c ∷ rest; fits = a (34 ∷ parts_chars us ++ c ∷ rest); spells = grind (arith, common_steps); wrong = cut us (c ∷ rest) f e }
white_string false ps us c e a f w = scan_known ps (in_string (us ++ itself c ∷ [])) _ a (parts-more us (itself c) f (white_itself c w e)) (rw (parts-append us (itself c)) (grind (arith, common_steps)))

white_escape : (x : Bool) (ps : List Lexeme) (us : List StringPart) (c : ℕ) → (c == 10) ≡ x → Always ps → list_all part_fits us ≡ true → is_white c ≡ true → Known ((spelled ps ++ (34 ∷ parts_chars us ++ 92 ∷ [])) ++ c ∷ []) (cond x (Err (open_string (spelled ps))) (Err (bad_escape (spelled ps ++ 34 ∷ parts_chars us))))
white_escape true ps us c e a f w = λ rest. record { ps = ps; rest = 34 ∷ parts_chars us ++ 92 ∷ c ∷ rest; fits = a (34 ∷ parts_chars us ++ 92 ∷ c ∷ rest); spells = grind (arith, common_steps); wrong = cut_escape us (c ∷ rest) f e }
white_escape false ps us c e a f w = λ rest. record { ps = ps; rest = 34 ∷ parts_chars us ++ 92 ∷ c ∷ rest; fits = a (34 ∷ parts_chars us ++ 92 ∷ c ∷ rest); spells = grind (arith, common_steps); wrong = no_escape us c rest f (white_no_escape c w) (rw e refl) }

ended_known : (ps : List Lexeme) (d : ℕ) (cs : List ℕ) (c : ℕ) → Always ps → list_all is_inner (d ∷ cs) ≡ true → is_white c ≡ true → (is_bang (d ∷ cs) && not (c == 10)) ≡ false → Known ((spelled ps ++ d ∷ cs) ++ c ∷ []) (scan (ps ++ ended d cs ∷ white c ∷ []) between)
ended_known ps d cs c a f w b = scan_known (ps ++ ended d cs ∷ white c ∷ []) between _ (always-more ps (ended d cs ∷ white c ∷ []) a (two_always (ended d cs) c w (λ next. plain_fits d cs c next f w b))) tt (rw (spelled-append ps (ended d cs ∷ white c ∷ []), ended-chars (is_bang (d ∷ cs)) d cs refl) (grind (arith, common_steps)))

white_plain : (x y : Bool) (ps : List Lexeme) (d : ℕ) (cs : List ℕ) (c : ℕ) → is_bang (d ∷ cs) ≡ x → not (c == 10) ≡ y → Always ps → list_all is_inner (d ∷ cs) ≡ true → is_white c ≡ true → Known ((spelled ps ++ d ∷ cs) ++ c ∷ []) (cond (x && y) (scan ps (in_comment (c ∷ []))) (scan (ps ++ ended d cs ∷ white c ∷ []) between))
white_plain true true ps d cs c e n a f w = scan_known ps (in_comment (c ∷ [])) _ a (w, rw n refl) (rw (bang_is (d ∷ cs) e) (grind (arith, common_steps)))
white_plain true false ps d cs c e n a f w = ended_known ps d cs c a f w (rw (e, n) refl)
white_plain false y ps d cs c e n a f w = ended_known ps d cs c a f w (rw e refl)

white_known : (ps : List Lexeme) (m : Pending) (c : ℕ) → Always ps → PendingFits m → is_white c ≡ true → Known ((spelled ps ++ pending_chars m) ++ c ∷ []) (take_white ps m c)
white_known ps between c a f w = scan_known (ps ++ white c ∷ []) between _ (always-more ps (white c ∷ []) a (white_always c w)) tt (rw (spelled-append ps (white c ∷ [])) (grind (arith, common_steps)))
white_known ps (in_plain d cs) c a f w = white_plain (is_bang (d ∷ cs)) (not (c == 10)) ps d cs c refl refl a f w
white_known ps (in_comment cs) c a f w = white_comment (c == 10) ps cs c refl a f w
white_known ps (in_string us) c a f w = white_string (c == 10) ps us c refl a f w
white_known ps (in_escape us) c a f w = white_escape (c == 10) ps us c refl a f w
white_known ps (closed us) c a f w = scan_known (ps ++ string us ∷ white c ∷ []) between _ (always-more ps (string us ∷ white c ∷ []) a (two_always (string us) c w (λ next. both (list_all part_fits us) (is_white c) f w))) tt (rw (spelled-append ps (string us ∷ white c ∷ [])) (grind (arith, common_steps)))

inner_string : (x : Bool) (ps : List Lexeme) (us : List StringPart) (c : ℕ) → (c == 92) ≡ x → Always ps → list_all part_fits us ≡ true → is_white c ≡ false → (c == 34) ≡ false → Known ((spelled ps ++ 34 ∷ parts_chars us) ++ c ∷ []) (cond x (scan ps (in_escape us)) (scan ps (in_string (us ++ itself c ∷ []))))
inner_string true ps us c e a f w q = scan_known ps (in_escape us) _ a f (rw (same_number c 92 e) (grind (arith, common_steps)))
inner_string false ps us c e a f w q = scan_known ps (in_string (us ++ itself c ∷ [])) _ a (parts-more us (itself c) f (rw (q, e, differs false c 10 w refl) refl)) (rw (parts-append us (itself c)) (grind (arith, common_steps)))

inner_escape : (x : Bool) (ps : List Lexeme) (us : List StringPart) (c : ℕ) → is_some (escaped c) ≡ x → Always ps → list_all part_fits us ≡ true → is_white c ≡ false → Known ((spelled ps ++ (34 ∷ parts_chars us ++ 92 ∷ [])) ++ c ∷ []) (cond x (scan ps (in_string (us ++ escape c ∷ []))) (Err (bad_escape (spelled ps ++ 34 ∷ parts_chars us))))
inner_escape true ps us c e a f w = scan_known ps (in_string (us ++ escape c ∷ [])) _ a (parts-more us (escape c) f e) (rw (parts-append us (escape c)) (grind (arith, common_steps)))
inner_escape false ps us c e a f w = λ rest. record { ps = ps; rest = 34 ∷ parts_chars us ++ 92 ∷ c ∷ rest; fits = a (34 ∷ parts_chars us ++ 92 ∷ c ∷ rest); spells = grind (arith, common_steps); wrong = no_escape us c rest f e (rw (differs false c 10 w refl) refl) }

inner_known : (ps : List Lexeme) (m : Pending) (c : ℕ) → Always ps → PendingFits m → is_white c ≡ false → (c == 34) ≡ false → Known ((spelled ps ++ pending_chars m) ++ c ∷ []) (take_inner ps m c)
inner_known ps between c a f w q = scan_known ps (in_plain c []) _ a (rw (w, q) refl) (grind (arith, common_steps))
inner_known ps (in_plain d cs) c a f w q = scan_known ps (in_plain d (cs ++ c ∷ [])) _ a (all-more is_inner (d ∷ cs) c f (rw (w, q) refl)) (grind (arith, common_steps))
inner_known ps (in_comment cs) c a f w q = scan_known ps (in_comment (cs ++ c ∷ [])) _ a (starts-more cs c f.0, all-more no_break cs c f.1 (rw (differs false c 10 w refl) refl)) (grind (arith, common_steps))
inner_known ps (in_string us) c a f w q = inner_string (c == 92) ps us c refl a f w q
inner_known ps (in_escape us) c a f w q = inner_escape (is_some (escaped c)) ps us c refl a f w
inner_known ps (closed us) c a f w q = λ rest. record { ps = ps; rest = 34 ∷ parts_chars us ++ 34 ∷ c ∷ rest; fits = a (34 ∷ parts_chars us ++ 34 ∷ c ∷ rest); spells = grind (arith, common_steps); wrong = after_string us c rest f w }

pub nat_eq-sound : (c : ℕ) → (c == 34) ≡ true → c ≡ 34
nat_eq-sound c h = grind (arith, common_steps)

pub take_known : (x y : Bool) (ps : List Lexeme) (m : Pending) (c : ℕ) → is_white c ≡ x → (c == 34) ≡ y → Always ps → PendingFits m → Known ((spelled ps ++ pending_chars m) ++ c ∷ []) (cond x (take_white ps m c) (cond y (take_quote ps m) (take_inner ps m c)))
take_known true y ps m c w q a f = white_known ps m c a f w
take_known false true ps m c w q a f = let e : c ≡ 34 = nat_eq-sound c q in subst (λ (x : ℕ). Known ((spelled ps ++ pending_chars m) ++ x ∷ []) (take_quote ps m)) (sym e) (quote_known ps m a f)
take_known false false ps m c w q a f = inner_known ps m c a f w q

-- what a reading gives
abbrev pub Answers : List ℕ → Result (List Lexeme) Fault → Type 0
Answers cs (Ok ps) = Reading cs ps
Answers cs (Err f) = FirstFault cs f

last_fits : (ps : List Lexeme) (p : Lexeme) (cs : List ℕ) → Always ps → lexeme_fits p [] ≡ true → spelled ps ++ lexeme_chars p ≡ cs → Reading cs (ps ++ p ∷ [])
last_fits ps p cs a f e = record { fits = all_fit-append ps (p ∷ []) [] (a _) (both (lexeme_fits p []) true f refl); spells = rw (spelled-append ps (p ∷ [])) (grind (arith, common_steps)) }

ended_last : (x : Bool) (d : ℕ) (cs : List ℕ) → is_bang (d ∷ cs) ≡ x → list_all is_inner (d ∷ cs) ≡ true → lexeme_fits (cond x (comment []) (plain (d ∷ cs))) [] ≡ true
ended_last true d cs e h = refl
ended_last false d cs e h = both (true && list_all is_inner (d ∷ cs) && not (is_bang (d ∷ cs))) true (both (true && list_all is_inner (d ∷ cs)) (not (is_bang (d ∷ cs))) h (rw e refl)) refl

pub end_known : (ps : List Lexeme) (m : Pending) (cs : List ℕ) → Always ps → PendingFits m → spelled ps ++ pending_chars m ≡ cs → Answers cs (at_end ps m)
end_known ps between cs a f e = record { fits = a []; spells = grind (arith, common_steps) }
end_known ps (in_plain d ds) cs a f e = last_fits ps (ended d ds) cs a (ended_last (is_bang (d ∷ ds)) d ds refl f) (rw (ended-chars (is_bang (d ∷ ds)) d ds refl) e)
end_known ps (in_comment ds) cs a f e = last_fits ps (comment ds) cs a (comment_fits ds [] f.0 f.1 refl) e
end_known ps (in_string us) cs a f e = record { ps = ps; rest = 34 ∷ parts_chars us ++ []; fits = a _; spells = grind (arith, common_steps); wrong = cut us [] f refl }
end_known ps (in_escape us) cs a f e = record { ps = ps; rest = 34 ∷ parts_chars us ++ 92 ∷ []; fits = a _; spells = e; wrong = cut_escape us [] f refl }
end_known ps (closed us) cs a f e = last_fits ps (string us) cs a (both (list_all part_fits us) true f refl) e

after_step : (r : Result Scan Fault) (done cs : List ℕ) → Known done r → Answers (done ++ cs) (scan_from r cs)
after_step (Err f) done cs k = k cs
after_step (Ok s) done [] k = end_known s.done s.pending (done ++ []) k.0.lexemes_fit k.0.pending_fits (k.1 ∙ grind (arith, common_steps))
after_step (Ok s) done (c ∷ cs) k =
    let e : Known ((spelled s.done ++ pending_chars s.pending) ++ c ∷ []) (take_char s c) = take_known (is_white c) (c == 34) s.done s.pending c refl refl k.0.lexemes_fit k.0.pending_fits in
    let d : Known (done ++ c ∷ []) (take_char s c) = subst (λ (x : List ℕ). Known (x ++ c ∷ []) (take_char s c)) k.1 e in
    subst (λ (x : List ℕ). Answers x (scan_from (take_char s c) cs)) (append_assoc done (c ∷ []) cs) (after_step (take_char s c) (done ++ c ∷ []) cs d)

-- a reading, or the first fault
pub lexemes_known : (cs : List ℕ) → Answers cs (lexemes cs)
lexemes_known cs = after_step (scan [] between) [] cs (record { lexemes_fit = λ next. refl; pending_fits = tt }, refl)

one_of : (cs : List ℕ) (r : Result (List Lexeme) Fault) → Answers cs r → ((ps : List Lexeme) × Reading cs ps) ⊎ ((f : Fault) × FirstFault cs f)
one_of cs (Ok ps) a = inl (ps, a)
one_of cs (Err f) a = inr (f, a)

pub read_or_faulty : (cs : List ℕ) → ((ps : List Lexeme) × Reading cs ps) ⊎ ((f : Fault) × FirstFault cs f)
read_or_faulty cs = one_of cs (lexemes cs) (lexemes_known cs)
