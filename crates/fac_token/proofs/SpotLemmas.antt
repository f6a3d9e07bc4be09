-- Following the scanner gives the places of the tokens of the reading.
use Rattle.std.proofs.Common.{◌≡◌, ℕ, ◌+◌, ◌==◌, List, [], ◌∷◌, ◌++◌, length, take, length-append, add-one, nat_lt, Bool, true, false, not, ◌&&◌, ◌||◌, Result, Ok, Err, refl, sym, ◌∙◌, ap, subst, append_assoc, arith, cond}
use Rattle.std.specs.List.{list_any, count_by}
use Rattle.std.specs.Str.{chars, IsUtf8}
use Rattle.std.specs.Char.{len_utf8}
use Rattle.std.proofs.lemmas.List.{append-nil}
use Rattle.std.proofs.lemmas.Str.{encodes_same}
use Rattle.std.proofs.lemmas.List.Sums.{sum_by_push}
use Rattle.std.proofs.lemmas.Grind.{common_steps}
use Rattle.std.proofs.Math.Seq.{take-suc}
use Rattle.fac_source.specs.declared.token.Token.{Token}
use Rattle.fac_source.specs.declared.token.TokKind.{TokKind}
use Rattle.fac_token.specs.declared.fault.TokenFault.{TokenFault}
use Rattle.fac_token.specs.declared.scanner.Mode.{Mode}
use Rattle.fac_token.specs.declared.scanner.Mode.TheVariants.{Between}
use Rattle.fac_token.specs.declared.spotting.Here.{Here}
use Rattle.fac_token.specs.declared.spotting.Spot.{Spot}
use Rattle.fac_token.specs.Lexemes.{is_white, escaped, is_some, StringPart, itself, escape, Lexeme, white, comment, plain, string, lexeme_chars, spelled, is_bang, Reading, Fault}
use Rattle.fac_token.specs.Tokens.{kinds, numbered, HasTokens}
use Rattle.fac_token.specs.Spots.{is_break, since_break, spot_behind, spots_of, HasSpots}
use Rattle.fac_token.specs.inner.Scan.{Pending, between, in_plain, in_comment, in_string, in_escape, closed, Scan, scan, ended, take_white, take_quote, take_inner, take_char, at_end}
use Rattle.fac_token.specs.inner.TokenSteps.{Held, held, hold_char, hold_end}
use Rattle.fac_token.specs.inner.SpotSteps.{here_behind, passed, mode_open, spot_from, finished, started}
use Rattle.fac_token.proofs.ScanLemmas.{pending_chars, Known, take_known, Answers, end_known}
use Rattle.fac_token.proofs.StepLemmas.{size, pending_text, pending_mode, tokens_of, view_scan, view_end, step_by, last_step, size-more, spells_chars, IsAt}
use Rattle.fac_token.proofs.OneReading.{one_reading}

-- A character further on.

count-more : (cs : List ℕ) (c : ℕ) → count_by is_break (cs ++ c ∷ []) ≡ count_by is_break cs + cond (is_break c) 1 0
count-more cs c = sum_by_push (λ x. cond (is_break x) 1 0) cs c

any-more : (cs : List ℕ) (c : ℕ) → list_any is_break (cs ++ c ∷ []) ≡ (list_any is_break cs || is_break c)
any-more [] c = by_case (is_break c)
  where
    by_case : (b : Bool) → (b || false) ≡ (false || b)
    by_case true = refl
    by_case false = refl
any-more (d ∷ cs) c = by_case (is_break d) (any-more cs c)
  where
    by_case : (b : Bool) → list_any is_break (cs ++ c ∷ []) ≡ (list_any is_break cs || is_break c) → (b || list_any is_break (cs ++ c ∷ [])) ≡ ((b || list_any is_break cs) || is_break c)
    by_case true e = refl
    by_case false e = e

since-break : (cs : List ℕ) (c : ℕ) → is_break c ≡ true → since_break (cs ++ c ∷ []) ≡ []
since-break [] c e = rw e refl
since-break (d ∷ cs) c e = rw (any-more cs c, e) (by_case (list_any is_break cs) (since-break cs c e))
  where
    by_case : (b : Bool) → since_break (cs ++ c ∷ []) ≡ [] → cond (b || true) (since_break (cs ++ c ∷ [])) (cond (is_break d) (cs ++ c ∷ []) (d ∷ cs ++ c ∷ [])) ≡ []
    by_case true rest = rest
    by_case false rest = rest

since-more : (cs : List ℕ) (c : ℕ) → is_break c ≡ false → since_break (cs ++ c ∷ []) ≡ since_break cs ++ c ∷ []
since-more [] c e = rw e refl
since-more (d ∷ cs) c e = rw (any-more cs c, e) (by_case (list_any is_break cs) (is_break d) (since-more cs c e))
  where
    by_case : (b x : Bool) → since_break (cs ++ c ∷ []) ≡ since_break cs ++ c ∷ [] → cond (b || false) (since_break (cs ++ c ∷ [])) (cond x (cs ++ c ∷ []) (d ∷ cs ++ c ∷ [])) ≡ cond b (since_break cs) (cond x cs (d ∷ cs)) ++ c ∷ []
    by_case true x rest = rest
    by_case false true rest = refl
    by_case false false rest = refl

pub passed_on : (cs : List ℕ) (c : ℕ) → passed (here_behind cs) c ≡ here_behind (cs ++ c ∷ [])
passed_on cs c = by_case (is_break c) refl
  where
    by_case : (b : Bool) → is_break c ≡ b → cond b (record { line = count_by is_break cs + 1 + 1; column = 1; at = size cs + len_utf8 c }) (record { line = count_by is_break cs + 1; column = length (since_break cs) + 1 + 1; at = size cs + len_utf8 c }) ≡ here_behind (cs ++ c ∷ [])
    by_case true e = rw (count-more cs c, e, since-break cs c e, ← size-more (size cs) c cs refl) (let n : count_by is_break cs + 1 + 1 ≡ count_by is_break cs + 1 + 1 = refl in refl)
    by_case false e = rw (count-more cs c, e, since-more cs c e, ← size-more (size cs) c cs refl, length-append (since_break cs) (c ∷ [])) (let n : count_by is_break cs + 1 ≡ count_by is_break cs + 0 + 1 = omega arith in ap (λ (k : ℕ). record { line = k; column = length (since_break cs) + 1 + 1; at = size cs + len_utf8 c }) n)

-- The places of lexemes.

pub spots-append : (before : List ℕ) (ps qs : List Lexeme) → spots_of before (ps ++ qs) ≡ spots_of before ps ++ spots_of (before ++ spelled ps) qs
spots-append before [] qs = ap (λ (cs : List ℕ). spots_of cs qs) (sym (append-nil before))
spots-append before (white c ∷ ps) qs = spots-append (before ++ lexeme_chars (white c)) ps qs ∙ ap (λ (cs : List ℕ). spots_of (before ++ lexeme_chars (white c)) ps ++ spots_of cs qs) (append_assoc before (lexeme_chars (white c)) (spelled ps))
spots-append before (comment cs ∷ ps) qs = spots-append (before ++ lexeme_chars (comment cs)) ps qs ∙ ap (λ (ds : List ℕ). spots_of (before ++ lexeme_chars (comment cs)) ps ++ spots_of ds qs) (append_assoc before (lexeme_chars (comment cs)) (spelled ps))
spots-append before (plain cs ∷ ps) qs = ap (λ (ss : List Spot). spot_behind before cs ∷ ss) (spots-append (before ++ lexeme_chars (plain cs)) ps qs ∙ ap (λ (ds : List ℕ). spots_of (before ++ lexeme_chars (plain cs)) ps ++ spots_of ds qs) (append_assoc before (lexeme_chars (plain cs)) (spelled ps)))
spots-append before (string us ∷ ps) qs = ap (λ (ss : List Spot). spot_behind before (lexeme_chars (string us)) ∷ ss) (spots-append (before ++ lexeme_chars (string us)) ps qs ∙ ap (λ (ds : List ℕ). spots_of (before ++ lexeme_chars (string us)) ps ++ spots_of ds qs) (append_assoc before (lexeme_chars (string us)) (spelled ps)))

length-spots : (before : List ℕ) (ps : List Lexeme) → length (spots_of before ps) ≡ length (kinds ps)
length-spots before [] = refl
length-spots before (white c ∷ ps) = length-spots (before ++ lexeme_chars (white c)) ps
length-spots before (comment cs ∷ ps) = length-spots (before ++ lexeme_chars (comment cs)) ps
length-spots before (plain cs ∷ ps) = let rest = length-spots (before ++ lexeme_chars (plain cs)) ps in omega (arith, rest)
length-spots before (string us ∷ ps) = let rest = length-spots (before ++ lexeme_chars (string us)) ps in omega (arith, rest)

length-numbered : (file n : ℕ) (ks : List TokKind) → length (numbered file n ks) ≡ length ks
length-numbered file n [] = refl
length-numbered file n (k ∷ ks) = let rest = length-numbered file (n + 1) ks in omega (arith, rest)

pub as_many : (file : ℕ) (ps : List Lexeme) → length (tokens_of file ps) ≡ length (spots_of [] ps)
as_many file ps = length-numbered file 1 (kinds ps) ∙ sym (length-spots [] ps)

-- A step of the scanner.

abbrev pub is_open : Pending → Bool
is_open between = false
is_open (in_plain d cs) = true
is_open (in_comment cs) = false
is_open (in_string us) = true
is_open (in_escape us) = true
is_open (closed us) = true

pub open_is : (before : List ℕ) (m : Pending) → mode_open (pending_mode before m) ≡ is_open m
open_is before between = refl
open_is before (in_plain d cs) = refl
open_is before (in_comment cs) = refl
open_is before (in_string us) = refl
open_is before (in_escape us) = refl
open_is before (closed us) = refl

-- where the token that stands open began
abbrev pub StartsAt : List Lexeme → Pending → Here → Type 0
StartsAt ps m start = is_open m ≡ true → start ≡ here_behind (spelled ps)

-- the places behind a step: one more where a token has ended
abbrev pub grown : List Lexeme → List Lexeme → Bool
grown ps qs = nat_lt (length (spots_of [] ps)) (length (spots_of [] qs))

pub record Follows (ps : List Lexeme) (m : Pending) (start : Here) (s : Scan) : Type 0 where
  pub spots : spots_of [] s.done ≡ finished (spots_of [] ps) start (grown ps s.done) (size (spelled ps ++ pending_chars m))
  pub starts : StartsAt s.done s.pending (started start (here_behind (spelled ps ++ pending_chars m)) (is_open m) (is_open s.pending))

abbrev FollowsIf : List Lexeme → Pending → Here → Result Scan Fault → Type 0
FollowsIf ps m start (Err f) = Unit {0}
FollowsIf ps m start (Ok s) = Follows ps m start s

same_length : (xs ys : List Spot) → xs ≡ ys → nat_lt (length xs) (length ys) ≡ false
same_length xs ys e = subst (λ (zs : List Spot). nat_lt (length xs) (length zs) ≡ false) e (not_below (length xs))
  where
    not_below : (n : ℕ) → nat_lt n n ≡ false
    not_below n = grind (arith, common_steps)

one_longer : (xs : List Spot) (x : Spot) → nat_lt (length xs) (length (xs ++ x ∷ [])) ≡ true
one_longer xs x = let more = length-append xs (x ∷ []) in grind (arith, common_steps)

-- no token ended
stays : (ps qs : List Lexeme) (start : Here) (end : ℕ) → spots_of (spelled ps) qs ≡ [] → spots_of [] (ps ++ qs) ≡ finished (spots_of [] ps) start (grown ps (ps ++ qs)) end
stays ps qs start end e =
    let same : spots_of [] (ps ++ qs) ≡ spots_of [] ps = spots-append [] ps qs ∙ (ap (λ (ss : List Spot). spots_of [] ps ++ ss) e ∙ append-nil (spots_of [] ps)) in
    subst (λ (b : Bool). spots_of [] (ps ++ qs) ≡ finished (spots_of [] ps) start b end) (sym (same_length (spots_of [] ps) (spots_of [] (ps ++ qs)) (sym same))) same

-- one did
grows : (ps qs : List Lexeme) (spelling : List ℕ) (start : Here) (end : ℕ) → spots_of (spelled ps) qs ≡ spot_behind (spelled ps) spelling ∷ [] → start ≡ here_behind (spelled ps) → end ≡ size (spelled ps ++ spelling) → spots_of [] (ps ++ qs) ≡ finished (spots_of [] ps) start (grown ps (ps ++ qs)) end
grows ps qs spelling start end e s n =
    let more : spots_of [] (ps ++ qs) ≡ spots_of [] ps ++ spot_from start end ∷ [] = spots-append [] ps qs ∙ ap (λ (ss : List Spot). spots_of [] ps ++ ss) (e ∙ rw (s, n) refl) in
    let longer : grown ps (ps ++ qs) ≡ true = ap (λ (ss : List Spot). nat_lt (length (spots_of [] ps)) (length ss)) more ∙ one_longer (spots_of [] ps) (spot_from start end) in
    subst (λ (b : Bool). spots_of [] (ps ++ qs) ≡ finished (spots_of [] ps) start b end) (sym longer) more

-- nothing ended
same_done : (ps : List Lexeme) (start : Here) (end : ℕ) → spots_of [] ps ≡ finished (spots_of [] ps) start (grown ps ps) end
same_done ps start end = subst (λ (b : Bool). spots_of [] ps ≡ finished (spots_of [] ps) start b end) (sym (same_length (spots_of [] ps) (spots_of [] ps) refl)) refl

-- what stood open goes on
goes_on : (ps : List Lexeme) (m n : Pending) (start : Here) → is_open m ≡ true → StartsAt ps m start → Follows ps m start (record { done = ps; pending = n })
goes_on ps m n start o s = record {
  spots = same_done ps start _;
  starts = λ more. rw o (s o);
}

-- nothing stands open behind it
closes : (ps qs : List Lexeme) (m : Pending) (n : Pending) (start : Here) → is_open n ≡ false → spots_of [] (ps ++ qs) ≡ finished (spots_of [] ps) start (grown ps (ps ++ qs)) (size (spelled ps ++ pending_chars m)) → Follows ps m start (record { done = ps ++ qs; pending = n })
closes ps qs m n start o e = record { spots = e; starts = λ more. absurd (let d = sym o ∙ more in cc) }

still_closed : (ps : List Lexeme) (m n : Pending) (start : Here) → is_open n ≡ false → Follows ps m start (record { done = ps; pending = n })
still_closed ps m n start o = record { spots = same_done ps start _; starts = λ more. absurd (let d = sym o ∙ more in cc) }

-- a token begins
opens : (ps : List Lexeme) (n : Pending) (start : Here) → Follows ps between start (record { done = ps; pending = n })
opens ps n start = record {
  spots = same_done ps start _;
  starts = λ more. rw more (ap here_behind (append-nil (spelled ps)));
}

end_is : (ps : List Lexeme) (spelling : List ℕ) → size (spelled ps ++ spelling) ≡ size (spelled ps ++ spelling)
end_is ps spelling = refl

plain_ends : (x y : Bool) (ps : List Lexeme) (d : ℕ) (cs : List ℕ) (c : ℕ) (start : Here) → is_bang (d ∷ cs) ≡ x → not (c == 10) ≡ y → StartsAt ps (in_plain d cs) start → FollowsIf ps (in_plain d cs) start (cond (x && y) (scan ps (in_comment (c ∷ []))) (scan (ps ++ ended d cs ∷ white c ∷ []) between))
plain_ends true true ps d cs c start e n s = still_closed ps (in_plain d cs) (in_comment (c ∷ [])) start refl
plain_ends true false ps d cs c start e n s = rw e (closes ps (comment [] ∷ white c ∷ []) (in_plain d cs) between start refl (stays ps (comment [] ∷ white c ∷ []) start _ refl))
plain_ends false y ps d cs c start e n s = rw e (closes ps (plain (d ∷ cs) ∷ white c ∷ []) (in_plain d cs) between start refl (grows ps (plain (d ∷ cs) ∷ white c ∷ []) (d ∷ cs) start _ refl (s refl) refl))

comment_goes : (x : Bool) (ps : List Lexeme) (cs : List ℕ) (c : ℕ) (start : Here) → (c == 10) ≡ x → FollowsIf ps (in_comment cs) start (cond x (scan (ps ++ comment cs ∷ white c ∷ []) between) (scan ps (in_comment (cs ++ c ∷ []))))
comment_goes true ps cs c start e = closes ps (comment cs ∷ white c ∷ []) (in_comment cs) between start refl (stays ps (comment cs ∷ white c ∷ []) start _ refl)
comment_goes false ps cs c start e = still_closed ps (in_comment cs) (in_comment (cs ++ c ∷ [])) start refl

string_goes : (x : Bool) (ps : List Lexeme) (us vs : List StringPart) (f : Fault) (start : Here) (m n : Pending) → is_open m ≡ true → StartsAt ps m start → FollowsIf ps m start (cond x (Err f) (scan ps n))
string_goes true ps us vs f start m n o s = tt
string_goes false ps us vs f start m n o s = goes_on ps m n start o s

part_goes : (x : Bool) (ps : List Lexeme) (f : Fault) (start : Here) (m n : Pending) → is_open m ≡ true → StartsAt ps m start → FollowsIf ps m start (cond x (scan ps n) (Err f))
part_goes true ps f start m n o s = goes_on ps m n start o s
part_goes false ps f start m n o s = tt

either_goes : (x : Bool) (ps : List Lexeme) (start : Here) (m n o : Pending) → is_open m ≡ true → StartsAt ps m start → FollowsIf ps m start (cond x (scan ps n) (scan ps o))
either_goes true ps start m n o e s = goes_on ps m n start e s
either_goes false ps start m n o e s = goes_on ps m o start e s

faults : (x : Bool) (ps : List Lexeme) (m : Pending) (start : Here) (f g : Fault) → FollowsIf ps m start (cond x (Err f) (Err g))
faults true ps m start f g = tt
faults false ps m start f g = tt

white_follows : (ps : List Lexeme) (m : Pending) (c : ℕ) (start : Here) → StartsAt ps m start → FollowsIf ps m start (take_white ps m c)
white_follows ps between c start s = closes ps (white c ∷ []) between between start refl (stays ps (white c ∷ []) start _ refl)
white_follows ps (in_plain d cs) c start s = plain_ends (is_bang (d ∷ cs)) (not (c == 10)) ps d cs c start refl refl s
white_follows ps (in_comment cs) c start s = comment_goes (c == 10) ps cs c start refl
white_follows ps (in_string us) c start s = string_goes (c == 10) ps us us _ start (in_string us) (in_string (us ++ itself c ∷ [])) refl s
white_follows ps (in_escape us) c start s = faults (c == 10) ps (in_escape us) start _ _
white_follows ps (closed us) c start s = closes ps (string us ∷ white c ∷ []) (closed us) between start refl (grows ps (string us ∷ white c ∷ []) (lexeme_chars (string us)) start _ refl (s refl) refl)

quote_follows : (ps : List Lexeme) (m : Pending) (start : Here) → StartsAt ps m start → FollowsIf ps m start (take_quote ps m)
quote_follows ps between start s = opens ps (in_string []) start
quote_follows ps (in_plain d cs) start s = tt
quote_follows ps (in_comment cs) start s = still_closed ps (in_comment cs) (in_comment (cs ++ 34 ∷ [])) start refl
quote_follows ps (in_string us) start s = goes_on ps (in_string us) (closed us) start refl s
quote_follows ps (in_escape us) start s = goes_on ps (in_escape us) (in_string (us ++ escape 34 ∷ [])) start refl s
quote_follows ps (closed us) start s = tt

inner_follows : (ps : List Lexeme) (m : Pending) (c : ℕ) (start : Here) → StartsAt ps m start → FollowsIf ps m start (take_inner ps m c)
inner_follows ps between c start s = opens ps (in_plain c []) start
inner_follows ps (in_plain d cs) c start s = goes_on ps (in_plain d cs) (in_plain d (cs ++ c ∷ [])) start refl s
inner_follows ps (in_comment cs) c start s = still_closed ps (in_comment cs) (in_comment (cs ++ c ∷ [])) start refl
inner_follows ps (in_string us) c start s = either_goes (c == 92) ps start (in_string us) (in_escape us) (in_string (us ++ itself c ∷ [])) refl s
inner_follows ps (in_escape us) c start s = part_goes (is_some (escaped c)) ps _ start (in_escape us) (in_string (us ++ escape c ∷ [])) refl s
inner_follows ps (closed us) c start s = tt

follows_by : (x y : Bool) (ps : List Lexeme) (m : Pending) (c : ℕ) (start : Here) → StartsAt ps m start → FollowsIf ps m start (cond x (take_white ps m c) (cond y (take_quote ps m) (take_inner ps m c)))
follows_by true y ps m c start s = white_follows ps m c start s
follows_by false true ps m c start s = quote_follows ps m start s
follows_by false false ps m c start s = inner_follows ps m c start s

-- What stands behind these characters, where the code holds this.

pub record Followed (before : List ℕ) (tokens : List Token) (text : List ℕ) (mode : Mode) (spots : List Spot) (start : Here) : Type 0 where
  pub done : List Lexeme
  pub pending : Pending
  pub known : Known before (scan done pending)
  pub tokens_are : tokens ≡ tokens_of 0 done
  pub text_is : text ≡ pending_text pending
  pub mode_is : mode ≡ pending_mode (spelled done) pending
  pub spots_are : spots ≡ spots_of [] done
  pub starts : StartsAt done pending start

pub at_first : (tokens : List Token) (text : List ℕ) (spots : List Spot) (start : Here) → tokens ≡ [] → text ≡ [] → spots ≡ [] → Followed [] tokens text Between spots start
at_first tokens text spots start t x s = record {
  done = [];
  pending = between;
  known = (record { lexemes_fit = λ next. refl; pending_fits = tt }, refl);
  tokens_are = t;
  text_is = x;
  mode_is = refl;
  spots_are = s;
  starts = λ more. absurd cc;
}

-- what the code holds, where it holds anything
held_tokens : Result Held TokenFault → List Token
held_tokens (Ok h) = h.tokens
held_tokens (Err f) = []

held_text : Result Held TokenFault → List ℕ
held_text (Ok h) = h.text
held_text (Err f) = []

held_mode : Result Held TokenFault → Mode
held_mode (Ok h) = h.mode
held_mode (Err f) = Between

-- the next step, where the code came to this
module _ (before : List ℕ) (tokens : List Token) (text : List ℕ) (mode : Mode) (spots : List Spot) (start : Here) (f : Followed before tokens text mode spots start) (c : ℕ) where
  same_chars : spelled f.done ++ pending_chars f.pending ≡ before
  same_chars = f.known.1

  module _ (tokens_now : List Token) (text_now : List ℕ) (mode_now : Mode) (at : ℕ) (e : at ≡ size before) where
    by_scan :
        (r : Result Scan Fault) → Known (before ++ c ∷ []) r → FollowsIf f.done f.pending start r → held tokens_now text_now mode_now ≡ view_scan 0 r →
        Followed (before ++ c ∷ []) tokens_now text_now mode_now (finished spots start (nat_lt (length tokens) (length tokens_now)) at) (started start (here_behind before) (mode_open mode) (mode_open mode_now))
    unfolding held_tokens held_text held_mode
    by_scan (Err g) known follows seen = absurd cc
    by_scan (Ok s) known follows seen =
        let are : tokens_now ≡ tokens_of 0 s.done = ap held_tokens seen in
        let is : mode_now ≡ pending_mode (spelled s.done) s.pending = ap held_mode seen in
        let old_count : length tokens ≡ length (spots_of [] f.done) = ap (λ (ts : List Token). length ts) f.tokens_are ∙ as_many 0 f.done in
        let new_count : length tokens_now ≡ length (spots_of [] s.done) = ap (λ (ts : List Token). length ts) are ∙ as_many 0 s.done in
        let end : at ≡ size (spelled f.done ++ pending_chars f.pending) = e ∙ ap size (sym same_chars) in
        record {
          done = s.done;
          pending = s.pending;
          known = known;
          tokens_are = are;
          text_is = ap held_text seen;
          mode_is = is;
          spots_are = rw (f.spots_are, old_count, new_count, end) (sym follows.spots);
          starts = subst (λ (h : Here). StartsAt s.done s.pending h) (rw (f.mode_is, is, open_is (spelled f.done) f.pending, open_is (spelled s.done) s.pending) (ap (λ (cs : List ℕ). started start (here_behind cs) (is_open f.pending) (is_open s.pending)) same_chars)) follows.starts;
        }

    pub step_followed :
        hold_char 0 at (record { tokens = tokens; text = text; mode = mode }) c ≡ held tokens_now text_now mode_now →
        Followed (before ++ c ∷ []) tokens_now text_now mode_now (finished spots start (nat_lt (length tokens) (length tokens_now)) at) (started start (here_behind before) (mode_open mode) (mode_open mode_now))
    step_followed h =
        let r : Result Scan Fault = take_char (record { done = f.done; pending = f.pending }) c in
        let known : Known (before ++ c ∷ []) r = subst (λ (cs : List ℕ). Known (cs ++ c ∷ []) r) same_chars (take_known (is_white c) (c == 34) f.done f.pending c refl refl f.known.0.lexemes_fit f.known.0.pending_fits) in
        let follows : FollowsIf f.done f.pending start r = follows_by (is_white c) (c == 34) f.done f.pending c start f.starts in
        let end : at ≡ size (spelled f.done ++ pending_chars f.pending) = e ∙ ap size (sym same_chars) in
        let seen : hold_char 0 at (record { tokens = tokens; text = text; mode = mode }) c ≡ view_scan 0 r = rw (f.tokens_are, f.text_is, f.mode_is) (step_by (is_white c) (c == 34) 0 at f.done f.pending c end) in
        by_scan r known follows (sym h ∙ seen)

-- At the end.

abbrev EndsIf : List Lexeme → Pending → Here → Result (List Lexeme) Fault → Type 0
EndsIf ps m start (Err f) = Unit {0}
EndsIf ps m start (Ok qs) = spots_of [] qs ≡ finished (spots_of [] ps) start (grown ps qs) (size (spelled ps ++ pending_chars m))

plain_last : (x : Bool) (ps : List Lexeme) (d : ℕ) (cs : List ℕ) (start : Here) → is_bang (d ∷ cs) ≡ x → StartsAt ps (in_plain d cs) start → EndsIf ps (in_plain d cs) start (Ok (ps ++ cond x (comment []) (plain (d ∷ cs)) ∷ []))
plain_last true ps d cs start e s = stays ps (comment [] ∷ []) start _ refl
plain_last false ps d cs start e s = grows ps (plain (d ∷ cs) ∷ []) (d ∷ cs) start _ refl (s refl) refl

end_follows : (ps : List Lexeme) (m : Pending) (start : Here) → StartsAt ps m start → EndsIf ps m start (at_end ps m)
end_follows ps between start s = same_done ps start _
end_follows ps (in_plain d cs) start s = plain_last (is_bang (d ∷ cs)) ps d cs start refl s
end_follows ps (in_comment cs) start s = stays ps (comment cs ∷ []) start _ refl
end_follows ps (in_string us) start s = tt
end_follows ps (in_escape us) start s = tt
end_follows ps (closed us) start s = grows ps (string us ∷ []) (lexeme_chars (string us)) start _ refl (s refl) refl

end_tokens : Result (List Token) TokenFault → List Token
end_tokens (Ok ts) = ts
end_tokens (Err f) = []

module _ (bytes : List ℕ) (utf8 : IsUtf8 bytes) (tokens : List Token) (text : List ℕ) (mode : Mode) (spots : List Spot) (start : Here) (f : Followed (chars bytes) tokens text mode spots start) (at : ℕ) (e : at ≡ size (chars bytes)) (all : List Token) where
  by_end : (r : Result (List Lexeme) Fault) → Answers (chars bytes) r → EndsIf f.done f.pending start r → Ok all ≡ view_end 0 r → HasSpots bytes (finished spots start (nat_lt (length tokens) (length all)) at)
  unfolding end_tokens
  by_end (Err g) known follows seen = absurd cc
  by_end (Ok ps) known follows seen =
      let are : all ≡ tokens_of 0 ps = ap end_tokens seen in
      let old_count : length tokens ≡ length (spots_of [] f.done) = ap (λ (ts : List Token). length ts) f.tokens_are ∙ as_many 0 f.done in
      let new_count : length all ≡ length (spots_of [] ps) = ap (λ (ts : List Token). length ts) are ∙ as_many 0 ps in
      let end : at ≡ size (spelled f.done ++ pending_chars f.pending) = e ∙ ap size (sym f.known.1) in
      record {
        chars = chars bytes;
        ps = ps;
        spells = spells_chars bytes utf8;
        reading = known;
        are = rw (f.spots_are, old_count, new_count, end) (sym follows);
      }

  pub end_followed : hold_end 0 tokens text mode ≡ Ok all → HasSpots bytes (finished spots start (nat_lt (length tokens) (length all)) at)
  end_followed h =
      let r : Result (List Lexeme) Fault = at_end f.done f.pending in
      let known : Answers (chars bytes) r = end_known f.done f.pending (chars bytes) f.known.0.lexemes_fit f.known.0.pending_fits f.known.1 in
      let seen : hold_end 0 tokens text mode ≡ view_end 0 r = rw (f.tokens_are, f.text_is, f.mode_is) (last_step 0 f.done f.pending) in
      by_end r known (end_follows f.done f.pending start f.starts) (sym h ∙ seen)

-- The characters so far.

pub one_more_char : (cs : List ℕ) (k j c : ℕ) → IsAt cs k c → j ≡ k + 1 → take k cs ++ c ∷ [] ≡ take j cs
one_more_char cs k j c t e = rw (e, add-one, take-suc cs k c t.0, ← t.1) refl

pub passed_at : (here : Here) (c : ℕ) → (passed here c).at ≡ here.at + len_utf8 c
passed_at here c = by_case (is_break c)
  where
    by_case : (b : Bool) → (cond {A = Here} b (record { line = here.line + 1; column = 1; at = here.at + len_utf8 c }) (record { line = here.line; column = here.column + 1; at = here.at + len_utf8 c })).at ≡ here.at + len_utf8 c
    by_case true = refl
    by_case false = refl

-- Laws.

pub each_token : (file : ℕ) (bytes : List ℕ) (tokens : List Token) (spots : List Spot) → HasTokens file bytes tokens → HasSpots bytes spots → length spots ≡ length tokens
each_token file bytes tokens spots t s =
    let same : t.chars ≡ s.chars = encodes_same t.chars s.chars (t.spells.encoded ∙ sym s.spells.encoded) in
    let read : t.ps ≡ s.ps = one_reading s.chars t.ps s.ps (subst (λ (cs : List ℕ). Reading cs t.ps) same t.reading) s.reading in
    rw (s.are, t.are, read) (sym (as_many file s.ps))

pub one_list : (bytes : List ℕ) (spots others : List Spot) → HasSpots bytes spots → HasSpots bytes others → spots ≡ others
one_list bytes spots others s t =
    let same : s.chars ≡ t.chars = encodes_same s.chars t.chars (s.spells.encoded ∙ sym t.spells.encoded) in
    let read : s.ps ≡ t.ps = one_reading t.chars s.ps t.ps (subst (λ (cs : List ℕ). Reading cs s.ps) same s.reading) t.reading in
    s.are ∙ (ap (λ (ps : List Lexeme). spots_of [] ps) read ∙ sym t.are)
