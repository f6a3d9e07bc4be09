-- Tokens that are taken, and forms that are handed out, over plain variables.
use Rattle.std.proofs.Common.{ℕ, ◌≡◌, ◌+◌, ◌<◌, ◌≤◌, ◌^◌, Bool, true, false, List, [], ◌∷◌, ◌++◌, Option, Some, None, Result, Ok, Err, refl, sym, ◌∙◌, ap, subst, arith, take, drop, suc, add-one, drop-cons, length, length-append, length-drop, append_assoc, append-nil, get_or, ◌⊎◌, inl, inr}
use Rattle.std.proofs.lemmas.List.{take_more, length_push, take-append-drop}
use Rattle.std.proofs.lemmas.Bool.Decides.{Decides-ltb}
use Rattle.std.specs.Prelude.{nat_lt}
use Rattle.fac_source.specs.declared.token.Token.{Token}
use Rattle.fac_source.specs.declared.tree.Form.{Form}
use Rattle.fac_parse.specs.declared.reader.ParseFault.{ParseFault}
use Rattle.fac_parse.specs.declared.reader.ParseFault.TheVariants.{Syntax, Memory}
use Rattle.fac_parse.specs.declared.reader.Why.{Why}
use Rattle.fac_parse.specs.declared.reader.Why.TheVariants.{End, Other}
use Rattle.fac_parse.specs.declared.parser.Parser.{Parser}
use Rattle.fac_parse.specs.declared.reader.At.{At}
use Rattle.fac_parse.specs.declared.reader.At.TheVariants as at
use Rattle.fac_parse.specs.declared.reader.Reader.{Reader}
use Rattle.fac_parse.specs.inner.Handing.{TakesMore}
use Rattle.std.specs.Result.{IsErrAnd}
use Rattle.fac_parse.specs.Trees.{AreForms, IsWellFormed, Reads, Refused, RefusedFor, Misses, Parses, OneTree, TreeOrNone, OnePlace, SomePlace, flatten}
use Rattle.fac_parse.specs.Handed.{behind_forms, HandedBy, HasHandedOut, IsTaking}
use Rattle.fac_parse.specs.inner.Reader.{State, in_state, step, steps, start, ended, open_of, state_of, Goes, IsRead, IsSyntax}
use Rattle.fac_parse.proofs.FormsBehind.{behind_next, behind_ended, step_behind, ended_behind}
use Rattle.fac_parse.proofs.ReaderReads.{steps-append}
use Rattle.fac_parse.proofs.ExactPlaces.{is_read, reads_tree, refused_at, refused_end, whole_forms}
use Rattle.fac_parse.proofs.ExactPlaces as exact

one_more : (ts : List Token) (s next : State) (t : Token) (b : Bool) → steps (Some start) ts ≡ Some s → Goes (step s t) next (Ok b) → b ≡ true → steps (Some start) (ts ++ t ∷ []) ≡ Some next
one_more ts s next t true h g e = steps-append (Some start) ts (t ∷ []) ∙ ap (λ (o : Option State). steps o (t ∷ [])) h ∙ g
one_more ts s next t false h g e = cc

fault_parses : (ts : List Token) (n : ℕ) (f : ParseFault) → Refused ts n → n < length ts → IsSyntax n Other f → Parses ts (Err f)
fault_parses ts n (Syntax at Other) r h e = (n, e.0, (r, h))
fault_parses ts n (Syntax at End) r h e = let d = e.1 in cc
fault_parses ts n Memory r h e = tt

none_with : (ts : List Token) (s next : State) (t : Token) (b : Bool) → steps (Some start) ts ≡ Some s → Goes (step s t) next (Ok b) → b ≡ false → steps (Some start) (ts ++ t ∷ []) ≡ None
none_with ts s next t false h g e = steps-append (Some start) ts (t ∷ []) ∙ ap (λ (o : Option State). steps o (t ∷ [])) h ∙ g
none_with ts s next t true h g e = cc

-- the token behind so many of a list that were taken
record IsNext (all left : List Token) (n : ℕ) (t : Token) : Type 0 where
  pub within : n < length all
  pub taken : take (n + 1) all ≡ take n all ++ t ∷ []
  pub left_is : left ≡ drop (n + 1) all

is_next : (all left : List Token) (n : ℕ) (t : Token) → t ∷ left ≡ drop n all → IsNext all left n t
is_next all left n t here =
    let within : n < length all = omega (arith, ap length here, length-drop n all) in
    let both : t ∷ left ≡ get_or all n t ∷ drop (suc n) all = here ∙ drop-cons all n t within in
    let same : t ≡ get_or all n t = cc in
    let behind : left ≡ drop (suc n) all = cc in
    record {
      within = within;
      taken = take_more all n t within ∙ ap (λ (u : Token). take n all ++ u ∷ []) (sym same);
      left_is = rw add-one behind;
    }

goes_behind : (g : List Form) (s next : State) (t : Token) (b : Bool) → Goes (step s t) next (Ok b) → Goes (step (behind_forms g s) t) (behind_forms g next) (Ok b)
goes_behind g s next t true h = step_behind g s t ∙ ap (behind_next g) h
goes_behind g s next t false h = step_behind g s t ∙ ap (behind_next g) h

-- before the first token
pub before_first : (tokens : List Token) (p : Parser) → state_of p.reader ≡ start → p.rest ≡ tokens → p.taken ≡ 0 → p.is_whole ≡ false → length tokens < 2 ^ 32 → HasHandedOut tokens [] p
before_first tokens p is rest none going few =
    let at : take p.taken tokens ≡ [] = ap (λ (n : ℕ). take n tokens) none in
    let left : drop p.taken tokens ≡ tokens = ap (λ (n : ℕ). drop n tokens) none in
    subst (λ (b : Bool). HandedBy b tokens [] p) (sym going)
    (record {
      so_far = ap (steps (Some start)) at ∙ ap Some (sym is);
      left = rest ∙ sym left;
      within = omega (arith, none);
      few = few;
    })

-- one more token is taken
pub takes_one :
    (tokens : List Token) (before : List Form) (p q : Parser) (t : Token) (b : Bool) → p.rest ≡ t ∷ q.rest → q.taken ≡ p.taken + 1 → Goes (step (state_of p.reader) t) (state_of q.reader) (Ok b) → b ≡ true →
    IsTaking tokens before p → IsTaking tokens before q
takes_one tokens before p q t b rest more goes is h =
    let i = is_next tokens q.rest p.taken t (sym rest ∙ h.left) in
    let taken : take q.taken tokens ≡ take p.taken tokens ++ t ∷ [] = ap (λ (n : ℕ). take n tokens) more ∙ i.taken in
    record {
      so_far =
          ap (steps (Some start)) taken
          ∙ one_more (take p.taken tokens) (behind_forms before (state_of p.reader)) (behind_forms before (state_of q.reader)) t b h.so_far (goes_behind before (state_of p.reader) (state_of q.reader) t b goes) is;
      left = i.left_is ∙ sym (ap (λ (n : ℕ). drop n tokens) more);
      within = let w = i.within in omega (arith, w, more);
      few = h.few;
    }

-- so many tokens can be counted
pub may_count : (tokens : List Token) (before : List Form) (p : Parser) (t : Token) (left : List Token) → p.rest ≡ t ∷ left → IsTaking tokens before p → p.taken + 1 < 2 ^ 32
may_count tokens before p t left rest h = let w = (is_next tokens left p.taken t (sym rest ∙ h.left)).within in let few = h.few in omega (arith, w, few)

-- no tree goes on with this token
pub stops :
    (tokens : List Token) (before : List Form) (p : Parser) (left : List Token) (next : State) (t : Token) (b : Bool) (f : ParseFault) → p.rest ≡ t ∷ left → Goes (step (state_of p.reader) t) next (Ok b) → b ≡ false → IsSyntax p.taken Other f →
    IsTaking tokens before p → Parses tokens (Err f)
stops tokens before p left next t b f rest goes is fault h =
    let n = p.taken in
    let s = behind_forms before (state_of p.reader) in
    let i = is_next tokens left n t (sym rest ∙ h.left) in
    fault_parses tokens n f (refused_at tokens n s i.within h.so_far (ap (steps (Some start)) i.taken ∙ none_with (take n tokens) s (behind_forms before next) t b h.so_far (goes_behind before (state_of p.reader) next t b goes) is)) i.within fault

-- where an effect is open, it is read as far as its tokens
pub taking_read : (tokens : List Token) (before : List Form) (p : Parser) → IsTaking tokens before p → IsRead (open_of p.reader.at p.reader)
taking_read tokens before p h = is_read (take p.taken tokens) (behind_forms before (state_of p.reader)) h.so_far

-- what a `?` returns is the fault of its call
pub passed_on : (tokens : List Token) (before : List Form) (p : Parser) (r : Result Unit ParseFault) (fault : ParseFault) → IsErrAnd r (λ other. other ≡ fault) → Parses tokens (Err fault) → TakesMore tokens before p r
passed_on tokens before p (Ok done) fault h k = absurd h
passed_on tokens before p (Err other) fault h k = subst (λ (f : ParseFault). Parses tokens (Err f)) (sym h) k

-- Forms that are handed out.

-- what is open doesn't hang on the forms that are whole
pub open_kept : (a : At) (r : Reader) (fs : List Form) → open_of a (record r { forms = fs }) ≡ open_of a r
open_kept at.Top r fs = refl
open_kept (at.Name head k) r fs = refl
open_kept (at.Names head k) r fs = refl
open_kept (at.Slots head) r fs = refl
open_kept (at.Parent head sign) r fs = refl
open_kept (at.Fixed head key) r fs = refl
open_kept (at.Effect head k) r fs = refl
open_kept (at.Items head k) r fs = refl
open_kept (at.Literal head) r fs = refl
open_kept (at.Marks head k) r fs = refl

are_forms : (fs : List Form) → IsWellFormed fs → AreForms fs
are_forms [] h = tt
are_forms (f ∷ fs) h = (h.0, are_forms fs h.2)

pub forms_behind : (fs gs : List Form) → IsWellFormed (fs ++ gs) → AreForms gs
forms_behind [] gs h = are_forms gs h
forms_behind (f ∷ fs) gs h = forms_behind fs gs h.2

-- the forms of a state, which are whole, are handed out
pub hands_out :
    (tokens : List Token) (before forms : List Form) (p q : Parser) → forms ≡ p.reader.forms → state_of q.reader ≡ in_state [] (open_of p.reader.at p.reader) → q.rest ≡ p.rest → q.taken ≡ p.taken →
    IsTaking tokens before p → AreForms forms × IsTaking tokens (before ++ forms) q
hands_out tokens before forms p q is state rest taken h =
    let fits = whole_forms (take p.taken tokens) (behind_forms before (state_of p.reader)) h.so_far in
    let whole : before ++ p.reader.forms ≡ (before ++ forms) ++ [] = sym (append-nil (before ++ p.reader.forms)) ∙ ap (λ (fs : List Form). (before ++ fs) ++ []) (sym is) in (
      forms_behind before forms (subst (λ (fs : List Form). IsWellFormed (before ++ fs)) (sym is) fits),
      record {
        so_far =
            ap (λ (n : ℕ). steps (Some start) (take n tokens)) taken
            ∙ h.so_far
            ∙ ap (λ (fs : List Form). Some (in_state fs (open_of p.reader.at p.reader))) whole
            ∙ ap (λ (s : State). Some (behind_forms (before ++ forms) s)) (sym state);
        left = rest ∙ h.left ∙ ap (λ (n : ℕ). drop n tokens) (sym taken);
        within = let w = h.within in omega (arith, w, taken);
        few = h.few;
      },
    )

all_taken : (tokens : List Token) (n : ℕ) → [] ≡ drop n tokens → take n tokens ≡ tokens
all_taken tokens n none = sym (append-nil (take n tokens)) ∙ ap (λ (ts : List Token). take n tokens ++ ts) none ∙ take-append-drop n tokens

all_counted : (tokens : List Token) (n : ℕ) → n ≤ length tokens → [] ≡ drop n tokens → n ≡ length tokens
all_counted tokens n within none = let e = ap length none in let d = length-drop n tokens in omega (arith, within, e, d)

-- all tokens are taken, and the last forms are whole
pub ends_whole :
    (tokens : List Token) (before forms : List Form) (p : Parser) → p.rest ≡ [] → ended (state_of p.reader) ≡ Some forms → IsTaking tokens before p → AreForms forms × Reads tokens (before ++ forms)
ends_whole tokens before forms p rest e h =
    let s = behind_forms before (state_of p.reader) in
    let whole = all_taken tokens p.taken (sym rest ∙ h.left) in
    let reads = reads_tree tokens s (before ++ forms) (ap (steps (Some start)) (sym whole) ∙ h.so_far) (ended_behind before (state_of p.reader) ∙ ap (behind_ended before) e) in
    (forms_behind before forms reads.fits, reads)

end_parses : (tokens : List Token) (n : ℕ) (f : ParseFault) → Refused tokens (length tokens) → n ≡ length tokens → IsSyntax n End f → Parses tokens (Err f)
end_parses tokens n (Syntax at End) r count e = (length tokens, e.0 ∙ ap (λ (k : ℕ). k + 1) count, (r, refl))
end_parses tokens n (Syntax at Other) r count e = let d = e.1 in cc
end_parses tokens n Memory r count e = tt

-- or something is open
pub ends_open : (tokens : List Token) (before : List Form) (p : Parser) (f : ParseFault) → p.rest ≡ [] → ended (state_of p.reader) ≡ None → IsSyntax p.taken End f → IsTaking tokens before p → Parses tokens (Err f)
ends_open tokens before p f rest e fault h =
    let s = behind_forms before (state_of p.reader) in
    let none = sym rest ∙ h.left in
    let whole = all_taken tokens p.taken none in
    end_parses tokens p.taken f (refused_end tokens s (ap (steps (Some start)) (sym whole) ∙ h.so_far) (ended_behind before (state_of p.reader) ∙ ap (behind_ended before) e)) (all_counted tokens p.taken h.within none) fault

-- Laws.

pub one_tree : OneTree
one_tree fs gs h k e = exact.one_tree (flatten gs) fs gs (record { fits = h; spelled = e }) (record { fits = k; spelled = refl })

abbrev Judged : List Token → Type 0
Judged ts = ((forms : List Form) × Reads ts forms) ⊎ ((at : ℕ) × (why : Why) × Misses ts at why)

judged_end : (ts : List Token) (s : State) (o : Option (List Form)) → steps (Some start) ts ≡ Some s → ended s ≡ o → Judged ts
judged_end ts s (Some forms) h e = inl (forms, reads_tree ts s forms h e)
judged_end ts s None h e = inr (length ts + 1, End, (length ts, refl, (refused_end ts s h e, refl)))

take_before : (xs ys : List Token) → take (length xs) (xs ++ ys) ≡ xs
take_before [] ys = refl
take_before (x ∷ xs) ys = ap (λ (ts : List Token). x ∷ ts) (take_before xs ys)

take_with : (xs ys : List Token) (y : Token) → take (length xs + 1) (xs ++ y ∷ ys) ≡ xs ++ y ∷ []
take_with xs ys y =
    let pushed : length xs + 1 ≡ length (xs ++ y ∷ []) = let p = length_push xs y in omega (arith, p) in
    ap (λ (n : ℕ). take n (xs ++ y ∷ ys)) pushed ∙ ap (take (length (xs ++ y ∷ []))) (sym (append_assoc xs (y ∷ []) ys)) ∙ take_before (xs ++ y ∷ []) ys

fewer : (xs ys : List Token) (y : Token) → length xs < length (xs ++ y ∷ ys)
fewer xs ys y = let both = length-append xs (y ∷ ys) in omega (arith, both)

-- a token that goes on or not
judged_at : (before rest : List Token) (s : State) (t : Token) (o : Option State) → steps (Some start) before ≡ Some s → step s t ≡ o → ((next : State) → steps (Some start) (before ++ t ∷ []) ≡ Some next → Judged ((before ++ t ∷ []) ++ rest)) → Judged (before ++ t ∷ rest)
judged_at before rest s t None h e later =
    let n = length before in
    let all = before ++ t ∷ rest in
    let first = ap (steps (Some start)) (take_before before (t ∷ rest)) ∙ h in
    let none = ap (steps (Some start)) (take_with before rest t) ∙ none_with before s s t false h e refl in
    inr (n + 1, Other, (n, refl, (refused_at all n s (fewer before rest t) first none, fewer before rest t)))
judged_at before rest s t (Some next) h e later = subst Judged (append_assoc before (t ∷ []) rest) (later next (one_more before s next t true h e refl))

judged_from : (before rest : List Token) (s : State) → steps (Some start) before ≡ Some s → Judged (before ++ rest)
judged_from before [] s h = subst Judged (sym (append-nil before)) (judged_end before s (ended s) h refl)
judged_from before (t ∷ rest) s h = judged_at before rest s t (step s t) h refl (λ next k. judged_from (before ++ t ∷ []) rest next k)

judged : (ts : List Token) → Judged ts
judged ts = judged_from [] ts start refl

refused_for : (ts : List Token) (n : ℕ) (why : Why) → RefusedFor ts n why → Refused ts n
refused_for ts n End r = r.0
refused_for ts n Other r = r.0

or_none : (ts : List Token) → Judged ts → ((forms : List Form) × Reads ts forms) ⊎ ((forms : List Form) → Reads ts forms → ⊥)
or_none ts (inl read) = inl read
or_none ts (inr missed) = inr (refused_for ts missed.2.0 missed.1 missed.2.2).no_tree

pub tree_or_none : TreeOrNone
tree_or_none ts = or_none ts (judged ts)

not_less : (n m : ℕ) → nat_lt n m ≡ false → m ≤ n
not_less n m h = grind arith

only_longer : (ts : List Token) (n m : ℕ) (b : Bool) → Refused ts n → Refused ts m → nat_lt n m ≡ b → m ≤ n
only_longer ts n m true r q e = absurd (r.longest m ((Decides-ltb n m).0 e) q.within q.begins)
only_longer ts n m false r q e = not_less n m e

same_length : (ts : List Token) (n m : ℕ) → Refused ts n → Refused ts m → n ≡ m
same_length ts n m r q =
    let a = only_longer ts n m (nat_lt n m) r q refl in
    let b = only_longer ts m n (nat_lt m n) q r refl in
    omega (arith, a, b)

same_why : (ts : List Token) (n m : ℕ) (why reason : Why) → n ≡ m → RefusedFor ts n why → RefusedFor ts m reason → why ≡ reason
same_why ts n m End End e r q = refl
same_why ts n m Other Other e r q = refl
same_why ts n m End Other e r q = let a = r.1 in let b = q.1 in absurd (omega (arith, e, a, b))
same_why ts n m Other End e r q = let a = r.1 in let b = q.1 in absurd (omega (arith, e, a, b))

pub one_place : OnePlace
one_place ts at other why reason r q =
    let same = same_length ts r.0 q.0 (refused_for ts r.0 why r.2) (refused_for ts q.0 reason q.2) in
    (r.1 ∙ ap (λ (n : ℕ). n + 1) same ∙ sym q.1, same_why ts r.0 q.0 why reason same r.2 q.2)

at_some_place : (ts : List Token) → Judged ts → ((forms : List Form) → Reads ts forms → ⊥) → (at : ℕ) × (why : Why) × Misses ts at why
at_some_place ts (inl read) none = absurd (none read.0 read.1)
at_some_place ts (inr missed) none = missed

pub some_place : SomePlace
some_place ts none = at_some_place ts (judged ts) none
