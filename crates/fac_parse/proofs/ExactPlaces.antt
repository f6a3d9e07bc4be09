-- What is read is a tree's tokens, and nothing else is refused, at the exact place.
use Rattle.fac_parse.specs.inner.Reader.{Half, no_half, binding, heading, wrapping, calling, literal, name, names, tuple_slots, tuple_parent, fixed, effect, items, marks, Open, top, row, row_form, more, with_run, State, start, steps, ended, ended_open, IsHalfRead, IsRead}
use Rattle.std.proofs.Common.{ℕ, ◌≡◌, ◌+◌, ◌<◌, ◌≤◌, List, [], ◌∷◌, ◌++◌, Option, Some, None, refl, sym, ◌∙◌, ap, subst, append_assoc, append-nil, arith, take, drop, length}
use Rattle.std.proofs.lemmas.List.{take-append-drop, take-take, take_all}
use Rattle.fac_source.specs.declared.token.Token.{Token}
use Rattle.fac_source.specs.declared.tree.Element.{Element}
use Rattle.fac_source.specs.declared.tree.Element.TheVariants as element
use Rattle.fac_source.specs.declared.tree.Part.TheVariants as part
use Rattle.fac_parse.specs.declared.context.Context.{Context}
use Rattle.fac_source.specs.declared.tree.Form.{Form}
use Rattle.fac_parse.specs.Trees.{items_tokens, flatten, IsWellFormed, Reads, Begins, Refused}
use Rattle.fac_parse.proofs.StateTokens.{state_tokens, tokens_of, run_fits, run_tokens, GoodHalf, BeginsLiteral, GoodLiteral, GoodOpen, Good}
use Rattle.fac_parse.proofs.ReaderKeeps.{Known, steps_known, start_good, marked_gone, marked_tokens}
use Rattle.fac_parse.proofs.ReaderReads.{steps-append, tree_read}
use Rattle.fac_parse.proofs.ReaderCompletes.{completes}

-- what the tokens so far make, where they may end
record Ended (forms : List Form) (tokens : List Token) : Type 0 where
  fits : IsWellFormed forms
  spelled : flatten forms ≡ tokens

is_ended : (fs forms : List Form) (tokens : List Token) → Some fs ≡ Some forms → Ended fs tokens → Ended forms tokens
is_ended fs forms tokens e h = let same : fs ≡ forms = cc in subst (λ (x : List Form). Ended x tokens) same h

open_ended : (before : List Form) (o : Open) (forms : List Form) → IsWellFormed before → GoodOpen before o → ended_open before o ≡ Some forms → Ended forms (tokens_of before o)
open_ended before (top es (c ∷ []) no_half) forms fits g e =
    is_ended (with_run before es) forms _ e (record { fits = run_fits before es fits g.2 (c, g.0); spelled = run_tokens before es ∙ ap (λ (ts : List Token). flatten before ++ ts) (sym (append-nil (items_tokens es))) })
open_ended before (top es (c ∷ []) (binding sign)) forms fits g e = cc
open_ended before (top es (c ∷ []) (heading opens ns)) forms fits g e = cc
open_ended before (top es (c ∷ []) (wrapping sign)) forms fits g e = cc
open_ended before (top es (c ∷ []) (calling callee sign ts r)) forms fits g e = cc
open_ended before (top es [] h) forms fits g e = cc
open_ended before (top es (c ∷ d ∷ contexts) h) forms fits g e = cc
open_ended before (row b (marks k ms)) forms fits g e =
    is_ended (before ++ row_form (more b (part.Marks ms)) ∷ []) forms _ e (record {
      fits = (marked_gone before b k ms fits g).good.fits;
      spelled = sym (append-nil (flatten (before ++ row_form (more b (part.Marks ms)) ∷ []))) ∙ marked_tokens before b k ms fits g;
    })
open_ended before (row b (name k)) forms fits g e = cc
open_ended before (row b (names k ns)) forms fits g e = cc
open_ended before (row b (tuple_slots p ns)) forms fits g e = cc
open_ended before (row b (tuple_parent place)) forms fits g e = cc
open_ended before (row b (fixed key)) forms fits g e = cc
open_ended before (row b (effect k ts r)) forms fits g e = cc
open_ended before (row b (items k es contexts h)) forms fits g e = cc
open_ended before (row b (literal es contexts h)) forms fits g e = cc

known : (ts : List Token) (s : State) → steps (Some start) ts ≡ Some s → Good s × (state_tokens s ≡ ts)
known ts s h = subst (λ (o : Option State). Known o ts) h (steps_known (Some start) ts [] (start_good, refl))

half_read : (contexts : List Context) (h : Half) → GoodHalf contexts h → IsHalfRead h
half_read contexts no_half g = tt
half_read contexts (binding sign) g = tt
half_read contexts (heading opens ns) g = tt
half_read contexts (wrapping sign) g = tt
half_read contexts (calling callee sign ts r) g = g.0

first_read : (h : Half) → BeginsLiteral h → IsHalfRead h
first_read no_half g = tt
first_read (wrapping sign) g = tt
first_read (binding sign) g = absurd g
first_read (heading opens ns) g = absurd g
first_read (calling callee sign ts r) g = absurd g

literal_read : (es : List Element) (contexts : List Context) (h : Half) → GoodLiteral es contexts h → IsHalfRead h
literal_read [] contexts h g = first_read h g.1
literal_read (element.Opens bracket place ∷ es) contexts h g = half_read contexts h g.2
literal_read (element.Item item ∷ es) contexts h g = absurd g
literal_read (element.OpensLocals opens ns bar ∷ es) contexts h g = absurd g
literal_read (element.Closes bracket place ∷ es) contexts h g = absurd g

open_read : (forms : List Form) (o : Open) → GoodOpen forms o → IsRead o
open_read forms (row b (effect k ts r)) g = g.within.0
open_read forms (row b (name k)) g = tt
open_read forms (row b (names k ns)) g = tt
open_read forms (row b (tuple_slots p ns)) g = tt
open_read forms (row b (tuple_parent place)) g = tt
open_read forms (row b (fixed key)) g = tt
open_read forms (row b (items k es contexts h)) g = half_read contexts h g.within.1
open_read forms (row b (literal es contexts h)) g = literal_read es contexts h g.within
open_read forms (row b (marks k ms)) g = tt
open_read forms (top es contexts h) g = half_read contexts h g.1

-- an effect that is open is read as far as its tokens
pub is_read : (ts : List Token) (s : State) → steps (Some start) ts ≡ Some s → IsRead s.open_part
is_read ts s h = open_read s.forms s.open_part (known ts s h).0.opens

-- the forms so far are whole
pub whole_forms : (ts : List Token) (s : State) → steps (Some start) ts ≡ Some s → IsWellFormed s.forms
whole_forms ts s h = (known ts s h).0.fits

-- tokens that may end where they do are those of a tree
pub reads_tree : (ts : List Token) (s : State) (forms : List Form) → steps (Some start) ts ≡ Some s → ended s ≡ Some forms → Reads ts forms
reads_tree ts s forms h e =
    let k = known ts s h in
    let made = open_ended s.forms s.open_part forms k.0.fits k.0.opens e in
    record { fits = made.fits; spelled = made.spelled ∙ k.1 }

-- no two trees have the same tokens
pub one_tree : (ts : List Token) (fs gs : List Form) → Reads ts fs → Reads ts gs → fs ≡ gs
one_tree ts fs gs r q =
    let a = tree_read ts fs r in
    let b = tree_read ts gs q in
    let to : Some a.to ≡ Some b.to = sym a.reads ∙ b.reads in
    let same : a.to ≡ b.to = cc in
    let whole : Some fs ≡ Some gs = sym a.whole ∙ ap ended same ∙ b.whole in
    cc

-- what is read so far begins some tree
pub begins : (ts : List Token) (s : State) → steps (Some start) ts ≡ Some s → Begins ts
begins ts s h =
    let c = completes s (known ts s h).0 in
    let r : steps (Some start) (ts ++ c.tokens) ≡ Some c.to = steps-append (Some start) ts c.tokens ∙ (ap (λ (x : Option State). steps x c.tokens) h ∙ c.reads) in
    record { forms = c.forms; rest = c.tokens; reads = reads_tree (ts ++ c.tokens) c.to c.forms r c.whole }

none_goes_on : (o : Option State) (ts : List Token) (s : State) → steps o ts ≡ Some s → o ≡ None → ⊥
none_goes_on o [] s h e = cc
none_goes_on o (t ∷ ts) s h e = let d = ap (λ (x : Option State). steps x (t ∷ ts)) e in cc

-- where no token goes on, no tree begins so
pub begins_not : (ts : List Token) → steps (Some start) ts ≡ None → Begins ts → ⊥
begins_not ts h b =
    let r = tree_read (ts ++ b.rest) b.forms b.reads in
    none_goes_on (steps (Some start) ts) b.rest r.to (sym (steps-append (Some start) ts b.rest) ∙ r.reads) h

begins_shorter : (xs ys : List Token) → Begins (xs ++ ys) → Begins xs
begins_shorter xs ys b = record { forms = b.forms; rest = ys ++ b.rest; reads = subst (λ (x : List Token). Reads x b.forms) (append_assoc xs ys b.rest) b.reads }

begins_take : (ts : List Token) (n m : ℕ) → n ≤ m → Begins (take m ts) → Begins (take n ts)
begins_take ts n m h b =
    let e : take n ts ++ drop n (take m ts) ≡ take m ts = ap (λ (x : List Token). x ++ drop n (take m ts)) (sym (take-take n m ts h)) ∙ take-append-drop n (take m ts) in
    begins_shorter (take n ts) (drop n (take m ts)) (subst Begins (sym e) b)

-- the tokens before the one that no tree goes on with
pub refused_at : (ts : List Token) (n : ℕ) (s : State) → n < length ts → steps (Some start) (take n ts) ≡ Some s → steps (Some start) (take (n + 1) ts) ≡ None → Refused ts n
refused_at ts n s h e none_after = record {
  no_tree = λ forms r. begins_not (take (n + 1) ts) none_after (record { forms = forms; rest = drop (n + 1) ts; reads = subst (λ (x : List Token). Reads x forms) (sym (take-append-drop (n + 1) ts)) r });
  within = omega arith;
  begins = begins (take n ts) s e;
  longest = λ m p q b. begins_not (take (n + 1) ts) none_after (begins_take ts (n + 1) m (omega arith) b);
}

not_ended : (ts : List Token) (s : State) (forms : List Form) → steps (Some start) ts ≡ Some s → ended s ≡ None → Reads ts forms → ⊥
not_ended ts s forms e h r =
    let a = tree_read ts forms r in
    let to : Some s ≡ Some a.to = sym e ∙ a.reads in
    let same : s ≡ a.to = cc in
    let both : None ≡ Some forms = sym h ∙ ap ended same ∙ a.whole in
    cc

-- the tokens are all read, and something is open
pub refused_end : (ts : List Token) (s : State) → steps (Some start) ts ≡ Some s → ended s ≡ None → Refused ts (length ts)
refused_end ts s e h = record {
  no_tree = λ forms r. not_ended ts s forms e h r;
  within = omega arith;
  begins = subst Begins (sym (take_all (length ts) ts (omega arith))) (begins ts s e);
  longest = λ m p q b. absurd (omega arith);
}
