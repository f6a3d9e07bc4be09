-- The words that each word of a program leads to, from its closed form.
use Rattle.std.proofs.Common.{◌≡◌, ℕ, suc, List, [], ◌∷◌, ◌++◌, Bool, true, false, refl, sym, ap, ◌∙◌, append_assoc, subst}
use Rattle.std.specs.Prelude.{nat_eq, ◌||◌, Result, Ok, Err, IfOk}
use Rattle.std.proofs.lemmas.List.{append-nil}
use Rattle.fac_graph.specs.Paths.{one_of}
use Rattle.fac_graph.proofs.NumberLists.{same_number}
use Rattle.fac_lang.specs.Phrases.{Phrase}
use Rattle.fac_lang.specs.declared.phrase.Template.{Template}
use Rattle.fac_lang.specs.declared.program.Program.{Program}
use Rattle.fac_lang.specs.declared.program.WordDef.{WordDef}
use Rattle.fac_lang.specs.declared.program.Sort.{Sort}
use Rattle.fac_lang.specs.declared.program.Sort.TheVariants.{Prim as prim, Core as core, Body as body, Past as past, Itself as itself, Class as class, Isa as isa, Getter as getter, Setter as setter, Putter as putter, Generic as generic, Method as method}
use Rattle.fac_locals.specs.Literals.{first_of_word}
use Rattle.fac_locals.specs.Closed.{Closes, CloseWords, ClosesWord, ClosesSort, ClosesPhrase}
use Rattle.fac_check.specs.Verdicts.{inline_words, without}
use Rattle.fac_check.specs.inner.UndeclaredRecursion.{kept_unless, left_out, phrase_edges, sort_edges, word_edges, edges_from, SameNumbers, SameEdges, AddsNames, LedByPhrase, LedBy}

-- what follows from a call's fact
pub if_ok : {T E : Type 0} (A B : T → Type 0) (r : Result T E) → ((x : T) → A x → B x) → IfOk r A → IfOk r B
if_ok A B (Ok x) f h = f x h
if_ok A B (Err x) f h = tt

kept_same : (b : Bool) (v : ℕ) (vs : List ℕ) → kept_unless b v vs ≡ elim b [ true ↦ vs | false ↦ v ∷ vs ]
kept_same true v vs = refl
kept_same false v vs = refl

left_out_same : (P : Program) (w : ℕ) (vs : List ℕ) → left_out w vs ≡ without P w vs
left_out_same P w [] = refl
left_out_same P w (v ∷ vs) = ap (kept_unless (nat_eq w v) v) (left_out_same P w vs) ∙ kept_same (nat_eq w v) v (without P w vs)

left_gone_by : (b : Bool) (w u : ℕ) (us : List ℕ) → nat_eq w u ≡ b → one_of w us ≡ false → one_of w (kept_unless b u us) ≡ false
left_gone_by true w u us e f = f
left_gone_by false w u us e f = ap (λ (c : Bool). c || one_of w us) e ∙ f

left_gone : (w : ℕ) (vs : List ℕ) → one_of w (left_out w vs) ≡ false
left_gone w [] = refl
left_gone w (u ∷ vs) = left_gone_by (nat_eq w u) w u (left_out w vs) refl (left_gone w vs)

left_kept_by : (b : Bool) (w v u : ℕ) (us vs : List ℕ) → nat_eq w u ≡ b → nat_eq v w ≡ false → one_of v us ≡ one_of v vs → one_of v (kept_unless b u us) ≡ (nat_eq v u || one_of v vs)
left_kept_by true w v u us vs e other f = f ∙ sym (ap (λ (c : Bool). c || one_of v vs) (ap (nat_eq v) (sym (same_number w u e)) ∙ other))
left_kept_by false w v u us vs e other f = ap (λ (c : Bool). nat_eq v u || c) f

left_kept : (w v : ℕ) (vs : List ℕ) → nat_eq v w ≡ false → one_of v (left_out w vs) ≡ one_of v vs
left_kept w v [] other = refl
left_kept w v (u ∷ vs) other = left_kept_by (nat_eq w u) w v u (left_out w vs) vs refl other (left_kept w v vs other)

same_left_by : (b : Bool) (w v : ℕ) (vs ws : List ℕ) → nat_eq v w ≡ b → SameNumbers vs ws → one_of v (left_out w vs) ≡ one_of v (left_out w ws)
same_left_by true w v vs ws e same = rw (same_number v w e, left_gone w vs, left_gone w ws) refl
same_left_by false w v vs ws e same = left_kept w v vs e ∙ same v ∙ sym (left_kept w v ws e)

same_left : (w : ℕ) (vs ws : List ℕ) → SameNumbers vs ws → SameNumbers (left_out w vs) (left_out w ws)
same_left w vs ws same v = same_left_by (nat_eq v w) w v vs ws refl same

named_phrase : (C : Program) (ts : List Template) (w : ℕ) (phrase : Phrase) (none named : List ℕ) → none ≡ [] → AddsNames C ts phrase none named → (P : Program) → Closes P C ts → (t : Phrase) → ClosesPhrase P [] (first_of_word w) t phrase → SameNumbers named (inline_words P t)
named_phrase C ts w phrase none named is_none adds P h t closes v = adds P h [] (first_of_word w) t closes v ∙ ap (λ (vs : List ℕ). one_of v (vs ++ inline_words P t)) is_none

-- a word that is marked recursive
pub led_recursive : (C : Program) (ts : List Template) (w : ℕ) (r : Bool) (phrase : Phrase) (none named left : List ℕ) → r ≡ true → none ≡ [] → AddsNames C ts phrase none named → left ≡ left_out w named → LedByPhrase C ts w r phrase left
led_recursive C ts w r phrase none named left marked is_none adds is =
    λ P h t closes v. ap (one_of v) is ∙ same_left w named (inline_words P t) (named_phrase C ts w phrase none named is_none adds P h t closes) v ∙ ap (one_of v) (left_out_same P w (inline_words P t) ∙ sym (ap (λ (b : Bool). phrase_edges P w b t) marked))

-- one that isn't
pub led_plainly : (C : Program) (ts : List Template) (w : ℕ) (r : Bool) (phrase : Phrase) (none named : List ℕ) → r ≡ false → none ≡ [] → AddsNames C ts phrase none named → LedByPhrase C ts w r phrase named
led_plainly C ts w r phrase none named unmarked is_none adds =
    λ P h t closes v. named_phrase C ts w phrase none named is_none adds P h t closes v ∙ ap (one_of v) (sym (ap (λ (b : Bool). phrase_edges P w b t) unmarked))

sort_led : (P : Program) (w : ℕ) (r : Bool) (s c : Sort) (phrase : Phrase) (vs : List ℕ) → ClosesSort P w s c → c ≡ body phrase → ((t : Phrase) → ClosesPhrase P [] (first_of_word w) t phrase → SameNumbers vs (phrase_edges P w r t)) → SameNumbers vs (sort_edges P w true r s)
sort_led P w r (body t) c phrase vs h is led =
    let e : body h.0 ≡ body phrase = sym h.1 ∙ is in
    let same : h.0 ≡ phrase = cc in
    led t (subst (λ (u : Phrase). ClosesPhrase P [] (first_of_word w) t u) same h.2)
sort_led P w r (past t) c phrase vs h is led =
    let e : past h.0 ≡ body phrase = sym h.1 ∙ is in
    absurd cc
sort_led P w r (method n g t) c phrase vs h is led =
    let e : method n g h.0 ≡ body phrase = sym h.1 ∙ is in
    absurd cc
sort_led P w r (prim k) c phrase vs h is led = absurd cc
sort_led P w r (core k) c phrase vs h is led = absurd cc
sort_led P w r itself c phrase vs h is led = absurd cc
sort_led P w r (class k) c phrase vs h is led = absurd cc
sort_led P w r (isa k) c phrase vs h is led = absurd cc
sort_led P w r (getter x) c phrase vs h is led = absurd cc
sort_led P w r (setter x) c phrase vs h is led = absurd cc
sort_led P w r (putter x) c phrase vs h is led = absurd cc
sort_led P w r generic c phrase vs h is led = absurd cc

-- an inline word with a phrase
pub led_inline : (C : Program) (ts : List Template) (w : ℕ) (c : WordDef) (phrase : Phrase) (vs : List ℕ) → c.sort ≡ body phrase → c.inline ≡ true → LedByPhrase C ts w c.recursive phrase vs → LedBy C ts w c vs
led_inline C ts w c phrase vs is inline led =
    λ P h d closes v. sort_led P w c.recursive d.sort c.sort phrase vs closes.sort is (led P h) v ∙ ap (one_of v) (ap (λ (b : Bool). sort_edges P w b c.recursive d.sort) (sym inline ∙ closes.inline) ∙ ap (λ (b : Bool). sort_edges P w d.inline b d.sort) closes.recursive)

no_edges : (P : Program) (w : ℕ) (r : Bool) (s : Sort) → [] ≡ sort_edges P w false r s
no_edges P w r (body t) = refl
no_edges P w r (past t) = refl
no_edges P w r (method n g t) = refl
no_edges P w r (prim k) = refl
no_edges P w r (core k) = refl
no_edges P w r itself = refl
no_edges P w r (class k) = refl
no_edges P w r (isa k) = refl
no_edges P w r (getter x) = refl
no_edges P w r (setter x) = refl
no_edges P w r (putter x) = refl
no_edges P w r generic = refl

-- a word that isn't inline
pub led_ordinary : (C : Program) (ts : List Template) (w : ℕ) (c : WordDef) → c.inline ≡ false → LedBy C ts w c []
led_ordinary C ts w c inline = λ P h d closes v. ap (one_of v) (no_edges P w d.recursive d.sort ∙ ap (λ (b : Bool). sort_edges P w b d.recursive d.sort) (sym inline ∙ closes.inline))

sort_other : (P : Program) (w : ℕ) (i r : Bool) (s c : Sort) → ClosesSort P w s c → ((t : Phrase) → c ≡ body t → ⊥) → [] ≡ sort_edges P w i r s
sort_other P w i r (body t) c h none = absurd (none h.0 h.1)
sort_other P w i r (past t) c h none = refl
sort_other P w i r (method n g t) c h none = refl
sort_other P w i r (prim k) c h none = refl
sort_other P w i r (core k) c h none = refl
sort_other P w i r itself c h none = refl
sort_other P w i r (class k) c h none = refl
sort_other P w i r (isa k) c h none = refl
sort_other P w i r (getter x) c h none = refl
sort_other P w i r (setter x) c h none = refl
sort_other P w i r (putter x) c h none = refl
sort_other P w i r generic c h none = refl

-- one without a body
pub led_other : (C : Program) (ts : List Template) (w : ℕ) (c : WordDef) → ((t : Phrase) → c.sort ≡ body t → ⊥) → LedBy C ts w c []
led_other C ts w c none = λ P h d closes v. ap (one_of v) (sort_other P w d.inline d.recursive d.sort c.sort closes.sort none)

one_edge_more : (vss wss : List (List ℕ)) (vs ws : List ℕ) → SameEdges vss wss → SameNumbers vs ws → SameEdges (vss ++ vs ∷ []) (wss ++ ws ∷ [])
one_edge_more [] [] vs ws e f = (f, tt)
one_edge_more [] (us ∷ wss) vs ws e f = absurd e
one_edge_more (us ∷ vss) [] vs ws e f = absurd e
one_edge_more (us ∷ vss) (xs ∷ wss) vs ws e f = (e.0, one_edge_more vss wss vs ws e.1 f)

-- The words that are left, for those that are left of the closed program.
pub record EdgesLeft (P : Program) (w : ℕ) (left : List WordDef) (edges : List (List ℕ)) : Type 0 where
  pub words : List WordDef
  pub close : CloseWords P w words left
  pub led : List (List ℕ)
  pub so_far : edges_from P 0 P.words ≡ led ++ edges_from P w words
  pub same : SameEdges edges led

pub edges_begin : (P C : Program) (ts : List Template) → Closes P C ts → EdgesLeft P 0 C.words []
edges_begin P C ts h = record { words = P.words; close = h.words; led = []; so_far = refl; same = tt }

edges_next : (P C : Program) (ts : List Template) (h : Closes P C ts) (w v : ℕ) (words : List WordDef) (c : WordDef) (rest : List WordDef) (before edges after : List (List ℕ)) (vs : List ℕ) → CloseWords P w words (c ∷ rest) → edges_from P 0 P.words ≡ before ++ edges_from P w words → SameEdges edges before → v ≡ suc w → LedBy C ts w c vs → after ≡ edges ++ vs ∷ [] → EdgesLeft P v rest after
edges_next P C ts h w v [] c rest before edges after vs close so_far same next led is = absurd cc
edges_next P C ts h w v (d ∷ ds) c rest before edges after vs close so_far same next led is =
    let same_word : close.0 ≡ c = cc in
    let same_rest : close.1 ≡ rest = cc in
    let led_is : SameNumbers vs (word_edges P w d) = led P h d (subst (λ (x : WordDef). ClosesWord P w d x) same_word close.3) in
    record {
      words = ds;
      close = subst (λ (u : ℕ). CloseWords P u ds rest) (sym next) (subst (λ (xs : List WordDef). CloseWords P (suc w) ds xs) same_rest close.4);
      led = before ++ word_edges P w d ∷ [];
      so_far = so_far ∙ sym (append_assoc before (word_edges P w d ∷ []) (edges_from P (suc w) ds)) ∙ ap (λ (u : ℕ). (before ++ word_edges P w d ∷ []) ++ edges_from P u ds) (sym next);
      same = subst (λ (es : List (List ℕ)). SameEdges es (before ++ word_edges P w d ∷ [])) (sym is) (one_edge_more edges before vs (word_edges P w d) same led_is);
    }

-- one word further
pub edges_step : (P C : Program) (ts : List Template) (h : Closes P C ts) (w v : ℕ) (left : List WordDef) (c : WordDef) (rest : List WordDef) (edges after : List (List ℕ)) (vs : List ℕ) → EdgesLeft P w left edges → left ≡ c ∷ rest → v ≡ suc w → LedBy C ts w c vs → after ≡ edges ++ vs ∷ [] → EdgesLeft P v rest after
edges_step P C ts h w v left c rest edges after vs so_far is next led added =
    edges_next P C ts h w v so_far.words c rest so_far.led edges after vs (subst (λ (xs : List WordDef). CloseWords P w so_far.words xs) is so_far.close) so_far.so_far so_far.same next led added

edges_last : (P : Program) (w : ℕ) (words : List WordDef) (led edges : List (List ℕ)) → CloseWords P w words [] → edges_from P 0 P.words ≡ led ++ edges_from P w words → SameEdges edges led → SameEdges edges (edges_from P 0 P.words)
edges_last P w [] led edges close so_far same = subst (λ (es : List (List ℕ)). SameEdges edges es) (sym (so_far ∙ append-nil led)) same
edges_last P w (d ∷ ds) led edges close so_far same = absurd cc

-- behind the last word
pub edges_end : (P : Program) (w : ℕ) (left : List WordDef) (edges : List (List ℕ)) → EdgesLeft P w left edges → left ≡ [] → SameEdges edges (edges_from P 0 P.words)
edges_end P w left edges so_far is = edges_last P w so_far.words so_far.led edges (subst (λ (xs : List WordDef). CloseWords P w so_far.words xs) is so_far.close) so_far.so_far so_far.same
