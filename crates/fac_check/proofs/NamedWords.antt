-- The words that a phrase names are those that its closed form names.
use Rattle.std.proofs.Common.{◌≡◌, ◌<◌, ◌≤◌, ℕ, zero, suc, ◌+◌, List, [], ◌∷◌, ◌++◌, length, Bool, true, false, Option, Some, None, refl, sym, ap, ◌∙◌, append_assoc, subst, arith}
use Rattle.std.specs.Prelude.{slice_get, ◌||◌, nat_eq, nat_lt, nat_le, Result, Ok, Err, OnOk}
use Rattle.std.proofs.lemmas.List.{append-nil}
use Rattle.std.proofs.lemmas.Bool.{le-leb, leb-true}
use Rattle.fac_graph.specs.Paths.{one_of}
use Rattle.fac_abs.proofs.EqualMarks.{and_first, and_second}
use Rattle.fac_abs.proofs.SeenLemmas.{is_below}
use Rattle.fac_lang.specs.Phrases.{Plain, int, yes, no, str, iota, wrd, arr, tup, Literal, Phrase, end, then, Item, lit, lit_arr, quot, word, bind, local, fry, hole, call_effect, execute_effect, next_method, made, next_after, held, known}
use Rattle.fac_lang.specs.declared.phrase.Template.{Template}
use Rattle.fac_lang.specs.declared.program.Program.{Program}
use Rattle.fac_lang.specs.declared.program.WordDef.{WordDef}
use Rattle.fac_lang.specs.declared.program.Sort.{Sort}
use Rattle.fac_lang.specs.declared.program.Sort.TheVariants.{Prim as prim, Core as core, Body as body, Past as past, Itself as itself, Class as class, Isa as isa, Getter as getter, Setter as setter, Putter as putter, Generic as generic, Method as method}
use Rattle.fac_locals.specs.declared.cell.Cell.{Cell}
use Rattle.fac_locals.specs.Cells.{cells_behind, inner_cells}
use Rattle.fac_locals.specs.Literals.{Quoted, quoted_phrase, behind, first_of_literal, literal_numbered}
use Rattle.fac_locals.specs.Closed.{Closes, ClosesSort, ClosesPhrase, ClosesItem}
use Rattle.fac_locals.proofs.Places.{not_before, same_place, none_at, literal_behind}
use Rattle.fac_locals.proofs.Lookups.{word_closed, word_closed_none, template_closed}
use Rattle.fac_check.specs.Verdicts.{inline_body, inline_words, item_words}
use Rattle.fac_check.specs.inner.UndeclaredRecursion.{named_word, made_template, inline_phrase, one_if, inline_word, inline_if, number_from, are_below, are_from, NumbersFrom, template_words, item_names, phrase_names, template_names, level_names, item_makes, phrase_makes, template_makes, level_makes, SameNumbers, AddsTemplates, AddsNames}

-- an element has a number below the length
pub number_below : {A : Type 0} (xs : List A) (k : ℕ) (x : A) → slice_get xs k ≡ Some x → k < length xs
number_below [] k x e = absurd cc
number_below (y ∷ xs) zero x e = omega arith
number_below (y ∷ xs) (suc k) x e =
    let lt = number_below xs k x e in
    omega (arith, lt)

-- each number below the length has an element
pub some_below : {A : Type 0} (xs : List A) (k : ℕ) → k < length xs → slice_get xs k ≡ None → ⊥
some_below [] k lt e = omega (arith, lt)
some_below (y ∷ xs) zero lt e = cc
some_below (y ∷ xs) (suc k) lt e = some_below xs k (omega (arith, lt)) e

inline_sort : (w : ℕ) (b : Bool) (s : Sort) → one_if (inline_phrase b s) w ≡ elim s [ body t ↦ elim b [ true ↦ w ∷ [] | false ↦ [] ] | _ ↦ [] ]
inline_sort w true (body t) = refl
inline_sort w false (body t) = refl
inline_sort w b (prim k) = refl
inline_sort w b (core k) = refl
inline_sort w b (past t) = refl
inline_sort w b itself = refl
inline_sort w b (class k) = refl
inline_sort w b (isa k) = refl
inline_sort w b (getter x) = refl
inline_sort w b (setter x) = refl
inline_sort w b (putter x) = refl
inline_sort w b generic = refl
inline_sort w b (method c g t) = refl

pub inline_same : (P : Program) (w : ℕ) (o : Option WordDef) → inline_word w o ≡ inline_body P w o
inline_same P w None = refl
inline_same P w (Some d) = inline_sort w d.inline d.sort

pub closes_inline : (P : Program) (w : ℕ) (b : Bool) (s c : Sort) → ClosesSort P w s c → inline_phrase b c ≡ inline_phrase b s
closes_inline P w b (body t) c h = ap (inline_phrase b) h.1
closes_inline P w b (past t) c h = ap (inline_phrase b) h.1
closes_inline P w b (method n g t) c h = ap (inline_phrase b) h.1
closes_inline P w b (prim k) c h = ap (inline_phrase b) h
closes_inline P w b (core k) c h = ap (inline_phrase b) h
closes_inline P w b itself c h = ap (inline_phrase b) h
closes_inline P w b (class k) c h = ap (inline_phrase b) h
closes_inline P w b (isa k) c h = ap (inline_phrase b) h
closes_inline P w b (getter x) c h = ap (inline_phrase b) h
closes_inline P w b (setter x) c h = ap (inline_phrase b) h
closes_inline P w b (putter x) c h = ap (inline_phrase b) h
closes_inline P w b generic c h = ap (inline_phrase b) h

inline_closed_at : (P C : Program) (ts : List Template) (h : Closes P C ts) (w : ℕ) (o : Option WordDef) → slice_get P.words w ≡ o → inline_word w (slice_get C.words w) ≡ inline_word w o
inline_closed_at P C ts h w None e = ap (inline_word w) (word_closed_none P C ts h w e)
inline_closed_at P C ts h w (Some d) e =
    let found = word_closed P C ts h w d e in
    ap (inline_word w) found.at ∙ ap (λ (b : Bool). one_if b w) (ap (λ (b : Bool). inline_phrase b found.closed.sort) found.closes.inline ∙ closes_inline P w d.inline d.sort found.closed.sort found.closes.sort)

-- a closed program has the inline words of the program
pub inline_closed : (P C : Program) (ts : List Template) → Closes P C ts → (w : ℕ) → inline_word w (slice_get C.words w) ≡ inline_body P w (slice_get P.words w)
inline_closed P C ts h w = inline_closed_at P C ts h w (slice_get P.words w) refl ∙ inline_same P w (slice_get P.words w)

lit_named : (P : Program) (p : Plain) (n : ℕ) → named_word (lit p) ≡ Some n → item_words P (lit p) ≡ inline_body P n (slice_get P.words n)
lit_named P (wrd w) n e = let same : w ≡ n = cc in ap (λ (v : ℕ). inline_body P v (slice_get P.words v)) same
lit_named P (int z) n e = absurd cc
lit_named P yes n e = absurd cc
lit_named P no n e = absurd cc
lit_named P (str s) n e = absurd cc
lit_named P (iota k) n e = absurd cc
lit_named P (arr k) n e = absurd cc
lit_named P (tup k) n e = absurd cc

lit_unnamed : (P : Program) (p : Plain) → named_word (lit p) ≡ None → item_words P (lit p) ≡ []
lit_unnamed P (wrd w) e = absurd cc
lit_unnamed P (int z) e = refl
lit_unnamed P yes e = refl
lit_unnamed P no e = refl
lit_unnamed P (str s) e = refl
lit_unnamed P (iota k) e = refl
lit_unnamed P (arr k) e = refl
lit_unnamed P (tup k) e = refl

clash : {A : Type 0} (n : ℕ) → None ≡ Some n → A
clash n e = absurd cc

-- a closed item that names a word
named_item : (P : Program) (cells : List Cell) (at : Literal) (i j : Item) (n : ℕ) → ClosesItem P cells at i j → named_word j ≡ Some n → item_words P i ≡ inline_body P n (slice_get P.words n)
named_item P cells at (word w) j n h e =
    let here : Some w ≡ Some n = sym (ap named_word h) ∙ e in
    let same : w ≡ n = cc in
    ap (λ (v : ℕ). inline_body P v (slice_get P.words v)) same
named_item P cells at (lit p) j n h e = lit_named P p n (sym (ap named_word h) ∙ e)
named_item P cells at (quot t) j n h e = clash n (sym (ap named_word h.1) ∙ e)
named_item P cells at (lit_arr a) j n h e = clash n (sym (ap named_word h) ∙ e)
named_item P cells at (call_effect f) j n h e = clash n (sym (ap named_word h) ∙ e)
named_item P cells at (execute_effect f) j n h e = clash n (sym (ap named_word h) ∙ e)
named_item P cells at next_method j n h e = clash n (sym (ap named_word h) ∙ e)
named_item P cells at (next_after m) j n h e = clash n (sym (ap named_word h) ∙ e)
named_item P cells at (bind x) j n h e = clash n (sym (ap named_word h) ∙ e)
named_item P cells at (local x) j n h e = clash n (sym (ap named_word h.1) ∙ e)
named_item P cells at (fry t k) j n h e = clash n (sym (ap named_word h.1) ∙ e)
named_item P cells at (hole k) j n h e = clash n (sym (ap named_word h.1) ∙ e)
named_item P cells at (made k) j n h e = absurd h
named_item P cells at (held v) j n h e = absurd h
named_item P cells at (known m) j n h e = absurd h

-- one that names neither a word nor a template
unnamed_item : (P : Program) (cells : List Cell) (at : Literal) (i j : Item) → ClosesItem P cells at i j → named_word j ≡ None → made_template j ≡ None → item_words P i ≡ []
unnamed_item P cells at (word w) j h e m = clash w (sym (sym (ap named_word h) ∙ e))
unnamed_item P cells at (lit p) j h e m = lit_unnamed P p (sym (ap named_word h) ∙ e)
unnamed_item P cells at (quot t) j h e m = clash h.0 (sym (sym (ap made_template h.1) ∙ m))
unnamed_item P cells at (lit_arr a) j h e m = refl
unnamed_item P cells at (call_effect f) j h e m = refl
unnamed_item P cells at (execute_effect f) j h e m = refl
unnamed_item P cells at next_method j h e m = refl
unnamed_item P cells at (next_after k) j h e m = refl
unnamed_item P cells at (bind x) j h e m = refl
unnamed_item P cells at (local x) j h e m = refl
unnamed_item P cells at (fry t k) j h e m = clash h.0 (sym (sym (ap made_template h.1) ∙ m))
unnamed_item P cells at (hole k) j h e m = refl
unnamed_item P cells at (made k) j h e m = absurd h
unnamed_item P cells at (held v) j h e m = absurd h
unnamed_item P cells at (known k) j h e m = absurd h

-- one that names a template
made_item : (P : Program) (cells : List Cell) (at : Literal) (i j : Item) (k : ℕ) → ClosesItem P cells at i j → made_template j ≡ Some k → (at ≡ (literal_numbered P k).at) × (item_words P i ≡ inline_words P (quoted_phrase (literal_numbered P k)))
made_item P cells at (quot t) j k h e =
    let here : Some h.0 ≡ Some k = sym (ap made_template h.1) ∙ e in
    let same : h.0 ≡ k = cc in
    let is = subst (λ (v : ℕ). literal_numbered P v ≡ record { at = at; cells = cells; item = quot t }) same h.2 in
    (sym (ap (λ (l : Quoted). l.at) is), sym (ap (λ (l : Quoted). inline_words P (quoted_phrase l)) is))
made_item P cells at (fry t n) j k h e =
    let here : Some h.0 ≡ Some k = sym (ap made_template h.1) ∙ e in
    let same : h.0 ≡ k = cc in
    let is = subst (λ (v : ℕ). literal_numbered P v ≡ record { at = at; cells = cells; item = fry t n }) same h.2 in
    (sym (ap (λ (l : Quoted). l.at) is), sym (ap (λ (l : Quoted). inline_words P (quoted_phrase l)) is))
made_item P cells at (lit p) j k h e = clash k (sym (ap made_template h) ∙ e)
made_item P cells at (word w) j k h e = clash k (sym (ap made_template h) ∙ e)
made_item P cells at (lit_arr a) j k h e = clash k (sym (ap made_template h) ∙ e)
made_item P cells at (call_effect f) j k h e = clash k (sym (ap made_template h) ∙ e)
made_item P cells at (execute_effect f) j k h e = clash k (sym (ap made_template h) ∙ e)
made_item P cells at next_method j k h e = clash k (sym (ap made_template h) ∙ e)
made_item P cells at (next_after m) j k h e = clash k (sym (ap made_template h) ∙ e)
made_item P cells at (bind x) j k h e = clash k (sym (ap made_template h) ∙ e)
made_item P cells at (local x) j k h e = clash k (sym (ap made_template h.1) ∙ e)
made_item P cells at (hole n) j k h e = clash k (sym (ap made_template h.1) ∙ e)
made_item P cells at (made n) j k h e = absurd h
made_item P cells at (held v) j k h e = absurd h
made_item P cells at (known m) j k h e = absurd h

-- an item that names a word makes no template
names_alone : (j : Item) (n : ℕ) → named_word j ≡ Some n → made_template j ≡ None
names_alone (word w) n e = refl
names_alone (lit p) n e = refl
names_alone (quot t) n e = refl
names_alone (lit_arr a) n e = refl
names_alone (call_effect f) n e = refl
names_alone (execute_effect f) n e = refl
names_alone next_method n e = refl
names_alone (next_after m) n e = refl
names_alone (bind x) n e = refl
names_alone (local x) n e = refl
names_alone (fry t k) n e = refl
names_alone (hole k) n e = refl
names_alone (made k) n e = absurd cc
names_alone (held v) n e = refl
names_alone (known m) n e = refl

-- numbers in lists that are put together
pub one_of_both : (v : ℕ) (xs ys : List ℕ) → one_of v (xs ++ ys) ≡ (one_of v xs || one_of v ys)
one_of_both v [] ys = refl
one_of_both v (x ∷ xs) ys = ap (λ (b : Bool). nat_eq v x || b) (one_of_both v xs ys) ∙ grouped (nat_eq v x) (one_of v xs) (one_of v ys)
  where
    grouped : (a b c : Bool) → (a || (b || c)) ≡ ((a || b) || c)
    grouped true b c = refl
    grouped false b c = refl

by_parts : (a b n m t u : Bool) → a ≡ (n || t) → b ≡ (m || u) → (a || b) ≡ ((n || m) || (t || u))
by_parts a b true m t u e f = ap (λ (c : Bool). c || b) e
by_parts a b false true true u e f = ap (λ (c : Bool). c || b) e
by_parts a b false true false u e f = ap (λ (c : Bool). c || b) e ∙ f
by_parts a b false false true u e f = ap (λ (c : Bool). c || b) e
by_parts a b false false false u e f = ap (λ (c : Bool). c || b) e ∙ f

further : (a n t m u : Bool) → a ≡ (n || t) → t ≡ (m || u) → a ≡ ((n || m) || u)
further a true t m u e f = e
further a false t m u e f = e ∙ f

-- what two parts name, and then what both make
joined : (xs ys ns ms ts us : List ℕ) → SameNumbers xs (ns ++ ts) → SameNumbers ys (ms ++ us) → SameNumbers (xs ++ ys) ((ns ++ ms) ++ (ts ++ us))
joined xs ys ns ms ts us e f v =
    one_of_both v xs ys
    ∙ by_parts (one_of v xs) (one_of v ys) (one_of v ns) (one_of v ms) (one_of v ts) (one_of v us) (e v ∙ one_of_both v ns ts) (f v ∙ one_of_both v ms us)
    ∙ ap (λ (b : Bool). b || (one_of v ts || one_of v us)) (sym (one_of_both v ns ms))
    ∙ ap (λ (b : Bool). one_of v (ns ++ ms) || b) (sym (one_of_both v ts us))
    ∙ sym (one_of_both v (ns ++ ms) (ts ++ us))

-- what is still to be named is replaced
replaced : (xs ns ts ms us : List ℕ) → SameNumbers xs (ns ++ ts) → SameNumbers ts (ms ++ us) → SameNumbers xs ((ns ++ ms) ++ us)
replaced xs ns ts ms us e f v =
    further (one_of v xs) (one_of v ns) (one_of v ts) (one_of v ms) (one_of v us) (e v ∙ one_of_both v ns ts) (f v ∙ one_of_both v ms us)
    ∙ ap (λ (b : Bool). b || one_of v us) (sym (one_of_both v ns ms))
    ∙ sym (one_of_both v (ns ++ ms) us)

module _ (P : Program) where
  templates_both : (ks ls : List ℕ) → template_words P (ks ++ ls) ≡ template_words P ks ++ template_words P ls
  templates_both [] ls = refl
  templates_both (k ∷ ks) ls =
      let here : List ℕ = inline_words P (quoted_phrase (literal_numbered P k)) in
      ap (λ (vs : List ℕ). here ++ vs) (templates_both ks ls) ∙ sym (append_assoc here (template_words P ks) (template_words P ls))

  module _ (C : Program) (ts : List Template) (h : Closes P C ts) (from : ℕ) where
    -- the words of an item are those that its closed form names, and those of the template that it makes
    item_by : (cells : List Cell) (at : Literal) (i j : Item) → ClosesItem P cells at i j → NumbersFrom P at from → (n m : Option ℕ) → named_word j ≡ n → made_template j ≡ m → item_words P i ≡ inline_if C n ++ template_words P (number_from from m)
    item_by cells at i j closes numbers (Some n) (Some k) e f = clash k (sym (names_alone j n e) ∙ f)
    item_by cells at i j closes numbers (Some n) None e f = named_item P cells at i j n closes e ∙ sym (inline_closed P C ts h n) ∙ sym (append-nil (inline_word n (slice_get C.words n)))
    item_by cells at i j closes numbers None (Some k) e f =
        let found = made_item P cells at i j k closes f in
        let le : from ≤ k = numbers k (same_place at (literal_numbered P k).at found.0) in
        found.1 ∙ sym (append-nil (inline_words P (quoted_phrase (literal_numbered P k)))) ∙ ap (λ (b : Bool). template_words P (one_if b k)) (sym (le-leb from k le))
    item_by cells at i j closes numbers None None e f = unnamed_item P cells at i j closes e f

    item_split : (cells : List Cell) (at : Literal) (i j : Item) → ClosesItem P cells at i j → NumbersFrom P at from → SameNumbers (item_words P i) (item_names C j ++ template_words P (item_makes from j))
    item_split cells at i j closes numbers v = ap (one_of v) (item_by cells at i j closes numbers (named_word j) (made_template j) refl refl)

    -- likewise those of a phrase
    pub phrase_split : (cells : List Cell) (at : Literal) (t c : Phrase) → ClosesPhrase P cells at t c → NumbersFrom P at from → SameNumbers (inline_words P t) (phrase_names C c ++ template_words P (phrase_makes from c))
    phrase_split cells at end c closes numbers = rw closes (λ v. refl)
    phrase_split cells at (then i p t) c closes numbers =
        let j = closes.0 in
        let s = closes.1 in
        let inner = phrase_split (cells_behind cells i) (behind at i) t s closes.4 (λ k e. numbers k (not_before at (behind at i) (literal_numbered P k).at (none_at at i) e)) in
        rw (closes.2, templates_both (item_makes from j) (phrase_makes from s)) (joined (item_words P i) (inline_words P t) (item_names C j) (phrase_names C s) (template_words P (item_makes from j)) (template_words P (phrase_makes from s)) (item_split cells at i j closes.3 numbers) inner)

    -- likewise those of a template, where no template in it has a lower number
    template_split : (k : ℕ) (o : Option Template) → slice_get ts k ≡ o → k < length ts → from ≤ suc k → SameNumbers (inline_words P (quoted_phrase (literal_numbered P k))) (template_names C o ++ template_words P (template_makes from o))
    template_split k None e lt le = absurd (some_below ts k lt e)
    template_split k (Some t) e lt le =
        let l : Quoted = literal_numbered P k in
        phrase_split (inner_cells l.cells l.item) (first_of_literal l.at) (quoted_phrase l) t.body (template_closed P C ts h k t e).body (λ j f. let behind = literal_behind P j k f in omega (arith, behind, le))

    level_split : (depth : ℕ) → from ≡ suc depth → (ks : List ℕ) → are_below (length ts) ks ≡ true → are_from depth ks ≡ true → SameNumbers (template_words P ks) (level_names C ts ks ++ template_words P (level_makes from ts ks))
    level_split depth is [] below least = λ v. refl
    level_split depth is (k ∷ ks) below least =
        let lt = is_below k (length ts) (and_first (nat_lt k (length ts)) (are_below (length ts) ks) below) in
        let le = leb-true depth k (and_first (nat_le depth k) (are_from depth ks) least) in
        let rest = level_split depth is ks (and_second (nat_lt k (length ts)) (are_below (length ts) ks) below) (and_second (nat_le depth k) (are_from depth ks) least) in
        let o = slice_get ts k in
        rw (templates_both (template_makes from o) (level_makes from ts ks)) (joined (inline_words P (quoted_phrase (literal_numbered P k))) (template_words P ks) (template_names C o) (level_names C ts ks) (template_words P (template_makes from o)) (template_words P (level_makes from ts ks)) (template_split k o refl lt (omega (arith, is, le))) rest)

-- a phrase with all templates in it
pub adds_phrase : (C : Program) (ts : List Template) (phrase : Phrase) (before named after : List ℕ) → named ≡ before ++ phrase_names C phrase → AddsTemplates C ts (phrase_makes 0 phrase) named after → AddsNames C ts phrase before after
adds_phrase C ts phrase before named after is adds =
    λ P h cells at t closes v. adds P h v ∙ ap (λ (vs : List ℕ). one_of v (vs ++ template_words P (phrase_makes 0 phrase))) is ∙ ap (one_of v) (append_assoc before (phrase_names C phrase) (template_words P (phrase_makes 0 phrase))) ∙ one_of_both v before (phrase_names C phrase ++ template_words P (phrase_makes 0 phrase)) ∙ ap (λ (b : Bool). one_of v before || b) (sym (phrase_split P C ts h 0 cells at t phrase closes (λ k e. omega arith) v)) ∙ sym (one_of_both v before (inline_words P t))

-- one level further
pub level_step : (C : Program) (ts : List Template) (depth from : ℕ) (level deeper before named : List ℕ) (whole : Program → List ℕ) → from ≡ depth + 1 → are_below (length ts) level ≡ true → are_from depth level ≡ true → named ≡ before ++ level_names C ts level → deeper ≡ level_makes from ts level → ((P : Program) → Closes P C ts → SameNumbers (whole P) (before ++ template_words P level)) → (P : Program) → Closes P C ts → SameNumbers (whole P) (named ++ template_words P deeper)
level_step C ts depth from level deeper before named whole next below least is makes so_far P h =
    rw (is, makes) (replaced (whole P) before (template_words P level) (level_names C ts level) (template_words P (level_makes from ts level)) (so_far P h) (level_split P C ts h from depth (omega (arith, next)) level below least))

-- what follows from a call's fact
pub on_ok : {T E A B : Type 0} (r : Result T E) → (A → B) → OnOk r A → OnOk r B
on_ok (Ok x) f h = f h
on_ok (Err x) f h = tt
