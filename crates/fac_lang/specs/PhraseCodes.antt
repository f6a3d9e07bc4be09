-- A code for phrases, by which a proof tells two of them apart. A phrase is written as a list of tokens, each part before what it is a part of,
-- and read back with a stack for each of the five types.
use Rattle.std.specs.Prelude.{ℕ, ◌+◌, ℤ, pos, List, [], ◌∷◌, drop, Bool, true, false, nat_eq, nat_lt, ◌-◌, Option, Some, None, slice_index, ◌≡◌}
use Rattle.std.proofs.Common.{refl, ◌∙◌, ap}
use Rattle.std.specs.Coded.{Coded, code_by, coded×, coded_ℕ, coded_ℤ, coded_list}
use Rattle.fac_base.specs.declared.height.Height.{Height}
use Rattle.fac_lang.specs.Phrases.{Plain, int, yes, no, str, iota, wrd, arr, tup, Phrase, end, then, Item, lit, lit_arr, quot, word, bind, local, fry, hole, call_effect, execute_effect, next_method, made, next_after, held, Value, plain, fun, Callable, of_phrase, cur, both, known, Mark, any, lit_mark, cur_mark, com_mark, wrd_mark, par_mark}

-- a kind of token, an integer and a list of numbers
abbrev pub Token : Type 0
Token = ℕ × (ℤ × List ℕ)

abbrev pub tok : ℕ → List ℕ → Token
tok k ns = (k, (pos 0, ns))

abbrev pub height_list : ℕ → Option ℕ → List ℕ
height_list i None = i ∷ []
height_list i (Some o) = i ∷ o ∷ []

abbrev pub second_of : List ℕ → Option ℕ
second_of [] = None
second_of (o ∷ ns) = Some o

abbrev pub listed_height : List ℕ → Height
listed_height [] = record { ins = 0; outs = None }
listed_height (i ∷ ns) = record { ins = i; outs = second_of ns }

-- a value without a phrase, k more than its kind
abbrev pub plain_token : ℕ → Plain → Token
plain_token k (int z) = (k + 0, (z, []))
plain_token k yes = tok (k + 1) []
plain_token k no = tok (k + 2) []
plain_token k (str cs) = tok (k + 3) cs
plain_token k (iota n) = tok (k + 4) (n ∷ [])
plain_token k (wrd n) = tok (k + 5) (n ∷ [])
plain_token k (arr n) = tok (k + 6) (n ∷ [])
plain_token k (tup n) = tok (k + 7) (n ∷ [])

abbrev mutual
  pub phrase_tokens : Phrase → List Token → List Token
  phrase_tokens end rest = tok 0 [] ∷ rest
  phrase_tokens (then i p r) rest = item_tokens i (phrase_tokens r (tok 1 (p.file ∷ p.token ∷ []) ∷ rest))

  pub item_tokens : Item → List Token → List Token
  item_tokens (quot t) rest = phrase_tokens t (tok 2 [] ∷ rest)
  item_tokens (fry t n) rest = phrase_tokens t (tok 3 (n ∷ []) ∷ rest)
  item_tokens (held v) rest = value_tokens v (tok 4 [] ∷ rest)
  item_tokens (known m) rest = mark_tokens m (tok 19 [] ∷ rest)
  item_tokens (call_effect h) rest = tok 5 (height_list h.ins h.outs) ∷ rest
  item_tokens (execute_effect h) rest = tok 6 (height_list h.ins h.outs) ∷ rest
  item_tokens next_method rest = tok 7 [] ∷ rest
  item_tokens (lit_arr n) rest = tok 8 (n ∷ []) ∷ rest
  item_tokens (word n) rest = tok 9 (n ∷ []) ∷ rest
  item_tokens (bind n) rest = tok 10 (n ∷ []) ∷ rest
  item_tokens (local n) rest = tok 11 (n ∷ []) ∷ rest
  item_tokens (hole n) rest = tok 12 (n ∷ []) ∷ rest
  item_tokens (made n) rest = tok 13 (n ∷ []) ∷ rest
  item_tokens (next_after n) rest = tok 14 (n ∷ []) ∷ rest
  item_tokens (lit p) rest = plain_token 20 p ∷ rest

  pub value_tokens : Value → List Token → List Token
  value_tokens (plain p) rest = plain_token 30 p ∷ rest
  value_tokens (fun c) rest = callable_tokens c (tok 15 [] ∷ rest)

  pub callable_tokens : Callable → List Token → List Token
  callable_tokens (of_phrase t) rest = phrase_tokens t (tok 16 [] ∷ rest)
  callable_tokens (cur v c) rest = value_tokens v (callable_tokens c (tok 17 [] ∷ rest))
  callable_tokens (both c d) rest = callable_tokens c (callable_tokens d (tok 18 [] ∷ rest))

  pub mark_tokens : Mark → List Token → List Token
  mark_tokens any rest = tok 40 [] ∷ rest
  mark_tokens (lit_mark l t) rest = phrase_tokens t (tok 41 (l.word ∷ l.index ∷ l.around) ∷ rest)
  mark_tokens (cur_mark m c) rest = mark_tokens m (mark_tokens c (tok 42 [] ∷ rest))
  mark_tokens (com_mark c d) rest = mark_tokens c (mark_tokens d (tok 43 [] ∷ rest))
  mark_tokens (wrd_mark w) rest = tok 44 (w ∷ []) ∷ rest
  mark_tokens (par_mark k) rest = tok 45 (k ∷ []) ∷ rest

-- Reading. Each function is a row of tests; a token that none of them knows reads as some value.
abbrev pub choose : {A : Type 0} → Bool → A → A → A
choose true a b = a
choose false a b = b

abbrev pub plain_read : ℕ → ℤ → List ℕ → Plain
plain_read k z ns =
    choose (nat_eq k 0) (int z) (
    choose (nat_eq k 1) (yes) (
    choose (nat_eq k 2) (no) (
    choose (nat_eq k 3) (str ns) (
    choose (nat_eq k 4) (iota (slice_index ns 0)) (
    choose (nat_eq k 5) (wrd (slice_index ns 0)) (
    choose (nat_eq k 6) (arr (slice_index ns 0)) (
    tup (slice_index ns 0))))))))

abbrev pub leaf_read : ℕ → ℤ → List ℕ → Item
leaf_read k z ns =
    choose (nat_eq k 5) (call_effect (listed_height ns)) (
    choose (nat_eq k 6) (execute_effect (listed_height ns)) (
    choose (nat_eq k 7) next_method (
    choose (nat_eq k 8) (lit_arr (slice_index ns 0)) (
    choose (nat_eq k 9) (word (slice_index ns 0)) (
    choose (nat_eq k 10) (bind (slice_index ns 0)) (
    choose (nat_eq k 11) (local (slice_index ns 0)) (
    choose (nat_eq k 12) (hole (slice_index ns 0)) (
    choose (nat_eq k 13) (made (slice_index ns 0)) (
    choose (nat_eq k 14) (next_after (slice_index ns 0)) (
    lit (plain_read (k - 20) z ns)))))))))))

pub record Stacks : Type 0 where
  pub phrases : List Phrase
  pub items : List Item
  pub values : List Value
  pub callables : List Callable
  pub marks : List Mark

abbrev pub read_then : List ℕ → List Phrase → List Item → Stacks → Stacks
read_then ns [] is s = s
read_then ns (r ∷ ts) [] s = s
read_then ns (r ∷ ts) (i ∷ is) s = record s { phrases = then i (record { file = slice_index ns 0; token = slice_index ns 1 }) r ∷ ts; items = is }

abbrev pub read_quot : List Phrase → Stacks → Stacks
read_quot [] s = s
read_quot (t ∷ ts) s = record s { phrases = ts; items = quot t ∷ s.items }

abbrev pub read_fry : List ℕ → List Phrase → Stacks → Stacks
read_fry ns [] s = s
read_fry ns (t ∷ ts) s = record s { phrases = ts; items = fry t (slice_index ns 0) ∷ s.items }

abbrev pub read_held : List Value → Stacks → Stacks
read_held [] s = s
read_held (v ∷ vs) s = record s { values = vs; items = held v ∷ s.items }

abbrev pub read_fun : List Callable → Stacks → Stacks
read_fun [] s = s
read_fun (c ∷ cs) s = record s { callables = cs; values = fun c ∷ s.values }

abbrev pub read_phrase : List Phrase → Stacks → Stacks
read_phrase [] s = s
read_phrase (t ∷ ts) s = record s { phrases = ts; callables = of_phrase t ∷ s.callables }

abbrev pub read_cur : List Value → List Callable → Stacks → Stacks
read_cur [] cs s = s
read_cur (v ∷ vs) [] s = s
read_cur (v ∷ vs) (c ∷ cs) s = record s { values = vs; callables = cur v c ∷ cs }

abbrev pub read_both : List Callable → Stacks → Stacks
read_both [] s = s
read_both (d ∷ []) s = s
read_both (d ∷ c ∷ cs) s = record s { callables = both c d ∷ cs }

abbrev pub read_known : List Mark → Stacks → Stacks
read_known [] s = s
read_known (m ∷ ms) s = record s { marks = ms; items = known m ∷ s.items }

abbrev pub read_lit_mark : List ℕ → List Phrase → Stacks → Stacks
read_lit_mark ns [] s = s
read_lit_mark ns (t ∷ ts) s = record s { phrases = ts; marks = lit_mark (record { word = slice_index ns 0; around = drop 2 ns; index = slice_index ns 1 }) t ∷ s.marks }

abbrev pub read_cur_mark : List Mark → Stacks → Stacks
read_cur_mark [] s = s
read_cur_mark (c ∷ []) s = s
read_cur_mark (c ∷ m ∷ ms) s = record s { marks = cur_mark m c ∷ ms }

abbrev pub read_com_mark : List Mark → Stacks → Stacks
read_com_mark [] s = s
read_com_mark (d ∷ []) s = s
read_com_mark (d ∷ c ∷ ms) s = record s { marks = com_mark c d ∷ ms }

abbrev pub step : Token → Stacks → Stacks
step k s =
    choose (nat_eq k.0 0) (record s { phrases = end ∷ s.phrases }) (
    choose (nat_eq k.0 1) (read_then k.1.1 s.phrases s.items s) (
    choose (nat_eq k.0 2) (read_quot s.phrases s) (
    choose (nat_eq k.0 3) (read_fry k.1.1 s.phrases s) (
    choose (nat_eq k.0 4) (read_held s.values s) (
    choose (nat_eq k.0 15) (read_fun s.callables s) (
    choose (nat_eq k.0 16) (read_phrase s.phrases s) (
    choose (nat_eq k.0 17) (read_cur s.values s.callables s) (
    choose (nat_eq k.0 18) (read_both s.callables s) (
    choose (nat_eq k.0 19) (read_known s.marks s) (
    choose (nat_eq k.0 40) (record s { marks = any ∷ s.marks }) (
    choose (nat_eq k.0 41) (read_lit_mark k.1.1 s.phrases s) (
    choose (nat_eq k.0 42) (read_cur_mark s.marks s) (
    choose (nat_eq k.0 43) (read_com_mark s.marks s) (
    choose (nat_eq k.0 44) (record s { marks = wrd_mark (slice_index k.1.1 0) ∷ s.marks }) (
    choose (nat_eq k.0 45) (record s { marks = par_mark (slice_index k.1.1 0) ∷ s.marks }) (
    choose (nat_lt k.0 30) (record s { items = leaf_read k.0 k.1.0 k.1.1 ∷ s.items }) (
    record s { values = plain (plain_read (k.0 - 30) k.1.0 k.1.1) ∷ s.values })))))))))))))))))

abbrev pub read : List Token → Stacks → Stacks
read [] s = s
read (k ∷ ks) s = read ks (step k s)

abbrev pub more_phrase : Phrase → Stacks → Stacks
more_phrase t s = record s { phrases = t ∷ s.phrases }

abbrev pub more_item : Item → Stacks → Stacks
more_item i s = record s { items = i ∷ s.items }

abbrev pub more_value : Value → Stacks → Stacks
more_value v s = record s { values = v ∷ s.values }

abbrev pub more_callable : Callable → Stacks → Stacks
more_callable c s = record s { callables = c ∷ s.callables }

abbrev pub more_mark : Mark → Stacks → Stacks
more_mark m s = record s { marks = m ∷ s.marks }

height_read : (i : ℕ) (o : Option ℕ) → listed_height (height_list i o) ≡ record { ins = i; outs = o }
height_read i None = refl
height_read i (Some o) = refl

lit_step : (p : Plain) (s : Stacks) → step (plain_token 20 p) s ≡ more_item (lit p) s
lit_step (int z) s = refl
lit_step yes s = refl
lit_step no s = refl
lit_step (str cs) s = refl
lit_step (iota n) s = refl
lit_step (wrd n) s = refl
lit_step (arr n) s = refl
lit_step (tup n) s = refl

plain_step : (p : Plain) (s : Stacks) → step (plain_token 30 p) s ≡ more_value (plain p) s
plain_step (int z) s = refl
plain_step yes s = refl
plain_step no s = refl
plain_step (str cs) s = refl
plain_step (iota n) s = refl
plain_step (wrd n) s = refl
plain_step (arr n) s = refl
plain_step (tup n) s = refl

mutual
  pub phrase_back : (t : Phrase) (rest : List Token) (s : Stacks) → read (phrase_tokens t rest) s ≡ read rest (more_phrase t s)
  phrase_back end rest s = refl
  phrase_back (then i p r) rest s = item_back i (phrase_tokens r (tok 1 (p.file ∷ p.token ∷ []) ∷ rest)) s ∙ phrase_back r (tok 1 (p.file ∷ p.token ∷ []) ∷ rest) (more_item i s)

  pub item_back : (i : Item) (rest : List Token) (s : Stacks) → read (item_tokens i rest) s ≡ read rest (more_item i s)
  item_back (quot t) rest s = phrase_back t (tok 2 [] ∷ rest) s
  item_back (fry t n) rest s = phrase_back t (tok 3 (n ∷ []) ∷ rest) s
  item_back (held v) rest s = value_back v (tok 4 [] ∷ rest) s
  item_back (known m) rest s = mark_back m (tok 19 [] ∷ rest) s
  item_back (call_effect h) rest s = ap (λ k. read rest (more_item (call_effect k) s)) (height_read h.ins h.outs)
  item_back (execute_effect h) rest s = ap (λ k. read rest (more_item (execute_effect k) s)) (height_read h.ins h.outs)
  item_back next_method rest s = refl
  item_back (lit_arr n) rest s = refl
  item_back (word n) rest s = refl
  item_back (bind n) rest s = refl
  item_back (local n) rest s = refl
  item_back (hole n) rest s = refl
  item_back (made n) rest s = refl
  item_back (next_after n) rest s = refl
  item_back (lit p) rest s = ap (read rest) (lit_step p s)

  pub value_back : (v : Value) (rest : List Token) (s : Stacks) → read (value_tokens v rest) s ≡ read rest (more_value v s)
  value_back (plain p) rest s = ap (read rest) (plain_step p s)
  value_back (fun c) rest s = callable_back c (tok 15 [] ∷ rest) s

  pub callable_back : (c : Callable) (rest : List Token) (s : Stacks) → read (callable_tokens c rest) s ≡ read rest (more_callable c s)
  callable_back (of_phrase t) rest s = phrase_back t (tok 16 [] ∷ rest) s
  callable_back (cur v c) rest s = value_back v (callable_tokens c (tok 17 [] ∷ rest)) s ∙ callable_back c (tok 17 [] ∷ rest) (more_value v s)
  callable_back (both c d) rest s = callable_back c (callable_tokens d (tok 18 [] ∷ rest)) s ∙ callable_back d (tok 18 [] ∷ rest) (more_callable c s)

  pub mark_back : (m : Mark) (rest : List Token) (s : Stacks) → read (mark_tokens m rest) s ≡ read rest (more_mark m s)
  mark_back any rest s = refl
  mark_back (lit_mark l t) rest s = phrase_back t (tok 41 (l.word ∷ l.index ∷ l.around) ∷ rest) s
  mark_back (cur_mark m c) rest s = mark_back m (mark_tokens c (tok 42 [] ∷ rest)) s ∙ mark_back c (tok 42 [] ∷ rest) (more_mark m s)
  mark_back (com_mark c d) rest s = mark_back c (mark_tokens d (tok 43 [] ∷ rest)) s ∙ mark_back d (tok 43 [] ∷ rest) (more_mark c s)
  mark_back (wrd_mark w) rest s = refl
  mark_back (par_mark k) rest s = refl

abbrev pub phrase_on_top : Stacks → Phrase
phrase_on_top s = elim s.phrases [ [] ↦ end | t ∷ _ ↦ t ]

abbrev pub no_stacks : Stacks
no_stacks = record { phrases = []; items = []; values = []; callables = []; marks = [] }

abbrev pub coded_phrase : Coded Phrase
coded_phrase =
    code_by (List Token) (coded_list (coded× coded_ℕ (coded× coded_ℤ (coded_list coded_ℕ)))) (λ t. phrase_tokens t []) (λ ks. phrase_on_top (read ks no_stacks)) (λ t. ap phrase_on_top (phrase_back t [] no_stacks))

abbrev pub top_mark : Stacks → Mark
top_mark s = elim s.marks [ [] ↦ any | m ∷ _ ↦ m ]

abbrev pub coded_mark : Coded Mark
coded_mark =
    code_by (List Token) (coded_list (coded× coded_ℕ (coded× coded_ℤ (coded_list coded_ℕ)))) (λ m. mark_tokens m []) (λ ks. top_mark (read ks no_stacks)) (λ m. ap top_mark (mark_back m [] no_stacks))
