-- A word leads back to itself by the words that each word leads to exactly where it does so in the program.
use Rattle.std.proofs.Common.{◌≡◌, ◌⊎◌, inl, inr, ℕ, zero, suc, ◌+◌, List, [], ◌∷◌, length, Bool, true, false, Option, Some, None, refl, sym, ap, ◌∙◌, subst, arith}
use Rattle.std.specs.Prelude.{◌||◌, ◌↔◌, slice_get, nat_eq, ◌&&◌}
use Rattle.std.proofs.lemmas.Bool.{or_left, or_right, or_cases, false_from_ne_true}
use Rattle.fac_graph.specs.Paths.{one_of, IsOneOf, list_or_none, successors, LeadsTo, by_edge, and_edge, AreLeadingBack, leads_within}
use Rattle.fac_graph.proofs.NumberLists.{same_number, in_either, in_one}
use Rattle.fac_graph.proofs.PathLemmas.{any_is, leads_soon, same_truth}
use Rattle.fac_lang.specs.Phrases.{Plain, int, yes, no, str, iota, wrd, arr, tup, Phrase, end, then, Item, lit, lit_arr, quot, word, bind, local, fry, hole, call_effect, execute_effect, next_method, made, next_after, held, known}
use Rattle.fac_lang.specs.declared.phrase.Template.{Template}
use Rattle.fac_lang.specs.declared.program.Program.{Program}
use Rattle.fac_lang.specs.declared.program.WordDef.{WordDef}
use Rattle.fac_lang.specs.declared.program.Sort.{Sort}
use Rattle.fac_lang.specs.declared.program.Sort.TheVariants.{Prim as prim, Core as core, Body as body, Past as past, Itself as itself, Class as class, Isa as isa, Getter as getter, Setter as setter, Putter as putter, Generic as generic, Method as method}
use Rattle.fac_check.specs.Verdicts.{more_of, inline_body, inline_words, item_words, body_words, named_by, led_to, without, leads_back, undeclared}
use Rattle.fac_check.specs.inner.UndeclaredRecursion.{one_if, inline_phrase, inline_word, phrase_edges, inline_edges, sort_edges, word_edges, edges_from, SameNumbers, SameEdges, AreEdges}
use Rattle.fac_check.specs.Judged.{undeclared_from, AreUndeclared}
use Rattle.fac_check.proofs.NamedWords.{inline_same}

-- adding numbers to a list
more_keeps_by : (b : Bool) (x : ℕ) (xs ys : List ℕ) (v : ℕ) → ((zs : List ℕ) → IsOneOf v zs → IsOneOf v (more_of xs zs)) → IsOneOf v ys → IsOneOf v (elim b [ true ↦ more_of xs ys | false ↦ more_of xs (x ∷ ys) ])
more_keeps_by true x xs ys v keeps e = keeps ys e
more_keeps_by false x xs ys v keeps e = keeps (x ∷ ys) (or_right (nat_eq v x) (one_of v ys) e)

more_keeps : (xs ys : List ℕ) (v : ℕ) → IsOneOf v ys → IsOneOf v (more_of xs ys)
more_keeps [] ys v e = e
more_keeps (x ∷ xs) ys v e = more_keeps_by (one_of x ys) x xs ys v (λ zs h. more_keeps xs zs v h) e

more_first : (b : Bool) (x : ℕ) (xs ys : List ℕ) → one_of x ys ≡ b → IsOneOf x (elim b [ true ↦ more_of xs ys | false ↦ more_of xs (x ∷ ys) ])
more_first true x xs ys e = more_keeps xs ys x e
more_first false x xs ys e = more_keeps xs (x ∷ ys) x (in_one x ys)

more_rest : (b : Bool) (x : ℕ) (xs ys : List ℕ) (v : ℕ) → ((zs : List ℕ) → IsOneOf v (more_of xs zs)) → IsOneOf v (elim b [ true ↦ more_of xs ys | false ↦ more_of xs (x ∷ ys) ])
more_rest true x xs ys v adds = adds ys
more_rest false x xs ys v adds = adds (x ∷ ys)

more_adds : (xs ys : List ℕ) (v : ℕ) → IsOneOf v xs → IsOneOf v (more_of xs ys)
more_adds [] ys v e = absurd cc
more_adds (x ∷ xs) ys v e =
    elim (or_cases (nat_eq v x) (one_of v xs) e) [
      | inl p ↦ subst (λ (u : ℕ). IsOneOf u (more_of (x ∷ xs) ys)) (sym (same_number v x p)) (more_first (one_of x ys) x xs ys refl)
      | inr p ↦ more_rest (one_of x ys) x xs ys v (λ zs. more_adds xs zs v p)
    ]

more_only_by : (b : Bool) (x : ℕ) (xs ys : List ℕ) (v : ℕ) → ((zs : List ℕ) → IsOneOf v (more_of xs zs) → IsOneOf v xs ⊎ IsOneOf v zs) → IsOneOf v (elim b [ true ↦ more_of xs ys | false ↦ more_of xs (x ∷ ys) ]) → IsOneOf v (x ∷ xs) ⊎ IsOneOf v ys
more_only_by true x xs ys v only e = elim (only ys e) [ inl p ↦ inl (or_right (nat_eq v x) (one_of v xs) p) | inr p ↦ inr p ]
more_only_by false x xs ys v only e =
    elim (only (x ∷ ys) e) [
      | inl p ↦ inl (or_right (nat_eq v x) (one_of v xs) p)
      | inr p ↦ elim (or_cases (nat_eq v x) (one_of v ys) p) [ inl q ↦ inl (or_left (nat_eq v x) (one_of v xs) q) | inr q ↦ inr q ]
    ]

more_only : (xs ys : List ℕ) (v : ℕ) → IsOneOf v (more_of xs ys) → IsOneOf v xs ⊎ IsOneOf v ys
more_only [] ys v e = inr e
more_only (x ∷ xs) ys v e = more_only_by (one_of x ys) x xs ys v (λ zs h. more_only xs zs v h) e

without_only_by : (b : Bool) (u : ℕ) (us vs : List ℕ) (v : ℕ) → (IsOneOf v us → IsOneOf v vs) → IsOneOf v (elim b [ true ↦ us | false ↦ u ∷ us ]) → IsOneOf v (u ∷ vs)
without_only_by true u us vs v only e = or_right (nat_eq v u) (one_of v vs) (only e)
without_only_by false u us vs v only e = elim (or_cases (nat_eq v u) (one_of v us) e) [ inl p ↦ or_left (nat_eq v u) (one_of v vs) p | inr p ↦ or_right (nat_eq v u) (one_of v vs) (only p) ]

without_only : (P : Program) (w : ℕ) (vs : List ℕ) (v : ℕ) → IsOneOf v (without P w vs) → IsOneOf v vs
without_only P w [] v e = e
without_only P w (u ∷ vs) v e = without_only_by (nat_eq w u) u (without P w vs) vs v (without_only P w vs v) e

without_keeps_by : (b : Bool) (w u : ℕ) (us : List ℕ) (v : ℕ) → nat_eq w u ≡ b → (v ≡ w → ⊥) → (nat_eq v u ≡ true) ⊎ IsOneOf v us → IsOneOf v (elim b [ true ↦ us | false ↦ u ∷ us ])
without_keeps_by true w u us v is other (inl p) = absurd (other (same_number v u p ∙ sym (same_number w u is)))
without_keeps_by true w u us v is other (inr p) = p
without_keeps_by false w u us v is other (inl p) = or_left (nat_eq v u) (one_of v us) p
without_keeps_by false w u us v is other (inr p) = or_right (nat_eq v u) (one_of v us) p

without_keeps : (P : Program) (w : ℕ) (vs : List ℕ) (v : ℕ) → (v ≡ w → ⊥) → IsOneOf v vs → IsOneOf v (without P w vs)
without_keeps P w [] v other e = e
without_keeps P w (u ∷ vs) v other e =
    without_keeps_by (nat_eq w u) w u (without P w vs) v refl other (elim (or_cases (nat_eq v u) (one_of v vs) e) [ inl p ↦ inl p | inr p ↦ inr (without_keeps P w vs v other p) ])

-- an inline word with a phrase
pub record InlineWord (P : Program) (v : ℕ) : Type 0 where
  pub def : WordDef
  pub phrase : Phrase
  pub at : slice_get P.words v ≡ Some def
  pub sort_is : def.sort ≡ body phrase
  pub inline_is : def.inline ≡ true

body_sort : (b : Bool) (s : Sort) → inline_phrase b s ≡ true → (t : Phrase) × (s ≡ body t) × (b ≡ true)
body_sort b (body t) e = (t, refl, e)
body_sort b (past t) e = absurd cc
body_sort b (method n g t) e = absurd cc
body_sort b (prim k) e = absurd cc
body_sort b (core k) e = absurd cc
body_sort b itself e = absurd cc
body_sort b (class k) e = absurd cc
body_sort b (isa k) e = absurd cc
body_sort b (getter x) e = absurd cc
body_sort b (setter x) e = absurd cc
body_sort b (putter x) e = absurd cc
body_sort b generic e = absurd cc

one_if_true : (b : Bool) (w v : ℕ) → IsOneOf v (one_if b w) → (b ≡ true) × (v ≡ w)
one_if_true true w v e = (refl, elim (or_cases (nat_eq v w) (one_of v []) e) [ inl p ↦ same_number v w p | inr p ↦ absurd cc ])
one_if_true false w v e = absurd cc

module _ (P : Program) where
  inline_found : (w v : ℕ) (o : Option WordDef) → slice_get P.words w ≡ o → IsOneOf v (inline_word w o) → InlineWord P v
  inline_found w v None is e = absurd cc
  inline_found w v (Some d) is e =
      let one = one_if_true (inline_phrase d.inline d.sort) w v e in
      let sort = body_sort d.inline d.sort one.0 in
      record { def = d; phrase = sort.0; at = ap (slice_get P.words) one.1 ∙ is; sort_is = sort.1; inline_is = sort.2 }

  named_inline : (w v : ℕ) → IsOneOf v (inline_body P w (slice_get P.words w)) → InlineWord P v
  named_inline w v e = inline_found w v (slice_get P.words w) refl (subst (λ (vs : List ℕ). IsOneOf v vs) (sym (inline_same P w (slice_get P.words w))) e)

  lit_inline : (p : Plain) (v : ℕ) → IsOneOf v (item_words P (lit p)) → InlineWord P v
  lit_inline (wrd w) v e = named_inline w v e
  lit_inline (int z) v e = absurd cc
  lit_inline yes v e = absurd cc
  lit_inline no v e = absurd cc
  lit_inline (str s) v e = absurd cc
  lit_inline (iota k) v e = absurd cc
  lit_inline (arr k) v e = absurd cc
  lit_inline (tup k) v e = absurd cc

  -- the words that a phrase names are inline words
  mutual
    pub words_inline : (t : Phrase) (v : ℕ) → IsOneOf v (inline_words P t) → InlineWord P v
    words_inline end v e = absurd cc
    words_inline (then i p t) v e = elim (in_either v (item_words P i) (inline_words P t) e) [ inl h ↦ item_inline i v h | inr h ↦ words_inline t v h ]

    item_inline : (i : Item) (v : ℕ) → IsOneOf v (item_words P i) → InlineWord P v
    item_inline (word w) v e = named_inline w v e
    item_inline (lit p) v e = lit_inline p v e
    item_inline (quot t) v e = words_inline t v e
    item_inline (fry t n) v e = words_inline t v e
    item_inline (lit_arr a) v e = absurd cc
    item_inline (bind x) v e = absurd cc
    item_inline (local x) v e = absurd cc
    item_inline (hole k) v e = absurd cc
    item_inline (call_effect h) v e = absurd cc
    item_inline (execute_effect h) v e = absurd cc
    item_inline next_method v e = absurd cc
    item_inline (made k) v e = absurd cc
    item_inline (next_after m) v e = absurd cc
    item_inline (held x) v e = absurd cc
    item_inline (known m) v e = absurd cc

  -- one step of following words
  named_keeps : (ws seen : List ℕ) (v : ℕ) → IsOneOf v seen → IsOneOf v (named_by P ws seen)
  named_keeps [] seen v e = e
  named_keeps (w ∷ ws) seen v e = more_keeps (body_words P (slice_get P.words w)) (named_by P ws seen) v (named_keeps ws seen v e)

  named_adds : (ws seen : List ℕ) (u v : ℕ) → IsOneOf u ws → IsOneOf v (body_words P (slice_get P.words u)) → IsOneOf v (named_by P ws seen)
  named_adds [] seen u v e h = absurd cc
  named_adds (w ∷ ws) seen u v e h =
      elim (or_cases (nat_eq u w) (one_of u ws) e) [
        | inl p ↦ more_adds (body_words P (slice_get P.words w)) (named_by P ws seen) v (subst (λ (x : ℕ). IsOneOf v (body_words P (slice_get P.words x))) (same_number u w p) h)
        | inr p ↦ more_keeps (body_words P (slice_get P.words w)) (named_by P ws seen) v (named_adds ws seen u v p h)
      ]

  named_only : (ws seen : List ℕ) (v : ℕ) → IsOneOf v (named_by P ws seen) → IsOneOf v seen ⊎ ((u : ℕ) × IsOneOf u ws × IsOneOf v (body_words P (slice_get P.words u)))
  named_only [] seen v e = inl e
  named_only (w ∷ ws) seen v e =
      elim (more_only (body_words P (slice_get P.words w)) (named_by P ws seen) v e) [
        | inl p ↦ inr (w, in_one w ws, p)
        | inr p ↦ elim (named_only ws seen v p) [ inl q ↦ inl q | inr q ↦ inr (q.0, or_right (nat_eq q.0 w) (one_of q.0 ws) q.1, q.2) ]
      ]

  led_keeps : (n : ℕ) (ws : List ℕ) (v : ℕ) → IsOneOf v ws → IsOneOf v (led_to P n ws)
  led_keeps zero ws v e = e
  led_keeps (suc n) ws v e = led_keeps n (named_by P ws ws) v (named_keeps ws ws v e)

  -- the words that one leads to
  edges_at : (w k u : ℕ) (ds : List WordDef) (d : WordDef) → u ≡ w + k → slice_get ds k ≡ Some d → list_or_none (slice_get (edges_from P w ds) k) ≡ word_edges P u d
  edges_at w k u [] d is e = absurd cc
  edges_at w zero u (x ∷ ds) d is e =
      let same : x ≡ d = cc in
      let here : w ≡ u = omega (arith, is) in
      ap (word_edges P w) same ∙ ap (λ (y : ℕ). word_edges P y d) here
  edges_at w (suc k) u (x ∷ ds) d is e = edges_at (suc w) k u ds d (omega (arith, is)) e

  edges_none : (w k : ℕ) (ds : List WordDef) → slice_get ds k ≡ None → list_or_none (slice_get (edges_from P w ds) k) ≡ []
  edges_none w k [] e = refl
  edges_none w zero (x ∷ ds) e = absurd cc
  edges_none w (suc k) (x ∷ ds) e = edges_none (suc w) k ds e

  pub edges_count : (w : ℕ) (ds : List WordDef) → length (edges_from P w ds) ≡ length ds
  edges_count w [] = refl
  edges_count w (d ∷ ds) = ap suc (edges_count (suc w) ds)

  abbrev pub edges : List (List ℕ)
  edges = edges_from P 0 P.words

  phrase_edges_named : (w : ℕ) (r : Bool) (t : Phrase) (v : ℕ) → IsOneOf v (phrase_edges P w r t) → IsOneOf v (inline_words P t)
  phrase_edges_named w true t v e = without_only P w (inline_words P t) v e
  phrase_edges_named w false t v e = e

  sort_edges_named : (w : ℕ) (i r : Bool) (s : Sort) (v : ℕ) → IsOneOf v (sort_edges P w i r s) → IsOneOf v (elim s [ body t ↦ inline_words P t | _ ↦ [] ])
  sort_edges_named w true r (body t) v e = phrase_edges_named w r t v e
  sort_edges_named w false r (body t) v e = absurd cc
  sort_edges_named w i r (past t) v e = absurd cc
  sort_edges_named w i r (method n g t) v e = absurd cc
  sort_edges_named w i r (prim k) v e = absurd cc
  sort_edges_named w i r (core k) v e = absurd cc
  sort_edges_named w i r itself v e = absurd cc
  sort_edges_named w i r (class k) v e = absurd cc
  sort_edges_named w i r (isa k) v e = absurd cc
  sort_edges_named w i r (getter x) v e = absurd cc
  sort_edges_named w i r (setter x) v e = absurd cc
  sort_edges_named w i r (putter x) v e = absurd cc
  sort_edges_named w i r generic v e = absurd cc

  pub led_named : (u v : ℕ) (o : Option WordDef) → slice_get P.words u ≡ o → IsOneOf v (successors edges u) → IsOneOf v (body_words P o)
  led_named u v None is e = absurd (let none : IsOneOf v [] = subst (λ (vs : List ℕ). IsOneOf v vs) (edges_none 0 u P.words is) e in cc)
  led_named u v (Some d) is e = sort_edges_named u d.inline d.recursive d.sort v (subst (λ (vs : List ℕ). IsOneOf v vs) (edges_at 0 u u P.words d (omega arith) is) e)

  -- what a path of few edges leads to
  within_led : (n u v : ℕ) (ws : List ℕ) → ((x : ℕ) → IsOneOf x (successors edges u) → IsOneOf x ws) → leads_within n edges u v ≡ true → IsOneOf v (led_to P n ws)
  within_led zero u v ws begins e = absurd cc
  within_led (suc n) u v ws begins e =
      let found = any_is (λ x. nat_eq v x || leads_within n edges x v) (successors edges u) e in
      elim (or_cases (nat_eq v found.0) (leads_within n edges found.0 v) found.2) [
        | inl p ↦ led_keeps n (named_by P ws ws) v (named_keeps ws ws v (subst (λ (x : ℕ). IsOneOf x ws) (sym (same_number v found.0 p)) (begins found.0 found.1)))
        | inr p ↦ within_led n found.0 v (named_by P ws ws) (λ y h. named_adds ws ws found.0 y (begins found.0 found.1) (led_named found.0 y (slice_get P.words found.0) refl h)) p
      ]

  phrase_edges_other : (u : ℕ) (r : Bool) (t : Phrase) (v : ℕ) → (v ≡ u → ⊥) → IsOneOf v (inline_words P t) → IsOneOf v (phrase_edges P u r t)
  phrase_edges_other u true t v other e = without_keeps P u (inline_words P t) v other e
  phrase_edges_other u false t v other e = e

  pub inline_edges_are : (u : ℕ) (f : InlineWord P u) → successors edges u ≡ phrase_edges P u f.def.recursive f.phrase
  inline_edges_are u f = edges_at 0 u u P.words f.def (omega arith) f.at ∙ ap (sort_edges P u f.def.inline f.def.recursive) f.sort_is ∙ ap (λ (b : Bool). inline_edges P u b f.def.recursive f.phrase) f.inline_is

  inline_named : (u v : ℕ) (f : InlineWord P u) → IsOneOf v (body_words P (slice_get P.words u)) → IsOneOf v (inline_words P f.phrase)
  inline_named u v f e = subst (λ (vs : List ℕ). IsOneOf v vs) (ap (body_words P) f.at ∙ ap (λ (s : Sort). elim s [ body t ↦ inline_words P t | _ ↦ [] ]) f.sort_is) e

  named_path : (w u v : ℕ) (b : Bool) → nat_eq v u ≡ b → LeadsTo edges w u → (f : InlineWord P u) → IsOneOf v (inline_words P f.phrase) → LeadsTo edges w v
  named_path w u v true is path f e = subst (λ (x : ℕ). LeadsTo edges w x) (sym (same_number v u is)) path
  named_path w u v false is path f e =
      and_edge u path (subst (λ (vs : List ℕ). IsOneOf v vs) (sym (inline_edges_are u f)) (phrase_edges_other u f.def.recursive f.phrase v (λ same. let itself : nat_eq u u ≡ false = ap (λ (x : ℕ). nat_eq x u) (sym same) ∙ is in absurd (grind arith)) e))

  -- a path leads to all words that those with a path lead to
  led_path : (w n : ℕ) (ws : List ℕ) → ((v : ℕ) → IsOneOf v ws → LeadsTo edges w v × InlineWord P v) → (v : ℕ) → IsOneOf v (led_to P n ws) → LeadsTo edges w v
  led_path w zero ws all v e = (all v e).0
  led_path w (suc n) ws all v e =
      led_path w n (named_by P ws ws) (λ u h. elim (named_only ws ws u h) [
        | inl p ↦ all u p
        | inr p ↦ let from = all p.0 p.1 in let named = inline_named p.0 u from.1 p.2 in (named_path w p.0 u (nat_eq u p.0) refl from.0 from.1 named, words_inline from.1.phrase u named)
      ]) v e

  nowhere : (w v : ℕ) → successors edges w ≡ [] → LeadsTo edges w v → ⊥
  nowhere w v is (by_edge e) = absurd (let none : IsOneOf v [] = subst (λ (vs : List ℕ). IsOneOf v vs) is e in cc)
  nowhere w v is (and_edge u p e) = nowhere w u is p

  -- this is whether a word leads back to itself
  abbrev pub Tells : ℕ → Bool → Type 0
  Tells w b = (b ≡ true) ↔ LeadsTo edges w w

  no_start : (w : ℕ) (b : Bool) → successors edges w ≡ [] → Tells w b → b ≡ false
  no_start w b is h = false_from_ne_true b (λ e. nowhere w w is (h.0 e))

  begins_phrase : (w : ℕ) (r : Bool) (t : Phrase) → phrase_edges P w r t ≡ elim r [ true ↦ without P w (inline_words P t) | false ↦ inline_words P t ]
  begins_phrase w true t = refl
  begins_phrase w false t = refl

  decides_inline : (w : ℕ) (r : Bool) (t : Phrase) (b : Bool) → successors edges w ≡ phrase_edges P w r t → Tells w b → b ≡ one_of w (led_to P (length P.words) (phrase_edges P w r t))
  decides_inline w r t b is h =
      same_truth b (one_of w (led_to P (length P.words) (phrase_edges P w r t))) (λ e. within_led (length P.words) w w (phrase_edges P w r t) (λ x f. subst (λ (vs : List ℕ). IsOneOf x vs) is f) (subst (λ (n : ℕ). leads_within n edges w w ≡ true) (edges_count 0 P.words) (leads_soon edges w w (h.0 e)))) (λ e. h.1 (led_path w (length P.words) (phrase_edges P w r t) (λ v f. (by_edge (subst (λ (vs : List ℕ). IsOneOf v vs) (sym is) f), words_inline t v (phrase_edges_named w r t v f))) w e))

  decides_sort : (w : ℕ) (i r : Bool) (s : Sort) (b : Bool) → successors edges w ≡ sort_edges P w i r s → Tells w b → b ≡ elim s [ body t ↦ i && leads_back P w r t | _ ↦ false ]
  decides_sort w true r (body t) b is h = decides_inline w r t b is h ∙ ap (λ (vs : List ℕ). one_of w (led_to P (length P.words) vs)) (begins_phrase w r t)
  decides_sort w false r (body t) b is h = no_start w b is h
  decides_sort w i r (past t) b is h = no_start w b is h
  decides_sort w i r (method n g t) b is h = no_start w b is h
  decides_sort w i r (prim k) b is h = no_start w b is h
  decides_sort w i r (core k) b is h = no_start w b is h
  decides_sort w i r itself b is h = no_start w b is h
  decides_sort w i r (class k) b is h = no_start w b is h
  decides_sort w i r (isa k) b is h = no_start w b is h
  decides_sort w i r (getter x) b is h = no_start w b is h
  decides_sort w i r (setter x) b is h = no_start w b is h
  decides_sort w i r (putter x) b is h = no_start w b is h
  decides_sort w i r generic b is h = no_start w b is h

  pub decides_word : (w : ℕ) (d : WordDef) (b : Bool) → slice_get P.words w ≡ Some d → Tells w b → b ≡ undeclared P w d
  decides_word w d b at h = decides_sort w d.inline d.recursive d.sort b (edges_at 0 w w P.words d (omega arith) at) h

  flags_from : (w : ℕ) (ds : List WordDef) (flags : List Bool) → length flags ≡ length ds → ((k u : ℕ) (b : Bool) (d : WordDef) → u ≡ w + k → slice_get flags k ≡ Some b → slice_get ds k ≡ Some d → b ≡ undeclared P u d) → flags ≡ undeclared_from P w ds
  flags_from w [] [] e all = refl
  flags_from w [] (b ∷ flags) e all = absurd (omega (arith, e))
  flags_from w (d ∷ ds) [] e all = absurd (omega (arith, e))
  flags_from w (d ∷ ds) (b ∷ flags) e all =
      ap (λ (c : Bool). c ∷ flags) (all 0 w b d (omega arith) refl refl) ∙ ap (λ (fs : List Bool). undeclared P w d ∷ fs) (flags_from (suc w) ds flags (omega (arith, e)) (λ k u c x is at found. all (suc k) u c x (omega (arith, is)) at found))

edges_as_many : (es fs : List (List ℕ)) → SameEdges es fs → length es ≡ length fs
edges_as_many [] [] h = refl
edges_as_many [] (ws ∷ fs) h = absurd h
edges_as_many (vs ∷ es) [] h = absurd h
edges_as_many (vs ∷ es) (ws ∷ fs) h = ap suc (edges_as_many es fs h.1)

same_successors : (es fs : List (List ℕ)) → SameEdges es fs → (u : ℕ) → SameNumbers (successors es u) (successors fs u)
same_successors [] [] h u v = refl
same_successors [] (ws ∷ fs) h u v = absurd h
same_successors (vs ∷ es) [] h u v = absurd h
same_successors (vs ∷ es) (ws ∷ fs) h zero v = h.0 v
same_successors (vs ∷ es) (ws ∷ fs) h (suc u) v = same_successors es fs h.1 u v

module _ (es fs : List (List ℕ)) (same : (u v : ℕ) → IsOneOf v (successors es u) → IsOneOf v (successors fs u)) (u : ℕ) where
  same_paths : (v : ℕ) → LeadsTo es u v → LeadsTo fs u v
  same_paths v (by_edge e) = by_edge (same u v e)
  same_paths v (and_edge w p e) = and_edge w (same_paths w p) (same w v e)

-- what leads back by the same numbers
same_back : (es fs : List (List ℕ)) (flags : List Bool) → SameEdges es fs → AreLeadingBack es flags → AreLeadingBack fs flags
same_back es fs flags h decides = record {
  same_length = decides.same_length ∙ edges_as_many es fs h;
  each = λ u b at. (let tells = decides.each u b at in (
    (λ e. same_paths es fs (λ x v f. sym (same_successors es fs h x v) ∙ f) u u (tells.0 e)),
    (λ p. tells.1 (same_paths fs es (λ x v f. same_successors es fs h x v ∙ f) u u p)),
  ));
}

-- the flags of all words
pub flags_are : (C : Program) (ts : List Template) (edges : List (List ℕ)) (flags : List Bool) → AreEdges C ts edges → AreLeadingBack edges flags → AreUndeclared C ts flags
flags_are C ts edges flags are decides = λ P h. (
    let all = same_back edges (edges_from P 0 P.words) flags (are P h) decides in flags_from P 0 P.words flags (all.same_length ∙ edges_count P 0 P.words) (λ k u b d is at found. let here : k ≡ u = omega (arith, is) in decides_word P u d b (ap (slice_get P.words) (sym here) ∙ found) (all.each u b (ap (slice_get flags) (sym here) ∙ at)))
    )
