-- What was accepted stays accepted.
use Rattle.std.proofs.Common.{◌≡◌, ◌<◌, ℕ, zero, suc, List, [], ◌∷◌, ◌++◌, length, Bool, true, false, not, ◌&&◌, Option, Some, None, refl, sym, ap, ◌∙◌, subst, true≢false, arith}
use Rattle.std.specs.Prelude.{◌↔◌, nat_eq, slice_get}
use Rattle.std.proofs.lemmas.Bool.{false_from_ne_true}
use Rattle.fac_base.specs.declared.place.Place.{Place}
use Rattle.fac_base.specs.Effects.{inputs_count}
use Rattle.fac_lang.specs.declared.program.Program.{Program}
use Rattle.fac_lang.specs.declared.program.Sort.{Sort}
use Rattle.fac_lang.specs.declared.program.Sort.TheVariants.{Prim as prim, Core as core, Body as body, Past as past, Itself as itself, Class as class, Isa as isa, Getter as getter, Setter as setter, Putter as putter, Generic as generic, Method as method}
use Rattle.fac_lang.specs.declared.program.WordDef.{WordDef}
use Rattle.fac_lang.specs.Phrases.{int, yes, no, str, wrd, Phrase, end, then, Item, lit, lit_arr, quot, word, bind, local, fry, hole, call_effect, execute_effect, next_method, Mark}
use Rattle.fac_lang.specs.Substitution.{of_method}
use Rattle.fac_lang.specs.Whole.{IsWhole}
use Rattle.fac_lang.proofs.SourcePrograms.{IsSessionProgram, IsPhraseOf, IsItemOf, IsSortOf, may_name, session_of_whole}
use Rattle.fac_lang.proofs.SessionWords.{word_below, top_word, may_name_before}
use Rattle.fac_base.specs.Signatures.{Signature, Leaving, never, leaves}
use Rattle.fac_abs.specs.RowVariables.{Row, effect_inputs, effect_leaving, outer_in, outer_out, has_rows, bindable, is_row}
use Rattle.fac_abs.specs.Marks.{AbstractStack, dead, on, unknowns}
use Rattle.fac_abs.specs.declared.rule.Rule.{Rule}
use Rattle.fac_abs.specs.declared.rule.Rule.TheVariants.{UndeclaredRecursion, RowDeclaration, MethodEffect}
use Rattle.fac_rows.specs.RowBinding.{inputs_marks}
use Rattle.fac_graph.specs.Paths.{IsOneOf, successors, LeadsTo, by_edge, and_edge, leads_within}
use Rattle.fac_check.specs.declared.refusal.Broken.{Broken}
use Rattle.fac_check.specs.Flow.{Walked, found, refused, walked}
use Rattle.fac_check.specs.Verdicts.{without, inline_body, inline_words, item_words, body_words, leads_back, undeclared, is_inline_body, bad_rows, bad_generic, kept_word, end_of, ordinary_verdict, row_verdict, inline_verdict, body_verdict, phrase_verdict, sort_verdict, ruled_verdict, word_verdict}
use Rattle.fac_check.specs.inner.UndeclaredRecursion.{phrase_edges}
use Rattle.fac_check.proofs.UndeclaredWords.{InlineWord, words_inline, edges, led_named, inline_edges_are, decides_word}
use Rattle.fac_graph.proofs.NumberLists.{some_same}
use Rattle.fac_graph.proofs.PathLemmas.{short_paths}
use Rattle.fac_longer.specs.Longer.{GoesOn}
use Rattle.fac_lang.specs.LongerPrograms.{IsLonger, as_earlier, with_earlier}
use Rattle.fac_longer.specs.Laws.{VerdictsStay}
use Rattle.fac_longer.proofs.LongerPrograms.{earlier, phrase_at, goes_on}
use Rattle.fac_longer.proofs.Staying.{found_stays}

no_truth : {A : Type 0} → true ≡ false → A
no_truth h = absurd (true≢false h)

-- Words that lead back to themselves.
module _ (P Q : Program) (p : IsWhole P) (G : GoesOn P Q) where
  b : IsSessionProgram P
  b = session_of_whole P p

  without_same : (w : ℕ) (vs : List ℕ) → without Q w vs ≡ without P w vs
  without_same w [] = refl
  without_same w (v ∷ vs) = ap (λ (us : List ℕ). elim (nat_eq w v) [ true ↦ us | false ↦ v ∷ us ]) (without_same w vs)

  edges_same : (w : ℕ) (r : Bool) (t : Phrase) → inline_words Q t ≡ inline_words P t → phrase_edges Q w r t ≡ phrase_edges P w r t
  edges_same w true t e = ap (without Q w) e ∙ without_same w (inline_words P t)
  edges_same w false t e = e

  before_top : (w : ℕ) → w < P.top → nat_eq w P.top ≡ false
  before_top w lt = grind arith

  -- a word that a phrase of the first names is the same in the second
  named_same : (w : ℕ) → may_name P w ≡ true → inline_body Q w (slice_get Q.words w) ≡ inline_body P w (slice_get P.words w)
  named_same w h =
      let lt = may_name_before P w h in
      let there = word_below P b w lt in
      ap (inline_body Q w) (G.words w there.def there.at (before_top w lt)) ∙ sym (ap (inline_body P w) there.at)

  mutual
    words_same : (t : Phrase) → IsPhraseOf (may_name P) t → inline_words Q t ≡ inline_words P t
    words_same end h = refl
    words_same (then i at t) h = ap (λ (vs : List ℕ). vs ++ inline_words Q t) (item_same i h.0) ∙ ap (λ (vs : List ℕ). item_words P i ++ vs) (words_same t h.1)

    item_same : (i : Item) → IsItemOf (may_name P) i → item_words Q i ≡ item_words P i
    item_same (lit (wrd w)) h = named_same w h
    item_same (word w) h = named_same w h
    item_same (quot t) h = words_same t h
    item_same (fry t n) h = words_same t h
    item_same (lit (int z)) h = refl
    item_same (lit yes) h = refl
    item_same (lit no) h = refl
    item_same (lit (str cs)) h = refl
    item_same (lit_arr a) h = refl
    item_same (bind x) h = refl
    item_same (local x) h = refl
    item_same (hole k) h = refl
    item_same (call_effect e) h = refl
    item_same (execute_effect e) h = refl
    item_same next_method h = refl
    item_same _ h = absurd h

  -- an inline word isn't the top-level phrase
  inline_before : (w : ℕ) → InlineWord P w → nat_eq w P.top ≡ false
  inline_before w f = false_from_ne_true (nat_eq w P.top) (λ e.
      let same : w ≡ P.top = grind arith in
      let is : f.def ≡ b.last_word = let here = f.at in let top = ap (slice_get P.words) same ∙ top_word P b in cc in
      no_truth (sym f.inline_is ∙ ap (λ (d : WordDef). d.inline) is ∙ b.last_word_is.not_inline))

  inline_below : (w : ℕ) → InlineWord P w → w < P.top
  inline_below w f =
      let other = inline_before w f in
      let many : w < length P.words = there P.words w f.def f.at in
      let count = p.top_last in
      under w P.top other (omega (arith, many, count))
    where
      there : (ds : List WordDef) (k : ℕ) (d : WordDef) → slice_get ds k ≡ Some d → k < length ds
      there [] k d e = absurd (cc)
      there (x ∷ ds) zero d e = omega arith
      there (x ∷ ds) (suc k) d e = let more = there ds k d e in omega (arith, more)

      under : (w k : ℕ) → nat_eq w k ≡ false → w < suc k → w < k
      under w k other less = grind arith

  inline_in : (w : ℕ) → InlineWord P w → InlineWord Q w
  inline_in w f = record { def = f.def; phrase = f.phrase; at = G.words w f.def f.at (inline_before w f); sort_is = f.sort_is; inline_is = f.inline_is }

  phrase_from : (w : ℕ) (f : InlineWord P w) → IsPhraseOf (may_name P) f.phrase
  phrase_from w f =
      let there = word_below P b w (inline_below w f) in
      let same : there.def ≡ f.def = let one = there.at in let two = f.at in cc in
      subst (IsSortOf (may_name P) f.def) f.sort_is (subst (λ (d : WordDef). IsSortOf (may_name P) d d.sort) same there.from_source)

  successors_same : (w : ℕ) → InlineWord P w → successors (edges Q) w ≡ successors (edges P) w
  unfolding inline_in
  successors_same w f = inline_edges_are Q w (inline_in w f) ∙ edges_same w f.def.recursive f.phrase (words_same f.phrase (phrase_from w f)) ∙ sym (inline_edges_are P w f)

  -- what a word leads to is inline
  body_inline : (v : ℕ) (o : Option WordDef) → IsOneOf v (body_words P o) → InlineWord P v
  body_inline v None e = absurd (cc)
  body_inline v (Some d) e = by d.sort e
    where
      by : (s : Sort) → IsOneOf v (elim s [ body t ↦ inline_words P t | _ ↦ [] ]) → InlineWord P v
      by (body t) e = words_inline P t v e
      by (prim k) e = absurd (cc)
      by (core k) e = absurd (cc)
      by (past t) e = absurd (cc)
      by itself e = absurd (cc)
      by (class c) e = absurd (cc)
      by (isa c) e = absurd (cc)
      by (getter s) e = absurd (cc)
      by (setter s) e = absurd (cc)
      by (putter s) e = absurd (cc)
      by generic e = absurd (cc)
      by (method c g t) e = absurd (cc)

  led_inline : (u v : ℕ) → IsOneOf v (successors (edges P) u) → InlineWord P v
  led_inline u v e = body_inline v (slice_get P.words u) (led_named P u v (slice_get P.words u) refl e)

  reached : (u v : ℕ) → LeadsTo (edges P) u v → InlineWord P v
  reached u v (by_edge e) = led_inline u v e
  reached u v (and_edge w path e) = led_inline w v e

  paths_stay : (u v : ℕ) → InlineWord P u → LeadsTo (edges Q) u v → LeadsTo (edges P) u v
  paths_stay u v f (by_edge e) = by_edge (subst (IsOneOf v) (successors_same u f) e)
  paths_stay u v f (and_edge w path e) =
      let own = paths_stay u w f path in
      and_edge w own (subst (IsOneOf v) (successors_same w (reached u w own)) e)

  -- whether a word leads back to itself is told by a short path
  tells : (R : Program) (w : ℕ) (d : WordDef) → slice_get R.words w ≡ Some d → (undeclared R w d ≡ true) ↔ LeadsTo (edges R) w w
  tells R w d at =
      let short = short_paths (edges R) w w in
      let is = decides_word R w d (leads_within (length (edges R)) (edges R) w w) at short in
      ((λ e. short.0 (is ∙ e)), (λ path. sym is ∙ short.1 path))

  -- a word that leads back to itself is inline
  back_inline : (w : ℕ) (d : WordDef) → slice_get P.words w ≡ Some d → undeclared Q w d ≡ true → InlineWord P w
  back_inline w d at h = by d.sort refl h
    where
      and_first : (x y : Bool) → (x && y) ≡ true → x ≡ true
      and_first true y e = refl
      and_first false y e = absurd (cc)

      by : (s : Sort) → d.sort ≡ s → elim s [ body t ↦ d.inline && leads_back Q w d.recursive t | _ ↦ false ] ≡ true → InlineWord P w
      by (body t) is e = record { def = d; phrase = t; at = at; sort_is = is; inline_is = and_first d.inline (leads_back Q w d.recursive t) e }
      by (prim k) is e = absurd (cc)
      by (core k) is e = absurd (cc)
      by (past t) is e = absurd (cc)
      by itself is e = absurd (cc)
      by (class c) is e = absurd (cc)
      by (isa c) is e = absurd (cc)
      by (getter s) is e = absurd (cc)
      by (setter s) is e = absurd (cc)
      by (putter s) is e = absurd (cc)
      by generic is e = absurd (cc)
      by (method c g t) is e = absurd (cc)

  undeclared_stays : (w : ℕ) (d : WordDef) → slice_get P.words w ≡ Some d → nat_eq w P.top ≡ false → undeclared P w d ≡ false → undeclared Q w d ≡ false
  undeclared_stays w d at other none = false_from_ne_true (undeclared Q w d) (λ e.
      let path = (tells Q w d (G.words w d at other)).0 e in
      no_truth (sym ((tells P w d at).1 (paths_stay w w (back_inline w d at e) path)) ∙ none))

-- Verdicts that go by a walk.
module _ (P Q : Program) (G : GoesOn P Q) where
  end_stays : (own : Option Signature) (o : Option ℕ) (w : ℕ) (t : Phrase) (r : Option Row) (ms : List Mark) (go gone : AbstractStack → Option Broken) → ((A : AbstractStack) → go A ≡ None → gone A ≡ None) →
      (x : Walked AbstractStack) → walked P own o w t r ms ≡ x → end_of P x go ≡ None → end_of Q (walked Q own o w t r ms) gone ≡ None
  end_stays own o w t r ms go gone keeps (found A n) e h = ap (λ (x : Walked AbstractStack). end_of Q x gone) (found_stays P Q G own o w t r ms A n e) ∙ keeps A h
  end_stays own o w t r ms go gone keeps (refused k at) e h = absurd (cc)

  kept_same : (l : Leaving) (r : Option Row) (at : Place) (A : AbstractStack) → kept_word Q l r at A ≡ kept_word P l r at A
  kept_same l r at dead = refl
  kept_same never r at (on b ms) = refl
  kept_same (leaves s names) r at (on b ms) = refl

  kept_stays : (l : Leaving) (r : Option Row) (at : Place) (A : AbstractStack) → kept_word P l r at A ≡ None → kept_word Q l r at A ≡ None
  kept_stays l r at A h = kept_same l r at A ∙ h

  ordinary_stays : (w : ℕ) (t : Phrase) (d : WordDef) → ordinary_verdict P w t d ≡ None → ordinary_verdict Q w t d ≡ None
  ordinary_stays w t d h =
      let ms = unknowns (inputs_count (effect_inputs d.effect)) [] in
      end_stays None None w t None ms (kept_word P (effect_leaving d.effect) None d.place) (kept_word Q (effect_leaving d.effect) None d.place) (kept_stays (effect_leaving d.effect) None d.place) (walked P None None w t None ms) refl h

  row_stays : (w : ℕ) (t : Phrase) (d : WordDef) → row_verdict P w t d ≡ None → row_verdict Q w t d ≡ None
  row_stays w t d h =
      let ms = inputs_marks 1 (effect_inputs d.effect) [] in
      let r = outer_out d.effect in
      end_stays (Some d.effect) (Some w) w t (outer_in d.effect) ms (kept_word P (effect_leaving d.effect) r d.place) (kept_word Q (effect_leaving d.effect) r d.place) (kept_stays (effect_leaving d.effect) r d.place) (walked P (Some d.effect) (Some w) w t (outer_in d.effect) ms) refl h

  inline_stays : (row : Bool) (w : ℕ) (t : Phrase) (d : WordDef) → inline_verdict P row w t d ≡ None → inline_verdict Q row w t d ≡ None
  inline_stays true w t d h = row_stays w t d h
  inline_stays false w t d h = refl

  body_stays : (inline : Bool) (w : ℕ) (t : Phrase) (d : WordDef) → body_verdict P inline w t d ≡ None → body_verdict Q inline w t d ≡ None
  body_stays true w t d h = inline_stays (is_row d.recursive d.effect) w t d h
  body_stays false w t d h = ordinary_stays w t d h

  phrase_stays : (top over : Bool) (m n w : ℕ) (t : Phrase) (d : WordDef) → top ≡ false → over ≡ false → phrase_verdict P top m w t d ≡ None → phrase_verdict Q over n w t d ≡ None
  phrase_stays true over m n w t d e f h = absurd (cc)
  phrase_stays false true m n w t d e f h = absurd (cc)
  phrase_stays false false m n w t d e f h = body_stays d.inline w t d h

  sort_stays : (m n w : ℕ) (d : WordDef) (s : Sort) → nat_eq w P.top ≡ false → nat_eq w Q.top ≡ false → sort_verdict P m w d s ≡ None → sort_verdict Q n w d s ≡ None
  sort_stays m n w d (body t) e f h = phrase_stays (nat_eq w P.top) (nat_eq w Q.top) m n w t d e f h
  sort_stays m n w d (method c g t) e f h = ordinary_stays w (of_method w t) d h
  sort_stays m n w d _ e f h = refl

  rows_stay : (w : ℕ) (d : WordDef) → nat_eq w P.top ≡ false → nat_eq w Q.top ≡ false → bad_rows Q w d ≡ bad_rows P w d
  rows_stay w d e f = ap (λ (x : Bool). elim d.sort [ past t ↦ false | _ ↦ not x && (has_rows d.effect && not (is_inline_body P d && bindable d.effect)) ]) (f ∙ sym e)

-- the rules that need no walk, without the first, and without the first two
abbrev later_rules : Program → ℕ → WordDef → List (Bool × Rule)
later_rules R w d = (bad_rows R w d, RowDeclaration) ∷ (bad_generic d.sort d.effect, MethodEffect) ∷ []

abbrev last_rule : WordDef → List (Bool × Rule)
last_rule d = (bad_generic d.sort d.effect, MethodEffect) ∷ []

-- a rule that isn't broken, before others
first_kept : (R : Program) (x : Bool) (r : Rule) (rs : List (Bool × Rule)) (m w : ℕ) (d : WordDef) → ruled_verdict R ((x, r) ∷ rs) m w d ≡ None → (x ≡ false) × (ruled_verdict R rs m w d ≡ None)
first_kept R true r rs m w d h = absurd (cc)
first_kept R false r rs m w d h = (refl, h)

first_keeps : (R : Program) (x : Bool) (r : Rule) (rs : List (Bool × Rule)) (n w : ℕ) (d : WordDef) → x ≡ false → ruled_verdict R rs n w d ≡ None → ruled_verdict R ((x, r) ∷ rs) n w d ≡ None
first_keeps R true r rs n w d e h = absurd (cc)
first_keeps R false r rs n w d e h = h

-- an earlier phrase is accepted
past_accepted : (R : Program) (n w : ℕ) (c : WordDef) (t : Phrase) → c.sort ≡ past t → word_verdict R n w c ≡ None
past_accepted R n w c t is =
    let none : undeclared R w c ≡ false = ap (λ (s : Sort). elim s [ body u ↦ c.inline && leads_back R w c.recursive u | _ ↦ false ]) is in
    let rows : bad_rows R w c ≡ false = ap (λ (s : Sort). elim s [ past u ↦ false | _ ↦ not (nat_eq w R.top) && (has_rows c.effect && not (is_inline_body R c && bindable c.effect)) ]) is in
    let generics : bad_generic c.sort c.effect ≡ false = ap (λ (s : Sort). bad_generic s c.effect) is in
    let walk : sort_verdict R n w c c.sort ≡ None = ap (sort_verdict R n w c) is in
    first_keeps R (undeclared R w c) UndeclaredRecursion (later_rules R w c) n w c none
    (first_keeps R (bad_rows R w c) RowDeclaration (last_rule c) n w c rows (first_keeps R (bad_generic c.sort c.effect) MethodEffect [] n w c generics walk))

stays_by : (P Q : Program) → IsWhole P → IsLonger P Q → GoesOn P Q → (m n w : ℕ) (d c : WordDef) → slice_get P.words w ≡ Some d → slice_get Q.words w ≡ Some c → word_verdict P m w d ≡ None → word_verdict Q n w c ≡ None
stays_by P Q p F G m n w d c at there h = by (nat_eq w P.top) refl
  where
    by : (x : Bool) → nat_eq w P.top ≡ x → word_verdict Q n w c ≡ None
    by true e =
        let same : w ≡ P.top = grind arith in
        let phrase = G.phrase w d at e in
        let found : slice_get Q.words w ≡ Some (earlier d) = ap (λ (ds : List WordDef). slice_get ds w) F.words_are ∙ subst (λ (k : ℕ). slice_get (with_earlier k P.words ++ F.more_words) w ≡ Some (earlier d)) same (phrase_at w P.words F.more_words d at) in
        let is : c ≡ earlier d = some_same c (earlier d) (sym there ∙ found) in
        past_accepted Q n w c phrase.0 (ap (λ (x : WordDef). x.sort) is ∙ ap as_earlier phrase.1)
    by false e =
        let over = G.below w d at in
        let is : c ≡ d = some_same c d (sym there ∙ G.words w d at e) in
        let first = first_kept P (undeclared P w d) UndeclaredRecursion (later_rules P w d) m w d h in
        let second = first_kept P (bad_rows P w d) RowDeclaration (last_rule d) m w d first.1 in
        let third = first_kept P (bad_generic d.sort d.effect) MethodEffect [] m w d second.1 in
        subst (λ (x : WordDef). word_verdict Q n w x ≡ None) (sym is)
        (first_keeps Q (undeclared Q w d) UndeclaredRecursion (later_rules Q w d) n w d (undeclared_stays P Q p G w d at e first.0)
        (first_keeps Q (bad_rows Q w d) RowDeclaration (last_rule d) n w d (rows_stay P Q G w d e over ∙ second.0)
        (first_keeps Q (bad_generic d.sort d.effect) MethodEffect [] n w d third.0 (sort_stays P Q G m n w d d.sort e over third.1))))

pub verdicts_stay : VerdictsStay
verdicts_stay P Q p q F m n w d c at there h = stays_by P Q p F (goes_on P Q p q F) m n w d c at there h
