-- The verdict on a word, from the walk of its closed phrase.
use Rattle.std.proofs.Common.{◌≡◌, ◌≢◌, ◌<◌, ◌≤◌, ◌+◌, ℕ, List, [], ◌∷◌, ◌++◌, length, Bool, true, false, Option, Some, None, refl, sym, ap, subst, ◌∙◌, arith}
use Rattle.std.specs.Prelude.{nat_eq, not, ◌&&◌, slice_get}
use Rattle.std.proofs.lemmas.Bool.{ne_eqb}
use Rattle.fac_lang.specs.declared.phrase.Template.{Template}
use Rattle.fac_lang.specs.declared.program.Program.{Program}
use Rattle.fac_lang.specs.declared.program.WordDef.{WordDef}
use Rattle.fac_lang.specs.declared.program.Sort.{Sort}
use Rattle.fac_lang.specs.declared.program.Sort.TheVariants.{Body as body, Past as past, Generic as generic, Method as method}
use Rattle.fac_lang.specs.Phrases.{Literal, Phrase, then, made, Mark}
use Rattle.fac_lang.specs.Meaning.{nowhere}
use Rattle.fac_base.specs.Signatures.{Signature, signature}
use Rattle.fac_base.specs.Effects.{effect_height, inputs_count}
use Rattle.fac_lang.specs.Substitution.{of_method}
use Rattle.fac_lang.specs.Whole.{IsWhole}
use Rattle.fac_locals.specs.Literals.{first_of_word, literal_numbered}
use Rattle.fac_locals.specs.Closed.{Closes, ClosesSort, ClosesWord}
use Rattle.fac_locals.specs.Frames.{Opens}
use Rattle.fac_locals.proofs.OpeningLaws.{programs_open}
use Rattle.fac_locals.proofs.Lookups.{word_closed}
use Rattle.fac_abs.specs.RowVariables.{effect_inputs, effect_leaving, outer_in, outer_out, has_rows, bindable, is_row}
use Rattle.fac_abs.specs.Marks.{AbstractStack, unknowns}
use Rattle.fac_abs.specs.MarkTrees.{Naming}
use Rattle.fac_abs.specs.SeenMarks.{MarksSeen, frame_of, stack_of, base_seen}
use Rattle.fac_abs.specs.declared.rule.Rule.{Rule}
use Rattle.fac_abs.specs.declared.rule.Rule.TheVariants.{UndeclaredRecursion, RowDeclaration, MethodEffect}
use Rattle.fac_rows.specs.RowBinding.{inputs_marks}
use Rattle.fac_rows.specs.RowNumbers.{NamesRows, NamesOwn}
use Rattle.fac_rows.proofs.NamingRows.{naming_for, naming_for_names}
use Rattle.fac_check.specs.declared.refusal.Broken.{Broken}
use Rattle.fac_check.specs.declared.walker.Walked.{Walked}
use Rattle.fac_check.specs.Flow.{Walked as WalkedPhrase, most_steps, walk, doing, walked}
use Rattle.fac_check.specs.Verdicts.{broken_at, end_of, kept_word, ordinary_verdict, row_verdict, top_verdict, inline_verdict, body_verdict, phrase_verdict, sort_verdict, ruled_verdict, word_verdict, undeclared, bad_rows, bad_generic, no_generic_effect}
use Rattle.fac_check.specs.inner.Walking.{Opened, NamesTemplate, items_of, walked_seen, go_at}
use Rattle.fac_check.specs.inner.Alone.{placed_alone}
use Rattle.fac_check.specs.inner.OwnEffects.{effect_where, own_effect}
use Rattle.fac_check.specs.inner.UndeclaredRecursion.{NumbersFrom, inline_phrase}
use Rattle.fac_check.specs.inner.BrokenRules.{bad_rows_so, is_past_sort, generic_rule}
use Rattle.fac_check.proofs.ClosedSorts.{past_same}
use Rattle.fac_check.proofs.NamedWords.{closes_inline}

-- A naming of a program's literals by the numbers of their templates, and of those in a phrase that is walked by itself.
pub record NamesLiterals (P : Program) (templates : List Template) (inner : ℕ) (first : Literal) : Type 0 where
  pub naming : Naming
  pub literal_is : (k : ℕ) → k < length templates → naming.literal k ≡ (literal_numbered P k).at
  pub template_is : (k : ℕ) (t : Template) → slice_get templates k ≡ Some t → NamesTemplate P naming k k t
  pub first_is : (at : Literal) → NumbersFrom P at inner → first.word ≡ at.word → first.around ≡ at.around → first.index ≤ at.index
  pub literals_behind : (k : ℕ) → inner ≤ k → k < length templates → first.word ≡ (literal_numbered P k).at.word → first.around ≡ (literal_numbered P k).at.around → first.index ≤ (literal_numbered P k).at.index
  pub apart_is : (k : ℕ) → inner ≤ k → k < length templates → naming.literal (length templates + k) ≡ placed_alone first (literal_numbered P k).at
  pub template_apart_is : (k : ℕ) (t : Template) → inner ≤ k → slice_get templates k ≡ Some t → NamesTemplate P naming (length templates + k) k t
  pub none_is : (n : ℕ) → length templates ≤ n → n < length templates + inner → (ms : List Mark) → (rest : Phrase) × (naming.phrase n ms ≡ then (made 0) nowhere rest)

-- The templates of a whole program's closed one name its literals, and the bases of a walk name the rows of the word that is checked.
abbrev pub opened : (P C : Program) (templates : List Template) (own : Option ℕ) (inner : ℕ) (first : Literal) → Closes P C templates → IsWhole P → NamesLiterals P templates inner first → Opened C templates own inner
opened P C templates own inner first closes whole names = record {
  program = P;
  closes = closes;
  whole = whole;
  opens = programs_open P C templates closes;
  naming = naming_for names.naming (own_effect C own);
  literal_is = names.literal_is;
  template_is = λ k t e. let n = names.template_is k t e in record { phrase_is = n.phrase_is; other_is = n.other_is };
  first = first;
  first_is = names.first_is;
  literals_behind = names.literals_behind;
  apart_is = names.apart_is;
  template_apart_is = λ k t ge e. let n = names.template_apart_is k t ge e in record { phrase_is = n.phrase_is; other_is = n.other_is };
  none_is = names.none_is;
  word = own;
  word_is = refl;
  effect = own_effect C own;
  effect_is = refl;
  rows = naming_for_names names.naming (own_effect C own);
}

height_inputs : (e : Signature) → (effect_height e).ins ≡ inputs_count (effect_inputs e)
height_inputs (signature r is l) = refl

-- a walk of a whole phrase from a stack on a base, as the code's calls tell it
abbrev pub WalksWhole : Program → List Template → Option ℕ → ℕ → Phrase → MarksSeen → MarksSeen → Option ℕ → ℕ → Walked → Type 0
WalksWhole C templates own inner phrase M K base s W =
    (O : Opened C templates own inner) (at here : Literal) (t : Phrase) (f : ℕ) → here ≡ at → Opens O.program templates (items_of (frame_of O.naming M 0)) at phrase t → 200000 < f → walked_seen O.naming K W ≡ go_at O f here 64 t (base_seen O.naming base) (stack_of O.naming M s) 200000

-- what a word breaks whose walk ends so, and that must leave its outputs on this row, as the code's calls tell it
abbrev pub IsKeptOn : WordDef → MarksSeen → Walked → Option ℕ → Option Broken → Type 0
IsKeptOn c K W row b = (Q : Program) (N : Naming) → b ≡ end_of Q (walked_seen N K W) (kept_word Q (effect_leaving c.effect) (base_seen N row) c.place)

module _ (P C : Program) (templates : List Template) (closes : Closes P C templates) (whole : IsWhole P) (inner : ℕ) (first : Literal) (names : NamesLiterals P templates inner first) where
  -- a phrase that opens under the empty frame does under one with no marks
  under : {at : Literal} {c t : Phrase} (fs : List Mark) → fs ≡ [] → Opens P templates [] at c t → Opens P templates (items_of fs) at c t
  under {at} {c} {t} fs e h = subst (λ (xs : List Mark). Opens P templates (items_of xs) at c t) (sym e) h

  pub ordinary_is :
      (w : ℕ) (d c : WordDef) (t phrase : Phrase) (M K : MarksSeen) (s ins : ℕ) (W : Walked) (b : Option Broken) →
      ClosesWord P w d c → Opens P templates [] (first_of_word w) phrase t →
      IsKeptOn c K W None b →
      WalksWhole C templates None inner phrase M K None s W → ((N : Naming) → frame_of N M 0 ≡ []) → ((N : Naming) → stack_of N M s ≡ unknowns ins []) → ins ≡ (effect_height c.effect).ins →
      b ≡ ordinary_verdict P w t d
  ordinary_is w d c t phrase M K s ins W b word text kept walks empty stack many =
      let O = opened P C templates None inner first closes whole names in
      let N = O.naming in
      let count : ins ≡ inputs_count (effect_inputs d.effect) = many ∙ ap (λ e. (effect_height e).ins) word.effect ∙ height_inputs d.effect in
      kept P N
      ∙ ap (λ x. end_of P x (kept_word P (effect_leaving c.effect) None c.place)) (walks O (first_of_word w) (first_of_word w) t most_steps refl (under (frame_of N M 0) (empty N) text) (omega arith) ∙ ap (λ ms. go_at O most_steps (first_of_word w) 64 t None ms 200000) (stack N ∙ ap (λ n. unknowns n []) count))
      ∙ ap (λ e. end_of P (go_at O most_steps (first_of_word w) 64 t None (unknowns (inputs_count (effect_inputs d.effect)) []) 200000) (kept_word P (effect_leaving e) None c.place)) word.effect
      ∙ ap (λ p. end_of P (go_at O most_steps (first_of_word w) 64 t None (unknowns (inputs_count (effect_inputs d.effect)) []) 200000) (kept_word P (effect_leaving d.effect) None p)) word.place

  pub top_is :
      (w : ℕ) (t phrase : Phrase) (M K : MarksSeen) (s start : ℕ) (W : Walked) (b : Option Broken) →
      Opens P templates [] (first_of_word w) phrase t → ((Q : Program) (N : Naming) (L : MarksSeen) → b ≡ end_of Q (walked_seen N L W) (λ A. None)) →
      WalksWhole C templates None inner phrase M K None s W → ((N : Naming) → frame_of N M 0 ≡ []) → ((N : Naming) → stack_of N M s ≡ unknowns start []) →
      b ≡ top_verdict P start w t
  top_is w t phrase M K s start W b text kept walks empty stack =
      let O = opened P C templates None inner first closes whole names in
      let N = O.naming in
      kept P N K ∙ ap (λ x. end_of P x (λ A. None)) (walks O (first_of_word w) (first_of_word w) t most_steps refl (under (frame_of N M 0) (empty N) text) (omega arith) ∙ ap (λ ms. go_at O most_steps (first_of_word w) 64 t None ms 200000) (stack N))

  -- the effect of a word is that of its closed one
  own_is : (w : ℕ) (d : WordDef) → slice_get P.words w ≡ Some d → own_effect C (Some w) ≡ Some d.effect
  own_is w d at = (let found = word_closed P C templates closes w d at in ap effect_where found.at ∙ ap (λ e. Some e) found.closes.effect)

  pub row_is :
      (w : ℕ) (d c : WordDef) (t phrase : Phrase) (M K : MarksSeen) (base row : Option ℕ) (s : ℕ) (W : Walked) (b : Option Broken) →
      slice_get P.words w ≡ Some d → ClosesWord P w d c → Opens P templates [] (first_of_word w) phrase t →
      IsKeptOn c K W row b →
      WalksWhole C templates (Some w) inner phrase M K base s W → ((N : Naming) → frame_of N M 0 ≡ []) → ((N : Naming) → stack_of N M s ≡ inputs_marks 1 (effect_inputs c.effect) []) →
      ((N : Naming) → NamesRows N c.effect → base_seen N base ≡ outer_in c.effect) → ((N : Naming) → NamesRows N c.effect → base_seen N row ≡ outer_out c.effect) →
      b ≡ row_verdict P w t d
  row_is w d c t phrase M K base row s W b at word text kept walks empty stack begins ends =
      let O = opened P C templates (Some w) inner first closes whole names in
      let N = O.naming in
      let own = own_is w d at in
      let names : NamesRows N c.effect = subst (λ e. NamesRows N e) (sym word.effect) (subst (λ o. NamesOwn N o) own O.rows) in
      let at_base = begins N names ∙ ap outer_in word.effect in
      let at_stack = stack N ∙ ap (λ e. inputs_marks 1 (effect_inputs e) []) word.effect in
      let go : WalkedPhrase AbstractStack = walked P (Some d.effect) (Some w) w t (outer_in d.effect) (inputs_marks 1 (effect_inputs d.effect) []) in
      kept P N
      ∙ ap (λ x. end_of P x (kept_word P (effect_leaving c.effect) (base_seen N row) c.place))
      (walks O (first_of_word w) (first_of_word w) t most_steps refl (under (frame_of N M 0) (empty N) text) (omega arith)
      ∙ ap (λ o. walk o (doing P (Some w)) most_steps (first_of_word w) 64 t (base_seen N base) (stack_of N M s) 200000) own
      ∙ ap (λ r. walked P (Some d.effect) (Some w) w t r (stack_of N M s)) at_base
      ∙ ap (λ ms. walked P (Some d.effect) (Some w) w t (outer_in d.effect) ms) at_stack)
      ∙ ap (λ r. end_of P go (kept_word P (effect_leaving c.effect) r c.place)) (ends N names)
      ∙ ap (λ e. end_of P go (kept_word P (effect_leaving e) (outer_out e) c.place)) word.effect
      ∙ ap (λ p. end_of P go (kept_word P (effect_leaving d.effect) (outer_out d.effect) p)) word.place

module _ (P : Program) (w : ℕ) (d : WordDef) where
  -- a row word is walked, and an expanded word isn't
  pub row_word_is : (t : Phrase) (x : Option Broken) → is_row d.recursive d.effect ≡ true → x ≡ row_verdict P w t d → x ≡ inline_verdict P (is_row d.recursive d.effect) w t d
  row_word_is t x e h = h ∙ ap (λ r. inline_verdict P r w t d) (sym e)

  pub expanded_is : (t : Phrase) → is_row d.recursive d.effect ≡ false → None ≡ inline_verdict P (is_row d.recursive d.effect) w t d
  expanded_is t e = sym (ap (λ r. inline_verdict P r w t d) e)

  pub inline_is : (start : ℕ) (t : Phrase) (x : Option Broken) → w ≢ P.top → d.inline ≡ true → x ≡ inline_verdict P (is_row d.recursive d.effect) w t d → x ≡ phrase_verdict P (nat_eq w P.top) start w t d
  inline_is start t x other inline h = h ∙ ap (λ i. body_verdict P i w t d) (sym inline) ∙ ap (λ q. phrase_verdict P q start w t d) (sym (ne_eqb w P.top other))

module _ (P : Program) (w : ℕ) (d c : WordDef) (closes : ClosesWord P w d c) where
  pub row_mark_is : is_row d.recursive d.effect ≡ is_row c.recursive c.effect
  row_mark_is = rw (closes.recursive, closes.effect) refl

  abbrev rows_so : ℕ → Bool → Bool → Signature → Bool
  rows_so top late inline e = not (nat_eq w top) && (not late && (has_rows e && not (inline && bindable e)))

  abbrev inline_by : Sort → Bool → Bool
  inline_by s i = elim s [ body t ↦ i | _ ↦ false ]

  abbrev rows_by : Sort → Bool → Signature → Bool
  rows_by s inline e = elim s [ past t ↦ false | _ ↦ not (nat_eq w P.top) && (has_rows e && not (inline && bindable e)) ]

  neither : (b : Bool) → (b && false) ≡ false
  neither true = refl
  neither false = refl

  rows_sorted : (s : Sort) (i : Bool) (e : Signature) → rows_so P.top (is_past_sort s) (inline_phrase i s) e ≡ rows_by s (inline_by s i) e
  rows_sorted (past t) i e = neither (not (nat_eq w P.top))
  rows_sorted _ i e = refl

  -- the code's test of row declarations
  pub bad_rows_are : (top : ℕ) → top ≡ P.top → bad_rows_so top w c ≡ bad_rows P w d
  bad_rows_are top same =
      ap (λ n. bad_rows_so n w c) same
      ∙ ap (λ e. rows_so P.top (is_past_sort c.sort) (inline_phrase c.inline c.sort) e) closes.effect
      ∙ ap (λ (b : Bool). rows_so P.top b (inline_phrase c.inline c.sort) d.effect) (past_same P w d.sort c.sort closes.sort)
      ∙ ap (λ (b : Bool). rows_so P.top (is_past_sort d.sort) b d.effect) (ap (λ (b : Bool). inline_phrase b c.sort) closes.inline ∙ closes_inline P w d.inline d.sort c.sort closes.sort)
      ∙ rows_sorted d.sort d.inline d.effect

-- none of these rules is broken
abbrev pub NoneBroken : List (Bool × Rule) → Type 0
NoneBroken [] = Unit {0}
NoneBroken (r ∷ rs) = (r.0 ≡ false) × NoneBroken rs

module _ (P : Program) (start w : ℕ) (d : WordDef) where
  -- rules that aren't broken decide nothing
  past_rules : (rs ss : List (Bool × Rule)) → NoneBroken rs → ruled_verdict P (rs ++ ss) start w d ≡ ruled_verdict P ss start w d
  past_rules [] ss h = refl
  past_rules (r ∷ rs) ss h = ap (λ (b : Bool). elim b [ true ↦ broken_at r.1 d.place | false ↦ ruled_verdict P (rs ++ ss) start w d ]) h.0 ∙ past_rules rs ss h.1

  -- the first one that is decides
  first_broken : (b : Bool) (r : Rule) (rs : List (Bool × Rule)) → b ≡ true → ruled_verdict P ((b, r) ∷ rs) start w d ≡ broken_at r d.place
  first_broken b r rs h = ap (λ (q : Bool). elim q [ true ↦ broken_at r d.place | false ↦ ruled_verdict P rs start w d ]) h

module _ (P : Program) (w : ℕ) (d : WordDef) (start : ℕ) where
  -- the verdict where no rule is broken that comes before that of generics
  abbrev verdict_by : Bool → Sort → Option Broken
  verdict_by true s = broken_at MethodEffect d.place
  verdict_by false s = sort_verdict P start w d s

  -- that of the rule on generics and of the walk
  last_ruled : (g : Bool) → verdict_by g d.sort ≡ ruled_verdict P ((g, MethodEffect) ∷ []) start w d
  last_ruled true = refl
  last_ruled false = refl

  -- the verdict on a word of this sort
  pub sorted_verdict : (s : Sort) (x : Option Broken) → d.sort ≡ s → false ≡ undeclared P w d → bad_rows P w d ≡ false → x ≡ verdict_by (bad_generic s d.effect) s → x ≡ word_verdict P start w d
  sorted_verdict s x is e f h =
      h
      ∙ ap (λ q. verdict_by (bad_generic q d.effect) q) (sym is)
      ∙ last_ruled (bad_generic d.sort d.effect)
      ∙ sym (past_rules P start w d ((undeclared P w d, UndeclaredRecursion) ∷ (bad_rows P w d, RowDeclaration) ∷ []) ((bad_generic d.sort d.effect, MethodEffect) ∷ []) (sym e, (f, tt)))

  pub body_verdict_is : (t : Phrase) (x : Option Broken) → d.sort ≡ body t → false ≡ undeclared P w d → bad_rows P w d ≡ false → x ≡ phrase_verdict P (nat_eq w P.top) start w t d → x ≡ word_verdict P start w d
  body_verdict_is t x is e f h = sorted_verdict (body t) x is e f h

  -- a method is walked as an ordinary word
  pub method_verdict_is : (k g : ℕ) (t : Phrase) (x : Option Broken) → d.sort ≡ method k g t → false ≡ undeclared P w d → bad_rows P w d ≡ false → x ≡ ordinary_verdict P w (of_method w t) d → x ≡ word_verdict P start w d
  method_verdict_is k g t x is e f h = sorted_verdict (method k g t) x is e f h

  generic_by : (b : Bool) → generic_rule b d.place ≡ verdict_by b generic
  generic_by true = refl
  generic_by false = refl

  pub generic_verdict_is : (x : Option Broken) → d.sort ≡ generic → false ≡ undeclared P w d → bad_rows P w d ≡ false → x ≡ generic_rule (no_generic_effect d.effect) d.place → x ≡ word_verdict P start w d
  generic_verdict_is x is e f h = sorted_verdict generic x is e f (h ∙ generic_by (no_generic_effect d.effect))

  none_by : (s : Sort) → ((t : Phrase) → s ≡ body t → ⊥) → ((k g : ℕ) (t : Phrase) → s ≡ method k g t → ⊥) → (s ≡ generic → ⊥) → None ≡ verdict_by (bad_generic s d.effect) s
  none_by (body t) f g h = absurd (f t refl)
  none_by (method k j t) f g h = absurd (g k j t refl)
  none_by generic f g h = absurd (h refl)
  none_by _ f g h = refl

  -- a word of any other sort isn't walked
  pub no_phrase_verdict : (c : WordDef) → ClosesWord P w d c → ((t : Phrase) → c.sort ≡ body t → ⊥) → ((k g : ℕ) (t : Phrase) → c.sort ≡ method k g t → ⊥) → (c.sort ≡ generic → ⊥) → false ≡ undeclared P w d → bad_rows P w d ≡ false → None ≡ word_verdict P start w d
  no_phrase_verdict c closes f g h e r = by_sort d.sort refl closes.sort
    where
      by_sort : (s : Sort) → d.sort ≡ s → ClosesSort P w s c.sort → None ≡ word_verdict P start w d
      by_sort (body t) is k = absurd (f k.0 k.1)
      by_sort (method j i t) is k = absurd (g j i k.0 k.1)
      by_sort (past t) is k = sorted_verdict (past t) None is e r refl
      by_sort s is k = sorted_verdict s None is e r (none_by s (λ t q. f t (k ∙ q)) (λ j i t q. g j i t (k ∙ q)) (λ q. h (k ∙ q)))

-- a word whose rows can't be bound, where its phrase doesn't lead back to it
pub rows_refused : (P : Program) (start w : ℕ) (d c : WordDef) → ClosesWord P w d c → false ≡ undeclared P w d → bad_rows P w d ≡ true → broken_at RowDeclaration c.place ≡ word_verdict P start w d
rows_refused P start w d c closes e f =
    let others : List (Bool × Rule) = (bad_generic d.sort d.effect, MethodEffect) ∷ [] in
    ap (broken_at RowDeclaration) closes.place
    ∙ sym (first_broken P start w d (bad_rows P w d) RowDeclaration others f)
    ∙ sym (past_rules P start w d ((undeclared P w d, UndeclaredRecursion) ∷ []) ((bad_rows P w d, RowDeclaration) ∷ others) (sym e, tt))
