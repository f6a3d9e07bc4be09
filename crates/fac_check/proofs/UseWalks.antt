-- The walk of a use by the walks of its inputs.
use Rattle.std.proofs.Common.{◌≡◌, ℕ, suc, List, ◌∷◌, true, Option, Some, None, refl, sym, ap, ◌∙◌}
use Rattle.std.specs.Prelude.{slice_get}
use Rattle.fac_base.specs.declared.effect.Input.{Input}
use Rattle.fac_lang.specs.declared.phrase.Template.{Template}
use Rattle.fac_lang.specs.declared.program.Program.{Program}
use Rattle.fac_lang.specs.declared.program.WordDef.{WordDef}
use Rattle.fac_base.specs.EffectView.{inputs_tree}
use Rattle.fac_base.specs.Effects.{inputs_count}
use Rattle.fac_abs.specs.RowVariables.{Row, row_name, effect_inputs, effect_leaving, outer_in}
use Rattle.fac_base.specs.Signatures.{Signature}
use Rattle.fac_locals.proofs.Lookups.{word_open}
use Rattle.fac_abs.specs.Marks.{AbstractStack, on}
use Rattle.fac_abs.specs.MarkPromises.{HasTop}
use Rattle.fac_abs.specs.SeenMarks.{MarksSeen, Grows, IsMark, mark_of, stack_of, base_seen, reached_seen}
use Rattle.fac_abs.specs.declared.reached.Reached.{Reached}
use Rattle.fac_abs.specs.declared.reached.Reached.TheVariants.{Dead, On}
use Rattle.fac_abs.specs.declared.rule.Rule.{Rule}
use Rattle.fac_rows.specs.RowBinding.{Binding, tie, start_row, row_binding}
use Rattle.fac_rows.specs.SeenBindings.{binding_seen, IsBinding, IsStart, IsTie}
use Rattle.fac_rows.proofs.BindingLemmas.{binding_same}
use Rattle.fac_check.specs.declared.walker.Step.{Step}
use Rattle.fac_check.specs.declared.walker.Walked.{Walked as Ended}
use Rattle.fac_check.specs.declared.refusal.Broken.{Broken}
use Rattle.fac_check.specs.declared.walker.Walked.TheVariants.{Found, Refused}
use Rattle.fac_check.specs.declared.walker.InputsWalked.{InputsWalked}
use Rattle.fac_check.specs.Flow.{Walked, refused, and_then, started, tied_on, Walk, walk_mark, walk_from, walk_inputs, start_rule, use_rule}
use Rattle.fac_check.specs.inner.Walking.{Opened, walked_seen, inputs_seen, is_defined, effect_of, start_walk, quotation_walk, input_walk}

module _ {C : Program} {templates : List Template} {own : Option ℕ} {inner : ℕ} (O : Opened C templates own inner) (M : MarksSeen) (s : Step) where
  -- the rule that a use breaks by an input with this quotation and mark, or by the inputs after it
  abbrev pub rule_of_input : Input → List Input → ℕ → ℕ → List (Row × Reached) → Option Rule
  rule_of_input i is m r bs =
      elim i.quot [
        | None ↦ use_rule O.effect (binding_seen O.naming M bs) (inputs_tree is) (stack_of O.naming M r) s.nested
        | Some e ↦ start_rule O.effect (start_row (row_name e.value) (binding_seen O.naming M bs)) (mark_of O.naming M m) (inputs_count (effect_inputs e.value)) s.nested
      ]

  -- which is the rule of all inputs from that one on
  pub input_ruled :
      (i : Input) (left is : List Input) (marks m r : ℕ) (bs : List (Row × Reached)) → left ≡ i ∷ is → HasTop M marks m r →
      rule_of_input i is m r bs ≡ use_rule O.effect (binding_seen O.naming M bs) (inputs_tree left) (stack_of O.naming M marks) s.nested
  input_ruled i left is marks m r bs next top =
      by_input i.quot
      ∙ ap (λ ms. use_rule O.effect (binding_seen O.naming M bs) (inputs_tree (i ∷ is)) ms s.nested) (sym (top.is O.naming))
      ∙ ap (λ x. use_rule O.effect (binding_seen O.naming M bs) (inputs_tree x) (stack_of O.naming M marks) s.nested) (sym next)
    where
      by_input : (q : _) →
          rule_of_input (record { name = i.name; quot = q }) is m r bs ≡ use_rule O.effect (binding_seen O.naming M bs) (inputs_tree (record { name = i.name; quot = q } ∷ is)) (mark_of O.naming M m ∷ stack_of O.naming M r) s.nested
      by_input None = refl
      by_input (Some e) = refl

module _ {C : Program} {templates : List Template} {own : Option ℕ} {inner : ℕ} (O : Opened C templates own inner) (go : Walk) where
  -- an input and its mark, and then the others
  pub input_step :
      (M : MarksSeen) (s : Step) (k : ℕ) (i : Input) (left is : List Input) (marks m r : ℕ) (bs : List (Row × Reached)) → left ≡ i ∷ is → HasTop M marks m r →
      walk_inputs O.effect go k (inputs_tree left) (stack_of O.naming M marks) s.place s.nested (binding_seen O.naming M bs) s.left
      ≡ input_walk M s k i m bs (λ cs n. walk_inputs O.effect go (suc k) (inputs_tree is) (stack_of O.naming M r) s.place s.nested cs n) O go
  input_step M s k i left is marks m r bs next top =
      ap (λ x. walk_inputs O.effect go k (inputs_tree x) (stack_of O.naming M marks) s.place s.nested (binding_seen O.naming M bs) s.left) next
      ∙ ap (λ ms. walk_inputs O.effect go k (inputs_tree (i ∷ is)) ms s.place s.nested (binding_seen O.naming M bs) s.left) (top.is O.naming)
      ∙ by_input i.quot
    where
      by_input : (q : _) →
          walk_inputs O.effect go k (inputs_tree (record { name = i.name; quot = q } ∷ is)) (mark_of O.naming M m ∷ stack_of O.naming M r) s.place s.nested (binding_seen O.naming M bs) s.left
          ≡ input_walk M s k (record { name = i.name; quot = q }) m bs (λ cs n. walk_inputs O.effect go (suc k) (inputs_tree is) (stack_of O.naming M r) s.place s.nested cs n) O go
      by_input None = refl
      by_input (Some e) = refl

  -- the walk of the inputs from an input on, where its walk came to this
  pub inputs_next :
      (M K : MarksSeen) (s : Step) (k j : ℕ) (i : Input) (left is : List Input) (marks m r : ℕ) (bs cs : List (Row × Reached)) (W V : InputsWalked) → left ≡ i ∷ is → HasTop M marks m r → j ≡ k → W ≡ V →
      ((more : Binding → ℕ → Walked Binding) → and_then (inputs_seen O.naming K cs W) more ≡ input_walk M s j i m bs more O go) →
      and_then (inputs_seen O.naming K cs V) (λ ds n. walk_inputs O.effect go (suc k) (inputs_tree is) (stack_of O.naming M r) s.place s.nested ds n)
      ≡ walk_inputs O.effect go k (inputs_tree left) (stack_of O.naming M marks) s.place s.nested (binding_seen O.naming M bs) s.left
  inputs_next M K s k j i left is marks m r bs cs W V next top number came walks =
      let more : Binding → ℕ → Walked Binding = λ ds n. walk_inputs O.effect go (suc k) (inputs_tree is) (stack_of O.naming M r) s.place s.nested ds n in
      ap (λ w. and_then (inputs_seen O.naming K cs w) more) (sym came)
      ∙ walks more
      ∙ ap (λ l. input_walk M s l i m bs more O go) number
      ∙ sym (input_step M s k i left is marks m r bs next top)

module _ {C : Program} {templates : List Template} {own : Option ℕ} {inner : ℕ} (O : Opened C templates own inner) (go : Walk) (M L K : MarksSeen) (s : Step) (k : ℕ) (e : Signature) (m : ℕ) (bs : List (Row × Reached)) (more : Binding → ℕ → Walked Binding) where
  -- what follows the walk of a quotation input
  abbrev tied_after : AbstractStack → ℕ → Walked Binding
  tied_after B n = tied_on (tie k (row_name e) (effect_leaving e) B (binding_seen O.naming M bs)) s.place n more

  abbrev from_start : AbstractStack → Walked Binding
  from_start A = and_then (walk_from O.effect go (mark_of O.naming M m) s.place s.nested A (inputs_count (effect_inputs e)) s.left) tied_after

  -- it is walked from where it starts
  walked_from : (A : Reached) → Grows M L → IsMark M m → IsStart M L bs e (Some A) → and_then (start_walk L s m A O go) tied_after ≡ quotation_walk M s k e m bs more O go
  walked_from Dead grows there h = ap (λ o. started o k s.place from_start) (sym (h O.naming))
  walked_from (On b q) grows there h =
      let N = O.naming in
      let start = h.1 N in
      ap (λ x. and_then (walk_mark O.effect go x s.place s.nested (base_seen N b) (stack_of N L q) s.left) tied_after) (grows.same_mark N m there)
      ∙ ap (λ ms. and_then (walk_mark O.effect go (mark_of N M m) s.place s.nested (base_seen N b) ms s.left) tied_after) start.2
      ∙ ap (λ o. started o k s.place from_start) (sym start.1)

  module _ (A : Reached) (grows : Grows M L) (there : IsMark M m) (starts : IsStart M L bs e (Some A)) (W : Ended) (walks : walked_seen O.naming K W ≡ start_walk L s m A O go) where
    ended : (V : Ended) → W ≡ V → and_then (walked_seen O.naming K V) tied_after ≡ quotation_walk M s k e m bs more O go
    ended V is = ap (λ x. and_then (walked_seen O.naming K x) tied_after) (sym is) ∙ ap (λ x. and_then x tied_after) walks ∙ walked_from A grows there starts

    pub quotation_refused : (b : Broken) → W ≡ Refused b → refused b.rule b.place ≡ quotation_walk M s k e m bs more O go
    quotation_refused b is = ended (Refused b) is

    module _ (B : Reached) (n : ℕ) (is : W ≡ Found B n) (later : Grows M K) (bound : IsBinding M bs) (cs : List (Row × Reached)) where
      same_rows : tie k (row_name e) (effect_leaving e) (reached_seen O.naming K B) (binding_seen O.naming K bs) ≡ tie k (row_name e) (effect_leaving e) (reached_seen O.naming K B) (binding_seen O.naming M bs)
      same_rows = ap (λ x. tie k (row_name e) (effect_leaving e) (reached_seen O.naming K B) x) (binding_same O.naming M K bs later bound)

      pub quotation_tied : IsTie K k e B bs cs None → more (binding_seen O.naming K cs) n ≡ quotation_walk M s k e m bs more O go
      quotation_tied h = ap (λ x. tied_on x s.place n more) (sym (h.1 O.naming) ∙ same_rows) ∙ ended (Found B n) is

      pub quotation_untied : (r : Rule) → IsTie K k e B bs cs (Some r) → refused r s.place ≡ quotation_walk M s k e m bs more O go
      quotation_untied r h = ap (λ x. tied_on x s.place n more) (sym (h.1 O.naming) ∙ same_rows) ∙ ended (Found B n) is

-- a word that is used has the effect of the closed one
module _ {C : Program} {templates : List Template} {own : Option ℕ} {inner : ℕ} (O : Opened C templates own inner) (w : ℕ) where
  pub used_effect : is_defined (slice_get C.words w) ≡ true → effect_of (slice_get O.program.words w) ≡ effect_of (slice_get C.words w)
  used_effect h = by_word (slice_get C.words w) refl h
    where
      by_word : (o : Option WordDef) → slice_get C.words w ≡ o → is_defined o ≡ true → effect_of (slice_get O.program.words w) ≡ effect_of (slice_get C.words w)
      by_word None e d = absurd (cc)
      by_word (Some c) e d = (let there = word_open O.program C templates O.closes w c e in ap effect_of there.at ∙ sym there.closes.effect ∙ ap effect_of (sym e))

  -- and so it breaks the same rule
  pub used_rule :
      is_defined (slice_get C.words w) ≡ true → (M : MarksSeen) (s : Step) (q i : ℕ) (r : Option Rule) →
      r ≡ use_rule O.effect (row_binding (outer_in (effect_of (slice_get C.words w))) (on (base_seen O.naming s.base) (stack_of O.naming M q))) (effect_inputs (effect_of (slice_get C.words w))) (stack_of O.naming M i) s.nested →
      r ≡ use_rule O.effect (row_binding (outer_in (effect_of (slice_get O.program.words w))) (on (base_seen O.naming s.base) (stack_of O.naming M q))) (effect_inputs (effect_of (slice_get O.program.words w))) (stack_of O.naming M i) s.nested
  used_rule h M s q i r e =
      e ∙ ap (λ x. use_rule O.effect (row_binding (outer_in x) (on (base_seen O.naming s.base) (stack_of O.naming M q))) (effect_inputs x) (stack_of O.naming M i) s.nested) (sym (used_effect h))
