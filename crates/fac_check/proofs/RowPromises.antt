-- The context of a row word's phrase in which each of its rows is any lists, and each of its inputs any callable that does what the effect says of it.
use Rattle.std.proofs.Common.{◌≡◌, ◌≤◌, ℕ, zero, suc, List, [], ◌∷◌, length, drop, Bool, true, false, Option, Some, None, refl, sym, ap, ◌∙◌, arith, subst}
use Rattle.std.specs.Prelude.{nat_eq, nat_lt, ◌&&◌, not, slice_get}
use Rattle.std.proofs.lemmas.Bool.{ltb-false}
use Rattle.fac_base.specs.declared.place.Place.{Place}
use Rattle.fac_lang.specs.declared.program.Program.{Program}
use Rattle.fac_lang.specs.declared.program.WordDef.{WordDef}
use Rattle.fac_lang.specs.Phrases.{Value, plain, fun, Callable, Mark, any, par_mark}
use Rattle.fac_lang.specs.World.{State, pile}
use Rattle.fac_base.specs.Signatures.{Signature, signature, Inputs, no_inputs, value, quoted, Leaving, never, leaves}
use Rattle.fac_base.specs.Effects.{inputs_count, leaving_outs, effect_height}
use Rattle.fac_lang.specs.Eval.{Result, Done, Failed, Spent, Stuck, run_callable, eval}
use Rattle.fac_lang.proofs.Laws.{within, agree_call, same_run}
use Rattle.fac_abs.specs.RowVariables.{Row, named_row, leaving_row, effect_inputs, effect_leaving, input_effect, outer_in, outer_out}
use Rattle.fac_abs.specs.Marks.{base_eq, unknowns}
use Rattle.fac_abs.specs.declared.rule.Rule.TheVariants.{Rows}
use Rattle.fac_abs.proofs.EqualMarks.{and_first, and_second, length_same, base_same}
use Rattle.fac_rows.specs.RowBinding.{leaving_on, Called, call_breaks, called_if, calls_input, inputs_marks}
use Rattle.fac_check.specs.Flow.{called}
use Rattle.fac_check.specs.Promises.{Valid, Lists, Exactly, LeftOn, Ends, phrase_run, callable_run, OfRow, DoesInput, AreInputs}
use Rattle.fac_check.proofs.ValuesOfMarks.{StandsOn, EndsSo}
use Rattle.fac_check.proofs.WalksFit.{Context, OnState, StackState, Fits, InputsFit}
use Rattle.fac_check.proofs.ItemsFit.{Over, over_unknowns}
use Rattle.fac_check.proofs.SoundWalks.{A}
use Rattle.fac_check.proofs.SoundPrograms.{Good}
use Rattle.fac_check.proofs.RowsFit.{split_marks}
use Rattle.fac_check.proofs.CountedValues.{inputs_over, outputs_over}

-- the run of a callable by itself is that inside a run with as many ticks or more
pub same_call : (P : Program) (g n : ℕ) (c : Callable) (st : State Value) → n ≤ g → callable_run P c st n ≡ run_callable (eval (A P) g) c st n
same_call P g n c st le =
    agree_call (phrase_run P) (eval (A P) g) n (λ b t s m le'. within (A P) m b t s m le') (λ t s m le'. same_run (A P) m g m (omega arith) (omega (arith, le, le')) t s m (omega arith)) c st n (omega arith)

module _ (P : Program) (tests : Row → List Value → Bool) (budget : ℕ) (w : ℕ) (d : WordDef) where
  abbrev ins : Inputs
  ins = effect_inputs d.effect

  -- any callable that does what the effect says of input k
  abbrev pub Handed : ℕ → Callable → Type 0
  Handed k c = (q : Signature) × (input_effect k ins ≡ Some q) × DoesInput P tests budget q c

  -- where no base is one of these lists
  abbrev pub in_rows : Lists → Context
  in_rows none = record { own = Some d.effect; word = Some w; inputs = Handed; row = λ b s. elim b [ None ↦ none s | Some r ↦ tests r s ≡ true ] }

  ends_so : (after : Lists) (good : State Value → Type 0) (r : Result) → ((st : State Value) → after st.stack → Valid P st.world → good st) → Ends P after r → EndsSo good r
  ends_so after good (Done st m) f h = f st h.0 h.1
  ends_so after good (Failed e st m) f h = tt
  ends_so after good (Spent st i) f h = tt
  ends_so after good Stuck f h = h

  module _ (none : Lists) where
    abbrev K : Context
    K = in_rows none

    marks_on : (b : Option Row) (ms : List Mark) (s : List Value) → StandsOn K.inputs K.row b ms s → (r : List Value) × Over (length ms) r s × K.row b r
    marks_on b [] s h = (s, refl, h)
    marks_on b (m ∷ ms) s h = (let q = marks_on b ms h.1 h.4 in (q.0, (h.0, h.1, h.2, q.1), q.2))

    -- what is left on the lists for a row
    left_row : (l : Leaving) (st : State Value) → LeftOn (leaving_outs l) (OfRow P tests (leaving_row l)) st.stack → Valid P st.world → StackState P K (leaving_on l (leaving_row l) []) st
    left_row never st h v = absurd h
    left_row (leaves None names) st h v = absurd h.4
    left_row (leaves (Some x) names) st h v = (over_unknowns P K (length names) (Some (named_row x)) [] h.1 st.stack (inputs_over (length names) h.0 h.1 st.stack h.2 h.3) h.4, v)

    -- what is left on values of which nothing is known
    left_values : (r : List Value) (b : Option Row) (ms : List Mark) → StandsOn K.inputs K.row b ms r → (l : Leaving) (st : State Value) → LeftOn (leaving_outs l) (Exactly r) st.stack → Valid P st.world → StackState P K (leaving_on l b ms) st
    left_values r b ms q never st h v = absurd h
    left_values r b ms q (leaves y names) st h v = (over_unknowns P K (length names) b ms r st.stack (subst (λ x. Over (length names) x st.stack) h.4 (inputs_over (length names) h.0 h.1 st.stack h.2 h.3)) q, v)

    input_fits : (g n : ℕ) → g ≤ budget → n ≤ g → (q : Signature) (c : Callable) → DoesInput P tests budget q c → (k : ℕ) (b : Option Row) (ms : List Mark) (p : Place) (left : ℕ) (st : State Value) → OnState P K b ms st → Fits P K (called (calls_input k q b ms) p left) (callable_run P c st n)
    input_fits g n le le' (signature (Some y) js l) c does k b ms p left st o = closed (base_eq b (Some (named_row y)) && nat_eq (length ms) (inputs_count js)) refl
      where
        closed : (z : Bool) → (base_eq b (Some (named_row y)) && nat_eq (length ms) (inputs_count js)) ≡ z → Fits P K (called (called_if z (leaving_on l (leaving_row l) []) (Rows k (inputs_count js) (length ms))) p left) (callable_run P c st n)
        closed false z = tt
        closed true z =
            (let q = marks_on b ms st.stack o.0 in let on_row : tests (named_row y) q.0 ≡ true = subst (λ x. K.row x q.0) (base_same b (Some (named_row y)) (and_first (base_eq b (Some (named_row y))) (nat_eq (length ms) (inputs_count js)) z)) q.2 in let many : length ms ≡ inputs_count js = length_same (length ms) (inputs_count js) (and_second (base_eq b (Some (named_row y))) (nat_eq (length ms) (inputs_count js)) z) in let x = outputs_over (length ms) q.0 st.stack q.1 in ends_so (LeftOn (leaving_outs l) (OfRow P tests (leaving_row l))) (StackState P K (leaving_on l (leaving_row l) [])) (callable_run P c st n) (left_row l) (does st n (omega (arith, le, le')) (x.0, q.0, x.1, x.2 ∙ many, on_row) o.1))
    input_fits g n le le' (signature None js l) c does k b ms p left st o = closed (nat_lt (length ms) (inputs_count js)) refl
      where
        closed : (z : Bool) → nat_lt (length ms) (inputs_count js) ≡ z → Fits P K (called (called_if (not z) (leaving_on l b (drop (inputs_count js) ms)) (Rows k (inputs_count js) (length ms))) p left) (callable_run P c st n)
        closed true z = tt
        closed false z =
            (let q = split_marks P K (inputs_count js) b ms st.stack (ltb-false (length ms) (inputs_count js) z) o.0 in let x = outputs_over (inputs_count js) q.0 st.stack q.1 in ends_so (LeftOn (leaving_outs l) (Exactly q.0)) (StackState P K (leaving_on l b (drop (inputs_count js) ms))) (callable_run P c st n) (left_values q.0 b (drop (inputs_count js) ms) q.2 l) (does q.0 st n (omega (arith, le, le')) (x.0, q.0, x.1, x.2, refl) o.1))

    abbrev calling : ℕ → Option Signature → Option Row → List Mark → Called
    calling k o b ms = elim o [ Some q ↦ calls_input k q b ms | None ↦ call_breaks (Rows k 0 (length ms)) ]

    inputs_fit : (g : ℕ) → g ≤ budget → InputsFit P K (eval (A P) g) g
    inputs_fit g le k c h b ms p left st n le' o =
        subst (λ r. Fits P K (called (calling k (input_effect k ins) b ms) p left) r) (same_call P g n c st le') (subst (λ x. Fits P K (called (calling k x b ms) p left) (callable_run P c st n)) (sym h.1) (input_fits g n le le' h.0 c h.2 k b ms p left st o))

  -- where no base is no list
  abbrev pub handed : Context
  handed = in_rows (λ s. ⊥)

  pub handed_good : slice_get P.words w ≡ Some d → (n : ℕ) → n ≤ budget → Good P n handed
  handed_good e n le = record { inputs_fit = λ g le'. inputs_fit (λ s. ⊥) g (omega (arith, le, le')); bases_fit = λ g le' r. inputs_fit (λ s. s ≡ r) g (omega (arith, le, le')); own_word = (d, e, refl) }

  -- n more than k, counted up
  abbrev plus : ℕ → ℕ → ℕ
  plus zero k = k
  plus (suc j) k = plus j (suc k)

  plus_one : (j k : ℕ) → plus j (suc k) ≡ suc (plus j k)
  plus_one zero k = refl
  plus_one (suc j) k = plus_one j (suc k)

  plus_is : (j : ℕ) → plus j 1 ≡ suc j
  plus_is zero = refl
  plus_is (suc j) = plus_one j 1 ∙ ap suc (plus_is j)

  -- the inputs from number k on stand for their marks
  stand_from : (k : ℕ) (is : Inputs) (vs : List Value) → ((j : ℕ) (q : Signature) → input_effect (suc j) is ≡ Some q → input_effect (plus j k) ins ≡ Some q) → AreInputs P tests budget is vs → (b : Option Row) (ms : List Mark) (s : List Value) → StandsOn handed.inputs handed.row b ms s → StandsOn handed.inputs handed.row b (inputs_marks k is ms) (pile vs s)
  stand_from k no_inputs [] at h b ms s o = o
  stand_from k no_inputs (v ∷ vs) at h b ms s o = absurd h
  stand_from k (value x is) [] at h b ms s o = absurd h
  stand_from k (value x is) (v ∷ vs) at h b ms s o = stand_from (suc k) is vs (λ j q e. at (suc j) q e) h b (any ∷ ms) (v ∷ s) (v, s, refl, tt, o)
  stand_from k (quoted x e is) [] at h b ms s o = absurd h
  stand_from k (quoted x e is) (plain p ∷ vs) at h b ms s o = absurd h
  stand_from k (quoted x e is) (fun c ∷ vs) at h b ms s o = stand_from (suc k) is vs (λ j q z. at (suc j) q z) h.1 b (par_mark k ∷ ms) (fun c ∷ s) (fun c, s, refl, (c, refl, (e, at zero e refl, h.0)), o)

  on_row : (o : Option Row) (s : List Value) → OfRow P tests o s → StandsOn handed.inputs handed.row o [] s
  on_row None s h = h
  on_row (Some r) s h = h

  pub inputs_stand : (st : State Value) (vs rest : List Value) → st.stack ≡ pile vs rest → AreInputs P tests budget ins vs → OfRow P tests (outer_in d.effect) rest → Valid P st.world → OnState P handed (outer_in d.effect) (inputs_marks 1 ins []) st
  inputs_stand st vs rest there h row valid =
      (subst (λ s. StandsOn handed.inputs handed.row (outer_in d.effect) (inputs_marks 1 ins []) s) (sym there) (stand_from 1 ins vs (λ j q e. subst (λ i. input_effect i ins ≡ Some q) (sym (plus_is j)) e) h (outer_in d.effect) [] rest (on_row (outer_in d.effect) rest row)), valid)

  unknowns_on : (n : ℕ) (b : Option Row) (s : List Value) → StandsOn handed.inputs handed.row b (unknowns n []) s → (r : List Value) × Over n r s × OfRow P tests b r
  unknowns_on zero None s h = absurd h
  unknowns_on zero (Some r) s h = (s, refl, h)
  unknowns_on (suc n) b s h = (let q = unknowns_on n b h.1 h.4 in (q.0, (h.0, h.1, h.2, q.1), q.2))

  left_so : (l : Leaving) (o : Option Row) (st : State Value) → StackState P handed (leaving_on l o []) st → LeftOn (leaving_outs l) (OfRow P tests o) st.stack
  left_so never o st h = absurd h.0
  left_so (leaves x names) o st h = (let q = unknowns_on (length names) o st.stack h.0 in let z = outputs_over (length names) q.0 st.stack q.1 in (z.0, q.0, z.1, z.2, q.2))

  outs_are : (e : Signature) → (effect_height e).outs ≡ leaving_outs (effect_leaving e)
  outs_are (signature r is l) = refl

  -- what is left for the outer output row
  pub outputs_left : (st : State Value) → StackState P handed (leaving_on (effect_leaving d.effect) (outer_out d.effect) []) st → LeftOn (effect_height d.effect).outs (OfRow P tests (outer_out d.effect)) st.stack
  outputs_left st h = subst (λ o. LeftOn o (OfRow P tests (outer_out d.effect)) st.stack) (sym (outs_are d.effect)) (left_so (effect_leaving d.effect) (outer_out d.effect) st h)
