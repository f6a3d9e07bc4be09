-- The context of a row word's phrase at a use: its inputs are what stood for the marks, its rows are what was bound.
use Rattle.std.proofs.Common.{◌≡◌, ℕ, zero, suc, ◌≤◌, List, [], ◌∷◌, length, drop, Bool, true, false, refl, sym, Option, Some, None, subst}
use Rattle.std.specs.Prelude.{nat_eq, nat_lt, ◌&&◌, not}
use Rattle.fac_base.specs.declared.place.Place.{Place}
use Rattle.fac_lang.specs.Phrases.{Value, fun, Callable, Mark}
use Rattle.fac_lang.specs.World.{State}
use Rattle.fac_base.specs.Signatures.{Signature, signature, Inputs, no_inputs, value, quoted, Leaving, never, leaves}
use Rattle.fac_base.specs.Effects.{inputs_count, leaving_outs}
use Rattle.fac_lang.specs.declared.program.Program.{Program}
use Rattle.fac_lang.specs.Eval.{Run, run_callable}
use Rattle.fac_abs.specs.RowVariables.{Row, named_row, leaving_row, effect_inputs, input_effect}
use Rattle.fac_abs.specs.Marks.{AbstractStack, dead, on, base_eq, unknowns}
use Rattle.fac_abs.specs.declared.rule.Rule.TheVariants.{Rows}
use Rattle.fac_rows.specs.RowBinding.{Binding, bound_to, stack_or_dead, leaving_on, Called, call_breaks, called_if, calls_input}
use Rattle.fac_check.specs.Flow.{Walk, called}
use Rattle.fac_check.specs.Promises.{Valid}
use Rattle.fac_check.proofs.ValuesOfMarks.{Stands, StandsOn, StandsStack}
use Rattle.fac_abs.proofs.EqualMarks.{and_first, and_second, length_same, base_same}
use Rattle.std.proofs.lemmas.Bool.{ltb-false}
use Rattle.fac_check.proofs.WalksFit.{Context, OnState, StackState, Fits, InputsFit}
use Rattle.fac_check.proofs.ItemsFit.{Over, Leaves, ends_map, over_unknowns}
use Rattle.fac_check.proofs.RowsFit.{RowOf, LeavesRow, DoesInput, DoInputs, split_marks}

module _ (P : Program) (C : Context) where
  -- the callable is one for the mark of quotation input k
  abbrev pub Given : ℕ → Inputs → List Mark → Callable → Type 0
  Given k no_inputs ms c = ⊥
  Given k (value x is) [] c = ⊥
  Given k (quoted x e is) [] c = ⊥
  Given zero (value x is) (m ∷ ms) c = ⊥
  Given zero (quoted x e is) (m ∷ ms) c = ⊥
  Given (suc zero) (value x is) (m ∷ ms) c = ⊥
  Given (suc zero) (quoted x e is) (m ∷ ms) c = Stands C.inputs m (fun c)
  Given (suc (suc k)) (value x is) (m ∷ ms) c = Given (suc k) is ms c
  Given (suc (suc k)) (quoted x e is) (m ∷ ms) c = Given (suc k) is ms c

  -- the context of the phrase of row word w with effect e, used on these marks with these rows bound
  abbrev pub callee : ℕ → Signature → List Mark → Binding → (List Value → Type 0) → Context
  callee w e taken ds base =
      record {
        own = Some e;
        word = Some w;
        inputs = λ k c. Given k (effect_inputs e) taken c;
        row = λ b s. elim b [ None ↦ base s | Some r ↦ RowOf P C ds (Some r) s ];
      }

  module _ (go : Walk) (run : Run) (f : ℕ) (w : ℕ) (e : Signature) (taken : List Mark) (ds : Binding) (base : List Value → Type 0) where
    abbrev K : Context
    K = callee w e taken ds base

    marks_on : (b : Option Row) (ms : List Mark) (s : List Value) → StandsOn K.inputs K.row b ms s → (r : List Value) × Over (length ms) r s × K.row b r
    marks_on b [] s h = (s, refl, h)
    marks_on b (m ∷ ms) s h = (let q = marks_on b ms h.1 h.4 in (q.0, (h.0, h.1, h.2, q.1), q.2))

    on_row : (b : Option Row) (y : List ℕ) → b ≡ Some (named_row y) → (r : List Value) → K.row b r → RowOf P C ds (Some (named_row y)) r
    on_row b y q r h = subst (λ z. K.row z r) q h

    left_row : (l : Leaving) (st : State Value) → LeavesRow P C ds l st → StackState P K (leaving_on l (leaving_row l) []) st
    left_row never st h = absurd h
    left_row (leaves None names) st h = absurd h.2
    left_row (leaves (Some x) names) st h = (over_unknowns P K (length names) (Some (named_row x)) [] h.0 st.stack h.1 h.2, h.3)

    over_count : (i j : ℕ) (r s : List Value) → i ≡ j → Over i r s → Over j r s
    over_count i j r s e h = rw (sym e) h

    input_fits : (q : Signature) (m : Mark) (c : Callable) → Stands C.inputs m (fun c) → DoesInput P C go run f ds q m → (k : ℕ) (b : Option Row) (ms : List Mark) (p : Place) (left : ℕ) (st : State Value) (n : ℕ) → n ≤ f → OnState P K b ms st → Fits P K (called (calls_input k q b ms) p left) (run_callable run c st n)
    input_fits (signature (Some y) js l) m c h does k b ms p left st n le o = closed (base_eq b (Some (named_row y)) && nat_eq (length ms) (inputs_count js)) refl
      where
        closed : (z : Bool) → (base_eq b (Some (named_row y)) && nat_eq (length ms) (inputs_count js)) ≡ z → Fits P K (called (called_if z (leaving_on l (leaving_row l) []) (Rows k (inputs_count js) (length ms))) p left) (run_callable run c st n)
        closed false z = tt
        closed true z =
            (let q = marks_on b ms st.stack o.0 in ends_map P K (LeavesRow P C ds l) (StackState P K (leaving_on l (leaving_row l) [])) (run_callable run c st n) (left_row l) (does c h q.0 st n le (on_row b y (base_same b (Some (named_row y)) (and_first (base_eq b (Some (named_row y))) (nat_eq (length ms) (inputs_count js)) z)) q.0 q.2) (over_count (length ms) (inputs_count js) q.0 st.stack (length_same (length ms) (inputs_count js) (and_second (base_eq b (Some (named_row y))) (nat_eq (length ms) (inputs_count js)) z)) q.1) o.1))
    input_fits (signature None js l) m c h does k b ms p left st n le o = closed (nat_lt (length ms) (inputs_count js)) refl
      where
        kept : (r : List Value) → StandsOn K.inputs K.row b (drop (inputs_count js) ms) r → (l : Leaving) (st' : State Value) → Leaves P (leaving_outs l) r st' → StackState P K (leaving_on l b (drop (inputs_count js) ms)) st'
        kept r q never st' x = absurd x
        kept r q (leaves y names) st' x = (over_unknowns P K (length names) b (drop (inputs_count js) ms) r st'.stack x.0 q, x.1)

        closed : (z : Bool) → nat_lt (length ms) (inputs_count js) ≡ z → Fits P K (called (called_if (not z) (leaving_on l b (drop (inputs_count js) ms)) (Rows k (inputs_count js) (length ms))) p left) (run_callable run c st n)
        closed true z = tt
        closed false z =
            (let q = split_marks P K (inputs_count js) b ms st.stack (ltb-false (length ms) (inputs_count js) z) o.0 in ends_map P K (Leaves P (leaving_outs l) q.0) (StackState P K (leaving_on l b (drop (inputs_count js) ms))) (run_callable run c st n) (kept q.0 q.2 l) (does c h q.0 st n le q.1 o.1))

    abbrev calling : ℕ → Option Signature → Option Row → List Mark → Called
    calling k o b ms = elim o [ Some q ↦ calls_input k q b ms | None ↦ call_breaks (Rows k 0 (length ms)) ]

    given_fits : (j : ℕ) (is : Inputs) (ns : List Mark) (c : Callable) → Given j is ns c → DoInputs P C go run f ds is ns → (k : ℕ) (b : Option Row) (ms : List Mark) (p : Place) (left : ℕ) (st : State Value) (n : ℕ) → n ≤ f → OnState P K b ms st → Fits P K (called (calling k (input_effect j is) b ms) p left) (run_callable run c st n)
    given_fits j no_inputs ns c h does k b ms p left st n le o = absurd h
    given_fits j (value x is) [] c h does k b ms p left st n le o = absurd h
    given_fits j (quoted x e' is) [] c h does k b ms p left st n le o = absurd h
    given_fits zero (value x is) (m ∷ ns) c h does k b ms p left st n le o = absurd h
    given_fits zero (quoted x e' is) (m ∷ ns) c h does k b ms p left st n le o = absurd h
    given_fits (suc zero) (value x is) (m ∷ ns) c h does k b ms p left st n le o = absurd h
    given_fits (suc zero) (quoted x e' is) (m ∷ ns) c h does k b ms p left st n le o = input_fits e' m c h does.0 k b ms p left st n le o
    given_fits (suc (suc j)) (value x is) (m ∷ ns) c h does k b ms p left st n le o = given_fits (suc j) is ns c h does k b ms p left st n le o
    given_fits (suc (suc j)) (quoted x e' is) (m ∷ ns) c h does k b ms p left st n le o = given_fits (suc j) is ns c h does.1 k b ms p left st n le o

    -- So the inputs of the row word's phrase do what its effect says: the phrase can be walked and run in this context.
    pub callee_fits : DoInputs P C go run f ds (effect_inputs e) taken → InputsFit P K run f
    callee_fits does k c h b ms p left st n le o = given_fits k (effect_inputs e) taken c h does k b ms p left st n le o

    unknowns_on : (n : ℕ) (b : Option Row) (s : List Value) → StandsOn K.inputs K.row b (unknowns n []) s → (r : List Value) × Over n r s × K.row b r
    unknowns_on zero b s h = (s, refl, h)
    unknowns_on (suc n) b s h = (let q = unknowns_on n b h.1 h.4 in (q.0, (h.0, h.1, h.2, q.1), q.2))

    by_abs : (X : AbstractStack) (x : Option (List ℕ)) (names : List (List ℕ)) (r : List Value) (st : State Value) → StandsStack C.inputs C.row X r → Over (length names) r st.stack → Valid P st.world → StackState P C (elim X [ dead ↦ dead | on b ms ↦ leaving_on (leaves x names) b ms ]) st
    by_abs dead x names r st h o v = absurd h
    by_abs (on b ms) x names r st h o v = (over_unknowns P C (length names) b ms r st.stack o h, v)

    -- what the phrase leaves on its output row is the result of the use
    pub callee_leaves : (l : Leaving) (r : Row) (st : State Value) → StackState P K (leaving_on l (Some r) []) st → StackState P C (elim (stack_or_dead (bound_to r ds)) [ dead ↦ dead | on b ms ↦ leaving_on l b ms ]) st
    callee_leaves never r st q = absurd q.0
    callee_leaves (leaves x names) r st q = (let z = unknowns_on (length names) (Some r) st.stack q.0 in by_abs (stack_or_dead (bound_to r ds)) x names z.0 st z.2 z.1 q.1)
