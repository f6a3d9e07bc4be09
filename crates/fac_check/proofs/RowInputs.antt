-- The values on which a row word is used stand for the marks from which its phrase is walked.
use Rattle.std.proofs.Common.{◌≡◌, ℕ, zero, suc, List, [], ◌∷◌, true, false, refl, sym, ap, Option}
use Rattle.fac_lang.specs.Phrases.{Value, Callable, Mark, any, par_mark}
use Rattle.fac_lang.specs.World.{pile}
use Rattle.fac_base.specs.Signatures.{Inputs, no_inputs, value, quoted}
use Rattle.fac_lang.specs.declared.program.Program.{Program}
use Rattle.fac_abs.specs.RowVariables.{Row}
use Rattle.fac_abs.specs.Marks.{is_callable}
use Rattle.fac_rows.specs.RowBinding.{inputs_known, inputs_marks}
use Rattle.fac_check.proofs.ValuesOfMarks.{Stands, StandsOn}
use Rattle.fac_abs.proofs.EqualMarks.{never_true, and_first, and_second}
use Rattle.fac_check.proofs.StandingLaws.{callable_is}
use Rattle.fac_check.proofs.WalksFit.{Context}
use Rattle.fac_check.proofs.InsideRowWords.{Given}

module _ (P : Program) (C K : Context) where
  -- values for marks, the deepest first
  abbrev pub Values : List Mark → List Value → Type 0
  Values [] vs = vs ≡ []
  Values (m ∷ ms) vs = (v : Value) × (ws : List Value) × (vs ≡ v ∷ ws) × Stands C.inputs m v × Values ms ws

  -- n more than k, counted up
  abbrev pub plus : ℕ → ℕ → ℕ
  plus zero k = k
  plus (suc j) k = plus j (suc k)

  -- as many marks as inputs
  abbrev pub AsMany : Inputs → List Mark → Type 0
  AsMany no_inputs ns = ns ≡ []
  AsMany (value x is) [] = ⊥
  AsMany (value x is) (m ∷ ns) = AsMany is ns
  AsMany (quoted x e is) [] = ⊥
  AsMany (quoted x e is) (m ∷ ns) = AsMany is ns

  none_piled : (vs s : List Value) → vs ≡ [] → s ≡ pile vs s
  none_piled vs s e = rw e refl

  -- From input k on: where the word's input k + j may be what is given for the j + 1st of these, the values stand for the marks of the inputs.
  pub inputs_stand : (k : ℕ) (is : Inputs) (ns : List Mark) (vs : List Value) → AsMany is ns → Values ns vs → inputs_known is ns ≡ true → ((j : ℕ) (c : Callable) → Given P C (suc j) is ns c → K.inputs (plus j k) c) → (b : Option Row) (ms : List Mark) (s : List Value) → StandsOn K.inputs K.row b ms s → StandsOn K.inputs K.row b (inputs_marks k is ms) (pile vs s)
  inputs_stand k no_inputs [] vs a x e h b ms s o = rw x o
  inputs_stand k no_inputs (m ∷ ns) vs a x e h b ms s o = absurd (never_true (ap (λ l. elim l [ [] ↦ true | y ∷ ys ↦ false ]) a))
  inputs_stand k (value y is) [] vs a x e h b ms s o = absurd a
  inputs_stand k (value y is) (m ∷ ns) vs a x e h b ms s o = rw x.2 (inputs_stand (suc k) is ns x.1 a x.4 e (λ j c g. h (suc j) c g) b (any ∷ ms) (x.0 ∷ s) (x.0, s, refl, tt, o))
  inputs_stand k (quoted y q is) [] vs a x e h b ms s o = absurd a
  inputs_stand k (quoted y q is) (m ∷ ns) vs a x e h b ms s o =
      (let c = callable_is C.inputs m x.0 x.3 (and_first (is_callable m) (inputs_known is ns) e) in rw x.2 (inputs_stand (suc k) is ns x.1 a x.4 (and_second (is_callable m) (inputs_known is ns) e) (λ j d g. h (suc j) d g) b (par_mark k ∷ ms) (x.0 ∷ s) (x.0, s, refl, (c.0, c.1, h zero c.0 (rw (sym c.1) x.3)), o)))
