-- A primitive takes and gives as many values as its word is written to.
use Rattle.std.proofs.Common.{◌≡◌, ℕ, zero, suc, List, [], ◌∷◌, ◌++◌, length, Option, None, Some, refl, ap, sym}
use Rattle.std.specs.Prelude.{map, slice_get}
use Rattle.std.proofs.lemmas.List.{length-map}
use Rattle.fac_lang.specs.Phrases.{no}
use Rattle.fac_lang.specs.World.{World}
use Rattle.fac_base.specs.declared.limits.TheConstants.{MOST_PAIRS}
use Rattle.fac_lang.specs.Equality.{equal_pairs}
use Rattle.fac_lang.specs.Printed.{Names, printed}
use Rattle.fac_lang.specs.Procedures.{Procedure, leaves, answers, answers_array, answers_tuple, curries, composes, fails, looks, adds, opens, puts, compares, prints, asks, writes, reads, Gives, gives, bad, Fn, fn0, fn1, fn2, fn3, line_in, behind_line, places_from, or_else, value_at, array_in, opened, opened_places, with_element, made_or, followed, by_inputs}
use Rattle.fac_lang.specs.PrimitiveWords.{outputs_of}
use Rattle.fac_lang.specs.Primitives.{Primitive, prim_fn}
use Rattle.fac_store.specs.MachineValues.{MValue, m_plain, m_seen, m_curry, m_compose, machine_values}
use Rattle.fac_carry.specs.Symbols.{at_most_three, ins}

-- so many values, where any are given
abbrev pub IsLong : Option ℕ → Gives MValue → Type 0
IsLong o (gives vs w) = o ≡ Some (length vs)
IsLong o (bad e v w) = Unit {0}

-- a function that takes so many values, and gives so many
abbrev pub IsCounted : ℕ → Option ℕ → Fn MValue → Type 0
IsCounted n o (fn0 f) = (n ≡ 0) × ((w : World MValue) → IsLong o (f w))
IsCounted n o (fn1 f) = (n ≡ 1) × ((x : MValue) (w : World MValue) → IsLong o (f x w))
IsCounted n o (fn2 f) = (n ≡ 2) × ((x y : MValue) (w : World MValue) → IsLong o (f x y w))
IsCounted n o (fn3 f) = (n ≡ 3) × ((x y z : MValue) (w : World MValue) → IsLong o (f x y z w))

made_long : (c : Option MValue) (w : World MValue) (g : Gives MValue) → IsLong (Some 1) g → IsLong (Some 1) (made_or machine_values c w g)
made_long None w g h = h
made_long (Some c) w g h = refl

module _ (N : Names) where
  followed_long : {o : Option ℕ} (p : Procedure o) (vs : List MValue) (w : World MValue) → IsLong o (followed machine_values N p vs w)
  followed_long (leaves ks) vs w = ap Some (sym (length-map ks (λ k. or_else (m_plain no) (slice_get vs k))))
  followed_long (answers p) vs w = refl
  followed_long (answers_array ks) vs w = refl
  followed_long (answers_tuple c n) vs w = refl
  followed_long (curries j k p) vs w = made_long (m_curry (value_at machine_values vs j) (value_at machine_values vs k)) w (followed machine_values N p vs w) (followed_long p vs w)
  followed_long (composes j k p) vs w = made_long (m_compose (value_at machine_values vs j) (value_at machine_values vs k)) w (followed machine_values N p vs w) (followed_long p vs w)
  followed_long (fails e k) vs w = tt
  followed_long (looks k go) vs w = followed_long (go (m_seen (value_at machine_values vs k))) vs w
  followed_long (adds ps go) vs w = followed_long (go (places_from (length vs) (length ps))) (vs ++ map m_plain ps) w
  followed_long (opens a go) vs w =
      let o = array_in machine_values (slice_get w.objects a) in followed_long (go (opened_places machine_values (length vs) o)) (opened machine_values vs o) w
  followed_long (puts a i k p) vs w = followed_long p vs (record w { objects = with_element machine_values w.objects a i (value_at machine_values vs k) (array_in machine_values (slice_get w.objects a)) })
  followed_long (compares j k go) vs w = followed_long (go (equal_pairs machine_values MOST_PAIRS w ((value_at machine_values vs j, value_at machine_values vs k) ∷ []))) vs w
  followed_long (prints k go) vs w = followed_long (go (printed machine_values N w (value_at machine_values vs k))) vs w
  followed_long (asks a go) vs w = followed_long (go (N.tuple_class a)) vs w
  followed_long (writes bs p) vs w = followed_long p vs (record w { output = w.output ++ bs })
  followed_long (reads go) vs w = followed_long (go (line_in w.input)) vs (record w { input = behind_line w.input; asked = suc w.asked })

  inputs_counted : {o : Option ℕ} (n : ℕ) (p : Procedure o) → IsCounted (at_most_three n) o (by_inputs machine_values N n p)
  inputs_counted zero p = (refl, λ w. followed_long p [] w)
  inputs_counted (suc zero) p = (refl, λ x w. followed_long p (x ∷ []) w)
  inputs_counted (suc (suc zero)) p = (refl, λ x y w. followed_long p (x ∷ y ∷ []) w)
  inputs_counted (suc (suc (suc n))) p = (refl, λ x y z w. followed_long p (x ∷ y ∷ z ∷ []) w)

  pub prim_counted : (q : Primitive) → IsCounted (ins q) (outputs_of q.word) (prim_fn machine_values N q)
  unfolding prim_fn
  prim_counted q = inputs_counted (length q.word.ins) q.does
