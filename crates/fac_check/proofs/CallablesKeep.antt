-- A callable takes and leaves what its effect says, and so does one whose effect fits.
use Rattle.std.proofs.Common.{◌≡◌, ℕ, zero, suc, ◌≤◌, ◌+◌, ◌-◌, List, ◌∷◌, Bool, true, false, refl, sym, ap, Option, Some, None, arith, subst}
use Rattle.std.specs.Prelude.{nat_le, ◌&&◌}
use Rattle.std.proofs.lemmas.Bool.{eqb-true, leb-true, leb-false}
use native.Mathlib.Numerals.{unary_clauses}
use Rattle.fac_base.specs.declared.height.Height.{Height}
use Rattle.fac_lang.specs.Phrases.{Value, Callable, of_phrase, cur, both}
use Rattle.fac_lang.specs.World.{State, push}
use Rattle.fac_lang.specs.declared.program.Program.{Program}
use Rattle.fac_lang.specs.Eval.{Result, Done, Failed, Spent, Stuck, then_do, run_callable, eval}
use Rattle.fac_lang.specs.Meaning.{callable_fits}
use Rattle.fac_lang.proofs.Laws.{Within, within, within_call}
use Rattle.fac_base.specs.HeightArithmetic.{most_values, limited_if, limited_height, curried_numbers, curried_height, composed_over, composed_numbers, composed_height, fits, fits_outs}
use Rattle.fac_check.specs.CallableEffects.{callable_height, most_inputs}
use Rattle.fac_check.specs.Promises.{Valid}
use Rattle.fac_check.proofs.ValuesOfMarks.{EndsSo}
use Rattle.fac_abs.proofs.EqualMarks.{never_true, and_first, and_second}
use Rattle.fac_check.proofs.ItemsFit.{Over, Leaves}
use Rattle.fac_check.proofs.SoundWalks.{A, Known, on_values}
use Rattle.fac_check.proofs.LiteralsKeep.{least_keeps}

-- b values on a list that is a values on another
pub over_join : (a b : ℕ) (s r q : List Value) → Over b r q → Over a s r → Over (a + b) s q
over_join a zero s r q h k = simp unary_clauses (rw h k)
over_join a (suc b) s r q h k = simp unary_clauses (h.0, h.1, h.2, over_join a b s r h.1 h.3 k)

-- the upper b of a + b values
pub over_split : (a b : ℕ) (s q : List Value) → Over (a + b) s q → (r : List Value) × Over b r q × Over a s r
over_split a zero s q h = (q, refl, simp unary_clauses at h)
over_split a (suc b) s q h =
    (let h' : Over (suc (a + b)) s q = simp unary_clauses at h in let z = over_split a b s h'.1 h'.3 in (z.0, (h'.0, h'.1, h'.2, z.1), z.2))

-- the lowest of suc n values
over_under : (n : ℕ) (v : Value) (s q : List Value) → Over n (v ∷ s) q → Over (suc n) s q
over_under zero v s q h = (v, s, h, refl)
over_under (suc n) v s q h = (h.0, h.1, h.2, over_under n v s h.1 h.3)

module _ (P : Program) (f : ℕ) where
  -- a callable that takes and leaves so many values, for up to f ticks
  abbrev pub KeepsNumbers : ℕ → Option ℕ → Callable → Type 0
  KeepsNumbers i o c = (r : List Value) (st : State Value) (n : ℕ) → n ≤ f → Over i r st.stack → Valid P st.world → EndsSo (Leaves P o r) (run_callable (eval (A P) f) c st n)

  the_height : (h k : Height) → (let o : Option Height = Some h in o ≡ Some k) → h ≡ k
  the_height h k e = ap (λ o. elim o [ Some x ↦ x | None ↦ h ]) e

  no_height : (k : Height) → (let o : Option Height = None in o ≡ Some k) → ⊥
  no_height k e = never_true (sym (ap (λ o. elim o [ Some x ↦ false | None ↦ true ]) e))

  -- so many values of an effect that is the one asked for
  given_height : (i : ℕ) (o : Option ℕ) (h : Height) (c : Callable) → (let z : Option Height = Some (record { ins = i; outs = o }) in z ≡ Some h) → KeepsNumbers i o c → KeepsNumbers h.ins h.outs c
  given_height i o h c e k = subst (λ x. KeepsNumbers x.ins x.outs c) (the_height (record { ins = i; outs = o }) h e) k

  limited_keeps : (q : Bool) (i : ℕ) (o : Option ℕ) (h : Height) (c : Callable) → limited_if q i o ≡ Some h → KeepsNumbers i o c → KeepsNumbers h.ins h.outs c
  limited_keeps true i o h c e k = given_height i o h c e k
  limited_keeps false i o h c e k = absurd (no_height h e)

  numbers_keep : (i : ℕ) (o : Option ℕ) (h : Height) (c : Callable) → limited_height i o ≡ Some h → KeepsNumbers i o c → KeepsNumbers h.ins h.outs c
  numbers_keep i None h c e k = limited_keeps (nat_le i most_values) i None h c e k
  numbers_keep i (Some o) h c e k = limited_keeps (nat_le i most_values && nat_le o most_values) i (Some o) h c e k

  -- `curry`
  one_under : (o : ℕ) (v : Value) (s : List Value) (r : Result) → EndsSo (Leaves P (Some o) (v ∷ s)) r → EndsSo (Leaves P (Some (suc o)) s) r
  one_under o v s (Done st m) h = (over_under o v s st.stack h.0, h.1)
  one_under o v s (Failed e st m) h = tt
  one_under o v s (Spent st i) h = tt
  one_under o v s Stuck h = absurd h

  none_under : (v : Value) (s : List Value) (r : Result) → EndsSo (Leaves P None (v ∷ s)) r → EndsSo (Leaves P None s) r
  none_under v s (Done st m) h = h
  none_under v s (Failed e st m) h = tt
  none_under v s (Spent st i) h = tt
  none_under v s Stuck h = absurd h

  curried_more : (v : Value) (c : Callable) (o : ℕ) → KeepsNumbers 0 (Some o) c → KeepsNumbers 0 (Some (suc o)) (cur v c)
  curried_more v c o k r st zero le x va = tt
  curried_more v c o k r st (suc n) le x va = rw (sym x) (one_under o v st.stack (run_callable (eval (A P) f) c (push v st) n) (k (v ∷ st.stack) (push v st) n (omega (arith, le)) refl va))

  curried_never : (v : Value) (c : Callable) → KeepsNumbers 0 None c → KeepsNumbers 0 None (cur v c)
  curried_never v c k r st zero le x va = tt
  curried_never v c k r st (suc n) le x va = rw (sym x) (none_under v st.stack (run_callable (eval (A P) f) c (push v st) n) (k (v ∷ st.stack) (push v st) n (omega (arith, le)) refl va))

  curried_less : (v : Value) (c : Callable) (i : ℕ) (o : Option ℕ) → KeepsNumbers (suc i) o c → KeepsNumbers i o (cur v c)
  curried_less v c i o k r st zero le x va = tt
  curried_less v c i o k r st (suc n) le x va = k r (push v st) n (omega (arith, le)) (v, st.stack, refl, x) va

  curried_keeps : (v : Value) (c : Callable) (i : ℕ) (o : Option ℕ) (h : Height) → curried_numbers i o ≡ Some h → KeepsNumbers i o c → KeepsNumbers h.ins h.outs (cur v c)
  curried_keeps v c zero None h e k = numbers_keep 0 None h (cur v c) e (curried_never v c k)
  curried_keeps v c zero (Some o) h e k = numbers_keep 0 (Some (suc o)) h (cur v c) e (curried_more v c o k)
  curried_keeps v c (suc i) o h e k = numbers_keep i o h (cur v c) e (curried_less v c i o k)

  -- one run and then another
  both_end : (good better : State Value → Type 0) (r : Result) (go : State Value → ℕ → Result) → Within f r → EndsSo good r → ((st : State Value) (m : ℕ) → m ≤ f → good st → EndsSo better (go st m)) → EndsSo better (then_do r go)
  both_end good better (Done st m) go w h k = k st m w h
  both_end good better (Failed e st m) go w h k = tt
  both_end good better (Spent st i) go w h k = tt
  both_end good better Stuck go w h k = absurd h

  ends_with : (good better : State Value → Type 0) (r : Result) → ((st : State Value) → good st → better st) → EndsSo good r → EndsSo better r
  ends_with good better (Done st m) k h = k st h
  ends_with good better (Failed e st m) k h = tt
  ends_with good better (Spent st i) k h = tt
  ends_with good better Stuck k h = absurd h

  -- what is left on r values is left on s, where r is a values on s
  more_below : (a : ℕ) (o : Option ℕ) (s r : List Value) (res : Result) → Over a s r → EndsSo (Leaves P o r) res → EndsSo (Leaves P (elim o [ Some p ↦ Some (a + p) | None ↦ None ]) s) res
  more_below a None s r res x h = ends_with (Leaves P None r) (Leaves P None s) res (λ st q. absurd q) h
  more_below a (Some p) s r res x h = ends_with (Leaves P (Some p) r) (Leaves P (Some (a + p)) s) res (λ st q. (over_join a p s r st.stack q.0 x, q.1)) h

  composed_keeps_never : (c d : Callable) (i : ℕ) → KeepsNumbers i None c → KeepsNumbers i None (both c d)
  composed_keeps_never c d i k r st zero le x va = tt
  composed_keeps_never c d i k r st (suc n) le x va =
      both_end (Leaves P None r) (Leaves P None r) (run_callable (eval (A P) f) c st n) (run_callable (eval (A P) f) d) (within_call (eval (A P) f) (within (A P) f) f c st n (omega (arith, le))) (k r st n (omega (arith, le)) x va) (λ st' m le' q. absurd q)

  -- the first leaves as many as the second takes, and a more
  composed_within : (c d : Callable) (i a j : ℕ) (p : Option ℕ) → KeepsNumbers i (Some (a + j)) c → KeepsNumbers j p d → KeepsNumbers i (elim p [ Some q ↦ Some (a + q) | None ↦ None ]) (both c d)
  composed_within c d i a j p k l r st zero le x va = tt
  composed_within c d i a j p k l r st (suc n) le x va =
      both_end (Leaves P (Some (a + j)) r) (Leaves P (elim p [ Some q ↦ Some (a + q) | None ↦ None ]) r) (run_callable (eval (A P) f) c st n) (run_callable (eval (A P) f) d) (within_call (eval (A P) f) (within (A P) f) f c st n (omega (arith, le))) (k r st n (omega (arith, le)) x va) (λ st' m le' q. (let z = over_split a j r st'.stack q.0 in more_below a p r z.0 (run_callable (eval (A P) f) d st' m) z.2 (l z.0 st' m le' z.1 q.1)))

  -- the second takes all that the first leaves, and a more
  composed_below : (c d : Callable) (i o a : ℕ) (p : Option ℕ) → KeepsNumbers i (Some o) c → KeepsNumbers (a + o) p d → KeepsNumbers (a + i) p (both c d)
  composed_below c d i o a p k l r st zero le x va = tt
  composed_below c d i o a p k l r st (suc n) le x va =
      (let z = over_split a i r st.stack x in both_end (Leaves P (Some o) z.0) (Leaves P p r) (run_callable (eval (A P) f) c st n) (run_callable (eval (A P) f) d) (within_call (eval (A P) f) (within (A P) f) f c st n (omega (arith, le))) (k z.0 st n (omega (arith, le)) z.1 va) (λ st' m le' q. l r st' m le' (over_join a o r z.0 st'.stack q.0 z.2) q.1))

  same_ins : (i k : ℕ) (o : Option ℕ) (c : Callable) → i ≡ k → KeepsNumbers i o c → KeepsNumbers k o c
  same_ins i k o c e h = subst (λ x. KeepsNumbers x o c) e h

  same_outs : (i o p : ℕ) (c : Callable) → o ≡ p → KeepsNumbers i (Some o) c → KeepsNumbers i (Some p) c
  same_outs i o p c e h = subst (λ x. KeepsNumbers i (Some x) c) e h

  composed_over_keeps : (c d : Callable) (i o j : ℕ) (p : Option ℕ) (h : Height) (q : Bool) → nat_le j o ≡ q → composed_over q i o j p ≡ Some h → KeepsNumbers i (Some o) c → KeepsNumbers j p d → KeepsNumbers h.ins h.outs (both c d)
  composed_over_keeps c d i o j None h true t e k l =
      numbers_keep i None h (both c d) e (composed_within c d i (o - j) j None (same_outs i o (o - j + j) c (let le = leb-true j o t in omega (arith, le)) k) l)
  composed_over_keeps c d i o j (Some p) h true t e k l =
      numbers_keep i (Some (o - j + p)) h (both c d) e (composed_within c d i (o - j) j (Some p) (same_outs i o (o - j + j) c (let le = leb-true j o t in omega (arith, le)) k) l)
  composed_over_keeps c d i o j p h false t e k l =
      (let lt = leb-false j o t in numbers_keep (i + j - o) p h (both c d) e (same_ins (j - o + i) (i + j - o) p (both c d) (omega (arith, lt)) (composed_below c d i o (j - o) p k (same_ins j (j - o + o) p d (omega (arith, lt)) l))))

  composed_keeps : (c d : Callable) (i : ℕ) (o : Option ℕ) (j : ℕ) (p : Option ℕ) (h : Height) → composed_numbers i o j p ≡ Some h → KeepsNumbers i o c → KeepsNumbers j p d → KeepsNumbers h.ins h.outs (both c d)
  composed_keeps c d i None j p h e k l = numbers_keep i None h (both c d) e (composed_keeps_never c d i k)
  composed_keeps c d i (Some o) j p h e k l = composed_over_keeps c d i o j p h (nat_le j o) refl e k l

  -- a callable may be used on more values than it takes
  pub more_keeps : (c : Callable) (i j : ℕ) (o q : Option ℕ) → nat_le i j ≡ true → fits_outs i o j q ≡ true → KeepsNumbers i o c → KeepsNumbers j q c
  more_keeps c i j None q t e k = λ r st n le x va. (
      let ij = leb-true i j t in let z = over_split (j - i) i r st.stack (subst (λ y. Over y r st.stack) (omega (arith, ij)) x) in ends_with (Leaves P None z.0) (Leaves P q r) (run_callable (eval (A P) f) c st n) (λ st' y. absurd y) (k z.0 st n le z.1 va))
  more_keeps c i j (Some o) None t e k = absurd (never_true e)
  more_keeps c i j (Some o) (Some q) t e k = λ r st n le x va. (
      let ij = leb-true i j t in let same : q + i ≡ o + j = eqb-true (q + i) (o + j) e in let z = over_split (j - i) i r st.stack (subst (λ y. Over y r st.stack) (omega (arith, ij)) x) in ends_with (Leaves P (Some o) z.0) (Leaves P (Some q) r) (run_callable (eval (A P) f) c st n) (λ st' y. (subst (λ w. Over w r st'.stack) (omega (arith, ij, same)) (over_join (j - i) o r z.0 st'.stack y.0 z.2), y.1)) (k z.0 st n le z.1 va))

  module _ (known : (s : List Value) → Known P f (on_values P s)) where
    curried_from : (v : Value) (c : Callable) (o : Option Height) → callable_height P c ≡ o → ((k : Height) → callable_height P c ≡ Some k → KeepsNumbers k.ins k.outs c) → (h : Height) → curried_height o ≡ Some h → KeepsNumbers h.ins h.outs (cur v c)
    curried_from v c None w k h e = absurd (no_height h e)
    curried_from v c (Some g) w k h e = curried_keeps v c g.ins g.outs h e (k g w)

    composed_from : (c d : Callable) (o p : Option Height) → callable_height P c ≡ o → callable_height P d ≡ p → ((k : Height) → callable_height P c ≡ Some k → KeepsNumbers k.ins k.outs c) → ((k : Height) → callable_height P d ≡ Some k → KeepsNumbers k.ins k.outs d) → (h : Height) → composed_height o p ≡ Some h → KeepsNumbers h.ins h.outs (both c d)
    composed_from c d None p w x k l h e = absurd (no_height h e)
    composed_from c d (Some g) None w x k l h e = absurd (no_height h e)
    composed_from c d (Some g) (Some y) w x k l h e = composed_keeps c d g.ins g.outs y.ins y.outs h e (k g w) (l y x)

    -- A callable takes and leaves what its effect says.
    pub callable_keeps : (c : Callable) (h : Height) → callable_height P c ≡ Some h → KeepsNumbers h.ins h.outs c
    callable_keeps (of_phrase t) h e = λ r st n le x va. least_keeps P f known t (suc most_inputs) 0 h e r st n le x va
    callable_keeps (cur v c) h e = curried_from v c (callable_height P c) refl (callable_keeps c) h e
    callable_keeps (both c d) h e = composed_from c d (callable_height P c) (callable_height P d) refl refl (callable_keeps c) (callable_keeps d) h e

    fitting : (c : Callable) (h : Height) (o : Option Height) → callable_height P c ≡ o → (let q : Bool = elim o [ Some k ↦ fits k h | None ↦ false ] in q ≡ true) → KeepsNumbers h.ins h.outs c
    fitting c h None w e = absurd (never_true e)
    fitting c h (Some k) w e = more_keeps c k.ins h.ins k.outs h.outs (and_first (nat_le k.ins h.ins) (fits_outs k.ins k.outs h.ins h.outs) e) (and_second (nat_le k.ins h.ins) (fits_outs k.ins k.outs h.ins h.outs) e) (callable_keeps c k w)

    -- So does a callable whose effect fits.
    pub fitting_keeps : (h : Height) (c : Callable) → callable_fits P fits (callable_height P) h c ≡ true → KeepsNumbers h.ins h.outs c
    fitting_keeps h c e = fitting c h (callable_height P c) refl e
