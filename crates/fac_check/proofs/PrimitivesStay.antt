-- No primitive and no accessor changes which literal arrays there are, whether it gives values or fails.
use Rattle.std.proofs.Common.{◌≡◌, ◌∙◌, ℕ, zero, suc, List, [], ◌∷◌, length, Option, Some}
use Rattle.fac_lang.specs.Phrases.{Value}
use Rattle.fac_lang.specs.World.{World}
use Rattle.fac_lang.specs.declared.program.Program.{Program}
use Rattle.fac_lang.specs.Procedures.{Procedure, Gives, gives, bad, Fn, fn0, fn1, fn2, fn3, followed, by_inputs}
use Rattle.fac_lang.specs.Primitives.{Primitive, prim_fn}
use Rattle.fac_lang.specs.Objects.{get_slot, set_slot, put_slot}
use Rattle.fac_lang.specs.Meaning.{meaning_values, names}
use Rattle.fac_check.proofs.PrimitivesKeep.{Regular, RegularFn, followed_regular, getter_regular, setter_regular, putter_regular}

-- behind what a primitive gives, and behind its error, the literal arrays have these addresses
abbrev pub StaysGives : List ℕ → Gives Value → Type 0
StaysGives ls (gives vs w) = w.literals ≡ ls
StaysGives ls (bad e v w) = w.literals ≡ ls

-- where they have these before it
abbrev pub StaysFn : List ℕ → Fn Value → Type 0
StaysFn ls (fn0 g) = (w : World Value) → w.literals ≡ ls → StaysGives ls (g w)
StaysFn ls (fn1 g) = (x : Value) (w : World Value) → w.literals ≡ ls → StaysGives ls (g x w)
StaysFn ls (fn2 g) = (x y : Value) (w : World Value) → w.literals ≡ ls → StaysGives ls (g x y w)
StaysFn ls (fn3 g) = (x y z : Value) (w : World Value) → w.literals ≡ ls → StaysGives ls (g x y z w)

gives_stays : (o : Option ℕ) (ls ms : List ℕ) (g : Gives Value) → Regular o ms g → ms ≡ ls → StaysGives ls g
gives_stays o ls ms (gives vs w) h e = h.1 ∙ e
gives_stays o ls ms (bad x v w) h e = h ∙ e

fn_stays : (ls : List ℕ) (i : ℕ) (o : Option ℕ) (f : Fn Value) → RegularFn i o f → StaysFn ls f
fn_stays ls i o (fn0 g) h = λ w e. gives_stays o ls w.literals (g w) (h.1 w) e
fn_stays ls i o (fn1 g) h = λ x w e. gives_stays o ls w.literals (g x w) (h.1 x w) e
fn_stays ls i o (fn2 g) h = λ x y w e. gives_stays o ls w.literals (g x y w) (h.1 x y w) e
fn_stays ls i o (fn3 g) h = λ x y z w e. gives_stays o ls w.literals (g x y z w) (h.1 x y z w) e

module _ (ls : List ℕ) (P : Program) where
  inputs_stay : (o : Option ℕ) (i : ℕ) (p : Procedure o) → StaysFn ls (by_inputs meaning_values (names P) i p)
  inputs_stay o zero p = λ w e. gives_stays o ls w.literals (followed meaning_values (names P) p [] w) (followed_regular (names P) p [] w) e
  inputs_stay o (suc zero) p = λ x w e. gives_stays o ls w.literals (followed meaning_values (names P) p (x ∷ []) w) (followed_regular (names P) p (x ∷ []) w) e
  inputs_stay o (suc (suc zero)) p = λ x y w e. gives_stays o ls w.literals (followed meaning_values (names P) p (x ∷ y ∷ []) w) (followed_regular (names P) p (x ∷ y ∷ []) w) e
  inputs_stay o (suc (suc (suc _))) p = λ x y z w e. gives_stays o ls w.literals (followed meaning_values (names P) p (x ∷ y ∷ z ∷ []) w) (followed_regular (names P) p (x ∷ y ∷ z ∷ []) w) e

  -- each primitive
  pub prim_stays : (p : Primitive) → StaysFn ls (prim_fn meaning_values (names P) p)
  unfolding prim_fn
  prim_stays p = inputs_stay _ (length p.word.ins) p.does

  -- each accessor
  pub getter_stays : (n : List ℕ) → StaysFn ls (get_slot meaning_values (names P) n)
  getter_stays n = fn_stays ls 1 (Some 1) (get_slot meaning_values (names P) n) (getter_regular (names P) n)

  pub setter_stays : (n : List ℕ) → StaysFn ls (set_slot meaning_values (names P) n)
  setter_stays n = fn_stays ls 2 (Some 1) (set_slot meaning_values (names P) n) (setter_regular (names P) n)

  pub putter_stays : (n : List ℕ) → StaysFn ls (put_slot meaning_values (names P) n)
  putter_stays n = fn_stays ls 2 (Some 0) (put_slot meaning_values (names P) n) (putter_regular (names P) n)
