-- The effect of a callable: how many values it takes and leaves. That of a literal is found by walks of its phrase, and those of what `curry` and `compose` made by arithmetic.
use Rattle.std.specs.Prelude.{ℕ, zero, suc, ◌^◌, [], length, true, false, nat_le, Option, Some, None}
use Rattle.fac_base.specs.declared.limits.TheConstants.{MOST_TRIED_INPUTS}
use Rattle.fac_base.specs.declared.height.Height.{Height}
use Rattle.fac_lang.specs.declared.program.Program.{Program}
use Rattle.fac_base.specs.HeightArithmetic.{most_values, curried_height, composed_height}
use Rattle.fac_lang.specs.Phrases.{Phrase, end, then, Item, lit, lit_arr, quot, word, bind, local, fry, hole, call_effect, execute_effect, next_method, made, next_after, held, known, any, Callable, of_phrase, cur, both}
use Rattle.fac_abs.specs.Marks.{dead, on, unknowns}
use Rattle.fac_check.specs.Flow.{found, refused, walked}

-- A running phrase as the checker walks it: nothing is known of a held value. A mark never stands in a running phrase; one there would be an item that breaks a rule.
abbrev mutual
  pub forgotten : Phrase → Phrase
  forgotten end = end
  forgotten (then i p t) = then (forgotten_item i) p (forgotten t)

  pub forgotten_item : Item → Item
  forgotten_item (lit p) = lit p
  forgotten_item (lit_arr a) = lit_arr a
  forgotten_item (quot t) = quot (forgotten t)
  forgotten_item (word w) = word w
  forgotten_item (bind y) = bind y
  forgotten_item (local y) = local y
  forgotten_item (fry t n) = fry (forgotten t) n
  forgotten_item (hole k) = hole k
  forgotten_item (call_effect h) = call_effect h
  forgotten_item (execute_effect h) = execute_effect h
  forgotten_item (made k) = made k
  forgotten_item next_method = next_method
  forgotten_item (next_after m) = next_after m
  forgotten_item (held w) = known any
  forgotten_item (known m) = made 0

-- the most inputs that are tried
abbrev pub most_inputs : ℕ
most_inputs = MOST_TRIED_INPUTS

-- the number of no word: no program has so many
abbrev pub no_word : ℕ
no_word = 2 ^ 32

module _ (P : Program) where
  -- The least number of inputs, from i on and in k tries, with which a phrase walks from unknown values over no base, and how many it leaves. The phrase is of no word, so
  -- its literals are those of no program, and they are the same in each.
  abbrev pub least_height : ℕ → ℕ → Phrase → Option Height
  least_height zero i t = None
  least_height (suc k) i t =
      elim (walked P None None no_word t None (unknowns i [])) [ found A n ↦ elim A [ dead ↦ Some (record { ins = i; outs = None }) | on b ms ↦ elim (nat_le (length ms) most_values) [ true ↦ Some (record { ins = i; outs = Some (length ms) }) | false ↦ None ] ] | refused r p ↦ least_height k (suc i) t ]

  -- the effect of a callable, where it has one
  abbrev pub callable_height : Callable → Option Height
  callable_height (of_phrase t) = least_height (suc most_inputs) 0 (forgotten t)
  callable_height (cur v c) = curried_height (callable_height c)
  callable_height (both c d) = composed_height (callable_height c) (callable_height d)
