-- What a program promises that is accepted by the checker of the whole language, in terms of the meaning alone.
use Rattle.std.specs.Prelude.{◌≡◌, ◌≤◌, ℕ, List, [], ◌∷◌, ◌++◌, length, Bool, true, false, nat_lt, Option, Some, None, slice_get}
use Rattle.fac_base.specs.declared.height.Height.{Height}
use Rattle.fac_lang.specs.declared.program.Program.{Program}
use Rattle.fac_lang.specs.declared.program.WordDef.{WordDef}
use Rattle.fac_lang.specs.Phrases.{Phrase, word, Value, fun, Callable}
use Rattle.fac_lang.specs.World.{World, State, pile}
use Rattle.fac_base.specs.Signatures.{Signature, signature, Inputs, no_inputs, value, quoted}
use Rattle.fac_base.specs.Effects.{inputs_count, leaving_outs, effect_height}
use Rattle.fac_lang.specs.WordHeights.{word_height}
use Rattle.fac_lang.specs.Eval.{Result, Done, Failed, Spent, Stuck, run_callable}
use Rattle.fac_lang.specs.Meaning.{run, start, word_phrase, one_item, is_top_phrase, callable_fits, word_fits}
use Rattle.fac_lang.specs.RunningLaws.{IsNotStuck}
use Rattle.fac_lang.specs.Whole.{IsWhole}
use Rattle.fac_abs.specs.RowVariables.{Row, named_row, leaving_row, effect_inputs, outer_in, outer_out, is_row}
use Rattle.fac_check.specs.CallableEffects.{callable_height}
use Rattle.fac_base.specs.HeightArithmetic.{fits}
use Rattle.fac_check.specs.Verdicts.{verdict}

-- Of a state soundness needs this alone: each literal array has its address.
abbrev pub Valid : Program → World Value → Type 0
Valid P w = (a : ℕ) → nat_lt a (length P.arrays) ≡ true → (k : ℕ) × (slice_get w.literals a ≡ Some k)

-- which lists of values are meant
abbrev pub Lists : Type 1
Lists = List Value → Type 0

-- these values and no others
abbrev pub Exactly : List Value → Lists
Exactly values list = list ≡ values

-- so many values, whatever they are
abbrev pub AnyOf : ℕ → Lists
AnyOf n list = length list ≡ n

-- so many values, whatever they are, on a list of these
abbrev pub On : ℕ → Lists → Lists
On n below list = (values : List Value) × (rest : List Value) × (list ≡ values ++ rest) × (length values ≡ n) × below rest

-- As many values as an effect declares, on a list of these. What never returns leaves no list at all.
abbrev pub LeftOn : Option ℕ → Lists → Lists
LeftOn None below list = ⊥
LeftOn (Some n) below list = On n below list

module _ (P : Program) where
  -- A run isn't stuck; if it is done, it leaves a list of these; and whatever its end, done, failed or spent, the world behind it is valid again.
  abbrev pub Ends : Lists → Result → Type 0
  Ends after (Done st m) = after st.stack × Valid P st.world
  Ends after (Failed e st m) = Valid P st.world
  Ends after (Spent st i) = Valid P st.world
  Ends after Stuck = ⊥

  -- the run of a phrase, of the item of a word, and of a callable, with so many ticks
  abbrev pub phrase_run : Phrase → State Value → ℕ → Result
  phrase_run t st n = run P fits (callable_height P) n t st

  abbrev pub word_run : ℕ → State Value → ℕ → Result
  word_run w = phrase_run (one_item (word w))

  abbrev pub callable_run : Callable → State Value → ℕ → Result
  callable_run c = run_callable phrase_run c

  -- With every budget up to this one, from every state with a list of the first and a valid world, the run ends with a list of the second.
  abbrev pub Behaves : ℕ → (State Value → ℕ → Result) → Lists → Lists → Type 0
  Behaves budget go before after = (st : State Value) (n : ℕ) → n ≤ budget → before st.stack → Valid P st.world → Ends after (go st n)

  -- Each row variable of a row word may be any lists. A test tells for each row which ones.
  module _ (rows : Row → List Value → Bool) where
    -- the lists for the row of one side of an effect, which are none where the side has no row
    abbrev pub OfRow : Option Row → Lists
    OfRow None list = ⊥
    OfRow (Some r) list = rows r list ≡ true

    -- A callable does what the effect of a quotation input says. With rows it takes its inputs on a list for its input row, and leaves its outputs on one for its output row. Without rows it takes and leaves them on any values, which it leaves as they are.
    abbrev pub DoesInput : ℕ → Signature → Callable → Type 0
    DoesInput budget (signature (Some r) is l) c = Behaves budget (callable_run c) (On (inputs_count is) (OfRow (Some (named_row r)))) (LeftOn (leaving_outs l) (OfRow (leaving_row l)))
    DoesInput budget (signature None is l) c = (below : List Value) → Behaves budget (callable_run c) (On (inputs_count is) (Exactly below)) (LeftOn (leaving_outs l) (Exactly below))

    -- values for the inputs of an effect, the deepest first: any value for a plain one, and for a quotation a callable that does what is declared
    abbrev pub AreInputs : ℕ → Inputs → List Value → Type 0
    AreInputs budget no_inputs [] = Unit {0}
    AreInputs budget (value x is) (v ∷ vs) = AreInputs budget is vs
    AreInputs budget (quoted x e is) (fun c ∷ vs) = DoesInput budget e c × AreInputs budget is vs
    AreInputs budget _ _ = ⊥

    -- such inputs on a list of these
    abbrev pub InputsOn : ℕ → Inputs → Lists → Lists
    InputsOn budget is below list = (values : List Value) × (rest : List Value) × (list ≡ pile values rest) × AreInputs budget is values × below rest

-- The top-level phrase starts on so many values.
pub record IsSafe (P : Program) (count : ℕ) : Type 0 where
  -- Each word that has an effect by itself: primitives, ordinary words, methods, generics, symbols, words of classes, predicates and accessors; not inline words, `call`, `dip`, `if`, `execute`, `boa`, `cond` and top-level phrases. Its item takes its inputs and leaves its outputs, and touches no value below.
  pub words :
      (w : ℕ) (d : WordDef) (h : Height) → slice_get P.words w ≡ Some d → word_height d ≡ Some h → is_top_phrase P w ≡ false →
      (budget : ℕ) (below : List Value) → Behaves P budget (word_run P w) (On h.ins (Exactly below)) (LeftOn h.outs (Exactly below))
  -- Each row word: whatever lists its rows are, and whatever does as its effect says up to a budget is handed in, its item takes its inputs on a list for its outer input row, and leaves its outputs on one for its outer output row.
  pub row_words :
      (w : ℕ) (d : WordDef) → slice_get P.words w ≡ Some d → d.inline ≡ true → is_row d.recursive d.effect ≡ true →
      (rows : Row → List Value → Bool) (budget : ℕ) → Behaves P budget (word_run P w) (InputsOn P rows budget (effect_inputs d.effect) (OfRow P rows (outer_in d.effect))) (LeftOn (effect_height d.effect).outs (OfRow P rows (outer_out d.effect)))
  -- Each callable that fits what a call declares, wherever it came from: it takes the declared inputs and leaves the declared outputs, and touches no value below.
  pub callables :
      (c : Callable) (h : Height) → callable_fits P fits (callable_height P) h c ≡ true →
      (budget : ℕ) (below : List Value) → Behaves P budget (callable_run P c) (On h.ins (Exactly below)) (LeftOn h.outs (Exactly below))
  -- So does the item of each word that fits.
  pub executed_words :
      (w : ℕ) (h : Height) → word_fits P fits h w ≡ true →
      (budget : ℕ) (below : List Value) → Behaves P budget (word_run P w) (On h.ins (Exactly below)) (LeftOn h.outs (Exactly below))
  -- the top-level phrase, from each list of so many values
  pub phrase : (budget : ℕ) → Behaves P budget (phrase_run P (word_phrase P P.top)) (AnyOf count) (λ list. Unit {0})
  -- the state before the first item has a valid world, with every input
  pub begins : (input : List ℕ) → Valid P (start P input).world

-- Whatever quotations, row variables, recursion, locals, objects and methods are in it, and however many values its top-level phrase starts on.
abbrev pub AcceptedAreSafe : Type 0
AcceptedAreSafe = (P : Program) (count : ℕ) → IsWhole P → verdict P count ≡ None → IsSafe P count

-- No run of a safe program's top-level phrase is stuck, from as many values as it starts on.
abbrev pub SafeAreNotStuck : Type 0
SafeAreNotStuck = (P : Program) (count : ℕ) → IsSafe P count → (budget : ℕ) (st : State Value) → AnyOf count st.stack → Valid P st.world → IsNotStuck (phrase_run P (word_phrase P P.top) st budget)
