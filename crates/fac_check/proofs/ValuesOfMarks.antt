-- Which values a mark stands for, which running phrases a phrase of the walk, and which lists an abstract stack.
use Rattle.std.specs.Prelude.{ℕ, ◌≡◌, List, [], ◌∷◌, Option}
use Rattle.fac_base.specs.declared.place.Place.{Place}
use Rattle.fac_lang.specs.Phrases.{wrd, Phrase, end, then, Item, lit, lit_arr, quot, word, bind, local, fry, hole, call_effect, execute_effect, next_method, made, next_after, held, known, Value, plain, fun, Callable, of_phrase, cur, both, Mark, any, lit_mark, cur_mark, com_mark, wrd_mark, par_mark}
use Rattle.fac_lang.specs.World.{State}
use Rattle.fac_lang.specs.Eval.{Result, Done, Failed, Spent, Stuck}
use Rattle.fac_abs.specs.RowVariables.{Row}
use Rattle.fac_abs.specs.Marks.{AbstractStack, dead, on}

-- an item that no running phrase has, and that is stuck where one has it
abbrev pub Unmeant : Item → Type 0
Unmeant (made k) = Unit {0}
Unmeant (known m) = Unit {0}
Unmeant _ = ⊥

module _ (inputs : ℕ → Callable → Type 0) where
  -- Which values a mark stands for: any value where nothing is known, and for a literal a running phrase that is as its phrase says. Where the mark is an input of the row word that is checked, the callable is one of those that `inputs` allows.
  abbrev mutual
    pub Stands : Mark → Value → Type 0
    Stands any v = Unit {0}
    Stands (lit_mark p t) v = (u : Phrase) × (v ≡ fun (of_phrase u)) × StandsPhrase t u
    Stands (cur_mark m c) v = (x : Value) × (d : Callable) × (v ≡ fun (cur x d)) × Stands m x × Stands c (fun d)
    Stands (com_mark c d) v = (e : Callable) × (f : Callable) × (v ≡ fun (both e f)) × Stands c (fun e) × Stands d (fun f)
    Stands (wrd_mark w) v = v ≡ plain (wrd w)
    Stands (par_mark k) v = (c : Callable) × (v ≡ fun c) × inputs k c

    -- a running phrase, for a phrase in which marks stand in place of held values
    pub StandsPhrase : Phrase → Phrase → Type 0
    StandsPhrase end u = u ≡ end
    StandsPhrase (then i p t) u = (j : Item) × (q : Place) × (s : Phrase) × (u ≡ then j q s) × StandsItem i j × StandsPhrase t s

    pub StandsItem : Item → Item → Type 0
    StandsItem (quot t) j = (u : Phrase) × (j ≡ quot u) × StandsPhrase t u
    StandsItem (fry t n) j = (u : Phrase) × (j ≡ fry u n) × StandsPhrase t u
    StandsItem (known m) j = (v : Value) × (j ≡ held v) × Stands m v
    StandsItem (made k) j = Unmeant j
    StandsItem (lit p) j = j ≡ lit p
    StandsItem (lit_arr a) j = j ≡ lit_arr a
    StandsItem (word w) j = j ≡ word w
    StandsItem (bind y) j = j ≡ bind y
    StandsItem (local y) j = j ≡ local y
    StandsItem (hole k) j = j ≡ hole k
    StandsItem (call_effect h) j = j ≡ call_effect h
    StandsItem (execute_effect h) j = j ≡ execute_effect h
    StandsItem next_method j = j ≡ next_method
    StandsItem (next_after m) j = j ≡ next_after m
    StandsItem (held v) j = j ≡ held v

  module _ (row : Option Row → List Value → Type 0) where
    -- Values for the marks on a base, and below them a list that stands for the base.
    abbrev pub StandsOn : Option Row → List Mark → List Value → Type 0
    StandsOn b [] s = row b s
    StandsOn b (m ∷ ms) s = (v : Value) × (r : List Value) × (s ≡ v ∷ r) × Stands m v × StandsOn b ms r

    -- a list for a stack; none stands for a dead one
    abbrev pub StandsStack : AbstractStack → List Value → Type 0
    StandsStack dead s = ⊥
    StandsStack (on b ms) s = StandsOn b ms s

-- a run that isn't stuck, and if it is done satisfies this
abbrev pub EndsSo : (State Value → Type 0) → Result → Type 0
EndsSo good (Done st m) = good st
EndsSo good (Failed e st m) = Unit {0}
EndsSo good (Spent st i) = Unit {0}
EndsSo good Stuck = ⊥
