-- The effects by which calls are tested.
use Rattle.std.specs.Prelude.{◌≡◌, ◌+◌, ◌||◌, ℕ, List, map, length, nat_eq, Bool, true, false, Option, Some, None, slice_get}
use Rattle.std.specs.List.{list_any}
use Rattle.fac_base.specs.declared.height.Height.{Height}
use Rattle.fac_lang.specs.declared.phrase.Template.{Template}
use Rattle.fac_lang.specs.declared.program.Program.{Program}
use Rattle.fac_lang.specs.declared.program.WordDef.{WordDef}
use Rattle.fac_lang.specs.declared.program.Sort.{Sort}
use Rattle.fac_lang.specs.declared.program.Sort.TheVariants.{Body as body, Method as method}
use Rattle.fac_lang.specs.Phrases.{Phrase, end, then, Item, call_effect, held, Value, Callable, of_phrase, cur, both}
use Rattle.fac_lang.specs.WordHeights.{word_height}
use Rattle.fac_base.specs.HeightArithmetic.{curried_height, composed_height}
use Rattle.fac_lang.specs.Meaning.{is_past}
use Rattle.fac_locals.specs.Frames.{template_phrase}
use Rattle.fac_locals.specs.declared.closing.Closed.{Closed}
use Rattle.fac_store.specs.CallableHeights.{height_there}

-- that of a word by which `execute( )` tests it: a top-level phrase has none
abbrev pub tested_height : Program → ℕ → WordDef → Option Height
tested_height P w d = elim (nat_eq w P.top || is_past (Some d.sort)) [ true ↦ None | false ↦ word_height d ]

-- an item that asks for the effect of a callable: `call( )`, which tests it
abbrev pub asks : Item → Bool
asks (call_effect h) = true
asks _ = false

-- whether one stands in a phrase
abbrev pub phrase_asks : Phrase → Bool
phrase_asks end = false
phrase_asks (then i p t) = asks i || phrase_asks t

-- whether one stands in the phrase that a word of this sort runs
abbrev pub sort_asks : Sort → Bool
sort_asks (body t) = phrase_asks t
sort_asks (method c g t) = phrase_asks t
sort_asks _ = false

abbrev pub template_asks : Template → Bool
template_asks t = phrase_asks t.body

abbrev pub word_asks : WordDef → Bool
word_asks d = sort_asks d.sort

-- whether one stands anywhere in a closed program
abbrev pub asks_effects : Closed → Bool
asks_effects C = list_any template_asks C.templates || list_any word_asks C.program.words

-- Effects of callables, for a program for which a closed one stands. Where the program asks for any, those of literals are these, by the
-- numbers of their templates and whatever values they keep; and those of what `curry` and `compose` made go by arithmetic.
pub record HasHeights (P : Program) (C : Closed) (heights : List (Option Height)) (callable_height : Callable → Option Height) : Type 0 where
  pub literal :
      asks_effects C ≡ true → (q : ℕ) (t : Template) (vs : List Value) → slice_get C.templates q ≡ Some t → length vs ≡ length t.captures + t.holes → callable_height (of_phrase (template_phrase P q (map held vs))) ≡ height_there (slice_get heights q)
  pub curried : (v : Value) (c : Callable) → callable_height (cur v c) ≡ curried_height (callable_height c)
  pub composed : (c d : Callable) → callable_height (both c d) ≡ composed_height (callable_height c) (callable_height d)
