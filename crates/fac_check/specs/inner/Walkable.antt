-- Which closed programs the walk takes: numbers, truth values, strings, words as values, literal arrays, quotations, fries, locals, words, next methods and calls with a declared effect in phrases, and words of all sorts, with built primitives.
use Rattle.std.specs.Prelude.{ℕ, List, Bool, true, false, ◌&&◌, nat_lt, nat_le, length}
use Rattle.std.specs.List.{list_all}
use Rattle.fac_lang.specs.declared.phrase.Template.{Template}
use Rattle.fac_lang.specs.declared.program.Program.{Program}
use Rattle.fac_lang.specs.declared.program.WordDef.{WordDef}
use Rattle.fac_lang.specs.declared.program.Sort.{Sort}
use Rattle.fac_base.specs.declared.limits.TheConstants.{MOST_EFFECT_NAMES}
use Rattle.fac_lang.specs.declared.program.Sort.TheVariants.{Prim as prim, Body as body, Past as past, Method as method}
use Rattle.fac_lang.specs.Primitives.{is_built_primitive}
use Rattle.fac_lang.specs.Phrases.{int, yes, no, str, wrd, Phrase, end, then, Item, lit, lit_arr, word, bind, local, call_effect, execute_effect, next_method, made, next_after}
use Rattle.fac_base.specs.Effects.{effect_height}

-- whether the walk takes an item, where words that phrases may name have numbers below the first number, and templates below the second
abbrev pub takes_item : ℕ → ℕ → Item → Bool
takes_item top count (lit (int z)) = true
takes_item top count (lit yes) = true
takes_item top count (lit no) = true
takes_item top count (lit (str cs)) = true
takes_item top count (lit (wrd w)) = nat_lt w top
takes_item top count (lit_arr a) = true
takes_item top count (word w) = nat_lt w top
takes_item top count (made k) = nat_lt k count
takes_item top count (bind k) = true
takes_item top count (local k) = true
takes_item top count (call_effect h) = true
takes_item top count (execute_effect h) = true
takes_item top count next_method = true
takes_item top count (next_after m) = true
takes_item top count _ = false

-- whether it takes each item of a phrase
abbrev pub takes_phrase : ℕ → ℕ → Phrase → Bool
takes_phrase top count end = true
takes_phrase top count (then i p t) = takes_item top count i && takes_phrase top count t

abbrev pub takes_template : ℕ → ℕ → Template → Bool
takes_template top count t = takes_phrase top count t.body

abbrev pub takes_sort : ℕ → ℕ → Sort → Bool
takes_sort top count (prim k) = is_built_primitive k
takes_sort top count (body t) = takes_phrase top count t
takes_sort top count (method c g t) = takes_phrase top count t
takes_sort top count (past t) = takes_phrase top count t
takes_sort top count _ = true

-- no effect has more inputs than a word's effect has names
abbrev pub takes_word : ℕ → ℕ → WordDef → Bool
takes_word top count d = takes_sort top count d.sort && nat_le (effect_height d.effect).ins MOST_EFFECT_NAMES

-- whether it takes all words and templates of a closed program
abbrev pub takes_all : Program → List Template → Bool
takes_all C templates = nat_lt C.top (length C.words) && (list_all (takes_word C.top (length templates)) C.words && list_all (takes_template C.top (length templates)) templates)
