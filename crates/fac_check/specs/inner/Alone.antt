-- Phrases that are walked by themselves, as phrases of no word: their literals are apart from those of the program.
use Rattle.std.specs.Prelude.{◌≡◌, ◌<◌, ◌≤◌, ◌+◌, ◌-◌, ℕ, suc, [], Bool, true, false, ◌&&◌, nat_eq, Some, None}
use Rattle.std.specs.declared.option.Option.{Option}
use Rattle.std.specs.Str.{bytes_eq}
use Rattle.fac_lang.specs.declared.program.Program.{Program}
use Rattle.fac_lang.specs.Phrases.{Literal}
use Rattle.fac_check.specs.CallableEffects.{no_word}
use Rattle.fac_check.specs.inner.UndeclaredRecursion.{NumbersFrom}

-- The number of the literal of a template, where there are so many templates. That of a phrase that is walked by itself comes behind those of all templates.
abbrev pub literal_number : ℕ → Bool → ℕ → ℕ
literal_number count false k = k
literal_number count true k = count + k

-- The template of a literal, and whether the literal is apart. No template before the first one that may be in the phrase by itself has such a literal.
abbrev pub TellsLiteral : ℕ → ℕ → ℕ → Option (ℕ × Bool) → Type 0
TellsLiteral count inner n None = (count ≤ n) × (n < count + inner)
TellsLiteral count inner n (Some (k, false)) = (n ≡ k) × (k < count)
TellsLiteral count inner n (Some (k, true)) = (n ≡ count + k) × (inner ≤ k) × (k < count)

-- whether two places are in one phrase
abbrev pub in_one_phrase : Literal → Literal → Bool
in_one_phrase l m = nat_eq l.word m.word && bytes_eq l.around m.around

-- Where the walk has a place of the program, where no word has this number: one of the phrase by itself is as far behind the first place of no word as it is behind the phrase's first, and the words of all others come behind.
abbrev pub placed_by : Bool → ℕ → Literal → Literal → Literal
placed_by true none first at = record { word = none; around = []; index = at.index - first.index }
placed_by false none first at = record { word = suc (none + at.word); around = at.around; index = at.index }

abbrev pub placed_alone : Literal → Literal → Literal
placed_alone first at = placed_by (in_one_phrase first at) no_word first at

-- Where an item stands for the walk that stands here in the program: there too, or, in a phrase by itself, from whose first place on templates have numbers from `inner` on, where such a phrase has it.
abbrev pub StandsAt : Program → ℕ → Literal → Bool → Literal → Literal → Type 0
StandsAt P inner first false at here = here ≡ at
StandsAt P inner first true at here = NumbersFrom P at inner × (here ≡ placed_alone first at)
