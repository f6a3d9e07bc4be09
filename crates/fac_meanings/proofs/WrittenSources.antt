-- How sources and answers are written in examples.
use Rattle.std.specs.Prelude.{ℕ, ◌+◌, List, [], ◌∷◌, length, drop, Result, Ok, Err, Bool, false, codes}
use Rattle.fac_lang.specs.Phrases.{Plain, Phrase, end, then as placed, Item}
use Rattle.fac_base.specs.Signatures.{Signature}
use Rattle.fac_base.specs.declared.place.Place.{Place}
use Rattle.fac_lang.specs.declared.program.Lit.{Lit}
use Rattle.fac_base.specs.declared.name.Name.{Name as FullName}
use Rattle.fac_lang.specs.declared.program.Sort.{Sort}
use Rattle.fac_lang.specs.declared.program.Sort.TheVariants.{Body as body}
use Rattle.fac_lang.specs.declared.program.WordDef.{WordDef}
use Rattle.fac_vocab.specs.Scopes.{entries_from, word_held}
use Rattle.fac_source.specs.declared.refusal.NameFault.{NameFault}
use Rattle.fac_source.specs.declared.refusal.NameKind.{NameKind}
use Rattle.fac_items.specs.Written.{Tok, Node, n_lit, n_array, n_name, n_quot, Nodes, nothing, given, Form, f_using, f_define, f_items, more}
use Rattle.fac_source.specs.Toks.{number}
use Rattle.fac_endings.specs.Words.{no_effect}
use Rattle.fac_names.specs.KnownWords.{known_words}
use Rattle.fac_names.specs.declared.known.Known.{Known}
use Rattle.fac_names.specs.Resolved.{read_files}
use Rattle.fac_names.specs.Resolution.{first_reading}

-- How sources are written here: tokens by their numbers in file 1.

abbrev pub at : ℕ → Place
at t = record { file = 1; token = t }

abbrev pub tk : List ℕ → ℕ → Tok
tk text t = record { text = text; place = at t }

abbrev pub nodes : List Node → Nodes
nodes [] = nothing
nodes (n ∷ ns) = more n (nodes ns)

abbrev pub named : List ℕ → ℕ → Node
named text t = n_name (tk text t) (at t)

abbrev pub literal : Plain → ℕ → Node
literal l t = n_lit l (at t)

abbrev pub run : List Node → Form
run ns = f_items (nodes ns)

abbrev pub defined : List ℕ → ℕ → List Node → Form
defined name t ns = f_define (tk name t) (given no_effect) (nodes ns) false false

-- `USING: kernel math ;`
abbrev pub kernel_and_math : Form
kernel_and_math = f_using (tk (codes "kernel") 2 ∷ tk (codes "math") 3 ∷ [])

-- How answers are: the words behind those that are known, or the refusal.

pub data Seen : Type 0 where
  no : ℕ → NameKind → List ℕ → Seen
  yes : List WordDef → Seen

abbrev pub seen : Result Known NameFault → Seen
seen (Err f) = no f.place.token f.kind f.name
seen (Ok k) = yes (drop (length known_words) k.program.words)

abbrev pub resolves : List (List Form) → Seen
resolves files = seen (read_files first_reading files false)

abbrev pub name : List ℕ → List ℕ → FullName
name vocab text = record { vocab = vocab; name = text }

-- the number of a word of the source, and that of a known word
abbrev pub own : ℕ → ℕ
own k = length known_words + k

abbrev pub known : List ℕ → List ℕ → ℕ
known vocab text = number (word_held (entries_from 0 known_words) vocab text)

abbrev pub items : List (Item × ℕ) → Phrase
items [] = end
items (i ∷ is) = placed i.0 (at i.1) (items is)

abbrev pub word_def : List ℕ → List ℕ → Sort → Signature → Bool → Bool → Place → WordDef
word_def vocab text sort effect inline recursive place = record { name = name vocab text; sort = sort; effect = effect; inline = inline; recursive = recursive; place = place }

abbrev pub made : List ℕ → List ℕ → ℕ → Phrase → WordDef
made vocab text t phrase = word_def vocab text (body phrase) no_effect false false (at t)

abbrev pub top : Phrase → WordDef
top phrase = word_def [] (codes "top-level") (body phrase) no_effect false false (record { file = 0; token = 0 })

abbrev pub array : List Node → ℕ → Node
array ns t = n_array (nodes ns) (at t)

abbrev pub quotation : List Node → ℕ → Node
quotation ns t = n_quot (nodes ns) (at t)

-- the literal arrays of a program that isn't refused
abbrev pub arrays_seen : Result Known NameFault → List (List Lit)
arrays_seen (Err f) = []
arrays_seen (Ok k) = k.program.arrays

abbrev pub arrays_of : List (List Form) → List (List Lit)
arrays_of files = arrays_seen (read_files first_reading files false)
