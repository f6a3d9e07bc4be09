-- How the rule of undeclared recursion is decided for all words of a program: by the words that each inline word leads to.
use Rattle.std.specs.Prelude.{◌≡◌, ◌≤◌, ◌++◌, ℕ, suc, List, [], ◌∷◌, Bool, true, false, nat_eq, nat_lt, nat_le, Option, Some, None, slice_get}
use Rattle.std.specs.List.{list_all}
use Rattle.fac_graph.specs.Paths.{one_of}
use Rattle.fac_lang.specs.Phrases.{wrd, Literal, Phrase, end, then, Item, lit, word, made}
use Rattle.fac_lang.specs.declared.phrase.Template.{Template}
use Rattle.fac_lang.specs.declared.program.Program.{Program}
use Rattle.fac_lang.specs.declared.program.WordDef.{WordDef}
use Rattle.fac_lang.specs.declared.program.Sort.{Sort}
use Rattle.fac_lang.specs.declared.program.Sort.TheVariants.{Body as body}
use Rattle.fac_locals.specs.declared.cell.Cell.{Cell}
use Rattle.fac_locals.specs.Literals.{quoted_phrase, literal_numbered, first_of_word, NotBefore}
use Rattle.fac_locals.specs.Closed.{Closes, ClosesWord, ClosesPhrase}
use Rattle.fac_check.specs.Verdicts.{without, inline_words}

-- the word that an item names, as an item or by `\`
abbrev pub named_word : Item → Option ℕ
named_word (word w) = Some w
named_word (lit (wrd w)) = Some w
named_word _ = None

-- the template of an item
abbrev pub made_template : Item → Option ℕ
made_template (made k) = Some k
made_template _ = None

-- whether a word of this sort, marked inline or not, is an inline word with a phrase
abbrev pub inline_phrase : Bool → Sort → Bool
inline_phrase inline (body t) = inline
inline_phrase inline _ = false

-- a number, or none
abbrev pub one_if : Bool → ℕ → List ℕ
one_if true w = w ∷ []
one_if false w = []

-- the number of a word, where it is an inline word with a phrase
abbrev pub inline_word : ℕ → Option WordDef → List ℕ
inline_word w None = []
inline_word w (Some d) = one_if (inline_phrase d.inline d.sort) w

-- likewise of the word that is named, if any
abbrev pub inline_if : Program → Option ℕ → List ℕ
inline_if C None = []
inline_if C (Some w) = inline_word w (slice_get C.words w)

-- a number, where there is one that isn't lower than the first
abbrev pub number_from : ℕ → Option ℕ → List ℕ
number_from from None = []
number_from from (Some k) = one_if (nat_le from k) k

-- whether all of these numbers are lower than the first
abbrev pub are_below : ℕ → List ℕ → Bool
are_below count ks = list_all (λ k. nat_lt k count) ks

-- whether none of them is
abbrev pub are_from : ℕ → List ℕ → Bool
are_from least ks = list_all (λ k. nat_le least k) ks

-- a list, without its first number or with it
abbrev pub kept_unless : Bool → ℕ → List ℕ → List ℕ
kept_unless true v vs = vs
kept_unless false v vs = v ∷ vs

-- a list without one number
abbrev pub left_out : ℕ → List ℕ → List ℕ
left_out w [] = []
left_out w (v ∷ vs) = kept_unless (nat_eq w v) v (left_out w vs)

module _ (P : Program) where
  -- the words that word w leads to, otherwise than directly to itself where it is marked recursive
  abbrev pub phrase_edges : ℕ → Bool → Phrase → List ℕ
  phrase_edges w true t = without P w (inline_words P t)
  phrase_edges w false t = inline_words P t

  abbrev pub inline_edges : ℕ → Bool → Bool → Phrase → List ℕ
  inline_edges w true recursive t = phrase_edges w recursive t
  inline_edges w false recursive t = []

  abbrev pub sort_edges : ℕ → Bool → Bool → Sort → List ℕ
  sort_edges w inline recursive (body t) = inline_edges w inline recursive t
  sort_edges w inline recursive _ = []

  abbrev pub word_edges : ℕ → WordDef → List ℕ
  word_edges w d = sort_edges w d.inline d.recursive d.sort

  -- those of words from word w on
  abbrev pub edges_from : ℕ → List WordDef → List (List ℕ)
  edges_from w [] = []
  edges_from w (d ∷ ds) = word_edges w d ∷ edges_from (suc w) ds

  -- no literal that stands here or behind has a lower number
  abbrev pub NumbersFrom : Literal → ℕ → Type 0
  NumbersFrom at from = (k : ℕ) → NotBefore at (literal_numbered P k).at → from ≤ k

  -- the words that the phrases of templates with these numbers name
  abbrev pub template_words : List ℕ → List ℕ
  template_words [] = []
  template_words (k ∷ ks) = inline_words P (quoted_phrase (literal_numbered P k)) ++ template_words ks

module _ (C : Program) where
  -- the inline words that the items of a closed phrase name, but not those of its templates
  abbrev pub item_names : Item → List ℕ
  item_names i = inline_if C (named_word i)

  abbrev pub phrase_names : Phrase → List ℕ
  phrase_names end = []
  phrase_names (then i p t) = item_names i ++ phrase_names t

  abbrev pub template_names : Option Template → List ℕ
  template_names None = []
  template_names (Some t) = phrase_names t.body

  -- those of templates with these numbers
  abbrev pub level_names : List Template → List ℕ → List ℕ
  level_names templates [] = []
  level_names templates (k ∷ ks) = template_names (slice_get templates k) ++ level_names templates ks

module _ (from : ℕ) where
  -- the templates that the items of a closed phrase make, where their numbers aren't lower than this one
  abbrev pub item_makes : Item → List ℕ
  item_makes i = number_from from (made_template i)

  abbrev pub phrase_makes : Phrase → List ℕ
  phrase_makes end = []
  phrase_makes (then i p t) = item_makes i ++ phrase_makes t

  abbrev pub template_makes : Option Template → List ℕ
  template_makes None = []
  template_makes (Some t) = phrase_makes t.body

  -- those that templates with these numbers make
  abbrev pub level_makes : List Template → List ℕ → List ℕ
  level_makes templates [] = []
  level_makes templates (k ∷ ks) = template_makes (slice_get templates k) ++ level_makes templates ks

-- two lists have the same numbers
abbrev pub SameNumbers : List ℕ → List ℕ → Type 0
SameNumbers vs ws = (v : ℕ) → one_of v vs ≡ one_of v ws

-- the words that these templates and those in them name are added, for each program that the closed one stands for
abbrev pub AddsTemplates : Program → List Template → List ℕ → List ℕ → List ℕ → Type 0
AddsTemplates C templates level before after = (P : Program) → Closes P C templates → SameNumbers after (before ++ template_words P level)

-- likewise those that a phrase and its templates name
abbrev pub AddsNames : Program → List Template → Phrase → List ℕ → List ℕ → Type 0
AddsNames C templates closed before after =
    (P : Program) → Closes P C templates → (cells : List Cell) (at : Literal) (t : Phrase) → ClosesPhrase P cells at t closed → SameNumbers after (before ++ inline_words P t)

-- the words that a word leads to
abbrev pub LedBy : Program → List Template → ℕ → WordDef → List ℕ → Type 0
LedBy C templates w c vs = (P : Program) → Closes P C templates → (d : WordDef) → ClosesWord P w d c → SameNumbers vs (word_edges P w d)

-- likewise a word with this phrase
abbrev pub LedByPhrase : Program → List Template → ℕ → Bool → Phrase → List ℕ → Type 0
LedByPhrase C templates w recursive closed vs = (P : Program) → Closes P C templates → (t : Phrase) → ClosesPhrase P [] (first_of_word w) t closed → SameNumbers vs (phrase_edges P w recursive t)

-- the same numbers, node by node
abbrev pub SameEdges : List (List ℕ) → List (List ℕ) → Type 0
SameEdges [] [] = Unit {0}
SameEdges [] (ws ∷ wss) = ⊥
SameEdges (vs ∷ vss) [] = ⊥
SameEdges (vs ∷ vss) (ws ∷ wss) = SameNumbers vs ws × SameEdges vss wss

-- those of all words
abbrev pub AreEdges : Program → List Template → List (List ℕ) → Type 0
AreEdges C templates edges = (P : Program) → Closes P C templates → SameEdges edges (edges_from P 0 P.words)
