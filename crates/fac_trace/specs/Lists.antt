-- How the stack at a fault is told, and the way to it: a line for each value, by where it comes from, and one for each callable and inline word.
use Rattle.std.specs.Prelude.{ℕ, ◌+◌, ◌-◌, nat_eq, nat_le, List, [], ◌∷◌, ◌++◌, length, map, take, Bool, true, false, Option, Some, None, codes, decimal}
use Rattle.std.specs.Str.{bytes_eq}
use Rattle.fac_base.specs.declared.place.Place.{Place}
use Rattle.fac_abs.specs.declared.rule.Rule.{Rule}
use Rattle.fac_abs.specs.declared.rule.Rule.TheVariants.{Outputs, MustReturn}
use Rattle.fac_trace.specs.declared.origin.Origin.{Origin}
use Rattle.fac_trace.specs.declared.origin.Origin.TheVariants as origin
use Rattle.fac_trace.specs.declared.origin.Entry.{Entry}
use Rattle.fac_trace.specs.declared.origin.Entry.TheVariants as entry
use Rattle.fac_trace.specs.Origins.{Listed}
use Rattle.fac_trace.specs.Traced.{Fault}

-- a line, without its end
abbrev pub Line : Type 0
Line = List ℕ

-- What the sources say: where a place is, behind its file where that isn't the one of the fault, and how its token is spelled; how the inputs of the word that is checked are called, and those that the callable for an input of the row word at a place is given; how a word is called, and how the word that is checked is told.
pub record Spelled : Type 0 where
  pub at : Place → List ℕ
  pub token : Place → List ℕ
  pub input : ℕ → List ℕ
  pub given : Place → ℕ → ℕ → List ℕ
  pub name : ℕ → List ℕ
  pub checked : List ℕ

-- the token behind this one
abbrev pub next_place : Place → Place
next_place p = record { file = p.file; token = p.token + 1 }

-- what stands behind these tokens is told by its sort and place alone
abbrev pub sorts_told : List (List ℕ × List ℕ)
sorts_told = (codes "[", codes "quotation") ∷ (codes "[|", codes "quotation") ∷ (codes "'[", codes "fry") ∷ (codes "{", codes "array") ∷ []

abbrev pub sort_of_token : List ℕ → List (List ℕ × List ℕ) → Option (List ℕ)
sort_of_token token [] = None
sort_of_token token (s ∷ ss) = elim (bytes_eq token s.0) [ true ↦ Some s.1 | false ↦ sort_of_token token ss ]

-- how many, where a list goes on
abbrev pub cut_lines : List ℕ → List Line → List Line
cut_lines margin lines = elim (nat_le (length lines) 8) [ true ↦ lines | false ↦ take 8 lines ++ (margin ++ codes "and " ++ decimal (length lines - 8) ++ codes " more") ∷ [] ]

module _ (s : Spelled) where
  -- a value that an item is; `\` names the word behind it
  abbrev pub word_or_token : Bool → List ℕ → Place → List ℕ
  word_or_token true token p = codes "the word " ++ s.token (next_place p) ++ codes ", " ++ s.at p
  word_or_token false token p = token ++ codes ", " ++ s.at p

  abbrev pub item_text : Option (List ℕ) → List ℕ → Place → List ℕ
  item_text (Some sort) token p = codes "the " ++ sort ++ codes " at " ++ s.at p
  item_text None token p = word_or_token (bytes_eq token (codes "\\")) token p

  -- which of so many values it is
  abbrev pub number_text : ℕ → ℕ → List ℕ
  number_text k n = elim (nat_eq n 1) [ true ↦ [] | false ↦ decimal k ++ codes " of " ++ decimal n ++ codes " " ]

  abbrev pub origin_text : Origin → List ℕ
  origin_text (origin.Input k) = s.input k ++ codes ", an input of " ++ s.checked
  origin_text (origin.Item p) = item_text (sort_of_token (s.token p) sorts_told) (s.token p) p
  origin_text (origin.Named p) = codes "the value of " ++ s.token p ++ codes ", " ++ s.at p
  origin_text (origin.Left k n p) = number_text k n ++ codes "left by " ++ s.token p ++ codes ", " ++ s.at p
  origin_text (origin.Given i k p) = s.given p i k ++ codes ", given by " ++ s.token p ++ codes ", " ++ s.at p

  abbrev pub entry_text : Entry → Line
  entry_text (entry.Callable q p) = codes "in the quotation at " ++ s.at q ++ codes ", run by " ++ s.token p ++ codes ", " ++ s.at p
  entry_text (entry.Text w p) = codes "in the text of " ++ s.name w ++ codes ", used at " ++ s.at p

  -- the values of a stack from the top, and whether a row lies below
  abbrev pub row_lines : Bool → List Line
  row_lines false = []
  row_lines true = codes "    the row" ∷ []

  abbrev pub nothing_text : Bool → List ℕ
  nothing_text false = codes " nothing."
  nothing_text true = codes " nothing above the row."

  abbrev pub values_lines : List ℕ → Bool → List Origin → List Line
  values_lines heading row [] = (heading ++ nothing_text row) ∷ []
  values_lines heading row (o ∷ os) = heading ∷ (cut_lines (codes "    ") (map (λ q. codes "    " ++ origin_text q) (o ∷ os)) ++ row_lines row)

  abbrev pub stack_lines : List ℕ → Option Listed → List Line
  stack_lines heading None = []
  stack_lines heading (Some l) = values_lines heading l.row l.values

  -- whether a rule is broken by the stack at the end of a word
  abbrev pub is_at_end : Rule → Bool
  is_at_end (Outputs declared found) = true
  is_at_end MustReturn = true
  is_at_end _ = false

  abbrev pub heading_text : Bool → List ℕ
  heading_text true = codes "On the stack at its end, from the top:"
  heading_text false = codes "On the stack before it, from the top:"

  -- what stands behind the sentence of a fault
  abbrev pub fault_lines : Fault → List Line
  fault_lines f = stack_lines (heading_text (is_at_end f.rule)) f.before ++ (stack_lines (codes "Behind the callable, from the top:") f.callable ++ cut_lines [] (map entry_text f.way))
