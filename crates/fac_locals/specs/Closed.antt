-- When a closed program stands for a program: each quotation or fry in a phrase or in a literal array is made by the template of its literal, and a template's phrase is closed likewise. A local and a hole are cells of the frame. A next method keeps the method that it is next after.
use Rattle.std.specs.Prelude.{◌≡◌, ℕ, suc, Option, Some, List, [], ◌∷◌, length, map}
use Rattle.fac_lang.specs.Phrases.{Literal, Phrase, end, then, Item, lit, lit_arr, quot, word, bind, local, fry, hole, call_effect, execute_effect, next_method, made, next_after, held, known}
use Rattle.fac_lang.specs.Substitution.{of_method}
use Rattle.fac_lang.specs.Meaning.{of_method_if, array_method}
use Rattle.fac_lang.specs.declared.program.Lit.{Lit}
use Rattle.fac_lang.specs.declared.program.Lit.TheVariants.{Quot as l_quot, Made as l_made}
use Rattle.fac_lang.specs.declared.phrase.Template.{Template}
use Rattle.fac_lang.specs.declared.program.Program.{Program}
use Rattle.fac_lang.specs.declared.program.WordDef.{WordDef}
use Rattle.fac_lang.specs.declared.program.Sort.{Sort}
use Rattle.fac_lang.specs.declared.program.Sort.TheVariants.{Body as body, Past as past, Method as method}
use Rattle.fac_locals.specs.declared.cell.Cell.{Cell}
use Rattle.fac_locals.specs.declared.cell.Cell.TheVariants.{Local, Hole}
use Rattle.fac_locals.specs.Cells.{cell_number, cells_behind, captured, inner_cells, hole_count}
use Rattle.fac_locals.specs.Literals.{Quoted, StandsAt, quoted_phrase, behind, first_of_word, first_of_literal, first_in_array, element_item, literals, literal_places, literal_numbered}

module _ (P : Program) where
  -- the template with this number makes the quotation or fry that stands here under these cells
  abbrev pub IsMadeBy : List Cell → Literal → Item → ℕ → Type 0
  IsMadeBy cells at i k = literal_numbered P k ≡ record { at = at; cells = cells; item = i }

  -- An item for one that stands here under these cells.
  abbrev pub ClosesItem : List Cell → Literal → Item → Item → Type 0
  ClosesItem cells at (quot t) j = (k : ℕ) × (j ≡ made k) × IsMadeBy cells at (quot t) k
  ClosesItem cells at (fry t n) j = (k : ℕ) × (j ≡ made k) × IsMadeBy cells at (fry t n) k
  ClosesItem cells at (local x) j = (k : ℕ) × (j ≡ local k) × (cell_number cells (Local x) ≡ Some k)
  ClosesItem cells at (hole h) j = (k : ℕ) × (j ≡ local k) × (cell_number cells (Hole h) ≡ Some k)
  ClosesItem cells at (bind x) j = j ≡ bind (length cells)
  ClosesItem cells at (lit p) j = j ≡ lit p
  ClosesItem cells at (lit_arr a) j = j ≡ lit_arr a
  ClosesItem cells at (word w) j = j ≡ word w
  ClosesItem cells at (call_effect h) j = j ≡ call_effect h
  ClosesItem cells at (execute_effect h) j = j ≡ execute_effect h
  ClosesItem cells at next_method j = j ≡ next_method
  ClosesItem cells at (next_after m) j = j ≡ next_after m
  ClosesItem cells at (made k) j = ⊥
  ClosesItem cells at (held v) j = ⊥
  ClosesItem cells at (known m) j = ⊥

  -- a phrase for one whose first item stands here under these cells
  abbrev pub ClosesPhrase : List Cell → Literal → Phrase → Phrase → Type 0
  ClosesPhrase cells at end c = c ≡ end
  ClosesPhrase cells at (then i p t) c = (j : Item) × (s : Phrase) × (c ≡ then j p s) × ClosesItem cells at i j × ClosesPhrase (cells_behind cells i) (behind at i) t s

  -- what word w is, for what it is in the program
  abbrev pub ClosesSort : ℕ → Sort → Sort → Type 0
  ClosesSort w (body t) s = (c : Phrase) × (s ≡ body c) × ClosesPhrase [] (first_of_word w) t c
  ClosesSort w (past t) s = (c : Phrase) × (s ≡ past c) × ClosesPhrase [] (first_of_word w) t c
  ClosesSort w (method n g t) s = (c : Phrase) × (s ≡ method n g c) × ClosesPhrase [] (first_of_word w) (of_method w t) c
  ClosesSort w o s = s ≡ o

  -- word w, for the word in the program
  pub record ClosesWord (w : ℕ) (d c : WordDef) : Type 0 where
    pub name : c.name ≡ d.name
    pub sort : ClosesSort w d.sort c.sort
    pub effect : c.effect ≡ d.effect
    pub inline : c.inline ≡ d.inline
    pub recursive : c.recursive ≡ d.recursive
    pub place : c.place ≡ d.place

  -- words for those of the program, from word w on
  abbrev pub CloseWords : ℕ → List WordDef → List WordDef → Type 0
  CloseWords w [] cs = cs ≡ []
  CloseWords w (d ∷ ds) cs = (c : WordDef) × (r : List WordDef) × (cs ≡ c ∷ r) × ClosesWord w d c × CloseWords (suc w) ds r

  -- the template of this literal
  pub record ClosesLiteral (l : Quoted) (t : Template) : Type 0 where
    pub body : ClosesPhrase (inner_cells l.cells l.item) (first_of_literal l.at) (quoted_phrase l) t.body
    pub captures : t.captures ≡ captured l.cells l.item
    pub holes : t.holes ≡ hole_count l.item

  -- An element of a literal array that stands in the phrase of this method or in none, where the element stands here: a quotation is made by the template of its literal, and each other element is as it was.
  abbrev pub ClosesElement : Option ℕ → Literal → Lit → Lit → Type 0
  ClosesElement m at (l_quot t) c = (k : ℕ) × (c ≡ l_made k) × IsMadeBy [] at (quot (of_method_if m t)) k
  ClosesElement m at (l_made k) c = ⊥
  ClosesElement m at l c = c ≡ l

  -- elements for those of an array whose first one stands here
  abbrev pub CloseElements : Option ℕ → Literal → List Lit → List Lit → Type 0
  CloseElements m at [] cs = cs ≡ []
  CloseElements m at (l ∷ ls) cs = (c : Lit) × (r : List Lit) × (cs ≡ c ∷ r) × ClosesElement m at l c × CloseElements m (behind at (element_item m l)) ls r

  -- arrays for those of the program, from number a on, each for where it stands
  abbrev pub CloseArrays : ℕ → List (List Lit) → List (List Lit) → Type 0
  CloseArrays a [] cs = cs ≡ []
  CloseArrays a (ls ∷ lss) cs = (at : Literal) × (c : List Lit) × (r : List (List Lit)) × (cs ≡ c ∷ r) × CloseElements (array_method P (length P.arrays) a) (first_in_array at) ls c × CloseArrays (suc a) lss r × StandsAt P a at

  -- templates for literals, one by one
  abbrev pub CloseLiterals : List Quoted → List Template → Type 0
  CloseLiterals [] ts = ts ≡ []
  CloseLiterals (l ∷ ls) ts = (t : Template) × (r : List Template) × (ts ≡ t ∷ r) × ClosesLiteral l t × CloseLiterals ls r

-- a closed program with these templates, each at the place of its literal, stands for this one
pub record Closes (P C : Program) (templates : List Template) : Type 0 where
  pub words : CloseWords P 0 P.words C.words
  pub templates_are : CloseLiterals P (literals P) templates
  pub places : map (λ (t : Template). t.place) templates ≡ literal_places P
  pub arrays : CloseArrays P 0 P.arrays C.arrays
  pub classes : C.classes ≡ P.classes
  pub top : C.top ≡ P.top
