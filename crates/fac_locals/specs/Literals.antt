-- The literal quotations and fries of a program: which literal each is, and under which cells it stands.
use Rattle.std.specs.Prelude.{◌≡◌, ◌<◌, ◌⊎◌, ℕ, zero, suc, ◌+◌, List, [], ◌∷◌, ◌++◌, length, Option, Some, None, slice_get}
use Rattle.fac_lang.specs.Phrases.{int, yes, no, str, wrd, Literal, Phrase, end, then, Item, lit, lit_arr, quot, fry, made}
use Rattle.fac_lang.specs.Substitution.{of_method}
use Rattle.fac_lang.specs.Meaning.{of_method_if, array_method, nowhere, word_phrase}
use Rattle.fac_base.specs.declared.place.Place.{Place}
use Rattle.fac_locals.specs.declared.cell.Cell.{Cell}
use Rattle.fac_locals.specs.Cells.{cells_behind, inner_cells, inner_phrase}
use Rattle.fac_lang.specs.declared.program.Lit.{Lit}
use Rattle.fac_lang.specs.declared.program.Lit.TheVariants.{Int as l_int, True as l_yes, False as l_no, Str as l_str, Arr as l_arr, Wref as l_word, Quot as l_quot, Made as l_made}
use Rattle.fac_lang.specs.declared.program.Program.{Program}
use Rattle.fac_lang.specs.declared.program.WordDef.{WordDef}
use Rattle.fac_lang.specs.declared.program.Sort.{Sort}
use Rattle.fac_lang.specs.declared.program.Sort.TheVariants.{Body as body, Past as past, Method as method}

-- How many items stand in a phrase, with those of its quotations and fry bodies. A literal array is one item, and so is a mark or a value that was put for a local or a hole, as that was.
abbrev mutual
  pub items_in : Phrase → ℕ
  items_in end = 0
  items_in (then i p t) = suc (items_inside i + items_in t)

  pub items_inside : Item → ℕ
  items_inside (quot t) = items_in t
  items_inside (fry t n) = items_in t
  items_inside _ = 0

-- Where an item stands is said as for a literal: by the word in whose phrase it is, the literal arrays around it, and the number of items before it. So a quotation that stands there is that literal.

-- the first item of a word's phrase
abbrev pub first_of_word : ℕ → Literal
first_of_word w = record { word = w; around = []; index = 0 }

-- the first item of a literal's phrase
abbrev pub first_of_literal : Literal → Literal
first_of_literal l = record { word = l.word; around = l.around; index = suc l.index }

-- the item behind one that stands here
abbrev pub behind : Literal → Item → Literal
behind l i = record { word = l.word; around = l.around; index = suc (l.index + items_inside i) }

-- the first element of the literal array that stands here
abbrev pub first_in_array : Literal → Literal
first_in_array l = record { word = l.word; around = l.around ++ l.index ∷ []; index = 0 }

-- The numbers that lead to a place: those of the literal arrays around it, and its own.
abbrev pub path : Literal → List ℕ
path l = l.around ++ l.index ∷ []

-- numbers that lead to the same place as others, or before it; what stands in an array is behind the array's item
abbrev pub NotBehind : List ℕ → List ℕ → Type 0
NotBehind [] js = Unit {0}
NotBehind (i ∷ is) [] = ⊥
NotBehind (i ∷ is) (j ∷ js) = (i < j) ⊎ ((i ≡ j) × NotBehind is js)

-- a place is at another one or behind it
abbrev pub NotBefore : Literal → Literal → Type 0
NotBefore a b = (a.word < b.word) ⊎ ((a.word ≡ b.word) × NotBehind (path a) (path b))

-- A literal of a program: which it is, the cells of the frame under which it stands, and the quotation or fry.
pub record Quoted : Type 0 where
  pub at : Literal
  pub cells : List Cell
  pub item : Item

-- its phrase
abbrev pub quoted_phrase : Quoted → Phrase
quoted_phrase l = inner_phrase l.item

-- An element of a literal array as an item, where the array stands in the phrase of this method, or in none.
abbrev pub element_item : Option ℕ → Lit → Item
element_item m (l_int z) = lit (int z)
element_item m l_yes = lit yes
element_item m l_no = lit no
element_item m (l_str bs) = lit (str bs)
element_item m (l_arr a) = lit_arr a
element_item m (l_word w) = lit (wrd w)
element_item m (l_quot t) = quot (of_method_if m t)
element_item m (l_made k) = made k

-- The elements of an array as the items of a phrase. All stand at the place of the array's item.
abbrev pub elements_phrase : Option ℕ → Place → List Lit → Phrase
elements_phrase m p [] = end
elements_phrase m p (l ∷ ls) = then (element_item m l) p (elements_phrase m p ls)

-- those of the array with this number
abbrev pub array_or_none : Option (List Lit) → List Lit
array_or_none None = []
array_or_none (Some ls) = ls

abbrev pub array_phrase : Program → ℕ → Place → Phrase
array_phrase P a p = elements_phrase (array_method P (length P.arrays) a) p (array_or_none (slice_get P.arrays a))

-- The quotations and fries of a phrase in reading order, an outer one before those in it, where the first item stands here under these cells, and `arrays` has those of a literal array that stands at a place.
module _ (arrays : ℕ → Literal → List Quoted) where
  abbrev mutual
    pub literals_in : List Cell → Literal → Phrase → List Quoted
    literals_in cells at end = []
    literals_in cells at (then i p t) = literals_at cells at i ++ literals_in (cells_behind cells i) (behind at i) t

    pub literals_at : List Cell → Literal → Item → List Quoted
    literals_at cells at (quot t) = record { at = at; cells = cells; item = quot t } ∷ literals_in (inner_cells cells (quot t)) (first_of_literal at) t
    literals_at cells at (fry t n) = record { at = at; cells = cells; item = fry t n } ∷ literals_in (inner_cells cells (fry t n)) (first_of_literal at) t
    literals_at cells at (lit_arr a) = arrays a at
    literals_at cells at _ = []

-- Those of the literal array with this number that stands here, where at most n arrays nest. Each array names only earlier ones, so as many as there are is enough. No
-- local or hole of around is in scope in an array.
abbrev pub array_literals : Program → ℕ → ℕ → Literal → List Quoted
array_literals P zero a at = []
array_literals P (suc n) a at = literals_in (array_literals P n) [] (first_in_array at) (array_phrase P a nowhere)

-- The places of a phrase's quotations, in the order of its literals: a quotation is at the place of its item, and one that is an element of an array at that of the array.
module _ (arrays : ℕ → Place → List Place) where
  abbrev mutual
    pub places_in : Phrase → List Place
    places_in end = []
    places_in (then i p t) = places_at p i ++ places_in t

    pub places_at : Place → Item → List Place
    places_at p (quot t) = p ∷ places_in t
    places_at p (fry t n) = p ∷ places_in t
    places_at p (lit_arr a) = arrays a p
    places_at p _ = []

-- those of the literal array with this number that stands at a place
abbrev pub array_places : Program → ℕ → ℕ → Place → List Place
array_places P zero a p = []
array_places P (suc n) a p = places_in (array_places P n) (array_phrase P a p)

-- for a program
module _ (P : Program) where
  abbrev arrays : ℕ → Literal → List Quoted
  arrays = array_literals P (length P.arrays)

  abbrev places : ℕ → Place → List Place
  places = array_places P (length P.arrays)

  -- the quotations of a word's phrase, where it has one; in that of a method, `call-next-method` is the item "next after this method"
  abbrev pub sort_literals : ℕ → Sort → List Quoted
  sort_literals w (body t) = literals_in arrays [] (first_of_word w) t
  sort_literals w (past t) = literals_in arrays [] (first_of_word w) t
  sort_literals w (method c g t) = literals_in arrays [] (first_of_word w) (of_method w t)
  sort_literals w _ = []

  -- those of words, from word w on
  abbrev pub word_literals : ℕ → List WordDef → List Quoted
  word_literals w [] = []
  word_literals w (d ∷ ds) = sort_literals w d.sort ++ word_literals (suc w) ds

  -- The literals of a program, word by word. A literal's number in this list is that of its template.
  abbrev pub literals : List Quoted
  literals = word_literals 0 P.words

  -- the places of a word's quotations
  abbrev pub sort_places : ℕ → Sort → List Place
  sort_places w (body t) = places_in places t
  sort_places w (past t) = places_in places t
  sort_places w (method c g t) = places_in places (of_method w t)
  sort_places w _ = []

  -- those of words, from word w on
  abbrev pub word_places : ℕ → List WordDef → List Place
  word_places w [] = []
  word_places w (d ∷ ds) = sort_places w d.sort ++ word_places (suc w) ds

  -- The places of a program's literals, by the same numbers.
  abbrev pub literal_places : List Place
  literal_places = word_places 0 P.words

-- The literal of this number. A number behind the last one names a quotation with no items of a word that isn't there, so that no two numbers name the same literal.
abbrev pub literal_or : Program → ℕ → Option Quoted → Quoted
literal_or P k (Some l) = l
literal_or P k None = record { at = record { word = length P.words; around = []; index = k }; cells = []; item = quot end }

abbrev pub literal_numbered : Program → ℕ → Quoted
literal_numbered P k = literal_or P k (slice_get (literals P) k)

-- Where a literal array stands: at its number among the items of a phrase, or among the elements of another array.
module _ (P : Program) where
  -- In a phrase whose first item stands here the array of this number stands there: it is an item, or stands in a quotation, a fry or an array.
  pub data StandsIn : Literal → Phrase → ℕ → Literal → Type 0 where
    it_is : (here : Literal) (a : ℕ) (p : Place) (t : Phrase) → StandsIn here (then (lit_arr a) p t) a here
    in_quotation : (here : Literal) (u : Phrase) (p : Place) (t : Phrase) (a : ℕ) (there : Literal) → StandsIn (first_of_literal here) u a there → StandsIn here (then (quot u) p t) a there
    in_fry : (here : Literal) (u : Phrase) (n : ℕ) (p : Place) (t : Phrase) (a : ℕ) (there : Literal) → StandsIn (first_of_literal here) u a there → StandsIn here (then (fry u n) p t) a there
    in_array : (here : Literal) (b : ℕ) (p : Place) (t : Phrase) (q : Place) (a : ℕ) (there : Literal) → StandsIn (first_in_array here) (array_phrase P b q) a there → StandsIn here (then (lit_arr b) p t) a there
    further : (here : Literal) (i : Item) (p : Place) (t : Phrase) (a : ℕ) (there : Literal) → StandsIn (behind here i) t a there → StandsIn here (then i p t) a there

  -- The literal array of this number stands there in the phrase of a word. In a whole program each is named once, so it stands nowhere else.
  pub record StandsAt (a : ℕ) (there : Literal) : Type 0 where
    pub word : ℕ
    pub stands : StandsIn (first_of_word word) (word_phrase P word) a there
