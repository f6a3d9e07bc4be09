-- How closing goes through a program: the numbers that its templates get, word by word, an outer quotation or fry before those in it and those of a literal array where the array stands, and the cells of their frames. The words come first, and then the arrays from the last one to the first: what names an array comes before it.
use Rattle.std.specs.Prelude.{◌≡◌, ℕ, zero, suc, ◌+◌, List, [], ◌∷◌, ◌++◌, length, set, slice_index_or, Option, Some, None}
use Rattle.fac_lang.specs.Phrases.{Phrase, end, then, append, Item, lit_arr, quot, word, bind, local, fry, hole, next_method, made, next_after}
use Rattle.fac_lang.specs.Meaning.{nowhere}
use Rattle.fac_base.specs.declared.place.Place.{Place}
use Rattle.fac_lang.specs.declared.phrase.Item.{Item as PlacedItem}
use Rattle.fac_lang.specs.declared.phrase.What.{What}
use Rattle.fac_lang.specs.declared.phrase.What.TheVariants.{Quot, Choices, Bind, Local as LocalValue, Fry, Hole as HoleValue, NextMethod, NextAfter, Made}
use Rattle.fac_lang.specs.declared.phrase.Template.{Template}
use Rattle.fac_lang.specs.declared.program.WordDef.{WordDef}
use Rattle.fac_lang.specs.declared.program.Sort.{Sort}
use Rattle.fac_lang.specs.declared.program.Sort.TheVariants.{Body as body, Past as past, Method as method}
use Rattle.fac_lang.specs.declared.program.Lit.{Lit}
use Rattle.fac_lang.specs.declared.program.Lit.TheVariants.{Quot as l_quot, Made as l_made}
use Rattle.fac_lang.specs.PhraseView.{choices_behind, what_item, items_phrase}
use Rattle.fac_locals.specs.declared.cell.Cell.{Cell}
use Rattle.fac_locals.specs.declared.cell.Cell.TheVariants.{Local, Hole}
use Rattle.fac_locals.specs.declared.asking.Asked.{Asked}
use Rattle.fac_locals.specs.declared.keeping.Kept.{Kept}
use Rattle.fac_locals.specs.Cells.{cell_number, cells_behind, captured, inner_cells, hole_count}
use Rattle.fac_locals.specs.Asked.{AreAskedBy, quotations_in, quotations_at}
use Rattle.fac_locals.specs.Literals.{element_item, elements_phrase}
use Rattle.fac_locals.specs.declared.closing.ArrayStart.{ArrayStart}
use Rattle.fac_locals.specs.declared.closing.Closing.{Closing}
use Rattle.fac_locals.specs.declared.closing.Level.{Level}

-- a list after these elements were put at their numbers, one after the other
abbrev pub put_all : {A : Type 0} → List A → List (ℕ × A) → List A
put_all xs [] = xs
put_all xs (w ∷ ws) = put_all (set xs w.0 w.1) ws

-- the template of a quotation or fry that stands here under these cells, with this closed phrase
abbrev pub template_of : List Cell → Place → Item → Phrase → Template
template_of cells p i t = record { body = t; captures = captured cells i; holes = hole_count i; place = p }

-- a literal array that stands here, in the phrase of this method or in none, whose first quotation gets this number
abbrev pub start_of : ℕ → Place → Option ℕ → ArrayStart
start_of n p m = record { number = n; place = p; method = m }

-- an element of an array as an item, and those of an array as a phrase, where the array stands in no method
abbrev pub plain_item : Lit → Item
plain_item l = element_item None l

abbrev pub plain_phrase : Place → List Lit → Phrase
plain_phrase p ls = elements_phrase None p ls

-- the phrase of a word that is defined by one, of an earlier top-level phrase, and of a method
abbrev pub phrase_of : Sort → Phrase
phrase_of (body t) = t
phrase_of (past t) = t
phrase_of (method c g t) = t
phrase_of _ = end

-- the method that word w is
abbrev pub method_of : ℕ → Sort → Option ℕ
method_of w (method c g t) = Some w
method_of w _ = None

-- `call-next-method` in the phrase of a method, or in none
abbrev pub next_in : Option ℕ → Item
next_in None = next_method
next_in (Some m) = next_after m

-- likewise in a list of items
abbrev pub next_what : Option ℕ → What
next_what None = NextMethod
next_what (Some m) = NextAfter m

-- the cells behind a phrase that stands under these
abbrev pub phrase_cells : List Cell → Phrase → List Cell
phrase_cells cells end = cells
phrase_cells cells (then i p t) = phrase_cells (cells_behind cells i) t

-- the choice behind a phrase whose quotation has this number, with the word that chooses, or none
abbrev pub choice_in : ℕ → Place → Option ℕ → Phrase
choice_in w p None = end
choice_in w p (Some k) = then (made k) p (then (word w) p end)

-- The templates of quotations inside one another that were gone into, the innermost first, where this stands behind the phrase of the innermost one, and behind each other one the choice of what is inside it.
abbrev pub level_templates : ℕ → Place → List Level → Phrase → List (ℕ × Template)
level_templates w p [] t = []
level_templates w p (l ∷ ls) t = (l.number, record { body = append l.body t; captures = l.captures; holes = 0; place = l.place }) ∷ level_templates w p ls (choice_in w p (Some l.number))

-- an item for the cell of this number, or another where there is none
abbrev pub cell_or : Item → Option ℕ → Item
cell_or i None = i
cell_or i (Some k) = local k

-- likewise in a list of items
abbrev pub cell_what : What → Option ℕ → What
cell_what w None = w
cell_what w (Some k) = LocalValue k

-- Arrays have so many quotations, those of the arrays in them included.
module _ (counts : List ℕ) where
  -- The number behind those of a phrase's quotations, where the first of them gets this number.
  abbrev mutual
    pub phrase_behind : ℕ → Phrase → ℕ
    phrase_behind n end = n
    phrase_behind n (then i p t) = phrase_behind (item_behind n i) t

    pub item_behind : ℕ → Item → ℕ
    item_behind n (quot t) = phrase_behind (suc n) t
    item_behind n (fry t k) = phrase_behind (suc n) t
    item_behind n (lit_arr a) = n + slice_index_or counts a 0
    item_behind n _ = n

  -- an element of a literal array, where a quotation gets this number
  abbrev pub closed_element : ℕ → Lit → Lit
  closed_element n (l_quot t) = l_made n
  closed_element n l = l

  abbrev pub closed_elements : ℕ → List Lit → List Lit
  closed_elements n [] = []
  closed_elements n (l ∷ ls) = closed_element n l ∷ closed_elements (item_behind n (plain_item l)) ls

  -- This is in the phrase of a method, or in none.
  module _ (m : Option ℕ) where
    -- an item that stands under these cells, where a quotation or fry gets this number
    abbrev pub closed_item : List Cell → ℕ → Item → Item
    closed_item cells n (quot t) = made n
    closed_item cells n (fry t k) = made n
    closed_item cells n (bind x) = bind (length cells)
    closed_item cells n (local x) = cell_or (local x) (cell_number cells (Local x))
    closed_item cells n (hole h) = cell_or (hole h) (cell_number cells (Hole h))
    closed_item cells n next_method = next_in m
    closed_item cells n i = i

    -- a phrase under these cells, where its first quotation gets this number
    abbrev pub closed_phrase : List Cell → ℕ → Phrase → Phrase
    closed_phrase cells n end = end
    closed_phrase cells n (then i p t) = then (closed_item cells n i) p (closed_phrase (cells_behind cells i) (item_behind n i) t)

    -- the template of a quotation or fry with this number and phrase
    abbrev pub closed_template : List Cell → ℕ → Place → Item → Phrase → Template
    closed_template cells n p i t = template_of cells p i (closed_phrase (inner_cells cells i) (suc n) t)

    -- the templates of a phrase's quotations with their numbers, where the first quotation gets this number, in the order in which they are closed
    abbrev mutual
      pub phrase_templates : List Cell → ℕ → Phrase → List (ℕ × Template)
      phrase_templates cells n end = []
      phrase_templates cells n (then i p t) = item_templates cells n p i ++ phrase_templates (cells_behind cells i) (item_behind n i) t

      pub item_templates : List Cell → ℕ → Place → Item → List (ℕ × Template)
      item_templates cells n p (quot t) = phrase_templates (inner_cells cells (quot t)) (suc n) t ++ (n, closed_template cells n p (quot t) t) ∷ []
      item_templates cells n p (fry t k) = phrase_templates (inner_cells cells (fry t k)) (suc n) t ++ (n, closed_template cells n p (fry t k) t) ∷ []
      item_templates cells n p _ = []

    -- the literal arrays that a phrase names, each with where its quotations start
    abbrev mutual
      pub phrase_starts : ℕ → Phrase → List (ℕ × ArrayStart)
      phrase_starts n end = []
      phrase_starts n (then i p t) = item_starts n p i ++ phrase_starts (item_behind n i) t

      pub item_starts : ℕ → Place → Item → List (ℕ × ArrayStart)
      item_starts n p (quot t) = phrase_starts (suc n) t
      item_starts n p (fry t k) = phrase_starts (suc n) t
      item_starts n p (lit_arr a) = (a, start_of n p m) ∷ []
      item_starts n p _ = []

    -- the same item in a list of items
    abbrev pub closed_what : List Cell → ℕ → What → What
    closed_what cells n (Quot t) = Made n
    closed_what cells n (Choices c) = Made n
    closed_what cells n (Fry t k) = Made n
    closed_what cells n (Bind x) = Bind (length cells)
    closed_what cells n (LocalValue x) = cell_what (LocalValue x) (cell_number cells (Local x))
    closed_what cells n (HoleValue h) = cell_what (HoleValue h) (cell_number cells (Hole h))
    closed_what cells n NextMethod = next_what m
    closed_what cells n w = w

    abbrev pub closed_items : List Cell → ℕ → List PlacedItem → List PlacedItem
    closed_items cells n [] = []
    closed_items cells n (i ∷ is) = record { what = closed_what cells n i.what; place = i.place } ∷ closed_items (cells_behind cells (what_item i.what)) (item_behind n (what_item i.what)) is

  -- what word w is, where the first quotation of its phrase gets this number
  abbrev pub closed_sort : ℕ → ℕ → Sort → Sort
  closed_sort w n (body t) = body (closed_phrase None [] n t)
  closed_sort w n (past t) = past (closed_phrase None [] n t)
  closed_sort w n (method c g t) = method c g (closed_phrase (Some w) [] n t)
  closed_sort w n s = s

  -- the words of a program from word w on, where the first quotation in them gets this number
  abbrev pub closed_word : ℕ → ℕ → WordDef → WordDef
  closed_word w n d = record { name = d.name; sort = closed_sort w n d.sort; effect = d.effect; inline = d.inline; recursive = d.recursive; place = d.place }

  abbrev pub words_behind : ℕ → List WordDef → ℕ
  words_behind n [] = n
  words_behind n (d ∷ ds) = words_behind (phrase_behind n (phrase_of d.sort)) ds

  abbrev pub closed_words : ℕ → ℕ → List WordDef → List WordDef
  closed_words w n [] = []
  closed_words w n (d ∷ ds) = closed_word w n d ∷ closed_words (suc w) (phrase_behind n (phrase_of d.sort)) ds

  abbrev pub words_templates : ℕ → ℕ → List WordDef → List (ℕ × Template)
  words_templates w n [] = []
  words_templates w n (d ∷ ds) = phrase_templates (method_of w d.sort) [] n (phrase_of d.sort) ++ words_templates (suc w) (phrase_behind n (phrase_of d.sort)) ds

  abbrev pub words_starts : ℕ → ℕ → List WordDef → List (ℕ × ArrayStart)
  words_starts w n [] = []
  words_starts w n (d ∷ ds) = phrase_starts (method_of w d.sort) n (phrase_of d.sort) ++ words_starts (suc w) (phrase_behind n (phrase_of d.sort)) ds

-- how many quotations the elements of an array have
abbrev pub elements_count : List ℕ → List Lit → ℕ
elements_count counts ls = phrase_behind counts 0 (plain_phrase nowhere ls)

-- how many each of these arrays has, behind those that were counted before
abbrev pub counts_from : List ℕ → List (List Lit) → List ℕ
counts_from counts [] = counts
counts_from counts (ls ∷ lss) = counts_from (counts ++ elements_count counts ls ∷ []) lss

-- The arrays of a program, of which those from some number on are closed, and what was made so far.
pub record Stage : Type 0 where
  pub arrays : List (List Lit)
  pub templates : List Template
  pub starts : List ArrayStart

-- the number and the place that are noted for an array, and its elements
abbrev pub start_at : Stage → ℕ → ArrayStart
start_at s a = slice_index_or s.starts a (start_of 0 nowhere None)

abbrev pub elements_at : Stage → ℕ → List Lit
elements_at s a = slice_index_or s.arrays a []

-- after this array is closed
abbrev pub array_closed : List ℕ → ℕ → Stage → Stage
array_closed counts a s =
    record {
      arrays = set s.arrays a (closed_elements counts (start_at s a).number (elements_at s a));
      templates = put_all s.templates (phrase_templates counts (start_at s a).method [] (start_at s a).number (plain_phrase (start_at s a).place (elements_at s a)));
      starts = put_all s.starts (phrase_starts counts (start_at s a).method (start_at s a).number (plain_phrase (start_at s a).place (elements_at s a)));
    }

-- after those with numbers below this one are closed, the last of them first
abbrev pub arrays_closed : List ℕ → ℕ → Stage → Stage
arrays_closed counts zero s = s
arrays_closed counts (suc a) s = arrays_closed counts a (array_closed counts a s)

-- What closing has made before an item that stands here under these cells, in the phrase of a method or in none, and behind it.
pub record ItemPassed (counts : List ℕ) (m : Option ℕ) (cells : List Cell) (before : Closing) (p : Place) (i : Item) (behind : Closing) : Type 0 where
  pub next_is : behind.next ≡ item_behind counts before.next i
  pub templates_are : behind.templates.items ≡ put_all before.templates.items (item_templates counts m cells before.next p i)
  pub starts_are : behind.starts.items ≡ put_all before.starts.items (item_starts counts m before.next p i)

-- An array is passed under any cells, since no local or hole of around is in scope in it.
abbrev pub ArrayPassed : List ℕ → Option ℕ → Closing → Place → ℕ → Closing → Type 0
ArrayPassed counts m before p a behind = (cells : List Cell) → ItemPassed counts m cells before p (lit_arr a) behind

-- likewise a phrase
pub record PhrasePassed (counts : List ℕ) (m : Option ℕ) (cells : List Cell) (before : Closing) (t : Phrase) (behind : Closing) : Type 0 where
  pub next_is : behind.next ≡ phrase_behind counts before.next t
  pub templates_are : behind.templates.items ≡ put_all before.templates.items (phrase_templates counts m cells before.next t)
  pub starts_are : behind.starts.items ≡ put_all before.starts.items (phrase_starts counts m before.next t)

-- An item is closed, and what the quotations behind it ask for, which are these, is left.
pub record ItemClosed (counts : List ℕ) (m : Option ℕ) (cells : List Cell) (before : Closing) (p : Place) (w closed : What) (behind : Closing) (is : List Item) : Type 0 where
  pub closed_is : closed ≡ closed_what counts m cells before.next w
  pub passed : ItemPassed counts m cells before p (what_item w) behind
  pub left : AreAskedBy is behind.asked

-- likewise a phrase
pub record PhraseClosed (counts : List ℕ) (m : Option ℕ) (cells : List Cell) (before : Closing) (t closed : Phrase) (behind : Closing) (is : List Item) : Type 0 where
  pub closed_is : closed ≡ closed_phrase counts m cells before.next t
  pub passed : PhrasePassed counts m cells before t behind
  pub left : AreAskedBy is behind.asked

-- what the next quotation asks for comes first, or what these do
abbrev pub IsAsked : List Asked → Type 0
IsAsked all = (i : Item) × (is : List Item) × AreAskedBy (i ∷ is) all

abbrev pub AreAsked : List Item → List Asked → Type 0
AreAsked own all = (is : List Item) × AreAskedBy (own ++ is) all

-- where what its own quotations ask for comes first
abbrev pub ClosesWhat : List ℕ → Option ℕ → List Cell → Closing → Place → What → What → Closing → Type 0
ClosesWhat counts m cells before p w closed behind = (is : List Item) → AreAskedBy (quotations_at (what_item w) ++ is) before.asked → ItemClosed counts m cells before p w closed behind is

abbrev pub ClosesTree : List ℕ → Option ℕ → List Cell → Closing → Phrase → Phrase → Closing → Type 0
ClosesTree counts m cells before t closed behind = (is : List Item) → AreAskedBy (quotations_in t ++ is) before.asked → PhraseClosed counts m cells before t closed behind is

-- What a quotation or fry with so many holes that stands under these cells keeps, where what it asks for comes first.
pub record KeptIs (cells : List Cell) (i : Item) (kept : Kept) (behind : Closing) (is : List Item) : Type 0 where
  pub captures_are : kept.captures ≡ captured cells i
  pub cells_are : kept.cells ≡ inner_cells cells i
  pub left : AreAskedBy is behind.asked

pub record KeptTaken (cells : List Cell) (holes : ℕ) (before : Closing) (kept : Kept) (behind : Closing) : Type 0 where
  pub next_stays : behind.next ≡ before.next
  pub templates_stay : behind.templates.items ≡ before.templates.items
  pub starts_stay : behind.starts.items ≡ before.starts.items
  pub kept_is : (i : Item) (is : List Item) → hole_count i ≡ holes → AreAskedBy (i ∷ is) before.asked → KeptIs cells i kept behind is

-- A quotation was gone into that stands here under these cells: this is its phrase up to what is behind it, which is still to be closed under the inner cells.
pub record LevelEntered (counts : List ℕ) (m : Option ℕ) (cells : List Cell) (before : Closing) (p : Place) (t behind_it : Phrase) (level : Level) (inner : List Cell) (behind : Closing) (is : List Item) : Type 0 where
  pub number_is : level.number ≡ before.next
  pub place_is : level.place ≡ p
  pub captures_are : level.captures ≡ captured cells (quot (append t behind_it))
  pub body_is : level.body ≡ closed_phrase counts m (inner_cells cells (quot (append t behind_it))) (suc before.next) t
  pub cells_are : inner ≡ phrase_cells (inner_cells cells (quot (append t behind_it))) t
  pub next_is : behind.next ≡ phrase_behind counts (suc before.next) t
  pub templates_are : behind.templates.items ≡ put_all before.templates.items (phrase_templates counts m (inner_cells cells (quot (append t behind_it))) (suc before.next) t)
  pub starts_are : behind.starts.items ≡ put_all before.starts.items (phrase_starts counts m (suc before.next) t)
  pub left : AreAskedBy (quotations_in behind_it ++ is) behind.asked

-- whatever stands behind its phrase, where what it and the quotations in it ask for comes first
abbrev pub EntersLevel : List ℕ → Option ℕ → List Cell → Closing → Place → Phrase → Level → List Cell → Closing → Type 0
EntersLevel counts m cells before p t level inner behind = (u : Phrase) (is : List Item) → AreAskedBy (quotations_at (quot (append t u)) ++ is) before.asked → LevelEntered counts m cells before p t u level inner behind is

abbrev pub IsEnteredAsked : Phrase → List Asked → Type 0
IsEnteredAsked t all = (u : Phrase) × AreAsked (quotations_at (quot (append t u))) all

-- a quotation, or a fry with so many holes, with its phrase
pub data IsQuoted : Phrase → ℕ → Item → Type 0 where
  a_quotation : (t : Phrase) → IsQuoted t 0 (quot t)
  a_fry : (t : Phrase) (n : ℕ) → IsQuoted t n (fry t n)

-- where what such a one and the quotations in it ask for comes first
pub record IsQuotedAsked (t : Phrase) (n : ℕ) (all : List Asked) : Type 0 where
  pub item : Item
  pub quoted : IsQuoted t n item
  pub asked : AreAsked (quotations_at item) all

-- A quotation or fry got this number and is closed, and what the quotations behind it ask for, which are these, is left.
pub record QuotationClosed (counts : List ℕ) (m : Option ℕ) (cells : List Cell) (before : Closing) (p : Place) (i : Item) (number : ℕ) (behind : Closing) (is : List Item) : Type 0 where
  pub number_is : number ≡ before.next
  pub passed : ItemPassed counts m cells before p i behind
  pub left : AreAskedBy is behind.asked

abbrev pub ClosesQuotation : List ℕ → Option ℕ → List Cell → Closing → Place → Phrase → ℕ → ℕ → Closing → Type 0
ClosesQuotation counts m cells before p t holes number behind =
    (i : Item) (is : List Item) → IsQuoted t holes i → AreAskedBy (quotations_at i ++ is) before.asked → QuotationClosed counts m cells before p i number behind is

-- Quotations inside one another, of which these were gone into, the innermost first: what comes of the item from the start under its cells comes of what is left behind the phrase of the innermost one under the inner cells, and then of the templates of those that were gone into.
pub record Inside (counts : List ℕ) (m : Option ℕ) (w : ℕ) (q : Place) (outer : List Cell) (start : Closing) (p : Place) (i : Item) (levels : List Level) (inner : List Cell) (now : Closing) (left : Phrase) (is : List Item) : Type 0 where
  pub next_is : item_behind counts start.next i ≡ phrase_behind counts now.next left
  pub templates_are : put_all start.templates.items (item_templates counts m outer start.next p i) ≡ put_all now.templates.items (phrase_templates counts m inner now.next left ++ level_templates w q levels (closed_phrase counts m inner now.next left))
  pub starts_are : put_all start.starts.items (item_starts counts m start.next p i) ≡ put_all now.starts.items (phrase_starts counts m now.next left)
  pub asked : AreAskedBy (quotations_in left ++ is) now.asked

-- one goes from where these choices are left to where none is
abbrev pub EntersInside : List ℕ → Option ℕ → ℕ → Place → List Level → List Cell → Closing → List Phrase → List Level → Closing → Type 0
EntersInside counts m w q levels cells before ts now behind =
    (outer : List Cell) (start : Closing) (p : Place) (i : Item) (is : List Item) → Inside counts m w q outer start p i levels cells before (choices_behind w q ts) is → Inside counts m w q outer start p i now [] behind end is

-- A quotation is passed, and what the quotations behind it ask for, which are these, is left.
pub record QuotationPassed (counts : List ℕ) (m : Option ℕ) (cells : List Cell) (before : Closing) (p : Place) (t : Phrase) (behind : Closing) (is : List Item) : Type 0 where
  pub passed : ItemPassed counts m cells before p (quot t) behind
  pub left : AreAskedBy is behind.asked

abbrev pub ClosesChoices : List ℕ → Option ℕ → List Cell → Closing → Place → Phrase → Closing → Type 0
ClosesChoices counts m cells before p t behind = (is : List Item) → AreAskedBy (quotations_at (quot t) ++ is) before.asked → QuotationPassed counts m cells before p t behind is

-- likewise words, from word w on
pub record WordsPassed (counts : List ℕ) (w : ℕ) (before : Closing) (ds : List WordDef) (behind : Closing) : Type 0 where
  pub next_is : behind.next ≡ words_behind counts before.next ds
  pub templates_are : behind.templates.items ≡ put_all before.templates.items (words_templates counts w before.next ds)
  pub starts_are : behind.starts.items ≡ put_all before.starts.items (words_starts counts w before.next ds)

-- A loop over the items of a phrase: what comes of the whole phrase from the start under its cells comes of what is left of it now under those that are there.
pub record Passing (counts : List ℕ) (m : Option ℕ) (first : List Cell) (start : Closing) (t : Phrase) (cells : List Cell) (now : Closing) (left : Phrase) : Type 0 where
  pub next_is : phrase_behind counts start.next t ≡ phrase_behind counts now.next left
  pub templates_are : put_all start.templates.items (phrase_templates counts m first start.next t) ≡ put_all now.templates.items (phrase_templates counts m cells now.next left)
  pub starts_are : put_all start.starts.items (phrase_starts counts m start.next t) ≡ put_all now.starts.items (phrase_starts counts m now.next left)

-- The items so far are closed, and what the quotations of those that are left and behind them ask for is left.
pub record ItemsClosed (counts : List ℕ) (m : Option ℕ) (first : List Cell) (start : Closing) (whole : List PlacedItem) (items : List PlacedItem) (cells : List Cell) (now : Closing) (rest : List PlacedItem) (is : List Item) : Type 0 where
  pub items_are : closed_items counts m first start.next whole ≡ items ++ closed_items counts m cells now.next rest
  pub passing : Passing counts m first start (items_phrase whole) cells now (items_phrase rest)
  pub left : AreAskedBy (quotations_in (items_phrase rest) ++ is) now.asked

-- likewise over all words, of which those from word w on are left
pub record WordsPassing (counts : List ℕ) (start : Closing) (ds : List WordDef) (w : ℕ) (now : Closing) (left : List WordDef) : Type 0 where
  pub next_is : words_behind counts start.next ds ≡ words_behind counts now.next left
  pub templates_are : put_all start.templates.items (words_templates counts 0 start.next ds) ≡ put_all now.templates.items (words_templates counts w now.next left)
  pub starts_are : put_all start.starts.items (words_starts counts 0 start.next ds) ≡ put_all now.starts.items (words_starts counts w now.next left)

-- a quotation got this number
pub record NumberTaken (before : Closing) (number : ℕ) (behind : Closing) : Type 0 where
  pub number_is : number ≡ before.next
  pub next_is : behind.next ≡ suc before.next
  pub templates_stay : behind.templates.items ≡ before.templates.items
  pub starts_stay : behind.starts.items ≡ before.starts.items
  pub asked_stay : behind.asked ≡ before.asked

abbrev pub stage_of : List (List Lit) → Closing → Stage
stage_of arrays c = record { arrays = arrays; templates = c.templates.items; starts = c.starts.items }

-- The words and arrays of a program are closed with these templates. Before, there are as many templates as quotations and as many starts as arrays, of which nothing else is known.
pub record PartsClosed (words : List WordDef) (arrays : List (List Lit)) (words_closed : List WordDef) (arrays_now : List (List Lit)) (templates : List Template) : Type 0 where
  pub counts : List ℕ
  pub counts_are : counts ≡ counts_from [] arrays
  pub unfilled : List Template
  pub unfilled_count : length unfilled ≡ words_behind counts 0 words
  pub unmet : List ArrayStart
  pub unmet_count : length unmet ≡ length arrays
  pub words_are : words_closed ≡ closed_words counts 0 0 words
  pub after_words : Stage
  pub after_words_is : after_words ≡ record { arrays = arrays; templates = put_all unfilled (words_templates counts 0 0 words); starts = put_all unmet (words_starts counts 0 0 words) }
  pub last : Stage
  pub last_is : last ≡ arrays_closed counts (length arrays) after_words
  pub arrays_are : arrays_now ≡ last.arrays
  pub templates_are : templates ≡ last.templates
