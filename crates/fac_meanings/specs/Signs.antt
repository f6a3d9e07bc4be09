-- Phrases as they are written: a resolved phrase, printed again, is the elements that it was made of.
use Rattle.std.specs.Prelude.{◌≡◌, ℕ, suc, nat_eq, List, [], ◌∷◌, ◌++◌, Option, Some, None, if◌then◌else◌}
use Rattle.fac_lang.specs.Phrases.{Phrase, end, then as placed, Item, lit, lit_arr, wrd, quot, word, fry, call_effect, execute_effect, next_method}
use Rattle.fac_base.specs.declared.height.Height.{Height}
use Rattle.fac_base.specs.declared.place.Place.{Place}
use Rattle.fac_lang.specs.declared.program.Lit.{Lit}
use Rattle.fac_lang.specs.declared.program.Lit.TheVariants as literal
use Rattle.fac_source.specs.declared.tree.Bracket.{Bracket}
use Rattle.fac_source.specs.declared.tree.Bracket.TheVariants.{Quotation, Array, Fry}
use Rattle.fac_source.specs.declared.tree.Callee.{Callee}
use Rattle.fac_source.specs.declared.tree.Callee.TheVariants.{Callable, Word}
use Rattle.fac_source.specs.declared.tree.Element.{Element}
use Rattle.fac_source.specs.declared.tree.Element.TheVariants as element
use Rattle.fac_source.specs.declared.tree.Term.{Term}
use Rattle.fac_source.specs.declared.tree.Term.TheVariants as term
use Rattle.fac_parse.specs.Trees.{AreItems}
use Rattle.fac_effect.specs.Spellings.{token_text}
use Rattle.fac_vocab.specs.Scopes.{Scope}
use Rattle.fac_items.specs.FromElements.{literal_value, nested, tok}
use Rattle.fac_items.specs.Items.{literal as element_of, word_of}
use Rattle.fac_items.specs.Made.{made, nodes_read}

-- What is written: an item at its place, a value directly in an array, a bracket, or how many holes the fry has that ends here. What stands directly in an array has no
-- place.
pub data Sign : Type 0 where
  one : Item → Place → Sign
  value : Lit → Sign
  opens : Bracket → Option Place → Sign
  filled : ℕ → Sign
  closes : Bracket → Sign

-- Phrases and arrays, where the function has what is written in the array of each number.

abbrev pub within : Bracket → Option Place → List Sign → List Sign
within bracket place signs = opens bracket place ∷ signs ++ closes bracket ∷ []

abbrev mutual
  pub phrase_signs : (ℕ → List Sign) → Phrase → List Sign
  phrase_signs inner end = []
  phrase_signs inner (placed i p t) = item_signs inner i p ++ phrase_signs inner t

  pub item_signs : (ℕ → List Sign) → Item → Place → List Sign
  item_signs inner (quot t) p = within Quotation (Some p) (phrase_signs inner t)
  item_signs inner (fry t n) p = opens Fry (Some p) ∷ phrase_signs inner t ++ filled n ∷ closes Fry ∷ []
  item_signs inner (lit_arr a) p = within Array (Some p) (inner a)
  item_signs inner i p = one i p ∷ []

abbrev pub literal_signs : (ℕ → List Sign) → Lit → List Sign
literal_signs inner (literal.Quot t) = within Quotation None (phrase_signs inner t)
literal_signs inner (literal.Arr a) = within Array None (inner a)
literal_signs inner l = value l ∷ []

abbrev pub elements_signs : (ℕ → List Sign) → List Lit → List Sign
elements_signs inner [] = []
elements_signs inner (l ∷ ls) = literal_signs inner l ++ elements_signs inner ls

-- with one array more, which has number k
abbrev pub with_array_signs : (ℕ → List Sign) → ℕ → List Lit → ℕ → List Sign
with_array_signs inner k ls a = (if nat_eq a k then elements_signs inner ls else inner a)

-- with arrays from number k on, each of which may name those before it
abbrev pub with_arrays_signs : (ℕ → List Sign) → ℕ → List (List Lit) → ℕ → List Sign
with_arrays_signs inner k [] = inner
with_arrays_signs inner k (ls ∷ lss) = with_arrays_signs (with_array_signs inner k ls) (suc k) lss

-- what is written in the array of each number
abbrev pub array_signs : List (List Lit) → ℕ → List Sign
array_signs arrays = with_arrays_signs (λ a. []) 0 arrays

-- Elements.

-- the innermost of some brackets; what stands in none stands as in a quotation
abbrev pub innermost : List Bracket → Bracket
innermost [] = Quotation
innermost (b ∷ bs) = b

abbrev pub place_in : Bracket → Place → Option Place
place_in Quotation place = Some place
place_in Array place = None
place_in Fry place = Some place

abbrev pub tested_item : Callee → Height → Item
tested_item Callable h = call_effect h
tested_item Word h = execute_effect h

-- an item without a bracket, by the word that its name finds; a next method and a call with a declared effect are no values, so an array has none
abbrev pub term_signs : Scope → Bracket → Term → List Sign
term_signs s Quotation (term.Name t) = one (word (word_of s (tok t))) t.place ∷ []
term_signs s Quotation (term.Wrapped sign name) = one (lit (wrd (word_of s (tok name)))) sign ∷ []
term_signs s Quotation (term.EffectCall callee sign tokens height) = one (tested_item callee height) sign ∷ []
term_signs s Quotation (term.Literal t l) = one (lit (literal_value (token_text t.kind) l)) t.place ∷ []
term_signs s Quotation (term.NextMethod place) = one next_method place ∷ []
term_signs s Array (term.Name t) = value (literal.Wref (word_of s (tok t))) ∷ []
term_signs s Array (term.Wrapped sign name) = value (literal.Wref (word_of s (tok name))) ∷ []
term_signs s Array (term.Literal t l) = value (element_of (literal_value (token_text t.kind) l)) ∷ []
term_signs s _ _ = []

abbrev pub rest_of : List Bracket → List Bracket
rest_of [] = []
rest_of (b ∷ bs) = bs

-- elements as they stand, where these brackets are open, the innermost first
abbrev pub element_signs : Scope → List Bracket → List Element → List Sign
element_signs s brackets [] = []
element_signs s brackets (element.Item t ∷ es) = term_signs s (innermost brackets) t ++ element_signs s brackets es
element_signs s brackets (element.Opens bracket place ∷ es) = opens bracket (place_in (innermost brackets) place) ∷ element_signs s (bracket ∷ brackets) es
element_signs s brackets (element.OpensLocals place names bar ∷ es) = element_signs s (Quotation ∷ brackets) es
element_signs s brackets (element.Closes bracket place ∷ es) = closes bracket ∷ element_signs s (rest_of brackets) es

-- Elements without locals, fries and holes.
abbrev pub IsOfWords : Element → Type 0
IsOfWords (element.Item (term.Bind sign name)) = ⊥
IsOfWords (element.Item (term.Hole place)) = ⊥
IsOfWords (element.Item (term.CalledHole place)) = ⊥
IsOfWords (element.Opens Fry place) = ⊥
IsOfWords (element.OpensLocals place names bar) = ⊥
IsOfWords _ = Unit {0}

abbrev pub AreOfWords : List Element → Type 0
AreOfWords [] = Unit {0}
AreOfWords (e ∷ es) = IsOfWords e × AreOfWords es

-- Items of words that their readings leave as they are: their phrase is written as they are, behind any arrays.
abbrev pub PhrasesAreWrittenAsItems : Type 0
PhrasesAreWrittenAsItems =
    (s : Scope) (arrays : List (List Lit)) (items : List Element) → AreItems None items → AreOfWords items → nodes_read s (nested items) ≡ nested items →
    (let m = made s (nested items) arrays in phrase_signs (array_signs m.arrays) m.phrase) ≡ element_signs s [] items
