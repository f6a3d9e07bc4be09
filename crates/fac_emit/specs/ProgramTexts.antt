-- The texts of a closed program's image, and the numbers by which its code and tables name them. They are those of one sequence, each where it is first met.
use Rattle.std.specs.Prelude.{ℕ, zero, suc, List, [], ◌∷◌, ◌++◌, Option, Some, None, slice_get, if◌then◌else◌}
use Rattle.std.specs.List.{list_any, position_or_len}
use Rattle.std.specs.Str.{bytes_eq}
use Rattle.fac_base.specs.declared.limits.TheConstants.{MOST_LEVELS}
use Rattle.fac_lang.specs.declared.phrase.Template.{Template}
use Rattle.fac_lang.specs.declared.program.ClassDef.{ClassDef}
use Rattle.fac_lang.specs.declared.program.Lit.{Lit}
use Rattle.fac_lang.specs.declared.program.Lit.TheVariants.{Str as l_str, Arr as l_arr, Made as l_made}
use Rattle.fac_lang.specs.declared.program.Shape.{Shape}
use Rattle.fac_lang.specs.declared.program.Shape.TheVariants.{Tuple as tuple_class}
use Rattle.fac_lang.specs.declared.program.Sort.{Sort}
use Rattle.fac_lang.specs.declared.program.Sort.TheVariants.{Body as body, Past as past, Class as class, Getter as getter, Setter as setter, Putter as putter, Method as method}
use Rattle.fac_lang.specs.declared.program.WordDef.{WordDef}
use Rattle.fac_lang.specs.Phrases.{str, Phrase, end, then as and_then, Item, lit, lit_arr, made}
use Rattle.fac_locals.specs.declared.closing.Closed.{Closed}

-- texts with one more, where it isn't there
abbrev pub with_text : List (List ℕ) → List ℕ → List (List ℕ)
with_text texts s = (if list_any (bytes_eq s) texts then texts else texts ++ s ∷ [])

abbrev pub with_texts : List (List ℕ) → List (List ℕ) → List (List ℕ)
with_texts texts [] = texts
with_texts texts (s ∷ ss) = with_texts (with_text texts s) ss

-- The strings of phrases and arrays in reading order, where these are the texts of a template and of an array by its number.
module _ (template array : ℕ → List (List ℕ)) where
  abbrev pub item_texts : Item → List (List ℕ)
  item_texts (lit (str cs)) = cs ∷ []
  item_texts (lit_arr a) = array a
  item_texts (made q) = template q
  item_texts _ = []

  abbrev pub phrase_texts : Phrase → List (List ℕ)
  phrase_texts end = []
  phrase_texts (and_then i p t) = item_texts i ++ phrase_texts t

  abbrev pub element_texts : Lit → List (List ℕ)
  element_texts (l_str bs) = bs ∷ []
  element_texts (l_arr a) = array a
  element_texts (l_made q) = template q
  element_texts _ = []

  abbrev pub elements_texts : List Lit → List (List ℕ)
  elements_texts [] = []
  elements_texts (l ∷ ls) = element_texts l ++ elements_texts ls

-- for a closed program
module _ (C : Closed) where
  -- A template stands for the strings of its phrase and an array for those of its elements, with the templates and arrays in them, to so many levels.
  abbrev mutual
    pub template_texts : ℕ → ℕ → List (List ℕ)
    template_texts zero q = []
    template_texts (suc n) q = elim (slice_get C.templates q) [ Some t ↦ phrase_texts (template_texts n) (array_texts n) t.body | None ↦ [] ]

    pub array_texts : ℕ → ℕ → List (List ℕ)
    array_texts zero a = []
    array_texts (suc n) a = elim (slice_get C.program.arrays a) [ Some ls ↦ elements_texts (template_texts n) (array_texts n) ls | None ↦ [] ]

-- as many levels as brackets can have, and one more
unfoldable pub text_levels : ℕ
text_levels = suc MOST_LEVELS

-- the slots that a class adds to those of its parents
abbrev pub own_slots : Shape → List (List ℕ)
own_slots (tuple_class p ss) = ss
own_slots _ = []

-- the names of a class and of its own slots
abbrev pub class_texts : ClassDef → List (List ℕ)
class_texts d = d.name.vocab ∷ d.name.name ∷ own_slots d.shape

abbrev pub classes_texts : List ClassDef → List (List ℕ)
classes_texts [] = []
classes_texts (d ∷ ds) = class_texts d ++ classes_texts ds

abbrev pub found_class_texts : Option ClassDef → List (List ℕ)
found_class_texts None = []
found_class_texts (Some d) = class_texts d

-- for a closed program
module _ (C : Closed) where
  -- those of a word's phrase
  abbrev pub body_texts : Phrase → List (List ℕ)
  body_texts t = phrase_texts (template_texts C text_levels) (array_texts C text_levels) t

  -- of what a word is: the slot of an accessor, the class of a class's word, and the phrase of a word that runs one
  abbrev pub sort_texts : Sort → List (List ℕ)
  sort_texts (body t) = body_texts t
  sort_texts (past t) = body_texts t
  sort_texts (method c g t) = body_texts t
  sort_texts (class c) = found_class_texts (slice_get C.program.classes c)
  sort_texts (getter s) = s ∷ []
  sort_texts (setter s) = s ∷ []
  sort_texts (putter s) = s ∷ []
  sort_texts _ = []

  -- of a word: its vocabulary, its name, and then those of what it is
  abbrev pub word_texts : WordDef → List (List ℕ)
  word_texts d = d.name.vocab ∷ d.name.name ∷ sort_texts d.sort

  abbrev pub words_texts : List WordDef → List (List ℕ)
  words_texts [] = []
  words_texts (d ∷ ds) = word_texts d ++ words_texts ds

-- the strings that stand in a phrase or an array itself
abbrev pub no_texts : ℕ → List (List ℕ)
no_texts n = []

abbrev pub own_item_texts : Item → List (List ℕ)
own_item_texts i = item_texts no_texts no_texts i

abbrev pub own_texts : Phrase → List (List ℕ)
own_texts t = phrase_texts no_texts no_texts t

abbrev pub own_elements_texts : List Lit → List (List ℕ)
own_elements_texts ls = elements_texts no_texts no_texts ls

abbrev pub templates_texts : List Template → List (List ℕ)
templates_texts [] = []
templates_texts (t ∷ ts) = own_texts t.body ++ templates_texts ts

abbrev pub arrays_texts : List (List Lit) → List (List ℕ)
arrays_texts [] = []
arrays_texts (ls ∷ lss) = own_elements_texts ls ++ arrays_texts lss

-- Word by word, so that the texts of a longer program begin with those of a shorter one. Behind the words come the strings of all templates and
-- arrays and the names of all classes, so that each text is there whatever stands where.
abbrev pub text_sequence : Closed → List (List ℕ)
text_sequence C = words_texts C C.program.words ++ (templates_texts C.templates ++ (arrays_texts C.program.arrays ++ classes_texts C.program.classes))

-- the texts of its image
unfoldable pub program_texts : Closed → List (List ℕ)
program_texts C = with_texts [] (text_sequence C)

-- the number of a text: its place among them
abbrev pub text_number : Closed → List ℕ → ℕ
text_number C s = position_or_len (bytes_eq s) (program_texts C)
