-- The tables of a closed program: its kinds, its class sets, the words of classes with their kinds, and its generics, and the numbers by which code
-- names them. No phrase is in them, so but for the numbers of texts they are those of the program for which it stands.
use Rattle.std.specs.Prelude.{ℕ, suc, List, [], ◌∷◌, length, map, take, true, false, Option, Some, None}
use Rattle.fac_lang.specs.declared.program.Program.{Program}
use Rattle.fac_lang.specs.declared.program.WordDef.{WordDef}
use Rattle.fac_lang.specs.declared.program.ClassDef.{ClassDef}
use Rattle.fac_lang.specs.declared.program.Sort.{Sort}
use Rattle.fac_lang.specs.declared.program.Sort.TheVariants.{Class as class, Getter as getter, Setter as setter, Putter as putter, Generic as generic}
use Rattle.fac_lang.specs.declared.program.Shape.{Shape}
use Rattle.fac_lang.specs.declared.program.Shape.TheVariants.{Tuple as tuple_class}
use Rattle.fac_lang.specs.Classes.{has_own, own_kind, slots_within}
use Rattle.fac_locals.specs.declared.closing.Closed.{Closed}
use Rattle.fac_code.specs.declared.image.KindRow.{KindRow}
use Rattle.fac_code.specs.declared.image.MethodRow.{MethodRow}
use Rattle.fac_code.specs.declared.image.GenericRow.{GenericRow}
use Rattle.fac_classes.specs.ClassKinds.{kinds_of}
use Rattle.fac_generic.specs.Methods.{methods_in_order}
use Rattle.fac_emit.specs.ProgramTexts.{text_number}

-- Kinds.
module _ (C : Closed) where
  -- the texts that are the names of all slots of class c, its parents' first
  abbrev pub slot_numbers : ℕ → Shape → Option (List ℕ)
  slot_numbers c (tuple_class p ss) = Some (map (text_number C) (slots_within (length C.program.classes) C.program.classes c))
  slot_numbers c _ = None

  -- the row of a class
  abbrev pub kind_row_of : ℕ → ClassDef → KindRow
  kind_row_of c d = record { vocab = text_number C d.name.vocab; name = text_number C d.name.name; slots = slot_numbers c d.shape }

  -- the rows of the classes from class c on that have a kind of their own
  abbrev pub kinds_from : ℕ → List ClassDef → List KindRow
  kinds_from c [] = []
  kinds_from c (d ∷ ds) = elim (has_own d.shape) [ true ↦ kind_row_of c d ∷ kinds_from (suc c) ds | false ↦ kinds_from (suc c) ds ]

abbrev pub program_kinds : Closed → List KindRow
program_kinds C = kinds_from C 0 C.program.classes

-- Class sets: the kinds of each class from class c on. The set of a class has its number.
abbrev pub sets_from : List ClassDef → ℕ → List ClassDef → List (List ℕ)
sets_from cs c [] = []
sets_from cs c (d ∷ ds) = kinds_of cs c ∷ sets_from cs (suc c) ds

abbrev pub program_sets : Program → List (List ℕ)
program_sets P = sets_from P.classes 0 P.classes

-- The words of classes that have a kind of their own, each with that kind.

-- the kind of the class whose word this is
abbrev pub sort_kind : List ClassDef → Sort → Option ℕ
sort_kind cs (class c) = own_kind 8 cs c
sort_kind cs _ = None

-- those of the words from word w on
abbrev pub pairs_from : List ClassDef → ℕ → List WordDef → List (ℕ × ℕ)
pairs_from cs w [] = []
pairs_from cs w (d ∷ ds) = elim (sort_kind cs d.sort) [ Some k ↦ (w, k) ∷ pairs_from cs (suc w) ds | None ↦ pairs_from cs (suc w) ds ]

abbrev pub program_pairs : Program → List (ℕ × ℕ)
program_pairs P = pairs_from P.classes 0 P.words

-- Generics, by the order of their words.

-- how many of these words are generic
abbrev pub generics_among : List WordDef → ℕ
generics_among [] = 0
generics_among (d ∷ ds) = elim d.sort [ generic ↦ suc (generics_among ds) | _ ↦ generics_among ds ]

-- the number of a generic
abbrev pub generic_number : Program → ℕ → ℕ
generic_number P g = generics_among (take g P.words)

-- the row of a method, where each word's code stands at such a place; its number is that of its word
abbrev pub method_row : (ℕ → ℕ) → ℕ × ℕ → MethodRow
method_row place m = record { number = m.0; set = m.1; entry = place m.0 }

-- the rows of the generics from word g on
abbrev pub generics_from : Program → (ℕ → ℕ) → ℕ → List WordDef → List GenericRow
generics_from P place g [] = []
generics_from P place g (d ∷ ds) = elim d.sort [ generic ↦ record { word = g; methods = map (method_row place) (methods_in_order P g) } ∷ generics_from P place (suc g) ds | _ ↦ generics_from P place (suc g) ds ]

-- The number by which code names what a word of this sort is: that of an accessor's slot among the texts, and that of a generic.
module _ (C : Closed) where
  abbrev pub sort_number : ℕ → Sort → ℕ
  sort_number w (getter s) = text_number C s
  sort_number w (setter s) = text_number C s
  sort_number w (putter s) = text_number C s
  sort_number w generic = generic_number C.program w
  sort_number w _ = 0

  -- those of the words from word w on
  abbrev pub numbers_from : ℕ → List WordDef → List ℕ
  numbers_from w [] = []
  numbers_from w (d ∷ ds) = sort_number w d.sort ∷ numbers_from (suc w) ds

-- those of all words
abbrev pub word_numbers : Closed → List ℕ
word_numbers C = numbers_from C 0 C.program.words
