-- The words and classes that there are before a source is read.
use Rattle.std.specs.Prelude.{ℕ, ◌+◌, List, [], ◌∷◌, ◌++◌, Bool, true, false, codes}
use Rattle.fac_lang.specs.BuiltInClasses.{BuiltInClass, built_in_classes}
use Rattle.fac_lang.specs.CoreWords.{WrittenCore, built_core_words}
use Rattle.fac_lang.specs.PrimitiveWords.{PrimitiveWord, written_effect}
use Rattle.fac_lang.specs.Primitives.{built_primitive_words}
use Rattle.fac_lang.specs.Whole.{plain_effect}
use Rattle.fac_lang.specs.declared.program.ClassDef.{ClassDef}
use Rattle.fac_lang.specs.declared.program.Shape.TheVariants.{Kind}
use Rattle.fac_lang.specs.declared.program.Sort.{Sort}
use Rattle.fac_lang.specs.declared.program.Sort.TheVariants.{Prim, Core, Class, Isa}
use Rattle.fac_lang.specs.declared.program.WordDef.{WordDef}
use Rattle.fac_endings.specs.Words.{nowhere, plain_word}

-- the word of a row of a table of words
abbrev pub row_word : PrimitiveWord → Sort → WordDef
row_word row sort = plain_word row.vocab row.name sort (written_effect row) nowhere

-- primitives, numbered from n on
abbrev pub primitives_from : ℕ → List PrimitiveWord → List WordDef
primitives_from n [] = []
primitives_from n (row ∷ rows) = row_word row (Prim n) ∷ primitives_from (n + 1) rows

-- core words
abbrev pub core_words_of : List WrittenCore → List WordDef
core_words_of [] = []
core_words_of (row ∷ rows) = row_word row.word (Core row.core) ∷ core_words_of rows

-- the word of a built-in class
abbrev pub class_word : BuiltInClass → ℕ → WordDef
class_word row k = plain_word row.vocab row.name (Class k) (plain_effect [] (codes "value" ∷ [])) nowhere

-- the word that asks if a value is of the class, where there is one
abbrev pub predicates_if : Bool → BuiltInClass → ℕ → List WordDef
predicates_if true row k = plain_word row.vocab (row.name ++ codes "?") (Isa k) (plain_effect (codes "object" ∷ []) (codes "?" ∷ [])) nowhere ∷ []
predicates_if false row k = []

-- the words of built-in classes, which are numbered from k on
abbrev pub class_words_from : ℕ → List BuiltInClass → List WordDef
class_words_from k [] = []
class_words_from k (row ∷ rows) = class_word row k ∷ predicates_if row.has_predicate row k ++ class_words_from (k + 1) rows

-- the primitives and the core words that are built, and the words of the built-in classes
unfoldable pub known_words : List WordDef
known_words = primitives_from 0 built_primitive_words ++ core_words_of built_core_words ++ class_words_from 0 built_in_classes

abbrev pub classes_from : ℕ → List BuiltInClass → List ClassDef
classes_from k [] = []
classes_from k (row ∷ rows) = record { name = record { vocab = row.vocab; name = row.name }; shape = Kind k } ∷ classes_from (k + 1) rows

-- the built-in classes
unfoldable pub known_classes : List ClassDef
known_classes = classes_from 0 built_in_classes
