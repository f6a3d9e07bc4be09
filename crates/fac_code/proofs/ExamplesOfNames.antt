-- What tables say of words and kinds, computed.
use Rattle.std.proofs.Common.{◌≡◌, ℕ, [], ◌∷◌, true, false, Some, None, refl}
use Rattle.std.specs.Prelude.{codes}
use Rattle.fac_lang.specs.Printed.{Names}
use Rattle.fac_code.specs.declared.image.Action.TheVariants.{Itself}
use Rattle.fac_code.specs.declared.image.WordRow.{WordRow}
use Rattle.fac_code.specs.declared.image.Tables.{Tables}
use Rattle.fac_code.specs.ImageNames.{names_in, vocab_name}
use Rattle.fac_code.specs.ClassSets.{set_has}

abbrev named : ℕ → ℕ → WordRow
named vocab name = record { vocab = vocab; name = name; action = Itself; height = None }

-- word 0 is of no class, word 1 of the tuple class `point` with slots `x` and `y`, and word 2 of the singleton `origin`
abbrev some_tables : Tables
some_tables =
    record {
      texts = codes "point" ∷ codes "origin" ∷ codes "x" ∷ codes "y" ∷ codes "plane" ∷ [];
      arrays = [];
      kinds = record { vocab = 4; name = 0; slots = Some (2 ∷ 3 ∷ []) } ∷ record { vocab = 4; name = 1; slots = None } ∷ [];
      sets = [];
      templates = [];
      words = named 4 2 ∷ named 4 0 ∷ named 3 1 ∷ [];
      generics = [];
      pairs = (1, 8) ∷ (2, 9) ∷ [];
    }

abbrev names : Names
names = names_in some_tables

pub a_vocabulary : vocab_name some_tables 1 ≡ codes "plane"
a_vocabulary = refl

pub a_word : names.word_name 1 ≡ codes "point"
a_word = refl

no_word : names.word_name 3 ≡ []
no_word = refl

a_kind : names.kind_name 9 ≡ codes "origin"
a_kind = refl

-- kinds that every program has are told apart by their values, and have no class with a name here
first_kinds : names.kind_name 7 ≡ []
first_kinds = refl

slots : names.kind_slots 8 ≡ codes "x" ∷ codes "y" ∷ []
slots = refl

slots_of_a_singleton : names.kind_slots 9 ≡ []
slots_of_a_singleton = refl

-- only the word of a singleton is of a kind of its own
kind_of_a_singleton : names.word_kind 2 ≡ 9
kind_of_a_singleton = refl

kind_of_a_class_word : names.word_kind 1 ≡ 5
kind_of_a_class_word = refl

a_class : names.tuple_class 1 ≡ Some (8, 2)
a_class = refl

no_class : names.tuple_class 0 ≡ None
no_class = refl

singleton_is_no_tuple_class : names.tuple_class 2 ≡ None
singleton_is_no_tuple_class = refl

in_a_set : set_has (Some (1 ∷ 9 ∷ [])) 9 ≡ true
in_a_set = refl

not_in_a_set : set_has (Some (1 ∷ 9 ∷ [])) 8 ≡ false
not_in_a_set = refl
