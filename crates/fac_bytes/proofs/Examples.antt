-- Computed examples: what all of some bytes answer. Each place was also found by a decoder written apart from this.
use Rattle.std.proofs.Common.{◌≡◌, ℕ, true, List, [], ◌∷◌, Result, Ok, Err, refl}
use Rattle.fac_lang.specs.Primitives.{built_count}
use Rattle.fac_code.specs.declared.image.Instr.TheVariants as i
use Rattle.fac_code.specs.declared.image.Tables.{Tables}
use Rattle.fac_code.specs.InstrRows.{makers}
use Rattle.fac_spelling.specs.Formats.{all_at}
use Rattle.fac_spelling.specs.Numbers.{shortest}
use Rattle.fac_spelling.specs.TestedNumbers.{some_in}
use Rattle.fac_spelling.specs.Texts.{characters}
use Rattle.fac_spelling.specs.inner.WholeReading.{all_of}
use Rattle.fac_bytes.specs.declared.parts.ImageParts.{ImageParts}
use Rattle.fac_bytes.specs.ImageBytes.{image}

abbrev answer : List ℕ → Result ImageParts ℕ
answer bytes = all_of image (λ _. true) bytes

abbrev no_tables : Tables
no_tables = record { texts = []; arrays = []; kinds = []; sets = []; templates = []; words = []; generics = []; pairs = [] }

abbrev halts : ImageParts
halts = record { tables = no_tables; code = i.Halt ∷ []; start = 0 }

abbrev drops : ImageParts
drops = record { tables = no_tables; code = i.Prim 0 ∷ i.Halt ∷ []; start = 0 }

smallest_bytes : image.spell halts ≡ 70 ∷ 67 ∷ 73 ∷ 49 ∷ 0 ∷ 0 ∷ 0 ∷ 0 ∷ 0 ∷ 0 ∷ 0 ∷ 0 ∷ 1 ∷ 0 ∷ 0 ∷ []
unfolding shortest makers
smallest_bytes = refl

primitive_bytes : image.spell drops ≡ 70 ∷ 67 ∷ 73 ∷ 49 ∷ 0 ∷ 0 ∷ 0 ∷ 0 ∷ 0 ∷ 0 ∷ 0 ∷ 0 ∷ 2 ∷ 10 ∷ 0 ∷ 0 ∷ 0 ∷ []
unfolding shortest makers
primitive_bytes = refl

smallest : answer (70 ∷ 67 ∷ 73 ∷ 49 ∷ 0 ∷ 0 ∷ 0 ∷ 0 ∷ 0 ∷ 0 ∷ 0 ∷ 0 ∷ 1 ∷ 0 ∷ 0 ∷ []) ≡ Ok halts
unfolding all_at characters some_in built_count makers
smallest = refl

after_the_end : answer (70 ∷ 67 ∷ 73 ∷ 49 ∷ 0 ∷ 0 ∷ 0 ∷ 0 ∷ 0 ∷ 0 ∷ 0 ∷ 0 ∷ 1 ∷ 0 ∷ 0 ∷ 0 ∷ []) ≡ Err 15
unfolding all_at characters some_in built_count makers
after_the_end = refl

longer_form : answer (70 ∷ 67 ∷ 73 ∷ 49 ∷ 0 ∷ 0 ∷ 0 ∷ 0 ∷ 0 ∷ 0 ∷ 0 ∷ 0 ∷ 129 ∷ 0 ∷ 0 ∷ 0 ∷ []) ≡ Err 13
unfolding all_at characters some_in built_count makers
longer_form = refl

ends_early : answer (70 ∷ 67 ∷ 73 ∷ 49 ∷ 0 ∷ 0 ∷ 0 ∷ 0 ∷ 0 ∷ 0 ∷ 0 ∷ 0 ∷ 1 ∷ 0 ∷ []) ≡ Err 14
unfolding all_at characters some_in built_count makers
ends_early = refl

other_first_bytes : answer (70 ∷ 67 ∷ 74 ∷ 49 ∷ []) ≡ Err 2
unfolding all_at characters some_in built_count makers
other_first_bytes = refl

cut_character : answer (70 ∷ 67 ∷ 73 ∷ 49 ∷ 1 ∷ 2 ∷ 97 ∷ 195 ∷ []) ≡ Err 7
unfolding all_at characters some_in built_count makers
cut_character = refl

overlong : answer (70 ∷ 67 ∷ 73 ∷ 49 ∷ 1 ∷ 3 ∷ 224 ∷ 159 ∷ []) ≡ Err 7
unfolding all_at characters some_in built_count makers
overlong = refl

descends : answer (70 ∷ 67 ∷ 73 ∷ 49 ∷ 0 ∷ 0 ∷ 0 ∷ 1 ∷ 2 ∷ 5 ∷ 3 ∷ []) ≡ Err 10
unfolding all_at characters some_in built_count makers
descends = refl

no_room : answer (70 ∷ 67 ∷ 73 ∷ 49 ∷ 0 ∷ 0 ∷ 0 ∷ 1 ∷ 2 ∷ 255 ∷ 255 ∷ 255 ∷ 255 ∷ 15 ∷ 1 ∷ []) ≡ Err 13
unfolding all_at characters some_in built_count makers
no_room = refl

room_for_one : answer (70 ∷ 67 ∷ 73 ∷ 49 ∷ 0 ∷ 0 ∷ 0 ∷ 1 ∷ 2 ∷ 255 ∷ 255 ∷ 255 ∷ 255 ∷ 14 ∷ 255 ∷ 255 ∷ 255 ∷ 255 ∷ 15 ∷ []) ≡ Err 19
unfolding all_at characters some_in built_count makers
room_for_one = refl

method_again : answer (70 ∷ 67 ∷ 73 ∷ 49 ∷ 0 ∷ 0 ∷ 0 ∷ 0 ∷ 0 ∷ 0 ∷ 1 ∷ 0 ∷ 2 ∷ 7 ∷ 0 ∷ 0 ∷ 7 ∷ []) ≡ Err 16
unfolding all_at characters some_in built_count makers
method_again = refl

long_method_again : answer (70 ∷ 67 ∷ 73 ∷ 49 ∷ 0 ∷ 0 ∷ 0 ∷ 0 ∷ 0 ∷ 0 ∷ 1 ∷ 0 ∷ 3 ∷ 7 ∷ 0 ∷ 0 ∷ 135 ∷ 1 ∷ 0 ∷ 0 ∷ 135 ∷ 1 ∷ []) ≡ Err 21
unfolding all_at characters some_in built_count makers
long_method_again = refl

no_primitive : answer (70 ∷ 67 ∷ 73 ∷ 49 ∷ 0 ∷ 0 ∷ 0 ∷ 0 ∷ 0 ∷ 0 ∷ 0 ∷ 0 ∷ 1 ∷ 10 ∷ built_count ∷ []) ≡ Err 14
unfolding all_at characters some_in built_count makers
no_primitive = refl

large_integer : answer (70 ∷ 67 ∷ 73 ∷ 49 ∷ 0 ∷ 0 ∷ 0 ∷ 0 ∷ 0 ∷ 0 ∷ 0 ∷ 0 ∷ 1 ∷ 2 ∷ 255 ∷ 255 ∷ 255 ∷ 255 ∷ 255 ∷ 255 ∷ 255 ∷ 255 ∷ 255 ∷ 255 ∷ 255 ∷ 255 ∷ 255 ∷ 255 ∷ 255 ∷ 255 ∷ 255 ∷ 255 ∷ 4 ∷ []) ≡ Err 32
unfolding all_at characters some_in built_count makers
large_integer = refl

no_flag : answer (70 ∷ 67 ∷ 73 ∷ 49 ∷ 0 ∷ 0 ∷ 0 ∷ 0 ∷ 0 ∷ 0 ∷ 0 ∷ 0 ∷ 1 ∷ 12 ∷ 2 ∷ []) ≡ Err 14
unfolding all_at characters some_in built_count makers
no_flag = refl

of_primitive : answer (70 ∷ 67 ∷ 73 ∷ 49 ∷ 0 ∷ 0 ∷ 0 ∷ 0 ∷ 0 ∷ 0 ∷ 0 ∷ 0 ∷ 2 ∷ 10 ∷ 0 ∷ 0 ∷ 0 ∷ []) ≡ Ok drops
unfolding all_at characters some_in built_count makers
of_primitive = refl

pairs_descend : answer (70 ∷ 67 ∷ 73 ∷ 49 ∷ 0 ∷ 0 ∷ 0 ∷ 0 ∷ 0 ∷ 0 ∷ 0 ∷ 2 ∷ 5 ∷ 8 ∷ 5 ∷ []) ≡ Err 14
unfolding all_at characters some_in built_count makers
pairs_descend = refl
