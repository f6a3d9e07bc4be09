-- The words and classes of the code's tables.
use Rattle.std.proofs.Common.{◌≡◌, ◌<◌, ◌∙◌, ℕ, List, [], ◌++◌, length, map, drop, refl, ap, sym, append-nil, true, arith, Fits, w32}
use Rattle.std.proofs.lemmas.List.{length-map}
use Rattle.fac_lang.specs.BuiltInClasses.{built_in_classes, written_class, TableClass}
use Rattle.fac_lang.specs.Primitives.{built_primitive_words, built_count, row_seen, rows_seen, TableRow}
use Rattle.fac_vocab.specs.ScopeCalls.{names_differ}
use Rattle.fac_vocab.specs.Scopes.{entries_from}
use Rattle.fac_lang.proofs.TableLemmas.{row_count}
use Rattle.fac_names.specs.KnownWords.{known_words}

-- what there is, and then that of the rows from here on
abbrev pub and_from : {R D : Type 0} → (ℕ → List R → List D) → ℕ → List D → List R → List D
and_from f n ds rows = ds ++ f n rows

-- all rows are there
pub all_added : {R W D : Type 0} (seen : R → W) (f : ℕ → List W → List D) (ds : List D) (rows : List R) (n : ℕ) → f n [] ≡ [] → drop n rows ≡ [] → and_from f n ds (map seen (drop n rows)) ≡ ds
all_added {R} {W} {D} seen f ds rows n empty none =
    ap (λ (rs : List R). and_from f n ds (map seen rs)) none
    ∙ ap (λ (xs : List D). ds ++ xs) empty
    ∙ append-nil ds

-- there are so few that each has a number
pub row_fits : (rows : List TableRow) (n : ℕ) → map row_seen rows ≡ rows_seen → n < length rows → Fits w32 n
unfolding built_count
row_fits rows n same less = let count = row_count rows same in omega (arith, count)

class_count : length built_in_classes ≡ 12
class_count = refl

pub class_fits : (rows : List TableClass) (n : ℕ) → map written_class rows ≡ built_in_classes → n < length rows → Fits w32 n
class_fits rows n same less =
    let count = sym (length-map rows written_class) ∙ ap length same ∙ class_count in
    omega (arith, count, less)

-- no two of the words have one name
pub names_of_known : names_differ (entries_from 0 known_words) ≡ true
unfolding known_words built_primitive_words
names_of_known = refl
