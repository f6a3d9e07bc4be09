-- The rows of the code's tables.
use Rattle.std.proofs.Common.{◌≡◌, ◌≤◌, ◌-◌, ℕ, zero, suc, List, [], ◌∷◌, ◌++◌, length, map, get_or, slice_get, Option, Some, None, true, false, refl, ap, sym, ◌∙◌, arith}
use Rattle.std.specs.Option.{option_map}
use Rattle.std.specs.Prelude.{nat_lt}
use Rattle.std.proofs.lemmas.Bool.Decides.{Decides-ltb}
use Rattle.std.proofs.lemmas.Option.{slice_get-get_or, slice_get-map}
use Rattle.std.proofs.lemmas.List.{length-map}
use Rattle.fac_lang.specs.CoreWords.{WrittenCore, TableCore, written_core, built_core_words}
use Rattle.fac_lang.specs.PrimitiveWords.{PrimitiveWord}
use Rattle.fac_lang.specs.Primitives.{built_primitive_words, RowSeen, row_seen, rows_seen, TableRow}
use Rattle.fac_lang.specs.WrittenWords.{written_word}
use Rattle.fac_items.specs.Items.{known_rows}
use Rattle.fac_items.specs.inner.KnownRows.{option_row}

-- a place of a list, by its test
pub found_at : {A : Type 0} (xs : List A) (i : ℕ) (x d : A) → true ≡ nat_lt i (length xs) → x ≡ get_or xs i d → slice_get xs i ≡ Some x
found_at {A} xs i x d h is = slice_get-get_or xs i d ((Decides-ltb i (length xs)).0 (sym h)) ∙ ap (λ (y : A). Some y) (sym is)

pub past_at : {A : Type 0} (xs : List A) (i : ℕ) → false ≡ nat_lt i (length xs) → length xs ≤ i
past_at xs i h = grind arith

-- the word of a primitive's row
abbrev pub primitive_row_word : TableRow → PrimitiveWord
primitive_row_word r = written_word r.word

words_of_rows : (rows : List TableRow) → map primitive_row_word rows ≡ map (λ (r : RowSeen). r.word) (map row_seen rows)
words_of_rows [] = refl
words_of_rows (r ∷ rows) = ap (λ (ws : List PrimitiveWord). primitive_row_word r ∷ ws) (words_of_rows rows)

-- the code's table has the words of the definition's
pub rows_written : (rows : List TableRow) → map row_seen rows ≡ rows_seen → map primitive_row_word rows ≡ built_primitive_words
unfolding rows_seen built_primitive_words
rows_written rows same = words_of_rows rows ∙ ap (map (λ (r : RowSeen). r.word)) same

core_words_of : (rows : List TableCore) → map (λ (c : WrittenCore). c.word) (map written_core rows) ≡ map (λ (r : TableCore). written_word r.word) rows
core_words_of [] = refl
core_words_of (r ∷ rows) = ap (λ (ws : List PrimitiveWord). written_word r.word ∷ ws) (core_words_of rows)

core_row_is : (o : Option TableCore) → option_map (λ (r : TableCore). written_word r.word) o ≡ option_row (option_map (λ (r : TableCore). r.word) o)
core_row_is None = refl
core_row_is (Some r) = refl

-- a core word's row
pub core_at : (rows : List TableCore) (place : ℕ) → map written_core rows ≡ built_core_words → option_row (option_map (λ (r : TableCore). r.word) (slice_get rows place)) ≡ slice_get (map (λ (c : WrittenCore). c.word) built_core_words) place
core_at rows place same =
    sym (ap (λ (cs : List WrittenCore). slice_get (map (λ (c : WrittenCore). c.word) cs) place) (sym same)
    ∙ ap (λ (ws : List PrimitiveWord). slice_get ws place) (core_words_of rows)
    ∙ slice_get-map (λ (r : TableCore). written_word r.word) rows place
    ∙ core_row_is (slice_get rows place))

left_at : {A : Type 0} (xs ys : List A) (i : ℕ) (x : A) → slice_get xs i ≡ Some x → slice_get (xs ++ ys) i ≡ Some x
left_at [] ys i x h = absurd (cc)
left_at (z ∷ xs) ys zero x h = h
left_at (z ∷ xs) ys (suc i) x h = left_at xs ys i x h

right_at : {A : Type 0} (xs ys : List A) (i : ℕ) → length xs ≤ i → slice_get (xs ++ ys) i ≡ slice_get ys (i - length xs)
right_at [] ys i h = ap (slice_get ys) (let e : i ≡ i - 0 = omega arith in e)
right_at (z ∷ xs) ys zero h = absurd (omega (arith, h))
right_at (z ∷ xs) ys (suc i) h = right_at xs ys i (omega (arith, h)) ∙ ap (slice_get ys) (let e : i - length xs ≡ suc i - suc (length xs) = omega arith in e)

-- a primitive's row
pub primitive_at : (rows : List TableRow) (number : ℕ) (r : TableRow) → map row_seen rows ≡ rows_seen → slice_get rows number ≡ Some r → slice_get known_rows number ≡ Some (written_word r.word)
primitive_at rows number r same h =
    left_at built_primitive_words (map (λ (c : WrittenCore). c.word) built_core_words) number (written_word r.word)
    (ap (λ (ws : List PrimitiveWord). slice_get ws number) (sym (rows_written rows same)) ∙ slice_get-map primitive_row_word rows number ∙ ap (option_map primitive_row_word) h)

-- a row behind those of primitives
pub behind_primitives : (rows : List TableRow) (number : ℕ) → map row_seen rows ≡ rows_seen → length rows ≤ number → slice_get known_rows number ≡ slice_get (map (λ (c : WrittenCore). c.word) built_core_words) (number - length rows)
behind_primitives rows number same h =
    let count : length rows ≡ length built_primitive_words = sym (length-map rows primitive_row_word) ∙ ap length (rows_written rows same) in
    right_at built_primitive_words (map (λ (c : WrittenCore). c.word) built_core_words) number (omega (arith, h, count))
    ∙ ap (slice_get (map (λ (c : WrittenCore). c.word) built_core_words)) (let e : number - length built_primitive_words ≡ number - length rows = omega (arith, count) in e)
