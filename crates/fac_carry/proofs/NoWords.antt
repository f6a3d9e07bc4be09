-- No primitive makes a word: what it gives are values that it took or found, and plain values that are no words.
use Rattle.std.proofs.Common.{◌≡◌, ℕ, zero, suc, ◌+◌, List, [], ◌∷◌, ◌++◌, length, drop, Bool, true, false, Option, Some, None, subst}
use Rattle.std.specs.Prelude.{ℤ, negsuc, ◌+ℤ◌, ◌-ℤ◌, ◌*ℤ◌, int_le, int_lt, int_div, int_rem, ◌-◌, take, reverse, map, not, nat_lt, nat_le, nat_eq, slice_get}
use Rattle.std.specs.Int.{int_bit_and, int_bit_or, int_bit_xor}
use mir.Syntax.{w128}
use Rattle.std.specs.Fmt.{signed_decimal}
use Rattle.std.specs.Str.{encode_utf8_all, chars, is_utf8}
use Rattle.fac_lang.specs.Phrases.{Plain, int, yes, no, str, iota, wrd, arr, tup}
use Rattle.fac_lang.specs.declared.error_name.ErrorName.{ErrorName}
use Rattle.fac_lang.specs.declared.error_name.ErrorName.TheVariants.{NotInteger, NotSequence, NotTuple, BadText, Overflow, ZeroDivisor, Bounds, Length, NoCond, TextTooLong}
use Rattle.fac_base.specs.declared.limits.TheConstants.{MOST_ELEMENTS, MOST_PRINTED_BYTES, MOST_LINE_BYTES}
use Rattle.fac_lang.specs.Equality.{plain_eq, Equal, equal, not_comparable, too_many_pairs}
use Rattle.fac_base.specs.Numbers.{in_range, is_zero, shifted, integer_in}
use Rattle.fac_lang.specs.Procedures.{repeated, Procedure, leaves, answers, answers_array, answers_tuple, curries, composes, fails, looks, adds, opens, puts, compares, prints, asks, writes, reads}
use Rattle.fac_lang.specs.Sequences.{Sequence, characters, numbers, elements, sequence_length, both_strings, one_string, number, numbers_from}
use Rattle.fac_lang.specs.Primitives.{Primitive, prim_numbered, primitive_with, as_many, fitted}
use Rattle.fac_lang.specs.Operations.{seen_integer, seen_string, seen_word, seen_array, seen_no, natural, index_below, range_within, truth_of, or_fails, unless_fails, want_integer, want_string, sequence_seen, want_sequence, with_elements, short_enough, nonzero, on_integers, integer_or, answers_truth, unless_no, element_at, appended, cut, reversed, chosen, line_read, equality, identity, set_element, written, divide, remainder, bit_not, show, new, number_to_string, string_to_number, length_of, nth, set_nth, make_iota, append, suffix, subsequence, turn_round, select, make_array, to_array, write, print, read_line, doing_with, simple_doing, storing_doing, one_doing, two_doing, three_doing, writing_doing}
use Rattle.fac_lang.specs.PrimitiveWords.{outputs_of}
use Rattle.fac_lang.specs.WrittenWords.{word_with}
use Rattle.fac_lang.specs.declared.primitive_table.TheConstants.{PRIMITIVES}
use Rattle.fac_lang.specs.declared.primitive_table.PrimitiveRow.{PrimitiveRow}
use Rattle.fac_lang.specs.declared.primitive_table.Operation.{Operation}
use Rattle.fac_lang.specs.declared.primitive_table.Operation.TheVariants as operation
use Rattle.fac_lang.specs.declared.primitive_table.Simple.{Simple}
use Rattle.fac_lang.specs.declared.primitive_table.Simple.TheVariants as simple
use Rattle.fac_lang.specs.declared.primitive_table.Storing.{Storing}
use Rattle.fac_lang.specs.declared.primitive_table.Storing.TheVariants as storing
use Rattle.fac_lang.specs.declared.primitive_table.OfOne.{OfOne}
use Rattle.fac_lang.specs.declared.primitive_table.OfOne.TheVariants as of_one
use Rattle.fac_lang.specs.declared.primitive_table.OfTwo.{OfTwo}
use Rattle.fac_lang.specs.declared.primitive_table.OfTwo.TheVariants as of_two
use Rattle.fac_lang.specs.declared.primitive_table.OfThree.{OfThree}
use Rattle.fac_lang.specs.declared.primitive_table.OfThree.TheVariants as of_three
use Rattle.fac_lang.specs.declared.primitive_table.Writing.{Writing}
use Rattle.fac_lang.specs.declared.primitive_table.Writing.TheVariants as writing

-- a plain value that is no word
abbrev pub IsNoWord : Plain → Type 0
IsNoWord (wrd a) = ⊥
IsNoWord _ = Unit {0}

abbrev pub AreNoWords : List Plain → Type 0
AreNoWords [] = Unit {0}
AreNoWords (p ∷ ps) = IsNoWord p × AreNoWords ps

-- a procedure of which no step makes a word
abbrev pub MakesNoWord : {o : Option ℕ} → Procedure o → Type 0
MakesNoWord (leaves ks) = Unit {0}
MakesNoWord (answers p) = IsNoWord p
MakesNoWord (answers_array ks) = Unit {0}
MakesNoWord (answers_tuple c n) = Unit {0}
MakesNoWord (curries j k p) = MakesNoWord p
MakesNoWord (composes j k p) = MakesNoWord p
MakesNoWord (fails e k) = Unit {0}
MakesNoWord (looks k go) = (v : Option Plain) → MakesNoWord (go v)
MakesNoWord (adds ps go) = AreNoWords ps × ((ks : List ℕ) → MakesNoWord (go ks))
MakesNoWord (opens a go) = (ks : Option (List ℕ)) → MakesNoWord (go ks)
MakesNoWord (puts a i k p) = MakesNoWord p
MakesNoWord (compares j k go) = (e : Equal) → MakesNoWord (go e)
MakesNoWord (prints k go) = (bs : List ℕ) → MakesNoWord (go bs)
MakesNoWord (asks a go) = (c : Option (ℕ × ℕ)) → MakesNoWord (go c)
MakesNoWord (writes bs p) = MakesNoWord p
MakesNoWord (reads go) = (l : Option (List ℕ)) → MakesNoWord (go l)

numbers_no_words : (ns : List ℕ) → AreNoWords (map number ns)
numbers_no_words [] = tt
numbers_no_words (n ∷ ns) = (tt, numbers_no_words ns)

range_no_words : (k n : ℕ) → AreNoWords (numbers_from k n)
range_no_words k zero = tt
range_no_words k (suc n) = (tt, range_no_words (suc k) n)

truth_no_word : (b : Bool) → IsNoWord (truth_of b)
truth_no_word true = tt
truth_no_word false = tt

-- What steps have in common.
module _ {o : Option ℕ} where
  if_there : {A : Type 0} (r : Option A) (e : ErrorName) (k : Option ℕ) (go : A → Procedure o) → ((x : A) → MakesNoWord (go x)) → MakesNoWord (or_fails r e k go)
  if_there None e k go h = tt
  if_there (Some x) e k go h = h x

  if_true : (b : Bool) (e : ErrorName) (p : Procedure o) → MakesNoWord p → MakesNoWord (unless_fails b e p)
  if_true true e p h = h
  if_true false e p h = tt

  one_of : (b : Bool) (p q : Procedure o) → MakesNoWord p → MakesNoWord q → MakesNoWord (elim b [ true ↦ p | false ↦ q ])
  one_of true p q h g = h
  one_of false p q h g = g

  with_integer : (k : ℕ) (go : ℤ → Procedure o) → ((z : ℤ) → MakesNoWord (go z)) → MakesNoWord (want_integer k go)
  with_integer k go h v = if_there (seen_integer v) NotInteger (Some k) go h

  with_string : (k : ℕ) (go : List ℕ → Procedure o) → ((cs : List ℕ) → MakesNoWord (go cs)) → MakesNoWord (want_string k go)
  with_string k go h v = if_there (seen_string v) BadText (Some k) go h

  with_seen : (k : ℕ) (v : Option Plain) (go : Sequence → Procedure o) → ((s : Sequence) → MakesNoWord (go s)) → MakesNoWord (sequence_seen k v go)
  with_seen k None go h = tt
  with_seen k (Some (int z)) go h = tt
  with_seen k (Some yes) go h = tt
  with_seen k (Some no) go h = tt
  with_seen k (Some (str bs)) go h = h (characters (chars bs))
  with_seen k (Some (iota n)) go h = h (numbers n)
  with_seen k (Some (wrd a)) go h = tt
  with_seen k (Some (arr a)) go h = λ ks. if_there ks NotSequence (Some k) (λ ks. go (elements ks)) (λ ks. h (elements ks))
  with_seen k (Some (tup a)) go h = tt

  with_sequence : (k : ℕ) (go : Sequence → Procedure o) → ((s : Sequence) → MakesNoWord (go s)) → MakesNoWord (want_sequence k go)
  with_sequence k go h v = with_seen k v go h

  with_places : (s : Sequence) (go : List ℕ → Procedure o) → ((ks : List ℕ) → MakesNoWord (go ks)) → MakesNoWord (with_elements s go)
  with_places (characters cs) go h = (numbers_no_words cs, h)
  with_places (numbers n) go h = (range_no_words 0 n, h)
  with_places (elements ks) go h = h ks

integer_there : (e : ErrorName) (r : Option ℤ) → MakesNoWord (integer_or e r)
integer_there e r = if_there r e None (λ n. answers (int n)) (λ n. tt)

of_integers : (go : ℤ → ℤ → Procedure (Some 1)) → ((a b : ℤ) → MakesNoWord (go a b)) → MakesNoWord (on_integers go)
of_integers go h = with_integer 0 (λ a. want_integer 1 (λ b. go a b)) (λ a. with_integer 1 (λ b. go a b) (λ b. h a b))

-- an operation on integers that may be out of range, and one that compares them
of_sums : (f : ℤ → ℤ → Option ℤ) → MakesNoWord (on_integers (λ a b. integer_or Overflow (f a b)))
of_sums f = of_integers (λ a b. integer_or Overflow (f a b)) (λ a b. integer_there Overflow (f a b))

of_tests : (f : ℤ → ℤ → Bool) → MakesNoWord (on_integers (λ a b. answers_truth (f a b)))
of_tests f = of_integers (λ a b. answers_truth (f a b)) (λ a b. truth_no_word (f a b))

of_bits : (f : ℤ → ℤ → ℤ) → MakesNoWord (on_integers (λ a b. answers (int (f a b))))
of_bits f = of_integers (λ a b. answers (int (f a b))) (λ a b. tt)

unless_seen_no : (k : ℕ) (p q : Procedure (Some 1)) → MakesNoWord p → MakesNoWord q → MakesNoWord (unless_no k p q)
unless_seen_no k p q h g v = one_of (seen_no v) q p g h

divide_makes : MakesNoWord divide
divide_makes = of_integers (λ a b. nonzero b (integer_or Overflow (in_range (int_div a b)))) (λ a b. if_true (not (is_zero b)) ZeroDivisor (integer_or Overflow (in_range (int_div a b))) (integer_there Overflow (in_range (int_div a b))))

remainder_makes : MakesNoWord remainder
remainder_makes = of_integers (λ a b. nonzero b (answers (int (int_rem a b)))) (λ a b. if_true (not (is_zero b)) ZeroDivisor (answers (int (int_rem a b))) tt)

bit_not_makes : MakesNoWord bit_not
bit_not_makes = with_integer 0 (λ a. answers (int (negsuc 0 -ℤ a))) (λ a. tt)

number_to_string_makes : MakesNoWord number_to_string
number_to_string_makes = with_integer 0 (λ a. answers (str (signed_decimal a))) (λ a. tt)

number_or_no : (r : Option ℤ) → IsNoWord (elim r [ Some n ↦ int n | None ↦ no ])
number_or_no None = tt
number_or_no (Some n) = tt

string_to_number_makes : MakesNoWord string_to_number
string_to_number_makes = with_string 0 (λ cs. answers (elim (integer_in cs) [ Some n ↦ int n | None ↦ no ])) (λ cs. number_or_no (integer_in cs))

new_makes : MakesNoWord new
new_makes p = if_there (seen_word p) NotTuple (Some 0) (λ a. asks a (λ c. or_fails c NotTuple (Some 0) (λ c. answers_tuple c.0 c.1))) (λ a c. if_there c NotTuple (Some 0) (λ c. answers_tuple c.0 c.1) (λ c. tt))

-- Sequences.
length_makes : MakesNoWord length_of
length_makes = with_sequence 0 (λ s. answers (number (sequence_length s))) (λ s. tt)

element_makes : (s : Sequence) (i : ℕ) → MakesNoWord (element_at s i)
element_makes (characters cs) i = if_there (slice_get cs i) Bounds None (λ c. answers (number c)) (λ c. tt)
element_makes (numbers n) i = if_true (nat_lt i n) Bounds (answers (number i)) tt
element_makes (elements ks) i = if_there (slice_get ks i) Bounds None (λ k. leaves (k ∷ [])) (λ k. tt)

nth_makes : MakesNoWord nth
nth_makes =
    with_integer 0 (λ n. want_sequence 1 (λ s. or_fails (index_below (sequence_length s) n) Bounds None (λ i. element_at s i)))
    (λ n. with_sequence 1 (λ s. or_fails (index_below (sequence_length s) n) Bounds None (λ i. element_at s i)) (λ s. if_there (index_below (sequence_length s) n) Bounds None (λ i. element_at s i) (λ i. element_makes s i)))

put_makes : (i : ℤ) (a : ℕ) → MakesNoWord (set_element i a)
put_makes i a es =
    if_there es NotSequence None (λ ks. or_fails (index_below (length ks) i) Bounds None (λ k. puts a k 0 (leaves []))) (λ ks. if_there (index_below (length ks) i) Bounds None (λ k. puts a k 0 (leaves [])) (λ k. tt))

set_nth_makes : MakesNoWord set_nth
set_nth_makes = with_integer 1 (λ i. looks 2 (λ p. or_fails (seen_array p) NotSequence (Some 2) (λ a. set_element i a))) (λ i p. if_there (seen_array p) NotSequence (Some 2) (λ a. set_element i a) (λ a. put_makes i a))

iota_makes : MakesNoWord make_iota
iota_makes = with_integer 0 (λ i. or_fails (natural i) Length None (λ n. answers (iota n))) (λ i. if_there (natural i) Length None (λ n. answers (iota n)) (λ n. tt))

string_or : {A : Type 0} (r : Option A) (f : A → List ℕ) (p : Procedure (Some 1)) → MakesNoWord p → MakesNoWord (elim r [ Some x ↦ answers (str (f x)) | None ↦ p ])
string_or None f p h = h
string_or (Some x) f p h = tt

appended_makes : (s t : Sequence) → MakesNoWord (appended s t)
appended_makes s t =
    string_or (both_strings s t) (λ p. encode_utf8_all (p.0 ++ p.1)) (with_elements s (λ ks. with_elements t (λ js. answers_array (ks ++ js))))
    (with_places s (λ ks. with_elements t (λ js. answers_array (ks ++ js))) (λ ks. with_places t (λ js. answers_array (ks ++ js)) (λ js. tt)))

append_makes : MakesNoWord append
append_makes =
    with_sequence 0 (λ s. want_sequence 1 (λ t. short_enough (sequence_length s + sequence_length t) (appended s t)))
    (λ s. with_sequence 1 (λ t. short_enough (sequence_length s + sequence_length t) (appended s t)) (λ t. if_true (nat_le (sequence_length s + sequence_length t) MOST_ELEMENTS) Length (appended s t) (appended_makes s t)))

suffix_makes : MakesNoWord suffix
suffix_makes =
    with_sequence 0 (λ s. short_enough (suc (sequence_length s)) (with_elements s (λ ks. answers_array (ks ++ 1 ∷ []))))
    (λ s. if_true (nat_le (suc (sequence_length s)) MOST_ELEMENTS) Length (with_elements s (λ ks. answers_array (ks ++ 1 ∷ []))) (with_places s (λ ks. answers_array (ks ++ 1 ∷ [])) (λ ks. tt)))

cut_makes : (r : ℕ × ℕ) (s : Sequence) → MakesNoWord (cut r s)
cut_makes r s =
    string_or (one_string s) (λ cs. encode_utf8_all (take (r.1 - r.0) (drop r.0 cs))) (with_elements s (λ ks. answers_array (take (r.1 - r.0) (drop r.0 ks)))) (with_places s (λ ks. answers_array (take (r.1 - r.0) (drop r.0 ks))) (λ ks. tt))

part_makes : (a b : ℤ) (s : Sequence) → MakesNoWord (or_fails (range_within (sequence_length s) a b) Bounds None (λ r. short_enough (r.1 - r.0) (cut r s)))
part_makes a b s = if_there (range_within (sequence_length s) a b) Bounds None (λ r. short_enough (r.1 - r.0) (cut r s)) (λ r. if_true (nat_le (r.1 - r.0) MOST_ELEMENTS) Length (cut r s) (cut_makes r s))

subsequence_makes : MakesNoWord subsequence
subsequence_makes =
    with_integer 0 (λ a. want_integer 1 (λ b. want_sequence 2 (λ s. or_fails (range_within (sequence_length s) a b) Bounds None (λ r. short_enough (r.1 - r.0) (cut r s)))))
    (λ a. with_integer 1 (λ b. want_sequence 2 (λ s. or_fails (range_within (sequence_length s) a b) Bounds None (λ r. short_enough (r.1 - r.0) (cut r s))))
    (λ b. with_sequence 2 (λ s. or_fails (range_within (sequence_length s) a b) Bounds None (λ r. short_enough (r.1 - r.0) (cut r s))) (λ s. part_makes a b s)))

reversed_makes : (s : Sequence) → MakesNoWord (reversed s)
reversed_makes s = string_or (one_string s) (λ cs. encode_utf8_all (reverse cs)) (with_elements s (λ ks. answers_array (reverse ks))) (with_places s (λ ks. answers_array (reverse ks)) (λ ks. tt))

turn_round_makes : MakesNoWord turn_round
turn_round_makes = with_sequence 0 (λ s. short_enough (sequence_length s) (reversed s)) (λ s. if_true (nat_le (sequence_length s) MOST_ELEMENTS) Length (reversed s) (reversed_makes s))

chosen_makes : (fs vs kept : List ℕ) → MakesNoWord (chosen fs vs kept)
chosen_makes [] vs kept = if_true (nat_le (length kept) MOST_ELEMENTS) Length (answers_array kept) tt
chosen_makes (f ∷ fs) [] kept = if_true (nat_le (length kept) MOST_ELEMENTS) Length (answers_array kept) tt
chosen_makes (f ∷ fs) (v ∷ vs) kept = λ p. one_of (seen_no p) (chosen fs vs kept) (chosen fs vs (kept ++ v ∷ [])) (chosen_makes fs vs kept) (chosen_makes fs vs (kept ++ v ∷ []))

flags_make : (s t : Sequence) → MakesNoWord (unless_fails (nat_eq (sequence_length s) (sequence_length t)) Length (with_elements s (λ fs. with_elements t (λ vs. chosen fs vs []))))
flags_make s t =
    if_true (nat_eq (sequence_length s) (sequence_length t)) Length (with_elements s (λ fs. with_elements t (λ vs. chosen fs vs [])))
    (with_places s (λ fs. with_elements t (λ vs. chosen fs vs [])) (λ fs. with_places t (λ vs. chosen fs vs []) (λ vs. chosen_makes fs vs [])))

select_makes : MakesNoWord select
select_makes =
    with_sequence 0 (λ s. want_sequence 1 (λ t. unless_fails (nat_eq (sequence_length s) (sequence_length t)) Length (with_elements s (λ fs. with_elements t (λ vs. chosen fs vs [])))))
    (λ s. with_sequence 1 (λ t. unless_fails (nat_eq (sequence_length s) (sequence_length t)) Length (with_elements s (λ fs. with_elements t (λ vs. chosen fs vs [])))) (λ t. flags_make s t))

array_makes : MakesNoWord make_array
array_makes =
    with_integer 0 (λ i. or_fails (natural i) Length None (λ n. short_enough n (answers_array (repeated n 1))))
    (λ i. if_there (natural i) Length None (λ n. short_enough n (answers_array (repeated n 1))) (λ n. if_true (nat_le n MOST_ELEMENTS) Length (answers_array (repeated n 1)) tt))

to_array_makes : MakesNoWord to_array
to_array_makes =
    with_sequence 0 (λ s. short_enough (sequence_length s) (with_elements s answers_array)) (λ s. if_true (nat_le (sequence_length s) MOST_ELEMENTS) Length (with_elements s answers_array) (with_places s answers_array (λ ks. tt)))

-- Comparing, writing and reading.
equality_makes : (e : Equal) → MakesNoWord (equality e)
equality_makes (equal b) = truth_no_word b
equality_makes not_comparable = tt
equality_makes too_many_pairs = tt

identity_makes : (p q : Option Plain) → MakesNoWord (identity p q)
identity_makes None None = tt
identity_makes None (Some q) = tt
identity_makes (Some p) None = tt
identity_makes (Some p) (Some q) = truth_no_word (plain_eq p q)

write_makes : MakesNoWord write
write_makes = with_string 0 (λ cs. written cs) (λ cs. tt)

print_makes : MakesNoWord print
print_makes = with_string 0 (λ cs. written (cs ++ 10 ∷ [])) (λ cs. tt)

show_makes : MakesNoWord show
show_makes bs = if_true (nat_le (length bs) MOST_PRINTED_BYTES) TextTooLong (written (bs ++ 10 ∷ [])) tt

line_makes : (line : List ℕ) → MakesNoWord (line_read line)
line_makes line =
    if_true (nat_le (length line) MOST_LINE_BYTES) TextTooLong (unless_fails (is_utf8 line) BadText (unless_fails (nat_le (length (chars line)) MOST_ELEMENTS) TextTooLong (answers (str line))))
    (if_true (is_utf8 line) BadText (unless_fails (nat_le (length (chars line)) MOST_ELEMENTS) TextTooLong (answers (str line))) (if_true (nat_le (length (chars line)) MOST_ELEMENTS) TextTooLong (answers (str line)) tt))

read_line_makes : MakesNoWord read_line
read_line_makes None = tt
read_line_makes (Some line) = line_makes line

-- The operations, group by group.
simple_makes : (o : Simple) → MakesNoWord (simple_doing o).does
simple_makes simple.Throw = tt
simple_makes simple.Not = λ v. truth_no_word (seen_no v)
simple_makes simple.And = unless_seen_no 0 (leaves (1 ∷ [])) (answers no) tt tt
simple_makes simple.Or = unless_seen_no 0 (leaves (0 ∷ [])) (leaves (1 ∷ [])) tt tt
simple_makes simple.Choose = unless_seen_no 0 (leaves (1 ∷ [])) (leaves (2 ∷ [])) tt tt
simple_makes simple.NoCond = tt
simple_makes simple.Add = of_sums (λ a b. in_range (a +ℤ b))
simple_makes simple.Subtract = of_sums (λ a b. in_range (a -ℤ b))
simple_makes simple.Multiply = of_sums (λ a b. in_range (a *ℤ b))
simple_makes simple.Divide = divide_makes
simple_makes simple.Remainder = remainder_makes
simple_makes simple.Shift = of_sums shifted
simple_makes simple.BitAnd = of_bits (int_bit_and w128)
simple_makes simple.BitOr = of_bits (int_bit_or w128)
simple_makes simple.BitXor = of_bits (int_bit_xor w128)
simple_makes simple.BitNot = bit_not_makes
simple_makes simple.Less = of_tests int_lt
simple_makes simple.Greater = of_tests (λ a b. int_lt b a)
simple_makes simple.AtMost = of_tests int_le
simple_makes simple.AtLeast = of_tests (λ a b. int_le b a)

storing_makes : (o : Storing) → MakesNoWord (storing_doing o).does
storing_makes storing.Curry = tt
storing_makes storing.Compose = λ v. tt
storing_makes storing.Equal = equality_makes
storing_makes storing.Same = identity_makes
storing_makes storing.New = new_makes

one_makes : (o : OfOne) → MakesNoWord (one_doing o).does
one_makes of_one.NumberToString = number_to_string_makes
one_makes of_one.StringToNumber = string_to_number_makes
one_makes of_one.Length = length_makes
one_makes of_one.MakeIota = iota_makes
one_makes of_one.Reverse = turn_round_makes
one_makes of_one.OneArray = tt
one_makes of_one.ToArray = to_array_makes

two_makes : (o : OfTwo) → MakesNoWord (two_doing o).does
two_makes of_two.Nth = nth_makes
two_makes of_two.Append = append_makes
two_makes of_two.Suffix = suffix_makes
two_makes of_two.Select = select_makes
two_makes of_two.MakeArray = array_makes
two_makes of_two.TwoArray = tt

three_makes : (o : OfThree) → MakesNoWord (three_doing o).does
three_makes of_three.SetNth = set_nth_makes
three_makes of_three.Subsequence = subsequence_makes

writing_makes : (o : Writing) → MakesNoWord (writing_doing o).does
writing_makes writing.Write = write_makes
writing_makes writing.Print = print_makes
writing_makes writing.NewLine = tt
writing_makes writing.Show = show_makes

operation_makes : {Places : Type 0} (places : Places → List ℕ) (o : Operation Places) → MakesNoWord (doing_with places o).does
operation_makes places (operation.Shuffle takes ps) = tt
operation_makes places (operation.Simple o) = simple_makes o
operation_makes places (operation.Storing o) = storing_makes o
operation_makes places (operation.OfOne o) = one_makes o
operation_makes places (operation.OfTwo o) = two_makes o
operation_makes places (operation.OfThree o) = three_makes o
operation_makes places (operation.Writing o) = writing_makes o
operation_makes places operation.ReadLine = read_line_makes

-- a procedure fitted to its word makes as little
abbrev HoldsOf : {A : Type 0} → (A → Type 0) → Option A → Type 0
HoldsOf Q None = Unit {0}
HoldsOf Q (Some x) = Q x

many_hold : (n m : ℕ) (F : ℕ → Type 0) (Q : (k : ℕ) → F k → Type 0) (p : F n) → Q n p → HoldsOf (Q m) (as_many n m F p)
many_hold zero zero F Q p h = h
many_hold zero (suc m) F Q p h = tt
many_hold (suc n) zero F Q p h = tt
many_hold (suc n) (suc m) F Q p h = many_hold n m (λ k. F (suc k)) (λ k. Q (suc k)) p h

many_make : (m : ℕ) (r : Option (Procedure (Some m))) → HoldsOf (λ (q : Procedure (Some m)). MakesNoWord q) r → MakesNoWord {o = Some m} (elim r [ Some q ↦ q | None ↦ fails NoCond None ])
many_make m None h = tt
many_make m (Some q) h = h

fitted_makes : (had wanted : Option ℕ) (p : Procedure had) → MakesNoWord p → MakesNoWord (fitted had wanted p)
fitted_makes None None p h = h
fitted_makes None (Some m) p h = tt
fitted_makes (Some n) None p h = tt
fitted_makes (Some n) (Some m) p h = many_make m (as_many n m (λ k. Procedure (Some k)) p) (many_hold n m (λ k. Procedure (Some k)) (λ k q. MakesNoWord q) p h)

-- the primitive of a row
row_makes : {Text Texts Places : Type 0} (text : Text → List ℕ) (texts : Texts → List (List ℕ)) (places : Places → List ℕ) (r : PrimitiveRow Text Texts Places) → MakesNoWord (primitive_with text texts places r).does
row_makes text texts places r = fitted_makes (doing_with places r.does).outs (outputs_of (word_with text texts r.word)) (doing_with places r.does).does (operation_makes places r.does)

numbered_makes : {R : Type 0} (primitive : R → Primitive) → ((r : R) → MakesNoWord (primitive r).does) → (rs : List R) (k : ℕ) (p : Primitive) → slice_get (map primitive rs) k ≡ Some p → MakesNoWord p.does
numbered_makes primitive h [] k p e = absurd (cc)
numbered_makes primitive h (r ∷ rs) zero p e = let same : primitive r ≡ p = cc in subst (λ (x : Primitive). MakesNoWord x.does) same (h r)
numbered_makes primitive h (r ∷ rs) (suc k) p e = numbered_makes primitive h rs k p e

-- No primitive makes one.
pub no_words : (k : ℕ) (p : Primitive) → prim_numbered k ≡ Some p → MakesNoWord p.does
unfolding prim_numbered
no_words k p e =
    numbered_makes (primitive_with (λ text. text.now) (λ texts. map (λ text. text.now) texts.now) (λ places. places.now)) (row_makes (λ text. text.now) (λ texts. map (λ text. text.now) texts.now) (λ places. places.now))
    PRIMITIVES.now k p e
