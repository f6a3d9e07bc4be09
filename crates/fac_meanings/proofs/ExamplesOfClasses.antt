-- Sources with classes, tuples, generics and `cond`, and what they resolve to.
use Rattle.std.specs.Prelude.{ℕ, zero, suc, ◌+◌, pos, List, [], ◌∷◌, ◌++◌, drop, Option, Some, None, Result, Ok, Err, false, codes}
use Rattle.std.proofs.Common.{◌≡◌, refl}
use Rattle.fac_lang.specs.Phrases.{int, yes as yes_value, end, Item, lit, lit_arr, quot, word, next_method}
use Rattle.fac_lang.specs.Primitives.{built_primitive_words}
use Rattle.fac_base.specs.Signatures.{Signature}
use Rattle.fac_lang.specs.Whole.{plain_effect}
use Rattle.fac_lang.specs.declared.program.ClassDef.{ClassDef}
use Rattle.fac_lang.specs.declared.program.Lit.TheVariants.{Int as l_int, Arr as l_arr, Quot as l_quot}
use Rattle.fac_lang.specs.declared.program.Shape.{Shape}
use Rattle.fac_lang.specs.declared.program.Shape.TheVariants.{Tuple as tuple_class, Union as union, Single as single}
use Rattle.fac_lang.specs.declared.program.Sort.TheVariants.{Body as body, Class as class, Isa as isa, Getter as getter, Setter as setter, Putter as putter, Generic as generic, Method as method}
use Rattle.fac_lang.specs.declared.program.WordDef.{WordDef}
use Rattle.fac_source.specs.declared.refusal.NameFault.{NameFault}
use Rattle.fac_source.specs.declared.refusal.NameKind.TheVariants.{Twice, NotClass, NotGeneric, BadParent, Cycle, TooMany}
use Rattle.fac_vocab.specs.Scopes.{found}
use Rattle.fac_items.specs.Written.{Tok, n_next, Form, f_in, f_using, f_defer, f_symbol, f_tuple, f_union, f_single, f_maker, f_generic, f_method}
use Rattle.fac_endings.specs.declared.draft.Draft.{Draft}
use Rattle.fac_endings.specs.declared.draft.Late.TheVariants.{Settled as settled}
use Rattle.fac_names.specs.Forms.{take}
use Rattle.fac_names.specs.KnownWords.{known_classes, known_words}
use Rattle.fac_names.specs.declared.known.Known.{Known}
use Rattle.fac_names.specs.Resolved.{read_files}
use Rattle.fac_names.specs.Resolution.{first_reading}
use Rattle.fac_meanings.proofs.WrittenSources.{yes, no, array, arrays_of, at, defined, items, kernel_and_math, known, literal, made, name, named, nodes, own, quotation, resolves, run, tk, top, word_def}

-- the classes behind the built-in ones
abbrev classes_seen : Result Known NameFault → List ClassDef
classes_seen (Err f) = []
classes_seen (Ok k) = drop 12 k.program.classes

abbrev classes_of : List Form → List ClassDef
classes_of forms = classes_seen (read_files first_reading (forms ∷ []) false)

abbrev class_def : List ℕ → Shape → ClassDef
class_def text shape = record { name = name (codes "scratchpad") text; shape = shape }

-- the words of a class whose form names it at this token
abbrev class_words : List ℕ → ℕ → ℕ → List WordDef
class_words text c t =
    word_def (codes "scratchpad") text (class c) (plain_effect [] (codes "value" ∷ [])) false false (at t)
    ∷ word_def (codes "scratchpad") (text ++ codes "?") (isa c) (plain_effect (codes "object" ∷ []) (codes "?" ∷ [])) false false (at t)
    ∷ []

-- those of a slot
abbrev slot_words : List ℕ → ℕ → List WordDef
slot_words slot t =
    word_def (codes "accessors") (slot ++ codes ">>") (getter slot) (plain_effect (codes "object" ∷ []) (codes "value" ∷ [])) false false (at t)
    ∷ word_def (codes "accessors") (codes ">>" ++ slot) (setter slot) (plain_effect (codes "object" ∷ codes "value" ∷ []) (codes "object" ∷ [])) false false (at t)
    ∷ word_def (codes "accessors") (slot ++ codes "<<") (putter slot) (plain_effect (codes "value" ∷ codes "object" ∷ []) []) false false (at t)
    ∷ []

-- TUPLE: p x ; TUPLE: q < p y ; C: <q> q
two_tuples : List Form
two_tuples = f_tuple (tk (codes "p") 2) None (tk (codes "x") 3 ∷ []) ∷ f_tuple (tk (codes "q") 6) (Some (tk (codes "p") 8)) (tk (codes "y") 9 ∷ []) ∷ f_maker (tk (codes "<q>") 12) (tk (codes "q") 13) ∷ []

-- what `C:` makes takes the slots of the parent first
tuples_have_words : resolves (two_tuples ∷ []) ≡
    yes (class_words (codes "p") 12 2 ++ slot_words (codes "x") 3 ++ class_words (codes "q") 13 6 ++ slot_words (codes "y") 9 ++ word_def (codes "scratchpad") (codes "<q>") (body (items ((word (own 5), 12) ∷ (word (known (codes "kernel") (codes "boa")), 12) ∷ []))) (plain_effect (codes "x" ∷ codes "y" ∷ []) (codes "q" ∷ [])) false false (at 12) ∷ top end ∷ [])
unfolding two_tuples known_words known_classes built_primitive_words found
tuples_have_words = refl

tuples_are_classes : classes_of two_tuples ≡ class_def (codes "p") (tuple_class None (codes "x" ∷ [])) ∷ class_def (codes "q") (tuple_class (Some 12) (codes "y" ∷ [])) ∷ []
unfolding two_tuples known_words known_classes built_primitive_words found
tuples_are_classes = refl

-- TUPLE: p x ; TUPLE: q x ;
accessors_are_there_once : resolves ((f_tuple (tk (codes "p") 2) None (tk (codes "x") 3 ∷ []) ∷ f_tuple (tk (codes "q") 6) None (tk (codes "x") 7 ∷ []) ∷ []) ∷ []) ≡ yes (class_words (codes "p") 12 2 ++ slot_words (codes "x") 3 ++ class_words (codes "q") 13 6 ++ top end ∷ [])
unfolding known_words known_classes built_primitive_words found
accessors_are_there_once = refl

-- SINGLETON: s UNION: u s ;
union_of_singleton : classes_of (f_single (tk (codes "s") 2) ∷ f_union (tk (codes "u") 4) (tk (codes "s") 5 ∷ []) ∷ []) ≡ class_def (codes "s") single ∷ class_def (codes "u") (union (12 ∷ [])) ∷ []
unfolding known_words known_classes built_primitive_words found
union_of_singleton = refl

-- DEFER: b TUPLE: a < b ; TUPLE: b < a ;
parents_in_a_cycle : resolves ((f_defer (tk (codes "b") 2) ∷ f_tuple (tk (codes "a") 4) (Some (tk (codes "b") 6)) [] ∷ f_tuple (tk (codes "b") 9) (Some (tk (codes "a") 11)) [] ∷ []) ∷ []) ≡ no 4 Cycle (codes "a")
unfolding known_words known_classes built_primitive_words found
parents_in_a_cycle = refl

-- SINGLETON: s TUPLE: a < s ;
parent_is_no_tuple : resolves ((f_single (tk (codes "s") 2) ∷ f_tuple (tk (codes "a") 4) (Some (tk (codes "s") 6)) [] ∷ []) ∷ []) ≡ no 6 BadParent (codes "s")
unfolding known_words known_classes built_primitive_words found
parent_is_no_tuple = refl

-- TUPLE: p x ; TUPLE: q < p x ;
slot_of_parent_again : resolves ((f_tuple (tk (codes "p") 2) None (tk (codes "x") 3 ∷ []) ∷ f_tuple (tk (codes "q") 6) (Some (tk (codes "p") 8)) (tk (codes "x") 9 ∷ []) ∷ []) ∷ []) ≡ no 9 Twice (codes "x")
unfolding known_words known_classes built_primitive_words found
slot_of_parent_again = refl

-- SYMBOL: v UNION: u v ;
member_is_no_class : resolves ((f_symbol (tk (codes "v") 2) ∷ f_union (tk (codes "u") 4) (tk (codes "v") 5 ∷ []) ∷ []) ∷ []) ≡ no 5 NotClass (codes "v")
unfolding known_words known_classes built_primitive_words found
member_is_no_class = refl

-- SINGLETON: s C: <s> s
maker_of_no_tuple : resolves ((f_single (tk (codes "s") 2) ∷ f_maker (tk (codes "<s>") 4) (tk (codes "s") 5) ∷ []) ∷ []) ≡ no 5 NotClass (codes "s")
unfolding known_words known_classes built_primitive_words found
maker_of_no_tuple = refl

-- USING: kernel ; SINGLETON: s GENERIC: g ( x -- ) M: s g drop ;
one_method : resolves ((f_using (tk (codes "kernel") 2 ∷ []) ∷ f_single (tk (codes "s") 5) ∷ f_generic (tk (codes "g") 7) (plain_effect (codes "x" ∷ []) []) ∷ f_method (tk (codes "s") 13) (tk (codes "g") 14) (nodes (named (codes "drop") 15 ∷ [])) ∷ []) ∷ []) ≡
    yes (class_words (codes "s") 12 5 ++ word_def (codes "scratchpad") (codes "g") generic (plain_effect (codes "x" ∷ []) []) false false (at 7) ∷ word_def [] (codes "g") (method 12 (own 2) (items ((word (known (codes "kernel") (codes "drop")), 15) ∷ []))) (plain_effect (codes "x" ∷ []) []) false false (at 14) ∷ top end ∷ [])
unfolding known_words known_classes built_primitive_words found
one_method = refl

-- SINGLETON: s GENERIC: g ( -- ) M: s g ; M: s g ;
two_methods : resolves ((f_single (tk (codes "s") 2) ∷ f_generic (tk (codes "g") 4) (plain_effect [] []) ∷ f_method (tk (codes "s") 9) (tk (codes "g") 10) (nodes []) ∷ f_method (tk (codes "s") 13) (tk (codes "g") 14) (nodes []) ∷ []) ∷ []) ≡ no 14 Twice (codes "g")
unfolding known_words known_classes built_primitive_words found
two_methods = refl

-- SINGLETON: s SYMBOL: v M: s v ;
method_of_no_generic : resolves ((f_single (tk (codes "s") 2) ∷ f_symbol (tk (codes "v") 4) ∷ f_method (tk (codes "s") 6) (tk (codes "v") 7) (nodes []) ∷ []) ∷ []) ≡ no 7 NotGeneric (codes "v")
unfolding known_words known_classes built_primitive_words found
method_of_no_generic = refl

-- USING: kernel combinators ; { { [ t ] [ 1 ] } [ 2 ] } cond
pairs_of_cond : resolves ((f_using (tk (codes "kernel") 2 ∷ tk (codes "combinators") 3 ∷ []) ∷ run (array (array (quotation (literal yes_value 8 ∷ []) 7 ∷ quotation (literal (int (pos 1)) 11 ∷ []) 10 ∷ []) 6 ∷ quotation (literal (int (pos 2)) 15 ∷ []) 14 ∷ []) 5 ∷ named (codes "cond") 18 ∷ []) ∷ []) ∷ []) ≡
    yes (top (items ((quot (items ((lit yes_value, 8) ∷ [])), 7) ∷ (word (known (codes "kernel") (codes "call")), 18) ∷ (quot (items ((lit (int (pos 1)), 11) ∷ [])), 10) ∷ (quot (items ((lit (int (pos 2)), 15) ∷ [])), 18) ∷ (word (known (codes "kernel") (codes "if")), 18) ∷ [])) ∷ [])
unfolding known_words known_classes built_primitive_words found
pairs_of_cond = refl

-- DEFER: q SINGLETON: red UNION: u red q t ; TUPLE: q ;
member_behind : List Form
member_behind =
    f_defer (tk (codes "q") 2)
    ∷ f_single (tk (codes "red") 4)
    ∷ f_union (tk (codes "u") 6) (tk (codes "red") 7 ∷ tk (codes "q") 8 ∷ tk (codes "t") 9 ∷ [])
    ∷ f_tuple (tk (codes "q") 12) None []
    ∷ []

-- A deferred word has the number of its `DEFER:` and the place of its definition, and a class the number of its form. That of `t` is 1.
member_behind_words : resolves (member_behind ∷ []) ≡
    yes (word_def (codes "scratchpad") (codes "q") (class 14) (plain_effect [] (codes "value" ∷ [])) false false (at 12) ∷ class_words (codes "red") 12 4 ++ class_words (codes "u") 13 6 ++ word_def (codes "scratchpad") (codes "q?") (isa 14) (plain_effect (codes "object" ∷ []) (codes "?" ∷ [])) false false (at 12) ∷ top end ∷ [])
unfolding member_behind known_words known_classes built_primitive_words found
member_behind_words = refl

member_behind_classes : classes_of member_behind ≡ class_def (codes "red") single ∷ class_def (codes "u") (union (12 ∷ 14 ∷ 1 ∷ [])) ∷ class_def (codes "q") (tuple_class None []) ∷ []
unfolding member_behind known_words known_classes built_primitive_words found
member_behind_classes = refl

-- IN: accessors : x>> ( -- ) ; IN: scratchpad TUPLE: p x ;
reader_is_held : resolves ((f_in (tk (codes "accessors") 2) ∷ defined (codes "x>>") 4 [] ∷ f_in (tk (codes "scratchpad") 10) ∷ f_tuple (tk (codes "p") 12) None (tk (codes "x") 13 ∷ []) ∷ []) ∷ []) ≡
    yes (made (codes "accessors") (codes "x>>") 4 end ∷ class_words (codes "p") 12 12 ++ drop 1 (slot_words (codes "x") 13) ++ top end ∷ [])
unfolding known_words known_classes built_primitive_words found
reader_is_held = refl

-- the effect ( x -- n )
abbrev one_to_one : Signature
one_to_one = plain_effect (codes "x" ∷ []) (codes "n" ∷ [])

-- USING: kernel math ; GENERIC: g ( x -- n ) M: integer g call-next-method ; M: object g drop 1 ;
methods_have_the_effect : resolves ((kernel_and_math ∷ f_generic (tk (codes "g") 6) one_to_one ∷ f_method (tk (codes "integer") 13) (tk (codes "g") 14) (nodes (n_next (at 15) ∷ [])) ∷ f_method (tk (codes "object") 18) (tk (codes "g") 19) (nodes (named (codes "drop") 20 ∷ literal (int (pos 1)) 21 ∷ [])) ∷ []) ∷ []) ≡
    yes (word_def (codes "scratchpad") (codes "g") generic one_to_one false false (at 6)
    ∷ word_def [] (codes "g") (method 0 (own 0) (items ((next_method, 15) ∷ []))) one_to_one false false (at 14)
    ∷ word_def [] (codes "g") (method 11 (own 0) (items ((word (known (codes "kernel") (codes "drop")), 20) ∷ (lit (int (pos 1)), 21) ∷ []))) one_to_one false false (at 19)
    ∷ top end
    ∷ [])
unfolding known_words known_classes built_primitive_words found
methods_have_the_effect = refl

-- USING: kernel math ; DEFER: g M: integer g ; GENERIC: g ( x -- n )
generic_behind : resolves ((kernel_and_math ∷ f_defer (tk (codes "g") 6) ∷ f_method (tk (codes "integer") 8) (tk (codes "g") 9) (nodes []) ∷ f_generic (tk (codes "g") 12) one_to_one ∷ []) ∷ []) ≡
    yes (word_def (codes "scratchpad") (codes "g") generic one_to_one false false (at 12) ∷ word_def [] (codes "g") (method 0 (own 0) end) one_to_one false false (at 9) ∷ top end ∷ [])
unfolding known_words known_classes built_primitive_words found
generic_behind = refl

-- USING: kernel math ; UNION: u integer ; C: <u> u
maker_of_a_union : resolves ((kernel_and_math ∷ f_union (tk (codes "u") 6) (tk (codes "integer") 7 ∷ []) ∷ f_maker (tk (codes "<u>") 10) (tk (codes "u") 11) ∷ []) ∷ []) ≡ no 11 NotClass (codes "u")
unfolding known_words known_classes built_primitive_words found
maker_of_a_union = refl

-- UNION: u u? ;
member_is_the_predicate : resolves ((f_union (tk (codes "u") 2) (tk (codes "u?") 3 ∷ []) ∷ []) ∷ []) ≡ no 3 NotClass (codes "u?")
unfolding known_words known_classes built_primitive_words found
member_is_the_predicate = refl

-- DEFER: b UNION: a b ; UNION: b a ;
unions_in_a_cycle : resolves ((f_defer (tk (codes "b") 2) ∷ f_union (tk (codes "a") 4) (tk (codes "b") 5 ∷ []) ∷ f_union (tk (codes "b") 8) (tk (codes "a") 9 ∷ []) ∷ []) ∷ []) ≡ no 4 Cycle (codes "a")
unfolding known_words known_classes built_primitive_words found
unions_in_a_cycle = refl

-- TUPLE: a < a ;
parent_is_itself : resolves ((f_tuple (tk (codes "a") 2) (Some (tk (codes "a") 4)) [] ∷ []) ∷ []) ≡ no 2 Cycle (codes "a")
unfolding known_words known_classes built_primitive_words found
parent_is_itself = refl

-- : p? ( -- ) ; TUPLE: p ;
predicate_is_there : resolves ((defined (codes "p?") 2 [] ∷ f_tuple (tk (codes "p") 7) None [] ∷ []) ∷ []) ≡ no 7 Twice (codes "p?")
unfolding known_words known_classes built_primitive_words found
predicate_is_there = refl

-- so many slots from a token on, whose names have two letters
abbrev slots : ℕ → ℕ → List Tok
slots zero t = []
slots (suc n) t = tk (115 ∷ (60 + n) ∷ []) t ∷ slots n (suc t)

-- TUPLE: a s{ sz .. s< ; TUPLE: b < a x ; where 64 slots are those of `a`
slot_too_many : resolves ((f_tuple (tk (codes "a") 2) None (slots 64 3) ∷ f_tuple (tk (codes "b") 69) (Some (tk (codes "a") 71)) (tk (codes "x") 72 ∷ []) ∷ []) ∷ []) ≡ no 71 BadParent (codes "a")
unfolding known_words known_classes built_primitive_words found
slot_too_many = refl

-- the words of so many classes of file 1
abbrev many_classes : ℕ → List Draft
many_classes zero = []
many_classes (suc n) = record { word = word_def (codes "scratchpad") (codes "c") (class 12) (plain_effect [] (codes "value" ∷ [])) false false (at 1); late = settled } ∷ many_classes n

-- the refusal of `SINGLETON: d` behind so many
abbrev one_more : ℕ → Option NameFault
one_more n = (take (f_single (tk (codes "d") 2)) (record first_reading { words = many_classes n })).first

last_class : one_more 1023 ≡ None
unfolding known_words known_classes built_primitive_words found
last_class = refl

class_too_many : one_more 1024 ≡ Some (record { place = at 2; kind = TooMany; name = codes "d" })
unfolding known_words known_classes built_primitive_words found
class_too_many = refl

-- an integer alone in a quotation at a token; the integer stands behind the bracket
abbrev gives : ℕ → ℕ → Item × ℕ
gives k t = (quot (items ((lit (int (pos k)), suc t) ∷ [])), t)

abbrev word_at : List ℕ → List ℕ → ℕ → Item × ℕ
word_at vocab text t = (word (known vocab text), t)

-- USING: kernel combinators ; { { [ dup ] [ drop 1 ] } { [ 2 ] [ 3 ] } [ 4 ] } cond
two_pairs : List Form
two_pairs =
    f_using (tk (codes "kernel") 2 ∷ tk (codes "combinators") 3 ∷ [])
    ∷ run (array (
    array (quotation (named (codes "dup") 8 ∷ []) 7 ∷ quotation (named (codes "drop") 11 ∷ literal (int (pos 1)) 12 ∷ []) 10 ∷ []) 6
    ∷ array (quotation (literal (int (pos 2)) 17 ∷ []) 16 ∷ quotation (literal (int (pos 3)) 20 ∷ []) 19 ∷ []) 15
    ∷ quotation (literal (int (pos 4)) 24 ∷ []) 23
    ∷ []) 5 ∷ named (codes "cond") 27 ∷ [])
    ∷ []

-- [ dup ] call [ drop 1 ] [ [ 2 ] call [ 3 ] [ 4 ] if ] if
two_pairs_read : resolves (two_pairs ∷ []) ≡
    yes (top (items (
    (quot (items (word_at (codes "kernel") (codes "dup") 8 ∷ [])), 7)
    ∷ word_at (codes "kernel") (codes "call") 27
    ∷ (quot (items (word_at (codes "kernel") (codes "drop") 11 ∷ (lit (int (pos 1)), 12) ∷ [])), 10)
    ∷ (quot (items (gives 2 16 ∷ word_at (codes "kernel") (codes "call") 27 ∷ gives 3 19 ∷ (quot (items ((lit (int (pos 4)), 24) ∷ [])), 27) ∷ word_at (codes "kernel") (codes "if") 27 ∷ [])), 27)
    ∷ word_at (codes "kernel") (codes "if") 27
    ∷ [])) ∷ [])
unfolding two_pairs known_words known_classes built_primitive_words found
two_pairs_read = refl

two_pairs_are_no_array : arrays_of (two_pairs ∷ []) ≡ []
unfolding two_pairs known_words known_classes built_primitive_words found
two_pairs_are_no_array = refl

-- USING: kernel combinators ; { { [ 1 ] [ 2 ] } } cond, which is [ 1 ] call [ 2 ] [ (no-cond) ] if
no_last_pair : resolves ((f_using (tk (codes "kernel") 2 ∷ tk (codes "combinators") 3 ∷ []) ∷ run (array (array (quotation (literal (int (pos 1)) 8 ∷ []) 7 ∷ quotation (literal (int (pos 2)) 11 ∷ []) 10 ∷ []) 6 ∷ []) 5 ∷ named (codes "cond") 15 ∷ []) ∷ []) ∷ []) ≡
    yes (top (items (
    gives 1 7
    ∷ word_at (codes "kernel") (codes "call") 15
    ∷ gives 2 10
    ∷ (quot (items (word_at (codes "combinators.private") (codes "(no-cond)") 15 ∷ [])), 15)
    ∷ word_at (codes "kernel") (codes "if") 15
    ∷ [])) ∷ [])
unfolding known_words known_classes built_primitive_words found
no_last_pair = refl

-- USING: kernel combinators ; { { [ 1 ] 2 } } cond
no_pairs : List Form
no_pairs = f_using (tk (codes "kernel") 2 ∷ tk (codes "combinators") 3 ∷ []) ∷ run (array (array (quotation (literal (int (pos 1)) 8 ∷ []) 7 ∷ literal (int (pos 2)) 10 ∷ []) 6 ∷ []) 5 ∷ named (codes "cond") 13 ∷ []) ∷ []

-- what isn't cases to its end stays an array
no_pairs_read : resolves (no_pairs ∷ []) ≡ yes (top (items ((lit_arr 1, 5) ∷ word_at (codes "combinators") (codes "cond") 13 ∷ [])) ∷ [])
unfolding no_pairs known_words known_classes built_primitive_words found
no_pairs_read = refl

no_pairs_are_arrays : arrays_of (no_pairs ∷ []) ≡ (l_quot (items ((lit (int (pos 1)), 8) ∷ [])) ∷ l_int (pos 2) ∷ []) ∷ (l_arr 0 ∷ []) ∷ []
unfolding no_pairs known_words known_classes built_primitive_words found
no_pairs_are_arrays = refl
