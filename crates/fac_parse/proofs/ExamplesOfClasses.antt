-- Forms of classes, computed.
use Rattle.std.specs.Prelude.{◌≡◌, ℕ, List, [], ◌∷◌, map, Option, Some, None, codes}
use Rattle.std.proofs.Common.{refl, replicate}
use Rattle.fac_source.specs.declared.token.Token.{Token}
use Rattle.fac_source.specs.declared.tree.Element.TheVariants as element
use Rattle.fac_source.specs.declared.tree.Form.{Form}
use Rattle.fac_source.specs.declared.tree.Form.TheVariants.{Row, Items}
use Rattle.fac_source.specs.declared.tree.FormKind.TheVariants.{Tuple, Union, Singleton, Method, Maker}
use Rattle.fac_source.specs.declared.tree.DefinitionMark.TheVariants as mark
use Rattle.fac_source.specs.declared.tree.Part.TheVariants as part
use Rattle.fac_source.specs.declared.tree.Term.TheVariants as term
use Rattle.fac_effect.specs.declared.spelling.Spelling.TheVariants as spelled
use Rattle.fac_source.specs.FormRows.{kind_begun}
use Rattle.fac_effect.specs.Spellings.{spelling_of, has_integer_form, word_spelling, sign_spelling, reserved_spelling}
use Rattle.fac_parse.specs.Contexts.{behind}
use Rattle.fac_parse.specs.inner.Reader.{begun, tuple_slots, row, in_state, slots_step}
use Rattle.fac_parse.proofs.ExamplesOfArrays.{here, w, tree, plain, array}

-- the tree of tokens with these texts
abbrev read : List (List ℕ) → Option (List Form)
read texts = tree (map w texts)

abbrev x : Token
x = w (codes "x")

-- TUPLE: x ;
plain_tuple : read (codes "TUPLE:" ∷ codes "x" ∷ codes ";" ∷ []) ≡ Some (Row Tuple here (part.Name x ∷ part.Slots None [] here ∷ []) ∷ [])
unfolding spelling_of has_integer_form word_spelling sign_spelling kind_begun reserved_spelling
plain_tuple = refl

-- TUPLE: x < x x x ;
tuple_with_parent : read (codes "TUPLE:" ∷ codes "x" ∷ codes "<" ∷ codes "x" ∷ codes "x" ∷ codes "x" ∷ codes ";" ∷ []) ≡ Some (Row Tuple here (part.Name x ∷ part.Slots (Some (record { sign = here; class = x })) (x ∷ x ∷ []) here ∷ []) ∷ [])
unfolding spelling_of has_integer_form word_spelling sign_spelling kind_begun reserved_spelling
tuple_with_parent = refl

-- The sign before a parent is a name of a class, and no slot: TUPLE: < < < ; and TUPLE: x x < ; and TUPLE: x < x < ;
sign_is_class : read (codes "TUPLE:" ∷ codes "<" ∷ codes "<" ∷ codes "<" ∷ codes ";" ∷ []) ≡ Some (Row Tuple here (part.Name (w (codes "<")) ∷ part.Slots (Some (record { sign = here; class = w (codes "<") })) [] here ∷ []) ∷ [])
unfolding spelling_of has_integer_form word_spelling sign_spelling kind_begun reserved_spelling
sign_is_class = refl

sign_is_no_slot : read (codes "TUPLE:" ∷ codes "x" ∷ codes "x" ∷ codes "<" ∷ codes ";" ∷ []) ≡ None
unfolding spelling_of has_integer_form word_spelling sign_spelling kind_begun reserved_spelling
sign_is_no_slot = refl

one_parent : read (codes "TUPLE:" ∷ codes "x" ∷ codes "<" ∷ codes "x" ∷ codes "<" ∷ codes ";" ∷ []) ≡ None
unfolding spelling_of has_integer_form word_spelling sign_spelling kind_begun reserved_spelling
one_parent = refl

-- A tuple class has 64 slots of its own, and no more.
slot_64 : slots_step [] (begun Tuple here) None (replicate 63 x) spelled.Name x ≡ Some (in_state [] (row (begun Tuple here) (tuple_slots None (replicate 64 x))))
slot_64 = refl

slot_65 : slots_step [] (begun Tuple here) None (replicate 64 x) spelled.Name x ≡ None
slot_65 = refl

-- UNION: x t f ; and UNION: t ;
truth_in_union : read (codes "UNION:" ∷ codes "x" ∷ codes "t" ∷ codes "f" ∷ codes ";" ∷ []) ≡ Some (Row Union here (part.Name x ∷ part.Names (w (codes "t") ∷ w (codes "f") ∷ []) here ∷ []) ∷ [])
unfolding spelling_of has_integer_form word_spelling sign_spelling kind_begun reserved_spelling
truth_in_union = refl

truth_stays : read (codes "UNION:" ∷ codes "t" ∷ codes ";" ∷ []) ≡ None
unfolding spelling_of has_integer_form word_spelling sign_spelling kind_begun reserved_spelling
truth_stays = refl

-- SINGLETON: x C: x x
names_alone : read (codes "SINGLETON:" ∷ codes "x" ∷ codes "C:" ∷ codes "x" ∷ codes "x" ∷ []) ≡ Some (Row Singleton here (part.Name x ∷ []) ∷ Row Maker here (part.Name x ∷ part.Name x ∷ []) ∷ [])
unfolding spelling_of has_integer_form word_spelling sign_spelling kind_begun reserved_spelling
names_alone = refl

-- M: f x call-next-method ; inline x
method_of_f :
    read (codes "M:" ∷ codes "f" ∷ codes "x" ∷ codes "call-next-method" ∷ codes ";" ∷ codes "inline" ∷ codes "x" ∷ []) ≡
    Some (Row Method here (part.Name (w (codes "f")) ∷ part.Name x ∷ part.Items (element.Item (term.NextMethod here) ∷ []) here ∷ part.Marks (mark.Inline here ∷ []) ∷ []) ∷ Items (element.Item (term.Name x) ∷ []) ∷ [])
unfolding spelling_of has_integer_form word_spelling sign_spelling kind_begun reserved_spelling
method_of_f = refl

-- M: x x ; recursive
method_not_recursive : read (codes "M:" ∷ codes "x" ∷ codes "x" ∷ codes ";" ∷ codes "recursive" ∷ []) ≡ None
unfolding spelling_of has_integer_form word_spelling sign_spelling kind_begun reserved_spelling
method_not_recursive = refl

-- An item that is no element stands in an array only inside a quotation.
next_in_quotation : behind (plain ∷ array 7 ∷ []) (element.Item (term.NextMethod here)) ≡ Some (plain ∷ array 7 ∷ [])
next_in_quotation = refl

next_in_array : behind (array 7 ∷ []) (element.Item (term.NextMethod here)) ≡ None
next_in_array = refl
