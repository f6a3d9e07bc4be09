-- Which tables and code are those of an image, computed.
use Rattle.std.proofs.Common.{◌≡◌, ℕ, List, [], ◌∷◌, Bool, true, false, Some, None, refl}
use Rattle.std.specs.Prelude.{◌-◌, codes}
use Rattle.fac_lang.specs.declared.core_table.CoreWord.TheVariants.{If, Execute, Cond}
use Rattle.fac_lang.specs.Primitives.{built_count}
use Rattle.fac_code.specs.declared.image.Instr.{Instr}
use Rattle.fac_code.specs.declared.image.Instr.TheVariants.{Halt, Text, Array, Word, Quot, Prim, Callw, CallEffect, Callp, Jump, Branch, Ret, Generic, Next, Isa}
use Rattle.fac_code.specs.declared.image.Elem.{Elem}
use Rattle.fac_code.specs.declared.image.Elem.TheVariants as elem
use Rattle.fac_code.specs.declared.image.Action.{Action}
use Rattle.fac_code.specs.declared.image.Action.TheVariants.{Prim as prim_action, Core as core_action, Code as code_action, Itself as itself_action, Generic as generic_action}
use Rattle.fac_code.specs.declared.image.TemplateRow.{TemplateRow}
use Rattle.fac_code.specs.declared.image.WordRow.{WordRow}
use Rattle.fac_code.specs.declared.image.Tables.{Tables}
use Rattle.fac_code.specs.References.{is_image}

-- a template whose code begins here, with so many holes; its cell has no bound
abbrev template : ℕ → ℕ → TemplateRow
template entry holes = record { entry = entry; cells = 99 ∷ []; holes = holes; height = None }

abbrev does : Action → WordRow
does a = record { vocab = 0; name = 0; action = a; height = None }

-- tables without classes
abbrev plain_tables : List (List Elem) → List TemplateRow → List WordRow → List (List ℕ) → Tables
plain_tables arrays templates words texts = record { texts = texts; arrays = arrays; kinds = []; sets = []; templates = templates; words = words; generics = []; pairs = [] }

-- with a first instruction, a template's place, a word's action and a start; word 0 is `+`, word 1 is `if`, word 2 is the code at 3
abbrev with_parts : Instr → ℕ → Action → ℕ → Bool
with_parts i entry a start = is_image (plain_tables [] (template 3 0 ∷ template entry 2 ∷ []) (does (prim_action 26) ∷ does (core_action If) ∷ does (code_action 3) ∷ does a ∷ []) (codes "a" ∷ [])) (i ∷ Callw 2 false ∷ Halt ∷ Ret ∷ []) start

pub an_image : with_parts (Quot 0) 3 (code_action 0) 0 ≡ true
unfolding built_count
an_image = refl

-- the last place of the code is one of it, and the next isn't
pub last_places : with_parts (Quot 0) 3 (code_action 3) 3 ≡ true
unfolding built_count
last_places = refl

start_behind : with_parts (Quot 0) 3 (code_action 0) 4 ≡ false
unfolding built_count
start_behind = refl

template_behind : with_parts (Quot 0) 4 (code_action 0) 0 ≡ false
unfolding built_count
template_behind = refl

word_behind : with_parts (Quot 0) 3 (code_action 4) 0 ≡ false
unfolding built_count
word_behind = refl

-- a quotation has no holes, and is of a template that is there
quotation_with_holes : with_parts (Quot 1) 3 (code_action 0) 0 ≡ false
unfolding built_count
quotation_with_holes = refl

no_template : with_parts (Quot 2) 3 (code_action 0) 0 ≡ false
unfolding built_count
no_template = refl

-- a text is one that is there
a_text : with_parts (Text 0) 3 (code_action 0) 0 ≡ true
unfolding built_count
a_text = refl

no_text : with_parts (Text 1) 3 (code_action 0) 0 ≡ false
unfolding built_count
no_text = refl

-- a word as a value is one that is there, also the one that pushes itself
a_word : with_parts (Word 3) 3 itself_action 0 ≡ true
unfolding built_count
a_word = refl

no_word : with_parts (Word 4) 3 itself_action 0 ≡ false
unfolding built_count
no_word = refl

-- a word's name is a text that is there
no_name : is_image (plain_tables [] [] (does itself_action ∷ []) []) (Halt ∷ []) 0 ≡ false
unfolding built_count
no_name = refl

-- only a word that does code is called
call_of_a_primitive : with_parts (Callw 0 true) 3 (code_action 0) 0 ≡ false
unfolding built_count
call_of_a_primitive = refl

call_of_a_core_word : with_parts (Callw 1 true) 3 (code_action 0) 0 ≡ false
unfolding built_count
call_of_a_core_word = refl

call_of_no_word : with_parts (Callw 4 true) 3 (code_action 0) 0 ≡ false
unfolding built_count
call_of_no_word = refl

-- primitives and core words that the machine has
a_primitive : with_parts (Prim (built_count - 1)) 3 (prim_action 22) 0 ≡ true
unfolding built_count
a_primitive = refl

word_of_no_primitive : with_parts (Quot 0) 3 (prim_action built_count) 0 ≡ false
unfolding built_count
word_of_no_primitive = refl

no_primitive : with_parts (Prim built_count) 3 (code_action 0) 0 ≡ false
unfolding built_count
no_primitive = refl

word_of_a_core_word : with_parts (Quot 0) 3 (core_action Execute) 0 ≡ true
unfolding built_count
word_of_a_core_word = refl

word_of_no_core_word : with_parts (Quot 0) 3 (core_action Cond) 0 ≡ false
unfolding built_count
word_of_no_core_word = refl

-- a height has no bound
heights : with_parts (CallEffect (record { ins = 4000000000; outs = None }) true) 3 (code_action 0) 0 ≡ true
unfolding built_count
heights = refl

-- no image is without code
no_code : is_image (plain_tables [] [] [] []) [] 0 ≡ false
unfolding built_count
no_code = refl

-- with these literal arrays, of which the code names one; template 0 keeps a value and template 1 keeps none
abbrev with_arrays : List (List Elem) → ℕ → Bool
with_arrays arrays k = is_image (plain_tables arrays (template 0 0 ∷ record { entry = 0; cells = []; holes = 0; height = None } ∷ []) (does itself_action ∷ []) (codes "a" ∷ [])) (Array k ∷ Halt ∷ []) 0

-- all that an element can be
pub with_elements : with_arrays ([] ∷ (elem.Text 0 ∷ elem.Array 0 ∷ elem.Word 0 ∷ elem.Template 1 ∷ elem.True ∷ []) ∷ []) 1 ≡ true
unfolding built_count
with_elements = refl

no_array : with_arrays ([] ∷ []) 1 ≡ false
unfolding built_count
no_array = refl

-- an element is an array only where that stands before
array_in_itself : with_arrays ([] ∷ (elem.Array 1 ∷ []) ∷ []) 0 ≡ false
unfolding built_count
array_in_itself = refl

element_that_keeps : with_arrays ((elem.Template 0 ∷ []) ∷ []) 0 ≡ false
unfolding built_count
element_that_keeps = refl

-- Classes: kind 8 has these slots, and kind 9 is a singleton; the sets are these; words stand with kinds so, and word 1 is the generic, whose method has number 7 and this set
abbrev with_classes : List ℕ → List (List ℕ) → List (ℕ × ℕ) → ℕ → Instr → Bool
with_classes slots sets pairs set i =
    is_image (record {
      texts = codes "a" ∷ [];
      arrays = [];
      kinds = record { vocab = 0; name = 0; slots = Some slots } ∷ record { vocab = 0; name = 0; slots = None } ∷ [];
      sets = sets;
      templates = [];
      words = does itself_action ∷ does (generic_action 0) ∷ [];
      generics = record { word = 1; methods = record { number = 7; set = set; entry = 1 } ∷ [] } ∷ [];
      pairs = pairs;
    }) (i ∷ Halt ∷ []) 0

pub classes : with_classes (0 ∷ 0 ∷ []) ((0 ∷ 8 ∷ 9 ∷ []) ∷ [] ∷ []) ((0, 9) ∷ (1, 8) ∷ []) 1 (Next 7 true) ≡ true
unfolding built_count
classes = refl

slot_without_name : with_classes (0 ∷ 1 ∷ []) ([] ∷ []) [] 0 Halt ≡ false
unfolding built_count
slot_without_name = refl

kind_past_the_last : with_classes [] ((10 ∷ []) ∷ []) [] 0 Halt ≡ false
unfolding built_count
kind_past_the_last = refl

kind_twice : with_classes [] ((3 ∷ 3 ∷ []) ∷ []) [] 0 Halt ≡ false
unfolding built_count
kind_twice = refl

-- no word stands with a kind that every program has
kind_without_row : with_classes [] ([] ∷ []) ((0, 7) ∷ []) 0 Halt ≡ false
unfolding built_count
kind_without_row = refl

-- words that stand with kinds ascend
words_descend : with_classes [] ([] ∷ []) ((1, 8) ∷ (0, 9) ∷ []) 0 Halt ≡ false
unfolding built_count
words_descend = refl

no_word_with_a_kind : with_classes [] ([] ∷ []) ((2, 8) ∷ []) 0 Halt ≡ false
unfolding built_count
no_word_with_a_kind = refl

no_set : with_classes [] ([] ∷ []) [] 1 Halt ≡ false
unfolding built_count
no_set = refl

-- a method is named by its number, and not by its place
no_method : with_classes [] ([] ∷ []) [] 0 (Next 0 true) ≡ false
unfolding built_count
no_method = refl

no_generic : with_classes [] ([] ∷ []) [] 0 (Generic 1 true) ≡ false
unfolding built_count
no_generic = refl

set_past_the_last : with_classes [] ([] ∷ []) [] 0 (Isa 1) ≡ false
unfolding built_count
set_past_the_last = refl

-- a call goes to any place of the code, and a jump to one behind its own
call_backward : with_parts (Callp 0 true) 3 (code_action 0) 0 ≡ true
unfolding built_count
call_backward = refl

call_behind : with_parts (Callp 4 false) 3 (code_action 0) 0 ≡ false
unfolding built_count
call_behind = refl

jump_forward : with_parts (Jump 1) 3 (code_action 0) 0 ≡ true
unfolding built_count
jump_forward = refl

jump_to_itself : with_parts (Jump 0) 3 (code_action 0) 0 ≡ false
unfolding built_count
jump_to_itself = refl

branch_behind : with_parts (Branch 4) 3 (code_action 0) 0 ≡ false
unfolding built_count
branch_behind = refl
