-- Plain code, computed: that of a small program, what the machine does with it, and its code as a case of the relation.
use Rattle.std.proofs.Common.{◌≡◌, ℕ, zero, suc, List, [], ◌∷◌, ◌++◌, length, map, true, false, refl, Option, Some, None, arith}
use Rattle.std.specs.Prelude.{pos, codes}
use Rattle.fac_base.specs.Signatures.{signature, Inputs, no_inputs, value, never, leaves}
use Rattle.fac_lang.specs.declared.error_name.ErrorName.{ErrorName}
use Rattle.fac_lang.specs.declared.error_name.ErrorName.TheVariants.{WrongValues}
use Rattle.fac_base.specs.declared.height.Height.{Height}
use Rattle.fac_lang.specs.declared.phrase.Template.{Template}
use Rattle.fac_lang.specs.declared.program.Lit.{Lit}
use Rattle.fac_lang.specs.declared.program.Lit.TheVariants.{Int as l_int, True as l_yes, Str as l_str, Arr as l_arr, Wref as l_word, Made as l_made}
use Rattle.fac_lang.specs.declared.program.Program.{Program}
use Rattle.fac_lang.specs.declared.program.ClassDef.{ClassDef}
use Rattle.fac_lang.specs.declared.program.Shape.{Shape}
use Rattle.fac_lang.specs.declared.program.Shape.TheVariants.{Kind as built_in, Tuple as tuple_class}
use Rattle.fac_lang.specs.declared.program.WordDef.{WordDef}
use Rattle.fac_lang.specs.declared.program.Sort.{Sort}
use Rattle.fac_lang.specs.declared.core_table.CoreWord.TheVariants.{Call as w_call, Dip as w_dip, If as w_if, Execute as w_execute, Boa as w_boa, Cond as w_cond}
use Rattle.fac_lang.specs.declared.program.Sort.TheVariants.{Prim as prim, Core as core, Body as body, Itself as itself, Class as class, Isa as isa, Getter as getter, Generic as generic, Method as method}
use Rattle.fac_lang.specs.Phrases.{int, str, wrd, Phrase, end, then, Item, lit, lit_arr, quot, word, bind, local, fry, hole, call_effect, execute_effect, next_method, held}
use Rattle.fac_lang.specs.Substitution.{put_holes}
use Rattle.fac_lang.specs.Primitives.{built_count, prim_numbered, prim_fn}
use Rattle.fac_code.specs.Code.{has_built_code}
use Rattle.fac_code.specs.References.{refers}
use Rattle.fac_lang.specs.Meaning.{nowhere}
use Rattle.fac_locals.specs.declared.closing.Closed.{Closed}
use Rattle.fac_locals.proofs.ClosedForms.{made_words, made_templates}
use Rattle.fac_code.specs.declared.image.Instr.TheVariants.{Halt, Int, Text, Array, Word, Quot, Fry, Bind, Local, Prim, Callw, Call, Dip, If, Execute, CallEffect, ExecuteEffect, Ret, Boa, Generic, Next}
use Rattle.fac_code.specs.declared.image.Elem.TheVariants as elem
use Rattle.fac_code.specs.declared.image.Action.TheVariants as action
use Rattle.fac_code.specs.declared.image.Action.{Action}
use Rattle.fac_code.specs.declared.image.TemplateRow.{TemplateRow}
use Rattle.fac_code.specs.declared.image.WordRow.{WordRow}
use Rattle.fac_code.specs.declared.image.Image.{Image}
use Rattle.fac_store.specs.MachineValues.{MValue, m_plain}
use Rattle.fac_machine.specs.Machine.{Entry, resume, End, done, failed, spent, steps, first_world, starting}
use Rattle.fac_emit.specs.ProgramTexts.{text_levels, program_texts}
use Rattle.fac_emit.specs.ProgramTables.{program_kinds, program_sets, program_pairs}
use Rattle.fac_emit.specs.ProgramCode.{core_action, program_code, program_templates, program_words, program_generics, program_arrays, program_tables}
use Rattle.fac_carry.specs.MachineView.{template_phrases, value_view, values_view}
use Rattle.fac_carry.specs.Symbols.{here, off, cells, k_phrase, k_cur, k_com, do_phrase, top_is, needs_none, needs_more, all_none, all_more}
use Rattle.fac_carry.specs.Expanded.{Code, c_last, c_make, c_end, c_off, c_int, c_prim, c_bind, c_fry, c_word, c_call, c_dip}

abbrev items : List Item → Phrase
items [] = end
items (i ∷ is) = then i nowhere (items is)

abbrev number : ℕ → Item
number n = lit (int (pos n))

abbrev named : Sort → WordDef
named s = record { name = record { vocab = []; name = [] }; sort = s; effect = signature None no_inputs never; inline = false; recursive = false; place = nowhere }

-- : w [ 2 ] [ [ 3 ] call + ] compose ;   1 w [ 4 ] dip call
abbrev source : List WordDef
source =
    named (prim 26) ∷ named (core w_call) ∷ named (core w_dip) ∷ named (prim 17) ∷ named (body (items (quot (items (number 2 ∷ [])) ∷ quot (items (quot (items (number 3 ∷ [])) ∷ word 1 ∷ word 0 ∷ [])) ∷ word 3 ∷ []))) ∷ named
    (body (items (number 1 ∷ word 4 ∷ quot (items (number 4 ∷ [])) ∷ word 2 ∷ word 1 ∷ []))) ∷ []

-- a closed program without classes
abbrev without_classes : List WordDef → List (List Lit) → ℕ → List Template → Closed
without_classes words arrays top templates = record { program = record { words = words; arrays = arrays; classes = []; top = top }; templates = templates; slots = []; start = 0; counted = refl }

-- that of words without literal arrays
abbrev closed_from : List WordDef → ℕ → Closed
closed_from words top = without_classes (made_words words []) [] top (made_templates words [])

abbrev closed : Closed
closed = closed_from source 5

-- the four quotations, the one inside another behind it, then the word's phrase and the top-level phrase
pub code_is : program_code closed ≡ Int (pos 2) ∷ Ret ∷ Quot 2 ∷ Call false ∷ Prim 26 ∷ Ret ∷ Int (pos 3) ∷ Ret ∷ Int (pos 4) ∷ Ret ∷ Quot 0 ∷ Quot 1 ∷ Prim 17 ∷ Ret ∷ Int (pos 1) ∷ Callw 4 false ∷ Quot 3 ∷ Dip ∷ Call false ∷ Halt ∷ []
code_is = refl

-- what takes and leaves so many values
abbrev from : ℕ → ℕ → Height
from i o = record { ins = i; outs = Some o }

abbrev heights : List (Option Height)
heights = Some (from 0 1) ∷ Some (from 1 1) ∷ Some (from 0 1) ∷ Some (from 0 1) ∷ []

abbrev quotation_row : ℕ → Option Height → TemplateRow
quotation_row at h = record { entry = at; cells = []; holes = 0; height = h }

pub template_rows_are : program_templates closed heights ≡ quotation_row 0 (Some (from 0 1)) ∷ quotation_row 2 (Some (from 1 1)) ∷ quotation_row 6 (Some (from 0 1)) ∷ quotation_row 8 (Some (from 0 1)) ∷ []
template_rows_are = refl

-- The words here have the empty text, which is number 0, as their vocabularies and names, and are declared never to return. A core word and the top-level phrase promise nothing.
abbrev plain_row : Action → WordRow
plain_row a = record { vocab = 0; name = 0; action = a; height = Some (record { ins = 0; outs = None }) }

abbrev bare_row : Action → WordRow
bare_row a = record { vocab = 0; name = 0; action = a; height = None }

pub word_rows_are : program_words closed ≡ plain_row (action.Prim 26) ∷ bare_row (action.Core w_call) ∷ bare_row (action.Core w_dip) ∷ plain_row (action.Prim 17) ∷ plain_row (action.Code 10) ∷ bare_row (action.Code 14) ∷ []
unfolding program_texts text_levels
word_rows_are = refl

pub is_built : has_built_code (program_code closed) ≡ true
unfolding built_count
is_built = refl

pub words_built : refers (program_tables closed heights) (program_code closed) 14 ≡ true
unfolding built_count program_texts text_levels
words_built = refl

abbrev image : Image
image = record { arrays = []; kinds = []; sets = []; generics = []; pairs = []; templates = program_templates closed heights; words = program_words closed; texts = program_texts closed; code = program_code closed; start = 14; built = is_built; refers = words_built }

-- the stack and the ticks left where it is done
abbrev ended : Option End → Option (List MValue × ℕ)
ended (Some (done s n)) = Some (s.stack, n)
ended _ = None

-- 1 4 [ 2 [ 3 ] call + ] call, with the ticks of `w`, `dip` and what `compose` made
pub ends_so : ended (steps image 40 (starting image [] (first_world image [])) 20) ≡ Some (m_plain (int (pos 5)) ∷ m_plain (int (pos 4)) ∷ m_plain (int (pos 1)) ∷ [], 5)
unfolding prim_fn prim_numbered
ends_so = refl

-- the program of which this is the code
abbrev opened : Program
opened = record { words = source; arrays = []; classes = []; top = 5 }

-- Nothing of a callable that was put off is on the machine's stack.
pub cells_are : cells (off (k_cur (off (k_phrase end)) (k_com (k_phrase end) (k_cur (off (k_phrase end)) (k_phrase end))))) ≡ 0
cells_are = refl

-- [ 2 ] [ .. ] compose, from the word's place: both quotations are put off and made at once, so `compose` has its two values
pub word_code : Code opened image (template_phrases opened) [] (Some Ret) [] 0 [] (do_phrase (items (quot (items (number 2 ∷ [])) ∷ quot (items (quot (items (number 3 ∷ [])) ∷ word 1 ∷ word 0 ∷ [])) ∷ word 3 ∷ [])) ∷ []) 10
unfolding template_phrases prim_numbered
word_code =
    c_off (c_make 0 (quotation_row 0 (Some (from 0 1))) [] refl refl refl refl
    (c_off (c_make 1 (quotation_row 2 (Some (from 1 1))) [] refl refl refl refl
    (c_prim 3 17 _ refl refl refl (needs_more top_is (needs_more top_is needs_none)) refl
    (c_end (c_last (all_more all_none) refl))))))

-- 1 w [ 4 ] dip call, from its place: behind a call nothing of the stack is known
pub phrase_code : Code opened image (template_phrases opened) [] (Some Halt) [] 0 [] (do_phrase (items (number 1 ∷ word 4 ∷ quot (items (number 4 ∷ [])) ∷ word 2 ∷ word 1 ∷ [])) ∷ []) 14
unfolding template_phrases program_texts text_levels
phrase_code =
    c_int (pos 1) refl
    (c_word 4 10 (record { below = omega arith; runs = tt; row = plain_row (action.Code 10); there = refl; does = refl }) (all_more all_none) refl
    (c_off (c_make 3 (quotation_row 8 (Some (from 0 1))) [] refl refl refl refl
    (c_dip 2 refl (all_more all_none) refl
    (c_call 1 refl all_none refl
    (c_end (c_last all_none refl)))))))

-- A local in a quotation and in a fry: 1 :> x [ x 2 + ] call   5 '[ _ x + ] call   where x is local 7
abbrev capturing : Phrase
capturing = items (number 1 ∷ bind 7 ∷ quot (items (local 7 ∷ number 2 ∷ word 0 ∷ [])) ∷ word 1 ∷ number 5 ∷ fry (items (hole 0 ∷ local 7 ∷ word 0 ∷ [])) 1 ∷ word 1 ∷ [])

abbrev capturing_source : List WordDef
capturing_source = named (prim 26) ∷ named (core w_call) ∷ named (body capturing) ∷ []

abbrev capturing_closed : Closed
capturing_closed = closed_from capturing_source 2

-- in the frame of the fry what it captures stands first, and what it takes behind it
capturing_code : program_code capturing_closed ≡ Local 0 ∷ Int (pos 2) ∷ Prim 26 ∷ Ret ∷ Local 1 ∷ Local 0 ∷ Prim 26 ∷ Ret ∷ Int (pos 1) ∷ Bind ∷ Quot 0 ∷ Call false ∷ Int (pos 5) ∷ Fry 1 ∷ Call false ∷ Halt ∷ []
capturing_code = refl

capturing_rows : program_templates capturing_closed [] ≡ record { entry = 0; cells = 0 ∷ []; holes = 0; height = None } ∷ record { entry = 4; cells = 0 ∷ []; holes = 1; height = None } ∷ []
capturing_rows = refl

pub capturing_built : has_built_code (program_code capturing_closed) ≡ true
unfolding built_count
capturing_built = refl

pub capturing_refers : refers (program_tables capturing_closed []) (program_code capturing_closed) 8 ≡ true
unfolding built_count program_texts text_levels
capturing_refers = refl

abbrev capturing_image : Image
capturing_image =
    record {
      arrays = [];
      kinds = [];
      sets = [];
      generics = [];
      pairs = [];
      templates = program_templates capturing_closed [];
      words = program_words capturing_closed;
      texts = program_texts capturing_closed;
      code = program_code capturing_closed;
      start = 8;
      built = capturing_built;
      refers = capturing_refers;
    }

-- 1 2 + and 5 1 +, with a tick for the binding, for each local, and for the fry
capturing_ends : ended (steps capturing_image 40 (starting capturing_image [] (first_world capturing_image [])) 20) ≡ Some (m_plain (int (pos 6)) ∷ m_plain (int (pos 3)) ∷ [], 7)
unfolding prim_fn prim_numbered
capturing_ends = refl

abbrev capturing_opened : Program
capturing_opened = record { words = capturing_source; arrays = []; classes = []; top = 2 }

-- what a fry of one hole is made of, with a value in it
fried : (v : MValue) (us : List MValue) → length us ≡ 1 → put_holes (map held (values_view (template_phrases capturing_opened) us)) (items (hole 0 ∷ held (value_view (template_phrases capturing_opened) v) ∷ word 0 ∷ [])) ≡
    template_phrases capturing_opened 1 (values_view (template_phrases capturing_opened) ((v ∷ []) ++ us))
unfolding template_phrases
fried v [] n = absurd (omega (arith, n))
fried v (u ∷ []) n = refl
fried v (u ∷ w ∷ us) n = absurd (omega (arith, n))

-- its code from its place: behind the binding it stands for the rest whatever value was bound
pub capturing_stands : Code capturing_opened capturing_image (template_phrases capturing_opened) [] (Some Halt) [] 0 [] (do_phrase capturing ∷ []) 8
unfolding template_phrases
capturing_stands =
    c_int (pos 1) refl
    (c_bind (needs_more top_is needs_none) refl (λ v whole.
    c_off (c_make 0 (record { entry = 0; cells = 0 ∷ []; holes = 0; height = None }) (v ∷ []) refl refl refl refl
    (c_call 1 refl (all_more all_none) refl
    (c_int (pos 5) refl
    (c_fry 1 (record { entry = 4; cells = 0 ∷ []; holes = 1; height = None }) (v ∷ []) _ refl refl refl (fried v) (needs_more top_is needs_none)
    (c_call 1 refl (all_more all_none) refl
    (c_end (c_last all_none refl)))))))))

-- Strings and words as values, where word 0 is a symbol: `"a" red \ red "a"`. The texts are the words' vocabularies and names, and the string, each once.
abbrev written : Closed
written = without_classes (record (named itself) { name = record { vocab = []; name = codes "red" } } ∷ named (body (items (lit (str (codes "a")) ∷ word 0 ∷ lit (wrd 0) ∷ lit (str (codes "a")) ∷ []))) ∷ []) [] 1 []

written_code : program_code written ≡ Text 2 ∷ Word 0 ∷ Word 0 ∷ Text 2 ∷ Halt ∷ []
unfolding program_texts text_levels
written_code = refl

written_texts : program_texts written ≡ [] ∷ codes "red" ∷ codes "a" ∷ []
unfolding program_texts text_levels
written_texts = refl

written_rows : program_words written ≡ record (plain_row action.Itself) { name = 1 } ∷ bare_row (action.Code 0) ∷ []
unfolding program_texts text_levels
written_rows = refl

-- A quotation's strings stand where it does: "a" [ "b" [ "c" ] "a" ] "d"
abbrev quoting_source : List WordDef
quoting_source = named (body (items (lit (str (codes "a")) ∷ quot (items (lit (str (codes "b")) ∷ quot (items (lit (str (codes "c")) ∷ [])) ∷ lit (str (codes "a")) ∷ [])) ∷ lit (str (codes "d")) ∷ []))) ∷ []

abbrev quoting : Closed
quoting = closed_from quoting_source 0

quoting_texts : program_texts quoting ≡ [] ∷ codes "a" ∷ codes "b" ∷ codes "c" ∷ codes "d" ∷ []
unfolding program_texts text_levels
quoting_texts = refl

-- A literal array, closed: `{ { t } 1 "b" [ .. ] red }`, whose quotation is template 0. Its string is a text where the array stands.
abbrev boxed : Closed
boxed = without_classes (record (named itself) { name = record { vocab = []; name = codes "red" } } ∷ named (body (items (lit (str (codes "a")) ∷ lit_arr 1 ∷ []))) ∷ []) ((l_yes ∷ []) ∷ (l_arr 0 ∷ l_int (pos 1) ∷ l_str (codes "b") ∷ l_made 0 ∷ l_word 0 ∷ []) ∷ []) 1 []

boxed_code : program_code boxed ≡ Text 2 ∷ Array 1 ∷ Halt ∷ []
unfolding program_texts text_levels
boxed_code = refl

boxed_arrays : program_arrays boxed ≡ (elem.True ∷ []) ∷ (elem.Array 0 ∷ elem.Int (pos 1) ∷ elem.Text 3 ∷ elem.Template 0 ∷ elem.Word 0 ∷ []) ∷ []
unfolding program_texts text_levels
boxed_arrays = refl

boxed_texts : program_texts boxed ≡ [] ∷ codes "red" ∷ codes "a" ∷ codes "b" ∷ []
unfolding program_texts text_levels
boxed_texts = refl

-- A tuple class and a generic with two methods, on `object`, which has all kinds, and on `point`, which has one and so stands first:
-- TUPLE: point x ;   GENERIC: size   M: object size drop 1 ;   M: point size call-next-method 7 + ;   5 point boa size
-- Text 1 is the name of the class, and text 2 that of its slot.
abbrev figures : List WordDef
figures =
    named (core w_boa) ∷ named (prim 0) ∷ named (prim 26) ∷ named (class 1) ∷ named (isa 1) ∷ named (getter (codes "x")) ∷ named generic ∷ named (method 0 6 (items (word 1 ∷ number 1 ∷ []))) ∷ named
    (method 1 6 (items (next_method ∷ number 7 ∷ word 2 ∷ []))) ∷ named (body (items (number 5 ∷ lit (wrd 3) ∷ word 0 ∷ word 6 ∷ []))) ∷ []

abbrev class_named : List ℕ → Shape → ClassDef
class_named name shape = record { name = record { vocab = []; name = name }; shape = shape }

abbrev figure : Closed
figure =
    record {
      program = record { words = made_words figures []; arrays = []; classes = class_named (codes "object") (built_in 11) ∷ class_named (codes "point") (tuple_class None (codes "x" ∷ [])) ∷ []; top = 9 };
      templates = [];
      slots = 0 ∷ 1 ∷ [];
      start = 0;
      counted = refl;
    }

figure_code : program_code figure ≡ Prim 0 ∷ Int (pos 1) ∷ Ret ∷ Next 8 false ∷ Int (pos 7) ∷ Prim 26 ∷ Ret ∷ Int (pos 5) ∷ Word 3 ∷ Boa ∷ Generic 0 false ∷ Halt ∷ []
figure_code = refl

figure_rows :
    program_words figure ≡ bare_row (action.Core w_boa) ∷ plain_row (action.Prim 0) ∷ plain_row (action.Prim 26) ∷ plain_row action.Itself ∷ plain_row (action.Isa 1) ∷ plain_row (action.Get 2) ∷ plain_row (action.Generic 0) ∷ plain_row (action.Code 0) ∷ plain_row (action.Code 3) ∷ bare_row (action.Code 7) ∷ []
unfolding program_texts text_levels
figure_rows = refl

figure_texts : program_texts figure ≡ [] ∷ codes "point" ∷ codes "x" ∷ codes "object" ∷ []
unfolding program_texts text_levels
figure_texts = refl

figure_kinds : program_kinds figure ≡ record { vocab = 0; name = 1; slots = Some (2 ∷ []) } ∷ []
unfolding program_texts text_levels
figure_kinds = refl

figure_pairs : program_pairs figure.program ≡ (3, 8) ∷ []
figure_pairs = refl

figure_sets : program_sets figure.program ≡ (0 ∷ 1 ∷ 2 ∷ 3 ∷ 4 ∷ 5 ∷ 6 ∷ 7 ∷ 8 ∷ []) ∷ (8 ∷ []) ∷ []
figure_sets = refl

figure_generics : program_generics figure ≡ record { word = 6; methods = record { number = 8; set = 1; entry = 3 } ∷ record { number = 7; set = 0; entry = 0 } ∷ [] } ∷ []
figure_generics = refl

figure_built : has_built_code (program_code figure) ≡ true
unfolding built_count
figure_built = refl

figure_refers : refers (program_tables figure []) (program_code figure) 7 ≡ true
unfolding built_count program_texts text_levels
figure_refers = refl

abbrev figure_image : Image
figure_image =
    record {
      arrays = [];
      kinds = program_kinds figure;
      sets = program_sets figure.program;
      templates = [];
      words = program_words figure;
      generics = program_generics figure;
      pairs = program_pairs figure.program;
      texts = program_texts figure;
      code = program_code figure;
      start = 7;
      built = figure_built;
      refers = figure_refers;
    }

-- the method on `point` is entered, and behind it that on `object`
figure_ends : ended (steps figure_image 40 (starting figure_image [] (first_world figure_image [])) 20) ≡ Some (m_plain (int (pos 8)) ∷ [], 11)
unfolding prim_fn prim_numbered
figure_ends = refl

-- `cond` as a word
cond_acts : core_action w_cond ≡ action.Itself
cond_acts = refl

-- Calls that are tested, and words that are executed, one of them a primitive:
-- : w ( x -- y ) 1 + ;   3 [ 1 + ] call( x -- y ) \ w execute( x -- y ) 4 \ + execute( x y -- z ) \ w execute
abbrev taking : ℕ → Inputs
taking zero = no_inputs
taking (suc n) = value (codes "x") (taking n)

-- a word with one output
abbrev declared : ℕ → Sort → WordDef
declared ins s = record (named s) { effect = signature None (taking ins) (leaves None (codes "y" ∷ [])) }

abbrev tested_source : List WordDef
tested_source =
    declared 2 (prim 26) ∷ named (core w_execute) ∷ declared 1 (body (items (number 1 ∷ word 0 ∷ []))) ∷ named
    (body (items (number 3 ∷ quot (items (number 1 ∷ word 0 ∷ [])) ∷ call_effect (from 1 1) ∷ lit (wrd 2) ∷ execute_effect (from 1 1) ∷ number 4 ∷ lit (wrd 0) ∷ execute_effect (from 2 1) ∷ lit (wrd 2) ∷ word 1 ∷ []))) ∷ []

abbrev tested : Closed
tested = closed_from tested_source 3

abbrev tested_heights : List (Option Height)
tested_heights = Some (from 1 1) ∷ []

tested_code : program_code tested ≡
    Int (pos 1) ∷ Prim 26 ∷ Ret ∷ Int (pos 1) ∷ Prim 26 ∷ Ret ∷ Int (pos 3) ∷ Quot 0 ∷ CallEffect (from 1 1) false ∷ Word 2 ∷ ExecuteEffect (from 1 1) false ∷ Int (pos 4) ∷ Word 0 ∷ ExecuteEffect (from 2 1) false ∷ Word 2 ∷ Execute false ∷ Halt ∷ []
tested_code = refl

tested_rows : program_words tested ≡ record (bare_row (action.Prim 26)) { height = Some (from 2 1) } ∷ bare_row (action.Core w_execute) ∷ record (bare_row (action.Code 3)) { height = Some (from 1 1) } ∷ bare_row (action.Code 6) ∷ []
unfolding program_texts text_levels
tested_rows = refl

tested_built : has_built_code (program_code tested) ≡ true
unfolding built_count
tested_built = refl

tested_refers : (hs : List (Option Height)) → refers (program_tables tested hs) (program_code tested) 6 ≡ true
unfolding built_count program_texts text_levels
tested_refers hs = refl

-- with these effects of the templates
abbrev tested_image : List (Option Height) → Image
tested_image hs =
    record {
      arrays = [];
      kinds = [];
      sets = [];
      generics = [];
      pairs = [];
      templates = program_templates tested hs;
      words = program_words tested;
      texts = program_texts tested;
      code = program_code tested;
      start = 6;
      built = tested_built;
      refers = tested_refers hs;
    }

-- a word that is executed takes a tick of its own
tested_ends : ended (steps (tested_image tested_heights) 60 (starting (tested_image tested_heights) [] (first_world (tested_image tested_heights) [])) 20) ≡ Some (m_plain (int (pos 10)) ∷ [], 1)
unfolding prim_fn prim_numbered
tested_ends = refl

-- the name and the word of an error, with the ticks left
abbrev failing : Option End → Option (ErrorName × ℕ × ℕ)
failing (Some (failed e s n)) = Some (e.name, e.word, n)
failing _ = None

-- a quotation of another effect, and one of none: `call(` fails at its own tick
unfit_ends : failing (steps (tested_image (Some (from 0 1) ∷ [])) 60 (starting (tested_image (Some (from 0 1) ∷ [])) [] (first_world (tested_image (Some (from 0 1) ∷ [])) [])) 20) ≡ Some (WrongValues, 4294967294, 17)
unfit_ends = refl

unknown_ends : failing (steps (tested_image []) 60 (starting (tested_image []) [] (first_world (tested_image []) [])) 20) ≡ Some (WrongValues, 4294967294, 17)
unknown_ends = refl

-- The last item of each phrase but the top-level one is a tail call where it calls. A `dip` isn't one, since its value comes back, nor is a call before another item:
-- : w w ;   : .. call ;   : .. if ;   : .. execute ;   : .. call( x -- y ) ;   : .. execute( x -- y ) ;   : .. size ;   M: .. size call-next-method ;   : .. dip ;   : .. w 1 ;   w
abbrev ending_in : Item → WordDef
ending_in i = named (body (items (i ∷ [])))

abbrev tails : Closed
tails =
    closed_from (named (core w_call) ∷ named (core w_if) ∷ named (core w_execute) ∷ named (core w_dip) ∷ named generic ∷
    ending_in (word 5) ∷ ending_in (word 0) ∷ ending_in (word 1) ∷ ending_in (word 2) ∷ ending_in (call_effect (from 1 1)) ∷ ending_in (execute_effect (from 1 1)) ∷ ending_in (word 4) ∷ named (method 0 4 (items (next_method ∷ []))) ∷ ending_in (word 3) ∷
    named (body (items (word 5 ∷ number 1 ∷ []))) ∷ ending_in (word 5) ∷ []) 15

tails_code : program_code tails ≡
    Callw 5 true ∷ Ret ∷ Call true ∷ Ret ∷ If true ∷ Ret ∷ Execute true ∷ Ret ∷ CallEffect (from 1 1) true ∷ Ret ∷ ExecuteEffect (from 1 1) true ∷ Ret ∷ Generic 0 true ∷ Ret ∷ Next 12 true ∷ Ret ∷ Dip ∷ Ret ∷
    Callw 5 false ∷ Int (pos 1) ∷ Ret ∷ Callw 5 false ∷ Halt ∷ []
tails_code = refl

-- So a word that calls itself last leaves nothing: : w [ w ] call ;   w
abbrev endless : Closed
endless = closed_from (named (core w_call) ∷ named (body (items (quot (items (word 1 ∷ [])) ∷ word 0 ∷ []))) ∷ ending_in (word 1) ∷ []) 2

endless_code : program_code endless ≡ Callw 1 true ∷ Ret ∷ Quot 0 ∷ Call true ∷ Ret ∷ Callw 1 false ∷ Halt ∷ []
endless_code = refl

pub endless_built : has_built_code (program_code endless) ≡ true
endless_built = refl

pub endless_refers : refers (program_tables endless []) (program_code endless) 5 ≡ true
unfolding program_texts text_levels
endless_refers = refl

abbrev endless_image : Image
endless_image =
    record {
      arrays = [];
      kinds = [];
      sets = [];
      generics = [];
      pairs = [];
      templates = program_templates endless [];
      words = program_words endless;
      texts = program_texts endless;
      code = program_code endless;
      start = 5;
      built = endless_built;
      refers = endless_refers;
    }

-- the return entries where the ticks are spent
abbrev entries_left : Option End → Option (List Entry)
entries_left (Some (spent s)) = Some s.returns
entries_left _ = None

-- after a thousand ticks there is the top-level phrase's entry alone
endless_entries : entries_left (steps endless_image 1001 (starting endless_image [] (first_world endless_image [])) 1000) ≡ Some (resume 6 [] ∷ [])
endless_entries = refl
