-- Trees, which are flat and have all tokens, as they are read for their names.
use Rattle.std.specs.Prelude.{List, [], ◌∷◌, map, Option, None, Bool, true, false}
use Rattle.std.specs.Option.{option_map}
use Rattle.fac_base.specs.Signatures.{Signature, signature, no_inputs, leaves}
use Rattle.fac_source.specs.declared.tree.Element.{Element}
use Rattle.fac_source.specs.declared.tree.Form.{Form as Flat}
use Rattle.fac_source.specs.declared.tree.Form.TheVariants.{Row, Items}
use Rattle.fac_source.specs.declared.tree.FormKind.{FormKind}
use Rattle.fac_source.specs.declared.tree.FormKind.TheVariants.{In, Use, Using, From, QualifiedWith, Defer, Symbol, Constant, Private, Public, Main, Define, DefineLocals, Tuple, Union, Singleton, Generic, Method, Maker}
use Rattle.fac_source.specs.declared.tree.DefinitionMark.{DefinitionMark}
use Rattle.fac_source.specs.declared.tree.DefinitionMark.TheVariants.{Inline, Recursive}
use Rattle.fac_source.specs.declared.tree.Parent.{Parent}
use Rattle.fac_source.specs.declared.tree.Part.{Part}
use Rattle.fac_source.specs.declared.tree.Part.TheVariants as part
use Rattle.fac_items.specs.FromElements.{nested, tok}
use Rattle.fac_names.specs.WrittenInputs.{written_inputs}
use Rattle.fac_items.specs.Written.{Tok, Node, n_part, Nodes, nothing, more, given, Form, f_in, f_use, f_using, f_from, f_qualified, f_private, f_public, f_defer, f_symbol, f_constant, f_main, f_define, f_locals, f_tuple, f_union, f_single, f_maker, f_generic, f_method, f_items}

abbrev pub is_inline : List DefinitionMark → Bool
is_inline [] = false
is_inline (Inline place ∷ marks) = true
is_inline (Recursive place ∷ marks) = is_inline marks

abbrev pub is_recursive : List DefinitionMark → Bool
is_recursive [] = false
is_recursive (Inline place ∷ marks) = is_recursive marks
is_recursive (Recursive place ∷ marks) = true

-- the first of some items
abbrev pub first_node : Nodes → Node
first_node nothing = n_part nothing
first_node (more n ns) = n

-- What the parts of a row have.

abbrev pub no_name : Tok
no_name = record { text = []; place = record { file = 0; token = 0 } }

abbrev pub first_name : List Part → Tok
first_name (part.Name t ∷ parts) = tok t
first_name _ = no_name

abbrev pub second_name : List Part → Tok
second_name [] = no_name
second_name (p ∷ parts) = first_name parts

abbrev pub names_in : List Part → List Tok
names_in [] = []
names_in (part.Names ts ends ∷ parts) = map tok ts
names_in (p ∷ parts) = names_in parts

abbrev pub parent_name : Option Parent → Option Tok
parent_name parent = option_map (λ (p : Parent). tok p.class) parent

abbrev pub parent_in : List Part → Option Tok
parent_in [] = None
parent_in (part.Slots parent ts ends ∷ parts) = parent_name parent
parent_in (p ∷ parts) = parent_in parts

abbrev pub slots_in : List Part → List Tok
slots_in [] = []
slots_in (part.Slots parent ts ends ∷ parts) = map tok ts
slots_in (p ∷ parts) = slots_in parts

abbrev pub effect_in : List Part → Signature
effect_in [] = signature None no_inputs (leaves None [])
effect_in (part.Effect e ∷ parts) = e.effect
effect_in (p ∷ parts) = effect_in parts

-- the inputs of an effect, which are locals
abbrev pub inputs_in : List Part → List Tok
inputs_in [] = []
inputs_in (part.Effect e ∷ parts) = written_inputs e.tokens
inputs_in (p ∷ parts) = inputs_in parts

abbrev pub elements_in : List Part → List Element
elements_in [] = []
elements_in (part.Items es ends ∷ parts) = es
elements_in (part.Literal es ∷ parts) = es
elements_in (p ∷ parts) = elements_in parts

abbrev pub marks_in : List Part → List DefinitionMark
marks_in [] = []
marks_in (part.Marks marks ∷ parts) = marks
marks_in (p ∷ parts) = marks_in parts

-- a row, where its parts fill its slots
abbrev pub row : FormKind → List Part → Form
row In parts = f_in (first_name parts)
row Use parts = f_use (first_name parts)
row Using parts = f_using (names_in parts)
row From parts = f_from (first_name parts) (names_in parts)
row QualifiedWith parts = f_qualified (first_name parts) (second_name parts)
row Defer parts = f_defer (first_name parts)
row Symbol parts = f_symbol (first_name parts)
row Constant parts = f_constant (first_name parts) (first_node (nested (elements_in parts)))
row Private parts = f_private
row Public parts = f_public
row Main parts = f_main (first_name parts)
row Define parts = f_define (first_name parts) (given (effect_in parts)) (nested (elements_in parts)) (is_inline (marks_in parts)) (is_recursive (marks_in parts))
row DefineLocals parts = f_locals (first_name parts) (inputs_in parts) (effect_in parts) (nested (elements_in parts)) (is_inline (marks_in parts)) (is_recursive (marks_in parts))
row Tuple parts = f_tuple (first_name parts) (parent_in parts) (slots_in parts)
row Union parts = f_union (first_name parts) (names_in parts)
row Singleton parts = f_single (first_name parts)
row Generic parts = f_generic (first_name parts) (effect_in parts)
-- its mark says nothing: a method is as any other
row Method parts = f_method (first_name parts) (second_name parts) (nested (elements_in parts))
row Maker parts = f_maker (first_name parts) (second_name parts)

abbrev pub form_of : Flat → Form
form_of (Row kind opens parts) = row kind parts
form_of (Items es) = f_items (nested es)
