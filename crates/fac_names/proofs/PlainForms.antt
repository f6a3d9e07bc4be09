-- The forms of trees are of the forms that are read.
use Rattle.std.proofs.Common.{◌≡◌, ℕ, List, [], ◌∷◌, map, length, None, Some, true, false, refl, ap, sym, ◌∙◌, subst, arith}
use Rattle.std.specs.Prelude.{nat_le}
use Rattle.std.proofs.lemmas.List.{length-map}
use Rattle.fac_base.specs.Signatures.{Signature}
use Rattle.fac_lang.specs.Whole.{name_count}
use Rattle.fac_source.specs.declared.tree.Element.{Element}
use Rattle.fac_source.specs.declared.tree.Form.{Form as Flat}
use Rattle.fac_source.specs.declared.tree.Form.TheVariants.{Row, Items}
use Rattle.fac_source.specs.declared.tree.FormKind.{FormKind}
use Rattle.fac_source.specs.declared.tree.FormKind.TheVariants as kind
use Rattle.fac_source.specs.declared.tree.Part.{Part}
use Rattle.fac_source.specs.declared.tree.Part.TheVariants as part
use Rattle.fac_source.specs.declared.form_table.Slot.TheVariants as slot
use Rattle.fac_source.specs.FormRows.{slots_of}
use Rattle.fac_parse.specs.Trees.{Fills, FillAll, IsForm, IsLiteral, inputs_of as inputs_of_part}
use Rattle.fac_items.specs.FromElements.{AreClosing, nested, tok}
use Rattle.fac_items.specs.Written.{Tok}
use Rattle.fac_items.specs.Readings.{read_form, with_inputs}
use Rattle.fac_items.proofs.PlainNodes.{reads_plain}
use Rattle.fac_items.proofs.RawNodes.{bindings_raw, nested_raw}
use Rattle.fac_names.specs.FromFlat.{effect_in, elements_in, form_of, inputs_in, row, slots_in}
use Rattle.fac_names.proofs.BracketLemmas.{items_closing, literal_closing, literal_sole}
use Rattle.fac_names.proofs.BuiltForms.{AreReadPlain, IsPlainForm}
use Rattle.fac_names.proofs.EffectCounts.{at_most, few_names}

-- The parts of rows.

record BehindName (p : Part) (ps : List Part) : Type 0 where
  effect : effect_in (p ∷ ps) ≡ effect_in ps
  elements : elements_in (p ∷ ps) ≡ elements_in ps
  slots : slots_in (p ∷ ps) ≡ slots_in ps

behind_name : (n : ℕ) (p : Part) (ps : List Part) → Fills n slot.Name p → BehindName p ps
behind_name n (part.Name v) ps h = record { effect = refl; elements = refl; slots = refl }
behind_name n (part.Names vs ends) ps h = absurd h
behind_name n (part.Slots parent vs ends) ps h = absurd h
behind_name n (part.Fixed key place) ps h = absurd h
behind_name n (part.Effect e) ps h = absurd h
behind_name n (part.Items es ends) ps h = absurd h
behind_name n (part.Literal es) ps h = absurd h
behind_name n (part.Marks ms) ps h = absurd h

is_few : (n : ℕ) (p : Part) (ps : List Part) → Fills n slot.Effect p → nat_le (name_count (effect_in (p ∷ ps))) 65 ≡ true
is_few n (part.Name v) ps h = absurd h
is_few n (part.Names vs ends) ps h = absurd h
is_few n (part.Slots parent vs ends) ps h = absurd h
is_few n (part.Fixed key place) ps h = absurd h
is_few n (part.Effect e) ps h = few_names e.tokens e.effect h
is_few n (part.Items es ends) ps h = absurd h
is_few n (part.Literal es) ps h = absurd h
is_few n (part.Marks ms) ps h = absurd h

is_literal : (n : ℕ) (p : Part) (ps : List Part) → Fills n slot.Literal p → IsLiteral (elements_in (p ∷ ps))
is_literal n (part.Name v) ps h = absurd h
is_literal n (part.Names vs ends) ps h = absurd h
is_literal n (part.Slots parent vs ends) ps h = absurd h
is_literal n (part.Fixed key place) ps h = absurd h
is_literal n (part.Effect e) ps h = absurd h
is_literal n (part.Items es ends) ps h = absurd h
is_literal n (part.Literal es) ps h = h
is_literal n (part.Marks ms) ps h = absurd h

slots_few : (n : ℕ) (p : Part) (ps : List Part) → Fills n slot.Slots p → nat_le (length (slots_in (p ∷ ps))) 64 ≡ true
slots_few n (part.Name v) ps h = absurd h
slots_few n (part.Names vs ends) ps h = absurd h
slots_few n (part.Slots parent vs ends) ps h = (let count = length-map vs tok in let few = h.2 in at_most (length (map tok vs)) 64 (omega (arith, count, few)))
slots_few n (part.Fixed key place) ps h = absurd h
slots_few n (part.Effect e) ps h = absurd h
slots_few n (part.Items es ends) ps h = absurd h
slots_few n (part.Literal es) ps h = absurd h
slots_few n (part.Marks ms) ps h = absurd h

record BehindEffect (p : Part) (ps : List Part) : Type 0 where
  elements : elements_in (p ∷ ps) ≡ elements_in ps

behind_effect : (n : ℕ) (p : Part) (ps : List Part) → Fills n slot.Effect p → BehindEffect p ps
behind_effect n (part.Name v) ps h = absurd h
behind_effect n (part.Names vs ends) ps h = absurd h
behind_effect n (part.Slots parent vs ends) ps h = absurd h
behind_effect n (part.Fixed key place) ps h = absurd h
behind_effect n (part.Effect e) ps h = record { elements = refl }
behind_effect n (part.Items es ends) ps h = absurd h
behind_effect n (part.Literal es) ps h = absurd h
behind_effect n (part.Marks ms) ps h = absurd h

locals_effect : (n : ℕ) (p : Part) → Fills n slot.LocalsEffect p → Fills n slot.Effect p
locals_effect n (part.Name v) h = absurd h
locals_effect n (part.Names vs ends) h = absurd h
locals_effect n (part.Slots parent vs ends) h = absurd h
locals_effect n (part.Fixed key place) h = absurd h
locals_effect n (part.Effect e) h = h.0
locals_effect n (part.Items es ends) h = absurd h
locals_effect n (part.Literal es) h = absurd h
locals_effect n (part.Marks ms) h = absurd h

behind_class : (n : ℕ) (p : Part) (ps : List Part) → Fills n slot.Class p → elements_in (p ∷ ps) ≡ elements_in ps
behind_class n (part.Name v) ps h = refl
behind_class n (part.Names vs ends) ps h = absurd h
behind_class n (part.Slots parent vs ends) ps h = absurd h
behind_class n (part.Fixed key place) ps h = absurd h
behind_class n (part.Effect e) ps h = absurd h
behind_class n (part.Items es ends) ps h = absurd h
behind_class n (part.Literal es) ps h = absurd h
behind_class n (part.Marks ms) ps h = absurd h

items_close : (n : ℕ) (p : Part) (ps : List Part) → Fills n slot.Items p → AreClosing [] (elements_in (p ∷ ps))
items_close n (part.Name v) ps h = absurd h
items_close n (part.Names vs ends) ps h = absurd h
items_close n (part.Slots parent vs ends) ps h = absurd h
items_close n (part.Fixed key place) ps h = absurd h
items_close n (part.Effect e) ps h = absurd h
items_close n (part.Items es ends) ps h = items_closing None es h
items_close n (part.Literal es) ps h = absurd h
items_close n (part.Marks ms) ps h = absurd h

locals_close : (n : ℕ) (p : Part) (ps : List Part) → Fills n slot.LocalsItems p → AreClosing [] (elements_in (p ∷ ps))
locals_close n (part.Name v) ps h = absurd h
locals_close n (part.Names vs ends) ps h = absurd h
locals_close n (part.Slots parent vs ends) ps h = absurd h
locals_close n (part.Fixed key place) ps h = absurd h
locals_close n (part.Effect e) ps h = absurd h
locals_close n (part.Items es ends) ps h = items_closing (Some n) es h
locals_close n (part.Literal es) ps h = absurd h
locals_close n (part.Marks ms) ps h = absurd h

-- Rows.

nested_plain : (es : List Element) → AreClosing [] es → AreReadPlain (nested es)
nested_plain es h c = reads_plain c [] false (nested es) (nested_raw es h)

inputs_plain : (ts : List Tok) (es : List Element) → AreClosing [] es → AreReadPlain (with_inputs ts (nested es))
inputs_plain ts es h c = reads_plain c [] false (with_inputs ts (nested es)) (bindings_raw false ts [] (nested es) (nested_raw es h))

-- the items of a definition
definition_close : (ps : List Part) → FillAll (slots_of kind.Define) ps → AreClosing [] (elements_in ps)
definition_close [] h = absurd h
definition_close (n ∷ []) h = absurd h.1
definition_close (n ∷ e ∷ []) h = absurd h.1.1
definition_close (n ∷ e ∷ i ∷ ps) h =
    subst (AreClosing []) (sym ((behind_name 0 n (e ∷ i ∷ ps) h.0).elements ∙ (behind_effect (inputs_of_part n) e (i ∷ ps) h.1.0).elements)) (items_close (inputs_of_part e) i ps h.1.1.0)

locals_closing : (ps : List Part) → FillAll (slots_of kind.DefineLocals) ps → AreClosing [] (elements_in ps)
locals_closing [] h = absurd h
locals_closing (n ∷ []) h = absurd h.1
locals_closing (n ∷ e ∷ []) h = absurd h.1.1
locals_closing (n ∷ e ∷ i ∷ ps) h =
    subst (AreClosing []) (sym ((behind_name 0 n (e ∷ i ∷ ps) h.0).elements ∙ (behind_effect (inputs_of_part n) e (i ∷ ps) (locals_effect (inputs_of_part n) e h.1.0)).elements)) (locals_close (inputs_of_part e) i ps h.1.1.0)

method_close : (ps : List Part) → FillAll (slots_of kind.Method) ps → AreClosing [] (elements_in ps)
method_close [] h = absurd h
method_close (n ∷ []) h = absurd h.1
method_close (n ∷ e ∷ []) h = absurd h.1.1
method_close (n ∷ e ∷ i ∷ ps) h =
    subst (AreClosing []) (sym (behind_class 0 n (e ∷ i ∷ ps) h.0 ∙ (behind_name (inputs_of_part n) e (i ∷ ps) h.1.0).elements)) (items_close (inputs_of_part e) i ps h.1.1.0)

definition_plain : (ps : List Part) → FillAll (slots_of kind.Define) ps → IsPlainForm (row kind.Define ps)
definition_plain [] h = absurd h
definition_plain (n ∷ []) h = absurd h.1
definition_plain (n ∷ e ∷ ps) h = (nested_plain (elements_in (n ∷ e ∷ ps)) (definition_close (n ∷ e ∷ ps) h), ap (λ (s : Signature). nat_le (name_count s) 65) (behind_name 0 n (e ∷ ps) h.0).effect ∙ is_few (inputs_of_part n) e ps h.1.0)

locals_plain : (ps : List Part) → FillAll (slots_of kind.DefineLocals) ps → IsPlainForm (read_form (row kind.DefineLocals ps))
locals_plain [] h = absurd h
locals_plain (n ∷ []) h = absurd h.1
locals_plain (n ∷ e ∷ ps) h =
    (inputs_plain (inputs_in (n ∷ e ∷ ps)) (elements_in (n ∷ e ∷ ps)) (locals_closing (n ∷ e ∷ ps) h), ap (λ (s : Signature). nat_le (name_count s) 65) (behind_name 0 n (e ∷ ps) h.0).effect ∙ is_few (inputs_of_part n) e ps (locals_effect (inputs_of_part n) e h.1.0))

generic_plain : (ps : List Part) → FillAll (slots_of kind.Generic) ps → IsPlainForm (row kind.Generic ps)
generic_plain [] h = absurd h
generic_plain (n ∷ []) h = absurd h.1
generic_plain (n ∷ e ∷ ps) h = ap (λ (s : Signature). nat_le (name_count s) 65) (behind_name 0 n (e ∷ ps) h.0).effect ∙ is_few (inputs_of_part n) e ps h.1.0

tuple_plain : (ps : List Part) → FillAll (slots_of kind.Tuple) ps → IsPlainForm (row kind.Tuple ps)
tuple_plain [] h = absurd h
tuple_plain (n ∷ []) h = absurd h.1
tuple_plain (n ∷ s ∷ ps) h = ap (λ (ts : List Tok). nat_le (length ts) 64) (behind_name 0 n (s ∷ ps) h.0).slots ∙ slots_few (inputs_of_part n) s ps h.1.0

constant_plain : (ps : List Part) → FillAll (slots_of kind.Constant) ps → IsPlainForm (read_form (row kind.Constant ps))
constant_plain [] h = absurd h
constant_plain (n ∷ []) h = absurd h.1
constant_plain (n ∷ l ∷ ps) h =
    let es = elements_in (n ∷ l ∷ ps) in
    let literal = subst IsLiteral (sym (behind_name 0 n (l ∷ ps) h.0).elements) (is_literal (inputs_of_part n) l ps h.1.0) in
    (subst AreReadPlain (literal_sole es literal) (nested_plain es (literal_closing es literal)), refl)

row_plain : (k : FormKind) (ps : List Part) → FillAll (slots_of k) ps → IsPlainForm (read_form (row k ps))
row_plain kind.In ps h = tt
row_plain kind.Use ps h = tt
row_plain kind.Using ps h = tt
row_plain kind.From ps h = tt
row_plain kind.QualifiedWith ps h = tt
row_plain kind.Defer ps h = tt
row_plain kind.Symbol ps h = tt
row_plain kind.Constant ps h = constant_plain ps h
row_plain kind.Private ps h = tt
row_plain kind.Public ps h = tt
row_plain kind.Main ps h = tt
row_plain kind.Define ps h = definition_plain ps h
row_plain kind.DefineLocals ps h = locals_plain ps h
row_plain kind.Tuple ps h = tuple_plain ps h
row_plain kind.Union ps h = tt
row_plain kind.Singleton ps h = tt
row_plain kind.Generic ps h = generic_plain ps h
row_plain kind.Method ps h = nested_plain (elements_in ps) (method_close ps h)
row_plain kind.Maker ps h = (λ c. (tt, (tt, tt)), (refl, refl))

pub form_plain : (f : Flat) → IsForm f → IsPlainForm (read_form (form_of f))
form_plain (Row k opens ps) h = row_plain k ps h
form_plain (Items es) h = nested_plain es (items_closing None es h.1)
