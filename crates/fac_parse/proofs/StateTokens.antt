-- The tokens of what was read so far, and what is known of it.
use Rattle.fac_parse.specs.Contexts.{items_in, counted, uncounted, bound, inside, opened_locals, behind}
use Rattle.fac_parse.specs.Trees.{IsElement, element_tokens, items_tokens, marks_tokens, parent_tokens, part_tokens, parts_tokens, form_tokens, flatten, most_slots, AreNames, AreSlots, IsParent, AreLocalNames, Lead, AreItems, IsLiteralBracket, AreMarks, inputs_of, Fills, FillFrom, IsForm, MayStandBefore, IsWellFormed}
use Rattle.fac_parse.specs.declared.context.Context.{Context}
use Rattle.std.proofs.Common.{◌≡◌, ◌≤◌, ℕ, Bool, true, false, List, [], ◌∷◌, ◌++◌, length, Option, Some, None, refl, ap, sym, ◌∙◌, subst, append_assoc, append-nil, arith}
use Rattle.std.specs.Prelude.{suc, zero, slice_get, codes, not, ◌&&◌, ◌||◌}
use Rattle.fac_base.specs.declared.place.Place.{Place}
use Rattle.fac_source.specs.declared.token.Token.{Token}
use Rattle.fac_source.specs.declared.tree.Element.{Element}
use Rattle.fac_source.specs.declared.tree.Element.TheVariants as element
use Rattle.fac_source.specs.declared.tree.Bracket.{Bracket}
use Rattle.fac_source.specs.declared.tree.FormKind.{FormKind}
use Rattle.fac_source.specs.declared.tree.Part.{Part}
use Rattle.fac_source.specs.declared.tree.Form.{Form}
use Rattle.fac_source.specs.declared.tree.Form.TheVariants.{Row, Items}
use Rattle.fac_source.specs.declared.form_table.Slot.{Slot}
use Rattle.fac_source.specs.declared.form_table.Slot.TheVariants as slot
use Rattle.fac_parse.specs.declared.form_parts.Naming.{Naming}
use Rattle.fac_parse.specs.declared.form_parts.Naming.TheVariants as naming
use Rattle.fac_parse.specs.declared.form_parts.Marked.{Marked}
use Rattle.fac_parse.specs.declared.form_parts.Marked.TheVariants as marked
use Rattle.fac_effect.specs.EffectReading.{reads as reading, after}
use Rattle.fac_effect.specs.LocalNames.{name_locals}
use Rattle.fac_effect.specs.RowlessEffects.{behind_opens, have_no_row}
use Rattle.fac_parse.specs.declared.form_parts.Taking.{Taking}
use Rattle.fac_parse.specs.declared.form_parts.Taking.TheVariants.{Values, Locals}
use Rattle.fac_effect.specs.Spellings.{wrap_text, call_text, plain_token}
use denote.Enum.Declared.{tag_of}
use Rattle.fac_source.specs.contracts.tree.FormKind.{the_type}
use Rattle.fac_source.specs.declared.form_table.TheConstants.{FORMS}
use Rattle.fac_source.specs.FormRows.{Row as TableRow, head_of, slots_in, slots_of}
use Rattle.fac_parse.specs.inner.Reader.{Half, no_half, binding, heading, wrapping, calling, Within, name, names, tuple_slots, tuple_parent, fixed, effect, items, literal, marks, Begun, Open, top, row, State, outside, begin, last_inputs, row_form, row_ended, at_slot, go_on, with_run}

-- The tokens of what is open.

abbrev pub half_tokens : Half → List Token
half_tokens no_half = []
half_tokens (binding sign) = plain_token sign (codes ":>") ∷ []
half_tokens (heading opens ns) = plain_token opens (codes "[|") ∷ ns
half_tokens (wrapping sign) = plain_token sign wrap_text ∷ []
half_tokens (calling callee sign ts r) = plain_token sign (call_text callee) ∷ ts

abbrev pub within_tokens : Within → List Token
within_tokens (name k) = []
within_tokens (names k ns) = ns
within_tokens (tuple_slots p ns) = parent_tokens p ++ ns
within_tokens (tuple_parent place) = plain_token place (codes "<") ∷ []
within_tokens (fixed key) = []
within_tokens (effect k ts r) = ts
within_tokens (items k elements contexts h) = items_tokens elements ++ half_tokens h
within_tokens (literal elements contexts h) = items_tokens elements ++ half_tokens h
within_tokens (marks k ms) = marks_tokens ms

abbrev pub open_tokens : Open → List Token
open_tokens (top elements contexts h) = items_tokens elements ++ half_tokens h
open_tokens (row b w) = plain_token b.opens (head_of b.kind) ∷ parts_tokens b.parts ++ within_tokens w

abbrev pub tokens_of : List Form → Open → List Token
tokens_of forms o = flatten forms ++ open_tokens o

abbrev pub state_tokens : State → List Token
state_tokens s = tokens_of s.forms s.open_part

pub flatten-append : (fs gs : List Form) → flatten (fs ++ gs) ≡ flatten fs ++ flatten gs
flatten-append [] gs = refl
flatten-append (f ∷ fs) gs = ap (λ (ts : List Token). form_tokens f ++ ts) (flatten-append fs gs) ∙ sym (append_assoc (form_tokens f) (flatten fs) (flatten gs))

pub flatten-last : (fs : List Form) (f : Form) → flatten (fs ++ f ∷ []) ≡ flatten fs ++ form_tokens f
flatten-last fs f = flatten-append fs (f ∷ []) ∙ ap (λ (ts : List Token). flatten fs ++ ts) (append-nil (form_tokens f))

pub items-append : (xs ys : List Element) → items_tokens (xs ++ ys) ≡ items_tokens xs ++ items_tokens ys
items-append [] ys = refl
items-append (x ∷ xs) ys = ap (λ (ts : List Token). element_tokens x ++ ts) (items-append xs ys) ∙ sym (append_assoc (element_tokens x) (items_tokens xs) (items_tokens ys))

-- an element of these tokens behind others
pub element_behind : (ps : List Element) (p : Element) (ts : List Token) → element_tokens p ≡ ts → items_tokens (ps ++ p ∷ []) ≡ items_tokens ps ++ ts
element_behind ps p ts e = items-append ps (p ∷ []) ∙ ap (λ (us : List Token). items_tokens ps ++ us) (append-nil (element_tokens p) ∙ e)

pub parts-last : (ps : List Part) (p : Part) → parts_tokens (ps ++ p ∷ []) ≡ parts_tokens ps ++ part_tokens p
parts-last [] p = append-nil (part_tokens p)
parts-last (q ∷ ps) p = ap (λ (ts : List Token). part_tokens q ++ ts) (parts-last ps p) ∙ sym (append_assoc (part_tokens q) (parts_tokens ps) (part_tokens p))

-- Slots that are filled.

-- these parts fill the slots up to these, behind a part with so many inputs
abbrev pub Filled : ℕ → List Slot → List Part → List Slot → Type 0
Filled n slots [] rest = slots ≡ rest
Filled n [] (p ∷ ps) rest = ⊥
Filled n (s ∷ slots) (p ∷ ps) rest = Fills n s p × Filled (inputs_of p) slots ps rest

pub filled_more : (n : ℕ) (slots : List Slot) (ps : List Part) (s : Slot) (rest : List Slot) (p : Part) → Filled n slots ps (s ∷ rest) → Fills (last_inputs n ps) s p → Filled n slots (ps ++ p ∷ []) rest
filled_more n slots [] s rest p h f = subst (λ (x : List Slot). Filled n x (p ∷ []) rest) (sym h) (f, refl)
filled_more n [] (q ∷ ps) s rest p h f = absurd h
filled_more n (x ∷ slots) (q ∷ ps) s rest p h f = (h.0, filled_more (inputs_of q) slots ps s rest p h.1 f)

filled_all : (n : ℕ) (slots : List Slot) (ps : List Part) → Filled n slots ps [] → FillFrom n slots ps
filled_all n slots [] h = subst (λ (x : List Slot). FillFrom n x []) (sym h) tt
filled_all n [] (p ∷ ps) h = absurd h
filled_all n (s ∷ slots) (p ∷ ps) h = (h.0, filled_all (inputs_of p) slots ps h.1)

-- the inputs of the last part
pub inputs_last : (n : ℕ) (ps : List Part) (p : Part) → last_inputs n (ps ++ p ∷ []) ≡ inputs_of p
inputs_last n [] p = refl
inputs_last n (q ∷ ps) p = inputs_last (inputs_of q) ps p

abbrev pub first_of : List Slot → Option Slot
first_of [] = None
first_of (s ∷ rest) = Some s

first_is : (rest : List Slot) → slice_get rest 0 ≡ first_of rest
first_is [] = refl
first_is (s ∷ rest) = refl

pub next_slot : (n : ℕ) (slots : List Slot) (ps : List Part) (rest : List Slot) → Filled n slots ps rest → slice_get slots (length ps) ≡ first_of rest
next_slot n slots [] rest h = ap (λ (x : List Slot). slice_get x 0) h ∙ first_is rest
next_slot n [] (p ∷ ps) rest h = absurd h
next_slot n (s ∷ slots) (p ∷ ps) rest h = next_slot (inputs_of p) slots ps rest h.1

-- marks stand last
abbrev pub LastMarks : Slot → List Slot → Type 0
LastMarks slot.Marks rest = rest ≡ []
LastMarks slot.MethodMark rest = rest ≡ []
LastMarks _ rest = Unit {0}

abbrev pub MarksLast : List Slot → Type 0
MarksLast [] = Unit {0}
MarksLast (s ∷ rest) = LastMarks s rest × MarksLast rest

filled_last : (n : ℕ) (slots : List Slot) (ps : List Part) (rest : List Slot) → Filled n slots ps rest → MarksLast slots → MarksLast rest
filled_last n slots [] rest h l = subst MarksLast h l
filled_last n [] (p ∷ ps) rest h l = absurd h
filled_last n (s ∷ slots) (p ∷ ps) rest h l = filled_last (inputs_of p) slots ps rest h.1 l.1

abbrev is_marks : Slot → Bool
is_marks slot.Marks = true
is_marks slot.MethodMark = true
is_marks _ = false

abbrev is_empty : List Slot → Bool
is_empty [] = true
is_empty (s ∷ rest) = false

abbrev marks_stand_last : List Slot → Bool
marks_stand_last [] = true
marks_stand_last (s ∷ rest) = (not (is_marks s) || is_empty rest) && marks_stand_last rest

empty_is : (rest : List Slot) → is_empty rest ≡ true → rest ≡ []
empty_is [] h = refl
empty_is (s ∷ rest) h = cc

mark_last : (s : Slot) (rest : List Slot) → (not (is_marks s) || is_empty rest) ≡ true → LastMarks s rest
mark_last slot.Marks rest h = empty_is rest h
mark_last slot.MethodMark rest h = empty_is rest h
mark_last _ rest h = tt

both_hold : (a b : Bool) → (a && b) ≡ true → (a ≡ true) × (b ≡ true)
both_hold true b h = (refl, h)
both_hold false b h = cc

slots_last : (slots : List Slot) → marks_stand_last slots ≡ true → MarksLast slots
slots_last [] h = tt
slots_last (s ∷ rest) h =
    let both = both_hold (not (is_marks s) || is_empty rest) (marks_stand_last rest) h in
    (mark_last s rest both.0, slots_last rest both.1)

-- marks stand last in each row of the table
abbrev all_last : List TableRow → Bool
all_last [] = true
all_last (r ∷ rs) = marks_stand_last r.slots.now && all_last rs

last_at : (rows : List TableRow) (n : ℕ) → all_last rows ≡ true → marks_stand_last (slots_in (slice_get rows n)) ≡ true
last_at [] n h = refl
last_at (r ∷ rs) zero h = (both_hold (marks_stand_last r.slots.now) (all_last rs) h).0
last_at (r ∷ rs) (suc n) h = last_at rs n (both_hold (marks_stand_last r.slots.now) (all_last rs) h).1

pub marks_last : (kind : FormKind) → MarksLast (slots_of kind)
marks_last kind = slots_last (slots_of kind) (last_at FORMS (tag_of the_type kind) refl)

-- What is known of what is open.

abbrev pub name_slot : Naming → Slot
name_slot naming.Any = slot.Name
name_slot naming.Class = slot.Class

abbrev pub names_slot : Naming → Slot
names_slot naming.Any = slot.Names
names_slot naming.Class = slot.Classes

abbrev pub marks_slot : Marked → Slot
marks_slot marked.Word = slot.Marks
marks_slot marked.Method = slot.MethodMark

abbrev pub effect_slot : Taking → Slot
effect_slot Values = slot.Effect
effect_slot Locals = slot.LocalsEffect

abbrev pub items_slot : Taking → Slot
items_slot Values = slot.Items
items_slot Locals = slot.LocalsItems

-- the slot that is being filled
abbrev pub slot_of : Within → Slot
slot_of (name k) = name_slot k
slot_of (names k ns) = names_slot k
slot_of (tuple_slots p ns) = slot.Slots
slot_of (tuple_parent place) = slot.Slots
slot_of (fixed key) = slot.Fixed key
slot_of (effect k ts r) = effect_slot k
slot_of (items k elements contexts h) = items_slot k
slot_of (literal elements contexts h) = slot.Literal
slot_of (marks k ms) = marks_slot k

-- elements from where a bracket is open to where one is, before each of which one is
abbrev pub Inside : List Context → List Element → List Context → Type 0
Inside (c ∷ d ∷ from) [] to = c ∷ d ∷ from ≡ to
Inside (c ∷ d ∷ from) (e ∷ es) to = IsElement e × (next : List Context) × (behind (c ∷ d ∷ from) e ≡ Some next) × Inside next es to
Inside _ es to = ⊥

-- behind the first bracket of a literal
abbrev pub open_inside : Bracket → List Context
open_inside bracket = inside bracket (items_in None) ∷ outside

-- an element that is begun may be completed
abbrev pub GoodHalf : List Context → Half → Type 0
GoodHalf contexts no_half = Unit {0}
GoodHalf contexts (binding sign) = (next : List Context) × (bound (uncounted contexts) ≡ Some next)
GoodHalf contexts (heading opens ns) = AreLocalNames ns × (next : List Context) × (opened_locals (length ns) (uncounted contexts) ≡ Some next)
GoodHalf contexts (wrapping sign) = (next : List Context) × (counted contexts ≡ Some next)
GoodHalf contexts (calling callee sign ts r) = (behind_opens ts ≡ reading r) × (have_no_row ts ≡ true) × (next : List Context) × (uncounted contexts ≡ Some next)

-- what may be begun at the beginning of a literal
abbrev pub BeginsLiteral : Half → Type 0
BeginsLiteral no_half = Unit {0}
BeginsLiteral (wrapping sign) = Unit {0}
BeginsLiteral _ = ⊥

-- a literal as far as some of its elements
abbrev pub GoodLiteral : List Element → List Context → Half → Type 0
GoodLiteral [] contexts h = (contexts ≡ outside) × BeginsLiteral h
GoodLiteral (element.Opens bracket place ∷ es) contexts h = IsLiteralBracket bracket × Inside (open_inside bracket) es contexts × GoodHalf contexts h
GoodLiteral _ contexts h = ⊥

-- the locals before the first item, behind a part with so many inputs
abbrev pub locals_before : Taking → ℕ → Option ℕ
locals_before Values n = None
locals_before Locals n = Some n

abbrev pub NamesLocals : Taking → List Token → Type 0
NamesLocals Values ts = Unit {0}
NamesLocals Locals ts = name_locals ts ≡ true

-- what was read of a part, behind a part with so many inputs, and with these slots behind it
abbrev pub GoodWithin : ℕ → List Slot → Within → Type 0
GoodWithin n rest (name k) = Unit {0}
GoodWithin n rest (names k ns) = AreNames k ns
GoodWithin n rest (tuple_slots p ns) = IsParent p × AreSlots ns × (length ns ≤ most_slots)
GoodWithin n rest (tuple_parent place) = Unit {0}
GoodWithin n rest (fixed key) = Unit {0}
GoodWithin n rest (effect k ts r) = (after ts ≡ reading r) × NamesLocals k ts
GoodWithin n rest (items k elements contexts h) = Lead (items_in (locals_before k n) ∷ []) elements contexts × GoodHalf contexts h
GoodWithin n rest (literal elements contexts h) = GoodLiteral elements contexts h
GoodWithin n rest (marks k ms) = AreMarks k ms × (rest ≡ [])

pub record GoodRow (b : Begun) (w : Within) : Type 0 where
  pub rest : List Slot
  pub filled : Filled 0 (slots_of b.kind) b.parts (slot_of w ∷ rest)
  pub within : GoodWithin (last_inputs 0 b.parts) rest w

-- the last of these forms is no run of items
abbrev pub NoRunLast : List Form → Type 0
NoRunLast [] = Unit {0}
NoRunLast (Items elements ∷ []) = ⊥
NoRunLast (Row kind opens parts ∷ []) = Unit {0}
NoRunLast (f ∷ g ∷ fs) = NoRunLast (g ∷ fs)

abbrev pub GoodOpen : List Form → Open → Type 0
GoodOpen forms (top elements contexts h) = Lead outside elements contexts × GoodHalf contexts h × NoRunLast forms
GoodOpen forms (row b w) = GoodRow b w

pub record Good (s : State) : Type 0 where
  pub fits : IsWellFormed s.forms
  pub opens : GoodOpen s.forms s.open_part

beside : (f g : Form) (fs gs : List Form) → MayStandBefore f (g ∷ fs) → MayStandBefore f (g ∷ gs)
beside (Items xs) (Items ys) fs gs h = h
beside (Items xs) (Row k p ps) fs gs h = tt
beside (Row k p ps) g fs gs h = tt

row_behind : (fs : List Form) (kind : FormKind) (opens : Place) (ps : List Part) → IsWellFormed fs → IsForm (Row kind opens ps) → IsWellFormed (fs ++ Row kind opens ps ∷ [])
row_behind [] kind opens ps h is = (is, tt, tt)
row_behind (Items es ∷ []) kind opens ps h is = (h.0, tt, (is, tt, tt))
row_behind (Row k p qs ∷ []) kind opens ps h is = (h.0, tt, (is, tt, tt))
row_behind (f ∷ g ∷ fs) kind opens ps h is = (h.0, beside f g fs (fs ++ Row kind opens ps ∷ []) h.1, row_behind (g ∷ fs) kind opens ps h.2 is)

pub row_is_last : (fs : List Form) (kind : FormKind) (opens : Place) (ps : List Part) → NoRunLast (fs ++ Row kind opens ps ∷ [])
row_is_last [] kind opens ps = tt
row_is_last (Items es ∷ []) kind opens ps = tt
row_is_last (Row k p qs ∷ []) kind opens ps = tt
row_is_last (f ∷ g ∷ fs) kind opens ps = row_is_last (g ∷ fs) kind opens ps

run_behind : (fs : List Form) (e : Element) (es : List Element) → IsWellFormed fs → NoRunLast fs → AreItems None (e ∷ es) → IsWellFormed (fs ++ Items (e ∷ es) ∷ [])
run_behind [] e es h n is = ((tt, is), tt, tt)
run_behind (Items xs ∷ []) e es h n is = absurd n
run_behind (Row k p qs ∷ []) e es h n is = (h.0, tt, ((tt, is), tt, tt))
run_behind (f ∷ g ∷ fs) e es h n is = (h.0, beside f g fs (fs ++ Items (e ∷ es) ∷ []) h.1, run_behind (g ∷ fs) e es h.2 n is)

-- a run of items that ends
pub run_fits : (fs : List Form) (es : List Element) → IsWellFormed fs → NoRunLast fs → AreItems None es → IsWellFormed (with_run fs es)
run_fits fs [] h n is = h
run_fits fs (e ∷ es) h n is = run_behind fs e es h n is

pub run_tokens : (fs : List Form) (es : List Element) → flatten (with_run fs es) ≡ flatten fs ++ items_tokens es
run_tokens fs [] = sym (append-nil (flatten fs))
run_tokens fs (e ∷ es) = flatten-last fs (Items (e ∷ es))

-- a row that goes on is good, and has its tokens so far
pub record Gone (forms : List Form) (b : Begun) (s : State) : Type 0 where
  pub good : Good s
  pub tokens : state_tokens s ≡ flatten forms ++ plain_token b.opens (head_of b.kind) ∷ parts_tokens b.parts

begun_within : (n : ℕ) (s : Slot) → within_tokens (begin n s) ≡ []
begun_within n slot.Name = refl
begun_within n slot.Class = refl
begun_within n slot.Names = refl
begun_within n slot.Classes = refl
begun_within n slot.Slots = refl
begun_within n (slot.Fixed key) = refl
begun_within n slot.Effect = refl
begun_within n slot.LocalsEffect = refl
begun_within n slot.Items = refl
begun_within n slot.LocalsItems = refl
begun_within n slot.Literal = refl
begun_within n slot.Marks = refl
begun_within n slot.MethodMark = refl

begun_row : (b : Begun) (s : Slot) (rest : List Slot) → Filled 0 (slots_of b.kind) b.parts (s ∷ rest) → LastMarks s rest → GoodRow b (begin (last_inputs 0 b.parts) s)
begun_row b slot.Name rest h l = record { rest = rest; filled = h; within = tt }
begun_row b slot.Class rest h l = record { rest = rest; filled = h; within = tt }
begun_row b slot.Names rest h l = record { rest = rest; filled = h; within = tt }
begun_row b slot.Classes rest h l = record { rest = rest; filled = h; within = tt }
begun_row b slot.Slots rest h l = record { rest = rest; filled = h; within = (tt, tt, omega arith) }
begun_row b (slot.Fixed key) rest h l = record { rest = rest; filled = h; within = tt }
begun_row b slot.Effect rest h l = record { rest = rest; filled = h; within = (refl, tt) }
begun_row b slot.LocalsEffect rest h l = record { rest = rest; filled = h; within = (refl, refl) }
begun_row b slot.Items rest h l = record { rest = rest; filled = h; within = (refl, tt) }
begun_row b slot.LocalsItems rest h l = record { rest = rest; filled = h; within = (refl, tt) }
begun_row b slot.Literal rest h l = record { rest = rest; filled = h; within = (refl, tt) }
begun_row b slot.Marks rest h l = record { rest = rest; filled = h; within = (tt, l) }
begun_row b slot.MethodMark rest h l = record { rest = rest; filled = h; within = (tt, l) }

-- a row that ends
pub ended_row_gone : (forms : List Form) (b : Begun) → IsWellFormed forms → Filled 0 (slots_of b.kind) b.parts [] → Gone forms b (row_ended forms b)
ended_row_gone forms b fits h = record {
  good = record { fits = row_behind forms b.kind b.opens b.parts fits (filled_all 0 (slots_of b.kind) b.parts h); opens = (refl, tt, row_is_last forms b.kind b.opens b.parts) };
  tokens = append-nil (flatten (forms ++ row_form b ∷ [])) ∙ flatten-last forms (row_form b);
}

gone_at : (forms : List Form) (b : Begun) (rest : List Slot) → IsWellFormed forms → Filled 0 (slots_of b.kind) b.parts rest → MarksLast rest → Gone forms b (at_slot forms b (first_of rest))
gone_at forms b [] fits h l = ended_row_gone forms b fits h
gone_at forms b (s ∷ rest) fits h l = record {
  good = record { fits = fits; opens = begun_row b s rest h l.0 };
  tokens = ap (λ (ts : List Token). flatten forms ++ plain_token b.opens (head_of b.kind) ∷ ts) (ap (λ (ts : List Token). parts_tokens b.parts ++ ts) (begun_within (last_inputs 0 b.parts) s) ∙ append-nil (parts_tokens b.parts));
}

pub gone_on : (forms : List Form) (b : Begun) (rest : List Slot) → IsWellFormed forms → Filled 0 (slots_of b.kind) b.parts rest → Gone forms b (go_on forms b)
gone_on forms b rest fits h =
    subst (λ (o : Option Slot). Gone forms b (at_slot forms b o)) (sym (next_slot 0 (slots_of b.kind) b.parts rest h)) (gone_at forms b rest fits h (filled_last 0 (slots_of b.kind) b.parts rest h (marks_last b.kind)))
