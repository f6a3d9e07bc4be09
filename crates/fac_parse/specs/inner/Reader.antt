-- How the reader goes over its tokens.
use Rattle.std.specs.Prelude.{◌≡◌, ℕ, ◌+◌, Bool, true, false, List, [], ◌∷◌, ◌++◌, length, slice_get, nat_lt, ◌||◌, Option, Some, None, Result, Ok, Err, if◌then◌else◌}
use Rattle.fac_base.specs.declared.memory.Memory.{Memory}
use Rattle.fac_base.specs.declared.place.Place.{Place}
use Rattle.fac_source.specs.declared.token.Token.{Token}
use Rattle.fac_source.specs.declared.tree.Term.TheVariants as term
use Rattle.fac_source.specs.declared.tree.Element.{Element}
use Rattle.fac_source.specs.declared.tree.Element.TheVariants as element
use Rattle.fac_source.specs.declared.tree.DefinitionMark.{DefinitionMark}
use Rattle.fac_source.specs.declared.tree.DefinitionMark.TheVariants as mark
use Rattle.fac_source.specs.declared.tree.Bracket.TheVariants as bracket
use Rattle.fac_source.specs.declared.tree.Callee.{Callee}
use Rattle.fac_source.specs.declared.tree.FormKind.{FormKind}
use Rattle.fac_source.specs.declared.tree.Key.{Key}
use Rattle.fac_source.specs.declared.tree.Key.TheVariants.{Arrow}
use Rattle.fac_source.specs.declared.tree.Part.{Part}
use Rattle.fac_source.specs.declared.tree.Part.TheVariants as part
use Rattle.fac_source.specs.declared.tree.Parent.{Parent}
use Rattle.fac_source.specs.declared.tree.WrittenEffect.{WrittenEffect}
use Rattle.fac_source.specs.declared.tree.Form.{Form}
use Rattle.fac_source.specs.declared.tree.Form.TheVariants.{Row, Items}
use Rattle.fac_parse.specs.declared.context.Context.{Context}
use Rattle.fac_source.specs.declared.form_table.Slot.{Slot}
use Rattle.fac_source.specs.declared.form_table.Slot.TheVariants as slot
use Rattle.fac_parse.specs.declared.form_parts.Naming.{Naming}
use Rattle.fac_parse.specs.declared.form_parts.Naming.TheVariants as naming
use Rattle.fac_parse.specs.declared.form_parts.Marked.{Marked}
use Rattle.fac_parse.specs.declared.form_parts.Marked.TheVariants as marked
use Rattle.fac_effect.specs.declared.spelling.Spelling.{Spelling}
use Rattle.fac_effect.specs.declared.spelling.Spelling.TheVariants.{Begins, Fixed, Semi, OpensBracket, ClosesBracket, Inline, Recursive, NextMethod, OpensLocals, Bar, Binds, Hole, CalledHole, Wraps, EffectCall, Literal, Name}
use Rattle.fac_parse.specs.declared.form_parts.Taking.{Taking}
use Rattle.fac_parse.specs.declared.form_parts.Taking.TheVariants.{Values, Locals}
use Rattle.fac_parse.specs.declared.levels.Levels.{Levels}
use Rattle.fac_parse.specs.declared.run.Run.{Run}
use Rattle.fac_parse.specs.declared.run.Unfinished.{Unfinished}
use Rattle.fac_parse.specs.declared.run.Unfinished.TheVariants.{Nothing, Bind, Heading, Wrap, Call}
use Rattle.fac_parse.specs.declared.run.Growth.{Growth}
use Rattle.fac_parse.specs.declared.run.Growth.TheVariants.{Stuck, More, Whole}
use Rattle.fac_parse.specs.declared.reader.Head.{Head}
use Rattle.fac_parse.specs.declared.reader.At.{At}
use Rattle.fac_parse.specs.declared.reader.At.TheVariants as at
use Rattle.fac_parse.specs.declared.reader.Reader.{Reader}
use Rattle.fac_parse.specs.declared.reader.ParseFault.{ParseFault}
use Rattle.fac_parse.specs.declared.reader.ParseFault.TheVariants.{Syntax}
use Rattle.fac_parse.specs.declared.reader.Why.{Why}
use Rattle.fac_source.specs.FormRows.{slots_of}
use Rattle.fac_effect.specs.declared.effect_reader.EffectReader.{EffectReader}
use Rattle.fac_effect.specs.Spellings.{token_spelling, token_text}
use Rattle.fac_effect.specs.LocalNames.{is_local_name, may_stand}
use Rattle.fac_effect.specs.EffectReading.{Progress, reads as reading, whole, refused, start as no_tokens, opened, step as token_step, after}
use Rattle.fac_effect.specs.SaidEffects.{effect_of}
use Rattle.fac_effect.specs.RowlessEffects.{opened_tokens, behind_opens, is_no_row}
use Rattle.fac_base.specs.Effects.{effect_height}
use Rattle.fac_parse.specs.Contexts.{items_in, counted, uncounted, bound, opened_locals, behind}
use Rattle.fac_parse.specs.Trees.{named, most_slots, is_parent_sign, inputs_of}

-- how far an element is read that has several tokens
pub data Half : Type 0 where
  no_half : Half
  -- the first, which binds a local
  binding : Place → Half
  -- the first of a quotation with locals, and their names so far
  heading : Place → List Token → Half
  -- the first of a word that is a value
  wrapping : Place → Half
  -- the first of a call with a declared effect, and the tokens of the effect so far
  calling : Callee → Place → List Token → EffectReader → Half

-- what is being read of a row
pub data Within : Type 0 where
  name : Naming → Within
  names : Naming → List Token → Within
  tuple_slots : Option Parent → List Token → Within
  -- the parent of a tuple class, whose sign stands here
  tuple_parent : Place → Within
  fixed : Key → Within
  effect : Taking → List Token → EffectReader → Within
  items : Taking → List Element → List Context → Half → Within
  literal : List Element → List Context → Half → Within
  marks : Marked → List DefinitionMark → Within

-- a row as far as some of its parts
pub record Begun : Type 0 where
  pub kind : FormKind
  pub opens : Place
  pub parts : List Part

-- what isn't whole: a run of items, or a row
pub data Open : Type 0 where
  top : List Element → List Context → Half → Open
  row : Begun → Within → Open

-- the forms that are whole, and what is open
pub record State : Type 0 where
  pub forms : List Form
  pub open_part : Open

abbrev pub in_state : List Form → Open → State
in_state forms o = record { forms = forms; open_part = o }

-- items before the first element, where no local may be bound
abbrev pub outside : List Context
outside = items_in None ∷ []

-- before the first token
abbrev pub start : State
start = in_state [] (top [] outside no_half)

-- where a slot begins, behind a part with so many inputs
abbrev pub begin : ℕ → Slot → Within
begin n slot.Name = name naming.Any
begin n slot.Class = name naming.Class
begin n slot.Names = names naming.Any []
begin n slot.Classes = names naming.Class []
begin n slot.Slots = tuple_slots None []
begin n (slot.Fixed key) = fixed key
begin n slot.Effect = effect Values [] no_tokens
begin n slot.LocalsEffect = effect Locals [] no_tokens
begin n slot.Items = items Values [] outside no_half
begin n slot.LocalsItems = items Locals [] (items_in (Some n) ∷ []) no_half
begin n slot.Literal = literal [] outside no_half
begin n slot.Marks = marks marked.Word []
begin n slot.MethodMark = marks marked.Method []

abbrev pub row_form : Begun → Form
row_form b = Row b.kind b.opens b.parts

-- behind a row
abbrev pub row_ended : List Form → Begun → State
row_ended forms b = in_state (forms ++ row_form b ∷ []) (top [] outside no_half)

-- the inputs of the last part, behind one with so many
abbrev pub last_inputs : ℕ → List Part → ℕ
last_inputs n [] = n
last_inputs n (p ∷ ps) = last_inputs (inputs_of p) ps

abbrev pub at_slot : List Form → Begun → Option Slot → State
at_slot forms b (Some s) = in_state forms (row b (begin (last_inputs 0 b.parts) s))
at_slot forms b None = row_ended forms b

-- behind a part of a row: its next slot begins, or it ends
abbrev pub go_on : List Form → Begun → State
go_on forms b = at_slot forms b (slice_get (slots_of b.kind) (length b.parts))

abbrev pub more : Begun → Part → Begun
more b p = record { kind = b.kind; opens = b.opens; parts = b.parts ++ p ∷ [] }

abbrev pub with_part : List Form → Begun → Part → State
with_part forms b p = go_on forms (more b p)

-- the forms with a run of items behind them
abbrev pub with_run : List Form → List Element → List Form
with_run forms [] = forms
with_run forms (e ∷ es) = forms ++ Items (e ∷ es) ∷ []

abbrev pub begun : FormKind → Place → Begun
begun kind opens = record { kind = kind; opens = opens; parts = [] }

-- whether no bracket is open, and no element is begun
abbrev pub may_end : List Context → Half → Bool
may_end (c ∷ []) no_half = true
may_end _ _ = false

-- a row begins where items may end
abbrev pub begin_row : FormKind → Place → List Form → List Element → Bool → Option State
begin_row kind opens forms elements ends = (if ends then Some (go_on (with_run forms elements) (begun kind opens)) else None)

-- the element that a token is
abbrev pub element_of : Spelling → Token → Option Element
element_of (Literal l) t = Some (element.Item (term.Literal t l))
element_of Name t = Some (element.Item (term.Name t))
element_of NextMethod t = Some (element.Item (term.NextMethod t.place))
element_of Hole t = Some (element.Item (term.Hole t.place))
element_of CalledHole t = Some (element.Item (term.CalledHole t.place))
element_of (OpensBracket bracket) t = Some (element.Opens bracket t.place)
element_of (ClosesBracket bracket.Quotation) t = Some (element.Closes bracket.Quotation t.place)
element_of (ClosesBracket bracket.Array) t = Some (element.Closes bracket.Array t.place)
element_of _ t = None

-- what one more token makes of the element that is begun
pub data Grown : Type 0 where
  stuck : Grown
  begun_as : Half → Grown
  grown : Element → Grown

abbrev pub grown_if : Option Element → Grown
grown_if None = stuck
grown_if (Some e) = grown e

-- a half, if what may then be open is something
abbrev pub half_where : Option (List Context) → Half → Grown
half_where None h = stuck
half_where (Some contexts) h = begun_as h

abbrev pub is_local : Token → Bool
is_local t = is_local_name (token_text t.kind)

-- the first token of an element
abbrev pub begin_element : List Context → Spelling → Token → Grown
begin_element contexts Wraps t = half_where (counted contexts) (wrapping t.place)
begin_element contexts (EffectCall callee) t = half_where (uncounted contexts) (calling callee t.place [] opened)
begin_element contexts Binds t = half_where (bound (uncounted contexts)) (binding t.place)
begin_element contexts OpensLocals t = half_where (opened_locals 0 (uncounted contexts)) (heading t.place [])
begin_element contexts s t = grown_if (element_of s t)

-- behind `:>`
abbrev pub bind_step : Place → Spelling → Token → Grown
bind_step sign Name t = (if is_local t then grown (element.Item (term.Bind sign t)) else stuck)
bind_step sign _ t = stuck

-- behind `[|` and names
abbrev pub heading_step : List Context → Place → List Token → Spelling → Token → Grown
heading_step contexts opens ns Name t = (if is_local t then half_where (opened_locals (length (ns ++ t ∷ [])) (uncounted contexts)) (heading opens (ns ++ t ∷ [])) else stuck)
heading_step contexts opens ns Bar t = grown (element.OpensLocals opens ns t.place)
heading_step contexts opens ns _ t = stuck

-- behind `\`
abbrev pub wrap_step : Place → Spelling → Token → Grown
wrap_step sign Name t = grown (element.Item (term.Wrapped sign t))
wrap_step sign _ t = stuck

-- a call whose effect has these tokens
abbrev pub call_of : Callee → Place → List Token → Element
call_of callee sign ts = element.Item (term.EffectCall callee sign ts (effect_height (effect_of (opened_tokens sign ts))))

-- a call whose effect has these tokens, by how far it is read
abbrev pub call_with : Callee → Place → List Token → Progress → Grown
call_with callee sign ts (reading r) = begun_as (calling callee sign ts r)
call_with callee sign ts whole = grown (call_of callee sign ts)
call_with callee sign ts (refused why) = stuck

-- behind `call(` or `execute(` and tokens of its effect
abbrev pub call_step : Callee → Place → List Token → EffectReader → Spelling → Token → Grown
call_step callee sign ts r s t = (if is_no_row r s t then call_with callee sign (ts ++ t ∷ []) (token_step r s t) else stuck)

abbrev pub grow : List Context → Half → Spelling → Token → Grown
grow contexts no_half s t = begin_element contexts s t
grow contexts (binding sign) s t = bind_step sign s t
grow contexts (heading opens ns) s t = heading_step contexts opens ns s t
grow contexts (wrapping sign) s t = wrap_step sign s t
grow contexts (calling callee sign ts r) s t = call_step callee sign ts r s t

-- one more element, where this is then open
abbrev pub with_element : (List Element → List Context → Half → Open) → List Form → List Element → Element → Option (List Context) → Option State
with_element held forms elements e None = None
with_element held forms elements e (Some contexts) = Some (in_state forms (held (elements ++ e ∷ []) contexts no_half))

abbrev pub with_grown : (List Element → List Context → Half → Open) → List Form → List Element → List Context → Grown → Option State
with_grown held forms elements contexts stuck = None
with_grown held forms elements contexts (begun_as h) = Some (in_state forms (held elements contexts h))
with_grown held forms elements contexts (grown e) = with_element held forms elements e (behind contexts e)

-- What a token of this spelling gives, by what is open.

-- the row that a token begins
abbrev pub begins : Spelling → Option FormKind
begins (Begins kind) = Some kind
begins _ = None

abbrev pub begin_or_add : List Form → List Element → List Context → Half → Option FormKind → Spelling → Token → Option State
begin_or_add forms elements contexts h (Some kind) s t = begin_row kind t.place forms elements (may_end contexts h)
begin_or_add forms elements contexts h None s t = with_grown top forms elements contexts (grow contexts h s t)

abbrev pub top_step : List Form → List Element → List Context → Half → Spelling → Token → Option State
top_step forms elements contexts h s t = begin_or_add forms elements contexts h (begins s) s t

abbrev pub name_step : List Form → Begun → Spelling → Token → Option State
name_step forms b Name t = Some (with_part forms b (part.Name t))
name_step forms b _ t = None

abbrev pub names_step : List Form → Begun → Naming → List Token → Spelling → Token → Option State
names_step forms b k ns Name t = Some (in_state forms (row b (names k (ns ++ t ∷ []))))
names_step forms b k ns Semi t = Some (with_part forms b (part.Names ns t.place))
names_step forms b k ns _ t = None

-- the sign before a parent, which stands in front of all slots
abbrev pub sign_step : List Form → Begun → Option Parent → List Token → Place → Option State
sign_step forms b None [] place = Some (in_state forms (row b (tuple_parent place)))
sign_step forms b _ _ place = None

abbrev pub add_slot : List Form → Begun → Option Parent → List Token → Token → Option State
add_slot forms b p ns t = (if nat_lt (length ns) most_slots then Some (in_state forms (row b (tuple_slots p (ns ++ t ∷ [])))) else None)

abbrev pub sign_or_slot : List Form → Begun → Option Parent → List Token → Bool → Token → Option State
sign_or_slot forms b p ns true t = sign_step forms b p ns t.place
sign_or_slot forms b p ns false t = add_slot forms b p ns t

abbrev pub slots_step : List Form → Begun → Option Parent → List Token → Spelling → Token → Option State
slots_step forms b p ns Name t = sign_or_slot forms b p ns (is_parent_sign t) t
slots_step forms b p ns Semi t = Some (with_part forms b (part.Slots p ns t.place))
slots_step forms b p ns _ t = None

abbrev pub parent_step : List Form → Begun → Place → Spelling → Token → Option State
parent_step forms b place Name t = Some (in_state forms (row b (tuple_slots (Some (record { sign = place; class = t })) [])))
parent_step forms b place _ t = None

abbrev pub key_step : List Form → Begun → Key → Key → Place → Option State
key_step forms b Arrow Arrow place = Some (with_part forms b (part.Fixed Arrow place))

abbrev pub fixed_step : List Form → Begun → Key → Spelling → Token → Option State
fixed_step forms b key (Fixed other) t = key_step forms b key other t.place
fixed_step forms b key _ t = None

abbrev pub written : List Token → WrittenEffect
written ts = record { tokens = ts; effect = effect_of ts }

-- an effect with these tokens, by how far it is read
abbrev pub effect_with : List Form → Begun → Taking → List Token → Progress → Option State
effect_with forms b k ts (reading r) = Some (in_state forms (row b (effect k ts r)))
effect_with forms b k ts whole = Some (with_part forms b (part.Effect (written ts)))
effect_with forms b k ts (refused why) = None

-- whether the inputs of an effect may be what they are taken for, behind one more token
abbrev pub may_take : Taking → EffectReader → Spelling → Token → Bool
may_take Values r s t = true
may_take Locals r s t = may_stand r s t

abbrev pub effect_step : List Form → Begun → Taking → List Token → EffectReader → Spelling → Token → Option State
effect_step forms b k ts r s t = (if may_take k r s t then effect_with forms b k (ts ++ t ∷ []) (token_step r s t) else None)

abbrev pub row_items : Begun → Taking → List Element → List Context → Half → Open
row_items b k elements contexts h = row b (items k elements contexts h)

abbrev pub end_items : List Form → Begun → List Element → Bool → Place → Option State
end_items forms b elements ends place = (if ends then Some (with_part forms b (part.Items elements place)) else None)

-- whether a token is `;`
abbrev pub is_semi : Spelling → Bool
is_semi Semi = true
is_semi _ = false

abbrev pub end_or_add : List Form → Begun → Taking → List Element → List Context → Half → Bool → Spelling → Token → Option State
end_or_add forms b k elements contexts h true s t = end_items forms b elements (may_end contexts h) t.place
end_or_add forms b k elements contexts h false s t = with_grown (row_items b k) forms elements contexts (grow contexts h s t)

abbrev pub items_step : List Form → Begun → Taking → List Element → List Context → Half → Spelling → Token → Option State
items_step forms b k elements contexts h s t = end_or_add forms b k elements contexts h (is_semi s) s t

-- whether a bracket is open
abbrev pub is_open : List Context → Bool
is_open (c ∷ d ∷ contexts) = true
is_open _ = false

-- whether an element begins a literal
abbrev pub begins_literal : Element → Bool
begins_literal (element.Item (term.Literal t l)) = true
begins_literal (element.Item (term.Wrapped sign t)) = true
begins_literal (element.Opens bracket.Quotation place) = true
begins_literal (element.Opens bracket.Array place) = true
begins_literal _ = false

-- whether an element that is begun is a literal
abbrev pub is_literal_half : Half → Bool
is_literal_half (wrapping sign) = true
is_literal_half _ = false

-- a literal with one more element, which is whole where no bracket is open then
abbrev pub literal_with : List Form → Begun → List Element → Option (List Context) → Option State
literal_with forms b es (Some (c ∷ d ∷ contexts)) = Some (in_state forms (row b (literal es (c ∷ d ∷ contexts) no_half)))
literal_with forms b es (Some (c ∷ [])) = Some (with_part forms b (part.Literal es))
literal_with forms b es _ = None

abbrev pub literal_grown : List Form → Begun → List Element → List Context → Grown → Option State
literal_grown forms b elements contexts stuck = None
literal_grown forms b elements contexts (begun_as h) = (if is_open contexts || is_literal_half h then Some (in_state forms (row b (literal elements contexts h))) else None)
literal_grown forms b elements contexts (grown e) = (if is_open contexts || begins_literal e then literal_with forms b (elements ++ e ∷ []) (behind contexts e) else None)

abbrev pub literal_step : List Form → Begun → List Element → List Context → Half → Spelling → Token → Option State
literal_step forms b elements contexts h s t = literal_grown forms b elements contexts (grow contexts h s t)

-- the mark that a token is
abbrev pub mark_of : Spelling → Place → Option DefinitionMark
mark_of Inline place = Some (mark.Inline place)
mark_of Recursive place = Some (mark.Recursive place)
mark_of _ place = None

-- whether a mark may stand behind these: none stands twice, and a method has only the one
abbrev pub may_follow : Marked → List DefinitionMark → DefinitionMark → Bool
may_follow marked.Word [] m = true
may_follow marked.Word (mark.Inline place ∷ []) (mark.Recursive other) = true
may_follow marked.Word (mark.Recursive place ∷ []) (mark.Inline other) = true
may_follow marked.Method [] (mark.Inline place) = true
may_follow _ _ _ = false

abbrev pub with_mark : List Form → Begun → Marked → List DefinitionMark → DefinitionMark → Option State
with_mark forms b k ms m = (if may_follow k ms m then Some (in_state forms (row b (marks k (ms ++ m ∷ [])))) else None)

-- a mark, or the row ended before this token
abbrev pub mark_step : List Form → Begun → Marked → List DefinitionMark → Option DefinitionMark → Spelling → Token → Option State
mark_step forms b k ms (Some m) s t = with_mark forms b k ms m
mark_step forms b k ms None s t = top_step (forms ++ row_form (more b (part.Marks ms)) ∷ []) [] outside no_half s t

abbrev pub marks_step : List Form → Begun → Marked → List DefinitionMark → Spelling → Token → Option State
marks_step forms b k ms s t = mark_step forms b k ms (mark_of s t.place) s t

abbrev pub row_step : List Form → Begun → Within → Spelling → Token → Option State
row_step forms b (name k) s t = name_step forms b (named k s) t
row_step forms b (names k ns) s t = names_step forms b k ns (named k s) t
row_step forms b (tuple_slots p ns) s t = slots_step forms b p ns s t
row_step forms b (tuple_parent place) s t = parent_step forms b place s t
row_step forms b (fixed key) s t = fixed_step forms b key s t
row_step forms b (effect k ts r) s t = effect_step forms b k ts r s t
row_step forms b (items k elements contexts h) s t = items_step forms b k elements contexts h s t
row_step forms b (literal elements contexts h) s t = literal_step forms b elements contexts h s t
row_step forms b (marks k ms) s t = marks_step forms b k ms s t

abbrev pub open_step : List Form → Open → Spelling → Token → Option State
open_step forms (top elements contexts h) s t = top_step forms elements contexts h s t
open_step forms (row b w) s t = row_step forms b w s t

abbrev pub step : State → Token → Option State
step s t = open_step s.forms s.open_part (token_spelling t.kind) t

abbrev pub steps : Option State → List Token → Option State
steps o [] = o
steps None (t ∷ ts) = None
steps (Some s) (t ∷ ts) = steps (step s t) ts

-- the forms where the tokens end, unless something is open
abbrev pub ended_top : List Form → List Element → Bool → Option (List Form)
ended_top forms elements ends = (if ends then Some (with_run forms elements) else None)

abbrev pub ended_row : List Form → Begun → Within → Option (List Form)
ended_row forms b (marks k ms) = Some (forms ++ row_form (more b (part.Marks ms)) ∷ [])
ended_row forms b _ = None

abbrev pub ended_open : List Form → Open → Option (List Form)
ended_open forms (top elements contexts h) = ended_top forms elements (may_end contexts h)
ended_open forms (row b w) = ended_row forms b w

abbrev pub ended : State → Option (List Form)
ended s = ended_open s.forms s.open_part

-- The reader as it is in the code.

abbrev pub begun_at : Head → List Part → Begun
begun_at head parts = record { kind = head.kind; opens = head.opens; parts = parts }

abbrev pub contexts_of : Levels → List Context
contexts_of l = l.here ∷ l.outer

abbrev pub half_by : Unfinished → List Token → EffectReader → Half
half_by Nothing ns r = no_half
half_by (Bind sign) ns r = binding sign
half_by (Heading opens) ns r = heading opens ns
half_by (Wrap sign) ns r = wrapping sign
half_by (Call callee sign) ns r = calling callee sign ns r

abbrev pub half_of : Run → Half
half_of run = half_by run.unfinished run.names run.effect

-- whether items may end
abbrev pub run_ends : Run → Bool
run_ends run = may_end (contexts_of run.levels) (half_of run)

-- items that are held somewhere
abbrev pub held_of : (List Element → List Context → Half → Open) → Run → Open
held_of held run = held run.elements (contexts_of run.levels) (half_of run)

abbrev pub open_of : At → Reader → Open
open_of at.Top r = held_of top r.run
open_of (at.Name head k) r = row (begun_at head r.parts) (name k)
open_of (at.Names head k) r = row (begun_at head r.parts) (names k r.names)
open_of (at.Slots head) r = row (begun_at head r.parts) (tuple_slots r.parent r.names)
open_of (at.Parent head sign) r = row (begun_at head r.parts) (tuple_parent sign)
open_of (at.Fixed head key) r = row (begun_at head r.parts) (fixed key)
open_of (at.Effect head k) r = row (begun_at head r.parts) (effect k r.names r.effect)
open_of (at.Items head k) r = held_of (row_items (begun_at head r.parts) k) r.run
open_of (at.Literal head) r = row (begun_at head r.parts) (literal r.run.elements (contexts_of r.run.levels) (half_of r.run))
open_of (at.Marks head k) r = row (begun_at head r.parts) (marks k r.marks)

abbrev pub state_of : Reader → State
state_of r = in_state r.forms (open_of r.at r)

-- an effect that is open is read as far as its tokens
abbrev pub IsHalfRead : Half → Type 0
IsHalfRead (calling callee sign ts r) = behind_opens ts ≡ reading r
IsHalfRead _ = Unit {0}

abbrev pub IsWithinRead : Within → Type 0
IsWithinRead (effect k ts r) = after ts ≡ reading r
IsWithinRead (items k elements contexts h) = IsHalfRead h
IsWithinRead (literal elements contexts h) = IsHalfRead h
IsWithinRead _ = Unit {0}

abbrev pub IsRead : Open → Type 0
IsRead (top elements contexts h) = IsHalfRead h
IsRead (row b w) = IsWithinRead w

-- what taking a token answers: whether it goes on, and then the state behind it
abbrev pub Goes : Option State → State → Result Bool Memory → Type 0
Goes next s (Ok true) = next ≡ Some s
Goes next s (Ok false) = next ≡ None
Goes next s (Err e) = Unit {0}

-- likewise what is open among items
abbrev pub Passes : Option (List Context) → List Context → Result Bool Memory → Type 0
Passes next contexts (Ok true) = next ≡ Some contexts
Passes next contexts (Ok false) = next ≡ None
Passes next contexts (Err e) = Unit {0}

-- whether there is a list
abbrev pub is_there : Option (List Context) → Bool
is_there None = false
is_there (Some contexts) = true

-- the growth to an element, or to none
abbrev pub IsGrowth : Grown → Growth → Type 0
IsGrowth g Stuck = g ≡ stuck
IsGrowth g More = ⊥
IsGrowth g (Whole e) = g ≡ grown e

-- what growing the element that is begun answers, with the items before and after
abbrev pub Grows : Grown → Run → Run → Result Growth Memory → Type 0
Grows g run now (Ok Stuck) = g ≡ stuck
Grows g run now (Ok More) = (g ≡ begun_as (half_of now)) × (now.elements ≡ run.elements) × (now.levels ≡ run.levels)
Grows g run now (Ok (Whole e)) = (g ≡ grown e) × (now.elements ≡ run.elements) × (now.levels ≡ run.levels) × (now.unfinished ≡ Nothing)
Grows g run now (Err e) = Unit {0}

-- what adding an element answers, with the elements and what is open before and after it, wherever these are held
abbrev pub Adds : Option (List Context) → Element → Run → Run → Result Bool Memory → Type 0
Adds next e run now (Ok true) = (next ≡ Some (contexts_of now.levels)) × (now.elements ≡ run.elements ++ e ∷ []) × (now.unfinished ≡ run.unfinished)
Adds next e run now (Ok false) = next ≡ None
Adds next e run now (Err error) = Unit {0}

-- what taking a token among items answers, wherever these are held
abbrev pub Holds : Grown → Run → Run → Result Bool Memory → Type 0
Holds g run now answer =
    (held : List Element → List Context → Half → Open) (forms : List Form) → Goes (with_grown held forms run.elements (contexts_of run.levels) g) (in_state forms (held_of held now)) answer

-- what ending where the tokens end answers: whether nothing is open, and then the forms
abbrev pub Finishes : Option (List Form) → List Form → Result Bool Memory → Type 0
Finishes last forms (Ok true) = last ≡ Some forms
Finishes last forms (Ok false) = last ≡ None
Finishes last forms (Err e) = Unit {0}

-- a refusal behind so many tokens, unless they can't be counted
abbrev pub IsSyntax : ℕ → Why → ParseFault → Type 0
IsSyntax n why (Syntax at reason) = (at ≡ n + 1) × (reason ≡ why)
IsSyntax n why _ = Unit {0}
