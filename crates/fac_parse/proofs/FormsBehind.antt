-- What a token gives doesn't hang on the forms before it.
use Rattle.fac_parse.specs.inner.Reader.{Half, Grown, stuck, begun_as, grown, Within, name, names, tuple_slots, tuple_parent, fixed, effect, items, literal, marks, Begun, begun, Open, top, row, State, in_state, outside, no_half, row_form, at_slot, go_on, more, with_part, with_run, may_end, begin_row, with_element, with_grown, grow, begins, begin_or_add, top_step, name_step, names_step, sign_step, sign_or_slot, slots_step, parent_step, key_step, fixed_step, written, effect_with, may_take, effect_step, row_items, end_items, is_semi, end_or_add, is_open, begins_literal, is_literal_half, literal_with, literal_grown, mark_of, may_follow, mark_step, row_step, open_step, step, ended, ended_open}
use Rattle.std.proofs.Common.{◌≡◌, Bool, true, false, cond, List, [], ◌∷◌, ◌++◌, Option, Some, None, refl, ap, ◌∙◌, append_assoc, length}
use Rattle.std.specs.Prelude.{nat_lt, slice_get, ◌||◌}
use Rattle.fac_base.specs.declared.place.Place.{Place}
use Rattle.fac_source.specs.declared.token.Token.{Token}
use Rattle.fac_source.specs.declared.tree.Element.{Element}
use Rattle.fac_source.specs.declared.tree.DefinitionMark.{DefinitionMark}
use Rattle.fac_source.specs.declared.tree.FormKind.{FormKind}
use Rattle.fac_source.specs.declared.tree.Key.{Key}
use Rattle.fac_source.specs.declared.tree.Key.TheVariants.{Arrow}
use Rattle.fac_source.specs.declared.tree.Part.{Part}
use Rattle.fac_source.specs.declared.tree.Part.TheVariants as part
use Rattle.fac_source.specs.declared.tree.Parent.{Parent}
use Rattle.fac_source.specs.declared.tree.Form.{Form}
use Rattle.fac_parse.specs.declared.context.Context.{Context}
use Rattle.fac_source.specs.declared.form_table.Slot.{Slot}
use Rattle.fac_parse.specs.declared.form_parts.Naming.{Naming}
use Rattle.fac_parse.specs.declared.form_parts.Marked.{Marked}
use Rattle.fac_parse.specs.declared.form_parts.Taking.{Taking}
use Rattle.fac_effect.specs.declared.spelling.Spelling.{Spelling}
use Rattle.fac_effect.specs.declared.spelling.Spelling.TheVariants.{Fixed, Semi, Name}
use Rattle.fac_effect.specs.declared.effect_reader.EffectReader.{EffectReader}
use Rattle.fac_effect.specs.EffectReading.{Progress, reads as reading, whole, refused, step as token_step}
use Rattle.fac_effect.specs.Spellings.{token_spelling}
use Rattle.fac_parse.specs.Contexts.{behind}
use Rattle.fac_source.specs.FormRows.{slots_of}
use Rattle.fac_parse.specs.Trees.{named, most_slots, is_parent_sign}
use Rattle.fac_parse.specs.Handed.{behind_forms}

abbrev pub behind_next : List Form → Option State → Option State
behind_next g None = None
behind_next g (Some s) = Some (behind_forms g s)

cond_state : (g : List Form) (b : Bool) (s m : State) → s ≡ behind_forms g m → cond b (Some s) None ≡ behind_next g (cond b (Some m) None)
cond_state g true s m e = ap Some e
cond_state g false s m e = refl

cond_next : (g : List Form) (b : Bool) (o p : Option State) → o ≡ behind_next g p → cond b o None ≡ behind_next g (cond b p None)
cond_next g true o p e = e
cond_next g false o p e = refl

slot_begun : (g fs : List Form) (b : Begun) (o : Option Slot) → at_slot (g ++ fs) b o ≡ behind_forms g (at_slot fs b o)
slot_begun g fs b (Some s) = refl
slot_begun g fs b None = ap (λ (xs : List Form). in_state xs (top [] outside no_half)) (append_assoc g fs (row_form b ∷ []))

gone_on : (g fs : List Form) (b : Begun) → go_on (g ++ fs) b ≡ behind_forms g (go_on fs b)
gone_on g fs b = slot_begun g fs b (slice_get (slots_of b.kind) (length b.parts))

part_taken : (g fs : List Form) (b : Begun) (p : Part) → with_part (g ++ fs) b p ≡ behind_forms g (with_part fs b p)
part_taken g fs b p = gone_on g fs (more b p)

run_ended : (g fs : List Form) (es : List Element) → with_run (g ++ fs) es ≡ g ++ with_run fs es
run_ended g fs [] = refl
run_ended g fs (e ∷ es) = append_assoc g fs _

row_begun : (g fs : List Form) (kind : FormKind) (opens : Place) (es : List Element) (ends : Bool) → begin_row kind opens (g ++ fs) es ends ≡ behind_next g (begin_row kind opens fs es ends)
row_begun g fs kind opens es true = ap Some (ap (λ (xs : List Form). go_on xs (begun kind opens)) (run_ended g fs es) ∙ gone_on g (with_run fs es) (begun kind opens))
row_begun g fs kind opens es false = refl

element_held : (g fs : List Form) (held : List Element → List Context → Half → Open) (es : List Element) (e : Element) (o : Option (List Context)) → with_element held (g ++ fs) es e o ≡ behind_next g (with_element held fs es e o)
element_held g fs held es e None = refl
element_held g fs held es e (Some contexts) = refl

grown_held : (g fs : List Form) (held : List Element → List Context → Half → Open) (es : List Element) (contexts : List Context) (x : Grown) → with_grown held (g ++ fs) es contexts x ≡ behind_next g (with_grown held fs es contexts x)
grown_held g fs held es contexts stuck = refl
grown_held g fs held es contexts (begun_as h) = refl
grown_held g fs held es contexts (grown e) = element_held g fs held es e (behind contexts e)

top_by : (g fs : List Form) (es : List Element) (contexts : List Context) (h : Half) (o : Option FormKind) (s : Spelling) (t : Token) → begin_or_add (g ++ fs) es contexts h o s t ≡ behind_next g (begin_or_add fs es contexts h o s t)
top_by g fs es contexts h (Some kind) s t = row_begun g fs kind t.place es (may_end contexts h)
top_by g fs es contexts h None s t = grown_held g fs top es contexts (grow contexts h s t)

top_stepped : (g fs : List Form) (es : List Element) (contexts : List Context) (h : Half) (s : Spelling) (t : Token) → top_step (g ++ fs) es contexts h s t ≡ behind_next g (top_step fs es contexts h s t)
top_stepped g fs es contexts h s t = top_by g fs es contexts h (begins s) s t

name_stepped : (g fs : List Form) (b : Begun) (s : Spelling) (t : Token) → name_step (g ++ fs) b s t ≡ behind_next g (name_step fs b s t)
name_stepped g fs b Name t = ap Some (part_taken g fs b (part.Name t))
name_stepped g fs b _ t = refl

names_stepped : (g fs : List Form) (b : Begun) (k : Naming) (ns : List Token) (s : Spelling) (t : Token) → names_step (g ++ fs) b k ns s t ≡ behind_next g (names_step fs b k ns s t)
names_stepped g fs b k ns Name t = refl
names_stepped g fs b k ns Semi t = ap Some (part_taken g fs b (part.Names ns t.place))
names_stepped g fs b k ns _ t = refl

sign_stepped : (g fs : List Form) (b : Begun) (p : Option Parent) (ns : List Token) (place : Place) → sign_step (g ++ fs) b p ns place ≡ behind_next g (sign_step fs b p ns place)
sign_stepped g fs b None [] place = refl
sign_stepped g fs b None (n ∷ ns) place = refl
sign_stepped g fs b (Some q) ns place = refl

slot_stepped : (g fs : List Form) (b : Begun) (p : Option Parent) (ns : List Token) (is : Bool) (t : Token) → sign_or_slot (g ++ fs) b p ns is t ≡ behind_next g (sign_or_slot fs b p ns is t)
slot_stepped g fs b p ns true t = sign_stepped g fs b p ns t.place
slot_stepped g fs b p ns false t = cond_state g (nat_lt (length ns) most_slots) (in_state (g ++ fs) (row b (tuple_slots p (ns ++ t ∷ [])))) (in_state fs (row b (tuple_slots p (ns ++ t ∷ [])))) refl

slots_stepped : (g fs : List Form) (b : Begun) (p : Option Parent) (ns : List Token) (s : Spelling) (t : Token) → slots_step (g ++ fs) b p ns s t ≡ behind_next g (slots_step fs b p ns s t)
slots_stepped g fs b p ns Name t = slot_stepped g fs b p ns (is_parent_sign t) t
slots_stepped g fs b p ns Semi t = ap Some (part_taken g fs b (part.Slots p ns t.place))
slots_stepped g fs b p ns _ t = refl

parent_stepped : (g fs : List Form) (b : Begun) (place : Place) (s : Spelling) (t : Token) → parent_step (g ++ fs) b place s t ≡ behind_next g (parent_step fs b place s t)
parent_stepped g fs b place Name t = refl
parent_stepped g fs b place _ t = refl

key_stepped : (g fs : List Form) (b : Begun) (key other : Key) (place : Place) → key_step (g ++ fs) b key other place ≡ behind_next g (key_step fs b key other place)
key_stepped g fs b Arrow Arrow place = ap Some (part_taken g fs b (part.Fixed Arrow place))

fixed_stepped : (g fs : List Form) (b : Begun) (key : Key) (s : Spelling) (t : Token) → fixed_step (g ++ fs) b key s t ≡ behind_next g (fixed_step fs b key s t)
fixed_stepped g fs b key (Fixed other) t = key_stepped g fs b key other t.place
fixed_stepped g fs b key _ t = refl

effect_by : (g fs : List Form) (b : Begun) (k : Taking) (ts : List Token) (p : Progress) → effect_with (g ++ fs) b k ts p ≡ behind_next g (effect_with fs b k ts p)
effect_by g fs b k ts (reading r) = refl
effect_by g fs b k ts whole = ap Some (part_taken g fs b (part.Effect (written ts)))
effect_by g fs b k ts (refused why) = refl

effect_stepped : (g fs : List Form) (b : Begun) (k : Taking) (ts : List Token) (r : EffectReader) (s : Spelling) (t : Token) → effect_step (g ++ fs) b k ts r s t ≡ behind_next g (effect_step fs b k ts r s t)
effect_stepped g fs b k ts r s t =
    cond_next g (may_take k r s t) (effect_with (g ++ fs) b k (ts ++ t ∷ []) (token_step r s t)) (effect_with fs b k (ts ++ t ∷ []) (token_step r s t)) (effect_by g fs b k (ts ++ t ∷ []) (token_step r s t))

items_ended : (g fs : List Form) (b : Begun) (es : List Element) (ends : Bool) (place : Place) → end_items (g ++ fs) b es ends place ≡ behind_next g (end_items fs b es ends place)
items_ended g fs b es ends place = cond_state g ends (with_part (g ++ fs) b (part.Items es place)) (with_part fs b (part.Items es place)) (part_taken g fs b (part.Items es place))

items_by : (g fs : List Form) (b : Begun) (k : Taking) (es : List Element) (contexts : List Context) (h : Half) (is : Bool) (s : Spelling) (t : Token) → end_or_add (g ++ fs) b k es contexts h is s t ≡ behind_next g (end_or_add fs b k es contexts h is s t)
items_by g fs b k es contexts h true s t = items_ended g fs b es (may_end contexts h) t.place
items_by g fs b k es contexts h false s t = grown_held g fs (row_items b k) es contexts (grow contexts h s t)

literal_by : (g fs : List Form) (b : Begun) (es : List Element) (o : Option (List Context)) → literal_with (g ++ fs) b es o ≡ behind_next g (literal_with fs b es o)
literal_by g fs b es (Some (c ∷ d ∷ contexts)) = refl
literal_by g fs b es (Some (c ∷ [])) = ap Some (part_taken g fs b (part.Literal es))
literal_by g fs b es (Some []) = refl
literal_by g fs b es None = refl

literal_stepped : (g fs : List Form) (b : Begun) (es : List Element) (contexts : List Context) (x : Grown) → literal_grown (g ++ fs) b es contexts x ≡ behind_next g (literal_grown fs b es contexts x)
literal_stepped g fs b es contexts stuck = refl
literal_stepped g fs b es contexts (begun_as h) = cond_state g (is_open contexts || is_literal_half h) (in_state (g ++ fs) (row b (literal es contexts h))) (in_state fs (row b (literal es contexts h))) refl
literal_stepped g fs b es contexts (grown e) =
    cond_next g (is_open contexts || begins_literal e) (literal_with (g ++ fs) b (es ++ e ∷ []) (behind contexts e)) (literal_with fs b (es ++ e ∷ []) (behind contexts e)) (literal_by g fs b (es ++ e ∷ []) (behind contexts e))

mark_stepped : (g fs : List Form) (b : Begun) (k : Marked) (ms : List DefinitionMark) (o : Option DefinitionMark) (s : Spelling) (t : Token) → mark_step (g ++ fs) b k ms o s t ≡ behind_next g (mark_step fs b k ms o s t)
mark_stepped g fs b k ms (Some m) s t = cond_state g (may_follow k ms m) (in_state (g ++ fs) (row b (marks k (ms ++ m ∷ [])))) (in_state fs (row b (marks k (ms ++ m ∷ [])))) refl
mark_stepped g fs b k ms None s t =
    let ended_row = row_form (more b (part.Marks ms)) ∷ [] in
    ap (λ (xs : List Form). top_step xs [] outside no_half s t) (append_assoc g fs ended_row) ∙ top_stepped g (fs ++ ended_row) [] outside no_half s t

row_stepped : (g fs : List Form) (b : Begun) (w : Within) (s : Spelling) (t : Token) → row_step (g ++ fs) b w s t ≡ behind_next g (row_step fs b w s t)
row_stepped g fs b (name k) s t = name_stepped g fs b (named k s) t
row_stepped g fs b (names k ns) s t = names_stepped g fs b k ns (named k s) t
row_stepped g fs b (tuple_slots p ns) s t = slots_stepped g fs b p ns s t
row_stepped g fs b (tuple_parent place) s t = parent_stepped g fs b place s t
row_stepped g fs b (fixed key) s t = fixed_stepped g fs b key s t
row_stepped g fs b (effect k ts r) s t = effect_stepped g fs b k ts r s t
row_stepped g fs b (items k es contexts h) s t = items_by g fs b k es contexts h (is_semi s) s t
row_stepped g fs b (literal es contexts h) s t = literal_stepped g fs b es contexts (grow contexts h s t)
row_stepped g fs b (marks k ms) s t = mark_stepped g fs b k ms (mark_of s t.place) s t

open_stepped : (g fs : List Form) (o : Open) (s : Spelling) (t : Token) → open_step (g ++ fs) o s t ≡ behind_next g (open_step fs o s t)
open_stepped g fs (top es contexts h) s t = top_stepped g fs es contexts h s t
open_stepped g fs (row b w) s t = row_stepped g fs b w s t

pub step_behind : (g : List Form) (s : State) (t : Token) → step (behind_forms g s) t ≡ behind_next g (step s t)
step_behind g s t = open_stepped g s.forms s.open_part (token_spelling t.kind) t

-- Where the tokens end.

abbrev pub behind_ended : List Form → Option (List Form) → Option (List Form)
behind_ended g None = None
behind_ended g (Some fs) = Some (g ++ fs)

run_last : (g fs : List Form) (es : List Element) (ends : Bool) → cond ends (Some (with_run (g ++ fs) es)) None ≡ behind_ended g (cond ends (Some (with_run fs es)) None)
run_last g fs es true = ap Some (run_ended g fs es)
run_last g fs es false = refl

open_ended : (g fs : List Form) (o : Open) → ended_open (g ++ fs) o ≡ behind_ended g (ended_open fs o)
open_ended g fs (top es contexts h) = run_last g fs es (may_end contexts h)
open_ended g fs (row b (marks k ms)) = ap Some (append_assoc g fs (row_form (more b (part.Marks ms)) ∷ []))
open_ended g fs (row b (name k)) = refl
open_ended g fs (row b (names k ns)) = refl
open_ended g fs (row b (tuple_slots p ns)) = refl
open_ended g fs (row b (tuple_parent place)) = refl
open_ended g fs (row b (fixed key)) = refl
open_ended g fs (row b (effect k ts r)) = refl
open_ended g fs (row b (items k es contexts h)) = refl
open_ended g fs (row b (literal es contexts h)) = refl

pub ended_behind : (g : List Form) (s : State) → ended (behind_forms g s) ≡ behind_ended g (ended s)
ended_behind g s = open_ended g s.forms s.open_part
