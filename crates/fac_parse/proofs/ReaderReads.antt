-- The tokens of a well-formed tree are read, to that tree.
use Rattle.fac_parse.specs.inner.Reader.{Half, no_half, binding, heading, wrapping, calling, Grown, stuck, begun_as, grown, literal, literal_with, literal_grown, Within, name, names, tuple_slots, tuple_parent, fixed, effect, items, marks, Begun, begun, Open, top, row, State, in_state, outside, start, row_form, row_ended, last_inputs, at_slot, go_on, more, with_part, name_step, names_step, sign_or_slot, is_local, half_where, begin_element, call_of, call_with, grow, with_element, with_grown, begins, begin_or_add, top_step, written, effect_with, may_take, row_items, is_semi, end_or_add, mark_of, may_follow, mark_step, open_step, step, steps, ended}
use Rattle.fac_parse.specs.Contexts.{items_in, inside, counted, uncounted, bound, opened_locals, behind, locals_in, most_levels, most_locals}
use Rattle.fac_parse.specs.Trees.{IsLiteral, Encloses, element_tokens, items_tokens, mark_token, marks_tokens, part_tokens, parts_tokens, form_tokens, flatten, named, IsName, AreNames, AreLocalNames, most_slots, AreSlots, IsParent, IsDeclared, IsElement, Lead, AreMarks, inputs_of, Fills, FillFrom, FillAll, IsWellFormed, Reads}
use Rattle.fac_parse.proofs.StateTokens.{open_inside, Filled, filled_more, inputs_last, first_of, next_slot, MarksLast, marks_last}
use Rattle.std.proofs.Common.{◌≡◌, ℕ, ◌≤◌, Bool, true, false, cond, List, [], ◌∷◌, ◌++◌, Option, Some, None, refl, ap, sym, ◌∙◌, subst, append_assoc, append-nil, arith, length, length-append, le-leb, leb-true}
use Rattle.std.specs.Prelude.{codes, nat_lt, nat_le, ◌&&◌, ◌+◌}
use Rattle.std.proofs.lemmas.Bool.Decides.{Decides-ltb}
use Rattle.fac_base.specs.declared.place.Place.{Place}
use Rattle.fac_source.specs.declared.token.Token.{Token}
use Rattle.fac_source.specs.declared.token.TokKind.TheVariants.{Plain}
use Rattle.fac_source.specs.declared.tree.Term.TheVariants as term
use Rattle.fac_source.specs.declared.tree.Element.{Element}
use Rattle.fac_source.specs.declared.tree.Element.TheVariants as element
use Rattle.fac_source.specs.declared.tree.DefinitionMark.{DefinitionMark}
use Rattle.fac_source.specs.declared.tree.DefinitionMark.TheVariants as mark
use Rattle.fac_source.specs.declared.tree.FormKind.{FormKind}
use Rattle.fac_source.specs.declared.tree.Key.{Key}
use Rattle.fac_source.specs.declared.tree.Key.TheVariants.{Arrow}
use Rattle.fac_source.specs.declared.tree.Part.{Part}
use Rattle.fac_source.specs.declared.tree.Part.TheVariants as part
use Rattle.fac_source.specs.declared.tree.Parent.{Parent}
use Rattle.fac_source.specs.declared.tree.Form.{Form}
use Rattle.fac_source.specs.declared.tree.Form.TheVariants.{Row, Items}
use Rattle.fac_parse.specs.declared.context.Context.{Context}
use Rattle.fac_source.specs.declared.form_table.Slot.{Slot}
use Rattle.fac_source.specs.declared.form_table.Slot.TheVariants as slot
use Rattle.fac_parse.specs.declared.form_parts.Naming.{Naming}
use Rattle.fac_parse.specs.declared.form_parts.Naming.TheVariants as naming
use Rattle.fac_parse.specs.declared.form_parts.Marked.{Marked}
use Rattle.fac_parse.specs.declared.form_parts.Marked.TheVariants as marked
use Rattle.fac_effect.specs.declared.spelling.Spelling.{Spelling}
use Rattle.fac_effect.specs.declared.spelling.Spelling.TheVariants.{Begins, Fixed, Semi, OpensBracket, ClosesBracket, OpensLocals, Bar, Binds, Hole, CalledHole, Inline, Recursive, NextMethod, Wraps, EffectCall, Literal, Name}
use Rattle.fac_base.specs.declared.height.Height.{Height}
use Rattle.fac_source.specs.declared.tree.Callee.{Callee}
use Rattle.fac_base.specs.Effects.{effect_height}
use Rattle.fac_base.specs.Signatures.{Signature}
use Rattle.fac_effect.specs.declared.effect_reader.EffectReader.{EffectReader}
use Rattle.fac_effect.specs.declared.effect_reader.EffectWhy.{EffectWhy}
use Rattle.fac_effect.specs.declared.effect_reader.EffectWhy.TheVariants.{Form as bad_form}
use Rattle.fac_effect.specs.EffectReading.{Progress, reads as reading, whole as whole_effect, refused, start as no_tokens, opened as opened_effect, step as token_step, all_pass, run}
use Rattle.fac_effect.proofs.EffectRuns.{refused_stays}
use Rattle.fac_effect.proofs.EffectLemmas.{effect_is_whole}
use Rattle.fac_effect.specs.LocalNames.{may_stand, all_may_stand}
use Rattle.fac_effect.specs.RowlessEffects.{is_no_row}
use Rattle.fac_effect.proofs.RowlessLemmas.{rowless_is_whole}
use Rattle.fac_effect.proofs.LocalNameLemmas.{inputs_are_named}
use Rattle.fac_source.specs.declared.tree.Bracket.{Bracket}
use Rattle.fac_source.specs.declared.tree.Bracket.TheVariants.{Quotation, Array, Fry}
use Rattle.fac_parse.specs.declared.form_parts.Taking.{Taking}
use Rattle.fac_parse.specs.declared.form_parts.Taking.TheVariants.{Values, Locals}
use Rattle.fac_effect.specs.WrittenEffects.{IsEffect}
use Rattle.fac_source.specs.FormRows.{kind_begun, head_of, slots_of}
use Rattle.fac_effect.specs.Spellings.{wrap_text, call_text, opening_text, token_spelling, plain_token, spelling_of, has_integer_form, word_spelling, sign_spelling, reserved_spelling}
use Rattle.fac_effect.proofs.SpellingLemmas.{sign_is}

none_steps : (ts : List Token) → steps None ts ≡ None
none_steps [] = refl
none_steps (t ∷ ts) = refl

pub steps-append : (o : Option State) (xs ys : List Token) → steps o (xs ++ ys) ≡ steps (steps o xs) ys
steps-append o [] ys = refl
steps-append None (t ∷ xs) ys = sym (none_steps ys)
steps-append (Some s) (t ∷ xs) ys = steps-append (step s t) xs ys

-- one behind the other
pub chain : (s m : State) (xs ys : List Token) (o : Option State) → steps (Some s) xs ≡ Some m → steps (Some m) ys ≡ o → steps (Some s) (xs ++ ys) ≡ o
chain s m xs ys o h k = steps-append (Some s) xs ys ∙ ap (λ (x : Option State). steps x ys) h ∙ k

pub one : (s m : State) (t : Token) (ts : List Token) (o : Option State) → step s t ≡ Some m → steps (Some m) ts ≡ o → steps (Some s) (t ∷ ts) ≡ o
one s m t ts o h k = ap (λ (x : Option State). steps x ts) h ∙ k

-- a token by its spelling
pub by_spelling : (forms : List Form) (o : Open) (t : Token) (s : Spelling) → token_spelling t.kind ≡ s → step (in_state forms o) t ≡ open_step forms o s t
by_spelling forms o t s h = ap (λ (x : Spelling). open_step forms o x t) h

-- Names.

pub named_name : (k : Naming) → named k Name ≡ Name
named_name naming.Any = refl
named_name naming.Class = refl

named_semi : (k : Naming) → named k Semi ≡ Semi
named_semi naming.Any = refl
named_semi naming.Class = refl

pub name_read : (forms : List Form) (b : Begun) (k : Naming) (t : Token) → IsName k t → step (in_state forms (row b (name k))) t ≡ Some (with_part forms b (part.Name t))
name_read forms b k t h = ap (λ (s : Spelling). name_step forms b s t) h

pub names_end : (forms : List Form) (b : Begun) (k : Naming) (ns : List Token) (ends : Place) → step (in_state forms (row b (names k ns))) (plain_token ends (codes ";")) ≡ Some (with_part forms b (part.Names ns ends))
names_end forms b k ns ends =
    let t = plain_token ends (codes ";") in
    by_spelling forms (row b (names k ns)) t Semi (sign_is Semi tt) ∙ ap (λ (s : Spelling). names_step forms b k ns s t) (named_semi k)

names_read : (forms : List Form) (b : Begun) (k : Naming) (ns ms : List Token) → AreNames k ms → steps (Some (in_state forms (row b (names k ns)))) ms ≡ Some (in_state forms (row b (names k (ns ++ ms))))
names_read forms b k ns [] h = ap (λ (x : List Token). Some (in_state forms (row b (names k x)))) (sym (append-nil ns))
names_read forms b k ns (t ∷ ms) h =
    one (in_state forms (row b (names k ns))) (in_state forms (row b (names k (ns ++ t ∷ [])))) t ms _ (ap (λ (s : Spelling). names_step forms b k ns s t) h.0)
    (names_read forms b k (ns ++ t ∷ []) ms h.1 ∙ ap (λ (x : List Token). Some (in_state forms (row b (names k x)))) (append_assoc ns (t ∷ []) ms))

-- Slots of a tuple class.

has_room : (ns : List Token) (t : Token) (ms : List Token) (most : ℕ) → length (ns ++ t ∷ ms) ≤ most → nat_lt (length ns) most ≡ true
has_room ns t ms most h = let both = length-append ns (t ∷ ms) in (Decides-ltb (length ns) most).1 (omega (arith, h, both))

slots_read : (forms : List Form) (b : Begun) (p : Option Parent) (ns ms : List Token) → AreSlots ms → length (ns ++ ms) ≤ most_slots → steps (Some (in_state forms (row b (tuple_slots p ns)))) ms ≡ Some (in_state forms (row b (tuple_slots p (ns ++ ms))))
slots_read forms b p ns [] h few = ap (λ (x : List Token). Some (in_state forms (row b (tuple_slots p x)))) (sym (append-nil ns))
slots_read forms b p ns (t ∷ ms) h few =
    let next = in_state forms (row b (tuple_slots p (ns ++ t ∷ []))) in
    one (in_state forms (row b (tuple_slots p ns))) next t ms _
    (by_spelling forms (row b (tuple_slots p ns)) t Name h.0 ∙ ap (λ (x : Bool). sign_or_slot forms b p ns x t) h.1 ∙ ap (λ (x : Bool). cond x (Some next) None) (has_room ns t ms most_slots few))
    (slots_read forms b p (ns ++ t ∷ []) ms h.2 (subst (λ (x : List Token). length x ≤ most_slots) (sym (append_assoc ns (t ∷ []) ms)) few) ∙ ap (λ (x : List Token). Some (in_state forms (row b (tuple_slots p x)))) (append_assoc ns (t ∷ []) ms))

pub slots_end : (forms : List Form) (b : Begun) (p : Option Parent) (ns : List Token) (ends : Place) → step (in_state forms (row b (tuple_slots p ns))) (plain_token ends (codes ";")) ≡ Some (with_part forms b (part.Slots p ns ends))
slots_end forms b p ns ends = by_spelling forms (row b (tuple_slots p ns)) (plain_token ends (codes ";")) Semi (sign_is Semi tt)

all_slots_read : (forms : List Form) (b : Begun) (p : Option Parent) (ns : List Token) (ends : Place) → AreSlots ns → length ns ≤ most_slots → steps (Some (in_state forms (row b (tuple_slots p [])))) (ns ++ plain_token ends (codes ";") ∷ []) ≡ Some (with_part forms b (part.Slots p ns ends))
all_slots_read forms b p ns ends h few =
    chain (in_state forms (row b (tuple_slots p []))) (in_state forms (row b (tuple_slots p ns))) ns (plain_token ends (codes ";") ∷ []) _ (slots_read forms b p [] ns h few) (slots_end forms b p ns ends)

sign_is_name : token_spelling (Plain (codes "<")) ≡ Name
unfolding spelling_of has_integer_form word_spelling sign_spelling kind_begun reserved_spelling
sign_is_name = refl

sign_read : (forms : List Form) (b : Begun) (place : Place) → step (in_state forms (row b (tuple_slots None []))) (plain_token place (codes "<")) ≡ Some (in_state forms (row b (tuple_parent place)))
sign_read forms b place = by_spelling forms (row b (tuple_slots None [])) (plain_token place (codes "<")) Name sign_is_name

slots_part_read : (forms : List Form) (b : Begun) (p : Option Parent) (ns : List Token) (ends : Place) → IsParent p → AreSlots ns → length ns ≤ most_slots → steps (Some (in_state forms (row b (tuple_slots None [])))) (part_tokens (part.Slots p ns ends)) ≡ Some (with_part forms b (part.Slots p ns ends))
slots_part_read forms b None ns ends i h few = all_slots_read forms b None ns ends h few
slots_part_read forms b (Some q) ns ends i h few =
    let rest = ns ++ plain_token ends (codes ";") ∷ [] in
    one (in_state forms (row b (tuple_slots None []))) (in_state forms (row b (tuple_parent q.sign))) (plain_token q.sign (codes "<")) (q.class ∷ rest) _ (sign_read forms b q.sign)
    (one (in_state forms (row b (tuple_parent q.sign))) (in_state forms (row b (tuple_slots (Some q) []))) q.class rest _ (by_spelling forms (row b (tuple_parent q.sign)) q.class Name i) (all_slots_read forms b (Some q) ns ends h few))

-- Effects.

never_whole : (why : EffectWhy) (ts : List Token) → run (refused why) ts ≡ whole_effect → ⊥
never_whole why ts h = let same = refused_stays why ts in cc

-- whether all of these tokens may follow
abbrev pub AllTaken : Taking → EffectReader → List Token → Type 0
AllTaken Values r ts = Unit {0}
AllTaken Locals r ts = all_may_stand (reading r) ts ≡ true

abbrev TakenFrom : Taking → Progress → List Token → Type 0
TakenFrom k (reading r) ts = AllTaken k r ts
TakenFrom k p ts = Unit {0}

all_from : (p : Progress) (ts : List Token) → all_may_stand p ts ≡ true → TakenFrom Locals p ts
all_from (reading r) ts h = h
all_from whole_effect ts h = tt
all_from (refused why) ts h = tt

values_from : (p : Progress) (ts : List Token) → TakenFrom Values p ts
values_from (reading r) ts = tt
values_from whole_effect ts = tt
values_from (refused why) ts = tt

pub both : (a b : Bool) → (a && b) ≡ true → (a ≡ true) × (b ≡ true)
both true b h = (refl, h)
both false b h = cc

taken_next : (k : Taking) (r : EffectReader) (t : Token) (ts : List Token) → AllTaken k r (t ∷ ts) → (may_take k r (token_spelling t.kind) t ≡ true) × TakenFrom k (token_step r (token_spelling t.kind) t) ts
taken_next Values r t ts h = (refl, values_from (token_step r (token_spelling t.kind) t) ts)
taken_next Locals r t ts h =
    let all = both (may_stand r (token_spelling t.kind) t) (all_may_stand (token_step r (token_spelling t.kind) t) ts) h in
    (all.0, all_from (token_step r (token_spelling t.kind) t) ts all.1)

effect_next : (forms : List Form) (b : Begun) (k : Taking) (ts us : List Token) (p : Progress) → run p us ≡ whole_effect → TakenFrom k p us → ((r : EffectReader) → run (reading r) us ≡ whole_effect → AllTaken k r us → steps (Some (in_state forms (row b (effect k ts r)))) us ≡ Some (with_part forms b (part.Effect (written (ts ++ us))))) → steps (effect_with forms b k ts p) us ≡ Some (with_part forms b (part.Effect (written (ts ++ us))))
effect_next forms b k ts us (reading r) h all later = later r h all
effect_next forms b k ts [] whole_effect h all later = ap (λ (x : List Token). Some (with_part forms b (part.Effect (written x)))) (sym (append-nil ts))
effect_next forms b k ts (u ∷ us) whole_effect h all later = absurd (never_whole bad_form us h)
effect_next forms b k ts us (refused why) h all later = absurd (never_whole why us h)

pub effect_read : (forms : List Form) (b : Begun) (k : Taking) (ts us : List Token) (r : EffectReader) → run (reading r) us ≡ whole_effect → AllTaken k r us → steps (Some (in_state forms (row b (effect k ts r)))) us ≡ Some (with_part forms b (part.Effect (written (ts ++ us))))
effect_read forms b k ts [] r h all = cc
effect_read forms b k ts (u ∷ us) r h all =
    let next = taken_next k r u us all in
    ap (λ (x : Bool). steps (cond x (effect_with forms b k (ts ++ u ∷ []) (token_step r (token_spelling u.kind) u)) None) us) next.0
    ∙ effect_next forms b k (ts ++ u ∷ []) us (token_step r (token_spelling u.kind) u) h next.1 (λ r l all. effect_read forms b k (ts ++ u ∷ []) us r l all)
    ∙ ap (λ (x : List Token). Some (with_part forms b (part.Effect (written x)))) (append_assoc ts (u ∷ []) us)

effect_part_read : (forms : List Form) (b : Begun) (k : Taking) (ts : List Token) (e : Signature) → IsEffect ts e → AllTaken k no_tokens ts → steps (Some (in_state forms (row b (effect k [] no_tokens)))) ts ≡ Some (with_part forms b (part.Effect (record { tokens = ts; effect = e })))
effect_part_read forms b k ts e h all =
    let is = effect_is_whole ts e h in
    effect_read forms b k [] ts no_tokens is.0 all ∙ ap (λ (x : Signature). Some (with_part forms b (part.Effect (record { tokens = ts; effect = x })))) is.1

-- Elements.

-- no row begins with a token of this spelling, and it ends no row
abbrev InItems : Spelling → Type 0
InItems s = (begins s ≡ None) × (is_semi s ≡ false)

-- what a token gives where an element is begun, by what one that is whole gives
abbrev pub grown_to : (Half → State) → (Element → Option State) → Grown → Option State
grown_to state put stuck = None
grown_to state put (begun_as h) = Some (state h)
grown_to state put (grown e) = put e

-- where this is open, tokens are taken so
pub record Takes (contexts : List Context) (state : Half → State) (put : Element → Option State) : Type 0 where
  pub takes : (h : Half) (t : Token) → begins (token_spelling t.kind) ≡ None → is_semi (token_spelling t.kind) ≡ false → step (state h) t ≡ grown_to state put (grow contexts h (token_spelling t.kind) t)

pub taken : (contexts : List Context) (state : Half → State) (put : Element → Option State) → Takes contexts state put → (h : Half) (t : Token) (s : Spelling) → token_spelling t.kind ≡ s → InItems s → step (state h) t ≡ grown_to state put (grow contexts h s t)
taken contexts state put takes h t s e is =
    takes.takes h t (ap begins e ∙ is.0) (ap is_semi e ∙ is.1) ∙ ap (λ (x : Spelling). grown_to state put (grow contexts h x t)) e

test_true : (x : Bool) (y z : List Context) → cond x (Some y) None ≡ Some z → x ≡ true
test_true true y z h = refl
test_true false y z h = cc

tested : (x : Bool) (y : List Context) → x ≡ true → (m : List Context) × (cond x (Some y) None ≡ Some m)
tested true y h = (y, refl)
tested false y h = cc

both_true : (a b : Bool) → a ≡ true → b ≡ true → (a && b) ≡ true
both_true true b h k = k
both_true false b h k = cc

fewer_fit : (n j k most : ℕ) → j ≤ k → nat_le (n + k) most ≡ true → nat_le (n + j) most ≡ true
fewer_fit n j k most less h = let few = leb-true (n + k) most h in le-leb (n + j) most (omega (arith, few, less))

-- where so many locals have room, fewer have
opened_fewer : (j k : ℕ) (o : Option (List Context)) (next : List Context) → j ≤ k → opened_locals k o ≡ Some next → (m : List Context) × (opened_locals j o ≡ Some m)
opened_fewer j k None next less h = cc
opened_fewer j k (Some []) next less h = cc
opened_fewer j k (Some (c ∷ cs)) next less h =
    let deep = nat_lt (length cs) most_levels in
    let fit = both deep (nat_le (locals_in c.locals + k) most_locals) (test_true (deep && nat_le (locals_in c.locals + k) most_locals) _ next h) in
    tested (deep && nat_le (locals_in c.locals + j) most_locals) _ (both_true deep (nat_le (locals_in c.locals + j) most_locals) fit.0 (fewer_fit (locals_in c.locals) j k most_locals less fit.1))

-- an element of one token
alone_read : (contexts : List Context) (state : Half → State) (put : Element → Option State) → Takes contexts state put → (t : Token) (s : Spelling) (e : Element) → token_spelling t.kind ≡ s → InItems s → begin_element contexts s t ≡ grown e → steps (Some (state no_half)) (t ∷ []) ≡ put e
alone_read contexts state put takes t s e h is makes = taken contexts state put takes no_half t s h is ∙ ap (grown_to state put) makes

-- `:>` and a name
bind_read : (contexts : List Context) (state : Half → State) (put : Element → Option State) → Takes contexts state put → (sign : Place) (t : Token) (next : List Context) → token_spelling t.kind ≡ Name → is_local t ≡ true → bound (uncounted contexts) ≡ Some next → steps (Some (state no_half)) (plain_token sign (codes ":>") ∷ t ∷ []) ≡ put (element.Item (term.Bind sign t))
bind_read contexts state put takes sign t next h l e =
    one (state no_half) (state (binding sign)) (plain_token sign (codes ":>")) (t ∷ []) _
    (taken contexts state put takes no_half (plain_token sign (codes ":>")) Binds (sign_is Binds tt) (refl, refl) ∙ ap (λ (o : Option (List Context)). grown_to state put (half_where o (binding sign))) e)
    (taken contexts state put takes (binding sign) t Name h (refl, refl) ∙ ap (λ (x : Bool). grown_to state put (cond x (grown (element.Item (term.Bind sign t))) stuck)) l)

-- the names of a quotation with locals, and its bar
pub heading_read : (contexts : List Context) (state : Half → State) (put : Element → Option State) → Takes contexts state put → (opens bar : Place) (ns ms : List Token) (next : List Context) → AreLocalNames ms → opened_locals (length (ns ++ ms)) (uncounted contexts) ≡ Some next → steps (Some (state (heading opens ns))) (ms ++ plain_token bar (codes "|") ∷ []) ≡ put (element.OpensLocals opens (ns ++ ms) bar)
heading_read contexts state put takes opens bar ns [] next are e =
    taken contexts state put takes (heading opens ns) (plain_token bar (codes "|")) Bar (sign_is Bar tt) (refl, refl) ∙ ap (λ (x : List Token). put (element.OpensLocals opens x bar)) (sym (append-nil ns))
heading_read contexts state put takes opens bar ns (t ∷ ms) next are e =
    let more_names = ns ++ t ∷ [] in
    let same : more_names ++ ms ≡ ns ++ t ∷ ms = append_assoc ns (t ∷ []) ms in
    let room_for : opened_locals (length (more_names ++ ms)) (uncounted contexts) ≡ Some next = ap (λ (x : List Token). opened_locals (length x) (uncounted contexts)) same ∙ e in
    let longer = length-append more_names ms in
    let room = opened_fewer (length more_names) (length (more_names ++ ms)) (uncounted contexts) next (omega (arith, longer)) room_for in
    one (state (heading opens ns)) (state (heading opens more_names)) t (ms ++ plain_token bar (codes "|") ∷ []) _
    (taken contexts state put takes (heading opens ns) t Name are.0.0 (refl, refl)
    ∙ ap (λ (x : Bool). grown_to state put (cond x (half_where (opened_locals (length more_names) (uncounted contexts)) (heading opens more_names)) stuck)) are.0.1
    ∙ ap (λ (o : Option (List Context)). grown_to state put (half_where o (heading opens more_names))) room.1)
    (heading_read contexts state put takes opens bar more_names ms next are.1 room_for ∙ ap (λ (x : List Token). put (element.OpensLocals opens x bar)) same)

locals_read : (contexts : List Context) (state : Half → State) (put : Element → Option State) → Takes contexts state put → (opens bar : Place) (ns : List Token) (next : List Context) → AreLocalNames ns → opened_locals (length ns) (uncounted contexts) ≡ Some next → steps (Some (state no_half)) (plain_token opens (codes "[|") ∷ ns ++ plain_token bar (codes "|") ∷ []) ≡ put (element.OpensLocals opens ns bar)
locals_read contexts state put takes opens bar ns next are e =
    let room = opened_fewer 0 (length ns) (uncounted contexts) next (omega arith) e in
    one (state no_half) (state (heading opens [])) (plain_token opens (codes "[|")) (ns ++ plain_token bar (codes "|") ∷ []) _
    (taken contexts state put takes no_half (plain_token opens (codes "[|")) OpensLocals (sign_is OpensLocals tt) (refl, refl) ∙ ap (λ (o : Option (List Context)). grown_to state put (half_where o (heading opens []))) room.1)
    (heading_read contexts state put takes opens bar [] ns next are e)

-- `\` and a name
wrap_read : (contexts : List Context) (state : Half → State) (put : Element → Option State) → Takes contexts state put → (sign : Place) (t : Token) (next : List Context) → token_spelling t.kind ≡ Name → counted contexts ≡ Some next → steps (Some (state no_half)) (plain_token sign wrap_text ∷ t ∷ []) ≡ put (element.Item (term.Wrapped sign t))
wrap_read contexts state put takes sign t next h e =
    one (state no_half) (state (wrapping sign)) (plain_token sign wrap_text) (t ∷ []) _
    (taken contexts state put takes no_half (plain_token sign wrap_text) Wraps (sign_is Wraps tt) (refl, refl) ∙ ap (λ (o : Option (List Context)). grown_to state put (half_where o (wrapping sign))) e)
    (taken contexts state put takes (wrapping sign) t Name h (refl, refl))

-- a token of an effect begins and ends no row
in_effect : (s : Spelling) (r : EffectReader) (t : Token) (us : List Token) → run (token_step r s t) us ≡ whole_effect → InItems s
in_effect (Begins kind) r t us h = absurd (never_whole bad_form us h)
in_effect Semi r t us h = absurd (never_whole bad_form us h)
in_effect _ r t us h = (refl, refl)

declared_next : (state : Half → State) (put : Element → Option State) (callee : Callee) (sign : Place) (ts us : List Token) (p : Progress) → run p us ≡ whole_effect → all_pass is_no_row p us ≡ true → ((r : EffectReader) → run (reading r) us ≡ whole_effect → all_pass is_no_row (reading r) us ≡ true → steps (Some (state (calling callee sign ts r))) us ≡ put (call_of callee sign (ts ++ us))) → steps (grown_to state put (call_with callee sign ts p)) us ≡ put (call_of callee sign (ts ++ us))
declared_next state put callee sign ts us (reading r) h none later = later r h none
declared_next state put callee sign ts [] whole_effect h none later = ap (λ (x : List Token). put (call_of callee sign x)) (sym (append-nil ts))
declared_next state put callee sign ts (u ∷ us) whole_effect h none later = absurd (never_whole bad_form us h)
declared_next state put callee sign ts us (refused why) h none later = absurd (never_whole why us h)

-- tokens of the effect of a call behind others
pub declared_read : (contexts : List Context) (state : Half → State) (put : Element → Option State) → Takes contexts state put → (callee : Callee) (sign : Place) (ts us : List Token) (r : EffectReader) → run (reading r) us ≡ whole_effect → all_pass is_no_row (reading r) us ≡ true → steps (Some (state (calling callee sign ts r))) us ≡ put (call_of callee sign (ts ++ us))
declared_read contexts state put takes callee sign ts [] r h none = cc
declared_read contexts state put takes callee sign ts (u ∷ us) r h none =
    let s = token_spelling u.kind in
    let next = token_step r s u in
    let tests = both (is_no_row r s u) (all_pass is_no_row next us) none in
    ap (λ (o : Option State). steps o us) (taken contexts state put takes (calling callee sign ts r) u s refl (in_effect s r u us h) ∙ ap (λ (x : Bool). grown_to state put (cond x (call_with callee sign (ts ++ u ∷ []) next) stuck)) tests.0)
    ∙ declared_next state put callee sign (ts ++ u ∷ []) us next h tests.1 (λ r h none. declared_read contexts state put takes callee sign (ts ++ u ∷ []) us r h none)
    ∙ ap (λ (x : List Token). put (call_of callee sign x)) (append_assoc ts (u ∷ []) us)

-- `call(` or `execute(` and the rest of an effect
call_read : (contexts : List Context) (state : Half → State) (put : Element → Option State) → Takes contexts state put → (callee : Callee) (sign : Place) (ts : List Token) (height : Height) (next : List Context) → IsDeclared sign ts height → uncounted contexts ≡ Some next → steps (Some (state no_half)) (plain_token sign (call_text callee) ∷ ts) ≡ put (element.Item (term.EffectCall callee sign ts height))
call_read contexts state put takes callee sign ts height next h e =
    let all = rowless_is_whole sign ts h.0 h.1 in
    one (state no_half) (state (calling callee sign [] opened_effect)) (plain_token sign (call_text callee)) ts _
    (taken contexts state put takes no_half (plain_token sign (call_text callee)) (EffectCall callee) (sign_is (EffectCall callee) tt) (refl, refl) ∙ ap (λ (o : Option (List Context)). grown_to state put (half_where o (calling callee sign [] opened_effect))) e)
    (declared_read contexts state put takes callee sign [] ts opened_effect all.0 all.1 ∙ ap (λ (x : Height). put (element.Item (term.EffectCall callee sign ts x))) (ap effect_height all.2 ∙ sym h.2))

pub element_read : (contexts : List Context) (state : Half → State) (put : Element → Option State) → Takes contexts state put → (e : Element) (next : List Context) → IsElement e → behind contexts e ≡ Some next → steps (Some (state no_half)) (element_tokens e) ≡ put e
element_read contexts state put takes (element.Item (term.Name t)) next h k = alone_read contexts state put takes t Name _ h (refl, refl) refl
element_read contexts state put takes (element.Item (term.Literal t l)) next h k = alone_read contexts state put takes t (Literal l) _ h (refl, refl) refl
element_read contexts state put takes (element.Item (term.Bind sign t)) next h k = bind_read contexts state put takes sign t next h.0 h.1 k
element_read contexts state put takes (element.Item (term.Wrapped sign t)) next h k = wrap_read contexts state put takes sign t next h k
element_read contexts state put takes (element.Item (term.EffectCall callee sign ts height)) next h k = call_read contexts state put takes callee sign ts height next h k
element_read contexts state put takes (element.OpensLocals opens ns bar) next h k = locals_read contexts state put takes opens bar ns next h k
element_read contexts state put takes (element.Item (term.NextMethod place)) next h k = alone_read contexts state put takes (plain_token place (codes "call-next-method")) NextMethod _ (sign_is NextMethod tt) (refl, refl) refl
element_read contexts state put takes (element.Item (term.Hole place)) next h k = alone_read contexts state put takes (plain_token place (codes "_")) Hole _ (sign_is Hole tt) (refl, refl) refl
element_read contexts state put takes (element.Item (term.CalledHole place)) next h k = alone_read contexts state put takes (plain_token place (codes "@")) CalledHole _ (sign_is CalledHole tt) (refl, refl) refl
element_read contexts state put takes (element.Opens Quotation place) next h k = alone_read contexts state put takes (plain_token place (codes "[")) (OpensBracket Quotation) _ (sign_is (OpensBracket Quotation) tt) (refl, refl) refl
element_read contexts state put takes (element.Opens Array place) next h k = alone_read contexts state put takes (plain_token place (codes "{")) (OpensBracket Array) _ (sign_is (OpensBracket Array) tt) (refl, refl) refl
element_read contexts state put takes (element.Opens Fry place) next h k = alone_read contexts state put takes (plain_token place (codes "'[")) (OpensBracket Fry) _ (sign_is (OpensBracket Fry) tt) (refl, refl) refl
element_read contexts state put takes (element.Closes Quotation place) next h k = alone_read contexts state put takes (plain_token place (codes "]")) (ClosesBracket Quotation) _ (sign_is (ClosesBracket Quotation) tt) (refl, refl) refl
element_read contexts state put takes (element.Closes Array place) next h k = alone_read contexts state put takes (plain_token place (codes "}")) (ClosesBracket Array) _ (sign_is (ClosesBracket Array) tt) (refl, refl) refl
element_read contexts state put takes (element.Closes Fry place) next h k = absurd h

-- an element begins with a token that is no mark
record BeginsUnmarked (e : Element) : Type 0 where
  first : Token
  rest : List Token
  are : element_tokens e ≡ first ∷ rest
  unmarked : mark_of (token_spelling first.kind) first.place ≡ None

unmarked_by : (e : Element) (t : Token) (ts : List Token) (s : Spelling) → element_tokens e ≡ t ∷ ts → token_spelling t.kind ≡ s → mark_of s t.place ≡ None → BeginsUnmarked e
unmarked_by e t ts s are h none = record { first = t; rest = ts; are = are; unmarked = ap (λ (x : Spelling). mark_of x t.place) h ∙ none }

begins_unmarked : (e : Element) → IsElement e → BeginsUnmarked e
begins_unmarked (element.Item (term.Name t)) h = unmarked_by (element.Item (term.Name t)) t [] Name refl h refl
begins_unmarked (element.Item (term.Literal t l)) h = unmarked_by (element.Item (term.Literal t l)) t [] (Literal l) refl h refl
begins_unmarked (element.Item (term.Bind sign t)) h = unmarked_by (element.Item (term.Bind sign t)) (plain_token sign (codes ":>")) (t ∷ []) Binds refl (sign_is Binds tt) refl
begins_unmarked (element.Item (term.Wrapped sign t)) h = unmarked_by (element.Item (term.Wrapped sign t)) (plain_token sign wrap_text) (t ∷ []) Wraps refl (sign_is Wraps tt) refl
begins_unmarked (element.Item (term.EffectCall callee sign ts height)) h = unmarked_by (element.Item (term.EffectCall callee sign ts height)) (plain_token sign (call_text callee)) ts (EffectCall callee) refl (sign_is (EffectCall callee) tt) refl
begins_unmarked (element.OpensLocals opens ns bar) h = unmarked_by (element.OpensLocals opens ns bar) (plain_token opens (codes "[|")) (ns ++ plain_token bar (codes "|") ∷ []) OpensLocals refl (sign_is OpensLocals tt) refl
begins_unmarked (element.Item (term.NextMethod place)) h = unmarked_by (element.Item (term.NextMethod place)) (plain_token place (codes "call-next-method")) [] NextMethod refl (sign_is NextMethod tt) refl
begins_unmarked (element.Item (term.Hole place)) h = unmarked_by (element.Item (term.Hole place)) (plain_token place (codes "_")) [] Hole refl (sign_is Hole tt) refl
begins_unmarked (element.Item (term.CalledHole place)) h = unmarked_by (element.Item (term.CalledHole place)) (plain_token place (codes "@")) [] CalledHole refl (sign_is CalledHole tt) refl
begins_unmarked (element.Opens Quotation place) h = unmarked_by (element.Opens Quotation place) (plain_token place (codes "[")) [] (OpensBracket Quotation) refl (sign_is (OpensBracket Quotation) tt) refl
begins_unmarked (element.Opens Array place) h = unmarked_by (element.Opens Array place) (plain_token place (codes "{")) [] (OpensBracket Array) refl (sign_is (OpensBracket Array) tt) refl
begins_unmarked (element.Opens Fry place) h = unmarked_by (element.Opens Fry place) (plain_token place (codes "'[")) [] (OpensBracket Fry) refl (sign_is (OpensBracket Fry) tt) refl
begins_unmarked (element.Closes Quotation place) h = unmarked_by (element.Closes Quotation place) (plain_token place (codes "]")) [] (ClosesBracket Quotation) refl (sign_is (ClosesBracket Quotation) tt) refl
begins_unmarked (element.Closes Array place) h = unmarked_by (element.Closes Array place) (plain_token place (codes "}")) [] (ClosesBracket Array) refl (sign_is (ClosesBracket Array) tt) refl
begins_unmarked (element.Closes Fry place) h = absurd h

-- Items.

-- where items are held, tokens are taken as theirs
pub record HoldsItems (held : List Element → List Context → Half → Open) (forms : List Form) : Type 0 where
  pub adds : (es : List Element) (contexts : List Context) (h : Half) (t : Token) → begins (token_spelling t.kind) ≡ None → is_semi (token_spelling t.kind) ≡ false → step (in_state forms (held es contexts h)) t ≡ with_grown held forms es contexts (grow contexts h (token_spelling t.kind) t)

pub top_holds_items : (forms : List Form) → HoldsItems top forms
top_holds_items forms = record { adds = λ es contexts h t none no_semi. ap (λ (o : Option FormKind). begin_or_add forms es contexts h o (token_spelling t.kind) t) none }

pub row_holds_items : (forms : List Form) (b : Begun) (k : Taking) → HoldsItems (row_items b k) forms
row_holds_items forms b k = record { adds = λ es contexts h t none no_semi. ap (λ (o : Bool). end_or_add forms b k es contexts h o (token_spelling t.kind) t) no_semi }

grown_held : (held : List Element → List Context → Half → Open) (forms : List Form) (es : List Element) (contexts : List Context) (g : Grown) → with_grown held forms es contexts g ≡ grown_to (λ h. in_state forms (held es contexts h)) (λ e. with_element held forms es e (behind contexts e)) g
grown_held held forms es contexts stuck = refl
grown_held held forms es contexts (begun_as h) = refl
grown_held held forms es contexts (grown e) = refl

pub held_takes : (held : List Element → List Context → Half → Open) (forms : List Form) → HoldsItems held forms → (es : List Element) (contexts : List Context) → Takes contexts (λ h. in_state forms (held es contexts h)) (λ e. with_element held forms es e (behind contexts e))
held_takes held forms holds es contexts = record { takes = λ h t none no_semi. holds.adds es contexts h t none no_semi ∙ grown_held held forms es contexts (grow contexts h (token_spelling t.kind) t) }

pub elements_read : (held : List Element → List Context → Half → Open) (forms : List Form) → HoldsItems held forms → (es ms : List Element) (from to : List Context) → Lead from ms to → steps (Some (in_state forms (held es from no_half))) (items_tokens ms) ≡ Some (in_state forms (held (es ++ ms) to no_half))
elements_read held forms holds es [] from to h = ap (λ (x : List Element). Some (in_state forms (held x from no_half))) (sym (append-nil es)) ∙ ap (λ (x : List Context). Some (in_state forms (held (es ++ []) x no_half))) h
elements_read held forms holds es (e ∷ ms) from to h =
    chain (in_state forms (held es from no_half)) (in_state forms (held (es ++ e ∷ []) h.1 no_half)) (element_tokens e) (items_tokens ms) _
    (element_read from (λ half. in_state forms (held es from half)) (λ e. with_element held forms es e (behind from e)) (held_takes held forms holds es from) e h.1 h.0 h.2 ∙ ap (with_element held forms es e) h.2)
    (elements_read held forms holds (es ++ e ∷ []) ms h.1 to h.3 ∙ ap (λ (x : List Element). Some (in_state forms (held x to no_half))) (append_assoc es (e ∷ []) ms))

-- Parts.

-- a mark that may stand behind these
mark_read : (forms : List Form) (b : Begun) (k : Marked) (ms : List DefinitionMark) (m : DefinitionMark) → may_follow k ms m ≡ true → step (in_state forms (row b (marks k ms))) (mark_token m) ≡ Some (in_state forms (row b (marks k (ms ++ m ∷ []))))
mark_read forms b k ms (mark.Inline place) h =
    by_spelling forms (row b (marks k ms)) (mark_token (mark.Inline place)) Inline (sign_is Inline tt) ∙ ap (λ (x : Bool). cond x (Some (in_state forms (row b (marks k (ms ++ mark.Inline place ∷ []))))) None) h
mark_read forms b k ms (mark.Recursive place) h =
    by_spelling forms (row b (marks k ms)) (mark_token (mark.Recursive place)) Recursive (sign_is Recursive tt) ∙ ap (λ (x : Bool). cond x (Some (in_state forms (row b (marks k (ms ++ mark.Recursive place ∷ []))))) None) h

both_read : (forms : List Form) (b : Begun) (m n : DefinitionMark) → may_follow marked.Word [] m ≡ true → may_follow marked.Word (m ∷ []) n ≡ true → steps (Some (in_state forms (row b (marks marked.Word [])))) (marks_tokens (m ∷ n ∷ [])) ≡ Some (in_state forms (row b (marks marked.Word (m ∷ n ∷ []))))
both_read forms b m n h k =
    one (in_state forms (row b (marks marked.Word []))) (in_state forms (row b (marks marked.Word (m ∷ [])))) (mark_token m) (mark_token n ∷ []) _ (mark_read forms b marked.Word [] m h) (mark_read forms b marked.Word (m ∷ []) n k)

marks_read : (forms : List Form) (b : Begun) (k : Marked) (ms : List DefinitionMark) → AreMarks k ms → steps (Some (in_state forms (row b (marks k [])))) (marks_tokens ms) ≡ Some (in_state forms (row b (marks k ms)))
marks_read forms b k [] h = refl
marks_read forms b marked.Word (m ∷ []) h = mark_read forms b marked.Word [] m refl
marks_read forms b marked.Word (mark.Inline place ∷ mark.Recursive other ∷ []) h = both_read forms b (mark.Inline place) (mark.Recursive other) refl refl
marks_read forms b marked.Word (mark.Recursive place ∷ mark.Inline other ∷ []) h = both_read forms b (mark.Recursive place) (mark.Inline other) refl refl
marks_read forms b marked.Word (mark.Inline place ∷ mark.Inline other ∷ ms) h = absurd h
marks_read forms b marked.Word (mark.Recursive place ∷ mark.Recursive other ∷ ms) h = absurd h
marks_read forms b marked.Word (mark.Inline place ∷ mark.Recursive other ∷ m ∷ ms) h = absurd h
marks_read forms b marked.Word (mark.Recursive place ∷ mark.Inline other ∷ m ∷ ms) h = absurd h
marks_read forms b marked.Method (mark.Inline place ∷ []) h = mark_read forms b marked.Method [] (mark.Inline place) refl
marks_read forms b marked.Method (mark.Inline place ∷ m ∷ ms) h = absurd h
marks_read forms b marked.Method (mark.Recursive place ∷ ms) h = absurd h

fixed_read : (forms : List Form) (b : Begun) (key other : Key) (place : Place) → key ≡ other → steps (Some (in_state forms (row b (fixed key)))) (part_tokens (part.Fixed other place)) ≡ Some (with_part forms b (part.Fixed other place))
fixed_read forms b Arrow Arrow place h = by_spelling forms (row b (fixed Arrow)) (plain_token place (codes "=>")) (Fixed Arrow) (sign_is (Fixed Arrow) tt)

names_part_read : (forms : List Form) (b : Begun) (k : Naming) (ns : List Token) (ends : Place) → AreNames k ns → steps (Some (in_state forms (row b (names k [])))) (part_tokens (part.Names ns ends)) ≡ Some (with_part forms b (part.Names ns ends))
names_part_read forms b k ns ends h =
    chain (in_state forms (row b (names k []))) (in_state forms (row b (names k ns))) ns (plain_token ends (codes ";") ∷ []) _ (names_read forms b k [] ns h) (names_end forms b k ns ends)

items_part_read : (forms : List Form) (b : Begun) (k : Taking) (locals : Option ℕ) (es : List Element) (ends : Place) (to : Context) → Lead (items_in locals ∷ []) es (to ∷ []) → steps (Some (in_state forms (row b (items k [] (items_in locals ∷ []) no_half)))) (part_tokens (part.Items es ends)) ≡ Some (with_part forms b (part.Items es ends))
items_part_read forms b k locals es ends to h =
    chain (in_state forms (row b (items k [] (items_in locals ∷ []) no_half))) (in_state forms (row b (items k es (to ∷ []) no_half))) (items_tokens es) (plain_token ends (codes ";") ∷ []) _ (elements_read (row_items b k) forms (row_holds_items forms b k) [] es (items_in locals ∷ []) (to ∷ []) h)
    (by_spelling forms (row b (items k es (to ∷ []) no_half)) (plain_token ends (codes ";")) Semi (sign_is Semi tt))

-- Literals.

grown_literal : (forms : List Form) (b : Begun) (es : List Element) (c d : Context) (contexts : List Context) (g : Grown) → literal_grown forms b es (c ∷ d ∷ contexts) g ≡ grown_to (λ h. in_state forms (row b (literal es (c ∷ d ∷ contexts) h))) (λ e. literal_with forms b (es ++ e ∷ []) (behind (c ∷ d ∷ contexts) e)) g
grown_literal forms b es c d contexts stuck = refl
grown_literal forms b es c d contexts (begun_as h) = refl
grown_literal forms b es c d contexts (grown e) = refl

pub literal_takes : (forms : List Form) (b : Begun) (es : List Element) (c d : Context) (contexts : List Context) → Takes (c ∷ d ∷ contexts) (λ h. in_state forms (row b (literal es (c ∷ d ∷ contexts) h))) (λ e. literal_with forms b (es ++ e ∷ []) (behind (c ∷ d ∷ contexts) e))
literal_takes forms b es c d contexts = record { takes = λ h t none no_semi. grown_literal forms b es c d contexts (grow (c ∷ d ∷ contexts) h (token_spelling t.kind) t) }

-- one more element of a literal in which a bracket is open
pub adds_literal : (forms : List Form) (b : Begun) (es : List Element) (c d : Context) (contexts : List Context) (e : Element) (next : List Context) → IsElement e → behind (c ∷ d ∷ contexts) e ≡ Some next → steps (Some (in_state forms (row b (literal es (c ∷ d ∷ contexts) no_half)))) (element_tokens e) ≡ literal_with forms b (es ++ e ∷ []) (Some next)
adds_literal forms b es c d contexts e next is h =
    element_read (c ∷ d ∷ contexts) (λ half. in_state forms (row b (literal es (c ∷ d ∷ contexts) half))) (λ e. literal_with forms b (es ++ e ∷ []) (behind (c ∷ d ∷ contexts) e)) (literal_takes forms b es c d contexts) e next is h
    ∙ ap (literal_with forms b (es ++ e ∷ [])) h

enclosed_next : (forms : List Form) (b : Begun) (es ms : List Element) (c d : Context) (contexts : List Context) (e : Element) (next : List Context) → IsElement e → behind (c ∷ d ∷ contexts) e ≡ Some next → Encloses next ms → ((x y : Context) (less : List Context) → Encloses (x ∷ y ∷ less) ms → steps (Some (in_state forms (row b (literal (es ++ e ∷ []) (x ∷ y ∷ less) no_half)))) (items_tokens ms) ≡ Some (with_part forms b (part.Literal ((es ++ e ∷ []) ++ ms)))) → steps (Some (in_state forms (row b (literal es (c ∷ d ∷ contexts) no_half)))) (element_tokens e ++ items_tokens ms) ≡ Some (with_part forms b (part.Literal ((es ++ e ∷ []) ++ ms)))
enclosed_next forms b es ms c d contexts e [] is h k later = absurd k
enclosed_next forms b es [] c d contexts e (x ∷ []) is h k later =
    chain (in_state forms (row b (literal es (c ∷ d ∷ contexts) no_half))) (with_part forms b (part.Literal (es ++ e ∷ []))) (element_tokens e) [] _ (adds_literal forms b es c d contexts e (x ∷ []) is h) (ap (λ (x : List Element). Some (with_part forms b (part.Literal x))) (sym (append-nil (es ++ e ∷ []))))
enclosed_next forms b es (m ∷ ms) c d contexts e (x ∷ []) is h k later = absurd k
enclosed_next forms b es ms c d contexts e (x ∷ y ∷ less) is h k later =
    chain (in_state forms (row b (literal es (c ∷ d ∷ contexts) no_half))) (in_state forms (row b (literal (es ++ e ∷ []) (x ∷ y ∷ less) no_half))) (element_tokens e) (items_tokens ms) _ (adds_literal forms b es c d contexts e (x ∷ y ∷ less) is h) (later x y less k)

enclosed_read : (forms : List Form) (b : Begun) (es ms : List Element) (c d : Context) (contexts : List Context) → Encloses (c ∷ d ∷ contexts) ms → steps (Some (in_state forms (row b (literal es (c ∷ d ∷ contexts) no_half)))) (items_tokens ms) ≡ Some (with_part forms b (part.Literal (es ++ ms)))
enclosed_read forms b es [] c d contexts h = absurd h
enclosed_read forms b es (e ∷ ms) c d contexts h =
    enclosed_next forms b es ms c d contexts e h.1 h.0 h.2 h.3 (λ x y less k. enclosed_read forms b (es ++ e ∷ []) ms x y less k)
    ∙ ap (λ (x : List Element). Some (with_part forms b (part.Literal x))) (append_assoc es (e ∷ []) ms)

bracket_read : (forms : List Form) (b : Begun) (bracket : Bracket) (place : Place) (es : List Element) → step (in_state forms (row b (literal [] outside no_half))) (plain_token place (opening_text bracket)) ≡ Some (in_state forms (row b (literal (element.Opens bracket place ∷ []) (open_inside bracket) no_half))) → Encloses (open_inside bracket) es → steps (Some (in_state forms (row b (literal [] outside no_half)))) (items_tokens (element.Opens bracket place ∷ es)) ≡ Some (with_part forms b (part.Literal (element.Opens bracket place ∷ es)))
bracket_read forms b bracket place es opens h =
    one (in_state forms (row b (literal [] outside no_half))) (in_state forms (row b (literal (element.Opens bracket place ∷ []) (open_inside bracket) no_half))) (plain_token place (opening_text bracket)) (items_tokens es) _
    opens (enclosed_read forms b (element.Opens bracket place ∷ []) es (inside bracket (items_in None)) (items_in None) [] h)

pub literal_part_read : (forms : List Form) (b : Begun) (es : List Element) → IsLiteral es → steps (Some (in_state forms (row b (literal [] outside no_half)))) (items_tokens es) ≡ Some (with_part forms b (part.Literal es))
literal_part_read forms b [] h = absurd h
literal_part_read forms b (element.Item (term.Name t) ∷ []) h = absurd h
literal_part_read forms b (element.Item (term.EffectCall callee sign ts height) ∷ []) h = absurd h
literal_part_read forms b (element.Item (term.Wrapped sign t) ∷ []) h =
    one (in_state forms (row b (literal [] outside no_half))) (in_state forms (row b (literal [] outside (wrapping sign)))) (plain_token sign wrap_text) (t ∷ []) _
    (by_spelling forms (row b (literal [] outside no_half)) (plain_token sign wrap_text) Wraps (sign_is Wraps tt)) (by_spelling forms (row b (literal [] outside (wrapping sign))) t Name h)
literal_part_read forms b (element.Item (term.Literal t l) ∷ []) h = by_spelling forms (row b (literal [] outside no_half)) t (Literal l) h
literal_part_read forms b (element.Item (term.NextMethod place) ∷ []) h = absurd h
literal_part_read forms b (element.Item (term.Bind sign t) ∷ []) h = absurd h
literal_part_read forms b (element.Item (term.Hole place) ∷ []) h = absurd h
literal_part_read forms b (element.Item (term.CalledHole place) ∷ []) h = absurd h
literal_part_read forms b (element.Item item ∷ e ∷ es) h = absurd h
literal_part_read forms b (element.OpensLocals opens ns bar ∷ es) h = absurd h
literal_part_read forms b (element.Closes bracket place ∷ es) h = absurd h
literal_part_read forms b (element.Opens Quotation place ∷ es) h = bracket_read forms b Quotation place es (by_spelling forms (row b (literal [] outside no_half)) (plain_token place (codes "[")) (OpensBracket Quotation) (sign_is (OpensBracket Quotation) tt)) h.1
literal_part_read forms b (element.Opens Array place ∷ es) h = bracket_read forms b Array place es (by_spelling forms (row b (literal [] outside no_half)) (plain_token place (codes "{")) (OpensBracket Array) (sign_is (OpensBracket Array) tt)) h.1
literal_part_read forms b (element.Opens Fry place ∷ es) h = absurd h.0

-- Where the tokens may end with these forms, a row may begin, and where none of the forms that follow is a run beside one, a run may.

-- a run of items may begin here: each token that is no mark is taken as one at the top level
abbrev pub Fresh : State → List Form → Type 0
Fresh s forms = (t : Token) → mark_of (token_spelling t.kind) t.place ≡ None → step s t ≡ top_step forms [] outside no_half (token_spelling t.kind) t

abbrev pub BeginWithRun : List Form → Type 0
BeginWithRun (Items es ∷ forms) = Unit {0}
BeginWithRun _ = ⊥

pub record Ready (s : State) (forms rest : List Form) : Type 0 where
  pub whole : ended s ≡ Some forms
  pub rows : (kind : FormKind) (opens : Place) → step s (plain_token opens (head_of kind)) ≡ Some (go_on forms (begun kind opens))
  pub runs : BeginWithRun rest → Fresh s forms

pub record Reaches (s : State) (ts : List Token) (forms rest : List Form) : Type 0 where
  pub to : State
  pub reads : steps (Some s) ts ≡ Some to
  pub ready : Ready to forms rest

fresh_ready : (s : State) (forms rest : List Form) → ended s ≡ Some forms → Fresh s forms → Ready s forms rest
fresh_ready s forms rest e h = record {
  whole = e;
  rows = λ kind opens.
      h (plain_token opens (head_of kind)) (ap (λ (x : Spelling). mark_of x opens) (sign_is (Begins kind) tt))
      ∙ ap (λ (x : Spelling). top_step forms [] outside no_half x (plain_token opens (head_of kind))) (sign_is (Begins kind) tt);
  runs = λ b. h;
}

pub start_ready : (rest : List Form) → Ready start [] rest
start_ready rest = fresh_ready start [] rest refl (λ t h. refl)

-- behind a row
ended_ready : (forms : List Form) (b : Begun) (rest : List Form) → Ready (row_ended forms b) (forms ++ row_form b ∷ []) rest
ended_ready forms b rest = fresh_ready (row_ended forms b) (forms ++ row_form b ∷ []) rest refl (λ t h. refl)

marked_ready : (forms : List Form) (b : Begun) (k : Marked) (ms : List DefinitionMark) (rest : List Form) → Ready (in_state forms (row b (marks k ms))) (forms ++ row_form (more b (part.Marks ms)) ∷ []) rest
marked_ready forms b k ms rest =
    fresh_ready (in_state forms (row b (marks k ms))) (forms ++ row_form (more b (part.Marks ms)) ∷ []) rest refl (λ t h.
    ap (λ (o : Option DefinitionMark). mark_step forms b k ms o (token_spelling t.kind) t) h)

-- behind a run
run_ready : (forms : List Form) (e : Element) (es : List Element) (to : Context) (rest : List Form) → (BeginWithRun rest → ⊥) → Ready (in_state forms (top (e ∷ es) (to ∷ []) no_half)) (forms ++ Items (e ∷ es) ∷ []) rest
run_ready forms e es to rest none = record {
  whole = refl;
  rows = λ kind opens. by_spelling forms (top (e ∷ es) (to ∷ []) no_half) (plain_token opens (head_of kind)) (Begins kind) (sign_is (Begins kind) tt);
  runs = λ b. absurd (none b);
}

-- Rows.

-- the form of a row with these parts more
abbrev row_with : Begun → List Part → Form
row_with b ps = Row b.kind b.opens (b.parts ++ ps)

part_then : (forms : List Form) (b : Begun) (w : Within) (p : Part) (ps : List Part) (rest : List Form) → steps (Some (in_state forms (row b w))) (part_tokens p) ≡ Some (with_part forms b p) → Reaches (with_part forms b p) (parts_tokens ps) (forms ++ row_with (more b p) ps ∷ []) rest → Reaches (in_state forms (row b w)) (part_tokens p ++ parts_tokens ps) (forms ++ row_with b (p ∷ ps) ∷ []) rest
part_then forms b w p ps rest h later = record {
  to = later.to;
  reads = chain (in_state forms (row b w)) (with_part forms b p) (part_tokens p) (parts_tokens ps) _ h later.reads;
  ready = subst (λ (qs : List Part). Ready later.to (forms ++ Row b.kind b.opens qs ∷ []) rest) (append_assoc b.parts (p ∷ []) ps) later.ready;
}

to_slot : (forms : List Form) (b : Begun) (slots : List Slot) (ts : List Token) (fs rest : List Form) → Filled 0 (slots_of b.kind) b.parts slots → Reaches (at_slot forms b (first_of slots)) ts fs rest → Reaches (go_on forms b) ts fs rest
to_slot forms b slots ts fs rest h r = subst (λ (o : Option Slot). Reaches (at_slot forms b o) ts fs rest) (sym (next_slot 0 (slots_of b.kind) b.parts slots h)) r

-- a slot that is filled, and those behind it
slot_read : (forms : List Form) (b : Begun) (w : Within) (s : Slot) (p : Part) (slots : List Slot) (ps : List Part) (rest : List Form) → Filled 0 (slots_of b.kind) b.parts (s ∷ slots) → Fills (last_inputs 0 b.parts) s p → steps (Some (in_state forms (row b w))) (part_tokens p) ≡ Some (with_part forms b p) → (Filled 0 (slots_of b.kind) (b.parts ++ p ∷ []) slots → Reaches (at_slot forms (more b p) (first_of slots)) (parts_tokens ps) (forms ++ row_with (more b p) ps ∷ []) rest) → Reaches (in_state forms (row b w)) (part_tokens p ++ parts_tokens ps) (forms ++ row_with b (p ∷ ps) ∷ []) rest
slot_read forms b w s p slots ps rest h f reads later =
    let filled = filled_more 0 (slots_of b.kind) b.parts s slots p h f in
    part_then forms b w p ps rest reads (to_slot forms (more b p) slots _ _ rest filled (later filled))

marks_reach : (forms : List Form) (b : Begun) (k : Marked) (ms : List DefinitionMark) (rest : List Form) → AreMarks k ms → Reaches (in_state forms (row b (marks k []))) (parts_tokens (part.Marks ms ∷ [])) (forms ++ row_with b (part.Marks ms ∷ []) ∷ []) rest
marks_reach forms b k ms rest h = record {
  to = in_state forms (row b (marks k ms));
  reads = ap (steps (Some (in_state forms (row b (marks k []))))) (append-nil (marks_tokens ms)) ∙ marks_read forms b k ms h;
  ready = marked_ready forms b k ms rest;
}

parts_read : (forms : List Form) (b : Begun) (n : ℕ) (slots : List Slot) (ps : List Part) (rest : List Form) → last_inputs 0 b.parts ≡ n → Filled 0 (slots_of b.kind) b.parts slots → MarksLast slots → FillFrom n slots ps → Reaches (at_slot forms b (first_of slots)) (parts_tokens ps) (forms ++ row_with b ps ∷ []) rest
parts_read forms b n [] [] rest e h l f = record {
  to = row_ended forms b;
  reads = refl;
  ready = subst (λ (qs : List Part). Ready (row_ended forms b) (forms ++ Row b.kind b.opens qs ∷ []) rest) (sym (append-nil b.parts)) (ended_ready forms b rest);
}
parts_read forms b n (slot.Marks ∷ []) (part.Marks ms ∷ []) rest e h l f = marks_reach forms b marked.Word ms rest f.0
parts_read forms b n (slot.MethodMark ∷ []) (part.Marks ms ∷ []) rest e h l f = marks_reach forms b marked.Method ms rest f.0
parts_read forms b n (slot.Marks ∷ s ∷ slots) (p ∷ ps) rest e h l f = let d = l.0 in cc
parts_read forms b n (slot.MethodMark ∷ s ∷ slots) (p ∷ ps) rest e h l f = let d = l.0 in cc
parts_read forms b n (slot.Name ∷ slots) (part.Name t ∷ ps) rest e h l f =
    slot_read forms b (name naming.Any) slot.Name (part.Name t) slots ps rest h f.0 (name_read forms b naming.Any t f.0) (λ k. parts_read forms (more b (part.Name t)) (0) slots ps rest (inputs_last 0 b.parts (part.Name t)) k l.1 f.1)
parts_read forms b n (slot.Class ∷ slots) (part.Name t ∷ ps) rest e h l f =
    slot_read forms b (name naming.Class) slot.Class (part.Name t) slots ps rest h f.0 (name_read forms b naming.Class t f.0) (λ k. parts_read forms (more b (part.Name t)) (0) slots ps rest (inputs_last 0 b.parts (part.Name t)) k l.1 f.1)
parts_read forms b n (slot.Names ∷ slots) (part.Names ns ends ∷ ps) rest e h l f =
    slot_read forms b (names naming.Any []) slot.Names (part.Names ns ends) slots ps rest h f.0 (names_part_read forms b naming.Any ns ends f.0) (λ k. parts_read forms (more b (part.Names ns ends)) (0) slots ps rest (inputs_last 0 b.parts (part.Names ns ends)) k l.1 f.1)
parts_read forms b n (slot.Classes ∷ slots) (part.Names ns ends ∷ ps) rest e h l f =
    slot_read forms b (names naming.Class []) slot.Classes (part.Names ns ends) slots ps rest h f.0 (names_part_read forms b naming.Class ns ends f.0) (λ k. parts_read forms (more b (part.Names ns ends)) (0) slots ps rest (inputs_last 0 b.parts (part.Names ns ends)) k l.1 f.1)
parts_read forms b n (slot.Slots ∷ slots) (part.Slots q ns ends ∷ ps) rest e h l f =
    slot_read forms b (tuple_slots None []) slot.Slots (part.Slots q ns ends) slots ps rest h f.0 (slots_part_read forms b q ns ends f.0.0 f.0.1 f.0.2) (λ k. parts_read forms (more b (part.Slots q ns ends)) (0) slots ps rest (inputs_last 0 b.parts (part.Slots q ns ends)) k l.1 f.1)
parts_read forms b n ((slot.Fixed key) ∷ slots) (part.Fixed other place ∷ ps) rest e h l f =
    slot_read forms b (fixed key) (slot.Fixed key) (part.Fixed other place) slots ps rest h f.0 (fixed_read forms b key other place f.0) (λ k. parts_read forms (more b (part.Fixed other place)) (0) slots ps rest (inputs_last 0 b.parts (part.Fixed other place)) k l.1 f.1)
parts_read forms b n (slot.Effect ∷ slots) (part.Effect w ∷ ps) rest e h l f =
    slot_read forms b (effect Values [] no_tokens) slot.Effect (part.Effect w) slots ps rest h f.0 (effect_part_read forms b Values w.tokens w.effect f.0 tt) (λ k. parts_read forms (more b (part.Effect w)) (inputs_of (part.Effect w)) slots ps rest (inputs_last 0 b.parts (part.Effect w)) k l.1 f.1)
parts_read forms b n (slot.LocalsEffect ∷ slots) (part.Effect w ∷ ps) rest e h l f =
    slot_read forms b (effect Locals [] no_tokens) slot.LocalsEffect (part.Effect w) slots ps rest h f.0 (effect_part_read forms b Locals w.tokens w.effect f.0.0 (inputs_are_named w.tokens w.effect f.0.0 ∙ f.0.1)) (λ k. parts_read forms (more b (part.Effect w)) (inputs_of (part.Effect w)) slots ps rest (inputs_last 0 b.parts (part.Effect w)) k l.1 f.1)
parts_read forms b n (slot.Items ∷ slots) (part.Items es ends ∷ ps) rest e h l f =
    slot_read forms b (items Values [] outside no_half) slot.Items (part.Items es ends) slots ps rest h f.0 (items_part_read forms b Values None es ends f.0.0 f.0.1) (λ k. parts_read forms (more b (part.Items es ends)) (0) slots ps rest (inputs_last 0 b.parts (part.Items es ends)) k l.1 f.1)
parts_read forms b n (slot.Literal ∷ slots) (part.Literal es ∷ ps) rest e h l f =
    slot_read forms b (literal [] outside no_half) slot.Literal (part.Literal es) slots ps rest h f.0 (literal_part_read forms b es f.0) (λ k. parts_read forms (more b (part.Literal es)) (0) slots ps rest (inputs_last 0 b.parts (part.Literal es)) k l.1 f.1)
parts_read forms b n (slot.LocalsItems ∷ slots) (part.Items es ends ∷ ps) rest e h l f =
    let m = last_inputs 0 b.parts in
    let are : Fills m slot.LocalsItems (part.Items es ends) = subst (λ (x : ℕ). Fills x slot.LocalsItems (part.Items es ends)) (sym e) f.0 in
    slot_read forms b (items Locals [] (items_in (Some m) ∷ []) no_half) slot.LocalsItems (part.Items es ends) slots ps rest h are (items_part_read forms b Locals (Some m) es ends are.0 are.1) (λ k. parts_read forms (more b (part.Items es ends)) 0 slots ps rest (inputs_last 0 b.parts (part.Items es ends)) k l.1 f.1)
parts_read forms b n (slot.Marks ∷ []) (part.Marks ms ∷ p ∷ ps) rest e h l f = absurd f.1
parts_read forms b n (slot.MethodMark ∷ []) (part.Marks ms ∷ p ∷ ps) rest e h l f = absurd f.1
parts_read forms b n [] (p ∷ ps) rest e h l f = absurd f
parts_read forms b n (s ∷ slots) [] rest e h l f = absurd f
parts_read forms b n (s ∷ slots) (p ∷ ps) rest e h l f = absurd f.0

-- Forms.

-- a run of items
-- tokens are read as at the top level, where the first is no mark
fresh_steps : (s : State) (forms : List Form) (t : Token) (ts : List Token) (o : Option State) → Fresh s forms → mark_of (token_spelling t.kind) t.place ≡ None → steps (Some (in_state forms (top [] outside no_half))) (t ∷ ts) ≡ o → steps (Some s) (t ∷ ts) ≡ o
fresh_steps s forms t ts o fresh none h = ap (λ (x : Option State). steps x ts) (fresh t none) ∙ h

run_read : (s : State) (forms : List Form) (e : Element) (es : List Element) (to : Context) (rest : List Form) → Fresh s forms → Lead outside (e ∷ es) (to ∷ []) → (BeginWithRun rest → ⊥) → Reaches s (items_tokens (e ∷ es)) (forms ++ Items (e ∷ es) ∷ []) rest
run_read s forms e es to rest fresh h none =
    let first = begins_unmarked e h.0 in
    let all = elements_read top forms (top_holds_items forms) [] (e ∷ es) outside (to ∷ []) h in
    let same : items_tokens (e ∷ es) ≡ first.first ∷ (first.rest ++ items_tokens es) = ap (λ (ts : List Token). ts ++ items_tokens es) first.are in
    record {
      to = in_state forms (top (e ∷ es) (to ∷ []) no_half);
      reads = ap (steps (Some s)) same ∙ fresh_steps s forms first.first (first.rest ++ items_tokens es) _ fresh first.unmarked (ap (steps (Some (in_state forms (top [] outside no_half)))) (sym same) ∙ all);
      ready = run_ready forms e es to rest none;
    }

then_forms : (s : State) (ts us : List Token) (before behind_it forms rest : List Form) → Reaches s ts before behind_it → ((m : State) → Ready m before behind_it → Reaches m us forms rest) → Reaches s (ts ++ us) forms rest
then_forms s ts us before behind_it forms rest first later =
    let then_read = later first.to first.ready in
    record { to = then_read.to; reads = chain s first.to ts us _ first.reads then_read.reads; ready = then_read.ready }

row_read : (s : State) (forms : List Form) (kind : FormKind) (opens : Place) (ps : List Part) (rest : List Form) → Ready s forms (Row kind opens ps ∷ rest) → FillAll (slots_of kind) ps → Reaches s (form_tokens (Row kind opens ps)) (forms ++ Row kind opens ps ∷ []) rest
row_read s forms kind opens ps rest ready f =
    let read = to_slot forms (begun kind opens) (slots_of kind) (parts_tokens ps) (forms ++ Row kind opens ps ∷ []) rest refl (parts_read forms (begun kind opens) 0 (slots_of kind) ps rest refl refl (marks_last kind) f) in
    record { to = read.to; reads = one s (go_on forms (begun kind opens)) (plain_token opens (head_of kind)) (parts_tokens ps) _ (ready.rows kind opens) read.reads; ready = read.ready }

pub forms_read : (rest : List Form) (s : State) (forms : List Form) → Ready s forms rest → IsWellFormed rest → Reaches s (flatten rest) (forms ++ rest) []
forms_read [] s forms ready fits = record { to = s; reads = refl; ready = subst (λ (fs : List Form). Ready s fs []) (sym (append-nil forms)) ready }
forms_read (Row kind opens ps ∷ rest) s forms ready fits =
    subst (λ (fs : List Form). Reaches s (flatten (Row kind opens ps ∷ rest)) fs []) (append_assoc forms (Row kind opens ps ∷ []) rest)
    (then_forms s (form_tokens (Row kind opens ps)) (flatten rest) (forms ++ Row kind opens ps ∷ []) rest _ [] (row_read s forms kind opens ps rest ready fits.0) (λ m r. forms_read rest m (forms ++ Row kind opens ps ∷ []) r fits.2))
forms_read (Items [] ∷ rest) s forms ready fits = absurd fits.0.0
forms_read (Items (e ∷ es) ∷ []) s forms ready fits =
    then_forms s (items_tokens (e ∷ es)) [] (forms ++ Items (e ∷ es) ∷ []) [] _ [] (run_read s forms e es fits.0.1.0 [] (ready.runs tt) fits.0.1.1 (λ b. b)) (λ m r. record { to = m; reads = refl; ready = r })
forms_read (Items (e ∷ es) ∷ Items xs ∷ rest) s forms ready fits = absurd fits.1
forms_read (Items (e ∷ es) ∷ Row kind opens ps ∷ rest) s forms ready fits =
    subst (λ (fs : List Form). Reaches s (flatten (Items (e ∷ es) ∷ Row kind opens ps ∷ rest)) fs []) (append_assoc forms (Items (e ∷ es) ∷ []) (Row kind opens ps ∷ rest))
    (then_forms s (items_tokens (e ∷ es)) (flatten (Row kind opens ps ∷ rest)) (forms ++ Items (e ∷ es) ∷ []) (Row kind opens ps ∷ rest) _ [] (run_read s forms e es fits.0.1.0 (Row kind opens ps ∷ rest) (ready.runs tt) fits.0.1.1 (λ b. b)) (λ m r. forms_read (Row kind opens ps ∷ rest) m (forms ++ Items (e ∷ es) ∷ []) r fits.2))

-- a well-formed tree's tokens are read, to where they may end with that tree
pub record TreeRead (ts : List Token) (forms : List Form) : Type 0 where
  pub to : State
  pub reads : steps (Some start) ts ≡ Some to
  pub whole : ended to ≡ Some forms

pub tree_read : (ts : List Token) (forms : List Form) → Reads ts forms → TreeRead ts forms
tree_read ts forms r =
    let read = forms_read forms start [] (start_ready forms) r.fits in
    record { to = read.to; reads = ap (steps (Some start)) (sym r.spelled) ∙ read.reads; whole = read.ready.whole }
