-- A token that is taken is behind those before it, and what is known stays known.
use Rattle.fac_source.specs.declared.tree.Element.TheVariants as element
use Rattle.fac_source.specs.declared.tree.Term.TheVariants as term
use Rattle.std.proofs.Common.{◌≡◌, ℕ, ◌≤◌, Bool, true, false, cond, ◌&&◌, List, [], ◌∷◌, ◌++◌, Option, Some, None, refl, ap, sym, ◌∙◌, subst, append_assoc, append-nil, arith, length}
use Rattle.std.proofs.lemmas.Bool.Decides.{Decides-ltb}
use Rattle.std.proofs.lemmas.List.{length_push}
use Rattle.std.proofs.lemmas.Slice.Eq.{bytes_eq-Decides}
use Rattle.std.specs.Prelude.{nat_lt, codes}
use Rattle.fac_base.specs.declared.place.Place.{Place}
use Rattle.fac_source.specs.declared.token.Token.{Token}
use Rattle.fac_source.specs.declared.tree.Element.{Element}
use Rattle.fac_source.specs.declared.tree.Bracket.{Bracket}
use Rattle.fac_source.specs.declared.tree.Bracket.TheVariants.{Quotation, Array, Fry}
use Rattle.fac_parse.specs.declared.form_parts.Taking.{Taking}
use Rattle.fac_parse.specs.declared.form_parts.Taking.TheVariants.{Values, Locals}
use Rattle.fac_source.specs.declared.tree.Callee.{Callee}
use Rattle.fac_source.specs.declared.tree.DefinitionMark.{DefinitionMark}
use Rattle.fac_source.specs.declared.tree.DefinitionMark.TheVariants as mark
use Rattle.fac_source.specs.declared.tree.FormKind.{FormKind}
use Rattle.fac_source.specs.declared.tree.Key.{Key}
use Rattle.fac_source.specs.declared.tree.Key.TheVariants.{Arrow}
use Rattle.fac_source.specs.declared.tree.Part.{Part}
use Rattle.fac_source.specs.declared.tree.Part.TheVariants as part
use Rattle.fac_source.specs.declared.tree.Parent.{Parent}
use Rattle.fac_source.specs.declared.tree.Form.{Form}
use Rattle.fac_parse.specs.declared.context.Context.{Context}
use Rattle.fac_source.specs.declared.form_table.Slot.{Slot}
use Rattle.fac_source.specs.declared.form_table.Slot.TheVariants as slot
use Rattle.fac_parse.specs.declared.form_parts.Naming.{Naming}
use Rattle.fac_parse.specs.declared.form_parts.Naming.TheVariants as naming
use Rattle.fac_parse.specs.declared.form_parts.Marked.{Marked}
use Rattle.fac_parse.specs.declared.form_parts.Marked.TheVariants as marked
use Rattle.fac_effect.specs.declared.spelling.Spelling.{Spelling}
use Rattle.fac_source.specs.declared.tree.Literal.TheVariants.{True, False}
use Rattle.fac_effect.specs.declared.spelling.Spelling.TheVariants.{Begins, Fixed, Semi, OpensBracket, ClosesBracket, OpensLocals, Bar, Binds, Hole, CalledHole, Inline, Recursive, NextMethod, Wraps, EffectCall, Literal, Name}
use Rattle.fac_effect.specs.declared.effect_reader.EffectReader.{EffectReader}
use Rattle.fac_effect.specs.EffectReading.{Progress, reads as reading, whole, refused, opened, step as token_step, all_pass, go_on, after}
use Rattle.fac_effect.proofs.EffectLemmas.{whole_is_effect, after_more}
use Rattle.fac_effect.specs.LocalNames.{all_may_stand}
use Rattle.fac_effect.specs.SaidEffects.{effect_of}
use Rattle.fac_effect.specs.RowlessEffects.{opened_tokens, behind_opens, is_no_row, have_no_row}
use Rattle.fac_effect.proofs.EffectRuns.{run_append}
use Rattle.fac_effect.proofs.RowlessLemmas.{whole_is_rowless, none_append}
use Rattle.fac_effect.proofs.LocalNameLemmas.{inputs_are_named, names_append}
use Rattle.fac_parse.specs.Contexts.{items_in, counted, uncounted, bound, opened_locals, behind}
use Rattle.fac_effect.specs.Spellings.{wrap_text, call_text, token_spelling, token_text, plain_token}
use Rattle.fac_source.specs.FormRows.{head_of, slots_of}
use Rattle.fac_parse.specs.Trees.{element_tokens, items_tokens, mark_token, marks_tokens, parent_tokens, part_tokens, parts_tokens, flatten, named, IsName, AreNames, most_slots, is_parent_sign, AreSlots, AreLocalNames, IsLiteralBracket, AreMarks, IsElement, Lead, Encloses, Fills, IsWellFormed}
use Rattle.fac_parse.specs.inner.Reader.{Half, no_half, binding, heading, wrapping, calling, Grown, stuck, begun_as, grown, Within, name, names, tuple_slots, tuple_parent, fixed, effect, items, literal, marks, Begun, begun, Open, top, row, State, in_state, outside, start, row_form, last_inputs, more, with_part, with_run, may_end, begin_row, element_of, grown_if, half_where, is_local, begin_element, bind_step, heading_step, wrap_step, call_with, call_step, grow, with_element, with_grown, begins, begin_or_add, top_step, name_step, names_step, sign_step, sign_or_slot, slots_step, parent_step, key_step, fixed_step, written, effect_with, may_take, effect_step, row_items, end_items, is_semi, end_or_add, is_open, literal_with, literal_grown, mark_of, may_follow, with_mark, mark_step, row_step, open_step, step, steps}
use Rattle.fac_effect.proofs.SpellingLemmas.{sign_token, name_token}
use Rattle.fac_parse.proofs.StateTokens.{half_tokens, within_tokens, tokens_of, state_tokens, element_behind, parts-last, Filled, filled_more, effect_slot, slot_of, Inside, open_inside, GoodHalf, BeginsLiteral, locals_before, NamesLocals, GoodWithin, GoodRow, NoRunLast, GoodOpen, Good, run_fits, run_tokens, Gone, ended_row_gone, gone_on}

-- a state is good, and has these tokens and this one
pub record Taken (tokens : List Token) (t : Token) (s : State) : Type 0 where
  pub good : Good s
  pub tokens_are : state_tokens s ≡ tokens ++ t ∷ []

abbrev pub Keeps : List Token → Token → Option State → Type 0
Keeps tokens t None = Unit {0}
Keeps tokens t (Some s) = Taken tokens t s

cond_keeps : (b : Bool) (tokens : List Token) (t : Token) (s : State) → (b ≡ true → Taken tokens t s) → Keeps tokens t (cond b (Some s) None)
cond_keeps true tokens t s h = h refl
cond_keeps false tokens t s h = tt

-- Rows.

front_tokens : (fs : List Token) (head : Token) (ps ws : List Token) (t : Token) → fs ++ (head ∷ (ps ++ (ws ++ t ∷ []))) ≡ (fs ++ (head ∷ (ps ++ ws))) ++ t ∷ []
front_tokens fs head ps ws t = ap (λ (ts : List Token). fs ++ (head ∷ ts)) (sym (append_assoc ps ws (t ∷ []))) ∙ sym (append_assoc fs (head ∷ (ps ++ ws)) (t ∷ []))

-- a part that is whole
part_taken : (forms : List Form) (b : Begun) (w : Within) (p : Part) (t : Token) → IsWellFormed forms → GoodRow b w → Fills (last_inputs 0 b.parts) (slot_of w) p → part_tokens p ≡ within_tokens w ++ t ∷ [] → Taken (tokens_of forms (row b w)) t (with_part forms b p)
part_taken forms b w p t fits g fills e =
    let gone = gone_on forms (more b p) g.rest fits (filled_more 0 (slots_of b.kind) b.parts (slot_of w) g.rest p g.filled fills) in
    let head = plain_token b.opens (head_of b.kind) in
    record {
      good = gone.good;
      tokens_are =
          gone.tokens
          ∙ ap (λ (ts : List Token). flatten forms ++ head ∷ ts) (parts-last b.parts p ∙ ap (λ (ts : List Token). parts_tokens b.parts ++ ts) e)
          ∙ front_tokens (flatten forms) head (parts_tokens b.parts) (within_tokens w) t;
    }

-- a part that goes on
within_taken : (forms : List Form) (b : Begun) (w v : Within) (t : Token) → IsWellFormed forms → (g : GoodRow b w) → slot_of w ≡ slot_of v → GoodWithin (last_inputs 0 b.parts) g.rest v → within_tokens v ≡ within_tokens w ++ t ∷ [] → Taken (tokens_of forms (row b w)) t (in_state forms (row b v))
within_taken forms b w v t fits g same good e =
    let head = plain_token b.opens (head_of b.kind) in
    record {
      good = record { fits = fits; opens = record { rest = g.rest; filled = subst (λ (s : Slot). Filled 0 (slots_of b.kind) b.parts (s ∷ g.rest)) same g.filled; within = good } };
      tokens_are =
          ap (λ (ts : List Token). flatten forms ++ (head ∷ (parts_tokens b.parts ++ ts))) e
          ∙ front_tokens (flatten forms) head (parts_tokens b.parts) (within_tokens w) t;
    }

-- Names.

named_sign : (k : Naming) (s : Spelling) → named k s ≡ Semi → s ≡ Semi
named_sign naming.Any s h = h
named_sign naming.Class (Literal True) h = cc
named_sign naming.Class (Literal False) h = cc
named_sign naming.Class _ h = h

pub name_fills : (n : ℕ) (k : Naming) (t : Token) → IsName k t → Fills n (slot_of (name k)) (part.Name t)
name_fills n naming.Any t h = h
name_fills n naming.Class t h = h

pub names_fill : (n : ℕ) (k : Naming) (ns : List Token) (ends : Place) → AreNames k ns → Fills n (slot_of (names k ns)) (part.Names ns ends)
names_fill n naming.Any ns ends h = h
names_fill n naming.Class ns ends h = h

name_keeps : (forms : List Form) (b : Begun) (k : Naming) (t : Token) (s : Spelling) → named k (token_spelling t.kind) ≡ s → IsWellFormed forms → GoodRow b (name k) → Keeps (tokens_of forms (row b (name k))) t (name_step forms b s t)
name_keeps forms b k t Name h fits g = part_taken forms b (name k) (part.Name t) t fits g (name_fills (last_inputs 0 b.parts) k t h) refl
name_keeps forms b k t _ h fits g = tt

AreNames-more : (k : Naming) (ts : List Token) (t : Token) → AreNames k ts → IsName k t → AreNames k (ts ++ t ∷ [])
AreNames-more k [] t h e = (e, tt)
AreNames-more k (u ∷ ts) t h e = (h.0, AreNames-more k ts t h.1 e)

-- tokens and a sign behind them
with_sign : (ts : List Token) (t : Token) (u : Token) → t ≡ u → ts ++ u ∷ [] ≡ ts ++ t ∷ []
with_sign ts t u e = ap (λ (v : Token). ts ++ v ∷ []) (sym e)

names_keeps : (forms : List Form) (b : Begun) (k : Naming) (ns : List Token) (t : Token) (s : Spelling) → named k (token_spelling t.kind) ≡ s → IsWellFormed forms → GoodRow b (names k ns) → Keeps (tokens_of forms (row b (names k ns))) t (names_step forms b k ns s t)
names_keeps forms b k ns t Name h fits g = within_taken forms b (names k ns) (names k (ns ++ t ∷ [])) t fits g refl (AreNames-more k ns t g.within h) refl
names_keeps forms b k ns t Semi h fits g = part_taken forms b (names k ns) (part.Names ns t.place) t fits g (names_fill (last_inputs 0 b.parts) k ns t.place g.within) (with_sign ns t _ (sign_token t Semi (named_sign k (token_spelling t.kind) h) tt))
names_keeps forms b k ns t _ h fits g = tt

-- Slots of a tuple class.

AreSlots-more : (ts : List Token) (t : Token) → AreSlots ts → token_spelling t.kind ≡ Name → is_parent_sign t ≡ false → AreSlots (ts ++ t ∷ [])
AreSlots-more [] t h e f = (e, f, tt)
AreSlots-more (u ∷ ts) t h e f = (h.0, h.1, AreSlots-more ts t h.2 e f)

one_more : (ts : List Token) (t : Token) (most : ℕ) → nat_lt (length ts) most ≡ true → length (ts ++ t ∷ []) ≤ most
one_more ts t most h = let pushed = length_push ts t in let less = (Decides-ltb (length ts) most).0 h in omega (arith, pushed, less)

-- the sign before a parent
pub parent_sign : (t : Token) → token_spelling t.kind ≡ Name → is_parent_sign t ≡ true → t ≡ plain_token t.place (codes "<")
parent_sign t h e = name_token t h ∙ ap (plain_token t.place) ((bytes_eq-Decides (token_text t.kind) (codes "<")).0 e)

sign_keeps : (forms : List Form) (b : Begun) (p : Option Parent) (ns : List Token) (t : Token) → t ≡ plain_token t.place (codes "<") → IsWellFormed forms → GoodRow b (tuple_slots p ns) → Keeps (tokens_of forms (row b (tuple_slots p ns))) t (sign_step forms b p ns t.place)
sign_keeps forms b None [] t is fits g = within_taken forms b (tuple_slots None []) (tuple_parent t.place) t fits g refl tt (with_sign [] t _ is)
sign_keeps forms b None (n ∷ ns) t is fits g = tt
sign_keeps forms b (Some q) ns t is fits g = tt

slot_keeps : (forms : List Form) (b : Begun) (p : Option Parent) (ns : List Token) (t : Token) (o : Bool) → is_parent_sign t ≡ o → token_spelling t.kind ≡ Name → IsWellFormed forms → GoodRow b (tuple_slots p ns) → Keeps (tokens_of forms (row b (tuple_slots p ns))) t (sign_or_slot forms b p ns o t)
slot_keeps forms b p ns t true e h fits g = sign_keeps forms b p ns t (parent_sign t h e) fits g
slot_keeps forms b p ns t false e h fits g =
    cond_keeps (nat_lt (length ns) most_slots) _ t (in_state forms (row b (tuple_slots p (ns ++ t ∷ [])))) (λ few.
    within_taken forms b (tuple_slots p ns) (tuple_slots p (ns ++ t ∷ [])) t fits g refl (g.within.0, AreSlots-more ns t g.within.1 h e, one_more ns t most_slots few) (sym (append_assoc (parent_tokens p) ns (t ∷ []))))

slots_keeps : (forms : List Form) (b : Begun) (p : Option Parent) (ns : List Token) (t : Token) (s : Spelling) → token_spelling t.kind ≡ s → IsWellFormed forms → GoodRow b (tuple_slots p ns) → Keeps (tokens_of forms (row b (tuple_slots p ns))) t (slots_step forms b p ns s t)
slots_keeps forms b p ns t Name h fits g = slot_keeps forms b p ns t (is_parent_sign t) refl h fits g
slots_keeps forms b p ns t Semi h fits g = part_taken forms b (tuple_slots p ns) (part.Slots p ns t.place) t fits g g.within (with_sign (parent_tokens p ++ ns) t _ (sign_token t Semi h tt))
slots_keeps forms b p ns t _ h fits g = tt

parent_keeps : (forms : List Form) (b : Begun) (place : Place) (t : Token) (s : Spelling) → token_spelling t.kind ≡ s → IsWellFormed forms → GoodRow b (tuple_parent place) → Keeps (tokens_of forms (row b (tuple_parent place))) t (parent_step forms b place s t)
parent_keeps forms b place t Name h fits g = within_taken forms b (tuple_parent place) (tuple_slots (Some (record { sign = place; class = t })) []) t fits g refl (h, tt, omega arith) refl
parent_keeps forms b place t _ h fits g = tt

key_keeps : (forms : List Form) (b : Begun) (key other : Key) (t : Token) → token_spelling t.kind ≡ Fixed other → IsWellFormed forms → GoodRow b (fixed key) → Keeps (tokens_of forms (row b (fixed key))) t (key_step forms b key other t.place)
key_keeps forms b Arrow Arrow t h fits g = part_taken forms b (fixed Arrow) (part.Fixed Arrow t.place) t fits g refl (with_sign [] t _ (sign_token t (Fixed Arrow) h tt))

fixed_keeps : (forms : List Form) (b : Begun) (key : Key) (t : Token) (s : Spelling) → token_spelling t.kind ≡ s → IsWellFormed forms → GoodRow b (fixed key) → Keeps (tokens_of forms (row b (fixed key))) t (fixed_step forms b key s t)
fixed_keeps forms b key t (Fixed other) h fits g = key_keeps forms b key other t h fits g
fixed_keeps forms b key t _ h fits g = tt

-- Effects.

pub effect_fills : (n : ℕ) (k : Taking) (ts : List Token) → after ts ≡ whole → NamesLocals k ts → Fills n (effect_slot k) (part.Effect (written ts))
effect_fills n Values ts h named = whole_is_effect ts h
effect_fills n Locals ts h named = let is = whole_is_effect ts h in (is, sym (inputs_are_named ts (effect_of ts) is) ∙ named)

effect_kept : (forms : List Form) (b : Begun) (k : Taking) (ts : List Token) (r : EffectReader) (t : Token) (p : Progress) → after (ts ++ t ∷ []) ≡ p → NamesLocals k (ts ++ t ∷ []) → IsWellFormed forms → GoodRow b (effect k ts r) → Keeps (tokens_of forms (row b (effect k ts r))) t (effect_with forms b k (ts ++ t ∷ []) p)
effect_kept forms b k ts r t (reading next) e named fits g = within_taken forms b (effect k ts r) (effect k (ts ++ t ∷ []) next) t fits g refl (e, named) refl
effect_kept forms b k ts r t whole e named fits g = part_taken forms b (effect k ts r) (part.Effect (written (ts ++ t ∷ []))) t fits g (effect_fills (last_inputs 0 b.parts) k (ts ++ t ∷ []) e named) refl
effect_kept forms b k ts r t (refused why) e named fits g = tt

named_more : (k : Taking) (ts : List Token) (r : EffectReader) (t : Token) → after ts ≡ reading r → NamesLocals k ts → may_take k r (token_spelling t.kind) t ≡ true → NamesLocals k (ts ++ t ∷ [])
named_more Values ts r t e named h = tt
named_more Locals ts r t e named h =
    names_append ts (t ∷ []) r e ∙ ap (λ (x : Bool). x && all_may_stand (reading r) (t ∷ [])) named ∙ ap (λ (x : Bool). x && true) h

effect_kept_by : (forms : List Form) (b : Begun) (k : Taking) (ts : List Token) (r : EffectReader) (t : Token) (x : Bool) → may_take k r (token_spelling t.kind) t ≡ x → IsWellFormed forms → GoodRow b (effect k ts r) → Keeps (tokens_of forms (row b (effect k ts r))) t (cond x (effect_with forms b k (ts ++ t ∷ []) (token_step r (token_spelling t.kind) t)) None)
effect_kept_by forms b k ts r t false h fits g = tt
effect_kept_by forms b k ts r t true h fits g =
    effect_kept forms b k ts r t (token_step r (token_spelling t.kind) t) (after_more ts t ∙ ap (λ (p : Progress). go_on p t) g.within.0) (named_more k ts r t g.within.0 g.within.1 h) fits g

effect_keeps : (forms : List Form) (b : Begun) (k : Taking) (ts : List Token) (r : EffectReader) (t : Token) (s : Spelling) → token_spelling t.kind ≡ s → IsWellFormed forms → GoodRow b (effect k ts r) → Keeps (tokens_of forms (row b (effect k ts r))) t (effect_step forms b k ts r s t)
effect_keeps forms b k ts r t s h fits g =
    subst (λ (x : Spelling). Keeps (tokens_of forms (row b (effect k ts r))) t (effect_step forms b k ts r x t)) h (effect_kept_by forms b k ts r t (may_take k r (token_spelling t.kind) t) refl fits g)

-- Items.

pub Lead-more : (from : List Context) (es : List Element) (to : List Context) (e : Element) (next : List Context) → Lead from es to → IsElement e → behind to e ≡ Some next → Lead from (es ++ e ∷ []) next
Lead-more from [] to e next h is b = (is, next, subst (λ (x : List Context). behind x e ≡ Some next) (sym h) b, refl)
Lead-more from (x ∷ es) to e next h is b = (h.0, h.1, h.2, Lead-more h.1 es to e next h.3 is b)

alone : (t u : Token) → t ≡ u → u ∷ [] ≡ t ∷ []
alone t u e = ap (λ (v : Token). v ∷ []) (sym e)

-- what is known where one more token of an element is taken
abbrev IsGrown : List Context → Half → Token → Grown → Type 0
IsGrown contexts h t stuck = Unit {0}
IsGrown contexts h t (begun_as next) = GoodHalf contexts next × (half_tokens next ≡ half_tokens h ++ t ∷ [])
IsGrown contexts h t (grown e) = IsElement e × (element_tokens e ≡ half_tokens h ++ t ∷ [])

element_is : (contexts : List Context) (t : Token) (s : Spelling) → token_spelling t.kind ≡ s → IsGrown contexts no_half t (grown_if (element_of s t))
element_is contexts t (Literal l) h = (h, refl)
element_is contexts t Name h = (h, refl)
element_is contexts t NextMethod h = (tt, alone t _ (sign_token t NextMethod h tt))
element_is contexts t Hole h = (tt, alone t _ (sign_token t Hole h tt))
element_is contexts t CalledHole h = (tt, alone t _ (sign_token t CalledHole h tt))
element_is contexts t (OpensBracket bracket) h = (tt, alone t _ (sign_token t (OpensBracket bracket) h tt))
element_is contexts t (ClosesBracket Quotation) h = (tt, alone t _ (sign_token t (ClosesBracket Quotation) h tt))
element_is contexts t (ClosesBracket Array) h = (tt, alone t _ (sign_token t (ClosesBracket Array) h tt))
element_is contexts t (ClosesBracket Fry) h = tt
element_is contexts t _ h = tt

binds_is : (contexts : List Context) (t : Token) (o : Option (List Context)) → bound (uncounted contexts) ≡ o → t ≡ plain_token t.place (codes ":>") → IsGrown contexts no_half t (half_where o (binding t.place))
binds_is contexts t None e is = tt
binds_is contexts t (Some next) e is = ((next, e), alone t _ is)

opens_is : (contexts : List Context) (t : Token) (o : Option (List Context)) → opened_locals 0 (uncounted contexts) ≡ o → t ≡ plain_token t.place (codes "[|") → IsGrown contexts no_half t (half_where o (heading t.place []))
opens_is contexts t None e is = tt
opens_is contexts t (Some next) e is = ((tt, next, e), alone t _ is)

wraps_is : (contexts : List Context) (t : Token) (o : Option (List Context)) → counted contexts ≡ o → t ≡ plain_token t.place wrap_text → IsGrown contexts no_half t (half_where o (wrapping t.place))
wraps_is contexts t None e is = tt
wraps_is contexts t (Some next) e is = ((next, e), alone t _ is)

calls_is : (contexts : List Context) (callee : Callee) (t : Token) (o : Option (List Context)) → uncounted contexts ≡ o → t ≡ plain_token t.place (call_text callee) → IsGrown contexts no_half t (half_where o (calling callee t.place [] opened))
calls_is contexts callee t None e is = tt
calls_is contexts callee t (Some next) e is = ((refl, refl, next, e), alone t _ is)

begin_is : (contexts : List Context) (t : Token) (s : Spelling) → token_spelling t.kind ≡ s → IsGrown contexts no_half t (begin_element contexts s t)
begin_is contexts t Binds h = binds_is contexts t (bound (uncounted contexts)) refl (sign_token t Binds h tt)
begin_is contexts t OpensLocals h = opens_is contexts t (opened_locals 0 (uncounted contexts)) refl (sign_token t OpensLocals h tt)
begin_is contexts t Wraps h = wraps_is contexts t (counted contexts) refl (sign_token t Wraps h tt)
begin_is contexts t (EffectCall callee) h = calls_is contexts callee t (uncounted contexts) refl (sign_token t (EffectCall callee) h tt)
begin_is contexts t s h = element_is contexts t s h

bound_is : (contexts : List Context) (sign : Place) (t : Token) (x : Bool) → token_spelling t.kind ≡ Name → is_local t ≡ x → IsGrown contexts (binding sign) t (cond x (grown (element.Item (term.Bind sign t))) stuck)
bound_is contexts sign t true h e = ((h, e), refl)
bound_is contexts sign t false h e = tt

bind_is : (contexts : List Context) (sign : Place) (t : Token) (s : Spelling) → token_spelling t.kind ≡ s → IsGrown contexts (binding sign) t (bind_step sign s t)
bind_is contexts sign t Name h = bound_is contexts sign t (is_local t) h refl
bind_is contexts sign t _ h = tt

AreLocalNames-more : (ts : List Token) (t : Token) → AreLocalNames ts → token_spelling t.kind ≡ Name → is_local t ≡ true → AreLocalNames (ts ++ t ∷ [])
AreLocalNames-more [] t h e l = ((e, l), tt)
AreLocalNames-more (u ∷ ts) t h e l = (h.0, AreLocalNames-more ts t h.1 e l)

room_is : (contexts : List Context) (opens : Place) (ns : List Token) (t : Token) (o : Option (List Context)) → AreLocalNames (ns ++ t ∷ []) → opened_locals (length (ns ++ t ∷ [])) (uncounted contexts) ≡ o → IsGrown contexts (heading opens ns) t (half_where o (heading opens (ns ++ t ∷ [])))
room_is contexts opens ns t None are e = tt
room_is contexts opens ns t (Some next) are e = ((are, next, e), refl)

named_is : (contexts : List Context) (opens : Place) (ns : List Token) (t : Token) (x : Bool) → AreLocalNames ns → token_spelling t.kind ≡ Name → is_local t ≡ x → IsGrown contexts (heading opens ns) t (cond x (half_where (opened_locals (length (ns ++ t ∷ [])) (uncounted contexts)) (heading opens (ns ++ t ∷ []))) stuck)
named_is contexts opens ns t true are h e = room_is contexts opens ns t (opened_locals (length (ns ++ t ∷ [])) (uncounted contexts)) (AreLocalNames-more ns t are h e) refl
named_is contexts opens ns t false are h e = tt

heading_is : (contexts : List Context) (opens : Place) (ns : List Token) (t : Token) (s : Spelling) → AreLocalNames ns → token_spelling t.kind ≡ s → IsGrown contexts (heading opens ns) t (heading_step contexts opens ns s t)
heading_is contexts opens ns t Name are h = named_is contexts opens ns t (is_local t) are h refl
heading_is contexts opens ns t Bar are h = (are, with_sign (plain_token opens (codes "[|") ∷ ns) t _ (sign_token t Bar h tt))
heading_is contexts opens ns t _ are h = tt

wrap_is : (contexts : List Context) (sign : Place) (t : Token) (s : Spelling) → token_spelling t.kind ≡ s → IsGrown contexts (wrapping sign) t (wrap_step sign s t)
wrap_is contexts sign t Name h = (h, refl)
wrap_is contexts sign t _ h = tt

-- one more token of the effect of a call
declared_is : (contexts : List Context) (callee : Callee) (sign : Place) (ts : List Token) (r : EffectReader) (t : Token) (next : List Context) (p : Progress) → uncounted contexts ≡ Some next → behind_opens (ts ++ t ∷ []) ≡ p → have_no_row (ts ++ t ∷ []) ≡ true → IsGrown contexts (calling callee sign ts r) t (call_with callee sign (ts ++ t ∷ []) p)
declared_is contexts callee sign ts r t next (reading q) b e none = ((e, none, next, b), refl)
declared_is contexts callee sign ts r t next whole b e none = ((effect_of (opened_tokens sign (ts ++ t ∷ [])), whole_is_rowless sign (ts ++ t ∷ []) e none, refl), refl)
declared_is contexts callee sign ts r t next (refused why) b e none = tt

call_tested : (contexts : List Context) (callee : Callee) (sign : Place) (ts : List Token) (r : EffectReader) (t : Token) (x : Bool) → is_no_row r (token_spelling t.kind) t ≡ x → GoodHalf contexts (calling callee sign ts r) → IsGrown contexts (calling callee sign ts r) t (cond x (call_with callee sign (ts ++ t ∷ []) (token_step r (token_spelling t.kind) t)) stuck)
call_tested contexts callee sign ts r t false h good = tt
call_tested contexts callee sign ts r t true h good =
    declared_is contexts callee sign ts r t good.2 (token_step r (token_spelling t.kind) t) good.3 (run_append (reading opened) ts (t ∷ []) ∙ ap (λ (p : Progress). go_on p t) good.0)
    (none_append ts (t ∷ []) r good.0 ∙ ap (λ (x : Bool). x && all_pass is_no_row (reading r) (t ∷ [])) good.1 ∙ ap (λ (x : Bool). x && true) h)

call_is : (contexts : List Context) (callee : Callee) (sign : Place) (ts : List Token) (r : EffectReader) (t : Token) (s : Spelling) → GoodHalf contexts (calling callee sign ts r) → token_spelling t.kind ≡ s → IsGrown contexts (calling callee sign ts r) t (call_step callee sign ts r s t)
call_is contexts callee sign ts r t s good h =
    subst (λ (x : Spelling). IsGrown contexts (calling callee sign ts r) t (call_step callee sign ts r x t)) h (call_tested contexts callee sign ts r t (is_no_row r (token_spelling t.kind) t) refl good)

grow_is : (contexts : List Context) (h : Half) (t : Token) (s : Spelling) → GoodHalf contexts h → token_spelling t.kind ≡ s → IsGrown contexts h t (grow contexts h s t)
grow_is contexts no_half t s good e = begin_is contexts t s e
grow_is contexts (binding sign) t s good e = bind_is contexts sign t s e
grow_is contexts (heading opens ns) t s good e = heading_is contexts opens ns t s good.0 e
grow_is contexts (wrapping sign) t s good e = wrap_is contexts sign t s e
grow_is contexts (calling callee sign ts r) t s good e = call_is contexts callee sign ts r t s good e

-- items that are held somewhere are good there, and stand behind these tokens
record Holds (held : List Element → List Context → Half → Open) (forms : List Form) (front : List Token) (from : List Context) : Type 0 where
  good : (es : List Element) (contexts : List Context) (h : Half) → Lead from es contexts → GoodHalf contexts h → Good (in_state forms (held es contexts h))
  tokens : (es : List Element) (contexts : List Context) (h : Half) → tokens_of forms (held es contexts h) ≡ front ++ (items_tokens es ++ half_tokens h)

last_out : (front is hs : List Token) (t : Token) → front ++ (is ++ (hs ++ t ∷ [])) ≡ (front ++ (is ++ hs)) ++ t ∷ []
last_out front is hs t = ap (λ (ts : List Token). front ++ ts) (sym (append_assoc is hs (t ∷ []))) ∙ sym (append_assoc front (is ++ hs) (t ∷ []))

element_kept : (held : List Element → List Context → Half → Open) (forms : List Form) (front : List Token) (from : List Context) → Holds held forms front from → (es : List Element) (contexts : List Context) (h : Half) → Lead from es contexts → (t : Token) (e : Element) → IsElement e → element_tokens e ≡ half_tokens h ++ t ∷ [] → (next : Option (List Context)) → behind contexts e ≡ next → Keeps (tokens_of forms (held es contexts h)) t (with_element held forms es e next)
element_kept held forms front from holds es contexts h lead t e is spelled None b = tt
element_kept held forms front from holds es contexts h lead t e is spelled (Some next) b = record {
  good = holds.good (es ++ e ∷ []) next no_half (Lead-more from es contexts e next lead is b) tt;
  tokens_are =
      holds.tokens (es ++ e ∷ []) next no_half
      ∙ ap (λ (ts : List Token). front ++ ts) (append-nil (items_tokens (es ++ e ∷ [])) ∙ element_behind es e (half_tokens h ++ t ∷ []) spelled)
      ∙ last_out front (items_tokens es) (half_tokens h) t
      ∙ ap (λ (ts : List Token). ts ++ t ∷ []) (sym (holds.tokens es contexts h));
}

grown_keeps : (held : List Element → List Context → Half → Open) (forms : List Form) (front : List Token) (from : List Context) → Holds held forms front from → (es : List Element) (contexts : List Context) (h : Half) → Lead from es contexts → (t : Token) (g : Grown) → IsGrown contexts h t g → Keeps (tokens_of forms (held es contexts h)) t (with_grown held forms es contexts g)
grown_keeps held forms front from holds es contexts h lead t stuck is = tt
grown_keeps held forms front from holds es contexts h lead t (begun_as next) is = record {
  good = holds.good es contexts next lead is.0;
  tokens_are =
      holds.tokens es contexts next
      ∙ ap (λ (ts : List Token). front ++ (items_tokens es ++ ts)) is.1
      ∙ last_out front (items_tokens es) (half_tokens h) t
      ∙ ap (λ (ts : List Token). ts ++ t ∷ []) (sym (holds.tokens es contexts h));
}
grown_keeps held forms front from holds es contexts h lead t (grown e) is = element_kept held forms front from holds es contexts h lead t e is.0 is.1 (behind contexts e) refl

top_holds : (forms : List Form) → IsWellFormed forms → NoRunLast forms → Holds top forms (flatten forms) outside
top_holds forms fits last = record { good = λ es contexts h lead half. record { fits = fits; opens = (lead, half, last) }; tokens = λ es contexts h. refl }

begun_is : (s : Spelling) (kind : FormKind) → begins s ≡ Some kind → s ≡ Begins kind
begun_is (Begins k) kind h = let same : k ≡ kind = cc in ap Begins same
begun_is _ kind h = cc

begin_keeps : (forms : List Form) (es : List Element) (contexts : List Context) (h : Half) (kind : FormKind) (t : Token) → token_spelling t.kind ≡ Begins kind → IsWellFormed forms → GoodOpen forms (top es contexts h) → Keeps (tokens_of forms (top es contexts h)) t (begin_row kind t.place forms es (may_end contexts h))
begin_keeps forms es (c ∷ []) no_half kind t h fits g =
    let gone = gone_on (with_run forms es) (begun kind t.place) (slots_of kind) (run_fits forms es fits g.2 (c, g.0)) refl in
    record {
      good = gone.good;
      tokens_are = gone.tokens ∙ with_sign (flatten (with_run forms es)) t _ (sign_token t (Begins kind) h tt) ∙ ap (λ (ts : List Token). ts ++ t ∷ []) (run_tokens forms es ∙ ap (λ (ts : List Token). flatten forms ++ ts) (sym (append-nil (items_tokens es))));
    }
begin_keeps forms es (c ∷ []) (binding sign) kind t h fits g = tt
begin_keeps forms es (c ∷ []) (heading opens ns) kind t h fits g = tt
begin_keeps forms es (c ∷ []) (wrapping sign) kind t h fits g = tt
begin_keeps forms es (c ∷ []) (calling callee sign ts r) kind t h fits g = tt
begin_keeps forms es [] half kind t h fits g = tt
begin_keeps forms es (c ∷ d ∷ contexts) half kind t h fits g = tt

top_keeps_by : (forms : List Form) (es : List Element) (contexts : List Context) (h : Half) (o : Option FormKind) (s : Spelling) (t : Token) → begins s ≡ o → token_spelling t.kind ≡ s → IsWellFormed forms → GoodOpen forms (top es contexts h) → Keeps (tokens_of forms (top es contexts h)) t (begin_or_add forms es contexts h o s t)
top_keeps_by forms es contexts h (Some kind) s t e k fits g = begin_keeps forms es contexts h kind t (k ∙ begun_is s kind e) fits g
top_keeps_by forms es contexts h None s t e k fits g = grown_keeps top forms (flatten forms) outside (top_holds forms fits g.2) es contexts h g.0 t (grow contexts h s t) (grow_is contexts h t s g.1 k)

top_keeps : (forms : List Form) (es : List Element) (contexts : List Context) (h : Half) (s : Spelling) (t : Token) → token_spelling t.kind ≡ s → IsWellFormed forms → GoodOpen forms (top es contexts h) → Keeps (tokens_of forms (top es contexts h)) t (top_step forms es contexts h s t)
top_keeps forms es contexts h s t k fits g = top_keeps_by forms es contexts h (begins s) s t refl k fits g

row_holds : (forms : List Form) (b : Begun) (k : Taking) (es : List Element) (contexts : List Context) (h : Half) → IsWellFormed forms → GoodRow b (items k es contexts h) → Holds (row_items b k) forms (flatten forms ++ plain_token b.opens (head_of b.kind) ∷ parts_tokens b.parts) (items_in (locals_before k (last_inputs 0 b.parts)) ∷ [])
row_holds forms b k es contexts h fits g = record {
  good = λ es contexts h lead half. record { fits = fits; opens = record { rest = g.rest; filled = g.filled; within = (lead, half) } };
  tokens = λ es contexts h. sym (append_assoc (flatten forms) (plain_token b.opens (head_of b.kind) ∷ parts_tokens b.parts) (items_tokens es ++ half_tokens h));
}

semi_is : (s : Spelling) → is_semi s ≡ true → s ≡ Semi
semi_is Semi h = refl
semi_is _ h = cc

pub items_fill : (n : ℕ) (k : Taking) (es : List Element) (to : Context) (ends : Place) → Lead (items_in (locals_before k n) ∷ []) es (to ∷ []) → Fills n (slot_of (items k es (to ∷ []) no_half)) (part.Items es ends)
items_fill n Values es to ends h = (to, h)
items_fill n Locals es to ends h = (to, h)

end_keeps : (forms : List Form) (b : Begun) (k : Taking) (es : List Element) (contexts : List Context) (h : Half) (t : Token) → token_spelling t.kind ≡ Semi → IsWellFormed forms → GoodRow b (items k es contexts h) → Keeps (tokens_of forms (row b (items k es contexts h))) t (end_items forms b es (may_end contexts h) t.place)
end_keeps forms b k es (c ∷ []) no_half t e fits g =
    part_taken forms b (items k es (c ∷ []) no_half) (part.Items es t.place) t fits g (items_fill (last_inputs 0 b.parts) k es c t.place g.within.0)
    (with_sign (items_tokens es) t _ (sign_token t Semi e tt) ∙ ap (λ (ts : List Token). ts ++ t ∷ []) (sym (append-nil (items_tokens es))))
end_keeps forms b k es (c ∷ []) (binding sign) t e fits g = tt
end_keeps forms b k es (c ∷ []) (heading opens ns) t e fits g = tt
end_keeps forms b k es (c ∷ []) (wrapping sign) t e fits g = tt
end_keeps forms b k es (c ∷ []) (calling callee sign ts r) t e fits g = tt
end_keeps forms b k es [] half t e fits g = tt
end_keeps forms b k es (c ∷ d ∷ contexts) half t e fits g = tt

items_keeps_by : (forms : List Form) (b : Begun) (k : Taking) (es : List Element) (contexts : List Context) (h : Half) (o : Bool) (s : Spelling) (t : Token) → is_semi s ≡ o → token_spelling t.kind ≡ s → IsWellFormed forms → GoodRow b (items k es contexts h) → Keeps (tokens_of forms (row b (items k es contexts h))) t (end_or_add forms b k es contexts h o s t)
items_keeps_by forms b k es contexts h true s t e l fits g = end_keeps forms b k es contexts h t (l ∙ semi_is s e) fits g
items_keeps_by forms b k es contexts h false s t e l fits g = grown_keeps (row_items b k) forms _ _ (row_holds forms b k es contexts h fits g) es contexts h g.within.0 t (grow contexts h s t) (grow_is contexts h t s g.within.1 l)

-- Literals.

pub inside_more : (from : List Context) (es : List Element) (to : List Context) (e : Element) (c d : Context) (next : List Context) → Inside from es to → IsElement e → behind to e ≡ Some (c ∷ d ∷ next) → Inside from (es ++ e ∷ []) (c ∷ d ∷ next)
inside_more [] es to e c d next h is b = absurd h
inside_more (x ∷ []) es to e c d next h is b = absurd h
inside_more (x ∷ y ∷ from) [] to e c d next h is b = (is, c ∷ d ∷ next, subst (λ (z : List Context). behind z e ≡ Some (c ∷ d ∷ next)) (sym h) b, refl)
inside_more (x ∷ y ∷ from) (z ∷ es) to e c d next h is b = (h.0, h.1, h.2, inside_more h.1 es to e c d next h.3 is b)

pub inside_ends : (from : List Context) (es : List Element) (to : List Context) (e : Element) (c : Context) → Inside from es to → IsElement e → behind to e ≡ Some (c ∷ []) → Encloses from (es ++ e ∷ [])
inside_ends [] es to e c h is b = absurd h
inside_ends (x ∷ []) es to e c h is b = absurd h
inside_ends (x ∷ y ∷ from) [] to e c h is b = (is, c ∷ [], subst (λ (z : List Context). behind z e ≡ Some (c ∷ [])) (sym h) b, tt)
inside_ends (x ∷ y ∷ from) (z ∷ es) to e c h is b = (h.0, h.1, h.2, inside_ends h.1 es to e c h.3 is b)

pub inside_open : (from : List Context) (es : List Element) (to : List Context) → Inside from es to → is_open to ≡ true
inside_open [] es to h = absurd h
inside_open (x ∷ []) es to h = absurd h
inside_open (x ∷ y ∷ from) [] to h = ap is_open (sym h)
inside_open (x ∷ y ∷ from) (e ∷ es) to h = inside_open h.1 es to h.3

literal_goes : (forms : List Form) (b : Begun) (bracket : Bracket) (place : Place) (es : List Element) (to : List Context) (h : Half) (t : Token) (e : Element) (next : Option (List Context)) → IsWellFormed forms → GoodRow b (literal (element.Opens bracket place ∷ es) to h) → IsElement e → element_tokens e ≡ half_tokens h ++ t ∷ [] → behind to e ≡ next → Keeps (tokens_of forms (row b (literal (element.Opens bracket place ∷ es) to h))) t (literal_with forms b (element.Opens bracket place ∷ (es ++ e ∷ [])) next)
literal_goes forms b bracket place es to h t e None fits g is spelled l = tt
literal_goes forms b bracket place es to h t e (Some []) fits g is spelled l = tt
literal_goes forms b bracket place es to h t e (Some (c ∷ [])) fits g is spelled l =
    part_taken forms b (literal (element.Opens bracket place ∷ es) to h) (part.Literal (element.Opens bracket place ∷ (es ++ e ∷ []))) t fits g (g.within.0, inside_ends (open_inside bracket) es to e c g.within.1 is l)
    (element_behind (element.Opens bracket place ∷ es) e (half_tokens h ++ t ∷ []) spelled ∙ sym (append_assoc (items_tokens (element.Opens bracket place ∷ es)) (half_tokens h) (t ∷ [])))
literal_goes forms b bracket place es to h t e (Some (c ∷ d ∷ next)) fits g is spelled l =
    within_taken forms b (literal (element.Opens bracket place ∷ es) to h) (literal (element.Opens bracket place ∷ (es ++ e ∷ [])) (c ∷ d ∷ next) no_half) t fits g refl (g.within.0, inside_more (open_inside bracket) es to e c d next g.within.1 is l, tt)
    (append-nil (items_tokens (element.Opens bracket place ∷ (es ++ e ∷ []))) ∙ element_behind (element.Opens bracket place ∷ es) e (half_tokens h ++ t ∷ []) spelled ∙ sym (append_assoc (items_tokens (element.Opens bracket place ∷ es)) (half_tokens h) (t ∷ [])))

-- a literal of one item
literal_alone : (forms : List Form) (b : Begun) (t : Token) (e : Element) → IsWellFormed forms → GoodRow b (literal [] outside no_half) → Fills (last_inputs 0 b.parts) slot.Literal (part.Literal (e ∷ [])) → element_tokens e ≡ t ∷ [] → Taken (tokens_of forms (row b (literal [] outside no_half))) t (with_part forms b (part.Literal (e ∷ [])))
literal_alone forms b t e fits g fills spelled = part_taken forms b (literal [] outside no_half) (part.Literal (e ∷ [])) t fits g fills (append-nil (element_tokens e) ∙ spelled)

literal_opens : (forms : List Form) (b : Begun) (t : Token) (bracket : Bracket) (place : Place) → IsLiteralBracket bracket → IsWellFormed forms → GoodRow b (literal [] outside no_half) → element_tokens (element.Opens bracket place) ≡ t ∷ [] → Taken (tokens_of forms (row b (literal [] outside no_half))) t (in_state forms (row b (literal (element.Opens bracket place ∷ []) (open_inside bracket) no_half)))
literal_opens forms b t bracket place is fits g spelled =
    within_taken forms b (literal [] outside no_half) (literal (element.Opens bracket place ∷ []) (open_inside bracket) no_half) t fits g refl (is, refl, tt) spelled

literal_begins : (forms : List Form) (b : Begun) (t : Token) (e : Element) → IsWellFormed forms → GoodRow b (literal [] outside no_half) → IsElement e → element_tokens e ≡ t ∷ [] → Keeps (tokens_of forms (row b (literal [] outside no_half))) t (literal_grown forms b [] outside (grown e))
literal_begins forms b t (element.Item (term.Name n)) fits g is spelled = tt
literal_begins forms b t (element.Item (term.Wrapped sign n)) fits g is spelled = literal_alone forms b t (element.Item (term.Wrapped sign n)) fits g is spelled
literal_begins forms b t (element.Item (term.EffectCall callee sign ts height)) fits g is spelled = tt
literal_begins forms b t (element.Item (term.Literal n l)) fits g is spelled = literal_alone forms b t (element.Item (term.Literal n l)) fits g is spelled
literal_begins forms b t (element.Item (term.NextMethod place)) fits g is spelled = tt
literal_begins forms b t (element.Item (term.Bind sign n)) fits g is spelled = tt
literal_begins forms b t (element.Item (term.Hole place)) fits g is spelled = tt
literal_begins forms b t (element.Item (term.CalledHole place)) fits g is spelled = tt
literal_begins forms b t (element.Opens Quotation place) fits g is spelled = literal_opens forms b t Quotation place tt fits g spelled
literal_begins forms b t (element.Opens Array place) fits g is spelled = literal_opens forms b t Array place tt fits g spelled
literal_begins forms b t (element.Opens Fry place) fits g is spelled = tt
literal_begins forms b t (element.OpensLocals opens ns bar) fits g is spelled = tt
literal_begins forms b t (element.Closes bracket place) fits g is spelled = tt

-- one more token at the beginning of a literal, and in a bracket of one
literal_first : (forms : List Form) (b : Begun) (t : Token) (x : Grown) → IsGrown outside no_half t x → IsWellFormed forms → GoodRow b (literal [] outside no_half) → Keeps (tokens_of forms (row b (literal [] outside no_half))) t (literal_grown forms b [] outside x)
literal_first forms b t stuck is fits g = tt
literal_first forms b t (begun_as no_half) is fits g = tt
literal_first forms b t (begun_as (binding sign)) is fits g = tt
literal_first forms b t (begun_as (heading opens ns)) is fits g = tt
literal_first forms b t (begun_as (wrapping sign)) is fits g = within_taken forms b (literal [] outside no_half) (literal [] outside (wrapping sign)) t fits g refl (refl, tt) is.1
literal_first forms b t (begun_as (calling callee sign ts r)) is fits g = tt
literal_first forms b t (grown e) is fits g = literal_begins forms b t e fits g is.0 is.1

literal_next : (forms : List Form) (b : Begun) (bracket : Bracket) (place : Place) (es : List Element) (c d : Context) (contexts : List Context) (h : Half) (t : Token) (x : Grown) → IsGrown (c ∷ d ∷ contexts) h t x → IsWellFormed forms → GoodRow b (literal (element.Opens bracket place ∷ es) (c ∷ d ∷ contexts) h) → Keeps (tokens_of forms (row b (literal (element.Opens bracket place ∷ es) (c ∷ d ∷ contexts) h))) t (literal_grown forms b (element.Opens bracket place ∷ es) (c ∷ d ∷ contexts) x)
literal_next forms b bracket place es c d contexts h t stuck is fits g = tt
literal_next forms b bracket place es c d contexts h t (begun_as next) is fits g =
    within_taken forms b (literal (element.Opens bracket place ∷ es) (c ∷ d ∷ contexts) h) (literal (element.Opens bracket place ∷ es) (c ∷ d ∷ contexts) next) t fits g refl (g.within.0, g.within.1, is.0)
    (ap (λ (ts : List Token). items_tokens (element.Opens bracket place ∷ es) ++ ts) is.1 ∙ sym (append_assoc (items_tokens (element.Opens bracket place ∷ es)) (half_tokens h) (t ∷ [])))
literal_next forms b bracket place es c d contexts h t (grown e) is fits g = literal_goes forms b bracket place es (c ∷ d ∷ contexts) h t e (behind (c ∷ d ∷ contexts) e) fits g is.0 is.1 refl

-- the name of a word that is a value, and is the literal
literal_wraps : (forms : List Form) (b : Begun) (sign : Place) (s : Spelling) (t : Token) → token_spelling t.kind ≡ s → IsWellFormed forms → GoodRow b (literal [] outside (wrapping sign)) → Keeps (tokens_of forms (row b (literal [] outside (wrapping sign)))) t (literal_grown forms b [] outside (wrap_step sign s t))
literal_wraps forms b sign Name t k fits g = part_taken forms b (literal [] outside (wrapping sign)) (part.Literal (element.Item (term.Wrapped sign t) ∷ [])) t fits g k refl
literal_wraps forms b sign _ t k fits g = tt

literal_outside : (forms : List Form) (b : Begun) (h : Half) (s : Spelling) (t : Token) → token_spelling t.kind ≡ s → IsWellFormed forms → BeginsLiteral h → GoodRow b (literal [] outside h) → Keeps (tokens_of forms (row b (literal [] outside h))) t (literal_grown forms b [] outside (grow outside h s t))
literal_outside forms b no_half s t k fits begins g = literal_first forms b t (grow outside no_half s t) (grow_is outside no_half t s tt k) fits g
literal_outside forms b (wrapping sign) s t k fits begins g = literal_wraps forms b sign s t k fits g
literal_outside forms b (binding sign) s t k fits begins g = absurd begins
literal_outside forms b (heading opens ns) s t k fits begins g = absurd begins
literal_outside forms b (calling callee sign ts r) s t k fits begins g = absurd begins

literal_from : (forms : List Form) (b : Begun) (contexts : List Context) (h : Half) (s : Spelling) (t : Token) → token_spelling t.kind ≡ s → IsWellFormed forms → contexts ≡ outside → BeginsLiteral h → GoodRow b (literal [] contexts h) → Keeps (tokens_of forms (row b (literal [] contexts h))) t (literal_grown forms b [] contexts (grow contexts h s t))
literal_from forms b contexts h s t k fits e begins g =
    subst (λ (x : List Context). Keeps (tokens_of forms (row b (literal [] x h))) t (literal_grown forms b [] x (grow x h s t))) (sym e)
    (literal_outside forms b h s t k fits begins (subst (λ (x : List Context). GoodRow b (literal [] x h)) e g))

literal_keeps : (forms : List Form) (b : Begun) (es : List Element) (contexts : List Context) (h : Half) (s : Spelling) (t : Token) → token_spelling t.kind ≡ s → IsWellFormed forms → GoodRow b (literal es contexts h) → Keeps (tokens_of forms (row b (literal es contexts h))) t (literal_grown forms b es contexts (grow contexts h s t))
literal_keeps forms b [] contexts h s t k fits g = literal_from forms b contexts h s t k fits g.within.0 g.within.1 g
literal_keeps forms b (element.Opens bracket place ∷ es) (c ∷ d ∷ contexts) h s t k fits g = literal_next forms b bracket place es c d contexts h t (grow (c ∷ d ∷ contexts) h s t) (grow_is (c ∷ d ∷ contexts) h t s g.within.2 k) fits g
literal_keeps forms b (element.Opens bracket place ∷ es) [] h s t k fits g = let o = inside_open (open_inside bracket) es [] g.within.1 in cc
literal_keeps forms b (element.Opens bracket place ∷ es) (c ∷ []) h s t k fits g = let o = inside_open (open_inside bracket) es (c ∷ []) g.within.1 in cc
literal_keeps forms b (element.Item item ∷ es) contexts h s t k fits g = absurd g.within
literal_keeps forms b (element.OpensLocals opens ns bar ∷ es) contexts h s t k fits g = absurd g.within
literal_keeps forms b (element.Closes bracket place ∷ es) contexts h s t k fits g = absurd g.within

-- Marks.

abbrev IsMarkOf : Token → Option DefinitionMark → Type 0
IsMarkOf t None = Unit {0}
IsMarkOf t (Some m) = t ≡ mark_token m

mark_is : (t : Token) (s : Spelling) → token_spelling t.kind ≡ s → IsMarkOf t (mark_of s t.place)
mark_is t Inline h = sign_token t Inline h tt
mark_is t Recursive h = sign_token t Recursive h tt
mark_is t _ h = tt

AreMarks-more : (k : Marked) (ms : List DefinitionMark) (m : DefinitionMark) → AreMarks k ms → may_follow k ms m ≡ true → AreMarks k (ms ++ m ∷ [])
AreMarks-more marked.Word [] m h f = tt
AreMarks-more marked.Word (mark.Inline p ∷ []) (mark.Inline q) h f = cc
AreMarks-more marked.Word (mark.Inline p ∷ []) (mark.Recursive q) h f = tt
AreMarks-more marked.Word (mark.Recursive p ∷ []) (mark.Inline q) h f = tt
AreMarks-more marked.Word (mark.Recursive p ∷ []) (mark.Recursive q) h f = cc
AreMarks-more marked.Word (mark.Inline p ∷ n ∷ ms) m h f = cc
AreMarks-more marked.Word (mark.Recursive p ∷ n ∷ ms) m h f = cc
AreMarks-more marked.Method [] (mark.Inline q) h f = tt
AreMarks-more marked.Method [] (mark.Recursive q) h f = cc
AreMarks-more marked.Method (n ∷ ms) m h f = cc

pub marks_fill : (n : ℕ) (k : Marked) (ms : List DefinitionMark) → AreMarks k ms → Fills n (slot_of (marks k ms)) (part.Marks ms)
marks_fill n marked.Word ms h = h
marks_fill n marked.Method ms h = h

marks-last : (ms : List DefinitionMark) (m : DefinitionMark) → marks_tokens (ms ++ m ∷ []) ≡ marks_tokens ms ++ mark_token m ∷ []
marks-last [] m = refl
marks-last (k ∷ ms) m = ap (λ (ts : List Token). mark_token k ∷ ts) (marks-last ms m)

mark_keeps : (forms : List Form) (b : Begun) (k : Marked) (ms : List DefinitionMark) (t : Token) (m : DefinitionMark) → t ≡ mark_token m → IsWellFormed forms → GoodRow b (marks k ms) → Keeps (tokens_of forms (row b (marks k ms))) t (with_mark forms b k ms m)
mark_keeps forms b k ms t m e fits g =
    cond_keeps (may_follow k ms m) _ t (in_state forms (row b (marks k (ms ++ m ∷ [])))) (λ h.
    within_taken forms b (marks k ms) (marks k (ms ++ m ∷ [])) t fits g refl (AreMarks-more k ms m g.within.0 h, g.within.1) (marks-last ms m ∙ with_sign (marks_tokens ms) t (mark_token m) e))

-- a row with its marks, which ends
pub marked_gone : (forms : List Form) (b : Begun) (k : Marked) (ms : List DefinitionMark) → IsWellFormed forms → GoodRow b (marks k ms) → Gone forms (more b (part.Marks ms)) (in_state (forms ++ row_form (more b (part.Marks ms)) ∷ []) (top [] outside no_half))
marked_gone forms b k ms fits g =
    ended_row_gone forms (more b (part.Marks ms)) fits (filled_more 0 (slots_of b.kind) b.parts (slot_of (marks k ms)) [] (part.Marks ms) (subst (λ (rest : List Slot). Filled 0 (slots_of b.kind) b.parts (slot_of (marks k ms) ∷ rest)) g.within.1 g.filled) (marks_fill (last_inputs 0 b.parts) k ms g.within.0))

pub marked_tokens : (forms : List Form) (b : Begun) (k : Marked) (ms : List DefinitionMark) → IsWellFormed forms → GoodRow b (marks k ms) → tokens_of (forms ++ row_form (more b (part.Marks ms)) ∷ []) (top [] outside no_half) ≡ tokens_of forms (row b (marks k ms))
marked_tokens forms b k ms fits g =
    (marked_gone forms b k ms fits g).tokens ∙ ap (λ (ts : List Token). flatten forms ++ plain_token b.opens (head_of b.kind) ∷ ts) (parts-last b.parts (part.Marks ms))

marks_keeps_by : (forms : List Form) (b : Begun) (k : Marked) (ms : List DefinitionMark) (o : Option DefinitionMark) (s : Spelling) (t : Token) → IsMarkOf t o → token_spelling t.kind ≡ s → IsWellFormed forms → GoodRow b (marks k ms) → Keeps (tokens_of forms (row b (marks k ms))) t (mark_step forms b k ms o s t)
marks_keeps_by forms b k ms (Some m) s t is h fits g = mark_keeps forms b k ms t m is fits g
marks_keeps_by forms b k ms None s t is h fits g =
    let ended = (marked_gone forms b k ms fits g).good in
    subst (λ (ts : List Token). Keeps ts t (mark_step forms b k ms None s t)) (marked_tokens forms b k ms fits g) (top_keeps (forms ++ row_form (more b (part.Marks ms)) ∷ []) [] outside no_half s t h ended.fits ended.opens)

-- All.

row_keeps : (forms : List Form) (b : Begun) (w : Within) (s : Spelling) (t : Token) → token_spelling t.kind ≡ s → IsWellFormed forms → GoodRow b w → Keeps (tokens_of forms (row b w)) t (row_step forms b w s t)
row_keeps forms b (name k) s t h fits g = name_keeps forms b k t (named k s) (ap (named k) h) fits g
row_keeps forms b (names k ns) s t h fits g = names_keeps forms b k ns t (named k s) (ap (named k) h) fits g
row_keeps forms b (tuple_slots p ns) s t h fits g = slots_keeps forms b p ns t s h fits g
row_keeps forms b (tuple_parent place) s t h fits g = parent_keeps forms b place t s h fits g
row_keeps forms b (fixed key) s t h fits g = fixed_keeps forms b key t s h fits g
row_keeps forms b (effect k ts r) s t h fits g = effect_keeps forms b k ts r t s h fits g
row_keeps forms b (items k es contexts half) s t h fits g = items_keeps_by forms b k es contexts half (is_semi s) s t refl h fits g
row_keeps forms b (literal es contexts half) s t h fits g = literal_keeps forms b es contexts half s t h fits g
row_keeps forms b (marks k ms) s t h fits g = marks_keeps_by forms b k ms (mark_of s t.place) s t (mark_is t s h) h fits g

open_keeps : (forms : List Form) (o : Open) (t : Token) → IsWellFormed forms → GoodOpen forms o → Keeps (tokens_of forms o) t (open_step forms o (token_spelling t.kind) t)
open_keeps forms (top es contexts h) t fits g = top_keeps forms es contexts h (token_spelling t.kind) t refl fits g
open_keeps forms (row b w) t fits g = row_keeps forms b w (token_spelling t.kind) t refl fits g

step_keeps : (s : State) (t : Token) → Good s → Keeps (state_tokens s) t (step s t)
step_keeps s t g = open_keeps s.forms s.open_part t g.fits g.opens

-- a state, if there is one, is good and has these tokens
abbrev pub Known : Option State → List Token → Type 0
Known None tokens = Unit {0}
Known (Some s) tokens = Good s × (state_tokens s ≡ tokens)

known_step : (o : Option State) (before tokens : List Token) (t : Token) → before ≡ tokens → Keeps before t o → Known o (tokens ++ t ∷ [])
known_step None before tokens t e k = tt
known_step (Some s) before tokens t e k = (k.good, k.tokens_are ∙ ap (λ (ts : List Token). ts ++ t ∷ []) e)

pub steps_known : (o : Option State) (ts tokens : List Token) → Known o tokens → Known (steps o ts) (tokens ++ ts)
steps_known o [] tokens k = subst (Known o) (sym (append-nil tokens)) k
steps_known None (t ∷ ts) tokens k = tt
steps_known (Some s) (t ∷ ts) tokens k =
    subst (Known (steps (step s t) ts)) (append_assoc tokens (t ∷ []) ts) (steps_known (step s t) ts (tokens ++ t ∷ []) (known_step (step s t) (state_tokens s) tokens t k.1 (step_keeps s t k.0)))

pub start_good : Good start
start_good = record { fits = tt; opens = (refl, tt, tt) }
