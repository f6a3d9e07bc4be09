-- Whatever is open can be closed.
use Rattle.fac_parse.specs.inner.Reader.{Half, no_half, binding, heading, wrapping, calling, call_of, stuck, grown, literal, literal_with, is_local, Within, name, names, tuple_slots, tuple_parent, fixed, effect, items, marks, Begun, Open, top, row, State, in_state, outside, begin, last_inputs, row_form, at_slot, go_on, more, with_part, with_run, with_element, written, row_items, steps, ended}
use Rattle.fac_parse.specs.Contexts.{items_in, most_levels, most_elements, most_locals, most_holes, counted_in, counted, uncounted_in, uncounted, bound_in, bound, holed_in, holed, item_behind, opened, opens_in, locals_in, opened_locals, closed_in, closed, behind}
use Rattle.fac_parse.proofs.ReaderKeeps.{name_fills, names_fill, effect_fills, items_fill, inside_more, inside_ends, inside_open, Lead-more}
use Rattle.fac_parse.proofs.StateTokens.{Inside, open_inside, GoodHalf, BeginsLiteral, GoodLiteral, NamesLocals, locals_before, Filled, filled_more, first_of, next_slot, slot_of, GoodWithin, GoodOpen, Good}
use Rattle.fac_parse.proofs.ReaderReads.{AllTaken, both, literal_part_read, adds_literal, grown_to, Takes, taken, heading_read, declared_read, element_read, held_takes, literal_takes, named_name, name_read, names_end, slots_end, chain, effect_read, one, by_spelling, HoldsItems, top_holds_items, row_holds_items}
use Rattle.fac_source.specs.declared.tree.Term.TheVariants as term
use Rattle.std.proofs.Common.{◌≡◌, ◌≤◌, ℕ, ◌+◌, Bool, true, false, cond, ◌&&◌, List, [], ◌∷◌, ◌++◌, length, Option, Some, None, refl, ap, sym, ◌∙◌, subst, append-nil, arith}
use Rattle.std.specs.Prelude.{codes, nat_lt, nat_le}
use Rattle.fac_base.specs.declared.place.Place.{Place}
use Rattle.fac_source.specs.declared.token.Token.{Token}
use Rattle.fac_source.specs.declared.tree.Element.{Element}
use Rattle.fac_source.specs.declared.tree.Element.TheVariants as element
use Rattle.fac_source.specs.declared.tree.Bracket.{Bracket}
use Rattle.fac_source.specs.declared.tree.Bracket.TheVariants.{Quotation, Array, Fry}
use Rattle.fac_source.specs.declared.tree.Key.{Key}
use Rattle.fac_source.specs.declared.tree.Key.TheVariants.{Arrow}
use Rattle.fac_source.specs.declared.tree.Part.{Part}
use Rattle.fac_source.specs.declared.tree.Part.TheVariants as part
use Rattle.fac_source.specs.declared.tree.Parent.{Parent}
use Rattle.fac_source.specs.declared.tree.Form.{Form}
use Rattle.fac_parse.specs.declared.context.Context.{Context}
use Rattle.fac_parse.specs.declared.context.Around.{Around}
use Rattle.fac_parse.specs.declared.context.Around.TheVariants as around
use Rattle.fac_parse.specs.declared.form_parts.Taking.{Taking}
use Rattle.fac_parse.specs.declared.form_parts.Taking.TheVariants.{Values, Locals}
use Rattle.fac_source.specs.declared.tree.Term.{Term}
use Rattle.fac_effect.specs.LocalNames.{all_may_stand, name_locals}
use Rattle.fac_effect.proofs.LocalNameLemmas.{inputs_are_named, locals_go_on, names_append}
use Rattle.fac_source.specs.declared.form_table.Slot.{Slot}
use Rattle.fac_source.specs.declared.form_table.Slot.TheVariants as slot
use Rattle.fac_parse.specs.declared.form_parts.Naming.{Naming}
use Rattle.fac_parse.specs.declared.form_parts.Naming.TheVariants as naming
use Rattle.fac_parse.specs.declared.form_parts.Marked.TheVariants as marked
use Rattle.fac_source.specs.declared.tree.Literal.TheVariants.{True}
use Rattle.fac_effect.specs.declared.spelling.Spelling.TheVariants.{Fixed, Semi, Literal, Name}
use Rattle.fac_effect.specs.declared.effect_reader.EffectReader.{EffectReader}
use Rattle.fac_effect.specs.EffectReading.{Progress, reads as reading, whole, start as no_tokens, opened as opened_effect, all_pass, run, after}
use Rattle.fac_effect.specs.SaidEffects.{effect_of}
use Rattle.fac_effect.specs.RowlessEffects.{opened_tokens, is_no_row, have_no_row}
use Rattle.fac_effect.proofs.RowlessLemmas.{whole_is_rowless, completes_rowless, none_append}
use Rattle.fac_effect.proofs.EffectRuns.{run_append}
use Rattle.fac_effect.proofs.EffectLemmas.{effect_is_whole, read_goes_on}
use Rattle.fac_source.specs.FormRows.{slots_of, kind_begun}
use Rattle.fac_effect.specs.Spellings.{token_spelling, spelling_of, has_integer_form, word_spelling, sign_spelling, reserved_spelling, plain_token}
use Rattle.fac_parse.specs.Trees.{IsElement, IsLiteralBracket, element_tokens, Lead, Fills, named, IsName, AreNames, most_slots, AreSlots, IsParent}
use Rattle.fac_effect.proofs.SpellingLemmas.{sign_is}

-- a place, and a name
abbrev somewhere : Place
somewhere = record { file = 0; token = 0 }

abbrev some_name : Token
some_name = plain_token somewhere (codes "x")

is_name : token_spelling some_name.kind ≡ Name
unfolding spelling_of has_integer_form word_spelling sign_spelling kind_begun reserved_spelling
is_name = refl

-- tokens that lead to where the tokens may end
pub record Completes (s : State) : Type 0 where
  pub tokens : List Token
  pub to : State
  pub forms : List Form
  pub reads : steps (Some s) tokens ≡ Some to
  pub whole : ended to ≡ Some forms

completes_then : (s m : State) (ts : List Token) → steps (Some s) ts ≡ Some m → Completes m → Completes s
completes_then s m ts h c = record { tokens = ts ++ c.tokens; to = c.to; forms = c.forms; reads = chain s m ts c.tokens _ h c.reads; whole = c.whole }

-- Items.

-- tokens behind which the element that is begun is whole
record FinishesHalf (contexts : List Context) (state : Half → State) (put : Element → Option State) (h : Half) : Type 0 where
  tokens : List Token
  whole : Element
  next : List Context
  is : IsElement whole
  stands : behind contexts whole ≡ Some next
  reads : steps (Some (state h)) tokens ≡ put whole

local_name : is_local some_name ≡ true
local_name = refl

-- an element that is begun
finishes_begun : (contexts : List Context) (state : Half → State) (put : Element → Option State) → Takes contexts state put → (h : Half) → GoodHalf contexts h → (h ≡ no_half → ⊥) → FinishesHalf contexts state put h
finishes_begun contexts state put takes no_half good is = absurd (is refl)
finishes_begun contexts state put takes (binding sign) good is = record {
  tokens = some_name ∷ [];
  whole = element.Item (term.Bind sign some_name);
  next = good.0;
  is = (is_name, local_name);
  stands = good.1;
  reads = taken contexts state put takes (binding sign) some_name Name is_name (refl, refl) ∙ ap (λ (x : Bool). grown_to state put (cond x (grown (element.Item (term.Bind sign some_name))) stuck)) local_name;
}
finishes_begun contexts state put takes (heading opens ns) good is = record {
  tokens = plain_token somewhere (codes "|") ∷ [];
  whole = element.OpensLocals opens ns somewhere;
  next = good.1;
  is = good.0;
  stands = good.2;
  reads =
      heading_read contexts state put takes opens somewhere ns [] good.1 tt (ap (λ (x : List Token). opened_locals (length x) (uncounted contexts)) (append-nil ns) ∙ good.2)
      ∙ ap (λ (x : List Token). put (element.OpensLocals opens x somewhere)) (append-nil ns);
}
finishes_begun contexts state put takes (wrapping sign) good is = record {
  tokens = some_name ∷ [];
  whole = element.Item (term.Wrapped sign some_name);
  next = good.0;
  is = is_name;
  stands = good.1;
  reads = taken contexts state put takes (wrapping sign) some_name Name is_name (refl, refl);
}
finishes_begun contexts state put takes (calling callee sign ts r) good is =
    let c = completes_rowless ts r good.0 good.1 in
    let us = c.next ∷ c.rest in
    record {
      tokens = us;
      whole = call_of callee sign (ts ++ us);
      next = good.2;
      is = (effect_of (opened_tokens sign (ts ++ us)), whole_is_rowless sign (ts ++ us) c.ends c.none, refl);
      stands = good.3;
      reads =
          declared_read contexts state put takes callee sign ts us r (ap (λ (p : Progress). run p us) (sym good.0) ∙ sym (run_append (reading opened_effect) ts us) ∙ c.ends)
          (both (have_no_row ts) (all_pass is_no_row (reading r) us) (sym (none_append ts us r good.0) ∙ c.none)).1;
    }

record ClosesAll (held : List Element → List Context → Half → Open) (forms : List Form) (from : List Context) (s : State) : Type 0 where
  tokens : List Token
  closed : List Element
  last : Context
  reads : steps (Some s) tokens ≡ Some (in_state forms (held closed (last ∷ []) no_half))
  lead : Lead from closed (last ∷ [])

-- the bracket that closes this, and what is open then
abbrev bracket_of : Around → Bracket
bracket_of (around.Array n) = Array
bracket_of _ = Quotation

abbrev behind_closed : Around → Context → Context → Context
behind_closed around.Items inner c = record c { holes = inner.holes }
behind_closed _ inner c = c

closed_by : (a : Around) (inner c : Context) (cs : List Context) → closed_in a (bracket_of a) inner c cs ≡ Some (behind_closed a inner c ∷ cs)
closed_by around.Items inner c cs = refl
closed_by around.Fry inner c cs = refl
closed_by (around.Array n) inner c cs = refl

closes_one : (inner c : Context) (cs : List Context) → closed (inner ∷ c ∷ cs) (bracket_of inner.around) ≡ Some (behind_closed inner.around inner c ∷ cs)
closes_one inner c cs = closed_by inner.around inner c cs

-- the bracket that closes this
abbrev closing : Context → Element
closing c = element.Closes (bracket_of c.around) somewhere

closing_by : (a : Around) → IsElement (element.Closes (bracket_of a) somewhere)
closing_by around.Items = tt
closing_by around.Fry = tt
closing_by (around.Array n) = tt

closing_is : (c : Context) → IsElement (closing c)
closing_is c = closing_by c.around

-- where no element is begun
closes_open : (held : List Element → List Context → Half → Open) (forms : List Form) → HoldsItems held forms → (from : List Context) (es : List Element) (c : Context) (contexts : List Context) → Lead from es (c ∷ contexts) → ClosesAll held forms from (in_state forms (held es (c ∷ contexts) no_half))
closes_open held forms holds from es c [] h = record { tokens = []; closed = es; last = c; reads = refl; lead = h }
closes_open held forms holds from es c (d ∷ contexts) h =
    let e : Element = closing c in
    let next : Context = behind_closed c.around c d in
    let less = closes_open held forms holds from (es ++ e ∷ []) next contexts (Lead-more from es (c ∷ d ∷ contexts) e (next ∷ contexts) h (closing_is c) (closes_one c d contexts)) in
    record {
      tokens = element_tokens e ++ less.tokens;
      closed = less.closed;
      last = less.last;
      reads =
          chain (in_state forms (held es (c ∷ d ∷ contexts) no_half)) (in_state forms (held (es ++ e ∷ []) (next ∷ contexts) no_half)) (element_tokens e) less.tokens _
          (element_read (c ∷ d ∷ contexts) (λ h. in_state forms (held es (c ∷ d ∷ contexts) h)) (λ e. with_element held forms es e (behind (c ∷ d ∷ contexts) e)) (held_takes held forms holds es (c ∷ d ∷ contexts)) e (next ∷ contexts) (closing_is c) (closes_one c d contexts) ∙ ap (with_element held forms es e) (closes_one c d contexts)) less.reads;
      lead = less.lead;
    }

-- There is always a context.

cond_never : (b : Bool) (c : Context) (cs : List Context) → cond b (Some (c ∷ cs)) None ≡ Some [] → ⊥
cond_never true c cs h = cc
cond_never false c cs h = cc

counted_in_never : (a : Around) (c : Context) (cs : List Context) → counted_in a c cs ≡ Some [] → ⊥
counted_in_never around.Items c cs h = cc
counted_in_never around.Fry c cs h = cc
counted_in_never (around.Array n) c cs h = cond_never (nat_lt n most_elements) _ cs h

counted_never : (contexts : List Context) → counted contexts ≡ Some [] → ⊥
counted_never [] h = cc
counted_never (c ∷ cs) h = counted_in_never c.around c cs h

uncounted_in_never : (a : Around) (c : Context) (cs : List Context) → uncounted_in a c cs ≡ Some [] → ⊥
uncounted_in_never around.Items c cs h = cc
uncounted_in_never around.Fry c cs h = cc
uncounted_in_never (around.Array n) c cs h = cc

uncounted_never : (contexts : List Context) → uncounted contexts ≡ Some [] → ⊥
uncounted_never [] h = cc
uncounted_never (c ∷ cs) h = uncounted_in_never c.around c cs h

bound_in_never : (o : Option ℕ) (c : Context) (cs : List Context) → bound_in o c cs ≡ Some [] → ⊥
bound_in_never None c cs h = cc
bound_in_never (Some n) c cs h = cond_never (nat_lt n most_locals) _ cs h

bound_never : (o : Option (List Context)) → bound o ≡ Some [] → ⊥
bound_never None h = cc
bound_never (Some []) h = cc
bound_never (Some (c ∷ cs)) h = bound_in_never c.locals c cs h

holed_in_never : (o : Option ℕ) (c : Context) (cs : List Context) → holed_in o c cs ≡ Some [] → ⊥
holed_in_never None c cs h = cc
holed_in_never (Some n) c cs h = cond_never (nat_lt n most_holes) _ cs h

holed_never : (contexts : List Context) → holed contexts ≡ Some [] → ⊥
holed_never [] h = cc
holed_never (c ∷ cs) h = holed_in_never c.holes c cs h

item_never : (contexts : List Context) (item : Term) → item_behind contexts item ≡ Some [] → ⊥
item_never contexts (term.NextMethod place) h = uncounted_never contexts h
item_never contexts (term.EffectCall callee sign ts height) h = uncounted_never contexts h
item_never contexts (term.Bind sign t) h = bound_never (uncounted contexts) h
item_never contexts (term.Hole place) h = holed_never contexts h
item_never contexts (term.CalledHole place) h = holed_never contexts h
item_never contexts _ h = counted_never contexts h

opened_never : (bracket : Bracket) (o : Option (List Context)) → opened bracket o ≡ Some [] → ⊥
opened_never bracket None h = cc
opened_never bracket (Some []) h = cc
opened_never bracket (Some (c ∷ cs)) h = cond_never (nat_lt (length cs) most_levels) _ (c ∷ cs) h

locals_never : (k : ℕ) (o : Option (List Context)) → opened_locals k o ≡ Some [] → ⊥
locals_never k None h = cc
locals_never k (Some []) h = cc
locals_never k (Some (c ∷ cs)) h = cond_never (nat_lt (length cs) most_levels && nat_le (locals_in c.locals + k) most_locals) _ (c ∷ cs) h

closed_in_never : (a : Around) (bracket : Bracket) (inner c : Context) (cs : List Context) → closed_in a bracket inner c cs ≡ Some [] → ⊥
closed_in_never around.Items Quotation inner c cs h = cc
closed_in_never around.Items Array inner c cs h = cc
closed_in_never around.Items Fry inner c cs h = cc
closed_in_never around.Fry Quotation inner c cs h = cc
closed_in_never around.Fry Array inner c cs h = cc
closed_in_never around.Fry Fry inner c cs h = cc
closed_in_never (around.Array n) Quotation inner c cs h = cc
closed_in_never (around.Array n) Array inner c cs h = cc
closed_in_never (around.Array n) Fry inner c cs h = cc

closed_never : (contexts : List Context) (bracket : Bracket) → closed contexts bracket ≡ Some [] → ⊥
closed_never [] bracket h = cc
closed_never (inner ∷ []) bracket h = cc
closed_never (inner ∷ c ∷ cs) bracket h = closed_in_never inner.around bracket inner c cs h

behind_never : (contexts : List Context) (e : Element) → behind contexts e ≡ Some [] → ⊥
behind_never contexts (element.Item item) h = item_never contexts item h
behind_never contexts (element.Opens bracket place) h = opened_never bracket (opens_in bracket contexts) h
behind_never contexts (element.OpensLocals opens ns bar) h = locals_never (length ns) (uncounted contexts) h
behind_never contexts (element.Closes bracket place) h = closed_never contexts bracket h

lead_never : (from : List Context) (es : List Element) → (from ≡ [] → ⊥) → Lead from es [] → ⊥
lead_never from [] some h = some h
lead_never from (e ∷ es) some h = lead_never h.1 es (λ k. behind_never from e (h.2 ∙ ap Some k)) h.3

closes_next : (held : List Element → List Context → Half → Open) (forms : List Form) → HoldsItems held forms → (from : List Context) (es : List Element) (contexts : List Context) → Lead from es contexts → (contexts ≡ [] → ⊥) → ClosesAll held forms from (in_state forms (held es contexts no_half))
closes_next held forms holds from es [] h some = absurd (some refl)
closes_next held forms holds from es (c ∷ contexts) h some = closes_open held forms holds from es c contexts h

closes_begun : (held : List Element → List Context → Half → Open) (forms : List Form) → HoldsItems held forms → (from : List Context) (es : List Element) (contexts : List Context) (h : Half) → Lead from es contexts → FinishesHalf contexts (λ h. in_state forms (held es contexts h)) (λ e. with_element held forms es e (behind contexts e)) h → ClosesAll held forms from (in_state forms (held es contexts h))
closes_begun held forms holds from es contexts h lead f =
    let later = closes_next held forms holds from (es ++ f.whole ∷ []) f.next (Lead-more from es contexts f.whole f.next lead f.is f.stands) (λ k. behind_never contexts f.whole (f.stands ∙ ap Some k)) in
    record {
      tokens = f.tokens ++ later.tokens;
      closed = later.closed;
      last = later.last;
      reads = chain (in_state forms (held es contexts h)) (in_state forms (held (es ++ f.whole ∷ []) f.next no_half)) f.tokens later.tokens _ (f.reads ∙ ap (with_element held forms es f.whole) f.stands) later.reads;
      lead = later.lead;
    }

closes_all : (held : List Element → List Context → Half → Open) (forms : List Form) → HoldsItems held forms → (from : List Context) (es : List Element) (contexts : List Context) (h : Half) → (from ≡ [] → ⊥) → Lead from es contexts → GoodHalf contexts h → ClosesAll held forms from (in_state forms (held es contexts h))
closes_all held forms holds from es contexts no_half some lead good = closes_next held forms holds from es contexts lead (λ k. lead_never from es some (subst (Lead from es) k lead))
closes_all held forms holds from es contexts (binding sign) some lead good = closes_begun held forms holds from es contexts (binding sign) lead (finishes_begun contexts _ _ (held_takes held forms holds es contexts) (binding sign) good (λ k. cc))
closes_all held forms holds from es contexts (heading opens ns) some lead good = closes_begun held forms holds from es contexts (heading opens ns) lead (finishes_begun contexts _ _ (held_takes held forms holds es contexts) (heading opens ns) good (λ k. cc))
closes_all held forms holds from es contexts (wrapping sign) some lead good = closes_begun held forms holds from es contexts (wrapping sign) lead (finishes_begun contexts _ _ (held_takes held forms holds es contexts) (wrapping sign) good (λ k. cc))
closes_all held forms holds from es contexts (calling callee sign ts r) some lead good = closes_begun held forms holds from es contexts (calling callee sign ts r) lead (finishes_begun contexts _ _ (held_takes held forms holds es contexts) (calling callee sign ts r) good (λ k. cc))

-- Parts.

-- tokens behind which the part that is read is whole
record ClosesPart (forms : List Form) (b : Begun) (w : Within) : Type 0 where
  tokens : List Token
  whole : Part
  fills : Fills (last_inputs 0 b.parts) (slot_of w) whole
  reads : steps (Some (in_state forms (row b w))) tokens ≡ Some (with_part forms b whole)

-- tokens behind which an effect is whole
record ClosesEffect (k : Taking) (ts : List Token) (r : EffectReader) : Type 0 where
  next : Token
  rest : List Token
  ends : after (ts ++ next ∷ rest) ≡ whole
  taken : AllTaken k r (next ∷ rest)
  named : NamesLocals k (ts ++ next ∷ rest)

effect_closes : (k : Taking) (ts : List Token) (r : EffectReader) → after ts ≡ reading r → NamesLocals k ts → ClosesEffect k ts r
effect_closes Values ts r g named =
    let c = read_goes_on ts r g in
    record { next = c.next; rest = c.rest; ends = (effect_is_whole (ts ++ c.next ∷ c.rest) c.effect c.is).0; taken = tt; named = tt }
effect_closes Locals ts r g named =
    let c = locals_go_on ts r g named in
    let u = c.0 in
    let us = u.next ∷ u.rest in
    let all : name_locals (ts ++ us) ≡ true = inputs_are_named (ts ++ us) u.effect u.is ∙ c.1 in
    record {
      next = u.next;
      rest = u.rest;
      ends = (effect_is_whole (ts ++ us) u.effect u.is).0;
      taken = (both (name_locals ts) (all_may_stand (reading r) us) (sym (names_append ts us r g) ∙ all)).1;
      named = all;
    }

closes_effect : (forms : List Form) (b : Begun) (k : Taking) (ts : List Token) (r : EffectReader) → (after ts ≡ reading r) × NamesLocals k ts → ClosesPart forms b (effect k ts r)
closes_effect forms b k ts r g =
    let c = effect_closes k ts r g.0 g.1 in
    let us = c.next ∷ c.rest in
    record {
      tokens = us;
      whole = part.Effect (written (ts ++ us));
      fills = effect_fills (last_inputs 0 b.parts) k (ts ++ us) c.ends c.named;
      reads = effect_read forms b k ts us r (ap (λ (p : Progress). run p us) (sym g.0) ∙ sym (run_append (reading no_tokens) ts us) ∙ c.ends) c.taken;
    }

closes_fixed : (forms : List Form) (b : Begun) (key : Key) → ClosesPart forms b (fixed key)
closes_fixed forms b Arrow = record {
  tokens = plain_token somewhere (codes "=>") ∷ [];
  whole = part.Fixed Arrow somewhere;
  fills = refl;
  reads = by_spelling forms (row b (fixed Arrow)) (plain_token somewhere (codes "=>")) (Fixed Arrow) (sign_is (Fixed Arrow) tt);
}

closes_names : (forms : List Form) (b : Begun) (k : Naming) (ns : List Token) → AreNames k ns → ClosesPart forms b (names k ns)
closes_names forms b k ns g = record {
  tokens = plain_token somewhere (codes ";") ∷ [];
  whole = part.Names ns somewhere;
  fills = names_fill (last_inputs 0 b.parts) k ns somewhere g;
  reads = names_end forms b k ns somewhere;
}

closes_name : (forms : List Form) (b : Begun) (k : Naming) → ClosesPart forms b (name k)
closes_name forms b k =
    let is : IsName k some_name = ap (named k) is_name ∙ named_name k in
    record { tokens = some_name ∷ []; whole = part.Name some_name; fills = name_fills (last_inputs 0 b.parts) k some_name is; reads = name_read forms b k some_name is }

closes_slots : (forms : List Form) (b : Begun) (p : Option Parent) (ns : List Token) → IsParent p × AreSlots ns × (length ns ≤ most_slots) → ClosesPart forms b (tuple_slots p ns)
closes_slots forms b p ns g = record {
  tokens = plain_token somewhere (codes ";") ∷ [];
  whole = part.Slots p ns somewhere;
  fills = g;
  reads = slots_end forms b p ns somewhere;
}

closes_parent : (forms : List Form) (b : Begun) (place : Place) → ClosesPart forms b (tuple_parent place)
closes_parent forms b place =
    let p : Option Parent = Some (record { sign = place; class = some_name }) in
    record {
      tokens = some_name ∷ plain_token somewhere (codes ";") ∷ [];
      whole = part.Slots p [] somewhere;
      fills = (is_name, tt, omega arith);
      reads =
          one (in_state forms (row b (tuple_parent place))) (in_state forms (row b (tuple_slots p []))) some_name (plain_token somewhere (codes ";") ∷ []) _ (by_spelling forms (row b (tuple_parent place)) some_name Name is_name)
          (slots_end forms b p [] somewhere);
    }

-- a literal in which a bracket is open, and no element is begun
closes_literal_from : (forms : List Form) (b : Begun) (bracket : Bracket) (place : Place) (es : List Element) (c d : Context) (contexts : List Context) → IsLiteralBracket bracket → Inside (open_inside bracket) es (c ∷ d ∷ contexts) → ClosesPart forms b (literal (element.Opens bracket place ∷ es) (c ∷ d ∷ contexts) no_half)
closes_literal_from forms b bracket place es c d [] is h =
    let e : Element = closing c in
    let next : Context = behind_closed c.around c d in
    record {
      tokens = element_tokens e;
      whole = part.Literal (element.Opens bracket place ∷ (es ++ e ∷ []));
      fills = (is, inside_ends (open_inside bracket) es (c ∷ d ∷ []) e next h (closing_is c) (closes_one c d []));
      reads = adds_literal forms b (element.Opens bracket place ∷ es) c d [] e (next ∷ []) (closing_is c) (closes_one c d []);
    }
closes_literal_from forms b bracket place es c d (x ∷ contexts) is h =
    let e : Element = closing c in
    let next : Context = behind_closed c.around c d in
    let less = closes_literal_from forms b bracket place (es ++ e ∷ []) next x contexts is (inside_more (open_inside bracket) es (c ∷ d ∷ x ∷ contexts) e next x contexts h (closing_is c) (closes_one c d (x ∷ contexts))) in
    record {
      tokens = element_tokens e ++ less.tokens;
      whole = less.whole;
      fills = less.fills;
      reads =
          chain (in_state forms (row b (literal (element.Opens bracket place ∷ es) (c ∷ d ∷ x ∷ contexts) no_half))) (in_state forms (row b (literal (element.Opens bracket place ∷ (es ++ e ∷ [])) (next ∷ x ∷ contexts) no_half))) (element_tokens e) less.tokens _
          (adds_literal forms b (element.Opens bracket place ∷ es) c d (x ∷ contexts) e (next ∷ x ∷ contexts) (closing_is c) (closes_one c d (x ∷ contexts))) less.reads;
    }

-- likewise where one is begun
closes_literal_next : (forms : List Form) (b : Begun) (bracket : Bracket) (place : Place) (es : List Element) (c d : Context) (contexts : List Context) (h : Half) (ts : List Token) (e : Element) (next : List Context) → IsLiteralBracket bracket → Inside (open_inside bracket) es (c ∷ d ∷ contexts) → IsElement e → behind (c ∷ d ∷ contexts) e ≡ Some next → steps (Some (in_state forms (row b (literal (element.Opens bracket place ∷ es) (c ∷ d ∷ contexts) h)))) ts ≡ literal_with forms b (element.Opens bracket place ∷ (es ++ e ∷ [])) (Some next) → ClosesPart forms b (literal (element.Opens bracket place ∷ es) (c ∷ d ∷ contexts) h)
closes_literal_next forms b bracket place es c d contexts h ts e [] is inside fits stands reads = absurd (behind_never (c ∷ d ∷ contexts) e stands)
closes_literal_next forms b bracket place es c d contexts h ts e (x ∷ []) is inside fits stands reads = record {
  tokens = ts;
  whole = part.Literal (element.Opens bracket place ∷ (es ++ e ∷ []));
  fills = (is, inside_ends (open_inside bracket) es (c ∷ d ∷ contexts) e x inside fits stands);
  reads = reads;
}
closes_literal_next forms b bracket place es c d contexts h ts e (x ∷ y ∷ next) is inside fits stands reads =
    let later = closes_literal_from forms b bracket place (es ++ e ∷ []) x y next is (inside_more (open_inside bracket) es (c ∷ d ∷ contexts) e x y next inside fits stands) in
    record {
      tokens = ts ++ later.tokens;
      whole = later.whole;
      fills = later.fills;
      reads =
          chain (in_state forms (row b (literal (element.Opens bracket place ∷ es) (c ∷ d ∷ contexts) h))) (in_state forms (row b (literal (element.Opens bracket place ∷ (es ++ e ∷ [])) (x ∷ y ∷ next) no_half))) ts later.tokens _ reads later.reads;
    }

closes_literal_begun : (forms : List Form) (b : Begun) (bracket : Bracket) (place : Place) (es : List Element) (c d : Context) (contexts : List Context) (h : Half) → IsLiteralBracket bracket → Inside (open_inside bracket) es (c ∷ d ∷ contexts) → FinishesHalf (c ∷ d ∷ contexts) (λ h. in_state forms (row b (literal (element.Opens bracket place ∷ es) (c ∷ d ∷ contexts) h))) (λ e. literal_with forms b (element.Opens bracket place ∷ (es ++ e ∷ [])) (behind (c ∷ d ∷ contexts) e)) h → ClosesPart forms b (literal (element.Opens bracket place ∷ es) (c ∷ d ∷ contexts) h)
closes_literal_begun forms b bracket place es c d contexts h is inside f =
    closes_literal_next forms b bracket place es c d contexts h f.tokens f.whole f.next is inside f.is f.stands (f.reads ∙ ap (literal_with forms b (element.Opens bracket place ∷ (es ++ f.whole ∷ []))) f.stands)

closes_literal_in : (forms : List Form) (b : Begun) (bracket : Bracket) (place : Place) (es : List Element) (c d : Context) (contexts : List Context) (h : Half) → GoodLiteral (element.Opens bracket place ∷ es) (c ∷ d ∷ contexts) h → ClosesPart forms b (literal (element.Opens bracket place ∷ es) (c ∷ d ∷ contexts) h)
closes_literal_in forms b bracket place es c d contexts no_half g = closes_literal_from forms b bracket place es c d contexts g.0 g.1
closes_literal_in forms b bracket place es c d contexts (binding sign) g =
    closes_literal_begun forms b bracket place es c d contexts (binding sign) g.0 g.1 (finishes_begun (c ∷ d ∷ contexts) _ _ (literal_takes forms b (element.Opens bracket place ∷ es) c d contexts) (binding sign) g.2 (λ k. cc))
closes_literal_in forms b bracket place es c d contexts (heading opens ns) g =
    closes_literal_begun forms b bracket place es c d contexts (heading opens ns) g.0 g.1 (finishes_begun (c ∷ d ∷ contexts) _ _ (literal_takes forms b (element.Opens bracket place ∷ es) c d contexts) (heading opens ns) g.2 (λ k. cc))
closes_literal_in forms b bracket place es c d contexts (wrapping sign) g =
    closes_literal_begun forms b bracket place es c d contexts (wrapping sign) g.0 g.1 (finishes_begun (c ∷ d ∷ contexts) _ _ (literal_takes forms b (element.Opens bracket place ∷ es) c d contexts) (wrapping sign) g.2 (λ k. cc))
closes_literal_in forms b bracket place es c d contexts (calling callee sign ts r) g =
    closes_literal_begun forms b bracket place es c d contexts (calling callee sign ts r) g.0 g.1 (finishes_begun (c ∷ d ∷ contexts) _ _ (literal_takes forms b (element.Opens bracket place ∷ es) c d contexts) (calling callee sign ts r) g.2 (λ k. cc))

-- likewise where no bracket is open
closes_literal_outside : (forms : List Form) (b : Begun) (h : Half) → BeginsLiteral h → ClosesPart forms b (literal [] outside h)
closes_literal_outside forms b no_half begins = record {
  tokens = plain_token somewhere (codes "t") ∷ [];
  whole = part.Literal (element.Item (term.Literal (plain_token somewhere (codes "t")) True) ∷ []);
  fills = sign_is (Literal True) tt;
  reads = literal_part_read forms b (element.Item (term.Literal (plain_token somewhere (codes "t")) True) ∷ []) (sign_is (Literal True) tt);
}
closes_literal_outside forms b (wrapping sign) begins = record {
  tokens = some_name ∷ [];
  whole = part.Literal (element.Item (term.Wrapped sign some_name) ∷ []);
  fills = is_name;
  reads = by_spelling forms (row b (literal [] outside (wrapping sign))) some_name Name is_name;
}
closes_literal_outside forms b (binding sign) begins = absurd begins
closes_literal_outside forms b (heading opens ns) begins = absurd begins
closes_literal_outside forms b (calling callee sign ts r) begins = absurd begins

closes_literal : (forms : List Form) (b : Begun) (es : List Element) (contexts : List Context) (h : Half) → GoodLiteral es contexts h → ClosesPart forms b (literal es contexts h)
closes_literal forms b [] contexts h g = subst (λ (x : List Context). ClosesPart forms b (literal [] x h)) (sym g.0) (closes_literal_outside forms b h g.1)
closes_literal forms b (element.Opens bracket place ∷ es) (c ∷ d ∷ contexts) h g = closes_literal_in forms b bracket place es c d contexts h g
closes_literal forms b (element.Opens bracket place ∷ es) [] h g = let o = inside_open (open_inside bracket) es [] g.1 in cc
closes_literal forms b (element.Opens bracket place ∷ es) (c ∷ []) h g = let o = inside_open (open_inside bracket) es (c ∷ []) g.1 in cc
closes_literal forms b (element.Item item ∷ es) contexts h g = absurd g
closes_literal forms b (element.OpensLocals opens ns bar ∷ es) contexts h g = absurd g
closes_literal forms b (element.Closes bracket place ∷ es) contexts h g = absurd g

closes_items : (forms : List Form) (b : Begun) (k : Taking) (es : List Element) (contexts : List Context) (h : Half) → Lead (items_in (locals_before k (last_inputs 0 b.parts)) ∷ []) es contexts × GoodHalf contexts h → ClosesPart forms b (items k es contexts h)
closes_items forms b k es contexts h g =
    let c = closes_all (row_items b k) forms (row_holds_items forms b k) (items_in (locals_before k (last_inputs 0 b.parts)) ∷ []) es contexts h (λ e. cc) g.0 g.1 in
    record {
      tokens = c.tokens ++ plain_token somewhere (codes ";") ∷ [];
      whole = part.Items c.closed somewhere;
      fills = items_fill (last_inputs 0 b.parts) k c.closed c.last somewhere c.lead;
      reads =
          chain (in_state forms (row b (items k es contexts h))) (in_state forms (row b (items k c.closed (c.last ∷ []) no_half))) c.tokens (plain_token somewhere (codes ";") ∷ []) _ c.reads
          (by_spelling forms (row b (items k c.closed (c.last ∷ []) no_half)) (plain_token somewhere (codes ";")) Semi (sign_is Semi tt));
    }

-- Rows.

-- where the row goes on behind the part, so it can be completed from there
abbrev Later : List Form → Begun → Slot → Type 0
Later forms b s = (p : Part) → Fills (last_inputs 0 b.parts) s p → Completes (with_part forms b p)

part_completes : (forms : List Form) (b : Begun) (w : Within) → Later forms b (slot_of w) → ClosesPart forms b w → Completes (in_state forms (row b w))
part_completes forms b w later c = completes_then (in_state forms (row b w)) (with_part forms b c.whole) c.tokens c.reads (later c.whole c.fills)

within_completes : (forms : List Form) (b : Begun) (w : Within) (rest : List Slot) → GoodWithin (last_inputs 0 b.parts) rest w → Later forms b (slot_of w) → Completes (in_state forms (row b w))
within_completes forms b (name k) rest g later = part_completes forms b (name k) later (closes_name forms b k)
within_completes forms b (names k ns) rest g later = part_completes forms b (names k ns) later (closes_names forms b k ns g)
within_completes forms b (tuple_slots p ns) rest g later = part_completes forms b (tuple_slots p ns) later (closes_slots forms b p ns g)
within_completes forms b (tuple_parent place) rest g later = part_completes forms b (tuple_parent place) later (closes_parent forms b place)
within_completes forms b (fixed key) rest g later = part_completes forms b (fixed key) later (closes_fixed forms b key)
within_completes forms b (effect k ts r) rest g later = part_completes forms b (effect k ts r) later (closes_effect forms b k ts r g)
within_completes forms b (items k es contexts h) rest g later = part_completes forms b (items k es contexts h) later (closes_items forms b k es contexts h g)
within_completes forms b (literal es contexts h) rest g later = part_completes forms b (literal es contexts h) later (closes_literal forms b es contexts h g)
within_completes forms b (marks k ms) rest g later = record { tokens = []; to = in_state forms (row b (marks k ms)); forms = _; reads = refl; whole = refl }

begun_completes : (forms : List Form) (b : Begun) (s : Slot) → Later forms b s → Completes (in_state forms (row b (begin (last_inputs 0 b.parts) s)))
begun_completes forms b slot.Name later = part_completes forms b (name naming.Any) later (closes_name forms b naming.Any)
begun_completes forms b slot.Class later = part_completes forms b (name naming.Class) later (closes_name forms b naming.Class)
begun_completes forms b slot.Names later = part_completes forms b (names naming.Any []) later (closes_names forms b naming.Any [] tt)
begun_completes forms b slot.Classes later = part_completes forms b (names naming.Class []) later (closes_names forms b naming.Class [] tt)
begun_completes forms b slot.Slots later = part_completes forms b (tuple_slots None []) later (closes_slots forms b None [] (tt, tt, omega arith))
begun_completes forms b (slot.Fixed key) later = part_completes forms b (fixed key) later (closes_fixed forms b key)
begun_completes forms b slot.Effect later = part_completes forms b (effect Values [] no_tokens) later (closes_effect forms b Values [] no_tokens (refl, tt))
begun_completes forms b slot.LocalsEffect later = part_completes forms b (effect Locals [] no_tokens) later (closes_effect forms b Locals [] no_tokens (refl, refl))
begun_completes forms b slot.Items later = part_completes forms b (items Values [] outside no_half) later (closes_items forms b Values [] outside no_half (refl, tt))
begun_completes forms b slot.LocalsItems later = part_completes forms b (items Locals [] (items_in (Some (last_inputs 0 b.parts)) ∷ []) no_half) later (closes_items forms b Locals [] (items_in (Some (last_inputs 0 b.parts)) ∷ []) no_half (refl, tt))
begun_completes forms b slot.Literal later = part_completes forms b (literal [] outside no_half) later (closes_literal forms b [] outside no_half (refl, tt))
begun_completes forms b slot.Marks later = record { tokens = []; to = in_state forms (row b (marks marked.Word [])); forms = _; reads = refl; whole = refl }
begun_completes forms b slot.MethodMark later = record { tokens = []; to = in_state forms (row b (marks marked.Method [])); forms = _; reads = refl; whole = refl }

slots_complete : (forms : List Form) (b : Begun) (rest : List Slot) → Filled 0 (slots_of b.kind) b.parts rest → Completes (go_on forms b)
slots_complete forms b rest h = subst (λ (o : Option Slot). Completes (at_slot forms b o)) (sym (next_slot 0 (slots_of b.kind) b.parts rest h)) (completes_at forms b rest h) where
  completes_at : (forms : List Form) (b : Begun) (rest : List Slot) → Filled 0 (slots_of b.kind) b.parts rest → Completes (at_slot forms b (first_of rest))
  completes_at forms b [] h = record { tokens = []; to = in_state (forms ++ row_form b ∷ []) (top [] outside no_half); forms = forms ++ row_form b ∷ []; reads = refl; whole = refl }
  completes_at forms b (s ∷ rest) h =
      begun_completes forms b s (λ p f.
      let filled = filled_more 0 (slots_of b.kind) b.parts s rest p h f in
      subst (λ (o : Option Slot). Completes (at_slot forms (more b p) o)) (sym (next_slot 0 (slots_of b.kind) (more b p).parts rest filled)) (completes_at forms (more b p) rest filled))

open_completes : (forms : List Form) (o : Open) → GoodOpen forms o → Completes (in_state forms o)
open_completes forms (top es contexts h) g =
    let c = closes_all top forms (top_holds_items forms) outside es contexts h (λ e. cc) g.0 g.1 in record { tokens = c.tokens; to = in_state forms (top c.closed (c.last ∷ []) no_half); forms = with_run forms c.closed; reads = c.reads; whole = refl }
open_completes forms (row b w) g = within_completes forms b w g.rest g.within (λ p f. slots_complete forms (more b p) g.rest (filled_more 0 (slots_of b.kind) b.parts (slot_of w) g.rest p g.filled f))

pub completes : (s : State) → Good s → Completes s
completes s g = open_completes s.forms s.open_part g.opens
