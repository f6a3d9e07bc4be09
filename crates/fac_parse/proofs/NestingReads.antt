-- That what leads through elements nests well.
use Rattle.std.proofs.Common.{◌≡◌, ◌≤◌, ◌<◌, ◌+◌, ℕ, zero, suc, nat_lt, Bool, true, false, cond, Option, Some, None, List, [], ◌∷◌, ◌++◌, length, refl, sym, ap, ◌∙◌, subst, append_assoc, length-append, arith}
use Rattle.std.specs.Prelude.{◌&&◌, nat_le}
use Rattle.std.proofs.lemmas.Bool.{ltb-true, leb-true, and_parts}
use Rattle.fac_base.specs.declared.place.Place.{Place}
use Rattle.fac_source.specs.declared.token.Token.{Token}
use Rattle.fac_source.specs.declared.tree.Term.{Term}
use Rattle.fac_source.specs.declared.tree.Term.TheVariants as term
use Rattle.fac_source.specs.declared.tree.Element.{Element}
use Rattle.fac_source.specs.declared.tree.Element.TheVariants as element
use Rattle.fac_source.specs.declared.tree.Bracket.{Bracket}
use Rattle.fac_source.specs.declared.tree.Bracket.TheVariants.{Quotation, Array, Fry}
use Rattle.fac_parse.specs.declared.context.Around.{Around}
use Rattle.fac_parse.specs.declared.context.Around.TheVariants as in_a
use Rattle.fac_parse.specs.declared.context.Context.{Context}
use Rattle.fac_parse.specs.Contexts.{behind, bound, bound_in, closed, closed_in, counted_in, holed_in, inside, item_behind, locals_in, most_elements, most_holes, most_levels, most_locals, opened, opened_locals, opens_in, uncounted_in}
use Rattle.fac_parse.specs.Trees.{AreLocalNames, IsElement, IsTerm}
use Rattle.fac_parse.specs.Nesting.{Node, single, enclosed, with_inputs, Nodes, nothing, more, closing, nodes_elements, node_elements, IsElementOfArray, IsFilled, count, one_more, scope_behind, MayBind, LocalsFit, LocalsInFit, holes, holes_of, MayHave}
use Rattle.fac_parse.proofs.NestingLemmas.{HasRoom, TakesHoles, Under, HasRoomFor, UnderOne, AroundBehind, HolesBehind, BehindOne, BehindAll, around_same, no_holes, under_more, behind_more, Counts, same_counts, inside_locals, closes_there, locals_close}

-- What is known of contexts, the innermost first.

abbrev pub ElementsWithin : Around → Type 0
ElementsWithin (in_a.Array n) = n ≤ most_elements
ElementsWithin _ = Unit {0}

abbrev pub HolesWithin : Option ℕ → Type 0
HolesWithin None = Unit {0}
HolesWithin (Some h) = h ≤ most_holes

abbrev pub NoneIn : Option ℕ → Type 0
NoneIn None = Unit {0}
NoneIn (Some h) = ⊥

-- an array counts no holes
abbrev pub NoneInArrays : Around → Option ℕ → Type 0
NoneInArrays (in_a.Array n) o = NoneIn o
NoneInArrays _ o = Unit {0}

-- and a quotation counts those of what is around it
abbrev pub Inherits : Around → Option ℕ → Option ℕ → Type 0
Inherits in_a.Items inner outer = NoneIn outer → NoneIn inner
Inherits _ inner outer = Unit {0}

pub record IsSound (c : Context) : Type 0 where
  pub elements : ElementsWithin c.around
  pub holes_within : HolesWithin c.holes
  pub none_in_arrays : NoneInArrays c.around c.holes

abbrev pub Sound : Context → List Context → Type 0
Sound c [] = IsSound c
Sound c (d ∷ ds) = IsSound c × Inherits c.around c.holes d.holes × Sound d ds

first_sound : (c : Context) (cs : List Context) → Sound c cs → IsSound c
first_sound c [] s = s
first_sound c (d ∷ ds) s = s.0

sound_changed : (c d : Context) (cs : List Context) → Sound c cs → IsSound d → ((o : Option ℕ) → Inherits c.around c.holes o → Inherits d.around d.holes o) → Sound d cs
sound_changed c d [] s i f = i
sound_changed c d (e ∷ es) s i f = (i, f e.holes s.1, s.2)

none_stays : (a b : Around) (k : ℕ) (o : Option ℕ) → AroundBehind a k b → NoneInArrays a o → NoneInArrays b o
none_stays in_a.Items b k o e h = subst (λ (x : Around). NoneInArrays x o) (sym e) tt
none_stays in_a.Fry b k o e h = subst (λ (x : Around). NoneInArrays x o) (sym e) tt
none_stays (in_a.Array n) b k o e h = let s : NoneInArrays (in_a.Array (n + k)) o = h in subst (λ (x : Around). NoneInArrays x o) (sym e) s

inherits_stays : (a b : Around) (k : ℕ) (i o : Option ℕ) → AroundBehind a k b → Inherits a i o → Inherits b i o
inherits_stays in_a.Items b k i o e h = let s : Inherits in_a.Items i o = h in subst (λ (x : Around). Inherits x i o) (sym e) s
inherits_stays in_a.Fry b k i o e h = subst (λ (x : Around). Inherits x i o) (sym e) tt
inherits_stays (in_a.Array n) b k i o e h = let s : Inherits (in_a.Array (n + k)) i o = tt in subst (λ (x : Around). Inherits x i o) (sym e) s

sound_counts : (c d : Context) (cs : List Context) → Counts c d → ElementsWithin d.around → Sound c cs → Sound d cs
sound_counts c d cs k w s =
    let i = first_sound c cs s in
    sound_changed c d cs s (record {
      elements = w;
      holes_within = subst HolesWithin (sym k.holes_are) i.holes_within;
      none_in_arrays = subst (NoneInArrays d.around) (sym k.holes_are) (none_stays c.around d.around 1 c.holes k.around_is i.none_in_arrays);
    }) (λ (o : Option ℕ) (h : Inherits c.around c.holes o). subst (λ (p : Option ℕ). Inherits d.around p o) (sym k.holes_are) (inherits_stays c.around d.around 1 c.holes o k.around_is h))

-- Elements.

abbrev pub RoomLeft : Around → Type 0
RoomLeft (in_a.Array n) = n < most_elements
RoomLeft _ = Unit {0}

abbrev pub IsNoArray : Around → Type 0
IsNoArray (in_a.Array n) = ⊥
IsNoArray _ = Unit {0}

room_for_element : (a : Around) (x : Node) → IsElementOfArray x → RoomLeft a → HasRoomFor a x
room_for_element in_a.Items x e r = tt
room_for_element in_a.Fry x e r = tt
room_for_element (in_a.Array n) x e r = (e, r)

room_for_any : (a : Around) (x : Node) → IsNoArray a → HasRoomFor a x
room_for_any in_a.Items x h = tt
room_for_any in_a.Fry x h = tt
room_for_any (in_a.Array n) x h = absurd h

pub record CountsTo (c : Context) (cs ks : List Context) : Type 0 where
  pub context : Context
  pub counts : Counts c context
  pub is : ks ≡ context ∷ cs
  pub room : RoomLeft c.around
  pub within : ElementsWithin context.around

counted_is : (a : Around) (c : Context) (cs ks : List Context) → c.around ≡ a → counted_in a c cs ≡ Some ks → CountsTo c cs ks
counted_is in_a.Items c cs ks e h = record { context = c; counts = same_counts in_a.Items c e refl; is = cc; room = subst RoomLeft (sym e) tt; within = subst ElementsWithin (sym e) tt }
counted_is in_a.Fry c cs ks e h = record { context = c; counts = same_counts in_a.Fry c e refl; is = cc; room = subst RoomLeft (sym e) tt; within = subst ElementsWithin (sym e) tt }
counted_is (in_a.Array n) c cs ks e h = go (nat_lt n most_elements) refl h
  where
    go : (b : Bool) → nat_lt n most_elements ≡ b → cond b (Some ((record c { around = in_a.Array (n + 1) }) ∷ cs)) None ≡ Some ks → CountsTo c cs ks
    go true t k =
        let lt : n < most_elements = ltb-true n most_elements t in
        record { context = record c { around = in_a.Array (n + 1) }; counts = record { around_is = subst (λ (b : Around). AroundBehind b 1 (in_a.Array (n + 1))) (sym e) refl; locals_are = refl; holes_are = refl }; is = cc; room = subst RoomLeft (sym e) lt; within = omega (arith, lt) }
    go false t k = absurd cc

pub record StaysAt (c : Context) (cs ks : List Context) : Type 0 where
  pub is : ks ≡ c ∷ cs
  pub no_array : IsNoArray c.around
  pub counts : Counts c c

uncounted_is : (a : Around) (c : Context) (cs ks : List Context) → c.around ≡ a → uncounted_in a c cs ≡ Some ks → StaysAt c cs ks
uncounted_is in_a.Items c cs ks e h = record { is = cc; no_array = subst IsNoArray (sym e) tt; counts = same_counts in_a.Items c e refl }
uncounted_is in_a.Fry c cs ks e h = record { is = cc; no_array = subst IsNoArray (sym e) tt; counts = same_counts in_a.Fry c e refl }
uncounted_is (in_a.Array n) c cs ks e h = absurd cc

-- Where a node stands, and what is behind it.
pub record StandsAs (c : Context) (cs : List Context) (x : Node) (next : List Context) : Type 0 where
  pub context : Context
  pub is : next ≡ context ∷ cs
  pub behind_it : BehindOne c x context
  pub under : UnderOne c (length cs) x
  pub sound : Sound context cs

no_more_holes : (o : Option ℕ) → HolesWithin o → TakesHoles o 0
no_more_holes None h = refl
no_more_holes (Some n) h = omega (arith, h)

counts_as :
    (c : Context) (cs : List Context) (t : Term) (next : List Context) → Sound c cs → length cs ≤ most_levels → IsTerm t → scope_behind c.locals (single t) ≡ c.locals → holes_of (single t) ≡ 0 → LocalsInFit c.locals (single t) → (RoomLeft c.around → HasRoomFor c.around (single t)) → CountsTo c cs next →
    StandsAs c cs (single t) next
counts_as c cs t next s deep spelled scope none fit room k = record {
  context = k.context;
  is = k.is;
  behind_it = record { around_is = k.counts.around_is; scope_is = k.counts.locals_are ∙ sym scope; holes_are = subst (λ (n : ℕ). HolesBehind c.holes n k.context.holes) (sym none) (no_holes c.holes k.context.holes k.counts.holes_are) };
  under = record { spelled = spelled; few = omega (arith, deep); room = room k.room; arrays = tt; scope = fit; fit = tt; taken = subst (TakesHoles c.holes) (sym none) (no_more_holes c.holes (first_sound c cs s).holes_within) };
  sound = sound_counts c k.context cs k.counts k.within s;
}

stays_counted : (c : Context) (cs ks : List Context) → Sound c cs → StaysAt c cs ks → CountsTo c cs ks
stays_counted c cs ks s k = record { context = c; counts = k.counts; is = k.is; room = room_of c.around k.no_array; within = (first_sound c cs s).elements }
  where
    room_of : (a : Around) → IsNoArray a → RoomLeft a
    room_of in_a.Items h = tt
    room_of in_a.Fry h = tt
    room_of (in_a.Array n) h = absurd h

bound_stands : (c : Context) (cs : List Context) (sign : Place) (name : Token) (next : List Context) → Sound c cs → length cs ≤ most_levels → AreLocalNames (name ∷ []) → StaysAt c cs (c ∷ cs) → (o : Option ℕ) → c.locals ≡ o → bound_in o c cs ≡ Some next → StandsAs c cs (single (term.Bind sign name)) next
bound_stands c cs sign name next s deep spelled k None e h = absurd cc
bound_stands c cs sign name next s deep spelled k (Some n) e h = go (nat_lt n most_locals) refl h
  where
    go : (b : Bool) → nat_lt n most_locals ≡ b → cond b (Some ((record c { locals = Some (n + 1) }) ∷ cs)) None ≡ Some next → StandsAs c cs (single (term.Bind sign name)) next
    go true t f =
        let d : Context = record c { locals = Some (n + 1) } in
        record {
          context = d;
          is = cc;
          behind_it = record { around_is = k.counts.around_is; scope_is = sym (ap one_more e); holes_are = no_holes c.holes c.holes refl };
          under = record { spelled = spelled.0; few = omega (arith, deep); room = room_for_any c.around (single (term.Bind sign name)) k.no_array; arrays = tt; scope = subst MayBind (sym e) (ltb-true n most_locals t); fit = tt; taken = no_more_holes c.holes (first_sound c cs s).holes_within };
          sound = sound_changed c d cs s (record { elements = (first_sound c cs s).elements; holes_within = (first_sound c cs s).holes_within; none_in_arrays = (first_sound c cs s).none_in_arrays }) (λ (o : Option ℕ) (i : Inherits c.around c.holes o). i);
        }
    go false t f = absurd cc

all_bound : (c : Context) (cs : List Context) (sign : Place) (name : Token) (next : List Context) → Sound c cs → length cs ≤ most_levels → AreLocalNames (name ∷ []) → (o : Option (List Context)) → uncounted_in c.around c cs ≡ o → bound o ≡ Some next → StandsAs c cs (single (term.Bind sign name)) next
all_bound c cs sign name next s deep spelled None e h = absurd cc
all_bound c cs sign name next s deep spelled (Some ks) e h =
    let k = uncounted_is c.around c cs ks refl e in
    let here : StaysAt c cs (c ∷ cs) = record { is = refl; no_array = k.no_array; counts = k.counts } in
    bound_stands c cs sign name next s deep spelled here c.locals refl (sym (ap (λ (xs : List Context). bound (Some xs)) k.is) ∙ h)

-- what counts holes is no array
no_array_with : (a : Around) (h : ℕ) → NoneInArrays a (Some h) → IsNoArray a
no_array_with in_a.Items h n = tt
no_array_with in_a.Fry h n = tt
no_array_with (in_a.Array k) h n = n

none_outside : (a : Around) (o : Option ℕ) → IsNoArray a → NoneInArrays a o
none_outside in_a.Items o h = tt
none_outside in_a.Fry o h = tt
none_outside (in_a.Array n) o h = absurd h

inherits_one : (a : Around) (h k : ℕ) (o : Option ℕ) → Inherits a (Some h) o → Inherits a (Some k) o
inherits_one in_a.Items h k o i = i
inherits_one in_a.Fry h k o i = tt
inherits_one (in_a.Array n) h k o i = tt

counts_itself : (a : Around) (c : Context) → c.around ≡ a → IsNoArray a → AroundBehind c.around 1 c.around
counts_itself in_a.Items c e h = subst (λ (b : Around). AroundBehind b 1 c.around) (sym e) e
counts_itself in_a.Fry c e h = subst (λ (b : Around). AroundBehind b 1 c.around) (sym e) e
counts_itself (in_a.Array n) c e h = absurd h

hole_stands : (c : Context) (cs : List Context) (t : Term) (next : List Context) → Sound c cs → length cs ≤ most_levels → IsTerm t → scope_behind c.locals (single t) ≡ c.locals → holes_of (single t) ≡ 1 → LocalsInFit c.locals (single t) → (o : Option ℕ) → c.holes ≡ o → holed_in o c cs ≡ Some next → StandsAs c cs (single t) next
hole_stands c cs t next s deep spelled scope one fit None e h = absurd cc
hole_stands c cs t next s deep spelled scope one fit (Some n) e h = go (nat_lt n most_holes) refl h
  where
    go : (b : Bool) → nat_lt n most_holes ≡ b → cond b (Some ((record c { holes = Some (n + 1) }) ∷ cs)) None ≡ Some next → StandsAs c cs (single t) next
    go true u f =
        let d : Context = record c { holes = Some (n + 1) } in
        let lt : n < most_holes = ltb-true n most_holes u in
        let i = first_sound c cs s in
        let none : IsNoArray c.around = no_array_with c.around n (subst (NoneInArrays c.around) e i.none_in_arrays) in
        let takes : TakesHoles (Some n) 1 = omega (arith, lt) in
        record {
          context = d;
          is = cc;
          behind_it = record { around_is = counts_itself c.around c refl none; scope_is = sym scope; holes_are = subst (λ (m : ℕ). HolesBehind c.holes m (Some (n + 1))) (sym one) (subst (λ (p : Option ℕ). HolesBehind p 1 (Some (n + 1))) (sym e) refl) };
          under = record { spelled = spelled; few = omega (arith, deep); room = room_for_any c.around (single t) none; arrays = tt; scope = fit; fit = tt; taken = subst (TakesHoles c.holes) (sym one) (subst (λ (p : Option ℕ). TakesHoles p 1) (sym e) takes) };
          sound = sound_changed c d cs s (record { elements = i.elements; holes_within = omega (arith, lt); none_in_arrays = none_outside c.around (Some (n + 1)) none }) (λ (o : Option ℕ) (j : Inherits c.around c.holes o). inherits_one c.around n (n + 1) o (subst (λ (p : Option ℕ). Inherits c.around p o) e j));
        }
    go false u f = absurd cc

term_stands : (c : Context) (cs : List Context) (t : Term) (next : List Context) → Sound c cs → length cs ≤ most_levels → IsTerm t → item_behind (c ∷ cs) t ≡ Some next → StandsAs c cs (single t) next
term_stands c cs (term.Name token) next s deep i h = counts_as c cs (term.Name token) next s deep i refl refl tt (room_for_element c.around (single (term.Name token)) tt) (counted_is c.around c cs next refl h)
term_stands c cs (term.Wrapped sign name) next s deep i h = counts_as c cs (term.Wrapped sign name) next s deep i refl refl tt (room_for_element c.around (single (term.Wrapped sign name)) tt) (counted_is c.around c cs next refl h)
term_stands c cs (term.Literal token l) next s deep i h = counts_as c cs (term.Literal token l) next s deep i refl refl tt (room_for_element c.around (single (term.Literal token l)) tt) (counted_is c.around c cs next refl h)
term_stands c cs (term.EffectCall callee sign tokens height) next s deep i h =
    let k = uncounted_is c.around c cs next refl h in
    counts_as c cs (term.EffectCall callee sign tokens height) next s deep i refl refl tt (λ (r : RoomLeft c.around). room_for_any c.around (single (term.EffectCall callee sign tokens height)) k.no_array) (stays_counted c cs next s k)
term_stands c cs (term.NextMethod place) next s deep i h =
    let k = uncounted_is c.around c cs next refl h in
    counts_as c cs (term.NextMethod place) next s deep i refl refl tt (λ (r : RoomLeft c.around). room_for_any c.around (single (term.NextMethod place)) k.no_array) (stays_counted c cs next s k)
term_stands c cs (term.Bind sign name) next s deep i h = all_bound c cs sign name next s deep (i, tt) (uncounted_in c.around c cs) refl h
term_stands c cs (term.Hole place) next s deep i h = hole_stands c cs (term.Hole place) next s deep i refl refl tt c.holes refl h
term_stands c cs (term.CalledHole place) next s deep i h = hole_stands c cs (term.CalledHole place) next s deep i refl refl tt c.holes refl h

-- Brackets that open.

pub record Opened (c : Context) (cs : List Context) (bracket : Bracket) (next : List Context) : Type 0 where
  pub outer : Context
  pub counts : Counts c outer
  pub is : next ≡ inside bracket outer ∷ outer ∷ cs
  pub low : length cs < most_levels
  pub room : (opens : Place) (xs : Nodes) (closes : Place) → HasRoomFor c.around (enclosed bracket opens xs closes)
  pub sound : Sound outer cs
  pub sound_inside : Sound (inside bracket outer) (outer ∷ cs)

pub inside_sound : (bracket : Bracket) (outer : Context) (cs : List Context) → Sound outer cs → Sound (inside bracket outer) (outer ∷ cs)
inside_sound Quotation outer cs s = (record { elements = tt; holes_within = (first_sound outer cs s).holes_within; none_in_arrays = tt }, λ (h : NoneIn outer.holes). h, s)
inside_sound Fry outer cs s = (record { elements = tt; holes_within = omega arith; none_in_arrays = tt }, tt, s)
inside_sound Array outer cs s = (record { elements = omega arith; holes_within = tt; none_in_arrays = tt }, tt, s)

opened_is : (c outer : Context) (cs : List Context) (bracket : Bracket) (next : List Context) → Counts c outer → ((opens : Place) (xs : Nodes) (closes : Place) → HasRoomFor c.around (enclosed bracket opens xs closes)) → Sound outer cs → opened bracket (Some (outer ∷ cs)) ≡ Some next → Opened c cs bracket next
opened_is c outer cs bracket next k room s h = go (nat_lt (length cs) most_levels) refl h
  where
    go : (b : Bool) → nat_lt (length cs) most_levels ≡ b → cond b (Some (inside bracket outer ∷ outer ∷ cs)) None ≡ Some next → Opened c cs bracket next
    go true t f = record { outer = outer; counts = k; is = cc; low = ltb-true (length cs) most_levels t; room = room; sound = s; sound_inside = inside_sound bracket outer cs s }
    go false t f = absurd cc

opened_counted : (c : Context) (cs : List Context) (bracket : Bracket) (next : List Context) → Sound c cs → ((opens : Place) (xs : Nodes) (closes : Place) → RoomLeft c.around → HasRoomFor c.around (enclosed bracket opens xs closes)) → (o : Option (List Context)) → ((ks : List Context) → o ≡ Some ks → CountsTo c cs ks) → opened bracket o ≡ Some next → Opened c cs bracket next
opened_counted c cs bracket next s room None f h = absurd cc
opened_counted c cs bracket next s room (Some ks) f h =
    let k = f ks refl in
    opened_is c k.context cs bracket next k.counts (λ (opens : Place) (xs : Nodes) (closes : Place). room opens xs closes k.room) (sound_counts c k.context cs k.counts k.within s) (sym (ap (λ (xs : List Context). opened bracket (Some xs)) k.is) ∙ h)

bracket_opens : (c : Context) (cs : List Context) (bracket : Bracket) (next : List Context) → Sound c cs → opened bracket (opens_in bracket (c ∷ cs)) ≡ Some next → Opened c cs bracket next
bracket_opens c cs Quotation next s h = opened_counted c cs Quotation next s (λ (opens : Place) (xs : Nodes) (closes : Place) (r : RoomLeft c.around). room_for_element c.around (enclosed Quotation opens xs closes) tt r) (counted_in c.around c cs) (λ (ks : List Context) (e : counted_in c.around c cs ≡ Some ks). counted_is c.around c cs ks refl e) h
bracket_opens c cs Array next s h = opened_counted c cs Array next s (λ (opens : Place) (xs : Nodes) (closes : Place) (r : RoomLeft c.around). room_for_element c.around (enclosed Array opens xs closes) tt r) (counted_in c.around c cs) (λ (ks : List Context) (e : counted_in c.around c cs ≡ Some ks). counted_is c.around c cs ks refl e) h
bracket_opens c cs Fry next s h = opens_fry (uncounted_in c.around c cs) refl h
  where
    opens_fry : (o : Option (List Context)) → uncounted_in c.around c cs ≡ o → opened Fry o ≡ Some next → Opened c cs Fry next
    opens_fry None e f = absurd cc
    opens_fry (Some ks) e f =
        let k = uncounted_is c.around c cs ks refl e in
        opened_is c c cs Fry next k.counts (λ (opens : Place) (xs : Nodes) (closes : Place). room_for_any c.around (enclosed Fry opens xs closes) k.no_array) s (sym (ap (λ (xs : List Context). opened Fry (Some xs)) k.is) ∙ f)

-- Brackets that close.

none_behind : (o : Option ℕ) (n : ℕ) (p : Option ℕ) → HolesBehind o n p → NoneIn o → NoneIn p
none_behind None n p e h = subst NoneIn (sym e) tt
none_behind (Some k) n p e h = absurd h

within_behind : (o : Option ℕ) (n : ℕ) (p : Option ℕ) → TakesHoles o n → HolesBehind o n p → HolesWithin p
within_behind None n p t e = subst HolesWithin (sym e) tt
within_behind (Some k) n p t e = let s : HolesWithin (Some (k + n)) = t in subst HolesWithin (sym e) s

none_in_arrays_behind : (a : Around) (o p : Option ℕ) → (NoneIn o → NoneIn p) → NoneInArrays a o → NoneInArrays a p
none_in_arrays_behind in_a.Items o p f h = tt
none_in_arrays_behind in_a.Fry o p f h = tt
none_in_arrays_behind (in_a.Array n) o p f h = f h

inherits_behind : (a : Around) (o p q : Option ℕ) → (NoneIn o → NoneIn p) → Inherits a o q → Inherits a p q
inherits_behind in_a.Items o p q f i = λ (h : NoneIn q). f (i h)
inherits_behind in_a.Fry o p q f i = tt
inherits_behind (in_a.Array n) o p q f i = tt

-- what a quotation is in, behind it
quotation_sound : (outer : Context) (cs : List Context) (n : ℕ) (p : Option ℕ) → Sound outer cs → TakesHoles outer.holes n → HolesBehind outer.holes n p → Sound (record outer { holes = p }) cs
quotation_sound outer cs n p s t e =
    let i = first_sound outer cs s in
    let none = none_behind outer.holes n p e in
    sound_changed outer (record outer { holes = p }) cs s (record { elements = i.elements; holes_within = within_behind outer.holes n p t e; none_in_arrays = none_in_arrays_behind outer.around outer.holes p none i.none_in_arrays }) (λ (q : Option ℕ) (j : Inherits outer.around outer.holes q). inherits_behind outer.around outer.holes p q none j)

-- the bracket that closes is that of the one that opened
pub record ClosesAs (c : Context) (cs : List Context) (bracket other : Bracket) (opens : Place) (xs : Nodes) (closes : Place) (next : List Context) : Type 0 where
  pub is_closing : other ≡ closing bracket
  pub stands : StandsAs c cs (enclosed bracket opens xs closes) next

head_is : (a b : Context) (cs : List Context) → Some (a ∷ cs) ≡ Some (b ∷ cs) → a ≡ b
head_is a b cs e = cc

one_next : (a b : List Context) → Some a ≡ Some b → a ≡ b
one_next a b e = cc

never : {A : Type 0} (next : List Context) → None ≡ Some next → A
never next e = absurd (no_list e)
  where
    no_list : None ≡ Some next → ⊥
    no_list e = cc

closes_kind : (bracket other : Bracket) (closes : Place) (inner outer : Context) (cs : List Context) (a : Around) (k : ℕ) (next : List Context) → AroundBehind (inside bracket outer).around k a → IsElement (element.Closes other closes) → closed_in a other inner outer cs ≡ Some next → other ≡ closing bracket
closes_kind Quotation Quotation closes inner outer cs a k next e i h = refl
closes_kind Quotation Array closes inner outer cs a k next e i h = never next (ap (λ (b : Around). closed_in b Array inner outer cs) (sym e) ∙ h)
closes_kind Quotation Fry closes inner outer cs a k next e i h = absurd i
closes_kind Array Quotation closes inner outer cs a k next e i h = never next (ap (λ (b : Around). closed_in b Quotation inner outer cs) (sym e) ∙ h)
closes_kind Array Array closes inner outer cs a k next e i h = refl
closes_kind Array Fry closes inner outer cs a k next e i h = absurd i
closes_kind Fry Quotation closes inner outer cs a k next e i h = refl
closes_kind Fry Array closes inner outer cs a k next e i h = never next (ap (λ (b : Around). closed_in b Array inner outer cs) (sym e) ∙ h)
closes_kind Fry Fry closes inner outer cs a k next e i h = absurd i

filled_of : (bracket : Bracket) (outer : Context) (xs : Nodes) → HasRoom (inside bracket outer).around xs → IsFilled bracket xs
filled_of Quotation outer xs h = tt
filled_of Fry outer xs h = tt
filled_of Array outer xs h = (h.0, omega (arith, h.1))

had_of : (bracket : Bracket) (outer : Context) (xs : Nodes) → TakesHoles (inside bracket outer).holes (holes xs) → MayHave bracket (holes xs)
had_of Quotation outer xs h = tt
had_of Fry outer xs h = omega (arith, h)
had_of Array outer xs h = h

taken_of : (bracket : Bracket) (c outer : Context) (opens : Place) (xs : Nodes) (closes : Place) → outer.holes ≡ c.holes → HolesWithin c.holes → TakesHoles (inside bracket outer).holes (holes xs) → TakesHoles c.holes (holes_of (enclosed bracket opens xs closes))
taken_of Quotation c outer opens xs closes e w t = subst (λ (o : Option ℕ). TakesHoles o (holes xs)) e t
taken_of Fry c outer opens xs closes e w t = no_more_holes c.holes w
taken_of Array c outer opens xs closes e w t = no_more_holes c.holes w

locals_of : (bracket : Bracket) (c outer : Context) (xs : Nodes) → outer.locals ≡ c.locals → LocalsFit (inside bracket outer).locals xs → LocalsFit c.locals xs
locals_of Quotation c outer xs e h = subst (λ (o : Option ℕ). LocalsFit o xs) e h
locals_of Fry c outer xs e h = subst (λ (o : Option ℕ). LocalsFit o xs) e h
locals_of Array c outer xs e h = subst (λ (o : Option ℕ). LocalsFit o xs) e h

sound_of : (bracket : Bracket) (outer : Context) (cs : List Context) (xs : Nodes) (d : Context) → Sound outer cs → TakesHoles (inside bracket outer).holes (holes xs) → BehindAll (inside bracket outer) xs d → (e : Context) → closed (d ∷ outer ∷ cs) (closing bracket) ≡ Some (e ∷ cs) → Sound e cs
sound_of Quotation outer cs xs d s t b e h =
    let is : record outer { holes = d.holes } ≡ e = head_is (record outer { holes = d.holes }) e cs (sym (ap (λ (a : Around). closed_in a Quotation d outer cs) b.around_is) ∙ h) in
    subst (λ (x : Context). Sound x cs) is (quotation_sound outer cs (holes xs) d.holes s t b.holes_are)
sound_of Fry outer cs xs d s t b e h = subst (λ (x : Context). Sound x cs) (head_is outer e cs (sym (ap (λ (a : Around). closed_in a Quotation d outer cs) b.around_is) ∙ h)) s
sound_of Array outer cs xs d s t b e h = subst (λ (x : Context). Sound x cs) (head_is outer e cs (sym (ap (λ (a : Around). closed_in a Array d outer cs) b.around_is) ∙ h)) s

pub bracket_closes :
    (c : Context) (cs : List Context) (bracket : Bracket) (o : List Context) (k : Opened c cs bracket o) (opens : Place) (xs : Nodes) (d : Context) (other : Bracket) (closes : Place) (next : List Context) → Sound c cs → Under (inside bracket k.outer) (suc (length cs)) xs → BehindAll (inside bracket k.outer) xs d → IsElement (element.Closes other closes) →
    closed (d ∷ k.outer ∷ cs) other ≡ Some next → ClosesAs c cs bracket other opens xs closes next
bracket_closes c cs bracket o k opens xs d other closes next s u b i h =
    let same = closes_kind bracket other closes d k.outer cs d.around (count xs) next b.around_is i h in
    let p = closes_there c k.outer cs bracket opens xs closes d k.counts b in
    let is : next ≡ p.context ∷ cs = one_next next (p.context ∷ cs) (sym h ∙ ap (closed (d ∷ k.outer ∷ cs)) same ∙ p.is) in
    record {
      is_closing = same;
      stands = record {
        context = p.context;
        is = is;
        behind_it = p.behind_it;
        under = record {
          spelled = u.spelled;
          few = omega (arith, u.few);
          room = k.room opens xs closes;
          arrays = (filled_of bracket k.outer xs u.room, u.arrays);
          scope = locals_of bracket c k.outer xs k.counts.locals_are u.scope;
          fit = (had_of bracket k.outer xs u.taken, u.fit);
          taken = taken_of bracket c k.outer opens xs closes k.counts.holes_are (first_sound c cs s).holes_within u.taken;
        };
        sound = sound_of bracket k.outer cs xs d k.sound u.taken b p.context p.is;
      };
    }

-- A quotation with locals.

pub record OpenedLocals (c : Context) (cs : List Context) (k : ℕ) (next : List Context) : Type 0 where
  pub is : next ≡ inside_locals k c ∷ c ∷ cs
  pub low : length cs < most_levels
  pub within : locals_in c.locals + k ≤ most_locals
  pub stays : StaysAt c cs (c ∷ cs)

locals_opened : (c : Context) (cs : List Context) (k : ℕ) (next : List Context) → (o : Option (List Context)) → uncounted_in c.around c cs ≡ o → opened_locals k o ≡ Some next → OpenedLocals c cs k next
locals_opened c cs k next None e h = absurd cc
locals_opened c cs k next (Some ks) e h =
    let stays = uncounted_is c.around c cs ks refl e in
    go stays (nat_lt (length cs) most_levels && nat_le (locals_in c.locals + k) most_locals) refl (sym (ap (λ (xs : List Context). opened_locals k (Some xs)) stays.is) ∙ h)
  where
    go : StaysAt c cs ks → (b : Bool) → (nat_lt (length cs) most_levels && nat_le (locals_in c.locals + k) most_locals) ≡ b → cond b (Some (inside_locals k c ∷ c ∷ cs)) None ≡ Some next → OpenedLocals c cs k next
    go stays true t f =
        let both = and_parts (nat_lt (length cs) most_levels) (nat_le (locals_in c.locals + k) most_locals) t in
        record { is = cc; low = ltb-true (length cs) most_levels both.0; within = leb-true (locals_in c.locals + k) most_locals both.1; stays = record { is = refl; no_array = stays.no_array; counts = stays.counts } }
    go stays false t f = absurd cc

locals_sound : (c : Context) (cs : List Context) (k : ℕ) → Sound c cs → Sound (inside_locals k c) (c ∷ cs)
locals_sound c cs k s = (record { elements = tt; holes_within = (first_sound c cs s).holes_within; none_in_arrays = tt }, λ (h : NoneIn c.holes). h, s)

pub record LocalsCloseAs (c : Context) (cs : List Context) (other : Bracket) (opens : Place) (names : List Token) (bar : Place) (xs : Nodes) (closes : Place) (next : List Context) : Type 0 where
  pub is_closing : other ≡ Quotation
  pub stands : StandsAs c cs (with_inputs opens names bar xs closes) next

locals_closed :
    (c : Context) (cs : List Context) (opens : Place) (names : List Token) (bar : Place) (o : List Context) (k : OpenedLocals c cs (length names) o) (xs : Nodes) (d : Context) (other : Bracket) (closes : Place) (next : List Context) → Sound c cs → AreLocalNames names → Under (inside_locals (length names) c) (suc (length cs)) xs → BehindAll (inside_locals (length names) c) xs d → IsElement (element.Closes other closes) →
    closed (d ∷ c ∷ cs) other ≡ Some next → LocalsCloseAs c cs other opens names bar xs closes next
locals_closed c cs opens names bar o k xs d other closes next s spelled u b i h =
    let same = closes_kind Quotation other closes d c cs d.around (count xs) next b.around_is i h in
    let p = locals_close c cs opens names bar xs closes d k.stays.counts b in
    let is : next ≡ p.context ∷ cs = one_next next (p.context ∷ cs) (sym h ∙ ap (closed (d ∷ c ∷ cs)) same ∙ p.is) in
    record {
      is_closing = same;
      stands = record {
        context = p.context;
        is = is;
        behind_it = p.behind_it;
        under = record {
          spelled = (spelled, u.spelled);
          few = omega (arith, u.few);
          room = room_for_any c.around (with_inputs opens names bar xs closes) k.stays.no_array;
          arrays = u.arrays;
          scope = (k.within, u.scope);
          fit = u.fit;
          taken = u.taken;
        };
        sound = sound_of Quotation c cs xs d s u.taken (record { around_is = b.around_is; holes_are = b.holes_are }) p.context p.is;
      };
    }

-- Elements up to the bracket that closes what they stand in.
module _ (Goes : List Context → List Element → Type 0) (first : (c : Context) (cs : List Context) (e : Element) (es : List Element) → Goes (c ∷ cs) (e ∷ es) → IsElement e × (next : List Context) × (behind (c ∷ cs) e ≡ Some next) × Goes next es) (still_open : (c d : Context) (cs : List Context) → Goes (c ∷ d ∷ cs) [] → ⊥) where
  pub record ClosedBy (d outer : Context) (cs : List Context) (es : List Element) (xs : Nodes) : Type 0 where
    pub bracket : Bracket
    pub place : Place
    pub rest : List Element
    pub next : List Context
    pub written : es ≡ nodes_elements xs ++ element.Closes bracket place ∷ rest
    pub is_element : IsElement (element.Closes bracket place)
    pub is : closed (d ∷ outer ∷ cs) bracket ≡ Some next
    pub goes : Goes next rest
    pub shorter : length rest < length es

  abbrev pub Ends : List Context → Context → List Element → Nodes → Type 0
  Ends [] d es xs = es ≡ nodes_elements xs
  Ends (outer ∷ cs) d es xs = ClosedBy d outer cs es xs

  pub record Split (c : Context) (cs : List Context) (es : List Element) : Type 0 where
    pub nodes : Nodes
    pub context : Context
    pub under : Under c (length cs) nodes
    pub behind_them : BehindAll c nodes context
    pub ends : Ends cs context es nodes

  ends_more : (cs : List Context) (d : Context) (x : Node) (es : List Element) (xs : Nodes) → Ends cs d es xs → Ends cs d (node_elements x ++ es) (more x xs)
  ends_more [] d x es xs e = ap (λ (rest : List Element). node_elements x ++ rest) e
  ends_more (outer ∷ cs) d x es xs k = record {
    bracket = k.bracket;
    place = k.place;
    rest = k.rest;
    next = k.next;
    written = ap (λ (rest : List Element). node_elements x ++ rest) k.written ∙ sym (append_assoc (node_elements x) (nodes_elements xs) (element.Closes k.bracket k.place ∷ k.rest));
    is_element = k.is_element;
    is = k.is;
    goes = k.goes;
    shorter = let sum = length-append (node_elements x) es in omega (arith, sum, k.shorter);
  }

  put_first : (c : Context) (cs : List Context) (x : Node) (es : List Element) (next : List Context) → (s : StandsAs c cs x next) → Split s.context cs es → Split c cs (node_elements x ++ es)
  put_first c cs x es next s r = record {
    nodes = more x r.nodes;
    context = r.context;
    under = under_more c s.context (length cs) x r.nodes s.under s.behind_it r.under;
    behind_them = behind_more c s.context r.context x r.nodes s.behind_it r.behind_them;
    ends = ends_more cs r.context x es r.nodes r.ends;
  }

  room_for_none : (a : Around) → ElementsWithin a → HasRoom a nothing
  room_for_none in_a.Items h = tt
  room_for_none in_a.Fry h = tt
  room_for_none (in_a.Array n) h = (tt, omega (arith, h))

  under_nothing : (c : Context) (cs : List Context) → Sound c cs → length cs ≤ most_levels → Under c (length cs) nothing
  under_nothing c cs s deep = let i = first_sound c cs s in record { spelled = tt; few = omega (arith, deep); room = room_for_none c.around i.elements; arrays = tt; scope = tt; fit = tt; taken = no_more_holes c.holes i.holes_within }

  behind_nothing : (c : Context) → BehindAll c nothing c
  behind_nothing c = record { around_is = around_same c.around; holes_are = no_holes c.holes c.holes refl }

  at_end : (c : Context) (cs : List Context) → Sound c cs → length cs ≤ most_levels → Goes (c ∷ cs) [] → Split c cs []
  at_end c [] s deep g = record { nodes = nothing; context = c; under = under_nothing c [] s deep; behind_them = behind_nothing c; ends = refl }
  at_end c (d ∷ cs) s deep g = absurd (still_open c d cs g)

  at_closing : (c : Context) (cs : List Context) (bracket : Bracket) (place : Place) (es : List Element) (next : List Context) → Sound c cs → length cs ≤ most_levels → IsElement (element.Closes bracket place) → closed (c ∷ cs) bracket ≡ Some next → Goes next es → Split c cs (element.Closes bracket place ∷ es)
  at_closing c [] bracket place es next s deep i h g = never next h
  at_closing c (d ∷ cs) bracket place es next s deep i h g = record {
    nodes = nothing;
    context = c;
    under = under_nothing c (d ∷ cs) s deep;
    behind_them = behind_nothing c;
    ends = record { bracket = bracket; place = place; rest = es; next = next; written = refl; is_element = i; is = h; goes = g; shorter = omega arith };
  }

  written_pair : (xs : Nodes) (opens : Element) (other bracket : Bracket) (closes : Place) (rest es : List Element) → other ≡ bracket → es ≡ nodes_elements xs ++ element.Closes other closes ∷ rest → (opens ∷ nodes_elements xs ++ element.Closes bracket closes ∷ []) ++ rest ≡ opens ∷ es
  written_pair xs opens other bracket closes rest es same e =
      ap (λ (all : List Element). opens ∷ all) (append_assoc (nodes_elements xs) (element.Closes bracket closes ∷ []) rest ∙ ap (λ (b : Bracket). nodes_elements xs ++ element.Closes b closes ∷ rest) (sym same) ∙ sym e)

  pub split : (n : ℕ) (c : Context) (cs : List Context) (es : List Element) → length es ≤ n → Sound c cs → length cs ≤ most_levels → Goes (c ∷ cs) es → Split c cs es
  split n c cs [] le s deep g = at_end c cs s deep g
  split zero c cs (e ∷ es) le s deep g = absurd (omega (arith, le))
  split (suc n) c cs (element.Item t ∷ es) le s deep g =
      let f = first c cs (element.Item t) es g in
      let here = term_stands c cs t f.1 s deep f.0 f.2 in
      let rest = split n here.context cs es (omega (arith, le)) here.sound deep (subst (λ (k : List Context). Goes k es) here.is f.3) in
      put_first c cs (single t) es f.1 here rest
  split (suc n) c cs (element.Opens bracket opens ∷ es) le s deep g =
      let f = first c cs (element.Opens bracket opens) es g in
      let o = bracket_opens c cs bracket f.1 s f.2 in
      let inner = split n (inside bracket o.outer) (o.outer ∷ cs) es (omega (arith, le)) o.sound_inside (omega (arith, o.low)) (subst (λ (k : List Context). Goes k es) o.is f.3) in
      let k = inner.ends in
      let closes = bracket_closes c cs bracket f.1 o opens inner.nodes inner.context k.bracket k.place k.next s inner.under inner.behind_them k.is_element k.is in
      let here = closes.stands in
      let rest = split n here.context cs k.rest (omega (arith, le, k.shorter)) here.sound deep (subst (λ (j : List Context). Goes j k.rest) here.is k.goes) in
      subst (Split c cs) (written_pair inner.nodes (element.Opens bracket opens) k.bracket (closing bracket) k.place k.rest es closes.is_closing k.written) (put_first c cs (enclosed bracket opens inner.nodes k.place) k.rest k.next here rest)
  split (suc n) c cs (element.OpensLocals opens names bar ∷ es) le s deep g =
      let f = first c cs (element.OpensLocals opens names bar) es g in
      let o = locals_opened c cs (length names) f.1 (uncounted_in c.around c cs) refl f.2 in
      let inner = split n (inside_locals (length names) c) (c ∷ cs) es (omega (arith, le)) (locals_sound c cs (length names) s) (omega (arith, o.low)) (subst (λ (k : List Context). Goes k es) o.is f.3) in
      let k = inner.ends in
      let closes = locals_closed c cs opens names bar f.1 o inner.nodes inner.context k.bracket k.place k.next s f.0 inner.under inner.behind_them k.is_element k.is in
      let here = closes.stands in
      let rest = split n here.context cs k.rest (omega (arith, le, k.shorter)) here.sound deep (subst (λ (j : List Context). Goes j k.rest) here.is k.goes) in
      subst (Split c cs) (written_pair inner.nodes (element.OpensLocals opens names bar) k.bracket Quotation k.place k.rest es closes.is_closing k.written) (put_first c cs (with_inputs opens names bar inner.nodes k.place) k.rest k.next here rest)
  split (suc n) c cs (element.Closes bracket place ∷ es) le s deep g =
      let f = first c cs (element.Closes bracket place) es g in
      at_closing c cs bracket place es f.1 s deep f.0 f.2 f.3
