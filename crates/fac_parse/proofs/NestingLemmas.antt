-- That the items of a form are those that nest well.
use Rattle.std.proofs.Common.{◌≡◌, ◌≤◌, ◌<◌, ◌+◌, ℕ, suc, nat_lt, Bool, true, false, cond, Option, Some, None, List, [], ◌∷◌, ◌++◌, length, refl, sym, ap, ◌∙◌, subst, append_assoc, arith}
use Rattle.std.specs.Prelude.{◌&&◌, nat_le}
use Rattle.std.proofs.lemmas.Bool.{ltb-true, ltb-false, lt-ltb, le-leb}
use Rattle.fac_base.specs.declared.place.Place.{Place}
use Rattle.fac_source.specs.declared.token.Token.{Token}
use Rattle.fac_source.specs.declared.tree.Term.{Term}
use Rattle.fac_source.specs.declared.tree.Term.TheVariants as term
use Rattle.fac_source.specs.declared.tree.Element.{Element}
use Rattle.fac_source.specs.declared.tree.Element.TheVariants as element
use Rattle.fac_source.specs.declared.tree.Bracket.{Bracket}
use Rattle.fac_source.specs.declared.tree.Bracket.TheVariants.{Quotation, Array, Fry}
use Rattle.fac_parse.specs.declared.context.Around.{Around}
use Rattle.fac_parse.specs.declared.context.Around.TheVariants as in_a
use Rattle.fac_parse.specs.declared.context.Context.{Context}
use Rattle.fac_parse.specs.Contexts.{behind, bound, bound_in, closed, closed_in, counted_in, holed_in, inside, item_behind, locals_in, most_elements, most_holes, most_levels, most_locals, opened, opened_locals, opens_in, uncounted, uncounted_in}
use Rattle.fac_parse.specs.Trees.{IsElement}
use Rattle.fac_parse.specs.Nesting.{Node, single, enclosed, with_inputs, Nodes, nothing, more, closing, nodes_elements, node_elements, AreSpelled, IsSpelled, larger, levels, levels_of, IsElementOfArray, AreElementsOfArray, count, IsFilled, ArraysAreFilled, ArraysInAreFilled, one_more, scope_behind, MayBind, LocalsFit, LocalsInFit, holes, holes_of, MayHave, HolesFit, HolesInFit}

-- What is said of nodes, where they stand in a context and so many brackets are open.

abbrev pub HasRoom : Around → Nodes → Type 0
HasRoom (in_a.Array n) xs = AreElementsOfArray xs × (n + count xs ≤ most_elements)
HasRoom _ xs = Unit {0}

abbrev pub TakesHoles : Option ℕ → ℕ → Type 0
TakesHoles None n = n ≡ 0
TakesHoles (Some h) n = h + n ≤ most_holes

pub record Under (c : Context) (deep : ℕ) (xs : Nodes) : Type 0 where
  pub spelled : AreSpelled xs
  pub few : deep + levels xs ≤ most_levels
  pub room : HasRoom c.around xs
  pub arrays : ArraysAreFilled xs
  pub scope : LocalsFit c.locals xs
  pub fit : HolesFit xs
  pub taken : TakesHoles c.holes (holes xs)

abbrev pub HasRoomFor : Around → Node → Type 0
HasRoomFor (in_a.Array n) x = IsElementOfArray x × (n < most_elements)
HasRoomFor _ x = Unit {0}

pub record UnderOne (c : Context) (deep : ℕ) (x : Node) : Type 0 where
  pub spelled : IsSpelled x
  pub few : deep + levels_of x ≤ most_levels
  pub room : HasRoomFor c.around x
  pub arrays : ArraysInAreFilled x
  pub scope : LocalsInFit c.locals x
  pub fit : HolesInFit x
  pub taken : TakesHoles c.holes (holes_of x)

-- The context behind them.

abbrev pub AroundBehind : Around → ℕ → Around → Type 0
AroundBehind (in_a.Array n) k a = a ≡ in_a.Array (n + k)
AroundBehind in_a.Items k a = a ≡ in_a.Items
AroundBehind in_a.Fry k a = a ≡ in_a.Fry

abbrev pub HolesBehind : Option ℕ → ℕ → Option ℕ → Type 0
HolesBehind None k o = o ≡ None
HolesBehind (Some h) k o = o ≡ Some (h + k)

pub record BehindOne (c : Context) (x : Node) (d : Context) : Type 0 where
  pub around_is : AroundBehind c.around 1 d.around
  pub scope_is : d.locals ≡ scope_behind c.locals x
  pub holes_are : HolesBehind c.holes (holes_of x) d.holes

pub record BehindAll (c : Context) (xs : Nodes) (d : Context) : Type 0 where
  pub around_is : AroundBehind c.around (count xs) d.around
  pub holes_are : HolesBehind c.holes (holes xs) d.holes

-- One before others.

larger_both : (m n k j : ℕ) → k + larger m n ≤ j → (k + m ≤ j) × (k + n ≤ j)
larger_both m n k j h = go (nat_lt m n) refl h
  where
    go : (b : Bool) → nat_lt m n ≡ b → k + cond b n m ≤ j → (k + m ≤ j) × (k + n ≤ j)
    go true e h = let lt = ltb-true m n e in (omega (arith, lt, h), h)
    go false e h = let ge = ltb-false m n e in (h, omega (arith, ge, h))

pub larger_of_both : (m n k j : ℕ) → k + m ≤ j → k + n ≤ j → k + larger m n ≤ j
larger_of_both m n k j f g = go (nat_lt m n)
  where
    go : (b : Bool) → k + cond b n m ≤ j
    go true = g
    go false = f

room_more : (a : Around) (x : Node) (xs : Nodes) (b : Around) → HasRoomFor a x → AroundBehind a 1 b → HasRoom b xs → HasRoom a (more x xs)
room_more in_a.Items x xs b h e r = tt
room_more in_a.Fry x xs b h e r = tt
room_more (in_a.Array n) x xs b h e r = let s : HasRoom (in_a.Array (n + 1)) xs = subst (λ (a : Around). HasRoom a xs) e r in ((h.0, s.0), omega (arith, s.1))

room_first : (a : Around) (x : Node) (xs : Nodes) → HasRoom a (more x xs) → HasRoomFor a x
room_first in_a.Items x xs h = tt
room_first in_a.Fry x xs h = tt
room_first (in_a.Array n) x xs h = (h.0.0, omega (arith, h.1))

room_rest : (a : Around) (x : Node) (xs : Nodes) (b : Around) → HasRoom a (more x xs) → AroundBehind a 1 b → HasRoom b xs
room_rest in_a.Items x xs b h e = subst (λ (a : Around). HasRoom a xs) (sym e) tt
room_rest in_a.Fry x xs b h e = subst (λ (a : Around). HasRoom a xs) (sym e) tt
room_rest (in_a.Array n) x xs b h e = let s : HasRoom (in_a.Array (n + 1)) xs = (h.0.1, omega (arith, h.1)) in subst (λ (a : Around). HasRoom a xs) (sym e) s

taken_more : (o : Option ℕ) (k n : ℕ) (p : Option ℕ) → TakesHoles o k → HolesBehind o k p → TakesHoles p n → TakesHoles o (k + n)
taken_more None k n p h e t = let s : TakesHoles None n = subst (λ (o : Option ℕ). TakesHoles o n) e t in omega (arith, h, s)
taken_more (Some m) k n p h e t = let s : TakesHoles (Some (m + k)) n = subst (λ (o : Option ℕ). TakesHoles o n) e t in omega (arith, s)

taken_first : (o : Option ℕ) (k n : ℕ) → TakesHoles o (k + n) → TakesHoles o k
taken_first None k n h = omega (arith, h)
taken_first (Some m) k n h = omega (arith, h)

taken_rest : (o : Option ℕ) (k n : ℕ) (p : Option ℕ) → TakesHoles o (k + n) → HolesBehind o k p → TakesHoles p n
taken_rest None k n p h e = let s : TakesHoles None n = omega (arith, h) in subst (λ (o : Option ℕ). TakesHoles o n) (sym e) s
taken_rest (Some m) k n p h e = let s : TakesHoles (Some (m + k)) n = omega (arith, h) in subst (λ (o : Option ℕ). TakesHoles o n) (sym e) s

around_more : (a : Around) (k : ℕ) (b d : Around) → AroundBehind a 1 b → AroundBehind b k d → AroundBehind a (suc k) d
around_more in_a.Items k b d e f = subst (λ (a : Around). AroundBehind a k d) e f
around_more in_a.Fry k b d e f = subst (λ (a : Around). AroundBehind a k d) e f
around_more (in_a.Array n) k b d e f = let s : AroundBehind (in_a.Array (n + 1)) k d = subst (λ (a : Around). AroundBehind a k d) e f in s ∙ ap in_a.Array (omega arith)

holes_more : (o : Option ℕ) (k n : ℕ) (p q : Option ℕ) → HolesBehind o k p → HolesBehind p n q → HolesBehind o (k + n) q
holes_more None k n p q e f = subst (λ (o : Option ℕ). HolesBehind o n q) e f
holes_more (Some m) k n p q e f = let s : HolesBehind (Some (m + k)) n q = subst (λ (o : Option ℕ). HolesBehind o n q) e f in s ∙ ap Some (omega arith)

pub around_same : (a : Around) → AroundBehind a 0 a
around_same in_a.Items = refl
around_same in_a.Fry = refl
around_same (in_a.Array n) = ap in_a.Array (omega arith)

pub no_holes : (o p : Option ℕ) → p ≡ o → HolesBehind o 0 p
no_holes None p e = e
no_holes (Some h) p e = e ∙ ap Some (omega arith)

pub under_more : (c d : Context) (deep : ℕ) (x : Node) (xs : Nodes) → UnderOne c deep x → BehindOne c x d → Under d deep xs → Under c deep (more x xs)
under_more c d deep x xs u b v = record {
  spelled = (u.spelled, v.spelled);
  few = larger_of_both (levels_of x) (levels xs) deep most_levels u.few v.few;
  room = room_more c.around x xs d.around u.room b.around_is v.room;
  arrays = (u.arrays, v.arrays);
  scope = (u.scope, subst (λ (o : Option ℕ). LocalsFit o xs) b.scope_is v.scope);
  fit = (u.fit, v.fit);
  taken = taken_more c.holes (holes_of x) (holes xs) d.holes u.taken b.holes_are v.taken;
}

pub under_first : (c : Context) (deep : ℕ) (x : Node) (xs : Nodes) → Under c deep (more x xs) → UnderOne c deep x
under_first c deep x xs u = record {
  spelled = u.spelled.0;
  few = (larger_both (levels_of x) (levels xs) deep most_levels u.few).0;
  room = room_first c.around x xs u.room;
  arrays = u.arrays.0;
  scope = u.scope.0;
  fit = u.fit.0;
  taken = taken_first c.holes (holes_of x) (holes xs) u.taken;
}

under_rest : (c d : Context) (deep : ℕ) (x : Node) (xs : Nodes) → Under c deep (more x xs) → BehindOne c x d → Under d deep xs
under_rest c d deep x xs u b = record {
  spelled = u.spelled.1;
  few = (larger_both (levels_of x) (levels xs) deep most_levels u.few).1;
  room = room_rest c.around x xs d.around u.room b.around_is;
  arrays = u.arrays.1;
  scope = subst (λ (o : Option ℕ). LocalsFit o xs) (sym b.scope_is) u.scope.1;
  fit = u.fit.1;
  taken = taken_rest c.holes (holes_of x) (holes xs) d.holes u.taken b.holes_are;
}

pub behind_more : (c d e : Context) (x : Node) (xs : Nodes) → BehindOne c x d → BehindAll d xs e → BehindAll c (more x xs) e
behind_more c d e x xs b f = record {
  around_is = around_more c.around (count xs) d.around e.around b.around_is f.around_is;
  holes_are = holes_more c.holes (holes_of x) (holes xs) d.holes e.holes b.holes_are f.holes_are;
}

-- One more element counts, and changes nothing else.

pub record Counts (c d : Context) : Type 0 where
  pub around_is : AroundBehind c.around 1 d.around
  pub locals_are : d.locals ≡ c.locals
  pub holes_are : d.holes ≡ c.holes

pub record Counted (c : Context) (cs : List Context) (next : Option (List Context)) : Type 0 where
  pub context : Context
  pub counts : Counts c context
  pub is : next ≡ Some (context ∷ cs)

pub same_counts : (a : Around) (c : Context) → c.around ≡ a → AroundBehind a 1 a → Counts c c
same_counts a c e h = record { around_is = subst (λ (b : Around). AroundBehind b 1 b) (sym e) h; locals_are = refl; holes_are = refl }

counted_there : (a : Around) (c : Context) (cs : List Context) (x : Node) → c.around ≡ a → HasRoomFor a x → Counted c cs (counted_in a c cs)
counted_there in_a.Items c cs x e h = record { context = c; counts = same_counts in_a.Items c e refl; is = refl }
counted_there in_a.Fry c cs x e h = record { context = c; counts = same_counts in_a.Fry c e refl; is = refl }
counted_there (in_a.Array n) c cs x e h =
    let d : Context = record c { around = in_a.Array (n + 1) } in
    record { context = d; counts = record { around_is = subst (λ (b : Around). AroundBehind b 1 (in_a.Array (n + 1))) (sym e) refl; locals_are = refl; holes_are = refl }; is = ap (λ (b : Bool). cond b (Some (d ∷ cs)) None) (lt-ltb n most_elements h.1) }

uncounted_there : (a : Around) (c : Context) (cs : List Context) (x : Node) → c.around ≡ a → (IsElementOfArray x → ⊥) → HasRoomFor a x → (uncounted_in a c cs ≡ Some (c ∷ cs)) × Counts c c
uncounted_there in_a.Items c cs x e other h = (refl, same_counts in_a.Items c e refl)
uncounted_there in_a.Fry c cs x e other h = (refl, same_counts in_a.Fry c e refl)
uncounted_there (in_a.Array n) c cs x e other h = absurd (other h.0)

-- An item without a bracket passes where it may stand.

pub record Passes (c : Context) (cs : List Context) (x : Node) (next : Option (List Context)) : Type 0 where
  pub context : Context
  pub behind_it : BehindOne c x context
  pub is : next ≡ Some (context ∷ cs)

counting : (c : Context) (cs : List Context) (x : Node) (next : Option (List Context)) → Counted c cs next → scope_behind c.locals x ≡ c.locals → holes_of x ≡ 0 → Passes c cs x next
counting c cs x next k s h = record {
  context = k.context;
  behind_it = record { around_is = k.counts.around_is; scope_is = k.counts.locals_are ∙ sym s; holes_are = subst (λ (n : ℕ). HolesBehind c.holes n k.context.holes) (sym h) (no_holes c.holes k.context.holes k.counts.holes_are) };
  is = k.is;
}

staying : (c : Context) (cs : List Context) (x : Node) → (uncounted_in c.around c cs ≡ Some (c ∷ cs)) × Counts c c → scope_behind c.locals x ≡ c.locals → holes_of x ≡ 0 → Passes c cs x (uncounted_in c.around c cs)
staying c cs x k s h = counting c cs x (uncounted_in c.around c cs) (record { context = c; counts = k.1; is = k.0 }) s h

binding : (o : Option ℕ) (c : Context) (cs : List Context) (sign : Place) (name : Token) → c.locals ≡ o → MayBind o → Counts c c → Passes c cs (single (term.Bind sign name)) (bound_in o c cs)
binding None c cs sign name e h k = absurd h
binding (Some n) c cs sign name e h k =
    let d : Context = record c { locals = Some (n + 1) } in
    record { context = d; behind_it = record { around_is = k.around_is; scope_is = sym (ap one_more e); holes_are = no_holes c.holes c.holes refl }; is = ap (λ (b : Bool). cond b (Some (d ∷ cs)) None) (lt-ltb n most_locals h) }

holing : (o : Option ℕ) (c : Context) (cs : List Context) (x : Node) → c.holes ≡ o → holes_of x ≡ 1 → scope_behind c.locals x ≡ c.locals → TakesHoles o 1 → Counts c c → Passes c cs x (holed_in o c cs)
holing None c cs x e one s h k = absurd (omega (arith, h))
holing (Some n) c cs x e one s h k =
    let d : Context = record c { holes = Some (n + 1) } in
    record { context = d; behind_it = record { around_is = k.around_is; scope_is = sym s; holes_are = subst (λ (m : ℕ). HolesBehind c.holes m (Some (n + 1))) (sym one) (subst (λ (p : Option ℕ). HolesBehind p 1 (Some (n + 1))) (sym e) refl) }; is = ap (λ (b : Bool). cond b (Some (d ∷ cs)) None) (lt-ltb n most_holes (omega (arith, h))) }

bound_there : (o : Option (List Context)) (c : Context) (cs : List Context) (sign : Place) (name : Token) → o ≡ Some (c ∷ cs) → Passes c cs (single (term.Bind sign name)) (bound_in c.locals c cs) → Passes c cs (single (term.Bind sign name)) (bound o)
bound_there o c cs sign name e p = subst (λ (q : Option (List Context)). Passes c cs (single (term.Bind sign name)) (bound q)) (sym e) p

term_passes : (c : Context) (cs : List Context) (deep : ℕ) (t : Term) → UnderOne c deep (single t) → Passes c cs (single t) (item_behind (c ∷ cs) t)
term_passes c cs deep (term.Name token) u = counting c cs (single (term.Name token)) (counted_in c.around c cs) (counted_there c.around c cs (single (term.Name token)) refl u.room) refl refl
term_passes c cs deep (term.Wrapped sign name) u = counting c cs (single (term.Wrapped sign name)) (counted_in c.around c cs) (counted_there c.around c cs (single (term.Wrapped sign name)) refl u.room) refl refl
term_passes c cs deep (term.EffectCall callee sign tokens height) u = staying c cs (single (term.EffectCall callee sign tokens height)) (uncounted_there c.around c cs (single (term.EffectCall callee sign tokens height)) refl (λ h. h) u.room) refl refl
term_passes c cs deep (term.Literal token l) u = counting c cs (single (term.Literal token l)) (counted_in c.around c cs) (counted_there c.around c cs (single (term.Literal token l)) refl u.room) refl refl
term_passes c cs deep (term.NextMethod place) u = staying c cs (single (term.NextMethod place)) (uncounted_there c.around c cs (single (term.NextMethod place)) refl (λ h. h) u.room) refl refl
term_passes c cs deep (term.Bind sign name) u =
    let stays = uncounted_there c.around c cs (single (term.Bind sign name)) refl (λ h. h) u.room in
    bound_there (uncounted_in c.around c cs) c cs sign name stays.0 (binding c.locals c cs sign name refl u.scope stays.1)
term_passes c cs deep (term.Hole place) u = holing c.holes c cs (single (term.Hole place)) refl refl refl u.taken (uncounted_there c.around c cs (single (term.Hole place)) refl (λ h. h) u.room).1
term_passes c cs deep (term.CalledHole place) u = holing c.holes c cs (single (term.CalledHole place)) refl refl refl u.taken (uncounted_there c.around c cs (single (term.CalledHole place)) refl (λ h. h) u.room).1

-- A bracket opens where it may stand.

pub record Opens (c : Context) (cs : List Context) (bracket : Bracket) (xs : Nodes) (next : Option (List Context)) : Type 0 where
  pub outer : Context
  pub counts : Counts c outer
  pub under : Under (inside bracket outer) (suc (length cs)) xs
  pub is : next ≡ Some (inside bracket outer ∷ outer ∷ cs)

room_inside : (bracket : Bracket) (outer : Context) (xs : Nodes) → IsFilled bracket xs → HasRoom (inside bracket outer).around xs
room_inside Quotation outer xs h = tt
room_inside Fry outer xs h = tt
room_inside Array outer xs h = (h.0, omega (arith, h.1))

locals_inside : (bracket : Bracket) (outer : Context) → (inside bracket outer).locals ≡ outer.locals
locals_inside Quotation outer = refl
locals_inside Fry outer = refl
locals_inside Array outer = refl

taken_inside : (bracket : Bracket) (c outer : Context) (opens : Place) (xs : Nodes) (closes : Place) → outer.holes ≡ c.holes → MayHave bracket (holes xs) → TakesHoles c.holes (holes_of (enclosed bracket opens xs closes)) → TakesHoles (inside bracket outer).holes (holes xs)
taken_inside Quotation c outer opens xs closes e h t = subst (λ (o : Option ℕ). TakesHoles o (holes xs)) (sym e) t
taken_inside Fry c outer opens xs closes e h t = omega (arith, h)
taken_inside Array c outer opens xs closes e h t = h

opens_so : (c : Context) (cs : List Context) (bracket : Bracket) (opens : Place) (xs : Nodes) (closes : Place) (o : Option (List Context)) → UnderOne c (length cs) (enclosed bracket opens xs closes) → Counted c cs o → Opens c cs bracket xs (opened bracket o)
opens_so c cs bracket opens xs closes o u k =
    let d = k.context in
    let low : length cs < most_levels = omega (arith, u.few) in
    record {
      outer = d;
      counts = k.counts;
      under = record {
        spelled = u.spelled;
        few = omega (arith, u.few);
        room = room_inside bracket d xs u.arrays.0;
        arrays = u.arrays.1;
        scope = subst (λ (p : Option ℕ). LocalsFit p xs) (sym (locals_inside bracket d ∙ k.counts.locals_are)) u.scope;
        fit = u.fit.1;
        taken = taken_inside bracket c d opens xs closes k.counts.holes_are u.fit.0 u.taken;
      };
      is = ap (opened bracket) k.is ∙ ap (λ (b : Bool). cond b (Some (inside bracket d ∷ d ∷ cs)) None) (lt-ltb (length cs) most_levels low);
    }

pub opens_there : (c : Context) (cs : List Context) (bracket : Bracket) (opens : Place) (xs : Nodes) (closes : Place) → UnderOne c (length cs) (enclosed bracket opens xs closes) → Opens c cs bracket xs (opened bracket (opens_in bracket (c ∷ cs)))
opens_there c cs Quotation opens xs closes u = opens_so c cs Quotation opens xs closes (counted_in c.around c cs) u (counted_there c.around c cs (enclosed Quotation opens xs closes) refl u.room)
opens_there c cs Array opens xs closes u = opens_so c cs Array opens xs closes (counted_in c.around c cs) u (counted_there c.around c cs (enclosed Array opens xs closes) refl u.room)
opens_there c cs Fry opens xs closes u =
    let k = uncounted_there c.around c cs (enclosed Fry opens xs closes) refl (λ h. h) u.room in
    opens_so c cs Fry opens xs closes (uncounted_in c.around c cs) u (record { context = c; counts = k.1; is = k.0 })

-- and closes.
pub closes_there : (c outer : Context) (cs : List Context) (bracket : Bracket) (opens : Place) (xs : Nodes) (closes : Place) (d : Context) → Counts c outer → BehindAll (inside bracket outer) xs d → Passes c cs (enclosed bracket opens xs closes) (closed (d ∷ outer ∷ cs) (closing bracket))
closes_there c outer cs Quotation opens xs closes d k b = record {
  context = record outer { holes = d.holes };
  behind_it = record { around_is = k.around_is; scope_is = k.locals_are; holes_are = subst (λ (o : Option ℕ). HolesBehind o (holes xs) d.holes) k.holes_are b.holes_are };
  is = ap (λ (a : Around). closed_in a Quotation d outer cs) b.around_is;
}
closes_there c outer cs Array opens xs closes d k b = record {
  context = outer;
  behind_it = record { around_is = k.around_is; scope_is = k.locals_are; holes_are = no_holes c.holes outer.holes k.holes_are };
  is = ap (λ (a : Around). closed_in a Array d outer cs) b.around_is;
}
closes_there c outer cs Fry opens xs closes d k b = record {
  context = outer;
  behind_it = record { around_is = k.around_is; scope_is = k.locals_are; holes_are = no_holes c.holes outer.holes k.holes_are };
  is = ap (λ (a : Around). closed_in a Quotation d outer cs) b.around_is;
}

-- A quotation with locals.

abbrev pub inside_locals : ℕ → Context → Context
inside_locals k c = record c { around = in_a.Items; locals = Some (locals_in c.locals + k) }

pub record OpensLocals (c : Context) (cs : List Context) (k : ℕ) (xs : Nodes) (next : Option (List Context)) : Type 0 where
  pub counts : Counts c c
  pub under : Under (inside_locals k c) (suc (length cs)) xs
  pub is : next ≡ Some (inside_locals k c ∷ c ∷ cs)

locals_open : (c : Context) (cs : List Context) (opens : Place) (names : List Token) (bar : Place) (xs : Nodes) (closes : Place) → UnderOne c (length cs) (with_inputs opens names bar xs closes) → OpensLocals c cs (length names) xs (opened_locals (length names) (uncounted (c ∷ cs)))
locals_open c cs opens names bar xs closes u =
    let k = length names in
    let stays = uncounted_there c.around c cs (with_inputs opens names bar xs closes) refl (λ h. h) u.room in
    let low : length cs < most_levels = omega (arith, u.few) in
    let test : (nat_lt (length cs) most_levels && nat_le (locals_in c.locals + k) most_locals) ≡ true = rw (lt-ltb (length cs) most_levels low, le-leb (locals_in c.locals + k) most_locals u.scope.0) refl in
    record {
      counts = stays.1;
      under = record { spelled = u.spelled.1; few = omega (arith, u.few); room = tt; arrays = u.arrays; scope = u.scope.1; fit = u.fit; taken = u.taken };
      is = ap (opened_locals k) stays.0 ∙ ap (λ (b : Bool). cond b (Some (inside_locals k c ∷ c ∷ cs)) None) test;
    }

pub locals_close : (c : Context) (cs : List Context) (opens : Place) (names : List Token) (bar : Place) (xs : Nodes) (closes : Place) (d : Context) → Counts c c → BehindAll (inside_locals (length names) c) xs d → Passes c cs (with_inputs opens names bar xs closes) (closed (d ∷ c ∷ cs) Quotation)
locals_close c cs opens names bar xs closes d k b = record {
  context = record c { holes = d.holes };
  behind_it = record { around_is = k.around_is; scope_is = refl; holes_are = b.holes_are };
  is = ap (λ (a : Around). closed_in a Quotation d c cs) b.around_is;
}

-- What leads from contexts through elements, one by one, where so many contexts are around.
module _ (Goes : List Context → List Element → Type 0) (Within : List Context → Type 0) (within : (c : Context) (cs : List Context) → Within (c ∷ cs)) (build : (c : Context) (cs : List Context) (e : Element) (es : List Element) (next : List Context) → Within cs → IsElement e → behind (c ∷ cs) e ≡ Some next → Goes next es → Goes (c ∷ cs) (e ∷ es)) where
  pub record Leads (c : Context) (cs : List Context) (xs : Nodes) : Type 0 where
    pub context : Context
    pub behind_them : BehindAll c xs context
    pub go : (rest : List Element) → Goes (context ∷ cs) rest → Goes (c ∷ cs) (nodes_elements xs ++ rest)

  pub record LeadsOne (c : Context) (cs : List Context) (x : Node) : Type 0 where
    pub context : Context
    pub behind_it : BehindOne c x context
    pub go : (rest : List Element) → Goes (context ∷ cs) rest → Goes (c ∷ cs) (node_elements x ++ rest)

  pub is_closing : (bracket : Bracket) (closes : Place) → IsElement (element.Closes (closing bracket) closes)
  is_closing Quotation closes = tt
  is_closing Array closes = tt
  is_closing Fry closes = tt

  mutual
    pub leads : (c : Context) (cs : List Context) (xs : Nodes) → Within cs → Under c (length cs) xs → Leads c cs xs
    leads c cs nothing w u = record { context = c; behind_them = record { around_is = around_same c.around; holes_are = no_holes c.holes c.holes refl }; go = λ (rest : List Element) (g : Goes (c ∷ cs) rest). g }
    leads c cs (more x xs) w u =
        let one = leads_one c cs x w (under_first c (length cs) x xs u) in
        let all = leads one.context cs xs w (under_rest c one.context (length cs) x xs u one.behind_it) in
        record {
          context = all.context;
          behind_them = behind_more c one.context all.context x xs one.behind_it all.behind_them;
          go = λ (rest : List Element) (g : Goes (all.context ∷ cs) rest). subst (Goes (c ∷ cs)) (sym (append_assoc (node_elements x) (nodes_elements xs) rest)) (one.go (nodes_elements xs ++ rest) (all.go rest g));
        }

    leads_one : (c : Context) (cs : List Context) (x : Node) → Within cs → UnderOne c (length cs) x → LeadsOne c cs x
    leads_one c cs (single t) w u =
        let p = term_passes c cs (length cs) t u in
        record { context = p.context; behind_it = p.behind_it; go = λ (rest : List Element) (g : Goes (p.context ∷ cs) rest). build c cs (element.Item t) rest (p.context ∷ cs) w u.spelled p.is g }
    leads_one c cs (enclosed bracket opens xs closes) w u =
        let o = opens_there c cs bracket opens xs closes u in
        let inner = leads (inside bracket o.outer) (o.outer ∷ cs) xs (within o.outer cs) o.under in
        let p = closes_there c o.outer cs bracket opens xs closes inner.context o.counts inner.behind_them in
        let last : Element = element.Closes (closing bracket) closes in
        record {
          context = p.context;
          behind_it = p.behind_it;
          go = λ (rest : List Element) (g : Goes (p.context ∷ cs) rest).
              build c cs (element.Opens bracket opens) ((nodes_elements xs ++ last ∷ []) ++ rest) (inside bracket o.outer ∷ o.outer ∷ cs) w tt o.is
              (subst (Goes (inside bracket o.outer ∷ o.outer ∷ cs)) (sym (append_assoc (nodes_elements xs) (last ∷ []) rest)) (inner.go (last ∷ rest) (build inner.context (o.outer ∷ cs) last rest (p.context ∷ cs) (within o.outer cs) (is_closing bracket closes) p.is g)));
        }
    leads_one c cs (with_inputs opens names bar xs closes) w u =
        let k = length names in
        let o = locals_open c cs opens names bar xs closes u in
        let inner = leads (inside_locals k c) (c ∷ cs) xs (within c cs) o.under in
        let p = locals_close c cs opens names bar xs closes inner.context o.counts inner.behind_them in
        let last : Element = element.Closes Quotation closes in
        record {
          context = p.context;
          behind_it = p.behind_it;
          go = λ (rest : List Element) (g : Goes (p.context ∷ cs) rest).
              build c cs (element.OpensLocals opens names bar) ((nodes_elements xs ++ last ∷ []) ++ rest) (inside_locals k c ∷ c ∷ cs) w u.spelled.0 o.is
              (subst (Goes (inside_locals k c ∷ c ∷ cs)) (sym (append_assoc (nodes_elements xs) (last ∷ []) rest)) (inner.go (last ∷ rest) (build inner.context (c ∷ cs) last rest (p.context ∷ cs) (within c cs) tt p.is g)));
        }
