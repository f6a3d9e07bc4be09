-- Elements whose brackets match.
use Rattle.std.proofs.Common.{◌≡◌, ◌+◌, ℕ, nat_lt, Option, List, [], ◌∷◌, length, map, Some, None, Bool, true, false, cond, refl, ap, sym, ◌∙◌, subst}
use Rattle.std.specs.Prelude.{◌&&◌, ℤ, is_some, nat_le}
use Rattle.fac_lang.specs.Whole.{is_small}
use Rattle.fac_base.specs.declared.height.Height.{Height}
use Rattle.fac_base.specs.declared.place.Place.{Place}
use Rattle.fac_source.specs.declared.token.Token.{Token}
use Rattle.fac_source.specs.declared.tree.Element.{Element}
use Rattle.fac_source.specs.declared.tree.Element.TheVariants as element
use Rattle.fac_source.specs.declared.tree.Bracket.{Bracket}
use Rattle.fac_source.specs.declared.tree.Bracket.TheVariants.{Quotation, Array, Fry}
use Rattle.fac_source.specs.declared.tree.Callee.{Callee}
use Rattle.fac_source.specs.declared.tree.Part.TheVariants as part
use Rattle.fac_source.specs.declared.tree.WrittenEffect.{WrittenEffect}
use Rattle.fac_source.specs.declared.tree.Literal.{Literal}
use Rattle.fac_source.specs.declared.tree.Term.{Term}
use Rattle.fac_source.specs.declared.tree.Term.TheVariants as term
use Rattle.fac_effect.specs.RowlessEffects.{opened_tokens}
use Rattle.fac_parse.specs.declared.context.Around.{Around}
use Rattle.fac_parse.specs.declared.context.Around.TheVariants as stands_in
use Rattle.fac_parse.specs.declared.context.Context.{Context}
use Rattle.fac_parse.specs.Contexts.{behind, bound, bound_in, closed, closed_in, counted, counted_in, holed, holed_in, inside, item_behind, items_in, locals_in, most_elements, most_holes, most_levels, most_locals, opened, opened_locals, opens_in, uncounted, uncounted_in}
use Rattle.fac_parse.specs.Trees.{Lead, AreItems, Encloses, IsElement, IsLiteral, IsTerm, inputs_of}
use Rattle.fac_items.specs.Written.{Node, n_locals, Nodes, nothing, more}
use Rattle.fac_items.specs.FromElements.{AreClosing, IsInFry, MayStand, bracketed, nested, node, open_behind, opened as open_before, rests, tok}
use Rattle.fac_names.specs.FromFlat.{first_node}
use Rattle.fac_names.proofs.EffectCounts.{small_height}

-- What counts of a context here: its bracket, where items as a whole stand as those of a quotation do, and whether it counts holes.
pub record Seen : Type 0 where
  pub kind : Bracket
  pub holes : Bool

abbrev pub kind_of : Around → Bracket
kind_of stands_in.Items = Quotation
kind_of stands_in.Fry = Fry
kind_of (stands_in.Array n) = Array

abbrev pub seen : Context → Seen
seen c = record { kind = kind_of c.around; holes = is_some c.holes }

abbrev pub seen_all : List Context → List Seen
seen_all cs = map seen cs

-- the contexts of these brackets, and that of the whole behind them; holes are counted only where a fry is around
abbrev pub Stand : List Seen → List Bracket → Type 0
Stand [] bs = ⊥
Stand (x ∷ []) bs = (bs ≡ []) × (x.kind ≡ Quotation) × (x.holes ≡ false)
Stand (x ∷ y ∷ xs) [] = ⊥
Stand (x ∷ y ∷ xs) (b ∷ bs) = (x.kind ≡ b) × (x.holes ≡ true → IsInFry (b ∷ bs)) × Stand (y ∷ xs) bs

holes_stand : (x : Seen) (xs : List Seen) (bs : List Bracket) → Stand (x ∷ xs) bs → x.holes ≡ true → IsInFry bs
holes_stand x [] bs h k = absurd (no_truth (sym k ∙ h.2))
  where
    no_truth : true ≡ false → ⊥
    no_truth e = cc
holes_stand x (y ∷ xs) [] h k = absurd h
holes_stand x (y ∷ xs) (b ∷ bs) h k = h.1 k

-- Where no array is directly around.

abbrev NoArray : List Bracket → Type 0
NoArray (Array ∷ bs) = ⊥
NoArray _ = Unit {0}

no_array : (x : Seen) (xs : List Seen) (bs : List Bracket) → Stand (x ∷ xs) bs → (x.kind ≡ Array → ⊥) → NoArray bs
no_array x xs [] h k = tt
no_array x [] (b ∷ bs) h k = absurd (no_more h.0)
  where
    no_more : b ∷ bs ≡ [] → ⊥
    no_more e = cc
no_array x (y ∷ xs) (Quotation ∷ bs) h k = tt
no_array x (y ∷ xs) (Fry ∷ bs) h k = tt
no_array x (y ∷ xs) (Array ∷ bs) h k = k h.0

-- Elements that leave the brackets as they are.

counted_seen : (a : Around) (c : Context) (cs next : List Context) → c.around ≡ a → counted_in a c cs ≡ Some next → seen_all next ≡ seen_all (c ∷ cs)
counted_seen stands_in.Items c cs next e h = let same : next ≡ c ∷ cs = cc in ap seen_all same
counted_seen stands_in.Fry c cs next e h = let same : next ≡ c ∷ cs = cc in ap seen_all same
counted_seen (stands_in.Array n) c cs next e h = array (nat_lt n most_elements) h
  where
    array : (b : Bool) → cond b (Some ((record c { around = stands_in.Array (n + 1) }) ∷ cs)) None ≡ Some next → seen_all next ≡ seen_all (c ∷ cs)
    array true k =
        let same : next ≡ (record c { around = stands_in.Array (n + 1) }) ∷ cs = cc in
        ap seen_all same ∙ ap (λ (k : Bracket). (record { kind = k; holes = is_some c.holes }) ∷ seen_all cs) (sym (ap kind_of e))
    array false k = absurd (cc)

all_counted : (cs next : List Context) → counted cs ≡ Some next → seen_all next ≡ seen_all cs
all_counted [] next h = absurd (cc)
all_counted (c ∷ cs) next h = counted_seen c.around c cs next refl h

record IsUncounted (cs next : List Context) (bs : List Bracket) : Type 0 where
  same : next ≡ cs
  no_array : NoArray bs

uncounted_is : (a : Around) (c : Context) (cs next : List Context) (bs : List Bracket) → c.around ≡ a → Stand (seen_all (c ∷ cs)) bs → uncounted_in a c cs ≡ Some next → IsUncounted (c ∷ cs) next bs
uncounted_is stands_in.Items c cs next bs e s h = record { same = cc; no_array = no_array (seen c) (seen_all cs) bs s (λ k. other (sym (ap kind_of e) ∙ k)) }
  where
    other : Quotation ≡ Array → ⊥
    other f = cc
uncounted_is stands_in.Fry c cs next bs e s h = record { same = cc; no_array = no_array (seen c) (seen_all cs) bs s (λ k. other (sym (ap kind_of e) ∙ k)) }
  where
    other : Fry ≡ Array → ⊥
    other f = cc
uncounted_is (stands_in.Array n) c cs next bs e s h = absurd (cc)

all_uncounted : (cs next : List Context) (bs : List Bracket) → Stand (seen_all cs) bs → uncounted cs ≡ Some next → IsUncounted cs next bs
all_uncounted [] next bs s h = absurd (cc)
all_uncounted (c ∷ cs) next bs s h = uncounted_is c.around c cs next bs refl s h

bound_seen : (o : Option ℕ) (c : Context) (cs next : List Context) → bound_in o c cs ≡ Some next → seen_all next ≡ seen_all (c ∷ cs)
bound_seen None c cs next h = absurd (cc)
bound_seen (Some n) c cs next h = one (nat_lt n most_locals) h
  where
    one : (b : Bool) → cond b (Some ((record c { locals = Some (n + 1) }) ∷ cs)) None ≡ Some next → seen_all next ≡ seen_all (c ∷ cs)
    one true k = let same : next ≡ (record c { locals = Some (n + 1) }) ∷ cs = cc in ap seen_all same
    one false k = absurd (cc)

-- a local that is bound
record IsBoundAt (cs next : List Context) (bs : List Bracket) : Type 0 where
  same : seen_all next ≡ seen_all cs
  no_array : NoArray bs

all_bound : (o : Option (List Context)) (cs next : List Context) (bs : List Bracket) → Stand (seen_all cs) bs → uncounted cs ≡ o → bound o ≡ Some next → IsBoundAt cs next bs
all_bound None cs next bs s e h = absurd (cc)
all_bound (Some []) cs next bs s e h = absurd (cc)
all_bound (Some (c ∷ ds)) cs next bs s e h = let u = all_uncounted cs (c ∷ ds) bs s e in record { same = bound_seen c.locals c ds next h ∙ ap seen_all u.same; no_array = u.no_array }

record IsHoled (cs next : List Context) (bs : List Bracket) : Type 0 where
  same : seen_all next ≡ seen_all cs
  fry : IsInFry bs

holed_is : (o : Option ℕ) (c : Context) (cs next : List Context) (bs : List Bracket) → c.holes ≡ o → Stand (seen_all (c ∷ cs)) bs → holed_in o c cs ≡ Some next → IsHoled (c ∷ cs) next bs
holed_is None c cs next bs e s h = absurd (cc)
holed_is (Some n) c cs next bs e s h = one (nat_lt n most_holes) h
  where
    one : (b : Bool) → cond b (Some ((record c { holes = Some (n + 1) }) ∷ cs)) None ≡ Some next → IsHoled (c ∷ cs) next bs
    one true k =
        let is : next ≡ (record c { holes = Some (n + 1) }) ∷ cs = cc in
        record { same = ap seen_all is ∙ ap (λ (b : Bool). (record { kind = kind_of c.around; holes = b }) ∷ seen_all cs) (sym (ap is_some e)); fry = holes_stand (seen c) (seen_all cs) bs s (ap is_some e) }
    one false k = absurd (cc)

all_holed : (cs next : List Context) (bs : List Bracket) → Stand (seen_all cs) bs → holed cs ≡ Some next → IsHoled cs next bs
all_holed [] next bs s h = absurd (cc)
all_holed (c ∷ cs) next bs s h = holed_is c.holes c cs next bs refl s h

-- Items.

-- an element may stand, and what is open behind it
abbrev pub Steps : List Bracket → Element → List Context → Type 0
Steps bs e next = MayStand bs e × Stand (seen_all next) (open_behind bs e)

same_steps : (cs next : List Context) (bs : List Bracket) (t : Term) → MayStand bs (element.Item t) → Stand (seen_all cs) bs → seen_all next ≡ seen_all cs → Steps bs (element.Item t) next
same_steps cs next bs t m s e = (m, subst (λ (xs : List Seen). Stand xs bs) (sym e) s)

may_name : (bs : List Bracket) (t : Token) → MayStand bs (element.Item (term.Name t))
may_name [] t = tt
may_name (Quotation ∷ bs) t = tt
may_name (Fry ∷ bs) t = tt
may_name (Array ∷ bs) t = tt

may_wrapped : (bs : List Bracket) (p : Place) (t : Token) → MayStand bs (element.Item (term.Wrapped p t))
may_wrapped [] p t = tt
may_wrapped (Quotation ∷ bs) p t = tt
may_wrapped (Fry ∷ bs) p t = tt
may_wrapped (Array ∷ bs) p t = tt

may_test : (bs : List Bracket) (callee : Callee) (p : Place) (ts : List Token) (h : Height) → NoArray bs → is_small h ≡ true → MayStand bs (element.Item (term.EffectCall callee p ts h))
may_test [] callee p ts h none small = small
may_test (Quotation ∷ bs) callee p ts h none small = small
may_test (Fry ∷ bs) callee p ts h none small = small
may_test (Array ∷ bs) callee p ts h none small = absurd none

-- an effect has few names, so what it declares is small
test_small : (callee : Callee) (p : Place) (ts : List Token) (h : Height) → IsTerm (term.EffectCall callee p ts h) → is_small h ≡ true
test_small callee p ts h fits = ap is_small fits.2 ∙ small_height (opened_tokens p ts) fits.0 fits.1.is

may_literal : (bs : List Bracket) (t : Token) (l : Literal ℤ) → MayStand bs (element.Item (term.Literal t l))
may_literal [] t l = tt
may_literal (Quotation ∷ bs) t l = tt
may_literal (Fry ∷ bs) t l = tt
may_literal (Array ∷ bs) t l = tt

may_next : (bs : List Bracket) (p : Place) → NoArray bs → MayStand bs (element.Item (term.NextMethod p))
may_next [] p h = tt
may_next (Quotation ∷ bs) p h = tt
may_next (Fry ∷ bs) p h = tt
may_next (Array ∷ bs) p h = absurd h

may_bind : (bs : List Bracket) (p : Place) (t : Token) → NoArray bs → MayStand bs (element.Item (term.Bind p t))
may_bind [] p t h = tt
may_bind (Quotation ∷ bs) p t h = tt
may_bind (Fry ∷ bs) p t h = tt
may_bind (Array ∷ bs) p t h = absurd h

may_hole : (bs : List Bracket) (p : Place) → IsInFry bs → MayStand bs (element.Item (term.Hole p))
may_hole [] p h = absurd h
may_hole (Quotation ∷ bs) p h = h
may_hole (Fry ∷ bs) p h = tt
may_hole (Array ∷ bs) p h = absurd h

may_call : (bs : List Bracket) (p : Place) → IsInFry bs → MayStand bs (element.Item (term.CalledHole p))
may_call [] p h = absurd h
may_call (Quotation ∷ bs) p h = h
may_call (Fry ∷ bs) p h = tt
may_call (Array ∷ bs) p h = absurd h

item_steps : (cs next : List Context) (bs : List Bracket) (t : Term) → IsTerm t → Stand (seen_all cs) bs → item_behind cs t ≡ Some next → Steps bs (element.Item t) next
item_steps cs next bs (term.Name t) fits s h = same_steps cs next bs (term.Name t) (may_name bs t) s (all_counted cs next h)
item_steps cs next bs (term.Wrapped p t) fits s h = same_steps cs next bs (term.Wrapped p t) (may_wrapped bs p t) s (all_counted cs next h)
item_steps cs next bs (term.EffectCall callee p ts e) fits s h =
    let u = all_uncounted cs next bs s h in same_steps cs next bs (term.EffectCall callee p ts e) (may_test bs callee p ts e u.no_array (test_small callee p ts e fits)) s (ap seen_all u.same)
item_steps cs next bs (term.Literal t l) fits s h = same_steps cs next bs (term.Literal t l) (may_literal bs t l) s (all_counted cs next h)
item_steps cs next bs (term.NextMethod p) fits s h = let u = all_uncounted cs next bs s h in same_steps cs next bs (term.NextMethod p) (may_next bs p u.no_array) s (ap seen_all u.same)
item_steps cs next bs (term.Bind p t) fits s h = let u = all_bound (uncounted cs) cs next bs s refl h in same_steps cs next bs (term.Bind p t) (may_bind bs p t u.no_array) s u.same
item_steps cs next bs (term.Hole p) fits s h = let u = all_holed cs next bs s h in same_steps cs next bs (term.Hole p) (may_hole bs p u.fry) s u.same
item_steps cs next bs (term.CalledHole p) fits s h = let u = all_holed cs next bs s h in same_steps cs next bs (term.CalledHole p) (may_call bs p u.fry) s u.same

-- Brackets that open.

-- whether the innermost of more brackets counts holes only in a fry
inside_fry : (b : Bracket) (c : Context) (cs : List Context) (bs : List Bracket) → Stand (seen_all (c ∷ cs)) bs → (seen (inside b c)).holes ≡ true → IsInFry (b ∷ bs)
inside_fry Quotation c cs bs s h = holes_stand (seen c) (seen_all cs) bs s h
inside_fry Fry c cs bs s h = tt
inside_fry Array c cs bs s h = absurd (cc)

inside_kind : (b : Bracket) (c : Context) → (seen (inside b c)).kind ≡ b
inside_kind Quotation c = refl
inside_kind Fry c = refl
inside_kind Array c = refl

opened_stand : (test : Bool) (b : Bracket) (c : Context) (cs next : List Context) (bs : List Bracket) → Stand (seen_all (c ∷ cs)) bs → cond test (Some (inside b c ∷ c ∷ cs)) None ≡ Some next → Stand (seen_all next) (b ∷ bs)
opened_stand true b c cs next bs s h =
    let is : next ≡ inside b c ∷ c ∷ cs = cc in
    subst (λ (xs : List Context). Stand (seen_all xs) (b ∷ bs)) (sym is) (inside_kind b c, inside_fry b c cs bs s, s)
opened_stand false b c cs next bs s h = absurd (cc)

opened_by : (b : Bracket) (o : Option (List Context)) (next : List Context) (bs : List Bracket) → ((ds : List Context) → o ≡ Some ds → Stand (seen_all ds) bs) → opened b o ≡ Some next → Stand (seen_all next) (b ∷ bs)
opened_by b None next bs s h = absurd (cc)
opened_by b (Some []) next bs s h = absurd (cc)
opened_by b (Some (c ∷ cs)) next bs s h = opened_stand (nat_lt (length cs) most_levels) b c cs next bs (s (c ∷ cs) refl) h

may_open : (bs : List Bracket) (p : Place) → MayStand bs (element.Opens Quotation p)
may_open [] p = tt
may_open (Quotation ∷ bs) p = tt
may_open (Fry ∷ bs) p = tt
may_open (Array ∷ bs) p = tt

may_array : (bs : List Bracket) (p : Place) → MayStand bs (element.Opens Array p)
may_array [] p = tt
may_array (Quotation ∷ bs) p = tt
may_array (Fry ∷ bs) p = tt
may_array (Array ∷ bs) p = tt

may_fry : (bs : List Bracket) (p : Place) → NoArray bs → MayStand bs (element.Opens Fry p)
may_fry [] p h = tt
may_fry (Quotation ∷ bs) p h = tt
may_fry (Fry ∷ bs) p h = tt
may_fry (Array ∷ bs) p h = absurd h

may_locals : (bs : List Bracket) (p bar : Place) (names : List Token) → NoArray bs → MayStand bs (element.OpensLocals p names bar)
may_locals [] p bar names h = tt
may_locals (Quotation ∷ bs) p bar names h = tt
may_locals (Fry ∷ bs) p bar names h = tt
may_locals (Array ∷ bs) p bar names h = absurd h

counted_stand : (cs : List Context) (bs : List Bracket) → Stand (seen_all cs) bs → (ds : List Context) → counted cs ≡ Some ds → Stand (seen_all ds) bs
counted_stand cs bs s ds h = subst (λ (xs : List Seen). Stand xs bs) (sym (all_counted cs ds h)) s

uncounted_stand : (cs : List Context) (bs : List Bracket) → Stand (seen_all cs) bs → (ds : List Context) → uncounted cs ≡ Some ds → Stand (seen_all ds) bs
uncounted_stand cs bs s ds h = let u = all_uncounted cs ds bs s h in subst (λ (xs : List Context). Stand (seen_all xs) bs) (sym u.same) s

uncounted_some : (o : Option (List Context)) (b : Bracket) (next : List Context) → opened b o ≡ Some next → (o ≡ None → ⊥)
uncounted_some None b next h k = cc
uncounted_some (Some ds) b next h k = cc

no_array_by : (o : Option (List Context)) (cs : List Context) (bs : List Bracket) → Stand (seen_all cs) bs → uncounted cs ≡ o → (o ≡ None → ⊥) → NoArray bs
no_array_by None cs bs s e h = absurd (h refl)
no_array_by (Some ds) cs bs s e h = let u = all_uncounted cs ds bs s e in u.no_array

opens_steps : (cs next : List Context) (bs : List Bracket) (b : Bracket) (p : Place) → Stand (seen_all cs) bs → opened b (opens_in b cs) ≡ Some next → Steps bs (element.Opens b p) next
opens_steps cs next bs Quotation p s h = (may_open bs p, opened_by Quotation (counted cs) next bs (counted_stand cs bs s) h)
opens_steps cs next bs Array p s h = (may_array bs p, opened_by Array (counted cs) next bs (counted_stand cs bs s) h)
opens_steps cs next bs Fry p s h = (may_fry bs p (no_array_by (uncounted cs) cs bs s refl (uncounted_some (uncounted cs) Fry next h)), opened_by Fry (uncounted cs) next bs (uncounted_stand cs bs s) h)

locals_stand : (test : Bool) (k : ℕ) (c : Context) (cs next : List Context) (bs : List Bracket) → Stand (seen_all (c ∷ cs)) bs → cond test (Some ((record c { around = stands_in.Items; locals = Some k }) ∷ c ∷ cs)) None ≡ Some next → Stand (seen_all next) (Quotation ∷ bs)
locals_stand true k c cs next bs s h =
    let is : next ≡ (record c { around = stands_in.Items; locals = Some k }) ∷ c ∷ cs = cc in
    subst (λ (xs : List Context). Stand (seen_all xs) (Quotation ∷ bs)) (sym is) (refl, inside_fry Quotation c cs bs s, s)
locals_stand false k c cs next bs s h = absurd (cc)

locals_steps : (o : Option (List Context)) (cs next : List Context) (bs : List Bracket) (p bar : Place) (names : List Token) → Stand (seen_all cs) bs → uncounted cs ≡ o → opened_locals (length names) o ≡ Some next → Steps bs (element.OpensLocals p names bar) next
locals_steps None cs next bs p bar names s e h = absurd (cc)
locals_steps (Some []) cs next bs p bar names s e h = absurd (cc)
locals_steps (Some (c ∷ ds)) cs next bs p bar names s e h =
    let u = all_uncounted cs (c ∷ ds) bs s e in
    (may_locals bs p bar names u.no_array, locals_stand (nat_lt (length ds) most_levels && nat_le (locals_in c.locals + length names) most_locals) (locals_in c.locals + length names) c ds next bs (uncounted_stand cs bs s (c ∷ ds) e) h)

-- Brackets that close.

with_holes : (c : Context) (o : Option ℕ) (cs : List Context) (bs : List Bracket) → (is_some o ≡ true → IsInFry bs) → Stand (seen_all (c ∷ cs)) bs → Stand (seen_all ((record c { holes = o }) ∷ cs)) bs
with_holes c o [] bs f s = (s.0, s.1, none_there (is_some o) (λ h. none_in bs s.0 (f h)))
  where
    none_in : (ds : List Bracket) → ds ≡ [] → IsInFry ds → ⊥
    none_in ds e k = subst IsInFry e k

    none_there : (b : Bool) → (b ≡ true → ⊥) → b ≡ false
    none_there true k = absurd (k refl)
    none_there false k = refl
with_holes c o (d ∷ cs) [] f s = absurd s
with_holes c o (d ∷ cs) (b ∷ bs) f s = (s.0, f, s.2)

closed_stand : (a : Around) (b : Bracket) (inner c : Context) (cs next : List Context) (d : Bracket) (bs : List Bracket) → inner.around ≡ a → Stand (seen_all (inner ∷ c ∷ cs)) (d ∷ bs) → closed_in a b inner c cs ≡ Some next → Stand (seen_all next) bs
closed_stand stands_in.Items Quotation inner c cs next d bs e s h =
    let is : next ≡ (record c { holes = inner.holes }) ∷ cs = cc in
    let same : d ≡ Quotation = sym s.0 ∙ ap kind_of e in
    subst (λ (xs : List Context). Stand (seen_all xs) bs) (sym is) (with_holes c inner.holes cs bs (λ k. subst (λ (x : Bracket). IsInFry (x ∷ bs)) same (s.1 k)) s.2)
closed_stand stands_in.Fry Quotation inner c cs next d bs e s h = let is : next ≡ c ∷ cs = cc in subst (λ (xs : List Context). Stand (seen_all xs) bs) (sym is) s.2
closed_stand (stands_in.Array n) Array inner c cs next d bs e s h = let is : next ≡ c ∷ cs = cc in subst (λ (xs : List Context). Stand (seen_all xs) bs) (sym is) s.2
closed_stand stands_in.Items Fry inner c cs next d bs e s h = absurd (cc)
closed_stand stands_in.Items Array inner c cs next d bs e s h = absurd (cc)
closed_stand stands_in.Fry Fry inner c cs next d bs e s h = absurd (cc)
closed_stand stands_in.Fry Array inner c cs next d bs e s h = absurd (cc)
closed_stand (stands_in.Array n) Quotation inner c cs next d bs e s h = absurd (cc)
closed_stand (stands_in.Array n) Fry inner c cs next d bs e s h = absurd (cc)

closes_steps : (cs next : List Context) (bs : List Bracket) (b : Bracket) (p : Place) → Stand (seen_all cs) bs → closed cs b ≡ Some next → Steps bs (element.Closes b p) next
closes_steps [] next bs b p s h = absurd s
closes_steps (c ∷ []) next bs b p s h = absurd (cc)
closes_steps (inner ∷ c ∷ cs) next [] b p s h = absurd s
closes_steps (inner ∷ c ∷ cs) next (Quotation ∷ bs) b p s h = (tt, closed_stand inner.around b inner c cs next Quotation bs refl s h)
closes_steps (inner ∷ c ∷ cs) next (Fry ∷ bs) b p s h = (tt, closed_stand inner.around b inner c cs next Fry bs refl s h)
closes_steps (inner ∷ c ∷ cs) next (Array ∷ bs) b p s h = (tt, closed_stand inner.around b inner c cs next Array bs refl s h)

pub steps : (cs next : List Context) (bs : List Bracket) (e : Element) → IsElement e → Stand (seen_all cs) bs → behind cs e ≡ Some next → Steps bs e next
steps cs next bs (element.Item t) fits s h = item_steps cs next bs t fits s h
steps cs next bs (element.Opens b p) fits s h = opens_steps cs next bs b p s h
steps cs next bs (element.OpensLocals p names bar) fits s h = locals_steps (uncounted cs) cs next bs p bar names s refl h
steps cs next bs (element.Closes b p) fits s h = closes_steps cs next bs b p s h

-- All elements.

leads_closing : (cs : List Context) (to : Context) (bs : List Bracket) (es : List Element) → Stand (seen_all cs) bs → Lead cs es (to ∷ []) → AreClosing bs es
leads_closing cs to bs [] s h = let t = subst (λ (xs : List Context). Stand (seen_all xs) bs) h s in t.0
leads_closing cs to bs (e ∷ es) s h = let k = steps cs h.1 bs e h.0 s h.2 in (k.0, leads_closing h.1 to (open_behind bs e) es k.1 h.3)

pub items_closing : (locals : Option ℕ) (es : List Element) → AreItems locals es → AreClosing [] es
items_closing locals es h = leads_closing (items_in locals ∷ []) h.0 [] es (refl, refl, refl) h.1

pub plain_closing : (es : List Element) → AreItems None es → AreClosing [] es
plain_closing es h = items_closing None es h

pub locals_closing : (w : WrittenEffect) (es : List Element) → AreItems (Some (inputs_of (part.Effect w))) es → AreClosing [] es
locals_closing w es h = items_closing (Some (inputs_of (part.Effect w))) es h

-- elements up to the one that closes the outermost of these brackets
abbrev Enclosed : List Bracket → List Element → Type 0
Enclosed [] [] = Unit {0}
Enclosed (b ∷ bs) (e ∷ es) = Enclosed (open_behind (b ∷ bs) e) es
Enclosed _ _ = ⊥

encloses_closing : (cs : List Context) (bs : List Bracket) (es : List Element) → Stand (seen_all cs) bs → Encloses cs es → AreClosing bs es × Enclosed bs es
encloses_closing [] bs es s h = absurd s
encloses_closing (c ∷ []) [] [] s h = (refl, tt)
encloses_closing (c ∷ []) (b ∷ bs) [] s h = absurd (no_more s.0)
  where
    no_more : b ∷ bs ≡ [] → ⊥
    no_more e = cc
encloses_closing (c ∷ []) bs (e ∷ es) s h = absurd h
encloses_closing (c ∷ d ∷ cs) bs [] s h = absurd h
encloses_closing (c ∷ d ∷ cs) [] (e ∷ es) s h = absurd s
encloses_closing (c ∷ d ∷ cs) (b ∷ bs) (e ∷ es) s h =
    let k = steps (c ∷ d ∷ cs) h.1 (b ∷ bs) e h.0 s h.2 in
    let rest = encloses_closing h.1 (open_behind (b ∷ bs) e) es k.1 h.3 in
    ((k.0, rest.0), rest.1)

literal_stand : (b : Bracket) → Stand (seen_all (inside b (items_in None) ∷ items_in None ∷ [])) (b ∷ [])
literal_stand b = (inside_kind b (items_in None), inside_fry b (items_in None) [] [] (refl, refl, refl), (refl, refl, refl))

pub literal_closing : (es : List Element) → IsLiteral es → AreClosing [] es
literal_closing [] h = absurd h
literal_closing (element.Item t ∷ []) h = one t h
  where
    one : (t : Term) → IsLiteral (element.Item t ∷ []) → AreClosing [] (element.Item t ∷ [])
    one (term.Name t) k = absurd k
    one (term.Wrapped p t) k = (tt, refl)
    one (term.EffectCall callee p ts h) k = absurd k
    one (term.Literal t l) k = (tt, refl)
    one (term.NextMethod p) k = absurd k
    one (term.Bind p t) k = absurd k
    one (term.Hole p) k = absurd k
    one (term.CalledHole p) k = absurd k
literal_closing (element.Item t ∷ e ∷ es) h = absurd h
literal_closing (element.Opens b place ∷ es) h = (may_begin b, (encloses_closing (inside b (items_in None) ∷ items_in None ∷ []) (b ∷ []) es (literal_stand b) h.1).0)
  where
    may_begin : (b : Bracket) → MayStand [] (element.Opens b place)
    may_begin Quotation = tt
    may_begin Fry = tt
    may_begin Array = tt
literal_closing (element.OpensLocals p names bar ∷ es) h = absurd h
literal_closing (element.Closes b place ∷ es) h = absurd h

-- A literal is one item.

-- the last of items in several phrases, where there are so many, are none
abbrev EndsEmpty : List Bracket → Nodes → List Nodes → Type 0
EndsEmpty [] here around = (here ≡ nothing) × (around ≡ [])
EndsEmpty (b ∷ bs) here [] = ⊥
EndsEmpty (b ∷ bs) here (ns ∷ nss) = EndsEmpty bs ns nss

one_more : (b : Bracket) (bs : List Bracket) (here other : Nodes) (around : List Nodes) → EndsEmpty (b ∷ bs) here around → EndsEmpty (b ∷ bs) other around
one_more b bs here other [] h = absurd h
one_more b bs here other (ns ∷ nss) h = h

empty_open : (b c : Bracket) (bs : List Bracket) (n : Node) (items : Nodes) (nss : List Nodes) → EndsEmpty (c ∷ b ∷ bs) items nss → EndsEmpty (b ∷ bs) (open_before n nss).here (open_before n nss).around
empty_open b c bs n items [] h = absurd h
empty_open b c bs n items (ns ∷ []) h = absurd h
empty_open b c bs n items (ns ∷ ms ∷ nss) h = h

enclosed_empty : (bs : List Bracket) (es : List Element) → Enclosed bs es → EndsEmpty bs (rests es).here (rests es).around
enclosed_empty [] [] h = (refl, refl)
enclosed_empty [] (e ∷ es) h = absurd h
enclosed_empty (b ∷ bs) [] h = absurd h
enclosed_empty (b ∷ bs) (element.Item t ∷ es) h = one_more b bs (rests es).here (more (node t) (rests es).here) (rests es).around (enclosed_empty (b ∷ bs) es h)
enclosed_empty (b ∷ bs) (element.Opens c p ∷ es) h = empty_open b c bs (bracketed c (rests es).here p) (rests es).here (rests es).around (enclosed_empty (c ∷ b ∷ bs) es h)
enclosed_empty (b ∷ bs) (element.OpensLocals p names bar ∷ es) h = empty_open b Quotation bs (n_locals (map tok names) (rests es).here p) (rests es).here (rests es).around (enclosed_empty (Quotation ∷ b ∷ bs) es h)
enclosed_empty (b ∷ bs) (element.Closes c p ∷ es) h = enclosed_empty bs es h

sole_open : (b : Bracket) (n : Node) (items : Nodes) (nss : List Nodes) → EndsEmpty (b ∷ []) items nss → (open_before n nss).here ≡ more n nothing
sole_open b n items [] h = refl
sole_open b n items (ns ∷ nss) h = ap (more n) h.0

pub literal_sole : (es : List Element) → IsLiteral es → nested es ≡ more (first_node (nested es)) nothing
literal_sole [] h = absurd h
literal_sole (element.Item t ∷ []) h = refl
literal_sole (element.Item t ∷ e ∷ es) h = absurd h
literal_sole (element.Opens b place ∷ es) h =
    let n = bracketed b (rests es).here place in
    let sole = sole_open b n (rests es).here (rests es).around (enclosed_empty (b ∷ []) es (encloses_closing (inside b (items_in None) ∷ items_in None ∷ []) (b ∷ []) es (literal_stand b) h.1).1) in
    sole ∙ sym (ap (λ (ns : Nodes). more (first_node ns) nothing) sole)
literal_sole (element.OpensLocals p names bar ∷ es) h = absurd h
literal_sole (element.Closes b place ∷ es) h = absurd h
