-- Where direct phrases lead, by what begins at a place.
use Rattle.std.proofs.Common.{◌≡◌, ◌+◌, ◌++◌, ◌∷◌, [], ℕ, zero, suc, List, Bool, true, false, Option, Some, None, refl, ap, sym, subst, ◌∙◌, arith, inl, inr}
use Rattle.std.proofs.lemmas.List.{append-nil}
use Rattle.std.specs.Prelude.{slice_get, MatchOption}
use Rattle.fac_code.specs.declared.image.Instr.{Instr}
use Rattle.fac_code.specs.declared.image.Instr.TheVariants.{Quot}
use Rattle.fac_code.specs.declared.image.TemplateRow.{TemplateRow}
use Rattle.fac_code.specs.declared.image.Image.{Image}
use Rattle.fac_carry.specs.Stands.{ends_phrase}
use Rattle.fac_carry.specs.Direct.{Within, within_any, within_some}
use Rattle.fac_expand.specs.declared.direct_places.Waiting.{Waiting}
use Rattle.fac_expand.specs.declared.plan.Use.{Use}
use Rattle.fac_expand.specs.declared.direct_places.Behind.TheVariants.{Nothing, Applied, Quotation}
use Rattle.fac_expand.specs.inner.Calls.{has_tail}
use Rattle.fac_expand.specs.inner.DirectPlaces.{is_other, DirectAt, at_end, at_last, at_item, at_applied, at_branched, stands_behind, tail_of_two, made_quotation, entry_in, inner_depth, is_deepest, listed, IsDirectThere, AreDirect, IsDirectPlace}
use Rattle.fac_expand.proofs.RunMoves.{same_found}

pub clash : {A : Type 0} (b : Bool) → b ≡ true → b ≡ false → A
clash b t f = absurd (let no : true ≡ false = sym t ∙ f in cc)

-- the places that wait, and one more
more_waiting : (Q : Waiting → Type 0) (xs : List Waiting) (x : Waiting) → ((k : ℕ) (a : Waiting) → slice_get xs k ≡ Some a → Q a) → Q x → (k : ℕ) (a : Waiting) → slice_get (xs ++ x ∷ []) k ≡ Some a → Q a
more_waiting Q [] x all h zero a e = let same : x ≡ a = cc in subst Q same h
more_waiting Q [] x all h (suc k) a e = absurd (cc)
more_waiting Q (y ∷ xs) x all h zero a e = all zero a e
more_waiting Q (y ∷ xs) x all h (suc k) a e = more_waiting Q xs x (λ j b f. all (suc j) b f) h k a e

-- nothing stands within the deepest, and the depth within another one
pub none_within : {A : Type 0} (m k : Option ℕ) → is_deepest m ≡ true → Within m k → A
none_within _ _ h within_any = absurd (let no : false ≡ true = h in cc)
none_within _ _ h (within_some {n = n}) = let same : suc n ≡ 0 = grind (arith) in absurd (omega (arith, same))

depth_within : (m k : Option ℕ) → Within m k → k ≡ inner_depth m
depth_within _ _ within_any = refl
depth_within _ _ (within_some {n = n}) = ap Some (omega arith)

module _ (N : Image) (uses : List Use) where
  pub waits : (xs new : List Waiting) (m o : Option ℕ) → new ≡ xs ++ listed m o → AreDirect N uses xs → IsDirectThere N uses m o → AreDirect N uses new
  waits xs new m None e all h = subst (AreDirect N uses) (sym (e ∙ append-nil xs)) all
  waits xs new m (Some a) e all h = subst (AreDirect N uses) (sym e) (more_waiting (λ (x : Waiting). DirectAt N uses x.depth x.place) xs (record { place = a; depth = m }) all h)

  pub one_waits : (m : Option ℕ) (a : ℕ) → DirectAt N uses m a → AreDirect N uses (record { place = a; depth = m } ∷ [])
  one_waits m a d = more_waiting (λ (x : Waiting). DirectAt N uses x.depth x.place) [] (record { place = a; depth = m }) (λ k b e. absurd (cc)) d

  -- the place that is passed next
  pub goes : (m o : Option ℕ) (b : ℕ) (t : Bool) → MatchOption o (Unit {0}) (λ n. (n ≡ b) × (t ≡ false)) → (t ≡ false → DirectAt N uses m b) → IsDirectThere N uses m o
  goes m None b t h d = tt
  goes m (Some n) b t h d = subst (DirectAt N uses m) (sym h.0) (d h.1)

  -- A direct phrase that begins with a quotation.
  data Quoted (m : Option ℕ) (a q : ℕ) : Type 0 where
    as_applied : (t : Bool) → Within m (inner_depth m) → stands_behind uses m (slice_get N.code (a + 1)) ≡ Applied t → IsDirectThere N uses (inner_depth m) (entry_in (slice_get N.templates q)) → (t ≡ false → DirectAt N uses m (a + 2)) → Quoted m a q
    as_branched :
        (s : ℕ) (t : Bool) → Within m (inner_depth m) → stands_behind uses m (slice_get N.code (a + 1)) ≡ Quotation s → tail_of_two uses m (slice_get N.code (a + 2)) ≡ Some t → IsDirectThere N uses (inner_depth m) (entry_in (slice_get N.templates q)) →
        IsDirectThere N uses (inner_depth m) (entry_in (slice_get N.templates s)) → (t ≡ false → DirectAt N uses m (a + 3)) → Quoted m a q

  same_quotation : (a q s : ℕ) → slice_get N.code a ≡ Some (Quot q) → slice_get N.code a ≡ Some (Quot s) → s ≡ q
  same_quotation a q s e f = let same : Quot s ≡ Quot q = same_found (slice_get N.code a) (Quot s) (Quot q) f e in cc

  not_other : {A : Type 0} (a q : ℕ) (i : Instr) → slice_get N.code a ≡ Some (Quot q) → slice_get N.code a ≡ Some i → is_other uses i ≡ true → A
  not_other a q i e f h = clash (is_other uses i) h (ap (is_other uses) (same_found (slice_get N.code a) i (Quot q) f e))

  entry_there : (m k : Option ℕ) (o : Option ℕ) → Within m k → ((b : ℕ) → o ≡ Some b → DirectAt N uses k b) → IsDirectThere N uses (inner_depth m) o
  entry_there m k None h d = tt
  entry_there m k (Some b) h d = subst (λ (n : Option ℕ). DirectAt N uses n b) (depth_within m k h) (d b refl)

  of_quotation : (m : Option ℕ) (q s : ℕ) → s ≡ q → IsDirectThere N uses (inner_depth m) (entry_in (slice_get N.templates s)) → IsDirectThere N uses (inner_depth m) (entry_in (slice_get N.templates q))
  of_quotation m q s same d = subst (λ (n : ℕ). IsDirectThere N uses (inner_depth m) (entry_in (slice_get N.templates n))) same d

  inside : (m k : Option ℕ) → Within m k → Within m (inner_depth m)
  inside m k h = subst (Within m) (depth_within m k h) h

  quoted : (m : Option ℕ) (a q : ℕ) → slice_get N.code a ≡ Some (Quot q) → DirectAt N uses m a → Quoted m a q
  quoted m a q e (at_end i f ends) = clash (ends_phrase i) ends (ap ends_phrase (same_found (slice_get N.code a) i (Quot q) f e))
  quoted m a q e (at_last i f h tail) = not_other a q i e f h
  quoted m a q e (at_item i f h tail d) = not_other a q i e f h
  quoted m a q e (at_applied {k = k} s t h f behind b d) = as_applied t (inside m k h) behind (of_quotation m q s (same_quotation a q s e f) (entry_there m k (entry_in (slice_get N.templates s)) h b)) d
  quoted m a q e (at_branched {k = k} s u t h f g behind b c d) =
      as_branched u t (inside m k h) (ap (stands_behind uses m) g) behind (of_quotation m q s (same_quotation a q s e f) (entry_there m k (entry_in (slice_get N.templates s)) h b)) (entry_there m k (entry_in (slice_get N.templates u)) h c) d

  deepest_by : {A : Type 0} (m : Option ℕ) (a q : ℕ) → is_deepest m ≡ true → Quoted m a q → A
  deepest_by m a q h (as_applied t w g d more) = none_within m (inner_depth m) h w
  deepest_by m a q h (as_branched s t w g i d k more) = none_within m (inner_depth m) h w

  pub quoted_deepest : {A : Type 0} (m : Option ℕ) (a q : ℕ) → slice_get N.code a ≡ Some (Quot q) → is_deepest m ≡ true → DirectAt N uses m a → A
  quoted_deepest m a q e h d = deepest_by m a q h (quoted m a q e d)

  alone_by : {A : Type 0} (m : Option ℕ) (a q : ℕ) → stands_behind uses m (slice_get N.code (a + 1)) ≡ Nothing → Quoted m a q → A
  alone_by m a q f (as_applied t w g h more) = absurd (let no : Nothing ≡ Applied t = sym f ∙ g in cc)
  alone_by m a q f (as_branched s t w g i h k more) = absurd (let no : Nothing ≡ Quotation s = sym f ∙ g in cc)

  pub quoted_alone : {A : Type 0} (m : Option ℕ) (a q : ℕ) → slice_get N.code a ≡ Some (Quot q) → stands_behind uses m (slice_get N.code (a + 1)) ≡ Nothing → DirectAt N uses m a → A
  quoted_alone m a q e f d = alone_by m a q f (quoted m a q e d)

  applied_by : (m : Option ℕ) (a q : ℕ) (t : Bool) → stands_behind uses m (slice_get N.code (a + 1)) ≡ Applied t → Quoted m a q → IsDirectThere N uses (inner_depth m) (entry_in (slice_get N.templates q)) × (t ≡ false → DirectAt N uses m (a + 2))
  applied_by m a q t f (as_applied u w g h more) = let same : t ≡ u = (let both : Applied t ≡ Applied u = sym f ∙ g in cc) in (h, λ no. more (sym same ∙ no))
  applied_by m a q t f (as_branched s u w g i h k more) = absurd (let no : Applied t ≡ Quotation s = sym f ∙ g in cc)

  pub applied_leads : (m : Option ℕ) (a q : ℕ) (t : Bool) → slice_get N.code a ≡ Some (Quot q) → stands_behind uses m (slice_get N.code (a + 1)) ≡ Applied t → DirectAt N uses m a →
      IsDirectThere N uses (inner_depth m) (entry_in (slice_get N.templates q)) × (t ≡ false → DirectAt N uses m (a + 2))
  applied_leads m a q t e f d = applied_by m a q t f (quoted m a q e d)

  -- two quotations before what applies two
  pub record Branched (m : Option ℕ) (a q s : ℕ) : Type 0 where
    pub tail : Bool
    pub there : tail_of_two uses m (slice_get N.code (a + 2)) ≡ Some tail
    pub first : IsDirectThere N uses (inner_depth m) (entry_in (slice_get N.templates q))
    pub second : IsDirectThere N uses (inner_depth m) (entry_in (slice_get N.templates s))
    pub more : tail ≡ false → DirectAt N uses m (a + 3)

  branched_by : (m : Option ℕ) (a q s : ℕ) → stands_behind uses m (slice_get N.code (a + 1)) ≡ Quotation s → Quoted m a q → Branched m a q s
  branched_by m a q s f (as_applied u w g h more) = absurd (let no : Quotation s ≡ Applied u = sym f ∙ g in cc)
  branched_by m a q s f (as_branched v u w g i h k more) =
      let same : v ≡ s = (let both : Quotation v ≡ Quotation s = sym g ∙ f in cc) in
      record { tail = u; there = i; first = h; second = of_quotation m s v same k; more = more }

  pub branched : (m : Option ℕ) (a q s : ℕ) → slice_get N.code a ≡ Some (Quot q) → stands_behind uses m (slice_get N.code (a + 1)) ≡ Quotation s → DirectAt N uses m a → Branched m a q s
  branched m a q s e f d = branched_by m a q s f (quoted m a q e d)

  pub branched_leads : (m : Option ℕ) (a q s : ℕ) (t : Bool) → slice_get N.code a ≡ Some (Quot q) → stands_behind uses m (slice_get N.code (a + 1)) ≡ Quotation s → tail_of_two uses m (slice_get N.code (a + 2)) ≡ Some t → DirectAt N uses m a →
      IsDirectThere N uses (inner_depth m) (entry_in (slice_get N.templates q)) × IsDirectThere N uses (inner_depth m) (entry_in (slice_get N.templates s)) × (t ≡ false → DirectAt N uses m (a + 3))
  branched_leads m a q s t e f g d =
      let b = branched m a q s e f d in
      let same : t ≡ b.tail = same_found (tail_of_two uses m (slice_get N.code (a + 2))) t b.tail g b.there in
      (b.first, b.second, λ no. b.more (sym same ∙ no))

  pub not_branched : {A : Type 0} (m : Option ℕ) (a q s : ℕ) → slice_get N.code a ≡ Some (Quot q) → stands_behind uses m (slice_get N.code (a + 1)) ≡ Quotation s → tail_of_two uses m (slice_get N.code (a + 2)) ≡ None → DirectAt N uses m a → A
  not_branched m a q s e f g d = let b = branched m a q s e f d in absurd (let there = b.there in let no : None ≡ Some b.tail = sym g ∙ there in cc)

  -- What begins with no quotation: the end of a phrase, or another item.
  data Unquoted (m : Option ℕ) (a : ℕ) (i : Instr) : Type 0 where
    as_end : ends_phrase i ≡ true → Unquoted m a i
    as_item : is_other uses i ≡ true → (has_tail i ≡ false → DirectAt N uses m (a + 1)) → Unquoted m a i

  no_quotation : {A : Type 0} (a q : ℕ) (i : Instr) → slice_get N.code a ≡ Some i → made_quotation i ≡ None → slice_get N.code a ≡ Some (Quot q) → A
  no_quotation a q i e none f = absurd (let no : None ≡ Some q = sym none ∙ ap made_quotation (same_found (slice_get N.code a) i (Quot q) e f) in cc)

  unquoted : (m : Option ℕ) (a : ℕ) (i : Instr) → slice_get N.code a ≡ Some i → made_quotation i ≡ None → DirectAt N uses m a → Unquoted m a i
  unquoted m a i e none (at_end j f ends) = as_end (ap ends_phrase (same_found (slice_get N.code a) i j e f) ∙ ends)
  unquoted m a i e none (at_last j f h tail) = let same = same_found (slice_get N.code a) i j e f in as_item (ap (is_other uses) same ∙ h) (λ no. clash (has_tail i) (ap has_tail same ∙ tail) no)
  unquoted m a i e none (at_item j f h tail d) = let same = same_found (slice_get N.code a) i j e f in as_item (ap (is_other uses) same ∙ h) (λ no. d)
  unquoted m a i e none (at_applied s t h f behind b d) = no_quotation a s i e none f
  unquoted m a i e none (at_branched s u t h f g behind b c d) = no_quotation a s i e none f

  item_by : (m : Option ℕ) (a : ℕ) (i : Instr) → ends_phrase i ≡ false → Unquoted m a i → (is_other uses i ≡ true) × (has_tail i ≡ false → DirectAt N uses m (a + 1))
  item_by m a i goes_on (as_end h) = clash (ends_phrase i) h goes_on
  item_by m a i goes_on (as_item h more) = (h, more)

  pub item_leads : (m : Option ℕ) (a : ℕ) (i : Instr) → slice_get N.code a ≡ Some i → made_quotation i ≡ None → ends_phrase i ≡ false → DirectAt N uses m a → (is_other uses i ≡ true) × (has_tail i ≡ false → DirectAt N uses m (a + 1))
  item_leads m a i e none goes_on d = item_by m a i goes_on (unquoted m a i e none d)

  pub nowhere : {A : Type 0} (m : Option ℕ) (a : ℕ) → slice_get N.code a ≡ None → DirectAt N uses m a → A
  nowhere m a e (at_end i f ends) = absurd (let no : None ≡ Some i = sym e ∙ f in cc)
  nowhere m a e (at_last i f h tail) = absurd (let no : None ≡ Some i = sym e ∙ f in cc)
  nowhere m a e (at_item i f h tail d) = absurd (let no : None ≡ Some i = sym e ∙ f in cc)
  nowhere m a e (at_applied s t h f behind b d) = absurd (let no : None ≡ Some (Quot s) = sym e ∙ f in cc)
  nowhere m a e (at_branched s u t h f g behind b c d) = absurd (let no : None ≡ Some (Quot s) = sym e ∙ f in cc)

  -- a place of neither kind
  pub no_place : (a : ℕ) → (DirectAt N uses None a → ⊥) → (DirectAt N uses (Some 256) a → ⊥) → IsDirectPlace N uses a → ⊥
  no_place a one other (inl d) = one d
  no_place a one other (inr d) = other d
