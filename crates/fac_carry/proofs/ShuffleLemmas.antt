-- Shuffles of values of which some aren't on the machine's stack: what the meaning does with the values, and the machine with those that are there.
use Rattle.std.proofs.Common.{◌≡◌, ℕ, zero, suc, ◌+◌, ◌≤◌, ◌<◌, List, [], ◌∷◌, ◌++◌, length, map, Option, Some, None, refl, ap, sym, subst, ◌∙◌, arith}
use Rattle.std.specs.Prelude.{slice_get}
use Rattle.std.specs.Option.{option_map}
use denote.Bor.{Bor}
use Rattle.fac_lang.specs.declared.primitive_table.Operation.TheVariants as operation
use Rattle.fac_lang.specs.declared.primitive_table.Storing.TheVariants as storing
use Rattle.fac_lang.specs.Phrases.{no, Value, plain}
use Rattle.fac_lang.specs.World.{Values, World, pile}
use Rattle.fac_lang.specs.Printed.{Names}
use Rattle.fac_lang.specs.Procedures.{leaves, places_from, or_else, picked, by_inputs}
use Rattle.fac_lang.specs.Operations.{PrimitiveMeaning, operation_does}
use Rattle.fac_lang.specs.Primitives.{Primitive, prim_numbered, prim_fn, primitive_does, doing_numbered, IsOperationOf}
use Rattle.fac_lang.specs.Eval.{wrong, goes}
use Rattle.fac_lang.specs.Meaning.{meaning_values, does}
use Rattle.fac_store.specs.MachineValues.{MValue, m_plain, machine_values}
use Rattle.fac_machine.specs.Machine.{Machine, Step, does as machine_does}
use Rattle.fac_carry.specs.MachineView.{Templates, value_view, values_view}
use Rattle.fac_carry.specs.Symbols.{Sym, here, tops, below}
use Rattle.fac_carry.specs.Shuffles.{IsShuffle, IsCurry, IsCompose, both_there, chosen, piled, shuffled, lying_first, lying, all_lying, StayAsTheyLie, AreShuffled}
use Rattle.fac_carry.proofs.SymbolicStacks.{Aside, a_off, a_kept, Reads, r_here, r_aside, Lies, lies_none, lies_more}

-- what is there, from what is put together of it
pub both_by : {A : Type 0} (o : Option A) (r : Option (List A)) (ys : List A) → both_there o r ≡ Some ys → (x : A) × (xs : List A) × (o ≡ Some x) × (r ≡ Some xs) × (x ∷ xs ≡ ys)
both_by None r ys e = absurd (cc)
both_by (Some x) None ys e = absurd (cc)
both_by (Some x) (Some xs) ys e = (x, xs, refl, refl, cc)

pub piled_by : {A : Type 0} (o : Option (List A)) (s t : List A) → piled o s ≡ Some t → (ys : List A) × (o ≡ Some ys) × (pile ys s ≡ t)
piled_by None s t e = absurd (cc)
piled_by (Some ys) s t e = (ys, refl, cc)

picked_same : {A : Type 0} (d : A) (ks : List ℕ) (xs ys : List A) → chosen ks xs ≡ Some ys → picked d xs ks ≡ ys
picked_same d [] xs ys e = cc
picked_same d (k ∷ ks) xs ys e =
    let b = both_by (slice_get xs k) (chosen ks xs) ys e in
    ap (λ o. or_else d o ∷ picked d xs ks) b.2 ∙ ap (λ zs. b.0 ∷ zs) (picked_same d ks xs b.1 b.3) ∙ b.4

-- the images of what is moved are moved alike
module _ {A B : Type 0} (g : A → B) where
  get_map : (xs : List A) (k : ℕ) → slice_get (map g xs) k ≡ option_map g (slice_get xs k)
  get_map [] k = refl
  get_map (x ∷ xs) zero = refl
  get_map (x ∷ xs) (suc k) = get_map xs k

  both_map : (o : Option A) (r : Option (List A)) → both_there (option_map g o) (option_map (map g) r) ≡ option_map (map g) (both_there o r)
  both_map None r = refl
  both_map (Some x) None = refl
  both_map (Some x) (Some xs) = refl

  chosen_map : (ks : List ℕ) (xs : List A) → chosen ks (map g xs) ≡ option_map (map g) (chosen ks xs)
  chosen_map [] xs = refl
  chosen_map (k ∷ ks) xs = ap (λ o. both_there o (chosen ks (map g xs))) (get_map xs k) ∙ ap (λ r. both_there (option_map g (slice_get xs k)) r) (chosen_map ks xs) ∙ both_map (slice_get xs k) (chosen ks xs)

  pile_map : (ys s : List A) (rest : List B) → pile (map g ys) (map g s ++ rest) ≡ map g (pile ys s) ++ rest
  pile_map [] s rest = refl
  pile_map (y ∷ ys) s rest = pile_map ys (y ∷ s) rest

  shuffled_map : (n : ℕ) (ks : List ℕ) (xs s t : List A) (rest : List B) → shuffled n ks xs s ≡ Some t → shuffled n ks (map g xs) (map g s ++ rest) ≡ Some (map g t ++ rest)
  shuffled_map zero ks xs s t rest e =
      let p = piled_by (chosen ks xs) s t e in
      let there : chosen ks (map g xs) ≡ Some (map g p.0) = chosen_map ks xs ∙ ap (option_map (map g)) p.1 in
      ap (λ o. piled o (map g s ++ rest)) there ∙ ap Some (pile_map p.0 s rest ∙ ap (λ u. map g u ++ rest) p.2)
  shuffled_map (suc n) ks xs [] t rest e = absurd (cc)
  shuffled_map (suc n) ks xs (x ∷ s) t rest e = shuffled_map n ks (x ∷ xs) s t rest e

-- all places choose all
chosen_from : {A : Type 0} (xs : List A) (k : ℕ) (ys : List A) → ((j : ℕ) → slice_get xs (k + j) ≡ slice_get ys j) → chosen (places_from k (length ys)) xs ≡ Some ys
chosen_from xs k [] h = refl
chosen_from xs k (y ∷ ys) h =
    let first : slice_get xs k ≡ Some y = subst (λ j. slice_get xs j ≡ Some y) (let e : k + 0 ≡ k = omega arith in e) (h 0) in
    let rest = chosen_from xs (suc k) ys (λ j. subst (λ i. slice_get xs i ≡ slice_get ys j) (let e : k + suc j ≡ suc k + j = omega arith in e) (h (suc j))) in
    ap (λ o. both_there o (chosen (places_from (suc k) (length ys)) xs)) first ∙ ap (λ r. both_there (Some y) r) rest

chosen_all : {A : Type 0} (xs : List A) → chosen (places_from 0 (length xs)) xs ≡ Some xs
chosen_all xs = chosen_from xs 0 xs (λ j. ap (slice_get xs) (let e : 0 + j ≡ j = omega arith in e))

pile_both : {A : Type 0} (xs ys s : List A) → pile (xs ++ ys) s ≡ pile ys (pile xs s)
pile_both [] ys s = refl
pile_both (x ∷ xs) ys s = pile_both xs ys (x ∷ s)

-- An operation of the table that is a shuffle, `curry` or `compose`.
pub is_shuffle : (number takes : ℕ) (places : Bor (List ℕ)) → IsOperationOf number (operation.Shuffle takes places) → takes ≤ 3 → IsShuffle number takes places.now
unfolding operation_does
is_shuffle number takes places e le = (le, e)

pub is_curry : (number : ℕ) → IsOperationOf number (operation.Storing storing.Curry) → IsCurry number
unfolding operation_does
is_curry number e = e

pub is_compose : (number : ℕ) → IsOperationOf number (operation.Storing storing.Compose) → IsCompose number
unfolding operation_does
is_compose number e = e

-- What the primitive of a number does.
numbered_by : (o : Option Primitive) (m : PrimitiveMeaning) → option_map primitive_does o ≡ Some m → (q : Primitive) × (o ≡ Some q) × (primitive_does q ≡ m)
numbered_by None m e = absurd (cc)
numbered_by (Some q) m e = (q, refl, cc)

pub numbered : (k : ℕ) (m : PrimitiveMeaning) → doing_numbered k ≡ Some m → (q : Primitive) × (prim_numbered k ≡ Some q) × (primitive_does q ≡ m)
numbered k m e = numbered_by (prim_numbered k) m e

pub fn_is : (W : Values) (N : Names) (q : Primitive) (m : PrimitiveMeaning) → primitive_does q ≡ m → prim_fn W N q ≡ by_inputs W N m.takes m.does
unfolding prim_fn
fn_is W N q m e = ap (λ (m : PrimitiveMeaning). by_inputs W N m.takes m.does) e

-- what a shuffle does in the meaning
pub meaning_shuffles : (N : Names) (a n : ℕ) (ks : List ℕ) → n ≤ 3 → (vs us : List Value) (w : World Value) → shuffled n ks [] vs ≡ Some us → does a (by_inputs meaning_values N n (leaves ks)) (record { stack = vs; world = w }) ≡ goes (record { stack = us; world = w })
meaning_shuffles N a zero ks le vs us w e = let p = piled_by (chosen ks []) vs us e in ap (λ (xs : List Value). goes (record { stack = xs; world = w })) (ap (λ xs. pile xs vs) (picked_same (plain no) ks [] p.0 p.1) ∙ p.2)
meaning_shuffles N a (suc zero) ks le [] us w e = absurd (cc)
meaning_shuffles N a (suc zero) ks le (x ∷ vs) us w e = let p = piled_by (chosen ks (x ∷ [])) vs us e in ap (λ (xs : List Value). goes (record { stack = xs; world = w })) (ap (λ xs. pile xs vs) (picked_same (plain no) ks (x ∷ []) p.0 p.1) ∙ p.2)
meaning_shuffles N a (suc (suc zero)) ks le [] us w e = absurd (cc)
meaning_shuffles N a (suc (suc zero)) ks le (y ∷ []) us w e = absurd (cc)
meaning_shuffles N a (suc (suc zero)) ks le (y ∷ x ∷ vs) us w e = let p = piled_by (chosen ks (x ∷ y ∷ [])) vs us e in ap (λ (xs : List Value). goes (record { stack = xs; world = w })) (ap (λ xs. pile xs vs) (picked_same (plain no) ks (x ∷ y ∷ []) p.0 p.1) ∙ p.2)
meaning_shuffles N a (suc (suc (suc zero))) ks le [] us w e = absurd (cc)
meaning_shuffles N a (suc (suc (suc zero))) ks le (z ∷ []) us w e = absurd (cc)
meaning_shuffles N a (suc (suc (suc zero))) ks le (z ∷ y ∷ []) us w e = absurd (cc)
meaning_shuffles N a (suc (suc (suc zero))) ks le (z ∷ y ∷ x ∷ vs) us w e =
    let p = piled_by (chosen ks (x ∷ y ∷ z ∷ [])) vs us e in ap (λ (xs : List Value). goes (record { stack = xs; world = w })) (ap (λ xs. pile xs vs) (picked_same (plain no) ks (x ∷ y ∷ z ∷ []) p.0 p.1) ∙ p.2)
meaning_shuffles N a (suc (suc (suc (suc n)))) ks le vs us w e = absurd (omega (arith, le))

pub meaning_lacks : (N : Names) (a n : ℕ) (ks : List ℕ) → n ≤ 3 → (vs : List Value) (w : World Value) → length vs < n → does a (by_inputs meaning_values N n (leaves ks)) (record { stack = vs; world = w }) ≡ wrong
meaning_lacks N a zero ks le vs w lt = absurd (omega (arith, lt))
meaning_lacks N a (suc zero) ks le [] w lt = refl
meaning_lacks N a (suc zero) ks le (x ∷ vs) w lt = absurd (omega (arith, lt))
meaning_lacks N a (suc (suc zero)) ks le [] w lt = refl
meaning_lacks N a (suc (suc zero)) ks le (y ∷ []) w lt = refl
meaning_lacks N a (suc (suc zero)) ks le (y ∷ x ∷ vs) w lt = absurd (omega (arith, lt))
meaning_lacks N a (suc (suc (suc zero))) ks le [] w lt = refl
meaning_lacks N a (suc (suc (suc zero))) ks le (z ∷ []) w lt = refl
meaning_lacks N a (suc (suc (suc zero))) ks le (z ∷ y ∷ []) w lt = refl
meaning_lacks N a (suc (suc (suc zero))) ks le (z ∷ y ∷ x ∷ vs) w lt = absurd (omega (arith, lt))
meaning_lacks N a (suc (suc (suc (suc n)))) ks le vs w lt = absurd (omega (arith, le))

-- and in the machine
pub machine_shuffles : (N : Names) (a n : ℕ) (ks : List ℕ) → n ≤ 3 → (ms us : List MValue) (s : Machine) (m : ℕ) (go : Machine → Step) → s.stack ≡ ms → shuffled n ks [] ms ≡ Some us →
    machine_does a (by_inputs machine_values N n (leaves ks)) s m go ≡ go (record s { stack = us; world = s.world })
machine_shuffles N a zero ks le ms us s m go is e =
    let p = piled_by (chosen ks []) ms us e in
    ap (λ (xs : List MValue). go (record s { stack = xs; world = s.world })) (ap (λ xs. pile xs s.stack) (picked_same (m_plain no) ks [] p.0 p.1) ∙ ap (λ xs. pile p.0 xs) is ∙ p.2)
machine_shuffles N a (suc zero) ks le [] us s m go is e = absurd (cc)
machine_shuffles N a (suc zero) ks le (x ∷ ms) us s m go is e =
    let p = piled_by (chosen ks (x ∷ [])) ms us e in rw is (ap (λ (xs : List MValue). go (record s { stack = xs; world = s.world })) (ap (λ xs. pile xs ms) (picked_same (m_plain no) ks (x ∷ []) p.0 p.1) ∙ p.2))
machine_shuffles N a (suc (suc zero)) ks le [] us s m go is e = absurd (cc)
machine_shuffles N a (suc (suc zero)) ks le (y ∷ []) us s m go is e = absurd (cc)
machine_shuffles N a (suc (suc zero)) ks le (y ∷ x ∷ ms) us s m go is e =
    let p = piled_by (chosen ks (x ∷ y ∷ [])) ms us e in rw is (ap (λ (xs : List MValue). go (record s { stack = xs; world = s.world })) (ap (λ xs. pile xs ms) (picked_same (m_plain no) ks (x ∷ y ∷ []) p.0 p.1) ∙ p.2))
machine_shuffles N a (suc (suc (suc zero))) ks le [] us s m go is e = absurd (cc)
machine_shuffles N a (suc (suc (suc zero))) ks le (z ∷ []) us s m go is e = absurd (cc)
machine_shuffles N a (suc (suc (suc zero))) ks le (z ∷ y ∷ []) us s m go is e = absurd (cc)
machine_shuffles N a (suc (suc (suc zero))) ks le (z ∷ y ∷ x ∷ ms) us s m go is e =
    let p = piled_by (chosen ks (x ∷ y ∷ z ∷ [])) ms us e in rw is (ap (λ (xs : List MValue). go (record s { stack = xs; world = s.world })) (ap (λ xs. pile xs ms) (picked_same (m_plain no) ks (x ∷ y ∷ z ∷ []) p.0 p.1) ∙ p.2))
machine_shuffles N a (suc (suc (suc (suc n)))) ks le ms us s m go is e = absurd (omega (arith, le))

module _ (T : Templates) where
  -- a value of the meaning with what the code knows of it
  data Item : Type 0 where
    i_here : MValue → Item
    i_aside : (x : Sym) (v : Value) → Aside T x v → Item

  abbrev known : Item → Sym
  known (i_here m) = here
  known (i_aside x v a) = x

  abbrev value : Item → Value
  value (i_here m) = value_view T m
  value (i_aside x v a) = v

  -- the machine's value where it is there, and those of several
  abbrev own : Item → List MValue
  own (i_here m) = m ∷ []
  own (i_aside x v a) = []

  abbrev owns : List Item → List MValue
  owns [] = []
  owns (i ∷ is) = own i ++ owns is

  reads_own : (i : Item) (ms : List MValue) → Reads T (known i) (pile (own i) ms) ms (value i)
  reads_own (i_here m) ms = r_here
  reads_own (i_aside x v a) ms = r_aside a

  -- put on a stack
  lies_piled : (is : List Item) (S : List Sym) (ms : List MValue) (vs : List Value) → Lies T S ms vs → Lies T (pile (map known is) S) (pile (owns is) ms) (pile (map value is) vs)
  lies_piled [] S ms vs l = l
  lies_piled (i ∷ is) S ms vs l =
      subst (λ us. Lies T (pile (map known is) (known i ∷ S)) us (pile (map value is) (value i ∷ vs))) (sym (pile_both (own i) (owns is) ms)) (lies_piled is (known i ∷ S) (pile (own i) ms) (value i ∷ vs) (lies_more (reads_own i ms) l))

  -- the top n of a stack above these, and what is below them
  record Found (n : ℕ) (S : List Sym) (above : List Item) (ms : List MValue) (vs : List Value) : Type 0 where
    pub items : List Item
    pub knowns : map known items ≡ tops n S (map known above)
    pub under : List MValue
    pub machine : pile (owns above) ms ≡ pile (owns items) under
    pub others : List Value
    pub meaning : (ks : List ℕ) → shuffled n ks (map value above) vs ≡ piled (chosen ks (map value items)) others
    pub lies : Lies T (below n S) under others

  data Gathered (n : ℕ) (S : List Sym) (above : List Item) (ms : List MValue) (vs : List Value) : Type 0 where
    found : Found n S above ms vs → Gathered n S above ms vs
    lacking : length vs < n → Gathered n S above ms vs

  found_more : (n : ℕ) (S S1 : List Sym) (above : List Item) (i : Item) (ms : List MValue) (vs : List Value) → tops (suc n) S (map known above) ≡ tops n S1 (known i ∷ map known above) → below (suc n) S ≡ below n S1 → Gathered n S1 (i ∷ above) ms vs →
      Gathered (suc n) S above (pile (own i) ms) (value i ∷ vs)
  found_more n S S1 above i ms vs et eb (found f) =
      found (record {
        items = f.items;
        knowns = f.knowns ∙ sym et;
        under = f.under;
        machine = sym (pile_both (own i) (owns above) ms) ∙ f.machine;
        others = f.others;
        meaning = f.meaning;
        lies = subst (λ U. Lies T U f.under f.others) (sym eb) f.lies;
      })
  found_more n S S1 above i ms vs et eb (lacking lt) = lacking (omega (arith, lt))

  gather_plain : (n : ℕ) (above : List Item) (ms : List MValue) → ((m : MValue) (ms : List MValue) → Gathered n [] (i_here m ∷ above) ms (values_view T ms)) → Gathered (suc n) [] above ms (values_view T ms)
  gather_plain n above [] rest = lacking (omega arith)
  gather_plain n above (m ∷ ms) rest = found_more n [] [] above (i_here m) ms (values_view T ms) refl refl (rest m ms)

  gather_read : (n : ℕ) (x : Sym) (S : List Sym) (above : List Item) (ms ms' : List MValue) (v : Value) (vs : List Value) → ((i : Item) → Gathered n S (i ∷ above) ms' vs) → Reads T x ms ms' v → Gathered (suc n) (x ∷ S) above ms (v ∷ vs)
  gather_read n x S above ms ms' v vs rest (r_here {m = m}) = found_more n (here ∷ S) S above (i_here m) ms' vs refl refl (rest (i_here m))
  gather_read n x S above ms ms' v vs rest (r_aside a) = found_more n (x ∷ S) S above (i_aside x v a) ms' vs refl refl (rest (i_aside x v a))

  gather : (n : ℕ) (S : List Sym) (above : List Item) (ms : List MValue) (vs : List Value) → Lies T S ms vs → Gathered n S above ms vs
  gather zero S above ms vs l = found (record { items = above; knowns = refl; under = ms; machine = refl; others = vs; meaning = λ ks. refl; lies = l })
  gather (suc n) [] above ms vs lies_none = gather_plain n above ms (λ m ms. gather n [] (i_here m ∷ above) ms (values_view T ms) lies_none)
  gather (suc n) (x ∷ S) above ms vs (lies_more {ms' = ms'} {v = v} {vs = us} r l) = gather_read n x S above ms ms' v us (λ i. gather n S (i ∷ above) ms' us l) r

  -- what is on the machine's stack, by the places of those that are there
  abbrev there : Item → MValue
  there (i_here m) = m
  there (i_aside x v a) = m_plain no

  abbrev there_at : List Item → ℕ → MValue
  there_at is k = or_else (m_plain no) (option_map there (slice_get is k))

  own_lying : (g : ℕ → MValue) (i : Item) (k : ℕ) (ks : List ℕ) → g k ≡ there i → own i ++ map g ks ≡ map g (lying_first (Some (known i)) k ks)
  own_lying g (i_here m) k ks e = ap (λ x. x ∷ map g ks) (sym e)
  own_lying g (i_aside x v (a_off h)) k ks e = refl
  own_lying g (i_aside x v a_kept) k ks e = refl

  owns_lying : (is : List Item) (ks : List ℕ) (os : List Item) → chosen ks is ≡ Some os → owns os ≡ map (there_at is) (lying (map known is) ks)
  owns_lying is [] os e = let same : [] ≡ os = cc in ap owns (sym same)
  owns_lying is (k ∷ ks) os e =
      let b = both_by (slice_get is k) (chosen ks is) os e in
      let one = owns_lying is ks b.1 b.3 in
      let at_k : there_at is k ≡ there b.0 = ap (λ o. or_else (m_plain no) (option_map there o)) b.2 in
      let name : slice_get (map known is) k ≡ Some (known b.0) = get_map known is k ∙ ap (option_map known) b.2 in
      ap owns (sym b.4) ∙ ap (λ xs. own b.0 ++ xs) one ∙ own_lying (there_at is) b.0 k (lying (map known is) ks) at_k ∙ ap (λ o. map (there_at is) (lying_first o k (lying (map known is) ks))) (sym name)

  length_known : (is : List Item) → length (map known is) ≡ length is
  length_known [] = refl
  length_known (i ∷ is) = ap suc (length_known is)

  owns_all : (is : List Item) → owns is ≡ map (there_at is) (all_lying (map known is))
  owns_all is = owns_lying is (places_from 0 (length is)) is (chosen_all is) ∙ ap (λ n. map (there_at is) (lying (map known is) (places_from 0 n))) (sym (length_known is))

  -- What a shuffle of the top n comes to, that leaves these entries, on the machine's stack and in the meaning.
  pub record Moved (n : ℕ) (ks : List ℕ) (S ys : List Sym) (ms : List MValue) (vs : List Value) : Type 0 where
    pub stack : List MValue
    pub values : List Value
    pub does : shuffled n ks [] vs ≡ Some values
    pub lies : Lies T (pile ys (below n S)) stack values
    pub stays : StayAsTheyLie (tops n S []) ks → stack ≡ ms
    pub moves : (m : ℕ) (js : List ℕ) → AreShuffled (tops n S []) ks m js → shuffled m js [] ms ≡ Some stack

  pub data Outcome (n : ℕ) (ks : List ℕ) (S ys : List Sym) (ms : List MValue) (vs : List Value) : Type 0 where
    is_moved : Moved n ks S ys ms vs → Outcome n ks S ys ms vs
    is_lacking : length vs < n → Outcome n ks S ys ms vs

  -- those that are chosen, by what is known of them
  chosen_by : (o : Option (List Item)) (ys : List Sym) → option_map (map known) o ≡ Some ys → (os : List Item) × (o ≡ Some os) × (map known os ≡ ys)
  chosen_by None ys e = absurd (cc)
  chosen_by (Some os) ys e = (os, refl, cc)

  moved_so : (n : ℕ) (ks : List ℕ) (S ys : List Sym) (ms : List MValue) (vs : List Value) → chosen ks (tops n S []) ≡ Some ys → Found n S [] ms vs → Moved n ks S ys ms vs
  moved_so n ks S ys ms vs e f =
      let c = chosen_by (chosen ks f.items) ys (sym (chosen_map known ks f.items) ∙ ap (chosen ks) f.knowns ∙ e) in
      let os = c.0 in
      let g = there_at f.items in
      let entries = tops n S [] in
      let after : owns os ≡ map g (lying entries ks) = owns_lying f.items ks os c.1 ∙ ap (λ xs. map g (lying xs ks)) f.knowns in
      let before : owns f.items ≡ map g (all_lying entries) = owns_all f.items ∙ ap (λ xs. map g (all_lying xs)) f.knowns in
      record {
        stack = pile (owns os) f.under;
        values = pile (map value os) f.others;
        does = f.meaning ks ∙ ap (λ o. piled o f.others) (chosen_map value ks f.items ∙ ap (option_map (map value)) c.1);
        lies = subst (λ zs. Lies T (pile zs (below n S)) (pile (owns os) f.under) (pile (map value os) f.others)) c.2 (lies_piled os (below n S) f.under f.others f.lies);
        stays = λ same. ap (λ xs. pile xs f.under) (after ∙ ap (map g) same ∙ sym before) ∙ sym f.machine;
        moves = λ m js h. ap (shuffled m js []) (f.machine ∙ ap (λ xs. pile xs f.under) before ∙ pile_map g (all_lying entries) [] f.under) ∙ shuffled_map g m js [] (pile (all_lying entries) []) (pile (lying entries ks) []) f.under h ∙
            ap Some (sym (pile_map g (lying entries ks) [] f.under) ∙ ap (λ xs. pile xs f.under) (sym after));
      }

  outcome_so : (n : ℕ) (ks : List ℕ) (S ys : List Sym) (ms : List MValue) (vs : List Value) → chosen ks (tops n S []) ≡ Some ys → Gathered n S [] ms vs → Outcome n ks S ys ms vs
  outcome_so n ks S ys ms vs e (found f) = is_moved (moved_so n ks S ys ms vs e f)
  outcome_so n ks S ys ms vs e (lacking lt) = is_lacking lt

  pub outcome : (n : ℕ) (ks : List ℕ) (S ys : List Sym) (ms : List MValue) (vs : List Value) → chosen ks (tops n S []) ≡ Some ys → Lies T S ms vs → Outcome n ks S ys ms vs
  outcome n ks S ys ms vs e l = outcome_so n ks S ys ms vs e (gather n S [] ms vs l)
