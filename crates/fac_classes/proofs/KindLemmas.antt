-- Which kinds classes have: by their shapes from those of their members, and by the classes' own kinds.
use Rattle.std.proofs.Common.{◌≡◌, ◌<◌, ◌≤◌, ◌⊎◌, inl, inr, ℕ, zero, suc, ◌+◌, ◌-◌, List, [], ◌∷◌, length, Bool, true, false, refl, sym, ap, ◌∙◌, subst, arith}
use Rattle.std.specs.Prelude.{nat_eq, nat_le, ◌&&◌, Option, Some, None, slice_get}
use Rattle.std.specs.List.{list_all}
use Rattle.fac_lang.specs.declared.program.ClassDef.{ClassDef}
use Rattle.fac_lang.specs.declared.program.Shape.{Shape}
use Rattle.fac_lang.specs.declared.program.Shape.TheVariants.{Kind as built_in, Tuple as tuple_class, Union as union, Single as single}
use Rattle.fac_lang.specs.Classes.{has_own, own_kind, class_with, shape_at, parent_in, is_tuple, descends, descends_if, any, shape_has, has_kind_within, has_kind, own_count}
use Rattle.fac_classes.specs.inner.Members.{IsIn, members_in, members, ends, AreSound}
use Rattle.fac_classes.specs.inner.OwnKinds.{owners_from, own_kinds}
use Rattle.fac_classes.proofs.ListLemmas.{same_number, itself, other_number, both, not_true, true_of_all}

-- A test of some number in a list.
pub any_true : (test : ℕ → Bool) (ms : List ℕ) (m : ℕ) → IsIn m ms → test m ≡ true → any test ms ≡ true
any_true test [] m q h = absurd q
any_true test (x ∷ ms) m (inl same) h = here (test x) (any test ms) (ap test (sym same) ∙ h)
  where
    here : (b c : Bool) → b ≡ true → elim b [ true ↦ true | false ↦ c ] ≡ true
    here true c e = refl
    here false c e = not_true e
any_true test (x ∷ ms) m (inr q) h = there (test x) (any test ms) (any_true test ms m q h)
  where
    there : (b c : Bool) → c ≡ true → elim b [ true ↦ true | false ↦ c ] ≡ true
    there true c e = refl
    there false c e = e

pub any_some : (test : ℕ → Bool) (ms : List ℕ) → any test ms ≡ true → (m : ℕ) × IsIn m ms × (test m ≡ true)
any_some test [] h = not_true h
any_some test (x ∷ ms) h = found (test x) refl h (any_some test ms)
  where
    found : (b : Bool) → test x ≡ b → elim b [ true ↦ true | false ↦ any test ms ] ≡ true → (any test ms ≡ true → (m : ℕ) × IsIn m ms × (test m ≡ true)) → (m : ℕ) × IsIn m (x ∷ ms) × (test m ≡ true)
    found true e h later = (x, inl refl, e)
    found false e h later = let r = later h in (r.0, inr r.1, r.2)

any_same : (p q : ℕ → Bool) (ms : List ℕ) → ((m : ℕ) → IsIn m ms → p m ≡ q m) → any p ms ≡ any q ms
any_same p q [] h = refl
any_same p q (m ∷ ms) h = one (p m) (q m) (h m (inl refl)) (any_same p q ms (λ x r. h x (inr r)))
  where
    one : (a b : Bool) → a ≡ b → any p ms ≡ any q ms → (let x : Bool = elim a [ true ↦ true | false ↦ any p ms ] in let y : Bool = elim b [ true ↦ true | false ↦ any q ms ] in x ≡ y)
    one true true e r = refl
    one false false e r = r
    one true false e r = not_true (sym e)
    one false true e r = not_true e

-- Where the ways down by members end, more depth changes nothing.
shape_stays : (f g : ℕ) (cs : List ClassDef) (c k : ℕ) → ((m : ℕ) → ends f cs m ≡ true → has_kind_within f cs m k ≡ has_kind_within g cs m k) → (o : Option Shape) → list_all (λ m. ends f cs m) (members_in o) ≡ true → shape_has (λ m. has_kind_within f cs m k) cs c o k ≡ shape_has (λ m. has_kind_within g cs m k) cs c o k
shape_stays f g cs c k more None h = refl
shape_stays f g cs c k more (Some (built_in j)) h = refl
shape_stays f g cs c k more (Some (tuple_class p ss)) h = refl
shape_stays f g cs c k more (Some (union ms)) h = any_same (λ m. has_kind_within f cs m k) (λ m. has_kind_within g cs m k) ms (λ m q. more m (true_of_all (λ x. ends f cs x) ms m h q))
shape_stays f g cs c k more (Some single) h = refl

has_stays : (f g : ℕ) (cs : List ClassDef) (c k : ℕ) → f ≤ g → ends f cs c ≡ true → has_kind_within f cs c k ≡ has_kind_within g cs c k
has_stays zero g cs c k le h = not_true h
has_stays (suc f) zero cs c k le h = absurd (omega (arith, le))
has_stays (suc f) (suc g) cs c k le h = shape_stays f g cs c k (λ m e. has_stays f g cs m k (omega (arith, le)) e) (shape_at cs c) h

-- A class has the kinds that its shape gives it, from those of its members.
pub kinds_by_shape : (cs : List ClassDef) → AreSound cs → (c k : ℕ) → c < length cs → has_kind cs c k ≡ shape_has (λ m. has_kind cs m k) cs c (shape_at cs c) k
kinds_by_shape [] s c k lt = absurd (omega (arith, lt))
kinds_by_shape (d ∷ ds) s c k lt = shape_stays (length ds) (suc (length ds)) (d ∷ ds) c k (λ m e. has_stays (length ds) (suc (length ds)) (d ∷ ds) m k (omega arith) e) (shape_at (d ∷ ds) c) (s.ending c lt)

pub is_class : (ds : List ClassDef) (c : ℕ) (s : Shape) → shape_at ds c ≡ Some s → c < length ds
is_class [] c s e = absurd cc
is_class (d ∷ ds) zero s e = omega arith
is_class (d ∷ ds) (suc c) s e = let lt = is_class ds c s e in omega (arith, lt)

pub kinds_of_shape : (cs : List ClassDef) → AreSound cs → (c k : ℕ) (s : Shape) → shape_at cs c ≡ Some s → has_kind cs c k ≡ shape_has (λ m. has_kind cs m k) cs c (Some s) k
kinds_of_shape cs sound c k s e = kinds_by_shape cs sound c k (is_class cs c s e) ∙ ap (λ (o : Option Shape). shape_has (λ m. has_kind cs m k) cs c o k) e

-- A class has the kinds of its members, and a union has no others.
pub member_kind : (cs : List ClassDef) → AreSound cs → (c m k : ℕ) → IsIn m (members cs c) → has_kind cs m k ≡ true → has_kind cs c k ≡ true
member_kind cs sound c m k q h = by (shape_at cs c) refl q
  where
    by : (o : Option Shape) → shape_at cs c ≡ o → IsIn m (members_in o) → has_kind cs c k ≡ true
    by None e q = absurd q
    by (Some (built_in j)) e q = absurd q
    by (Some (tuple_class p ss)) e q = absurd q
    by (Some (union ms)) e q = kinds_of_shape cs sound c k (union ms) e ∙ any_true (λ x. has_kind cs x k) ms m q h
    by (Some single) e q = absurd q

pub kind_of_member : (cs : List ClassDef) → AreSound cs → (c k : ℕ) (ms : List ℕ) → shape_at cs c ≡ Some (union ms) → has_kind cs c k ≡ true → (m : ℕ) × IsIn m ms × (has_kind cs m k ≡ true)
kind_of_member cs sound c k ms e h = any_some (λ x. has_kind cs x k) ms (sym (kinds_of_shape cs sound c k (union ms) e) ∙ h)

-- Own kinds: the class that has a kind as its own, and the own kind of a class.
own_least : (ds : List ClassDef) (k0 c k : ℕ) → own_kind k0 ds c ≡ Some k → k0 ≤ k
own_least [] k0 c k e = absurd cc
own_least (d ∷ ds) k0 zero k e = here (has_own d.shape) e
  where
    here : (b : Bool) → (let o : Option ℕ = elim b [ true ↦ Some k0 | false ↦ None ] in o ≡ Some k) → k0 ≤ k
    here true e = let same : k0 ≡ k = cc in omega (arith, same)
    here false e = absurd cc
own_least (d ∷ ds) k0 (suc c) k e = there (has_own d.shape) (own_least ds (suc k0) c k) (own_least ds k0 c k) e
  where
    there : (b : Bool) → (own_kind (suc k0) ds c ≡ Some k → suc k0 ≤ k) → (own_kind k0 ds c ≡ Some k → k0 ≤ k) → elim b [ true ↦ own_kind (suc k0) ds c | false ↦ own_kind k0 ds c ] ≡ Some k → k0 ≤ k
    there true f g e = let h = f e in omega (arith, h)
    there false f g e = g e

with_least : (ds : List ClassDef) (c0 i e : ℕ) → class_with c0 ds i ≡ Some e → 8 ≤ i
with_least [] c0 i e h = absurd cc
with_least (d ∷ ds) c0 i e h = by (has_own d.shape) (nat_eq i 8) refl (with_least ds (suc c0) (i - 1) e) (with_least ds (suc c0) i e) h
  where
    by : (b t : Bool) → nat_eq i 8 ≡ t → (class_with (suc c0) ds (i - 1) ≡ Some e → 8 ≤ i - 1) → (class_with (suc c0) ds i ≡ Some e → 8 ≤ i) → elim b [ true ↦ elim t [ true ↦ Some c0 | false ↦ class_with (suc c0) ds (i - 1) ] | false ↦ class_with (suc c0) ds i ] ≡ Some e → 8 ≤ i
    by true true q f g h = let same = same_number i 8 q in omega (arith, same)
    by true false q f g h = let le = f h in omega (arith, le)
    by false t q f g h = g h

pub class_of_own : (ds : List ClassDef) (k0 c0 c k i : ℕ) → own_kind k0 ds c ≡ Some k → i + k0 ≡ 8 + k → class_with c0 ds i ≡ Some (c0 + c)
class_of_own [] k0 c0 c k i e sum = absurd cc
class_of_own (d ∷ ds) k0 c0 zero k i e sum = here (has_own d.shape) (nat_eq i 8) refl e
  where
    here : (b t : Bool) → nat_eq i 8 ≡ t → (let o : Option ℕ = elim b [ true ↦ Some k0 | false ↦ None ] in o ≡ Some k) → elim b [ true ↦ elim t [ true ↦ Some c0 | false ↦ class_with (suc c0) ds (i - 1) ] | false ↦ class_with (suc c0) ds i ] ≡ Some (c0 + 0)
    here true true q e = let z : c0 ≡ c0 + 0 = omega arith in ap Some z
    here true false q e = let same : k0 ≡ k = cc in let eight : i ≡ 8 = omega (arith, same, sum) in not_true (sym q ∙ ap (λ (x : ℕ). nat_eq x 8) eight)
    here false t q e = absurd cc
class_of_own (d ∷ ds) k0 c0 (suc c) k i e sum = there (has_own d.shape) (nat_eq i 8) refl (class_of_own ds (suc k0) (suc c0) c k (i - 1)) (class_of_own ds k0 (suc c0) c k i) e
  where
    next : suc c0 + c ≡ c0 + suc c
    next = omega arith

    there : (b t : Bool) → nat_eq i 8 ≡ t → (own_kind (suc k0) ds c ≡ Some k → i - 1 + suc k0 ≡ 8 + k → class_with (suc c0) ds (i - 1) ≡ Some (suc c0 + c)) → (own_kind k0 ds c ≡ Some k → i + k0 ≡ 8 + k → class_with (suc c0) ds i ≡ Some (suc c0 + c)) →
        elim b [ true ↦ own_kind (suc k0) ds c | false ↦ own_kind k0 ds c ] ≡ Some k → elim b [ true ↦ elim t [ true ↦ Some c0 | false ↦ class_with (suc c0) ds (i - 1) ] | false ↦ class_with (suc c0) ds i ] ≡ Some (c0 + suc c)
    there true true q f g e = let low = own_least ds (suc k0) c k e in let same = same_number i 8 q in absurd (omega (arith, low, same, sum))
    there true false q f g e = let low = own_least ds (suc k0) c k e in f e (omega (arith, low, sum)) ∙ ap Some next
    there false t q f g e = g e sum ∙ ap Some next

pub own_of_class : (ds : List ClassDef) (k0 c0 i e : ℕ) → class_with c0 ds i ≡ Some e → (k : ℕ) → i + k0 ≡ 8 + k → (c : ℕ) × (e ≡ c0 + c) × (own_kind k0 ds c ≡ Some k)
own_of_class [] k0 c0 i e h k sum = absurd cc
own_of_class (d ∷ ds) k0 c0 i e h k sum = by (has_own d.shape) refl (nat_eq i 8) refl (own_of_class ds (suc k0) (suc c0) (i - 1) e) (own_of_class ds k0 (suc c0) i e) h
  where
    by : (b : Bool) → has_own d.shape ≡ b → (t : Bool) → nat_eq i 8 ≡ t →
        (class_with (suc c0) ds (i - 1) ≡ Some e → (k : ℕ) → i - 1 + suc k0 ≡ 8 + k → (c : ℕ) × (e ≡ suc c0 + c) × (own_kind (suc k0) ds c ≡ Some k)) →
        (class_with (suc c0) ds i ≡ Some e → (k : ℕ) → i + k0 ≡ 8 + k → (c : ℕ) × (e ≡ suc c0 + c) × (own_kind k0 ds c ≡ Some k)) →
        elim b [ true ↦ elim t [ true ↦ Some c0 | false ↦ class_with (suc c0) ds (i - 1) ] | false ↦ class_with (suc c0) ds i ] ≡ Some e → (c : ℕ) × (e ≡ c0 + c) × (own_kind k0 (d ∷ ds) c ≡ Some k)
    by true o true q f g h =
        let same : c0 ≡ e = cc in
        let eight = same_number i 8 q in
        let first : k0 ≡ k = omega (arith, eight, sum) in
        (0, omega (arith, same), ap (λ (b : Bool). let r : Option ℕ = elim b [ true ↦ Some k0 | false ↦ None ] in r) o ∙ ap Some first)
    by true o false q f g h =
        let low = with_least ds (suc c0) (i - 1) e h in
        let r = f h k (omega (arith, low, sum)) in
        (suc r.0, omega (arith, r.1), ap (λ (b : Bool). elim b [ true ↦ own_kind (suc k0) ds r.0 | false ↦ own_kind k0 ds r.0 ]) o ∙ r.2)
    by false o t q f g h =
        let r = g h k sum in
        (suc r.0, omega (arith, r.1), ap (λ (b : Bool). elim b [ true ↦ own_kind (suc k0) ds r.0 | false ↦ own_kind k0 ds r.0 ]) o ∙ r.2)

own_shape : (ds : List ClassDef) (k0 c k : ℕ) → own_kind k0 ds c ≡ Some k → (s : Shape) × (shape_at ds c ≡ Some s) × (has_own s ≡ true)
own_shape [] k0 c k e = absurd cc
own_shape (d ∷ ds) k0 zero k e = (d.shape, refl, here (has_own d.shape) e)
  where
    here : (b : Bool) → (let o : Option ℕ = elim b [ true ↦ Some k0 | false ↦ None ] in o ≡ Some k) → b ≡ true
    here true e = refl
    here false e = absurd cc
own_shape (d ∷ ds) k0 (suc c) k e = there (has_own d.shape) (own_shape ds (suc k0) c k) (own_shape ds k0 c k) e
  where
    there : (b : Bool) → (own_kind (suc k0) ds c ≡ Some k → (s : Shape) × (shape_at ds c ≡ Some s) × (has_own s ≡ true)) → (own_kind k0 ds c ≡ Some k → (s : Shape) × (shape_at ds c ≡ Some s) × (has_own s ≡ true)) → elim b [ true ↦ own_kind (suc k0) ds c | false ↦ own_kind k0 ds c ] ≡ Some k → (s : Shape) × (shape_at ds c ≡ Some s) × (has_own s ≡ true)
    there true f g e = f e
    there false f g e = g e

-- What is known of a kind and of the class that has it as its own.
pub record IsOwned (cs : List ClassDef) (k c : ℕ) : Type 0 where
  pub own : own_kind 8 cs c ≡ Some k
  pub from : 8 ≤ k
  pub shape : Shape
  pub shape_is : shape_at cs c ≡ Some shape
  pub owns : has_own shape ≡ true

pub is_owned : (cs : List ClassDef) (k c : ℕ) → class_with 0 cs k ≡ Some c → IsOwned cs k c
is_owned cs k c h =
    let r = own_of_class cs 8 0 k c h k (omega arith) in
    let same : r.0 ≡ c = omega (arith, r.1) in
    let own : own_kind 8 cs c ≡ Some k = subst (λ (x : ℕ). own_kind 8 cs x ≡ Some k) same r.2 in
    let s = own_shape cs 8 c k own in
    record { own = own; from = with_least cs 0 k c h; shape = s.0; shape_is = s.1; owns = s.2 }

pub owner_is : (cs : List ClassDef) (c k : ℕ) → own_kind 8 cs c ≡ Some k → class_with 0 cs k ≡ Some c
owner_is cs c k e = class_of_own cs 8 0 c k k e (omega arith) ∙ ap Some (let z : 0 + c ≡ c = omega arith in z)

-- The lists of the code.
pub owner_at : (ds : List ClassDef) (c0 j : ℕ) → slice_get (owners_from c0 ds) j ≡ class_with c0 ds (8 + j)
owner_at [] c0 j = refl
owner_at (d ∷ ds) c0 zero = by (has_own d.shape) (owner_at ds (suc c0) zero)
  where
    by : (b : Bool) → slice_get (owners_from (suc c0) ds) 0 ≡ class_with (suc c0) ds 8 → slice_get (elim b [ true ↦ c0 ∷ owners_from (suc c0) ds | false ↦ owners_from (suc c0) ds ]) 0 ≡ elim b [ true ↦ Some c0 | false ↦ class_with (suc c0) ds 8 ]
    by true h = refl
    by false h = h
owner_at (d ∷ ds) c0 (suc j) = by (has_own d.shape) (nat_eq (8 + suc j) 8) (other_number (8 + suc j) 8 (λ e. omega (arith, e))) (owner_at ds (suc c0) j) (owner_at ds (suc c0) (suc j))
  where
    by : (b t : Bool) → t ≡ false → slice_get (owners_from (suc c0) ds) j ≡ class_with (suc c0) ds (8 + j) → slice_get (owners_from (suc c0) ds) (suc j) ≡ class_with (suc c0) ds (8 + suc j) →
        slice_get (elim b [ true ↦ c0 ∷ owners_from (suc c0) ds | false ↦ owners_from (suc c0) ds ]) (suc j) ≡ elim b [ true ↦ elim t [ true ↦ Some c0 | false ↦ class_with (suc c0) ds (8 + suc j - 1) ] | false ↦ class_with (suc c0) ds (8 + suc j) ]
    by true true q h k = not_true (sym q)
    by true false q h k = h ∙ ap (class_with (suc c0) ds) (let e : 8 + j ≡ 8 + suc j - 1 = omega arith in e)
    by false t q h k = k

pub owner_count : (ds : List ClassDef) (c0 : ℕ) → length (owners_from c0 ds) ≡ own_count ds
owner_count [] c0 = refl
owner_count (d ∷ ds) c0 = by (has_own d.shape) (owner_count ds (suc c0))
  where
    by : (b : Bool) → length (owners_from (suc c0) ds) ≡ own_count ds → (let xs : List ℕ = elim b [ true ↦ c0 ∷ owners_from (suc c0) ds | false ↦ owners_from (suc c0) ds ] in let n : ℕ = elim b [ true ↦ suc (own_count ds) | false ↦ own_count ds ] in length xs ≡ n)
    by true h = ap suc h
    by false h = h

pub own_kind_at : (ds : List ClassDef) (k0 c : ℕ) → c < length ds → slice_get (own_kinds k0 ds) c ≡ Some (own_kind k0 ds c)
own_kind_at [] k0 c lt = absurd (omega (arith, lt))
own_kind_at (d ∷ ds) k0 zero lt = by (has_own d.shape)
  where
    by : (b : Bool) → slice_get (elim b [ true ↦ Some k0 ∷ own_kinds (suc k0) ds | false ↦ None ∷ own_kinds k0 ds ]) 0 ≡ Some (elim b [ true ↦ Some k0 | false ↦ None ])
    by true = refl
    by false = refl
own_kind_at (d ∷ ds) k0 (suc c) lt = by (has_own d.shape) (own_kind_at ds (suc k0) c (omega (arith, lt))) (own_kind_at ds k0 c (omega (arith, lt)))
  where
    by : (b : Bool) → slice_get (own_kinds (suc k0) ds) c ≡ Some (own_kind (suc k0) ds c) → slice_get (own_kinds k0 ds) c ≡ Some (own_kind k0 ds c) → slice_get (elim b [ true ↦ Some k0 ∷ own_kinds (suc k0) ds | false ↦ None ∷ own_kinds k0 ds ]) (suc c) ≡ Some (elim b [ true ↦ own_kind (suc k0) ds c | false ↦ own_kind k0 ds c ])
    by true f g = f
    by false f g = g

-- Parents: a class has the own kind of each class below it.
pub descends_itself : (f : ℕ) (cs : List ClassDef) (c : ℕ) → descends f cs c c ≡ true
descends_itself zero cs c = itself c
descends_itself (suc f) cs c = by (nat_eq c c) (itself c)
  where
    by : (b : Bool) → b ≡ true → elim b [ true ↦ true | false ↦ elim (parent_in (shape_at cs c)) [ None ↦ false | Some p ↦ descends f cs c p ] ] ≡ true
    by true e = refl
    by false e = not_true e

-- one step up: from a class without a parent, and from one with a parent
pub no_step_up : (f : ℕ) (cs : List ClassDef) (a c : ℕ) → parent_in (shape_at cs a) ≡ None → descends f cs c a ≡ true → c ≡ a
no_step_up zero cs a c e h = same_number c a h
no_step_up (suc f) cs a c e h = by (nat_eq c a) refl (parent_in (shape_at cs a)) e h
  where
    by : (b : Bool) → nat_eq c a ≡ b → (o : Option ℕ) → o ≡ None → elim b [ true ↦ true | false ↦ elim o [ None ↦ false | Some p ↦ descends f cs c p ] ] ≡ true → c ≡ a
    by true q o e h = same_number c a q
    by false q None e h = not_true h
    by false q (Some p) e h = absurd cc

pub step_up : (f : ℕ) (cs : List ClassDef) (a p c : ℕ) → parent_in (shape_at cs a) ≡ Some p → descends (suc f) cs c a ≡ true → (c ≡ a) ⊎ (descends f cs c p ≡ true)
step_up f cs a p c e h = by (nat_eq c a) refl (parent_in (shape_at cs a)) e h
  where
    by : (b : Bool) → nat_eq c a ≡ b → (o : Option ℕ) → o ≡ Some p → elim b [ true ↦ true | false ↦ elim o [ None ↦ false | Some r ↦ descends f cs c r ] ] ≡ true → (c ≡ a) ⊎ (descends f cs c p ≡ true)
    by true q o e h = inl (same_number c a q)
    by false q None e h = absurd cc
    by false q (Some r) e h = let same : r ≡ p = cc in inr (subst (λ (x : ℕ). descends f cs c x ≡ true) same h)

pub step_down : (f : ℕ) (cs : List ClassDef) (a p c : ℕ) → parent_in (shape_at cs a) ≡ Some p → descends f cs c p ≡ true → descends (suc f) cs c a ≡ true
step_down f cs a p c e h = by (nat_eq c a) (parent_in (shape_at cs a)) e
  where
    by : (b : Bool) (o : Option ℕ) → o ≡ Some p → elim b [ true ↦ true | false ↦ elim o [ None ↦ false | Some r ↦ descends f cs c r ] ] ≡ true
    by true o e = refl
    by false None e = absurd cc
    by false (Some r) e = let same : p ≡ r = cc in subst (λ (x : ℕ). descends f cs c x ≡ true) same h

tuple_above : (f : ℕ) (cs : List ClassDef) → AreSound cs → (a c : ℕ) → descends f cs c a ≡ true → is_tuple (shape_at cs a) ≡ true → is_tuple (shape_at cs c) ≡ true
tuple_above zero cs s a c h t = subst (λ (x : ℕ). is_tuple (shape_at cs x) ≡ true) (sym (same_number c a h)) t
tuple_above (suc f) cs s a c h t = by (λ p r q. tuple_above f cs s p c r q) (parent_in (shape_at cs a)) refl
  where
    by : ((p : ℕ) → descends f cs c p ≡ true → is_tuple (shape_at cs p) ≡ true → is_tuple (shape_at cs c) ≡ true) → (o : Option ℕ) → parent_in (shape_at cs a) ≡ o → is_tuple (shape_at cs c) ≡ true
    by more None e = subst (λ (x : ℕ). is_tuple (shape_at cs x) ≡ true) (sym (no_step_up (suc f) cs a c e h)) t
    by more (Some p) e = elim (step_up f cs a p c e h) [ inl same ↦ subst (λ (x : ℕ). is_tuple (shape_at cs x) ≡ true) (sym same) t | inr r ↦ more p r (s.parents a p e) ]

-- a class with a class below it that owns a kind has the kind
pub own_kind_above : (cs : List ClassDef) → AreSound cs → (c d k : ℕ) → class_with 0 cs k ≡ Some d → descends (length cs) cs c d ≡ true → has_kind cs c k ≡ true
own_kind_above cs sound c d k h up = let o = is_owned cs k d h in by o o.shape o.shape_is o.owns
  where
    tuple : IsOwned cs k d → (s : Option Shape) → shape_at cs c ≡ s → is_tuple s ≡ true → has_kind cs c k ≡ true
    tuple o None e t = not_true t
    tuple o (Some (built_in j)) e t = not_true t
    tuple o (Some (tuple_class p ss)) e t = kinds_of_shape cs sound c k (tuple_class p ss) e ∙ both (nat_le 8 k) (descends_if (length cs) cs c (class_with 0 cs k)) (low k o.from) (ap (descends_if (length cs) cs c) h ∙ up)
      where
        low : (k : ℕ) → 8 ≤ k → nat_le 8 k ≡ true
        low k le = grind arith
    tuple o (Some (union ms)) e t = not_true t
    tuple o (Some single) e t = not_true t

    alone : IsOwned cs k d → c ≡ d → shape_at cs d ≡ Some single → has_kind cs c k ≡ true
    alone o same e = subst (λ (x : ℕ). has_kind cs x k ≡ true) (sym same) (kinds_of_shape cs sound d k single e ∙ ap (λ (r : Option ℕ). elim r [ None ↦ false | Some j ↦ nat_eq j k ]) o.own ∙ itself k)

    by : IsOwned cs k d → (s : Shape) → shape_at cs d ≡ Some s → has_own s ≡ true → has_kind cs c k ≡ true
    by o (built_in j) e t = not_true t
    by o (tuple_class p ss) e t = tuple o (shape_at cs c) refl (tuple_above (length cs) cs sound d c up (ap is_tuple e))
    by o (union ms) e t = not_true t
    by o single e t = alone o (no_step_up (length cs) cs d c (ap parent_in e) up) e

-- and tuple classes and singletons have no others
pub own_kind_below : (cs : List ClassDef) → AreSound cs → (c k : ℕ) (s : Shape) → shape_at cs c ≡ Some s → has_own s ≡ true → has_kind cs c k ≡ true → (d : ℕ) × (class_with 0 cs k ≡ Some d) × (descends (length cs) cs c d ≡ true)
own_kind_below cs sound c k (built_in j) e t h = not_true t
own_kind_below cs sound c k (tuple_class p ss) e t h = by (nat_le 8 k) (class_with 0 cs k) refl (sym (kinds_of_shape cs sound c k (tuple_class p ss) e) ∙ h)
  where
    by : (b : Bool) (o : Option ℕ) → class_with 0 cs k ≡ o → (b && descends_if (length cs) cs c o) ≡ true → (d : ℕ) × (class_with 0 cs k ≡ Some d) × (descends (length cs) cs c d ≡ true)
    by true None q h = not_true h
    by true (Some d) q h = (d, q, h)
    by false o q h = not_true h
own_kind_below cs sound c k (union ms) e t h = not_true t
own_kind_below cs sound c k single e t h = by (own_kind 8 cs c) refl (sym (kinds_of_shape cs sound c k single e) ∙ h)
  where
    by : (o : Option ℕ) → own_kind 8 cs c ≡ o → elim o [ None ↦ false | Some j ↦ nat_eq j k ] ≡ true → (d : ℕ) × (class_with 0 cs k ≡ Some d) × (descends (length cs) cs c d ≡ true)
    by None q h = not_true h
    by (Some j) q h = (c, owner_is cs c k (q ∙ ap Some (same_number j k h)), descends_itself (length cs) cs c)
