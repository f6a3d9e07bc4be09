-- The rows of unions are joined from those of their members, and the table is whole.
use Rattle.std.proofs.Common.{◌≡◌, ◌<◌, ◌≤◌, ◌⊎◌, inl, inr, ℕ, zero, suc, ◌+◌, ◌*◌, List, [], ◌∷◌, ◌++◌, length, take, get_or, set, replicate, Bool, true, false, refl, sym, ap, ◌∙◌, subst, arith}
use Rattle.std.specs.Prelude.{Option, Some, None, slice_get}
use Rattle.std.proofs.lemmas.List.{take_more}
use Rattle.std.proofs.lemmas.Option.{slice_get-get_or}
use Rattle.fac_lang.specs.declared.program.ClassDef.{ClassDef}
use Rattle.fac_lang.specs.declared.program.Shape.{Shape}
use Rattle.fac_lang.specs.declared.program.Shape.TheVariants.{Kind as built_in, Tuple as tuple_class, Union as union, Single as single}
use Rattle.fac_lang.specs.Classes.{shape_at, has_kind}
use Rattle.fac_classes.specs.ClassKinds.{kind_total}
use Rattle.fac_classes.specs.inner.Members.{IsIn, members, members_in, built_in_in, AreSound}
use Rattle.fac_classes.specs.inner.Cells.{cell, Grows, Joins, IsRight, IsFull, IsTable}
use Rattle.fac_classes.specs.inner.Filling.{LaysBuiltIns, LaysOwners, HasSimple, Remembers, JoinsMember, again, first, JoinsMembers, JoinsUnions}
use Rattle.fac_classes.specs.inner.Visits.{IsOrder}
use Rattle.fac_classes.proofs.ListLemmas.{not_true, same_bool}
use Rattle.fac_classes.proofs.KindLemmas.{kind_of_member, member_kind, is_class}
use Rattle.fac_classes.proofs.CellLemmas.{grows_on, joins_right, full_grows}
use Rattle.fac_classes.proofs.VisitLemmas.{in_either, in_at}

pub some_same : {A : Type 0} → (x y : A) → Some x ≡ Some y → x ≡ y
some_same x y e = cc

-- What is remembered of a list in which one place is set.
at_set : {A : Type 0} → (xs : List A) (i j : ℕ) (y z : A) → slice_get (set xs i y) j ≡ Some z → ((j ≡ i) × (z ≡ y)) ⊎ (slice_get xs j ≡ Some z)
at_set [] i j y z e = inr e
at_set (x ∷ xs) zero zero y z e = inl (refl, sym (some_same y z e))
at_set (x ∷ xs) zero (suc j) y z e = inr e
at_set (x ∷ xs) (suc i) zero y z e = inr e
at_set (x ∷ xs) (suc i) (suc j) y z e = elim (at_set xs i j y z e) [ inl p ↦ inl (ap suc p.0, p.1) | inr p ↦ inr p ]

remembers_grown : (cs : List ClassDef) (w : ℕ) (last : List (Option ℕ)) (a b : List Bool) → Grows w a b → Remembers cs w last a → Remembers cs w last b
remembers_grown cs w last a b g r m c k e lt h = g c k lt (r m c k e lt h)

remembers_set : (cs : List ClassDef) (w c m : ℕ) (last : List (Option ℕ)) (a b : List Bool) → Joins w c m a b → IsFull cs w a m → Remembers cs w last a → Remembers cs w (set last m (Some c)) b
remembers_set cs w c m last a b j full r n d k e lt h =
    elim (at_set last m n (Some c) (Some d) e) [
      | inl p ↦ subst (λ (x : ℕ). cell w b x k ≡ true) (sym (some_same d c p.1)) (j.joined k lt (full k lt (ap (λ (x : ℕ). has_kind cs x k) (sym p.0) ∙ h)))
      | inr p ↦ j.grows d k lt (r n d k p lt h)
    ]

-- One member more.
pub members_start : (cs : List ClassDef) (w c : ℕ) (cells : List Bool) (last : List (Option ℕ)) → IsRight cs w cells → Remembers cs w last cells → JoinsMembers cs w c [] cells cells last
members_start cs w c cells last right r = record { grows = λ d j lt h. h; right = right; remembers = r; joined = λ m k q lt h. absurd q }

member_more : (cs : List ClassDef) (w c m : ℕ) (ms : List ℕ) (x a b : List Bool) (last : List (Option ℕ)) → Grows w a b → JoinsMembers cs w c ms x a last → ((k : ℕ) → k < w → has_kind cs m k ≡ true → cell w b c k ≡ true) → (n k : ℕ) → IsIn n (ms ++ m ∷ []) → k < w → has_kind cs n k ≡ true → cell w b c k ≡ true
member_more cs w c m ms x a b last g j one n k q lt h =
    elim (in_either n ms (m ∷ []) q) [
      | inl p ↦ g c k lt (j.joined n k p lt h)
      | inr p ↦ elim p [ inl e ↦ one k lt (ap (λ (x : ℕ). has_kind cs x k) (sym e) ∙ h) | inr z ↦ absurd z ]
    ]

pub members_more : (cs : List ClassDef) → AreSound cs → (w c m : ℕ) (ms : List ℕ) (x a b : List Bool) (last later : List (Option ℕ)) → IsIn m (members cs c) → IsFull cs w x m → JoinsMembers cs w c ms x a last → JoinsMember w c m last a later b → JoinsMembers cs w c (ms ++ m ∷ []) x b later
members_more cs sound w c m ms x a b last later q full j (again known l e) =
    subst (λ (ys : List (Option ℕ)). JoinsMembers cs w c (ms ++ m ∷ []) x b ys) (sym l) (subst (λ (bs : List Bool). JoinsMembers cs w c (ms ++ m ∷ []) x bs last) (sym e)
    (record {
      grows = j.grows;
      right = j.right;
      remembers = j.remembers;
      joined = member_more cs w c m ms x a a last (λ d i lt h. h) j (λ k lt h. j.remembers m c k known lt h);
    }))
members_more cs sound w c m ms x a b last later q full j (first n l) =
    subst (λ (ys : List (Option ℕ)). JoinsMembers cs w c (ms ++ m ∷ []) x b ys) (sym l)
    (record {
      grows = grows_on w x a b j.grows n.grows;
      right = joins_right cs w c m a b j.right (sound.member_classes c m q) (λ k h. member_kind cs sound c m k q h) n;
      remembers = remembers_set cs w c m last a b n (full_grows cs w m x a j.grows full) j.remembers;
      joined = member_more cs w c m ms x a b last n.grows j (λ k lt h. n.joined k lt (j.grows m k lt (full k lt h)));
    })

pub joined_all : (cs : List ClassDef) (w c : ℕ) (ms ns : List ℕ) (x a : List Bool) (last : List (Option ℕ)) → ms ≡ ns → JoinsMembers cs w c ms x a last → JoinsMembers cs w c ns x a last
joined_all cs w c ms ns x a last e j = subst (λ (ys : List ℕ). JoinsMembers cs w c ys x a last) e j

pub item_in : (xs : List ℕ) (i : ℕ) → i < length xs → IsIn (get_or xs i 0) xs
item_in xs i lt = in_at (get_or xs i 0) xs i (slice_get-get_or xs i 0 lt)

pub member_in : (cs : List ClassDef) (c i : ℕ) (ms : List ℕ) → ms ≡ members cs c → i < length ms → IsIn (get_or ms i 0) (members cs c)
member_in cs c i ms e lt = subst (λ (xs : List ℕ). IsIn (get_or ms i 0) xs) e (item_in ms i lt)

-- One class more of the order.
pub record UnionsSoFar (cs : List ClassDef) (w i : ℕ) (order : List ℕ) (cells : List Bool) (last : List (Option ℕ)) : Type 0 where
  pub right : IsRight cs w cells
  pub remembers : Remembers cs w last cells
  pub simple : HasSimple cs w cells
  pub full : (c : ℕ) → IsIn c (take i order) → IsFull cs w cells c

no_memory : (n m c : ℕ) → slice_get (replicate {A = Option ℕ} n None) m ≡ Some (Some c) → ⊥
no_memory zero m c e = cc
no_memory (suc n) zero c e = cc
no_memory (suc n) (suc m) c e = no_memory n m c e

pub remembers_none : (cs : List ClassDef) (w n : ℕ) (cells : List Bool) (last : List (Option ℕ)) → last ≡ replicate n None → Remembers cs w last cells
remembers_none cs w n cells last e m c k f lt h = absurd (no_memory n m c (ap (λ (xs : List (Option ℕ)). slice_get xs m) (sym e) ∙ f))

pub unions_start : (cs : List ClassDef) (w : ℕ) (order : List ℕ) (cells : List Bool) (last : List (Option ℕ)) → Remembers cs w last cells → IsRight cs w cells → HasSimple cs w cells → UnionsSoFar cs w 0 order cells last
unions_start cs w order cells last known right simple = record { right = right; remembers = known; simple = simple; full = λ c q. absurd q }

pub order_here : (cs : List ClassDef) (w i m : ℕ) (order : List ℕ) (cells : List Bool) (last : List (Option ℕ)) → IsOrder cs order → i < length order → UnionsSoFar cs w i order cells last → IsIn m (members cs (get_or order i 0)) → IsFull cs w cells m
order_here cs w i m order cells last o lt u q = u.full m (o.behind i (get_or order i 0) m (slice_get-get_or order i 0 lt) q)

pub order_low : (cs : List ClassDef) (i : ℕ) (order : List ℕ) → IsOrder cs order → i < length order → get_or order i 0 < length cs
order_low cs i order o lt = o.low (get_or order i 0) (in_at (get_or order i 0) order i (slice_get-get_or order i 0 lt))

class_full : (cs : List ClassDef) → AreSound cs → (w c : ℕ) (a b : List Bool) (last : List (Option ℕ)) → HasSimple cs w b → JoinsMembers cs w c (members cs c) a b last → (o : Option Shape) → shape_at cs c ≡ o → c < length cs → IsFull cs w b c
class_full cs sound w c a b last simple j None e lt = absurd (no_shape cs c lt e)
  where
    no_shape : (ds : List ClassDef) (c : ℕ) → c < length ds → shape_at ds c ≡ None → ⊥
    no_shape [] c lt e = absurd (omega (arith, lt))
    no_shape (d ∷ ds) zero lt e = cc
    no_shape (d ∷ ds) (suc c) lt e = no_shape ds c (omega (arith, lt)) e
class_full cs sound w c a b last simple j (Some (built_in i)) e lt = simple c (built_in i) e refl
class_full cs sound w c a b last simple j (Some (tuple_class p ss)) e lt = simple c (tuple_class p ss) e refl
class_full cs sound w c a b last simple j (Some (union ms)) e lt = by
  where
    by : IsFull cs w b c
    by k under h = let r = kind_of_member cs sound c k ms e h in j.joined r.0 k (subst (λ (o : Option Shape). IsIn r.0 (members_in o)) (sym e) r.1) under r.2
class_full cs sound w c a b last simple j (Some single) e lt = simple c single e refl

pub unions_more : (cs : List ClassDef) → AreSound cs → (w i : ℕ) (order : List ℕ) (a b : List Bool) (last later : List (Option ℕ)) → IsOrder cs order → i < length order → UnionsSoFar cs w i order a last → JoinsMembers cs w (get_or order i 0) (members cs (get_or order i 0)) a b later → UnionsSoFar cs w (i + 1) order b later
unions_more cs sound w i order a b last later o lt u j =
    let simple : HasSimple cs w b = λ c s e n. full_grows cs w c a b j.grows (u.simple c s e n) in
    record {
      right = j.right;
      remembers = j.remembers;
      simple = simple;
      full = λ c q. more simple c (in_either c (take i order) (get_or order i 0 ∷ []) (subst (λ (xs : List ℕ). IsIn c xs) (take_more order i 0 lt) q));
    }
  where
    more : HasSimple cs w b → (c : ℕ) → IsIn c (take i order) ⊎ IsIn c (get_or order i 0 ∷ []) → IsFull cs w b c
    more simple c (inl q) = full_grows cs w c a b j.grows (u.full c q)
    more simple c (inr (inl e)) = subst (λ (x : ℕ). IsFull cs w b x) (sym e) (class_full cs sound w (get_or order i 0) a b later simple j (shape_at cs (get_or order i 0)) refl (order_low cs i order o lt))
    more simple c (inr (inr z)) = absurd z

take_all_of : (i : ℕ) (xs : List ℕ) → length xs ≤ i → take i xs ≡ xs
take_all_of zero [] le = refl
take_all_of (suc i) [] le = refl
take_all_of zero (x ∷ xs) le = absurd (omega (arith, le))
take_all_of (suc i) (x ∷ xs) le = ap (λ (ys : List ℕ). x ∷ ys) (take_all_of i xs (omega (arith, le)))

pub unions_all : (cs : List ClassDef) (w i : ℕ) (order : List ℕ) (a : List Bool) (last : List (Option ℕ)) → IsOrder cs order → length order ≤ i → UnionsSoFar cs w i order a last → JoinsUnions cs w a
unions_all cs w i order a last o le u = record { right = u.right; full = λ c lt. u.full c (subst (λ (xs : List ℕ). IsIn c xs) (sym (take_all_of i order le)) (o.all c lt)) }

-- The whole table.
blank : (n p : ℕ) → get_or (replicate n false) p false ≡ true → ⊥
blank zero p h = not_true h
blank (suc n) zero h = not_true h
blank (suc n) (suc p) h = blank n p h

pub blank_right : (cs : List ClassDef) (w n : ℕ) (cells : List Bool) → cells ≡ replicate n false → IsRight cs w cells
unfolding cell
blank_right cs w n cells e c k low lt h = absurd (blank n (c * w + k) (ap (λ (bs : List Bool). get_or bs (c * w + k) false) (sym e) ∙ h))

built_in_here : (cs : List ClassDef) (w : ℕ) (a b : List Bool) → LaysBuiltIns cs w (length cs) a b → (c j : ℕ) → shape_at cs c ≡ Some (built_in j) → IsFull cs w b c
built_in_here cs w a b l c j e = l.full c j (is_class cs c (built_in j) e) (ap built_in_in e)

pub simple_by : (cs : List ClassDef) (w : ℕ) (x a b : List Bool) → LaysBuiltIns cs w (length cs) x a → LaysOwners cs w a b → HasSimple cs w b
simple_by cs w x a b l m c (built_in j) e n = full_grows cs w c a b m.grows (built_in_here cs w x a l c j e)
simple_by cs w x a b l m c (tuple_class p ss) e n = m.full c (tuple_class p ss) e refl
simple_by cs w x a b l m c (union ms) e n = not_true (sym n)
simple_by cs w x a b l m c single e n = m.full c single e refl

pub table_by : (cs : List ClassDef) (w : ℕ) (cells : List Bool) → w ≡ kind_total cs → length cells ≡ length cs * w → JoinsUnions cs w cells → IsTable cs w cells
table_by cs w cells width sized j =
    record { width = width; sized = sized; exact = λ c k low lt. same_bool (cell w cells c k) (has_kind cs c k) (λ h. j.right c k low lt h) (λ h. j.full c low k lt h) }
