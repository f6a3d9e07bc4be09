-- Slots along chains of parents, where no class reaches itself.
use Rattle.std.proofs.Common.{◌≡◌, ◌≤◌, ◌+◌, ◌⊎◌, inl, inr, ℕ, zero, suc, nat_eq, List, [], ◌∷◌, ◌++◌, length, Option, Some, None, Bool, true, false, refl, ap, sym, ◌∙◌, subst, arith, length-append}
use Rattle.std.specs.Prelude.{◌||◌, if◌then◌else◌}
use Rattle.std.specs.List.{list_any}
use Rattle.std.specs.Str.{bytes_eq}
use Rattle.std.proofs.lemmas.List.Folds.{list_any-append}
use Rattle.fac_lang.specs.Classes.{shape_at, parent_in, slots_within}
use Rattle.fac_lang.specs.Whole.{no_two, parts_of, reaches}
use Rattle.fac_lang.specs.declared.program.ClassDef.{ClassDef}
use Rattle.fac_lang.specs.declared.program.Shape.{Shape}
use Rattle.fac_lang.specs.declared.program.Shape.TheVariants.{Kind as built_in, Tuple as tuple_class, Union as union, Single as single}
use Rattle.fac_endings.specs.ClassTable.{inherited, parents, parents_from, slots_at}
use Rattle.fac_endings.specs.inner.Chains.{slots_of}
use Rattle.fac_endings.specs.inner.Finishes.{line, slots_last}
use Rattle.fac_endings.proofs.Apart.{AreApart, IsWithin, apart_differ, differ_behind, false_both, in_within, or_false}
use Rattle.fac_endings.proofs.EarlierClasses.{DoSlotsStand}
use Rattle.fac_endings.proofs.FinishLemmas.{slots_line}

-- Reaching.

or_there : (a b : Bool) → b ≡ true → (a || b) ≡ true
or_there true b e = refl
or_there false b e = e

first_more : (b c d e : Bool) → (b ≡ true → c ≡ true) → (d ≡ true → e ≡ true) → (b || d) ≡ true → (c || e) ≡ true
first_more true c d e f g h = ap (λ (x : Bool). x || e) (f refl)
first_more false c d e f g h = or_there c e (g h)

any_more : (f g : ℕ → Bool) → ((x : ℕ) → f x ≡ true → g x ≡ true) → (xs : List ℕ) → list_any f xs ≡ true → list_any g xs ≡ true
any_more f g h [] k = k
any_more f g h (x ∷ xs) k = first_more (f x) (g x) (list_any f xs) (list_any g xs) (h x) (any_more f g h xs) k

same_there : (x : ℕ) → nat_eq x x ≡ true
same_there x = grind arith

one_eq : (a b : ℕ) → nat_eq a b ≡ true → a ≡ b
one_eq a b h = grind arith

reaches_more : (n : ℕ) (cs : List ClassDef) (c d : ℕ) → reaches n cs c d ≡ true → reaches (suc n) cs c d ≡ true
reaches_more zero cs c d h = cc
reaches_more (suc n) cs c d h =
    any_more (λ e. nat_eq c e || reaches n cs c e) (λ e. nat_eq c e || reaches (suc n) cs c e)
    (λ e is. first_more (nat_eq c e) (nat_eq c e) (reaches n cs c e) (reaches (suc n) cs c e) (λ same. same) (λ far. reaches_more n cs c e far) is)
    (parts_of (shape_at cs d)) h

reaches_within : (m n : ℕ) (cs : List ClassDef) (c d : ℕ) → reaches m cs c d ≡ true → reaches (n + m) cs c d ≡ true
reaches_within m zero cs c d h = subst (λ (k : ℕ). reaches k cs c d ≡ true) (let e : m ≡ 0 + m = omega arith in e) h
reaches_within m (suc n) cs c d h = subst (λ (k : ℕ). reaches k cs c d ≡ true) (let e : suc (n + m) ≡ suc n + m = omega arith in e) (reaches_more (n + m) cs c d (reaches_within m n cs c d h))

-- a class reaches its parent
parent_part : (o : Option Shape) (p : ℕ) → parent_in o ≡ Some p → parts_of o ≡ p ∷ []
parent_part None p h = absurd (cc)
parent_part (Some (tuple_class None slots)) p h = absurd (cc)
parent_part (Some (tuple_class (Some q) slots)) p h = let same : q ≡ p = cc in ap (λ (x : ℕ). x ∷ []) same
parent_part (Some (built_in j)) p h = absurd (cc)
parent_part (Some (union ms)) p h = absurd (cc)
parent_part (Some single) p h = absurd (cc)

parent_reached : (n : ℕ) (cs : List ClassDef) (d p : ℕ) → parent_in (shape_at cs d) ≡ Some p → reaches (suc n) cs p d ≡ true
parent_reached n cs d p h =
    ap (list_any (λ e. nat_eq p e || reaches n cs p e)) (parent_part (shape_at cs d) p h)
    ∙ ap (λ (b : Bool). (b || reaches n cs p p) || false) (same_there p)

-- from what is reached to its parent
at_parent : (n : ℕ) (cs : List ClassDef) (d p e : ℕ) → parent_in (shape_at cs d) ≡ Some p → nat_eq d e ≡ true → reaches (suc n) cs p e ≡ true
at_parent n cs d p e is same = subst (λ (k : ℕ). reaches (suc n) cs p k ≡ true) (one_eq d e same) (parent_reached n cs d p is)

far_parent : (a b c d : Bool) → (a ≡ true → d ≡ true) → (b ≡ true → d ≡ true) → (a || b) ≡ true → (c || d) ≡ true
far_parent true b c d f g h = or_there c d (f refl)
far_parent false b c d f g h = or_there c d (g h)

reached_parent : (n : ℕ) (cs : List ClassDef) (d p x : ℕ) → parent_in (shape_at cs d) ≡ Some p → reaches n cs d x ≡ true → reaches (suc n) cs p x ≡ true
reached_parent zero cs d p x is h = cc
reached_parent (suc n) cs d p x is h =
    any_more (λ e. nat_eq d e || reaches n cs d e) (λ e. nat_eq p e || reaches (suc n) cs p e)
    (λ e there. far_parent (nat_eq d e) (reaches n cs d e) (nat_eq p e) (reaches (suc n) cs p e) (λ same. at_parent n cs d p e is same) (λ far. reached_parent n cs d p e is far) there)
    (parts_of (shape_at cs x)) h

-- Chains.

-- no class reaches itself
abbrev pub AreAcyclic : List ClassDef → Type 0
AreAcyclic cs = (c : ℕ) → reaches (length cs) cs c c ≡ false

-- from each of these a chain has come to a class, in at most so many steps
abbrev Lead : ℕ → List ClassDef → ℕ → List ℕ → Type 0
Lead n cs d [] = Unit {0}
Lead n cs d (x ∷ xs) = ((x ≡ d) ⊎ (reaches n cs d x ≡ true)) × Lead n cs d xs

one_leads : (n : ℕ) (cs : List ClassDef) (d p x : ℕ) → parent_in (shape_at cs d) ≡ Some p → (x ≡ d) ⊎ (reaches n cs d x ≡ true) → reaches (suc n) cs p x ≡ true
one_leads n cs d p x is (inl same) = subst (λ (k : ℕ). reaches (suc n) cs p k ≡ true) (sym same) (parent_reached n cs d p is)
one_leads n cs d p x is (inr far) = reached_parent n cs d p x is far

lead_on : (n : ℕ) (cs : List ClassDef) (d p : ℕ) (xs : List ℕ) → parent_in (shape_at cs d) ≡ Some p → Lead n cs d xs → Lead (suc n) cs p xs
lead_on n cs d p [] is h = tt
lead_on n cs d p (x ∷ xs) is h = (inr (one_leads n cs d p x is h.0), lead_on n cs d p xs is h.1)

-- the parent is none of the classes of the chain
parent_new : (n k : ℕ) (cs : List ClassDef) (d p : ℕ) (xs : List ℕ) → AreAcyclic cs → k + suc n ≡ length cs → parent_in (shape_at cs d) ≡ Some p → Lead n cs d xs → list_any (nat_eq p) xs ≡ false
parent_new n k cs d p [] acyclic few is h = refl
parent_new n k cs d p (x ∷ xs) acyclic few is h = or_false (nat_eq p x) (list_any (nat_eq p) xs) (one (nat_eq p x) refl) (parent_new n k cs d p xs acyclic few is h.1)
  where
    never : reaches (length cs) cs p p ≡ true → ⊥
    never e = let none = acyclic p in cc

    one : (b : Bool) → nat_eq p x ≡ b → b ≡ false
    one false e = refl
    one true e =
        absurd (never (subst (λ (m : ℕ). reaches m cs p p ≡ true) few (reaches_within (suc n) k cs p p (subst (λ (y : ℕ). reaches (suc n) cs p y ≡ true) (sym (one_eq p x e)) (one_leads n cs d p x is h.0)))))

-- the parents of a class are its chain
parents_from_line : (n k : ℕ) (cs : List ClassDef) (d : ℕ) (met : List ℕ) (o : Option ℕ) → AreAcyclic cs → k + n ≡ length cs → parent_in (shape_at cs d) ≡ o → Lead k cs d met → parents n cs met d ≡ line n cs o
parents_from_line zero k cs d met None acyclic few is h = refl
parents_from_line zero k cs d met (Some p) acyclic few is h = refl
parents_from_line (suc n) k cs d met None acyclic few is h = ap (parents_from met (λ q. parents n cs (q ∷ met) q)) is
parents_from_line (suc n) k cs d met (Some p) acyclic few is h =
    ap (parents_from met (λ q. parents n cs (q ∷ met) q)) is
    ∙ ap (λ (b : Bool). if b then [] else p ∷ parents n cs (p ∷ met) p) (parent_new k n cs d p met acyclic (omega (arith, few)) is h)
    ∙ ap (λ (qs : List ℕ). p ∷ qs) (parents_from_line n (suc k) cs p (p ∷ met) (parent_in (shape_at cs p)) acyclic (omega (arith, few)) refl (inl refl, lead_on k cs d p met is h))

parents_line : (cs : List ClassDef) (c : ℕ) → AreAcyclic cs → parents (length cs) cs (c ∷ []) c ≡ line (length cs) cs (parent_in (shape_at cs c))
parents_line cs c acyclic = parents_from_line (length cs) 0 cs c (c ∷ []) (parent_in (shape_at cs c)) acyclic (omega arith) refl (inl refl, tt)

-- what a chain has as far as some steps go, in its order turned, is part of what the chain has
line_within : (m n : ℕ) (cs : List ClassDef) (o : Option ℕ) → m ≤ n → IsWithin (slots_last cs (line m cs o)) (slots_of cs (line n cs o))
line_within m n cs None few f h = refl
line_within zero n cs (Some c) few f h = refl
line_within (suc m) zero cs (Some c) few f h = absurd (omega (arith, few))
line_within (suc m) (suc n) cs (Some c) few f h =
    let both = false_both (list_any f (slots_at cs c)) (list_any f (slots_of cs (line n cs (parent_in (shape_at cs c))))) (sym (list_any-append f (slots_at cs c) (slots_of cs (line n cs (parent_in (shape_at cs c))))) ∙ h) in
    list_any-append f (slots_last cs (line m cs (parent_in (shape_at cs c)))) (slots_at cs c)
    ∙ or_false (list_any f (slots_last cs (line m cs (parent_in (shape_at cs c))))) (list_any f (slots_at cs c)) (line_within m n cs (parent_in (shape_at cs c)) (omega (arith, few)) f both.1) both.0

line_short : (m n : ℕ) (cs : List ClassDef) (o : Option ℕ) → m ≤ n → length (slots_last cs (line m cs o)) ≤ length (slots_of cs (line n cs o))
line_short m n cs None few = omega arith
line_short zero n cs (Some c) few = omega arith
line_short (suc m) zero cs (Some c) few = absurd (omega (arith, few))
line_short (suc m) (suc n) cs (Some c) few =
    let rest = line_short m n cs (parent_in (shape_at cs c)) (omega (arith, few)) in
    let one = length-append (slots_last cs (line m cs (parent_in (shape_at cs c)))) (slots_at cs c) in
    let all = length-append (slots_at cs c) (slots_of cs (line n cs (parent_in (shape_at cs c)))) in
    omega (arith, rest, one, all)

-- the slots of a parent are among those that a class inherits
parent_within : (m : ℕ) (cs : List ClassDef) (c p : ℕ) → AreAcyclic cs → m ≤ length cs → parent_in (shape_at cs c) ≡ Some p → IsWithin (slots_within m cs p) (inherited cs c)
parent_within m cs c p acyclic few is f h =
    ap (list_any f) (slots_line m cs p)
    ∙ line_within m (length cs) cs (Some p) few f (sym (ap (λ (o : Option ℕ). list_any f (slots_of cs (line (length cs) cs o))) is) ∙ sym (ap (λ (qs : List ℕ). list_any f (slots_of cs qs)) (parents_line cs c acyclic)) ∙ h)

parent_short : (m : ℕ) (cs : List ClassDef) (c p : ℕ) → AreAcyclic cs → m ≤ length cs → parent_in (shape_at cs c) ≡ Some p → length (slots_within m cs p) ≤ length (inherited cs c)
parent_short m cs c p acyclic few is =
    let own = ap length (slots_line m cs p) in
    let all = ap (λ (qs : List ℕ). length (slots_of cs qs)) (parents_line cs c acyclic) ∙ ap (λ (o : Option ℕ). length (slots_of cs (line (length cs) cs o))) is in
    let short = line_short m (length cs) cs (Some p) few in
    omega (arith, own, all, short)

-- Slots that differ.

-- what the end has tested of the slots of a class with this shape
abbrev pub SlotsTested : List ClassDef → ℕ → Option Shape → Type 0
SlotsTested cs c (Some (tuple_class None slots)) = AreApart bytes_eq [] slots × (length slots ≤ 64)
SlotsTested cs c (Some (tuple_class (Some p) slots)) = AreApart bytes_eq (inherited cs c) slots × (length slots + length (inherited cs c) ≤ 64)
SlotsTested cs c _ = Unit {0}

-- a class's slots were tested now, or stand as an earlier text left them
abbrev pub AreSlotsSound : List ClassDef → ℕ → Type 0
AreSlotsSound cs c = SlotsTested cs c (shape_at cs c) ⊎ DoSlotsStand cs c

bytes_turn : (xs ys : List ℕ) → bytes_eq xs ys ≡ bytes_eq ys xs
bytes_turn [] [] = refl
bytes_turn [] (y ∷ ys) = refl
bytes_turn (x ∷ xs) [] = refl
bytes_turn (x ∷ xs) (y ∷ ys) = rw (turned x y, bytes_turn xs ys) refl
  where
    turned : (a b : ℕ) → nat_eq a b ≡ nat_eq b a
    turned a b = grind arith

-- by the shape of a class, with what its parent has
abbrev slots_by : List (List ℕ) → Option Shape → List (List ℕ)
slots_by before None = []
slots_by before (Some (tuple_class None slots)) = slots
slots_by before (Some (tuple_class (Some p) slots)) = before ++ slots
slots_by before (Some s) = []

abbrev slots_before : ℕ → List ClassDef → Option ℕ → List (List ℕ)
slots_before n cs None = []
slots_before n cs (Some p) = slots_within n cs p

by_shape : (n : ℕ) (cs : List ClassDef) (o : Option Shape) → elim o [ None ↦ [] | Some s ↦ elim s [ tuple_class p ss ↦ elim p [ None ↦ ss | Some q ↦ slots_within n cs q ++ ss ] | _ ↦ [] ] ] ≡ slots_by (slots_before n cs (parent_in o)) o
by_shape n cs None = refl
by_shape n cs (Some (built_in j)) = refl
by_shape n cs (Some (union ms)) = refl
by_shape n cs (Some single) = refl
by_shape n cs (Some (tuple_class None slots)) = refl
by_shape n cs (Some (tuple_class (Some p) slots)) = refl

shape_apart : (cs : List ClassDef) (c : ℕ) (o : Option Shape) (before : List (List ℕ)) → no_two bytes_eq before ≡ true → ((p : ℕ) → parent_in o ≡ Some p → IsWithin before (inherited cs c)) → SlotsTested cs c o → no_two bytes_eq (slots_by before o) ≡ true
shape_apart cs c None before apart within h = refl
shape_apart cs c (Some (built_in j)) before apart within h = refl
shape_apart cs c (Some (union ms)) before apart within h = refl
shape_apart cs c (Some single) before apart within h = refl
shape_apart cs c (Some (tuple_class None slots)) before apart within h = apart_differ bytes_eq bytes_turn [] slots h.0
shape_apart cs c (Some (tuple_class (Some p) slots)) before apart within h = differ_behind bytes_eq bytes_turn (inherited cs c) before slots apart (λ x there. in_within x before (inherited cs c) (within p refl) there) h.0

parent_apart : (n : ℕ) (cs : List ClassDef) (o : Option ℕ) → ((p : ℕ) → no_two bytes_eq (slots_within n cs p) ≡ true) → no_two bytes_eq (slots_before n cs o) ≡ true
parent_apart n cs None h = refl
parent_apart n cs (Some p) h = h p

before_within : (n : ℕ) (cs : List ClassDef) (c p : ℕ) (o : Option ℕ) → AreAcyclic cs → n ≤ length cs → parent_in (shape_at cs c) ≡ o → o ≡ Some p → IsWithin (slots_before n cs o) (inherited cs c)
before_within n cs c p None acyclic few is h = absurd (cc)
before_within n cs c p (Some q) acyclic few is h = parent_within n cs c q acyclic few is

pub slots_apart : (n : ℕ) (cs : List ClassDef) (c : ℕ) → AreAcyclic cs → ((d : ℕ) → AreSlotsSound cs d) → n ≤ length cs → no_two bytes_eq (slots_within n cs c) ≡ true
slots_apart zero cs c acyclic tested few = refl
slots_apart (suc n) cs c acyclic tested few = elim (tested c) [
  | inl now ↦
      let o = parent_in (shape_at cs c) in
      ap (no_two bytes_eq) (by_shape n cs (shape_at cs c))
      ∙ shape_apart cs c (shape_at cs c) (slots_before n cs o) (parent_apart n cs o (λ p. slots_apart n cs p acyclic tested (omega (arith, few)))) (λ p is. before_within n cs c p o acyclic (omega (arith, few)) refl is) now
  | inr stand ↦ (stand (suc n)).0
]

shape_few : (cs : List ClassDef) (c : ℕ) (o : Option Shape) (before : List (List ℕ)) → ((p : ℕ) → parent_in o ≡ Some p → length before ≤ length (inherited cs c)) → SlotsTested cs c o → length (slots_by before o) ≤ 64
shape_few cs c None before short h = omega arith
shape_few cs c (Some (built_in j)) before short h = omega arith
shape_few cs c (Some (union ms)) before short h = omega arith
shape_few cs c (Some single) before short h = omega arith
shape_few cs c (Some (tuple_class None slots)) before short h = h.1
shape_few cs c (Some (tuple_class (Some p) slots)) before short h =
    let less = short p refl in
    let both = length-append before slots in
    let all = h.1 in
    omega (arith, less, both, all)

before_short : (n : ℕ) (cs : List ClassDef) (c p : ℕ) (o : Option ℕ) → AreAcyclic cs → n ≤ length cs → parent_in (shape_at cs c) ≡ o → o ≡ Some p → length (slots_before n cs o) ≤ length (inherited cs c)
before_short n cs c p None acyclic few is h = absurd (cc)
before_short n cs c p (Some q) acyclic few is h = parent_short n cs c q acyclic few is

pub slots_few : (n : ℕ) (cs : List ClassDef) (c : ℕ) → AreAcyclic cs → ((d : ℕ) → AreSlotsSound cs d) → n ≤ length cs → length (slots_within n cs c) ≤ 64
slots_few zero cs c acyclic tested few = omega arith
slots_few (suc n) cs c acyclic tested few = elim (tested c) [
  | inl now ↦
      let o = parent_in (shape_at cs c) in
      let short = shape_few cs c (shape_at cs c) (slots_before n cs o) (λ p is. before_short n cs c p o acyclic (omega (arith, few)) refl is) now in
      let same = ap length (by_shape n cs (shape_at cs c)) in
      omega (arith, short, same)
  | inr stand ↦ (stand (suc n)).1
]
