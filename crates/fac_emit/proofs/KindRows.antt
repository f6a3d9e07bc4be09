-- The rows of the kinds of a program, and what they say of its classes.
use Rattle.std.proofs.Common.{◌≡◌, ◌<◌, ℕ, zero, suc, ◌+◌, ◌-◌, List, [], ◌∷◌, Bool, true, false, Option, Some, None, refl, ap, sym, ◌∙◌, arith, true≢false}
use Rattle.std.specs.Prelude.{nat_eq, slice_get}
use Rattle.fac_lang.specs.declared.program.ClassDef.{ClassDef}
use Rattle.fac_lang.specs.Classes.{has_own, own_kind, class_with}
use Rattle.fac_locals.specs.declared.closing.Closed.{Closed}
use Rattle.fac_code.specs.declared.image.KindRow.{KindRow}
use Rattle.fac_emit.specs.ProgramTables.{kind_row_of, kinds_from}

never_true : {A : Type 0} → false ≡ true → A
never_true h = absurd (true≢false (sym h))

-- no class has one of the first kinds as its own
first_by : (c k : ℕ) (ds : List ClassDef) (b e : Bool) → nat_eq k 8 ≡ e → k < 8 → ((j : ℕ) → j < 8 → class_with (suc c) ds j ≡ None) →
    ◌≡◌ {A = Option ℕ} (elim b [ true ↦ elim e [ true ↦ Some c | false ↦ class_with (suc c) ds (k - 1) ] | false ↦ class_with (suc c) ds k ]) None
first_by c k ds true true is lt more = absurd (let same : k ≡ 8 = grind arith in omega (arith, lt, same))
first_by c k ds true false is lt more = more (k - 1) (omega (arith, lt))
first_by c k ds false e is lt more = more k lt

pub no_class : (c k : ℕ) (ds : List ClassDef) → k < 8 → class_with c ds k ≡ None
no_class c k [] lt = refl
no_class c k (d ∷ ds) lt = first_by c k ds (has_own d.shape) (nat_eq k 8) refl lt (λ j less. no_class (suc c) j ds less)

module _ (C : Closed) where
  abbrev row : ℕ → ClassDef → KindRow
  row c d = kind_row_of C c d

  abbrev rows : ℕ → List ClassDef → List KindRow
  rows c ds = kinds_from C c ds

  -- the row of a kind, and the class whose own kind it is
  pub record KindOf (c : ℕ) (ds : List ClassDef) (j : ℕ) : Type 0 where
    pub def : ClassDef
    pub place : ℕ
    pub there : slice_get ds place ≡ Some def
    pub row_is : slice_get (rows c ds) j ≡ Some (row (c + place) def)
    pub owner : class_with c ds (8 + j) ≡ Some (c + place)

  -- or there is neither
  pub data FindsKind (c : ℕ) (ds : List ClassDef) (j : ℕ) : Type 0 where
    k_found : KindOf c ds j → FindsKind c ds j
    k_none : slice_get (rows c ds) j ≡ None → class_with c ds (8 + j) ≡ None → FindsKind c ds j

  -- the rows of classes from one on, by whether that has a kind of its own
  abbrev rows_by : ℕ → ClassDef → List ClassDef → Bool → List KindRow
  rows_by c d ds b = elim b [ true ↦ row c d ∷ rows (suc c) ds | false ↦ rows (suc c) ds ]

  own_row : (c : ℕ) (d : ClassDef) (ds : List ClassDef) → has_own d.shape ≡ true → KindOf c (d ∷ ds) 0
  own_row c d ds own =
      let n : c + 0 ≡ c = omega arith in
      record {
        def = d;
        place = 0;
        there = refl;
        row_is = ap (λ (b : Bool). slice_get (rows_by c d ds b) 0) own ∙ ap (λ (x : ℕ). Some (row x d)) (sym n);
        owner = ap (λ (b : Bool). elim b [ true ↦ Some c | false ↦ class_with (suc c) ds 8 ]) own ∙ ap Some (sym n);
      }

  next_own : (c j : ℕ) (d : ClassDef) (ds : List ClassDef) → has_own d.shape ≡ true → class_with c (d ∷ ds) (8 + suc j) ≡ class_with (suc c) ds (8 + j)
  next_own c j d ds own =
      let less : nat_eq (8 + suc j) 8 ≡ false = other j in
      let n : 8 + suc j - 1 ≡ 8 + j = omega arith in
      ap (λ (b : Bool). elim b [ true ↦ elim (nat_eq (8 + suc j) 8) [ true ↦ Some c | false ↦ class_with (suc c) ds (8 + suc j - 1) ] | false ↦ class_with (suc c) ds (8 + suc j) ]) own
      ∙ ap (λ (b : Bool). elim b [ true ↦ Some c | false ↦ class_with (suc c) ds (8 + suc j - 1) ]) less ∙ ap (class_with (suc c) ds) n
    where
      other : (j : ℕ) → nat_eq (8 + suc j) 8 ≡ false
      other j = grind arith

  later_own : (c j : ℕ) (d : ClassDef) (ds : List ClassDef) → has_own d.shape ≡ true → FindsKind (suc c) ds j → FindsKind c (d ∷ ds) (suc j)
  later_own c j d ds own (k_none e f) = k_none (ap (λ (b : Bool). slice_get (rows_by c d ds b) (suc j)) own ∙ e) (next_own c j d ds own ∙ f)
  later_own c j d ds own (k_found k) =
      let n : suc c + k.place ≡ c + suc k.place = omega arith in
      k_found (record {
        def = k.def;
        place = suc k.place;
        there = k.there;
        row_is = ap (λ (b : Bool). slice_get (rows_by c d ds b) (suc j)) own ∙ k.row_is ∙ ap (λ (x : ℕ). Some (row x k.def)) n;
        owner = next_own c j d ds own ∙ k.owner ∙ ap Some n;
      })

  without_own : (c j : ℕ) (d : ClassDef) (ds : List ClassDef) → has_own d.shape ≡ false → FindsKind (suc c) ds j → FindsKind c (d ∷ ds) j
  without_own c j d ds own (k_none e f) =
      k_none (ap (λ (b : Bool). slice_get (rows_by c d ds b) j) own ∙ e) (ap (λ (b : Bool). elim b [ true ↦ elim (nat_eq (8 + j) 8) [ true ↦ Some c | false ↦ class_with (suc c) ds (8 + j - 1) ] | false ↦ class_with (suc c) ds (8 + j) ]) own ∙ f)
  without_own c j d ds own (k_found k) =
      let n : suc c + k.place ≡ c + suc k.place = omega arith in
      k_found (record {
        def = k.def;
        place = suc k.place;
        there = k.there;
        row_is = ap (λ (b : Bool). slice_get (rows_by c d ds b) j) own ∙ k.row_is ∙ ap (λ (x : ℕ). Some (row x k.def)) n;
        owner = ap (λ (b : Bool). elim b [ true ↦ elim (nat_eq (8 + j) 8) [ true ↦ Some c | false ↦ class_with (suc c) ds (8 + j - 1) ] | false ↦ class_with (suc c) ds (8 + j) ]) own ∙ k.owner ∙ ap Some n;
      })

  finds_by : (c j : ℕ) (d : ClassDef) (ds : List ClassDef) (b : Bool) → has_own d.shape ≡ b → ((j : ℕ) → FindsKind (suc c) ds j) → FindsKind c (d ∷ ds) j
  finds_by c zero d ds true own more = k_found (own_row c d ds own)
  finds_by c (suc j) d ds true own more = later_own c j d ds own (more j)
  finds_by c j d ds false own more = without_own c j d ds own (more j)

  pub finds_kind : (c : ℕ) (ds : List ClassDef) (j : ℕ) → FindsKind c ds j
  finds_kind c [] j = k_none refl refl
  finds_kind c (d ∷ ds) j = finds_by c j d ds (has_own d.shape) refl (finds_kind (suc c) ds)

  -- The kind of a class as its own.
  pub record OwnOf (c : ℕ) (ds : List ClassDef) (i n k : ℕ) : Type 0 where
    pub place : ℕ
    pub number : k ≡ n + place
    pub def : ClassDef
    pub there : slice_get ds i ≡ Some def
    pub owns : has_own def.shape ≡ true
    pub row_is : slice_get (rows c ds) place ≡ Some (row (c + i) def)

  own_first : (c n k : ℕ) (d : ClassDef) (ds : List ClassDef) (b : Bool) → has_own d.shape ≡ b → (let o : Option ℕ = elim b [ true ↦ Some n | false ↦ None ] in o ≡ Some k) → OwnOf c (d ∷ ds) 0 n k
  own_first c n k d ds true own e =
      let same : n ≡ k = cc in
      let m : c + 0 ≡ c = omega arith in
      record { place = 0; number = omega (arith, same); def = d; there = refl; owns = own; row_is = ap (λ (b : Bool). slice_get (rows_by c d ds b) 0) own ∙ ap (λ (x : ℕ). Some (row x d)) (sym m) }
  own_first c n k d ds false own e = absurd (cc)

  own_later : (c i n k : ℕ) (d : ClassDef) (ds : List ClassDef) (b : Bool) → has_own d.shape ≡ b → ((n : ℕ) → own_kind n ds i ≡ Some k → OwnOf (suc c) ds i n k) → elim b [ true ↦ own_kind (suc n) ds i | false ↦ own_kind n ds i ] ≡ Some k → OwnOf c (d ∷ ds) (suc i) n k
  own_later c i n k d ds true own more e =
      let o = more (suc n) e in
      let number = o.number in
      let m : suc c + i ≡ c + suc i = omega arith in
      record {
        place = suc o.place;
        number = omega (arith, number);
        def = o.def;
        there = o.there;
        owns = o.owns;
        row_is = ap (λ (b : Bool). slice_get (rows_by c d ds b) (suc o.place)) own ∙ o.row_is ∙ ap (λ (x : ℕ). Some (row x o.def)) m;
      }
  own_later c i n k d ds false own more e =
      let o = more n e in
      let m : suc c + i ≡ c + suc i = omega arith in
      record { place = o.place; number = o.number; def = o.def; there = o.there; owns = o.owns; row_is = ap (λ (b : Bool). slice_get (rows_by c d ds b) o.place) own ∙ o.row_is ∙ ap (λ (x : ℕ). Some (row x o.def)) m }

  pub own_of : (c : ℕ) (ds : List ClassDef) (i n k : ℕ) → own_kind n ds i ≡ Some k → OwnOf c ds i n k
  own_of c [] i n k e = absurd (cc)
  own_of c (d ∷ ds) zero n k e = own_first c n k d ds (has_own d.shape) refl e
  own_of c (d ∷ ds) (suc i) n k e = own_later c i n k d ds (has_own d.shape) refl (λ n h. own_of (suc c) ds i n k h) e
