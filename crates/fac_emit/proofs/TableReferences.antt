-- Each number in the kinds, class sets and pairs of a program's tables names something.
use Rattle.std.proofs.Common.{◌≡◌, ◌<◌, ◌≤◌, ℕ, zero, suc, ◌+◌, List, [], ◌∷◌, ◌++◌, length, map, Bool, true, false, ◌&&◌, Option, Some, None, refl, ap, sym, ◌∙◌, arith, true≢false}
use Rattle.std.proofs.lemmas.Bool.{lt-ltb, le-leb}
use Rattle.std.specs.Prelude.{nat_lt, nat_le, slice_get}
use Rattle.std.specs.List.{list_all}
use Rattle.fac_lang.specs.declared.program.ClassDef.{ClassDef}
use Rattle.fac_lang.specs.declared.program.Sort.{Sort}
use Rattle.fac_lang.specs.declared.program.Sort.TheVariants.{Class as class}
use Rattle.fac_lang.specs.declared.program.WordDef.{WordDef}
use Rattle.fac_lang.specs.declared.program.Shape.{Shape}
use Rattle.fac_lang.specs.declared.program.Shape.TheVariants.{Kind as built_in, Tuple as tuple_class, Union as union, Single as single}
use Rattle.fac_lang.specs.Classes.{has_own, own_kind, own_count, slots_within, has_kind}
use Rattle.fac_locals.specs.declared.closing.Closed.{Closed}
use Rattle.fac_code.specs.declared.image.KindRow.{KindRow}
use Rattle.fac_code.specs.declared.image.Tables.{Tables}
use Rattle.fac_code.specs.References.{texts_refer, slots_refer, kind_refers, is_kind, set_refers, pairs_refer}
use Rattle.fac_classes.specs.ClassKinds.{kinds_below, kinds_of, kind_total}
use Rattle.fac_emit.specs.ProgramTexts.{class_texts, program_texts, text_number}
use Rattle.fac_emit.specs.ProgramTables.{slot_numbers, kind_row_of, kinds_from, program_kinds, sets_from, program_sets, sort_kind, pairs_from, program_pairs}
use Rattle.fac_emit.proofs.BuiltCode.{and_true}
use Rattle.fac_emit.proofs.KindRows.{own_of}
use Rattle.fac_emit.proofs.PlacedWords.{found_below}
use Rattle.fac_emit.proofs.TextLemmas.{IsAmong, AreAmong, text_below, class_named, slots_named}

-- as many rows as classes with a kind of their own
kinds_many : (C : Closed) (c : ℕ) (ds : List ClassDef) → length (kinds_from C c ds) ≡ own_count ds
kinds_many C c [] = refl
kinds_many C c (d ∷ ds) = by (has_own d.shape) (kinds_many C (suc c) ds)
  where
    by : (b : Bool) → length (kinds_from C (suc c) ds) ≡ own_count ds →
        length (elim b as (λ q. List KindRow) [ true ↦ kind_row_of C c d ∷ kinds_from C (suc c) ds | false ↦ kinds_from C (suc c) ds ]) ≡ elim b [ true ↦ suc (own_count ds) | false ↦ own_count ds ]
    by true e = ap suc e
    by false e = e

pub sets_many : (cs : List ClassDef) (c : ℕ) (ds : List ClassDef) → length (sets_from cs c ds) ≡ length ds
sets_many cs c [] = refl
sets_many cs c (d ∷ ds) = ap suc (sets_many cs (suc c) ds)

-- for a closed program, and tables that have its kinds and texts and as many words
module _ (C : Closed) (T : Tables) (kinds_are : T.kinds ≡ program_kinds C) (texts_are : T.texts ≡ program_texts C) (words_are : length T.words ≡ length C.program.words) where
  kind_count : length T.kinds ≡ own_count C.program.classes
  kind_count = ap length kinds_are ∙ kinds_many C 0 C.program.classes

  pub named_below : (s : List ℕ) → IsAmong (program_texts C) s → nat_lt (text_number C s) (length T.texts) ≡ true
  named_below s h = ap (λ (ts : List (List ℕ)). nat_lt (text_number C s) (length ts)) texts_are ∙ text_below C s h

  slots_below : (ss : List (List ℕ)) → AreAmong (program_texts C) ss → texts_refer T (map (text_number C) ss) ≡ true
  slots_below [] h = refl
  slots_below (s ∷ ss) h = and_true (nat_lt (text_number C s) (length T.texts)) (texts_refer T (map (text_number C) ss)) (named_below s h.0) (slots_below ss h.1)

  shape_slots : (c : ℕ) (s : Shape) → slots_refer T (slot_numbers C c s) ≡ true
  shape_slots c (tuple_class p ss) = slots_below (slots_within (length C.program.classes) C.program.classes c) (slots_named C (length C.program.classes) c)
  shape_slots c (built_in j) = refl
  shape_slots c (union ms) = refl
  shape_slots c single = refl

  row_refers : (c : ℕ) (d : ClassDef) → AreAmong (program_texts C) (class_texts d) → kind_refers T (kind_row_of C c d) ≡ true
  row_refers c d h =
      let vocab = nat_lt (text_number C d.name.vocab) (length T.texts) in
      let name = nat_lt (text_number C d.name.name) (length T.texts) in
      let slots = slots_refer T (slot_numbers C c d.shape) in
      and_true vocab (name && slots) (named_below d.name.vocab h.0) (and_true name slots (named_below d.name.name h.1.0) (shape_slots c d.shape))

  kinds_by : (c : ℕ) (d : ClassDef) (rows : List KindRow) (b : Bool) → kind_refers T (kind_row_of C c d) ≡ true → list_all (kind_refers T) rows ≡ true → list_all (kind_refers T) (elim b [ true ↦ kind_row_of C c d ∷ rows | false ↦ rows ]) ≡ true
  kinds_by c d rows true own later = and_true (kind_refers T (kind_row_of C c d)) (list_all (kind_refers T) rows) own later
  kinds_by c d rows false own later = later

  kinds_refer_from : (c : ℕ) (ds : List ClassDef) → ((k : ℕ) (d : ClassDef) → slice_get ds k ≡ Some d → AreAmong (program_texts C) (class_texts d)) → list_all (kind_refers T) (kinds_from C c ds) ≡ true
  kinds_refer_from c [] h = refl
  kinds_refer_from c (d ∷ ds) h = kinds_by c d (kinds_from C (suc c) ds) (has_own d.shape) (row_refers c d (h 0 d refl)) (kinds_refer_from (suc c) ds (λ k x e. h (suc k) x e))

  pub kinds_refer : list_all (kind_refers T) T.kinds ≡ true
  kinds_refer = ap (list_all (kind_refers T)) kinds_are ∙ kinds_refer_from 0 C.program.classes (class_named C)

  -- the words of classes with their kinds
  own_refers : (c k : ℕ) → own_kind 8 C.program.classes c ≡ Some k → (nat_le 8 k ≡ true) × (is_kind T k ≡ true)
  own_refers c k e =
      let o = own_of C 0 C.program.classes c 8 k e in
      let number = o.number in
      let lt = found_below (program_kinds C) o.place _ o.row_is in
      let many = ap length kinds_are in
      (le-leb 8 k (omega (arith, number)), lt-ltb k (8 + length T.kinds) (omega (arith, number, lt, many)))

  sort_own : (s : Sort) (k : ℕ) → sort_kind C.program.classes s ≡ Some k → (nat_le 8 k ≡ true) × (is_kind T k ≡ true)
  sort_own (class c) k e = own_refers c k e
  sort_own _ k e = absurd (cc)

  pairs_by : (least w : ℕ) (s : Sort) (ps : List (ℕ × ℕ)) (o : Option ℕ) → sort_kind C.program.classes s ≡ o → least ≤ w → w < length C.program.words → ((least : ℕ) → least ≤ suc w → pairs_refer T least ps ≡ true) → pairs_refer T least (elim o [ Some k ↦ (w, k) ∷ ps | None ↦ ps ]) ≡ true
  pairs_by least w s ps None e le short later = later least (omega (arith, le))
  pairs_by least w s ps (Some k) e le short later =
      let own = sort_own s k e in
      let many = words_are in
      let rest = pairs_refer T (suc w) ps in
      and_true (nat_le least w) (nat_lt w (length T.words) && (nat_le 8 k && (is_kind T k && rest))) (le-leb least w le)
      (and_true (nat_lt w (length T.words)) (nat_le 8 k && (is_kind T k && rest)) (lt-ltb w (length T.words) (omega (arith, short, many)))
      (and_true (nat_le 8 k) (is_kind T k && rest) own.0 (and_true (is_kind T k) rest own.1 (later (suc w) (omega arith)))))

  pairs_refer_from : (least w : ℕ) (ds : List WordDef) → least ≤ w → w + length ds ≤ length C.program.words → pairs_refer T least (pairs_from C.program.classes w ds) ≡ true
  pairs_refer_from least w [] le short = refl
  pairs_refer_from least w (d ∷ ds) le short =
      pairs_by least w d.sort (pairs_from C.program.classes (suc w) ds) (sort_kind C.program.classes d.sort) refl le (omega (arith, short)) (λ least below. pairs_refer_from least (suc w) ds below (omega (arith, short)))

  pub pairs_refer_so : pairs_refer T 0 (program_pairs C.program) ≡ true
  pairs_refer_so = pairs_refer_from 0 0 C.program.words (omega arith) (omega arith)

  -- class sets
  abbrev AllBelow : ℕ → List ℕ → Type 0
  AllBelow n [] = Unit {0}
  AllBelow n (k ∷ ks) = (k < n) × AllBelow n ks

  more_below : (n m : ℕ) (ks : List ℕ) → n ≤ m → AllBelow n ks → AllBelow m ks
  more_below n m [] le h = tt
  more_below n m (k ∷ ks) le h = (let lt = h.0 in omega (arith, lt, le), more_below n m ks le h.1)

  one_below : (n : ℕ) (ks : List ℕ) → AllBelow n ks → AllBelow (suc n) (ks ++ n ∷ [])
  one_below n [] h = (omega arith, tt)
  one_below n (k ∷ ks) h = (let lt = h.0 in omega (arith, lt), one_below n ks h.1)

  first_true : (b c : Bool) → (b && c) ≡ true → (b ≡ true) × (c ≡ true)
  first_true true c e = (refl, e)
  first_true false c e = absurd (true≢false (sym e))

  ascending : (least n : ℕ) (ks : List ℕ) → least ≤ n → AllBelow n ks → is_kind T n ≡ true → set_refers T least ks ≡ true → set_refers T least (ks ++ n ∷ []) ≡ true
  ascending least n [] le h kind e = and_true (nat_le least n) (is_kind T n && true) (le-leb least n le) (and_true (is_kind T n) true kind refl)
  ascending least n (k ∷ ks) le h kind e =
      let parts = first_true (nat_le least k) (is_kind T k && set_refers T (suc k) ks) e in
      let rest = first_true (is_kind T k) (set_refers T (suc k) ks) parts.1 in
      let lt = h.0 in
      and_true (nat_le least k) (is_kind T k && set_refers T (suc k) (ks ++ n ∷ [])) parts.0 (and_true (is_kind T k) (set_refers T (suc k) (ks ++ n ∷ [])) rest.0 (ascending (suc k) n ks (omega (arith, lt)) h.1 kind rest.1))

  pub record InOrder (n : ℕ) (ks : List ℕ) : Type 0 where
    pub below : AllBelow n ks
    pub refer : set_refers T 0 ks ≡ true

  order_by : (n : ℕ) (ks : List ℕ) (b : Bool) → suc n ≤ 8 + length T.kinds → InOrder n ks → InOrder (suc n) (elim b [ true ↦ ks ++ n ∷ [] | false ↦ ks ])
  order_by n ks true le h = record { below = one_below n ks h.below; refer = ascending 0 n ks (omega arith) h.below (lt-ltb n (8 + length T.kinds) (omega (arith, le))) h.refer }
  order_by n ks false le h = record { below = more_below n (suc n) ks (omega arith) h.below; refer = h.refer }

  kinds_in_order : (c n : ℕ) → n ≤ 8 + length T.kinds → InOrder n (kinds_below C.program.classes c n)
  kinds_in_order c zero le = record { below = tt; refer = refl }
  kinds_in_order c (suc n) le = order_by n (kinds_below C.program.classes c n) (has_kind C.program.classes c n) le (kinds_in_order c n (omega (arith, le)))

  sets_refer_from : (c : ℕ) (ds : List ClassDef) → list_all (set_refers T 0) (sets_from C.program.classes c ds) ≡ true
  sets_refer_from c [] = refl
  sets_refer_from c (d ∷ ds) =
      let many = kind_count in
      and_true (set_refers T 0 (kinds_of C.program.classes c)) (list_all (set_refers T 0) (sets_from C.program.classes (suc c) ds)) (kinds_in_order c (kind_total C.program.classes) (omega (arith, many))).refer (sets_refer_from (suc c) ds)

  pub sets_refer : list_all (set_refers T 0) (program_sets C.program) ≡ true
  sets_refer = sets_refer_from 0 C.program.classes
