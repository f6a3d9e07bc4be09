-- Words and classes that are there once.
use Rattle.std.proofs.Common.{◌≡◌, ◌<◌, ◌+◌, ℕ, zero, suc, nat_eq, List, [], ◌∷◌, ◌++◌, map, length, slice_get, Some, Bool, true, false, refl, ap, sym, ◌∙◌, subst, arith}
use Rattle.std.specs.Prelude.{◌||◌, codes, not}
use Rattle.std.specs.List.{list_any}
use Rattle.std.specs.Option.{option_map}
use Rattle.std.specs.Str.{bytes_eq}
use Rattle.std.proofs.lemmas.Slice.Eq.{bytes_eq-Decides}
use Rattle.fac_names.proofs.PrimitiveNumbers.{has_no_repeats, is_member, numbers_before, primitive_numbers}
use Rattle.fac_lang.specs.Whole.{no_two, same_class_name, same_name, same_word}
use Rattle.fac_lang.specs.declared.program.ClassDef.{ClassDef}
use Rattle.fac_base.specs.declared.name.Name.{Name as FullName}
use Rattle.fac_lang.specs.declared.program.Sort.{Sort}
use Rattle.fac_lang.specs.declared.program.Sort.TheVariants.{Prim as prim, Class as class, Getter as getter, Setter as setter, Putter as putter}
use Rattle.fac_lang.specs.declared.program.WordDef.{WordDef}
use Rattle.fac_vocab.specs.declared.entry.Entry.{Entry}
use Rattle.fac_vocab.specs.Scopes.{word_held}
use Rattle.fac_endings.specs.declared.draft.Draft.{Draft}
use Rattle.fac_endings.specs.declared.draft.NewClass.{NewClass}
use Rattle.fac_endings.specs.ClassTable.{class_of, name_of}
use Rattle.fac_endings.proofs.Apart.{and_true, or_false, true_both}
use Rattle.fac_names.specs.Forms.{accessor_text}
use Rattle.fac_names.proofs.HeldNames.{AccessorAt, NewHeld, OldHeld, WordHeld}

-- Elements that are unlike at any two numbers.

apart_any : {A : Type 0} (f : A → Bool) (xs : List A) → ((j : ℕ) (y : A) → slice_get xs j ≡ Some y → f y ≡ false) → list_any f xs ≡ false
apart_any f [] h = refl
apart_any f (x ∷ xs) h = or_false (f x) (list_any f xs) (h 0 x refl) (apart_any f xs (λ j y at. h (suc j) y at))

pub differ_at : {A : Type 0} (alike : A → A → Bool) (xs : List A) → ((i j : ℕ) (x y : A) → slice_get xs i ≡ Some x → slice_get xs j ≡ Some y → i < j → alike x y ≡ false) → no_two alike xs ≡ true
differ_at alike [] h = refl
differ_at alike (x ∷ xs) h =
    and_true (not (list_any (alike x) xs)) (no_two alike xs) (ap not (apart_any (alike x) xs (λ j y at. h 0 (suc j) x y refl at (omega arith)))) (differ_at alike xs (λ i j y z at there less. h (suc i) (suc j) y z at there (omega (arith, less))))

by_test : (b : Bool) → (b ≡ true → ⊥) → b ≡ false
by_test true h = absurd (h refl)
by_test false h = refl

same_place : (w i j : ℕ) → Some i ≡ Some j → i ≡ j
same_place w i j h = cc

not_less : (i j : ℕ) → i ≡ j → i < j → ⊥
not_less i j h less = omega (arith, h, less)

-- Primitives.

member_at : (ds : List WordDef) (j : ℕ) (y : WordDef) (b : ℕ) → slice_get ds j ≡ Some y → y.sort ≡ prim b → is_member b (primitive_numbers ds) ≡ true
member_at [] j y b at is = absurd (cc)
member_at (d ∷ ds) zero y b at is =
    let same : d ≡ y = cc in
    ap (λ (s : Sort). is_member b (numbers_before s (primitive_numbers ds))) (ap (λ (e : WordDef). e.sort) same ∙ is) ∙ ap (λ (q : Bool). q || is_member b (primitive_numbers ds)) (here b)
  where
    here : (n : ℕ) → nat_eq n n ≡ true
    here n = grind arith
member_at (d ∷ ds) (suc j) y b at is = one d.sort (member_at ds j y b at is)
  where
    or_true : (p q : Bool) → q ≡ true → (p || q) ≡ true
    or_true true q h = refl
    or_true false q h = h

    one : (s : Sort) → is_member b (primitive_numbers ds) ≡ true → is_member b (numbers_before s (primitive_numbers ds)) ≡ true
    one (prim k) h = or_true (nat_eq b k) (is_member b (primitive_numbers ds)) h
    one s h = h

fewer : (s : Sort) (ks : List ℕ) → has_no_repeats (numbers_before s ks) ≡ true → has_no_repeats ks ≡ true
fewer (prim k) ks h = (true_both (not (is_member k ks)) (has_no_repeats ks) h).1
fewer s ks h = h

prims_differ : (ds : List WordDef) (i j : ℕ) (x y : WordDef) (a b : ℕ) → has_no_repeats (primitive_numbers ds) ≡ true → slice_get ds i ≡ Some x → slice_get ds j ≡ Some y → x.sort ≡ prim a → y.sort ≡ prim b → i < j → nat_eq a b ≡ false
prims_differ [] i j x y a b h at there is was less = absurd (cc)
prims_differ (d ∷ ds) zero zero x y a b h at there is was less = absurd (omega (arith, less))
prims_differ (d ∷ ds) zero (suc j) x y a b h at there is was less =
    let same : d ≡ x = cc in
    let first = subst (λ (s : Sort). has_no_repeats (numbers_before s (primitive_numbers ds)) ≡ true) (ap (λ (e : WordDef). e.sort) same ∙ is) h in
    let none = (true_both (not (is_member a (primitive_numbers ds))) (has_no_repeats (primitive_numbers ds)) first).0 in
    by_test (nat_eq a b) (λ equal. no_member (is_member a (primitive_numbers ds)) (ap (λ (n : ℕ). is_member n (primitive_numbers ds)) (one_number a b equal) ∙ member_at ds j y b there was) none)
  where
    one_number : (m n : ℕ) → nat_eq m n ≡ true → m ≡ n
    one_number m n e = grind arith

    no_member : (q : Bool) → q ≡ true → not q ≡ true → ⊥
    no_member true e k = cc
    no_member false e k = cc
prims_differ (d ∷ ds) (suc i) zero x y a b h at there is was less = absurd (omega (arith, less))
prims_differ (d ∷ ds) (suc i) (suc j) x y a b h at there is was less = prims_differ ds i j x y a b (fewer d.sort (primitive_numbers ds) h) at there is was (omega (arith, less))

-- Accessors.

abbrev pub AccessorWords : List Entry → ℕ → List WordDef → Type 0
AccessorWords table k [] = Unit {0}
AccessorWords table k (d ∷ ds) = AccessorAt table k d.sort × AccessorWords table (suc k) ds

pub accessor_at : (table : List Entry) (k i : ℕ) (ds : List WordDef) (x : WordDef) → AccessorWords table k ds → slice_get ds i ≡ Some x → AccessorAt table (i + k) x.sort
accessor_at table k i [] x h at = absurd (cc)
accessor_at table k zero (d ∷ ds) x h at =
    let same : d ≡ x = cc in
    subst (λ (n : ℕ). AccessorAt table n x.sort) (let e : k ≡ 0 + k = omega arith in e) (subst (λ (e : WordDef). AccessorAt table k e.sort) same h.0)
accessor_at table k (suc i) (d ∷ ds) x h at = subst (λ (n : ℕ). AccessorAt table n x.sort) (let e : i + suc k ≡ suc i + k = omega arith in e) (accessor_at table (suc k) i ds x h.1 at)

-- two accessors of one name are one word
one_accessor : (table : List Entry) (i j : ℕ) (s u : Sort) (name : List ℕ) → AccessorAt table (i + 0) s → AccessorAt table (j + 0) u → accessor_text s ≡ Some name → accessor_text u ≡ Some name → i ≡ j
one_accessor table i j s u name h k is was = let same = same_place 0 (i + 0) (j + 0) (sym (h name is) ∙ k name was) in omega (arith, same)

same_text : (x y : List ℕ) → bytes_eq x y ≡ true → x ≡ y
same_text x y h = (bytes_eq-Decides x y).0 h

texts_differ : (x y : List ℕ) (i j : ℕ) → (x ≡ y → i ≡ j) → i < j → bytes_eq x y ≡ false
texts_differ x y i j f less = by_test (bytes_eq x y) (λ e. not_less i j (f (same_text x y e)) less)

abbrev pub alike_sorts : Sort → Sort → Bool
alike_sorts s u =
    elim s [
      | prim j ↦ elim u [ prim k ↦ nat_eq j k | _ ↦ false ]
      | getter x ↦ elim u [ getter y ↦ bytes_eq x y | _ ↦ false ]
      | setter x ↦ elim u [ setter y ↦ bytes_eq x y | _ ↦ false ]
      | putter x ↦ elim u [ putter y ↦ bytes_eq x y | _ ↦ false ]
      | _ ↦ false
    ]

sorts_differ : (table : List Entry) (i j : ℕ) (s u : Sort) → i < j → ((a b : ℕ) → s ≡ prim a → u ≡ prim b → nat_eq a b ≡ false) → AccessorAt table (i + 0) s → AccessorAt table (j + 0) u → alike_sorts s u ≡ false
sorts_differ table i j (prim a) (prim b) less prims h k = prims a b refl refl
sorts_differ table i j (prim a) u less prims h k = refl
sorts_differ table i j (getter x) (getter y) less prims h k = texts_differ x y i j (λ same. one_accessor table i j (getter x) (getter y) (x ++ codes ">>") h k refl (ap (λ (z : List ℕ). Some (z ++ codes ">>")) (sym same))) less
sorts_differ table i j (getter x) u less prims h k = refl
sorts_differ table i j (setter x) (setter y) less prims h k = texts_differ x y i j (λ same. one_accessor table i j (setter x) (setter y) (codes ">>" ++ x) h k refl (ap (λ (z : List ℕ). Some (codes ">>" ++ z)) (sym same))) less
sorts_differ table i j (setter x) u less prims h k = refl
sorts_differ table i j (putter x) (putter y) less prims h k = texts_differ x y i j (λ same. one_accessor table i j (putter x) (putter y) (x ++ codes "<<") h k refl (ap (λ (z : List ℕ). Some (z ++ codes "<<")) (sym same))) less
sorts_differ table i j (putter x) u less prims h k = refl
sorts_differ table i j s u less prims h k = refl

pub words_differ : (table : List Entry) (ds : List WordDef) → has_no_repeats (primitive_numbers ds) ≡ true → AccessorWords table 0 ds → no_two same_word ds ≡ true
words_differ table ds once h =
    differ_at same_word ds (λ i j x y at there less. sorts_differ table i j x.sort y.sort less (λ a b is was. prims_differ ds i j x y a b once at there is was less) (accessor_at table 0 i ds x h at) (accessor_at table 0 j ds y h there))

-- Classes.

-- a class by its word
pub record ClassAt (ds : List Draft) (table : List Entry) (name : FullName) (c : ℕ) : Type 0 where
  pub word : ℕ
  pub is_held : WordHeld ds table word c
  pub name_is : is_held.draft.word.name ≡ name

the_same : {A : Type 0} (x y : A) → Some x ≡ Some y → x ≡ y
the_same x y h = cc

one_class : (ds : List Draft) (table : List Entry) (name other : FullName) (i j : ℕ) → name ≡ other → ClassAt ds table name i → ClassAt ds table other j → i ≡ j
one_class ds table name other i j same h k =
    let names = h.name_is ∙ same ∙ sym k.name_is in
    let words = the_same h.word k.word (sym h.is_held.held ∙ ap (λ (n : FullName). word_held table n.vocab n.name) names ∙ k.is_held.held) in
    let drafts = the_same h.is_held.draft k.is_held.draft (sym h.is_held.at ∙ ap (slice_get ds) words ∙ k.is_held.at) in
    class_number i j (sym h.is_held.sort_is ∙ ap (λ (d : Draft). d.word.sort) drafts ∙ k.is_held.sort_is)
  where
    class_number : (m n : ℕ) → class m ≡ class n → m ≡ n
    class_number m n e = cc

old_at : (ds : List Draft) (table : List Entry) (k i : ℕ) (cs : List ClassDef) (c : ClassDef) → OldHeld ds table k cs → slice_get cs i ≡ Some c → ClassAt ds table c.name (k + i)
old_at ds table k i [] c h at = absurd (cc)
old_at ds table k zero (x ∷ cs) c h at =
    let same : x ≡ c = cc in
    let w = h.0.is_held in
    subst (λ (n : ℕ). ClassAt ds table c.name n) (let e : k ≡ k + 0 = omega arith in e)
    (record { word = h.0.word; is_held = w; name_is = the_same w.draft.word.name c.name (sym (ap (option_map (λ (d : Draft). d.word.name)) w.at) ∙ h.0.name_is ∙ ap (λ (y : ClassDef). Some y.name) same) })
old_at ds table k (suc i) (x ∷ cs) c h at = subst (λ (n : ℕ). ClassAt ds table c.name n) (let e : suc k + i ≡ k + suc i = omega arith in e) (old_at ds table (suc k) i cs c h.1 at)

new_at : (ds : List Draft) (table : List Entry) (k i : ℕ) (cs : List NewClass) (c : ClassDef) → NewHeld ds table k cs → slice_get (map (class_of ds) cs) i ≡ Some c → ClassAt ds table c.name (k + i)
new_at ds table k i [] c h at = absurd (cc)
new_at ds table k zero (x ∷ cs) c h at =
    let same : class_of ds x ≡ c = cc in
    subst (λ (n : ℕ). ClassAt ds table c.name n) (let e : k ≡ k + 0 = omega arith in e)
    (record { word = x.word; is_held = h.0; name_is = sym (ap name_of h.0.at) ∙ ap (λ (y : ClassDef). y.name) same })
new_at ds table k (suc i) (x ∷ cs) c h at = subst (λ (n : ℕ). ClassAt ds table c.name n) (let e : suc k + i ≡ k + suc i = omega arith in e) (new_at ds table (suc k) i cs c h.1 at)

pub class_at : (ds : List Draft) (table : List Entry) (k i : ℕ) (old : List ClassDef) (new : List NewClass) (c : ClassDef) → OldHeld ds table k old → NewHeld ds table (length old + k) new → slice_get (old ++ map (class_of ds) new) i ≡ Some c → ClassAt ds table c.name (k + i)
class_at ds table k i [] new c h n at = new_at ds table k i new c (subst (λ (m : ℕ). NewHeld ds table m new) (let e : 0 + k ≡ k = omega arith in e) n) at
class_at ds table k zero (x ∷ old) new c h n at = old_at ds table k 0 (x ∷ old) c h at
class_at ds table k (suc i) (x ∷ old) new c h n at =
    subst (λ (m : ℕ). ClassAt ds table c.name m) (let e : suc k + i ≡ k + suc i = omega arith in e)
    (class_at ds table (suc k) i old new c h.1 (subst (λ (m : ℕ). NewHeld ds table m new) (let e : suc (length old) + k ≡ length old + suc k = omega arith in e) n) at)

one_name : (a b : FullName) → same_name a b ≡ true → a ≡ b
one_name a b h =
    let both = true_both (bytes_eq a.vocab b.vocab) (bytes_eq a.name b.name) h in
    rw (same_text a.vocab b.vocab both.0, same_text a.name b.name both.1) refl

pub classes_differ : (ds : List Draft) (table : List Entry) (old : List ClassDef) (new : List NewClass) → OldHeld ds table 0 old → NewHeld ds table (length old) new → no_two same_class_name (old ++ map (class_of ds) new) ≡ true
classes_differ ds table old new h n =
    let new_there = subst (λ (m : ℕ). NewHeld ds table m new) (let e : length old ≡ length old + 0 = omega arith in e) n in
    differ_at same_class_name (old ++ map (class_of ds) new)
    (λ i j x y at there less. by_test (same_name x.name y.name) (λ same. differs i j less (one_class ds table x.name y.name (0 + i) (0 + j) (one_name x.name y.name same) (class_at ds table 0 i old new x h new_there at) (class_at ds table 0 j old new y h new_there there))))
  where
    differs : (i j : ℕ) → i < j → 0 + i ≡ 0 + j → ⊥
    differs i j less same = omega (arith, less, same)
