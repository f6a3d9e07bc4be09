-- The classes of a program of which the end refuses nothing.
use Rattle.std.proofs.Common.{◌≡◌, ◌<◌, ◌≤◌, ◌+◌, ◌⊎◌, inl, inr, ℕ, zero, suc, List, [], ◌∷◌, ◌++◌, map, length, slice_get, Option, Some, None, Bool, true, false, refl, ap, sym, ◌∙◌, subst, arith, length-append}
use Rattle.std.specs.Prelude.{◌&&◌, nat_eq, nat_le, nat_lt, not, ◌||◌, if◌then◌else◌}
use Rattle.std.specs.List.{list_all, list_any}
use Rattle.std.specs.Option.{option_map}
use Rattle.std.specs.Str.{bytes_eq}
use Rattle.std.proofs.lemmas.List.{length-map}
use Rattle.std.proofs.lemmas.List.Folds.{list_all-append}
use Rattle.fac_lang.specs.Classes.{is_tuple, shape_at}
use Rattle.fac_lang.specs.Whole.{parts_of, reaches, shape_fits}
use Rattle.fac_lang.specs.declared.program.ClassDef.{ClassDef}
use Rattle.fac_lang.specs.declared.program.Program.{Program}
use Rattle.fac_lang.specs.declared.program.Shape.{Shape}
use Rattle.fac_lang.specs.declared.program.Shape.TheVariants.{Kind as built_in, Tuple as tuple_class, Union as union, Single as single}
use Rattle.fac_lang.specs.declared.program.Sort.{Sort}
use Rattle.fac_lang.specs.declared.program.Sort.TheVariants.{Body as body, Past as past, Itself as itself, Class as class, Isa as isa, Method as method}
use Rattle.fac_source.specs.declared.refusal.NameFault.{NameFault}
use Rattle.fac_source.specs.declared.refusal.NameKind.{NameKind}
use Rattle.fac_source.specs.declared.refusal.NameKind.TheVariants.{Twice, BadParent, Cycle}
use Rattle.fac_source.specs.declared.tok.Ref.{Ref}
use Rattle.fac_source.specs.declared.tok.Tok.{Tok}
use Rattle.fac_source.specs.Refusals.{fault, fault_if}
use Rattle.fac_source.specs.Toks.{is_among, texts_of}
use Rattle.fac_endings.specs.declared.draft.Draft.{Draft}
use Rattle.fac_endings.specs.declared.draft.Late.{Late}
use Rattle.fac_endings.specs.declared.draft.Late.TheVariants.{Settled as settled, Deferred as deferred, Maker as maker, Method as method_of}
use Rattle.fac_endings.specs.declared.draft.Named.{Named}
use Rattle.fac_endings.specs.declared.draft.Named.TheVariants.{Tuple as a_tuple, Union as a_union, Single as a_single}
use Rattle.fac_endings.specs.declared.draft.NewClass.{NewClass}
use Rattle.fac_endings.specs.ClassTable.{and_class, class_at, class_of, class_of_sort, class_of_word, classes_at, inherited, is_tuple_class, shape_named, word_numbered}
use Rattle.fac_endings.specs.LastRefusals.{class_faults, named_faults, slot_faults, tuple_faults}
use Rattle.fac_endings.proofs.Apart.{AreApart, all_at, and_true, true_both}
use Rattle.fac_endings.proofs.CycleLemmas.{none_reaches}
use Rattle.fac_endings.proofs.EarlierClasses.{AreSettled, DoSlotsStand, ends_behind, shape_front, slots_stand, tuple_below}
use Rattle.fac_endings.proofs.SlotChains.{AreAcyclic, AreSlotsSound, SlotsTested}

-- Refusals that aren't there.

pub no_faults : (fs gs : List NameFault) → fs ++ gs ≡ [] → (fs ≡ []) × (gs ≡ [])
no_faults [] gs h = (refl, h)
no_faults (f ∷ fs) gs h = absurd (cc)

pub not_refused : (b : Bool) (k : NameKind) (t : Tok) → fault_if b k t ≡ [] → b ≡ false
not_refused true k t h = absurd (cc)
not_refused false k t h = refl

pub not_false : (b : Bool) → not b ≡ false → b ≡ true
not_false true h = refl
not_false false h = absurd (cc)

false_true : false ≡ true → ⊥
false_true e = cc

some_fault : (f : NameFault) → f ∷ [] ≡ [] → ⊥
some_fault f h = cc

-- a slot that isn't refused
slots_clear : (earlier : List (List ℕ)) (ts : List Tok) → slot_faults earlier ts ≡ [] → AreApart bytes_eq earlier (texts_of ts)
slots_clear earlier [] h = tt
slots_clear earlier (t ∷ ts) h =
    let both = no_faults (fault_if (is_among t.text earlier) Twice t) (slot_faults (t.text ∷ earlier) ts) h in
    (not_refused (is_among t.text earlier) Twice t both.0, slots_clear (t.text ∷ earlier) ts both.1)

-- Numbers of classes in words.

-- what forms make of a word: a class that there is by a number below n, and a phrase where something of it is late
abbrev pub class_in : ℕ → Sort → Bool
class_in n (class c) = nat_lt c n
class_in n (isa c) = nat_lt c n
class_in n (method c g t) = nat_lt c n
class_in n _ = true

-- what no form of a text makes: only earlier texts have an earlier top-level phrase, and methods of which nothing is late
abbrev pub is_new_sort : Sort → Bool
is_new_sort (past t) = false
is_new_sort (method c g t) = false
is_new_sort _ = true

abbrev pub is_new : Draft → Bool
is_new d = is_new_sort d.word.sort

abbrev pub late_in : Sort → Late → Bool
late_in s settled = true
late_in itself deferred = true
late_in (body t) (maker r) = true
late_in (body t) (method_of c g) = true
late_in s l = false

abbrev pub draft_fits : ℕ → Draft → Bool
draft_fits n d = class_in n d.word.sort && late_in d.word.sort d.late

abbrev pub DraftsFit : ℕ → List Draft → Type 0
DraftsFit n ds = list_all (draft_fits n) ds ≡ true

sort_below : (n c : ℕ) (s : Sort) → class_in n s ≡ true → class_of_sort s ≡ Some c → nat_lt c n ≡ true
sort_below n c (class k) h is = let same : k ≡ c = cc in subst (λ (j : ℕ). nat_lt j n ≡ true) same h
sort_below n c s h is = absurd (cc)

word_below : (n c : ℕ) (ds : List Draft) (w : ℕ) (o : Option Draft) → DraftsFit n ds → slice_get ds w ≡ o → class_of_word (option_map (λ (d : Draft). d.word) o) ≡ Some c → nat_lt c n ≡ true
word_below n c ds w None h is there = absurd (cc)
word_below n c ds w (Some d) h is there = sort_below n c d.word.sort (true_both (class_in n d.word.sort) (late_in d.word.sort d.late) (all_at (draft_fits n) ds w d h is)).0 there

pub class_below : (n c : ℕ) (ds : List Draft) (r : Ref) → DraftsFit n ds → class_at ds r ≡ Some c → nat_lt c n ≡ true
class_below n c ds r h is = one r.word is
  where
    one : (o : Option ℕ) → class_of_word (word_numbered ds o) ≡ Some c → nat_lt c n ≡ true
    one None there = absurd (cc)
    one (Some w) there = word_below n c ds w (slice_get ds w) h refl there

-- Shapes.

members_below : (n : ℕ) (ds : List Draft) (rs : List Ref) → DraftsFit n ds → list_all (λ c. nat_lt c n) (classes_at ds rs) ≡ true
members_below n ds [] h = refl
members_below n ds (r ∷ rs) h = one (class_at ds r) refl (members_below n ds rs h)
  where
    one : (o : Option ℕ) → class_at ds r ≡ o → list_all (λ c. nat_lt c n) (classes_at ds rs) ≡ true → list_all (λ c. nat_lt c n) (and_class o (classes_at ds rs)) ≡ true
    one None is rest = rest
    one (Some c) is rest = and_true (nat_lt c n) (list_all (λ c. nat_lt c n) (classes_at ds rs)) (class_below n c ds r h is) rest

-- what isn't refused of a class with this number
pub record ClassClear (ds : List Draft) (cs : List ClassDef) (c : ℕ) (d : NewClass) : Type 0 where
  pub ends : reaches (length cs) cs c c ≡ false
  pub named : named_faults ds cs c d.names ≡ []

pub class_clear : (ds : List Draft) (cs : List ClassDef) (new : List NewClass) (k i : ℕ) (d : NewClass) → class_faults ds cs k new ≡ [] → slice_get new i ≡ Some d → ClassClear ds cs (k + i) d
class_clear ds cs [] k i d h is = absurd (cc)
class_clear ds cs (x ∷ new) k zero d h is =
    let both = no_faults (fault_if (reaches (length cs) cs k k) Cycle x.tok ++ named_faults ds cs k x.names) (class_faults ds cs (suc k) new) h in
    let here = no_faults (fault_if (reaches (length cs) cs k k) Cycle x.tok) (named_faults ds cs k x.names) both.0 in
    let same : x ≡ d = cc in
    subst (λ (y : NewClass). ClassClear ds cs (k + 0) y) same (subst (λ (m : ℕ). ClassClear ds cs m x) (let e : k ≡ k + 0 = omega arith in e) (record { ends = not_refused (reaches (length cs) cs k k) Cycle x.tok here.0; named = here.1 }))
class_clear ds cs (x ∷ new) k (suc i) d h is =
    let both = no_faults (fault_if (reaches (length cs) cs k k) Cycle x.tok ++ named_faults ds cs k x.names) (class_faults ds cs (suc k) new) h in
    subst (λ (m : ℕ). ClassClear ds cs m d) (let e : suc k + i ≡ k + suc i = omega arith in e) (class_clear ds cs new (suc k) i d both.1 is)

-- a class of a program: one that there was before, or one of a form, or none
data ClassAt (ds : List Draft) (old : List ClassDef) (new : List NewClass) (c : ℕ) : Option Shape → Type 0 where
  nowhere : ClassAt ds old new c None
  before : (d : ClassDef) → slice_get old c ≡ Some d → ClassAt ds old new c (Some d.shape)
  of_form : (i : ℕ) (d : NewClass) → c ≡ length old + i → slice_get new i ≡ Some d → ClassAt ds old new c (Some (shape_named ds d.names))

new_at : (ds : List Draft) (new : List NewClass) (i : ℕ) (o : Option NewClass) → slice_get new i ≡ o → shape_at (map (class_of ds) new) i ≡ option_map (λ (d : NewClass). shape_named ds d.names) o
new_at ds [] i None h = refl
new_at ds [] i (Some d) h = absurd (cc)
new_at ds (x ∷ new) zero None h = absurd (cc)
new_at ds (x ∷ new) zero (Some d) h = let same : x ≡ d = cc in ap (λ (y : NewClass). Some (shape_named ds y.names)) same
new_at ds (x ∷ new) (suc i) o h = new_at ds new i o h

later : (ds : List Draft) (x : ClassDef) (old : List ClassDef) (new : List NewClass) (c : ℕ) (o : Option Shape) → ClassAt ds old new c o → ClassAt ds (x ∷ old) new (suc c) o
later ds x old new c None nowhere = nowhere
later ds x old new c (Some s) (before d is) = before d is
later ds x old new c (Some s) (of_form i d is there) = of_form i d (let e : suc c ≡ suc (length old) + i = omega (arith, is) in e) there

class_there : (ds : List Draft) (old : List ClassDef) (new : List NewClass) (c : ℕ) → ClassAt ds old new c (shape_at (old ++ map (class_of ds) new) c)
class_there ds [] new c = one (slice_get new c) refl
  where
    one : (o : Option NewClass) → slice_get new c ≡ o → ClassAt ds [] new c (shape_at (map (class_of ds) new) c)
    one None is = subst (ClassAt ds [] new c) (sym (new_at ds new c None is)) nowhere
    one (Some d) is = subst (ClassAt ds [] new c) (sym (new_at ds new c (Some d) is)) (of_form c d (let e : c ≡ 0 + c = omega arith in e) is)
class_there ds (x ∷ old) new zero = before x refl
class_there ds (x ∷ old) new (suc c) = later ds x old new c (shape_at (old ++ map (class_of ds) new) c) (class_there ds old new c)

-- The classes that there were before are settled, and the slots of each form are few.

abbrev pub own_few : Named → Bool
own_few (a_tuple parent slots) = nat_le (length slots) 64
own_few _ = true

pub record AreFew (old : List ClassDef) (new : List NewClass) : Type 0 where
  pub settled : AreSettled old
  pub slots : list_all (λ (d : NewClass). own_few d.names) new ≡ true

is_few : (a : ℕ) → nat_le a 64 ≡ true → a ≤ 64
is_few a h = grind arith

is_within : (a : ℕ) → nat_lt 64 a ≡ false → a ≤ 64
is_within a h = grind arith

-- the parts of a tuple class that aren't refused
record TupleClear (ds : List Draft) (cs : List ClassDef) (c : ℕ) (r : Ref) (slots : List Tok) : Type 0 where
  parent : is_tuple_class cs (class_at ds r) ≡ true
  apart : AreApart bytes_eq (inherited cs c) (texts_of slots)
  few : length slots + length (inherited cs c) ≤ 64

tuple_clear : (ds : List Draft) (cs : List ClassDef) (c : ℕ) (r : Ref) (slots : List Tok) → tuple_faults ds cs c (Some r) slots ≡ [] → TupleClear ds cs c r slots
tuple_clear ds cs c r slots h = one (nat_lt 64 (length slots + length (inherited cs c))) refl h
  where
    one : (b : Bool) → nat_lt 64 (length slots + length (inherited cs c)) ≡ b → (if b then fault BadParent r.tok ∷ [] else fault_if (not (is_tuple_class cs (class_at ds r))) BadParent r.tok ++ slot_faults (inherited cs c) slots) ≡ [] → TupleClear ds cs c r slots
    one true is k = absurd (some_fault (fault BadParent r.tok) k)
    one false is k =
        let both = no_faults (fault_if (not (is_tuple_class cs (class_at ds r))) BadParent r.tok) (slot_faults (inherited cs c) slots) k in
        record { parent = not_false (is_tuple_class cs (class_at ds r)) (not_refused (not (is_tuple_class cs (class_at ds r))) BadParent r.tok both.0); apart = slots_clear (inherited cs c) slots both.1; few = is_within (length slots + length (inherited cs c)) is }

named_tested : (ds : List Draft) (cs : List ClassDef) (c : ℕ) (names : Named) → own_few names ≡ true → named_faults ds cs c names ≡ [] → SlotsTested cs c (Some (shape_named ds names))
named_tested ds cs c (a_tuple None slots) few h =
    let count = length-map slots (λ (t : Tok). t.text) in
    let own = is_few (length slots) few in
    (slots_clear [] slots h, omega (arith, count, own))
named_tested ds cs c (a_tuple (Some r) slots) few h = one (class_at ds r) refl
  where
    one : (o : Option ℕ) → class_at ds r ≡ o → SlotsTested cs c (Some (tuple_class o (texts_of slots)))
    one None is =
        let clear = tuple_clear ds cs c r slots h in
        let none = clear.parent in
        absurd (false_true (sym (ap (is_tuple_class cs) is) ∙ none))
    one (Some p) is =
        let clear = tuple_clear ds cs c r slots h in
        let count = length-map slots (λ (t : Tok). t.text) in
        let all = clear.few in
        (clear.apart, omega (arith, count, all))
named_tested ds cs c (a_union rs) few h = tt
named_tested ds cs c a_single few h = tt

named_fits : (ds : List Draft) (P : Program) (c : ℕ) (names : Named) → DraftsFit (length P.classes) ds → named_faults ds P.classes c names ≡ [] → shape_fits P (shape_named ds names) ≡ true
named_fits ds P c (a_tuple None slots) fits h = refl
named_fits ds P c (a_tuple (Some r) slots) fits h = one (class_at ds r) refl
  where
    one : (o : Option ℕ) → class_at ds r ≡ o → shape_fits P (tuple_class o (texts_of slots)) ≡ true
    one None is = refl
    one (Some p) is = let clear = tuple_clear ds P.classes c r slots h in sym (ap (is_tuple_class P.classes) is) ∙ clear.parent
named_fits ds P c (a_union rs) fits h = members_below (length P.classes) ds rs fits
named_fits ds P c a_single fits h = refl

-- What the end has tested of all classes.

pub record ClassesTested (cs : List ClassDef) : Type 0 where
  pub ends : AreAcyclic cs
  pub slots : (c : ℕ) → AreSlotsSound cs c

class_low : (cs : List ClassDef) (c : ℕ) (d : ClassDef) → slice_get cs c ≡ Some d → c < length cs
class_low [] c d h = absurd (cc)
class_low (x ∷ cs) zero d h = omega arith
class_low (x ∷ cs) (suc c) d h = let rest = class_low cs c d h in omega (arith, rest)

at_end : (ds : List Draft) (cs : List ClassDef) (old : List ClassDef) (new : List NewClass) (c : ℕ) (o : Option Shape) → AreFew old new → cs ≡ old ++ map (class_of ds) new → class_faults ds cs (length old) new ≡ [] → shape_at cs c ≡ o → ClassAt ds old new c o →
    (reaches (length cs) cs c c ≡ false) × (SlotsTested cs c o ⊎ DoSlotsStand cs c)
at_end ds cs old new c None few all h is nowhere = (none_reaches (length cs) cs c c is, inl tt)
at_end ds cs old new c (Some s) few all h is (before d there) =
    let low = class_low old c d there in
    let more_classes = map (class_of ds) new in
    (subst (λ (xs : List ClassDef). reaches (length cs) xs c c ≡ false) (sym all) (ends_behind (length cs) old more_classes c few.settled low), inr (subst (λ (xs : List ClassDef). DoSlotsStand xs c) (sym all) (slots_stand old more_classes c few.settled low)))
at_end ds cs old new c (Some s) few all h is (of_form i d number there) =
    let clear = class_clear ds cs new (length old) i d h there in
    let own = all_at (λ (d : NewClass). own_few d.names) new i d few.slots there in
    (subst (λ (m : ℕ). reaches (length cs) cs m m ≡ false) (sym number) clear.ends, inl (subst (λ (m : ℕ). SlotsTested cs m (Some (shape_named ds d.names))) (sym number) (named_tested ds cs (length old + i) d.names own clear.named)))

pub classes_tested : (ds : List Draft) (old : List ClassDef) (new : List NewClass) → AreFew old new → class_faults ds (old ++ map (class_of ds) new) (length old) new ≡ [] → ClassesTested (old ++ map (class_of ds) new)
classes_tested ds old new few h =
    let cs = old ++ map (class_of ds) new in
    record { ends = λ c. (at_end ds cs old new c (shape_at cs c) few refl h refl (class_there ds old new c)).0; slots = λ c. (at_end ds cs old new c (shape_at cs c) few refl h refl (class_there ds old new c)).1 }

-- Shapes.

tuples_stay : (cs old more_classes : List ClassDef) (c : ℕ) → cs ≡ old ++ more_classes → is_tuple (shape_at old c) ≡ true → is_tuple (shape_at cs c) ≡ true
tuples_stay cs old more_classes c is h = ap (λ (xs : List ClassDef). is_tuple (shape_at xs c)) is ∙ ap is_tuple (shape_front old more_classes c (tuple_below old c h)) ∙ h

new_fit : (ds : List Draft) (P : Program) (new : List NewClass) (k : ℕ) → DraftsFit (length P.classes) ds → class_faults ds P.classes k new ≡ [] → list_all (λ (d : ClassDef). shape_fits P d.shape) (map (class_of ds) new) ≡ true
new_fit ds P [] k fits h = refl
new_fit ds P (d ∷ new) k fits h =
    let cs = P.classes in
    let both = no_faults (fault_if (reaches (length cs) cs k k) Cycle d.tok ++ named_faults ds cs k d.names) (class_faults ds cs (suc k) new) h in
    let here = no_faults (fault_if (reaches (length cs) cs k k) Cycle d.tok) (named_faults ds cs k d.names) both.0 in
    and_true (shape_fits P (shape_named ds d.names)) (list_all (λ (d : ClassDef). shape_fits P d.shape) (map (class_of ds) new)) (named_fits ds P k d.names fits here.1) (new_fit ds P new (suc k) fits both.1)

pub shapes_fit : (ds : List Draft) (P : Program) (old : List ClassDef) (new : List NewClass) → P.classes ≡ old ++ map (class_of ds) new → AreFew old new → DraftsFit (length P.classes) ds → class_faults ds P.classes (length old) new ≡ [] → list_all (λ (d : ClassDef). shape_fits P d.shape) P.classes ≡ true
shapes_fit ds P old new is few fits h =
    ap (list_all (λ (d : ClassDef). shape_fits P d.shape)) is
    ∙ list_all-append (λ (d : ClassDef). shape_fits P d.shape) old (map (class_of ds) new)
    ∙ and_true (list_all (λ (d : ClassDef). shape_fits P d.shape) old) (list_all (λ (d : ClassDef). shape_fits P d.shape) (map (class_of ds) new)) (few.settled.fit P (let count = ap length is ∙ length-append old (map (class_of ds) new) in omega (arith, count)) (λ c there. tuples_stay P.classes old (map (class_of ds) new) c is there)) (new_fit ds P new (length old) fits h)
