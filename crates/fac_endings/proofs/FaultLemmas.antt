-- Refusals one behind another, and those that stand behind the first.
use Rattle.std.proofs.Common.{◌≡◌, ◌<◌, ◌+◌, ℕ, suc, nat_eq, List, [], ◌∷◌, ◌++◌, fold, take, drop, get_or, length, Option, Some, None, Bool, true, false, refl, ap, sym, ◌∙◌, arith}
use Rattle.std.specs.Prelude.{◌&&◌, ◌||◌, nat_lt, if◌then◌else◌, not}
use Rattle.std.specs.List.{list_any}
use Rattle.std.specs.Str.{bytes_eq}
use Rattle.std.proofs.lemmas.List.Sums.{fold-append}
use Rattle.fac_lang.specs.Whole.{reaches, same_method}
use Rattle.fac_lang.specs.declared.program.ClassDef.{ClassDef}
use Rattle.fac_lang.specs.declared.program.WordDef.{WordDef}
use Rattle.fac_source.specs.declared.refusal.NameFault.{NameFault}
use Rattle.fac_source.specs.declared.refusal.NameKind.{NameKind}
use Rattle.fac_source.specs.declared.refusal.NameKind.TheVariants.{Twice, BadParent, Cycle}
use Rattle.fac_source.specs.declared.tok.Ref.{Ref}
use Rattle.fac_source.specs.declared.tok.Tok.{Tok}
use Rattle.fac_source.specs.Refusals.{fault, fault_if, rank, sooner}
use Rattle.fac_source.specs.Toks.{is_among, texts_of}
use Rattle.fac_endings.specs.declared.draft.Draft.{Draft}
use Rattle.fac_endings.specs.declared.draft.NewClass.{NewClass}
use Rattle.fac_endings.specs.ClassTable.{class_at, inherited, is_tuple_class}
use Rattle.fac_endings.specs.FinishedWords.{finished}
use Rattle.fac_endings.specs.LastRefusals.{class_faults, late_faults, named_faults, slot_faults, too_many, tuple_faults, words_faults}
use Rattle.fac_endings.specs.inner.Behind.{are_behind, is_behind}
use Rattle.fac_endings.proofs.ListLemmas.{drop_at, gone_more}

-- two lists of refusals, one after the other
pub both_refused : (first one two : Option NameFault) (fs gs : List NameFault) → one ≡ fold sooner first fs → two ≡ fold sooner one gs → two ≡ fold sooner first (fs ++ gs)
both_refused first one two fs gs h k = k ∙ ap (λ (o : Option NameFault). fold sooner o gs) h ∙ sym (fold-append sooner first fs gs)

pub three_refused : (first one two three : Option NameFault) (fs gs hs : List NameFault) → one ≡ fold sooner first fs → two ≡ fold sooner one gs → three ≡ fold sooner two hs → three ≡ fold sooner first (fs ++ gs ++ hs)
three_refused first one two three fs gs hs h k l = both_refused first two three (fs ++ gs) hs (both_refused first one two fs gs h k) l

-- a list of refusals more is gone through
pub one_behind : (start first next : Option NameFault) (fs gs all : List NameFault) → fold sooner start all ≡ fold sooner first (fs ++ gs) → next ≡ fold sooner first fs → fold sooner start all ≡ fold sooner next gs
one_behind start first next fs gs all h k = h ∙ fold-append sooner first fs gs ∙ ap (λ (o : Option NameFault). fold sooner o gs) (sym k)

-- Slots.

abbrev pub and_text : List (List ℕ) → Tok → List (List ℕ)
and_text earlier t = t.text ∷ earlier

or_turned : (a b c : Bool) → (a || (b || c)) ≡ ((b || a) || c)
or_turned true true c = refl
or_turned true false c = refl
or_turned false true c = refl
or_turned false false c = refl

-- a text among slots that were gone through
pub among_gone : (x : List ℕ) (inh : List (List ℕ)) (ts : List Tok) → is_among x (fold and_text inh ts) ≡ (is_among x (texts_of ts) || is_among x inh)
among_gone x inh [] = refl
among_gone x inh (t ∷ ts) = among_gone x (t.text ∷ inh) ts ∙ or_turned (is_among x (texts_of ts)) (bytes_eq x t.text) (is_among x inh)

-- one slot more is gone through
pub slot_more : (inh : List (List ℕ)) (ts : List Tok) (n : ℕ) (t : Tok) (start first next : Option NameFault) → n < length ts → t ≡ get_or ts n t →
    fold sooner start (slot_faults inh ts) ≡ fold sooner first (slot_faults (fold and_text inh (take n ts)) (drop n ts)) → next ≡ fold sooner first (fault_if (is_among t.text (texts_of (take n ts)) || is_among t.text inh) Twice t) →
    fold sooner start (slot_faults inh ts) ≡ fold sooner next (slot_faults (fold and_text inh (take (n + 1) ts)) (drop (n + 1) ts))
slot_more inh ts n t start first next within is h k =
    let earlier = fold and_text inh (take n ts) in
    let rest = drop (n + 1) ts in
    one_behind start first next (fault_if (is_among t.text earlier) Twice t) (slot_faults (t.text ∷ earlier) rest) (slot_faults inh ts)
    (h ∙ ap (λ (us : List Tok). fold sooner first (slot_faults earlier us)) (drop_at ts n t within is))
    (k ∙ ap (λ (b : Bool). fold sooner first (fault_if b Twice t)) (sym (among_gone t.text inh (take n ts))))
    ∙ ap (λ (xs : List (List ℕ)). fold sooner next (slot_faults xs rest)) (sym (gone_more and_text inh ts n t within is))

-- Behind the first refusal.

other_lt : (a b : ℕ) → nat_lt b a ≡ true → nat_lt a b ≡ false
other_lt a b h = grind arith

other_eq : (a b : ℕ) → nat_lt b a ≡ true → nat_eq a b ≡ false
other_eq a b h = grind arith

no_lt : (a b : ℕ) → nat_eq b a ≡ true → nat_lt a b ≡ false
no_lt a b h = grind arith

and_false : (a : Bool) → (a && false) ≡ false
and_false true = refl
and_false false = refl

first_and : (b c : Bool) → (b && c) ≡ true → (b ≡ true) × (c ≡ true)
first_and true c h = (refl, h)
first_and false c h = cc

pub both_true : (b c : Bool) → true ≡ b → true ≡ c → (b && c) ≡ true
both_true true c h k = sym k
both_true false c h k = cc

later_place : (b c : Bool) (ff gf ft gt : ℕ) (r : Bool) → nat_lt gf ff ≡ b → (nat_eq gf ff && nat_lt gt ft) ≡ c → (b || c) ≡ true → (nat_lt ff gf || (nat_eq ff gf && (nat_lt ft gt || (nat_eq ft gt && r)))) ≡ false
later_place true c ff gf ft gt r e k h = rw (other_lt ff gf e, other_eq ff gf e) refl
later_place false true ff gf ft gt r e k h =
    let both = first_and (nat_eq gf ff) (nat_lt gt ft) k in
    rw (no_lt ff gf both.0, other_lt ft gt both.1, other_eq ft gt both.1) (and_false (nat_eq ff gf))
later_place false false ff gf ft gt r e k h = cc

-- a refusal behind the first one changes nothing
pub behind_stays : (first : Option NameFault) (f : NameFault) → is_behind first f.place ≡ true → sooner first f ≡ first
behind_stays None f h = cc
behind_stays (Some g) f h =
    ap (λ (b : Bool). Some (if b then f else g))
    (later_place (nat_lt g.place.file f.place.file) (nat_eq g.place.file f.place.file && nat_lt g.place.token f.place.token) f.place.file g.place.file f.place.token g.place.token (nat_lt (rank f.kind) (rank g.kind)) refl refl h)

if_behind : (first : Option NameFault) (b : Bool) (k : NameKind) (t : Tok) → is_behind first t.place ≡ true → fold sooner first (fault_if b k t) ≡ first
if_behind first true k t h = behind_stays first (fault k t) h
if_behind first false k t h = refl

slots_behind : (first : Option NameFault) (earlier : List (List ℕ)) (ts : List Tok) → are_behind first ts ≡ true → fold sooner first (slot_faults earlier ts) ≡ first
slots_behind first earlier [] h = refl
slots_behind first earlier (t ∷ ts) h =
    let both = first_and (is_behind first t.place) (are_behind first ts) h in
    fold-append sooner first (fault_if (is_among t.text earlier) Twice t) (slot_faults (t.text ∷ earlier) ts)
    ∙ ap (λ (o : Option NameFault). fold sooner o (slot_faults (t.text ∷ earlier) ts)) (if_behind first (is_among t.text earlier) Twice t both.0)
    ∙ slots_behind first (t.text ∷ earlier) ts both.1

tuple_if : (b : Bool) (first : Option NameFault) (fs gs : List NameFault) → fold sooner first fs ≡ first → fold sooner first gs ≡ first → fold sooner first (if b then fs else gs) ≡ first
tuple_if true first fs gs h k = h
tuple_if false first fs gs h k = k

pub heir_behind : (ds : List Draft) (cs : List ClassDef) (c : ℕ) (r : Ref) (slots : List Tok) (first : Option NameFault) → (is_behind first r.tok.place && are_behind first slots) ≡ true → first ≡ fold sooner first (tuple_faults ds cs c (Some r) slots)
heir_behind ds cs c r slots first h =
    let both = first_and (is_behind first r.tok.place) (are_behind first slots) h in
    let no_tuple = not (is_tuple_class cs (class_at ds r)) in
    sym (tuple_if (too_many cs c slots) first (fault BadParent r.tok ∷ []) (fault_if no_tuple BadParent r.tok ++ slot_faults (inherited cs c) slots)
    (behind_stays first (fault BadParent r.tok) both.0)
    (fold-append sooner first (fault_if no_tuple BadParent r.tok) (slot_faults (inherited cs c) slots)
    ∙ ap (λ (o : Option NameFault). fold sooner o (slot_faults (inherited cs c) slots)) (if_behind first no_tuple BadParent r.tok both.0)
    ∙ slots_behind first (inherited cs c) slots both.1))

-- What a tuple class has by its parent.

pub heir_over : (ds : List Draft) (cs : List ClassDef) (c : ℕ) (r : Ref) (slots : List Tok) (first next : Option NameFault) → too_many cs c slots ≡ true → next ≡ sooner first (fault BadParent r.tok) → next ≡ fold sooner first (tuple_faults ds cs c (Some r) slots)
heir_over ds cs c r slots first next over h =
    h ∙ sym (ap (λ (b : Bool). fold sooner first (if b then fault BadParent r.tok ∷ [] else fault_if (not (is_tuple_class cs (class_at ds r))) BadParent r.tok ++ slot_faults (inherited cs c) slots)) over)

pub heir_within : (ds : List Draft) (cs : List ClassDef) (c : ℕ) (r : Ref) (slots : List Tok) (first next : Option NameFault) (given : List (List ℕ)) → too_many cs c slots ≡ false → given ≡ inherited cs c →
    next ≡ fold sooner first (fault_if (not (is_tuple_class cs (class_at ds r))) BadParent r.tok ++ slot_faults given slots) → next ≡ fold sooner first (tuple_faults ds cs c (Some r) slots)
heir_within ds cs c r slots first next given within is h =
    h
    ∙ ap (λ (xs : List (List ℕ)). fold sooner first (fault_if (not (is_tuple_class cs (class_at ds r))) BadParent r.tok ++ slot_faults xs slots)) is
    ∙ sym (ap (λ (b : Bool). fold sooner first (if b then fault BadParent r.tok ∷ [] else fault_if (not (is_tuple_class cs (class_at ds r))) BadParent r.tok ++ slot_faults (inherited cs c) slots)) within)

-- Classes and words, one after the other.

pub class_more : (ds : List Draft) (cs : List ClassDef) (new : List NewClass) (i number : ℕ) (d : NewClass) (flag : Bool) (start first next : Option NameFault) (all : List NameFault) → i < length new → d ≡ get_or new i d → flag ≡ reaches (length cs) cs number number →
    fold sooner start all ≡ fold sooner first (class_faults ds cs number (drop i new)) → next ≡ fold sooner first (fault_if flag Cycle d.tok ++ named_faults ds cs number d.names) →
    fold sooner start all ≡ fold sooner next (class_faults ds cs (number + 1) (drop (i + 1) new))
class_more ds cs new i number d flag start first next all within at cycle h k =
    one_behind start first next (fault_if flag Cycle d.tok ++ named_faults ds cs number d.names) (class_faults ds cs (suc number) (drop (i + 1) new)) all
    (h ∙ ap (λ (us : List NewClass). fold sooner first (class_faults ds cs number us)) (drop_at new i d within at)
    ∙ ap (λ (b : Bool). fold sooner first (fault_if b Cycle d.tok ++ named_faults ds cs number d.names ++ class_faults ds cs (suc number) (drop (i + 1) new))) (sym cycle))
    k
    ∙ ap (λ (n : ℕ). fold sooner next (class_faults ds cs n (drop (i + 1) new))) (let e : suc number ≡ number + 1 = omega arith in e)

pub word_more : (ds : List Draft) (cs : List ClassDef) (xs : List Draft) (earlier : List WordDef) (i : ℕ) (d : Draft) (is_second : Bool) (start first next : Option NameFault) (all : List NameFault) → i < length xs → d ≡ get_or xs i d → list_any (same_method (finished ds cs d)) earlier ≡ is_second →
    fold sooner start all ≡ fold sooner first (words_faults ds cs earlier (drop i xs)) → next ≡ fold sooner first (late_faults ds cs is_second d.word d.late) →
    fold sooner start all ≡ fold sooner next (words_faults ds cs (finished ds cs d ∷ earlier) (drop (i + 1) xs))
word_more ds cs xs earlier i d is_second start first next all within at second h k =
    one_behind start first next (late_faults ds cs is_second d.word d.late) (words_faults ds cs (finished ds cs d ∷ earlier) (drop (i + 1) xs)) all
    (h ∙ ap (λ (us : List Draft). fold sooner first (words_faults ds cs earlier us)) (drop_at xs i d within at)
    ∙ ap (λ (b : Bool). fold sooner first (late_faults ds cs b d.word d.late ++ words_faults ds cs (finished ds cs d ∷ earlier) (drop (i + 1) xs))) second)
    k
