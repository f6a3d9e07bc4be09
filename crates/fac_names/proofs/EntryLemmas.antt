-- Entries of tables: which of them are only deferred, and that their words ascend.
use Rattle.std.proofs.Common.{◌≡◌, ◌≤◌, ◌<◌, ◌+◌, ℕ, suc, List, [], ◌∷◌, ◌++◌, Option, Some, Bool, true, false, cond, refl, ap, sym, ◌∙◌, subst, arith}
use Rattle.std.specs.Prelude.{◌&&◌, ◌||◌, not, nat_eq}
use Rattle.std.specs.List.{find, filter, list_all}
use Rattle.std.specs.Str.{bytes_eq}
use Rattle.std.proofs.lemmas.Slice.Eq.{bytes_eq-Decides}
use Rattle.fac_lang.specs.declared.program.WordDef.{WordDef}
use Rattle.fac_vocab.specs.declared.entry.Entry.{Entry}
use Rattle.fac_vocab.specs.Scopes.{entries_from, now_defined, same_table}
use Rattle.fac_names.proofs.BuiltScopes.{EntriesBelow}

-- the words of entries ascend
abbrev pub Ascending : ℕ → List Entry → Type 0
Ascending least [] = Unit {0}
Ascending least (e ∷ es) = (least ≤ e.word) × Ascending (suc e.word) es

-- whether an entry leaves word w as it is: it is defined, or of another word
abbrev pub spares : ℕ → Entry → Bool
spares w e = e.is_defined || not (nat_eq e.word w)

abbrev pub all_spare : ℕ → List Entry → Bool
all_spare w table = list_all (spares w) table

-- Truth values.

pub both_are : (a b : Bool) → a ≡ true → b ≡ true → (a && b) ≡ true
both_are a b h k = rw (h, k) refl

pub first_and : (b c : Bool) → (b && c) ≡ true → b ≡ true
first_and true c h = refl
first_and false c h = h

pub second_and : (b c : Bool) → (b && c) ≡ true → c ≡ true
second_and true c h = h
second_and false c h = cc

or_true : (b c : Bool) → c ≡ true → (b || c) ≡ true
or_true true c h = refl
or_true false c h = h

pub none_of : {A : Type 0} → true ≡ false → A
none_of h = cc

pub backward : (a b : Bool) → (a ≡ true → b ≡ true) → b ≡ false → a ≡ false
backward true b f h = none_of (sym (f refl) ∙ h)
backward false b f h = refl

is_other : (a b : ℕ) → a < b → nat_eq a b ≡ false
is_other a b lt = grind arith

-- Entries.

pub entry_spares : (w : ℕ) (e : Entry) → nat_eq e.word w ≡ false → spares w e ≡ true
entry_spares w e h = or_true e.is_defined (not (nat_eq e.word w)) (ap not h)

-- a word above those of all entries
pub out_spared : (n w : ℕ) (es : List Entry) → EntriesBelow n es → n ≤ w → all_spare w es ≡ true
out_spared n w [] h few = refl
out_spared n w (e ∷ es) h few = let lt = h.0 in both_are (spares w e) (all_spare w es) (entry_spares w e (is_other e.word w (omega (arith, lt, few)))) (out_spared n w es h.1 few)

pub greater_other : (a b : ℕ) → b < a → nat_eq a b ≡ false
greater_other a b lt = grind arith

-- a word below those of all entries
under_spared : (least w : ℕ) (es : List Entry) → Ascending least es → w < least → all_spare w es ≡ true
under_spared least w [] h lt = refl
under_spared least w (e ∷ es) h lt =
    let up = h.0 in
    both_are (spares w e) (all_spare w es) (entry_spares w e (greater_other e.word w (omega (arith, up, lt)))) (under_spared (suc e.word) w es h.1 (omega (arith, up, lt)))

found_if : (b : Bool) (x e : Entry) (o : Option Entry) → cond b (Some x) o ≡ Some e → (b ≡ false → o ≡ Some e → x.word ≤ e.word) → x.word ≤ e.word
found_if true x e o h f = let same : x ≡ e = cc in let words = ap (λ (y : Entry). y.word) same in omega (arith, words)
found_if false x e o h f = f refl h

found_up : (least : ℕ) (p : Entry → Bool) (es : List Entry) (e : Entry) → Ascending least es → find p es ≡ Some e → least ≤ e.word
found_up least p [] e h is = absurd (cc)
found_up least p (x ∷ xs) e h is =
    let up = h.0 in
    let behind = found_if (p x) x e (find p xs) is (λ out there. (let more = found_up (suc x.word) p xs e h.1 there in omega (arith, more))) in
    omega (arith, up, behind)

-- where the first entry of a name is defined now, it was the one of its word that was only deferred
pub now_spared : (vocab name : List ℕ) (least : ℕ) (es : List Entry) (e : Entry) → Ascending least es → find (λ (f : Entry). bytes_eq name f.name && bytes_eq vocab f.vocab) es ≡ Some e → all_spare e.word (now_defined vocab name es) ≡ true
now_spared vocab name least [] e h is = refl
now_spared vocab name least (x ∷ xs) e h is = one (bytes_eq name x.name && bytes_eq vocab x.vocab) (λ there. now_spared vocab name (suc x.word) xs e h.1 there) is
  where
    one : (b : Bool) → (find (λ (f : Entry). bytes_eq name f.name && bytes_eq vocab f.vocab) xs ≡ Some e → all_spare e.word (now_defined vocab name xs) ≡ true) → cond b (Some x) (find (λ (f : Entry). bytes_eq name f.name && bytes_eq vocab f.vocab) xs) ≡ Some e → all_spare e.word (cond b (record x { is_defined = true } ∷ xs) (x ∷ now_defined vocab name xs)) ≡ true
    one true behind there =
        let same : x ≡ e = cc in
        let words = ap (λ (y : Entry). y.word) same in
        under_spared (suc x.word) e.word xs h.1 (omega (arith, words))
    one false behind there =
        let up = found_up (suc x.word) (λ (f : Entry). bytes_eq name f.name && bytes_eq vocab f.vocab) xs e h.1 there in
        both_are (spares e.word x) (all_spare e.word (now_defined vocab name xs)) (entry_spares e.word x (is_other x.word e.word (omega (arith, up)))) (behind there)

-- the first of the entries of a name in a table and its companion is the first of its own full name
abbrev holds : List ℕ → List ℕ → Entry → Bool
holds vocab name e = bytes_eq name e.name && same_table vocab e.vocab

abbrev pub exactly : Entry → Entry → Bool
exactly e f = bytes_eq e.name f.name && bytes_eq e.vocab f.vocab

exact_holds : (vocab name : List ℕ) (e x : Entry) → exactly e x ≡ true → holds vocab name x ≡ holds vocab name e
exact_holds vocab name e x h =
    let names = (bytes_eq-Decides e.name x.name).0 (first_and (bytes_eq e.name x.name) (bytes_eq e.vocab x.vocab) h) in
    let vocabs = (bytes_eq-Decides e.vocab x.vocab).0 (second_and (bytes_eq e.name x.name) (bytes_eq e.vocab x.vocab) h) in
    ap (λ (n : List ℕ). bytes_eq name n && same_table vocab x.vocab) (sym names) ∙ ap (λ (v : List ℕ). bytes_eq name e.name && same_table vocab v) (sym vocabs)

exact_self : (e : Entry) → exactly e e ≡ true
exact_self e = both_are (bytes_eq e.name e.name) (bytes_eq e.vocab e.vocab) ((bytes_eq-Decides e.name e.name).1 refl) ((bytes_eq-Decides e.vocab e.vocab).1 refl)

held_holds : (vocab name : List ℕ) (es : List Entry) (e : Entry) (others : List Entry) → filter (holds vocab name) es ≡ e ∷ others → holds vocab name e ≡ true
held_holds vocab name [] e others h = absurd (cc)
held_holds vocab name (x ∷ xs) e others h = one (holds vocab name x) (λ there. held_holds vocab name xs e others there) refl h
  where
    one : (b : Bool) → (filter (holds vocab name) xs ≡ e ∷ others → holds vocab name e ≡ true) → holds vocab name x ≡ b → cond b (x ∷ filter (holds vocab name) xs) (filter (holds vocab name) xs) ≡ e ∷ others → holds vocab name e ≡ true
    one true behind is there = let same : x ≡ e = cc in sym (ap (holds vocab name) same) ∙ is
    one false behind is there = behind there

pub first_found : (vocab name : List ℕ) (es : List Entry) (e : Entry) (others : List Entry) → filter (holds vocab name) es ≡ e ∷ others → find (exactly e) es ≡ Some e
first_found vocab name [] e others h = absurd (cc)
first_found vocab name (x ∷ xs) e others h = one (holds vocab name x) (λ there. first_found vocab name xs e others there) refl h
  where
    other : (b : Bool) → exactly e x ≡ b → holds vocab name x ≡ false → holds vocab name e ≡ true → cond b (Some x) (find (exactly e) xs) ≡ find (exactly e) xs
    other true is out held_is = none_of (sym held_is ∙ sym (exact_holds vocab name e x is) ∙ out)
    other false is out held_is = refl

    one : (b : Bool) → (filter (holds vocab name) xs ≡ e ∷ others → find (exactly e) xs ≡ Some e) → holds vocab name x ≡ b → cond b (x ∷ filter (holds vocab name) xs) (filter (holds vocab name) xs) ≡ e ∷ others → find (exactly e) (x ∷ xs) ≡ Some e
    one true behind is there = let same : x ≡ e = cc in subst (λ (y : Entry). cond (exactly y x) (Some x) (find (exactly y) xs) ≡ Some y) same (ap (λ (b : Bool). cond b (Some x) (find (exactly x) xs)) (exact_self x))
    one false behind is there = other (exactly e x) refl is (held_holds vocab name xs e others there) ∙ behind there

pub found_spares : (p : Entry → Bool) (es : List Entry) (e : Entry) → find p es ≡ Some e → e.is_defined ≡ false → all_spare e.word es ≡ false
found_spares p [] e h late = absurd (cc)
found_spares p (x ∷ xs) e h late = one (p x) (λ there. found_spares p xs e there late) h
  where
    same_word : (w : ℕ) → nat_eq w w ≡ true
    same_word w = grind arith

    not_spared : (b : Bool) (w : ℕ) → b ≡ false → (b || not (nat_eq w w)) ≡ false
    not_spared b w is = rw (is, same_word w) refl

    no_first : (a b : Bool) → a ≡ false → (a && b) ≡ false
    no_first a b is = rw is refl

    no_second : (a b : Bool) → b ≡ false → (a && b) ≡ false
    no_second true b is = is
    no_second false b is = refl

    one : (b : Bool) → (find p xs ≡ Some e → all_spare e.word xs ≡ false) → cond b (Some x) (find p xs) ≡ Some e → all_spare e.word (x ∷ xs) ≡ false
    one true behind there =
        let same : x ≡ e = cc in
        no_first (spares e.word x) (all_spare e.word xs) (subst (λ (y : Entry). spares e.word y ≡ false) (sym same) (not_spared e.is_defined e.word late))
    one false behind there = no_second (spares e.word x) (all_spare e.word xs) (behind there)

-- Entries ascend.

pub ascending_with : (least n : ℕ) (es : List Entry) (e : Entry) → Ascending least es → EntriesBelow n es → least ≤ n → e.word ≡ n → Ascending least (es ++ e ∷ [])
ascending_with least n [] e h k few is = (omega (arith, few, is), tt)
ascending_with least n (x ∷ xs) e h k few is = let lt = k.0 in (h.0, ascending_with (suc x.word) n xs e h.1 k.1 (omega (arith, lt)) is)

ascending_if : (least : ℕ) (b : Bool) (x : Entry) (xs ys : List Entry) → Ascending least (x ∷ xs) → Ascending (suc x.word) ys → Ascending least (cond b (record x { is_defined = true } ∷ xs) (x ∷ ys))
ascending_if least true x xs ys h k = h
ascending_if least false x xs ys h k = (h.0, k)

pub ascending_defined : (vocab name : List ℕ) (least : ℕ) (es : List Entry) → Ascending least es → Ascending least (now_defined vocab name es)
ascending_defined vocab name least [] h = tt
ascending_defined vocab name least (x ∷ xs) h = ascending_if least (bytes_eq name x.name && bytes_eq vocab x.vocab) x xs (now_defined vocab name xs) h (ascending_defined vocab name (suc x.word) xs h.1)

pub known_ascending : (k : ℕ) (ds : List WordDef) → Ascending k (entries_from k ds)
known_ascending k [] = tt
known_ascending k (d ∷ ds) = (omega arith, subst (λ (n : ℕ). Ascending n (entries_from (k + 1) ds)) (let e : k + 1 ≡ suc k = omega arith in e) (known_ascending (k + 1) ds))

pub known_spare : (w k : ℕ) (ds : List WordDef) → all_spare w (entries_from k ds) ≡ true
known_spare w k [] = refl
known_spare w k (d ∷ ds) = known_spare w (k + 1) ds
