-- What the used vocabularies hold under a name.
use Rattle.std.proofs.Common.{◌≡◌, ℕ, zero, suc, ◌+◌, Bool, true, false, cond, not, ◌||◌, ◌&&◌, List, [], ◌∷◌, ◌++◌, length, take, Option, Some, None, refl, sym, ap, ◌∙◌, subst, arith, length-append, true≢false}
use Rattle.std.specs.Prelude.{slice_get, Result, Ok, Err, OnOk, OnErr}
use Rattle.std.specs.List.{list_any, find}
use Rattle.std.specs.Str.{bytes_eq}
use Rattle.std.proofs.lemmas.Slice.Eq.{bytes_eq-Decides}
use Rattle.fac_lang.specs.Whole.{no_two, same_name}
use Rattle.fac_vocab.specs.declared.least.Least.{Least}
use Rattle.fac_vocab.specs.Scopes.{Entry, with_vocab, put_in_order, full_text, all_used, only_one}
use Rattle.fac_vocab.specs.ScopeCalls.{name_of, names_differ}
use Rattle.fac_vocab.specs.inner.Rows.{numbers_named, with_some, entries_at, entries_named, used_among, kept_numbers, with_used_entry, least_with, bares, LeastUsed}
use Rattle.fac_vocab.proofs.TextLemmas.{bytes_eq-swap, false_by, both_true, or_false}
use Rattle.fac_vocab.proofs.OrderLemmas.{put_both, first_two_put}
use Rattle.fac_vocab.proofs.RowLemmas.{find_filter, rows_named}

-- The first two that are kept.

take_two : (es : List Entry) → take 2 (take 2 es) ≡ take 2 es
take_two [] = refl
take_two (x ∷ []) = refl
take_two (x ∷ y ∷ es) = refl

pub least_at_rows : (used : List (List ℕ)) (table : List Entry) (ns : List ℕ) → least_with used table ns [] ≡ take 2 (used_among used (entries_at table ns))
least_at_rows used table [] = refl
least_at_rows used table (n ∷ ns) = one (slice_get table n) (least_at_rows used table ns)
  where
    two : (b : Bool) (e : Entry) (least rows : List Entry) → least ≡ take 2 rows → cond b (take 2 (put_in_order e least)) least ≡ take 2 (cond b (put_in_order e rows) rows)
    two true e least rows h = ap (λ (l : List Entry). take 2 (put_in_order e l)) h ∙ first_two_put e rows
    two false e least rows h = h

    one : (o : Option Entry) → least_with used table ns [] ≡ take 2 (used_among used (entries_at table ns)) → with_used_entry used o (least_with used table ns []) ≡ take 2 (used_among used (with_some o (entries_at table ns)))
    one None h = h
    one (Some e) h = two (list_any (bytes_eq e.vocab) used) e (least_with used table ns []) (used_among used (entries_at table ns)) h

-- a last number more
pub least_last : (used : List (List ℕ)) (table : List Entry) (ns : List ℕ) (n : ℕ) (least : List Entry) → least_with used table (ns ++ n ∷ []) least ≡ least_with used table ns (with_used_entry used (slice_get table n) least)
least_last used table [] n least = refl
least_last used table (m ∷ ns) n least = ap (λ (l : List Entry). with_used_entry used (slice_get table m) l) (least_last used table ns n least)

-- The used vocabularies one after another, and the entries of a name one after another.

abbrev used_from : List Entry → List (List ℕ) → List Entry
used_from rows [] = []
used_from rows (v ∷ vs) = elim (find (λ (e : Entry). bytes_eq v e.vocab) rows) [ Some e ↦ put_in_order e (used_from rows vs) | None ↦ used_from rows vs ]

abbrev pub with_found : Option Entry → List Entry → List Entry
with_found o es = elim o [ Some e ↦ put_in_order e es | None ↦ es ]

all_at_rows : (table : List Entry) (name : List ℕ) (used : List (List ℕ)) → all_used table name used ≡ used_from (entries_named table name) used
all_at_rows table name [] = refl
all_at_rows table name (v ∷ vs) =
    ap (λ (o : Option Entry). with_found o (all_used table name vs)) (sym (find_filter (λ e. bytes_eq name e.name) (λ e. bytes_eq v e.vocab) table))
    ∙ ap (λ (es : List Entry). with_found (find (λ (e : Entry). bytes_eq v e.vocab) (entries_named table name)) es) (all_at_rows table name vs)

-- a vocabulary that isn't used changes nothing
used_without : (e : Entry) (rows : List Entry) (vs : List (List ℕ)) → list_any (bytes_eq e.vocab) vs ≡ false → used_from (e ∷ rows) vs ≡ used_from rows vs
used_without e rows [] h = refl
used_without e rows (v ∷ vs) h =
    let other = or_false (bytes_eq e.vocab v) (list_any (bytes_eq e.vocab) vs) h in
    ap (λ (b : Bool). with_found (cond b (Some e) (find (λ (e : Entry). bytes_eq v e.vocab) rows)) (used_from (e ∷ rows) vs)) (bytes_eq-swap v e.vocab ∙ other.0)
    ∙ ap (λ (es : List Entry). with_found (find (λ (e : Entry). bytes_eq v e.vocab) rows) es) (used_without e rows vs other.1)

-- whether no entry is of a vocabulary, and whether all are of one name
abbrev pub none_of : List ℕ → List Entry → Bool
none_of vocab [] = true
none_of vocab (e ∷ es) = not (bytes_eq vocab e.vocab) && none_of vocab es

abbrev pub all_named : List ℕ → List Entry → Bool
all_named name [] = true
all_named name (e ∷ es) = bytes_eq name e.name && all_named name es

not_false : (b : Bool) → not b ≡ true → b ≡ false
not_false true h = absurd (true≢false (sym h))
not_false false h = refl

pub none_found : (vocab : List ℕ) (rows : List Entry) → none_of vocab rows ≡ true → find (λ (e : Entry). bytes_eq vocab e.vocab) rows ≡ None
none_found vocab [] h = refl
none_found vocab (e ∷ rows) h =
    let both = both_true (not (bytes_eq vocab e.vocab)) (none_of vocab rows) h in
    ap (λ (b : Bool). cond b (Some e) (find (λ (e : Entry). bytes_eq vocab e.vocab) rows)) (not_false (bytes_eq vocab e.vocab) both.0) ∙ none_found vocab rows both.1

-- Full names of one name in two vocabularies differ.

take_front : (xs ys : List ℕ) → take (length xs) (xs ++ ys) ≡ xs
take_front [] ys = refl
take_front (x ∷ xs) ys = ap (λ (zs : List ℕ). x ∷ zs) (take_front xs ys)

same_front : (xs ys zs : List ℕ) → xs ++ zs ≡ ys ++ zs → xs ≡ ys
same_front xs ys zs e =
    let long : length xs + length zs ≡ length ys + length zs = sym (length-append xs zs) ∙ ap length e ∙ length-append ys zs in
    let alike : length xs ≡ length ys = omega (arith, long) in
    sym (take_front xs zs) ∙ ap (λ (l : List ℕ). take (length xs) l) e ∙ ap (λ (n : ℕ). take n (ys ++ zs)) alike ∙ take_front ys zs

pub full_differ : (e f : Entry) → e.name ≡ f.name → bytes_eq e.vocab f.vocab ≡ false → bytes_eq (full_text e) (full_text f) ≡ false
full_differ e f n h = false_by (bytes_eq (full_text e) (full_text f)) (λ g.
    let full : full_text e ≡ full_text f = (bytes_eq-Decides (full_text e) (full_text f)).0 g in
    let vocab : e.vocab ≡ f.vocab = same_front e.vocab f.vocab (58 ∷ f.name) (ap (λ (m : List ℕ). e.vocab ++ 58 ∷ m) (sym n) ∙ full) in
    true≢false (sym ((bytes_eq-Decides e.vocab f.vocab).1 vocab) ∙ h))

-- One entry more, of a vocabulary that no other of the entries has.

pub found_row : (vocab name : List ℕ) (rows : List Entry) (f : Entry) → all_named name rows ≡ true → find (λ (e : Entry). bytes_eq vocab e.vocab) rows ≡ Some f → (bytes_eq vocab f.vocab ≡ true) × (bytes_eq name f.name ≡ true)
found_row vocab name [] f h e = absurd (none_some e)
  where
    none_some : {X : Type 0} {x : X} → None ≡ Some x → ⊥
    none_some g = cc
found_row vocab name (x ∷ rows) f h e = one (bytes_eq vocab x.vocab) refl (both_true (bytes_eq name x.name) (all_named name rows) h) (λ k g. found_row vocab name rows f k g) e
  where
    one : (b : Bool) → bytes_eq vocab x.vocab ≡ b → (bytes_eq name x.name ≡ true) × (all_named name rows ≡ true) → (all_named name rows ≡ true → find (λ (e : Entry). bytes_eq vocab e.vocab) rows ≡ Some f → (bytes_eq vocab f.vocab ≡ true) × (bytes_eq name f.name ≡ true)) → cond b (Some x) (find (λ (e : Entry). bytes_eq vocab e.vocab) rows) ≡ Some f → (bytes_eq vocab f.vocab ≡ true) × (bytes_eq name f.name ≡ true)
    one true p both ih g = let same : x ≡ f = cc in subst (λ (y : Entry). (bytes_eq vocab y.vocab ≡ true) × (bytes_eq name y.name ≡ true)) same (p, both.0)
    one false p both ih g = ih both.1 g

-- the entry comes first, or behind what another vocabulary has
used_with : (e : Entry) (rows : List Entry) (vs : List (List ℕ)) → all_named e.name rows ≡ true → none_of e.vocab rows ≡ true → no_two bytes_eq vs ≡ true → used_from (e ∷ rows) vs ≡ cond (list_any (bytes_eq e.vocab) vs) (put_in_order e (used_from rows vs)) (used_from rows vs)
used_with e rows [] named none once = refl
used_with e rows (v ∷ vs) named none once =
    let both = both_true (not (list_any (bytes_eq v) vs)) (no_two bytes_eq vs) once in
    here (bytes_eq e.vocab v) refl (not_false (list_any (bytes_eq v) vs) both.0) (used_with e rows vs named none both.1)
  where
    behind : (o : Option Entry) (b : Bool) → find (λ (e : Entry). bytes_eq v e.vocab) rows ≡ o → bytes_eq e.vocab v ≡ false → used_from (e ∷ rows) vs ≡ cond b (put_in_order e (used_from rows vs)) (used_from rows vs) →
        with_found o (used_from (e ∷ rows) vs) ≡ cond b (put_in_order e (with_found o (used_from rows vs))) (with_found o (used_from rows vs))
    behind None b at apart ih = ih
    behind (Some f) false at apart ih = ap (put_in_order f) ih
    behind (Some f) true at apart ih =
        let row = found_row v e.name rows f named at in
        let other : bytes_eq e.vocab f.vocab ≡ false = ap (bytes_eq e.vocab) (sym ((bytes_eq-Decides v f.vocab).0 row.0)) ∙ apart in
        ap (put_in_order f) ih ∙ sym (put_both e f (used_from rows vs) (full_differ e f ((bytes_eq-Decides e.name f.name).0 row.1) other))

    here : (b : Bool) → bytes_eq e.vocab v ≡ b → list_any (bytes_eq v) vs ≡ false → used_from (e ∷ rows) vs ≡ cond (list_any (bytes_eq e.vocab) vs) (put_in_order e (used_from rows vs)) (used_from rows vs) →
        with_found (cond (bytes_eq v e.vocab) (Some e) (find (λ (e : Entry). bytes_eq v e.vocab) rows)) (used_from (e ∷ rows) vs) ≡ cond (b || list_any (bytes_eq e.vocab) vs) (put_in_order e (used_from rows (v ∷ vs))) (used_from rows (v ∷ vs))
    here true p later ih =
        let same : e.vocab ≡ v = (bytes_eq-Decides e.vocab v).0 p in
        let unused : list_any (bytes_eq e.vocab) vs ≡ false = ap (λ (w : List ℕ). list_any (bytes_eq w) vs) same ∙ later in
        let nothing : find (λ (f : Entry). bytes_eq v f.vocab) rows ≡ None = ap (λ (w : List ℕ). find (λ (f : Entry). bytes_eq w f.vocab) rows) (sym same) ∙ none_found e.vocab rows none in
        ap (λ (c : Bool). with_found (cond c (Some e) (find (λ (f : Entry). bytes_eq v f.vocab) rows)) (used_from (e ∷ rows) vs)) (bytes_eq-swap v e.vocab ∙ p)
        ∙ ap (put_in_order e) (used_without e rows vs unused)
        ∙ ap (λ (o : Option Entry). put_in_order e (with_found o (used_from rows vs))) (sym nothing)
    here false p later ih =
        ap (λ (c : Bool). with_found (cond c (Some e) (find (λ (f : Entry). bytes_eq v f.vocab) rows)) (used_from (e ∷ rows) vs)) (bytes_eq-swap v e.vocab ∙ p)
        ∙ behind (find (λ (f : Entry). bytes_eq v f.vocab) rows) (list_any (bytes_eq e.vocab) vs) refl p ih

-- whether no two of some entries are of one vocabulary
abbrev pub apart : List Entry → Bool
apart [] = true
apart (e ∷ es) = none_of e.vocab es && apart es

used_of_rows : (name : List ℕ) (rows : List Entry) (vs : List (List ℕ)) → all_named name rows ≡ true → apart rows ≡ true → no_two bytes_eq vs ≡ true → used_from rows vs ≡ used_among vs rows
used_of_rows name [] vs named once differ = nothing vs
  where
    nothing : (vs : List (List ℕ)) → used_from [] vs ≡ []
    nothing [] = refl
    nothing (v ∷ vs) = nothing vs
used_of_rows name (e ∷ rows) vs named once differ =
    let names = both_true (bytes_eq name e.name) (all_named name rows) named in
    let vocabs = both_true (none_of e.vocab rows) (apart rows) once in
    let own : all_named e.name rows ≡ true = ap (λ (n : List ℕ). all_named n rows) (sym ((bytes_eq-Decides name e.name).0 names.0)) ∙ names.1 in
    used_with e rows vs own vocabs.0 differ
    ∙ ap (λ (es : List Entry). cond (list_any (bytes_eq e.vocab) vs) (put_in_order e es) es) (used_of_rows name rows vs names.1 vocabs.1 differ)

-- The entries of a name.

pub rows_are_named : (table : List Entry) (name : List ℕ) → all_named name (entries_named table name) ≡ true
rows_are_named [] name = refl
rows_are_named (e ∷ es) name = one (bytes_eq name e.name) refl (rows_are_named es name)
  where
    one : (b : Bool) → bytes_eq name e.name ≡ b → all_named name (entries_named es name) ≡ true → all_named name (cond b (e ∷ entries_named es name) (entries_named es name)) ≡ true
    one true p h = ap (λ (c : Bool). c && all_named name (entries_named es name)) p ∙ h
    one false p h = h

none_here : (e : Entry) (es : List Entry) (name : List ℕ) → e.name ≡ name → list_any (λ f. same_name (name_of e) (name_of f)) es ≡ false → none_of e.vocab (entries_named es name) ≡ true
none_here e [] name n h = refl
none_here e (f ∷ es) name n h =
    let other = or_false (bytes_eq e.vocab f.vocab && bytes_eq e.name f.name) (list_any (λ f. same_name (name_of e) (name_of f)) es) h in
    one (bytes_eq name f.name) (bytes_eq e.vocab f.vocab) refl (ap (λ (m : List ℕ). bytes_eq e.vocab f.vocab && bytes_eq m f.name) (sym n) ∙ other.0) (none_here e es name n other.1)
  where
    one : (b c : Bool) → bytes_eq e.vocab f.vocab ≡ c → (bytes_eq e.vocab f.vocab && b) ≡ false → none_of e.vocab (entries_named es name) ≡ true → none_of e.vocab (cond b (f ∷ entries_named es name) (entries_named es name)) ≡ true
    one true true p g k = absurd (true≢false (sym (ap (λ (d : Bool). d && true) p) ∙ g))
    one true false p g k = ap (λ (d : Bool). not d && none_of e.vocab (entries_named es name)) p ∙ k
    one false c p g k = k

pub rows_apart : (table : List Entry) (name : List ℕ) → names_differ table ≡ true → apart (entries_named table name) ≡ true
rows_apart [] name h = refl
rows_apart (e ∷ es) name h =
    let both = both_true (not (list_any (λ f. same_name (name_of e) (name_of f)) es)) (names_differ es) h in
    one (bytes_eq name e.name) refl (not_false (list_any (λ f. same_name (name_of e) (name_of f)) es) both.0) (rows_apart es name both.1)
  where
    one : (b : Bool) → bytes_eq name e.name ≡ b → list_any (λ f. same_name (name_of e) (name_of f)) es ≡ false → apart (entries_named es name) ≡ true → apart (cond b (e ∷ entries_named es name) (entries_named es name)) ≡ true
    one true p g ih = ap (λ (d : Bool). d && apart (entries_named es name)) (none_here e es name (sym ((bytes_eq-Decides name e.name).0 p)) g) ∙ ih
    one false p g ih = ih

-- the first two that the used vocabularies hold under a name, by the numbers that the name has
pub least_is : (table : List Entry) (name : List ℕ) (used : List (List ℕ)) → names_differ table ≡ true → no_two bytes_eq used ≡ true → least_with used table (numbers_named 0 name table) [] ≡ take 2 (all_used table name used)
least_is table name used once differ =
    least_at_rows used table (numbers_named 0 name table)
    ∙ ap (λ (rows : List Entry). take 2 (used_among used rows)) (rows_named table name)
    ∙ ap (take 2) (sym (used_of_rows name (entries_named table name) used (rows_are_named table name) (rows_apart table name once) differ) ∙ sym (all_at_rows table name used))

pub least_named : (table : List Entry) (name : List ℕ) (used : List (List ℕ)) (least : Least) → names_differ table ≡ true → no_two bytes_eq used ≡ true → entries_at table (kept_numbers least) ≡ least_with used table (numbers_named 0 name table) [] → LeastUsed table name used least
least_named table name used least once differ h = ap bares (h ∙ least_is table name used once differ)

pub first_two_tell : (es : List Entry) → only_one (take 2 es) ≡ only_one es
first_two_tell [] = refl
first_two_tell (e ∷ []) = refl
first_two_tell (e ∷ f ∷ es) = refl

-- Texts without repeats.

any_push : (v w : List ℕ) (vs : List (List ℕ)) → list_any (bytes_eq v) vs ≡ false → bytes_eq v w ≡ false → list_any (bytes_eq v) (vs ++ w ∷ []) ≡ false
any_push v w [] h e = ap (λ (b : Bool). b || false) e
any_push v w (x ∷ vs) h e =
    let other = or_false (bytes_eq v x) (list_any (bytes_eq v) vs) h in
    ap (λ (b : Bool). b || list_any (bytes_eq v) (vs ++ w ∷ [])) other.0 ∙ any_push v w vs other.1 e

differ_push : (vs : List (List ℕ)) (w : List ℕ) → no_two bytes_eq vs ≡ true → list_any (bytes_eq w) vs ≡ false → no_two bytes_eq (vs ++ w ∷ []) ≡ true
differ_push [] w h e = refl
differ_push (v ∷ vs) w h e =
    let both = both_true (not (list_any (bytes_eq v) vs)) (no_two bytes_eq vs) h in
    let other = or_false (bytes_eq w v) (list_any (bytes_eq w) vs) e in
    ap (λ (b : Bool). not b && no_two bytes_eq (vs ++ w ∷ [])) (any_push v w vs (not_false (list_any (bytes_eq v) vs) both.0) (bytes_eq-swap v w ∙ other.0)) ∙ differ_push vs w both.1 other.1

differ_with : (vs : List (List ℕ)) (w : List ℕ) → no_two bytes_eq vs ≡ true → no_two bytes_eq (with_vocab vs w) ≡ true
differ_with vs w h = one (list_any (bytes_eq w) vs) refl
  where
    one : (b : Bool) → list_any (bytes_eq w) vs ≡ b → no_two bytes_eq (cond b vs (vs ++ w ∷ [])) ≡ true
    one true e = h
    one false e = differ_push vs w h e

pub differ_kept : {E : Type 0} (r : Result Unit E) (old new : List (List ℕ)) (t : List ℕ) → no_two bytes_eq old ≡ true → OnOk r (new ≡ with_vocab old t) → OnErr r (new ≡ old) → no_two bytes_eq new ≡ true
differ_kept (Ok done) old new t h ok err = ap (no_two bytes_eq) ok ∙ differ_with old t h
differ_kept (Err e) old new t h ok err = ap (no_two bytes_eq) err ∙ h

-- the first few of them

any_taken : (v : List ℕ) (n : ℕ) (vs : List (List ℕ)) → list_any (bytes_eq v) vs ≡ false → list_any (bytes_eq v) (take n vs) ≡ false
any_taken v zero [] h = refl
any_taken v (suc n) [] h = refl
any_taken v zero (x ∷ vs) h = refl
any_taken v (suc n) (x ∷ vs) h =
    let other = or_false (bytes_eq v x) (list_any (bytes_eq v) vs) h in
    ap (λ (b : Bool). b || list_any (bytes_eq v) (take n vs)) other.0 ∙ any_taken v n vs other.1

pub differ_taken : (n : ℕ) (vs : List (List ℕ)) → no_two bytes_eq vs ≡ true → no_two bytes_eq (take n vs) ≡ true
differ_taken zero [] h = refl
differ_taken (suc n) [] h = refl
differ_taken zero (v ∷ vs) h = refl
differ_taken (suc n) (v ∷ vs) h =
    let both = both_true (not (list_any (bytes_eq v) vs)) (no_two bytes_eq vs) h in
    ap (λ (b : Bool). not b && no_two bytes_eq (take n vs)) (any_taken v n vs (not_false (list_any (bytes_eq v) vs) both.0)) ∙ differ_taken n vs both.1
