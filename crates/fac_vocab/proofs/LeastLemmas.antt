-- The least two late entries of used vocabularies.
use Rattle.std.proofs.Common.{◌≡◌, ℕ, zero, suc, ◌+◌, ◌<◌, ◌≤◌, Bool, true, false, cond, not, ◌||◌, ◌&&◌, List, [], ◌∷◌, ◌++◌, length, drop, take, Option, Some, None, is_some, refl, sym, ap, ◌∙◌, subst, arith, true≢false, String, string_bytes}
use Rattle.std.specs.Prelude.{nat_lt, slice_get}
use Rattle.std.specs.List.{list_any, find, IsDistinct, AllByRecursion}
use Rattle.std.specs.String.{string_eq}
use Rattle.std.specs.Map.{lookup, keys_of}
use Rattle.std.specs.Str.{bytes_eq}
use Rattle.std.proofs.lemmas.Bool.{lt-ltb, ltb-true}
use Rattle.std.proofs.lemmas.List.{length_push}
use Rattle.std.proofs.lemmas.Slice.Eq.{bytes_eq-Decides}
use Rattle.indexmap.specs.IndexMap.{IndexMap, get_by_text}
use Rattle.fac_lang.specs.Classes.{bytes_before}
use Rattle.fac_lang.specs.Whole.{no_two, same_name}
use Rattle.fac_vocab.specs.declared.few.TheConstants.{FEW}
use Rattle.fac_vocab.specs.declared.least.Least.{Least}
use Rattle.fac_vocab.specs.declared.least.Least.TheVariants.{Nothing, One, Two}
use Rattle.fac_vocab.specs.Scopes.{Entry, or_else, full_text, put_in_order, now_defined}
use Rattle.fac_vocab.specs.ScopeCalls.{name_of, names_differ}
use Rattle.fac_vocab.specs.inner.Rows.{numbers_named, with_some, entries_at, used_among, kept_numbers, with_used_entry, least_with, bare, bares, LeastUsed, first_defined}
use Rattle.fac_vocab.specs.inner.Late.{late_numbers, number_where, number_by}
use Rattle.fac_vocab.specs.inner.Leasts.{least_in, KeptWithin, with_row, WithNumber, MoreLeast, IsLeast, AreLeast, LeastWhere}
use Rattle.fac_vocab.proofs.TextLemmas.{bytes_eq-swap, both_true}
use Rattle.fac_vocab.proofs.OrderLemmas.{put_both, first_two_put}
use Rattle.fac_vocab.proofs.RowLemmas.{entry_behind, rows_named}
use Rattle.fac_vocab.proofs.TableLemmas.{numbers_push}
use Rattle.fac_vocab.proofs.LatestLemmas.{split_at}
use Rattle.fac_vocab.proofs.LateLemmas.{within, late_within, late_push, late_apart, drop_short, drop_push, get_front}
use Rattle.fac_vocab.proofs.UsedLemmas.{least_at_rows, least_is, with_found, none_of, none_found, apart, all_named, rows_are_named, full_differ, found_row}

none_some : {X : Type 0} {x : X} → None ≡ Some x → ⊥
none_some g = cc

not_false : (b : Bool) → not b ≡ true → b ≡ false
not_false true h = absurd (true≢false (sym h))
not_false false h = refl

pub some_same : {X : Type 0} (x y : X) → Some x ≡ Some y → x ≡ y
some_same x y e = cc

pub some_at : {X : Type 0} (xs : List X) (i : ℕ) → i < length xs → (x : X) × (slice_get xs i ≡ Some x)
some_at [] i l = absurd (omega (arith, l))
some_at (x ∷ xs) zero l = (x, refl)
some_at (x ∷ xs) (suc i) l = some_at xs i (omega (arith, l))

-- Entries but for whether they are defined.

abbrev bare_some : Option Entry → Option Entry
bare_some None = None
bare_some (Some e) = Some (bare e)

bare_get : (t : List Entry) (n : ℕ) → slice_get (bares t) n ≡ bare_some (slice_get t n)
bare_get [] n = refl
bare_get (e ∷ t) zero = refl
bare_get (e ∷ t) (suc n) = bare_get t n

bare_at : (t : List Entry) (ns : List ℕ) → entries_at (bares t) ns ≡ bares (entries_at t ns)
bare_at t [] = refl
bare_at t (n ∷ ns) = ap (λ (o : Option Entry). with_some o (entries_at (bares t) ns)) (bare_get t n) ∙ one (slice_get t n) (bare_at t ns)
  where
    one : (o : Option Entry) → entries_at (bares t) ns ≡ bares (entries_at t ns) → with_some (bare_some o) (entries_at (bares t) ns) ≡ bares (with_some o (entries_at t ns))
    one None ih = ih
    one (Some e) ih = ap (λ (l : List Entry). bare e ∷ l) ih

bare_put : (e : Entry) (es : List Entry) → put_in_order (bare e) (bares es) ≡ bares (put_in_order e es)
bare_put e [] = refl
bare_put e (x ∷ es) = one (bytes_before (full_text x) (full_text e)) (bare_put e es)
  where
    one : (b : Bool) → put_in_order (bare e) (bares es) ≡ bares (put_in_order e es) → cond b (bare x ∷ put_in_order (bare e) (bares es)) (bare e ∷ bare x ∷ bares es) ≡ bares (cond b (x ∷ put_in_order e es) (e ∷ x ∷ es))
    one true ih = ap (λ (l : List Entry). bare x ∷ l) ih
    one false ih = refl

bare_two : (es : List Entry) → take 2 (bares es) ≡ bares (take 2 es)
bare_two [] = refl
bare_two (x ∷ []) = refl
bare_two (x ∷ y ∷ es) = refl

bare_row : (o : Option Entry) (es : List Entry) → with_row (bare_some o) (bares es) ≡ bares (with_row o es)
bare_row None es = refl
bare_row (Some e) es = ap (take 2) (bare_put e es) ∙ bare_two (put_in_order e es)

bare_least : (used : List (List ℕ)) (t : List Entry) (ns : List ℕ) (l : List Entry) → least_with used (bares t) ns (bares l) ≡ bares (least_with used t ns l)
bare_least used t [] l = refl
bare_least used t (n ∷ ns) l =
    ap (λ (o : Option Entry). with_used_entry used o (least_with used (bares t) ns (bares l))) (bare_get t n)
    ∙ ap (λ (m : List Entry). with_used_entry used (bare_some (slice_get t n)) m) (bare_least used t ns l)
    ∙ one (slice_get t n) (least_with used t ns l)
  where
    two : (b : Bool) (e : Entry) (m : List Entry) → cond b (take 2 (put_in_order (bare e) (bares m))) (bares m) ≡ bares (cond b (take 2 (put_in_order e m)) m)
    two true e m = bare_row (Some e) m
    two false e m = refl

    one : (o : Option Entry) (m : List Entry) → with_used_entry used (bare_some o) (bares m) ≡ bares (with_used_entry used o m)
    one None m = refl
    one (Some e) m = two (list_any (bytes_eq e.vocab) used) e m

bare_named : (k : ℕ) (q : List ℕ) (t : List Entry) → numbers_named k q (bares t) ≡ numbers_named k q t
bare_named k q [] = refl
bare_named k q (e ∷ t) = ap (λ (ns : List ℕ). cond (bytes_eq q e.name) (k ∷ ns) ns) (bare_named (k + 1) q t)

bare_late : (q : List ℕ) (t : List Entry) → late_numbers q (bares t) ≡ late_numbers q t
bare_late q t = ap (drop FEW) (bare_named 0 q t)

bare_length : (t : List Entry) → length (bares t) ≡ length t
bare_length [] = refl
bare_length (e ∷ t) = ap suc (bare_length t)

bare_push : (t : List Entry) (e : Entry) → bares (t ++ e ∷ []) ≡ bares t ++ bare e ∷ []
bare_push [] e = refl
bare_push (x ∷ t) e = ap (λ (l : List Entry). bare x ∷ l) (bare_push t e)

bare_any : (x : Entry) (t : List Entry) → list_any (λ f. same_name (name_of x) (name_of f)) (bares t) ≡ list_any (λ f. same_name (name_of x) (name_of f)) t
bare_any x [] = refl
bare_any x (e ∷ t) = ap (λ (b : Bool). same_name (name_of x) (name_of e) || b) (bare_any x t)

bare_differ : (t : List Entry) → names_differ (bares t) ≡ names_differ t
bare_differ [] = refl
bare_differ (e ∷ t) = ap (λ (b : Bool). not b && names_differ (bares t)) (bare_any e t) ∙ ap (λ (b : Bool). not (list_any (λ f. same_name (name_of e) (name_of f)) t) && b) (bare_differ t)

bare_by : (p : List ℕ → Bool) (t : List Entry) (ns : List ℕ) → number_by p (bares t) ns ≡ number_by p t ns
bare_by p t [] = refl
bare_by p t (n ∷ ns) = ap (λ (o : Option Entry). or_else (number_where p n o) (number_by p (bares t) ns)) (bare_get t n) ∙ one (slice_get t n) ∙ ap (or_else (number_where p n (slice_get t n))) (bare_by p t ns)
  where
    one : (o : Option Entry) → or_else (number_where p n (bare_some o)) (number_by p (bares t) ns) ≡ or_else (number_where p n o) (number_by p (bares t) ns)
    one None = refl
    one (Some e) = refl

-- What is read.

least_append : (used : List (List ℕ)) (t : List Entry) (xs ys : List ℕ) (l : List Entry) → least_with used t (xs ++ ys) l ≡ least_with used t xs (least_with used t ys l)
least_append used t [] ys l = refl
least_append used t (n ∷ xs) ys l = ap (λ (m : List Entry). with_used_entry used (slice_get t n) m) (least_append used t xs ys l)

pub least_late : (t : List Entry) (used : List (List ℕ)) (name : List ℕ) (kept r : Least) → names_differ t ≡ true → no_two bytes_eq used ≡ true → IsLeast t used name kept →
    entries_at t (kept_numbers r) ≡ least_with used t (take FEW (numbers_named 0 name t)) (entries_at t (kept_numbers kept)) → LeastUsed t name used r
least_late t used name kept r once differ h e =
    let ns = numbers_named 0 name t in
    ap bares e
    ∙ sym (bare_least used t (take FEW ns) (entries_at t (kept_numbers kept)))
    ∙ ap (least_with used (bares t) (take FEW ns)) (sym (bare_at t (kept_numbers kept)) ∙ h.first_two)
    ∙ sym (least_append used (bares t) (take FEW ns) (drop FEW ns) [])
    ∙ ap (λ (ms : List ℕ). least_with used (bares t) ms []) (split_at ns FEW)
    ∙ bare_least used t ns []
    ∙ ap bares (least_is t name used once differ)

-- Nothing is used.

none_used : (t : List Entry) (ns : List ℕ) → least_with [] t ns [] ≡ []
none_used t [] = refl
none_used t (n ∷ ns) = one (slice_get t n) (none_used t ns)
  where
    one : (o : Option Entry) → least_with [] t ns [] ≡ [] → with_used_entry [] o (least_with [] t ns []) ≡ []
    one None ih = ih
    one (Some e) ih = ih

pub new_least : (t : List Entry) (name : List ℕ) → IsLeast t [] name Nothing
new_least t name = record { first_two = sym (none_used (bares t) (late_numbers name t)); kept_within = tt }

-- What is put into order.

abbrev others : Entry → List Entry → Bool
others e [] = true
others e (r ∷ rs) = not (bytes_eq (full_text r) (full_text e)) && others e rs

used_push : (used : List (List ℕ)) (rows : List Entry) (e : Entry) → others e rows ≡ true → used_among used (rows ++ e ∷ []) ≡ cond (list_any (bytes_eq e.vocab) used) (put_in_order e (used_among used rows)) (used_among used rows)
used_push used [] e h = refl
used_push used (r ∷ rs) e h =
    let both = both_true (not (bytes_eq (full_text r) (full_text e))) (others e rs) h in
    one (list_any (bytes_eq r.vocab) used) (list_any (bytes_eq e.vocab) used) (not_false (bytes_eq (full_text r) (full_text e)) both.0) (used_push used rs e both.1)
  where
    one : (b c : Bool) → bytes_eq (full_text r) (full_text e) ≡ false → used_among used (rs ++ e ∷ []) ≡ cond c (put_in_order e (used_among used rs)) (used_among used rs) →
        cond b (put_in_order r (used_among used (rs ++ e ∷ []))) (used_among used (rs ++ e ∷ [])) ≡ cond c (put_in_order e (cond b (put_in_order r (used_among used rs)) (used_among used rs))) (cond b (put_in_order r (used_among used rs)) (used_among used rs))
    one true true g ih = ap (put_in_order r) ih ∙ put_both r e (used_among used rs) g
    one true false g ih = ap (put_in_order r) ih
    one false c g ih = ih

-- rows of one name with one of another vocabulary behind them
others_apart : (q : List ℕ) (rows : List Entry) (e : Entry) → apart (rows ++ e ∷ []) ≡ true → all_named q (rows ++ e ∷ []) ≡ true → others e rows ≡ true
others_apart q [] e h g = refl
others_apart q (r ∷ rs) e h g =
    let vocabs = both_true (none_of r.vocab (rs ++ e ∷ [])) (apart (rs ++ e ∷ [])) h in
    let names = both_true (bytes_eq q r.name) (all_named q (rs ++ e ∷ [])) g in
    let name : r.name ≡ e.name = sym ((bytes_eq-Decides q r.name).0 names.0) ∙ (bytes_eq-Decides q e.name).0 (last_named rs names.1) in
    ap (λ (b : Bool). not b && others e rs) (full_differ r e name (last_none rs vocabs.0)) ∙ others_apart q rs e vocabs.1 names.1
  where
    last_none : (rs : List Entry) → none_of r.vocab (rs ++ e ∷ []) ≡ true → bytes_eq r.vocab e.vocab ≡ false
    last_none [] k = not_false (bytes_eq r.vocab e.vocab) (both_true (not (bytes_eq r.vocab e.vocab)) true k).0
    last_none (x ∷ rs) k = last_none rs (both_true (not (bytes_eq r.vocab x.vocab)) (none_of r.vocab (rs ++ e ∷ [])) k).1

    last_named : (rs : List Entry) → all_named q (rs ++ e ∷ []) ≡ true → bytes_eq q e.name ≡ true
    last_named [] k = (both_true (bytes_eq q e.name) true k).0
    last_named (x ∷ rs) k = last_named rs (both_true (bytes_eq q x.name) (all_named q (rs ++ e ∷ [])) k).1

named_drop : (i : ℕ) (q : List ℕ) (t : List Entry) (ns : List ℕ) → all_named q (entries_at t ns) ≡ true → all_named q (entries_at t (drop i ns)) ≡ true
named_drop zero q t ns h = h
named_drop (suc i) q t [] h = refl
named_drop (suc i) q t (n ∷ ns) h = one (slice_get t n) h (named_drop i q t ns)
  where
    one : (o : Option Entry) → all_named q (with_some o (entries_at t ns)) ≡ true → (all_named q (entries_at t ns) ≡ true → all_named q (entries_at t (drop i ns)) ≡ true) → all_named q (entries_at t (drop i ns)) ≡ true
    one None k ih = ih k
    one (Some e) k ih = ih (both_true (bytes_eq q e.name) (all_named q (entries_at t ns)) k).1

late_named : (t : List Entry) (q : List ℕ) → all_named q (entries_at t (late_numbers q t)) ≡ true
late_named t q = named_drop FEW q t (numbers_named 0 q t) (ap (all_named q) (rows_named t q) ∙ rows_are_named t q)

two_row : (o : Option Entry) (es : List Entry) → take 2 (with_found o es) ≡ with_row o (take 2 es)
two_row None es = refl
two_row (Some e) es = sym (first_two_put e es)

used_row : (b : Bool) (e : Entry) (es : List Entry) → take 2 (cond b (put_in_order e es) es) ≡ with_row (cond b (Some e) None) (take 2 es)
used_row true e es = sym (first_two_put e es)
used_row false e es = refl

-- An entry more.

front_at : (t : List Entry) (e : Entry) (m : ℕ) (ns : List ℕ) → m ≡ length t → within m ns ≡ true → entries_at (t ++ e ∷ []) ns ≡ entries_at t ns
front_at t e m [] l h = refl
front_at t e m (n ∷ ns) l h =
    let both = both_true (nat_lt n m) (within m ns) h in
    let less = ltb-true n m both.0 in
    ap (λ (o : Option Entry). with_some o (entries_at (t ++ e ∷ []) ns)) (get_front t e n (omega (arith, l, less))) ∙ ap (with_some (slice_get t n)) (front_at t e m ns l both.1)

kept_front : (m : ℕ) (k : Least) → KeptWithin m k → within m (kept_numbers k) ≡ true
kept_front m Nothing h = refl
kept_front m (One a) h = rw (lt-ltb a m h) refl
kept_front m (Two a b) h = rw (lt-ltb a m h.0, lt-ltb b m h.1) refl

kept_longer : (m n : ℕ) (k : Least) → m ≤ n → KeptWithin m k → KeptWithin n k
kept_longer m n Nothing l h = tt
kept_longer m n (One a) l h = omega (arith, l, h)
kept_longer m n (Two a b) l h = let one = h.0 in let other = h.1 in (omega (arith, l, one), omega (arith, l, other))

-- what was kept, over the longer table
kept_push : (es : List Entry) (e : Entry) (used : List (List ℕ)) (q : List ℕ) (k : Least) → IsLeast es used q k → entries_at (bares (es ++ e ∷ [])) (kept_numbers k) ≡ take 2 (used_among used (entries_at (bares es) (late_numbers q es)))
kept_push es e used q k h =
    ap (λ (t : List Entry). entries_at t (kept_numbers k)) (bare_push es e)
    ∙ front_at (bares es) (bare e) (length es) (kept_numbers k) (sym (bare_length es)) (kept_front (length es) k h.kept_within)
    ∙ h.first_two
    ∙ least_at_rows used (bares es) (late_numbers q es)

rows_push : (es : List Entry) (e : Entry) (q : List ℕ) → entries_at (bares (es ++ e ∷ [])) (late_numbers q es) ≡ entries_at (bares es) (late_numbers q es)
rows_push es e q = ap (λ (t : List Entry). entries_at t (late_numbers q es)) (bare_push es e) ∙ front_at (bares es) (bare e) (length es) (late_numbers q es) (sym (bare_length es)) (late_within q es)

-- where the name has no late entry more
pub same_least : (es : List Entry) (e : Entry) (used : List (List ℕ)) (q : List ℕ) (k : Least) → late_numbers q (es ++ e ∷ []) ≡ late_numbers q es → IsLeast es used q k → IsLeast (es ++ e ∷ []) used q k
same_least es e used q k same h =
    record {
      first_two = kept_push es e used q k h
          ∙ ap (λ (rows : List Entry). take 2 (used_among used rows)) (sym (rows_push es e q))
          ∙ sym (least_at_rows used (bares (es ++ e ∷ [])) (late_numbers q es))
          ∙ ap (λ (ns : List ℕ). least_with used (bares (es ++ e ∷ [])) ns []) (sym same);
      kept_within = let more = length_push es e in kept_longer (length es) (length (es ++ e ∷ [])) k (omega (arith, more)) h.kept_within;
    }

pub late_other : (es : List Entry) (e : Entry) (q : List ℕ) → bytes_eq e.name q ≡ false → late_numbers q (es ++ e ∷ []) ≡ late_numbers q es
late_other es e q h = late_push es e q ∙ ap (λ (b : Bool). cond b (drop FEW (numbers_named 0 q es ++ (0 + length es) ∷ [])) (late_numbers q es)) h

late_few : (es : List Entry) (e : Entry) (q : List ℕ) → bytes_eq e.name q ≡ true → length (numbers_named 0 e.name (es ++ e ∷ [])) ≤ FEW → late_numbers q (es ++ e ∷ []) ≡ late_numbers q es
late_few es e q h few =
    let same = (bytes_eq-Decides e.name q).0 h in
    let pushed : numbers_named 0 q (es ++ e ∷ []) ≡ numbers_named 0 q es ++ (0 + length es) ∷ [] = numbers_push 0 q es e ∙ ap (λ (b : Bool). cond b (numbers_named 0 q es ++ (0 + length es) ∷ []) (numbers_named 0 q es)) h in
    let long = ap length pushed in
    let more = length_push (numbers_named 0 q es) (0 + length es) in
    let short = subst (λ (n : List ℕ). length (numbers_named 0 n (es ++ e ∷ [])) ≤ FEW) same few in
    ap (drop FEW) pushed ∙ drop_short FEW (numbers_named 0 q es) (0 + length es) (omega (arith, long, more, short))

pub few_least : (es : List Entry) (e : Entry) (used : List (List ℕ)) (q : List ℕ) (k : Least) → length (numbers_named 0 e.name (es ++ e ∷ [])) ≤ FEW → IsLeast es used q k → IsLeast (es ++ e ∷ []) used q k
few_least es e used q k few h = one (bytes_eq e.name q) refl
  where
    one : (b : Bool) → bytes_eq e.name q ≡ b → IsLeast (es ++ e ∷ []) used q k
    one true p = same_least es e used q k (late_few es e q p few) h
    one false p = same_least es e used q k (late_other es e q p) h

-- where it has one, with what the used vocabularies have of it
late_many : (es : List Entry) (e : Entry) (q : List ℕ) → bytes_eq e.name q ≡ true → FEW < length (numbers_named 0 e.name (es ++ e ∷ [])) → late_numbers q (es ++ e ∷ []) ≡ late_numbers q es ++ (0 + length es) ∷ []
late_many es e q h many =
    let same = (bytes_eq-Decides e.name q).0 h in
    let pushed : numbers_named 0 q (es ++ e ∷ []) ≡ numbers_named 0 q es ++ (0 + length es) ∷ [] = numbers_push 0 q es e ∙ ap (λ (b : Bool). cond b (numbers_named 0 q es ++ (0 + length es) ∷ []) (numbers_named 0 q es)) h in
    let long = ap length pushed in
    let more = length_push (numbers_named 0 q es) (0 + length es) in
    let short = subst (λ (n : List ℕ). FEW < length (numbers_named 0 n (es ++ e ∷ []))) same many in
    ap (drop FEW) pushed ∙ drop_push FEW (numbers_named 0 q es) (0 + length es) (omega (arith, long, more, short))

last_entry : (es : List Entry) (e : Entry) → slice_get (es ++ e ∷ []) (0 + length es) ≡ Some e
last_entry es e = let none : 0 + length es ≡ length es = omega arith in ap (slice_get (es ++ e ∷ [])) none ∙ entry_behind es [] e

at_push : (t : List Entry) (ns : List ℕ) (n : ℕ) (e : Entry) → slice_get t n ≡ Some e → entries_at t (ns ++ n ∷ []) ≡ entries_at t ns ++ e ∷ []
at_push t [] n e h = ap (λ (o : Option Entry). with_some o []) h
at_push t (m ∷ ns) n e h = ap (with_some (slice_get t m)) (at_push t ns n e h) ∙ one (slice_get t m)
  where
    one : (o : Option Entry) → with_some o (entries_at t ns ++ e ∷ []) ≡ with_some o (entries_at t ns) ++ e ∷ []
    one None = refl
    one (Some x) = refl

many_rows : (es : List Entry) (e : Entry) (q : List ℕ) → late_numbers q (es ++ e ∷ []) ≡ late_numbers q es ++ (0 + length es) ∷ [] → entries_at (bares (es ++ e ∷ [])) (late_numbers q (es ++ e ∷ [])) ≡ entries_at (bares es) (late_numbers q es) ++ bare e ∷ []
many_rows es e q more =
    ap (entries_at (bares (es ++ e ∷ []))) more
    ∙ at_push (bares (es ++ e ∷ [])) (late_numbers q es) (0 + length es) (bare e) (bare_get (es ++ e ∷ []) (0 + length es) ∙ ap bare_some (last_entry es e))
    ∙ ap (λ (rows : List Entry). rows ++ bare e ∷ []) (rows_push es e q)

many_least : (es : List Entry) (e : Entry) (used : List (List ℕ)) (q : List ℕ) → names_differ (es ++ e ∷ []) ≡ true → late_numbers q (es ++ e ∷ []) ≡ late_numbers q es ++ (0 + length es) ∷ [] →
    least_with used (bares (es ++ e ∷ [])) (late_numbers q (es ++ e ∷ [])) [] ≡ with_row (cond (list_any (bytes_eq e.vocab) used) (Some (bare e)) None) (take 2 (used_among used (entries_at (bares es) (late_numbers q es))))
many_least es e used q once more =
    let all = es ++ e ∷ [] in
    let t = bares all in
    let rows = entries_at (bares es) (late_numbers q es) in
    let whole : entries_at t (late_numbers q t) ≡ rows ++ bare e ∷ [] = ap (entries_at t) (bare_late q all) ∙ many_rows es e q more in
    let separate : apart (rows ++ bare e ∷ []) ≡ true = ap apart (sym whole) ∙ late_apart t q (bare_differ all ∙ once) in
    let alike : all_named q (rows ++ bare e ∷ []) ≡ true = ap (all_named q) (sym whole) ∙ late_named t q in
    least_at_rows used t (late_numbers q all)
    ∙ ap (λ (rs : List Entry). take 2 (used_among used rs)) (many_rows es e q more)
    ∙ ap (take 2) (used_push used rows (bare e) (others_apart q rows (bare e) separate alike))
    ∙ used_row (list_any (bytes_eq e.vocab) used) (bare e) (used_among used rows)

pub unused_least : (es : List Entry) (e : Entry) (used : List (List ℕ)) (q : List ℕ) (k : Least) → names_differ (es ++ e ∷ []) ≡ true → list_any (bytes_eq e.vocab) used ≡ false → FEW < length (numbers_named 0 e.name (es ++ e ∷ [])) → IsLeast es used q k → IsLeast (es ++ e ∷ []) used q k
unused_least es e used q k once unused many h = one (bytes_eq e.name q) refl
  where
    one : (b : Bool) → bytes_eq e.name q ≡ b → IsLeast (es ++ e ∷ []) used q k
    one true p =
        record {
          first_two = kept_push es e used q k h
              ∙ ap (λ (b : Bool). with_row (cond b (Some (bare e)) None) (take 2 (used_among used (entries_at (bares es) (late_numbers q es))))) (sym unused)
              ∙ sym (many_least es e used q once (late_many es e q p many));
          kept_within = let more = length_push es e in kept_longer (length es) (length (es ++ e ∷ [])) k (omega (arith, more)) h.kept_within;
        }
    one false p = same_least es e used q k (late_other es e q p) h

-- what is kept with one more, but for what is defined
more_bare : (t : List Entry) (n : ℕ) (old new : Least) → WithNumber t n old new → entries_at (bares t) (kept_numbers new) ≡ with_row (slice_get (bares t) n) (entries_at (bares t) (kept_numbers old))
more_bare t n old new h =
    bare_at t (kept_numbers new)
    ∙ ap bares h.first_two
    ∙ sym (bare_row (slice_get t n) (entries_at t (kept_numbers old)))
    ∙ ap (λ (o : Option Entry). with_row o (bares (entries_at t (kept_numbers old)))) (sym (bare_get t n))
    ∙ ap (with_row (slice_get (bares t) n)) (sym (bare_at t (kept_numbers old)))

pub used_least : (es : List Entry) (e : Entry) (used : List (List ℕ)) (q : List ℕ) (n : ℕ) (old new : Least) → names_differ (es ++ e ∷ []) ≡ true → list_any (bytes_eq e.vocab) used ≡ true → FEW < length (numbers_named 0 e.name (es ++ e ∷ [])) → n ≡ length es →
    MoreLeast (es ++ e ∷ []) n (bytes_eq e.name q) old new → IsLeast es used q old → IsLeast (es ++ e ∷ []) used q new
used_least es e used q n old new once inside many counted put h = one (bytes_eq e.name q) refl put
  where
    one : (b : Bool) → bytes_eq e.name q ≡ b → MoreLeast (es ++ e ∷ []) n b old new → IsLeast (es ++ e ∷ []) used q new
    one true p more =
        let none : n ≡ 0 + length es = omega (arith, counted) in
        record {
          first_two = more_bare (es ++ e ∷ []) n old new more
              ∙ ap (λ (o : Option Entry). with_row o (entries_at (bares (es ++ e ∷ [])) (kept_numbers old))) (ap (slice_get (bares (es ++ e ∷ []))) none ∙ bare_get (es ++ e ∷ []) (0 + length es) ∙ ap bare_some (last_entry es e))
              ∙ ap (with_row (Some (bare e))) (kept_push es e used q old h)
              ∙ ap (λ (b : Bool). with_row (cond b (Some (bare e)) None) (take 2 (used_among used (entries_at (bares es) (late_numbers q es))))) (sym inside)
              ∙ sym (many_least es e used q once (late_many es e q p many));
          kept_within = let long = length_push es e in more.kept_within (length (es ++ e ∷ [])) (omega (arith, long, counted)) (kept_longer (length es) (length (es ++ e ∷ [])) old (omega (arith, long)) h.kept_within);
        }
    one false p same = subst (λ (k : Least). IsLeast (es ++ e ∷ []) used q k) (sym same) (same_least es e used q old (late_other es e q p) h)

-- A vocabulary that is used now.

abbrev entry_of : List Entry → Option ℕ → Option Entry
entry_of t None = None
entry_of t (Some n) = slice_get t n

find_by : (v : List ℕ) (t : List Entry) (ns : List ℕ) → find (λ (e : Entry). bytes_eq v e.vocab) (entries_at t ns) ≡ entry_of t (number_by (bytes_eq v) t ns)
find_by v t [] = refl
find_by v t (n ∷ ns) = one (slice_get t n) refl (find_by v t ns)
  where
    two : (b : Bool) (e : Entry) → slice_get t n ≡ Some e → find (λ (e : Entry). bytes_eq v e.vocab) (entries_at t ns) ≡ entry_of t (number_by (bytes_eq v) t ns) →
        cond b (Some e) (find (λ (e : Entry). bytes_eq v e.vocab) (entries_at t ns)) ≡ entry_of t (or_else (cond b (Some n) None) (number_by (bytes_eq v) t ns))
    two true e at ih = sym at
    two false e at ih = ih

    one : (o : Option Entry) → slice_get t n ≡ o → find (λ (e : Entry). bytes_eq v e.vocab) (entries_at t ns) ≡ entry_of t (number_by (bytes_eq v) t ns) →
        find (λ (e : Entry). bytes_eq v e.vocab) (with_some o (entries_at t ns)) ≡ entry_of t (or_else (number_where (bytes_eq v) n o) (number_by (bytes_eq v) t ns))
    one None at ih = ih
    one (Some e) at ih = two (bytes_eq v e.vocab) e at ih

any_last : (w v : List ℕ) (used : List (List ℕ)) → list_any (bytes_eq w) (used ++ v ∷ []) ≡ (list_any (bytes_eq w) used || bytes_eq w v)
any_last w v [] = one (bytes_eq w v)
  where
    one : (b : Bool) → (b || false) ≡ b
    one true = refl
    one false = refl
any_last w v (u ∷ used) = ap (λ (b : Bool). bytes_eq w u || b) (any_last w v used) ∙ one (bytes_eq w u) (list_any (bytes_eq w) used) (bytes_eq w v)
  where
    one : (a b c : Bool) → (a || (b || c)) ≡ ((a || b) || c)
    one true b c = refl
    one false b c = refl

used_more : (v q : List ℕ) (used : List (List ℕ)) (rows : List Entry) → apart rows ≡ true → all_named q rows ≡ true → list_any (bytes_eq v) used ≡ false → used_among (used ++ v ∷ []) rows ≡ with_found (find (λ (e : Entry). bytes_eq v e.vocab) rows) (used_among used rows)
used_more v q used [] h g new = refl
used_more v q used (r ∷ rs) h g new =
    let vocabs = both_true (none_of r.vocab rs) (apart rs) h in
    let names = both_true (bytes_eq q r.name) (all_named q rs) g in
    let ih = used_more v q used rs vocabs.1 names.1 new in
    ap (λ (b : Bool). cond b (put_in_order r (used_among (used ++ v ∷ []) rs)) (used_among (used ++ v ∷ []) rs)) (any_last r.vocab v used ∙ ap (λ (b : Bool). list_any (bytes_eq r.vocab) used || b) (bytes_eq-swap r.vocab v))
    ∙ here (bytes_eq v r.vocab) refl vocabs.0 names.0 names.1 ih
  where
    behind : (o : Option Entry) (b : Bool) → find (λ (e : Entry). bytes_eq v e.vocab) rs ≡ o → bytes_eq v r.vocab ≡ false → bytes_eq q r.name ≡ true → all_named q rs ≡ true → used_among (used ++ v ∷ []) rs ≡ with_found o (used_among used rs) →
        cond (b || false) (put_in_order r (used_among (used ++ v ∷ []) rs)) (used_among (used ++ v ∷ []) rs) ≡ with_found o (cond b (put_in_order r (used_among used rs)) (used_among used rs))
    behind None true at apart own named ih = ap (put_in_order r) ih
    behind None false at apart own named ih = ih
    behind (Some f) false at apart own named ih = ih
    behind (Some f) true at apart own named ih =
        let row = found_row v q rs f named at in
        let name : r.name ≡ f.name = sym ((bytes_eq-Decides q r.name).0 own) ∙ (bytes_eq-Decides q f.name).0 row.1 in
        let other : bytes_eq r.vocab f.vocab ≡ false = ap (bytes_eq r.vocab) (sym ((bytes_eq-Decides v f.vocab).0 row.0)) ∙ bytes_eq-swap r.vocab v ∙ apart in
        ap (put_in_order r) ih ∙ put_both r f (used_among used rs) (full_differ r f name other)

    here : (b : Bool) → bytes_eq v r.vocab ≡ b → none_of r.vocab rs ≡ true → bytes_eq q r.name ≡ true → all_named q rs ≡ true → used_among (used ++ v ∷ []) rs ≡ with_found (find (λ (e : Entry). bytes_eq v e.vocab) rs) (used_among used rs) →
        cond (list_any (bytes_eq r.vocab) used || b) (put_in_order r (used_among (used ++ v ∷ []) rs)) (used_among (used ++ v ∷ []) rs) ≡
        with_found (cond b (Some r) (find (λ (e : Entry). bytes_eq v e.vocab) rs)) (cond (list_any (bytes_eq r.vocab) used) (put_in_order r (used_among used rs)) (used_among used rs))
    here true p none own named ih =
        let same : v ≡ r.vocab = (bytes_eq-Decides v r.vocab).0 p in
        let unused : list_any (bytes_eq r.vocab) used ≡ false = ap (λ (w : List ℕ). list_any (bytes_eq w) used) (sym same) ∙ new in
        let nothing : find (λ (e : Entry). bytes_eq v e.vocab) rs ≡ None = ap (λ (w : List ℕ). find (λ (e : Entry). bytes_eq w e.vocab) rs) same ∙ none_found r.vocab rs none in
        let rest : used_among (used ++ v ∷ []) rs ≡ used_among used rs = ih ∙ ap (λ (o : Option Entry). with_found o (used_among used rs)) nothing in
        ap (λ (b : Bool). cond (b || true) (put_in_order r (used_among (used ++ v ∷ []) rs)) (used_among (used ++ v ∷ []) rs)) unused
        ∙ ap (put_in_order r) rest
        ∙ ap (λ (b : Bool). put_in_order r (cond b (put_in_order r (used_among used rs)) (used_among used rs))) (sym unused)
    here false p none own named ih = behind (find (λ (e : Entry). bytes_eq v e.vocab) rs) (list_any (bytes_eq r.vocab) used) refl p own named ih

row_more : (t : List Entry) (used : List (List ℕ)) (v q : List ℕ) → names_differ t ≡ true → list_any (bytes_eq v) used ≡ false →
    least_with (used ++ v ∷ []) (bares t) (late_numbers q t) [] ≡ with_row (entry_of (bares t) (number_by (bytes_eq v) t (late_numbers q t))) (least_with used (bares t) (late_numbers q t) [])
row_more t used v q once new =
    let b = bares t in
    let ns = late_numbers q t in
    let rows = entries_at b ns in
    let separate : apart rows ≡ true = ap (λ (ms : List ℕ). apart (entries_at b ms)) (sym (bare_late q t)) ∙ late_apart b q (bare_differ t ∙ once) in
    let alike : all_named q rows ≡ true = ap (λ (ms : List ℕ). all_named q (entries_at b ms)) (sym (bare_late q t)) ∙ late_named b q in
    least_at_rows (used ++ v ∷ []) b ns
    ∙ ap (take 2) (used_more v q used rows separate alike new)
    ∙ two_row (find (λ (e : Entry). bytes_eq v e.vocab) rows) (used_among used rows)
    ∙ ap (λ (o : Option Entry). with_row o (take 2 (used_among used rows))) (find_by v b ns ∙ ap (entry_of b) (bare_by (bytes_eq v) t ns))
    ∙ ap (with_row (entry_of b (number_by (bytes_eq v) t ns))) (sym (least_at_rows used b ns))

by_within : (p : List ℕ → Bool) (t : List Entry) (m : ℕ) (ns : List ℕ) (n : ℕ) → within m ns ≡ true → number_by p t ns ≡ Some n → n < m
by_within p t m [] n h e = absurd (none_some e)
by_within p t m (k ∷ ns) n h e = let both = both_true (nat_lt k m) (within m ns) h in one (slice_get t k) (ltb-true k m both.0) e (λ g. by_within p t m ns n both.1 g)
  where
    two : (b : Bool) → k < m → or_else (cond b (Some k) None) (number_by p t ns) ≡ Some n → (number_by p t ns ≡ Some n → n < m) → n < m
    two true l g ih = let same : k ≡ n = cc in omega (arith, l, same)
    two false l g ih = ih g

    one : (o : Option Entry) → k < m → or_else (number_where p k o) (number_by p t ns) ≡ Some n → (number_by p t ns ≡ Some n → n < m) → n < m
    one None l g ih = ih g
    one (Some e) l g ih = two (p e.vocab) l g ih

-- a name that it doesn't hold, and one that it holds
pub without_vocab : (t : List Entry) (used : List (List ℕ)) (v q : List ℕ) (k : Least) → names_differ t ≡ true → list_any (bytes_eq v) used ≡ false → number_by (bytes_eq v) t (late_numbers q t) ≡ None → IsLeast t used q k → IsLeast t (used ++ v ∷ []) q k
without_vocab t used v q k once new none h =
    record {
      first_two = h.first_two ∙ ap (λ (o : Option ℕ). with_row (entry_of (bares t) o) (least_with used (bares t) (late_numbers q t) [])) (sym none) ∙ sym (row_more t used v q once new);
      kept_within = h.kept_within;
    }

with_vocab_least : (t : List Entry) (used : List (List ℕ)) (v q : List ℕ) (n : ℕ) (old new : Least) → names_differ t ≡ true → list_any (bytes_eq v) used ≡ false → number_by (bytes_eq v) t (late_numbers q t) ≡ Some n → WithNumber t n old new → IsLeast t used q old → IsLeast t (used ++ v ∷ []) q new
with_vocab_least t used v q n old new once unused at more h =
    record {
      first_two = more_bare t n old new more ∙ ap (with_row (slice_get (bares t) n)) h.first_two ∙ ap (λ (o : Option ℕ). with_row (entry_of (bares t) o) (least_with used (bares t) (late_numbers q t) [])) (sym at) ∙ sym (row_more t used v q once unused);
      kept_within = more.kept_within (length t) (by_within (bytes_eq v) t (length t) (late_numbers q t) n (late_within q t) at) h.kept_within;
    }

-- The names of a vocabulary one after another.

abbrev pub seen : {A : Type 0} → List ℕ → List (String A × ℕ) → ℕ → Bool
seen {A = A} q es zero = false
seen {A = A} q [] (suc i) = false
seen {A = A} q (x ∷ es) (suc i) = bytes_eq q (string_bytes x.0) || seen q es i

seen_next : {A : Type 0} (q : List ℕ) (es : List (String A × ℕ)) (i : ℕ) (x : String A × ℕ) → slice_get es i ≡ Some x → seen q es (i + 1) ≡ (seen q es i || bytes_eq q (string_bytes x.0))
seen_next {A = A} q [] i x e = absurd (none_some e)
seen_next {A = A} q (y ∷ es) zero x e = let same : y ≡ x = cc in ap (λ (z : String A × ℕ). bytes_eq q (string_bytes z.0) || false) same ∙ one (bytes_eq q (string_bytes x.0))
  where
    one : (b : Bool) → (b || false) ≡ b
    one true = refl
    one false = refl
seen_next {A = A} q (y ∷ es) (suc i) x e =
    let more : suc i + 1 ≡ suc (i + 1) = omega arith in
    ap (seen q (y ∷ es)) more ∙ ap (λ (b : Bool). bytes_eq q (string_bytes y.0) || b) (seen_next q es i x e) ∙ one (bytes_eq q (string_bytes y.0)) (seen q es i) (bytes_eq q (string_bytes x.0))
  where
    one : (a b c : Bool) → (a || (b || c)) ≡ ((a || b) || c)
    one true b c = refl
    one false b c = refl

key_differs : {A : Type 0} (y : String A) (es : List (String A × ℕ)) (i : ℕ) (x : String A × ℕ) → AllByRecursion (λ z. string_eq y z ≡ false) (keys_of es) → slice_get es i ≡ Some x → bytes_eq (string_bytes y) (string_bytes x.0) ≡ false
key_differs {A = A} y [] i x h e = absurd (none_some e)
key_differs {A = A} y (z ∷ es) zero x h e = let same : z ≡ x = cc in ap (λ (w : String A × ℕ). bytes_eq (string_bytes y) (string_bytes w.0)) (sym same) ∙ h.0
key_differs {A = A} y (z ∷ es) (suc i) x h e = key_differs y es i x h.1 e

not_seen : {A : Type 0} (es : List (String A × ℕ)) (i : ℕ) (x : String A × ℕ) → IsDistinct string_eq (keys_of es) → slice_get es i ≡ Some x → seen (string_bytes x.0) es i ≡ false
unfolding IsDistinct
not_seen {A = A} es zero x h e = refl
not_seen {A = A} [] (suc i) x h e = refl
not_seen {A = A} (y ∷ es) (suc i) x h e = ap (λ (b : Bool). b || seen (string_bytes x.0) es i) (bytes_eq-swap (string_bytes x.0) (string_bytes y.0) ∙ key_differs y.0 es i x h.0 e) ∙ not_seen es i x h.1 e

seen_all : {A : Type 0} (q : List ℕ) (es : List (String A × ℕ)) → seen q es (length es) ≡ is_some (lookup (λ k. bytes_eq q (string_bytes k)) es)
seen_all {A = A} q [] = refl
seen_all {A = A} q (x ∷ es) = one (bytes_eq q (string_bytes x.0)) (seen_all q es)
  where
    one : (b : Bool) → seen q es (length es) ≡ is_some (lookup (λ k. bytes_eq q (string_bytes k)) es) → (b || seen q es (length es)) ≡ is_some (cond b (Some x.1) (lookup (λ k. bytes_eq q (string_bytes k)) es))
    one true h = refl
    one false h = h

-- what is kept where the first names of a vocabulary that is used now were gone through
abbrev pub LeastTo : {A S : Type 0} → IndexMap (String A) Least S → List Entry → List (List ℕ) → List ℕ → List (String A × ℕ) → ℕ → Type 0
LeastTo {A = A} {S = S} kept t used v es i = (q : List ℕ) → IsLeast t (cond (seen q es i) (used ++ v ∷ []) used) q (least_in kept q)

pub least_next : {A S : Type 0} (old new : IndexMap (String A) Least S) (t : List Entry) (used : List (List ℕ)) (v : List ℕ) (es : List (String A × ℕ)) (i : ℕ) (x : String A × ℕ) → names_differ t ≡ true → list_any (bytes_eq v) used ≡ false → IsDistinct string_eq (keys_of es) → slice_get es i ≡ Some x →
    number_by (bytes_eq v) t (late_numbers (string_bytes x.0) t) ≡ Some x.1 → ((q : List ℕ) → MoreLeast t x.1 (bytes_eq (string_bytes x.0) q) (least_in old q) (least_in new q)) → LeastTo old t used v es i → LeastTo new t used v es (i + 1)
least_next {A = A} {S = S} old new t used v es i x once unused distinct e at put h = λ q.
    subst (λ (b : Bool). IsLeast t (cond b (used ++ v ∷ []) used) q (least_in new q)) (sym (seen_next q es i x e ∙ ap (λ (b : Bool). seen q es i || b) (bytes_eq-swap q (string_bytes x.0)))) (one q (bytes_eq (string_bytes x.0) q) refl (put q) (h q))
  where
    or_none : (b : Bool) → b ≡ (b || false)
    or_none true = refl
    or_none false = refl

    one : (q : List ℕ) (b : Bool) → bytes_eq (string_bytes x.0) q ≡ b → MoreLeast t x.1 b (least_in old q) (least_in new q) → IsLeast t (cond (seen q es i) (used ++ v ∷ []) used) q (least_in old q) → IsLeast t (cond (seen q es i || b) (used ++ v ∷ []) used) q (least_in new q)
    one q true p more was =
        let name : string_bytes x.0 ≡ q = (bytes_eq-Decides (string_bytes x.0) q).0 p in
        let fresh : seen q es i ≡ false = ap (λ (r : List ℕ). seen r es i) (sym name) ∙ not_seen es i x distinct e in
        let before : IsLeast t used q (least_in old q) = subst (λ (b : Bool). IsLeast t (cond b (used ++ v ∷ []) used) q (least_in old q)) fresh was in
        subst (λ (b : Bool). IsLeast t (cond (b || true) (used ++ v ∷ []) used) q (least_in new q)) (sym fresh) (with_vocab_least t used v q x.1 (least_in old q) (least_in new q) once unused (ap (λ (r : List ℕ). number_by (bytes_eq v) t (late_numbers r t)) (sym name) ∙ at) more before)
    one q false p same was =
        subst (λ (b : Bool). IsLeast t (cond b (used ++ v ∷ []) used) q (least_in new q)) (or_none (seen q es i)) (subst (λ (k : Least). IsLeast t (cond (seen q es i) (used ++ v ∷ []) used) q k) (sym same) was)

pub least_all : {A S R : Type 0} (kept : IndexMap (String A) Least S) (t : List Entry) (used : List (List ℕ)) (v : List ℕ) (numbers : IndexMap (String A) ℕ R) → names_differ t ≡ true → list_any (bytes_eq v) used ≡ false → ((q : List ℕ) → get_by_text numbers q ≡ number_by (bytes_eq v) t (late_numbers q t)) →
    LeastTo kept t used v numbers.entries (length numbers.entries) → AreLeast kept t (used ++ v ∷ [])
least_all {A = A} {S = S} kept t used v numbers once unused at h = λ q.
    one q (number_by (bytes_eq v) t (late_numbers q t)) refl (subst (λ (b : Bool). IsLeast t (cond b (used ++ v ∷ []) used) q (least_in kept q)) (seen_all q numbers.entries ∙ ap is_some (at q)) (h q))
  where
    one : (q : List ℕ) (o : Option ℕ) → number_by (bytes_eq v) t (late_numbers q t) ≡ o → IsLeast t (cond (is_some (number_by (bytes_eq v) t (late_numbers q t))) (used ++ v ∷ []) used) q (least_in kept q) → IsLeast t (used ++ v ∷ []) q (least_in kept q)
    one q (Some n) e k = subst (λ (o : Option ℕ). IsLeast t (cond (is_some o) (used ++ v ∷ []) used) q (least_in kept q)) e k
    one q None e k = without_vocab t used v q (least_in kept q) once unused e (subst (λ (o : Option ℕ). IsLeast t (cond (is_some o) (used ++ v ∷ []) used) q (least_in kept q)) e k)

-- A name that is defined now.

bare_now : (v q : List ℕ) (t : List Entry) → bares (now_defined v q t) ≡ bares t
bare_now v q [] = refl
bare_now v q (e ∷ t) = one (bytes_eq q e.name && bytes_eq v e.vocab) (bare_now v q t)
  where
    one : (b : Bool) → bares (now_defined v q t) ≡ bares t → bares (cond b (record e { is_defined = true } ∷ t) (e ∷ now_defined v q t)) ≡ bares (e ∷ t)
    one true h = refl
    one false h = ap (λ (l : List Entry). bare e ∷ l) h

bare_first : (t rows : List Entry) → bares (first_defined t rows) ≡ bares t
bare_first t [] = refl
bare_first t (e ∷ rows) = bare_now e.vocab e.name t

settled_one : (t after : List Entry) (used : List (List ℕ)) (q : List ℕ) (k : Least) → bares after ≡ bares t → IsLeast t used q k → IsLeast after used q k
settled_one t after used q k same h =
    let late : late_numbers q after ≡ late_numbers q t = sym (bare_late q after) ∙ ap (late_numbers q) same ∙ bare_late q t in
    record {
      first_two = ap (λ (b : List Entry). entries_at b (kept_numbers k)) same ∙ h.first_two ∙ ap (λ (b : List Entry). least_with used b (late_numbers q t) []) (sym same) ∙ ap (λ (ns : List ℕ). least_with used (bares after) ns []) (sym late);
      kept_within = subst (λ (n : ℕ). KeptWithin n k) (sym (bare_length t) ∙ ap length (sym same) ∙ bare_length after) h.kept_within;
    }

pub least_settled : {A S : Type 0} (b : Bool) (kept : IndexMap (String A) Least S) (t after rows : List Entry) (used : List (List ℕ)) → after ≡ first_defined t rows → LeastWhere b kept t used → LeastWhere b kept after used
least_settled true kept t after rows used e h = λ q. settled_one t after used q (least_in kept q) (ap bares e ∙ bare_first t rows) (h q)
least_settled false kept t after rows used e h = tt
