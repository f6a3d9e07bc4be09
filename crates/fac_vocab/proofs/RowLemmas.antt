-- Entries by their numbers.
use Rattle.std.proofs.Common.{◌≡◌, ℕ, ◌+◌, Bool, true, false, cond, ◌||◌, ◌&&◌, List, [], ◌∷◌, ◌++◌, length, Option, Some, None, refl, sym, ap, ◌∙◌, arith, append_assoc, true≢false}
use Rattle.std.specs.Prelude.{slice_get}
use Rattle.std.specs.List.{list_any, filter, find}
use Rattle.std.specs.Option.{option_map}
use Rattle.std.specs.Str.{bytes_eq}
use Rattle.std.proofs.lemmas.List.{length_push}
use Rattle.fac_vocab.specs.declared.answers.NameState.{NameState}
use Rattle.fac_vocab.specs.declared.answers.NameState.TheVariants.{New, Deferred, Defined}
use Rattle.fac_vocab.specs.Scopes.{Entry, held, word_held, or_else, same_table, companion, holders}
use Rattle.fac_vocab.specs.ScopeCalls.{standing_of, standing_with}
use Rattle.fac_vocab.specs.inner.Rows.{numbers_named, with_some, entries_at, entries_named, word_if, word_among, defined_if, defined_among, number_if, first_among, in_table, deferred_word, deferred_at}
use Rattle.fac_vocab.proofs.TextLemmas.{or_false}

-- the entry behind some
pub entry_behind : (done es : List Entry) (e : Entry) → slice_get (done ++ e ∷ es) (length done) ≡ Some e
entry_behind [] es e = refl
entry_behind (x ∷ done) es e = entry_behind done es e

-- The entries of the numbers that a name has.

rows_behind : (k : ℕ) (done es : List Entry) (name : List ℕ) → k ≡ length done → entries_at (done ++ es) (numbers_named k name es) ≡ entries_named es name
rows_behind k done [] name h = refl
rows_behind k done (e ∷ es) name h =
    let ih : entries_at (done ++ e ∷ es) (numbers_named (k + 1) name es) ≡ entries_named es name =
    ap (λ (all : List Entry). entries_at all (numbers_named (k + 1) name es)) (sym (append_assoc done (e ∷ []) es)) ∙ rows_behind (k + 1) (done ++ e ∷ []) es name (let more = length_push done e in omega (arith, h, more)) in
    one (bytes_eq name e.name) (numbers_named (k + 1) name es) (ap (slice_get (done ++ e ∷ es)) h ∙ entry_behind done es e) ih
  where
    one : (b : Bool) (ns : List ℕ) → slice_get (done ++ e ∷ es) k ≡ Some e → entries_at (done ++ e ∷ es) ns ≡ entries_named es name → entries_at (done ++ e ∷ es) (cond b (k ∷ ns) ns) ≡ cond b (e ∷ entries_named es name) (entries_named es name)
    one true ns at ih = ap (λ (o : Option Entry). with_some o (entries_at (done ++ e ∷ es) ns)) at ∙ ap (λ (rows : List Entry). e ∷ rows) ih
    one false ns at ih = ih

pub rows_named : (table : List Entry) (name : List ℕ) → entries_at table (numbers_named 0 name table) ≡ entries_named table name
rows_named table name = rows_behind 0 [] table name refl

-- What is searched among numbers is searched among their entries.

word_at_row : (vocab : List ℕ) (e : Entry) (rest : Option ℕ) (rows : List Entry) → rest ≡ option_map (λ e. e.word) (find (λ e. bytes_eq vocab e.vocab) rows) →
    or_else (word_if vocab (Some e)) rest ≡ option_map (λ e. e.word) (find (λ e. bytes_eq vocab e.vocab) (e ∷ rows))
word_at_row vocab e rest rows h = one (bytes_eq vocab e.vocab)
  where
    one : (b : Bool) → or_else (cond b (Some e.word) None) rest ≡ option_map (λ e. e.word) (cond b (Some e) (find (λ e. bytes_eq vocab e.vocab) rows))
    one true = refl
    one false = h

word_at_rows : (table : List Entry) (vocab : List ℕ) (ns : List ℕ) → word_among table vocab ns ≡ option_map (λ e. e.word) (find (λ e. bytes_eq vocab e.vocab) (entries_at table ns))
word_at_rows table vocab [] = refl
word_at_rows table vocab (n ∷ ns) = one (slice_get table n) (word_at_rows table vocab ns)
  where
    one : (o : Option Entry) → word_among table vocab ns ≡ option_map (λ e. e.word) (find (λ e. bytes_eq vocab e.vocab) (entries_at table ns)) →
        or_else (word_if vocab o) (word_among table vocab ns) ≡ option_map (λ e. e.word) (find (λ e. bytes_eq vocab e.vocab) (with_some o (entries_at table ns)))
    one None h = h
    one (Some e) h = word_at_row vocab e (word_among table vocab ns) (entries_at table ns) h

pub find_filter : (p q : Entry → Bool) (es : List Entry) → find q (filter p es) ≡ find (λ e. p e && q e) es
find_filter p q [] = refl
find_filter p q (e ∷ es) = one (p e) (q e) (find_filter p q es)
  where
    one : (b c : Bool) → find q (filter p es) ≡ find (λ e. p e && q e) es → find q (cond b (e ∷ filter p es) (filter p es)) ≡ cond (b && q e) (Some e) (find (λ e. p e && q e) es)
    one true c h = ap (λ (o : Option Entry). cond (q e) (Some e) o) h
    one false c h = h

pub word_of_name : (table : List Entry) (vocab name : List ℕ) → word_among table vocab (numbers_named 0 name table) ≡ word_held table vocab name
word_of_name table vocab name =
    word_at_rows table vocab (numbers_named 0 name table)
    ∙ ap (λ (rows : List Entry). option_map (λ (e : Entry). e.word) (find (λ (e : Entry). bytes_eq vocab e.vocab) rows)) (rows_named table name)
    ∙ ap (λ (o : Option Entry). option_map (λ (e : Entry). e.word) o) (find_filter (λ e. bytes_eq name e.name) (λ e. bytes_eq vocab e.vocab) table)

filter_filter : (p q : Entry → Bool) (es : List Entry) → filter q (filter p es) ≡ filter (λ e. p e && q e) es
filter_filter p q [] = refl
filter_filter p q (e ∷ es) = one (p e) (filter_filter p q es)
  where
    one : (b : Bool) → filter q (filter p es) ≡ filter (λ e. p e && q e) es → filter q (cond b (e ∷ filter p es) (filter p es)) ≡ cond (b && q e) (e ∷ filter (λ e. p e && q e) es) (filter (λ e. p e && q e) es)
    one true h = ap (λ (rest : List Entry). cond (q e) (e ∷ rest) rest) h
    one false h = h

pub holders_named : (table : List Entry) (vocab name : List ℕ) → in_table vocab (entries_named table name) ≡ holders table vocab name
holders_named table vocab name = filter_filter (λ e. bytes_eq name e.name) (λ e. same_table vocab e.vocab) table

-- How a name stands.

defined_at_rows : (table : List Entry) (vocab : List ℕ) (ns : List ℕ) → defined_among table vocab ns ≡ list_any (λ e. e.is_defined) (in_table vocab (entries_at table ns))
defined_at_rows table vocab [] = refl
defined_at_rows table vocab (n ∷ ns) = one (slice_get table n) (defined_at_rows table vocab ns)
  where
    two : (b c d e : Bool) (rows : List Entry) (x : Entry) → x.is_defined ≡ c → d ≡ list_any (λ e. e.is_defined) rows → ((b && c) || d) ≡ list_any (λ e. e.is_defined) (cond b (x ∷ rows) rows)
    two true c d e rows x f h = rw (f, h) refl
    two false c d e rows x f h = h

    one : (o : Option Entry) → defined_among table vocab ns ≡ list_any (λ e. e.is_defined) (in_table vocab (entries_at table ns)) →
        (defined_if vocab o || defined_among table vocab ns) ≡ list_any (λ e. e.is_defined) (in_table vocab (with_some o (entries_at table ns)))
    one None h = h
    one (Some e) h = two (same_table vocab e.vocab) e.is_defined (defined_among table vocab ns) true (in_table vocab (entries_at table ns)) e refl h

abbrev first_word : List Entry → NameState
first_word [] = New
first_word (e ∷ es) = Deferred e.word

first_at_rows : (table : List Entry) (vocab : List ℕ) (ns : List ℕ) → deferred_at table (first_among table vocab ns) ≡ first_word (in_table vocab (entries_at table ns))
first_at_rows table vocab [] = refl
first_at_rows table vocab (n ∷ ns) = one (slice_get table n) refl (first_at_rows table vocab ns)
  where
    two : (b : Bool) (e : Entry) (rows : List Entry) → slice_get table n ≡ Some e → deferred_at table (first_among table vocab ns) ≡ first_word rows → deferred_at table (or_else (cond b (Some n) None) (first_among table vocab ns)) ≡ first_word (cond b (e ∷ rows) rows)
    two true e rows at h = ap deferred_word at
    two false e rows at h = h

    one : (o : Option Entry) → slice_get table n ≡ o → deferred_at table (first_among table vocab ns) ≡ first_word (in_table vocab (entries_at table ns)) →
        deferred_at table (or_else (number_if vocab n o) (first_among table vocab ns)) ≡ first_word (in_table vocab (with_some o (entries_at table ns)))
    one None at h = h
    one (Some e) at h = two (same_table vocab e.vocab) e (in_table vocab (entries_at table ns)) at h

standing_defined : (rows : List Entry) → list_any (λ e. e.is_defined) rows ≡ true → standing_of rows ≡ Defined
standing_defined [] h = absurd (true≢false (sym h))
standing_defined (e ∷ es) h = ap (λ (b : Bool). standing_with b e.word) h

standing_open : (rows : List Entry) → list_any (λ e. e.is_defined) rows ≡ false → standing_of rows ≡ first_word rows
standing_open [] h = refl
standing_open (e ∷ es) h = ap (λ (b : Bool). standing_with b e.word) h

-- where a holder is defined, and where none is
pub stands_defined : (table : List Entry) (vocab : List ℕ) (ns : List ℕ) → defined_among table vocab ns ≡ true → Defined ≡ standing_of (in_table vocab (entries_at table ns))
stands_defined table vocab ns h = sym (standing_defined (in_table vocab (entries_at table ns)) (sym (defined_at_rows table vocab ns) ∙ h))

pub stands_open : (table : List Entry) (vocab : List ℕ) (ns : List ℕ) → defined_among table vocab ns ≡ false → deferred_at table (first_among table vocab ns) ≡ standing_of (in_table vocab (entries_at table ns))
stands_open table vocab ns h = first_at_rows table vocab ns ∙ sym (standing_open (in_table vocab (entries_at table ns)) (sym (defined_at_rows table vocab ns) ∙ h))

pub stands_named : (table : List Entry) (vocab name : List ℕ) (s : NameState) → s ≡ standing_of (in_table vocab (entries_at table (numbers_named 0 name table))) → standing_of (holders table vocab name) ≡ s
stands_named table vocab name s h = sym (h ∙ ap (λ (rows : List Entry). standing_of (in_table vocab rows)) (rows_named table name) ∙ ap standing_of (holders_named table vocab name))

-- a new name isn't held
not_own : (vocab : List ℕ) (e : Entry) → same_table vocab e.vocab ≡ false → bytes_eq vocab e.vocab ≡ false
not_own vocab e h = (or_false (bytes_eq vocab e.vocab) (bytes_eq vocab (companion e.vocab)) (or_false (bytes_eq vocab e.vocab || bytes_eq vocab (companion e.vocab)) (bytes_eq e.vocab (companion vocab)) h).0).0

no_holders : (table : List Entry) (vocab name : List ℕ) → holders table vocab name ≡ [] → held table vocab name ≡ None
no_holders [] vocab name h = refl
no_holders (e ∷ es) vocab name h = one (bytes_eq name e.name) (same_table vocab e.vocab) refl refl h (no_holders es vocab name)
  where
    cons_nil : {X : Type 0} {x : X} {xs : List X} → x ∷ xs ≡ [] → ⊥
    cons_nil g = cc

    one : (b c : Bool) → bytes_eq name e.name ≡ b → same_table vocab e.vocab ≡ c → cond (b && c) (e ∷ holders es vocab name) (holders es vocab name) ≡ [] → (holders es vocab name ≡ [] → held es vocab name ≡ None) → cond (b && bytes_eq vocab e.vocab) (Some e) (held es vocab name) ≡ None
    one true true p q g ih = absurd (cons_nil g)
    one true false p q g ih = ap (λ (b : Bool). cond b (Some e) (held es vocab name)) (not_own vocab e q) ∙ ih g
    one false c p q g ih = ih g

new_none : (rows : List Entry) → standing_of rows ≡ New → rows ≡ []
new_none [] h = refl
new_none (e ∷ es) h = one (list_any (λ (f : Entry). f.is_defined) (e ∷ es)) h
  where
    one : (b : Bool) → standing_with b e.word ≡ New → e ∷ es ≡ []
    one true g = cc
    one false g = cc

pub new_held : (table : List Entry) (vocab name : List ℕ) → standing_of (holders table vocab name) ≡ New → held table vocab name ≡ None
new_held table vocab name h = no_holders table vocab name (new_none (holders table vocab name) h)
