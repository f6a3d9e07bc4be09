-- Forms with a prefix, by the entries of what stands behind it.
use Rattle.std.proofs.Common.{◌≡◌, ℕ, suc, ◌+◌, Bool, true, false, cond, List, [], ◌∷◌, ◌++◌, length, drop, Option, Some, None, is_some, refl, sym, ap, ◌∙◌, subst, arith, true≢false, String}
use Rattle.std.specs.Prelude.{nat_eq, slice_get, codes, if◌then◌else◌}
use Rattle.std.specs.List.{starts_with}
use Rattle.std.specs.Str.{bytes_eq}
use Rattle.std.proofs.lemmas.Option.{slice_get_within}
use Rattle.std.proofs.lemmas.Slice.Eq.{bytes_eq-Decides}
use Rattle.indexmap.specs.IndexMap.{IndexMap, get_by_text}
use Rattle.fac_vocab.specs.Scopes.{Entry, Brought, prefixed, word_held, or_else}
use Rattle.fac_vocab.specs.inner.BroughtForms.{word_by, gives, last_pair, entry_last, numbered_last, twice, entry_number, AtMost}
use Rattle.fac_vocab.specs.inner.Rows.{numbers_named}
use Rattle.fac_vocab.specs.inner.Late.{number_where, number_by, numbered_word}
use Rattle.fac_vocab.proofs.RowLemmas.{word_of_name}
use Rattle.fac_vocab.proofs.LatestLemmas.{CoversTo, at_most_by, pair_number, pair_covers, pair_is}
use Rattle.fac_vocab.proofs.LateLemmas.{words_by}

none_some : {X : Type 0} {x : X} → None ≡ Some x → ⊥
none_some g = cc

-- where the first number that passes a test stands
record Place (p : List ℕ → Bool) (t : List Entry) (ns : List ℕ) (n : ℕ) : Type 0 where
  index : ℕ
  entry : Entry
  number_is : slice_get ns index ≡ Some n
  entry_is : slice_get t n ≡ Some entry
  passes : p entry.vocab ≡ true

place_of : (p : List ℕ → Bool) (t : List Entry) (ns : List ℕ) (n : ℕ) → number_by p t ns ≡ Some n → Place p t ns n
place_of p t [] n e = absurd (none_some e)
place_of p t (k ∷ ns) n e = one (slice_get t k) refl e (λ g. place_of p t ns n g)
  where
    later : Place p t ns n → Place p t (k ∷ ns) n
    later h = record { index = suc h.index; entry = h.entry; number_is = h.number_is; entry_is = h.entry_is; passes = h.passes }

    two : (b : Bool) (x : Entry) → p x.vocab ≡ b → slice_get t k ≡ Some x → or_else (cond b (Some k) None) (number_by p t ns) ≡ Some n → (number_by p t ns ≡ Some n → Place p t ns n) → Place p t (k ∷ ns) n
    two true x q at g ih = let same : k ≡ n = cc in record { index = 0; entry = x; number_is = ap (λ (m : ℕ). Some m) same; entry_is = ap (slice_get t) (sym same) ∙ at; passes = q }
    two false x q at g ih = later (ih g)

    one : (o : Option Entry) → slice_get t k ≡ o → or_else (number_where p k o) (number_by p t ns) ≡ Some n → (number_by p t ns ≡ Some n → Place p t ns n) → Place p t (k ∷ ns) n
    one None at g ih = later (ih g)
    one (Some x) at g ih = two (p x.vocab) x refl at g ih

-- what stands behind a prefix is held
held_behind : (t : List Entry) (name prefix rest v : List ℕ) → Some rest ≡ (if starts_with nat_eq name (prefix ++ codes ":") then Some (drop (length prefix + 1) name) else None) →
    is_some (if starts_with nat_eq name (prefix ++ codes ":") then word_held t v (drop (length prefix + 1) name) else None) ≡ true → is_some (word_held t v rest) ≡ true
held_behind t name prefix rest v e g = one (starts_with nat_eq name (prefix ++ codes ":")) e g
  where
    one : (b : Bool) → Some rest ≡ cond b (Some (drop (length prefix + 1) name)) None → is_some (cond b (word_held t v (drop (length prefix + 1) name)) None) ≡ true → is_some (word_held t v rest) ≡ true
    one true f h = let same : rest ≡ drop (length prefix + 1) name = cc in ap (λ (r : List ℕ). is_some (word_held t v r)) same ∙ h
    one false f h = absurd (none_some (sym f))

some_number : (t : List Entry) (o : Option ℕ) → is_some (numbered_word t o) ≡ true → (n : ℕ) × (o ≡ Some n)
some_number t None h = absurd (true≢false (sym h))
some_number t (Some n) h = (n, refl)

pub all_entries_covered : {Y S : Type 0} (table : List Entry) (forms : List Brought) (name prefix rest : List ℕ) (numbers : List ℕ) (vocabs : IndexMap (String Y) ℕ S) (next : Option ℕ) → ((v : List ℕ) → get_by_text vocabs v ≡ last_pair 0 prefix v forms) → numbers ≡ numbers_named 0 rest table →
    Some rest ≡ (if starts_with nat_eq name (prefix ++ codes ":") then Some (drop (length prefix + 1) name) else None) → CoversTo table forms name (λ j. entry_number vocabs table (slice_get numbers j)) (length numbers) next →
    (m : ℕ) (v : List ℕ) → slice_get forms m ≡ Some (prefixed v prefix) → gives table forms name m ≡ true → AtMost m next
all_entries_covered {Y = Y} {S = S} table forms name prefix rest numbers vocabs next kept named behind covered m v e g =
    let none : 0 + m ≡ m = omega arith in
    let most : AtMost m (last_pair 0 prefix v forms) = subst (λ (n : ℕ). AtMost n (last_pair 0 prefix v forms)) none (pair_covers prefix v 0 forms m e) in
    let last = pair_number (last_pair 0 prefix v forms) m most in
    let form = pair_is prefix v 0 [] forms last.0 refl last.1 in
    let also : gives table forms name last.0 ≡ true = ap (λ (o : Option Brought). is_some (word_by table name o)) (form ∙ sym e) ∙ g in
    let given = sym (ap (λ (o : Option Brought). is_some (word_by table name o)) e) ∙ g in
    let inside = held_behind table name prefix rest v behind given in
    let number = some_number table (number_by (bytes_eq v) table numbers) (sym (ap is_some (sym (word_of_name table v rest) ∙ words_by table v (numbers_named 0 rest table) ∙ ap (λ (ns : List ℕ). numbered_word table (number_by (bytes_eq v) table ns)) (sym named))) ∙ inside) in
    let place = place_of (bytes_eq v) table numbers number.0 number.1 in
    let vocab : place.entry.vocab ≡ v = sym ((bytes_eq-Decides v place.entry.vocab).0 place.passes) in
    let pair : entry_number vocabs table (slice_get numbers place.index) ≡ Some (last.0, last.0) =
    ap twice (ap (numbered_last vocabs table) place.number_is ∙ ap (entry_last vocabs) place.entry_is ∙ ap (get_by_text vocabs) vocab ∙ kept v ∙ last.1) in
    at_most_by m last.0 (last_pair 0 prefix v forms) next most last.1 (covered place.index (last.0, last.0) (slice_get_within numbers place.index number.0 place.number_is) pair also)
