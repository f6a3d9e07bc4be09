-- The words of earlier texts come first among those of a text, and its forms change none of them.
use Rattle.std.proofs.Common.{◌≡◌, ◌<◌, ◌≤◌, ◌+◌, ℕ, zero, suc, List, [], ◌∷◌, ◌++◌, map, length, slice_get, Option, Some, None, Bool, true, false, refl, ap, sym, ◌∙◌, subst, arith, append_assoc, length-append}
use Rattle.std.specs.Prelude.{◌&&◌, nat_lt, not}
use Rattle.std.specs.List.{list_all, list_any}
use Rattle.std.proofs.lemmas.Bool.Decides.{Decides-ltb}
use Rattle.std.proofs.lemmas.List.{length-map}
use Rattle.std.proofs.lemmas.List.Folds.{list_all-append}
use Rattle.fac_base.specs.Signatures.{Signature}
use Rattle.fac_lang.specs.Meaning.{is_past}
use Rattle.fac_lang.specs.Whole.{effect_eq, is_generic, no_two, same_method}
use Rattle.fac_lang.specs.declared.program.Sort.{Sort}
use Rattle.fac_lang.specs.declared.program.Sort.TheVariants.{Past as past, Method as method}
use Rattle.fac_lang.specs.declared.program.WordDef.{WordDef}
use Rattle.fac_endings.specs.declared.draft.Draft.{Draft}
use Rattle.fac_endings.specs.declared.draft.Late.TheVariants.{Settled as settled, Deferred as deferred}
use Rattle.fac_endings.proofs.Apart.{and_true, none_passes, true_both}
use Rattle.fac_endings.proofs.EndedClasses.{is_new, is_new_sort}
use Rattle.fac_endings.proofs.EndedWords.{no_method}
use Rattle.fac_names.specs.Forms.{changed}
use Rattle.fac_names.specs.Resolution.{settled_draft}

-- Which words a name may find.

-- whether the word of this number, where there is one, is no earlier top-level phrase
abbrev pub spares_past : List WordDef → ℕ → Bool
spares_past front w = not (is_past (elim (slice_get front w) [ Some d ↦ Some d.sort | None ↦ None ]))

-- whether a name may find the word of this number, where there are n words and these come first
abbrev pub is_found : List WordDef → ℕ → ℕ → Bool
is_found front n w = nat_lt w n && spares_past front w

-- a test that the words pass which a name may find
abbrev pub Covers : List WordDef → ℕ → (ℕ → Bool) → Type 0
Covers front n may = (w : ℕ) → is_found front n w ≡ true → may w ≡ true

pub found_low : (front : List WordDef) (n w : ℕ) → is_found front n w ≡ true → w < n
found_low front n w h = (Decides-ltb w n).0 (true_both (nat_lt w n) (spares_past front w) h).0

pub found_by : (front : List WordDef) (n w : ℕ) → w < n → spares_past front w ≡ true → is_found front n w ≡ true
found_by front n w lt h = and_true (nat_lt w n) (spares_past front w) ((Decides-ltb w n).1 lt) h

pub found_more : (front : List WordDef) (n m : ℕ) → n ≤ m → (w : ℕ) → is_found front n w ≡ true → is_found front m w ≡ true
found_more front n m le w h = let lt = found_low front n w h in found_by front m w (omega (arith, lt, le)) (true_both (nat_lt w n) (spares_past front w) h).1

pub covers_fewer : (front : List WordDef) (n m : ℕ) (may : ℕ → Bool) → n ≤ m → Covers front m may → Covers front n may
covers_fewer front n m may le h = λ w e. h w (found_more front n m le w e)

pub none_behind : (front : List WordDef) (w : ℕ) → length front ≤ w → spares_past front w ≡ true
none_behind [] w le = refl
none_behind (d ∷ front) zero le = absurd (omega (arith, le))
none_behind (d ∷ front) (suc w) le = none_behind front w (omega (arith, le))

-- Earlier words.

abbrev pub is_generic_of : Option WordDef → Signature → Bool
is_generic_of None e = false
is_generic_of (Some d) e = is_generic (Some d.sort) && effect_eq d.effect e

-- whether a method has its generic among these words, with its effect
abbrev pub method_stands : List WordDef → WordDef → Bool
method_stands front d = elim d.sort [ method c g t ↦ is_generic_of (slice_get front g) d.effect | _ ↦ true ]

pub record Fronted (front : List WordDef) (ds : List Draft) : Type 0 where
  pub rest : List Draft
  pub are : ds ≡ map settled_draft front ++ rest
  pub new : list_all is_new rest ≡ true
  -- the first word is one that a name may find
  pub first : spares_past front 0 ≡ true
  pub methods : list_all (method_stands front) front ≡ true
  pub apart : no_two same_method front ≡ true

pub new_spared : (front : List WordDef) (ds : List Draft) → Fronted front ds → spares_past front (length ds) ≡ true
new_spared front ds h =
    let all = ap length h.are ∙ length-append (map settled_draft front) h.rest in
    let before = length-map front settled_draft in
    none_behind front (length ds) (omega (arith, all, before))

-- a word more
pub fronted_push : (front : List WordDef) (ds : List Draft) (d : Draft) → is_new d ≡ true → Fronted front ds → Fronted front (ds ++ d ∷ [])
fronted_push front ds d new h =
    record {
      rest = h.rest ++ d ∷ [];
      are = ap (λ (xs : List Draft). xs ++ d ∷ []) h.are ∙ append_assoc (map settled_draft front) h.rest (d ∷ []);
      new = list_all-append is_new h.rest (d ∷ []) ∙ and_true (list_all is_new h.rest) (is_new d && true) h.new (and_true (is_new d) true new refl);
      first = h.first;
      methods = h.methods;
      apart = h.apart;
    }

-- a word that is changed: it wasn't told, so it is none of the earlier ones

-- the number of a word among those behind the earlier ones
abbrev number_behind : List WordDef → ℕ → ℕ
number_behind [] n = n
number_behind (d ∷ front) zero = zero
number_behind (d ∷ front) (suc n) = number_behind front n

not_both : settled ≡ deferred → ⊥
not_both h = cc

changed_behind : (f : Draft → Draft) (front : List WordDef) (rest : List Draft) (n : ℕ) → ((d : Draft) → slice_get (map settled_draft front ++ rest) n ≡ Some d → d.late ≡ deferred) → changed f n (map settled_draft front ++ rest) ≡ map settled_draft front ++ changed f (number_behind front n) rest
changed_behind f [] rest n untold = refl
changed_behind f (d ∷ front) rest zero untold = absurd (not_both (untold (settled_draft d) refl))
changed_behind f (d ∷ front) rest (suc n) untold = ap (λ (xs : List Draft). settled_draft d ∷ xs) (changed_behind f front rest n (λ e at. untold e at))

new_changed : (f : Draft → Draft) (n : ℕ) (ds : List Draft) → ((d : Draft) → is_new d ≡ true → is_new (f d) ≡ true) → list_all is_new ds ≡ true → list_all is_new (changed f n ds) ≡ true
new_changed f n [] keeps h = refl
new_changed f zero (d ∷ ds) keeps h = let both = true_both (is_new d) (list_all is_new ds) h in and_true (is_new (f d)) (list_all is_new ds) (keeps d both.0) both.1
new_changed f (suc n) (d ∷ ds) keeps h = let both = true_both (is_new d) (list_all is_new ds) h in and_true (is_new d) (list_all is_new (changed f n ds)) both.0 (new_changed f n ds keeps both.1)

pub fronted_changed : (front : List WordDef) (f : Draft → Draft) (n : ℕ) (ds : List Draft) → ((d : Draft) → is_new d ≡ true → is_new (f d) ≡ true) → ((d : Draft) → slice_get ds n ≡ Some d → d.late ≡ deferred) → Fronted front ds → Fronted front (changed f n ds)
fronted_changed front f n ds keeps untold h =
    record {
      rest = changed f (number_behind front n) h.rest;
      are = ap (changed f n) h.are ∙ changed_behind f front h.rest n (λ d at. untold d (ap (λ (xs : List Draft). slice_get xs n) h.are ∙ at));
      new = new_changed f (number_behind front n) h.rest keeps h.new;
      first = h.first;
      methods = h.methods;
      apart = h.apart;
    }

-- Words of which none is an earlier phrase or a method.

pub new_spares : (ds : List WordDef) → list_all (λ (d : WordDef). is_new_sort d.sort) ds ≡ true → (w : ℕ) → spares_past ds w ≡ true
new_spares [] h w = refl
new_spares (d ∷ ds) h zero = one d.sort (true_both (is_new_sort d.sort) (list_all (λ (e : WordDef). is_new_sort e.sort) ds) h).0
  where
    one : (s : Sort) → is_new_sort s ≡ true → not (is_past (Some s)) ≡ true
    one (past t) k = absurd (cc)
    one s k = refl
new_spares (d ∷ ds) h (suc w) = new_spares ds (true_both (is_new_sort d.sort) (list_all (λ (e : WordDef). is_new_sort e.sort) ds) h).1 w

pub new_stand : (front ds : List WordDef) → list_all (λ (d : WordDef). is_new_sort d.sort) ds ≡ true → list_all (method_stands front) ds ≡ true
new_stand front [] h = refl
new_stand front (d ∷ ds) h =
    let both = true_both (is_new_sort d.sort) (list_all (λ (e : WordDef). is_new_sort e.sort) ds) h in
    and_true (method_stands front d) (list_all (method_stands front) ds) (one d.sort both.0) (new_stand front ds both.1)
  where
    one : (s : Sort) → is_new_sort s ≡ true → elim s [ method c g t ↦ is_generic_of (slice_get front g) d.effect | _ ↦ true ] ≡ true
    one (method c g t) k = absurd (cc)
    one s k = refl

pub new_apart : (ds : List WordDef) → list_all (λ (d : WordDef). is_new_sort d.sort) ds ≡ true → no_two same_method ds ≡ true
new_apart [] h = refl
new_apart (d ∷ ds) h =
    let both = true_both (is_new_sort d.sort) (list_all (λ (e : WordDef). is_new_sort e.sort) ds) h in
    and_true (not (list_any (same_method d) ds)) (no_two same_method ds) (ap not (none_passes (same_method d) (no_method d d.sort refl both.0) ds)) (new_apart ds both.1)
