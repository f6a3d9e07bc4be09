-- Where a method stands among those of its generic.
use Rattle.std.proofs.Common.{◌≡◌, ℕ, zero, suc, ◌+◌, List, [], ◌∷◌, Bool, true, false, Some, None, Option, refl, ap, sym, subst, ◌∙◌, arith, true≢false}
use Rattle.std.specs.Prelude.{◌&&◌, nat_eq, slice_get, map}
use Rattle.std.specs.List.{list_all, list_any}
use Rattle.std.specs.Option.{option_map}
use Rattle.std.proofs.lemmas.Option.{slice_get-map}
use Rattle.fac_lang.specs.declared.program.Program.{Program}
use Rattle.fac_lang.specs.declared.program.WordDef.{WordDef}
use Rattle.fac_lang.specs.declared.program.Sort.{Sort}
use Rattle.fac_lang.specs.declared.program.Sort.TheVariants.{Generic as generic, Method as method}
use Rattle.fac_lang.proofs.SourcePrograms.{IsSessionProgram}
use Rattle.fac_lang.specs.Phrases.{Phrase}
use Rattle.fac_lang.specs.Whole.{IsWhole, sort_fits, is_class, is_generic}
use Rattle.fac_lang.specs.Meaning.{sort_of, generic_of}
use Rattle.fac_locals.specs.Closed.{Closes, ClosesSort}
use Rattle.fac_locals.specs.declared.closing.Closed.{Closed}
use Rattle.fac_locals.proofs.Lookups.{word_closed}
use Rattle.fac_generic.specs.Methods.{methods_in_order}
use Rattle.fac_code.specs.declared.image.GenericRow.{GenericRow}
use Rattle.fac_code.specs.declared.image.MethodRow.{MethodRow}
use Rattle.fac_machine.specs.Machine.{first_of, place_in, place_from}
use Rattle.fac_emit.specs.ProgramTables.{method_row, generics_from}
use Rattle.fac_emit.proofs.FirstWords.{any_there}
use Rattle.fac_generic.specs.Methods.{MethodLaws}
use Rattle.fac_emit.proofs.PlacedWords.{word_there}
use Rattle.fac_locals.proofs.RunningPhrases.{IsMethod}
use Rattle.fac_emit.proofs.TableNumbers.{order_same}

never_true : {A : Type 0} → false ≡ true → A
never_true h = absurd (true≢false (sym h))

both_true : (a b : Bool) → (a && b) ≡ true → (a ≡ true) × (b ≡ true)
both_true true b h = (refl, h)
both_true false b h = never_true h

pub all_at : {A : Type 0} (test : A → Bool) (xs : List A) (k : ℕ) (x : A) → list_all test xs ≡ true → slice_get xs k ≡ Some x → test x ≡ true
all_at test [] k x h e = absurd (cc)
all_at test (y ∷ xs) zero x h e = let same : y ≡ x = cc in subst (λ (z : _). test z ≡ true) same (both_true (test y) (list_all test xs) h).0
all_at test (y ∷ xs) (suc k) x h e = all_at test xs k x (both_true (test y) (list_all test xs) h).1 e

-- a method by its sort
pub is_method : (o : Option Sort) → IsMethod o → (c : ℕ) × (g : ℕ) × (t : Phrase) × (o ≡ Some (method c g t))
is_method (Some (method c g t)) h = (c, g, t, refl)
is_method (Some _) h = absurd h
is_method None h = absurd h

is_generic_sort : (o : Option Sort) → is_generic o ≡ true → o ≡ Some generic
is_generic_sort (Some generic) h = refl
is_generic_sort (Some _) h = never_true h
is_generic_sort None h = never_true h

-- whether a method has this number
abbrev has_number : ℕ → MethodRow → Bool
has_number m r = nat_eq r.number m

same_number : (j k : ℕ) → nat_eq j k ≡ true → j ≡ k
same_number j k h = grind arith

itself : (k : ℕ) → nat_eq k k ≡ true
itself k = grind arith

-- what a method's sort names is there
pub method_fits : (P : Program) → IsSessionProgram P → IsWhole P → (m c g : ℕ) (t : Phrase) → sort_of P m ≡ Some (method c g t) → (is_class P c ≡ true) × (sort_of P g ≡ Some generic)
method_fits P b whole m c g t e =
    let at = word_there P b m (method c g t) e in
    let fits = all_at (λ (d : WordDef). sort_fits P d.sort) P.words m at.0 whole.sorts_fit at.1 in
    let parts = both_true (is_class P c) (is_generic (sort_of P g)) (ap (sort_fits P) (sym at.2) ∙ fits) in
    (parts.0, is_generic_sort (sort_of P g) parts.1)

-- whether one of these methods has a number, and its place
module _ (place : ℕ → ℕ) where
  abbrev rows_of : List (ℕ × ℕ) → List MethodRow
  rows_of ms = map (method_row place) ms

  pub data Seen (m g k : ℕ) (ms : List (ℕ × ℕ)) : Type 0 where
    seen : (j c : ℕ) → place_in m g k (rows_of ms) ≡ Some (g, k + j) → slice_get ms j ≡ Some (m, c) → Seen m g k ms
    unseen : place_in m g k (rows_of ms) ≡ None → ((j c : ℕ) → slice_get ms j ≡ Some (m, c) → ⊥) → Seen m g k ms

  abbrev place_by : ℕ → ℕ → ℕ → List (ℕ × ℕ) → Bool → Option (ℕ × ℕ)
  place_by m g k ms q = elim q [ true ↦ Some (g, k) | false ↦ place_in m g (suc k) (rows_of ms) ]

  none_there : (m : ℕ) (x : ℕ × ℕ) (ms : List (ℕ × ℕ)) → nat_eq x.0 m ≡ false → ((j c : ℕ) → slice_get ms j ≡ Some (m, c) → ⊥) → (j c : ℕ) → slice_get (x ∷ ms) j ≡ Some (m, c) → ⊥
  none_there m x ms h none zero c e = let same : x ≡ (m, c) = cc in let clash : true ≡ false = sym (itself m) ∙ ap (λ (y : ℕ × ℕ). nat_eq y.0 m) (sym same) ∙ h in true≢false clash
  none_there m x ms h none (suc j) c e = none j c e

  seen_by : (m g k : ℕ) (x : ℕ × ℕ) (ms : List (ℕ × ℕ)) (q : Bool) → nat_eq x.0 m ≡ q → Seen m g (suc k) ms → Seen m g k (x ∷ ms)
  seen_by m g k x ms true h s =
      let n : k ≡ k + 0 = omega arith in
      seen 0 x.1 (ap (place_by m g k ms) h ∙ ap (λ (j : ℕ). let y : ℕ × ℕ = (g, j) in Some y) n) (ap (λ (w : ℕ). let y : ℕ × ℕ = (w, x.1) in Some y) (same_number x.0 m h))
  seen_by m g k x ms false h (seen j c e there) =
      let n : suc k + j ≡ k + suc j = omega arith in
      seen (suc j) c (ap (place_by m g k ms) h ∙ e ∙ ap (λ (i : ℕ). let y : ℕ × ℕ = (g, i) in Some y) n) there
  seen_by m g k x ms false h (unseen e none) = unseen (ap (place_by m g k ms) h ∙ e) (none_there m x ms h none)

  pub seen_in : (m g k : ℕ) (ms : List (ℕ × ℕ)) → Seen m g k ms
  seen_in m g k [] = unseen refl (λ j c e. absurd (cc))
  seen_in m g k (x ∷ ms) = seen_by m g k x ms (nat_eq x.0 m) refl (seen_in m g (suc k) ms)

module _ (P : Program) (C : Closed) (b : IsSessionProgram P) (whole : IsWhole P) (laws : MethodLaws P) (closes : Closes P C.program C.templates) (place : ℕ → ℕ) where
  abbrev row_of : ℕ → GenericRow
  row_of g = record { word = g; methods = map (method_row place) (methods_in_order C.program g) }

  -- the generic of a method, and the method's place, as the rows of generics from number i on tell them
  pub record MethodFound (m i : ℕ) (rows : List GenericRow) : Type 0 where
    pub number : ℕ
    pub place_of : ℕ
    pub found : place_from m i rows ≡ Some (i + number, place_of)
    pub row : slice_get rows number ≡ Some (row_of (generic_of P (sort_of P m)))
    pub class_of : ℕ
    pub there : slice_get (methods_in_order P (generic_of P (sort_of P m))) place_of ≡ Some (m, class_of)

  -- a generic that has it is that of the method
  first_found : (m i g j c : ℕ) (rows : List GenericRow) → place_in m i 0 (row_of g).methods ≡ Some (i, 0 + j) → slice_get (methods_in_order C.program g) j ≡ Some (m, c) → MethodFound m i (row_of g ∷ rows)
  first_found m i g j c rows e there =
      let own : slice_get (methods_in_order P g) j ≡ Some (m, c) = ap (λ (ms : List (ℕ × ℕ)). slice_get ms j) (sym (order_same P C closes g)) ∙ there in
      let is = laws.are_methods g j m c own in
      let same : g ≡ generic_of P (sort_of P m) = sym (ap (generic_of P) is.1) in
      let n : i ≡ i + 0 = omega arith in
      let k : 0 + j ≡ j = omega arith in
      record {
        number = 0;
        place_of = j;
        found = ap (λ (o : Option (ℕ × ℕ)). first_of o (place_from m (suc i) rows)) e ∙ ap (λ (a : ℕ). let y : ℕ × ℕ = (a, 0 + j) in Some y) n ∙ ap (λ (b : ℕ). let y : ℕ × ℕ = (i + 0, b) in Some y) k;
        row = ap (λ (g : ℕ). Some (row_of g)) same;
        class_of = c;
        there = ap (λ (g : ℕ). slice_get (methods_in_order P g) j) (sym same) ∙ own;
      }

  behind : (m i g : ℕ) (rows : List GenericRow) → place_in m i 0 (row_of g).methods ≡ None → MethodFound m (suc i) rows → MethodFound m i (row_of g ∷ rows)
  behind m i g rows e f =
      let n : suc i + f.number ≡ i + suc f.number = omega arith in
      record { number = suc f.number; place_of = f.place_of; found = ap (λ (o : Option (ℕ × ℕ)). first_of o (place_from m (suc i) rows)) e ∙ f.found ∙ ap (λ (a : ℕ). let y : ℕ × ℕ = (a, f.place_of) in Some y) n; row = f.row; class_of = f.class_of; there = f.there }

  -- where it is among those of its generic
  listed_at : (m : ℕ) → IsMethod (sort_of P m) → (j : ℕ) × (c : ℕ) × (slice_get (methods_in_order C.program (generic_of P (sort_of P m))) j ≡ Some (m, c))
  listed_at m is =
      let found = is_method (sort_of P m) is in
      let g = generic_of P (sort_of P m) in
      let own : g ≡ found.1 = ap (generic_of P) found.3 in
      let at = laws.all_methods m found.0 g found.2 (found.3 ∙ ap (λ (g : ℕ). Some (method found.0 g found.2)) (sym own)) in
      (at.0, found.0, ap (λ (ms : List (ℕ × ℕ)). slice_get ms at.0) (order_same P C closes g) ∙ at.1)

  pub listed : (m : ℕ) → IsMethod (sort_of P m) → list_any (has_number m) (row_of (generic_of P (sort_of P m))).methods ≡ true
  listed m is =
      let g = generic_of P (sort_of P m) in
      let at = listed_at m is in
      any_there (has_number m) (row_of g).methods at.0 (method_row place (m, at.1)) (slice_get-map (method_row place) (methods_in_order C.program g) at.0 ∙ ap (option_map (method_row place)) at.2) (itself m)

  -- the rows of the words from one on, of this sort
  abbrev rows_from : ℕ → List WordDef → Sort → List GenericRow
  rows_from v ds s = elim s [ generic ↦ row_of v ∷ generics_from C.program place (suc v) ds | _ ↦ generics_from C.program place (suc v) ds ]

  own_seen : (m : ℕ) → IsMethod (sort_of P m) → (i v : ℕ) (rows : List GenericRow) → v ≡ generic_of P (sort_of P m) → Seen place m i 0 (methods_in_order C.program v) → MethodFound m i (row_of v ∷ rows)
  own_seen m is i v rows own (seen j c e there) = first_found m i v j c rows e there
  own_seen m is i v rows own (unseen e none) = let at = listed_at m is in absurd (none at.0 at.1 (ap (λ (g : ℕ). slice_get (methods_in_order C.program g) at.0) own ∙ at.2))

  next_seen : (m i v : ℕ) (rows : List GenericRow) → ((i : ℕ) → MethodFound m i rows) → Seen place m i 0 (methods_in_order C.program v) → MethodFound m i (row_of v ∷ rows)
  next_seen m i v rows later (seen j c e there) = first_found m i v j c rows e there
  next_seen m i v rows later (unseen e none) = behind m i v rows e (later (suc i))

  by_sort : (m i v : ℕ) (ds : List WordDef) (s : Sort) → ((i : ℕ) → MethodFound m i (generics_from C.program place (suc v) ds)) → MethodFound m i (rows_from v ds s)
  by_sort m i v ds generic later = next_seen m i v (generics_from C.program place (suc v) ds) later (seen_in place m i 0 (methods_in_order C.program v))
  by_sort m i v ds _ later = later i

  -- from word v on, where the generic comes later
  found_from : (m : ℕ) → IsMethod (sort_of P m) → (i v : ℕ) (ds : List WordDef) (k : ℕ) (d : WordDef) → slice_get ds k ≡ Some d → d.sort ≡ generic → v + k ≡ generic_of P (sort_of P m) → MethodFound m i (generics_from C.program place v ds)
  found_from m is i v [] k d e sort own = absurd (cc)
  found_from m is i v (x ∷ ds) zero d e sort own =
      let same : x ≡ d = cc in
      let n : v ≡ v + 0 = omega arith in
      subst (λ (s : Sort). MethodFound m i (rows_from v ds s)) (sym (ap (λ (y : WordDef). y.sort) same ∙ sort)) (own_seen m is i v (generics_from C.program place (suc v) ds) (n ∙ own) (seen_in place m i 0 (methods_in_order C.program v)))
  found_from m is i v (x ∷ ds) (suc k) d e sort own = let n : suc v + k ≡ v + suc k = omega arith in by_sort m i v ds x.sort (λ i. found_from m is i (suc v) ds k d e sort (n ∙ own))

  -- the word of a method's generic
  pub generic_there : (m : ℕ) → IsMethod (sort_of P m) → (c : WordDef) × (slice_get C.program.words (generic_of P (sort_of P m)) ≡ Some c) × (c.sort ≡ generic)
  generic_there m is =
      let found = is_method (sort_of P m) is in
      let g = generic_of P (sort_of P m) in
      let own : g ≡ found.1 = ap (generic_of P) found.3 in
      let fits = method_fits P b whole m found.0 found.1 found.2 found.3 in
      let word_of = word_there P b g generic (ap (sort_of P) own ∙ fits.1) in
      let closed = word_closed P C.program C.templates closes g word_of.0 word_of.1 in
      (closed.closed, closed.at, subst (λ (s : Sort). ClosesSort P g s closed.closed.sort) word_of.2 closed.closes.sort)

  pub method_found : (m : ℕ) → IsMethod (sort_of P m) → MethodFound m 0 (generics_from C.program place 0 C.program.words)
  method_found m is =
      let g = generic_of P (sort_of P m) in
      let word_of = generic_there m is in
      let n : 0 + g ≡ g = omega arith in
      found_from m is 0 0 C.program.words g word_of.0 word_of.1 word_of.2 n
