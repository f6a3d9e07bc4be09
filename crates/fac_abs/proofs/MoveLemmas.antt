-- Marks move as their numbers do.
use Rattle.std.proofs.Common.{◌≡◌, ℕ, zero, suc, ◌<◌, ℤ, pos, negsuc, List, [], ◌∷◌, Bool, true, false, ◌&&◌, ◌||◌, cond, nat_lt, nat_eq, Option, Some, None, Result, Ok, Err, IfOk, option_map, length, get_or, slice_get, map, refl, sym, ap, ◌∙◌, arith, eq-eqb}
use Rattle.std.specs.Str.{bytes_eq}
use Rattle.std.proofs.lemmas.Bool.{eqb-true}
use Rattle.std.proofs.lemmas.Option.{slice_get-map}
use Rattle.std.proofs.lemmas.Slice.Eq.{bytes_eq-Decides}
use Rattle.std.proofs.Math.ListN.{length-map}
use Rattle.fac_lang.specs.PhraseCodes.{Token, mark_tokens}
use Rattle.fac_lang.specs.Phrases.{Mark, any}
use Rattle.fac_lang.specs.Procedures.{or_else, picked}
use Rattle.fac_abs.specs.declared.mark_node.MarkNode.{MarkNode}
use Rattle.fac_abs.specs.InTurn.{under, taken, moved}
use Rattle.fac_abs.specs.inner.Stacks.{zeros, joined_number, joined_numbers, cover_numbers}
use Rattle.fac_abs.specs.inner.Keeping.{IsWhere, IsStackWith, Joins}
use Rattle.fac_abs.specs.Marks.{int_eq, token_eq, tokens_eq, mark_eq, join_mark, join_marks, cover_marks, unknowns, piled}
use Rattle.fac_abs.specs.MarkTrees.{Naming}
use Rattle.fac_abs.specs.inner.Interning.{IsTable, IsOrdered}
use Rattle.fac_abs.specs.inner.Framing.{AreDistinct}
use Rattle.fac_abs.specs.SeenMarks.{mark_of, stack_of, are_below}
use Rattle.fac_abs.specs.MarkPromises.{IsStackOf, IsStackWhere, IsJoinedWhere}
use Rattle.fac_abs.proofs.EqualMarks.{and_first, and_second, never_true, mark_same}
use Rattle.fac_abs.proofs.TreeLemmas.{one_number}
use Rattle.fac_abs.proofs.SeenLemmas.{seen, is_below, below_is, both, within_stack, mark_reads, stack_reads, marks_stay, first_mark, made_stack, stack_by}

-- Equality of marks.

ints_alike : (z : ℤ) → int_eq z z ≡ true
ints_alike (pos a) = eq-eqb a a refl
ints_alike (negsuc a) = eq-eqb a a refl

pub bytes_alike : (xs : List ℕ) → bytes_eq xs xs ≡ true
bytes_alike xs = grind (arith, bytes_eq-Decides xs xs)

token_alike : (t : Token) → token_eq t t ≡ true
token_alike t = both (nat_eq t.0 t.0) _ (eq-eqb t.0 t.0 refl) (both (int_eq t.1.0 t.1.0) _ (ints_alike t.1.0) (bytes_alike t.1.1))

tokens_alike : (ts : List Token) → tokens_eq ts ts ≡ true
tokens_alike [] = refl
tokens_alike (t ∷ ts) = both (token_eq t t) _ (token_alike t) (tokens_alike ts)

-- each mark is equal to itself
pub mark_itself : (m : Mark) → mark_eq m m ≡ true
unfolding mark_eq
mark_itself m = tokens_alike (mark_tokens m [])

-- What lies under others.

pub under_map : {A B : Type 0} (f : A → B) (n : ℕ) (xs : List A) → under n (map f xs) ≡ option_map (map f) (under n xs)
under_map f zero xs = refl
under_map f (suc n) [] = refl
under_map f (suc n) (x ∷ xs) = under_map f n xs

some_same : {A : Type 0} (x y : A) → Some x ≡ Some y → x ≡ y
some_same x y e = cc

pub under_below : (k n : ℕ) (xs ys : List ℕ) → are_below k xs ≡ true → under n xs ≡ Some ys → are_below k ys ≡ true
under_below k zero xs ys h e = ap (are_below k) (sym (some_same xs ys e)) ∙ h
under_below k (suc n) [] ys h e = absurd (cc)
under_below k (suc n) (x ∷ xs) ys h e = under_below k n xs ys (and_second (nat_lt x k) _ h) e

-- Shuffles.

module _ {A B : Type 0} (f : A → B) where
  piled_map : (xs ys : List A) → piled (map f xs) (map f ys) ≡ map f (piled xs ys)
  piled_map [] ys = refl
  piled_map (x ∷ xs) ys = piled_map xs (x ∷ ys)

  taken_map : (n : ℕ) (before xs : List A) → taken n (map f before) (map f xs) ≡ map f (taken n before xs)
  taken_map zero before xs = refl
  taken_map (suc n) before [] = refl
  taken_map (suc n) before (x ∷ xs) = taken_map n (x ∷ before) xs

  or_else_map : (d : A) (o : Option A) → or_else (f d) (option_map f o) ≡ f (or_else d o)
  or_else_map d None = refl
  or_else_map d (Some x) = refl

  picked_map : (d : A) (xs : List A) (places : List ℕ) → picked (f d) (map f xs) places ≡ map f (picked d xs places)
  picked_map d xs [] = refl
  picked_map d xs (k ∷ places) = rw (slice_get-map f xs k, or_else_map d (slice_get xs k), picked_map d xs places) refl

  put_map : (xs : List A) (o : Option (List A)) → option_map (piled (map f xs)) (option_map (map f) o) ≡ option_map (map f) (option_map (piled xs) o)
  put_map xs None = refl
  put_map xs (Some ys) = ap Some (piled_map xs ys)

  -- a shuffle moves values of any kind alike
  pub moved_map : (d : A) (n : ℕ) (places : List ℕ) (xs : List A) → moved (f d) n places (map f xs) ≡ option_map (map f) (moved d n places xs)
  moved_map d n places xs =
      rw (taken_map n [] xs, picked_map d (taken n [] xs) places, under_map f n xs) (put_map (picked d (taken n [] xs) places) (under n xs))

module _ (k : ℕ) where
  piled_below : (xs ys : List ℕ) → are_below k xs ≡ true → are_below k ys ≡ true → are_below k (piled xs ys) ≡ true
  piled_below [] ys h g = g
  piled_below (x ∷ xs) ys h g = piled_below xs (x ∷ ys) (and_second (nat_lt x k) _ h) (both (nat_lt x k) _ (and_first (nat_lt x k) _ h) g)

  taken_below : (n : ℕ) (before xs : List ℕ) → are_below k before ≡ true → are_below k xs ≡ true → are_below k (taken n before xs) ≡ true
  taken_below zero before xs h g = h
  taken_below (suc n) before [] h g = h
  taken_below (suc n) before (x ∷ xs) h g = taken_below n (x ∷ before) xs (both (nat_lt x k) _ (and_first (nat_lt x k) _ g) h) (and_second (nat_lt x k) _ g)

  one_below : (xs : List ℕ) (j : ℕ) → nat_lt 0 k ≡ true → are_below k xs ≡ true → nat_lt (or_else 0 (slice_get xs j)) k ≡ true
  one_below [] j o h = o
  one_below (x ∷ xs) zero o h = and_first (nat_lt x k) _ h
  one_below (x ∷ xs) (suc j) o h = one_below xs j o (and_second (nat_lt x k) _ h)

  picked_below : (xs places : List ℕ) → nat_lt 0 k ≡ true → are_below k xs ≡ true → are_below k (picked 0 xs places) ≡ true
  picked_below xs [] o h = refl
  picked_below xs (j ∷ places) o h = both (nat_lt (or_else 0 (slice_get xs j)) k) _ (one_below xs j o h) (picked_below xs places o h)

  put_below : (xs : List ℕ) (o : Option (List ℕ)) (ys : List ℕ) → are_below k xs ≡ true → ((zs : List ℕ) → o ≡ Some zs → are_below k zs ≡ true) → option_map (piled xs) o ≡ Some ys → are_below k ys ≡ true
  put_below xs None ys h g e = absurd (cc)
  put_below xs (Some zs) ys h g e = ap (are_below k) (sym (some_same (piled xs zs) ys e)) ∙ piled_below xs zs h (g zs refl)

  pub moved_below : (n : ℕ) (places xs ys : List ℕ) → nat_lt 0 k ≡ true → are_below k xs ≡ true → moved 0 n places xs ≡ Some ys → are_below k ys ≡ true
  moved_below n places xs ys o h e = put_below (picked 0 (taken n [] xs) places) (under n xs) ys (picked_below (taken n [] xs) places o (taken_below n [] xs refl h)) (λ zs g. under_below k n xs zs h g) e

  -- Marks of nothing known.
  pub zeros_below : (n : ℕ) (xs : List ℕ) → nat_lt 0 k ≡ true → are_below k xs ≡ true → are_below k (zeros n xs) ≡ true
  zeros_below zero xs o h = h
  zeros_below (suc n) xs o h = zeros_below n (0 ∷ xs) o (both (nat_lt 0 k) _ o h)

  -- Joins.
  joined_below : (b : Bool) (x : ℕ) → nat_lt 0 k ≡ true → nat_lt x k ≡ true → nat_lt (cond b x 0) k ≡ true
  joined_below true x o h = h
  joined_below false x o h = o

  pub joins_below : (xs ys : List ℕ) → nat_lt 0 k ≡ true → are_below k xs ≡ true → are_below k (joined_numbers xs ys) ≡ true
  joins_below [] ys o h = refl
  joins_below (x ∷ xs) [] o h = refl
  joins_below (x ∷ xs) (y ∷ ys) o h = both (nat_lt (joined_number x y) k) _ (joined_below (nat_eq x y) x o (and_first (nat_lt x k) _ h)) (joins_below xs ys o (and_second (nat_lt x k) _ h))

unknowns_more : (n : ℕ) (ms : List Mark) → unknowns n (any ∷ ms) ≡ any ∷ unknowns n ms
unknowns_more zero ms = refl
unknowns_more (suc n) ms = ap (λ (t : List Mark). any ∷ t) (unknowns_more n ms)

-- zeros stand for nothing known
pub zeros_map : (f : ℕ → Mark) → f 0 ≡ any → (n : ℕ) (xs : List ℕ) → map f (zeros n xs) ≡ unknowns n (map f xs)
zeros_map f e zero xs = refl
zeros_map f e (suc n) xs = zeros_map f e n (0 ∷ xs) ∙ ap (λ (m : Mark). unknowns n (m ∷ map f xs)) e ∙ unknowns_more n (map f xs)

-- two tests that hold together are one
one_test : (a b : Bool) → (a ≡ true → b ≡ true) → (b ≡ true → a ≡ true) → a ≡ b
one_test true b f g = sym (f refl)
one_test false true f g = g refl
one_test false false f g = refl

module _ (f : ℕ → Mark) (k : ℕ) (first : f 0 ≡ any) (one : (x y : ℕ) → x < k → y < k → f x ≡ f y → x ≡ y) where
  by_marks : (a b : Bool) (m n : Mark) → m ≡ n → mark_eq m n ≡ a → a ≡ true
  by_marks a b m n e g = sym g ∙ ap (mark_eq m) (sym e) ∙ mark_itself m

  -- two numbers below k and the tests of them and of their marks
  joined_same : (a b : Bool) (x y : ℕ) → x < k → y < k → nat_eq x y ≡ a → mark_eq (f x) (f y) ≡ b → f (cond a x 0) ≡ elim b [ true ↦ f x | false ↦ any ]
  joined_same true true x y h g e m = refl
  joined_same false false x y h g e m = first
  joined_same true false x y h g e m = absurd (never_true (by_marks false true (f x) (f y) (ap f (eqb-true x y e)) m))
  joined_same false true x y h g e m = absurd (never_true (sym e ∙ eq-eqb x y (one x y h g (mark_same (f x) (f y) m))))

  -- joined numbers stand for joined marks
  pub joins_map : (xs ys : List ℕ) → are_below k xs ≡ true → are_below k ys ≡ true → map f (joined_numbers xs ys) ≡ join_marks (map f xs) (map f ys)
  joins_map [] ys h g = refl
  joins_map (x ∷ xs) [] h g = refl
  joins_map (x ∷ xs) (y ∷ ys) h g =
      let low = is_below x k (and_first (nat_lt x k) _ h) in
      let lower = is_below y k (and_first (nat_lt y k) _ g) in
      ap (λ (m : Mark). m ∷ map f (joined_numbers xs ys)) (joined_same (nat_eq x y) (mark_eq (f x) (f y)) x y low lower refl refl) ∙ ap (λ (t : List Mark). join_mark (f x) (f y) ∷ t) (joins_map xs ys (and_second (nat_lt x k) _ h) (and_second (nat_lt y k) _ g))

  -- numbers are equal where their marks are
  test_same : (x y : ℕ) → x < k → y < k → nat_eq x y ≡ mark_eq (f x) (f y)
  test_same x y h g = one_test (nat_eq x y) (mark_eq (f x) (f y)) (λ e. ap (λ (j : ℕ). mark_eq (f x) (f j)) (sym (eqb-true x y e)) ∙ mark_itself (f x)) (λ e. eq-eqb x y (one x y h g (mark_same (f x) (f y) e)))

  covers_one : (x y : ℕ) → 0 < k → x < k → y < k → (nat_eq x 0 || nat_eq x y) ≡ (mark_eq (f x) any || mark_eq (f x) (f y))
  covers_one x y o h g = ap (λ (b : Bool). b || nat_eq x y) (test_same x 0 h o ∙ ap (mark_eq (f x)) first) ∙ ap (λ (b : Bool). mark_eq (f x) any || b) (test_same x y h g)

  -- numbers cover others where their marks do
  pub covers_map : (xs ys : List ℕ) → 0 < k → are_below k xs ≡ true → are_below k ys ≡ true → cover_numbers xs ys ≡ cover_marks (map f xs) (map f ys)
  covers_map [] ys o h g = refl
  covers_map (x ∷ xs) [] o h g = refl
  covers_map (x ∷ xs) (y ∷ ys) o h g =
      let low = is_below x k (and_first (nat_lt x k) _ h) in
      let lower = is_below y k (and_first (nat_lt y k) _ g) in
      ap (λ (b : Bool). b && cover_numbers xs ys) (covers_one x y o low lower) ∙ ap (λ (b : Bool). (mark_eq (f x) any || mark_eq (f x) (f y)) && b) (covers_map xs ys o (and_second (nat_lt x k) _ h) (and_second (nat_lt y k) _ g))

module _ (templates : ℕ) (frames : List (List ℕ)) where
  -- Answers that may be none.

  pub where_some : (ns : List MarkNode) (ss ts : List (List ℕ)) (found : Option (List ℕ)) (marks : Naming → Option (List Mark)) (o : Option ℕ) → ((ys : List ℕ) → found ≡ Some ys → are_below (length ns) ys ≡ true) → ((N : Naming) → marks N ≡ option_map (map (mark_of N (seen templates frames ns ss))) found) → IsWhere ts o found → IsStackWhere (seen templates frames ns ts) o marks
  where_some ns ss ts found marks None low same h = λ N. same N ∙ ap (option_map (map (mark_of N (seen templates frames ns ss)))) h
  where_some ns ss ts found marks (Some s) low same h =
      (within_stack (seen templates frames ns ts) s h.0 (low (get_or ts s []) h.1), λ N. same N ∙ ap (option_map (map (mark_of N (seen templates frames ns ss)))) h.1 ∙ ap Some (sym (marks_stay templates frames N ns ss ts (get_or ts s [])) ∙ sym (stack_reads N (seen templates frames ns ts) s)))

  pub height_is : (N : Naming) (ns : List MarkNode) (ss : List (List ℕ)) (s : ℕ) → length (stack_of N (seen templates frames ns ss) s) ≡ length (get_or ss s [])
  height_is N ns ss s = ap length (stack_reads N (seen templates frames ns ss) s) ∙ length-map (get_or ss s []) (mark_of N (seen templates frames ns ss))

  heights_are : (N : Naming) (ns : List MarkNode) (ss : List (List ℕ)) (a b : ℕ) → nat_eq (length (stack_of N (seen templates frames ns ss) a)) (length (stack_of N (seen templates frames ns ss) b)) ≡ nat_eq (length (get_or ss a [])) (length (get_or ss b []))
  heights_are N ns ss a b = ap (λ (k : ℕ). nat_eq k (length (stack_of N (seen templates frames ns ss) b))) (height_is N ns ss a) ∙ ap (nat_eq (length (get_or ss a []))) (height_is N ns ss b)

  joined_some : (ns : List MarkNode) (ss ts : List (List ℕ)) (a b : ℕ) (o : Option ℕ) → IsTable ns → IsOrdered templates frames ns → AreDistinct frames → are_below (length ns) (get_or ss a []) ≡ true → are_below (length ns) (get_or ss b []) ≡ true → Joins ts o (get_or ss a []) (get_or ss b []) → IsJoinedWhere (seen templates frames ns ss) (seen templates frames ns ts) a b o
  joined_some ns ss ts a b None t o d f g h = λ N. heights_are N ns ss a b ∙ h
  joined_some ns ss ts a b (Some s) t o d f g h =
      let zero_low : nat_lt 0 (length ns) ≡ true = below_is 0 (length ns) t.some in
      let one : (N : Naming) (x y : ℕ) → x < length ns → y < length ns → mark_of N (seen templates frames ns ss) x ≡ mark_of N (seen templates frames ns ss) y → x ≡ y = λ N x y l k e. one_number N templates frames d ns t o x y l k (sym (mark_reads N (seen templates frames ns ss) x) ∙ e ∙ mark_reads N (seen templates frames ns ss) y) in
      let made = made_stack templates frames ns ss ts s (joined_numbers (get_or ss a []) (get_or ss b [])) (λ N. join_marks (stack_of N (seen templates frames ns ss) a) (stack_of N (seen templates frames ns ss) b)) h.1 (joins_below (length ns) (get_or ss a []) (get_or ss b []) zero_low f) (λ N. joins_map (mark_of N (seen templates frames ns ss)) (length ns) ((first_mark templates frames ns ss t o).is N) (one N) (get_or ss a []) (get_or ss b []) f g ∙ ap (λ (xs : List Mark). join_marks xs (map (mark_of N (seen templates frames ns ss)) (get_or ss b []))) (sym (stack_reads N (seen templates frames ns ss) a)) ∙ ap (join_marks (stack_of N (seen templates frames ns ss) a)) (sym (stack_reads N (seen templates frames ns ss) b))) in
      record { valid = made.valid; heights = λ N. heights_are N ns ss a b ∙ h.0; is = made.is }

  module _ {E : Type 0} where
    pub where_by : (ns : List MarkNode) (ss ts : List (List ℕ)) (found : Option (List ℕ)) (marks : Naming → Option (List Mark)) → ((ys : List ℕ) → found ≡ Some ys → are_below (length ns) ys ≡ true) → ((N : Naming) → marks N ≡ option_map (map (mark_of N (seen templates frames ns ss))) found) → (r : Result (Option ℕ) E) → IfOk r (λ o. IsWhere ts o found) → IfOk r (λ o. IsStackWhere (seen templates frames ns ts) o marks)
    where_by ns ss ts found marks low same (Ok o) h = where_some ns ss ts found marks o low same h
    where_by ns ss ts found marks low same (Err e) h = tt

    pub joined_by : (ns : List MarkNode) (ss ts : List (List ℕ)) (a b : ℕ) → IsTable ns → IsOrdered templates frames ns → AreDistinct frames → are_below (length ns) (get_or ss a []) ≡ true → are_below (length ns) (get_or ss b []) ≡ true → (r : Result (Option ℕ) E) → IfOk r (λ o. Joins ts o (get_or ss a []) (get_or ss b [])) → IfOk r (λ o. IsJoinedWhere (seen templates frames ns ss) (seen templates frames ns ts) a b o)
    joined_by ns ss ts a b t o d f g (Ok r) h = joined_some ns ss ts a b r t o d f g h
    joined_by ns ss ts a b t o d f g (Err e) h = tt

  -- The calls of stacks of marks.

  pub below_where : (ns : List MarkNode) (ss : List (List ℕ)) (s n : ℕ) (o : Option ℕ) → are_below (length ns) (get_or ss s []) ≡ true → IsWhere ss o (under n (get_or ss s [])) → IsStackWhere (seen templates frames ns ss) o (λ N. under n (stack_of N (seen templates frames ns ss) s))
  below_where ns ss s n o low h = where_some ns ss ss (under n (get_or ss s [])) (λ N. under n (stack_of N (seen templates frames ns ss) s)) o (λ ys e. under_below (length ns) n (get_or ss s []) ys low e) (λ N. ap (under n) (stack_reads N (seen templates frames ns ss) s) ∙ under_map (mark_of N (seen templates frames ns ss)) n (get_or ss s [])) h

  module _ {E : Type 0} where
    pub push_by : (ns : List MarkNode) (ss ts : List (List ℕ)) (s m : ℕ) (r : Result ℕ E) → IfOk r (λ k. IsStackWith ts k (m ∷ get_or ss s [])) → m < length ns → are_below (length ns) (get_or ss s []) ≡ true → IfOk r (λ k. IsStackOf (seen templates frames ns ts) k (λ N. mark_of N (seen templates frames ns ss) m ∷ stack_of N (seen templates frames ns ss) s))
    push_by ns ss ts s m r f h low = stack_by templates frames ns ss ts (m ∷ get_or ss s []) (λ N. mark_of N (seen templates frames ns ss) m ∷ stack_of N (seen templates frames ns ss) s) (both (nat_lt m (length ns)) _ (below_is m (length ns) h) low) (λ N. ap (λ (t : List Mark). mark_of N (seen templates frames ns ss) m ∷ t) (sym (stack_reads N (seen templates frames ns ss) s))) r f

    pub unknowns_by : (ns : List MarkNode) (ss ts : List (List ℕ)) (s n : ℕ) (r : Result ℕ E) → IfOk r (λ k. IsStackWith ts k (zeros n (get_or ss s []))) → IsTable ns → IsOrdered templates frames ns → are_below (length ns) (get_or ss s []) ≡ true → IfOk r (λ k. IsStackOf (seen templates frames ns ts) k (λ N. unknowns n (stack_of N (seen templates frames ns ss) s)))
    unknowns_by ns ss ts s n r f t o low = stack_by templates frames ns ss ts (zeros n (get_or ss s [])) (λ N. unknowns n (stack_of N (seen templates frames ns ss) s)) (zeros_below (length ns) n (get_or ss s []) (below_is 0 (length ns) t.some) low) (λ N. zeros_map (mark_of N (seen templates frames ns ss)) ((first_mark templates frames ns ss t o).is N) n (get_or ss s []) ∙ ap (unknowns n) (sym (stack_reads N (seen templates frames ns ss) s))) r f

    pub shuffle_by : (ns : List MarkNode) (ss ts : List (List ℕ)) (s n : ℕ) (places : List ℕ) (r : Result (Option ℕ) E) → IfOk r (λ o. IsWhere ts o (moved 0 n places (get_or ss s []))) → IsTable ns → IsOrdered templates frames ns → are_below (length ns) (get_or ss s []) ≡ true → IfOk r (λ o. IsStackWhere (seen templates frames ns ts) o (λ N. moved any n places (stack_of N (seen templates frames ns ss) s)))
    shuffle_by ns ss ts s n places r f t o low =
        let xs : List ℕ = get_or ss s [] in
        let same : (N : Naming) → moved any n places (stack_of N (seen templates frames ns ss) s) ≡ option_map (map (mark_of N (seen templates frames ns ss))) (moved 0 n places xs) =
        λ N.
        let g : ℕ → Mark = mark_of N (seen templates frames ns ss) in
        ap (moved any n places) (stack_reads N (seen templates frames ns ss) s) ∙ ap (λ (m : Mark). moved m n places (map g xs)) (sym ((first_mark templates frames ns ss t o).is N)) ∙ moved_map g 0 n places xs in
        where_by ns ss ts (moved 0 n places xs) (λ N. moved any n places (stack_of N (seen templates frames ns ss) s)) (λ ys e. moved_below (length ns) n places xs ys (below_is 0 (length ns) t.some) low e) same r f

  module _ (N : Naming) (ns : List MarkNode) (ss : List (List ℕ)) (t : IsTable ns) (o : IsOrdered templates frames ns) (d : AreDistinct frames) where
    apart : (x y : ℕ) → x < length ns → y < length ns → mark_of N (seen templates frames ns ss) x ≡ mark_of N (seen templates frames ns ss) y → x ≡ y
    apart x y h g e = one_number N templates frames d ns t o x y h g (sym (mark_reads N (seen templates frames ns ss) x) ∙ e ∙ mark_reads N (seen templates frames ns ss) y)

    -- numbers are equal where their marks are
    pub same_numbers : (a b : ℕ) → a < length ns → b < length ns → nat_eq a b ≡ mark_eq (mark_of N (seen templates frames ns ss) a) (mark_of N (seen templates frames ns ss) b)
    same_numbers a b h g = test_same (mark_of N (seen templates frames ns ss)) (length ns) ((first_mark templates frames ns ss t o).is N) apart a b h g

  -- stacks of one height cover others where their marks do
  pub covers_are : (N : Naming) (ns : List MarkNode) (ss : List (List ℕ)) (a b : ℕ) → IsTable ns → IsOrdered templates frames ns → AreDistinct frames → are_below (length ns) (get_or ss a []) ≡ true → are_below (length ns) (get_or ss b []) ≡ true → (nat_eq (length (get_or ss a [])) (length (get_or ss b [])) && cover_numbers (get_or ss a []) (get_or ss b [])) ≡ (nat_eq (length (stack_of N (seen templates frames ns ss) a)) (length (stack_of N (seen templates frames ns ss) b)) && cover_marks (stack_of N (seen templates frames ns ss) a) (stack_of N (seen templates frames ns ss) b))
  covers_are N ns ss a b t o d h g =
      let xs : List ℕ = get_or ss a [] in
      let ys : List ℕ = get_or ss b [] in
      let f : ℕ → Mark = mark_of N (seen templates frames ns ss) in
      ap (λ (q : Bool). q && cover_numbers xs ys) (sym (heights_are N ns ss a b)) ∙ ap (λ (q : Bool). nat_eq (length (stack_of N (seen templates frames ns ss) a)) (length (stack_of N (seen templates frames ns ss) b)) && q) (covers_map f (length ns) ((first_mark templates frames ns ss t o).is N) (apart N ns ss t o d) xs ys t.some h g ∙ ap (λ (ms : List Mark). cover_marks ms (map f ys)) (sym (stack_reads N (seen templates frames ns ss) a)) ∙ ap (cover_marks (stack_of N (seen templates frames ns ss) a)) (sym (stack_reads N (seen templates frames ns ss) b)))
