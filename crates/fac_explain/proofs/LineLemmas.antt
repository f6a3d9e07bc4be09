-- The line so far, byte by byte.
use Rattle.std.proofs.Common.{◌≡◌, ◌≤◌, ◌<◌, ℕ, ◌+◌, List, [], ◌∷◌, ◌++◌, Bool, true, false, cond, ◌||◌, length, take, drop, get_or, refl, sym, ap, ◌∙◌, arith}
use Rattle.std.proofs.Math.Seq.{drop-length}
use Rattle.std.proofs.lemmas.List.{take_more, drop-append-le, length-take-le}
use Rattle.std.specs.List.{list_any}
use Rattle.fac_token.specs.Spots.{is_break, since_break}

any-more : (cs : List ℕ) (c : ℕ) → list_any is_break (cs ++ c ∷ []) ≡ (list_any is_break cs || is_break c)
any-more [] c = by_case (is_break c)
  where
    by_case : (b : Bool) → (b || false) ≡ (false || b)
    by_case true = refl
    by_case false = refl
any-more (d ∷ cs) c = by_case (is_break d) (any-more cs c)
  where
    by_case : (b : Bool) → list_any is_break (cs ++ c ∷ []) ≡ (list_any is_break cs || is_break c) → (b || list_any is_break (cs ++ c ∷ [])) ≡ ((b || list_any is_break cs) || is_break c)
    by_case true e = refl
    by_case false e = e

-- behind a line break nothing stands
since-break : (cs : List ℕ) (c : ℕ) → is_break c ≡ true → since_break (cs ++ c ∷ []) ≡ []
since-break [] c e = rw e refl
since-break (d ∷ cs) c e = rw (any-more cs c, e) (by_case (list_any is_break cs) (since-break cs c e))
  where
    by_case : (b : Bool) → since_break (cs ++ c ∷ []) ≡ [] → cond (b || true) (since_break (cs ++ c ∷ [])) (cond (is_break d) (cs ++ c ∷ []) (d ∷ cs ++ c ∷ [])) ≡ []
    by_case true rest = rest
    by_case false rest = rest

since-more : (cs : List ℕ) (c : ℕ) → is_break c ≡ false → since_break (cs ++ c ∷ []) ≡ since_break cs ++ c ∷ []
since-more [] c e = rw e refl
since-more (d ∷ cs) c e = rw (any-more cs c, e) (by_case (list_any is_break cs) (is_break d) (since-more cs c e))
  where
    by_case : (b x : Bool) → since_break (cs ++ c ∷ []) ≡ since_break cs ++ c ∷ [] → cond (b || false) (since_break (cs ++ c ∷ [])) (cond x (cs ++ c ∷ []) (d ∷ cs ++ c ∷ [])) ≡ cond b (since_break cs) (cond x cs (d ∷ cs)) ++ c ∷ []
    by_case true x rest = rest
    by_case false true rest = refl
    by_case false false rest = refl

-- the line so far, behind one byte more
pub since_break_at : (before : List ℕ) (i d : ℕ) → i < length before → is_break (get_or before i d) ≡ true → since_break (take (i + 1) before) ≡ drop (i + 1) (take (i + 1) before)
since_break_at before i d lt e =
    let whole : take (i + 1) before ≡ take i before ++ get_or before i d ∷ [] = take_more before i d lt in
    let long : length (take (i + 1) before) ≡ i + 1 = length-take-le (i + 1) before (omega (arith, lt)) in
    let none : drop (i + 1) (take (i + 1) before) ≡ [] = ap (λ (k : ℕ). drop k (take (i + 1) before)) (sym long) ∙ drop-length (take (i + 1) before) in
    ap since_break whole ∙ since-break (take i before) (get_or before i d) e ∙ sym none

pub since_byte_at :
    (before : List ℕ) (i start d : ℕ) → i < length before → is_break (get_or before i d) ≡ false → start ≤ i → since_break (take i before) ≡ drop start (take i before) →
    since_break (take (i + 1) before) ≡ drop start (take (i + 1) before)
since_byte_at before i start d lt e low so_far =
    let b = get_or before i d in
    let whole : take (i + 1) before ≡ take i before ++ b ∷ [] = take_more before i d lt in
    let long : length (take i before) ≡ i = length-take-le i before (omega (arith, lt)) in
    let fits : start ≤ length (take i before) = omega (arith, low, long) in
    ap since_break whole ∙ since-more (take i before) b e ∙ ap (λ (xs : List ℕ). xs ++ b ∷ []) so_far ∙ sym (drop-append-le start (take i before) (b ∷ []) fits) ∙ ap (drop start) (sym whole)
