-- Lists have a spelling value by value, and where their numbers ascend.
use Rattle.std.proofs.Common.{◌≡◌, refl, ℕ, zero, suc, ◌+◌, ◌-◌, ◌^◌, ◌≤◌, ◌<◌, Bool, true, List, [], ◌∷◌, length, get_or, drop, sym, ap, subst, ◌∙◌, arith}
use Rattle.std.specs.Prelude.{nat_le}
use Rattle.std.specs.List.{list_all}
use Rattle.std.proofs.lemmas.Bool.{leb-true, and_parts}
use Rattle.std.proofs.lemmas.List.{drop_more}
use Rattle.fac_spelling.specs.Formats.{Format, each}
use Rattle.fac_spelling.specs.Numbers.{number32}
use Rattle.fac_spelling.specs.Lists.{counted, ascend, ascend_by, ascending, ascending_by}
use Rattle.fac_bytes.specs.Ascending.{ascends, keys_ascend, pair_format}

-- ---- one value after another

-- so many were looked at: the whole list has a spelling where the rest has one
abbrev pub StillFits : {A : Type 0} → Format A → List A → ℕ → Type 0
StillFits f xs i = (each (length xs - i) f).Fits (drop i xs) → (each (length xs) f).Fits xs

pub still_starts : {A : Type 0} (f : Format A) (xs : List A) → StillFits f xs 0
still_starts {A = A} f xs = let k : length xs - 0 ≡ length xs = omega arith in λ h. subst (λ (n : ℕ). (each n f).Fits xs) k h

pub still_on : {A : Type 0} (f : Format A) (xs : List A) (i : ℕ) (x : A) → i < length xs → x ≡ get_or xs i x → f.Fits x → StillFits f xs i → StillFits f xs (i + 1)
still_on {A = A} f xs i x lt is fits still =
    let k : length xs - i ≡ suc (length xs - (i + 1)) = omega arith in
    let d : drop i xs ≡ x ∷ drop (i + 1) xs = drop_more xs i x lt ∙ ap (λ (z : A). z ∷ drop (i + 1) xs) (sym is) in
    λ h. still (subst (λ (ys : List A). (each (length xs - i) f).Fits ys) (sym d) (subst (λ (n : ℕ). (each n f).Fits (x ∷ drop (i + 1) xs)) (sym k) (fits, h)))

none_left : {A : Type 0} (xs : List A) (i : ℕ) → length xs ≤ i → drop i xs ≡ []
none_left [] zero h = refl
none_left (x ∷ xs) zero h = absurd (omega arith)
none_left [] (suc i) h = refl
none_left (x ∷ xs) (suc i) h = none_left xs i (omega arith)

pub still_ends : {A : Type 0} (f : Format A) (xs : List A) (i : ℕ) → length xs ≤ i → StillFits f xs i → (each (length xs) f).Fits xs
still_ends {A = A} f xs i le still =
    let k : length xs - i ≡ 0 = omega arith in
    still (subst (λ (n : ℕ). (each n f).Fits (drop i xs)) (sym k) (subst (λ (ys : List A). (each 0 f).Fits ys) (sym (none_left xs i le)) tt))

-- where nothing is asked, all keep it
pub all_keep : {A : Type 0} (xs : List A) → list_all (λ _. true) xs ≡ true
all_keep [] = refl
all_keep (x ∷ xs) = all_keep xs

-- what all keep, each one keeps
pub kept_by_one : {A : Type 0} (test : A → Bool) (xs : List A) (i : ℕ) (x : A) → i < length xs → x ≡ get_or xs i x → list_all test xs ≡ true → test x ≡ true
kept_by_one test [] i x lt is h = absurd (omega arith)
kept_by_one {A = A} test (y ∷ xs) zero x lt is h = subst (λ (z : A). test z ≡ true) (sym is) (and_parts (test y) (list_all test xs) h).0
kept_by_one test (y ∷ xs) (suc i) x lt is h = kept_by_one test xs i x (omega arith) is (and_parts (test y) (list_all test xs) h).1

pub counted_from : {A : Type 0} (f : Format A) (xs : List A) → length xs < 2 ^ 32 → (each (length xs) f).Fits xs → (counted f).Fits xs
counted_from f xs lt h = (record { above = omega arith; below = omega arith }, h)

-- ---- numbers that ascend

-- the numbers behind one have room up to the greatest
has_room : (n : ℕ) (ns : List ℕ) → ascends (suc n) ns ≡ true → n < 2 ^ 32 → (each (length ns) number32).Fits ns → n + length ns < 2 ^ 32
has_room n [] h lt fits = omega (arith, lt)
has_room n (m ∷ ns) h lt fits =
    let p = and_parts (nat_le (suc n) m) (ascends (suc m) ns) h in
    omega (arith, leb-true (suc n) m p.0, has_room m ns p.1 (omega (arith, fits.0.below)) fits.1)

ascend_fits : (least : ℕ) (ns : List ℕ) → ascends least ns ≡ true → (each (length ns) number32).Fits ns → (ascend (length ns) least).Fits ns
ascend_fits least [] h fits = tt
ascend_fits least (n ∷ ns) h fits =
    let p = and_parts (nat_le least n) (ascends (suc n) ns) h in
    let room = has_room n ns p.1 (omega (arith, fits.0.below)) fits.1 in
    let next : suc n ≡ n + 1 = omega arith in
    (record { above = omega (arith, leb-true least n p.0); below = omega (arith, room) }, subst (λ (k : ℕ). (ascend (length ns) k).Fits ns) next (ascend_fits (suc n) ns p.1 fits.1))

pub ascending_fits : (ns : List ℕ) → ascends 0 ns ≡ true → length ns < 2 ^ 32 → (each (length ns) number32).Fits ns → ascending.Fits ns
ascending_fits ns h lt fits = (record { above = omega arith; below = omega arith }, ascend_fits 0 ns h fits)

-- ---- the same of pairs

has_room_by : (n : ℕ) (ps : List (ℕ × ℕ)) → keys_ascend (suc n) ps ≡ true → n < 2 ^ 32 → (each (length ps) pair_format).Fits ps → n + length ps < 2 ^ 32
has_room_by n [] h lt fits = omega (arith, lt)
has_room_by n (p ∷ ps) h lt fits =
    let parts = and_parts (nat_le (suc n) p.0) (keys_ascend (suc p.0) ps) h in
    omega (arith, leb-true (suc n) p.0 parts.0, has_room_by p.0 ps parts.1 (omega (arith, fits.0.0.below)) fits.1)

ascend_by_fits : (least : ℕ) (ps : List (ℕ × ℕ)) → keys_ascend least ps ≡ true → (each (length ps) pair_format).Fits ps → (ascend_by number32 (length ps) least).Fits ps
ascend_by_fits least [] h fits = tt
ascend_by_fits least (p ∷ ps) h fits =
    let parts = and_parts (nat_le least p.0) (keys_ascend (suc p.0) ps) h in
    let room = has_room_by p.0 ps parts.1 (omega (arith, fits.0.0.below)) fits.1 in
    let next : suc p.0 ≡ p.0 + 1 = omega arith in
    ((record { above = omega (arith, leb-true least p.0 parts.0); below = omega (arith, room) }, fits.0.1), subst (λ (k : ℕ). (ascend_by number32 (length ps) k).Fits ps) next (ascend_by_fits (suc p.0) ps parts.1 fits.1))

pub ascending_by_fits : (ps : List (ℕ × ℕ)) → keys_ascend 0 ps ≡ true → length ps < 2 ^ 32 → (each (length ps) pair_format).Fits ps → (ascending_by number32).Fits ps
ascending_by_fits ps h lt fits = (record { above = omega arith; below = omega arith }, ascend_by_fits 0 ps h fits)
