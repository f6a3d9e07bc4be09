-- Texts of digits, read from the left.
use Rattle.std.proofs.Common.{◌≡◌, ℕ, ◌+◌, ◌*◌, ◌^◌, ◌<◌, ◌≤◌, Bool, true, false, ◌&&◌, List, [], ◌∷◌, Option, Some, None, length, drop, get_or, drop-cons, add-one, refl, sym, ◌∙◌, ap, subst, arith}
use Rattle.std.proofs.Math.ListN.{drop_of_length-le}
use Rattle.std.specs.Prelude.{nat_eq, if◌then◌else◌}
use Rattle.std.proofs.lemmas.Bool.Decides.{Decides-eqb}
use Rattle.fac_base.specs.Numbers.{digit_of, digit_below, digits_from, digits_in, decimal_from, decimal_in, magnitude_in}
use Rattle.fac_num.specs.inner.NumberSteps.{capped, capped_some, grouped_from, base_in}
use Rattle.fac_num.proofs.Capping.{same_digits, same_groups}

next_item : (text : List ℕ) (i c : ℕ) → i < length text → drop i text ≡ get_or text i c ∷ drop (i + 1) text
next_item text i c h = rw (drop-cons text i c h, add-one) refl

same_cap : (n m : ℕ) → n ≡ capped m → capped m ≡ capped n
same_cap n m e = omega arith

uncapped : (n : ℕ) → n < 2 ^ 128 → Some n ≡ Some (capped n)
uncapped n h = let e : n ≡ capped n = omega arith in ap Some e

-- Digits of a base.
more_digits : (base n d : ℕ) (o : Option ℕ) (cs : List ℕ) → o ≡ Some d → elim o [ None ↦ None | Some d ↦ digits_from base (base * n + d) cs ] ≡ digits_from base (base * n + d) cs
more_digits base n d o cs e = rw e refl

pub digits_end : (base n i : ℕ) (text : List ℕ) (total : Option ℕ) → total ≡ capped_some (digits_from base n (drop i text)) → length text ≤ i → n < 2 ^ 128 → Some n ≡ total
digits_end base n i text total so_far past small =
    let e = drop_of_length-le text past in uncapped n small ∙ sym (so_far ∙ rw e refl)

pub digits_step : (base n d v i c : ℕ) (text : List ℕ) (total : Option ℕ) → total ≡ capped_some (digits_from base n (drop i text)) → i < length text → digit_below base (digit_of (get_or text i c)) ≡ Some d → v ≡ capped (base * n + d) → total ≡ capped_some (digits_from base v (drop (i + 1) text))
digits_step base n d v i c text total so_far below e is =
    so_far ∙ rw (next_item text i c below) (
    ap capped_some (more_digits base n d (digit_below base (digit_of (get_or text i c))) (drop (i + 1) text) e)
    ∙ same_digits base (base * n + d) v (drop (i + 1) text) (same_cap v (base * n + d) is))

-- Decimal digits with commas.
last_digit : (n : ℕ) (o rest : Option ℕ) (b : Bool) → ◌≡◌ {A = Option ℕ} (elim o [ None ↦ None | Some d ↦ Some (10 * n + d) ]) (elim o [ Some d ↦ Some (10 * n + d) | None ↦ elim (b && false) [ true ↦ rest | false ↦ None ] ])
last_digit n None rest true = refl
last_digit n None rest false = refl
last_digit n (Some d) rest b = refl

inner_digit : (inner grouped : ℕ → Option ℕ) (rest : Option ℕ) (o : Option ℕ) (b : Bool) → ((d : ℕ) → inner d ≡ grouped d) → ◌≡◌ {A = Option ℕ} (elim o [ None ↦ None | Some d ↦ inner d ]) (elim o [ Some d ↦ grouped d | None ↦ elim (b && false) [ true ↦ rest | false ↦ None ] ])
inner_digit inner grouped rest None true later = refl
inner_digit inner grouped rest None false later = refl
inner_digit inner grouped rest (Some d) b later = later d

comma : (n : ℕ) (cs : List ℕ) (c : ℕ) → nat_eq c 44 ≡ true → grouped_from true n (c ∷ cs) ≡ grouped_from false n cs
comma n cs c e = subst (λ (x : ℕ). grouped_from true n (x ∷ cs) ≡ grouped_from false n cs) (sym ((Decides-eqb c 44).0 e)) refl

no_comma_by : (n : ℕ) (cs : List ℕ) (o : Option ℕ) (b : Bool) → b ≡ false → ◌≡◌ {A = Option ℕ} (elim o [ Some d ↦ grouped_from true (10 * n + d) cs | None ↦ elim (b && false) [ true ↦ grouped_from false n cs | false ↦ None ] ]) (elim o [ Some d ↦ grouped_from true (10 * n + d) cs | None ↦ elim (b && true) [ true ↦ grouped_from false n cs | false ↦ None ] ])
no_comma_by n cs (Some d) b e = refl
no_comma_by n cs None true e = cc
no_comma_by n cs None false e = refl

no_comma : (n : ℕ) (cs : List ℕ) (c : ℕ) → nat_eq c 44 ≡ false → grouped_from false n (c ∷ cs) ≡ grouped_from true n (c ∷ cs)
no_comma n cs c e = no_comma_by n cs (digit_below 10 (digit_of c)) (nat_eq c 44) e

comma_last : (n c : ℕ) (b : Bool) → nat_eq c 44 ≡ b → decimal_from n (c ∷ []) ≡ grouped_from false n (c ∷ []) → elim b [ true ↦ None | false ↦ decimal_from n (c ∷ []) ] ≡ grouped_from true n (c ∷ [])
comma_last n c true e later = sym (comma n [] c e)
comma_last n c false e later = later ∙ no_comma n [] c e

comma_inside : (n c x : ℕ) (xs : List ℕ) (b : Bool) → nat_eq c 44 ≡ b → decimal_from n (x ∷ xs) ≡ grouped_from false n (x ∷ xs) → decimal_from n (c ∷ x ∷ xs) ≡ grouped_from false n (c ∷ x ∷ xs) → elim b [ true ↦ decimal_from n (x ∷ xs) | false ↦ decimal_from n (c ∷ x ∷ xs) ] ≡ grouped_from true n (c ∷ x ∷ xs)
comma_inside n c x xs true e past later = past ∙ sym (comma n (x ∷ xs) c e)
comma_inside n c x xs false e past later = later ∙ no_comma n (x ∷ xs) c e

grouped : (n c : ℕ) (cs : List ℕ) → decimal_from n (c ∷ cs) ≡ grouped_from false n (c ∷ cs)
grouped n c [] = last_digit n (digit_below 10 (digit_of c)) (grouped_from false n []) (nat_eq c 44)
grouped n c (c' ∷ []) =
    inner_digit (λ d. elim (nat_eq c' 44) [ true ↦ None | false ↦ decimal_from (10 * n + d) (c' ∷ []) ]) (λ d. grouped_from true (10 * n + d) (c' ∷ [])) (grouped_from false n (c' ∷ [])) (digit_below 10 (digit_of c)) (nat_eq c 44)
    (λ d. comma_last (10 * n + d) c' (nat_eq c' 44) refl (grouped (10 * n + d) c' []))
grouped n c (c' ∷ x ∷ xs) =
    inner_digit (λ d. elim (nat_eq c' 44) [ true ↦ decimal_from (10 * n + d) (x ∷ xs) | false ↦ decimal_from (10 * n + d) (c' ∷ x ∷ xs) ]) (λ d. grouped_from true (10 * n + d) (c' ∷ x ∷ xs)) (grouped_from false n (c' ∷ x ∷ xs)) (digit_below 10 (digit_of c)) (nat_eq c 44)
    (λ d. comma_inside (10 * n + d) c' x xs (nat_eq c' 44) refl (grouped (10 * n + d) x xs) (grouped (10 * n + d) c' (x ∷ xs)))

pub decimal_grouped : (text : List ℕ) → decimal_in text ≡ grouped_from false 0 text
decimal_grouped [] = refl
decimal_grouped (c ∷ cs) = grouped 0 c cs

more_groups : (n d : ℕ) (o rest : Option ℕ) (cs : List ℕ) → o ≡ Some d → elim o [ Some d ↦ grouped_from true (10 * n + d) cs | None ↦ rest ] ≡ grouped_from true (10 * n + d) cs
more_groups n d o rest cs e = rw e refl

pub groups_digit : (n d v i c : ℕ) (after_digit : Bool) (text : List ℕ) (total : Option ℕ) → total ≡ capped_some (grouped_from after_digit n (drop i text)) → i < length text → digit_below 10 (digit_of (get_or text i c)) ≡ Some d → v ≡ capped (10 * n + d) → total ≡ capped_some (grouped_from true v (drop (i + 1) text))
groups_digit n d v i c after_digit text total so_far below e is =
    let x = get_or text i c in
    so_far ∙ rw (next_item text i c below) (
    ap capped_some (more_groups n d (digit_below 10 (digit_of x)) (elim (nat_eq x 44 && after_digit) [ true ↦ grouped_from false n (drop (i + 1) text) | false ↦ None ]) (drop (i + 1) text) e)
    ∙ same_groups true (10 * n + d) v (drop (i + 1) text) (same_cap v (10 * n + d) is))

pub groups_comma : (n i c : ℕ) (after_digit : Bool) (text : List ℕ) (total : Option ℕ) → total ≡ capped_some (grouped_from after_digit n (drop i text)) → i < length text → get_or text i c ≡ 44 → after_digit ≡ true → total ≡ capped_some (grouped_from false n (drop (i + 1) text))
groups_comma n i c after_digit text total so_far below e after =
    so_far ∙ rw (next_item text i c below, e, after) refl

-- the same at the values that a variable took
pub groups_at : (n v : ℕ) (b after_digit : Bool) (rest : List ℕ) (total : Option ℕ) → v ≡ n → after_digit ≡ b → total ≡ capped_some (grouped_from b n rest) → total ≡ capped_some (grouped_from after_digit v rest)
groups_at n v b after_digit rest total is after so_far = rw (is, after) so_far

-- Magnitudes.
marked_by : (x o b : Bool) (base : ℕ) (cs ds : List ℕ) → (if x then Some 16 else if o then Some 8 else if b then Some 2 else None) ≡ Some base → elim x [ true ↦ digits_in 16 cs | false ↦ elim o [ true ↦ digits_in 8 cs | false ↦ elim b [ true ↦ digits_in 2 cs | false ↦ decimal_in ds ] ] ] ≡ digits_in base cs
marked_by true o b base cs ds e = let same : base ≡ 16 = cc in rw same refl
marked_by false true b base cs ds e = let same : base ≡ 8 = cc in rw same refl
marked_by false false true base cs ds e = let same : base ≡ 2 = cc in rw same refl
marked_by false false false base cs ds e = cc

plain_by : (x o b : Bool) (cs ds : List ℕ) → ◌≡◌ {A = Option ℕ} (if x then Some 16 else if o then Some 8 else if b then Some 2 else None) None → elim x [ true ↦ digits_in 16 cs | false ↦ elim o [ true ↦ digits_in 8 cs | false ↦ elim b [ true ↦ digits_in 2 cs | false ↦ decimal_in ds ] ] ] ≡ decimal_in ds
plain_by true o b cs ds e = cc
plain_by false true b cs ds e = cc
plain_by false false true cs ds e = cc
plain_by false false false cs ds e = refl

pub magnitude_marked : (text : List ℕ) (base : ℕ) → base_in text ≡ Some base → magnitude_in text ≡ digits_in base (drop 2 text)
magnitude_marked [] base e = cc
magnitude_marked (c ∷ []) base e = cc
magnitude_marked (c ∷ b ∷ cs) base e = marked_by (nat_eq c 48 && nat_eq b 120) (nat_eq c 48 && nat_eq b 111) (nat_eq c 48 && nat_eq b 98) base cs (c ∷ b ∷ cs) e

pub magnitude_plain : (text : List ℕ) → base_in text ≡ None → magnitude_in text ≡ decimal_in text
magnitude_plain [] e = refl
magnitude_plain (c ∷ []) e = refl
magnitude_plain (c ∷ b ∷ cs) e = plain_by (nat_eq c 48 && nat_eq b 120) (nat_eq c 48 && nat_eq b 111) (nat_eq c 48 && nat_eq b 98) cs (c ∷ b ∷ cs) e
