-- A text of the format is UTF-8 as the library says it.
use Rattle.std.proofs.Common.{◌≡◌, ℕ, zero, suc, ◌+◌, ◌-◌, ◌*◌, ◌/◌, ◌%◌, ◌^◌, ◌≤◌, ◌<◌, Bool, true, false, cond, List, [], ◌∷◌, ◌++◌, length, take, drop, Ok, refl, sym, ap, subst, ◌∙◌, arith, ◌⊎◌, inl, inr}
use Rattle.std.specs.Prelude.{nat_eq, nat_lt, ◌||◌}
use Rattle.std.specs.Str.{IsUtf8}
use Rattle.std.proofs.lemmas.Bool.{both_ways, and_parts, or_cases, or_left, or_right, and_from, ltb-true, ltb-false, eqb-true, eqb-false, cases_lt, cases_eq, lt-ltb, le-ltb, le-leb}
use Rattle.std.proofs.lemmas.List.{take-append-drop, length-append, length-take-le}
use Rattle.std.proofs.lemmas.Str.{IsUtf8-append, IsUtf8-nil, IsUtf8-encode, length-encode, len_utf8_bounds}
use Rattle.std.specs.Char.{IsScalar}
use lib.Utf8.{encode, encodes, scalar, scalars, scalar_cases}
use Rattle.fac_spelling.proofs.NumberLaws.{stands_within, within_stands}
use Rattle.fac_spelling.specs.Formats.{Right}
use Rattle.fac_spelling.proofs.TextLaws.{characters_exact, characters_spell, second_of, character_size, pair_at}
use Rattle.fac_spelling.specs.Bytes.{Range, continues, in_ranges}
use Rattle.fac_spelling.specs.Numbers.{IsWithin, in_range}
use Rattle.fac_spelling.specs.Texts.{second_range, others, character, width, characters, text}

-- what the second_range byte is
pub record Second (b y : ℕ) : Type 0 where
  pub above : 0x80 ≤ y
  pub below : y ≤ 0xBF
  pub e0 : b ≡ 0xE0 → 0xA0 ≤ y
  pub ed : b ≡ 0xED → y ≤ 0x9F
  pub f0 : b ≡ 0xF0 → 0x90 ≤ y
  pub f4 : b ≡ 0xF4 → y ≤ 0x8F

second_is : (b y : ℕ) → in_range (second_range b).low (second_range b).high y ≡ true → Second b y
second_is b y h = split (nat_eq b 0xE0) refl (nat_eq b 0xED) refl (nat_eq b 0xF0) refl (nat_eq b 0xF4) refl (stands_within (second_range b).low (second_range b).high y h)
  where
    split : (p : Bool) → nat_eq b 0xE0 ≡ p → (q : Bool) → nat_eq b 0xED ≡ q → (r : Bool) → nat_eq b 0xF0 ≡ r → (s : Bool) → nat_eq b 0xF4 ≡ s → IsWithin (second_of p q r s).low (second_of p q r s).high y → Second b y
    split true p q is_q r is_r s is_s w = let k = eqb-true b 0xE0 p in record { above = omega (arith, w.above); below = w.below; e0 = λ _. w.above; ed = λ e. absurd (omega arith); f0 = λ e. absurd (omega arith); f4 = λ e. absurd (omega arith) }
    split false p true q r is_r s is_s w = let k = eqb-true b 0xED q in record { above = w.above; below = omega (arith, w.below); e0 = λ e. absurd (omega arith); ed = λ _. w.below; f0 = λ e. absurd (omega arith); f4 = λ e. absurd (omega arith) }
    split false p false q true r s is_s w = let k = eqb-true b 0xF0 r in record { above = omega (arith, w.above); below = w.below; e0 = λ e. absurd (omega arith); ed = λ e. absurd (omega arith); f0 = λ _. w.above; f4 = λ e. absurd (omega arith) }
    split false p false q false r true s w = let k = eqb-true b 0xF4 s in record { above = w.above; below = omega (arith, w.below); e0 = λ e. absurd (omega arith); ed = λ e. absurd (omega arith); f0 = λ e. absurd (omega arith); f4 = λ _. w.below }
    split false p false q false r false s w = record { above = w.above; below = w.below; e0 = λ e. absurd (eqb-false b 0xE0 p e); ed = λ e. absurd (eqb-false b 0xED q e); f0 = λ e. absurd (eqb-false b 0xF0 r e); f4 = λ e. absurd (eqb-false b 0xF4 s e) }

-- ---- the bytes of a character, by its number

encode1 : (c : ℕ) → c < 128 → encode c ≡ c ∷ []
unfolding encode
encode1 c lt = rw (lt-ltb c 128 lt) refl

encode2 : (c : ℕ) → 128 ≤ c → c < 2048 → encode c ≡ (192 + c / 64) ∷ (128 + c % 64) ∷ []
unfolding encode
encode2 c le lt = rw (le-ltb c 128 le, lt-ltb c 2048 lt) refl

encode3 : (c : ℕ) → 2048 ≤ c → c < 65536 → encode c ≡ (224 + c / 4096) ∷ (128 + (c / 64) % 64) ∷ (128 + c % 64) ∷ []
unfolding encode
encode3 c le lt = rw (le-ltb c 128 (omega arith), le-ltb c 2048 le, lt-ltb c 65536 lt) refl

encode4 : (c : ℕ) → 65536 ≤ c → encode c ≡ (240 + c / 262144) ∷ (128 + (c / 4096) % 64) ∷ (128 + (c / 64) % 64) ∷ (128 + c % 64) ∷ []
unfolding encode
encode4 c le = rw (le-ltb c 128 (omega arith), le-ltb c 2048 (omega arith), le-ltb c 65536 le) refl

is_scalar : (c : ℕ) → (c < 55296) ⊎ ((57344 ≤ c) × (c < 1114112)) → IsScalar c
is_scalar c (inl lt) = rw (lt-ltb c 55296 lt) refl
is_scalar c (inr p) = let ge : 57344 ≤ c = p.0 in let lt : c < 1114112 = p.1 in rw (le-ltb c 55296 (omega arith), le-leb 57344 c ge, lt-ltb c 1114112 lt) refl

by_number : (c : ℕ) (bs : List ℕ) → IsScalar c → encode c ≡ bs → IsUtf8 bs
by_number c bs h e = subst IsUtf8 e (IsUtf8-encode c h)

one_byte : (b : ℕ) → b < 128 → IsUtf8 (b ∷ [])
one_byte b lt = by_number b (b ∷ []) (is_scalar b (inl (omega arith))) (encode1 b lt)

two_bytes : (b y : ℕ) → 0xC2 ≤ b → b < 0xE0 → IsWithin 0x80 0xBF y → IsUtf8 (b ∷ y ∷ [])
two_bytes b y le lt w =
    let lo = w.above in
    let hi = w.below in
    let c : ℕ = (b - 192) * 64 + (y - 128) in
    let p : 192 + c / 64 ≡ b = omega arith in
    let q : 128 + c % 64 ≡ y = omega arith in
    by_number c (b ∷ y ∷ []) (is_scalar c (inl (omega arith))) (encode2 c (omega arith) (omega arith) ∙ rw (p, q) refl)

three_bytes : (b y z : ℕ) → 0xE0 ≤ b → b < 0xF0 → Second b y → IsWithin 0x80 0xBF z → IsUtf8 (b ∷ y ∷ z ∷ [])
three_bytes b y z le lt s w =
    let ylo = s.above in
    let yhi = s.below in
    let zlo = w.above in
    let zhi = w.below in
    let c : ℕ = (b - 224) * 4096 + (y - 128) * 64 + (z - 128) in
    let p : 224 + c / 4096 ≡ b = omega arith in
    let q : 128 + (c / 64) % 64 ≡ y = omega arith in
    let r : 128 + c % 64 ≡ z = omega arith in
    let low : 2048 ≤ c = elim (cases_eq b 0xE0) [ inl k ↦ omega (arith, s.e0 k) | inr k ↦ omega arith ] in
    by_number c (b ∷ y ∷ z ∷ []) (is_scalar c (elim (cases_lt b 0xEE) [ inl k ↦ inl (elim (cases_eq b 0xED) [ inl i ↦ omega (arith, s.ed i) | inr i ↦ omega arith ]) | inr k ↦ inr (omega arith, omega arith) ])) (encode3 c low (omega arith) ∙ rw (p, q, r) refl)

four_bytes : (b y z v : ℕ) → 0xF0 ≤ b → b ≤ 0xF4 → Second b y → IsWithin 0x80 0xBF z → IsWithin 0x80 0xBF v → IsUtf8 (b ∷ y ∷ z ∷ v ∷ [])
four_bytes b y z v le lt s w u =
    let ylo = s.above in
    let yhi = s.below in
    let zlo = w.above in
    let zhi = w.below in
    let vlo = u.above in
    let vhi = u.below in
    let c : ℕ = (b - 240) * 262144 + (y - 128) * 4096 + (z - 128) * 64 + (v - 128) in
    let p : 240 + c / 262144 ≡ b = omega arith in
    let q : 128 + (c / 4096) % 64 ≡ y = omega arith in
    let e : c / 64 ≡ (b - 240) * 4096 + (y - 128) * 64 + (z - 128) = omega arith in
    let r : 128 + (c / 64) % 64 ≡ z = omega arith in
    let t : 128 + c % 64 ≡ v = omega arith in
    let low : 65536 ≤ c = elim (cases_eq b 0xF0) [ inl k ↦ omega (arith, s.f0 k) | inr k ↦ omega arith ] in
    by_number c (b ∷ y ∷ z ∷ v ∷ []) (is_scalar c (inr (omega arith, elim (cases_eq b 0xF4) [ inl k ↦ omega (arith, s.f4 k) | inr k ↦ omega arith ]))) (encode4 c low ∙ rw (p, q, r, t) refl)

lead_within : (b : ℕ) → (nat_lt b 0x80 || in_range 0xC2 0xF4 b) ≡ true → nat_lt b 0x80 ≡ false → IsWithin 0xC2 0xF4 b
lead_within b h p = elim (or_cases (nat_lt b 0x80) (in_range 0xC2 0xF4 b) h) [
  | inl k ↦ absurd (both_ways (nat_lt b 0x80) p k)
  | inr k ↦ stands_within 0xC2 0xF4 b k
]

of_lead : (b : ℕ) (bs : List ℕ) → (nat_lt b 0x80 || in_range 0xC2 0xF4 b) ≡ true → (p : Bool) → nat_lt b 0x80 ≡ p → (q : Bool) → nat_lt b 0xE0 ≡ q → (r : Bool) → nat_lt b 0xF0 ≡ r
    → (in_ranges (cond p [] (cond q (continues ∷ []) (cond r (second_range b ∷ continues ∷ []) (second_range b ∷ continues ∷ continues ∷ []))))).Fits bs → IsUtf8 (b ∷ bs)
of_lead b [] h true p q is_q r is_r f = one_byte b (ltb-true b 0x80 p)
of_lead b (y ∷ ys) h true p q is_q r is_r f = absurd f
of_lead b [] h false p true q r is_r f = absurd f
of_lead b (y ∷ []) h false p true q r is_r f = two_bytes b y (lead_within b h p).above (ltb-true b 0xE0 q) (stands_within 0x80 0xBF y f.0)
of_lead b (y ∷ z ∷ ys) h false p true q r is_r f = absurd f.1
of_lead b [] h false p false q true r f = absurd f
of_lead b (y ∷ []) h false p false q true r f = absurd f.1
of_lead b (y ∷ z ∷ []) h false p false q true r f = three_bytes b y z (ltb-false b 0xE0 q) (ltb-true b 0xF0 r) (second_is b y f.0) (stands_within 0x80 0xBF z f.1.0)
of_lead b (y ∷ z ∷ v ∷ ys) h false p false q true r f = absurd f.1.1
of_lead b [] h false p false q false r f = absurd f
of_lead b (y ∷ []) h false p false q false r f = absurd f.1
of_lead b (y ∷ z ∷ []) h false p false q false r f = absurd f.1.1
of_lead b (y ∷ z ∷ v ∷ []) h false p false q false r f = four_bytes b y z v (ltb-false b 0xF0 r) (lead_within b h p).below (second_is b y f.0) (stands_within 0x80 0xBF z f.1.0) (stands_within 0x80 0xBF v f.1.1.0)
of_lead b (y ∷ z ∷ v ∷ u ∷ ys) h false p false q false r f = absurd f.1.1.1

character_utf8 : (room : ℕ) (bs : List ℕ) → (character room).Fits bs → IsUtf8 bs
character_utf8 room [] h = IsUtf8-nil
character_utf8 room (b ∷ bs) h =
    let p = and_parts (nat_lt b 0x80 || in_range 0xC2 0xF4 b) (nat_lt (length (others b)) room) h.0 in
    of_lead b bs p.0 (nat_lt b 0x80) refl (nat_lt b 0xE0) refl (nat_lt b 0xF0) refl h.1

pub characters_utf8 : (most room : ℕ) (bs : List ℕ) → room ≤ most → (characters most room).Fits bs → IsUtf8 bs
unfolding characters
characters_utf8 most zero bs le h = subst IsUtf8 (sym h) IsUtf8-nil
characters_utf8 zero (suc room) bs le h = absurd (omega arith)
characters_utf8 (suc most) (suc room) bs le h =
    let s = character_size (suc room) (take (width bs) bs) h.0 in
    let r = characters_utf8 most (suc room - length (take (width bs) bs)) (drop (width bs) bs) (omega (arith, s.some)) h.1 in
    subst IsUtf8 (take-append-drop (width bs) bs) (IsUtf8-append (take (width bs) bs) (drop (width bs) bs) (character_utf8 (suc room) (take (width bs) bs) h.0) r)

-- ---- UTF-8 has a spelling

is_within : (low high y : ℕ) → low ≤ y → y ≤ high → in_range low high y ≡ true
is_within low high y lo hi = within_stands low high y (record { above = lo; below = hi })

second_from : (b y : ℕ) → Second b y → in_range (second_range b).low (second_range b).high y ≡ true
second_from b y s = split (nat_eq b 0xE0) refl (nat_eq b 0xED) refl (nat_eq b 0xF0) refl (nat_eq b 0xF4) refl
  where
    split : (p : Bool) → nat_eq b 0xE0 ≡ p → (q : Bool) → nat_eq b 0xED ≡ q → (r : Bool) → nat_eq b 0xF0 ≡ r → (t : Bool) → nat_eq b 0xF4 ≡ t → in_range (second_of p q r t).low (second_of p q r t).high y ≡ true
    split true p q is_q r is_r t is_t = is_within 0xA0 0xBF y (s.e0 (eqb-true b 0xE0 p)) s.below
    split false p true q r is_r t is_t = is_within 0x80 0x9F y s.above (s.ed (eqb-true b 0xED q))
    split false p false q true r t is_t = is_within 0x90 0xBF y (s.f0 (eqb-true b 0xF0 r)) s.below
    split false p false q false r true t = is_within 0x80 0x8F y s.above (s.f4 (eqb-true b 0xF4 t))
    split false p false q false r false t = is_within 0x80 0xBF y s.above s.below

-- the bytes that follow a first byte, by its range
others1 : (b : ℕ) → b < 0x80 → others b ≡ []
others1 b lt = rw (lt-ltb b 0x80 lt) refl

others2 : (b : ℕ) → 0x80 ≤ b → b < 0xE0 → others b ≡ continues ∷ []
others2 b le lt = rw (le-ltb b 0x80 le, lt-ltb b 0xE0 lt) refl

others3 : (b : ℕ) → 0xE0 ≤ b → b < 0xF0 → others b ≡ second_range b ∷ continues ∷ []
others3 b le lt = rw (le-ltb b 0x80 (omega arith), le-ltb b 0xE0 le, lt-ltb b 0xF0 lt) refl

others4 : (b : ℕ) → 0xF0 ≤ b → others b ≡ second_range b ∷ continues ∷ continues ∷ []
others4 b le = rw (le-ltb b 0x80 (omega arith), le-ltb b 0xE0 (omega arith), le-ltb b 0xF0 le) refl

lead_from : (b : ℕ) → (b < 0x80) ⊎ IsWithin 0xC2 0xF4 b → (nat_lt b 0x80 || in_range 0xC2 0xF4 b) ≡ true
lead_from b (inl lt) = or_left (nat_lt b 0x80) (in_range 0xC2 0xF4 b) (lt-ltb b 0x80 lt)
lead_from b (inr w) = or_right (nat_lt b 0x80) (in_range 0xC2 0xF4 b) (within_stands 0xC2 0xF4 b w)

made : (room b : ℕ) (bs : List ℕ) (rs : List Range) → (b < 0x80) ⊎ IsWithin 0xC2 0xF4 b → others b ≡ rs → length rs < room → (in_ranges rs).Fits bs → (character room).Fits (b ∷ bs)
made room b bs rs lead e lt h = (
  and_from (nat_lt b 0x80 || in_range 0xC2 0xF4 b) (nat_lt (length (others b)) room) (lead_from b lead) (lt-ltb (length (others b)) room (rw e lt)),
  subst (λ (z : List Range). (in_ranges z).Fits bs) (sym e) h,
)

cont : (x : ℕ) → in_range 0x80 0xBF (128 + x % 64) ≡ true
cont x = is_within 0x80 0xBF (128 + x % 64) (omega arith) (omega arith)

pub character_fits : (room c : ℕ) → (c < 55296) ⊎ ((57344 ≤ c) × (c < 1114112)) → length (encode c) ≤ room → (character room).Fits (encode c)
character_fits room c real le = elim (cases_lt c 128) [
  | inl a ↦ let e = encode1 c a in
      let l : 1 ≤ room = omega (arith, ap length e) in
      subst (λ (z : List ℕ). (character room).Fits z) (sym e) (made room c [] [] (inl a) (others1 c a) (omega arith) tt)
  | inr a ↦ elim (cases_lt c 2048) [
    | inl b ↦ let e = encode2 c a b in
        let l : 2 ≤ room = omega (arith, ap length e) in
        subst (λ (z : List ℕ). (character room).Fits z) (sym e)
        (made room (192 + c / 64) ((128 + c % 64) ∷ []) (continues ∷ []) (inr (record { above = omega arith; below = omega arith })) (others2 (192 + c / 64) (omega arith) (omega arith)) (omega arith) (cont c, tt))
    | inr b ↦ elim (cases_lt c 65536) [
      | inl d ↦ let e = encode3 c b d in
          let l : 3 ≤ room = omega (arith, ap length e) in
          let s : Second (224 + c / 4096) (128 + (c / 64) % 64) = record { above = omega arith; below = omega arith; e0 = λ k. omega arith; ed = λ k. ed c real k; f0 = λ k. absurd (omega arith); f4 = λ k. absurd (omega arith) } in
          subst (λ (z : List ℕ). (character room).Fits z) (sym e)
          (made room (224 + c / 4096) ((128 + (c / 64) % 64) ∷ (128 + c % 64) ∷ []) (second_range (224 + c / 4096) ∷ continues ∷ []) (inr (record { above = omega arith; below = omega arith })) (others3 (224 + c / 4096) (omega arith) (omega arith)) (omega arith)
          (second_from (224 + c / 4096) (128 + (c / 64) % 64) s, (cont c, tt)))
      | inr d ↦ let e = encode4 c d in
          let l : 4 ≤ room = omega (arith, ap length e) in
          let top : c < 1114112 = elim real [ inl k ↦ omega arith | inr k ↦ k.1 ] in
          let s : Second (240 + c / 262144) (128 + (c / 4096) % 64) = record { above = omega arith; below = omega arith; e0 = λ k. absurd (omega arith); ed = λ k. absurd (omega arith); f0 = λ k. omega arith; f4 = λ k. omega arith } in
          subst (λ (z : List ℕ). (character room).Fits z) (sym e)
          (made room (240 + c / 262144) ((128 + (c / 4096) % 64) ∷ (128 + (c / 64) % 64) ∷ (128 + c % 64) ∷ []) (second_range (240 + c / 262144) ∷ continues ∷ continues ∷ []) (inr (record { above = omega arith; below = omega arith })) (others4 (240 + c / 262144) (omega arith)) (omega arith)
          (second_from (240 + c / 262144) (128 + (c / 4096) % 64) s, (cont (c / 64), (cont c, tt))))
    ]
  ]
]
  where
    ed : (x : ℕ) → (x < 55296) ⊎ ((57344 ≤ x) × (x < 1114112)) → 224 + x / 4096 ≡ 0xED → 128 + (x / 64) % 64 ≤ 0x9F
    ed x (inl k) h = omega arith
    ed x (inr k) h = absurd (omega (arith, k.0))

join : (most room : ℕ) (c r : List ℕ) → (character (suc room)).Fits c → length c + length r ≡ suc room → (characters most (length r)).Fits r → (characters (suc most) (suc room)).Fits (c ++ r)
unfolding characters
join most room c r h sum k =
    let s = character_size (suc room) c h in
    let p = pair_at c r s.some s.size in
    let n : length r ≡ suc room - length c = omega arith in
    let both : (character (suc room)).Fits c × (characters most (suc room - length c)).Fits r = (h, subst (λ (z : ℕ). (characters most z).Fits r) n k) in
    subst (λ (z : List ℕ × List ℕ). (character (suc room)).Fits z.0 × (characters most (suc room - length z.0)).Fits z.1) (sym p) both

no_bytes : (most : ℕ) → (characters most 0).Fits []
unfolding characters
no_bytes zero = refl
no_bytes (suc most) = refl

one_more_character : (most n c : ℕ) (r : List ℕ) → (c < 55296) ⊎ ((57344 ≤ c) × (c < 1114112)) → length (encode c) + length r ≡ n → n ≤ most → ((m : ℕ) → length r ≤ m → (characters m (length r)).Fits r) → (characters most n).Fits (encode c ++ r)
one_more_character most zero c r real sum le h = let s = character_size 4 (encode c) (character_fits 4 c real (omega (arith, length-encode c, len_utf8_bounds c))) in absurd (omega (arith, s.some))
one_more_character zero (suc n) c r real sum le h = absurd (omega arith)
one_more_character (suc most) (suc n) c r real sum le h =
    let f = character_fits (suc n) c real (omega arith) in
    let s = character_size (suc n) (encode c) f in
    join most n (encode c) r f sum (h most (omega (arith, s.some)))

-- the bytes of characters, so many as they are
pub encodes_fit : (cs : List ℕ) (most : ℕ) → scalars cs ≡ true → length (encodes cs) ≤ most → (characters most (length (encodes cs))).Fits (encodes cs)
encodes_fit [] most h le = no_bytes most
encodes_fit (c ∷ cs) most h le =
    let p = and_parts (scalar c) (scalars cs) h in
    one_more_character most (length (encode c ++ encodes cs)) c (encodes cs) (scalar_cases c p.0) (sym (length-append (encode c) (encodes cs))) le (λ m k. encodes_fit cs m p.1 k)

-- A text that is UTF-8 and has fewer than 2 ^ 32 bytes has a spelling.
pub utf8_fits : (bs : List ℕ) → IsUtf8 bs → length bs < 2 ^ 32 → text.Fits bs
utf8_fits bs u lt =
    (record { above = omega arith; below = omega arith }, subst (λ (z : List ℕ). (characters (length z) (length z)).Fits z) u.1.1 (encodes_fit u.0 (length (encodes u.0)) u.1.0 (omega arith)))

pub text_utf8 : (bs : List ℕ) → text.Fits bs → IsUtf8 bs
text_utf8 bs h = characters_utf8 (length bs) (length bs) bs (omega arith) h.1

-- what is read as characters is UTF-8
pub read_utf8 : (n : ℕ) (bytes front rest : List ℕ) → (characters n n).read bytes ≡ Ok (front, rest) → IsUtf8 front
read_utf8 n bytes front rest is =
    let r : Right (characters n n) bytes (Ok (front, rest)) = subst (Right (characters n n) bytes) is ((characters_exact n n).right bytes) in
    characters_utf8 n n front (omega arith) r.fits

-- UTF-8 at the front is read whole
pub utf8_read : (n : ℕ) (bytes : List ℕ) → n ≤ length bytes → IsUtf8 (take n bytes) → (characters n n).read bytes ≡ Ok (take n bytes, drop n bytes)
utf8_read n bytes le u =
    let size : length (take n bytes) ≡ n = length-take-le n bytes le in
    let fits : (characters n n).Fits (take n bytes) = subst (λ (k : ℕ). (characters k k).Fits (take n bytes)) size (subst (λ (z : List ℕ). (characters (length z) (length z)).Fits z) u.1.1 (encodes_fit u.0 (length (encodes u.0)) u.1.0 (omega arith))) in
    let s : (characters n n).spell (take n bytes) ≡ take n bytes = characters_spell n n (take n bytes) (omega arith) fits in
    let whole : take n bytes ++ drop n bytes ≡ bytes = take-append-drop n bytes in
    ap (characters n n).read (sym whole) ∙ (ap (λ (z : List ℕ). (characters n n).read (z ++ drop n bytes)) (sym s) ∙ (characters_exact n n).again (take n bytes) (drop n bytes) fits)
