-- Names as notes tell them.
use Rattle.std.proofs.Common.{◌≡◌, ◌≢◌, ◌<◌, ◌≤◌, ℕ, suc, ◌+◌, List, [], ◌∷◌, ◌++◌, inl, inr, length, drop, get_or, refl, ap, sym, ◌∙◌, arith, append_assoc, drop-cons, add-one}
use Rattle.std.specs.Char.{encode_utf8}
use Rattle.std.specs.Str.{encode_utf8_all, chars, IsUtf8}
use Rattle.std.proofs.lemmas.Bool.{le-leb, lt-leb, ne_eqb}
use Rattle.std.proofs.lemmas.Bool.Decides.{leb_tells}
use Rattle.std.proofs.lemmas.List.{append-nil, map-append}
use Rattle.std.proofs.lemmas.Str.{encode_ascii, encodes-chars, inside_one}
use Rattle.fac_notes.specs.Visible.{visible, visible_byte}

-- a control character
hidden : (c : ℕ) → c < 32 → 63 ≡ visible_byte c
hidden c low = rw (lt-leb 32 c low) refl

pub control_told : (c : ℕ) → c < 32 → encode_utf8 63 ≡ visible (encode_utf8 c)
control_told c low = rw (encode_ascii c (omega (arith, low)), encode_ascii 63 (omega arith)) (ap (λ (b : ℕ). b ∷ []) (hidden c low))

pub delete_told : (c : ℕ) → c ≡ 127 → encode_utf8 63 ≡ visible (encode_utf8 c)
delete_told c is = rw (encode_ascii c (omega (arith, is)), encode_ascii 63 (omega arith), is) refl

-- a byte that is told as it is
itself : (b : ℕ) → 32 ≤ b → b ≢ 127 → b ≡ visible_byte b
itself b high other = rw (le-leb 32 b high, ne_eqb b 127 other) refl

all_itself : (bs : List ℕ) → ((k : ℕ) → k < length bs → get_or bs k 0 ≡ visible_byte (get_or bs k 0)) → bs ≡ visible bs
all_itself [] h = refl
all_itself (b ∷ bs) h =
    let first : b ≡ visible_byte b = h 0 (omega arith) in
    let rest : bs ≡ visible bs = all_itself bs (λ k lt. h (suc k) (omega (arith, lt))) in
    ap (λ (x : ℕ). x ∷ bs) first ∙ ap (λ (xs : List ℕ). visible_byte b ∷ xs) rest

-- an ASCII byte of a character is that character
only_byte : (c k : ℕ) → k < length (encode_utf8 c) → get_or (encode_utf8 c) k 0 < 128 → c ≡ get_or (encode_utf8 c) k 0
only_byte c k lt small = inside_one c [] (encode_utf8 c) k (sym (append-nil (encode_utf8 c))) lt small

byte_told : (c b : ℕ) → 32 ≤ c → c ≢ 127 → (b < 128 → c ≡ b) → b ≡ visible_byte b
byte_told c b high other only =
    elim (leb_tells 32 b) [
      | inl fits ↦ itself b fits.1 (λ is. other (only (omega (arith, is)) ∙ is))
      | inr lower ↦ let same : c ≡ b = only (omega (arith, lower.1)) in absurd (omega (arith, same, high, lower.1))
    ]

pub others_told : (c : ℕ) → 32 ≤ c → c ≢ 127 → encode_utf8 c ≡ visible (encode_utf8 c)
others_told c high other = all_itself (encode_utf8 c) (λ k lt. byte_told c (get_or (encode_utf8 c) k 0) high other (only_byte c k lt))

-- the loop over the characters of a name
abbrev pub left_of : ℕ → List ℕ → List ℕ
left_of k name = visible (encode_utf8_all (drop k (chars name)))

pub begins : (name line : List ℕ) → IsUtf8 name → line ++ left_of 0 name ≡ line ++ visible name
begins name line u = ap (λ (cs : List ℕ). line ++ visible cs) (encodes-chars name u)

pub goes_on :
    (name line added whole : List ℕ) (k j c : ℕ) → (k < length (chars name)) × (c ≡ get_or (chars name) k c) → j ≡ k + 1 → line ++ left_of k name ≡ whole → added ≡ line ++ visible (encode_utf8 c) → added ++ left_of j name ≡ whole
goes_on name line added whole k j c at next is more =
    let rest = encode_utf8_all (drop (suc k) (chars name)) in
    let same : drop k (chars name) ≡ c ∷ drop (suc k) (chars name) = drop-cons (chars name) k c at.0 ∙ ap (λ (d : ℕ). d ∷ drop (suc k) (chars name)) (sym at.1) in
    rw (more, next, add-one)
    (append_assoc line (visible (encode_utf8 c)) (visible rest) ∙ ap (λ (cs : List ℕ). line ++ cs) (sym (map-append visible_byte (encode_utf8 c) rest)) ∙ ap (λ (cs : List ℕ). line ++ visible (encode_utf8_all cs)) (sym same) ∙ is)

pub ends : (name line whole : List ℕ) (k : ℕ) → length (chars name) ≡ k → line ++ left_of k name ≡ whole → line ≡ whole
ends name line whole k all is = sym (append-nil line) ∙ ap (λ (cs : List ℕ). line ++ visible (encode_utf8_all cs)) (sym (past (chars name) k all)) ∙ is
  where
    past : (cs : List ℕ) (k : ℕ) → length cs ≡ k → drop k cs ≡ []
    past [] k e = rw (← e) refl
    past (c ∷ cs) k e = rw (← e) (past cs (length cs) refl)
