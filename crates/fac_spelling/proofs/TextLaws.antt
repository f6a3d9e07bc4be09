-- The laws of texts.
use Rattle.std.proofs.Common.{◌≡◌, ℕ, zero, suc, ◌-◌, ◌^◌, ◌≤◌, ◌<◌, Bool, true, false, cond, List, [], ◌∷◌, ◌++◌, length, get_or, take, drop, Result, Ok, Err, refl, sym, ap, subst, ◌∙◌, append_assoc, arith}
use Rattle.std.specs.Prelude.{nat_eq, nat_lt, ◌||◌}
use Rattle.std.proofs.lemmas.Bool.{both_ways, and_parts, ltb-true}
use Rattle.std.proofs.lemmas.List.{take-append-drop, take_at, drop_at, length-append}
use Rattle.fac_spelling.specs.declared.fault.ReadFault.{ReadFault}
use Rattle.fac_spelling.specs.declared.fault.ReadFault.TheVariants as faults
use Rattle.fac_spelling.proofs.FormatLaws.{follow_exact, seen_exact, nothing_exact, ok_is}
use Rattle.fac_spelling.proofs.NumberLaws.{number_exact}
use Rattle.fac_spelling.proofs.ByteLaws.{byte_exact, AllRanges, in_ranges_exact, in_ranges_length}
use Rattle.fac_spelling.specs.Bytes.{byte, Range, continues, range_first, in_ranges}
use Rattle.fac_spelling.specs.Formats.{◌>>=◌, Right, Exact, follow, run}
use Rattle.fac_spelling.specs.Numbers.{in_range, number, shortest}
use Rattle.fac_spelling.specs.Reads.{Fails}
use Rattle.fac_spelling.specs.Texts.{second_range, others, leads, character, width, characters, text}
use Rattle.fac_spelling.specs.inner.CharacterSteps.{sized, rest_of}

abbrev pub second_of : Bool → Bool → Bool → Bool → Range
second_of p q r s = cond p (record { low = 0xA0; high = 0xBF }) (cond q (record { low = 0x80; high = 0x9F }) (cond r (record { low = 0x90; high = 0xBF }) (cond s (record { low = 0x80; high = 0x8F }) continues)))

second_ordered : (b : ℕ) → (second_range b).low ≤ (second_range b).high
second_ordered b = split (nat_eq b 0xE0) (nat_eq b 0xED) (nat_eq b 0xF0) (nat_eq b 0xF4)
  where
    split : (p q r s : Bool) → (second_of p q r s).low ≤ (second_of p q r s).high
    split true q r s = omega arith
    split false true r s = omega arith
    split false false true s = omega arith
    split false false false true = omega arith
    split false false false false = omega arith

others_ranges : (b : ℕ) → AllRanges (others b)
others_ranges b = split (nat_lt b 0x80) (nat_lt b 0xE0) (nat_lt b 0xF0)
  where
    split : (p q r : Bool) → AllRanges (cond p [] (cond q (continues ∷ []) (cond r (second_range b ∷ continues ∷ []) (second_range b ∷ continues ∷ continues ∷ []))))
    split true q r = tt
    split false true r = (omega arith, tt)
    split false false true = (second_ordered b, (omega arith, tt))
    split false false false = (second_ordered b, (omega arith, (omega arith, tt)))

-- ---- a character

lead_true : (room : ℕ) → leads (suc room) 0 ≡ true
lead_true room = grind arith

character_there : (room : ℕ) (bs : List ℕ) → leads room (get_or bs 0 256) ≡ true → get_or bs 0 256 ∷ drop 1 bs ≡ bs
character_there room [] h = absurd (both_ways (leads room 256) refl h)
character_there room (b ∷ bs) h = refl

pub character_exact : (room : ℕ) → Exact (character (suc room))
character_exact room = seen_exact (λ (bs : List ℕ). (get_or bs 0 256, drop 1 bs)) (λ p. p.0 ∷ p.1) (follow (byte (leads (suc room))) (λ b. in_ranges (others b)))
    (follow_exact (byte (leads (suc room))) (λ b. in_ranges (others b)) (byte_exact (leads (suc room)) 0 (lead_true room)) (λ b _. in_ranges_exact (others b) (others_ranges b)))
    (λ bs h. character_there (suc room) bs h.0)
    (λ x h. refl)

-- a character's bytes: as many as the first says, and no more than there is room for
pub record CharSize (room : ℕ) (c : List ℕ) : Type 0 where
  pub some : 0 < length c
  pub size : length c ≡ width c
  pub below : length c ≤ room

pub character_size : (room : ℕ) (c : List ℕ) → (character room).Fits c → CharSize room c
character_size room [] h = absurd (both_ways (leads room 256) refl h.0)
character_size room (b ∷ bs) h =
    let l = in_ranges_length (others b) bs h.1 in
    let p = and_parts (nat_lt b 0x80 || in_range 0xC2 0xF4 b) (nat_lt (length (others b)) room) h.0 in
    record { some = omega arith; size = ap (λ (n : ℕ). suc n) l; below = (let k : length (others b) < room = ltb-true (length (others b)) room p.1 in omega (arith, l)) }

width_front : (c r : List ℕ) → 0 < length c → width (c ++ r) ≡ width c
width_front [] r h = absurd (omega arith)
width_front (b ∷ c) r h = refl

pub pair_at : (c r : List ℕ) → 0 < length c → length c ≡ width c → ◌≡◌ {A = List ℕ × List ℕ} (take (width (c ++ r)) (c ++ r), drop (width (c ++ r)) (c ++ r)) (c, r)
pair_at c r some size =
    let w : length c ≡ width (c ++ r) = size ∙ sym (width_front c r some) in
    rw (take_at c r (width (c ++ r)) w, drop_at c r (width (c ++ r)) w) refl

-- ---- a text

pub characters_exact : (most room : ℕ) → Exact (characters most room)
unfolding characters
characters_exact most zero = nothing_exact []
characters_exact zero (suc room) = nothing_exact []
characters_exact (suc most) (suc room) = seen_exact (λ (bs : List ℕ). (take (width bs) bs, drop (width bs) bs)) (λ p. p.0 ++ p.1) (follow (character (suc room)) (λ c. characters most (suc room - length c)))
    (follow_exact (character (suc room)) (λ c. characters most (suc room - length c)) (character_exact room) (λ c _. characters_exact most (suc room - length c)))
    (λ bs h. take-append-drop (width bs) bs)
    (λ x h. let s = character_size (suc room) x.0 h.0 in pair_at x.0 x.1 s.some s.size)

pub characters_length : (most room : ℕ) (bs : List ℕ) → room ≤ most → (characters most room).Fits bs → length bs ≡ room
unfolding characters
characters_length most zero bs le h = rw h refl
characters_length zero (suc room) bs le h = absurd (omega arith)
characters_length (suc most) (suc room) bs le h =
    let s = character_size (suc room) (take (width bs) bs) h.0 in
    let r = characters_length most (suc room - length (take (width bs) bs)) (drop (width bs) bs) (omega (arith, s.some)) h.1 in
    let e : length (take (width bs) bs ++ drop (width bs) bs) ≡ length bs = ap length (take-append-drop (width bs) bs) in
    omega (arith, length-append (take (width bs) bs) (drop (width bs) bs), r, e, s.below)

pub text_exact : Exact text
text_exact = seen_exact (λ (bs : List ℕ). (length bs, bs)) (λ p. p.1) (follow (number 0 (2 ^ 32 - 1)) (λ n. characters n n))
    (follow_exact (number 0 (2 ^ 32 - 1)) (λ n. characters n n) (number_exact 0 (2 ^ 32 - 1) (omega arith) (omega arith)) (λ n _. characters_exact n n))
    (λ y _. refl)
    (λ x h. ap (λ (n : ℕ). (n, x.1)) (characters_length x.0 x.0 x.1 (omega arith) h.1))

-- ---- as a loop reads

abbrev failed : (A : Type 0) → ℕ → Result A ℕ
failed A left = Err left

-- a text is its own spelling
ranges_spell : (n : ℕ) (rs : List Range) (bs : List ℕ) → (run {S = List Range} (λ _ s. byte (in_range (range_first s).low (range_first s).high)) (λ s _. drop 1 s) n rs).Fits bs
    → (run {S = List Range} (λ _ s. byte (in_range (range_first s).low (range_first s).high)) (λ s _. drop 1 s) n rs).spell bs ≡ bs
ranges_spell zero rs [] h = refl
ranges_spell zero rs (b ∷ bs) h = absurd h
ranges_spell (suc n) rs [] h = absurd h
ranges_spell (suc n) rs (b ∷ bs) h = ap (λ (z : List ℕ). b ∷ z) (ranges_spell n (drop 1 rs) bs h.1)

character_spell : (room : ℕ) (bs : List ℕ) → (character room).Fits bs → (character room).spell bs ≡ bs
character_spell room [] h = absurd (both_ways (leads room 256) refl h.0)
character_spell room (b ∷ bs) h = ap (λ (z : List ℕ). b ∷ z) (ranges_spell (length (others b)) (others b) bs h.1)

pub characters_spell : (most room : ℕ) (bs : List ℕ) → room ≤ most → (characters most room).Fits bs → (characters most room).spell bs ≡ bs
unfolding characters
characters_spell most zero bs le h = sym h
characters_spell zero (suc room) bs le h = absurd (omega arith)
characters_spell (suc most) (suc room) bs le h =
    let s = character_size (suc room) (take (width bs) bs) h.0 in
    let one : (character (suc room)).spell (take (width bs) bs) ≡ take (width bs) bs = character_spell (suc room) (take (width bs) bs) h.0 in
    let two : (characters most (suc room - length (take (width bs) bs))).spell (drop (width bs) bs) ≡ drop (width bs) bs =
    characters_spell most (suc room - length (take (width bs) bs)) (drop (width bs) bs) (omega (arith, s.some)) h.1 in
    ap (λ (z : List ℕ). z ++ (characters most (suc room - length (take (width bs) bs))).spell (drop (width bs) bs)) one
    ∙ (ap (λ (z : List ℕ). take (width bs) bs ++ z) two ∙ take-append-drop (width bs) bs)

sized_is : (p : List ℕ × List ℕ) (n : ℕ) (after : List ℕ) → sized (Ok p) ≡ Ok (n, after) → (length p.0 ≡ n) × (p.1 ≡ after)
sized_is p n after e =
    let q : ◌≡◌ {A = ℕ × List ℕ} (length p.0, p.1) (n, after) = ok_is (length p.0, p.1) (n, after) e in
    (ap (λ (z : ℕ × List ℕ). z.0) q, ap (λ (z : ℕ × List ℕ). z.1) q)

-- what a character's reading says of its size
pub sized_ok : (room : ℕ) (bytes after : List ℕ) (n : ℕ) → sized ((character (suc room)).read bytes) ≡ Ok (n, after)
    → (c : List ℕ) × ((character (suc room)).read bytes ≡ Ok (c, after)) × (length c ≡ n) × CharSize (suc room) c
sized_ok room bytes after n e = go ((character (suc room)).read bytes) refl ((character_exact room).right bytes) e
  where
    go : (r : Result (List ℕ × List ℕ) ℕ) → (character (suc room)).read bytes ≡ r → Right (character (suc room)) bytes r → sized r ≡ Ok (n, after)
        → (c : List ℕ) × ((character (suc room)).read bytes ≡ Ok (c, after)) × (length c ≡ n) × CharSize (suc room) c
    go (Ok p) is h k =
        let s = sized_is p n after k in
        (p.0, is ∙ ap (λ (z : List ℕ). let q : Result (List ℕ × List ℕ) ℕ = Ok (p.0, z) in q) s.1, s.0, character_size (suc room) p.0 h.fits)
    go (Err left) is h k = absurd (let t : Unit {0} ≡ ⊥ = cc in subst (λ (T : Type 0). T) t tt)

-- some number of characters is enough
pub record Left (room : ℕ) (rest : List ℕ) (total : Result (List ℕ) ℕ) : Type 0 where
  pub most : ℕ
  pub enough : room ≤ most
  pub same : rest_of ((characters most room).read rest) ≡ total

abbrev ok_of : (A : Type 0) → A → Result A ℕ
ok_of A x = Ok x

seen_rest : (r : Result (List ℕ × List ℕ) ℕ) (c : List ℕ) → rest_of ((r >>= λ q. ok_of ((List ℕ × List ℕ) × List ℕ) ((c, q.0), q.1)) >>= λ z. ok_of (List ℕ × List ℕ) (z.0.0 ++ z.0.1, z.1)) ≡ rest_of r
seen_rest (Ok q) c = refl
seen_rest (Err left) c = refl

pub left_on : (room width : ℕ) (bytes after : List ℕ) (total : Result (List ℕ) ℕ) → 0 < room → sized ((character room).read bytes) ≡ Ok (width, after) → Left room bytes total → (width ≤ room) × (0 < width) × Left (room - width) after total
unfolding characters
left_on zero n bytes after total lt e l = absurd (omega arith)
left_on (suc room) n bytes after total lt e l = go l.most l.enough l.same
  where
    go : (most : ℕ) → suc room ≤ most → rest_of ((characters most (suc room)).read bytes) ≡ total → (n ≤ suc room) × (0 < n) × Left (suc room - n) after total
    go zero le k = absurd (omega arith)
    go (suc most) le k =
        let c = sized_ok room bytes after n e in
        let one : rest_of ((characters (suc most) (suc room)).read bytes) ≡ rest_of ((characters most (suc room - n)).read after) =
        rw (c.1, c.2) (seen_rest ((characters most (suc room - n)).read after) c.0) in
        (omega (arith, c.2, c.3.below), omega (arith, c.2, c.3.some), record { most = most; enough = omega (arith, c.2, c.3.some); same = sym one ∙ k })

pub left_ends : (room : ℕ) (e : ReadFault) (bytes : List ℕ) (total : Result (List ℕ) ℕ) → 0 < room → Fails e (sized ((character room).read bytes)) → Left room bytes total → Fails e total
unfolding characters
left_ends room faults.Memory bytes total lt h l = tt
left_ends zero (faults.Refused left) bytes total lt h l = absurd (omega arith)
left_ends (suc room) (faults.Refused left) bytes total lt h l = go l.most l.enough l.same
  where
    at : (r : Result (List ℕ × List ℕ) ℕ) → sized r ≡ Err left → r ≡ Err left
    at (Ok p) k = absurd (let t : Unit {0} ≡ ⊥ = cc in subst (λ (T : Type 0). T) t tt)
    at (Err n) k = let i : n ≡ left = cc in ap (λ (z : ℕ). failed (List ℕ × List ℕ) z) i

    go : (most : ℕ) → suc room ≤ most → rest_of ((characters most (suc room)).read bytes) ≡ total → total ≡ Err left
    go zero le k = absurd (omega arith)
    go (suc most) le k =
        let one : rest_of ((characters (suc most) (suc room)).read bytes) ≡ Err left = rw (at ((character (suc room)).read bytes) h) refl in
        sym k ∙ one

pub left_done : (room : ℕ) (rest : List ℕ) (total : Result (List ℕ) ℕ) → room ≡ 0 → Left room rest total → total ≡ Ok rest
unfolding characters
left_done zero rest total z l = go l.most l.same
  where
    go : (most : ℕ) → rest_of ((characters most zero).read rest) ≡ total → total ≡ Ok rest
    go zero k = sym k
    go (suc most) k = sym k
left_done (suc room) rest total z l = absurd (omega arith)

-- the text is the bytes that were gone past
pub whole_text : (n : ℕ) (bytes rest : List ℕ) → rest_of ((characters n n).read bytes) ≡ Ok rest → (n ≤ length bytes) × ((characters n n).read bytes ≡ Ok (take n bytes, drop n bytes))
whole_text n bytes rest e = go ((characters n n).read bytes) refl ((characters_exact n n).right bytes) e
  where
    go : (r : Result (List ℕ × List ℕ) ℕ) → (characters n n).read bytes ≡ r → Right (characters n n) bytes r → rest_of r ≡ Ok rest → (n ≤ length bytes) × ((characters n n).read bytes ≡ Ok (take n bytes, drop n bytes))
    go (Ok p) is h k =
        let l = characters_length n n p.0 (omega arith) h.fits in
        let same : bytes ≡ p.0 ++ p.1 = h.parts ∙ ap (λ (z : List ℕ). z ++ p.1) (characters_spell n n p.0 (omega arith) h.fits) in
        let t : take n bytes ≡ p.0 = ap (λ (z : List ℕ). take n z) same ∙ take_at p.0 p.1 n l in
        let d : drop n bytes ≡ p.1 = ap (λ (z : List ℕ). drop n z) same ∙ drop_at p.0 p.1 n l in
        (omega (arith, ap length same, length-append p.0 p.1, l), is ∙ rw (t, d) refl)
    go (Err left) is h k = absurd (let t : Unit {0} ≡ ⊥ = cc in subst (λ (T : Type 0). T) t tt)

-- ---- as the code writes it

pub text_written : (a b bs : List ℕ) → text.Fits bs → b ≡ a ++ shortest (length bs) → b ++ bs ≡ a ++ text.spell bs
text_written a b bs h e = ap (λ (z : List ℕ). z ++ bs) e ∙ append_assoc a (shortest (length bs)) bs ∙ ap (λ (z : List ℕ). a ++ (shortest (length bs) ++ z)) (sym (characters_spell (length bs) (length bs) bs (omega arith) h.1))
