-- The laws of bytes.
use Rattle.std.proofs.Common.{◌≡◌, ℕ, suc, ◌≤◌, ◌<◌, ◌+◌, get_or, sym, Result, Bool, true, false, cond, List, [], ◌∷◌, length, drop, map, Ok, Err, refl, subst, ap, ◌∙◌, arith}
use Rattle.std.proofs.lemmas.Bool.{both_ways}
use Rattle.std.proofs.lemmas.List.{drop_more, drop_all}
use Rattle.fac_spelling.specs.Formats.{◌>>=◌, all_at, Begins, Right, Exact}
use Rattle.fac_spelling.specs.Numbers.{in_range}
use Rattle.fac_spelling.specs.Bytes.{byte, Range, continues, range_first, in_ranges, only, fixed}
use Rattle.fac_spelling.specs.Reads.{Fails}
use Rattle.fac_spelling.specs.inner.CharacterSteps.{rest_of}
use Rattle.fac_spelling.specs.declared.fault.ReadFault.{ReadFault}
use Rattle.fac_spelling.specs.declared.fault.ReadFault.TheVariants as faults
use Rattle.fac_spelling.proofs.FormatLaws.{run_exact}
use Rattle.fac_spelling.proofs.NumberLaws.{within_stands, stands_within}
use Rattle.fac_spelling.proofs.ListLaws.{fit_length}

-- ---- a byte

byte_again : (test : ℕ → Bool) (b : ℕ) (rest : List ℕ) → test b ≡ true → (byte test).read (b ∷ rest) ≡ Ok (b, rest)
byte_again test b rest h = rw h refl

byte_ends : (test : ℕ → Bool) (b : ℕ) → test b ≡ false → Begins (byte test) (b ∷ []) → ⊥
byte_ends test b h w =
    let e : w.value ∷ [] ≡ b ∷ w.more = w.is in
    let v : w.value ≡ b = cc in
    both_ways (test b) h (subst (λ (z : ℕ). test z ≡ true) v w.fits)

byte_step : (test : ℕ → Bool) (one : ℕ) → test one ≡ true → (b : ℕ) (bs : List ℕ) (t : Bool) → test b ≡ t → Right (byte test) (b ∷ bs) (cond t (Ok (b, bs)) (Err (suc (length bs))))
byte_step test one h b bs true e = record { fits = e; parts = refl }
byte_step test one h b bs false e = record {
  front = [];
  rest = b ∷ bs;
  parts = refl;
  size = refl;
  begins = record { value = one; fits = h; more = one ∷ []; is = refl };
  ends = byte_ends test b e;
}

byte_right : (test : ℕ → Bool) (one : ℕ) → test one ≡ true → (bytes : List ℕ) → Right (byte test) bytes ((byte test).read bytes)
byte_right test one h [] = record { front = []; rest = []; parts = refl; size = refl; begins = record { value = one; fits = h; more = one ∷ []; is = refl }; ends = tt }
byte_right test one h (b ∷ bs) = byte_step test one h b bs (test b) refl

pub byte_exact : (test : ℕ → Bool) (one : ℕ) → test one ≡ true → Exact (byte test)
byte_exact test one h = record { one = one; one_fits = h; again = λ b rest k. byte_again test b rest k; right = byte_right test one h }

-- ---- bytes of ranges

abbrev pub AllRanges : List Range → Type 0
AllRanges [] = Unit {0}
AllRanges (r ∷ rs) = (r.low ≤ r.high) × AllRanges rs

abbrev Good : ℕ → List Range → Type 0
Good n rs = (length rs ≡ n) × AllRanges rs

range_exact : (r : Range) → r.low ≤ r.high → Exact (byte (in_range r.low r.high))
range_exact r le = byte_exact (in_range r.low r.high) r.low (within_stands r.low r.high r.low (record { above = omega arith; below = le }))

good_first : (n : ℕ) (rs : List Range) → Good (suc n) rs → Exact (byte (in_range (range_first rs).low (range_first rs).high))
good_first n [] h = range_exact continues (omega arith)
good_first n (r ∷ rs) h = range_exact r h.1.0

good_rest : (n : ℕ) (rs : List Range) → Good (suc n) rs → Good n (drop 1 rs)
good_rest n [] h = absurd (omega (arith, h.0))
good_rest n (r ∷ rs) h = (omega (arith, h.0), h.1.1)

pub in_ranges_exact : (rs : List Range) → AllRanges rs → Exact (in_ranges rs)
in_ranges_exact rs h = run_exact {S = List Range} (λ _ s. byte (in_range (range_first s).low (range_first s).high)) (λ s _. drop 1 s) Good good_first (λ n s _ g _. good_rest n s g) (length rs) rs (refl, h)

pub in_ranges_length : (rs : List Range) (bs : List ℕ) → (in_ranges rs).Fits bs → length bs ≡ length rs
in_ranges_length rs bs h = fit_length {S = List Range} (λ _ s. byte (in_range (range_first s).low (range_first s).high)) (λ s _. drop 1 s) (length rs) rs bs h

-- ---- these bytes and no others

only_ranges : (bs : List ℕ) → AllRanges (map only bs)
only_ranges [] = tt
only_ranges (b ∷ bs) = (omega arith, only_ranges bs)

pub fixed_exact : (bs : List ℕ) → Exact (fixed bs)
fixed_exact bs = in_ranges_exact (map only bs) (only_ranges bs)

pub fixed_is : (es bs : List ℕ) → (fixed es).Fits bs → bs ≡ es
fixed_is [] [] h = refl
fixed_is [] (b ∷ bs) h = absurd h
fixed_is (e ∷ es) [] h = absurd h
fixed_is (e ∷ es) (b ∷ bs) h =
    let w = stands_within e e b h.0 in
    let same : b ≡ e = omega (arith, w.above, w.below) in
    let rest : bs ≡ es = fixed_is es bs h.1 in
    cc

pub fixed_spell : (es : List ℕ) → (fixed es).spell es ≡ es
fixed_spell [] = refl
fixed_spell (e ∷ es) = ap (λ (z : List ℕ). e ∷ z) (fixed_spell es)

-- ---- as the code goes past them

abbrev error : ℕ → Result (List ℕ × List ℕ) ℕ
error left = Err left

rest_behind : (r : Result (List ℕ × List ℕ) ℕ) (b : ℕ) → rest_of (r >>= λ q. Ok (b ∷ q.0, q.1)) ≡ rest_of r
rest_behind (Ok q) b = refl
rest_behind (Err left) b = refl

pub fixed_on : (es : List ℕ) (i b : ℕ) (bytes after : List ℕ) (total : Result (List ℕ) ℕ) → i < length es → (byte (in_range (get_or es i 0) (get_or es i 0))).read bytes ≡ Ok (b, after)
    → rest_of ((fixed (drop i es)).read bytes) ≡ total → rest_of ((fixed (drop (i + 1) es)).read after) ≡ total
unfolding all_at
fixed_on es i b bytes after total lt read so_far =
    let e : ℕ = get_or es i 0 in
    let d : drop i es ≡ e ∷ drop (i + 1) es = drop_more es i 0 lt in
    let one : rest_of ((fixed (e ∷ drop (i + 1) es)).read bytes) ≡ rest_of ((fixed (drop (i + 1) es)).read after) = rw read (rest_behind ((fixed (drop (i + 1) es)).read after) b) in
    sym one ∙ ap (λ (z : List ℕ). rest_of ((fixed z).read bytes)) (sym d) ∙ so_far

pub fixed_ends : (fault : ReadFault) (es : List ℕ) (i : ℕ) (bytes : List ℕ) (total : Result (List ℕ) ℕ) → i < length es → Fails fault ((byte (in_range (get_or es i 0) (get_or es i 0))).read bytes)
    → rest_of ((fixed (drop i es)).read bytes) ≡ total → Fails fault total
unfolding all_at
fixed_ends faults.Memory es i bytes total lt read so_far = tt
fixed_ends (faults.Refused left) es i bytes total lt read so_far =
    let e : ℕ = get_or es i 0 in
    let d : drop i es ≡ e ∷ drop (i + 1) es = drop_more es i 0 lt in
    let one : rest_of ((fixed (e ∷ drop (i + 1) es)).read bytes) ≡ Err left = rw read refl in
    sym so_far ∙ ap (λ (z : List ℕ). rest_of ((fixed z).read bytes)) d ∙ one

-- what going past them shows of reading them
pub fixed_fails : (fault : ReadFault) (es bytes : List ℕ) → Fails fault (rest_of ((fixed es).read bytes)) → Fails fault ((fixed es).read bytes)
fixed_fails faults.Memory es bytes h = tt
fixed_fails (faults.Refused left) es bytes h = at ((fixed es).read bytes) h
  where
    at : (r : Result (List ℕ × List ℕ) ℕ) → rest_of r ≡ Err left → r ≡ Err left
    at (Ok p) k = absurd (let t : Unit {0} ≡ ⊥ = cc in subst (λ (T : Type 0). T) t tt)
    at (Err n) k = let i : n ≡ left = cc in ap (λ (z : ℕ). error z) i

pub fixed_gives : (es bytes rest : List ℕ) (i : ℕ) → length es ≤ i → rest_of ((fixed (drop i es)).read rest) ≡ rest_of ((fixed es).read bytes) → (fixed es).read bytes ≡ Ok (es, rest)
unfolding all_at
fixed_gives es bytes rest i le so_far =
    let d : drop i es ≡ [] = drop_all i es le in
    let one : rest_of ((fixed es).read bytes) ≡ Ok rest = sym so_far ∙ ap (λ (z : List ℕ). rest_of ((fixed z).read rest)) d in
    go ((fixed es).read bytes) refl ((fixed_exact es).right bytes) one
  where
    go : (r : Result (List ℕ × List ℕ) ℕ) → (fixed es).read bytes ≡ r → Right (fixed es) bytes r → rest_of r ≡ Ok rest → (fixed es).read bytes ≡ Ok (es, rest)
    go (Ok p) is h k =
        let same : p.0 ≡ es = fixed_is es p.0 h.fits in
        let after : p.1 ≡ rest = cc in
        is ∙ rw (same, after) refl
    go (Err left) is h k = absurd (let t : Unit {0} ≡ ⊥ = cc in subst (λ (T : Type 0). T) t tt)
