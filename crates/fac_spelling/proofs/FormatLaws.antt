-- The laws of formats that are made of others.
use Rattle.std.proofs.Common.{◌≡◌, ℕ, zero, suc, List, [], ◌∷◌, ◌++◌, Result, Ok, Err, refl, sym, ap, subst, ◌∙◌, append_assoc, ◌⊎◌, inl, inr}
use Rattle.fac_spelling.specs.Formats.{◌>>=◌, Format, Begins, Ends, Refused, Right, Exact, follow, seen, nothing, AllFit, all_at, run}

abbrev done : {A : Type 0} → A → Result A ℕ
done x = Ok x

abbrev failed : (A : Type 0) → ℕ → Result A ℕ
failed A left = Err left

pub ok_is : {A : Type 0} (x y : A) → done x ≡ done y → x ≡ y
ok_is x y e = cc

pub not_both : {A : Type 0} (x : A) (left : ℕ) → done x ≡ failed A left → ⊥
not_both x left e = let t : Unit {0} ≡ ⊥ = cc in subst (λ (T : Type 0). T) t tt

-- ---- no spelling begins another

-- of two values at the front of the same bytes
pub one_front : {A : Type 0} (f : Format A) → Exact f → (x y : A) (a b : List ℕ) → f.Fits x → f.Fits y → f.spell x ++ a ≡ f.spell y ++ b → (x ≡ y) × (a ≡ b)
one_front {A = A} f e x y a b hx hy same =
    let r : done (x, a) ≡ done (y, b) = sym (e.again x a hx) ∙ ap f.read same ∙ e.again y b hy in
    let p : (x, a) ≡ (y, b) = ok_is (x, a) (y, b) r in
    (ap (λ (z : A × List ℕ). z.0) p, ap (λ (z : A × List ℕ). z.1) p)

-- what is refused has no value at its front
pub none_at_front : {A : Type 0} (f : Format A) → Exact f → (bytes : List ℕ) (left : ℕ) (x : A) (rest : List ℕ) → f.read bytes ≡ failed (A × List ℕ) left → f.Fits x → bytes ≡ f.spell x ++ rest → ⊥
none_at_front {A = A} f e bytes left x rest refused h is =
    not_both (x, rest) left (sym (e.again x rest h) ∙ sym (ap f.read is) ∙ refused)

-- two fronts of the same bytes: one goes on as the other
pub compare : (a b c d : List ℕ) → a ++ b ≡ c ++ d → ((m : List ℕ) × (c ≡ a ++ m) × (b ≡ m ++ d)) ⊎ ((m : List ℕ) × (a ≡ c ++ m) × (d ≡ m ++ b))
compare [] b c d e = inl (c, refl, e)
compare (x ∷ a) b [] d e = inr (x ∷ a, refl, sym e)
compare (x ∷ a) b (y ∷ c) d e =
    let h : x ≡ y = cc in
    let t : a ++ b ≡ c ++ d = cc in
    elim (compare a b c d t) [
      | inl p ↦ inl (p.0, cc p.1, p.2)
      | inr p ↦ inr (p.0, cc p.1, p.2)
    ]

one_more : (front : List ℕ) (b : ℕ) (bs : List ℕ) → front ++ b ∷ bs ≡ (front ++ b ∷ []) ++ bs
one_more front b bs = sym (append_assoc front (b ∷ []) bs)

-- ---- one after the other

begins_at : {A B : Type 0} (g : A → Format B) (x z : A) (front : List ℕ) (y : B) (more : List ℕ) → z ≡ x → (g z).Fits y → (g z).spell y ≡ front ++ more → Begins (g x) front
begins_at {A = A} {B = B} g x z front y more same h is = record {
  value = y;
  fits = subst (λ (w : A). (g w).Fits y) same h;
  more = more;
  is = subst (λ (w : A). (g w).spell y ≡ front ++ more) same is;
}

ends_first : {A B : Type 0} (f : Format A) (g : A → Format B) → Exact f → (bytes : List ℕ) (left : ℕ) (front rest : List ℕ) → f.read bytes ≡ failed (A × List ℕ) left → bytes ≡ front ++ rest → Ends f front rest → Ends (follow f g) front rest
ends_first f g e bytes left front [] refused parts h = tt
ends_first f g e bytes left front (b ∷ bs) refused parts h =
    λ w.
    elim (compare (f.spell w.value.0) ((g w.value.0).spell w.value.1) (front ++ b ∷ []) w.more w.is) as (λ _. ⊥) [
      | inl p ↦ none_at_front f e bytes left w.value.0 (p.0 ++ bs) refused w.fits.0 (parts ∙ one_more front b bs ∙ ap (λ (z : List ℕ). z ++ bs) p.1 ∙ append_assoc (f.spell w.value.0) p.0 bs)
      | inr p ↦ h (record { value = w.value.0; fits = w.fits.0; more = p.0; is = p.1 })
    ]

refused_first : {A B : Type 0} (f : Format A) (g : A → Format B) → Exact f → ((x : A) → f.Fits x → Exact (g x)) → (bytes : List ℕ) (left : ℕ) → f.read bytes ≡ failed (A × List ℕ) left → Refused f bytes left → Refused (follow f g) bytes left
refused_first f g e d bytes left refused r =
    let x = r.begins.value in
    let y = d x r.begins.fits in
    record {
      front = r.front;
      rest = r.rest;
      parts = r.parts;
      size = r.size;
      begins = record {
        value = (x, y.one);
        fits = (r.begins.fits, y.one_fits);
        more = r.begins.more ++ (g x).spell y.one;
        is = ap (λ (z : List ℕ). z ++ (g x).spell y.one) r.begins.is ∙ append_assoc r.front r.begins.more ((g x).spell y.one);
      };
      ends = ends_first f g e bytes left r.front r.rest refused r.parts r.ends;
    }

ends_second : {A B : Type 0} (f : Format A) (g : A → Format B) → Exact f → (x : A) → f.Fits x → (front rest : List ℕ) → Ends (g x) front rest → Ends (follow f g) (f.spell x ++ front) rest
ends_second f g e x hx front [] h = tt
ends_second f g e x hx front (b ∷ bs) h =
    λ w.
    let same = one_front f e w.value.0 x ((g w.value.0).spell w.value.1) ((front ++ b ∷ []) ++ w.more) w.fits.0 hx
    (w.is ∙ simp append_assoc) in
    h (begins_at g x w.value.0 (front ++ b ∷ []) w.value.1 w.more same.0 w.fits.1 same.1)

second : {A B : Type 0} (f : Format A) (g : A → Format B) → Exact f → (x : A) → f.Fits x → (bytes rest : List ℕ) → bytes ≡ f.spell x ++ rest → (r : Result (B × List ℕ) ℕ) → Right (g x) rest r → Right (follow f g) bytes (r >>= λ q. Ok ((x, q.0), q.1))
second f g e x hx bytes rest parts (Ok q) h = record {
  fits = (hx, h.fits);
  parts = parts ∙ ap (λ (z : List ℕ). f.spell x ++ z) h.parts ∙ sym (append_assoc (f.spell x) ((g x).spell q.0) q.1);
}
second f g e x hx bytes rest parts (Err left) h = record {
  front = f.spell x ++ h.front;
  rest = h.rest;
  parts = parts ∙ ap (λ (z : List ℕ). f.spell x ++ z) h.parts ∙ sym (append_assoc (f.spell x) h.front h.rest);
  size = h.size;
  begins = record {
    value = (x, h.begins.value);
    fits = (hx, h.begins.fits);
    more = h.begins.more;
    is = ap (λ (z : List ℕ). f.spell x ++ z) h.begins.is ∙ sym (append_assoc (f.spell x) h.front h.begins.more);
  };
  ends = ends_second f g e x hx h.front h.rest h.ends;
}

follow_right : {A B : Type 0} (f : Format A) (g : A → Format B) → Exact f → ((x : A) → f.Fits x → Exact (g x)) → (bytes : List ℕ) (r : Result (A × List ℕ) ℕ) → f.read bytes ≡ r → Right f bytes r
    → Right (follow f g) bytes (r >>= λ p. (g p.0).read p.1 >>= λ q. Ok ((p.0, q.0), q.1))
follow_right f g e d bytes (Ok p) is h = second f g e p.0 h.fits bytes p.1 h.parts ((g p.0).read p.1) ((d p.0 h.fits).right p.1)
follow_right f g e d bytes (Err left) is h = refused_first f g e d bytes left is h

follow_again : {A B : Type 0} (f : Format A) (g : A → Format B) → Exact f → ((x : A) → f.Fits x → Exact (g x)) → (x : A) (y : B) (rest : List ℕ) → f.Fits x → (g x).Fits y
    → (follow f g).read ((f.spell x ++ (g x).spell y) ++ rest) ≡ Ok ((x, y), rest)
follow_again f g e d x y rest hx hy = rw (append_assoc (f.spell x) ((g x).spell y) rest, e.again x ((g x).spell y ++ rest) hx, (d x hx).again y rest hy) refl

pub follow_exact : {A B : Type 0} (f : Format A) (g : A → Format B) → Exact f → ((x : A) → f.Fits x → Exact (g x)) → Exact (follow f g)
follow_exact f g e d = record {
  one = (e.one, (d e.one e.one_fits).one);
  one_fits = (e.one_fits, (d e.one e.one_fits).one_fits);
  again = λ x rest h. follow_again f g e d x.0 x.1 rest h.0 h.1;
  right = λ bytes. follow_right f g e d bytes (f.read bytes) refl (e.right bytes);
}

-- ---- the same bytes for other values

-- each value of h comes from one of f with the same bytes
pub record Renames {A B : Type 0} (f : Format A) (h : Format B) (from : A → B) : Type 0 where
  pub fits : (x : A) → f.Fits x → h.Fits (from x)
  pub spelled : (x : A) → f.Fits x → h.spell (from x) ≡ f.spell x
  pub onto : (y : B) → h.Fits y → (x : A) × f.Fits x × (from x ≡ y)
  pub reads : (bytes : List ℕ) → h.read bytes ≡ (f.read bytes >>= λ p. Ok (from p.0, p.1))

renamed_begins : {A B : Type 0} (f : Format A) (h : Format B) (from : A → B) → Renames f h from → (front : List ℕ) → Begins h front → Begins f front
renamed_begins {A = A} {B = B} f h from n front w =
    let x = n.onto w.value w.fits in
    record {
      value = x.0;
      fits = x.1;
      more = w.more;
      is = sym (n.spelled x.0 x.1) ∙ ap h.spell x.2 ∙ w.is;
    }

renamed_ends : {A B : Type 0} (f : Format A) (h : Format B) (from : A → B) → Renames f h from → (front rest : List ℕ) → Ends f front rest → Ends h front rest
renamed_ends f h from n front [] k = tt
renamed_ends f h from n front (b ∷ bs) k = λ w. k (renamed_begins f h from n (front ++ b ∷ []) w)

renamed_right : {A B : Type 0} (f : Format A) (h : Format B) (from : A → B) → Renames f h from → (bytes : List ℕ) (r : Result (A × List ℕ) ℕ) → Right f bytes r → Right h bytes (r >>= λ p. Ok (from p.0, p.1))
renamed_right f h from n bytes (Ok p) k = record { fits = n.fits p.0 k.fits; parts = k.parts ∙ ap (λ (z : List ℕ). z ++ p.1) (sym (n.spelled p.0 k.fits)) }
renamed_right f h from n bytes (Err left) k = record {
  front = k.front;
  rest = k.rest;
  parts = k.parts;
  size = k.size;
  begins = record {
    value = from k.begins.value;
    fits = n.fits k.begins.value k.begins.fits;
    more = k.begins.more;
    is = n.spelled k.begins.value k.begins.fits ∙ k.begins.is;
  };
  ends = renamed_ends f h from n k.front k.rest k.ends;
}

renamed_again : {A B : Type 0} (f : Format A) (h : Format B) (from : A → B) → Renames f h from → Exact f → (y : B) (rest : List ℕ) (x : A) → f.Fits x → from x ≡ y → h.read (h.spell y ++ rest) ≡ Ok (y, rest)
renamed_again {B = B} f h from n e y rest x k is =
    let a : h.read (h.spell (from x) ++ rest) ≡ done (from x, rest) =
    n.reads (h.spell (from x) ++ rest) ∙ rw (n.spelled x k, e.again x rest k) refl in
    subst (λ (z : B). h.read (h.spell z ++ rest) ≡ Ok (z, rest)) is a

pub renamed : {A B : Type 0} (f : Format A) (h : Format B) (from : A → B) → Renames f h from → Exact f → Exact h
renamed f h from n e = record {
  one = from e.one;
  one_fits = n.fits e.one e.one_fits;
  again = λ y rest k. let x = n.onto y k in renamed_again f h from n e y rest x.0 x.1 x.2;
  right = λ bytes. subst (Right h bytes) (sym (n.reads bytes)) (renamed_right f h from n bytes (f.read bytes) (e.right bytes));
}

-- another view of the values, back and forth
pub seen_exact : {A B : Type 0} (to : B → A) (from : A → B) (f : Format A) → Exact f → ((y : B) → f.Fits (to y) → from (to y) ≡ y) → ((x : A) → f.Fits x → to (from x) ≡ x) → Exact (seen to from f)
seen_exact to from f e there back = renamed f (seen to from f) from (record {
  fits = λ x k. subst f.Fits (sym (back x k)) k;
  spelled = λ x k. ap f.spell (back x k);
  onto = λ y k. (to y, k, there y k);
  reads = λ bytes. refl;
}) e

pub nothing_exact : {A : Type 0} (x : A) → Exact (nothing x)
nothing_exact x = record {
  one = x;
  one_fits = refl;
  again = λ y rest h. ap (λ z. done (z, rest)) (sym h);
  right = λ bytes. record { fits = refl; parts = refl };
}

-- ---- lists

no_more : {A S : Type 0} (g : ℕ → S → Format A) (next : S → A → S) (s : S) (xs : List A) (rest : List ℕ) → AllFit g next zero s xs → done {A = List A × List ℕ} ([], rest) ≡ done (xs, rest)
no_more g next s [] rest h = refl
no_more g next s (x ∷ xs) rest h = absurd h

-- steps one after the other, seen at the end or on the way
then_seen : {A B C : Type 0} (r : Result (A × List ℕ) ℕ) (k : A × List ℕ → Result (B × List ℕ) ℕ) (from : A × B → C)
    → (r >>= λ p. k p >>= λ q. done {A = C × List ℕ} (from (p.0, q.0), q.1)) ≡ ((r >>= λ p. k p >>= λ q. done {A = (A × B) × List ℕ} ((p.0, q.0), q.1)) >>= λ z. Ok (from z.0, z.1))
then_seen {A = A} {B = B} {C = C} (Ok p) k from = inner (k p)
  where
    inner : (t : Result (B × List ℕ) ℕ) → (t >>= λ q. done {A = C × List ℕ} (from (p.0, q.0), q.1)) ≡ ((t >>= λ q. done {A = (A × B) × List ℕ} ((p.0, q.0), q.1)) >>= λ z. Ok (from z.0, z.1))
    inner (Ok q) = refl
    inner (Err left) = refl
then_seen (Err left) k from = refl

parts_of : {A S : Type 0} (g : ℕ → S → Format A) (next : S → A → S) (n : ℕ) (s : S) (xs : List A) → AllFit g next (suc n) s xs
    → (p : A × List A) × ((g n s).Fits p.0 × AllFit g next n (next s p.0) p.1) × (p.0 ∷ p.1 ≡ xs)
parts_of g next n s [] h = absurd h
parts_of g next n s (x ∷ xs) h = ((x, xs), h, refl)

-- Each value's format is exact where the state before it is good, and the values keep the state good.
pub run_exact : {A S : Type 0} (g : ℕ → S → Format A) (next : S → A → S) (Good : ℕ → S → Type 0) → ((n : ℕ) (s : S) → Good (suc n) s → Exact (g n s)) → ((n : ℕ) (s : S) (x : A) → Good (suc n) s → (g n s).Fits x → Good n (next s x))
    → (n : ℕ) (s : S) → Good n s → Exact (run g next n s)
unfolding all_at
run_exact g next Good exact keeps zero s k = record {
  one = [];
  one_fits = tt;
  again = λ xs rest h. no_more g next s xs rest h;
  right = λ bytes. record { fits = tt; parts = refl };
}
run_exact {A = A} g next Good exact keeps (suc n) s k =
    let both : Exact (follow (g n s) (λ x. run g next n (next s x))) = follow_exact (g n s) (λ x. run g next n (next s x)) (exact n s k) (λ x h. run_exact g next Good exact keeps n (next s x) (keeps n s x k h)) in
    renamed (follow (g n s) (λ x. run g next n (next s x))) (run g next (suc n) s) (λ p. p.0 ∷ p.1) (record {
      fits = λ x h. h;
      spelled = λ x h. refl;
      onto = λ y h. parts_of g next n s y h;
      reads = λ bytes. then_seen ((g n s).read bytes) (λ p. all_at g next n (next s p.0) p.1) (λ p. p.0 ∷ p.1);
    }) both
