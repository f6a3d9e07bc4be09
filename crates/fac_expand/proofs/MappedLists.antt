-- Elements of a list that is another one element by element.
use Rattle.std.proofs.Common.{◌≡◌, ◌<◌, ℕ, zero, suc, ◌+◌, List, [], ◌∷◌, ◌++◌, length, drop, get_or, map, Option, Some, None, refl, ap, sym, subst, ◌∙◌, append_assoc, add-one, drop-cons}
use Rattle.std.specs.Prelude.{slice_get}

-- an option's value
abbrev pub map_some : {A B : Type 0} → (A → B) → Option A → Option B
map_some f None = None
map_some f (Some x) = Some (f x)

pub get_map : {A B : Type 0} (f : A → B) (xs : List A) (k : ℕ) → slice_get (map f xs) k ≡ map_some f (slice_get xs k)
get_map f [] k = refl
get_map f (x ∷ xs) zero = refl
get_map f (x ∷ xs) (suc k) = get_map f xs k

pub get_mapped : {A B : Type 0} (f : A → B) (xs : List A) (k : ℕ) (x : A) → slice_get xs k ≡ Some x → slice_get (map f xs) k ≡ Some (f x)
get_mapped f [] k x e = absurd (cc)
get_mapped f (y ∷ xs) zero x e = let same : y ≡ x = cc in ap (λ z. Some (f z)) same
get_mapped f (y ∷ xs) (suc k) x e = get_mapped f xs k x e

pub get_unmapped : {A B : Type 0} (f : A → B) (xs : List A) (k : ℕ) (y : B) → slice_get (map f xs) k ≡ Some y → (x : A) × (slice_get xs k ≡ Some x) × (f x ≡ y)
get_unmapped f [] k y e = absurd (cc)
get_unmapped f (x ∷ xs) zero y e = let same : f x ≡ y = cc in (x, refl, same)
get_unmapped f (x ∷ xs) (suc k) y e = get_unmapped f xs k y e

pub drop_map : {A B : Type 0} (f : A → B) (j : ℕ) (xs : List A) → drop j (map f xs) ≡ map f (drop j xs)
drop_map f zero xs = refl
drop_map f (suc j) [] = refl
drop_map f (suc j) (x ∷ xs) = drop_map f j xs

-- the element that a loop is at
next_element : {A : Type 0} (xs : List A) (i : ℕ) (x : A) → i < length xs → x ≡ get_or xs i x → drop i xs ≡ x ∷ drop (i + 1) xs
next_element xs i x lt e = rw (add-one, drop-cons xs i x) (ap (λ y. y ∷ drop (suc i) xs) (sym e))

pub next_of : {A : Type 0} (xs : List A) (i : ℕ) (x : A) (items : List A) → items ≡ xs → i < length items → x ≡ get_or items i x → drop i xs ≡ x ∷ drop (i + 1) xs
next_of xs i x items are lt is = subst (λ (us : List _). drop i us ≡ x ∷ drop (i + 1) us) are (next_element items i x lt is)

-- one more element of a list that is mapped
pub mapped_step :
    {A B : Type 0} (f : A → B) (xs : List A) (i : ℕ) (x : A) (items : List A) → items ≡ xs → i < length items → x ≡ get_or items i x → (whole made pushed : List B) (y : B) → whole ≡ made ++ map f (drop i xs) → y ≡ f x → pushed ≡ made ++ y ∷ [] → whole ≡ pushed ++ map f (drop (i + 1) xs)
mapped_step f xs i x items are lt is whole made pushed y all made_is is_pushed =
    rw (is_pushed, made_is) (all ∙ ap (λ (us : List _). made ++ map f us) (next_of xs i x items are lt is) ∙ sym (append_assoc made (f x ∷ []) (map f (drop (i + 1) xs))))
