-- Lists that are gone through from the left.
use Rattle.std.proofs.Common.{◌≡◌, ◌<◌, ◌≤◌, ◌+◌, ℕ, zero, suc, List, [], ◌∷◌, ◌++◌, None, fold, take, drop, length, get_or, slice_get, ap, sym, ◌∙◌, arith}
use Rattle.std.proofs.lemmas.List.{drop_more, take_more}
use Rattle.std.proofs.lemmas.List.Sums.{fold-append}

-- one element more
pub take_at : {A : Type 0} (xs : List A) (i : ℕ) (x : A) → i < length xs → x ≡ get_or xs i x → take (i + 1) xs ≡ take i xs ++ x ∷ []
take_at {A} xs i x h is = take_more xs i x h ∙ ap (λ (y : A). take i xs ++ y ∷ []) (sym is)

pub drop_at : {A : Type 0} (xs : List A) (i : ℕ) (x : A) → i < length xs → x ≡ get_or xs i x → drop i xs ≡ x ∷ drop (i + 1) xs
drop_at {A} xs i x h is = drop_more xs i x h ∙ ap (λ (y : A). y ∷ drop (i + 1) xs) (sym is)

pub gone_more : {A B : Type 0} (f : B → A → B) (b : B) (xs : List A) (i : ℕ) (x : A) → i < length xs → x ≡ get_or xs i x → fold f b (take (i + 1) xs) ≡ f (fold f b (take i xs)) x
gone_more f b xs i x h is = ap (fold f b) (take_at xs i x h is) ∙ fold-append f b (take i xs) (x ∷ [])

pub none_past : {A : Type 0} (xs : List A) (i : ℕ) → slice_get xs i ≡ None → length xs ≤ i
none_past [] i h = omega arith
none_past (x ∷ xs) zero h = cc
none_past (x ∷ xs) (suc i) h = let rest = none_past xs i h in omega (arith, rest)
