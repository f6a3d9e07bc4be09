-- The vocabularies that hold a word, one after another.
use Rattle.std.proofs.Common.{◌≡◌, ◌<◌, ◌≤◌, ℕ, zero, suc, ◌+◌, inl, inr, List, [], ◌∷◌, ◌++◌, length, map, drop, drop-cons, get_or, refl, sym, subst, ap, ◌∙◌, arith, append_assoc}
use Rattle.std.proofs.lemmas.List.{append-nil}
use Rattle.fac_explainer.specs.Homes.{AreHomes, none, holds, lacks}
use Rattle.fac_explainer.specs.inner.Steps.{AddsHome}

-- With those of the vocabularies from this number on these are all.
abbrev pub SoFar : {A : Type 0} → (A → List ℕ) → List ℕ → List A → ℕ → List (List ℕ) → Type 0
SoFar f name vocabs i homes = (rest : List (List ℕ)) → AreHomes name (map f (drop i vocabs)) rest → AreHomes name (map f vocabs) (homes ++ rest)

-- one vocabulary more
pub one_more_home :
    {A : Type 0} (f : A → List ℕ) (name : List ℕ) (vocabs : List A) (i : ℕ) (other : A) (homes now : List (List ℕ)) → i < length vocabs → SoFar f name vocabs i homes → AddsHome name (f (get_or vocabs i other)) homes now →
    SoFar f name vocabs (i + 1) now
one_more_home f name vocabs i other homes now below so_far (inl adds) rest are =
    let here = f (get_or vocabs i other) in
    let behind = map f (drop (suc i) vocabs) in
    let around : map f (drop i vocabs) ≡ here ∷ behind = ap (map f) (drop-cons vocabs i other below) in
    let next : i + 1 ≡ suc i = omega arith in
    let others : AreHomes name behind rest = subst (λ (k : ℕ). AreHomes name (map f (drop k vocabs)) rest) next are in
    let all = so_far (here ∷ rest) (subst (λ (vs : List (List ℕ)). AreHomes name vs (here ∷ rest)) (sym around) (holds here behind rest adds.0 others)) in
    subst (λ (xs : List (List ℕ)). AreHomes name (map f vocabs) xs) (sym (ap (λ (xs : List (List ℕ)). xs ++ rest) adds.1 ∙ append_assoc homes (here ∷ []) rest)) all
one_more_home f name vocabs i other homes now below so_far (inr stays) rest are =
    let here = f (get_or vocabs i other) in
    let behind = map f (drop (suc i) vocabs) in
    let around : map f (drop i vocabs) ≡ here ∷ behind = ap (map f) (drop-cons vocabs i other below) in
    let next : i + 1 ≡ suc i = omega arith in
    let others : AreHomes name behind rest = subst (λ (k : ℕ). AreHomes name (map f (drop k vocabs)) rest) next are in
    let all = so_far rest (subst (λ (vs : List (List ℕ)). AreHomes name vs rest) (sym around) (lacks here behind rest stays.0 stays.1 others)) in
    subst (λ (xs : List (List ℕ)). AreHomes name (map f vocabs) xs) (sym (ap (λ (xs : List (List ℕ)). xs ++ rest) stays.2)) all

-- behind the end of a list nothing is left
pub none_left : {A : Type 0} (xs : List A) (i : ℕ) → length xs ≤ i → drop i xs ≡ []
none_left [] zero past = refl
none_left [] (suc i) past = refl
none_left (x ∷ xs) zero past = absurd (omega (arith, past))
none_left (x ∷ xs) (suc i) past = none_left xs i (omega (arith, past))

-- where none is left these are all
pub all_homes : {A : Type 0} (f : A → List ℕ) (name : List ℕ) (vocabs : List A) (i : ℕ) (homes : List (List ℕ)) → length vocabs ≤ i → SoFar f name vocabs i homes → AreHomes name (map f vocabs) homes
all_homes f name vocabs i homes past so_far =
    let last = so_far [] (subst (λ (vs : List _). AreHomes name (map f vs) []) (sym (none_left vocabs i past)) none) in subst (λ (xs : List (List ℕ)). AreHomes name (map f vocabs) xs) (append-nil homes) last
