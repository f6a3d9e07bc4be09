-- Texts: prefixes, companions of vocabularies.
use Rattle.std.proofs.Common.{◌≡◌, ℕ, ◌+◌, Bool, true, false, ◌||◌, ◌&&◌, List, [], ◌∷◌, ◌++◌, length, drop, take, Some, None, refl, sym, ap, ◌∙◌, subst, arith, append_assoc, length-append}
use Rattle.std.specs.Prelude.{nat_eq, codes, if◌then◌else◌}
use Rattle.std.specs.Cmp.{unsigned_Decides}
use Rattle.std.specs.List.{list_any, starts_with}
use Rattle.std.specs.Str.{bytes_eq}
use Rattle.std.proofs.lemmas.Slice.Eq.{bytes_eq-Decides, starts_is}
use Rattle.fac_vocab.specs.Scopes.{companion, is_companion_of}

same_text : (xs ys : List ℕ) (b c : Bool) → bytes_eq xs ys ≡ b → bytes_eq ys xs ≡ c → b ≡ c
same_text xs ys true true e f = refl
same_text xs ys false false e f = refl
same_text xs ys true false e f = let g = (bytes_eq-Decides ys xs).1 (sym ((bytes_eq-Decides xs ys).0 e)) in cc
same_text xs ys false true e f = let g = (bytes_eq-Decides xs ys).1 (sym ((bytes_eq-Decides ys xs).0 f)) in cc

pub bytes_eq-swap : (xs ys : List ℕ) → bytes_eq xs ys ≡ bytes_eq ys xs
bytes_eq-swap xs ys = same_text xs ys (bytes_eq xs ys) (bytes_eq ys xs) refl refl

-- a test that isn't met is false
pub false_by : (b : Bool) → (b ≡ true → ⊥) → b ≡ false
false_by true h = absurd (h refl)
false_by false h = refl

-- two tests of which each follows from the other
pub same_by : (b c : Bool) → (b ≡ true → c ≡ true) → (c ≡ true → b ≡ true) → b ≡ c
same_by true c f g = sym (f refl)
same_by false true f g = g refl
same_by false false f g = refl

pub or_false : (a b : Bool) → (a || b) ≡ false → (a ≡ false) × (b ≡ false)
or_false true b e = cc
or_false false b e = (refl, e)

pub both_true : (a b : Bool) → (a && b) ≡ true → (a ≡ true) × (b ≡ true)
both_true true b h = (refl, h)
both_true false b h = cc

either_true : (a b c d : Bool) → (a || b) ≡ true → (a ≡ true → c ≡ true) → (b ≡ true → d ≡ true) → (c || d) ≡ true
either_true true b c d h f g = rw (f refl) refl
either_true false b true d h f g = refl
either_true false b false d h f g = g h

-- Prefixes.

take_prefix : (p rest : List ℕ) → take (length p) (p ++ rest) ≡ p
take_prefix [] rest = refl
take_prefix (x ∷ p) rest = ap (λ (xs : List ℕ). x ∷ xs) (take_prefix p rest)

pub drop_prefix : (p rest : List ℕ) → drop (length p) (p ++ rest) ≡ rest
drop_prefix [] rest = refl
drop_prefix (x ∷ p) rest = drop_prefix p rest

pub same_behind : (p xs ys : List ℕ) → p ++ xs ≡ p ++ ys → xs ≡ ys
same_behind p xs ys e = sym (drop_prefix p xs) ∙ ap (drop (length p)) e ∙ drop_prefix p ys

pub begins : (name p rest : List ℕ) → name ≡ p ++ rest → starts_with nat_eq name p ≡ true
begins name p rest e = (starts_is unsigned_Decides name p (starts_with nat_eq name p) refl).1 rest e

pub begins_not : (name p : List ℕ) → ((rest : List ℕ) → name ≡ p ++ rest → ⊥) → starts_with nat_eq name p ≡ false
begins_not name p h = false_by (starts_with nat_eq name p) (λ e. h (drop (length p) name) ((starts_is unsigned_Decides name p (starts_with nat_eq name p) refl).0 e))

-- Companions.

pub companion_is : (text vocab rest : List ℕ) → text ≡ vocab ++ rest → bytes_eq rest (codes ".private") ≡ bytes_eq text (companion vocab)
companion_is text vocab rest e =
    same_by (bytes_eq rest (codes ".private")) (bytes_eq text (companion vocab))
    (λ h. (bytes_eq-Decides text (companion vocab)).1 (e ∙ ap (λ (xs : List ℕ). vocab ++ xs) ((bytes_eq-Decides rest (codes ".private")).0 h)))
    (λ h. (bytes_eq-Decides rest (codes ".private")).1 (same_behind vocab rest (codes ".private") (sym e ∙ (bytes_eq-Decides text (companion vocab)).0 h)))

pub companion_not : (text vocab : List ℕ) → ((rest : List ℕ) → text ≡ vocab ++ rest → ⊥) → bytes_eq text (companion vocab) ≡ false
companion_not text vocab h = false_by (bytes_eq text (companion vocab)) (λ e. h (codes ".private") ((bytes_eq-Decides text (companion vocab)).0 e))

-- What stands behind a prefix and a colon.

pub behind_colon : (name p rest : List ℕ) → name ≡ p ++ 58 ∷ rest → (if starts_with nat_eq name (p ++ codes ":") then Some (drop (length p + 1) name) else None) ≡ Some rest
behind_colon name p rest e =
    let whole : name ≡ (p ++ codes ":") ++ rest = e ∙ sym (append_assoc p (codes ":") rest) in
    let long : length (p ++ codes ":") ≡ length p + 1 = length-append p (codes ":") in
    rw (begins name (p ++ codes ":") rest whole) (ap (λ (xs : List ℕ). Some xs) (ap (λ (n : ℕ). drop n name) (sym long) ∙ ap (drop (length (p ++ codes ":"))) whole ∙ drop_prefix (p ++ codes ":") rest))

pub no_colon : (name p : List ℕ) → ((rest : List ℕ) → name ≡ p ++ 58 ∷ rest → ⊥) → (if starts_with nat_eq name (p ++ codes ":") then Some (drop (length p + 1) name) else None) ≡ None
no_colon name p h = rw (begins_not name (p ++ codes ":") (λ rest e. h rest (e ∙ append_assoc p (codes ":") rest))) refl

-- Vocabularies that exist.

pub stem_there : (v t : List ℕ) → bytes_eq t v ≡ true → is_companion_of v t ≡ true
stem_there v t e = subst (λ (s : List ℕ). is_companion_of s t ≡ true) ((bytes_eq-Decides t v).0 e) (itself t)
  where
    itself : (s : List ℕ) → is_companion_of s s ≡ true
    itself [] = refl
    itself (x ∷ s) = rw ((unsigned_Decides x x).1 refl) (itself s)

pub stem_longer : (v t : List ℕ) → is_companion_of v t ≡ true → is_companion_of v (companion t) ≡ true
stem_longer [] [] h = refl
stem_longer [] (c ∷ t) h = let both = both_true (nat_eq c 46) (is_companion_of (codes "private") t) h in rw both.0 (stem_longer (codes "private") t both.1)
stem_longer (x ∷ v) [] h = cc
stem_longer (x ∷ v) (c ∷ t) h = let both = both_true (nat_eq c x) (is_companion_of v t) h in rw both.0 (stem_longer v t both.1)

-- a companion is the vocabulary itself, or one of a companion
pub data Stem (v t : List ℕ) : Type 0 where
  itself : t ≡ v → Stem v t
  of_one : (s : List ℕ) → t ≡ companion s → is_companion_of v s ≡ true → Stem v t

more_stem : (x c : ℕ) (v t : List ℕ) → nat_eq c x ≡ true → Stem v t → Stem (x ∷ v) (c ∷ t)
more_stem x c v t e (itself f) = itself (ap (λ (n : ℕ). n ∷ t) ((unsigned_Decides c x).0 e) ∙ ap (λ (xs : List ℕ). x ∷ xs) f)
more_stem x c v t e (of_one s f h) = of_one (c ∷ s) (ap (λ (xs : List ℕ). c ∷ xs) f) (rw e h)

first_stem : (c : ℕ) (t : List ℕ) → nat_eq c 46 ≡ true → Stem (codes "private") t → Stem [] (c ∷ t)
first_stem c t e (itself f) = of_one [] (ap (λ (n : ℕ). n ∷ t) ((unsigned_Decides c 46).0 e) ∙ ap (λ (xs : List ℕ). 46 ∷ xs) f) refl
first_stem c t e (of_one s f h) = of_one (c ∷ s) (ap (λ (xs : List ℕ). c ∷ xs) f) (rw e h)

pub stem : (v t : List ℕ) → is_companion_of v t ≡ true → Stem v t
stem [] [] h = itself refl
stem [] (c ∷ t) h = let both = both_true (nat_eq c 46) (is_companion_of (codes "private") t) h in first_stem c t both.0 (stem (codes "private") t both.1)
stem (x ∷ v) [] h = cc
stem (x ∷ v) (c ∷ t) h = let both = both_true (nat_eq c x) (is_companion_of v t) h in more_stem x c v t both.0 (stem v t both.1)

pub same_end : (s t : List ℕ) → companion s ≡ companion t → s ≡ t
same_end s t e =
    let long : length s + 8 ≡ length t + 8 = sym (length-append s (codes ".private")) ∙ ap length e ∙ length-append t (codes ".private") in
    let same : length s ≡ length t = omega (arith, long) in
    sym (take_prefix s (codes ".private")) ∙ ap (λ (xs : List ℕ). take (length s) xs) e ∙ ap (λ (n : ℕ). take n (companion t)) same ∙ take_prefix t (codes ".private")

pub stem_shorter : (v s t : List ℕ) → t ≡ companion s → bytes_eq t v ≡ false → Stem v t → is_companion_of v s ≡ true
stem_shorter v s t e n (itself f) = let g = (bytes_eq-Decides t v).1 f in cc
stem_shorter v s t e n (of_one u f h) = subst (λ (w : List ℕ). is_companion_of v w ≡ true) (same_end u s (sym f ∙ e)) h

stem_not : (v t : List ℕ) → ((s : List ℕ) → t ≡ companion s → ⊥) → bytes_eq t v ≡ false → Stem v t → ⊥
stem_not v t h n (itself f) = let g = (bytes_eq-Decides t v).1 f in cc
stem_not v t h n (of_one s f g) = h s f

-- a vocabulary that is named exists
pub named_exists : (vs : List (List ℕ)) (t : List ℕ) → list_any (bytes_eq t) vs ≡ true → list_any (λ v. is_companion_of v t) vs ≡ true
named_exists [] t h = h
named_exists (v ∷ vs) t h = either_true (bytes_eq t v) (list_any (bytes_eq t) vs) (is_companion_of v t) (list_any (λ v. is_companion_of v t) vs) h (stem_there v t) (named_exists vs t)

-- one that isn't exists where it is the companion of one that does
pub companion_exists : (vs : List (List ℕ)) (s t : List ℕ) → t ≡ companion s → list_any (bytes_eq t) vs ≡ false → list_any (λ v. is_companion_of v t) vs ≡ list_any (λ v. is_companion_of v s) vs
companion_exists [] s t e h = refl
companion_exists (v ∷ vs) s t e h =
    let other = or_false (bytes_eq t v) (list_any (bytes_eq t) vs) h in
    ap (λ (b : Bool). b || list_any (λ v. is_companion_of v t) vs) (same_by (is_companion_of v t) (is_companion_of v s) (λ f. stem_shorter v s t e other.0 (stem v t f)) (λ f. subst (λ (w : List ℕ). is_companion_of v w ≡ true) (sym e) (stem_longer v s f)))
    ∙ ap (λ (b : Bool). is_companion_of v s || b) (companion_exists vs s t e other.1)

pub not_exists : (vs : List (List ℕ)) (t : List ℕ) → ((s : List ℕ) → t ≡ companion s → ⊥) → list_any (bytes_eq t) vs ≡ false → list_any (λ v. is_companion_of v t) vs ≡ false
not_exists [] t h n = refl
not_exists (v ∷ vs) t h n =
    let other = or_false (bytes_eq t v) (list_any (bytes_eq t) vs) n in
    rw (false_by (is_companion_of v t) (λ f. stem_not v t h other.0 (stem v t f))) (not_exists vs t h other.1)
