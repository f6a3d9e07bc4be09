-- A token in groups by length is in that of its length.
use Rattle.std.proofs.Common.{◌≡◌, ◌∙◌, ℕ, ◌+◌, ◌<◌, Bool, true, false, cond, List, [], ◌∷◌, ◌++◌, Option, Some, None, length, map, refl, ap, sym, arith}
use Rattle.std.specs.Prelude.{suc, zero, ◌&&◌, nat_eq, slice_get}
use Rattle.std.specs.Option.{option_map}
use Rattle.std.specs.Str.{bytes_eq}
use Rattle.std.proofs.lemmas.Bool.{eqb-true}
use Rattle.std.proofs.lemmas.Slice.Eq.{bytes_eq-Decides}
use Rattle.fac_effect.specs.declared.spelling.Spelling.{Spelling}
use Rattle.fac_effect.specs.Spellings.{sign_among, in_groups}
use Rattle.fac_effect.specs.inner.Groups.{are_of_length, are_by_length}

abbrev or_later : Option Spelling → Option Spelling → Option Spelling
or_later (Some s) later = Some s
or_later None later = later

both : (a b : Bool) → (a && b) ≡ true → (a ≡ true) × (b ≡ true)
both true b h = (refl, h)
both false b h = cc

same_number : (m n : ℕ) → nat_eq m n ≡ true → m ≡ n
same_number m n h = eqb-true m n h

-- a token of another length isn't in the group
one_other : (text sign : List ℕ) (n : ℕ) (s : Spelling) (rest : Option Spelling) (b : Bool) → bytes_eq text sign ≡ b → length sign ≡ n → (length text ≡ n → ⊥) → rest ≡ None → cond b (Some s) rest ≡ None
one_other text sign n s rest true is long other none = absurd (other (ap length ((bytes_eq-Decides text sign).0 is) ∙ long))
one_other text sign n s rest false is long other none = none

not_in : (text : List ℕ) (n : ℕ) (g : List (List ℕ × Spelling)) → are_of_length n g ≡ true → (length text ≡ n → ⊥) → sign_among g text ≡ None
not_in text n [] h other = refl
not_in text n (s ∷ ss) h other =
    let parts = both (nat_eq (length s.0) n) (are_of_length n ss) h in
    one_other text s.0 n s.1 (sign_among ss text) (bytes_eq text s.0) refl (same_number (length s.0) n parts.0) other (not_in text n ss parts.1 other)

among_picked : (b : Bool) (s : Spelling) (a rest later : Option Spelling) → a ≡ or_later rest later → cond b (Some s) a ≡ or_later (cond b (Some s) rest) later
among_picked true s a rest later h = refl
among_picked false s a rest later h = h

among_append : (g rest : List (List ℕ × Spelling)) (text : List ℕ) → sign_among (g ++ rest) text ≡ or_later (sign_among g text) (sign_among rest text)
among_append [] rest text = refl
among_append (s ∷ ss) rest text = among_picked (bytes_eq text s.0) s.1 (sign_among (ss ++ rest) text) (sign_among ss text) (sign_among rest text) (among_append ss rest text)

-- a token that is shorter than those of each group is in none of them
none_longer : (n : ℕ) (gs : List (List (List ℕ × Spelling))) (text : List ℕ) → are_by_length n gs ≡ true → length text < n → sign_among (in_groups gs) text ≡ None
none_longer n [] text h short = refl
none_longer n (g ∷ gs) text h short =
    let parts = both (are_of_length n g) (are_by_length (suc n) gs) h in
    among_append g (in_groups gs) text
    ∙ ap (λ (o : Option Spelling). or_later o (sign_among (in_groups gs) text)) (not_in text n g parts.0 (λ e. omega (arith, short, e)))
    ∙ none_longer (suc n) gs text parts.1 (omega (arith, short))

or_none : (o later : Option Spelling) → later ≡ None → or_later o later ≡ o
or_none (Some s) later h = refl
or_none None later h = h

abbrev pub in_group : Option (List (List ℕ × Spelling)) → List ℕ → Option Spelling
in_group None text = None
in_group (Some g) text = sign_among g text

in_its_group : (n : ℕ) (gs : List (List (List ℕ × Spelling))) (text : List ℕ) (k : ℕ) → are_by_length n gs ≡ true → length text ≡ n + k → sign_among (in_groups gs) text ≡ in_group (slice_get gs k) text
in_its_group n [] text k h e = refl
in_its_group n (g ∷ gs) text zero h e =
    let parts = both (are_of_length n g) (are_by_length (suc n) gs) h in
    among_append g (in_groups gs) text ∙ or_none (sign_among g text) (sign_among (in_groups gs) text) (none_longer (suc n) gs text parts.1 (omega (arith, e)))
in_its_group n (g ∷ gs) text (suc k) h e =
    let parts = both (are_of_length n g) (are_by_length (suc n) gs) h in
    among_append g (in_groups gs) text
    ∙ ap (λ (o : Option Spelling). or_later o (sign_among (in_groups gs) text)) (not_in text n g parts.0 (λ same. omega (arith, e, same)))
    ∙ in_its_group (suc n) gs text k parts.1 (omega (arith, e))

seen_at : {A : Type 0} → (f : A → List (List ℕ × Spelling)) (xs : List A) (k : ℕ) (text : List ℕ) → in_group (slice_get (map f xs) k) text ≡ in_group (option_map f (slice_get xs k)) text
seen_at f [] k text = refl
seen_at f (x ∷ xs) zero text = refl
seen_at f (x ∷ xs) (suc k) text = seen_at f xs k text

-- It is looked for in the group of its length alone, whatever the groups are kept as.
pub group_of_length : {A : Type 0} → (f : A → List (List ℕ × Spelling)) (xs : List A) (text : List ℕ) (o : Option A) → are_by_length 0 (map f xs) ≡ true → o ≡ slice_get xs (length text) → sign_among (in_groups (map f xs)) text ≡ in_group (option_map f o) text
group_of_length {A = A} f xs text o h is =
    in_its_group 0 (map f xs) text (length text) h (omega arith) ∙ seen_at f xs (length text) text ∙ ap (λ (o : Option A). in_group (option_map f o) text) (sym is)
