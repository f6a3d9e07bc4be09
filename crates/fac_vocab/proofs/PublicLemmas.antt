-- The vocabularies that aren't private.
use Rattle.std.proofs.Common.{◌≡◌, ℕ, Bool, true, false, not, cond, ◌||◌, List, [], ◌∷◌, ◌++◌, length, take, fold, refl, sym, ap, ◌∙◌, append_assoc}
use Rattle.std.specs.Prelude.{codes}
use Rattle.std.specs.List.{list_any, filter}
use Rattle.std.specs.Str.{bytes_eq}
use Rattle.std.proofs.lemmas.Slice.Eq.{bytes_eq-Decides}
use Rattle.fac_vocab.specs.Scopes.{is_private, with_vocab}
use Rattle.fac_vocab.specs.inner.PublicVocabs.{with_public, BeginsWith}
use Rattle.fac_vocab.proofs.TextLemmas.{false_by}

-- Whether a name ends in `.private`.

or_true : (b : Bool) → (b || true) ≡ true
or_true true = refl
or_true false = refl

stem_private : (stem : List ℕ) → is_private (stem ++ codes ".private") ≡ true
stem_private [] = refl
stem_private (c ∷ cs) = ap (λ (b : Bool). bytes_eq (c ∷ cs ++ codes ".private") (codes ".private") || b) (stem_private cs) ∙ or_true (bytes_eq (c ∷ cs ++ codes ".private") (codes ".private"))

pub ends_private : (text stem : List ℕ) → text ≡ stem ++ codes ".private" → true ≡ is_private text
ends_private text stem e = sym (ap is_private e ∙ stem_private stem)

private_stem : (text : List ℕ) → is_private text ≡ true → (stem : List ℕ) × (text ≡ stem ++ codes ".private")
private_stem [] h = cc
private_stem (c ∷ cs) h = one (bytes_eq (c ∷ cs) (codes ".private")) refl h (λ g. private_stem cs g)
  where
    one : (b : Bool) → bytes_eq (c ∷ cs) (codes ".private") ≡ b → (b || is_private cs) ≡ true → (is_private cs ≡ true → (stem : List ℕ) × (cs ≡ stem ++ codes ".private")) → (stem : List ℕ) × (c ∷ cs ≡ stem ++ codes ".private")
    one true e g rest = ([], (bytes_eq-Decides (c ∷ cs) (codes ".private")).0 e)
    one false e g rest = let r = rest g in (c ∷ r.0, ap (λ (xs : List ℕ). c ∷ xs) r.1)

pub ends_otherwise : (text : List ℕ) → ((stem : List ℕ) → text ≡ stem ++ codes ".private" → ⊥) → false ≡ is_private text
ends_otherwise text h = sym (false_by (is_private text) (λ e. h (private_stem text e).0 (private_stem text e).1))

-- One after another.

pub all_public : (used vocabs : List (List ℕ)) → fold with_public used vocabs ≡ fold with_vocab used (filter (λ v. not (is_private v)) vocabs)
all_public used [] = refl
all_public used (v ∷ vs) = one (is_private v) (λ u. all_public u vs)
  where
    one : (b : Bool) → ((u : List (List ℕ)) → fold with_public u vs ≡ fold with_vocab u (filter (λ v. not (is_private v)) vs)) → fold with_public (cond b used (with_vocab used v)) vs ≡ fold with_vocab used (cond (not b) (v ∷ filter (λ v. not (is_private v)) vs) (filter (λ v. not (is_private v)) vs))
    one true h = h used
    one false h = h (with_vocab used v)

-- Those that were used stay in front.

pub begins_more : (front used : List (List ℕ)) (v : List ℕ) → BeginsWith used front → BeginsWith (with_public used v) front
begins_more front used v h = one (is_private v) (list_any (bytes_eq v) used)
  where
    one : (b c : Bool) → BeginsWith (cond b used (cond c used (used ++ v ∷ []))) front
    one true c = h
    one false true = h
    one false false = (h.0 ++ v ∷ [], ap (λ (vs : List (List ℕ)). vs ++ v ∷ []) h.1 ∙ append_assoc front h.0 (v ∷ []))

pub begins_itself : (used : List (List ℕ)) → BeginsWith used used
begins_itself used = ([], sym (append_none used))
  where
    append_none : (xs : List (List ℕ)) → xs ++ [] ≡ xs
    append_none [] = refl
    append_none (x ∷ xs) = ap (λ (ys : List (List ℕ)). x ∷ ys) (append_none xs)

pub front_taken : (front all : List (List ℕ)) → BeginsWith all front → take (length front) all ≡ front
front_taken front all h = ap (take (length front)) h.1 ∙ take_front front h.0
  where
    take_front : (xs ys : List (List ℕ)) → take (length xs) (xs ++ ys) ≡ xs
    take_front [] ys = refl
    take_front (x ∷ xs) ys = ap (λ (zs : List (List ℕ)). x ∷ zs) (take_front xs ys)
