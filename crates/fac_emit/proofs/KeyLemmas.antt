-- Texts among keys, and among their bytes.
use Rattle.std.proofs.Common.{◌≡◌, Bool, true, false, ℕ, List, [], ◌∷◌, ◌++◌, length, map, cond, Some, None, refl, ap, arith, if◌then◌else◌, string_bytes, String}
use Rattle.std.specs.List.{list_any, position, position_or_len}
use Rattle.std.specs.Prelude.{nat_lt, not}
use Rattle.std.proofs.lemmas.List.Sums.{prefix_len-le-length}
use Rattle.std.specs.Str.{bytes_eq}
use Rattle.fac_emit.specs.ProgramTexts.{with_text}

module _ {K B : Type 0} (f : K → B) (p : B → Bool) where
  pub list_any_map : (keys : List K) → list_any p (map f keys) ≡ list_any (λ k. p (f k)) keys
  list_any_map [] = refl
  list_any_map (k ∷ keys) = let ih = list_any_map keys in grind (arith, ih)

  step_map : (b : Bool) (k : K) (keys : List K) → p (f k) ≡ b → position_or_len p (map f keys) ≡ position_or_len (λ k. p (f k)) keys → position_or_len p (map f (k ∷ keys)) ≡ position_or_len (λ k. p (f k)) (k ∷ keys)
  step_map true k keys e ih = rw e refl
  step_map false k keys e ih = rw (e, ih) refl

  pub position_map : (keys : List K) → position_or_len p (map f keys) ≡ position_or_len (λ k. p (f k)) keys
  position_map [] = refl
  position_map (k ∷ keys) = step_map (p (f k)) k keys refl (position_map keys)

module _ {K : Type 0} {B : Type 0} (f : K → B) where
  pub map_push : (keys : List K) (k : K) → map f (keys ++ k ∷ []) ≡ map f keys ++ f k ∷ []
  map_push [] k = refl
  map_push (x ∷ keys) k = ap (λ (t : List B). f x ∷ t) (map_push keys k)

  map_if : (b : Bool) (xs ys : List K) → map f (if b then xs else ys) ≡ (if b then map f xs else map f ys)
  map_if true xs ys = refl
  map_if false xs ys = refl

module _ {A : Type 0} where
  pub with_text_map : (keys : List (String A)) (k : String A) → map string_bytes (if list_any (λ x. bytes_eq (string_bytes k) (string_bytes x)) keys then keys else keys ++ k ∷ []) ≡ with_text (map string_bytes keys) (string_bytes k)
  with_text_map keys k = rw (list_any_map string_bytes (bytes_eq (string_bytes k)) keys, map_if string_bytes, map_push string_bytes) refl

-- a place that was found, and none
pub place_found : {K : Type 0} (p : K → Bool) (keys : List K) (i : ℕ) → Some i ≡ position p keys → i ≡ position_or_len p keys
place_found p keys i e = by (nat_lt (position_or_len p keys) (length keys)) e
  where
    by : (b : Bool) → Some i ≡ cond b (Some (position_or_len p keys)) None → i ≡ position_or_len p keys
    by true e = cc
    by false e = absurd (cc)

pub no_place : {K : Type 0} (p : K → Bool) (keys : List K) → None ≡ position p keys → length keys ≡ position_or_len p keys
no_place p keys e = by (nat_lt (position_or_len p keys) (length keys)) refl e
  where
    by : (b : Bool) → nat_lt (position_or_len p keys) (length keys) ≡ b → None ≡ cond b (Some (position_or_len p keys)) None → length keys ≡ position_or_len p keys
    by true is e = absurd (cc)
    by false is e = let low = prefix_len-le-length (λ x. not (p x)) keys in grind (arith, is, low)
