-- Whether a text is among keys, and among their bytes.
use Rattle.std.proofs.Common.{◌≡◌, Bool, true, false, List, [], ◌∷◌, ◌++◌, map, refl, arith, if◌then◌else◌, string_bytes, String}
use Rattle.std.specs.List.{list_any}
use Rattle.std.proofs.lemmas.List.{map-append}
use Rattle.std.specs.Str.{bytes_eq}
use Rattle.fac_vocab.specs.Scopes.{with_vocab}

module _ {K B : Type 0} (f : K → B) (p : B → Bool) where
  pub list_any_map : (keys : List K) → list_any p (map f keys) ≡ list_any (λ k. p (f k)) keys
  list_any_map [] = refl
  list_any_map (k ∷ keys) = let ih = list_any_map keys in grind (arith, ih)

module _ {K : Type 0} {B : Type 0} (f : K → B) where
  map_if : (b : Bool) (xs ys : List K) → map f (if b then xs else ys) ≡ (if b then map f xs else map f ys)
  map_if true xs ys = refl
  map_if false xs ys = refl

module _ {A : Type 0} where
  pub with_vocab_map : (keys : List (String A)) (k : String A) → map string_bytes (if list_any (λ x. bytes_eq (string_bytes k) (string_bytes x)) keys then keys else keys ++ k ∷ []) ≡ with_vocab (map string_bytes keys) (string_bytes k)
  with_vocab_map keys k = rw (list_any_map string_bytes (bytes_eq (string_bytes k)) keys, map_if string_bytes, map-append string_bytes) refl
