-- Lists that are made from left to right.
use Rattle.std.proofs.Common.{◌≡◌, ℕ, zero, suc, ◌+◌, ◌<◌, List, [], ◌∷◌, ◌++◌, length, get_or, refl, ap, subst, ◌∙◌, arith, length-append}
use Rattle.std.proofs.lemmas.List.{get_or_append_left}
use Rattle.std.proofs.Math.Seq.{get_or-append_seam}
use Rattle.fac_abs.specs.InTurn.{in_turn, FitsInTurn}

module _ {A B : Type 0} (step : List B → A → B) where
  pub in_turn_length : (xs : List A) (bs : List B) → length (in_turn step xs bs) ≡ length bs + length xs
  in_turn_length [] bs = omega arith
  in_turn_length (a ∷ xs) bs = omega (arith, in_turn_length xs (bs ++ step bs a ∷ []), length-append bs (step bs a ∷ []))

  pub in_turn_append : (xs cs : List A) (bs : List B) → in_turn step (xs ++ cs) bs ≡ in_turn step cs (in_turn step xs bs)
  in_turn_append [] cs bs = refl
  in_turn_append (a ∷ xs) cs bs = in_turn_append xs cs (bs ++ step bs a ∷ [])

  -- what is there stays
  pub in_turn_early : (xs : List A) (bs : List B) (k : ℕ) (d : B) → k < length bs → get_or (in_turn step xs bs) k d ≡ get_or bs k d
  in_turn_early [] bs k d h = refl
  in_turn_early (a ∷ xs) bs k d h =
      let longer : k < length (bs ++ step bs a ∷ []) = omega (arith, length-append bs (step bs a ∷ [])) in
      in_turn_early xs (bs ++ step bs a ∷ []) k d longer ∙ get_or_append_left bs (step bs a ∷ []) d k h

  -- A step that looks only at places below its own makes what it makes of the whole.
  module _ (ok : ℕ → A → Type 0) (da : A) (db : B)
      (alike : (a : A) (bs cs : List B) → ok (length bs) a → ((k : ℕ) → k < length bs → get_or cs k db ≡ get_or bs k db) → step bs a ≡ step cs a) where
    pub in_turn_at : (xs : List A) (bs : List B) (n k : ℕ) → k ≡ length bs + n → n < length xs → FitsInTurn ok (length bs) xs → get_or (in_turn step xs bs) k db ≡ step (in_turn step xs bs) (get_or xs n da)
    in_turn_at [] bs n k e h f = absurd (omega arith)
    in_turn_at (a ∷ xs) bs zero k e h f =
        let whole : List B = in_turn step xs (bs ++ step bs a ∷ []) in
        let here : k ≡ length bs = omega arith in
        let long : length bs < length (bs ++ step bs a ∷ []) = omega (arith, length-append bs (step bs a ∷ [])) in
        let kept : (j : ℕ) → j < length bs → get_or whole j db ≡ get_or bs j db = λ j l. in_turn_early xs (bs ++ step bs a ∷ []) j db (omega (arith, length-append bs (step bs a ∷ []))) ∙ get_or_append_left bs (step bs a ∷ []) db j l in
        ap (λ (i : ℕ). get_or whole i db) here ∙ in_turn_early xs (bs ++ step bs a ∷ []) (length bs) db long ∙ get_or-append_seam bs (step bs a) [] db ∙ alike a bs whole f.0 kept
    in_turn_at (a ∷ xs) bs (suc n) k e h f =
        let longer : length (bs ++ step bs a ∷ []) ≡ suc (length bs) = omega (arith, length-append bs (step bs a ∷ [])) in
        let fits : FitsInTurn ok (length (bs ++ step bs a ∷ [])) xs = rw longer f.1 in
        in_turn_at xs (bs ++ step bs a ∷ []) n k (omega arith) (omega arith) fits

-- the test of one more element
module _ {A : Type 0} (ok : ℕ → A → Type 0) where
  pub fits_push : (xs : List A) (k n : ℕ) (a : A) → FitsInTurn ok k xs → n ≡ k + length xs → ok n a → FitsInTurn ok k (xs ++ a ∷ [])
  fits_push [] k n a f e h = let same : n ≡ k = omega arith in (subst (λ (i : ℕ). ok i a) same h, tt)
  fits_push (x ∷ xs) k n a f e h = (f.0, fits_push xs (suc k) n a f.1 (omega arith) h)

  pub fits_at : (xs : List A) (k n m : ℕ) (d : A) → FitsInTurn ok k xs → m ≡ k + n → n < length xs → ok m (get_or xs n d)
  fits_at [] k n m d f e h = absurd (omega arith)
  fits_at (x ∷ xs) k zero m d f e h = let same : k ≡ m = omega arith in subst (λ (i : ℕ). ok i x) same f.0
  fits_at (x ∷ xs) k (suc n) m d f e h = fits_at xs (suc k) n m d f.1 (omega arith) (omega arith)
