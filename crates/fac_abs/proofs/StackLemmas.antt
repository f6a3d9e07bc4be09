-- The stacks that stack nodes make.
use Rattle.std.proofs.Common.{◌≡◌, ℕ, zero, suc, ◌+◌, ◌-◌, ◌<◌, ◌≤◌, List, [], ◌∷◌, ◌++◌, Bool, true, false, ◌&&◌, ◌||◌, nat_eq, Some, None, length, drop, get_or, slice_get, map, refl, sym, ap, subst, ◌∙◌, arith, length-append, eq-eqb}
use Rattle.std.proofs.lemmas.List.{get_or_append_left, get_or-map}
use Rattle.std.proofs.Math.Seq.{get_or-append_seam}
use Rattle.fac_lang.specs.Procedures.{or_else, picked}
use Rattle.fac_abs.specs.declared.stack_nodes.StackNode.{StackNode}
use Rattle.fac_abs.specs.InTurn.{under, taken}
use Rattle.fac_abs.specs.inner.Stacks.{zeros, joined_numbers, cover_numbers}
use Rattle.fac_abs.specs.inner.Keeping.{Keeps, IsStackWith, Going}
use Rattle.fac_abs.specs.Marks.{piled}
use Rattle.fac_abs.specs.inner.Stacks.{stack_made, stacks_of, said_height, TellHeights, LiesOnEarlier, LieOnEarlier}
use Rattle.fac_abs.proofs.InTurnLemmas.{in_turn_length, in_turn_append, in_turn_early, in_turn_at, fits_push, fits_at}

pub keeps_refl : (ss : List (List ℕ)) → Keeps ss ss
keeps_refl ss = record { longer = omega arith; same = λ k h. refl }

pub keeps_trans : (rs ss ts : List (List ℕ)) → Keeps rs ss → Keeps ss ts → Keeps rs ts
keeps_trans rs ss ts f g =
    let shorter = f.longer in
    record { longer = omega (arith, f.longer, g.longer); same = λ k h. g.same k (omega (arith, f.longer)) ∙ f.same k h }

pub keeps_push : (ss : List (List ℕ)) (xs : List ℕ) → Keeps ss (ss ++ xs ∷ [])
keeps_push ss xs = record { longer = omega (arith, length-append ss (xs ∷ [])); same = λ k h. get_or_append_left ss (xs ∷ []) [] k h }

pub is_push : (ss : List (List ℕ)) (xs : List ℕ) → IsStackWith (ss ++ xs ∷ []) (length ss) xs
is_push ss xs = record { within = omega (arith, length-append ss (xs ∷ [])); marks_are = get_or-append_seam ss xs [] [] }

pub stacks_length : (stack_nodes : List StackNode) → length (stacks_of stack_nodes) ≡ suc (length stack_nodes)
stacks_length stack_nodes = omega (arith, in_turn_length stack_made stack_nodes ([] ∷ []))

pub stack_zero : (stack_nodes : List StackNode) → get_or (stacks_of stack_nodes) 0 [] ≡ []
stack_zero stack_nodes = in_turn_early stack_made stack_nodes ([] ∷ []) 0 [] (omega arith)

covered_alike : (c : StackNode) (xs ys : List (List ℕ)) → LiesOnEarlier (length xs) c → ((k : ℕ) → k < length xs → get_or ys k [] ≡ get_or xs k []) → stack_made xs c ≡ stack_made ys c
covered_alike c xs ys h e = rw (e c.below h) refl

module _ (d : StackNode) (stack_nodes : List StackNode) where
  pub stack_at : (s : ℕ) → LieOnEarlier stack_nodes → 0 < s → s < suc (length stack_nodes) → get_or (stacks_of stack_nodes) s [] ≡ stack_made (stacks_of stack_nodes) (get_or stack_nodes (s - 1) d)
  stack_at s f h l = in_turn_at stack_made LiesOnEarlier d [] covered_alike stack_nodes ([] ∷ []) (s - 1) s (omega arith) (omega arith) f

  pub below_within : (s : ℕ) → LieOnEarlier stack_nodes → 0 < s → s < suc (length stack_nodes) → (get_or stack_nodes (s - 1) d).below < s
  below_within s f h l = fits_at LiesOnEarlier stack_nodes 1 (s - 1) s d f (omega arith) (omega arith)

  height_next : (k : ℕ) → TellHeights stack_nodes → k < length stack_nodes → (get_or stack_nodes k d).height ≡ length (get_or (stacks_of stack_nodes) (suc k) [])
  height_next k f l =
      sym (get_or-map said_height stack_nodes k d 0 l) ∙ ap (λ (hs : List ℕ). get_or hs (suc k) 0) f ∙ get_or-map length (stacks_of stack_nodes) (suc k) [] 0 (omega (arith, stacks_length stack_nodes))

  pub height_at : (s : ℕ) → TellHeights stack_nodes → 0 < s → s < suc (length stack_nodes) → (get_or stack_nodes (s - 1) d).height ≡ length (get_or (stacks_of stack_nodes) s [])
  height_at s f h l =
      let next : suc (s - 1) ≡ s = omega arith in
      height_next (s - 1) f (omega arith) ∙ ap (λ (k : ℕ). length (get_or (stacks_of stack_nodes) k [])) next

-- no stack is higher than its number
not_higher : (stack_nodes : List StackNode) (f s : ℕ) → s ≤ f → LieOnEarlier stack_nodes → s < suc (length stack_nodes) → length (get_or (stacks_of stack_nodes) s []) ≤ s
not_higher stack_nodes f zero l h k =
    let e : length (get_or (stacks_of stack_nodes) 0 []) ≡ 0 = ap length (stack_zero stack_nodes) in
    omega (arith, e)
not_higher stack_nodes zero (suc s) l h k = absurd (omega (arith, l))
not_higher stack_nodes (suc f) (suc s) l h k =
    let d : StackNode = record { mark = 0; below = 0; height = 0 } in
    let b : ℕ = (get_or stack_nodes (suc s - 1) d).below in
    let low : b < suc s = below_within d stack_nodes (suc s) h (omega arith) k in
    let so_far = not_higher stack_nodes f b (omega (arith, low, l)) h (omega (arith, low, k)) in
    let e : length (get_or (stacks_of stack_nodes) (suc s) []) ≡ suc (length (get_or (stacks_of stack_nodes) b [])) = ap length (stack_at d stack_nodes (suc s) h (omega arith) k) in
    omega (arith, e, so_far, low)

pub low_height : (stack_nodes : List StackNode) (ss : List (List ℕ)) (s : ℕ) → stacks_of stack_nodes ≡ ss → LieOnEarlier stack_nodes → s < length ss → length (get_or ss s []) ≤ s
low_height stack_nodes ss s e h l =
    let long : suc (length stack_nodes) ≡ length ss = sym (stacks_length stack_nodes) ∙ ap length e in
    subst (λ (ts : List (List ℕ)). length (get_or ts s []) ≤ s) e (not_higher stack_nodes s s (omega arith) h (omega (arith, long, l)))

pub map_push : {A B : Type 0} (f : A → B) (xs : List A) (x : A) → map f (xs ++ x ∷ []) ≡ map f xs ++ f x ∷ []
map_push f [] x = refl
map_push f (y ∷ xs) x = ap (λ t. f y ∷ t) (map_push f xs x)

pub stacks_push : (stack_nodes : List StackNode) (c : StackNode) → stacks_of (stack_nodes ++ c ∷ []) ≡ stacks_of stack_nodes ++ stack_made (stacks_of stack_nodes) c ∷ []
stacks_push stack_nodes c = in_turn_append stack_made stack_nodes (c ∷ []) ([] ∷ [])

pub tell_push : (stack_nodes : List StackNode) (c : StackNode) → TellHeights stack_nodes → c.height ≡ suc (length (get_or (stacks_of stack_nodes) c.below [])) → TellHeights (stack_nodes ++ c ∷ [])
tell_push stack_nodes c f e = ap (λ t. 0 ∷ t) (map_push said_height stack_nodes c) ∙ ap (λ t. t ++ c.height ∷ []) f ∙ ap (λ t. map length (stacks_of stack_nodes) ++ t ∷ []) e ∙ sym (map_push length (stacks_of stack_nodes) (stack_made (stacks_of stack_nodes) c)) ∙ ap (map length) (sym (stacks_push stack_nodes c))

pub lie_push : (stack_nodes : List StackNode) (c : StackNode) → LieOnEarlier stack_nodes → c.below < suc (length stack_nodes) → LieOnEarlier (stack_nodes ++ c ∷ [])
lie_push stack_nodes c f h = fits_push LiesOnEarlier stack_nodes 1 (suc (length stack_nodes)) c f (omega arith) h

-- A read of a stack node, where the stacks go by another name.
module _ (d : StackNode) (given stack_nodes : List StackNode) (ss : List (List ℕ)) (s : ℕ) (e : given ≡ stack_nodes) (v : stacks_of stack_nodes ≡ ss) where
  few : s < length ss → s < suc (length stack_nodes)
  few h = let n : length (stacks_of stack_nodes) ≡ length ss = ap length v in omega (arith, stacks_length stack_nodes)

  pub height_read : TellHeights stack_nodes → 0 < s → s < length ss → (get_or given (s - 1) d).height ≡ length (get_or ss s [])
  height_read f h l = ap (λ (xs : List StackNode). (get_or xs (s - 1) d).height) e ∙ height_at d stack_nodes s f h (few l) ∙ ap (λ (t : List (List ℕ)). length (get_or t s [])) v

  read_at : LieOnEarlier stack_nodes → 0 < s → s < length ss → (let c : StackNode = get_or stack_nodes (s - 1) d in (c.below < length ss) × (get_or ss s [] ≡ c.mark ∷ get_or ss c.below []))
  read_at f h l =
      let lower = below_within d stack_nodes s f h (few l) in
      let c : StackNode = get_or stack_nodes (s - 1) d in
      (omega arith, sym (ap (λ (t : List (List ℕ)). get_or t s []) v) ∙ stack_at d stack_nodes s f h (few l) ∙ ap (λ (t : List (List ℕ)). c.mark ∷ get_or t c.below []) v)

  pub pop_read : LieOnEarlier stack_nodes → 0 < s → s < length ss → (let c : StackNode = get_or given (s - 1) d in (c.below < length ss) × (get_or ss s [] ≡ c.mark ∷ get_or ss c.below []))
  pop_read f h l =
      subst (λ (xs : List StackNode). ((get_or xs (s - 1) d).below < length ss) × (get_or ss s [] ≡ (get_or xs (s - 1) d).mark ∷ get_or ss (get_or xs (s - 1) d).below [])) (sym e) (read_at f h l)

-- One stack node more, where the stacks go by another name.
module _ (stack_nodes new : List StackNode) (c : StackNode) (ss : List (List ℕ)) (e : new ≡ stack_nodes ++ c ∷ []) (v : stacks_of stack_nodes ≡ ss) where
  pub pushed_tell : TellHeights stack_nodes → c.height ≡ suc (length (get_or ss c.below [])) → TellHeights new
  pushed_tell f h = subst TellHeights (sym e) (tell_push stack_nodes c f (h ∙ ap (λ (t : List (List ℕ)). suc (length (get_or t c.below []))) (sym v)))

  pub pushed_lie : LieOnEarlier stack_nodes → c.below < length ss → LieOnEarlier new
  pushed_lie f h = let n : length (stacks_of stack_nodes) ≡ length ss = ap length v in subst LieOnEarlier (sym e) (lie_push stack_nodes c f (omega (arith, stacks_length stack_nodes)))

  new_stacks : stacks_of new ≡ ss ++ (c.mark ∷ get_or ss c.below []) ∷ []
  new_stacks = ap stacks_of e ∙ stacks_push stack_nodes c ∙ ap (λ (t : List (List ℕ)). t ++ (c.mark ∷ get_or t c.below []) ∷ []) v

  pub pushed_keeps : Keeps ss (stacks_of new)
  pushed_keeps = subst (λ (t : List (List ℕ)). Keeps ss t) (sym new_stacks) (keeps_push ss (c.mark ∷ get_or ss c.below []))

  pub pushed_is : (n : ℕ) → n ≡ length stack_nodes → IsStackWith (stacks_of new) (n + 1) (c.mark ∷ get_or ss c.below [])
  pushed_is n h =
      let k : length (stacks_of stack_nodes) ≡ length ss = ap length v in
      let place : n + 1 ≡ length ss = omega (arith, stacks_length stack_nodes) in
      rw place (subst (λ (t : List (List ℕ)). IsStackWith t (length ss) (c.mark ∷ get_or ss c.below [])) (sym new_stacks) (is_push ss (c.mark ∷ get_or ss c.below [])))

-- Steps of loops.
pub zeros_step : (n : ℕ) (xs : List ℕ) → 0 < n → zeros n xs ≡ zeros (n - 1) (0 ∷ xs)
zeros_step zero xs h = absurd (omega arith)
zeros_step (suc n) xs h = let e : suc n - 1 ≡ n = omega arith in rw e refl

pub under_step : (n : ℕ) (x : ℕ) (xs : List ℕ) → 0 < n → under n (x ∷ xs) ≡ under (n - 1) xs
under_step zero x xs h = absurd (omega arith)
under_step (suc n) x xs h = let e : suc n - 1 ≡ n = omega arith in rw e refl

pub under_none : (n : ℕ) (xs : List ℕ) → 0 < n → xs ≡ [] → under n xs ≡ None
under_none zero xs h e = absurd (omega arith)
under_none (suc n) xs h e = rw e refl

pub joined_same : (xs : List ℕ) → joined_numbers xs xs ≡ xs
joined_same [] = refl
joined_same (x ∷ xs) = let ih = joined_same xs in grind (arith, ih)

-- numbers cover themselves
pub covers_same : (xs : List ℕ) → cover_numbers xs xs ≡ true
covers_same [] = refl
covers_same (x ∷ xs) = rw (eq-eqb x x refl) (either (nat_eq x 0) (covers_same xs))
  where
    either : (b : Bool) → cover_numbers xs xs ≡ true → ((b || true) && cover_numbers xs xs) ≡ true
    either true e = e
    either false e = e

-- What a shuffle takes.

pub below_some : (n : ℕ) (xs ys zs : List ℕ) (m : ℕ) → under n xs ≡ Some ys → ys ≡ m ∷ zs → m ≡ get_or xs n 0
below_some zero xs ys zs m e f = (let g : xs ≡ m ∷ zs = cc in rw g refl)
below_some (suc n) [] ys zs m e f = absurd (cc)
below_some (suc n) (x ∷ xs) ys zs m e f = below_some n xs ys zs m e f

pub below_empty : (n : ℕ) (xs ys : List ℕ) → under n xs ≡ Some ys → ys ≡ [] → 0 ≡ get_or xs n 0
below_empty zero xs ys e f = (let g : xs ≡ [] = cc in rw g refl)
below_empty (suc n) [] ys e f = refl
below_empty (suc n) (x ∷ xs) ys e f = below_empty n xs ys e f

pub below_none : (n : ℕ) (xs : List ℕ) → under n xs ≡ None → 0 ≡ get_or xs n 0
below_none zero xs e = absurd (cc)
below_none (suc n) [] e = refl
below_none (suc n) (x ∷ xs) e = below_none n xs e

-- what was taken before lies behind the first n
taken_behind : (n : ℕ) (before xs : List ℕ) (j k : ℕ) → n ≤ length xs → k ≡ n + j → slice_get (taken n before xs) k ≡ slice_get before j
taken_behind zero before xs j k h e = (let same : k ≡ j = omega (arith, e) in ap (λ (i : ℕ). slice_get before i) same)
taken_behind (suc n) before [] j k h e = absurd (omega (arith, h))
taken_behind (suc n) before (x ∷ xs) j k h e = taken_behind n (x ∷ before) xs (suc j) k (omega (arith, h)) (omega (arith, e))

taken_within : (n : ℕ) (before xs : List ℕ) (j k : ℕ) → n ≤ length xs → k + suc j ≡ n → or_else 0 (slice_get (taken n before xs) k) ≡ get_or xs j 0
taken_within zero before xs j k h e = absurd (omega (arith, e))
taken_within (suc n) before [] j k h e = absurd (omega (arith, h))
taken_within (suc n) before (x ∷ xs) zero k h e = ap (or_else 0) (taken_behind n (x ∷ before) xs 0 k (omega (arith, h)) (omega (arith, e)))
taken_within (suc n) before (x ∷ xs) (suc j) k h e = taken_within n (x ∷ before) xs j k (omega (arith, h)) (omega (arith, e))

-- the value at a place of the first n is that below so many
pub place_within : (n k : ℕ) (xs : List ℕ) → n ≤ length xs → k < n → get_or xs (n - 1 - k) 0 ≡ or_else 0 (slice_get (taken n [] xs) k)
place_within n k xs h l = sym (taken_within n [] xs (n - 1 - k) k h (omega (arith, l)))

-- and no other place has one
pub place_past : (n k : ℕ) (xs : List ℕ) → n ≤ length xs → n ≤ k → 0 ≡ or_else 0 (slice_get (taken n [] xs) k)
place_past n k xs h l = sym (ap (or_else 0) (taken_behind n [] xs (k - n) k h (omega (arith, l))))

-- what a shuffle takes is there, also once some is put back
pub still_enough : (before now : List (List ℕ)) (stack n : ℕ) (ys : List ℕ) → Keeps before now → stack < length before → under n (get_or before stack []) ≡ Some ys → n ≤ length (get_or now stack [])
still_enough before now stack n ys k h e = rw (k.same stack h) (enough n (get_or before stack []) ys e)
  where
    enough : (m : ℕ) (xs zs : List ℕ) → under m xs ≡ Some zs → m ≤ length xs
    enough zero xs zs e = omega arith
    enough (suc m) [] zs e = absurd (cc)
    enough (suc m) (x ∷ xs) zs e = (let more = enough m xs zs e in omega arith)

-- one value is put back
pub shuffle_step : (before now after : List (List ℕ)) (stack top next n mark place i : ℕ) (places wanted : List ℕ) → stack < length before → Going before now top (piled (picked 0 (taken n [] (get_or before stack [])) (drop i places)) (get_or now top [])) wanted → drop i places ≡ place ∷ drop (i + 1) places → mark ≡ or_else 0 (slice_get (taken n [] (get_or now stack [])) place) → Keeps now after → IsStackWith after next (mark ∷ get_or now top []) → Going before after next (piled (picked 0 (taken n [] (get_or before stack [])) (drop (i + 1) places)) (get_or after next [])) wanted
shuffle_step before now after stack top next n mark place i places wanted h g e m k is =
    let row : List ℕ = taken n [] (get_or before stack []) in
    let rest : List ℕ = picked 0 row (drop (i + 1) places) in
    let same : mark ≡ or_else 0 (slice_get row place) = m ∙ ap (λ (xs : List ℕ). or_else 0 (slice_get (taken n [] xs) place)) (g.keeps.same stack h) in
    record {
      keeps = keeps_trans before now after g.keeps k;
      within = is.within;
      same = ap (piled rest) is.marks_are ∙ ap (λ (j : ℕ). piled rest (j ∷ get_or now top [])) same ∙ ap (λ (ks : List ℕ). piled (picked 0 row ks) (get_or now top [])) (sym e) ∙ g.same;
    }
