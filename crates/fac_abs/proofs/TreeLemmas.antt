-- Numbers of a table stand for different marks.
use Rattle.std.proofs.Common.{◌≡◌, ℕ, zero, suc, ◌<◌, ◌≤◌, List, [], ◌∷◌, ◌++◌, Bool, true, ◌&&◌, nat_lt, max, length, get_or, map, refl, sym, ap, ◌∙◌, arith}
use Rattle.std.proofs.lemmas.Bool.{ltb-true}
use Rattle.std.proofs.Math.ListN.{get_or-map}
use Rattle.fac_lang.specs.Phrases.{Mark, any}
use Rattle.fac_abs.specs.declared.mark_node.MarkNode.{MarkNode}
use Rattle.fac_abs.specs.declared.mark_node.MarkNode.TheVariants.{Any, Lit, Cur, Com, Wrd, Par}
use Rattle.fac_abs.specs.InTurn.{in_turn, FitsInTurn}
use Rattle.fac_abs.specs.Marks.{mark_depth, deepest}
use Rattle.fac_abs.specs.MarkTrees.{Naming, tree, trees}
use Rattle.fac_abs.specs.SeenMarks.{are_below}
use Rattle.fac_abs.specs.inner.Framing.{AreDistinct}
use Rattle.fac_abs.specs.inner.Interning.{HasPartsBelow, IsOrdered, IsTable, deepest_of}
use Rattle.fac_abs.proofs.EqualMarks.{and_first, and_second}
use Rattle.fac_abs.proofs.FrameLemmas.{distinct_at}
use Rattle.fac_abs.proofs.InTurnLemmas.{in_turn_length, in_turn_at, fits_at}

-- lists of numbers below k are mapped alike by what is alike below k
pub map_below : {B : Type 0} (f g : ℕ → B) (k : ℕ) (ms : List ℕ) → ((m : ℕ) → m < k → f m ≡ g m) → are_below k ms ≡ true → map f ms ≡ map g ms
map_below f g k [] same e = refl
map_below f g k (m ∷ ms) same e = rw (same m (ltb-true m k (and_first (nat_lt m k) _ e)), map_below f g k ms same (and_second (nat_lt m k) _ e)) refl

-- and are one list where their maps are one, and what maps to one is one
map_apart : (f : ℕ → Mark) (i j : ℕ) (ms ns : List ℕ) → ((a b : ℕ) → a < i → b < j → f a ≡ f b → a ≡ b) → are_below i ms ≡ true → are_below j ns ≡ true → map f ms ≡ map f ns → ms ≡ ns
map_apart f i j [] [] apart h g e = refl
map_apart f i j [] (n ∷ ns) apart h g e = absurd (cc)
map_apart f i j (m ∷ ms) [] apart h g e = absurd (cc)
map_apart f i j (m ∷ ms) (n ∷ ns) apart h g e =
    let first : f m ≡ f n = cc in
    let rest : map f ms ≡ map f ns = cc in
    rw (apart m n (ltb-true m i (and_first (nat_lt m i) _ h)) (ltb-true n j (and_first (nat_lt n j) _ g)) first, map_apart f i j ms ns apart (and_second (nat_lt m i) _ h) (and_second (nat_lt n j) _ g) rest) refl

module _ (N : Naming) (templates : ℕ) (frames : List (List ℕ)) where
  -- a node's mark depends on its parts alone
  pub tree_alike : (n : MarkNode) (xs ys : List Mark) → HasPartsBelow templates frames (length xs) n → ((k : ℕ) → k < length xs → get_or ys k any ≡ get_or xs k any) → tree N frames xs n ≡ tree N frames ys n
  tree_alike Any xs ys h e = refl
  tree_alike (Lit q f) xs ys h e = rw (map_below (λ (m : ℕ). get_or ys m any) (λ (m : ℕ). get_or xs m any) (length xs) (get_or frames f []) e h.2) refl
  tree_alike (Cur a b) xs ys h e = rw (e a h.0, e b h.1) refl
  tree_alike (Com a b) xs ys h e = rw (e a h.0, e b h.1) refl
  tree_alike (Wrd w) xs ys h e = refl
  tree_alike (Par k) xs ys h e = refl

  pub trees_length : (ns : List MarkNode) → length (trees N frames ns) ≡ length ns
  trees_length ns = omega (arith, in_turn_length (tree N frames) ns [])

  -- the mark of a number is that of its node
  pub tree_at : (ns : List MarkNode) (m : ℕ) → IsOrdered templates frames ns → m < length ns → get_or (trees N frames ns) m any ≡ tree N frames (trees N frames ns) (get_or ns m Any)
  tree_at ns m f h = in_turn_at (tree N frames) (HasPartsBelow templates frames) Any any tree_alike ns [] m m (omega arith) h f

  -- Two nodes with one mark are one node, where their parts are told apart.
  same_node : AreDistinct frames → (made : List Mark) (i j : ℕ) (n r : MarkNode) → HasPartsBelow templates frames i n → HasPartsBelow templates frames j r → ((a b : ℕ) → a < i → b < j → get_or made a any ≡ get_or made b any → a ≡ b) → tree N frames made n ≡ tree N frames made r → n ≡ r
  same_node apart made i j Any Any h g parts e = refl
  same_node apart made i j (Lit q f) (Lit r u) h g parts e =
      let reads : ℕ → Mark = λ m. get_or made m any in
      let named : N.literal q ≡ N.literal r = cc in
      let one : q ≡ r = N.apart q r named in
      let phrases : N.phrase q (map reads (get_or frames f [])) ≡ N.phrase r (map reads (get_or frames u [])) = cc in
      let cells : map reads (get_or frames f []) ≡ map reads (get_or frames u []) = N.cells_apart q _ _ (phrases ∙ ap (λ (k : ℕ). N.phrase k (map reads (get_or frames u []))) (sym one)) in
      let lists : get_or frames f [] ≡ get_or frames u [] = map_apart reads i j (get_or frames f []) (get_or frames u []) parts h.2 g.2 cells in
      rw (one, distinct_at frames apart f u h.1 g.1 lists) refl
  same_node apart made i j (Cur a b) (Cur c d) h g parts e =
      let first : get_or made a any ≡ get_or made c any = cc in
      let second : get_or made b any ≡ get_or made d any = cc in
      rw (parts a c h.0 g.0 first, parts b d h.1 g.1 second) refl
  same_node apart made i j (Com a b) (Com c d) h g parts e =
      let first : get_or made a any ≡ get_or made c any = cc in
      let second : get_or made b any ≡ get_or made d any = cc in
      rw (parts a c h.0 g.0 first, parts b d h.1 g.1 second) refl
  same_node apart made i j (Wrd v) (Wrd w) h g parts e = let same : v ≡ w = cc in ap Wrd same
  same_node apart made i j (Par k) (Par l) h g parts e = let same : k ≡ l = cc in ap Par same
  same_node apart made i j _ _ h g parts e = absurd (cc)

  -- Numbers below a bound that stand for one mark are one number.
  same_below : AreDistinct frames → (ns : List MarkNode) → IsTable ns → IsOrdered templates frames ns → (bound i j : ℕ) → i < bound → i < length ns → j < length ns → get_or (trees N frames ns) i any ≡ get_or (trees N frames ns) j any → i ≡ j
  same_below apart ns t o zero i j h a b e = absurd (omega arith)
  same_below apart ns t o (suc bound) i j h a b e =
      let n : MarkNode = get_or ns i Any in
      let r : MarkNode = get_or ns j Any in
      let nodes : tree N frames (trees N frames ns) n ≡ tree N frames (trees N frames ns) r = sym (tree_at ns i o a) ∙ e ∙ tree_at ns j o b in
      let parts : (x y : ℕ) → x < i → y < j → get_or (trees N frames ns) x any ≡ get_or (trees N frames ns) y any → x ≡ y = λ x y u v p. same_below apart ns t o bound x y (omega arith) (omega arith) (omega arith) p in
      t.distinct i j a b (same_node apart (trees N frames ns) i j n r (fits_at (HasPartsBelow templates frames) ns 0 i i Any o (omega arith) a) (fits_at (HasPartsBelow templates frames) ns 0 j j Any o (omega arith) b) parts nodes)

  -- numbers that stand for one mark are one number
  pub one_number : AreDistinct frames → (ns : List MarkNode) → IsTable ns → IsOrdered templates frames ns → (i j : ℕ) → i < length ns → j < length ns → get_or (trees N frames ns) i any ≡ get_or (trees N frames ns) j any → i ≡ j
  one_number apart ns t o i j a b e = same_below apart ns t o (suc i) i j (omega arith) a b e

-- the depth of a frame by that of its marks
pub deepest_read : (made : List Mark) (ms : List ℕ) → deepest_of (map mark_depth made) ms ≡ deepest (map (λ (m : ℕ). get_or made m any) ms)
deepest_read made [] = refl
deepest_read made (m ∷ ms) = rw (get_or-map mark_depth made m any, deepest_read made ms) refl
