-- Marks and stacks by their numbers.
use Rattle.std.proofs.Common.{◌≡◌, ℕ, ◌<◌, ◌≤◌, List, [], ◌∷◌, ◌++◌, Bool, true, ◌&&◌, nat_lt, Option, Some, None, Result, Ok, Err, IfOk, OnErr, length, get_or, slice_get, option_map, map, zero, suc, refl, sym, ap, subst, ◌∙◌, arith, length-append}
use Rattle.std.proofs.lemmas.Bool.{ltb-true, lt-ltb}
use Rattle.std.proofs.Math.ListN.{get_or-map}
use Rattle.fac_lang.specs.Phrases.{Mark, any, lit_mark, cur_mark, com_mark}
use Rattle.fac_abs.specs.declared.mark_node.MarkNode.{MarkNode}
use Rattle.fac_abs.specs.declared.mark_node.MarkNode.TheVariants.{Any, Lit, Cur, Com, Wrd, Par}
use Rattle.fac_abs.specs.inner.Keeping.{Keeps, IsStackWith, Uncovers}
use Rattle.fac_abs.specs.InTurn.{in_turn, FitsInTurn}
use Rattle.fac_abs.specs.Marks.{mark_depth, deepest, piled}
use Rattle.fac_abs.specs.MarkTrees.{Naming, tree, trees}
use Rattle.fac_abs.specs.inner.Interning.{HasPartsBelow, IsOrdered, TellDepths, IsTable, deepest_of}
use Rattle.fac_abs.specs.SeenMarks.{MarksSeen, mark_of, cells_of, frame_of, numbers_of, stack_of, are_below, is_mark, is_frame, is_stack, IsMark, IsFrame, IsStack, Grows}
use Rattle.fac_abs.specs.MarkPromises.{IsMarkOf, IsFrameOf, HasCellWhere, IsStackOf, IsMadeOf, IsNodeOf, HasTopWhere}
use Rattle.fac_abs.proofs.EqualMarks.{and_first, and_second}
use Rattle.fac_abs.proofs.InTurnLemmas.{in_turn_append, in_turn_early, fits_at}
use Rattle.fac_abs.proofs.MarkTableLemmas.{IsInterned}
use Rattle.std.proofs.lemmas.Option.{slice_get-map}
use Rattle.fac_abs.proofs.TreeLemmas.{trees_length, tree_alike, tree_at, deepest_read, map_below}

pub is_below : (m n : ℕ) → nat_lt m n ≡ true → m < n
is_below m n e = ltb-true m n e

pub below_is : (m n : ℕ) → m < n → nat_lt m n ≡ true
below_is m n h = lt-ltb m n h

pub both : (a b : Bool) → a ≡ true → b ≡ true → (a && b) ≡ true
both a b e f = rw (e, f) refl

pub mark_within : (M : MarksSeen) (m : ℕ) → IsMark M m → m < length M.nodes
unfolding is_mark
mark_within M m e = is_below m (length M.nodes) e

pub within_mark : (M : MarksSeen) (m : ℕ) → m < length M.nodes → IsMark M m
unfolding is_mark
within_mark M m h = below_is m (length M.nodes) h

pub stack_within : (M : MarksSeen) (s : ℕ) → IsStack M s → s < length M.stacks
unfolding is_stack
stack_within M s e = is_below s (length M.stacks) (and_first (nat_lt s (length M.stacks)) _ e)

pub stack_below : (M : MarksSeen) (s : ℕ) → IsStack M s → are_below (length M.nodes) (get_or M.stacks s []) ≡ true
unfolding is_stack numbers_of
stack_below M s e = and_second (nat_lt s (length M.stacks)) _ e

pub within_stack : (M : MarksSeen) (s : ℕ) → s < length M.stacks → are_below (length M.nodes) (get_or M.stacks s []) ≡ true → IsStack M s
unfolding is_stack numbers_of
within_stack M s h e = both (nat_lt s (length M.stacks)) _ (below_is s (length M.stacks) h) e

pub frame_within : (M : MarksSeen) (f : ℕ) → IsFrame M f → f < length M.frames
unfolding is_frame
frame_within M f e = is_below f (length M.frames) (and_first (nat_lt f (length M.frames)) _ e)

pub frame_below : (M : MarksSeen) (f : ℕ) → IsFrame M f → are_below (length M.nodes) (get_or M.frames f []) ≡ true
unfolding is_frame cells_of
frame_below M f e = and_second (nat_lt f (length M.frames)) _ e

pub within_frame : (M : MarksSeen) (f : ℕ) → f < length M.frames → are_below (length M.nodes) (get_or M.frames f []) ≡ true → IsFrame M f
unfolding is_frame cells_of
within_frame M f h e = both (nat_lt f (length M.frames)) _ (below_is f (length M.frames) h) e

pub are_below_more : (n k : ℕ) (ms : List ℕ) → n ≤ k → are_below n ms ≡ true → are_below k ms ≡ true
are_below_more n k [] h e = refl
are_below_more n k (m ∷ ms) h e =
    let low = is_below m n (and_first (nat_lt m n) _ e) in
    both (nat_lt m k) _ (below_is m k (omega arith)) (are_below_more n k ms h (and_second (nat_lt m n) _ e))

-- marks that are there stay
pub trees_early : (N : Naming) (frames : List (List ℕ)) (ns more : List MarkNode) (m : ℕ) → m < length ns → get_or (trees N frames (ns ++ more)) m any ≡ get_or (trees N frames ns) m any
trees_early N frames ns more m h =
    ap (λ (ts : List Mark). get_or ts m any) (in_turn_append (tree N frames) ns more []) ∙ in_turn_early (tree N frames) more (trees N frames ns) m any (omega (arith, trees_length N 0 frames ns))

pub map_alike : (f g : ℕ → Mark) (n : ℕ) (ms : List ℕ) → ((m : ℕ) → m < n → f m ≡ g m) → are_below n ms ≡ true → map f ms ≡ map g ms
map_alike f g n ms same e = map_below f g n ms same e

pub mark_reads : (N : Naming) (M : MarksSeen) (m : ℕ) → mark_of N M m ≡ get_or (trees N M.frames M.nodes) m any
unfolding mark_of
mark_reads N M m = refl

pub frame_reads : (N : Naming) (M : MarksSeen) (f : ℕ) → frame_of N M f ≡ map (mark_of N M) (get_or M.frames f [])
unfolding frame_of cells_of
frame_reads N M f = refl

pub frame_trees : (N : Naming) (M : MarksSeen) (f : ℕ) → frame_of N M f ≡ map (λ (m : ℕ). get_or (trees N M.frames M.nodes) m any) (get_or M.frames f [])
unfolding frame_of cells_of mark_of
frame_trees N M f = refl

pub stack_reads : (N : Naming) (M : MarksSeen) (s : ℕ) → stack_of N M s ≡ map (mark_of N M) (get_or M.stacks s [])
unfolding stack_of numbers_of
stack_reads N M s = refl

-- nothing changes
pub grows_refl : (M : MarksSeen) → Grows M M
grows_refl M = record { templates = refl; marks = λ m h. h; frames = λ f h. h; stacks = λ s h. h; same_mark = λ N m h. refl; same_frame = λ N f h. refl; same_stack = λ N s h. refl }

-- one change after another
pub grows_trans : (K L M : MarksSeen) → Grows K L → Grows L M → Grows K M
grows_trans K L M f g = record {
  templates = g.templates ∙ f.templates;
  marks = λ m h. g.marks m (f.marks m h);
  frames = λ k h. g.frames k (f.frames k h);
  stacks = λ s h. g.stacks s (f.stacks s h);
  same_mark = λ N m h. g.same_mark N m (f.marks m h) ∙ f.same_mark N m h;
  same_frame = λ N k h. g.same_frame N k (f.frames k h) ∙ f.same_frame N k h;
  same_stack = λ N s h. g.same_stack N s (f.stacks s h) ∙ f.same_stack N s h;
}

module _ (templates : ℕ) (frames : List (List ℕ)) where
  abbrev pub seen : List MarkNode → List (List ℕ) → MarksSeen
  seen ns ss = record { templates = templates; nodes = ns; frames = frames; stacks = ss }

  pub grows_nodes : (ns more : List MarkNode) (ss : List (List ℕ)) → Grows (seen ns ss) (seen (ns ++ more) ss)
  grows_nodes ns more ss =
      let early : (N : Naming) (m : ℕ) → m < length ns → mark_of N (seen (ns ++ more) ss) m ≡ mark_of N (seen ns ss) m = λ N m l. mark_reads N (seen (ns ++ more) ss) m ∙ trees_early N frames ns more m l ∙ sym (mark_reads N (seen ns ss) m) in
      record {
        templates = refl;
        marks = λ m h. within_mark (seen (ns ++ more) ss) m (omega (arith, mark_within (seen ns ss) m h, length-append ns more));
        frames = λ f h. within_frame (seen (ns ++ more) ss) f (frame_within (seen ns ss) f h) (are_below_more (length ns) (length (ns ++ more)) (get_or frames f []) (omega (arith, length-append ns more)) (frame_below (seen ns ss) f h));
        stacks = λ s h. within_stack (seen (ns ++ more) ss) s (stack_within (seen ns ss) s h) (are_below_more (length ns) (length (ns ++ more)) (get_or ss s []) (omega (arith, length-append ns more)) (stack_below (seen ns ss) s h));
        same_mark = λ N m h. early N m (mark_within (seen ns ss) m h);
        same_frame = λ N f h. frame_reads N (seen (ns ++ more) ss) f ∙ map_alike (mark_of N (seen (ns ++ more) ss)) (mark_of N (seen ns ss)) (length ns) (get_or frames f []) (early N) (frame_below (seen ns ss) f h) ∙ sym (frame_reads N (seen ns ss) f);
        same_stack = λ N s h. stack_reads N (seen (ns ++ more) ss) s ∙ map_alike (mark_of N (seen (ns ++ more) ss)) (mark_of N (seen ns ss)) (length ns) (get_or ss s []) (early N) (stack_below (seen ns ss) s h) ∙ sym (stack_reads N (seen ns ss) s);
      }

  pub mark_stays : (N : Naming) (ns : List MarkNode) (ss ts : List (List ℕ)) (m : ℕ) → mark_of N (seen ns ts) m ≡ mark_of N (seen ns ss) m
  unfolding mark_of
  mark_stays N ns ss ts m = refl

  pub marks_stay : (N : Naming) (ns : List MarkNode) (ss ts : List (List ℕ)) (ms : List ℕ) → map (mark_of N (seen ns ts)) ms ≡ map (mark_of N (seen ns ss)) ms
  unfolding mark_of
  marks_stay N ns ss ts ms = refl

  pub grows_stack_nodes : (ns : List MarkNode) (ss ts : List (List ℕ)) → Keeps ss ts → Grows (seen ns ss) (seen ns ts)
  grows_stack_nodes ns ss ts k = record {
    templates = refl;
    marks = λ m h. within_mark (seen ns ts) m (mark_within (seen ns ss) m h);
    frames = λ f h. within_frame (seen ns ts) f (frame_within (seen ns ss) f h) (frame_below (seen ns ss) f h);
    stacks = λ s h. within_stack (seen ns ts) s (omega (arith, stack_within (seen ns ss) s h, k.longer)) (ap (are_below (length ns)) (k.same s (stack_within (seen ns ss) s h)) ∙ stack_below (seen ns ss) s h);
    same_mark = λ N m h. mark_stays N ns ss ts m;
    same_frame = λ N f h. frame_reads N (seen ns ts) f ∙ marks_stay N ns ss ts (get_or frames f []) ∙ sym (frame_reads N (seen ns ss) f);
    same_stack = λ N s h. stack_reads N (seen ns ts) s ∙ ap (map (mark_of N (seen ns ts))) (k.same s (stack_within (seen ns ss) s h)) ∙ marks_stay N ns ss ts (get_or ss s []) ∙ sym (stack_reads N (seen ns ss) s);
  }

  -- A stack of numbers stands for their marks.
  pub made_stack : (ns : List MarkNode) (ss ts : List (List ℕ)) (s : ℕ) (xs : List ℕ) (marks : Naming → List Mark) → IsStackWith ts s xs → are_below (length ns) xs ≡ true → ((N : Naming) → map (mark_of N (seen ns ss)) xs ≡ marks N) → IsStackOf (seen ns ts) s marks
  made_stack ns ss ts s xs marks i low same = record {
    valid = within_stack (seen ns ts) s i.within (ap (are_below (length ns)) i.marks_are ∙ low);
    is = λ N. stack_reads N (seen ns ts) s ∙ ap (map (mark_of N (seen ns ts))) i.marks_are ∙ marks_stay N ns ss ts xs ∙ same N;
  }

  -- A frame of numbers stands for their marks.
  pub made_frame : (ns : List MarkNode) (ss : List (List ℕ)) (f : ℕ) (xs : List ℕ) (marks : Naming → List Mark) → IsStackWith frames f xs → are_below (length ns) xs ≡ true → ((N : Naming) → map (mark_of N (seen ns ss)) xs ≡ marks N) → IsFrameOf (seen ns ss) f marks
  made_frame ns ss f xs marks i low same = record {
    valid = within_frame (seen ns ss) f i.within (ap (are_below (length ns)) i.marks_are ∙ low);
    is = λ N. frame_reads N (seen ns ss) f ∙ ap (map (mark_of N (seen ns ss))) i.marks_are ∙ same N;
  }

  -- the first mark of a table
  pub first_mark : (ns : List MarkNode) (ss : List (List ℕ)) → IsTable ns → IsOrdered templates frames ns → IsMarkOf (seen ns ss) 0 (λ N. any)
  first_mark ns ss t o = record {
    valid = within_mark (seen ns ss) 0 t.some;
    is = λ N. mark_reads N (seen ns ss) 0 ∙ tree_at N templates frames ns 0 o t.some ∙ ap (tree N frames (trees N frames ns)) t.first;
  }

  -- the mark of a number is that of its node
  pub mark_at : (N : Naming) (ns : List MarkNode) (ss : List (List ℕ)) (m : ℕ) (n : MarkNode) → IsOrdered templates frames ns → m < length ns → n ≡ get_or ns m Any → mark_of N (seen ns ss) m ≡ tree N frames (trees N frames ns) n
  mark_at N ns ss m n o h e = mark_reads N (seen ns ss) m ∙ tree_at N templates frames ns m o h ∙ ap (tree N frames (trees N frames ns)) (sym e)

  module _ (ns : List MarkNode) (ss : List (List ℕ)) (m : ℕ) (o : IsOrdered templates frames ns) (h : m < length ns) where
    parts_at : (n : MarkNode) → n ≡ get_or ns m Any → HasPartsBelow templates frames m n
    parts_at n e = subst (HasPartsBelow templates frames m) (sym e) (fits_at (HasPartsBelow templates frames) ns 0 m m Any o (omega arith) h)

    pair_at : (a b : ℕ) (make : Mark → Mark → Mark) → a < m → b < m → ((N : Naming) → mark_of N (seen ns ss) m ≡ make (get_or (trees N frames ns) a any) (get_or (trees N frames ns) b any)) → IsMadeOf (seen ns ss) m a b make
    pair_at a b make l k e = record {
      first = within_mark (seen ns ss) a (omega arith);
      second = within_mark (seen ns ss) b (omega arith);
      first_lower = l;
      second_lower = k;
      is = λ N. e N ∙ ap (λ (x : Mark). make x (get_or (trees N frames ns) b any)) (sym (mark_reads N (seen ns ss) a)) ∙ ap (make (mark_of N (seen ns ss) a)) (sym (mark_reads N (seen ns ss) b));
    }

    -- what a number's node says of its mark
    pub node_at : (n : MarkNode) → n ≡ get_or ns m Any → IsNodeOf (seen ns ss) m n
    node_at Any e = λ N. mark_at N ns ss m Any o h e
    node_at (Lit q f) e =
        let p = parts_at (Lit q f) e in
        record {
          within = p.0;
          frame = within_frame (seen ns ss) f p.1 (are_below_more m (length ns) (get_or frames f []) (omega (arith, h)) p.2);
          is = λ N. mark_at N ns ss m (Lit q f) o h e ∙ ap (λ (ms : List Mark). lit_mark (N.literal q) (N.phrase q ms)) (sym (frame_trees N (seen ns ss) f));
        }
    node_at (Cur a b) e = let p = parts_at (Cur a b) e in pair_at a b cur_mark p.0 p.1 (λ N. mark_at N ns ss m (Cur a b) o h e)
    node_at (Com a b) e = let p = parts_at (Com a b) e in pair_at a b com_mark p.0 p.1 (λ N. mark_at N ns ss m (Com a b) o h e)
    node_at (Wrd w) e = λ N. mark_at N ns ss m (Wrd w) o h e
    node_at (Par k) e = λ N. mark_at N ns ss m (Par k) o h e

  -- a node that was made
  pub made_mark : (ns ns' : List MarkNode) (ss : List (List ℕ)) (n : MarkNode) (r : ℕ) → HasPartsBelow templates frames (length ns) n → IsOrdered templates frames ns' → IsInterned ns ns' n r → IsMarkOf (seen ns' ss) r (λ N. tree N frames (trees N frames ns) n)
  made_mark ns ns' ss n r parts o i =
      let early : (N : Naming) (k : ℕ) → k < length (trees N frames ns) → get_or (trees N frames ns') k any ≡ get_or (trees N frames ns) k any = λ N k l. ap (λ (t : List MarkNode). get_or (trees N frames t) k any) i.grows ∙ trees_early N frames ns i.more k (omega (arith, trees_length N templates frames ns)) in
      record {
        valid = within_mark (seen ns' ss) r i.within;
        is = λ N. mark_at N ns' ss r n o i.within (sym i.node_is) ∙ sym (tree_alike N templates frames n (trees N frames ns) (trees N frames ns') (subst (λ (k : ℕ). HasPartsBelow templates frames k n) (sym (trees_length N templates frames ns)) parts) (early N));
      }

  pub grows_interned : (ns ns' : List MarkNode) (ss : List (List ℕ)) (n : MarkNode) (r : ℕ) → IsInterned ns ns' n r → Grows (seen ns ss) (seen ns' ss)
  grows_interned ns ns' ss n r i = subst (λ (t : List MarkNode). Grows (seen ns ss) (seen t ss)) (sym i.grows) (grows_nodes ns i.more ss)

  module _ {E : Type 0} where
    pub made_by : (ns ns' : List MarkNode) (ss : List (List ℕ)) (n : MarkNode) → HasPartsBelow templates frames (length ns) n → IsOrdered templates frames ns' → (r : Result ℕ E) → IfOk r (λ k. IsInterned ns ns' n k) → IfOk r (λ k. IsMarkOf (seen ns' ss) k (λ N. tree N frames (trees N frames ns) n))
    made_by ns ns' ss n parts o (Ok k) f = made_mark ns ns' ss n k parts o f
    made_by ns ns' ss n parts o (Err e) f = tt

    pub grows_by : (ns ns' : List MarkNode) (ss : List (List ℕ)) (n : MarkNode) (r : Result ℕ E) → IfOk r (λ k. IsInterned ns ns' n k) → OnErr r (ns' ≡ ns) → Grows (seen ns ss) (seen ns' ss)
    grows_by ns ns' ss n (Ok k) f g = grows_interned ns ns' ss n k f
    grows_by ns ns' ss n (Err e) f g = subst (λ (t : List MarkNode). Grows (seen ns ss) (seen t ss)) (sym g) (grows_refl (seen ns ss))

    pub stack_by : (ns : List MarkNode) (ss ts : List (List ℕ)) (xs : List ℕ) (marks : Naming → List Mark) → are_below (length ns) xs ≡ true → ((N : Naming) → map (mark_of N (seen ns ss)) xs ≡ marks N) → (r : Result ℕ E) → IfOk r (λ s. IsStackWith ts s xs) → IfOk r (λ s. IsStackOf (seen ns ts) s marks)
    stack_by ns ss ts xs marks low same (Ok s) f = made_stack ns ss ts s xs marks f low same
    stack_by ns ss ts xs marks low same (Err e) f = tt

  pub depth_at : (N : Naming) (ns : List MarkNode) (ss : List (List ℕ)) (ds : List ℕ) (m : ℕ) → TellDepths frames ns ds → mark_depth (mark_of N (seen ns ss) m) ≡ get_or ds m 0
  depth_at N ns ss ds m told = ap mark_depth (mark_reads N (seen ns ss) m) ∙ sym (get_or-map mark_depth (trees N frames ns) m any) ∙ ap (λ (ks : List ℕ). get_or ks m 0) (sym (told N))

  -- the depth of a literal with a frame's marks
  pub literal_depth : (N : Naming) (ns : List MarkNode) (ds : List ℕ) (q f : ℕ) → TellDepths frames ns ds → deepest_of ds (get_or frames f []) ≡ mark_depth (tree N frames (trees N frames ns) (Lit q f))
  literal_depth N ns ds q f told =
      ap (λ (ks : List ℕ). deepest_of ks (get_or frames f [])) (told N) ∙ deepest_read (trees N frames ns) (get_or frames f []) ∙ sym (N.marked q (map (λ (m : ℕ). get_or (trees N frames ns) m any) (get_or frames f [])))

  -- Facts of a table that goes by another name.
  module _ (ns : List MarkNode) (ss : List (List ℕ)) (M : MarksSeen) (v : seen ns ss ≡ M) where
    pub mark_in : (m : ℕ) → IsMark M m → m < length ns
    mark_in m h = subst (λ (t : List MarkNode). m < length t) (sym (ap (λ (L : MarksSeen). L.nodes) v)) (mark_within M m h)

    pub stack_in : (s : ℕ) → IsStack M s → s < length ss
    stack_in s h = subst (λ (t : List (List ℕ)). s < length t) (sym (ap (λ (L : MarksSeen). L.stacks) v)) (stack_within M s h)

    pub frame_in : (f : ℕ) → IsFrame M f → f < length frames
    frame_in f h = subst (λ (t : List (List ℕ)). f < length t) (sym (ap (λ (L : MarksSeen). L.frames) v)) (frame_within M f h)

    pub cells_low : (f : ℕ) → IsFrame M f → are_below (length ns) (get_or frames f []) ≡ true
    cells_low f h = let P : MarksSeen → Type 0 = λ L. IsFrame L f → are_below (length ns) (get_or frames f []) ≡ true in subst P v (frame_below (seen ns ss) f) h

    pub low_in : (s : ℕ) → IsStack M s → are_below (length ns) (get_or ss s []) ≡ true
    low_in s h = let P : MarksSeen → Type 0 = λ L. IsStack L s → are_below (length ns) (get_or ss s []) ≡ true in subst P v (stack_below (seen ns ss) s) h

  -- the empty stack
  pub empty_stack : (ns : List MarkNode) (ts : List (List ℕ)) → ts ≡ [] ∷ [] → IsStackOf (seen ns ts) 0 (λ N. [])
  empty_stack ns ts e = subst (λ (t : List (List ℕ)). IsStackOf (seen ns t) 0 (λ N. [])) (sym e) (record { valid = within_stack (seen ns ([] ∷ [])) 0 (omega arith) refl; is = λ N. stack_reads N (seen ns ([] ∷ [])) 0 })

  -- the frame with no cells
  pub empty_frame : (ns : List MarkNode) (ss : List (List ℕ)) → frames ≡ [] ∷ [] → IsFrameOf (seen ns ss) 0 (λ N. [])
  empty_frame ns ss e =
      let here : get_or frames 0 [] ≡ [] = ap (λ (fs : List (List ℕ)). get_or fs 0 []) e in
      let long : length frames ≡ 1 = ap length e in
      made_frame ns ss 0 [] (λ N. []) (record { within = omega (arith, long); marks_are = here }) refl (λ N. refl)

  -- what a call uncovers
  pub top_where : (ns : List MarkNode) (ss : List (List ℕ)) (s : ℕ) (o : Option (ℕ × ℕ)) → are_below (length ns) (get_or ss s []) ≡ true → Uncovers ss s o → HasTopWhere (seen ns ss) s o
  top_where ns ss s None low h = λ N. stack_reads N (seen ns ss) s ∙ ap (map (mark_of N (seen ns ss))) h
  top_where ns ss s (Some (m, b)) low h =
      let lower : are_below (length ns) (m ∷ get_or ss b []) ≡ true = ap (are_below (length ns)) (sym h.1) ∙ low in
      record {
        top = within_mark (seen ns ss) m (is_below m (length ns) (and_first (nat_lt m (length ns)) _ lower));
        rest = within_stack (seen ns ss) b h.0 (and_second (nat_lt m (length ns)) _ lower);
        is = λ N. stack_reads N (seen ns ss) s ∙ ap (map (mark_of N (seen ns ss))) h.1 ∙ ap (λ (t : List Mark). mark_of N (seen ns ss) m ∷ t) (sym (stack_reads N (seen ns ss) b));
      }

  -- what a cell of a frame is
  cell_map : (f : ℕ → Mark) (ms : List ℕ) (before : List ℕ) → map f (piled ms before) ≡ piled (map f ms) (map f before)
  cell_map f [] before = refl
  cell_map f (m ∷ ms) before = cell_map f ms (m ∷ before)

  piled_low : (k : ℕ) (ms before : List ℕ) → are_below k ms ≡ true → are_below k before ≡ true → are_below k (piled ms before) ≡ true
  piled_low k [] before h g = g
  piled_low k (m ∷ ms) before h g = piled_low k ms (m ∷ before) (and_second (nat_lt m k) _ h) (both (nat_lt m k) _ (and_first (nat_lt m k) _ h) g)

  low_at : (k : ℕ) (ms : List ℕ) (j m : ℕ) → are_below k ms ≡ true → Some m ≡ slice_get ms j → m < k
  low_at k [] j m h e = absurd (cc)
  low_at k (x ∷ ms) zero m h e = let same : m ≡ x = cc in rw same (is_below x k (and_first (nat_lt x k) _ h))
  low_at k (x ∷ ms) (suc j) m h e = low_at k ms j m (and_second (nat_lt x k) _ h) e

  frame_cell : (ns : List MarkNode) (ss : List (List ℕ)) (f k : ℕ) (N : Naming) → slice_get (piled (frame_of N (seen ns ss) f) []) k ≡ option_map (mark_of N (seen ns ss)) (slice_get (piled (get_or frames f []) []) k)
  frame_cell ns ss f k N =
      let g : ℕ → Mark = mark_of N (seen ns ss) in
      ap (λ (ms : List Mark). slice_get (piled ms []) k) (frame_reads N (seen ns ss) f) ∙ ap (λ (ms : List Mark). slice_get ms k) (sym (cell_map g (get_or frames f []) [])) ∙ slice_get-map g (piled (get_or frames f []) []) k

  pub cell_where : (ns : List MarkNode) (ss : List (List ℕ)) (f k : ℕ) (o : Option ℕ) → are_below (length ns) (get_or frames f []) ≡ true → o ≡ slice_get (piled (get_or frames f []) []) k → HasCellWhere (seen ns ss) f k o
  cell_where ns ss f k None low e = λ N. frame_cell ns ss f k N ∙ ap (option_map (mark_of N (seen ns ss))) (sym e)
  cell_where ns ss f k (Some m) low e = (within_mark (seen ns ss) m (low_at (length ns) (piled (get_or frames f []) []) k m (piled_low (length ns) (get_or frames f []) [] low refl) e), λ N. frame_cell ns ss f k N ∙ ap (option_map (mark_of N (seen ns ss))) (sym e))

-- Frames grow.
module _ (templates : ℕ) (frames more : List (List ℕ)) (k : Keeps frames more) where
  tree_keeps : (N : Naming) (j : ℕ) (made : List Mark) (n : MarkNode) → HasPartsBelow templates frames j n → tree N more made n ≡ tree N frames made n
  tree_keeps N j made Any h = refl
  tree_keeps N j made (Lit q f) h = ap (λ (ms : List ℕ). lit_mark (N.literal q) (N.phrase q (map (λ (m : ℕ). get_or made m any) ms))) (k.same f h.1)
  tree_keeps N j made (Cur a b) h = refl
  tree_keeps N j made (Com a b) h = refl
  tree_keeps N j made (Wrd w) h = refl
  tree_keeps N j made (Par p) h = refl

  turns_keep : (N : Naming) (ns : List MarkNode) (j : ℕ) (made : List Mark) → FitsInTurn (HasPartsBelow templates frames) j ns → in_turn (tree N more) ns made ≡ in_turn (tree N frames) ns made
  turns_keep N [] j made h = refl
  turns_keep N (n ∷ ns) j made h = ap (λ (m : Mark). in_turn (tree N more) ns (made ++ m ∷ [])) (tree_keeps N j made n h.0) ∙ turns_keep N ns (suc j) (made ++ tree N frames made n ∷ []) h.1

  pub trees_keep : (N : Naming) (ns : List MarkNode) → IsOrdered templates frames ns → trees N more ns ≡ trees N frames ns
  trees_keep N ns o = turns_keep N ns 0 [] o

  parts_keep : (j : ℕ) (n : MarkNode) → HasPartsBelow templates frames j n → HasPartsBelow templates more j n
  parts_keep j Any h = h
  parts_keep j (Lit q f) h = (h.0, omega (arith, h.1, k.longer), ap (are_below j) (k.same f h.1) ∙ h.2)
  parts_keep j (Cur a b) h = h
  parts_keep j (Com a b) h = h
  parts_keep j (Wrd w) h = h
  parts_keep j (Par p) h = h

  order_keeps : (ns : List MarkNode) (j : ℕ) → FitsInTurn (HasPartsBelow templates frames) j ns → FitsInTurn (HasPartsBelow templates more) j ns
  order_keeps [] j h = h
  order_keeps (n ∷ ns) j h = (parts_keep j n h.0, order_keeps ns (suc j) h.1)

  pub ordered_keeps : (ns : List MarkNode) → IsOrdered templates frames ns → IsOrdered templates more ns
  ordered_keeps ns o = order_keeps ns 0 o

  pub told_keeps : (ns : List MarkNode) (ds : List ℕ) → IsOrdered templates frames ns → TellDepths frames ns ds → TellDepths more ns ds
  told_keeps ns ds o told = λ N. told N ∙ ap (map mark_depth) (sym (trees_keep N ns o))

  pub marks_keep : (N : Naming) (ns : List MarkNode) (ss : List (List ℕ)) (m : ℕ) → IsOrdered templates frames ns → mark_of N (seen templates more ns ss) m ≡ mark_of N (seen templates frames ns ss) m
  marks_keep N ns ss m o = mark_reads N (seen templates more ns ss) m ∙ ap (λ (ts : List Mark). get_or ts m any) (trees_keep N ns o) ∙ sym (mark_reads N (seen templates frames ns ss) m)

  all_keep : (N : Naming) (ns : List MarkNode) (ss : List (List ℕ)) → IsOrdered templates frames ns → (ms : List ℕ) → map (mark_of N (seen templates more ns ss)) ms ≡ map (mark_of N (seen templates frames ns ss)) ms
  all_keep N ns ss o [] = refl
  all_keep N ns ss o (m ∷ ms) = rw (marks_keep N ns ss m o, all_keep N ns ss o ms) refl

  pub grows_frames : (ns : List MarkNode) (ss : List (List ℕ)) → IsOrdered templates frames ns → Grows (seen templates frames ns ss) (seen templates more ns ss)
  grows_frames ns ss o =
      let old = seen templates frames ns ss in
      let new = seen templates more ns ss in
      record {
        templates = refl;
        marks = λ m h. within_mark new m (mark_within old m h);
        frames = λ f h. within_frame new f (omega (arith, frame_within old f h, k.longer)) (ap (are_below (length ns)) (k.same f (frame_within old f h)) ∙ frame_below old f h);
        stacks = λ s h. within_stack new s (stack_within old s h) (stack_below old s h);
        same_mark = λ N m h. marks_keep N ns ss m o;
        same_frame = λ N f h. frame_reads N new f ∙ ap (map (mark_of N new)) (k.same f (frame_within old f h)) ∙ all_keep N ns ss o (get_or frames f []) ∙ sym (frame_reads N old f);
        same_stack = λ N s h. stack_reads N new s ∙ all_keep N ns ss o (get_or ss s []) ∙ sym (stack_reads N old s);
      }

  -- a frame with one cell more
  pub bound : (ns : List MarkNode) (ss : List (List ℕ)) (f m r : ℕ) → IsOrdered templates frames ns → IsStackWith more r (m ∷ get_or frames f []) → m < length ns → are_below (length ns) (get_or frames f []) ≡ true → IsFrameOf (seen templates more ns ss) r (λ N. mark_of N (seen templates frames ns ss) m ∷ frame_of N (seen templates frames ns ss) f)
  bound ns ss f m r o i h low = made_frame templates more ns ss r (m ∷ get_or frames f []) (λ N. mark_of N (seen templates frames ns ss) m ∷ frame_of N (seen templates frames ns ss) f) i (both (nat_lt m (length ns)) _ (below_is m (length ns) h) low) (λ N. all_keep N ns ss o (m ∷ get_or frames f []) ∙ ap (λ (t : List Mark). mark_of N (seen templates frames ns ss) m ∷ t) (sym (frame_reads N (seen templates frames ns ss) f)))

  module _ {E : Type 0} where
    pub bound_by : (ns : List MarkNode) (ss : List (List ℕ)) (f m : ℕ) → IsOrdered templates frames ns → (r : Result ℕ E) → IfOk r (λ j. IsStackWith more j (m ∷ get_or frames f [])) → m < length ns → are_below (length ns) (get_or frames f []) ≡ true → IfOk r (λ j. IsFrameOf (seen templates more ns ss) j (λ N. mark_of N (seen templates frames ns ss) m ∷ frame_of N (seen templates frames ns ss) f))
    bound_by ns ss f m o (Ok j) i h low = bound ns ss f m j o i h low
    bound_by ns ss f m o (Err e) i h low = tt
