-- Marks within the limit of depth.
use Rattle.std.proofs.Common.{◌≡◌, ℕ, suc, ◌<◌, ◌≤◌, max, Bool, true, false, nat_le, Result, Ok, Err, IfOk, refl, ap, ◌∙◌, arith}
use Rattle.std.proofs.lemmas.Bool.{le-leb, leb-true}
use Rattle.fac_base.specs.declared.limits.TheConstants.{MOST_MARK_DEPTH}
use Rattle.fac_lang.specs.Phrases.{Mark, any, lit_mark, cur_mark, com_mark}
use Rattle.fac_abs.specs.declared.mark_node.MarkNode.TheVariants.{Lit, Cur, Com}
use Rattle.fac_abs.specs.Marks.{mark_depth, is_callable, limited, curried_mark, composed_mark}
use Rattle.fac_abs.specs.MarkTrees.{Naming, tree, trees}
use Rattle.fac_abs.specs.SeenMarks.{MarksSeen, mark_of, cells_of, frame_of}
use Rattle.fac_abs.specs.MarkPromises.{IsMarkOf}
use Rattle.fac_abs.proofs.SeenLemmas.{both}

within_limit : (m n : ℕ) → m < MOST_MARK_DEPTH → n < MOST_MARK_DEPTH → nat_le (suc (max m n)) MOST_MARK_DEPTH ≡ true
within_limit m n h g = le-leb (suc (max m n)) MOST_MARK_DEPTH (omega arith)

limited_kept : (m : Mark) → nat_le (mark_depth m) MOST_MARK_DEPTH ≡ true → limited m ≡ m
limited_kept m e = ap (λ (b : Bool). elim b [ true ↦ m | false ↦ any ]) e

pub curried_kept : (a b : Mark) → is_callable b ≡ true → mark_depth a < MOST_MARK_DEPTH → mark_depth b < MOST_MARK_DEPTH → curried_mark a b ≡ cur_mark a b
curried_kept a b e h g = ap (λ (c : Bool). elim c [ true ↦ limited (cur_mark a b) | false ↦ any ]) e ∙ limited_kept (cur_mark a b) (within_limit (mark_depth a) (mark_depth b) h g)

pub composed_kept : (a b : Mark) → is_callable a ≡ true → is_callable b ≡ true → mark_depth a < MOST_MARK_DEPTH → mark_depth b < MOST_MARK_DEPTH → composed_mark a b ≡ com_mark a b
composed_kept a b d e h g =
    ap (λ (c : Bool). elim c [ true ↦ limited (com_mark a b) | false ↦ any ]) (both (is_callable a) (is_callable b) d e) ∙ limited_kept (com_mark a b) (within_limit (mark_depth a) (mark_depth b) h g)

pub cur_reads : (N : Naming) (M : MarksSeen) (a b : ℕ) → tree N M.frames (trees N M.frames M.nodes) (Cur a b) ≡ cur_mark (mark_of N M a) (mark_of N M b)
unfolding mark_of
cur_reads N M a b = refl

pub com_reads : (N : Naming) (M : MarksSeen) (a b : ℕ) → tree N M.frames (trees N M.frames M.nodes) (Com a b) ≡ com_mark (mark_of N M a) (mark_of N M b)
unfolding mark_of
com_reads N M a b = refl

-- a mark that was made goes by another name
pub renamed : {E : Type 0} (L : MarksSeen) (x y : Naming → Mark) → ((N : Naming) → x N ≡ y N) → (r : Result ℕ E) → IfOk r (λ k. IsMarkOf L k x) → IfOk r (λ k. IsMarkOf L k y)
renamed L x y same (Ok k) f = record { valid = f.valid; is = λ N. f.is N ∙ same N }
renamed L x y same (Err e) f = tt

pub lit_reads : (N : Naming) (M : MarksSeen) (q f : ℕ) → tree N M.frames (trees N M.frames M.nodes) (Lit q f) ≡ lit_mark (N.literal q) (N.phrase q (frame_of N M f))
unfolding mark_of frame_of cells_of
lit_reads N M q f = refl

pub literal_kept : (m : Mark) (d : ℕ) → d ≡ mark_depth m → d ≤ MOST_MARK_DEPTH → limited m ≡ m
literal_kept m d e h = limited_kept m (le-leb (mark_depth m) MOST_MARK_DEPTH (omega (arith, e)))

pub literal_lost : (m : Mark) (d : ℕ) → d ≡ mark_depth m → MOST_MARK_DEPTH < d → limited m ≡ any
literal_lost m d e h = by_test (nat_le (mark_depth m) MOST_MARK_DEPTH) refl
  where
    by_test : (b : Bool) → nat_le (mark_depth m) MOST_MARK_DEPTH ≡ b → elim b [ true ↦ m | false ↦ any ] ≡ any
    by_test true f = (let low = leb-true (mark_depth m) MOST_MARK_DEPTH f in absurd (omega (arith, e, h, low)))
    by_test false f = refl
