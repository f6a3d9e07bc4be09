-- The test of equality of nodes.
use Rattle.std.proofs.Common.{◌≡◌, ℕ, zero, suc, ◌+◌, ◌<◌, cond, Bool, true, false, List, [], ◌∷◌, Option, Some, None, position, length, get_or, refl, sym, ap, ◌∙◌, arith, nat_eq, eq-eqb, is_some}
use Rattle.std.proofs.lemmas.Bool.{eqb-true}
use Rattle.std.proofs.lemmas.List.Quantifiers.{position-Some}
use Rattle.std.specs.List.{position_from}
use Rattle.std.proofs.lemmas.Iterator.Adapters.{position_from-zero}
use Rattle.fac_abs.specs.declared.mark_node.MarkNode.{MarkNode}
use Rattle.fac_abs.specs.declared.mark_node.MarkNode.TheVariants.{Any, Lit, Cur, Com, Wrd, Par}
use Rattle.fac_abs.specs.declared.stack_nodes.StackNode.{StackNode}
use Rattle.fac_abs.specs.contracts.mark_node.MarkNodePartialEq.TheImpl as test
use Rattle.fac_abs.specs.contracts.stack_nodes.StackNodePartialEq.TheImpl as frame_test
use Rattle.fac_abs.proofs.FrameLemmas.{node_parts}
use Rattle.fac_abs.proofs.EqualMarks.{and_first, and_second, never_true}

numbers_same : (a b : ℕ) → nat_eq a b ≡ true → a ≡ b
numbers_same a b e = eqb-true a b e

number_itself : (a : ℕ) → nat_eq a a ≡ true
number_itself a = eq-eqb a a refl

-- nodes that pass it are one
pub node_same : (n r : MarkNode) → test.eq-value.it n r ≡ true → n ≡ r
node_same Any Any e = refl
node_same (Lit a b) (Lit c d) e = rw (numbers_same a c (and_first (nat_eq a c) (nat_eq b d) e), numbers_same b d (and_second (nat_eq a c) (nat_eq b d) e)) refl
node_same (Cur a b) (Cur c d) e = rw (numbers_same a c (and_first (nat_eq a c) (nat_eq b d) e), numbers_same b d (and_second (nat_eq a c) (nat_eq b d) e)) refl
node_same (Com a b) (Com c d) e = rw (numbers_same a c (and_first (nat_eq a c) (nat_eq b d) e), numbers_same b d (and_second (nat_eq a c) (nat_eq b d) e)) refl
node_same (Wrd a) (Wrd b) e = ap Wrd (numbers_same a b e)
node_same (Par a) (Par b) e = ap Par (numbers_same a b e)
node_same _ _ e = absurd (never_true e)

-- each node passes it with itself
pub node_itself : (n : MarkNode) → test.eq-value.it n n ≡ true
node_itself Any = refl
node_itself (Lit a b) = rw (number_itself a, number_itself b) refl
node_itself (Cur a b) = rw (number_itself a, number_itself b) refl
node_itself (Com a b) = rw (number_itself a, number_itself b) refl
node_itself (Wrd a) = number_itself a
node_itself (Par a) = number_itself a

none_first : (b : Bool) (n : ℕ) (r : Option ℕ) → cond b (Some n) r ≡ None → (b ≡ false) × (r ≡ None)
none_first true n r e = absurd (cc)
none_first false n r e = (refl, e)

none_from : {A : Type 0} (d : A) (p : A → Bool) (n : ℕ) (nodes : List A) → position_from p n nodes ≡ None → (k : ℕ) → k < length nodes → p (get_or nodes k d) ≡ false
none_from d p n [] e k h = absurd (omega arith)
none_from d p n (x ∷ nodes) e zero h = (none_first (p x) n (position_from p (n + 1) nodes) e).0
none_from d p n (x ∷ nodes) e (suc k) h = none_from d p (n + 1) nodes (none_first (p x) n (position_from p (n + 1) nodes) e).1 k (omega arith)

module _ {A : Type 0} (d : A) (eq : A → A → Bool) (same : (n r : A) → eq n r ≡ true → n ≡ r) (itself : (n : A) → eq n n ≡ true) where
  -- the place of a node in a list
  pub place_found : (node : A) (nodes : List A) (k : ℕ) → Some k ≡ position (eq node) nodes → (k < length nodes) × (get_or nodes k d ≡ node)
  place_found node nodes k e =
      let f = position-Some (eq node) nodes k d (sym e) in
      (f.0, sym (same node (get_or nodes k d) f.1))

  -- no place where there is none
  pub no_place : (node : A) (nodes : List A) → position (eq node) nodes ≡ None → (k : ℕ) → k < length nodes → get_or nodes k d ≡ node → ⊥
  no_place node nodes e k h g =
      let no : eq node (get_or nodes k d) ≡ false = none_from d (eq node) 0 nodes (sym (position_from-zero (eq node) nodes) ∙ e) k h in
      never_true (sym no ∙ ap (eq node) g ∙ itself node)

-- what isn't there is none
pub none_by : {A : Type 0} (o : Option A) → false ≡ is_some o → o ≡ None
none_by None e = refl
none_by (Some x) e = absurd (never_true e)

-- likewise nodes of frames
pub frame_same : (n r : StackNode) → frame_test.eq-value.it n r ≡ true → n ≡ r
frame_same n r e =
    let one = numbers_same n.mark r.mark (and_first (nat_eq n.mark r.mark) _ e) in
    let rest = and_second (nat_eq n.mark r.mark) _ e in
    let two = numbers_same n.below r.below (and_first (nat_eq n.below r.below) _ rest) in
    let three = numbers_same n.height r.height (and_second (nat_eq n.below r.below) _ rest) in
    node_parts n.mark n.below n.height r.mark r.below r.height one two three

pub frame_itself : (n : StackNode) → frame_test.eq-value.it n n ≡ true
frame_itself n = rw (number_itself n.mark, number_itself n.below, number_itself n.height) refl
