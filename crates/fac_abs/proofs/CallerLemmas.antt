-- What callers cite of marks and stacks.
use Rattle.std.proofs.Common.{◌≡◌, ℕ, zero, suc, ◌<◌, ◌≤◌, List, [], ◌∷◌, Option, Some, None, option_map, length, drop, get_or, refl, sym, ap, ◌∙◌, arith}
use Rattle.fac_lang.specs.Phrases.{Mark}
use Rattle.fac_abs.specs.InTurn.{under, taken, moved}
use Rattle.fac_abs.specs.Marks.{popped}
use Rattle.fac_abs.specs.MarkTrees.{Naming}
use Rattle.fac_abs.specs.SeenMarks.{MarksSeen, Grows}
use Rattle.fac_abs.specs.MarkPromises.{IsMarkOf, IsFrameOf, IsStackOf}

-- a mark that was there
pub mark_later : (M L : MarksSeen) (m : ℕ) (mark : Naming → Mark) → Grows M L → IsMarkOf M m mark → IsMarkOf L m mark
mark_later M L m mark g f = record { valid = g.marks m f.valid; is = λ N. g.same_mark N m f.valid ∙ f.is N }

-- a stack that was there
pub stack_later : (M L : MarksSeen) (s : ℕ) (marks : Naming → List Mark) → Grows M L → IsStackOf M s marks → IsStackOf L s marks
stack_later M L s marks g f = record { valid = g.stacks s f.valid; is = λ N. g.same_stack N s f.valid ∙ f.is N }

-- a frame that was there
pub frame_later : (M L : MarksSeen) (f : ℕ) (marks : Naming → List Mark) → Grows M L → IsFrameOf M f marks → IsFrameOf L f marks
frame_later M L f marks g h = record { valid = g.frames f h.valid; is = λ N. g.same_frame N f h.valid ∙ h.is N }

-- what lies under marks is what is left once they are taken
pub popped_under : (n : ℕ) (before ms : List Mark) → popped n before ms ≡ option_map (λ (rest : List Mark). (taken n before ms, rest)) (under n ms)
popped_under zero before ms = refl
popped_under (suc n) before [] = refl
popped_under (suc n) before (m ∷ ms) = popped_under n (m ∷ before) ms

pub popped_none : (n : ℕ) (before ms : List Mark) → under n ms ≡ None → popped n before ms ≡ None
popped_none n before ms e = popped_under n before ms ∙ ap (option_map (λ (rest : List Mark). (taken n before ms, rest))) e

pub popped_some : (n : ℕ) (before ms rest : List Mark) → under n ms ≡ Some rest → popped n before ms ≡ Some (taken n before ms, rest)
popped_some n before ms rest e = popped_under n before ms ∙ ap (option_map (λ (r : List Mark). (taken n before ms, r))) e

module _ {A : Type 0} where
  same_inside : (x y : List A) → Some x ≡ Some y → x ≡ y
  same_inside x y e = cc

  -- what lies under the first n is what is left without them
  pub under_drop : (n : ℕ) (xs ys : List A) → under n xs ≡ Some ys → ys ≡ drop n xs
  under_drop zero xs ys e = sym (same_inside xs ys e)
  under_drop (suc n) [] ys e = absurd (cc)
  under_drop (suc n) (x ∷ xs) ys e = under_drop n xs ys e

  pub under_enough : (n : ℕ) (xs : List A) → n ≤ length xs → under n xs ≡ Some (drop n xs)
  under_enough zero xs h = refl
  under_enough (suc n) [] h = absurd (omega arith)
  under_enough (suc n) (x ∷ xs) h = under_enough n xs (omega arith)

  pub under_short : (n : ℕ) (xs : List A) → under n xs ≡ None → length xs < n
  under_short zero xs e = absurd (cc)
  under_short (suc n) [] e = omega arith
  under_short (suc n) (x ∷ xs) e = let ih = under_short n xs e in omega arith

  pub under_long : (n : ℕ) (xs ys : List A) → under n xs ≡ Some ys → n ≤ length xs
  under_long zero xs ys e = omega arith
  under_long (suc n) [] ys e = absurd (cc)
  under_long (suc n) (x ∷ xs) ys e = let ih = under_long n xs ys e in omega arith

  none_under : {B : Type 0} (f : List A → B) (o : Option (List A)) → option_map f o ≡ None → o ≡ None
  none_under f None e = refl
  none_under f (Some x) e = absurd (cc)

  -- a shuffle has too few values
  pub moved_short : (d : A) (n : ℕ) (places : List ℕ) (xs : List A) → moved d n places xs ≡ None → length xs < n
  moved_short d n places xs e = under_short n xs (none_under _ (under n xs) e)
