-- What the checker knows of a value and of a stack.
use Rattle.std.specs.Prelude.{ℕ, zero, suc, max, ℤ, pos, negsuc, List, [], ◌∷◌, length, Bool, true, false, ◌&&◌, ◌||◌, nat_eq, nat_le, Option, Some, None}
use Rattle.std.specs.Str.{bytes_eq}
use Rattle.fac_base.specs.declared.limits.TheConstants.{MOST_MARK_DEPTH}
use Rattle.fac_lang.specs.Phrases.{Phrase, end, then, Item, quot, fry, known, Mark, any, lit_mark, cur_mark, com_mark, wrd_mark, par_mark}
use Rattle.fac_abs.specs.RowVariables.{Row, row_eq}
use Rattle.fac_lang.specs.PhraseCodes.{Token, mark_tokens}

-- A stack as the checker knows it: dead after something that never returns, else a base with marks on it, the top first. The base is a row of the word that is checked; where it is none, nothing is said of what lies below.
pub data AbstractStack : Type 0 where
  dead : AbstractStack
  on : Option Row → List Mark → AbstractStack

-- equality of integers
abbrev pub int_eq : ℤ → ℤ → Bool
int_eq (pos a) (pos b) = nat_eq a b
int_eq (negsuc a) (negsuc b) = nat_eq a b
int_eq (pos a) (negsuc b) = false
int_eq (negsuc a) (pos b) = false

-- equality of the tokens of a code
abbrev pub token_eq : Token → Token → Bool
token_eq s t = nat_eq s.0 t.0 && (int_eq s.1.0 t.1.0 && bytes_eq s.1.1 t.1.1)

-- equality of codes
abbrev pub tokens_eq : List Token → List Token → Bool
tokens_eq [] [] = true
tokens_eq [] (t ∷ ts) = false
tokens_eq (s ∷ ss) [] = false
tokens_eq (s ∷ ss) (t ∷ ts) = token_eq s t && tokens_eq ss ts

-- Equality of marks: two marks are equal where their codes are. So two literals are the same mark only where they are the same literal of the program with the same marks put in.
unfoldable pub mark_eq : Mark → Mark → Bool
mark_eq m n = tokens_eq (mark_tokens m []) (mark_tokens n [])

-- equality of bases
abbrev pub base_eq : Option Row → Option Row → Bool
base_eq None None = true
base_eq None (Some s) = false
base_eq (Some r) None = false
base_eq (Some r) (Some s) = row_eq r s

-- The depth of a mark: 0 without parts and captures, else one more than the deepest of them. What a literal captures stands in its phrase.
abbrev mutual
  pub mark_depth : Mark → ℕ
  mark_depth any = 0
  mark_depth (lit_mark l t) = phrase_marks t
  mark_depth (cur_mark m c) = suc (max (mark_depth m) (mark_depth c))
  mark_depth (com_mark c d) = suc (max (mark_depth c) (mark_depth d))
  mark_depth (wrd_mark w) = 0
  mark_depth (par_mark k) = 0

  -- 0 where no mark stands in the phrase, else one more than the depth of the deepest
  pub phrase_marks : Phrase → ℕ
  phrase_marks end = 0
  phrase_marks (then i p t) = max (item_marks i) (phrase_marks t)

  pub item_marks : Item → ℕ
  item_marks (quot t) = phrase_marks t
  item_marks (fry t n) = phrase_marks t
  item_marks (known m) = suc (mark_depth m)
  item_marks _ = 0

-- 0 where there are no marks, else one more than the depth of the deepest
abbrev pub deepest : List Mark → ℕ
deepest [] = 0
deepest (m ∷ ms) = max (suc (mark_depth m)) (deepest ms)

-- the greatest depth of a mark
abbrev pub deepest_mark : ℕ
deepest_mark = MOST_MARK_DEPTH

-- a mark that would be deeper is `any`
abbrev pub limited : Mark → Mark
limited m = elim (nat_le (mark_depth m) deepest_mark) [ true ↦ m | false ↦ any ]

-- whether a mark stands for callables alone
abbrev pub is_callable : Mark → Bool
is_callable any = false
is_callable (lit_mark l t) = true
is_callable (cur_mark m c) = true
is_callable (com_mark c d) = true
is_callable (wrd_mark w) = false
is_callable (par_mark k) = true

-- what `curry` makes
abbrev pub curried_mark : Mark → Mark → Mark
curried_mark m c = elim (is_callable c) [ true ↦ limited (cur_mark m c) | false ↦ any ]

-- what `compose` makes
abbrev pub composed_mark : Mark → Mark → Mark
composed_mark c d = elim (is_callable c && is_callable d) [ true ↦ limited (com_mark c d) | false ↦ any ]

-- a join keeps equal marks and makes others `any`
abbrev pub join_mark : Mark → Mark → Mark
join_mark m n = elim (mark_eq m n) [ true ↦ m | false ↦ any ]

-- likewise for each of two stacks of one length
abbrev pub join_marks : List Mark → List Mark → List Mark
join_marks [] ns = []
join_marks (m ∷ ms) [] = []
join_marks (m ∷ ms) (n ∷ ns) = join_mark m n ∷ join_marks ms ns

-- whether marks cover others: each is `any` or equal
abbrev pub cover_marks : List Mark → List Mark → Bool
cover_marks [] ns = true
cover_marks (m ∷ ms) [] = false
cover_marks (m ∷ ms) (n ∷ ns) = (mark_eq m any || mark_eq m n) && cover_marks ms ns

-- Two stacks are joined: a dead one to the other, else those of one base and one length, mark by mark. Others have no join.
abbrev pub joined : AbstractStack → AbstractStack → Option AbstractStack
joined dead B = Some B
joined (on b ms) dead = Some (on b ms)
joined (on b ms) (on c ns) = elim (base_eq b c && nat_eq (length ms) (length ns)) [ true ↦ Some (on b (join_marks ms ns)) | false ↦ None ]

-- Whether a stack covers another: every one covers a dead one, and else both are of one base and one length, and the marks of the first cover those of the second.
abbrev pub covered : AbstractStack → AbstractStack → Bool
covered A dead = true
covered dead (on c ns) = false
covered (on b ms) (on c ns) = base_eq b c && (nat_eq (length ms) (length ns) && cover_marks ms ns)

-- n times `any` on the marks
abbrev pub unknowns : ℕ → List Mark → List Mark
unknowns zero ms = ms
unknowns (suc n) ms = any ∷ unknowns n ms

module _ {A : Type 0} where
  -- the first n of a stack, the deepest first and on those that were taken before, and the rest
  abbrev pub popped : ℕ → List A → List A → Option (List A × List A)
  popped zero taken xs = Some (taken, xs)
  popped (suc n) taken [] = None
  popped (suc n) taken (x ∷ xs) = popped n (x ∷ taken) xs

  -- values put on others: the last of the first list becomes the top
  abbrev pub piled : List A → List A → List A
  piled [] xs = xs
  piled (x ∷ more) xs = piled more (x ∷ xs)
