-- What the tests of equality say.
use Rattle.std.proofs.Common.{◌≡◌, ℕ, ℤ, List, [], ◌∷◌, Bool, true, false, refl, sym, ap, ◌∙◌, Option, Some, None, arith}
use Rattle.std.specs.Prelude.{nat_eq, ◌&&◌, pos, negsuc}
use Rattle.std.specs.Str.{bytes_eq}
use Rattle.fac_lang.specs.Phrases.{Mark}
use Rattle.fac_lang.specs.PhraseCodes.{Token, mark_tokens, mark_back, read, no_stacks, top_mark}
use Rattle.fac_abs.specs.RowVariables.{Row, hidden, named_row, row_eq}
use Rattle.fac_abs.specs.Marks.{int_eq, token_eq, tokens_eq, mark_eq, base_eq}
use Rattle.std.proofs.lemmas.Bool.{eqb-true}
use Rattle.std.proofs.lemmas.Float.{T_from_true}
use Rattle.std.proofs.lemmas.Slice.Eq.{bytes_eq-Decides}

pub never_true : false ≡ true → ⊥
never_true e = T_from_true false e

pub and_first : (a b : Bool) → (a && b) ≡ true → a ≡ true
and_first true b e = refl
and_first false b e = e

pub and_second : (a b : Bool) → (a && b) ≡ true → b ≡ true
and_second true b e = e
and_second false b e = absurd (never_true e)

pub length_same : (a b : ℕ) → nat_eq a b ≡ true → a ≡ b
length_same a b e = eqb-true a b e

int_same : (a b : ℤ) → int_eq a b ≡ true → a ≡ b
int_same (pos a) (pos b) e = ap pos (eqb-true a b e)
int_same (negsuc a) (negsuc b) e = ap negsuc (eqb-true a b e)
int_same (pos a) (negsuc b) e = absurd (never_true e)
int_same (negsuc a) (pos b) e = absurd (never_true e)

bytes_same : (xs ys : List ℕ) → bytes_eq xs ys ≡ true → xs ≡ ys
bytes_same xs ys e = grind (arith, bytes_eq-Decides xs ys)

token_parts : (a b : ℕ) (y z : ℤ) (ms ns : List ℕ) → a ≡ b → y ≡ z → ms ≡ ns → (let s : Token = (a, (y, ms)) in let t : Token = (b, (z, ns)) in s ≡ t)
token_parts a b y z ms ns e f g = rw e (rw f (rw g refl))

token_same : (s t : Token) → token_eq s t ≡ true → s ≡ t
token_same s t e = token_parts s.0 t.0 s.1.0 t.1.0 s.1.1 t.1.1 (eqb-true s.0 t.0 (and_first (nat_eq s.0 t.0) _ e)) (int_same s.1.0 t.1.0 (and_first (int_eq s.1.0 t.1.0) _ (and_second (nat_eq s.0 t.0) _ e))) (bytes_same s.1.1 t.1.1 (and_second (int_eq s.1.0 t.1.0) _ (and_second (nat_eq s.0 t.0) _ e)))

tokens_same : (ss ts : List Token) → tokens_eq ss ts ≡ true → ss ≡ ts
tokens_same [] [] e = refl
tokens_same [] (t ∷ ts) e = absurd (never_true e)
tokens_same (s ∷ ss) [] e = absurd (never_true e)
tokens_same (s ∷ ss) (t ∷ ts) e = rw (token_same s t (and_first (token_eq s t) _ e)) (rw (tokens_same ss ts (and_second (token_eq s t) _ e)) refl)

read_back : (m : Mark) → top_mark (read (mark_tokens m []) no_stacks) ≡ m
read_back m = ap top_mark (mark_back m [] no_stacks)

-- marks that are written alike are equal
pub mark_same : (m n : Mark) → mark_eq m n ≡ true → m ≡ n
unfolding mark_eq
mark_same m n e = sym (read_back m) ∙ ap (λ ts. top_mark (read ts no_stacks)) (tokens_same (mark_tokens m []) (mark_tokens n []) e) ∙ read_back n

pub row_same : (r s : Row) → row_eq r s ≡ true → r ≡ s
row_same hidden hidden e = refl
row_same hidden (named_row y) e = absurd (never_true e)
row_same (named_row x) hidden e = absurd (never_true e)
row_same (named_row x) (named_row y) e = ap named_row (bytes_same x y e)

pub base_same : (b c : Option Row) → base_eq b c ≡ true → b ≡ c
base_same None None e = refl
base_same None (Some s) e = absurd (never_true e)
base_same (Some r) None e = absurd (never_true e)
base_same (Some r) (Some s) e = ap Some (row_same r s e)
