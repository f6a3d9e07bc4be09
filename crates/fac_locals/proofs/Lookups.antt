-- What stands under a number in a closed program.
use Rattle.std.proofs.Common.{◌≡◌, ℕ, zero, suc, ◌+◌, List, [], ◌∷◌, length, Option, Some, None, refl, sym, ap, ◌∙◌, subst, arith}
use Rattle.std.specs.Prelude.{slice_get}
use Rattle.fac_lang.specs.declared.phrase.Template.{Template}
use Rattle.fac_lang.specs.declared.program.Program.{Program}
use Rattle.fac_lang.specs.declared.program.WordDef.{WordDef}
use Rattle.fac_locals.specs.Literals.{Quoted, literals, literal_or, literal_numbered}
use Rattle.fac_locals.specs.Closed.{Closes, CloseWords, ClosesWord, CloseLiterals, ClosesLiteral}

-- word w of a closed program stands for this word
pub record ClosedWord (P C : Program) (w : ℕ) (d : WordDef) : Type 0 where
  pub closed : WordDef
  pub at : slice_get C.words w ≡ Some closed
  pub closes : ClosesWord P w d closed

-- this word of a closed program stands for word w
pub record OpenWord (P : Program) (w : ℕ) (c : WordDef) : Type 0 where
  pub def : WordDef
  pub at : slice_get P.words w ≡ Some def
  pub closes : ClosesWord P w def c

closed_among : (P : Program) (w v k : ℕ) (ds cs : List WordDef) (d : WordDef) → w ≡ v + k → CloseWords P v ds cs → slice_get ds k ≡ Some d → (c : WordDef) × (slice_get cs k ≡ Some c) × ClosesWord P w d c
closed_among P w v k [] cs d e h is = absurd cc
closed_among P w v zero (x ∷ ds) cs d e h is =
    let same : x ≡ d = cc in
    let here : v ≡ w = omega (arith, e) in
    (h.0, ap (λ (xs : List WordDef). slice_get xs 0) h.2, subst (λ (u : ℕ). ClosesWord P u d h.0) here (subst (λ (y : WordDef). ClosesWord P v y h.0) same h.3))
closed_among P w v (suc k) (x ∷ ds) cs d e h is =
    let found = closed_among P w (suc v) k ds h.1 d (omega (arith, e)) h.4 is in (found.0, ap (λ (xs : List WordDef). slice_get xs (suc k)) h.2 ∙ found.1, found.2)

open_among : (P : Program) (w v k : ℕ) (ds cs : List WordDef) (c : WordDef) → w ≡ v + k → CloseWords P v ds cs → slice_get cs k ≡ Some c → (d : WordDef) × (slice_get ds k ≡ Some d) × ClosesWord P w d c
open_among P w v k [] cs c e h is = let none : slice_get [] k ≡ Some c = sym (ap (λ (xs : List WordDef). slice_get xs k) h) ∙ is in absurd cc
open_among P w v zero (x ∷ ds) cs c e h is =
    let first : Some h.0 ≡ Some c = sym (ap (λ (xs : List WordDef). slice_get xs 0) h.2) ∙ is in
    let same : h.0 ≡ c = cc in
    let here : v ≡ w = omega (arith, e) in
    (x, refl, subst (λ (u : ℕ). ClosesWord P u x c) here (subst (λ (y : WordDef). ClosesWord P v x y) same h.3))
open_among P w v (suc k) (x ∷ ds) cs c e h is = open_among P w (suc v) k ds h.1 c (omega (arith, e)) h.4 (sym (ap (λ (xs : List WordDef). slice_get xs (suc k)) h.2) ∙ is)

as_many : (P : Program) (v : ℕ) (ds cs : List WordDef) → CloseWords P v ds cs → length cs ≡ length ds
as_many P v [] cs h = ap length h
as_many P v (d ∷ ds) cs h = ap length h.2 ∙ ap suc (as_many P (suc v) ds h.1 h.4)

module _ (P C : Program) (templates : List Template) (h : Closes P C templates) where
  -- each word of the program has a closed one
  pub word_closed : (w : ℕ) (d : WordDef) → slice_get P.words w ≡ Some d → ClosedWord P C w d
  word_closed w d is = let found = closed_among P w 0 w P.words C.words d (omega arith) h.words is in record { closed = found.0; at = found.1; closes = found.2 }

  -- each word of a closed program stands for one
  pub word_open : (w : ℕ) (c : WordDef) → slice_get C.words w ≡ Some c → OpenWord P w c
  word_open w c is = let found = open_among P w 0 w P.words C.words c (omega arith) h.words is in record { def = found.0; at = found.1; closes = found.2 }

  -- both have as many words
  pub words_closed_count : length C.words ≡ length P.words
  words_closed_count = as_many P 0 P.words C.words h.words

  no_closed_word : (w : ℕ) (o : Option WordDef) → slice_get C.words w ≡ o → slice_get P.words w ≡ None → o ≡ None
  no_closed_word w None is none = refl
  no_closed_word w (Some c) is none = let found = word_open w c is in let clash : Some found.def ≡ None = sym found.at ∙ none in absurd cc

  no_open_word : (w : ℕ) (o : Option WordDef) → slice_get P.words w ≡ o → slice_get C.words w ≡ None → o ≡ None
  no_open_word w None is none = refl
  no_open_word w (Some d) is none = let found = word_closed w d is in let clash : Some found.closed ≡ None = sym found.at ∙ none in absurd cc

  -- a number without a word in one has none in the other
  pub word_closed_none : (w : ℕ) → slice_get P.words w ≡ None → slice_get C.words w ≡ None
  word_closed_none w none = no_closed_word w (slice_get C.words w) refl none

  pub word_open_none : (w : ℕ) → slice_get C.words w ≡ None → slice_get P.words w ≡ None
  word_open_none w none = no_open_word w (slice_get P.words w) refl none

literal_among : (P : Program) (ls : List Quoted) (ts : List Template) (k : ℕ) (t : Template) → CloseLiterals P ls ts → slice_get ts k ≡ Some t → (l : Quoted) × (slice_get ls k ≡ Some l) × ClosesLiteral P l t
literal_among P [] ts k t h is = let none : slice_get [] k ≡ Some t = sym (ap (λ (xs : List Template). slice_get xs k) h) ∙ is in absurd cc
literal_among P (l ∷ ls) ts zero t h is =
    let first : Some h.0 ≡ Some t = sym (ap (λ (xs : List Template). slice_get xs 0) h.2) ∙ is in
    let same : h.0 ≡ t = cc in
    (l, refl, subst (λ (u : Template). ClosesLiteral P l u) same h.3)
literal_among P (l ∷ ls) ts (suc k) t h is = literal_among P ls h.1 k t h.4 (sym (ap (λ (xs : List Template). slice_get xs (suc k)) h.2) ∙ is)

none_among : (P : Program) (ls : List Quoted) (ts : List Template) (k : ℕ) → CloseLiterals P ls ts → slice_get ts k ≡ None → slice_get ls k ≡ None
none_among P [] ts k h is = refl
none_among P (l ∷ ls) ts zero h is = let clash : Some h.0 ≡ None = sym (ap (λ (xs : List Template). slice_get xs 0) h.2) ∙ is in absurd cc
none_among P (l ∷ ls) ts (suc k) h is = none_among P ls h.1 k h.4 (sym (ap (λ (xs : List Template). slice_get xs (suc k)) h.2) ∙ is)

as_many_templates : (P : Program) (ls : List Quoted) (ts : List Template) → CloseLiterals P ls ts → length ts ≡ length ls
as_many_templates P [] ts h = ap length h
as_many_templates P (l ∷ ls) ts h = ap length h.2 ∙ ap suc (as_many_templates P ls h.1 h.4)

module _ (P C : Program) (templates : List Template) (h : Closes P C templates) where
  -- each template is that of the literal of its number
  pub template_closed : (k : ℕ) (t : Template) → slice_get templates k ≡ Some t → ClosesLiteral P (literal_numbered P k) t
  template_closed k t is =
      let found = literal_among P (literals P) templates k t h.templates_are is in subst (λ (l : Quoted). ClosesLiteral P l t) (sym (ap (literal_or P k) found.1)) found.2

  -- a number without a template has no literal
  pub template_closed_none : (k : ℕ) → slice_get templates k ≡ None → slice_get (literals P) k ≡ None
  template_closed_none k is = none_among P (literals P) templates k h.templates_are is

  -- there are as many templates as literals
  pub templates_count : length templates ≡ length (literals P)
  templates_count = as_many_templates P (literals P) templates h.templates_are
