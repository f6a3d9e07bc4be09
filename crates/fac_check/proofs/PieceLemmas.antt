-- What the pieces of all words and of all templates come to.
use Rattle.std.proofs.Common.{◌≡◌, ℕ, zero, suc, ◌+◌, List, [], ◌∷◌, length, map, All, Some, Option, refl, subst, arith, ap, ◌∙◌}
use Rattle.std.specs.Prelude.{slice_get}
use Rattle.std.proofs.lemmas.List.Elements.{All-nil, All-cons}
use Rattle.fac_base.specs.declared.height.Height.{Height}
use Rattle.fac_lang.specs.declared.program.Program.{Program}
use Rattle.fac_lang.specs.declared.program.WordDef.{WordDef}
use Rattle.fac_lang.specs.Whole.{IsWhole}
use Rattle.fac_abs.specs.InTurn.{FitsInTurn}
use Rattle.fac_par.specs.Pieces.{MeetEach}
use Rattle.fac_locals.specs.Closed.{Closes}
use Rattle.fac_locals.specs.declared.closing.Closed.{Closed}
use Rattle.fac_locals.proofs.Lookups.{words_closed_count}
use Rattle.fac_check.specs.Verdicts.{word_verdict}
use Rattle.fac_check.specs.Judged.{AreVerdicts, IsVerdict, numbered, verdict_seen, verdicts_from}
use Rattle.fac_check.specs.TemplateEffects.{AreEffects, IsEffect}
use Rattle.fac_check.specs.declared.checker.Verdict.{Verdict}
use Rattle.fac_check.specs.declared.pieces.WordPiece.{WordPiece}
use Rattle.fac_check.specs.declared.pieces.TemplatePiece.{TemplatePiece}
use Rattle.fac_check.specs.inner.Pieces.{AreTemplatePieces, AreWordPieces, IsReadyTemplate, IsReadyWord, IsTemplatePiece, IsWordPiece}

module _ {X : Type 0} (ok : ℕ → X → Type 0) where
  -- what holds of each element that passes a test with its place
  each_all : (holds : X → Type 0) → ((k : ℕ) (x : X) → ok k x → holds x) → (k : ℕ) (xs : List X) → FitsInTurn ok k xs → All holds xs
  each_all holds so k [] each = All-nil holds
  each_all holds so k (x ∷ xs) each = All-cons holds x xs (so k x each.0) (each_all holds so (suc k) xs each.1)

  -- the element that is found at a place
  each_found : (k : ℕ) (xs : List X) (n : ℕ) (x : X) → FitsInTurn ok k xs → slice_get xs n ≡ Some x → ok (k + n) x
  each_found k [] n x each found = absurd cc
  each_found k (y ∷ xs) zero x each found =
      let same : y ≡ x = cc in
      let here : k ≡ k + 0 = omega arith in
      subst (λ (z : X). ok (k + 0) z) same (subst (λ (i : ℕ). ok i y) here each.0)
  each_found k (y ∷ xs) (suc n) x each found =
      let there : suc k + n ≡ k + suc n = omega arith in
      subst (λ (i : ℕ). ok i x) there (each_found (suc k) xs n x each.1 found)

module _ {P O : Type 0} (meets : P → O → Type 0) where
  -- there are as many results as pieces
  met_count : (ps : List P) (os : List O) → MeetEach meets ps os → length os ≡ length ps
  met_count [] [] met = refl
  met_count [] (o ∷ os) met = absurd met
  met_count (p ∷ ps) [] met = absurd met
  met_count (p ∷ ps) (o ∷ os) met = ap suc (met_count ps os met.1)

  -- what the results of numbered pieces are, with their places
  met_each : (is : ℕ → P → Type 0) (ok : ℕ → O → Type 0) → ((k : ℕ) (p : P) (o : O) → is k p → meets p o → ok k o) → (k : ℕ) (ps : List P) (os : List O) → FitsInTurn is k ps → MeetEach meets ps os → FitsInTurn ok k os
  met_each is ok so k [] [] each met = tt
  met_each is ok so k [] (o ∷ os) each met = absurd met
  met_each is ok so k (p ∷ ps) [] each met = absurd met
  met_each is ok so k (p ∷ ps) (o ∷ os) each met = (so k p o each.0 met.0, met_each is ok so (suc k) ps os each.1 met.1)

pub words_ready : (closed : Closed) (pieces : List WordPiece) → FitsInTurn (IsWordPiece closed) 0 pieces → All IsReadyWord pieces
words_ready closed pieces each = each_all (IsWordPiece closed) IsReadyWord (λ k p is. is.ready) 0 pieces each

pub templates_ready : (closed : Closed) (pieces : List TemplatePiece) → FitsInTurn (IsTemplatePiece closed) 0 pieces → All IsReadyTemplate pieces
templates_ready closed pieces each = each_all (IsTemplatePiece closed) IsReadyTemplate (λ k p is. is.ready) 0 pieces each

-- what the check of a piece meets
abbrev pub MeetsWord : WordPiece → Verdict → Type 0
MeetsWord p v = IsVerdict p.closed.now p.number v

-- what the effect of a piece meets
abbrev pub MeetsTemplate : TemplatePiece → Option Height → Type 0
MeetsTemplate p h = IsEffect p.closed.now p.number h

-- verdicts on all words, each on the word with its number
all_verdicts_are : (closed : Closed) (verdicts : List Verdict) → FitsInTurn (IsVerdict closed) 0 verdicts → length verdicts ≡ length closed.program.words → AreVerdicts closed verdicts
all_verdicts_are closed verdicts each many = λ P closes whole.
    let count : length closed.program.words ≡ length P.words = words_closed_count P closed.program closed.templates closes in
    onward P closes whole 0 P.words verdicts (λ k d found. (let same : k ≡ 0 + k = omega arith in subst (λ (n : ℕ). slice_get P.words n ≡ Some d) same found)) each (many ∙ count)
  where
    onward :
        (P : Program) → Closes P closed.program closed.templates → IsWhole P → (w : ℕ) (ds : List WordDef) (vs : List Verdict) →
        ((k : ℕ) (d : WordDef) → slice_get ds k ≡ Some d → slice_get P.words (w + k) ≡ Some d) → FitsInTurn (IsVerdict closed) w vs → length vs ≡ length ds → map verdict_seen vs ≡ verdicts_from P closed.start w ds
    onward P closes whole w [] [] places each many = refl
    onward P closes whole w [] (v ∷ vs) places each many = absurd (omega (arith, many))
    onward P closes whole w (d ∷ ds) [] places each many = absurd (omega (arith, many))
    onward P closes whole w (d ∷ ds) (v ∷ vs) places each many =
        let none : w + 0 ≡ w = omega arith in
        let here : slice_get P.words w ≡ Some d = subst (λ (n : ℕ). slice_get P.words n ≡ Some d) none (places 0 d refl) in
        let one : verdict_seen v ≡ numbered w (word_verdict P closed.start w d) = each.0 P closes whole d here in
        let rest = onward P closes whole (suc w) ds vs (λ k x found. (let next : w + suc k ≡ suc w + k = omega arith in subst (λ (n : ℕ). slice_get P.words n ≡ Some x) next (places (suc k) x found))) each.1 (omega (arith, many)) in
        ap (λ x. x ∷ map verdict_seen vs) one ∙ ap (λ xs. numbered w (word_verdict P closed.start w d) ∷ xs) rest

-- The results of the pieces of all words are the verdicts on all words.
pub verdicts_of : (closed : Closed) (pieces : List WordPiece) (verdicts : List Verdict) → AreWordPieces closed pieces → MeetEach MeetsWord pieces verdicts → AreVerdicts closed verdicts
verdicts_of closed pieces verdicts are met =
    all_verdicts_are closed verdicts (met_each MeetsWord (IsWordPiece closed) (IsVerdict closed) verdict_of 0 pieces verdicts are.each met) (met_count MeetsWord pieces verdicts met ∙ are.all)
  where
    verdict_of : (k : ℕ) (p : WordPiece) (v : Verdict) → IsWordPiece closed k p → MeetsWord p v → IsVerdict closed k v
    verdict_of k p v is met = subst (λ (n : ℕ). IsVerdict closed n v) is.number_is (subst (λ (c : Closed). IsVerdict c p.number v) is.same met)

-- The results of the pieces of all templates are the effects of all templates.
pub effects_of : (closed : Closed) (pieces : List TemplatePiece) (heights : List (Option Height)) → AreTemplatePieces closed pieces → MeetEach MeetsTemplate pieces heights → AreEffects closed heights
effects_of closed pieces heights are met = record {
  count = met_count MeetsTemplate pieces heights met ∙ are.all;
  each = λ k h found.
      let same : 0 + k ≡ k = omega arith in
      subst (λ (n : ℕ). IsEffect closed n h) same
      (each_found (IsEffect closed) 0 heights k h (met_each MeetsTemplate (IsTemplatePiece closed) (IsEffect closed) effect_of 0 pieces heights are.each met) found);
}
  where
    effect_of : (k : ℕ) (p : TemplatePiece) (h : Option Height) → IsTemplatePiece closed k p → MeetsTemplate p h → IsEffect closed k h
    effect_of k p h is met = subst (λ (n : ℕ). IsEffect closed n h) is.number_is (subst (λ (c : Closed). IsEffect c p.number h) is.same met)
