-- The verdict on a program, from those on its words.
use Rattle.std.proofs.Common.{◌≡◌, ◌<◌, ◌+◌, ℕ, zero, suc, List, [], ◌∷◌, length, map, Bool, Option, Some, None, refl, sym, ap, subst, ◌∙◌, arith}
use Rattle.std.specs.Prelude.{slice_get}
use Rattle.fac_lang.specs.declared.program.Program.{Program}
use Rattle.fac_lang.specs.declared.program.WordDef.{WordDef}
use Rattle.fac_locals.specs.Closed.{Closes}
use Rattle.fac_locals.specs.declared.closing.Closed.{Closed}
use Rattle.fac_locals.proofs.Lookups.{words_closed_count}
use Rattle.fac_check.specs.declared.refusal.Broken.{Broken}
use Rattle.fac_check.specs.Verdicts.{undeclared, word_verdict, verdict_from, verdict}
use Rattle.fac_check.specs.Judged.{undeclared_from, AreUndeclared, OfEach, AreVerdicts, Numbered, first_of, numbered, verdicts_from, all_verdicts, verdict_seen}
use Rattle.fac_check.specs.declared.checker.Verdict.{Verdict}

-- the flag of a word
flag_there : (P : Program) (v w k : ℕ) (ds : List WordDef) (d : WordDef) (b : Bool) → w ≡ v + k → slice_get ds k ≡ Some d → slice_get (undeclared_from P v ds) k ≡ Some b → b ≡ undeclared P w d
flag_there P v w k [] d b e f g = absurd (cc)
flag_there P v w zero (x ∷ ds) d b e f g = (let same : x ≡ d = cc in let here : v ≡ w = omega (arith, e) in let value : undeclared P v x ≡ b = cc in sym value ∙ ap (λ n. undeclared P n x) here ∙ ap (λ y. undeclared P w y) same)
flag_there P v w (suc k) (x ∷ ds) d b e f g = flag_there P (suc v) w k ds d b (omega (arith, e)) f g

pub flag_is : (P C : Program) (templates : _) (closes : Closes P C templates) (flags : List Bool) → AreUndeclared C templates flags → (w : ℕ) (d : WordDef) (b : Bool) → slice_get P.words w ≡ Some d → slice_get flags w ≡ Some b → b ≡ undeclared P w d
flag_is P C templates closes flags are w d b e f = flag_there P 0 w w P.words d b (omega arith) e (subst (λ bs. slice_get bs w ≡ Some b) (are P closes) f)

-- each word has one
flags_counted : (P : Program) (v : ℕ) (ds : List WordDef) → length (undeclared_from P v ds) ≡ length ds
flags_counted P v [] = refl
flags_counted P v (d ∷ ds) = ap suc (flags_counted P (suc v) ds)

pub flag_exists : (P C : Program) (templates : _) → Closes P C templates → (flags : List Bool) → AreUndeclared C templates flags → (w : ℕ) → w < length C.words → w < length flags
flag_exists P C templates closes flags are w l =
    let many : length flags ≡ length C.words = ap length (are P closes) ∙ flags_counted P 0 P.words ∙ sym (words_closed_count P C templates closes) in
    omega (arith, l, many)

-- the first refusal among all verdicts is the program's
first_from : (P : Program) (start w : ℕ) (ds : List WordDef) → first_of (verdicts_from P start w ds) ≡ verdict_from P start w ds
first_from P start w [] = refl
first_from P start w (d ∷ ds) = by_case (word_verdict P start w d) (first_from P start (suc w) ds)
  where
    by_case : (o : Option Broken) → first_of (verdicts_from P start (suc w) ds) ≡ verdict_from P start (suc w) ds → first_of (numbered w o ∷ verdicts_from P start (suc w) ds) ≡ (elim o [ Some r ↦ Some (w, r) | None ↦ verdict_from P start (suc w) ds ])
    by_case None more = more
    by_case (Some r) more = refl

pub verdict_first : (P : Program) (start : ℕ) → first_of (all_verdicts P start) ≡ verdict P start
verdict_first P start = first_from P start 0 P.words

-- what the first refusal says of the program
pub judged_by : (closed : Closed) (vs : List Verdict) (found : Option Numbered) → AreVerdicts closed vs → found ≡ first_of (map verdict_seen vs) → OfEach closed (λ P. verdict P closed.start ≡ found)
judged_by closed vs found are e = λ P closes whole. sym (verdict_first P closed.start) ∙ ap first_of (sym (are P closes whole)) ∙ sym e
