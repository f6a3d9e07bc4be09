-- What the checker's answers say of a program.
use Rattle.std.specs.Prelude.{◌≡◌, ℕ, suc, List, [], ◌∷◌, map, Bool, Some, None, slice_get}
use Rattle.std.specs.declared.option.Option.{Option}
use Rattle.fac_lang.specs.declared.phrase.Template.{Template}
use Rattle.fac_lang.specs.declared.program.Program.{Program}
use Rattle.fac_lang.specs.declared.program.WordDef.{WordDef}
use Rattle.fac_lang.specs.Whole.{IsWhole}
use Rattle.fac_locals.specs.Closed.{Closes}
use Rattle.fac_locals.specs.declared.closing.Closed.{Closed}
use Rattle.fac_check.specs.Verdicts.{undeclared, word_verdict, verdict}
use Rattle.fac_check.specs.declared.refusal.Broken.{Broken}
use Rattle.fac_check.specs.declared.refusal.Refusal.{Refusal}
use Rattle.fac_check.specs.declared.checker.Verdict.{Verdict}
use Rattle.fac_check.specs.declared.checker.Verdict.TheVariants.{Accepted, Refused}

-- a broken rule, and where, with the number of the word that breaks it
abbrev pub Numbered : Type 0
Numbered = ℕ × Broken

abbrev pub refusal_seen : Refusal → Numbered
refusal_seen r = (r.word, r.broken)

abbrev pub refusal_if : Option Refusal → Option Numbered
refusal_if None = None
refusal_if (Some r) = Some (refusal_seen r)

abbrev pub verdict_seen : Verdict → Option Numbered
verdict_seen Accepted = None
verdict_seen (Refused r) = Some (refusal_seen r)

-- the first of several that is there
abbrev pub first_of : List (Option Numbered) → Option Numbered
first_of [] = None
first_of (None ∷ rest) = first_of rest
first_of (Some r ∷ rest) = Some r

-- the verdict on word w, with its number
abbrev pub numbered : ℕ → Option Broken → Option Numbered
numbered w None = None
numbered w (Some r) = Some (w, r)

-- the verdicts on words, from word w on
abbrev pub verdicts_from : Program → ℕ → ℕ → List WordDef → List (Option Numbered)
verdicts_from P start w [] = []
verdicts_from P start w (d ∷ ds) = numbered w (word_verdict P start w d) ∷ verdicts_from P start (suc w) ds

-- the verdicts on all words of a program
abbrev pub all_verdicts : Program → ℕ → List (Option Numbered)
all_verdicts P start = verdicts_from P start 0 P.words

-- a closed program stands for a whole one
abbrev pub StandsForWhole : Closed → Type 0
StandsForWhole closed = (P : Program) × Closes P closed.program closed.templates × IsWhole P

-- something that holds of each whole program for which a closed one stands
abbrev pub OfEach : Closed → (Program → Type 0) → Type 0
OfEach closed holds = (P : Program) → Closes P closed.program closed.templates → IsWhole P → holds P

-- the verdict on the word of this number
abbrev pub IsVerdict : Closed → ℕ → Verdict → Type 0
IsVerdict closed w v = OfEach closed (λ P. (d : WordDef) → slice_get P.words w ≡ Some d → verdict_seen v ≡ numbered w (word_verdict P closed.start w d))

-- these are the verdicts on all words, in their order
abbrev pub AreVerdicts : Closed → List Verdict → Type 0
AreVerdicts closed verdicts = OfEach closed (λ P. map verdict_seen verdicts ≡ all_verdicts P closed.start)

-- The first refusal among the verdicts on all words in their order is the verdict on the program.
abbrev pub FirstRefusalIsVerdict : Type 0
FirstRefusalIsVerdict = (closed : Closed) (verdicts : List Verdict) (first : Option Refusal) → AreVerdicts closed verdicts → refusal_if first ≡ first_of (map verdict_seen verdicts) → OfEach closed (λ P. verdict P closed.start ≡ refusal_if first)

-- the program is accepted
abbrev pub IsAccepted : Closed → Type 0
IsAccepted closed = OfEach closed (λ P. verdict P closed.start ≡ None)

-- for each of the words from word w on, whether it breaks the rule of undeclared recursion
abbrev pub undeclared_from : Program → ℕ → List WordDef → List Bool
undeclared_from P w [] = []
undeclared_from P w (d ∷ ds) = undeclared P w d ∷ undeclared_from P (suc w) ds

-- for each word whether it breaks that rule
abbrev pub AreUndeclared : Program → List Template → List Bool → Type 0
AreUndeclared C templates flags = (P : Program) → Closes P C templates → flags ≡ undeclared_from P 0 P.words
