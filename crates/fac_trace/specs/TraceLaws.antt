-- Laws of the walk with origins.
use Rattle.std.specs.Prelude.{◌≡◌, ℕ, List, length, Option, Some, None}
use Rattle.fac_base.specs.Signatures.{Signature}
use Rattle.fac_lang.specs.Phrases.{Phrase, Mark}
use Rattle.fac_lang.specs.declared.program.Program.{Program}
use Rattle.fac_lang.specs.declared.program.WordDef.{WordDef}
use Rattle.fac_abs.specs.RowVariables.{Row}
use Rattle.fac_abs.specs.Marks.{AbstractStack, dead, on}
use Rattle.fac_abs.specs.declared.rule.Rule.{Rule}
use Rattle.fac_abs.specs.declared.rule.Rule.TheVariants.{Underflow}
use Rattle.fac_check.specs.Flow.{Walked, walked}
use Rattle.fac_check.specs.Flow as checked
use Rattle.fac_check.specs.Verdicts.{word_verdict, verdict}
use Rattle.fac_check.specs.declared.refusal.Broken.{Broken}
use Rattle.fac_trace.specs.declared.origin.Origin.{Origin}
use Rattle.fac_trace.specs.Origins.{Listed}
use Rattle.fac_trace.specs.Traced.{Fault, Traced, found, refused, Stack, traced}
use Rattle.fac_trace.specs.Traces.{word_trace, first_trace}

-- a walk without its origins
abbrev pub without_origins : Traced Stack → Walked AbstractStack
without_origins (found A n) = checked.found A.0 n
without_origins (refused f) = checked.refused f.rule f.place

-- Without its origins the walk is that of the checker: it finds the same stack and as many items may be walked then, or the same rule is broken at the same place.
abbrev pub WalksWithoutOrigins : Type 0
WalksWithoutOrigins =
    (P : Program) (e : Option Signature) (own : Option ℕ) (w : ℕ) (t : Phrase) (b : Option Row) (ms : List Mark) (os : List Origin) → without_origins (traced P e own w t b ms os) ≡ walked P e own w t b ms

-- there is an origin for each mark; a dead stack has none
abbrev pub AreNamed : AbstractStack → List Origin → Type 0
AreNamed dead os = Unit {0}
AreNamed (on b ms) os = length os ≡ length ms

-- where a rule says how many values there are, as many are told
abbrev pub TellsAll : Rule → Option Listed → Type 0
TellsAll (Underflow needs has) (Some s) = length s.values ≡ has
TellsAll _ _ = Unit {0}

abbrev pub HasOrigins : Traced Stack → Type 0
HasOrigins (found A n) = AreNamed A.0 A.1
HasOrigins (refused f) = TellsAll f.rule f.before

-- From a stack with an origin for each mark the walk finds one with an origin for each mark, or tells as many values as its rule says that there are.
abbrev pub OriginsStandBesideMarks : Type 0
OriginsStandBesideMarks =
    (P : Program) (e : Option Signature) (own : Option ℕ) (w : ℕ) (t : Phrase) (b : Option Row) (ms : List Mark) (os : List Origin) → length os ≡ length ms → HasOrigins (traced P e own w t b ms os)

-- a fault as the checker names it
abbrev pub broken_rule : Option Fault → Option Broken
broken_rule None = None
broken_rule (Some f) = Some (record { rule = f.rule; place = f.place })

abbrev pub broken_word : Option (ℕ × Fault) → Option (ℕ × Broken)
broken_word None = None
broken_word (Some f) = Some (f.0, record { rule = f.1.rule; place = f.1.place })

-- What is told of a word is its verdict, and what is told of a program is the verdict on it.
pub record TracesAreVerdicts : Type 0 where
  pub words : (P : Program) (start w : ℕ) (d : WordDef) → broken_rule (word_trace P start w d) ≡ word_verdict P start w d
  pub programs : (P : Program) (start : ℕ) → broken_word (first_trace P start) ≡ verdict P start
