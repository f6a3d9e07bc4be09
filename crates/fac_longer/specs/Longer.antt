-- A program that goes on with another one, as far as a walk asks.
use Rattle.std.specs.Prelude.{◌≡◌, ℕ, nat_eq, nat_lt, List, length, true, false, Option, Some, slice_get}
use Rattle.fac_lang.specs.Phrases.{Phrase, Mark}
use Rattle.fac_base.specs.Signatures.{Signature}
use Rattle.fac_abs.specs.RowVariables.{Row}
use Rattle.fac_lang.specs.Meaning.{names}
use Rattle.fac_lang.specs.declared.program.Program.{Program}
use Rattle.fac_lang.specs.declared.program.Sort.TheVariants.{Body as body}
use Rattle.fac_lang.specs.declared.program.WordDef.{WordDef}
use Rattle.fac_abs.specs.Marks.{AbstractStack}
use Rattle.fac_check.specs.Flow.{walked, found}

-- What stands in the first stands in the second, but for the phrase of the first.
pub record GoesOn (P Q : Program) : Type 0 where
  pub words : (w : ℕ) (d : WordDef) → slice_get P.words w ≡ Some d → nat_eq w P.top ≡ false → slice_get Q.words w ≡ Some d
  pub effects : (w : ℕ) (d : WordDef) → slice_get P.words w ≡ Some d → (c : WordDef) × (slice_get Q.words w ≡ Some c) × (c.effect ≡ d.effect)
  pub below : (w : ℕ) (d : WordDef) → slice_get P.words w ≡ Some d → nat_eq w Q.top ≡ false
  pub phrase : (w : ℕ) (d : WordDef) → slice_get P.words w ≡ Some d → nat_eq w P.top ≡ true → (t : Phrase) × (d.sort ≡ body t)
  pub arrays : (a : ℕ) → nat_lt a (length P.arrays) ≡ true → nat_lt a (length Q.arrays) ≡ true
  pub tuples : (w : ℕ) (c : ℕ × ℕ) → (names P).tuple_class w ≡ Some c → (names Q).tuple_class w ≡ Some c

-- what a walk found it finds again
abbrev pub FoundStays : Type 0
FoundStays =
    (P Q : Program) → GoesOn P Q → (e : Option Signature) (own : Option ℕ) (w : ℕ) (t : Phrase) (b : Option Row) (ms : List Mark) (A : AbstractStack) (n : ℕ) →
    walked P e own w t b ms ≡ found A n → walked Q e own w t b ms ≡ found A n
