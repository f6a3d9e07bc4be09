-- The text of each run error.
use Rattle.std.specs.Prelude.{ℕ, List, codes}
use Rattle.fac_lang.specs.declared.error_name.ErrorName.{ErrorName}
use Rattle.fac_lang.specs.declared.error_name.ErrorName.TheVariants as error

abbrev pub error_text : ErrorName → List ℕ
error_text error.NotInteger = codes "not-integer"
error_text error.NotSequence = codes "not-sequence"
error_text error.NotTuple = codes "not-tuple"
error_text error.NoSlot = codes "no-slot"
error_text error.NoMethod = codes "no-method"
error_text error.NoNextMethod = codes "no-next-method"
error_text error.WrongValues = codes "wrong-values"
error_text error.Thrown = codes "thrown"
error_text error.BadText = codes "bad-text"
error_text error.Overflow = codes "overflow"
error_text error.ZeroDivisor = codes "zero-divisor"
error_text error.Bounds = codes "bounds"
error_text error.Length = codes "length"
error_text error.NoCond = codes "no-cond"
error_text error.NoCompare = codes "no-compare"
error_text error.CompareTooLarge = codes "compare-too-large"
error_text error.TextTooLong = codes "text-too-long"
