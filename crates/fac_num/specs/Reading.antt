-- What reading a text as an integer answers.
use Rattle.std.specs.Prelude.{◌≡◌, ℕ, ℤ, List, Some, None, Result, Ok, Err}
use Rattle.fac_base.specs.Numbers.{signed_in, integer_in, in_range}
use Rattle.fac_num.specs.declared.read.NumFault.{NumFault}
use Rattle.fac_num.specs.declared.read.NumFault.TheVariants.{NotNumber, TooWide}

-- the integer that the text writes, where it is in range; that the text is in none of the forms; or that it writes an integer out of range
abbrev pub ReadsInt : List ℕ → Result ℤ NumFault → Type 0
ReadsInt text (Ok z) = (signed_in text ≡ Some z) × (integer_in text ≡ Some z)
ReadsInt text (Err NotNumber) = signed_in text ≡ None
ReadsInt text (Err TooWide) = (z : ℤ) × (signed_in text ≡ Some z) × (in_range z ≡ None)
