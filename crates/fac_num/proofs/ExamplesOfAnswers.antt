-- Examples of what is answered to a text, and of quotients and remainders.
use Rattle.std.proofs.Common.{◌≡◌, ◌^◌, ◌-◌, pos, negsuc, Some, None, Ok, Err, refl}
use Rattle.std.specs.Prelude.{codes}
use Rattle.fac_num.specs.declared.read.NumFault.TheVariants.{NotNumber, TooWide}
use Rattle.fac_num.specs.Reading.{ReadsInt}
use Rattle.fac_num.specs.Quotients.{quotient, remainder}

pub reads_commas : ReadsInt (codes "-1,000") (Ok (negsuc 999))
reads_commas = (refl, refl)

pub reads_least : ReadsInt (codes "-0x80000000000000000000000000000000") (Ok (negsuc (2 ^ 127 - 1)))
reads_least = (refl, refl)

pub reads_too_wide : ReadsInt (codes "0x80000000000000000000000000000000") (Err TooWide)
reads_too_wide = (pos (2 ^ 127), refl, refl)

-- a wide number and a character that is no digit
pub reads_no_number : ReadsInt (codes "0x80000000000000000000000000000000g") (Err NotNumber)
reads_no_number = refl

pub quotient_toward_zero : quotient (negsuc 6) (pos 2) ≡ Some (negsuc 2)
quotient_toward_zero = refl

pub quotient_by_zero : quotient (pos 7) (pos 0) ≡ None
quotient_by_zero = refl

pub quotient_of_least : quotient (negsuc (2 ^ 127 - 1)) (negsuc 0) ≡ None
quotient_of_least = refl

pub remainder_of_negative : remainder (negsuc 6) (pos 2) ≡ Some (negsuc 0)
remainder_of_negative = refl

pub remainder_by_negative : remainder (pos 7) (negsuc 1) ≡ Some (pos 1)
remainder_by_negative = refl

pub remainder_by_zero : remainder (pos 7) (pos 0) ≡ None
remainder_by_zero = refl

pub remainder_of_least : remainder (negsuc (2 ^ 127 - 1)) (negsuc 0) ≡ Some (pos 0)
remainder_of_least = refl
