-- What a caller concludes from an answer, in the words of the language's meaning.
use Rattle.std.proofs.Common.{◌≡◌, ℕ, ℤ, Bool, true, false, List, Option, Some, None, Ok, Err, refl, ◌∙◌, ap}
use Rattle.std.specs.Prelude.{int_div, int_rem}
use Rattle.fac_base.specs.Numbers.{in_range, is_zero, signed_in, integer_in}
use Rattle.fac_num.specs.declared.read.NumFault.{NumFault}
use Rattle.fac_num.specs.declared.read.NumFault.TheVariants.{NotNumber, TooWide}
use Rattle.fac_num.specs.Reading.{ReadsInt}
use Rattle.fac_num.specs.Quotients.{quotient, remainder}

integer_after : (text : List ℕ) (o : Option ℤ) → signed_in text ≡ o → integer_in text ≡ elim o [ None ↦ None | Some z ↦ in_range z ]
integer_after text o e = ap (λ (x : Option ℤ). elim x [ None ↦ None | Some z ↦ in_range z ]) e

-- a text that is read is an integer in range
pub read_is_integer : (text : List ℕ) (z : ℤ) → ReadsInt text (Ok z) → integer_in text ≡ Some z
read_is_integer text z reads = reads.1

-- a text that is refused isn't
pub refused_is_none : (text : List ℕ) (fault : NumFault) → ReadsInt text (Err fault) → integer_in text ≡ None
refused_is_none text NotNumber reads = integer_after text None reads
refused_is_none text TooWide reads = integer_after text (Some reads.0) reads.1 ∙ reads.2

zero_by : (b : Bool) (o : Option ℤ) → b ≡ false → ◌≡◌ {A = Option ℤ} (elim b [ true ↦ None | false ↦ o ]) o
zero_by true o e = cc
zero_by false o e = refl

-- the quotient and the remainder by a number that isn't 0
pub quotient_nonzero : (a b : ℤ) → is_zero b ≡ false → quotient a b ≡ in_range (int_div a b)
quotient_nonzero a b e = zero_by (is_zero b) (in_range (int_div a b)) e

pub remainder_nonzero : (a b : ℤ) → is_zero b ≡ false → remainder a b ≡ Some (int_rem a b)
remainder_nonzero a b e = zero_by (is_zero b) (Some (int_rem a b)) e
