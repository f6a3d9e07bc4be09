-- Lines of listings.
use Rattle.std.proofs.Common.{◌≡◌, [], ◌∷◌, refl}
use Rattle.std.specs.Prelude.{codes, negsuc, true, false, None, Some}
use Rattle.std.specs.Fmt.{digits}
use Rattle.fac_code.specs.declared.image.Instr.TheVariants.{Halt, Int, CallEffect, Callw, Jump}
use Rattle.fac_bytes.specs.Listings.{instr_line, lines_from, start_line}

pub halts : instr_line 0 Halt ≡ codes "       0 halt\n"
unfolding digits
halts = refl

-- a negative integer, and a place of nine digits
pub pushes : instr_line 123456789 (Int (negsuc 2)) ≡ codes "123456789 int -3\n"
unfolding digits
pushes = refl

-- ( x -- y ), and a callable that never returns
pub tests : instr_line 10 (CallEffect (record { ins = 1; outs = Some 1 }) false) ≡ codes "      10 callx 1 2 0\n"
unfolding digits
tests = refl

pub tests_end : instr_line 10 (CallEffect (record { ins = 2; outs = None }) true) ≡ codes "      10 callx 2 0 1\n"
unfolding digits
tests_end = refl

-- one line behind the other
pub lines : lines_from 7 (Callw 3 true ∷ Jump 12 ∷ []) ≡ codes "       7 callw 3 1\n       8 jump 12\n"
unfolding digits
lines = refl

pub starts : start_line 41 ≡ codes "start 41\n"
unfolding digits
starts = refl
