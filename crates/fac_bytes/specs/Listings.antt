-- The listing of an image: its code as text.
use Rattle.std.specs.Prelude.{ℕ, suc, ◌+◌, ◌-◌, List, [], ◌∷◌, ◌++◌, length, Bool, true, false, Option, Some, None, codes, decimal, replicate}
use Rattle.std.specs.Fmt.{signed_decimal}
use Rattle.fac_code.specs.declared.image.Instr.{Instr}
use Rattle.fac_code.specs.declared.instr_row.Operand.{Operand}
use Rattle.fac_code.specs.declared.instr_row.Operand.TheVariants as o
use Rattle.fac_code.specs.InstrRows.{RowSeen, row_of}
use Rattle.fac_code.specs.declared.image.Image.{Image}

-- whether a call is a tail call
abbrev pub flag : Bool → ℕ
flag false = 0
flag true = 1

-- how many values a callable leaves: 0 where it never returns, and one more than their number else
abbrev pub left_number : Option ℕ → ℕ
left_number None = 0
left_number (Some k) = k + 1

-- a number behind a space
abbrev pub spaced : ℕ → List ℕ
spaced n = 32 ∷ decimal n

-- what an instruction is given
abbrev pub operand_text : Operand → List ℕ
operand_text o.Nothing = []
operand_text (o.Integer z) = 32 ∷ signed_decimal z
operand_text (o.Height h) = spaced h.ins ++ spaced (left_number h.outs)
operand_text (o.Number r k) = spaced k

abbrev pub tail_text : Option Bool → List ℕ
tail_text None = []
tail_text (Some t) = spaced (flag t)

-- a name with what is behind it
abbrev pub row_text : RowSeen → List ℕ
row_text r = r.name ++ operand_text r.operand ++ tail_text r.tail

-- an instruction with its operands
abbrev pub instr_text : Instr → List ℕ
instr_text i = row_text (row_of i)

-- a number in at least eight places, at their right
abbrev pub aligned : ℕ → List ℕ
aligned n = replicate (8 - length (decimal n)) 32 ++ decimal n

-- the line of an instruction at a place
abbrev pub instr_line : ℕ → Instr → List ℕ
instr_line at i = aligned at ++ codes " " ++ instr_text i ++ codes "\n"

-- those of the instructions from a place on
abbrev pub lines_from : ℕ → List Instr → List ℕ
lines_from at [] = []
lines_from at (i ∷ is) = instr_line at i ++ lines_from (suc at) is

-- the line of the place where a run begins
abbrev pub start_line : ℕ → List ℕ
start_line start = codes "start " ++ decimal start ++ codes "\n"

-- the listing
abbrev pub listing : Image → List ℕ
listing M = lines_from 0 M.code ++ start_line M.start
