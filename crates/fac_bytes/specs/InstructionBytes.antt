-- The bytes of instructions: a code, and the operands as numbers.
use Rattle.std.specs.Prelude.{ℕ, suc, ◌-◌, ◌≡◌, List, [], ◌++◌, Bool, false, Option, Some, None, nat_eq, if◌then◌else◌, Ok}
use Rattle.fac_lang.specs.Primitives.{built_count}
use Rattle.fac_base.specs.declared.height.Height.{Height}
use Rattle.fac_code.specs.declared.image.Instr.{Instr}
use Rattle.fac_code.specs.declared.instr_row.Referent.{Referent}
use Rattle.fac_code.specs.declared.instr_row.Referent.TheVariants as of
use Rattle.fac_code.specs.declared.instr_row.Operand.{Operand}
use Rattle.fac_code.specs.declared.instr_row.Operand.TheVariants as o
use Rattle.fac_code.specs.declared.instr_row.TheConstants.{INSTR_COUNT}
use Rattle.fac_code.specs.InstrRows.{row_of, number_in, integer_in, height_in, tail_in, made, blank}
use Rattle.fac_spelling.specs.Formats.{Format, follow, seen, nothing, ◌>>=◌}
use Rattle.fac_spelling.specs.Numbers.{number, number32, shortest, greatest32}
use Rattle.fac_spelling.specs.Integers.{integer, zigzag}
use Rattle.fac_spelling.specs.Choices.{bit}

-- the number of the last primitive
abbrev pub last_primitive : ℕ
last_primitive = built_count - 1

-- how many values are left, as a number: 0 where it never returns, else one more than there are
abbrev pub outs_number : Option ℕ → ℕ
outs_number None = 0
outs_number (Some k) = suc k

abbrev pub number_outs : ℕ → Option ℕ
number_outs n = if nat_eq n 0 then None else Some (n - 1)

abbrev pub height_of : ℕ → ℕ → Height
height_of n o = record { ins = n; outs = number_outs o }

-- the greatest number of such a thing
abbrev pub greatest : Referent → ℕ
greatest of.Primitive = last_primitive
greatest _ = greatest32

-- one case of a type, by what it has
abbrev pub one_case : {A B : Type 0} → (B → A) → (A → B) → Format A → Format B
one_case to from f = record {
  Fits = λ y. f.Fits (to y) × (from (to y) ≡ y);
  spell = λ y. f.spell (to y);
  read = λ bytes. f.read bytes >>= λ p. Ok (from p.0, p.1);
}

abbrev pub height : Format Height
height = seen (λ h. (h.ins, outs_number h.outs)) (λ p. height_of p.0 p.1) (follow number32 (λ _. number32))

-- the operands of the kind of this one
abbrev pub operand : Operand → Format Operand
operand o.Nothing = nothing o.Nothing
operand (o.Integer z) = one_case integer_in (λ y. o.Integer y) integer
operand (o.Height h) = one_case height_in (λ y. o.Height y) height
operand (o.Number r k) = one_case number_in (λ y. o.Number r y) (number 0 (greatest r))

-- the flag of an instruction that may be a tail call
abbrev pub tail : Option Bool → Format Bool
tail None = nothing false
tail (Some t) = seen bit (λ n. nat_eq n 1) (number 0 1)

-- A code, an operand of the kind that the code's instruction has, and a flag where that has one.
abbrev pub instr : Format Instr
instr =
    seen (λ i. ((row_of i).code, ((row_of i).operand, tail_in (row_of i).tail))) (λ p. made p.0 p.1.0 p.1.1)
    (follow (number 0 (INSTR_COUNT - 1)) (λ k. follow (operand (blank k).operand) (λ _. tail (blank k).tail)))

-- ---- the same, by the row of an instruction

abbrev pub operand_bytes : Operand → List ℕ
operand_bytes o.Nothing = []
operand_bytes (o.Integer z) = shortest (zigzag z)
operand_bytes (o.Height h) = shortest h.ins ++ shortest (outs_number h.outs)
operand_bytes (o.Number r k) = shortest k

abbrev pub tail_bytes : Option Bool → List ℕ
tail_bytes None = []
tail_bytes (Some t) = shortest (bit t)
