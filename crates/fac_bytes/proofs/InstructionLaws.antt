-- The laws of the bytes of instructions, of each operand and of each row.
use Rattle.std.proofs.Common.{◌≡◌, ℕ, zero, suc, ◌-◌, ◌^◌, ◌<◌, Bool, true, false, List, ◌++◌, Option, Some, None, refl, sym, ap, subst, ◌∙◌, arith, append_assoc}
use Rattle.std.specs.Prelude.{nat_eq}
use Rattle.std.proofs.lemmas.Bool.{ne_eqb}
use Rattle.std.proofs.lemmas.Bool.Decides.{Decides-ltb}
use Rattle.fac_lang.specs.Primitives.{built_count}
use Rattle.fac_base.specs.declared.height.Height.{Height}
use Rattle.fac_code.specs.declared.image.Instr.{Instr}
use Rattle.fac_code.specs.declared.image.Instr.TheVariants.{Halt}
use Rattle.fac_code.specs.declared.instr_row.Referent.{Referent}
use Rattle.fac_code.specs.declared.instr_row.Referent.TheVariants as of
use Rattle.fac_code.specs.declared.instr_row.Operand.{Operand}
use Rattle.fac_code.specs.declared.instr_row.Operand.TheVariants as o
use Rattle.fac_code.specs.declared.instr_row.TheConstants.{INSTR_COUNT}
use Rattle.fac_code.specs.InstrRows.{row_of, number_in, integer_in, height_in, tail_in, refilled, retailed, makers, made, blank}
use Rattle.fac_code.proofs.InstrRowLemmas.{made_again, made_filled}
use Rattle.fac_spelling.specs.Formats.{Format, Exact, follow}
use Rattle.fac_spelling.specs.Numbers.{IsWithin, number, number32, shortest, greatest32}
use Rattle.fac_spelling.specs.Integers.{integer}
use Rattle.fac_spelling.specs.Choices.{bit}
use Rattle.fac_spelling.proofs.FormatLaws.{renamed, follow_exact, seen_exact, nothing_exact}
use Rattle.fac_spelling.proofs.NumberLaws.{number_exact}
use Rattle.fac_spelling.proofs.IntegerLaws.{integer_exact}
use Rattle.fac_spelling.proofs.ChoiceLaws.{bit_back, flag_back}
use Rattle.fac_bytes.specs.InstructionBytes.{last_primitive, outs_number, number_outs, height_of, greatest, one_case, height, operand, tail, operand_bytes, tail_bytes, instr}

pub last_small : last_primitive < 2 ^ 128
unfolding built_count
last_small = (Decides-ltb last_primitive (2 ^ 128)).0 refl

-- ---- how many values are left

pub outs_back : (n : ℕ) → outs_number (number_outs n) ≡ n
outs_back zero = refl
outs_back (suc n) = let e : nat_eq (suc n) 0 ≡ false = ne_eqb (suc n) 0 (λ z. omega arith) in rw e (omega arith)

pub number_back : (o : Option ℕ) → number_outs (outs_number o) ≡ o
number_back None = refl
number_back (Some k) = let e : nat_eq (suc k) 0 ≡ false = ne_eqb (suc k) 0 (λ z. omega arith) in let f : suc k - 1 ≡ k = omega arith in rw (e, f) refl

-- ---- operands

pub one_case_exact : {A B : Type 0} (to : B → A) (from : A → B) (f : Format A) → Exact f → ((x : A) → to (from x) ≡ x) → Exact (one_case to from f)
one_case_exact to from f e back = renamed f (one_case to from f) from (record {
  fits = λ x k. (subst f.Fits (sym (back x)) k, ap from (back x));
  spelled = λ x k. ap f.spell (back x);
  onto = λ y k. (to y, k.0, k.1);
  reads = λ bytes. refl;
}) e

height_back : (h : Height) → height_of h.ins (outs_number h.outs) ≡ h
height_back h = ap (λ (z : Option ℕ). record { ins = h.ins; outs = z }) (number_back h.outs)

height_exact : Exact height
height_exact =
    seen_exact (λ (h : Height). (h.ins, outs_number h.outs)) (λ (p : ℕ × ℕ). height_of p.0 p.1) (follow number32 (λ _. number32))
    (follow_exact number32 (λ _. number32) (number_exact 0 greatest32 (omega arith) (omega arith)) (λ x h. number_exact 0 greatest32 (omega arith) (omega arith)))
    (λ h _. height_back h)
    (λ p _. ap (λ (z : ℕ). (p.0, z)) (outs_back p.1))

greatest_small : (r : Referent) → greatest r < 2 ^ 128
greatest_small of.Primitive = last_small
greatest_small _ = omega arith

operand_exact : (op : Operand) → Exact (operand op)
operand_exact o.Nothing = nothing_exact o.Nothing
operand_exact (o.Integer z) = one_case_exact integer_in (λ y. o.Integer y) integer integer_exact (λ x. refl)
operand_exact (o.Height h) = one_case_exact height_in (λ y. o.Height y) height height_exact (λ x. refl)
operand_exact (o.Number r k) = one_case_exact number_in (λ y. o.Number r y) (number 0 (greatest r)) (number_exact 0 (greatest r) (omega arith) (greatest_small r)) (λ x. refl)

tail_exact : (t : Option Bool) → Exact (tail t)
tail_exact None = nothing_exact false
tail_exact (Some t) = seen_exact bit (λ n. nat_eq n 1) (number 0 1) (number_exact 0 1 (omega arith) (omega arith)) (λ b _. bit_back b) (λ n h. flag_back n h.below)

-- an operand of a kind that has a spelling is of that kind
refilled_same : (kind op : Operand) → (operand kind).Fits op → refilled kind op ≡ op
refilled_same o.Nothing op h = sym h
refilled_same (o.Integer z) op h = h.1
refilled_same (o.Height k) op h = h.1
refilled_same (o.Number r k) op h = h.1

retailed_same : (kind : Option Bool) (t : Bool) → (tail kind).Fits t → tail_in (retailed kind t) ≡ t
retailed_same None t h = sym h
retailed_same (Some k) t h = refl

-- ---- instructions

abbrev Parts : Type 0
Parts = ℕ × (Operand × Bool)

abbrev parts_of : Instr → Parts
parts_of i = ((row_of i).code, ((row_of i).operand, tail_in (row_of i).tail))

abbrev parts : Format Parts
parts = follow (number 0 (INSTR_COUNT - 1)) (λ k. follow (operand (blank k).operand) (λ _. tail (blank k).tail))

parts_exact : Exact parts
parts_exact =
    follow_exact (number 0 (INSTR_COUNT - 1)) (λ k. follow (operand (blank k).operand) (λ _. tail (blank k).tail)) (number_exact 0 (INSTR_COUNT - 1) (omega arith) (omega arith))
    (λ k w. follow_exact (operand (blank k).operand) (λ _. tail (blank k).tail) (operand_exact (blank k).operand) (λ op h. tail_exact (blank k).tail))

-- what is made of parts has these parts
parts_back : (p : Parts) → parts.Fits p → parts_of (made p.0 p.1.0 p.1.1) ≡ p
parts_back p h =
    let m = made_filled p.0 p.1.0 p.1.1 (omega (arith, h.0.below)) in
    rw (m.code, m.operand, m.tail, refilled_same (blank p.0).operand p.1.0 h.1.0, retailed_same (blank p.0).tail p.1.1 h.1.1) refl

pub instr_exact : Exact instr
instr_exact = seen_exact parts_of (λ (p : Parts). made p.0 p.1.0 p.1.1) parts parts_exact (λ i _. made_again i) parts_back

-- ---- what was written by the row, and what has a spelling by it

-- the bytes by the row
spelled : (i : Instr) → instr.spell i ≡ shortest (row_of i).code ++ (operand_bytes (row_of i).operand ++ tail_bytes (row_of i).tail)
unfolding makers
spelled Halt = refl
spelled _ = refl

pub instr_written : (i : Instr) (a b c d : List ℕ) → b ≡ a ++ shortest (row_of i).code → c ≡ b ++ operand_bytes (row_of i).operand → d ≡ c ++ tail_bytes (row_of i).tail → d ≡ a ++ instr.spell i
instr_written i a b c d p q r =
    let code = shortest (row_of i).code in
    let op = operand_bytes (row_of i).operand in
    let flag = tail_bytes (row_of i).tail in
    r ∙ ap (λ (z : List ℕ). z ++ flag) (q ∙ ap (λ (z : List ℕ). z ++ op) p) ∙ append_assoc (a ++ code) op flag ∙ append_assoc a code (op ++ flag) ∙ ap (λ (z : List ℕ). a ++ z) (sym (spelled i))

code_fits : (i : Instr) → IsWithin 0 (INSTR_COUNT - 1) (row_of i).code
code_fits Halt = record { above = omega arith; below = omega arith }
code_fits _ = record { above = omega arith; below = omega arith }

own_fits : (i : Instr) → (operand (row_of i).operand).Fits (row_of i).operand → (operand (blank (row_of i).code).operand).Fits (row_of i).operand
unfolding makers
own_fits Halt h = h
own_fits _ h = h

own_alone : (i : Instr) → (operand (blank (row_of i).code).operand).Fits (row_of i).operand → (operand (row_of i).operand).Fits (row_of i).operand
unfolding makers
own_alone Halt h = h
own_alone _ h = h

bit_fits : (t : Bool) → IsWithin 0 1 (bit t)
bit_fits true = record { above = omega arith; below = omega arith }
bit_fits false = record { above = omega arith; below = omega arith }

tail_fits : (t : Option Bool) → (tail t).Fits (tail_in t)
tail_fits None = refl
tail_fits (Some t) = bit_fits t

flag_fits : (i : Instr) → (tail (row_of i).tail).Fits (tail_in (row_of i).tail) → (tail (blank (row_of i).code).tail).Fits (tail_in (row_of i).tail)
unfolding makers
flag_fits Halt h = h
flag_fits _ h = h

pub instr_fits : (i : Instr) → (operand (row_of i).operand).Fits (row_of i).operand → instr.Fits i
instr_fits i h = (code_fits i, (own_fits i h, flag_fits i (tail_fits (row_of i).tail)))

-- what an instruction that has a spelling is given has one
pub operand_fits_so : (i : Instr) → instr.Fits i → (operand (row_of i).operand).Fits (row_of i).operand
operand_fits_so i h = own_alone i h.1.0
