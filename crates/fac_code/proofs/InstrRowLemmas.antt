-- Instructions made of their codes: rows and the list of instructions by code say the same.
use Rattle.std.proofs.Common.{◌≡◌, ◌<◌, ◌+◌, ℕ, zero, suc, List, [], ◌∷◌, length, get_or, Bool, true, false, ◌&&◌, refl, ◌∙◌, arith, subst}
use Rattle.std.specs.Prelude.{nat_eq}
use Rattle.std.proofs.lemmas.Bool.{eqb-true}
use Rattle.fac_code.specs.declared.image.Instr.{Instr}
use Rattle.fac_code.specs.declared.image.Instr.TheVariants.{Halt}
use Rattle.fac_code.specs.declared.instr_row.Operand.{Operand}
use Rattle.fac_code.specs.declared.instr_row.Operand.TheVariants.{Nothing}
use Rattle.fac_code.specs.declared.instr_row.TheConstants.{INSTR_COUNT}
use Rattle.fac_code.specs.InstrRows.{row_of, Maker, makers, given_nothing, made, blank, tail_in, refilled, retailed}

-- an instruction of its code and what it is given is itself
pub made_again : (i : Instr) → made (row_of i).code (row_of i).operand (tail_in (row_of i).tail) ≡ i
unfolding makers
made_again Halt = refl
made_again _ = refl

-- an instruction has the code that it is made of, and what of the rest its kind has
pub record Filled (k : ℕ) (i : Instr) (op : Operand) (t : Bool) (x : Instr) : Type 0 where
  pub code : (row_of x).code ≡ k
  pub operand : (row_of x).operand ≡ refilled (row_of i).operand op
  pub tail : (row_of x).tail ≡ retailed (row_of i).tail t

filled : (i : Instr) (op : Operand) (t : Bool) → Filled (row_of i).code i op t (made (row_of i).code op t)
unfolding makers
filled Halt op t = record { code = refl; operand = refl; tail = refl }
filled _ op t = record { code = refl; operand = refl; tail = refl }

-- each instruction of the list has its place as its code
abbrev in_place : ℕ → List Maker → Bool
in_place k [] = true
in_place k (f ∷ fs) = nat_eq (row_of (f Nothing false)).code k && in_place (suc k) fs

all_in_place : in_place 0 makers ≡ true
unfolding makers
all_in_place = refl

many : length makers ≡ INSTR_COUNT
unfolding makers
many = refl

both : (a b : Bool) → (a && b) ≡ true → (a ≡ true) × (b ≡ true)
both true b h = (refl, h)
both false b h = absurd cc

place_of : (fs : List Maker) (start k : ℕ) → in_place start fs ≡ true → k < length fs → (row_of (get_or fs k (given_nothing Halt) Nothing false)).code ≡ start + k
place_of [] start k h lt = absurd (omega arith)
place_of (f ∷ fs) start zero h lt = let e : start + 0 ≡ start = omega arith in rw e (eqb-true (row_of (f Nothing false)).code start (both (nat_eq (row_of (f Nothing false)).code start) (in_place (suc start) fs) h).0)
place_of (f ∷ fs) start (suc k) h lt =
    let e : start + suc k ≡ suc start + k = omega arith in
    rw e (place_of fs (suc start) k (both (nat_eq (row_of (f Nothing false)).code start) (in_place (suc start) fs) h).1 (omega arith))

code_of : (k : ℕ) → k < INSTR_COUNT → (blank k).code ≡ k
code_of k lt = let e : 0 + k ≡ k = omega arith in place_of makers 0 k all_in_place (rw many lt) ∙ e

pub made_filled : (k : ℕ) (op : Operand) (t : Bool) → k < INSTR_COUNT → Filled k (made k Nothing false) op t (made k op t)
made_filled k op t lt = let i = made k Nothing false in subst (λ (c : ℕ). Filled c i op t (made c op t)) (code_of k lt) (filled i op t)
