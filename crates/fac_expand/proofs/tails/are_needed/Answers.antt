use Rattle.std.proofs.Common.{◌≡◌, ◌+◌, ℕ, Some, true, arith, sym, subst, below_more}
use Rattle.std.proofs.lemmas.Option.{slice_get_within}
use Rattle.std.specs.Prelude.{slice_get}
use Rattle.fac_code.specs.declared.image.Instr.{Instr}
use Rattle.fac_code.specs.declared.image.Instr.TheVariants.{Ret}
use Rattle.fac_carry.specs.Direct.{ComesTo, leaves_entry}
use Rattle.fac_expand.proofs.RunMoves.{same_found}
use Rattle.fac_expand.proofs.tails.are_needed.Goals as goal

pub loop-at-init : goal.loop-at-init
loop-at-init c = λ k lt. absurd (omega (arith, lt))

pub loop-at-preserved : goal.loop-at-preserved
loop-at-preserved c =
    let M = c.args.image.now in
    let at = c.loop-at.at in
    below_more (λ (k : ℕ). (i : Instr) → slice_get M.code k ≡ Some i → leaves_entry M i ≡ true → (b : ℕ) → ComesTo M Ret (k + 1) b → ⊥) at c.loop-at.invariant
    (λ i e. subst (λ (j : Instr). leaves_entry M j ≡ true → (b : ℕ) → ComesTo M Ret (at + 1) b → ⊥) (same_found (slice_get M.code at) c.in-Some.instr.now i (sym c.in-Some.ensures) e) (c.is_needed.ensures c.in-true.is))

pub returns : goal.returns
returns c =
    λ t pc b i e leaves.
    let within = slice_get_within c.args.image.now.code pc i e in
    let past = c.loop-at-test.false in
    let many = c.len-at-end.ensures in
    c.loop-at.invariant pc (omega (arith, within, past, many)) i e leaves b
