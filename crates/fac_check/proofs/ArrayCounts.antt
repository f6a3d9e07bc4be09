-- A closed program has as many literal arrays as the program.
use Rattle.std.proofs.Common.{◌≡◌, ℕ, suc, List, [], ◌∷◌, length, ap, ◌∙◌}
use Rattle.fac_lang.specs.declared.phrase.Template.{Template}
use Rattle.fac_lang.specs.declared.program.Lit.{Lit}
use Rattle.fac_lang.specs.declared.program.Program.{Program}
use Rattle.fac_locals.specs.Closed.{Closes, CloseArrays}

as_many_arrays : (P : Program) (a : ℕ) (lss css : List (List Lit)) → CloseArrays P a lss css → length css ≡ length lss
as_many_arrays P a [] css h = ap length h
as_many_arrays P a (ls ∷ lss) css h = ap length h.3 ∙ ap suc (as_many_arrays P (suc a) lss h.2 h.5)

-- a closed program has as many literal arrays as the program
pub arrays_closed_count : (P C : Program) (ts : List Template) → Closes P C ts → length C.arrays ≡ length P.arrays
arrays_closed_count P C ts h = as_many_arrays P 0 P.arrays C.arrays h.arrays
