-- What uses of a program's words are to become.
use Rattle.std.specs.Prelude.{◌≡◌, ℕ, List, true, false, Some, codes}
use Rattle.fac_lang.specs.declared.program.WordDef.{WordDef}
use Rattle.fac_expand.specs.declared.plan.Use.{Use}
use Rattle.fac_expand.specs.declared.plan.Use.TheVariants.{Called}
use Rattle.fac_expand.specs.DirectInPlace.{takes_one, takes_two}

-- a word has this name in the vocabulary `kernel`
abbrev pub IsOfKernel : WordDef → List ℕ → Type 0
IsOfKernel d name = (d.name.vocab ≡ codes "kernel") × (d.name.name ≡ name)

-- A use of a word suits it: it is a call exactly where the word isn't inline, and that of `loop`, `while` and `until` is named.
pub record SuitsUse (d : WordDef) (u : Use) : Type 0 where
  pub called : d.inline ≡ false → u ≡ Called
  pub not_inline : u ≡ Called → d.inline ≡ false
  pub loops : d.inline ≡ true → IsOfKernel d (codes "loop") → takes_one (Some u) ≡ true
  pub whiles : d.inline ≡ true → IsOfKernel d (codes "while") → takes_two (Some u) ≡ true
  pub untils : d.inline ≡ true → IsOfKernel d (codes "until") → takes_two (Some u) ≡ true
