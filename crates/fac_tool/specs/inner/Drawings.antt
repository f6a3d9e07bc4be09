-- Inner contracts: a text that was drawn.
use Rattle.std.specs.Prelude.{◌≡◌, ℕ, [], ◌∷◌, length}
use Rattle.fac_gen.specs.Generated.{generated}
use Rattle.fac_tool.specs.declared.drawing.Drawn.{Drawn}

-- the text of so many words of this seed, alone, and its length
pub record IsDrawn (seed words : ℕ) (drawn : Drawn) : Type 0 where
  pub texts : drawn.texts ≡ generated seed words ∷ []
  pub bytes : drawn.bytes ≡ length (generated seed words)
