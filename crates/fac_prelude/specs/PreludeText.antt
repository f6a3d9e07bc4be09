-- The text of the prelude, which stands in the code.
use Rattle.std.specs.Prelude.{ℕ, List}
use Rattle.fac_prelude.specs.declared.TheConstants.{PRELUDE}

-- the text of file 0 of every program
unfoldable pub prelude_text : List ℕ
prelude_text = PRELUDE.now
