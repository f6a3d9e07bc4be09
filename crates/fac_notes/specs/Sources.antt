-- What the text of a file comes to.
use Rattle.std.specs.Prelude.{ℕ, List}
use Rattle.fac_source.specs.declared.tree.Form.{Form}
use Rattle.fac_parse.specs.declared.reader.Why.{Why}
use Rattle.fac_notes.specs.declared.report.ByteFault.{ByteFault}

-- a fault of its tokens at a byte, a refusal at a token, or the forms of its tree
pub data Source : Type 0 where
  no_tokens : ℕ → ByteFault → Source
  no_tree : ℕ → Why → Source
  tree : List Form → Source
