-- Inner contracts: how a text's forms are read.
use Rattle.std.specs.Prelude.{ℕ, List, Result, Ok, Err}
use Rattle.fac_source.specs.declared.tree.Form.{Form}
use Rattle.fac_notes.specs.Sources.{no_tokens, no_tree, tree}
use Rattle.fac_judge.specs.declared.reading.Unread.{Unread}
use Rattle.fac_judge.specs.declared.reading.Unread.TheVariants as unread
use Rattle.fac_judge.specs.TextSources.{IsReadAs}

-- the forms of a text, or why it has none
abbrev pub ReadsText : ℕ → List ℕ → Result (List Form) Unread → Type 0
ReadsText file text (Ok forms) = IsReadAs file text (tree forms)
ReadsText file text (Err (unread.NoTokens at why)) = IsReadAs file text (no_tokens at why)
ReadsText file text (Err (unread.NoTree at why)) = IsReadAs file text (no_tree at why)
ReadsText file text (Err unread.Memory) = Unit {0}
