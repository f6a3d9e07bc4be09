-- What items come to behind their readings.
use Rattle.std.specs.Prelude.{List, []}
use Rattle.fac_lang.specs.declared.program.Lit.{Lit}
use Rattle.fac_vocab.specs.Scopes.{Scope}
use Rattle.fac_items.specs.Written.{Nodes}
use Rattle.fac_items.specs.Readings.{read_items}
use Rattle.fac_items.specs.Items.{Made, is_cond, phrase_of}

abbrev pub nodes_read : Scope → Nodes → Nodes
nodes_read s ns = read_items (is_cond s) [] ns

-- their phrase, and the literal arrays with theirs
abbrev pub made : Scope → Nodes → List (List Lit) → Made
made s ns arrays = phrase_of s [] (nodes_read s ns) arrays 0
