use Rattle.fac_tool.proofs.Composing.{ends_on_trees}
use Rattle.fac_tool.proofs.SourceLemmas.{trees_fit}
use Rattle.fac_tool.proofs.accepting.name_texts.Goals as goal

pub returns-in-Err-end_names : goal.returns-in-Err-end_names
returns-in-Err-end_names g c =
    let texts = c.args.texts in
    let read = c.in-Ok.ensures in
    ends_on_trees texts read.files c.in-Err-end_names.ended read.are_trees (c.in-Err-end_names.ensures read.files (trees_fit texts read.files read.are_trees) read.taken)

pub returns-in-Ok-end_names : goal.returns-in-Ok-end_names
returns-in-Ok-end_names g c =
    let read = c.in-Ok.ensures in
    let is = c.in-Ok-end_names.ensures read.files (trees_fit c.args.texts read.files read.are_trees) read.taken in
    record { files = read.files; are_trees = read.are_trees; resolves = is.0; whole = is.1; counts = read.counts }
