use Rattle.fac_judge.proofs.reading.forms_of.Goals as goal

pub returns-in-NoTokens : goal.returns-in-NoTokens
returns-in-NoTokens c = c.no_tokens.ensures c.args.file c.args.text.now (rw c.in-NoTokens.is at c.in-Ok.ensures).0

pub returns-in-NoTree : goal.returns-in-NoTree
returns-in-NoTree c =
    let read = rw c.in-NoTree.is at c.in-Ok.ensures in
    c.no_tree.ensures c.args.file c.args.text.now read.0 read.1 read.2
