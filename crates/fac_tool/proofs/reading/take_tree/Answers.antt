use Rattle.fac_tool.proofs.ReadingLemmas.{wanted_for_text, tree_forms, tree_no_tokens, tree_no_tree}
use Rattle.fac_tool.proofs.reading.take_tree.Goals as goal

pub returns-in-NoTokens : goal.returns-in-NoTokens
returns-in-NoTokens c = tree_no_tokens c.every_text_is_a_source.ensures c.args.file c.args.tree c.in-NoTokens.fault _ c.in-NoTokens.is c.no_tokens.ensures

pub returns-in-NoTree : goal.returns-in-NoTree
returns-in-NoTree c = tree_no_tree c.every_text_is_a_source.ensures c.args.file c.args.tree c.in-NoTree.fault _ c.in-NoTree.is c.no_tree.ensures

pub take_whole-requires : goal.take_whole-requires
take_whole-requires c = tree_forms c.args.file c.args.tree c.in-Forms.forms c.in-Forms.is c.requires

pub returns-in-Err : goal.returns-in-Err
returns-in-Err c = λ text comes. wanted_for_text c.every_text_is_a_source.ensures c.args.file text _ c.bare.ensures
