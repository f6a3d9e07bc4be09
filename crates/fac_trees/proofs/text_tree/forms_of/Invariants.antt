use Rattle.fac_parse.specs.Handed.{HasHandedOut, calls_left}
use Rattle.fac_trees.proofs.text_tree.forms_of.Given as goal

abbrev pub invariant-handing : goal.invariant-handing
invariant-handing l = HasHandedOut l.fn.tokens l.forms.items l.parser

abbrev pub decreases-handing : goal.decreases-handing
decreases-handing l = calls_left l.parser
