use Rattle.std.proofs.lemmas.Result.{on_ok_weaker}
use Rattle.fac_trees.proofs.PieceLemmas.{text_added}
use Rattle.fac_trees.specs.TextTrees.{texts_in}
use Rattle.std.proofs.Common.{◌++◌}
use Rattle.fac_trees.proofs.parts.add_text.Goals as goal

pub returns : goal.returns
returns c =
    on_ok_weaker c.push.result (λ is. text_added (texts_in c.args.parts.now.items ++ c.args.last.now) c.make_room.new.parts.items c.make_room.new.last c.push.new.self c.args.text c.in_ok-make_room.ensures is) c.push.ensures.ok
