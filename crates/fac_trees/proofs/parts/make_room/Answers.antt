use Rattle.std.proofs.Common.{◌∙◌}
use Rattle.fac_trees.proofs.PieceLemmas.{room_made}
use Rattle.fac_trees.proofs.parts.make_room.Goals as goal

pub returns : goal.returns
returns c =
    room_made c.args.parts.now.items c.push.new.self.items c.args.last.now c.replace-full.result c.replace-full.new.dest c.in_ok-push.ensures.items c.replace-full.ensures.value (c.replace-full.ensures.after ∙ c.new.ensures)
