use denote.Param.Send.{sendable}
use Rattle.std.proofs.Common.{◌+◌}
use Rattle.fac_trees.proofs.Crossings.{tree_send}
use Rattle.fac_trees.proofs.PieceLemmas.{on_ok, trees_are}
use Rattle.fac_trees.proofs.pieces.trees_of.Goals as goal

pub map_pieces-requires-send-P-Out : goal.map_pieces-requires-send-P-Out
map_pieces-requires-send-P-Out g c κs within = search (sendable, tree_send) depth 20

pub returns : goal.returns
returns g c =
    on_ok c.map_pieces.result c.map_pieces.ensures
    (λ trees met. trees_are (c.args.before + 1) c.args.texts.now c.as_slice.result.now trees (rw c.as_slice.ensures.value c.in_ok-pieces.ensures) met)
