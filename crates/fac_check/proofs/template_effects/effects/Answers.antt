use denote.Param.Send.{sendable}
use Rattle.std.proofs.Common.{All, List, subst, sym}
use Rattle.std.proofs.lemmas.Result.{IfOk-weaker}
use Rattle.fac_par.specs.Pieces.{MeetEach}
use Rattle.fac_check.specs.TemplateEffects.{AreEffects}
use Rattle.fac_check.specs.declared.pieces.TemplatePiece.{TemplatePiece}
use Rattle.fac_check.specs.inner.Pieces.{IsReadyTemplate}
use Rattle.fac_check.proofs.Crossings.{template_piece_sync}
use Rattle.fac_check.proofs.PieceLemmas.{MeetsTemplate, effects_of}
use Rattle.fac_check.proofs.template_effects.effects.Goals as goal

pub map_pieces-requires-sync-P : goal.map_pieces-requires-sync-P
map_pieces-requires-sync-P g c κs within = search (sendable, template_piece_sync) depth 20

pub map_pieces-requires-after_bounds : goal.map_pieces-requires-after_bounds
map_pieces-requires-after_bounds g c κs within = subst (λ (ps : List TemplatePiece). All IsReadyTemplate ps) (sym c.as_slice.ensures.value) c.in_ok-pieces.ensures.ready

pub returns : goal.returns
returns g c =
    let closed = c.args.closed.now in
    let pieces = c.as_slice.result.now in
    IfOk-weaker c.map_pieces.result (λ heights. MeetEach MeetsTemplate pieces heights) (AreEffects closed) (λ heights met. effects_of closed pieces heights (rw c.as_slice.ensures.value c.in_ok-pieces.ensures.pieces) met) c.map_pieces.ensures
