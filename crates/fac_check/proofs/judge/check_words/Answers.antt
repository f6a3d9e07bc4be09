use denote.Param.Send.{sendable}
use Rattle.std.proofs.lemmas.Result.{IfOk-weaker}
use Rattle.fac_par.specs.Pieces.{MeetEach}
use Rattle.fac_check.specs.Judged.{AreVerdicts}
use Rattle.fac_check.proofs.Crossings.{word_piece_sync}
use Rattle.fac_check.proofs.PieceLemmas.{MeetsWord, verdicts_of}
use Rattle.fac_check.proofs.judge.check_words.Goals as goal

pub map_pieces-requires-sync-P : goal.map_pieces-requires-sync-P
map_pieces-requires-sync-P g c κs within = search (sendable, word_piece_sync) depth 20

pub returns : goal.returns
returns g c =
    let closed = c.args.closed.now in
    let pieces = c.as_slice.result.now in
    IfOk-weaker c.map_pieces.result (λ verdicts. MeetEach MeetsWord pieces verdicts) (AreVerdicts closed) (λ verdicts met. verdicts_of closed pieces verdicts (rw c.as_slice.ensures.value c.in_ok-pieces.ensures.pieces) met) c.map_pieces.ensures
