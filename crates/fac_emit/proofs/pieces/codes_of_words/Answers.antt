use denote.Param.Send.{sendable}
use Rattle.std.proofs.Common.{◌≡◌, List, map, ap, ◌∙◌}
use Rattle.std.proofs.lemmas.Result.{IfOk-weaker}
use Rattle.fac_base.proofs.list.List.TheSendSync as lists
use Rattle.fac_code.proofs.image.Instr.TheSendSync as instrs
use Rattle.fac_code.specs.declared.image.Instr.{Instr}
use Rattle.fac_par.specs.Pieces.{MeetEach}
use Rattle.fac_emit.specs.inner.Pieces.{word_codes, word_piece_code}
use Rattle.fac_emit.proofs.CodeLists.{MeetsWord, all_met}
use Rattle.fac_emit.proofs.Crossings.{word_piece_sync}
use Rattle.fac_emit.proofs.pieces.codes_of_words.Goals as goal

pub map_pieces-requires-sync-P : goal.map_pieces-requires-sync-P
map_pieces-requires-sync-P g c κs within = search (sendable, word_piece_sync) depth 20

pub map_pieces-requires-send-P-Out : goal.map_pieces-requires-send-P-Out
map_pieces-requires-send-P-Out g c κs within = search (sendable, lists.the_send, instrs.the_send) depth 20

pub returns : goal.returns
returns g c =
    let pieces = c.as_slice.result.now in
    let made : map word_piece_code pieces ≡ word_codes c.args.emission.now = rw c.as_slice.ensures.value c.in_ok-pieces.ensures in
    IfOk-weaker c.map_pieces.result (λ (codes : List (List Instr)). MeetEach MeetsWord pieces codes) (λ codes. codes ≡ word_codes c.args.emission.now) (λ codes met. all_met word_piece_code pieces codes met ∙ made) c.map_pieces.ensures
