use denote.Param.Send.{sendable}
use Rattle.std.proofs.Common.{◌≡◌, List, map, ap, ◌∙◌}
use Rattle.std.proofs.lemmas.Result.{IfOk-weaker}
use Rattle.fac_base.proofs.list.List.TheSendSync as lists
use Rattle.fac_code.proofs.image.Instr.TheSendSync as instrs
use Rattle.fac_code.specs.declared.image.Instr.{Instr}
use Rattle.fac_par.specs.Pieces.{MeetEach}
use Rattle.fac_emit.specs.inner.Pieces.{template_codes, template_piece_code}
use Rattle.fac_emit.proofs.CodeLists.{MeetsTemplate, all_met}
use Rattle.fac_emit.proofs.Crossings.{template_piece_sync}
use Rattle.fac_emit.proofs.pieces.codes_of_templates.Goals as goal

pub map_pieces-requires-sync-P : goal.map_pieces-requires-sync-P
map_pieces-requires-sync-P g c κs within = search (sendable, template_piece_sync) depth 20

pub map_pieces-requires-send-P-Out : goal.map_pieces-requires-send-P-Out
map_pieces-requires-send-P-Out g c κs within = search (sendable, lists.the_send, instrs.the_send) depth 20

pub returns : goal.returns
returns g c =
    let pieces = c.as_slice.result.now in
    let made : map template_piece_code pieces ≡ template_codes c.args.emission.now = rw c.as_slice.ensures.value c.in_ok-pieces.ensures in
    IfOk-weaker c.map_pieces.result (λ (codes : List (List Instr)). MeetEach MeetsTemplate pieces codes) (λ codes. codes ≡ template_codes c.args.emission.now) (λ codes met. all_met template_piece_code pieces codes met ∙ made) c.map_pieces.ensures
