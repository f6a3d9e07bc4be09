-- What the threads that make code may share, and what they hand back.
use denote.Param.Send.{IsSync, sendable}
use Rattle.fac_base.proofs.list.List.TheSendSync as lists
use Rattle.fac_classes.proofs.classes.Classes.TheSendSync as classes
use Rattle.fac_locals.proofs.Crossings.{closed_sync}
use Rattle.fac_emit.proofs.texts.Texts.TheSendSync as texts
use Rattle.fac_emit.specs.contracts.emission.Emission as Emission
use Rattle.fac_emit.specs.contracts.pieces.TemplatePiece as TemplatePiece
use Rattle.fac_emit.specs.contracts.pieces.WordPiece as WordPiece

emission_sync : (ls : _) → IsSync (Emission.the_row ls)
emission_sync ls = search (sendable, closed_sync, texts.the_sync, lists.the_sync, classes.the_sync) depth 20

pub word_piece_sync : (ks ls : _) → IsSync (WordPiece.the_row ks ls)
word_piece_sync ks ls = search (sendable, emission_sync) depth 20

pub template_piece_sync : (ks ls : _) → IsSync (TemplatePiece.the_row ks ls)
template_piece_sync ks ls = search (sendable, emission_sync) depth 20
