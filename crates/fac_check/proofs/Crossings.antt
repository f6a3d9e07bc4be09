-- The types that the checker's threads may share beside a closed program.
use denote.Param.Send.{IsSync, sendable}
use Rattle.std.proofs.Crossing.{Vec-sync, Box-sync}
use Rattle.fac_base.proofs.list.List.TheSendSync as lists
use Rattle.fac_base.proofs.text.Text.TheSendSync as texts
use Rattle.fac_base.proofs.boxed.Boxed.TheSendSync as boxes
use Rattle.fac_base.proofs.effect.Effect.TheLaws.TheKnot.{sync-Effect}
use Rattle.fac_base.specs.contracts.effect.Effect as Effect
use Rattle.fac_locals.proofs.Crossings.{closed_sync}
use Rattle.fac_rows.specs.contracts.row_effect.RowEffect as RowEffect
use Rattle.fac_rows.specs.contracts.row_words.RowWords as RowWords
use Rattle.fac_check.specs.contracts.pieces.WordPiece as WordPiece
use Rattle.fac_check.specs.contracts.pieces.TemplatePiece as TemplatePiece

effect_sync : IsSync Effect.the_row
effect_sync = search (sendable, sync-Effect, Vec-sync, Box-sync, lists.the_sync, texts.the_sync) depth 20

row_sync : IsSync RowEffect.the_row
row_sync = search (sendable, effect_sync) depth 20

rows_sync : IsSync RowWords.the_row
rows_sync = search (sendable, lists.the_sync, boxes.the_sync, row_sync) depth 20

pub word_piece_sync : (ls : _) → IsSync (WordPiece.the_row ls)
word_piece_sync ls = search (sendable, closed_sync, rows_sync, lists.the_sync) depth 20

pub template_piece_sync : (ls : _) → IsSync (TemplatePiece.the_row ls)
template_piece_sync ls = search (sendable, closed_sync, rows_sync) depth 20
