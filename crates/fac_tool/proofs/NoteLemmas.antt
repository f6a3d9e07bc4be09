-- An empty note and no lines, of which nothing is written, and endings that are told.
use Rattle.std.proofs.Common.{◌≡◌, ◌<◌, ℕ, List, [], ◌∷◌, Ok, inr, refl, subst, arith}
use Rattle.std.specs.Prelude.{length}
use Rattle.fac_io.specs.Told.{SinkTold, TookWhole}
use Rattle.fac_lines.specs.Channels.{ChannelsTold, TakesPiece}
use Rattle.fac_tool.specs.declared.ended.Ended.{Ended}
use Rattle.fac_tool.specs.SeenObjects.{SinkSeen}
use Rattle.fac_tool.specs.ToldNotes.{memory_note}
use Rattle.fac_tool.specs.Answers.{TellsBy, TellsNote, unnoted}
use Rattle.fac_tool.proofs.EarlyEnds.{grows_nothing}

pub took_no_note : (told : SinkTold) (note : List ℕ) → length note ≡ 0 → TookWhole told told note
took_no_note told [] e = record { taken = grows_nothing told.taken; pieces = grows_nothing told.pieces }
took_no_note told (b ∷ bs) e = absurd (omega (arith, e))

pub wrote_no_lines : {A E : Type 0} (told : ChannelsTold) (lines : List ℕ) (done : A) → length lines ≡ 0 → TakesPiece {A = A} {E = E} told told lines (Ok done)
wrote_no_lines told lines done e = record {
  took = took_no_note told.output lines e;
  cause = record { later = omega arith; cause = λ failed. absurd (cc) };
  no_fault = refl;
  unread = record { input = refl; faults = refl };
}

-- an ending is told by what is equal to its note
pub told_so :
    (note other : List ℕ) (reached another : Ended) (notes : SinkSeen) (ended : Ended) → note ≡ other → reached ≡ another → TellsBy note reached notes ended → TellsBy other another notes ended
told_so note other reached another notes ended e d h =
    subst (λ (n : List ℕ). TellsBy n another notes ended) e (subst (λ (x : Ended). TellsBy note x notes ended) d h)

pub no_memory_for_note : (note : List ℕ) (reached : Ended) (notes : SinkSeen) (ended : Ended) → 0 < length note → TellsBy memory_note (unnoted reached) notes ended → TellsNote note reached notes ended
no_memory_for_note note reached notes ended some noted = inr (record { some = some; noted = noted })
