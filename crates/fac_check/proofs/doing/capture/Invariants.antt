use Rattle.std.proofs.Common.{◌≡◌, ◌++◌, List, drop}
use Rattle.std.specs.Prelude.{option_map}
use Rattle.fac_lang.specs.Phrases.{Item}
use Rattle.fac_abs.specs.MarkTrees.{Naming}
use Rattle.fac_abs.specs.SeenMarks.{IsFrame, Grows, frame_of}
use Rattle.fac_locals.specs.Frames.{items_at}
use Rattle.fac_check.specs.inner.Walking.{items_of}
use Rattle.fac_check.proofs.doing.capture.Given as goal

abbrev pub invariant-loop-cell : goal.invariant-loop-cell
invariant-loop-cell l = record {
  grows : Grows l.initial.marks l.marks;
  frame : IsFrame l.marks l.made;
  same : (N : Naming) → items_at l.captures (items_of (frame_of N l.initial.marks l.frame)) ≡ option_map (λ (is : List Item). items_of (frame_of N l.marks l.made) ++ is) (items_at (drop l.cell-index l.captures) (items_of (frame_of N l.initial.marks l.frame)));
}
