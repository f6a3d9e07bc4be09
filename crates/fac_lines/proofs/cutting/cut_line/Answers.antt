use Rattle.std.proofs.Common.{◌+◌, ◌-◌, ◌∙◌, arith, ap, length, drop, take, ◌++◌, List, ℕ}
use Rattle.fac_base.specs.declared.limits.TheConstants.{MOST_LINE_BYTES}
use Rattle.fac_lines.specs.LineReads.{line_length}
use Rattle.fac_lines.proofs.CutLemmas.{front_joined, cut_found, cut_long}
use Rattle.fac_lines.proofs.cutting.cut_line.Goals as goal

pub skip-requires : goal.skip-requires
skip-requires c = omega (arith, c.length_of_line-count.ensures.most, ap length c.as_slice.ensures, c.if-count-room.true, c.len-room.ensures, c.requires.most)

pub returns-then-count-room-clause-cuts : goal.returns-then-count-room-clause-cuts
returns-then-count-room-clause-cuts c =
    cut_long c.args.front.now c.args.piece.now _ _ c.length_of_line-count.result c.requires (c.length_of_line-count.ensures.length ∙ ap line_length c.as_slice.ensures) (omega (arith, c.if-count-room.true, c.len-room.ensures, c.requires.most)) c.new.ensures (c.skip.ensures ∙ ap (λ n. drop (MOST_LINE_BYTES - n + 1) c.args.piece.now) c.len-room.ensures)

pub returns-then-count-as_slice-clause-front : goal.returns-then-count-as_slice-clause-front
returns-then-count-as_slice-clause-front c =
    front_joined c.args.front.now c.args.piece.now _ c.length_of_line-count.result c.requires (c.length_of_line-count.ensures.length ∙ ap line_length c.as_slice.ensures) (omega (arith, c.if-count-room.false, c.len-room.ensures, c.requires.most)) (c.in_ok-extend.ensures.ok ∙ ap (λ (t : List ℕ). c.args.front.now ++ take c.length_of_line-count.result t) c.as_slice-2.ensures)

pub returns-clause-cuts : goal.returns-clause-cuts
returns-clause-cuts c =
    cut_found c.args.front.now c.args.piece.now _ _ _ c.length_of_line-count.result c.requires (c.length_of_line-count.ensures.length ∙ ap line_length c.as_slice.ensures) (omega (arith, c.length_of_line-count.ensures.most, ap length c.as_slice.ensures, ap length c.as_slice-3.ensures, c.if-count-as_slice.false)) (omega (arith, c.if-count-room.false, c.len-room.ensures, c.requires.most)) (c.replace.ensures.value ∙ c.in_ok-extend.ensures.ok ∙ ap (λ (t : List ℕ). c.args.front.now ++ take c.length_of_line-count.result t) c.as_slice-2.ensures) (c.replace.ensures.after ∙ c.new-2.ensures) c.skip-2.ensures
