use Rattle.std.proofs.Common.{◌++◌, arith}
use Rattle.fac_lines.specs.inner.Reading.{ReadsOn}
use Rattle.fac_lines.proofs.AnswerLemmas.{more_on, cut_answer, cut_fault, still_open}
use Rattle.fac_lines.proofs.reading.read_line.Goals as goal

pub returns-in-Ok-Some-clause-reads : goal.returns-in-Ok-Some-clause-reads
returns-in-Ok-Some-clause-reads g c =
    let on : ReadsOn (g.S.Source.left c.args.source.now) (g.S.Source.left c.fill.new.source) c.args.front.now (c.reading.front ++ c.fill.new.self) =
    more_on _ (g.S.Source.left c.reading.source) _ _ c.reading.front c.fill.new.self c.reading.invariant.on c.reading.invariant.begun c.in-Ok.ensures.bytes.0 (omega (arith, c.in-Ok.ensures.bytes.1, c.in-Ok.field-0-test)) in
    cut_answer _ _ _ _ _ c.reading.front c.fill.new.self c.in-Ok-Some.line c.cut_line.new.front c.cut_line.new.piece on (still_open _ _ c.requires.open_end) (rw c.in-Ok-Some.field-0-is at c.in-Ok-Some.ensures.cuts)

pub returns-in-Err-cut_line-clause-reads : goal.returns-in-Err-cut_line-clause-reads
returns-in-Err-cut_line-clause-reads g c =
    let on : ReadsOn (g.S.Source.left c.args.source.now) (g.S.Source.left c.fill.new.source) c.args.front.now (c.reading.front ++ c.fill.new.self) =
    more_on _ (g.S.Source.left c.reading.source) _ _ c.reading.front c.fill.new.self c.reading.invariant.on c.reading.invariant.begun c.in-Ok.ensures.bytes.0 (omega (arith, c.in-Ok.ensures.bytes.1, c.in-Ok.field-0-test)) in
    cut_fault _ _ _ _ _ c.reading.front c.fill.new.self c.in-Err-cut_line.fault c.cut_line.new.front c.cut_line.new.piece on (still_open _ _ c.requires.open_end) c.in-Err-cut_line.ensures.cuts
