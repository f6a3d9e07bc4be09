use Rattle.std.proofs.Common.{length, ap, arith}
use Rattle.fac_tool.proofs.ReadingLemmas.{more_between, ends_between}
use Rattle.fac_tool.proofs.reading.take_in_turn.Goals as goal

pub returns-in-Err : goal.returns-in-Err
returns-in-Err c =
    ends_between c.every_text_is_a_source.ensures c.args.texts c.texts.left c.take.new.self c.args.before c.args.count c.texts.file c.texts.sum c.in-Some.text c.args.resolver.now c.texts.resolver c.take_text.new.resolver c.in-Err.ended c.in-Some.ensures c.texts.invariant.taken c.in-Err.ensures

pub texts-preserved : goal.texts-preserved
texts-preserved c =
    record {
      taken = more_between c.args.texts c.texts.left c.take.new.self c.args.before c.args.count c.texts.file c.texts.sum c.in-Ok.more c.in-Some.text c.args.resolver.now c.texts.resolver c.take_text.new.resolver c.in-Some.ensures c.texts.invariant.taken c.in-Ok.ensures;
      all = omega (arith, ap length c.in-Some.ensures, c.texts.invariant.all);
    }
