use Rattle.std.proofs.Common.{◌≤◌, length, string_bytes, arith}
use Rattle.std.specs.Str.{chars}
use Rattle.std.proofs.lemmas.List.{length_push}
use Rattle.std.proofs.lemmas.Iterator.{YieldsList-from_chars}
use Rattle.std.proofs.lemmas.Iterator.Consumers.{YieldsList-turn, YieldsList-end}
use Rattle.fac_token.proofs.StepLemmas.{begins, all_bytes, faulty, goes_on, counts_on, ends}
use Rattle.fac_token.proofs.scanner.read.Goals as goal

pub loop-c-init : goal.loop-c-init
loop-c-init c = record {
  so_far = begins c.args.file c.args.source.now _ _ c.new-tokens.ensures c.new-text.ensures.bytes;
  offset = all_bytes c.args.source.now c.utf8.source;
}

pub returns-in-Err : goal.returns-in-Err
returns-in-Err c =
    let t = YieldsList-turn (YieldsList-from_chars c.args.source.now c.utf8.source cc) c.loop-c.yielded _ c.loop-c.yielded_by _ _ c.in-Some.c c.in-Some.is c.next.ensures.steps in
    faulty c.args.file c.loop-c.at (length c.loop-c.yielded) c.in-Some.c c.args.source.now _ c.take_char.new.tokens (string_bytes c.take_char.new.text) c.in-Err.fault c.utf8.source t c.loop-c.invariant.so_far c.in-Err.ensures

pub loop-c-preserved : goal.loop-c-preserved
loop-c-preserved c =
    let t = YieldsList-turn (YieldsList-from_chars c.args.source.now c.utf8.source cc) c.loop-c.yielded _ c.loop-c.yielded_by _ _ c.in-Some.c c.in-Some.is c.next.ensures.steps in
    let n = length_push c.loop-c.yielded c.in-Some.c in
    record {
      so_far = goes_on c.args.file c.loop-c.at (length c.loop-c.yielded) _ c.in-Some.c c.len_utf8.result c.args.source.now _ _ _ c.in-Ok.next t c.len_utf8.ensures.value n c.loop-c.invariant.so_far c.in-Ok.ensures;
      offset = counts_on c.loop-c.at (length c.loop-c.yielded) _ c.in-Some.c c.len_utf8.result c.args.source.now t c.len_utf8.ensures.value n c.loop-c.invariant.offset;
    }

pub returns : goal.returns
returns c =
    let t = YieldsList-end (YieldsList-from_chars c.args.source.now c.utf8.source cc) c.loop-c.yielded _ c.loop-c.yielded_by _ _ c.in-None.is c.next.ensures.steps in
    let over : length (chars c.args.source.now) ≤ length c.loop-c.yielded = omega (arith, t.1) in
    ends c.args.file c.loop-c.at (length c.loop-c.yielded) c.args.source.now _ c.take_end.result c.utf8.source over c.loop-c.invariant.so_far c.take_end.ensures
