use Rattle.std.proofs.Common.{◌++◌, length, string_bytes, refl, sym}
use Rattle.std.specs.Char.{encode_utf8}
use Rattle.std.proofs.lemmas.List.{length_push}
use Rattle.std.proofs.lemmas.Iterator.{YieldsList-from_chars}
use Rattle.std.proofs.lemmas.Iterator.Consumers.{YieldsList-turn, YieldsList-end}
use Rattle.fac_lang.specs.Printed.{escaped_all}
use Rattle.fac_show.proofs.PrintedLemmas.{begins, goes_on, ends}
use Rattle.fac_show.proofs.AddingLemmas.{adds_within}
use Rattle.fac_show.proofs.escaping.add_all_escaped.Goals as goal

pub loop-c-init : goal.loop-c-init
loop-c-init c = (begins c.args.text.now (string_bytes c.args.line.now) c.utf8.text, λ le. le)

pub loop-c-preserved : goal.loop-c-preserved
loop-c-preserved c =
    let t = YieldsList-turn (YieldsList-from_chars c.args.text.now c.utf8.text cc) c.loop-c.yielded _ c.loop-c.yielded_by _ _ c.in-Some.c c.in-Some.is c.next.ensures.steps in
    (goes_on c.args.text.now (string_bytes c.loop-c.line) _ _ (length c.loop-c.yielded) _ c.in-Some.c t (length_push c.loop-c.yielded c.in-Some.c) c.loop-c.invariant.0 c.in-Ok.ensures.0, λ le. c.in-Ok.ensures.1 (c.loop-c.invariant.1 le))

pub returns-in-Err : goal.returns-in-Err
returns-in-Err c =
    let t = YieldsList-turn (YieldsList-from_chars c.args.text.now c.utf8.text cc) c.loop-c.yielded _ c.loop-c.yielded_by _ _ c.in-Some.c c.in-Some.is c.next.ensures.steps in
    let whole = goes_on c.args.text.now (string_bytes c.loop-c.line) (string_bytes c.loop-c.line ++ escaped_all (encode_utf8 c.in-Some.c)) (string_bytes c.args.line.now ++ escaped_all c.args.text.now) (length c.loop-c.yielded) _ c.in-Some.c t (length_push c.loop-c.yielded c.in-Some.c) c.loop-c.invariant.0 refl in
    adds_within c.args.limit (string_bytes c.args.line.now) (escaped_all c.args.text.now) (string_bytes c.loop-c.line) (escaped_all (encode_utf8 c.in-Some.c)) (string_bytes c.add_escaped.new.line) (string_bytes c.add_escaped.new.line) _ c.in-Err.fault c.in-Err.ensures whole

pub returns : goal.returns
returns c =
    let t = YieldsList-end (YieldsList-from_chars c.args.text.now c.utf8.text cc) c.loop-c.yielded _ c.loop-c.yielded_by _ _ c.in-None.is c.next.ensures.steps in
    (ends c.args.text.now (string_bytes c.loop-c.line) _ (length c.loop-c.yielded) (sym t.1) c.loop-c.invariant.0, c.loop-c.invariant.1)
