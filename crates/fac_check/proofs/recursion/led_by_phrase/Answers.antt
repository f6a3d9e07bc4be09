use Rattle.std.proofs.Common.{◌≡◌, ℕ, List}
use Rattle.fac_check.specs.inner.UndeclaredRecursion.{left_out, LedByPhrase}
use Rattle.fac_check.proofs.EdgesOfWords.{if_ok, led_recursive, led_plainly}
use Rattle.fac_check.proofs.recursion.led_by_phrase.Goals as goal

pub returns-then-recursive : goal.returns-then-recursive
returns-then-recursive c =
    let closed = c.args.closed.now in
    let named = c.add_phrase.new.named in
    if_ok (λ (left : List ℕ). left ≡ left_out c.args.number named) (LedByPhrase closed.program closed.templates c.args.number c.args.recursive c.args.phrase.now) c.leave_out.result (λ left is. led_recursive closed.program closed.templates c.args.number c.args.recursive c.args.phrase.now c.new-named.result named left c.if-recursive.true c.new-named.ensures c.in_ok-add_phrase.ensures is) c.leave_out.ensures

pub returns : goal.returns
returns c =
    let closed = c.args.closed.now in
    led_plainly closed.program closed.templates c.args.number c.args.recursive c.args.phrase.now c.new-named.result c.add_phrase.new.named c.if-recursive.false c.new-named.ensures c.in_ok-add_phrase.ensures
