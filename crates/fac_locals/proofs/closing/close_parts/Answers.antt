use Rattle.std.proofs.Common.{length, ap, ◌∙◌, arith}
use Rattle.fac_locals.specs.inner.Numbering.{words_starts}
use Rattle.fac_locals.proofs.ArraySteps.{as_many_put}
use Rattle.fac_locals.proofs.closing.close_parts.Goals as goal

pub close_arrays-requires : goal.close_arrays-requires
close_arrays-requires c =
    let closes = c.in_ok-closed.ensures.1 in
    let same = ap length closes.starts_are ∙ as_many_put c.in_ok-unmet.field-0.items (words_starts c.as_slice-4.result.now 0 0 c.args.words.items) in
    omega (arith, same, c.in_ok-unmet.ensures, c.len.ensures, c.len.type_inv)
