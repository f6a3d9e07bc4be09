use Rattle.std.proofs.Common.{◌≡◌, ◌≤◌, ◌<◌, ◌^◌, length, take, arith}
use Rattle.std.proofs.lemmas.List.{length-take-le}
use Rattle.std.proofs.lemmas.List.Sums.{count_by-le-length}
use Rattle.std.specs.List.{count_by}
use Rattle.fac_tool.specs.Answer.{is_definition}
use Rattle.fac_tool.proofs.definitions.definitions_of.Goals as goal

pub overflow_add-count : goal.overflow_add-count
overflow_add-count c =
    let forms = c.as_slice-form-items.result.now in
    let i = c.loop-form.form-index in
    let few : count_by is_definition (take i forms) ≤ length (take i forms) = count_by-le-length is_definition (take i forms) in
    let below : i < length forms = c.loop-form-test.true in
    let short : length (take i forms) ≡ i = length-take-le i forms (omega (arith, below)) in
    let most : length forms < 2 ^ 64 = c.as_slice-form-items.type_inv.0 in
    omega (arith, few, below, short, most, c.loop-form.invariant)
