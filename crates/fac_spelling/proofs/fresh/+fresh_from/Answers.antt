use Rattle.std.proofs.Common.{rules, get_or, ℕ, List, arith, sym, ap, subst, ◌∙◌}
use Rattle.std.proofs.lemmas.Result.{err_from_is_err_and}
use Rattle.std.proofs.lemmas.List.{take_rest}
use Rattle.fac_spelling.proofs.FreshLaws.{computed_fails, computed_gives}
use Rattle.fac_spelling.specs.inner.TakenBehind.{Differ}
use Rattle.fac_spelling.proofs.CountLaws.{behind_differ}
use Rattle.fac_spelling.proofs.fresh.+fresh_from.Goals as goal
use Rattle.fac_spelling.specs.Numbers.{least, most}
use Rattle.fac_spelling.specs.Reads.{Fails}
use Rattle.fac_spelling.specs.TestedNumbers.{number_where_at, is_free}

pub returns-in_err-more-in-len1-up-clause-exact : goal.returns-in_err-more-in-len1-up-clause-exact
returns-in_err-more-in-len1-up-clause-exact t c =
    let p = err_from_is_err_and c.from_residual-in_err-more-in-len1-up.result c.from_residual-in_err-more-in-len1-up.ensures.1 in
    rw (p.1, p.2) (computed_fails c.in_err-more-in-len1-up.field-0.0 c.args.taken.now c.args.low c.args.high c.args.bytes.now c.deref.result.now c.deref-in-len1-up.result.now c.least_of-least.result c.most_of-most.result c.in-len1-up.len_at_least (omega arith) (omega (arith, c.type_inv.bytes 0))
    (record { one_is = c.deref.ensures.value ∙ c.in_ok-behind-in-len1-up.ensures; two_is = c.deref-in-len1-up.ensures.value ∙ c.in_ok-behind-in-len1-up.ensures; from_is = c.least_of-least.ensures ∙ ap (λ (b : ℕ). least c.args.low b) c.from-lead.ensures; to_is = c.most_of-most.ensures ∙ ap (λ (b : ℕ). most c.args.high b) c.from-lead.ensures; some = sym c.if-not-has_free.ensures })
    (subst (λ (z : List ℕ). Fails c.in_err-more-in-len1-up.field-0.0 (number_where_at (is_free c.deref-in-len1-up.result.now) c.least_of-least.result c.most_of-most.result z)) (take_rest c.args.bytes.now 1) c.in_err-more-in-len1-up.ensures.exact))

pub returns-in_ok-more-in-len1-up-clause-exact : goal.returns-in_ok-more-in-len1-up-clause-exact
returns-in_ok-more-in-len1-up-clause-exact t c =
    rw c.from-lead.ensures (computed_gives c.args.taken.now c.args.low c.args.high c.args.bytes.now c.deref.result.now c.deref-in-len1-up.result.now c.least_of-least.result c.most_of-most.result c.in_ok-more-in-len1-up.more c.in_ok-more-in-len1-up.rest.now c.in-len1-up.len_at_least (omega arith) (omega (arith, c.type_inv.bytes 0))
    (record { one_is = c.deref.ensures.value ∙ c.in_ok-behind-in-len1-up.ensures; two_is = c.deref-in-len1-up.ensures.value ∙ c.in_ok-behind-in-len1-up.ensures; from_is = c.least_of-least.ensures ∙ ap (λ (b : ℕ). least c.args.low b) c.from-lead.ensures; to_is = c.most_of-most.ensures ∙ ap (λ (b : ℕ). most c.args.high b) c.from-lead.ensures; some = sym c.if-not-has_free.ensures })
    (ap (λ (z : List ℕ). number_where_at (is_free c.deref-in-len1-up.result.now) c.least_of-least.result c.most_of-most.result z) (sym (take_rest c.args.bytes.now 1)) ∙ c.in_ok-more-in-len1-up.ensures.exact))

pub has_free-requires : goal.has_free-requires
has_free-requires t c = subst Differ (sym (c.deref.ensures.value ∙ c.in_ok-behind-in-len1-up.ensures)) (behind_differ (get_or c.args.bytes.now 0 0) c.args.taken.now (omega arith) (omega (arith, c.type_inv.bytes 0)) c.requires)

pub fresh_from-requires : goal.fresh_from-requires
fresh_from-requires t c = (search rules, subst Differ (sym (c.deref-in-len1-up.ensures.value ∙ c.in_ok-behind-in-len1-up.ensures)) (behind_differ (get_or c.args.bytes.now 0 0) c.args.taken.now (omega arith) (omega (arith, c.type_inv.bytes 0)) c.requires))
