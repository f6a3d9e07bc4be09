use Rattle.std.proofs.Common.{◌∙◌, ap, sym, Bool, cond, Some, None}
use Rattle.fac_vocab.specs.Scopes.{or_else}
use Rattle.fac_vocab.specs.inner.BroughtForms.{last_giving}
use Rattle.fac_vocab.proofs.LatestLemmas.{giving_push}
use Rattle.fac_vocab.proofs.brought_names.last_number.Goals as goal

pub returns-then-gives_at : goal.returns-then-gives_at
returns-then-gives_at c =
    sym (c.loop-number.invariant
    ∙ ap (last_giving c.args.table.now c.args.forms.now c.args.name.now) c.in-Some.ensures.cases.0
    ∙ giving_push c.args.table.now c.args.forms.now c.args.name.now c.in-Some.earlier.now c.in-Some.number.now
    ∙ ap (λ (b : Bool). or_else (cond b (Some c.in-Some.number.now) None) (last_giving c.args.table.now c.args.forms.now c.args.name.now c.in-Some.earlier.now)) (sym c.if-gives_at.ensures))

pub loop-number-preserved : goal.loop-number-preserved
loop-number-preserved c =
    c.loop-number.invariant
    ∙ ap (last_giving c.args.table.now c.args.forms.now c.args.name.now) c.in-Some.ensures.cases.0
    ∙ giving_push c.args.table.now c.args.forms.now c.args.name.now c.in-Some.earlier.now c.in-Some.number.now
    ∙ ap (λ (b : Bool). or_else (cond b (Some c.in-Some.number.now) None) (last_giving c.args.table.now c.args.forms.now c.args.name.now c.in-Some.earlier.now)) (sym c.if-gives_at.ensures)
