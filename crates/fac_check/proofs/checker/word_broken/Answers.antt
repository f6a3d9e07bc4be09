use Rattle.std.proofs.Common.{◌≡◌, true, length, refl, ◌∙◌, ap, sym, subst}
use Rattle.fac_base.specs.Signatures.{Signature}
use Rattle.fac_lang.specs.Substitution.{of_method}
use Rattle.fac_base.specs.declared.place.Place.{Place}
use Rattle.fac_abs.proofs.EqualMarks.{and_first}
use Rattle.fac_check.specs.Verdicts.{no_generic_effect}
use Rattle.fac_check.specs.inner.BrokenRules.{generic_rule}
use Rattle.fac_check.specs.inner.Walkable.{takes_sort}
use Rattle.fac_check.proofs.ClosedSorts.{plain_sort, opens_body, opens_method}
use Rattle.fac_check.proofs.WordItems.{ok_maps}
use Rattle.fac_check.proofs.VerdictLemmas.{body_verdict_is, method_verdict_is, generic_verdict_is, no_phrase_verdict, bad_rows_are, rows_refused}
use Rattle.fac_check.proofs.checker.word_broken.Goals as goal

pub phrase_broken-requires-clause-phrase : goal.phrase_broken-requires-clause-phrase
phrase_broken-requires-clause-phrase c = subst (λ x. takes_sort c.args.closed.now.program.top (length c.args.closed.now.templates) x ≡ true) c.in-Body.is (and_first _ _ c.requires.word)

pub ordinary_broken-requires : goal.ordinary_broken-requires
ordinary_broken-requires c = subst (λ x. takes_sort c.args.closed.now.program.top (length c.args.closed.now.templates) x ≡ true) c.in-Method.is (and_first _ _ c.requires.word)

pub returns-then-has_bad_rows : goal.returns-then-has_bad_rows
returns-then-has_bad_rows c = λ P closes whole d at word opens leads.
    let rows = bad_rows_are P c.args.number d c.args.word.now word c.args.closed.now.program.top closes.top in
    rows_refused P c.args.closed.now.start c.args.number d c.args.word.now word (sym c.if-leads_back.false ∙ leads) (sym rows ∙ sym c.has_bad_rows.ensures ∙ c.if-has_bad_rows.true)

pub returns-in-Body : goal.returns-in-Body
returns-in-Body c =
    ok_maps c.phrase_broken.result
    (λ b broken P closes whole d at word opens leads.
    let sort = opens_body P c.args.closed.now.templates c.args.number d.sort c.args.word.now.sort _ opens c.in-Body.is in
    let rows = bad_rows_are P c.args.number d c.args.word.now word c.args.closed.now.program.top closes.top in
    body_verdict_is P c.args.number d c.args.closed.now.start sort.0 _ sort.1 (sym c.if-leads_back.false ∙ leads) (sym rows ∙ sym c.has_bad_rows.ensures ∙ c.if-has_bad_rows.false) (broken P closes whole d sort.0 at word sort.2))
    c.phrase_broken.ensures

pub returns-in-Method : goal.returns-in-Method
returns-in-Method c =
    ok_maps c.ordinary_broken.result
    (λ b broken P closes whole d at word opens leads.
    let sort = opens_method P c.args.closed.now.templates c.args.number d.sort c.args.word.now.sort _ _ _ opens c.in-Method.is in
    let rows = bad_rows_are P c.args.number d c.args.word.now word c.args.closed.now.program.top closes.top in
    method_verdict_is P c.args.number d c.args.closed.now.start _ _ sort.0 _ sort.1 (sym c.if-leads_back.false ∙ leads) (sym rows ∙ sym c.has_bad_rows.ensures ∙ c.if-has_bad_rows.false) (broken P closes whole c.args.number d (of_method c.args.number sort.0) word sort.2))
    c.ordinary_broken.ensures

pub returns-in-Generic : goal.returns-in-Generic
returns-in-Generic c = λ P closes whole d at word opens leads.
    let w = c.args.word.now in
    let sort = plain_sort P c.args.number d w word _ c.in-Generic.is refl in
    let rows = bad_rows_are P c.args.number d w word c.args.closed.now.program.top closes.top in
    generic_verdict_is P c.args.number d c.args.closed.now.start _ sort (sym c.if-leads_back.false ∙ leads) (sym rows ∙ sym c.has_bad_rows.ensures ∙ c.if-has_bad_rows.false)
    (c.generic_broken.ensures ∙ ap (λ (e : Signature). generic_rule (no_generic_effect e) w.place) word.effect ∙ ap (λ (p : Place). generic_rule (no_generic_effect d.effect) p) word.place)

pub returns-in_default : goal.returns-in_default
returns-in_default c = λ P closes whole d at word opens leads.
    let rows = bad_rows_are P c.args.number d c.args.word.now word c.args.closed.now.program.top closes.top in
    no_phrase_verdict P c.args.number d c.args.closed.now.start c.args.word.now word c.in_default.not-Body c.in_default.not-Method c.in_default.not-Generic (sym c.if-leads_back.false ∙ leads) (sym rows ∙ sym c.has_bad_rows.ensures ∙ c.if-has_bad_rows.false)
