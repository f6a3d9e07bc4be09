use Rattle.std.proofs.Common.{List, ℕ, length, map, ap, sym, subst, ◌∙◌, arith}
use Rattle.fac_lang.specs.declared.program.Program.{Program}
use Rattle.fac_lang.specs.declared.program.ClassDef.{ClassDef}
use Rattle.fac_lang.specs.Classes.{next, has_kind}
use Rattle.fac_classes.specs.ClassKinds.{place_of}
use Rattle.fac_generic.specs.Methods.{methods_in_order}
use Rattle.fac_generic.specs.inner.Rows.{IsPlace, first_word}
use Rattle.fac_generic.proofs.RowLemmas.{class_low, generic_low, all_ranked, place_low, after_is}
use Rattle.fac_generic.proofs.method_tables.Tables.next.Goals as goal

pub has-requires-clause-class : goal.has-requires-clause-class
has-requires-clause-class c =
    let low = class_low c.self.inside.program.now c.self.invariant.fits c.args.method c.in-Some.class c.in-Some.generic (sym c.in-Some.ensures) in
    let n = ap length c.self.invariant.classes in
    omega (arith, low, n)

pub methods-requires : goal.methods-requires
methods-requires c =
    let low = generic_low c.self.inside.program.now c.self.invariant.fits c.args.method c.in-Some.class c.in-Some.generic (sym c.in-Some.ensures) in
    let n = ap (λ (P : Program). length P.words) c.self.view_is in
    omega (arith, low, n)

pub order_of-rank-requires : goal.order_of-rank-requires
order_of-rank-requires c =
    let low = class_low c.self.inside.program.now c.self.invariant.fits c.args.method c.in-Some.class c.in-Some.generic (sym c.in-Some.ensures) in
    let n = ap length c.self.invariant.classes in
    omega (arith, low, n)

pub place_among-place-requires-clause-ranked : goal.place_among-place-requires-clause-ranked
place_among-place-requires-clause-ranked c =
    all_ranked c.self.inside.program.now c.self.invariant.fits c.in-Some.generic c.as_slice-row.result.now
    (c.as_slice-row.ensures ∙ c.methods.ensures ∙ ap (λ (P : Program). map (λ (m : ℕ × ℕ). m.0) (methods_in_order P c.in-Some.generic)) (sym c.self.view_is))

pub behind-requires : goal.behind-requires
behind-requires c =
    let row = c.as_slice-row.ensures ∙ c.methods.ensures ∙ ap (λ (P : Program). map (λ (m : ℕ × ℕ). m.0) (methods_in_order P c.in-Some.generic)) (sym c.self.view_is) in
    place_low c.self.inside.program.now c.self.invariant.fits c.args.method c.in-Some.class c.in-Some.generic c.place_among-place.result c.as_slice-row.result.now (sym c.in-Some.ensures) row
    (subst (λ (r : ℕ). IsPlace c.self.inside.program.now c.as_slice-row.result.now r c.place_among-place.result) (c.order_of-rank.ensures ∙ ap (λ (cs : List ClassDef). place_of cs c.in-Some.class) c.self.invariant.classes) c.place_among-place.ensures)

pub returns-else-not-has : goal.returns-else-not-has
returns-else-not-has c =
    let row = c.as_slice-row.ensures ∙ c.methods.ensures ∙ ap (λ (P : Program). map (λ (m : ℕ × ℕ). m.0) (methods_in_order P c.in-Some.generic)) (sym c.self.view_is) in
    c.first_of.ensures
    ∙ ap (first_word c.self.inside.program.now c.args.kind) c.behind.ensures
    ∙ after_is c.self.inside.program.now c.self.invariant.fits c.args.method c.in-Some.class c.in-Some.generic c.args.kind c.place_among-place.result c.as_slice-row.result.now (sym c.in-Some.ensures) row
    (subst (λ (r : ℕ). IsPlace c.self.inside.program.now c.as_slice-row.result.now r c.place_among-place.result) (c.order_of-rank.ensures ∙ ap (λ (cs : List ClassDef). place_of cs c.in-Some.class) c.self.invariant.classes) c.place_among-place.ensures)
    (ap (λ (cs : List ClassDef). has_kind cs c.in-Some.class c.args.kind) (sym c.self.invariant.classes) ∙ sym c.has.ensures ∙ c.if-not-has.false)
    ∙ ap (λ (P : Program). next P c.args.method c.args.kind) c.self.view_is
