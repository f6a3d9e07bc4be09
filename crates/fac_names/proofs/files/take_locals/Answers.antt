use Rattle.std.proofs.Common.{List, map, ap, sym, ◌∙◌, subst}
use Rattle.fac_source.specs.declared.token.Token.{Token}
use Rattle.fac_effect.specs.WrittenEffects.{IsEffect}
use Rattle.fac_items.specs.inner.Behind.{name_tok}
use Rattle.fac_names.specs.WrittenInputs.{written_inputs}
use Rattle.fac_names.specs.inner.State.{reading_of}
use Rattle.fac_names.proofs.BracketLemmas.{locals_closing}
use Rattle.fac_names.proofs.InputLemmas.{locals_row}
use Rattle.fac_names.proofs.ReadingLemmas.{on_ok}
use Rattle.fac_names.proofs.files.take_locals.Goals as goal

pub define-requires : goal.define-requires
define-requires c = let d = c.locals_parts-definition in locals_closing d.result.written.now d.result.elements.now d.ensures.items

pub returns : goal.returns
returns c =
    let d = c.locals_parts-definition in
    let w = d.result.written.now in
    let tokens_are = c.as_slice.ensures in
    on_ok c.define.result
    (λ h. h
    ∙ locals_row c.args.parts.now d.result.name.now w d.result.elements.now d.result.marks.now (map name_tok c.as_slice-2.result.now) c.in_ok-effect.effect c.marks_inline.result c.marks_recursive.result (reading_of c.args.so_far.now) d.ensures
    (ap (map name_tok) c.as_slice-2.ensures.value ∙ c.in_ok-inputs.ensures w.effect (subst (λ (ts : List Token). IsEffect ts w.effect) (sym tokens_are) d.ensures.effect) ∙ ap written_inputs tokens_are)
    c.in_ok-effect.ensures c.marks_inline.ensures c.marks_recursive.ensures)
    c.define.ensures
