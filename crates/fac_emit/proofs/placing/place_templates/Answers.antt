use Rattle.std.proofs.Common.{arith, [], ◌∷◌, ◌++◌, length, Option, ap, ◌∙◌}
use Rattle.fac_base.specs.declared.height.Height.{Height}
use Rattle.fac_emit.specs.ProgramCode.{row_at}
use Rattle.fac_emit.proofs.CodeLists.{template_code_there}
use Rattle.fac_emit.proofs.EmitLemmas.{template_code_step, template_rows_step}
use Rattle.fac_emit.proofs.placing.place_templates.Goals as goal

pub loop-template-preserved : goal.loop-template-preserved
loop-template-preserved c =
    let at = c.loop-template in
    let items = c.as_slice-template-items in
    let added = c.in_ok-place_template.ensures in
    let C = c.args.emission.now in
    let are = items.ensures ∙ c.templates-templates.ensures in
    let lt = c.loop-template-test.true in
    record {
      count = omega (arith, at.invariant.count);
      code_is = template_code_step C at.template-index c.template-item.result items.result.now are lt c.template-item.is _ _ _ at.invariant.code_is added.0;
      rows_are = template_rows_step C at.template-index c.template-item.result items.result.now are lt c.template-item.is c.args.heights.now at.number _ _ _ _ _ at.invariant.rows_are added.0 (added.1 ∙ ap (λ (h : Option Height). at.rows ++ row_at h (length at.code) c.template-item.result ∷ []) c.height_of-height.ensures);
    }

pub place_template-requires : goal.place_template-requires
place_template-requires c =
    let at = c.loop-template in
    let items = c.as_slice-template-items in
    let are = items.ensures ∙ c.templates-templates.ensures in
    c.code_numbered-own.ensures ∙ template_code_there c.args.emission.now at.number at.template-index c.template-item.result items.result.now c.args.codes.now are c.loop-template-test.true c.template-item.is at.invariant.count c.requires
