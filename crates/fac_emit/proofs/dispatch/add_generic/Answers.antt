use Rattle.std.proofs.Common.{◌≡◌, ◌++◌, List, OnOk, subst}
use Rattle.fac_code.specs.declared.image.GenericRow.{GenericRow}
use Rattle.fac_emit.specs.ProgramCode.{code_place}
use Rattle.fac_emit.proofs.MethodRows.{generic_row}
use Rattle.fac_emit.proofs.dispatch.add_generic.Goals as goal

pub returns-in_ok-methods-in-Generic : goal.returns-in_ok-methods-in-Generic
returns-in_ok-methods-in-Generic c =
    subst (λ (rows : List GenericRow). OnOk c.push.result (c.push.new.self ≡ c.args.generics.now ++ rows))
    (generic_row c.args.program.now c.requires.methods (code_place c.args.rows.now) c.args.tables.now c.requires.tables c.args.word c.methods.result.now c.in_ok-methods-in-Generic.methods c.args.sort.now c.methods.ensures
    c.in_ok-methods-in-Generic.ensures c.in-Generic.is)
    c.push.ensures.ok
