use Rattle.std.proofs.Common.{ℕ, map, ap, sym, ◌∙◌}
use Rattle.fac_lang.specs.declared.program.Program.{Program}
use Rattle.fac_lang.specs.Classes.{pick}
use Rattle.fac_generic.specs.Methods.{methods_in_order}
use Rattle.fac_generic.proofs.RowLemmas.{picked}
use Rattle.fac_generic.proofs.method_tables.Tables.pick.Goals as goal

pub returns : goal.returns
returns c =
    c.first_of.ensures
    ∙ picked c.self.inside.program.now c.self.invariant.fits c.args.generic c.args.kind c.as_slice.result.now
    (c.as_slice.ensures ∙ c.methods-row.ensures ∙ ap (λ (P : Program). map (λ (m : ℕ × ℕ). m.0) (methods_in_order P c.args.generic)) (sym c.self.view_is))
    ∙ ap (λ (P : Program). pick P c.args.generic c.args.kind) c.self.view_is
