use Rattle.std.proofs.Common.{◌≡◌, List, ℕ, subst}
use Rattle.std.specs.Prelude.{OnOk}
use Rattle.fac_bytes.proofs.PlainLaws.{generics_plain, generics_same}
use Rattle.fac_bytes.proofs.generics.write_generics.Goals as goal

pub write_list-requires : goal.write_list-requires
write_list-requires c = generics_plain c.args.rows.now c.requires

pub returns : goal.returns
returns c = subst (λ (z : List ℕ). OnOk c.write_list.result (c.write_list.new.out ≡ z)) (generics_same c.args.out.now c.args.rows.now) c.write_list.ensures
