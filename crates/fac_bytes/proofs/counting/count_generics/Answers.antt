use Rattle.std.proofs.Common.{◌≡◌, ◌+◌, List, ℕ, [], length, subst}
use Rattle.std.specs.Prelude.{OnOk}
use Rattle.fac_bytes.proofs.PlainLaws.{generics_plain, generics_same}
use Rattle.fac_bytes.proofs.counting.count_generics.Goals as goal

pub count_list-requires : goal.count_list-requires
count_list-requires c = generics_plain c.args.rows.now c.requires

pub returns : goal.returns
returns c = subst (λ (z : List ℕ). OnOk c.count_list.result (c.count_list.new.count ≡ c.args.count.now + length z)) (generics_same [] c.args.rows.now) c.count_list.ensures
