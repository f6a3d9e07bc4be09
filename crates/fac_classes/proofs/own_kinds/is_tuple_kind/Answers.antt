use Rattle.std.proofs.Common.{◌∙◌, refl, arith}
use Rattle.fac_lang.specs.Classes.{is_tuple}
use Rattle.fac_classes.proofs.OwnerLemmas.{kind_owner, kind_unowned}
use Rattle.fac_classes.proofs.own_kinds.is_tuple_kind.Goals as goal

pub returns-in-Some : goal.returns-in-Some
returns-in-Some c = c.is_tuple_class.ensures ∙ kind_owner is_tuple c.args.classes.now c.args.owners.now c.args.kind c.in-Some.class (omega arith) c.requires c.in-Some.ensures

pub returns-in-None : goal.returns-in-None
returns-in-None c = kind_unowned is_tuple refl c.args.classes.now c.args.owners.now c.args.kind (omega arith) c.requires c.in-None.ensures
