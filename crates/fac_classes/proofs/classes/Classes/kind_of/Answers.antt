use Rattle.std.proofs.Common.{arith}
use Rattle.fac_classes.proofs.BuiltLemmas.{own_within, own_read}
use Rattle.fac_classes.proofs.classes.Classes.kind_of.Goals as goal

pub index-requires : goal.index-requires
index-requires c =
    let lt = own_within c.args.self.now c.self.inside.defs c.self.inside.own.items c.args.class c.self.invariant.own_is c.self.view_is c.requires in
    omega (arith, lt)

pub returns : goal.returns
returns c = own_read c.args.self.now c.self.inside.defs c.self.inside.own.items c.args.class c.index.result.now c.self.invariant.own_is c.self.view_is c.requires c.index.ensures
