use Rattle.std.proofs.Common.{arith}
use Rattle.fac_classes.proofs.BuiltLemmas.{place_within, place_read}
use Rattle.fac_classes.proofs.classes.Classes.order_of.Goals as goal

pub index-requires : goal.index-requires
index-requires c =
    let lt = place_within c.args.self.now c.self.inside.defs c.self.inside.places.items c.args.class c.self.invariant.places_are c.self.view_is c.requires in
    omega (arith, lt)

pub returns : goal.returns
returns c = place_read c.args.self.now c.self.inside.defs c.self.inside.places.items c.args.class c.index.result.now c.self.invariant.places_are c.self.view_is c.requires c.index.ensures
