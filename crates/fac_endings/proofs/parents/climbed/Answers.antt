use Rattle.std.proofs.Common.{List, Bool, length, subst, arith, refl}
use Rattle.fac_endings.specs.inner.Chains.{Meets}
use Rattle.fac_endings.proofs.ChainLemmas.{bears_none, bears_some, first_met}
use Rattle.fac_endings.proofs.parents.climbed.Goals as goal

pub returns-then-count-gt-MOST_SLOTS : goal.returns-then-count-gt-MOST_SLOTS
returns-then-count-gt-MOST_SLOTS c =
    let met = subst (λ (fs : List Bool). Meets c.args.class fs c.meets.new.met.items c.meets.result) (c.in_ok-met.ensures.items_if_clones_equal (λ y same. same)) c.meets.ensures in
    bears_none c.args.classes.now c.args.class c.args.own c.meets.new.met.items _ c.climb.new.chain (first_met (length c.args.classes.now) c.args.class c.meets.new.met.items c.meets.result met) refl c.new.ensures.items refl c.in_ok-climb.ensures (omega (arith, c.if-count-gt-MOST_SLOTS.true))

pub returns : goal.returns
returns c =
    let met = subst (λ (fs : List Bool). Meets c.args.class fs c.meets.new.met.items c.meets.result) (c.in_ok-met.ensures.items_if_clones_equal (λ y same. same)) c.meets.ensures in
    bears_some c.args.classes.now c.args.class c.args.own c.meets.new.met.items _ c.climb.new.chain (first_met (length c.args.classes.now) c.args.class c.meets.new.met.items c.meets.result met) refl c.new.ensures.items refl c.in_ok-climb.ensures (omega (arith, c.if-count-gt-MOST_SLOTS.false))
