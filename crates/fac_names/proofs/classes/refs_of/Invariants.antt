use Rattle.std.proofs.Common.{◌≡◌, ◌++◌, drop, fold, map}
use Rattle.fac_source.specs.Refusals.{sooner}
use Rattle.fac_items.specs.Items.{ref, search_faults}
use Rattle.fac_names.specs.inner.Named.{toks}
use Rattle.fac_names.proofs.classes.refs_of.Given as goal

abbrev pub invariant-loop-token : goal.invariant-loop-token
invariant-loop-token l =
    record {
      refs : map (ref l.scope) (toks l.tokens) ≡ l.refs ++ map (ref l.scope) (toks (drop l.token-index l.tokens));
      first : fold sooner l.initial.first (search_faults l.scope (toks l.tokens)) ≡ fold sooner l.first (search_faults l.scope (toks (drop l.token-index l.tokens)));
    }
