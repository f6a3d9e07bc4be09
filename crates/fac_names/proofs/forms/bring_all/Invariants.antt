use Rattle.std.proofs.Common.{◌≡◌, drop, fold, map}
use Rattle.fac_items.specs.FromElements.{tok}
use Rattle.fac_names.specs.Forms.{bring_one}
use Rattle.fac_names.specs.inner.State.{reading_of}
use Rattle.fac_names.proofs.forms.bring_all.Given as goal

abbrev pub invariant-loop-name : goal.invariant-loop-name
invariant-loop-name l =
    fold (bring_one (tok l.vocab).text) (reading_of l.initial.so_far) (map tok l.names) ≡ fold (bring_one (tok l.vocab).text) (reading_of l.so_far) (map tok (drop l.name-index l.names))
