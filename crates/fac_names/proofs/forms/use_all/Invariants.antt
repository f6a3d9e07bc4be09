use Rattle.std.proofs.Common.{◌≡◌, drop, fold, map}
use Rattle.fac_items.specs.FromElements.{tok}
use Rattle.fac_names.specs.Forms.{use_one}
use Rattle.fac_names.specs.inner.State.{reading_of}
use Rattle.fac_names.proofs.forms.use_all.Given as goal

abbrev pub invariant-loop-vocab : goal.invariant-loop-vocab
invariant-loop-vocab l = fold use_one (reading_of l.initial.so_far) (map tok l.vocabs) ≡ fold use_one (reading_of l.so_far) (map tok (drop l.vocab-index l.vocabs))
