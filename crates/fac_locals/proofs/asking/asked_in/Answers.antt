use Rattle.std.proofs.Common.{List, [], subst, append-nil}
use Rattle.fac_lang.specs.Phrases.{Item}
use Rattle.fac_locals.specs.Asked.{AreAskedBy, quotations_in}
use Rattle.fac_locals.proofs.asking.asked_in.Goals as goal

pub returns : goal.returns
returns c = subst (λ (l : List Item). AreAskedBy l c.ask_phrase.new.all) (append-nil (quotations_in c.args.phrase.now)) (c.in_ok-ask_phrase.ensures.inside [] c.new-all.ensures)
