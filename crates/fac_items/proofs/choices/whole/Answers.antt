use Rattle.std.proofs.Common.{ap, ◌∙◌}
use Rattle.fac_lang.specs.Phrases.{quot}
use Rattle.fac_items.proofs.PhraseLemmas.{two_behind}
use Rattle.fac_items.proofs.choices.whole.Goals as goal

pub returns : goal.returns
returns c = ap quot (c.phrase_of.ensures ∙ two_behind c.args.items.items c.push.new.self.items c.push-2.new.self.items c.args.inner c.args.last c.in_ok-push.ensures.items c.in_ok-push-2.ensures.items)
