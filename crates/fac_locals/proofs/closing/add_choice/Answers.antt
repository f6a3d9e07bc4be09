use Rattle.fac_locals.proofs.ChoiceTemplates.{two_added}
use Rattle.fac_locals.proofs.closing.add_choice.Goals as goal

pub returns : goal.returns
returns c = two_added c.args.items.now.items c.push.new.self.items _ c.args.word c.args.number c.args.place c.in_ok-push.ensures.items c.in_ok-push-2.ensures.items
