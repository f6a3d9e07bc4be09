use Rattle.std.proofs.Common.{refl}
use Rattle.fac_listener.specs.declared.reply.Reply.TheVariants as reply
use Rattle.fac_listen.proofs.ToldReplies.{on_failed, on_input_fault, on_memory, on_more, on_refused, on_silent, on_spent, on_write_fault}
use Rattle.fac_listen.proofs.hearing.Hearing.on_reply.Goals as goal

pub returns-in-More : goal.returns-in-More
returns-in-More g c = on_more c.args.self.now c.pass.new.self _ c.args.reply c.in-More.why _ c.in-More.is c.pass.ensures c.wait.ensures

pub returns-in-Defined : goal.returns-in-Defined
returns-in-Defined g c = on_silent c.args.self.now c.pass.new.self c.args.reply reply.Defined _ c.in-Defined.is refl refl refl c.pass.ensures

pub returns-in-Ran : goal.returns-in-Ran
returns-in-Ran g c = on_silent c.args.self.now c.pass.new.self c.args.reply _ _ c.in-Ran.is refl refl refl c.pass.ensures

pub returns-in-Refused : goal.returns-in-Refused
returns-in-Refused g c = on_refused c.args.self.now c.pass.new.self c.args.reply c.in-Refused.why _ _ c.tell.result c.in-Refused.is c.pass.ensures c.tell.ensures

pub returns-in-Failed : goal.returns-in-Failed
returns-in-Failed g c = on_failed c.args.self.now c.pass.new.self c.args.reply c.in-Failed.error _ _ _ c.tell-in-Failed.result c.in-Failed.is c.pass.ensures c.tell-in-Failed.ensures

pub returns-in-Spent : goal.returns-in-Spent
returns-in-Spent g c = on_spent c.args.self.now c.pass.new.self c.args.reply c.in-Spent.ticks _ _ c.tell-in-Spent.result c.in-Spent.is c.pass.ensures c.tell-in-Spent.ensures

pub returns-in-InputFault : goal.returns-in-InputFault
returns-in-InputFault g c = on_input_fault c.args.self.now c.pass.new.self c.args.reply _ _ _ c.tell_fault.result c.in-InputFault.is c.pass.ensures c.tell_fault.ensures

pub returns-in-WriteFault : goal.returns-in-WriteFault
returns-in-WriteFault g c = on_write_fault c.args.self.now c.pass.new.self c.args.reply _ _ _ c.tell_fault-in-WriteFault.result c.in-WriteFault.is c.pass.ensures c.tell_fault-in-WriteFault.ensures

pub returns-in-Memory : goal.returns-in-Memory
returns-in-Memory g c = on_memory c.args.self.now c.pass.new.self c.args.reply _ _ _ c.tell_no_memory.result c.in-Memory.is c.pass.ensures c.tell_no_memory.ensures
