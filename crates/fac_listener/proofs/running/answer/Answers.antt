use Rattle.std.proofs.Common.{refl}
use Rattle.fac_vm.specs.declared.machine.StopKind.TheVariants as stop
use Rattle.fac_listener.proofs.StopLemmas.{answers_so, cuts_so}
use Rattle.fac_listener.proofs.running.answer.Goals as goal

pub let_go-requires : goal.let_go-requires
let_go-requires g c = cuts_so c.args.stop.what stop.Done c.args.count c.args.machine.now c.in-Done.is c.requires

pub bring_back-requires : goal.bring_back-requires
bring_back-requires g c = cuts_so c.args.stop.what (stop.Failed c.in-Failed.error) c.args.count c.args.machine.now c.in-Failed.is c.requires

pub bring_back-requires-in-Spent : goal.bring_back-requires-in-Spent
bring_back-requires-in-Spent g c = cuts_so c.args.stop.what stop.Spent c.args.count c.args.machine.now c.in-Spent.is c.requires

pub returns-in-Done : goal.returns-in-Done
returns-in-Done g c = answers_so c.args.stop.what stop.Done c.args.count c.args.stop.ticks c.args.machine.now c.let_go.new.self c.args.channels.now c.ran.new.channels c.ran.result c.in-Done.is (c.let_go.ensures, c.ran.ensures)

pub returns-in-Failed : goal.returns-in-Failed
returns-in-Failed g c = answers_so c.args.stop.what (stop.Failed c.in-Failed.error) c.args.count c.args.stop.ticks c.args.machine.now c.bring_back.new.self c.args.channels.now c.args.channels.now c.failed.result c.in-Failed.is (c.bring_back.ensures, c.failed.ensures, refl)

pub returns-in-Spent : goal.returns-in-Spent
returns-in-Spent g c = answers_so c.args.stop.what stop.Spent c.args.count c.args.stop.ticks c.args.machine.now c.bring_back-in-Spent.new.self c.args.channels.now c.args.channels.now _ c.in-Spent.is (c.bring_back-in-Spent.ensures, refl, refl)

pub returns-in-Trap : goal.returns-in-Trap
returns-in-Trap g c = answers_so c.args.stop.what (stop.Trap _ _) c.args.count c.args.stop.ticks c.args.machine.now c.args.machine.now c.args.channels.now c.args.channels.now _ c.in-Trap.is (refl, refl)

pub returns-in-InputFault : goal.returns-in-InputFault
returns-in-InputFault g c = answers_so c.args.stop.what stop.InputFault c.args.count c.args.stop.ticks c.args.machine.now c.args.machine.now c.args.channels.now c.args.channels.now _ c.in-InputFault.is (refl, refl)

pub returns-in-WriteFault : goal.returns-in-WriteFault
returns-in-WriteFault g c = answers_so c.args.stop.what stop.WriteFault c.args.count c.args.stop.ticks c.args.machine.now c.args.machine.now c.args.channels.now c.args.channels.now _ c.in-WriteFault.is (refl, refl)

pub returns-in-Memory : goal.returns-in-Memory
returns-in-Memory g c = answers_so c.args.stop.what stop.Memory c.args.count c.args.stop.ticks c.args.machine.now c.args.machine.now c.args.channels.now c.args.channels.now _ c.in-Memory.is (refl, refl)
