-- Inner contracts: what is done with an accepted program, as the code has it.
use Rattle.fac_tool.specs.declared.work.Task.{Task as TaskRead}
use Rattle.fac_tool.specs.declared.work.Task.TheVariants as read
use Rattle.fac_tool.specs.Plans.{Task, checking, running, running_then}
use Rattle.fac_tool.specs.inner.WrittenBehind.{behind_seen}

abbrev pub task_seen : TaskRead → Task
task_seen read.Check = checking
task_seen (read.Run budget) = running budget
task_seen (read.RunThen behind budget) = running_then (behind_seen behind) budget
