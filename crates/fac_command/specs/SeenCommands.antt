-- A command as it is read, whose files, image and name of a text are words of the command line.
use Rattle.std.specs.Prelude.{map, string_bytes}
use Rattle.fac_command.specs.declared.command.Command.{Command as CommandRead}
use Rattle.fac_command.specs.declared.command.Command.TheVariants as read
use Rattle.fac_command.specs.declared.command.Request.{Request as RequestRead}
use Rattle.fac_command.specs.declared.command.Request.TheVariants as asked
use Rattle.fac_command.specs.Command.{Command, Request, check, run, run_stack, build, exec, list, generate, listen, work}

-- what it asks for
abbrev pub command_seen : CommandRead → Command
command_seen (read.Check files) = check (map string_bytes files.now)
command_seen (read.Run steps files) = run steps (map string_bytes files.now)
command_seen (read.RunStack steps files) = run_stack steps (map string_bytes files.now)
command_seen (read.Build files image) = build (map string_bytes files.now) image.now
command_seen (read.Exec steps image) = exec steps image.now
command_seen (read.List image) = list image.now
command_seen (read.Generate steps name seed words) = generate steps (map string_bytes name.now) seed words

abbrev pub request_seen : RequestRead → Request
request_seen asked.Listen = listen
request_seen (asked.Work command) = work (command_seen command)
