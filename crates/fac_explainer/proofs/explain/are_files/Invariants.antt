use Rattle.std.proofs.Common.{◌≡◌, drop, map}
use Rattle.std.specs.Prelude.{string_bytes}
use Rattle.fac_command.specs.Command.{are_files}
use Rattle.std.specs.List.{list_all}
use Rattle.fac_command.specs.Command.{is_file_name}
use Rattle.fac_explainer.proofs.explain.are_files.Given as goal

-- what is left decides
abbrev pub invariant-loop-word : goal.invariant-loop-word
invariant-loop-word l = are_files (map string_bytes l.words) ≡ list_all is_file_name (map string_bytes (drop l.word-index l.words))
