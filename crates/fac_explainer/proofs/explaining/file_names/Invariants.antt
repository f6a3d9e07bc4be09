use Rattle.std.proofs.Common.{◌≡◌, take, map}
use Rattle.std.specs.Prelude.{string_bytes}
use Rattle.fac_tool.specs.Answers.{numbered_names}
use Rattle.fac_explainer.proofs.explaining.file_names.Given as goal

abbrev pub invariant-loop-file : goal.invariant-loop-file
invariant-loop-file l = l.names ≡ numbered_names (map string_bytes (take l.file-index l.files))
