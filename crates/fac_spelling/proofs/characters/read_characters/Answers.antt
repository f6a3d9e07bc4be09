use Rattle.std.proofs.Common.{subst, arith}
use Rattle.std.specs.Str.{IsUtf8}
use Rattle.fac_spelling.proofs.Utf8Laws.{utf8_read}
use Rattle.fac_spelling.proofs.characters.read_characters.Goals as goal

pub returns-in-Ok-clause-exact : goal.returns-in-Ok-clause-exact
returns-in-Ok-clause-exact c =
    rw (c.in-Ok.ensures.cases.0, c.split_at.ensures.front, c.split_at.ensures.back) (utf8_read c.args.size c.args.bytes.now (omega arith) (subst IsUtf8 c.split_at.ensures.front c.in-Ok.ensures.cases.1))
