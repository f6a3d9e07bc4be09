use Rattle.std.proofs.Common.{◌^◌, length, subst}
use Rattle.std.proofs.lemmas.Bool.{ltb-true}
use Rattle.std.specs.Str.{IsUtf8}
use Rattle.fac_spelling.proofs.Utf8Laws.{utf8_fits}
use Rattle.fac_bytes.proofs.lists.TextWritable.fits.Goals as goal

pub returns : goal.returns
returns c = utf8_fits c.args.self.now (subst IsUtf8 c.as_str.ensures c.as_str.utf8) (ltb-true (length c.args.self.now) (2 ^ 32) c.requires)
