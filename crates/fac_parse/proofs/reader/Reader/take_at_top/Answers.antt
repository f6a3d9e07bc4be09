use Rattle.std.proofs.Common.{sym, ◌∙◌}
use Rattle.fac_parse.specs.declared.reader.Reader.{Reader}
use Rattle.fac_parse.proofs.HeldLemmas.{held_at_top}
use Rattle.fac_parse.proofs.reader.Reader.take_at_top.Goals as goal

pub returns-in-None : goal.returns-in-None
returns-in-None c =
    let r = c.args.self.now in
    let held : Reader = record r { run = c.take.new.self } in
    held_at_top r.run held c.args.spelling c.args.token c.take.result c.requires.at (sym c.row_begun.ensures ∙ c.in-None.is) c.take.ensures
