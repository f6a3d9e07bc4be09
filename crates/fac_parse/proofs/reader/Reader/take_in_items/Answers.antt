use Rattle.std.proofs.Common.{sym, ◌∙◌}
use Rattle.fac_parse.specs.declared.reader.Reader.{Reader}
use Rattle.fac_parse.proofs.HeldLemmas.{held_in_items}
use Rattle.fac_parse.proofs.reader.Reader.take_in_items.Goals as goal

pub returns-else-is_semicolon : goal.returns-else-is_semicolon
returns-else-is_semicolon c =
    let r = c.args.self.now in
    let held : Reader = record r { run = c.take.new.self } in
    held_in_items c.args.head c.args.taking r.run held c.args.spelling c.args.token c.take.result c.requires.at (sym c.is_semicolon.ensures ∙ c.if-is_semicolon.false) c.take.ensures
