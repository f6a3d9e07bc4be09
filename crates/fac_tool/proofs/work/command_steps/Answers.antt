use Rattle.fac_tool.proofs.work.command_steps.Goals as goal

pub returns-in-Generate-clause-ending : goal.returns-in-Generate-clause-ending
returns-in-Generate-clause-ending g c =
    rw c.in-Generate.is (c.generate_steps.ensures.ending (record { held = g.F.Files.held c.args.files.now; asked = g.F.Files.asked c.args.files.now; faults = g.F.Files.faults c.args.files.now }))
