use Rattle.fac_tool.specs.SeenObjects.{files_seen}
use Rattle.fac_tool.proofs.LoadLemmas.{loads_only}
use Rattle.fac_tool.proofs.loading.load_one.Goals as goal

pub returns-clause-loads : goal.returns-clause-loads
returns-clause-loads g c =
    let files = files_seen g.F.Files.held g.F.Files.asked g.F.Files.faults c.args.files.now c.load.new.files in
    loads_only c.args.name.now c.args.limit files c.load.result c.load.ensures.loads
