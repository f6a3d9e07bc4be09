use Rattle.fac_tool.proofs.InputLemmas.{on_channels}
use Rattle.fac_tool.proofs.tool.hear.Goals as goal

pub returns : goal.returns
returns g c = record {
  heard = c.listen-heard.result;
  same = c.ended_of.ensures;
  listens = on_channels c.args.channels.now c.listen-heard.new.channels c.nothing_is_behind_the_end.ensures c.listen-heard.ensures;
}
