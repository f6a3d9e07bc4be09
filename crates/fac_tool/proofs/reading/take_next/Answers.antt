use Rattle.fac_tool.proofs.ReadingLemmas.{wanted_for_text, has_no_tree}
use Rattle.fac_tool.proofs.reading.take_next.Goals as goal

pub returns-in-Err-clause-takes : goal.returns-in-Err-clause-takes
returns-in-Err-clause-takes c =
    λ tokens so_far handed. has_no_tree c.every_text_is_a_source.ensures c.args.file tokens so_far c.next.new.self c.in-Err.fault _ (c.in-Err.ensures.hands tokens so_far handed) c.no_tree.ensures

pub returns-in-Err-hand_on-clause-takes : goal.returns-in-Err-hand_on-clause-takes
returns-in-Err-hand_on-clause-takes c = λ tokens so_far handed text are. wanted_for_text c.every_text_is_a_source.ensures c.args.file text _ c.bare.ensures
