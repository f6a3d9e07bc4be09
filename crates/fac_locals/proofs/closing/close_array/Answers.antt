use Rattle.std.proofs.Common.{refl, ◌∙◌}
use Rattle.fac_locals.proofs.ArraySteps.{array_step}
use Rattle.fac_locals.proofs.closing.close_array.Goals as goal

pub returns : goal.returns
returns c =
    let before = c.args.closing.now in
    let start = c.index-start.result.now in
    array_step c.args.counts.now c.args.array c.args.arrays.now.items before (record { next = start.number; templates = before.templates; starts = before.starts; asked = before.asked }) c.close_elements.new.closing start c.index_mut.result.now c.into_vec.result.items c.replace-elements.new.dest c.in_ok-closed.closed c.index-start.ensures c.requires.in_starts c.index_mut.ensures.value c.requires.in_arrays (c.into_vec.ensures ∙ c.replace-elements.ensures.value) refl refl refl c.in_ok-closed.ensures
