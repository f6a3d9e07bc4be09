use Rattle.fac_emit.proofs.CodedItems.{words_few}
use Rattle.fac_emit.proofs.compiler.parts_of.Goals as goal

pub add_words-requires-after_bounds : goal.add_words-requires-after_bounds
add_words-requires-after_bounds g c κs within =
    let given = c.requires in
    let closed = c.args.emission.now in
    words_few given.0 closed given.1.1 given.1.0
