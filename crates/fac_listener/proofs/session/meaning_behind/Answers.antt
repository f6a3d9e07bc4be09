use Rattle.fac_listener.proofs.StepLemmas.{known_there, meaning_behind}
use Rattle.fac_listener.proofs.session.meaning_behind.Goals as goal

pub known_behind-requires : goal.known_behind-requires
known_behind-requires g c = (c.requires.0, known_there c.args.texts.now c.as_slice.result.now c.requires.0 c.as_slice.ensures c.requires.1)

pub meaning_of-requires-after_bounds : goal.meaning_of-requires-after_bounds
meaning_of-requires-after_bounds g c κs within = c.known_behind_texts_is_known.ensures c.as_slice.result.now c.in-Ok.known c.in-Ok.ensures

pub returns-in-Ok : goal.returns-in-Ok
returns-in-Ok g c = λ known behind.
    meaning_behind c.one_known.ensures c.args.texts.now c.as_slice.result.now c.args.count c.args.text.now c.as_slice-in-Ok.result.now c.in-Ok.known known c.meaning_of.result c.as_slice.ensures c.as_slice-in-Ok.ensures c.in-Ok.ensures behind c.meaning_of.ensures
