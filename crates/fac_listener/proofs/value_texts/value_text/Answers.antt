use Rattle.fac_listener.proofs.TextLemmas.{shown_whole, dots_told}
use Rattle.fac_listener.proofs.value_texts.value_text.Goals as goal

pub returns-in-Ok : goal.returns-in-Ok
returns-in-Ok c = λ w same. let is = c.in-Ok.ensures w same in shown_whole _ _ is.0 is.1

pub returns-in-TooLong : goal.returns-in-TooLong
returns-in-TooLong c = dots_told c.args.image.now c.args.store.now c.args.value c.in-Err.fault c.from_str.result c.in-TooLong.is c.in-Err.ensures c.from_str.ensures
