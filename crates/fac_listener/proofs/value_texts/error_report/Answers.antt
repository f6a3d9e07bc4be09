use Rattle.fac_listener.proofs.TextLemmas.{report_told}
use Rattle.fac_listener.proofs.value_texts.error_report.Goals as goal

pub returns-in_ok-text-in-Some : goal.returns-in_ok-text-in-Some
returns-in_ok-text-in-Some c =
    report_told c.args.machine.now c.args.error c.in_ok-word.word c.in-Some.value c.in_ok-text-in-Some.text c.image-image.result.now c.store.result.now c.image-image.ensures c.store.ensures c.in_ok-word.ensures c.in-Some.is c.in_ok-text-in-Some.ensures
