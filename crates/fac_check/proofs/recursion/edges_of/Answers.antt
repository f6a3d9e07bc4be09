use Rattle.std.proofs.Common.{◌≡◌, ◌+◌, ◌∷◌, List, drop, sym, ap, ◌∙◌, arith}
use Rattle.std.specs.Prelude.{slice_get}
use Rattle.std.proofs.lemmas.List.{drop_more, drop_all}
use Rattle.fac_lang.specs.declared.program.WordDef.{WordDef}
use Rattle.fac_check.proofs.TakenPrograms.{word_taken, first_dropped}
use Rattle.fac_check.proofs.EdgesOfWords.{edges_step, edges_end}
use Rattle.fac_check.proofs.recursion.edges_of.Goals as goal

pub led_by-requires : goal.led_by-requires
led_by-requires c =
    let C = c.args.closed.now in
    let k = c.loop-word.word-index in
    let words = c.as_slice-word-items.result.now in
    let word = c.word-item.result in
    let next : drop k words ≡ word ∷ drop (k + 1) words = drop_more words k word c.loop-word-test.true ∙ ap (λ (d : WordDef). d ∷ drop (k + 1) words) (sym c.word-item.is) in
    record { program = c.requires; word = word_taken C.program C.templates c.requires k word (ap (λ (ds : List WordDef). slice_get ds k) (sym c.as_slice-word-items.ensures) ∙ first_dropped words k word (drop (k + 1) words) next) }

pub loop-word-preserved : goal.loop-word-preserved
loop-word-preserved c =
    let at = c.loop-word in
    let k = at.word-index in
    let words = c.as_slice-word-items.result.now in
    let word = c.word-item.result in
    record {
      count = omega (arith, at.invariant.count);
      so_far = λ P h. edges_step P _ _ h at.number (at.number + 1) (drop k words) word (drop (k + 1) words) at.edges c.push.new.self _ (at.invariant.so_far P h) (drop_more words k word c.loop-word-test.true ∙ ap (λ (d : WordDef). d ∷ drop (k + 1) words) (sym c.word-item.is)) (omega arith) c.in_ok-led_by.ensures c.in_ok-push.ensures.ok;
    }

pub returns : goal.returns
returns c = λ P h. edges_end P c.loop-word.number (drop c.loop-word.word-index c.as_slice-word-items.result.now) c.loop-word.edges (c.loop-word.invariant.so_far P h) (drop_all c.loop-word.word-index c.as_slice-word-items.result.now c.loop-word-test.false)
