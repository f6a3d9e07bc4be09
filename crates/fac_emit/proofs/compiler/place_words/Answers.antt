use Rattle.std.proofs.Common.{arith, ap, ◌∙◌}
use Rattle.fac_lang.specs.declared.program.Program.{Program}
use Rattle.fac_emit.specs.inner.Coded.{has_few_inputs}
use Rattle.fac_emit.proofs.CodeLists.{word_code_there}
use Rattle.fac_emit.proofs.CountLemmas.{sort_there}
use Rattle.fac_emit.proofs.EmitLemmas.{word_code_step, word_rows_step}
use Rattle.fac_emit.proofs.CodedItems.{item_passes}
use Rattle.fac_emit.proofs.compiler.place_words.Goals as goal

pub loop-word-preserved : goal.loop-word-preserved
loop-word-preserved c =
    let at = c.loop-word in
    let items = c.as_slice-word-items in
    let C = c.args.emission.now in
    let are = items.ensures ∙ ap (λ (P : Program). P.words) c.program-program.ensures in
    let inv = at.invariant in
    let lt = c.loop-word-test.true in
    let added = c.in_ok-place_word.ensures in
    record {
      count = omega (arith, inv.count);
      code_is = word_code_step C at.number at.word-index c.word-item.result items.result.now are lt c.word-item.is _ _ _ inv.code_is added.0;
      templates_are = added.1 ∙ inv.templates_are;
      words_are = word_rows_step C at.number at.word-index c.word-item.result items.result.now are lt c.word-item.is _ _ _ _ _ inv.words_are added.0 added.2;
    }

pub place_word-requires : goal.place_word-requires
place_word-requires c =
    let at = c.loop-word in
    let items = c.as_slice-word-items in
    let C = c.args.emission.now in
    let are = items.ensures ∙ ap (λ (P : Program). P.words) c.program-program.ensures in
    let lt = c.loop-word-test.true in
    record {
      sort = sort_there C at.word-index c.word-item.result items.result.now are lt c.word-item.is at.number at.invariant.count;
      few = item_passes has_few_inputs C.program.words at.word-index c.word-item.result items.result.now are lt c.word-item.is c.requires.few;
      own = c.code_numbered-own.ensures ∙ word_code_there C at.number at.word-index c.word-item.result items.result.now c.args.codes.now are lt c.word-item.is at.invariant.count c.requires.codes;
    }
