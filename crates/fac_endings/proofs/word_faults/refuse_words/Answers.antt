use Rattle.std.proofs.Common.{[], List, Option, Some, ◌≡◌, ◌+◌, ap, sym, subst, ◌∙◌, take, drop, fold}
use Rattle.std.specs.Prelude.{◌||◌}
use Rattle.fac_lang.specs.declared.program.WordDef.{WordDef}
use Rattle.fac_source.specs.Refusals.{sooner}
use Rattle.fac_endings.specs.declared.methods.MethodKey.{MethodKey}
use Rattle.fac_endings.specs.LastRefusals.{words_faults}
use Rattle.fac_endings.specs.inner.MethodKeys.{is_kept, same_as}
use Rattle.fac_endings.proofs.FaultLemmas.{word_more}
use Rattle.fac_endings.proofs.KeyLemmas.{and_word, is_noted, is_second, noted_more}
use Rattle.fac_endings.proofs.ListLemmas.{gone_more}
use Rattle.fac_endings.proofs.word_faults.refuse_words.Goals as goal

pub loop-draft-preserved : goal.loop-draft-preserved
loop-draft-preserved c =
    let ds = c.args.table.drafts.now in
    let cs = c.args.table.classes.now in
    let at = c.loop-draft in
    let i = at.draft-index in
    let d = c.draft-item.result in
    let earlier = fold (and_word ds cs) [] (take i ds) in
    let before = at.methods.keys in
    let after = c.note.new.methods.keys in
    let more = gone_more (and_word ds cs) [] ds i d c.loop-draft-test.true c.draft-item.is in
    let key = c.key_of-key.ensures in
    let second = is_second ds cs d before earlier at.invariant.kept ∙ ap (is_kept before) (sym key) ∙ sym c.is_second.ensures in
    record {
      first = subst (λ (ws : List WordDef). fold sooner c.args.first.now (words_faults ds cs [] ds) ≡ fold sooner c.refuse_late.new.first (words_faults ds cs ws (drop (i + 1) ds))) (sym more)
          (word_more ds cs ds earlier i d c.is_second.result c.args.first.now at.first c.refuse_late.new.first (words_faults ds cs [] ds) c.loop-draft-test.true c.draft-item.is second at.invariant.first c.in_ok-refuse_late.ensures);
      kept = subst (λ (ws : List WordDef). (q : MethodKey) → is_kept after (Some q) ≡ is_noted q ws) (sym more)
          (noted_more ds cs d before after earlier at.invariant.kept (λ q. c.in_ok-note.ensures q ∙ ap (λ (o : Option MethodKey). same_as q o || is_kept before (Some q)) key));
    }
