use Rattle.std.proofs.Common.{◌≡◌, Some, [], drop, fold, take}
use Rattle.fac_source.specs.Refusals.{sooner}
use Rattle.fac_endings.specs.LastRefusals.{words_faults}
use Rattle.fac_endings.specs.declared.methods.MethodKey.{MethodKey}
use Rattle.fac_endings.specs.inner.MethodKeys.{is_kept}
use Rattle.fac_endings.proofs.KeyLemmas.{and_word, is_noted}
use Rattle.fac_endings.proofs.word_faults.refuse_words.Given as goal

abbrev pub invariant-loop-draft : goal.invariant-loop-draft
invariant-loop-draft l =
    let ds = l.table.drafts.now in
    let cs = l.table.classes.now in
    record {
      first : fold sooner l.initial.first (words_faults ds cs [] ds) ≡ fold sooner l.first (words_faults ds cs (fold (and_word ds cs) [] (take l.draft-index ds)) (drop l.draft-index ds));
      kept : (q : MethodKey) → is_kept l.methods.keys (Some q) ≡ is_noted q (fold (and_word ds cs) [] (take l.draft-index ds));
    }
