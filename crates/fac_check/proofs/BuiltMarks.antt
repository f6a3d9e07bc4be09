-- No mark stands in the phrases of whole programs as they run.
use Rattle.std.proofs.Common.{◌≡◌, ℕ, refl}
use Rattle.std.specs.Prelude.{max}
use Rattle.fac_lang.specs.declared.program.Program.{Program}
use Rattle.fac_lang.specs.Phrases.{Phrase, end, then, Item, quot, fry, known}
use Rattle.fac_locals.proofs.RunningPhrases.{IsRun, IsRunItem}
use Rattle.fac_abs.specs.Marks.{phrase_marks, item_marks}

none_of_both : (a b : ℕ) → a ≡ 0 → b ≡ 0 → max a b ≡ 0
none_of_both a b e f = rw (e, f) refl

module _ (P : Program) where
  mutual
    pub run_unmarked : (t : Phrase) → IsRun P t → phrase_marks t ≡ 0
    run_unmarked end h = refl
    run_unmarked (then i p t) h = none_of_both (item_marks i) (phrase_marks t) (run_item_unmarked i h.0) (run_unmarked t h.1)

    run_item_unmarked : (i : Item) → IsRunItem P i → item_marks i ≡ 0
    run_item_unmarked (quot t) h = run_unmarked t h
    run_item_unmarked (fry t n) h = run_unmarked t h
    run_item_unmarked (known m) h = absurd h
    run_item_unmarked _ h = refl
