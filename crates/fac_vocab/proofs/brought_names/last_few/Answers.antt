use Rattle.std.proofs.Common.{length, take, drop, ◌++◌, ◌-◌, ◌∙◌, ap, sym, List, ℕ}
use Rattle.std.proofs.lemmas.List.{take-append-drop, take_rest}
use Rattle.fac_vocab.proofs.brought_names.last_few.Goals as goal

pub returns-then-count-numbers : goal.returns-then-count-numbers
returns-then-count-numbers c =
    let all = c.args.numbers.now in
    let passed = length all - c.args.count in
    (take passed all, sym (ap (λ (xs : List ℕ). take passed all ++ xs) (take_rest all passed) ∙ take-append-drop passed all))
