use Rattle.std.proofs.Common.{◌++◌, ℕ, List, ap, ◌∙◌, subst, length}
use Rattle.fac_check.specs.inner.UndeclaredRecursion.{phrase_makes, AddsTemplates}
use Rattle.fac_check.proofs.TakenPrograms.{phrase_makes_below}
use Rattle.fac_check.proofs.NamedWords.{on_ok, adds_phrase}
use Rattle.fac_check.proofs.recursion.add_phrase.Goals as goal

pub add_levels-requires-clause-made : goal.add_levels-requires-clause-made
add_levels-requires-clause-made c =
    let C = c.args.closed.now in
    let phrase = c.args.phrase.now in
    phrase_makes_below C.program.top (length C.templates) phrase c.add_templates.new.made c.requires.phrase (c.in_ok-add_templates.ensures ∙ ap (λ (ks : List ℕ). ks ++ phrase_makes 0 phrase) c.new-made.ensures)

pub returns : goal.returns
returns c =
    let C = c.args.closed.now in
    let phrase = c.args.phrase.now in
    let named = c.add_names.new.named in
    let after = c.add_levels.new.named in
    on_ok c.add_levels.result
    (λ adds. adds_phrase C.program C.templates phrase c.args.named.now named after c.in_ok-add_names.ensures
    (subst (λ (ks : List ℕ). AddsTemplates C.program C.templates ks named after) (c.in_ok-add_templates.ensures ∙ ap (λ (ks : List ℕ). ks ++ phrase_makes 0 phrase) c.new-made.ensures) adds))
    c.add_levels.ensures
