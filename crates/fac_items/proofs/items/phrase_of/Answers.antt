use Rattle.std.proofs.Common.{[], map, ap, ◌∙◌}
use Rattle.fac_items.specs.inner.Behind.{name_tok}
use Rattle.fac_items.specs.inner.TakenBits.{Taken, all_bound, begun, bits_of, bits_taken}
use Rattle.fac_items.proofs.CodeLemmas.{phrase_taken}
use Rattle.fac_items.proofs.items.phrase_of.Goals as goal

pub returns-clause-phrase : goal.returns-clause-phrase
returns-clause-phrase c =
    let s = c.args.scope.now in
    let inputs = map name_tok c.args.inputs.now in
    let t = phrase_taken s inputs c.args.elements.now c.args.arrays.now c.args.first.now c.take_phrase.new.nest c.requires
    (c.in_ok-take_phrase.ensures ∙ ap (λ (n : Taken). bits_taken s (all_bound inputs [] n) (bits_of s c.args.elements.now)) (c.begin-nest.ensures ∙ ap (λ arrays. begun arrays c.replace.result) c.replace-so_far.ensures.value ∙ ap (begun c.args.arrays.now) c.replace.ensures.value)) in
    c.finish.ensures.phrase ∙ t.0

pub returns-clause-arrays : goal.returns-clause-arrays
returns-clause-arrays c =
    let s = c.args.scope.now in
    let inputs = map name_tok c.args.inputs.now in
    let t = phrase_taken s inputs c.args.elements.now c.args.arrays.now c.args.first.now c.take_phrase.new.nest c.requires
    (c.in_ok-take_phrase.ensures ∙ ap (λ (n : Taken). bits_taken s (all_bound inputs [] n) (bits_of s c.args.elements.now)) (c.begin-nest.ensures ∙ ap (λ arrays. begun arrays c.replace.result) c.replace-so_far.ensures.value ∙ ap (begun c.args.arrays.now) c.replace.ensures.value)) in
    c.finish.ensures.arrays ∙ t.1

pub returns-clause-first : goal.returns-clause-first
returns-clause-first c =
    let s = c.args.scope.now in
    let inputs = map name_tok c.args.inputs.now in
    let t = phrase_taken s inputs c.args.elements.now c.args.arrays.now c.args.first.now c.take_phrase.new.nest c.requires
    (c.in_ok-take_phrase.ensures ∙ ap (λ (n : Taken). bits_taken s (all_bound inputs [] n) (bits_of s c.args.elements.now)) (c.begin-nest.ensures ∙ ap (λ arrays. begun arrays c.replace.result) c.replace-so_far.ensures.value ∙ ap (begun c.args.arrays.now) c.replace.ensures.value)) in
    c.finish.ensures.first ∙ t.2
