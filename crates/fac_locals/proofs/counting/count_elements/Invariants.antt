use Rattle.std.proofs.Common.{◌≡◌, drop}
use Rattle.fac_lang.specs.Meaning.{nowhere}
use Rattle.fac_locals.specs.inner.Numbering.{elements_count, phrase_behind, plain_phrase}
use Rattle.fac_locals.proofs.counting.count_elements.Given as goal

abbrev pub invariant-loop-element : goal.invariant-loop-element
invariant-loop-element l = elements_count l.counts l.elements ≡ phrase_behind l.counts l.behind (plain_phrase nowhere (drop l.element-index l.elements))
