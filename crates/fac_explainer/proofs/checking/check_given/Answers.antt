use Rattle.std.proofs.Common.{◌≡◌, ◌∷◌, ◌∙◌, List, ℕ, ap, map, subst}
use Rattle.std.specs.Prelude.{codes, string_bytes}
use Rattle.fac_io.specs.Names.{bytes_of}
use Rattle.fac_explainer.specs.inner.Steps.{ChecksGiven}
use Rattle.fac_explainer.proofs.CheckedLemmas.{given_checks}
use Rattle.fac_explainer.proofs.checking.check_given.Goals as goal

pub returns : goal.returns
returns g c =
    let given : List (List ℕ × List ℕ) = c.args.given.now in
    let words : List (List ℕ) = map string_bytes c.as_slice-2.result.now in
    let ended = c.check_words-ended.result in
    let named : words ≡ codes "check" ∷ map (λ pair. pair.0) given =
    ap (map string_bytes) c.as_slice-2.ensures.value ∙ c.in_ok-words.ensures ∙ ap (λ (ps : List (List ℕ × List ℕ)). codes "check" ∷ map (λ pair. pair.0) ps) c.as_slice.ensures in
    let checks : ChecksGiven words (bytes_of given) ended = subst (λ (ps : List (List ℕ × List ℕ)). ChecksGiven words (bytes_of ps) ended) c.as_slice-3.ensures c.check_words-ended.ensures in
    given_checks given words ended c.refusal_of.result c.requires named checks c.refusal_of.ensures
