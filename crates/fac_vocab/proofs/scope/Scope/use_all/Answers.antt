use Rattle.std.proofs.Common.{◌∙◌, ap, fold, List, ℕ}
use Rattle.fac_vocab.specs.Scopes.{Scope, using_all}
use Rattle.fac_vocab.specs.inner.PublicVocabs.{with_public}
use Rattle.fac_vocab.proofs.PublicLemmas.{all_public}
use Rattle.fac_vocab.proofs.scope.Scope.use_all.Goals as goal

pub returns-in-Ok-clause-ok : goal.returns-in-Ok-clause-ok
returns-in-Ok-clause-ok c =
    let s = c.self.inside in
    let with_used : List (List ℕ) → Scope = λ u. record { table = s.table; vocabs = s.vocabs; current = s.current; in_private = s.in_private; used = u; brought = s.brought } in
    ap with_used (c.in-Ok.ensures.ok ∙ ap (fold with_public s.used) (c.as_slice.ensures ∙ c.texts.ensures) ∙ all_public s.used s.vocabs)
    ∙ ap using_all c.self.view_is
