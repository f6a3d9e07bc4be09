use Rattle.std.proofs.Common.{sym, ◌∙◌, subst, arith, ℕ, List}
use Rattle.std.proofs.lemmas.Grind.{common_steps}
use Rattle.fac_vocab.specs.inner.PublicVocabs.{BeginsWith}
use Rattle.fac_vocab.proofs.PublicLemmas.{begins_more}
use Rattle.fac_vocab.proofs.public_vocabs.use_each.Goals as goal

pub loop-vocab-preserved : goal.loop-vocab-preserved
loop-vocab-preserved c = (
  c.loop-vocab.invariant.0 ∙ grind (arith, common_steps),
  subst (λ (u : List (List ℕ)). BeginsWith u c.args.used.now) (sym c.in_ok-use_public.ensures.ok) (begins_more c.args.used.now c.loop-vocab.used c.as_str.result.now c.loop-vocab.invariant.1),
  c.use_public.ensures.kept,
)
