use Rattle.std.proofs.Common.{sym, ◌∙◌, ap, ◌++◌, ◌∷◌, [], List, ℕ}
use Rattle.fac_base.specs.EffectView.{inputs_tree}
use Rattle.fac_effect.specs.inner.EffectParts.{names_of}
use Rattle.fac_effect.proofs.PartLemmas.{more_names}
use Rattle.fac_effect.proofs.effect_parts.names.Goals as goal

pub loop-input-preserved : goal.loop-input-preserved
loop-input-preserved c =
    c.in_ok-push.ensures.ok ∙ ap (λ (ns : List (List ℕ)). ns ++ c.into_name.result ∷ []) c.loop-input.invariant ∙
    ap (λ (n : List ℕ). names_of (inputs_tree c.loop-input.yielded) ++ n ∷ []) c.into_name.ensures ∙ sym (more_names c.loop-input.yielded c.in-Some.input)
