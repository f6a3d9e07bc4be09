use Rattle.std.proofs.Common.{ℕ, List, [], ◌∷◌, ◌++◌, ap, sym, ◌∙◌, arith}
use Rattle.std.proofs.lemmas.List.FromFn.{map-range_with_len_more}
use Rattle.fac_classes.specs.inner.Ordering.{key_of}
use Rattle.fac_classes.proofs.order.keys_of.Goals as goal

pub loop-class-preserved : goal.loop-class-preserved
loop-class-preserved c =
    c.in_ok-add_key.ensures
    ∙ ap (λ (ks : List (ℕ × List ℕ × ℕ)). ks ++ key_of c.args.classes.now c.loop-class.class ∷ []) c.loop-class.invariant
    ∙ sym (map-range_with_len_more (key_of c.args.classes.now) 0 c.loop-class.class c.loop-class.class (omega arith))
