use Rattle.std.proofs.Common.{rules, ◌≡◌, ◌∙◌, ap, sym, subst, Option, ℕ, ◌<◌, List, ◌++◌, ◌∷◌, [], length, drop, take, append_assoc}
use Rattle.fac_vocab.specs.inner.BroughtForms.{last_giving}
use Rattle.fac_vocab.proofs.LatestLemmas.{Best, best_named, best_prefixed, best_of_all, best_is_latest, append_none, split_at}
use Rattle.fac_vocab.proofs.brought_names.latest_number.Goals as goal

pub loop-before-init : goal.loop-before-init
loop-before-init c =
    let last = c.last_number-best.ensures ∙ ap (last_giving c.args.table.now c.args.forms.now c.args.name.now) (c.numbers_of.ensures ∙ c.requires.named c.args.name.now) in (
      subst (λ (o : Option ℕ). Best c.args.table.now c.args.forms.now c.args.name.now (length c.args.name.now) o) (sym last) (best_named c.args.table.now c.args.forms.now c.args.name.now),
      ([], sym (append_none c.args.name.now)),
      search rules,
    )

pub loop-before-preserved : goal.loop-before-preserved
loop-before-preserved c =
    let front = c.loop-before.front.now in
    let before = c.in-Some.before.now in
    let h = c.in-Some.ensures.cases in
    let after = drop h.1 front in
    let split : front ≡ before ++ 58 ∷ after = sym (split_at front h.0) ∙ ap (λ (xs : List ℕ). take h.0 front ++ xs) h.2.1.split ∙ ap (λ (xs : List ℕ). xs ++ 58 ∷ after) (sym h.3) in
    let tail = c.loop-before.invariant.1.0 in
    let whole : c.args.name.now ≡ front ++ tail = c.loop-before.invariant.1.1 in (
      best_prefixed c.args.table.now c.args.forms.now c.args.name.now front before after tail c.loop-before.best c.best_behind-best.result whole split (λ i l. h.2.0 i (subst (λ (n : ℕ). n < i) h.6 l)) c.best_behind-best.ensures c.loop-before.invariant.0,
      (58 ∷ (after ++ tail), whole ∙ ap (λ (xs : List ℕ). xs ++ tail) split ∙ append_assoc before (58 ∷ after) tail),
      search rules,
    )

pub returns : goal.returns
returns c =
    best_is_latest c.args.table.now c.args.forms.now c.args.name.now c.loop-before.best
    (best_of_all c.args.table.now c.args.forms.now c.args.name.now c.loop-before.front.now c.loop-before.invariant.1.0 c.loop-before.best c.loop-before.invariant.1.1 c.in_default.ensures.cases c.loop-before.invariant.0)
