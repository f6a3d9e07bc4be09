use Rattle.std.proofs.Common.{ap, subst, ◌∙◌, Bool, cond, List, ℕ, Some, length}
use Rattle.std.specs.Str.{bytes_eq}
use Rattle.indexmap.specs.IndexMap.{get_by_text}
use Rattle.fac_vocab.specs.inner.Roots.{root, least_length, AreRooted, RootedWhere}
use Rattle.fac_vocab.proofs.RootLemmas.{rooted_after}
use Rattle.fac_vocab.proofs.named_vocabs.keep.Goals as goal

pub returns-in-Ok : goal.returns-in-Ok
returns-in-Ok c = λ vs new h.
    let old = c.args.roots.now in
    let kept : AreRooted old vs = subst (λ (b : Bool). RootedWhere b old vs) c.if-not-has_roots.false h in
    let stem = c.root_of-stem.ensures in
    let least = c.least_with-least.ensures ∙ ap (λ (s : List ℕ). least_length (get_by_text old s) (length c.args.text.now)) stem in
    rooted_after old c.put.new.roots vs c.args.text.now new (λ q. c.in-Ok.ensures q ∙ ap (λ (s : List ℕ). cond (bytes_eq s q) (Some c.least_with-least.result) (get_by_text old q)) stem ∙ ap (λ (n : ℕ). cond (bytes_eq (root c.args.text.now) q) (Some n) (get_by_text old q)) least) kept
