use Rattle.std.proofs.Common.{sym, subst, ◌+◌, ℕ, Option, arith}
use Rattle.std.specs.Prelude.{slice_get}
use Rattle.fac_vocab.specs.inner.BroughtForms.{AtMost, GivesBest}
use Rattle.fac_vocab.proofs.LatestLemmas.{CoversTo, entry_gives, entry_keeps, covers_more, all_vocabs_covered}
use Rattle.fac_vocab.proofs.brought_names.best_of.Goals as goal

pub loop-index-init : goal.loop-index-init
loop-index-init c = (λ h. h, λ m h. h, λ j x l e g. absurd (omega (arith, l)))

pub loop-index-preserved : goal.loop-index-preserved
loop-index-preserved c =
    let table = c.args.table.now in
    let forms = c.args.forms.now in
    let name = c.args.name.now in
    let entry = slice_get c.args.vocabs.now.entries c.loop-index.index in
    let is = sym c.with_vocab_at-next.ensures in (
      λ h. subst (λ (o : Option ℕ). GivesBest table forms name o) is (entry_gives table forms name entry c.loop-index.next (c.loop-index.invariant.0 h)),
      λ m h. subst (λ (o : Option ℕ). AtMost m o) is (entry_keeps table forms name entry c.loop-index.next m (c.loop-index.invariant.1 m h)),
      subst (λ (o : Option ℕ). CoversTo table forms name (slice_get c.args.vocabs.now.entries) (c.loop-index.index + 1) o) is (covers_more table forms name (slice_get c.args.vocabs.now.entries) c.loop-index.index c.loop-index.next c.loop-index.invariant.2),
    )

pub returns : goal.returns
returns c =
    let table = c.args.table.now in
    let forms = c.args.forms.now in
    let name = c.args.name.now in
    let ends = c.loop-index-test.false in
    let counted = c.len-index-end.ensures.len in
    record {
      gives_word = c.loop-index.invariant.0;
      keeps = c.loop-index.invariant.1;
      covers = all_vocabs_covered table forms name c.args.prefix.now c.args.vocabs.now c.loop-index.next c.requires (λ j x l e g. c.loop-index.invariant.2 j x (omega (arith, l, ends, counted)) e g);
    }
