use Rattle.std.proofs.Common.{sym, ap, ◌∙◌, subst, ◌+◌, ℕ, Option, List, arith}
use Rattle.std.specs.Prelude.{slice_get}
use Rattle.fac_vocab.specs.Scopes.{Entry}
use Rattle.fac_vocab.specs.inner.BroughtForms.{AtMost, GivesBest, with_vocab_number, numbered_last, twice, entry_number}
use Rattle.fac_vocab.proofs.LatestLemmas.{CoversTo, entry_gives, entry_keeps, covers_more}
use Rattle.fac_vocab.proofs.PrefixLemmas.{all_entries_covered}
use Rattle.fac_vocab.proofs.brought_names.best_by_entries.Goals as goal

pub loop-index-init : goal.loop-index-init
loop-index-init c = (λ h. h, λ m h. h, λ j x l e g. absurd (omega (arith, l)))

pub loop-index-preserved : goal.loop-index-preserved
loop-index-preserved c =
    let table = c.args.table.now in
    let forms = c.args.forms.now in
    let name = c.args.name.now in
    let entry = entry_number c.args.vocabs.now table (slice_get c.args.numbers.now c.loop-index.index) in
    let is = sym (c.with_last-next.ensures ∙ ap (λ (o : Option ℕ). with_vocab_number table forms name (twice o) c.loop-index.next) (c.last_at-last.ensures ∙ ap (λ (t : List Entry). numbered_last c.args.vocabs.now t (slice_get c.args.numbers.now c.loop-index.index)) c.entries.ensures.all)) in (
      λ h. subst (λ (o : Option ℕ). GivesBest table forms name o) is (entry_gives table forms name entry c.loop-index.next (c.loop-index.invariant.0 h)),
      λ m h. subst (λ (o : Option ℕ). AtMost m o) is (entry_keeps table forms name entry c.loop-index.next m (c.loop-index.invariant.1 m h)),
      subst (λ (o : Option ℕ). CoversTo table forms name (λ j. entry_number c.args.vocabs.now table (slice_get c.args.numbers.now j)) (c.loop-index.index + 1) o) is
          (covers_more table forms name (λ j. entry_number c.args.vocabs.now table (slice_get c.args.numbers.now j)) c.loop-index.index c.loop-index.next c.loop-index.invariant.2),
    )

pub returns : goal.returns
returns c =
    let ends = c.loop-index-test.false in
    record {
      gives_word = c.loop-index.invariant.0;
      keeps = c.loop-index.invariant.1;
      covers = all_entries_covered c.args.table.now c.args.forms.now c.args.name.now c.args.prefix.now c.args.rest.now c.args.numbers.now c.args.vocabs.now c.loop-index.next c.requires.kept c.requires.numbers c.requires.rest
          (λ j x l e g. c.loop-index.invariant.2 j x (omega (arith, l, ends)) e g);
    }
