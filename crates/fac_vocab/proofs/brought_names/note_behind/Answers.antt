use Rattle.std.proofs.Common.{sym, subst, Bool}
use Rattle.fac_vocab.specs.inner.Index.{numbers_in}
use Rattle.fac_vocab.specs.inner.Pairs.{number_in}
use Rattle.fac_vocab.specs.inner.BroughtForms.{is_name, has_prefix, AreIndexed, IndexedWhere}
use Rattle.fac_vocab.proofs.LatestLemmas.{where_after, pair_after, lengths_after}
use Rattle.fac_vocab.proofs.brought_names.note_behind.Goals as goal

pub returns-in-Ok : goal.returns-in-Ok
returns-in-Ok c = λ fs counted h.
    let kept : AreIndexed c.args.names.now c.args.numbers.now c.args.prefixes.now c.args.lengths.now.keys fs = subst (λ (b : Bool). IndexedWhere b c.args.names.now c.args.numbers.now c.args.prefixes.now c.args.lengths.now.keys fs) c.if-not-is_indexed.false h in
    record {
      named = λ q. where_after (is_name q) fs c.args.form.now c.args.number (numbers_in c.args.names.now q) (numbers_in c.note.new.names q) (sym counted) (kept.named q) (c.in-Ok.ensures.named q);
      behind = λ q. where_after (has_prefix q) fs c.args.form.now c.args.number (numbers_in c.args.numbers.now q) (numbers_in c.note.new.numbers q) (sym counted) (kept.behind q) (c.in-Ok.ensures.behind q);
      prefixed = λ p v. pair_after p v fs c.args.form.now c.args.number (number_in c.args.prefixes.now p v) (number_in c.note.new.prefixes p v) (sym counted) (kept.prefixed p v) (c.in-Ok.ensures.prefixed p v);
      long = lengths_after fs c.args.form.now c.args.lengths.now.keys c.note.new.lengths.keys c.in-Ok.ensures.lengths kept.long;
    }
