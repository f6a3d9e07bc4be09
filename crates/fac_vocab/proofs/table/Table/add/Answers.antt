use Rattle.std.proofs.Common.{◌∙◌, ap, sym, subst, length, List, ℕ, ◌≤◌, arith}
use Rattle.std.proofs.lemmas.List.{length_push}
use Rattle.fac_vocab.specs.Scopes.{Entry, held}
use Rattle.fac_vocab.specs.ScopeCalls.{names_differ}
use Rattle.fac_vocab.specs.inner.Index.{numbers_in, NamesWithin}
use Rattle.fac_vocab.specs.inner.Rows.{numbers_named}
use Rattle.fac_vocab.specs.inner.Late.{LateWhere}
use Rattle.fac_vocab.proofs.TableLemmas.{numbers_after, names_push, names_added}
use Rattle.fac_vocab.proofs.table.Table.add.Goals as goal

pub invariant_of-self-in-Ok : goal.invariant_of-self-in-Ok
invariant_of-self-in-Ok c =
    let e = c.in_ok-entry_of.field-0 in
    let es = c.self.inside.entries.items in
    let items = c.in_ok-push.ensures.items in
    let name = ap (λ (x : Entry). x.name) c.in_ok-entry_of.ensures in
    let vocab = ap (λ (x : Entry). x.vocab) c.in_ok-entry_of.ensures in (
      record {
        numbers = λ q. numbers_after es e c.len-number.result q c.as_str-4.result.now (numbers_in c.self.inside.index q) (numbers_in c.add_number.new.index q) (c.as_str-4.ensures ∙ sym name) (c.len-number.ensures ∙ ap length (sym c.self.view_is)) (c.self.invariant.0.numbers q) (c.in-Ok.ensures.ok q) ∙ sym (ap (numbers_named 0 q) items);
        once = ap names_differ items ∙ names_push es e c.self.invariant.0.once (ap (λ (v : List ℕ). held es v e.name) vocab ∙ ap (held es c.args.name.now.vocab) name ∙ ap (λ (t : List Entry). held t c.args.name.now.vocab c.args.name.now.name) c.self.view_is ∙ c.requires);
        few = let long = ap length items in let more = length_push es e in let room = c.if-number.false in let counted = c.len-number.ensures ∙ ap length (sym c.self.view_is) in let fits = c.len-number.type_inv in omega (arith, long, more, room, counted, fits);
      },
      subst (λ (t : List Entry). LateWhere c.note_late-is_kept.result c.note_late-is_kept.new.own c.note_late-is_kept.new.companions t) (sym items)
          (c.note_late-is_kept.ensures es e (vocab ∙ sym c.as_str-2.ensures) (name ∙ sym c.as_str-3.ensures)
          (c.numbers_of.ensures ∙ ap (numbers_in c.self.inside.index) c.as_str.ensures ∙ c.self.invariant.0.numbers c.args.name.now.name ∙ ap (λ (n : List ℕ). numbers_named 0 n es) (sym c.as_str-3.ensures))
          (c.len-number.ensures ∙ ap length (sym c.self.view_is))
          (ap (λ (v : List ℕ). held es v c.as_str-3.result.now) c.as_str-2.ensures ∙ ap (held es c.args.name.now.vocab) c.as_str-3.ensures ∙ ap (λ (t : List Entry). held t c.args.name.now.vocab c.args.name.now.name) c.self.view_is ∙ c.requires)
          c.self.invariant.1),
      subst (λ (t : List Entry). NamesWithin c.greater_of-self-inside.result t) (sym items)
          (names_added c.self.inside.longest c.greater_of-self-inside.result es e c.greater_of-self-inside.ensures.first (let most = c.greater_of-self-inside.ensures.second in let counted = c.len.ensures in let same = ap length name in omega (arith, most, counted, same)) c.self.invariant.2),
    )
