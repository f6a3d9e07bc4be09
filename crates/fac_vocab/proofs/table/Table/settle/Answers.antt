use Rattle.std.proofs.Common.{◌≡◌, ◌∙◌, ap, sym, subst, length, List, ℕ, Some, None, ◌<◌, ◌^◌}
use Rattle.fac_vocab.specs.Scopes.{Entry}
use Rattle.fac_vocab.specs.ScopeCalls.{names_differ}
use Rattle.fac_vocab.specs.inner.Index.{numbers_in, NamesWithin}
use Rattle.fac_vocab.specs.inner.Rows.{numbers_named, first_among, settled}
use Rattle.fac_vocab.proofs.TableLemmas.{numbers_defined, names_defined, names_settled, length_defined, settled_at, settled_none}
use Rattle.fac_vocab.proofs.LateLemmas.{late_settled}
use Rattle.fac_vocab.proofs.table.Table.settle.Goals as goal

pub invariant_of-self : goal.invariant_of-self
invariant_of-self c =
    let es = c.self.inside.entries.items in (
      record {
        numbers = λ q. c.self.invariant.0.numbers q ∙ sym (numbers_defined c.in-Some.number 0 q es) ∙ sym (ap (numbers_named 0 q) c.define_at.ensures);
        once = ap names_differ c.define_at.ensures ∙ names_defined c.in-Some.number es ∙ c.self.invariant.0.once;
        few = subst (λ (n : ℕ). n < 2 ^ 32) (sym (ap length c.define_at.ensures ∙ length_defined c.in-Some.number es)) c.self.invariant.0.few;
      },
      late_settled c.self.inside.late.is_kept c.self.inside.late.own c.self.inside.late.companions es c.define_at.new.entries.items c.in-Some.number c.define_at.ensures c.self.invariant.1,
      subst (λ (t : List Entry). NamesWithin c.self.inside.longest t) (sym c.define_at.ensures) (names_settled c.self.inside.longest c.in-Some.number es c.self.invariant.2),
    )

pub returns-in-Some : goal.returns-in-Some
returns-in-Some c =
    let es = c.self.inside.entries.items in
    let first : Some c.in-Some.number ≡ first_among es c.args.name.now.vocab (numbers_named 0 c.args.name.now.name es) =
    c.in-Some.ensures
    ∙ ap (λ (t : List Entry). first_among t c.as_str-2.result.now c.numbers_of-numbers.result.now) c.as_slice.ensures.value
    ∙ ap (λ (v : List ℕ). first_among es v c.numbers_of-numbers.result.now) c.as_str-2.ensures
    ∙ ap (first_among es c.args.name.now.vocab) (c.numbers_of-numbers.ensures ∙ ap (numbers_in c.self.inside.index) c.as_str.ensures ∙ c.self.invariant.0.numbers c.args.name.now.name) in
    c.define_at.ensures ∙ settled_at c.args.name.now.vocab c.args.name.now.name es c.in-Some.number first ∙ ap (settled c.args.name.now) c.self.view_is

pub returns-in-None : goal.returns-in-None
returns-in-None c =
    let es = c.self.inside.entries.items in
    let first : None ≡ first_among es c.args.name.now.vocab (numbers_named 0 c.args.name.now.name es) =
    c.in-None.ensures
    ∙ ap (λ (t : List Entry). first_among t c.as_str-2.result.now c.numbers_of-numbers.result.now) c.as_slice.ensures.value
    ∙ ap (λ (v : List ℕ). first_among es v c.numbers_of-numbers.result.now) c.as_str-2.ensures
    ∙ ap (first_among es c.args.name.now.vocab) (c.numbers_of-numbers.ensures ∙ ap (numbers_in c.self.inside.index) c.as_str.ensures ∙ c.self.invariant.0.numbers c.args.name.now.name) in
    sym c.self.view_is ∙ settled_none c.args.name.now.vocab c.args.name.now.name es first ∙ ap (settled c.args.name.now) c.self.view_is
