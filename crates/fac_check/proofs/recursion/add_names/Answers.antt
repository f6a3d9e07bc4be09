use Rattle.std.proofs.Common.{◌≡◌, ◌+◌, ◌∷◌, true, length, drop, List, sym, ap, subst, ◌∙◌}
use Rattle.std.proofs.lemmas.List.{drop_more}
use Rattle.fac_lang.specs.declared.phrase.Item.{Item as PlacedItem}
use Rattle.fac_lang.specs.PhraseView.{items_phrase}
use Rattle.fac_check.specs.inner.Walkable.{takes_phrase}
use Rattle.fac_check.proofs.TakenPrograms.{first_taken}
use Rattle.fac_check.proofs.recursion.add_names.Goals as goal

pub add_named-requires : goal.add_named-requires
add_named-requires c =
    let C = c.args.closed.now in
    let items = c.deref-item-items.result.now in
    let k = c.loop-item.item-index in
    let next : drop k items ≡ c.item-item.result ∷ drop (k + 1) items = drop_more items k c.item-item.result c.loop-item-test.true ∙ ap (λ (i : PlacedItem). i ∷ drop (k + 1) items) (sym c.item-item.is) in
    record { program = c.requires.program; item = first_taken C.program.top (length C.templates) c.item-item.result (drop (k + 1) items) (subst (λ (q : List PlacedItem). takes_phrase C.program.top (length C.templates) (items_phrase q) ≡ true) next c.loop-item.invariant.taken) }
