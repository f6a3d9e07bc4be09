use Rattle.fac_items.specs.FromElements.{tok}
use Rattle.fac_items.proofs.SearchLemmas.{several_found}
use Rattle.fac_items.proofs.search.find.Goals as goal

pub refuse_ambiguous-requires : goal.refuse_ambiguous-requires
refuse_ambiguous-requires c = several_found c.args.scope.now (tok c.args.token.now) c.text.result.now c.in-Ambiguous.field-0 c.in-Ambiguous.field-1 c.text.ensures c.in-Ambiguous.ensures
