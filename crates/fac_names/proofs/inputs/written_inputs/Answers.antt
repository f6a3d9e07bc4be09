use Rattle.std.proofs.Common.{List, map, fold, ap, ◌∙◌}
use Rattle.fac_items.specs.declared.spelled.NameAt.{NameAt}
use Rattle.fac_items.specs.inner.Behind.{name_tok}
use Rattle.fac_names.specs.inner.Walks.{Walked, begun, token_taken}
use Rattle.fac_names.proofs.InputLemmas.{inputs_found}
use Rattle.fac_names.proofs.inputs.written_inputs.Goals as goal

pub returns : goal.returns
returns c = λ effect h.
    ap (λ (w : Walked). w.names) (c.in_ok-take_all.ensures ∙ ap (λ (ns : List NameAt). fold token_taken (record begun { names = map name_tok ns }) c.args.tokens.now) c.new.ensures.items)
    ∙ inputs_found c.args.tokens.now effect h
