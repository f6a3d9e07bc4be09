use Rattle.std.proofs.Common.{ℕ, List, [], ◌∷◌, subst, sym, refl, ◌∙◌, ap}
use Rattle.std.specs.Map.{keys_of}
use Rattle.fac_lang.specs.Phrases.{any}
use Rattle.fac_abs.specs.declared.mark_node.MarkNode.{MarkNode}
use Rattle.fac_abs.specs.MarkPromises.{IsMarkOf}
use Rattle.fac_abs.proofs.SeenLemmas.{seen, first_mark, empty_frame, empty_stack}
use Rattle.fac_abs.proofs.MarkTableLemmas.{first_table}
use Rattle.fac_abs.proofs.table.Marks.new.Goals as goal

pub returns-clause-mark : goal.returns-clause-mark
returns-clause-mark c = subst (λ (es : List (MarkNode × ℕ)). IsMarkOf (seen c.args.templates c.new-2.result (keys_of es) c.new-3.result) 0 (λ N. any)) (sym c.in_ok-new.ensures) (first_mark c.args.templates c.new-2.result _ c.new-3.result first_table (tt, tt))

pub returns-clause-frame : goal.returns-clause-frame
returns-clause-frame c = empty_frame c.args.templates c.new-2.result (keys_of c.in_ok-new.field-0) c.new-3.result c.new-2.ensures

pub returns-clause-stack : goal.returns-clause-stack
returns-clause-stack c = empty_stack c.args.templates c.new-2.result (keys_of c.in_ok-new.field-0) c.new-3.result c.new-3.ensures
