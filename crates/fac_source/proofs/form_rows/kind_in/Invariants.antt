use Rattle.std.proofs.Common.{◌≡◌, map, drop}
use Rattle.fac_source.specs.FormRows.{kind_among}
use Rattle.fac_source.proofs.form_rows.kind_in.Given as goal

abbrev pub invariant-loop-row : goal.invariant-loop-row
invariant-loop-row l = kind_among (map (λ row. (row.head.now, row.kind)) l.table) l.text ≡ kind_among (map (λ row. (row.head.now, row.kind)) (drop l.row-index l.table)) l.text
