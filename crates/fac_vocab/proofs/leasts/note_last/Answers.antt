use Rattle.std.proofs.Common.{ap, sym, ◌∙◌, ◌++◌, ◌∷◌, ◌<◌, ◌≤◌, ◌≡◌, ◌-◌, [], List, ℕ, Bool, length, subst, arith}
use Rattle.std.specs.List.{list_any}
use Rattle.std.specs.Str.{bytes_eq}
use Rattle.std.proofs.lemmas.List.{length_push}
use Rattle.fac_vocab.specs.declared.few.TheConstants.{FEW}
use Rattle.fac_vocab.specs.Scopes.{Entry}
use Rattle.fac_vocab.specs.ScopeCalls.{names_differ}
use Rattle.fac_vocab.specs.inner.Rows.{numbers_named}
use Rattle.fac_vocab.specs.inner.Leasts.{least_in, MoreLeast, IsLeast, AreLeast, LeastWhere}
use Rattle.fac_vocab.proofs.LeastLemmas.{few_least, unused_least, used_least}
use Rattle.fac_vocab.proofs.leasts.note_last.Goals as goal

pub returns-then-numbers-le-FEW : goal.returns-then-numbers-le-FEW
returns-then-numbers-le-FEW c = λ es e all vocab name kept q.
    let table = c.args.table.now in
    let used = c.args.used.now in
    let old = c.args.kept.now in
    let are : AreLeast old es used = subst (λ (b : Bool). LeastWhere b old es used) c.if-not-is_kept.false kept in
    let named = c.numbers.ensures ∙ ap (numbers_named 0 c.args.name.now) all ∙ ap (λ (n : List ℕ). numbers_named 0 n (es ++ e ∷ [])) (sym name) in
    subst (λ (t : List Entry). IsLeast t used q (least_in old q)) (sym all) (few_least es e used q (least_in old q) (subst (λ (ns : List ℕ). length ns ≤ FEW) named c.if-numbers-le-FEW.true) (are q))

pub returns-then-not-contains : goal.returns-then-not-contains
returns-then-not-contains c = λ es e all vocab name kept q.
    let table = c.args.table.now in
    let used = c.args.used.now in
    let old = c.args.kept.now in
    let are : AreLeast old es used = subst (λ (b : Bool). LeastWhere b old es used) c.if-not-is_kept.false kept in
    let named = c.numbers.ensures ∙ ap (numbers_named 0 c.args.name.now) all ∙ ap (λ (n : List ℕ). numbers_named 0 n (es ++ e ∷ [])) (sym name) in
    let once = ap names_differ (sym all) ∙ c.entries-entries.ensures.once in
    let unused = ap (λ (v : List ℕ). list_any (bytes_eq v) used) vocab ∙ sym c.contains.ensures ∙ c.if-not-contains.true in
    subst (λ (t : List Entry). IsLeast t used q (least_in old q)) (sym all) (unused_least es e used q (least_in old q) once unused (subst (λ (ns : List ℕ). FEW < length ns) named c.if-numbers-le-FEW.false) (are q))

pub returns-in-Ok : goal.returns-in-Ok
returns-in-Ok c = λ es e all vocab name kept q.
    let table = c.args.table.now in
    let used = c.args.used.now in
    let old = c.args.kept.now in
    let are : AreLeast old es used = subst (λ (b : Bool). LeastWhere b old es used) c.if-not-is_kept.false kept in
    let named = c.numbers.ensures ∙ ap (numbers_named 0 c.args.name.now) all ∙ ap (λ (n : List ℕ). numbers_named 0 n (es ++ e ∷ [])) (sym name) in
    let new = c.note_one.new.kept in
    let once = ap names_differ (sym all) ∙ c.entries-entries.ensures.once in
    let inside = ap (λ (v : List ℕ). list_any (bytes_eq v) used) vocab ∙ sym c.contains.ensures ∙ c.if-not-contains.false in
    let n = c.len-count.result - 1 in
    let counted : n ≡ length es = (let long = c.len-count.ensures ∙ ap length all in let more = length_push es e in omega (arith, long, more)) in
    let put = subst (λ (t : List Entry). MoreLeast t n (bytes_eq c.args.name.now q) (least_in old q) (least_in new q)) (c.entries-entries.ensures.all ∙ all) (c.in-Ok.ensures q) in
    let more = subst (λ (m : List ℕ). MoreLeast (es ++ e ∷ []) n (bytes_eq m q) (least_in old q) (least_in new q)) (sym name) put in
    subst (λ (t : List Entry). IsLeast t used q (least_in new q)) (sym all) (used_least es e used q n (least_in old q) (least_in new q) once inside (subst (λ (ns : List ℕ). FEW < length ns) named c.if-numbers-le-FEW.false) counted more (are q))
