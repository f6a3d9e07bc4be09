use Rattle.std.proofs.Common.{ap, sym, ◌∙◌, ◌++◌, ◌∷◌, [], List, Bool, None, subst}
use Rattle.std.specs.Option.{option_map_or}
use Rattle.std.specs.Str.{bytes_eq}
use Rattle.indexmap.specs.IndexMap.{get_by_text}
use Rattle.fac_vocab.specs.Scopes.{Entry}
use Rattle.fac_vocab.specs.ScopeCalls.{names_differ}
use Rattle.fac_vocab.specs.inner.Late.{late_numbers, number_by, AreLate, LateWhere}
use Rattle.fac_vocab.specs.inner.Leasts.{least_in, AreLeast, LeastWhere}
use Rattle.fac_vocab.proofs.LeastLemmas.{without_vocab}
use Rattle.fac_vocab.proofs.leasts.note_vocab.Goals as goal

pub returns-in-Ok : goal.returns-in-Ok
returns-in-Ok c = λ used unused kept.
    let table = c.args.table.now in
    let v = c.args.vocab.now in
    let own = c.late-late.result.now.own in
    let companions = c.late-late.result.now.companions in
    let all = c.entries-entries.ensures.all in
    let late : AreLate own companions table = subst (λ (b : Bool). LateWhere b own companions table) c.if-not-late.false c.late-late.ensures in
    let are : AreLeast c.args.kept.now table used = subst (λ (b : Bool). LeastWhere b c.args.kept.now table used) c.if-not-is_kept.false kept in
    subst (λ (t : List Entry). AreLeast c.note_numbers.new.kept t (used ++ v ∷ [])) all
    (c.in-Ok.ensures used v (ap names_differ all ∙ c.entries-entries.ensures.once) unused
    (λ q. ap (λ o. option_map_or (λ m. get_by_text m q) o None) c.in-Some.ensures.value ∙ late.owned v q ∙ ap (λ (t : List Entry). number_by (bytes_eq v) t (late_numbers q t)) (sym all))
    (subst (λ (t : List Entry). AreLeast c.args.kept.now t used) (sym all) are))

pub returns-in-None : goal.returns-in-None
returns-in-None c = λ used unused kept q.
    let table = c.args.table.now in
    let v = c.args.vocab.now in
    let own = c.late-late.result.now.own in
    let companions = c.late-late.result.now.companions in
    let late : AreLate own companions table = subst (λ (b : Bool). LateWhere b own companions table) c.if-not-late.false c.late-late.ensures in
    let are : AreLeast c.args.kept.now table used = subst (λ (b : Bool). LeastWhere b c.args.kept.now table used) c.if-not-is_kept.false kept in
    without_vocab table used v q (least_in c.args.kept.now q) c.entries-entries.ensures.once unused (sym (ap (λ o. option_map_or (λ m. get_by_text m q) o None) c.in-None.ensures.value ∙ late.owned v q)) (are q)
