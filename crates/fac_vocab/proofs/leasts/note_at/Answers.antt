use Rattle.std.proofs.Common.{◌∙◌, ◌≡◌, List, ℕ, OnOk, subst, String, string_bytes}
use Rattle.std.specs.Global.{Global}
use Rattle.std.specs.Str.{bytes_eq}
use Rattle.fac_vocab.specs.inner.Leasts.{least_in, MoreLeast}
use Rattle.fac_vocab.proofs.LeastLemmas.{some_same}
use Rattle.fac_vocab.proofs.leasts.note_at.Goals as goal

pub returns : goal.returns
returns c = λ q x e.
    let es = c.args.entries.now in
    let old = least_in c.args.kept.now q in
    let new = least_in c.note_one.new.kept q in
    let name = c.in-Some.name.now in
    let number = c.in-Some.number.now in
    let same : (name, number) ≡ x = some_same (name, number) x (c.in-Some.ensures.entry ∙ e) in
    subst (λ (y : String Global × ℕ). OnOk c.note_one.result (MoreLeast es y.1 (bytes_eq (string_bytes y.0) q) old new)) same
    (subst (λ (s : List ℕ). OnOk c.note_one.result (MoreLeast es number (bytes_eq s q) old new)) c.as_str.ensures.value (c.note_one.ensures q))
