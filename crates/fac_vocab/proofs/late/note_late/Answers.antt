use Rattle.std.proofs.Common.{ap, sym, ◌∙◌, ◌<◌, ◌≤◌, ◌&&◌, List, ℕ, Bool, cond, Some, length, subst}
use Rattle.std.specs.Str.{bytes_eq}
use Rattle.fac_vocab.specs.declared.few.TheConstants.{FEW}
use Rattle.fac_vocab.specs.Scopes.{companion, held}
use Rattle.fac_vocab.specs.inner.Pairs.{number_in}
use Rattle.fac_vocab.specs.inner.Rows.{numbers_named}
use Rattle.fac_vocab.specs.inner.Late.{AreLate, LateWhere}
use Rattle.fac_vocab.proofs.LateLemmas.{late_same, late_more}
use Rattle.fac_vocab.proofs.late.note_late.Goals as goal

pub returns-then-numbers-lt-FEW : goal.returns-then-numbers-lt-FEW
returns-then-numbers-lt-FEW c = λ es e vocab name numbers counted none kept.
    let own = c.args.own.now in
    let companions = c.args.companions.now in
    let late : AreLate own companions es = subst (λ (b : Bool). LateWhere b own companions es) c.if-not-is_kept.false kept in
    let few : length (numbers_named 0 e.name es) < FEW = subst (λ (ns : List ℕ). length ns < FEW) (numbers ∙ ap (λ (n : List ℕ). numbers_named 0 n es) (sym name)) c.if-numbers-lt-FEW.true in
    record {
      owned = λ v q. late_same (bytes_eq v) es e q (number_in own v q) few (late.owned v q);
      companions = λ v q. late_same (bytes_eq (companion v)) es e q (number_in companions v q) few (late.companions v q);
    }

pub returns-in-Ok : goal.returns-in-Ok
returns-in-Ok c = λ es e vocab name numbers counted none kept.
    let own = c.args.own.now in
    let companions = c.args.companions.now in
    let n = c.args.number in
    let late : AreLate own companions es = subst (λ (b : Bool). LateWhere b own companions es) c.if-not-is_kept.false kept in
    let many : FEW ≤ length (numbers_named 0 e.name es) = subst (λ (ns : List ℕ). FEW ≤ length ns) (numbers ∙ ap (λ (n : List ℕ). numbers_named 0 n es) (sym name)) c.if-numbers-lt-FEW.false in
    let new = ap (λ (v : List ℕ). held es v e.name) vocab ∙ ap (held es c.args.vocab.now) name ∙ none in
    record {
      owned = λ v q. late_more es e v q n (number_in own v q) (number_in c.put_late.new.own v q) many counted new (late.owned v q)
          (c.in-Ok.ensures.owned v q ∙ ap (λ (w : List ℕ). cond (bytes_eq w v && bytes_eq c.args.name.now q) (Some n) (number_in own v q)) (sym vocab) ∙ ap (λ (m : List ℕ). cond (bytes_eq e.vocab v && bytes_eq m q) (Some n) (number_in own v q)) (sym name));
      companions = λ v q. late_more es e (companion v) q n (number_in companions v q) (number_in c.put_late.new.companions v q) many counted new (late.companions v q)
          (c.in-Ok.ensures.companions v q ∙ ap (λ (w : List ℕ). cond (bytes_eq w (companion v) && bytes_eq c.args.name.now q) (Some n) (number_in companions v q)) (sym vocab) ∙ ap (λ (m : List ℕ). cond (bytes_eq e.vocab (companion v) && bytes_eq m q) (Some n) (number_in companions v q)) (sym name));
    }
