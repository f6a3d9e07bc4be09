use Rattle.std.proofs.Common.{Bool, Some, Ok, refl, ap, sym, subst, ◌∙◌}
use Rattle.fac_parse.specs.inner.Reader.{ended, state_of, Finishes}
use Rattle.fac_parse.proofs.ParseLemmas.{ends_open, ends_whole}
use Rattle.fac_parse.proofs.parser.Parser.end.Goals as goal

pub returns-then-branch : goal.returns-then-branch
returns-then-branch c = λ tokens before h.
    let p = c.args.self.now in
    let last = subst (λ (b : Bool). Finishes (ended (state_of p.reader)) c.finish.new.self.forms (Ok b)) c.if-branch.true c.in_ok-finish.ensures in
    let both = ends_whole tokens before c.replace.result p c.requires (last ∙ ap Some (sym c.replace.ensures.value)) h in
    (both.0, both.1, refl)

pub returns-else-branch : goal.returns-else-branch
returns-else-branch c = λ tokens before h.
    let p = c.args.self.now in
    let none = subst (λ (b : Bool). Finishes (ended (state_of p.reader)) c.finish.new.self.forms (Ok b)) c.if-branch.false c.in_ok-finish.ensures in
    ends_open tokens before p c.syntax.result c.requires none c.syntax.ensures h
