-- As for `top_broken`. The goals of each function are a module of its own, so answers of one shape are written for each.
use Rattle.std.proofs.Common.{◌≡◌, true, None, ◌∙◌, length, ap, sym, subst}
use Rattle.fac_abs.specs.Marks.{unknowns}
use Rattle.fac_check.specs.declared.subject.Subject.{Subject}
use Rattle.fac_check.specs.declared.walker.Step.{Step}
use Rattle.fac_check.specs.inner.Walkable.{takes_phrase}
use Rattle.fac_check.specs.inner.Walking.{IsWalkOfPhrase}
use Rattle.fac_locals.specs.Literals.{first_of_word}
use Rattle.fac_check.proofs.NamedLiterals.{words_named}
use Rattle.fac_check.proofs.LiteralsShow.{shows_cells}
use Rattle.fac_check.proofs.VerdictLemmas.{WalksWhole, ordinary_is}
use Rattle.fac_check.proofs.checker.Checker.ordinary_broken.Goals as goal

pub walk_phrase-requires-clause-taken : goal.walk_phrase-requires-clause-taken
walk_phrase-requires-clause-taken c = subst (λ (s : Subject). takes_phrase s.closed.now.program.top (length s.closed.now.templates) c.args.phrase.now ≡ true) (sym c.in_ok-walker.ensures.subject) c.requires

pub returns : goal.returns
returns c = λ P closes whole w d t word text.
    let closed = c.args.self.now.closed.now in
    let phrase = c.args.phrase.now in
    let M = c.unknowns.new.self in
    let K = c.walk_phrase.new.self.marks in
    let W = c.in_ok-walked.walked in
    let from = subst (λ (step : Step). IsWalkOfPhrase c.in_ok-walker.walker.subject M K phrase step W) c.first_step-step.ensures c.in_ok-walked.ensures.walks in
    let walks = subst (λ (s : Subject). WalksWhole s.closed.now.program s.closed.now.templates s.own s.inner phrase M K None c.in_ok-stack.stack W) c.in_ok-walker.ensures.subject from in
    ordinary_is P closed.program closed.templates closes whole c.len-inner.result (first_of_word (length P.words)) (words_named P (shows_cells P whole) closed.program closed.templates closes c.len-inner.result c.len-inner.ensures) w d c.args.word.now t phrase M K c.in_ok-stack.stack c.inputs.result W c.kept.result word text
    c.kept.ensures walks (λ N. c.in_ok-stack.ensures.grows.same_frame N 0 c.in_ok-walker.ensures.frame.valid ∙ c.in_ok-walker.ensures.frame.is N) (λ N. c.in_ok-stack.ensures.made.is N ∙ ap (λ ms. unknowns c.inputs.result ms) (c.in_ok-walker.ensures.stack.is N)) c.inputs.ensures
