use Rattle.std.proofs.Common.{◌≡◌, ◌≤◌, ◌+◌, ℕ, true, Some, ◌∙◌, length, ap, sym, subst, arith}
use Rattle.fac_abs.specs.Marks.{unknowns}
use Rattle.fac_lang.specs.declared.phrase.Template.{Template}
use Rattle.fac_locals.proofs.Lookups.{words_closed_count}
use Rattle.fac_check.specs.CallableEffects.{no_word}
use Rattle.fac_check.specs.declared.subject.Subject.{Subject}
use Rattle.fac_check.specs.declared.walker.Step.{Step}
use Rattle.fac_check.specs.inner.Walkable.{takes_phrase}
use Rattle.fac_check.specs.inner.Walking.{IsWalkOfPhrase}
use Rattle.fac_check.proofs.NamedLiterals.{template_named}
use Rattle.fac_check.proofs.LiteralsShow.{shows_cells}
use Rattle.fac_check.proofs.TakenPrograms.{taken_program, template_taken}
use Rattle.fac_check.proofs.TemplatesAlone.{WalksAlone, alone_is}
use Rattle.fac_check.proofs.template_walk.walk_template.Goals as goal

pub new-requires : goal.new-requires
new-requires c =
    let stands = c.requires.stands in
    taken_program stands.0 c.args.closed.now.program c.args.closed.now.templates stands.1 stands.2

pub walk_phrase-requires-clause-taken : goal.walk_phrase-requires-clause-taken
walk_phrase-requires-clause-taken c =
    let closed = c.args.closed.now in
    let stands = c.requires.stands in
    let taken = taken_program stands.0 closed.program closed.templates stands.1 stands.2 in
    subst (λ (s : Subject). takes_phrase s.closed.now.program.top (length s.closed.now.templates) c.in-Some.found.now.body ≡ true) (sym c.in_ok-walker.ensures.subject) (template_taken closed.program closed.templates taken c.args.template c.in-Some.found.now (sym c.in-Some.ensures))

pub returns : goal.returns
returns c = λ P closes whole u vs at many.
    let closed = c.args.closed.now in
    let t = c.in-Some.found.now in
    let there = sym c.in-Some.ensures in
    let few = subst (λ (n : ℕ). n ≤ no_word) (words_closed_count P closed.program closed.templates closes) c.few_words.ensures in
    let both : Some u ≡ Some t = sym at ∙ there in
    let same : u ≡ t = cc in
    let M = c.unknowns.new.self in
    let K = c.walk_phrase.new.self.marks in
    let W = c.in_ok-walked.walked in
    let from = subst (λ (step : Step). IsWalkOfPhrase c.in_ok-walker.walker.subject M K t.body step W) c.first_step-step.ensures c.in_ok-walked.ensures.walks in
    let walks = subst (λ (s : Subject). WalksAlone s.closed.now.program s.closed.now.templates s.own s.inner t.body M K c.in_ok-frame.frame c.in_ok-stack.stack W) c.in_ok-walker.ensures.subject from in
    alone_is P closed.program closed.templates closes whole c.args.template (template_named P (shows_cells P whole) closed.program closed.templates closes few c.args.template) t M K c.in_ok-frame.frame c.in_ok-stack.stack c.cells_of.result c.args.inputs (c.args.template + 1) W c.height_of.result vs there
    (subst (λ (x : Template). length vs ≡ length x.captures + x.holes) same many) c.cells_of.ensures (omega arith) walks
    (λ N. c.in_ok-stack.ensures.grows.same_frame N c.in_ok-frame.frame c.in_ok-frame.ensures.made.valid ∙ c.in_ok-frame.ensures.made.is N) (λ N. c.in_ok-stack.ensures.made.is N ∙ ap (λ ms. unknowns c.args.inputs ms) (c.in_ok-frame.ensures.grows.same_stack N 0 c.in_ok-walker.ensures.stack.valid ∙ c.in_ok-walker.ensures.stack.is N)) c.height_of.ensures
