use Rattle.std.proofs.Common.{◌≡◌, ◌<◌, ◌≤◌, ◌+◌, ◌*◌, ℕ, suc, true, length, drop}
use Rattle.fac_lang.specs.PhraseView.{items_phrase}
use Rattle.fac_lang.specs.Phrases.{Literal, Phrase}
use Rattle.fac_locals.specs.Frames.{Opens}
use Rattle.fac_abs.specs.SeenMarks.{Grows, IsFrame, IsStack, frame_of, stack_of, base_seen}
use Rattle.fac_check.specs.inner.Walkable.{takes_phrase}
use Rattle.fac_base.specs.EffectView.{inputs_tree}
use Rattle.fac_rows.specs.SeenBindings.{IsBinding, binding_seen}
use Rattle.fac_check.specs.Flow.{walk_inputs}
use Rattle.fac_check.specs.inner.Alone.{StandsAt}
use Rattle.fac_check.specs.inner.Walking.{Opened, go_at, items_of, inputs_walk}
use Rattle.fac_check.proofs.WalkLemmas.{Onward}
use Rattle.fac_check.proofs.walker.Walker.+walk.Given as goal

-- A phrase takes more than its items, these more than the callables that they walk, and those more than their parts; and all of it more than a phrase that is one application deeper.
abbrev pub decreases-walk_phrase : goal.decreases-walk_phrase
decreases-walk_phrase l = l.step.nested * 12884901910 + 12884901905

abbrev pub decreases-walk_item : goal.decreases-walk_item
decreases-walk_item l = l.step.nested * 12884901910 + 12884901902

abbrev pub decreases-walk_one : goal.decreases-walk_one
decreases-walk_one l = l.step.nested * 12884901910 + 12884901904

abbrev pub decreases-walk_doing : goal.decreases-walk_doing
decreases-walk_doing l = l.step.nested * 12884901910 + 12884901903

abbrev pub decreases-walk_counted : goal.decreases-walk_counted
decreases-walk_counted l = l.step.nested * 12884901910 + 12884901901

abbrev pub decreases-walk_callable : goal.decreases-walk_callable
decreases-walk_callable l = l.step.nested * 12884901910 + 12884901900

abbrev pub decreases-walk_fork : goal.decreases-walk_fork
decreases-walk_fork l = l.step.nested * 12884901910 + 12884901900

abbrev pub decreases-walk_use : goal.decreases-walk_use
decreases-walk_use l = l.step.nested * 12884901910 + 12884901900

abbrev pub decreases-walk_effect : goal.decreases-walk_effect
decreases-walk_effect l = l.step.nested * 12884901910 + 12884901899

abbrev pub decreases-walk_inputs : goal.decreases-walk_inputs
decreases-walk_inputs l = l.step.nested * 12884901910 + 12884901898

abbrev pub decreases-walk_input : goal.decreases-walk_input
decreases-walk_input l = l.step.nested * 12884901910 + 12884901897

abbrev pub decreases-walk_quotation : goal.decreases-walk_quotation
decreases-walk_quotation l = l.step.nested * 12884901910 + 12884901896

abbrev pub decreases-walk_from : goal.decreases-walk_from
decreases-walk_from l = l.step.nested * 12884901910 + 12884901895

abbrev pub decreases-walk_mark : goal.decreases-walk_mark
decreases-walk_mark l = l.step.nested * 12884901910 + (3 * l.mark + 2)

abbrev pub decreases-walk_curried : goal.decreases-walk_curried
decreases-walk_curried l = l.step.nested * 12884901910 + (3 * l.whole + 1)

abbrev pub decreases-walk_composed : goal.decreases-walk_composed
decreases-walk_composed l = l.step.nested * 12884901910 + (3 * l.whole + 1)

abbrev pub decreases-walk_part : goal.decreases-walk_part
decreases-walk_part l = l.step.nested * 12884901910 + 3 * l.whole

abbrev pub decreases-walk_literal : goal.decreases-walk_literal
decreases-walk_literal l = l.step.nested * 12884901910 + 1

abbrev pub decreases-walk_body : goal.decreases-walk_body
decreases-walk_body l = l.step.nested * 12884901910

abbrev pub decreases-walk_word : goal.decreases-walk_word
decreases-walk_word l = l.step.nested * 12884901910

abbrev pub invariant-walk_phrase-loop-item : goal.invariant-walk_phrase-loop-item
invariant-walk_phrase-loop-item l = record {
  same : l.self.subject ≡ l.initial.self.subject;
  grows : Grows l.initial.self.marks l.self.marks;
  stack : IsStack l.self.marks l.stack;
  frame : IsFrame l.self.marks l.frame;
  within : l.left ≤ l.step.left;
  taken : takes_phrase l.initial.self.subject.closed.now.program.top (length l.initial.self.subject.closed.now.templates) (items_phrase (drop l.item-index l.item-items)) ≡ true;
  onward :
      (O : Opened l.initial.self.subject.closed.now.program l.initial.self.subject.closed.now.templates l.initial.self.subject.own l.initial.self.subject.inner) (at here : Literal) (t : Phrase) (f : ℕ) → StandsAt O.program l.initial.self.subject.inner O.first l.step.alone at here →
      Opens O.program l.initial.self.subject.closed.now.templates (items_of (frame_of O.naming l.initial.self.marks l.step.frame)) at l.phrase t → l.step.left < f →
      Onward O l.step.alone here t f l.step.nested (base_seen O.naming l.step.base) (stack_of O.naming l.initial.self.marks l.step.stack) l.step.left l.self.marks l.base l.stack l.frame (drop l.item-index l.item-items) l.left;
}

abbrev pub invariant-walk_inputs-loop-input : goal.invariant-walk_inputs-loop-input
invariant-walk_inputs-loop-input l = record {
  same : l.self.subject ≡ l.initial.self.subject;
  grows : Grows l.initial.self.marks l.self.marks;
  marks : IsStack l.self.marks l.marks;
  binding : IsBinding l.self.marks l.binding;
  within : l.left ≤ l.step.left;
  number : l.number ≡ l.input-index;
  onward :
      (O : Opened l.initial.self.subject.closed.now.program l.initial.self.subject.closed.now.templates l.initial.self.subject.own l.initial.self.subject.inner) (f : ℕ) → l.step.left < f →
      inputs_walk l.initial.self.marks l.step (inputs_tree l.list) l.inputs l.initial.binding O (go_at O f)
      ≡ walk_inputs O.effect (go_at O f) (suc l.input-index) (inputs_tree (drop l.input-index l.list)) (stack_of O.naming l.self.marks l.marks) l.step.place l.step.nested (binding_seen O.naming l.self.marks l.binding) l.left;
}
