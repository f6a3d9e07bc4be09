use Rattle.std.proofs.Common.{◌≡◌, length}
use Rattle.fac_locals.specs.inner.Numbering.{put_all, choice_in, level_templates}
use Rattle.fac_locals.proofs.closing.leave_levels.Given as goal

abbrev pub invariant-loop-level : goal.invariant-loop-level
invariant-loop-level l = put_all l.initial.templates.items (level_templates l.word l.place l.initial.left (choice_in l.word l.place l.initial.inside)) ≡ put_all l.templates.items (level_templates l.word l.place l.left (choice_in l.word l.place l.inside))

abbrev pub decreases-loop-level : goal.decreases-loop-level
decreases-loop-level l = length l.left
