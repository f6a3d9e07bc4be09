use Rattle.std.proofs.Common.{◌≡◌, drop, fold}
use Rattle.fac_source.specs.Refusals.{sooner}
use Rattle.fac_endings.specs.LastRefusals.{members_faults}
use Rattle.fac_endings.proofs.class_faults.refuse_members.Given as goal

abbrev pub invariant-loop-member : goal.invariant-loop-member
invariant-loop-member l = fold sooner l.initial.first (members_faults l.drafts l.members) ≡ fold sooner l.first (members_faults l.drafts (drop l.member-index l.members))
