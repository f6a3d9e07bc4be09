use Rattle.std.proofs.Common.{◌≡◌, ◌*◌, List, ℕ, length, take, get_or, sym, subst, arith}
use Rattle.std.proofs.lemmas.List.{take_more}
use Rattle.fac_classes.specs.inner.Filling.{JoinsMembers}
use Rattle.fac_classes.proofs.CellLemmas.{row_within}
use Rattle.fac_classes.proofs.UnionLemmas.{member_in, members_more}
use Rattle.fac_classes.proofs.unions.join_members.Goals as goal

pub join_member-requires-clause-last : goal.join_member-requires-clause-last
join_member-requires-clause-last c =
    let ms = c.members_of-member-items.result.now in
    let low = c.requires.sound.member_classes c.args.class (get_or ms c.loop-member.member-index 0) (member_in c.args.classes.now c.args.class c.loop-member.member-index ms c.members_of-member-items.ensures c.loop-member-test.true) in
    omega (arith, low)

pub join_member-requires-clause-from : goal.join_member-requires-clause-from
join_member-requires-clause-from c =
    let ms = c.members_of-member-items.result.now in
    let low = c.requires.sound.member_classes c.args.class (get_or ms c.loop-member.member-index 0) (member_in c.args.classes.now c.args.class c.loop-member.member-index ms c.members_of-member-items.ensures c.loop-member-test.true) in
    let sized : length c.loop-member.cells ≡ length c.args.classes.now * c.args.width = omega arith in
    row_within (length c.args.classes.now) c.args.width (get_or ms c.loop-member.member-index 0) c.loop-member.cells sized low

pub loop-member-preserved : goal.loop-member-preserved
loop-member-preserved c =
    let ms = c.members_of-member-items.result.now in
    let one = member_in c.args.classes.now c.args.class c.loop-member.member-index ms c.members_of-member-items.ensures c.loop-member-test.true in
    subst (λ (xs : List ℕ). JoinsMembers c.args.classes.now c.args.width c.args.class xs c.args.cells.now c.join_member.new.cells c.join_member.new.last) (sym (take_more ms c.loop-member.member-index 0 c.loop-member-test.true))
    (members_more c.args.classes.now c.requires.sound c.args.width c.args.class (get_or ms c.loop-member.member-index 0) (take c.loop-member.member-index ms) c.args.cells.now c.loop-member.cells c.join_member.new.cells c.loop-member.last c.join_member.new.last
    one (c.requires.members (get_or ms c.loop-member.member-index 0) one) c.loop-member.invariant c.join_member.ensures)
