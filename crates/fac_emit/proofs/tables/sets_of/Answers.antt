use Rattle.std.proofs.Common.{◌∷◌, [], ◌++◌, ◌<◌, length, ap, ◌∙◌, arith, List, ℕ}
use Rattle.fac_emit.specs.ProgramTables.{sets_from}
use Rattle.fac_emit.proofs.SetLemmas.{sets_step}
use Rattle.fac_emit.proofs.tables.sets_of.Goals as goal

pub loop-class-preserved : goal.loop-class-preserved
loop-class-preserved c =
    let at = c.loop-class in
    let cs = c.args.classes.now in
    let lt : at.class < length cs = let test = c.loop-class-test.true in let count = c.len-class-end.ensures in omega (arith, test, count) in
    sets_step cs at.class (sets_from cs 0 cs) at.sets c.push.new.self lt at.invariant (c.in_ok-push.ensures.ok ∙ ap (λ (ks : List ℕ). at.sets ++ ks ∷ []) c.in_ok-kinds.ensures)
