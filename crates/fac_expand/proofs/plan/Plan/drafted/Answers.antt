use Rattle.std.proofs.Common.{ℕ, List, Some, subst}
use Rattle.fac_expand.specs.inner.Drafts.{passing, Moves}
use Rattle.fac_expand.proofs.BranchMoves.{piece_stands}
use Rattle.fac_expand.proofs.plan.Plan.drafted.Goals as goal

pub returns : goal.returns
returns c = λ s.
    let e = c.empty_draft-draft.ensures in
    let moves = subst (λ (env : List ℕ). Moves c.args.self.now.plain.now (Some c.args.last) c.args.self.now.base c.empty_draft-draft.result c.phrase.new.draft (passing c.args.start env)) c.in_ok-env.ensures (c.in_ok-phrase.ensures s).moves in
    piece_stands c.args.self.now.plain.now c.args.self.now.base c.args.start c.args.cells c.empty_draft-draft.result c.phrase.new.draft c.args.last c.requires e.code e.owed e.stack e.rows e.count moves
