use Rattle.std.proofs.Common.{ℕ, List, subst}
use Rattle.fac_lines.proofs.InputLemmas.{reads_so}
use Rattle.fac_listener.specs.Replies.{Replies}
use Rattle.fac_listen.proofs.ReplyLemmas.{takes}
use Rattle.fac_listen.proofs.hearing.Hearing.take.Goals as goal

pub line-reply-requires-after_bounds : goal.line-reply-requires-after_bounds
line-reply-requires-after_bounds g c κs within = (c.requires.behind.1.session, c.requires.behind.3.stands)

pub returns : goal.returns
returns g c =
    let old = c.args.channels.now in
    let new = c.line-reply.new.channels in
    reads_so _ _ _ _ c.line-reply.ensures.replies
    (λ input left h source f are behind.
    let replies = subst (λ (line : List ℕ). Replies source f.session line old.output new.output c.line-reply.new.self c.line-reply.result input left) c.as_slice.ensures (h source are f.session behind.stands) in
    takes source f c.args.line input left old new _ _ (record c.args.self.now { session = c.line-reply.new.self }) c.on_reply.new.self behind.names behind.ticks c.one_source.ensures are c.line-reply.result c.on_reply.result replies c.line-reply.ensures.ended c.line-reply.ensures.faults c.on_reply.ensures)
