use Rattle.std.proofs.Common.{◌∷◌, [], rules}
use Rattle.std.proofs.lemmas.Str.{IsUtf8-append, IsUtf8-from_ascii}
use Rattle.fac_base.proofs.text.Text.push_ascii.Goals as goal

pub invariant_of-self-2 : goal.invariant_of-self-2
invariant_of-self-2 c = rw c.in_ok-push.ensures.ok (IsUtf8-append _ (c.args.byte ∷ []) c.self.invariant (IsUtf8-from_ascii (c.args.byte ∷ []) (search rules)))
