use Rattle.std.proofs.Common.{◌≡◌, drop, fold, map, string_bytes}
use Rattle.fac_vocab.specs.inner.Leasts.{LeastWhere}
use Rattle.fac_vocab.specs.inner.PublicVocabs.{with_public, BeginsWith}
use Rattle.fac_vocab.proofs.public_vocabs.use_each.Given as goal

abbrev pub invariant-loop-vocab : goal.invariant-loop-vocab
invariant-loop-vocab l =
    (fold with_public l.initial.used (map string_bytes l.vocabs) ≡ fold with_public l.used (map string_bytes (drop l.vocab-index l.vocabs))) × BeginsWith l.used l.initial.used × LeastWhere l.leasts.is_kept l.leasts.kept l.table l.used
