-- What the search of a name comes to.
use Rattle.std.specs.Prelude.{◌≡◌}
use Rattle.fac_vocab.specs.declared.entry.Entry.{Entry}
use Rattle.fac_vocab.specs.Scopes.{Scope, ambiguous, found}
use Rattle.fac_items.specs.Written.{Tok}

-- several used vocabularies hold the name
pub record IsAmbiguous (s : Scope) (t : Tok) : Type 0 where
  pub one : Entry
  pub other : Entry
  pub is : found s t.text ≡ ambiguous one other
