-- What a text comes to behind what is known, by the definition of sessions.
use Rattle.std.specs.Prelude.{◌≡◌, ℕ, List}
use Rattle.fac_names.specs.declared.known.Known.{Known}
use Rattle.fac_notes.specs.Sources.{Source}
use Rattle.fac_session.specs.Sessions.{Meant, meant}
use Rattle.fac_judge.specs.TextSources.{IsReadAs}

-- this source comes to this behind what is known, on a stack of so many values
unfoldable pub Means : Known → ℕ → Source → Meant → Type 0
Means k count source m = meant k count source ≡ m

-- a text comes to this behind what is known, on a stack of so many values
pub record ComesTo (k : Known) (count : ℕ) (text : List ℕ) (m : Meant) : Type 0 where
  pub source : Source
  pub is_read : IsReadAs 1 text source
  pub means : Means k count source m
