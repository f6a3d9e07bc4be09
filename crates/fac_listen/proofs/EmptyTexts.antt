-- No text without a byte waits for its end.
use Rattle.std.proofs.Common.{◌≡◌, ℕ, List, [], refl}
use Rattle.fac_parse.specs.declared.reader.Why.TheVariants.{End}
use Rattle.fac_notes.specs.Sources.{Source, no_tree, tree}
use Rattle.fac_judge.specs.TextSources.{IsReadAs, OneSource}
use Rattle.fac_listener.specs.Replies.{AreSources}

-- it has a tree, of no forms
empty_is_tree : IsReadAs 1 [] (tree [])
empty_is_tree = ([], record { chars = []; ps = []; spells = record { scalars = refl; encoded = refl }; reading = record { fits = refl; spells = refl }; are = refl }, record { fits = tt; spelled = refl })

not_both : (one : Source) (at : ℕ) → one ≡ tree [] → one ≡ no_tree at End → ⊥
not_both one at e f = absurd (cc)

pub empty_waits_never : OneSource → (source : List ℕ → Source) → AreSources source → (at : ℕ) → source [] ≡ no_tree at End → ⊥
empty_waits_never law source are at e = not_both (source []) at (law 1 [] (source []) (tree []) (are []) empty_is_tree) e
