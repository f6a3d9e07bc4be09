use Rattle.std.proofs.Common.{sym, ap, subst, ◌≡◌, [], string_bytes}
use Rattle.std.specs.Option.{option_map_or}
use Rattle.std.specs.Map.{lookup}
use Rattle.std.specs.Str.{bytes_eq}
use Rattle.fac_vocab.specs.declared.least.Least.{Least}
use Rattle.fac_vocab.specs.declared.least.Least.TheVariants.{Nothing}
use Rattle.fac_vocab.specs.inner.Leasts.{least_in, IsLeast}
use Rattle.fac_vocab.proofs.LeastLemmas.{new_least}
use Rattle.fac_vocab.proofs.leasts.Leasts.new.Goals as goal

pub returns : goal.returns
returns c = λ table name.
    let nothing : least_in c.new.result name ≡ Nothing = ap (λ es. option_map_or (λ l. l) (lookup (λ k. bytes_eq name (string_bytes k)) es) Nothing) c.new.ensures.empty in
    subst (λ (l : Least). IsLeast table [] name l) (sym nothing) (new_least table name)
