-- What the forms of a text come to that are taken one behind the other, as they are read, behind what is known.
use Rattle.std.specs.Prelude.{◌≡◌, List, fold, Result, Ok, Err}
use Rattle.fac_source.specs.declared.refusal.NameFault.{NameFault}
use Rattle.fac_source.specs.declared.refusal.ResolveFault.{ResolveFault}
use Rattle.fac_source.specs.declared.refusal.ResolveFault.TheVariants.{Name, Memory}
use Rattle.fac_source.specs.declared.tree.Form.{Form as Flat}
use Rattle.fac_names.specs.Resolved.{Known, beginning}
use Rattle.fac_names.specs.TakenForms.{take_flat}
use Rattle.fac_names.specs.declared.text_resolver.TextResolver.{TextResolver}
use Rattle.fac_names.specs.inner.State.{reading_of}

-- these forms were taken behind what is known, and no more
unfoldable pub HasGoneOn : Known → List Flat → TextResolver → Type 0
HasGoneOn k forms resolver = reading_of resolver.so_far ≡ fold take_flat (beginning k) forms

-- what is known is answered, or the first refusal
abbrev pub Knows : Result Known NameFault → Result Known ResolveFault → Type 0
Knows known (Ok k) = known ≡ Ok k
Knows known (Err (Name fault)) = known ≡ Err fault
Knows known (Err Memory) = Unit {0}
