-- Methods by their classes and generics.
use Rattle.std.specs.Prelude.{ℕ, nat_eq, List, Option, Some, None, Bool, false, ◌&&◌}
use Rattle.std.specs.List.{list_any}
use Rattle.fac_lang.specs.declared.program.Sort.{Sort}
use Rattle.fac_lang.specs.declared.program.Sort.TheVariants.{Body as body, Method as method}
use Rattle.fac_endings.specs.declared.draft.Draft.{Draft}
use Rattle.fac_endings.specs.declared.draft.Late.{Late}
use Rattle.fac_endings.specs.declared.draft.Late.TheVariants.{Settled as settled, Deferred as deferred, Maker as maker, Method as method_of}
use Rattle.fac_endings.specs.declared.methods.MethodKey.{MethodKey}
use Rattle.fac_endings.specs.ClassTable.{class_at}
use Rattle.fac_source.specs.Toks.{number}

abbrev pub same_key : MethodKey → MethodKey → Bool
same_key a b = nat_eq a.class b.class && nat_eq a.generic b.generic

abbrev pub same_as : MethodKey → Option MethodKey → Bool
same_as q None = false
same_as q (Some key) = same_key q key

-- whether a method is one of these
abbrev pub is_kept : List MethodKey → Option MethodKey → Bool
is_kept keys None = false
is_kept keys (Some q) = list_any (same_key q) keys

-- the method that a word of this sort is, where its phrase is a method's on this class and of this generic
abbrev pub key_by : Option ℕ → ℕ → Sort → Option MethodKey
key_by (Some c) g (body t) = Some (record { class = c; generic = g })
key_by o g (method c h t) = Some (record { class = c; generic = h })
key_by o g s = None

-- the method that a word of this sort is at the end
abbrev pub key_late : List Draft → Sort → Late → Option MethodKey
key_late ds s settled = key_by None 0 s
key_late ds s deferred = key_by None 0 s
key_late ds s (maker r) = key_by None 0 s
key_late ds s (method_of c g) = key_by (class_at ds c) (number g.word) s
