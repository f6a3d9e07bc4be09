-- What a word is tested by.
use Rattle.std.proofs.Common.{◌≡◌, ℕ, Bool, true, false, Option, Some, None, refl, sym}
use Rattle.std.specs.Prelude.{◌||◌, nat_eq}
use Rattle.fac_base.specs.declared.height.Height.{Height}
use Rattle.fac_lang.specs.declared.program.Program.{Program}
use Rattle.fac_lang.specs.declared.program.WordDef.{WordDef}
use Rattle.fac_lang.specs.declared.program.Sort.{Sort}
use Rattle.fac_lang.specs.declared.program.Sort.TheVariants.{Prim as prim, Core as core, Body as body, Past as past, Itself as itself, Class as class, Isa as isa, Getter as getter, Setter as setter, Putter as putter, Generic as generic, Method as method}
use Rattle.fac_base.specs.Signatures.{Signature}
use Rattle.fac_base.specs.Effects.{effect_height}
use Rattle.fac_lang.specs.WordHeights.{word_height}
use Rattle.fac_lang.specs.Meaning.{is_past}
use Rattle.fac_emit.specs.Heights.{tested_height}
use Rattle.fac_emit.specs.inner.Promised.{declared_height, promised_height, height_where}

abbrev Promises : Bool → Sort → Signature → Type 0
Promises inline s e =
    (let h : Option Height = elim (is_past (Some s)) [ true ↦ None | false ↦ elim inline [ true ↦ None | false ↦ elim s [ core k ↦ None | _ ↦ Some (effect_height e) ] ] ] in h ≡ promised_height s (declared_height inline e))

promised : (inline : Bool) (s : Sort) (e : Signature) → Promises inline s e
promised true (prim k) e = refl
promised true (core k) e = refl
promised true (body t) e = refl
promised true (past t) e = refl
promised true itself e = refl
promised true (class c) e = refl
promised true (isa c) e = refl
promised true (getter s) e = refl
promised true (setter s) e = refl
promised true (putter s) e = refl
promised true generic e = refl
promised true (method c g t) e = refl
promised false (prim k) e = refl
promised false (core k) e = refl
promised false (body t) e = refl
promised false (past t) e = refl
promised false itself e = refl
promised false (class c) e = refl
promised false (isa c) e = refl
promised false (getter s) e = refl
promised false (setter s) e = refl
promised false (putter s) e = refl
promised false generic e = refl
promised false (method c g t) e = refl

-- by whether it is the top-level phrase
tested_by : (q : Bool) (d : WordDef) → (let h : Option Height = elim (q || is_past (Some d.sort)) [ true ↦ None | false ↦ word_height d ] in height_where q d ≡ h)
tested_by true d = refl
tested_by false d = sym (promised d.inline d.sort d.effect)

pub tested_is : (C : Program) (w : ℕ) (d : WordDef) → height_where (nat_eq w C.top) d ≡ tested_height C w d
tested_is C w d = tested_by (nat_eq w C.top) d
