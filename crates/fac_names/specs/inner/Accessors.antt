-- The accessors of a slot, one after another.
use Rattle.std.specs.Prelude.{List, [], ◌∷◌, ◌++◌, codes, false}
use Rattle.fac_base.specs.Signatures.{Signature}
use Rattle.fac_base.specs.declared.place.Place.{Place}
use Rattle.fac_base.specs.declared.name.Name.{Name as FullName}
use Rattle.fac_lang.specs.declared.program.Sort.{Sort}
use Rattle.fac_lang.specs.declared.program.Sort.TheVariants.{Getter as getter, Setter as setter, Putter as putter}
use Rattle.fac_vocab.specs.declared.entry.Entry.{Entry}
use Rattle.fac_vocab.specs.Scopes.{holders}
use Rattle.fac_items.specs.Written.{Tok}
use Rattle.fac_endings.specs.declared.draft.Late.TheVariants.{Settled as settled}
use Rattle.fac_names.specs.Forms.{Reading, accessor, defined, told}
use Rattle.fac_names.specs.inner.State.{tok_at}

-- a word with this effect
abbrev pub defined_as : FullName → Place → Sort → Signature → Reading → Reading
defined_as name place sort effect r = told sort effect false false settled (defined name.vocab (tok_at name place) r)

abbrev pub made_if : FullName → Place → Sort → Signature → Reading → List Entry → Reading
made_if name place sort effect r [] = defined_as name place sort effect r
made_if name place sort effect r (e ∷ es) = r

-- a word, unless a table has its name
abbrev pub made_as : FullName → Place → Sort → Signature → Reading → Reading
made_as name place sort effect r = made_if name place sort effect r (holders r.scope.table name.vocab name.name)

abbrev pub with_getter : Tok → Reading → Reading
with_getter t r = accessor (record t { text = t.text ++ codes ">>" }) (getter t.text) (codes "object" ∷ []) (codes "value" ∷ []) r

abbrev pub with_setter : Tok → Reading → Reading
with_setter t r = accessor (record t { text = codes ">>" ++ t.text }) (setter t.text) (codes "object" ∷ codes "value" ∷ []) (codes "object" ∷ []) r

abbrev pub with_putter : Tok → Reading → Reading
with_putter t r = accessor (record t { text = t.text ++ codes "<<" }) (putter t.text) (codes "value" ∷ codes "object" ∷ []) [] r
