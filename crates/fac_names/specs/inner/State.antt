-- What was read so far, as the definition has it.
use Rattle.std.specs.Prelude.{◌≡◌, ℕ, List, [], ◌∷◌, false, codes}
use Rattle.std.specs.List.{list_any}
use Rattle.fac_lang.specs.PhraseView.{items_phrase}
use Rattle.fac_lang.specs.Phrases.{Phrase}
use Rattle.fac_base.specs.declared.place.Place.{Place}
use Rattle.fac_base.specs.declared.name.Name.{Name as FullName}
use Rattle.fac_lang.specs.declared.program.Sort.TheVariants.{Class as class}
use Rattle.fac_vocab.specs.declared.entry.Entry.{Entry}
use Rattle.fac_vocab.specs.Scopes.{Scope, holders, now_defined}
use Rattle.fac_items.specs.Written.{Tok, Nodes}
use Rattle.fac_names.specs.declared.so_far.SoFar.{SoFar}
use Rattle.fac_items.specs.Items.{items_faults}
use Rattle.fac_items.specs.Made.{made, nodes_read}
use Rattle.fac_names.specs.Forms.{Reading, defined, own, plainly, refused}

abbrev pub reading_of : SoFar → Reading
reading_of s = record { scope = s.scope; words = s.drafts; old_classes = s.old_classes; classes = s.classes; arrays = s.arrays; top = items_phrase s.items.items; main = items_phrase s.main.items; first = s.first }

-- the name of a definition at this place
abbrev pub tok_at : FullName → Place → Tok
tok_at name place = record { text = name.name; place = place }

-- the word of this number has the name
abbrev pub Owns : SoFar → List ℕ → Tok → ℕ → SoFar → Type 0
Owns s vocab t number s_then = record { word = number; reading = reading_of s_then } ≡ defined vocab t (reading_of s)

-- the name is no more only deferred
pub record Settles (s : Scope) (name : FullName) (number : ℕ) (s_then : Scope) : Type 0 where
  pub entry : Entry
  pub others : List Entry
  pub held : holders s.table name.vocab name.name ≡ entry ∷ others
  pub none_defined : list_any (λ (e : Entry). e.is_defined) (entry ∷ others) ≡ false
  pub is_word : entry.word ≡ number
  pub scope_is : s_then ≡ record s { table = now_defined entry.vocab entry.name s.table }

-- items are read, and come to this phrase
pub record Reads (s : SoFar) (ns : Nodes) (phrase : Phrase) (s_then : SoFar) : Type 0 where
  pub phrase_is : phrase ≡ (made s.scope ns s.arrays).phrase
  pub reading_is : reading_of s_then ≡ refused (items_faults s.scope [] (nodes_read s.scope ns)) (record (reading_of s) { arrays = (made s.scope ns s.arrays).arrays })

-- the word of this number is that of a class
abbrev pub IsClassWord : SoFar → Tok → ℕ → ℕ → SoFar → Type 0
IsClassWord s t c number s_then = (let n = own t (reading_of s) in record { word = number; reading = reading_of s_then } ≡ record n { reading = plainly (class c) [] (codes "value" ∷ []) n })
