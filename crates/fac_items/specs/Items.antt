-- The names that items search, and the phrases that they come to.
use Rattle.std.specs.Prelude.{ℕ, suc, List, [], ◌∷◌, ◌++◌, map, length, slice_get, Option, Some, None, Bool, false, ◌&&◌, codes, if◌then◌else◌}
use Rattle.std.specs.Str.{bytes_eq}
use Rattle.fac_lang.specs.CoreWords.{WrittenCore, built_core_words}
use Rattle.fac_lang.specs.PrimitiveWords.{PrimitiveWord}
use Rattle.fac_lang.specs.Primitives.{built_primitive_words}
use Rattle.fac_lang.specs.RunningLaws.{append}
use Rattle.fac_lang.specs.Phrases.{Phrase, end, then as placed, Item, lit, lit_arr, quot, word, bind, local, fry, hole, call_effect, execute_effect, next_method, Plain, int, yes, str, wrd}
use Rattle.fac_lang.specs.Whole.{joined as all_of}
use Rattle.fac_base.specs.declared.place.Place.{Place}
use Rattle.fac_lang.specs.declared.program.Lit.{Lit}
use Rattle.fac_lang.specs.declared.program.Lit.TheVariants.{Int as l_int, True as l_yes, False as l_no, Str as l_str, Arr as l_arr, Wref as l_word, Quot as l_quot}
use Rattle.fac_base.specs.declared.name.Name.{Name as FullName}
use Rattle.fac_source.specs.declared.refusal.NameFault.{NameFault}
use Rattle.fac_source.specs.declared.refusal.NameKind.TheVariants.{Unknown, Ambiguous, Twice}
use Rattle.fac_items.specs.Written.{Tok, Node, n_lit, n_array, n_quot, n_ref, n_name, n_fry, n_call_effect, n_execute_effect, n_bind, n_hole, n_next, n_full, n_part, Nodes, nothing, more}
use Rattle.fac_source.specs.declared.tok.Ref.{Ref}
use Rattle.fac_source.specs.Refusals.{fault, fault_if}
use Rattle.fac_source.specs.Toks.{is_among, number}
use Rattle.fac_items.specs.Readings.{bound}
use Rattle.fac_vocab.specs.declared.entry.Entry.{Entry}
use Rattle.fac_vocab.specs.Scopes.{Scope, word_held, the, unknown, ambiguous, found}

-- Names.

abbrev pub entry_name : Entry → FullName
entry_name e = record { vocab = e.vocab; name = e.name }

abbrev pub search_fault : Scope → Tok → List NameFault
search_fault s t = elim (found s t.text) [ the w ↦ [] | unknown ↦ fault Unknown t ∷ [] | ambiguous e f ↦ fault (Ambiguous (entry_name e) (entry_name f)) t ∷ [] ]

abbrev pub search_faults : Scope → List Tok → List NameFault
search_faults s ts = all_of (map (search_fault s) ts)

abbrev pub ref : Scope → Tok → Ref
ref s t = record { tok = t; word = elim (found s t.text) [ the w ↦ Some w | _ ↦ None ] }

abbrev pub word_of : Scope → Tok → ℕ
word_of s t = number (ref s t).word

-- whether this is the row of the word `cond`
abbrev pub is_cond_row : PrimitiveWord → Bool
is_cond_row row = bytes_eq row.vocab (codes "combinators") && bytes_eq row.name (codes "cond")

-- the words that there are before a source is read, but for those of classes; their numbers are their places here
abbrev pub known_rows : List PrimitiveWord
known_rows = built_primitive_words ++ map (λ (c : WrittenCore). c.word) built_core_words

-- whether the word with this number is `cond`, where it is one of the words that there are before a source is read; these come first
abbrev pub is_cond_word : ℕ → Bool
is_cond_word w = elim (slice_get known_rows w) [ Some row ↦ is_cond_row row | None ↦ false ]

-- whether the search takes a name to the word `cond`
abbrev pub is_cond : Scope → List ℕ → Bool
is_cond s name = elim (found s name) [ the w ↦ is_cond_word w | _ ↦ false ]

-- the refusals in items and in elements of arrays
abbrev mutual
  pub items_faults : Scope → List (List ℕ) → Nodes → List NameFault
  items_faults s locals nothing = []
  items_faults s locals (more n ns) = item_faults s locals n ++ items_faults s (bound n locals) ns

  pub item_faults : Scope → List (List ℕ) → Node → List NameFault
  item_faults s locals (n_name t p) = (if is_among t.text locals then [] else search_fault s t)
  item_faults s locals (n_ref t p) = search_fault s t
  item_faults s locals (n_bind t twice p) = fault_if twice Twice t
  item_faults s locals (n_array es p) = items_faults s [] es
  item_faults s locals (n_quot ns p) = items_faults s locals ns
  item_faults s locals (n_fry ns p) = items_faults s locals ns
  item_faults s locals (n_part ns) = items_faults s locals ns
  item_faults s locals _ = []

-- Phrases. A local has as its number how many were in scope where it was bound.

abbrev pub local_of : List (List ℕ) → List ℕ → Option ℕ
local_of [] name = None
local_of (x ∷ xs) name = (if bytes_eq x name then Some (length xs) else local_of xs name)

-- a phrase, the literal arrays so far, and the holes of the fry around so far
pub record Made : Type 0 where
  pub phrase : Phrase
  pub arrays : List (List Lit)
  pub holes : ℕ

pub record MadeElements : Type 0 where
  pub elements : List Lit
  pub arrays : List (List Lit)

abbrev pub one : Item → Place → List (List Lit) → ℕ → Made
one i p arrays holes = record { phrase = placed i p end; arrays = arrays; holes = holes }

abbrev pub in_quotation : Place → Made → Made
in_quotation p m = record m { phrase = placed (quot m.phrase) p end }

abbrev pub in_fry : Place → ℕ → Made → Made
in_fry p holes m = one (fry m.phrase m.holes) p m.arrays holes

abbrev pub as_array : Place → ℕ → MadeElements → Made
as_array p holes m = one (lit_arr (length m.arrays)) p (m.arrays ++ m.elements ∷ []) holes

abbrev pub behind_phrase : Phrase → Made → Made
behind_phrase t m = record m { phrase = append t m.phrase }

abbrev pub literal : Plain → Lit
literal (int z) = l_int z
literal yes = l_yes
literal (str bs) = l_str bs
literal _ = l_no

abbrev pub element_before : Lit → MadeElements → MadeElements
element_before l m = record m { elements = l ∷ m.elements }

abbrev mutual
  pub phrase_of : Scope → List (List ℕ) → Nodes → List (List Lit) → ℕ → Made
  phrase_of s locals nothing arrays holes = record { phrase = end; arrays = arrays; holes = holes }
  phrase_of s locals (more n ns) arrays holes = let m = item_of s locals n arrays holes in behind_phrase m.phrase (phrase_of s (bound n locals) ns m.arrays m.holes)

  -- a node has one item, and those of a last `cond` quotation as many as it has
  pub item_of : Scope → List (List ℕ) → Node → List (List Lit) → ℕ → Made
  item_of s locals (n_lit l p) arrays holes = one (lit l) p arrays holes
  item_of s locals (n_array es p) arrays holes = as_array p holes (elements_of s es arrays)
  item_of s locals (n_quot ns p) arrays holes = in_quotation p (phrase_of s locals ns arrays holes)
  item_of s locals (n_ref t p) arrays holes = one (lit (wrd (word_of s t))) p arrays holes
  item_of s locals (n_name t p) arrays holes = one (elim (local_of locals t.text) [ Some x ↦ local x | None ↦ word (word_of s t) ]) p arrays holes
  item_of s locals (n_fry ns p) arrays holes = in_fry p holes (phrase_of s locals ns arrays 0)
  item_of s locals (n_call_effect h p) arrays holes = one (call_effect h) p arrays holes
  item_of s locals (n_execute_effect h p) arrays holes = one (execute_effect h) p arrays holes
  item_of s locals (n_bind t twice p) arrays holes = one (bind (length locals)) p arrays holes
  item_of s locals (n_hole p) arrays holes = one (hole holes) p arrays (suc holes)
  item_of s locals (n_next p) arrays holes = one next_method p arrays holes
  item_of s locals (n_full vocab name p) arrays holes = one (word (number (word_held s.table vocab name))) p arrays holes
  item_of s locals (n_part ns) arrays holes = phrase_of s locals ns arrays holes
  item_of s locals _ arrays holes = record { phrase = end; arrays = arrays; holes = holes }

  pub elements_of : Scope → Nodes → List (List Lit) → MadeElements
  elements_of s nothing arrays = record { elements = []; arrays = arrays }
  elements_of s (more (n_array es p) ns) arrays = let m = elements_of s es arrays in element_before (l_arr (length m.arrays)) (elements_of s ns (m.arrays ++ m.elements ∷ []))
  elements_of s (more (n_quot is p) ns) arrays = let m = phrase_of s [] is arrays 0 in element_before (l_quot m.phrase) (elements_of s ns m.arrays)
  elements_of s (more (n_lit l p) ns) arrays = element_before (literal l) (elements_of s ns arrays)
  elements_of s (more (n_name t p) ns) arrays = element_before (l_word (word_of s t)) (elements_of s ns arrays)
  elements_of s (more (n_ref t p) ns) arrays = element_before (l_word (word_of s t)) (elements_of s ns arrays)
  elements_of s (more _ ns) arrays = elements_of s ns arrays
