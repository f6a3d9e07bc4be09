-- What items mean: a name is the innermost local of its name that is bound before it, or else the word that it finds, a hole is the next one of the fry around, and the
-- cases of a `cond` are `if` in `if`.
use Rattle.std.specs.Prelude.{◌≡◌, ◌+◌, ℕ, suc, List, [], ◌∷◌, ◌++◌, length, drop, slice_get, Option, Some, None, Bool, false, codes, if◌then◌else◌}
use Rattle.fac_base.specs.declared.place.Place.{Place}
use Rattle.fac_lang.specs.Phrases.{Phrase, end, then as placed, Item, lit, wrd, word, bind, local, hole, call_effect, execute_effect, next_method}
use Rattle.fac_lang.specs.RunningLaws.{append}
use Rattle.fac_lang.specs.declared.program.Sort.TheVariants.{Body as body}
use Rattle.fac_lang.specs.declared.program.Lit.{Lit}
use Rattle.fac_lang.specs.declared.program.Lit.TheVariants as literal
use Rattle.fac_source.specs.declared.tree.Bracket.TheVariants.{Quotation, Array, Fry}
use Rattle.fac_source.specs.declared.tree.Element.{Element}
use Rattle.fac_source.specs.declared.tree.Form.{Form as Flat}
use Rattle.fac_source.specs.Toks.{number, texts_of}
use Rattle.fac_parse.specs.Trees.{AreItems, IsLiteral}
use Rattle.fac_vocab.specs.declared.entry.Entry.{Entry}
use Rattle.fac_vocab.specs.Scopes.{Scope, Found, the, found, word_held}
use Rattle.fac_items.specs.Written.{Tok, Node, n_lit, n_array, n_quot, n_ref, n_name, n_locals, n_fry, n_call_effect, n_execute_effect, n_bind, n_hole, n_at, n_next, Nodes, nothing, more, Declared, Form, f_constant, f_define, f_main, f_maker, f_method, f_items}
use Rattle.fac_items.specs.FromElements.{nested}
use Rattle.fac_items.specs.Items.{literal as element_of, is_cond_word, local_of}
use Rattle.fac_items.specs.Readings.{are_pairs, bound, cond_first, read_form, with_inputs}
use Rattle.fac_endings.specs.declared.draft.Draft.{Draft}
use Rattle.fac_names.specs.Forms.{Reading, own, take}
use Rattle.fac_names.specs.FromFlat.{first_node}
use Rattle.fac_names.specs.TakenForms.{take_front}
use Rattle.fac_meanings.specs.SearchOrder.{found_at, latest_first}
use Rattle.fac_meanings.specs.Signs.{Sign, array_signs, filled, one, phrase_signs, value, within}

-- What words there are: that of each name, whether a name's word is `cond`, and those that readings name.
pub record Words : Type 0 where
  pub named : List ℕ → ℕ
  pub is_cond : List ℕ → Bool
  -- `call`, `if`, `(no-cond)` and `boa`
  pub calling : ℕ
  pub choosing : ℕ
  pub failing : ℕ
  pub making : ℕ

abbrev pub word_found : Found → ℕ
word_found f = number (elim f [ the w ↦ Some w | _ ↦ None ])

abbrev pub cond_found : Found → Bool
cond_found f = elim f [ the w ↦ is_cond_word w | _ ↦ false ]

-- those of a table, where a name finds this
abbrev pub words_of : List Entry → (List ℕ → Found) → Words
words_of table finds =
    record {
      named = λ name. word_found (finds name);
      is_cond = λ name. cond_found (finds name);
      calling = number (word_held table (codes "kernel") (codes "call"));
      choosing = number (word_held table (codes "kernel") (codes "if"));
      failing = number (word_held table (codes "combinators.private") (codes "(no-cond)"));
      making = number (word_held table (codes "kernel") (codes "boa"));
    }

-- those that the search finds in a scope,
abbrev pub words_in : Scope → Words
words_in s = words_of s.table (λ name. found s name)

-- and those behind forms of a file, of which the latest is the first here
abbrev pub words_behind : List Entry → List Form → Words
words_behind table before = words_of table (λ name. found_at table name before)

-- how many holes the fry around has behind a node and behind items, where it has so many before
abbrev mutual
  pub holes_behind : ℕ → Nodes → ℕ
  holes_behind holes nothing = holes
  holes_behind holes (more n ns) = holes_behind (holes_with holes n) ns

  pub holes_with : ℕ → Node → ℕ
  holes_with holes (n_hole p) = suc holes
  holes_with holes (n_at p) = suc holes
  holes_with holes (n_quot ms p) = holes_behind holes ms
  holes_with holes (n_locals ts ms p) = holes_behind holes ms
  holes_with holes _ = holes

-- the bindings of inputs, the last input first, where so many locals are in scope
abbrev pub bindings_signs : ℕ → List Tok → List Sign
bindings_signs k [] = []
bindings_signs k (t ∷ ts) = bindings_signs k ts ++ one (bind (k + length ts)) t.place ∷ []

-- a name: the innermost local of this name, or else the word that it finds
abbrev pub named_item : Words → List (List ℕ) → List ℕ → Item
named_item ws locals name = elim (local_of locals name) [ Some x ↦ local x | None ↦ word (ws.named name) ]

-- Items, where these locals are in scope, the innermost first, and the fry around has so many holes.
abbrev mutual
  pub meanings : Words → List (List ℕ) → ℕ → Nodes → List Sign
  meanings ws locals holes nothing = []
  meanings ws locals holes (more n ns) = before ws locals holes n ns (meanings ws (bound n locals) (holes_with holes n) ns)

  -- A node before others, which mean this. Where it is the array of a `cond`'s cases, these are meant in its place, and not the `cond`, which is the first of the others.
  pub before : Words → List (List ℕ) → ℕ → Node → Nodes → List Sign → List Sign
  before ws locals holes (n_lit x p) ns rest = one (lit x) p ∷ rest
  before ws locals holes (n_ref t p) ns rest = one (lit (wrd (ws.named t.text))) p ∷ rest
  before ws locals holes (n_name t p) ns rest = one (named_item ws locals t.text) p ∷ rest
  before ws locals holes (n_call_effect h p) ns rest = one (call_effect h) p ∷ rest
  before ws locals holes (n_execute_effect h p) ns rest = one (execute_effect h) p ∷ rest
  before ws locals holes (n_next p) ns rest = one next_method p ∷ rest
  before ws locals holes (n_bind t twice p) ns rest = one (bind (length locals)) p ∷ rest
  before ws locals holes (n_hole p) ns rest = one (hole holes) p ∷ rest
  before ws locals holes (n_at p) ns rest = one (hole holes) p ∷ one (word ws.calling) p ∷ rest
  before ws locals holes (n_quot ms p) ns rest = within Quotation (Some p) (meanings ws locals holes ms) ++ rest
  before ws locals holes (n_locals ts ms p) ns rest = within Quotation (Some p) (bindings_signs (length locals) ts ++ meanings ws (texts_of ts ++ locals) holes ms) ++ rest
  before ws locals holes (n_fry ms p) ns rest = within Fry (Some p) (meanings ws locals 0 ms ++ filled (holes_behind 0 ms) ∷ []) ++ rest
  before ws locals holes (n_array es p) ns rest =
      elim (if are_pairs es then cond_first ws.is_cond locals ns else None) [
        | Some q ↦ cases ws locals holes q es ++ drop 1 rest
        | None ↦ within Array (Some p) (values ws es) ++ rest
      ]
  before ws locals holes _ ns rest = rest

  -- the cases of a `cond` at this place: a test and `call`, what runs where it holds, a quotation of the cases behind, and `if`; the items of a last quotation, or `(no-cond)`
  pub cases : Words → List (List ℕ) → ℕ → Place → Nodes → List Sign
  cases ws locals holes p nothing = one (word ws.failing) p ∷ []
  cases ws locals holes p (more (n_quot ms q) es) = meanings ws locals holes ms
  cases ws locals holes p (more (n_array (more (n_quot ts o) (more (n_quot ms q) ns)) r) es) =
      within Quotation (Some o) (meanings ws locals holes ts)
      ++ one (word ws.calling) p ∷ within Quotation (Some q) (meanings ws locals holes ms)
      ++ within Quotation (Some p) (cases ws locals holes p es)
      ++ one (word ws.choosing) p ∷ []
  cases ws locals holes p _ = []

  -- the elements of an array, in which no local of around is in scope
  pub values : Words → Nodes → List Sign
  values ws nothing = []
  values ws (more n ns) = value_signs ws n ++ values ws ns

  pub value_signs : Words → Node → List Sign
  value_signs ws (n_lit x p) = value (element_of x) ∷ []
  value_signs ws (n_ref t p) = value (literal.Wref (ws.named t.text)) ∷ []
  value_signs ws (n_name t p) = value (literal.Wref (ws.named t.text)) ∷ []
  value_signs ws (n_quot ms p) = within Quotation None (meanings ws [] 0 ms)
  value_signs ws (n_array es p) = within Array None (values ws es)
  value_signs ws _ = []

-- items behind the bindings of these inputs
abbrev pub meant : Words → List Tok → List Element → List Sign
meant ws inputs items = bindings_signs 0 inputs ++ meanings ws (texts_of inputs) 0 (nested items)

-- a phrase with these arrays, whatever arrays come behind them
abbrev pub IsWritten : List (List Lit) → Phrase → List Sign → Type 0
IsWritten arrays phrase signs = (later : List (List Lit)) → phrase_signs (array_signs (arrays ++ later)) phrase ≡ signs

-- The word with this number, where there is one, has a phrase that is written so.
abbrev pub HasPhrase : Reading → ℕ → List Sign → Type 0
HasPhrase r w signs = (d : Draft) → slice_get r.words w ≡ Some d → (phrase : Phrase) × (d.word.sort ≡ body phrase) × IsWritten r.arrays phrase signs

-- the next form, which tells what the word of this name is
abbrev pub NextMeans : Reading → List Form → Tok → Form → (Words → List Sign) → Type 0
NextMeans r before n form signs = let o = own n r in HasPhrase (take (read_form form) r) o.word (signs (words_behind o.reading.scope.table before))

-- a maker of tuples, which names its class and `boa`
abbrev pub maker_signs : Words → Tok → Tok → List Sign
maker_signs ws n c = one (word (ws.named c.text)) n.place ∷ one (word ws.making) n.place ∷ []

-- a definition, whose inputs are locals where it is one of `::`, and else none
abbrev pub DefinitionsAreMeant : Reading → List Form → List Tok → List Element → Type 0
DefinitionsAreMeant r before inputs items =
    (n : Tok) (e : Declared) (inline recursive : Bool) → NextMeans r before n (f_define n e (with_inputs inputs (nested items)) inline recursive) (λ ws. meant ws inputs items)

-- a constant, which pushes its literal
abbrev pub ConstantsAreMeant : Reading → List Form → Type 0
ConstantsAreMeant r before = (n : Tok) (items : List Element) → IsLiteral items → NextMeans r before n (f_constant n (first_node (nested items))) (λ ws. meant ws [] items)

-- a maker of tuples
abbrev pub MakersAreMeant : Reading → List Form → Type 0
MakersAreMeant r before = (n c : Tok) → NextMeans r before n (f_maker n c) (λ ws. maker_signs ws n c)

-- a method, whose word is the next one
abbrev pub MethodsAreMeant : Reading → List Form → List Element → Type 0
MethodsAreMeant r before items = (c g : Tok) → HasPhrase (take (f_method c g (nested items)) r) (length r.words) (meant (words_behind r.scope.table before) [] items)

-- items at the top level, which come behind those before them
abbrev pub TopItemsAreMeant : Reading → List Form → List Element → Type 0
TopItemsAreMeant r before items =
    (let q = take (f_items (nested items)) r in (phrase : Phrase) × (q.top ≡ append r.top phrase) × IsWritten q.arrays phrase (meant (words_behind r.scope.table before) [] items))

-- the word of a `MAIN:`
abbrev pub MainsAreMeant : Reading → List Form → Type 0
MainsAreMeant r before = (n : Tok) → (take (f_main n) r).main ≡ placed (word ((words_behind r.scope.table before).named n.text)) n.place end

-- Behind forms of a file of which none is refused, the next form's items mean what is bound before each name in them, and else what it finds among these forms, and, where
-- the form defines a word, its own name.
abbrev pub FormsAreMeant : Type 0
FormsAreMeant =
    (r : Reading) (forms : List Flat) (locals : Option ℕ) (inputs : List Tok) (items : List Element) → (take_front r forms).first ≡ None → AreItems locals items →
    (let q = take_front r forms in
    let before = latest_first [] forms in
    DefinitionsAreMeant q before inputs items × ConstantsAreMeant q before × MakersAreMeant q before × MethodsAreMeant q before items × TopItemsAreMeant q before items × MainsAreMeant q before)
