-- What forms define and do, in order.
use Rattle.std.specs.Prelude.{ℕ, zero, suc, ◌+◌, nat_lt, nat_le, List, [], ◌∷◌, ◌++◌, map, length, fold, Option, Some, None, Bool, true, false, ◌&&◌, codes, if◌then◌else◌}
use Rattle.std.specs.List.{list_any}
use Rattle.std.specs.Option.{option_map}
use Rattle.fac_lang.specs.RunningLaws.{append}
use Rattle.fac_base.specs.Signatures.{Signature}
use Rattle.fac_lang.specs.Phrases.{Phrase, end, then as placed, word}
use Rattle.fac_lang.specs.Whole.{plain_effect}
use Rattle.fac_base.specs.declared.limits.TheConstants.{MOST_CLASSES}
use Rattle.fac_base.specs.declared.place.Place.{Place}
use Rattle.fac_lang.specs.declared.program.ClassDef.{ClassDef}
use Rattle.fac_lang.specs.declared.program.Lit.{Lit}
use Rattle.fac_lang.specs.declared.program.Sort.{Sort}
use Rattle.fac_lang.specs.declared.program.Sort.TheVariants.{Body as body, Itself as itself, Class as class, Isa as isa, Getter as getter, Setter as setter, Putter as putter, Generic as generic}
use Rattle.fac_lang.specs.declared.program.WordDef.{WordDef}
use Rattle.fac_items.specs.Written.{Tok, Nodes, Declared, given, makes, Form, f_in, f_use, f_using, f_from, f_qualified, f_private, f_public, f_defer, f_symbol, f_main, f_define, f_tuple, f_union, f_single, f_generic, f_method, f_items}
use Rattle.fac_items.specs.Readings.{read_items, read_forms}
use Rattle.fac_vocab.specs.declared.entry.Entry.{Entry}
use Rattle.fac_vocab.specs.declared.brought.Brought.TheVariants.{Named as named, Prefixed as prefixed}
use Rattle.fac_vocab.specs.Scopes.{Scope, exists, word_held, begun, entered, using_vocab, bringing, home, holders, with_entry, now_defined}
use Rattle.fac_source.specs.declared.refusal.NameFault.{NameFault}
use Rattle.fac_source.specs.declared.refusal.NameKind.TheVariants.{Unknown, Twice, NoVocab, TooMany}
use Rattle.fac_source.specs.Refusals.{fault, fault_if, sooner}
use Rattle.fac_items.specs.Items.{search_fault, search_faults, ref, word_of, is_cond, items_faults, phrase_of}
use Rattle.fac_endings.specs.Words.{no_effect, plain_word}
-- words and classes as forms tell them
use Rattle.fac_endings.specs.declared.draft.Draft.{Draft}
use Rattle.fac_endings.specs.declared.draft.Late.{Late}
use Rattle.fac_endings.specs.declared.draft.Late.TheVariants.{Settled as settled, Deferred as deferred, Maker as maker, Method as method_of}
use Rattle.fac_endings.specs.declared.draft.Named.{Named}
use Rattle.fac_endings.specs.declared.draft.Named.TheVariants.{Tuple as a_tuple, Union as a_union, Single as a_single}
use Rattle.fac_endings.specs.declared.draft.NewClass.{NewClass}

-- what the forms so far come to
pub record Reading : Type 0 where
  pub scope : Scope
  pub words : List Draft
  pub old_classes : List ClassDef
  pub classes : List NewClass
  pub arrays : List (List Lit)
  pub top : Phrase
  pub main : Phrase
  -- the first refusal so far
  pub first : Option NameFault

abbrev pub refused : List NameFault → Reading → Reading
refused fs r = record r { first = fold sooner r.first fs }

abbrev pub scoped : (Scope → Scope) → Reading → Reading
scoped f r = record r { scope = f r.scope }

abbrev pub changed : {A : Type 0} → (A → A) → ℕ → List A → List A
changed f n [] = []
changed f zero (x ∷ xs) = f x ∷ xs
changed f (suc n) (x ∷ xs) = x ∷ changed f n xs

-- a word that is still to be told, under a new number
abbrev pub draft_of : List ℕ → Tok → Draft
draft_of vocab t = record { word = plain_word vocab t.text itself no_effect t.place; late = deferred }

-- a reading in which a word has a number
pub record Numbered : Type 0 where
  pub word : ℕ
  pub reading : Reading

abbrev pub added : List ℕ → Tok → Reading → Numbered
added vocab t r = record { word = length r.words; reading = record r { words = r.words ++ draft_of vocab t ∷ [] } }

abbrev pub in_table : List ℕ → Tok → Bool → Numbered → Numbered
in_table vocab t is_defined n = record n { reading = scoped (with_entry vocab t.text n.word is_defined) n.reading }

abbrev pub at_place : Place → Draft → Draft
at_place p d = record d { word = record d.word { place = p } }

-- The name of a definition: new, or deferred before, or refused since it is defined already. A refused one has a word that no table has.
abbrev pub defining : List ℕ → Tok → Reading → List Entry → Numbered
defining vocab t r [] = in_table vocab t true (added vocab t r)
defining vocab t r (e ∷ es) =
    if list_any (λ f. f.is_defined) (e ∷ es) then added vocab t (refused (fault Twice t ∷ []) r)
    else record { word = e.word; reading = record r { scope = record r.scope { table = now_defined e.vocab e.name r.scope.table }; words = changed (at_place t.place) e.word r.words } }

abbrev pub defined : List ℕ → Tok → Reading → Numbered
defined vocab t r = defining vocab t r (holders r.scope.table vocab t.text)

abbrev pub deferring : Tok → Reading → List Entry → Reading
deferring t r [] = (in_table (home r.scope) t false (added (home r.scope) t r)).reading
deferring t r (e ∷ es) = refused (fault Twice t ∷ []) r

abbrev pub with_told : Sort → Signature → Bool → Bool → Late → Draft → Draft
with_told sort effect inline recursive late d = record { word = record d.word { sort = sort; effect = effect; inline = inline; recursive = recursive }; late = late }

-- what a word is
abbrev pub told : Sort → Signature → Bool → Bool → Late → Numbered → Reading
told sort effect inline recursive late n = record n.reading { words = changed (with_told sort effect inline recursive late) n.word n.reading.words }

abbrev pub own : Tok → Reading → Numbered
own t r = defined (home r.scope) t r

abbrev pub plainly : Sort → List (List ℕ) → List (List ℕ) → Numbered → Reading
plainly sort ins outs n = told sort (plain_effect ins outs) false false settled n

-- items by their readings, with the refusals in them
abbrev pub read_phrase : Nodes → (Phrase → Reading → Reading) → Reading → Reading
read_phrase ns and_then r =
    let ms = read_items (is_cond r.scope) [] ns in
    let m = phrase_of r.scope [] ms r.arrays 0 in
    and_then m.phrase (refused (items_faults r.scope [] ms) (record r { arrays = m.arrays }))

abbrev pub declared_effect : Declared → Signature
declared_effect (given e) = e
declared_effect (makes t) = no_effect

abbrev pub declared_late : Scope → Declared → Late
declared_late s (given e) = settled
declared_late s (makes t) = maker (ref s t)

abbrev pub use_one : Reading → Tok → Reading
use_one r t = (if exists r.scope t.text then scoped (using_vocab t.text) r else refused (fault NoVocab t ∷ []) r)

-- one name of a `FROM:`
abbrev pub bringing_one : Tok → Reading → Option ℕ → Reading
bringing_one t r (Some w) = scoped (bringing (named t.text w)) r
bringing_one t r None = refused (fault Unknown t ∷ []) r

abbrev pub bring_one : List ℕ → Reading → Tok → Reading
bring_one vocab r t = bringing_one t r (word_held r.scope.table vocab t.text)

-- The classes of the program after the prelude count up to this.
abbrev pub most_classes : ℕ
most_classes = MOST_CLASSES

abbrev pub is_class_sort : Sort → Bool
is_class_sort (class c) = true
is_class_sort _ = false

abbrev pub is_counted : WordDef → Bool
is_counted d = nat_lt 0 d.place.file && is_class_sort d.sort

abbrev pub one_more_if : Bool → ℕ → ℕ
one_more_if true n = suc n
one_more_if false n = n

abbrev pub counted : List Draft → ℕ
counted [] = 0
counted (d ∷ ds) = one_more_if (is_counted d.word) (counted ds)

-- the words of a class form: the class and its predicate
abbrev pub class_words : Tok → Reading → Numbered
class_words t r =
    let c = length r.old_classes + length r.classes in
    let n = own t r in
    record n {
      reading = plainly (isa c) (codes "object" ∷ []) (codes "?" ∷ []) (own (record t { text = t.text ++ codes "?" }) (
          refused (fault_if (nat_lt 0 t.place.file && nat_le most_classes (counted r.words)) TooMany t) (plainly (class c) [] (codes "value" ∷ []) n)));
    }

abbrev pub option_list : {A : Type 0} → Option A → List A
option_list None = []
option_list (Some a) = a ∷ []

-- a class that names others; these are searched behind its own words
abbrev pub class_form : Tok → List Tok → (Scope → Named) → Reading → Reading
class_form t searched names r =
    let n = class_words t r in
    refused (search_faults n.reading.scope searched) (record n.reading { classes = n.reading.classes ++ record { tok = t; word = n.word; names = names n.reading.scope } ∷ [] })

-- an accessor, unless the table has its name
abbrev pub making : Tok → Sort → List (List ℕ) → List (List ℕ) → Reading → List Entry → Reading
making t sort ins outs r [] = plainly sort ins outs (defined (codes "accessors") t r)
making t sort ins outs r (e ∷ es) = r

abbrev pub accessor : Tok → Sort → List (List ℕ) → List (List ℕ) → Reading → Reading
accessor t sort ins outs r = making t sort ins outs r (holders r.scope.table (codes "accessors") t.text)

-- those of one slot
abbrev pub with_slot : Reading → Tok → Reading
with_slot r t =
    accessor (record t { text = t.text ++ codes "<<" }) (putter t.text) (codes "value" ∷ codes "object" ∷ []) [] (
    accessor (record t { text = codes ">>" ++ t.text }) (setter t.text) (codes "object" ∷ codes "value" ∷ []) (codes "object" ∷ []) (
    accessor (record t { text = t.text ++ codes ">>" }) (getter t.text) (codes "object" ∷ []) (codes "value" ∷ []) r))

-- the name of an accessor in its vocabulary
abbrev pub accessor_text : Sort → Option (List ℕ)
accessor_text (getter s) = Some (s ++ codes ">>")
accessor_text (setter s) = Some (codes ">>" ++ s)
accessor_text (putter s) = Some (s ++ codes "<<")
accessor_text _ = None

-- one form, after its reading
abbrev pub take : Form → Reading → Reading
take (f_in v) r = scoped (entered v.text) r
take (f_use v) r = use_one r v
take (f_using vs) r = fold use_one r vs
take (f_from v ns) r = (if exists r.scope v.text then fold (bring_one v.text) r ns else refused (fault NoVocab v ∷ []) r)
take (f_qualified v p) r = (if exists r.scope v.text then scoped (bringing (prefixed v.text p.text)) r else refused (fault NoVocab v ∷ []) r)
take f_private r = scoped (λ s. record s { in_private = true }) r
take f_public r = scoped (λ s. record s { in_private = false }) r
take (f_defer n) r = deferring n r (holders r.scope.table (home r.scope) n.text)
take (f_symbol n) r = plainly itself [] (codes "value" ∷ []) (own n r)
take (f_main n) r = refused (search_fault r.scope n) (record r { main = placed (word (word_of r.scope n)) n.place end })
take (f_define n e ns inline recursive) r =
    let d = own n r in
    read_phrase ns (λ t q. told (body t) (declared_effect e) inline recursive (declared_late q.scope e) (record { word = d.word; reading = q })) d.reading
take (f_tuple n parent slots) r =
    fold with_slot (class_form n (option_list parent) (λ s. a_tuple (option_map (ref s) parent) slots) r) slots
take (f_union n members) r = class_form n members (λ s. a_union (map (ref s) members)) r
take (f_single n) r = class_form n [] (λ s. a_single) r
take (f_generic n e) r = told generic e false false settled (own n r)
take (f_method c g ns) r =
    let a = ref r.scope c in
    let b = ref r.scope g in
    let d = added [] g (refused (search_faults r.scope (c ∷ g ∷ [])) r) in
    read_phrase ns (λ t q. told (body t) no_effect false false (method_of a b) (record { word = d.word; reading = q })) d.reading
take (f_items ns) r = read_phrase ns (λ t q. record q { top = append q.top t }) r
take _ r = r

-- one file more
abbrev pub take_file : Bool → Reading → List Form → Reading
take_file keep r forms = fold (λ q form. take form q) (if keep then r else scoped begun r) (read_forms forms)
