-- Behind each form what was read is made of what sources have.
use Rattle.std.proofs.Common.{◌≡◌, ◌+◌, ℕ, suc, List, [], ◌∷◌, ◌++◌, map, length, fold, Option, Some, None, Bool, true, false, refl, sym, ◌∙◌, subst, arith}
use Rattle.std.specs.Prelude.{if◌then◌else◌, ◌&&◌, nat_le, nat_lt, codes}
use Rattle.std.specs.Option.{option_map}
use Rattle.fac_lang.proofs.SourcePrograms.{AreArraysOf, IsPhraseOf, IsSortOf}
use Rattle.fac_names.proofs.PrimitiveNumbers.{numbers_before}
use Rattle.fac_lang.specs.Phrases.{Phrase}
use Rattle.fac_base.specs.Signatures.{Signature}
use Rattle.fac_lang.specs.Whole.{name_count, plain_effect}
use Rattle.fac_lang.specs.declared.program.Sort.{Sort}
use Rattle.fac_lang.specs.declared.program.Sort.TheVariants.{Body as body, Itself as itself, Class as class, Isa as isa, Getter as getter, Setter as setter, Putter as putter, Generic as generic}
use Rattle.fac_lang.specs.declared.program.WordDef.{WordDef}
use Rattle.fac_vocab.specs.declared.brought.Brought.TheVariants.{Named as named, Prefixed as prefixed}
use Rattle.fac_vocab.specs.declared.entry.Entry.{Entry}
use Rattle.fac_vocab.specs.Scopes.{Scope, begun, bringing, entered, exists, holders, home, using_vocab, word_held}
use Rattle.fac_source.specs.declared.refusal.NameFault.{NameFault}
use Rattle.fac_source.specs.declared.refusal.NameKind.TheVariants.{Unknown, NoVocab, TooMany}
use Rattle.fac_source.specs.Refusals.{fault, fault_if, sooner}
use Rattle.fac_items.specs.Written.{Tok, Nodes, Declared, given, makes, Form, f_in, f_use, f_using, f_from, f_qualified, f_private, f_public, f_defer, f_symbol, f_main, f_define, f_tuple, f_union, f_single, f_generic, f_method, f_items}
use Rattle.fac_items.specs.Readings.{read_items}
use Rattle.fac_items.specs.Items.{is_cond, items_faults, phrase_of, ref, search_fault, search_faults}
use Rattle.fac_items.proofs.ArrayNumbers.{Adds, adds_none, phrase_adds}
use Rattle.fac_items.proofs.PlainNodes.{ArePlain}
use Rattle.fac_endings.specs.Words.{no_effect}
use Rattle.fac_endings.specs.declared.draft.Late.TheVariants.{Settled as settled, Method as method_of}
use Rattle.fac_endings.specs.declared.draft.Named.{Named}
use Rattle.fac_endings.specs.declared.draft.Named.TheVariants.{Tuple as a_tuple, Union as a_union, Single as a_single}
use Rattle.fac_endings.specs.declared.draft.NewClass.{NewClass}
use Rattle.fac_endings.proofs.Apart.{and_true}
use Rattle.fac_endings.proofs.EndedClasses.{class_in, is_new_sort, late_in, own_few}
use Rattle.fac_names.specs.Forms.{accessor_text, Numbered, Reading, accessor, added, bring_one, bringing_one, class_form, class_words, counted, declared_effect, declared_late, defining, in_table, making, most_classes, option_list, own, plainly, refused, scoped, take, told, use_one, with_slot, with_told}
use Rattle.fac_names.proofs.ArrayReadings.{Begins, added_begins, names_by, refused_counted}
use Rattle.fac_names.proofs.BuiltScopes.{WordIn, word_in_held, word_of_in}
use Rattle.fac_names.proofs.Fronts.{Covers, is_found}
use Rattle.fac_names.proofs.BuiltReadings.{Built, IsBuiltLate, IsTold, Keeps, first_found, one_class_more, refused_built, scope_covered, scoped_built, table_below, told_built, told_keeps, with_class, with_main, with_top, with_word}
use Rattle.fac_names.proofs.BuiltPhrases.{append_built, phrase_built}
use Rattle.fac_names.proofs.HeldNames.{WordHeld, held_new, no_accessor, word_kept}
use Rattle.fac_names.proofs.DefinedNames.{none_before, none_before, stays_then, keeps_refused, NameHeld, changed_here, with_no_entry, new_defined, own_built, deferring_built}

-- What files use.

reading_if : (k c : ℕ) (q s : Reading) (b : Bool) → Built k c q → Built k c s → Built k c (if b then q else s)
reading_if k c q s true h is = h
reading_if k c q s false h is = is

one_refused : (k c : ℕ) (r : Reading) (f : NameFault) → Built k c r → Built k c (refused (f ∷ []) r)
one_refused k c r f b = refused_built k c r (sooner r.first f) (none_before r.first (f ∷ [])) b

use_built : (k c : ℕ) (r : Reading) (t : Tok) → Built k c r → Built k c (use_one r t)
use_built k c r t b =
    reading_if k c (scoped (using_vocab t.text) r) (refused (fault NoVocab t ∷ []) r) (exists r.scope t.text)
    (scoped_built k c r (using_vocab t.text r.scope) b (record { table = b.scope.table; brought = b.scope.brought }) refl)
    (one_refused k c r (fault NoVocab t) b)

bringing_built : (k c : ℕ) (t : Tok) (r : Reading) (o : Option ℕ) (b : Built k c r) → WordIn (is_found b.front (length r.words)) o → Built k c (bringing_one t r o)
bringing_built k c t r (Some w) b h = scoped_built k c r (bringing (named t.text w) r.scope) b (record { table = b.scope.table; brought = (h, b.scope.brought) }) refl
bringing_built k c t r None b h = one_refused k c r (fault Unknown t) b

bring_built : (k c : ℕ) (vocab : List ℕ) (r : Reading) (t : Tok) → Built k c r → Built k c (bring_one vocab r t)
bring_built k c vocab r t b = bringing_built k c t r (word_held r.scope.table vocab t.text) b (word_in_held (is_found b.front (length r.words)) r.scope.table vocab t.text b.scope.table)

pub fold_built : {A : Type 0} (k c : ℕ) (f : Reading → A → Reading) → ((r : Reading) (a : A) → Built k c r → Built k c (f r a)) → (xs : List A) (r : Reading) → Built k c r → Built k c (fold f r xs)
fold_built k c f h [] r b = b
fold_built k c f h (x ∷ xs) r b = fold_built k c f h xs (f r x) (h r x b)

-- Words of one sort.

-- a word that names no array is told
plain_told : (k c : ℕ) (n : Numbered) (s : Sort) (e : Signature) (b : Built k c n.reading) → names_by s ≡ [] → IsTold b.front k n s e false false settled → Begins n → Built k c (told s e false false settled n)
plain_told k c n s e b none t begins = told_built k c n s e false false settled n.reading.arrays n.reading.first b t (λ is. is) b.arrays (subst (Adds n.reading.arrays n.reading.arrays) (sym none) (adds_none n.reading.arrays)) begins

symbol_built : (k c : ℕ) (t : Tok) (r : Reading) → Built k c r → Built k c (take (f_symbol t) r)
symbol_built k c t r b =
    let d = own_built k c t r b in
    plain_told k c (own t r) itself (plain_effect [] (codes "value" ∷ [])) d.built refl
    (record { no_primitive = λ ks. refl; new = refl; built = λ may within w. record { effect_is = refl; not_inline = refl; not_recursive = refl }; ok = refl; accessor = no_accessor (own t r).reading.scope.table (own t r).word itself refl }) d.begins

generic_built : (k c : ℕ) (t : Tok) (e : Signature) (r : Reading) → nat_le (name_count e) 65 ≡ true → Built k c r → Built k c (take (f_generic t e) r)
generic_built k c t e r few b =
    let d = own_built k c t r b in
    plain_told k c (own t r) generic e d.built refl
    (record { no_primitive = λ ks. refl; new = refl; built = λ may within w. record { not_inline = refl; not_recursive = refl }; ok = few; accessor = no_accessor (own t r).reading.scope.table (own t r).word generic refl }) d.begins

-- Definitions and items.

-- items whose readings are plain
abbrev pub AreReadPlain : Nodes → Type 0
AreReadPlain ns = (is_cond : List ℕ → Bool) → ArePlain false (read_items is_cond [] ns)

-- what a word has of its effect and its marks
abbrev pub IsFewDeclared : Declared → Bool → Bool → Type 0
IsFewDeclared (given e) inline recursive = nat_le (name_count e) 65 ≡ true
IsFewDeclared (makes t) inline recursive = (inline ≡ false) × (recursive ≡ false)

declared_ok : (k : ℕ) (s : Scope) (e : Declared) (u : Phrase) (inline recursive : Bool) → IsFewDeclared e inline recursive → ((class_in k (body u) && late_in (body u) (declared_late s e)) && nat_le (name_count (declared_effect e)) 65) ≡ true
declared_ok k s (given e) u inline recursive h = h
declared_ok k s (makes t) u inline recursive h = refl

declared_built : (may : ℕ → Bool) (s : Scope) (e : Declared) (u : Phrase) (inline recursive : Bool) (d : WordDef) → IsFewDeclared e inline recursive → IsPhraseOf may u → IsBuiltLate may (record d { sort = body u; effect = declared_effect e; inline = inline; recursive = recursive }) (declared_late s e)
declared_built may s (given e) u inline recursive d h is = is
declared_built may s (makes t) u inline recursive d h is = record { built = is; not_inline = h.0; not_recursive = h.1 }

-- the phrase of items, and the arrays behind it
items_read : (k c : ℕ) (r : Reading) (b : Built k c r) (ns : Nodes) → AreReadPlain ns → (may : ℕ → Bool) → Covers b.front (length r.words) may →
    (let m = phrase_of r.scope [] (read_items (is_cond r.scope) [] ns) r.arrays 0 in IsPhraseOf may m.phrase × AreArraysOf may m.arrays)
items_read k c r b ns plain may within = phrase_built may r.scope [] false (read_items (is_cond r.scope) [] ns) r.arrays 0 (first_found k c r b may within) (scope_covered k c r b may within) (plain (is_cond r.scope)) (b.arrays may within)

define_built : (k c : ℕ) (t : Tok) (e : Declared) (ns : Nodes) (inline recursive : Bool) (r : Reading) → AreReadPlain ns → IsFewDeclared e inline recursive → Built k c r → Built k c (take (f_define t e ns inline recursive) r)
define_built k c t e ns inline recursive r plain few b =
    let n = own t r in
    let d = own_built k c t r b in
    let s = n.reading.scope in
    let ms = read_items (is_cond s) [] ns in
    let m = phrase_of s [] ms n.reading.arrays 0 in
    told_built k c n (body m.phrase) (declared_effect e) inline recursive (declared_late s e) m.arrays (fold sooner n.reading.first (items_faults s [] ms)) d.built
    (record {
      no_primitive = λ ks. refl;
      new = refl;
      built = λ may within w. declared_built may s e m.phrase inline recursive w few (items_read k c n.reading d.built ns plain may within).0;
      ok = declared_ok k s e m.phrase inline recursive few;
      accessor = no_accessor s.table n.word (body m.phrase) refl;
    })
    (none_before n.reading.first (items_faults s [] ms))
    (λ may within. (items_read k c n.reading d.built ns plain may within).1)
    (phrase_adds s [] ms n.reading.arrays 0) d.begins

method_built : (k c : ℕ) (x g : Tok) (ns : Nodes) (r : Reading) → AreReadPlain ns → Built k c r → Built k c (take (f_method x g ns) r)
method_built k c x g ns r plain b =
    let fs = search_faults r.scope (x ∷ g ∷ []) in
    let q = refused fs r in
    let first = fold sooner r.first fs in
    let n = added [] g q in
    let begins = added_begins [] g q (table_below k c r b) (refused_counted r first b.counted) in
    let mid = with_word k c r r.scope [] g first b (with_no_entry r [] g first k c (none_before r.first fs) b) begins.counted in
    let s = r.scope in
    let ms = read_items (is_cond s) [] ns in
    let m = phrase_of s [] ms r.arrays 0 in
    told_built k c n (body m.phrase) no_effect false false (method_of (ref s x) (ref s g)) m.arrays (fold sooner first (items_faults s [] ms)) mid
    (record {
      no_primitive = λ ks. refl;
      new = refl;
      built = λ may within w. record { built = (items_read k c n.reading mid ns plain may within).0; not_inline = refl; not_recursive = refl };
      ok = refl;
      accessor = no_accessor s.table n.word (body m.phrase) refl;
    })
    (none_before first (items_faults s [] ms))
    (λ may within. (items_read k c n.reading mid ns plain may within).1)
    (phrase_adds s [] ms r.arrays 0) begins

items_built : (k c : ℕ) (ns : Nodes) (r : Reading) → AreReadPlain ns → Built k c r → Built k c (take (f_items ns) r)
items_built k c ns r plain b =
    let s = r.scope in
    let ms = read_items (is_cond s) [] ns in
    let m = phrase_of s [] ms r.arrays 0 in
    with_top k c r m.phrase m.arrays (fold sooner r.first (items_faults s [] ms)) b (none_before r.first (items_faults s [] ms))
    (λ may within. append_built may r.top m.phrase (b.top may within) (items_read k c r b ns plain may within).0)
    (λ may within. (items_read k c r b ns plain may within).1)
    (phrase_adds s [] ms r.arrays 0)

main_built : (k c : ℕ) (n : Tok) (r : Reading) → Built k c r → Built k c (take (f_main n) r)
main_built k c n r b = with_main k c r _ (fold sooner r.first (search_fault r.scope n)) b (none_before r.first (search_fault r.scope n)) (λ may within. (word_of_in may r.scope n (first_found k c r b may within) (scope_covered k c r b may within), tt)) refl

-- Classes.

-- the number of classes
abbrev pub classes_in : Reading → ℕ
classes_in r = length r.old_classes + length r.classes

-- all classes are counted
abbrev pub BuiltUp : Reading → Type 0
BuiltUp r = Built (classes_in r) (classes_in r) r

pub up : (c : ℕ) (r : Reading) → Built c c r → BuiltUp r
up c r b = subst (λ (n : ℕ). Built n n r) (sym b.count) b

below_next : (c : ℕ) → nat_lt c (suc c) ≡ true
below_next c = grind arith

class_told : (k c : ℕ) (n : Numbered) (j : ℕ) → nat_lt j k ≡ true → Begins n → Built k c n.reading → Built k c (plainly (class j) [] (codes "value" ∷ []) n)
class_told k c n j below begins b =
    plain_told k c n (class j) (plain_effect [] (codes "value" ∷ [])) b refl
    (record { no_primitive = λ ks. refl; new = refl; built = λ may within w. record { effect_is = refl; not_inline = refl; not_recursive = refl }; ok = and_true (nat_lt j k && true) true (and_true (nat_lt j k) true below refl) refl; accessor = no_accessor n.reading.scope.table n.word (class j) refl }) begins

predicate_told : (k c : ℕ) (n : Numbered) (j : ℕ) → nat_lt j k ≡ true → Begins n → Built k c n.reading → Built k c (plainly (isa j) (codes "object" ∷ []) (codes "?" ∷ []) n)
predicate_told k c n j below begins b =
    plain_told k c n (isa j) (plain_effect (codes "object" ∷ []) (codes "?" ∷ [])) b refl
    (record { no_primitive = λ ks. refl; new = refl; built = λ may within w. record { effect_is = refl; not_inline = refl; not_recursive = refl }; ok = and_true (nat_lt j k && true) true (and_true (nat_lt j k) true below refl) refl; accessor = no_accessor n.reading.scope.table n.word (isa j) refl }) begins

plainly_keeps : (n : Numbered) (s : Sort) (ins outs : List (List ℕ)) → Begins n → Keeps n.reading (plainly s ins outs n)
plainly_keeps n s ins outs begins = told_keeps n s (plain_effect ins outs) false false settled n.reading.arrays n.reading.first (λ none. none) begins

-- the word of a class is held under its name
class_held : (n : Numbered) (j : ℕ) → NameHeld n → WordHeld (plainly (class j) [] (codes "value" ∷ []) n).words n.reading.scope.table n.word j
class_held n j h =
    record { draft = with_told (class j) (plain_effect [] (codes "value" ∷ [])) false false settled h.draft; at = changed_here (with_told (class j) (plain_effect [] (codes "value" ∷ [])) false false settled) n.word n.reading.words h.draft h.at; sort_is = refl; late_is = refl; held = h.held }

-- the words of a class form
record IsClassWorded (c : ℕ) (n : Numbered) : Type 0 where
  built : Built (suc c) c n.reading
  held : n.reading.first ≡ None → WordHeld n.reading.words n.reading.scope.table n.word c

class_worded : (t : Tok) (r : Reading) → BuiltUp r → IsClassWorded (classes_in r) (class_words t r)
class_worded t r b =
    let c = classes_in r in
    let n = own t r in
    let d = own_built (suc c) c t r (one_class_more c c r b) in
    let named_class = plainly (class c) [] (codes "value" ∷ []) n in
    let built_class = class_told (suc c) c n c (below_next c) d.begins d.built in
    let fs = fault_if (nat_lt 0 t.place.file && nat_le most_classes (counted r.words)) TooMany t in
    let q = refused fs named_class in
    let built_then = refused_built (suc c) c named_class (fold sooner named_class.first fs) (none_before named_class.first fs) built_class in
    let p : Tok = record t { text = t.text ++ codes "?" } in
    let m = own p q in
    let e = own_built (suc c) c p q built_then in
    let all = plainly (isa c) (codes "object" ∷ []) (codes "?" ∷ []) m in
    let keeps = stays_then named_class q all (keeps_refused named_class fs) (stays_then q m.reading all e.keeps (plainly_keeps m (isa c) (codes "object" ∷ []) (codes "?" ∷ []) e.begins)) in
    record {
      built = predicate_told (suc c) c m c (below_next c) e.begins e.built;
      held = λ none. word_kept named_class.words all.words named_class.scope.table all.scope.table n.word c keeps.words keeps.table (class_held n c (d.name_held (keeps.first none)));
    }

class_form_built : (t : Tok) (searched : List Tok) (names : Scope → Named) (r : Reading) → ((s : Scope) → own_few (names s) ≡ true) → BuiltUp r → BuiltUp (class_form t searched names r)
class_form_built t searched names r few b =
    let c = classes_in r in
    let n = class_words t r in
    let w = class_worded t r b in
    let fs = search_faults n.reading.scope searched in
    let d : NewClass = record { tok = t; word = n.word; names = names n.reading.scope } in
    up (suc c) (class_form t searched names r) (with_class (suc c) c n.reading d (fold sooner n.reading.first fs) (none_before n.reading.first fs) (few n.reading.scope) w.held w.built)

-- Accessors.

record IsAccessor (s : Sort) (ins outs : List (List ℕ)) (text : List ℕ) : Type 0 where
  no_primitive : (ks : List ℕ) → numbers_before s ks ≡ ks
  no_arrays : names_by s ≡ []
  new : is_new_sort s ≡ true
  built : (may : ℕ → Bool) (d : WordDef) → IsSortOf may (record d { sort = s; effect = plain_effect ins outs; inline = false; recursive = false }) s
  ok : (k : ℕ) → ((class_in k s && late_in s settled) && nat_le (name_count (plain_effect ins outs)) 65) ≡ true
  text_is : accessor_text s ≡ Some text

making_built : (k c : ℕ) (t : Tok) (s : Sort) (ins outs : List (List ℕ)) (r : Reading) (es : List Entry) → IsAccessor s ins outs t.text → holders r.scope.table (codes "accessors") t.text ≡ es → Built k c r → Built k c (making t s ins outs r es)
making_built k c t s ins outs r (e ∷ es) a held b = b
making_built k c t s ins outs r [] a held b =
    let n = in_table (codes "accessors") t true (added (codes "accessors") t r) in
    let d = new_defined k c (codes "accessors") t r held b in
    subst (λ (es : List Entry). Built k c (plainly s ins outs (defining (codes "accessors") t r es))) (sym held)
    (plain_told k c n s (plain_effect ins outs) d.built a.no_arrays
    (record {
      no_primitive = a.no_primitive;
      new = a.new;
      built = λ may within w. a.built may w;
      ok = a.ok k;
      accessor = λ name is. subst (λ (x : List ℕ). word_held n.reading.scope.table (codes "accessors") x ≡ Some n.word) (the_text name (sym a.text_is ∙ is)) (held_new r.scope.table _ held);
    }) d.begins)
  where
    the_text : (name : List ℕ) → Some t.text ≡ Some name → t.text ≡ name
    the_text name e = cc

accessor_built : (k c : ℕ) (t : Tok) (s : Sort) (ins outs : List (List ℕ)) (r : Reading) → IsAccessor s ins outs t.text → Built k c r → Built k c (accessor t s ins outs r)
accessor_built k c t s ins outs r a b = making_built k c t s ins outs r (holders r.scope.table (codes "accessors") t.text) a refl b

slot_built : (k c : ℕ) (r : Reading) (t : Tok) → Built k c r → Built k c (with_slot r t)
slot_built k c r t b =
    let one = accessor_built k c (record t { text = t.text ++ codes ">>" }) (getter t.text) (codes "object" ∷ []) (codes "value" ∷ []) r (record { no_primitive = λ ks. refl; no_arrays = refl; new = refl; built = λ may d. record { effect_is = refl; not_inline = refl; not_recursive = refl }; ok = λ j. refl; text_is = refl }) b in
    let two = accessor_built k c (record t { text = codes ">>" ++ t.text }) (setter t.text) (codes "object" ∷ codes "value" ∷ []) (codes "object" ∷ []) _ (record { no_primitive = λ ks. refl; no_arrays = refl; new = refl; built = λ may d. record { effect_is = refl; not_inline = refl; not_recursive = refl }; ok = λ j. refl; text_is = refl }) one in
    accessor_built k c (record t { text = t.text ++ codes "<<" }) (putter t.text) (codes "value" ∷ codes "object" ∷ []) [] _ (record { no_primitive = λ ks. refl; no_arrays = refl; new = refl; built = λ may d. record { effect_is = refl; not_inline = refl; not_recursive = refl }; ok = λ j. refl; text_is = refl }) two

-- Forms.

abbrev pub IsPlainForm : Form → Type 0
IsPlainForm (f_in v) = Unit {0}
IsPlainForm (f_use v) = Unit {0}
IsPlainForm (f_using vs) = Unit {0}
IsPlainForm (f_from v ns) = Unit {0}
IsPlainForm (f_qualified v p) = Unit {0}
IsPlainForm f_private = Unit {0}
IsPlainForm f_public = Unit {0}
IsPlainForm (f_defer n) = Unit {0}
IsPlainForm (f_symbol n) = Unit {0}
IsPlainForm (f_main n) = Unit {0}
IsPlainForm (f_define n e ns inline recursive) = AreReadPlain ns × IsFewDeclared e inline recursive
IsPlainForm (f_tuple n parent slots) = nat_le (length slots) 64 ≡ true
IsPlainForm (f_union n members) = Unit {0}
IsPlainForm (f_single n) = Unit {0}
IsPlainForm (f_generic n e) = nat_le (name_count e) 65 ≡ true
IsPlainForm (f_method x g ns) = AreReadPlain ns
IsPlainForm (f_items ns) = AreReadPlain ns
IsPlainForm _ = ⊥

pub take_built : (form : Form) (r : Reading) → IsPlainForm form → BuiltUp r → BuiltUp (take form r)
take_built (f_in v) r p b = scoped_built (classes_in r) (classes_in r) r (entered v.text r.scope) b (record { table = b.scope.table; brought = b.scope.brought }) refl
take_built (f_use v) r p b = up (classes_in r) _ (use_built (classes_in r) (classes_in r) r v b)
take_built (f_using vs) r p b = up (classes_in r) _ (fold_built (classes_in r) (classes_in r) use_one (use_built (classes_in r) (classes_in r)) vs r b)
take_built (f_from v ns) r p b =
    let c = classes_in r in
    up c (take (f_from v ns) r)
    (reading_if c c (fold (bring_one v.text) r ns) (refused (fault NoVocab v ∷ []) r) (exists r.scope v.text) (fold_built c c (bring_one v.text) (bring_built c c v.text) ns r b) (one_refused c c r (fault NoVocab v) b))
take_built (f_qualified v p) r q b =
    let c = classes_in r in
    up c (take (f_qualified v p) r)
    (reading_if c c (scoped (bringing (prefixed v.text p.text)) r) (refused (fault NoVocab v ∷ []) r) (exists r.scope v.text)
    (scoped_built c c r (bringing (prefixed v.text p.text) r.scope) b (record { table = b.scope.table; brought = b.scope.brought }) refl)
    (one_refused c c r (fault NoVocab v) b))
take_built f_private r p b = scoped_built (classes_in r) (classes_in r) r _ b (record { table = b.scope.table; brought = b.scope.brought }) refl
take_built f_public r p b = scoped_built (classes_in r) (classes_in r) r _ b (record { table = b.scope.table; brought = b.scope.brought }) refl
take_built (f_defer n) r p b = up (classes_in r) _ (deferring_built (classes_in r) (classes_in r) n r (holders r.scope.table (home r.scope) n.text) b)
take_built (f_symbol n) r p b = up (classes_in r) _ (symbol_built (classes_in r) (classes_in r) n r b)
take_built (f_main n) r p b = up (classes_in r) _ (main_built (classes_in r) (classes_in r) n r b)
take_built (f_define n e ns inline recursive) r p b = up (classes_in r) _ (define_built (classes_in r) (classes_in r) n e ns inline recursive r p.0 p.1 b)
take_built (f_tuple n parent slots) r p b =
    let q = class_form n (option_list parent) (λ s. a_tuple (option_map (ref s) parent) slots) r in
    let mid = class_form_built n (option_list parent) (λ s. a_tuple (option_map (ref s) parent) slots) r (λ s. p) b in
    up (classes_in q) _ (fold_built (classes_in q) (classes_in q) with_slot (slot_built (classes_in q) (classes_in q)) slots q mid)
take_built (f_union n members) r p b = class_form_built n members (λ s. a_union (map (ref s) members)) r (λ s. refl) b
take_built (f_single n) r p b = class_form_built n [] (λ s. a_single) r (λ s. refl) b
take_built (f_generic n e) r p b = up (classes_in r) _ (generic_built (classes_in r) (classes_in r) n e r p b)
take_built (f_method x g ns) r p b = up (classes_in r) _ (method_built (classes_in r) (classes_in r) x g ns r p b)
take_built (f_items ns) r p b = up (classes_in r) _ (items_built (classes_in r) (classes_in r) ns r p b)
take_built form r p b = absurd p

pub begun_built : (r : Reading) → BuiltUp r → BuiltUp (scoped begun r)
begun_built r b = scoped_built (classes_in r) (classes_in r) r (begun r.scope) b (record { table = b.scope.table; brought = tt }) refl
