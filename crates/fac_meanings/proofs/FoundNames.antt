-- That a name finds what it finds among the forms before it.
use Rattle.std.specs.Prelude.{ℕ, ◌≡◌, List, [], ◌∷◌, ◌++◌, map, length, fold, Option, Some, None, Bool, true, false, ◌&&◌, ◌||◌, ◌+◌, nat_lt, nat_le, codes, if◌then◌else◌}
use Rattle.std.proofs.Common.{refl, ap, sym, ◌∙◌, cond, subst}
use Rattle.std.proofs.lemmas.Slice.Eq.{bytes_eq-Decides}
use Rattle.std.specs.List.{list_any}
use Rattle.std.specs.Option.{option_map}
use Rattle.std.specs.Str.{bytes_eq}
use Rattle.fac_base.specs.Signatures.{Signature}
use Rattle.fac_lang.specs.declared.program.Sort.{Sort}
use Rattle.fac_lang.specs.declared.program.Sort.TheVariants.{Itself as itself, Class as class, Isa as isa, Getter as getter, Setter as setter, Putter as putter, Generic as generic}
use Rattle.fac_lang.specs.Whole.{plain_effect}
use Rattle.fac_source.specs.declared.refusal.NameFault.{NameFault}
use Rattle.fac_source.specs.declared.refusal.NameKind.TheVariants.{Unknown, Twice, NoVocab, TooMany}
use Rattle.fac_source.specs.declared.tree.Form.{Form as Flat}
use Rattle.fac_source.specs.Refusals.{fault, fault_if, sooner}
use Rattle.fac_source.specs.Toks.{is_among, texts_of}
use Rattle.fac_items.specs.Written.{Tok, Nodes, Form, f_in, f_use, f_using, f_from, f_qualified, f_private, f_public, f_defer, f_symbol, f_main, f_constant, f_define, f_locals, f_tuple, f_union, f_single, f_maker, f_generic, f_method, f_items}
use Rattle.fac_items.specs.Readings.{read_form, read_items}
use Rattle.fac_items.specs.Items.{search_fault, search_faults, ref, is_cond, items_faults}
use Rattle.fac_vocab.specs.declared.entry.Entry.{Entry}
use Rattle.fac_vocab.specs.declared.brought.Brought.{Brought}
use Rattle.fac_vocab.specs.declared.brought.Brought.TheVariants.{Named as named, Prefixed as prefixed}
use Rattle.fac_vocab.specs.Scopes.{Scope, begun, bringing, companion, all_used, entered, exists, found, given_by, holders, home, latest, now_defined, only_one, or_else, the, Found, using_vocab, with_entry, with_vocab, word_held}
use Rattle.fac_endings.specs.declared.draft.Late.{Late}
use Rattle.fac_endings.specs.declared.draft.Late.TheVariants.{Settled as settled}
use Rattle.fac_endings.specs.declared.draft.Named.{Named}
use Rattle.fac_endings.specs.declared.draft.Named.TheVariants.{Tuple as a_tuple, Union as a_union, Single as a_single}
use Rattle.fac_names.specs.Forms.{Reading, Numbered, added, defining, defined, deferring, told, own, plainly, refused, scoped, take, use_one, bringing_one, bring_one, class_words, class_form, making, accessor, with_slot, most_classes, counted, option_list, at_place, changed}
use Rattle.fac_names.specs.FromFlat.{form_of}
use Rattle.fac_names.specs.TakenForms.{take_flat, take_front}
use Rattle.fac_meanings.specs.SearchOrder.{current_at, used_at, brought_at, found_at, latest_first, NamesAreFound, FormsDefine, NamesKeepWords}
use Rattle.fac_names.proofs.DefinedNames.{none_before}
use Rattle.fac_known.proofs.Growing.{read_for}
use Rattle.fac_names.proofs.HeldNames.{KeepsHeld, held_same, held_with, held_defined, held_new}

-- What a file uses stays as it is, and the table keeps its names.
record Stays (r q : Reading) : Type 0 where
  pub current_is : q.scope.current ≡ r.scope.current
  pub used_are : q.scope.used ≡ r.scope.used
  pub brought_are : q.scope.brought ≡ r.scope.brought
  pub table : KeepsHeld r.scope.table q.scope.table
  pub first : q.first ≡ None → r.first ≡ None

-- the scope stays as a whole
record Unscoped (r q : Reading) : Type 0 where
  pub scope_is : q.scope ≡ r.scope
  pub first : q.first ≡ None → r.first ≡ None

stays : (r q : Reading) → Unscoped r q → Stays r q
stays r q u = record { current_is = ap (λ (s : Scope). s.current) u.scope_is; used_are = ap (λ (s : Scope). s.used) u.scope_is; brought_are = ap (λ (s : Scope). s.brought) u.scope_is; table = subst (λ (s : Scope). KeepsHeld r.scope.table s.table) (sym u.scope_is) (held_same r.scope.table); first = u.first }

stays_same : (r : Reading) → Stays r r
stays_same r = record { current_is = refl; used_are = refl; brought_are = refl; table = held_same r.scope.table; first = λ none. none }

stays_then : (p q r : Reading) → Stays p q → Stays q r → Stays p r
stays_then p q r h k = record { current_is = k.current_is ∙ h.current_is; used_are = k.used_are ∙ h.used_are; brought_are = k.brought_are ∙ h.brought_are; table = λ v n w is. k.table v n w (h.table v n w is); first = λ none. h.first (k.first none) }

stays_fold : {A : Type 0} (f : Reading → A → Reading) → ((r : Reading) (a : A) → Stays r (f r a)) → (xs : List A) (r : Reading) → Stays r (fold f r xs)
stays_fold f h [] r = stays_same r
stays_fold f h (x ∷ xs) r = stays_then r (f r x) (fold f (f r x) xs) (h r x) (stays_fold f h xs (f r x))

refused_stays : (fs : List NameFault) (r : Reading) → Stays r (refused fs r)
refused_stays fs r = stays r (refused fs r) (record { scope_is = refl; first = none_before r.first fs })

added_stays : (vocab : List ℕ) (t : Tok) (r : Reading) → Stays r (added vocab t r).reading
added_stays vocab t r = stays r (added vocab t r).reading (record { scope_is = refl; first = λ none. none })

entry_stays : (vocab : List ℕ) (t : Tok) (w : ℕ) (b : Bool) (r : Reading) → Stays r (scoped (with_entry vocab t.text w b) r)
entry_stays vocab t w b r = record { current_is = refl; used_are = refl; brought_are = refl; table = held_with r.scope.table (record { vocab = vocab; name = t.text; word = w; is_defined = b }); first = λ none. none }

stays_if : (r : Reading) (n m : Numbered) (b : Bool) → Stays r n.reading → Stays r m.reading → Stays r (if b then n else m).reading
stays_if r n m true g h = g
stays_if r n m false g h = h

defining_stays : (vocab : List ℕ) (t : Tok) (r : Reading) (es : List Entry) → Stays r (defining vocab t r es).reading
defining_stays vocab t r [] = stays_then r (added vocab t r).reading (scoped (with_entry vocab t.text (length r.words) true) (added vocab t r).reading) (added_stays vocab t r) (entry_stays vocab t (length r.words) true (added vocab t r).reading)
defining_stays vocab t r (e ∷ es) =
    let q : Reading = record r { scope = record r.scope { table = now_defined e.vocab e.name r.scope.table }; words = changed (at_place t.place) e.word r.words } in
    stays_if r (added vocab t (refused (fault Twice t ∷ []) r)) (record { word = e.word; reading = q }) (list_any (λ (f : Entry). f.is_defined) (e ∷ es))
    (stays_then r (refused (fault Twice t ∷ []) r) (added vocab t (refused (fault Twice t ∷ []) r)).reading (refused_stays (fault Twice t ∷ []) r) (added_stays vocab t (refused (fault Twice t ∷ []) r)))
    (record { current_is = refl; used_are = refl; brought_are = refl; table = held_defined r.scope.table e.vocab e.name; first = λ none. none })

defined_stays : (vocab : List ℕ) (t : Tok) (r : Reading) → Stays r (defined vocab t r).reading
defined_stays vocab t r = defining_stays vocab t r (holders r.scope.table vocab t.text)

deferring_stays : (t : Tok) (r : Reading) (es : List Entry) → Stays r (deferring t r es)
deferring_stays t r [] = stays_then r (added (home r.scope) t r).reading (scoped (with_entry (home r.scope) t.text (length r.words) false) (added (home r.scope) t r).reading) (added_stays (home r.scope) t r) (entry_stays (home r.scope) t (length r.words) false (added (home r.scope) t r).reading)
deferring_stays t r (e ∷ es) = refused_stays (fault Twice t ∷ []) r

told_stays : (sort : Sort) (effect : Signature) (inline recursive : Bool) (late : Late) (n : Numbered) → Stays n.reading (told sort effect inline recursive late n)
told_stays sort effect inline recursive late n = stays n.reading (told sort effect inline recursive late n) (record { scope_is = refl; first = λ none. none })

own_stays : (t : Tok) (r : Reading) → Stays r (own t r).reading
own_stays t r = defined_stays (home r.scope) t r

own_told : (t : Tok) (r : Reading) (sort : Sort) (effect : Signature) (inline recursive : Bool) (late : Late) → Stays r (told sort effect inline recursive late (own t r))
own_told t r sort effect inline recursive late = stays_then r (own t r).reading (told sort effect inline recursive late (own t r)) (own_stays t r) (told_stays sort effect inline recursive late (own t r))

read_for_stays : (ns : Nodes) (r : Reading) → Stays r (read_for ns r)
read_for_stays ns r = stays r (read_for ns r) (record { scope_is = refl; first = none_before r.first (items_faults r.scope [] (read_items (is_cond r.scope) [] ns)) })

making_stays : (t : Tok) (sort : Sort) (ins outs : List (List ℕ)) (r : Reading) (es : List Entry) → Stays r (making t sort ins outs r es)
making_stays t sort ins outs r [] = let n = defined (codes "accessors") t r in stays_then r n.reading (plainly sort ins outs n) (defined_stays (codes "accessors") t r) (told_stays sort (plain_effect ins outs) false false settled n)
making_stays t sort ins outs r (e ∷ es) = stays_same r

accessor_stays : (t : Tok) (sort : Sort) (ins outs : List (List ℕ)) (r : Reading) → Stays r (accessor t sort ins outs r)
accessor_stays t sort ins outs r = making_stays t sort ins outs r (holders r.scope.table (codes "accessors") t.text)

with_slot_stays : (r : Reading) (t : Tok) → Stays r (with_slot r t)
with_slot_stays r t =
    let a = accessor (record t { text = t.text ++ codes ">>" }) (getter t.text) (codes "object" ∷ []) (codes "value" ∷ []) r in
    let b = accessor (record t { text = codes ">>" ++ t.text }) (setter t.text) (codes "object" ∷ codes "value" ∷ []) (codes "object" ∷ []) a in
    stays_then r a (with_slot r t) (accessor_stays (record t { text = t.text ++ codes ">>" }) (getter t.text) (codes "object" ∷ []) (codes "value" ∷ []) r) (
    stays_then a b (with_slot r t) (accessor_stays (record t { text = codes ">>" ++ t.text }) (setter t.text) (codes "object" ∷ codes "value" ∷ []) (codes "object" ∷ []) a)
    (accessor_stays (record t { text = t.text ++ codes "<<" }) (putter t.text) (codes "value" ∷ codes "object" ∷ []) [] b))

-- behind the own name of a class form
class_words_rest : (t : Tok) (r : Reading) → Stays (own t r).reading (class_words t r).reading
class_words_rest t r =
    let c = length r.old_classes + length r.classes in
    let o = own t r in
    let a = plainly (class c) [] (codes "value" ∷ []) o in
    let many = fault_if (nat_lt 0 t.place.file && nat_le most_classes (counted r.words)) TooMany t in
    let b = refused many a in
    let ask : Tok = record t { text = t.text ++ codes "?" } in
    stays_then o.reading a (class_words t r).reading (told_stays (class c) (plain_effect [] (codes "value" ∷ [])) false false settled o) (
    stays_then a b (class_words t r).reading (refused_stays many a) (own_told ask b (isa c) (plain_effect (codes "object" ∷ []) (codes "?" ∷ [])) false false settled))

class_form_rest : (t : Tok) (searched : List Tok) (names : Scope → Named) (r : Reading) → Stays (own t r).reading (class_form t searched names r)
class_form_rest t searched names r =
    let n = class_words t r in
    stays_then (own t r).reading n.reading (class_form t searched names r) (class_words_rest t r) (stays n.reading (class_form t searched names r) (record { scope_is = refl; first = none_before n.reading.first (search_faults n.reading.scope searched) }))

class_form_stays : (t : Tok) (searched : List Tok) (names : Scope → Named) (r : Reading) → Stays r (class_form t searched names r)
class_form_stays t searched names r = stays_then r (own t r).reading (class_form t searched names r) (own_stays t r) (class_form_rest t searched names r)

-- A form keeps the names of the table, and where nothing is refused behind it nothing was before it.
record Goes (r q : Reading) : Type 0 where
  pub table : KeepsHeld r.scope.table q.scope.table
  pub first : q.first ≡ None → r.first ≡ None

goes : (r q : Reading) → Stays r q → Goes r q
goes r q k = record { table = k.table; first = k.first }

goes_then : (p q r : Reading) → Goes p q → Goes q r → Goes p r
goes_then p q r h k = record { table = λ v n w is. k.table v n w (h.table v n w is); first = λ none. h.first (k.first none) }

goes_scoped : (f : Scope → Scope) (r : Reading) → (f r.scope).table ≡ r.scope.table → Goes r (scoped f r)
goes_scoped f r e = record { table = subst (KeepsHeld r.scope.table) (sym e) (held_same r.scope.table); first = λ none. none }

goes_if : (r p q : Reading) (b : Bool) → Goes r p → Goes r q → Goes r (if b then p else q)
goes_if r p q true g h = g
goes_if r p q false g h = h

goes_fold : {A : Type 0} (f : Reading → A → Reading) → ((r : Reading) (a : A) → Goes r (f r a)) → (xs : List A) (r : Reading) → Goes r (fold f r xs)
goes_fold f h [] r = goes r r (stays_same r)
goes_fold f h (x ∷ xs) r = goes_then r (f r x) (fold f (f r x) xs) (h r x) (goes_fold f h xs (f r x))

use_goes : (r : Reading) (v : Tok) → Goes r (use_one r v)
use_goes r v = goes_if r (scoped (using_vocab v.text) r) (refused (fault NoVocab v ∷ []) r) (exists r.scope v.text) (goes_scoped (using_vocab v.text) r refl) (goes r (refused (fault NoVocab v ∷ []) r) (refused_stays (fault NoVocab v ∷ []) r))

bringing_goes : (t : Tok) (r : Reading) (o : Option ℕ) → Goes r (bringing_one t r o)
bringing_goes t r (Some w) = goes_scoped (bringing (named t.text w)) r refl
bringing_goes t r None = goes r (refused (fault Unknown t ∷ []) r) (refused_stays (fault Unknown t ∷ []) r)

-- what a form that defines something does to what a file uses
abbrev Defines : Form → Type 0
Defines (f_in v) = ⊥
Defines (f_use v) = ⊥
Defines (f_using vs) = ⊥
Defines (f_from v ns) = ⊥
Defines (f_qualified v p) = ⊥
Defines f_private = ⊥
Defines f_public = ⊥
Defines f = Unit {0}

take_stays : (f : Form) (r : Reading) → Defines f → Stays r (take f r)
take_stays (f_in v) r d = absurd d
take_stays (f_use v) r d = absurd d
take_stays (f_using vs) r d = absurd d
take_stays (f_from v ns) r d = absurd d
take_stays (f_qualified v p) r d = absurd d
take_stays f_private r d = absurd d
take_stays f_public r d = absurd d
take_stays (f_defer n) r d = deferring_stays n r (holders r.scope.table (home r.scope) n.text)
take_stays (f_symbol n) r d = own_told n r itself (plain_effect [] (codes "value" ∷ [])) false false settled
take_stays (f_main n) r d = stays r (take (f_main n) r) (record { scope_is = refl; first = none_before r.first (search_fault r.scope n) })
take_stays (f_constant n l) r d = stays_same r
take_stays (f_locals n inputs e ns inline recursive) r d = stays_same r
take_stays (f_maker n c) r d = stays_same r
take_stays (f_define n e ns inline recursive) r d =
    let o = own n r in
    let q = read_for ns o.reading in
    stays_then r o.reading (take (f_define n e ns inline recursive) r) (own_stays n r) (stays_then o.reading q (take (f_define n e ns inline recursive) r) (read_for_stays ns o.reading) (stays q (take (f_define n e ns inline recursive) r) (record { scope_is = refl; first = λ none. none })))
take_stays (f_tuple n parent slots) r d =
    let c = class_form n (option_list parent) (λ s. a_tuple (option_map (ref s) parent) slots) r in
    stays_then r c (fold with_slot c slots) (class_form_stays n (option_list parent) (λ s. a_tuple (option_map (ref s) parent) slots) r) (stays_fold with_slot with_slot_stays slots c)
take_stays (f_union n members) r d = class_form_stays n members (λ s. a_union (map (ref s) members)) r
take_stays (f_single n) r d = class_form_stays n [] (λ s. a_single) r
take_stays (f_generic n e) r d = own_told n r generic e false false settled
take_stays (f_method c g ns) r d =
    let fs = search_faults r.scope (c ∷ g ∷ []) in
    let p = refused fs r in
    let o = added [] g p in
    let q = read_for ns o.reading in
    stays_then r p (take (f_method c g ns) r) (refused_stays fs r) (stays_then p o.reading (take (f_method c g ns) r) (added_stays [] g p) (stays_then o.reading q (take (f_method c g ns) r) (read_for_stays ns o.reading) (stays q (take (f_method c g ns) r) (record { scope_is = refl; first = λ none. none }))))
take_stays (f_items ns) r d = let q = read_for ns r in stays_then r q (take (f_items ns) r) (read_for_stays ns r) (stays q (take (f_items ns) r) (record { scope_is = refl; first = λ none. none }))

take_goes : (f : Form) (r : Reading) → Goes r (take f r)
take_goes (f_in v) r = goes_scoped (entered v.text) r refl
take_goes (f_use v) r = use_goes r v
take_goes (f_using vs) r = goes_fold use_one use_goes vs r
take_goes (f_from v ns) r = goes_if r (fold (bring_one v.text) r ns) (refused (fault NoVocab v ∷ []) r) (exists r.scope v.text) (goes_fold (bring_one v.text) (λ q t. bringing_goes t q (word_held q.scope.table v.text t.text)) ns r) (goes r (refused (fault NoVocab v ∷ []) r) (refused_stays (fault NoVocab v ∷ []) r))
take_goes (f_qualified v p) r = goes_if r (scoped (bringing (prefixed v.text p.text)) r) (refused (fault NoVocab v ∷ []) r) (exists r.scope v.text) (goes_scoped (bringing (prefixed v.text p.text)) r refl) (goes r (refused (fault NoVocab v ∷ []) r) (refused_stays (fault NoVocab v ∷ []) r))
take_goes f_private r = record { table = held_same r.scope.table; first = λ none. none }
take_goes f_public r = record { table = held_same r.scope.table; first = λ none. none }
take_goes (f_defer n) r = goes r _ (take_stays (f_defer n) r tt)
take_goes (f_symbol n) r = goes r _ (take_stays (f_symbol n) r tt)
take_goes (f_main n) r = goes r _ (take_stays (f_main n) r tt)
take_goes (f_constant n l) r = goes r _ (take_stays (f_constant n l) r tt)
take_goes (f_locals n inputs e ns inline recursive) r = goes r _ (take_stays (f_locals n inputs e ns inline recursive) r tt)
take_goes (f_maker n c) r = goes r _ (take_stays (f_maker n c) r tt)
take_goes (f_define n e ns inline recursive) r = goes r _ (take_stays (f_define n e ns inline recursive) r tt)
take_goes (f_tuple n parent slots) r = goes r _ (take_stays (f_tuple n parent slots) r tt)
take_goes (f_union n members) r = goes r _ (take_stays (f_union n members) r tt)
take_goes (f_single n) r = goes r _ (take_stays (f_single n) r tt)
take_goes (f_generic n e) r = goes r _ (take_stays (f_generic n e) r tt)
take_goes (f_method c g ns) r = goes r _ (take_stays (f_method c g ns) r tt)
take_goes (f_items ns) r = goes r _ (take_stays (f_items ns) r tt)

-- What the forms say.
module _ (name : List ℕ) (T : List Entry) where
  record AsSaid (before : List Form) (q : Reading) : Type 0 where
    pub current_is : q.scope.current ≡ current_at before
    pub used_are : q.scope.used ≡ used_at before
    pub brought_is : latest T name q.scope.brought ≡ brought_at T name before

  said_stays : (before : List Form) (r q : Reading) → Stays r q → AsSaid before r → AsSaid before q
  said_stays before r q k h = record { current_is = k.current_is ∙ h.current_is; used_are = k.used_are ∙ h.used_are; brought_is = ap (latest T name) k.brought_are ∙ h.brought_is }

  -- where nothing is refused, what is asked for is there
  not_refused : (o : Option NameFault) (f : NameFault) → fold sooner o (f ∷ []) ≡ None → ⊥
  not_refused None f h = cc
  not_refused (Some g) f h = no_fault (none_before (Some g) (f ∷ []) h)
    where
      no_fault : Some g ≡ None → ⊥
      no_fault e = cc

  -- the vocabularies of a `USING:`
  record Uses (us : List (List ℕ)) (r q : Reading) : Type 0 where
    pub current_is : q.scope.current ≡ r.scope.current
    pub used_are : q.scope.used ≡ us
    pub brought_are : q.scope.brought ≡ r.scope.brought

  used_one : (r : Reading) (v : Tok) → (use_one r v).first ≡ None → Uses (with_vocab r.scope.used v.text) r (use_one r v)
  used_one r v none = go (exists r.scope v.text) none
    where
      go : (b : Bool) → (cond b (scoped (using_vocab v.text) r) (refused (fault NoVocab v ∷ []) r)).first ≡ None → Uses (with_vocab r.scope.used v.text) r (cond b (scoped (using_vocab v.text) r) (refused (fault NoVocab v ∷ []) r))
      go true h = record { current_is = refl; used_are = refl; brought_are = refl }
      go false h = absurd (not_refused r.first (fault NoVocab v) h)

  use_first : (r : Reading) (v : Tok) → (use_one r v).first ≡ None → r.first ≡ None
  use_first r v none = go (exists r.scope v.text) none
    where
      go : (b : Bool) → (cond b (scoped (using_vocab v.text) r) (refused (fault NoVocab v ∷ []) r)).first ≡ None → r.first ≡ None
      go true h = h
      go false h = none_before r.first (fault NoVocab v ∷ []) h

  uses_first : (vs : List Tok) (r : Reading) → (fold use_one r vs).first ≡ None → r.first ≡ None
  uses_first [] r none = none
  uses_first (v ∷ vs) r none = use_first r v (uses_first vs (use_one r v) none)

  used_all : (vs : List Tok) (r : Reading) → (fold use_one r vs).first ≡ None → Uses (fold with_vocab r.scope.used (texts_of vs)) r (fold use_one r vs)
  used_all [] r none = record { current_is = refl; used_are = refl; brought_are = refl }
  used_all (v ∷ vs) r none =
      let one = used_one r v (uses_first vs (use_one r v) none) in
      let rest = used_all vs (use_one r v) none in
      record { current_is = rest.current_is ∙ one.current_is; used_are = rest.used_are ∙ ap (λ (us : List (List ℕ)). fold with_vocab us (texts_of vs)) one.used_are; brought_are = rest.brought_are ∙ one.brought_are }

  -- the names of a `FROM:`
  record Brings (v : List ℕ) (names : List (List ℕ)) (r q : Reading) : Type 0 where
    pub current_is : q.scope.current ≡ r.scope.current
    pub used_are : q.scope.used ≡ r.scope.used
    pub brought_is : latest T name q.scope.brought ≡ cond (is_among name names) (word_held T v name) (latest T name r.scope.brought)

  brought_first : (v : List ℕ) (ns : List Tok) (r : Reading) → (fold (bring_one v) r ns).first ≡ None → r.first ≡ None
  brought_first v [] r none = none
  brought_first v (t ∷ ns) r none = go (word_held r.scope.table v t.text) (brought_first v ns (bring_one v r t) none)
    where
      go : (o : Option ℕ) → (bringing_one t r o).first ≡ None → r.first ≡ None
      go (Some w) h = h
      go None h = none_before r.first (fault Unknown t ∷ []) h

  -- bringing changes no table
  same_table : (t : Tok) (r : Reading) (o : Option ℕ) → (bringing_one t r o).scope.table ≡ r.scope.table
  same_table t r (Some w) = refl
  same_table t r None = refl

  bring_table : (v : List ℕ) (ns : List Tok) (r : Reading) → (fold (bring_one v) r ns).scope.table ≡ r.scope.table
  bring_table v [] r = refl
  bring_table v (t ∷ ns) r = bring_table v ns (bring_one v r t) ∙ same_table t r (word_held r.scope.table v t.text)

  given_name : (v : List ℕ) (t : Tok) (w : ℕ) (bs : List Brought) → word_held T v t.text ≡ Some w → latest T name (named t.text w ∷ bs) ≡ cond (bytes_eq name t.text) (word_held T v name) (latest T name bs)
  given_name v t w bs is = go (bytes_eq name t.text) refl
    where
      go : (b : Bool) → bytes_eq name t.text ≡ b → or_else (cond b (Some w) None) (latest T name bs) ≡ cond b (word_held T v name) (latest T name bs)
      go true e = sym (ap (word_held T v) ((bytes_eq-Decides name t.text).0 e) ∙ is)
      go false e = refl

  choices : (a b : Bool) (x y : Option ℕ) → cond a x (cond b x y) ≡ cond (b || a) x y
  choices true true x y = refl
  choices true false x y = refl
  choices false true x y = refl
  choices false false x y = refl

  brought_one : (v : List ℕ) (t : Tok) (r : Reading) (o : Option ℕ) → KeepsHeld r.scope.table T → word_held r.scope.table v t.text ≡ o → (bringing_one t r o).first ≡ None → Brings v (t.text ∷ []) r (bringing_one t r o)
  brought_one v t r (Some w) keeps is none = record { current_is = refl; used_are = refl; brought_is = given_name v t w r.scope.brought (keeps v t.text w is) ∙ or_false (bytes_eq name t.text) }
    where
      or_false : (b : Bool) → cond b (word_held T v name) (latest T name r.scope.brought) ≡ cond (b || false) (word_held T v name) (latest T name r.scope.brought)
      or_false true = refl
      or_false false = refl
  brought_one v t r None keeps is none = absurd (not_refused r.first (fault Unknown t) none)

  brought_all : (v : List ℕ) (ns : List Tok) (r : Reading) → KeepsHeld r.scope.table T → (fold (bring_one v) r ns).first ≡ None → Brings v (texts_of ns) r (fold (bring_one v) r ns)
  brought_all v [] r keeps none = record { current_is = refl; used_are = refl; brought_is = refl }
  brought_all v (t ∷ ns) r keeps none =
      let q = bring_one v r t in
      let one = brought_one v t r (word_held r.scope.table v t.text) keeps refl (brought_first v ns q none) in
      let keeps_then : KeepsHeld q.scope.table T = subst (λ (xs : List Entry). KeepsHeld xs T) (sym (same_table t r (word_held r.scope.table v t.text))) keeps in
      let rest = brought_all v ns q keeps_then none in
      record {
        current_is = rest.current_is ∙ one.current_is;
        used_are = rest.used_are ∙ one.used_are;
        brought_is =
            rest.brought_is
            ∙ ap (cond (is_among name (texts_of ns)) (word_held T v name)) (one.brought_is ∙ false_or (bytes_eq name t.text))
            ∙ choices (is_among name (texts_of ns)) (bytes_eq name t.text) (word_held T v name) (latest T name r.scope.brought);
      }
    where
      false_or : (b : Bool) → cond (b || false) (word_held T v name) (latest T name r.scope.brought) ≡ cond b (word_held T v name) (latest T name r.scope.brought)
      false_or true = refl
      false_or false = refl

  -- Forms that change what is used.
  said_use : (before : List Form) (v : Tok) (r : Reading) → (use_one r v).first ≡ None → AsSaid before r → AsSaid (f_use v ∷ before) (use_one r v)
  said_use before v r none h = let k = used_one r v none in record { current_is = k.current_is ∙ h.current_is; used_are = k.used_are ∙ ap (λ (us : List (List ℕ)). with_vocab us v.text) h.used_are; brought_is = ap (latest T name) k.brought_are ∙ h.brought_is }

  said_using : (before : List Form) (vs : List Tok) (r : Reading) → (fold use_one r vs).first ≡ None → AsSaid before r → AsSaid (f_using vs ∷ before) (fold use_one r vs)
  said_using before vs r none h = let k = used_all vs r none in record { current_is = k.current_is ∙ h.current_is; used_are = k.used_are ∙ ap (λ (us : List (List ℕ)). fold with_vocab us (texts_of vs)) h.used_are; brought_is = ap (latest T name) k.brought_are ∙ h.brought_is }

  said_from : (before : List Form) (v : Tok) (ns : List Tok) (r : Reading) (b : Bool) → KeepsHeld r.scope.table T → (cond b (fold (bring_one v.text) r ns) (refused (fault NoVocab v ∷ []) r)).first ≡ None → AsSaid before r → AsSaid (f_from v ns ∷ before) (cond b (fold (bring_one v.text) r ns) (refused (fault NoVocab v ∷ []) r))
  said_from before v ns r true keeps none h = let k = brought_all v.text ns r keeps none in record { current_is = k.current_is ∙ h.current_is; used_are = k.used_are ∙ h.used_are; brought_is = k.brought_is ∙ ap (cond (is_among name (texts_of ns)) (word_held T v.text name)) h.brought_is }
  said_from before v ns r false keeps none h = absurd (not_refused r.first (fault NoVocab v) none)

  said_qualified : (before : List Form) (v p : Tok) (r : Reading) (b : Bool) → (cond b (scoped (bringing (prefixed v.text p.text)) r) (refused (fault NoVocab v ∷ []) r)).first ≡ None → AsSaid before r → AsSaid (f_qualified v p ∷ before) (cond b (scoped (bringing (prefixed v.text p.text)) r) (refused (fault NoVocab v ∷ []) r))
  said_qualified before v p r true none h = record { current_is = h.current_is; used_are = h.used_are; brought_is = ap (or_else (given_by T name (prefixed v.text p.text))) h.brought_is }
  said_qualified before v p r false none h = absurd (not_refused r.first (fault NoVocab v) none)

  -- a form that says nothing of what is used
  said_defines : (before after : List Form) (r : Reading) (f : Form) → Defines f → current_at after ≡ current_at before → used_at after ≡ used_at before → brought_at T name after ≡ brought_at T name before → AsSaid before r → AsSaid after (take f r)
  said_defines before after r f d c u b h = let k = said_stays before r (take f r) (take_stays f r d) h in record { current_is = k.current_is ∙ sym c; used_are = k.used_are ∙ sym u; brought_is = k.brought_is ∙ sym b }

  -- A form more, behind which the table has what the last one has.
  said_form : (f : Form) (before : List Form) (r : Reading) → KeepsHeld r.scope.table T → (take f r).first ≡ None → AsSaid before r → AsSaid (f ∷ before) (take f r)
  said_form (f_in v) before r keeps none h = record { current_is = refl; used_are = h.used_are; brought_is = h.brought_is }
  said_form (f_use v) before r keeps none h = said_use before v r none h
  said_form (f_using vs) before r keeps none h = said_using before vs r none h
  said_form (f_from v ns) before r keeps none h = said_from before v ns r (exists r.scope v.text) keeps none h
  said_form (f_qualified v p) before r keeps none h = said_qualified before v p r (exists r.scope v.text) none h
  said_form f_private before r keeps none h = record { current_is = h.current_is; used_are = h.used_are; brought_is = h.brought_is }
  said_form f_public before r keeps none h = record { current_is = h.current_is; used_are = h.used_are; brought_is = h.brought_is }
  said_form (f_defer n) before r keeps none h = said_defines before (f_defer n ∷ before) r (f_defer n) tt refl refl refl h
  said_form (f_symbol n) before r keeps none h = said_defines before (f_symbol n ∷ before) r (f_symbol n) tt refl refl refl h
  said_form (f_main n) before r keeps none h = said_defines before (f_main n ∷ before) r (f_main n) tt refl refl refl h
  said_form (f_constant n l) before r keeps none h = said_defines before (f_constant n l ∷ before) r (f_constant n l) tt refl refl refl h
  said_form (f_locals n inputs e ns inline recursive) before r keeps none h = said_defines before (f_locals n inputs e ns inline recursive ∷ before) r (f_locals n inputs e ns inline recursive) tt refl refl refl h
  said_form (f_maker n c) before r keeps none h = said_defines before (f_maker n c ∷ before) r (f_maker n c) tt refl refl refl h
  said_form (f_define n e ns inline recursive) before r keeps none h = said_defines before (f_define n e ns inline recursive ∷ before) r (f_define n e ns inline recursive) tt refl refl refl h
  said_form (f_tuple n parent slots) before r keeps none h = said_defines before (f_tuple n parent slots ∷ before) r (f_tuple n parent slots) tt refl refl refl h
  said_form (f_union n members) before r keeps none h = said_defines before (f_union n members ∷ before) r (f_union n members) tt refl refl refl h
  said_form (f_single n) before r keeps none h = said_defines before (f_single n ∷ before) r (f_single n) tt refl refl refl h
  said_form (f_generic n e) before r keeps none h = said_defines before (f_generic n e ∷ before) r (f_generic n e) tt refl refl refl h
  said_form (f_method c g ns) before r keeps none h = said_defines before (f_method c g ns ∷ before) r (f_method c g ns) tt refl refl refl h
  said_form (f_items ns) before r keeps none h = said_defines before (f_items ns ∷ before) r (f_items ns) tt refl refl refl h

  -- All forms, in order.
  said_all : (forms : List Flat) (before : List Form) (r : Reading) → KeepsHeld (fold take_flat r forms).scope.table T → (fold take_flat r forms).first ≡ None → AsSaid before r → AsSaid (latest_first before forms) (fold take_flat r forms)
  said_all [] before r keeps none h = h
  said_all (x ∷ forms) before r keeps none h =
      let f = read_form (form_of x) in
      let q = take f r in
      let rest = goes_fold take_flat (λ (p : Reading) (y : Flat). take_goes (read_form (form_of y)) p) forms q in
      let one = take_goes f r in
      said_all forms (f ∷ before) q keeps none (said_form f before r (λ v n w is. keeps v n w (rest.table v n w (one.table v n w is))) (rest.first none) h)

-- the search at what the forms say
abbrev searched : List Entry → List ℕ → List ℕ → List (List ℕ) → Option ℕ → Found
searched table name current used brought =
    elim (or_else (word_held table current name) (or_else (word_held table (companion current) name) brought)) [
      | Some w ↦ the w
      | None ↦ only_one (all_used table name used)
    ]

same_search : (table : List Entry) (name c d : List ℕ) (us vs : List (List ℕ)) (o p : Option ℕ) → c ≡ d → us ≡ vs → o ≡ p → searched table name c us o ≡ searched table name d vs p
same_search table name c d us vs o p e f g = ap (λ (x : List ℕ). searched table name x us o) e ∙ ap (λ (xs : List (List ℕ)). searched table name d xs o) f ∙ ap (λ (x : Option ℕ). searched table name d vs x) g

-- in a scope with what these forms use, and with a table that has what they leave
found_in : (r : Reading) (forms : List Flat) (name : List ℕ) (q : Reading) → (take_front r forms).first ≡ None → Stays (take_front r forms) q → found q.scope name ≡ found_at q.scope.table name (latest_first [] forms)
unfolding found
found_in r forms name q none k =
    let T = q.scope.table in
    let said = said_all name T forms [] (scoped begun r) k.table none (record { current_is = refl; used_are = refl; brought_is = refl }) in
    same_search T name q.scope.current (current_at (latest_first [] forms)) q.scope.used (used_at (latest_first [] forms)) (latest T name q.scope.brought) (brought_at T name (latest_first [] forms)) (k.current_is ∙ said.current_is) (k.used_are ∙ said.used_are) (ap (latest T name) k.brought_are ∙ said.brought_is)

pub names_are_found : NamesAreFound
names_are_found r forms name none = let q = take_front r forms in (found_in r forms name q none (stays_same q), λ (n : Tok). found_in r forms name (own n q).reading none (own_stays n q))

pub names_keep_words : NamesKeepWords
names_keep_words r forms vocab name w h = (goes_fold take_flat (λ (p : Reading) (y : Flat). take_goes (read_form (form_of y)) p) forms (scoped begun r)).table vocab name w h

-- the word of a new name
own_new : (t : Tok) (r : Reading) → holders r.scope.table (home r.scope) t.text ≡ [] → word_held (own t r).reading.scope.table (home r.scope) t.text ≡ Some (length r.words)
own_new t r none = subst (λ (es : List Entry). word_held (defining (home r.scope) t r es).reading.scope.table (home r.scope) t.text ≡ Some (length r.words)) (sym none) (held_new r.scope.table (record { vocab = home r.scope; name = t.text; word = length r.words; is_defined = true }) none)

own_then : (t : Tok) (r q : Reading) → Stays (own t r).reading q → holders r.scope.table (home r.scope) t.text ≡ [] → word_held q.scope.table (home r.scope) t.text ≡ Some (length r.words)
own_then t r q k none = k.table (home r.scope) t.text (length r.words) (own_new t r none)

one_tok : (a b : Tok) → Some a ≡ Some b → a ≡ b
one_tok a b e = cc

named_so : (a n : Tok) (r q : Reading) → Some a ≡ Some n → (holders r.scope.table (home r.scope) a.text ≡ [] → word_held q.scope.table (home r.scope) a.text ≡ Some (length r.words)) → holders r.scope.table (home r.scope) n.text ≡ [] → word_held q.scope.table (home r.scope) n.text ≡ Some (length r.words)
named_so a n r q e = subst (λ (t : Tok). (holders r.scope.table (home r.scope) t.text ≡ [] → word_held q.scope.table (home r.scope) t.text ≡ Some (length r.words))) (one_tok a n e)

no_name : {A : Type 0} (n : Tok) → None ≡ Some n → A
no_name n e = absurd (no_tok e)
  where
    no_tok : None ≡ Some n → ⊥
    no_tok e = cc

deferring_new : (t : Tok) (r : Reading) → holders r.scope.table (home r.scope) t.text ≡ [] → word_held (take (f_defer t) r).scope.table (home r.scope) t.text ≡ Some (length r.words)
deferring_new t r none = subst (λ (es : List Entry). word_held (deferring t r es).scope.table (home r.scope) t.text ≡ Some (length r.words)) (sym none) (held_new r.scope.table (record { vocab = home r.scope; name = t.text; word = length r.words; is_defined = false }) none)

pub forms_define : FormsDefine
forms_define r (f_defer a) n e none = named_so a n r (take (f_defer a) r) e (deferring_new a r) none
forms_define r (f_symbol a) n e none = named_so a n r (take (f_symbol a) r) e (own_then a r (take (f_symbol a) r) (told_stays itself (plain_effect [] (codes "value" ∷ [])) false false settled (own a r))) none
forms_define r (f_define a effect ns inline recursive) n e none =
    let o = (own a r).reading in
    let q = read_for ns o in
    let all = take (f_define a effect ns inline recursive) r in
    named_so a n r all e (own_then a r all (stays_then o q all (read_for_stays ns o) (stays q all (record { scope_is = refl; first = λ none. none })))) none
forms_define r (f_tuple a parent slots) n e none =
    let c = class_form a (option_list parent) (λ s. a_tuple (option_map (ref s) parent) slots) r in
    let all = take (f_tuple a parent slots) r in
    named_so a n r all e (own_then a r all (stays_then (own a r).reading c all (class_form_rest a (option_list parent) (λ s. a_tuple (option_map (ref s) parent) slots) r) (stays_fold with_slot with_slot_stays slots c))) none
forms_define r (f_union a members) n e none = named_so a n r (take (f_union a members) r) e (own_then a r (take (f_union a members) r) (class_form_rest a members (λ s. a_union (map (ref s) members)) r)) none
forms_define r (f_single a) n e none = named_so a n r (take (f_single a) r) e (own_then a r (take (f_single a) r) (class_form_rest a [] (λ s. a_single) r)) none
forms_define r (f_generic a effect) n e none = named_so a n r (take (f_generic a effect) r) e (own_then a r (take (f_generic a effect) r) (told_stays generic effect false false settled (own a r))) none
forms_define r (f_in v) n e none = no_name n e
forms_define r (f_use v) n e none = no_name n e
forms_define r (f_using vs) n e none = no_name n e
forms_define r (f_from v ns) n e none = no_name n e
forms_define r (f_qualified v p) n e none = no_name n e
forms_define r f_private n e none = no_name n e
forms_define r f_public n e none = no_name n e
forms_define r (f_main m) n e none = no_name n e
forms_define r (f_constant m l) n e none = no_name n e
forms_define r (f_locals m inputs effect ns inline recursive) n e none = no_name n e
forms_define r (f_maker m c) n e none = no_name n e
forms_define r (f_method c g ns) n e none = no_name n e
forms_define r (f_items ns) n e none = no_name n e
