-- Forms change no number of what stands before them.
use Rattle.std.specs.Prelude.{ℕ, zero, suc, ◌≡◌, List, [], ◌∷◌, ◌++◌, map, length, fold, Option, Some, None, Bool, true, false, ◌&&◌, ◌+◌, nat_lt, nat_le, codes, if◌then◌else◌}
use Rattle.std.proofs.Common.{refl, ap, sym, ◌∙◌}
use Rattle.std.proofs.lemmas.List.{append_assoc, append-nil, map-append}
use Rattle.std.proofs.lemmas.List.Sums.{fold-append}
use Rattle.fac_base.specs.Signatures.{Signature}
use Rattle.fac_lang.specs.Phrases.{Phrase, end}
use Rattle.fac_lang.specs.RunningLaws.{append}
use Rattle.fac_lang.specs.declared.program.Lit.{Lit}
use Rattle.fac_lang.specs.declared.program.Sort.{Sort}
use Rattle.fac_lang.specs.declared.program.Sort.TheVariants.{Itself as itself, Class as class, Isa as isa, Getter as getter, Setter as setter, Putter as putter, Generic as generic}
use Rattle.fac_lang.specs.Whole.{plain_effect}
use Rattle.std.specs.List.{list_any}
use Rattle.std.specs.Option.{option_map}
use Rattle.fac_source.specs.declared.refusal.NameFault.{NameFault}
use Rattle.fac_source.specs.declared.refusal.NameKind.TheVariants.{Unknown, Twice, NoVocab, TooMany}
use Rattle.fac_items.specs.Written.{Tok, Node, n_lit, n_array, n_quot, n_ref, n_name, n_locals, n_fry, n_call_effect, n_execute_effect, n_bind, n_hole, n_at, n_next, n_full, n_part, Nodes, nothing, f_in, f_use, f_using, f_from, f_qualified, f_private, f_public, f_defer, f_symbol, f_main, f_constant, f_define, f_locals, f_tuple, f_union, f_single, f_maker, f_generic, f_method, f_items, more}
use Rattle.fac_items.specs.Readings.{bound, read_items}
use Rattle.fac_items.proofs.PhraseLemmas.{append_end, append_three}
use Rattle.fac_vocab.specs.declared.entry.Entry.{Entry}
use Rattle.fac_vocab.specs.declared.brought.Brought.TheVariants.{Named as named, Prefixed as prefixed}
use Rattle.fac_vocab.specs.Scopes.{Scope, with_entry, now_defined, holders, home, exists, using_vocab, bringing, entered, word_held}
use Rattle.fac_source.specs.Refusals.{fault, fault_if, sooner}
use Rattle.fac_items.specs.Items.{search_fault, search_faults, ref, is_cond, item_of, phrase_of, elements_of, items_faults}
use Rattle.fac_endings.specs.declared.draft.Late.{Late}
use Rattle.fac_endings.specs.declared.draft.Late.TheVariants.{Settled as settled}
use Rattle.fac_endings.specs.declared.draft.Named.TheVariants.{Tuple as a_tuple, Union as a_union, Single as a_single}
use Rattle.fac_names.specs.Forms.{at_place, counted, most_classes, option_list, Reading, Numbered, changed, added, defining, defined, deferring, with_told, told, own, plainly, refused, scoped, use_one, bringing_one, bring_one, class_words, class_form, making, accessor, with_slot}
use Rattle.fac_endings.specs.declared.draft.Draft.{Draft}
use Rattle.fac_endings.specs.declared.draft.Named.{Named}
use Rattle.fac_known.specs.Laws.{Begins, names_of, Longer, Sooner, Grows, FormsGrow}

-- Lists.

pub same : {A : Type 0} (xs : List A) → Longer xs xs
same xs = record { rest = []; is = sym (append-nil xs) }

by : {A : Type 0} (xs ys : List A) → Longer xs (xs ++ ys)
by xs ys = record { rest = ys; is = refl }

pub and_then : {A : Type 0} {xs ys zs : List A} → Longer xs ys → Longer ys zs → Longer xs zs
and_then {A} {xs} {ys} {zs} p q = record { rest = p.rest ++ q.rest; is = q.is ∙ ap (λ ws. ws ++ q.rest) p.is ∙ append_assoc xs p.rest q.rest }

unrefused : (a : Option NameFault) → Sooner a a
unrefused a = record { more = []; is = refl }

refusals : (a : Option NameFault) (fs : List NameFault) → Sooner a (fold sooner a fs)
refusals a fs = record { more = fs; is = refl }

first_then : {a b c : Option NameFault} → Sooner a b → Sooner b c → Sooner a c
first_then {a} {b} {c} p q = record { more = p.more ++ q.more; is = q.is ∙ ap (λ o. fold sooner o q.more) p.is ∙ sym (fold-append sooner a p.more q.more) }

equal : {A : Type 0} {xs ys : List A} → ys ≡ xs → Longer xs ys
equal {A} {xs} {ys} e = record { rest = []; is = e ∙ sym (append-nil xs) }

-- Phrases add arrays at the end.

mutual
  pub phrase_longer : (s : Scope) (locals : List (List ℕ)) (ns : Nodes) (arrays : List (List Lit)) (holes : ℕ) → Longer arrays (phrase_of s locals ns arrays holes).arrays
  phrase_longer s locals nothing arrays holes = same arrays
  phrase_longer s locals (more n ns) arrays holes =
      and_then (item_longer s locals n arrays holes) (phrase_longer s (bound n locals) ns (item_of s locals n arrays holes).arrays (item_of s locals n arrays holes).holes)

  item_longer : (s : Scope) (locals : List (List ℕ)) (n : Node) (arrays : List (List Lit)) (holes : ℕ) → Longer arrays (item_of s locals n arrays holes).arrays
  item_longer s locals (n_lit l p) arrays holes = same arrays
  item_longer s locals (n_array es p) arrays holes = and_then (elements_longer s es arrays) (by (elements_of s es arrays).arrays ((elements_of s es arrays).elements ∷ []))
  item_longer s locals (n_quot ns p) arrays holes = phrase_longer s locals ns arrays holes
  item_longer s locals (n_ref t p) arrays holes = same arrays
  item_longer s locals (n_name t p) arrays holes = same arrays
  item_longer s locals (n_locals ts ns p) arrays holes = same arrays
  item_longer s locals (n_fry ns p) arrays holes = phrase_longer s locals ns arrays 0
  item_longer s locals (n_call_effect h p) arrays holes = same arrays
  item_longer s locals (n_execute_effect h p) arrays holes = same arrays
  item_longer s locals (n_bind t twice p) arrays holes = same arrays
  item_longer s locals (n_hole p) arrays holes = same arrays
  item_longer s locals (n_at p) arrays holes = same arrays
  item_longer s locals (n_next p) arrays holes = same arrays
  item_longer s locals (n_full vocab name p) arrays holes = same arrays
  item_longer s locals (n_part ns) arrays holes = phrase_longer s locals ns arrays holes

  pub elements_longer : (s : Scope) (ns : Nodes) (arrays : List (List Lit)) → Longer arrays (elements_of s ns arrays).arrays
  elements_longer s nothing arrays = same arrays
  elements_longer s (more (n_array es p) ns) arrays =
      and_then (elements_longer s es arrays) (and_then (by (elements_of s es arrays).arrays ((elements_of s es arrays).elements ∷ [])) (
      elements_longer s ns ((elements_of s es arrays).arrays ++ (elements_of s es arrays).elements ∷ [])))
  elements_longer s (more (n_quot is p) ns) arrays = and_then (phrase_longer s [] is arrays 0) (elements_longer s ns (phrase_of s [] is arrays 0).arrays)
  elements_longer s (more (n_lit l p) ns) arrays = elements_longer s ns arrays
  elements_longer s (more (n_name t p) ns) arrays = elements_longer s ns arrays
  elements_longer s (more (n_ref t p) ns) arrays = elements_longer s ns arrays
  elements_longer s (more (n_locals ts ms p) ns) arrays = elements_longer s ns arrays
  elements_longer s (more (n_fry ms p) ns) arrays = elements_longer s ns arrays
  elements_longer s (more (n_call_effect h p) ns) arrays = elements_longer s ns arrays
  elements_longer s (more (n_execute_effect h p) ns) arrays = elements_longer s ns arrays
  elements_longer s (more (n_bind t twice p) ns) arrays = elements_longer s ns arrays
  elements_longer s (more (n_hole p) ns) arrays = elements_longer s ns arrays
  elements_longer s (more (n_at p) ns) arrays = elements_longer s ns arrays
  elements_longer s (more (n_next p) ns) arrays = elements_longer s ns arrays
  elements_longer s (more (n_full vocab name p) ns) arrays = elements_longer s ns arrays
  elements_longer s (more (n_part ms) ns) arrays = elements_longer s ns arrays

-- Phrases.

whole : (t : Phrase) → Begins t t
whole t = record { rest = end; is = sym (append_end t) }

begins_then : {t u v : Phrase} → Begins t u → Begins u v → Begins t v
begins_then {t} {u} {v} p q = record { rest = append p.rest q.rest; is = q.is ∙ ap (λ x. append x q.rest) p.is ∙ append_three t p.rest q.rest }

-- States.

pub grows_same : (r : Reading) → Grows r r
grows_same r = record { old = refl; words = same (names_of r.words); classes = same r.classes; arrays = same r.arrays; top = whole r.top; first = unrefused r.first }

pub grows_then : {r q s : Reading} → Grows r q → Grows q s → Grows r s
grows_then g h = record { old = h.old ∙ g.old; words = and_then g.words h.words; classes = and_then g.classes h.classes; arrays = and_then g.arrays h.arrays; top = begins_then g.top h.top; first = first_then g.first h.first }

pub grows_if : {r q s : Reading} (b : Bool) → Grows r q → Grows r s → Grows r (if b then q else s)
grows_if true g h = g
grows_if false g h = h

pub grows_fold : {A : Type 0} (f : Reading → A → Reading) → ((r : Reading) (a : A) → Grows r (f r a)) → (xs : List A) (r : Reading) → Grows r (fold f r xs)
grows_fold f h [] r = grows_same r
grows_fold f h (x ∷ xs) r = grows_then (h r x) (grows_fold f h xs (f r x))

refused_grows : (fs : List NameFault) (r : Reading) → Grows r (refused fs r)
refused_grows fs r = record { old = refl; words = same (names_of r.words); classes = same r.classes; arrays = same r.arrays; top = whole r.top; first = refusals r.first fs }

pub scoped_grows : (f : Scope → Scope) (r : Reading) → Grows r (scoped f r)
scoped_grows f r = record { old = refl; words = same (names_of r.words); classes = same r.classes; arrays = same r.arrays; top = whole r.top; first = unrefused r.first }

changed_names : (f : Draft → Draft) → ((d : Draft) → (f d).word.name ≡ d.word.name) → (n : ℕ) (ds : List Draft) → names_of (changed f n ds) ≡ names_of ds
changed_names f h n [] = refl
changed_names f h zero (d ∷ ds) = ap (λ x. x ∷ names_of ds) (h d)
changed_names f h (suc n) (d ∷ ds) = ap (λ xs. d.word.name ∷ xs) (changed_names f h n ds)

added_grows : (vocab : List ℕ) (t : Tok) (r : Reading) → Grows r (added vocab t r).reading
added_grows vocab t r = record { old = refl; words = record { rest = record { vocab = vocab; name = t.text } ∷ []; is = map-append (λ d. d.word.name) r.words _ }; classes = same r.classes; arrays = same r.arrays; top = whole r.top; first = unrefused r.first }

numbered_if : {r : Reading} (n m : Numbered) (b : Bool) → Grows r n.reading → Grows r m.reading → Grows r (if b then n else m).reading
numbered_if n m true g h = g
numbered_if n m false g h = h

defining_grows : (vocab : List ℕ) (t : Tok) (r : Reading) (es : List Entry) → Grows r (defining vocab t r es).reading
defining_grows vocab t r [] = grows_then (added_grows vocab t r) (scoped_grows (with_entry vocab t.text (length r.words) true) (added vocab t r).reading)
defining_grows vocab t r (e ∷ es) =
    numbered_if (added vocab t (refused (fault Twice t ∷ []) r)) (record { word = e.word; reading = record r { scope = record r.scope { table = now_defined e.vocab e.name r.scope.table }; words = changed (at_place t.place) e.word r.words } }) (list_any (λ f. f.is_defined) (e ∷ es)) (grows_then (refused_grows (fault Twice t ∷ []) r) (added_grows vocab t (refused (fault Twice t ∷ []) r)))
    (record { old = refl; words = equal (changed_names (at_place t.place) (λ d. refl) e.word r.words); classes = same r.classes; arrays = same r.arrays; top = whole r.top; first = unrefused r.first })

defined_grows : (vocab : List ℕ) (t : Tok) (r : Reading) → Grows r (defined vocab t r).reading
defined_grows vocab t r = defining_grows vocab t r (holders r.scope.table vocab t.text)

deferring_grows : (t : Tok) (r : Reading) (es : List Entry) → Grows r (deferring t r es)
deferring_grows t r [] = grows_then (added_grows (home r.scope) t r) (scoped_grows (with_entry (home r.scope) t.text (length r.words) false) (added (home r.scope) t r).reading)
deferring_grows t r (e ∷ es) = refused_grows (fault Twice t ∷ []) r

told_grows : (sort : Sort) (effect : Signature) (inline recursive : Bool) (late : Late) (n : Numbered) → Grows n.reading (told sort effect inline recursive late n)
told_grows sort effect inline recursive late n =
    record { old = refl; words = equal (changed_names (with_told sort effect inline recursive late) (λ d. refl) n.word n.reading.words); classes = same n.reading.classes; arrays = same n.reading.arrays; top = whole n.reading.top; first = unrefused n.reading.first }

own_grows : (t : Tok) (r : Reading) → Grows r (own t r).reading
own_grows t r = defined_grows (home r.scope) t r

plainly_grows : (sort : Sort) (ins outs : List (List ℕ)) (n : Numbered) → Grows n.reading (plainly sort ins outs n)
plainly_grows sort ins outs n = told_grows sort (plain_effect ins outs) false false settled n

-- what reading items leaves for the rest
abbrev pub read_for : Nodes → Reading → Reading
read_for ns r =
    let ms = read_items (is_cond r.scope) [] ns in
    refused (items_faults r.scope [] ms) (record r { arrays = (phrase_of r.scope [] ms r.arrays 0).arrays })

read_for_grows : (ns : Nodes) (r : Reading) → Grows r (read_for ns r)
read_for_grows ns r =
    let ms = read_items (is_cond r.scope) [] ns in
    record { old = refl; words = same (names_of r.words); classes = same r.classes; arrays = phrase_longer r.scope [] ms r.arrays 0; top = whole r.top; first = refusals r.first (items_faults r.scope [] ms) }

use_one_grows : (r : Reading) (t : Tok) → Grows r (use_one r t)
use_one_grows r t = grows_if (exists r.scope t.text) (scoped_grows (using_vocab t.text) r) (refused_grows (fault NoVocab t ∷ []) r)

bringing_one_grows : (t : Tok) (r : Reading) (o : Option ℕ) → Grows r (bringing_one t r o)
bringing_one_grows t r (Some w) = scoped_grows (bringing (named t.text w)) r
bringing_one_grows t r None = refused_grows (fault Unknown t ∷ []) r

making_grows : (t : Tok) (sort : Sort) (ins outs : List (List ℕ)) (r : Reading) (es : List Entry) → Grows r (making t sort ins outs r es)
making_grows t sort ins outs r [] = grows_then (defined_grows (codes "accessors") t r) (plainly_grows sort ins outs (defined (codes "accessors") t r))
making_grows t sort ins outs r (e ∷ es) = grows_same r

accessor_grows : (t : Tok) (sort : Sort) (ins outs : List (List ℕ)) (r : Reading) → Grows r (accessor t sort ins outs r)
accessor_grows t sort ins outs r = making_grows t sort ins outs r (holders r.scope.table (codes "accessors") t.text)

with_slot_grows : (r : Reading) (t : Tok) → Grows r (with_slot r t)
with_slot_grows r t =
    grows_then (accessor_grows (record t { text = t.text ++ codes ">>" }) (getter t.text) (codes "object" ∷ []) (codes "value" ∷ []) r) (
    grows_then (accessor_grows (record t { text = codes ">>" ++ t.text }) (setter t.text) (codes "object" ∷ codes "value" ∷ []) (codes "object" ∷ []) _)
    (accessor_grows (record t { text = t.text ++ codes "<<" }) (putter t.text) (codes "value" ∷ codes "object" ∷ []) [] _))

class_words_grows : (t : Tok) (r : Reading) → Grows r (class_words t r).reading
class_words_grows t r =
    grows_then (own_grows t r) (grows_then (plainly_grows (class (length r.old_classes + length r.classes)) [] (codes "value" ∷ []) (own t r)) (
    grows_then (refused_grows (fault_if (nat_lt 0 t.place.file && nat_le most_classes (counted r.words)) TooMany t) _) (
    grows_then (own_grows (record t { text = t.text ++ codes "?" }) _) (plainly_grows (isa (length r.old_classes + length r.classes)) (codes "object" ∷ []) (codes "?" ∷ []) _))))

class_form_grows : (t : Tok) (searched : List Tok) (names : Scope → Named) (r : Reading) → Grows r (class_form t searched names r)
class_form_grows t searched names r =
    grows_then (class_words_grows t r) (
    let n = class_words t r in
    record { old = refl; words = same (names_of n.reading.words); classes = by n.reading.classes (record { tok = t; word = n.word; names = names n.reading.scope } ∷ []); arrays = same n.reading.arrays; top = whole n.reading.top; first = refusals n.reading.first (search_faults n.reading.scope searched) })

-- Forms.

pub forms_grow : FormsGrow
forms_grow (f_in v) r = scoped_grows (entered v.text) r
forms_grow (f_use v) r = use_one_grows r v
forms_grow (f_using vs) r = grows_fold use_one use_one_grows vs r
forms_grow (f_from v ns) r =
    grows_if (exists r.scope v.text) (grows_fold (bring_one v.text) (λ q t. bringing_one_grows t q (word_held q.scope.table v.text t.text)) ns r) (refused_grows (fault NoVocab v ∷ []) r)
forms_grow (f_qualified v p) r = grows_if (exists r.scope v.text) (scoped_grows (bringing (prefixed v.text p.text)) r) (refused_grows (fault NoVocab v ∷ []) r)
forms_grow f_private r = scoped_grows (λ s. record s { in_private = true }) r
forms_grow f_public r = scoped_grows (λ s. record s { in_private = false }) r
forms_grow (f_defer n) r = deferring_grows n r (holders r.scope.table (home r.scope) n.text)
forms_grow (f_symbol n) r = grows_then (own_grows n r) (plainly_grows itself [] (codes "value" ∷ []) (own n r))
forms_grow (f_main n) r = record { old = refl; words = same (names_of r.words); classes = same r.classes; arrays = same r.arrays; top = whole r.top; first = refusals r.first (search_fault r.scope n) }
forms_grow (f_define n e ns inline recursive) r =
    grows_then (own_grows n r) (grows_then (read_for_grows ns (own n r).reading) (told_grows _ _ inline recursive _ (record { word = (own n r).word; reading = read_for ns (own n r).reading })))
forms_grow (f_tuple n parent slots) r = grows_then (class_form_grows n (option_list parent) (λ s. a_tuple (option_map (ref s) parent) slots) r) (grows_fold with_slot with_slot_grows slots _)
forms_grow (f_union n members) r = class_form_grows n members (λ s. a_union (map (ref s) members)) r
forms_grow (f_single n) r = class_form_grows n [] (λ s. a_single) r
forms_grow (f_generic n e) r = grows_then (own_grows n r) (told_grows generic e false false settled (own n r))
forms_grow (f_method c g ns) r =
    grows_then (refused_grows (search_faults r.scope (c ∷ g ∷ [])) r) (
    let d = added [] g (refused (search_faults r.scope (c ∷ g ∷ [])) r) in
    grows_then (added_grows [] g (refused (search_faults r.scope (c ∷ g ∷ [])) r)) (
    grows_then (read_for_grows ns d.reading) (told_grows _ _ false false _ (record { word = d.word; reading = read_for ns d.reading }))))
forms_grow (f_items ns) r = grows_then (read_for_grows ns r) (record { old = refl; words = same (names_of r.words); classes = same r.classes; arrays = same (read_for ns r).arrays; top = record { rest = (phrase_of r.scope [] (read_items (is_cond r.scope) [] ns) r.arrays 0).phrase; is = refl }; first = unrefused (read_for ns r).first })
forms_grow (f_constant n l) r = grows_same r
forms_grow (f_locals n inputs e ns inline recursive) r = grows_same r
forms_grow (f_maker n c) r = grows_same r
