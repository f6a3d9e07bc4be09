-- Each local of what was read is bound, each of its holes stands in a fry, each fry has its holes, and no effect that is tested is large: each phrase stands by itself, and every form keeps that.
use Rattle.std.proofs.Common.{◌≡◌, ℕ, zero, suc, List, [], ◌∷◌, ◌++◌, map, fold, Option, Some, None, Bool, true, false, refl, ap, sym, ◌∙◌}
use Rattle.std.specs.Prelude.{◌&&◌, ◌+◌, if◌then◌else◌, codes, length, nat_le, nat_lt}
use Rattle.std.specs.List.{list_all, list_any}
use Rattle.std.specs.Option.{option_map}
use Rattle.std.proofs.lemmas.List.Folds.{list_all-append}
use Rattle.fac_lang.specs.Phrases.{Phrase}
use Rattle.fac_base.specs.Signatures.{Signature}
use Rattle.fac_lang.specs.Whole.{plain_effect, word_phrases}
use Rattle.fac_lang.specs.declared.program.ClassDef.{ClassDef}
use Rattle.fac_lang.specs.declared.program.Lit.{Lit}
use Rattle.fac_lang.specs.declared.program.Sort.{Sort}
use Rattle.fac_lang.specs.declared.program.Sort.TheVariants.{Body as body, Past as past, Itself as itself, Class as class, Isa as isa, Getter as getter, Setter as setter, Putter as putter, Generic as generic, Method as method}
use Rattle.fac_lang.specs.declared.program.WordDef.{WordDef}
use Rattle.fac_vocab.specs.declared.entry.Entry.{Entry}
use Rattle.fac_vocab.specs.Scopes.{Scope, begun, bringing, entered, exists, holders, home, now_defined, using_vocab, word_held}
use Rattle.fac_vocab.specs.declared.brought.Brought.TheVariants.{Named as named, Prefixed as prefixed}
use Rattle.fac_source.specs.declared.refusal.NameFault.{NameFault}
use Rattle.fac_source.specs.declared.refusal.NameKind.TheVariants.{Unknown, NoVocab, TooMany, Twice}
use Rattle.fac_source.specs.Refusals.{fault, fault_if}
use Rattle.fac_endings.specs.Words.{no_effect}
use Rattle.fac_items.specs.Written.{Tok, Nodes, Declared, Form, f_in, f_use, f_using, f_from, f_qualified, f_private, f_public, f_defer, f_symbol, f_main, f_define, f_tuple, f_union, f_single, f_generic, f_method, f_items}
use Rattle.fac_items.specs.Readings.{read_items}
use Rattle.fac_items.specs.Items.{is_cond, items_faults, phrase_of, ref, search_faults}
use Rattle.fac_endings.specs.FinishedWords.{finished}
use Rattle.fac_endings.specs.declared.draft.Draft.{Draft}
use Rattle.fac_endings.specs.declared.draft.Late.{Late}
use Rattle.fac_endings.specs.declared.draft.Late.TheVariants.{Settled as settled, Deferred as deferred, Maker as maker, Method as method_of}
use Rattle.fac_endings.specs.declared.draft.Named.{Named}
use Rattle.fac_endings.specs.declared.draft.Named.TheVariants.{Tuple as a_tuple, Union as a_union, Single as a_single}
use Rattle.fac_endings.proofs.Apart.{and_true, true_both}
use Rattle.fac_endings.proofs.EndedWords.{FinishOf, stays, makes, methods, FinishesOf}
use Rattle.fac_names.specs.Forms.{Numbered, Reading, accessor, added, at_place, bring_one, bringing_one, changed, class_form, class_words, counted, declared_effect, declared_late, defined, defining, deferring, draft_of, making, most_classes, option_list, own, plainly, refused, scoped, take, told, use_one, with_slot, with_told}
use Rattle.fac_names.proofs.BuiltForms.{AreReadPlain, IsPlainForm}
use Rattle.fac_names.proofs.StandingHoles.{append_sound, are_sound, arrays_sound, is_sound, made_sound}

-- whether the phrase of a word stands by itself, where it has one
abbrev pub sort_closed : Sort → Bool
sort_closed (body t) = is_sound t
sort_closed (past t) = is_sound t
sort_closed (method c g t) = is_sound t
sort_closed _ = true

abbrev pub drafts_closed : List Draft → Bool
drafts_closed ds = list_all (λ (d : Draft). sort_closed d.word.sort) ds

pub record Closed (r : Reading) : Type 0 where
  pub words : drafts_closed r.words ≡ true
  pub top : is_sound r.top ≡ true
  pub main : is_sound r.main ≡ true
  pub arrays : are_sound r.arrays ≡ true

-- Words.

with_draft : (ds : List Draft) (d : Draft) → drafts_closed ds ≡ true → sort_closed d.word.sort ≡ true → drafts_closed (ds ++ d ∷ []) ≡ true
with_draft ds d h k = list_all-append (λ (e : Draft). sort_closed e.word.sort) ds (d ∷ []) ∙ and_true (drafts_closed ds) (sort_closed d.word.sort && true) h (and_true (sort_closed d.word.sort) true k refl)

pub with_changed : (f : Draft → Draft) (n : ℕ) (ds : List Draft) → ((d : Draft) → sort_closed d.word.sort ≡ true → sort_closed (f d).word.sort ≡ true) → drafts_closed ds ≡ true → drafts_closed (changed f n ds) ≡ true
with_changed f n [] keeps h = refl
with_changed f zero (d ∷ ds) keeps h = let both = true_both (sort_closed d.word.sort) (drafts_closed ds) h in and_true (sort_closed (f d).word.sort) (drafts_closed ds) (keeps d both.0) both.1
with_changed f (suc n) (d ∷ ds) keeps h = let both = true_both (sort_closed d.word.sort) (drafts_closed ds) h in and_true (sort_closed d.word.sort) (drafts_closed (changed f n ds)) both.0 (with_changed f n ds keeps both.1)

with_words : (r : Reading) (ds : List Draft) → drafts_closed ds ≡ true → Closed r → Closed (record r { words = ds })
with_words r ds h c = record { words = h; top = c.top; main = c.main; arrays = c.arrays }

word_added : (vocab : List ℕ) (t : Tok) (r : Reading) → Closed r → Closed (added vocab t r).reading
word_added vocab t r c = with_words r (r.words ++ draft_of vocab t ∷ []) (with_draft r.words (draft_of vocab t) c.words refl) c

word_told : (n : Numbered) (s : Sort) (e : Signature) (inline recursive : Bool) (late : Late) → sort_closed s ≡ true → Closed n.reading → Closed (told s e inline recursive late n)
word_told n s e inline recursive late h c = with_words n.reading _ (with_changed (with_told s e inline recursive late) n.word n.reading.words (λ d k. h) c.words) c

closed_if : (b : Bool) (n m : Numbered) → Closed n.reading → Closed m.reading → Closed (if b then n else m).reading
closed_if true n m h k = h
closed_if false n m h k = k

reading_if : (b : Bool) (r q : Reading) → Closed r → Closed q → Closed (if b then r else q)
reading_if true r q h k = h
reading_if false r q h k = k

more_refused : (fs : List NameFault) (r : Reading) → Closed r → Closed (refused fs r)
more_refused fs r c = record { words = c.words; top = c.top; main = c.main; arrays = c.arrays }

scope_changed : (f : Scope → Scope) (r : Reading) → Closed r → Closed (scoped f r)
scope_changed f r c = record { words = c.words; top = c.top; main = c.main; arrays = c.arrays }

word_defined : (vocab : List ℕ) (t : Tok) (r : Reading) (es : List Entry) → Closed r → Closed (defining vocab t r es).reading
word_defined vocab t r [] c = (let a = word_added vocab t r c in record { words = a.words; top = a.top; main = a.main; arrays = a.arrays })
word_defined vocab t r (e ∷ es) c =
    closed_if (list_any (λ (f : Entry). f.is_defined) (e ∷ es)) (added vocab t (refused (fault Twice t ∷ []) r))
    (record { word = e.word; reading = record r { scope = record r.scope { table = now_defined e.vocab e.name r.scope.table }; words = changed (at_place t.place) e.word r.words } })
    (word_added vocab t (refused (fault Twice t ∷ []) r) (more_refused (fault Twice t ∷ []) r c))
    (record { words = with_changed (at_place t.place) e.word r.words (λ d h. h) c.words; top = c.top; main = c.main; arrays = c.arrays })

own_closed : (t : Tok) (r : Reading) → Closed r → Closed (own t r).reading
own_closed t r c = word_defined (home r.scope) t r (holders r.scope.table (home r.scope) t.text) c

word_deferred : (t : Tok) (r : Reading) (es : List Entry) → Closed r → Closed (deferring t r es)
word_deferred t r [] c = (let a = word_added (home r.scope) t r c in record { words = a.words; top = a.top; main = a.main; arrays = a.arrays })
word_deferred t r (e ∷ es) c = more_refused (fault Twice t ∷ []) r c

-- What files use.

fold_closed : {A : Type 0} (f : Reading → A → Reading) → ((r : Reading) (a : A) → Closed r → Closed (f r a)) → (xs : List A) (r : Reading) → Closed r → Closed (fold f r xs)
fold_closed f h [] r c = c
fold_closed f h (x ∷ xs) r c = fold_closed f h xs (f r x) (h r x c)

use_closed : (r : Reading) (t : Tok) → Closed r → Closed (use_one r t)
use_closed r t c = reading_if (exists r.scope t.text) (scoped (using_vocab t.text) r) (refused (fault NoVocab t ∷ []) r) (scope_changed (using_vocab t.text) r c) (more_refused (fault NoVocab t ∷ []) r c)

bringing_closed : (t : Tok) (r : Reading) (o : Option ℕ) → Closed r → Closed (bringing_one t r o)
bringing_closed t r (Some w) c = scope_changed (bringing (named t.text w)) r c
bringing_closed t r None c = more_refused (fault Unknown t ∷ []) r c

-- Classes.

class_words_closed : (t : Tok) (r : Reading) → Closed r → Closed (class_words t r).reading
class_words_closed t r c =
    let k = length r.old_classes + length r.classes in
    let n = own t r in
    let named_class = plainly (class k) [] (codes "value" ∷ []) n in
    let one = word_told n (class k) (plain_effect [] (codes "value" ∷ [])) false false settled refl (own_closed t r c) in
    let fs = fault_if (nat_lt 0 t.place.file && nat_le most_classes (counted r.words)) TooMany t in
    let q = refused fs named_class in
    let two = more_refused fs named_class one in
    let p : Tok = record t { text = t.text ++ codes "?" } in
    word_told (own p q) (isa k) (plain_effect (codes "object" ∷ []) (codes "?" ∷ [])) false false settled refl (own_closed p q two)

class_form_closed : (t : Tok) (searched : List Tok) (names : Scope → Named) (r : Reading) → Closed r → Closed (class_form t searched names r)
class_form_closed t searched names r c = (let w = class_words_closed t r c in record { words = w.words; top = w.top; main = w.main; arrays = w.arrays })

making_closed : (t : Tok) (s : Sort) (ins outs : List (List ℕ)) (r : Reading) (es : List Entry) → sort_closed s ≡ true → Closed r → Closed (making t s ins outs r es)
making_closed t s ins outs r [] h c =
    word_told (defined (codes "accessors") t r) s (plain_effect ins outs) false false settled h (word_defined (codes "accessors") t r (holders r.scope.table (codes "accessors") t.text) c)
making_closed t s ins outs r (e ∷ es) h c = c

accessor_closed : (t : Tok) (s : Sort) (ins outs : List (List ℕ)) (r : Reading) → sort_closed s ≡ true → Closed r → Closed (accessor t s ins outs r)
accessor_closed t s ins outs r h c = making_closed t s ins outs r (holders r.scope.table (codes "accessors") t.text) h c

slot_closed : (r : Reading) (t : Tok) → Closed r → Closed (with_slot r t)
slot_closed r t c =
    let first : Tok = record t { text = t.text ++ codes ">>" } in
    let second : Tok = record t { text = codes ">>" ++ t.text } in
    let third : Tok = record t { text = t.text ++ codes "<<" } in
    let a = accessor first (getter t.text) (codes "object" ∷ []) (codes "value" ∷ []) r in
    let b = accessor second (setter t.text) (codes "object" ∷ codes "value" ∷ []) (codes "object" ∷ []) a in
    accessor_closed third (putter t.text) (codes "value" ∷ codes "object" ∷ []) [] b refl
    (accessor_closed second (setter t.text) (codes "object" ∷ codes "value" ∷ []) (codes "object" ∷ []) a refl
    (accessor_closed first (getter t.text) (codes "object" ∷ []) (codes "value" ∷ []) r refl c))

-- Items.

-- the phrase of items, and the arrays behind it
record ItemsClosed (s : Scope) (ns : Nodes) (arrays : List (List Lit)) : Type 0 where
  phrase : is_sound (phrase_of s [] (read_items (is_cond s) [] ns) arrays 0).phrase ≡ true
  arrays_then : are_sound (phrase_of s [] (read_items (is_cond s) [] ns) arrays 0).arrays ≡ true

items_closed : (s : Scope) (ns : Nodes) (arrays : List (List Lit)) → AreReadPlain ns → are_sound arrays ≡ true → ItemsClosed s ns arrays
items_closed s ns arrays plain h =
    let ms = read_items (is_cond s) [] ns in record { phrase = made_sound s ms arrays (plain (is_cond s)); arrays_then = arrays_sound s ms arrays (plain (is_cond s)) h }

define_closed : (t : Tok) (e : Declared) (ns : Nodes) (inline recursive : Bool) (r : Reading) → AreReadPlain ns → Closed r → Closed (take (f_define t e ns inline recursive) r)
define_closed t e ns inline recursive r plain c =
    let n = own t r in
    let d = own_closed t r c in
    let s = n.reading.scope in
    let ms = read_items (is_cond s) [] ns in
    let m = phrase_of s [] ms n.reading.arrays 0 in
    let q = refused (items_faults s [] ms) (record n.reading { arrays = m.arrays }) in
    let i = items_closed s ns n.reading.arrays plain d.arrays in
    word_told (record { word = n.word; reading = q }) (body m.phrase) (declared_effect e) inline recursive (declared_late s e) i.phrase (record { words = d.words; top = d.top; main = d.main; arrays = i.arrays_then })

method_closed : (x g : Tok) (ns : Nodes) (r : Reading) → AreReadPlain ns → Closed r → Closed (take (f_method x g ns) r)
method_closed x g ns r plain c =
    let s = r.scope in
    let n = added [] g (refused (search_faults s (x ∷ g ∷ [])) r) in
    let ms = read_items (is_cond s) [] ns in
    let m = phrase_of s [] ms r.arrays 0 in
    let q = refused (items_faults s [] ms) (record n.reading { arrays = m.arrays }) in
    let i = items_closed s ns r.arrays plain c.arrays in
    let a = word_added [] g r c in
    word_told (record { word = n.word; reading = q }) (body m.phrase) no_effect false false (method_of (ref s x) (ref s g)) i.phrase (record { words = a.words; top = a.top; main = a.main; arrays = i.arrays_then })

pub take_closed : (form : Form) (r : Reading) → IsPlainForm form → Closed r → Closed (take form r)
take_closed (f_in v) r p c = scope_changed (entered v.text) r c
take_closed (f_use v) r p c = use_closed r v c
take_closed (f_using vs) r p c = fold_closed use_one use_closed vs r c
take_closed (f_from v ns) r p c =
    reading_if (exists r.scope v.text) (fold (bring_one v.text) r ns) (refused (fault NoVocab v ∷ []) r)
    (fold_closed (bring_one v.text) (λ q t d. bringing_closed t q (word_held q.scope.table v.text t.text) d) ns r c) (more_refused (fault NoVocab v ∷ []) r c)
take_closed (f_qualified v p) r q c =
    reading_if (exists r.scope v.text) (scoped (bringing (prefixed v.text p.text)) r) (refused (fault NoVocab v ∷ []) r) (scope_changed (bringing (prefixed v.text p.text)) r c) (more_refused (fault NoVocab v ∷ []) r c)
take_closed f_private r p c = scope_changed (λ s. record s { in_private = true }) r c
take_closed f_public r p c = scope_changed (λ s. record s { in_private = false }) r c
take_closed (f_defer n) r p c = word_deferred n r (holders r.scope.table (home r.scope) n.text) c
take_closed (f_symbol n) r p c = word_told (own n r) itself (plain_effect [] (codes "value" ∷ [])) false false settled refl (own_closed n r c)
take_closed (f_main n) r p c = record { words = c.words; top = c.top; main = refl; arrays = c.arrays }
take_closed (f_define n e ns inline recursive) r p c = define_closed n e ns inline recursive r p.0 c
take_closed (f_tuple n parent slots) r p c = fold_closed with_slot slot_closed slots (class_form n (option_list parent) (λ s. a_tuple (option_map (ref s) parent) slots) r) (class_form_closed n (option_list parent) (λ s. a_tuple (option_map (ref s) parent) slots) r c)
take_closed (f_union n members) r p c = class_form_closed n members (λ s. a_union (map (ref s) members)) r c
take_closed (f_single n) r p c = class_form_closed n [] (λ s. a_single) r c
take_closed (f_generic n e) r p c = word_told (own n r) generic e false false settled refl (own_closed n r c)
take_closed (f_method x g ns) r p c = method_closed x g ns r p c
take_closed (f_items ns) r p c =
    let i = items_closed r.scope ns r.arrays p c.arrays in
    record { words = c.words; top = append_sound r.top (phrase_of r.scope [] (read_items (is_cond r.scope) [] ns) r.arrays 0).phrase c.top i.phrase; main = c.main; arrays = i.arrays_then }
take_closed form r p c = absurd p

pub begun_closed : (r : Reading) → Closed r → Closed (scoped begun r)
begun_closed r c = scope_changed begun r c

-- The program at the end.

same_closed : (n : ℕ) (ds : List Draft) (w e : WordDef) (l : Late) → FinishOf ds n w l e → sort_closed e.sort ≡ sort_closed w.sort
same_closed n ds w e settled stays = refl
same_closed n ds w e deferred f = elim f [ ]
same_closed n ds w e (maker q) (makes r t s is few) = refl
same_closed n ds w e (method_of p q) (methods x y t c g d is less at called) = sym (ap sort_closed is)

abbrev pub with_phrase : Sort → List Phrase → List Phrase
with_phrase s ts = elim s [ body t ↦ t ∷ ts | past t ↦ t ∷ ts | method c g t ↦ t ∷ ts | _ ↦ ts ]

pub phrase_closed : (s : Sort) (ts : List Phrase) → list_all is_sound (with_phrase s ts) ≡ (sort_closed s && list_all is_sound ts)
phrase_closed (body t) ts = refl
phrase_closed (past t) ts = refl
phrase_closed (method c g t) ts = refl
phrase_closed s ts = refl

pub words_closed : (ds : List Draft) (cs : List ClassDef) (xs : List Draft) (last : WordDef) → FinishesOf ds cs xs → drafts_closed xs ≡ true → sort_closed last.sort ≡ true → list_all is_sound (word_phrases (map (finished ds cs) xs ++ last ∷ [])) ≡ true
words_closed ds cs [] last h k l = phrase_closed last.sort [] ∙ and_true (sort_closed last.sort) true l refl
words_closed ds cs (x ∷ xs) last h k l =
    let both = true_both (sort_closed x.word.sort) (drafts_closed xs) k in
    phrase_closed (finished ds cs x).sort (word_phrases (map (finished ds cs) xs ++ last ∷ []))
    ∙ and_true (sort_closed (finished ds cs x).sort) (list_all is_sound (word_phrases (map (finished ds cs) xs ++ last ∷ []))) (same_closed _ ds x.word (finished ds cs x) x.late h.0 ∙ both.0) (words_closed ds cs xs last h.1 both.1 l)
