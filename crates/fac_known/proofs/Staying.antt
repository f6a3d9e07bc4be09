-- The words that are known before a source are unchanged behind it.
use Rattle.std.specs.Prelude.{ℕ, zero, suc, ◌≡◌, ◌+◌, nat_eq, nat_lt, nat_le, List, [], ◌∷◌, ◌++◌, map, length, slice_get, fold, Option, Some, None, Bool, true, false, ◌&&◌, ◌||◌, not, codes, if◌then◌else◌}
use Rattle.std.specs.List.{list_any, list_all, filter}
use Rattle.std.specs.Str.{bytes_eq}
use Rattle.std.proofs.Common.{refl, ap, sym, ◌∙◌, true≢false}
use Rattle.std.proofs.lemmas.List.Folds.{list_all-append}
use Rattle.std.proofs.Math.Dec.{eqb-suc-zero, eqb-suc-suc}
use Rattle.std.proofs.lemmas.Option.{none-some, slice_get-map}
use Rattle.fac_base.specs.Signatures.{Signature}
use Rattle.fac_lang.specs.Whole.{plain_effect}
use Rattle.fac_lang.specs.declared.program.Sort.{Sort}
use Rattle.fac_lang.specs.declared.program.Sort.TheVariants.{Itself as itself, Class as class, Isa as isa, Getter as getter, Setter as setter, Putter as putter, Generic as generic}
use Rattle.fac_items.specs.Written.{Tok, Nodes, Form, f_in, f_use, f_using, f_from, f_qualified, f_private, f_public, f_defer, f_symbol, f_main, f_constant, f_define, f_locals, f_tuple, f_union, f_single, f_maker, f_generic, f_method, f_items}
use Rattle.std.specs.Option.{option_map}
use Rattle.fac_vocab.specs.declared.entry.Entry.{Entry}
use Rattle.fac_vocab.specs.declared.brought.Brought.TheVariants.{Named as named, Prefixed as prefixed}
use Rattle.fac_vocab.specs.Scopes.{Scope, begun, using_vocab, bringing, same_table, now_defined, holders, home, exists, word_held}
use Rattle.fac_source.specs.declared.refusal.NameKind.TheVariants.{Unknown, Twice, NoVocab, TooMany}
use Rattle.fac_source.specs.Refusals.{fault, fault_if}
use Rattle.fac_items.specs.Items.{search_faults, ref}
use Rattle.fac_endings.specs.declared.draft.Late.{Late}
use Rattle.fac_endings.specs.declared.draft.Late.TheVariants.{Settled as settled}
use Rattle.fac_endings.specs.declared.draft.Named.TheVariants.{Tuple as a_tuple, Union as a_union, Single as a_single}
use Rattle.fac_names.specs.Forms.{at_place, counted, most_classes, option_list, draft_of, Reading, Numbered, changed, added, defining, defined, deferring, with_told, told, own, plainly, refused, scoped, use_one, bringing_one, bring_one, class_words, class_form, making, accessor, with_slot, take, take_file}
use Rattle.fac_endings.specs.declared.draft.Draft.{Draft}
use Rattle.fac_endings.specs.declared.draft.Named.{Named}
use Rattle.fac_lang.specs.declared.program.WordDef.{WordDef}
use Rattle.fac_items.specs.Readings.{read_forms}
use Rattle.fac_names.specs.Resolution.{settled_draft}
use Rattle.fac_names.specs.Resolved.{program_of}
use Rattle.fac_endings.specs.FinishedWords.{finished}
use Rattle.fac_endings.specs.ClassTable.{classes_of}
use Rattle.fac_names.proofs.EntryLemmas.{all_spare, spares}
use Rattle.fac_known.proofs.Growing.{read_for}

-- Truth values.

left : (a b : Bool) → (a && b) ≡ true → a ≡ true
left true b h = refl
left false b h = h

right : (a b : Bool) → (a && b) ≡ true → b ≡ true
right true b h = h
right false true h = refl
right false false h = h

both : (a b : Bool) → a ≡ true → b ≡ true → (a && b) ≡ true
both true b p q = q
both false b p q = p

first_false : (a b : Bool) → (a || b) ≡ false → a ≡ false
first_false true b h = h
first_false false b h = refl

not_there : (a b : Bool) → (a || not b) ≡ true → a ≡ false → b ≡ false
not_there true b h k = absurd (true≢false k)
not_there false true h k = absurd (true≢false (sym h))
not_there false false h k = refl

-- Lists.

none_some : {A : Type 0} {x : A} → None ≡ Some x → ⊥
none_some {A} {x} h = none-some x h

pub there_still : {A : Type 0} (xs ys : List A) (w : ℕ) (x : A) → slice_get xs w ≡ Some x → slice_get (xs ++ ys) w ≡ Some x
there_still [] ys w x h = absurd (none_some h)
there_still (y ∷ xs) ys zero x h = h
there_still (y ∷ xs) ys (suc w) x h = there_still xs ys w x h

-- an element isn't at the length
not_length : {A : Type 0} (xs : List A) (w : ℕ) (x : A) → slice_get xs w ≡ Some x → nat_eq (length xs) w ≡ false
not_length [] w x h = absurd (none_some h)
not_length (y ∷ xs) zero x h = eqb-suc-zero (length xs)
not_length (y ∷ xs) (suc w) x h = eqb-suc-suc (length xs) w ∙ not_length xs w x h

elsewhere : {A : Type 0} (f : A → A) (k : ℕ) (xs : List A) (w : ℕ) → nat_eq k w ≡ false → slice_get (changed f k xs) w ≡ slice_get xs w
elsewhere f k [] w h = refl
elsewhere f zero (x ∷ xs) zero h = absurd (true≢false h)
elsewhere f zero (x ∷ xs) (suc w) h = refl
elsewhere f (suc k) (x ∷ xs) zero h = refl
elsewhere f (suc k) (x ∷ xs) (suc w) h = elsewhere f k xs w (sym (eqb-suc-suc k w) ∙ h)

-- Entries.

filter_if : (w : ℕ) (b : Bool) (e : Entry) (es fs : List Entry) → all_spare w (e ∷ es) ≡ true → all_spare w fs ≡ true → all_spare w (if b then e ∷ fs else fs) ≡ true
filter_if w true e es fs h k = both (spares w e) (all_spare w fs) (left (spares w e) (all_spare w es) h) k
filter_if w false e es fs h k = k

filter_spare : (w : ℕ) (p : Entry → Bool) (es : List Entry) → all_spare w es ≡ true → all_spare w (filter p es) ≡ true
filter_spare w p [] h = refl
filter_spare w p (e ∷ es) h = filter_if w (p e) e es (filter p es) h (filter_spare w p es (right (spares w e) (all_spare w es) h))

spare_more : (w : ℕ) (es : List Entry) (e : Entry) → all_spare w es ≡ true → spares w e ≡ true → all_spare w (es ++ e ∷ []) ≡ true
spare_more w es e h k = list_all-append (spares w) es (e ∷ []) ∙ both (all_spare w es) (all_spare w (e ∷ [])) h (both (spares w e) true k refl)

now_if : (w : ℕ) (b : Bool) (e : Entry) (es fs : List Entry) → all_spare w (e ∷ es) ≡ true → all_spare w fs ≡ true → all_spare w (if b then record e { is_defined = true } ∷ es else e ∷ fs) ≡ true
now_if w true e es fs h k = right (spares w e) (all_spare w es) h
now_if w false e es fs h k = both (spares w e) (all_spare w fs) (left (spares w e) (all_spare w es) h) k

now_spare : (w : ℕ) (vocab name : List ℕ) (es : List Entry) → all_spare w es ≡ true → all_spare w (now_defined vocab name es) ≡ true
now_spare w vocab name [] h = refl
now_spare w vocab name (e ∷ es) h = now_if w (bytes_eq name e.name && bytes_eq vocab e.vocab) e es (now_defined vocab name es) h (now_spare w vocab name es (right (spares w e) (all_spare w es) h))

-- States.

-- Word w is d, and no entry that is only deferred is of it.
pub record At (w : ℕ) (d : Draft) (r : Reading) : Type 0 where
  pub is : slice_get r.words w ≡ Some d
  pub spared : all_spare w r.scope.table ≡ true

-- and it isn't the numbered word
pub record Beside (w : ℕ) (d : Draft) (n : Numbered) : Type 0 where
  pub at : At w d n.reading
  pub other : nat_eq n.word w ≡ false

at_if : {w : ℕ} {d : Draft} (q s : Reading) (b : Bool) → At w d q → At w d s → At w d (if b then q else s)
at_if q s true g h = g
at_if q s false g h = h

at_fold : {A : Type 0} {w : ℕ} {d : Draft} (f : Reading → A → Reading) → ((r : Reading) (a : A) → At w d r → At w d (f r a)) → (xs : List A) (r : Reading) → At w d r → At w d (fold f r xs)
at_fold f h [] r a = a
at_fold f h (x ∷ xs) r a = at_fold f h xs (f r x) (h r x a)

-- the same words and the same table
alike : {w : ℕ} {d : Draft} (r q : Reading) → q.words ≡ r.words → q.scope.table ≡ r.scope.table → At w d r → At w d q
alike {w} {d} r q e t a = record { is = ap (λ ws. slice_get ws w) e ∙ a.is; spared = ap (λ es. all_spare w es) t ∙ a.spared }

added_at : {w : ℕ} {d : Draft} (vocab : List ℕ) (t : Tok) (r : Reading) → At w d r → Beside w d (added vocab t r)
added_at {w} {d} vocab t r a = record { at = record { is = there_still r.words (draft_of vocab t ∷ []) w d a.is; spared = a.spared }; other = not_length r.words w d a.is }

defining_by : {w : ℕ} {d : Draft} (vocab : List ℕ) (t : Tok) (r : Reading) (e : Entry) (b : Bool) → At w d r → (b ≡ false → nat_eq e.word w ≡ false) →
    Beside w d (if b then added vocab t (refused (fault Twice t ∷ []) r) else record { word = e.word; reading = record r { scope = record r.scope { table = now_defined e.vocab e.name r.scope.table }; words = changed (at_place t.place) e.word r.words } })
defining_by vocab t r e true a h = added_at vocab t (refused (fault Twice t ∷ []) r) (alike r (refused (fault Twice t ∷ []) r) refl refl a)
defining_by {w} {d} vocab t r e false a h =
    record { at = record { is = elsewhere (at_place t.place) e.word r.words w (h refl) ∙ a.is; spared = now_spare w e.vocab e.name r.scope.table a.spared }; other = h refl }

defining_at : {w : ℕ} {d : Draft} (vocab : List ℕ) (t : Tok) (r : Reading) (es : List Entry) → all_spare w es ≡ true → At w d r → Beside w d (defining vocab t r es)
defining_at {w} {d} vocab t r [] h a =
    record {
      at = record { is = there_still r.words (draft_of vocab t ∷ []) w d a.is; spared = spare_more w r.scope.table (record { vocab = vocab; name = t.text; word = length r.words; is_defined = true }) a.spared refl };
      other = not_length r.words w d a.is;
    }
defining_at {w} {d} vocab t r (e ∷ es) h a =
    defining_by vocab t r e (list_any (λ f. f.is_defined) (e ∷ es)) a (λ k.
    not_there e.is_defined (nat_eq e.word w) (left (spares w e) (all_spare w es) h) (first_false e.is_defined (list_any (λ f. f.is_defined) es) k))

defined_at : {w : ℕ} {d : Draft} (vocab : List ℕ) (t : Tok) (r : Reading) → At w d r → Beside w d (defined vocab t r)
defined_at {w} {d} vocab t r a =
    defining_at vocab t r (holders r.scope.table vocab t.text) (filter_spare w (λ e. bytes_eq t.text e.name && same_table vocab e.vocab) r.scope.table a.spared) a

deferring_at : {w : ℕ} {d : Draft} (t : Tok) (r : Reading) (es : List Entry) → At w d r → At w d (deferring t r es)
deferring_at {w} {d} t r [] a =
    record {
      is = there_still r.words (draft_of (home r.scope) t ∷ []) w d a.is;
      spared = spare_more w r.scope.table (record { vocab = home r.scope; name = t.text; word = length r.words; is_defined = false }) a.spared (ap (λ b. not b) (not_length r.words w d a.is));
    }
deferring_at t r (e ∷ es) a = alike r (refused (fault Twice t ∷ []) r) refl refl a

told_at : {w : ℕ} {d : Draft} (sort : Sort) (effect : Signature) (inline recursive : Bool) (late : Late) (n : Numbered) → Beside w d n → At w d (told sort effect inline recursive late n)
told_at {w} {d} sort effect inline recursive late n b =
    record { is = elsewhere (with_told sort effect inline recursive late) n.word n.reading.words w b.other ∙ b.at.is; spared = b.at.spared }

own_at : {w : ℕ} {d : Draft} (t : Tok) (r : Reading) → At w d r → Beside w d (own t r)
own_at t r a = defined_at (home r.scope) t r a

plainly_at : {w : ℕ} {d : Draft} (sort : Sort) (ins outs : List (List ℕ)) (n : Numbered) → Beside w d n → At w d (plainly sort ins outs n)
plainly_at sort ins outs n b = told_at sort (plain_effect ins outs) false false settled n b

-- a text read between a name and what it is
text_at : {w : ℕ} {d : Draft} (ns : Nodes) (n : Numbered) → Beside w d n → Beside w d (record { word = n.word; reading = read_for ns n.reading })
text_at ns n b = record { at = alike n.reading (read_for ns n.reading) refl refl b.at; other = b.other }

use_one_at : {w : ℕ} {d : Draft} (r : Reading) (t : Tok) → At w d r → At w d (use_one r t)
use_one_at r t a = at_if (scoped (using_vocab t.text) r) (refused (fault NoVocab t ∷ []) r) (exists r.scope t.text) (alike r (scoped (using_vocab t.text) r) refl refl a) (alike r (refused (fault NoVocab t ∷ []) r) refl refl a)

bringing_one_at : {w : ℕ} {d : Draft} (t : Tok) (r : Reading) (o : Option ℕ) → At w d r → At w d (bringing_one t r o)
bringing_one_at t r (Some v) a = alike r (scoped (bringing (named t.text v)) r) refl refl a
bringing_one_at t r None a = alike r (refused (fault Unknown t ∷ []) r) refl refl a

making_at : {w : ℕ} {d : Draft} (t : Tok) (sort : Sort) (ins outs : List (List ℕ)) (r : Reading) (es : List Entry) → At w d r → At w d (making t sort ins outs r es)
making_at t sort ins outs r [] a = plainly_at sort ins outs (defined (codes "accessors") t r) (defined_at (codes "accessors") t r a)
making_at t sort ins outs r (e ∷ es) a = a

accessor_at : {w : ℕ} {d : Draft} (t : Tok) (sort : Sort) (ins outs : List (List ℕ)) (r : Reading) → At w d r → At w d (accessor t sort ins outs r)
accessor_at t sort ins outs r a = making_at t sort ins outs r (holders r.scope.table (codes "accessors") t.text) a

with_slot_at : {w : ℕ} {d : Draft} (r : Reading) (t : Tok) → At w d r → At w d (with_slot r t)
with_slot_at r t a =
    accessor_at (record t { text = t.text ++ codes "<<" }) (putter t.text) (codes "value" ∷ codes "object" ∷ []) [] _ (
    accessor_at (record t { text = codes ">>" ++ t.text }) (setter t.text) (codes "object" ∷ codes "value" ∷ []) (codes "object" ∷ []) _ (
    accessor_at (record t { text = t.text ++ codes ">>" }) (getter t.text) (codes "object" ∷ []) (codes "value" ∷ []) r a))

class_words_at : {w : ℕ} {d : Draft} (t : Tok) (r : Reading) → At w d r → At w d (class_words t r).reading
class_words_at {w} {d} t r a =
    let c = length r.old_classes + length r.classes in
    let one = plainly (class c) [] (codes "value" ∷ []) (own t r) in
    let two = refused (fault_if (nat_lt 0 t.place.file && nat_le most_classes (counted r.words)) TooMany t) one in
    plainly_at (isa c) (codes "object" ∷ []) (codes "?" ∷ []) (own (record t { text = t.text ++ codes "?" }) two) (
    own_at (record t { text = t.text ++ codes "?" }) two (alike one two refl refl (plainly_at (class c) [] (codes "value" ∷ []) (own t r) (own_at t r a))))

class_form_at : {w : ℕ} {d : Draft} (t : Tok) (searched : List Tok) (names : Scope → Named) (r : Reading) → At w d r → At w d (class_form t searched names r)
class_form_at t searched names r a = alike (class_words t r).reading (class_form t searched names r) refl refl (class_words_at t r a)

-- a form leaves a word that no entry has as only deferred
pub form_at : {w : ℕ} {d : Draft} (form : Form) (r : Reading) → At w d r → At w d (take form r)
form_at (f_in v) r a = alike r (take (f_in v) r) refl refl a
form_at (f_use v) r a = use_one_at r v a
form_at (f_using vs) r a = at_fold use_one use_one_at vs r a
form_at (f_from v ns) r a =
    at_if (fold (bring_one v.text) r ns) (refused (fault NoVocab v ∷ []) r) (exists r.scope v.text) (at_fold (bring_one v.text) (λ q t b. bringing_one_at t q (word_held q.scope.table v.text t.text) b) ns r a)
    (alike r (refused (fault NoVocab v ∷ []) r) refl refl a)
form_at (f_qualified v p) r a =
    at_if (scoped (bringing (prefixed v.text p.text)) r) (refused (fault NoVocab v ∷ []) r) (exists r.scope v.text) (alike r (scoped (bringing (prefixed v.text p.text)) r) refl refl a)
    (alike r (refused (fault NoVocab v ∷ []) r) refl refl a)
form_at f_private r a = alike r (take f_private r) refl refl a
form_at f_public r a = alike r (take f_public r) refl refl a
form_at (f_defer n) r a = deferring_at n r (holders r.scope.table (home r.scope) n.text) a
form_at (f_symbol n) r a = plainly_at itself [] (codes "value" ∷ []) (own n r) (own_at n r a)
form_at (f_main n) r a = alike r (take (f_main n) r) refl refl a
form_at (f_define n e ns inline recursive) r a = told_at _ _ inline recursive _ (record { word = (own n r).word; reading = read_for ns (own n r).reading }) (text_at ns (own n r) (own_at n r a))
form_at (f_tuple n parent slots) r a = at_fold with_slot with_slot_at slots _ (class_form_at n (option_list parent) (λ s. a_tuple (option_map (ref s) parent) slots) r a)
form_at (f_union n members) r a = class_form_at n members (λ s. a_union (map (ref s) members)) r a
form_at (f_single n) r a = class_form_at n [] (λ s. a_single) r a
form_at (f_generic n e) r a = told_at generic e false false settled (own n r) (own_at n r a)
form_at (f_method c g ns) r a =
    let q = refused (search_faults r.scope (c ∷ g ∷ [])) r in
    told_at _ _ false false _ (record { word = (added [] g q).word; reading = read_for ns (added [] g q).reading }) (text_at ns (added [] g q) (added_at [] g q (alike r q refl refl a)))
form_at (f_items ns) r a = alike r (take (f_items ns) r) refl refl a
form_at (f_constant n l) r a = a
form_at (f_locals n inputs e ns inline recursive) r a = a
form_at (f_maker n c) r a = a

-- Files, and the end.

file_at : {w : ℕ} {d : Draft} (keep : Bool) (r : Reading) (forms : List Form) → At w d r → At w d (take_file keep r forms)
file_at keep r forms a =
    at_fold (λ q form. take form q) (λ q form b. form_at form q b) (read_forms forms) (if keep then r else scoped begun r) (at_if r (scoped begun r) keep a (alike r (scoped begun r) refl refl a))

pub defined_spare : (w : ℕ) (es : List Entry) → list_all (λ e. e.is_defined) es ≡ true → all_spare w es ≡ true
defined_spare w [] h = refl
defined_spare w (e ∷ es) h =
    both (spares w e) (all_spare w es) (ap (λ b. b || not (nat_eq e.word w)) (left e.is_defined (list_all (λ f. f.is_defined) es) h)) (
    defined_spare w es (right e.is_defined (list_all (λ f. f.is_defined) es) h))

-- a word that is settled is finished
pub finished_at : (keep : Bool) (r : Reading) (w : ℕ) (d : WordDef) → At w (settled_draft d) r → slice_get (program_of keep r).words w ≡ Some d
finished_at keep r w d a =
    there_still (map (finished r.words (classes_of r.words r.old_classes r.classes)) r.words) _ w d (slice_get-map (finished r.words (classes_of r.words r.old_classes r.classes)) r.words w ∙ ap (option_map (finished r.words (classes_of r.words r.old_classes r.classes))) a.is)

pub files_at : {w : ℕ} {d : Draft} (keep : Bool) (files : List (List Form)) (r : Reading) → At w d r → At w d (fold (take_file keep) r files)
files_at keep files r a = at_fold (take_file keep) (λ s forms b. file_at keep s forms b) files r a
