-- The words of a program of which the end refuses nothing, with its classes.
use Rattle.std.proofs.Common.{◌≡◌, ◌≤◌, ℕ, suc, List, [], ◌∷◌, ◌++◌, map, length, slice_get, Option, Some, None, Bool, true, false, refl, ap, sym, ◌∙◌, subst, arith}
use Rattle.std.specs.Prelude.{◌&&◌, nat_le, nat_lt, not}
use Rattle.std.specs.List.{list_all, list_any}
use Rattle.std.specs.Str.{bytes_eq}
use Rattle.std.proofs.lemmas.List.Folds.{list_all-append, list_any-append}
use Rattle.std.proofs.lemmas.Slice.Eq.{bytes_eq-Decides}
use Rattle.fac_lang.proofs.SourcePrograms.{AreWordsOf, IsSortOf}
use Rattle.fac_names.proofs.PrimitiveNumbers.{numbers_before, primitive_numbers, numbers_in}
use Rattle.fac_lang.specs.Meaning.{is_past, sort_of}
use Rattle.fac_lang.specs.Phrases.{Phrase}
use Rattle.fac_base.specs.Signatures.{Signature, signature, Inputs, no_inputs, value, quoted, Leaving, never, leaves}
use Rattle.fac_lang.specs.Whole.{arrays_named, effect_eq, effect_of, has_generic_effect, inputs_eq, is_effect, is_generic, joined, leaving_eq, name_count, names_eq, no_two, same_method, side_eq, word_phrases}
use Rattle.fac_lang.specs.declared.program.ClassDef.{ClassDef}
use Rattle.fac_lang.specs.declared.program.Program.{Program}
use Rattle.fac_lang.specs.declared.program.Sort.{Sort}
use Rattle.fac_lang.specs.declared.program.Sort.TheVariants.{Body as body, Past as past, Class as class, Isa as isa, Generic as generic, Method as method}
use Rattle.fac_lang.specs.declared.program.WordDef.{WordDef}
use Rattle.fac_lang.proofs.FormsLemmas.{sort_at}
use Rattle.fac_vocab.specs.declared.entry.Entry.{Entry}
use Rattle.fac_endings.specs.declared.draft.Draft.{Draft}
use Rattle.fac_endings.specs.declared.draft.Late.{Late}
use Rattle.fac_endings.specs.declared.draft.Late.TheVariants.{Settled as settled, Deferred as deferred, Maker as maker, Method as method_of}
use Rattle.fac_endings.specs.FinishedWords.{finished}
use Rattle.fac_endings.specs.LastRefusals.{words_faults}
use Rattle.fac_names.specs.Resolution.{settled_draft}
use Rattle.fac_endings.proofs.Apart.{all_at, and_true, differ_behind, false_both, or_false, true_both}
use Rattle.fac_endings.proofs.EndedClasses.{DraftsFit, class_in, draft_fits, is_new, is_new_sort}
use Rattle.fac_endings.proofs.EndedWords.{FinishOf, stays, makes, methods, FinishesOf, methods_turn, words_apart}
use Rattle.fac_names.proofs.ArrayReadings.{named_in, names_by}
use Rattle.fac_names.proofs.BuiltReadings.{DraftsBuilt, IsBuiltLate, draft_ok}
use Rattle.fac_names.proofs.Distinct.{AccessorWords}
use Rattle.fac_names.proofs.Fronts.{Fronted, is_generic_of, method_stands}
use Rattle.fac_names.specs.Forms.{accessor_text}
use Rattle.fac_names.proofs.HeldNames.{AccessorAt, AccessorsHeld, no_accessor}
use Rattle.fac_names.proofs.WholePrograms.{sort_named}

-- An effect is the same as itself.

text_self : (x : List ℕ) → bytes_eq x x ≡ true
text_self x = (bytes_eq-Decides x x).1 refl

side_self : (o : Option (List ℕ)) → side_eq o o ≡ true
side_self None = refl
side_self (Some r) = text_self r

names_self : (xs : List (List ℕ)) → names_eq xs xs ≡ true
names_self [] = refl
names_self (x ∷ xs) = and_true (bytes_eq x x) (names_eq xs xs) (text_self x) (names_self xs)

leaving_self : (l : Leaving) → leaving_eq l l ≡ true
leaving_self never = refl
leaving_self (leaves r xs) = and_true (side_eq r r) (names_eq xs xs) (side_self r) (names_self xs)

mutual
  pub effect_self : (e : Signature) → effect_eq e e ≡ true
  effect_self (signature r is l) = and_true (side_eq r r && inputs_eq is is) (leaving_eq l l) (and_true (side_eq r r) (inputs_eq is is) (side_self r) (inputs_self is)) (leaving_self l)

  inputs_self : (is : Inputs) → inputs_eq is is ≡ true
  inputs_self no_inputs = refl
  inputs_self (value x is) = and_true (bytes_eq x x) (inputs_eq is is) (text_self x) (inputs_self is)
  inputs_self (quoted x e is) = and_true (bytes_eq x x && effect_eq e e) (inputs_eq is is) (and_true (bytes_eq x x) (effect_eq e e) (text_self x) (effect_self e)) (inputs_self is)

-- Words at the end are built.

body_built : (may : ℕ → Bool) (d e : WordDef) (s : Sort) (t : Phrase) → s ≡ body t → IsSortOf may d s → IsSortOf may e s
body_built may d e s t is h = subst (IsSortOf may e) (sym is) (subst (IsSortOf may d) is h)

word_built : (may : ℕ → Bool) (n : ℕ) (ds : List Draft) (w e : WordDef) (l : Late) → FinishOf ds n w l e → IsBuiltLate may w l → IsSortOf may e e.sort
word_built may n ds w e settled stays h = h
word_built may n ds w e deferred f h = elim f [ ]
word_built may n ds w e (maker q) (makes r t s is few) h = body_built may w (record w { effect = s }) w.sort t is h.built
word_built may n ds w e (method_of p q) (methods x y t c g d is less at called) h = (record { not_inline = h.not_inline; not_recursive = h.not_recursive }, subst (IsSortOf may w) is h.built)

pub words_built : (may : ℕ → Bool) (ds : List Draft) (cs : List ClassDef) (xs : List Draft) → FinishesOf ds cs xs → DraftsBuilt may xs → AreWordsOf may (map (finished ds cs) xs)
words_built may ds cs [] h k = tt
words_built may ds cs (x ∷ xs) h k = (word_built may (length cs) ds x.word (finished ds cs x) x.late h.0 k.0, words_built may ds cs xs h.1 k.1)

-- They are the primitives that they were told to be.

same_numbers : (n : ℕ) (ds : List Draft) (w e : WordDef) (l : Late) (ks : List ℕ) → FinishOf ds n w l e → numbers_before e.sort ks ≡ numbers_before w.sort ks
same_numbers n ds w e settled ks stays = refl
same_numbers n ds w e deferred ks f = elim f [ ]
same_numbers n ds w e (maker q) ks (makes r t s is few) = refl
same_numbers n ds w e (method_of p q) ks (methods x y t c g d is less at called) = sym (ap (λ (s : Sort). numbers_before s ks) is)

pub numbers_same : (ds : List Draft) (cs : List ClassDef) (xs : List Draft) → FinishesOf ds cs xs → primitive_numbers (map (finished ds cs) xs) ≡ numbers_in xs
numbers_same ds cs [] h = refl
numbers_same ds cs (x ∷ xs) h =
    ap (numbers_before (finished ds cs x).sort) (numbers_same ds cs xs h.1)
    ∙ same_numbers (length cs) ds x.word (finished ds cs x) x.late (numbers_in xs) h.0

-- They name the arrays that they named.

same_names : (n : ℕ) (ds : List Draft) (w e : WordDef) (l : Late) → FinishOf ds n w l e → names_by e.sort ≡ names_by w.sort
same_names n ds w e settled stays = refl
same_names n ds w e deferred f = elim f [ ]
same_names n ds w e (maker q) (makes r t s is few) = refl
same_names n ds w e (method_of p q) (methods x y t c g d is less at called) = sym (ap names_by is)

abbrev with_phrase : Sort → List Phrase → List Phrase
with_phrase s ts = elim s [ body t ↦ t ∷ ts | past t ↦ t ∷ ts | method c g t ↦ t ∷ ts | _ ↦ ts ]

pub sort_names : (s : Sort) (ts : List Phrase) → joined (map arrays_named (with_phrase s ts)) ≡ names_by s ++ joined (map arrays_named ts)
sort_names (body t) ts = refl
sort_names (past t) ts = refl
sort_names (method c g t) ts = refl
sort_names s ts = refl

pub names_same : (ds : List Draft) (cs : List ClassDef) (xs : List Draft) → FinishesOf ds cs xs → joined (map arrays_named (word_phrases (map (finished ds cs) xs))) ≡ named_in xs
names_same ds cs [] h = refl
names_same ds cs (x ∷ xs) h =
    sort_names (finished ds cs x).sort (word_phrases (map (finished ds cs) xs))
    ∙ ap (λ (ns : List ℕ). ns ++ joined (map arrays_named (word_phrases (map (finished ds cs) xs)))) (same_names (length cs) ds x.word (finished ds cs x) x.late h.0)
    ∙ ap (λ (ns : List ℕ). names_by x.word.sort ++ ns) (names_same ds cs xs h.1)

-- Accessors are held under their names.

same_accessor : (n : ℕ) (ds : List Draft) (table : List Entry) (k : ℕ) (w e : WordDef) (l : Late) → FinishOf ds n w l e → AccessorAt table k w.sort → AccessorAt table k e.sort
same_accessor n ds table k w e settled stays h = h
same_accessor n ds table k w e deferred f h = elim f [ ]
same_accessor n ds table k w e (maker q) (makes r t s is few) h = h
same_accessor n ds table k w e (method_of p q) (methods x y t c g d is less at called) h = no_accessor table k (method c g t) refl

pub accessor_words : (ds : List Draft) (cs : List ClassDef) (table : List Entry) (k : ℕ) (xs : List Draft) (last : WordDef) → accessor_text last.sort ≡ None → FinishesOf ds cs xs → AccessorsHeld table k xs → AccessorWords table k (map (finished ds cs) xs ++ last ∷ [])
accessor_words ds cs table k [] last none h held = (no_accessor table k last.sort none, tt)
accessor_words ds cs table k (x ∷ xs) last none h held = (same_accessor (length cs) ds table k x.word (finished ds cs x) x.late h.0 held.0, accessor_words ds cs table (suc k) xs last none h.1 held.1)

-- Tests of all words.

abbrev draft_with : WordDef → Late → Draft
draft_with w l = record { word = w; late = l }

finishes_pass : (ds : List Draft) (cs : List ClassDef) (f : WordDef → Bool) → ((w e : WordDef) (l : Late) → draft_ok (length cs) (draft_with w l) ≡ true → FinishOf ds (length cs) w l e → f e ≡ true) → (xs : List Draft) → list_all (draft_ok (length cs)) xs ≡ true → FinishesOf ds cs xs → list_all f (map (finished ds cs) xs) ≡ true
finishes_pass ds cs f each [] ok h = refl
finishes_pass ds cs f each (x ∷ xs) ok h =
    let both = true_both (draft_ok (length cs) x) (list_all (draft_ok (length cs)) xs) ok in
    and_true (f (finished ds cs x)) (list_all f (map (finished ds cs) xs)) (each x.word (finished ds cs x) x.late both.0 h.0) (finishes_pass ds cs f each xs both.1 h.1)

-- with the word of the top-level phrase
pub all_pass : (ds : List Draft) (cs : List ClassDef) (f : WordDef → Bool) (last : WordDef) → ((w e : WordDef) (l : Late) → draft_ok (length cs) (draft_with w l) ≡ true → FinishOf ds (length cs) w l e → f e ≡ true) → f last ≡ true → list_all (draft_ok (length cs)) ds ≡ true → FinishesOf ds cs ds → list_all f (map (finished ds cs) ds ++ last ∷ []) ≡ true
all_pass ds cs f last each at_last ok h =
    list_all-append f (map (finished ds cs) ds) (last ∷ [])
    ∙ and_true (list_all f (map (finished ds cs) ds)) (f last && true) (finishes_pass ds cs f each ds ok h) (and_true (f last) true at_last refl)

at_most : (a : ℕ) → a ≤ 65 → nat_le a 65 ≡ true
at_most a h = grind arith

few_in : (n : ℕ) (d : Draft) → draft_ok n d ≡ true → nat_le (name_count d.word.effect) 65 ≡ true
few_in n d h = (true_both (draft_fits n d) (nat_le (name_count d.word.effect) 65) h).1

pub few_pass : (n : ℕ) (ds : List Draft) → list_all (draft_ok n) ds ≡ true → (w e : WordDef) (l : Late) → draft_ok n (draft_with w l) ≡ true → FinishOf ds n w l e → nat_le (name_count e.effect) 65 ≡ true
few_pass n ds all w e settled ok stays = few_in n (draft_with w settled) ok
few_pass n ds all w e deferred ok f = elim f [ ]
few_pass n ds all w e (maker q) ok (makes r t s is few) = at_most (name_count s) few
few_pass n ds all w e (method_of p q) ok (methods x y t c g d is less at called) = few_in n d (all_at (draft_ok n) ds g d all at)

class_of_draft : (n : ℕ) (w : WordDef) (l : Late) → draft_ok n (draft_with w l) ≡ true → class_in n w.sort ≡ true
class_of_draft n w l h = (true_both (class_in n w.sort) _ (true_both (draft_fits n (draft_with w l)) (nat_le (name_count w.effect) 65) h).0).0

-- generics are in the program as they were told
abbrev pub GenericsStay : List Draft → Program → Type 0
GenericsStay ds P = (g : ℕ) (d : Draft) → slice_get ds g ≡ Some d → d.word.sort ≡ generic → slice_get P.words g ≡ Some d.word

named_sort : (P : Program) (s : Sort) → class_in (length P.classes) s ≡ true → is_new_sort s ≡ true → sort_named P s ≡ true
named_sort P (class c) h new = h
named_sort P (isa c) h new = h
named_sort P (method c g t) h new = absurd (cc)
named_sort P s h new = refl

pub names_pass : (P : Program) (ds : List Draft) → GenericsStay ds P → (w e : WordDef) (l : Late) → draft_ok (length P.classes) (draft_with w l) ≡ true → is_new_sort w.sort ≡ true → FinishOf ds (length P.classes) w l e → sort_named P e.sort ≡ true
names_pass P ds stay w e settled ok new stays = named_sort P w.sort (class_of_draft (length P.classes) w settled ok) new
names_pass P ds stay w e deferred ok new f = elim f [ ]
names_pass P ds stay w e (maker q) ok new (makes r t s is few) = named_sort P w.sort (class_of_draft (length P.classes) w (maker r) ok) new
names_pass P ds stay w e (method_of p q) ok new (methods x y t c g d is less at called) =
    and_true (nat_lt c (length P.classes)) _ less (ap is_generic (sort_at P g d.word (stay g d at called) ∙ ap (λ (s : Sort). Some s) called))

no_method : (P : Program) (w : WordDef) (s : Sort) → w.sort ≡ s → is_new_sort s ≡ true → has_generic_effect P w ≡ true
no_method P w (method c g t) is h = absurd (cc)
no_method P w s is h = rw is refl

pub effects_pass : (P : Program) (ds : List Draft) → GenericsStay ds P → (w e : WordDef) (l : Late) → draft_ok (length P.classes) (draft_with w l) ≡ true → is_new_sort w.sort ≡ true → FinishOf ds (length P.classes) w l e → has_generic_effect P e ≡ true
effects_pass P ds stay w e settled ok new stays = no_method P w w.sort refl new
effects_pass P ds stay w e deferred ok new f = elim f [ ]
effects_pass P ds stay w e (maker q) ok new (makes r t s is few) = no_method P (record w { effect = s }) w.sort refl new
effects_pass P ds stay w e (method_of p q) ok new (methods x y t c g d is less at called) =
    ap (λ (o : Option WordDef). is_effect (elim o [ Some f ↦ Some f.effect | None ↦ None ]) d.word.effect) (stay g d at called)
    ∙ effect_self d.word.effect

pub no_past_passes : (ds : List Draft) (n : ℕ) (w e : WordDef) (l : Late) → draft_ok n (draft_with w l) ≡ true → is_new_sort w.sort ≡ true → FinishOf ds n w l e → not (is_past (Some e.sort)) ≡ true
no_past_passes ds n w e settled ok new stays = one w.sort new
  where
    one : (s : Sort) → is_new_sort s ≡ true → not (is_past (Some s)) ≡ true
    one (past t) h = absurd (cc)
    one s h = refl
no_past_passes ds n w e deferred ok new f = elim f [ ]
no_past_passes ds n w e (maker q) ok new (makes r t s is few) = ap (λ (u : Sort). not (is_past (Some u))) is
no_past_passes ds n w e (method_of p q) ok new (methods x y t c g d is less at called) = refl

-- Words of earlier texts, and those behind them.

words_split : (ds : List Draft) (cs : List ClassDef) (front : List WordDef) (rest : List Draft) → map (finished ds cs) (map settled_draft front ++ rest) ≡ front ++ map (finished ds cs) rest
words_split ds cs [] rest = refl
words_split ds cs (d ∷ front) rest = ap (λ (ws : List WordDef). d ∷ ws) (words_split ds cs front rest)

pub front_words : (ds : List Draft) (cs : List ClassDef) (front : List WordDef) (h : Fronted front ds) → map (finished ds cs) ds ≡ front ++ map (finished ds cs) h.rest
front_words ds cs front h = ap (map (finished ds cs)) h.are ∙ words_split ds cs front h.rest

finishes_behind : (ds : List Draft) (cs : List ClassDef) (front : List WordDef) (rest : List Draft) → FinishesOf ds cs (map settled_draft front ++ rest) → FinishesOf ds cs rest
finishes_behind ds cs [] rest h = h
finishes_behind ds cs (d ∷ front) rest h = finishes_behind ds cs front rest h.1

test_split : (f : Draft → Bool) (ds : List Draft) (front : List WordDef) (h : Fronted front ds) → list_all f ds ≡ true → (list_all f (map settled_draft front) ≡ true) × (list_all f h.rest ≡ true)
test_split f ds front h all = true_both (list_all f (map settled_draft front)) (list_all f h.rest) (sym (list_all-append f (map settled_draft front) h.rest) ∙ sym (ap (list_all f) h.are) ∙ all)

new_finish : (ds : List Draft) (cs : List ClassDef) (f : WordDef → Bool) → ((w e : WordDef) (l : Late) → draft_ok (length cs) (draft_with w l) ≡ true → is_new_sort w.sort ≡ true → FinishOf ds (length cs) w l e → f e ≡ true) → (xs : List Draft) → list_all (draft_ok (length cs)) xs ≡ true → list_all is_new xs ≡ true → FinishesOf ds cs xs → list_all f (map (finished ds cs) xs) ≡ true
new_finish ds cs f each [] ok new h = refl
new_finish ds cs f each (x ∷ xs) ok new h =
    let both = true_both (draft_ok (length cs) x) (list_all (draft_ok (length cs)) xs) ok in
    let fresh = true_both (is_new x) (list_all is_new xs) new in
    and_true (f (finished ds cs x)) (list_all f (map (finished ds cs) xs)) (each x.word (finished ds cs x) x.late both.0 fresh.0 h.0) (new_finish ds cs f each xs both.1 fresh.1 h.1)

pub rest_pass : (ds : List Draft) (cs : List ClassDef) (f : WordDef → Bool) (front : List WordDef) (h : Fronted front ds) → ((w e : WordDef) (l : Late) → draft_ok (length cs) (draft_with w l) ≡ true → is_new_sort w.sort ≡ true → FinishOf ds (length cs) w l e → f e ≡ true) → list_all (draft_ok (length cs)) ds ≡ true → FinishesOf ds cs ds → list_all f (map (finished ds cs) h.rest) ≡ true
rest_pass ds cs f front h each ok finishes = new_finish ds cs f each h.rest (test_split (draft_ok (length cs)) ds front h ok).1 h.new (finishes_behind ds cs front h.rest (subst (FinishesOf ds cs) h.are finishes))

-- with the words of earlier texts and that of the top-level phrase
pub split_pass : (ds : List Draft) (cs : List ClassDef) (f : WordDef → Bool) (last : WordDef) (front : List WordDef) (h : Fronted front ds) → list_all f front ≡ true → ((w e : WordDef) (l : Late) → draft_ok (length cs) (draft_with w l) ≡ true → is_new_sort w.sort ≡ true → FinishOf ds (length cs) w l e → f e ≡ true) → f last ≡ true → list_all (draft_ok (length cs)) ds ≡ true → FinishesOf ds cs ds →
    list_all f (map (finished ds cs) ds ++ last ∷ []) ≡ true
split_pass ds cs f last front h old each at_last ok finishes =
    list_all-append f (map (finished ds cs) ds) (last ∷ [])
    ∙ and_true (list_all f (map (finished ds cs) ds)) (f last && true)
    (ap (list_all f) (front_words ds cs front h) ∙ list_all-append f front (map (finished ds cs) h.rest) ∙ and_true (list_all f front) (list_all f (map (finished ds cs) h.rest)) old (rest_pass ds cs f front h each ok finishes))
    (and_true (f last) true at_last refl)

-- Methods of earlier texts have their generics still.

-- earlier words are in the program as they were
abbrev pub FrontStays : List WordDef → Program → Type 0
FrontStays front P = (w : ℕ) (d : WordDef) → slice_get front w ≡ Some d → slice_get P.words w ≡ Some d

generic_there : (P : Program) (front : List WordDef) (g : ℕ) (e : Signature) (o : Option WordDef) → FrontStays front P → slice_get front g ≡ o → is_generic_of o e ≡ true → (is_generic (sort_of P g) ≡ true) × (is_effect (effect_of P g) e ≡ true)
generic_there P front g e None stay at h = absurd (cc)
generic_there P front g e (Some d) stay at h =
    let both = true_both (is_generic (Some d.sort)) (effect_eq d.effect e) h in
    let there = stay g d at in
    (ap is_generic (sort_at P g d there) ∙ both.0, ap (λ (o : Option WordDef). is_effect (elim o [ Some f ↦ Some f.effect | None ↦ None ]) e) there ∙ both.1)

front_named : (P : Program) (front : List WordDef) (e : Signature) (s : Sort) → FrontStays front P → class_in (length P.classes) s ≡ true → elim s [ method c g t ↦ is_generic_of (slice_get front g) e | _ ↦ true ] ≡ true → sort_named P s ≡ true
front_named P front e (class c) stay h k = h
front_named P front e (isa c) stay h k = h
front_named P front e (method c g t) stay h k = and_true (nat_lt c (length P.classes)) (is_generic (sort_of P g)) h (generic_there P front g e (slice_get front g) stay refl k).0
front_named P front e s stay h k = refl

pub fronts_named : (P : Program) (front ws : List WordDef) → FrontStays front P → list_all (draft_ok (length P.classes)) (map settled_draft ws) ≡ true → list_all (method_stands front) ws ≡ true → list_all (λ (d : WordDef). sort_named P d.sort) ws ≡ true
fronts_named P front [] stay ok h = refl
fronts_named P front (d ∷ ws) stay ok h =
    let here = true_both (draft_ok (length P.classes) (settled_draft d)) (list_all (draft_ok (length P.classes)) (map settled_draft ws)) ok in
    let both = true_both (method_stands front d) (list_all (method_stands front) ws) h in
    and_true (sort_named P d.sort) (list_all (λ (e : WordDef). sort_named P e.sort) ws) (front_named P front d.effect d.sort stay (class_of_draft (length P.classes) d settled here.0) both.0) (fronts_named P front ws stay here.1 both.1)

front_effect : (P : Program) (front : List WordDef) (e : Signature) (s : Sort) → FrontStays front P → elim s [ method c g t ↦ is_generic_of (slice_get front g) e | _ ↦ true ] ≡ true → elim s [ method c g t ↦ is_effect (effect_of P g) e | _ ↦ true ] ≡ true
front_effect P front e (method c g t) stay k = (generic_there P front g e (slice_get front g) stay refl k).1
front_effect P front e s stay k = refl

pub fronts_effects : (P : Program) (front ws : List WordDef) → FrontStays front P → list_all (method_stands front) ws ≡ true → list_all (has_generic_effect P) ws ≡ true
fronts_effects P front [] stay h = refl
fronts_effects P front (d ∷ ws) stay h =
    let both = true_both (method_stands front d) (list_all (method_stands front) ws) h in
    and_true (has_generic_effect P d) (list_all (has_generic_effect P) ws) (front_effect P front d.effect d.sort stay both.0) (fronts_effects P front ws stay both.1)

pub front_ok : (n : ℕ) (ds : List Draft) (front : List WordDef) (h : Fronted front ds) → list_all (draft_ok n) ds ≡ true → list_all (draft_ok n) (map settled_draft front) ≡ true
front_ok n ds front h ok = (test_split (draft_ok n) ds front h ok).0

-- No two methods are the same.

pub differ_last : {A : Type 0} (alike : A → A → Bool) (xs : List A) (last : A) → ((x : A) → alike x last ≡ false) → no_two alike xs ≡ true → no_two alike (xs ++ last ∷ []) ≡ true
differ_last alike [] last none h = refl
differ_last alike (x ∷ xs) last none h =
    let both = true_both _ (no_two alike xs) h in
    and_true _ (no_two alike (xs ++ last ∷ []))
    (ap not (list_any-append (alike x) xs (last ∷ []) ∙ or_false (list_any (alike x) xs) (list_any (alike x) (last ∷ [])) (not_true (list_any (alike x) xs) both.0) (or_false (alike x last) false (none x) refl)))
    (differ_last alike xs last none both.1)
  where
    not_true : (b : Bool) → not b ≡ true → b ≡ false
    not_true true e = cc
    not_true false e = refl

not_alike : (x last : WordDef) (t : Phrase) → last.sort ≡ body t → same_method x last ≡ false
not_alike x last t is = methods_turn x last ∙ rw is refl

pub methods_differ : (ws : List WordDef) (last : WordDef) (t : Phrase) → last.sort ≡ body t → no_two same_method ws ≡ true → no_two same_method (ws ++ last ∷ []) ≡ true
methods_differ ws last t is h = differ_last same_method ws last (λ x. not_alike x last t is) h

-- words from the last one to the first, with others behind them
abbrev back : List WordDef → List WordDef → List WordDef
back [] ws = ws
back (d ∷ ds) ws = back ds (d ∷ ws)

none_in_back : (f : WordDef → Bool) (ds ws : List WordDef) → list_any f (back ds ws) ≡ false → (list_any f ds ≡ false) × (list_any f ws ≡ false)
none_in_back f [] ws h = (refl, h)
none_in_back f (d ∷ ds) ws h =
    let rest = none_in_back f ds (d ∷ ws) h in
    let both = false_both (f d) (list_any f ws) rest.1 in
    (or_false (f d) (list_any f ds) both.0 rest.0, both.1)

faults_behind : (ds : List Draft) (cs : List ClassDef) (front earlier : List WordDef) (rest : List Draft) → words_faults ds cs earlier (map settled_draft front ++ rest) ≡ words_faults ds cs (back front earlier) rest
faults_behind ds cs [] earlier rest = refl
faults_behind ds cs (d ∷ front) earlier rest = faults_behind ds cs front (d ∷ earlier) rest

pub all_apart : (ds : List Draft) (cs : List ClassDef) (front : List WordDef) (h : Fronted front ds) → DraftsFit (length cs) ds → words_faults ds cs [] ds ≡ [] → no_two same_method (map (finished ds cs) ds) ≡ true
all_apart ds cs front h fits none =
    ap (no_two same_method) (front_words ds cs front h)
    ∙ differ_behind same_method methods_turn (back front []) front (map (finished ds cs) h.rest) h.apart (λ x there. λ f out. there f (none_in_back f front [] out).0)
    (words_apart ds cs (back front []) h.rest (test_split (draft_fits (length cs)) ds front h fits).1 h.new (sym (faults_behind ds cs front [] h.rest) ∙ sym (ap (words_faults ds cs []) h.are) ∙ none))
