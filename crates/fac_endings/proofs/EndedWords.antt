-- The words of a program of which the end refuses nothing.
use Rattle.std.proofs.Common.{◌≡◌, ◌≤◌, ℕ, zero, suc, nat_eq, List, [], ◌∷◌, ◌++◌, map, length, slice_get, Option, Some, None, Bool, true, false, refl, ap, sym, ◌∙◌, subst, arith}
use Rattle.std.specs.Prelude.{◌&&◌, nat_lt, not}
use Rattle.std.specs.List.{list_all, list_any}
use Rattle.std.specs.Option.{option_map}
use Rattle.fac_lang.specs.Classes.{slots_within}
use Rattle.fac_lang.specs.Phrases.{Phrase}
use Rattle.fac_lang.specs.PrimitiveWords.{plain_inputs}
use Rattle.fac_base.specs.Signatures.{Signature}
use Rattle.fac_lang.specs.Whole.{inputs_name_count, name_count, same_method}
use Rattle.fac_lang.specs.declared.program.ClassDef.{ClassDef}
use Rattle.fac_lang.specs.declared.program.Sort.{Sort}
use Rattle.fac_lang.specs.declared.program.Sort.TheVariants.{Body as body, Generic as generic, Method as method}
use Rattle.fac_lang.specs.declared.program.WordDef.{WordDef}
use Rattle.fac_source.specs.declared.refusal.NameKind.TheVariants.{NotClass, NotGeneric, Twice}
use Rattle.fac_source.specs.declared.tok.Ref.{Ref}
use Rattle.fac_source.specs.Refusals.{fault_if}
use Rattle.fac_source.specs.Toks.{number}
use Rattle.fac_endings.specs.declared.draft.Draft.{Draft}
use Rattle.fac_endings.specs.declared.draft.Late.{Late}
use Rattle.fac_endings.specs.declared.draft.Late.TheVariants.{Settled as settled, Deferred as deferred, Maker as maker, Method as method_of}
use Rattle.fac_endings.specs.ClassTable.{class_at, is_tuple_class, word_at, word_numbered}
use Rattle.fac_endings.specs.FinishedWords.{as_method, effect_of_word, finished, maker_effect, with_maker}
use Rattle.fac_endings.specs.LastRefusals.{class_fault, is_generic_sort, is_generic_word, late_faults, words_faults}
use Rattle.fac_endings.proofs.Apart.{AreApart, all_at, none_passes, true_both}
use Rattle.fac_endings.proofs.EndedClasses.{DraftsFit, class_below, class_in, draft_fits, is_new, is_new_sort, late_in, no_faults, not_false, not_refused}

-- What a word is at the end: as it was told, or with an effect that the end gives it, or a method.
pub data FinishOf (ds : List Draft) (n : ℕ) (w : WordDef) : Late → WordDef → Type 0 where
  stays : FinishOf ds n w settled w
  makes : (r : Ref) (t : Phrase) (e : Signature) → w.sort ≡ body t → name_count e ≤ 65 → FinishOf ds n w (maker r) (record w { effect = e })
  methods : (x y : Ref) (t : Phrase) (c g : ℕ) (d : Draft) → w.sort ≡ body t → nat_lt c n ≡ true → slice_get ds g ≡ Some d → d.word.sort ≡ generic → FinishOf ds n w (method_of x y) (record w { sort = method c g t; effect = d.word.effect })

pub no_method : (w : WordDef) (s : Sort) → w.sort ≡ s → is_new_sort s ≡ true → (e : WordDef) → same_method w e ≡ false
no_method w (method c g t) is h e = absurd (cc)
no_method w s is h e = rw is refl

inputs_counted : (xs : List (List ℕ)) → inputs_name_count (plain_inputs xs) ≡ length xs
inputs_counted [] = refl
inputs_counted (x ∷ xs) = let rest = inputs_counted xs in omega (arith, rest)

maker_few : (cs : List ClassDef) (r : Ref) (c : ℕ) → length (slots_within (length cs) cs c) ≤ 64 → name_count (maker_effect cs r c) ≤ 65
maker_few cs r c few = let count = inputs_counted (slots_within (length cs) cs c) in omega (arith, few, count)

maker_body : (r : Ref) (s : Sort) → late_in s (maker r) ≡ true → (t : Phrase) × (s ≡ body t)
maker_body r (body t) h = (t, refl)
maker_body r s h = absurd (cc)

method_body : (c g : Ref) (s : Sort) → late_in s (method_of c g) ≡ true → (t : Phrase) × (s ≡ body t)
method_body c g (body t) h = (t, refl)
method_body c g s h = absurd (cc)

class_is : (ds : List Draft) (r : Ref) (o : Option ℕ) → class_at ds r ≡ o → class_fault o r.tok ≡ [] → (c : ℕ) × (class_at ds r ≡ Some c)
class_is ds r (Some c) is h = (c, is)
class_is ds r None is h = absurd (cc)

-- the word of a generic's name
record GenericAt (ds : List Draft) (g : Ref) : Type 0 where
  draft : Draft
  at : slice_get ds (number g.word) ≡ Some draft
  sort_is : draft.word.sort ≡ generic
  effect_is : effect_of_word (word_at ds g) ≡ draft.word.effect

generic_sort : (s : Sort) → is_generic_sort s ≡ true → s ≡ generic
generic_sort generic h = refl
generic_sort s h = absurd (cc)

generic_at : (ds : List Draft) (g : Ref) → is_generic_word (word_at ds g) ≡ true → GenericAt ds g
generic_at ds g h = by_word g.word refl h
  where
    by_draft : (w : ℕ) (o : Option Draft) → g.word ≡ Some w → slice_get ds w ≡ o → is_generic_word (option_map (λ (d : Draft). d.word) o) ≡ true → GenericAt ds g
    by_draft w None is there k = absurd (cc)
    by_draft w (Some d) is there k =
        record {
          draft = d;
          at = ap (λ (o : Option ℕ). slice_get ds (number o)) is ∙ there;
          sort_is = generic_sort d.word.sort k;
          effect_is = ap (λ (o : Option ℕ). effect_of_word (word_numbered ds o)) is ∙ ap (λ (o : Option Draft). effect_of_word (option_map (λ (d : Draft). d.word) o)) there;
        }

    by_word : (o : Option ℕ) → g.word ≡ o → is_generic_word (word_numbered ds o) ≡ true → GenericAt ds g
    by_word None is k = absurd (cc)
    by_word (Some w) is k = by_draft w (slice_get ds w) is refl k

-- what the end refuses of a method
record MethodClear (ds : List Draft) (second : Bool) (c g : Ref) : Type 0 where
  class : ℕ
  class_at_is : class_at ds c ≡ Some class
  generic_is : is_generic_word (word_at ds g) ≡ true
  first : second ≡ false

second_not : (a b : Bool) → a ≡ true → (a && b) ≡ false → b ≡ false
second_not true b h k = k
second_not false b h k = absurd (cc)

method_clear : (ds : List Draft) (cs : List ClassDef) (second : Bool) (w : WordDef) (c g : Ref) → late_faults ds cs second w (method_of c g) ≡ [] → MethodClear ds second c g
method_clear ds cs second w c g h =
    let no_class = class_fault (class_at ds c) c.tok in
    let no_generic = fault_if (not (is_generic_word (word_at ds g))) NotGeneric g.tok in
    let both = no_faults (no_class ++ no_generic) (fault_if (is_generic_word (word_at ds g) && second) Twice g.tok) h in
    let here = no_faults no_class no_generic both.0 in
    let there = class_is ds c (class_at ds c) refl here.0 in
    let is_generic = not_false (is_generic_word (word_at ds g)) (not_refused (not (is_generic_word (word_at ds g))) NotGeneric g.tok here.1) in
    record { class = there.0; class_at_is = there.1; generic_is = is_generic; first = second_not (is_generic_word (word_at ds g)) second is_generic (not_refused (is_generic_word (word_at ds g) && second) Twice g.tok both.1) }

tuple_there : (cs : List ClassDef) (o : Option ℕ) → is_tuple_class cs o ≡ true → (c : ℕ) × (o ≡ Some c)
tuple_there cs (Some c) h = (c, refl)
tuple_there cs None h = absurd (cc)

finish_late : (ds : List Draft) (cs : List ClassDef) (second : Bool) (w : WordDef) (l : Late) → DraftsFit (length cs) ds → ((c : ℕ) → length (slots_within (length cs) cs c) ≤ 64) → class_in (length cs) w.sort ≡ true → late_in w.sort l ≡ true → late_faults ds cs second w l ≡ [] →
    FinishOf ds (length cs) w l (finished ds cs (record { word = w; late = l }))
finish_late ds cs second w settled fits few in_class late h = stays
finish_late ds cs second w deferred fits few in_class late h = absurd (cc)
finish_late ds cs second w (maker r) fits few in_class late h =
    let there = tuple_there cs (class_at ds r) (not_false (is_tuple_class cs (class_at ds r)) (not_refused (not (is_tuple_class cs (class_at ds r))) NotClass r.tok h)) in
    let phrase = maker_body r w.sort late in
    subst (FinishOf ds (length cs) w (maker r)) (sym (ap (λ (o : Option ℕ). with_maker cs r o w) there.1)) (makes r phrase.0 (maker_effect cs r there.0) phrase.1 (maker_few cs r there.0 (few there.0)))
finish_late ds cs second w (method_of c g) fits few in_class late h =
    let clear = method_clear ds cs second w c g h in
    let phrase = method_body c g w.sort late in
    let called = generic_at ds g clear.generic_is in
    subst (FinishOf ds (length cs) w (method_of c g))
    (sym (ap (λ (o : Option ℕ). as_method o (number g.word) (effect_of_word (word_at ds g)) w.sort w) clear.class_at_is
    ∙ ap (λ (s : Sort). as_method (Some clear.class) (number g.word) (effect_of_word (word_at ds g)) s w) phrase.1
    ∙ ap (λ (e : Signature). record w { sort = method clear.class (number g.word) phrase.0; effect = e }) called.effect_is))
    (methods c g phrase.0 clear.class (number g.word) called.draft phrase.1 (class_below (length cs) clear.class ds c fits clear.class_at_is) called.at called.sort_is)

pub finish_of : (ds : List Draft) (cs : List ClassDef) (second : Bool) (d : Draft) → DraftsFit (length cs) ds → ((c : ℕ) → length (slots_within (length cs) cs c) ≤ 64) → draft_fits (length cs) d ≡ true → late_faults ds cs second d.word d.late ≡ [] → FinishOf ds (length cs) d.word d.late (finished ds cs d)
finish_of ds cs second d fits few fit h =
    let both = true_both (class_in (length cs) d.word.sort) (late_in d.word.sort d.late) fit in
    finish_late ds cs second d.word d.late fits few both.0 both.1 h

-- each word of a list
abbrev pub FinishesOf : List Draft → List ClassDef → List Draft → Type 0
FinishesOf ds cs [] = Unit {0}
FinishesOf ds cs (x ∷ xs) = FinishOf ds (length cs) x.word x.late (finished ds cs x) × FinishesOf ds cs xs

pub finishes_of : (ds : List Draft) (cs : List ClassDef) (earlier : List WordDef) (xs : List Draft) → DraftsFit (length cs) ds → ((c : ℕ) → length (slots_within (length cs) cs c) ≤ 64) → DraftsFit (length cs) xs → words_faults ds cs earlier xs ≡ [] → FinishesOf ds cs xs
finishes_of ds cs earlier [] fits few fit h = tt
finishes_of ds cs earlier (x ∷ xs) fits few fit h =
    let here = true_both (draft_fits (length cs) x) (list_all (draft_fits (length cs)) xs) fit in
    let second = list_any (same_method (finished ds cs x)) earlier in
    let both = no_faults (late_faults ds cs second x.word x.late) (words_faults ds cs (finished ds cs x ∷ earlier) xs) h in
    (finish_of ds cs second x fits few here.0 both.0, finishes_of ds cs (finished ds cs x ∷ earlier) xs fits few here.1 both.1)

-- No method twice.

late_apart : (ds : List Draft) (cs : List ClassDef) (earlier : List WordDef) (w : WordDef) (l : Late) → is_new_sort w.sort ≡ true → late_in w.sort l ≡ true → (let done = finished ds cs (record { word = w; late = l }) in late_faults ds cs (list_any (same_method done) earlier) w l ≡ []) →
    list_any (same_method (finished ds cs (record { word = w; late = l }))) earlier ≡ false
late_apart ds cs earlier w settled new late h = none_passes (same_method w) (no_method w w.sort refl new) earlier
late_apart ds cs earlier w deferred new late h = absurd (cc)
late_apart ds cs earlier w (maker r) new late h = one (class_at ds r)
  where
    one : (o : Option ℕ) → list_any (same_method (with_maker cs r o w)) earlier ≡ false
    one None = none_passes (same_method w) (no_method w w.sort refl new) earlier
    one (Some c) = none_passes (same_method (record w { effect = maker_effect cs r c })) (no_method (record w { effect = maker_effect cs r c }) w.sort refl new) earlier
late_apart ds cs earlier w (method_of c g) new late h = (method_clear ds cs (list_any (same_method (finished ds cs (record { word = w; late = method_of c g }))) earlier) w c g h).first

pub words_apart : (ds : List Draft) (cs : List ClassDef) (earlier : List WordDef) (xs : List Draft) → DraftsFit (length cs) xs → list_all is_new xs ≡ true → words_faults ds cs earlier xs ≡ [] → AreApart same_method earlier (map (finished ds cs) xs)
words_apart ds cs earlier [] fit new h = tt
words_apart ds cs earlier (x ∷ xs) fit new h =
    let here = true_both (draft_fits (length cs) x) (list_all (draft_fits (length cs)) xs) fit in
    let parts = true_both (class_in (length cs) x.word.sort) (late_in x.word.sort x.late) here.0 in
    let fresh = true_both (is_new x) (list_all is_new xs) new in
    let both = no_faults (late_faults ds cs (list_any (same_method (finished ds cs x)) earlier) x.word x.late) (words_faults ds cs (finished ds cs x ∷ earlier) xs) h in
    (late_apart ds cs earlier x.word x.late fresh.0 parts.1 both.0, words_apart ds cs (finished ds cs x ∷ earlier) xs here.1 fresh.1 both.1)

abbrev same_sort : Sort → Sort → Bool
same_sort s u = elim s [ method a g t ↦ elim u [ method b h v ↦ nat_eq a b && nat_eq g h | _ ↦ false ] | _ ↦ false ]

same_turns : (s u : Sort) → same_sort s u ≡ same_sort u s
same_turns (method a g t) (method b h v) = rw (turned a b, turned g h) refl
  where
    turned : (i j : ℕ) → nat_eq i j ≡ nat_eq j i
    turned i j = grind arith
same_turns (method a g t) u = refl
same_turns s (method b h v) = refl
same_turns s u = refl

pub methods_turn : (x y : WordDef) → same_method x y ≡ same_method y x
methods_turn x y = same_turns x.sort y.sort

-- A generic is at the end as it was told.

generic_late : (ds : List Draft) (cs : List ClassDef) (w : WordDef) (l : Late) → w.sort ≡ generic → late_in w.sort l ≡ true → finished ds cs (record { word = w; late = l }) ≡ w
generic_late ds cs w settled is h = refl
generic_late ds cs w deferred is h = refl
generic_late ds cs w (maker r) is h = absurd (no_body (sym (ap (λ (s : Sort). late_in s (maker r)) is) ∙ h))
  where
    no_body : false ≡ true → ⊥
    no_body e = cc
generic_late ds cs w (method_of c g) is h = absurd (no_body (sym (ap (λ (s : Sort). late_in s (method_of c g)) is) ∙ h))
  where
    no_body : false ≡ true → ⊥
    no_body e = cc

pub finished_at : (ds : List Draft) (cs : List ClassDef) (xs : List Draft) (more_words : List WordDef) (w : ℕ) (d : Draft) → slice_get xs w ≡ Some d → slice_get (map (finished ds cs) xs ++ more_words) w ≡ Some (finished ds cs d)
finished_at ds cs [] more_words w d h = absurd (cc)
finished_at ds cs (x ∷ xs) more_words zero d h = let same : x ≡ d = cc in ap (λ (y : Draft). Some (finished ds cs y)) same
finished_at ds cs (x ∷ xs) more_words (suc w) d h = finished_at ds cs xs more_words w d h

pub generic_stays : (ds : List Draft) (cs : List ClassDef) (more_words : List WordDef) (g : ℕ) (d : Draft) → DraftsFit (length cs) ds → slice_get ds g ≡ Some d → d.word.sort ≡ generic → slice_get (map (finished ds cs) ds ++ more_words) g ≡ Some d.word
generic_stays ds cs more_words g d fits at is =
    finished_at ds cs ds more_words g d at
    ∙ ap (λ (w : WordDef). Some w) (generic_late ds cs d.word d.late is (true_both (class_in (length cs) d.word.sort) (late_in d.word.sort d.late) (all_at (draft_fits (length cs)) ds g d fits at)).1)
