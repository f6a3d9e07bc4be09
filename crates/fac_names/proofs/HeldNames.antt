-- What tables hold of words: under which names they stand there.
use Rattle.std.proofs.Common.{◌≡◌, ◌+◌, ℕ, zero, suc, List, [], ◌∷◌, ◌++◌, length, Option, Some, None, Bool, true, false, cond, refl, ap, sym, ◌∙◌, subst, arith}
use Rattle.std.specs.Prelude.{◌&&◌, codes, slice_get}
use Rattle.std.specs.List.{find}
use Rattle.std.specs.Option.{option_map}
use Rattle.std.specs.Str.{bytes_eq}
use Rattle.std.proofs.lemmas.Slice.Eq.{bytes_eq-Decides}
use Rattle.fac_base.specs.declared.place.Place.{Place}
use Rattle.fac_lang.specs.declared.program.ClassDef.{ClassDef}
use Rattle.fac_base.specs.declared.name.Name.{Name as FullName}
use Rattle.fac_lang.specs.declared.program.Sort.{Sort}
use Rattle.fac_lang.specs.declared.program.Sort.TheVariants.{Class as class}
use Rattle.fac_vocab.specs.declared.entry.Entry.{Entry}
use Rattle.fac_vocab.specs.Scopes.{holders, now_defined, same_table, word_held}
use Rattle.fac_items.specs.Items.{entry_name}
use Rattle.fac_endings.specs.declared.draft.Draft.{Draft}
use Rattle.fac_endings.specs.declared.draft.Late.{Late}
use Rattle.fac_endings.specs.declared.draft.Late.TheVariants.{Settled as settled, Deferred as deferred}
use Rattle.fac_endings.specs.declared.draft.NewClass.{NewClass}
use Rattle.fac_names.specs.Forms.{accessor_text, at_place, changed}

the_same : {A : Type 0} (x y : A) → Some x ≡ Some y → x ≡ y
the_same x y h = cc

-- Tables keep what they hold.

abbrev pub KeepsHeld : List Entry → List Entry → Type 0
KeepsHeld table other = (vocab name : List ℕ) (w : ℕ) → word_held table vocab name ≡ Some w → word_held other vocab name ≡ Some w

abbrev word_of : Option Entry → Option ℕ
word_of o = option_map (λ (e : Entry). e.word) o

abbrev is_named : List ℕ → List ℕ → Entry → Bool
is_named vocab name e = bytes_eq name e.name && bytes_eq vocab e.vocab

pub held_same : (table : List Entry) → KeepsHeld table table
held_same table vocab name w h = h

pub held_with : (table : List Entry) (e : Entry) → KeepsHeld table (table ++ e ∷ [])
held_with [] e vocab name w h = absurd (cc)
held_with (x ∷ table) e vocab name w h = one (is_named vocab name x) (λ there. held_with table e vocab name w there) h
  where
    one : (b : Bool) → (word_of (find (is_named vocab name) table) ≡ Some w → word_of (find (is_named vocab name) (table ++ e ∷ [])) ≡ Some w) → word_of (cond b (Some x) (find (is_named vocab name) table)) ≡ Some w → word_of (cond b (Some x) (find (is_named vocab name) (table ++ e ∷ []))) ≡ Some w
    one true rest there = there
    one false rest there = rest there

pub held_defined : (table : List Entry) (v n : List ℕ) → KeepsHeld table (now_defined v n table)
held_defined [] v n vocab name w h = h
held_defined (x ∷ table) v n vocab name w h = one (bytes_eq n x.name && bytes_eq v x.vocab) (is_named vocab name x) (λ there. held_defined table v n vocab name w there) refl h
  where
    inner : (b : Bool) → (word_of (find (is_named vocab name) table) ≡ Some w → word_of (find (is_named vocab name) (now_defined v n table)) ≡ Some w) → word_of (cond b (Some x) (find (is_named vocab name) table)) ≡ Some w → word_of (cond b (Some x) (find (is_named vocab name) (now_defined v n table))) ≡ Some w
    inner true rest there = there
    inner false rest there = rest there

    same : (b : Bool) → word_of (cond b (Some x) (find (is_named vocab name) table)) ≡ Some w → word_of (cond b (Some (record x { is_defined = true })) (find (is_named vocab name) table)) ≡ Some w
    same true there = there
    same false there = there

    one : (a b : Bool) → (word_of (find (is_named vocab name) table) ≡ Some w → word_of (find (is_named vocab name) (now_defined v n table)) ≡ Some w) → is_named vocab name x ≡ b → word_of (cond b (Some x) (find (is_named vocab name) table)) ≡ Some w →
        word_of (find (is_named vocab name) (cond a (record x { is_defined = true } ∷ table) (x ∷ now_defined v n table))) ≡ Some w
    one true b rest is there = ap (λ (q : Bool). word_of (cond q (Some (record x { is_defined = true })) (find (is_named vocab name) table))) is ∙ same b there
    one false b rest is there = ap (λ (q : Bool). word_of (cond q (Some x) (find (is_named vocab name) (now_defined v n table)))) is ∙ inner b rest there

-- a name that no table to which its vocabulary belongs holds
exact_belongs : (vocab name : List ℕ) (x : Entry) → is_named vocab name x ≡ true → (bytes_eq name x.name && same_table vocab x.vocab) ≡ true
exact_belongs vocab name x h = one (bytes_eq name x.name) (bytes_eq vocab x.vocab) refl refl h
  where
    one : (a b : Bool) → bytes_eq name x.name ≡ a → bytes_eq vocab x.vocab ≡ b → (a && b) ≡ true → (bytes_eq name x.name && same_table vocab x.vocab) ≡ true
    one true true e k is = rw (e, k) refl
    one true false e k is = absurd (cc)
    one false b e k is = absurd (cc)

name_self : (e : Entry) → is_named e.vocab e.name e ≡ true
name_self e = rw ((bytes_eq-Decides e.name e.name).1 refl, (bytes_eq-Decides e.vocab e.vocab).1 refl) refl

false_true : false ≡ true → ⊥
false_true k = cc

pub held_new : (table : List Entry) (e : Entry) → holders table e.vocab e.name ≡ [] → word_held (table ++ e ∷ []) e.vocab e.name ≡ Some e.word
held_new [] e h = ap (λ (b : Bool). word_of (cond b (Some e) None)) (name_self e)
held_new (x ∷ table) e h = one (bytes_eq e.name x.name && same_table e.vocab x.vocab) (is_named e.vocab e.name x) refl refl (λ there. held_new table e there) h
  where
    one : (a b : Bool) → (bytes_eq e.name x.name && same_table e.vocab x.vocab) ≡ a → is_named e.vocab e.name x ≡ b → (holders table e.vocab e.name ≡ [] → word_held (table ++ e ∷ []) e.vocab e.name ≡ Some e.word) →
        cond a (x ∷ holders table e.vocab e.name) (holders table e.vocab e.name) ≡ [] → word_of (find (is_named e.vocab e.name) (x ∷ (table ++ e ∷ []))) ≡ Some e.word
    one true b belongs exact rest none = absurd (cc)
    one false true belongs exact rest none = absurd (false_true (sym belongs ∙ exact_belongs e.vocab e.name x exact))
    one false false belongs exact rest none = ap (λ (q : Bool). word_of (cond q (Some x) (find (is_named e.vocab e.name) (table ++ e ∷ [])))) exact ∙ rest none

-- Words keep their names, and what they were told.

abbrev pub name_at : List Draft → ℕ → Option FullName
name_at ds w = option_map (λ (d : Draft). d.word.name) (slice_get ds w)

abbrev pub KeepsNames : List Draft → List Draft → Type 0
KeepsNames ds es = (w : ℕ) (name : FullName) → name_at ds w ≡ Some name → name_at es w ≡ Some name

pub names_push : (ds : List Draft) (d : Draft) → KeepsNames ds (ds ++ d ∷ [])
names_push [] d w name h = absurd (cc)
names_push (x ∷ ds) d zero name h = h
names_push (x ∷ ds) d (suc w) name h = names_push ds d w name h

pub names_changed : (f : Draft → Draft) → ((d : Draft) → (f d).word.name ≡ d.word.name) → (n : ℕ) (ds : List Draft) → KeepsNames ds (changed f n ds)
names_changed f same n [] w name h = h
names_changed f same zero (x ∷ ds) zero name h = ap (λ (y : FullName). Some y) (same x) ∙ h
names_changed f same zero (x ∷ ds) (suc w) name h = h
names_changed f same (suc n) (x ∷ ds) zero name h = h
names_changed f same (suc n) (x ∷ ds) (suc w) name h = names_changed f same n ds w name h

-- a word that was told is still what it was
pub record Kept (ds : List Draft) (w : ℕ) (d : Draft) : Type 0 where
  pub draft : Draft
  pub at : slice_get ds w ≡ Some draft
  pub sort_is : draft.word.sort ≡ d.word.sort
  pub late_is : draft.late ≡ d.late
  pub name_is : draft.word.name ≡ d.word.name

abbrev pub KeepsTold : List Draft → List Draft → Type 0
KeepsTold ds es = (w : ℕ) (d : Draft) → slice_get ds w ≡ Some d → d.late ≡ settled → Kept es w d

kept_itself : (ds : List Draft) (w : ℕ) (d : Draft) → slice_get ds w ≡ Some d → Kept ds w d
kept_itself ds w d at = record { draft = d; at = at; sort_is = refl; late_is = refl; name_is = refl }

kept_later : (x : Draft) (ds : List Draft) (w : ℕ) (d : Draft) → Kept ds w d → Kept (x ∷ ds) (suc w) d
kept_later x ds w d k = record { draft = k.draft; at = k.at; sort_is = k.sort_is; late_is = k.late_is; name_is = k.name_is }

-- what stays, and then stays again
pub kept_then : (es fs : List Draft) (w : ℕ) (d : Draft) → d.late ≡ settled → KeepsTold es fs → Kept es w d → Kept fs w d
kept_then es fs w d late keeps h =
    let k = keeps w h.draft h.at (h.late_is ∙ late) in
    record { draft = k.draft; at = k.at; sort_is = k.sort_is ∙ h.sort_is; late_is = k.late_is ∙ h.late_is; name_is = k.name_is ∙ h.name_is }

pub told_same : (ds : List Draft) → KeepsTold ds ds
told_same ds w d at late = kept_itself ds w d at

pub told_push : (ds : List Draft) (x : Draft) → KeepsTold ds (ds ++ x ∷ [])
told_push [] x w d at late = absurd (cc)
told_push (y ∷ ds) x zero d at late = kept_itself (y ∷ (ds ++ x ∷ [])) zero d at
told_push (y ∷ ds) x (suc w) d at late = kept_later y (ds ++ x ∷ []) w d (told_push ds x w d at late)

pub told_placed : (p : Place) (n : ℕ) (ds : List Draft) → KeepsTold ds (changed (at_place p) n ds)
told_placed p n [] w d at late = absurd (cc)
told_placed p zero (y ∷ ds) zero d at late = let same = the_same y d at in record { draft = at_place p y; at = refl; sort_is = ap (λ (e : Draft). e.word.sort) same; late_is = ap (λ (e : Draft). e.late) same; name_is = ap (λ (e : Draft). e.word.name) same }
told_placed p zero (y ∷ ds) (suc w) d at late = kept_itself (at_place p y ∷ ds) (suc w) d at
told_placed p (suc n) (y ∷ ds) zero d at late = kept_itself (y ∷ changed (at_place p) n ds) zero d at
told_placed p (suc n) (y ∷ ds) (suc w) d at late = kept_later y (changed (at_place p) n ds) w d (told_placed p n ds w d at late)

not_both : (l : Late) → l ≡ settled → l ≡ deferred → ⊥
not_both l h k = cc

-- where another word is told
pub told_other : (f : Draft → Draft) (n : ℕ) (ds : List Draft) → ((d : Draft) → slice_get ds n ≡ Some d → d.late ≡ deferred) → KeepsTold ds (changed f n ds)
told_other f n [] untold w d at late = absurd (cc)
told_other f zero (y ∷ ds) untold zero d at late = absurd (not_both d.late late (untold d at))
told_other f zero (y ∷ ds) untold (suc w) d at late = kept_itself (f y ∷ ds) (suc w) d at
told_other f (suc n) (y ∷ ds) untold zero d at late = kept_itself (y ∷ changed f n ds) zero d at
told_other f (suc n) (y ∷ ds) untold (suc w) d at late = kept_later y (changed f n ds) w d (told_other f n ds (λ e is. untold e is) w d at late)

-- The words of entries have their names.

abbrev pub AreNamed : List Draft → List Entry → Type 0
AreNamed ds [] = Unit {0}
AreNamed ds (e ∷ es) = (name_at ds e.word ≡ Some (entry_name e)) × AreNamed ds es

pub named_kept : (ds es : List Draft) (table : List Entry) → KeepsNames ds es → AreNamed ds table → AreNamed es table
named_kept ds es [] keeps h = tt
named_kept ds es (e ∷ table) keeps h = (keeps e.word (entry_name e) h.0, named_kept ds es table keeps h.1)

pub named_with : (ds : List Draft) (table : List Entry) (e : Entry) → AreNamed ds table → name_at ds e.word ≡ Some (entry_name e) → AreNamed ds (table ++ e ∷ [])
named_with ds [] e h k = (k, tt)
named_with ds (x ∷ table) e h k = (h.0, named_with ds table e h.1 k)

named_if : (ds : List Draft) (b : Bool) (e : Entry) (es fs : List Entry) → AreNamed ds (e ∷ es) → AreNamed ds fs → AreNamed ds (cond b (record e { is_defined = true } ∷ es) (e ∷ fs))
named_if ds true e es fs h k = h
named_if ds false e es fs h k = (h.0, k)

pub named_defined : (ds : List Draft) (v n : List ℕ) (table : List Entry) → AreNamed ds table → AreNamed ds (now_defined v n table)
named_defined ds v n [] h = tt
named_defined ds v n (e ∷ table) h = named_if ds (bytes_eq n e.name && bytes_eq v e.vocab) e table (now_defined v n table) h (named_defined ds v n table h.1)

pub named_found : (ds : List Draft) (p : Entry → Bool) (table : List Entry) (e : Entry) → AreNamed ds table → find p table ≡ Some e → name_at ds e.word ≡ Some (entry_name e)
named_found ds p [] e h is = absurd (cc)
named_found ds p (x ∷ table) e h is = one (p x) (λ there. named_found ds p table e h.1 there) is
  where
    one : (b : Bool) → (find p table ≡ Some e → name_at ds e.word ≡ Some (entry_name e)) → cond b (Some x) (find p table) ≡ Some e → name_at ds e.word ≡ Some (entry_name e)
    one true rest there = subst (λ (y : Entry). name_at ds y.word ≡ Some (entry_name y)) (the_same x e there) h.0
    one false rest there = rest there

-- Classes: their words are held under their names.

pub record WordHeld (ds : List Draft) (table : List Entry) (w c : ℕ) : Type 0 where
  pub draft : Draft
  pub at : slice_get ds w ≡ Some draft
  pub sort_is : draft.word.sort ≡ class c
  pub late_is : draft.late ≡ settled
  pub held : word_held table draft.word.name.vocab draft.word.name.name ≡ Some w

pub word_kept : (ds es : List Draft) (table other : List Entry) (w c : ℕ) → KeepsTold ds es → KeepsHeld table other → WordHeld ds table w c → WordHeld es other w c
word_kept ds es table other w c told keeps h =
    let k = told w h.draft h.at h.late_is in
    record {
      draft = k.draft;
      at = k.at;
      sort_is = k.sort_is ∙ h.sort_is;
      late_is = k.late_is ∙ h.late_is;
      held = ap (λ (n : FullName). word_held other n.vocab n.name) k.name_is ∙ keeps h.draft.word.name.vocab h.draft.word.name.name w h.held;
    }

-- the classes that there were before any form, by their names
pub record ClassHeld (ds : List Draft) (table : List Entry) (name : FullName) (c : ℕ) : Type 0 where
  pub word : ℕ
  pub is_held : WordHeld ds table word c
  pub name_is : name_at ds word ≡ Some name

abbrev pub OldHeld : List Draft → List Entry → ℕ → List ClassDef → Type 0
OldHeld ds table k [] = Unit {0}
OldHeld ds table k (c ∷ cs) = ClassHeld ds table c.name k × OldHeld ds table (suc k) cs

abbrev pub NewHeld : List Draft → List Entry → ℕ → List NewClass → Type 0
NewHeld ds table k [] = Unit {0}
NewHeld ds table k (c ∷ cs) = WordHeld ds table c.word k × NewHeld ds table (suc k) cs

pub old_kept : (ds es : List Draft) (table other : List Entry) (k : ℕ) (cs : List ClassDef) → KeepsNames ds es → KeepsTold ds es → KeepsHeld table other → OldHeld ds table k cs → OldHeld es other k cs
old_kept ds es table other k [] names told keeps h = tt
old_kept ds es table other k (c ∷ cs) names told keeps h =
    (record { word = h.0.word; is_held = word_kept ds es table other h.0.word k told keeps h.0.is_held; name_is = names h.0.word c.name h.0.name_is }, old_kept ds es table other (suc k) cs names told keeps h.1)

pub new_kept : (ds es : List Draft) (table other : List Entry) (k : ℕ) (cs : List NewClass) → KeepsTold ds es → KeepsHeld table other → NewHeld ds table k cs → NewHeld es other k cs
new_kept ds es table other k [] told keeps h = tt
new_kept ds es table other k (c ∷ cs) told keeps h = (word_kept ds es table other c.word k told keeps h.0, new_kept ds es table other (suc k) cs told keeps h.1)

pub new_with : (ds : List Draft) (table : List Entry) (k : ℕ) (cs : List NewClass) (c : NewClass) → NewHeld ds table k cs → WordHeld ds table c.word (k + length cs) → NewHeld ds table k (cs ++ c ∷ [])
new_with ds table k [] c h is = (subst (WordHeld ds table c.word) (let e : k + 0 ≡ k = omega arith in e) is, tt)
new_with ds table k (x ∷ cs) c h is = (h.0, new_with ds table (suc k) cs c h.1 (subst (WordHeld ds table c.word) (let e : k + suc (length cs) ≡ suc k + length cs = omega arith in e) is))

-- Accessors: their words are held under their names in their vocabulary.

abbrev pub AccessorAt : List Entry → ℕ → Sort → Type 0
AccessorAt table w s = (name : List ℕ) → accessor_text s ≡ Some name → word_held table (codes "accessors") name ≡ Some w

abbrev pub AccessorsHeld : List Entry → ℕ → List Draft → Type 0
AccessorsHeld table k [] = Unit {0}
AccessorsHeld table k (d ∷ ds) = AccessorAt table k d.word.sort × AccessorsHeld table (suc k) ds

pub no_accessor : (table : List Entry) (w : ℕ) (s : Sort) → accessor_text s ≡ None → AccessorAt table w s
no_accessor table w s none name h = absurd (none_some name (sym none ∙ h))
  where
    none_some : (x : List ℕ) → None ≡ Some x → ⊥
    none_some x e = cc

pub accessors_kept : (table other : List Entry) (k : ℕ) (ds : List Draft) → KeepsHeld table other → AccessorsHeld table k ds → AccessorsHeld other k ds
accessors_kept table other k [] keeps h = tt
accessors_kept table other k (d ∷ ds) keeps h = (λ name is. keeps (codes "accessors") name k (h.0 name is), accessors_kept table other (suc k) ds keeps h.1)

pub accessors_push : (table : List Entry) (k : ℕ) (ds : List Draft) (d : Draft) → accessor_text d.word.sort ≡ None → AccessorsHeld table k ds → AccessorsHeld table k (ds ++ d ∷ [])
accessors_push table k [] d none h = (no_accessor table k d.word.sort none, tt)
accessors_push table k (x ∷ ds) d none h = (h.0, accessors_push table (suc k) ds d none h.1)

pub accessors_placed : (table : List Entry) (k : ℕ) (p : Place) (n : ℕ) (ds : List Draft) → AccessorsHeld table k ds → AccessorsHeld table k (changed (at_place p) n ds)
accessors_placed table k p n [] h = tt
accessors_placed table k p zero (d ∷ ds) h = h
accessors_placed table k p (suc n) (d ∷ ds) h = (h.0, accessors_placed table (suc k) p n ds h.1)

pub accessors_told : (table : List Entry) (k n : ℕ) (sort : Sort) (f : Draft → Draft) (ds : List Draft) → ((d : Draft) → (f d).word.sort ≡ sort) → AccessorAt table (n + k) sort → AccessorsHeld table k ds → AccessorsHeld table k (changed f n ds)
accessors_told table k n sort f [] same at h = tt
accessors_told table k zero sort f (d ∷ ds) same at h = (λ name is. subst (λ (w : ℕ). word_held table (codes "accessors") name ≡ Some w) (let e : 0 + k ≡ k = omega arith in e) (at name (sym (ap accessor_text (same d)) ∙ is)), h.1)
accessors_told table k (suc n) sort f (d ∷ ds) same at h =
    (h.0, accessors_told table (suc k) n sort f ds same (λ name is. subst (λ (w : ℕ). word_held table (codes "accessors") name ≡ Some w) (let e : suc n + k ≡ n + suc k = omega arith in e) (at name is)) h.1)
