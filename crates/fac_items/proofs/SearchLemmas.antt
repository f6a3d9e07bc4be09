-- What the search of a name comes to.
use Rattle.std.proofs.Common.{◌≡◌, ℕ, List, [], ◌∷◌, Option, Some, None, Bool, false, fold, refl, ap, sym, ◌∙◌}
use Rattle.fac_base.specs.declared.name.Name.{Name as FullName}
use Rattle.fac_vocab.specs.declared.answers.Found.TheVariants.{Word, Unknown as Nothing, Ambiguous as Several}
use Rattle.fac_vocab.specs.ScopeCalls.{answer_of, names_between}
use Rattle.fac_vocab.specs.declared.entry.Entry.{Entry}
use Rattle.fac_vocab.specs.Scopes.{Scope, Found, the, unknown, ambiguous, found}
use Rattle.fac_source.specs.declared.refusal.NameFault.{NameFault}
use Rattle.fac_source.specs.declared.refusal.NameKind.TheVariants.{Unknown, Ambiguous}
use Rattle.fac_source.specs.Refusals.{fault, sooner}
use Rattle.fac_items.specs.Written.{Tok}
use Rattle.fac_items.specs.Items.{entry_name, is_cond, is_cond_word, ref, search_fault}
use Rattle.fac_items.specs.inner.Search.{IsAmbiguous}

is_the : (f : Found) (w : ℕ) → answer_of f ≡ Word w → f ≡ the w
is_the (the v) w h = cc
is_the unknown w h = cc
is_the (ambiguous e f) w h = cc

is_unknown : (f : Found) → answer_of f ≡ Nothing → f ≡ unknown
is_unknown (the v) h = cc
is_unknown unknown h = refl
is_unknown (ambiguous e f) h = cc

abbrev word_in : Found → Option ℕ
word_in f = elim f [ the w ↦ Some w | _ ↦ None ]

abbrev faults_in : Found → Tok → List NameFault
faults_in f t = elim f [ the w ↦ [] | unknown ↦ fault Unknown t ∷ [] | ambiguous e g ↦ fault (Ambiguous (entry_name e) (entry_name g)) t ∷ [] ]

abbrev cond_in : Found → Bool
cond_in f = elim f [ the w ↦ is_cond_word w | _ ↦ false ]

pub word_found : (s : Scope) (t : Tok) (w : ℕ) → answer_of (found s t.text) ≡ Word w → Some w ≡ (ref s t).word
word_found s t w h = sym (ap word_in (is_the (found s t.text) w h))

pub word_unrefused : (s : Scope) (t : Tok) (w : ℕ) (first : Option NameFault) → answer_of (found s t.text) ≡ Word w → first ≡ fold sooner first (search_fault s t)
word_unrefused s t w first h = sym (ap (λ (f : Found). fold sooner first (faults_in f t)) (is_the (found s t.text) w h))

pub none_found : (s : Scope) (t : Tok) → answer_of (found s t.text) ≡ Nothing → None ≡ (ref s t).word
none_found s t h = sym (ap word_in (is_unknown (found s t.text) h))

pub none_refused : (s : Scope) (t : Tok) (first after : Option NameFault) → answer_of (found s t.text) ≡ Nothing → after ≡ sooner first (fault Unknown t) → after ≡ fold sooner first (search_fault s t)
none_refused s t first after h e = e ∙ sym (ap (λ (f : Found). fold sooner first (faults_in f t)) (is_unknown (found s t.text) h))

is_several : (f : Found) (a b : ℕ) → answer_of f ≡ Several a b → (one : Entry) × (other : Entry) × (f ≡ ambiguous one other)
is_several (the v) a b h = cc
is_several unknown a b h = cc
is_several (ambiguous e g) a b h = (e, g, refl)

pub several_found : (s : Scope) (t : Tok) (name : List ℕ) (a b : ℕ) → name ≡ t.text → answer_of (found s name) ≡ Several a b → IsAmbiguous s t
several_found s t name a b e h = let m = is_several (found s t.text) a b (sym (ap (λ (n : List ℕ). answer_of (found s n)) e) ∙ h) in record { one = m.0; other = m.1; is = m.2 }

pub several_word : (s : Scope) (t : Tok) → IsAmbiguous s t → None ≡ (ref s t).word
several_word s t m = sym (ap word_in m.is)

the_same : {A : Type 0} (x y : A) → Some x ≡ Some y → x ≡ y
the_same x y h = cc

pub several_refused : (s : Scope) (t : Tok) (first after : Option NameFault) (a b : FullName) → IsAmbiguous s t → Some (a, b) ≡ names_between (found s t.text) → after ≡ sooner first (fault (Ambiguous a b) t) → after ≡ fold sooner first (search_fault s t)
several_refused s t first after a b m h e =
    let both : (a, b) ≡ (entry_name m.one, entry_name m.other) = the_same (a, b) (entry_name m.one, entry_name m.other) (h ∙ ap names_between m.is) in
    e ∙ ap (λ (n : FullName × FullName). sooner first (fault (Ambiguous n.0 n.1) t)) both ∙ sym (ap (λ (f : Found). fold sooner first (faults_in f t)) m.is)

not_none : {A : Type 0} (x : A) → None ≡ Some x → ⊥
not_none x h = cc

pub several_none : (s : Scope) (t : Tok) → IsAmbiguous s t → None ≡ names_between (found s t.text) → ⊥
several_none s t m h = not_none (entry_name m.one, entry_name m.other) (h ∙ ap names_between m.is)

pub cond_found : (s : Scope) (name : List ℕ) (w : ℕ) (b : Bool) → answer_of (found s name) ≡ Word w → b ≡ is_cond_word w → b ≡ is_cond s name
cond_found s name w b h e = e ∙ sym (ap cond_in (is_the (found s name) w h))

pub cond_unknown : (s : Scope) (name : List ℕ) → answer_of (found s name) ≡ Nothing → false ≡ is_cond s name
cond_unknown s name h = sym (ap cond_in (is_unknown (found s name) h))

pub cond_several : (s : Scope) (name : List ℕ) (a b : ℕ) → answer_of (found s name) ≡ Several a b → false ≡ is_cond s name
cond_several s name a b h = sym (ap cond_in (is_several (found s name) a b h).2)
