-- Methods by their classes and generics.
use Rattle.std.proofs.Common.{◌≡◌, ℕ, nat_eq, List, [], ◌∷◌, ◌++◌, Option, Some, None, Bool, true, false, refl, ap, sym, ◌∙◌, arith}
use Rattle.std.specs.Prelude.{◌&&◌, ◌||◌, if◌then◌else◌}
use Rattle.std.specs.List.{list_any}
use Rattle.std.proofs.lemmas.List.Folds.{list_any-append}
use Rattle.indexmap.specs.IndexSet.{insert_key}
use Rattle.fac_base.specs.Signatures.{Signature}
use Rattle.fac_lang.specs.Whole.{same_method}
use Rattle.fac_lang.specs.declared.program.ClassDef.{ClassDef}
use Rattle.fac_lang.specs.declared.program.Sort.{Sort}
use Rattle.fac_lang.specs.declared.program.Sort.TheVariants.{Body as body, Method as method}
use Rattle.fac_lang.specs.declared.program.WordDef.{WordDef}
use Rattle.fac_source.specs.declared.tok.Ref.{Ref}
use Rattle.fac_endings.specs.declared.draft.Draft.{Draft}
use Rattle.fac_endings.specs.declared.draft.Late.{Late}
use Rattle.fac_endings.specs.declared.draft.Late.TheVariants.{Settled as settled, Deferred as deferred, Maker as maker, Method as method_of}
use Rattle.fac_endings.specs.declared.methods.MethodKey.{MethodKey}
use Rattle.fac_endings.specs.ClassTable.{class_at, word_at}
use Rattle.fac_source.specs.Toks.{number}
use Rattle.fac_endings.specs.FinishedWords.{as_method, effect_of_word, finished, finished_by, with_maker}
use Rattle.fac_endings.specs.inner.MethodKeys.{is_kept, key_by, key_late, same_as, same_key}

-- What a word is at the end.

no_class : (g : ℕ) (s : Sort) → key_by None g s ≡ key_by None 0 s
no_class g (method c h t) = refl
no_class g s = refl

key_method : (o : Option ℕ) (g : ℕ) (e : Signature) (s : Sort) (w : WordDef) → w.sort ≡ s → key_by None 0 (as_method o g e s w).sort ≡ key_by o g s
key_method None g e s w is = ap (key_by None 0) is ∙ sym (no_class g s)
key_method (Some c) g e (body t) w is = refl
key_method (Some c) g e (method d h t) w is = ap (key_by None 0) is
key_method (Some c) g e s w is = ap (key_by None 0) is

key_maker : (cs : List ClassDef) (r : Ref) (o : Option ℕ) (w : WordDef) → key_by None 0 (with_maker cs r o w).sort ≡ key_by None 0 w.sort
key_maker cs r None w = refl
key_maker cs r (Some c) w = refl

key_done : (ds : List Draft) (cs : List ClassDef) (w : WordDef) (l : Late) → key_by None 0 (finished_by ds cs w l).sort ≡ key_late ds w.sort l
key_done ds cs w settled = refl
key_done ds cs w deferred = refl
key_done ds cs w (maker r) = key_maker cs r (class_at ds r) w
key_done ds cs w (method_of c g) = key_method (class_at ds c) (number g.word) (effect_of_word (word_at ds g)) w.sort w refl

-- Words that are the same method.

abbrev pub both_key : Option MethodKey → Option MethodKey → Bool
both_key None o = false
both_key (Some q) o = same_as q o

same_sorts : (s u : Sort) → elim s [ method a g t ↦ elim u [ method b h v ↦ nat_eq a b && nat_eq g h | _ ↦ false ] | _ ↦ false ] ≡ both_key (key_by None 0 s) (key_by None 0 u)
same_sorts (method a g t) (method b h v) = refl
same_sorts (method a g t) u = refl
same_sorts s u = refl

same_keys : (c d : WordDef) → same_method c d ≡ both_key (key_by None 0 c.sort) (key_by None 0 d.sort)
same_keys c d = same_sorts c.sort d.sort

-- whether a method is one of these words
abbrev pub is_noted : MethodKey → List WordDef → Bool
is_noted q [] = false
is_noted q (e ∷ es) = same_as q (key_by None 0 e.sort) || is_noted q es

abbrev pub if_noted : Option MethodKey → List WordDef → Bool
if_noted None es = false
if_noted (Some q) es = is_noted q es

none_noted : (w : WordDef) (es : List WordDef) → key_by None 0 w.sort ≡ None → list_any (same_method w) es ≡ false
none_noted w [] is = refl
none_noted w (e ∷ es) is = rw (same_keys w e ∙ ap (λ (o : Option MethodKey). both_key o (key_by None 0 e.sort)) is) (none_noted w es is)

some_noted : (w : WordDef) (q : MethodKey) (es : List WordDef) → key_by None 0 w.sort ≡ Some q → list_any (same_method w) es ≡ is_noted q es
some_noted w q [] is = refl
some_noted w q (e ∷ es) is =
    ap (λ (b : Bool). b || list_any (same_method w) es) (same_keys w e ∙ ap (λ (o : Option MethodKey). both_key o (key_by None 0 e.sort)) is)
    ∙ ap (λ (b : Bool). same_as q (key_by None 0 e.sort) || b) (some_noted w q es is)

second_by : (w : WordDef) (o : Option MethodKey) (es : List WordDef) → key_by None 0 w.sort ≡ o → list_any (same_method w) es ≡ if_noted o es
second_by w None es is = none_noted w es is
second_by w (Some q) es is = some_noted w q es is

kept_noted : (keys : List MethodKey) (o : Option MethodKey) (es : List WordDef) → ((q : MethodKey) → is_kept keys (Some q) ≡ is_noted q es) → is_kept keys o ≡ if_noted o es
kept_noted keys None es h = refl
kept_noted keys (Some q) es h = h q

-- whether a word is a second method, by the keys of the words before it
pub is_second : (ds : List Draft) (cs : List ClassDef) (d : Draft) (keys : List MethodKey) (es : List WordDef) → ((q : MethodKey) → is_kept keys (Some q) ≡ is_noted q es) → list_any (same_method (finished ds cs d)) es ≡ is_kept keys (key_late ds d.word.sort d.late)
is_second ds cs d keys es h =
    second_by (finished ds cs d) (key_late ds d.word.sort d.late) es (key_done ds cs d.word d.late)
    ∙ sym (kept_noted keys (key_late ds d.word.sort d.late) es h)

-- one word more
pub noted_more : (ds : List Draft) (cs : List ClassDef) (d : Draft) (before after : List MethodKey) (es : List WordDef) → ((q : MethodKey) → is_kept before (Some q) ≡ is_noted q es) →
    ((q : MethodKey) → is_kept after (Some q) ≡ (same_as q (key_late ds d.word.sort d.late) || is_kept before (Some q))) → (q : MethodKey) → is_kept after (Some q) ≡ is_noted q (finished ds cs d ∷ es)
noted_more ds cs d before after es h k q =
    k q
    ∙ ap (λ (b : Bool). same_as q (key_late ds d.word.sort d.late) || b) (h q)
    ∙ ap (λ (o : Option MethodKey). same_as q o || is_noted q es) (sym (key_done ds cs d.word d.late))

-- Keys in a set.

same_key_is : (a b : MethodKey) → same_key a b ≡ true → a ≡ b
same_key_is a b h = rw (same_number a.class b.class (first_and (nat_eq a.class b.class) (nat_eq a.generic b.generic) h).0, same_number a.generic b.generic (first_and (nat_eq a.class b.class) (nat_eq a.generic b.generic) h).1) refl
  where
    same_number : (a b : ℕ) → nat_eq a b ≡ true → a ≡ b
    same_number a b e = grind arith

    first_and : (b c : Bool) → (b && c) ≡ true → (b ≡ true) × (c ≡ true)
    first_and true c h = (refl, h)
    first_and false c h = cc

or_turned : (a b : Bool) → (a || (b || false)) ≡ (b || a)
or_turned true true = refl
or_turned true false = refl
or_turned false true = refl
or_turned false false = refl

or_there : (a b : Bool) → (b ≡ true → a ≡ true) → a ≡ (b || a)
or_there a true h = h refl
or_there a false h = refl

-- a key that is put into a set
pub key_more : (q key : MethodKey) (keys : List MethodKey) → list_any (same_key q) (insert_key same_key keys key) ≡ (same_key q key || list_any (same_key q) keys)
key_more q key keys = one (list_any (same_key key) keys) refl
  where
    one : (b : Bool) → list_any (same_key key) keys ≡ b → list_any (same_key q) (if b then keys else keys ++ key ∷ []) ≡ (same_key q key || list_any (same_key q) keys)
    one true is = or_there (list_any (same_key q) keys) (same_key q key) (λ same. ap (λ (k : MethodKey). list_any (same_key k) keys) (same_key_is q key same) ∙ is)
    one false is = list_any-append (same_key q) keys (key ∷ []) ∙ or_turned (list_any (same_key q) keys) (same_key q key)

-- Words that were gone through, the last first.
abbrev pub and_word : List Draft → List ClassDef → List WordDef → Draft → List WordDef
and_word ds cs earlier d = finished ds cs d ∷ earlier
