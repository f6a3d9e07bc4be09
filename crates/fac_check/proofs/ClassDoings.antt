-- What `boa` and `call-next-method` do at once, from what is found of classes and generics in a closed program.
use Rattle.std.proofs.Common.{◌≡◌, ℕ, suc, zero, List, [], ◌∷◌, length, Bool, true, false, Option, Some, None, refl, sym, ap, subst, ◌∙◌}
use Rattle.std.specs.Prelude.{slice_get}
use Rattle.std.proofs.lemmas.Option.{slice_get_within}
use Rattle.fac_lang.specs.declared.phrase.Template.{Template}
use Rattle.fac_lang.specs.declared.program.ClassDef.{ClassDef}
use Rattle.fac_lang.specs.declared.program.Program.{Program}
use Rattle.fac_lang.specs.declared.program.WordDef.{WordDef}
use Rattle.fac_lang.specs.declared.program.Shape.{Shape}
use Rattle.fac_lang.specs.declared.program.Shape.TheVariants.{Tuple as tuple_class}
use Rattle.fac_lang.specs.declared.program.Sort.{Sort}
use Rattle.fac_lang.specs.declared.program.Sort.TheVariants.{Body as body, Past as past, Class as class, Method as method}
use Rattle.fac_lang.specs.Classes.{has_own, own_kind, shape_at, is_tuple, slots_within}
use Rattle.fac_base.specs.Effects.{effect_height}
use Rattle.fac_lang.specs.declared.core_table.CoreWord.TheVariants.{Boa as c_boa, Execute as c_execute}
use Rattle.fac_lang.specs.Meaning.{names, class_of_word, sort_of}
use Rattle.fac_lang.specs.Phrases.{Mark, any, lit_mark, cur_mark, com_mark, wrd_mark, par_mark}
use Rattle.fac_abs.specs.RowVariables.{Row}
use Rattle.fac_abs.specs.Marks.{on, unknowns}
use Rattle.fac_abs.specs.InTurn.{under}
use Rattle.fac_abs.specs.declared.rule.Rule.TheVariants.{Underflow, NotKnown, MethodEffect}
use Rattle.fac_abs.proofs.CallerLemmas.{popped_none, popped_some}
use Rattle.fac_locals.specs.Closed.{Closes, ClosesSort}
use Rattle.fac_locals.specs.declared.closing.Closed.{Closed}
use Rattle.fac_locals.proofs.Lookups.{word_open, word_open_none}
use Rattle.fac_graph.specs.Slots.{slot_count, slot_counts}
use Rattle.fac_graph.proofs.SlotLemmas.{count_at}
use Rattle.fac_check.specs.Flow.{Doing, breaks, gives, again, by_height, known_word, makes_by, core_doing, generic_doing, next_doing}
use Rattle.fac_check.specs.inner.KnownClasses.{word_in, if_tuple, tuple_slots, TellsTuple, IsTupleWord, makes_counted, generic_word}

-- the top mark is a word or not
known_by : (m : Mark) (w : ℕ) (go : ℕ → Doing) → Some w ≡ word_in m → go w ≡ known_word m go
known_by (wrd_mark v) w go e = let same : w ≡ v = cc in ap go same
known_by any w go e = absurd (cc)
known_by (lit_mark l t) w go e = absurd (cc)
known_by (cur_mark m c) w go e = absurd (cc)
known_by (com_mark c d) w go e = absurd (cc)
known_by (par_mark k) w go e = absurd (cc)

unknown_by : (m : Mark) (go : ℕ → Doing) → None ≡ word_in m → breaks NotKnown ≡ known_word m go
unknown_by (wrd_mark v) go e = absurd (cc)
unknown_by any go e = refl
unknown_by (lit_mark l t) go e = refl
unknown_by (cur_mark m c) go e = refl
unknown_by (com_mark c d) go e = refl
unknown_by (par_mark k) go e = refl

made_by : (P : Program) (c : Option (ℕ × ℕ)) (slots : Option ℕ) (b : Option Row) (ms : List Mark) → TellsTuple c slots → makes_counted slots b ms ≡ makes_by P c b ms
made_by P c None b ms h = sym (ap (λ (x : Option (ℕ × ℕ)). makes_by P x b ms) h)
made_by P c (Some n) b ms h = sym (ap (λ (x : Option (ℕ × ℕ)). makes_by P x b ms) h.1)

-- `boa` on a known word
pub boa_word : (P : Program) (b : Option Row) (stack rest : List Mark) (m : Mark) (w : ℕ) (slots : Option ℕ) (X : Doing) → stack ≡ m ∷ rest → Some w ≡ word_in m → TellsTuple ((names P).tuple_class w) slots → X ≡ makes_counted slots b rest → X ≡ core_doing P c_boa b stack
boa_word P b stack rest m w slots X is known tells x =
    x ∙ made_by P ((names P).tuple_class w) slots b rest tells ∙ known_by m w (λ v. makes_by P ((names P).tuple_class v) b rest) known ∙ sym (ap (core_doing P c_boa b) is)

pub boa_unknown : (P : Program) (b : Option Row) (stack rest : List Mark) (m : Mark) → stack ≡ m ∷ rest → None ≡ word_in m → breaks NotKnown ≡ core_doing P c_boa b stack
boa_unknown P b stack rest m is none = unknown_by m (λ v. makes_by P ((names P).tuple_class v) b rest) none ∙ sym (ap (core_doing P c_boa b) is)

pub boa_lacks : (P : Program) (b : Option Row) (stack : List Mark) → stack ≡ [] → breaks (Underflow 1 (length stack)) ≡ core_doing P c_boa b stack
boa_lacks P b stack is = rw is refl

-- `execute`: the item of the word that its top mark stands for, or none
pub execute_word : (P : Program) (b : Option Row) (stack rest : List Mark) (m : Mark) (w : ℕ) → stack ≡ m ∷ rest → Some w ≡ word_in m → again w b rest ≡ core_doing P c_execute b stack
execute_word P b stack rest m w is known = known_by m w (λ v. again v b rest) known ∙ sym (ap (core_doing P c_execute b) is)

pub execute_unknown : (P : Program) (b : Option Row) (stack rest : List Mark) (m : Mark) → stack ≡ m ∷ rest → None ≡ word_in m → breaks NotKnown ≡ core_doing P c_execute b stack
execute_unknown P b stack rest m is none = unknown_by m (λ v. again v b rest) none ∙ sym (ap (core_doing P c_execute b) is)

pub execute_lacks : (P : Program) (b : Option Row) (stack : List Mark) → stack ≡ [] → breaks (Underflow 1 (length stack)) ≡ core_doing P c_execute b stack
execute_lacks P b stack is = rw is refl

-- a tuple of the values that are there, or too few of them
pub tuple_made : (n : ℕ) (b : Option Row) (ms rest out : List Mark) → under n ms ≡ Some rest → out ≡ unknowns 1 rest → gives (on b out) ≡ makes_counted (Some n) b ms
tuple_made n b ms rest out e f = rw f (subst (λ (q : Option (List Mark × List Mark)). gives (on b (unknowns 1 rest)) ≡ elim q [ Some r ↦ gives (on b (any ∷ r.1)) | None ↦ breaks (Underflow (suc n) (suc (length ms))) ]) (sym (popped_some n [] ms rest e)) refl)

pub tuple_lacks : (n needs has : ℕ) (b : Option Row) (ms : List Mark) → under n ms ≡ None → needs ≡ suc n → has ≡ suc (length ms) → breaks (Underflow needs has) ≡ makes_counted (Some n) b ms
tuple_lacks n needs has b ms e f g = rw (f, g) (subst (λ (q : Option (List Mark × List Mark)). breaks (Underflow (suc n) (suc (length ms))) ≡ elim q [ Some r ↦ gives (on b (any ∷ r.1)) | None ↦ breaks (Underflow (suc n) (suc (length ms))) ]) (sym (popped_none n [] ms e)) refl)

-- The class of a word.
abbrev sort_class : Option Sort → Option ℕ
sort_class o = elim o [ Some s ↦ elim s [ class c ↦ Some c | _ ↦ None ] | None ↦ None ]

-- a tuple class has a kind of its own
tuple_own : (s : Shape) → is_tuple (Some s) ≡ true → has_own s ≡ true
tuple_own (tuple_class p ss) e = refl
tuple_own _ e = absurd (let clash : false ≡ true = e in cc)

own_there : (k : ℕ) (cs : List ClassDef) (c : ℕ) → is_tuple (shape_at cs c) ≡ true → (j : ℕ) × (own_kind k cs c ≡ Some j)
own_there k [] c e = absurd (let clash : false ≡ true = e in cc)
own_there k (d ∷ cs) zero e = (k, ap (λ (b : Bool). elim b [ true ↦ Some k | false ↦ None ]) (tuple_own d.shape e))
own_there k (d ∷ cs) (suc c) e = later (has_own d.shape) (own_there (suc k) cs c e) (own_there k cs c e)
  where
    later : (b : Bool) → (j : ℕ) × (own_kind (suc k) cs c ≡ Some j) → (j : ℕ) × (own_kind k cs c ≡ Some j) → (j : ℕ) × (elim b [ true ↦ own_kind (suc k) cs c | false ↦ own_kind k cs c ] ≡ Some j)
    later true x y = x
    later false x y = y

-- what is told of a class
abbrev class_tells : List ClassDef → ℕ → Option (ℕ × ℕ)
class_tells cs c = elim (is_tuple (shape_at cs c)) [ true ↦ elim (own_kind 8 cs c) [ Some k ↦ Some (k, length (slots_within (length cs) cs c)) | None ↦ None ] | false ↦ None ]

tuple_told : (cs : List ClassDef) (c : ℕ) (b : Bool) → is_tuple (shape_at cs c) ≡ b → TellsTuple (elim b [ true ↦ elim (own_kind 8 cs c) [ Some k ↦ Some (k, length (slots_within (length cs) cs c)) | None ↦ None ] | false ↦ None ]) (if_tuple b (slot_count cs c))
tuple_told cs c true e =
    let own = own_there 8 cs c e in
    (own.0, ap (λ (o : Option ℕ). elim o [ Some k ↦ Some (k, length (slots_within (length cs) cs c)) | None ↦ None ]) own.1)
tuple_told cs c false e = refl

-- the slots of a tuple class, as they are counted
pub slots_found : (cs : List ClassDef) (c : ℕ) (d : ClassDef) (p : Option ℕ) (ss : List (List ℕ)) (counts : List ℕ) → slice_get cs c ≡ Some d → d.shape ≡ tuple_class p ss → counts ≡ slot_counts cs → slice_get counts c ≡ tuple_slots cs c
slots_found cs c d p ss counts at is counted =
    ap (λ (ns : List ℕ). slice_get ns c) counted
    ∙ count_at cs c (slice_get_within cs c d at)
    ∙ sym (ap (λ (o : Option Shape). if_tuple (is_tuple o) (slot_count cs c)) (ap (λ (o : Option ClassDef). elim o [ Some e ↦ Some e.shape | None ↦ None ]) at ∙ ap Some is))

class_told : (cs ds : List ClassDef) (c : ℕ) → cs ≡ ds → TellsTuple (class_tells ds c) (tuple_slots cs c)
class_told cs ds c same = subst (λ (es : List ClassDef). TellsTuple (class_tells es c) (tuple_slots cs c)) same (tuple_told cs c (is_tuple (shape_at cs c)) refl)

abbrev word_tells : List ClassDef → Option ℕ → Option (ℕ × ℕ)
word_tells cs o = elim o [ Some c ↦ class_tells cs c | None ↦ None ]

abbrev class_in : Sort → Option ℕ
class_in s = elim s [ class c ↦ Some c | _ ↦ None ]

class_sorts : (P : Program) (w : ℕ) (s c : Sort) → ClosesSort P w s c → class_in c ≡ class_in s
class_sorts P w (body t) c h = ap class_in h.1
class_sorts P w (past t) c h = ap class_in h.1
class_sorts P w (method j g t) c h = ap class_in h.1
class_sorts P w _ c h = ap class_in h

module _ (P C : Program) (templates : List Template) (closes : Closes P C templates) where
  class_at : (w : ℕ) (o : Option WordDef) → slice_get C.words w ≡ o → class_of_word C w ≡ class_of_word P w
  class_at w None e =
      let none = word_open_none P C templates closes w e in
      ap (λ (o : Option WordDef). sort_class (elim o [ Some d ↦ Some d.sort | None ↦ None ])) e ∙ sym (ap (λ (o : Option WordDef). sort_class (elim o [ Some d ↦ Some d.sort | None ↦ None ])) none)
  class_at w (Some c) e =
      let there = word_open P C templates closes w c e in
      ap (λ (o : Option WordDef). sort_class (elim o [ Some d ↦ Some d.sort | None ↦ None ])) e ∙ class_sorts P w there.def.sort c.sort there.closes.sort ∙ sym (ap (λ (o : Option WordDef). sort_class (elim o [ Some d ↦ Some d.sort | None ↦ None ])) there.at)

  -- the class of a word is the same in both
  pub class_same : (w : ℕ) → class_of_word C w ≡ class_of_word P w
  class_same w = class_at w (slice_get C.words w) refl

-- what is told of a word's class, in each program for which the closed one stands
pub tells_class : (closed : Closed) (w c : ℕ) → Some c ≡ class_of_word closed.program w → IsTupleWord closed w (tuple_slots closed.program.classes c)
tells_class closed w c e = λ P closes.
    subst (λ (o : Option ℕ). TellsTuple (word_tells P.classes o) (tuple_slots closed.program.classes c)) (e ∙ class_same P closed.program closed.templates closes w) (class_told closed.program.classes P.classes c closes.classes)

pub tells_none : (closed : Closed) (w : ℕ) → None ≡ class_of_word closed.program w → IsTupleWord closed w None
tells_none closed w e = λ P closes. ap (word_tells P.classes) (sym (e ∙ class_same P closed.program closed.templates closes w))

-- The generic of a method.
abbrev by_generic : Option WordDef → Option Row → List Mark → Doing
by_generic None b ms = breaks MethodEffect
by_generic (Some d) b ms = by_height (effect_height d.effect).ins (effect_height d.effect).outs b ms

module _ (P C : Program) (templates : List Template) (closes : Closes P C templates) (own : Option ℕ) (b : Option Row) (ms : List Mark) where
  generic_at : (g : ℕ) (o : Option WordDef) → slice_get C.words g ≡ o → by_generic o b ms ≡ generic_doing P own (slice_get P.words g) b ms
  generic_at g None e = sym (ap (λ (x : Option WordDef). generic_doing P own x b ms) (word_open_none P C templates closes g e))
  generic_at g (Some c) e =
      let there = word_open P C templates closes g c e in
      ap (λ x. by_height (effect_height x).ins (effect_height x).outs b ms) there.closes.effect ∙ sym (ap (λ (x : Option WordDef). generic_doing P own x b ms) there.at)

  sort_next : (m : ℕ) (s c : Sort) → ClosesSort P m s c → by_generic (generic_word C (Some c)) b ms ≡ next_doing P own (Some s) b ms
  sort_next m (method k g t) c h = ap (λ (x : Sort). by_generic (generic_word C (Some x)) b ms) h.1 ∙ generic_at g (slice_get C.words g) refl
  sort_next m (body t) c h = ap (λ (x : Sort). by_generic (generic_word C (Some x)) b ms) h.1
  sort_next m (past t) c h = ap (λ (x : Sort). by_generic (generic_word C (Some x)) b ms) h.1
  sort_next m _ c h = ap (λ (x : Sort). by_generic (generic_word C (Some x)) b ms) h

  next_at : (m : ℕ) (o : Option WordDef) → slice_get C.words m ≡ o → by_generic (generic_word C (sort_of C m)) b ms ≡ next_doing P own (sort_of P m) b ms
  next_at m None e =
      let none = word_open_none P C templates closes m e in
      ap (λ (o : Option WordDef). by_generic (generic_word C (elim o [ Some d ↦ Some d.sort | None ↦ None ])) b ms) e ∙ sym (ap (λ (o : Option WordDef). next_doing P own (elim o [ Some d ↦ Some d.sort | None ↦ None ]) b ms) none)
  next_at m (Some c) e =
      let there = word_open P C templates closes m c e in
      ap (λ (o : Option WordDef). by_generic (generic_word C (elim o [ Some d ↦ Some d.sort | None ↦ None ])) b ms) e ∙ sort_next m there.def.sort c.sort there.closes.sort ∙ sym (ap (λ (o : Option WordDef). next_doing P own (elim o [ Some d ↦ Some d.sort | None ↦ None ]) b ms) there.at)

  -- a next method goes by its generic, where there is one
  pub next_by : (m : ℕ) (d : WordDef) (X : Doing) → Some d ≡ generic_word C (sort_of C m) → X ≡ by_height (effect_height d.effect).ins (effect_height d.effect).outs b ms → X ≡ next_doing P own (sort_of P m) b ms
  next_by m d X e x = x ∙ ap (λ (o : Option WordDef). by_generic o b ms) e ∙ next_at m (slice_get C.words m) refl

  pub next_none : (m : ℕ) → None ≡ generic_word C (sort_of C m) → breaks MethodEffect ≡ next_doing P own (sort_of P m) b ms
  next_none m e = ap (λ (o : Option WordDef). by_generic o b ms) e ∙ next_at m (slice_get C.words m) refl

-- the generic of a method is a word
generic_at_number : (C : Program) (o : Option Sort) (d : WordDef) → Some d ≡ generic_word C o → (g : ℕ) × (slice_get C.words g ≡ Some d)
generic_at_number C None d e = absurd cc
generic_at_number C (Some (method c g t)) d e = (g, sym e)
generic_at_number C (Some _) d e = absurd cc

pub generic_there : (C : Program) (m : ℕ) (d : WordDef) → Some d ≡ generic_word C (sort_of C m) → (g : ℕ) × (slice_get C.words g ≡ Some d)
generic_there C m d e = generic_at_number C (sort_of C m) d e
