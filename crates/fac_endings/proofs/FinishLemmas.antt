-- What the end of the program settles of words.
use Rattle.std.proofs.Common.{◌≡◌, ◌<◌, ◌+◌, ◌⊎◌, inl, inr, ℕ, zero, suc, List, [], ◌∷◌, ◌++◌, map, length, take, get_or, slice_get, Option, Some, None, Result, Ok, Err, refl, ap, sym, ◌∙◌, subst, arith, append-nil, append_assoc}
use Rattle.std.proofs.lemmas.Option.{slice_get_past}
use Rattle.fac_lang.specs.Classes.{shape_at, parent_in, slots_within}
use Rattle.std.specs.Prelude.{IfOk}
use Rattle.std.specs.Global.{Vec}
use Rattle.fac_base.specs.declared.memory.Memory.{Memory}
use Rattle.fac_lang.specs.declared.program.ClassDef.{ClassDef}
use Rattle.fac_lang.specs.declared.program.Shape.{Shape}
use Rattle.fac_lang.specs.declared.program.Shape.TheVariants.{Tuple as tuple_class}
use Rattle.fac_lang.specs.declared.program.WordDef.{WordDef}
use Rattle.fac_endings.specs.declared.draft.Draft.{Draft}
use Rattle.fac_endings.specs.declared.finishing.Finish.{Finish}
use Rattle.fac_endings.specs.ClassTable.{slots_at, slots_in}
use Rattle.fac_endings.specs.FinishedWords.{finished}
use Rattle.fac_endings.specs.inner.Finishes.{AreFinishes, AreSlots, AreSlotsSoFar, finished_with, line, or_none, slots_last, slots_listed, with_finish}
use Rattle.fac_endings.proofs.ListLemmas.{none_past, take_at}

-- All slots of a class.

slots_shape : (n : ℕ) (cs : List ClassDef) (c : ℕ) (o : Option Shape) → ((q : ℕ) → slots_within n cs q ≡ slots_last cs (line n cs (Some q))) →
    elim o [ None ↦ [] | Some s ↦ elim s [ tuple_class p ss ↦ elim p [ None ↦ ss | Some q ↦ slots_within n cs q ++ ss ] | _ ↦ [] ] ] ≡ slots_last cs (line n cs (parent_in o)) ++ slots_in o
slots_shape n cs c None h = refl
slots_shape n cs c (Some (tuple_class None ss)) h = refl
slots_shape n cs c (Some (tuple_class (Some q) ss)) h = ap (λ (xs : List (List ℕ)). xs ++ ss) (h q)
slots_shape n cs c (Some s) h = refl

pub slots_line : (n : ℕ) (cs : List ClassDef) (c : ℕ) → slots_within n cs c ≡ slots_last cs (line n cs (Some c))
slots_line zero cs c = refl
slots_line (suc n) cs c = slots_shape n cs c (shape_at cs c) (λ q. slots_line n cs q)

-- the last class of a line
pub last_slots : (cs : List ClassDef) (bs : List ℕ) (b : ℕ) → slots_last cs (bs ++ b ∷ []) ≡ slots_at cs b ++ slots_last cs bs
last_slots cs [] b = sym (append-nil (slots_at cs b))
last_slots cs (x ∷ bs) b = ap (λ (xs : List (List ℕ)). xs ++ slots_at cs x) (last_slots cs bs b) ∙ append_assoc (slots_at cs b) (slots_last cs bs) (slots_at cs x)

-- the last class of a line is taken
pub slots_taken : (cs : List ClassDef) (bs before : List ℕ) (b : ℕ) (slots next all given : List (List ℕ)) → all ≡ slots ++ slots_last cs bs → bs ≡ before ++ b ∷ [] → given ≡ slots_at cs b → next ≡ slots ++ given → all ≡ next ++ slots_last cs before
slots_taken cs bs before b slots next all given h is given_is more = h ∙ ap (λ (xs : List (List ℕ)). slots ++ xs) (ap (slots_last cs) is ∙ last_slots cs before b ∙ ap (λ (ys : List (List ℕ)). ys ++ slots_last cs before) (sym given_is)) ∙ sym (append_assoc slots given (slots_last cs before)) ∙ ap (λ (xs : List (List ℕ)). xs ++ slots_last cs before) (sym more)

pub none_left : (cs : List ClassDef) (bs : List ℕ) (slots all : List (List ℕ)) → all ≡ slots ++ slots_last cs bs → length bs ≡ 0 → slots ≡ all
none_left cs [] slots all h none = sym (h ∙ append-nil slots)
none_left cs (b ∷ bs) slots all h none = cc

none_within : (n : ℕ) (cs : List ClassDef) (c : ℕ) → shape_at cs c ≡ None → slots_within n cs c ≡ []
none_within zero cs c h = refl
none_within (suc n) cs c h = ap (λ (o : Option Shape). elim o [ None ↦ [] | Some s ↦ elim s [ tuple_class p ss ↦ elim p [ None ↦ ss | Some q ↦ slots_within n cs q ++ ss ] | _ ↦ [] ] ]) h

-- the slots of a class by the table
pub listed_slots : (cs : List ClassDef) (table : List (List (List ℕ))) (c : ℕ) → AreSlots cs table → slots_listed table c ≡ slots_within (length cs) cs c
listed_slots cs table c h = one (slice_get table c) refl
  where
    one : (o : Option (List (List ℕ))) → slice_get table c ≡ o → or_none o ≡ slots_within (length cs) cs c
    one (Some slots) is = h.each c slots is
    one None is =
        let past = none_past table c is in
        let same = h.same_length in
        sym (none_within (length cs) cs c (ap (λ (o : Option ClassDef). elim o [ Some d ↦ Some d.shape | None ↦ None ]) (slice_get_past cs c (omega (arith, past, same)))))

pub push_at : {A : Type 0} (xs : List A) (x y : A) (i : ℕ) → slice_get (xs ++ x ∷ []) i ≡ Some y → ((i ≡ length xs) × (x ≡ y)) ⊎ (slice_get xs i ≡ Some y)
push_at [] x y zero h = inl (refl, cc)
push_at [] x y (suc i) h = absurd (cc)
push_at (z ∷ xs) x y zero h = inr h
push_at (z ∷ xs) x y (suc i) h = elim (push_at xs x y i h) [ inl p ↦ inl (ap suc p.0, p.1) | inr q ↦ inr q ]

pub slots_more : (cs : List ClassDef) (n : ℕ) (table next : List (List (List ℕ))) (slots : List (List ℕ)) → AreSlotsSoFar cs n table → slots ≡ slots_within (length cs) cs n → next ≡ table ++ slots ∷ [] → AreSlotsSoFar cs (n + 1) next
slots_more cs n table next slots h is pushed =
    subst (AreSlotsSoFar cs (n + 1)) (sym pushed) (record {
      counted = length-push table slots ∙ ap (λ (k : ℕ). k + 1) h.counted;
      each = λ c found at. elim (push_at table slots found c at) [
        | inl p ↦ sym p.1 ∙ is ∙ ap (slots_within (length cs) cs) (sym h.counted ∙ sym p.0)
        | inr q ↦ h.each c found q
      ];
    })
  where
    length-push : {A : Type 0} (xs : List A) (x : A) → length (xs ++ x ∷ []) ≡ length xs + 1
    length-push [] x = refl
    length-push (y ∷ xs) x = let rest = length-push xs x in omega (arith, rest)

-- What is settled of words.

pub finish_more : (ds : List Draft) (cs : List ClassDef) (xs : List Draft) (fs : List Finish) (d : Draft) (f : Finish) → AreFinishes ds cs xs fs → with_finish f d.word ≡ finished ds cs d → AreFinishes ds cs (xs ++ d ∷ []) (fs ++ f ∷ [])
finish_more ds cs [] [] d f h is = (is, tt)
finish_more ds cs [] (g ∷ fs) d f h is = absurd h
finish_more ds cs (x ∷ xs) [] d f h is = absurd h
finish_more ds cs (x ∷ xs) (g ∷ fs) d f h is = (h.0, finish_more ds cs xs fs d f h.1 is)

pub finish_taken : (ds : List Draft) (cs : List ClassDef) (xs : List Draft) (i : ℕ) (d : Draft) (fs next : List Finish) (f : Finish) → i < length xs → d ≡ get_or xs i d → AreFinishes ds cs (take i xs) fs → with_finish f d.word ≡ finished ds cs d →
    next ≡ fs ++ f ∷ [] → AreFinishes ds cs (take (i + 1) xs) next
finish_taken ds cs xs i d fs next f within at h is pushed =
    subst (λ (gs : List Finish). AreFinishes ds cs (take (i + 1) xs) gs) (sym pushed) (subst (λ (ys : List Draft). AreFinishes ds cs ys (fs ++ f ∷ [])) (sym (take_at xs i d within at)) (finish_more ds cs (take i xs) fs d f h is))

pub finishes_given : (ds given_ds : List Draft) (cs given_cs : List ClassDef) (fs : List Finish) → given_ds ≡ ds → given_cs ≡ cs → AreFinishes given_ds given_cs given_ds fs → AreFinishes ds cs ds fs
finishes_given ds given_ds cs given_cs fs e k h = subst (λ (xs : List Draft). AreFinishes xs cs xs fs) e (subst (λ (xs : List ClassDef). AreFinishes given_ds xs given_ds fs) k h)

pub all_given : (ds : List Draft) (given cs : List ClassDef) (r : Result (Vec Finish) Memory) → given ≡ cs → IfOk r (λ (fs : Vec Finish). AreFinishes ds given ds fs.items) → IfOk r (λ (fs : Vec Finish). AreFinishes ds cs ds fs.items)
all_given ds given cs (Ok fs) e h = subst (λ (xs : List ClassDef). AreFinishes ds xs ds fs.items) e h
all_given ds given cs (Err Memory) e h = tt

pub finishes_length : (ds : List Draft) (cs : List ClassDef) (xs : List Draft) (fs : List Finish) → AreFinishes ds cs xs fs → length xs ≡ length fs
finishes_length ds cs [] [] h = refl
finishes_length ds cs [] (g ∷ fs) h = absurd h
finishes_length ds cs (x ∷ xs) [] h = absurd h
finishes_length ds cs (x ∷ xs) (g ∷ fs) h = ap suc (finishes_length ds cs xs fs h.1)

pub finishes_words : (ds : List Draft) (cs : List ClassDef) (xs : List Draft) (fs : List Finish) → AreFinishes ds cs xs fs → finished_with xs fs ≡ map (finished ds cs) xs
finishes_words ds cs [] [] h = refl
finishes_words ds cs [] (g ∷ fs) h = absurd h
finishes_words ds cs (x ∷ xs) [] h = absurd h
finishes_words ds cs (x ∷ xs) (g ∷ fs) h = ap (λ (w : WordDef). w ∷ finished_with xs fs) h.0 ∙ ap (λ (ws : List WordDef). finished ds cs x ∷ ws) (finishes_words ds cs xs fs h.1)

pub words_finished : (ds : List Draft) (cs : List ClassDef) (fs : List Finish) (r : Result (List WordDef) Memory) → AreFinishes ds cs ds fs → IfOk r (λ (words : List WordDef). words ≡ finished_with ds fs) → IfOk r (λ (words : List WordDef). words ≡ map (finished ds cs) ds)
words_finished ds cs fs (Ok words) h is = is ∙ finishes_words ds cs ds fs h
words_finished ds cs fs (Err Memory) h is = tt
