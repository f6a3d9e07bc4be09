-- A longer program goes on with the first.
use Rattle.std.proofs.Common.{◌≡◌, ◌<◌, ◌≤◌, inl, inr, ℕ, zero, suc, ◌+◌, List, [], ◌∷◌, ◌++◌, length, Bool, true, false, Option, Some, None, refl, sym, ap, subst, ◌∙◌, length-append, arith}
use Rattle.std.specs.Prelude.{slice_get, nat_eq, nat_lt, not, ◌&&◌}
use Rattle.std.specs.List.{list_all}
use Rattle.std.proofs.lemmas.Bool.Decides.{Decides-ltb}
use Rattle.fac_lang.specs.LongerPrograms.{IsLonger, as_earlier, with_earlier}
use Rattle.fac_lang.specs.Phrases.{Phrase}
use Rattle.fac_lang.specs.Classes.{shape_at, is_tuple, own_kind, has_own, parent_in, slots_within}
use Rattle.fac_lang.specs.Meaning.{sort_of, names, class_of_word}
use Rattle.fac_lang.specs.Whole.{IsWhole, is_body, parts_of, shape_fits}
use Rattle.fac_lang.specs.declared.program.ClassDef.{ClassDef}
use Rattle.fac_lang.specs.declared.program.Lit.{Lit}
use Rattle.fac_lang.specs.declared.program.Program.{Program}
use Rattle.fac_lang.specs.declared.program.Shape.{Shape}
use Rattle.fac_lang.specs.declared.program.Shape.TheVariants.{Kind as built_in, Tuple as tuple_class, Union as union, Single as single}
use Rattle.fac_lang.specs.declared.program.Sort.{Sort}
use Rattle.fac_lang.specs.declared.program.Sort.TheVariants.{Body as body, Class as class}
use Rattle.fac_lang.specs.declared.program.WordDef.{WordDef}
use Rattle.fac_lang.proofs.FormsLemmas.{sort_at}
use Rattle.fac_lang.proofs.SessionWords.{top_word}
use Rattle.fac_lang.proofs.SourcePrograms.{IsSessionProgram, session_of_whole}
use Rattle.fac_graph.specs.Laws.{class_edges}
use Rattle.fac_graph.specs.Paths.{one_of, IsOneOf, LeadsTo, by_edge, and_edge, successors}
use Rattle.fac_graph.proofs.NumberLists.{at_or_behind, none_there}
use Rattle.fac_graph.proofs.PathLemmas.{edges_of_classes}
use Rattle.fac_graph.proofs.SlotLemmas.{slots_by, slots_same, no_round}
use Rattle.fac_graph.proofs.WaysUp.{slots_settle}
use Rattle.fac_longer.specs.Laws.{LongerGoesOn}

-- Words.

within : {A : Type 0} (xs : List A) (k : ℕ) (x : A) → slice_get xs k ≡ Some x → k < length xs
within [] k x e = absurd cc
within (y ∷ xs) zero x e = omega arith
within (y ∷ xs) (suc k) x e = let later = within xs k x e in omega (arith, later)

in_front : {A : Type 0} (xs ys : List A) (k : ℕ) (x : A) → slice_get xs k ≡ Some x → slice_get (xs ++ ys) k ≡ Some x
in_front [] ys k x e = absurd cc
in_front (y ∷ xs) ys zero x e = e
in_front (y ∷ xs) ys (suc k) x e = in_front xs ys k x e

-- a word as an earlier phrase
abbrev pub earlier : WordDef → WordDef
earlier d = record { name = d.name; sort = as_earlier d.sort; effect = d.effect; inline = d.inline; recursive = d.recursive; place = d.place }

pub earlier_counted : (n : ℕ) (ds : List WordDef) → length (with_earlier n ds) ≡ length ds
earlier_counted n [] = refl
earlier_counted zero (d ∷ ds) = refl
earlier_counted (suc n) (d ∷ ds) = ap suc (earlier_counted n ds)

-- another word is as it was
other_at : (n w : ℕ) (ds more : List WordDef) (d : WordDef) → slice_get ds w ≡ Some d → nat_eq w n ≡ false → slice_get (with_earlier n ds ++ more) w ≡ Some d
other_at n w [] more d e h = absurd cc
other_at zero zero (x ∷ ds) more d e h = absurd cc
other_at zero (suc w) (x ∷ ds) more d e h = in_front ds more w d e
other_at (suc n) zero (x ∷ ds) more d e h = e
other_at (suc n) (suc w) (x ∷ ds) more d e h = let below : nat_eq w n ≡ false = grind arith in other_at n w ds more d e below

-- the phrase is an earlier one
pub phrase_at : (n : ℕ) (ds more : List WordDef) (d : WordDef) → slice_get ds n ≡ Some d → slice_get (with_earlier n ds ++ more) n ≡ Some (earlier d)
phrase_at n [] more d e = absurd cc
phrase_at zero (x ∷ ds) more d e = let same : x ≡ d = cc in ap (λ (y : WordDef). Some (earlier y)) same
phrase_at (suc n) (x ∷ ds) more d e = phrase_at n ds more d e

pub same_number : (w n : ℕ) → nat_eq w n ≡ true → w ≡ n
same_number w n e = grind arith

pub other_number : (w n : ℕ) → w < n → nat_eq w n ≡ false
other_number w n lt = grind arith

-- Classes.

shape_front : (cs more : List ClassDef) (c : ℕ) (s : Shape) → shape_at cs c ≡ Some s → shape_at (cs ++ more) c ≡ Some s
shape_front [] more c s e = absurd cc
shape_front (d ∷ cs) more zero s e = e
shape_front (d ∷ cs) more (suc c) s e = shape_front cs more c s e

one_or_other : (b : Bool) (x y u v : Option ℕ) → x ≡ u → y ≡ v → ◌≡◌ {A = Option ℕ} (elim b [ true ↦ x | false ↦ y ]) (elim b [ true ↦ u | false ↦ v ])
one_or_other true x y u v e f = e
one_or_other false x y u v e f = f

kind_front : (k : ℕ) (cs more : List ClassDef) (c : ℕ) (s : Shape) → shape_at cs c ≡ Some s → own_kind k (cs ++ more) c ≡ own_kind k cs c
kind_front k [] more c s e = absurd cc
kind_front k (d ∷ cs) more zero s e = refl
kind_front k (d ∷ cs) more (suc c) s e =
    one_or_other (has_own d.shape) (own_kind (suc k) (cs ++ more) c) (own_kind k (cs ++ more) c) (own_kind (suc k) cs c) (own_kind k cs c) (kind_front (suc k) cs more c s e) (kind_front k cs more c s e)

both_hold : (a b : Bool) → (a && b) ≡ true → (a ≡ true) × (b ≡ true)
both_hold true b h = (refl, h)
both_hold false b h = absurd cc

fits_at : (P : Program) (cs : List ClassDef) (c : ℕ) (s : Shape) → list_all (λ d. shape_fits P d.shape) cs ≡ true → shape_at cs c ≡ Some s → shape_fits P s ≡ true
fits_at P [] c s h e = absurd cc
fits_at P (d ∷ cs) zero s h e = let same : d.shape ≡ s = cc in subst (λ (x : Shape). shape_fits P x ≡ true) same (both_hold (shape_fits P d.shape) (list_all (λ d. shape_fits P d.shape) cs) h).0
fits_at P (d ∷ cs) (suc c) s h e = fits_at P cs c s (both_hold (shape_fits P d.shape) (list_all (λ d. shape_fits P d.shape) cs) h).1 e

tuple_there : (o : Option Shape) → is_tuple o ≡ true → (s : Shape) × (o ≡ Some s)
tuple_there None h = absurd cc
tuple_there (Some s) h = (s, refl)

-- a path begins with an edge
first_edge : (edges : List (List ℕ)) (u v : ℕ) → LeadsTo edges u v → (w : ℕ) × IsOneOf w (successors edges u)
first_edge edges u v (by_edge e) = (v, e)
first_edge edges u v (and_edge w path e) = first_edge edges u w path

module _ (P : Program) (p : IsWhole P) where
  -- a parent is there
  parent_there : (c q : ℕ) (s : Shape) → shape_at P.classes c ≡ Some s → parent_in (Some s) ≡ Some q → (t : Shape) × (shape_at P.classes q ≡ Some t)
  parent_there c q (tuple_class None slots) e is = absurd cc
  parent_there c q (tuple_class (Some r) slots) e is =
      let same : r ≡ q = cc in
      subst (λ (x : ℕ). (t : Shape) × (shape_at P.classes x ≡ Some t)) same (tuple_there (shape_at P.classes r) (fits_at P P.classes c (tuple_class (Some r) slots) p.shapes_fit e))
  parent_there c q (built_in j) e is = absurd cc
  parent_there c q (union ms) e is = absurd cc
  parent_there c q single e is = absurd cc

  -- its slots are the same where classes stand behind
  slots_front : (n : ℕ) (more : List ClassDef) (c : ℕ) (s : Shape) → shape_at P.classes c ≡ Some s → slots_within n (P.classes ++ more) c ≡ slots_within n P.classes c
  slots_front zero more c s e = refl
  slots_front (suc n) more c s e =
      ap (slots_by (slots_within n (P.classes ++ more))) (shape_front P.classes more c s e)
      ∙ slots_same (slots_within n (P.classes ++ more)) (slots_within n P.classes) (Some s) (λ q is. let up = parent_there c q s e is in slots_front n more q up.0 up.1)
      ∙ sym (ap (slots_by (slots_within n P.classes)) e)

  no_way_round : (c : ℕ) → LeadsTo (class_edges P.classes) c c → ⊥
  no_way_round c path = elim (at_or_behind (length P.classes) c) [
    | inl lt ↦ no_round P.classes c p.classes_end lt path
    | inr le ↦
        let none : shape_at P.classes c ≡ None = ap (λ (o : Option ClassDef). elim o [ Some d ↦ Some d.shape | None ↦ None ]) (none_there P.classes c le) in
        let edge = first_edge (class_edges P.classes) c c path in
        let clash = sym (ap (λ (ws : List ℕ). one_of edge.0 ws) (edges_of_classes P.classes c ∙ ap parts_of none)) ∙ edge.1 in
        never clash
  ]
    where
      never : false ≡ true → ⊥
      never h = absurd cc

  slots_stay : (more : List ClassDef) (c : ℕ) (s : Shape) → shape_at P.classes c ≡ Some s → slots_within (length (P.classes ++ more)) (P.classes ++ more) c ≡ slots_within (length P.classes) P.classes c
  slots_stay more c s e =
      slots_front (length (P.classes ++ more)) more c s e ∙ slots_settle P.classes no_way_round (length more) (length (P.classes ++ more)) c (length-append P.classes more)

-- The tuple class of a word.

-- by its class
abbrev pub tuple_by : List ClassDef → Option ℕ → Option (ℕ × ℕ)
tuple_by cs o =
    elim o [ Some c ↦ elim (is_tuple (shape_at cs c)) [ true ↦ elim (own_kind 8 cs c) [ Some k ↦ Some (k, length (slots_within (length cs) cs c)) | None ↦ None ] | false ↦ None ] | None ↦ None ]

abbrev made_by : Option ℕ → ℕ → Option (ℕ × ℕ)
made_by o n = elim o [ Some k ↦ Some (k, n) | None ↦ None ]

abbrev if_tuple : Option Shape → Option (ℕ × ℕ) → Option (ℕ × ℕ)
if_tuple o t = elim (is_tuple o) [ true ↦ t | false ↦ None ]

-- the class of a word of this sort
abbrev pub class_in : Option Sort → Option ℕ
class_in o = elim o [ Some s ↦ elim s [ class c ↦ Some c | _ ↦ None ] | None ↦ None ]

module _ (P : Program) (p : IsWhole P) (more : List ClassDef) where
  abbrev all : List ClassDef
  all = P.classes ++ more

  -- where the class is there
  pub class_same : (c : ℕ) (s : Shape) → shape_at P.classes c ≡ Some s → tuple_by all (Some c) ≡ tuple_by P.classes (Some c)
  class_same c s e =
      let shapes : shape_at all c ≡ shape_at P.classes c = shape_front P.classes more c s e ∙ sym e in
      ap (λ (o : Option Shape). if_tuple o (made_by (own_kind 8 all c) (length (slots_within (length all) all c)))) shapes
      ∙ ap (λ (o : Option ℕ). if_tuple (shape_at P.classes c) (made_by o (length (slots_within (length all) all c)))) (kind_front 8 P.classes more c s e)
      ∙ ap (λ (ss : List (List ℕ)). if_tuple (shape_at P.classes c) (made_by (own_kind 8 P.classes c) (length ss))) (slots_stay P p more c s e)

  -- a tuple class that is there is there again
  tuple_stays : (o : Option ℕ) (t : ℕ × ℕ) → tuple_by P.classes o ≡ Some t → tuple_by all o ≡ Some t
  tuple_stays None t h = absurd cc
  tuple_stays (Some c) t h = by (shape_at P.classes c) refl
    where
      no_tuple : (o : Option Shape) → o ≡ None → (k : Option (ℕ × ℕ)) → if_tuple o k ≡ Some t → ⊥
      no_tuple o e k g = let none : if_tuple o k ≡ None = ap (λ (o : Option Shape). if_tuple o k) e in cc

      by : (o : Option Shape) → shape_at P.classes c ≡ o → tuple_by all (Some c) ≡ Some t
      by None e = absurd (no_tuple (shape_at P.classes c) e (made_by (own_kind 8 P.classes c) (length (slots_within (length P.classes) P.classes c))) h)
      by (Some s) e = class_same c s e ∙ h

-- A longer program.
module _ (P Q : Program) (p : IsWhole P) (q : IsWhole Q) (F : IsLonger P Q) where
  abbrev b : IsSessionProgram P
  b = session_of_whole P p

  pub other_stays : (w : ℕ) (d : WordDef) → slice_get P.words w ≡ Some d → nat_eq w P.top ≡ false → slice_get Q.words w ≡ Some d
  other_stays w d e h = ap (λ (ds : List WordDef). slice_get ds w) F.words_are ∙ other_at P.top w P.words F.more_words d e h

  pub phrase_stays : (d : WordDef) → slice_get P.words P.top ≡ Some d → slice_get Q.words P.top ≡ Some (earlier d)
  phrase_stays d e = ap (λ (ds : List WordDef). slice_get ds P.top) F.words_are ∙ phrase_at P.top P.words F.more_words d e

  the_last : (d : WordDef) → slice_get P.words P.top ≡ Some d → d.sort ≡ body b.phrase
  the_last d e = let same : d ≡ b.last_word = let here = top_word P b in cc in ap (λ (x : WordDef). x.sort) same ∙ b.last_word_is.sort_is

  -- words stand behind, the new phrase at least
  count : (more : List WordDef) → Q.words ≡ with_earlier P.top P.words ++ more → length Q.words ≡ length P.words + length more
  count more e = ap length e ∙ length-append (with_earlier P.top P.words) more ∙ ap (λ (n : ℕ). n + length more) (earlier_counted P.top P.words)

  no_body : (d : WordDef) (t : Phrase) → d.sort ≡ body t → is_body (Some (earlier d).sort) ≡ false
  no_body d t e = ap (λ (s : Sort). is_body (Some (as_earlier s))) e

  more_there : (more : List WordDef) → Q.words ≡ with_earlier P.top P.words ++ more → length P.words ≤ Q.top
  more_there [] e =
      let all : length Q.words ≡ length P.words + 0 = count [] e in
      let first = p.top_last in
      let second = q.top_last in
      let tops : Q.top ≡ P.top = omega (arith, all, first, second) in
      let top = top_word P b in
      let old = phrase_stays b.last_word top in
      let sort : sort_of Q Q.top ≡ Some (earlier b.last_word).sort = ap (sort_of Q) tops ∙ sort_at Q P.top (earlier b.last_word) old in
      never (sym (ap is_body sort ∙ no_body b.last_word b.phrase b.last_word_is.sort_is) ∙ q.top_phrase)
    where
      never : false ≡ true → length P.words ≤ Q.top
      never h = absurd cc
  more_there (x ∷ xs) e =
      let all : length Q.words ≡ length P.words + suc (length xs) = count (x ∷ xs) e in
      let second = q.top_last in
      omega (arith, all, second)

  pub below_top : (w : ℕ) → w < length P.words → w < Q.top
  below_top w lt = let le = more_there F.more_words F.words_are in omega (arith, lt, le)

  below : (w : ℕ) (d : WordDef) → slice_get P.words w ≡ Some d → nat_eq w Q.top ≡ false
  below w d e = other_number w Q.top (below_top w (within P.words w d e))

  at_top : (w : ℕ) (d : WordDef) → slice_get P.words w ≡ Some d → nat_eq w P.top ≡ true → slice_get P.words P.top ≡ Some d
  at_top w d e h = let same = same_number w P.top h in ap (slice_get P.words) (sym same) ∙ e

  pub effects : (w : ℕ) (d : WordDef) → slice_get P.words w ≡ Some d → (c : WordDef) × (slice_get Q.words w ≡ Some c) × (c.effect ≡ d.effect)
  effects w d e = by (nat_eq w P.top) refl
    where
      by : (x : Bool) → nat_eq w P.top ≡ x → (c : WordDef) × (slice_get Q.words w ≡ Some c) × (c.effect ≡ d.effect)
      by true h = let same = same_number w P.top h in (earlier d, ap (slice_get Q.words) same ∙ phrase_stays d (at_top w d e h), refl)
      by false h = (d, other_stays w d e h, refl)

  arrays : (a : ℕ) → nat_lt a (length P.arrays) ≡ true → nat_lt a (length Q.arrays) ≡ true
  arrays a h =
      let lt = (Decides-ltb a (length P.arrays)).0 h in
      let all = ap length F.arrays_are ∙ length-append P.arrays F.more_arrays in
      (Decides-ltb a (length Q.arrays)).1 (omega (arith, lt, all))

  -- the class of a word other than the phrase
  pub class_stays : (w : ℕ) (d : WordDef) → slice_get P.words w ≡ Some d → nat_eq w P.top ≡ false → class_of_word Q w ≡ class_of_word P w
  class_stays w d e h = ap class_in (sort_at Q w d (other_stays w d e h)) ∙ sym (ap class_in (sort_at P w d e))

  tuples : (w : ℕ) (t : ℕ × ℕ) → (names P).tuple_class w ≡ Some t → (names Q).tuple_class w ≡ Some t
  tuples w t h = by (slice_get P.words w) refl
    where
      no_class : (o : Option Sort) → sort_of P w ≡ o → class_in o ≡ None → ⊥
      no_class o e none = let h' : Some t ≡ None = sym h ∙ ap (λ (o : Option ℕ). tuple_by P.classes o) (ap class_in e ∙ none) in cc

      by_top : (d : WordDef) → slice_get P.words w ≡ Some d → (x : Bool) → nat_eq w P.top ≡ x → (names Q).tuple_class w ≡ Some t
      by_top d e true g = absurd (no_class (Some d.sort) (sort_at P w d e) (ap (λ (s : Sort). class_in (Some s)) (the_last d (at_top w d e g))))
      by_top d e false g =
          ap (λ (cs : List ClassDef). tuple_by cs (class_of_word Q w)) F.classes_are ∙ ap (tuple_by (P.classes ++ F.more_classes)) (class_stays w d e g) ∙ tuple_stays P p F.more_classes (class_of_word P w) t h

      by : (o : Option WordDef) → slice_get P.words w ≡ o → (names Q).tuple_class w ≡ Some t
      by None e = absurd (no_class None (ap (λ (o : Option WordDef). elim o [ Some d ↦ Some d.sort | None ↦ None ]) e) refl)
      by (Some d) e = by_top d e (nat_eq w P.top) refl

pub goes_on : LongerGoesOn
goes_on P Q p q F = record {
  words = other_stays P Q p q F;
  effects = effects P Q p q F;
  below = below P Q p q F;
  phrase = λ w d e h. ((session_of_whole P p).phrase, the_last P Q p q F d (at_top P Q p q F w d e h));
  arrays = arrays P Q p q F;
  tuples = tuples P Q p q F;
}
