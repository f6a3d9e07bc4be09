-- What an image of plain code says of words and kinds is what its program says.
use Rattle.std.proofs.Common.{◌≡◌, ◌<◌, ◌≤◌, ℕ, zero, suc, ◌+◌, ◌-◌, List, [], ◌∷◌, ◌++◌, length, map, Bool, true, false, Option, Some, None, refl, ap, sym, ◌∙◌, arith, true≢false, inl, inr}
use Rattle.std.proofs.lemmas.Bool.{lt-ltb, ne_eqb, cases_lt}
use Rattle.std.proofs.lemmas.List.{length-map}
use Rattle.std.specs.Prelude.{nat_eq, nat_lt, slice_get}
use Rattle.fac_base.specs.declared.height.Height.{Height}
use Rattle.fac_lang.specs.declared.program.ClassDef.{ClassDef}
use Rattle.fac_base.specs.declared.name.Name.{Name}
use Rattle.fac_lang.specs.declared.program.Program.{Program}
use Rattle.fac_lang.specs.declared.program.WordDef.{WordDef}
use Rattle.fac_lang.specs.declared.program.Shape.{Shape}
use Rattle.fac_lang.specs.declared.program.Shape.TheVariants.{Kind as built_in, Tuple as tuple_class, Union as union, Single as single}
use Rattle.fac_lang.specs.declared.program.Sort.{Sort}
use Rattle.fac_lang.specs.declared.program.Sort.TheVariants.{Class as class}
use Rattle.fac_lang.specs.Classes.{has_own, own_kind, class_with, shape_at, is_single, is_tuple, slots_within}
use Rattle.fac_lang.proofs.SourcePrograms.{IsSessionProgram}
use Rattle.fac_lang.specs.Meaning.{sort_of, own_or_word, names}
use Rattle.fac_lang.specs.Printed.{or_empty}
use Rattle.fac_locals.specs.Closed.{Closes}
use Rattle.fac_locals.specs.declared.closing.Closed.{Closed}
use Rattle.fac_locals.proofs.Lookups.{word_closed, word_closed_none}
use Rattle.fac_code.specs.declared.image.Image.{Image}
use Rattle.fac_code.specs.declared.image.KindRow.{KindRow}
use Rattle.fac_code.specs.declared.image.Tables.{Tables}
use Rattle.fac_code.specs.declared.image.WordRow.{WordRow}
use Rattle.fac_code.specs.Images.{tables_of}
use Rattle.fac_code.specs.ImageNames.{kind_beside, text_of, kind_row, row_slots, own_kind_of, with_count, single_kind, image_names}
use Rattle.fac_carry.specs.Carries.{image_full_name, full_name_of}
use Rattle.fac_emit.specs.ProgramTexts.{program_texts, text_number}
use Rattle.fac_emit.specs.ProgramTables.{slot_numbers, kind_row_of, kinds_from, sort_kind, pairs_from, program_pairs}
use Rattle.fac_emit.specs.ProgramCode.{word_code, words_from, IsPlain}
use Rattle.fac_emit.proofs.Closings.{Alike, a_same, a_body, a_past, a_method, alike}
use Rattle.fac_emit.proofs.KindRows.{no_class, KindOf, FindsKind, k_found, k_none, finds_kind, own_of}
use Rattle.fac_emit.proofs.PlacedWords.{text_in, word_put}
use Rattle.fac_emit.proofs.TextLemmas.{IsAmong, AreAmong, word_named, class_named, slots_named}

never_true : {A : Type 0} → false ≡ true → A
never_true h = absurd (true≢false (sym h))

-- the kind of a word by its sort
abbrev kind_if : List ClassDef → Option Sort → Option ℕ
kind_if cs None = None
kind_if cs (Some s) = sort_kind cs s

-- the class of a word by its sort
abbrev class_if : Option Sort → Option ℕ
class_if o = elim o [ Some s ↦ elim s [ class c ↦ Some c | _ ↦ None ] | None ↦ None ]

kind_alike : (cs : List ClassDef) (s c : Sort) → Alike s c → sort_kind cs c ≡ sort_kind cs s
kind_alike cs s c (a_same t) = refl
kind_alike cs s c (a_body t u) = refl
kind_alike cs s c (a_past t u) = refl
kind_alike cs s c (a_method n g t u) = refl

pub no_rows : (C : Closed) (at v : ℕ) (ds : List WordDef) (w : ℕ) → slice_get ds w ≡ None → slice_get (words_from C at v ds) w ≡ None
no_rows C at v [] w e = refl
no_rows C at v (d ∷ ds) zero e = absurd (cc)
no_rows C at v (d ∷ ds) (suc w) e = no_rows C (at + length (word_code C v d)) (suc v) ds w e

-- the kind beside a word among pairs
abbrev beside_by : ℕ → ℕ → List (ℕ × ℕ) → Option ℕ → Option ℕ
beside_by w v ps o = kind_beside w (elim o [ Some k ↦ (v, k) ∷ ps | None ↦ ps ])

other_beside : (w v : ℕ) (ps : List (ℕ × ℕ)) (o : Option ℕ) → (v ≡ w → ⊥) → beside_by w v ps o ≡ kind_beside w ps
other_beside w v ps None other = refl
other_beside w v ps (Some k) other = ap (λ (q : Bool). elim q [ true ↦ Some k | false ↦ kind_beside w ps ]) (ne_eqb v w other)

beside_below : (cs : List ClassDef) (v w : ℕ) (ds : List WordDef) → w < v → kind_beside w (pairs_from cs v ds) ≡ None
beside_below cs v w [] lt = refl
beside_below cs v w (d ∷ ds) lt = other_beside w v (pairs_from cs (suc v) ds) (sort_kind cs d.sort) (λ e. omega (arith, e, lt)) ∙ beside_below cs (suc v) w ds (omega (arith, lt))

itself : (k : ℕ) → nat_eq k k ≡ true
itself k = grind arith

abbrev kind_by : List ClassDef → Option WordDef → Option ℕ
kind_by cs o = elim o [ Some d ↦ sort_kind cs d.sort | None ↦ None ]

own_beside : (v : ℕ) (ps : List (ℕ × ℕ)) (o : Option ℕ) → kind_beside v ps ≡ None → beside_by v v ps o ≡ o
own_beside v ps None none = none
own_beside v ps (Some k) none = ap (λ (q : Bool). elim q [ true ↦ Some k | false ↦ kind_beside v ps ]) (itself v)

beside_at : (cs : List ClassDef) (v : ℕ) (ds : List WordDef) (k : ℕ) → kind_beside (v + k) (pairs_from cs v ds) ≡ kind_by cs (slice_get ds k)
beside_at cs v [] k = refl
beside_at cs v (d ∷ ds) zero =
    let n : v + 0 ≡ v = omega arith in
    ap (λ (w : ℕ). kind_beside w (pairs_from cs v (d ∷ ds))) n ∙ own_beside v (pairs_from cs (suc v) ds) (sort_kind cs d.sort) (beside_below cs (suc v) v ds (omega arith))
beside_at cs v (d ∷ ds) (suc k) =
    let n : v + suc k ≡ suc v + k = omega arith in
    other_beside (v + suc k) v (pairs_from cs (suc v) ds) (sort_kind cs d.sort) (λ e. omega (arith, e)) ∙ ap (λ (w : ℕ). kind_beside w (pairs_from cs (suc v) ds)) n ∙ beside_at cs (suc v) ds k

module _ (P : Program) (C : Closed) (heights : List (Option Height)) (M : Image) (b : IsSessionProgram P) (closes : Closes P C.program C.templates) (is_plain : IsPlain C heights M) where
  abbrev T : Tables
  T = tables_of M

  -- texts
  text_is : (s : List ℕ) → IsAmong (program_texts C) s → text_of T (text_number C s) ≡ s
  text_is s h = ap or_empty (text_in P C heights M b closes is_plain s h)

  slot_texts : (ss : List (List ℕ)) → AreAmong (program_texts C) ss → map (text_of T) (map (text_number C) ss) ≡ ss
  slot_texts [] h = refl
  slot_texts (s ∷ ss) h = rw (text_is s h.0, slot_texts ss h.1) refl

  -- Words.
  row_kind : (w : ℕ) → own_kind_of T w ≡ kind_if C.program.classes (sort_of P w)
  row_kind w =
      let n : w ≡ 0 + w = omega arith in
      ap (kind_beside w) is_plain.pairs ∙ ap (λ (v : ℕ). kind_beside v (program_pairs C.program)) n ∙ beside_at C.program.classes 0 C.program.words w ∙ by (slice_get P.words w) refl
    where
      by : (o : Option WordDef) → slice_get P.words w ≡ o → kind_by C.program.classes (slice_get C.program.words w) ≡ kind_if C.program.classes (elim o [ Some d ↦ Some d.sort | None ↦ None ])
      by None e = ap (kind_by C.program.classes) (word_closed_none P C.program C.templates closes w e)
      by (Some d) e =
          let found = word_closed P C.program C.templates closes w d e in
          ap (kind_by C.program.classes) found.at ∙ kind_alike C.program.classes d.sort found.closed.sort (alike P w d.sort found.closed.sort found.closes.sort)

  -- what its row names it
  abbrev full_name : Option WordRow → Option (List ℕ × List ℕ)
  full_name o = elim o [ Some r ↦ Some (text_of T r.vocab, text_of T r.name) | None ↦ None ]

  pub word_fully_named : (w : ℕ) → image_full_name M w ≡ full_name_of P w
  word_fully_named w = by (slice_get P.words w) refl
    where
      by : (o : Option WordDef) → slice_get P.words w ≡ o → full_name (slice_get M.words w) ≡ elim o [ Some d ↦ Some (d.name.vocab, d.name.name) | None ↦ None ]
      by None e = ap (λ (rs : List WordRow). full_name (slice_get rs w)) is_plain.word_rows_are ∙ ap full_name (no_rows C _ 0 C.program.words w (word_closed_none P C.program C.templates closes w e))
      by (Some d) e =
          let p = word_put P C heights M b closes is_plain w d e in
          let named = word_named C w p.closed p.at in
          let vocab = text_is p.closed.name.vocab named.0 ∙ ap (λ (n : Name). n.vocab) p.closes_word.name in
          let name = text_is p.closed.name.name named.1.0 ∙ ap (λ (n : Name). n.name) p.closes_word.name in
          ap full_name p.row ∙ ap (λ (v : List ℕ). let x : List ℕ × List ℕ = (v, text_of T (text_number C p.closed.name.name)) in Some x) vocab ∙ ap (λ (n : List ℕ). let x : List ℕ × List ℕ = (d.name.vocab, n) in Some x) name

  word_named_so : (w : ℕ) → (image_names M).word_name w ≡ (names P).word_name w
  word_named_so w = seen (slice_get M.words w) ∙ ap (λ (o : Option (List ℕ × List ℕ)). elim o [ Some x ↦ x.1 | None ↦ [] ]) (word_fully_named w) ∙ said (slice_get P.words w)
    where
      seen : (o : Option WordRow) → ◌≡◌ {A = List ℕ} (elim o [ Some r ↦ text_of T r.name | None ↦ [] ]) (elim (full_name o) [ Some x ↦ x.1 | None ↦ [] ])
      seen None = refl
      seen (Some r) = refl

      said : (o : Option WordDef) → ◌≡◌ {A = List ℕ} (elim (elim o as (λ q. Option (List ℕ × List ℕ)) [ Some d ↦ Some (d.name.vocab, d.name.name) | None ↦ None ]) [ Some x ↦ x.1 | None ↦ [] ]) (elim o [ Some d ↦ d.name.name | None ↦ [] ])
      said None = refl
      said (Some d) = refl

  -- Kinds.

  -- the row of a kind, or none, with the class
  data KindSeen (k : ℕ) : Type 0 where
    seen_kind : (j : ℕ) (o : KindOf C 0 C.program.classes j) → kind_row T k ≡ Some (kind_row_of C o.place o.def) → class_with 0 C.program.classes k ≡ Some o.place → KindSeen k
    unseen_kind : kind_row T k ≡ None → class_with 0 C.program.classes k ≡ None → KindSeen k

  rows_are : (j : ℕ) → slice_get M.kinds j ≡ slice_get (kinds_from C 0 C.program.classes) j
  rows_are j = ap (λ (rows : List KindRow). slice_get rows j) is_plain.kinds

  behind_first : (k : ℕ) → 8 ≤ k → kind_row T k ≡ slice_get M.kinds (k - 8)
  behind_first k ge = ap (λ (q : Bool). elim q [ true ↦ None | false ↦ slice_get M.kinds (k - 8) ]) (not_less k ge)
    where
      not_less : (k : ℕ) → 8 ≤ k → nat_lt k 8 ≡ false
      not_less k ge = grind arith

  seen_by : (k : ℕ) → 8 + (k - 8) ≡ k → kind_row T k ≡ slice_get M.kinds (k - 8) → FindsKind C 0 C.program.classes (k - 8) → KindSeen k
  seen_by k n row (k_found o) =
      let m : 0 + o.place ≡ o.place = omega arith in
      seen_kind (k - 8) o (row ∙ rows_are (k - 8) ∙ o.row_is ∙ ap (λ (c : ℕ). Some (kind_row_of C c o.def)) m) (ap (class_with 0 C.program.classes) (sym n) ∙ o.owner ∙ ap Some m)
  seen_by k n row (k_none e f) = unseen_kind (row ∙ rows_are (k - 8) ∙ e) (ap (class_with 0 C.program.classes) (sym n) ∙ f)

  kind_seen_so : (k : ℕ) → KindSeen k
  kind_seen_so k =
      elim (cases_lt k 8) [
        | inl lt ↦ unseen_kind (ap (λ (q : Bool). elim q [ true ↦ None | false ↦ slice_get M.kinds (k - 8) ]) (lt-ltb k 8 lt)) (no_class 0 k C.program.classes lt)
        | inr ge ↦ seen_by k (omega (arith, ge)) (behind_first k ge) (finds_kind C 0 C.program.classes (k - 8))
      ]

  abbrev kind_name_by : List ClassDef → Option ℕ → List ℕ
  kind_name_by cs o = elim o [ Some c ↦ elim (slice_get cs c) [ Some d ↦ d.name.name | None ↦ [] ] | None ↦ [] ]

  kind_named : (k : ℕ) → (image_names M).kind_name k ≡ (names P).kind_name k
  kind_named k = by (kind_seen_so k) ∙ ap (λ (cs : List ClassDef). kind_name_by cs (class_with 0 cs k)) closes.classes
    where
      by : KindSeen k → (image_names M).kind_name k ≡ kind_name_by C.program.classes (class_with 0 C.program.classes k)
      by (seen_kind j o row owner) =
          ap (λ (r : Option KindRow). elim r [ Some r ↦ text_of T r.name | None ↦ [] ]) row ∙ text_is o.def.name.name (class_named C o.place o.def o.there).1.0
          ∙ sym (ap (kind_name_by C.program.classes) owner ∙ ap (λ (x : Option ClassDef). elim x [ Some d ↦ d.name.name | None ↦ [] ]) o.there)
      by (unseen_kind row owner) = ap (λ (r : Option KindRow). elim r [ Some r ↦ text_of T r.name | None ↦ [] ]) row ∙ sym (ap (kind_name_by C.program.classes) owner)

  -- slots
  none_within : (n c : ℕ) (o : Option Shape) → shape_at C.program.classes c ≡ o → is_tuple o ≡ false → slots_within n C.program.classes c ≡ []
  none_within zero c o e h = refl
  none_within (suc n) c o e h = ap (λ (o : Option Shape). elim o [ None ↦ [] | Some s ↦ elim s [ tuple_class p ss ↦ elim p [ None ↦ ss | Some q ↦ slots_within n C.program.classes q ++ ss ] | _ ↦ [] ] ]) e ∙ by o h
    where
      by : (o : Option Shape) → is_tuple o ≡ false → ◌≡◌ {A = List (List ℕ)} (elim o [ None ↦ [] | Some s ↦ elim s [ tuple_class p ss ↦ elim p [ None ↦ ss | Some q ↦ slots_within n C.program.classes q ++ ss ] | _ ↦ [] ] ]) []
      by None h = refl
      by (Some (tuple_class p ss)) h = never_true (sym h)
      by (Some (built_in j)) h = refl
      by (Some (union ms)) h = refl
      by (Some single) h = refl

  abbrev slots_by_class : List ClassDef → ℕ → List (List ℕ)
  slots_by_class cs c = slots_within (length cs) cs c

  abbrev all_slots : ℕ → List (List ℕ)
  all_slots c = slots_by_class C.program.classes c

  slots_by : (c : ℕ) (s : Shape) → shape_at C.program.classes c ≡ Some s → elim (slot_numbers C c s) [ Some ss ↦ map (text_of T) ss | None ↦ [] ] ≡ all_slots c
  slots_by c (tuple_class p ss) e = slot_texts (all_slots c) (slots_named C (length C.program.classes) c)
  slots_by c (built_in j) e = sym (none_within (length C.program.classes) c (Some (built_in j)) e refl)
  slots_by c (union ms) e = sym (none_within (length C.program.classes) c (Some (union ms)) e refl)
  slots_by c single e = sym (none_within (length C.program.classes) c (Some single) e refl)

  shape_is : (c : ℕ) (d : ClassDef) → slice_get C.program.classes c ≡ Some d → shape_at C.program.classes c ≡ Some d.shape
  shape_is c d e = ap (λ (x : Option ClassDef). elim x [ Some d ↦ Some d.shape | None ↦ None ]) e

  kind_slots_named : (k : ℕ) → (image_names M).kind_slots k ≡ (names P).kind_slots k
  kind_slots_named k = by (kind_seen_so k) ∙ ap (λ (cs : List ClassDef). elim (class_with 0 cs k) [ Some c ↦ slots_by_class cs c | None ↦ [] ]) closes.classes
    where
      by : KindSeen k → (image_names M).kind_slots k ≡ elim (class_with 0 C.program.classes k) [ Some c ↦ all_slots c | None ↦ [] ]
      by (seen_kind j o row owner) =
          ap (λ (r : Option KindRow). elim (row_slots T r) [ Some ss ↦ map (text_of T) ss | None ↦ [] ]) row ∙ slots_by o.place o.def.shape (shape_is o.place o.def o.there) ∙ sym (ap (λ (c : Option ℕ). elim c [ Some c ↦ all_slots c | None ↦ [] ]) owner)
      by (unseen_kind row owner) =
          ap (λ (r : Option KindRow). elim (row_slots T r) [ Some ss ↦ map (text_of T) ss | None ↦ [] ]) row ∙ sym (ap (λ (c : Option ℕ). elim c [ Some c ↦ all_slots c | None ↦ [] ]) owner)

  -- The kind of a class's word.
  own_seen : (c k : ℕ) → own_kind 8 C.program.classes c ≡ Some k → (d : ClassDef) × (slice_get C.program.classes c ≡ Some d) × (kind_row T k ≡ Some (kind_row_of C c d)) × (has_own d.shape ≡ true)
  own_seen c k e =
      let o = own_of C 0 C.program.classes c 8 k e in
      let number = o.number in
      let n : 0 + c ≡ c = omega arith in
      let m : k - 8 ≡ o.place = omega (arith, number) in
      (o.def, o.there, behind_first k (omega (arith, number)) ∙ ap (slice_get M.kinds) m ∙ rows_are o.place ∙ o.row_is ∙ ap (λ (x : ℕ). Some (kind_row_of C x o.def)) n, o.owns)

  -- of a singleton
  word_kind_by : (c : ℕ) (o : Option ℕ) → own_kind 8 C.program.classes c ≡ o → ◌≡◌ {A = ℕ} (elim o [ Some k ↦ single_kind T k (kind_row T k) | None ↦ 5 ]) (elim (is_single (shape_at C.program.classes c)) [ true ↦ own_or_word o | false ↦ 5 ])
  word_kind_by c None e = by (is_single (shape_at C.program.classes c))
    where
      by : (q : Bool) → ◌≡◌ {A = ℕ} 5 (elim q [ true ↦ 5 | false ↦ 5 ])
      by true = refl
      by false = refl
  word_kind_by c (Some k) e =
      let seen = own_seen c k e in
      ap (single_kind T k) seen.2 ∙ by seen.0.shape seen.3 ∙ sym (ap (λ (s : Option Shape). elim (is_single s) [ true ↦ k | false ↦ 5 ]) (shape_is c seen.0 seen.1))
    where
      by : (s : Shape) → has_own s ≡ true → ◌≡◌ {A = ℕ} (elim (slot_numbers C c s) [ None ↦ k | Some ss ↦ 5 ]) (elim (is_single (Some s)) [ true ↦ k | false ↦ 5 ])
      by (tuple_class p ss) h = refl
      by single h = refl
      by (built_in j) h = never_true h
      by (union ms) h = never_true h

  -- of a tuple class, with the number of its slots
  tuple_by : (c : ℕ) (o : Option ℕ) → own_kind 8 C.program.classes c ≡ o →
      ◌≡◌ {A = Option (ℕ × ℕ)} (elim o [ Some k ↦ with_count T k (row_slots T (kind_row T k)) | None ↦ None ]) (elim (is_tuple (shape_at C.program.classes c)) [ true ↦ elim o [ Some k ↦ Some (k, length (all_slots c)) | None ↦ None ] | false ↦ None ])
  tuple_by c None e = by (is_tuple (shape_at C.program.classes c))
    where
      by : (q : Bool) → ◌≡◌ {A = Option (ℕ × ℕ)} None (elim q [ true ↦ None | false ↦ None ])
      by true = refl
      by false = refl
  tuple_by c (Some k) e =
      let seen = own_seen c k e in
      ap (λ (r : Option KindRow). with_count T k (row_slots T r)) seen.2 ∙ by seen.0.shape seen.3 ∙ sym (ap (λ (s : Option Shape). elim (is_tuple s) [ true ↦ Some (k, length (all_slots c)) | false ↦ None ]) (shape_is c seen.0 seen.1))
    where
      by : (s : Shape) → has_own s ≡ true → ◌≡◌ {A = Option (ℕ × ℕ)} (with_count T k (slot_numbers C c s)) (elim (is_tuple (Some s)) [ true ↦ Some (k, length (all_slots c)) | false ↦ None ])
      by (tuple_class p ss) h = ap (λ (n : ℕ). Some (k, n)) (length-map (all_slots c) (text_number C))
      by single h = refl
      by (built_in j) h = never_true h
      by (union ms) h = never_true h

  abbrev word_kind_in : List ClassDef → Option Sort → ℕ
  word_kind_in cs o = elim (class_if o) [ Some c ↦ elim (is_single (shape_at cs c)) [ true ↦ own_or_word (own_kind 8 cs c) | false ↦ 5 ] | None ↦ 5 ]

  sort_kinds : (o : Option Sort) → ◌≡◌ {A = ℕ} (elim (kind_if C.program.classes o) [ Some k ↦ single_kind T k (kind_row T k) | None ↦ 5 ]) (word_kind_in C.program.classes o)
  sort_kinds None = refl
  sort_kinds (Some (class c)) = word_kind_by c (own_kind 8 C.program.classes c) refl
  sort_kinds (Some _) = refl

  abbrev tuple_class_in : List ClassDef → Option Sort → Option (ℕ × ℕ)
  tuple_class_in cs o = elim (class_if o) [ Some c ↦ elim (is_tuple (shape_at cs c)) [ true ↦ elim (own_kind 8 cs c) [ Some k ↦ Some (k, length (slots_by_class cs c)) | None ↦ None ] | false ↦ None ] | None ↦ None ]

  sort_tuples : (o : Option Sort) → ◌≡◌ {A = Option (ℕ × ℕ)} (elim (kind_if C.program.classes o) [ Some k ↦ with_count T k (row_slots T (kind_row T k)) | None ↦ None ]) (tuple_class_in C.program.classes o)
  sort_tuples None = refl
  sort_tuples (Some (class c)) = tuple_by c (own_kind 8 C.program.classes c) refl
  sort_tuples (Some _) = refl

  word_kinds : (w : ℕ) → (image_names M).word_kind w ≡ (names P).word_kind w
  word_kinds w = ap (λ (o : Option ℕ). elim o [ Some k ↦ single_kind T k (kind_row T k) | None ↦ 5 ]) (row_kind w) ∙ sort_kinds (sort_of P w) ∙ ap (λ (cs : List ClassDef). word_kind_in cs (sort_of P w)) closes.classes

  tuple_classes : (w : ℕ) → (image_names M).tuple_class w ≡ (names P).tuple_class w
  tuple_classes w = ap (λ (o : Option ℕ). elim o [ Some k ↦ with_count T k (row_slots T (kind_row T k)) | None ↦ None ]) (row_kind w) ∙ sort_tuples (sort_of P w) ∙ ap (λ (cs : List ClassDef). tuple_class_in cs (sort_of P w)) closes.classes

  pub image_named : image_names M ≡ names P
  image_named = λ i. record { word_name = λ w. word_named_so w i; kind_name = λ k. kind_named k i; kind_slots = λ k. kind_slots_named k i; word_kind = λ w. word_kinds w i; tuple_class = λ w. tuple_classes w i }
