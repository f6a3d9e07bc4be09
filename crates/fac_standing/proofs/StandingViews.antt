-- What values stand for, and that they are whole, in a longer program.
use Rattle.std.proofs.Common.{◌≡◌, ◌<◌, ◌≤◌, ℕ, zero, suc, ◌+◌, List, [], ◌∷◌, ◌++◌, length, length-append, Bool, true, false, ◌&&◌, Option, Some, None, refl, sym, ap, subst, ◌∙◌, arith}
use Rattle.std.specs.Prelude.{map, slice_get, nat_eq, nat_lt, not, ◌||◌}
use Rattle.std.proofs.lemmas.Bool.Decides.{Decides-ltb}
use Rattle.fac_base.specs.declared.height.Height.{Height}
use Rattle.fac_lang.specs.LongerPrograms.{IsLonger}
use Rattle.fac_lang.specs.Meaning.{sort_of, is_past, is_top_phrase}
use Rattle.fac_lang.specs.Phrases.{Phrase, held, Value, fun, Callable, of_phrase, cur, both}
use Rattle.fac_lang.specs.World.{Object, array, tuple, World}
use Rattle.fac_lang.specs.Whole.{IsWhole, is_nameable}
use Rattle.fac_lang.specs.declared.phrase.Template.{Template}
use Rattle.fac_lang.specs.declared.program.Program.{Program}
use Rattle.fac_lang.specs.declared.program.Sort.{Sort}
use Rattle.fac_lang.specs.declared.program.WordDef.{WordDef}
use Rattle.fac_lang.proofs.FormsLemmas.{sort_at}
use Rattle.fac_lang.proofs.SourcePrograms.{may_name, session_of_whole}
use Rattle.fac_lang.proofs.SessionWords.{may_name_before, may_name_no_phrase, word_below}
use Rattle.fac_locals.specs.Cells.{captured, hole_count}
use Rattle.fac_locals.specs.Literals.{Quoted, literals, literal_numbered}
use Rattle.fac_locals.specs.declared.closing.Closed.{Closed}
use Rattle.fac_locals.proofs.Lookups.{template_closed, templates_count}
use Rattle.fac_check.specs.CallableEffects.{callable_height}
use Rattle.fac_base.specs.HeightArithmetic.{curried_height, composed_height}
use Rattle.fac_code.specs.declared.image.Image.{Image}
use Rattle.fac_code.specs.declared.image.TemplateRow.{TemplateRow}
use Rattle.fac_code.specs.declared.image.Instr.TheVariants.{Ret}
use Rattle.fac_store.specs.CallableHeights.{height_there}
use Rattle.fac_store.specs.MachineValues.{MValue, m_plain, m_fun, MCallable, m_lit, m_cur, m_com, Kept, none_kept, kept, kept_list}
use Rattle.fac_carry.specs.MachineView.{Templates, template_phrases, value_view, callable_view, kept_view, values_view, object_view, world_view}
use Rattle.fac_carry.specs.WholeValues.{Whole, WholeCallable, WholeKept, AllWhole, WholeObject, WholeObjects}
use Rattle.fac_emit.specs.ProgramCode.{phrase_code, row_at, template_rows}
use Rattle.fac_longer.proofs.LongerPrograms.{below_top, other_number, other_stays}
use Rattle.fac_longer.proofs.StayingLiterals.{literals_are, numbered_are, templates_are}
use Rattle.fac_standing.specs.Standing.{IsImageOf, Spares, ValuesStand, ObjectsStand}
use Rattle.fac_standing.specs.Laws.{StandingValuesAreWhole, StandingObjectsAreWhole, AreLonger, RowStays, ImageGoesOn, ValuesStayTheSame, WorldsStayTheSame, ValuesStandLonger, ObjectsStandLonger}

-- Lists.

within : {A : Type 0} (xs : List A) (k : ℕ) (x : A) → slice_get xs k ≡ Some x → k < length xs
within [] k x e = absurd cc
within (y ∷ xs) zero x e = omega arith
within (y ∷ xs) (suc k) x e = let later = within xs k x e in omega (arith, later)

pub there : {A : Type 0} (xs : List A) (k : ℕ) → k < length xs → (x : A) × (slice_get xs k ≡ Some x)
there [] k lt = absurd (omega (arith, lt))
there (x ∷ xs) zero lt = (x, refl)
there (x ∷ xs) (suc k) lt = there xs k (omega (arith, lt))

-- The rows of templates.

record OfTemplate (r : TemplateRow) (t : Template) : Type 0 where
  cells : r.cells ≡ t.captures
  holes : r.holes ≡ t.holes

module _ (C : Closed) (heights : List (Option Height)) where
  template_of : (at q : ℕ) (ts : List Template) (k : ℕ) (r : TemplateRow) → slice_get (template_rows C heights at q ts) k ≡ Some r → (t : Template) × (slice_get ts k ≡ Some t) × OfTemplate r t
  template_of at q [] k r e = absurd cc
  template_of at q (t ∷ ts) zero r e = let same : row_at (height_there (slice_get heights q)) at t ≡ r = cc in (t, refl, record { cells = sym (ap (λ (x : TemplateRow). x.cells) same); holes = sym (ap (λ (x : TemplateRow). x.holes) same) })
  template_of at q (t ∷ ts) (suc k) r e = template_of (at + length (phrase_code C Ret t.body)) (suc q) ts k r e

  row_of : (at q : ℕ) (ts : List Template) (k : ℕ) (t : Template) → slice_get ts k ≡ Some t → (r : TemplateRow) × (slice_get (template_rows C heights at q ts) k ≡ Some r) × OfTemplate r t
  row_of at q [] k t e = absurd cc
  row_of at q (x ∷ ts) zero t e = let same : x ≡ t = cc in (row_at (height_there (slice_get heights q)) at x, refl, record { cells = ap (λ (y : Template). y.captures) same; holes = ap (λ (y : Template). y.holes) same })
  row_of at q (x ∷ ts) (suc k) t e = row_of (at + length (phrase_code C Ret x.body)) (suc q) ts k t e

  rows_count : (at q : ℕ) (ts : List Template) → length (template_rows C heights at q ts) ≡ length ts
  rows_count at q [] = refl
  rows_count at q (t ∷ ts) = ap suc (rows_count (at + length (phrase_code C Ret t.body)) (suc q) ts)

module _ (P : Program) (M : Image) (is : IsImageOf P M) where
  -- an image has as many templates as its program has literals
  pub count : length M.templates ≡ length (literals P)
  count = ap length is.plain.template_rows_are ∙ rows_count is.closed is.heights 0 0 is.closed.templates ∙ templates_count P is.closed.program is.closed.templates is.closes

  -- each of them for one
  record RowOf (q : ℕ) (r : TemplateRow) : Type 0 where
    cells : r.cells ≡ captured (literal_numbered P q).cells (literal_numbered P q).item
    holes : r.holes ≡ hole_count (literal_numbered P q).item

  row_for : (q : ℕ) (r : TemplateRow) → slice_get M.templates q ≡ Some r → RowOf q r
  row_for q r e =
      let t = template_of is.closed is.heights 0 0 is.closed.templates q r (sym (ap (λ (rs : List TemplateRow). slice_get rs q) is.plain.template_rows_are) ∙ e) in
      let closed = template_closed P is.closed.program is.closed.templates is.closes q t.0 t.1 in
      record { cells = t.2.cells ∙ closed.captures; holes = t.2.holes ∙ closed.holes }

  row_there : (q : ℕ) → q < length (literals P) → (r : TemplateRow) × (slice_get M.templates q ≡ Some r)
  row_there q lt = let many = count in there M.templates q (omega (arith, lt, many))

  pub literal_there : (q : ℕ) (r : TemplateRow) → slice_get M.templates q ≡ Some r → q < length (literals P)
  literal_there q r e = let lt = within M.templates q r e in let many = count in omega (arith, lt, many)

-- What stands is whole.

pub values_whole : StandingValuesAreWhole
values_whole P M vs h = h P (may_name_no_phrase P)

pub objects_whole : StandingObjectsAreWhole
objects_whole P M os h = h P (may_name_no_phrase P)

-- What may be named may be named in a longer program.

second_false : (a b : Bool) → (a || b) ≡ false → b ≡ false
second_false true b h = absurd cc
second_false false b h = h

named_by : (a b c : Bool) → a ≡ true → b ≡ false → c ≡ false → (a && not (b || c)) ≡ true
named_by a b c h k l = rw (h, k, l) refl

names_stay : (P Q : Program) → IsWhole P → IsWhole Q → IsLonger P Q → (w : ℕ) → may_name P w ≡ true → may_name Q w ≡ true
names_stay P Q p q F w h =
    let b = session_of_whole P p in
    let lt = may_name_before P w h in
    let count = p.top_last in
    let found = word_below P b w lt in
    let low : w < Q.top = below_top P Q p q F w (omega (arith, lt, count)) in
    let other : nat_eq w P.top ≡ false = other_number w P.top lt in
    let last : nat_eq w Q.top ≡ false = other_number w Q.top low in
    let old : is_past (sort_of P w) ≡ false = second_false (nat_eq w P.top) (is_past (sort_of P w)) (may_name_no_phrase P w h) in
    let sorts : sort_of Q w ≡ sort_of P w = sort_at Q w found.def (other_stays P Q p q F w found.def found.at other) ∙ sym (sort_at P w found.def found.at) in
    named_by (nat_lt w Q.top) (nat_eq w Q.top) (is_past (sort_of Q w)) ((Decides-ltb w Q.top).1 low) last (ap is_past sorts ∙ old)

-- A longer program, with the images of both.
module _ (P Q : Program) (M N : Image) (L : AreLonger P Q M N) where
  p : IsWhole P
  p = L.of_first.whole

  q : IsWhole Q
  q = L.of_second.whole

  pub spares_stay : (R : Program) → Spares Q R → Spares P R
  spares_stay R h = λ w e. h w (names_stay P Q p q L.longer w e)

  more_literals : length (literals P) ≤ length (literals Q)
  more_literals = let more = literals_are P Q p q L.longer in let all = ap length more.1 ∙ length-append (literals P) more.0 in omega (arith, all)

  pub rows_stay : (k : ℕ) (r : TemplateRow) → slice_get M.templates k ≡ Some r → RowStays N k r
  rows_stay k r e =
      let lt = literal_there P M L.of_first k r e in
      let more = more_literals in
      let first = row_for P M L.of_first k r e in
      let found = row_there Q N L.of_second k (omega (arith, lt, more)) in
      let second = row_for Q N L.of_second k found.0 found.1 in
      let same = numbered_are P Q p q L.longer k lt in
      record {
        row = found.0;
        there = found.1;
        cells = second.cells ∙ ap (λ (l : Quoted). captured l.cells l.item) same ∙ sym first.cells;
        holes = second.holes ∙ ap (λ (l : Quoted). hole_count l.item) same ∙ sym first.holes;
      }

  pub templates_more : length M.templates ≤ length N.templates
  templates_more = let first = count P M L.of_first in let second = count Q N L.of_second in let more = more_literals in omega (arith, first, second, more)

  -- Views.

  abbrev T : Templates
  T = template_phrases P

  abbrev U : Templates
  U = template_phrases Q

  phrases_same : (k : ℕ) (r : TemplateRow) (vs : List Value) → slice_get M.templates k ≡ Some r → U k vs ≡ T k vs
  unfolding template_phrases
  phrases_same k r vs e = templates_are P Q p q L.longer k (literal_there P M L.of_first k r e) (map held vs)

  mutual
    value_same : (v : MValue) → Whole P M v → value_view U v ≡ value_view T v
    value_same (m_plain x) h = refl
    value_same (m_fun c) h = ap fun (callable_same c h)

    callable_same : (c : MCallable) → WholeCallable P M c → callable_view U c ≡ callable_view T c
    callable_same (m_lit k vs) h = ap of_phrase (ap (U k) (kept_same vs h.3) ∙ phrases_same k h.0 (kept_view T vs) h.1)
    callable_same (m_cur v c) h = rw (value_same v h.0, callable_same c h.1) refl
    callable_same (m_com c d) h = rw (callable_same c h.0, callable_same d h.1) refl

    kept_same : (k : Kept) → WholeKept P M k → kept_view U k ≡ kept_view T k
    kept_same none_kept h = refl
    kept_same (kept v k) h = rw (value_same v h.0, kept_same k h.1) refl

  all_same : (vs : List MValue) → AllWhole P M vs → values_view U vs ≡ values_view T vs
  all_same [] h = refl
  all_same (v ∷ vs) h = rw (value_same v h.0, all_same vs h.1) refl

  object_same : (o : Object MValue) → WholeObject P M o → object_view U o ≡ object_view T o
  object_same (array vs) h = ap array (all_same vs h)
  object_same (tuple k vs) h = ap (tuple k) (all_same vs h)

  objects_same : (os : List (Object MValue)) → WholeObjects P M os → map (object_view U) os ≡ map (object_view T) os
  objects_same [] h = refl
  objects_same (o ∷ os) h = rw (object_same o h.0, objects_same os h.1) refl

  -- Wholeness, of whichever program.

  module _ (R : Program) where
    mutual
      value_stays : (v : MValue) → Whole R M v → Whole R N v
      value_stays (m_plain x) h = h
      value_stays (m_fun c) h = callable_stays c h

      callable_stays : (c : MCallable) → WholeCallable R M c → WholeCallable R N c
      callable_stays (m_lit k vs) h =
          let row = rows_stay k h.0 h.1 in
          let many = h.2 in
          let cells = ap length row.cells in
          let holes = row.holes in
          (row.row, row.there, omega (arith, many, cells, holes), kept_stays vs h.3)
      callable_stays (m_cur v c) h = (value_stays v h.0, callable_stays c h.1)
      callable_stays (m_com c d) h = (callable_stays c h.0, callable_stays d h.1)

      kept_stays : (k : Kept) → WholeKept R M k → WholeKept R N k
      kept_stays none_kept h = tt
      kept_stays (kept v k) h = (value_stays v h.0, kept_stays k h.1)

    pub all_stay : (vs : List MValue) → AllWhole R M vs → AllWhole R N vs
    all_stay [] h = tt
    all_stay (v ∷ vs) h = (value_stays v h.0, all_stay vs h.1)

    object_stays : (o : Object MValue) → WholeObject R M o → WholeObject R N o
    object_stays (array vs) h = all_stay vs h
    object_stays (tuple k vs) h = all_stay vs h

    pub objects_stay : (os : List (Object MValue)) → WholeObjects R M os → WholeObjects R N os
    objects_stay [] h = tt
    objects_stay (o ∷ os) h = (object_stays o h.0, objects_stay os h.1)

pub values_same : ValuesStayTheSame
values_same P Q M N L vs h = all_same P Q M N L vs h

pub worlds_same : WorldsStayTheSame
worlds_same P Q M N L w h = ap (λ (os : List (Object Value)). record (world_view (template_phrases P) w) { objects = os }) (objects_same P Q M N L w.objects h)

pub values_stand : ValuesStandLonger
values_stand P Q M N L vs h = λ R s. all_stay P Q M N L R vs (h R (spares_stay P Q M N L R s))

pub objects_stand : ObjectsStandLonger
objects_stand P Q M N L os h = λ R s. objects_stay P Q M N L R os (h R (spares_stay P Q M N L R s))
