-- A closed program opens to the one for which it stands.
use Rattle.std.proofs.Common.{◌≡◌, ◌<◌, ◌≤◌, ℕ, zero, suc, ◌+◌, List, [], ◌∷◌, ◌++◌, length, Bool, true, false, Option, Some, None, slice_get, refl, sym, ap, ap₂, ◌∙◌, subst, length-append, arith}
use Rattle.fac_base.specs.declared.place.Place.{Place}
use Rattle.fac_lang.specs.declared.phrase.Template.{Template}
use Rattle.fac_lang.specs.declared.program.Program.{Program}
use Rattle.fac_lang.specs.declared.program.WordDef.{WordDef}
use Rattle.fac_lang.specs.declared.program.Sort.{Sort}
use Rattle.fac_lang.specs.declared.program.Sort.TheVariants.{Prim as prim, Core as core, Body as body, Past as past, Itself as itself, Class as class, Isa as isa, Getter as getter, Setter as setter, Putter as putter, Generic as generic, Method as method}
use Rattle.fac_lang.specs.Meaning.{nowhere}
use Rattle.fac_lang.specs.Phrases.{Literal, Phrase, end, then, Item, lit, lit_arr, quot, word, bind, local, fry, hole, call_effect, execute_effect, next_method, made, next_after, held, known}
use Rattle.fac_lang.specs.Substitution.{binds_local, of_method}
use Rattle.std.proofs.lemmas.Grind.{common_steps}
use Rattle.fac_locals.specs.declared.cell.Cell.{Cell}
use Rattle.fac_locals.specs.declared.cell.Cell.TheVariants.{Local, Hole}
use Rattle.fac_locals.specs.Cells.{cell_number, cells_behind, binds_cell, captured, kept_cells, hole_cells, hole_count, inner_cells, inner_phrase}
use Rattle.fac_locals.specs.Literals.{Quoted, behind, first_of_word, first_of_literal, first_in_array, array_phrase, literals_in, literals_at, array_literals, sort_literals, word_literals, literals, literal_or, literal_numbered}
use Rattle.fac_locals.specs.Closed.{IsMadeBy, ClosesItem, ClosesPhrase, ClosesSort, ClosesLiteral, Closes}
use Rattle.fac_locals.specs.Frames.{cell_item, put_behind, put_in_fry, filled_by, filled_item, item_for, filled, IsPut, ArePut, items_at, template_phrase, OpensItem, o_plain, o_local, o_quotation, o_fry, Opens, o_end, o_item, o_bind}
use Rattle.fac_locals.specs.OpenedPrograms.{OpensSort, OpensProgram, ClosedProgramsOpen}
use Rattle.fac_locals.proofs.Lookups.{template_closed, template_closed_none, templates_count, word_closed}
use Rattle.fac_locals.proofs.FrameLaws.{item_at_cell, filled_alike, filled_nothing, behind_filled, holes_count, kept_items, captured_items, captured_count, put_among, put_both, fills, bound_filled, quotation_filled, fry_filled}

-- Literals of a program are in its words.
module _ (n : ℕ) where
  abbrev InWords : List Quoted → Type 0
  InWords [] = Unit {0}
  InWords (l ∷ ls) = (l.at.word < n) × InWords ls

  both_in_words : (ls ms : List Quoted) → InWords ls → InWords ms → InWords (ls ++ ms)
  both_in_words [] ms h g = g
  both_in_words (l ∷ ls) ms h g = (h.0, both_in_words ls ms h.1 g)

  module _ (arrays : ℕ → Literal → List Quoted) (in_arrays : (a : ℕ) (at : Literal) → at.word < n → InWords (arrays a at)) where
    mutual
      phrase_in_words : (cells : List Cell) (at : Literal) (t : Phrase) → at.word < n → InWords (literals_in arrays cells at t)
      phrase_in_words cells at end l = tt
      phrase_in_words cells at (then i p t) l =
          both_in_words (literals_at arrays cells at i) (literals_in arrays (cells_behind cells i) (behind at i) t) (item_in_words cells at i l) (phrase_in_words (cells_behind cells i) (behind at i) t l)

      item_in_words : (cells : List Cell) (at : Literal) (i : Item) → at.word < n → InWords (literals_at arrays cells at i)
      item_in_words cells at (quot t) l = (l, phrase_in_words (inner_cells cells (quot t)) (first_of_literal at) t l)
      item_in_words cells at (fry t k) l = (l, phrase_in_words (inner_cells cells (fry t k)) (first_of_literal at) t l)
      item_in_words cells at (lit_arr a) l = in_arrays a at l
      item_in_words cells at (lit p) l = tt
      item_in_words cells at (word w) l = tt
      item_in_words cells at (bind x) l = tt
      item_in_words cells at (local x) l = tt
      item_in_words cells at (hole k) l = tt
      item_in_words cells at (call_effect e) l = tt
      item_in_words cells at (execute_effect e) l = tt
      item_in_words cells at next_method l = tt
      item_in_words cells at (made k) l = tt
      item_in_words cells at (next_after m) l = tt
      item_in_words cells at (held v) l = tt
      item_in_words cells at (known m) l = tt

  module _ (P : Program) where
    array_in_words : (k a : ℕ) (at : Literal) → at.word < n → InWords (array_literals P k a at)
    array_in_words zero a at l = tt
    array_in_words (suc k) a at l = phrase_in_words (array_literals P k) (array_in_words k) [] (first_in_array at) (array_phrase P a nowhere) l

    sort_in_words : (w : ℕ) (s : Sort) → w < n → InWords (sort_literals P w s)
    sort_in_words w (body t) l = phrase_in_words (array_literals P (length P.arrays)) (array_in_words (length P.arrays)) [] (first_of_word w) t l
    sort_in_words w (past t) l = phrase_in_words (array_literals P (length P.arrays)) (array_in_words (length P.arrays)) [] (first_of_word w) t l
    sort_in_words w (method c g t) l = phrase_in_words (array_literals P (length P.arrays)) (array_in_words (length P.arrays)) [] (first_of_word w) (of_method w t) l
    sort_in_words w (prim k) l = tt
    sort_in_words w (core k) l = tt
    sort_in_words w itself l = tt
    sort_in_words w (class k) l = tt
    sort_in_words w (isa k) l = tt
    sort_in_words w (getter x) l = tt
    sort_in_words w (setter x) l = tt
    sort_in_words w (putter x) l = tt
    sort_in_words w generic l = tt

    words_in_words : (w : ℕ) (ds : List WordDef) → w + length ds ≤ n → InWords (word_literals P w ds)
    words_in_words w [] l = tt
    words_in_words w (d ∷ ds) l = both_in_words (sort_literals P w d.sort) (word_literals P (suc w) ds) (sort_in_words w d.sort (omega (arith, l))) (words_in_words (suc w) ds (omega (arith, l)))

  one_in_words : (ls : List Quoted) (k : ℕ) (l : Quoted) → InWords ls → slice_get ls k ≡ Some l → l.at.word < n
  one_in_words [] k l h e = absurd cc
  one_in_words (m ∷ ls) zero l h e = let same : m ≡ l = cc in subst (λ (q : Quoted). q.at.word < n) same h.0
  one_in_words (m ∷ ls) (suc k) l h e = one_in_words ls k l h.1 e

pub literal_in_words : (P : Program) (k : ℕ) (l : Quoted) → slice_get (literals P) k ≡ Some l → l.at.word < length P.words
literal_in_words P k l e = one_in_words (length P.words) (literals P) k l (words_in_words (length P.words) P 0 P.words (omega arith)) e

-- The cells of a frame are as many as captures and holes.
pub inner_count : (cs : List Cell) (i : Item) → length (inner_cells cs i) ≡ length (captured cs i) + hole_count i
inner_count cs i = length-append (kept_cells cs i) (hole_cells (hole_count i)) ∙ ap₂ (λ (a b : ℕ). a + b) (sym (captured_count 0 cs i)) (holes_count (hole_count i))

-- The items of cells of a frame are put, and as many as the cells.
pub items_are_put : (ks : List ℕ) (frame is : List Item) → ArePut frame → items_at ks frame ≡ Some is → ArePut is × (length is ≡ length ks)
items_are_put [] frame is h e = let none : [] ≡ is = cc in subst (λ (l : List Item). ArePut l × (length l ≡ 0)) none (tt, refl)
items_are_put (k ∷ ks) frame is h e = by_item (slice_get frame k) (items_at ks frame) refl (items_are_put ks frame) e
  where
    by_item :
        (o : Option Item) (q : Option (List Item)) → slice_get frame k ≡ o → ((js : List Item) → ArePut frame → q ≡ Some js → ArePut js × (length js ≡ length ks)) →
        ◌≡◌ {A = Option (List Item)} (elim o [ None ↦ None | Some i ↦ elim q [ None ↦ None | Some js ↦ Some (i ∷ js) ] ]) (Some is) → ArePut is × (length is ≡ suc (length ks))
    by_item None q a rec g = absurd cc
    by_item (Some i) None a rec g = absurd cc
    by_item (Some i) (Some js) a rec g =
        let same : i ∷ js ≡ is = cc in
        let rest = rec js h refl in
        subst (λ (l : List Item). ArePut l × (length l ≡ suc (length ks))) same ((put_among frame k i h a, rest.0), ap suc rest.1)

not_past : {A : Type 0} (xs : List A) (k : ℕ) → k < length xs → slice_get xs k ≡ None → ⊥
not_past [] k l e = absurd (omega (arith, l))
not_past (x ∷ xs) zero l e = absurd cc
not_past (x ∷ xs) (suc k) l e = not_past xs k (omega (arith, l)) e

is_below : {A : Type 0} (xs : List A) (k : ℕ) (x : A) → slice_get xs k ≡ Some x → k < length xs
is_below [] k x e = absurd cc
is_below (y ∷ xs) zero x e = omega arith
is_below (y ∷ xs) (suc k) x e = omega (arith, is_below xs k x e)

module _ (P C : Program) (templates : List Template) (closes : Closes P C templates) where
  -- a number behind the literals has no template
  no_template : (k : ℕ) (t : Template) → slice_get templates k ≡ Some t → slice_get (literals P) k ≡ None → ⊥
  no_template k t e g = let below = is_below templates k t e in not_past (literals P) k (omega (arith, below, templates_count P C templates closes)) g

  -- a template's literal is in a word
  template_in_words : (k : ℕ) (t : Template) → slice_get templates k ≡ Some t → (literal_numbered P k).at.word < length P.words
  template_in_words k t e = by_literal (slice_get (literals P) k) refl
    where
      by_literal : (o : Option Quoted) → slice_get (literals P) k ≡ o → (literal_numbered P k).at.word < length P.words
      by_literal (Some l) g = subst (λ (q : Quoted). q.at.word < length P.words) (sym (ap (literal_or P k) g)) (literal_in_words P k l g)
      by_literal None g = absurd (no_template k t e g)

  -- the template of a quotation or fry in a word is there
  made_there : (cells : List Cell) (at : Literal) (i : Item) (k : ℕ) → at.word < length P.words → IsMadeBy P cells at i k → (t : Template) × (slice_get templates k ≡ Some t)
  made_there cells at i k l e = by_template (slice_get templates k) refl
    where
      by_template : (o : Option Template) → slice_get templates k ≡ o → (t : Template) × (slice_get templates k ≡ Some t)
      by_template (Some t) h = (t, h)
      by_template None h =
          let none = template_closed_none P C templates closes k h in
          let outside : length P.words ≡ at.word = ap (λ (q : Quoted). q.at.word) (sym (ap (literal_or P k) none) ∙ e) in
          absurd (omega (arith, outside, l))

  made_closes : (cells : List Cell) (at : Literal) (i : Item) (k : ℕ) (t : Template) → IsMadeBy P cells at i k → slice_get templates k ≡ Some t → ClosesLiteral P (record { at = at; cells = cells; item = i }) t
  made_closes cells at i k t e h = subst (λ (l : Quoted). ClosesLiteral P l t) e (template_closed P C templates closes k t h)

  phrase_of_made : (cells : List Cell) (at : Literal) (i : Item) (k : ℕ) (is : List Item) → IsMadeBy P cells at i k → template_phrase P k is ≡ filled (inner_cells cells i) is (inner_phrase i)
  phrase_of_made cells at i k is e = ap (λ (l : Quoted). filled (inner_cells l.cells l.item) is (inner_phrase l.item)) e

  captures_of_made : (cells : List Cell) (i : Item) (t : Template) (is : List Item) → t.captures ≡ captured cells i → length is ≡ length cells → items_at t.captures is ≡ Some (kept_items cells is i)
  captures_of_made cells i t is e n = ap (λ (ks : List ℕ). items_at ks is) e ∙ captured_items cells is i n

  -- a quotation or fry opens to itself with the frame's items put
  quotation_opens : (cells : List Cell) (at : Literal) (u : Phrase) (k : ℕ) (is : List Item) → at.word < length P.words → IsMadeBy P cells at (quot u) k → length is ≡ length cells → OpensItem P templates is at (made k) (quot (filled cells is u))
  quotation_opens cells at u k is l e n =
      let there = made_there cells at (quot u) k l e in
      let closed = made_closes cells at (quot u) k there.0 e there.1 in
      let same : template_phrase P k (kept_items cells is (quot u)) ≡ filled cells is u = phrase_of_made cells at (quot u) k (kept_items cells is (quot u)) e ∙ sym (quotation_filled cells is u n) in
      subst
      (λ (v : Phrase). OpensItem P templates is at (made k) (quot v))
      same
      (o_quotation k there.0 (kept_items cells is (quot u)) there.1 closed.holes (ap (λ (q : Quoted). q.at) e) (captures_of_made cells (quot u) there.0 is closed.captures n))

  fry_opens : (cells : List Cell) (at : Literal) (u : Phrase) (m k : ℕ) (is : List Item) → at.word < length P.words → IsMadeBy P cells at (fry u m) k → ArePut is → length is ≡ length cells → OpensItem P templates is at (made k) (fry (filled_by (put_in_fry (item_for cells is)) u) m)
  fry_opens cells at u m k is l e h n =
      let there = made_there cells at (fry u m) k l e in
      let closed = made_closes cells at (fry u m) k there.0 e there.1 in
      subst
      (λ (j : ℕ). OpensItem P templates is at (made k) (fry (filled_by (put_in_fry (item_for cells is)) u) j))
      closed.holes
      (o_fry
      k
      there.0
      (kept_items cells is (fry u m))
      (filled_by (put_in_fry (item_for cells is)) u)
      there.1
      (ap (λ (q : Quoted). q.at) e)
      (captures_of_made cells (fry u m) there.0 is closed.captures n)
      (λ js g many. fry_filled cells is js u m n h (many ∙ closed.holes) ∙ sym (phrase_of_made cells at (fry u m) k (kept_items cells is (fry u m) ++ js) e)))

  -- a local or a hole opens to what its cell holds
  cell_opens : (cells : List Cell) (at : Literal) (c : Cell) (k : ℕ) (is : List Item) → cell_number cells c ≡ Some k → ArePut is → length is ≡ length cells → OpensItem P templates is at (local k) (item_for cells is c)
  cell_opens cells at c k is e h n =
      let there = item_at_cell cells is c k n e in subst (λ (i : Item). OpensItem P templates is at (local k) i) (sym there.2) (o_local k there.0 there.1 (put_among is k there.0 h there.1))

  -- each item but one that binds a local
  item_opens :
      (cells : List Cell) (at : Literal) (i j : Item) (is : List Item) → at.word < length P.words → ((x : ℕ) → i ≡ bind x → ⊥) → ClosesItem P cells at i j → ArePut is → length is ≡ length cells →
      OpensItem P templates is at j (filled_item (item_for cells is) i)
  item_opens cells at (quot u) j is l free c h n = subst (λ (x : Item). OpensItem P templates is at x (quot (filled cells is u))) (sym c.1) (quotation_opens cells at u c.0 is l c.2 n)
  item_opens cells at (fry u m) j is l free c h n =
      subst (λ (x : Item). OpensItem P templates is at x (fry (filled_by (put_in_fry (item_for cells is)) u) m)) (sym c.1) (fry_opens cells at u m c.0 is l c.2 h n)
  item_opens cells at (local x) j is l free c h n = subst (λ (y : Item). OpensItem P templates is at y (item_for cells is (Local x))) (sym c.1) (cell_opens cells at (Local x) c.0 is c.2 h n)
  item_opens cells at (hole x) j is l free c h n = subst (λ (y : Item). OpensItem P templates is at y (item_for cells is (Hole x))) (sym c.1) (cell_opens cells at (Hole x) c.0 is c.2 h n)
  item_opens cells at (bind x) j is l free c h n = absurd (free x refl)
  item_opens cells at (lit p) j is l free c h n = subst (λ (y : Item). OpensItem P templates is at y (lit p)) (sym c) (o_plain (lit p) tt)
  item_opens cells at (lit_arr a) j is l free c h n = subst (λ (y : Item). OpensItem P templates is at y (lit_arr a)) (sym c) (o_plain (lit_arr a) tt)
  item_opens cells at (word w) j is l free c h n = subst (λ (y : Item). OpensItem P templates is at y (word w)) (sym c) (o_plain (word w) tt)
  item_opens cells at (call_effect e) j is l free c h n = subst (λ (y : Item). OpensItem P templates is at y (call_effect e)) (sym c) (o_plain (call_effect e) tt)
  item_opens cells at (execute_effect e) j is l free c h n = subst (λ (y : Item). OpensItem P templates is at y (execute_effect e)) (sym c) (o_plain (execute_effect e) tt)
  item_opens cells at next_method j is l free c h n = subst (λ (y : Item). OpensItem P templates is at y next_method) (sym c) (o_plain next_method tt)
  item_opens cells at (next_after m) j is l free c h n = subst (λ (y : Item). OpensItem P templates is at y (next_after m)) (sym c) (o_plain (next_after m) tt)
  item_opens cells at (made k) j is l free c h n = absurd c
  item_opens cells at (held v) j is l free c h n = absurd c
  item_opens cells at (known m) j is l free c h n = absurd c

  -- behind it
  free_behind : (f : Cell → Item) (i : Item) (t : Phrase) → ((c : Cell) → binds_cell c i ≡ false) → filled_by (put_behind f i) t ≡ filled_by f t
  free_behind f i t free = filled_alike (put_behind f i) f t (λ c. ap (λ (b : Bool). elim b [ true ↦ cell_item c | false ↦ f c ]) (free c))

  free_opens :
      (cells : List Cell) (at : Literal) (i j : Item) (p : Place) (t s : Phrase) (is : List Item) → at.word < length P.words → ((c : Cell) → binds_cell c i ≡ false) → ((x : ℕ) → i ≡ bind x → ⊥) → ClosesItem P cells at i j → ArePut is →
      length is ≡ length cells → Opens P templates is (behind at i) s (filled cells is t) → Opens P templates is at (then j p s) (filled cells is (then i p t))
  free_opens cells at i j p t s is l free other c h n rest =
      o_item
      (item_opens cells at i j is l other c h n)
      (subst
      (λ (b : Literal). Opens P templates is b s (filled_by (put_behind (item_for cells is) i) t))
      (sym (behind_filled at (item_for cells is) i (fills cells is n h)))
      (subst (λ (u : Phrase). Opens P templates is (behind at i) s u) (sym (free_behind (item_for cells is) i t free)) rest))

  bind_opens :
      (cells : List Cell) (at : Literal) (x : ℕ) (p : Place) (t s : Phrase) (is : List Item) → ArePut is → length is ≡ length cells →
      ((v : Item) → IsPut v → Opens P templates (is ++ v ∷ []) (behind at (bind x)) s (filled (cells ++ Local x ∷ []) (is ++ v ∷ []) t)) →
      Opens P templates is at (then (bind (length cells)) p s) (filled cells is (then (bind x) p t))
  bind_opens cells at x p t s is h n rest =
      subst
      (λ (m : ℕ). Opens P templates is at (then (bind m) p s) (filled cells is (then (bind x) p t)))
      n
      (o_bind (λ v q. subst (λ (u : Phrase). Opens P templates (is ++ v ∷ []) (behind at (bind x)) s u) (sym (bound_filled x v cells is t n h)) (rest v q)))

  free_cell : (c : Cell) (i : Item) → ((x : ℕ) → binds_local x i ≡ false) → binds_cell c i ≡ false
  free_cell (Local x) i h = h x
  free_cell (Hole k) i h = refl

  -- a phrase that is closed under these cells
  pub phrase_opens : (cells : List Cell) (at : Literal) (t c : Phrase) (is : List Item) → at.word < length P.words → ClosesPhrase P cells at t c → ArePut is → length is ≡ length cells → Opens P templates is at c (filled cells is t)
  phrase_opens cells at end c is l h q n = subst (λ (u : Phrase). Opens P templates is at u end) (sym h) o_end
  phrase_opens cells at (then (bind x) p t) c is l h q n =
      let rest = λ (v : Item) (w : IsPut v). phrase_opens (cells ++ Local x ∷ []) (behind at (bind x)) t h.1 (is ++ v ∷ []) l h.4 (put_both is (v ∷ []) q (w, tt)) (grind (arith, common_steps)) in
      subst
      (λ (u : Phrase). Opens P templates is at u (filled cells is (then (bind x) p t)))
      (sym (h.2 ∙ ap (λ (j : Item). then j p h.1) h.3))
      (bind_opens cells at x p t h.1 is q n rest)
  phrase_opens cells at (then i p t) c is l h q n =
      subst
      (λ (u : Phrase). Opens P templates is at u (filled cells is (then i p t)))
      (sym h.2)
      (free_opens cells at i h.0 p t h.1 is l (λ d. free_cell d i (λ y. refl)) (λ y e. absurd cc) h.3 q n (phrase_opens cells (behind at i) t h.1 is l h.4 q n))

  sort_opens : (w : ℕ) (s c : Sort) → w < length P.words → ClosesSort P w s c → OpensSort P templates w s c
  sort_opens w (body t) c l h = (h.0, h.1, subst (λ (u : Phrase). Opens P templates [] (first_of_word w) h.0 u) (filled_nothing t) (phrase_opens [] (first_of_word w) t h.0 [] l h.2 tt refl))
  sort_opens w (past t) c l h = (h.0, h.1, subst (λ (u : Phrase). Opens P templates [] (first_of_word w) h.0 u) (filled_nothing t) (phrase_opens [] (first_of_word w) t h.0 [] l h.2 tt refl))
  sort_opens w (method n g t) c l h =
      (h.0, h.1, subst (λ (u : Phrase). Opens P templates [] (first_of_word w) h.0 u) (filled_nothing (of_method w t)) (phrase_opens [] (first_of_word w) (of_method w t) h.0 [] l h.2 tt refl))
  sort_opens w (prim k) c l h = h
  sort_opens w (core k) c l h = h
  sort_opens w itself c l h = h
  sort_opens w (class k) c l h = h
  sort_opens w (isa k) c l h = h
  sort_opens w (getter x) c l h = h
  sort_opens w (setter x) c l h = h
  sort_opens w (putter x) c l h = h
  sort_opens w generic c l h = h

  word_opens : (w : ℕ) (d c : WordDef) → slice_get P.words w ≡ Some d → slice_get C.words w ≡ Some c → OpensSort P templates w d.sort c.sort
  word_opens w d c e g =
      let there = word_closed P C templates closes w d e in
      let both : Some there.closed ≡ Some c = sym there.at ∙ g in
      let same : there.closed ≡ c = cc in
      sort_opens w d.sort c.sort (is_below P.words w d e) (subst (λ (x : WordDef). ClosesSort P w d.sort x.sort) same there.closes.sort)

  body_opens :
      (k : ℕ) (t : Template) (is : List Item) → slice_get templates k ≡ Some t → ArePut is → length is ≡ length t.captures + t.holes → Opens P templates is (first_of_literal (literal_numbered P k).at) t.body (template_phrase P k is)
  body_opens k t is e h n =
      let closed = template_closed P C templates closes k t e in
      let many : length is ≡ length (inner_cells (literal_numbered P k).cells (literal_numbered P k).item) =
      n ∙ ap₂ (λ (a b : ℕ). a + b) (ap length closed.captures) closed.holes ∙ sym (inner_count (literal_numbered P k).cells (literal_numbered P k).item) in
      phrase_opens
      (inner_cells (literal_numbered P k).cells (literal_numbered P k).item)
      (first_of_literal (literal_numbered P k).at)
      (inner_phrase (literal_numbered P k).item)
      t.body
      is
      (template_in_words k t e)
      closed.body
      h
      many

  quotation_alone : (at : Literal) (t : Phrase) (k : ℕ) → IsMadeBy P [] at (quot t) k → template_phrase P k [] ≡ t
  quotation_alone at t k e = phrase_of_made [] at (quot t) k [] e ∙ filled_nothing t

  pub opens_program : OpensProgram P C templates
  opens_program =
      record {
        words = word_opens;
        bodies = body_opens;
        captured = λ k t frame is e g h. items_are_put t.captures frame is h g;
        alone = quotation_alone;
      }

pub programs_open : ClosedProgramsOpen
programs_open P C templates closes = opens_program P C templates closes
