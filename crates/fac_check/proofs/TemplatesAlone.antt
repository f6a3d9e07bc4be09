-- The walk of a template by itself is that of its phrase with the values forgotten that it holds.
use Rattle.std.proofs.Common.{◌≡◌, ◌<◌, ◌+◌, ◌-◌, ℕ, zero, suc, List, [], ◌∷◌, length, map, Bool, true, false, Option, Some, None, refl, sym, ap, subst, ◌∙◌, arith}
use Rattle.std.specs.Prelude.{nat_eq, slice_get}
use Rattle.std.specs.Str.{bytes_eq}
use Rattle.fac_base.specs.declared.height.Height.{Height}
use Rattle.fac_base.specs.declared.place.Place.{Place}
use Rattle.fac_lang.specs.declared.phrase.Template.{Template}
use Rattle.fac_lang.specs.declared.program.Program.{Program}
use Rattle.fac_lang.proofs.SourcePrograms.{session_of_whole}
use Rattle.fac_lang.specs.Whole.{IsWhole}
use Rattle.fac_lang.specs.Phrases.{Literal, Phrase, end, then, Item, lit, lit_arr, quot, word, bind, local, fry, hole, call_effect, execute_effect, next_method, made, next_after, held, known, Value, Mark, any}
use Rattle.fac_locals.specs.declared.cell.Cell.{Cell}
use Rattle.fac_locals.specs.declared.cell.Cell.TheVariants.{Local, Hole}
use Rattle.fac_locals.specs.Cells.{binds_cell, cell_number, inner_cells, inner_phrase}
use Rattle.fac_locals.specs.Closed.{Closes}
use Rattle.fac_locals.specs.Frames.{cell_item, item_or, item_in, item_for, put_behind, put_in_fry, filled_by, filled_item, template_phrase, Opens}
use Rattle.fac_locals.specs.Literals.{Quoted, first_of_word, first_of_literal, literal_numbered}
use Rattle.fac_locals.proofs.Places.{literal_behind}
use Rattle.fac_locals.proofs.RunningPhrases.{IsRun, IsRunItem, literal_runs}
use Rattle.fac_abs.specs.Marks.{unknowns, piled}
use Rattle.fac_abs.specs.MarkTrees.{Naming}
use Rattle.fac_abs.specs.SeenMarks.{MarksSeen, frame_of, stack_of}
use Rattle.fac_abs.proofs.MoveLemmas.{bytes_alike}
use Rattle.fac_abs.proofs.SeenLemmas.{both}
use Rattle.fac_check.specs.CallableEffects.{forgotten, forgotten_item, no_word}
use Rattle.fac_check.specs.Flow.{most_steps}
use Rattle.fac_check.specs.TemplateWalks.{walked_alone, found_height}
use Rattle.fac_check.specs.declared.walker.Walked.{Walked}
use Rattle.fac_check.specs.inner.Alone.{placed_by, placed_alone, StandsAt}
use Rattle.fac_check.specs.inner.Walking.{Opened, items_of, walked_seen, go_at}
use Rattle.fac_check.proofs.OpenedItems.{known_put, items_length}
use Rattle.fac_check.proofs.VerdictLemmas.{NamesLiterals, opened}

-- What is put for cells, with the values forgotten.
cell_forgotten : (c : Cell) → forgotten_item (cell_item c) ≡ cell_item c
cell_forgotten (Local x) = refl
cell_forgotten (Hole k) = refl

behind_forgotten : (f g : Cell → Item) (c : Cell) (b : Bool) → forgotten_item (f c) ≡ g c → forgotten_item (elim b [ true ↦ cell_item c | false ↦ f c ]) ≡ elim b [ true ↦ cell_item c | false ↦ g c ]
behind_forgotten f g c true h = cell_forgotten c
behind_forgotten f g c false h = h

in_fry_forgotten : (f g : Cell → Item) → ((c : Cell) → forgotten_item (f c) ≡ g c) → (c : Cell) → forgotten_item (put_in_fry f c) ≡ put_in_fry g c
in_fry_forgotten f g h (Local x) = h (Local x)
in_fry_forgotten f g h (Hole k) = refl

same_then : (i j : Item) (p : Place) (t u : Phrase) → i ≡ j → t ≡ u → then i p t ≡ then j p u
same_then i j p t u e f = rw (e, f) refl

module _ (P : Program) where
  mutual
    filled_forgotten : (f g : Cell → Item) (t : Phrase) → IsRun P t → ((c : Cell) → forgotten_item (f c) ≡ g c) → forgotten (filled_by f t) ≡ filled_by g t
    filled_forgotten f g end r h = refl
    filled_forgotten f g (then i p t) r h =
        same_then (forgotten_item (filled_item f i)) (filled_item g i) p (forgotten (filled_by (put_behind f i) t)) (filled_by (put_behind g i) t) (item_forgotten f g i r.0 h) (filled_forgotten (put_behind f i) (put_behind g i) t r.1 (λ c. behind_forgotten f g c (binds_cell c i) (h c)))

    item_forgotten : (f g : Cell → Item) (i : Item) → IsRunItem P i → ((c : Cell) → forgotten_item (f c) ≡ g c) → forgotten_item (filled_item f i) ≡ filled_item g i
    item_forgotten f g (lit q) r h = refl
    item_forgotten f g (lit_arr a) r h = refl
    item_forgotten f g (quot t) r h = ap quot (filled_forgotten f g t r h)
    item_forgotten f g (word w) r h = refl
    item_forgotten f g (bind x) r h = refl
    item_forgotten f g (local x) r h = h (Local x)
    item_forgotten f g (fry t n) r h = ap (λ (u : Phrase). fry u n) (filled_forgotten (put_in_fry f) (put_in_fry g) t r (in_fry_forgotten f g h))
    item_forgotten f g (hole k) r h = h (Hole k)
    item_forgotten f g (call_effect e) r h = refl
    item_forgotten f g (execute_effect e) r h = refl
    item_forgotten f g next_method r h = refl
    item_forgotten f g (next_after m) r h = refl
    item_forgotten f g (made k) r h = absurd r
    item_forgotten f g (held v) r h = absurd r
    item_forgotten f g (known m) r h = absurd r

-- Items of which nothing is known, one for each value.
abbrev unknown_items : List Value → List Item
unknown_items vs = map (λ (v : Value). known any) vs

at_forgotten : (i : Item) → forgotten_item i ≡ i → (vs : List Value) (k : ℕ) → forgotten_item (item_or i (slice_get (map held vs) k)) ≡ item_or i (slice_get (unknown_items vs) k)
at_forgotten i h [] zero = h
at_forgotten i h [] (suc k) = h
at_forgotten i h (v ∷ vs) zero = refl
at_forgotten i h (v ∷ vs) (suc k) = at_forgotten i h vs k

found_forgotten : (i : Item) → forgotten_item i ≡ i → (vs : List Value) (o : Option ℕ) → forgotten_item (item_in (map held vs) i o) ≡ item_in (unknown_items vs) i o
found_forgotten i h vs None = h
found_forgotten i h vs (Some k) = at_forgotten i h vs k

unknowns_more : (n : ℕ) (ms : List Mark) → unknowns n (any ∷ ms) ≡ any ∷ unknowns n ms
unknowns_more zero ms = refl
unknowns_more (suc n) ms = ap (λ (xs : List Mark). any ∷ xs) (unknowns_more n ms)

piled_unknowns : (n : ℕ) (ms : List Mark) → piled (unknowns n []) ms ≡ unknowns n ms
piled_unknowns zero ms = refl
piled_unknowns (suc n) ms = piled_unknowns n (any ∷ ms) ∙ unknowns_more n ms

all_unknown : (vs : List Value) → unknown_items vs ≡ map known (unknowns (length vs) [])
all_unknown [] = refl
all_unknown (v ∷ vs) = ap (λ (is : List Item). known any ∷ is) (all_unknown vs)

many_unknown : (n : ℕ) → length (unknowns n []) ≡ n
many_unknown zero = refl
many_unknown (suc n) = ap suc (many_unknown n)

-- the items of a frame of as many unknown cells as there are values
items_unknown : (n : ℕ) (vs : List Value) → length vs ≡ n → unknown_items vs ≡ items_of (unknowns n [])
items_unknown n vs e = all_unknown vs ∙ ap (λ (k : ℕ). map known (unknowns k [])) e ∙ ap (map known) (sym (piled_unknowns n []))

-- a template's phrase whose values are forgotten
module _ (P : Program) (whole : IsWhole P) where
  phrase_forgotten : (q n : ℕ) (vs : List Value) → length vs ≡ n → template_phrase P q (items_of (unknowns n [])) ≡ forgotten (template_phrase P q (map held vs))
  phrase_forgotten q n vs e =
      let l : Quoted = literal_numbered P q in
      let cells = inner_cells l.cells l.item in
      ap (template_phrase P q) (sym (items_unknown n vs e))
      ∙ sym (filled_forgotten P (item_for cells (map held vs)) (item_for cells (unknown_items vs)) (inner_phrase l.item) (literal_runs P (session_of_whole P whole) q) (λ c. found_forgotten (cell_item c) (cell_forgotten c) vs (cell_number cells c)))

itself : (n : ℕ) → nat_eq n n ≡ true
itself n = grind arith

-- the first place of a phrase by itself is that of no word
starts_nowhere : (first : Literal) → first_of_word no_word ≡ placed_alone first first
starts_nowhere first =
    let none : 0 ≡ first.index - first.index = omega arith in
    ap (λ (n : ℕ). let l : Literal = record { word = no_word; around = []; index = n } in l) none
    ∙ ap (λ (b : Bool). placed_by b no_word first first) (sym (both (nat_eq first.word first.word) (bytes_eq first.around first.around) (itself first.word) (bytes_alike first.around)))

-- a walk of a template by itself, as the code's calls tell it
abbrev pub WalksAlone : Program → List Template → Option ℕ → ℕ → Phrase → MarksSeen → MarksSeen → ℕ → ℕ → Walked → Type 0
WalksAlone C templates own inner body M K frame s W =
    (O : Opened C templates own inner) (at here : Literal) (t : Phrase) (f : ℕ) → StandsAt O.program inner O.first true at here → Opens O.program templates (items_of (frame_of O.naming M frame)) at body t → 200000 < f → walked_seen O.naming K W ≡ go_at O f here 64 t None (stack_of O.naming M s) 200000

module _ (P C : Program) (templates : List Template) (closes : Closes P C templates) (whole : IsWhole P) (q : ℕ) (names : NamesLiterals P templates (suc q) (first_of_literal (literal_numbered P q).at)) where
  pub alone_is :
      (t : Template) (M K : MarksSeen) (frame s n i inner : ℕ) (W : Walked) (height : Option Height) (vs : List Value) → slice_get templates q ≡ Some t → length vs ≡ length t.captures + t.holes → n ≡ length t.captures + t.holes → inner ≡ suc q →
      WalksAlone C templates None inner t.body M K frame s W → ((N : Naming) → frame_of N M frame ≡ unknowns n []) → ((N : Naming) → stack_of N M s ≡ unknowns i []) → ((N : Naming) → height ≡ found_height i (walked_seen N K W)) →
      height ≡ found_height i (walked_alone P i (forgotten (template_phrase P q (map held vs))))
  alone_is t M K frame s n i inner W height vs there many count next walks cells stack found =
      let first = first_of_literal (literal_numbered P q).at in
      let O = opened P C templates None (suc q) first closes whole names in
      let N = O.naming in
      let fs = frame_of N M frame in
      let walks_whole = subst (λ (k : ℕ). WalksAlone C templates None k t.body M K frame s W) next walks in
      let start = first_of_word no_word in
      let phrase = template_phrase P q (items_of fs) in
      let as_many : length (items_of fs) ≡ length t.captures + t.holes = items_length fs ∙ ap length (cells N) ∙ many_unknown n ∙ count in
      let opens = O.opens.bodies q t (items_of fs) there (known_put (piled fs [])) as_many in
      found N
      ∙ ap (found_height i) (walks_whole O first start phrase most_steps ((λ k e. let more = literal_behind P k q e in omega (arith, more)), starts_nowhere first) opens (omega arith)
      ∙ ap (λ (ms : List Mark). go_at O most_steps start 64 phrase None ms 200000) (stack N)
      ∙ ap (λ (u : Phrase). go_at O most_steps start 64 u None (unknowns i []) 200000) (ap (λ (xs : List Mark). template_phrase P q (items_of xs)) (cells N) ∙ phrase_forgotten P whole q n vs (many ∙ sym count)))
