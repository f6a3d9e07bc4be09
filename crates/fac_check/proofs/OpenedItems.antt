-- Which item a closed one opens to under a frame, and what a literal with marks in its cells does.
use Rattle.std.proofs.Common.{◌≡◌, ℕ, zero, suc, ◌+◌, List, [], ◌∷◌, ◌++◌, Bool, Option, Some, None, length, map, refl, sym, ap, subst, ◌∙◌, arith, append-nil, append_assoc}
use Rattle.std.specs.Prelude.{slice_get, option_map}
use Rattle.std.proofs.Math.ListN.{length-map}
use Rattle.std.proofs.lemmas.Option.{slice_get-map}
use Rattle.fac_lang.specs.declared.phrase.Template.{Template}
use Rattle.fac_lang.specs.declared.program.Program.{Program}
use Rattle.fac_lang.specs.Phrases.{Literal, Phrase, Item, quot, fry, local, made, known, Mark, lit_mark}
use Rattle.fac_abs.specs.RowVariables.{Row}
use Rattle.fac_lang.specs.Substitution.{put_holes}
use Rattle.fac_locals.specs.Literals.{literal_numbered}
use Rattle.fac_locals.specs.Frames.{IsPlain, ArePut, items_at, template_phrase, OpensItem, o_plain, o_local, o_quotation, o_fry}
use Rattle.fac_abs.specs.Marks.{on, limited, popped, piled}
use Rattle.fac_abs.specs.MarkTrees.{Naming}
use Rattle.fac_abs.specs.SeenMarks.{MarksSeen, Grows, IsFrame, IsStack, mark_of, frame_of, stack_of, base_seen}
use Rattle.fac_abs.specs.declared.rule.Rule.TheVariants.{Underflow}
use Rattle.fac_check.specs.Flow.{Doing as DoingAtOnce, breaks, gives, needing, doing}
use Rattle.fac_check.specs.inner.Alone.{literal_number, StandsAt}
use Rattle.fac_check.specs.inner.Walking.{Opened, NamesTemplate, Captures, MakesLiteral, PutsMark, doing_seen, items_of}
use Rattle.fac_abs.specs.MarkPromises.{IsMarkOf, IsFrameOf}
use Rattle.fac_check.specs.declared.doing.Transfer.{Transfer}
use Rattle.fac_check.proofs.StandingItems.{made_literal, made_template}

-- An item that a frame changes nothing of opens to itself.
module _ {P : Program} {templates : List Template} {frame : List Item} {at : Literal} where
  pub opens_same : (c i : Item) → IsPlain P c → OpensItem P templates frame at c i → i ≡ c
  opens_same c i h (o_plain j g) = refl
  opens_same c i h (o_local k j e g) = absurd h
  opens_same c i h (o_quotation k t is a b d e) = absurd h
  opens_same c i h (o_fry k t is u a d e g) = absurd h

  pub opens_local : (k : ℕ) (i : Item) → OpensItem P templates frame at (local k) i → slice_get frame k ≡ Some i
  opens_local k i (o_plain j g) = absurd g
  opens_local k i (o_local j l e g) = e

-- what a plain closed item does, each item does to which it opens
module _ {C : Program} {templates : List Template} {own : Option ℕ} {inner : ℕ} (O : Opened C templates own inner) (frame : List Item) (c : Item) (h : IsPlain O.program c) (b : Option Row) (ms : List Mark) (X : DoingAtOnce) where
  pub plain_does : (at here : Literal) (i : Item) → X ≡ doing O.program O.word here c b ms → OpensItem O.program templates frame at c i → X ≡ doing O.program O.word here i b ms
  plain_does at here i e opens = e ∙ ap (λ j. doing O.program O.word here j b ms) (sym (opens_same c i h opens))

-- The items of a frame.

pub known_put : (ms : List Mark) → ArePut (map known ms)
known_put [] = tt
known_put (m ∷ ms) = (tt, known_put ms)

pub piled_length : {A : Type 0} (xs ys : List A) → length (piled xs ys) ≡ length xs + length ys
piled_length [] ys = omega arith
piled_length (x ∷ xs) ys = omega (arith, piled_length xs (x ∷ ys))

pub items_length : (ms : List Mark) → length (items_of ms) ≡ length ms
items_length ms = length-map (piled ms []) known ∙ piled_length ms [] ∙ (omega arith)

pub piled_twice : {A : Type 0} (xs fs zs : List A) → piled (piled xs fs) zs ≡ piled fs (xs ++ zs)
piled_twice [] fs zs = refl
piled_twice (x ∷ xs) fs zs = piled_twice xs (x ∷ fs) zs

piled_on : {A : Type 0} (fs zs : List A) → piled fs zs ≡ piled fs [] ++ zs
piled_on [] zs = refl
piled_on (f ∷ fs) zs = piled_on fs (f ∷ zs) ∙ sym (append_assoc (piled fs []) (f ∷ []) zs) ∙ ap (λ xs. xs ++ zs) (sym (piled_on fs (f ∷ [])))

map_both : {A B : Type 0} (f : A → B) (xs ys : List A) → map f (xs ++ ys) ≡ map f xs ++ map f ys
map_both f [] ys = refl
map_both f (x ∷ xs) ys = ap (λ zs. f x ∷ zs) (map_both f xs ys)

-- marks behind those of a frame
pub items_piled : (taken fs : List Mark) → items_of (piled taken fs) ≡ items_of fs ++ map known taken
items_piled taken fs = ap (map known) (piled_twice taken fs [] ∙ ap (piled fs) (append-nil taken) ∙ piled_on fs taken) ∙ map_both known (piled fs []) taken

pub items_more : (m : Mark) (fs : List Mark) → items_of (m ∷ fs) ≡ items_of fs ++ known m ∷ []
items_more m fs = items_piled (m ∷ []) fs

pub item_there : (fs : List Mark) (k : ℕ) → slice_get (items_of fs) k ≡ option_map known (slice_get (piled fs []) k)
item_there fs k = slice_get-map known (piled fs []) k

-- The items of cells.

abbrev first_and : Option Item → Option (List Item) → Option (List Item)
first_and o q = elim o [ None ↦ None | Some j ↦ elim q [ None ↦ None | Some is ↦ Some (j ∷ is) ] ]

next_item : (A : List Item) (i : Item) (o : Option Item) (q : Option (List Item)) → o ≡ Some i → option_map (λ (is : List Item). A ++ is) (first_and o q) ≡ option_map (λ (is : List Item). (A ++ i ∷ []) ++ is) q
next_item A i None q e = absurd (cc)
next_item A i (Some j) None e = refl
next_item A i (Some j) (Some is) e = (let same : j ≡ i = cc in ap Some (ap (λ (x : Item). A ++ x ∷ is) same ∙ sym (append_assoc A (i ∷ []) is)))

next_none : (o : Option Item) (q : Option (List Item)) → o ≡ None → first_and o q ≡ None
next_none None q e = refl
next_none (Some j) q e = absurd (cc)

-- one cell more
pub capture_next : (N : Naming) (M L K : MarksSeen) (f before more m k : ℕ) (whole left rest : List ℕ) → Grows M L → IsFrame M f → left ≡ k ∷ rest → slice_get (piled (frame_of N L f) []) k ≡ Some (mark_of N L m) → frame_of N K more ≡ mark_of N L m ∷ frame_of N L before → items_at whole (items_of (frame_of N M f)) ≡ option_map (λ (is : List Item). items_of (frame_of N L before) ++ is) (items_at left (items_of (frame_of N M f))) → items_at whole (items_of (frame_of N M f)) ≡ option_map (λ (is : List Item). items_of (frame_of N K more) ++ is) (items_at rest (items_of (frame_of N M f)))
capture_next N M L K f before more m k whole left rest grows there next cell put so_far =
    let F : List Item = items_of (frame_of N M f) in
    let A : List Item = items_of (frame_of N L before) in
    let i : Item = known (mark_of N L m) in
    let found : slice_get F k ≡ Some i = item_there (frame_of N M f) k ∙ ap (λ fs. option_map known (slice_get (piled fs []) k)) (sym (grows.same_frame N f there)) ∙ ap (option_map known) cell in
    let longer : items_of (frame_of N K more) ≡ A ++ i ∷ [] = ap items_of put ∙ items_more (mark_of N L m) (frame_of N L before) in
    so_far
    ∙ ap (λ ks. option_map (λ (is : List Item). A ++ is) (items_at ks F)) next
    ∙ next_item A i (slice_get F k) (items_at rest F) found
    ∙ ap (λ (xs : List Item). option_map (λ (is : List Item). xs ++ is) (items_at rest F)) (sym longer)

-- a cell that isn't there
pub capture_stops : (N : Naming) (M L : MarksSeen) (f before k : ℕ) (whole left rest : List ℕ) → Grows M L → IsFrame M f → left ≡ k ∷ rest → slice_get (piled (frame_of N L f) []) k ≡ None → items_at whole (items_of (frame_of N M f)) ≡ option_map (λ (is : List Item). items_of (frame_of N L before) ++ is) (items_at left (items_of (frame_of N M f))) → items_at whole (items_of (frame_of N M f)) ≡ None
capture_stops N M L f before k whole left rest grows there next cell so_far =
    let F : List Item = items_of (frame_of N M f) in
    let A : List Item = items_of (frame_of N L before) in
    let none : slice_get F k ≡ None = item_there (frame_of N M f) k ∙ ap (λ fs. option_map known (slice_get (piled fs []) k)) (sym (grows.same_frame N f there)) ∙ ap (option_map known) cell in
    so_far
    ∙ ap (λ ks. option_map (λ (is : List Item). A ++ is) (items_at ks F)) next
    ∙ ap (option_map (λ (is : List Item). A ++ is)) (next_none (slice_get F k) (items_at rest F) none)

-- Values that are taken off a stack.

abbrev first_in : Option (List Mark × List Mark) → List Mark
first_in None = []
first_in (Some p) = p.0

firsts : (p q : List Mark × List Mark) → Some p ≡ Some q → p.0 ≡ q.0
firsts p q e = ap (λ (o : Option (List Mark × List Mark)). first_in o) e

pub popped_length : (n : ℕ) (before ms taken rest : List Mark) → popped n before ms ≡ Some (taken, rest) → length taken ≡ length before + n
popped_length zero before ms taken rest e = omega (arith, ap length (firsts (before, ms) (taken, rest) e))
popped_length (suc n) before [] taken rest e = absurd (cc)
popped_length (suc n) before (m ∷ ms) taken rest e = omega (arith, popped_length n (m ∷ before) ms taken rest e)

pub needing_same : (n : ℕ) (ms : List Mark) (f g : List Mark → List Mark → DoingAtOnce) → ((taken rest : List Mark) → popped n [] ms ≡ Some (taken, rest) → f taken rest ≡ g taken rest) → needing n ms f ≡ needing n ms g
needing_same n ms f g same = as_taken f (popped n [] ms) ∙ by_case (popped n [] ms) same ∙ sym (as_taken g (popped n [] ms))
  where
    taken_by : (List Mark → List Mark → DoingAtOnce) → Option (List Mark × List Mark) → DoingAtOnce
    taken_by go (Some r) = go r.0 r.1
    taken_by go None = breaks (Underflow n (length ms))

    as_taken : (go : List Mark → List Mark → DoingAtOnce) (o : Option (List Mark × List Mark)) → (elim o [ Some r ↦ go r.0 r.1 | None ↦ breaks (Underflow n (length ms)) ]) ≡ taken_by go o
    as_taken go (Some r) = refl
    as_taken go None = refl

    by_case : (o : Option (List Mark × List Mark)) → ((taken rest : List Mark) → o ≡ Some (taken, rest) → f taken rest ≡ g taken rest) → taken_by f o ≡ taken_by g o
    by_case (Some (taken, rest)) same = same taken rest refl
    by_case None same = refl

pub needing_lacks : (n : ℕ) (ms : List Mark) (go : List Mark → List Mark → DoingAtOnce) → popped n [] ms ≡ None → breaks (Underflow n (length ms)) ≡ needing n ms go
needing_lacks n ms go short = subst (λ (q : Option (List Mark × List Mark)). breaks (Underflow n (length ms)) ≡ (elim q [ Some r ↦ go r.0 r.1 | None ↦ breaks (Underflow n (length ms)) ])) (sym short) refl

pub needing_takes : (n : ℕ) (ms taken rest : List Mark) (go : List Mark → List Mark → DoingAtOnce) → popped n [] ms ≡ Some (taken, rest) → go taken rest ≡ needing n ms go
needing_takes n ms taken rest go there = subst (λ (q : Option (List Mark × List Mark)). go taken rest ≡ (elim q [ Some r ↦ go r.0 r.1 | None ↦ breaks (Underflow n (length ms)) ])) (sym there) refl

-- a literal of these cells and of what a stack's top marks are
pub fry_makes : (M L C T K : MarksSeen) (s k g n inputs rest cells mark : ℕ) (D : Transfer) → Grows M L → Grows L C → Grows C T → IsFrame M g → IsStack L rest → ((N : Naming) → popped n [] (stack_of N M s) ≡ Some (stack_of N L inputs, stack_of N L rest)) → IsFrameOf C cells (λ N. piled (stack_of N L inputs) (frame_of N L g)) → IsMarkOf T mark (λ N. limited (lit_mark (N.literal k) (N.phrase k (frame_of N C cells)))) → PutsMark T K rest (λ N. mark_of N T mark) D → MakesLiteral M K s k g n D
fry_makes M L C T K s k g n inputs rest cells mark D first second third frame below takes filled makes puts = λ N words b.
    let stays : stack_of N T rest ≡ stack_of N L rest = third.same_stack N rest (second.stacks rest below) ∙ second.same_stack N rest below in
    let same_cells : frame_of N C cells ≡ piled (stack_of N L inputs) (frame_of N M g) = filled.is N ∙ ap (piled (stack_of N L inputs)) (first.same_frame N g frame) in
    puts N words b
    ∙ ap (λ m. gives (on b (m ∷ stack_of N T rest))) (makes.is N ∙ ap (λ fs. limited (lit_mark (N.literal k) (N.phrase k fs))) same_cells)
    ∙ ap (λ ms. gives (on b (limited (lit_mark (N.literal k) (N.phrase k (piled (stack_of N L inputs) (frame_of N M g)))) ∷ ms))) stays
    ∙ needing_takes n (stack_of N M s) (stack_of N L inputs) (stack_of N L rest) (λ taken rest. gives (on b (limited (lit_mark (N.literal k) (N.phrase k (piled taken (frame_of N M g)))) ∷ rest))) (takes N)

-- The value of a cell.
module _ {C : Program} {templates : List Template} {own : Option ℕ} {inner : ℕ} (O : Opened C templates own inner) (M L : MarksSeen) (b : Option ℕ) (s g k : ℕ) (D : Transfer) where
  pub local_does : (m : ℕ) → slice_get (piled (frame_of O.naming M g) []) k ≡ Some (mark_of O.naming M m) → PutsMark M L s (λ N. mark_of N M m) D → (at here : Literal) (i : Item) → OpensItem O.program templates (items_of (frame_of O.naming M g)) at (local k) i → doing_seen O.naming L (slice_get O.program.words) (base_seen O.naming b) D ≡ doing O.program O.word here i (base_seen O.naming b) (stack_of O.naming M s)
  local_does m cell puts at here i opens =
      let there : Some i ≡ Some (known (mark_of O.naming M m)) = sym (opens_local k i opens) ∙ item_there (frame_of O.naming M g) k ∙ ap (option_map known) cell in
      let same : i ≡ known (mark_of O.naming M m) = cc in
      puts O.naming (slice_get O.program.words) (base_seen O.naming b) ∙ ap (λ j. doing O.program O.word here j (base_seen O.naming b) (stack_of O.naming M s)) (sym same)

-- a cell that isn't there opens to nothing
pub no_local : {C : Program} {templates : List Template} {own : Option ℕ} {inner : ℕ} (O : Opened C templates own inner) (M : MarksSeen) (g k : ℕ) → slice_get (piled (frame_of O.naming M g) []) k ≡ None → (at : Literal) (i : Item) → OpensItem O.program templates (items_of (frame_of O.naming M g)) at (local k) i → ⊥
no_local O M g k cell at i opens = (let clash : Some i ≡ None = sym (opens_local k i opens) ∙ item_there (frame_of O.naming M g) k ∙ ap (option_map known) cell in absurd (cc))

-- A literal with the marks of its captures and holes does what each does that a template opens to.
module _ {C : Program} {templates : List Template} {own : Option ℕ} {inner : ℕ} (O : Opened C templates own inner) (M L K : MarksSeen) (alone : Bool) (k : ℕ) (t : Template) (there : slice_get templates k ≡ Some t) (b : Option ℕ) (s g h : ℕ) (grows : Grows M L) (stack : IsStack M s) (captures : Captures M L g t.captures (Some h)) (D : Transfer) (makes : MakesLiteral L K s (literal_number (length templates) alone k) h t.holes D) where
  abbrev N : Naming
  N = O.naming

  abbrev n : ℕ
  n = literal_number (length templates) alone k

  abbrev fs : List Mark
  fs = frame_of N L h

  abbrev ms : List Mark
  ms = stack_of N M s

  abbrev base : Option Row
  base = base_seen N b

  abbrev puts : Literal → (List Mark → Phrase) → List Mark → List Mark → DoingAtOnce
  puts l u taken rest = gives (on base (limited (lit_mark l (u taken)) ∷ rest))

  is_made : doing_seen N K (slice_get O.program.words) base D ≡ needing t.holes ms (puts (N.literal n) (λ taken. N.phrase n (piled taken fs)))
  is_made = makes N (slice_get O.program.words) base ∙ ap (λ xs. needing t.holes xs (puts (N.literal n) (λ taken. N.phrase n (piled taken fs)))) (grows.same_stack N s stack)

  -- the captured cells
  captured : (is : List Item) → items_at t.captures (items_of (frame_of N M g)) ≡ Some is → is ≡ items_of fs
  captured is e = (let e' : Some is ≡ Some (items_of fs) = sym e ∙ captures.1 N in cc)

  captured_count : (is : List Item) → items_at t.captures (items_of (frame_of N M g)) ≡ Some is → length fs ≡ length t.captures
  captured_count is e =
      let kept = O.opens.captured k t (items_of (frame_of N M g)) is there e (known_put (piled (frame_of N M g) [])) in
      sym (items_length fs) ∙ ap length (sym (captured is e)) ∙ kept.1

  module _ (at here : Literal) (stands : StandsAt O.program inner O.first alone at here) (place : (literal_numbered O.program k).at ≡ at) where
    names : NamesTemplate O.program N n k t
    names = made_template O k t there alone at here stands place

    literal : N.literal n ≡ here
    literal = made_literal O k t there alone at here stands place

    -- the phrase with as many marks as cells
    filled_phrase : (is : List Item) → items_at t.captures (items_of (frame_of N M g)) ≡ Some is → (taken : List Mark) → length taken ≡ t.holes → N.phrase n (piled taken fs) ≡ template_phrase O.program k (is ++ map known taken)
    filled_phrase is e taken many =
        names.phrase_is (piled taken fs) (omega (arith, piled_length taken fs, captured_count is e, many))
        ∙ ap (template_phrase O.program k) (items_piled taken fs ∙ ap (λ xs. xs ++ map known taken) (sym (captured is e)))

    quotation_does : (is : List Item) → t.holes ≡ 0 → items_at t.captures (items_of (frame_of N M g)) ≡ Some is → doing_seen N K (slice_get O.program.words) base D ≡ doing O.program O.word here (quot (template_phrase O.program k is)) base ms
    quotation_does is none e =
        is_made
        ∙ ap (λ m. needing m ms (puts (N.literal n) (λ taken. N.phrase n (piled taken fs)))) none
        ∙ ap (λ u. gives (on base (limited (lit_mark (N.literal n) u) ∷ ms))) (filled_phrase is e [] (sym none) ∙ ap (template_phrase O.program k) (append-nil is))
        ∙ ap (λ l. gives (on base (limited (lit_mark l (template_phrase O.program k is)) ∷ ms))) literal

    fry_does : (is : List Item) (u : Phrase) → items_at t.captures (items_of (frame_of N M g)) ≡ Some is → ((js : List Item) → ArePut js → length js ≡ t.holes → put_holes js u ≡ template_phrase O.program k (is ++ js)) → doing_seen N K (slice_get O.program.words) base D ≡ doing O.program O.word here (fry u t.holes) base ms
    fry_does is u e opens =
        is_made
        ∙ needing_same t.holes ms (puts (N.literal n) (λ taken. N.phrase n (piled taken fs))) (puts here (λ taken. put_holes (map known taken) u))
        (λ taken rest p.
        let many : length taken ≡ t.holes = omega (arith, popped_length t.holes [] ms taken rest p) in
        ap (λ x. gives (on base (limited (lit_mark (N.literal n) x) ∷ rest))) (filled_phrase is e taken many ∙ sym (opens (map known taken) (known_put taken) (length-map taken known ∙ many)))
        ∙ ap (λ l. gives (on base (limited (lit_mark l (put_holes (map known taken) u)) ∷ rest))) literal)

  same_template : (u : Template) → slice_get templates k ≡ Some u → u ≡ t
  same_template u e = (let f : Some u ≡ Some t = sym e ∙ there in cc)

  pub literal_does : (at here : Literal) (i : Item) → StandsAt O.program inner O.first alone at here → OpensItem O.program templates (items_of (frame_of N M g)) at (made k) i → doing_seen N K (slice_get O.program.words) base D ≡ doing O.program O.word here i base ms
  literal_does at here i stands (o_plain j p) = absurd p
  literal_does at here i stands (o_quotation j u is e none place f) =
      (let same = same_template u e in quotation_does at here stands place is (ap (λ (x : Template). x.holes) (sym same) ∙ none) (subst (λ (x : Template). items_at x.captures (items_of (frame_of N M g)) ≡ Some is) same f))
  literal_does at here i stands (o_fry j u is v e place f opens) =
      let same = same_template u e in
      let found = subst (λ (x : Template). items_at x.captures (items_of (frame_of N M g)) ≡ Some is) same f in
      fry_does at here stands place is v found (subst (λ (x : Template). (js : List Item) → ArePut js → length js ≡ x.holes → put_holes js v ≡ template_phrase O.program k (is ++ js)) same opens) ∙ ap (λ m. doing O.program O.word here (fry v m) base ms) (ap (λ (x : Template). x.holes) (sym same))

no_items : {C : Program} {templates : List Template} {own : Option ℕ} {inner : ℕ} (O : Opened C templates own inner) (M L : MarksSeen) (k : ℕ) (t : Template) → slice_get templates k ≡ Some t → (g : ℕ) → Captures M L g t.captures None → (u : Template) (is : List Item) → slice_get templates k ≡ Some u → items_at u.captures (items_of (frame_of O.naming M g)) ≡ Some is → ⊥
no_items O M L k t there g none u is e f =
    let both : Some u ≡ Some t = sym e ∙ there in
    let same : u ≡ t = cc in
    let clash : None ≡ Some is = sym (none O.naming) ∙ ap (λ (x : Template). items_at x.captures (items_of (frame_of O.naming M g))) (sym same) ∙ f in
    absurd (cc)

-- where a captured cell isn't there, a template opens to nothing
pub no_captures : {C : Program} {templates : List Template} {own : Option ℕ} {inner : ℕ} (O : Opened C templates own inner) (M L : MarksSeen) (k : ℕ) (t : Template) → slice_get templates k ≡ Some t → (g : ℕ) → Captures M L g t.captures None → (at : Literal) (i : Item) → OpensItem O.program templates (items_of (frame_of O.naming M g)) at (made k) i → ⊥
no_captures {C} {templates} O M L k t there g none at i (o_plain j p) = p
no_captures {C} {templates} O M L k t there g none at i (o_quotation j u is e holes place f) = no_items O M L k t there g none u is e f
no_captures {C} {templates} O M L k t there g none at i (o_fry j u is v e place f opens) = no_items O M L k t there g none u is e f
