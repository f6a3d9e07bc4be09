-- Phrases that stand behind one another, and the numbers and templates of choices inside one another.
use Rattle.std.proofs.Common.{◌≡◌, ◌≤◌, ℕ, suc, List, [], ◌∷◌, ◌++◌, reverse, Option, Some, refl, sym, ap, ◌∙◌, subst, append_assoc, append-nil, arith, Box, Global}
use Rattle.std.proofs.lemmas.List.{reverse-append}
use Rattle.fac_lang.specs.declared.phrase.Choices.{Choices}
use Rattle.fac_base.specs.declared.place.Place.{Place}
use Rattle.fac_lang.specs.declared.phrase.Item.{Item as PlacedItem}
use Rattle.fac_lang.specs.declared.phrase.What.{What}
use Rattle.fac_lang.specs.declared.phrase.What.TheVariants.{Choices as ChoicesValue, Word, Made}
use Rattle.fac_lang.specs.declared.phrase.Template.{Template}
use Rattle.fac_lang.specs.Phrases.{Phrase, end, then, append, Item, quot, phrase_depth, item_depth}
use Rattle.fac_lang.specs.PhraseView.{what_item, items_phrase, choices_behind, choices_from, choices_phrase}
use Rattle.fac_lang.specs.Meaning.{nowhere}
use Rattle.fac_lang.specs.inner.PhraseFalls.{first_falls, second_falls}
use Rattle.fac_locals.specs.declared.cell.Cell.{Cell}
use Rattle.fac_locals.specs.declared.asking.Asked.{Asked}
use Rattle.fac_locals.specs.declared.keeping.Kept.{Kept}
use Rattle.fac_locals.specs.Cells.{cells_behind, captured, inner_cells}
use Rattle.fac_locals.specs.Asked.{AreAskedBy, quotations_in, quotations_at}
use Rattle.fac_locals.specs.declared.closing.ArrayStart.{ArrayStart}
use Rattle.fac_locals.specs.declared.closing.Closing.{Closing}
use Rattle.fac_locals.specs.declared.closing.Level.{Level}
use Rattle.fac_locals.specs.inner.Numbering.{put_all, phrase_behind, item_behind, closed_item, closed_phrase, closed_template, template_of, phrase_templates, item_templates, phrase_starts, item_starts, phrase_cells, choice_in, level_templates}
use Rattle.fac_locals.specs.inner.Numbering.{ClosesWhat, ClosesTree, AreAsked, IsAsked, NumberTaken, KeptTaken, LevelEntered, EntersLevel, IsEnteredAsked, Inside, EntersInside, ClosesChoices}
use Rattle.fac_locals.proofs.TemplateNumbers.{put_both, template_with, plain_quotation, quotation_asked, inside_quotation}

-- One phrase behind another.

pub append_end : (t : Phrase) → append t end ≡ t
append_end end = refl
append_end (then i p t) = ap (λ (u : Phrase). then i p u) (append_end t)

items_both : (is js : List PlacedItem) → items_phrase (is ++ js) ≡ append (items_phrase is) (items_phrase js)
items_both [] js = refl
items_both (i ∷ is) js = ap (λ (u : Phrase). then (what_item i.what) i.place u) (items_both is js)

abbrev placed : What → Place → PlacedItem
placed w p = record { what = w; place = p }

-- a choice more at the end
pub two_added : (is js ks : List PlacedItem) (w k : ℕ) (p : Place) → js ≡ is ++ placed (Made k) p ∷ [] → ks ≡ js ++ placed (Word w) p ∷ [] → items_phrase ks ≡ append (items_phrase is) (choice_in w p (Some k))
two_added is js ks w k p e f =
    ap items_phrase (f ∙ ap (λ (l : List PlacedItem). l ++ placed (Word w) p ∷ []) e ∙ append_assoc is (placed (Made k) p ∷ []) (placed (Word w) p ∷ []))
    ∙ items_both is (placed (Made k) p ∷ placed (Word w) p ∷ [])

quotations_both : (t u : Phrase) → quotations_in (append t u) ≡ quotations_in t ++ quotations_in u
quotations_both end u = refl
quotations_both (then i p t) u = ap (λ (is : List Item). quotations_at i ++ is) (quotations_both t u) ∙ sym (append_assoc (quotations_at i) (quotations_in t) (quotations_in u))

behind_both : (counts : List ℕ) (n : ℕ) (t u : Phrase) → phrase_behind counts n (append t u) ≡ phrase_behind counts (phrase_behind counts n t) u
behind_both counts n end u = refl
behind_both counts n (then i p t) u = behind_both counts (item_behind counts n i) t u

-- The last of some phrases is the outermost.

pub outer_first : (all inner : List Phrase) (t : Phrase) → all ≡ inner ++ t ∷ [] → reverse all ≡ t ∷ reverse inner
outer_first all inner t e = ap (λ (ts : List Phrase). reverse ts) e ∙ reverse-append inner (t ∷ [])

-- The number behind choices.

pub inside_one : (counts : List ℕ) (w : ℕ) (p : Place) (before number n : ℕ) (all inner : List Phrase) (t : Phrase) → all ≡ inner ++ t ∷ [] → number ≡ suc before → n ≡ phrase_behind counts number t → phrase_behind counts before (choices_behind w p (reverse all)) ≡ phrase_behind counts n (choices_behind w p (reverse inner))
inside_one counts w p before number n all inner t e one is =
    ap (λ (ts : List Phrase). phrase_behind counts before (choices_behind w p ts)) (outer_first all inner t e)
    ∙ behind_both counts (suc before) t (choices_behind w p (reverse inner))
    ∙ ap (λ (k : ℕ). phrase_behind counts k (choices_behind w p (reverse inner))) (sym (is ∙ ap (λ (k : ℕ). phrase_behind counts k t) one))

pub choices_one :
    (counts : List ℕ) (c : Choices) (number n k : ℕ) (inner : List Phrase) (t : Phrase) → c.phrases.items ≡ inner ++ t ∷ [] → n ≡ phrase_behind counts number t → ((w : ℕ) (p : Place) → k ≡ phrase_behind counts n (choices_behind w p (reverse inner))) → k ≡ phrase_behind counts number (choices_phrase c)
choices_one counts c number n k inner t e is behind =
    behind c.word c.place
    ∙ ap (λ (j : ℕ). phrase_behind counts j (choices_behind c.word c.place (reverse inner))) is
    ∙ sym (behind_both counts number t (choices_behind c.word c.place (reverse inner)))
    ∙ sym (ap (λ (ts : List Phrase). phrase_behind counts number (choices_from c.word c.place ts)) (outer_first c.phrases.items inner t e))

-- How deep they are.

append_depth : (t u v : Phrase) → phrase_depth u ≡ phrase_depth v → phrase_depth (append t u) ≡ phrase_depth (append t v)
append_depth end u v e = e
append_depth (then i p t) u v e = omega (arith, append_depth t u v e)

pub outer_depth : (w : ℕ) (p : Place) (ts : List Phrase) (t : Phrase) (us : List Phrase) → ts ≡ t ∷ us → (suc (phrase_depth t) ≤ phrase_depth (choices_behind w p ts)) × (phrase_depth (choices_behind w p us) ≤ phrase_depth (choices_behind w p ts))
outer_depth w p ts t us e =
    let whole = ap (λ (vs : List Phrase). phrase_depth (choices_behind w p vs)) e in
    let first = first_falls t (choices_behind w p us) in
    let second = second_falls t (choices_behind w p us) in
    (omega (arith, whole, first, second), omega (arith, whole, first, second))

pub outermost_depth : (whole t u : Phrase) → whole ≡ append t u → (phrase_depth t ≤ phrase_depth whole) × (phrase_depth u ≤ phrase_depth whole)
outermost_depth whole t u e = (omega (arith, ap phrase_depth e, first_falls t u), omega (arith, ap phrase_depth e, second_falls t u))

-- how deep choices are doesn't depend on the word and the place
behind_depth : (w v : ℕ) (p q : Place) (ts : List Phrase) → phrase_depth (choices_behind w p ts) ≡ phrase_depth (choices_behind v q ts)
behind_depth w v p q [] = refl
behind_depth w v p q (t ∷ ts) = omega (arith, append_depth t (choices_behind w p ts) (choices_behind v q ts) (behind_depth w v p q ts))

pub choices_are : (c : Choices) (inner : List Phrase) (t : Phrase) → c.phrases.items ≡ inner ++ t ∷ [] → (phrase_depth t ≤ phrase_depth (choices_phrase c)) × (phrase_depth (choices_behind 0 nowhere (reverse inner)) ≤ phrase_depth (choices_phrase c))
choices_are c inner t e =
    let behind = choices_behind c.word c.place (reverse inner) in
    let whole : choices_phrase c ≡ append t behind = ap (λ (ts : List Phrase). choices_from c.word c.place ts) (outer_first c.phrases.items inner t e) in
    let both = outermost_depth (choices_phrase c) t behind whole in
    (both.0, omega (arith, both.1, behind_depth 0 c.word nowhere c.place (reverse inner)))

pub item_in_depth : (is : List PlacedItem) (i : PlacedItem) (left : List PlacedItem) → is ≡ i ∷ left → (item_depth (what_item i.what) ≤ phrase_depth (items_phrase is)) × (phrase_depth (items_phrase left) ≤ phrase_depth (items_phrase is))
item_in_depth is i left e = (omega (arith, ap (λ (js : List PlacedItem). phrase_depth (items_phrase js)) e), omega (arith, ap (λ (js : List PlacedItem). phrase_depth (items_phrase js)) e))

module _ (counts : List ℕ) (m : Option ℕ) where
  closed_both : (cells : List Cell) (n : ℕ) (t u : Phrase) → closed_phrase counts m cells n (append t u) ≡ append (closed_phrase counts m cells n t) (closed_phrase counts m (phrase_cells cells t) (phrase_behind counts n t) u)
  closed_both cells n end u = refl
  closed_both cells n (then i p t) u = ap (λ (s : Phrase). then (closed_item counts m cells n i) p s) (closed_both (cells_behind cells i) (item_behind counts n i) t u)

  templates_both : (cells : List Cell) (n : ℕ) (t u : Phrase) → phrase_templates counts m cells n (append t u) ≡ phrase_templates counts m cells n t ++ phrase_templates counts m (phrase_cells cells t) (phrase_behind counts n t) u
  templates_both cells n end u = refl
  templates_both cells n (then i p t) u =
      let own = item_templates counts m cells n p i in
      let inner = cells_behind cells i in
      let k = item_behind counts n i in
      ap (λ (ts : List (ℕ × Template)). own ++ ts) (templates_both inner k t u) ∙ sym (append_assoc own (phrase_templates counts m inner k t) (phrase_templates counts m (phrase_cells inner t) (phrase_behind counts k t) u))

  starts_both : (n : ℕ) (t u : Phrase) → phrase_starts counts m n (append t u) ≡ phrase_starts counts m n t ++ phrase_starts counts m (phrase_behind counts n t) u
  starts_both n end u = refl
  starts_both n (then i p t) u =
      let own = item_starts counts m n p i in
      let k = item_behind counts n i in
      ap (λ (ss : List (ℕ × ArrayStart)). own ++ ss) (starts_both k t u) ∙ sym (append_assoc own (phrase_starts counts m k t) (phrase_starts counts m (phrase_behind counts k t) u))

  -- One quotation is gone into.

  abbrev level_of : ℕ → Place → List ℕ → Phrase → Level
  level_of n p ks t = record { number = n; place = p; captures = ks; body = t }

  pub level_asked : (t : Phrase) (before taken : Closing) (number : ℕ) → NumberTaken before number taken → IsEnteredAsked t before.asked → IsAsked taken.asked
  level_asked t before taken number takes asked = quotation_asked counts m (append t asked.0) 0 before taken number takes (plain_quotation counts m (append t asked.0) before.asked asked.1)

  pub asked_in_level : (cells : List Cell) (t : Phrase) (before taken held : Closing) (number : ℕ) (kept : Kept) → NumberTaken before number taken → KeptTaken cells 0 taken kept held → IsEnteredAsked t before.asked → AreAsked (quotations_in t) held.asked
  asked_in_level cells t before taken held number kept takes keeps asked =
      let u = asked.0 in
      let inner = inside_quotation counts m cells (append t u) 0 before taken held number kept takes keeps (plain_quotation counts m (append t u) before.asked asked.1) in
      (quotations_in u ++ inner.0, subst (λ (js : List Item). AreAskedBy js held.asked) (ap (λ (js : List Item). js ++ inner.0) (quotations_both t u) ∙ append_assoc (quotations_in t) (quotations_in u) inner.0) inner.1)

  pub level_entered :
      (cells : List Cell) (before taken held behind : Closing) (p : Place) (t closed : Phrase) (number : ℕ) (kept : Kept) (inner : List Cell) →
      NumberTaken before number taken → KeptTaken cells 0 taken kept held → ClosesTree counts m kept.cells held t closed behind → inner ≡ phrase_cells kept.cells t → EntersLevel counts m cells before p t (level_of number p kept.captures closed) inner behind
  level_entered cells before taken held behind p t closed number kept inner takes keeps closes is_inner u is asked =
      let i = quot (append t u) in
      let own = inner_cells cells i in
      let here = keeps.kept_is i (quotations_in (append t u) ++ is) refl (subst (AreAskedBy (i ∷ (quotations_in (append t u) ++ is))) (sym takes.asked_stay) asked) in
      let within = closes (quotations_in u ++ is) (subst (λ (js : List Item). AreAskedBy js held.asked) (ap (λ (js : List Item). js ++ is) (quotations_both t u) ∙ append_assoc (quotations_in t) (quotations_in u) is) here.left) in
      let next : held.next ≡ suc before.next = keeps.next_stays ∙ takes.next_is in
      record {
        number_is = takes.number_is;
        place_is = refl;
        captures_are = here.captures_are;
        body_is = within.closed_is ∙ ap (λ (cs : List Cell). closed_phrase counts m cs held.next t) here.cells_are ∙ ap (λ (n : ℕ). closed_phrase counts m own n t) next;
        cells_are = is_inner ∙ ap (λ (cs : List Cell). phrase_cells cs t) here.cells_are;
        next_is = within.passed.next_is ∙ ap (λ (n : ℕ). phrase_behind counts n t) next;
        templates_are =
            within.passed.templates_are
            ∙ ap (λ (ts : List Template). put_all ts (phrase_templates counts m kept.cells held.next t)) (keeps.templates_stay ∙ takes.templates_stay)
            ∙ ap (λ (cs : List Cell). put_all before.templates.items (phrase_templates counts m cs held.next t)) here.cells_are
            ∙ ap (λ (n : ℕ). put_all before.templates.items (phrase_templates counts m own n t)) next;
        starts_are = within.passed.starts_are ∙ ap (λ (ss : List ArrayStart). put_all ss (phrase_starts counts m held.next t)) (keeps.starts_stay ∙ takes.starts_stay) ∙ ap (λ (n : ℕ). put_all before.starts.items (phrase_starts counts m n t)) next;
        left = within.left;
      }

  -- what comes of a quotation and of these comes of what is behind its phrase, its template, and these
  level_templates_are :
      (cells inner : List Cell) (before behind : List Template) (n k number : ℕ) (p q : Place) (t u body : Phrase) (ks : List ℕ) (more : List (ℕ × Template)) →
      number ≡ n → q ≡ p → ks ≡ captured cells (quot (append t u)) → body ≡ closed_phrase counts m (inner_cells cells (quot (append t u))) (suc n) t → inner ≡ phrase_cells (inner_cells cells (quot (append t u))) t → k ≡ phrase_behind counts (suc n) t →
      behind ≡ put_all before (phrase_templates counts m (inner_cells cells (quot (append t u))) (suc n) t) →
      put_all before (item_templates counts m cells n p (quot (append t u)) ++ more) ≡ put_all behind (phrase_templates counts m inner k u ++ (number, template_with (append body (closed_phrase counts m inner k u)) q ks 0) ∷ more)
  level_templates_are cells inner before behind n k number p q t u body ks more is_number is_place are_captures is_body are_cells is_next are_put =
      let i = quot (append t u) in
      let own = inner_cells cells i in
      let first = phrase_templates counts m own (suc n) t in
      let second = phrase_templates counts m (phrase_cells own t) (phrase_behind counts (suc n) t) u in
      let last : ℕ × Template = (n, template_of cells p i (append (closed_phrase counts m own (suc n) t) (closed_phrase counts m (phrase_cells own t) (phrase_behind counts (suc n) t) u))) in
      rw
      (are_put, is_next, are_cells, is_body, are_captures, is_place, is_number)
      (ap (λ (ts : List (ℕ × Template)). put_all before ((ts ++ (n, closed_template counts m cells n p i (append t u)) ∷ []) ++ more)) (templates_both own (suc n) t u)
      ∙ ap (λ (c : Phrase). put_all before (((first ++ second) ++ (n, template_of cells p i c) ∷ []) ++ more)) (closed_both own (suc n) t u)
      ∙ ap (put_all before) (append_assoc (first ++ second) (last ∷ []) more ∙ append_assoc first second (last ∷ more))
      ∙ put_both before first (second ++ last ∷ more))

  level_starts_are :
      (before behind : List ArrayStart) (n k : ℕ) (t u : Phrase) → k ≡ phrase_behind counts (suc n) t → behind ≡ put_all before (phrase_starts counts m (suc n) t) → put_all before (phrase_starts counts m (suc n) (append t u)) ≡ put_all behind (phrase_starts counts m k u)
  level_starts_are before behind n k t u is_next are_put =
      rw (are_put, is_next) (ap (put_all before) (starts_both (suc n) t u) ∙ put_both before (phrase_starts counts m (suc n) t) (phrase_starts counts m (phrase_behind counts (suc n) t) u))

  level_next_is : (n k : ℕ) (t u : Phrase) → k ≡ phrase_behind counts (suc n) t → phrase_behind counts (suc n) (append t u) ≡ phrase_behind counts k u
  level_next_is n k t u is_next = behind_both counts (suc n) t u ∙ sym (ap (λ (j : ℕ). phrase_behind counts j u) is_next)

  -- the outermost one
  first_inside :
      (w : ℕ) (q : Place) (cells : List Cell) (before : Closing) (p : Place) (t u : Phrase) (level : Level) (inner : List Cell) (behind : Closing) (is : List Item) → LevelEntered counts m cells before p t u level inner behind is →
      Inside counts m w q cells before p (quot (append t u)) (level ∷ []) inner behind u is
  first_inside w q cells before p t u level inner behind is e = record {
    next_is = level_next_is before.next behind.next t u e.next_is;
    templates_are =
        ap (put_all before.templates.items) (sym (append-nil (item_templates counts m cells before.next p (quot (append t u)))))
        ∙ level_templates_are cells inner before.templates.items behind.templates.items before.next behind.next level.number p level.place t u level.body level.captures [] e.number_is e.place_is e.captures_are e.body_is e.cells_are e.next_is e.templates_are;
    starts_are = level_starts_are before.starts.items behind.starts.items before.next behind.next t u e.next_is e.starts_are;
    asked = e.left;
  }

  -- what the next one and the quotations in it ask for comes first then
  next_asked : (w : ℕ) (q : Place) (ts us : List Phrase) (t : Phrase) (is : List Item) (all : List Asked) → ts ≡ t ∷ us → AreAskedBy (quotations_in (choices_behind w q ts) ++ is) all → AreAskedBy (quotations_at (quot (append t (choices_behind w q us))) ++ is) all
  next_asked w q ts us t is all e asked =
      let own = quotations_at (quot (append t (choices_behind w q us))) in
      subst (λ (js : List Item). AreAskedBy (js ++ is) all) (append-nil own) (subst (λ (vs : List Phrase). AreAskedBy (quotations_in (choices_behind w q vs) ++ is) all) e asked)

  pub next_entered_asked : (w : ℕ) (q : Place) (ts us : List Phrase) (t : Phrase) (all : List Asked) → ts ≡ t ∷ us → AreAsked (quotations_in (choices_behind w q ts)) all → IsEnteredAsked t all
  next_entered_asked w q ts us t all e asked = (choices_behind w q us, (asked.0, next_asked w q ts us t asked.0 all e asked.1))

  -- one choice more
  pub next_inside :
      (w : ℕ) (q : Place) (outer : List Cell) (start : Closing) (p : Place) (i : Item) (levels pushed : List Level) (cells : List Cell) (before : Closing) (ts us : List Phrase) (t : Phrase) (level : Level) (inner : List Cell) (behind : Closing) (is : List Item) →
      ts ≡ t ∷ us → EntersLevel counts m cells before q t level inner behind → pushed ≡ level ∷ levels → Inside counts m w q outer start p i levels cells before (choices_behind w q ts) is → Inside counts m w q outer start p i pushed inner behind (choices_behind w q us) is
  next_inside w q outer start p i levels pushed cells before ts us t level inner behind is is_next enters is_pushed so_far =
      let u = choices_behind w q us in
      let j = quot (append t u) in
      let e = enters u is (next_asked w q ts us t is before.asked is_next so_far.asked) in
      let own = item_templates counts m cells before.next q j in
      let more = level_templates w q levels (choice_in w q (Some before.next)) in
      subst
      (λ (ls : List Level). Inside counts m w q outer start p i ls inner behind u is)
      (sym is_pushed)
      (record {
        next_is = so_far.next_is ∙ ap (λ (vs : List Phrase). phrase_behind counts before.next (choices_behind w q vs)) is_next ∙ level_next_is before.next behind.next t u e.next_is;
        templates_are =
            so_far.templates_are
            ∙ ap (λ (vs : List Phrase). put_all before.templates.items (phrase_templates counts m cells before.next (choices_behind w q vs) ++ level_templates w q levels (closed_phrase counts m cells before.next (choices_behind w q vs)))) is_next
            ∙ ap (λ (ws : List (ℕ × Template)). put_all before.templates.items (ws ++ more)) (append-nil own)
            ∙ level_templates_are cells inner before.templates.items behind.templates.items before.next behind.next level.number q level.place t u level.body level.captures more e.number_is e.place_is e.captures_are e.body_is e.cells_are e.next_is e.templates_are
            ∙ ap (λ (n : ℕ). put_all behind.templates.items (phrase_templates counts m inner behind.next u ++ (level.number, template_with (append level.body (closed_phrase counts m inner behind.next u)) level.place level.captures 0) ∷ level_templates w q levels (choice_in w q (Some n)))) (sym e.number_is);
        starts_are =
            so_far.starts_are
            ∙ ap (λ (vs : List Phrase). put_all before.starts.items (phrase_starts counts m before.next (choices_behind w q vs))) is_next
            ∙ ap (put_all before.starts.items) (append-nil (item_starts counts m before.next q j))
            ∙ level_starts_are before.starts.items behind.starts.items before.next behind.next t u e.next_is e.starts_are;
        asked = e.left;
      })

  pub outermost_asked : (whole t u : Phrase) (all : List Asked) → whole ≡ append t u → AreAsked (quotations_at (quot whole)) all → IsEnteredAsked t all
  outermost_asked whole t u all e asked = (u, subst (λ (v : Phrase). AreAsked (quotations_at (quot v)) all) e asked)

  pub inside_asked : (cells : List Cell) (before : Closing) (p : Place) (whole t u : Phrase) (level : Level) (inner : List Cell) (behind : Closing) → whole ≡ append t u → EntersLevel counts m cells before p t level inner behind → AreAsked (quotations_at (quot whole)) before.asked → AreAsked (quotations_in u) behind.asked
  inside_asked cells before p whole t u level inner behind e enters asked = (asked.0, (enters u asked.0 (subst (λ (v : Phrase). AreAskedBy (quotations_at (quot v) ++ asked.0) before.asked) e asked.1)).left)

  pub still_asked :
      (w : ℕ) (q : Place) (cells : List Cell) (before : Closing) (ts us : List Phrase) (t : Phrase) (level : Level) (inner : List Cell) (behind : Closing) → ts ≡ t ∷ us → EntersLevel counts m cells before q t level inner behind → AreAsked (quotations_in (choices_behind w q ts)) before.asked →
      AreAsked (quotations_in (choices_behind w q us)) behind.asked
  still_asked w q cells before ts us t level inner behind e enters asked = (asked.0, (enters (choices_behind w q us) asked.0 (next_asked w q ts us t asked.0 before.asked e asked.1)).left)

  -- no choice is left
  pub none_inside :
      (w : ℕ) (q : Place) (outer : List Cell) (start : Closing) (p : Place) (i : Item) (levels : List Level) (cells : List Cell) (now : Closing) (ts : List Phrase) (is : List Item) → ts ≡ [] → Inside counts m w q outer start p i levels cells now (choices_behind w q ts) is → Inside counts m w q outer start p i levels [] now end is
  none_inside w q outer start p i levels cells now ts is none so_far =
      let last : Inside counts m w q outer start p i levels cells now end is = subst (λ (vs : List Phrase). Inside counts m w q outer start p i levels cells now (choices_behind w q vs) is) none so_far in
      record { next_is = last.next_is; templates_are = last.templates_are; starts_are = last.starts_are; asked = last.asked }

  -- all are gone into and left again
  pub choices_closed :
      (w : ℕ) (q : Place) (cells : List Cell) (before : Closing) (p : Place) (whole t : Phrase) (us : List Phrase) (level : Level) (first levels : List Level) (inner : List Cell) (entered gone behind : Closing) →
      whole ≡ append t (choices_behind w q us) → EntersLevel counts m cells before p t level inner entered → first ≡ level ∷ [] → EntersInside counts m w q first inner entered us levels gone → behind.templates.items ≡ put_all gone.templates.items (level_templates w q levels end) →
      behind.next ≡ gone.next → behind.starts.items ≡ gone.starts.items → behind.asked ≡ gone.asked → ClosesChoices counts m cells before p whole behind
  choices_closed w q cells before p whole t us level first levels inner entered gone behind is_whole enters is_first goes templates_are next_is starts_are asked_are =
      subst
      (λ (v : Phrase). ClosesChoices counts m cells before p v behind)
      (sym is_whole)
      (λ (is : List Item) (asked : AreAskedBy (quotations_at (quot (append t (choices_behind w q us))) ++ is) before.asked).
      let u = choices_behind w q us in
      let i = quot (append t u) in
      let outermost = first_inside w q cells before p t u level inner entered is (enters u is asked) in
      let all = goes cells before p i is (subst (λ (ls : List Level). Inside counts m w q cells before p i ls inner entered u is) (sym is_first) outermost) in
      record {
        passed = record {
          next_is = next_is ∙ sym all.next_is;
          templates_are = templates_are ∙ sym all.templates_are;
          starts_are = starts_are ∙ sym all.starts_are;
        };
        left = subst (AreAskedBy is) (sym asked_are) all.asked;
      })

  pub choices_what : (cells : List Cell) (before : Closing) (p : Place) (w : What) (b : Box Choices Global) (c : Choices) (behind : Closing) → w ≡ ChoicesValue b → c ≡ b.value → ClosesChoices counts m cells before p (choices_phrase c) behind → ClosesWhat counts m cells before p w (Made before.next) behind
  choices_what cells before p w b c behind is_choices is_value closes =
      let closes_value = subst (λ (d : Choices). ClosesChoices counts m cells before p (choices_phrase d) behind) is_value closes in
      subst
      (λ (v : What). ClosesWhat counts m cells before p v (Made before.next) behind)
      (sym is_choices)
      (λ (is : List Item) (asked : AreAskedBy (quotations_at (quot (choices_phrase b.value)) ++ is) before.asked).
      let all = closes_value is asked in
      record { closed_is = refl; passed = all.passed; left = all.left })

  pub choices_asked : (w : What) (b : Box Choices Global) (c : Choices) (all : List Asked) → w ≡ ChoicesValue b → c ≡ b.value → AreAsked (quotations_at (what_item w)) all → AreAsked (quotations_at (quot (choices_phrase c))) all
  choices_asked w b c all is_choices is_value asked =
      subst (λ (d : Choices). AreAsked (quotations_at (quot (choices_phrase d))) all) (sym is_value) (subst (λ (v : What). AreAsked (quotations_at (what_item v)) all) is_choices asked)
