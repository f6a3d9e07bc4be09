-- The numbers that templates get, and one step of closing.
use Rattle.std.proofs.Common.{◌≡◌, ℕ, suc, List, [], ◌∷◌, ◌++◌, length, set, Option, Some, None, refl, sym, ap, ◌∙◌, subst, append_assoc, arith}
use Rattle.std.proofs.lemmas.List.{append-nil}
use Rattle.fac_lang.specs.Phrases.{Phrase, end, then, Item, quot, fry}
use Rattle.fac_base.specs.declared.place.Place.{Place}
use Rattle.fac_lang.specs.declared.phrase.Item.{Item as PlacedItem}
use Rattle.fac_lang.specs.declared.phrase.What.{What}
use Rattle.fac_lang.specs.declared.phrase.What.TheVariants.{Int, True, False, Str, Arr, Wref, Quot, Choices, Word, Bind, Local as LocalValue, Fry, Hole as HoleValue, CallEffect, ExecuteEffect, NextMethod, NextAfter, Made}
use Rattle.fac_lang.specs.declared.phrase.Template.{Template}
use Rattle.fac_lang.specs.declared.program.Lit.{Lit}
use Rattle.fac_lang.specs.declared.program.Lit.TheVariants.{Int as l_int, True as l_yes, False as l_no, Str as l_str, Arr as l_arr, Wref as l_word, Quot as l_quot, Made as l_made}
use Rattle.fac_lang.specs.declared.program.WordDef.{WordDef}
use Rattle.fac_lang.specs.PhraseView.{what_item, items_phrase}
use Rattle.fac_locals.specs.declared.cell.Cell.{Cell}
use Rattle.fac_locals.specs.declared.cell.Cell.TheVariants.{Local, Hole}
use Rattle.fac_locals.specs.declared.asking.Asked.{Asked}
use Rattle.fac_locals.specs.declared.keeping.Kept.{Kept}
use Rattle.fac_locals.specs.Cells.{cell_number, cells_behind, captured, inner_cells, hole_count}
use Rattle.fac_locals.specs.Asked.{AreAskedBy, quotations_in, quotations_at}
use Rattle.fac_locals.specs.declared.closing.ArrayStart.{ArrayStart}
use Rattle.fac_locals.specs.declared.closing.Closing.{Closing}
use Rattle.fac_locals.specs.inner.Numbering.{put_all, phrase_behind, item_behind, closed_item, closed_phrase, closed_template, template_of, phrase_templates, item_templates, phrase_starts, item_starts, closed_what, closed_items, closed_element, closed_elements, plain_item, phrase_of, method_of, next_in, next_what, cell_or, cell_what}
use Rattle.fac_locals.specs.inner.Numbering.{words_behind, closed_word, closed_words, words_templates, words_starts, ItemPassed, PhrasePassed, ArrayPassed, Passing, WordsPassing, PhraseClosed, ItemsClosed, ClosesWhat, ClosesTree, IsAsked, AreAsked, NumberTaken, KeptTaken, IsQuoted, a_quotation, a_fry, IsQuotedAsked, ClosesQuotation}

-- elements are put one after the other
pub put_both : {A : Type 0} → (xs : List A) (vs ws : List (ℕ × A)) → put_all xs (vs ++ ws) ≡ put_all (put_all xs vs) ws
put_both xs [] ws = refl
put_both xs (v ∷ vs) ws = put_both (set xs v.0 v.1) vs ws

next_closed : (m : Option ℕ) → what_item (next_what m) ≡ next_in m
next_closed None = refl
next_closed (Some m) = refl

cell_closed : (w : What) (o : Option ℕ) → what_item (cell_what w o) ≡ cell_or (what_item w) o
cell_closed w None = refl
cell_closed w (Some k) = refl

-- an element of an array binds no local
pub no_cells : (l : Lit) → cells_behind [] (plain_item l) ≡ []
no_cells (l_int z) = refl
no_cells l_yes = refl
no_cells l_no = refl
no_cells (l_str s) = refl
no_cells (l_arr a) = refl
no_cells (l_word w) = refl
no_cells (l_quot t) = refl
no_cells (l_made k) = refl

abbrev pub template_with : Phrase → Place → List ℕ → ℕ → Template
template_with t p ks n = record { body = t; captures = ks; holes = n; place = p }

same_template : (t : Phrase) (p : Place) (ks js : List ℕ) (n k : ℕ) → ks ≡ js → n ≡ k → template_with t p ks n ≡ template_with t p js k
same_template t p ks js n k e f = rw (e, f) refl

module _ (counts : List ℕ) (m : Option ℕ) where
  what_closed : (cells : List Cell) (n : ℕ) (w : What) → what_item (closed_what counts m cells n w) ≡ closed_item counts m cells n (what_item w)
  what_closed cells n (Int z) = refl
  what_closed cells n True = refl
  what_closed cells n False = refl
  what_closed cells n (Str s) = refl
  what_closed cells n (Arr a) = refl
  what_closed cells n (Wref w) = refl
  what_closed cells n (Quot t) = refl
  what_closed cells n (Choices c) = refl
  what_closed cells n (Word w) = refl
  what_closed cells n (Bind x) = refl
  what_closed cells n (LocalValue x) = cell_closed (LocalValue x) (cell_number cells (Local x))
  what_closed cells n (Fry t k) = refl
  what_closed cells n (HoleValue k) = cell_closed (HoleValue k) (cell_number cells (Hole k))
  what_closed cells n (CallEffect h) = refl
  what_closed cells n (ExecuteEffect h) = refl
  what_closed cells n NextMethod = next_closed m
  what_closed cells n (NextAfter k) = refl
  what_closed cells n (Made k) = refl

  -- the items of a phrase are closed as the phrase is
  pub items_closed : (cells : List Cell) (n : ℕ) (is : List PlacedItem) → items_phrase (closed_items counts m cells n is) ≡ closed_phrase counts m cells n (items_phrase is)
  items_closed cells n [] = refl
  items_closed cells n (i ∷ is) = rw (what_closed cells n i.what, items_closed (cells_behind cells (what_item i.what)) (item_behind counts n (what_item i.what)) is) refl

  -- one item more
  pub pass_on :
      (first : List Cell) (start : Closing) (t : Phrase) (cells : List Cell) (before : Closing) (left : Phrase) (behind : Closing) (i : Item) (p : Place) (rest : Phrase) →
      Passing counts m first start t cells before left → left ≡ then i p rest → ItemPassed counts m cells before p i behind → Passing counts m first start t (cells_behind cells i) behind rest
  pass_on first start t cells before left behind i p rest so_far is_next passed = record {
    next_is = so_far.next_is ∙ ap (phrase_behind counts before.next) is_next ∙ sym (ap (λ (n : ℕ). phrase_behind counts n rest) passed.next_is);
    templates_are =
        so_far.templates_are
        ∙ ap (λ (u : Phrase). put_all before.templates.items (phrase_templates counts m cells before.next u)) is_next
        ∙ put_both before.templates.items (item_templates counts m cells before.next p i) (phrase_templates counts m (cells_behind cells i) (item_behind counts before.next i) rest)
        ∙ sym (ap (λ (ts : List Template). put_all ts (phrase_templates counts m (cells_behind cells i) (item_behind counts before.next i) rest)) passed.templates_are)
        ∙ sym (ap (λ (n : ℕ). put_all behind.templates.items (phrase_templates counts m (cells_behind cells i) n rest)) passed.next_is);
    starts_are =
        so_far.starts_are
        ∙ ap (λ (u : Phrase). put_all before.starts.items (phrase_starts counts m before.next u)) is_next
        ∙ put_both before.starts.items (item_starts counts m before.next p i) (phrase_starts counts m (item_behind counts before.next i) rest)
        ∙ sym (ap (λ (ts : List ArrayStart). put_all ts (phrase_starts counts m (item_behind counts before.next i) rest)) passed.starts_are)
        ∙ sym (ap (λ (n : ℕ). put_all behind.starts.items (phrase_starts counts m n rest)) passed.next_is);
  }

  -- an element of an array more
  pub pass_element :
      (start : Closing) (t : Phrase) (before : Closing) (left : Phrase) (behind : Closing) (l : Lit) (p : Place) (rest : Phrase) →
      Passing counts m [] start t [] before left → left ≡ then (plain_item l) p rest → ItemPassed counts m [] before p (plain_item l) behind → Passing counts m [] start t [] behind rest
  pass_element start t before left behind l p rest so_far is_next passed =
      subst (λ (cells : List Cell). Passing counts m [] start t cells behind rest) (no_cells l) (pass_on [] start t [] before left behind (plain_item l) p rest so_far is_next passed)

  -- nothing is left
  pub all_passed :
      (first : List Cell) (start : Closing) (whole t : Phrase) (cells : List Cell) (behind : Closing) (left : Phrase) → Passing counts m first start t cells behind left → t ≡ whole → left ≡ end → PhrasePassed counts m first start whole behind
  all_passed first start whole t cells behind left so_far same none = record {
    next_is = sym (ap (phrase_behind counts start.next) (sym same) ∙ so_far.next_is ∙ ap (phrase_behind counts behind.next) none);
    templates_are = sym (ap (λ (u : Phrase). put_all start.templates.items (phrase_templates counts m first start.next u)) (sym same) ∙ so_far.templates_are ∙ ap (λ (u : Phrase). put_all behind.templates.items (phrase_templates counts m cells behind.next u)) none);
    starts_are = sym (ap (λ (u : Phrase). put_all start.starts.items (phrase_starts counts m start.next u)) (sym same) ∙ so_far.starts_are ∙ ap (λ (u : Phrase). put_all behind.starts.items (phrase_starts counts m behind.next u)) none);
  }

  -- one item is closed: with what was made so far and what is left, the closed items are the same
  step_items :
      (cells : List Cell) (whole items pushed rest left : List PlacedItem) (before behind : Closing) (i : PlacedItem) (w : What) →
      whole ≡ items ++ closed_items counts m cells before.next rest → rest ≡ i ∷ left → w ≡ closed_what counts m cells before.next i.what → ItemPassed counts m cells before i.place (what_item i.what) behind → pushed ≡ items ++ record { what = w; place = i.place } ∷ [] →
      whole ≡ pushed ++ closed_items counts m (cells_behind cells (what_item i.what)) behind.next left
  step_items cells whole items pushed rest left before behind i w so_far is_next w_is passed is_pushed =
      rw (is_pushed, passed.next_is, w_is, append_assoc items) (so_far ∙ ap (λ (r : List PlacedItem). items ++ closed_items counts m cells before.next r) is_next)

  -- before the first item
  pub none_closed : (first : List Cell) (start : Closing) (whole : List PlacedItem) (is : List Item) → AreAskedBy (quotations_in (items_phrase whole) ++ is) start.asked → ItemsClosed counts m first start whole [] first start whole is
  none_closed first start whole is asked = record { items_are = refl; passing = record { next_is = refl; templates_are = refl; starts_are = refl }; left = asked }

  -- what the quotations of the next item ask for comes first then
  next_asked : (more : List Item) (rest left : List PlacedItem) (all : List Asked) (i : PlacedItem) → rest ≡ i ∷ left → AreAskedBy (quotations_in (items_phrase rest) ++ more) all → AreAskedBy (quotations_at (what_item i.what) ++ (quotations_in (items_phrase left) ++ more)) all
  next_asked more rest left all i is_next asked =
      let own = quotations_at (what_item i.what) in
      subst (λ (js : List Item). AreAskedBy js all) (append_assoc own (quotations_in (items_phrase left)) more) (subst (λ (r : List PlacedItem). AreAskedBy (quotations_in (items_phrase r) ++ more) all) is_next asked)

  pub one_closed :
      (first cells next : List Cell) (start before behind : Closing) (whole items pushed rest left : List PlacedItem) (i : PlacedItem) (w : What) (is : List Item) →
      ItemsClosed counts m first start whole items cells before rest is → rest ≡ i ∷ left → ClosesWhat counts m cells before i.place i.what w behind → next ≡ cells_behind cells (what_item i.what) → pushed ≡ items ++ record { what = w; place = i.place } ∷ [] →
      ItemsClosed counts m first start whole pushed next behind left is
  one_closed first cells next start before behind whole items pushed rest left i w is so_far is_next closes next_is is_pushed =
      let more = quotations_in (items_phrase left) ++ is in
      let closed = closes more (next_asked is rest left before.asked i is_next so_far.left) in
      subst (λ (cs : List Cell). ItemsClosed counts m first start whole pushed cs behind left is) (sym next_is) (record {
        items_are = step_items cells (closed_items counts m first start.next whole) items pushed rest left before behind i w so_far.items_are is_next closed.closed_is closed.passed is_pushed;
        passing = pass_on first start (items_phrase whole) cells before (items_phrase rest) behind (what_item i.what) i.place (items_phrase left) so_far.passing (ap items_phrase is_next) closed.passed;
        left = closed.left;
      })

  pub item_asked :
      (t : Phrase) (first cells : List Cell) (start now : Closing) (whole items rest left : List PlacedItem) (i : PlacedItem) → items_phrase whole ≡ t → rest ≡ i ∷ left →
      ((is : List Item) → AreAskedBy (quotations_in (items_phrase whole) ++ is) start.asked → ItemsClosed counts m first start whole items cells now rest is) → AreAsked (quotations_in t) start.asked → AreAsked (quotations_at (what_item i.what)) now.asked
  item_asked t first cells start now whole items rest left i same is_next closes asked =
      (quotations_in (items_phrase left) ++ asked.0, next_asked asked.0 rest left now.asked i is_next (closes asked.0 (subst (λ (u : Phrase). AreAskedBy (quotations_in u ++ asked.0) start.asked) (sym same) asked.1)).left)

  pub none_left : (is : List PlacedItem) → length is ≡ 0 → is ≡ []
  none_left [] e = refl
  none_left (i ∷ is) e = absurd (omega (arith, e))

  -- a phrase whose items are all closed
  pub all_closed :
      (first cells : List Cell) (t : Phrase) (whole items rest : List PlacedItem) (start behind : Closing) (is : List Item) →
      items_phrase whole ≡ t → length rest ≡ 0 → ItemsClosed counts m first start whole items cells behind rest is → PhraseClosed counts m first start t (items_phrase items) behind is
  all_closed first cells t whole items rest start behind is same none closed =
      let over = none_left rest none in
      let all : closed_items counts m first start.next whole ≡ items = closed.items_are ∙ ap (λ (r : List PlacedItem). items ++ closed_items counts m cells behind.next r) over ∙ append-nil items in
      record {
        closed_is = ap items_phrase (sym all) ∙ items_closed first start.next whole ∙ ap (closed_phrase counts m first start.next) same;
        passed = all_passed first start t (items_phrase whole) cells behind (items_phrase rest) closed.passing same (ap items_phrase over);
        left = subst (λ (r : List PlacedItem). AreAskedBy (quotations_in (items_phrase r) ++ is) behind.asked) over closed.left;
      }

  -- likewise for the elements of an array
  pub step_elements : (whole closed pushed rest left : List Lit) (before behind : Closing) (p : Place) (l c : Lit) → whole ≡ closed ++ closed_elements counts before.next rest → rest ≡ l ∷ left → c ≡ closed_element counts before.next l → ItemPassed counts m [] before p (plain_item l) behind → pushed ≡ closed ++ c ∷ [] → whole ≡ pushed ++ closed_elements counts behind.next left
  step_elements whole closed pushed rest left before behind p l c so_far is_next c_is passed is_pushed =
      rw (is_pushed, passed.next_is, c_is, append_assoc closed) (so_far ∙ ap (λ (r : List Lit). closed ++ closed_elements counts before.next r) is_next)

  -- a phrase under no cells, where all that is asked for is its own
  pub whole_closed :
      (before : Closing) (all : List Asked) (cells : List Cell) (t closed : Phrase) (behind : Closing) → AreAskedBy (quotations_in t) all → cells ≡ [] → ClosesTree counts m cells (record { next = before.next; templates = before.templates; starts = before.starts; asked = all }) t closed behind →
      (closed ≡ closed_phrase counts m [] before.next t) × PhrasePassed counts m [] before t behind
  whole_closed before all cells t closed behind asked none closes =
      let own : AreAskedBy (quotations_in t ++ []) all = subst (λ (is : List Item). AreAskedBy is all) (sym (append-nil (quotations_in t))) asked in
      let all_of = closes [] own in
      rw (← none) (all_of.closed_is, record { next_is = all_of.passed.next_is; templates_are = all_of.passed.templates_are; starts_are = all_of.passed.starts_are })

  quotation_templates :
      (cells own : List Cell) (before inside behind : List Template) (n k number : ℕ) (p : Place) (i : Item) (t closed : Phrase) (x : Template) →
      number ≡ n → k ≡ suc n → own ≡ inner_cells cells i → closed ≡ closed_phrase counts m own k t → x ≡ template_of cells p i closed → inside ≡ put_all before (phrase_templates counts m own k t) → behind ≡ set inside number x →
      behind ≡ put_all before (phrase_templates counts m (inner_cells cells i) (suc n) t ++ (n, closed_template counts m cells n p i t) ∷ [])
  quotation_templates cells own before inside behind n k number p i t closed x is_number is_next is_own is_closed is_template is_inside is_put =
      rw (is_put, is_inside, is_template, is_closed, is_own, is_next, is_number) (sym (put_both before (phrase_templates counts m (inner_cells cells i) (suc n) t) ((n, closed_template counts m cells n p i t) ∷ [])))

  -- an item that is a quotation or a fry with this phrase
  pub record Quotes (i : Item) (t : Phrase) : Type 0 where
    pub behind_is : (n : ℕ) → item_behind counts n i ≡ phrase_behind counts (suc n) t
    pub templates_are : (cells : List Cell) (n : ℕ) (p : Place) → item_templates counts m cells n p i ≡ phrase_templates counts m (inner_cells cells i) (suc n) t ++ (n, closed_template counts m cells n p i t) ∷ []
    pub starts_are : (n : ℕ) (p : Place) → item_starts counts m n p i ≡ phrase_starts counts m (suc n) t
    pub asked_is : quotations_at i ≡ i ∷ quotations_in t

  -- a quotation or fry, which got its number before its phrase was closed
  quotation_passed :
      (cells own : List Cell) (before held inside behind : Closing) (p : Place) (i : Item) (t closed : Phrase) (number : ℕ) (x : Template) → Quotes i t →
      number ≡ before.next → held.next ≡ suc before.next → held.templates.items ≡ before.templates.items → held.starts.items ≡ before.starts.items → own ≡ inner_cells cells i →
      closed ≡ closed_phrase counts m own held.next t → PhrasePassed counts m own held t inside → x ≡ template_of cells p i closed →
      behind.next ≡ inside.next → behind.templates.items ≡ set inside.templates.items number x → behind.starts.items ≡ inside.starts.items → ItemPassed counts m cells before p i behind
  quotation_passed cells own before held inside behind p i t closed number x quotes number_is held_next held_templates held_starts is_own is_closed passed is_template next_is templates_are starts_are = record {
    next_is = next_is ∙ passed.next_is ∙ ap (λ (n : ℕ). phrase_behind counts n t) held_next ∙ sym (quotes.behind_is before.next);
    templates_are = quotation_templates cells own before.templates.items inside.templates.items behind.templates.items before.next held.next number p i t closed x number_is held_next is_own is_closed is_template (passed.templates_are ∙ ap (λ (ts : List Template). put_all ts (phrase_templates counts m own held.next t)) held_templates) templates_are ∙ sym (ap (put_all before.templates.items) (quotes.templates_are cells before.next p));
    starts_are = starts_are ∙ passed.starts_are ∙ ap (λ (ts : List ArrayStart). put_all ts (phrase_starts counts m held.next t)) held_starts ∙ ap (λ (n : ℕ). put_all before.starts.items (phrase_starts counts m n t)) held_next ∙ sym (ap (put_all before.starts.items) (quotes.starts_are before.next p));
  }

  abbrev of_quotation : (t : Phrase) → Quotes (quot t) t
  of_quotation t = record { behind_is = λ n. refl; templates_are = λ cs n q. refl; starts_are = λ n q. refl; asked_is = refl }

  of_quoted : (t : Phrase) (n : ℕ) (i : Item) → IsQuoted t n i → Quotes i t
  of_quoted t n i (a_quotation u) = of_quotation u
  of_quoted t n i (a_fry u k) = record { behind_is = λ n. refl; templates_are = λ cs n q. refl; starts_are = λ n q. refl; asked_is = refl }

  holes_of : (t : Phrase) (n : ℕ) (i : Item) → IsQuoted t n i → hole_count i ≡ n
  holes_of t n i (a_quotation u) = refl
  holes_of t n i (a_fry u k) = refl

  pub quotation_closes :
      (cells : List Cell) (before taken held inside behind : Closing) (p : Place) (t closed : Phrase) (number holes : ℕ) (kept : Kept) (x : Template) →
      NumberTaken before number taken → KeptTaken cells holes taken kept held → ClosesTree counts m kept.cells held t closed inside → x ≡ record { body = closed; captures = kept.captures; holes = holes; place = p } →
      behind.next ≡ inside.next → behind.templates.items ≡ set inside.templates.items number x → behind.starts.items ≡ inside.starts.items → behind.asked ≡ inside.asked → ClosesQuotation counts m cells before p t holes number behind
  quotation_closes cells before taken held inside behind p t closed number holes kept x takes keeps closes is_template next_is templates_are starts_are asked_are i is quoted asked =
      let quotes = of_quoted t holes i quoted in
      let holes_are = holes_of t holes i quoted in
      let mine : AreAskedBy (i ∷ (quotations_in t ++ is)) before.asked = subst (λ (js : List Item). AreAskedBy (js ++ is) before.asked) quotes.asked_is asked in
      let here = keeps.kept_is i (quotations_in t ++ is) holes_are (subst (AreAskedBy (i ∷ (quotations_in t ++ is))) (sym takes.asked_stay) mine) in
      let inner = closes is here.left in
      record {
        number_is = takes.number_is;
        passed = quotation_passed cells kept.cells before held inside behind p i t closed number x quotes takes.number_is (keeps.next_stays ∙ takes.next_is) (keeps.templates_stay ∙ takes.templates_stay) (keeps.starts_stay ∙ takes.starts_stay) here.cells_are inner.closed_is inner.passed (is_template ∙ same_template closed p kept.captures (captured cells i) holes (hole_count i) here.captures_are (sym holes_are)) next_is templates_are starts_are;
        left = subst (AreAskedBy is) (sym asked_are) inner.left;
      }

  -- what a quotation or fry asks for comes first when it is closed, and then what those in it ask for
  taken_asked : (t : Phrase) (n : ℕ) (before taken : Closing) (number : ℕ) → NumberTaken before number taken → (all : IsQuotedAsked t n before.asked) → AreAskedBy (all.item ∷ (quotations_in t ++ all.asked.0)) taken.asked
  taken_asked t n before taken number takes all =
      let is : List Item = all.asked.0 in
      subst (AreAskedBy (all.item ∷ (quotations_in t ++ is))) (sym takes.asked_stay) (subst (λ (js : List Item). AreAskedBy (js ++ is) before.asked) (of_quoted t n all.item all.quoted).asked_is all.asked.1)

  pub quotation_asked : (t : Phrase) (n : ℕ) (before taken : Closing) (number : ℕ) → NumberTaken before number taken → IsQuotedAsked t n before.asked → IsAsked taken.asked
  quotation_asked t n before taken number takes all = (all.item, quotations_in t ++ all.asked.0, taken_asked t n before taken number takes all)

  pub inside_quotation : (cells : List Cell) (t : Phrase) (n : ℕ) (before taken held : Closing) (number : ℕ) (kept : Kept) → NumberTaken before number taken → KeptTaken cells n taken kept held → IsQuotedAsked t n before.asked → AreAsked (quotations_in t) held.asked
  inside_quotation cells t n before taken held number kept takes keeps all =
      (all.asked.0, (keeps.kept_is all.item (quotations_in t ++ all.asked.0) (holes_of t n all.item all.quoted) (taken_asked t n before taken number takes all)).left)

  -- an item that is a quotation or a fry
  pub plain_quotation : (t : Phrase) (all : List Asked) → AreAsked (quotations_at (quot t)) all → IsQuotedAsked t 0 all
  plain_quotation t all asked = record { item = quot t; quoted = a_quotation t; asked = asked }

  pub first_quotation : (w : What) (t : Phrase) (all : List Asked) → w ≡ Quot t → AreAsked (quotations_at (what_item w)) all → IsQuotedAsked t 0 all
  first_quotation w t all is asked = plain_quotation t all (subst (λ (v : What). AreAsked (quotations_at (what_item v)) all) is asked)

  pub first_fry : (w : What) (t : Phrase) (n : ℕ) (all : List Asked) → w ≡ Fry t n → AreAsked (quotations_at (what_item w)) all → IsQuotedAsked t n all
  first_fry w t n all is asked = record { item = fry t n; quoted = a_fry t n; asked = subst (λ (v : What). AreAsked (quotations_at (what_item v)) all) is asked }

  pub quotation_what : (cells : List Cell) (before : Closing) (p : Place) (w : What) (t : Phrase) (number : ℕ) (behind : Closing) → w ≡ Quot t → ClosesQuotation counts m cells before p t 0 number behind → ClosesWhat counts m cells before p w (Made number) behind
  quotation_what cells before p w t number behind is_quot closes =
      subst
      (λ (v : What). ClosesWhat counts m cells before p v (Made number) behind)
      (sym is_quot)
      (λ (is : List Item) (asked : AreAskedBy (quotations_at (quot t) ++ is) before.asked).
      let all = closes (quot t) is (a_quotation t) asked in
      record { closed_is = ap Made all.number_is; passed = all.passed; left = all.left })

  pub fry_what : (cells : List Cell) (before : Closing) (p : Place) (w : What) (t : Phrase) (n number : ℕ) (behind : Closing) → w ≡ Fry t n → ClosesQuotation counts m cells before p t n number behind → ClosesWhat counts m cells before p w (Made number) behind
  fry_what cells before p w t n number behind is_fried closes =
      subst
      (λ (v : What). ClosesWhat counts m cells before p v (Made number) behind)
      (sym is_fried)
      (λ (is : List Item) (asked : AreAskedBy (quotations_at (fry t n) ++ is) before.asked).
      let all = closes (fry t n) is (a_fry t n) asked in
      record { closed_is = ap Made all.number_is; passed = all.passed; left = all.left })

  pub array_what : (cells : List Cell) (before : Closing) (p : Place) (w : What) (a : ℕ) (behind : Closing) → w ≡ Arr a → ArrayPassed counts m before p a behind → behind.asked ≡ before.asked → ClosesWhat counts m cells before p w (Arr a) behind
  array_what cells before p w a behind is_array passed asked_stay =
      subst (λ (v : What). ClosesWhat counts m cells before p v (Arr a) behind) (sym is_array) (λ (is : List Item) (asked : AreAskedBy is before.asked). record { closed_is = refl; passed = passed cells; left = subst (AreAskedBy is) (sym asked_stay) asked })

  -- likewise a quotation that is an element of an array
  pub quotation_element :
      (before taken inside behind : Closing) (p : Place) (l : Lit) (t closed : Phrase) (number : ℕ) (ks : List ℕ) → l ≡ l_quot t → NumberTaken before number taken → (closed ≡ closed_phrase counts m [] taken.next t) × PhrasePassed counts m [] taken t inside → ks ≡ [] →
      behind.next ≡ inside.next → behind.templates.items ≡ set inside.templates.items number (template_with closed p ks 0) → behind.starts.items ≡ inside.starts.items → (l_made number ≡ closed_element counts before.next l) × ItemPassed counts m [] before p (plain_item l) behind
  quotation_element before taken inside behind p l t closed number ks is_quotation takes closes none next_is templates_are starts_are =
      (ap l_made takes.number_is ∙ sym (ap (closed_element counts before.next) is_quotation), subst (λ (k : Lit). ItemPassed counts m [] before p (plain_item k) behind) (sym is_quotation) (quotation_passed [] [] before taken inside behind p (quot t) t closed number (template_with closed p ks 0) (of_quotation t) takes.number_is takes.next_is takes.templates_stay takes.starts_stay refl closes.0 closes.1 (same_template closed p ks [] 0 0 none refl) next_is templates_are starts_are))

-- likewise for words
module _ (counts : List ℕ) where
  pub step_words : (whole closed pushed rest left : List WordDef) (w : ℕ) (before behind : Closing) (d c : WordDef) → whole ≡ closed ++ closed_words counts w before.next rest → rest ≡ d ∷ left → c ≡ closed_word counts w before.next d → PhrasePassed counts (method_of w d.sort) [] before (phrase_of d.sort) behind → pushed ≡ closed ++ c ∷ [] → whole ≡ pushed ++ closed_words counts (suc w) behind.next left
  step_words whole closed pushed rest left w before behind d c so_far is_next c_is passed is_pushed =
      rw (is_pushed, passed.next_is, c_is, append_assoc closed) (so_far ∙ ap (λ (r : List WordDef). closed ++ closed_words counts w before.next r) is_next)

  pub pass_word : (start : Closing) (ds : List WordDef) (w : ℕ) (before : Closing) (left : List WordDef) (behind : Closing) (d : WordDef) (rest : List WordDef) → WordsPassing counts start ds w before left → left ≡ d ∷ rest → PhrasePassed counts (method_of w d.sort) [] before (phrase_of d.sort) behind → WordsPassing counts start ds (suc w) behind rest
  pass_word start ds w before left behind d rest so_far is_next passed =
      let n = phrase_behind counts before.next (phrase_of d.sort) in
      let m = method_of w d.sort in
      record {
        next_is = so_far.next_is ∙ ap (words_behind counts before.next) is_next ∙ sym (ap (λ (n : ℕ). words_behind counts n rest) passed.next_is);
        templates_are =
            so_far.templates_are
            ∙ ap (λ (u : List WordDef). put_all before.templates.items (words_templates counts w before.next u)) is_next
            ∙ put_both before.templates.items (phrase_templates counts m [] before.next (phrase_of d.sort)) (words_templates counts (suc w) n rest)
            ∙ sym (ap (λ (ts : List Template). put_all ts (words_templates counts (suc w) n rest)) passed.templates_are)
            ∙ sym (ap (λ (n : ℕ). put_all behind.templates.items (words_templates counts (suc w) n rest)) passed.next_is);
        starts_are =
            so_far.starts_are
            ∙ ap (λ (u : List WordDef). put_all before.starts.items (words_starts counts w before.next u)) is_next
            ∙ put_both before.starts.items (phrase_starts counts m before.next (phrase_of d.sort)) (words_starts counts (suc w) n rest)
            ∙ sym (ap (λ (ts : List ArrayStart). put_all ts (words_starts counts (suc w) n rest)) passed.starts_are)
            ∙ sym (ap (λ (n : ℕ). put_all behind.starts.items (words_starts counts (suc w) n rest)) passed.next_is);
      }
