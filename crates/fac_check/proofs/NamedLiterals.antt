-- The naming of a program's literals by the numbers of their templates, and behind these of those in a phrase that is walked by itself: the phrase of each with marks in its cells, and one that no program has where there are more or fewer marks.
use Rattle.std.proofs.Common.{◌≡◌, ◌<◌, ◌≤◌, ◌⊎◌, inl, inr, ◌+◌, ◌-◌, ℕ, suc, List, [], ◌∷◌, ◌++◌, length, Bool, true, false, Some, refl, sym, ap, subst, ◌∙◌, arith}
use Rattle.std.specs.Prelude.{◌&&◌, nat_eq, nat_lt, nat_le, max, slice_get}
use Rattle.std.proofs.Math.Nat.{max-eq_right}
use Rattle.std.proofs.lemmas.Bool.{ne_eqb, ltb-false, le-ltb, lt-leb, leb-true, le-leb, cases_lt}
use Rattle.fac_graph.proofs.NumberLists.{same_number}
use Rattle.fac_lang.specs.Meaning.{nowhere}
use Rattle.fac_lang.specs.Phrases.{Literal, Phrase, end, then, made, known, Mark}
use Rattle.fac_abs.specs.RowVariables.{Row, named_row}
use Rattle.fac_lang.specs.declared.phrase.Template.{Template}
use Rattle.fac_lang.specs.declared.program.Program.{Program}
use Rattle.fac_locals.specs.Cells.{inner_cells, hole_count}
use Rattle.fac_locals.specs.Closed.{Closes}
use Rattle.fac_locals.specs.Frames.{template_phrase}
use Rattle.fac_locals.specs.Literals.{NotBehind, NotBefore, Quoted, first_of_word, first_of_literal, literal_numbered}
use Rattle.fac_locals.proofs.Lookups.{template_closed}
use Rattle.fac_locals.proofs.OpeningLaws.{inner_count}
use Rattle.fac_locals.proofs.Places.{literal_apart, literal_behind}
use Rattle.fac_locals.proofs.PlacedLiterals.{found}
use Rattle.fac_abs.specs.MarkTrees.{Naming}
use Rattle.fac_abs.specs.Marks.{phrase_marks, mark_depth, deepest}
use Rattle.fac_abs.proofs.EqualMarks.{and_first, and_second}
use Rattle.fac_abs.proofs.SeenLemmas.{both, is_below, below_is}
use Rattle.fac_check.specs.CallableEffects.{no_word}
use Rattle.fac_check.specs.inner.Alone.{in_one_phrase, placed_by}
use Rattle.fac_check.specs.inner.UndeclaredRecursion.{NumbersFrom}
use Rattle.fac_check.specs.inner.Walking.{NamesTemplate, items_of}
use Rattle.fac_check.proofs.LiteralNumbers.{template_of_words}
use Rattle.fac_check.proofs.NamedWords.{number_below}
use Rattle.fac_check.proofs.StandingItems.{same_words, same_arrays}
use Rattle.fac_check.proofs.VerdictLemmas.{NamesLiterals}

-- A row for each number.
abbrev pub numbered_row : ℕ → Row
numbered_row k = named_row (k ∷ [])

pub numbered_apart : (j k : ℕ) → numbered_row j ≡ numbered_row k → j ≡ k
numbered_apart j k e = cc

-- marks in turn
abbrev pub marks_phrase : List Mark → Phrase
marks_phrase [] = end
marks_phrase (m ∷ ms) = then (known m) nowhere (marks_phrase ms)

marks_apart : (ms ns : List Mark) → marks_phrase ms ≡ marks_phrase ns → ms ≡ ns
marks_apart [] [] e = refl
marks_apart [] (n ∷ ns) e = absurd (cc)
marks_apart (m ∷ ms) [] e = absurd (cc)
marks_apart (m ∷ ms) (n ∷ ns) e =
    let first : m ≡ n = cc in
    let rest : marks_phrase ms ≡ marks_phrase ns = cc in
    ap (λ (x : Mark). x ∷ ms) first ∙ ap (λ (xs : List Mark). n ∷ xs) (marks_apart ms ns rest)

marks_deep : (ms : List Mark) → phrase_marks (marks_phrase ms) ≡ deepest ms
marks_deep [] = refl
marks_deep (m ∷ ms) = ap (λ (n : ℕ). max (suc (mark_depth m)) n) (marks_deep ms)

no_more : (n : ℕ) → max 0 n ≡ n
no_more n = max-eq_right (omega arith)

-- what a number may name
data Named : Type 0 where
  in_program : ℕ → Named
  by_itself : ℕ → Named
  in_none : Named

-- Places that the walk has for those of the program.
not_placed : (b : Bool) (none : ℕ) (first at other : Literal) → other.word < none → other ≡ placed_by b none first at → ⊥
not_placed true none first at other l e =
    let same : other.word ≡ none = ap (λ (x : Literal). x.word) e in
    omega (arith, l, same)
not_placed false none first at other l e =
    let same : other.word ≡ suc (none + at.word) = ap (λ (x : Literal). x.word) e in
    omega (arith, l, same)

not_none : (b : Bool) (none n : ℕ) (first at : Literal) → placed_by b none first at ≡ record { word = none; around = 0 ∷ []; index = n } → ⊥
not_none true none n first at e =
    let same : 0 ≡ 1 = ap (λ (x : Literal). length x.around) e in
    omega (arith, same)
not_none false none n first at e =
    let same : suc (none + at.word) ≡ none = ap (λ (x : Literal). x.word) e in
    omega (arith, same)

one_place : (l m : Literal) → l.word ≡ m.word → l.around ≡ m.around → l.index ≡ m.index → l ≡ m
one_place l m w a i =
    ap (λ (x : ℕ). let y : Literal = record { word = x; around = l.around; index = l.index } in y) w
    ∙ ap (λ (x : List ℕ). let y : Literal = record { word = m.word; around = x; index = l.index } in y) a
    ∙ ap (λ (x : ℕ). let y : Literal = record { word = m.word; around = m.around; index = x } in y) i

placed_apart : (none : ℕ) (first l m : Literal) (b c : Bool) → in_one_phrase first l ≡ b → in_one_phrase first m ≡ c → (in_one_phrase first l ≡ true → first.index ≤ l.index) → (in_one_phrase first m ≡ true → first.index ≤ m.index) → placed_by b none first l ≡ placed_by c none first m → l ≡ m
placed_apart none first l m true true e f low high same =
    let index : l.index - first.index ≡ m.index - first.index = ap (λ (x : Literal). x.index) same in
    let one = low e in
    let other = high f in
    one_place l m (sym (same_words first l e) ∙ same_words first m f) (sym (same_arrays first l e) ∙ same_arrays first m f) (omega (arith, index, one, other))
placed_apart none first l m false false e f low high same =
    let word : suc (none + l.word) ≡ suc (none + m.word) = ap (λ (x : Literal). x.word) same in
    one_place l m (omega (arith, word)) (ap (λ (x : Literal). x.around) same) (ap (λ (x : Literal). x.index) same)
placed_apart none first l m true false e f low high same =
    let word : none ≡ suc (none + m.word) = ap (λ (x : Literal). x.word) same in
    absurd (omega (arith, word))
placed_apart none first l m false true e f low high same =
    let word : suc (none + l.word) ≡ none = ap (λ (x : Literal). x.word) same in
    absurd (omega (arith, word))

-- a place of a phrase is at one of the same phrase or before it
in_front : (xs : List ℕ) (i j : ℕ) → i ≤ j → NotBehind (xs ++ i ∷ []) (xs ++ j ∷ [])
in_front [] i j le = by_order (cases_lt i j)
  where
    by_order : (i < j) ⊎ (j ≤ i) → NotBehind (i ∷ []) (j ∷ [])
    by_order (inl lt) = inl lt
    by_order (inr ge) = inr (omega (arith, le, ge), tt)
in_front (x ∷ xs) i j le = inr (refl, in_front xs i j le)

in_one_word : (l m : Literal) → l.word ≡ m.word → l.around ≡ m.around → l.index ≤ m.index → NotBefore l m
in_one_word l m w a le = inr (w, subst (λ (xs : List ℕ). NotBehind (l.around ++ l.index ∷ []) (xs ++ m.index ∷ [])) a (in_front l.around l.index m.index le))

-- a literal with a higher number isn't at one of its phrase or before it
not_behind : (P : Program) (k q : ℕ) → suc q ≤ k → (literal_numbered P k).at.word ≡ (literal_numbered P q).at.word → (literal_numbered P k).at.around ≡ (literal_numbered P q).at.around → (literal_numbered P k).at.index ≤ (literal_numbered P q).at.index → ⊥
not_behind P k q ge w a le = by_order (cases_lt (literal_numbered P k).at.index (literal_numbered P q).at.index)
  where
    by_order : ((literal_numbered P k).at.index < (literal_numbered P q).at.index) ⊎ ((literal_numbered P q).at.index ≤ (literal_numbered P k).at.index) → ⊥
    by_order (inl lt) =
        let less = literal_behind P q k (in_one_word (first_of_literal (literal_numbered P k).at) (literal_numbered P q).at w a (omega (arith, lt))) in
        omega (arith, less, ge)
    by_order (inr more) =
        let same = literal_apart P k q (one_place (literal_numbered P k).at (literal_numbered P q).at w a (omega (arith, le, more))) in
        omega (arith, same, ge)

module _ (P : Program) where
  -- how many cells the phrase of a literal has
  abbrev pub cell_count : ℕ → ℕ
  cell_count k = let l : Quoted = literal_numbered P k in length (inner_cells l.cells l.item)

  abbrev fit_or : Bool → ℕ → List Mark → Phrase
  fit_or true k ms = template_phrase P k (items_of ms)
  fit_or false k ms = then (made 0) nowhere (marks_phrase ms)

  abbrev pub named_phrase : ℕ → List Mark → Phrase
  named_phrase k ms = fit_or (nat_eq (length ms) (cell_count k)) k ms

  -- Of the phrases with a mark in each cell: other marks make another one, the deepest mark is that of a cell, and none begins as no program's does.
  pub record ShowsCells : Type 0 where
    pub apart : (k : ℕ) (ms ns : List Mark) → length ms ≡ cell_count k → length ns ≡ cell_count k → template_phrase P k (items_of ms) ≡ template_phrase P k (items_of ns) → ms ≡ ns
    pub marked : (k : ℕ) (ms : List Mark) → length ms ≡ cell_count k → phrase_marks (template_phrase P k (items_of ms)) ≡ deepest ms
    pub first : (k : ℕ) (ms : List Mark) (t : Phrase) → length ms ≡ cell_count k → template_phrase P k (items_of ms) ≡ then (made 0) nowhere t → ⊥

  module _ (shows : ShowsCells) where
    pub apart_by : (b c : Bool) (k : ℕ) (ms ns : List Mark) → nat_eq (length ms) (cell_count k) ≡ b → nat_eq (length ns) (cell_count k) ≡ c → fit_or b k ms ≡ fit_or c k ns → ms ≡ ns
    apart_by true true k ms ns e f h = shows.apart k ms ns (same_number (length ms) (cell_count k) e) (same_number (length ns) (cell_count k) f) h
    apart_by true false k ms ns e f h = absurd (shows.first k ms (marks_phrase ns) (same_number (length ms) (cell_count k) e) h)
    apart_by false true k ms ns e f h = absurd (shows.first k ns (marks_phrase ms) (same_number (length ns) (cell_count k) f) (sym h))
    apart_by false false k ms ns e f h = marks_apart ms ns (let same : marks_phrase ms ≡ marks_phrase ns = cc in same)

    pub marked_by : (b : Bool) (k : ℕ) (ms : List Mark) → nat_eq (length ms) (cell_count k) ≡ b → phrase_marks (fit_or b k ms) ≡ deepest ms
    marked_by true k ms e = shows.marked k ms (same_number (length ms) (cell_count k) e)
    marked_by false k ms e = no_more (phrase_marks (marks_phrase ms)) ∙ marks_deep ms

    itself : (n : ℕ) → nat_eq n n ≡ true
    itself n = grind arith

    fits : (k : ℕ) (ms : List Mark) → length ms ≡ cell_count k → named_phrase k ms ≡ template_phrase P k (items_of ms)
    fits k ms e = ap (λ (b : Bool). fit_or b k ms) (ap (λ (n : ℕ). nat_eq (length ms) n) (sym e) ∙ itself (length ms))

    module _ (C : Program) (templates : List Template) (closes : Closes P C templates) where
      many : (k : ℕ) (t : Template) → slice_get templates k ≡ Some t → cell_count k ≡ length t.captures + t.holes
      many k t e =
          let l : Quoted = literal_numbered P k in
          let is = template_closed P C templates closes k t e in
          inner_count l.cells l.item ∙ ap (λ (n : ℕ). n + hole_count l.item) (ap length (sym is.captures)) ∙ ap (λ (n : ℕ). length t.captures + n) (sym is.holes)

      abbrev count : ℕ
      count = length templates

      in_word : (k : ℕ) → k < count → (literal_numbered P k).at.word < length P.words
      in_word k l = (let there = found templates k l in template_of_words P C templates closes k there.0 there.1)

      -- for a number that no word has, which is that of no word where a phrase is walked by itself
      module _ (none : ℕ) (few : length P.words ≤ none) (inner : ℕ) (first : Literal) (low : (k : ℕ) → inner ≤ k → k < count → first.word ≡ (literal_numbered P k).at.word → first.around ≡ (literal_numbered P k).at.around → first.index ≤ (literal_numbered P k).at.index) where
        -- what a number names: the literal of a template in its word, or in a phrase by itself, or none
        abbrev named_by : Bool → Bool → ℕ → Named
        named_by true b n = in_program n
        named_by false true n = by_itself (n - count)
        named_by false false n = in_none

        abbrev named : ℕ → Named
        named n = named_by (nat_lt n count) (nat_le inner (n - count) && nat_lt (n - count) count) n

        abbrev IsNamed : ℕ → Named → Type 0
        IsNamed n (in_program k) = (n ≡ k) × (k < count)
        IsNamed n (by_itself k) = (n ≡ count + k) × (inner ≤ k) × (k < count)
        IsNamed n in_none = Unit {0}

        is_named : (n : ℕ) → IsNamed n (named n)
        is_named n = by_tests (nat_lt n count) (nat_le inner (n - count) && nat_lt (n - count) count) refl refl
          where
            by_tests : (b c : Bool) → nat_lt n count ≡ b → (nat_le inner (n - count) && nat_lt (n - count) count) ≡ c → IsNamed n (named_by b c n)
            by_tests true c e f = (refl, is_below n count e)
            by_tests false true e f =
                let above = ltb-false n count e in
                (omega (arith, above), leb-true inner (n - count) (and_first (nat_le inner (n - count)) _ f), is_below (n - count) count (and_second (nat_le inner (n - count)) _ f))
            by_tests false false e f = tt

        named_program : (k : ℕ) → k < count → named k ≡ in_program k
        named_program k l = ap (λ (b : Bool). named_by b (nat_le inner (k - count) && nat_lt (k - count) count) k) (below_is k count l)

        named_alone : (k : ℕ) → inner ≤ k → k < count → named (count + k) ≡ by_itself k
        named_alone k ge l =
            let same : (count + k) - count ≡ k = omega arith in
            ap (λ (b : Bool). named_by b (nat_le inner ((count + k) - count) && nat_lt ((count + k) - count) count) (count + k)) (le-ltb (count + k) count (omega arith))
            ∙ ap (λ (b : Bool). named_by false b (count + k)) (ap (λ (j : ℕ). nat_le inner j && nat_lt j count) same ∙ both (nat_le inner k) (nat_lt k count) (le-leb inner k ge) (below_is k count l))
            ∙ ap (λ (j : ℕ). by_itself j) same

        named_none : (n : ℕ) → count ≤ n → n < count + inner → named n ≡ in_none
        named_none n ge l =
            ap (λ (b : Bool). named_by b (nat_le inner (n - count) && nat_lt (n - count) count) n) (le-ltb n count ge)
            ∙ ap (λ (b : Bool). named_by false (b && nat_lt (n - count) count) n) (lt-leb inner (n - count) (omega (arith, ge, l)))

        below_none : (k : ℕ) → k < count → (literal_numbered P k).at.word < none
        below_none k l = (let lower = in_word k l in omega (arith, lower, few))

        abbrev literal_by : Named → ℕ → Literal
        literal_by (in_program k) n = (literal_numbered P k).at
        literal_by (by_itself k) n = let at : Literal = (literal_numbered P k).at in placed_by (in_one_phrase first at) none first at
        literal_by in_none n = record { word = none; around = 0 ∷ []; index = n }

        abbrev phrase_by : Named → List Mark → Phrase
        phrase_by (in_program k) ms = named_phrase k ms
        phrase_by (by_itself k) ms = named_phrase k ms
        phrase_by in_none ms = then (made 0) nowhere (marks_phrase ms)

        low_in : (k : ℕ) → inner ≤ k → k < count → in_one_phrase first (literal_numbered P k).at ≡ true → first.index ≤ (literal_numbered P k).at.index
        low_in k ge l one = low k ge l (same_words first (literal_numbered P k).at one) (same_arrays first (literal_numbered P k).at one)

        literals_apart : (j k : ℕ) (x y : Named) → IsNamed j x → IsNamed k y → literal_by x j ≡ literal_by y k → j ≡ k
        literals_apart j k (in_program v) (in_program w) h g e = h.0 ∙ literal_apart P v w e ∙ sym g.0
        literals_apart j k (in_program v) (by_itself w) h g e =
            absurd (not_placed (in_one_phrase first (literal_numbered P w).at) none first (literal_numbered P w).at (literal_numbered P v).at (below_none v h.1) e)
        literals_apart j k (in_program v) in_none h g e =
            let l = below_none v h.1 in
            let same : (literal_numbered P v).at.word ≡ none = ap (λ (x : Literal). x.word) e in
            absurd (omega (arith, l, same))
        literals_apart j k (by_itself v) (in_program w) h g e =
            absurd (not_placed (in_one_phrase first (literal_numbered P v).at) none first (literal_numbered P v).at (literal_numbered P w).at (below_none w g.1) (sym e))
        literals_apart j k (by_itself v) (by_itself w) h g e =
            let one = placed_apart none first (literal_numbered P v).at (literal_numbered P w).at (in_one_phrase first (literal_numbered P v).at) (in_one_phrase first (literal_numbered P w).at) refl refl (low_in v h.1 h.2) (low_in w g.1 g.2) e in
            let same = literal_apart P v w one in
            omega (arith, h.0, g.0, same)
        literals_apart j k (by_itself v) in_none h g e = absurd (not_none (in_one_phrase first (literal_numbered P v).at) none k first (literal_numbered P v).at e)
        literals_apart j k in_none (in_program w) h g e =
            let l = below_none w g.1 in
            let same : none ≡ (literal_numbered P w).at.word = ap (λ (x : Literal). x.word) e in
            absurd (omega (arith, l, same))
        literals_apart j k in_none (by_itself w) h g e = absurd (not_none (in_one_phrase first (literal_numbered P w).at) none j first (literal_numbered P w).at (sym e))
        literals_apart j k in_none in_none h g e = ap (λ (x : Literal). x.index) e

        phrases_apart : (x : Named) (ms ns : List Mark) → phrase_by x ms ≡ phrase_by x ns → ms ≡ ns
        phrases_apart (in_program k) ms ns e = apart_by (nat_eq (length ms) (cell_count k)) (nat_eq (length ns) (cell_count k)) k ms ns refl refl e
        phrases_apart (by_itself k) ms ns e = apart_by (nat_eq (length ms) (cell_count k)) (nat_eq (length ns) (cell_count k)) k ms ns refl refl e
        phrases_apart in_none ms ns e = marks_apart ms ns (let same : marks_phrase ms ≡ marks_phrase ns = cc in same)

        phrases_marked : (x : Named) (ms : List Mark) → phrase_marks (phrase_by x ms) ≡ deepest ms
        phrases_marked (in_program k) ms = marked_by (nat_eq (length ms) (cell_count k)) k ms refl
        phrases_marked (by_itself k) ms = marked_by (nat_eq (length ms) (cell_count k)) k ms refl
        phrases_marked in_none ms = no_more (phrase_marks (marks_phrase ms)) ∙ marks_deep ms

        abbrev literal_naming : Naming
        literal_naming = record {
          literal = λ n. literal_by (named n) n;
          apart = λ j k e. literals_apart j k (named j) (named k) (is_named j) (is_named k) e;
          phrase = λ n ms. phrase_by (named n) ms;
          cells_apart = λ n ms ns e. phrases_apart (named n) ms ns e;
          marked = λ n ms. phrases_marked (named n) ms;
          row = numbered_row;
          rows_apart = numbered_apart;
        }

        names_template : (n k : ℕ) (t : Template) → slice_get templates k ≡ Some t → ((ms : List Mark) → phrase_by (named n) ms ≡ named_phrase k ms) → NamesTemplate P literal_naming n k t
        names_template n k t e same = record {
          phrase_is = λ ms m. same ms ∙ fits k ms (m ∙ sym (many k t e));
          other_is = λ ms other. (marks_phrase ms, same ms ∙ ap (λ (b : Bool). fit_or b k ms) (ne_eqb (length ms) (cell_count k) (λ one. other (one ∙ many k t e))));
        }

        pub names_literals : ((k : ℕ) → inner ≤ k → k < count → none ≡ no_word) → ((at : Literal) → NumbersFrom P at inner → first.word ≡ at.word → first.around ≡ at.around → first.index ≤ at.index) → NamesLiterals P templates inner first
        names_literals alone begins = record {
          naming = literal_naming;
          literal_is = λ k l. ap (λ (x : Named). literal_by x k) (named_program k l);
          template_is = λ k t e. names_template k k t e (λ ms. ap (λ (x : Named). phrase_by x ms) (named_program k (number_below templates k t e)));
          first_is = begins;
          literals_behind = low;
          apart_is = λ k ge l.
              let at : Literal = (literal_numbered P k).at in
              ap (λ (x : Named). literal_by x (count + k)) (named_alone k ge l) ∙ ap (λ (n : ℕ). placed_by (in_one_phrase first at) n first at) (alone k ge l);
          template_apart_is = λ k t ge e. names_template (count + k) k t e (λ ms. ap (λ (x : Named). phrase_by x ms) (named_alone k ge (number_below templates k t e)));
          none_is = λ n ge l ms. (marks_phrase ms, ap (λ (x : Named). phrase_by x ms) (named_none n ge l));
        }

      -- where no phrase is walked by itself
      pub words_named : (inner : ℕ) → inner ≡ count → NamesLiterals P templates inner (first_of_word (length P.words))
      words_named inner none = names_literals (length P.words) (omega arith) inner (first_of_word (length P.words)) (λ k ge l w a. omega arith) (λ k ge l. absurd (omega (arith, none, ge, l))) (λ at numbers w a. omega arith)

      -- where that of this template is
      module _ (few : length P.words ≤ no_word) (q : ℕ) where
        abbrev start : Literal
        start = (literal_numbered P q).at

        behind_start : (k : ℕ) → suc q ≤ k → k < count → start.word ≡ (literal_numbered P k).at.word → start.around ≡ (literal_numbered P k).at.around → suc start.index ≤ (literal_numbered P k).at.index
        behind_start k ge l words around = by_order (cases_lt start.index (literal_numbered P k).at.index)
          where
            by_order : (start.index < (literal_numbered P k).at.index) ⊎ ((literal_numbered P k).at.index ≤ start.index) → suc start.index ≤ (literal_numbered P k).at.index
            by_order (inl lt) = omega (arith, lt)
            by_order (inr le) = absurd (not_behind P k q ge (sym words) (sym around) le)

        starts : (at : Literal) → NumbersFrom P at (suc q) → start.word ≡ at.word → start.around ≡ at.around → suc start.index ≤ at.index
        starts at numbers words around = by_order (cases_lt start.index at.index)
          where
            by_order : (start.index < at.index) ⊎ (at.index ≤ start.index) → suc start.index ≤ at.index
            by_order (inl lt) = omega (arith, lt)
            by_order (inr le) = absurd (let more = numbers q (in_one_word at start (sym words) (sym around) le) in omega (arith, more))

        pub template_named : NamesLiterals P templates (suc q) (first_of_literal start)
        template_named = names_literals no_word few (suc q) (first_of_literal start) behind_start (λ k ge l. refl) starts
