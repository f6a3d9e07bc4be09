-- The words of an image of plain code: their rows, and where their code stands.
use Rattle.std.proofs.Common.{◌≡◌, ◌<◌, ℕ, zero, suc, ◌+◌, List, [], ◌∷◌, ◌++◌, length, drop, map, Bool, true, false, Option, Some, None, refl, ap, sym, subst, ◌∙◌, arith, length-append}
use Rattle.std.specs.Prelude.{nat_eq, take, slice_get}
use Rattle.std.specs.Option.{option_map}
use Rattle.fac_base.specs.declared.height.Height.{Height}
use Rattle.fac_lang.specs.declared.program.Program.{Program}
use Rattle.fac_lang.specs.declared.program.WordDef.{WordDef}
use Rattle.fac_lang.specs.declared.program.Sort.{Sort}
use Rattle.fac_lang.specs.declared.program.Sort.TheVariants.{Body as body, Generic as generic, Method as method}
use Rattle.fac_lang.specs.Phrases.{Phrase}
use Rattle.fac_lang.proofs.SourcePrograms.{IsSessionProgram}
use Rattle.fac_lang.specs.Classes.{has_kind, word_in, pick, next}
use Rattle.fac_lang.specs.Meaning.{sort_of, sort_phrase}
use Rattle.fac_lang.proofs.FormsLemmas.{sort_at}
use Rattle.fac_lang.proofs.SessionWords.{top_sort}
use Rattle.fac_locals.specs.Literals.{first_of_word}
use Rattle.fac_locals.specs.Closed.{Closes, ClosesSort, ClosesWord}
use Rattle.fac_locals.specs.declared.closing.Closed.{Closed}
use Rattle.fac_locals.proofs.Lookups.{word_closed}
use Rattle.fac_code.specs.declared.image.Instr.{Instr}
use Rattle.fac_code.specs.declared.image.Action.TheVariants as action
use Rattle.fac_code.specs.declared.image.GenericRow.{GenericRow}
use Rattle.fac_code.specs.declared.image.Image.{Image}
use Rattle.fac_code.specs.declared.image.MethodRow.{MethodRow}
use Rattle.fac_code.specs.declared.image.WordRow.{WordRow}
use Rattle.fac_generic.specs.Methods.{methods_in_order, first_with}
use Rattle.fac_machine.specs.Machine.{set_has, method_for, method_after}
use Rattle.fac_emit.specs.ProgramTexts.{own_texts, sort_texts, program_texts, text_number}
use Rattle.fac_emit.specs.ProgramTables.{generics_among, generic_number, method_row, generics_from}
use Rattle.fac_emit.specs.ProgramCode.{phrase_code, last_instr, sort_action, sort_code, word_row, word_code, program_words, code_place, program_generics, IsPlain}
use Rattle.fac_carry.specs.Stands.{RunsPhrase, HasCode, SameMethod}
use Rattle.fac_emit.proofs.ClassSets.{set_same}
use Rattle.fac_emit.proofs.Closings.{Alike, a_same, a_body, a_past, a_method, alike, Closing, closing}
use Rattle.fac_generic.specs.Methods.{MethodLaws}
use Rattle.fac_emit.proofs.Placed.{words_placed}
use Rattle.fac_locals.proofs.RunningPhrases.{RunsAs}
use Rattle.fac_emit.proofs.TableNumbers.{order_same, sets_same}
use Rattle.fac_emit.proofs.TextLemmas.{IsAmong, AreAmong, text_there, body_among}

pub action_alike : (C : Closed) (w at : ℕ) (s c : Sort) → Alike s c → sort_action C w at c ≡ sort_action C w at s
action_alike C w at s c (a_same t) = refl
action_alike C w at s c (a_body t u) = refl
action_alike C w at s c (a_past t u) = refl
action_alike C w at s c (a_method n g t u) = refl

pub does_code : (C : Closed) (w at : ℕ) (s : Sort) → RunsPhrase (Some s) → sort_action C w at s ≡ action.Code at
does_code C w at (body t) h = refl
does_code C w at (method c g t) h = refl
does_code C w at _ h = absurd h

-- where a number is found there is one below it
pub found_below : {A : Type 0} (xs : List A) (k : ℕ) (x : A) → slice_get xs k ≡ Some x → k < length xs
found_below [] k x e = absurd (cc)
found_below (y ∷ xs) zero x e = omega arith
found_below (y ∷ xs) (suc k) x e = let later = found_below xs k x e in omega (arith, later)

get_dropped : {A : Type 0} (xs : List A) (i j : ℕ) → slice_get (drop i xs) j ≡ slice_get xs (i + j)
get_dropped xs zero j = let n : 0 + j ≡ j = omega arith in rw n refl
get_dropped [] (suc i) j = refl
get_dropped (x ∷ xs) (suc i) j = let n : suc i + j ≡ suc (i + j) = omega arith in rw n (get_dropped xs i j)

-- a word of a whole program by its sort
module _ (P : Program) (b : IsSessionProgram P) where
  pub word_count : length P.words ≡ suc P.top
  word_count = let n = ap length b.words_are ∙ length-append b.words (b.last_word ∷ []) in let top = b.top_is in omega (arith, n, top)

  pub word_there : (w : ℕ) (s : Sort) → sort_of P w ≡ Some s → (d : WordDef) × (slice_get P.words w ≡ Some d) × (d.sort ≡ s)
  word_there w s e = by (slice_get P.words w) refl e
    where
      by : (o : Option WordDef) → slice_get P.words w ≡ o → (let x : Option Sort = elim o [ Some d ↦ Some d.sort | None ↦ None ] in x ≡ Some s) → (d : WordDef) × (slice_get P.words w ≡ Some d) × (d.sort ≡ s)
      by None is h = absurd (cc)
      by (Some d) is h = let same : d.sort ≡ s = cc in (d, is, same)

  -- a method isn't the top-level phrase
  pub method_below : (m c g : ℕ) (t : Phrase) → sort_of P m ≡ Some (method c g t) → m < P.top
  method_below m c g t e =
      let found = word_there m (method c g t) e in
      let lt = found_below P.words m found.0 found.1 in
      let count = word_count in
      by (nat_eq m P.top) refl (omega (arith, lt, count))
    where
      by : (q : Bool) → nat_eq m P.top ≡ q → m < suc P.top → m < P.top
      by true is lt = absurd (let same : m ≡ P.top = grind arith in let clash : Some (body b.phrase) ≡ Some (method c g t) = sym (top_sort P b) ∙ ap (sort_of P) (sym same) ∙ e in cc)
      by false is lt = grind arith

-- the row of a generic
row_by : (s : Sort) (r : GenericRow) (rows : List GenericRow) (n : ℕ) (o : Option GenericRow) → slice_get rows n ≡ o → slice_get (elim s [ generic ↦ r ∷ rows | _ ↦ rows ]) (elim s [ generic ↦ suc n | _ ↦ n ]) ≡ o
row_by generic r rows n o e = e
row_by _ r rows n o e = e

module _ (C : Closed) where
  -- the places of the words' code
  abbrev pub places : ℕ → ℕ
  places = code_place (program_words C)

  abbrev pub row_of : ℕ → GenericRow
  row_of g = record { word = g; methods = map (method_row places) (methods_in_order C.program g) }

  rows_at : (v : ℕ) (ds : List WordDef) (g : ℕ) (d : WordDef) → slice_get ds g ≡ Some d → d.sort ≡ generic → slice_get (generics_from C.program places v ds) (generics_among (take g ds)) ≡ Some (row_of (v + g))
  rows_at v [] g d e is = absurd (cc)
  rows_at v (x ∷ ds) zero d e is =
      let same : x ≡ d = cc in
      let sort : x.sort ≡ generic = ap (λ (y : WordDef). y.sort) same ∙ is in
      let n : v ≡ v + 0 = omega arith in
      ap (λ (s : Sort). slice_get (elim s [ generic ↦ row_of v ∷ generics_from C.program places (suc v) ds | _ ↦ generics_from C.program places (suc v) ds ]) 0) sort ∙ ap (λ (g : ℕ). Some (row_of g)) n
  rows_at v (x ∷ ds) (suc g) d e is =
      let n : suc v + g ≡ v + suc g = omega arith in
      row_by x.sort (row_of v) (generics_from C.program places (suc v) ds) (generics_among (take g ds)) (Some (row_of (v + suc g))) (subst (λ (w : ℕ). slice_get (generics_from C.program places (suc v) ds) (generics_among (take g ds)) ≡ Some (row_of w)) n (rows_at (suc v) ds g d e is))

  pub generic_at : (g : ℕ) (c : WordDef) → slice_get C.program.words g ≡ Some c → c.sort ≡ generic → slice_get (program_generics C) (generic_number C.program g) ≡ Some (row_of g)
  generic_at g c e is = let n : 0 + g ≡ g = omega arith in subst (λ (w : ℕ). slice_get (program_generics C) (generic_number C.program g) ≡ Some (row_of w)) n (rows_at 0 C.program.words g c e is)

-- a sort with another phrase
abbrev pub with_phrase : Sort → Phrase → Sort
with_phrase (body t) u = body u
with_phrase (method c g t) u = method c g u
with_phrase s u = s

-- the phrase that word w of this sort runs, and its closed one, which stands in the code
pub record Ran (P : Program) (C : Closed) (w : ℕ) (s c : Sort) : Type 0 where
  pub phrase : Phrase
  pub code_is : (is_top : Bool) → sort_code C is_top c ≡ phrase_code C (last_instr is_top) phrase
  pub named : AreAmong (program_texts C) (own_texts phrase)
  pub sort_is : c ≡ with_phrase s phrase
  pub closes : Closing P [] (first_of_word w) (sort_phrase P w (Some s)) phrase

pub ran : (P : Program) (C : Closed) (w : ℕ) (s c : Sort) → RunsPhrase (Some s) → ClosesSort P w s c → RunsAs P w s → AreAmong (program_texts C) (sort_texts C c) → Ran P C w s c
ran P C w (body t) c h cl r n =
    record { phrase = cl.0; code_is = λ is_top. ap (sort_code C is_top) cl.1; named = body_among C cl.0 (subst (λ (c : Sort). AreAmong (program_texts C) (sort_texts C c)) cl.1 n); sort_is = cl.1; closes = closing P [] (first_of_word w) t cl.0 cl.2 r }
ran P C w (method m g t) c h cl r n =
    record { phrase = cl.0; code_is = λ is_top. ap (sort_code C is_top) cl.1; named = body_among C cl.0 (subst (λ (c : Sort). AreAmong (program_texts C) (sort_texts C c)) cl.1 n); sort_is = cl.1; closes = closing P [] (first_of_word w) _ cl.0 cl.2 r }
ran P C w _ c h cl r n = absurd h

module _ (P : Program) (C : Closed) (heights : List (Option Height)) (M : Image) (b : IsSessionProgram P) (closes : Closes P C.program C.templates) (is_plain : IsPlain C heights M) where
  -- the text of a number
  pub text_in : (s : List ℕ) → IsAmong (program_texts C) s → slice_get M.texts (text_number C s) ≡ Some s
  text_in s h = ap (λ (ts : List (List ℕ)). slice_get ts (text_number C s)) is_plain.texts ∙ text_there C s h

  -- a word with its closed one, its row and the place of its code
  pub record WordPut (w : ℕ) (d : WordDef) : Type 0 where
    pub closed : WordDef
    pub at : slice_get C.program.words w ≡ Some closed
    pub closes_word : ClosesWord P w d closed
    pub place : ℕ
    pub row : slice_get M.words w ≡ Some (word_row C place w closed)
    pub more : List Instr
    pub there : drop place M.code ≡ word_code C w closed ++ more

  pub word_put : (w : ℕ) (d : WordDef) → slice_get P.words w ≡ Some d → WordPut w d
  word_put w d e =
      let found = word_closed P C.program C.templates closes w d e in
      let put = words_placed C M.code is_plain.code w found.closed found.at in
      record {
        closed = found.closed;
        at = found.at;
        closes_word = found.closes;
        place = put.at;
        row = ap (λ (rs : List WordRow). slice_get rs w) is_plain.word_rows_are ∙ put.row;
        more = put.more;
        there = put.there;
      }

  -- it does what its sort says
  pub word_does : (w : ℕ) (d : WordDef) (p : WordPut w d) → (word_row C p.place w p.closed).action ≡ sort_action C w p.place d.sort
  word_does w d p = action_alike C w p.place d.sort p.closed.sort (alike P w d.sort p.closed.sort p.closes_word.sort)

  pub has_code : (w : ℕ) (d : WordDef) (p : WordPut w d) → slice_get P.words w ≡ Some d → w < P.top → RunsPhrase (Some d.sort) → HasCode P M w p.place
  has_code w d p e lt runs = record { below = lt; runs = subst RunsPhrase (sym (sort_at P w d e)) runs; row = word_row C p.place w p.closed; there = p.row; does = word_does w d p ∙ does_code C w p.place d.sort runs }

  -- the one place at which a word has its code
  pub one_place : (w a : ℕ) (d : WordDef) (p : WordPut w d) → RunsPhrase (Some d.sort) → HasCode P M w a → p.place ≡ a
  one_place w a d p runs h =
      let same : word_row C p.place w p.closed ≡ h.row = let one = p.row in let two = h.there in cc in
      let does : action.Code p.place ≡ action.Code a = sym (word_does w d p ∙ does_code C w p.place d.sort runs) ∙ ap (λ (r : WordRow). r.action) same ∙ h.does in
      cc

  -- Methods of the machine and those of the program.
  abbrev place_of : ℕ → ℕ
  place_of = places C

  pub place_by : (w a : ℕ) (r : WordRow) → slice_get M.words w ≡ Some r → r.action ≡ action.Code a → place_of w ≡ a
  place_by w a r e does =
      ap (λ (rs : List WordRow). code_place rs w) (sym is_plain.word_rows_are) ∙ ap (λ (o : Option WordRow). elim o [ Some r ↦ elim r.action [ action.Code a ↦ a | _ ↦ 0 ] | None ↦ 0 ]) e ∙ ap (λ (x : _). elim x [ action.Code a ↦ a | _ ↦ 0 ]) does

  method_code : (m c g : ℕ) (t : Phrase) → sort_of P m ≡ Some (method c g t) → HasCode P M m (place_of m)
  method_code m c g t e =
      let found = word_there P b m (method c g t) e in
      let put = word_put m found.0 found.1 in
      let code = has_code m found.0 put found.1 (method_below P b m c g t e) (subst (λ (s : Sort). RunsPhrase (Some s)) (sym found.2) tt) in
      subst (HasCode P M m) (sym (place_by m put.place code.row code.there code.does)) code

  same_method : (o : Option (ℕ × ℕ)) → ((m : ℕ × ℕ) → o ≡ Some m → HasCode P M m.0 (place_of m.0)) → SameMethod P M (option_map (method_row place_of) o) (word_in o)
  same_method None h = tt
  same_method (Some m) h = h m refl

  -- the first of some methods whose class has a kind
  pub in_set : (c k : ℕ) → set_has (slice_get M.sets c) k ≡ has_kind P.classes c k
  in_set c k = ap (λ (sets : List (List ℕ)). set_has (slice_get sets c) k) (is_plain.sets ∙ sets_same P C closes) ∙ set_same P.classes c k

  for_by : (a q : Bool) (m : ℕ × ℕ) (r : Option MethodRow) (o : Option (ℕ × ℕ)) → a ≡ q → r ≡ option_map (method_row place_of) o → elim a [ true ↦ Some (method_row place_of m) | false ↦ r ] ≡ option_map (method_row place_of) (elim q [ true ↦ Some m | false ↦ o ])
  for_by true q m r o e h = rw (sym e) refl
  for_by false q m r o e h = rw (sym e) h

  for_same : (k : ℕ) (ms : List (ℕ × ℕ)) → method_for M.sets k (map (method_row place_of) ms) ≡ option_map (method_row place_of) (first_with P.classes k ms)
  for_same k [] = refl
  for_same k (m ∷ ms) = for_by (set_has (slice_get M.sets m.1) k) (has_kind P.classes m.1 k) m (method_for M.sets k (map (method_row place_of) ms)) (first_with P.classes k ms) (in_set m.1 k) (for_same k ms)

  first_by : (k : ℕ) (m n : ℕ × ℕ) (ms : List (ℕ × ℕ)) (q : Bool) → (let o : Option (ℕ × ℕ) = elim q [ true ↦ Some n | false ↦ first_with P.classes k ms ] in o ≡ Some m) → (first_with P.classes k ms ≡ Some m → (j : ℕ) × (slice_get ms j ≡ Some m)) → (j : ℕ) × (slice_get (n ∷ ms) j ≡ Some m)
  first_by k m n ms true e more = (0, e)
  first_by k m n ms false e more = let later = more e in (suc later.0, later.1)

  first_in : (k : ℕ) (ms : List (ℕ × ℕ)) (m : ℕ × ℕ) → first_with P.classes k ms ≡ Some m → (j : ℕ) × (slice_get ms j ≡ Some m)
  first_in k [] m e = absurd (cc)
  first_in k (n ∷ ms) m e = first_by k m n ms (has_kind P.classes n.1 k) e (first_in k ms m)

  module _ (laws : MethodLaws P) where
    listed_code : (g j : ℕ) (m : ℕ × ℕ) → slice_get (methods_in_order P g) j ≡ Some m → HasCode P M m.0 (place_of m.0)
    listed_code g j m e = let is = laws.are_methods g j m.0 m.1 e in method_code m.0 m.1 g is.0 is.1

    -- what a generic enters
    pub picked_same : (g k : ℕ) → SameMethod P M (method_for M.sets k (map (method_row place_of) (methods_in_order P g))) (pick P g k)
    picked_same g k =
        let ms = methods_in_order P g in
        let o = first_with P.classes k ms in
        let same = same_method o (λ m e. let at = first_in k ms m e in listed_code g at.0 m at.1) in
        subst (λ (r : Option MethodRow). SameMethod P M r (pick P g k)) (sym (for_same k ms)) (subst (λ (x : Option ℕ). SameMethod P M (option_map (method_row place_of) o) x) (laws.picks_first g k) same)

    after_by : (g j k : ℕ) (m : ℕ × ℕ) (a q : Bool) → a ≡ q → slice_get (methods_in_order P g) j ≡ Some m →
        SameMethod P M (elim a [ true ↦ method_for M.sets k (map (method_row place_of) (drop (suc j) (methods_in_order P g))) | false ↦ None ]) (elim q [ true ↦ word_in (first_with P.classes k (drop (suc j) (methods_in_order P g))) | false ↦ None ])
    after_by g j k m true q e there =
        let rest = drop (suc j) (methods_in_order P g) in
        let o = first_with P.classes k rest in
        let same = same_method o (λ n is. let at = first_in k rest n is in listed_code g (suc j + at.0) n (sym (get_dropped (methods_in_order P g) (suc j) at.0) ∙ at.1)) in
        rw (sym e) (subst (λ (r : Option MethodRow). SameMethod P M r (word_in o)) (sym (for_same k rest)) same)
    after_by g j k m false q e there = rw (sym e) tt

    dropped : (f : ℕ × ℕ → MethodRow) (ms : List (ℕ × ℕ)) (j : ℕ) (m : ℕ × ℕ) → slice_get ms j ≡ Some m → drop j (map f ms) ≡ f m ∷ map f (drop (suc j) ms)
    dropped f [] j m e = absurd (cc)
    dropped f (n ∷ ms) zero m e = let same : n ≡ m = cc in ap (λ (x : ℕ × ℕ). f x ∷ map f ms) same
    dropped f (n ∷ ms) (suc j) m e = dropped f ms j m e

    -- what comes after one of its methods
    pub next_same : (g j m c k : ℕ) → slice_get (methods_in_order P g) j ≡ Some (m, c) → SameMethod P M (method_after M.sets k (drop j (map (method_row place_of) (methods_in_order P g)))) (next P m k)
    next_same g j m c k e =
        let ms = methods_in_order P g in
        let same = after_by g j k (m, c) (set_has (slice_get M.sets c) k) (has_kind P.classes c k) (in_set c k) e in
        subst (λ (rows : List MethodRow). SameMethod P M (method_after M.sets k rows) (next P m k)) (sym (dropped (method_row place_of) ms j (m, c) e))
        (subst (λ (x : Option ℕ). SameMethod P M (method_after M.sets k (method_row place_of (m, c) ∷ map (method_row place_of) (drop (suc j) ms))) x) (sym (laws.next_is_behind g j m c e k)) same)

  pub generic_row : (g : ℕ) (c : WordDef) → slice_get C.program.words g ≡ Some c → c.sort ≡ generic → slice_get M.generics (generic_number C.program g) ≡ Some (record { word = g; methods = map (method_row place_of) (methods_in_order P g) })
  generic_row g c e is =
      ap (λ (rows : List GenericRow). slice_get rows (generic_number C.program g)) is_plain.generics ∙ generic_at C g c e is ∙ ap (λ (ms : List (ℕ × ℕ)). Some (record { word = g; methods = map (method_row place_of) ms })) (order_same P C closes g)
