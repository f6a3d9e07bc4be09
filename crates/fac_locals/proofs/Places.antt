-- Each literal of a program has a place of its own: in reading order places grow.
use Rattle.std.proofs.Common.{◌≡◌, ◌<◌, ◌≤◌, ◌⊎◌, inl, inr, ℕ, zero, suc, ◌+◌, List, [], ◌∷◌, ◌++◌, length, Option, Some, None, refl, sym, ap, ◌∙◌, subst, arith}
use Rattle.std.proofs.lemmas.Bool.{cases_lt}
use Rattle.std.specs.Prelude.{slice_get}
use Rattle.fac_lang.specs.Phrases.{Literal, Phrase, end, then, Item, lit, lit_arr, quot, word, bind, local, fry, hole, call_effect, execute_effect, next_method, made, next_after, held, known}
use Rattle.fac_lang.specs.Substitution.{of_method}
use Rattle.fac_lang.specs.Meaning.{nowhere}
use Rattle.fac_lang.specs.declared.program.Program.{Program}
use Rattle.fac_lang.specs.declared.program.WordDef.{WordDef}
use Rattle.fac_lang.specs.declared.program.Sort.{Sort}
use Rattle.fac_lang.specs.declared.program.Sort.TheVariants.{Prim as prim, Core as core, Body as body, Past as past, Itself as itself, Class as class, Isa as isa, Getter as getter, Setter as setter, Putter as putter, Generic as generic, Method as method}
use Rattle.fac_locals.specs.declared.cell.Cell.{Cell}
use Rattle.fac_locals.specs.Cells.{cells_behind, inner_cells}
use Rattle.fac_locals.specs.Literals.{NotBehind, NotBefore, Quoted, path, items_in, items_inside, first_of_word, first_of_literal, first_in_array, behind, array_phrase, array_literals, literals_in, literals_at, sort_literals, word_literals, literals, literal_or, literal_numbered}

-- places of literals grow from one place on, and all stand before another
abbrev pub Between : Literal → Literal → List Quoted → Type 0
Between a b [] = NotBefore a b
Between a b (l ∷ ls) = NotBefore a l.at × Between (first_of_literal l.at) b ls

-- Paths are ordered by their first numbers that differ, and what leads on comes later.
not_behind : (is js ks : List ℕ) → NotBehind is js → NotBehind js ks → NotBehind is ks
not_behind [] js ks p q = tt
not_behind (i ∷ is) [] ks p q = absurd p
not_behind (i ∷ is) (j ∷ js) [] p q = absurd q
not_behind (i ∷ is) (j ∷ js) (k ∷ ks) (inl p) (inl q) = inl (omega (arith, p, q))
not_behind (i ∷ is) (j ∷ js) (k ∷ ks) (inl p) (inr q) = inl (omega (arith, p, q.0))
not_behind (i ∷ is) (j ∷ js) (k ∷ ks) (inr p) (inl q) = inl (omega (arith, p.0, q))
not_behind (i ∷ is) (j ∷ js) (k ∷ ks) (inr p) (inr q) = inr (p.0 ∙ q.0, not_behind is js ks p.1 q.1)

leads_on : (is js : List ℕ) → NotBehind is (is ++ js)
leads_on [] js = tt
leads_on (i ∷ is) js = inr (refl, leads_on is js)

same_front : (xs is js : List ℕ) → NotBehind is js → NotBehind (xs ++ is) (xs ++ js)
same_front [] is js h = h
same_front (x ∷ xs) is js h = inr (refl, same_front xs is js h)

one_number : (i j : ℕ) → i ≤ j → (i < j) ⊎ (j ≤ i) → NotBehind (i ∷ []) (j ∷ [])
one_number i j le (inl lt) = inl lt
one_number i j le (inr ge) = inr (omega (arith, le, ge), tt)

no_return : (xs : List ℕ) (i : ℕ) → NotBehind (xs ++ suc i ∷ []) (xs ++ i ∷ []) → ⊥
no_return [] i (inl p) = omega (arith, p)
no_return [] i (inr p) = omega (arith, p.0)
no_return (x ∷ xs) i (inl p) = omega (arith, p)
no_return (x ∷ xs) i (inr p) = no_return xs i p.1

not_at_start : (xs : List ℕ) (i : ℕ) → NotBehind (xs ++ suc i ∷ []) (0 ∷ []) → ⊥
not_at_start [] i (inl p) = omega (arith, p)
not_at_start [] i (inr p) = omega (arith, p.0)
not_at_start (x ∷ xs) i (inl p) = omega (arith, p)
not_at_start (x ∷ []) i (inr p) = p.1
not_at_start (x ∷ y ∷ xs) i (inr p) = p.1

behind_inside : (xs ys : List ℕ) (i j : ℕ) → i < j → NotBehind ((xs ++ i ∷ []) ++ ys) (xs ++ j ∷ [])
behind_inside [] ys i j lt = inl lt
behind_inside (x ∷ xs) ys i j lt = inr (refl, behind_inside xs ys i j lt)

-- the order of places is transitive
pub not_before : (a b c : Literal) → NotBefore a b → NotBefore b c → NotBefore a c
not_before a b c (inl p) (inl q) = inl (omega (arith, p, q))
not_before a b c (inl p) (inr q) = inl (omega (arith, p, q.0))
not_before a b c (inr p) (inl q) = inl (omega (arith, p.0, q))
not_before a b c (inr p) (inr q) = inr (p.0 ∙ q.0, not_behind (path a) (path b) (path c) p.1 q.1)

later : (a b c : Literal) (ls : List Quoted) → NotBefore a b → Between b c ls → Between a c ls
later a b c [] p h = not_before a b c p h
later a b c (l ∷ ls) p h = (not_before a b l.at p h.0, h.1)

join : (a b c : Literal) (ls ms : List Quoted) → Between a b ls → Between b c ms → Between a c (ls ++ ms)
join a b c [] ms h k = later a b c ms h k
join a b c (l ∷ ls) ms h k = (h.0, join (first_of_literal l.at) b c ls ms h.1 k)

-- the place that is so many items behind another
abbrev moved : Literal → ℕ → Literal
moved at n = record { word = at.word; around = at.around; index = n }

-- the place behind a phrase whose first item stands here
abbrev behind_phrase : Literal → Phrase → Literal
behind_phrase at t = moved at (at.index + items_in t)

on : (at : Literal) (i j : ℕ) → i ≤ j → NotBefore (moved at i) (moved at j)
on at i j le = inr (refl, same_front at.around (i ∷ []) (j ∷ []) (one_number i j le (cases_lt i j)))

upto : (a b c : Literal) (ls : List Quoted) → Between a b ls → NotBefore b c → Between a c ls
upto a b c [] h p = not_before a b c h p
upto a b c (l ∷ ls) h p = (h.0, upto (first_of_literal l.at) b c ls h.1 p)

-- a place is at or behind itself, and the next item's behind it
pub same_place : (a b : Literal) → a ≡ b → NotBefore a b
same_place a b e = subst (λ (x : Literal). NotBefore a x) e (on a a.index a.index (omega arith))

pub none_at : (at : Literal) (i : Item) → NotBefore at (behind at i)
none_at at i = on at at.index (suc (at.index + items_inside i)) (omega arith)

into_literal : (at : Literal) → NotBefore at (first_of_literal at)
into_literal at = on at at.index (suc at.index) (omega arith)

-- places behind a literal array, and in it
into_array : (at : Literal) → NotBefore at (first_in_array at)
into_array at = inr (refl, leads_on (path at) (0 ∷ []))

out_of_array : (at : Literal) (n : ℕ) (i : Item) → NotBefore (moved (first_in_array at) n) (behind at i)
out_of_array at n i = inr (refl, behind_inside at.around (n ∷ []) at.index (suc (at.index + items_inside i)) (omega arith))

module _ (arrays : ℕ → Literal → List Quoted) (array_between : (a : ℕ) (at : Literal) → Between at (behind at (lit_arr a)) (arrays a at)) where
  mutual
    phrase_between : (cells : List Cell) (at : Literal) (t : Phrase) → Between at (behind_phrase at t) (literals_in arrays cells at t)
    phrase_between cells at end = on at at.index (at.index + 0) (omega arith)
    phrase_between cells at (then i p t) =
        let next = cells_behind cells i in
        upto at (behind_phrase (behind at i) t) (behind_phrase at (then i p t)) (literals_at arrays cells at i ++ literals_in arrays next (behind at i) t) (join at (behind at i) (behind_phrase (behind at i) t) (literals_at arrays cells at i) (literals_in arrays next (behind at i) t) (item_between cells at i) (phrase_between next (behind at i) t)) (on at (suc (at.index + items_inside i) + items_in t) (at.index + suc (items_inside i + items_in t)) (omega arith))

    item_between : (cells : List Cell) (at : Literal) (i : Item) → Between at (behind at i) (literals_at arrays cells at i)
    item_between cells at (quot t) =
        let inner = inner_cells cells (quot t) in
        (on at at.index at.index (omega arith), upto (first_of_literal at) (behind_phrase (first_of_literal at) t) (behind at (quot t)) (literals_in arrays inner (first_of_literal at) t) (phrase_between inner (first_of_literal at) t) (on at (suc at.index + items_in t) (suc (at.index + items_in t)) (omega arith)))
    item_between cells at (fry t n) =
        let inner = inner_cells cells (fry t n) in
        (on at at.index at.index (omega arith), upto (first_of_literal at) (behind_phrase (first_of_literal at) t) (behind at (fry t n)) (literals_in arrays inner (first_of_literal at) t) (phrase_between inner (first_of_literal at) t) (on at (suc at.index + items_in t) (suc (at.index + items_in t)) (omega arith)))
    item_between cells at (lit_arr a) = array_between a at
    item_between cells at (lit q) = none_at at (lit q)
    item_between cells at (word w) = none_at at (word w)
    item_between cells at (bind x) = none_at at (bind x)
    item_between cells at (local x) = none_at at (local x)
    item_between cells at (hole k) = none_at at (hole k)
    item_between cells at (call_effect f) = none_at at (call_effect f)
    item_between cells at (execute_effect f) = none_at at (execute_effect f)
    item_between cells at next_method = none_at at next_method
    item_between cells at (made k) = none_at at (made k)
    item_between cells at (next_after m) = none_at at (next_after m)
    item_between cells at (held v) = none_at at (held v)
    item_between cells at (known m) = none_at at (known m)

array_between : (P : Program) (n a : ℕ) (at : Literal) → Between at (behind at (lit_arr a)) (array_literals P n a at)
array_between P zero a at = none_at at (lit_arr a)
array_between P (suc n) a at =
    let t = array_phrase P a nowhere in
    let inner = first_in_array at in
    let ls = literals_in (array_literals P n) [] inner t in
    upto at (behind_phrase inner t) (behind at (lit_arr a)) ls (later at inner (behind_phrase inner t) ls (into_array at) (phrase_between (array_literals P n) (array_between P n) [] inner t)) (out_of_array at (0 + items_in t) (lit_arr a))

abbrev arrays_of : Program → ℕ → Literal → List Quoted
arrays_of P = array_literals P (length P.arrays)

next_word : (P : Program) (w : ℕ) (t : Phrase) → Between (first_of_word w) (first_of_word (suc w)) (literals_in (arrays_of P) [] (first_of_word w) t)
next_word P w t = upto (first_of_word w) (behind_phrase (first_of_word w) t) (first_of_word (suc w)) (literals_in (arrays_of P) [] (first_of_word w) t) (phrase_between (arrays_of P) (array_between P (length P.arrays)) [] (first_of_word w) t) (inl (omega arith))

no_phrase : (w : ℕ) → NotBefore (first_of_word w) (first_of_word (suc w))
no_phrase w = inl (omega arith)

sort_between : (P : Program) (w : ℕ) (s : Sort) → Between (first_of_word w) (first_of_word (suc w)) (sort_literals P w s)
sort_between P w (body t) = next_word P w t
sort_between P w (past t) = next_word P w t
sort_between P w (method c g t) = next_word P w (of_method w t)
sort_between P w (prim k) = no_phrase w
sort_between P w (core k) = no_phrase w
sort_between P w itself = no_phrase w
sort_between P w (class k) = no_phrase w
sort_between P w (isa k) = no_phrase w
sort_between P w (getter x) = no_phrase w
sort_between P w (setter x) = no_phrase w
sort_between P w (putter x) = no_phrase w
sort_between P w generic = no_phrase w

words_end : (w v : ℕ) → w ≡ v → NotBefore (first_of_word w) (first_of_word v)
words_end w v e = inr (e, inr (refl, tt))

words_between : (P : Program) (w v : ℕ) (ds : List WordDef) → w + length ds ≡ v → Between (first_of_word w) (first_of_word v) (word_literals P w ds)
words_between P w v [] e = words_end w v (omega (arith, e))
words_between P w v (d ∷ ds) e = join (first_of_word w) (first_of_word (suc w)) (first_of_word v) (sort_literals P w d.sort) (word_literals P (suc w) ds) (sort_between P w d.sort) (words_between P (suc w) v ds (omega (arith, e)))

program_between : (P : Program) → Between (first_of_word 0) (first_of_word (length P.words)) (literals P)
program_between P = words_between P 0 (length P.words) P.words (omega arith)

-- a literal among these stands before their end and not before their beginning
not_earlier : (a b : Literal) (ls : List Quoted) (k : ℕ) (l : Quoted) → Between a b ls → slice_get ls k ≡ Some l → NotBefore a l.at
not_earlier a b [] k l h e = absurd cc
not_earlier a b (m ∷ ls) zero l h e = let same : m ≡ l = cc in rw (← same) h.0
not_earlier a b (m ∷ ls) (suc k) l h e = not_before a (first_of_literal m.at) l.at (not_before a m.at (first_of_literal m.at) h.0 (into_literal m.at)) (not_earlier (first_of_literal m.at) b ls k l h.1 e)

ends_before : (a b : Literal) (ls : List Quoted) → Between a b ls → NotBefore a b
ends_before a b [] h = h
ends_before a b (m ∷ ls) h = not_before a m.at b h.0 (not_before m.at (first_of_literal m.at) b (into_literal m.at) (ends_before (first_of_literal m.at) b ls h.1))

earlier : (a b : Literal) (ls : List Quoted) (k : ℕ) (l : Quoted) → Between a b ls → slice_get ls k ≡ Some l → NotBefore (first_of_literal l.at) b
earlier a b [] k l h e = absurd cc
earlier a b (m ∷ ls) zero l h e = let same : m ≡ l = cc in rw (← same) (ends_before (first_of_literal m.at) b ls h.1)
earlier a b (m ∷ ls) (suc k) l h e = earlier (first_of_literal m.at) b ls k l h.1 e

never_behind : (a : Literal) → NotBefore (first_of_literal a) a → ⊥
never_behind a (inl p) = omega (arith, p)
never_behind a (inr p) = no_return a.around a.index p.1

not_behind_itself : (a b : Literal) → NotBefore (first_of_literal a) b → a ≡ b → ⊥
not_behind_itself a b p e = never_behind a (subst (λ (c : Literal). NotBefore (first_of_literal a) c) (sym e) p)

apart : (a b : Literal) (ls : List Quoted) (j k : ℕ) (l m : Quoted) → Between a b ls → slice_get ls j ≡ Some l → slice_get ls k ≡ Some m → l.at ≡ m.at → j ≡ k
apart a b [] j k l m h p q e = absurd cc
apart a b (x ∷ ls) zero zero l m h p q e = refl
apart a b (x ∷ ls) zero (suc k) l m h p q e =
    let same : x ≡ l = cc in
    absurd (not_behind_itself x.at m.at (not_earlier (first_of_literal x.at) b ls k m h.1 q) (ap (λ (y : Quoted). y.at) same ∙ e))
apart a b (x ∷ ls) (suc j) zero l m h p q e =
    let same : x ≡ m = cc in
    absurd (not_behind_itself x.at l.at (not_earlier (first_of_literal x.at) b ls j l h.1 p) (ap (λ (y : Quoted). y.at) same ∙ sym e))
apart a b (x ∷ ls) (suc j) (suc k) l m h p q e = ap suc (apart (first_of_literal x.at) b ls j k l m h.1 p q e)

outside : (n k : ℕ) (l : Literal) → NotBefore (first_of_literal l) (first_of_word n) → l ≡ record { word = n; around = []; index = k } → ⊥
outside n k l (inl p) e = omega (arith, p, ap (λ (l : Literal). l.word) e)
outside n k l (inr p) e = not_at_start l.around l.index p.1

apart_or : (P : Program) (j k : ℕ) (o p : Option Quoted) → slice_get (literals P) j ≡ o → slice_get (literals P) k ≡ p → (literal_or P j o).at ≡ (literal_or P k p).at → j ≡ k
apart_or P j k (Some l) (Some m) o p e = apart (first_of_word 0) (first_of_word (length P.words)) (literals P) j k l m (program_between P) o p e
apart_or P j k (Some l) None o p e = absurd (outside (length P.words) k l.at (earlier (first_of_word 0) (first_of_word (length P.words)) (literals P) j l (program_between P) o) e)
apart_or P j k None (Some m) o p e = absurd (outside (length P.words) j m.at (earlier (first_of_word 0) (first_of_word (length P.words)) (literals P) k m (program_between P) p) (sym e))
apart_or P j k None None o p e = ap (λ (l : Literal). l.index) e

-- no two numbers of templates name the same literal
pub literal_apart : (P : Program) (j k : ℕ) → (literal_numbered P j).at ≡ (literal_numbered P k).at → j ≡ k
literal_apart P j k e = apart_or P j k (slice_get (literals P) j) (slice_get (literals P) k) refl refl e

grows : (a b : Literal) (ls : List Quoted) (j k : ℕ) (l m : Quoted) → Between a b ls → slice_get ls k ≡ Some l → slice_get ls j ≡ Some m → NotBefore (first_of_literal l.at) m.at → k < j
grows a b [] j k l m h p q e = absurd cc
grows a b (x ∷ ls) zero zero l m h p q e =
    let same : m ≡ l = cc in
    absurd (not_behind_itself l.at m.at e (sym (ap (λ (y : Quoted). y.at) same)))
grows a b (x ∷ ls) zero (suc k) l m h p q e =
    let same : x ≡ m = cc in
    let behind_x = not_earlier (first_of_literal x.at) b ls k l h.1 p in
    let behind_l : NotBefore l.at m.at = not_before l.at (first_of_literal l.at) m.at (into_literal l.at) e in
    absurd (not_behind_itself x.at m.at (not_before (first_of_literal x.at) l.at m.at behind_x behind_l) (ap (λ (y : Quoted). y.at) same))
grows a b (x ∷ ls) (suc j) zero l m h p q e = omega arith
grows a b (x ∷ ls) (suc j) (suc k) l m h p q e =
    let more = grows (first_of_literal x.at) b ls j k l m h.1 p q e in
    omega (arith, more)

some_before_none : {A : Type 0} (xs : List A) (j k : ℕ) (x : A) → slice_get xs k ≡ Some x → slice_get xs j ≡ None → k < j
some_before_none [] j k x p q = absurd cc
some_before_none (y ∷ xs) zero k x p q = absurd cc
some_before_none (y ∷ xs) (suc j) zero x p q = omega arith
some_before_none (y ∷ xs) (suc j) (suc k) x p q =
    let more = some_before_none xs j k x p q in
    omega (arith, more)

beyond : (n k : ℕ) (m : Literal) → NotBefore (first_of_literal m) (first_of_word n) → NotBefore (first_of_literal (record { word = n; around = []; index = k })) m → ⊥
beyond n k m (inl p) (inl q) = omega (arith, p, q)
beyond n k m (inl p) (inr q) = omega (arith, p, q.0)
beyond n k m (inr p) q = not_at_start m.around m.index p.1

last_index : (j k : ℕ) → NotBehind (suc k ∷ []) (j ∷ []) → k < j
last_index j k (inl p) = omega (arith, p)
last_index j k (inr p) = omega (arith, p.0)

last_numbers : (n j k : ℕ) → NotBefore (first_of_literal (record { word = n; around = []; index = k })) (record { word = n; around = []; index = j }) → k < j
last_numbers n j k (inl p) = absurd (omega (arith, p))
last_numbers n j k (inr p) = last_index j k p.1

grows_or : (P : Program) (j k : ℕ) (o p : Option Quoted) → slice_get (literals P) k ≡ o → slice_get (literals P) j ≡ p → NotBefore (first_of_literal (literal_or P k o).at) (literal_or P j p).at → k < j
grows_or P j k (Some l) (Some m) o p e = grows (first_of_word 0) (first_of_word (length P.words)) (literals P) j k l m (program_between P) o p e
grows_or P j k (Some l) None o p e = some_before_none (literals P) j k l o p
grows_or P j k None (Some m) o p e = absurd (beyond (length P.words) k m.at (earlier (first_of_word 0) (first_of_word (length P.words)) (literals P) j m (program_between P) p) e)
grows_or P j k None None o p e = last_numbers (length P.words) j k e

-- numbers grow as places do
pub literal_behind : (P : Program) (j k : ℕ) → NotBefore (first_of_literal (literal_numbered P k).at) (literal_numbered P j).at → k < j
literal_behind P j k e = grows_or P j k (slice_get (literals P) k) (slice_get (literals P) j) refl refl e
