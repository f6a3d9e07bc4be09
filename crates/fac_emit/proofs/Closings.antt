-- What a closed program has of its program.
use Rattle.std.proofs.Common.{◌≡◌, ℕ, zero, suc, ◌+◌, List, [], ◌∷◌, ◌++◌, length, drop, true, Some, ap, arith}
use Rattle.std.specs.Prelude.{ℤ, slice_get}
use Rattle.fac_base.specs.declared.height.Height.{Height}
use Rattle.fac_base.specs.declared.place.Place.{Place}
use Rattle.fac_lang.specs.declared.program.Program.{Program}
use Rattle.fac_lang.specs.declared.program.WordDef.{WordDef}
use Rattle.fac_lang.specs.declared.program.Sort.{Sort}
use Rattle.fac_lang.specs.declared.program.Sort.TheVariants.{Prim as prim, Core as core, Body as body, Past as past, Itself as itself, Class as class, Isa as isa, Getter as getter, Setter as setter, Putter as putter, Generic as generic, Method as method}
use Rattle.fac_lang.specs.Phrases.{int, yes, no, str, wrd, Literal, Phrase, end, then, Item, lit, lit_arr, quot, word, bind, local, fry, hole, call_effect, execute_effect, next_method, made, next_after}
use Rattle.fac_lang.specs.Meaning.{sort_of}
use Rattle.fac_lang.proofs.SourcePrograms.{may_name}
use Rattle.fac_locals.specs.declared.cell.Cell.{Cell}
use Rattle.fac_locals.specs.declared.cell.Cell.TheVariants.{Local, Hole}
use Rattle.fac_locals.specs.Cells.{cell_number}
use Rattle.fac_locals.specs.Literals.{behind}
use Rattle.fac_locals.specs.Closed.{IsMadeBy, ClosesPhrase, ClosesSort, CloseWords}
use Rattle.fac_locals.proofs.RunningPhrases.{IsMethod, IsRun, IsRunItem}

-- lists behind a part of them
behind_none : {A : Type 0} (xs ys : List A) → [] ≡ xs ++ ys → [] ≡ ys
behind_none [] ys e = e
behind_none (x ∷ xs) ys e = absurd (cc)

behind_part : {A : Type 0} (xs ys zs : List A) → zs ≡ xs ++ ys → drop (length xs) zs ≡ ys
behind_part [] ys zs e = e
behind_part (x ∷ xs) ys [] e = absurd (cc)
behind_part (x ∷ xs) ys (z ∷ zs) e = let tail : zs ≡ xs ++ ys = cc in behind_part xs ys zs tail

pub drop_behind : {A : Type 0} (list : List A) (at : ℕ) (xs ys : List A) → drop at list ≡ xs ++ ys → drop (at + length xs) list ≡ ys
drop_behind list zero xs ys e = let none : 0 + length xs ≡ length xs = omega arith in rw none (behind_part xs ys list e)
drop_behind [] (suc at) xs ys e = let more : suc at + length xs ≡ suc (at + length xs) = omega arith in rw more (behind_none xs ys e)
drop_behind (c ∷ list) (suc at) xs ys e = let more : suc at + length xs ≡ suc (at + length xs) = omega arith in rw more (drop_behind list at xs ys e)

pub get_at : {A : Type 0} (list : List A) (at : ℕ) (x : A) (xs : List A) → drop at list ≡ x ∷ xs → slice_get list at ≡ Some x
get_at [] zero x xs e = absurd (cc)
get_at [] (suc at) x xs e = absurd (cc)
get_at (y ∷ list) zero x xs e = let same : y ≡ x = cc in ap Some same
get_at (y ∷ list) (suc at) x xs e = get_at list at x xs e

module _ (P : Program) where
  -- a phrase as it runs, whose first item stands here under these cells, and its closed one, item by item
  pub data Closing : List Cell → Literal → Phrase → Phrase → Type 0 where
    c_end : {cells : List Cell} {at : Literal} → Closing cells at end end
    c_int : {cells : List Cell} {at : Literal} {p : Place} {t c : Phrase} (z : ℤ) → Closing cells (behind at (lit (int z))) t c → Closing cells at (then (lit (int z)) p t) (then (lit (int z)) p c)
    c_true : {cells : List Cell} {at : Literal} {p : Place} {t c : Phrase} → Closing cells (behind at (lit yes)) t c → Closing cells at (then (lit yes) p t) (then (lit yes) p c)
    c_false : {cells : List Cell} {at : Literal} {p : Place} {t c : Phrase} → Closing cells (behind at (lit no)) t c → Closing cells at (then (lit no) p t) (then (lit no) p c)
    c_text : {cells : List Cell} {at : Literal} {p : Place} {t c : Phrase} (cs : List ℕ) → Closing cells (behind at (lit (str cs))) t c → Closing cells at (then (lit (str cs)) p t) (then (lit (str cs)) p c)
    c_array : {cells : List Cell} {at : Literal} {p : Place} {t c : Phrase} (a : ℕ) → Closing cells (behind at (lit_arr a)) t c → Closing cells at (then (lit_arr a) p t) (then (lit_arr a) p c)
    c_ref : {cells : List Cell} {at : Literal} {p : Place} {t c : Phrase} (w : ℕ) → may_name P w ≡ true → Closing cells (behind at (lit (wrd w))) t c → Closing cells at (then (lit (wrd w)) p t) (then (lit (wrd w)) p c)
    c_word : {cells : List Cell} {at : Literal} {p : Place} {t c : Phrase} (w : ℕ) → may_name P w ≡ true → Closing cells (behind at (word w)) t c → Closing cells at (then (word w) p t) (then (word w) p c)
    c_quot : {cells : List Cell} {at : Literal} {p : Place} {t c : Phrase} (u : Phrase) (k : ℕ) → IsMadeBy P cells at (quot u) k → Closing cells (behind at (quot u)) t c → Closing cells at (then (quot u) p t) (then (made k) p c)
    c_fry : {cells : List Cell} {at : Literal} {p : Place} {t c : Phrase} (u : Phrase) (n k : ℕ) → IsMadeBy P cells at (fry u n) k → Closing cells (behind at (fry u n)) t c → Closing cells at (then (fry u n) p t) (then (made k) p c)
    c_bind : {cells : List Cell} {at : Literal} {p : Place} {t c : Phrase} (x : ℕ) → Closing (cells ++ Local x ∷ []) (behind at (bind x)) t c → Closing cells at (then (bind x) p t) (then (bind (length cells)) p c)
    c_local : {cells : List Cell} {at : Literal} {p : Place} {t c : Phrase} (x k : ℕ) → cell_number cells (Local x) ≡ Some k → Closing cells (behind at (local x)) t c → Closing cells at (then (local x) p t) (then (local k) p c)
    c_hole : {cells : List Cell} {at : Literal} {p : Place} {t c : Phrase} (h k : ℕ) → cell_number cells (Hole h) ≡ Some k → Closing cells (behind at (hole h)) t c → Closing cells at (then (hole h) p t) (then (local k) p c)
    c_call_effect : {cells : List Cell} {at : Literal} {p : Place} {t c : Phrase} (k : Height) → Closing cells (behind at (call_effect k)) t c → Closing cells at (then (call_effect k) p t) (then (call_effect k) p c)
    c_execute_effect : {cells : List Cell} {at : Literal} {p : Place} {t c : Phrase} (k : Height) → Closing cells (behind at (execute_effect k)) t c → Closing cells at (then (execute_effect k) p t) (then (execute_effect k) p c)
    c_outside : {cells : List Cell} {at : Literal} {p : Place} {t c : Phrase} → Closing cells (behind at next_method) t c → Closing cells at (then next_method p t) (then next_method p c)
    c_next : {cells : List Cell} {at : Literal} {p : Place} {t c : Phrase} (m : ℕ) → IsMethod (sort_of P m) → Closing cells (behind at (next_after m)) t c → Closing cells at (then (next_after m) p t) (then (next_after m) p c)

  pub closing : (cells : List Cell) (at : Literal) (t c : Phrase) → ClosesPhrase P cells at t c → IsRun P t → Closing cells at t c
  closing cells at end c h r = rw h c_end
  closing cells at (then (lit (int z)) p t) c h r = rw (h.2, h.3) (c_int z (closing cells (behind at (lit (int z))) t h.1 h.4 r.1))
  closing cells at (then (lit yes) p t) c h r = rw (h.2, h.3) (c_true (closing cells (behind at (lit yes)) t h.1 h.4 r.1))
  closing cells at (then (lit no) p t) c h r = rw (h.2, h.3) (c_false (closing cells (behind at (lit no)) t h.1 h.4 r.1))
  closing cells at (then (lit (str cs)) p t) c h r = rw (h.2, h.3) (c_text cs (closing cells (behind at (lit (str cs))) t h.1 h.4 r.1))
  closing cells at (then (lit_arr a) p t) c h r = rw (h.2, h.3) (c_array a (closing cells (behind at (lit_arr a)) t h.1 h.4 r.1))
  closing cells at (then (lit (wrd w)) p t) c h r = rw (h.2, h.3) (c_ref w r.0 (closing cells (behind at (lit (wrd w))) t h.1 h.4 r.1))
  closing cells at (then (word w) p t) c h r = rw (h.2, h.3) (c_word w r.0 (closing cells (behind at (word w)) t h.1 h.4 r.1))
  closing cells at (then (quot u) p t) c h r = rw (h.2, h.3.1) (c_quot u h.3.0 h.3.2 (closing cells (behind at (quot u)) t h.1 h.4 r.1))
  closing cells at (then (fry u n) p t) c h r = rw (h.2, h.3.1) (c_fry u n h.3.0 h.3.2 (closing cells (behind at (fry u n)) t h.1 h.4 r.1))
  closing cells at (then (bind x) p t) c h r = rw (h.2, h.3) (c_bind x (closing (cells ++ Local x ∷ []) (behind at (bind x)) t h.1 h.4 r.1))
  closing cells at (then (local x) p t) c h r = rw (h.2, h.3.1) (c_local x h.3.0 h.3.2 (closing cells (behind at (local x)) t h.1 h.4 r.1))
  closing cells at (then (hole k) p t) c h r = rw (h.2, h.3.1) (c_hole k h.3.0 h.3.2 (closing cells (behind at (hole k)) t h.1 h.4 r.1))
  closing cells at (then (call_effect k) p t) c h r = rw (h.2, h.3) (c_call_effect k (closing cells (behind at (call_effect k)) t h.1 h.4 r.1))
  closing cells at (then (execute_effect k) p t) c h r = rw (h.2, h.3) (c_execute_effect k (closing cells (behind at (execute_effect k)) t h.1 h.4 r.1))
  closing cells at (then next_method p t) c h r = rw (h.2, h.3) (c_outside (closing cells (behind at next_method) t h.1 h.4 r.1))
  closing cells at (then (next_after m) p t) c h r = rw (h.2, h.3) (c_next m r.0 (closing cells (behind at (next_after m)) t h.1 h.4 r.1))
  closing cells at (then (made k) p t) c h r = absurd h.3
  closing cells at (then _ p t) c h r = absurd r.0

  -- A closed phrase has the items of one as it runs, and templates in place of its quotations and fries.
  abbrev pub IsClosedItem : Item → Type 0
  IsClosedItem (made k) = Unit {0}
  IsClosedItem i = IsRunItem P i

  abbrev pub AreClosedItems : Phrase → Type 0
  AreClosedItems end = Unit {0}
  AreClosedItems (then i p t) = IsClosedItem i × AreClosedItems t

  pub closed_runs : (cells : List Cell) (at : Literal) (t c : Phrase) → Closing cells at t c → AreClosedItems c
  closed_runs cells at t c c_end = tt
  closed_runs cells at t c (c_int z h) = (tt, closed_runs _ _ _ _ h)
  closed_runs cells at t c (c_true h) = (tt, closed_runs _ _ _ _ h)
  closed_runs cells at t c (c_false h) = (tt, closed_runs _ _ _ _ h)
  closed_runs cells at t c (c_text cs h) = (tt, closed_runs _ _ _ _ h)
  closed_runs cells at t c (c_array a h) = (tt, closed_runs _ _ _ _ h)
  closed_runs cells at t c (c_ref w is h) = (is, closed_runs _ _ _ _ h)
  closed_runs cells at t c (c_word w is h) = (is, closed_runs _ _ _ _ h)
  closed_runs cells at t c (c_quot u k is h) = (tt, closed_runs _ _ _ _ h)
  closed_runs cells at t c (c_fry u n k is h) = (tt, closed_runs _ _ _ _ h)
  closed_runs cells at t c (c_bind x h) = (tt, closed_runs _ _ _ _ h)
  closed_runs cells at t c (c_local x k is h) = (tt, closed_runs _ _ _ _ h)
  closed_runs cells at t c (c_hole j k is h) = (tt, closed_runs _ _ _ _ h)
  closed_runs cells at t c (c_call_effect k h) = (tt, closed_runs _ _ _ _ h)
  closed_runs cells at t c (c_execute_effect k h) = (tt, closed_runs _ _ _ _ h)
  closed_runs cells at t c (c_outside h) = (tt, closed_runs _ _ _ _ h)
  closed_runs cells at t c (c_next m is h) = (is, closed_runs _ _ _ _ h)

-- What a sort is but for its phrase.
pub data Alike : Sort → Sort → Type 0 where
  a_same : (s : Sort) → Alike s s
  a_body : (t u : Phrase) → Alike (body t) (body u)
  a_past : (t u : Phrase) → Alike (past t) (past u)
  a_method : (c g : ℕ) (t u : Phrase) → Alike (method c g t) (method c g u)

-- two words of one name, which are the same but for their phrases
pub record AlikeWord (d c : WordDef) : Type 0 where
  pub name : c.name ≡ d.name
  pub sort : Alike d.sort c.sort

abbrev pub AlikeWords : List WordDef → List WordDef → Type 0
AlikeWords [] cs = cs ≡ []
AlikeWords (d ∷ ds) cs = (c : WordDef) × (r : List WordDef) × (cs ≡ c ∷ r) × AlikeWord d c × AlikeWords ds r

module _ (P : Program) where
  pub alike : (w : ℕ) (s c : Sort) → ClosesSort P w s c → Alike s c
  alike w (body t) c h = rw h.1 (a_body t h.0)
  alike w (past t) c h = rw h.1 (a_past t h.0)
  alike w (method n g t) c h = rw h.1 (a_method n g t h.0)
  alike w (prim k) c h = rw h (a_same (prim k))
  alike w (core k) c h = rw h (a_same (core k))
  alike w itself c h = rw h (a_same itself)
  alike w (class k) c h = rw h (a_same (class k))
  alike w (isa k) c h = rw h (a_same (isa k))
  alike w (getter s) c h = rw h (a_same (getter s))
  alike w (setter s) c h = rw h (a_same (setter s))
  alike w (putter s) c h = rw h (a_same (putter s))
  alike w generic c h = rw h (a_same generic)

  pub alike_words : (w : ℕ) (ds cs : List WordDef) → CloseWords P w ds cs → AlikeWords ds cs
  alike_words w [] cs h = h
  alike_words w (d ∷ ds) cs h = (h.0, h.1, h.2, record { name = h.3.name; sort = alike w d.sort h.0.sort h.3.sort }, alike_words (suc w) ds h.1 h.4)
