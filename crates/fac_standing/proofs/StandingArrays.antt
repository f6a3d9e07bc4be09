-- Literal arrays that a longer program has beside those of the first.
use Rattle.std.proofs.Common.{◌≡◌, ◌<◌, ◌≤◌, ℕ, zero, suc, ◌+◌, List, [], ◌∷◌, ◌++◌, length, length-append, Bool, true, Option, Some, None, refl, sym, ap, subst, ◌∙◌, arith}
use Rattle.std.specs.Prelude.{map, drop, slice_get, nat_lt}
use Rattle.std.proofs.lemmas.Bool.Decides.{Decides-ltb}
use Rattle.std.proofs.lemmas.List.{length-map}
use Rattle.fac_lang.specs.LongerPrograms.{IsLonger}
use Rattle.fac_lang.specs.Meaning.{array_method, literal_value, with_arrays}
use Rattle.fac_lang.specs.Phrases.{Value}
use Rattle.fac_lang.specs.World.{Object, array, World}
use Rattle.fac_lang.specs.declared.program.Lit.{Lit}
use Rattle.fac_lang.specs.declared.program.Program.{Program}
use Rattle.fac_lang.proofs.SourcePrograms.{IsSessionProgram, AreArraysOf, may_name, session_of_whole}
use Rattle.fac_locals.specs.Closed.{CloseArrays}
use Rattle.fac_locals.specs.declared.closing.Closed.{Closed}
use Rattle.fac_check.specs.Promises.{Valid}
use Rattle.fac_code.specs.declared.image.Elem.{Elem}
use Rattle.fac_code.specs.declared.image.Image.{Image}
use Rattle.fac_store.specs.MachineValues.{MValue}
use Rattle.fac_machine.specs.Machine.{first_world, with_arrays as made_arrays}
use Rattle.fac_carry.specs.MachineView.{template_phrases, world_view}
use Rattle.fac_carry.specs.WholeValues.{WholeObjects}
use Rattle.fac_emit.specs.ProgramCode.{elems_of}
use Rattle.fac_emit.specs.ProgramTexts.{own_elements_texts, arrays_texts, program_texts}
use Rattle.fac_emit.proofs.MadeArrays.{same_made, all_whole}
use Rattle.fac_emit.proofs.TextLemmas.{AreAmong, both_among, all_arrays_named}
use Rattle.fac_standing.specs.Standing.{IsImageOf, Spares}
use Rattle.fac_standing.specs.Laws.{AreLonger, FirstArraysStand, NewArraysAreTheSame, NewArraysStand, ValidStays, ImageGoesOn, ImagesGoOn}
use Rattle.fac_standing.proofs.StandingViews.{worlds_same, objects_stay, rows_stay, spares_stay, templates_more}

-- Lists behind their first elements.

drop_map : {A B : Type 0} (f : A → B) (n : ℕ) (xs : List A) → drop n (map f xs) ≡ map f (drop n xs)
drop_map f zero xs = refl
drop_map f (suc n) [] = refl
drop_map f (suc n) (x ∷ xs) = drop_map f n xs

drop_front : {A : Type 0} (xs ys : List A) → drop (length xs) (xs ++ ys) ≡ ys
drop_front [] ys = refl
drop_front (x ∷ xs) ys = drop_front xs ys

from_source : (named : ℕ → Bool) (n : ℕ) (lss : List (List Lit)) → AreArraysOf named lss → AreArraysOf named (drop n lss)
from_source named zero lss h = h
from_source named (suc n) [] h = tt
from_source named (suc n) (ls ∷ lss) h = from_source named n lss h.1

closes_behind : (P : Program) (n a m : ℕ) (lss css : List (List Lit)) → m ≡ a + n → CloseArrays P a lss css → CloseArrays P m (drop n lss) (drop n css)
closes_behind P zero a m lss css is h = let same : a ≡ m = omega (arith, is) in subst (λ (k : ℕ). CloseArrays P k lss css) same h
closes_behind P (suc n) a m [] css is h = rw h refl
closes_behind P (suc n) a m (ls ∷ lss) css is h = rw h.3 (closes_behind P n (suc a) m lss h.2 (omega (arith, is)) h.5)

named_behind : (texts : List (List ℕ)) (n : ℕ) (css : List (List Lit)) → AreAmong texts (arrays_texts css) → AreAmong texts (arrays_texts (drop n css))
named_behind texts zero css h = h
named_behind texts (suc n) [] h = h
named_behind texts (suc n) (c ∷ css) h = named_behind texts n css (both_among texts (own_elements_texts c) (arrays_texts css) h).1

closed_many : (P : Program) (a : ℕ) (lss cs : List (List Lit)) → CloseArrays P a lss cs → length cs ≡ length lss
closed_many P a [] cs h = ap length h
closed_many P a (ls ∷ lss) cs h = ap length h.3 ∙ ap suc (closed_many P (suc a) lss h.2 h.5)

-- an image has as many literal arrays as its program
array_count : (P : Program) (M : Image) → IsImageOf P M → length M.arrays ≡ length P.arrays
array_count P M is = ap length is.plain.arrays ∙ length-map is.closed.program.arrays (elems_of is.closed) ∙ closed_many P 0 P.arrays is.closed.program.arrays is.closes.arrays

-- The arrays of an image from a number on.
module _ (Q : Program) (N : Image) (is : IsImageOf Q N) (n : ℕ) where
  b : IsSessionProgram Q
  b = session_of_whole Q is.whole

  abbrev lits : List (List Lit)
  lits = drop n Q.arrays

  abbrev closed_lits : List (List Lit)
  closed_lits = drop n is.closed.program.arrays

  elems : drop n N.arrays ≡ map (elems_of is.closed) closed_lits
  elems = ap (drop n) is.plain.arrays ∙ drop_map (elems_of is.closed) n is.closed.program.arrays

  closes : CloseArrays Q n lits closed_lits
  closes = closes_behind Q n 0 n Q.arrays is.closed.program.arrays (omega arith) is.closes.arrays

  made_same : (w : World MValue) → world_view (template_phrases Q) (made_arrays N (drop n N.arrays) w) ≡ with_arrays Q n lits (world_view (template_phrases Q) w)
  made_same w =
      ap (λ (ess : List (List Elem)). world_view (template_phrases Q) (made_arrays N ess w)) elems
      ∙ same_made Q is.closed is.heights N b is.closes is.plain n lits closed_lits closes (named_behind (program_texts is.closed) n is.closed.program.arrays (all_arrays_named is.closed)) w

  made_whole : (R : Program) → Spares Q R → (w : World MValue) → WholeObjects R N w.objects → WholeObjects R N (made_arrays N (drop n N.arrays) w).objects
  made_whole R spares w h =
      subst (λ (ess : List (List Elem)). WholeObjects R N (made_arrays N ess w).objects) (sym elems)
      (all_whole Q is.closed is.heights N b is.closes is.plain R spares n lits closed_lits (from_source (may_name Q) n Q.arrays b.arrays_from_source) closes w h)

pub first_stand : FirstArraysStand
first_stand P M is input = λ R spares. made_whole P M is 0 R spares (record { objects = []; literals = []; input = input; asked = 0; output = [] }) tt

pub new_same : NewArraysAreTheSame
new_same P Q M N L w h =
    ap (λ (k : ℕ). world_view (template_phrases Q) (made_arrays N (drop k N.arrays) w)) (array_count P M L.of_first) ∙ made_same Q N L.of_second (length P.arrays) w
    ∙ ap (with_arrays Q (length P.arrays) (drop (length P.arrays) Q.arrays)) (worlds_same P Q M N L w h)

pub new_stand : NewArraysStand
new_stand P Q M N L w h = λ R spares. made_whole Q N L.of_second (length M.arrays) R spares w (objects_stay P Q M N L R w.objects (h R (spares_stay P Q M N L R spares)))

pub images_go_on : ImagesGoOn
images_go_on P Q M N L = record {
  templates = rows_stay P Q M N L;
  more_templates = templates_more P Q M N L;
  more_arrays =
      let first = array_count P M L.of_first in
      let second = array_count Q N L.of_second in
      let all = ap length L.longer.arrays_are ∙ length-append P.arrays L.longer.more_arrays in
      omega (arith, first, second, all);
}

-- Addresses.

within : {A : Type 0} (xs : List A) (k : ℕ) (x : A) → slice_get xs k ≡ Some x → k < length xs
within [] k x e = absurd cc
within (y ∷ xs) zero x e = omega arith
within (y ∷ xs) (suc k) x e = let later = within xs k x e in omega (arith, later)

there : {A : Type 0} (xs : List A) (k : ℕ) → k < length xs → (x : A) × (slice_get xs k ≡ Some x)
there [] k lt = absurd (omega (arith, lt))
there (x ∷ xs) zero lt = (x, refl)
there (x ∷ xs) (suc k) lt = there xs k (omega (arith, lt))

-- a list that has all numbers below this one is as long
long_enough : (n : ℕ) (xs : List ℕ) → ((a : ℕ) → nat_lt a n ≡ true → (k : ℕ) × (slice_get xs a ≡ Some k)) → n ≤ length xs
long_enough zero xs h = omega arith
long_enough (suc n) xs h = let last = h n ((Decides-ltb n (suc n)).1 (omega arith)) in let lt = within xs n last.0 last.1 in omega (arith, lt)

addresses_there : (Q : Program) (k : ℕ) (lss : List (List Lit)) (w : World Value) (a : ℕ) → a < length w.literals + length lss → (x : ℕ) × (slice_get (with_arrays Q k lss w).literals a ≡ Some x)
addresses_there Q k [] w a lt = there w.literals a (let low : a < length w.literals + 0 = lt in omega (arith, low))
addresses_there Q k (ls ∷ lss) w a lt =
    let longer = length-append w.literals (length w.objects ∷ []) in
    let one : length (length w.objects ∷ []) ≡ 1 = refl in
    let more : length (ls ∷ lss) ≡ suc (length lss) = refl in
    addresses_there Q (suc k) lss (record w { objects = w.objects ++ array (map (literal_value Q w.literals (array_method Q (length Q.arrays) k)) ls) ∷ []; literals = w.literals ++ length w.objects ∷ [] }) a (omega (arith, lt, longer, one, more))

pub valid_stays : ValidStays
valid_stays P Q F w h =
    λ a lt.
    let enough = long_enough (length P.arrays) w.literals h in
    let low = (Decides-ltb a (length Q.arrays)).0 lt in
    let all = ap length F.arrays_are ∙ length-append P.arrays F.more_arrays in
    let behind = ap length (ap (drop (length P.arrays)) F.arrays_are ∙ drop_front P.arrays F.more_arrays) in
    addresses_there Q (length P.arrays) (drop (length P.arrays) Q.arrays) w a (omega (arith, enough, low, all, behind))
