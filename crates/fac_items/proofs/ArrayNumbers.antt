-- The numbers of literal arrays: each array has the next number, and is named at one place.
use Rattle.std.proofs.Common.{◌≡◌, ◌≤◌, ◌<◌, ◌+◌, ℕ, zero, suc, List, [], ◌∷◌, ◌++◌, map, length, Option, Some, None, Bool, true, false, refl, ap, sym, ◌∙◌, subst, arith, append_assoc}
use Rattle.std.specs.Prelude.{◌&&◌, nat_eq, nat_lt}
use Rattle.std.specs.List.{list_all}
use Rattle.std.proofs.lemmas.Bool.Decides.{Decides-ltb}
use Rattle.std.proofs.lemmas.List.{length_push}
use Rattle.std.proofs.lemmas.List.Folds.{list_all-append}
use Rattle.fac_lang.specs.Phrases.{int, yes, no, str, Phrase, end, then, local, word}
use Rattle.fac_lang.specs.RunningLaws.{append}
use Rattle.fac_lang.specs.Whole.{arrays_in, arrays_named, arrays_named_by, each_below, each_numbered, joined, names_earlier, times_in}
use Rattle.fac_lang.specs.declared.program.Lit.{Lit}
use Rattle.fac_vocab.specs.Scopes.{Scope}
use Rattle.fac_items.specs.Written.{Tok, n_lit, n_name, n_bind, n_hole, n_fry, n_part, n_quot, n_array, Nodes, nothing, more}
use Rattle.fac_items.specs.Items.{elements_of, local_of, phrase_of, word_of}

-- Sums.

abbrev one_more : Bool → ℕ → ℕ
one_more b k = elim b [ true ↦ suc k | false ↦ k ]

times_cons : (b : Bool) (k : ℕ) → one_more b k ≡ one_more b 0 + k
times_cons true k = omega arith
times_cons false k = omega arith

pub times_first : (a x : ℕ) (xs : List ℕ) → times_in a (x ∷ xs) ≡ times_in a (x ∷ []) + times_in a xs
times_first a x xs = times_cons (nat_eq a x) (times_in a xs)

pub times_both : (a : ℕ) (xs ys : List ℕ) → times_in a (xs ++ ys) ≡ times_in a xs + times_in a ys
times_both a [] ys = omega arith
times_both a (x ∷ xs) ys =
    let front = times_first a x (xs ++ ys) in
    let rest = times_both a xs ys in
    let alone = times_first a x xs in
    omega (arith, front, rest, alone)

-- how often elements of these arrays name an array
abbrev pub held_times : ℕ → List (List Lit) → ℕ
held_times a arrays = times_in a (joined (map arrays_in arrays))

pub held_push : (a : ℕ) (arrays : List (List Lit)) (ls : List Lit) → held_times a (arrays ++ ls ∷ []) ≡ held_times a arrays + times_in a (arrays_in ls)
held_push a [] ls = let both = times_both a (arrays_in ls) [] in omega (arith, both)
held_push a (xs ∷ arrays) ls =
    let rest = held_push a arrays ls in
    let front = times_both a (arrays_in xs) (joined (map arrays_in (arrays ++ ls ∷ []))) in
    let alone = times_both a (arrays_in xs) (joined (map arrays_in arrays)) in
    omega (arith, rest, front, alone)

-- 1 for a number below n, and else 0
abbrev pub below : ℕ → ℕ → ℕ
below zero a = 0
below (suc n) a = times_in a (n ∷ []) + below n a

is_other : (a b : ℕ) → b < a → nat_eq a b ≡ false
is_other a b lt = grind arith

is_same : (a b : ℕ) → a ≡ b → nat_eq a b ≡ true
is_same a b e = grind arith

abbrev one_when : Bool → ℕ
one_when b = elim b [ true ↦ 1 | false ↦ 0 ]

is_once : (a n : ℕ) → nat_eq a n ≡ true → times_in a (n ∷ []) ≡ 1
is_once a n h = ap one_when h

is_never : (a n : ℕ) → nat_eq a n ≡ false → times_in a (n ∷ []) ≡ 0
is_never a n h = ap one_when h

pub not_below : (n a : ℕ) → n ≤ a → below n a ≡ 0
not_below zero a few = refl
not_below (suc n) a few =
    let here = is_never a n (is_other a n (omega (arith, few))) in
    let rest = not_below n a (omega (arith, few)) in
    omega (arith, here, rest)

below_step : (n a : ℕ) (b : Bool) → nat_eq a n ≡ b → a < suc n → (a < n → below n a ≡ 1) → below (suc n) a ≡ 1
below_step n a true e lt rest =
    let here = is_once a n e in
    let none = not_below n a (same_least a n e) in
    omega (arith, here, none)
  where
    same_least : (a n : ℕ) → nat_eq a n ≡ true → n ≤ a
    same_least a n e = grind arith
below_step n a false e lt rest =
    let here = is_never a n e in
    let one = rest (other_less a n e lt) in
    omega (arith, here, one)
  where
    other_less : (a n : ℕ) → nat_eq a n ≡ false → a < suc n → a < n
    other_less a n e lt = grind arith

pub is_below : (n a : ℕ) → a < n → below n a ≡ 1
is_below zero a lt = absurd (omega (arith, lt))
is_below (suc n) a lt = below_step n a (nat_eq a n) refl lt (λ less. is_below n a less)

-- Tests of lists.

both_are : (a b : Bool) → a ≡ true → b ≡ true → (a && b) ≡ true
both_are a b h k = rw (h, k) refl

both_true : (a b : Bool) → (a && b) ≡ true → (a ≡ true) × (b ≡ true)
both_true true b h = (refl, h)
both_true false b h = cc

-- whether all numbers are below n
abbrev pub all_below : ℕ → List ℕ → Bool
all_below n xs = list_all (λ b. nat_lt b n) xs

pub all_below_more : (n m : ℕ) (xs : List ℕ) → n ≤ m → all_below n xs ≡ true → all_below m xs ≡ true
all_below_more n m [] few h = refl
all_below_more n m (x ∷ xs) few h =
    let both = both_true (nat_lt x n) (all_below n xs) h in
    let less = (Decides-ltb x n).0 both.0 in
    both_are (nat_lt x m) (all_below m xs) ((Decides-ltb x m).1 (omega (arith, less, few))) (all_below_more n m xs few both.1)

pub all_below_both : (n : ℕ) (xs ys : List ℕ) → all_below n xs ≡ true → all_below n ys ≡ true → all_below n (xs ++ ys) ≡ true
all_below_both n xs ys h k = list_all-append (λ (b : ℕ). nat_lt b n) xs ys ∙ both_are (all_below n xs) (all_below n ys) h k

numbered_push : (f : ℕ → List Lit → Bool) (k : ℕ) (xss : List (List Lit)) (ls : List Lit) → each_numbered f k xss ≡ true → f (length xss + k) ls ≡ true → each_numbered f k (xss ++ ls ∷ []) ≡ true
numbered_push f k [] ls h last = both_are (f k ls) true (ap (λ (n : ℕ). f n ls) (let e : k ≡ 0 + k = omega arith in e) ∙ last) refl
numbered_push f k (xs ∷ xss) ls h last =
    let both = both_true (f k xs) (each_numbered f (suc k) xss) h in
    both_are (f k xs) (each_numbered f (suc k) (xss ++ ls ∷ [])) both.0 (numbered_push f (suc k) xss ls both.1 (ap (λ (n : ℕ). f n ls) (let e : length xss + suc k ≡ suc (length xss) + k = omega arith in e) ∙ last))

-- What nodes add.

-- from some arrays to more of them, where what stands around names these
pub record Adds (before after : List (List Lit)) (named : List ℕ) : Type 0 where
  pub longer : length before ≤ length after
  pub inside : all_below (length after) named ≡ true
  pub once : (a : ℕ) → times_in a named + held_times a after + below (length before) a ≡ held_times a before + below (length after) a
  pub earlier : each_numbered names_earlier 0 before ≡ true → each_numbered names_earlier 0 after ≡ true

pub adds_none : (arrays : List (List Lit)) → Adds arrays arrays []
adds_none arrays = record { longer = omega arith; inside = refl; once = λ a. omega arith; earlier = λ h. h }

pub adds_then : (A B C : List (List Lit)) (xs ys : List ℕ) → Adds A B xs → Adds B C ys → Adds A C (xs ++ ys)
adds_then A B C xs ys h k =
    let one = h.longer in
    let two = k.longer in
    record {
      longer = omega (arith, one, two);
      inside = all_below_both (length C) xs ys (all_below_more (length B) (length C) xs two h.inside) k.inside;
      once = λ a. (let both = times_both a xs ys in let first = h.once a in let second = k.once a in omega (arith, both, first, second));
      earlier = λ e. k.earlier (h.earlier e);
    }

adds_array : (A B : List (List Lit)) (ls : List Lit) → Adds A B (arrays_in ls) → Adds A (B ++ ls ∷ []) (length B ∷ [])
adds_array A B ls h =
    let pushed = length_push B ls in
    let one = h.longer in
    let longer : length (B ++ ls ∷ []) ≡ suc (length B) = omega (arith, pushed) in
    record {
      longer = omega (arith, one, longer);
      inside = both_are (nat_lt (length B) (length (B ++ ls ∷ []))) true ((Decides-ltb (length B) (length (B ++ ls ∷ []))).1 (omega (arith, longer))) refl;
      once = λ a. (
          let first = h.once a in
          let more_held = held_push a B ls in
          let step : below (length (B ++ ls ∷ [])) a ≡ times_in a (length B ∷ []) + below (length B) a = ap (λ (n : ℕ). below n a) longer in
          omega (arith, first, more_held, step));
      earlier = λ e. numbered_push names_earlier 0 B ls (h.earlier e) (ap (λ (n : ℕ). names_earlier n ls) (let e : length B + 0 ≡ length B = omega arith in e) ∙ h.inside);
    }

-- arrays named in two phrases, one behind the other
named_append : (t u : Phrase) → arrays_named (append t u) ≡ arrays_named t ++ arrays_named u
named_append end u = refl
named_append (then i p t) u = ap (λ (xs : List ℕ). arrays_named_by i ++ xs) (named_append t u) ∙ sym (append_assoc (arrays_named_by i) (arrays_named t) (arrays_named u))

named_both : (t : Phrase) (before after : List (List Lit)) (xs ys : List ℕ) → arrays_named t ≡ xs ++ ys → Adds before after (xs ++ ys) → Adds before after (arrays_named t)
named_both t before after xs ys e h = subst (Adds before after) (sym e) h

-- what a name is, names no array
name_adds : (s : Scope) (t : Tok) (o : Option ℕ) (before after : List (List Lit)) (xs : List ℕ) → Adds before after xs → Adds before after (arrays_named_by (elim o [ Some x ↦ local x | None ↦ word (word_of s t) ]) ++ xs)
name_adds s t (Some x) before after xs h = h
name_adds s t None before after xs h = h

mutual
  pub phrase_adds : (s : Scope) (locals : List (List ℕ)) (ns : Nodes) (arrays : List (List Lit)) (holes : ℕ) → Adds arrays (phrase_of s locals ns arrays holes).arrays (arrays_named (phrase_of s locals ns arrays holes).phrase)
  phrase_adds s locals nothing arrays holes = adds_none arrays
  phrase_adds s locals (more (n_name t p) ns) arrays holes =
      let r = phrase_of s locals ns arrays holes in name_adds s t (local_of locals t.text) arrays r.arrays (arrays_named r.phrase) (phrase_adds s locals ns arrays holes)
  phrase_adds s locals (more (n_bind t twice p) ns) arrays holes = phrase_adds s (t.text ∷ locals) ns arrays holes
  phrase_adds s locals (more (n_hole p) ns) arrays holes = phrase_adds s locals ns arrays (suc holes)
  phrase_adds s locals (more (n_part ms) ns) arrays holes =
      let m = phrase_of s locals ms arrays holes in
      let r = phrase_of s locals ns m.arrays m.holes in
      named_both (append m.phrase r.phrase) arrays r.arrays (arrays_named m.phrase) (arrays_named r.phrase) (named_append m.phrase r.phrase) (adds_then arrays m.arrays r.arrays (arrays_named m.phrase) (arrays_named r.phrase) (phrase_adds s locals ms arrays holes) (phrase_adds s locals ns m.arrays m.holes))
  phrase_adds s locals (more (n_quot ms p) ns) arrays holes =
      let m = phrase_of s locals ms arrays holes in
      let r = phrase_of s locals ns m.arrays m.holes in
      adds_then arrays m.arrays r.arrays (arrays_named m.phrase) (arrays_named r.phrase) (phrase_adds s locals ms arrays holes) (phrase_adds s locals ns m.arrays m.holes)
  phrase_adds s locals (more (n_fry ms p) ns) arrays holes =
      let m = phrase_of s locals ms arrays 0 in
      let r = phrase_of s locals ns m.arrays holes in
      adds_then arrays m.arrays r.arrays (arrays_named m.phrase) (arrays_named r.phrase) (phrase_adds s locals ms arrays 0) (phrase_adds s locals ns m.arrays holes)
  phrase_adds s locals (more (n_array ms p) ns) arrays holes =
      let m = elements_of s ms arrays in
      let r = phrase_of s locals ns (m.arrays ++ m.elements ∷ []) holes in
      adds_then arrays (m.arrays ++ m.elements ∷ []) r.arrays (length m.arrays ∷ []) (arrays_named r.phrase) (adds_array arrays m.arrays m.elements (elements_adds s ms arrays)) (phrase_adds s locals ns (m.arrays ++ m.elements ∷ []) holes)
  phrase_adds s locals (more n ns) arrays holes = phrase_adds s locals ns arrays holes

  pub elements_adds : (s : Scope) (ns : Nodes) (arrays : List (List Lit)) → Adds arrays (elements_of s ns arrays).arrays (arrays_in (elements_of s ns arrays).elements)
  elements_adds s nothing arrays = adds_none arrays
  elements_adds s (more (n_lit (int z) p) ns) arrays = elements_adds s ns arrays
  elements_adds s (more (n_lit yes p) ns) arrays = elements_adds s ns arrays
  elements_adds s (more (n_lit no p) ns) arrays = elements_adds s ns arrays
  elements_adds s (more (n_lit (str bs) p) ns) arrays = elements_adds s ns arrays
  elements_adds s (more (n_lit l p) ns) arrays = elements_adds s ns arrays
  elements_adds s (more (n_quot ms p) ns) arrays =
      let m = phrase_of s [] ms arrays 0 in
      let r = elements_of s ns m.arrays in
      adds_then arrays m.arrays r.arrays (arrays_named m.phrase) (arrays_in r.elements) (phrase_adds s [] ms arrays 0) (elements_adds s ns m.arrays)
  elements_adds s (more (n_array ms p) ns) arrays =
      let m = elements_of s ms arrays in
      let r = elements_of s ns (m.arrays ++ m.elements ∷ []) in
      adds_then arrays (m.arrays ++ m.elements ∷ []) r.arrays (length m.arrays ∷ []) (arrays_in r.elements) (adds_array arrays m.arrays m.elements (elements_adds s ms arrays)) (elements_adds s ns (m.arrays ++ m.elements ∷ []))
  elements_adds s (more n ns) arrays = elements_adds s ns arrays

-- What the count of each number tells.

-- the numbers of a part of a list, in which none is n or above
pub all_named_below : (n : ℕ) (all xs : List ℕ) → ((a : ℕ) → times_in a all ≡ below n a) → ((a : ℕ) → times_in a xs ≤ times_in a all) → all_below n xs ≡ true
all_named_below n all [] h within = refl
all_named_below n all (x ∷ xs) h within =
    both_are (nat_lt x n) (all_below n xs) (there (nat_lt x n) refl) (all_named_below n all xs h (λ a. (let front = times_first a x xs in let few = within a in omega (arith, front, few))))
  where
    there : (b : Bool) → nat_lt x n ≡ b → nat_lt x n ≡ true
    there true e = e
    there false e =
        let out = not_below n x (not_less x n e) in
        let none = h x in
        let few = within x in
        let front = times_first x x xs in
        let self = is_once x x (is_same x x refl) in
        absurd (omega (arith, out, none, few, front, self))
      where
        not_less : (x n : ℕ) → nat_lt x n ≡ false → n ≤ x
        not_less x n e = grind arith

pub each_below_is : (f : ℕ → Bool) (n : ℕ) → ((a : ℕ) → a < n → f a ≡ true) → each_below f n ≡ true
each_below_is f zero h = refl
each_below_is f (suc n) h = both_are (f n) (each_below f n) (h n (omega arith)) (each_below_is f n (λ a lt. h a (omega (arith, lt))))

pub all_once : (n : ℕ) (xs : List ℕ) → ((a : ℕ) → times_in a xs ≡ below n a) → each_below (λ a. nat_eq (times_in a xs) 1) n ≡ true
all_once n xs h = each_below_is (λ a. nat_eq (times_in a xs) 1) n (λ a lt. is_same (times_in a xs) 1 (h a ∙ is_below n a lt))
