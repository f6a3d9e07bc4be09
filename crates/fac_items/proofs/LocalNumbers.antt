-- The numbers in phrases: each local is bound before it, each hole is one of the fry around, and no effect that is tested has a number above 64.
use Rattle.std.proofs.Common.{◌≡◌, ◌≤◌, ◌<◌, ℕ, suc, List, [], ◌∷◌, ◌++◌, length, Option, Some, None, Bool, true, false, cond, refl, arith}
use Rattle.std.specs.Prelude.{◌&&◌, ◌||◌, nat_eq, nat_lt}
use Rattle.std.specs.List.{list_any}
use Rattle.std.specs.Str.{bytes_eq}
use Rattle.std.proofs.lemmas.Bool.{or_left, or_right}
use Rattle.std.proofs.lemmas.Bool.Decides.{Decides-ltb}
use Rattle.fac_lang.specs.Phrases.{Phrase, end, then, Item, quot, word, bind, local, fry as fry_item}
use Rattle.fac_lang.specs.RunningLaws.{append}
use Rattle.fac_lang.specs.Whole.{each_inner, each_item, holes_within, holes_within_item, is_small, locals_bound, locals_bound_in, tests_small}
use Rattle.fac_lang.specs.declared.program.Lit.{Lit}
use Rattle.fac_vocab.specs.Scopes.{Scope}
use Rattle.fac_items.specs.Written.{Tok, n_lit, n_array, n_quot, n_ref, n_name, n_fry, n_call_effect, n_execute_effect, n_bind, n_hole, n_next, n_full, n_part, Nodes, nothing, more}
use Rattle.fac_items.specs.Items.{elements_of, local_of, phrase_of, word_of}
use Rattle.fac_items.proofs.PlainNodes.{ArePlain}

both_are : (a b : Bool) → a ≡ true → b ≡ true → (a && b) ≡ true
both_are a b h k = rw (h, k) refl

-- Locals.

-- each number below n is among these
abbrev Has : ℕ → List ℕ → Type 0
Has n xs = (x : ℕ) → x < n → list_any (nat_eq x) xs ≡ true

-- and so among more of them
abbrev Within : List ℕ → List ℕ → Type 0
Within xs ys = (x : ℕ) → list_any (nat_eq x) xs ≡ true → list_any (nat_eq x) ys ≡ true

-- what is bound behind a phrase
abbrev behind_item : List ℕ → Item → List ℕ
behind_item xs i = elim i [ bind x ↦ x ∷ xs | _ ↦ xs ]

more_bound : (x : ℕ) (xs : List ℕ) → Within xs (x ∷ xs)
more_bound x xs y h = or_right (nat_eq y x) (list_any (nat_eq y) xs) h

local_less : (xs : List (List ℕ)) (name : List ℕ) (x : ℕ) → local_of xs name ≡ Some x → x < length xs
local_less [] name x h = absurd (cc)
local_less (y ∷ ys) name x h = one (bytes_eq y name) h (λ k. local_less ys name x k)
  where
    one : (b : Bool) → cond b (Some (length ys)) (local_of ys name) ≡ Some x → (local_of ys name ≡ Some x → x < length ys) → x < suc (length ys)
    one true k rest = let same : length ys ≡ x = cc in omega (arith, same)
    one false k rest = let less = rest k in omega (arith, less)

-- each local of a phrase is bound, whichever more are
abbrev IsBound : ℕ → Phrase → Type 0
IsBound n t = (xs : List ℕ) → Has n xs → locals_bound xs t ≡ true

both_true : (a b : Bool) → (a && b) ≡ true → (a ≡ true) × (b ≡ true)
both_true true b h = (refl, h)
both_true false b h = cc

behind_more : (i : Item) (xs : List ℕ) → Within xs (behind_item xs i)
behind_more (bind x) xs = more_bound x xs
behind_more i xs = λ x h. h

behind_within : (i : Item) (xs ys : List ℕ) → Within xs ys → Within (behind_item xs i) (behind_item ys i)
behind_within (bind x) xs ys h = λ y k. kept_or (nat_eq y x) (list_any (nat_eq y) xs) (list_any (nat_eq y) ys) (h y) k
  where
    kept_or : (a b c : Bool) → (b ≡ true → c ≡ true) → (a || b) ≡ true → (a || c) ≡ true
    kept_or true b c f k = refl
    kept_or false b c f k = f k
behind_within i xs ys h = h

-- more locals may be bound around a phrase
mutual
  pub bound_more : (t : Phrase) (xs ys : List ℕ) → Within xs ys → locals_bound xs t ≡ true → locals_bound ys t ≡ true
  bound_more end xs ys w h = refl
  bound_more (then i p t) xs ys w h =
      let both = both_true (locals_bound_in xs i) (locals_bound (behind_item xs i) t) h in
      both_are (locals_bound_in ys i) (locals_bound (behind_item ys i) t) (item_more i xs ys w both.0) (bound_more t (behind_item xs i) (behind_item ys i) (behind_within i xs ys w) both.1)

  item_more : (i : Item) (xs ys : List ℕ) → Within xs ys → locals_bound_in xs i ≡ true → locals_bound_in ys i ≡ true
  item_more (local x) xs ys w h = w x h
  item_more (quot t) xs ys w h = bound_more t xs ys w h
  item_more (fry_item t n) xs ys w h = bound_more t xs ys w h
  item_more i xs ys w h = refl

joined_bound : (t u : Phrase) (xs : List ℕ) → locals_bound xs t ≡ true → ((ys : List ℕ) → Within xs ys → locals_bound ys u ≡ true) → locals_bound xs (append t u) ≡ true
joined_bound end u xs h k = k xs (λ x is. is)
joined_bound (then i p t) u xs h k =
    let both = both_true (locals_bound_in xs i) (locals_bound (behind_item xs i) t) h in
    both_are (locals_bound_in xs i) (locals_bound (behind_item xs i) (append t u)) both.0 (joined_bound t u (behind_item xs i) both.1 (λ ys within. k ys (λ x is. within x (behind_more i xs x is))))

append_bound : (n : ℕ) (t u : Phrase) → IsBound n t → IsBound n u → IsBound n (append t u)
append_bound n t u h k xs has = joined_bound t u xs (h xs has) (λ ys within. k ys (λ x less. within x (has x less)))

bound_next : (k : ℕ) (xs : List ℕ) → Has k xs → Has (suc k) (k ∷ xs)
bound_next k xs has x less = one (nat_eq x k) refl
  where
    other : (x k : ℕ) → nat_eq x k ≡ false → x < suc k → x < k
    other x k e less = grind arith

    one : (b : Bool) → nat_eq x k ≡ b → (nat_eq x k || list_any (nat_eq x) xs) ≡ true
    one true e = or_left (nat_eq x k) (list_any (nat_eq x) xs) e
    one false e = or_right (nat_eq x k) (list_any (nat_eq x) xs) (has x (other x k e less))

name_bound : (s : Scope) (locals : List (List ℕ)) (t : Tok) (o : Option ℕ) (xs : List ℕ) → local_of locals t.text ≡ o → Has (length locals) xs → locals_bound_in xs (elim o [ Some x ↦ local x | None ↦ word (word_of s t) ]) ≡ true
name_bound s locals t (Some x) xs e has = has x (local_less locals t.text x e)
name_bound s locals t None xs e has = refl

-- a name binds nothing
name_behind : (s : Scope) (t : Tok) (o : Option ℕ) (xs : List ℕ) (u : Phrase) → locals_bound xs u ≡ true → locals_bound (behind_item xs (elim o [ Some x ↦ local x | None ↦ word (word_of s t) ])) u ≡ true
name_behind s t (Some x) xs u h = h
name_behind s t None xs u h = h

pub phrase_bound : (s : Scope) (locals : List (List ℕ)) (ns : Nodes) (arrays : List (List Lit)) (holes : ℕ) → IsBound (length locals) (phrase_of s locals ns arrays holes).phrase
phrase_bound s locals nothing arrays holes xs has = refl
phrase_bound s locals (more (n_name t p) ns) arrays holes xs has =
    let o = local_of locals t.text in
    let r = phrase_of s locals ns arrays holes in
    both_are (locals_bound_in xs (elim o [ Some x ↦ local x | None ↦ word (word_of s t) ])) (locals_bound (behind_item xs (elim o [ Some x ↦ local x | None ↦ word (word_of s t) ])) r.phrase) (name_bound s locals t o xs refl has)
    (name_behind s t o xs r.phrase (phrase_bound s locals ns arrays holes xs has))
phrase_bound s locals (more (n_bind t twice p) ns) arrays holes xs has = phrase_bound s (t.text ∷ locals) ns arrays holes (length locals ∷ xs) (bound_next (length locals) xs has)
phrase_bound s locals (more (n_hole p) ns) arrays holes xs has = phrase_bound s locals ns arrays (suc holes) xs has
phrase_bound s locals (more (n_quot ms p) ns) arrays holes xs has =
    let m = phrase_of s locals ms arrays holes in
    let r = phrase_of s locals ns m.arrays m.holes in
    both_are (locals_bound xs m.phrase) (locals_bound xs r.phrase) (phrase_bound s locals ms arrays holes xs has) (phrase_bound s locals ns m.arrays m.holes xs has)
phrase_bound s locals (more (n_fry ms p) ns) arrays holes xs has =
    let m = phrase_of s locals ms arrays 0 in
    let r = phrase_of s locals ns m.arrays holes in
    both_are (locals_bound xs m.phrase) (locals_bound xs r.phrase) (phrase_bound s locals ms arrays 0 xs has) (phrase_bound s locals ns m.arrays holes xs has)
phrase_bound s locals (more (n_array ms p) ns) arrays holes xs has = let m = elements_of s ms arrays in phrase_bound s locals ns (m.arrays ++ m.elements ∷ []) holes xs has
phrase_bound s locals (more (n_part ms) ns) arrays holes xs has =
    let m = phrase_of s locals ms arrays holes in
    let r = phrase_of s locals ns m.arrays m.holes in
    append_bound (length locals) m.phrase r.phrase (phrase_bound s locals ms arrays holes) (phrase_bound s locals ns m.arrays m.holes) xs has
phrase_bound s locals (more n ns) arrays holes xs has = phrase_bound s locals ns arrays holes xs has

-- Holes.

append_holes : (n : ℕ) (t u : Phrase) → holes_within n t ≡ true → holes_within n u ≡ true → holes_within n (append t u) ≡ true
append_holes n end u h k = k
append_holes n (then i p t) u h k = let both = both_true (holes_within_item n i) (holes_within n t) h in both_are (holes_within_item n i) (holes_within n (append t u)) both.0 (append_holes n t u both.1 k)

-- the holes of a phrase that is made: those of the fry around are below their number, and there are none where no fry is around
pub record HolesFit (fry : Bool) (before after : ℕ) (t : Phrase) : Type 0 where
  pub grown : before ≤ after
  pub within : (n : ℕ) → (fry ≡ true → after ≤ n) → holes_within n t ≡ true

-- two phrases one after another, as they stand in a third one
both_fit : (fry : Bool) (before between after : ℕ) (t u all : Phrase) → HolesFit fry before between t → HolesFit fry between after u → ((n : ℕ) → holes_within n t ≡ true → holes_within n u ≡ true → holes_within n all ≡ true) → HolesFit fry before after all
both_fit fry before between after t u all first second joins = record {
  grown = (let one = first.grown in let two = second.grown in omega (arith, one, two));
  within = λ n k. joins n (first.within n (λ is. let two = second.grown in let few = k is in omega (arith, two, few))) (second.within n k);
}

name_holes : (s : Scope) (t : Tok) (o : Option ℕ) (n : ℕ) (u : Phrase) → holes_within n u ≡ true → (holes_within_item n (elim o [ Some x ↦ local x | None ↦ word (word_of s t) ]) && holes_within n u) ≡ true
name_holes s t (Some x) n u h = h
name_holes s t None n u h = h

pub holes_fit : (s : Scope) (locals : List (List ℕ)) (fry : Bool) (ns : Nodes) (arrays : List (List Lit)) (holes : ℕ) → ArePlain fry ns → HolesFit fry holes (phrase_of s locals ns arrays holes).holes (phrase_of s locals ns arrays holes).phrase
holes_fit s locals fry nothing arrays holes h = record { grown = omega arith; within = λ n k. refl }
holes_fit s locals fry (more (n_name t p) ns) arrays holes h =
    let r = holes_fit s locals fry ns arrays holes h.1 in
    record { grown = r.grown; within = λ n k. name_holes s t (local_of locals t.text) n (phrase_of s locals ns arrays holes).phrase (r.within n k) }
holes_fit s locals fry (more (n_bind t twice p) ns) arrays holes h = let r = holes_fit s (t.text ∷ locals) fry ns arrays holes h.1 in record { grown = r.grown; within = r.within }
holes_fit s locals fry (more (n_lit l p) ns) arrays holes h = let r = holes_fit s locals fry ns arrays holes h.1 in record { grown = r.grown; within = r.within }
holes_fit s locals fry (more (n_ref t p) ns) arrays holes h = let r = holes_fit s locals fry ns arrays holes h.1 in record { grown = r.grown; within = r.within }
holes_fit s locals fry (more (n_call_effect e p) ns) arrays holes h = let r = holes_fit s locals fry ns arrays holes h.1 in record { grown = r.grown; within = r.within }
holes_fit s locals fry (more (n_execute_effect e p) ns) arrays holes h = let r = holes_fit s locals fry ns arrays holes h.1 in record { grown = r.grown; within = r.within }
holes_fit s locals fry (more (n_next p) ns) arrays holes h = let r = holes_fit s locals fry ns arrays holes h.1 in record { grown = r.grown; within = r.within }
holes_fit s locals fry (more (n_full v x p) ns) arrays holes h = let r = holes_fit s locals fry ns arrays holes h.1 in record { grown = r.grown; within = r.within }
holes_fit s locals fry (more (n_hole p) ns) arrays holes h =
    let r = holes_fit s locals fry ns arrays (suc holes) h.1 in
    let m = phrase_of s locals ns arrays (suc holes) in
    record {
      grown = (let one = r.grown in omega (arith, one));
      within = λ n k. both_are (nat_lt holes n) (holes_within n m.phrase) ((Decides-ltb holes n).1 (let one = r.grown in let few = k h.0 in omega (arith, one, few))) (r.within n k);
    }
holes_fit s locals fry (more (n_quot ms p) ns) arrays holes h =
    let m = phrase_of s locals ms arrays holes in
    let r = phrase_of s locals ns m.arrays m.holes in
    both_fit fry holes m.holes r.holes m.phrase r.phrase (then (quot m.phrase) p r.phrase) (holes_fit s locals fry ms arrays holes h.0) (holes_fit s locals fry ns m.arrays m.holes h.1) (λ n. both_are (holes_within n m.phrase) (holes_within n r.phrase))
holes_fit s locals fry (more (n_fry ms p) ns) arrays holes h =
    let m = phrase_of s locals ms arrays 0 in
    let r = phrase_of s locals ns m.arrays holes in
    let inner = holes_fit s locals true ms arrays 0 h.0 in
    let rest = holes_fit s locals fry ns m.arrays holes h.1 in
    record { grown = rest.grown; within = λ n k. both_are (holes_within m.holes m.phrase) (holes_within n r.phrase) (inner.within m.holes (λ is. omega arith)) (rest.within n k) }
holes_fit s locals fry (more (n_array ms p) ns) arrays holes h =
    let m = elements_of s ms arrays in let r = holes_fit s locals fry ns (m.arrays ++ m.elements ∷ []) holes h.1 in record { grown = r.grown; within = r.within }
holes_fit s locals fry (more (n_part ms) ns) arrays holes h =
    let m = phrase_of s locals ms arrays holes in
    let r = phrase_of s locals ns m.arrays m.holes in
    both_fit fry holes m.holes r.holes m.phrase r.phrase (append m.phrase r.phrase) (holes_fit s locals fry ms arrays holes h.0) (holes_fit s locals fry ns m.arrays m.holes h.1) (λ n. append_holes n m.phrase r.phrase)
holes_fit s locals fry (more n ns) arrays holes h = absurd h.0

-- Effects that are tested.

abbrev is_tested : Phrase → Bool
is_tested t = each_item tests_small t

append_tested : (t u : Phrase) → is_tested t ≡ true → is_tested u ≡ true → is_tested (append t u) ≡ true
append_tested end u h k = k
append_tested (then i p t) u h k =
    let both = both_true (tests_small i && each_inner tests_small i) (is_tested t) h in both_are (tests_small i && each_inner tests_small i) (is_tested (append t u)) both.0 (append_tested t u both.1 k)

-- a name tests nothing
name_tested : (s : Scope) (t : Tok) (o : Option ℕ) (u : Phrase) → is_tested u ≡ true →
    (tests_small (elim o [ Some x ↦ local x | None ↦ word (word_of s t) ]) && each_inner tests_small (elim o [ Some x ↦ local x | None ↦ word (word_of s t) ]) && is_tested u) ≡ true
name_tested s t (Some x) u h = h
name_tested s t None u h = h

phrase_tested : (s : Scope) (locals : List (List ℕ)) (fry : Bool) (ns : Nodes) (arrays : List (List Lit)) (holes : ℕ) → ArePlain fry ns → is_tested (phrase_of s locals ns arrays holes).phrase ≡ true
phrase_tested s locals fry nothing arrays holes h = refl
phrase_tested s locals fry (more (n_lit l p) ns) arrays holes h = phrase_tested s locals fry ns arrays holes h.1
phrase_tested s locals fry (more (n_ref t p) ns) arrays holes h = phrase_tested s locals fry ns arrays holes h.1
phrase_tested s locals fry (more (n_name t p) ns) arrays holes h =
    name_tested s t (local_of locals t.text) (phrase_of s locals ns arrays holes).phrase (phrase_tested s locals fry ns arrays holes h.1)
phrase_tested s locals fry (more (n_call_effect e p) ns) arrays holes h =
    both_are (is_small e && true) (is_tested (phrase_of s locals ns arrays holes).phrase) (both_are (is_small e) true h.0 refl) (phrase_tested s locals fry ns arrays holes h.1)
phrase_tested s locals fry (more (n_execute_effect e p) ns) arrays holes h =
    both_are (is_small e && true) (is_tested (phrase_of s locals ns arrays holes).phrase) (both_are (is_small e) true h.0 refl) (phrase_tested s locals fry ns arrays holes h.1)
phrase_tested s locals fry (more (n_next p) ns) arrays holes h = phrase_tested s locals fry ns arrays holes h.1
phrase_tested s locals fry (more (n_full v x p) ns) arrays holes h = phrase_tested s locals fry ns arrays holes h.1
phrase_tested s locals fry (more (n_bind t twice p) ns) arrays holes h = phrase_tested s (t.text ∷ locals) fry ns arrays holes h.1
phrase_tested s locals fry (more (n_hole p) ns) arrays holes h = phrase_tested s locals fry ns arrays (suc holes) h.1
phrase_tested s locals fry (more (n_quot ms p) ns) arrays holes h =
    let m = phrase_of s locals ms arrays holes in
    both_are (is_tested m.phrase) (is_tested (phrase_of s locals ns m.arrays m.holes).phrase) (phrase_tested s locals fry ms arrays holes h.0) (phrase_tested s locals fry ns m.arrays m.holes h.1)
phrase_tested s locals fry (more (n_fry ms p) ns) arrays holes h =
    let m = phrase_of s locals ms arrays 0 in
    both_are (is_tested m.phrase) (is_tested (phrase_of s locals ns m.arrays holes).phrase) (phrase_tested s locals true ms arrays 0 h.0) (phrase_tested s locals fry ns m.arrays holes h.1)
phrase_tested s locals fry (more (n_array ms p) ns) arrays holes h = let m = elements_of s ms arrays in phrase_tested s locals fry ns (m.arrays ++ m.elements ∷ []) holes h.1
phrase_tested s locals fry (more (n_part ms) ns) arrays holes h =
    let m = phrase_of s locals ms arrays holes in
    append_tested m.phrase (phrase_of s locals ns m.arrays m.holes).phrase (phrase_tested s locals fry ms arrays holes h.0) (phrase_tested s locals fry ns m.arrays m.holes h.1)
phrase_tested s locals fry (more n ns) arrays holes h = absurd h.0

-- Phrases that stand by themselves.

-- whether each local is bound in a phrase, each hole stands in a fry in it, and no effect that is tested has a number above 64
abbrev pub is_closed : Phrase → Bool
is_closed t = locals_bound [] t && holes_within 0 t && each_item tests_small t

none_below : (xs : List ℕ) → Has 0 xs
none_below xs x less = absurd (omega (arith, less))

false_fry : (n : ℕ) → false ≡ true → n ≤ 0
false_fry n h = absurd (cc)

pub made_closed : (s : Scope) (ns : Nodes) (arrays : List (List Lit)) → ArePlain false ns → is_closed (phrase_of s [] ns arrays 0).phrase ≡ true
made_closed s ns arrays h =
    let m = phrase_of s [] ns arrays 0 in
    let fit = holes_fit s [] false ns arrays 0 h in
    let numbered = both_are (locals_bound [] m.phrase) (holes_within 0 m.phrase) (phrase_bound s [] ns arrays 0 [] (none_below [])) (fit.within 0 (false_fry m.holes)) in
    both_are (locals_bound [] m.phrase && holes_within 0 m.phrase) (is_tested m.phrase) numbered (phrase_tested s [] false ns arrays 0 h)

pub append_closed : (t u : Phrase) → is_closed t ≡ true → is_closed u ≡ true → is_closed (append t u) ≡ true
append_closed t u h k =
    let first = both_true (locals_bound [] t && holes_within 0 t) (is_tested t) h in
    let second = both_true (locals_bound [] u && holes_within 0 u) (is_tested u) k in
    let one = both_true (locals_bound [] t) (holes_within 0 t) first.0 in
    let two = both_true (locals_bound [] u) (holes_within 0 u) second.0 in
    let numbered = both_are (locals_bound [] (append t u)) (holes_within 0 (append t u)) (joined_bound t u [] one.0 (λ ys within. bound_more u [] ys within two.0)) (append_holes 0 t u one.1 two.1) in
    both_are (locals_bound [] (append t u) && holes_within 0 (append t u)) (is_tested (append t u)) numbered (append_tested t u first.1 second.1)
