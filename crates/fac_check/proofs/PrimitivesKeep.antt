-- What a primitive and an accessor are sure of: they give as many values as is written, and keep the addresses of the literal arrays.
use Rattle.std.proofs.Common.{◌≡◌, ℕ, zero, suc, List, [], ◌∷◌, ◌++◌, length, Bool, true, Option, Some, None, option_map, refl, sym, ap, subst, ◌≤◌, arith}
use Rattle.std.specs.Prelude.{nat_le, map, slice_get}
use Rattle.std.specs.List.{list_all}
use Rattle.fac_base.specs.declared.height.Height.{Height}
use Rattle.fac_lang.specs.Phrases.{Value, plain, no}
use Rattle.fac_lang.specs.World.{World}
use Rattle.fac_lang.specs.declared.error_name.ErrorName.{ErrorName}
use Rattle.fac_lang.specs.declared.error_name.ErrorName.TheVariants.{NotTuple, NoSlot}
use Rattle.fac_base.specs.declared.limits.TheConstants.{MOST_PAIRS}
use Rattle.fac_base.specs.Effects.{inputs_count, leaving_outs, effect_height}
use Rattle.fac_lang.specs.Equality.{equal_pairs}
use Rattle.fac_lang.specs.Printed.{Names, printed}
use Rattle.fac_lang.specs.PrimitiveWords.{PrimitiveWord, outputs_of, plain_inputs, plain_leaving, written_effect}
use Rattle.fac_lang.specs.Procedures.{Procedure, leaves, answers, answers_array, answers_tuple, curries, composes, fails, looks, adds, opens, puts, compares, prints, asks, writes, reads, Gives, gives, bad, Fn, fn0, fn1, fn2, fn3, followed, by_inputs, picked, places_from, value_at, array_in, opened, opened_places, with_element, made_or, line_in, behind_line}
use Rattle.fac_lang.specs.Primitives.{Primitive, built_primitives, prim_numbered, primitive_word, prim_fn}
use Rattle.fac_lang.specs.Objects.{Slot, or_bad, name_at, seen_tuple, slot_place, want_slot, with_slot, get_slot, set_slot, put_slot, tuple_of}
use Rattle.fac_lang.specs.Meaning.{meaning_values, seen}
use Rattle.std.proofs.lemmas.Bool.{leb-true}
use Rattle.fac_abs.proofs.EqualMarks.{and_first, and_second}

-- So many values are given, or an error; and the literal arrays have these addresses.
abbrev pub Regular : Option ℕ → List ℕ → Gives Value → Type 0
Regular o ls (gives vs w) = (o ≡ Some (length vs)) × (w.literals ≡ ls)
Regular o ls (bad e v w) = w.literals ≡ ls

-- a function of so many values that gives so many, and keeps the addresses
abbrev pub RegularFn : ℕ → Option ℕ → Fn Value → Type 0
RegularFn i o (fn0 g) = (i ≡ 0) × ((w : World Value) → Regular o w.literals (g w))
RegularFn i o (fn1 g) = (i ≡ 1) × ((x : Value) (w : World Value) → Regular o w.literals (g x w))
RegularFn i o (fn2 g) = (i ≡ 2) × ((x y : Value) (w : World Value) → Regular o w.literals (g x y w))
RegularFn i o (fn3 g) = (i ≡ 3) × ((x y z : Value) (w : World Value) → Regular o w.literals (g x y z w))

picked_length : (d : Value) (vs : List Value) (places : List ℕ) → length (picked d vs places) ≡ length places
picked_length d vs [] = refl
picked_length d vs (k ∷ places) = ap suc (picked_length d vs places)

made_regular : (v : Option Value) (w : World Value) (g : Gives Value) → Regular (Some 1) w.literals g → Regular (Some 1) w.literals (made_or meaning_values v w g)
made_regular None w g h = h
made_regular (Some v) w g h = (refl, refl)

module _ (N : Names) where
  -- Each procedure, from any values.
  pub followed_regular : {o : Option ℕ} (p : Procedure o) (vs : List Value) (w : World Value) → Regular o w.literals (followed meaning_values N p vs w)
  followed_regular (leaves places) vs w = (ap Some (sym (picked_length (plain no) vs places)), refl)
  followed_regular (answers p) vs w = (refl, refl)
  followed_regular (answers_array places) vs w = (refl, refl)
  followed_regular (answers_tuple c n) vs w = (refl, refl)
  followed_regular (curries j k p) vs w = made_regular (meaning_values.curried (value_at meaning_values vs j) (value_at meaning_values vs k)) w (followed meaning_values N p vs w) (followed_regular p vs w)
  followed_regular (composes j k p) vs w = made_regular (meaning_values.composed (value_at meaning_values vs j) (value_at meaning_values vs k)) w (followed meaning_values N p vs w) (followed_regular p vs w)
  followed_regular (fails e k) vs w = refl
  followed_regular (looks k go) vs w = followed_regular (go (seen (value_at meaning_values vs k))) vs w
  followed_regular (adds ps go) vs w = followed_regular (go (places_from (length vs) (length ps))) (vs ++ map plain ps) w
  followed_regular (opens a go) vs w = followed_regular (go (opened_places meaning_values (length vs) (array_in meaning_values (slice_get w.objects a)))) (opened meaning_values vs (array_in meaning_values (slice_get w.objects a))) w
  followed_regular (puts a i k p) vs w = followed_regular p vs (record w { objects = with_element meaning_values w.objects a i (value_at meaning_values vs k) (array_in meaning_values (slice_get w.objects a)) })
  followed_regular (compares j k go) vs w = followed_regular (go (equal_pairs meaning_values MOST_PAIRS w ((value_at meaning_values vs j, value_at meaning_values vs k) ∷ []))) vs w
  followed_regular (prints k go) vs w = followed_regular (go (printed meaning_values N w (value_at meaning_values vs k))) vs w
  followed_regular (asks a go) vs w = followed_regular (go (N.tuple_class a)) vs w
  followed_regular (writes bs p) vs w = followed_regular p vs (record w { output = w.output ++ bs })
  followed_regular (reads go) vs w = followed_regular (go (line_in w.input)) vs (record w { input = behind_line w.input; asked = suc w.asked })

  -- as a function of no more than three inputs
  pub inputs_regular : {o : Option ℕ} (n : ℕ) (p : Procedure o) → n ≤ 3 → RegularFn n o (by_inputs meaning_values N n p)
  inputs_regular zero p few = (refl, λ w. followed_regular p [] w)
  inputs_regular (suc zero) p few = (refl, λ x w. followed_regular p (x ∷ []) w)
  inputs_regular (suc (suc zero)) p few = (refl, λ x y w. followed_regular p (x ∷ y ∷ []) w)
  inputs_regular (suc (suc (suc zero))) p few = (refl, λ x y z w. followed_regular p (x ∷ y ∷ z ∷ []) w)
  inputs_regular (suc (suc (suc (suc n)))) p few = absurd (omega (arith, few))

-- The table of primitives: no word has more than three inputs.
abbrev takes_few : Primitive → Bool
takes_few p = nat_le (length p.word.ins) 3

one_passes : (ps : List Primitive) → list_all takes_few ps ≡ true → (k : ℕ) (p : Primitive) → slice_get ps k ≡ Some p → takes_few p ≡ true
one_passes [] h k p e = absurd (cc)
one_passes (q ∷ ps) h zero p e = (let same : q ≡ p = cc in subst (λ x. takes_few x ≡ true) same (and_first (takes_few q) (list_all takes_few ps) h))
one_passes (q ∷ ps) h (suc k) p e = one_passes ps (and_second (takes_few q) (list_all takes_few ps) h) k p e

pub few_inputs : (k : ℕ) (p : Primitive) → prim_numbered k ≡ Some p → length p.word.ins ≤ 3
unfolding prim_numbered
few_inputs k p e = leb-true _ _ (one_passes built_primitives refl k p e)

-- so each primitive takes and gives as many values as its word is written to
pub prim_regular : (N : Names) (k : ℕ) (p : Primitive) → prim_numbered k ≡ Some p → RegularFn (length p.word.ins) (outputs_of p.word) (prim_fn meaning_values N p)
unfolding prim_fn
prim_regular N k p e = inputs_regular N (length p.word.ins) p.does (few_inputs k p e)

-- The effect of a primitive word.
abbrev pub word_numbers : PrimitiveWord → Height
word_numbers r = record { ins = length r.ins; outs = outputs_of r }

inputs_written : (ns : List (List ℕ)) → inputs_count (plain_inputs ns) ≡ length ns
inputs_written [] = refl
inputs_written (n ∷ ns) = ap suc (inputs_written ns)

leaving_written : (o : Option (List (List ℕ))) → leaving_outs (plain_leaving o) ≡ option_map length o
leaving_written None = refl
leaving_written (Some ns) = refl

pub written_height : (r : PrimitiveWord) → effect_height (written_effect r) ≡ word_numbers r
written_height r = rw (inputs_written r.ins, leaving_written r.outs) refl

-- each primitive word has a primitive
pub prim_found : (k : ℕ) (r : PrimitiveWord) → primitive_word k ≡ Some r → (p : Primitive) × (prim_numbered k ≡ Some p) × (p.word ≡ r)
prim_found k r e = found (prim_numbered k) refl e
  where
    found : (o : Option Primitive) → prim_numbered k ≡ o → option_map (λ (p : Primitive). p.word) o ≡ Some r → (p : Primitive) × (prim_numbered k ≡ Some p) × (p.word ≡ r)
    found None q h = absurd (cc)
    found (Some p) q h = (p, q, cc)

module _ (N : Names) where
  or_bad_regular : {X : Type 0} (o : Option ℕ) (y : Option X) (e : ErrorName) (v : Option Value) (w : World Value) (go : X → Gives Value) → ((x : X) → Regular o w.literals (go x)) → Regular o w.literals (or_bad meaning_values y e v w go)
  or_bad_regular o None e v w go h = refl
  or_bad_regular o (Some x) e v w go h = h x

  slot_regular : (o : Option ℕ) (n : List ℕ) (x : Value) (w : World Value) (a : ℕ) (q : Option (ℕ × List Value)) (go : Slot meaning_values N → Gives Value) → ((p : Slot meaning_values N) → Regular o w.literals (go p)) → Regular o w.literals (slot_place meaning_values N n x w a q go)
  slot_regular o n x w a None go h = refl
  slot_regular o n x w a (Some q) go h = or_bad_regular o (name_at 0 n (N.kind_slots q.0)) NoSlot (Some x) w (λ k. go (record { address = a; kind = q.0; values = q.1; place = k })) (λ k. h (record { address = a; kind = q.0; values = q.1; place = k }))

  wanted_regular : (o : Option ℕ) (n : List ℕ) (x : Value) (w : World Value) (go : Slot meaning_values N → Gives Value) → ((p : Slot meaning_values N) → Regular o w.literals (go p)) → Regular o w.literals (want_slot meaning_values N n x w go)
  wanted_regular o n x w go h = or_bad_regular o (seen_tuple (seen x)) NotTuple (Some x) w (λ a. slot_place meaning_values N n x w a (tuple_of meaning_values (slice_get w.objects a)) go) (λ a. slot_regular o n x w a (tuple_of meaning_values (slice_get w.objects a)) go h)

  -- Each accessor.
  pub getter_regular : (n : List ℕ) → RegularFn 1 (Some 1) (get_slot meaning_values N n)
  getter_regular n = (refl, λ x w. wanted_regular (Some 1) n x w (λ p. or_bad meaning_values (slice_get p.values p.place) NoSlot (Some x) w (λ u. gives (u ∷ []) w)) (λ p. or_bad_regular (Some 1) (slice_get p.values p.place) NoSlot (Some x) w (λ u. gives (u ∷ []) w) (λ u. (refl, refl))))

  pub setter_regular : (n : List ℕ) → RegularFn 2 (Some 1) (set_slot meaning_values N n)
  setter_regular n = (refl, λ x u w. wanted_regular (Some 1) n x w (λ p. gives (x ∷ []) (with_slot meaning_values N p u w)) (λ p. (refl, refl)))

  pub putter_regular : (n : List ℕ) → RegularFn 2 (Some 0) (put_slot meaning_values N n)
  putter_regular n = (refl, λ u x w. wanted_regular (Some 0) n x w (λ p. gives [] (with_slot meaning_values N p u w)) (λ p. (refl, refl)))
