-- Whole programs that are accepted, and what is known of their runs.
use Rattle.std.proofs.Common.{◌≡◌, ℕ, zero, suc, List, [], ◌∷◌, ◌++◌, length, Bool, true, false, refl, Some, None, arith}
use Rattle.std.specs.Prelude.{nat_eq, pos, codes}
use Rattle.std.proofs.lemmas.Bool.{eqb-true, eq-eqb}
use Rattle.fac_base.specs.Signatures.{signature, no_inputs, quoted, leaves}
use Rattle.fac_lang.specs.Eval.{Result, Done, Failed, Spent, Stuck}
use Rattle.fac_lang.specs.declared.program.Program.{Program}
use Rattle.fac_lang.specs.Phrases.{int, Value, plain, fun, Callable, of_phrase}
use Rattle.fac_lang.specs.Primitives.{prim_numbered, prim_fn}
use Rattle.fac_lang.specs.Meaning.{nowhere, start, word_phrase, one_item}
use Rattle.fac_lang.specs.Whole.{IsWhole, plain_effect}
use Rattle.fac_lang.proofs.DemoWords.{phrase, number, own, +, show, drop, throw, loop, own_number}
use Rattle.fac_lang.proofs.DemoPrelude.{ordinary, expanded}
use Rattle.fac_lang.proofs.Demo.{program, plain_program}
use Rattle.fac_lang.proofs.ExamplesOfObjects.{name, >>r, shapes, kept_in_array}
use Rattle.fac_lang.proofs.ExamplesOfWhole.{sum_whole, shapes_whole, kept_whole}
use Rattle.fac_abs.specs.RowVariables.{Row, named_row, row_eq}
use Rattle.fac_abs.specs.Marks.{mark_eq}
use Rattle.fac_abs.specs.declared.rule.Rule.TheVariants.{Underflow, Outputs}
use Rattle.fac_check.specs.Verdicts.{verdict}
use Rattle.fac_check.specs.Promises.{Lists, Exactly, AnyOf, On, LeftOn, Ends, phrase_run, callable_run, Behaves, OfRow, DoesInput, InputsOn, IsSafe}
use Rattle.fac_check.proofs.Promised.{accepted_are_safe}

-- with every input and at every budget the top-level phrase isn't stuck, and whatever its end the world behind it is valid
abbrev pub NeverStuck : Program → Type 0
NeverStuck P = (input : List ℕ) (n : ℕ) → Ends P (λ list. Unit {0}) (phrase_run P (word_phrase P P.top) (start P input) n)

-- So it is of a safe program that starts on no value: the state before the first item is one of those of which `IsSafe` speaks.
never_stuck : (P : Program) → IsSafe P 0 → NeverStuck P
never_stuck P safe input n = safe.phrase n (start P input) n (omega arith) refl (safe.begins input)

-- one list for another
ends_as : (P : Program) (after wider : Lists) → ((list : List Value) → after list → wider list) → (r : Result) → Ends P after r → Ends P wider r
ends_as P after wider f (Done st m) h = (f st.stack h.0, h.1)
ends_as P after wider f (Failed e st m) h = h
ends_as P after wider f (Spent st i) h = h
ends_as P after wider f Stuck h = h

-- 1 2 + . with every primitive word, the core words and words of the prelude, row words among them
abbrev sum : Program
sum = plain_program (number 1 ∷ number 2 ∷ + ∷ show ∷ [])

sum_accepted : verdict sum 0 ≡ None
unfolding prim_numbered mark_eq
sum_accepted = refl

sum_safe : IsSafe sum 0
sum_safe = accepted_are_safe sum 0 sum_whole sum_accepted

pub sum_sound : NeverStuck sum
sum_sound = never_stuck sum sum_safe

-- a primitive word: `+` takes two values and leaves one, and touches no value below
pub plus_keeps : (budget : ℕ) (below : List Value) → Behaves sum budget (phrase_run sum (one_item +)) (On 2 (Exactly below)) (LeftOn (Some 1) (Exactly below))
plus_keeps = sum_safe.words _ _ (record { ins = 2; outs = Some 1 }) refl refl refl

-- `throw` takes a value and is never done
pub throw_never_done : (budget : ℕ) (below : List Value) → Behaves sum budget (phrase_run sum (one_item throw)) (On 1 (Exactly below)) (λ list. ⊥)
throw_never_done = sum_safe.words _ _ (record { ins = 1; outs = None }) refl refl refl

-- A row word, `loop ( ..a pred: ( ..a -- ..a ? ) -- ..a )`: whatever lists ..a stands for, a callable that leaves one value on such lists can be handed in, and then `loop` leaves such a list.
pub loop_keeps : (rows : Row → List Value → Bool) (budget : ℕ) → Behaves sum budget (phrase_run sum (one_item loop)) (InputsOn sum rows budget (quoted (codes "pred") (signature (Some (codes "..a")) no_inputs (leaves (Some (codes "..a")) (codes "?" ∷ []))) no_inputs) (OfRow sum rows (Some (named_row (codes "..a"))))) (LeftOn (Some 0) (OfRow sum rows (Some (named_row (codes "..a")))))
loop_keeps = sum_safe.row_words _ _ refl refl refl

-- So on lists of each length.
pub loop_on_length : (n budget : ℕ) (pred : Callable) → Behaves sum budget (callable_run sum pred) (On 0 (AnyOf n)) (LeftOn (Some 1) (AnyOf n)) → Behaves sum budget (phrase_run sum (one_item loop)) (λ list. (rest : List Value) × (list ≡ fun pred ∷ rest) × AnyOf n rest) (LeftOn (Some 0) (AnyOf n))
loop_on_length n budget pred does st k le on valid =
    ends_as sum (LeftOn (Some 0) (λ list. nat_eq (length list) n ≡ true)) (LeftOn (Some 0) (AnyOf n)) (λ list h. (h.0, h.1, h.2, h.3, eqb-true (length h.1) n h.4)) (phrase_run sum (one_item loop) st k) (loop_keeps (λ r list. nat_eq (length list) n) budget st k le (fun pred ∷ [], on.0, on.1, (λ st' k' le' on' valid'. ends_as sum (LeftOn (Some 1) (AnyOf n)) (LeftOn (Some 1) (λ list. nat_eq (length list) n ≡ true)) (λ list h. (h.0, h.1, h.2, h.3, eq-eqb (length h.1) n h.4)) (callable_run sum pred st' k') (does st' k' le' (on'.0, on'.1, on'.2, on'.3, eqb-true (length on'.1) n on'.4) valid'), tt), eq-eqb (length on.0) n on.2) valid)

-- + . on two values
abbrev rest : Program
rest = plain_program (+ ∷ show ∷ [])

rest_whole : IsWhole rest
unfolding prim_numbered
rest_whole =
    record { items_fit = refl; literals_fit = refl; sorts_fit = refl; shapes_fit = refl; arrays_earlier = refl; arrays_once = refl; top_last = refl; top_phrase = refl; top_effect = refl; items_spare = refl; literals_spare = refl; bound = refl; holes_in_fries = refl; holes_stand = refl; written_effects = refl; method_effects = refl; marks_of_bodies = refl; few_names = refl; small_tests = refl; slots_differ = refl; few_slots = refl; class_names_differ = refl; classes_end = refl; words_differ = refl; methods_differ = refl }

rest_accepted : verdict rest 2 ≡ None
unfolding prim_numbered mark_eq
rest_accepted = refl

-- whatever they are, and whatever stands in the world before it
pub rest_sound : (budget : ℕ) → Behaves rest budget (phrase_run rest (word_phrase rest rest.top)) (AnyOf 2) (λ list. Unit {0})
rest_sound = (accepted_are_safe rest 2 rest_whole rest_accepted).phrase

-- on one value it is refused
pub rest_refused : verdict rest 1 ≡ Some (rest.top, record { rule = Underflow 2 1; place = nowhere })
unfolding prim_numbered mark_eq
rest_refused = refl

-- tuple classes with a parent, a union, a generic with two methods
pub shapes_accepted : verdict (shapes (number 7 ∷ name ∷ show ∷ [])) 0 ≡ None
unfolding prim_numbered mark_eq
shapes_accepted = refl

shapes_safe : IsSafe (shapes (number 7 ∷ name ∷ show ∷ [])) 0
shapes_safe = accepted_are_safe (shapes (number 7 ∷ name ∷ show ∷ [])) 0 shapes_whole shapes_accepted

pub shapes_sound : NeverStuck (shapes (number 7 ∷ name ∷ show ∷ []))
shapes_sound = never_stuck (shapes (number 7 ∷ name ∷ show ∷ [])) shapes_safe

-- a generic, a method of it, and an accessor
pub name_keeps : (budget : ℕ) (below : List Value) → Behaves (shapes (number 7 ∷ name ∷ show ∷ [])) budget (phrase_run (shapes (number 7 ∷ name ∷ show ∷ [])) (one_item name)) (On 1 (Exactly below)) (LeftOn (Some 1) (Exactly below))
name_keeps = shapes_safe.words _ _ (record { ins = 1; outs = Some 1 }) refl refl refl

pub name_of_round_keeps : (budget : ℕ) (below : List Value) → Behaves (shapes (number 7 ∷ name ∷ show ∷ [])) budget (phrase_run (shapes (number 7 ∷ name ∷ show ∷ [])) (one_item (own 10))) (On 1 (Exactly below)) (LeftOn (Some 1) (Exactly below))
name_of_round_keeps = shapes_safe.words _ _ (record { ins = 1; outs = Some 1 }) refl refl refl

pub set_slot_keeps : (budget : ℕ) (below : List Value) → Behaves (shapes (number 7 ∷ name ∷ show ∷ [])) budget (phrase_run (shapes (number 7 ∷ name ∷ show ∷ [])) (one_item >>r)) (On 2 (Exactly below)) (LeftOn (Some 1) (Exactly below))
set_slot_keeps = shapes_safe.words _ _ (record { ins = 2; outs = Some 1 }) refl refl refl

-- a method whose phrase has a literal array with a quotation
pub kept_accepted : verdict (kept_in_array (number 7 ∷ own 0 ∷ [])) 0 ≡ None
unfolding prim_numbered mark_eq
kept_accepted = refl

pub kept_sound : NeverStuck (kept_in_array (number 7 ∷ own 0 ∷ []))
kept_sound = never_stuck (kept_in_array (number 7 ∷ own 0 ∷ [])) (accepted_are_safe (kept_in_array (number 7 ∷ own 0 ∷ [])) 0 kept_whole kept_accepted)

-- Programs that aren't safe, so that the checker must refuse them.

-- : none ( -- x ) ;
abbrev none_left : Program
none_left = program (ordinary (codes "scratchpad") (codes "none") (plain_effect [] (codes "x" ∷ [])) [] ∷ []) [] [] []

no_value : (vs rest : List Value) → [] ≡ vs ++ rest → length vs ≡ 1 → ⊥
no_value [] more e n = absurd (omega (arith, n))
no_value (v ∷ vs) more e n = absurd (cc)

-- its item is done and leaves nothing, where it declares a value
pub none_left_unsafe : IsSafe none_left 0 → ⊥
none_left_unsafe safe =
    (let h = safe.words (own_number 0) _ (record { ins = 0; outs = Some 1 }) refl refl refl 1 [] (start none_left []) 1 (omega arith) ([], [], refl, refl, refl) (safe.begins []) in no_value h.0.0 h.0.1 h.0.2 h.0.3)

pub none_left_refused : verdict none_left 0 ≡ Some (own_number 0, record { rule = Outputs 1 0; place = nowhere })
unfolding prim_numbered mark_eq
none_left_refused = refl

-- : skip ( ..a quot: ( ..a -- ..b ) -- ..b ) drop ; inline
abbrev skipped : Program
skipped = program (expanded (codes "scratchpad") (codes "skip") (signature (Some (codes "..a")) (quoted (codes "quot") (signature (Some (codes "..a")) no_inputs (leaves (Some (codes "..b")) [])) no_inputs) (leaves (Some (codes "..b")) [])) (drop ∷ []) ∷ []) [] [] []

-- where ..a is no value and ..b is one
abbrev none_and_one : Row → List Value → Bool
none_and_one r list = elim (row_eq r (named_row (codes "..a"))) [ true ↦ nat_eq (length list) 0 | false ↦ nat_eq (length list) 1 ]

none_on : (vs rest list : List Value) → list ≡ vs ++ rest → length vs ≡ 0 → nat_eq (length rest) 0 ≡ true → list ≡ []
none_on [] [] list e n z = e
none_on [] (v ∷ vs) list e n z = (let same = eqb-true (suc (length vs)) 0 z in absurd (omega (arith, same)))
none_on (v ∷ vs) more list e n z = absurd (omega (arith, n))

one_on_none : (list : List Value) → list ≡ [] → nat_eq (suc (length list)) 1 ≡ true
one_on_none list e = rw e refl

-- [ 1 ] does what the effect says of the input
pub one_does : (budget : ℕ) → DoesInput skipped none_and_one budget (signature (Some (codes "..a")) no_inputs (leaves (Some (codes "..b")) [])) (of_phrase (phrase (number 1 ∷ [])))
one_does budget st zero le on valid = valid
one_does budget st (suc n) le on valid = (([], plain (int (pos 1)) ∷ st.stack, refl, refl, one_on_none st.stack (none_on on.0 on.1 st.stack on.2 on.3 on.4)), valid)

not_one : (vs rest : List Value) → [] ≡ vs ++ rest → nat_eq (length rest) 1 ≡ true → ⊥
not_one [] [] e z = absurd (cc)
not_one [] (v ∷ vs) e z = absurd (cc)
not_one (v ∷ vs) more e z = absurd (cc)

-- and `skip` leaves no value for ..b
pub skipped_unsafe : IsSafe skipped 0 → ⊥
unfolding prim_numbered prim_fn
skipped_unsafe safe =
    (let h = safe.row_words (own_number 0) _ refl refl refl none_and_one 2 (record { stack = fun (of_phrase (phrase (number 1 ∷ []))) ∷ []; world = (start skipped []).world }) 2 (omega arith) (fun (of_phrase (phrase (number 1 ∷ []))) ∷ [], [], refl, (one_does 2, tt), refl) (safe.begins []) in not_one h.0.0 h.0.1 h.0.2 h.0.4)

pub skipped_refused : verdict skipped 0 ≡ Some (own_number 0, record { rule = Outputs 0 0; place = nowhere })
unfolding prim_numbered mark_eq
skipped_refused = refl
