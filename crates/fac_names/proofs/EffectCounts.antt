-- Effects have few names, so they declare few values.
use Rattle.std.proofs.Common.{◌≡◌, ◌≤◌, ◌+◌, ℕ, suc, List, length, Bool, true, false, cond, refl, ap, sym, ◌∙◌, arith}
use Rattle.std.specs.Prelude.{nat_le}
use Rattle.std.specs.Str.{bytes_eq}
use Rattle.fac_base.specs.Effects.{effect_height, inputs_count}
use Rattle.fac_base.specs.Signatures.{Signature, signature, Inputs, no_inputs, value, quoted, Leaving, never, leaves}
use Rattle.fac_lang.specs.Whole.{name_count, inputs_name_count, is_small, leaving_count, row_count}
use Rattle.fac_source.specs.declared.token.Token.{Token}
use Rattle.fac_effect.specs.WrittenEffects.{Written, written, Entries, no_entries, plain, described, detailed, written_names, entries_names, is_row, plain_name, colon_name, row_if, row_in, values_in, output_names, leaving_in, said, side_inputs, inputs_of, IsEffect}
use Rattle.fac_endings.proofs.Apart.{and_true}

pub at_most : (a b : ℕ) → a ≤ b → nat_le a b ≡ true
at_most a b few = grind arith

-- a side whose first entry is a row variable, or isn't
side_counted : (b : Bool) (name : List ℕ) (rest all : Inputs) (k : ℕ) → inputs_name_count rest ≤ k → inputs_name_count all ≤ suc k → row_count (row_if b name) + inputs_name_count (cond b rest all) ≤ suc k
side_counted true name rest all k h j = omega (arith, h)
side_counted false name rest all k h j = omega (arith, j)

outputs_counted : (es : Entries) → length (output_names es) ≤ entries_names es
outputs_counted no_entries = omega arith
outputs_counted (plain name es) = let rest = outputs_counted es in omega (arith, rest)
outputs_counted (described name class es) = let rest = outputs_counted es in omega (arith, rest)
outputs_counted (detailed name w es) = let rest = outputs_counted es in omega (arith, rest)

left_counted : (b : Bool) (name : List ℕ) (rest all : Entries) (k : ℕ) → length (output_names rest) ≤ k → length (output_names all) ≤ suc k → row_count (row_if b name) + length (output_names (cond b rest all)) ≤ suc k
left_counted true name rest all k h j = omega (arith, h)
left_counted false name rest all k h j = omega (arith, j)

never_counted : (b : Bool) (l : Leaving) (k : ℕ) → leaving_count l ≤ suc k → leaving_count (cond b never l) ≤ suc k
never_counted true l k h = omega arith
never_counted false l k h = h

values_counted : (es : Entries) → row_count (row_in es) + length (output_names (values_in es)) ≤ entries_names es
values_counted no_entries = omega arith
values_counted (plain name es) = let rest = outputs_counted es in left_counted (is_row name) (plain_name name) es (plain name es) (entries_names es) rest (omega (arith, rest))
values_counted (described name class es) = let rest = outputs_counted es in left_counted (is_row name) (colon_name name) es (described name class es) (suc (entries_names es)) (omega (arith, rest)) (omega (arith, rest))
values_counted (detailed name w es) = let rest = outputs_counted es in left_counted (is_row name) (colon_name name) es (detailed name w es) (written_names w + entries_names es) (omega (arith, rest)) (omega (arith, rest))

leaving_counted : (es : Entries) → leaving_count (leaving_in es) ≤ entries_names es
leaving_counted no_entries = omega arith
leaving_counted (plain name no_entries) = never_counted (bytes_eq (plain_name name) _) (leaves (row_in (plain name no_entries)) (output_names (values_in (plain name no_entries)))) 0 (values_counted (plain name no_entries))
leaving_counted (plain name (plain next es)) = values_counted (plain name (plain next es))
leaving_counted (plain name (described next class es)) = values_counted (plain name (described next class es))
leaving_counted (plain name (detailed next w es)) = values_counted (plain name (detailed next w es))
leaving_counted (described name class es) = values_counted (described name class es)
leaving_counted (detailed name w es) = values_counted (detailed name w es)

-- what is said has no more names than are written
mutual
  said_counted : (w : Written) → name_count (said w) ≤ written_names w
  said_counted (written opens ins dashes outs closes) = let left = side_inputs_counted ins in let right = leaving_counted outs in omega (arith, left, right)

  side_inputs_counted : (es : Entries) → row_count (row_in es) + inputs_name_count (side_inputs es) ≤ entries_names es
  side_inputs_counted no_entries = omega arith
  side_inputs_counted (plain name es) =
      let rest = inputs_counted es in side_counted (is_row name) (plain_name name) (inputs_of es) (value (plain_name name) (inputs_of es)) (entries_names es) rest (omega (arith, rest))
  side_inputs_counted (described name class es) =
      let rest = inputs_counted es in side_counted (is_row name) (colon_name name) (inputs_of es) (value (colon_name name) (inputs_of es)) (suc (entries_names es)) (omega (arith, rest)) (omega (arith, rest))
  side_inputs_counted (detailed name w es) =
      let inner = said_counted w in
      let rest = inputs_counted es in
      side_counted (is_row name) (colon_name name) (inputs_of es) (quoted (colon_name name) (said w) (inputs_of es)) (written_names w + entries_names es) (omega (arith, rest)) (omega (arith, inner, rest))

  inputs_counted : (es : Entries) → inputs_name_count (inputs_of es) ≤ entries_names es
  inputs_counted no_entries = omega arith
  inputs_counted (plain name es) = let rest = inputs_counted es in omega (arith, rest)
  inputs_counted (described name class es) = let rest = inputs_counted es in omega (arith, rest)
  inputs_counted (detailed name w es) = let inner = said_counted w in let rest = inputs_counted es in omega (arith, inner, rest)

pub few_names : (tokens : List Token) (e : Signature) → IsEffect tokens e → nat_le (name_count e) 65 ≡ true
few_names tokens e h =
    let counted = said_counted h.tree in
    let few = h.few in
    ap (λ (s : Signature). nat_le (name_count s) 65) (sym h.says) ∙ at_most (name_count (said h.tree)) 65 (omega (arith, counted, few))

-- Heights.

inputs_few : (is : Inputs) → inputs_count is ≤ inputs_name_count is
inputs_few no_inputs = omega arith
inputs_few (value x is) = let rest = inputs_few is in omega (arith, rest)
inputs_few (quoted x e is) = let rest = inputs_few is in omega (arith, rest)

few_small : (e : Signature) → name_count e ≤ 64 → is_small (effect_height e) ≡ true
few_small (signature row is never) h = let few = inputs_few is in and_true (nat_le (inputs_count is) 64) true (at_most (inputs_count is) 64 (omega (arith, h, few))) refl
few_small (signature row is (leaves r xs)) h =
    let few = inputs_few is in and_true (nat_le (inputs_count is) 64) (nat_le (length xs) 64) (at_most (inputs_count is) 64 (omega (arith, h, few))) (at_most (length xs) 64 (omega (arith, h, few)))

pub small_height : (tokens : List Token) (e : Signature) → IsEffect tokens e → is_small (effect_height e) ≡ true
small_height tokens e h =
    let counted = said_counted h.tree in
    let few = h.few in
    ap (λ (s : Signature). is_small (effect_height s)) (sym h.says) ∙ few_small (said h.tree) (omega (arith, counted, few))
