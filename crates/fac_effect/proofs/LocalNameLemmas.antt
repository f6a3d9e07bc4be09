-- Whether the inputs of an effect may be locals, told token by token.
use Rattle.std.proofs.Common.{◌≡◌, ℕ, ◌≤◌, ◌+◌, Bool, true, false, cond, ◌&&◌, ◌||◌, List, [], ◌∷◌, ◌++◌, refl, ap, sym, ◌∙◌, arith}
use Rattle.std.specs.Prelude.{codes, suc}
use Rattle.fac_source.specs.declared.token.Token.{Token}
use Rattle.fac_base.specs.Signatures.{Signature, Inputs as Ins, value, quoted}
use Rattle.fac_effect.specs.declared.spelling.Spelling.{Spelling}
use Rattle.fac_effect.specs.declared.spelling.Spelling.TheVariants as spelled
use Rattle.fac_effect.specs.declared.effect_reader.Side.{Side}
use Rattle.fac_effect.specs.declared.effect_reader.Side.TheVariants.{Inputs, Outputs}
use Rattle.fac_effect.specs.declared.effect_reader.Spot.{Spot}
use Rattle.fac_effect.specs.declared.effect_reader.Spot.TheVariants.{Start, First, Behind, Described}
use Rattle.fac_effect.specs.declared.effect_reader.EffectReader.{EffectReader}
use Rattle.fac_effect.specs.Spellings.{token_spelling, plain_token}
use Rattle.fac_effect.specs.WrittenEffects.{Written, written, Entries, no_entries, plain, described, detailed, written_tokens, entries_tokens, written_names, entries_names, is_row, is_colon, plain_name, colon_name, IsWritten, IsSide, AreValues, most_names, said, side_inputs, inputs_of, IsEffect, IsUnfinished}
use Rattle.fac_effect.specs.EffectReading.{Progress, reads, whole, start, may_end, run, after}
use Rattle.fac_effect.specs.SaidEffects.{effect_of}
use Rattle.fac_effect.specs.LocalNames.{is_local_name, are_local_names, takes_locals, input_at, entry_name, may_name, may_stand, all_may_stand, name_locals}
use Rattle.fac_effect.proofs.SpellingLemmas.{sign_is}
use Rattle.fac_effect.proofs.PassLemmas.{and_true, chain, one, Signs, inside, signs_pass}
use Rattle.fac_effect.proofs.EffectRuns.{at, state, run_append, entry_named, class_named, starts, opens, described_runs}
use Rattle.fac_effect.proofs.EffectLemmas.{whole_is_effect, completes}

-- Signs stand anywhere.

signs : Signs may_stand
signs = record {
  opening = λ r place. ap (λ (s : Spelling). may_stand r s (plain_token place (codes "("))) (sign_is spelled.Opens tt);
  dashing = λ r place. ap (λ (s : Spelling). may_stand r s (plain_token place (codes "--"))) (sign_is spelled.Dashes tt);
  closing = λ r place. ap (λ (s : Spelling). may_stand r s (plain_token place (codes ")"))) (sign_is spelled.Closes tt);
}

-- Names where no input of the whole effect stands.

abbrev Quiet : Side → List Side → Type 0
Quiet Inputs [] = ⊥
Quiet _ _ = Unit {0}

quiet_at : (side : Side) (outer : List Side) (ends : Bool) → Quiet side outer → input_at outer side ends ≡ false
quiet_at Inputs [] ends h = absurd h
quiet_at Inputs (s ∷ outer) ends h = refl
quiet_at Outputs [] ends h = refl
quiet_at Outputs (s ∷ outer) ends h = refl

never_at : (side : Side) (outer : List Side) → input_at outer side false ≡ false
never_at Inputs [] = refl
never_at Inputs (s ∷ outer) = refl
never_at Outputs [] = refl
never_at Outputs (s ∷ outer) = refl

name_at : (side : Side) (spot : Spot) (outer : List Side) (n : ℕ) (t : Token) (b : Bool) → token_spelling t.kind ≡ spelled.Name → input_at outer side (may_end spot) ≡ b → may_stand (at side spot outer n) (token_spelling t.kind) t ≡ may_name b t
name_at side spot outer n t b h k = ap (λ (s : Spelling). may_stand (at side spot outer n) s t) h ∙ ap (λ (x : Bool). may_name x t) k

quiet_name : (side : Side) (spot : Spot) (outer : List Side) (n : ℕ) (t : Token) → Quiet side outer → token_spelling t.kind ≡ spelled.Name → may_stand (at side spot outer n) (token_spelling t.kind) t ≡ true
quiet_name side spot outer n t q h = name_at side spot outer n t false h (quiet_at side outer (may_end spot) q)

class_name : (side : Side) (outer : List Side) (n : ℕ) (t : Token) → token_spelling t.kind ≡ spelled.Name → may_stand (at side Described outer n) (token_spelling t.kind) t ≡ true
class_name side outer n t h = name_at side Described outer n t false h (never_at side outer)

mutual
  described_quiet : (w : Written) (side : Side) (outer : List Side) (n : ℕ) → IsWritten w → n + written_names w ≤ most_names → all_may_stand (state side Described outer n) (written_tokens w) ≡ true
  described_quiet (written o ins d outs c) side outer n h few =
      one may_stand (at side Described outer n) (state Inputs First (side ∷ outer) n) (plain_token o (codes "(")) (entries_tokens ins ++ plain_token d (codes "--") ∷ (entries_tokens outs ++ plain_token c (codes ")") ∷ [])) true true (signs.opening (at side Described outer n) o) (opens side outer n o)
      (inside may_stand signs ins outs d c (side ∷ outer) n true true h.0 h.1 few (side_quiet ins Inputs (side ∷ outer) n tt h.0 (omega (arith, few))) (side_quiet outs Outputs (side ∷ outer) (n + entries_names ins) tt h.1 (omega (arith, few))))

  values_quiet : (es : Entries) (side : Side) (outer : List Side) (n : ℕ) → Quiet side outer → AreValues es → n + entries_names es ≤ most_names → all_may_stand (state side Behind outer n) (entries_tokens es) ≡ true
  values_quiet no_entries side outer n q h few = refl
  values_quiet (plain name es) side outer n q h few =
      one may_stand (at side Behind outer n) (state side Behind outer (suc n)) name (entries_tokens es) true true (quiet_name side Behind outer n name q h.0.0) (entry_named side Behind outer n name false h.0.0 h.0.1 refl h.1 (omega (arith, few)))
      (values_quiet es side outer (suc n) q h.2 (omega (arith, few)))
  values_quiet (described name class es) side outer n q h few =
      one may_stand (at side Behind outer n) (state side Described outer (suc n)) name (class ∷ entries_tokens es) true true (quiet_name side Behind outer n name q h.0.0) (entry_named side Behind outer n name true h.0.0 h.0.1 refl h.1 (omega (arith, few)))
      (one may_stand (at side Described outer (suc n)) (state side Behind outer (suc (suc n))) class (entries_tokens es) true true (class_name side outer (suc n) class h.2.0) (class_named side outer (suc n) class h.2 (omega (arith, few)))
      (values_quiet es side outer (suc (suc n)) q h.3 (omega (arith, few))))
  values_quiet (detailed name w es) side outer n q h few =
      one may_stand (at side Behind outer n) (state side Described outer (suc n)) name (written_tokens w ++ entries_tokens es) true true (quiet_name side Behind outer n name q h.0.0) (entry_named side Behind outer n name true h.0.0 h.0.1 refl h.1 (omega (arith, few)))
      (chain may_stand (state side Described outer (suc n)) (state side Behind outer (suc n + written_names w)) (written_tokens w) (entries_tokens es) true true (described_runs w side outer (suc n) h.2 (omega (arith, few))) (described_quiet w side outer (suc n) h.2 (omega (arith, few)))
      (values_quiet es side outer (suc n + written_names w) q h.3 (omega (arith, few))))

  side_quiet : (es : Entries) (side : Side) (outer : List Side) (n : ℕ) → Quiet side outer → IsSide es → n + entries_names es ≤ most_names → all_may_stand (state side First outer n) (entries_tokens es) ≡ true
  side_quiet no_entries side outer n q h few = refl
  side_quiet (plain name es) side outer n q h few =
      one may_stand (at side First outer n) (state side Behind outer (suc n)) name (entries_tokens es) true true (quiet_name side First outer n name q h.0.0) (entry_named side First outer n name false h.0.0 h.0.1 refl refl (omega (arith, few)))
      (values_quiet es side outer (suc n) q h.1 (omega (arith, few)))
  side_quiet (described name class es) side outer n q h few =
      one may_stand (at side First outer n) (state side Described outer (suc n)) name (class ∷ entries_tokens es) true true (quiet_name side First outer n name q h.0.0) (entry_named side First outer n name true h.0.0 h.0.1 refl refl (omega (arith, few)))
      (one may_stand (at side Described outer (suc n)) (state side Behind outer (suc (suc n))) class (entries_tokens es) true true (class_name side outer (suc n) class h.1.0) (class_named side outer (suc n) class h.1 (omega (arith, few)))
      (values_quiet es side outer (suc (suc n)) q h.2 (omega (arith, few))))
  side_quiet (detailed name w es) side outer n q h few =
      one may_stand (at side First outer n) (state side Described outer (suc n)) name (written_tokens w ++ entries_tokens es) true true (quiet_name side First outer n name q h.0.0) (entry_named side First outer n name true h.0.0 h.0.1 refl refl (omega (arith, few)))
      (chain may_stand (state side Described outer (suc n)) (state side Behind outer (suc n + written_names w)) (written_tokens w) (entries_tokens es) true true (described_runs w side outer (suc n) h.1 (omega (arith, few))) (described_quiet w side outer (suc n) h.1 (omega (arith, few)))
      (values_quiet es side outer (suc n + written_names w) q h.2 (omega (arith, few))))

-- The inputs of the whole effect.

entry_name_is : (t : Token) (c : Bool) → is_colon t ≡ c → entry_name t ≡ cond c (colon_name t) (plain_name t)
entry_name_is t c h = ap (λ (b : Bool). cond b (colon_name t) (plain_name t)) h

-- a name at the beginning of the inputs, and behind others
first_named : (n : ℕ) (t : Token) (c : Bool) → token_spelling t.kind ≡ spelled.Name → is_colon t ≡ c → may_stand (at Inputs First [] n) (token_spelling t.kind) t ≡ (is_row t || is_local_name (cond c (colon_name t) (plain_name t)))
first_named n t c h k = name_at Inputs First [] n t true h refl ∙ ap (λ (x : List ℕ). is_row t || is_local_name x) (entry_name_is t c k)

next_named : (n : ℕ) (t : Token) (c : Bool) → token_spelling t.kind ≡ spelled.Name → is_colon t ≡ c → is_row t ≡ false → may_stand (at Inputs Behind [] n) (token_spelling t.kind) t ≡ is_local_name (cond c (colon_name t) (plain_name t))
next_named n t c h k free =
    name_at Inputs Behind [] n t true h refl ∙ ap (λ (b : Bool). b || is_local_name (entry_name t)) free ∙ ap is_local_name (entry_name_is t c k)

values_named : (es : Entries) (n : ℕ) → AreValues es → n + entries_names es ≤ most_names → all_may_stand (state Inputs Behind [] n) (entries_tokens es) ≡ are_local_names (inputs_of es)
values_named no_entries n h few = refl
values_named (plain name es) n h few =
    one may_stand (at Inputs Behind [] n) (state Inputs Behind [] (suc n)) name (entries_tokens es) _ _ (next_named n name false h.0.0 h.0.1 h.1) (entry_named Inputs Behind [] n name false h.0.0 h.0.1 refl h.1 (omega (arith, few)))
    (values_named es (suc n) h.2 (omega (arith, few)))
values_named (described name class es) n h few =
    one may_stand (at Inputs Behind [] n) (state Inputs Described [] (suc n)) name (class ∷ entries_tokens es) _ _ (next_named n name true h.0.0 h.0.1 h.1) (entry_named Inputs Behind [] n name true h.0.0 h.0.1 refl h.1 (omega (arith, few)))
    (one may_stand (at Inputs Described [] (suc n)) (state Inputs Behind [] (suc (suc n))) class (entries_tokens es) true _ (class_name Inputs [] (suc n) class h.2.0) (class_named Inputs [] (suc n) class h.2 (omega (arith, few)))
    (values_named es (suc (suc n)) h.3 (omega (arith, few))))
values_named (detailed name w es) n h few =
    one may_stand (at Inputs Behind [] n) (state Inputs Described [] (suc n)) name (written_tokens w ++ entries_tokens es) _ _ (next_named n name true h.0.0 h.0.1 h.1) (entry_named Inputs Behind [] n name true h.0.0 h.0.1 refl h.1 (omega (arith, few)))
    (chain may_stand (state Inputs Described [] (suc n)) (state Inputs Behind [] (suc n + written_names w)) (written_tokens w) (entries_tokens es) true _ (described_runs w Inputs [] (suc n) h.2 (omega (arith, few))) (described_quiet w Inputs [] (suc n) h.2 (omega (arith, few)))
    (values_named es (suc n + written_names w) h.3 (omega (arith, few))))

-- the first entry, which is a row variable or an input
row_or_value : (b : Bool) (x : List ℕ) (is : Ins) → ((b || is_local_name x) && are_local_names is) ≡ are_local_names (cond b is (value x is))
row_or_value true x is = refl
row_or_value false x is = refl

row_or_quoted : (b : Bool) (x : List ℕ) (e : Signature) (is : Ins) → ((b || is_local_name x) && are_local_names is) ≡ are_local_names (cond b is (quoted x e is))
row_or_quoted true x e is = refl
row_or_quoted false x e is = refl

side_named : (es : Entries) (n : ℕ) → IsSide es → n + entries_names es ≤ most_names → all_may_stand (state Inputs First [] n) (entries_tokens es) ≡ are_local_names (side_inputs es)
side_named no_entries n h few = refl
side_named (plain name es) n h few =
    one may_stand (at Inputs First [] n) (state Inputs Behind [] (suc n)) name (entries_tokens es) _ _ (first_named n name false h.0.0 h.0.1) (entry_named Inputs First [] n name false h.0.0 h.0.1 refl refl (omega (arith, few)))
    (values_named es (suc n) h.1 (omega (arith, few)))
    ∙ row_or_value (is_row name) (plain_name name) (inputs_of es)
side_named (described name class es) n h few =
    one may_stand (at Inputs First [] n) (state Inputs Described [] (suc n)) name (class ∷ entries_tokens es) _ _ (first_named n name true h.0.0 h.0.1) (entry_named Inputs First [] n name true h.0.0 h.0.1 refl refl (omega (arith, few)))
    (one may_stand (at Inputs Described [] (suc n)) (state Inputs Behind [] (suc (suc n))) class (entries_tokens es) true _ (class_name Inputs [] (suc n) class h.1.0) (class_named Inputs [] (suc n) class h.1 (omega (arith, few)))
    (values_named es (suc (suc n)) h.2 (omega (arith, few))))
    ∙ row_or_value (is_row name) (colon_name name) (inputs_of es)
side_named (detailed name w es) n h few =
    one may_stand (at Inputs First [] n) (state Inputs Described [] (suc n)) name (written_tokens w ++ entries_tokens es) _ _ (first_named n name true h.0.0 h.0.1) (entry_named Inputs First [] n name true h.0.0 h.0.1 refl refl (omega (arith, few)))
    (chain may_stand (state Inputs Described [] (suc n)) (state Inputs Behind [] (suc n + written_names w)) (written_tokens w) (entries_tokens es) true _ (described_runs w Inputs [] (suc n) h.1 (omega (arith, few))) (described_quiet w Inputs [] (suc n) h.1 (omega (arith, few)))
    (values_named es (suc n + written_names w) h.2 (omega (arith, few))))
    ∙ row_or_quoted (is_row name) (colon_name name) (said w) (inputs_of es)

written_named : (w : Written) → IsWritten w → written_names w ≤ most_names → name_locals (written_tokens w) ≡ takes_locals (said w)
written_named (written o ins d outs c) h few =
    one may_stand (at Inputs Start [] 0) (state Inputs First [] 0) (plain_token o (codes "(")) (entries_tokens ins ++ plain_token d (codes "--") ∷ (entries_tokens outs ++ plain_token c (codes ")") ∷ [])) true _ (signs.opening (at Inputs Start [] 0) o) (starts Inputs [] 0 o)
    (inside may_stand signs ins outs d c [] 0 (are_local_names (side_inputs ins)) true h.0 h.1 (omega (arith, few)) (side_named ins 0 h.0 (omega (arith, few))) (side_quiet outs Outputs [] (0 + entries_names ins) tt h.1 (omega (arith, few))) ∙ and_true (are_local_names (side_inputs ins)))

pub inputs_are_named : (tokens : List Token) (effect : Signature) → IsEffect tokens effect → name_locals tokens ≡ takes_locals effect
inputs_are_named tokens effect h = ap name_locals (sym h.spelled) ∙ written_named h.tree h.fits h.few ∙ ap takes_locals h.says

pub locals_go_on : (tokens : List Token) (r : EffectReader) → after tokens ≡ reads r → name_locals tokens ≡ true → (u : IsUnfinished tokens) × (takes_locals u.effect ≡ true)
locals_go_on tokens r h named =
    let c = completes r.spot r.side r.outer r.names in
    let us = c.next ∷ c.rest in
    let ts = tokens ++ us in
    let e : after ts ≡ whole = run_append (reads start) tokens us ∙ ap (λ (p : Progress). run p us) h ∙ c.ends in
    let is = whole_is_effect ts e in (
      record { next = c.next; rest = c.rest; effect = effect_of ts; is = is },
      sym (inputs_are_named ts (effect_of ts) is) ∙ chain may_stand (reads start) (reads r) tokens us true true h named (signs_pass may_stand signs (reads r) r.spot r.side r.outer r.names),
    )

-- tokens behind others that are read
pub names_append : (ts us : List Token) (r : EffectReader) → after ts ≡ reads r → name_locals (ts ++ us) ≡ (name_locals ts && all_may_stand (reads r) us)
names_append ts us r h = chain may_stand (reads start) (reads r) ts us (name_locals ts) (all_may_stand (reads r) us) h refl refl
