-- Effects without row variables, told token by token, and how many inputs an effect has.
use Rattle.std.proofs.Common.{◌≡◌, ℕ, ◌≤◌, ◌+◌, Bool, true, false, cond, not, ◌&&◌, List, [], ◌∷◌, ◌++◌, Result, Ok, Err, IfOk, refl, ap, sym, ◌∙◌, subst, arith}
use Rattle.std.specs.Prelude.{codes, suc}
use Rattle.fac_base.specs.declared.memory.Memory.{Memory}
use Rattle.fac_base.specs.declared.place.Place.{Place}
use Rattle.fac_source.specs.declared.token.Token.{Token}
use Rattle.fac_base.specs.Signatures.{Signature, Inputs as Ins, value, quoted}
use Rattle.fac_base.specs.Effects.{inputs_count, effect_height}
use Rattle.fac_effect.specs.declared.spelling.Spelling.{Spelling}
use Rattle.fac_effect.specs.declared.spelling.Spelling.TheVariants as spelled
use Rattle.fac_effect.specs.declared.effect_reader.Side.{Side}
use Rattle.fac_effect.specs.declared.effect_reader.Side.TheVariants.{Inputs, Outputs}
use Rattle.fac_effect.specs.declared.effect_reader.Spot.{Spot}
use Rattle.fac_effect.specs.declared.effect_reader.Spot.TheVariants.{First, Behind, Described}
use Rattle.fac_effect.specs.declared.effect_reader.EffectReader.{EffectReader}
use Rattle.fac_effect.specs.Spellings.{token_spelling, plain_token}
use Rattle.fac_effect.specs.WrittenEffects.{Written, written, Entries, no_entries, plain, described, detailed, written_tokens, entries_tokens, written_names, entries_names, is_row, plain_name, colon_name, IsWritten, IsSide, AreValues, most_names, said, side_inputs, inputs_of, IsEffect}
use Rattle.fac_effect.specs.EffectReading.{Progress, reads, whole, opened, may_end, all_pass, run, after}
use Rattle.fac_effect.specs.SaidEffects.{effect_of}
use Rattle.fac_effect.specs.RowlessEffects.{is_rowless, are_rowless, opened_tokens, IsRowless, IsUnfinishedRowless, behind_opens, is_no_row, have_no_row}
use Rattle.fac_effect.specs.inner.EffectParts.{GivesOpened}
use Rattle.fac_effect.proofs.SpellingLemmas.{sign_is}
use Rattle.fac_effect.proofs.PassLemmas.{chain, one, Signs, inside, signs_pass}
use Rattle.fac_effect.proofs.EffectRuns.{at, state, run_append, entry_named, class_named, starts, opens, described_runs}
use Rattle.fac_effect.proofs.EffectLemmas.{effect_is_whole, whole_is_effect, completes}
use Rattle.fac_effect.proofs.PartLemmas.{effect_made}

signs : Signs is_no_row
signs = record {
  opening = λ r place. ap (λ (s : Spelling). is_no_row r s (plain_token place (codes "("))) (sign_is spelled.Opens tt);
  dashing = λ r place. ap (λ (s : Spelling). is_no_row r s (plain_token place (codes "--"))) (sign_is spelled.Dashes tt);
  closing = λ r place. ap (λ (s : Spelling). is_no_row r s (plain_token place (codes ")"))) (sign_is spelled.Closes tt);
}

-- a name
named : (side : Side) (spot : Spot) (outer : List Side) (n : ℕ) (t : Token) → token_spelling t.kind ≡ spelled.Name → is_no_row (at side spot outer n) (token_spelling t.kind) t ≡ not (may_end spot && is_row t)
named side spot outer n t h = ap (λ (s : Spelling). is_no_row (at side spot outer n) s t) h

mutual
  described_told : (w : Written) (side : Side) (outer : List Side) (n : ℕ) → IsWritten w → n + written_names w ≤ most_names → all_pass is_no_row (state side Described outer n) (written_tokens w) ≡ is_rowless w
  described_told (written o ins d outs c) side outer n h few =
      one is_no_row (at side Described outer n) (state Inputs First (side ∷ outer) n) (plain_token o (codes "(")) (entries_tokens ins ++ plain_token d (codes "--") ∷ (entries_tokens outs ++ plain_token c (codes ")") ∷ [])) true (are_rowless ins && are_rowless outs) (signs.opening (at side Described outer n) o) (opens side outer n o)
      (inside is_no_row signs ins outs d c (side ∷ outer) n (are_rowless ins) (are_rowless outs) h.0 h.1 few (side_told ins Inputs (side ∷ outer) n h.0 (omega (arith, few))) (side_told outs Outputs (side ∷ outer) (n + entries_names ins) h.1 (omega (arith, few))))

  values_told : (es : Entries) (side : Side) (outer : List Side) (n : ℕ) → AreValues es → n + entries_names es ≤ most_names → all_pass is_no_row (state side Behind outer n) (entries_tokens es) ≡ are_rowless es
  values_told no_entries side outer n h few = refl
  values_told (plain name es) side outer n h few =
      one is_no_row (at side Behind outer n) (state side Behind outer (suc n)) name (entries_tokens es) (not (is_row name)) (are_rowless es) (named side Behind outer n name h.0.0) (entry_named side Behind outer n name false h.0.0 h.0.1 refl h.1 (omega (arith, few)))
      (values_told es side outer (suc n) h.2 (omega (arith, few)))
  values_told (described name class es) side outer n h few =
      one is_no_row (at side Behind outer n) (state side Described outer (suc n)) name (class ∷ entries_tokens es) (not (is_row name)) (are_rowless es) (named side Behind outer n name h.0.0) (entry_named side Behind outer n name true h.0.0 h.0.1 refl h.1 (omega (arith, few)))
      (one is_no_row (at side Described outer (suc n)) (state side Behind outer (suc (suc n))) class (entries_tokens es) true (are_rowless es) (named side Described outer (suc n) class h.2.0) (class_named side outer (suc n) class h.2 (omega (arith, few)))
      (values_told es side outer (suc (suc n)) h.3 (omega (arith, few))))
  values_told (detailed name w es) side outer n h few =
      one is_no_row (at side Behind outer n) (state side Described outer (suc n)) name (written_tokens w ++ entries_tokens es) (not (is_row name)) (is_rowless w && are_rowless es) (named side Behind outer n name h.0.0) (entry_named side Behind outer n name true h.0.0 h.0.1 refl h.1 (omega (arith, few)))
      (chain is_no_row (state side Described outer (suc n)) (state side Behind outer (suc n + written_names w)) (written_tokens w) (entries_tokens es) (is_rowless w) (are_rowless es) (described_runs w side outer (suc n) h.2 (omega (arith, few))) (described_told w side outer (suc n) h.2 (omega (arith, few)))
      (values_told es side outer (suc n + written_names w) h.3 (omega (arith, few))))

  side_told : (es : Entries) (side : Side) (outer : List Side) (n : ℕ) → IsSide es → n + entries_names es ≤ most_names → all_pass is_no_row (state side First outer n) (entries_tokens es) ≡ are_rowless es
  side_told no_entries side outer n h few = refl
  side_told (plain name es) side outer n h few =
      one is_no_row (at side First outer n) (state side Behind outer (suc n)) name (entries_tokens es) (not (is_row name)) (are_rowless es) (named side First outer n name h.0.0) (entry_named side First outer n name false h.0.0 h.0.1 refl refl (omega (arith, few)))
      (values_told es side outer (suc n) h.1 (omega (arith, few)))
  side_told (described name class es) side outer n h few =
      one is_no_row (at side First outer n) (state side Described outer (suc n)) name (class ∷ entries_tokens es) (not (is_row name)) (are_rowless es) (named side First outer n name h.0.0) (entry_named side First outer n name true h.0.0 h.0.1 refl refl (omega (arith, few)))
      (one is_no_row (at side Described outer (suc n)) (state side Behind outer (suc (suc n))) class (entries_tokens es) true (are_rowless es) (named side Described outer (suc n) class h.1.0) (class_named side outer (suc n) class h.1 (omega (arith, few)))
      (values_told es side outer (suc (suc n)) h.2 (omega (arith, few))))
  side_told (detailed name w es) side outer n h few =
      one is_no_row (at side First outer n) (state side Described outer (suc n)) name (written_tokens w ++ entries_tokens es) (not (is_row name)) (is_rowless w && are_rowless es) (named side First outer n name h.0.0) (entry_named side First outer n name true h.0.0 h.0.1 refl refl (omega (arith, few)))
      (chain is_no_row (state side Described outer (suc n)) (state side Behind outer (suc n + written_names w)) (written_tokens w) (entries_tokens es) (is_rowless w) (are_rowless es) (described_runs w side outer (suc n) h.1 (omega (arith, few))) (described_told w side outer (suc n) h.1 (omega (arith, few)))
      (values_told es side outer (suc n + written_names w) h.2 (omega (arith, few))))

written_told : (w : Written) (p : Place) (ts : List Token) → IsWritten w → written_names w ≤ most_names → written_tokens w ≡ opened_tokens p ts → have_no_row ts ≡ is_rowless w
written_told (written o ins d outs c) p ts h few e =
    let us = entries_tokens ins ++ plain_token d (codes "--") ∷ (entries_tokens outs ++ plain_token c (codes ")") ∷ []) in
    let same : us ≡ ts = cc in
    ap have_no_row (sym same)
    ∙ inside is_no_row signs ins outs d c [] 0 (are_rowless ins) (are_rowless outs) h.0 h.1 (omega (arith, few)) (side_told ins Inputs [] 0 h.0 (omega (arith, few))) (side_told outs Outputs [] (0 + entries_names ins) h.1 (omega (arith, few)))

told : (p : Place) (ts : List Token) (effect : Signature) (is : IsEffect (opened_tokens p ts) effect) → have_no_row ts ≡ is_rowless is.tree
told p ts effect is = written_told is.tree p ts is.fits is.few is.spelled

opened_read : (p : Place) (ts : List Token) → after (opened_tokens p ts) ≡ behind_opens ts
opened_read p ts = ap (λ (x : Progress). run x ts) (starts Inputs [] 0 p)

pub whole_is_rowless : (p : Place) (ts : List Token) → behind_opens ts ≡ whole → have_no_row ts ≡ true → IsRowless p ts (effect_of (opened_tokens p ts))
whole_is_rowless p ts e none =
    let is = whole_is_effect (opened_tokens p ts) (opened_read p ts ∙ e) in
    record { is = is; rowless = sym (told p ts (effect_of (opened_tokens p ts)) is) ∙ none }

pub rowless_is_whole : (p : Place) (ts : List Token) (effect : Signature) → IsRowless p ts effect → (behind_opens ts ≡ whole) × (have_no_row ts ≡ true) × (effect_of (opened_tokens p ts) ≡ effect)
rowless_is_whole p ts effect h =
    let all = effect_is_whole (opened_tokens p ts) effect h.is in
    (sym (opened_read p ts) ∙ all.0, told p ts effect h.is ∙ h.rowless, all.1)

-- tokens that complete an effect, and have no row variable
pub record CompletesRowless (ts : List Token) : Type 0 where
  pub next : Token
  pub rest : List Token
  pub ends : behind_opens (ts ++ next ∷ rest) ≡ whole
  pub none : have_no_row (ts ++ next ∷ rest) ≡ true

pub completes_rowless : (ts : List Token) (r : EffectReader) → behind_opens ts ≡ reads r → have_no_row ts ≡ true → CompletesRowless ts
completes_rowless ts r e none =
    let c = completes r.spot r.side r.outer r.names in
    let us = c.next ∷ c.rest in
    record {
      next = c.next;
      rest = c.rest;
      ends = run_append (reads opened) ts us ∙ ap (λ (x : Progress). run x us) e ∙ c.ends;
      none = chain is_no_row (reads opened) (reads r) ts us true true e none (signs_pass is_no_row signs (reads r) r.spot r.side r.outer r.names);
    }

pub rowless_goes_on : (p : Place) (ts : List Token) (r : EffectReader) → behind_opens ts ≡ reads r → have_no_row ts ≡ true → IsUnfinishedRowless p ts
rowless_goes_on p ts r e none =
    let c = completes_rowless ts r e none in
    record { next = c.next; rest = c.rest; effect = effect_of (opened_tokens p (ts ++ c.next ∷ c.rest)); is = whole_is_rowless p (ts ++ c.next ∷ c.rest) c.ends c.none }

-- tokens behind others that are read
pub none_append : (ts us : List Token) (r : EffectReader) → behind_opens ts ≡ reads r → have_no_row (ts ++ us) ≡ (have_no_row ts && all_pass is_no_row (reads r) us)
none_append ts us r h = chain is_no_row (reads opened) (reads r) ts us (have_no_row ts) (all_pass is_no_row (reads r) us) h refl refl

-- what an effect says whose `(` was passed
pub opened_made : (ts now : List Token) (r : Result Signature Memory) → behind_opens ts ≡ whole → GivesOpened ts now r → IfOk r (λ effect. (p : Place) → effect ≡ effect_of (opened_tokens p ts))
opened_made ts now (Err memory) h gives = tt
opened_made ts now (Ok effect) h gives = λ p. effect_made (opened_tokens p ts) now (Ok effect) (opened_read p ts ∙ h) (gives (opened_tokens p ts) refl)

-- How many inputs there are.

few_of : (b : Bool) (x y : Ins) (n : ℕ) → inputs_count x ≤ n → inputs_count y ≤ n → inputs_count (cond b x y) ≤ n
few_of true x y n h k = h
few_of false x y n h k = k

values_few : (es : Entries) → inputs_count (inputs_of es) ≤ entries_names es
values_few no_entries = omega arith
values_few (plain name es) = let few = values_few es in omega (arith, few)
values_few (described name class es) = let few = values_few es in omega (arith, few)
values_few (detailed name w es) = let few = values_few es in omega (arith, few)

side_few : (es : Entries) → inputs_count (side_inputs es) ≤ entries_names es
side_few no_entries = omega arith
side_few (plain name es) = let few = values_few es in few_of (is_row name) (inputs_of es) (value (plain_name name) (inputs_of es)) (suc (entries_names es)) (omega (arith, few)) (omega (arith, few))
side_few (described name class es) = let few = values_few es in few_of (is_row name) (inputs_of es) (value (colon_name name) (inputs_of es)) (suc (suc (entries_names es))) (omega (arith, few)) (omega (arith, few))
side_few (detailed name w es) = let few = values_few es in few_of (is_row name) (inputs_of es) (quoted (colon_name name) (said w) (inputs_of es)) (suc (written_names w + entries_names es)) (omega (arith, few)) (omega (arith, few))

written_few : (w : Written) → written_names w ≤ most_names → (effect_height (said w)).ins ≤ most_names
written_few (written o ins d outs c) few = let ins_few = side_few ins in omega (arith, few, ins_few)

-- an effect whose tokens are whole has few inputs
pub few_inputs : (p : Place) (ts : List Token) → behind_opens ts ≡ whole → (effect_height (effect_of (opened_tokens p ts))).ins ≤ most_names
few_inputs p ts e =
    let is = whole_is_effect (opened_tokens p ts) (opened_read p ts ∙ e) in
    subst (λ (x : Signature). (effect_height x).ins ≤ most_names) is.says (written_few is.tree is.few)
