-- The tokens of an effect are read to its end.
use Rattle.std.proofs.Common.{◌≡◌, ℕ, ◌≤◌, ◌<◌, ◌+◌, Bool, true, false, cond, ◌&&◌, List, [], ◌∷◌, ◌++◌, refl, ap, ◌∙◌, arith}
use Rattle.std.specs.Prelude.{codes, nat_lt, suc}
use Rattle.std.proofs.lemmas.Bool.Decides.{Decides-ltb}
use Rattle.fac_base.specs.declared.place.Place.{Place}
use Rattle.fac_source.specs.declared.token.Token.{Token}
use Rattle.fac_effect.specs.declared.spelling.Spelling.{Spelling}
use Rattle.fac_effect.specs.declared.spelling.Spelling.TheVariants as spelled
use Rattle.fac_effect.specs.declared.effect_reader.Side.{Side}
use Rattle.fac_effect.specs.declared.effect_reader.Side.TheVariants.{Inputs, Outputs}
use Rattle.fac_effect.specs.declared.effect_reader.Spot.{Spot}
use Rattle.fac_effect.specs.declared.effect_reader.Spot.TheVariants.{Start, First, Behind, Described}
use Rattle.fac_effect.specs.declared.effect_reader.EffectWhy.{EffectWhy}
use Rattle.fac_effect.specs.declared.effect_reader.EffectWhy.TheVariants.{RowPlace, TooWide}
use Rattle.fac_effect.specs.declared.effect_reader.EffectReader.{EffectReader}
use Rattle.fac_effect.specs.Spellings.{token_spelling, plain_token}
use Rattle.fac_effect.specs.WrittenEffects.{Written, written, Entries, no_entries, plain, described, detailed, written_tokens, entries_tokens, written_names, entries_names, is_row, is_colon, IsPlainName, IsWritten, IsSide, AreValues, most_names}
use Rattle.fac_effect.specs.EffectReading.{Progress, reads, refused, behind_name, place_name, is_behind, may_end, dashes_step, closed, closes_step, step, go_on, run}
use Rattle.fac_effect.proofs.SpellingLemmas.{sign_is}

-- a reader by its parts
abbrev pub at : Side → Spot → List Side → ℕ → EffectReader
at side spot outer names = record { side = side; spot = spot; outer = outer; names = names }

abbrev pub state : Side → Spot → List Side → ℕ → Progress
state side spot outer names = reads (at side spot outer names)

pub run_append : (p : Progress) (xs ys : List Token) → run p (xs ++ ys) ≡ run (run p xs) ys
run_append p [] ys = refl
run_append p (x ∷ xs) ys = run_append (go_on p x) xs ys

pub refused_stays : (why : EffectWhy) (ts : List Token) → run (refused why) ts ≡ refused why
refused_stays why [] = refl
refused_stays why (t ∷ ts) = refused_stays why ts

-- a token by its spelling
by_spelling : (r : EffectReader) (t : Token) (s : Spelling) → token_spelling t.kind ≡ s → go_on (reads r) t ≡ step r s t
by_spelling r t s h = ap (λ (x : Spelling). step r x t) h

-- one token, and those behind it
pub one : (p q : Progress) (t : Token) (ts : List Token) (o : Progress) → go_on p t ≡ q → run q ts ≡ o → run p (t ∷ ts) ≡ o
one p q t ts o h k = ap (λ (x : Progress). run x ts) h ∙ k

-- tokens, and those behind them
pub chain : (p q : Progress) (xs ys : List Token) (o : Progress) → run p xs ≡ q → run q ys ≡ o → run p (xs ++ ys) ≡ o
chain p q xs ys o h k = run_append p xs ys ∙ ap (λ (x : Progress). run x ys) h ∙ k

counted : (side : Side) (spot : Spot) (outer : List Side) (m n : ℕ) → m ≡ n → state side spot outer m ≡ state side spot outer n
counted side spot outer m n h = ap (state side spot outer) h

-- Names.

picked : (b c : Bool) (x y z : Progress) → b ≡ false → c ≡ true → cond b x (cond c y z) ≡ y
picked true c x y z h k = cc
picked false true x y z h k = refl
picked false false x y z h k = cc

named : (r : EffectReader) (t : Token) (c : Bool) → token_spelling t.kind ≡ spelled.Name → is_colon t ≡ c → (is_behind r.spot && is_row t) ≡ false → r.names < most_names → go_on (reads r) t ≡ place_name r.spot c r
named r t c h k free few =
    by_spelling r t spelled.Name h ∙ picked (is_behind r.spot && is_row t) (nat_lt r.names most_names) (refused RowPlace) (place_name r.spot (is_colon t) r) (refused TooWide) free ((Decides-ltb r.names most_names).1 few) ∙ ap (λ (b : Bool). place_name r.spot b r) k

entry_placed : (side : Side) (spot : Spot) (outer : List Side) (n : ℕ) (c : Bool) → may_end spot ≡ true → place_name spot c (at side spot outer n) ≡ state side (behind_name c) outer (suc n)
entry_placed side Start outer n c h = cc
entry_placed side First outer n c h = refl
entry_placed side Behind outer n c h = refl
entry_placed side Described outer n c h = cc

-- the name of an entry
pub entry_named : (side : Side) (spot : Spot) (outer : List Side) (n : ℕ) (t : Token) (c : Bool) → token_spelling t.kind ≡ spelled.Name → is_colon t ≡ c → may_end spot ≡ true → (is_behind spot && is_row t) ≡ false → n < most_names → go_on (state side spot outer n) t ≡ state side (behind_name c) outer (suc n)
entry_named side spot outer n t c h k ends free few = named (at side spot outer n) t c h k free few ∙ entry_placed side spot outer n c ends

-- the class behind a name
pub class_named : (side : Side) (outer : List Side) (n : ℕ) (t : Token) → IsPlainName t → n < most_names → go_on (state side Described outer n) t ≡ state side Behind outer (suc n)
class_named side outer n t h few = named (at side Described outer n) t false h.0 h.1 refl few

-- Signs.

pub starts : (side : Side) (outer : List Side) (n : ℕ) (place : Place) → go_on (state side Start outer n) (plain_token place (codes "(")) ≡ state Inputs First outer n
starts side outer n place = by_spelling (at side Start outer n) (plain_token place (codes "(")) spelled.Opens (sign_is spelled.Opens tt)

pub opens : (side : Side) (outer : List Side) (n : ℕ) (place : Place) → go_on (state side Described outer n) (plain_token place (codes "(")) ≡ state Inputs First (side ∷ outer) n
opens side outer n place = by_spelling (at side Described outer n) (plain_token place (codes "(")) spelled.Opens (sign_is spelled.Opens tt)

pub dashes : (spot : Spot) (outer : List Side) (n : ℕ) (place : Place) → may_end spot ≡ true → go_on (state Inputs spot outer n) (plain_token place (codes "--")) ≡ state Outputs First outer n
dashes spot outer n place h = by_spelling (at Inputs spot outer n) (plain_token place (codes "--")) spelled.Dashes (sign_is spelled.Dashes tt) ∙ ap (λ (b : Bool). dashes_step b Inputs (at Inputs spot outer n)) h

pub closes : (spot : Spot) (outer : List Side) (n : ℕ) (place : Place) → may_end spot ≡ true → go_on (state Outputs spot outer n) (plain_token place (codes ")")) ≡ closed outer n
closes spot outer n place h = by_spelling (at Outputs spot outer n) (plain_token place (codes ")")) spelled.Closes (sign_is spelled.Closes tt) ∙ ap (λ (b : Bool). closes_step b Outputs (at Outputs spot outer n)) h

-- Sides and effects.

-- the spot behind a side
abbrev pub side_end : Entries → Spot
side_end no_entries = First
side_end _ = Behind

pub side_may_end : (es : Entries) → may_end (side_end es) ≡ true
side_may_end no_entries = refl
side_may_end (plain name es) = refl
side_may_end (described name class es) = refl
side_may_end (detailed name w es) = refl

-- the tokens of an effect behind its `(`
inside : (ins outs : Entries) (d c : Place) (outer : List Side) (n : ℕ) → n + (entries_names ins + entries_names outs) ≤ most_names → run (state Inputs First outer n) (entries_tokens ins) ≡ state Inputs (side_end ins) outer (n + entries_names ins) → run (state Outputs First outer (n + entries_names ins)) (entries_tokens outs) ≡ state Outputs (side_end outs) outer (n + entries_names ins + entries_names outs) → run (state Inputs First outer n) (entries_tokens ins ++ plain_token d (codes "--") ∷ (entries_tokens outs ++ plain_token c (codes ")") ∷ [])) ≡ closed outer (n + (entries_names ins + entries_names outs))
inside ins outs d c outer n few h k =
    let os = entries_tokens outs ++ plain_token c (codes ")") ∷ [] in
    let sum : n + entries_names ins + entries_names outs ≡ n + (entries_names ins + entries_names outs) = omega arith in
    chain (state Inputs First outer n) (state Inputs (side_end ins) outer (n + entries_names ins)) (entries_tokens ins) (plain_token d (codes "--") ∷ os) _ h
    (one (state Inputs (side_end ins) outer (n + entries_names ins)) (state Outputs First outer (n + entries_names ins)) (plain_token d (codes "--")) os _ (dashes (side_end ins) outer (n + entries_names ins) d (side_may_end ins))
    (chain (state Outputs First outer (n + entries_names ins)) (state Outputs (side_end outs) outer (n + entries_names ins + entries_names outs)) (entries_tokens outs) (plain_token c (codes ")") ∷ []) _ k
    (closes (side_end outs) outer (n + entries_names ins + entries_names outs) c (side_may_end outs) ∙ ap (closed outer) sum)))

mutual
  pub described_runs : (w : Written) (side : Side) (outer : List Side) (n : ℕ) → IsWritten w → n + written_names w ≤ most_names → run (state side Described outer n) (written_tokens w) ≡ state side Behind outer (n + written_names w)
  described_runs (written o ins d outs c) side outer n h few =
      one (state side Described outer n) (state Inputs First (side ∷ outer) n) (plain_token o (codes "(")) (entries_tokens ins ++ plain_token d (codes "--") ∷ (entries_tokens outs ++ plain_token c (codes ")") ∷ [])) _ (opens side outer n o)
      (inside ins outs d c (side ∷ outer) n few (side_runs ins Inputs (side ∷ outer) n h.0 (omega (arith, few))) (side_runs outs Outputs (side ∷ outer) (n + entries_names ins) h.1 (omega (arith, few))))

  pub values_run : (es : Entries) (side : Side) (outer : List Side) (n : ℕ) → AreValues es → n + entries_names es ≤ most_names → run (state side Behind outer n) (entries_tokens es) ≡ state side Behind outer (n + entries_names es)
  values_run no_entries side outer n h few = counted side Behind outer n (n + 0) (omega arith)
  values_run (plain name es) side outer n h few =
      one (state side Behind outer n) (state side Behind outer (suc n)) name (entries_tokens es) _ (entry_named side Behind outer n name false h.0.0 h.0.1 refl h.1 (omega (arith, few)))
      (values_run es side outer (suc n) h.2 (omega (arith, few)) ∙ counted side Behind outer (suc n + entries_names es) (n + suc (entries_names es)) (omega arith))
  values_run (described name class es) side outer n h few =
      one (state side Behind outer n) (state side Described outer (suc n)) name (class ∷ entries_tokens es) _ (entry_named side Behind outer n name true h.0.0 h.0.1 refl h.1 (omega (arith, few)))
      (one (state side Described outer (suc n)) (state side Behind outer (suc (suc n))) class (entries_tokens es) _ (class_named side outer (suc n) class h.2 (omega (arith, few)))
      (values_run es side outer (suc (suc n)) h.3 (omega (arith, few)) ∙ counted side Behind outer (suc (suc n) + entries_names es) (n + suc (suc (entries_names es))) (omega arith)))
  values_run (detailed name w es) side outer n h few =
      one (state side Behind outer n) (state side Described outer (suc n)) name (written_tokens w ++ entries_tokens es) _ (entry_named side Behind outer n name true h.0.0 h.0.1 refl h.1 (omega (arith, few)))
      (chain (state side Described outer (suc n)) (state side Behind outer (suc n + written_names w)) (written_tokens w) (entries_tokens es) _ (described_runs w side outer (suc n) h.2 (omega (arith, few)))
      (values_run es side outer (suc n + written_names w) h.3 (omega (arith, few)) ∙ counted side Behind outer (suc n + written_names w + entries_names es) (n + suc (written_names w + entries_names es)) (omega arith)))

  pub side_runs : (es : Entries) (side : Side) (outer : List Side) (n : ℕ) → IsSide es → n + entries_names es ≤ most_names → run (state side First outer n) (entries_tokens es) ≡ state side (side_end es) outer (n + entries_names es)
  side_runs no_entries side outer n h few = counted side First outer n (n + 0) (omega arith)
  side_runs (plain name es) side outer n h few =
      one (state side First outer n) (state side Behind outer (suc n)) name (entries_tokens es) _ (entry_named side First outer n name false h.0.0 h.0.1 refl refl (omega (arith, few)))
      (values_run es side outer (suc n) h.1 (omega (arith, few)) ∙ counted side Behind outer (suc n + entries_names es) (n + suc (entries_names es)) (omega arith))
  side_runs (described name class es) side outer n h few =
      one (state side First outer n) (state side Described outer (suc n)) name (class ∷ entries_tokens es) _ (entry_named side First outer n name true h.0.0 h.0.1 refl refl (omega (arith, few)))
      (one (state side Described outer (suc n)) (state side Behind outer (suc (suc n))) class (entries_tokens es) _ (class_named side outer (suc n) class h.1 (omega (arith, few)))
      (values_run es side outer (suc (suc n)) h.2 (omega (arith, few)) ∙ counted side Behind outer (suc (suc n) + entries_names es) (n + suc (suc (entries_names es))) (omega arith)))
  side_runs (detailed name w es) side outer n h few =
      one (state side First outer n) (state side Described outer (suc n)) name (written_tokens w ++ entries_tokens es) _ (entry_named side First outer n name true h.0.0 h.0.1 refl refl (omega (arith, few)))
      (chain (state side Described outer (suc n)) (state side Behind outer (suc n + written_names w)) (written_tokens w) (entries_tokens es) _ (described_runs w side outer (suc n) h.1 (omega (arith, few)))
      (values_run es side outer (suc n + written_names w) h.2 (omega (arith, few)) ∙ counted side Behind outer (suc n + written_names w + entries_names es) (n + suc (written_names w + entries_names es)) (omega arith)))

pub inside_runs : (ins outs : Entries) (d c : Place) (outer : List Side) (n : ℕ) → IsSide ins → IsSide outs → n + (entries_names ins + entries_names outs) ≤ most_names → run (state Inputs First outer n) (entries_tokens ins ++ plain_token d (codes "--") ∷ (entries_tokens outs ++ plain_token c (codes ")") ∷ [])) ≡ closed outer (n + (entries_names ins + entries_names outs))
inside_runs ins outs d c outer n h k few =
    inside ins outs d c outer n few (side_runs ins Inputs outer n h (omega (arith, few))) (side_runs outs Outputs outer (n + entries_names ins) k (omega (arith, few)))
