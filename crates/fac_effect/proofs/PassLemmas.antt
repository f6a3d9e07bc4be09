-- Whether tokens pass a test, where they are read as those of an effect.
use Rattle.std.proofs.Common.{◌≡◌, ℕ, ◌≤◌, ◌+◌, Bool, true, false, ◌&&◌, List, [], ◌∷◌, ◌++◌, refl, ap, sym, ◌∙◌, arith}
use Rattle.std.specs.Prelude.{codes}
use Rattle.fac_base.specs.declared.place.Place.{Place}
use Rattle.fac_source.specs.declared.token.Token.{Token}
use Rattle.fac_effect.specs.declared.spelling.Spelling.{Spelling}
use Rattle.fac_effect.specs.declared.effect_reader.Side.{Side}
use Rattle.fac_effect.specs.declared.effect_reader.Side.TheVariants.{Inputs, Outputs}
use Rattle.fac_effect.specs.declared.effect_reader.Spot.{Spot}
use Rattle.fac_effect.specs.declared.effect_reader.Spot.TheVariants.{Start, First, Behind, Described}
use Rattle.fac_effect.specs.declared.effect_reader.EffectWhy.{EffectWhy}
use Rattle.fac_effect.specs.declared.effect_reader.EffectWhy.TheVariants.{Form}
use Rattle.fac_effect.specs.declared.effect_reader.EffectReader.{EffectReader}
use Rattle.fac_effect.specs.Spellings.{token_spelling, plain_token}
use Rattle.fac_effect.specs.WrittenEffects.{Entries, entries_tokens, entries_names, IsSide, most_names}
use Rattle.fac_effect.specs.EffectReading.{Progress, reads, whole, refused, step, all_pass, go_on, run}
use Rattle.fac_effect.proofs.EffectRuns.{at, state, refused_stays, dashes, side_end, side_may_end, side_runs}
use Rattle.fac_effect.proofs.EffectLemmas.{close_side, close_sides, side_completes, completes}

abbrev pub Test : Type 0
Test = EffectReader → Spelling → Token → Bool

-- Tokens behind others.

none_left : (test : Test) (why : EffectWhy) (ts : List Token) → all_pass test (refused why) ts ≡ true
none_left test why [] = refl
none_left test why (t ∷ ts) = refl

and_more : (a b c : Bool) → (a && (b && c)) ≡ ((a && b) && c)
and_more true b c = refl
and_more false b c = refl

pub and_true : (b : Bool) → (b && true) ≡ b
and_true true = refl
and_true false = refl

all_append : (test : Test) (p : Progress) (xs ys : List Token) → all_pass test p (xs ++ ys) ≡ (all_pass test p xs && all_pass test (run p xs) ys)
all_append test p [] ys = refl
all_append test (reads r) (x ∷ xs) ys =
    let b = test r (token_spelling x.kind) x in
    let next = step r (token_spelling x.kind) x in
    ap (λ (c : Bool). b && c) (all_append test next xs ys) ∙ and_more b (all_pass test next xs) (all_pass test (run next xs) ys)
all_append test whole (x ∷ xs) ys = sym (ap (λ (p : Progress). all_pass test p ys) (refused_stays Form xs) ∙ none_left test Form ys)
all_append test (refused why) (x ∷ xs) ys = sym (ap (λ (p : Progress). all_pass test p ys) (refused_stays why xs) ∙ none_left test why ys)

pub chain : (test : Test) (p q : Progress) (xs ys : List Token) (a b : Bool) → run p xs ≡ q → all_pass test p xs ≡ a → all_pass test q ys ≡ b → all_pass test p (xs ++ ys) ≡ (a && b)
chain test p q xs ys a b h k l =
    all_append test p xs ys ∙ ap (λ (x : Bool). x && all_pass test (run p xs) ys) k ∙ ap (λ (x : Progress). a && all_pass test x ys) h ∙ ap (λ (x : Bool). a && x) l

pub one : (test : Test) (r : EffectReader) (q : Progress) (t : Token) (ts : List Token) (a b : Bool) → test r (token_spelling t.kind) t ≡ a → go_on (reads r) t ≡ q → all_pass test q ts ≡ b → all_pass test (reads r) (t ∷ ts) ≡ (a && b)
one test r q t ts a b h k l = ap (λ (x : Bool). x && all_pass test (step r (token_spelling t.kind) t) ts) h ∙ ap (λ (x : Progress). a && all_pass test x ts) k ∙ ap (λ (x : Bool). a && x) l

-- a test that signs pass anywhere
pub record Signs (test : Test) : Type 0 where
  pub opening : (r : EffectReader) (place : Place) → test r (token_spelling (plain_token place (codes "(")).kind) (plain_token place (codes "(")) ≡ true
  pub dashing : (r : EffectReader) (place : Place) → test r (token_spelling (plain_token place (codes "--")).kind) (plain_token place (codes "--")) ≡ true
  pub closing : (r : EffectReader) (place : Place) → test r (token_spelling (plain_token place (codes ")")).kind) (plain_token place (codes ")")) ≡ true

-- the tokens of an effect behind its `(`
pub inside : (test : Test) → Signs test → (ins outs : Entries) (d c : Place) (outer : List Side) (n : ℕ) (a b : Bool) → IsSide ins → IsSide outs → n + (entries_names ins + entries_names outs) ≤ most_names → all_pass test (state Inputs First outer n) (entries_tokens ins) ≡ a → all_pass test (state Outputs First outer (n + entries_names ins)) (entries_tokens outs) ≡ b → all_pass test (state Inputs First outer n) (entries_tokens ins ++ plain_token d (codes "--") ∷ (entries_tokens outs ++ plain_token c (codes ")") ∷ [])) ≡ (a && b)
inside test signs ins outs d c outer n a b h k few l m =
    let i = n + entries_names ins in
    let o = i + entries_names outs in
    let os = entries_tokens outs ++ plain_token c (codes ")") ∷ [] in
    chain test (state Inputs First outer n) (state Inputs (side_end ins) outer i) (entries_tokens ins) (plain_token d (codes "--") ∷ os) a b (side_runs ins Inputs outer n h (omega (arith, few))) l
    (one test (at Inputs (side_end ins) outer i) (state Outputs First outer i) (plain_token d (codes "--")) os true b (signs.dashing (at Inputs (side_end ins) outer i) d) (dashes (side_end ins) outer i d (side_may_end ins))
    (chain test (state Outputs First outer i) (state Outputs (side_end outs) outer o) (entries_tokens outs) (plain_token c (codes ")") ∷ []) b true (side_runs outs Outputs outer i k (omega (arith, few))) m
    (one test (at Outputs (side_end outs) outer o) (go_on (state Outputs (side_end outs) outer o) (plain_token c (codes ")"))) (plain_token c (codes ")")) [] true true (signs.closing (at Outputs (side_end outs) outer o) c) refl refl)
    ∙ and_true b))

-- Tokens that are signs.

abbrev AreSigns : Test → List Token → Type 0
AreSigns test [] = Unit {0}
AreSigns test (t ∷ ts) = ((r : EffectReader) → test r (token_spelling t.kind) t ≡ true) × AreSigns test ts

all_signs : (test : Test) (p : Progress) (ts : List Token) → AreSigns test ts → all_pass test p ts ≡ true
all_signs test p [] h = refl
all_signs test (reads r) (t ∷ ts) h = one test r (step r (token_spelling t.kind) t) t ts true true (h.0 r) refl (all_signs test (step r (token_spelling t.kind) t) ts h.1)
all_signs test whole (t ∷ ts) h = refl
all_signs test (refused why) (t ∷ ts) h = refl

side_signs : (test : Test) → Signs test → (side : Side) (ts : List Token) → AreSigns test ts → AreSigns test (close_side side ts)
side_signs test signs Inputs ts h = (λ r. signs.dashing r _, (λ r. signs.closing r _, h))
side_signs test signs Outputs ts h = (λ r. signs.closing r _, h)

sides_signs : (test : Test) → Signs test → (outer : List Side) → AreSigns test (close_sides outer)
sides_signs test signs [] = tt
sides_signs test signs (side ∷ outer) = side_signs test signs side (close_sides outer) (sides_signs test signs outer)

completing_signs : (test : Test) → Signs test → (side : Side) (p : Progress) (ts : List Token) (h : run p (close_side side ts) ≡ whole) → AreSigns test ts → AreSigns test ((side_completes side p ts h).next ∷ (side_completes side p ts h).rest)
completing_signs test signs Inputs p ts h k = (λ r. signs.dashing r _, (λ r. signs.closing r _, k))
completing_signs test signs Outputs p ts h k = (λ r. signs.closing r _, k)

complete_signs : (test : Test) → Signs test → (spot : Spot) (side : Side) (outer : List Side) (n : ℕ) → AreSigns test ((completes spot side outer n).next ∷ (completes spot side outer n).rest)
complete_signs test signs Start side outer n = (λ r. signs.opening r _, side_signs test signs Inputs (close_sides outer) (sides_signs test signs outer))
complete_signs test signs First side outer n = completing_signs test signs side (state side First outer n) (close_sides outer) _ (sides_signs test signs outer)
complete_signs test signs Behind side outer n = completing_signs test signs side (state side Behind outer n) (close_sides outer) _ (sides_signs test signs outer)
complete_signs test signs Described side outer n = (λ r. signs.opening r _, side_signs test signs Inputs (close_sides (side ∷ outer)) (sides_signs test signs (side ∷ outer)))

-- tokens that complete an effect pass such a test
pub signs_pass : (test : Test) → Signs test → (p : Progress) (spot : Spot) (side : Side) (outer : List Side) (n : ℕ) → all_pass test p ((completes spot side outer n).next ∷ (completes spot side outer n).rest) ≡ true
signs_pass test signs p spot side outer n = all_signs test p ((completes spot side outer n).next ∷ (completes spot side outer n).rest) (complete_signs test signs spot side outer n)
