-- Tokens that are read to the end of an effect are those of an effect.
use Rattle.std.proofs.Common.{◌≡◌, ℕ, ◌≤◌, ◌<◌, ◌+◌, ◌⊎◌, inl, inr, Bool, true, false, cond, ◌&&◌, List, [], ◌∷◌, ◌++◌, refl, ap, sym, ◌∙◌, subst, append_assoc, arith}
use Rattle.std.specs.Prelude.{codes, nat_lt, suc}
use Rattle.std.proofs.lemmas.Bool.Decides.{Decides-ltb}
use Rattle.fac_base.specs.declared.place.Place.{Place}
use Rattle.fac_source.specs.declared.token.Token.{Token}
use Rattle.fac_effect.specs.declared.spelling.Spelling.{Spelling}
use Rattle.fac_effect.specs.declared.spelling.Spelling.TheVariants as spelled
use Rattle.fac_effect.specs.declared.effect_reader.Side.{Side}
use Rattle.fac_effect.specs.declared.effect_reader.Side.TheVariants.{Inputs, Outputs}
use Rattle.fac_effect.specs.declared.effect_reader.Spot.{Spot}
use Rattle.fac_effect.specs.declared.effect_reader.Spot.TheVariants.{Start, First, Behind, Described}
use Rattle.fac_effect.specs.declared.effect_reader.EffectWhy.{EffectWhy}
use Rattle.fac_effect.specs.declared.effect_reader.EffectWhy.TheVariants.{RowPlace, TooWide, Form}
use Rattle.fac_effect.specs.declared.effect_reader.EffectReader.{EffectReader}
use Rattle.fac_effect.specs.Spellings.{token_spelling, plain_token}
use Rattle.fac_effect.specs.WrittenEffects.{Written, written, Entries, no_entries, plain, described, detailed, written_tokens, entries_tokens, written_names, entries_names, is_row, is_colon, IsPlainName, IsColonName, IsWritten, IsSide, AreValues, most_names}
use Rattle.fac_effect.specs.EffectReading.{reads, whole, refused, place_name, is_behind, opens_step, may_end, dashes_step, closed, closes_step, step, run}
use Rattle.fac_effect.proofs.SpellingLemmas.{sign_token}
use Rattle.fac_effect.proofs.EffectRuns.{at, refused_stays}

-- The tokens behind the last entry of a side, up to what is behind its effect.
abbrev pub SideEnds : Side → (ℕ → List Token → Type 0) → ℕ → List Token → Type 0
SideEnds Outputs K n ts = (c : Place) × (rest : List Token) × (ts ≡ plain_token c (codes ")") ∷ rest) × K n rest
SideEnds Inputs K n ts = (d : Place) × (outs : Entries) × IsSide outs × (c : Place) × (rest : List Token) × (ts ≡ plain_token d (codes "--") ∷ (entries_tokens outs ++ plain_token c (codes ")") ∷ rest)) × K (n + entries_names outs) rest

-- The tokens behind an entry of a side.
abbrev pub BehindEntry : Side → (ℕ → List Token → Type 0) → ℕ → List Token → Type 0
BehindEntry side K n ts = (es : Entries) × AreValues es × (rest : List Token) × (ts ≡ entries_tokens es ++ rest) × SideEnds side K (n + entries_names es) rest

-- The tokens behind an effect, where these sides are open around it.
abbrev pub BehindEffect : List Side → ℕ → List Token → Type 0
BehindEffect [] n ts = (ts ≡ []) × (n ≤ most_names)
BehindEffect (side ∷ outer) n ts = BehindEntry side (BehindEffect outer) n ts

abbrev pub AtSpot : Spot → Side → List Side → ℕ → List Token → Type 0
AtSpot Start side outer n ts = (w : Written) × IsWritten w × (rest : List Token) × (ts ≡ written_tokens w ++ rest) × BehindEffect outer (n + written_names w) rest
AtSpot First side outer n ts = (es : Entries) × IsSide es × (rest : List Token) × (ts ≡ entries_tokens es ++ rest) × SideEnds side (BehindEffect outer) (n + entries_names es) rest
AtSpot Behind side outer n ts = BehindEntry side (BehindEffect outer) n ts
AtSpot Described side outer n ts =
    ((class : Token) × IsPlainName class × (rest : List Token) × (ts ≡ class ∷ rest) × BehindEntry side (BehindEffect outer) (suc n) rest)
    ⊎ ((w : Written) × IsWritten w × (rest : List Token) × (ts ≡ written_tokens w ++ rest) × BehindEntry side (BehindEffect outer) (n + written_names w) rest)

abbrev pub AtReader : EffectReader → List Token → Type 0
AtReader r ts = AtSpot r.spot r.side r.outer r.names ts

-- what is known of fewer tokens
abbrev pub Later : List Token → Type 0
Later ts = (r : EffectReader) → r.names ≤ most_names → run (reads r) ts ≡ whole → AtReader r ts

not_refused : (why : EffectWhy) (ts : List Token) → run (refused why) ts ≡ whole → ⊥
not_refused why ts h = let e : refused why ≡ whole = sym (refused_stays why ts) ∙ h in cc

renumber : (side : Side) (K : ℕ → List Token → Type 0) (m n : ℕ) (ts : List Token) → m ≡ n → SideEnds side K m ts → SideEnds side K n ts
renumber side K m n ts e h = subst (λ (k : ℕ). SideEnds side K k ts) e h

-- Entries.

detailed_tokens : (t : Token) (w : Written) (es : Entries) (ts us rest : List Token) → ts ≡ written_tokens w ++ us → us ≡ entries_tokens es ++ rest → t ∷ ts ≡ entries_tokens (detailed t w es) ++ rest
detailed_tokens t w es ts us rest h k = ap (λ (x : List Token). t ∷ x) (h ∙ ap (λ (x : List Token). written_tokens w ++ x) k ∙ sym (append_assoc (written_tokens w) (entries_tokens es) rest))

first_plain : (side : Side) (outer : List Side) (n : ℕ) (t : Token) (ts : List Token) → IsPlainName t → AtSpot Behind side outer (suc n) ts → AtSpot First side outer n (t ∷ ts)
first_plain side outer n t ts h l =
    (plain t l.0, (h, l.1), l.2, ap (λ (x : List Token). t ∷ x) l.3, renumber side (BehindEffect outer) (suc n + entries_names l.0) (n + suc (entries_names l.0)) l.2 (omega arith) l.4)

behind_plain : (side : Side) (outer : List Side) (n : ℕ) (t : Token) (ts : List Token) → IsPlainName t → is_row t ≡ false → AtSpot Behind side outer (suc n) ts → AtSpot Behind side outer n (t ∷ ts)
behind_plain side outer n t ts h k l =
    (plain t l.0, (h, k, l.1), l.2, ap (λ (x : List Token). t ∷ x) l.3, renumber side (BehindEffect outer) (suc n + entries_names l.0) (n + suc (entries_names l.0)) l.2 (omega arith) l.4)

first_colon : (side : Side) (outer : List Side) (n : ℕ) (t : Token) (ts : List Token) → IsColonName t → AtSpot Described side outer (suc n) ts → AtSpot First side outer n (t ∷ ts)
first_colon side outer n t ts h (inl l) =
    let m = l.4 in
    (described t l.0 m.0, (h, l.1, m.1), m.2, ap (λ (x : List Token). t ∷ x) (l.3 ∙ ap (λ (x : List Token). l.0 ∷ x) m.3), renumber side (BehindEffect outer) (suc (suc n) + entries_names m.0) (n + suc (suc (entries_names m.0))) m.2 (omega arith) m.4)
first_colon side outer n t ts h (inr l) =
    let m = l.4 in
    (detailed t l.0 m.0, (h, l.1, m.1), m.2, detailed_tokens t l.0 m.0 ts l.2 m.2 l.3 m.3, renumber side (BehindEffect outer) (suc n + written_names l.0 + entries_names m.0) (n + suc (written_names l.0 + entries_names m.0)) m.2 (omega arith) m.4)

behind_colon : (side : Side) (outer : List Side) (n : ℕ) (t : Token) (ts : List Token) → IsColonName t → is_row t ≡ false → AtSpot Described side outer (suc n) ts → AtSpot Behind side outer n (t ∷ ts)
behind_colon side outer n t ts h k (inl l) =
    let m = l.4 in
    (described t l.0 m.0, (h, k, l.1, m.1), m.2, ap (λ (x : List Token). t ∷ x) (l.3 ∙ ap (λ (x : List Token). l.0 ∷ x) m.3), renumber side (BehindEffect outer) (suc (suc n) + entries_names m.0) (n + suc (suc (entries_names m.0))) m.2 (omega arith) m.4)
behind_colon side outer n t ts h k (inr l) =
    let m = l.4 in
    (detailed t l.0 m.0, (h, k, l.1, m.1), m.2, detailed_tokens t l.0 m.0 ts l.2 m.2 l.3 m.3, renumber side (BehindEffect outer) (suc n + written_names l.0 + entries_names m.0) (n + suc (written_names l.0 + entries_names m.0)) m.2 (omega arith) m.4)

-- Names.

placed : (spot : Spot) (side : Side) (outer : List Side) (n : ℕ) (t : Token) (ts : List Token) (row colon : Bool) → token_spelling t.kind ≡ spelled.Name → is_row t ≡ row → is_colon t ≡ colon → (is_behind spot && row) ≡ false → n < most_names → Later ts → run (place_name spot colon (at side spot outer n)) ts ≡ whole → AtSpot spot side outer n (t ∷ ts)
placed Start side outer n t ts row colon h k c free few later e = absurd (not_refused Form ts e)
placed First side outer n t ts row true h k c free few later e = first_colon side outer n t ts (h, c) (later (at side Described outer (suc n)) few e)
placed First side outer n t ts row false h k c free few later e = first_plain side outer n t ts (h, c) (later (at side Behind outer (suc n)) few e)
placed Behind side outer n t ts row true h k c free few later e = behind_colon side outer n t ts (h, c) (k ∙ free) (later (at side Described outer (suc n)) few e)
placed Behind side outer n t ts row false h k c free few later e = behind_plain side outer n t ts (h, c) (k ∙ free) (later (at side Behind outer (suc n)) few e)
placed Described side outer n t ts row true h k c free few later e = absurd (not_refused Form ts e)
placed Described side outer n t ts row false h k c free few later e = inl (t, (h, c), ts, refl, later (at side Behind outer (suc n)) few e)

name_taken : (r : EffectReader) (t : Token) (ts : List Token) (late few : Bool) → (is_behind r.spot && is_row t) ≡ late → nat_lt r.names most_names ≡ few → token_spelling t.kind ≡ spelled.Name → Later ts → run (cond late (refused RowPlace) (cond few (place_name r.spot (is_colon t) r) (refused TooWide))) ts ≡ whole → AtReader r (t ∷ ts)
name_taken r t ts true few l f h later e = absurd (not_refused RowPlace ts e)
name_taken r t ts false false l f h later e = absurd (not_refused TooWide ts e)
name_taken r t ts false true l f h later e = placed r.spot r.side r.outer r.names t ts (is_row t) (is_colon t) h refl refl l ((Decides-ltb r.names most_names).0 f) later e

-- Signs.

closed_behind : (outer : List Side) (n : ℕ) (ts : List Token) → n ≤ most_names → Later ts → run (closed outer n) ts ≡ whole → BehindEffect outer n ts
closed_behind [] n [] few later e = (refl, few)
closed_behind [] n (t ∷ ts) few later e = absurd (not_refused Form ts e)
closed_behind (side ∷ outer) n ts few later e = later (at side Behind outer n) few e

side_closed : (outer : List Side) (n : ℕ) (t : Token) (ts : List Token) → token_spelling t.kind ≡ spelled.Closes → BehindEffect outer n ts → SideEnds Outputs (BehindEffect outer) (n + 0) (t ∷ ts)
side_closed outer n t ts h l =
    let e : n ≡ n + 0 = omega arith in
    (t.place, ts, ap (λ (x : Token). x ∷ ts) (sign_token t spelled.Closes h tt), subst (λ (k : ℕ). BehindEffect outer k ts) e l)

closes_taken : (spot : Spot) (side : Side) (outer : List Side) (n : ℕ) (t : Token) (ts : List Token) → token_spelling t.kind ≡ spelled.Closes → n ≤ most_names → Later ts → run (closes_step (may_end spot) side (at side spot outer n)) ts ≡ whole → AtSpot spot side outer n (t ∷ ts)
closes_taken Start side outer n t ts h few later e = absurd (not_refused Form ts e)
closes_taken Described side outer n t ts h few later e = absurd (not_refused Form ts e)
closes_taken First Inputs outer n t ts h few later e = absurd (not_refused Form ts e)
closes_taken Behind Inputs outer n t ts h few later e = absurd (not_refused Form ts e)
closes_taken First Outputs outer n t ts h few later e = (no_entries, tt, t ∷ ts, refl, side_closed outer n t ts h (closed_behind outer n ts few later e))
closes_taken Behind Outputs outer n t ts h few later e = (no_entries, tt, t ∷ ts, refl, side_closed outer n t ts h (closed_behind outer n ts few later e))

inputs_ended : (outer : List Side) (n : ℕ) (t : Token) (ts : List Token) → token_spelling t.kind ≡ spelled.Dashes → AtSpot First Outputs outer n ts → SideEnds Inputs (BehindEffect outer) (n + 0) (t ∷ ts)
inputs_ended outer n t ts h l =
    let m = l.4 in
    let e : n + entries_names l.0 ≡ n + 0 + entries_names l.0 = omega arith in
    (t.place, l.0, l.1, m.0, m.1, ap (λ (x : Token). x ∷ ts) (sign_token t spelled.Dashes h tt) ∙ ap (λ (x : List Token). plain_token t.place (codes "--") ∷ x) (l.3 ∙ ap (λ (x : List Token). entries_tokens l.0 ++ x) m.2), subst (λ (k : ℕ). BehindEffect outer k m.1) e m.3)

dashes_taken : (spot : Spot) (side : Side) (outer : List Side) (n : ℕ) (t : Token) (ts : List Token) → token_spelling t.kind ≡ spelled.Dashes → n ≤ most_names → Later ts → run (dashes_step (may_end spot) side (at side spot outer n)) ts ≡ whole → AtSpot spot side outer n (t ∷ ts)
dashes_taken Start side outer n t ts h few later e = absurd (not_refused Form ts e)
dashes_taken Described side outer n t ts h few later e = absurd (not_refused Form ts e)
dashes_taken First Outputs outer n t ts h few later e = absurd (not_refused Form ts e)
dashes_taken Behind Outputs outer n t ts h few later e = absurd (not_refused Form ts e)
dashes_taken First Inputs outer n t ts h few later e = (no_entries, tt, t ∷ ts, refl, inputs_ended outer n t ts h (later (at Outputs First outer n) few e))
dashes_taken Behind Inputs outer n t ts h few later e = (no_entries, tt, t ∷ ts, refl, inputs_ended outer n t ts h (later (at Outputs First outer n) few e))

-- the tokens of an effect before others
effect_tokens : (o d c : Place) (ins outs : Entries) (t : Token) (ts us rest : List Token) → t ≡ plain_token o (codes "(") → ts ≡ entries_tokens ins ++ us → us ≡ plain_token d (codes "--") ∷ (entries_tokens outs ++ plain_token c (codes ")") ∷ rest) → t ∷ ts ≡ written_tokens (written o ins d outs c) ++ rest
effect_tokens o d c ins outs t ts us rest h k l =
    let I = entries_tokens ins in
    let O = entries_tokens outs in
    let D = plain_token d (codes "--") in
    let C = plain_token c (codes ")") in
    ap (λ (x : Token). x ∷ ts) h ∙
    ap (λ (x : List Token). plain_token o (codes "(") ∷ x) (k ∙ ap (λ (x : List Token). I ++ x) (l ∙ ap (λ (x : List Token). D ∷ x) (sym (append_assoc O (C ∷ []) rest))) ∙ sym (append_assoc I (D ∷ (O ++ C ∷ [])) rest))

-- an effect behind its `(`
effect_opened : (outer : List Side) (n : ℕ) (t : Token) (ts : List Token) → token_spelling t.kind ≡ spelled.Opens → AtSpot First Inputs outer n ts → (w : Written) × IsWritten w × (rest : List Token) × (t ∷ ts ≡ written_tokens w ++ rest) × BehindEffect outer (n + written_names w) rest
effect_opened outer n t ts h l =
    let m = l.4 in
    let e : n + entries_names l.0 + entries_names m.1 ≡ n + (entries_names l.0 + entries_names m.1) = omega arith in
    (written t.place l.0 m.0 m.1 m.3, (l.1, m.2), m.4, effect_tokens t.place m.0 m.3 l.0 m.1 t ts l.2 m.4 (sign_token t spelled.Opens h tt) l.3 m.5, subst (λ (k : ℕ). BehindEffect outer k m.4) e m.6)

opens_taken : (spot : Spot) (side : Side) (outer : List Side) (n : ℕ) (t : Token) (ts : List Token) → token_spelling t.kind ≡ spelled.Opens → n ≤ most_names → Later ts → run (opens_step spot (at side spot outer n)) ts ≡ whole → AtSpot spot side outer n (t ∷ ts)
opens_taken Start side outer n t ts h few later e = effect_opened outer n t ts h (later (at Inputs First outer n) few e)
opens_taken First side outer n t ts h few later e = absurd (not_refused Form ts e)
opens_taken Behind side outer n t ts h few later e = absurd (not_refused Form ts e)
opens_taken Described side outer n t ts h few later e = inr (effect_opened (side ∷ outer) n t ts h (later (at Inputs First (side ∷ outer) n) few e))

taken : (s : Spelling) (r : EffectReader) (t : Token) (ts : List Token) → token_spelling t.kind ≡ s → r.names ≤ most_names → Later ts → run (step r s t) ts ≡ whole → AtReader r (t ∷ ts)
taken spelled.Name r t ts h few later e = name_taken r t ts (is_behind r.spot && is_row t) (nat_lt r.names most_names) refl refl h later e
taken spelled.Opens r t ts h few later e = opens_taken r.spot r.side r.outer r.names t ts h few later e
taken spelled.Dashes r t ts h few later e = dashes_taken r.spot r.side r.outer r.names t ts h few later e
taken spelled.Closes r t ts h few later e = closes_taken r.spot r.side r.outer r.names t ts h few later e
taken _ r t ts h few later e = absurd (not_refused Form ts e)

pub read_tokens : (ts : List Token) → Later ts
read_tokens [] r few e = cc
read_tokens (t ∷ ts) r few e = taken (token_spelling t.kind) r t ts refl few (read_tokens ts) e
