-- Laws of reading effects: which tokens are whole, go on, or are refused.
use Rattle.std.proofs.Common.{◌≡◌, ℕ, ◌≤◌, ◌+◌, true, List, [], ◌∷◌, ◌++◌, refl, ap, sym, ◌∙◌, subst, append-nil, arith}
use Rattle.std.specs.Prelude.{codes}
use Rattle.fac_base.specs.declared.place.Place.{Place}
use Rattle.fac_source.specs.declared.token.Token.{Token}
use Rattle.fac_base.specs.Signatures.{Signature}
use Rattle.fac_effect.specs.declared.effect_reader.Side.{Side}
use Rattle.fac_effect.specs.declared.effect_reader.Side.TheVariants.{Inputs, Outputs}
use Rattle.fac_effect.specs.declared.effect_reader.Spot.{Spot}
use Rattle.fac_effect.specs.declared.effect_reader.Spot.TheVariants.{Start, First, Behind, Described}
use Rattle.fac_effect.specs.declared.effect_reader.EffectWhy.{EffectWhy}
use Rattle.fac_effect.specs.declared.effect_reader.EffectWhy.TheVariants.{Form}
use Rattle.fac_effect.specs.declared.effect_reader.EffectReader.{EffectReader}
use Rattle.fac_effect.specs.Spellings.{plain_token}
use Rattle.fac_effect.specs.WrittenEffects.{Written, written, written_tokens, entries_tokens, written_names, IsWritten, most_names, said, IsEffect, BeginsEffect, IsUnfinished}
use Rattle.fac_effect.specs.EffectReading.{Progress, reads, whole, refused, start, may_end, closed, go_on, run, after}
use Rattle.fac_effect.specs.SaidEffects.{effect_of}
use Rattle.fac_effect.proofs.EffectRuns.{state, run_append, refused_stays, one, starts, opens, dashes, closes, inside_runs}
use Rattle.fac_effect.proofs.EffectsReadBack.{effect_said}
use Rattle.fac_effect.proofs.WholeEffects.{read_tokens}

-- one more token
pub after_more : (ts : List Token) (t : Token) → after (ts ++ t ∷ []) ≡ go_on (after ts) t
after_more ts t = run_append (reads start) ts (t ∷ [])

-- The tokens of an effect are whole.

written_whole : (w : Written) → IsWritten w → written_names w ≤ most_names → after (written_tokens w) ≡ whole
written_whole (written o ins d outs c) h few =
    one (state Inputs Start [] 0) (state Inputs First [] 0) (plain_token o (codes "(")) (entries_tokens ins ++ plain_token d (codes "--") ∷ (entries_tokens outs ++ plain_token c (codes ")") ∷ [])) whole (starts Inputs [] 0 o) (inside_runs ins outs d c [] 0 h.0 h.1 (omega (arith, few)))

pub effect_is_whole : (tokens : List Token) (effect : Signature) → IsEffect tokens effect → (after tokens ≡ whole) × (effect_of tokens ≡ effect)
effect_is_whole tokens effect h = (subst (λ (ts : List Token). after ts ≡ whole) h.spelled (written_whole h.tree h.fits h.few), effect_said tokens effect h)

-- Whole tokens are those of an effect.

tree_is_effect : (tokens : List Token) (w : Written) (rest : List Token) → IsWritten w → 0 + written_names w ≤ most_names → tokens ≡ written_tokens w ++ rest → rest ≡ [] → IsEffect tokens (said w)
tree_is_effect tokens w rest h few e n =
    record { tree = w; fits = h; few = omega (arith, few); spelled = sym (e ∙ ap (λ (x : List Token). written_tokens w ++ x) n ∙ append-nil (written_tokens w)); says = refl }

said_again : (tokens : List Token) (effect : Signature) → IsEffect tokens effect → IsEffect tokens (effect_of tokens)
said_again tokens effect h = record { tree = h.tree; fits = h.fits; few = h.few; spelled = h.spelled; says = h.says ∙ sym (effect_said tokens effect h) }

pub whole_is_effect : (tokens : List Token) → after tokens ≡ whole → IsEffect tokens (effect_of tokens)
whole_is_effect tokens e =
    let h = read_tokens tokens start (omega arith) e in
    said_again tokens (said h.0) (tree_is_effect tokens h.0 h.2 h.1 h.4.1 h.3 h.4.0)

-- No effect's tokens begin those of another.

not_whole : (t : Token) (ts : List Token) → run whole (t ∷ ts) ≡ whole → ⊥
not_whole t ts h = let e : refused Form ≡ whole = sym (refused_stays Form ts) ∙ h in cc

same_tokens : (xs ys r s : List Token) (p : Progress) → run p xs ≡ whole → run p ys ≡ whole → xs ++ r ≡ ys ++ s → xs ≡ ys
same_tokens [] [] r s p h k e = refl
same_tokens [] (y ∷ ys) r s p h k e = absurd (not_whole y ys (subst (λ (q : Progress). run q (y ∷ ys) ≡ whole) h k))
same_tokens (x ∷ xs) [] r s p h k e = absurd (not_whole x xs (subst (λ (q : Progress). run q (x ∷ xs) ≡ whole) k h))
same_tokens (x ∷ xs) (y ∷ ys) r s p h k e =
    let t : x ≡ y = cc in
    let ts : xs ++ r ≡ ys ++ s = cc in
    let l : run (go_on p x) ys ≡ whole = subst (λ (z : Token). run (go_on p z) ys ≡ whole) (sym t) k in
    let same : xs ≡ ys = same_tokens xs ys r s (go_on p x) h l ts in
    ap (λ (z : Token). z ∷ xs) t ∙ ap (λ (zs : List Token). y ∷ zs) same

pub effects_end : (xs ys r s : List Token) (e g : Signature) → IsEffect xs e → IsEffect ys g → xs ++ r ≡ ys ++ s → (xs ≡ ys) × (e ≡ g)
effects_end xs ys r s e g h k l =
    let a = effect_is_whole xs e h in
    let b = effect_is_whole ys g k in
    let same = same_tokens xs ys r s (reads start) a.0 b.0 l in
    (same, sym a.1 ∙ ap effect_of same ∙ b.1)

-- Tokens that are read go on to an effect.

abbrev pub anywhere : Place
anywhere = record { file = 0; token = 0 }

-- the tokens that close a side, and those around it
abbrev pub close_side : Side → List Token → List Token
close_side Inputs ts = plain_token anywhere (codes "--") ∷ plain_token anywhere (codes ")") ∷ ts
close_side Outputs ts = plain_token anywhere (codes ")") ∷ ts

abbrev pub close_sides : List Side → List Token
close_sides [] = []
close_sides (side ∷ outer) = close_side side (close_sides outer)

pub outputs_closed : (spot : Spot) (outer : List Side) (n : ℕ) (ts : List Token) → may_end spot ≡ true → run (closed outer n) ts ≡ whole → run (state Outputs spot outer n) (close_side Outputs ts) ≡ whole
outputs_closed spot outer n ts h k = one (state Outputs spot outer n) (closed outer n) (plain_token anywhere (codes ")")) ts whole (closes spot outer n anywhere h) k

pub side_closed : (side : Side) (spot : Spot) (outer : List Side) (n : ℕ) (ts : List Token) → may_end spot ≡ true → run (closed outer n) ts ≡ whole → run (state side spot outer n) (close_side side ts) ≡ whole
side_closed Outputs spot outer n ts h k = outputs_closed spot outer n ts h k
side_closed Inputs spot outer n ts h k =
    one (state Inputs spot outer n) (state Outputs First outer n) (plain_token anywhere (codes "--")) (close_side Outputs ts) whole (dashes spot outer n anywhere h) (outputs_closed First outer n ts refl k)

pub sides_closed : (outer : List Side) (n : ℕ) → run (closed outer n) (close_sides outer) ≡ whole
sides_closed [] n = refl
sides_closed (side ∷ outer) n = side_closed side Behind outer n (close_sides outer) refl (sides_closed outer n)

-- tokens behind others that make them whole, one at least
pub record Completes (p : Progress) : Type 0 where
  pub next : Token
  pub rest : List Token
  pub ends : run p (next ∷ rest) ≡ whole

abbrev pub side_completes : (side : Side) (p : Progress) (ts : List Token) → run p (close_side side ts) ≡ whole → Completes p
side_completes Inputs p ts h = record { next = plain_token anywhere (codes "--"); rest = plain_token anywhere (codes ")") ∷ ts; ends = h }
side_completes Outputs p ts h = record { next = plain_token anywhere (codes ")"); rest = ts; ends = h }

abbrev pub completes : (spot : Spot) (side : Side) (outer : List Side) (n : ℕ) → Completes (state side spot outer n)
completes Start side outer n =
    record { next = plain_token anywhere (codes "("); rest = close_side Inputs (close_sides outer); ends = one (state side Start outer n) (state Inputs First outer n) (plain_token anywhere (codes "(")) (close_side Inputs (close_sides outer)) whole (starts side outer n anywhere) (side_closed Inputs First outer n (close_sides outer) refl (sides_closed outer n)) }
completes First side outer n = side_completes side (state side First outer n) (close_sides outer) (side_closed side First outer n (close_sides outer) refl (sides_closed outer n))
completes Behind side outer n = side_completes side (state side Behind outer n) (close_sides outer) (side_closed side Behind outer n (close_sides outer) refl (sides_closed outer n))
completes Described side outer n =
    record { next = plain_token anywhere (codes "("); rest = close_side Inputs (close_sides (side ∷ outer)); ends = one (state side Described outer n) (state Inputs First (side ∷ outer) n) (plain_token anywhere (codes "(")) (close_side Inputs (close_sides (side ∷ outer))) whole (opens side outer n anywhere) (side_closed Inputs First (side ∷ outer) n (close_sides (side ∷ outer)) refl (sides_closed (side ∷ outer) n)) }

pub read_goes_on : (tokens : List Token) (r : EffectReader) → after tokens ≡ reads r → IsUnfinished tokens
read_goes_on tokens r h =
    let c = completes r.spot r.side r.outer r.names in
    let ts = tokens ++ c.next ∷ c.rest in
    let e : after ts ≡ whole = run_append (reads start) tokens (c.next ∷ c.rest) ∙ ap (λ (p : Progress). run p (c.next ∷ c.rest)) h ∙ c.ends in
    record { next = c.next; rest = c.rest; effect = effect_of ts; is = whole_is_effect ts e }

-- No effect begins with refused tokens.
pub refused_is_none : (tokens : List Token) (why : EffectWhy) → after tokens ≡ refused why → BeginsEffect tokens → ⊥
refused_is_none tokens why h b =
    let e : after (tokens ++ b.rest) ≡ whole = (effect_is_whole (tokens ++ b.rest) b.effect b.is).0 in
    let f : after (tokens ++ b.rest) ≡ refused why = run_append (reads start) tokens b.rest ∙ ap (λ (p : Progress). run p b.rest) h ∙ refused_stays why b.rest in
    let g : refused why ≡ whole = sym f ∙ e in
    cc
