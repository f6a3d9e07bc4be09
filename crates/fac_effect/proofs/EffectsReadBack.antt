-- Reading from the end finds the effect whose tokens these are, so tokens are those of one effect.
use Rattle.std.proofs.Common.{◌≡◌, Bool, true, false, List, [], ◌∷◌, ◌++◌, Some, None, refl, ap, sym, ◌∙◌, append_assoc, append-nil}
use Rattle.std.specs.Prelude.{codes}
use Rattle.fac_base.specs.declared.place.Place.{Place}
use Rattle.fac_source.specs.declared.token.Token.{Token}
use Rattle.fac_base.specs.Signatures.{Signature}
use Rattle.fac_effect.specs.declared.spelling.Spelling.{Spelling}
use Rattle.fac_effect.specs.declared.spelling.Spelling.TheVariants as spelled
use Rattle.fac_effect.specs.Spellings.{token_spelling, plain_token}
use Rattle.fac_effect.specs.WrittenEffects.{Written, written, Entries, no_entries, plain, described, detailed, written_tokens, entries_tokens, is_colon, IsPlainName, IsColonName, IsWritten, IsSide, AreValues, said, IsEffect}
use Rattle.fac_effect.specs.SaidEffects.{Half, half, Ending, outputs, inputs, add_name, name_before, dashes_before, effect_before, opens_before, token_before, read_back, said_by, effect_of}
use Rattle.fac_effect.proofs.SpellingLemmas.{sign_is}

-- where the end of a side is held, among inputs or outputs
pub record HoldsHalf (held : Half → Ending) : Type 0 where
  pub names : (t : Token) (h : Half) → name_before t (held h) ≡ held (add_name t (is_colon t) h)
  pub effects : (w : Written) (h : Half) → effect_before w (held h) ≡ held (half h.entries (Some w))

in_outputs : (c : Place) (e : Ending) → HoldsHalf (λ h. outputs c h e)
in_outputs c e = record { names = λ t h. refl; effects = λ w h. refl }

in_inputs : (c : Place) (outs : Entries) (d : Place) (e : Ending) → HoldsHalf (λ h. inputs c outs d h e)
in_inputs c outs d e = record { names = λ t h. refl; effects = λ w h. refl }

name_back : (held : Half → Ending) (t : Token) (c : Bool) (ts : List Token) (h : Half) → HoldsHalf held → token_spelling t.kind ≡ spelled.Name → is_colon t ≡ c → read_back ts ≡ held h → read_back (t ∷ ts) ≡ held (add_name t c h)
name_back held t c ts h H n k e =
    ap (λ (s : Spelling). token_before s t (read_back ts)) n ∙ ap (name_before t) e ∙ H.names t h ∙ ap (λ (b : Bool). held (add_name t b h)) k

plain_back : (held : Half → Ending) (name : Token) (es : Entries) (ts : List Token) → HoldsHalf held → IsPlainName name → read_back ts ≡ held (half es None) → read_back (name ∷ ts) ≡ held (half (plain name es) None)
plain_back held name es ts H n e = name_back held name false ts (half es None) H n.0 n.1 e

described_back : (held : Half → Ending) (name class : Token) (es : Entries) (ts : List Token) → HoldsHalf held → IsColonName name → IsPlainName class → read_back ts ≡ held (half es None) → read_back (name ∷ class ∷ ts) ≡ held (half (described name class es) None)
described_back held name class es ts H n k e = name_back held name true (class ∷ ts) (half (plain class es) None) H n.0 n.1 (plain_back held class es ts H k e)

detailed_back : (held : Half → Ending) (name : Token) (w : Written) (es : Entries) (us ts : List Token) → HoldsHalf held → IsColonName name → read_back us ≡ effect_before w (read_back ts) → read_back ts ≡ held (half es None) → read_back (name ∷ us) ≡ held (half (detailed name w es) None)
detailed_back held name w es us ts H n k e = name_back held name true us (half es (Some w)) H n.0 n.1 (k ∙ ap (effect_before w) e ∙ H.effects w (half es None))

sign_back : (t : Token) (s : Spelling) (ts : List Token) → token_spelling t.kind ≡ s → read_back (t ∷ ts) ≡ token_before s t (read_back ts)
sign_back t s ts h = ap (λ (x : Spelling). token_before x t (read_back ts)) h

-- an effect whose sides are read back
effect_back : (o d c : Place) (ins outs : Entries) (is os ts : List Token) → ((us : List Token) (held : Half → Ending) → HoldsHalf held → read_back us ≡ held (half no_entries None) → read_back (is ++ us) ≡ held (half ins None)) → ((us : List Token) (held : Half → Ending) → HoldsHalf held → read_back us ≡ held (half no_entries None) → read_back (os ++ us) ≡ held (half outs None)) → read_back (plain_token o (codes "(") ∷ (is ++ plain_token d (codes "--") ∷ (os ++ plain_token c (codes ")") ∷ ts))) ≡ effect_before (written o ins d outs c) (read_back ts)
effect_back o d c ins outs is os ts f g =
    let e = read_back ts in
    let a = g (plain_token c (codes ")") ∷ ts) (λ h. outputs c h e) (in_outputs c e) (sign_back (plain_token c (codes ")")) spelled.Closes ts (sign_is spelled.Closes tt)) in
    let us = os ++ plain_token c (codes ")") ∷ ts in
    let b = sign_back (plain_token d (codes "--")) spelled.Dashes us (sign_is spelled.Dashes tt) ∙ ap (dashes_before d) a in
    let vs = plain_token d (codes "--") ∷ us in
    let i = f vs (λ h. inputs c outs d h e) (in_inputs c outs d e) b in
    sign_back (plain_token o (codes "(")) spelled.Opens (is ++ vs) (sign_is spelled.Opens tt) ∙ ap (opens_before o) i

-- the tokens of an effect before others, grouped from the right
pub grouped : (x : Token) (is os ts : List Token) (d c : Token) → (x ∷ (is ++ d ∷ (os ++ c ∷ []))) ++ ts ≡ x ∷ (is ++ d ∷ (os ++ c ∷ ts))
grouped x is os ts d c = ap (λ (us : List Token). x ∷ us) (append_assoc is (d ∷ (os ++ c ∷ [])) ts ∙ ap (λ (us : List Token). is ++ d ∷ us) (append_assoc os (c ∷ []) ts))

mutual
  pub written_back : (w : Written) (ts : List Token) → IsWritten w → read_back (written_tokens w ++ ts) ≡ effect_before w (read_back ts)
  written_back (written o ins d outs c) ts h =
      ap read_back (grouped (plain_token o (codes "(")) (entries_tokens ins) (entries_tokens outs) ts (plain_token d (codes "--")) (plain_token c (codes ")"))) ∙
      effect_back o d c ins outs (entries_tokens ins) (entries_tokens outs) ts (λ us held H e. side_back ins us held H h.0 e) (λ us held H e. side_back outs us held H h.1 e)

  values_back : (es : Entries) (ts : List Token) (held : Half → Ending) → HoldsHalf held → AreValues es → read_back ts ≡ held (half no_entries None) → read_back (entries_tokens es ++ ts) ≡ held (half es None)
  values_back no_entries ts held H h e = e
  values_back (plain name es) ts held H h e = plain_back held name es (entries_tokens es ++ ts) H h.0 (values_back es ts held H h.2 e)
  values_back (described name class es) ts held H h e = described_back held name class es (entries_tokens es ++ ts) H h.0 h.2 (values_back es ts held H h.3 e)
  values_back (detailed name w es) ts held H h e =
      detailed_back held name w es ((written_tokens w ++ entries_tokens es) ++ ts) (entries_tokens es ++ ts) H h.0 (ap read_back (append_assoc (written_tokens w) (entries_tokens es) ts) ∙ written_back w (entries_tokens es ++ ts) h.2) (values_back es ts held H h.3 e)

  side_back : (es : Entries) (ts : List Token) (held : Half → Ending) → HoldsHalf held → IsSide es → read_back ts ≡ held (half no_entries None) → read_back (entries_tokens es ++ ts) ≡ held (half es None)
  side_back no_entries ts held H h e = e
  side_back (plain name es) ts held H h e = plain_back held name es (entries_tokens es ++ ts) H h.0 (values_back es ts held H h.1 e)
  side_back (described name class es) ts held H h e = described_back held name class es (entries_tokens es ++ ts) H h.0 h.1 (values_back es ts held H h.2 e)
  side_back (detailed name w es) ts held H h e =
      detailed_back held name w es ((written_tokens w ++ entries_tokens es) ++ ts) (entries_tokens es ++ ts) H h.0 (ap read_back (append_assoc (written_tokens w) (entries_tokens es) ts) ∙ written_back w (entries_tokens es ++ ts) h.1) (values_back es ts held H h.2 e)

tree_back : (w : Written) → IsWritten w → effect_of (written_tokens w) ≡ said w
tree_back w h = ap effect_of (sym (append-nil (written_tokens w))) ∙ ap said_by (written_back w [] h)

-- what the tokens of an effect say is what it says
pub effect_said : (tokens : List Token) (effect : Signature) → IsEffect tokens effect → effect_of tokens ≡ effect
effect_said tokens effect h = ap effect_of (sym h.spelled) ∙ tree_back h.tree h.fits ∙ h.says
