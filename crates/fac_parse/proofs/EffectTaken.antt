-- What the reader of an effect answers, over plain variables.
use Rattle.std.proofs.Common.{◌≡◌, List, [], ◌∷◌, ◌++◌, Ok, refl, ap, ◌∙◌, subst}
use Rattle.fac_source.specs.declared.token.Token.{Token}
use Rattle.fac_effect.specs.declared.spelling.Spelling.{Spelling}
use Rattle.fac_effect.specs.declared.effect_reader.EffectReader.{EffectReader}
use Rattle.fac_effect.specs.declared.effect_reader.EffectStep.{EffectStep}
use Rattle.fac_effect.specs.declared.effect_reader.EffectStep.TheVariants.{Whole}
use Rattle.fac_effect.specs.Spellings.{token_spelling}
use Rattle.fac_effect.specs.EffectReading.{Progress, reads, whole, refused, opened, step, go_on, after, Takes}
use Rattle.fac_effect.specs.RowlessEffects.{behind_opens}
use Rattle.fac_effect.proofs.EffectRuns.{run_append}
use Rattle.fac_effect.proofs.EffectLemmas.{after_more}

taken_whole : (p : Progress) (r next : EffectReader) → Takes p r next (Ok Whole) → p ≡ whole
taken_whole (reads q) r next h = absurd h
taken_whole whole r next h = refl
taken_whole (refused why) r next h = absurd h

-- an effect that is whole behind one more token
pub effect_ends : (ts now : List Token) (r next : EffectReader) (s : Spelling) (t : Token) (answer : EffectStep) → after ts ≡ reads r → token_spelling t.kind ≡ s → Takes (step r s t) r next (Ok answer) → answer ≡ Whole → now ≡ ts ++ t ∷ [] → after now ≡ whole
effect_ends ts now r next s t answer read spelled takes is more =
    let all : step r s t ≡ whole = taken_whole (step r s t) r next (subst (λ (x : EffectStep). Takes (step r s t) r next (Ok x)) is takes) in
    ap after more ∙ after_more ts t ∙ ap (λ (p : Progress). go_on p t) read ∙ ap (λ (x : Spelling). step r x t) spelled ∙ all

-- likewise the effect of a call
pub call_ends : (ts now : List Token) (r next : EffectReader) (s : Spelling) (t : Token) (answer : EffectStep) → behind_opens ts ≡ reads r → token_spelling t.kind ≡ s → Takes (step r s t) r next (Ok answer) → answer ≡ Whole → now ≡ ts ++ t ∷ [] → behind_opens now ≡ whole
call_ends ts now r next s t answer read spelled takes is more =
    let all : step r s t ≡ whole = taken_whole (step r s t) r next (subst (λ (x : EffectStep). Takes (step r s t) r next (Ok x)) is takes) in
    ap behind_opens more ∙ run_append (reads opened) ts (t ∷ []) ∙ ap (λ (p : Progress). go_on p t) read ∙ ap (λ (x : Spelling). step r x t) spelled ∙ all
