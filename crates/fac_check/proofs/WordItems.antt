-- What the items of a whole program's words do in the checker's walk.
use Rattle.std.proofs.Common.{◌≡◌, ◌≢◌, ℕ, List, [], ◌∷◌, ◌++◌, length, Bool, true, false, Option, Some, None, refl, sym, ap, subst, ◌∙◌, arith, Result, Ok, Err}
use Rattle.std.specs.Prelude.{not, nat_eq, slice_get, IfOk}
use Rattle.std.proofs.lemmas.Bool.{ne_eqb}
use Rattle.fac_base.specs.declared.height.Height.{Height}
use Rattle.fac_lang.specs.declared.program.Program.{Program}
use Rattle.fac_lang.specs.declared.program.WordDef.{WordDef}
use Rattle.fac_lang.specs.declared.program.Sort.{Sort}
use Rattle.fac_lang.specs.declared.program.Sort.TheVariants.{Prim as prim, Body as body}
use Rattle.fac_lang.specs.declared.phrase.Template.{Template}
use Rattle.fac_lang.specs.Phrases.{Phrase, Mark}
use Rattle.fac_base.specs.Signatures.{Signature}
use Rattle.fac_base.specs.Effects.{effect_height}
use Rattle.fac_lang.specs.PrimitiveWords.{outputs_of, written_effect}
use Rattle.fac_lang.specs.Primitives.{Primitive, prim_numbered}
use Rattle.fac_lang.proofs.SourcePrograms.{IsSessionProgram}
use Rattle.fac_locals.specs.Closed.{Closes, ClosesWord}
use Rattle.fac_locals.proofs.Lookups.{word_open_none}
use Rattle.fac_abs.specs.RowVariables.{Row, is_row}
use Rattle.fac_abs.specs.declared.rule.Rule.TheVariants.{NotKnown}
use Rattle.fac_check.specs.Flow.{Doing, breaks, word_doing, by_height, callable_or, prim_doing, is_own, sort_doing, inline_doing, row_or_phrase}
use Rattle.fac_check.specs.inner.Walking.{Opened, NamesWhereOwn, body_phrase, phrase_of, sort_phrase}
use Rattle.fac_check.specs.inner.OwnEffects.{own_effect, effect_where}
use Rattle.fac_rows.specs.RowNumbers.{NamesOwn}
use Rattle.fac_check.proofs.PrimitivesKeep.{written_height}

-- an answer's fact out of another
pub ok_maps : {A E : Type 0} {Q R : A → Type 0} (r : Result A E) → ((x : A) → Q x → R x) → IfOk r Q → IfOk r R
ok_maps (Ok x) f h = f x h
ok_maps (Err e) f h = h

-- the last element of a list
last_at : {A : Type 0} (xs : List A) (y : A) → slice_get (xs ++ y ∷ []) (length xs) ≡ Some y
last_at [] y = refl
last_at (x ∷ xs) y = last_at xs y

itself : (n : ℕ) → nat_eq n n ≡ true
itself n = grind arith

-- the top-level phrase is never an item
pub top_item : (P : Program) → IsSessionProgram P → (own : Option ℕ) (b : Option Row) (ms : List Mark) → breaks NotKnown ≡ word_doing P own P.top (slice_get P.words P.top) b ms
top_item P built own b ms =
    let d = built.last_word in
    let at : slice_get P.words P.top ≡ Some d = ap (λ (k : ℕ). slice_get P.words k) built.top_is ∙ ap (λ (ws : List WordDef). slice_get ws (length built.words)) built.words_are ∙ last_at built.words d in
    ap (λ (q : Bool). callable_or (not q) NotKnown (inline_doing P own d.inline P.top d built.phrase b ms)) (sym (itself P.top))
    ∙ ap (λ (s : Sort). sort_doing P own P.top d s b ms) (sym built.last_word_is.sort_is)
    ∙ ap (λ (o : Option WordDef). word_doing P own P.top o b ms) (sym at)

-- and neither is a word that isn't there
pub no_word : (P C : Program) (templates : List Template) → Closes P C templates → (own : Option ℕ) (w : ℕ) (b : Option Row) (ms : List Mark) → slice_get C.words w ≡ None → breaks NotKnown ≡ word_doing P own w (slice_get P.words w) b ms
no_word P C templates closes own w b ms none = ap (λ (o : Option WordDef). word_doing P own w o b ms) (sym (word_open_none P C templates closes w none))

-- the rows of the word that is checked
module _ {C : Program} {templates : List Template} {own : Option ℕ} {inner : ℕ} (O : Opened C templates own inner) where
  pub named_own : (w : ℕ) (c : WordDef) → slice_get C.words w ≡ Some c → NamesWhereOwn O.naming own w c.effect
  named_own w c at e = subst (λ (o : Option WordDef). NamesOwn O.naming (effect_where o)) at (subst (λ (o : Option Signature). NamesOwn O.naming o) (O.effect_is ∙ ap (own_effect C) e) O.rows)

module _ (P : Program) (w : ℕ) (d c : WordDef) (closes : ClosesWord P w d c) where
  -- the height that the code reads off
  height_read : (i : ℕ) (o : Option ℕ) → i ≡ (effect_height c.effect).ins → o ≡ (effect_height c.effect).outs → (let h : Height = record { ins = i; outs = o } in h ≡ effect_height d.effect)
  height_read i o e f = rw (e, f, closes.effect) refl

  -- a primitive word takes and leaves what is written
  pub prim_ins : (p : Primitive) (i : ℕ) → d.effect ≡ written_effect p.word → i ≡ (effect_height c.effect).ins → i ≡ length p.word.ins
  prim_ins p i e f = ap (λ (h : Height). h.ins) (height_read i (effect_height c.effect).outs f refl ∙ ap effect_height e ∙ written_height p.word)

  pub prim_outs : (p : Primitive) (o : Option ℕ) → d.effect ≡ written_effect p.word → o ≡ (effect_height c.effect).outs → o ≡ outputs_of p.word
  prim_outs p o e f = ap (λ (h : Height). h.outs) (height_read (effect_height c.effect).ins o refl f ∙ ap effect_height e ∙ written_height p.word)

module _ (P : Program) (own : Option ℕ) (w : ℕ) (d c : WordDef) (closes : ClosesWord P w d c) where
  -- a word of this sort
  pub item_of : (s : Sort) (X : Doing) (b : Option Row) (ms : List Mark) → d.sort ≡ s → X ≡ sort_doing P own w d s b ms → X ≡ sort_doing P own w d d.sort b ms
  item_of s X b ms e x = x ∙ ap (λ q. sort_doing P own w d q b ms) (sym e)

  -- one that goes by its effect
  pub effect_item : (X : Doing) (b : Option Row) (ms : List Mark) → X ≡ by_height (effect_height c.effect).ins (effect_height c.effect).outs b ms → X ≡ by_height (effect_height d.effect).ins (effect_height d.effect).outs b ms
  effect_item X b ms x = x ∙ ap (λ f. by_height (effect_height f).ins (effect_height f).outs b ms) closes.effect

  pub prim_item : (k : ℕ) (p : Primitive) (X : Doing) (b : Option Row) (ms : List Mark) → d.sort ≡ prim k → prim_numbered k ≡ Some p → X ≡ prim_doing (Some p) b ms → X ≡ sort_doing P own w d d.sort b ms
  prim_item k p X b ms s e x = x ∙ ap (λ o. prim_doing o b ms) (sym e) ∙ ap (λ q. sort_doing P own w d q b ms) (sym s)

  pub body_item :
      (t : Phrase) (X : Doing) (e : Option Row) (ms : List Mark) → slice_get P.words w ≡ Some d → d.sort ≡ body t → w ≢ P.top → X ≡ inline_doing P own c.inline w c (body_phrase P w) e ms → X ≡ sort_doing P own w d d.sort e ms
  body_item t X e ms at s n x =
      x
      ∙ marked c.inline d.inline closes.inline
      ∙ ap (λ u. inline_doing P own d.inline w d u e ms) (ap phrase_of at ∙ ap sort_phrase s)
      ∙ ap (λ q. callable_or q NotKnown (inline_doing P own d.inline w d t e ms)) (sym (ap not (ne_eqb w P.top n)))
      ∙ ap (λ q. sort_doing P own w d q e ms) (sym s)
    where
      marked : (i j : Bool) → i ≡ j → inline_doing P own i w c (body_phrase P w) e ms ≡ inline_doing P own j w d (body_phrase P w) e ms
      marked true true q = ap (λ r. row_or_phrase P own (is_row r c.effect) (is_own w own) w (body_phrase P w) c.effect e ms) closes.recursive ∙ ap (λ f. row_or_phrase P own (is_row d.recursive f) (is_own w own) w (body_phrase P w) f e ms) closes.effect
      marked false false q = ap (λ f. by_height (effect_height f).ins (effect_height f).outs e ms) closes.effect
      marked true false q = absurd (cc)
      marked false true q = absurd (cc)
