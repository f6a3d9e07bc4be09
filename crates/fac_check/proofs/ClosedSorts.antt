-- What a word is in the program, from what it is in a closed one.
use Rattle.std.proofs.Common.{◌≡◌, ℕ, List, [], Bool, true, false, refl, sym, ap, ◌∙◌, subst}
use Rattle.fac_lang.specs.declared.phrase.Template.{Template}
use Rattle.fac_lang.specs.declared.program.Program.{Program}
use Rattle.fac_lang.specs.declared.program.WordDef.{WordDef}
use Rattle.fac_lang.specs.declared.program.Sort.{Sort}
use Rattle.fac_lang.specs.declared.program.Sort.TheVariants.{Body as body, Past as past, Method as method}
use Rattle.fac_lang.specs.Phrases.{Phrase}
use Rattle.fac_lang.specs.Substitution.{of_method}
use Rattle.fac_locals.specs.Literals.{first_of_word}
use Rattle.fac_locals.specs.Closed.{ClosesWord, ClosesSort, ClosesPhrase}
use Rattle.fac_locals.specs.Frames.{Opens}
use Rattle.fac_locals.specs.OpenedPrograms.{OpensSort}
use Rattle.fac_check.specs.inner.BrokenRules.{is_past_sort}

-- whether a word of this sort has a phrase
abbrev pub has_phrase : Sort → Bool
has_phrase (body t) = true
has_phrase (past t) = true
has_phrase (method c g t) = true
has_phrase _ = false

not_both : (s : Sort) → has_phrase s ≡ true → has_phrase s ≡ false → ⊥
not_both s e f = let clash : true ≡ false = sym e ∙ f in cc

-- a sort by its closed one
module _ (Q : Program) (w : ℕ) where
  pub plain_only : (s c : Sort) → ClosesSort Q w s c → has_phrase c ≡ false → s ≡ c
  plain_only (body t) c f n = absurd (not_both c (ap has_phrase f.1) n)
  plain_only (past t) c f n = absurd (not_both c (ap has_phrase f.1) n)
  plain_only (method k g t) c f n = absurd (not_both c (ap has_phrase f.1) n)
  plain_only _ c f n = sym f

  pub body_only : (s : Sort) (c : Phrase) → ClosesSort Q w s (body c) → (t : Phrase) × (s ≡ body t) × ClosesPhrase Q [] (first_of_word w) t c
  body_only (body t) c f = let same : f.0 ≡ c = (let e = f.1 in cc) in (t, refl, subst (λ (x : Phrase). ClosesPhrase Q [] (first_of_word w) t x) same f.2)
  body_only (past t) c f = absurd (let e = f.1 in cc)
  body_only (method k g t) c f = absurd (let e = f.1 in cc)
  body_only _ c f = absurd (cc)

  pub method_only : (s : Sort) (k g : ℕ) (c : Phrase) → ClosesSort Q w s (method k g c) → (t : Phrase) × (s ≡ method k g t) × ClosesPhrase Q [] (first_of_word w) (of_method w t) c
  method_only (method j h t) k g c f =
      let e = f.1 in
      let same : f.0 ≡ c = cc in
      let classes : j ≡ k = cc in
      let generics : h ≡ g = cc in
      (t, ap (λ (x : ℕ). method x h t) classes ∙ ap (λ (x : ℕ). method k x t) generics, subst (λ (x : Phrase). ClosesPhrase Q [] (first_of_word w) (of_method w t) x) same f.2)
  method_only (body t) k g c f = absurd (let e = f.1 in cc)
  method_only (past t) k g c f = absurd (let e = f.1 in cc)
  method_only _ k g c f = absurd (cc)

  pub past_same : (s c : Sort) → ClosesSort Q w s c → is_past_sort c ≡ is_past_sort s
  past_same (body t) c f = ap is_past_sort f.1
  past_same (past t) c f = ap is_past_sort f.1
  past_same (method k g t) c f = ap is_past_sort f.1
  past_same _ c f = ap is_past_sort f

module _ (P : Program) (w : ℕ) (d c : WordDef) (closes : ClosesWord P w d c) where
  -- a word without a phrase
  pub plain_sort : (s : Sort) → c.sort ≡ s → has_phrase s ≡ false → d.sort ≡ s
  plain_sort s e h = plain_only P w d.sort c.sort closes.sort (ap has_phrase e ∙ h) ∙ e

  -- a word that is defined by a phrase, and a method
  pub is_body : (t : Phrase) → c.sort ≡ body t → (u : Phrase) × (d.sort ≡ body u) × ClosesPhrase P [] (first_of_word w) u t
  is_body t e = body_only P w d.sort t (subst (λ (x : Sort). ClosesSort P w d.sort x) e closes.sort)

  pub is_method : (k g : ℕ) (t : Phrase) → c.sort ≡ method k g t → (u : Phrase) × (d.sort ≡ method k g u) × ClosesPhrase P [] (first_of_word w) (of_method w u) t
  is_method k g t e = method_only P w d.sort k g t (subst (λ (x : Sort). ClosesSort P w d.sort x) e closes.sort)

-- the phrase of a word to which its closed one opens
module _ (P : Program) (templates : List Template) (w : ℕ) where
  pub opens_body : (s c : Sort) (t : Phrase) → OpensSort P templates w s c → c ≡ body t → (u : Phrase) × (s ≡ body u) × Opens P templates [] (first_of_word w) t u
  opens_body (body u) c t h e = (let same : h.0 ≡ t = (let f : body h.0 ≡ body t = sym h.1 ∙ e in cc) in (u, refl, subst (λ (x : Phrase). Opens P templates [] (first_of_word w) x u) same h.2))
  opens_body (past u) c t h e = absurd (let f : past h.0 ≡ body t = sym h.1 ∙ e in cc)
  opens_body (method n g u) c t h e = absurd (let f : method n g h.0 ≡ body t = sym h.1 ∙ e in cc)
  opens_body s c t h e = absurd (cc)

  pub opens_method : (s c : Sort) (k g : ℕ) (t : Phrase) → OpensSort P templates w s c → c ≡ method k g t → (u : Phrase) × (s ≡ method k g u) × Opens P templates [] (first_of_word w) t (of_method w u)
  opens_method (method j i u) c k g t h e =
      let f : method j i h.0 ≡ method k g t = sym h.1 ∙ e in
      let same : h.0 ≡ t = cc in
      let classes : j ≡ k = cc in
      let generics : i ≡ g = cc in
      (u, ap (λ (x : ℕ). method x i u) classes ∙ ap (λ (x : ℕ). method k x u) generics, subst (λ (x : Phrase). Opens P templates [] (first_of_word w) x (of_method w u)) same h.2)
  opens_method (body u) c k g t h e = absurd (let f : body h.0 ≡ method k g t = sym h.1 ∙ e in cc)
  opens_method (past u) c k g t h e = absurd (let f : past h.0 ≡ method k g t = sym h.1 ∙ e in cc)
  opens_method s c k g t h e = absurd (cc)
