-- What comes next at places of code, by the instruction there.
use Rattle.std.proofs.Common.{◌≡◌, ◌<◌, ◌≤◌, ◌∷◌, [], ◌+◌, ℕ, zero, suc, List, length, Option, Some, refl, ap, sym, subst, ◌∙◌, arith, inl, inr}
use Rattle.std.proofs.lemmas.Bool.{cases_lt}
use Rattle.std.proofs.lemmas.Option.{slice_get_past}
use Rattle.std.specs.Prelude.{slice_get, slice_set}
use Rattle.fac_code.specs.declared.image.Instr.{Instr}
use Rattle.fac_code.specs.declared.image.Instr.TheVariants.{Tick, Ret, Hold, Back, Jump, Unbind}
use Rattle.fac_code.specs.declared.image.Image.{Image}
use Rattle.fac_carry.specs.Direct.{ComesTo, comes_here, comes_by_jump, comes_by_unbind, comes_by_tick, comes_by_hold}
use Rattle.fac_expand.specs.declared.tails.Passing.{Passing}
use Rattle.fac_expand.specs.declared.tails.Passing.TheVariants as passing
use Rattle.fac_expand.specs.declared.tails.Next.{Next}
use Rattle.fac_expand.specs.declared.tails.Next.TheVariants as next
use Rattle.fac_expand.specs.inner.Tails.{passing_of, or_other, told, Agrees, ComesNext, Tells}

-- an instruction that is neither `ret` nor `back` agrees with whatever comes next
abbrev IsNeither : Passing → Type 0
IsNeither passing.Ret = ⊥
IsNeither passing.Back = ⊥
IsNeither _ = Unit {0}

neither_agrees : (x : Instr) (b : ℕ) (n : Next) → IsNeither (passing_of (Some x)) → Agrees x b n
neither_agrees Ret b n h = absurd h
neither_agrees Back b n h = absurd h
neither_agrees _ b n h = tt

-- the instruction that stands at a place
found : (o : Option Instr) (x : Instr) (s : Passing) → passing_of o ≡ s → o ≡ Some x → passing_of (Some x) ≡ s
found o x s e f = ap passing_of (sym f) ∙ e

module _ (M : Image) where
  here_agrees : (pc : ℕ) (x : Instr) (b : ℕ) (n : Next) (s : Passing) → passing_of (slice_get M.code pc) ≡ s → slice_get M.code pc ≡ Some x → IsNeither s → Agrees x b n
  here_agrees pc x b n s e f h = neither_agrees x b n (subst IsNeither (sym (found (slice_get M.code pc) x s e f)) h)

  -- neither comes next
  pub other_next : (pc : ℕ) → passing_of (slice_get M.code pc) ≡ passing.Other → ComesNext M pc next.Other
  other_next pc e x b (comes_here _ f) = here_agrees pc x b next.Other passing.Other e f tt
  other_next pc e x b (comes_by_jump _ a _ f c) = absurd (let no : passing.Jump a ≡ passing.Other = found (slice_get M.code pc) (Jump a) passing.Other e f in cc)
  other_next pc e x b (comes_by_unbind _ k _ f c) = absurd (let no : passing.Behind ≡ passing.Other = found (slice_get M.code pc) (Unbind k) passing.Other e f in cc)
  other_next pc e x b (comes_by_tick _ _ f c) = absurd (let no : passing.Behind ≡ passing.Other = found (slice_get M.code pc) (Tick 0) passing.Other e f in cc)
  other_next pc e x b (comes_by_hold _ a _ f c d) = absurd (let no : passing.Hold ≡ passing.Other = found (slice_get M.code pc) Hold passing.Other e f in cc)

  -- `ret` comes next
  ret_agrees : (x : Instr) (b : ℕ) → passing_of (Some x) ≡ passing.Ret → Agrees x b next.Ret
  ret_agrees Ret b e = refl
  ret_agrees Back b e = absurd (cc)
  ret_agrees _ b e = tt

  pub ret_next : (pc : ℕ) → passing_of (slice_get M.code pc) ≡ passing.Ret → ComesNext M pc next.Ret
  ret_next pc e x b (comes_here _ f) = ret_agrees x b (found (slice_get M.code pc) x passing.Ret e f)
  ret_next pc e x b (comes_by_jump _ a _ f c) = absurd (let no : passing.Jump a ≡ passing.Ret = found (slice_get M.code pc) (Jump a) passing.Ret e f in cc)
  ret_next pc e x b (comes_by_unbind _ k _ f c) = absurd (let no : passing.Behind ≡ passing.Ret = found (slice_get M.code pc) (Unbind k) passing.Ret e f in cc)
  ret_next pc e x b (comes_by_tick _ _ f c) = absurd (let no : passing.Behind ≡ passing.Ret = found (slice_get M.code pc) (Tick 0) passing.Ret e f in cc)
  ret_next pc e x b (comes_by_hold _ a _ f c d) = absurd (let no : passing.Hold ≡ passing.Ret = found (slice_get M.code pc) Hold passing.Ret e f in cc)

  -- `back` comes next
  back_agrees : (x : Instr) (b : ℕ) → passing_of (Some x) ≡ passing.Back → Agrees x b (next.Back b)
  back_agrees Ret b e = absurd (cc)
  back_agrees Back b e = refl
  back_agrees _ b e = tt

  pub back_next : (pc : ℕ) → passing_of (slice_get M.code pc) ≡ passing.Back → ComesNext M pc (next.Back pc)
  back_next pc e x _ (comes_here _ f) = back_agrees x pc (found (slice_get M.code pc) x passing.Back e f)
  back_next pc e x b (comes_by_jump _ a _ f c) = absurd (let no : passing.Jump a ≡ passing.Back = found (slice_get M.code pc) (Jump a) passing.Back e f in cc)
  back_next pc e x b (comes_by_unbind _ k _ f c) = absurd (let no : passing.Behind ≡ passing.Back = found (slice_get M.code pc) (Unbind k) passing.Back e f in cc)
  back_next pc e x b (comes_by_tick _ _ f c) = absurd (let no : passing.Behind ≡ passing.Back = found (slice_get M.code pc) (Tick 0) passing.Back e f in cc)
  back_next pc e x b (comes_by_hold _ a _ f c d) = absurd (let no : passing.Hold ≡ passing.Back = found (slice_get M.code pc) Hold passing.Back e f in cc)

  -- a jump is followed
  pub jump_next : (pc a : ℕ) (n : Next) → passing_of (slice_get M.code pc) ≡ passing.Jump a → ComesNext M a n → ComesNext M pc n
  jump_next pc a n e h x b (comes_here _ f) = here_agrees pc x b n (passing.Jump a) e f tt
  jump_next pc a n e h x b (comes_by_jump _ to _ f c) = let same : to ≡ a = (let both : passing.Jump to ≡ passing.Jump a = found (slice_get M.code pc) (Jump to) (passing.Jump a) e f in cc) in h x b (subst (λ (k : ℕ). ComesTo M x k b) same c)
  jump_next pc a n e h x b (comes_by_unbind _ k _ f c) = absurd (let no : passing.Behind ≡ passing.Jump a = found (slice_get M.code pc) (Unbind k) (passing.Jump a) e f in cc)
  jump_next pc a n e h x b (comes_by_tick _ _ f c) = absurd (let no : passing.Behind ≡ passing.Jump a = found (slice_get M.code pc) (Tick 0) (passing.Jump a) e f in cc)
  jump_next pc a n e h x b (comes_by_hold _ to _ f c d) = absurd (let no : passing.Hold ≡ passing.Jump a = found (slice_get M.code pc) Hold (passing.Jump a) e f in cc)

  -- what does nothing is passed
  pub behind_next : (pc : ℕ) (n : Next) → passing_of (slice_get M.code pc) ≡ passing.Behind → ComesNext M (pc + 1) n → ComesNext M pc n
  behind_next pc n e h x b (comes_here _ f) = here_agrees pc x b n passing.Behind e f tt
  behind_next pc n e h x b (comes_by_jump _ a _ f c) = absurd (let no : passing.Jump a ≡ passing.Behind = found (slice_get M.code pc) (Jump a) passing.Behind e f in cc)
  behind_next pc n e h x b (comes_by_unbind _ k _ f c) = h x b c
  behind_next pc n e h x b (comes_by_tick _ _ f c) = h x b c
  behind_next pc n e h x b (comes_by_hold _ a _ f c d) = absurd (let no : passing.Hold ≡ passing.Behind = found (slice_get M.code pc) Hold passing.Behind e f in cc)

  -- a value is held and comes back
  pub hold_next : (pc a : ℕ) (n : Next) → passing_of (slice_get M.code pc) ≡ passing.Hold → ComesNext M (pc + 1) (next.Back a) → ComesNext M (a + 1) n → ComesNext M pc n
  hold_next pc a n e held h x b (comes_here _ f) = here_agrees pc x b n passing.Hold e f tt
  hold_next pc a n e held h x b (comes_by_jump _ to _ f c) = absurd (let no : passing.Jump to ≡ passing.Hold = found (slice_get M.code pc) (Jump to) passing.Hold e f in cc)
  hold_next pc a n e held h x b (comes_by_unbind _ k _ f c) = absurd (let no : passing.Behind ≡ passing.Hold = found (slice_get M.code pc) (Unbind k) passing.Hold e f in cc)
  hold_next pc a n e held h x b (comes_by_tick _ _ f c) = absurd (let no : passing.Behind ≡ passing.Hold = found (slice_get M.code pc) (Tick 0) passing.Hold e f in cc)
  hold_next pc a n e held h x b (comes_by_hold _ to _ f c d) = let same : to ≡ a = (let both : next.Back a ≡ next.Back to = held Back to c in cc) in h x b (subst (λ (k : ℕ). ComesTo M x (k + 1) b) same d)

  -- a value is held, and something else comes next
  pub held_next : (pc : ℕ) (n : Next) → passing_of (slice_get M.code pc) ≡ passing.Hold → ((a : ℕ) → n ≡ next.Back a → ⊥) → ComesNext M (pc + 1) n → ComesNext M pc next.Other
  held_next pc n e none held x b (comes_here _ f) = here_agrees pc x b next.Other passing.Hold e f tt
  held_next pc n e none held x b (comes_by_jump _ to _ f c) = absurd (let no : passing.Jump to ≡ passing.Hold = found (slice_get M.code pc) (Jump to) passing.Hold e f in cc)
  held_next pc n e none held x b (comes_by_unbind _ k _ f c) = absurd (let no : passing.Behind ≡ passing.Hold = found (slice_get M.code pc) (Unbind k) passing.Hold e f in cc)
  held_next pc n e none held x b (comes_by_tick _ _ f c) = absurd (let no : passing.Behind ≡ passing.Hold = found (slice_get M.code pc) (Tick 0) passing.Hold e f in cc)
  held_next pc n e none held x b (comes_by_hold _ to _ f c d) = absurd (none to (held Back to c))

  -- behind the code nothing comes
  pub past_next : (pc : ℕ) → length M.code ≤ pc → ComesNext M pc next.Other
  past_next pc past = other_next pc (ap passing_of (slice_get_past M.code pc past))

  -- A table that tells nothing yet, and one place more.
  pub tells_none : (table : List Next) → length table ≡ length M.code → Tells M table (length M.code)
  tells_none table same pc past = subst (ComesNext M pc) (sym (ap or_other (slice_get_past table pc (let long = same in omega (arith, past, long))))) (past_next pc past)

  pub tells_more : (table new : List Next) (at : ℕ) (n : Next) → at < length table → new ≡ slice_set table at n → ComesNext M at n → Tells M table (at + 1) → Tells M new at
  tells_more table new at n lt is own tells pc from = elim (cases_lt at pc) [
    | inl above ↦ subst (ComesNext M pc) (sym (ap or_other (ap (λ (xs : List Next). slice_get xs pc) is ∙ get_above table at pc n above))) (tells pc (omega (arith, above)))
    | inr not ↦ (
        let same : at ≡ pc = omega (arith, from, not) in
        subst (λ (k : ℕ). ComesNext M k (told new k)) same (subst (ComesNext M at) (sym (ap or_other (ap (λ (xs : List Next). slice_get xs at) is ∙ get_set table at n lt))) own))
  ]
    where
      get_set : (xs : List Next) (k : ℕ) (y : Next) → k < length xs → slice_get (slice_set xs k y) k ≡ Some y
      get_set [] k y l = absurd (omega (arith, l))
      get_set (x ∷ xs) zero y l = refl
      get_set (x ∷ xs) (suc k) y l = get_set xs k y (omega (arith, l))

      get_above : (xs : List Next) (k j : ℕ) (y : Next) → k < j → slice_get (slice_set xs k y) j ≡ slice_get xs j
      get_above [] zero j y l = refl
      get_above [] (suc k) j y l = refl
      get_above (x ∷ xs) zero zero y l = absurd (omega (arith, l))
      get_above (x ∷ xs) zero (suc j) y l = refl
      get_above (x ∷ xs) (suc k) zero y l = absurd (omega (arith, l))
      get_above (x ∷ xs) (suc k) (suc j) y l = get_above xs k j y (omega (arith, l))
