-- Flags for the places where bodies begin, and the code of a body.
use Rattle.std.proofs.Common.{◌≡◌, ◌<◌, ◌≤◌, ◌∷◌, [], ◌+◌, ◌++◌, ℕ, zero, suc, List, length, Bool, true, false, Option, Some, None, refl, ap, sym, subst, ◌∙◌, arith, inl, inr}
use Rattle.std.proofs.lemmas.Bool.{cases_lt}
use Rattle.std.specs.Prelude.{◌&&◌, nat_le, nat_lt, slice_get, slice_set}
use Rattle.fac_code.specs.declared.image.Action.{Action}
use Rattle.fac_code.specs.declared.image.Action.TheVariants as action
use Rattle.fac_code.specs.declared.image.Instr.{Instr}
use Rattle.fac_code.specs.declared.image.Instr.TheVariants.{Quot, Fry, Callw, Callp, Call, Dip, If, Jump, Branch}
use Rattle.fac_code.specs.declared.image.WordRow.{WordRow}
use Rattle.fac_code.specs.declared.image.GenericRow.{GenericRow}
use Rattle.fac_code.specs.declared.image.MethodRow.{MethodRow}
use Rattle.fac_code.specs.declared.image.Image.{Image}
use Rattle.fac_carry.specs.Direct.{IsNotInline, Begins, begins_word, begins_method, begins_top, InBody, IsDirect, HasDirectCode}
use Rattle.fac_lang.specs.declared.program.Program.{Program}
use Rattle.fac_expand.specs.declared.plan.Use.{Use}
use Rattle.fac_expand.specs.declared.plan.Use.TheVariants.{Called, InPlace, Specialised, Loop, While, Until}
use Rattle.fac_expand.specs.DirectInPlace.{UsesAre}
use Rattle.fac_expand.specs.inner.DirectPlaces.{is_called}
use Rattle.fac_expand.specs.inner.Bodies.{HasNoFlag, FlagIs, was, own, IsFlagged, ActionFlagIs, action_was, action_own, IsActionFlagged, MethodFlagIs, method_was, method_own, AreMethodsFlagged, HasActionFlag, HaveWordFlags, HaveGenericFlags, OnlyBegin, AreBegins, EndsAt, is_direct_between}

use_called : (o : Option Use) → is_called o ≡ true → o ≡ Some Called
use_called (Some Called) h = refl
use_called None h = absurd (cc)
use_called (Some InPlace) h = absurd (cc)
use_called (Some Specialised) h = absurd (cc)
use_called (Some Loop) h = absurd (cc)
use_called (Some While) h = absurd (cc)
use_called (Some Until) h = absurd (cc)

flag_lifted : (x : Bool) (xs : List Bool) (k b : ℕ) → FlagIs xs k b → FlagIs (x ∷ xs) (suc k) (suc b)
flag_lifted x xs k b (was e) = was e
flag_lifted x xs k b (own e) = own (ap suc e)

-- a flag is set
pub flag_set : (xs : List Bool) (k b : ℕ) → slice_get (slice_set xs k true) b ≡ Some true → FlagIs xs k b
flag_set [] zero b e = was e
flag_set [] (suc k) b e = was e
flag_set (x ∷ xs) zero zero e = own refl
flag_set (x ∷ xs) zero (suc b) e = was e
flag_set (x ∷ xs) (suc k) zero e = was e
flag_set (x ∷ xs) (suc k) (suc b) e = flag_lifted x xs k b (flag_set xs k b e)

-- one place more without a flag
none_more : (xs : List Bool) → HasNoFlag xs → (b : ℕ) → slice_get (xs ++ false ∷ []) b ≡ Some true → ⊥
none_more [] none zero e = absurd (cc)
none_more [] none (suc b) e = absurd (cc)
none_more (x ∷ xs) none zero e = none zero e
none_more (x ∷ xs) none (suc b) e = none_more xs (λ j f. none (suc j) f) b e

pub no_flag_more : (xs new : List Bool) → HasNoFlag xs → new ≡ xs ++ false ∷ [] → HasNoFlag new
no_flag_more xs new none e = subst HasNoFlag (sym e) (none_more xs none)

-- the code of what a word does, where it has some
pub action_flagged : (old new : List Bool) (x : Action) (a : ℕ) → x ≡ action.Code a → IsFlagged old a new → IsActionFlagged old x new
action_flagged old new x a is h b e = by (h b e)
  where
    by : FlagIs old a b → ActionFlagIs old x b
    by (was f) = action_was f
    by (own f) = action_own (is ∙ ap action.Code (sym f))

-- one method more
pub method_flagged : (old mid new : List Bool) (ms : List MethodRow) (j : ℕ) (m : MethodRow) → slice_get ms j ≡ Some m → AreMethodsFlagged old ms mid → IsFlagged mid m.entry new → AreMethodsFlagged old ms new
method_flagged old mid new ms j m there so_far h b e = by (h b e)
  where
    by : FlagIs mid m.entry b → MethodFlagIs old ms b
    by (was f) = so_far b f
    by (own f) = method_own j m there f

module _ (M : Image) where
  pub word_begins : (old new : List Bool) (w : ℕ) (r : WordRow) → slice_get M.words w ≡ Some r → IsActionFlagged old r.action new → OnlyBegin M old → OnlyBegin M new
  word_begins old new w r there h only b e = by (h b e)
    where
      by : ActionFlagIs old r.action b → Begins M b
      by (action_was f) = only b f
      by (action_own f) = begins_word w b r there f

  pub methods_begin : (old new : List Bool) (n : ℕ) (r : GenericRow) → slice_get M.generics n ≡ Some r → AreMethodsFlagged old r.methods new → OnlyBegin M old → OnlyBegin M new
  methods_begin old new n r there h only b e = by (h b e)
    where
      by : MethodFlagIs old r.methods b → Begins M b
      by (method_was f) = only b f
      by (method_own j m f is) = subst (Begins M) (sym is) (begins_method n j r m there f)

  pub start_begins : (old new : List Bool) → IsFlagged old M.start new → OnlyBegin M old → OnlyBegin M new
  start_begins old new h only b e = by (h b e)
    where
      by : FlagIs old M.start b → Begins M b
      by (was f) = only b f
      by (own f) = subst (Begins M) (sym f) begins_top

  all_flagged : (flags : List Bool) → HaveWordFlags flags M.words → HaveGenericFlags flags M.generics → slice_get flags M.start ≡ Some true → (b : ℕ) → Begins M b → slice_get flags b ≡ Some true
  all_flagged flags words generics start _ (begins_word w a r there is) = subst (HasActionFlag flags) is (words w r there)
  all_flagged flags words generics start _ (begins_method n j r m there f) = generics n r there j m f
  all_flagged flags words generics start _ begins_top = start

  pub are_begins : (flags : List Bool) → OnlyBegin M flags → HaveWordFlags flags M.words → HaveGenericFlags flags M.generics → slice_get flags M.start ≡ Some true → AreBegins M flags
  are_begins flags only words generics start = record { only = only; all = all_flagged flags words generics start }

  -- Between its beginning and its end a place is in the body.
  module _ (P : Program) (uses : List Use) (are : UsesAre P uses) (flags : List Bool) (a e : ℕ) (begins : AreBegins M flags) (ends : EndsAt flags a (length M.code) e) where
    in_body : (b : ℕ) → a ≤ b → b < e → InBody M a b
    in_body b from lt = record {
      from = from;
      within = let most = ends.within in omega (arith, lt, most);
      before_next = λ c there above below. ends.none c above (omega (arith, lt, below)) (begins.all c there);
    }

    bounds : (b : ℕ) → (nat_le a b && nat_lt b e) ≡ true → InBody M a b
    bounds b h = let both : (a ≤ b) × (b < e) = grind (arith) in in_body b both.0 both.1

    is_ordinary : (w : ℕ) → is_called (slice_get uses w) ≡ true → IsNotInline P w
    is_ordinary w h d there = are.not_inline w d there (use_called (slice_get uses w) h)

    direct_instr : (i : Instr) → is_direct_between uses a e i ≡ true → IsDirect P M a i
    direct_instr (Quot q) h = absurd (cc)
    direct_instr (Fry q) h = absurd (cc)
    direct_instr (Call t) h = absurd (cc)
    direct_instr Dip h = absurd (cc)
    direct_instr (If t) h = absurd (cc)
    direct_instr (Jump b) h = bounds b h
    direct_instr (Branch b) h = bounds b h
    direct_instr (Callp b t) h = bounds b h
    direct_instr (Callw w t) h = is_ordinary w h
    direct_instr _ h = tt

    before_end : (pc : ℕ) → InBody M a pc → pc < e
    before_end pc h = elim (cases_lt pc e) [
      | inl lt ↦ lt
      | inr past ↦ (
          let within = h.within in
          let inside : e < length M.code = omega (arith, past, within) in
          absurd (h.before_next e (begins.only e (ends.next inside)) (ends.ahead inside) past))
    ]

    pub body_is_direct : ((pc : ℕ) → pc < e → a ≤ pc → (i : Instr) → slice_get M.code pc ≡ Some i → is_direct_between uses a e i ≡ true) → HasDirectCode P M a
    body_is_direct each pc i h there = direct_instr i (each pc (before_end pc h) h.from i there)
