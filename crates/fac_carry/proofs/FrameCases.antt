-- The steps of the cases that read the frame or put a value in it: a value that is held, a local that is bound, and a fry.
use Rattle.std.proofs.Common.{◌≡◌, ℕ, zero, suc, ◌+◌, ◌<◌, List, [], ◌∷◌, ◌++◌, length, map, Option, Some, refl, ap, sym, subst, ◌∙◌, arith}
use Rattle.std.specs.Prelude.{slice_get}
use Rattle.std.proofs.lemmas.List.{append-nil}
use Rattle.fac_base.specs.declared.place.Place.{Place}
use Rattle.fac_lang.specs.declared.program.Program.{Program}
use Rattle.fac_lang.specs.Phrases.{Phrase, then, Item, bind, fry, held, Value, fun, of_phrase}
use Rattle.fac_lang.specs.Substitution.{put_local, put_holes}
use Rattle.fac_lang.specs.World.{World, State, pile, push}
use Rattle.fac_lang.specs.Eval.{Act, wrong, goes, binds}
use Rattle.fac_base.specs.HeightArithmetic.{fits}
use Rattle.fac_lang.specs.Meaning.{taking, act}
use Rattle.fac_code.specs.declared.image.Instr.{Instr}
use Rattle.fac_code.specs.declared.image.Instr.TheVariants.{Bind, Local}
use Rattle.fac_code.specs.declared.image.Image.{Image}
use Rattle.fac_code.specs.declared.image.TemplateRow.{TemplateRow}
use Rattle.fac_code.specs.declared.names.TrapWhy.TheVariants.{Kind as t_kind, Frame as t_frame}
use Rattle.fac_store.specs.MachineValues.{MValue, cells_at}
use Rattle.fac_machine.specs.Machine.{Machine, Entry, spent, Step, goes_on, ends, or_trap, popping, makes, fries, fetched}
use Rattle.fac_carry.specs.MachineView.{Templates, value_view, values_view, world_view}
use Rattle.fac_carry.specs.WholeValues as whole
use Rattle.fac_carry.specs.Stands.{making}
use Rattle.fac_carry.specs.Symbols.{Sym, here, Task, do_phrase, Needs}
use Rattle.fac_carry.proofs.SymbolicStacks.{l_phrase, r_here, lies_more, keeps_phrase, Lies, Has, has, too_short, needed}
use Rattle.fac_carry.proofs.WholeValueLemmas.{get_whole, pile_whole, more_whole, parts_whole, cells_whole, made, made_view, made_whole}
use Rattle.fac_carry.specs.Setting.{Setting}
use Rattle.fac_carry.proofs.Following.{owing, state, at, left, Follows, step_before, fetch, owe, Live, Go, first_is, owed_goes, owed_none, live_is, live_goes, wrong_here}
use Rattle.fac_carry.proofs.CaseLemmas.{g_push}
use Rattle.fac_carry.proofs.CallLemmas.{pile_views}

-- values that are taken off a stack, the deepest first
pops_all : (xs us ms : List MValue) (s : Machine) (n : ℕ) (go : List MValue → Machine → Step) → popping (length xs) us (xs ++ ms) s n go ≡ go (pile xs us) (record s { stack = ms })
pops_all [] us ms s n go = refl
pops_all (x ∷ xs) us ms s n go = pops_all xs (x ∷ us) ms s n go

takes_all : (xs us vs : List Value) (w : World Value) (go : List Value → State Value → Act) → taking (length xs) us (xs ++ vs) w go ≡ go (pile xs us) (state vs w)
takes_all [] us vs w go = refl
takes_all (x ∷ xs) us vs w go = takes_all xs (x ∷ us) vs w go

takes_few : (n : ℕ) (us vs : List Value) (w : World Value) (go : List Value → State Value → Act) → length vs < n → taking n us vs w go ≡ wrong
takes_few zero us vs w go lt = absurd (omega (arith, lt))
takes_few (suc n) us [] w go lt = refl
takes_few (suc n) us (v ∷ vs) w go lt = takes_few n (v ∷ us) vs w go (omega (arith, lt))

pile_length : (xs us : List MValue) → length (pile xs us) ≡ length xs + length us
pile_length [] us = omega arith
pile_length (x ∷ xs) us = let d = pile_length xs (x ∷ us) in omega (arith, d)

both_long : (xs ys : List MValue) → length (xs ++ ys) ≡ length xs + length ys
both_long [] ys = omega arith
both_long (x ∷ xs) ys = let d = both_long xs ys in omega (arith, d)

-- what a fry makes of values
abbrev fried : Phrase → List Value → State Value → Act
fried b hs st = goes (push (fun (of_phrase (put_holes (map held hs) b))) st)

views_length : (T : Templates) (xs : List MValue) → length (values_view T xs) ≡ length xs
views_length T [] = refl
views_length T (x ∷ xs) = ap suc (views_length T xs)

module _ (Y : Setting) where
  -- short names of what a setting has, as in Following: names under a module's argument aren't handed on without it
  abbrev P : Program
  P = Y.program

  abbrev M : Image
  M = Y.image

  abbrev T : Templates
  T = Y.texts

  abbrev A : Item → State Value → Act
  A = act P fits Y.callable_height

  abbrev V : World MValue → World Value
  V = world_view T

  abbrev AllWhole : List MValue → Type 0
  AllWhole = whole.AllWhole P M

  abbrev Fine : List MValue → List MValue → List MValue → World MValue → Type 0
  Fine = whole.Fine P M

  abbrev Whole : MValue → Type 0
  Whole = whole.Whole P M

  -- a cell of the frame
  pub held_goes : (F : List MValue) (pc k : ℕ) (v : MValue) → slice_get F k ≡ Some v → (ms rs : List MValue) (R : List Entry) (w : World MValue) (n : ℕ) → fetched M (Some (Local k)) (at F pc ms rs R w) (suc n) ≡ goes_on (at F (pc + 1) (v ∷ ms) rs R w) n
  held_goes F pc k v ek ms rs R w n = ap (λ (o : Option MValue). or_trap o t_frame (at F pc ms rs R w) n (λ u. goes_on (at F (pc + 1) (u ∷ ms) rs R w) n)) ek

  pub g_held : (f : ℕ) (F : List MValue) (last : Option Instr) (d k : ℕ) (v : MValue) (p : Place) (t : Phrase) (S : List Sym) (K : List Task) (pc : ℕ) → slice_get M.code pc ≡ Some (Local k) → slice_get F k ≡ Some v →
      Go Y f F last d (here ∷ S) (do_phrase t ∷ K) (pc + 1) → Go Y f F last d S (do_phrase (then (held (value_view T v)) p t) ∷ K) pc
  g_held f F last d k v p t S K pc e ek go = g_push Y f F last d (held (value_view T v)) p t S K pc (Local k) v (λ h. get_whole P M F k v h ek) e (λ s. refl) (held_goes F pc k v ek) (λ st. refl) go

  bind_none : (y : ℕ) (vs : List Value) (w : World Value) → length vs < 1 → A (bind y) (state vs w) ≡ wrong
  bind_none y [] w lt = refl
  bind_none y (v ∷ vs) w lt = absurd (omega (arith, lt))

  -- a local that is bound: what is left to do stands under its value
  pub g_bind : (f : ℕ) (F : List MValue) (last : Option Instr) (d y : ℕ) (p : Place) (t : Phrase) (S S1 : List Sym) (K : List Task) (pc : ℕ) → Needs 1 S S1 → slice_get M.code pc ≡ Some Bind →
      ((v : MValue) → Whole v → Go Y f (F ++ v ∷ []) last d S1 (do_phrase (put_local y (held (value_view T v)) t) ∷ K) (pc + 1)) → Go Y f F last d S (do_phrase (then (bind y) p t) ∷ K) pc
  g_bind f F last d y p t S S1 K pc needs e go R base ms rs vs L w zero le ok lv l (keeps_phrase {L = L1} h) =
      owed_none Y last R base (at F pc ms rs R w) d (left Y (l_phrase (then (bind y) p t) ∷ L1) (state vs (V w))) (state vs (V w)) (Some (bind y)) Bind e refl refl refl
  g_bind f F last d y p t S S1 K pc needs e go R base ms rs vs L w (suc n) le ok lv l (keeps_phrase {L = L1} h) = one ms vs ok.values lv (needed T 1 S S1 needs ms vs l)
    where
      one : (ms : List MValue) (vs : List Value) → AllWhole ms → Live Y (l_phrase (then (bind y) p t) ∷ L1) (state vs (V w)) → Has T 1 S1 ms vs →
          Follows Y last R base (at F pc ms rs R w) (suc n) (owing (V w) d (suc n) (left Y (l_phrase (then (bind y) p t) ∷ L1) (state vs (V w))))
      one ms vs hs lv (has [] e1 l1) = absurd (omega (arith, e1))
      one ms vs hs lv (has (v ∷ []) {ms = ms1} {vs = us} e1 l1) =
          let s = at F pc (v ∷ ms1) rs R w in
          let st = state (value_view T v ∷ us) (V w) in
          let a = binds y (value_view T v) (state us (V w)) in
          let ok1 : Fine (F ++ v ∷ []) rs ms1 w = record { cells = more_whole P M F (v ∷ []) ok.cells (hs.0, tt); held = ok.held; values = hs.1; objects = ok.objects } in
          let rest = left Y (l_phrase (put_local y (held (value_view T v)) t) ∷ L1) (state us (V w)) in
          owe Y last R base s (suc n) (V w) d (suc n) (left Y (l_phrase (then (bind y) p t) ∷ L1) st) rest st (Some (bind y)) refl refl (λ m. first_is Y (bind y) p t L1 st m a refl)
          (step_before Y last R base s (at (F ++ v ∷ []) (pc + 1) ms1 rs R w) (suc n) n _ (fetch Y s (suc n) Bind e)
          (go v hs.0 R base ms1 rs us (l_phrase (put_local y (held (value_view T v)) t) ∷ L1) w n (omega (arith, le)) ok1 (live_is Y (bind y) p t L1 st a refl lv) l1 (keeps_phrase h)))
      one ms vs hs lv (has (v ∷ x ∷ xs) e1 l1) = absurd (omega (arith, e1))
      one ms vs hs lv (too_short lt) = wrong_here Y (bind y) p t L1 (state vs (V w)) (bind_none y vs (V w) lt) lv

  -- the instruction that makes a callable
  making_spends : (q h : ℕ) (s : Machine) → fetched M (Some (making q h)) s zero ≡ ends (spent s)
  making_spends q zero s = refl
  making_spends q (suc h) s = refl

  making_goes : (F : List MValue) (pc q h : ℕ) (r : TemplateRow) (ks xs ms : List MValue) → slice_get M.templates q ≡ Some r → r.holes ≡ h → cells_at r.cells F ≡ Some ks → length xs ≡ h → (rs : List MValue) (R : List Entry) (w : World MValue) (n : ℕ) →
      fetched M (Some (making q h)) (at F pc (xs ++ ms) rs R w) (suc n) ≡ goes_on (at F (pc + 1) (made q (ks ++ pile xs []) ∷ ms) rs R w) n
  making_goes F pc q zero r ks [] ms et eh ec el rs R w n =
      let s = at F pc ms rs R w in
      ap (λ (o : Option TemplateRow). or_trap o t_kind s n (λ u. makes M q u s n)) et ∙ ap (λ (o : Option (List MValue)). or_trap o t_frame s n (λ us. goes_on (at F (pc + 1) (made q us ∷ ms) rs R w) n)) ec ∙
      ap (λ (us : List MValue). goes_on (at F (pc + 1) (made q us ∷ ms) rs R w) n) (sym (append-nil ks))
  making_goes F pc q zero r ks (x ∷ xs) ms et eh ec el rs R w n = absurd (omega (arith, el))
  making_goes F pc q (suc h) r ks xs ms et eh ec el rs R w n =
      let s = at F pc (xs ++ ms) rs R w in
      let go = λ (hs : List MValue) (u : Machine). or_trap (cells_at r.cells u.frame) t_frame u n (λ us. goes_on (at u.frame (u.pc + 1) (made q (us ++ hs) ∷ u.stack) u.retain u.returns u.world) n) in
      let popped : fries M q r s n ≡ go (pile xs []) (at F pc ms rs R w) = subst (λ (j : ℕ). popping j [] (xs ++ ms) s n go ≡ go (pile xs []) (at F pc ms rs R w)) (el ∙ sym eh) (pops_all xs [] ms s n go) in
      ap (λ (o : Option TemplateRow). or_trap o t_kind s n (λ u. fries M q u s n)) et ∙ popped ∙ ap (λ (o : Option (List MValue)). or_trap o t_frame (at F pc ms rs R w) n (λ us. goes_on (at F (pc + 1) (made q (us ++ pile xs []) ∷ ms) rs R w) n)) ec

  -- a fry: the values that it captures, and behind them those that it takes
  pub g_fry : (f : ℕ) (F : List MValue) (last : Option Instr) (d q : ℕ) (r : TemplateRow) (ks : List MValue) (b : Phrase) (p : Place) (t : Phrase) (S S1 : List Sym) (K : List Task) (pc : ℕ) → slice_get M.code pc ≡ Some (making q r.holes) → slice_get M.templates q ≡ Some r →
      cells_at r.cells F ≡ Some ks → ((us : List MValue) → length us ≡ r.holes → put_holes (map held (values_view T us)) b ≡ T q (values_view T (ks ++ us))) → Needs r.holes S S1 → Go Y f F last d (here ∷ S1) (do_phrase t ∷ K) (pc + 1) →
      Go Y f F last d S (do_phrase (then (fry b r.holes) p t) ∷ K) pc
  g_fry f F last d q r ks b p t S S1 K pc e et ec puts needs go R base ms rs vs L w zero le ok lv l (keeps_phrase {L = L1} h) =
      let s = at F pc ms rs R w in
      owed_none Y last R base s d (left Y (l_phrase (then (fry b r.holes) p t) ∷ L1) (state vs (V w))) (state vs (V w)) (Some (fry b r.holes)) (making q r.holes) e (making_spends q r.holes s) refl refl
  g_fry f F last d q r ks b p t S S1 K pc e et ec puts needs go R base ms rs vs L w (suc n) le ok lv l (keeps_phrase {L = L1} h) = one ms vs ok.values lv (needed T r.holes S S1 needs ms vs l)
    where
      one : (ms : List MValue) (vs : List Value) → AllWhole ms → Live Y (l_phrase (then (fry b r.holes) p t) ∷ L1) (state vs (V w)) → Has T r.holes S1 ms vs →
          Follows Y last R base (at F pc ms rs R w) (suc n) (owing (V w) d (suc n) (left Y (l_phrase (then (fry b r.holes) p t) ∷ L1) (state vs (V w))))
      one ms vs hs lv (has xs {ms = ms1} {vs = us} e1 l1) =
          let s = at F pc (xs ++ ms1) rs R w in
          let hs1 = pile xs [] in
          let m = made q (ks ++ hs1) in
          let st = state (values_view T xs ++ us) (V w) in
          let v = fun (of_phrase (put_holes (map held (values_view T hs1)) b)) in
          let st' = state (v ∷ us) (V w) in
          let size : length hs1 ≡ r.holes = let d = pile_length xs [] in omega (arith, d, e1) in
          let same : value_view T m ≡ v = made_view T q (ks ++ hs1) ∙ ap (λ (u : Phrase). fun (of_phrase u)) (sym (puts hs1 size)) in
          let acts : A (fry b r.holes) st ≡ goes st' =
          subst (λ (j : ℕ). taking j [] (values_view T xs ++ us) (V w) (fried b) ≡ fried b (pile (values_view T xs) []) (state us (V w))) (views_length T xs ∙ e1) (takes_all (values_view T xs) [] us (V w) (fried b)) ∙
          ap (λ (hs : List Value). fried b hs (state us (V w))) (sym (pile_views Y xs [])) in
          let whole_parts = parts_whole P M xs ms1 hs in
          let captured = cells_whole P M r.cells F ks ok.cells ec in
          let total : length ks + length hs1 ≡ length r.cells + r.holes = let many = captured.1 in omega (arith, many, size) in
          let hm = made_whole P M q r (ks ++ hs1) et (both_long ks hs1 ∙ total) (more_whole P M ks hs1 captured.0 (pile_whole P M xs [] whole_parts.0 tt)) in
          let ok1 : Fine F rs (m ∷ ms1) w = record { cells = ok.cells; held = ok.held; values = (hm, whole_parts.1); objects = ok.objects } in
          let named : Lies T (here ∷ S1) (m ∷ ms1) (v ∷ us) = subst (λ (u : Value). Lies T (here ∷ S1) (m ∷ ms1) (u ∷ us)) same (lies_more r_here l1) in
          owed_goes Y last R base s (suc n) d (suc n) (fry b r.holes) p t L1 st st' acts
          (step_before Y last R base s (at F (pc + 1) (m ∷ ms1) rs R w) (suc n) n _ (fetch Y s (suc n) (making q r.holes) e ∙ making_goes F pc q r.holes r ks xs ms1 et refl ec e1 rs R w n)
          (go R base (m ∷ ms1) rs (v ∷ us) (l_phrase t ∷ L1) w n (omega (arith, le)) ok1 (live_goes Y (fry b r.holes) p t L1 st st' acts lv) named (keeps_phrase h)))
      one ms vs hs lv (too_short lt) = wrong_here Y (fry b r.holes) p t L1 (state vs (V w)) (takes_few r.holes [] vs (V w) (fried b) lt) lv
