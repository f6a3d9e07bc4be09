-- What an emitter keeps while it goes over a phrase: where code stands for what is left, whatever comes behind it, the code so far stands for all of it.
use Rattle.std.proofs.Common.{◌≡◌, ℕ, zero, suc, ◌+◌, List, [], ◌∷◌, ◌++◌, Option, Some, refl, subst, sym, append_assoc}
use Rattle.std.specs.Prelude.{slice_get}
use Rattle.fac_base.specs.declared.place.Place.{Place}
use Rattle.fac_lang.specs.declared.program.Program.{Program}
use Rattle.fac_lang.specs.declared.program.Sort.TheVariants.{Core as core_sort}
use Rattle.fac_lang.specs.declared.core_table.CoreWord.TheVariants.{Call as w_call, Dip as w_dip, If as w_if}
use Rattle.fac_lang.specs.Phrases.{Phrase, then, Item, quot, word}
use Rattle.fac_lang.specs.Meaning.{sort_of, word_phrase}
use Rattle.fac_code.specs.declared.image.Instr.{Instr}
use Rattle.fac_code.specs.declared.image.Instr.TheVariants.{Quot, Local, Hold, Back, Branch}
use Rattle.fac_code.specs.declared.image.Image.{Image}
use Rattle.fac_code.specs.declared.image.TemplateRow.{TemplateRow}
use Rattle.fac_store.specs.MachineValues.{MValue, cells_at}
use Rattle.fac_carry.specs.MachineView.{Templates, values_view}
use Rattle.fac_carry.specs.Stands.{RunsPhrase, Translates}
use Rattle.fac_carry.specs.WholeValues.{Whole}
use Rattle.fac_carry.specs.Symbols.{Sym, here, off, kept, Known, k_phrase, k_cur, k_com, Task, do_phrase, do_back, do_call, Top, AllHere, Special}
use Rattle.fac_carry.specs.Expanded.{Row, row_none, Code, c_last, c_hold, c_back, c_fetch, c_make, c_trim, c_cur, c_com, c_off, c_call_off, c_dip_off, c_if_off, c_expand}
use Rattle.fac_carry.proofs.PlainIsCode.{item_code}

-- A place in the code with what is known there: the frame, the ticks that are owed, the stack, and what is left to do before whatever comes behind.
pub record Stage : Type 0 where
  pub frame : List MValue
  pub owed : ℕ
  pub stack : List Sym
  pub tasks : List Task
  pub place : ℕ

abbrev pub stage : List MValue → ℕ → List Sym → List Task → ℕ → Stage
stage frame owed stack tasks place = record { frame = frame; owed = owed; stack = stack; tasks = tasks; place = place }

module _ (P : Program) (M : Image) (T : Templates) where
  abbrev pub CodeAt : List Special → Option Instr → List Task → Stage → Type 0
  CodeAt Γ last K x = Code P M T Γ last x.frame x.owed x.stack (x.tasks ++ K) x.place

  -- The code from a stage comes to stages in Q: where code stands at each of them, whatever is left behind, code stands here.
  pub record Reaches (x : Stage) (Q : Stage → Type 0) : Type 0 where
    pub reaches : (Γ : List Special) (last : Option Instr) (K : List Task) → ((y : Stage) → Q y → CodeAt Γ last K y) → CodeAt Γ last K x

  pub arrived : {Q : Stage → Type 0} (x : Stage) → Q x → Reaches x Q
  arrived x q = record { reaches = λ Γ last K c. c x q }

  pub and_then : {Q R : Stage → Type 0} {x : Stage} → Reaches x Q → ((y : Stage) → Q y → Reaches y R) → Reaches x R
  and_then a b = record { reaches = λ Γ last K c. a.reaches Γ last K (λ y q. (b y q).reaches Γ last K c) }

  -- by a case of the relation with one derivation in it, with two, and with one for each value that is put into the frame
  pub by : {Q : Stage → Type 0} {x y : Stage} → ((Γ : List Special) (last : Option Instr) (K : List Task) → CodeAt Γ last K y → CodeAt Γ last K x) → Reaches y Q → Reaches x Q
  by step a = record { reaches = λ Γ last K c. step Γ last K (a.reaches Γ last K c) }

  pub by_both : {Q : Stage → Type 0} {x y z : Stage} → ((Γ : List Special) (last : Option Instr) (K : List Task) → CodeAt Γ last K y → CodeAt Γ last K z → CodeAt Γ last K x) → Reaches y Q → Reaches z Q → Reaches x Q
  by_both step a b = record { reaches = λ Γ last K c. step Γ last K (a.reaches Γ last K c) (b.reaches Γ last K c) }

  pub by_each : {Q : Stage → Type 0} {x : Stage} {y : MValue → Stage} → ((Γ : List Special) (last : Option Instr) (K : List Task) → ((m : MValue) → Whole P M m → CodeAt Γ last K (y m)) → CodeAt Γ last K x) → ((m : MValue) → Whole P M m → Reaches (y m) Q) → Reaches x Q
  by_each step a = record { reaches = λ Γ last K c. step Γ last K (λ m h. (a m h).reaches Γ last K c) }

  -- with more left to do
  abbrev pub before : List Task → Stage → Stage
  before K x = record x { tasks = x.tasks ++ K }

  code_before : (Γ : List Special) (last : Option Instr) (K1 K : List Task) (x : Stage) → CodeAt Γ last (K1 ++ K) x → CodeAt Γ last K (before K1 x)
  code_before Γ last K1 K x c = subst (λ Ks. Code P M T Γ last x.frame x.owed x.stack Ks x.place) (sym (append_assoc x.tasks K1 K)) c

  before_code : (Γ : List Special) (last : Option Instr) (K1 K : List Task) (x : Stage) → CodeAt Γ last K (before K1 x) → CodeAt Γ last (K1 ++ K) x
  before_code Γ last K1 K x c = subst (λ Ks. Code P M T Γ last x.frame x.owed x.stack Ks x.place) (append_assoc x.tasks K1 K) c

  -- what is reached is reached with more left to do behind
  pub reached_before : {Q R : Stage → Type 0} {x : Stage} (K1 : List Task) → Reaches x Q → ((y : Stage) → Q y → Reaches (before K1 y) R) → Reaches (before K1 x) R
  reached_before {x = x} K1 a b = record { reaches = λ Γ last K c. code_before Γ last K1 K x (a.reaches Γ last (K1 ++ K) (λ y q. before_code Γ last K1 K y ((b y q).reaches Γ last K c))) }

  -- where one stage alone is reached
  pub only : {R : Stage → Type 0} (K1 : List Task) (z : Stage) → Reaches (before K1 z) R → (y : Stage) → y ≡ z → Reaches (before K1 y) R
  only {R = R} K1 z r y e = subst (λ x. Reaches (before K1 x) R) (sym e) r

  -- an item with its plain instruction, where nothing is put off
  pub plain : {Q : Stage → Type 0} {F : List MValue} {i : Item} {p : Place} {t : Phrase} {S : List Sym} {K1 : List Task} {pc : ℕ} (x : Instr) → AllHere S → slice_get M.code pc ≡ Some x → Translates P M T F i x → Reaches (stage F 0 [] (do_phrase t ∷ K1) (pc + 1)) Q →
      Reaches (stage F 0 S (do_phrase (then i p t) ∷ K1) pc) Q
  plain {F = F} {i = i} {p = p} {t = t} {S = S} {K1 = K1} {pc = pc} x a e tr r =
      by (λ Γ last K c. c_trim {S = []} S a (item_code P M T Γ last F i x p t (K1 ++ K) pc e tr (λ S1 a1. c_trim {S = []} S1 a1 c))) r

  -- a quotation is made where it is pushed, and one that was put off is made below a value, for a tick that is owed
  pub made_there : {Q : Stage → Type 0} {F : List MValue} {d : ℕ} {p : Place} {t : Phrase} {S : List Sym} {K1 : List Task} {pc : ℕ} (q : ℕ) (r : TemplateRow) (vs : List MValue) → slice_get M.code pc ≡ Some (Quot q) → slice_get M.templates q ≡ Some r → r.holes ≡ 0 →
      cells_at r.cells F ≡ Some vs → Reaches (stage F d (here ∷ S) (do_phrase t ∷ K1) (pc + 1)) Q → Reaches (stage F d S (do_phrase (then (quot (T q (values_view T vs))) p t) ∷ K1) pc) Q
  made_there q r vs e et eh ec a = by (λ Γ last K c. c_off (c_make q r vs e et eh ec c)) a

  pub made_below : {Q : Stage → Type 0} {F : List MValue} {d : ℕ} {S : List Sym} {K1 : List Task} {pc one to : ℕ} (x : Sym) (q : ℕ) (r : TemplateRow) (vs : List MValue) → Row P M T Hold x pc one → slice_get M.code one ≡ Some (Quot q) →
      slice_get M.templates q ≡ Some r → r.holes ≡ 0 → cells_at r.cells F ≡ Some vs → Row P M T Back x (one + 1) to → Reaches (stage F d (x ∷ here ∷ S) K1 to) Q → Reaches (stage F (suc d) (x ∷ off (k_phrase (T q (values_view T vs))) ∷ S) K1 pc) Q
  made_below x q r vs row e et eh ec rest a = by (λ Γ last K c. c_hold row (c_make q r vs e et eh ec (c_back rest c))) a

  -- what was put off is run where nothing has to be put back: the value that was curried comes out of the frame for the tick of running it
  pub kept_runs : {Q : Stage → Type 0} {F : List MValue} {d : ℕ} {S : List Sym} {K1 : List Task} {pc : ℕ} (k : Known) (j : ℕ) (m : MValue) → slice_get M.code pc ≡ Some (Local j) → slice_get F j ≡ Some m →
      Reaches (stage F d (off k ∷ here ∷ S) (do_call ∷ K1) (pc + 1)) Q → Reaches (stage F d (off (k_cur (kept m) k) ∷ S) (do_call ∷ K1) pc) Q
  kept_runs k j m e ek a = by (λ Γ last K c. c_cur (c_hold (row_none refl) (c_fetch j m e ek (c_back (row_none refl) c)))) a

  -- both parts of what `compose` would have made are run, one after the other
  pub parts_run : {Q R : Stage → Type 0} {F : List MValue} {d : ℕ} {S : List Sym} {K1 : List Task} {pc : ℕ} (k e : Known) → Reaches (stage F (suc d) (off k ∷ S) (do_call ∷ []) pc) Q →
      ((y : Stage) → Q y → Reaches (before (do_back (off e) ∷ do_call ∷ K1) y) R) → Reaches (stage F d (off (k_com k e) ∷ S) (do_call ∷ K1) pc) R
  parts_run {K1 = K1} k e a b = by (λ Γ last K c. c_com c) (reached_before (do_back (off e) ∷ do_call ∷ K1) a b)

  -- `call` and `dip` of what was put off, by how it is run
  pub called : {Q R : Stage → Type 0} {F : List MValue} {d : ℕ} {p : Place} {t : Phrase} {S : List Sym} {K1 : List Task} {pc : ℕ} (w : ℕ) (k : Known) → sort_of P w ≡ Some (core_sort w_call) → Reaches (stage F (suc d) (off k ∷ S) (do_call ∷ []) pc) Q →
      ((y : Stage) → Q y → Reaches (before (do_phrase t ∷ K1) y) R) → Reaches (stage F d (off k ∷ S) (do_phrase (then (word w) p t) ∷ K1) pc) R
  called {t = t} {K1 = K1} w k es a b = by (λ Γ last K c. c_call_off w es c) (reached_before (do_phrase t ∷ K1) a b)

  pub dipped : {Q R : Stage → Type 0} {F : List MValue} {d : ℕ} {p : Place} {t : Phrase} {S S1 : List Sym} {K1 : List Task} {pc to : ℕ} (w : ℕ) (x : Sym) (k : Known) → sort_of P w ≡ Some (core_sort w_dip) → Top S x S1 → Row P M T Hold x pc to →
      Reaches (stage F (suc d) (off k ∷ S1) (do_call ∷ []) to) Q → ((y : Stage) → Q y → Reaches (before (do_back x ∷ do_phrase t ∷ K1) y) R) → Reaches (stage F d (off k ∷ S) (do_phrase (then (word w) p t) ∷ K1) pc) R
  dipped {t = t} {K1 = K1} w x k es top row a b = by (λ Γ last K c. c_dip_off w es top row c) (reached_before (do_back x ∷ do_phrase t ∷ K1) a b)

  -- `if` of two that were put off: both ways come on to the same
  pub joined : {Q1 Q2 R : Stage → Type 0} {F : List MValue} {d : ℕ} {p : Place} {t : Phrase} {S S1 : List Sym} {K1 : List Task} {pc : ℕ} (w a : ℕ) (k e : Known) → sort_of P w ≡ Some (core_sort w_if) → Top S here S1 → slice_get M.code pc ≡ Some (Branch a) →
      Reaches (stage F (suc d) (off k ∷ S1) (do_call ∷ []) (pc + 1)) Q1 → ((y : Stage) → Q1 y → Reaches (before (do_phrase t ∷ K1) y) R) →
      Reaches (stage F (suc d) (off e ∷ S1) (do_call ∷ []) a) Q2 → ((y : Stage) → Q2 y → Reaches (before (do_phrase t ∷ K1) y) R) → Reaches (stage F d (off e ∷ off k ∷ S) (do_phrase (then (word w) p t) ∷ K1) pc) R
  joined {t = t} {K1 = K1} w a k e es top code one then_one two then_two = by_both (λ Γ last K c1 c2. c_if_off w a es top code c1 c2) (reached_before (do_phrase t ∷ K1) one then_one) (reached_before (do_phrase t ∷ K1) two then_two)

  -- the phrase of a word in its place
  pub expanded : {Q R : Stage → Type 0} {F : List MValue} {d : ℕ} {p : Place} {t : Phrase} {S : List Sym} {K1 : List Task} {pc : ℕ} (w : ℕ) → RunsPhrase (sort_of P w) → Reaches (stage F (suc d) S (do_phrase (word_phrase P w) ∷ []) pc) Q →
      ((y : Stage) → Q y → Reaches (before (do_phrase t ∷ K1) y) R) → Reaches (stage F d S (do_phrase (then (word w) p t) ∷ K1) pc) R
  expanded {t = t} {K1 = K1} w runs a b = by (λ Γ last K c. c_expand w runs c) (reached_before (do_phrase t ∷ K1) a b)

  -- The end: nothing is left to do, nothing owed and nothing put off, and the last instruction stands there.
  pub record IsEnd (last : Instr) (y : Stage) : Type 0 where
    pub nothing : y.tasks ≡ []
    pub paid : y.owed ≡ 0
    pub here_all : AllHere y.stack
    pub there : slice_get M.code y.place ≡ Some last

  end_code : (Γ : List Special) (last : Instr) (F : List MValue) (d : ℕ) (S : List Sym) (K : List Task) (pc : ℕ) → K ≡ [] → d ≡ 0 → AllHere S → slice_get M.code pc ≡ Some last → Code P M T Γ (Some last) F d S K pc
  end_code Γ last F d S K pc ek ed a e = rw (ek, ed) (c_last a e)

  pub stands : {last : Instr} {F : List MValue} {t : Phrase} {a : ℕ} → Reaches (stage F 0 [] (do_phrase t ∷ []) a) (IsEnd last) → Code P M T [] (Some last) F zero [] (do_phrase t ∷ []) a
  stands {last = last} r = r.reaches [] (Some last) [] (λ y q. end_code [] last y.frame y.owed y.stack (y.tasks ++ []) y.place (append_nothing y.tasks q.nothing) q.paid q.here_all q.there)
    where
      append_nothing : (K : List Task) → K ≡ [] → K ++ [] ≡ []
      append_nothing K e = rw e refl
