-- What a run of the machine reads, asks for and writes, tick by tick, where with each number of ticks it tells what a run of the meaning does.
use Rattle.std.proofs.Common.{◌≡◌, ◌<◌, ◌≤◌, ℕ, zero, suc, ◌+◌, ◌-◌, List, [], ◌∷◌, ◌++◌, None, Some, inl, inr, refl, ap, sym, subst, ◌∙◌, arith}
use Rattle.std.proofs.lemmas.List.{append-nil, append_cancel_left}
use Rattle.std.proofs.lemmas.List.Folds.{concat-append}
use Rattle.std.proofs.Math.Seq.{drop-append_seam}
use Rattle.std.specs.Prelude.{◌⊎◌, length, drop, slice_get, ⊤}
use Rattle.std.specs.List.{concat}
use Rattle.std.specs.declared.option.Option.{Option}
use Rattle.fac_io.specs.Told.{SinkTold, Grows, one_piece}
use Rattle.fac_lang.specs.Eval.{Result as Run}
use Rattle.fac_code.specs.declared.image.Image.{Image}
use Rattle.fac_code.specs.declared.image.Instr.{Instr}
use Rattle.fac_vm.specs.declared.machine.StopKind.{StopKind}
use Rattle.fac_vm.specs.declared.machine.StopKind.TheVariants as stop
use Rattle.fac_machine.specs.MachineLaws.{RunsHaveOneEnd}
use Rattle.fac_machine.specs.Machine.{Job, instr, cost, job_cost, paying, does_instr, does_job, fetched, job_or_fetched, Machine, End, spent, Step, goes_on, ends, step, stepped, steps, Leads, Ends, Writes, w_none, w_silent, w_piece}
use Rattle.fac_machine.proofs.Leading.{leads_on, leads_step}
use Rattle.fac_vm.specs.Runs.{Held, begun, as_job, job_at, InPieces as InMachinePieces, end_world, step_world, AsksAt, FaultsBehind, WantsAt}
use Rattle.fac_listener.specs.CutRuns.{run_output, run_asked, run_left, tick_output, pieces_in, RunPieces, RunFront, AskedInTick, ThenOrBefore, WantedInRun}
use Rattle.fac_listener.proofs.StepTicks.{Mark, mark_in, StepsAt, GoesAt, step_at}

concat_one : (piece : List ℕ) → concat (one_piece piece) ≡ piece
concat_one [] = refl
concat_one (b ∷ bs) = append-nil (b ∷ bs)

concat_more : (out piece : List ℕ) (pieces : List (List ℕ)) → out ≡ concat pieces → out ++ piece ≡ concat (pieces ++ one_piece piece)
concat_more out piece pieces e = rw (concat-append, concat_one piece) (ap (λ (l : List ℕ). l ++ piece) e)

-- no piece is in nothing
no_piece : (pieces : List (List ℕ)) (out piece : List ℕ) → out ++ piece ≡ out → pieces ++ one_piece piece ≡ pieces
no_piece pieces out piece e = rw (append_cancel_left out piece [] (e ∙ sym (append-nil out))) (append-nil pieces)

module _ (M : Image) where
  -- the pieces are the output
  all_pieces : (s : Machine) (n : ℕ) → s.world.output ≡ [] → (pieces : List (List ℕ)) (t : Machine) (m : ℕ) → Writes M s n pieces t m → t.world.output ≡ concat pieces
  all_pieces s n none pieces t m w_none = none
  all_pieces s n none pieces t m (w_silent {ps} u u' k k' before is same) = same ∙ all_pieces s n none ps u k before
  all_pieces s n none pieces t m (w_piece {ps} u u' k k' piece before is more) = more ∙ concat_more u.world.output piece ps (all_pieces s n none ps u k before)

  later_step : (go go' : Machine → ℕ → Option End) (e : End) → ((s : Machine) (n : ℕ) → go s n ≡ Some e → go' s n ≡ Some e) → (x : Step) → stepped M go x ≡ Some e → stepped M go' x ≡ Some e
  later_step go go' e h (goes_on s n) p = h s n p
  later_step go go' e h (ends e') p = p

  -- a run that is over stays over with more steps
  later : (e : End) (k j : ℕ) → k ≤ j → (s : Machine) (n : ℕ) → steps M k s n ≡ Some e → steps M j s n ≡ Some e
  later e zero j le s n p = absurd (cc)
  later e (suc k) zero le s n p = absurd (omega arith)
  later e (suc k) (suc j) le s n p = later_step (steps M k) (steps M j) e (later e k j (omega arith)) (step M s n) p

  -- without ticks nothing is read and nothing is written
  without_by :
      (count : ℕ) → ((s : Machine) (e : End) → steps M count s 0 ≡ Some e → mark_in (end_world e) ≡ mark_in s.world) →
      (s : Machine) (e : End) (x : Step) → StepsAt ⊤ (step M s) (mark_in s.world) 0 x → stepped M (steps M count) x ≡ Some e → mark_in (end_world e) ≡ mark_in s.world
  without_by count h s e (ends e') at p = let same : e' ≡ e = cc in ap (λ (e : End). mark_in (end_world e)) (sym same) ∙ at tt refl
  without_by count h s e (goes_on t m) at p =
      let none : at.took ≡ 0 = omega (arith, at.sum) in
      let last : m ≡ 0 = omega (arith, at.sum) in
      h t e (ap (steps M count t) (sym last) ∙ p) ∙ at.free tt none

  without_ticks : (count : ℕ) (s : Machine) (e : End) → steps M count s 0 ≡ Some e → mark_in (end_world e) ≡ mark_in s.world
  without_ticks zero s e p = absurd (cc)
  without_ticks (suc count) s e p = without_by count (without_ticks count) s e (step M s 0) (step_at M s 0) p

-- where a step goes on it doesn't end
goes_not_ends : (s : Machine) (n : ℕ) (e : End) → goes_on s n ≡ ends e → ⊥
goes_not_ends s n e is = cc

-- with fewer ticks than a job costs the machine is spent before it, and reads and writes nothing
paying_short : (c n : ℕ) (s : Machine) (go : ℕ → Step) → n < c → paying c s n go ≡ ends (spent s)
paying_short zero n s go lt = absurd (omega (arith, lt))
paying_short (suc c) zero s go lt = refl
paying_short (suc c) (suc n) s go lt = paying_short c n s go (omega (arith, lt))

module _ (M : Image) where
  -- a step that is spent where it stands
  abbrev SpentThere : Machine → Step → Type 0
  SpentThere t x = (s : Machine) × (x ≡ ends (spent s)) × (mark_in s.world ≡ mark_in t.world)

  spent_fetched : (o : Option Instr) (t : Machine) (j : Job) (n : ℕ) → as_job o ≡ Some j → n < job_cost j → SpentThere t (fetched M o t n)
  spent_fetched None t j n e lt = absurd (cc)
  spent_fetched (Some i) t j n e lt = let same : j ≡ instr i = cc in let short : n < cost i = rw same at lt in (t, paying_short (cost i) n t (does_instr M i t) short, refl)

  spent_job : (o : Option Job) (t : Machine) (j : Job) (n : ℕ) → job_at M o t.pc ≡ Some j → n < job_cost j → SpentThere t (job_or_fetched M o t n)
  spent_job None t j n e lt = spent_fetched (slice_get M.code t.pc) t j n e lt
  spent_job (Some k) t j n e lt =
      let same : j ≡ k = cc in
      let short : n < job_cost k = rw same at lt in
      let stood : Machine = record t { job = None } in
      (stood, paying_short (job_cost k) n stood (does_job M k stood) short, refl)

-- what the result of a run tells of reading and writing
abbrev pub run_mark : Run → Mark
run_mark r = (run_left r, (run_asked r, run_output r))

-- With each number of ticks the machine ends from its start, and what it tells there of reading and writing is what the run does.
abbrev pub TellsAlike : Image → Machine → (ℕ → Run) → Type 0
TellsAlike M start go = (n : ℕ) → (e : End) × Ends M start n e × (run_mark (go n) ≡ mark_in (end_world e))

-- the machine comes from its start to a state in so many ticks, whatever more ticks there are
abbrev Comes : Image → Machine → ℕ → Machine → Type 0
Comes M start u t = (k : ℕ) → Leads M start (u + k) t k

module _ (law : RunsHaveOneEnd) (M : Image) (input : List ℕ) (old : Held) (go : ℕ → Run) (tells : TellsAlike M (begun M input old) go) where
  abbrev start : Machine
  start = begun M input old

  pub told_at : (n : ℕ) (e : End) → Ends M start n e → run_mark (go n) ≡ mark_in (end_world e)
  told_at n e there = let c = tells n in c.2 ∙ ap (λ (x : End). mark_in (end_world x)) (law M start n c.0 e c.1 there)

  -- what the run read and wrote in so many ticks is what the world there tells
  marked_at : (u : ℕ) (t : Machine) → Comes M start u t → run_mark (go u) ≡ mark_in t.world
  marked_at u t comes =
      let last = tells u in
      let way = (comes 0).by last.1.count in
      let all : u + 0 ≡ u = omega arith in
      let there : steps M way.0 start u ≡ Some last.0 = later M last.0 last.1.count way.0 way.1 start u last.1.there in
      let here : steps M last.1.count t 0 ≡ Some last.0 = sym way.2 ∙ ap (steps M way.0 start) all ∙ there in
      last.2 ∙ without_ticks M last.1.count t last.0 here

  wrote_at : (u : ℕ) (t : Machine) → Comes M start u t → run_output (go u) ≡ t.world.output
  wrote_at u t comes = ap (λ (m : Mark). m.1.1) (marked_at u t comes)

  -- an end behind one more step
  ends_behind : (u j : ℕ) (t : Machine) (e : End) → Comes M start u t → step M t j ≡ ends e → run_mark (go (u + j)) ≡ mark_in (end_world e)
  ends_behind u j t e comes is =
      let way = (comes j).by 1 in
      let over : Ends M start (u + j) e = record { count = way.0; there = way.2 ∙ ap (stepped M (steps M 0)) is } in
      told_at (u + j) e over

  -- likewise with a few more ticks, in which it is spent there
  wrote_between : (u j : ℕ) (t stood : Machine) → Comes M start u t → step M t j ≡ ends (spent stood) → mark_in stood.world ≡ mark_in t.world → run_output (go (u + j)) ≡ t.world.output
  wrote_between u j t stood comes is same = ap (λ (m : Mark). m.1.1) (ends_behind u j t (spent stood) comes is ∙ same)

  -- ticks in which nothing is written have no piece
  silent_ticks : (u j : ℕ) (out : List ℕ) → ((k : ℕ) → k ≤ j → run_output (go (u + k)) ≡ out) → pieces_in go (u + j) ≡ pieces_in go u
  silent_ticks u zero out same = let all : u + 0 ≡ u = omega arith in ap (pieces_in go) all
  silent_ticks u (suc j) out same =
      let next : u + suc j ≡ suc (u + j) = omega arith in
      let before = same j (omega arith) in
      let behind : run_output (go (suc (u + j))) ≡ out = ap (λ (n : ℕ). run_output (go n)) (sym next) ∙ same (suc j) (omega arith) in
      let none : tick_output go (suc (u + j)) ≡ [] = rw (before, behind) (ap (drop (length out)) (sym (append-nil out)) ∙ drop-append_seam out []) in
      ap (pieces_in go) next ∙ rw none (append-nil (pieces_in go (u + j))) ∙ silent_ticks u j out (λ k le. same k (omega (arith, le)))

  -- the last of some ticks has the piece that is written in them
  last_tick : (u j : ℕ) (out piece : List ℕ) → ((k : ℕ) → k ≤ j → run_output (go (u + k)) ≡ out) → run_output (go (suc (u + j))) ≡ out ++ piece → pieces_in go (suc (u + j)) ≡ pieces_in go u ++ one_piece piece
  last_tick u j out piece same last =
      let made : tick_output go (suc (u + j)) ≡ piece = rw (same j (omega arith), last) (drop-append_seam out piece) in
      rw (made, silent_ticks u j out same) refl

  -- where a run of the machine stands that wrote these pieces
  record Walked (b : ℕ) (pieces : List (List ℕ)) (t : Machine) (m : ℕ) : Type 0 where
    used : ℕ
    sum : b ≡ used + m
    comes : Comes M start used t
    are : pieces ≡ pieces_in go used

  same_by :
      (u took : ℕ) (t : Machine) → Comes M start u t → ((k : ℕ) → k < took → (stood : Machine) × (step M t k ≡ ends (spent stood)) × (mark_in stood.world ≡ mark_in t.world)) →
      (k : ℕ) → k < took → run_output (go (u + k)) ≡ t.world.output
  same_by u took t comes sooner k lt = let was = sooner k lt in wrote_between u k t was.0 comes was.1 was.2

  pieces_by :
      (u took : ℕ) (t t' : Machine) (piece : List ℕ) → Comes M start u t → Comes M start (u + took) t' →
      ((k : ℕ) → k < took → (stood : Machine) × (step M t k ≡ ends (spent stood)) × (mark_in stood.world ≡ mark_in t.world)) →
      (took ≡ 0 → t'.world.output ≡ t.world.output) → t'.world.output ≡ t.world.output ++ piece → pieces_in go u ++ one_piece piece ≡ pieces_in go (u + took)
  pieces_by u zero t t' piece comes comes' sooner free more =
      let all : u + 0 ≡ u = omega arith in no_piece (pieces_in go u) t.world.output piece (sym more ∙ free refl) ∙ ap (pieces_in go) (sym all)
  pieces_by u (suc took) t t' piece comes comes' sooner free more =
      let next : u + suc took ≡ suc (u + took) = omega arith in
      let last : run_output (go (suc (u + took))) ≡ t.world.output ++ piece = ap (λ (n : ℕ). run_output (go n)) (sym next) ∙ wrote_at (u + suc took) t' comes' ∙ more in
      sym (ap (pieces_in go) next ∙ last_tick u took t.world.output piece (λ k le. same_by u (suc took) t comes sooner k (omega (arith, le))) last)

  -- on a step
  comes_on : (u took : ℕ) (t t' : Machine) → Comes M start u t → ((k : ℕ) → step M t (took + k) ≡ goes_on t' k) → Comes M start (u + took) t'
  comes_on u took t t' comes later k = record {
    by = λ c.
        let way = (comes (took + k)).by (suc c) in
        let all : u + took + k ≡ u + (took + k) = omega arith in
        (way.0, omega (arith, way.1), rw all (way.2 ∙ ap (stepped M (steps M c)) (later k)));
  }

  walked_on :
      (b : ℕ) (pieces : List (List ℕ)) (t t' : Machine) (m m' : ℕ) (piece : List ℕ) → Walked b pieces t m → GoesAt ⊤ (step M t) (mark_in t.world) m t' m' → t'.world.output ≡ t.world.output ++ piece → Walked b (pieces ++ one_piece piece) t' m'
  walked_on b pieces t t' m m' piece w at more =
      let comes' = comes_on w.used at.took t t' w.comes at.later in
      record {
        used = w.used + at.took;
        sum = omega (arith, w.sum, at.sum);
        comes = comes';
        are = ap (λ (ps : List (List ℕ)). ps ++ one_piece piece) w.are ∙ pieces_by w.used at.took t t' piece w.comes comes' at.sooner (λ none. ap (λ (m : Mark). m.1.1) (at.free tt none)) more;
      }

  goes_at : (t t' : Machine) (m m' : ℕ) → step M t m ≡ goes_on t' m' → GoesAt ⊤ (step M t) (mark_in t.world) m t' m'
  goes_at t t' m m' is = subst (λ (x : Step). StepsAt ⊤ (step M t) (mark_in t.world) m x) is (step_at M t m)

  walked : (b : ℕ) (pieces : List (List ℕ)) (t : Machine) (m : ℕ) → Writes M start b pieces t m → Walked b pieces t m
  walked b pieces t m w_none = record { used = 0; sum = omega arith; comes = λ k. let all : 0 + k ≡ k = omega arith in rw all (record { by = λ c. (c, omega arith, refl) }); are = refl }
  walked b pieces t m (w_silent {ps} u u' k k' before is same) =
      let on = walked_on b ps u u' k k' [] (walked b ps u k before) (goes_at u u' k k' is) (same ∙ sym (append-nil u.world.output)) in
      subst (λ (qs : List (List ℕ)). Walked b qs u' k') (append-nil ps) on
  walked b pieces t m (w_piece {ps} u u' k k' piece before is more) = walked_on b ps u u' k k' piece (walked b ps u k before) (goes_at u u' k k' is) more

  -- what the run told where a job is that has its cost, with these ticks or with one less
  abbrev MarkThen : ℕ → Mark → Type 0
  MarkThen ticks mark = (run_mark (go ticks) ≡ mark) ⊎ ((0 < ticks) × (run_mark (go (ticks - 1)) ≡ mark))

  stood_mark : (u : ℕ) (t : Machine) (j : Job) (c ticks : ℕ) → Comes M start u t → job_at M t.job t.pc ≡ Some j → c ≡ job_cost j → ticks ≡ u + c → MarkThen ticks (mark_in t.world)
  stood_mark u t j zero ticks comes there price sum =
      let same : u ≡ ticks = omega (arith, sum) in
      inl (subst (λ (n : ℕ). run_mark (go n) ≡ mark_in t.world) same (marked_at u t comes))
  stood_mark u t j (suc c) ticks comes there price sum =
      let last : u + c ≡ ticks - 1 = omega (arith, sum) in
      let was = spent_job M t.job t j c there (omega (arith, price)) in
      inr (omega (arith, sum), subst (λ (n : ℕ). run_mark (go n) ≡ mark_in t.world) last (ends_behind u c t (spent was.0) comes was.1 ∙ was.2))

  output_then : (ticks : ℕ) (before now : SinkTold) (t : Machine) → MarkThen ticks (mark_in t.world) → Grows before.taken now.taken t.world.output → ThenOrBefore go ticks (λ r. Grows before.taken now.taken (run_output r))
  output_then ticks before now t (inl same) wrote = inl (subst (λ (bytes : List ℕ). Grows before.taken now.taken bytes) (sym (ap (λ (m : Mark). m.1.1) same)) wrote)
  output_then ticks before now t (inr less) wrote = inr (less.0, subst (λ (bytes : List ℕ). Grows before.taken now.taken bytes) (sym (ap (λ (m : Mark). m.1.1) less.1)) wrote)

  -- what its step leaves is what the run left in these ticks
  after_by :
      (u c : ℕ) (t : Machine) (j : Job) (x : Step) → Comes M start u t → job_at M t.job t.pc ≡ Some j → c ≡ job_cost j → step M t c ≡ x → StepsAt ⊤ (step M t) (mark_in t.world) c x →
      run_left (go (u + c)) ≡ (step_world x).input
  after_by u c t j (ends e) comes there price is at = ap (λ (m : Mark). m.0) (ends_behind u c t e comes is)
  after_by u c t j (goes_on b zero) comes there price is at =
      let next : u + at.took ≡ u + c = omega (arith, at.sum) in
      ap (λ (n : ℕ). run_left (go n)) (sym next) ∙ ap (λ (m : Mark). m.0) (marked_at (u + at.took) b (comes_on u at.took t b comes at.later))
  after_by u c t j (goes_on b (suc m)) comes there price is at =
      let was = spent_job M t.job t j at.took there (omega (arith, at.sum, price)) in
      let all : at.took + 0 ≡ at.took = omega arith in
      absurd (goes_not_ends b 0 (spent was.0) (sym (ap (step M t) (sym all) ∙ at.later 0) ∙ was.1))

  rest_then :
      (u : ℕ) (t : Machine) (j : Job) (ticks : ℕ) (rest : List ℕ) → Comes M start u t → job_at M t.job t.pc ≡ Some j → ticks ≡ u + job_cost j → MarkThen ticks (mark_in t.world) →
      (rest ≡ t.world.input) ⊎ ((more : ℕ) → rest ≡ (step_world (step M t (job_cost j + more))).input) → ThenOrBefore go ticks (λ r. rest ≡ run_left r)
  rest_then u t j ticks rest comes there sum (inl mark) (inl same) = inl (same ∙ sym (ap (λ (m : Mark). m.0) mark))
  rest_then u t j ticks rest comes there sum (inr mark) (inl same) = inr (mark.0, same ∙ sym (ap (λ (m : Mark). m.0) mark.1))
  rest_then u t j ticks rest comes there sum mark (inr gone) =
      let c = job_cost j in
      let none : c + 0 ≡ c = omega arith in
      let after = after_by u c t j (step M t c) comes there refl refl (step_at M t c) in
      inl (gone 0 ∙ ap (λ (n : ℕ). (step_world (step M t n)).input) none ∙ sym after ∙ ap (λ (n : ℕ). run_left (go n)) (sym sum))

  -- what a run wrote in so many ticks, whatever more there were
  are_pieces : (used : ℕ) (pieces : List (List ℕ)) (stood : Machine) → ((more : ℕ) → Writes M start (used + more) pieces stood more) → pieces ≡ pieces_in go used
  are_pieces used pieces stood writes =
      let w = walked (used + 0) pieces stood 0 (writes 0) in
      let same : w.used ≡ used = omega (arith, w.sum) in
      w.are ∙ ap (pieces_in go) same

  -- what was taken of its output was taken in the pieces of the program's items
  pub run_pieces :
      (ticks : ℕ) (before now : SinkTold) (what : StopKind) (last : List ℕ) (h : InMachinePieces M input old ticks before now what) → h.last ≡ last → RunPieces go ticks last before now
  run_pieces ticks before now what last h is =
      let are = are_pieces h.used h.pieces h.stood h.writes in
      let output : h.stood.world.output ≡ concat (pieces_in go h.used) = all_pieces M start (h.used + 0) refl h.pieces h.stood 0 (h.writes 0) ∙ ap concat are in
      record {
        wrote_in = h.used;
        within = h.within;
        taken = rw (← output, ← is) h.taken;
        pieces = rw (← are, ← is) h.in_pieces;
      }

  -- likewise where the last write failed
  pub front_pieces : (ticks : ℕ) (before now : SinkTold) → InMachinePieces M input old ticks before now stop.WriteFault → RunFront go ticks before now
  unfolding run_pieces
  front_pieces ticks before now h =
      let fault = h.only_at_fault in
      record {
        last = h.last;
        taken = run_pieces ticks before now stop.WriteFault h.last h refl;
        piece = fault.piece;
        some = fault.some;
        next = sym (are_pieces ticks (h.pieces ++ one_piece fault.piece) fault.behind fault.writes) ∙ ap (λ (ps : List (List ℕ)). ps ++ one_piece fault.piece) (are_pieces h.used h.pieces h.stood h.writes);
        count = fault.count;
        front = fault.front;
      }

  -- where a write failed the run left what the input has left
  pub fault_left : (new : Held) (ticks : ℕ) (rest : List ℕ) → FaultsBehind M input rest old new ticks → rest ≡ run_left (go ticks)
  fault_left new ticks rest h =
      let comes : Comes M start ticks h.behind = λ k. leads_on M start h.stood h.behind (ticks + k) (h.price + k) k (h.leads k) (leads_step M h.stood h.behind (h.price + k) k (h.goes k)) in
      sym h.left ∙ sym (ap (λ (m : Mark). m.0) (marked_at ticks h.behind comes))

  -- memory was wanted at an item
  pub wanted_at : (ticks : ℕ) (before now : SinkTold) (rest : List ℕ) → WantsAt M input rest old ticks before.taken now.taken → WantedInRun go rest ticks before now
  wanted_at ticks before now rest h =
      let comes : Comes M start h.used h.stood = h.leads in
      let mark = stood_mark h.used h.stood h.job (job_cost h.job) ticks comes h.stands refl h.with_cost in
      record { output = output_then ticks before now h.stood mark h.wrote; rest = rest_then h.used h.stood h.job ticks rest comes h.stands h.with_cost mark h.left }

  -- A step that asks for a line and writes nothing took one tick: there is no other way for what it tells to change.
  asks_by :
      (u : ℕ) (t : Machine) (x : Step) → Comes M start u t → step M t 1 ≡ x → StepsAt ⊤ (step M t) (mark_in t.world) 1 x → (step_world x).asked ≡ suc t.world.asked → (step_world x).output ≡ t.world.output →
      (run_asked (go (suc u)) ≡ suc t.world.asked) × (run_output (go (suc u)) ≡ t.world.output)
  asks_by u t (ends e) comes is at asks silent =
      let next : u + 1 ≡ suc u = omega arith in
      let mark = ap (λ (n : ℕ). run_mark (go n)) (sym next) ∙ ends_behind u 1 t e comes is in
      (ap (λ (m : Mark). m.1.0) mark ∙ asks, ap (λ (m : Mark). m.1.1) mark ∙ silent)
  asks_by u t (goes_on b zero) comes is at asks silent =
      let next : u + at.took ≡ suc u = omega (arith, at.sum) in
      let mark = ap (λ (n : ℕ). run_mark (go n)) (sym next) ∙ marked_at (u + at.took) b (comes_on u at.took t b comes at.later) in
      (ap (λ (m : Mark). m.1.0) mark ∙ asks, ap (λ (m : Mark). m.1.1) mark ∙ silent)
  asks_by u t (goes_on b (suc m)) comes is at asks silent =
      let none : at.took ≡ 0 = omega (arith, at.sum) in
      let same : b.world.asked ≡ t.world.asked = ap (λ (m : Mark). m.1.0) (at.free tt none) in
      absurd (omega (arith, asks, same))

  -- where the input failed
  pub asked_in_tick : (new : Held) (ticks : ℕ) (before now : SinkTold) (rest : List ℕ) → AsksAt M input rest old new ticks before.taken now.taken → AskedInTick go rest ticks before now
  asked_in_tick new ticks before now rest h =
      let t = h.stood in
      let comes : Comes M start h.used t = h.leads in
      let mark = marked_at h.used t comes in
      let asks = h.asks 0 in
      let behind = asks_by h.used t (step M t 1) comes refl (step_at M t 1) asks.0 asks.1 in
      let less : ticks - 1 ≡ h.used = omega (arith, h.one_more) in
      record {
        some = omega (arith, h.one_more);
        asked = rw (less, h.one_more) (behind.0 ∙ ap suc (sym (ap (λ (m : Mark). m.1.0) mark)));
        rest = rw less (sym h.left ∙ sym (ap (λ (m : Mark). m.0) mark));
        output = subst (λ (bytes : List ℕ). Grows before.taken now.taken bytes) (sym (ap (λ (n : ℕ). run_output (go n)) h.one_more ∙ behind.1)) h.wrote;
      }
