-- The run of a session's phrase on channels, with what is answered of it.
use Rattle.std.proofs.Common.{◌≡◌, ◌≤◌, ℕ, List, [], length, refl, sym, ap, subst, ◌∙◌}
use Rattle.fac_base.specs.declared.limits.TheConstants.{TICKS}
use Rattle.fac_io.specs.Told.{SinkTold}
use Rattle.fac_lines.specs.Channels.{ChannelsTold, OnChannels}
use Rattle.fac_lines.specs.Inputs.{InputTold, ReadsInput}
use Rattle.fac_lines.proofs.InputLemmas.{reads_so}
use Rattle.fac_code.specs.declared.image.Image.{Image}
use Rattle.fac_vm.specs.Runs.{RunsOn}
use Rattle.fac_vm.specs.SeenMachine.{MachineSeen, callables_in, held_in}
use Rattle.fac_vm.specs.declared.machine.StopKind.{StopKind}
use Rattle.fac_session.specs.Sessions.{Session}
use Rattle.fac_listener.specs.declared.reply.Reply.{Reply}
use Rattle.fac_listener.specs.inner.PhraseRuns.{AnswersPhrase, AnswersStop, CanCut, doubled}
use Rattle.fac_listener.specs.inner.SessionLaws.{PhrasesAreAnswered, StacksAreKept}
use Rattle.fac_listener.specs.inner.SessionSteps.{HoldsReady}
use Rattle.fac_listener.proofs.StopLemmas.{stop_unread}

-- A machine with a copy of its stack above it ran and stopped so, and this machine is behind the run.
module _ (m d next : MachineSeen) (doubles : d ≡ doubled m) (what : StopKind) (count ticks : ℕ) (many : count ≡ length m.values) where
  abbrev pub RanSo : SinkTold → SinkTold → List ℕ → List ℕ → Type 0
  RanSo before now input rest = RunsOn d.image (callables_in next) (held_in d) (held_in next) TICKS ticks before now what input rest

  ran_twice : (before mid : SinkTold) (input rest : List ℕ) → RanSo before mid input rest → RunsOn m.image (callables_in next) (held_in (doubled m)) (held_in next) TICKS ticks before mid what input rest
  ran_twice before mid input rest h = subst (λ (x : MachineSeen). RunsOn x.image (callables_in next) (held_in x) (held_in next) TICKS ticks before mid what input rest) doubles h

  -- the stack of before is there
  pub can_cut_behind : StacksAreKept → (s : Session) → HoldsReady s m → (old mid : ChannelsTold) → OnChannels old mid RanSo → CanCut what count next
  can_cut_behind law s ready old mid h =
      let runs = h.comes [] (λ e. refl) in
      law s m ready _ _ what next count ticks old.output mid.output many (ran_twice old.output mid.output _ _ runs)

  -- what is answered then is what is answered of the phrase
  pub answered_behind :
      PhrasesAreAnswered → (old mid now : ChannelsTold) (after : MachineSeen) (a : Reply) → next.image ≡ d.image → next.literals ≡ d.literals → ticks ≤ TICKS → OnChannels old mid RanSo → AnswersStop what count ticks next after mid now a →
      OnChannels old now (λ before now input left. (s : Session) → HoldsReady s m → AnswersPhrase s before now after a input left)
  answered_behind law old mid now after a image literals within h answers =
      let P : List ℕ → List ℕ → Type 0 = λ input left. (s : Session) → HoldsReady s m → AnswersPhrase s old.output now.output after a input left in
      subst (λ (i : InputTold). ReadsInput old.input i P) (sym (stop_unread what count ticks next after mid now a answers))
      (reads_so old.input mid.input (RanSo old.output mid.output) P h
      (λ input rest runs s ready.
      law s m ready input rest what next after count ticks old.output mid now a (image ∙ ap (λ (x : MachineSeen). x.image) doubles) (literals ∙ ap (λ (x : MachineSeen). x.literals) doubles) many within (ran_twice old.output mid.output input rest runs) answers))
