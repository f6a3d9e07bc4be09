-- The session before the first line.
use Rattle.std.proofs.Common.{◌≡◌, ℕ, List, [], None, Some, Result, Ok, Err, refl, sym, ap, subst, ◌∙◌}
use Rattle.std.specs.declared.option.Option.{Option}
use Rattle.fac_lang.specs.Whole.{IsWhole}
use Rattle.fac_lang.specs.declared.program.Program.{Program}
use Rattle.fac_source.specs.declared.refusal.NameFault.{NameFault}
use Rattle.fac_source.specs.declared.tree.Form.{Form}
use Rattle.fac_check.specs.Verdicts.{verdict}
use Rattle.fac_check.specs.declared.refusal.Broken.{Broken}
use Rattle.fac_locals.specs.declared.closing.Closed.{Closed}
use Rattle.fac_names.specs.declared.known.Known.{Known}
use Rattle.fac_notes.specs.Sources.{tree}
use Rattle.fac_notes.specs.declared.report.Report.{Report}
use Rattle.fac_vm.specs.SeenMachine.{MachineSeen}
use Rattle.fac_session.specs.Sessions.{Session, first_session, on_first_names, on_first_verdict, session_of}
use Rattle.fac_judge.specs.JudgedPrograms.{IsAccepted, IsRefused, check_report}
use Rattle.fac_judge.specs.KnownTexts.{BeginsWith, IsFirst, IsKnownBehind, IsPreludeRefusal, KnownBehindAreKnown, RefusesSession}
use Rattle.fac_listener.specs.Replies.{IsFirstSession}
use Rattle.fac_listener.specs.StandingSessions.{HasMachine}
use Rattle.fac_listener.specs.declared.session.Session.{Session as SessionSeen}
use Rattle.fac_listener.specs.inner.SessionSteps.{MachineBegins}
use Rattle.fac_judge.proofs.KnownLemmas.{behind_none}

-- the prelude's program is whole
pub first_whole : KnownBehindAreKnown → (k : Known) (P : Program) → IsFirst k → P ≡ k.program → IsWhole P
first_whole law k P first same = subst IsWhole (sym same) (law [] k (behind_none k first)).whole

verdict_refuses : (forms : List Form) (k : Known) (first : ℕ × Broken) → BeginsWith forms k → verdict k.program 0 ≡ Some first → RefusesSession (tree forms) (check_report k.program first)
unfolding BeginsWith RefusesSession
verdict_refuses forms k first begins e = ap on_first_names begins ∙ ap (on_first_verdict k) e

-- the prelude is refused where its program is
pub prelude_refused : (k : Known) (P : Program) (why : Report) → IsFirst k → P ≡ k.program → IsRefused P 0 why → IsPreludeRefusal why
prelude_refused k P why h same r =
    let refused : IsRefused k.program 0 why = subst (λ (p : Program). IsRefused p 0 why) same r in
    record {
      source = tree h.forms;
      is_read = h.is_read;
      refuses = subst (λ (x : Report). RefusesSession (tree h.forms) x) (sym refused.report_is) (verdict_refuses h.forms k refused.first h.begins refused.verdict_is);
    }

verdict_accepts : (forms : List Form) (k : Known) → BeginsWith forms k → verdict k.program 0 ≡ None → session_of (tree forms) ≡ Ok (first_session k)
unfolding BeginsWith
verdict_accepts forms k begins e = ap on_first_names begins ∙ ap (on_first_verdict k) e

-- and where it is accepted, the first session stands
pub first_stands :
    (k : Known) (P : Program) (closed : Closed) (code : SessionSeen) (m : MachineSeen) → IsFirst k → P ≡ k.program → IsAccepted P 0 closed → MachineBegins closed m → code.texts ≡ [] → code.waiting ≡ [] → code.machine ≡ Some m → IsFirstSession code
first_stands k P closed code m h same accepts begins texts waiting machine =
    let accepted : IsAccepted k.program 0 closed = subst (λ (p : Program). IsAccepted p 0 closed) same accepts in
    record {
      source = tree h.forms;
      is_read = h.is_read;
      session = first_session k;
      is = verdict_accepts h.forms k h.begins accepted.verdict_is;
      stands = record {
        known = subst (λ (ts : List (List ℕ)). IsKnownBehind ts k) (sym texts) (behind_none k h);
        waiting = waiting;
        machine = subst (λ (o : Option MachineSeen). HasMachine (first_session k) o) (sym machine) (begins k accepted);
      };
    }
