-- Counts of faults by the status that is answered.
use Rattle.std.proofs.Common.{◌≡◌, ℕ, List, None, Some, Result, Ok, Err, IsErr, refl, ap, sym, subst, ◌∙◌, arith}
use Rattle.std.specs.declared.option.Option.{Option}
use Rattle.fac_lines.specs.Channels.{ChannelsTold, CountsFaults, IsUnread, TakesPiece}
use Rattle.fac_vm.specs.declared.machine.StopKind.{StopKind}
use Rattle.fac_vm.specs.declared.machine.StopKind.TheVariants as stop
use Rattle.fac_tool.specs.declared.ended.Ended.{Ended}
use Rattle.fac_tool.specs.Answer.{Behind}
use Rattle.fac_tool.specs.SeenObjects.{output_seen}
use Rattle.fac_tool.specs.Ends.{Told, ending_of}
use Rattle.fac_tool.specs.inner.StepEnds.{StatusCounts, bare}
use Rattle.fac_tool.specs.inner.WrittenBehind.{WritesBy, WritesBehind}

-- nothing was done with the channels
pub still_counts : (channels : ChannelsTold) (status : ℕ) → StatusCounts channels channels status
still_counts channels status = record { input = record { later = omega arith; stays = λ none. refl }; output = record { later = omega arith; stays = λ none. refl } }

-- a run that stopped so
stop_counts : (before now : ChannelsTold) (what : StopKind) (status : ℕ) → CountsFaults before now (what ≡ stop.InputFault) (what ≡ stop.WriteFault) → (what ≡ stop.InputFault → status ≡ 9) → (what ≡ stop.WriteFault → status ≡ 10) → StatusCounts before now status
stop_counts before now what status h input output = record {
  input = record { later = h.input.later; stays = λ none. h.input.stays (λ e. none (input e)) };
  output = record { later = h.output.later; stays = λ none. h.output.stays (λ e. none (output e)) };
}

-- a stop that is no fault
abbrev pub IsNoFault : StopKind → Type 0
IsNoFault stop.InputFault = ⊥
IsNoFault stop.WriteFault = ⊥
IsNoFault _ = Unit {0}

pub other_counts : (before now : ChannelsTold) (what other : StopKind) (status : ℕ) → what ≡ other → IsNoFault other → CountsFaults before now (what ≡ stop.InputFault) (what ≡ stop.WriteFault) → StatusCounts before now status
other_counts before now what other status is isnt h =
    stop_counts before now what status h (λ e. absurd (subst IsNoFault (sym is ∙ e) isnt)) (λ e. absurd (subst IsNoFault (sym is ∙ e) isnt))

pub input_counts : (before now : ChannelsTold) (what : StopKind) (ended : Ended) (ticks : ℕ) → what ≡ stop.InputFault → ended ≡ bare 9 ticks → CountsFaults before now (what ≡ stop.InputFault) (what ≡ stop.WriteFault) → StatusCounts before now ended.status
input_counts before now what ended ticks is e h = stop_counts before now what ended.status h (λ fault. ap (λ (x : Ended). x.status) e) (λ fault. absurd (cc))

pub output_counts : (before now : ChannelsTold) (what : StopKind) (ended : Ended) (ticks : ℕ) → what ≡ stop.WriteFault → ended ≡ bare 10 ticks → CountsFaults before now (what ≡ stop.InputFault) (what ≡ stop.WriteFault) → StatusCounts before now ended.status
output_counts before now what ended ticks is e h = stop_counts before now what ended.status h (λ fault. absurd (cc)) (λ fault. ap (λ (x : Ended). x.status) e)

-- a piece was written, or that failed
pub took_counts : {A E : Type 0} (before now : ChannelsTold) (piece : List ℕ) (r : Result A E) (status : ℕ) → TakesPiece before now piece r → (IsErr r → status ≡ 10) → StatusCounts before now status
took_counts before now piece (Ok x) status took fault = record {
  input = record { later = omega (arith, took.unread.faults); stays = λ none. took.unread.faults };
  output = record { later = took.cause.later; stays = λ none. took.no_fault };
}
took_counts before now piece (Err x) status took fault = record {
  input = record { later = omega (arith, took.unread.faults); stays = λ none. took.unread.faults };
  output = record { later = took.cause.later; stays = λ none. absurd (none (fault refl)) };
}

-- Something was written behind a run. One that has a stack is none that was cut short.
written_by : (behind : Behind) (old mid new : ChannelsTold) (reached ended : Ended) (s : Option (List (List ℕ))) → reached.stack ≡ s → ((texts : List (List ℕ)) → reached.stack ≡ Some texts → ending_of reached.status ≡ Told) →
    IsUnread mid new → StatusCounts old mid reached.status → StatusCounts mid new ended.status → WritesBy behind s reached (output_seen mid new) ended → StatusCounts old new ended.status
written_by behind old mid new reached ended None is told unread first then writes =
    let same : reached.status ≡ ended.status = ap (λ (x : Ended). x.status) (sym writes.1) in
    let count : new.output_faults ≡ mid.output_faults = ap (λ o. o.faults_now) writes.0 in
    record {
      input = record { later = omega (arith, first.input.later, unread.faults); stays = λ none. unread.faults ∙ first.input.stays (λ e. none (sym same ∙ e)) };
      output = record { later = omega (arith, first.output.later, then.output.later); stays = λ none. count ∙ first.output.stays (λ e. none (sym same ∙ e)) };
    }
written_by behind old mid new reached ended (Some texts) is told unread first then writes =
    let done = told texts is in
    let no_input : reached.status ≡ 9 → ⊥ = λ e. let at = subst (λ (n : ℕ). ending_of n ≡ Told) e done in cc in
    let no_output : reached.status ≡ 10 → ⊥ = λ e. let at = subst (λ (n : ℕ). ending_of n ≡ Told) e done in cc in
    record {
      input = record { later = omega (arith, first.input.later, unread.faults); stays = λ none. unread.faults ∙ first.input.stays no_input };
      output = record { later = omega (arith, first.output.later, then.output.later); stays = λ none. then.output.stays none ∙ first.output.stays no_output };
    }

pub written_counts : (behind : Behind) (old mid new : ChannelsTold) (reached ended : Ended) → ((texts : List (List ℕ)) → reached.stack ≡ Some texts → ending_of reached.status ≡ Told) →
    IsUnread mid new → StatusCounts old mid reached.status → StatusCounts mid new ended.status → WritesBehind behind reached (output_seen mid new) ended → StatusCounts old new ended.status
written_counts behind old mid new reached ended told unread first then writes = written_by behind old mid new reached ended reached.stack refl told unread first then writes
