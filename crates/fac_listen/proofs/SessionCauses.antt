-- The cause of a session's status, out of how listening ends.
use Rattle.std.proofs.Common.{◌≡◌, ◌≤◌, ℕ, zero, suc, List, [], ◌∷◌, length, Result, Ok, Err, inl, inr, refl, sym, ap, ◌∙◌, subst, arith}
use Rattle.std.specs.Prelude.{◌⊎◌}
use Rattle.fac_io.specs.Faults.{Rose}
use Rattle.fac_lines.specs.LineReads.{LineRead, NoLine, Line, LineTooLong, line_of}
use Rattle.fac_notes.specs.Sources.{Source, no_tokens, no_tree, tree}
use Rattle.fac_notes.specs.Statuses.{status_of}
use Rattle.fac_notes.specs.declared.report.Report.{Report}
use Rattle.fac_session.specs.Heard.{Heard as HeardOf, at_end, heard, heard_from, last_note, listened}
use Rattle.fac_session.specs.Sessions.{Session, session_of}
use Rattle.fac_session.specs.SessionLines.{Behind, line}
use Rattle.fac_listener.specs.Replies.{Cause, by_input, by_output, by_memory}
use Rattle.fac_listen.specs.Devices.{DevicesTold, DevicesCount}
use Rattle.fac_listen.specs.Listens.{CutAtNote, CutBetween, CutByInput, CutByMemory, CutInLine, EndsCut, EndsWhole, HeardWhole, InputFailed, IsCutFrom, ListensBy, ListensOn, NoSession, OutputFailed, whole}
use Rattle.fac_listen.specs.SessionNotes.{NotesTold, EndsByLine, EndsTold, EndsToldIfMemory, bare}
use Rattle.fac_listen.specs.declared.heard.Heard.{Heard}
use Rattle.fac_listen.proofs.FrontLemmas.{heard_line, heard_long, heard_none}
use Rattle.fac_listen.proofs.PreludeLemmas.{refusal_told}

-- The status with which a session ends that is heard to its end.

abbrev IsPlain : ℕ → Type 0
IsPlain status = (status ≤ 5) × (status ≡ 2 → ⊥)

done_is_plain : IsPlain 0
done_is_plain = (omega arith, λ e. omega (arith, e))

syntax_is_plain : IsPlain 3
syntax_is_plain = (omega arith, λ e. omega (arith, e))

end_is_plain : (waiting : List ℕ) (source : Source) → IsPlain (at_end waiting source).status
end_is_plain [] source = done_is_plain
end_is_plain (b ∷ bs) (no_tokens at why) = done_is_plain
end_is_plain (b ∷ bs) (no_tree at why) = syntax_is_plain
end_is_plain (b ∷ bs) (tree forms) = done_is_plain

module _ (source : List ℕ → Source) where
  first_is_plain : (n : ℕ) (s : Session) (input : List ℕ) (r : LineRead) → line_of input ≡ r → ((s' : Session) (input' : List ℕ) → IsPlain (heard source n s' input').status) → IsPlain (heard source (suc n) s input).status
  first_is_plain n s input NoLine is again = subst (λ (h : HeardOf). IsPlain h.status) (sym (heard_none source n s input is)) (end_is_plain s.waiting (source s.waiting))
  first_is_plain n s input (LineTooLong rest) is again = subst (λ (h : HeardOf). IsPlain h.status) (sym (heard_long source n s input rest is)) syntax_is_plain
  first_is_plain n s input (Line bytes rest) is again =
      let b : Behind = line source s bytes rest in
      subst (λ (h : HeardOf). IsPlain h.status) (sym (heard_line source n s input bytes rest is)) (again b.session b.left)

  heard_is_plain : (n : ℕ) (s : Session) (input : List ℕ) → IsPlain (heard source n s input).status
  heard_is_plain zero s input = done_is_plain
  heard_is_plain (suc n) s input = first_is_plain n s input (line_of input) refl (heard_is_plain n)

  begun_is_plain : (prelude : Source) (input : List ℕ) (r : Result Session Report) → session_of prelude ≡ r → IsPlain (heard_from source input r).status
  begun_is_plain prelude input (Ok s) is = heard_is_plain (suc (length input)) s input
  begun_is_plain prelude input (Err why) is =
      let told = refusal_told prelude why is in
      (told.most, λ e. omega (arith, e, told.least))

  listened_is_plain : (prelude : Source) (input : List ℕ) → IsPlain (listened prelude source input).status
  listened_is_plain prelude input = begun_is_plain prelude input (session_of prelude) refl

-- Endings.

-- an ending has this status, or its note failed, or memory was wanted
abbrev EndsWith : ℕ → NotesTold → NotesTold → Heard → Type 0
EndsWith status before now ending = (ending.status ≡ status) ⊎ ((ending.status ≡ 12) ⊎ ((ending.status ≡ 10) × Rose before.faults now.faults))

told_with : (note : List ℕ) (reached : Heard) (before now : NotesTold) (ending : Heard) → EndsTold note reached before now ending → EndsWith reached.status before now ending
told_with note reached before now ending (inl n) = inl (ap (λ (x : Heard). x.status) n.same)
told_with note reached before now ending (inr p) = inr (inr (ap (λ (x : Heard). x.status) p.is, p.noted.rose))

-- want of memory alone
memory_with : (status : ℕ) (before now : NotesTold) (ending : Heard) → EndsWith 12 before now ending → EndsWith status before now ending
memory_with status before now ending (inl e) = inr (inl e)
memory_with status before now ending (inr e) = inr e

told_or_memory : (note : List ℕ) (reached : Heard) (before now : NotesTold) (ending : Heard) → EndsToldIfMemory note reached before now ending → EndsWith reached.status before now ending
told_or_memory note reached before now ending (inl e) = told_with note reached before now ending e
told_or_memory note reached before now ending (inr e) = memory_with reached.status before now ending (told_with _ (bare 12 reached.ticks) before now ending e)

whole_with : (h : HeardOf) (note : List ℕ) (before now : NotesTold) (ending : Heard) → EndsWhole h note before now ending → EndsWith h.status before now ending
whole_with h [] before now ending e = inl (ap (λ (x : Heard). x.status) e.0)
whole_with h (c ∷ cs) before now ending e = told_or_memory (c ∷ cs) (whole h) before now ending e

by_line_with : (note : List ℕ) (ticks : ℕ) (before now : NotesTold) (ending : Heard) → EndsByLine note ticks before now ending → EndsWith 12 before now ending
by_line_with note ticks before now ending (inl p) = inr (inr (ap (λ (x : Heard). x.status) p.is, p.noted.rose))
by_line_with note ticks before now ending (inr e) = told_with _ (bare 12 ticks) before now ending e

-- What a status says of causes: there is none of usage or files, and a fault that is told was counted.
pub record HasCauses (before now : DevicesTold) (notes_before notes_now : NotesTold) (ending : Heard) : Type 0 where
  pub usage : ending.status ≡ 2 → ⊥
  pub file : ending.status ≡ 8 → ⊥
  pub input : ending.status ≡ 9 → Rose before.input_faults now.input_faults
  pub write : ending.status ≡ 10 → Rose before.output_faults now.output_faults ⊎ Rose notes_before.faults notes_now.faults

module _ (before now : DevicesTold) (notes_before between notes_now : NotesTold) (ending : Heard) (same : between.faults ≡ notes_before.faults) where
  noted_rose : Rose between.faults notes_now.faults → Rose notes_before.faults notes_now.faults
  noted_rose rose = subst (λ (n : ℕ). Rose n notes_now.faults) same rose

  caused : (status : ℕ) → (status ≡ 2 → ⊥) → (status ≡ 8 → ⊥) → (status ≡ 9 → Rose before.input_faults now.input_faults) → (status ≡ 10 → Rose before.output_faults now.output_faults) → EndsWith status between notes_now ending → HasCauses before now notes_before notes_now ending
  caused status usage file input output (inl is) = record { usage = λ e. usage (sym is ∙ e); file = λ e. file (sym is ∙ e); input = λ e. input (sym is ∙ e); write = λ e. inl (output (sym is ∙ e)) }
  caused status usage file input output (inr (inl is)) = record { usage = λ e. omega (arith, is, e); file = λ e. omega (arith, is, e); input = λ e. absurd (omega (arith, is, e)); write = λ e. absurd (omega (arith, is, e)) }
  caused status usage file input output (inr (inr is)) = record { usage = λ e. omega (arith, is.0, e); file = λ e. omega (arith, is.0, e); input = λ e. absurd (omega (arith, is.0, e)); write = λ e. inr (noted_rose is.1) }

  plain_caused : (status : ℕ) → IsPlain status → EndsWith status between notes_now ending → HasCauses before now notes_before notes_now ending
  plain_caused status plain h = caused status plain.1 (λ e. omega (arith, e, plain.0)) (λ e. absurd (omega (arith, e, plain.0))) (λ e. absurd (omega (arith, e, plain.0))) h

  memory_caused : EndsWith 12 between notes_now ending → HasCauses before now notes_before notes_now ending
  memory_caused h = caused 12 (λ e. omega (arith, e)) (λ e. omega (arith, e)) (λ e. absurd (omega (arith, e))) (λ e. absurd (omega (arith, e))) h

  input_caused : Rose before.input_faults now.input_faults → EndsWith 9 between notes_now ending → HasCauses before now notes_before notes_now ending
  input_caused rose h = caused 9 (λ e. omega (arith, e)) (λ e. omega (arith, e)) (λ e. rose) (λ e. absurd (omega (arith, e))) h

  output_caused : Rose before.output_faults now.output_faults → EndsWith 10 between notes_now ending → HasCauses before now notes_before notes_now ending
  output_caused rose h = caused 10 (λ e. omega (arith, e)) (λ e. omega (arith, e)) (λ e. absurd (omega (arith, e))) (λ e. rose) h

  cut_caused : (cause : Cause) (ticks : ℕ) → DevicesCount before now (InputFailed cause) (OutputFailed cause) → EndsCut cause ticks between notes_now ending → HasCauses before now notes_before notes_now ending
  cut_caused by_input ticks counts e = input_caused (counts.input.cause tt) (told_or_memory _ (bare 9 ticks) between notes_now ending e)
  cut_caused by_output ticks counts e = output_caused (counts.output.cause tt) (told_or_memory _ (bare 10 ticks) between notes_now ending e)
  cut_caused by_memory ticks counts e = memory_caused (told_with _ (bare 12 ticks) between notes_now ending e)

module _ (input left : List ℕ) (before now : DevicesTold) (notes_before notes_now : NotesTold) (ending : Heard) where
  whole_caused : (prelude : Source) (source : List ℕ → Source) → HeardWhole prelude source input left before now notes_before notes_now ending → HasCauses before now notes_before notes_now ending
  whole_caused prelude source h =
      plain_caused before now notes_before h.between notes_now ending h.told.count (listened prelude source input).status (listened_is_plain source prelude input)
      (whole_with (listened prelude source input) (last_note (listened prelude source input).refusal) h.between notes_now ending h.ends)

  between_caused : (source : List ℕ → Source) (s : Session) → CutBetween source s input left before now notes_before notes_now ending → HasCauses before now notes_before notes_now ending
  between_caused source s h =
      elim h.cut [
        | inl c ↦ input_caused before now notes_before c.between notes_now ending c.noted.count (c.counts.input.cause tt) (told_or_memory _ (bare 9 h.front.ticks) c.between notes_now ending c.ends)
        | inr c ↦ memory_caused before now notes_before c.between notes_now ending c.noted.count (told_with _ (bare 12 h.front.ticks) c.between notes_now ending c.ends)
      ]

  cut_from_caused : (source : List ℕ → Source) (s : Session) → IsCutFrom source s input left before now notes_before notes_now ending → HasCauses before now notes_before notes_now ending
  cut_from_caused source s (inl h) = between_caused source s h
  cut_from_caused source s (inr (inl h)) = memory_caused before now notes_before h.between notes_now ending h.noted.count (by_line_with _ _ h.between notes_now ending h.ends)
  cut_from_caused source s (inr (inr h)) = cut_caused before now notes_before h.between notes_now ending h.noted.count h.cause _ h.counts h.ends

  ended_caused : (prelude : Source) (source : List ℕ → Source) → ListensBy prelude source input left before now notes_before notes_now ending → HasCauses before now notes_before notes_now ending
  ended_caused prelude source (inl h) = whole_caused prelude source h
  ended_caused prelude source (inr (inl h)) = memory_caused before now notes_before notes_before notes_now ending refl (told_with _ (bare 12 0) notes_before notes_now ending h.ends)
  ended_caused prelude source (inr (inr h)) = cut_from_caused source h.session h.cut

  pub session_caused : ListensOn input left before now notes_before notes_now ending → HasCauses before now notes_before notes_now ending
  session_caused h = ended_caused h.prelude h.source h.ends
