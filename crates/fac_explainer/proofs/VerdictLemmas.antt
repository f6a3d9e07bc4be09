-- What is explained is what `check` says.
use Rattle.std.proofs.Common.{◌≡◌, ◌≢◌, ◌<◌, ◌≤◌, ℕ, List, [], ◌∷◌, Bool, true, false, cond, None, Some, IfSome, Result, Ok, Err, ◌⊎◌, inl, inr, map, refl, sym, ap, subst, ◌∙◌, arith}
use Rattle.std.specs.Prelude.{codes}
use Rattle.std.specs.declared.option.Option.{Option}
use Rattle.fac_io.specs.Names.{Held}
use Rattle.fac_command.specs.Command.{Request, work_of as asked, check, command_of, request_of, are_files}
use Rattle.fac_lang.specs.declared.program.Program.{Program}
use Rattle.fac_source.specs.declared.refusal.NameFault.{NameFault}
use Rattle.fac_check.specs.declared.refusal.Broken.{Broken}
use Rattle.fac_check.specs.Verdicts.{verdict}
use Rattle.fac_names.specs.Resolution.{resolved}
use Rattle.fac_notes.specs.declared.report.Report.{Report}
use Rattle.fac_tool.specs.declared.ended.Ended.{Ended}
use Rattle.fac_tool.specs.Answer.{Answer, Sources, no_tokens_in, no_tree_in, trees, answer_on, on_resolved, on_verdict, own_definitions, come_to, accepted}
use Rattle.fac_tool.specs.Answers.{AnswersBy, Works, ReachesBy, Tells, numbered_names}
use Rattle.fac_tool.specs.Ends.{Ending, Told, Usage, FileFault, InputFault, WriteFault, TooLong, NoMemory, ending_of, EndsBy, Work, work_of}
use Rattle.fac_tool.specs.Plans.{checking, plan_of}
use Rattle.fac_tool.specs.Sources.{AreReadWithPrelude}
use Rattle.fac_tool.specs.SeenObjects.{SinkSeen, FilesSeen, InputSeen}
use Rattle.fac_explainer.specs.CheckAnswers.{IsCheckedAs, OneRefusal}
use Rattle.fac_explainer.specs.Explains.{Explains, ExplainsBy, Reaches, status_if, told}
use Rattle.fac_explainer.specs.VerdictLaws.{IsVerdict, ExplainsAsChecked}
use Rattle.fac_explainer.proofs.CheckedLemmas.{same_refusal, same_texts}

-- the statuses of the others
low : (ended : Ended) → IsVerdict ended → ended.status < 8
low ended (inl e) = omega (arith, e)
low ended (inr (inl e)) = omega (arith, e)
low ended (inr (inr (inl e))) = omega (arith, e)
low ended (inr (inr (inr e))) = omega (arith, e)

no_usage : (ended : Ended) → IsVerdict ended → ended.status ≢ 2
no_usage ended (inl e) = λ two. omega (arith, e, two)
no_usage ended (inr (inl e)) = λ two. omega (arith, e, two)
no_usage ended (inr (inr (inl e))) = λ two. omega (arith, e, two)
no_usage ended (inr (inr (inr e))) = λ two. omega (arith, e, two)

high : (ended : Ended) (n : ℕ) → IsVerdict ended → ended.status ≡ n → 8 ≤ n → ⊥
high ended n is e most = let less = low ended is in omega (arith, less, e, most)

is_told : (ended : Ended) → IsVerdict ended → Told ≡ ending_of ended.status
is_told ended (inl e) = sym (ap ending_of e)
is_told ended (inr (inl e)) = sym (ap ending_of e)
is_told ended (inr (inr (inl e))) = sym (ap ending_of e)
is_told ended (inr (inr (inr e))) = sym (ap ending_of e)

-- a verdict was told as it was reached
told_verdict : (names : List (List ℕ)) (reached ended : Ended) (notes : SinkSeen) → Tells names reached notes ended → IsVerdict ended → ended ≡ reached
told_verdict names reached ended notes (inl (inl whole)) is = whole.same
told_verdict names reached ended notes (inl (inr part)) is = absurd (high ended 10 is part.status (omega arith))
told_verdict names reached ended notes (inr none) is =
    elim none.noted [
      | inl noted ↦ absurd (high ended 12 is (ap (λ (x : Ended). x.status) noted.same) (omega arith))
      | inr part ↦ absurd (high ended 10 is part.status (omega arith))
    ]

-- the status of an answer of `check` is that of its refusal
verdict_status : (count : ℕ) (P : Program) (first : Option (ℕ × Broken)) (input : List ℕ) → (on_verdict checking.answer count P first input).status ≡ status_if (on_verdict checking.answer count P first input).refusal
verdict_status count P None input = refl
verdict_status count P (Some first) input = refl

resolved_status : (count : ℕ) (r : Result Program NameFault) (input : List ℕ) → (on_resolved checking.answer count r input).status ≡ status_if (on_resolved checking.answer count r input).refusal
resolved_status count (Err fault) input = refl
resolved_status count (Ok P) input = verdict_status count P (verdict P 0) input

answer_status : (sources : Sources) (input : List ℕ) → (answer_on checking.answer sources input).status ≡ status_if (answer_on checking.answer sources input).refusal
answer_status (no_tokens_in file at why) input = refl
answer_status (no_tree_in file at why) input = refl
answer_status (trees files) input = resolved_status (own_definitions files) (resolved files) input

-- texts with this refusal, or without one, by which a call ended
record EndsChecked (texts : List (List ℕ)) (ended : Ended) : Type 0 where
  refusal : Option Report
  checked : IsCheckedAs texts refusal
  is : ended.refusal ≡ refusal
  status : ended.status ≡ status_if refusal

-- the texts that files hold
held_texts : (h : Option Held) (held : Held) (names texts : List (List ℕ)) → h ≡ Some held → IfSome h (λ f. map f names ≡ map Some texts) → map held names ≡ map Some texts
held_texts h held names texts e given = subst (λ (o : Option Held). IfSome o (λ f. map f names ≡ map Some texts)) e given

-- a call of `check`, with the texts that the files hold
record EndsOnHeld (names : List (List ℕ)) (held : Held) (ended : Ended) : Type 0 where
  texts : List (List ℕ)
  are : map held names ≡ map Some texts
  ends : EndsChecked texts ended

told_answer : (answer : Answer) (work : Work) (out : SinkSeen) (seen : InputSeen) (left : List ℕ) (ended : Ended) → EndsBy (ending_of ended.status) answer work out seen left ended → IsVerdict ended → (ended.status ≡ answer.status) × (ended.refusal ≡ answer.refusal)
told_answer answer work out seen left ended h is =
    let matches : EndsBy Told answer work out seen left ended = subst (λ (kind : Ending). EndsBy kind answer work out seen left ended) (sym (is_told ended is)) h in
    (matches.0.status, matches.0.refusal)

check_reached : (names : List (List ℕ)) (held : Held) (files : FilesSeen) (seen : InputSeen) (out : SinkSeen) (reached : Ended) → files.held_before ≡ Some held → ReachesBy (plan_of (check names)) files seen out reached → IsVerdict reached → EndsOnHeld names held reached
check_reached names held files seen out reached e (inl none) is =
    elim none.ends [
      | inl wanted ↦ absurd (high reached 12 is wanted.status (omega arith))
      | inr other ↦ elim other [ inl fails ↦ absurd (high reached 8 is fails.status (omega arith)) | inr long ↦ absurd (high reached 11 is long.status (omega arith)) ]
    ]
check_reached names held files seen out reached e (inr loaded) is =
    let does = loaded.does in
    elim does.ends [
      | inl answers ↦
          let sources = come_to does.sources in
          let input = answers.ends.input in
          let answer = answer_on checking.answer sources input in
          let same = told_answer answer (work_of checking.work (accepted sources) input) out seen answers.ends.left reached answers.ends.holds.ends is in
          record {
            texts = loaded.texts;
            are = held_texts files.held_before held names loaded.texts e loaded.loads.told;
            ends = record {
              refusal = answer.refusal;
              checked = record { sources = does.sources; are_read = does.are_read; is = same_refusal sources input };
              is = same.1;
              status = same.0 ∙ answer_status sources input;
            };
          }
      | inr saves ↦ absurd saves
    ]

-- `check` is no session of the listener
asked_check : (names : List (List ℕ)) → request_of (codes "check" ∷ names) ≡ asked (command_of (codes "check" ∷ names))
asked_check [] = refl
asked_check (name ∷ names) = refl

check_answered : (names : List (List ℕ)) (held : Held) (files : FilesSeen) (seen : InputSeen) (out notes : SinkSeen) (ended : Ended) (are : Bool) → files.held_before ≡ Some held → AnswersBy (asked (cond are (Some (check names)) None)) files seen out notes ended → IsVerdict ended → EndsOnHeld names held ended
check_answered names held files seen out notes ended false e answers is =
    elim answers.1 [
      | inl whole ↦ absurd (no_usage ended is (ap (λ (x : Ended). x.status) whole.same))
      | inr part ↦ absurd (high ended 10 is part.status (omega arith))
    ]
check_answered names held files seen out notes ended true e answers is =
    let same = told_verdict (numbered_names names) answers.0 ended notes answers.2 is in
    subst (λ (x : Ended). EndsOnHeld names held x) (sym same) (check_reached names held files seen out answers.0 e answers.1.ending (subst IsVerdict same is))

-- an explanation
explain_reached : (names : List (List ℕ)) (held : Held) (files : FilesSeen) (out : SinkSeen) (reached : Ended) → files.held_before ≡ Some held → Reaches names files out reached → IsVerdict reached → EndsOnHeld names held reached
explain_reached names held files out reached e (inl none) is =
    elim none.ends [
      | inl wanted ↦ absurd (high reached 12 is wanted.status (omega arith))
      | inr other ↦ elim other [ inl fails ↦ absurd (high reached 8 is fails.status (omega arith)) | inr long ↦ absurd (high reached 11 is long.status (omega arith)) ]
    ]
explain_reached names held files out reached e (inr loaded) is =
    let are = held_texts files.held_before held names loaded.texts e loaded.loads.told in
    elim loaded.does [
      | inl explains ↦ elim explains.ends [
        | inl written ↦ record {
          texts = loaded.texts;
          are = are;
          ends = record { refusal = explains.refusal; checked = explains.checked; is = ap (λ (x : Ended). x.refusal) written.ends; status = ap (λ (x : Ended). x.status) written.ends };
        }
        | inr fails ↦ absurd (high reached 10 is (ap (λ (x : Ended). x.status) fails.ends) (omega arith))
      ]
      | inr wanted ↦ absurd (high reached 12 is (ap (λ (x : Ended). x.status) wanted.ends) (omega arith))
    ]

explain_answered : (names : List (List ℕ)) (held : Held) (files : FilesSeen) (out notes : SinkSeen) (ended : Ended) (are : Bool) → files.held_before ≡ Some held → ExplainsBy are names files out notes ended → IsVerdict ended → EndsOnHeld names held ended
explain_answered names held files out notes ended false e usage is =
    elim usage.1 [
      | inl whole ↦ absurd (no_usage ended is (ap (λ (x : Ended). x.status) whole.same))
      | inr part ↦ absurd (high ended 10 is part.status (omega arith))
    ]
explain_answered names held files out notes ended true e works is =
    let same = told_verdict (numbered_names names) works.0 ended notes works.2 is in
    subst (λ (x : Ended). EndsOnHeld names held x) (sym same) (explain_reached names held files out works.0 e works.1 (subst IsVerdict same is))

-- of the same texts
both_ends : OneRefusal → (names : List (List ℕ)) (held : Held) (ended checked : Ended) → EndsOnHeld names held ended → EndsOnHeld names held checked → (ended.status ≡ checked.status) × (ended.refusal ≡ checked.refusal)
both_ends one names held ended checked is has =
    let texts = same_texts is.texts has.texts (sym is.are ∙ has.are) in
    let other = subst (λ (ts : List (List ℕ)). IsCheckedAs ts is.ends.refusal) texts is.ends.checked in
    let same = one has.texts is.ends.refusal has.ends.refusal other has.ends.checked in
    (is.ends.status ∙ ap status_if same ∙ sym has.ends.status, is.ends.is ∙ same ∙ sym has.ends.is)

pub explains_checked : OneRefusal → ExplainsAsChecked
explains_checked one names held files others seen out notes written told ended checked e f is has explains answers =
    both_ends one names held ended checked
    (explain_answered names held files out notes ended (are_files names) e explains is)
    (check_answered names held others seen written told checked (are_files names) f (subst (λ (r : Option Request). AnswersBy r others seen written told checked) (asked_check names) answers) has)
