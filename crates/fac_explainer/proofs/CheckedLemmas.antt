-- What `check` answers on texts that are called by their numbers.
use Rattle.std.proofs.Common.{◌≡◌, ◌≤◌, ◌<◌, ℕ, suc, ◌+◌, ◌^◌, List, [], ◌∷◌, ◌++◌, Bool, true, false, cond, None, Some, IfSome, IfOk, IsSomeAnd, Result, Ok, Err, ◌⊎◌, inl, inr, length, map, refl, sym, ap, subst, ◌∙◌, arith, length-append}
use Rattle.std.specs.Prelude.{codes}
use Rattle.std.specs.List.{concat, list_all}
use Rattle.std.specs.declared.option.Option.{Option}
use Rattle.std.proofs.lemmas.List.{map-append}
use Rattle.fac_io.specs.Names.{Held, bytes_of}
use Rattle.fac_command.specs.Command.{Request, work as working, work_of as asked, check, request_of, are_files, is_file_name}
use Rattle.fac_lang.specs.declared.program.Program.{Program}
use Rattle.fac_source.specs.declared.refusal.NameFault.{NameFault}
use Rattle.fac_check.specs.declared.refusal.Broken.{Broken}
use Rattle.fac_check.specs.Verdicts.{verdict}
use Rattle.fac_names.specs.Resolution.{resolved}
use Rattle.fac_notes.specs.declared.report.Report.{Report}
use Rattle.fac_tool.specs.declared.ended.Ended.{Ended}
use Rattle.fac_tool.specs.Answer.{Answer, Sources, no_tokens_in, no_tree_in, trees, answer_on, on_resolved, on_verdict, own_definitions, come_to, accepted, limit}
use Rattle.fac_tool.specs.Answers.{AnswersBy, Works, Reaches, ReachesBy, Tells, numbered_names}
use Rattle.fac_tool.specs.Ends.{Ending, Told, Usage, FileFault, InputFault, WriteFault, TooLong, NoMemory, ending_of, EndsBy, Work, work_of}
use Rattle.fac_tool.specs.Loads.{LoadsEnd, LoadTooLong}
use Rattle.fac_tool.specs.Plans.{checking, plan_of}
use Rattle.fac_tool.specs.Sources.{AreReadWithPrelude}
use Rattle.fac_tool.specs.SeenObjects.{SinkSeen, InputSeen, input_seen, output_seen}
use Rattle.fac_explainer.specs.CheckAnswers.{IsCheckedAs, check_answer}
use Rattle.fac_explainer.specs.inner.GivenTexts.{number_name, names_from, numbered_texts, AreNumbered}
use Rattle.fac_explainer.specs.inner.Steps.{ChecksGiven, IsSettled, given_files, silent_sink}
use Rattle.fac_explainer.proofs.GivenLemmas.{names_are, are_names, held_are, texts_again}

-- an ending that isn't settled
unsettled : (ended : Ended) (status : ℕ) → ended.status ≡ status → 0 < status → ended.refusal ≡ None → IsSettled ended → ⊥
unsettled ended status is some none (inl done) = omega (arith, is, some, done)
unsettled ended status is some none (inr why) = absurd (let same : None ≡ Some why.0 = sym none ∙ why.1 in cc)

-- one that is settled was told as it was reached
told_settled : (names : List (List ℕ)) (reached ended : Ended) → Tells names reached silent_sink ended → IsSettled ended → ended ≡ reached
told_settled names reached ended (inl (inl whole)) settled = whole.same
told_settled names reached ended (inl (inr part)) settled = absurd (omega (arith, part.rose))
told_settled names reached ended (inr none) settled =
    elim none.noted [
      | inl noted ↦ absurd (unsettled ended 12 (ap (λ (x : Ended). x.status) noted.same) (omega arith) (ap (λ (x : Ended). x.refusal) noted.same) settled)
      | inr part ↦ absurd (omega (arith, part.rose))
    ]

-- the refusal of an answer is the same on every input
same_verdict : (count : ℕ) (P : Program) (first : Option (ℕ × Broken)) (input : List ℕ) → (on_verdict checking.answer count P first input).refusal ≡ (on_verdict checking.answer count P first []).refusal
same_verdict count P None input = refl
same_verdict count P (Some first) input = refl

same_resolved : (count : ℕ) (r : Result Program NameFault) (input : List ℕ) → (on_resolved checking.answer count r input).refusal ≡ (on_resolved checking.answer count r []).refusal
same_resolved count (Err fault) input = refl
same_resolved count (Ok P) input = same_verdict count P (verdict P 0) input

pub same_refusal : (sources : Sources) (input : List ℕ) → (answer_on checking.answer sources input).refusal ≡ (answer_on checking.answer sources []).refusal
same_refusal (no_tokens_in file at why) input = refl
same_refusal (no_tree_in file at why) input = refl
same_refusal (trees files) input = same_resolved (own_definitions files) (resolved files) input

-- a settled ending is that of the answer
of_kind : (kind : Ending) (answer : Answer) (work : Work) (out : SinkSeen) (seen : InputSeen) (left : List ℕ) (ended : Ended) → EndsBy kind answer work out seen left ended → kind ≡ ending_of ended.status → IsSettled ended → ended.refusal ≡ answer.refusal
of_kind Told answer work out seen left ended h e settled = h.0.refusal
of_kind Usage answer work out seen left ended h e settled = absurd h
of_kind FileFault answer work out seen left ended h e settled = absurd h
of_kind TooLong answer work out seen left ended h e settled = absurd h
of_kind InputFault answer work out seen left ended h e (inl done) = absurd (let same : InputFault ≡ Told = e ∙ ap ending_of done in cc)
of_kind InputFault answer work out seen left ended h e (inr why) = absurd (let same : None ≡ Some why.0 = sym h.1.refusal ∙ why.1 in cc)
of_kind WriteFault answer work out seen left ended h e (inl done) = absurd (let same : WriteFault ≡ Told = e ∙ ap ending_of done in cc)
of_kind WriteFault answer work out seen left ended h e (inr why) = absurd (let same : None ≡ Some why.0 = sym h.1.refusal ∙ why.1 in cc)
of_kind NoMemory answer work out seen left ended h e (inl done) = absurd (let same : NoMemory ≡ Told = e ∙ ap ending_of done in cc)
of_kind NoMemory answer work out seen left ended h e (inr why) = absurd (let same : None ≡ Some why.0 = sym h.0.refusal ∙ why.1 in cc)

-- texts that begin so have at least these bytes
begin_so : (front : List (List ℕ)) (text : List ℕ) (behind : List (Option (List ℕ))) (texts : List (List ℕ)) → map Some texts ≡ map Some front ++ (Some text ∷ behind) → length (concat front) + length text ≤ length (concat texts)
begin_so [] text behind [] e = absurd (cc)
begin_so [] text behind (first ∷ texts) e =
    let same : first ≡ text = cc in let long : length (first ++ concat texts) ≡ length first + length (concat texts) = length-append first (concat texts) in let one : length first ≡ length text = ap length same in omega (arith, long, one)
begin_so (x ∷ front) text behind [] e = absurd (cc)
begin_so (x ∷ front) text behind (first ∷ texts) e =
    let same : first ≡ x = cc in
    let rest : map Some texts ≡ map Some front ++ (Some text ∷ behind) = cc in
    let more = begin_so front text behind texts rest in
    let long : length (first ++ concat texts) ≡ length first + length (concat texts) = length-append first (concat texts) in
    let other : length (x ++ concat front) ≡ length x + length (concat front) = length-append x (concat front) in
    let one : length first ≡ length x = ap length same in omega (arith, more, long, other, one)

pub same_texts : (texts others : List (List ℕ)) → map Some texts ≡ map Some others → texts ≡ others
same_texts [] [] e = refl
same_texts [] (x ∷ others) e = absurd (cc)
same_texts (x ∷ texts) [] e = absurd (cc)
same_texts (x ∷ texts) (y ∷ others) e =
    let first : x ≡ y = cc in
    let rest : map Some texts ≡ map Some others = cc in
    ap (λ (z : List ℕ). z ∷ texts) first ∙ ap (λ (zs : List (List ℕ)). y ∷ zs) (same_texts texts others rest)

-- texts of which no more than are read are never too long
never_long :
    (names : List (List ℕ)) (texts : List (List ℕ)) (held after : Held) (ended : Ended) → map held names ≡ map Some texts → length (concat texts) ≤ limit → LoadTooLong names limit (given_files held after) ended → ⊥
never_long names texts held after ended are within long = passes (held long.name) refl long.longer
  where
    passes : (r : Option (List ℕ)) → held long.name ≡ r → IsSomeAnd r (λ text. limit < length (concat long.texts) + length text) → ⊥
    passes None e h = absurd h
    passes (Some text) e h =
        let comes = long.comes in
        let parts : map held names ≡ map held comes.before ++ (held long.name ∷ map held comes.after) = ap (map held) comes.place ∙ map-append held comes.before (long.name ∷ comes.after) in
        let fronts : map held comes.before ++ (held long.name ∷ map held comes.after) ≡ map Some long.texts ++ (Some text ∷ map held comes.after) =
        ap (λ (xs : List (Option (List ℕ))). xs ++ (held long.name ∷ map held comes.after)) comes.told ∙ ap (λ (x : Option (List ℕ)). map Some long.texts ++ (x ∷ map held comes.after)) e in
        let most = begin_so long.texts text (map held comes.after) texts (sym are ∙ parts ∙ fronts) in
        omega (arith, most, within, h)

-- what a settled call of `check` comes to
of_work :
    (names texts : List (List ℕ)) (held after : Held) (seen : InputSeen) (out : SinkSeen) (reached : Ended) →
    map held names ≡ map Some texts → length (concat texts) ≤ limit → ReachesBy (plan_of (check names)) (given_files held after) seen out reached → IsSettled reached → IsCheckedAs texts reached.refusal
of_work names texts held after seen out reached are within (inl none) settled =
    elim none.ends [
      | inl wanted ↦ absurd (unsettled reached 12 wanted.status (omega arith) wanted.bare.refusal settled)
      | inr other ↦ elim other [ inl fails ↦ absurd (omega (arith, fails.rose)) | inr long ↦ absurd (never_long names texts held after reached are within long) ]
    ]
of_work names texts held after seen out reached are within (inr loaded) settled =
    let same : loaded.texts ≡ texts = same_texts loaded.texts texts (sym loaded.loads.told ∙ are) in
    let does = loaded.does in
    elim does.ends [
      | inl answers ↦
          let sources = come_to does.sources in
          let input = answers.ends.input in
          record {
            sources = does.sources;
            are_read = subst (λ (ts : List (List ℕ)). AreReadWithPrelude ts does.sources) same does.are_read;
            is = of_kind (ending_of reached.status) (answer_on checking.answer sources input) (work_of checking.work (accepted sources) input) out seen answers.ends.left reached answers.ends.holds.ends refl settled ∙ same_refusal sources input;
          }
      | inr saves ↦ absurd saves
    ]

-- the command of the words that name texts by their numbers
of_names :
    (texts : List (List ℕ)) (held after : Held) (seen : InputSeen) (out : SinkSeen) (ended : Ended) → map held (names_from 1 texts) ≡ map Some texts → length (concat texts) ≤ limit →
    AnswersBy (request_of (codes "check" ∷ names_from 1 texts)) (given_files held after) seen out silent_sink ended → IsSettled ended → IsCheckedAs texts ended.refusal
of_names [] held after seen out ended are within answers settled =
    elim answers.1 [
      | inl whole ↦ absurd (unsettled ended 2 (ap (λ (x : Ended). x.status) whole.same) (omega arith) (ap (λ (x : Ended). x.refusal) whole.same) settled)
      | inr part ↦ absurd (omega (arith, part.rose))
    ]
of_names (text ∷ texts) held after seen out ended are within answers settled =
    let names = names_from 1 (text ∷ texts) in
    let known : request_of (codes "check" ∷ names) ≡ Some (working (check names)) = ap (λ (are : Bool). asked (cond are (Some (check names)) None)) (are_names 1 (text ∷ texts)) in
    let works : Works (check names) (given_files held after) seen out silent_sink ended = subst (λ (c : Option Request). AnswersBy c (given_files held after) seen out silent_sink ended) known answers in
    let reached = works.0 in
    let same : ended ≡ reached = told_settled (numbered_names names) reached ended works.2 settled in
    let done : IsSettled reached = subst IsSettled same settled in
    subst (λ (x : Ended). IsCheckedAs (text ∷ texts) x.refusal) (sym same) (of_work names (text ∷ texts) held after seen out reached are within works.1.ending done)

-- what the top call says of texts that are numbered
pub checked_given :
    (given : List (List ℕ × List ℕ)) (texts words : List (List ℕ)) (ended : Ended) → AreNumbered given texts → words ≡ codes "check" ∷ map (λ pair. pair.0) given → ChecksGiven words (bytes_of given) ended → IsSettled ended → IsCheckedAs texts ended.refusal
checked_given given texts words ended numbered are checks settled =
    let held : Held = bytes_of given in
    let names : words ≡ codes "check" ∷ names_from 1 texts = are ∙ ap (λ (ps : List (List ℕ × List ℕ)). codes "check" ∷ map (λ pair. pair.0) ps) numbered.are ∙ ap (λ (xs : List (List ℕ)). codes "check" ∷ xs) (names_are 1 texts) in
    let found : map held (names_from 1 texts) ≡ map Some texts =
    ap (λ (ps : List (List ℕ × List ℕ)). map (bytes_of ps) (names_from 1 texts)) numbered.are ∙ held_are 1 texts (omega (arith, numbered.few)) in
    let answers = subst (λ (ws : List (List ℕ)). AnswersBy (request_of ws) (given_files held checks.after) (input_seen checks.before checks.now) (output_seen checks.before checks.now) silent_sink ended) names checks.answers in
    of_names texts held checks.after _ _ ended found numbered.within answers settled

pub given_checks :
    {E : Type 0} (given : List (List ℕ × List ℕ)) (words : List (List ℕ)) (ended : Ended) (r : Result (Option Report) E) → AreNumbered given (map (λ pair. pair.1) given) → words ≡ codes "check" ∷ map (λ pair. pair.0) given → ChecksGiven words (bytes_of given) ended →
    IfOk r (λ refusal. (refusal ≡ ended.refusal) × IsSettled ended) → IfOk r (IsCheckedAs (map (λ pair. pair.1) given))
given_checks given words ended (Err fault) numbered are checks settled = tt
given_checks given words ended (Ok refusal) numbered are checks settled =
    subst (IsCheckedAs (map (λ pair. pair.1) given)) (sym settled.0) (checked_given given (map (λ pair. pair.1) given) words ended numbered are checks settled.1)

-- and of these texts before they were numbered
pub checked_again : {E : Type 0} (given : List (List ℕ × List ℕ)) (texts : List (List ℕ)) (r : Result (Option Report) E) → given ≡ numbered_texts 1 texts → IfOk r (IsCheckedAs (map (λ pair. pair.1) given)) → IfOk r (IsCheckedAs texts)
checked_again given texts r e checked = subst (λ (ts : List (List ℕ)). IfOk r (IsCheckedAs ts)) (texts_again given texts e) checked
