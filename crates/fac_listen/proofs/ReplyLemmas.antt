-- What a line comes to, by what was answered of it and told.
use Rattle.std.proofs.Common.{◌≡◌, ◌<◌, ◌+◌, ◌-◌, ◌^◌, min, ℕ, List, [], ◌∷◌, ◌++◌, length, map, Bool, true, false, Option, Some, None, inl, inr, refl, sym, ap, ◌∙◌, subst}
use Rattle.std.specs.Prelude.{◌⊎◌}
use Rattle.fac_lines.specs.Channels.{ChannelsTold, CountsFaults}
use Rattle.fac_notes.specs.Notes.{line_of as note_of}
use Rattle.fac_notes.specs.Sources.{Source, no_tree}
use Rattle.fac_notes.specs.declared.report.Report.{Report}
use Rattle.fac_notes.specs.declared.report.Report.TheVariants as report
use Rattle.fac_parse.specs.declared.reader.Why.TheVariants.{End}
use Rattle.fac_session.specs.Heard.{file_names, most_ticks, ticks_of, told_of}
use Rattle.fac_session.proofs.LineLemmas.{lines_keep}
use Rattle.fac_session.specs.Laws.{RunsNothing, StandsBehind}
use Rattle.fac_session.specs.Sessions.{Session, meant}
use Rattle.fac_session.specs.SessionLines.{Said, more, defined, ran, refused, failed, spent, Behind, behind_waiting, line, with_waiting}
use Rattle.fac_judge.specs.TextSources.{OneSource}
use Rattle.fac_listener.specs.Replies.{AreSources, Cause, by_input, by_output, by_memory, IsAnswer, IsCutShort, IsInputFault, IsWriteFault, Replies, ends_session}
use Rattle.fac_listener.specs.StandingSessions.{Stands, has_ended}
use Rattle.fac_listener.specs.declared.reply.Reply.{Reply}
use Rattle.fac_listener.specs.declared.reply.Reply.TheVariants as reply
use Rattle.fac_listener.specs.declared.session.Session.{Session as SessionSeen}
use Rattle.fac_listen.specs.Devices.{DevicesStand, DevicesCount, devices_of}
use Rattle.fac_listen.specs.Fronts.{Front, with_last}
use Rattle.fac_listen.specs.Listens.{EndsCut, InputFailed, OutputFailed, notes_for}
use Rattle.fac_listen.specs.SessionNotes.{NotesTold, AreNoted, EndsByLine}
use Rattle.fac_listen.specs.declared.heard.Heard.{Heard}
use Rattle.fac_listen.specs.declared.hearing.Hearing.{Hearing}
use Rattle.fac_listen.specs.inner.Hearings.{GoesOnBehind, IsBehind, OnReply, Waits, ticks_behind, ticks_in, told_in, waits_in}
use Rattle.fac_listen.specs.inner.NextLines.{GoesOnWith, LineEnds, NoteEnds, TakesLine}
use Rattle.fac_listen.proofs.EmptyTexts.{empty_waits_never}
use Rattle.fac_listen.proofs.WaitingTexts.{WaitsFor, line_waits}

-- What waits behind a line.

waits_on : (source : List ℕ → Source) (text : List ℕ) (why : Report) → ((at : ℕ) → source [] ≡ no_tree at End → ⊥) → WaitsFor (source text) why → Waits source text (Some why)
waits_on source [] why never w = absurd (never w.at w.is)
waits_on source (b ∷ bs) why never w = (w.at, w.is, ap Some w.told)

waits_no_more : (source : List ℕ → Source) (waiting : List ℕ) → waiting ≡ [] → Waits source waiting None
waits_no_more source waiting none = subst (λ (text : List ℕ). Waits source text None) (sym none) refl

-- by what is said, which every line keeps
said_stands : (s : Session) (text input : List ℕ) (b : Behind) (said : Said) → b.said ≡ said → StandsBehind s text input b b.said → StandsBehind s text input b said
said_stands s text input b said e h = subst (λ (x : Said). StandsBehind s text input b x) e h

module _ (one : OneSource) (source : List ℕ → Source) (are : AreSources source) (s : Session) (bytes input : List ℕ) where
  abbrev the_line : Behind
  the_line = line source s bytes input

  kept : (said : Said) → the_line.said ≡ said → StandsBehind s (behind_waiting s.waiting bytes) input the_line said
  kept said e = said_stands s (behind_waiting s.waiting bytes) input the_line said e (lines_keep source s bytes input)

  waits_more : (why : Report) → the_line.said ≡ more why → Waits source the_line.session.waiting (Some why)
  waits_more why e =
      let stays : RunsNothing (with_waiting s (behind_waiting s.waiting bytes)) input the_line = kept (more why) e in
      let text : the_line.session.waiting ≡ behind_waiting s.waiting bytes = ap (λ (x : Session). x.waiting) stays.session in
      subst (λ (t : List ℕ). Waits source t (Some why)) (sym text) (waits_on source (behind_waiting s.waiting bytes) why (empty_waits_never one source are) (line_waits source s bytes input why e))

  waits_refused : (why : Report) → the_line.said ≡ refused why → Waits source the_line.session.waiting None
  waits_refused why e =
      let stays : RunsNothing (with_waiting s []) input the_line = kept (refused why) e in
      waits_no_more source the_line.session.waiting (ap (λ (x : Session). x.waiting) stays.session)

  waits_defined : the_line.said ≡ defined → Waits source the_line.session.waiting None
  waits_defined e = waits_no_more source the_line.session.waiting (kept defined e).waiting

  waits_ran : (n : ℕ) → the_line.said ≡ ran n → Waits source the_line.session.waiting None
  waits_ran n e = waits_no_more source the_line.session.waiting (kept (ran n) e)

  waits_failed : (why : Report) (n : ℕ) → the_line.said ≡ failed why n → Waits source the_line.session.waiting None
  waits_failed why n e = waits_no_more source the_line.session.waiting (kept (failed why n) e).waiting

  waits_spent : (n : ℕ) → the_line.said ≡ spent n → Waits source the_line.session.waiting None
  waits_spent n e = waits_no_more source the_line.session.waiting (kept (spent n) e).0.waiting

-- A line behind some lines, which left the code's session as in `mid`.
module _ (source : List ℕ → Source) (f : Front) (bytes input left : List ℕ) (before now : ChannelsTold) (notes_before notes_now : NotesTold) (mid new : Hearing) (names : mid.names ≡ file_names) (ticks : mid.ticks ≡ f.ticks) where
  abbrev this_line : Behind
  this_line = line source f.session bytes input

  -- the sum of the ticks
  sum_is : (r : Reply) (said : Said) → this_line.said ≡ said → ticks_of said ≡ ticks_in r → ticks_behind mid r ≡ (with_last f this_line).ticks
  sum_is r said e t =
      ap (λ n. min (n + ticks_in r) most_ticks) ticks ∙ ap (λ n. min (f.ticks + n) most_ticks) (sym (ap ticks_of e ∙ t))

  answered_on :
      (r : Reply) (said : Said) → IsAnswer this_line said before.output now.output mid.session left → ticks_of said ≡ ticks_in r → told_of said ≡ told_in r → Waits source this_line.session.waiting (waits_in r) →
      has_ended mid.session ≡ ends_session r → DevicesStand (devices_of before) (devices_of now) → GoesOnBehind mid new r notes_before notes_now → GoesOnWith source f this_line left (devices_of before) (devices_of now) notes_before notes_now new
  answered_on r said a t told waits ended counts g = record {
    behind = record {
      stands = subst (λ (c : SessionSeen). Stands this_line.session c) (sym g.session) a.stands;
      names = g.names ∙ names;
      waits = subst (λ (o : Option Report). Waits source this_line.session.waiting o) (sym g.waits) waits;
      ticks = g.ticks ∙ sum_is r said a.said_is t;
    };
    open_still = ap has_ended g.session ∙ ended ∙ g.stays;
    rest = a.left_is;
    output = a.output;
    counts = counts;
    noted =
        subst (λ (rs : List Report). AreNoted (notes_for rs) notes_before notes_now) (sym (ap told_of a.said_is ∙ told))
        (subst (λ (ns : List (List ℕ)). AreNoted (map (note_of ns) (told_in r)) notes_before notes_now) names g.noted);
  }

  note_ends :
      (r : Reply) (said : Said) (why : Report) (heard : Heard) → IsAnswer this_line said before.output now.output mid.session left → ticks_of said ≡ ticks_in r → told_of said ≡ why ∷ [] →
      DevicesStand (devices_of before) (devices_of now) → EndsByLine (note_of mid.names why) (ticks_behind mid r) notes_before notes_now heard → NoteEnds f this_line left (devices_of before) (devices_of now) notes_before notes_now heard
  note_ends r said why heard a t told counts e = record {
    why = why;
    told = ap told_of a.said_is ∙ told;
    rest = a.left_is;
    output = a.output;
    counts = counts;
    ends =
        subst (λ (n : ℕ). EndsByLine (note_of file_names why) n notes_before notes_now heard) (sum_is r said a.said_is t)
        (subst (λ (ns : List (List ℕ)). EndsByLine (note_of ns why) (ticks_behind mid r) notes_before notes_now heard) names e);
  }

  line_ends :
      (cause : Cause) (n : ℕ) (heard : Heard) → IsCutShort cause (meant f.session.known (length f.session.stack) (source (behind_waiting f.session.waiting bytes))) f.session input left n before.output now.output →
      EndsCut cause (min (mid.ticks + n) most_ticks) notes_before notes_now heard → DevicesCount (devices_of before) (devices_of now) (InputFailed cause) (OutputFailed cause) →
      LineEnds source f bytes input left (devices_of before) (devices_of now) notes_before notes_now heard
  line_ends cause n heard cut e counts = record {
    cause = cause;
    ticks = n;
    cut = cut;
    ends = subst (λ (k : ℕ). EndsCut cause (min (k + n) most_ticks) notes_before notes_now heard) ticks e;
    counts = counts;
  }

  stand_where_none : (r : Reply) → CountsFaults before now (IsInputFault r) (IsWriteFault r) → (IsInputFault r → ⊥) → (IsWriteFault r → ⊥) → DevicesStand (devices_of before) (devices_of now)
  stand_where_none r counts input output = record { input = counts.input.stays input; output = counts.output.stays output }

  counted : (r : Reply) → CountsFaults before now (IsInputFault r) (IsWriteFault r) → DevicesCount (devices_of before) (devices_of now) (IsInputFault r) (IsWriteFault r)
  counted r counts = record { input = counts.input; output = counts.output }

  module _ (one : OneSource) (are : AreSources source) where
    pub takes :
        (r : Reply) (result : Option Heard) → Replies source f.session bytes before.output now.output mid.session r input left → has_ended mid.session ≡ ends_session r → CountsFaults before now (IsInputFault r) (IsWriteFault r) →
        OnReply mid new r notes_before notes_now result → TakesLine source f bytes input left (devices_of before) (devices_of now) notes_before notes_now new result
    takes (reply.More why) None a ended counts g = answered_on (reply.More why) (more why) a refl refl (waits_more one source are f.session bytes input why a.said_is) ended (stand_where_none (reply.More why) counts (λ e. e) (λ e. e)) g
    takes (reply.More why) (Some heard) a ended counts g = absurd g
    takes reply.Defined None a ended counts g = answered_on reply.Defined defined a refl refl (waits_defined one source are f.session bytes input a.said_is) ended (stand_where_none reply.Defined counts (λ e. e) (λ e. e)) g
    takes reply.Defined (Some heard) a ended counts g = absurd g
    takes (reply.Ran n) None a ended counts g = answered_on (reply.Ran n) (ran n) a refl refl (waits_ran one source are f.session bytes input n a.said_is) ended (stand_where_none (reply.Ran n) counts (λ e. e) (λ e. e)) g
    takes (reply.Ran n) (Some heard) a ended counts g = absurd g
    takes (reply.Refused why) None a ended counts g = answered_on (reply.Refused why) (refused why) a refl refl (waits_refused one source are f.session bytes input why a.said_is) ended (stand_where_none (reply.Refused why) counts (λ e. e) (λ e. e)) g
    takes (reply.Refused why) (Some heard) a ended counts g = inl (note_ends (reply.Refused why) (refused why) why heard a refl refl (stand_where_none (reply.Refused why) counts (λ e. e) (λ e. e)) g)
    takes (reply.Failed why n) None a ended counts g = answered_on (reply.Failed why n) (failed why n) a refl refl (waits_failed one source are f.session bytes input why n a.said_is) ended (stand_where_none (reply.Failed why n) counts (λ e. e) (λ e. e)) g
    takes (reply.Failed why n) (Some heard) a ended counts g = inl (note_ends (reply.Failed why n) (failed why n) why heard a refl refl (stand_where_none (reply.Failed why n) counts (λ e. e) (λ e. e)) g)
    takes (reply.Spent n) None a ended counts g = answered_on (reply.Spent n) (spent n) a refl refl (waits_spent one source are f.session bytes input n a.said_is) ended (stand_where_none (reply.Spent n) counts (λ e. e) (λ e. e)) g
    takes (reply.Spent n) (Some heard) a ended counts g = inl (note_ends (reply.Spent n) (spent n) (report.Spent n) heard a refl refl (stand_where_none (reply.Spent n) counts (λ e. e) (λ e. e)) g)
    takes (reply.InputFault n) None a ended counts g = absurd (let stays : true ≡ false = g.stays in cc)
    takes (reply.InputFault n) (Some heard) a ended counts g = inr (line_ends by_input n heard a g (counted (reply.InputFault n) counts))
    takes (reply.WriteFault n) None a ended counts g = absurd (let stays : true ≡ false = g.stays in cc)
    takes (reply.WriteFault n) (Some heard) a ended counts g = inr (line_ends by_output n heard a g (counted (reply.WriteFault n) counts))
    takes (reply.Memory n) None a ended counts g = absurd (let stays : true ≡ false = g.stays in cc)
    takes (reply.Memory n) (Some heard) a ended counts g = inr (line_ends by_memory n heard a g (counted (reply.Memory n) counts))
